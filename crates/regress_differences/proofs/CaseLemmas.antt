-- Classes with the flag i, without u.
use Rattle.std.proofs.Common.{◌≡◌, ℕ, ◌<◌, ◌≤◌, ◌==◌, nat_le, nat_lt, Bool, true, false, not, ◌&&◌, ◌||◌, List, [], ◌∷◌, cond, refl, sym, ap, ap₂, ◌∙◌, arith}
use Rattle.std.specs.List.{list_any}
use Rattle.std.proofs.lemmas.Bool.{and_parts, false≢true, le-leb, leb-true, ltb-true}
use Rattle.regress_base.specs.Intervals.{Bounds, code_point_max, is_member}
use Rattle.regress_base.specs.Listing.{code_points}
use Rattle.regress_base.specs.Table.{Table, is_in_closure}
use Rattle.regress_base.specs.declared.types.Flags.{Flags}
use Rattle.regress_tree.specs.Assertions.{differ}
use Rattle.regress_syntax.specs.Meaning.{is_in_class}
use Rattle.regress_ecma.specs.CharacterMatchers.{is_found}
use Rattle.regress_ecma.specs.Characters.{canonicalize, has_some, upper_case}
use Rattle.regress_ecma.specs.Differences.{HasCaseDataOfUnicode, unlike}

any_same : {X : Type 0} (q r : X → Bool) → ((x : X) → q x ≡ r x) → (xs : List X) → list_any q xs ≡ list_any r xs
any_same q r same [] = refl
any_same q r same (x ∷ xs) = ap₂ (λ (a b : Bool). a || b) (same x) (any_same q r same xs)

some_same : (q r : ℕ → Bool) → ((c : ℕ) → q c ≡ r c) → (set : List Bounds) → has_some q set ≡ has_some r set
some_same q r same set =
    any_same (λ interval. list_any q (code_points interval)) (λ interval. list_any r (code_points interval)) (λ interval. any_same q r same (code_points interval)) set

module _ (table : Table) (maps : HasCaseDataOfUnicode table) (flags : Flags) (icase : flags.icase ≡ true) (no_u : flags.unicode ≡ false)
    (no_v : flags.unicode_sets ≡ false) where
  -- The upper case of the table is that of the standard.
  upper : (c : ℕ) → upper_case table flags c ≡ table.uppercase c
  upper c = by_test (nat_le 128 c && nat_lt (table.uppercase c) 128) refl
    where
      by_test : (b : Bool) → (nat_le 128 c && nat_lt (table.uppercase c) 128) ≡ b → cond b c (table.uppercase c) ≡ table.uppercase c
      by_test true e =
          let parts = and_parts (nat_le 128 c) (nat_lt (table.uppercase c) 128) e in
          let high : 128 ≤ table.uppercase c = maps.upper_ascii c (leb-true 128 c parts.0) in
          let low : table.uppercase c < 128 = ltb-true (table.uppercase c) 128 parts.1 in
          absurd (omega (arith, high, low))
      by_test false e = refl

  uppers : (c : ℕ) → canonicalize table flags c ≡ table.uppercase c
  uppers c = by flags.icase flags.unicode flags.unicode_sets icase no_u no_v
    where
      by : (i u v : Bool) → i ≡ true → u ≡ false → v ≡ false →
          cond ((u || v) && i) (table.fold c) (cond (not i) c (upper_case table flags c)) ≡ table.uppercase c
      by true false false on none neither = upper c
      by true true v on none neither = absurd (false≢true (sym none))
      by true false true on none neither = absurd (false≢true (sym neither))
      by false u v on none neither = absurd (false≢true on)

  -- a class, for a character that has the same case variants with and without u
  pub class_same : (inverted : Bool) (members : List Bounds) (c : ℕ) → c ≤ code_point_max → is_member unlike c ≡ false →
      differ inverted (is_found table flags members c) ≡ is_in_class table flags inverted members c
  unfolding is_in_closure
  class_same inverted members c le like =
      ap (λ (i : Bool). differ inverted (cond i (has_some (λ a. canonicalize table flags a == canonicalize table flags c) members) (is_member members c))) icase
      ∙ ap (differ inverted) found
      ∙ sym (ap (λ (i : Bool). differ inverted (cond i (is_in_closure table members c) (is_member members c))) icase)
    where
      variants : (a : ℕ) → (canonicalize table flags a == canonicalize table flags c) ≡ (table.fold a == table.fold c)
      variants a = ap₂ (λ (x y : ℕ). x == y) (uppers a) (uppers c) ∙ maps.same_variants c a like

      found : has_some (λ a. canonicalize table flags a == canonicalize table flags c) members ≡ is_in_closure table members c
      found =
          some_same (λ a. canonicalize table flags a == canonicalize table flags c) (λ a. table.fold a == table.fold c) variants members
          ∙ sym (ap (λ (b : Bool). b && has_some (λ a. table.fold a == table.fold c) members) (le-leb c code_point_max le))
