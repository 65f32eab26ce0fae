-- Strings of characters without case.
use Rattle.std.proofs.Common.{◌≡◌, ℕ, ◌==◌, Bool, true, false, ◌&&◌, List, [], ◌∷◌, reverse, refl, sym, ap, ap₂, ◌∙◌, arith}
use Rattle.std.specs.List.{list_all}
use Rattle.std.proofs.lemmas.Bool.{eqb-true}
use Rattle.std.proofs.lemmas.Bool.Decides.{nat_tests}
use Rattle.std.proofs.lemmas.List.{reverse-append}
use Rattle.std.proofs.lemmas.List.Folds.{list_all-append}
use mathlib.Core.Path.{fun_ext}
use Rattle.regress_base.specs.Table.{canonicalize, denotes}
use Rattle.regress_tree.specs.Matching.{steps}
use Rattle.regress_tree.specs.Reading.{Direction, forwards, backwards, Reading, of_bytes}
use Rattle.regress_tree.specs.References.{all_of, any_string, in_order}
use Rattle.regress_tree.specs.Steps.{MatchState, Setting, fail, ◌then_◌, ◌or_◌, one_character}
use Rattle.regress_tree.specs.Tree.{leaf, string_set}
use Rattle.regress_unicode.specs.Caseless.{is_caseless}
use Rattle.regress_leaves.specs.Known.{HasAsciiCase}

and_both : (a b : Bool) → (a && b) ≡ true → (a ≡ true) × (b ≡ true)
and_both true b is = (refl, is)
and_both false b is = let bad : ⊥ = cc in absurd bad

-- a character without case matches itself alone
alone : (setting : Setting) → HasAsciiCase setting → (c x : ℕ) → is_caseless c ≡ true →
    denotes setting.table true setting.flags.unicode c x ≡ denotes setting.table false setting.flags.unicode c x
alone setting has c x is =
    let f = canonicalize setting.table setting.flags.unicode in
    by f (f x == f c) refl (λ e. has.caseless.caseless c x is (eqb-true (f x) (f c) e))
  where
    by : (f : ℕ → ℕ) (b : Bool) → (f x == f c) ≡ b → (b ≡ true → x ≡ c) → (f x == f c) ≡ (x == c)
    by f true e same = let eq : x ≡ c = same refl in grind (arith, nat_tests, e, eq)
    by f false e same = by_other (x == c) refl
      where
        by_other : (b : Bool) → (x == c) ≡ b → (f x == f c) ≡ (x == c)
        by_other true is' = let eq : x ≡ c = eqb-true x c is' in
            let bad : ⊥ = grind (arith, nat_tests, e, ap f eq) in absurd bad
        by_other false is' = e ∙ sym is'

module _ (d : Direction) (r : Reading) (same same' : ℕ → ℕ → Bool) (agree : (c x : ℕ) → is_caseless c ≡ true → same c x ≡ same' c x) where
  all_agree : (cs : List ℕ) → list_all is_caseless cs ≡ true → all_of d r same cs ≡ all_of d r same' cs
  all_agree [] are = refl
  all_agree (c ∷ cs) are =
      let both = and_both (is_caseless c) (list_all is_caseless cs) are in
      ap₂ (λ f g. f then_ g) (ap (one_character d r) (fun_ext (λ x. agree c x both.0))) (all_agree cs both.1)

reverse_caseless : (cs : List ℕ) → list_all is_caseless cs ≡ true → list_all is_caseless (reverse cs) ≡ true
reverse_caseless [] are = refl
reverse_caseless (c ∷ cs) are =
    let both = and_both (is_caseless c) (list_all is_caseless cs) are in
    ap (list_all is_caseless) (reverse-append (c ∷ []) cs) ∙ list_all-append is_caseless (reverse cs) (c ∷ [])
    ∙ ap₂ (λ x y. x && (y && true)) (reverse_caseless cs both.1) both.0

order_caseless : (d : Direction) (cs : List ℕ) → list_all is_caseless cs ≡ true → list_all is_caseless (in_order d cs) ≡ true
order_caseless forwards cs are = are
order_caseless backwards cs are = reverse_caseless cs are

-- A string of characters without case matches ignoring case what it matches exactly.
pub caseless_steps : (setting : Setting) → HasAsciiCase setting → (string : List ℕ) → list_all is_caseless string ≡ true →
    (bytes : List ℕ) (d : Direction) (s : MatchState) →
    steps setting bytes d (leaf (string_set (string ∷ []) true)) s ≡ steps setting bytes d (leaf (string_set (string ∷ []) false)) s
unfolding any_string
caseless_steps setting has string are bytes d s =
    let same = denotes setting.table true setting.flags.unicode in
    let same' = denotes setting.table false setting.flags.unicode in
    ap (λ f. (f or_ fail) s) (all_agree d (of_bytes bytes) same same' (alone setting has) (in_order d string) (order_caseless d string are))
