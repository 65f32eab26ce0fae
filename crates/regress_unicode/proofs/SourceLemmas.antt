-- The code points with a given canonical form: it itself, and those that an entry maps to it.
use Rattle.std.proofs.Common.{◌≡◌, ℕ, ◌+◌, ◌-◌, ◌%◌, ◌<◌, Bool, true, false, ◌&&◌, ◌||◌, ◌==◌, IsTrue, List, [], ◌∷◌, length, take, get_or, cond, inl, inr, refl, sym, ap, subst, ◌∙◌, arith}
use Rattle.std.proofs.lemmas.Bool.{cases_eq, eq-eqb}
use Rattle.std.proofs.lemmas.Bool.Decides.{nat_tests}
use Rattle.std.proofs.lemmas.List.Folds.{list_any_more}
use Rattle.std.proofs.Math.Bool.{or-false}
use Rattle.regress_unicode.specs.FoldEntries.{FoldEntry, moved, is_in_mapping, mapped_in_mapping, is_source, has_source, mapped}
use Rattle.regress_unicode.specs.ValidEntries.{is_in_order_from}
use Rattle.regress_unicode.proofs.ListLemmas.{order_parts, below_mapped}

pub has_source-nil : (target c : ℕ) → has_source [] target c ≡ false
unfolding has_source
has_source-nil target c = refl

-- no entry maps a code point below all entries
below_source : (low : ℕ) (mappings : List FoldEntry) (target c : ℕ) → IsTrue (is_in_order_from low mappings) → c < low →
    has_source mappings target c ≡ false
unfolding has_source
below_source low [] target c h lt = refl
below_source low (mapping ∷ mappings) target c h lt =
    let parts = order_parts low mapping mappings h in
    let rest = below_source (mapping.start + mapping.length) mappings target c parts.rest (omega (arith, parts.above)) in
    grind (arith, nat_tests, parts.above, rest)

-- a canonical form is its own canonical form also under the entries after the first
own_later : (low : ℕ) (mapping : FoldEntry) (mappings : List FoldEntry) (target : ℕ) → IsTrue (is_in_order_from low (mapping ∷ mappings)) →
    mapped (mapping ∷ mappings) target ≡ target → mapped mappings target ≡ target
unfolding mapped
own_later low mapping mappings target h own = by_mapping (is_in_mapping mapping target) refl own
  where
    by_mapping : (b : Bool) → is_in_mapping mapping target ≡ b → cond b (mapped_in_mapping mapping target) (mapped mappings target) ≡ target →
        mapped mappings target ≡ target
    by_mapping true e own = below_mapped (mapping.start + mapping.length) mappings target (order_parts low mapping mappings h).rest (grind (arith, nat_tests, e))
    by_mapping false e own = own

-- a canonical form is mapped to itself by its own entry
own_in_mapping : (mapping : FoldEntry) (mappings : List FoldEntry) (target : ℕ) → mapped (mapping ∷ mappings) target ≡ target → is_in_mapping mapping target ≡ true →
    mapped_in_mapping mapping target ≡ target
unfolding mapped
own_in_mapping mapping mappings target own e = rw e at own

pub has_mapped : (low : ℕ) (mappings : List FoldEntry) (target c : ℕ) → IsTrue (is_in_order_from low mappings) → mapped mappings target ≡ target →
    (mapped mappings c == target) ≡ ((c == target) || has_source mappings target c)
unfolding mapped has_source
has_mapped low [] target c h own = grind (arith, nat_tests)
has_mapped low (mapping ∷ mappings) target c h own =
    by_mapping (is_in_mapping mapping c) refl
    (λ e. below_source (mapping.start + mapping.length) mappings target c (order_parts low mapping mappings h).rest (grind (arith, nat_tests, e)))
    (has_mapped (mapping.start + mapping.length) mappings target c (order_parts low mapping mappings h).rest (own_later low mapping mappings target h own))
  where
    in_list : (t : Bool) → ((c - mapping.start) % mapping.modulo == 0) ≡ t → is_in_mapping mapping c ≡ true →
        (cond t (moved mapping.delta c) c == target) ≡ ((c == target) || (t && (moved mapping.delta c == target)))
    in_list false aligned e = grind (arith, nat_tests)
    in_list true aligned e = elim (cases_eq c target) [
      | inl same ↦ (
          let at_target : is_in_mapping mapping target ≡ true = subst (λ (k : ℕ). is_in_mapping mapping k ≡ true) same e in
          let stays = own_in_mapping mapping mappings target own at_target in
          let aligned_target : ((target - mapping.start) % mapping.modulo == 0) ≡ true = subst
          (λ (k : ℕ). ((k - mapping.start) % mapping.modulo == 0) ≡ true) same aligned in
          let goes : moved mapping.delta target ≡ target = rw aligned_target at stays in
          let here : moved mapping.delta c ≡ target = subst (λ (k : ℕ). moved mapping.delta k ≡ target) (sym same) goes in
          let yes : (moved mapping.delta c == target) ≡ true = eq-eqb (moved mapping.delta c) target here in
          let yes' : (c == target) ≡ true = eq-eqb c target same in
          rw (yes, yes'))
      | inr other ↦ (let no : (c == target) ≡ false = grind (arith, nat_tests, other) in rw no)
    ]

    by_mapping : (b : Bool) → is_in_mapping mapping c ≡ b → (is_in_mapping mapping c ≡ true → has_source mappings target c ≡ false) →
        (mapped mappings c == target) ≡ ((c == target) || has_source mappings target c) →
        (cond b (mapped_in_mapping mapping c) (mapped mappings c) == target) ≡
        ((c == target) || ((b && (((c - mapping.start) % mapping.modulo == 0) && (moved mapping.delta c == target))) || has_source mappings target c))
    by_mapping true e none rest = rw (none e, or-false (((c - mapping.start) % mapping.modulo == 0) && (moved mapping.delta c == target)))
        (in_list ((c - mapping.start) % mapping.modulo == 0) refl e)
    by_mapping false e none rest = rest

-- one more entry
pub has_source-more : (mappings : List FoldEntry) (i target c : ℕ) (mapping : FoldEntry) → i < length mappings → mapping ≡ get_or mappings i mapping →
    has_source (take (i + 1) mappings) target c ≡ (has_source (take i mappings) target c || is_source mapping target c)
unfolding has_source
has_source-more mappings i target c mapping lt is =
    list_any_more (λ r. is_source r target c) mappings i mapping lt ∙ ap (λ r. has_source (take i mappings) target c || is_source r target c) (sym is)

-- one more entry that maps nothing to the target
pub has_source-no_more : (mappings : List FoldEntry) (i target c : ℕ) (mapping : FoldEntry) → i < length mappings → mapping ≡ get_or mappings i mapping →
    is_source mapping target c ≡ false → has_source (take i mappings) target c ≡ has_source (take (i + 1) mappings) target c
has_source-no_more mappings i target c mapping lt is none =
    sym (has_source-more mappings i target c mapping lt is ∙ ap (λ b. has_source (take i mappings) target c || b) none ∙ or-false _)
