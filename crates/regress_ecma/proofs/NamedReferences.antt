-- References by name to several groups, of which at most one is set.
use Rattle.std.proofs.Common.{◌≡◌, ℕ, suc, ◌+◌, ◌-◌, ◌≤◌, Bool, true, false, List, [], ◌∷◌, ◌++◌, flat_map, get_or, Option, Some, None, is_some, All, if◌then◌else◌, refl, sym, ap, ap₂, subst, ◌∙◌, arith, append-nil}
use Rattle.std.proofs.lemmas.List.Elements.{All-nil, All-cons, All-head, All-tail, All-weaker}
use Rattle.regress_base.specs.Table.{Table}
use Rattle.regress_base.specs.declared.types.Flags.{Flags}
use Rattle.regress_tree.specs.Reading.{Direction, of_characters}
use Rattle.regress_tree.specs.References.{back_reference, match_again}
use Rattle.regress_tree.specs.Steps as Steps
use Rattle.regress_tree.specs.Steps.{CaptureSpan, IsStateOf, stay}
use Rattle.regress_tree.proofs.lemmas.Simulation.{IsReached}
use Rattle.regress_syntax.specs.Meaning.{each_reference}
use Rattle.regress_syntax.specs.Syntax.{Name, is_named, groups_named}
use Rattle.regress_ecma.specs.Notation.{CaptureRange, MatchResult, Continuation}
use Rattle.regress_ecma.specs.CharacterMatchers.{is_same, range_of_any, match_range, backreference_matcher}
use Rattle.regress_ecma.specs.Compared.{state_on}
use Rattle.regress_ecma.proofs.Bridge.{first_result, AgreesOn, or_failure, reached_itself, reached_by_both, flat_map-all}
use Rattle.regress_ecma.proofs.BackReferences.{Agrees-back_reference}
use Rattle.regress_ecma.proofs.SetGroups.{is_set, same_name-both, IsApart, HasNames, all_names}
use Rattle.regress_ecma.proofs.Untouched.{IsUntouched, back_reference-leaves}

-- ---- lists of groups, by their numbers from 1

-- whether the group is set
abbrev is_set_in : List (Option CaptureSpan) → ℕ → Bool
is_set_in captures k = is_some (get_or captures (k - 1) None)

abbrev AllUnset : List (Option CaptureSpan) → List ℕ → Type 0
AllUnset captures [] = Unit {0}
AllUnset captures (k ∷ ks) = (get_or captures (k - 1) None ≡ None) × AllUnset captures ks

abbrev pub AtMostOne : List (Option CaptureSpan) → List ℕ → Type 0
AtMostOne captures [] = Unit {0}
AtMostOne captures (k ∷ ks) = (is_set_in captures k ≡ true → AllUnset captures ks) × AtMostOne captures ks

module _ (table : Table) (rer : Flags) (text : List ℕ) (same : ℕ → ℕ → Bool) (equal : (a b : ℕ) → is_same table rer a b ≡ same a b)
    (d : Direction) where
  abbrev refer : ℕ → Steps.Matcher
  refer k = back_reference d (of_characters text) same (k - 1)

  abbrev again : Option CaptureSpan → Steps.Matcher
  again = match_again d (of_characters text) same

  -- References to groups that are not set match the empty text.
  all_stay : (ks : List ℕ) (s : Steps.MatchState) → AllUnset s.captures ks → each_reference refer ks s ≡ s ∷ []
  unfolding back_reference
  all_stay [] s unset = refl
  all_stay (k ∷ ks) s unset =
      ap (λ (o : Option CaptureSpan). flat_map (each_reference refer ks) (again o s)) unset.0
      ∙ append-nil (each_reference refer ks s) ∙ all_stay ks s unset.1

  each_stays : (ks : List ℕ) (captures : List (Option CaptureSpan)) → AllUnset captures ks → (states : List Steps.MatchState) →
      All (IsUntouched captures) states → flat_map (each_reference refer ks) states ≡ states
  each_stays ks captures unset [] all = refl
  each_stays ks captures unset (t ∷ states) all =
      ap₂ (λ (xs ys : List Steps.MatchState). xs ++ ys)
      (all_stay ks t (subst (λ (cs : List (Option CaptureSpan)). AllUnset cs ks) (sym (All-head (IsUntouched captures) t states all)) unset))
      (each_stays ks captures unset states (All-tail (IsUntouched captures) t states all))

  abbrev range_of : List (Option CaptureSpan) → List ℕ → Option CaptureRange
  range_of = range_of_any table rer

  abbrev by_range : Steps.MatchState → Continuation → Option CaptureRange → MatchResult
  by_range s c range =
      elim range as (λ _. MatchResult) [ None ↦ c (state_on text s) | Some r ↦ match_range table rer d r (state_on text s) c ]

  first_set : (ks : List ℕ) (k : ℕ) (s : Steps.MatchState) (c : Continuation) → IsStateOf text s → (o : Option CaptureSpan) →
      get_or s.captures (k - 1) None ≡ o → (is_some o ≡ true → AllUnset s.captures ks) →
      by_range s c (range_of s.captures ks) ≡ first_result text c (each_reference refer ks s) →
      by_range s c (range_of s.captures (k ∷ ks)) ≡ first_result text c (each_reference refer (k ∷ ks) s)
  unfolding back_reference backreference_matcher
  first_set ks k s c in' None is others later =
      ap (λ (o : Option CaptureSpan). by_range s c (elim o as (λ _. Option CaptureRange) [ Some r ↦ Some r | None ↦ range_of s.captures ks ])) is
      ∙ later
      ∙ ap (first_result text c) (sym (append-nil (each_reference refer ks s)))
      ∙ ap (λ (o : Option CaptureSpan). first_result text c (flat_map (each_reference refer ks) (again o s))) (sym is)
  first_set ks k s c in' (Some r) is others later =
      ap (λ (o : Option CaptureSpan). by_range s c (elim o as (λ _. Option CaptureRange) [ Some r ↦ Some r | None ↦ range_of s.captures ks ])) is
      ∙ ap (λ (o : Option CaptureSpan). by_range s c (elim o as (λ _. Option CaptureRange) [ Some r ↦ Some r | None ↦ None ])) (sym is)
      ∙ (Agrees-back_reference table rer text same equal d k).same s in' c
      ∙ ap (first_result text c) (sym (each_stays ks s.captures (others refl) (refer k s) (back_reference-leaves d (of_characters text) same (k - 1) s)))

  any_set : (ks : List ℕ) (s : Steps.MatchState) (c : Continuation) → IsStateOf text s → AtMostOne s.captures ks →
      by_range s c (range_of s.captures ks) ≡ first_result text c (each_reference refer ks s)
  any_set [] s c in' one = sym (or_failure (c (state_on text s)))
  any_set (k ∷ ks) s c in' one = first_set ks k s c in' (get_or s.captures (k - 1) None) refl one.0 (any_set ks s c in' one.1)

  each_reached : (ks : List ℕ) (s : Steps.MatchState) → IsStateOf text s → All (IsReached text d s) (each_reference refer ks s)
  each_reached [] s in' = reached_itself text d s in'
  each_reached (k ∷ ks) s in' =
      flat_map-all (IsReached text d s) (IsReached text d s) (each_reference refer ks)
      (λ t first.
      All-weaker (IsReached text d t) (IsReached text d s) (λ u. reached_by_both text d s t u first) (each_reference refer ks t)
      (each_reached ks t first.state))
      (refer k s) ((Agrees-back_reference table rer text same equal d k).reached s in')

  -- In states in which at most one of the groups is set, the references one after the other match what that one has captured.
  pub AgreesOn-each_reference : (ks : List ℕ) (P : Steps.MatchState → Type 0) → ((s : Steps.MatchState) → P s → IsStateOf text s) →
      ((s : Steps.MatchState) → P s → AtMostOne s.captures ks) →
      AgreesOn text P (IsReached text d) (each_reference refer ks) (backreference_matcher table rer ks d)
  unfolding backreference_matcher
  AgreesOn-each_reference ks P in' one = record {
    same = λ s h c. any_set ks s c (in' s h) (one s h);
    reached = λ s h. each_reached ks s (in' s h);
  }

-- ---- the groups of a name

module _ (all : List (Option Name)) (text : List ℕ) (name : Name) where
  -- a group from n on, by its number from 1, that has the name
  abbrev IsNamed : ℕ → ℕ → Type 0
  IsNamed n k = (n ≤ k) × (is_named name (get_or all (k - 1) None) ≡ true)

  names_after : (n : ℕ) (x : Option Name) (xs : List (Option Name)) → HasNames all text n (x ∷ xs) → HasNames all text (n + 1) xs
  names_after n x xs names = record {
    at = λ i within.
        let there : (n + 1) + i ≡ n + suc i = omega arith in
        ap (λ (j : ℕ). get_or all j None) there ∙ names.at (suc i) (omega arith);
  }

  first_name : (n : ℕ) (x : Option Name) (xs : List (Option Name)) → HasNames all text n (x ∷ xs) → get_or all n None ≡ x
  first_name n x xs names =
      let here : n ≡ n + 0 = omega arith in
      ap (λ (j : ℕ). get_or all j None) here ∙ names.at 0 (omega arith)

  named : (n : ℕ) (xs : List (Option Name)) → HasNames all text n xs → All (IsNamed (n + 1)) (groups_named name (n + 1) xs)
  named n [] names = All-nil (IsNamed (n + 1))
  named n (x ∷ xs) names =
      by_test (is_named name x) refl
      (All-weaker (IsNamed ((n + 1) + 1)) (IsNamed (n + 1)) (λ k is. (omega (arith, is.0), is.1)) (groups_named name ((n + 1) + 1) xs)
      (named (n + 1) xs (names_after n x xs names)))
    where
      by_test : (b : Bool) → is_named name x ≡ b → All (IsNamed (n + 1)) (groups_named name ((n + 1) + 1) xs) →
          All (IsNamed (n + 1)) (if b then (n + 1) ∷ groups_named name ((n + 1) + 1) xs else groups_named name ((n + 1) + 1) xs)
      by_test false is later = later
      by_test true is later =
          let back : (n + 1) - 1 ≡ n = omega arith in
          All-cons (IsNamed (n + 1)) (n + 1) (groups_named name ((n + 1) + 1) xs)
          (omega arith, ap (λ (j : ℕ). is_named name (get_or all j None)) back ∙ ap (is_named name) (first_name n x xs names) ∙ is) later

  module _ (s : Steps.MatchState) (apart : IsApart all text s) where
    others_unset : (n : ℕ) → is_named name (get_or all n None) ≡ true → is_set s n ≡ true → (ks : List ℕ) → All (IsNamed ((n + 1) + 1)) ks →
        AllUnset s.captures ks
    others_unset n is set [] every = tt
    others_unset n is set (k ∷ ks) every =
        (unset (get_or s.captures (k - 1) None) refl, others_unset n is set ks (All-tail (IsNamed ((n + 1) + 1)) k ks every))
      where
        here : IsNamed ((n + 1) + 1) k
        here = All-head (IsNamed ((n + 1) + 1)) k ks every

        unset : (o : Option CaptureSpan) → get_or s.captures (k - 1) None ≡ o → get_or s.captures (k - 1) None ≡ None
        unset None e = e
        unset (Some span) e =
            let same = apart.one n (k - 1) (same_name-both name (get_or all n None) (get_or all (k - 1) None) is here.1) set (ap is_some e) in
            absurd (omega (arith, same, here.0))

    one_named : (n : ℕ) (xs : List (Option Name)) → HasNames all text n xs → AtMostOne s.captures (groups_named name (n + 1) xs)
    one_named n [] names = tt
    one_named n (x ∷ xs) names = by_test (is_named name x) refl (one_named (n + 1) xs (names_after n x xs names))
      where
        by_test : (b : Bool) → is_named name x ≡ b → AtMostOne s.captures (groups_named name ((n + 1) + 1) xs) →
            AtMostOne s.captures (if b then (n + 1) ∷ groups_named name ((n + 1) + 1) xs else groups_named name ((n + 1) + 1) xs)
        by_test false is later = later
        by_test true is later =
            let back : (n + 1) - 1 ≡ n = omega arith in (
              λ set.
                  others_unset n (ap (is_named name) (first_name n x xs names) ∙ is)
                  (ap (λ (j : ℕ). is_some (get_or s.captures j None)) (sym back) ∙ set) (groups_named name ((n + 1) + 1) xs)
                  (named (n + 1) xs (names_after n x xs names)),
              later,
            )

    pub at_most_one : AtMostOne s.captures (groups_named name 1 all)
    at_most_one = one_named 0 all (all_names all text)
