-- Strings of a class, character by character, and their alternatives.
use Rattle.std.proofs.Common.{◌≡◌, ℕ, zero, suc, ◌+◌, ◌==◌, Bool, true, false, not, List, [], ◌∷◌, ◌++◌, length, map, filter, reverse, All, if◌then◌else◌, refl, sym, ap, subst, ◌∙◌, arith, append-nil, append_assoc}
use Rattle.std.specs.List.{concat}
use Rattle.std.proofs.lemmas.Bool.{false≢true, ne_eqb}
use Rattle.std.proofs.lemmas.List.{reverse-append}
use Rattle.regress_base.specs.Table.{Table}
use Rattle.regress_base.specs.declared.types.Flags.{Flags}
use Rattle.regress_tree.specs.Reading.{Direction, forwards, backwards, of_characters}
use Rattle.regress_tree.specs.References.{all_of, in_order, any_string}
use Rattle.regress_tree.specs.Steps as Steps
use Rattle.regress_tree.specs.Steps.{IsStateOf, stay, fail, ◌then_◌, ◌or_◌}
use Rattle.regress_tree.proofs.lemmas.Outcomes.{flat_map-stay}
use Rattle.regress_tree.proofs.lemmas.Simulation.{IsReached}
use Rattle.regress_lexer.specs.Source.{IsCodePoint}
use Rattle.regress_syntax.specs.Meaning.{shorter_than, longest_first}
use Rattle.regress_ecma.specs.Notation.{CharSet, Matcher}
use Rattle.regress_ecma.specs.CharacterMatchers.{character_set_matcher}
use Rattle.regress_ecma.specs.Atoms.{one_character, descending, alternatives, string_matcher, compile_strings}
use Rattle.regress_ecma.proofs.Bridge.{first_result, Agrees, Agrees-empty, Agrees-or, Agrees-then}
use Rattle.regress_ecma.proofs.BackReferences.{all_of-snoc}
use Rattle.regress_ecma.proofs.CharacterSets.{IsSetOf, Agrees-character}

-- The same outcomes at each state.
pub Agrees-same : (text : List ℕ) (d : Direction) (f g : Steps.Matcher) (m : Matcher) → ((s : Steps.MatchState) → f s ≡ g s) → Agrees text d f m →
    Agrees text d g m
Agrees-same text d f g m same agrees = record {
  same = λ s in' c. agrees.same s in' c ∙ ap (first_result text c) (same s);
  reached = λ s in'. subst (All (IsReached text d s)) (same s) (agrees.reached s in');
}

pub descending-same : (n : ℕ) (strings : List (List ℕ)) → descending n strings ≡ shorter_than n strings
descending-same zero strings = refl
descending-same (suc n) strings = ap (λ (rest : List (List ℕ)). filter (λ s. length s == n) strings ++ rest) (descending-same n strings)

module _ (table : Table) (rer : Flags) (text : List ℕ) (is_text : All IsCodePoint text) (d : Direction) (same : ℕ → ℕ → Bool) where
  abbrev one_of : ℕ → Steps.Matcher
  one_of c = Steps.one_character d (of_characters text) (same c)

  module _ (literals : (c : ℕ) → IsSetOf table rer (one_character c) false (same c)) where
    character_agrees : (c : ℕ) → Agrees text d (one_of c) (character_set_matcher table rer (one_character c) false d)
    character_agrees c = Agrees-character table rer (one_character c) false (same c) text is_text (literals c) d

    last_agrees : (c : ℕ) → Agrees text d (all_of d (of_characters text) same (c ∷ [])) (character_set_matcher table rer (one_character c) false d)
    last_agrees c =
        Agrees-same text d (one_of c) (one_of c then_ stay) _ (λ s. sym (flat_map-stay (one_of c s))) (character_agrees c)

module _ (table : Table) (rer : Flags) (text : List ℕ) (is_text : All IsCodePoint text) (same : ℕ → ℕ → Bool)
    (literals : (c : ℕ) → IsSetOf table rer (one_character c) false (same c)) where
  string_agrees : (d : Direction) (string : List ℕ) →
      Agrees text d (all_of d (of_characters text) same (in_order d string)) (string_matcher table rer d string)
  string_agrees forwards [] = Agrees-empty text forwards
  string_agrees backwards [] = Agrees-empty text backwards
  string_agrees forwards (c ∷ []) = last_agrees table rer text is_text forwards same literals c
  string_agrees backwards (c ∷ []) = last_agrees table rer text is_text backwards same literals c
  string_agrees forwards (c1 ∷ c2 ∷ cs) =
      Agrees-then text forwards _ _ _ _ (character_agrees table rer text is_text forwards same literals c1) (string_agrees forwards (c2 ∷ cs))
  string_agrees backwards (c1 ∷ c2 ∷ cs) =
      Agrees-same text backwards
      (all_of backwards (of_characters text) same (reverse (c2 ∷ cs)) then_ Steps.one_character backwards (of_characters text) (same c1))
      (all_of backwards (of_characters text) same (reverse (c1 ∷ c2 ∷ cs))) _
      (λ s.
      sym (all_of-snoc text same (reverse (c2 ∷ cs)) c1 s)
      ∙ ap (λ (string : List ℕ). all_of backwards (of_characters text) same string s) (sym (reverse-append (c1 ∷ []) (c2 ∷ cs))))
      (Agrees-then text backwards _ _ _ _ (string_agrees backwards (c2 ∷ cs)) (character_agrees table rer text is_text backwards same literals c1))

  pub any_agrees : (d : Direction) (strings : List (List ℕ)) (f : Steps.Matcher) (m : Matcher) → Agrees text d f m →
      Agrees text d (any_string d (of_characters text) same strings or_ f) (alternatives (map (string_matcher table rer d) strings) m)
  unfolding any_string
  any_agrees d [] f m agrees = agrees
  any_agrees d (string ∷ strings) f m agrees =
      Agrees-same text d (all_of d (of_characters text) same (in_order d string) or_ (any_string d (of_characters text) same strings or_ f))
      (any_string d (of_characters text) same (string ∷ strings) or_ f) _
      (λ s. sym (append_assoc (all_of d (of_characters text) same (in_order d string) s) (any_string d (of_characters text) same strings s) (f s)))
      (Agrees-or text d _ _ _ _ (string_agrees d string) (any_agrees d strings f m agrees))

module _ (table : Table) (rer : Flags) (text : List ℕ) (is_text : All IsCodePoint text) (d : Direction) (same : ℕ → ℕ → Bool) where
  abbrev class_steps : List (List ℕ) → (ℕ → Bool) → Bool → Steps.Matcher
  class_steps strings test has_empty =
      any_string d (of_characters text) same (longest_first strings) or_ Steps.one_character d (of_characters text) test
      or_ (if has_empty then stay else fail)

  pub Agrees-strings : ((c : ℕ) → IsSetOf table rer (one_character c) false (same c)) → (strings : List (List ℕ)) (members : CharSet) (test : ℕ → Bool) →
      IsSetOf table rer members false test → (has_empty : Bool) →
      Agrees text d (class_steps strings test has_empty) (compile_strings table rer d strings members has_empty)
  Agrees-strings literals strings members test set true =
      let single = Agrees-character table rer members false test text is_text set d in
      let sorted = descending-same (length (concat strings) + 1) strings in
      Agrees-same text d
      (any_string d (of_characters text) same (descending (length (concat strings) + 1) strings) or_ (Steps.one_character d (of_characters text) test or_ stay))
      (class_steps strings test true) _
      (λ s.
      ap (λ (ss : List (List ℕ)). any_string d (of_characters text) same ss s ++ (Steps.one_character d (of_characters text) test s ++ stay s)) sorted
      ∙ sym (append_assoc (any_string d (of_characters text) same (longest_first strings) s) (Steps.one_character d (of_characters text) test s) (stay s)))
      (any_agrees table rer text is_text same literals d (descending (length (concat strings) + 1) strings) _ _
      (Agrees-or text d _ _ _ _ single (Agrees-empty text d)))
  Agrees-strings literals strings members test set false =
      let single = Agrees-character table rer members false test text is_text set d in
      let sorted = descending-same (length (concat strings) + 1) strings in
      Agrees-same text d
      (any_string d (of_characters text) same (descending (length (concat strings) + 1) strings) or_ Steps.one_character d (of_characters text) test)
      (class_steps strings test false) _
      (λ s.
      ap (λ (ss : List (List ℕ)). any_string d (of_characters text) same ss s ++ Steps.one_character d (of_characters text) test s) sorted
      ∙ sym (append-nil (any_string d (of_characters text) same (longest_first strings) s ++ Steps.one_character d (of_characters text) test s)))
      (any_agrees table rer text is_text same literals d (descending (length (concat strings) + 1) strings) _ _ single)

  -- a class without strings
  pub Agrees-no_strings : (strings : List (List ℕ)) → not (length strings == 0) ≡ false → (members : CharSet) (test : ℕ → Bool) →
      IsSetOf table rer members false test → (has_empty : Bool) → has_empty ≡ false →
      Agrees text d (class_steps strings test has_empty) (character_set_matcher table rer members false d)
  unfolding any_string
  Agrees-no_strings [] none members test set true empty = absurd (false≢true (sym empty))
  Agrees-no_strings [] none members test set false empty =
      Agrees-same text d (Steps.one_character d (of_characters text) test) (class_steps [] test false) _
      (λ s. sym (append-nil (Steps.one_character d (of_characters text) test s)))
      (Agrees-character table rer members false test text is_text set d)
  Agrees-no_strings (string ∷ strings) none members test set has_empty empty =
      let some : (suc (length strings) == 0) ≡ false = ne_eqb (suc (length strings)) 0 (omega arith) in
      absurd (false≢true (sym none ∙ ap not some))
