-- What holds of all parts of an alternation, or of a concatenation.
use Rattle.std.proofs.Common.{ℕ, Bool, true, false, cond, not, List, [], ◌∷◌, ◌++◌, All}
use Rattle.std.proofs.lemmas.List.Elements.{All-nil, All-cons, All-head, All-tail, All-append, All-map}
use Rattle.regress_base.specs.Intervals.{Bounds}
use Rattle.regress_tree.specs.Reading.{forwards}
use Rattle.regress_tree.specs.Tree.{list, Tree, leaf, cat, alt, empty, char_set, bracket, back_ref, string_set}
use Rattle.regress_classes.specs.ClassSets.{Value, has_strings}
use Rattle.regress_syntax.specs.Meaning.{longest_first}
use Rattle.regress_parse.specs.TreeOf.{alternation, concatenation, references}
use Rattle.regress_parse.specs.ClassParts.{strings_part, bracket_part, empty_part, class_parts}

module _ (P : Tree → Type 0) where
  pub alternation-has : P (leaf (char_set [])) → ((t u : Tree) → P t → P u → P (alt t u)) → (ts : List Tree) → All P ts → P (alternation ts)
  alternation-has none both [] h = none
  alternation-has none both (t ∷ []) h = All-head P t [] h
  alternation-has none both (t ∷ next ∷ ts) h =
      both t (alternation (next ∷ ts)) (All-head P t (next ∷ ts) h)
      (alternation-has none both (next ∷ ts) (All-tail P t (next ∷ ts) h))

  pub joined-has : P (leaf empty) → ((ts : List Tree) → All P ts → P (cat (list ts))) → (ts : List Tree) → All P ts →
      P (concatenation forwards (list ts))
  joined-has none both [] h = none
  joined-has none both (t ∷ []) h = All-head P t [] h
  joined-has none both (t ∷ next ∷ ts) h = both (t ∷ next ∷ ts) h

  pub references-have : (icase : Bool) (ks : List ℕ) → All (λ k. P (leaf (back_ref k icase))) ks → All P (references icase ks)
  references-have icase ks h = All-map P (λ k. leaf (back_ref k icase)) ks h

  strings_part-has : (icase : Bool) (strings : List (List ℕ)) → P (leaf (string_set strings icase)) → All P (strings_part icase strings)
  strings_part-has icase [] h = All-nil P
  strings_part-has icase (s ∷ ss) h = All-cons P (leaf (string_set (s ∷ ss) icase)) [] h (All-nil P)

  part_if : (b : Bool) (t : Tree) → P t → All P (cond b (t ∷ []) [])
  part_if true t h = All-cons P t [] h (All-nil P)
  part_if false t h = All-nil P

  pub class_parts-have : (icase negated : Bool) (value : Value) (closed : List Bounds) →
      P (leaf (string_set (longest_first value.strings) icase)) → P (leaf (bracket negated closed)) → P (leaf empty) →
      All P (class_parts icase negated value closed)
  class_parts-have icase negated value closed of_strings of_bracket of_empty =
      let strings = strings_part icase (longest_first value.strings) in
      let bracket' = bracket_part (not (has_strings value)) negated closed in
      All-append P (strings ++ bracket') (empty_part value.has_empty)
      (All-append P strings bracket' (strings_part-has icase (longest_first value.strings) of_strings)
      (part_if _ (leaf (bracket negated closed)) of_bracket))
      (part_if _ (leaf empty) of_empty)
