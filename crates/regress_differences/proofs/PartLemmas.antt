-- The parts that are reported.
use Rattle.std.proofs.Common.{◌≡◌, ◌≢◌, Bool, true, false, cond, not, ◌&&◌, ◌||◌, ◌==◌, List, [], ◌∷◌, ◌++◌, length, map, None, sym, subst, ap, ◌∙◌, refl, suc, arith}
use Rattle.std.proofs.lemmas.Bool.{false≢true, ne_eqb}
use Rattle.std.proofs.lemmas.List.Elements.{All-nil, All-cons, All-head, All-tail, All-append}
use Rattle.std.specs.List.{All, zip}
use Rattle.std.specs.Prelude.{Result, Ok, Err, IfOk}
use Rattle.regress_tree.specs.Steps.{Setting}
use Rattle.regress_tree.specs.Tree.{Tree}
use Rattle.regress_lexer.specs.Source.{Source}
use Rattle.regress_lexer.specs.declared.dialect.Dialect.TheVariants.{Ecma}
use Rattle.regress_syntax.specs.Syntax.{Pattern}
use Rattle.regress_parse.specs.Accepted.{IsAcceptedIn}
use Rattle.regress_parse.specs.Spans.{IsWithin}
use Rattle.regress_parse.specs.declared.span.Span.{Span}
use Rattle.regress_spans.specs.Paired.{spanned_in}
use Rattle.regress_base.specs.declared.types.Flags.{Flags}
use Rattle.regress_differences.specs.InEcma.{IsTreeInEcma}
use Rattle.regress_differences.specs.Reported.{are_nodes, are_none, are_references, AreParts, difference_of, if_leaf, if_other, is_at_span, has_other_flags, is_error, is_leaf, is_same, is_whole, others_among, Part, part_of, whole}
use Rattle.regress_differences.specs.Views.{part_at}
use Rattle.regress_differences.specs.declared.parts.Part as code

module _ (setting : Setting) (source : Source) (t : Tree) (nodes : List (Tree × Span)) where
  abbrev Are : List Part → Type 0
  Are = AreParts setting source t nodes

  pub none_where_same : (parts : List Part) → parts ≡ [] → IsTreeInEcma setting source t → Are parts
  none_where_same parts none same = subst Are (sym none) (are_none same)

  -- One part without a node, where that is what is reported.
  pub one_where : {V E : Type 0} (parts : V → List Part) (place : Span) (r : Result V E) → IfOk r (λ v. parts v ≡ (None, place) ∷ []) →
      Are ((None, place) ∷ []) → IfOk r (λ v. Are (parts v))
  one_where parts place (Ok v) one are = subst Are (sym one) are
  one_where parts place (Err e) one are = tt

  pub whole_where : (place : Span) → place ≡ whole source → Are ((None, whole source) ∷ []) → Are ((None, place) ∷ [])
  whole_where place is = subst (λ (s : Span). Are ((None, s) ∷ [])) (sym is)

  -- The tree is another one, though no node is found.
  pub whole_where_other : (others : List (Tree × Span)) → others_among nodes others ≡ [] → (IsTreeInEcma setting source t → ⊥) →
      (p : Pattern) × (accepted : IsAcceptedIn Ecma setting source p) × (others ≡ spanned_in Ecma setting source p accepted.derived) →
      Are ((None, whole source) ∷ [])
  whole_where_other others none other (p, accepted, is) =
      is_whole other p accepted (sym (ap (λ (ys : List (Tree × Span)). others_among nodes ys) is) ∙ none)

  pub nodes_where_other : (parts : List Part) (others : List (Tree × Span)) → parts ≡ map part_of (others_among nodes others) → parts ≢ [] →
      (IsTreeInEcma setting source t → ⊥) →
      (p : Pattern) × (accepted : IsAcceptedIn Ecma setting source p) × (others ≡ spanned_in Ecma setting source p accepted.derived) → Are parts
  nodes_where_other parts others are some other (p, accepted, is) =
      are_nodes other p accepted (are ∙ ap (λ (ys : List (Tree × Span)). map part_of (others_among nodes ys)) is) some

pub some_part : (items : List code.Part) → (length items == 0) ≡ false → map part_at items ≢ []
some_part [] none = absurd (false≢true (sym none))
some_part (x ∷ xs) some = λ none. cc (none)

pub no_part : (items : List code.Part) → (length items == 0) ≡ true → (xs : List (Tree × Span)) → map part_at items ≡ map part_of xs → xs ≡ []
no_part [] none [] e = refl
no_part [] none (x ∷ xs) e = cc (e)
no_part (i ∷ is) none xs e =
    let some : (suc (length is) == 0) ≡ false = ne_eqb (suc (length is)) 0 (omega arith) in
    absurd (false≢true (sym some ∙ none))

-- ---- spans

module _ (P : Span → Type 0) where
  abbrev AreOfSpans : List (Tree × Span) → Type 0
  AreOfSpans = All (λ x. P x.1)

  -- What holds of all spans holds of those of the nodes.
  pub of_spans : (ts : List Tree) (spans : List Span) → All P spans → AreOfSpans (zip ts spans)
  of_spans [] spans all = All-nil (λ x. P x.1)
  of_spans (t ∷ ts) [] all = All-nil (λ x. P x.1)
  of_spans (t ∷ ts) (s ∷ spans) all =
      All-cons (λ x. P x.1) (t, s) (zip ts spans) (All-head P s spans all) (of_spans ts spans (All-tail P s spans all))

  one_if : (b : Bool) (x : Tree × Span) → P x.1 → AreOfSpans (cond b (x ∷ []) [])
  one_if true x h = All-cons (λ x. P x.1) x [] h (All-nil (λ x. P x.1))
  one_if false x h = All-nil (λ x. P x.1)

  either_of : (b : Bool) (xs ys : List (Tree × Span)) → AreOfSpans xs → AreOfSpans ys → AreOfSpans (cond b xs ys)
  either_of true xs ys h k = h
  either_of false xs ys h k = k

  of_others : (xs ys : List (Tree × Span)) → AreOfSpans xs → AreOfSpans (others_among xs ys)
  of_others [] ys all = All-nil (λ x. P x.1)
  of_others (x ∷ xs) [] all = All-nil (λ x. P x.1)
  of_others (x ∷ xs) (y ∷ ys) all =
      let here = All-head (λ x. P x.1) x xs all in
      either_of (is_at_span x.1 y.1) (if_other x y ++ others_among xs ys) (if_leaf x)
      (All-append (λ x. P x.1) (if_other x y) (others_among xs ys) (one_if ((is_leaf x.0 || are_references x.0) && not (is_same x.0 y.0)) x here)
      (of_others xs ys (All-tail (λ x. P x.1) x xs all)))
      (one_if (is_leaf x.0) x here)

  of_nodes : (xs : List (Tree × Span)) → AreOfSpans xs → All (λ x. P x.1) (map part_of xs)
  of_nodes [] all = All-nil (λ x. P x.1)
  of_nodes ((t, s) ∷ xs) all =
      All-cons (λ x. P x.1) (part_of (t, s)) (map part_of xs) (All-head (λ x. P x.1) (t, s) xs all) (of_nodes xs (All-tail (λ x. P x.1) (t, s) xs all))

  pub of_differences : (flags : Flags) (source : Source) (parts : List Part) → All (λ x. P x.1) parts → All (λ d. P d.span) (map (difference_of flags source) parts)
  of_differences flags source [] all = All-nil (λ d. P d.span)
  of_differences flags source ((node, s) ∷ parts) all =
      All-cons (λ d. P d.span) (difference_of flags source (node, s)) (map (difference_of flags source) parts) (All-head (λ x. P x.1) (node, s) parts all)
      (of_differences flags source parts (All-tail (λ x. P x.1) (node, s) parts all))

one_within : (source : Source) (place : Span) → IsWithin (whole source) place → All (λ (x : Part). IsWithin (whole source) x.1) ((None, place) ∷ [])
one_within source place within = All-cons (λ (x : Part). IsWithin (whole source) x.1) (None, place) [] within (All-nil (λ (x : Part). IsWithin (whole source) x.1))

itself : (source : Source) → IsWithin (whole source) (whole source)
itself source = record { start = omega arith; ordered = omega arith; end = omega arith }

-- The parts are within the pattern if the spans of its nodes are.
pub within_source : (setting : Setting) (source : Source) (t : Tree) (ts : List Tree) (spans : List Span) (parts : List Part) →
    AreParts setting source t (zip ts spans) parts → All (IsWithin (record { start = 0; end = length source })) spans →
    All (λ x. IsWithin (record { start = 0; end = length source }) x.1) parts
within_source setting source t ts spans parts (are_none same) all = All-nil (λ x. IsWithin (record { start = 0; end = length source }) x.1)
within_source setting source t ts spans parts (are_nodes other p accepted are some) all =
    let P : Span → Type 0 = IsWithin (record { start = 0; end = length source }) in
    subst (λ (xs : List Part). All (λ x. P x.1) xs) (sym are)
    (of_nodes P (others_among (zip ts spans) (spanned_in Ecma setting source p accepted.derived))
    (of_others P (zip ts spans) (spanned_in Ecma setting source p accepted.derived) (of_spans P ts spans all)))
within_source setting source t ts spans parts (is_whole other p accepted none) all = one_within source (whole source) (itself source)
within_source setting source t ts spans parts (is_error none {place = place} within) all = one_within source place within
within_source setting source t ts spans parts (has_other_flags other) all = one_within source (whole source) (itself source)
