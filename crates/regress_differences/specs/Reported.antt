-- What is reported of a pattern: where its tree is another one in the dialect `Ecma`, and why.
use Rattle.std.specs.Prelude.{◌≡◌, ◌≢◌, Bool, true, false, not, ◌&&◌, ◌||◌, ◌==◌, List, [], ◌∷◌, ◌++◌, drop, length, map, ℕ, Option, Some, None, if◌then◌else◌, nat_eq}
use Rattle.std.specs.Cmp.Lexicographic.{pointwise}
use Rattle.std.specs.List.{list_any}
use Rattle.regress_base.specs.Intervals.{Bounds, is_member}
use Rattle.regress_base.specs.declared.types.Flags.{Flags}
use Rattle.regress_tree.specs.Steps.{Setting}
use Rattle.regress_tree.specs.Tree.{Leaf, bracket, back_ref, string_set, Tree, leaf, cat, alt, wrapped}
use Rattle.regress_encoding.specs.Encoding.{encode}
use Rattle.regress_lexer.specs.Dialects.{flags_in_force}
use Rattle.regress_lexer.specs.Source.{Source, char, is_at}
use Rattle.regress_lexer.specs.declared.dialect.Dialect.TheVariants.{Ecma}
use Rattle.regress_syntax.specs.Syntax.{Pattern}
use Rattle.regress_parse.specs.Accepted.{IsAcceptedIn}
use Rattle.regress_parse.specs.Rejected.{NoneIsAcceptedIn}
use Rattle.regress_parse.specs.Spans.{IsWithin}
use Rattle.regress_parse.specs.declared.span.Span.{Span}
use Rattle.regress_spans.specs.Paired.{spanned_in}
use Rattle.regress_differences.specs.InEcma.{IsTreeInEcma}
use Rattle.regress_differences.specs.declared.kind.Difference.{Difference}
use Rattle.regress_differences.specs.declared.kind.DifferenceKind.{DifferenceKind}
use Rattle.regress_differences.specs.declared.kind.DifferenceKind.TheVariants.{CaseClosure, StringSet, SameName, Grammar}

-- ---- nodes that are compared

abbrev pub is_back_reference : Leaf → Bool
is_back_reference (back_ref group icase) = true
is_back_reference l = false

-- the node is a `BackRef`
abbrev pub is_reference : Tree → Bool
is_reference (leaf l) = is_back_reference l
is_reference (cat parts) = false
is_reference (alt left right) = false
is_reference (wrapped w body) = false

abbrev pub is_leaf : Tree → Bool
is_leaf (leaf l) = true
is_leaf (cat parts) = false
is_leaf (alt left right) = false
is_leaf (wrapped w body) = false

-- two references as alternatives: the last two of the groups to which `\k` and a name refer
abbrev pub are_references : Tree → Bool
are_references (leaf l) = false
are_references (cat parts) = false
are_references (alt left right) = is_reference left && is_reference right
are_references (wrapped w body) = false

-- equal trees, by their encodings
abbrev pub is_same : Tree → Tree → Bool
is_same t u = pointwise nat_eq (encode t) (encode u)

abbrev pub is_at_span : Span → Span → Bool
is_at_span a b = a.start == b.start && a.end == b.end

-- a node, if it has no children
abbrev pub if_leaf : Tree × Span → List (Tree × Span)
if_leaf x = if is_leaf x.0 then x ∷ [] else []

-- a node that is compared by itself, if it is not the second one
abbrev pub if_other : Tree × Span → Tree × Span → List (Tree × Span)
if_other x y = if (is_leaf x.0 || are_references x.0) && not (is_same x.0 y.0) then x ∷ [] else []

-- The nodes of a tree that are others in a second tree, with their spans. Both trees are compared node by node, up to the
-- first two nodes with different spans. That of the first tree is one of those, if it has no children.
abbrev pub others_among : List (Tree × Span) → List (Tree × Span) → List (Tree × Span)
others_among [] ys = []
others_among (x ∷ xs) [] = []
others_among (x ∷ xs) (y ∷ ys) = if is_at_span x.1 y.1 then if_other x y ++ others_among xs ys else if_leaf x

-- ---- parts of a pattern

-- a part that differs: a node with its span, or a span where no node is known
abbrev pub Part : Type 0
Part = Option Tree × Span

-- a node with its span as a part
abbrev pub part_of : Tree × Span → Part
part_of (t, span) = (Some t, span)

-- the span of the whole source
abbrev pub whole : Source → Span
whole source = record { start = 0; end = length source }

-- The parts of a pattern with this tree that are reported. `nodes` are its nodes, with their spans.
pub data AreParts (setting : Setting) (source : Source) (t : Tree) (nodes : List (Tree × Span)) : List Part → Type 0 where
  -- none, where the tree is the same in the dialect `Ecma`
  are_none : IsTreeInEcma setting source t → AreParts setting source t nodes []
  -- the nodes that are others there
  are_nodes : (IsTreeInEcma setting source t → ⊥) → {parts : List Part} → (p : Pattern) (accepted : IsAcceptedIn Ecma setting source p) →
      parts ≡ map part_of (others_among nodes (spanned_in Ecma setting source p accepted.derived)) → parts ≢ [] →
      AreParts setting source t nodes parts
  -- the whole pattern, where these are none, but the tree is another one
  is_whole : (IsTreeInEcma setting source t → ⊥) → (p : Pattern) (accepted : IsAcceptedIn Ecma setting source p) →
      others_among nodes (spanned_in Ecma setting source p accepted.derived) ≡ [] → AreParts setting source t nodes ((None, whole source) ∷ [])
  -- the place of a syntax error, where the pattern is rejected there
  is_error : NoneIsAcceptedIn Ecma setting source → {place : Span} → IsWithin (whole source) place →
      AreParts setting source t nodes ((None, place) ∷ [])
  -- the whole pattern, where other flags are in force there
  has_other_flags : flags_in_force Ecma setting.flags ≢ setting.flags → AreParts setting source t nodes ((None, whole source) ∷ [])

-- ---- why a part is reported

-- The characters that are case variants of others only with u: the upper case of each is not that of its simple case
-- folding.
unfoldable pub apart : List ℕ
apart =
    0x17F ∷ 0x3F4 ∷ 0x1E9E ∷ 0x1F88 ∷ 0x1F89 ∷ 0x1F8A ∷ 0x1F8B ∷ 0x1F8C ∷ 0x1F8D ∷ 0x1F8E ∷ 0x1F8F ∷ 0x1F98 ∷ 0x1F99 ∷ 0x1F9A ∷ 0x1F9B ∷ 0x1F9C ∷ 0x1F9D ∷ 0x1F9E ∷ 0x1F9F ∷ 0x1FA8 ∷ 0x1FA9 ∷ 0x1FAA ∷ 0x1FAB ∷ 0x1FAC ∷ 0x1FAD ∷ 0x1FAE ∷ 0x1FAF ∷ 0x1FBC ∷ 0x1FCC ∷ 0x1FD3 ∷ 0x1FE3 ∷ 0x1FFC ∷ 0x2126 ∷ 0x212A ∷ 0x212B ∷ 0xFB05 ∷ []

-- the flags of the pattern, with i if it may be matched with i somewhere
module _ (flags : Flags) where
  -- A class with this set may differ because of the flag i: without u if some character is a case variant only with u.
  abbrev pub is_cased : List Bounds → Bool
  is_cased closed = flags.icase && (flags.unicode || (flags.unicode_sets || list_any (is_member closed) apart))

  -- `t` is the source from the start of the leaf's span on.
  abbrev pub kind_of_leaf : (t : Source) → Leaf → DifferenceKind
  kind_of_leaf t (bracket invert closed) = if is_cased closed then CaseClosure else Grammar
  -- a property of strings, or a class
  kind_of_leaf t (string_set strings icase_of_strings) =
      if is_at (char "\\") t then StringSet else if flags.icase then CaseClosure else Grammar
  kind_of_leaf t l = Grammar

  -- why a part is reported
  abbrev pub kind_of : (t : Source) → Option Tree → DifferenceKind
  kind_of t None = Grammar
  kind_of t (Some (leaf l)) = kind_of_leaf t l
  kind_of t (Some (cat parts)) = Grammar
  kind_of t (Some (alt left right)) = SameName
  kind_of t (Some (wrapped w body)) = Grammar

  -- what is reported of a part, given the source
  abbrev pub difference_of : Source → Part → Difference
  difference_of source (node, span) = record { kind = kind_of (drop span.start source) node; span = span }
