-- What is warned of in a pattern: in which nodes, and why.
use Rattle.std.specs.Prelude.{Option, Some, None, ℕ, ◌+◌, Bool, false, not, ◌&&◌, ◌||◌, ◌==◌, List, [], ◌∷◌, ◌++◌, map, if◌then◌else◌}
use Rattle.std.specs.List.{list_any}
use Rattle.regress_program.specs.Linear.{changes_some}
use Rattle.regress_assertions.specs.Holding.{unknown}
use Rattle.regress_assertions.specs.Marks.{marks_in}
use Rattle.regress_tree.specs.Tree.{Leaf, char, char_set, bracket, back_ref, Wrapper, capture_group, loop, loop_one, lookaround, Tree, leaf, cat, alt, wrapped}
use Rattle.regress_lexer.specs.Source.{Source}
use Rattle.regress_parse.specs.declared.span.Span.{Span}
use Rattle.regress_spans.specs.Remarks.{Said}
use Rattle.regress_warnings.specs.declared.kind.Warning.{Warning}
use Rattle.regress_warnings.specs.declared.kind.WarningKind.{WarningKind}
use Rattle.regress_warnings.specs.declared.kind.WarningKind.TheVariants.{EmptyAlternative, HiddenAlternative, SplitAnchors, EmptyIteration, UnsetReference, LetterRange, DotBetweenDigits, RepeatedMember, BackReference, CapturingLookaround, ImpossibleAssertion, BarInClass, ClassInRange, SplitCharacter, IdentityEscape, PosixClass}
use Rattle.regress_warnings.specs.Alternatives.{has_empty_alternative, hides_next, splits_anchors}
use Rattle.regress_base.specs.Intervals.{Bounds}
use Rattle.regress_warnings.specs.Classes.{has_letter_range, inside, is_class, members, repeats_some, writes_letter_range}
use Rattle.regress_warnings.specs.Written.{divides, escapes_letter, has_class_in_range, has_name, is_above, is_identity_escape, is_of_surrogates}
use Rattle.regress_warnings.specs.Digits.{has_dot_between_digits}
use Rattle.regress_warnings.specs.Empty.{can_be_empty}
use Rattle.regress_warnings.specs.Kinds.{name_of, text_of}

-- the warning, if it holds
abbrev pub warn_if : Bool → WarningKind → Span → List Warning
warn_if holds kind span = if holds then record { kind = kind; span = span } ∷ [] else []

abbrev pub wrapper_closes : ℕ → Wrapper → Bool
wrapper_closes n (capture_group id name) = id + 1 == n
wrapper_closes n w = false

-- The node is the capture group with number n.
abbrev pub closes : ℕ → Tree → Bool
closes n (leaf l) = false
closes n (cat parts) = false
closes n (alt left right) = false
closes n (wrapped w body) = wrapper_closes n w

-- ---- nodes beside a node

abbrev pub is_same_span : Span → Span → Bool
is_same_span span other = span.start == other.start && span.end == other.end

-- The node has this span.
abbrev pub has_span : Span → Tree × Span → Bool
has_span span (t, other) = is_same_span span other

-- The last of the nodes has this span.
abbrev pub ends_with_span : Span → List (Tree × Span) → Bool
ends_with_span span [] = false
ends_with_span span (x ∷ []) = has_span span x
ends_with_span span (x ∷ y ∷ nodes) = ends_with_span span (y ∷ nodes)

-- ---- warnings

-- What is warned of in a class without the flag v that has `written` between its brackets, its members and its intervals.
-- A letter range or a name such as `[:alpha:]` often repeats a member, and is warned of once.
module _ (intervals : List Bounds) (written : Source) (span : Span) where
  abbrev pub has_letters : Bool
  has_letters = has_letter_range intervals || writes_letter_range (members written)

  abbrev pub warned_of_members : List Warning
  warned_of_members =
      warn_if has_letters LetterRange span
      ++ warn_if (not (has_letters || has_name written) && repeats_some (members written)) RepeatedMember span
      ++ warn_if (has_class_in_range (members written)) ClassInRange span

  abbrev pub warned_of_written : List Warning
  warned_of_written =
      warn_if (divides written) BarInClass span
      ++ warn_if (list_any is_of_surrogates intervals && list_any is_above written) SplitCharacter span
      ++ warn_if (has_name written) PosixClass span

-- whether the pattern has the flag v, and its source
module _ (sets : Bool) (source : Source) where
  -- a set, which may be written as a class
  abbrev pub warned_of_set : List Bounds → Span → List Warning
  warned_of_set intervals span =
      if not sets && is_class source span
      then warned_of_members intervals (inside source span) span ++ warned_of_written intervals (inside source span) span
      else warn_if (has_letter_range intervals) LetterRange span

  -- Given which groups end before the node, by number, its span, and whether it is the first node with that span: all
  -- nodes of a reference by name to several groups have the same one.
  module _ (is_closed : ℕ → Bool) (span : Span) (is_first : Bool) where
    -- A reference to a group that does not end before it. Of several groups of one name the first one ends first.
    abbrev pub is_unset_reference : ℕ → Bool
    is_unset_reference group = is_first && not (is_closed group)

    abbrev pub warned_of_escape : List Warning
    warned_of_escape = warn_if (is_identity_escape source span) IdentityEscape span

    abbrev pub warned_at_leaf : Leaf → List Warning
    warned_at_leaf (back_ref group icase) =
        warn_if (is_unset_reference group) UnsetReference span ++ warn_if is_first BackReference span
    warned_at_leaf (char c) = warned_of_escape
    warned_at_leaf (char_set characters) = warned_of_escape
    warned_at_leaf (bracket invert intervals) = warned_of_set intervals span
    warned_at_leaf l = []

    abbrev pub warned_at_wrapper : Wrapper → (body : Tree) → List Warning
    warned_at_wrapper (capture_group id name) body = []
    warned_at_wrapper (loop q start end) body = warn_if (can_be_empty body) EmptyIteration span
    warned_at_wrapper (loop_one q) body = warn_if (can_be_empty body) EmptyIteration span
    warned_at_wrapper (lookaround negate backwards start end) body = warn_if (not negate && changes_some body) CapturingLookaround span

    -- what is warned of in a node
    abbrev pub warned_at : Tree → List Warning
    warned_at (leaf l) = warned_at_leaf l
    warned_at (cat parts) = warn_if (has_dot_between_digits parts) DotBetweenDigits span
    warned_at (alt left right) =
        warn_if (has_empty_alternative source span right) EmptyAlternative span
        ++ warn_if (hides_next left right) HiddenAlternative span
        ++ warn_if (splits_anchors left right) SplitAnchors span
    warned_at (wrapped w body) = warned_at_wrapper w body

  -- What is warned of in these nodes, each beside its span, after the nodes before them. In postorder a group is after
  -- what is inside it, and so it is before a node if and only if it ends before it.
  abbrev pub warned : (before : List (Tree × Span)) → List (Tree × Span) → List Warning
  warned before [] = []
  warned before ((t, span) ∷ nodes) =
      warned_at (λ n. list_any (λ x. closes n x.0) before) span (not (ends_with_span span before)) t
      ++ warned (before ++ (t, span) ∷ []) nodes

-- ---- assertions that never hold

-- the last of the nodes, or `t` if there is none: in postorder the root is the last one
abbrev pub last_tree : (t : Tree) → List (Tree × Span) → Tree
last_tree t [] = t
last_tree t ((u, span) ∷ nodes) = last_tree u nodes

-- the tree, or `t` if there is none
abbrev pub tree_or : (t : Tree) → Option Tree → Tree
tree_or t None = t
tree_or t (Some u) = u

-- the warnings at the spans of the marked nodes
abbrev pub warned_if_marked : List Bool → List (Tree × Span) → List Warning
warned_if_marked [] nodes = []
warned_if_marked (mark ∷ marks) [] = []
warned_if_marked (mark ∷ marks) ((t, span) ∷ nodes) = warn_if mark ImpossibleAssertion span ++ warned_if_marked marks nodes

-- the warnings of the nodes of a whole tree in postorder: of each node, and then of the assertions that never hold
abbrev pub all_warned : (sets : Bool) → Source → List (Tree × Span) → List Warning
all_warned sets source nodes =
    warned sets source [] nodes ++ warned_if_marked (marks_in false unknown unknown (last_tree unknown nodes)) nodes

-- ---- what is said of it

abbrev pub said_of : Warning → Said
said_of w = (w.span, name_of w.kind, text_of w.kind)

-- what is said of these nodes, each beside its span
abbrev pub all_said : (sets : Bool) → Source → List (Tree × Span) → List Said
all_said sets source nodes = map said_of (all_warned sets source nodes)
