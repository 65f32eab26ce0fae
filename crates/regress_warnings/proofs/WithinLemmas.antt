-- The spans of the warnings.
use Rattle.std.proofs.Common.{ℕ, Bool, true, false, not, ◌&&◌, ◌||◌, List, [], ◌∷◌, ◌++◌, if◌then◌else◌}
use Rattle.std.specs.List.{All, zip, list_any}
use Rattle.std.proofs.lemmas.List.Elements.{All-nil, All-cons, All-head, All-tail}
use Rattle.regress_program.specs.Linear.{changes_some}
use Rattle.regress_assertions.specs.Holding.{unknown}
use Rattle.regress_assertions.specs.Marks.{marks_in}
use Rattle.regress_tree.specs.Tree.{empty, goal, char, byte_sequence, byte_set, char_set, match_any, match_any_except_line_terminator, anchor, word_boundary, bracket, back_ref, string_set, capture_group, loop, loop_one, lookaround, Tree, leaf, cat, alt, wrapped}
use Rattle.regress_lexer.specs.Source.{Source}
use Rattle.regress_parse.specs.declared.span.Span.{Span}
use Rattle.regress_warnings.specs.declared.kind.Warning.{Warning}
use Rattle.regress_warnings.specs.declared.kind.WarningKind.{WarningKind}
use Rattle.regress_warnings.specs.declared.kind.WarningKind.TheVariants.{EmptyAlternative, HiddenAlternative, SplitAnchors, EmptyIteration, UnsetReference, LetterRange, DotBetweenDigits, RepeatedMember, BackReference, CapturingLookaround, ImpossibleAssertion, BarInClass, ClassInRange, SplitCharacter, IdentityEscape, PosixClass}
use Rattle.regress_warnings.specs.Alternatives.{has_empty_alternative, hides_next, splits_anchors}
use Rattle.regress_base.specs.Intervals.{Bounds}
use Rattle.regress_warnings.specs.Classes.{has_letter_range, inside, is_class, members, repeats_some}
use Rattle.regress_warnings.specs.Written.{divides, has_class_in_range, has_name, is_above, is_identity_escape, is_of_surrogates}
use Rattle.regress_warnings.specs.Digits.{has_dot_between_digits}
use Rattle.regress_warnings.specs.Empty.{can_be_empty}
use Rattle.regress_warnings.specs.Warned.{closes, ends_with_span, warn_if, is_unset_reference, has_letters, warned_of_members, warned_of_written, warned_at, warned, last_tree, warned_if_marked, all_warned}

module _ (P : Span → Type 0) where
  abbrev OfSpan : Warning → Type 0
  OfSpan w = P w.span

  both : (ws vs : List Warning) → All OfSpan ws → All OfSpan vs → All OfSpan (ws ++ vs)
  both [] vs first second = second
  both (w ∷ ws) vs first second =
      All-cons OfSpan w (ws ++ vs) (All-head OfSpan w ws first) (both ws vs (All-tail OfSpan w ws first) second)

  one : (b : Bool) (kind : WarningKind) (s : Span) → P s → All OfSpan (warn_if b kind s)
  one true kind s here = All-cons OfSpan (record { kind = kind; span = s }) [] here (All-nil OfSpan)
  one false kind s here = All-nil OfSpan

  if-both : (b : Bool) (ws vs : List Warning) → All OfSpan ws → All OfSpan vs → All OfSpan (if b then ws else vs)
  if-both true ws vs first second = first
  if-both false ws vs first second = second

  three : (a b c : Bool) (kind second third : WarningKind) (s : Span) → P s →
      All OfSpan (warn_if a kind s ++ warn_if b second s ++ warn_if c third s)
  three a b c kind second third s here =
      both (warn_if a kind s ++ warn_if b second s) (warn_if c third s)
      (both (warn_if a kind s) (warn_if b second s) (one a kind s here) (one b second s here)) (one c third s here)

  in-members : (intervals : List Bounds) (written : Source) (s : Span) → P s → All OfSpan (warned_of_members intervals written s)
  in-members intervals written s here =
      three (has_letters intervals written s) (not (has_letters intervals written s || has_name written) && repeats_some (members written))
      (has_class_in_range (members written)) LetterRange RepeatedMember ClassInRange s here

  in-written : (intervals : List Bounds) (written : Source) (s : Span) → P s → All OfSpan (warned_of_written intervals written s)
  in-written intervals written s here =
      three (divides written) (list_any is_of_surrogates intervals && list_any is_above written) (has_name written)
      BarInClass SplitCharacter PosixClass s here

  -- What holds of the spans of nodes holds of those of the marked ones.
  marked : (marks : List Bool) (ts : List Tree) (ss : List Span) → All P ss → All OfSpan (warned_if_marked marks (zip ts ss))
  marked [] ts ss all = All-nil OfSpan
  marked (mark ∷ marks) [] ss all = All-nil OfSpan
  marked (mark ∷ marks) (t ∷ ts) [] all = All-nil OfSpan
  marked (mark ∷ marks) (t ∷ ts) (s ∷ ss) all =
      both (warn_if mark ImpossibleAssertion s) (warned_if_marked marks (zip ts ss))
      (one mark ImpossibleAssertion s (All-head P s ss all)) (marked marks ts ss (All-tail P s ss all))

  module _ (sets : Bool) (source : Source) where
    module _ (is_closed : ℕ → Bool) (s : Span) (is_first : Bool) (here : P s) where
      at_node : (t : Tree) → All OfSpan (warned_at sets source is_closed s is_first t)
      at_node (leaf (back_ref group icase)) =
          let unset = is_unset_reference sets source is_closed s is_first group in
          both (warn_if unset UnsetReference s) (warn_if is_first BackReference s) (one unset UnsetReference s here) (one is_first BackReference s here)
      at_node (leaf (bracket invert intervals)) =
          if-both (not sets && is_class source s)
          (warned_of_members intervals (inside source s) s ++ warned_of_written intervals (inside source s) s)
          (warn_if (has_letter_range intervals) LetterRange s)
          (both (warned_of_members intervals (inside source s) s) (warned_of_written intervals (inside source s) s)
          (in-members intervals (inside source s) s here) (in-written intervals (inside source s) s here))
          (one (has_letter_range intervals) LetterRange s here)
      at_node (leaf empty) = All-nil OfSpan
      at_node (leaf goal) = All-nil OfSpan
      at_node (leaf (char c)) = one (is_identity_escape source s) IdentityEscape s here
      at_node (leaf (byte_sequence bytes)) = All-nil OfSpan
      at_node (leaf (byte_set bytes)) = All-nil OfSpan
      at_node (leaf (char_set characters)) = one (is_identity_escape source s) IdentityEscape s here
      at_node (leaf match_any) = All-nil OfSpan
      at_node (leaf match_any_except_line_terminator) = All-nil OfSpan
      at_node (leaf (anchor kind multiline)) = All-nil OfSpan
      at_node (leaf (word_boundary invert unicode_icase)) = All-nil OfSpan
      at_node (leaf (string_set strings icase)) = All-nil OfSpan
      at_node (cat parts) = one (has_dot_between_digits parts) DotBetweenDigits s here
      at_node (alt left right) =
          let empty = has_empty_alternative source s right in
          let hides = hides_next left right in
          let splits = splits_anchors left right in
          both (warn_if empty EmptyAlternative s ++ warn_if hides HiddenAlternative s) (warn_if splits SplitAnchors s)
          (both (warn_if empty EmptyAlternative s) (warn_if hides HiddenAlternative s) (one empty EmptyAlternative s here) (one hides HiddenAlternative s here))
          (one splits SplitAnchors s here)
      at_node (wrapped (capture_group id name) body) = All-nil OfSpan
      at_node (wrapped (loop q start end) body) = one (can_be_empty body) EmptyIteration s here
      at_node (wrapped (loop_one q) body) = one (can_be_empty body) EmptyIteration s here
      at_node (wrapped (lookaround negate backwards start end) body) = one (not negate && changes_some body) CapturingLookaround s here

    -- What holds of all spans holds of those of the warnings.
    pub warned-spans : (before : List (Tree × Span)) (ts : List Tree) (ss : List Span) → All P ss → All OfSpan (warned sets source before (zip ts ss))
    warned-spans before [] ss all = All-nil OfSpan
    warned-spans before (t ∷ ts) [] all = All-nil OfSpan
    warned-spans before (t ∷ ts) (s ∷ ss) all =
        let closed = λ (n : ℕ). list_any (λ x. closes n x.0) before in
        let first = not (ends_with_span s before) in
        both (warned_at sets source closed s first t) (warned sets source (before ++ (t, s) ∷ []) (zip ts ss))
        (at_node closed s first (All-head P s ss all) t) (warned-spans (before ++ (t, s) ∷ []) ts ss (All-tail P s ss all))

    -- The same of all warnings.
    pub all-spans : (ts : List Tree) (ss : List Span) → All P ss → All OfSpan (all_warned sets source (zip ts ss))
    all-spans ts ss all =
        let marks = marks_in false unknown unknown (last_tree unknown (zip ts ss)) in
        both (warned sets source [] (zip ts ss)) (warned_if_marked marks (zip ts ss)) (warned-spans [] ts ss all) (marked marks ts ss all)
