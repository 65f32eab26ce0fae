-- The reply to a line of which the matches are written as they are found.
use Rattle.std.proofs.Common.{◌≡◌, ◌∙◌, inl, inr, ℕ, Bool, true, false, ◌&&◌, not, List, [], Option, Some, None, flat_map, ap, refl, sym, subst}
use Rattle.std.specs.Prelude.{◌↔◌, IfErr, IfOk, IsTrue, Result, Ok, Err, if◌then◌else◌, is_some}
use Rattle.regress_arguments.specs.Output.{Took}
use Rattle.regress.specs.declared.pattern.Regex.{Regex}
use Rattle.regex_options.specs.Colors.{Colors}
use Rattle.regex_options.specs.Plain.{Job, matching, replacing}
use Rattle.regex_options.specs.declared.task.Selection.{Selection}
use Rattle.regex_options.specs.declared.task.Shown.{Shown}
use Rattle.regex_options.specs.declared.task.Shown.TheVariants.{Lines, Matches, Json, Count, Names, Nothing}
use Rattle.regex_lines.specs.Ending.{OrOutput}
use Rattle.regex_lines.specs.InLine.{HasMatch, IsFirstBy, IsPartBy, has_matches, text_by}
use Rattle.regex_lines.specs.Paint.{LinePaint, line_paint_in}
use Rattle.regex_lines.specs.Reply.{AreSearched, IsFirstReply, IsReply, ShowsFirst, Shows, ShowsIf, TextMatches, shows_matches, texts_of, writes_matches}
use Rattle.regex_lines.specs.Searched.{IsFirstOrNone, Named, context_of, prefix_of}
use Rattle.regex_lines.specs.declared.failure.Failure.{Failure}
use Rattle.regex_lines.proofs.FoundLemmas.{is_matched}
use Rattle.regex_lines.proofs.MatchLemmas.{IsAllBy, has_some, nothing_by}
use Rattle.regex_lines.proofs.lemmas.Failures.{or_output}

left_of : (a b : Bool) → a && b ≡ true → a ≡ true
left_of true b both = refl
left_of false b both = both

right_of : (a b : Bool) → a && b ≡ true → b ≡ true
right_of true b both = both
right_of false b both = let bad : ⊥ = cc both in absurd bad

not_of : (b : Bool) → not b ≡ true → b ≡ false
not_of true is = let bad : ⊥ = cc is in absurd bad
not_of false is = refl

none_of : {X : Type 0} (o : Option X) → is_some o ≡ false → o ≡ None
none_of None is = refl
none_of (Some x) is = let bad : ⊥ = cc is in absurd bad

module _ (s : Selection) (colors : Option Colors) (writes : writes_matches (matching s colors) ≡ true) where
  shows : shows_matches s.shown ≡ true
  shows = left_of (shows_matches s.shown) (not s.invert && not (is_some s.context)) writes

  plain : s.invert ≡ false
  plain = not_of s.invert (left_of (not s.invert) (not (is_some s.context)) (right_of (shows_matches s.shown) _ writes))

  alone : s.context ≡ None
  alone = none_of s.context (not_of (is_some s.context) (right_of (not s.invert) _ (right_of (shows_matches s.shown) _ writes)))

-- No lines around selected ones are shown.
pub no_context : (job : Job) → writes_matches job ≡ true → context_of job ≡ None
no_context (matching s colors) writes = alone s colors writes
no_context (replacing p) writes = let bad : ⊥ = cc writes in absurd bad

-- Whether a line feed ends the line does not matter.
pub whatever_end : (r : Regex) (line : List ℕ) (ended : Bool) (job : Job) (prefix : List ℕ) (selected : Bool) (count : ℕ) (bytes : List ℕ) → writes_matches job ≡ true →
    IsReply r line false job prefix selected count bytes → IsReply r line ended job prefix selected count bytes
whatever_end r line ended (matching s colors) prefix selected count bytes writes reply = reply
whatever_end r line ended (replacing p) prefix selected count bytes writes reply = let bad : ⊥ = cc writes in absurd bad

-- Nothing is written for a line that is not selected.
pub none_written : (r : Regex) (line : List ℕ) (job : Job) (prefix bytes : List ℕ) → writes_matches job ≡ true → IsReply r line false job prefix false 1 bytes → bytes ≡ []
none_written r line (matching s colors) prefix bytes writes reply = reply.2
none_written r line (replacing p) prefix bytes writes reply = let bad : ⊥ = cc writes in absurd bad

module _ (r : Regex) (line : List ℕ) (prefix : List ℕ) where
  shown_all : (shown : Shown) (p : LinePaint) (found : List TextMatches) → shows_matches shown ≡ true → AreSearched r (texts_of line) found →
      Shows r line (texts_of line) shown p prefix (flat_map (text_by r shown p prefix) found)
  shown_all Lines p found shows searched = let bad : ⊥ = cc shows in absurd bad
  shown_all Matches p found shows searched = (found, searched, refl)
  shown_all Json p found shows searched = (found, searched, refl)
  shown_all Count p found shows searched = let bad : ⊥ = cc shows in absurd bad
  shown_all Names p found shows searched = let bad : ⊥ = cc shows in absurd bad
  shown_all Nothing p found shows searched = let bad : ⊥ = cc shows in absurd bad

  shown_if : (selected : Bool) (shown : Shown) (p : LinePaint) (found : List TextMatches) → selected ≡ has_matches found → shows_matches shown ≡ true →
      AreSearched r (texts_of line) found → ShowsIf r line (texts_of line) selected shown p prefix (flat_map (text_by r shown p prefix) found)
  shown_if true shown p found is some searched = shown_all shown p found some searched
  shown_if false shown p found is some searched = nothing_by r shown p prefix found (sym is)

  shown_first : (shown : Shown) (p : LinePaint) (bytes : List ℕ) → shows_matches shown ≡ true → IsFirstBy r (texts_of line) shown p prefix bytes →
      ShowsFirst r (texts_of line) shown p prefix bytes
  shown_first Lines p bytes shows first = let bad : ⊥ = cc shows in absurd bad
  shown_first Matches p bytes shows first = first
  shown_first Json p bytes shows first = first
  shown_first Count p bytes shows first = let bad : ⊥ = cc shows in absurd bad
  shown_first Names p bytes shows first = let bad : ⊥ = cc shows in absurd bad
  shown_first Nothing p bytes shows first = let bad : ⊥ = cc shows in absurd bad

  module _ (s : Selection) (colors : Option Colors) (writes : writes_matches (matching s colors) ≡ true) where
    abbrev paint : LinePaint
    paint = line_paint_in colors false s.invert

    pub is_reply : (selected : Bool) (found : List TextMatches) → AreSearched r (texts_of line) found → selected ≡ has_matches found →
        IsReply r line false (matching s colors) prefix selected 1 (flat_map (text_by r s.shown paint prefix) found)
    is_reply selected found searched is = (
      (
        selected,
        is_matched r (texts_of line) found selected searched (subst (λ b. IsTrue b ↔ HasMatch found) (sym is) (has_some found)),
        ap (λ invert. if invert then not selected else selected) (sym (plain s colors writes)),
      ),
      refl,
      shown_if selected s.shown paint found is (shows s colors writes) searched,
    )

    pub is_part : (number : ℕ) (place : Named) → prefix ≡ prefix_of false (matching s colors) place number → (bytes : List ℕ) →
        IsPartBy r (texts_of line) s.shown paint prefix bytes → IsFirstOrNone r (matching s colors) place number line bytes
    is_part number place is bytes (inl none) = inl none
    is_part number place is bytes (inr first) =
        inr (subst (λ prefix. IsFirstReply r line (matching s colors) prefix bytes) is (writes, shown_first s.shown paint bytes (shows s colors writes) first))

-- The same, where the code names what is shown, the colors and what is in front.
module _ (r : Regex) (line : List ℕ) (job : Job) (s : Selection) (colors : Option Colors) (is : job ≡ matching s colors) (writes : writes_matches job ≡ true)
    (shown : Shown) (p : LinePaint) (prefix : List ℕ) (shown_is : shown ≡ s.shown) (paint_is : p ≡ line_paint_in colors false s.invert)
    (place : Named) (number : ℕ) (prefix_is : prefix ≡ prefix_of false job place number) (old new : Option (List ℕ)) where
  abbrev own : LinePaint
  own = line_paint_in colors false s.invert

  these_write : writes_matches (matching s colors) ≡ true
  these_write = subst (λ job. writes_matches job ≡ true) is writes

  own_prefix : prefix ≡ prefix_of false (matching s colors) place number
  own_prefix = prefix_is ∙ ap (λ job. prefix_of false job place number) is

  all_of : (result : Result Bool Failure) → IfOk result (IsAllBy r (texts_of line) s.shown own prefix old new) →
      IfOk result (λ selected. Took old new (λ bytes. IsReply r line false (matching s colors) prefix selected 1 bytes))
  all_of (Ok selected) (found, searched, any_is, appends) =
      (flat_map (text_by r s.shown own prefix) found, is_reply r line prefix s colors these_write selected found searched any_is, appends)
  all_of (Err failure) all = tt

  pub replies : (result : Result Bool Failure) → IfOk result (IsAllBy r (texts_of line) shown p prefix old new) →
      IfOk result (λ selected. Took old new (λ bytes. IsReply r line false job (prefix_of false job place number) selected 1 bytes))
  replies result all =
      subst (λ job. IfOk result (λ selected. Took old new (λ bytes. IsReply r line false job (prefix_of false job place number) selected 1 bytes))) (sym is)
      (subst (λ prefix. IfOk result (λ selected. Took old new (λ bytes. IsReply r line false (matching s colors) prefix selected 1 bytes))) own_prefix
      (all_of result
      (subst (λ p. IfOk result (IsAllBy r (texts_of line) s.shown p prefix old new)) paint_is
      (subst (λ shown. IfOk result (IsAllBy r (texts_of line) shown p prefix old new)) shown_is all))))

  part_of : (result : Result Bool Failure) → IfErr result (OrOutput (Took old new (IsPartBy r (texts_of line) s.shown own prefix))) →
      IfErr result (OrOutput (Took old new (IsFirstOrNone r (matching s colors) place number line)))
  part_of (Ok selected) part = tt
  part_of (Err failure) part =
      or_output (Took old new (IsPartBy r (texts_of line) s.shown own prefix)) (Took old new (IsFirstOrNone r (matching s colors) place number line)) failure part
      (λ took. (took.0, is_part r line prefix s colors these_write number place own_prefix took.0 took.1, took.2))

  pub parts : (result : Result Bool Failure) → IfErr result (OrOutput (Took old new (IsPartBy r (texts_of line) shown p prefix))) →
      IfErr result (OrOutput (Took old new (IsFirstOrNone r job place number line)))
  parts result part =
      subst (λ job. IfErr result (OrOutput (Took old new (IsFirstOrNone r job place number line)))) (sym is)
      (part_of result
      (subst (λ p. IfErr result (OrOutput (Took old new (IsPartBy r (texts_of line) s.shown p prefix)))) paint_is
      (subst (λ shown. IfErr result (OrOutput (Took old new (IsPartBy r (texts_of line) shown p prefix)))) shown_is part)))
