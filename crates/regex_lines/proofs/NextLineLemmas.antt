-- The next line of an input, of which the matches may be written as they are found.
use Rattle.std.proofs.Common.{◌≡◌, inl, ℕ, ◌+◌, ◌≤◌, Bool, true, false, cond, List, [], Option, Some, None, length, map, ap, refl, sym, subst, arith, append-nil}
use Rattle.std.specs.Prelude.{Result, Ok, Err, IfErr, OnOk}
use Rattle.std.specs.Io.KnownBytes.{Appends, Keeps}
use Rattle.std.specs.Prelude.{Vec}
use Rattle.std.specs.declared.alloc.Global.{Global}
use Rattle.std.proofs.lemmas.List.{length-map, nil_from_length}
use Rattle.regress_arguments.proofs.lemmas.Output.{appends_both, appends_kept}
use Rattle.regress_arguments.specs.Output.{Took}
use Rattle.regress.specs.declared.pattern.Regex.{Regex}
use Rattle.regex_options.specs.Plain.{Job}
use Rattle.regex_options.specs.declared.task.Context.{Context}
use Rattle.regex_lines.specs.Ending.{AfterFailure, IsSearchFailure, OrOutput}
use Rattle.regex_lines.specs.Reply.{IsReply, writes_matches}
use Rattle.regex_lines.specs.Searched.{IsAccepted, IsBegunLine, IsFirstOrNone, IsFound, Line, Named, colors_of, context_of, is_enough, lines_after, lines_before, prefix_of, separator}
use Rattle.regex_lines.specs.Window.{IsInFront, IsNextLine, IsOther, IsShownBy, Window, with_selected}
use Rattle.regex_lines.specs.declared.failure.Failure.{Failure}
use Rattle.regex_lines.proofs.FoundReplyLemmas.{no_context, none_written, whatever_end}
use Rattle.regex_lines.proofs.WindowLemmas.{nothing_in_front}
use Rattle.regex_lines.proofs.lemmas.Failures.{after_any, after_search, or_output}

pub appends_nothing : (known : Option (List ℕ)) → Appends known known []
appends_nothing None = tt
appends_nothing (Some bytes) = sym (append-nil bytes)

pub short_window : (lines : List (Vec ℕ Global)) (n : ℕ) → length lines ≤ n → length (map (λ line. line.items) lines) ≤ n
short_window lines n short = omega (arith, short, length-map lines (λ (line : Vec ℕ Global). line.items))

-- what was written for the line that the code looks at
pub taken : (r : Regex) (job : Job) (place : Named) (number : ℕ) (read line : List ℕ) → read ≡ line → (old between : Option (List ℕ)) (selected : Bool) →
    Took old between (λ bytes. IsReply r read false job (prefix_of false job place (number + 1)) selected 1 bytes) →
    Took old between (λ bytes. IsReply r line false job (prefix_of false job place (number + 1)) selected 1 bytes)
taken r job place number read line same old between selected took =
    subst (λ line. Took old between (λ bytes. IsReply r line false job (prefix_of false job place (number + 1)) selected 1 bytes)) same took

-- Without lines around selected ones nothing is in front of one.
no_separator : (job : Job) (b : Bool) (context : Option Context) → context ≡ None → cond b (separator (colors_of job) context) [] ≡ []
no_separator job true context none = ap (separator (colors_of job)) none
no_separator job false context none = refl

none_hidden : (w : Window) (context : Option Context) → context ≡ None → length w.hidden ≤ lines_before context → w.hidden ≡ []
none_hidden w context none short =
    let within : length w.hidden ≤ 0 = subst (λ context. length w.hidden ≤ lines_before context) none short in
    nil_from_length w.hidden (omega (arith, within))

module _ (r : Regex) (job : Job) (place : Named) (w : Window) (writes : writes_matches job ≡ true)
    (short : length w.hidden ≤ lines_before (context_of job)) where
  front : IsInFront r job place w []
  front = nothing_in_front r job place w false (no_separator job _ (context_of job) (no_context job writes)) refl (none_hidden w (context_of job) (no_context job writes) short)

  module _ (line : List ℕ) (old between : Option (List ℕ)) (selected : Bool)
      (took : Took old between (λ bytes. IsReply r line false job (prefix_of false job place (w.number + 1)) selected 1 bytes)) where
    -- matches are found, and written
    pub some_shown : selected ≡ true → (after : Option (List ℕ)) → Keeps between after → (new : Window) →
        new ≡ with_selected (w.selected + 1) (lines_after (context_of job)) w → Took old after (IsShownBy r job place w line new)
    some_shown is after kept new new_is = (
      took.0,
      record {
        selected = true;
        bytes = took.0;
        reply = subst (λ selected. IsReply r line false job (prefix_of false job place (w.number + 1)) selected 1 took.0) is took.1;
        shown = (([], front, refl), new_is);
      },
      appends_kept old between after took.0 took.2 kept,
    )

    nothing_taken : selected ≡ false → Appends old between []
    nothing_taken is =
        subst (Appends old between)
        (none_written r line job (prefix_of false job place (w.number + 1)) took.0 writes
        (subst (λ selected. IsReply r line false job (prefix_of false job place (w.number + 1)) selected 1 took.0) is took.1))
        took.2

    -- no match is found
    pub none_shown : selected ≡ false → (after : Option (List ℕ)) (new : Window) → Took between after (IsOther r job place w line new) → Took old after (IsShownBy r job place w line new)
    none_shown is after new other = (
      other.0,
      record {
        selected = false;
        bytes = took.0;
        reply = subst (λ selected. IsReply r line false job (prefix_of false job place (w.number + 1)) selected 1 took.0) is took.1;
        shown = other.1;
      },
      appends_both old between after [] other.0 (nothing_taken is) other.2,
    )

    pub if_none_shown : selected ≡ false → (after : Option (List ℕ)) (new : Window) (result : Result (Unit {0}) Failure) →
        OnOk result (Took between after (IsOther r job place w line new)) → OnOk result (Took old after (IsShownBy r job place w line new))
    if_none_shown is after new (Ok x) other = none_shown is after new other
    if_none_shown is after new (Err failure) other = tt

-- after a failure of the search of the next line
module _ (r : Regex) (job : Job) (place : Named) (number : ℕ) (line : List ℕ) (old after : Option (List ℕ)) where
  abbrev Nothing : Type 0
  Nothing = Appends old after []

  abbrev Part : Type 0
  Part = Took old after (IsFirstOrNone r job place number line)

  no_part : Nothing → Part
  no_part none = ([], inl refl, none)

  pub none_after : (failure : Failure) → OrOutput Nothing failure → AfterFailure Nothing Part failure
  none_after failure = after_any Nothing Part no_part failure

  pub part_after : (costly : Type 0) (failure : Failure) → IsSearchFailure costly failure →
      OrOutput Part failure → AfterFailure Nothing Part failure
  part_after costly failure may part = after_search costly Nothing Part failure may part

-- the next line, whether matches are written as they are found or not
module _ (r : Regex) (job : Job) (place : Named) (w : Window) (line : Line) (accepted : IsAccepted place.encoding line.bytes) (old after : Option (List ℕ)) where
  pub is_next : writes_matches job ≡ true → is_enough job w.selected ≡ false → (new : Window) → Took old after (IsShownBy r job place w line.bytes new) →
      Took old after (IsNextLine r job place w line new)
  is_next writes goes_on new took = (
    took.0,
    record {
      accepted = accepted;
      selected = took.1.selected;
      count = 1;
      bytes = took.1.bytes;
      found = by (is_enough job w.selected) goes_on;
      shown = took.1.shown;
    },
    took.2,
  )
    where
      by : (enough : Bool) → enough ≡ false → IsFound r job place enough (w.number + 1) line took.1.selected 1 took.1.bytes
      by true is = let bad : ⊥ = cc is in absurd bad
      by false is = whatever_end r line.bytes line.ended job (prefix_of false job place (w.number + 1)) took.1.selected 1 took.1.bytes writes took.1.reply

  pub if_next : {X : Type 0} (result : Result X Failure) → writes_matches job ≡ true → is_enough job w.selected ≡ false → (new : Window) →
      OnOk result (Took old after (IsShownBy r job place w line.bytes new)) → OnOk result (Took old after (IsNextLine r job place w line new))
  if_next (Ok x) writes goes_on new took = is_next writes goes_on new took
  if_next (Err failure) writes goes_on new took = tt

-- what was written for the next line when its search failed
module _ (r : Regex) (job : Job) (place : Named) (w : Window) (line : Line) where
  begun_none : (enough : Bool) → IsBegunLine r job place enough (w.number + 1) line []
  begun_none true = refl
  begun_none false = inl refl

  pub nothing_begun : (old after : Option (List ℕ)) (failure : Failure) → OrOutput (Appends old after []) failure →
      AfterFailure (Appends old after []) (Took old after (IsBegunLine r job place (is_enough job w.selected) (w.number + 1) line)) failure
  nothing_begun old after failure =
      after_any (Appends old after []) (Took old after (IsBegunLine r job place (is_enough job w.selected) (w.number + 1) line))
      (λ none. ([], begun_none (is_enough job w.selected), none)) failure

  pub begun_if : {O : Type 0} (contents : O → Option (List ℕ)) (old after : O) (result : Result (Unit {0}) Failure) → IfErr result (OrOutput (after ≡ old)) →
      IfErr result (AfterFailure (Appends (contents old) (contents after) []) (Took (contents old) (contents after)
      (IsBegunLine r job place (is_enough job w.selected) (w.number + 1) line)))
  begun_if contents old after (Ok x) same = tt
  begun_if contents old after (Err failure) same =
      nothing_begun (contents old) (contents after) failure
      (or_output (after ≡ old) (Appends (contents old) (contents after) []) failure same
      (λ is. subst (λ out. Appends (contents old) (contents out) []) (sym is) (appends_nothing (contents old))))
