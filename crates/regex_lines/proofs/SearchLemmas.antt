-- The lines of an input are searched one after another.
use Rattle.std.proofs.Common.{◌≡◌, inl, inr, ℕ, ◌+◌, Bool, true, false, List, [], ◌∷◌, ◌++◌, Option, Some, None, refl, sym, ap, subst, append-nil, ◌∙◌}
use Rattle.std.specs.Prelude.{Result, Ok, Err, IfErr, if◌then◌else◌, nat_lt}
use Rattle.std.specs.Io.KnownBytes.{Appends, IsAtEnd, Keeps, append_known}
use Rattle.std.specs.List.{FoldsTo}
use Rattle.std.proofs.lemmas.Fn.{FoldsTo-push}
use Rattle.regress_arguments.proofs.lemmas.Output.{appends_both, appends_through}
use Rattle.regress_arguments.specs.Output.{Took}
use Rattle.regress.specs.declared.pattern.Regex.{Regex}
use Rattle.regex_lines.specs.Ending.{AfterFailure, OrOutput}
use Rattle.regex_lines.specs.Searched.{WritesInput, Line as TextLine, Named, AreLinesOf, IsBegunLine, IsStep, PrintsLines, PrintsPart, Progress, SearchesAll, SearchesFirst, SearchesLines, SearchesPart, at_start, is_enough, is_in_place, is_over, printed, written_at_end}
use Rattle.regex_lines.specs.Window.{IsNextLine, Window, first_window}
use Rattle.regex_options.specs.Plain.{Job}
use Rattle.regex_lines.specs.Reading.{IsRead, is_ended, is_last}
use Rattle.regex_lines.specs.declared.failure.Failure.{Failure}
use Rattle.regex_lines.specs.declared.reading.Next.{Next}
use Rattle.regex_lines.specs.declared.reading.Next.TheVariants.{Line, LastLine, End}
use Rattle.regex_lines.proofs.FoldLemmas.{stays}
use Rattle.regex_lines.proofs.LineLemmas.{HasRead, and_next, begins, goes_on as goes_on_reading, ended, ended_by_last, stopped}
use Rattle.regex_lines.proofs.WindowLemmas.{IsAt, Further, next_line, starts}
use Rattle.regex_lines.proofs.lemmas.Failures.{after_any, after_less}

appends_nothing : (known : Option (List ℕ)) → Appends known known []
appends_nothing None = tt
appends_nothing (Some bytes) = sym (append-nil bytes)

-- what is printed of lines that are written to a file, or are not
printed_nothing : (job : Job) (p : Progress) → is_in_place job ≡ true → printed job p ≡ []
printed_nothing job p in_place = ap (λ b. if b then [] else p.written) in_place

printed_written : (job : Job) (p : Progress) → is_in_place job ≡ false → printed job p ≡ p.written
printed_written job p plain = ap (λ b. if b then [] else p.written) plain

either_way : (b : Bool) (xs : List ℕ) → (if b then xs else xs) ≡ xs
either_way true xs = refl
either_way false xs = refl

-- the lines and those after them
whole_of : (multiline : Bool) (old : Option (List ℕ)) (lines : List TextLine) (are : AreLinesOf multiline old false lines) →
    AreLinesOf multiline old true (lines ++ are.others)
whole_of multiline old lines are = record {
  text = are.text;
  known = are.known;
  others = [];
  whole = are.whole ∙ sym (append-nil (lines ++ are.others));
  all = λ _. refl;
}

-- Once the search is over, a line changes nothing.
passed_over : (r : Regex) (job : Job) (place : Named) (p : Progress) → is_over job p.selected p.due ≡ true → (line : TextLine) → IsStep r job place p line p
passed_over r job place p over line =
    record { passed = λ _. refl; searched = λ goes_on. let bad : ⊥ = cc (goes_on, over) in absurd bad }

module _ (r : Regex) (job : Job) (place : Named) (old before : Option (List ℕ)) where
  -- how far the search is: what the reader has lost, and what was written
  pub record SoFar (now after : Option (List ℕ)) (w : Window) : Type 0 where
    pub lines : List TextLine
    pub read : HasRead place.multiline old now lines
    pub progress : Progress
    pub steps : FoldsTo (IsStep r job place) at_start lines progress
    pub at : IsAt r job place w progress
    pub written : Appends before after progress.written

  pub none_yet : (w : Window) → w ≡ first_window → SoFar old before w
  none_yet w is = record {
    lines = [];
    read = begins place.multiline old;
    progress = at_start;
    steps = refl;
    at = subst (λ w. IsAt r job place w at_start) (sym is) (starts r job place);
    written = appends_nothing before;
  }

  pub nothing_first : SearchesFirst r job place old before before
  nothing_first = (at_start, record { lines = []; are = stopped place.multiline old old [] (begins place.multiline old); steps = refl }, appends_nothing before)

  -- the same where nothing is printed yet
  pub nothing_printed : PrintsLines r job place old before before
  nothing_printed = (
    at_start,
    record { lines = []; are = stopped place.multiline old old [] (begins place.multiline old); steps = refl },
    subst (Appends before before) (sym (either_way (is_in_place job) [])) (appends_nothing before),
  )

  -- The lines are printed as they are written.
  pub first_printed : is_in_place job ≡ false → (after : Option (List ℕ)) → SearchesFirst r job place old before after → PrintsLines r job place old before after
  first_printed plain after first = (first.0, first.1, subst (Appends before after) (sym (printed_written job first.0 plain)) first.2)

  -- the first lines as a part
  first_part : (after : Option (List ℕ)) → SearchesFirst r job place old before after → SearchesPart r job place old before after
  first_part after first = (first.0, [], inl (first.1, refl), subst (Appends before after) (sym (append-nil first.0.written)) first.2)

  pub lines_part : (after : Option (List ℕ)) → PrintsLines r job place old before after → PrintsPart r job place old before after
  lines_part after lines = (
    printed job lines.0,
    record { progress = lines.0; more = []; searched = inl (lines.1, refl); is = sym (append-nil (printed job lines.0)) },
    lines.2,
  )

  -- the same after a failure
  pub lines_then : (after : Option (List ℕ)) (failure : Failure) → OrOutput (PrintsLines r job place old before after) failure →
      AfterFailure (PrintsLines r job place old before after) (PrintsPart r job place old before after) failure
  lines_then after failure = after_any (PrintsLines r job place old before after) (PrintsPart r job place old before after) (lines_part after) failure

  -- A part is printed as it is written.
  pub part_printed : is_in_place job ≡ false → (after : Option (List ℕ)) → SearchesPart r job place old before after → PrintsPart r job place old before after
  part_printed plain after (p, more, to, appends) = (
    printed job p ++ more,
    record { progress = p; more = more; searched = to; is = refl },
    subst (λ front. Appends before after (front ++ more)) (sym (printed_written job p plain)) appends,
  )

  -- Of all lines the first ones are printed.
  pub all_printed : is_in_place job ≡ false → (after : Option (List ℕ)) (n : ℕ) → SearchesAll r job place old before after n → PrintsLines r job place old before after
  all_printed plain after n all =
      let are = all.1.are in
      first_printed plain after (
        all.0,
        record {
          lines = all.1.lines;
          are = record {
            text = are.text;
            known = are.known;
            others = are.others;
            whole = are.whole;
            all = λ is. let bad : ⊥ = cc is in absurd bad;
          };
          steps = all.1.steps;
        },
        all.3,
      )

  -- The lines were written through a buffer, which was empty at the start.
  pub through_buffer : (start between after : Option (List ℕ)) (n : ℕ) → start ≡ append_known before [] → Keeps between after →
      SearchesAll r job place old start between n → SearchesAll r job place old before after n
  through_buffer start between after n empty kept all =
      (all.0, all.1, all.2, appends_through before start between after empty kept all.0.written all.3)

  -- The lines are in a file, and what is shown at the end is printed.
  pub rewritten : is_in_place job ≡ true → (after : Option (List ℕ)) (n : ℕ) → SearchesLines r job place old n →
      Appends before after (written_at_end job place n) → WritesInput r job place old before after (nat_lt 0 n)
  rewritten in_place after n all end = (
    written_at_end job place n,
    record {
      progress = all.0;
      searched = all.1;
      some = ap (nat_lt 0) (sym all.2);
      is = ap (written_at_end job place) (sym all.2) ∙ ap (λ front. front ++ written_at_end job place all.0.selected) (sym (printed_nothing job all.0 in_place));
    },
    end,
  )

  pub whole : is_in_place job ≡ false → (between after : Option (List ℕ)) (n : ℕ) → SearchesAll r job place old before between n →
      Appends between after (written_at_end job place n) → WritesInput r job place old before after (nat_lt 0 n)
  whole plain between after n all end =
      let p = all.0 in
      let bytes = p.written ++ written_at_end job place n in (
        bytes,
        record {
          progress = p;
          searched = all.1;
          some = ap (nat_lt 0) (sym all.2);
          is = ap (λ k. p.written ++ written_at_end job place k) (sym all.2) ∙ ap (λ front. front ++ written_at_end job place p.selected) (sym (printed_written job p plain));
        },
        appends_both before between after p.written (written_at_end job place n) all.3 end,
      )

  module _ (now between after : Option (List ℕ)) (w : Window) (sofar : SoFar now between w) (line : TextLine) (new : Window)
      (goes_on : is_over job w.selected w.due ≡ false) (took : Took between after (IsNextLine r job place w line new)) where
    further : Further r job place sofar.progress line new took.0
    further = next_line r job place w sofar.progress sofar.at line new took.0 took.1

    step : IsStep r job place sofar.progress line further.next
    step = record {
      passed = λ over. let bad : ⊥ = cc (sofar.at.selected, sofar.at.due, goes_on, over) in absurd bad;
      searched = λ _. further.searched;
    }

    writes : Appends before after further.next.written
    writes =
        subst (Appends before after) (sym further.written)
        (appends_both before between after sofar.progress.written took.0 sofar.written took.2)

    pub another : (left : Option (List ℕ)) → line.ended ≡ true → IsRead place.multiline now left line.bytes Line → SoFar left after new
    another left ended read = record {
      lines = sofar.lines ++ line ∷ [];
      read = subst (λ end. HasRead place.multiline old left (sofar.lines ++ record { bytes = line.bytes; ended = end } ∷ [])) (sym ended)
          (goes_on_reading place.multiline old now sofar.lines sofar.read left line.bytes read);
      progress = further.next;
      steps = FoldsTo-push (IsStep r job place) at_start sofar.lines sofar.progress line further.next sofar.steps step;
      at = further.at;
      written = writes;
    }

    pub last : (left : Option (List ℕ)) → IsRead place.multiline now left line.bytes (LastLine line.ended) → SearchesAll r job place old before after new.selected
    last left read = (
      further.next,
      record {
        lines = sofar.lines ++ line ∷ [];
        are = ended_by_last place.multiline old now sofar.lines sofar.read left line read;
        steps = FoldsTo-push (IsStep r job place) at_start sofar.lines sofar.progress line further.next sofar.steps step;
      },
      further.at.selected,
      writes,
    )

  module _ (now after : Option (List ℕ)) (w : Window) (sofar : SoFar now after w) where
    pub all : IsAtEnd now → SearchesAll r job place old before after w.selected
    all is = (
      sofar.progress,
      record { lines = sofar.lines; are = ended place.multiline old now sofar.lines sofar.read is; steps = sofar.steps },
      sofar.at.selected,
      sofar.written,
    )

    -- The lines that are left are passed over.
    pub enough : is_over job w.selected w.due ≡ true → SearchesAll r job place old before after w.selected
    enough is = (
      sofar.progress,
      record {
        lines = sofar.lines ++ (stopped place.multiline old now sofar.lines sofar.read).others;
        are = whole_of place.multiline old sofar.lines (stopped place.multiline old now sofar.lines sofar.read);
        steps = stays (IsStep r job place) at_start sofar.progress sofar.lines (stopped place.multiline old now sofar.lines sofar.read).others
            (passed_over r job place sofar.progress ((λ i. is_over job (sofar.at.selected i) (sofar.at.due i)) ∙ is)) sofar.steps;
      },
      sofar.at.selected,
      sofar.written,
    )

    pub first : SearchesFirst r job place old before after
    first = (
      sofar.progress,
      record { lines = sofar.lines; are = stopped place.multiline old now sofar.lines sofar.read; steps = sofar.steps },
      sofar.written,
    )

    pub first_then : (failure : Failure) → AfterFailure (SearchesFirst r job place old before after) (SearchesPart r job place old before after) failure
    first_then failure = after_any (SearchesFirst r job place old before after) (SearchesPart r job place old before after) (first_part after) failure (inr first)

    pub first_if : {X : Type 0} (result : Result X Failure) →
        IfErr result (AfterFailure (SearchesFirst r job place old before after) (SearchesPart r job place old before after))
    first_if (Ok x) = tt
    first_if (Err failure) = first_then failure

    -- after a failure of the search of the next line
    module _ (left : Option (List ℕ)) (line : List ℕ) (next : Next) (not_end : next ≡ End → ⊥) (read : IsRead place.multiline now left line next) (new : Option (List ℕ)) where
      abbrev text_line : TextLine
      text_line = record { bytes = line; ended = is_ended next }

      none_of_next : Appends after new [] → SearchesFirst r job place old before new
      none_of_next none = (
        sofar.progress,
        record { lines = sofar.lines; are = stopped place.multiline old now sofar.lines sofar.read; steps = sofar.steps },
        subst (Appends before new) (append-nil sofar.progress.written) (appends_both before after new sofar.progress.written [] sofar.written none),
      )

      part_of_next : Took after new (IsBegunLine r job place (is_enough job w.selected) (w.number + 1) text_line) → SearchesPart r job place old before new
      part_of_next took = (
        sofar.progress,
        took.0,
        inr (record {
          lines = sofar.lines;
          next = text_line;
          are = and_next place.multiline old now sofar.lines sofar.read left line next not_end read;
          steps = sofar.steps;
          begun = subst (λ n. IsBegunLine r job place (is_enough job sofar.progress.selected) (n + 1) text_line took.0) (sym sofar.at.number)
              (subst (λ n. IsBegunLine r job place (is_enough job n) (w.number + 1) text_line took.0) (sym sofar.at.selected) took.1);
        }),
        appends_both before after new sofar.progress.written took.0 sofar.written took.2,
      )

      pub of_next : (failure : Failure) →
          AfterFailure (Appends after new []) (Took after new (IsBegunLine r job place (is_enough job w.selected) (w.number + 1) text_line)) failure →
          AfterFailure (SearchesFirst r job place old before new) (SearchesPart r job place old before new) failure
      of_next failure = after_less _ _ (SearchesFirst r job place old before new) (SearchesPart r job place old before new) none_of_next part_of_next failure

pub line_of : (next : Next) → (next ≡ End → ⊥) → is_last next ≡ false → next ≡ Line
line_of Line not_end not_last = refl
line_of (LastLine ended) not_end not_last = let bad : ⊥ = cc not_last in absurd bad
line_of End not_end not_last = absurd (not_end refl)

pub last_of : (next : Next) → is_last next ≡ true → next ≡ LastLine (is_ended next)
last_of Line is = let bad : ⊥ = cc is in absurd bad
last_of (LastLine ended) is = refl
last_of End is = let bad : ⊥ = cc is in absurd bad

pub is_end : (multiline : Bool) (old new : Option (List ℕ)) (line : List ℕ) → IsRead multiline old new line End → IsAtEnd old
is_end true old new line read = read
is_end false old new line read = read
