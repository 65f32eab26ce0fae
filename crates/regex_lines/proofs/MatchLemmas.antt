-- Matches that are written as they are found.
use Rattle.std.proofs.Common.{◌≡◌, ◌∙◌, ◌⊎◌, inl, inr, ℕ, suc, ◌+◌, ◌<◌, ◌≤◌, ◌^◌, ◌||◌, All, Bool, true, false, List, [], ◌∷◌, ◌++◌, Option, Some, None, length, map, take, drop, get_or, ap, refl, sym, subst, arith, append-nil, flat_map, drop-cons, take-append-drop}
use Rattle.std.specs.Prelude.{◌↔◌, IfErr, IfOk, IsTrue, Result, Ok, Err, nat_lt}
use Rattle.std.specs.Io.KnownBytes.{Appends}
use Rattle.std.proofs.lemmas.Bool.Decides.{nat_tests}
use Rattle.std.proofs.lemmas.Grind.{flat_map-append}
use Rattle.std.proofs.lemmas.List.{map-append, take_all, take_more}
use Rattle.std.proofs.lemmas.List.Elements.{All-cons, All-nil, All-push}
use Rattle.std.proofs.lemmas.List.Folds.{Any-from_list_any, list_any-append, list_any-from_Any}
use Rattle.regress_arguments.proofs.lemmas.Output.{appends_both}
use Rattle.regress_arguments.specs.Output.{Took}
use Rattle.regress_found.specs.Found.{Finds, IsInside, IsLeftmost}
use Rattle.regress_found.specs.Repeated.{AreAllMatches, AreMatches}
use Rattle.regress_found.specs.declared.found.Match.{Match}
use Rattle.regress_match.proofs.lemmas.Searched.{AreMatches-more}
use Rattle.regress.specs.Compiled.{match_of, outcomes_of}
use Rattle.regress.specs.Replaced.{AreFirstMatches}
use Rattle.regress.specs.Searched.{Advances, has_failed, next_from, searched_outcomes, searched_text}
use Rattle.regress.specs.declared.failure.SearchError.{SearchError}
use Rattle.regress.specs.declared.found.Match as found
use Rattle.regress.specs.declared.pattern.Regex.{Regex}
use Rattle.regress.specs.declared.search.Matches.{Matches}
use Rattle.regress.proofs.lemmas.Paid.{HasPaid, one_more_paid, out_of_steps}
use Rattle.regex_options.specs.declared.task.Shown.{Shown}
use Rattle.regex_options.specs.declared.task.Shown.TheVariants.{Lines, Count, Names, Nothing}
use Rattle.regex_lines.specs.Ending.{IsCostly, IsSearchError, OrOutput}
use Rattle.regex_lines.specs.InLine.{AreInLine, HasMatch, HasOffsets, IsFirstBy, IsPartBy, has_matches, match_by, text_by}
use Rattle.regex_lines.specs.Paint.{LinePaint}
use Rattle.regex_lines.specs.Reply.{AreSearched, Run, TextMatches, run_of}
use Rattle.regex_lines.specs.declared.failure.Failure.{Failure}
use Rattle.regex_lines.specs.declared.runs.Run as code
use Rattle.regex_lines.proofs.CostLemmas.{costly_error}
use Rattle.regex_lines.proofs.lemmas.Failures.{or_output}

-- Nothing is written for a match where none is shown.
pub none_by : (r : Regex) (shown : Shown) (p : LinePaint) (prefix : List ℕ) (run : Run) (m : Match) →
    (shown ≡ Lines) ⊎ (shown ≡ Count) ⊎ (shown ≡ Names) ⊎ (shown ≡ Nothing) → match_by r shown p prefix run m ≡ []
none_by r shown p prefix run m (inl is) = ap (λ shown. match_by r shown p prefix run m) is
none_by r shown p prefix run m (inr (inl is)) = ap (λ shown. match_by r shown p prefix run m) is
none_by r shown p prefix run m (inr (inr (inl is))) = ap (λ shown. match_by r shown p prefix run m) is
none_by r shown p prefix run m (inr (inr (inr is))) = ap (λ shown. match_by r shown p prefix run m) is

appends_nothing : (known : Option (List ℕ)) → Appends known known []
appends_nothing None = tt
appends_nothing (Some bytes) = sym (append-nil bytes)

-- The iteration has found these matches in a text without an error, and its steps are at most what they cost.
pub record HasFound (r : Regex) (text : List ℕ) (now : Matches) (ms : List Match) : Type 0 where
  pub same_text : searched_text now ≡ text
  pub same_outcomes : searched_outcomes now ≡ outcomes_of r text
  pub failed : has_failed now ≡ false
  pub found : AreMatches text (outcomes_of r text) 0 (next_from now) ms
  pub paid : HasPaid r text 0 now ms

module _ (r : Regex) (text : List ℕ) (now : Matches) (ms : List Match) (sofar : HasFound r text now ms) where
  next_found : (new : Matches) (m : found.Match) → Advances now (Some (Ok m)) new → HasFound r text new (ms ++ match_of m ∷ [])
  next_found new m step =
      let next = step.yields.0 in
      let here : IsLeftmost text (outcomes_of r text) (next_from now) (match_of m) =
      subst (λ t. IsLeftmost t (outcomes_of r text) (next_from now) (match_of m)) sofar.same_text
      (subst (λ f. IsLeftmost (searched_text now) f (next_from now) (match_of m)) sofar.same_outcomes next.leftmost) in
      record {
        same_text = step.same.text ∙ sofar.same_text;
        same_outcomes = step.same.outcomes ∙ sofar.same_outcomes;
        failed = step.yields.1;
        found = subst (λ k. AreMatches text (outcomes_of r text) 0 k (ms ++ match_of m ∷ [])) (sym next.goes_on)
            (AreMatches-more text (outcomes_of r text) 0 (next_from now) ms (match_of m) sofar.found here);
        paid = one_more_paid r text 0 now ms sofar.paid sofar.found new m step;
      }

  pub inside_text : (new : Matches) (m : found.Match) → Advances now (Some (Ok m)) new → IsInside text (match_of m)
  inside_text new m step = subst (λ t. IsInside t (match_of m)) sofar.same_text step.yields.0.inside

  all_found : (new : Matches) → Advances now None new → AreAllMatches text (outcomes_of r text) ms
  all_found new step = record {
    to = next_from now;
    found = sofar.found;
    none = subst (λ t. Finds t (outcomes_of r text) (next_from now) None) sofar.same_text
        (subst (λ f. Finds (searched_text now) f (next_from now) None) sofar.same_outcomes (step.yields sofar.failed));
  }

  first_found : AreFirstMatches text (outcomes_of r text) (length ms) ms
  first_found = record { to = next_from now; found = sofar.found; few = omega arith; all = λ less. absurd (omega (arith, less)) }

  pub costly : (new : Matches) (e : SearchError) → Advances now (Some (Err e)) new → IsSearchError (IsCostly r) e
  costly new e step =
      costly_error r text e (λ is. (out_of_steps r text 0 now ms sofar.paid sofar.found new e step is).linear)
      (λ is. (out_of_steps r text 0 now ms sofar.paid sofar.found new e step is).costs)

-- the output of the first matches in a text
abbrev pub IsPart : Regex → Shown → LinePaint → (prefix : List ℕ) → Run → (old new : Option (List ℕ)) → Type 0
IsPart r shown p prefix run old new = (n : ℕ) × (ms : List Match) × AreFirstMatches run.text (outcomes_of r run.text) n ms
    × Appends old new (flat_map (match_by r shown p prefix run) ms)

-- the matches in a text, where matches are shown like this
module _ (r : Regex) (shown : Shown) (p : LinePaint) (prefix : List ℕ) (run : Run) (before : Option (List ℕ)) (old : Bool) where
  -- the matches that are written so far
  pub record SoFar (now : Matches) (any : Bool) (filled : List ℕ) (after : Option (List ℕ)) : Type 0 where
    pub ms : List Match
    pub has : HasFound r run.text now ms
    pub any_is : any ≡ old || nat_lt 0 (length ms)
    pub prefix_is : any ≡ true → filled ≡ prefix
    pub written : Appends before after (flat_map (match_by r shown p prefix run) ms)

  or_none : (b : Bool) → b ≡ b || nat_lt 0 0
  or_none true = refl
  or_none false = refl

  or_some : (b : Bool) (n : ℕ) → 0 < n → true ≡ b || nat_lt 0 n
  or_some true n some = refl
  or_some false n some = grind (arith, nat_tests)

  pub begins : (now : Matches) (filled : List ℕ) → searched_text now ≡ run.text → searched_outcomes now ≡ outcomes_of r run.text → has_failed now ≡ false →
      next_from now ≡ 0 → HasPaid r run.text 0 now [] → (old ≡ true → filled ≡ prefix) → SoFar now old filled before
  begins now filled same_text same_outcomes failed from paid prefix_is = record {
    ms = [];
    has = record { same_text = same_text; same_outcomes = same_outcomes; failed = failed; found = from; paid = paid };
    any_is = or_none old;
    prefix_is = prefix_is;
    written = appends_nothing before;
  }

  pub none_found : AreAllMatches run.text (outcomes_of r run.text) [] →
      (ms : List Match) × AreAllMatches run.text (outcomes_of r run.text) ms × (old ≡ old || nat_lt 0 (length ms))
      × Appends before before (flat_map (match_by r shown p prefix run) ms)
  none_found all = ([], all, or_none old, appends_nothing before)

  module _ (now : Matches) (any : Bool) (filled : List ℕ) (between : Option (List ℕ)) (sofar : SoFar now any filled between) where
    pub goes_on : (new : Matches) (m : found.Match) → Advances now (Some (Ok m)) new → (any_new : Bool) (filled_new : List ℕ) (after : Option (List ℕ)) →
        any_new ≡ true → filled_new ≡ prefix → Appends between after (match_by r shown p prefix run (match_of m)) → SoFar new any_new filled_new after
    goes_on new m step any_new filled_new after is filled_is appends = record {
      ms = sofar.ms ++ match_of m ∷ [];
      has = next_found r run.text now sofar.ms sofar.has new m step;
      any_is = is ∙ or_some old (length (sofar.ms ++ match_of m ∷ [])) (some sofar.ms (match_of m));
      prefix_is = λ _. filled_is;
      written = subst (Appends before after)
          (ap (λ bytes. flat_map (match_by r shown p prefix run) sofar.ms ++ bytes) (sym (append-nil (match_by r shown p prefix run (match_of m))))
          ∙ sym (flat_map-append (match_by r shown p prefix run) sofar.ms (match_of m ∷ [])))
          (appends_both before between after _ _ sofar.written appends);
    }
      where
        some : (ms : List Match) (m : Match) → 0 < length (ms ++ m ∷ [])
        some [] m = omega arith
        some (x ∷ ms) m = omega arith

    pub all_written : (new : Matches) → Advances now None new →
        (ms : List Match) × AreAllMatches run.text (outcomes_of r run.text) ms × (any ≡ old || nat_lt 0 (length ms))
        × Appends before between (flat_map (match_by r shown p prefix run) ms)
    all_written new step = (sofar.ms, all_found r run.text now sofar.ms sofar.has new step, sofar.any_is, sofar.written)

    pub first_written : IsPart r shown p prefix run before between
    first_written = (length sofar.ms, sofar.ms, first_found r run.text now sofar.ms sofar.has, sofar.written)

or_false : (b : Bool) → b ≡ b || false
or_false true = refl
or_false false = refl

-- the matches in texts
module _ (r : Regex) (shown : Shown) (p : LinePaint) (prefix : List ℕ) (texts : List code.Run) (before : Option (List ℕ)) where
  -- the matches in the first texts are written
  pub record FirstTexts (i : ℕ) (any : Bool) (filled : List ℕ) (after : Option (List ℕ)) : Type 0 where
    pub found : List TextMatches
    pub searched : AreSearched r (map run_of (take i texts)) found
    pub any_is : any ≡ has_matches found
    pub prefix_is : any ≡ true → filled ≡ prefix
    pub written : Appends before after (flat_map (text_by r shown p prefix) found)

  pub no_text : (any : Bool) (filled : List ℕ) → any ≡ false → FirstTexts 0 any filled before
  no_text any filled none = record {
    found = [];
    searched = record { texts_are = refl; all = All-nil (λ (f : TextMatches). AreAllMatches f.run.text (outcomes_of r f.run.text) f.matches) };
    any_is = none;
    prefix_is = λ is. let bad : ⊥ = cc (is, none) in absurd bad;
    written = appends_nothing before;
  }

  module _ (i : ℕ) (any : Bool) (filled : List ℕ) (between : Option (List ℕ)) (sofar : FirstTexts i any filled between) where
    pub every_text : length texts ≤ i → (found : List TextMatches) × AreSearched r (map run_of texts) found × (any ≡ has_matches found)
        × Appends before between (flat_map (text_by r shown p prefix) found)
    every_text all = (
      sofar.found,
      subst (λ (some : List code.Run). AreSearched r (map run_of some) sofar.found) (take_all i texts all) sofar.searched,
      sofar.any_is,
      sofar.written,
    )

    module _ (d : code.Run) (within : i < length texts) (after : Option (List ℕ)) where
      abbrev run : code.Run
      run = get_or texts i d

      more_written : (ms : List Match) → Appends between after (flat_map (match_by r shown p prefix (run_of run)) ms) →
          Appends before after (flat_map (text_by r shown p prefix) (sofar.found ++ record { run = run_of run; matches = ms } ∷ []))
      more_written ms appends =
          subst (Appends before after)
          (ap (λ bytes. flat_map (text_by r shown p prefix) sofar.found ++ bytes) (sym (append-nil (flat_map (match_by r shown p prefix (run_of run)) ms)))
          ∙ sym (flat_map-append (text_by r shown p prefix) sofar.found (record { run = run_of run; matches = ms } ∷ [])))
          (appends_both before between after _ _ sofar.written appends)

      pub next_text : (ms : List Match) → AreAllMatches run.text.now (outcomes_of r run.text.now) ms → (any_new : Bool) (filled_new : List ℕ) →
          any_new ≡ any || nat_lt 0 (length ms) → (any_new ≡ true → filled_new ≡ prefix) →
          Appends between after (flat_map (match_by r shown p prefix (run_of run)) ms) → FirstTexts (i + 1) any_new filled_new after
      next_text ms all any_new filled_new any_is prefix_is appends =
          let f : TextMatches = record { run = run_of run; matches = ms } in
          record {
            found = sofar.found ++ f ∷ [];
            searched = record {
              texts_are =
                  map-append (λ (f : TextMatches). f.run) sofar.found (f ∷ [])
                  ∙ ap (λ (xs : List Run). xs ++ run_of run ∷ []) sofar.searched.texts_are
                  ∙ sym (map-append run_of (take i texts) (run ∷ []))
                  ∙ ap (map run_of) (sym (take_more texts i d within));
              all = All-push (λ (f : TextMatches). AreAllMatches f.run.text (outcomes_of r f.run.text) f.matches) sofar.found f sofar.searched.all all;
            };
            any_is = any_is ∙ ap (λ b. b || nat_lt 0 (length ms)) sofar.any_is
                ∙ ap (λ b. has_matches sofar.found || b) (or_false (nat_lt 0 (length ms)))
                ∙ sym (list_any-append (λ (f : TextMatches). nat_lt 0 (length f.matches)) sofar.found (f ∷ []));
            prefix_is = prefix_is;
            written = more_written ms appends;
          }

      pub part_of_text : IsPart r shown p prefix (run_of run) between after → Took before after (IsFirstBy r (map run_of texts) shown p prefix)
      part_of_text (n, ms, first, appends) =
          let f : TextMatches = record { run = run_of run; matches = ms } in
          let found = sofar.found ++ f ∷ [] in (
            flat_map (text_by r shown p prefix) found,
            (
              found,
              record {
                done = map run_of (take i texts);
                next = run_of run;
                others = map run_of (drop (suc i) texts);
                texts_are =
                    ap (map run_of) (sym (take-append-drop i texts))
                    ∙ map-append run_of (take i texts) (drop i texts)
                    ∙ ap (λ (xs : List code.Run). map run_of (take i texts) ++ map run_of xs) (drop-cons texts i d within);
                before = sofar.found;
                searched = sofar.searched;
                n = n;
                first = ms;
                are_first = first;
                is = refl;
              },
              refl,
            ),
            more_written ms appends,
          )

-- the output of all matches in texts, and whether there are any
abbrev pub IsAllBy : Regex → (texts : List Run) → Shown → LinePaint → (prefix : List ℕ) → (old new : Option (List ℕ)) → (any : Bool) → Type 0
IsAllBy r texts shown p prefix old new any = (found : List TextMatches) × AreSearched r texts found × (any ≡ has_matches found)
    × Appends old new (flat_map (text_by r shown p prefix) found)

pub of_texts : (r : Regex) (texts line : List Run) (shown : Shown) (p : LinePaint) (prefix : List ℕ) (old new : Option (List ℕ)) (result : Result Bool Failure) → texts ≡ line →
    IfOk result (IsAllBy r texts shown p prefix old new) → IfOk result (IsAllBy r line shown p prefix old new)
of_texts r texts line shown p prefix old new result same all = subst (λ (texts : List Run). IfOk result (IsAllBy r texts shown p prefix old new)) same all

pub part_of_texts : (r : Regex) (texts line : List Run) (shown : Shown) (p : LinePaint) (prefix : List ℕ) (old new : Option (List ℕ)) (result : Result Bool Failure) → texts ≡ line →
    IfErr result (OrOutput (Took old new (IsFirstBy r texts shown p prefix))) → IfErr result (OrOutput (Took old new (IsPartBy r line shown p prefix)))
part_of_texts r texts line shown p prefix old new (Ok any) same part = tt
part_of_texts r texts line shown p prefix old new (Err failure) same part =
    or_output (Took old new (IsFirstBy r texts shown p prefix)) (Took old new (IsPartBy r line shown p prefix)) failure part
    (λ took. (took.0, inr (subst (λ (texts : List Run). IsFirstBy r texts shown p prefix took.0) same took.1), took.2))

pub no_part : (r : Regex) (texts : List Run) (shown : Shown) (p : LinePaint) (prefix : List ℕ) (old : Option (List ℕ)) → Took old old (IsPartBy r texts shown p prefix)
no_part r texts shown p prefix old = ([], inl refl, appends_nothing old)

-- Texts that are in order in a line have offsets of 64 bits.
pub runs_have_offsets : (len from : ℕ) (runs : List code.Run) → len < 2 ^ 64 → AreInLine len from (map run_of runs) → All (λ run. HasOffsets (run_of run)) runs
runs_have_offsets len from [] short within = All-nil (λ (run : code.Run). HasOffsets (run_of run))
runs_have_offsets len from (run ∷ runs) short within =
    All-cons (λ (run : code.Run). HasOffsets (run_of run)) run runs
    (omega (arith, short, ends len (run.start + length run.text.now) (map run_of runs) within.1))
    (runs_have_offsets len (run.start + length run.text.now) runs short within.1)
  where
    ends : (len from : ℕ) (runs : List Run) → AreInLine len from runs → from ≤ len
    ends len from [] within = within
    ends len from (run ∷ runs) within = omega (arith, within.0, ends len (run.start + length run.text) runs within.1)

-- whether there are matches
pub has_some : (found : List TextMatches) → IsTrue (has_matches found) ↔ HasMatch found
has_some found = (
  (λ is.
      let some = Any-from_list_any (λ (f : TextMatches). nat_lt 0 (length f.matches)) found (let yes : has_matches found ≡ true = cc is in yes) in
      (some.0, some.1, some.2, some.3, positive (length some.1.matches) some.4)),
  (λ some. by (has_matches found)
      (list_any-from_Any (λ (f : TextMatches). nat_lt 0 (length f.matches)) found (some.0, some.1, some.2, some.3, counted (length some.1.matches) some.4))),
)
  where
    positive : (n : ℕ) → nat_lt 0 n ≡ true → 0 < n
    positive n is = grind (arith, nat_tests)

    counted : (n : ℕ) → 0 < n → nat_lt 0 n ≡ true
    counted n is = grind (arith, nat_tests)

    by : (b : Bool) → b ≡ true → IsTrue b
    by true is = refl
    by false is = let bad : ⊥ = cc is in absurd bad

or_first : (a b : Bool) → a || b ≡ false → a ≡ false
or_first true b is = is
or_first false b is = refl

some_not : (n : ℕ) (b : Bool) → nat_lt 0 (suc n) || b ≡ false → ⊥
some_not n b is =
    let no : nat_lt 0 (suc n) ≡ false = or_first (nat_lt 0 (suc n)) b is in
    let yes : nat_lt 0 (suc n) ≡ true = grind (arith, nat_tests) in
    let bad : ⊥ = cc (no, yes) in bad

-- Nothing is written for texts without matches.
pub nothing_by : (r : Regex) (shown : Shown) (p : LinePaint) (prefix : List ℕ) (found : List TextMatches) → has_matches found ≡ false →
    flat_map (text_by r shown p prefix) found ≡ []
nothing_by r shown p prefix [] none = refl
nothing_by r shown p prefix (f ∷ fs) none = by f.matches (nothing_by r shown p prefix fs) none
  where
    by : (ms : List Match) → (has_matches fs ≡ false → flat_map (text_by r shown p prefix) fs ≡ []) → nat_lt 0 (length ms) || has_matches fs ≡ false →
        flat_map (match_by r shown p prefix f.run) ms ++ flat_map (text_by r shown p prefix) fs ≡ []
    by [] rest none = rest none
    by (m ∷ ms) rest none = absurd (some_not (length ms) (has_matches fs) none)
