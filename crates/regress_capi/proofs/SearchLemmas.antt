-- The result of a search, from what it computed.
use Rattle.std.proofs.Common.{◌≡◌, ◌+◌, ◌*◌, ◌++◌, ◌<◌, ◌≤◌, ℕ, arith, inl, inr, add-one, drop-cons, false, get_or, IfNone, List, [], ◌∷◌, Option, drop, flat_map, length, length-append, append_assoc, append-nil, refl, sym, ap, ◌∙◌, subst}
use Rattle.std.proofs.lemmas.Grind.{flat_map-append}
use Rattle.std.specs.Prelude.{IfErr, IfOk, MatchOption, MatchResult, None, Some, Result, Ok, Err, option_map}
use Rattle.regress.specs.declared.failure.SearchError.{SearchError}
use Rattle.regress.specs.declared.failure.SearchError.TheVariants.{Memory, OutOfSteps, TooMuchMemory}
use Rattle.regress_front.specs.Steps.{CaptureSpan, MatchState}
use Rattle.regress_found.specs.Found as one
use Rattle.regress_found.specs.declared.found.Match as found
use Rattle.regress_found.specs.Repeated.{AreMatches, next_offset}
use Rattle.regress_match.proofs.lemmas.Memory.{matches_need_more}
use Rattle.regress_match.proofs.lemmas.Searched.{AreMatches-more}
use Rattle.regress.proofs.lemmas.Paid.{HasPaid, none_paid, one_more_paid, out_of_steps as too_costly, too_much_memory as too_large}
use Rattle.regress.specs.Compiled.{outcomes_of, match_of}
use Rattle.regress.specs.Costs.{AllAreTooCostly, CostsLimit, IsTooCostly, factor_in, find_factor_in, matcher_of, step_limit_of}
use Rattle.regress.specs.Memory.{AllNeedMore, match_bytes, memory_of}
use Rattle.regress.specs.Searched.{Advances, has_failed, next_from, search_limit, search_remaining, searched_matcher, searched_outcomes, searched_text}
use Rattle.regress.specs.declared.pattern.Regex.{Regex}
use Rattle.regress.specs.declared.found.Match.{Match}
use Rattle.regress.specs.declared.search.Matches.{Matches}
use Rattle.regress_capi.specs.Spans.{AreEndsOfAll, AreEndsOfFirst, ends_of, match_ends}
use Rattle.regress_capi.specs.SearchResults.{IsBare, status_of, SearchResult, written, no_match, out_of_memory, little, bad, out_of_steps, too_much_memory, TestResult, too_little_memory, too_many_steps, too_large_tables}

-- what is written has the property that was computed, and the arguments are valid
pub search-written : {A : Type 0} {P : List ℕ → Type 0} {Missing Costly Large : Type 0} {old new numbers : List ℕ} {status needed : ℕ} → A → P numbers →
    SearchResult (Unit {0}) (λ xs. xs ≡ numbers) ⊥ ⊥ ⊥ old status needed new → SearchResult A P Missing Costly Large old status needed new
search-written {P = P} asked has (written u gives) = written asked (gives.0, subst P (sym gives.1) has, gives.2, gives.3)
search-written asked has (no_match u none) = absurd none
search-written asked has (out_of_memory u) = out_of_memory asked
search-written {P = P} asked has (little u wants) = little asked (wants.0, subst P (sym wants.1) has, wants.2, wants.3)
search-written asked has (bad none) = absurd (none tt)
search-written asked has (out_of_steps u never) = absurd never
search-written asked has (too_much_memory u never) = absurd never

-- the two ends of one more span are appended
pub span_more : (span : Option CaptureSpan) (rest : List (Option CaptureSpan)) (a b : ℕ) (done whole : List ℕ) → ends_of span ≡ a ∷ b ∷ [] →
    done ++ flat_map ends_of (span ∷ rest) ≡ whole → ((done ++ a ∷ []) ++ b ∷ []) ++ flat_map ends_of rest ≡ whole
span_more span rest a b done whole is so_far =
    ap (λ xs. xs ++ flat_map ends_of rest) (append_assoc done (a ∷ []) (b ∷ [])) ∙ append_assoc done (a ∷ b ∷ []) (flat_map ends_of rest)
    ∙ ap (λ xs. done ++ (xs ++ flat_map ends_of rest)) (sym is) ∙ so_far

-- the same of the next span of a list
pub ends_next : (spans : List (Option CaptureSpan)) (i : ℕ) (d : Option CaptureSpan) (a b : ℕ) (done whole : List ℕ) → i < length spans →
    ends_of (get_or spans i d) ≡ a ∷ b ∷ [] → done ++ flat_map ends_of (drop i spans) ≡ whole →
    ((done ++ a ∷ []) ++ b ∷ []) ++ flat_map ends_of (drop (i + 1) spans) ≡ whole
ends_next spans i d a b done whole below is so_far =
    let next : drop i spans ≡ get_or spans i d ∷ drop (i + 1) spans = rw add-one (drop-cons spans i d below) in
    span_more (get_or spans i d) (drop (i + 1) spans) a b done whole is (subst (λ rest. done ++ flat_map ends_of rest ≡ whole) next so_far)

-- -- of a search for all matches

-- The iteration has found this number of matches, with these numbers, without an error, and goes on after them. Its steps are at most
-- what they cost.
pub record HasEnds (r : Regex) (text : List ℕ) (from : ℕ) (now : Matches) (numbers : List ℕ) (count : ℕ) : Type 0 where
  pub same_text : searched_text now ≡ text
  pub same_outcomes : searched_outcomes now ≡ outcomes_of r text
  pub failed : has_failed now ≡ false
  pub ms : List found.Match
  pub found : AreMatches text (outcomes_of r text) from (next_from now) ms
  pub paid : HasPaid r text from now ms
  pub are : numbers ≡ flat_map match_ends ms
  pub counted : count ≡ length ms

pub no-ends : (r : Regex) (text : List ℕ) (from : ℕ) (now : Matches) (numbers : List ℕ) → searched_text now ≡ text →
    searched_outcomes now ≡ outcomes_of r text → searched_matcher now ≡ matcher_of r → IfNone (factor_in r text) (search_limit now ≡ step_limit_of r) →
    search_remaining now ≡ search_limit now → has_failed now ≡ false → next_from now ≡ from → numbers ≡ [] → HasEnds r text from now numbers 0
no-ends r text from now numbers same_text same_outcomes same_matcher limit all failed start none = record {
  same_text = same_text;
  same_outcomes = same_outcomes;
  failed = failed;
  ms = [];
  found = start;
  paid = none_paid r text from now same_matcher same_text limit all;
  are = none;
  counted = refl;
}

module _ (r : Regex) (text : List ℕ) (from : ℕ) (now : Matches) (numbers : List ℕ) (count : ℕ) (sofar : HasEnds r text from now numbers count)
    (new : Matches) where
  pub more-ends : (m : Match) (more : List ℕ) → Advances now (Some (Ok m)) new → more ≡ numbers ++ match_ends (match_of m) →
      HasEnds r text from new more (count + 1)
  more-ends m more step is =
      let next = step.yields.0 in
      let here : one.IsLeftmost text (outcomes_of r text) (next_from now) (match_of m) =
      subst (λ t. one.IsLeftmost t (outcomes_of r text) (next_from now) (match_of m)) sofar.same_text
      (subst (λ f. one.IsLeftmost (searched_text now) f (next_from now) (match_of m)) sofar.same_outcomes next.leftmost) in
      record {
        same_text = step.same.text ∙ sofar.same_text;
        same_outcomes = step.same.outcomes ∙ sofar.same_outcomes;
        failed = step.yields.1;
        ms = sofar.ms ++ match_of m ∷ [];
        found = subst (λ k. AreMatches text (outcomes_of r text) from k (sofar.ms ++ match_of m ∷ [])) (sym next.goes_on)
            (AreMatches-more text (outcomes_of r text) from (next_from now) sofar.ms (match_of m) sofar.found here);
        paid = one_more_paid r text from now sofar.ms sofar.paid sofar.found new m step;
        are = is ∙ ap (λ xs. xs ++ match_ends (match_of m)) sofar.are
            ∙ ap (λ ys. flat_map match_ends sofar.ms ++ ys) (sym (append-nil (match_ends (match_of m))))
            ∙ sym (flat_map-append match_ends sofar.ms (match_of m ∷ []));
        counted = omega (arith, sofar.counted, length-append sofar.ms (match_of m ∷ []));
      }

  -- one more match than a list may have room for
  pub more-than-fit : (m : Match) (most : ℕ) → Advances now (Some (Ok m)) new → most ≤ count → memory_of r < match_bytes r * (most + 1) → AllNeedMore r text from
  more-than-fit m most step full few =
      let next = step.yields.0 in
      let here : one.IsLeftmost text (outcomes_of r text) (next_from now) (match_of m) =
      subst (λ t. one.IsLeftmost t (outcomes_of r text) (next_from now) (match_of m)) sofar.same_text
      (subst (λ f. one.IsLeftmost (searched_text now) f (next_from now) (match_of m)) sofar.same_outcomes next.leftmost) in
      inr (matches_need_more (matcher_of r) text from (next_offset (match_of m)) sofar.ms (match_of m)
      (AreMatches-more text (outcomes_of r text) from (next_from now) sofar.ms (match_of m) sofar.found here)
      most (omega (arith, full, sofar.counted)) few)

  pub all-ends : Advances now None new → AreEndsOfAll text (outcomes_of r text) from numbers
  all-ends step = (
    sofar.ms,
    record {
      to = next_from now;
      found = sofar.found;
      none = subst (λ t. one.Finds t (outcomes_of r text) (next_from now) None) sofar.same_text
          (subst (λ f. one.Finds (searched_text now) f (next_from now) None) sofar.same_outcomes (step.yields sofar.failed));
    },
    sofar.are,
  )

  pub ends-late : (e : SearchError) → Advances now (Some (Err e)) new → e ≡ OutOfSteps → AllAreTooCostly r text from
  ends-late e step is = too_costly r text from now sofar.ms sofar.paid sofar.found new e step is

  pub ends-large : (e : SearchError) → Advances now (Some (Err e)) new → e ≡ TooMuchMemory → AllNeedMore r text from
  ends-large e step is = inl (too_large r text from now sofar.ms sofar.paid sofar.found new e step is)

-- -- of a search that may fail

module _ {A : Type 0} {P : List ℕ → Type 0} {Missing Costly Large : Type 0} {old new : List ℕ} {status needed : ℕ} where
  pub at-bare : (expected : ℕ) → IsBare expected old status needed new → SearchResult A P Missing Costly Large old expected 0 old →
      SearchResult A P Missing Costly Large old status needed new
  at-bare expected bare is =
      subst (λ s. SearchResult A P Missing Costly Large old s needed new) (sym bare.0)
      (subst (λ n. SearchResult A P Missing Costly Large old expected n new) (sym bare.1)
      (subst (λ buffer. SearchResult A P Missing Costly Large old expected 0 buffer) (sym bare.2) is))

  pub search-reports : {V : Type 0} (items : V → List ℕ) (r : Result (Option V) SearchError) → A →
      IfOk r (λ some. MatchOption some Missing (λ v. P (items v))) → IfErr r (λ error. error ≡ OutOfSteps → Costly) →
      IfErr r (λ error. error ≡ TooMuchMemory → Large) → MatchResult r (λ some. MatchOption some (IsBare 1 old status needed new)
      (λ v. SearchResult (Unit {0}) (λ xs. xs ≡ items v) ⊥ ⊥ ⊥ old status needed new)) (λ error. IsBare (status_of error) old status needed new) →
      SearchResult A P Missing Costly Large old status needed new
  search-reports items (Ok None) asked has late large is = at-bare 1 is (no_match asked has)
  search-reports items (Ok (Some v)) asked has late large is = search-written asked has is
  search-reports items (Err Memory) asked has late large is = at-bare 2 is (out_of_memory asked)
  search-reports items (Err OutOfSteps) asked has late large is = at-bare 7 is (out_of_steps asked (late refl))
  search-reports items (Err TooMuchMemory) asked has late large is = at-bare 8 is (too_much_memory asked (large refl))

-- what a search for one match has found
pub first-found : (text : List ℕ) (at : ℕ → List MatchState) (from : ℕ) (r : Result (Option Match) SearchError) →
    IfOk r (λ found. one.Finds text at from (option_map match_of found)) →
    IfOk r (λ some. MatchOption some (one.Finds text at from None) (λ m. AreEndsOfFirst text at from (match_ends (match_of m))))
first-found text at from (Ok None) finds = finds
first-found text at from (Ok (Some m)) finds = (match_of m, finds, refl)
first-found text at from (Err e) finds = tt

-- why it may be out of steps
pub too-costly : (regex : Regex) (text : List ℕ) (from : ℕ) (r : Result (Option Match) SearchError) →
    IfErr r (λ error. error ≡ OutOfSteps → factor_in regex text ≡ None) → IfErr r (λ error. error ≡ OutOfSteps → find_factor_in regex text ≡ None) →
    IfErr r (λ error. error ≡ OutOfSteps → CostsLimit regex text from) → IfErr r (λ error. error ≡ OutOfSteps → IsTooCostly regex text from)
too-costly regex text from (Ok some) linear bounded costs = tt
too-costly regex text from (Err e) linear bounded costs = λ is. record { linear = linear is; bounded = bounded is; costs = costs is }

-- a search that fails has the status of its error
pub test-fails : {A Present Missing Costly Large : Type 0} {status : ℕ} (error : SearchError) → A → (error ≡ OutOfSteps → Costly) →
    (error ≡ TooMuchMemory → Large) → status ≡ status_of error → TestResult A Present Missing Costly Large status
test-fails {A} {Present} {Missing} {Costly} {Large} Memory asked late large is =
    subst (TestResult A Present Missing Costly Large) (sym is) (too_little_memory asked)
test-fails {A} {Present} {Missing} {Costly} {Large} OutOfSteps asked late large is =
    subst (TestResult A Present Missing Costly Large) (sym is) (too_many_steps asked (late refl))
test-fails {A} {Present} {Missing} {Costly} {Large} TooMuchMemory asked late large is =
    subst (TestResult A Present Missing Costly Large) (sym is) (too_large_tables asked (large refl))

-- -- of numbers that are computed

pub given-written : {old new : List ℕ} {needed : ℕ} (items handed : List ℕ) → needed ≡ length items → handed ≡ items →
    new ≡ handed ++ drop (length handed) old → SearchResult (Unit {0}) (λ xs. xs ≡ items) ⊥ ⊥ ⊥ old 0 needed new
given-written {old = old} items handed count same put = written tt (items, refl, count, put ∙ ap (λ xs. xs ++ drop (length xs) old) same)

pub given-little : {old new : List ℕ} {needed : ℕ} (items handed : List ℕ) → needed ≡ length items → handed ≡ items → new ≡ old →
    length old < length handed → SearchResult (Unit {0}) (λ xs. xs ≡ items) ⊥ ⊥ ⊥ old 3 needed new
given-little {old = old} {needed = needed} items handed count same left less =
    subst (λ buffer. SearchResult (Unit {0}) (λ xs. xs ≡ items) ⊥ ⊥ ⊥ old 3 needed buffer) (sym left)
    (little tt (items, refl, count, subst (λ xs. length old < length xs) same less))
