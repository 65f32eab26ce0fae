-- The matches that are found in the texts of a line, and what they say of the line.
use Rattle.std.proofs.Common.{◌≡◌, ◌↔◌, ◌∙◌, ℕ, ◌+◌, ◌<◌, ◌≤◌, ◌^◌, All, Bool, true, false, List, [], ◌∷◌, ◌++◌, IsTrue, length, map, take, get_or, ap, refl, sym, subst, arith}
use Rattle.std.proofs.lemmas.List.{get_or-map, get_or_default, length-map, map-append, take_all, take_more}
use Rattle.std.proofs.lemmas.List.Elements.{All-cons, All-nil, All-push, All-same}
use Rattle.regress_found.specs.Found.{IsInside}
use Rattle.regress.specs.Searched.{MatchesSomewhere}
use Rattle.regress_found.specs.Repeated.{AreAllMatches}
use Rattle.regress_found.specs.declared.found.Match.{Match}
use Rattle.regex_lines.proofs.SomewhereLemmas.{none_nowhere, some_somewhere}
use Rattle.regress_replace.proofs.lemmas.Found.{AreAllMatches-in_order}
use Rattle.regress.specs.Compiled.{outcomes_of, match_of}
use Rattle.regress.specs.declared.pattern.Regex.{Regex}
use Rattle.regex_options.specs.declared.task.Shown.{Shown}
use Rattle.regex_options.specs.declared.task.Shown.TheVariants.{Lines, Matches, Json, Count, Names, Nothing}
use Rattle.regex_lines.specs.InLine.{AreInLine, AreInText, HasMatch, HasOffsets, needs_matches, shown_by}
use Rattle.regex_lines.specs.Near.{plain}
use Rattle.regex_lines.specs.Paint.{LinePaint}
use Rattle.regex_lines.specs.Reply.{MatchesIn, Shows, ShowsLine, AreSearched, Run, TextMatches, matches_of, run_of}
use Rattle.regex_lines.specs.declared.runs.Run as code
use Rattle.regex_lines.specs.declared.runs.TextMatches as code_matches

-- all matches in a text
abbrev pub IsSearched : Regex → TextMatches → Type 0
IsSearched r f = AreAllMatches f.run.text (outcomes_of r f.run.text) f.matches

module _ (r : Regex) where
  some_matches : (run : Run) (matches : List Match) → AreAllMatches run.text (outcomes_of r run.text) matches → 0 < length matches →
      MatchesSomewhere run.text (outcomes_of r run.text)
  some_matches run [] all some = absurd (omega (arith, some))
  some_matches run (m ∷ ms) all some = some_somewhere run.text (outcomes_of r run.text) m ms all

  no_matches : (run : Run) (matches : List Match) → AreAllMatches run.text (outcomes_of r run.text) matches →
      MatchesSomewhere run.text (outcomes_of r run.text) → 0 < length matches
  no_matches run [] all some = absurd (none_nowhere run.text (outcomes_of r run.text) all some)
  no_matches run (m ∷ ms) all some = omega arith

  -- The pattern matches in one of the texts exactly if one has a match.
  matched : (found : List TextMatches) → All (IsSearched r) found → HasMatch found ↔ MatchesIn r (map (λ f. f.run) found)
  matched found all = (
    (λ has.
        let f = has.1 in
        let searched : IsSearched r f = subst (IsSearched r) has.3 (all has.0 f has.2) in (
          has.0,
          f.run,
          omega (arith, has.2, length-map found (λ (f : TextMatches). f.run)),
          get_or-map (λ (f : TextMatches). f.run) found has.0 f f.run has.2 ∙ ap (λ (f : TextMatches). f.run) has.3,
          some_matches f.run f.matches searched has.4,
        )),
    (λ some.
        let below : some.0 < length found = omega (arith, some.2, length-map found (λ (f : TextMatches). f.run)) in
        let other : TextMatches = record { run = some.1; matches = [] } in
        let f = get_or found some.0 other in
        let is : f.run ≡ some.1 = sym (get_or-map (λ (f : TextMatches). f.run) found some.0 other some.1 below) ∙ some.3 in (
          some.0,
          f,
          below,
          get_or_default found some.0 f other below,
          no_matches f.run f.matches (all some.0 other below)
              (subst (λ (run : Run). MatchesSomewhere run.text (outcomes_of r run.text)) (sym is) some.4),
        )),
  )

  pub is_matched : (texts : List Run) (found : List TextMatches) (b : Bool) → AreSearched r texts found → IsTrue b ↔ HasMatch found → IsTrue b ↔ MatchesIn r texts
  is_matched texts found b searched has =
      let both = matched found searched.all in
      subst (λ (texts : List Run). IsTrue b ↔ MatchesIn r texts) searched.texts_are (λ is. both.0 (has.0 is), λ some. has.1 (both.1 some))

  -- the first texts, with the matches in them
  pub record SoFar (texts : List Run) (found : List code_matches.TextMatches) : Type 0 where
    pub searched : AreSearched r texts (map matches_of found)
    pub inside : All AreInText found

  pub none_yet : SoFar [] []
  none_yet = record { searched = record { texts_are = refl; all = All-nil (IsSearched r) }; inside = All-nil AreInText }

  -- another text
  pub one_more : (runs : List code.Run) (i : ℕ) (d : code.Run) (found after : List code_matches.TextMatches) (f : code_matches.TextMatches) →
      SoFar (map run_of (take i runs)) found → i < length runs → after ≡ found ++ f ∷ [] → f.run ≡ get_or runs i d →
      AreAllMatches (get_or runs i d).text.now (outcomes_of r (get_or runs i d).text.now) (map match_of f.matches.items) →
      All (λ m. IsInside (get_or runs i d).text.now (match_of m)) f.matches.items →
      SoFar (map run_of (take (i + 1) runs)) after
  one_more runs i d found after f sofar below pushed same all inside =
      let searched : AreAllMatches f.run.text.now (outcomes_of r f.run.text.now) (map match_of f.matches.items) =
      subst (λ (run : code.Run). AreAllMatches run.text.now (outcomes_of r run.text.now) (map match_of f.matches.items)) (sym same) all in
      subst (SoFar (map run_of (take (i + 1) runs))) (sym pushed)
      (record {
        searched = record {
          texts_are =
              ap (map (λ (f : TextMatches). f.run)) (map-append matches_of found (f ∷ []))
              ∙ map-append (λ (f : TextMatches). f.run) (map matches_of found) (matches_of f ∷ [])
              ∙ ap (λ (xs : List Run). xs ++ run_of f.run ∷ []) sofar.searched.texts_are
              ∙ ap (λ (r : code.Run). map run_of (take i runs) ++ run_of r ∷ []) same
              ∙ sym (map-append run_of (take i runs) (get_or runs i d ∷ []))
              ∙ ap (map run_of) (sym (take_more runs i d below));
          all = All-same (IsSearched r) _ _ (map-append matches_of found (f ∷ [])) (All-push (IsSearched r) (map matches_of found) (matches_of f) sofar.searched.all searched);
        };
        inside = All-push AreInText found f sofar.inside (record {
          inside = subst (λ (run : code.Run). All (λ m. IsInside run.text.now (match_of m)) f.matches.items) (sym same) inside;
          order = AreAllMatches-in_order f.run.text.now _ _ searched;
        });
      })

  pub all_texts : (runs : List code.Run) (i : ℕ) (found : List code_matches.TextMatches) → length runs ≤ i → SoFar (map run_of (take i runs)) found →
      SoFar (map run_of runs) found
  all_texts runs i found all sofar = subst (λ (some : List code.Run). SoFar (map run_of some) found) (take_all i runs all) sofar

  -- how a line is shown by its matches, or without them
  pub by_matches : (line : List ℕ) (texts : List Run) (found : List TextMatches) (shown : Shown) (p : LinePaint) (prefix bytes : List ℕ) →
      needs_matches shown p ≡ true → AreSearched r texts found → bytes ≡ shown_by r line shown p prefix found → Shows r line texts shown p prefix bytes
  by_matches line texts found Lines p prefix bytes needs searched is =
      subst (λ matches. ShowsLine r line texts matches p prefix bytes) (sym needs) (found, searched, is)
  by_matches line texts found Matches p prefix bytes needs searched is = (found, searched, is)
  by_matches line texts found Json p prefix bytes needs searched is = (found, searched, is)
  by_matches line texts found Count p prefix bytes needs searched is = let bad : ⊥ = cc in absurd bad
  by_matches line texts found Names p prefix bytes needs searched is = let bad : ⊥ = cc in absurd bad
  by_matches line texts found Nothing p prefix bytes needs searched is = let bad : ⊥ = cc in absurd bad

  pub without : (line : List ℕ) (texts : List Run) (shown : Shown) (p : LinePaint) (prefix bytes : List ℕ) →
      needs_matches shown p ≡ false → bytes ≡ plain line shown p.rest prefix → Shows r line texts shown p prefix bytes
  without line texts Lines p prefix bytes needs is = subst (λ matches. ShowsLine r line texts matches p prefix bytes) (sym needs) is
  without line texts Matches p prefix bytes needs is = let bad : ⊥ = cc in absurd bad
  without line texts Json p prefix bytes needs is = let bad : ⊥ = cc in absurd bad
  without line texts Count p prefix bytes needs is = is
  without line texts Names p prefix bytes needs is = is
  without line texts Nothing p prefix bytes needs is = is

-- offsets in texts that are in a line
pub have_offsets : (len from : ℕ) (found : List code_matches.TextMatches) → len < 2 ^ 64 → AreInLine len from (map (λ f. f.run) (map matches_of found)) →
    All (λ f. HasOffsets (run_of f.run)) found
have_offsets len from [] short within = All-nil (λ (f : code_matches.TextMatches). HasOffsets (run_of f.run))
have_offsets len from (f ∷ fs) short within =
    All-cons (λ (f : code_matches.TextMatches). HasOffsets (run_of f.run)) f fs
    (omega (arith, short, ends len (f.run.start + length f.run.text.now) (map (λ f. f.run) (map matches_of fs)) within.1))
    (have_offsets len (f.run.start + length f.run.text.now) fs short within.1)
  where
    ends : (len from : ℕ) (runs : List Run) → AreInLine len from runs → from ≤ len
    ends len from [] within = within
    ends len from (run ∷ runs) within = omega (arith, within.0, ends len (run.start + length run.text) runs within.1)
