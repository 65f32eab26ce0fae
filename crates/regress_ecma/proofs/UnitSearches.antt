-- RegExpBuiltinExec finds in the code units of a text what it finds in its characters.
use Rattle.std.proofs.Common.{◌≡◌, ◌∙◌, ℕ, zero, suc, ◌+◌, ◌-◌, ◌<◌, ◌≤◌, true, List, All, length, slice_get, Option, Some, None, option_map, inl, inr, refl, sym, ap, add-one, arith}
use Rattle.std.proofs.Math.ListN.{replicate}
use Rattle.std.proofs.lemmas.Bool.{and_parts}
use Rattle.std.proofs.lemmas.Option.{none-some, same_Some, slice_get-get_or, slice_get_within}
use Rattle.regress_tree.specs.Reading.{forwards, IsText}
use Rattle.regress_tree.specs.Steps as Steps
use Rattle.regress_tree.specs.Steps.{IsStateOf, dedup}
use Rattle.regress_lexer.specs.declared.dialect.Dialect.TheVariants.{Ecma}
use Rattle.regress_lexer.specs.Source.{Source, IsCodePoint}
use Rattle.regress_syntax.specs.Grammar.{IsPattern}
use Rattle.regress_syntax.specs.Productions.{Context}
use Rattle.regress_syntax.specs.SameNames.{NoneConflict}
use Rattle.regress_syntax.specs.Syntax.{Name, names, Pattern}
use Rattle.regress_ecma.specs.Notation.{MatchResult, MatchState}
use Rattle.regress_ecma.specs.Assertions.{accept}
use Rattle.regress_ecma.specs.CodeUnits.{code_units, found_in_units, found_in_utf8, in_units, unit_position}
use Rattle.regress_ecma.specs.Compared.{IsOfUnicode, state_on}
use Rattle.regress_ecma.specs.Compile.{compile_disjunction, compile_pattern}
use Rattle.regress_ecma.specs.CompiledClasses.{with_char_sets}
use Rattle.regress_ecma.specs.Exec.{Found, match_at, or_later, first_match, builtin_exec, found_in_bytes}
use Rattle.regress_ecma.specs.SurrogatePairs.{is_outside, consumes, matches_outside_pairs}
use Rattle.regress_ecma.proofs.CodeUnits.{trail}
use Rattle.regress_ecma.proofs.EcmaMatching.{atoms_match}
use Rattle.regress_ecma.proofs.InEcma.{names_same, pattern_in_ecma}
use Rattle.regress_ecma.proofs.Theorem.{unset_everywhere}
use Rattle.regress_ecma.proofs.UnitOffsets.{first_on, found-text, found-units, mapped_same}
use Rattle.regress_ecma.proofs.UnitPatterns.{result_same}
use Rattle.regress_ecma.proofs.UnitPositions.{units-longer, unit_position-length, unit_position-within, what_is_at, IsAt, IsOne, IsTwo}
use Rattle.regress_ecma.proofs.UnitStarts.{pattern-fails}
use Rattle.regress_ecma.proofs.UnitSteps.{trail_inside, trail_within, units_in_range}
use Rattle.regress_ecma.proofs.lemmas.Searches.{in_range, outcome_at}

-- ---- searches

later_same : (text : List ℕ) (j : ℕ) (r' r : MatchResult) (found' found : Option Found) → r' ≡ option_map (in_units text) r →
    found' ≡ option_map (found_in_units text) found →
    or_later (unit_position text j) r' found' ≡ option_map (found_in_units text) (or_later j r found)
later_same text j r' None found' found e h = ap (λ (r : MatchResult). or_later (unit_position text j) r found') e ∙ h
later_same text j r' (Some x) found' found e h = ap (λ (r : MatchResult). or_later (unit_position text j) r found') e

module _ (text : List ℕ) (at' at : ℕ → MatchResult)
    (same : (k : ℕ) → k ≤ length text → at' (unit_position text k) ≡ option_map (in_units text) (at k))
    (none : (k c : ℕ) → IsTwo text k c → at' (unit_position text k + 1) ≡ None) where
  abbrev units : List ℕ
  units = code_units text

  abbrev left : ℕ → ℕ
  left k = length units - unit_position text k

  one_step : (k c : ℕ) (found : Option Found) → suc k ≤ length text → IsOne text k c →
      first_match at' (suc (left (suc k))) (unit_position text (suc k)) ≡ option_map (found_in_units text) found →
      first_match at' (suc (left k)) (unit_position text k) ≡ option_map (found_in_units text) (or_later k (at k) found)
  unfolding first_match
  one_step k c found within one rest =
      let fits = unit_position-within text (suc k) within in
      let more : left k ≡ suc (left (suc k)) = omega (arith, one.next, fits) in
      ap (λ (n : ℕ). first_match at' (suc n) (unit_position text k)) more
      ∙ later_same text k (at' (unit_position text k)) (at k) _ found (same k (omega arith))
      (ap (first_match at' (suc (left (suc k)))) (sym one.next) ∙ rest)

  two_steps : (k c : ℕ) (found : Option Found) → suc k ≤ length text → IsTwo text k c →
      first_match at' (suc (left (suc k))) (unit_position text (suc k)) ≡ option_map (found_in_units text) found →
      first_match at' (suc (left k)) (unit_position text k) ≡ option_map (found_in_units text) (or_later k (at k) found)
  unfolding first_match
  two_steps k c found within two rest =
      let fits = unit_position-within text (suc k) within in
      let more : left k ≡ suc (suc (left (suc k))) = omega (arith, two.next, fits) in
      let next : unit_position text k + 1 + 1 ≡ unit_position text (suc k) = omega (arith, two.next) in
      ap (λ (n : ℕ). first_match at' (suc n) (unit_position text k)) more
      ∙ later_same text k (at' (unit_position text k)) (at k) _ found (same k (omega arith))
      (ap (λ (r : MatchResult). or_later (unit_position text k + 1) r (first_match at' (suc (left (suc k))) (unit_position text k + 1 + 1))) (none k c two)
      ∙ ap (first_match at' (suc (left (suc k)))) next ∙ rest)

  search_same : (m k : ℕ) → k + m ≡ length text →
      first_match at' (suc (left k)) (unit_position text k) ≡ option_map (found_in_units text) (first_match at (suc m) k)
  unfolding first_match
  search_same zero k e =
      let last : k ≡ length text = omega (arith, e) in
      let end : left k ≡ 0 = omega (arith, ap (unit_position text) last, unit_position-length text) in
      ap (λ (n : ℕ). first_match at' (suc n) (unit_position text k)) end
      ∙ later_same text k (at' (unit_position text k)) (at k) None None (same k (omega (arith, last))) refl
  search_same (suc m) k e =
      let rest = search_same m (suc k) (omega (arith, e)) in
      let within : suc k ≤ length text = omega (arith, e) in
      by (what_is_at text k) within rest ∙ ap (λ (j : ℕ). option_map (found_in_units text) (or_later k (at k) (first_match at (suc m) j))) (sym (add-one k))
    where
      by : IsAt text k → suc k ≤ length text →
          first_match at' (suc (left (suc k))) (unit_position text (suc k)) ≡ option_map (found_in_units text) (first_match at (suc m) (suc k)) →
          first_match at' (suc (left k)) (unit_position text k) ≡ option_map (found_in_units text) (or_later k (at k) (first_match at (suc m) (suc k)))
      by (inl end) within rest = absurd (none-some _ (sym end.character ∙ slice_get-get_or text k 0 within))
      by (inr (c, inl one)) within rest = one_step k c _ within one rest
      by (inr (c, inr two)) within rest = two_steps k c _ within two rest

-- ---- the theorem

module _ (ctx : Context) (ecma : ctx.dialect ≡ Ecma) (unicode : IsOfUnicode ctx.setting.table)
    (with_u : ctx.setting.flags.unicode_sets ≡ true → ctx.setting.flags.unicode ≡ true) (p : Pattern) (t rest : Source) (derived : IsPattern ctx p t rest)
    (none : NoneConflict p) (text : List ℕ) (is_text : IsText text) (outside : is_outside ctx.setting.table (names p) p ≡ true) (some : consumes ctx.setting.table (names p) p ≡ true) where
  abbrev standard : Pattern
  standard = with_char_sets ctx p t rest derived

  abbrev string : List ℕ
  string = code_units text

  abbrev fuel : ℕ
  fuel = length string + 1

  outcome : (input : List ℕ) → All IsCodePoint input → (fuel' : ℕ) → length input < fuel' → (index : ℕ) → index ≤ length input →
      compile_pattern fuel' ctx.setting.table ctx.setting.flags standard input index ≡ outcome_at ctx.setting p input index
  outcome input points =
      pattern_in_ecma ctx ecma unicode.maps with_u p t rest derived none input points
      (atoms_match ctx.setting unicode.maps unicode.upper_keeps_words unicode.strings with_u (names p) input points)

  at_position : (k : ℕ) → k ≤ length text → match_at ctx.setting standard string (unit_position text k) ≡ option_map (in_units text) (match_at ctx.setting standard text k)
  at_position k within =
      let over_text = atoms_match ctx.setting unicode.maps unicode.upper_keeps_words unicode.strings with_u (names p) text (in_range text is_text) in
      let over_units = atoms_match ctx.setting unicode.maps unicode.upper_keeps_words unicode.strings with_u (names p) string (units_in_range text is_text) in
      let longer = units-longer text in
      let with_names : (ns : List (Option Name)) (input : List ℕ) (index : ℕ) → MatchResult =
      λ ns input index. compile_disjunction ctx.setting.table ns fuel ctx.setting.flags forwards 0 standard
      (record { input = input; end_index = index; captures = replicate (length ns) None }) accept in
      let own = names_same ctx p t rest derived in
      ap (λ (ns : List (Option Name)). with_names ns string (unit_position text k)) own
      ∙ result_same ctx.setting (names p) text is_text over_text over_units fuel ctx
      (record { dialect = ecma; table = refl; unicode = refl; unicode_sets = refl }) p t rest derived outside k (length (names p))
      (record { position = within; captures = unset_everywhere text (length (names p)) })
      ∙ ap (option_map (in_units text))
      (ap (λ (ns : List (Option Name)). with_names ns text k) (sym own)
      ∙ outcome text (in_range text is_text) fuel (omega (arith, longer)) k within
      ∙ sym (outcome text (in_range text is_text) (length text + 1) (omega arith) k within))

  within_pair : (k c : ℕ) → IsTwo text k c → match_at ctx.setting standard string (unit_position text k + 1) ≡ None
  within_pair k c two =
      let i : ℕ = unit_position text k + 1 in
      let below : i < length string = slice_get_within string i (trail c) two.second in
      let s : Steps.MatchState = record { position = i; captures = replicate (length (names p)) None } in
      let fails = (pattern-fails ctx.setting (names p) string i (trail c) two.second (trail_within c) (trail_inside c) 0 p outside some).none s refl in
      outcome string (units_in_range text is_text) fuel (omega arith) i (omega (arith, below))
      ∙ ap (λ (states : List Steps.MatchState). option_map (state_on string) (slice_get (dedup states) 0)) fails

  pub found_same : (k : ℕ) → k ≤ length text →
      builtin_exec ctx.setting standard string (unit_position text k) ≡ option_map (found_in_units text) (builtin_exec ctx.setting standard text k)
  found_same k within =
      let fits = unit_position-within text k within in
      let steps : length string + 1 - unit_position text k ≡ suc (length string - unit_position text k) = omega (arith, fits) in
      let steps' : suc (length text - k) ≡ length text + 1 - k = omega (arith, within) in
      ap (λ (n : ℕ). first_match (match_at ctx.setting standard string) n (unit_position text k)) steps
      ∙ search_same text (match_at ctx.setting standard string) (match_at ctx.setting standard text) at_position within_pair (length text - k) k
      (omega (arith, within))
      ∙ ap (λ (n : ℕ). option_map (found_in_units text) (first_match (match_at ctx.setting standard text) n k)) steps'

-- the same with the test of both
pub exec_same : (ctx : Context) → ctx.dialect ≡ Ecma → IsOfUnicode ctx.setting.table →
    (ctx.setting.flags.unicode_sets ≡ true → ctx.setting.flags.unicode ≡ true) → (p : Pattern) (t rest : Source) (derived : IsPattern ctx p t rest) →
    NoneConflict p → matches_outside_pairs ctx.setting.table p ≡ true → (text : List ℕ) → IsText text → (k : ℕ) → k ≤ length text →
    builtin_exec ctx.setting (with_char_sets ctx p t rest derived) (code_units text) (unit_position text k)
    ≡ option_map (found_in_units text) (builtin_exec ctx.setting (with_char_sets ctx p t rest derived) text k)
exec_same ctx ecma unicode with_u p t rest derived none outside text is_text =
    let parts = and_parts (is_outside ctx.setting.table (names p) p) (consumes ctx.setting.table (names p) p) outside in
    found_same ctx ecma unicode with_u p t rest derived none text is_text parts.0 parts.1

-- ---- in UTF-8

outcome_on : (text : List ℕ) (r : Option Steps.MatchState) (x : MatchState) → option_map (state_on text) r ≡ Some x → x.input ≡ text
outcome_on text None x e = absurd (none-some x e)
outcome_on text (Some s) x e = ap (λ (y : MatchState). y.input) (sym (same_Some (state_on text s) x e))

module _ (ctx : Context) (ecma : ctx.dialect ≡ Ecma) (unicode : IsOfUnicode ctx.setting.table)
    (with_u : ctx.setting.flags.unicode_sets ≡ true → ctx.setting.flags.unicode ≡ true) (p : Pattern) (t rest : Source) (derived : IsPattern ctx p t rest)
    (none : NoneConflict p) (text : List ℕ) (is_text : IsText text) where
  found_on : (k : ℕ) → k ≤ length text → (found : Found) → builtin_exec ctx.setting (with_char_sets ctx p t rest derived) text k ≡ Some found →
      found.1.input ≡ text
  found_on k within =
      first_on text (match_at ctx.setting (with_char_sets ctx p t rest derived) text) (length text + 1 - k) k
      (λ j above below x e.
      outcome_on text _ x
      (sym
      (pattern_in_ecma ctx ecma unicode.maps with_u p t rest derived none text (in_range text is_text)
      (atoms_match ctx.setting unicode.maps unicode.upper_keeps_words unicode.strings with_u (names p) text (in_range text is_text))
      (length text + 1) (omega arith) j (omega (arith, below, within))) ∙ e))

  pub exec_utf8 : (k : ℕ) → k ≤ length text →
      option_map found_in_utf8 (builtin_exec ctx.setting (with_char_sets ctx p t rest derived) text k)
      ≡ option_map found_in_bytes (builtin_exec ctx.setting (with_char_sets ctx p t rest derived) text k)
  exec_utf8 k within = mapped_same found_in_utf8 found_in_bytes _ (λ found e. found-text text is_text found (found_on k within found e))

  pub exec_units_utf8 : matches_outside_pairs ctx.setting.table p ≡ true → (k : ℕ) → k ≤ length text →
      option_map found_in_utf8 (builtin_exec ctx.setting (with_char_sets ctx p t rest derived) (code_units text) (unit_position text k))
      ≡ option_map found_in_bytes (builtin_exec ctx.setting (with_char_sets ctx p t rest derived) text k)
  exec_units_utf8 outside k within =
      ap (option_map found_in_utf8) (exec_same ctx ecma unicode with_u p t rest derived none outside text is_text k within)
      ∙ mapped_twice (builtin_exec ctx.setting (with_char_sets ctx p t rest derived) text k)
      ∙ mapped_same (λ found. found_in_utf8 (found_in_units text found)) found_in_bytes _
      (λ found e. found-units text is_text found (found_on k within found e))
    where
      mapped_twice : (r : Option Found) → option_map found_in_utf8 (option_map (found_in_units text) r) ≡ option_map (λ found. found_in_utf8 (found_in_units text found)) r
      mapped_twice None = refl
      mapped_twice (Some found) = refl
