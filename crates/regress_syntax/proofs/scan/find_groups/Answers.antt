use Rattle.std.proofs.Common.{◌≡◌, ℕ, Bool, Some, ◌≤◌, ◌+◌, [], length, sym, subst, ap, ◌∙◌, arith, refl}
use Rattle.std.specs.Option.{option_map, option_or}
use Rattle.regress_unicode.specs.TableOf.{table_of}
use Rattle.regress_base.specs.Limits.{max_nesting_depth}
use Rattle.regress_base.specs.Table.{Table}
use Rattle.regress_lexer.specs.Source.{Source}
use Rattle.regress_syntax.specs.GroupTokens.{GroupToken}
use Rattle.regress_syntax.specs.Scan.{Mode, plain, tokens, deepest, TokensShow}
use Rattle.regress_syntax.specs.FirstErrors.{Flaw, remaining_at, open_groups_after}
use Rattle.regress_syntax.specs.declared.scan.first_errors.FirstErrors.{FirstErrors}
use Rattle.regress_syntax.specs.declared.scan.scanner.Scanner.{Scanner}
use Rattle.regress_syntax.specs.Scanning.{mode_of, token_of, position_of, path_of, highest_at, noted, NotesFirst, After, HasPlaces, AreInOrder}
use Rattle.regress_syntax.proofs.FirstErrorsLemmas.{noted_after, all_noted, nesting_at_token, nesting_at_none}
use Rattle.regress_syntax.proofs.lemmas.FirstErrors.{located-kind, located-is}
use Rattle.regress_syntax.proofs.PlaceLemmas.{no_places, no_order, places_same, places_after, places_over, order_over, order_after, named_three, located-duplicate, duplicates_at}
use Rattle.regress_syntax.proofs.ScannerLemmas.{depth-mode_after, at_token, at_no_token, all_passed}
use Rattle.regress_syntax.proofs.scan.find_groups.Goals as goal
use Rattle.regress_syntax.proofs.scan.find_groups.Goals.{in-Some-2+in_ok-pass, in_default-2}

pub loop-c-init : goal.loop-c-init
loop-c-init c = record {
  found = c.in_ok-scanner.ensures.found _;
  flaws = λ flaw. rw (c.none-first_errors.ensures flaw, c.in_ok-scanner.ensures.nesting) refl;
  depth = omega arith;
  places =
      no_places c.args.sets (table_of c.args.tables.now) c.args.pattern.now c.in_ok-scanner.scanner c.in_ok-scanner.ensures.start
      c.in_ok-scanner.ensures.none;
  order = no_order (length c.args.pattern.now) c.in_ok-scanner.scanner.named.items c.in_ok-scanner.ensures.none;
  numbered = c.in_ok-scanner.ensures.numbered;
  numbers = omega (arith, c.in_ok-scanner.ensures.numbers);
}

pub loop-c-preserved : goal.loop-c-preserved
loop-c-preserved c =
    let table = table_of c.args.tables.now in
    let all = tokens c.args.sets table plain c.args.pattern.now in
    let found : After all (tokens c.args.sets table (mode_of c.loop-c.mode) c.skip_insignificant.result.now) c.loop-c.scanner =
    subst (λ ms. After all ms c.loop-c.scanner) (c.skip_insignificant.ensures.same c.args.sets table c.loop-c.mode) c.loop-c.invariant.found in
    let number : highest_at (position_of c.match-branch-3.scanner) ≤ highest_at (position_of c.loop-c.scanner) + 1 = elim c.match-branch-3.branch [
      | in-Some-2+in_ok-pass w ↦ rw w.scanner-is w.in_ok-pass.ensures.numbers
      | in_default-2 w ↦ rw w.scanner-is (omega arith)
    ] in
    let nesting : length (path_of c.match-branch-3.scanner.path) ≡ open_groups_after (mode_of c.loop-c.mode) (length (path_of c.loop-c.scanner.path))
    c.in-Some.c.now = elim c.match-branch-3.branch [
      | in-Some-2+in_ok-pass w ↦
          rw w.scanner-is
          (w.in_ok-pass.ensures.nesting c.loop-c.invariant.found.some
          ∙ nesting_at_token c.args.sets table (mode_of c.loop-c.mode) _ _ _ (token_of w.in-Some-2.token)
          (sym c.in_ok-token.ensures ∙ ap (option_map token_of) w.in-Some-2.is))
      | in_default-2 w ↦
          rw w.scanner-is
          (nesting_at_none c.args.sets table (mode_of c.loop-c.mode) _ _ _
          (sym c.in_ok-token.ensures ∙ ap (option_map token_of) w.in_default-2.is))
    ] in
    let short : deepest 1 all ≤ max_nesting_depth → length (path_of c.loop-c.scanner.path) ≤ max_nesting_depth = λ few.
    omega (arith, few, c.loop-c.invariant.found.nesting, c.loop-c.invariant.found.opened) in
    let places : HasPlaces c.args.sets table c.args.pattern.now (mode_of c.loop-c.mode) c.skip_insignificant.result.now c.loop-c.scanner =
    places_same c.args.sets table c.args.pattern.now (mode_of c.loop-c.mode) c.loop-c.rest.now c.skip_insignificant.result.now c.loop-c.scanner
    (λ left. c.skip_insignificant.ensures.places left c.args.sets table c.loop-c.mode) c.loop-c.invariant.places in
    let order : AreInOrder (length c.skip_insignificant.result.now) c.loop-c.scanner.named.items =
    order_over (length c.loop-c.rest.now) (length c.skip_insignificant.result.now) c.loop-c.scanner.named.items c.skip_insignificant.ensures.within
    c.loop-c.invariant.order in
    rw c.after-mode.ensures (record {
      places = elim c.match-branch-3.branch [
        | in-Some-2+in_ok-pass w ↦
            rw w.scanner-is
            (places_after c.args.sets table c.args.pattern.now (mode_of c.loop-c.mode) c.in-Some.c.now c.skip_insignificant.result.now c.in-Some.after.now
            (token_of w.in-Some-2.token) c.loop-c.scanner w.pass.new.self c.in-Some.ensures.cases.0
            (sym c.in_ok-token.ensures ∙ ap (option_map token_of) w.in-Some-2.is) short w.in_ok-pass.ensures.position w.in_ok-pass.ensures.added places)
        | in_default-2 w ↦
            rw w.scanner-is
            (places_over c.args.sets table c.args.pattern.now (mode_of c.loop-c.mode) c.in-Some.c.now c.skip_insignificant.result.now c.in-Some.after.now
            c.loop-c.scanner
            c.in-Some.ensures.cases.0 (sym c.in_ok-token.ensures ∙ ap (option_map token_of) w.in_default-2.is) places)
      ];
      order = elim c.match-branch-3.branch [
        | in-Some-2+in_ok-pass w ↦
            rw w.scanner-is
            (order_after (length c.in-Some.after.now + 1) (length c.in-Some.after.now) (token_of w.in-Some-2.token) (path_of c.loop-c.scanner.path)
            c.loop-c.scanner.named.items w.pass.new.self.named.items
            (λ name is.
            named_three c.args.sets table (mode_of c.loop-c.mode) c.in-Some.c.now c.in-Some.after.now name
            (sym c.in_ok-token.ensures ∙ ap (option_map token_of) w.in-Some-2.is ∙ ap (λ (m : GroupToken). Some m) is))
            (omega arith) w.in_ok-pass.ensures.added
            (order_over (length c.skip_insignificant.result.now) (length c.in-Some.after.now + 1) c.loop-c.scanner.named.items
            (omega (arith, ap length c.in-Some.ensures.cases.0)) order))
        | in_default-2 w ↦
            rw w.scanner-is
            (order_over (length c.skip_insignificant.result.now) (length c.in-Some.after.now) c.loop-c.scanner.named.items
            (omega (arith, ap length c.in-Some.ensures.cases.0)) order)
      ];
      found = elim c.match-branch-3.branch [
        | in-Some-2+in_ok-pass w ↦
            rw w.scanner-is (w.in_ok-pass.ensures.found _ _
            (at_token c.args.sets table (mode_of c.loop-c.mode) _ _ _ all (token_of w.in-Some-2.token) c.loop-c.scanner c.in-Some.ensures.cases.0
            (sym c.in_ok-token.ensures ∙ ap (option_map token_of) w.in-Some-2.is) found))
        | in_default-2 w ↦
            rw w.scanner-is
            (at_no_token c.args.sets table (mode_of c.loop-c.mode) _ _ _ all c.loop-c.scanner c.in-Some.ensures.cases.0
            (sym c.in_ok-token.ensures ∙ ap (option_map token_of) w.in_default-2.is) found)
      ];
      flaws = λ flaw.
          noted_after flaw c.args.sets (mode_of c.loop-c.mode) (length (path_of c.loop-c.scanner.path)) _ c.in-Some.c.now _ _ _ _
          (noted flaw c.loop-c.first_errors) (noted flaw c.note.new.self) c.in-Some.ensures.cases.0 refl nesting
          (rw c.nesting.ensures at (c.note.ensures flaw))
          (c.loop-c.invariant.flaws flaw ∙ ap (option_or (noted flaw c.loop-c.first_errors)) (c.skip_insignificant.ensures.flaws flaw c.args.sets c.loop-c.mode _));
      numbered = elim c.match-branch-3.branch [
        | in-Some-2+in_ok-pass w ↦ rw w.scanner-is (w.in_ok-pass.ensures.numbered c.loop-c.invariant.numbered)
        | in_default-2 w ↦ rw w.scanner-is c.loop-c.invariant.numbered
      ];
      numbers = omega (arith, number, c.loop-c.invariant.numbers, ap length c.in-Some.ensures.cases.0);
      depth = omega (arith, depth-mode_after c.args.sets (mode_of c.loop-c.mode) c.in-Some.c.now, ap length c.in-Some.ensures.cases.0);
    })

-- At the end of the source all marks are passed, and the first error of each kind is noted.
module _ (sets : Bool) (table : Table) (mode : Mode) (t rest here : Source) (empty : length here ≡ 0) where
  passed : (scanner : Scanner) → tokens sets table mode rest ≡ tokens sets table mode here →
      After (tokens sets table plain t) (tokens sets table mode rest) scanner → After (tokens sets table plain t) [] scanner
  passed scanner same after =
      let all = tokens sets table plain t in
      all_passed sets table mode here all scanner empty (subst (λ ms. After all ms scanner) same after)

  found : (n : ℕ) (first_errors : FirstErrors) → ((flaw : Flaw) → remaining_at flaw sets mode n rest ≡ remaining_at flaw sets mode n here) →
      ((flaw : Flaw) → remaining_at flaw sets plain 1 t ≡ option_or (noted flaw first_errors) (remaining_at flaw sets mode n rest)) →
      NotesFirst sets t first_errors
  found n first_errors same after = λ flaw.
      all_noted flaw sets mode n here (remaining_at flaw sets plain 1 t) (noted flaw first_errors) empty
      (after flaw ∙ ap (option_or (noted flaw first_errors)) (same flaw))

pub returns-in-Ok-clause-names : goal.returns-in-Ok-clause-names
returns-in-Ok-clause-names c =
    c.in-Ok.ensures.names _
    (passed c.args.sets (table_of c.args.tables.now) (mode_of c.loop-c.mode) c.args.pattern.now c.loop-c.rest.now c.skip_insignificant.result.now
    c.in_default.ensures.cases c.loop-c.scanner (c.skip_insignificant.ensures.same _ _ c.loop-c.mode) c.loop-c.invariant.found)

pub returns-in-Ok-clause-apart : goal.returns-in-Ok-clause-apart
returns-in-Ok-clause-apart c =
    c.in-Ok.ensures.apart _
    (passed c.args.sets (table_of c.args.tables.now) (mode_of c.loop-c.mode) c.args.pattern.now c.loop-c.rest.now c.skip_insignificant.result.now
    c.in_default.ensures.cases c.loop-c.scanner (c.skip_insignificant.ensures.same _ _ c.loop-c.mode) c.loop-c.invariant.found)

pub returns-in-Ok-clause-nesting : goal.returns-in-Ok-clause-nesting
returns-in-Ok-clause-nesting c =
    c.in-Ok.ensures.nesting _
    (passed c.args.sets (table_of c.args.tables.now) (mode_of c.loop-c.mode) c.args.pattern.now c.loop-c.rest.now c.skip_insignificant.result.now
    c.in_default.ensures.cases c.loop-c.scanner (c.skip_insignificant.ensures.same _ _ c.loop-c.mode) c.loop-c.invariant.found)

pub returns-in-Ok-clause-first_errors : goal.returns-in-Ok-clause-first_errors
returns-in-Ok-clause-first_errors c =
    found c.args.sets (table_of c.args.tables.now) (mode_of c.loop-c.mode) c.args.pattern.now c.loop-c.rest.now c.skip_insignificant.result.now
    c.in_default.ensures.cases _ c.loop-c.first_errors (λ flaw. c.skip_insignificant.ensures.flaws flaw c.args.sets c.loop-c.mode _) c.loop-c.invariant.flaws

pub returns-in-Err-clause-rejected : goal.returns-in-Err-clause-rejected
returns-in-Err-clause-rejected c =
    rw c.locate.ensures
    (located-kind c.loop-c.first_errors c.in-Err.fault (TokensShow (tokens c.args.sets (table_of c.args.tables.now) plain c.args.pattern.now))
    (c.in-Err.ensures.rejected _
    (passed c.args.sets (table_of c.args.tables.now) (mode_of c.loop-c.mode) c.args.pattern.now c.loop-c.rest.now c.skip_insignificant.result.now
    c.in_default.ensures.cases c.loop-c.scanner (c.skip_insignificant.ensures.same _ _ c.loop-c.mode) c.loop-c.invariant.found)))

pub finish-requires : goal.finish-requires
finish-requires c = record {
  numbered = c.loop-c.invariant.numbered;
  order = order_over (length c.loop-c.rest.now) 0 c.loop-c.scanner.named.items (omega arith) c.loop-c.invariant.order;
}

pub returns-in-Err-clause-duplicate : goal.returns-in-Err-clause-duplicate
returns-in-Err-clause-duplicate c =
    let table = table_of c.args.tables.now in
    let after =
    passed c.args.sets table (mode_of c.loop-c.mode) c.args.pattern.now c.loop-c.rest.now c.skip_insignificant.result.now
    c.in_default.ensures.cases c.loop-c.scanner (c.skip_insignificant.ensures.same _ _ c.loop-c.mode) c.loop-c.invariant.found in
    rw c.locate.ensures
    (located-duplicate c.args.sets table c.args.pattern.now c.loop-c.first_errors c.in-Err.fault
    (duplicates_at c.args.sets table c.args.pattern.now (mode_of c.loop-c.mode) c.loop-c.rest.now c.skip_insignificant.result.now c.loop-c.scanner
    c.in-Err.fault
    c.in_default.ensures.cases after (λ left. c.skip_insignificant.ensures.places left c.args.sets table c.loop-c.mode) c.loop-c.invariant.places
    (c.in-Err.ensures.conflict _ after)))

pub returns-in-Err-clause-located : goal.returns-in-Err-clause-located
returns-in-Err-clause-located c =
    rw c.locate.ensures
    (located-is c.args.sets c.args.pattern.now c.loop-c.first_errors _
    (found c.args.sets (table_of c.args.tables.now) (mode_of c.loop-c.mode) c.args.pattern.now c.loop-c.rest.now c.skip_insignificant.result.now
    c.in_default.ensures.cases _ c.loop-c.first_errors (λ flaw. c.skip_insignificant.ensures.flaws flaw c.args.sets c.loop-c.mode _) c.loop-c.invariant.flaws))
