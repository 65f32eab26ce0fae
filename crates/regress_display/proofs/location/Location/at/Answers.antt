use Rattle.std.proofs.Common.{◌∙◌, ◌<◌, length, ap, sym, arith, rules, tests}
use Rattle.std.proofs.lemmas.Iterator.{YieldsList-from_chars, YieldsList-from_take}
use Rattle.std.proofs.lemmas.Iterator.Consumers.{YieldsList-end, YieldsList-turn}
use Rattle.std.proofs.lemmas.List.{map-id}
use Rattle.regress_display.specs.Fault.{line_after, column_after}
use Rattle.regress_display.proofs.LocationLemmas.{after_line_feed, after_other, line_fits, column_fits}
use Rattle.regress_display.proofs.location.Location.at.Goals as goal

pub overflow_add-line : goal.overflow_add-line
overflow_add-line c =
    let short : length c.args.text.now < 18446744073709551615 = omega arith in
    let yields = YieldsList-from_take c.args.position (YieldsList-from_chars c.args.text.now c.utf8.text cc) cc in
    let inside = YieldsList-turn yields c.loop-c.yielded _ c.loop-c.yielded_by _ _ _ c.in-Some.is c.next.ensures.steps in
    line_fits c.loop-c.yielded c.args.text.now c.args.position c.loop-c.line short c.utf8.text c.loop-c.invariant.0 inside.0

pub loop-c-preserved-then-c-eq10 : goal.loop-c-preserved-then-c-eq10
loop-c-preserved-then-c-eq10 c = after_line_feed c.loop-c.yielded c.in-Some.c c.loop-c.line c.if-c-eq10.true c.loop-c.invariant.0

pub overflow_add-column : goal.overflow_add-column
overflow_add-column c =
    let short : length c.args.text.now < 18446744073709551615 = omega arith in
    let yields = YieldsList-from_take c.args.position (YieldsList-from_chars c.args.text.now c.utf8.text cc) cc in
    let inside = YieldsList-turn yields c.loop-c.yielded _ c.loop-c.yielded_by _ _ _ c.in-Some.is c.next.ensures.steps in
    column_fits c.loop-c.yielded c.args.text.now c.args.position c.loop-c.column short c.utf8.text c.loop-c.invariant.1 inside.0

pub loop-c-preserved : goal.loop-c-preserved
loop-c-preserved c =
    after_other c.loop-c.yielded c.in-Some.c c.loop-c.line c.loop-c.column (search (rules, tests)) c.loop-c.invariant.0 c.loop-c.invariant.1

pub returns-clause-line : goal.returns-clause-line
returns-clause-line c =
    let yields = YieldsList-from_take c.args.position (YieldsList-from_chars c.args.text.now c.utf8.text cc) cc in
    let all = YieldsList-end yields c.loop-c.yielded _ c.loop-c.yielded_by _ _ c.in-None.is c.next.ensures.steps in
    c.loop-c.invariant.0 ∙ ap line_after (sym (map-id c.loop-c.yielded) ∙ all.0)

pub returns-clause-column : goal.returns-clause-column
returns-clause-column c =
    let yields = YieldsList-from_take c.args.position (YieldsList-from_chars c.args.text.now c.utf8.text cc) cc in
    let all = YieldsList-end yields c.loop-c.yielded _ c.loop-c.yielded_by _ _ c.in-None.is c.next.ensures.steps in
    c.loop-c.invariant.1 ∙ ap column_after (sym (map-id c.loop-c.yielded) ∙ all.0)
