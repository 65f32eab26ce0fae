use Rattle.std.proofs.Common.{subst}
use Rattle.regress_tree.specs.Reading.{direction_if}
use Rattle.regress_program.specs.Listed.{listed}
use Rattle.regress_code.specs.Possessive.{ArePossessive}
use Rattle.regress_code.specs.Skips.{AreSkips}
use Rattle.regress_code.proofs.LeadingLemmas.{all_next_bytes, all_possessive, all_rows, all_skips}
use Rattle.regress_code.proofs.analysis.analyze_routine.Goals as goal

pub returns-clause-next_bytes : goal.returns-clause-next_bytes
returns-clause-next_bytes c =
    let routine = c.args.routine.now in
    all_next_bytes c.leading-instructions.result.now (listed routine) c.leading-instructions.ensures c.args.folds c.args.bodies.now
    c.in_ok-next_bytes.next_bytes.items (direction_if routine.backwards) c.args.leaves.now c.in_ok-next_bytes.ensures

pub returns-clause-skips : goal.returns-clause-skips
returns-clause-skips c =
    let first = c.leading-instructions.result.now in
    all_skips first (listed c.args.routine.now) c.leading-instructions.ensures c.in_ok-skips.skips.items c.in_ok-next_bytes.next_bytes.items
    (subst (λ next_bytes. AreSkips c.in_ok-skips.skips.items next_bytes first) c.deref.ensures.value c.in_ok-skips.ensures)

pub returns-clause-rows : goal.returns-clause-rows
returns-clause-rows c =
    let routine = c.args.routine.now in
    all_rows c.leading-instructions.result.now (listed routine) c.leading-instructions.ensures c.args.folds c.in_ok-rows.rows.items c.args.leaves.now routine.backwards
    c.in_ok-rows.ensures

pub returns-clause-possessive : goal.returns-clause-possessive
returns-clause-possessive c =
    let first = c.leading-instructions.result.now in
    let possessive = c.in_ok-possessive.possessive.items in
    let leaves = c.args.leaves.now in
    all_possessive first (listed c.args.routine.now) c.leading-instructions.ensures possessive c.in_ok-next_bytes.next_bytes.items leaves
    (subst (λ next_bytes. ArePossessive possessive next_bytes leaves first) c.deref-3.ensures.value c.in_ok-possessive.ensures)
