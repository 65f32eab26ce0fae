use Rattle.std.proofs.Common.{◌+◌, ◌*◌, ◌≤◌, length, subst, IfOk}
use Rattle.regress_program.specs.Compiled.{total}
use Rattle.regress_found.specs.Found.{initial_state}
use Rattle.regress_code.specs.Code.{code_groups, code_routines, code_tidy, outcomes_from, setting_with, tree_outcomes_from}
use Rattle.regress_tables.specs.Search.{capturing_steps, steps_up_to, walk_weight}
use Rattle.regress_program.proofs.lemmas.Solutions.{finds_by}
use Rattle.regress_tables.proofs.SearchLemmas.{ok_map, tabled_by}
use Rattle.regress_tables.proofs.text_search.find_filled.Goals as goal

pub find_leftmost-requires : goal.find_leftmost-requires
find_leftmost-requires c =
    let l = c.args.linear.now in
    let by = tabled_by (code_tidy l.code.now) (code_routines l.code.now) l.inner l.tabled in
    record { searchable = record { tabled = by.0; inner = by.1; filled = c.requires.filled } }

pub returns-clause-finds : goal.returns-clause-finds
returns-clause-finds c =
    let code = c.args.linear.now.code.now in
    let mappings = c.args.linear.now.known.tables.now in
    let text = c.args.text.now in
    ok_map c.find_leftmost.result _ _
    (λ search found t pattern.
    finds_by (setting_with code mappings) text (code_routines code) code.program.is_program (outcomes_from code mappings text) (tree_outcomes_from code mappings text t)
    c.args.from search.found
    (λ outs solution k le. pattern.means (setting_with code mappings) text outs solution (initial_state (code_groups code) k) le) found)
    c.find_leftmost.ensures.solved

pub returns-clause-steps : goal.returns-clause-steps
returns-clause-steps c =
    let l = c.args.linear.now in
    let program = code_routines l.code.now in
    let text = c.args.text.now in
    let weight = walk_weight (code_groups l.code.now) in
    subst (λ k. IfOk c.find_leftmost.result (λ search. search.steps ≤ steps_up_to (total program) weight text c.args.from search.found
    + capturing_steps (total program) k weight * (length text + 1))) (tabled_by (code_tidy l.code.now) program l.inner l.tabled).1 c.find_leftmost.ensures.steps
