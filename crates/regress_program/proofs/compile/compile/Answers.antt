use Rattle.std.proofs.Common.{◌≡◌, ◌<◌, ◌⊎◌, ◌+◌, Bool, subst, not, ◌&&◌, Some, length, sym, ap, ap₂, ◌∙◌, arith}
use Rattle.regress_tree.specs.Tree.{tree}
use Rattle.regress_program.specs.CodeOf.{code_in}
use Rattle.regress_program.specs.Listed.{stored_total}
use Rattle.regress_program.specs.Compiled.{total}
use Rattle.regress_program.specs.Contents.{content}
use Rattle.regress_program.specs.LeavesOf.{leaves_of}
use Rattle.regress_program.specs.Program.{Routine}
use Rattle.regress_program.specs.Size.{size, stored_size}
use Rattle.regress_program.specs.Views.{program_in}
use Rattle.regress_program.proofs.CoverLemmas.{linear_exactly, plain_exactly}
use Rattle.regress_program.proofs.LeavesLemmas.{has-all}
use Rattle.regress_program.proofs.OnceLemmas.{looks-tree, refers-tree, well_formed-tidy}
use Rattle.regress_program.proofs.PieceLemmas.{program_linear, program_plain, program_tidy}
use Rattle.regress_program.proofs.SizeLemmas.{too_long}
use Rattle.regress_program.proofs.ViewLemmas.{is_pattern, no_routines}
use Rattle.regress_program.proofs.compile.compile.Goals as goal

pub returns-clause-forwards : goal.returns-clause-forwards
returns-clause-forwards c = λ r is.
    let leaves = c.in_ok-leaves.leaves.items in
    let has = has-all leaves (leaves_of (tree c.args.node.now)) (omega (arith, c.in_ok-leaves.leaves.ok)) c.in_ok-leaves.ensures in
    let pattern = is_pattern _ (code_in leaves c.routine.new.self) (tree c.args.node.now) c.in_ok-routine.field-0 (c.in_ok-routine.ensures.emits.means leaves has).has in
    let some : Some pattern.routine ≡ Some r = sym pattern.last ∙ is in
    let same : pattern.routine ≡ r = cc in
    sym (ap (λ (x : Routine). x.direction) same) ∙ pattern.direction

pub returns-clause-means : goal.returns-clause-means
returns-clause-means c =
    let leaves = c.in_ok-leaves.leaves.items in
    let has = has-all leaves (leaves_of (tree c.args.node.now)) (omega (arith, c.in_ok-leaves.leaves.ok)) c.in_ok-leaves.ensures in
    is_pattern _ (code_in leaves c.routine.new.self) (tree c.args.node.now) c.in_ok-routine.field-0 (c.in_ok-routine.ensures.emits.means leaves has).has

pub returns-clause-program : goal.returns-clause-program
returns-clause-program c =
    let leaves = c.in_ok-leaves.leaves.items in
    let has = has-all leaves (leaves_of (tree c.args.node.now)) (omega (arith, c.in_ok-leaves.leaves.ok)) c.in_ok-leaves.ensures in
    (c.in_ok-routine.ensures.emits.means leaves has).has.grown.program (no_routines leaves c.new.result.items c.new.ensures.items)

pub returns-clause-most : goal.returns-clause-most
returns-clause-most c =
    let leaves = c.in_ok-leaves.leaves.items in
    let has = has-all leaves (leaves_of (tree c.args.node.now)) (omega (arith, c.in_ok-leaves.leaves.ok)) c.in_ok-leaves.ensures in
    let body = (c.in_ok-routine.ensures.emits.means leaves has).has in
    let none : total (program_in leaves c.new.result.items) ≡ 0 = ap (λ rs. total (program_in leaves rs)) c.new.ensures.items in
    omega (arith, body.grown.spent, none, ap length body.same, c.in_ok-routine.ensures.spends.all)

pub returns-clause-exact : goal.returns-clause-exact
returns-clause-exact c = λ stored.
    let leaves = c.in_ok-leaves.leaves.items in
    let has = has-all leaves (leaves_of (tree c.args.node.now)) (omega (arith, c.in_ok-leaves.leaves.ok)) c.in_ok-leaves.ensures in
    let body = (c.in_ok-routine.ensures.emits.means leaves has).has in
    let none : total (program_in leaves c.new.result.items) ≡ 0 = ap (λ rs. total (program_in leaves rs)) c.new.ensures.items in
    omega (arith, body.grown.spent, none, ap length body.same, c.in_ok-routine.ensures.spends.exact stored)

pub returns-clause-room : goal.returns-clause-room
returns-clause-room c =
    let leaves = c.in_ok-leaves.leaves.items in
    let has = has-all leaves (leaves_of (tree c.args.node.now)) (omega (arith, c.in_ok-leaves.leaves.ok)) c.in_ok-leaves.ensures in
    let body = (c.in_ok-routine.ensures.emits.means leaves has).has in
    let none : total (program_in leaves c.new.result.items) ≡ 0 = ap (λ rs. total (program_in leaves rs)) c.new.ensures.items in
    omega (arith, body.grown.spent, none, ap length body.same, c.room.ensures)

pub returns-clause-within : goal.returns-clause-within
returns-clause-within c =
    let none : stored_total c.new.result.items ≡ 0 = ap stored_total c.new.ensures.items in
    let short : length c.new-2.result.stored.items ≡ 0 = ap length c.new-2.ensures.stored in
    omega (arith, c.in_ok-routine.ensures.spends.kept, none, short)

pub returns-in_err-routine-clause-too_long : goal.returns-in_err-routine-clause-too_long
returns-in_err-routine-clause-too_long c =
    let counts = c.args.counts in
    let u = tree c.args.node.now in
    too_long c.from_residual-in_err-routine.result _ _ c.from_residual-in_err-routine.ensures.1
    (λ is.
    subst (λ k. (c.args.limit < stored_size counts u + 1) ⊎ (k < size counts u + 1)) c.room.ensures (c.in_err-routine.ensures.too_long is))

pub returns-clause-plain : goal.returns-clause-plain
returns-clause-plain c =
    let leaves = c.in_ok-leaves.leaves.items in
    let has = has-all leaves (leaves_of (tree c.args.node.now)) (omega (arith, c.in_ok-leaves.leaves.ok)) c.in_ok-leaves.ensures in
    let body = c.in_ok-routine.ensures.emits.means leaves has in
    let part = content (tree c.args.node.now) in
    let i = c.in_ok-routine.field-0 in
    plain_exactly _ (code_in leaves c.routine.new.self) part i body.covers
    (program_plain _ (code_in leaves c.routine.new.self) part i (ap (program_in leaves) c.new.ensures.items) body.holds)
    ∙ ap not (refers-tree (tree c.args.node.now))

pub returns-clause-tidy : goal.returns-clause-tidy
returns-clause-tidy c = λ well.
    let leaves = c.in_ok-leaves.leaves.items in
    let has = has-all leaves (leaves_of (tree c.args.node.now)) (omega (arith, c.in_ok-leaves.leaves.ok)) c.in_ok-leaves.ensures in
    program_tidy _ (code_in leaves c.routine.new.self) (content (tree c.args.node.now)) c.in_ok-routine.field-0
    (ap (program_in leaves) c.new.ensures.items) (c.in_ok-routine.ensures.emits.means leaves has).holds (well_formed-tidy (tree c.args.node.now) well)

pub returns-clause-linear : goal.returns-clause-linear
returns-clause-linear c =
    let leaves = c.in_ok-leaves.leaves.items in
    let has = has-all leaves (leaves_of (tree c.args.node.now)) (omega (arith, c.in_ok-leaves.leaves.ok)) c.in_ok-leaves.ensures in
    let body = c.in_ok-routine.ensures.emits.means leaves has in
    let part = content (tree c.args.node.now) in
    let i = c.in_ok-routine.field-0 in
    linear_exactly _ (code_in leaves c.routine.new.self) part i body.covers
    (program_linear _ (code_in leaves c.routine.new.self) part i (ap (program_in leaves) c.new.ensures.items) body.holds)
    ∙ ap₂ (λ (a b : Bool). not a && not b) (refers-tree (tree c.args.node.now)) (looks-tree (tree c.args.node.now))
