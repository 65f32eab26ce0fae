-- The program has the routines that were compiled.
use Rattle.std.proofs.Common.{◌-◌, length, sym, ap, subst, ◌∙◌, arith}
use Rattle.std.proofs.lemmas.List.{length-map}
use Rattle.std.proofs.lemmas.Option.{slice_get_within}
use Rattle.regress_tree.specs.Tree.{tree}
use Rattle.regress_program.specs.Compiled.{IsPattern, total}
use Rattle.regress_program.specs.Linear.{is_linear}
use Rattle.regress_program.specs.Tidy.{IsTidy, has_no_back_reference}
use Rattle.regress_program.specs.Views.{program_in, routine_in}
use Rattle.regress_program.proofs.program.Program.with_counts.Goals as goal

pub new-requires-clause-some : goal.new-requires-clause-some
new-requires-clause-some c =
    let leaves = c.in_ok-leaves.leaves.items in
    let routines = c.in_ok-leaves.routines.items in
    let program = program_in leaves routines in
    let pattern = c.in_ok-leaves.ensures.means in
    omega (arith, slice_get_within program (length program - 1) pattern.routine pattern.last, length-map routines (routine_in leaves))

pub returns-clause-pattern : goal.returns-clause-pattern
returns-clause-pattern c = subst (λ rs. IsPattern rs (tree c.args.regex.now.node)) (sym c.in_ok-program.ensures.routines) c.in_ok-leaves.ensures.means

pub returns-clause-plain : goal.returns-clause-plain
returns-clause-plain c = ap has_no_back_reference c.in_ok-program.ensures.routines ∙ c.in_ok-leaves.ensures.plain

pub returns-clause-linear : goal.returns-clause-linear
returns-clause-linear c = ap is_linear c.in_ok-program.ensures.routines ∙ c.in_ok-leaves.ensures.linear

pub returns-clause-tidy : goal.returns-clause-tidy
returns-clause-tidy c = λ formed. subst IsTidy (sym c.in_ok-program.ensures.routines) (c.in_ok-leaves.ensures.tidy formed)

pub returns-clause-most : goal.returns-clause-most
returns-clause-most c = omega (arith, ap total c.in_ok-program.ensures.routines, c.in_ok-leaves.ensures.most)

pub returns-clause-exact : goal.returns-clause-exact
returns-clause-exact c = λ stored. ap total c.in_ok-program.ensures.routines ∙ c.in_ok-leaves.ensures.exact stored

pub returns-clause-room : goal.returns-clause-room
returns-clause-room c = omega (arith, ap total c.in_ok-program.ensures.routines, c.in_ok-leaves.ensures.room)

pub returns-clause-within : goal.returns-clause-within
returns-clause-within c = omega (arith, c.in_ok-program.ensures.stored, c.in_ok-leaves.ensures.within)
