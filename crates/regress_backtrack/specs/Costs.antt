-- The cost of a run.
use Rattle.std.specs.Prelude.{ℕ, ◌+◌, sum_by}
use Rattle.regress_leaves.specs.Subject.{subject}
use Rattle.regress_program.specs.Cost.{Cost, IsCost, cost_by, cost_of}
use Rattle.regress_program.specs.Program.{At, Op, Out, matcher_of}
use Rattle.regress_code.specs.Code.{code_routines}
use Rattle.regress_backtrack.specs.Machine.{at, groups_of, points}
use Rattle.regress_backtrack.specs.declared.input.Input.{Input}
use Rattle.regress_backtrack.specs.declared.machine.Machine.{Machine}
use Rattle.regress_backtrack.specs.declared.step.Next.{Next}
use Rattle.regress_backtrack.specs.declared.step.Next.TheVariants as nexts

-- These are the costs of the program in the text.
abbrev pub HasCost : Input → (ℕ → Out) → (ℕ → Cost) → Type 0
HasCost input outs costs = IsCost (subject input.rules input.text.now).setting input.text.now (code_routines input.code.now) outs costs

-- what an instruction of the routine costs besides 1
abbrev pub op_cost : Input → (ℕ → Out) → (ℕ → Cost) → Op → At → ℕ
op_cost input outs costs =
    let u = subject input.rules input.text.now in
    let program = code_routines input.code.now in
    cost_by u.setting u.bytes u.direction (matcher_of u.setting u.bytes program outs) (cost_of u.setting u.bytes program costs) (costs input.index)

-- the cost of the backtrack points
abbrev pub points_cost : Cost → Machine → ℕ
points_cost cost m = sum_by cost (points m)

-- the cost of what a run goes on with
abbrev pub cost_ahead : Cost → Machine → Next → ℕ
cost_ahead cost m (nexts.On p) = cost (at p (groups_of m)) + points_cost cost m
cost_ahead cost m nexts.Back = points_cost cost m
cost_ahead cost m (nexts.Accept k) = 0
cost_ahead cost m nexts.OutOfSteps = 0
