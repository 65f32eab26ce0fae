-- The options of a compiled regular expression.
use Rattle.std.specs.Prelude.{◌≡◌, ◌-◌, ◌^◌, ◌<◌, ◌≤◌, is_some}
use Rattle.regress_front.specs.Bound.{HasAtMost}
use Rattle.regress_front.specs.Source.{Source}
use Rattle.regress_front.specs.declared.types.Flags.{Flags}
use Rattle.regress_match.specs.Matcher.{IsFactorOf, IsFindFactorOf, IsNonlinearOf, is_find_linear_tree}
use Rattle.regress_program.specs.Size.{IsSize}
use Rattle.regress.specs.Compiled.{tree_of}
use Rattle.regress.specs.Costs.{factor_of, find_factor_of, limit_of, linear_steps_of, nonlinear_of}
use Rattle.regress.specs.Limits.{linear_limit}
use Rattle.regress.specs.Memory.{instructions_of, memory_of, stored_instructions_of}
use Rattle.regress.specs.declared.limits.Options.{Options}
use Rattle.regress.specs.declared.pattern.Regex.{Regex}

-- A regular expression that was compiled with these options: its tree and its program are within them, its searches have
-- their limits of steps and of memory, and are linear exactly within their limit on tables. `flags` are those in force.
pub record Keeps (options : Options) (flags : Flags) (source : Source) (r : Regex) : Type 0 where
  pub small : options.nodes < 2 ^ 64 - 1 → HasAtMost flags source options.nodes
  pub within : stored_instructions_of r ≤ options.instructions
  pub limit : limit_of r ≡ options.steps
  pub linear_steps : linear_steps_of r ≡ options.linear_steps
  pub memory : memory_of r ≡ options.memory
  pub instructions : IsSize options.instructions (tree_of r) (instructions_of r)
  pub linear : IsFactorOf (linear_limit options) (tree_of r) (factor_of r)
  pub find_linear : IsFindFactorOf (linear_limit options) (tree_of r) (find_factor_of r)
  pub find_linear_tree : is_some (find_factor_of r) ≡ is_find_linear_tree (linear_limit options) (tree_of r)
  pub nonlinear : IsNonlinearOf (linear_limit options) (tree_of r) (nonlinear_of r)
