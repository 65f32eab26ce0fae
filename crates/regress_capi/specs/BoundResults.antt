-- The results of calls that bound the number of nodes of a tree.
use Rattle.std.specs.Prelude.{◌≡◌, ◌<◌, ◌-◌, ◌^◌, ℕ, min}
use Rattle.regress_base.specs.declared.types.Flags.{Flags}
use Rattle.regress_lexer.specs.Source.{Source}
use Rattle.regress_parse.specs.Bound.{HasAtMost, node_bound}

-- The bound, at most 2^64 - 1, which is no bound. Below that, no tree of the source has more nodes.
pub record IsNodeBound (flags : Flags) (source : Source) (bound : ℕ) : Type 0 where
  pub value : bound ≡ min (node_bound flags.unicode_sets source) (2 ^ 64 - 1)
  pub nodes : bound < 2 ^ 64 - 1 → HasAtMost flags source bound

-- The status, and the bound. `Asked` states that the arguments are valid.
pub data BoundResult (Asked : Type 0) (flags : Flags) (source : Source) : (status bound : ℕ) → Type 0 where
  bounded : {bound : ℕ} → Asked → IsNodeBound flags source bound → BoundResult Asked flags source 0 bound
  -- an allocation failed
  out_of_memory : Asked → BoundResult Asked flags source 2 0
  -- the arguments are invalid
  bad : (Asked → ⊥) → BoundResult Asked flags source 4 0
