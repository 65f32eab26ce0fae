-- The program's output for a pattern. Only this file cites the library's definitions.
use Rattle.std.specs.Prelude.{◌≡◌, ℕ, List, ◌++◌, codes}
use Rattle.regress_front.specs.Steps.{Setting}
use Rattle.regress_front.specs.SmallTable.{small_table}
use Rattle.regress_front.specs.Tree.{Tree}
use Rattle.regress_front.specs.Display.{printed}
use Rattle.regress_front.specs.WellFormed.{captures}
use Rattle.regress_front.specs.NormalForm.{IsNormal}
use Rattle.regress_front.specs.Syntax.{Pattern}
use Rattle.regress_front.specs.TreeOf.{tree_of}
use Rattle.regress_front.specs.Accepted as parse
use Rattle.regress_front.specs.Rejected as rejected
use Rattle.regress_arguments.specs.Request.{Request}

-- the request's flags, and the small table
abbrev pub setting_of_request : Request → Setting
setting_of_request (text, flags) = record { flags = flags; table = small_table }

-- the request's text denotes this pattern under its flags
abbrev pub IsAccepted : Request → Pattern → Type 0
IsAccepted request p = parse.IsAccepted (setting_of_request request) request.0 p

-- The request's text denotes some pattern.
abbrev pub IsAcceptedPattern : Request → Type 0
IsAcceptedPattern request = (p : Pattern) × IsAccepted request p

-- The request's text denotes no pattern.
abbrev pub NoneIsAccepted : Request → Type 0
NoneIsAccepted request = rejected.NoneIsAccepted (setting_of_request request) request.0

-- A tree in normal form with the meaning and the groups of the pattern.
pub record IsOptimized (request : Request) (p : Pattern) (t : Tree) : Type 0 where
  pub normal : IsNormal t
  pub meaning : parse.Means (setting_of_request request) t p
  pub captures : captures t ≡ captures (tree_of small_table p)

-- The first part of the output: the parsed tree of the accepted pattern, and the line `--`.
pub record IsParsedText (request : Request) (bytes : List ℕ) : Type 0 where
  pub pattern : Pattern
  pub accepted : IsAccepted request pattern
  pub text : bytes ≡ printed (tree_of small_table pattern) ++ codes "--\n"

-- The second part: an optimized tree of the pattern.
pub record IsOptimizedText (request : Request) (bytes : List ℕ) : Type 0 where
  pub optimized : Tree
  pub good : (p : Pattern) → IsAccepted request p → IsOptimized request p optimized
  pub text : bytes ≡ printed optimized

-- The whole output: both parts in order.
pub record IsOutput (request : Request) (bytes : List ℕ) : Type 0 where
  pub pattern : Pattern
  pub accepted : IsAccepted request pattern
  pub optimized : Tree
  pub good : IsOptimized request pattern optimized
  pub text : bytes ≡ (printed (tree_of small_table pattern) ++ codes "--\n") ++ printed optimized
