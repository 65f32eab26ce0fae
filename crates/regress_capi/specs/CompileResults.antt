-- The result of a call that compiles a pattern.
use Rattle.std.specs.Prelude.{◌==◌, ℕ, List, Option, Some, chars, if◌then◌else◌}
use Rattle.regress_front.specs.Steps.{Setting}
use Rattle.regress_lexer.specs.declared.dialect.Dialect.{Dialect}
use Rattle.regress_parse.specs.Rejected.{NoneIsAcceptedIn}
use Rattle.regress.specs.Compiled.{IsCompiledIn}
use Rattle.regress.specs.Kept.{Keeps}
use Rattle.regress.specs.Failures.{IsTooLarge}
use Rattle.regress.specs.Limits.{default_options}
use Rattle.regress.specs.declared.limits.Options.{Options}
use Rattle.regress.specs.declared.pattern.Regex.{Regex}
use Rattle.regress_capi.specs.Results.{IsErrorIn}
use Rattle.regress_capi.specs.declared.limits.Limits.{Limits}

-- a limit, where 0 is the default
abbrev pub or_default : (limit default : ℕ) → ℕ
or_default limit default = if limit == 0 then default else limit

-- the dialect and the limits, where 0 is the default of each limit
abbrev pub options_of : Dialect → Limits → Options
options_of dialect l = record {
  dialect = dialect;
  steps = or_default l.steps default_options.steps;
  nodes = or_default l.nodes default_options.nodes;
  instructions = or_default l.instructions default_options.instructions;
  linear_instructions = or_default l.linear_instructions default_options.linear_instructions;
  memory = or_default l.memory default_options.memory;
  linear_steps = if l.linear_steps == 0 then default_options.linear_steps else Some l.linear_steps;
}

-- The regular expression is compiled from this text, in the dialect and within the limits of the options, and searches
-- within them.
pub record IsCompiledWithin (setting : Setting) (text : List ℕ) (options : Options) (regex : Regex) : Type 0 where
  pub compiled : IsCompiledIn options.dialect setting text regex
  pub keeps : Keeps options setting.flags (chars text) regex

-- The status, `kind`, `position`, and the handle before and after. `Asked` states that the arguments are valid.
pub data CompileResult (Asked : Type 0) (setting : Setting) (text : List ℕ) (options : Options) (old : Option Regex) :
    (status kind position : ℕ) (new : Option Regex) → Type 0 where
  -- the handle is that of the compiled pattern
  compiled : {regex : Regex} → Asked → IsCompiledWithin setting text options regex → CompileResult Asked setting text options old 0 0 0 (Some regex)
  -- an allocation failed
  out_of_memory : Asked → CompileResult Asked setting text options old 2 0 0 old
  -- the arguments are invalid
  bad : (Asked → ⊥) → CompileResult Asked setting text options old 4 0 0 old
  -- the pattern is rejected, with the kind and the position of its syntax error
  rejected : {kind position : ℕ} → Asked → NoneIsAcceptedIn options.dialect setting (chars text) →
      IsErrorIn options.dialect setting (chars text) kind position → CompileResult Asked setting text options old 5 kind position old
  -- the pattern may have more nodes than allowed, or its program has more instructions
  too_large : Asked → IsTooLarge setting (chars text) options → CompileResult Asked setting text options old 6 0 0 old
