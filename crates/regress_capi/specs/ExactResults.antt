-- Whether matches of a Regex in a text are those of ECMA-262, of strings of UTF-16.
use Rattle.std.specs.Prelude.{◌≡◌, ◌≤◌, ◌↔◌, ℕ, List, IsUtf8, chars}
use Rattle.regress.specs.Compiled.{IsCompiledFromIn}
use Rattle.regress.specs.declared.pattern.Regex.{Regex}
use Rattle.regress_ecma.specs.CodeUnits.{IsExactFor}
use Rattle.regress_front.specs.Source.{Source}
use Rattle.regress_front.specs.Steps.{Setting}
use Rattle.regress_front.specs.declared.parse.Dialect.{Dialect}

-- The result is 1 if they are, and 0 if that is not known or the text is not UTF-8.
pub record ExactResult (r : Regex) (text : List ℕ) (result : ℕ) : Type 0 where
  pub binary : result ≤ 1
  pub exact : (dialect : Dialect) (setting : Setting) (pattern : Source) (compiled : IsCompiledFromIn dialect setting pattern r) →
      (result ≡ 1) ↔ (IsUtf8 text × IsExactFor setting compiled.tree.pattern pattern (chars text))
