-- A pattern that is compiled with the default options.
use Rattle.std.proofs.Common.{◌≡◌, ℕ, List, chars, subst}
use Rattle.regress.specs.Compiled.{IsCompiledIn}
use Rattle.regress.specs.Kept.{Keeps}
use Rattle.regress.specs.Limits.{default_options}
use Rattle.regress.specs.declared.limits.Options.{Options}
use Rattle.regress.specs.declared.pattern.Regex.{Regex}
use Rattle.regress_base.specs.Table.{Table}
use Rattle.regress_base.specs.declared.types.Flags.{Flags}
use Rattle.regress_front.specs.Dialects.{flags_in_force}
use Rattle.regress_front.specs.declared.parse.Dialect.{Dialect}
use Rattle.regress_ucd.specs.UnicodeTable.{unicode_table}
use Rattle.regex_lines.specs.Ending.{IsOwnIn, setting_in}

module _ (dialect : Dialect) (flags : Flags) (text : List ℕ) (r : Regex) where
  pub compiled_by_default : (table : Table) → table ≡ unicode_table → (options : Options) → options ≡ default_options →
      IsCompiledIn dialect (record { flags = flags_in_force dialect flags; table = table }) text r →
      Keeps (record options { dialect = dialect }) (flags_in_force dialect flags) (chars text) r →
      IsOwnIn dialect (setting_in dialect flags) text r
  compiled_by_default table same options default compiled keeps = record {
    compiled = subst (λ (t : Table). IsCompiledIn dialect (record { flags = flags_in_force dialect flags; table = t }) text r) same compiled;
    keeps = subst (λ (o : Options). Keeps (record o { dialect = dialect }) (flags_in_force dialect flags) (chars text) r) default keeps;
  }
