use Rattle.std.proofs.Common.{◌≡◌, ◌∙◌, sym, ap, ap₂, subst}
use Rattle.std.specs.Arc.{arc_value}
use Rattle.std.specs.Prelude.{chars}
use Rattle.regress_base.specs.Table.{Table}
use Rattle.regress_front.specs.Dialects.{flags_in_force}
use Rattle.regress_front.specs.Meaning.{setting_of}
use Rattle.regress_front.specs.Steps.{Setting}
use Rattle.regress_front.specs.declared.types.Flags.{Flags}
use Rattle.regress_unicode.specs.TableOf.{table_of}
use Rattle.regress.specs.Compiled.{IsCompiledIn}
use Rattle.regress.specs.Kept.{Keeps}
use Rattle.regress.specs.declared.pattern.Regex.{Regex}
use Rattle.regress_capi.specs.CompileResults.{IsCompiledWithin}
use Rattle.regress_capi.specs.Request.{setting_in}
use Rattle.regress_capi.proofs.compiling.compile.Goals as goal

pub returns-clause-compiled : goal.returns-clause-compiled
returns-clause-compiled c =
    let options = c.args.options in
    let text = c.args.pattern.now in
    let regex = c.in_ok-regex.regex in
    let made = c.in_ok-regex.ensures in
    let flags = flags_in_force options.dialect c.parse_flags.result in
    let setting : setting_of flags (arc_value c.in_ok-tables.tables) ≡ setting_in options.dialect c.args.bits =
    ap₂ (λ (f : Flags) (t : Table). let s : Setting = record { flags = flags_in_force options.dialect f; table = t } in s) c.parse_flags.ensures
    (ap table_of c.in_ok-tables.ensures.ok ∙ c.in_ok-make_tables.ensures) in
    let keeps : Keeps options flags (chars text) regex = record {
      small = made.small;
      within = made.within;
      limit = made.limit;
      memory = made.memory;
      linear_steps = made.linear_steps;
      instructions = made.instructions;
      linear = made.linear;
      find_linear = made.find_linear;
      find_linear_tree = made.find_linear_tree;
      nonlinear = made.nonlinear;
    } in
    subst (λ (r : Regex). IsCompiledWithin (setting_in options.dialect c.args.bits) text options r) (sym c.in_ok-new.ensures.ok) (record {
      compiled = subst (λ s. IsCompiledIn options.dialect s text regex) setting made.compiled;
      keeps = subst (λ (s : Setting). Keeps options s.flags (chars text) regex) setting keeps;
    })
