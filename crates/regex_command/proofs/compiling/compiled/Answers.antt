use Rattle.std.proofs.Common.{◌∙◌, ap}
use Rattle.regress_unicode.specs.TableOf.{table_of}
use Rattle.regex_command.proofs.CompiledLemmas.{compiled_by_default}
use Rattle.regex_command.proofs.compiling.compiled.Goals as goal

pub returns-in-Ok-clause-own : goal.returns-in-Ok-clause-own
returns-in-Ok-clause-own c =
    let pattern = c.args.pattern in
    let is = c.in-Ok.ensures in
    compiled_by_default pattern.dialect pattern.flags pattern.text.now c.in-Ok.regex (table_of c.in_ok-tables.tables.value)
    (ap table_of c.in_ok-tables.ensures.ok ∙ c.in_ok-unicode_tables.ensures) c.default.result c.default.ensures is.compiled (record {
      small = is.small;
      within = is.within;
      limit = is.limit;
      memory = is.memory;
      linear_steps = is.linear_steps;
      instructions = is.instructions;
      linear = is.linear;
      find_linear = is.find_linear;
      find_linear_tree = is.find_linear_tree;
      nonlinear = is.nonlinear;
    })
