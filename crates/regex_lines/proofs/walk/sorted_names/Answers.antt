use Rattle.std.proofs.Common.{arith}
use Rattle.regex_lines.proofs.walk.sorted_names.Goals as goal

pub overflow_add-rest : goal.overflow_add-rest
overflow_add-rest c = omega (arith, c.in-Some.ensures.0.high)
