use Rattle.std.proofs.Common.{rules}
use Rattle.regress_unicode.proofs.checks.occurs_four_times.Goals as goal

pub loop-i-init : goal.loop-i-init
loop-i-init c = search rules
