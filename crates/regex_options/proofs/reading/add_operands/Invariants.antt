use Rattle.std.proofs.Common.{◌≡◌, ◌++◌, drop, map}
use Rattle.std.specs.Prelude.{string_bytes}
use Rattle.regex_options.proofs.reading.add_operands.Given as goal

-- what is added so far, with the remaining arguments, is what was there with all of them
abbrev pub invariant-loop-arg : goal.invariant-loop-arg
invariant-loop-arg l = map string_bytes l.to.items ++ map string_bytes (drop l.arg-index l.args) ≡ map string_bytes l.fn.to.items ++ map string_bytes l.args
