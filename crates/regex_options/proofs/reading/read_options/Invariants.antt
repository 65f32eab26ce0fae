use Rattle.std.proofs.Common.{◌≡◌, length, map}
use Rattle.std.specs.Prelude.{string_bytes}
use Rattle.regex_options.specs.Plain.{name_glob, source}
use Rattle.regex_options.specs.Reading.{options_of, reading_of, start}
use Rattle.regex_options.proofs.reading.read_options.Given as goal

-- The remaining arguments, with what those before them specify, yield what all arguments yield from the start.
abbrev pub invariant-loop-rest : goal.invariant-loop-rest
invariant-loop-rest l =
    options_of l.options l.fn.command
    (record { reading = reading_of l.reading; patterns = map source l.patterns.items; globs = map name_glob l.globs.items; operands = map string_bytes l.operands.items }) l.rest
    ≡ options_of l.options l.fn.command start l.args

abbrev pub decreases-loop-rest : goal.decreases-loop-rest
decreases-loop-rest l = length l.rest
