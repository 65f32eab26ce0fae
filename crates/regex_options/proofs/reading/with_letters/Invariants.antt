use denote.Shadow.{shadow}
use denote.Text.{Utf8}
use Rattle.std.proofs.Common.{◌≡◌, length}
use Rattle.regex_options.specs.Reading.{reading_of, with_letters}
use Rattle.regex_options.proofs.reading.with_letters.Given as goal

-- the remaining letters, added to the options so far, yield what all letters yield
abbrev pub invariant-loop-letter : goal.invariant-loop-letter
invariant-loop-letter l =
    (with_letters l.options l.fn.command l.word l.letters (reading_of l.reading)
    ≡ with_letters l.options l.fn.command l.word l.fn.letters (reading_of l.fn.reading))
    × shadow (Utf8 l.letters)

abbrev pub decreases-loop-letter : goal.decreases-loop-letter
decreases-loop-letter l = length l.letters
