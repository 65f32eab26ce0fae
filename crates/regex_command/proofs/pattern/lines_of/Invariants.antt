-- The lines so far, and those of the rest, are the lines of the text.
use denote.Shadow.{shadow}
use denote.Text.{Utf8}
use Rattle.std.proofs.Common.{◌≡◌, ◌++◌, length, map, string_bytes}
use Rattle.regex_command.specs.Printed.{texts_of_lines}
use Rattle.regex_command.proofs.pattern.lines_of.Given as goal

abbrev pub invariant-loop-rest : goal.invariant-loop-rest
invariant-loop-rest l = record {
  lines : map string_bytes l.lines.items ++ texts_of_lines l.rest ≡ texts_of_lines l.text;
  text : shadow (Utf8 l.rest);
}

abbrev pub decreases-loop-rest : goal.decreases-loop-rest
decreases-loop-rest l = length l.rest
