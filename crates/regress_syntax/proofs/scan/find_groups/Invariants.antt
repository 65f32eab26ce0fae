-- What was found so far, with what the marks of the remaining source add, is what the marks of the whole pattern
-- determine. The same holds of the first errors, and of the named groups up to each position. The number of open
-- classes, and each number in the position, is at most the number of code points passed.
use Rattle.std.proofs.Common.{◌≡◌, ◌+◌, ◌≤◌, length}
use Rattle.std.specs.Option.{option_or}
use Rattle.regress_unicode.specs.TableOf.{table_of}
use Rattle.regress_syntax.specs.Scan.{plain, tokens}
use Rattle.regress_syntax.specs.FirstErrors.{Flaw, remaining_at}
use Rattle.regress_syntax.specs.Scanning.{mode_of, depth_of, path_of, position_of, highest_at, noted, After, HasNumbers, HasPlaces, AreInOrder}
use Rattle.regress_syntax.proofs.scan.find_groups.Given as goal

abbrev pub invariant-loop-c : goal.invariant-loop-c
invariant-loop-c l = record {
  found : After (tokens l.sets (table_of l.tables) plain l.pattern) (tokens l.sets (table_of l.tables) (mode_of l.mode) l.rest) l.scanner;
  flaws : (flaw : Flaw) → remaining_at flaw l.sets plain 1 l.pattern
      ≡ option_or (noted flaw l.first_errors) (remaining_at flaw l.sets (mode_of l.mode) (length (path_of l.scanner.path)) l.rest);
  depth : depth_of (mode_of l.mode) + length l.rest ≤ length l.pattern;
  places : HasPlaces l.sets (table_of l.tables) l.pattern (mode_of l.mode) l.rest l.scanner;
  order : AreInOrder (length l.rest) l.scanner.named.items;
  numbered : HasNumbers l.scanner;
  numbers : highest_at (position_of l.scanner) + length l.rest ≤ length l.pattern;
}

abbrev pub decreases-loop-c : goal.decreases-loop-c
decreases-loop-c l = length l.rest
