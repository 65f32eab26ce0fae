-- The remaining source has the same marks in each mode, and no error was passed.
use Rattle.std.proofs.Common.{◌≡◌, ℕ, Bool, ◌≤◌, length}
use Rattle.regress_base.specs.Table.{Table}
use Rattle.regress_syntax.specs.Scan.{tokens}
use Rattle.regress_syntax.specs.FirstErrors.{Flaw, remaining_at}
use Rattle.regress_syntax.specs.Scanning.{mode_of, tokens_down_to}
use Rattle.regress_syntax.specs.declared.scan.token.Mode.{Mode}
use Rattle.regress_syntax.proofs.scan.token.skip_insignificant.Given as goal

abbrev pub invariant-loop-c : goal.invariant-loop-c
invariant-loop-c l = record {
  same : (sets : Bool) (table : Table) (mode : Mode) → tokens sets table (mode_of mode) l.source ≡ tokens sets table (mode_of mode) l.rest;
  places : (left : ℕ) (sets : Bool) (table : Table) (mode : Mode) →
      tokens_down_to left sets table (mode_of mode) l.source ≡ tokens_down_to left sets table (mode_of mode) l.rest;
  flaws : (flaw : Flaw) (sets : Bool) (mode : Mode) (n : ℕ) →
      remaining_at flaw sets (mode_of mode) n l.source ≡ remaining_at flaw sets (mode_of mode) n l.rest;
  within : length l.rest ≤ length l.source;
}

abbrev pub decreases-loop-c : goal.decreases-loop-c
decreases-loop-c l = length l.rest
