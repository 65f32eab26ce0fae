-- The smaller characters are mapped as in ASCII.
use Rattle.std.proofs.Common.{◌≡◌, ◌<◌, ℕ}
use Rattle.std.specs.Char.{to_ascii_lowercase}
use Rattle.regress_unicode.specs.TableOf.{table_of}
use Rattle.regress_leaves.proofs.case_facts.has_ascii_fold.Given as goal

abbrev pub invariant-loop-c : goal.invariant-loop-c
invariant-loop-c l = (k : ℕ) → k < l.c → (table_of l.tables).fold k ≡ to_ascii_lowercase k
