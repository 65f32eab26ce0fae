-- The bits so far are the same.
use Rattle.std.proofs.Common.{◌≡◌, ℕ, ◌+◌, ◌*◌, ◌<◌, false, get_or}
use Rattle.regress_tables.specs.Bits.{bits_of}
use Rattle.regress_tables.proofs.table.Table.are_equal.Given as goal

abbrev pub invariant-loop-k : goal.invariant-loop-k
invariant-loop-k l = (j : ℕ) → j < 64 * l.k → j < 2 * l.self.width → get_or (bits_of l.self.bits) (l.a + j) false ≡ get_or (bits_of l.self.bits) (l.b + j) false
