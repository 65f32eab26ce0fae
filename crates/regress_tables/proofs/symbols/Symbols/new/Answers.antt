use Rattle.std.proofs.Common.{ℕ, arith}
use Rattle.std.proofs.lemmas.List.{get_or-replicate}
use Rattle.regress_tables.proofs.symbols.Symbols.new.Goals as goal

pub invariant_of-result : goal.invariant_of-result
invariant_of-result c = record {
  alike = λ d lt less. absurd (omega (arith, less, get_or-replicate {A = ℕ} 128 d 128 0 lt));
  few = omega arith;
}
