use Rattle.std.proofs.Common.{ℕ, ◌*◌, ◌-◌, ap, arith}
use Rattle.regress_program.proofs.PushLemmas.{room-copied}
use Rattle.regress_program.proofs.compiler.Compiler.copy.Goals as goal

pub invariant_of-self : goal.invariant_of-self
invariant_of-self c = record {
  room =
      room-copied c.copy.result c.args.self.now.instructions c.copy.new.self c.args.from c.args.start c.args.count c.in-Some.added c.args.self.now.left c.requires.some
      (omega (arith, ap (λ (n : ℕ). c.args.count * (n - c.args.start)) c.len.ensures)) c.if-self-added.false c.args.self.now.room c.copy.ensures.copied c.copy.ensures.err;
}
