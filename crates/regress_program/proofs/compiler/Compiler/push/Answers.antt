-- The instruction is added, and one fewer is left.
use Rattle.std.proofs.Common.{[], ◌∷◌, length, map, refl, ap, ◌∙◌, arith}
use Rattle.std.proofs.lemmas.List.{length-map, map-append}
use Rattle.regress_program.specs.Listed.{all_of}
use Rattle.regress_program.specs.Views.{op_in}
use Rattle.regress_program.proofs.CodeLemmas.{length-push}
use Rattle.regress_program.proofs.compiler.Compiler.push.Goals as goal

pub returns-clause-emits : goal.returns-clause-emits
returns-clause-emits c =
    let is = all_of c.args.self.now.instructions in
    record {
      at_end = omega (arith, c.len-at.ensures);
      grown = ap length c.in_ok-push.ensures.pushed ∙ length-push is c.args.instruction;
      means = λ leaves. record {
        routines = refl;
        ops = ap (λ xs. map (op_in leaves) xs) c.in_ok-push.ensures.pushed ∙ map-append (op_in leaves) is (c.args.instruction ∷ []);
        left = omega (arith, c.if-self-eq0.false);
        at_end = omega (arith, c.len-at.ensures, length-map is (op_in leaves));
      };
    }

pub returns-clause-spends : goal.returns-clause-spends
returns-clause-spends c = λ counts.
    let is = all_of c.args.self.now.instructions in
    let all = ap length c.in_ok-push.ensures.pushed ∙ length-push is c.args.instruction in
    let stored = ap length c.in_ok-push.ensures.stored ∙ length-push c.args.self.now.instructions.stored.items c.args.instruction in
    record {
      stored = omega (arith, c.if-self-eq0-2.false);
      all = omega arith;
      exact = λ is. omega (arith, c.if-self-eq0.false);
      room = omega (arith, all, c.if-self-eq0.false);
      kept = omega (arith, stored, c.if-self-eq0-2.false);
    }
