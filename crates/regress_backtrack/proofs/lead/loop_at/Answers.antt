use Rattle.std.proofs.Common.{rules, ◌≡◌, Some, true, ap, ◌∙◌}
use Rattle.regress_program.specs.declared.instruction.Instruction.TheVariants as insts
use Rattle.regress_backtrack.proofs.lead.loop_at.Goals as goal

pub returns-clause-begun : goal.returns-clause-begun
returns-clause-begun c =
    let greedy : c.in-BeginLoop.greedy ≡ true = search rules in
    let begin = c.in-BeginLoop in
    record {
      repeat_pc = c.in_ok-swept.swept.repeat_pc;
      swept = c.in_ok-swept.ensures;
      body_in = search rules;
      pc_in = c.in_ok-greedy.ensures.0;
      begins = c.in_ok-greedy.ensures.1 ∙ ap Some begin.is ∙ ap (λ g. Some (insts.BeginLoop g begin.body begin.next)) greedy;
      possessive = c.is_possessive.ensures;
    }
