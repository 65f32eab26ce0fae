use Rattle.std.proofs.Common.{Bool, sym, subst}
use Rattle.std.proofs.lemmas.Result.{IfOk-weaker}
use Rattle.regress_program.specs.CodeOf.{code_in}
use Rattle.regress_program.specs.Pushed.{Pushed, preferred}
use Rattle.regress_program.proofs.compiler.Compiler.prefer.Goals as goal

pub returns-then-greedy-clause-emits : goal.returns-then-greedy-clause-emits
returns-then-greedy-clause-emits c =
    IfOk-weaker c.push.result _ _
    (λ at pushed. record {
      at_end = pushed.at_end;
      grown = pushed.grown;
      means = λ leaves.
          subst (λ (b : Bool). Pushed (code_in leaves c.args.self.now) (code_in leaves c.push.new.self) (preferred b c.args.first c.args.second) at)
          (sym c.if-greedy.true) (pushed.means leaves);
    })
    c.push.ensures.emits

pub returns-else-greedy-clause-emits : goal.returns-else-greedy-clause-emits
returns-else-greedy-clause-emits c =
    IfOk-weaker c.push-else-greedy.result _ _
    (λ at pushed. record {
      at_end = pushed.at_end;
      grown = pushed.grown;
      means = λ leaves.
          subst (λ (b : Bool). Pushed (code_in leaves c.args.self.now) (code_in leaves c.push-else-greedy.new.self) (preferred b c.args.first c.args.second) at)
          (sym c.if-greedy.false) (pushed.means leaves);
    })
    c.push-else-greedy.ensures.emits
