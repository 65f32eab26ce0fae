use Rattle.std.proofs.Common.{length, refl, arith}
use Rattle.regress_program.specs.CodeOf.{code_in}
use Rattle.regress_program.specs.Contents.{nothing}
use Rattle.regress_program.specs.Listed.{all_of}
use Rattle.regress_program.specs.Views.{leaf_in}
use Rattle.regress_program.proofs.CountLemmas.{compiled_character, compiled_characters}
use Rattle.regress_program.proofs.PieceLemmas.{holds_part, plain_one}
use Rattle.regress_program.proofs.PushLemmas.{IfOk-both, names-one}
use Rattle.regress_program.proofs.ViewLemmas.{below}
use Rattle.regress_program.proofs.compiler.Compiler.characters.Goals as goal

pub returns-then-count-eq1-clause-emits : goal.returns-then-count-eq1-clause-emits
returns-then-count-eq1-clause-emits c =
    IfOk-both c.push.result _ _ _
    (λ at pushed appends. record {
      begins = omega (arith, pushed.at_end, pushed.grown);
      appends = appends;
      means = λ leaves one.
          let a = code_in leaves c.args.self.now in
          let b = code_in leaves c.push.new.self in
          let t = leaf_in leaves c.args.leaf in
          record {
            compiled =
                compiled_character t one a b c.args.count c.args.next at c.if-count-eq1.true
                (below leaves (all_of c.args.self.now.instructions) c.args.next c.requires) (pushed.means leaves);
            holds = holds_part a b nothing t c.args.next at (λ none. plain_one t one) (pushed.means leaves);
          };
    })
    c.push.ensures.emits (c.push.ensures.appends (names-one (length (all_of c.args.self.now.instructions)) c.args.next c.requires))

pub returns-else-count-eq1-clause-emits : goal.returns-else-count-eq1-clause-emits
returns-else-count-eq1-clause-emits c =
    IfOk-both c.push-else-count-eq1.result _ _ _
    (λ at pushed appends. record {
      begins = omega (arith, pushed.at_end, pushed.grown);
      appends = appends;
      means = λ leaves one.
          let a = code_in leaves c.args.self.now in
          let b = code_in leaves c.push-else-count-eq1.new.self in
          record {
            compiled =
                compiled_characters (leaf_in leaves c.args.leaf) one a b c.args.count c.args.next at
                (below leaves (all_of c.args.self.now.instructions) c.args.next c.requires) (pushed.means leaves);
            holds = holds_part a b nothing _ c.args.next at (λ none. refl) (pushed.means leaves);
          };
    })
    c.push-else-count-eq1.ensures.emits (c.push-else-count-eq1.ensures.appends (names-one (length (all_of c.args.self.now.instructions)) c.args.next c.requires))
