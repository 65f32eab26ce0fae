use Rattle.std.proofs.Common.{◌≡◌, ℕ, ◌+◌, ◌-◌, refl, ap, subst, ◌∙◌, arith}
use Rattle.regress_program.specs.CodeOf.{code_in}
use Rattle.regress_program.specs.Compiled.{exactly, matching, Compiled}
use Rattle.regress_program.specs.Contents.{nothing}
use Rattle.regress_program.specs.Listed.{all_of}
use Rattle.regress_program.specs.Size.{size_of_exactly}
use Rattle.regress_program.specs.Views.{leaf_in}
use Rattle.regress_program.proofs.AppendLemmas.{Appends-none, Appends-then}
use Rattle.regress_program.proofs.CountLemmas.{compiled_more, compiled_none}
use Rattle.regress_program.proofs.PieceLemmas.{holds_nothing, holds_plain_then}
use Rattle.regress_program.proofs.SizeLemmas.{exactly-none, too_long}
use Rattle.regress_program.proofs.SpendLemmas.{Spends-none, Spends-same, Spends-then, exceeds-more, exceeds-then}
use Rattle.regress_program.proofs.ViewLemmas.{below}
use Rattle.regress_program.proofs.compiler.Compiler.exactly.Goals as goal

pub loop-left-init : goal.loop-left-init
loop-left-init c =
    let none : 0 ≡ c.args.count - c.args.count = omega arith in
    record {
      within = omega arith;
      compiled = record {
        begins = c.requires;
        appends = Appends-none c.args.self.now.instructions;
        means = λ leaves one.
            let a = code_in leaves c.args.self.now in
            let t = leaf_in leaves c.args.leaf in
            record {
              compiled =
                  subst (λ (n : ℕ). Compiled a a (exactly n (matching t)) c.args.next c.args.next) none
                  (compiled_none t one a c.args.next (below leaves (all_of c.args.self.now.instructions) c.args.next c.requires));
              holds = holds_nothing a nothing c.args.next;
            };
      };
      same = refl;
      amount = 0;
      total = omega arith;
      spent = Spends-none c.args.self.now c.args.counts;
    }

pub loop-left-preserved : goal.loop-left-preserved
loop-left-preserved c =
    let l = c.loop-left in
    let part = c.part_of-part.result in
    let number : part + (c.args.count - l.left) ≡ c.args.count - (l.left - part) = omega (arith, l.invariant.within, c.part_of-part.ensures.within) in
    record {
      within = omega (arith, l.invariant.within);
      compiled = record {
        begins = c.in_ok-entry.ensures.emits.begins;
        appends =
            Appends-then c.args.self.now.instructions l.self.instructions c.characters.new.self.instructions l.invariant.compiled.appends
            c.in_ok-entry.ensures.emits.appends;
        means = λ leaves one.
            let t = leaf_in leaves c.args.leaf in
            let a = code_in leaves c.args.self.now in
            let b = code_in leaves l.self in
            let e = code_in leaves c.characters.new.self in
            let before = l.invariant.compiled.means leaves one in
            let more = c.in_ok-entry.ensures.emits.means leaves one in
            record {
              compiled =
                  subst (λ (n : ℕ). Compiled a e (exactly n (matching t)) c.args.next c.in_ok-entry.entry) number
                  (compiled_more t one a b e (c.args.count - l.left) part c.args.next l.entry c.in_ok-entry.entry before.compiled more.compiled);
              holds =
                  holds_plain_then a b e c.args.next l.entry c.in_ok-entry.entry before.compiled.grown more.compiled.grown before.holds more.holds;
            };
      };
      same = c.characters.ensures.leaf ∙ l.invariant.same;
      amount = l.invariant.amount + 1;
      total = omega (arith, l.invariant.total, c.part_of-part.ensures.size c.loop-left-test.true);
      spent =
          Spends-then c.args.self.now l.self c.characters.new.self c.args.counts (λ counted. l.invariant.amount) (λ counted. 1) l.invariant.spent
          (c.in_ok-entry.ensures.spends c.args.counts);
    }

pub returns-clause-spends : goal.returns-clause-spends
returns-clause-spends c =
    let l = c.loop-left in
    let counts = c.args.counts in
    let none : l.left ≡ 0 = omega (arith, c.loop-left-test.false) in
    Spends-same c.args.self.now l.self counts (λ counted. l.invariant.amount) (λ counted. size_of_exactly counts c.args.count)
    (λ counted. omega (arith, l.invariant.total, ap (size_of_exactly counts) none, exactly-none counts)) l.invariant.spent

pub returns-in_err-entry-clause-too_long : goal.returns-in_err-entry-clause-too_long
returns-in_err-entry-clause-too_long c =
    let l = c.loop-left in
    let counts = c.args.counts in
    too_long c.from_residual.result _ _ c.from_residual.ensures.1
    (λ is.
    exceeds-more c.args.self.now counts (λ counted. l.invariant.amount + 1) (λ counted. size_of_exactly counts c.args.count)
    (λ counted. omega (arith, l.invariant.total, c.part_of-part.ensures.size c.loop-left-test.true))
    (exceeds-then c.args.self.now l.self counts (λ counted. l.invariant.amount) (λ counted. 1) l.invariant.spent (c.in_err-entry.ensures.too_long counts is)))
