use Rattle.std.proofs.Common.{◌≡◌, ℕ, ◌+◌, ◌-◌, ◌/◌, sym, subst, arith}
use Rattle.std.proofs.lemmas.Result.{IfOk-weaker, IfErr-weaker}
use Rattle.regress_program.specs.CodeOf.{code_in}
use Rattle.regress_program.specs.Compiled.{matching, optional, Compiled}
use Rattle.regress_program.specs.Contents.{nothing}
use Rattle.regress_program.specs.Listed.{all_of}
use Rattle.regress_program.specs.Size.{size_of_exactly, size_of_up_to}
use Rattle.regress_program.specs.Views.{leaf_in}
use Rattle.regress_program.proofs.AddLemmas.{longer}
use Rattle.regress_program.proofs.AppendLemmas.{Appends-none, Appends-then}
use Rattle.regress_program.proofs.CompileLemmas.{compiled_nothing, compiled_later}
use Rattle.regress_program.proofs.CountLemmas.{compiled_split}
use Rattle.regress_program.proofs.PieceLemmas.{holds_nothing, holds_preferred, tidies_later}
use Rattle.regress_program.proofs.PushLemmas.{IfOk-both}
use Rattle.regress_program.proofs.SpendLemmas.{Spends-none, Spends-same, Spends-then, exceeds-more, exceeds-then}
use Rattle.regress_program.proofs.SizeLemmas.{exactly-one, too_long, up_to-none, up_to-even, up_to-odd}
use Rattle.regress_program.proofs.ViewLemmas.{below}
use Rattle.regress_program.proofs.compiler.Compiler.+up_to.Goals as goal

pub returns-then-count-eq0-clause-spends : goal.returns-then-count-eq0-clause-spends
returns-then-count-eq0-clause-spends t c =
    Spends-same c.args.self.now c.args.self.now c.args.counts (λ counted. 0) (λ counted. size_of_up_to c.args.counts c.args.count c.args.count)
    (λ counted. omega (arith, up_to-none c.args.counts c.args.count c.if-count-eq0.true)) (Spends-none c.args.self.now c.args.counts)

pub returns-then-count-eq0-clause-emits : goal.returns-then-count-eq0-clause-emits
returns-then-count-eq0-clause-emits t c = record {
  begins = c.requires;
  appends = Appends-none c.args.self.now.instructions;
  means = λ leaves one.
      let a = code_in leaves c.args.self.now in
      record {
        compiled =
            subst (λ (n : ℕ). Compiled a a (optional c.args.greedy n (matching (leaf_in leaves c.args.leaf))) c.args.next c.args.next) (sym c.if-count-eq0.true)
            (compiled_nothing a c.args.next (below leaves (all_of c.args.self.now.instructions) c.args.next c.requires));
        holds = holds_nothing a nothing c.args.next;
      };
}

pub returns-in_err-rest-clause-too_long : goal.returns-in_err-rest-clause-too_long
returns-in_err-rest-clause-too_long t c =
    let counts = c.args.counts in
    let n = c.args.count in
    let all = up_to-even counts n c.if-count-eq0.false c.if-count-eq0-2.true in
    let r : ℕ = size_of_up_to counts (n - 1) (n - 1) in
    let e : ℕ = size_of_exactly counts 1 in
    too_long c.from_residual.result _ _ c.from_residual.ensures.1
    (λ is. exceeds-more c.args.self.now counts (λ counted. r) (λ counted. size_of_up_to counts n n) (λ counted. omega (arith, all)) (c.in_err-rest.ensures.too_long is))

pub returns-in_err-first-clause-too_long : goal.returns-in_err-first-clause-too_long
returns-in_err-first-clause-too_long t c =
    let counts = c.args.counts in
    let n = c.args.count in
    let all = up_to-even counts n c.if-count-eq0.false c.if-count-eq0-2.true in
    let r : ℕ = size_of_up_to counts (n - 1) (n - 1) in
    let e : ℕ = size_of_exactly counts 1 in
    too_long c.from_residual-in_err-first.result _ _ c.from_residual-in_err-first.ensures.1
    (λ is.
    exceeds-more c.args.self.now counts (λ counted. r + e) (λ counted. size_of_up_to counts n n) (λ counted. omega (arith, all, exactly-one counts))
    (exceeds-then c.args.self.now c.up_to.new.self counts (λ counted. r) (λ counted. e) c.in_ok-rest.ensures.spends
    (c.in_err-first.ensures.too_long is)))

pub returns-in_err-rest-2-clause-too_long : goal.returns-in_err-rest-2-clause-too_long
returns-in_err-rest-2-clause-too_long t c =
    let counts = c.args.counts in
    let n = c.args.count in
    let all = up_to-odd counts n c.if-count-eq0.false c.if-count-eq0-2.false in
    let r : ℕ = size_of_up_to counts (n / 2) (n / 2) in
    let e : ℕ = size_of_exactly counts (n / 2 + 1) in
    too_long c.from_residual-in_err-rest-2.result _ _ c.from_residual-in_err-rest-2.ensures.1
    (λ is. exceeds-more c.args.self.now counts (λ counted. r) (λ counted. size_of_up_to counts n n) (λ counted. omega (arith, all)) (c.in_err-rest-2.ensures.too_long is))

pub returns-in_err-first-2-clause-too_long : goal.returns-in_err-first-2-clause-too_long
returns-in_err-first-2-clause-too_long t c =
    let counts = c.args.counts in
    let n = c.args.count in
    let all = up_to-odd counts n c.if-count-eq0.false c.if-count-eq0-2.false in
    let r : ℕ = size_of_up_to counts (n / 2) (n / 2) in
    let e : ℕ = size_of_exactly counts (n / 2 + 1) in
    too_long c.from_residual-in_err-first-2.result _ _ c.from_residual-in_err-first-2.ensures.1
    (λ is.
    exceeds-more c.args.self.now counts (λ counted. r + e) (λ counted. size_of_up_to counts n n) (λ counted. omega (arith, all))
    (exceeds-then c.args.self.now c.up_to-else-count-eq0-2.new.self counts (λ counted. r) (λ counted. e) c.in_ok-rest-2.ensures.spends
    (c.in_err-first-2.ensures.too_long is)))

pub returns-in_ok-first-clause-emits : goal.returns-in_ok-first-clause-emits
returns-in_ok-first-clause-emits t c =
    let next = c.args.next in
    let number : 0 + 1 + (c.args.count - 1) ≡ c.args.count = omega (arith, c.if-count-eq0.false) in
    let x = c.args.self.now.instructions in
    let y = c.up_to.new.self.instructions in
    let z = c.exactly.new.self.instructions in
    let before = Appends-then x y z c.in_ok-rest.ensures.emits.appends c.in_ok-first.ensures.emits.appends in
    IfOk-both c.prefer.result _ _ _
    (λ at pushed appends. record {
      begins = omega (arith, pushed.at_end, pushed.grown);
      appends = Appends-then x z c.prefer.new.self.instructions before appends;
      means = λ leaves one.
          let t = leaf_in leaves c.args.leaf in
          let a = code_in leaves c.args.self.now in
          let b = code_in leaves c.up_to.new.self in
          let e = code_in leaves c.exactly.new.self in
          let g = code_in leaves c.prefer.new.self in
          let rest = c.in_ok-rest.ensures.emits.means leaves one in
          let first = c.in_ok-first.ensures.emits.means leaves one in
          let none : Compiled a b (optional c.args.greedy 0 (matching t)) next next =
          compiled_later a a b (optional c.args.greedy 0 (matching t)) next next rest.compiled.grown
          (compiled_nothing a next (below leaves (all_of c.args.self.now.instructions) next c.requires)) in
          record {
            compiled =
                subst (λ (n : ℕ). Compiled a g (optional c.args.greedy n (matching t)) next at) number
                (compiled_split t one a b e g c.args.greedy (c.args.count - 1) 0 next c.in_ok-rest.rest next c.in_ok-first.first at rest.compiled none
                first.compiled (pushed.means leaves));
            holds =
                holds_preferred a b e g c.args.greedy next c.in_ok-rest.rest c.in_ok-first.first next at rest.compiled.grown first.compiled.grown rest.holds
                first.holds (tidies_later a a b nothing next next (longer a b rest.compiled.grown) (holds_nothing a nothing next).tidies) (pushed.means leaves);
          };
    })
    c.prefer.ensures.emits (c.prefer.ensures.appends c.in_ok-first.ensures.emits.begins (omega (arith, c.requires, before.all.grown)))

pub returns-in_ok-first-clause-spends : goal.returns-in_ok-first-clause-spends
returns-in_ok-first-clause-spends t c =
    let counts = c.args.counts in
    let n = c.args.count in
    let all = up_to-even counts n c.if-count-eq0.false c.if-count-eq0-2.true in
    let r : ℕ = size_of_up_to counts (n - 1) (n - 1) in
    let e : ℕ = size_of_exactly counts 1 in
    let before = Spends-then c.args.self.now c.up_to.new.self c.exactly.new.self counts (λ counted. r) (λ counted. e) c.in_ok-rest.ensures.spends
    c.in_ok-first.ensures.spends in
    IfOk-weaker c.prefer.result _ _
    (λ at last.
    Spends-same c.args.self.now c.prefer.new.self counts (λ counted. r + e + 1) (λ counted. size_of_up_to counts n n) (λ counted. omega (arith, all, exactly-one counts))
    (Spends-then c.args.self.now c.exactly.new.self c.prefer.new.self counts (λ counted. r + e) (λ counted. 1) before last))
    (c.prefer.ensures.spends counts)

pub returns-in_ok-first-clause-too_long : goal.returns-in_ok-first-clause-too_long
returns-in_ok-first-clause-too_long t c =
    let counts = c.args.counts in
    let n = c.args.count in
    let all = up_to-even counts n c.if-count-eq0.false c.if-count-eq0-2.true in
    let r : ℕ = size_of_up_to counts (n - 1) (n - 1) in
    let e : ℕ = size_of_exactly counts 1 in
    let before = Spends-then c.args.self.now c.up_to.new.self c.exactly.new.self counts (λ counted. r) (λ counted. e) c.in_ok-rest.ensures.spends
    c.in_ok-first.ensures.spends in
    IfErr-weaker c.prefer.result _ _
    (λ fault none is.
    exceeds-more c.args.self.now counts (λ counted. r + e + 1) (λ counted. size_of_up_to counts n n) (λ counted. omega (arith, all, exactly-one counts))
    (exceeds-then c.args.self.now c.exactly.new.self counts (λ counted. r + e) (λ counted. 1) before (none is)))
    (c.prefer.ensures.too_long counts)

pub returns-in_ok-first-2-clause-emits : goal.returns-in_ok-first-2-clause-emits
returns-in_ok-first-2-clause-emits t c =
    let next = c.args.next in
    let half = c.args.count / 2 in
    let number : half + 1 + half ≡ c.args.count = omega (arith, c.if-count-eq0-2.false) in
    let x = c.args.self.now.instructions in
    let y = c.up_to-else-count-eq0-2.new.self.instructions in
    let z = c.exactly-else-count-eq0-2.new.self.instructions in
    let before = Appends-then x y z c.in_ok-rest-2.ensures.emits.appends c.in_ok-first-2.ensures.emits.appends in
    IfOk-both c.prefer-else-count-eq0-2.result _ _ _
    (λ at pushed appends. record {
      begins = omega (arith, pushed.at_end, pushed.grown);
      appends = Appends-then x z c.prefer-else-count-eq0-2.new.self.instructions before appends;
      means = λ leaves one.
          let t = leaf_in leaves c.args.leaf in
          let a = code_in leaves c.args.self.now in
          let b = code_in leaves c.up_to-else-count-eq0-2.new.self in
          let e = code_in leaves c.exactly-else-count-eq0-2.new.self in
          let g = code_in leaves c.prefer-else-count-eq0-2.new.self in
          let rest = c.in_ok-rest-2.ensures.emits.means leaves one in
          let first = c.in_ok-first-2.ensures.emits.means leaves one in
          record {
            compiled =
                subst (λ (n : ℕ). Compiled a g (optional c.args.greedy n (matching t)) next at) number
                (compiled_split t one a b e g c.args.greedy half half next c.in_ok-rest-2.rest c.in_ok-rest-2.rest c.in_ok-first-2.first at rest.compiled
                rest.compiled first.compiled (pushed.means leaves));
            holds =
                holds_preferred a b e g c.args.greedy next c.in_ok-rest-2.rest c.in_ok-first-2.first c.in_ok-rest-2.rest at rest.compiled.grown
                first.compiled.grown rest.holds first.holds rest.holds.tidies (pushed.means leaves);
          };
    })
    c.prefer-else-count-eq0-2.ensures.emits (c.prefer-else-count-eq0-2.ensures.appends c.in_ok-first-2.ensures.emits.begins (omega (arith, c.in_ok-rest-2.ensures.emits.begins, c.in_ok-first-2.ensures.emits.appends.all.grown)))

pub returns-in_ok-first-2-clause-spends : goal.returns-in_ok-first-2-clause-spends
returns-in_ok-first-2-clause-spends t c =
    let counts = c.args.counts in
    let n = c.args.count in
    let all = up_to-odd counts n c.if-count-eq0.false c.if-count-eq0-2.false in
    let r : ℕ = size_of_up_to counts (n / 2) (n / 2) in
    let e : ℕ = size_of_exactly counts (n / 2 + 1) in
    let before = Spends-then c.args.self.now c.up_to-else-count-eq0-2.new.self c.exactly-else-count-eq0-2.new.self counts (λ counted. r) (λ counted. e) c.in_ok-rest-2.ensures.spends
    c.in_ok-first-2.ensures.spends in
    IfOk-weaker c.prefer-else-count-eq0-2.result _ _
    (λ at last.
    Spends-same c.args.self.now c.prefer-else-count-eq0-2.new.self counts (λ counted. r + e + 1) (λ counted. size_of_up_to counts n n) (λ counted. omega (arith, all))
    (Spends-then c.args.self.now c.exactly-else-count-eq0-2.new.self c.prefer-else-count-eq0-2.new.self counts (λ counted. r + e) (λ counted. 1) before last))
    (c.prefer-else-count-eq0-2.ensures.spends counts)

pub returns-in_ok-first-2-clause-too_long : goal.returns-in_ok-first-2-clause-too_long
returns-in_ok-first-2-clause-too_long t c =
    let counts = c.args.counts in
    let n = c.args.count in
    let all = up_to-odd counts n c.if-count-eq0.false c.if-count-eq0-2.false in
    let r : ℕ = size_of_up_to counts (n / 2) (n / 2) in
    let e : ℕ = size_of_exactly counts (n / 2 + 1) in
    let before = Spends-then c.args.self.now c.up_to-else-count-eq0-2.new.self c.exactly-else-count-eq0-2.new.self counts (λ counted. r) (λ counted. e) c.in_ok-rest-2.ensures.spends
    c.in_ok-first-2.ensures.spends in
    IfErr-weaker c.prefer-else-count-eq0-2.result _ _
    (λ fault none is.
    exceeds-more c.args.self.now counts (λ counted. r + e + 1) (λ counted. size_of_up_to counts n n) (λ counted. omega (arith, all))
    (exceeds-then c.args.self.now c.exactly-else-count-eq0-2.new.self counts (λ counted. r + e) (λ counted. 1) before (none is)))
    (c.prefer-else-count-eq0-2.ensures.too_long counts)
