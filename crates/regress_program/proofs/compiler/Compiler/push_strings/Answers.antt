-- One more leaf.
use Rattle.std.proofs.Common.{◌≡◌, ℕ, ◌+◌, ◌-◌, ◌<◌, [], ◌∷◌, ◌++◌, length, drop, length-drop, refl, sym, ap, subst, ◌∙◌, arith}
use Rattle.std.proofs.lemmas.List.{drop_all}
use Rattle.std.specs.Box.{boxed_slice_items}
use Rattle.regress_program.specs.CodeOf.{Spends}
use Rattle.regress_program.specs.Listed.{all_of}
use Rattle.regress_program.proofs.AppendLemmas.{Appends-then}
use Rattle.regress_program.proofs.LeavesLemmas.{string-at, strings-leaves}
use Rattle.regress_program.proofs.SizeLemmas.{too_long}
use Rattle.regress_program.proofs.SpendLemmas.{Spends-then, exceeds-more, exceeds-then}
use Rattle.regress_program.proofs.StringLemmas.{EmitsEach, each_first, each_next, emits_string, leaf_of, leaves-length, leaves_in}
use Rattle.regress_program.proofs.compiler.Compiler.push_strings.Goals as goal

pub loop-i-init : goal.loop-i-init
loop-i-init c =
    let ss = c.args.alternatives.now in
    let n = length ss in
    let a = c.args.self.now in
    let b = c.push_leaf.new.self in
    let s = string-at ss (n - 1) (omega (arith, c.requires.some)) in
    let more = c.in_ok-first.ensures.appends c.requires.next in
    record {
      appends = more;
      long = omega (arith, c.in_ok-first.ensures.emits.at_end, c.in_ok-first.ensures.emits.grown);
      each = λ icase.
          let none : leaves_in (drop n ss) icase ≡ [] = ap (λ xs. leaves_in xs icase) (drop_all n ss (omega arith)) in
          let all : leaves_in (drop (n - 1) ss) icase ≡ leaf_of s.0 icase ∷ [] =
          strings-leaves ss icase n (n - 1) s.0 refl c.requires.some (omega arith) s.1 ∙ ap (λ ts. ts ++ leaf_of s.0 icase ∷ []) none in
          subst (λ ts. EmitsEach a b a.next_leaf ts c.args.next c.in_ok-first.first) (sym all)
          (each_first a b c.args.next c.in_ok-first.first (leaf_of s.0 icase)
          (emits_string a b (boxed_slice_items s.0) icase c.args.next c.in_ok-first.first c.requires.next c.in_ok-first.ensures.emits more c.push_leaf.ensures.leaf));
      spent = λ counts. c.in_ok-first.ensures.spends counts;
    }

pub loop-i-preserved : goal.loop-i-preserved
loop-i-preserved c =
    let l = c.loop-i in
    let ss = c.args.alternatives.now in
    let n = length ss in
    let k = l._i in
    let a = c.args.self.now in
    let b = l.self in
    let e = c.push_leaf-in-loop-i.new.self in
    let low : c.args.next < length (all_of b.instructions) = omega (arith, c.requires.next, l.invariant.appends.all.grown) in
    let more = c.in_ok-push_leaf.ensures.appends low in
    let lt : k < n = omega (arith, c.loop-i-test.true) in
    let s = string-at ss (n - (k + 1)) (omega (arith, lt)) in
    record {
      appends = Appends-then a.instructions b.instructions e.instructions l.invariant.appends more;
      long = omega (arith, l.invariant.long, c.in_ok-push_leaf.ensures.emits.grown);
      each = λ icase.
          let before = leaves_in (drop (n - k) ss) icase in
          let t = leaf_of s.0 icase in
          let count : length before ≡ k = omega (arith, leaves-length (drop (n - k) ss) icase, length-drop (n - k) ss, lt) in
          let all : leaves_in (drop (n - (k + 1)) ss) icase ≡ before ++ t ∷ [] =
          strings-leaves ss icase (n - k) (n - (k + 1)) s.0 (omega arith) (omega (arith, lt)) (omega arith) s.1 in
          let at = c.in_ok-push_leaf.field-0 in
          subst (λ ts. EmitsEach a e a.next_leaf ts c.args.next c.in_ok-first.first) (sym all)
          (each_next a b e a.next_leaf c.args.next c.in_ok-first.first at before t (omega (arith, count)) (l.invariant.each icase)
          (emits_string b e (boxed_slice_items s.0) icase c.args.next at low c.in_ok-push_leaf.ensures.emits more c.push_leaf-in-loop-i.ensures.leaf)
          (omega (arith, c.in_ok-push_leaf.ensures.emits.at_end, l.invariant.long, count)));
      spent = λ counts.
          Spends-then a b e counts (λ counted. k) (λ counted. 1) (l.invariant.spent counts) (c.in_ok-push_leaf.ensures.spends counts);
    }

pub returns-clause-emits : goal.returns-clause-emits
returns-clause-emits c = λ icase.
    let l = c.loop-i in
    let ss = c.args.alternatives.now in
    let all : length ss - l._i ≡ 0 = omega (arith, c.loop-i-test.false) in
    subst (λ k. EmitsEach c.args.self.now l.self c.args.self.now.next_leaf (leaves_in (drop k ss) icase) c.args.next c.in_ok-first.first) all (l.invariant.each icase)

pub returns-clause-spends : goal.returns-clause-spends
returns-clause-spends c = λ counts.
    let l = c.loop-i in
    let all : l._i ≡ length c.args.alternatives.now = omega (arith, l.auto._i-end, c.loop-i-test.false, c.requires.some) in
    subst (λ (k : ℕ). Spends c.args.self.now l.self counts (λ counted. k)) all (l.invariant.spent counts)

pub returns-in_err-first-clause-too_long : goal.returns-in_err-first-clause-too_long
returns-in_err-first-clause-too_long c = λ counts.
    too_long c.from_residual.result _ _ c.from_residual.ensures.1
    (λ is.
    exceeds-more c.args.self.now counts (λ counted. 1) (λ counted. length c.args.alternatives.now) (λ counted. omega (arith, c.requires.some))
    (c.in_err-first.ensures.too_long counts is))

pub returns-in_err-push_leaf-clause-too_long : goal.returns-in_err-push_leaf-clause-too_long
returns-in_err-push_leaf-clause-too_long c = λ counts.
    let l = c.loop-i in
    too_long c.from_residual-in_err-push_leaf.result _ _ c.from_residual-in_err-push_leaf.ensures.1
    (λ is.
    exceeds-more c.args.self.now counts (λ counted. l._i + 1) (λ counted. length c.args.alternatives.now) (λ counted. omega (arith, c.loop-i-test.true))
    (exceeds-then c.args.self.now l.self counts (λ counted. l._i) (λ counted. 1) (l.invariant.spent counts) (c.in_err-push_leaf.ensures.too_long counts is)))
