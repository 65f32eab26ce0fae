-- One more string is joined.
use Rattle.std.proofs.Common.{◌≡◌, ℕ, ◌+◌, ◌-◌, ◌<◌, Bool, false, List, [], ◌∷◌, length, drop, map, slice_get, Some, sym, ap, subst, ◌∙◌, arith, Global}
use Rattle.std.proofs.lemmas.List.{drop_all, length-map, nil_from_length}
use Rattle.std.proofs.lemmas.Result.{IfOk-weaker, IfErr-weaker}
use Rattle.std.specs.Box.{boxed_slice_items}
use Rattle.std.specs.declared.boxed.BoxedSlice.{BoxedSlice}
use Rattle.regress_tree.specs.Tree.{string_set}
use Rattle.regress_program.specs.CodeOf.{code_in, Emits}
use Rattle.regress_program.specs.Compiled.{matching}
use Rattle.regress_program.specs.Contents.{nothing}
use Rattle.regress_program.specs.LeavesOf.{leaves_of_strings}
use Rattle.regress_program.specs.Listed.{all_of}
use Rattle.regress_program.specs.Size.{size_of_leaf}
use Rattle.regress_program.proofs.CoverLemmas.{covers_none, none_nothing}
use Rattle.regress_program.proofs.LeavesLemmas.{string-at}
use Rattle.regress_program.proofs.PieceLemmas.{holds_fail}
use Rattle.regress_program.proofs.PushLemmas.{IfOk-both, names-none, names-two}
use Rattle.regress_program.proofs.SizeLemmas.{no_strings-size, strings-size, too_long}
use Rattle.regress_program.proofs.SpendLemmas.{Spends-same, Spends-then, exceeds-more, exceeds-then}
use Rattle.regress_program.proofs.StringLemmas.{before_choice, emits_choice, leaf-at, leaf_of, leaves_in, no_strings, set_of}
use Rattle.regress_program.proofs.ViewLemmas.{from_index}
use Rattle.regress_program.proofs.compiler.Compiler.strings.Goals as goal

pub returns-then-count-eq0-clause-emits : goal.returns-then-count-eq0-clause-emits
returns-then-count-eq0-clause-emits c = λ icase.
    IfOk-both c.push.result _ _ _
    (λ at pushed appends. record {
      begins = omega (arith, pushed.at_end, pushed.grown);
      appends = appends;
      means = λ leaves has.
          let none : leaves_of_strings (map boxed_slice_items c.args.alternatives.now) icase ≡ [] =
          ap (λ xs. leaves_of_strings (map boxed_slice_items xs) icase) (nil_from_length c.args.alternatives.now c.if-count-eq0.true) in
          record {
            after = omega (arith, c.push.ensures.leaf, ap length none);
            compiled =
                no_strings (code_in leaves c.args.self.now) (code_in leaves c.push.new.self) c.args.alternatives.now icase c.args.next at c.if-count-eq0.true
                (pushed.means leaves);
            holds = holds_fail (code_in leaves c.args.self.now) (code_in leaves c.push.new.self) nothing c.args.next at (pushed.means leaves);
            covers = covers_none (code_in leaves c.args.self.now) (code_in leaves c.push.new.self) nothing none_nothing;
          };
    })
    c.push.ensures.emits (c.push.ensures.appends (names-none (length (all_of c.args.self.now.instructions))))

pub returns-then-count-eq0-clause-spends : goal.returns-then-count-eq0-clause-spends
returns-then-count-eq0-clause-spends c = λ icase counts.
    let ss = c.args.alternatives.now in
    IfOk-weaker c.push.result _ _
    (λ at is.
    Spends-same c.args.self.now c.push.new.self counts (λ counted. 1) (λ counted. size_of_leaf (string_set (map boxed_slice_items ss) icase))
    (λ counted. omega (arith, no_strings-size (map boxed_slice_items ss) icase (omega (arith, c.if-count-eq0.true, length-map ss boxed_slice_items)))) is)
    (c.push.ensures.spends counts)

pub returns-then-count-eq0-clause-too_long : goal.returns-then-count-eq0-clause-too_long
returns-then-count-eq0-clause-too_long c = λ icase counts.
    let ss = c.args.alternatives.now in
    IfErr-weaker c.push.result _ _
    (λ fault none is.
    exceeds-more c.args.self.now counts (λ counted. 1) (λ counted. size_of_leaf (string_set (map boxed_slice_items ss) icase))
    (λ counted. omega (arith, no_strings-size (map boxed_slice_items ss) icase (omega (arith, c.if-count-eq0.true, length-map ss boxed_slice_items)))) (none is))
    (c.push.ensures.too_long counts)

-- the string with the index n - 1 - i, and its leaf
abbrev Nth : (ss : List (BoxedSlice ℕ Global)) (icase : Bool) (i : ℕ) → BoxedSlice ℕ Global → Type 0
Nth ss icase i s = (drop (length ss - (i + 1)) ss ≡ s ∷ drop (length ss - i) ss) × (slice_get (leaves_in ss icase) i ≡ Some (leaf_of s icase))

nth : (ss : List (BoxedSlice ℕ Global)) (icase : Bool) (i : ℕ) → i < length ss → (s : BoxedSlice ℕ Global) × Nth ss icase i s
nth ss icase i lt =
    let n = length ss in
    let s = string-at ss (n - (i + 1)) (omega (arith, lt)) in
    let at = from_index ss (n - i) (n - (i + 1)) s.0 (omega arith) (omega (arith, lt)) (omega arith) s.1 in
    (s.0, (at, leaf-at ss icase (n - (i + 1)) i s.0 (drop (n - i) ss) (omega (arith, lt)) at))

pub loop-i-init : goal.loop-i-init
loop-i-init c =
    let ss = c.args.alternatives.now in
    let n = length ss in
    let a = c.args.self.now in
    let b = c.push_strings.new.self in
    let last = c.in_ok-last.last in
    record {
      each = c.in_ok-last.ensures.emits;
      emits = λ icase.
          let s = nth ss icase 0 (omega (arith, c.if-count-eq0.false)) in
          let rest : drop (n - 0) ss ≡ [] = drop_all (n - 0) ss (omega arith) in
          let one : drop (n - 1) ss ≡ s.0 ∷ [] = s.1.0 ∙ ap (λ xs. s.0 ∷ xs) rest in
          let here : last + 0 ≡ last = omega arith in
          subst (λ xs. Emits a b a.next_leaf (leaves_in ss icase) (matching (set_of xs icase)) nothing c.args.next last) (sym one)
          (subst (λ k. Emits a b a.next_leaf (leaves_in ss icase) (matching (leaf_of s.0 icase)) nothing c.args.next k) here
          (c.in_ok-last.ensures.emits icase 0 (leaf_of s.0 icase) s.1.1));
      spent = λ counts.
          Spends-same a b counts (λ counted. n) (λ counted. n + (1 - 1)) (λ counted. omega arith)
          (c.in_ok-last.ensures.spends counts);
    }

pub overflow_add-last : goal.overflow_add-last
overflow_add-last c =
    let l = c.loop-i in
    let s = nth c.args.alternatives.now false l.i (omega (arith, c.loop-i-test.true)) in
    omega (arith, (l.invariant.each false l.i (leaf_of s.0 false) s.1.1).begins, l.self.room)

pub loop-i-preserved : goal.loop-i-preserved
loop-i-preserved c =
    let l = c.loop-i in
    let ss = c.args.alternatives.now in
    let n = length ss in
    let a = c.args.self.now in
    let b = l.self in
    let e = c.push-in-loop-i.new.self in
    let i = l.i in
    let last = c.in_ok-last.last in
    let first = last + i in
    let lt : i < n = omega (arith, c.loop-i-test.true) in
    let one = c.in_ok-entry.ensures.emits in
    record {
      each = λ icase j t found.
          let s = nth ss icase i lt in
          let first-below = (l.invariant.each icase i (leaf_of s.0 icase) s.1.1).begins in
          let second-below = (l.invariant.emits icase).begins in
          before_choice a b e a.next_leaf c.args.next first l.entry c.in_ok-entry.entry (leaves_in ss icase) one
          (c.in_ok-entry.ensures.appends (names-two (length (all_of b.instructions)) first l.entry first-below second-below)) c.push-in-loop-i.ensures.leaf
          first-below second-below (matching t) (last + j) (l.invariant.each icase j t found);
      emits = λ icase.
          let s = nth ss icase i lt in
          let this = l.invariant.each icase i (leaf_of s.0 icase) s.1.1 in
          let rest = l.invariant.emits icase in
          subst (λ xs. Emits a e a.next_leaf (leaves_in ss icase) (matching (set_of xs icase)) nothing c.args.next c.in_ok-entry.entry) (sym s.1.0)
          (emits_choice a b e a.next_leaf c.args.next first l.entry c.in_ok-entry.entry (leaves_in ss icase) one
          (c.in_ok-entry.ensures.appends (names-two (length (all_of b.instructions)) first l.entry this.begins rest.begins)) c.push-in-loop-i.ensures.leaf
          this.begins rest.begins (boxed_slice_items s.0) (map boxed_slice_items (drop (n - i) ss)) icase this rest);
      spent = λ counts.
          Spends-same a e counts (λ counted. n + (i - 1) + 1) (λ counted. n + (i + 1 - 1)) (λ counted. omega (arith, l.auto.i))
          (Spends-then a b e counts (λ counted. n + (i - 1)) (λ counted. 1) (l.invariant.spent counts) (c.in_ok-entry.ensures.spends counts));
    }

pub returns-clause-emits : goal.returns-clause-emits
returns-clause-emits c = λ icase.
    let l = c.loop-i in
    let ss = c.args.alternatives.now in
    let start : length ss - l.i ≡ 0 = omega (arith, c.loop-i-test.false) in
    subst (λ k. Emits c.args.self.now l.self c.args.self.now.next_leaf (leaves_in ss icase) (matching (set_of (drop k ss) icase)) nothing c.args.next l.entry) start
    (l.invariant.emits icase)

pub returns-clause-spends : goal.returns-clause-spends
returns-clause-spends c = λ icase counts.
    let l = c.loop-i in
    let ss = c.args.alternatives.now in
    let all : l.i ≡ length ss = omega (arith, l.auto.i-end, c.loop-i-test.false, c.if-count-eq0.false) in
    Spends-same c.args.self.now l.self counts (λ counted. length ss + (l.i - 1)) (λ counted. size_of_leaf (string_set (map boxed_slice_items ss) icase))
    (λ counted. omega (arith, all, c.if-count-eq0.false, strings-size (map boxed_slice_items ss) icase (omega (arith, c.if-count-eq0.false, length-map ss boxed_slice_items)), length-map ss boxed_slice_items))
    (l.invariant.spent counts)

pub returns-in_err-last-clause-too_long : goal.returns-in_err-last-clause-too_long
returns-in_err-last-clause-too_long c = λ icase counts.
    let ss = c.args.alternatives.now in
    let some : 0 < length ss = omega (arith, c.if-count-eq0.false) in
    too_long c.from_residual.result _ _ c.from_residual.ensures.1
    (λ is.
    exceeds-more c.args.self.now counts (λ counted. length ss) (λ counted. size_of_leaf (string_set (map boxed_slice_items ss) icase))
    (λ counted. omega (arith, some, strings-size (map boxed_slice_items ss) icase (omega (arith, some, length-map ss boxed_slice_items)), length-map ss boxed_slice_items)) (c.in_err-last.ensures.too_long counts is))

pub returns-in_err-entry-clause-too_long : goal.returns-in_err-entry-clause-too_long
returns-in_err-entry-clause-too_long c = λ icase counts.
    let l = c.loop-i in
    let ss = c.args.alternatives.now in
    too_long c.from_residual-in_err-entry.result _ _ c.from_residual-in_err-entry.ensures.1
    (λ is.
    exceeds-more c.args.self.now counts (λ counted. length ss + (l.i - 1) + 1) (λ counted. size_of_leaf (string_set (map boxed_slice_items ss) icase))
    (λ counted. omega (arith, c.loop-i-test.true, l.auto.i, strings-size (map boxed_slice_items ss) icase (omega (arith, c.if-count-eq0.false, length-map ss boxed_slice_items)), length-map ss boxed_slice_items))
    (exceeds-then c.args.self.now l.self counts (λ counted. length ss + (l.i - 1)) (λ counted. 1) (l.invariant.spent counts) (c.in_err-entry.ensures.too_long counts is)))
