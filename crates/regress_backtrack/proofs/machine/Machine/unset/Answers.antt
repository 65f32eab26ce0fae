use Rattle.std.proofs.Common.{rules, arith, ℕ, List, Option, ◌≡◌, ◌+◌, ◌≤◌, IfErr, length, min, None, get_or, set, refl, sym, ap, ◌∙◌}
use Rattle.regress_found.specs.declared.fault.MemoryFault.TheVariants.{TooMuchMemory}
use Rattle.regress_backtrack.specs.Memory.{entry_count}
use Rattle.regress_backtrack.proofs.StepLemmas.{err_map}
use Rattle.std.proofs.lemmas.List.{length-set, set-get_or}
use Rattle.regress_tree.specs.Repetition.{unset_from}
use Rattle.regress_tree.specs.Steps.{CaptureSpan}
use Rattle.regress_program.proofs.lemmas.Unset.{unset-none, unset-clipped, unset-more}
use Rattle.regress_backtrack.proofs.MachineLemmas.{Kept-refl, Kept-trans}
use Rattle.regress_backtrack.proofs.machine.Machine.unset.Goals as goal
use Rattle.regress_backtrack.proofs.machine.Machine.unset.Goals.{then-is_some+in_ok-set, else-is_some}

pub loop-group-init : goal.loop-group-init
loop-group-init c = record {
  captures = sym (unset-none 0 c.args.start (min c.args.start c.min-after.result) c.args.self.now.captures.items (omega arith));
  begins = refl;
  count = refl;
  kept = Kept-refl c.args.self.now c.args.self.now refl refl;
  grows = omega arith;
  within = λ are. are;
}

pub index-requires : goal.index-requires
index-requires c = omega (arith, c.loop-group.invariant.count, c.min-after.ensures, c.len.ensures, c.loop-group-test.true)

pub loop-group-preserved : goal.loop-group-preserved
loop-group-preserved c =
    let so_far = c.loop-group.invariant in
    let captures = c.args.self.now.captures.items in
    let start = c.args.start in
    let group = c.loop-group.group in
    let after = c.min-after.result in
    let now : min group after ≡ group = omega arith in
    let then' : min (group + 1) after ≡ group + 1 = omega arith in
    let was : c.loop-group.self.captures.items ≡ unset_from 0 start group captures = so_far.captures ∙ ap (λ k. unset_from 0 start k captures) now in
    let next : unset_from 0 start (min (group + 1) after) captures ≡ set (unset_from 0 start group captures) group None =
    ap (λ k. unset_from 0 start k captures) then' ∙ unset-more start group captures (omega arith) in
    elim c.if-is_some.branch [
      | then-is_some+in_ok-set w ↦ record {
        captures = ap (λ v. v.captures.items) w.self-is ∙ w.in_ok-set.ensures.captures ∙ ap (λ xs. set xs group None) was ∙ sym next;
        begins = ap (λ v. v.stack.begins.items) w.self-is ∙ w.set.ensures.begins ∙ so_far.begins;
        count = ap (λ v. length v.captures.items) w.self-is ∙ ap length w.in_ok-set.ensures.captures ∙ length-set _ group None ∙ so_far.count;
        kept = rw w.self-is (Kept-trans c.args.self.now c.loop-group.self w.set.new.self so_far.kept w.in_ok-set.ensures.kept);
        grows = omega (arith, ap entry_count w.self-is, w.in_ok-set.ensures.grows, so_far.grows, now, then', c.loop-group.auto.group);
        within = λ are. rw w.self-is (w.set.ensures.within (so_far.within are));
      }
      | else-is_some w ↦ record {
        captures = ap (λ v. v.captures.items) w.self-is
            ∙ sym (unset_already c.loop-group.self.captures.items group (search rules))
            ∙ ap (λ xs. set xs group None) was ∙ sym next;
        begins = ap (λ v. v.stack.begins.items) w.self-is ∙ so_far.begins;
        count = ap (λ v. length v.captures.items) w.self-is ∙ so_far.count;
        kept = rw w.self-is so_far.kept;
        grows = omega (arith, ap entry_count w.self-is, so_far.grows, now, then');
        within = λ are. rw w.self-is (so_far.within are);
      }
    ]
  where
    unset_already : (captures : List (Option CaptureSpan)) (group : ℕ) → None ≡ get_or captures group None → set captures group None ≡ captures
    unset_already captures group is = ap (set captures group) is ∙ set-get_or captures group None

pub returns-clause-captures : goal.returns-clause-captures
returns-clause-captures c =
    let captures = c.args.self.now.captures.items in
    let start = c.args.start in
    let after = c.min-after.result in
    let now : min c.loop-group.group after ≡ after = omega arith in
    c.loop-group.invariant.captures ∙ ap (λ k. unset_from 0 start k captures) now ∙ unset-clipped start c.args.end after captures (search rules)

pub returns-in_err-set-clause-within : goal.returns-in_err-set-clause-within
returns-in_err-set-clause-within c = λ are. c.set.ensures.within (c.loop-group.invariant.within are)

pub returns-in_err-set-clause-too_much : goal.returns-in_err-set-clause-too_much
returns-in_err-set-clause-too_much c =
    let so_far = c.loop-group.invariant in
    let full : IfErr c.from_residual.result (λ fault. fault ≡ TooMuchMemory → c.args.room ≤ entry_count c.loop-group.self) = search rules in
    err_map c.from_residual.result _ _ (λ fault is. λ much. let le = is much in
    omega (arith, le, so_far.grows, c.loop-group-test.true, c.min-after.ensures, c.len.ensures)) full

pub returns-clause-grows : goal.returns-clause-grows
returns-clause-grows c = omega (arith, c.loop-group.invariant.grows, c.min-after.ensures, c.len.ensures)

pub returns-clause-within : goal.returns-clause-within
returns-clause-within c = c.loop-group.invariant.within
