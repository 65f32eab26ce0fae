-- The new list is the old one with a range replaced by one interval.
use Rattle.std.proofs.Common.{ℕ, ◌≡◌, ◌||◌, ◌∙◌, min, max, ap, ap₂, subst}
use Rattle.regress_base.specs.Intervals.{is_within, is_member, IsTouchingRange}
use Rattle.regress_base.proofs.JoinLemmas.{IsAdded, added_new, added_joined}
use Rattle.regress_base.proofs.codepointset.CodePointSet.add.Goals as goal

inserted : (c : goal.In_ok-insert_interval) → IsAdded c.self.inside.ivs.items c.args.new_iv c.insert_interval.new.ivs.items
inserted c =
    let old = c.self.inside.ivs.items in
    let found = subst (λ l. IsTouchingRange l c.args.new_iv c.touching-start.result.start c.touching-start.result.end)
    c.deref.ensures.value c.touching-start.ensures.range in
    added_new old c.args.new_iv _ _ c.insert_interval.new.ivs.items c.self.invariant c.touching-start.ensures.interval found c.if-start-end.true
    c.in_ok-insert_interval.ensures.ok

joined : (c : goal.After-drop-drain) → IsAdded c.self.inside.ivs.items c.args.new_iv c.drop-drain.new.self.0.items
joined c =
    let old = c.self.inside.ivs.items in
    let found = subst (λ l. IsTouchingRange l c.args.new_iv c.touching-start.result.start c.touching-start.result.end)
    c.deref.ensures.value c.touching-start.ensures.range in
    let first = ap (λ b. b.first) c.new.ensures ∙ c.min-first.ensures ∙ ap₂ min c.first.ensures.value c.first-2.ensures.value in
    let last = ap (λ b. b.last) c.new.ensures ∙ c.max-last.ensures ∙ ap₂ max c.last.ensures.value c.last-2.ensures.value in
    added_joined old c.args.new_iv _ _ c.index.result.now c.index-2.result.now c.new.result c.drop-drain.new.self.0.items c.self.invariant
    c.touching-start.ensures.interval found c.if-start-end.false c.index.ensures c.index-2.ensures first last
    (c.drop-drain.ensures.items ∙ c.drain.ensures.kept)

pub invariant_of-self-then-start-end : goal.invariant_of-self-then-start-end
invariant_of-self-then-start-end c = (inserted c).canonical

pub returns-then-start-end-clause-members : goal.returns-then-start-end-clause-members
returns-then-start-end-clause-members c =
    subst (λ l. (n : ℕ) → is_member c.insert_interval.new.ivs.items n ≡ (is_member l n || is_within c.args.new_iv n)) c.self.view_is
    (inserted c).members

pub returns-then-start-end-clause-canonical : goal.returns-then-start-end-clause-canonical
returns-then-start-end-clause-canonical c = (inserted c).canonical

pub invariant_of-self-2 : goal.invariant_of-self-2
invariant_of-self-2 c = (joined c).canonical

pub returns-clause-members : goal.returns-clause-members
returns-clause-members c =
    subst (λ l. (n : ℕ) → is_member c.drop-drain.new.self.0.items n ≡ (is_member l n || is_within c.args.new_iv n)) c.self.view_is
    (joined c).members

pub returns-clause-canonical : goal.returns-clause-canonical
returns-clause-canonical c = (joined c).canonical
