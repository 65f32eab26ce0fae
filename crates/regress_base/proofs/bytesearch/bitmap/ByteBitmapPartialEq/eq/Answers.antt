use Rattle.std.proofs.Common.{◌≡◌, ◌<◌, ◌^◌, Decides, false, get_or, length, refl, sym, arith, rules}
use Rattle.std.proofs.lemmas.Bool.Decides.{same_from_decides}
use Rattle.regress_base.specs.ByteBitmap.{contains}
use Rattle.regress_base.specs.ByteSets.{SameMembers}
use Rattle.regress_base.proofs.BitmapLemmas.{different_word, equal_words, same_members-Decides}
use Rattle.regress_base.proofs.bytesearch.bitmap.ByteBitmapPartialEq.eq.Goals as goal

-- the sets differ in the word at which the loop returns
differ : (c : goal.Then-self-i) → Decides false (SameMembers (contains c.args.self.now) (contains c.args.other.now))
differ c =
    let s = c.args.self.now in
    let t = c.args.other.now in
    let i = c.loop-i.i in
    let fs : get_or s.words i 0 < 2 ^ 16 = search rules in
    let ft : get_or t.words i 0 < 2 ^ 16 = search rules in
    different_word s t i c.loop-i-test.true fs ft c.if-self-i.true

pub returns-then-self-i-clause-members : goal.returns-then-self-i-clause-members
returns-then-self-i-clause-members c = differ c

pub returns-then-self-i-clause-value : goal.returns-then-self-i-clause-value
returns-then-self-i-clause-value c =
    same_from_decides false _ (differ c) (same_members-Decides c.args.self.now c.args.other.now)

-- no word differs at the end of the loop
same : (c : goal.After-loop-i) → SameMembers (contains c.args.self.now) (contains c.args.other.now)
same c =
    let s = c.args.self.now in
    let t = c.args.other.now in
    let ls : length s.words ≡ 16 = search rules in
    let lt : length t.words ≡ 16 = search rules in
    equal_words s t ls lt (λ k h. c.loop-i.invariant k (omega arith))

pub returns-clause-members : goal.returns-clause-members
returns-clause-members c = (λ _. same c, λ _. refl)

pub returns-clause-value : goal.returns-clause-value
returns-clause-value c = sym ((same_members-Decides c.args.self.now c.args.other.now).1 (same c))
