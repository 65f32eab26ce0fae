-- The number is after the smaller ones and before the greater ones.
use Rattle.std.proofs.Common.{◌≡◌, ℕ, ◌<◌, ◌≤◌, IsTrue, List, insert, length, get_or, subst, sym, ap, ◌∙◌, arith}
use Rattle.std.proofs.lemmas.List.{get_or_read}
use Rattle.std.proofs.lemmas.Result.{on_ok_weaker}
use Rattle.regress_base.specs.Listing.{lists, is_ascending}
use Rattle.regress_base.proofs.lemmas.Listings.{put_ascending, put_lists}
use Rattle.regress_unicode.proofs.unfold.insert_ordered.Goals as goal
use Rattle.regress_unicode.proofs.unfold.insert_ordered.Goals.{else-position-len-via-then-position-len+else-index-c, else-position-len-via-else-position-len}

-- the number at the index is greater
greater : (c : goal.After-put) → c.lower_bound-position.result < length c.deref.result.now → (d : ℕ) →
    c.args.c < get_or c.deref.result.now c.lower_bound-position.result d
greater c inside d =
    let least = c.lower_bound-position.ensures.from inside d in
    elim c.else-position-len.branch [
      | else-position-len-via-then-position-len+else-index-c w ↦ (
          let items = c.args.list.now.items in
          let position = c.lower_bound-position.result in
          let same : get_or c.deref.result.now position d ≡ get_or items position d = ap (λ (l : List ℕ). get_or l position d) c.deref.ensures.value in
          let within : position < length items = subst (λ (l : List ℕ). position < length l) c.deref.ensures.value inside in
          let read : w.index.result.now ≡ get_or items position d = get_or_read items position w.index.result.now within w.index.ensures d in
          let other = w.if-index-c.false in
          omega arith)
      | else-position-len-via-else-position-len w ↦ absurd (
          let past = w.if-position-len.false in
          let len = c.len.ensures in
          let deref = c.deref.ensures.len in
          omega arith)
    ]

pub returns-clause-ascending : goal.returns-clause-ascending
returns-clause-ascending c =
    on_ok_weaker c.put.result
    (λ is. subst (λ (l : List ℕ). IsTrue (is_ascending l)) (sym is)
    (subst (λ (l : List ℕ). IsTrue (is_ascending (insert l c.lower_bound-position.result c.args.c))) c.deref.ensures.value
    (put_ascending 0 c.deref.result.now c.lower_bound-position.result c.args.c
    (subst (λ (l : List ℕ). IsTrue (is_ascending l)) (sym c.deref.ensures.value) c.requires) (omega arith) c.lower_bound-position.ensures.bound
    (λ k d lt. c.lower_bound-position.ensures.below k d (omega arith) lt) (greater c))))
    c.put.ensures

pub returns-clause-members : goal.returns-clause-members
returns-clause-members c =
    on_ok_weaker c.put.result
    (λ is x. ap (λ (l : List ℕ). lists l x) is
    ∙ put_lists c.args.list.now.items c.lower_bound-position.result c.args.c x
    (subst (λ (l : List ℕ). c.lower_bound-position.result ≤ length l) c.deref.ensures.value c.lower_bound-position.ensures.bound))
    c.put.ensures
