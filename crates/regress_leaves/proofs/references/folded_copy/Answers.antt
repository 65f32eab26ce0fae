use Rattle.std.proofs.Common.{◌≡◌, Bool, true, None, Some, chars, length, if◌then◌else◌, option_map, sym, ap, ◌∙◌}
use Rattle.std.proofs.lemmas.Str.{encodes-chars}
use Rattle.regress_base.specs.Table.{denotes}
use Rattle.regress_tree.specs.Reading.{next_character, of_bytes, direction_if}
use Rattle.regress_tree.specs.References.{all_of, in_order}
use Rattle.regress_unicode.specs.TableOf.{table_of}
use Rattle.regress_leaves.specs.Leaves.{read_of}
use Rattle.regress_leaves.proofs.lemmas.Leaves.{none_of}
use Rattle.regress_leaves.proofs.ReferenceLemmas.{text-chars, begin, none_ahead, some_ahead, copy_none, copy_no, copy_yes}
use Rattle.regress_leaves.proofs.references.folded_copy.Goals.{then-rules, else-rules}
use Rattle.regress_leaves.proofs.references.folded_copy.Goals as goal

pub loop-c-init : goal.loop-c-init
loop-c-init c =
    let d = direction_if c.args.rules.backwards in
    let part = c.args.part.now in
    let cs = chars part in
    let same = denotes (table_of c.args.rules.known.tables.now) true c.args.rules.flags.unicode in
    let r = of_bytes c.args.text.now in
    let is : c.if-rules.from ≡ (if c.args.rules.backwards then length part else 0) =
    elim c.if-rules.branch [
      | then-rules w ↦ w.from-is ∙ sym (ap (λ (b : Bool). if b then length part else 0) w.if-rules.true)
      | else-rules w ↦ w.from-is ∙ sym (ap (λ (b : Bool). if b then length part else 0) w.if-rules.false)
    ] in
    let begins = begin c.args.rules.backwards cs part c.if-rules.from (encodes-chars part c.utf8.part) is in (
      begins.0,
      (
        begins.1.0,
        (
          begins.1.1.0,
          λ s at. ap (λ xs. all_of d r same xs (record s { position = c.args.position })) begins.1.1.1
              ∙ ap (λ k. all_of d r same (in_order d cs) (record s { position = k })) (sym at),
        ),
      ),
    )

pub returns-in_err-x : goal.returns-in_err-x
returns-in_err-x c = λ s at.
    let d = direction_if c.args.rules.backwards in
    let r = of_bytes c.args.text.now in
    let so_far = c.loop-c.invariant in
    let part = c.args.part.now in
    let some = some_ahead d (chars part) (text-chars part c.utf8.part) part (encodes-chars part c.utf8.part) so_far.0 c.loop-c.from so_far.1.0 so_far.1.1.0
    (read_of (c.in-Some.c, c.in-Some.after)) (sym c.next_read.ensures ∙ ap (option_map read_of) c.in-Some.is) in
    let none : next_character d r c.loop-c.here ≡ None = sym c.next_read-in-Some.ensures ∙ ap (option_map read_of) c.in_err-x.was in
    rw c.from_residual.ensures (copy_none d r _ _ _ _ c.in-Some.c s c.loop-c.here some.1.1.1.0 (so_far.1.1.1 s at) none)

pub returns-then-not-denotes : goal.returns-then-not-denotes
returns-then-not-denotes c = λ s at.
    let d = direction_if c.args.rules.backwards in
    let r = of_bytes c.args.text.now in
    let so_far = c.loop-c.invariant in
    let part = c.args.part.now in
    let some = some_ahead d (chars part) (text-chars part c.utf8.part) part (encodes-chars part c.utf8.part) so_far.0 c.loop-c.from so_far.1.0 so_far.1.1.0
    (read_of (c.in-Some.c, c.in-Some.after)) (sym c.next_read.ensures ∙ ap (option_map read_of) c.in-Some.is) in
    let read = read_of (c.in_ok-x.x, c.in_ok-x.to) in
    let found : next_character d r c.loop-c.here ≡ Some read = sym c.next_read-in-Some.ensures ∙ ap (option_map read_of) c.in_ok-x.was in
    copy_no d r _ _ _ _ c.in-Some.c s c.loop-c.here some.1.1.1.0 (so_far.1.1.1 s at) read found (sym c.denotes.ensures ∙ c.if-not-denotes.true)

pub loop-c-smaller : goal.loop-c-smaller
loop-c-smaller c =
    let d = direction_if c.args.rules.backwards in
    let so_far = c.loop-c.invariant in
    let part = c.args.part.now in
    (some_ahead d (chars part) (text-chars part c.utf8.part) part (encodes-chars part c.utf8.part) so_far.0 c.loop-c.from so_far.1.0 so_far.1.1.0
    (read_of (c.in-Some.c, c.in-Some.after)) (sym c.next_read.ensures ∙ ap (option_map read_of) c.in-Some.is)).1.1.1.1

pub loop-c-preserved : goal.loop-c-preserved
loop-c-preserved c =
    let d = direction_if c.args.rules.backwards in
    let r = of_bytes c.args.text.now in
    let so_far = c.loop-c.invariant in
    let part = c.args.part.now in
    let some = some_ahead d (chars part) (text-chars part c.utf8.part) part (encodes-chars part c.utf8.part) so_far.0 c.loop-c.from so_far.1.0 so_far.1.1.0
    (read_of (c.in-Some.c, c.in-Some.after)) (sym c.next_read.ensures ∙ ap (option_map read_of) c.in-Some.is) in
    let read = read_of (c.in_ok-x.x, c.in_ok-x.to) in
    let found : next_character d r c.loop-c.here ≡ Some read = sym c.next_read-in-Some.ensures ∙ ap (option_map read_of) c.in_ok-x.was in (
      some.0,
      (
        some.1.0,
        (
          some.1.1.0,
          λ s at. copy_yes d r _ _ _ _ c.in-Some.c s c.loop-c.here some.1.1.1.0 (so_far.1.1.1 s at) read found (sym c.denotes.ensures ∙ c.if-not-denotes.false),
        ),
      ),
    )

pub returns : goal.returns
returns c = λ s at.
    let d = direction_if c.args.rules.backwards in
    let r = of_bytes c.args.text.now in
    let same = denotes (table_of c.args.rules.known.tables.now) true c.args.rules.flags.unicode in
    let so_far = c.loop-c.invariant in
    let part = c.args.part.now in
    let none = none_ahead d (chars part) (text-chars part c.utf8.part) part (encodes-chars part c.utf8.part) so_far.0 c.loop-c.from so_far.1.0 so_far.1.1.0
    (sym c.next_read.ensures ∙ ap (option_map read_of) (none_of c.next_read.result c.in_default.not-Some)) in
    ap (λ xs. all_of d r same xs (record s { position = c.loop-c.here })) (sym none) ∙ so_far.1.1.1 s at
