-- In a lookbehind the parts are reversed, packed and reversed back.
use Rattle.std.proofs.Common.{◌≡◌, sym, ap, ◌∙◌, subst}
use Rattle.std.specs.Prelude.{if◌then◌else◌}
use Rattle.regress_tree.specs.Reading.{Direction, forwards, backwards}
use Rattle.regress_tree.specs.Tree.{Trees, reverse_trees, trees}
use Rattle.regress_tree.proofs.lemmas.Reversed.{trees-reversed}
use Rattle.regress_normalize.specs.Packed.{Packs, IsPacked}
use Rattle.regress_tree.proofs.lemmas.ReversedParts.{reverse_trees-twice}
use Rattle.regress_normalize.proofs.PackedLemmas.{IsPacked-turned}
use Rattle.regress_normalize.proofs.CatLemmas.{on_ok_map}
use Rattle.regress_normalize.proofs.cat.pack_in_order.Goals as goal

pub returns-then-not-walk-clause-packs : goal.returns-then-not-walk-clause-packs
returns-then-not-walk-clause-packs c =
    subst
    (λ (d : Direction). Packs d (trees c.args.parts.now.items) (trees c.pack_in_text_order.new.parts.items))
    (sym (ap (λ b. if b then backwards else forwards) c.if-not-walk.true)) (c.pack_in_text_order.ensures.packs forwards)

pub returns-clause-packs : goal.returns-clause-packs
returns-clause-packs c =
    let was : reverse_trees (trees c.reverse.new.self.items) ≡ trees c.args.parts.now.items =
    ap (λ ns. reverse_trees (trees ns)) c.reverse.ensures.items ∙ ap reverse_trees (trees-reversed c.args.parts.now.items)
    ∙ reverse_trees-twice (trees c.args.parts.now.items) in
    let is : reverse_trees (trees c.pack_in_text_order-closed.new.parts.items) ≡ trees c.reverse-2.new.self.items =
    sym (ap trees c.reverse-2.ensures.items ∙ trees-reversed c.pack_in_text_order-closed.new.parts.items) in
    subst (λ (d : Direction). Packs d (trees c.args.parts.now.items) (trees c.reverse-2.new.self.items))
    (sym (ap (λ b. if b then backwards else forwards) c.if-not-walk.false))
    (subst (λ (ts : Trees). Packs backwards ts (trees c.reverse-2.new.self.items)) was
    (subst (λ (ts : Trees). Packs backwards (reverse_trees (trees c.reverse.new.self.items)) ts) is
    (c.pack_in_text_order-closed.ensures.packs backwards)))

pub returns-clause-packed : goal.returns-clause-packed
returns-clause-packed c =
    let closed = c.pack_in_text_order-closed in
    let is : reverse_trees (trees closed.new.parts.items) ≡ trees c.reverse-2.new.self.items =
    sym (ap trees c.reverse-2.ensures.items ∙ trees-reversed closed.new.parts.items) in
    on_ok_map _ _ closed.result
    (λ (packed : IsPacked (trees closed.new.parts.items)). subst IsPacked is (IsPacked-turned (trees closed.new.parts.items) packed))
    closed.ensures.packed
