-- An iteration searches the strings that are equal to the one before `count`.
use Rattle.std.proofs.Common.{◌-◌, sym, ◌∙◌, arith}
use Rattle.regress_strings.specs.Ordered.{string_of}
use Rattle.regress_strings.proofs.LinkLemmas.{link-of}
use Rattle.regress_strings.proofs.SearchLemmas.{searched-none, searched-more}
use Rattle.regress_strings.proofs.links.greatest_index.Goals as goal

pub loop-count-init : goal.loop-count-init
loop-count-init c =
    searched-none c.args.order.now c.args.text.now c.args.before c.count_at_most.result c.prefix_count-count.result c.count_at_most.ensures c.prefix_count-count.ensures

pub last_below-requires-clause-ordered : goal.last_below-requires-clause-ordered
last_below-requires-clause-ordered c =
    let is = link-of (string_of c.args.order.now) c.args.links.now (c.loop-count.count - 1) (record { first = 0; prefix = 0 }) c.requires.links (omega arith) in
    omega (arith, is.first)

pub last_below-requires-clause-ascend : goal.last_below-requires-clause-ascend
last_below-requires-clause-ascend c i j ge le lt =
    let is = link-of (string_of c.args.order.now) c.args.links.now (c.loop-count.count - 1) (record { first = 0; prefix = 0 }) c.requires.links (omega arith) in
    c.args.order.now.is_order.stable i j le (omega arith) (is.equal i ge (omega arith) ∙ sym (is.equal j (omega arith) (omega arith)))

pub loop-count-smaller : goal.loop-count-smaller
loop-count-smaller c =
    let is = link-of (string_of c.args.order.now) c.args.links.now (c.loop-count.count - 1) (record { first = 0; prefix = 0 }) c.requires.links (omega arith) in
    omega (arith, is.first, is.prefix)

pub loop-count-preserved : goal.loop-count-preserved
loop-count-preserved c =
    let is = link-of (string_of c.args.order.now) c.args.links.now (c.loop-count.count - 1) (record { first = 0; prefix = 0 }) c.requires.links (omega arith) in
    searched-more c.args.order.now c.args.text.now c.args.before c.loop-count.count c.loop-count.greatest _ c.last_below.result c.max-greatest.result c.loop-count.invariant
    (omega arith) is c.last_below.ensures c.max-greatest.ensures
