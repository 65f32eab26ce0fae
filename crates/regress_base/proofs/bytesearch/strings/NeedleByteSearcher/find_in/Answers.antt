use Rattle.std.proofs.Common.{below_more, arith}
use Rattle.std.proofs.lemmas.Bool.Decides.{not_from_Decides}
use Rattle.regress_base.specs.Needle.{needle_bytes}
use Rattle.regress_base.proofs.FindLemmas.{starts-Decides, occurs_first}
use Rattle.regress_base.proofs.bytesearch.strings.NeedleByteSearcher.find_in.Goals as goal

pub returns-then-starts_with : goal.returns-then-starts_with
returns-then-starts_with c =
    let text = c.args.rhs.now in
    let needle = needle_bytes c.args.self.now in
    occurs_first text needle c.loop-i.i c.loop-i.invariant (omega arith)
    ((starts-Decides text needle c.loop-i.i c.starts_with.result c.starts_with.ensures.value).0 c.if-starts_with.true)

pub loop-i-preserved : goal.loop-i-preserved
loop-i-preserved c =
    let text = c.args.rhs.now in
    let needle = needle_bytes c.args.self.now in
    below_more _ _ c.loop-i.invariant
    (not_from_Decides c.starts_with.result (starts-Decides text needle c.loop-i.i c.starts_with.result c.starts_with.ensures.value)
    c.if-starts_with.false)
