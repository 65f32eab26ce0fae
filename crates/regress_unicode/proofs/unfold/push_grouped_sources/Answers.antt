-- The entries of the lowest group that is left are the next ones, and those before them map nothing to the target.
use Rattle.std.proofs.Common.{◌^◌, ◌<◌, arith}
use Rattle.regress_unicode.proofs.SourceIndexLemmas.{lists-none, left-all, left-skipped, left-next, left-start, left-none}
use Rattle.regress_unicode.proofs.unfold.push_grouped_sources.Goals as goal

pub loop-left-init : goal.loop-left-init
loop-left-init c = record {
  listed = lists-none _ c.args.mappings.now c.args.target c.requires.empty;
  are_left = left-all c.args.groups c.args.mappings.now c.args.target c.requires.groups;
}

pub push_sources_in-requires-clause-before : goal.push_sources_in-requires-clause-before
push_sources_in-requires-clause-before c =
    left-skipped _ c.loop-left.left c.args.mappings.now c.loop-left.end c.args.target c.loop-left.invariant.are_left (omega arith) (omega arith)
    c.loop-left.invariant.listed

pub loop-left-smaller : goal.loop-left-smaller
loop-left-smaller c =
    let left = c.loop-left.left in
    let some : 0 < left = omega arith in
    let fits : left < 2 ^ 64 = omega arith in
    let start = left-start left c.args.mappings.now c.loop-left.end c.args.target c.loop-left.invariant.are_left some fits in
    let next = left-next left c.args.mappings.now c.loop-left.end c.args.target c.loop-left.invariant.are_left some fits in
    omega (arith, start, next.bound)

pub loop-left-preserved : goal.loop-left-preserved
loop-left-preserved c = record {
  listed = c.in_ok-push_sources_in.ensures;
  are_left = left-next c.loop-left.left c.args.mappings.now c.loop-left.end c.args.target c.loop-left.invariant.are_left (omega arith) (omega arith);
}

pub returns : goal.returns
returns c =
    left-none _ c.loop-left.left c.args.mappings.now c.loop-left.end c.args.target c.loop-left.invariant.are_left (omega arith) c.loop-left.invariant.listed
