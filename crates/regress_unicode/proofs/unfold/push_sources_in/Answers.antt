-- Each entry appends the code point that it maps to the target.
use Rattle.std.proofs.Common.{◌∙◌, ◌<◌, ◌&&◌, false, nat_le, length, IsTrue, sym, ap, subst, arith}
use Rattle.regress_base.specs.Intervals.{code_point_max}
use Rattle.regress_unicode.specs.FoldEntries.{FoldEntry}
use Rattle.regress_unicode.specs.ValidEntries.{is_target_in_range}
use Rattle.regress_base.proofs.lemmas.Listings.{listed_source}
use Rattle.regress_unicode.proofs.ListLemmas.{target_at}
use Rattle.regress_unicode.proofs.SourceLemmas.{has_source-more, has_source-no_more}
use Rattle.regress_unicode.proofs.SourceIndexLemmas.{lists-below, lists-to}
use Rattle.regress_unicode.proofs.UnfoldLemmas.{pushed_ascending, pushed_lists, source_within}
use Rattle.regress_unicode.proofs.unfold.push_sources_in.Goals as goal
use Rattle.regress_unicode.proofs.unfold.push_sources_in.Goals.{in-Some+in_ok-push, in_default}

pub source-requires-clause-in_range : goal.source-requires-clause-in_range
source-requires-clause-in_range c =
    let within : c.loop-i.i < length c.args.mappings.now = omega arith in
    subst (λ (r : FoldEntry). IsTrue (is_target_in_range r)) (sym c.index-mappings-i.is)
    (target_at c.args.mappings.now c.loop-i.i c.index-mappings-i.result c.requires.in_range within)

pub loop-i-preserved : goal.loop-i-preserved
loop-i-preserved c =
    let mappings = c.args.mappings.now in
    let i = c.loop-i.i in
    let mapping : FoldEntry = c.index-mappings-i.result in
    let within : i < length mappings = omega arith in
    elim c.match-source.branch [
      | in-Some+in_ok-push w ↦ (
          let range = source_within mapping c.args.target w.in-Some.source w.in-Some.ensures.some in
          rw w.list-is (record {
            ascending = pushed_ascending _ _ w.in-Some.source c.loop-i.invariant.ascending
                (lists-below _ mappings i c.args.target mapping w.in-Some.source c.requires.in_order within c.index-mappings-i.is range.0 c.loop-i.invariant)
                w.in_ok-push.ensures.items;
            members = λ x. listed_source x w.in-Some.source _ _ false _ _ _ w.in-Some.ensures.low (c.loop-i.invariant.members x)
                (pushed_lists _ _ w.in-Some.source x w.in_ok-push.ensures.items) (w.in-Some.ensures.some x)
                (has_source-more mappings i c.args.target x mapping within c.index-mappings-i.is);
          }))
      | in_default w ↦ rw w.list-is (record {
        ascending = c.loop-i.invariant.ascending;
        members = λ x. c.loop-i.invariant.members x
            ∙ ap (λ b. nat_le x code_point_max && b)
            (has_source-no_more mappings i c.args.target x mapping within c.index-mappings-i.is (w.in_default.ensures.none x));
      })
    ]

pub returns : goal.returns
returns c =
    lists-to _ c.args.mappings.now c.loop-i.i c.args.end c.args.target (λ le. omega arith) (λ lt. omega arith) c.loop-i.invariant
