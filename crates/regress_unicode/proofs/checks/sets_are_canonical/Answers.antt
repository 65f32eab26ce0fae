-- The type of each set guarantees that it is canonical.
use Rattle.std.proofs.Common.{List, All, String, Global, subst}
use Rattle.std.proofs.lemmas.List.{take_all}
use Rattle.std.proofs.lemmas.List.Elements.{All-more, All-map}
use Rattle.regress_base.specs.Intervals.{Bounds, IsCanonical}
use Rattle.regress_base.specs.Table.{Named}
use Rattle.regress_unicode.specs.Parts.{entry_of}
use Rattle.regress_unicode.proofs.checks.sets_are_canonical.Goals as goal

pub loop-set-preserved : goal.loop-set-preserved
loop-set-preserved c =
    All-more (λ (entry : String Global × List Bounds). IsCanonical entry.1) c.args.entries.now c.loop-set.set-index c.loop-set-item.result
    c.loop-set-test.true c.loop-set.invariant
    (subst (λ (entry : String Global × List Bounds). IsCanonical entry.1) c.loop-set-item.is c.set_is_canonical.ensures)

pub returns : goal.returns
returns c =
    let all = subst (λ (entries : List (String Global × List Bounds)). All (λ entry. IsCanonical entry.1) entries)
    (take_all c.loop-set.set-index c.args.entries.now c.loop-set-test.false) c.loop-set.invariant in
    All-map (λ (entry : Named (List Bounds)). IsCanonical entry.value) entry_of c.args.entries.now all
