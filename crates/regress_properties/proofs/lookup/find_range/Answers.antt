-- Each entry so far has another name.
use Rattle.std.proofs.Common.{refl, sym, ◌∙◌}
use Rattle.regress_properties.specs.Listed.{range_of}
use Rattle.regress_properties.proofs.lemmas.Named.{named_found, named_passed, named_none}
use Rattle.regress_properties.proofs.lookup.find_range.Goals as goal

pub returns-then-eq : goal.returns-then-eq
returns-then-eq c =
    named_found (λ n. range_of n.0.now n.1 n.2) c.args.name.now c.args.names.now c.loop-entry.entry-index _ _ _ c.loop-entry-test.true refl
    c.loop-entry.invariant (sym c.eq.ensures ∙ c.if-eq.true)

pub loop-entry-preserved : goal.loop-entry-preserved
loop-entry-preserved c =
    named_passed (λ n. range_of n.0.now n.1 n.2) c.args.name.now c.args.names.now c.loop-entry.entry-index _ _ _ c.loop-entry-test.true refl
    c.loop-entry.invariant (sym c.eq.ensures ∙ c.if-eq.false)

pub returns : goal.returns
returns c = named_none (λ n. range_of n.0.now n.1 n.2) c.args.name.now c.args.names.now c.loop-entry.entry-index _ c.loop-entry-test.false c.loop-entry.invariant
