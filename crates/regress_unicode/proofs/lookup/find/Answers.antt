-- Each entry so far has another name.
use Rattle.std.proofs.Common.{sym, ap, ◌∙◌}
use Rattle.regress_unicode.specs.Parts.{entry_of}
use Rattle.std.specs.Str.{bytes_eq}
use Rattle.regress_properties.proofs.lemmas.Named.{named_found, named_passed, named_none}
use Rattle.regress_unicode.proofs.lookup.find.Goals as goal

pub returns-then-eq : goal.returns-then-eq
returns-then-eq g c =
    let same = ap (λ bytes. bytes_eq bytes c.args.name.now) (sym c.as_str.ensures.value) ∙ sym c.eq.ensures ∙ c.if-eq.true in
    named_found entry_of c.args.name.now c.args.entries.now c.loop-entry.entry-index c.loop-entry-item.result c.loop-entry-item.result _ c.loop-entry-test.true
    c.loop-entry-item.is c.loop-entry.invariant same

pub loop-entry-preserved : goal.loop-entry-preserved
loop-entry-preserved g c =
    let other = ap (λ bytes. bytes_eq bytes c.args.name.now) (sym c.as_str.ensures.value) ∙ sym c.eq.ensures ∙ c.if-eq.false in
    named_passed entry_of c.args.name.now c.args.entries.now c.loop-entry.entry-index c.loop-entry-item.result c.loop-entry-item.result _ c.loop-entry-test.true
    c.loop-entry-item.is c.loop-entry.invariant other

pub returns : goal.returns
returns g c = named_none entry_of _ _ _ _ c.loop-entry-test.false c.loop-entry.invariant
