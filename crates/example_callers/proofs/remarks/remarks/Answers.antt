use Rattle.std.proofs.Common.{map, chars, ap, ◌∙◌}
use Rattle.regress_front.specs.Meaning.{setting_of}
use Rattle.example_callers.specs.Remarks.{explained}
use Rattle.example_callers.proofs.RemarksLemmas.{remarked, without_remarks}
use Rattle.example_callers.proofs.remarks.remarks.Goals as goal

pub returns-clause-listed : goal.returns-clause-listed
returns-clause-listed c =
    remarked (setting_of c.args.flags c.args.tables.now) c.deref.result.now (chars c.args.pattern.now)
    (c.deref.ensures.value ∙ c.in_ok-points.ensures.characters) c.in_ok-found.found.items c.in_ok-found.ensures.listed
    c.in_ok-explain_all.field-0.items (c.in_ok-explain_all.ensures ∙ ap (map explained) c.deref-2.ensures.value)

pub returns-clause-matches : goal.returns-clause-matches
returns-clause-matches c =
    without_remarks (setting_of c.args.flags c.args.tables.now) c.deref.result.now (chars c.args.pattern.now)
    (c.deref.ensures.value ∙ c.in_ok-points.ensures.characters) c.in_ok-found.found.items c.in_ok-explain_all.field-0.items
    (c.in_ok-explain_all.ensures ∙ ap (map explained) c.deref-2.ensures.value) c.in_ok-found.ensures.matches
