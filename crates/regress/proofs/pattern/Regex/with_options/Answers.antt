use Rattle.std.proofs.Common.{◌∙◌, ◌<◌, sym, ap, subst}
use Rattle.std.specs.Arc.{arc_value}
use Rattle.std.specs.Prelude.{IfErr, IfOk}
use Rattle.regress_front.specs.Bound.{HasAtMost}
use Rattle.regress_front.specs.Dialects.{flags_in_force}
use Rattle.regress_front.specs.Meaning.{setting_of}
use Rattle.regress.specs.Failures.{IsDue}
use Rattle.regress.specs.Source.{text_of}
use Rattle.regress.proofs.CompiledLemmas.{from_characters}
use Rattle.regress.proofs.SourceLemmas.{text_of-chars}
use Rattle.regress.proofs.pattern.Regex.with_options.Goals as goal

pub with_source-requires-clause-text : goal.with_source-requires-clause-text
with_source-requires-clause-text c =
    c.in_ok-source.ensures.ok
    ∙ sym (ap text_of (c.deref.ensures.value ∙ c.in_ok-points.ensures.characters) ∙ text_of-chars c.args.pattern.now c.utf8.pattern)

pub returns-clause-compiled : goal.returns-clause-compiled
returns-clause-compiled c =
    let setting = setting_of (flags_in_force c.args.options.dialect c.args.flags) (arc_value c.args.tables.now) in
    from_characters c.args.options.dialect setting c.args.pattern.now c.deref.result.now (c.deref.ensures.value ∙ c.in_ok-points.ensures.characters) c.utf8.pattern
    c.with_source.result c.with_source.ensures.compiled c.with_source.ensures.source

pub returns-clause-failed : goal.returns-clause-failed
returns-clause-failed c =
    let setting = setting_of (flags_in_force c.args.options.dialect c.args.flags) (arc_value c.args.tables.now) in
    subst (λ points. IfErr c.with_source.result (IsDue setting points c.args.options))
    (c.deref.ensures.value ∙ c.in_ok-points.ensures.characters) c.with_source.ensures.failed

pub returns-clause-small : goal.returns-clause-small
returns-clause-small c =
    let flags = flags_in_force c.args.options.dialect c.args.flags in
    subst (λ points. IfOk c.with_source.result (λ _. c.args.options.nodes < 18446744073709551615 → HasAtMost flags points c.args.options.nodes))
    (c.deref.ensures.value ∙ c.in_ok-points.ensures.characters) c.with_source.ensures.small
