use Rattle.std.proofs.Common.{◌≡◌, ◌∙◌, refl, sym, ap}
use Rattle.std.specs.Arc.{arc_value}
use Rattle.std.specs.Prelude.{IfErr}
use Rattle.regress_ecma.specs.CodeUnits.{is_exact}
use Rattle.regress_ecma.specs.SurrogatePairs.{matches_outside_pairs}
use Rattle.regress_front.specs.Accepted.{OfAcceptedIn}
use Rattle.regress_front.specs.Dialects.{flags_in_force}
use Rattle.regress_front.specs.Meaning.{setting_of}
use Rattle.regress_front.specs.Tree.{tree}
use Rattle.regress_match.specs.Matcher.{is_find_linear_tree}
use Rattle.regress.specs.Compiled.{IsTreeOfIn}
use Rattle.regress.specs.Failures.{IsDue}
use Rattle.regress.specs.Limits.{linear_limit}
use Rattle.regress.proofs.CompiledLemmas.{compiled, passed_on, too_long_is_due, with_tables}
use Rattle.regress.proofs.pattern.Regex.with_source.Goals as goal

pub returns-in_err-compiled-clause-failed : goal.returns-in_err-compiled-clause-failed
returns-in_err-compiled-clause-failed c =
    let flags = flags_in_force c.args.options.dialect c.args.flags in
    let points = c.args.pattern.now in
    let options = c.args.options in
    passed_on (IsDue (setting_of flags (arc_value c.args.tables.now)) points options) c.optimized.result c.in_err-compiled.field-0.0
    c.from_residual.result c.from_residual.ensures c.in_err-compiled.was
    (with_tables (λ tables. IfErr c.optimized.result (IsDue (setting_of flags tables) points options)) c.deref.result.now
    (arc_value c.args.tables.now) c.deref.ensures (c.optimized.ensures.failed options refl))

pub returns-clause-compiled : goal.returns-clause-compiled
returns-clause-compiled c =
    let flags = flags_in_force c.args.options.dialect c.args.flags in
    let tables = arc_value c.args.tables.now in
    let t = tree c.in_ok-compiled.compiled.0.node in
    let made = c.in_ok-matcher.ensures in
    compiled c.args.options.dialect (setting_of flags tables) c.args.pattern.now t _
    (with_tables (λ ts. IsTreeOfIn c.args.options.dialect (setting_of flags ts) c.args.pattern.now t) c.deref.result.now tables c.deref.ensures
    c.in_ok-compiled.ensures.tree)
    made.tree (made.setting ∙ ap (λ f. setting_of f tables) c.in_ok-compiled.ensures.flags)
    (c.is_exact_source.ensures ∙ ap (λ f. is_exact f.unicode c.args.pattern.now) c.flags_in_force-in_force.ensures)
    (with_tables
    (λ ts. OfAcceptedIn c.args.options.dialect (setting_of flags ts) c.args.pattern.now
    (λ p. c.in_ok-compiled.compiled.1 ≡ matches_outside_pairs (setting_of flags ts).table p))
    c.deref.result.now tables c.deref.ensures c.in_ok-compiled.ensures.outside)
    c.in_ok-groups.ensures.all c.in_ok-groups.ensures.sorted

pub returns-in_err-matcher-clause-failed : goal.returns-in_err-matcher-clause-failed
returns-in_err-matcher-clause-failed c =
    let flags = flags_in_force c.args.options.dialect c.args.flags in
    let tables = arc_value c.args.tables.now in
    let points = c.args.pattern.now in
    let t = tree c.in_ok-compiled.compiled.0.node in
    let is : IsTreeOfIn c.args.options.dialect (setting_of flags tables) points t =
    with_tables (λ ts. IsTreeOfIn c.args.options.dialect (setting_of flags ts) points t) c.deref.result.now tables c.deref.ensures c.in_ok-compiled.ensures.tree in
    too_long_is_due (setting_of flags tables) points c.args.options t is c.new.result c.in_err-matcher.field-0.0
    c.from_residual-in_err-matcher.result c.from_residual-in_err-matcher.ensures c.in_err-matcher.was c.new.ensures.too_long

pub returns-clause-find_linear_tree : goal.returns-clause-find_linear_tree
returns-clause-find_linear_tree c =
    let flags = flags_in_force c.args.options.dialect c.args.flags in
    let tables = arc_value c.args.tables.now in
    let t = tree c.in_ok-compiled.compiled.0.node in
    let made = c.in_ok-matcher.ensures in
    let is : IsTreeOfIn c.args.options.dialect (setting_of flags tables) c.args.pattern.now t =
    with_tables (λ ts. IsTreeOfIn c.args.options.dialect (setting_of flags ts) c.args.pattern.now t) c.deref.result.now tables c.deref.ensures c.in_ok-compiled.ensures.tree in
    made.find_linear.exactly is.well_formed ∙ ap (is_find_linear_tree (linear_limit c.args.options)) (sym made.tree)
