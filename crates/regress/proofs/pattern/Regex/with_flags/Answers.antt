use Rattle.std.proofs.Common.{◌∙◌, ap, subst}
use Rattle.std.proofs.lemmas.Result.{IfErr-weaker}
use Rattle.std.specs.Prelude.{IfErr, IfOk, chars}
use Rattle.regress_front.specs.Dialects.{flags_in_force}
use Rattle.regress_front.specs.declared.parse.Dialect.TheVariants.{Ecma}
use Rattle.regress.specs.Compiled.{IsCompiledIn}
use Rattle.regress.specs.Failures.{IsDue}
use Rattle.regress.specs.Kept.{Keeps}
use Rattle.regress.specs.Limits.{default_options}
use Rattle.regress.specs.Unicode.{unicode_setting}
use Rattle.regress.proofs.CompiledLemmas.{due_with_letters}
use Rattle.regress.proofs.LettersLemmas.{in_force}
use Rattle.regress.proofs.pattern.Regex.with_flags.Goals as goal

pub returns-clause-compiled : goal.returns-clause-compiled
returns-clause-compiled c =
    let letters = chars c.args.letters.now in
    subst (λ flags. IfOk c.under_unicode.result (IsCompiledIn Ecma (unicode_setting flags) c.args.pattern.now))
    (ap (flags_in_force Ecma) c.in_ok-flags.ensures.flags ∙ in_force letters) c.under_unicode.ensures.compiled

pub returns-clause-keeps : goal.returns-clause-keeps
returns-clause-keeps c =
    let letters = chars c.args.letters.now in
    subst (λ flags. IfOk c.under_unicode.result (Keeps default_options flags (chars c.args.pattern.now)))
    (ap (flags_in_force Ecma) c.in_ok-flags.ensures.flags ∙ in_force letters) c.under_unicode.ensures.keeps

pub returns-clause-failed : goal.returns-clause-failed
returns-clause-failed c =
    let letters = chars c.args.letters.now in
    let source = chars c.args.pattern.now in
    IfErr-weaker c.under_unicode.result _ _ (due_with_letters letters source c.in_ok-flags.ensures.accepted)
    (subst (λ flags. IfErr c.under_unicode.result (IsDue (unicode_setting flags) source default_options))
    (ap (flags_in_force Ecma) c.in_ok-flags.ensures.flags ∙ in_force letters) c.under_unicode.ensures.failed)
