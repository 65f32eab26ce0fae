use Rattle.std.proofs.Common.{sym, ◌∙◌}
use Rattle.regress_lexer.proofs.lemmas.Sources.{ok_from_both}
use Rattle.regress_syntax.specs.Views.{context_of}
use Rattle.regress_parse.proofs.BuildLemmas.{compared_has, uncompared_has}
use Rattle.regress_parse.proofs.build.compare.Goals as goal

pub returns-then-compares_upper_cases : goal.returns-then-compares_upper_cases
returns-then-compares_upper_cases c =
    ok_from_both c.add_uppercase_code_points.result _ _ _
    (λ compared each canonical members has.
    compared_has (context_of c.args.scope.now) members c.args.set compared (sym c.compares_upper_cases.ensures ∙ c.if-compares_upper_cases.true) each canonical has)
    c.add_uppercase_code_points.ensures.members c.add_uppercase_code_points.ensures.canonical

pub returns-else-compares_upper_cases : goal.returns-else-compares_upper_cases
returns-else-compares_upper_cases c members has =
    uncompared_has (context_of c.args.scope.now) members c.args.set (sym c.compares_upper_cases.ensures ∙ c.if-compares_upper_cases.false) has
