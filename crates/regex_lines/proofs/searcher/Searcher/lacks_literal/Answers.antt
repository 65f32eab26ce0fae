use Rattle.std.proofs.Common.{◌∙◌, List, ℕ, Option, ap, not, subst}
use Rattle.std.specs.Prelude.{IfSome}
use Rattle.memchr.specs.Find.{FindsNeedle}
use Rattle.regress.specs.Required.{RequiresLiteral}
use Rattle.regex_lines.proofs.SearcherLemmas.{not_found}
use Rattle.regex_lines.proofs.searcher.Searcher.lacks_literal.Goals as goal

pub returns-in-Some : goal.returns-in-Some
returns-in-Some c lacks =
    let regex = c.args.self.now.regex.now in
    let text = c.args.text.now in
    let literal = c.in-Some.literal in
    let required : RequiresLiteral regex literal =
    subst (λ (o : Option (List ℕ)). IfSome o (RequiresLiteral regex)) c.in-Some.is c.args.self.now.required in
    required text (not_found literal text c.find.result (subst (λ bytes. FindsNeedle bytes literal 0 c.find.result) c.as_bytes.ensures.value c.find.ensures)
    (c.is_none.ensures ∙ ap not lacks))
