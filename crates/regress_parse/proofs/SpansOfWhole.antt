-- The spans of a whole source.
use Rattle.std.proofs.Common.{◌≡◌, List, [], ◌∷◌, ◌++◌, length, ap, ◌∙◌, subst}
use Rattle.regress_tree.specs.Reading.{forwards}
use Rattle.regress_tree.specs.Steps.{Setting}
use Rattle.regress_lexer.specs.declared.dialect.Dialect.{Dialect}
use Rattle.regress_lexer.specs.Source.{Source}
use Rattle.regress_syntax.specs.Syntax.{Pattern}
use Rattle.regress_syntax.specs.Productions.{Context}
use Rattle.regress_parse.specs.Accepted.{own_context_in, IsAcceptedIn}
use Rattle.regress_parse.specs.declared.span.Span.{Span}
use Rattle.regress_parse.specs.Spans.{spans_of_pattern, spans_in}
use Rattle.regress_parse.specs.Recorded.{span_to, RecordsPattern, HasSpans}

-- The spans of the source's nodes, the final `Goal` and the root.
pub whole-spans : (ctx : Context) (t : Source) (before : List Span) (new : Source) (now now' : List Span) →
    before ≡ [] → RecordsPattern (length t) ctx forwards t before new now → new ≡ [] →
    now' ≡ now ++ span_to (length t) 0 new ∷ span_to (length t) (length t) new ∷ [] → HasSpans ctx t now'
whole-spans ctx t before new now now' empty reads ends added p h =
    let n = length t in
    let a = reads p [] h in
    let body = spans_of_pattern n ctx forwards p t [] h in
    added
    ∙ ap (λ (ss : List Span). ss ++ (span_to n 0 new ∷ span_to n n new ∷ [])) (a.spans ∙ ap (λ (ss : List Span). ss ++ body) empty)
    ∙ ap (λ (u : Source). body ++ (span_to n 0 u ∷ span_to n n u ∷ [])) ends

-- They are those of an accepted pattern, in the pattern's own context.
pub accepted-spans : (dialect : Dialect) (setting : Setting) (t : Source) (p : Pattern) (accepted : IsAcceptedIn dialect setting t p) (ctx : Context) → ctx ≡ own_context_in dialect setting p →
    (now : List Span) → HasSpans ctx t now → now ≡ spans_in dialect setting t p accepted.derived
accepted-spans dialect setting t p accepted ctx same now has = subst (λ (c : Context). HasSpans c t now) same has p accepted.derived
