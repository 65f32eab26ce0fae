use Rattle.std.proofs.Common.{◌≡◌, ℕ, ◌∷◌, Some, sym, ap, ap₂, subst, ◌∙◌}
use Rattle.std.proofs.lemmas.List.Elements.{All-tail}
use Rattle.std.specs.List.{All}
use Rattle.regress_lexer.specs.Source.{Source, IsCodePoint}
use Rattle.regress_lexer.proofs.lemmas.After.{after_all}
use Rattle.regress_syntax.specs.Numbering.{group_number_at}
use Rattle.regress_syntax.specs.Views.{context_of, names_in}
use Rattle.regress_syntax.proofs.lemmas.References.{group_number_at-ends}
use Rattle.regress_unicode.specs.TableOf.{table_of}
use Rattle.regress_parse.specs.Reader.{term_at}
use Rattle.regress_parse.proofs.TermLemmas.{reference_term}
use Rattle.regress_parse.proofs.atom.next_reference.Goals as goal

pub returns-clause-some : goal.returns-clause-some
returns-clause-some c =
    let scope = c.args.scope.now in
    let ctx = context_of scope in
    let escaped = c.in-Some.escaped.now in
    let digit = c.in-Some-split_first.digit.now in
    let group = c.in-Some-parse_group_number.group in
    let rest = c.in-Some-parse_group_number.rest.now in
    let front = c.in-Some.ensures.cases.0 in
    let second = c.in-Some-split_first.ensures.cases.0 in
    let found : group_number_at ctx.groups escaped ≡ Some (group, rest) =
    subst (λ groups. group_number_at groups escaped ≡ Some (group, rest)) c.count.ensures (sym c.in-Some-parse_group_number.ensures) in
    ap (term_at ctx) (front ∙ ap₂ (λ (n : ℕ) (u : Source). n ∷ u) (c.if-backslash-from.false ∙ c.from.ensures) second)
    ∙ reference_term (table_of scope.tables.now) (names_in scope.groups.now) ctx digit c.in-Some-split_first.field-0-1.now group rest
    (sym c.begins_number.ensures ∙ c.if-not-begins_number.false) (subst (λ (u : Source). group_number_at ctx.groups u ≡ Some (group, rest)) second found)
    (sym c.may_begin.ensures ∙ c.if-may_begin.false)

pub invariant_of-cursor : goal.invariant_of-cursor
invariant_of-cursor c = record {
  in_range = after_all _ _
      ((group_number_at-ends c.count.result c.in-Some.escaped.now).each (c.in-Some-parse_group_number.group, c.in-Some-parse_group_number.rest.now)
      (sym c.in-Some-parse_group_number.ensures))
      (All-tail IsCodePoint c.in-Some.backslash.now c.in-Some.escaped.now (subst (All IsCodePoint) c.in-Some.ensures.cases.0 c.args.cursor.now.in_range));
}
