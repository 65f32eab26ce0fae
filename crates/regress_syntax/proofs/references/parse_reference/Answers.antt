use Rattle.std.proofs.Common.{◌≡◌, Some, option_map, refl, sym, ap, ◌∙◌, ℕ, List}
use Rattle.regress_syntax.specs.Names.{group_name_at}
use Rattle.regress_syntax.specs.Productions.{named_target}
use Rattle.regress_syntax.specs.Syntax.{back_reference, groups_named}
use Rattle.regress_syntax.specs.Views.{context_of}
use Rattle.regress_lexer.specs.Views.{source}
use Rattle.regress_syntax.proofs.ReferenceLemmas.{named-some, named-unknown}
use Rattle.regress_lexer.proofs.lemmas.Sources.{on_rejected, length-none, length-some}
use Rattle.regress_lexer.proofs.lemmas.After.{after_all}
use Rattle.regress_syntax.proofs.lemmas.NameEnds.{group_name_at-ends}
use Rattle.regress_syntax.proofs.references.parse_reference.Goals as goal

pub returns-then-is_empty-clause-value : goal.returns-then-is_empty-clause-value
returns-then-is_empty-clause-value c =
    let ctx = context_of c.args.scope.now in
    let name = c.in-Some.name.items in
    let found : group_name_at ctx.setting.table (source c.args.cursor.now) ≡ Some (name, c.in-Some.rest.now) =
    sym c.in_ok-name.ensures ∙ ap (option_map (λ found. (found.0.items, found.1.now))) c.in-Some.is in
    let numbers = c.numbers_of-numbers.ensures ∙ ap (λ (name : List ℕ). groups_named name 1 ctx.names) c.deref.ensures.value in
    on_rejected c.rejected-then-is_empty.result
    (named-unknown ctx (source c.args.cursor.now) name c.in-Some.rest.now found
    (sym numbers ∙ length-none _ (sym c.is_empty.ensures ∙ c.if-is_empty.true)))

pub invariant_of-cursor : goal.invariant_of-cursor
invariant_of-cursor c =
    let ctx = context_of c.args.scope.now in
    let found : group_name_at ctx.setting.table (source c.args.cursor.now) ≡ Some (c.in-Some.name.items, c.in-Some.rest.now) =
    sym c.in_ok-name.ensures ∙ ap (option_map (λ found. (found.0.items, found.1.now))) c.in-Some.is in
    record {
      in_range = after_all _ _
          ((group_name_at-ends ctx.setting.table (source c.args.cursor.now)).each (c.in-Some.name.items, c.in-Some.rest.now) found)
          c.args.cursor.now.in_range;
    }

pub returns-clause-value : goal.returns-clause-value
returns-clause-value c =
    let ctx = context_of c.args.scope.now in
    let name = c.in-Some.name.items in
    let found : group_name_at ctx.setting.table (source c.args.cursor.now) ≡ Some (name, c.in-Some.rest.now) =
    sym c.in_ok-name.ensures ∙ ap (option_map (λ found. (found.0.items, found.1.now))) c.in-Some.is in
    let numbers = c.numbers_of-numbers.ensures ∙ ap (λ (name : List ℕ). groups_named name 1 ctx.names) c.deref.ensures.value in (
      back_reference ctx.setting.flags (named_target ctx.dialect name),
      named-some ctx (source c.args.cursor.now) name c.in-Some.rest.now found
          (λ none. length-some _ (sym c.is_empty.ensures ∙ c.if-is_empty.false) (numbers ∙ none)),
      (name, refl, numbers),
    )
