-- A class, without or with the flag v.
use Rattle.std.proofs.Common.{Bool, ◌<◌, ◌∙◌, inr, refl, sym, ap, subst, arith}
use Rattle.std.specs.Option.{IfSome}
use Rattle.std.proofs.lemmas.Bool.{cond-true, cond-false}
use Rattle.regress_lexer.specs.Source.{Found, found_map}
use Rattle.std.proofs.lemmas.Result.{err_from_is_err_and}
use Rattle.regress_lexer.specs.Views.{source}
use Rattle.regress_lexer.proofs.lemmas.Sources.{on_rejected, on_kind_then}
use Rattle.regress_lexer.proofs.lemmas.Faults.{by_nesting_then}
use Rattle.regress_syntax.proofs.lemmas.Lengths.{class_set_at-nesting}
use Rattle.regress_classes.specs.declared.parameters.Parameters.{Parameters}
use Rattle.regress_classes.specs.ClassProductions.{class_at}
use Rattle.regress_classes.specs.ClassSets.{class_set_at}
use Rattle.regress_syntax.specs.Syntax.{Atom, class, class_set, nesting_of_atom}
use Rattle.regress_syntax.specs.Productions.{class_flags, compared_members}
use Rattle.regress_syntax.specs.Views.{context_of, names_in}
use Rattle.regress_unicode.specs.TableOf.{table_of}
use Rattle.regress_parse.specs.TreeOf.{tree_of_atom}
use Rattle.regress_parse.proofs.atom.read_brackets.Goals as goal

pub returns-then-not-scope-clause-value : goal.returns-then-not-scope-clause-value
returns-then-not-scope-clause-value c =
    let ctx = context_of c.args.scope.now in
    let found = c.in_ok-class.ensures.value in
    let atom : Bool → Atom = λ inverted. class (class_flags ctx) inverted (compared_members ctx found.0.1) in (
      atom found.0.0,
      cond-false _ _ _ c.if-not-scope.true
          ∙ ap (found_map (λ (inverted, members). class (class_flags ctx) inverted (compared_members ctx members)))
          (ap (λ (p : Parameters). class_at (table_of c.args.scope.now.tables.now) p (source c.args.cursor.now)) (sym c.class_parameters-parameters.ensures) ∙ found.1),
      record {
        node = c.in_ok-make_class.ensures found.0.1 found.2.1 ∙ ap (tree_of_atom (table_of c.args.scope.now.tables.now)
            (names_in c.args.scope.now.groups.now)) (ap atom found.2.0);
        nesting = omega arith;
        allows = refl;
      },
    )

pub returns-then-class-left-clause-value : goal.returns-then-class-left-clause-value
returns-then-class-left-clause-value c =
    let flags = c.args.scope.now.flags in
    let found = c.in_ok-class-2.ensures.value in
    let read = ap (λ (p : Parameters). class_set_at (table_of c.args.scope.now.tables.now) p (source c.args.cursor.now))
    (sym c.class_parameters-parameters.ensures) ∙ found.1 in
    let here = cond-true _ _ _ c.if-not-scope.false ∙ ap (found_map (λ (negated, value). class_set flags negated value)) read in
    on_rejected c.rejected.result
    (subst (λ (f : Found Atom). IfSome f (λ x. c.args.left < nesting_of_atom x.0)) (sym here) (omega (arith, found.2.1.others.nesting)))

pub returns-clause-value : goal.returns-clause-value
returns-clause-value c =
    let flags = c.args.scope.now.flags in
    let found = c.in_ok-class-2.ensures.value in
    let read = ap (λ (p : Parameters). class_set_at (table_of c.args.scope.now.tables.now) p (source c.args.cursor.now))
    (sym c.class_parameters-parameters.ensures) ∙ found.1 in
    let same = ap (λ negated. class_set flags negated found.0.1) found.2.0 in (
      class_set flags found.0.0 found.0.1,
      cond-true _ _ _ c.if-not-scope.false ∙ ap (found_map (λ (negated, value). class_set flags negated value)) read,
      record {
        node = c.in_ok-make_class_set.ensures found.0.1 found.2.1 ∙ ap (tree_of_atom (table_of c.args.scope.now.tables.now)
            (names_in c.args.scope.now.groups.now)) same;
        nesting = omega (arith, found.2.1.others.nesting);
        allows = refl;
      },
    )

pub returns-in_err-class-2-clause-kind : goal.returns-in_err-class-2-clause-kind
returns-in_err-class-2-clause-kind c =
    let p = err_from_is_err_and c.from_residual-in_err-class-2.result c.from_residual-in_err-class-2.ensures.1 in
    rw (p.1, p.2) (on_kind_then c.in_err-class-2.field-0.0 (by_nesting_then (λ most. omega (arith, most, c.requires))) c.in_err-class-2.ensures.kind)

pub returns-then-class-left-clause-kind : goal.returns-then-class-left-clause-kind
returns-then-class-left-clause-kind c =
    let tables = c.args.scope.now.tables.now in
    let found = c.in_ok-class-2.ensures.value in
    rw c.rejected.ensures (inr (
      refl,
      omega (
        arith,
        c.if-class-left.true,
        found.2.1.others.nesting,
        class_set_at-nesting (table_of tables) tables.sound.lawful c.class_parameters-parameters.result (source c.args.cursor.now)
            (found.0, source c.parse_class_set.new.cursor) found.1,
      ),
    ))
