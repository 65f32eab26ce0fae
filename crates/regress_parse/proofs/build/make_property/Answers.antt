-- With the flag i, the complement is closed as a set of its own.
use Rattle.std.proofs.Common.{◌≡◌, ◌&&◌, List, refl, ap, ap₂, sym, subst, ◌∙◌}
use Rattle.std.specs.Result.{IfOk}
use Rattle.std.proofs.lemmas.Bool.{cond-true}
use Rattle.regress_base.specs.Intervals.{Bounds, is_member}
use Rattle.regress_unicode.specs.TableOf.{table_of}
use Rattle.regress_tree.specs.Tree.{tree}
use Rattle.regress_classes.specs.ClassProductions.{complement}
use Rattle.regress_classes.proofs.lemmas.Values.{complement_is}
use Rattle.regress_syntax.specs.Syntax.{Atom}
use Rattle.regress_syntax.specs.Views.{names_in}
use Rattle.regress_parse.specs.TreeOf.{tree_of_atom}
use Rattle.regress_parse.proofs.build.make_property.Goals as goal

pub returns-then-complements_first : goal.returns-then-complements_first
returns-then-complements_first c =
    let members = c.args.set in
    let scope = c.args.scope.now in
    let others = c.in_ok-inverted in
    subst
    (λ (a : Atom). IfOk c.make_set.result (λ node. tree node ≡ tree_of_atom (table_of scope.tables.now) (names_in scope.groups.now) a))
    (sym (cond-true _ _ _ (ap₂ (λ a b. a && b) c.if-negated.true (sym c.complements_first.ensures ∙ c.if-complements_first.true))))
    (c.make_set.ensures (complement members) (record {
      canonical = others.ensures.canonical;
      each = λ n. ap (λ (l : List Bounds). is_member l n)
          (complement_is members members others.field-0 (λ _. refl) others.ensures.members others.ensures.canonical);
    }))
