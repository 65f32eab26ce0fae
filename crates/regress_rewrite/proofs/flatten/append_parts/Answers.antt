use Rattle.std.proofs.Common.{◌≡◌, ◌∙◌, [], ◌∷◌, ◌++◌, vec_len, false, rules, arith, sym, ap}
use Rattle.regress_tree.specs.declared.ir.node.Node.{the_lemmas}
use Rattle.regress_tree.specs.Tree.{tree, trees, append_trees}
use Rattle.regress_tree.specs.Shapes.{is_cat}
use Rattle.regress_tree.proofs.lemmas.Lists.{trees-append}
use Rattle.regress_rewrite.proofs.lemmas.Splicing.{parts_of-other}
use Rattle.regress_rewrite.proofs.SpliceLemmas.{parts_len-Cat, parts_of-Cat}
use Rattle.regress_rewrite.proofs.flatten.append_parts.Goals as goal

pub returns-in_err-append-in-Cat-clause-room : goal.returns-in_err-append-in-Cat-clause-room
returns-in_err-append-in-Cat-clause-room c room =
    let more = parts_len-Cat c.args.part c.in-Cat.inner c.in-Cat.is in
    absurd (omega (arith, more, room, ap vec_len c.in-Cat.inner-is, c.in_err-append-in-Cat.ensures.full))

pub returns-in_ok-append-in-Cat-clause-ok : goal.returns-in_ok-append-in-Cat-clause-ok
returns-in_ok-append-in-Cat-clause-ok c =
    let flat = c.args.flat.now.items in
    ap trees c.in_ok-append-in-Cat.ensures.items ∙ ap (λ inner. trees (flat ++ inner.items)) c.in-Cat.inner-is
    ∙ trees-append flat c.in-Cat.inner.items
    ∙ ap (append_trees (trees flat)) (sym (parts_of-Cat c.args.part c.in-Cat.inner c.in-Cat.is))

pub returns-in_ok-push-in_default : goal.returns-in_ok-push-in_default
returns-in_ok-push-in_default c =
    let flat = c.args.flat.now.items in
    let other : is_cat (tree c.args.part) ≡ false = search (rules, the_lemmas, c.in_default.not-Cat) in
    record {
      ok = ap trees c.in_ok-push-in_default.ensures.items ∙ trees-append flat (c.args.part ∷ [])
          ∙ ap (append_trees (trees flat)) (sym (parts_of-other (tree c.args.part) other));
      capacity = search rules;
      room = search rules;
    }
