use Rattle.std.proofs.Common.{◌≡◌, ◌<◌, ◌≤◌, ℕ, Bool, true, false, not, List, [], ◌∷◌, length, get_or, refl, sym, ap, subst, arith, ◌∙◌}
use Rattle.regress_lexer.specs.Dialects.{tries_references}
use Rattle.regress_tree.specs.Tree.{Tree, tree, leaf, back_ref}
use Rattle.regress_tree.proofs.lemmas.Nodes.{tree-BackRef}
use Rattle.regress_parse.specs.TreeOf.{alternation, references, tree_of_references}
use Rattle.regress_parse.proofs.build.make_references.Goals as goal

one : (joined icase : Bool) (groups : List ℕ) → 1 ≤ length groups → length groups < 2 →
    leaf (back_ref (get_or groups 0 0) icase) ≡ tree_of_references joined (references icase groups)
one joined icase [] h k = absurd (omega arith)
one true icase (group ∷ []) h k = refl
one false icase (group ∷ []) h k = refl
one joined icase (group ∷ (next ∷ groups)) h k = absurd (omega arith)

pub returns-in-len1 : goal.returns-in-len1
returns-in-len1 c =
    tree-BackRef (get_or c.args.groups.now 0 0) c.args.scope.now.flags.icase
    ∙ one (not (tries_references c.args.scope.now.dialect)) c.args.scope.now.flags.icase c.args.groups.now c.in-len1.len_at_least c.in-len1.len_below
