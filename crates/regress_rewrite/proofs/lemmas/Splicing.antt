-- Lists of parts: spliced, appended and counted.
use Rattle.std.proofs.Common.{◌≡◌, ◌+◌, false, List, [], ◌∷◌, map, length, refl, sym, ap, ap₂, true≢false, ◌∙◌, arith}
use Rattle.std.proofs.lemmas.Bool.{or_parts}
use Rattle.std.proofs.lemmas.List.{length-map}
use Rattle.regress_tree.specs.declared.ir.node.Node.{Node}
use Rattle.regress_tree.specs.Tree.{Tree, Trees, leaf, cat, alt, wrapped, no_trees, more_trees, list, append_trees, tree, trees}
use Rattle.regress_tree.specs.Shapes.{is_cat, has_cat}
use Rattle.regress_tree.proofs.lemmas.Lists.{append_trees-assoc}
use Rattle.regress_rewrite.specs.Splice.{parts_of, spliced, list_length}

pub spliced-append : (ts us : Trees) → spliced (append_trees ts us) ≡ append_trees (spliced ts) (spliced us)
spliced-append no_trees us = refl
spliced-append (more_trees t ts) us =
    ap (append_trees (parts_of t)) (spliced-append ts us) ∙ sym (append_trees-assoc (parts_of t) (spliced ts) (spliced us))

pub list_length-append : (ts us : Trees) → list_length (append_trees ts us) ≡ list_length ts + list_length us
list_length-append no_trees us = omega arith
list_length-append (more_trees t ts) us = omega (arith, list_length-append ts us)

list_length-list : (ts : List Tree) → list_length (list ts) ≡ length ts
list_length-list [] = refl
list_length-list (t ∷ ts) = omega (arith, list_length-list ts)

pub list_length-trees : (nodes : List Node) → list_length (trees nodes) ≡ length nodes
list_length-trees nodes = list_length-list (map tree nodes) ∙ length-map nodes tree

pub parts_of-other : (t : Tree) → is_cat t ≡ false → parts_of t ≡ more_trees t no_trees
parts_of-other (leaf l) other = refl
parts_of-other (cat parts) other = absurd (true≢false other)
parts_of-other (alt left right) other = refl
parts_of-other (wrapped w body) other = refl

-- splicing a list without a `Cat` changes nothing
pub spliced-same : (ts : Trees) → has_cat ts ≡ false → spliced ts ≡ ts
spliced-same no_trees none = refl
spliced-same (more_trees t ts) none =
    let both = or_parts (is_cat t) (has_cat ts) none in
    ap₂ append_trees (parts_of-other t both.0) (spliced-same ts both.1)
