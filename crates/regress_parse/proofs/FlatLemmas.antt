-- The tree of an item without a body is flat; its number of nodes.
use Rattle.std.proofs.Common.{◌≡◌, ℕ, suc, ◌+◌, Bool, true, false, cond, not, ◌||◌, ◌==◌, List, [], ◌∷◌, ◌++◌, length, refl, replicate, Option, sym, ap, ◌∙◌, arith}
use Rattle.std.proofs.lemmas.List.{append_assoc}
use Rattle.regress_base.specs.Intervals.{intervals_of}
use Rattle.regress_base.specs.Table.{Table}
use Rattle.regress_tree.specs.Reading.{forwards}
use Rattle.regress_tree.specs.Tree.{list, Leaf, Tree, leaf, alt, cat, wrapped, empty, bracket, string_set}
use Rattle.regress_tree.specs.Visits.{nodes, nodes_in_list}
use Rattle.regress_syntax.specs.Syntax.{Name, Atom, literal, dot, anchor, boundary, class_escape, class, class_set, string_property, back_reference, is_joined}
use Rattle.regress_syntax.specs.Meaning.{is_in_class, longest_first, referred}
use Rattle.regress_parse.specs.TreeOf.{alternation, concatenation, references, tree_of_references, or_empty, strings_or_points, tree_of_class, tree_of_atom}
use Rattle.regress_parse.specs.declared.span.Span.{Span}
use Rattle.regress_parse.specs.Recorded.{AreLeaves, IsChain, IsFlat}

chain-flat : (t : Tree) → IsChain t → IsFlat t
chain-flat (leaf l) h = h
chain-flat (cat parts) h = absurd h
chain-flat (alt left right) h = h
chain-flat (wrapped w body) h = h

references-chain : (icase : Bool) (groups : List ℕ) → IsChain (alternation (references icase groups))
references-chain icase [] = tt
references-chain icase (k ∷ []) = tt
references-chain icase (k ∷ next ∷ ks) = references-chain icase (next ∷ ks)

leaves-of_references : (icase : Bool) (groups : List ℕ) → AreLeaves (list (references icase groups))
leaves-of_references icase [] = tt
leaves-of_references icase (k ∷ ks) = leaves-of_references icase ks

joined-flat : (icase : Bool) (groups : List ℕ) → IsFlat (concatenation forwards (list (references icase groups)))
joined-flat icase [] = tt
joined-flat icase (k ∷ []) = tt
joined-flat icase (k ∷ next ∷ ks) = leaves-of_references icase ks

references-flat : (joined icase : Bool) (groups : List ℕ) → IsFlat (tree_of_references joined (references icase groups))
references-flat true icase groups = joined-flat icase groups
references-flat false icase groups = chain-flat (alternation (references icase groups)) (references-chain icase groups)

-- A list of leaves has a node for each.
pub leaves-nodes : (ts : List Tree) → AreLeaves (list ts) → nodes_in_list (list ts) ≡ length ts
leaves-nodes [] h = refl
leaves-nodes (leaf l ∷ ts) h = omega (arith, leaves-nodes ts h)
leaves-nodes (cat parts ∷ ts) h = absurd h
leaves-nodes (alt a b ∷ ts) h = absurd h
leaves-nodes (wrapped w body ∷ ts) h = absurd h

or_empty-chain : (has_empty : Bool) (l : Leaf) → IsChain (or_empty has_empty (leaf l))
or_empty-chain true l = tt
or_empty-chain false l = tt

either-chain : (b : Bool) (l m : Leaf) → IsChain (cond b (leaf l) (leaf m))
either-chain true l m = tt
either-chain false l m = tt

class-chain : (has_strings has_points has_empty : Bool) (strings points : Leaf) →
    IsChain (strings_or_points has_strings has_points has_empty strings points)
class-chain false false has_empty strings points = either-chain has_empty empty points
class-chain false true has_empty strings points = or_empty-chain has_empty points
class-chain true false has_empty strings points = or_empty-chain has_empty strings
class-chain true true has_empty strings points = or_empty-chain has_empty points

pub atom-flat : (table : Table) (names : List (Option Name)) (a : Atom) → IsFlat (tree_of_atom table names a)
atom-flat table names (literal flags c) = tt
atom-flat table names (dot flags) = tt
atom-flat table names (anchor flags kind) = tt
atom-flat table names (boundary flags inverted) = tt
atom-flat table names (class_escape flags kind negated) = tt
atom-flat table names (class flags inverted members) = tt
atom-flat table names (class_set flags negated value) =
    let closed = intervals_of (is_in_class table flags false value.members) in
    chain-flat (tree_of_class flags.icase negated value closed)
    (class-chain (not (length value.strings == 0)) (negated || not (length closed == 0)) value.has_empty
    (string_set (longest_first value.strings) flags.icase) (bracket negated closed))
atom-flat table names (string_property flags written) = tt
atom-flat table names (back_reference flags to) = references-flat (is_joined to) flags.icase (referred names to)

-- The nodes of a chain: itself, its left side, and the nodes of its right side.
pub chain-alt : (left right : Tree) (now : List Span) (s : Span) → IsChain (alt left right) →
    IsChain right × (now ++ replicate (nodes (alt left right)) s ≡ now ++ s ∷ [] ++ s ∷ [] ++ replicate (nodes right) s)
chain-alt (leaf l) right now s flat =
    (flat, by (1 + (1 + nodes right)) (omega arith))
  where
    by : (n : ℕ) → n ≡ suc (suc (nodes right)) → now ++ replicate n s ≡ now ++ s ∷ [] ++ s ∷ [] ++ replicate (nodes right) s
    by n e =
        ap (λ m. now ++ replicate m s) e
        ∙ sym (append_assoc (now ++ s ∷ []) (s ∷ []) (replicate (nodes right) s) ∙ append_assoc now (s ∷ []) (s ∷ replicate (nodes right) s))
chain-alt (cat parts) right now s flat = absurd flat
chain-alt (alt a b) right now s flat = absurd flat
chain-alt (wrapped w body) right now s flat = absurd flat
