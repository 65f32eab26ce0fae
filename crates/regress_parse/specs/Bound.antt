-- An upper bound on the number of nodes of a pattern's tree, by its code points alone.
use Rattle.std.specs.Prelude.{◌≤◌, ℕ, ◌+◌, ◌*◌, Bool, not, ◌&&◌, [], ◌∷◌, drop, if◌then◌else◌}
use Rattle.regress_base.specs.Table.{Table}
use Rattle.regress_base.specs.declared.types.Flags.{Flags}
use Rattle.regress_tree.specs.Visits.{nodes}
use Rattle.regress_lexer.specs.Source.{Source, char, opening, question_mark, bar, is_at}
use Rattle.regress_syntax.specs.Syntax.{Pattern}
use Rattle.regress_parse.specs.TreeOf.{tree_of}
use Rattle.regress_lexer.specs.declared.dialect.Dialect.{Dialect}
use Rattle.regress_parse.specs.Accepted.{IsDerivedIn}

-- the sum over all positions of a source, where each is counted by the source from there on
abbrev pub total : (Source → ℕ) → Source → ℕ
total count [] = 0
total count (c ∷ t) = count (c ∷ t) + total count t

-- the number of positions at which the property holds
abbrev pub positions : (Source → Bool) → Source → ℕ
positions is_there = total (λ t. if is_there t then 1 else 0)

-- a `(?<` that neither `=` nor `!` follows
abbrev pub opens_name : Source → Bool
opens_name t =
    is_at opening t && is_at question_mark (drop 1 t) && is_at (char "<") (drop 2 t)
    && not (is_at (char "=") (drop 3 t)) && not (is_at (char "!") (drop 3 t))

-- `\k`
abbrev pub is_reference : Source → Bool
is_reference t = is_at (char "\\") t && is_at (char "k") (drop 1 t)

-- The number of nodes that the first code point makes at most, where `named` groups have a name. With the flag v a
-- class is an alternation of strings, code points and the empty string. A reference by name is one to any of the groups
-- of that name.
abbrev pub nodes_at : (sets : Bool) (named : ℕ) → Source → ℕ
nodes_at sets named t =
    if is_at bar t then 2
    else if is_at (char "[") t && sets then 5
    else if is_reference t then 2 * named + 1
    else 1

-- The bound. The tree of an empty pattern has three nodes: a `Cat` with an `Empty` and a `Goal`.
abbrev pub node_bound : (sets : Bool) → Source → ℕ
node_bound sets t = 3 + total (nodes_at sets (positions opens_name t)) t

-- Whatever the dialect and the table, the tree of a pattern that the grammar derives from the source has at most `most`
-- nodes.
abbrev pub HasAtMost : Flags → Source → ℕ → Type 0
HasAtMost flags source most =
    (dialect : Dialect) (table : Table) (p : Pattern) → IsDerivedIn dialect (record { flags = flags; table = table }) source p →
    nodes (tree_of table p) ≤ most
