-- How the parser's values relate to what the grammar derives. Of the public contracts only those on atoms cite this.
use Rattle.std.specs.Prelude.{◌≡◌, ◌⊎◌, ℕ, ◌+◌, ◌-◌, ◌<◌, ◌≤◌, Bool, not, ◌&&◌, ◌||◌, List, [], ◌∷◌, ◌++◌, drop, length, Option, Some, None, IfSome, string_bytes, Result, Ok, Err}
use Rattle.std.specs.Option.{IsSomeAnd}
use Rattle.regress_tree.specs.declared.ir.node.Node.{Node}
use Rattle.regress_tree.specs.Reading.{Direction, forwards, direction_if}
use Rattle.regress_base.specs.Table.{Table}
use Rattle.regress_unicode.specs.TableOf.{table_of}
use Rattle.regress_tree.specs.Tree.{Tree, tree, alt}
use Rattle.regress_lexer.specs.declared.dialect.Dialect.{Dialect}
use Rattle.regress_lexer.specs.Dialects.{quantifies_boundaries}
use Rattle.regress_lexer.specs.declared.fault.Fault.{Fault}
use Rattle.regress_lexer.specs.declared.fault.Fault.TheVariants.{Rejected}
use Rattle.regress_parse.specs.declared.fault.PlacedFault.{PlacedFault}
use Rattle.regress_parse.specs.declared.fault.PlacedFault.TheVariants.{Syntax, Memory}
use Rattle.regress_parse.specs.Fault.{text_of}
use Rattle.regress_lexer.specs.declared.fault.FaultKind.{FaultKind}
use Rattle.regress_lexer.specs.declared.fault.FaultKind.TheVariants.{TooManyGroups, TooManyLoops, TooDeep}
use Rattle.regress_lexer.specs.Fault.{OnRejected, OnKind}
use Rattle.regress_lexer.specs.Source.{Source, Found, char, is_at}
use Rattle.regress_syntax.specs.Syntax.{Name, Atom, Pattern, Terms, Item, atom, Counts, nothing_counted, added, counts, counts_of_terms, counts_of_term, counts_of_item, nesting, nesting_of_atom, nesting_of_terms, nesting_of_item}
use Rattle.regress_syntax.specs.Productions.{Context, atom_allows, atom_by}
use Rattle.regress_syntax.specs.Views.{names_in, context_of}
use Rattle.regress_lexer.specs.Views.{source}
use Rattle.regress_parse.specs.declared.parser.Parser.{Parser}
use Rattle.regress_parse.specs.declared.parser.PartContext.{PartContext}
use Rattle.regress_parse.specs.declared.pattern.Body.{Body}
use Rattle.regress_parse.specs.Reader.{Term, pattern_at, term_at}
use Rattle.regress_parse.specs.TreeOf.{tree_of_atom, tree_of_pattern, trees_of_terms, tree_of_item, tree_of_quantified, concatenation}
use Rattle.regress_base.specs.Limits.{max_capture_groups, max_loops, max_nesting_depth}

-- A part of the pattern: its tree in a direction after n opened groups, its counts and its nesting depth.
pub record Part : Type 0 where
  pub node : Direction → ℕ → Tree
  pub counts : Counts
  pub nesting : ℕ

module _ (table : Table) (names : List (Option Name)) where
  -- a pattern as a part
  abbrev pub pattern_part : Pattern → Part
  pattern_part p = record { node = λ d n. tree_of_pattern table names d n p; counts = counts p; nesting = nesting p }

  -- a sequence of terms as a part
  abbrev pub terms_part : Terms → Part
  terms_part ts = record {
    node = λ d n. concatenation d (trees_of_terms table names d n ts);
    counts = counts_of_terms ts;
    nesting = nesting_of_terms ts;
  }

  -- an item with its quantifier as a part
  abbrev pub term_part : Term → Part
  term_part (x, q) = record {
    node = λ d n. tree_of_quantified q n (n + (counts_of_item x).groups) (tree_of_item table names d n x);
    counts = counts_of_term x q;
    nesting = nesting_of_item x;
  }

  -- an item as a part
  abbrev pub item_part : Item → Part
  item_part x = record { node = λ d n. tree_of_item table names d n x; counts = counts_of_item x; nesting = nesting_of_item x }

-- The part keeps the limits after these counts and at this nesting depth.
pub record Fits (before : Counts) (depth : ℕ) (part : Part) : Type 0 where
  pub groups : before.groups + part.counts.groups ≤ max_capture_groups
  pub loops : before.loops + part.counts.loops ≤ max_loops
  pub nesting : depth + part.nesting ≤ max_nesting_depth

-- The part exceeds the limit that a syntax error of this kind is about, or that on nesting depth.
abbrev pub Exceeds : FaultKind → (before : Counts) → (depth : ℕ) → Part → Type 0
Exceeds kind before depth part =
    ((kind ≡ TooManyGroups) × (max_capture_groups < before.groups + part.counts.groups))
    ⊎ ((kind ≡ TooManyLoops) × (max_loops < before.loops + part.counts.loops))
    ⊎ (max_nesting_depth < depth + part.nesting)

-- With the remaining source, the counts and the nesting depth can exceed the limit that a syntax error of this kind is
-- about.
pub record Reaches (kind : FaultKind) (before : Counts) (depth : ℕ) (t : Source) : Type 0 where
  pub groups : kind ≡ TooManyGroups → max_capture_groups < before.groups + length t
  pub loops : kind ≡ TooManyLoops → max_loops < before.loops + length t
  pub nesting : kind ≡ TooDeep → max_nesting_depth < depth + length t

-- Between two positions of the source, at most as much was counted as was parsed.
pub record CountsAtMostConsumed (before now : Counts) (t rest : Source) : Type 0 where
  pub groups : now.groups + length rest ≤ before.groups + length t
  pub loops : now.loops + length rest ≤ before.loops + length t

-- the groups and loops that the parser has counted
abbrev pub counted : Parser → Counts
counted p = record { groups = p.group_count; loops = p.loop_count }

-- the remaining source
abbrev pub text : Parser → Source
text p = source p.cursor

-- the direction in which a part is matched there
abbrev pub direction_of : PartContext → Direction
direction_of around = direction_if around.backwards

-- the context of the grammar there
abbrev pub context_in : PartContext → Context
context_in around = context_of around.scope

-- the Unicode table there
abbrev pub table_in : PartContext → Table
table_in around = table_of around.scope.tables.now

-- the names of all groups of the pattern
abbrev pub names_in_context : PartContext → List (Option Name)
names_in_context around = names_in around.scope.groups.now

-- The parser has parsed the part and built its tree.
pub record Builds (d : Direction) (depth : ℕ) (before : Counts) (new : Parser) (built : Node) (part : Part) (after : Source) : Type 0 where
  pub node : tree built ≡ part.node d before.groups
  pub fits : Fits before depth part
  pub counts : counted new ≡ added before part.counts
  pub rest : text new ≡ after

-- the atom at the start of a source
abbrev pub atom_at : Context → Source → Found Atom
atom_at ctx [] = None
atom_at ctx (c ∷ t) = atom_by ctx c t

-- whether what follows a backslash is a `b` or `B` that no quantifier may follow
abbrev pub is_lone_boundary : Dialect → Source → Bool
is_lone_boundary dialect t = not (quantifies_boundaries dialect) && (is_at (char "b") t || is_at (char "B") t)

-- whether the source starts with an item that no quantifier may follow: `^` or `$`, or in some dialects `\b` or `\B`
abbrev pub begins_lone : Dialect → Source → Bool
begins_lone dialect t =
    is_at (char "^") t || is_at (char "$") t || (is_at (char "\\") t && is_lone_boundary dialect (drop 1 t))

-- The node is the tree of this atom, with classes nested at most this deep. A quantifier may follow it or not.
pub record IsNode (ctx : Context) (most : ℕ) (allowed : Bool) (built : Node) (a : Atom) : Type 0 where
  pub node : tree built ≡ tree_of_atom ctx.setting.table ctx.names a
  pub nesting : nesting_of_atom a ≤ most
  pub allows : atom_allows ctx.dialect a ≡ allowed

-- A node with this tree was added at the end of a list.
pub record Pushes (t : Tree) (old new : List Node) : Type 0 where
  pub node : Node
  pub items : new ≡ old ++ node ∷ []
  pub is : tree node ≡ t

-- The first term of the source is an item without a nested class and without a quantifier, and its node was added to
-- the list.
pub record TakesOneAtom (ctx : Context) (t rest : Source) (old new : List Node) : Type 0 where
  pub item : Atom
  pub found : term_at ctx t ≡ Some ((atom item, None), rest)
  pub flat : nesting_of_atom item ≡ 0
  pub pushed : Pushes (tree_of_atom ctx.setting.table ctx.names item) old new

-- The result of parsing an atom: its node, or an error if there is no atom or its classes nest deeper than the
-- remaining depth.
abbrev pub ReadsAtom : Context → (left : ℕ) → (allowed : Bool) → Source → Result Node Fault → Found Atom → Type 0
ReadsAtom ctx left allowed new (Ok node) found = (a : Atom) × (found ≡ Some (a, new)) × IsNode ctx left allowed node a
ReadsAtom ctx left allowed new (Err fault) found = OnRejected fault (IfSome found (λ x. left < nesting_of_atom x.0))

-- The result of a call of the parser: what the grammar derives, or an error if it derives nothing, or if that exceeds
-- the limit that the error is about or the one on nesting depth.
abbrev pub Yields : {A : Type 0} → (A → Part) → Direction → ℕ → Counts → Parser → Result Node Fault → Found A → Type 0
Yields part d depth before new (Ok node) found = IsSomeAnd found (λ x. Builds d depth before new node (part x.0) x.1)
Yields part d depth before new (Err fault) found =
    OnKind fault (λ kind. IfSome found (λ x. Exceeds kind before depth (part x.0)))

-- The result of parsing a whole source: its pattern, within the limits, or an error, as above.
abbrev pub YieldsWhole : Context → Source → Result Body Fault → Type 0
YieldsWhole ctx t (Ok body) =
    (p : Pattern) × (pattern_at ctx t ≡ Some (p, [])) × Fits nothing_counted 0 (pattern_part ctx.setting.table ctx.names p)
    × (tree body.node ≡ tree_of_pattern ctx.setting.table ctx.names forwards 0 p)
YieldsWhole ctx t (Err fault) =
    OnKind fault (λ kind. (p : Pattern) → pattern_at ctx t ≡ Some (p, []) →
    Exceeds kind nothing_counted 0 (pattern_part ctx.setting.table ctx.names p))

-- The syntax error has its kind, the text of the kind, and its position in a pattern of this length, or an allocation
-- failed.
abbrev pub HasMessageAndPosition : ℕ → Fault → PlacedFault → Type 0
HasMessageAndPosition length fault (Syntax kind e position) =
    (left : ℕ) × (fault ≡ Rejected kind left) × (string_bytes e.text ≡ text_of kind) × (position ≡ length - left) × (position ≤ length)
HasMessageAndPosition length fault (Memory e) = Unit {0}

-- alternatives before a last one, as nested `Alt` nodes
abbrev pub alternatives : List Tree → Tree → Tree
alternatives [] last = last
alternatives (t ∷ ts) last = alt t (alternatives ts last)
