-- The tree of a derived pattern is well formed.
use Rattle.std.proofs.Common.{◌≡◌, ◌≢◌, ℕ, ◌+◌, ◌≤◌, Bool, true, false, cond, nat_le, List, [], ◌∷◌, length, All, IsTrue, Option, Some, None, option_map, encode_utf8_all, sym, subst, arith}
use Rattle.std.specs.Option.{IfSome}
use Rattle.std.proofs.lemmas.Bool.{leb-true}
use Rattle.std.proofs.lemmas.List.Elements.{All-nil, All-cons, All-head, All-tail, All-weaker}
use Rattle.std.proofs.lemmas.Str.{encodes_same}
use Rattle.regress_base.specs.Intervals.{intervals_of}
use Rattle.regress_base.specs.Limits.{max_char_set_length}
use Rattle.regress_base.proofs.lemmas.Sets.{intervals_of-canonical}
use Rattle.regress_base.specs.declared.types.Quantifier.{Quantifier}
use Rattle.regress_base.specs.Table.{class_of}
use Rattle.regress_tree.specs.Reading.{Direction, forwards, backwards}
use Rattle.regress_base.specs.Table.{Table, IsValidTable}
use Rattle.regress_tree.specs.Tree.{list, Tree, Trees, no_trees, more_trees, char, match_any, match_any_except_line_terminator, bracket, back_ref, string_set}
use Rattle.regress_tree.specs.Steps.{Setting}
use Rattle.regress_tree.specs.WellFormed.{inside, LeafIsAllowed, IsQuantifier, HasGroups, IsAllowed, PartsAllowed, IsWellFormed, captures}
use Rattle.regress_base.proofs.lemmas.Literals.{class_of-bounded, class_of-few}
use Rattle.regress_tree.proofs.lemmas.ReversedParts.{PartsAllowed-reverse_trees}
use Rattle.regress_classes.specs.ClassProductions.{members_of}
use Rattle.regress_classes.specs.ClassSets.{Value}
use Rattle.regress_lexer.specs.declared.dialect.Dialect.{Dialect}
use Rattle.regress_lexer.specs.Source.{Source, IsCodePoint}
use Rattle.regress_syntax.specs.Syntax.{Name, is_named, Target, by_number, by_name, by_name_if_set, is_joined, Atom, literal, dot, anchor, boundary, class_escape, class, class_set, string_property, back_reference, Group, grouping, modified, capture, look, Pattern, Terms, Item, one, either, no_terms, more_terms, atom, group, opened_by, counts, counts_of_terms, counts_of_term, counts_of_item, names, direction_of_group, groups_named}
use Rattle.regress_syntax.specs.Meaning.{is_in_class, longest_first, referred}
use Rattle.regress_syntax.specs.Productions.{Context, single, opens, context_inside, head_of_item, allows, optional_quantifier_at}
use Rattle.regress_syntax.specs.Grammar.{IsPattern, AreTerms, IsItem}
use Rattle.regress_classes.proofs.lemmas.ClassStrings.{OfCodePoints}
use Rattle.regress_syntax.proofs.lemmas.NameEnds.{IsName}
use Rattle.regress_syntax.proofs.lemmas.Productions.{head_at-ends, optional_quantifier_at-ends, optional_quantifier_at-ordered}
use Rattle.regress_parse.specs.TreeOf.{concatenation, tree_of_group, tree_of_quantified, leaf_of_members, references, alternation, tree_of_references, tree_of_class, tree_of_atom, tree_of_pattern, trees_of_terms, tree_of_item, tree_of, in_direction}
use Rattle.regress_parse.specs.Accepted.{IsDerivedIn, own_context_in}
use Rattle.regress_parse.proofs.CodePointLemmas.{AreCodePoints, rest_of, after_found, IsGoodTarget, IsGoodAtom, IsGoodGroup, head_at-good}
use Rattle.regress_parse.specs.ClassParts.{class_parts}
use Rattle.regress_parse.proofs.ClassTreeLemmas.{tree_of_class-parts}
use Rattle.regress_parse.proofs.PartLemmas.{alternation-has, joined-has, references-have, class_parts-have}
use Rattle.regress_parse.proofs.StringLemmas.{All-longest_first}
use Rattle.regress_parse.proofs.GroupLemmas.{length-names, HasGroups-tree_of_item, HasGroups-tree_of_pattern, length-captures-tree_of, count_id-tree_of}

-- ---- the tree of an item, in a pattern of m groups

-- The encoding of a nonempty name is not empty.
named_by_bytes : (name : Option Name) → IfSome name IsName → IfSome (option_map encode_utf8_all name) (λ bytes. bytes ≢ [])
named_by_bytes None h = tt
named_by_bytes (Some name) h = λ e. h.some (encodes_same name [] e)

ordered_times : (least : ℕ) (most : Option ℕ) → IsTrue (elim most as (λ _. Bool) [ None ↦ true | Some m ↦ nat_le least m ]) →
    IfSome most (λ m. least ≤ m)
ordered_times least None h = tt
ordered_times least (Some most) h = leb-true least most h

module _ (m : ℕ) where
  abbrev IsGroup : ℕ → Type 0
  IsGroup k = (1 ≤ k) × (k ≤ m)

  one_more_group : (b : Bool) (k : ℕ) (ks : List ℕ) → IsGroup k → All IsGroup ks → All IsGroup (cond b (k ∷ ks) ks)
  one_more_group true k ks h hs = All-cons IsGroup k ks h hs
  one_more_group false k ks h hs = hs

  named_are_groups : (name : Name) (n : ℕ) (all : List (Option Name)) → 1 ≤ n → n + length all ≤ m + 1 → All IsGroup (groups_named name n all)
  named_are_groups name n [] some few = All-nil IsGroup
  named_are_groups name n (other ∷ all) some few =
      one_more_group (is_named name other) n (groups_named name (n + 1) all) (some, omega arith)
      (named_are_groups name (n + 1) all (omega arith) (omega arith))

  referred_are_groups : (all : List (Option Name)) (to : Target) → length all ≤ m → IsGoodTarget m to → All IsGroup (referred all to)
  referred_are_groups all (by_number k) few h = All-cons IsGroup k [] h (All-nil IsGroup)
  referred_are_groups all (by_name name) few h = named_are_groups name 1 all (omega arith) (omega arith)
  referred_are_groups all (by_name_if_set name) few h = named_are_groups name 1 all (omega arith) (omega arith)

  alternation_may_occur : (ts : List Tree) → All (λ t. IsAllowed m t inside) ts → IsAllowed m (alternation ts) inside
  alternation_may_occur =
      alternation-has (λ t. IsAllowed m t inside) (record { bounded = All-nil _; small = omega arith; some = tt }) (λ t u h k. (tt, h, k))

  parts_may_occur : (ts : List Tree) → All (λ t. IsAllowed m t inside) ts → PartsAllowed m (list ts) inside
  parts_may_occur [] h = tt
  parts_may_occur (t ∷ []) h = All-head (λ t. IsAllowed m t inside) t [] h
  parts_may_occur (t ∷ next ∷ ts) h = (
    All-head (λ t. IsAllowed m t inside) t (next ∷ ts) h,
    parts_may_occur (next ∷ ts) (All-tail (λ t. IsAllowed m t inside) t (next ∷ ts) h),
  )

  joined_may_occur : (ts : List Tree) → All (λ t. IsAllowed m t inside) ts → IsAllowed m (concatenation forwards (list ts)) inside
  joined_may_occur = joined-has (λ t. IsAllowed m t inside) tt (λ ts h. (tt, parts_may_occur ts h))

  references_may_occur : (joined icase : Bool) (ks : List ℕ) → All IsGroup ks →
      IsAllowed m (tree_of_references joined (references icase ks)) inside
  references_may_occur joined icase ks h =
      let each =
      references-have (λ t. IsAllowed m t inside) icase ks
      (All-weaker IsGroup (λ k. LeafIsAllowed m (back_ref k icase) inside) (λ k is. record { free = tt; low = is.0; high = is.1 }) ks h) in
      by joined each
    where
      by : (b : Bool) → All (λ t. IsAllowed m t inside) (references icase ks) → IsAllowed m (tree_of_references b (references icase ks)) inside
      by true each = joined_may_occur (references icase ks) each
      by false each = alternation_may_occur (references icase ks) each

  dot_may_occur : (dot_all : Bool) → LeafIsAllowed m (cond dot_all match_any match_any_except_line_terminator) inside
  dot_may_occur true = tt
  dot_may_occur false = tt

  members_may_occur : (members : List ℕ) → All IsCodePoint members → length members ≤ max_char_set_length →
      LeafIsAllowed m (leaf_of_members members) inside
  members_may_occur [] bounded small = record { bounded = bounded; small = small; some = tt }
  members_may_occur (c ∷ []) bounded small = All-head IsCodePoint c [] bounded
  members_may_occur (c ∷ d ∷ rest) bounded small = record { bounded = bounded; small = small; some = tt }

  bracket_may_occur : (inverted : Bool) (p : ℕ → Bool) → LeafIsAllowed m (bracket inverted (intervals_of p)) inside
  bracket_may_occur inverted p = record { canonical = intervals_of-canonical p; some = tt }

  -- ---- strings

  strings_may_occur : (icase : Bool) (strings : List (List ℕ)) → OfCodePoints strings → LeafIsAllowed m (string_set strings icase) inside
  strings_may_occur icase strings bounded = record { free = tt; bounded = bounded }

  class_set_may_occur : (icase negated : Bool) (p : ℕ → Bool) (value : Value) → OfCodePoints value.strings →
      IsAllowed m (tree_of_class icase negated value (intervals_of p)) inside
  class_set_may_occur icase negated p value bounded =
      subst (λ t. IsAllowed m t inside) (sym (tree_of_class-parts icase negated value (intervals_of p)))
      (alternation_may_occur (class_parts icase negated value (intervals_of p))
      (class_parts-have (λ t. IsAllowed m t inside) icase negated value (intervals_of p)
      (strings_may_occur icase (longest_first value.strings) (All-longest_first (All IsCodePoint) value.strings bounded))
      (bracket_may_occur negated p) tt))

module _ (m : ℕ) (table : Table) (lawful : IsValidTable table) where
  literal_may_occur : (icase unicode : Bool) (c : ℕ) → IsCodePoint c →
      LeafIsAllowed m (cond icase (leaf_of_members (class_of table true unicode c)) (char c)) inside
  literal_may_occur true unicode c h =
      members_may_occur m (class_of table true unicode c) (class_of-bounded table true unicode c) (class_of-few table true unicode c lawful h)
  literal_may_occur false unicode c h = h

  atom_may_occur : (all : List (Option Name)) (a : Atom) → length all ≤ m → IsGoodAtom m a → IsAllowed m (tree_of_atom table all a) inside
  atom_may_occur all (literal flags c) few h = literal_may_occur flags.icase flags.unicode c h
  atom_may_occur all (dot flags) few h = dot_may_occur m flags.dot_all
  atom_may_occur all (anchor flags kind) few h = tt
  atom_may_occur all (boundary flags inverted) few h = tt
  atom_may_occur all (class_escape flags kind negated) few h = bracket_may_occur m false (is_in_class table flags negated (members_of kind))
  atom_may_occur all (class flags inverted members) few h = bracket_may_occur m inverted (is_in_class table flags false members)
  atom_may_occur all (class_set flags negated value) few h =
      class_set_may_occur m flags.icase negated (is_in_class table flags false value.members) value h
  atom_may_occur all (string_property flags written) few h = strings_may_occur m flags.icase written h
  atom_may_occur all (back_reference flags to) few h =
      references_may_occur m (is_joined to) flags.icase (referred all to) (referred_are_groups m all to few h)

-- ---- parts of a tree of m groups

module _ (m : ℕ) where
  occurs-reversed : (d : Direction) (ts : Trees) → PartsAllowed m ts inside → PartsAllowed m (in_direction d ts) inside
  occurs-reversed forwards ts h = h
  occurs-reversed backwards ts h = PartsAllowed-reverse_trees m ts h

  occurs-joined : (d : Direction) (list : Trees) → PartsAllowed m list inside → IsAllowed m (concatenation d list) inside
  occurs-joined d no_trees h = tt
  occurs-joined d (more_trees t no_trees) h = h
  occurs-joined d (more_trees t (more_trees u us)) h = (tt, occurs-reversed d (more_trees t (more_trees u us)) h)

  occurs-more : (t : Tree) (ts : Trees) → IsAllowed m t inside → PartsAllowed m ts inside → PartsAllowed m (more_trees t ts) inside
  occurs-more t no_trees ht hts = ht
  occurs-more t (more_trees u us) ht hts = (ht, hts)

  occurs-tree_of_group : (start end : ℕ) (kind : Group) (body : Tree) → start + opened_by kind ≤ m → IsGoodGroup kind →
      HasGroups (start + opened_by kind) end body → IsAllowed m body inside → IsAllowed m (tree_of_group start end kind body) inside
  occurs-tree_of_group start end grouping body low good groups h = h
  occurs-tree_of_group start end (modified change) body low good groups h = h
  occurs-tree_of_group start end (capture name) body low good groups h = (tt, (omega arith, named_by_bytes name good), h)
  occurs-tree_of_group start end (look negate direction) body low good groups h =
      let same : start + 0 ≡ start = omega arith in (tt, subst (λ k. HasGroups k end body) same groups, h)

  occurs-tree_of_quantified : (q : Option Quantifier) (start end : ℕ) (body : Tree) → IfSome q IsQuantifier → HasGroups start end body →
      IsAllowed m body inside → IsAllowed m (tree_of_quantified q start end body) inside
  occurs-tree_of_quantified None start end body good groups h = h
  occurs-tree_of_quantified (Some q) start end body good groups h = (tt, (good, groups), h)

-- ---- the tree of a derived pattern

-- A parsed quantifier has a maximum of at least its minimum.
optional_quantifier_at-good : (ctx : Context) (allowed : Bool) (t : Source) (q : Option Quantifier) (rest : Source) →
    optional_quantifier_at ctx allowed t ≡ Some (q, rest) → IfSome q IsQuantifier
optional_quantifier_at-good ctx allowed t None rest e = tt
optional_quantifier_at-good ctx allowed t (Some q) rest e = ordered_times q.min q.max (optional_quantifier_at-ordered ctx allowed t q rest e).1

-- The context has a lawful table, and at most m groups.
record IsKnown (m : ℕ) (ctx : Context) : Type 0 where
  lawful : IsValidTable ctx.setting.table
  groups : ctx.groups ≤ m

-- The context inside a group has them too.
known_inside : (m : ℕ) (kind : Group) (ctx : Context) → IsKnown m ctx → IsKnown m (context_inside kind ctx)
known_inside m grouping ctx h = h
known_inside m (modified change) ctx h = record { lawful = h.lawful; groups = h.groups }
known_inside m (capture name) ctx h = h
known_inside m (look negate direction) ctx h = h

-- The pattern has m groups at most, with the names in `all`.
module _ (m : ℕ) (table : Table) (lawful : IsValidTable table) (all : List (Option Name)) (few : length all ≤ m) where
  mutual
    -- The tree of the pattern is valid, and what follows the pattern consists of code points.
    pattern_occurs : (ctx : Context) (d : Direction) (n : ℕ) (p : Pattern) (t rest : Source) → IsKnown m ctx → n + (counts p).groups ≤ m →
        AreCodePoints t → IsPattern ctx p t rest → IsAllowed m (tree_of_pattern table all d n p) inside × AreCodePoints rest
    pattern_occurs ctx d n (one ts) t rest known h points derived =
        let list = terms_occur ctx d n ts t rest known h points derived.0 in
        (occurs-joined m d (trees_of_terms table all d n ts) list.0, list.1)
    pattern_occurs ctx d n (either ts p) t rest known h points derived =
        let list = terms_occur ctx d n ts t _ known (omega arith) points derived.1 in
        let others = pattern_occurs ctx d (n + (counts_of_terms ts).groups) p derived.0 rest known (omega arith) (rest_of list.1) derived.2 in
        ((tt, occurs-joined m d (trees_of_terms table all d n ts) list.0, others.0), others.1)

    terms_occur : (ctx : Context) (d : Direction) (n : ℕ) (ts : Terms) (t rest : Source) → IsKnown m ctx →
        n + (counts_of_terms ts).groups ≤ m → AreCodePoints t → AreTerms ctx ts t rest →
        PartsAllowed m (trees_of_terms table all d n ts) inside × AreCodePoints rest
    terms_occur ctx d n no_terms t rest known h points derived = (tt, subst AreCodePoints derived.1 points)
    terms_occur ctx d n (more_terms x q xs) t rest known h points derived =
        let allowed = allows ctx (head_of_item x) in
        let first = item_occurs ctx d n x t derived.0 known (omega arith) points derived.2 in
        let next = after_found _ derived.0 (q, derived.1) (optional_quantifier_at-ends ctx allowed derived.0) derived.3 first.1 in
        let others = terms_occur ctx d (n + (counts_of_term x q).groups) xs derived.1 rest known (omega arith) next derived.4 in
        let list = trees_of_terms table all d (n + (counts_of_term x q).groups) xs in
        let one = occurs-tree_of_quantified m q n (n + (counts_of_item x).groups) (tree_of_item table all d n x)
        (optional_quantifier_at-good ctx allowed derived.0 q derived.1 derived.3) (HasGroups-tree_of_item table all d n x) first.0 in
        (occurs-more m _ list one others.0, others.1)

    item_occurs : (ctx : Context) (d : Direction) (n : ℕ) (x : Item) (t rest : Source) → IsKnown m ctx →
        n + (counts_of_item x).groups ≤ m → AreCodePoints t → IsItem ctx x t rest →
        IsAllowed m (tree_of_item table all d n x) inside × AreCodePoints rest
    item_occurs ctx d n (atom a) t rest known h points derived =
        let good = (head_at-good ctx known.lawful m known.groups t points).each (single a, rest) derived in
        (atom_may_occur m table lawful all a few good, after_found _ t (single a, rest) (head_at-ends ctx t) derived points)
    item_occurs ctx d n (group kind p) t rest known h points derived =
        let good = (head_at-good ctx known.lawful m known.groups t points).each (opens kind, derived.0) derived.1 in
        let next = after_found _ t (opens kind, derived.0) (head_at-ends ctx t) derived.1 points in
        let inner = direction_of_group kind d in
        let tree = tree_of_pattern table all inner (n + opened_by kind) p in
        let body = pattern_occurs (context_inside kind ctx) inner (n + opened_by kind) p derived.0 _ (known_inside m kind ctx known)
        (omega arith) next derived.2 in
        let end : n + opened_by kind + (counts p).groups ≡ n + (counts_of_item (group kind p)).groups = omega arith in
        let groups = subst (λ k. HasGroups (n + opened_by kind) k tree) end (HasGroups-tree_of_pattern table all inner (n + opened_by kind) p) in
        (occurs-tree_of_group m n (n + (counts_of_item (group kind p)).groups) kind tree (omega arith) good groups body.0, rest_of body.1)

-- The tree of a derived pattern is well formed: the ids are 0 up to the number of groups, each once; a loop and a
-- lookaround have the range of the ids inside; references are to existing groups; literals and members of classes are
-- code points; no name is empty; and the goal is last.
pub tree_of-well_formed : (dialect : Dialect) (setting : Setting) (source : Source) (p : Pattern) → IsValidTable setting.table → All IsCodePoint source →
    IsDerivedIn dialect setting source p → IsWellFormed (tree_of setting.table p)
tree_of-well_formed dialect setting source p lawful points derived =
    let m = length (captures (tree_of setting.table p)) in
    let known : (counts p).groups ≤ m = omega (arith, length-captures-tree_of setting.table p) in
    let few : length (names p) ≤ m = omega (arith, known, length-names p) in
    let body = pattern_occurs m setting.table lawful (names p) few (own_context_in dialect setting p) forwards 0 p source []
    (record { lawful = lawful; groups = known }) (omega (arith, known))
    (record { each = points }) derived in
    record {
      occurs = (tt, (body.0, tt));
      ids = count_id-tree_of setting.table p;
    }
