-- The tree of a derived pattern has at most as many nodes as its source is counted for.
use Rattle.std.proofs.Common.{◌≡◌, ℕ, ◌+◌, ◌≤◌, Bool, List, [], ◌∷◌, length, Option, Some, None, refl, sym, ap, ◌∙◌, subst, arith}
use Rattle.std.proofs.lemmas.Option.{none-some}
use Rattle.regress_base.specs.Table.{Table}
use Rattle.regress_base.specs.declared.types.Quantifier.{Quantifier}
use Rattle.regress_tree.specs.Reading.{Direction}
use Rattle.regress_tree.specs.Tree.{Tree, Trees, no_trees, more_trees}
use Rattle.regress_tree.specs.Visits.{nodes, nodes_in_list}
use Rattle.regress_lexer.specs.Source.{Source, closing, bar}
use Rattle.regress_syntax.specs.Syntax.{Name, Atom, Group, grouping, modified, capture, look, Pattern, Terms, Item, one, either, no_terms, more_terms, atom, group, opened_by, counts_of_terms, counts_of_item, counts_of_term, direction_of_group, groups_named}
use Rattle.regress_syntax.specs.Productions.{Context, context_inside, single, opens, head_of_item, allows, head_at, optional_quantifier_at}
use Rattle.regress_syntax.specs.Grammar.{IsPattern, AreTerms, IsItem}
use Rattle.regress_syntax.proofs.lemmas.Productions.{head_at-ends, head_at-shortens, optional_quantifier_at-ends}
use Rattle.regress_syntax.proofs.lemmas.Lengths.{optional_quantifier_at-takes}
use Rattle.regress_parse.specs.TreeOf.{concatenation, tree_of_group, tree_of_quantified, tree_of_atom, tree_of_pattern, trees_of_terms, tree_of_item}
use Rattle.regress_parse.proofs.NodesOfLists.{nodes-reversed}
use Rattle.regress_parse.specs.Bound.{total, nodes_at}
use Rattle.regress_parse.proofs.BoundOfSource.{total-after, after_first, nodes-shorter}
use Rattle.regress_parse.proofs.BoundOfHead.{head_by-fits, AtMost, atom_by-nodes}

-- ---- trees

nodes-joined : (d : Direction) (ts : Trees) → nodes (concatenation d ts) ≤ 1 + nodes_in_list ts
nodes-joined d no_trees = omega arith
nodes-joined d (more_trees t no_trees) = omega arith
nodes-joined d (more_trees t (more_trees u us)) = omega (arith, nodes-reversed d (more_trees t (more_trees u us)))

nodes-group : (start end : ℕ) (kind : Group) (body : Tree) → nodes (tree_of_group start end kind body) ≤ 1 + nodes body
nodes-group start end grouping body = omega arith
nodes-group start end (modified change) body = omega arith
nodes-group start end (capture name) body = omega arith
nodes-group start end (look negate direction) body = omega arith

-- ---- the grammar

-- what the productions depend on in the context
abbrev reported : Context → Bool × List (Option Name)
reported ctx = (ctx.setting.flags.unicode_sets, ctx.names)

-- A group changes neither the flag v nor the names.
same_scan_inputs : (kind : Group) (ctx : Context) → reported (context_inside kind ctx) ≡ reported ctx
same_scan_inputs grouping ctx = refl
same_scan_inputs (modified change) ctx = refl
same_scan_inputs (capture name) ctx = refl
same_scan_inputs (look negate direction) ctx = refl

-- the count of a source in which at most `most` groups share a name
abbrev counted : (most : ℕ) → Bool → Source → ℕ
counted most sets = total (nodes_at sets most)

abbrev Few : (most : ℕ) → List (Option Name) → Type 0
Few most names = (name : Name) → length (groups_named name 1 names) ≤ most

atom-nodes : (table : Table) (most : ℕ) (ctx : Context) (a : Atom) (t rest : Source) → Few most ctx.names → head_at ctx t ≡ Some (single a, rest) →
    nodes (tree_of_atom table ctx.names a) + counted most ctx.setting.flags.unicode_sets rest ≤ counted most ctx.setting.flags.unicode_sets t
unfolding head_at
atom-nodes table most ctx a [] rest few e = absurd (none-some _ e)
atom-nodes table most ctx a (c ∷ t) rest few e =
    let sets = ctx.setting.flags.unicode_sets in
    let fits = head_by-fits ctx (AtMost table ctx most few (nodes_at sets most (c ∷ t))) c t (atom_by-nodes table ctx most few c t) in
    let after = after_first c t rest ((head_at-ends ctx (c ∷ t)).each (single a, rest) e) (head_at-shortens ctx (c ∷ t) (single a, rest) e) in
    omega (arith, fits.each (single a, rest) e, total-after (nodes_at sets most) t rest after)

times-nodes : (most : ℕ) (ctx : Context) (allowed sets : Bool) (q : Option Quantifier) (start end : ℕ) (body : Tree) (t rest : Source) →
    optional_quantifier_at ctx allowed t ≡ Some (q, rest) → nodes (tree_of_quantified q start end body) + counted most sets rest ≤ nodes body + counted most sets t
times-nodes most ctx allowed sets None start end body t rest e =
    omega (arith, total-after (nodes_at sets most) t rest ((optional_quantifier_at-ends ctx allowed t).each (None, rest) e))
times-nodes most ctx allowed sets (Some q) start end body t rest e =
    omega (arith, nodes-shorter sets most t rest ((optional_quantifier_at-ends ctx allowed t).each (Some q, rest) e) (optional_quantifier_at-takes ctx allowed t q rest e))

module _ (table : Table) (most : ℕ) (by : Bool × List (Option Name)) (few : Few most by.1) where
  mutual
    pub pattern-nodes : (ctx : Context) (d : Direction) (n : ℕ) (p : Pattern) (t rest : Source) → reported ctx ≡ by → IsPattern ctx p t rest →
        nodes (tree_of_pattern table by.1 d n p) + counted most by.0 rest ≤ 1 + counted most by.0 t
    pattern-nodes ctx d n (one ts) t rest same h =
        omega (arith, nodes-joined d (trees_of_terms table by.1 d n ts), terms-nodes ctx d n ts t rest same h.0)
    pattern-nodes ctx d n (either ts p) t rest same (mid, first, others) =
        omega (
          arith,
          nodes-joined d (trees_of_terms table by.1 d n ts),
          terms-nodes ctx d n ts t (bar ∷ mid) same first,
          pattern-nodes ctx d (n + (counts_of_terms ts).groups) p mid rest same others,
        )

    terms-nodes : (ctx : Context) (d : Direction) (n : ℕ) (ts : Terms) (t rest : Source) → reported ctx ≡ by → AreTerms ctx ts t rest →
        nodes_in_list (trees_of_terms table by.1 d n ts) + counted most by.0 rest ≤ counted most by.0 t
    terms-nodes ctx d n no_terms t rest same h = omega (arith, ap (counted most by.0) h.1)
    terms-nodes ctx d n (more_terms x q xs) t rest same (mid, after, first, times, others) =
        let allowed = allows ctx (head_of_item x) in
        omega (
          arith,
          item-nodes ctx d n x t mid same first,
          times-nodes most ctx allowed by.0 q n (n + (counts_of_item x).groups) (tree_of_item table by.1 d n x) mid after times,
          terms-nodes ctx d (n + (counts_of_term x q).groups) xs after rest same others,
        )

    item-nodes : (ctx : Context) (d : Direction) (n : ℕ) (x : Item) (t rest : Source) → reported ctx ≡ by → IsItem ctx x t rest →
        nodes (tree_of_item table by.1 d n x) + counted most by.0 rest ≤ counted most by.0 t
    item-nodes ctx d n (atom a) t rest same h =
        let few_here : Few most ctx.names = subst (λ (u : Bool × List (Option Name)). Few most u.1) (sym same) few in
        subst (λ (u : Bool × List (Option Name)). nodes (tree_of_atom table u.1 a) + counted most u.0 rest ≤ counted most u.0 t) same
        (atom-nodes table most ctx a t rest few_here h)
    item-nodes ctx d n (group kind p) t rest same (mid, head, body) =
        let inside = direction_of_group kind d in
        let first = n + opened_by kind in
        omega (
          arith,
          nodes-group n (n + (counts_of_item (group kind p)).groups) kind (tree_of_pattern table by.1 inside first p),
          nodes-shorter by.0 most t mid ((head_at-ends ctx t).each (opens kind, mid) head) (head_at-shortens ctx t (opens kind, mid) head),
          pattern-nodes (context_inside kind ctx) inside first p mid (closing ∷ rest) (same_scan_inputs kind ctx ∙ same) body,
        )
