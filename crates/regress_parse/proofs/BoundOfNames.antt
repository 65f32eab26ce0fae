-- At most as many groups have a name as there are positions at which a named group begins.
use Rattle.std.proofs.Common.{◌≡◌, ℕ, ◌+◌, ◌≤◌, Bool, true, false, cond, List, [], ◌∷◌, ◌++◌, length, Option, Some, None, ap, arith}
use Rattle.std.proofs.lemmas.Option.{none-some}
use Rattle.regress_lexer.specs.Source.{Source, closing, bar}
use Rattle.regress_syntax.specs.Syntax.{Name, Group, grouping, modified, capture, look, Pattern, Terms, Item, one, either, no_terms, more_terms, atom, group, is_named, names, names_of_group, names_of_terms, names_of_item, groups_named}
use Rattle.regress_syntax.specs.Productions.{Context, context_inside, single, opens, head_of_item, allows, head_at}
use Rattle.regress_syntax.specs.Grammar.{IsPattern, AreTerms, IsItem}
use Rattle.regress_syntax.proofs.lemmas.Productions.{head_at-ends, head_at-shortens, optional_quantifier_at-ends}
use Rattle.regress_parse.specs.Bound.{positions, opens_name}
use Rattle.regress_parse.proofs.BoundOfSource.{total-after, after_first}
use Rattle.regress_parse.proofs.BoundOfHead.{Fits, head_by-fits, any_found}

-- the number of groups with a name
abbrev pub named : List (Option Name) → ℕ
named [] = 0
named (None ∷ names) = named names
named (Some name ∷ names) = 1 + named names

named-append : (xs ys : List (Option Name)) → named (xs ++ ys) ≡ named xs + named ys
named-append [] ys = omega arith
named-append (None ∷ xs) ys = named-append xs ys
named-append (Some name ∷ xs) ys = omega (arith, named-append xs ys)

one_more : (b : Bool) (k m : ℕ) (ks : List ℕ) → length ks ≤ m → length (cond b (k ∷ ks) ks) ≤ 1 + m
one_more true k m ks few = omega arith
one_more false k m ks few = omega arith

-- At most all named groups have this name.
pub groups_named-few : (name : Name) (k : ℕ) (all : List (Option Name)) → length (groups_named name k all) ≤ named all
groups_named-few name k [] = omega arith
groups_named-few name k (None ∷ all) = groups_named-few name (k + 1) all
groups_named-few name k (Some other ∷ all) =
    one_more (is_named name (Some other)) k (named all) (groups_named name (k + 1) all) (groups_named-few name (k + 1) all)

-- ---- the grammar

is_opened : (kind : Group) (opened : Bool) → Fits (λ _. Unit {0}) opened (opens kind) → named (names_of_group kind) ≤ cond opened 1 0
is_opened grouping opened fits = omega arith
is_opened (modified change) opened fits = omega arith
is_opened (capture None) opened fits = omega arith
is_opened (capture (Some name)) opened fits = rw fits (omega arith)
is_opened (look negate direction) opened fits = omega arith

opens-named : (ctx : Context) (kind : Group) (t rest : Source) → head_at ctx t ≡ Some (opens kind, rest) →
    named (names_of_group kind) + positions opens_name rest ≤ positions opens_name t
unfolding head_at
opens-named ctx kind [] rest e = absurd (none-some _ e)
opens-named ctx kind (c ∷ t) rest e =
    let fits = (head_by-fits ctx (λ _. Unit {0}) c t (any_found _)).each (opens kind, rest) e in
    let after = after_first c t rest ((head_at-ends ctx (c ∷ t)).each (opens kind, rest) e) (head_at-shortens ctx (c ∷ t) (opens kind, rest) e) in
    omega (arith, is_opened kind (opens_name (c ∷ t)) fits, total-after (λ t. cond (opens_name t) 1 0) t rest after)

mutual
  pub names-pattern : (ctx : Context) (p : Pattern) (t rest : Source) → IsPattern ctx p t rest →
      named (names p) + positions opens_name rest ≤ positions opens_name t
  names-pattern ctx (one ts) t rest h = names-terms ctx ts t rest h.0
  names-pattern ctx (either ts p) t rest (mid, first, others) =
      omega (arith, named-append (names_of_terms ts) (names p), names-terms ctx ts t (bar ∷ mid) first, names-pattern ctx p mid rest others)

  names-terms : (ctx : Context) (ts : Terms) (t rest : Source) → AreTerms ctx ts t rest →
      named (names_of_terms ts) + positions opens_name rest ≤ positions opens_name t
  names-terms ctx no_terms t rest h = omega (arith, ap (positions opens_name) h.1)
  names-terms ctx (more_terms x q xs) t rest (mid, after, first, times, others) =
      let allowed = allows ctx (head_of_item x) in
      omega (
        arith,
        named-append (names_of_item x) (names_of_terms xs),
        names-item ctx x t mid first,
        total-after (λ t. cond (opens_name t) 1 0) mid after ((optional_quantifier_at-ends ctx allowed mid).each (q, after) times),
        names-terms ctx xs after rest others,
      )

  names-item : (ctx : Context) (x : Item) (t rest : Source) → IsItem ctx x t rest →
      named (names_of_item x) + positions opens_name rest ≤ positions opens_name t
  names-item ctx (atom a) t rest h =
      omega (arith, total-after (λ t. cond (opens_name t) 1 0) t rest ((head_at-ends ctx t).each (single a, rest) h))
  names-item ctx (group kind p) t rest (mid, head, body) =
      omega (
        arith,
        named-append (names_of_group kind) (names p),
        opens-named ctx kind t mid head,
        names-pattern (context_inside kind ctx) p mid (closing ∷ rest) body,
      )
