-- What an error on a limit implies for the source, and how much a part of a source counts at most.
use Rattle.std.proofs.Common.{◌≡◌, ◌⊎◌, inl, inr, ℕ, zero, suc, ◌+◌, ◌<◌, ◌≤◌, ⊎_elim, Bool, true, false, [], ◌∷◌, length, drop, Option, Some, None, sym, ap, ◌∙◌, subst, arith, length-drop}
use Rattle.std.proofs.lemmas.Option.{none-some, same_Some, cond_some}
use Rattle.std.proofs.lemmas.Bool.{false≢true}
use Rattle.regress_base.specs.Limits.{max_capture_groups, max_loops, max_nesting_depth}
use Rattle.regress_base.specs.declared.types.Quantifier.{Quantifier}
use Rattle.regress_lexer.specs.declared.fault.FaultKind.{FaultKind}
use Rattle.regress_lexer.specs.declared.fault.FaultKind.TheVariants.{TooManyGroups, TooManyLoops, TooDeep}
use Rattle.regress_lexer.specs.Fault.{is_limit}
use Rattle.regress_lexer.specs.FirstCodePoint.{may_begin}
use Rattle.regress_lexer.specs.Source.{Source, Found, closing, bar, is_at, ends_alternative}
use Rattle.regress_lexer.proofs.lemmas.Sources.{found_then, chosen}
use Rattle.regress_syntax.specs.Syntax.{Group, Pattern, Terms, Item, Counts, no_terms, atom, added, nothing_counted, opened_by, counts, counts_of_terms, counts_of_item, counts_of_term}
use Rattle.regress_syntax.specs.Productions.{Context, context_inside, Head, single, opens, head_of_item, allows, head_at, optional_quantifier_at}
use Rattle.regress_syntax.specs.Scan.{plain, tokens, TokensShow}
use Rattle.regress_syntax.proofs.lemmas.Productions.{head_at-shortens, optional_quantifier_at-shortens}
use Rattle.regress_syntax.proofs.lemmas.Lengths.{opened_by-one, optional_quantifier_at-takes, named_by-length, deepest-length}
use Rattle.regress_parse.specs.Rejected.{MayExceed}
use Rattle.regress_parse.specs.Parsing.{Reaches, CountsAtMostConsumed}
use Rattle.regress_parse.specs.Reader.{Term, closed, item_after_head, item_by, quantified, term_by, parse_terms, parse_pattern, fuel, pattern_at, terms_at, item_at, term_at}
use Rattle.regress_parse.proofs.ReaderLemmas.{more_by, others_by}

-- ---- kinds of syntax errors

-- a kind that is about no limit
pub no_limit : (before : Counts) (depth : ℕ) (t : Source) (kind : FaultKind) → is_limit kind ≡ false → Reaches kind before depth t
no_limit before depth t kind none = record {
  groups = λ is. absurd (false≢true (sym none ∙ ap is_limit is));
  loops = λ is. absurd (false≢true (sym none ∙ ap is_limit is));
  nesting = λ is. absurd (false≢true (sym none ∙ ap is_limit is));
}

-- a kind that is about nesting depth alone
pub nesting_reach : (before : Counts) (depth : ℕ) (t : Source) (kind : FaultKind) →
    (is_limit kind ≡ false) ⊎ ((kind ≡ TooDeep) × (max_nesting_depth < depth + length t)) → Reaches kind before depth t
nesting_reach before depth t kind (inl none) = no_limit before depth t kind none
nesting_reach before depth t kind (inr (is, deep)) = record {
  groups = λ groups. absurd (cc);
  loops = λ loops. absurd (cc);
  nesting = λ _. deep;
}

pub groups_reach : (before : Counts) (depth : ℕ) (t : Source) (kind : FaultKind) → kind ≡ TooManyGroups →
    max_capture_groups < before.groups + length t → Reaches kind before depth t
groups_reach before depth t kind is many = record {
  groups = λ _. many;
  loops = λ loops. absurd (cc);
  nesting = λ nesting. absurd (cc);
}

pub loops_reach : (before : Counts) (depth : ℕ) (t : Source) (kind : FaultKind) → kind ≡ TooManyLoops →
    max_loops < before.loops + length t → Reaches kind before depth t
loops_reach before depth t kind is many = record {
  groups = λ groups. absurd (cc);
  loops = λ _. many;
  nesting = λ nesting. absurd (cc);
}

-- If a limit is exceeded from one position, then it is from each earlier one.
pub reaches_before : {before now : Counts} {t rest : Source} (depth deep : ℕ) → CountsAtMostConsumed before now t rest → deep + length rest ≤ depth + length t →
    (kind : FaultKind) → Reaches kind now deep rest → Reaches kind before depth t
reaches_before depth deep spent less kind h = record {
  groups = λ is. omega (arith, spent.groups, h.groups is);
  loops = λ is. omega (arith, spent.loops, h.loops is);
  nesting = λ is. omega (arith, less, h.nesting is);
}

-- A whole source that exceeds a limit is long enough to do so.
pub whole_exceeds : (t : Source) (kind : FaultKind) → Reaches kind nothing_counted 1 t → MayExceed t kind
whole_exceeds t kind h = record {
  groups = λ is. omega (arith, h.groups is);
  loops = λ is. omega (arith, h.loops is);
  nesting = λ is. omega (arith, h.nesting is);
}

-- A source that the scan rejects for a limit is long enough to exceed it.
pub tokens_exceed : (sets : Bool) (table : _) (t : Source) (kind : FaultKind) → TokensShow (tokens sets table plain t) kind → MayExceed t kind
tokens_exceed sets table t kind (inl (is, h)) = record {
  groups = λ groups. absurd (cc);
  loops = λ loops. absurd (cc);
  nesting = λ nesting. absurd (cc);
}
tokens_exceed sets table t kind (inr (inl (is, deep))) = record {
  groups = λ groups. absurd (cc);
  loops = λ loops. absurd (cc);
  nesting = λ _. omega (arith, deep, deepest-length sets table t);
}
tokens_exceed sets table t kind (inr (inr (is, many))) = record {
  groups = λ _. omega (arith, many, named_by-length sets table plain t);
  loops = λ loops. absurd (cc);
  nesting = λ nesting. absurd (cc);
}

-- Where a quantifier may start, at least one code point remains.
pub begins_some : (t : Source) → may_begin t ≡ true → 0 < length t
begins_some [] e = cc
begins_some (c ∷ t) e = omega arith

-- ---- counts

pub spends_same : (now : Counts) (t : Source) → CountsAtMostConsumed now now t t
spends_same now t = record { groups = omega arith; loops = omega arith }

pub spends_then : {before mid now : Counts} {t u rest : Source} → CountsAtMostConsumed before mid t u → CountsAtMostConsumed mid now u rest → CountsAtMostConsumed before now t rest
spends_then h k = record { groups = omega (arith, h.groups, k.groups); loops = omega (arith, h.loops, k.loops) }

-- Parsing without counting keeps the bound.
pub spends_read : (now : Counts) (t rest : Source) → length rest ≤ length t → CountsAtMostConsumed now now t rest
spends_read now t rest shorter = record { groups = omega (arith, shorter); loops = omega (arith, shorter) }

-- what a part counts that is parsed from the start of a source
pub record Costs (part : Counts) (t rest : Source) : Type 0 where
  pub groups : part.groups + length rest ≤ length t
  pub loops : part.loops + length rest ≤ length t

pub costs_spends : (before : Counts) {part : Counts} {now : Counts} {t rest : Source} → now ≡ added before part → Costs part t rest → CountsAtMostConsumed before now t rest
costs_spends before same h = record {
  groups = omega (arith, ap (λ (c : Counts). c.groups) same, h.groups);
  loops = omega (arith, ap (λ (c : Counts). c.loops) same, h.loops);
}

-- A parser of patterns counts at most the code points that it consumes.
abbrev InnerCosts : (Context → Source → Found Pattern) → Type 0
InnerCosts inner = (ctx : Context) (t : Source) (y : Pattern × Source) → inner ctx t ≡ Some y → Costs (counts y.0) t y.1

closed-costs : (kind : Group) (x : Pattern × Source) (y : Item × Source) → closed kind x ≡ Some y →
    ((counts_of_item y.0).groups ≡ opened_by kind + (counts x.0).groups) × ((counts_of_item y.0).loops ≡ (counts x.0).loops)
    × (length y.1 ≤ length x.1)
closed-costs kind x y e =
    let same = (cond_some (is_at closing x.1) _ y e).1 in (
      omega (arith, ap (λ (z : Item × Source). (counts_of_item z.0).groups) same),
      omega (arith, ap (λ (z : Item × Source). (counts_of_item z.0).loops) same),
      omega (arith, ap (λ (z : Item × Source). length z.1) same, length-drop 1 x.1),
    )

-- an item, after the code point with which every item starts
item_after_head-costs : (inner : Context → Source → Found Pattern) → InnerCosts inner → (ctx : Context) (t : Source) (x : Head × Source) (y : Item × Source) →
    length x.1 < length t → item_after_head inner ctx x ≡ Some y → Costs (counts_of_item y.0) t y.1
item_after_head-costs inner h ctx t (single a, u) y shorter e =
    let same = same_Some (atom a, u) y e in
    record {
      groups = omega (arith, shorter, ap (λ (z : Item × Source). (counts_of_item z.0).groups + length z.1) same);
      loops = omega (arith, shorter, ap (λ (z : Item × Source). (counts_of_item z.0).loops + length z.1) same);
    }
item_after_head-costs inner h ctx t (opens kind, u) y shorter e =
    let found = found_then (inner (context_inside kind ctx) u) (closed kind) y e in
    let body = h (context_inside kind ctx) u found.0 found.1 in
    let whole = closed-costs kind found.0 y found.2 in
    record {
      groups = omega (arith, shorter, opened_by-one kind, body.groups, whole.0, whole.2);
      loops = omega (arith, shorter, body.loops, whole.1, whole.2);
    }

item_by-costs : (inner : Context → Source → Found Pattern) → InnerCosts inner → (ctx : Context) (t : Source) (y : Item × Source) →
    item_by inner ctx t ≡ Some y → Costs (counts_of_item y.0) t y.1
item_by-costs inner h ctx t y e =
    let found = found_then (head_at ctx t) (item_after_head inner ctx) y e in
    item_after_head-costs inner h ctx t found.0 y (head_at-shortens ctx t found.0 found.1) found.2

-- A quantifier counts one loop and takes at least one code point.
times-cost : (ctx : Context) (allowed : Bool) (x : Item) (t : Source) (q : Option Quantifier) (rest : Source) → optional_quantifier_at ctx allowed t ≡ Some (q, rest) →
    (counts_of_term x q).loops + length rest ≤ (counts_of_item x).loops + length t
times-cost ctx allowed x t None rest e = omega (arith, optional_quantifier_at-shortens ctx allowed t (None, rest) e)
times-cost ctx allowed x t (Some q) rest e = omega (arith, optional_quantifier_at-takes ctx allowed t q rest e)

groups_of_term : (x : Item) (q : Option Quantifier) → (counts_of_term x q).groups ≡ (counts_of_item x).groups
groups_of_term x None = omega arith
groups_of_term x (Some q) = omega arith

quantified-costs : (ctx : Context) (t : Source) (x : Item × Source) (y : Term × Source) → Costs (counts_of_item x.0) t x.1 → quantified ctx x ≡ Some y →
    Costs (counts_of_term y.0.0 y.0.1) t y.1
quantified-costs ctx t x y h e =
    let allowed = allows ctx (head_of_item x.0) in
    let found = found_then (optional_quantifier_at ctx allowed x.1) (λ (q : Option Quantifier × Source). Some ((x.0, q.0), q.1)) y e in
    let same = same_Some ((x.0, found.0.0), found.0.1) y found.2 in
    subst (λ (z : Term × Source). Costs (counts_of_term z.0.0 z.0.1) t z.1) same (record {
      groups = omega (arith, h.groups, groups_of_term x.0 found.0.0, optional_quantifier_at-shortens ctx allowed x.1 found.0 found.1);
      loops = omega (arith, h.loops, times-cost ctx allowed x.0 x.1 found.0.0 found.0.1 found.1);
    })

term_by-costs : (inner : Context → Source → Found Pattern) → InnerCosts inner → (ctx : Context) (t : Source) (y : Term × Source) →
    term_by inner ctx t ≡ Some y → Costs (counts_of_term y.0.0 y.0.1) t y.1
term_by-costs inner h ctx t y e =
    let found = found_then (item_by inner ctx t) (quantified ctx) y e in
    quantified-costs ctx t found.0 y (item_by-costs inner h ctx t found.0 found.1) found.2

mutual
  unfolding parse_terms

  parse_terms-costs : (n : ℕ) (ctx : Context) (t : Source) (y : Terms × Source) → parse_terms n ctx t ≡ Some y → Costs (counts_of_terms y.0) t y.1
  parse_terms-costs zero ctx t y e = absurd (none-some y e)
  parse_terms-costs (suc n) ctx t y e =
      ⊎_elim
      (λ (ends : (ends_alternative t ≡ true) × (Some (no_terms, t) ≡ Some y)).
      subst (λ (z : Terms × Source). Costs (counts_of_terms z.0) t z.1) (same_Some _ _ ends.1)
      (record { groups = omega arith; loops = omega arith }))
      (λ (goes_on : (ends_alternative t ≡ false) × (_ ≡ Some y)).
      let first = found_then (term_by (parse_pattern n) ctx t) (more_by (parse_terms n ctx)) y goes_on.1 in
      let cost = term_by-costs (parse_pattern n) (parse_pattern-costs n) ctx t first.0 first.1 in
      let others = found_then (parse_terms n ctx first.0.1) _ y first.2 in
      let more = parse_terms-costs n ctx first.0.1 others.0 others.1 in
      subst (λ (z : Terms × Source). Costs (counts_of_terms z.0) t z.1) (same_Some _ _ others.2)
      (record { groups = omega (arith, cost.groups, more.groups); loops = omega (arith, cost.loops, more.loops) }))
      (chosen (ends_alternative t) _ _ _ e)

  parse_pattern-costs : (n : ℕ) → InnerCosts (parse_pattern n)
  parse_pattern-costs zero ctx t y e = absurd (none-some y e)
  parse_pattern-costs (suc n) ctx t y e =
      let first = found_then (parse_terms n ctx t) (others_by (parse_pattern n ctx)) y e in
      let cost = parse_terms-costs n ctx t first.0 first.1 in
      ⊎_elim
      (λ (more : (is_at bar first.0.1 ≡ true) × (_ ≡ Some y)).
      let others = found_then (parse_pattern n ctx (drop 1 first.0.1)) _ y more.1 in
      let rest = parse_pattern-costs n ctx (drop 1 first.0.1) others.0 others.1 in
      subst (λ (z : Pattern × Source). Costs (counts z.0) t z.1) (same_Some _ _ others.2)
      (record {
        groups = omega (arith, cost.groups, rest.groups, length-drop 1 first.0.1);
        loops = omega (arith, cost.loops, rest.loops, length-drop 1 first.0.1);
      }))
      (λ (last : (is_at bar first.0.1 ≡ false) × (_ ≡ Some y)).
      subst (λ (z : Pattern × Source). Costs (counts z.0) t z.1) (same_Some _ _ last.1)
      (record { groups = omega (arith, cost.groups); loops = omega (arith, cost.loops) }))
      (chosen (is_at bar first.0.1) _ _ _ first.2)

pub pattern_at-costs : InnerCosts pattern_at
unfolding pattern_at
pattern_at-costs ctx t y e = parse_pattern-costs (fuel t) ctx t y e

pub terms_at-costs : (ctx : Context) (t : Source) (y : Terms × Source) → terms_at ctx t ≡ Some y → Costs (counts_of_terms y.0) t y.1
unfolding terms_at
terms_at-costs ctx t y e = parse_terms-costs (fuel t) ctx t y e

pub item_at-costs : (ctx : Context) (t : Source) (y : Item × Source) → item_at ctx t ≡ Some y → Costs (counts_of_item y.0) t y.1
unfolding item_at
item_at-costs ctx t y e = item_by-costs pattern_at pattern_at-costs ctx t y e

pub term_at-costs : (ctx : Context) (t : Source) (y : Term × Source) → term_at ctx t ≡ Some y → Costs (counts_of_term y.0.0 y.0.1) t y.1
unfolding item_at term_at
term_at-costs ctx t y e = term_by-costs pattern_at pattern_at-costs ctx t y e
