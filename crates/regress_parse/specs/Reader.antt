-- The grammar as a function from a source to what it starts with and the remaining source. The relation of `Grammar` in
-- `regress_syntax` has the same productions; the lemmas on this function show that the two agree.
use Rattle.std.specs.Prelude.{ℕ, zero, suc, ◌+◌, ◌*◌, length, drop, Option, Some, None, if◌then◌else◌}
use Rattle.regress_base.specs.declared.types.Quantifier.{Quantifier}
use Rattle.regress_lexer.specs.Source.{Source, Found, ◌>>=◌, found_map, closing, bar, is_at, ends_alternative}
use Rattle.regress_syntax.specs.Syntax.{Group, Pattern, Terms, Item, one, either, no_terms, more_terms, atom, group}
use Rattle.regress_syntax.specs.Productions.{Context, context_inside, Head, single, opens, head_of_item, allows, head_at, optional_quantifier_at}

-- an item with its quantifier, if it has one (ECMA-262, Term)
abbrev pub Term : Type 0
Term = Item × Option Quantifier

-- the closing parenthesis of a group
abbrev pub closed : Group → Pattern × Source → Found Item
closed kind (p, t) = if is_at closing t then Some (group kind p, drop 1 t) else None

-- the rest of an item after its start, where `inner` parses patterns
abbrev pub item_after_head : (Context → Source → Found Pattern) → Context → Head × Source → Found Item
item_after_head inner ctx (single a, t) = Some (atom a, t)
item_after_head inner ctx (opens kind, t) = inner (context_inside kind ctx) t >>= closed kind

abbrev pub item_by : (Context → Source → Found Pattern) → Context → Source → Found Item
item_by inner ctx t = head_at ctx t >>= item_after_head inner ctx

-- the quantifier after an item
abbrev pub quantified : Context → Item × Source → Found Term
quantified ctx (x, t) = found_map (λ q. (x, q)) (optional_quantifier_at ctx (allows ctx (head_of_item x)) t)

-- a parsed item with the quantifier after it
abbrev pub with_quantifier : Context → Found Item → Found Term
with_quantifier ctx found = found >>= quantified ctx

abbrev pub term_by : (Context → Source → Found Pattern) → Context → Source → Found Term
term_by inner ctx t = item_by inner ctx t >>= quantified ctx

-- The number bounds the depth of the calls.
unfoldable mutual
  pub parse_terms : ℕ → Context → Source → Found Terms
  parse_terms zero ctx t = None
  parse_terms (suc n) ctx t =
      if ends_alternative t then Some (no_terms, t)
      else term_by (parse_pattern n) ctx t >>= λ (x, mid). (parse_terms n ctx mid >>= λ (xs, rest). Some (more_terms x.0 x.1 xs, rest))

  pub parse_pattern : ℕ → Context → Source → Found Pattern
  parse_pattern zero ctx t = None
  parse_pattern (suc n) ctx t =
      parse_terms n ctx t >>= λ (ts, mid).
      (if is_at bar mid
      then (parse_pattern n ctx (drop 1 mid) >>= λ (p, rest). Some (either ts p, rest))
      else Some (one ts, mid))

-- a bound that suffices for the source
abbrev pub fuel : Source → ℕ
fuel t = 2 * length t + 2

-- the pattern at the start of a source (ECMA-262, Disjunction)
unfoldable pub pattern_at : Context → Source → Found Pattern
pattern_at ctx t = parse_pattern (fuel t) ctx t

-- the terms at the start of a source, up to the end of the alternative (ECMA-262, Alternative)
unfoldable pub terms_at : Context → Source → Found Terms
terms_at ctx t = parse_terms (fuel t) ctx t

-- the item at the start of a source
unfoldable pub item_at : Context → Source → Found Item
item_at ctx t = item_by pattern_at ctx t

-- the term at the start of a source (ECMA-262, Term)
unfoldable pub term_at : Context → Source → Found Term
term_at ctx t = item_at ctx t >>= quantified ctx
