-- The grammar: which source a syntax tree derives (ECMA-262, Patterns). The productions without recursion are functions
-- of the source, in `Productions`.
use Rattle.std.specs.Prelude.{◌≡◌, true, false, ◌∷◌, Some}
use Rattle.regress_lexer.specs.Source.{Source, closing, bar, is_at, ends_alternative}
use Rattle.regress_syntax.specs.Syntax.{Pattern, Terms, Item, one, either, no_terms, more_terms, atom, group}
use Rattle.regress_syntax.specs.Productions.{Context, context_inside, single, opens, head_of_item, allows, head_at, optional_quantifier_at}

-- The source begins with a pattern that has this syntax tree, and `rest` follows it (ECMA-262, Disjunction).
abbrev mutual
  pub IsPattern : Context → Pattern → Source → Source → Type 0
  IsPattern ctx (one ts) t rest = AreTerms ctx ts t rest × (is_at bar rest ≡ false)
  IsPattern ctx (either ts p) t rest = (mid : Source) × AreTerms ctx ts t (bar ∷ mid) × IsPattern ctx p mid rest

  -- items, each with the quantifier that follows it, if any (ECMA-262, Alternative)
  pub AreTerms : Context → Terms → Source → Source → Type 0
  AreTerms ctx no_terms t rest = (ends_alternative t ≡ true) × (t ≡ rest)
  AreTerms ctx (more_terms x q xs) t rest =
      (mid : Source) × (after : Source) × IsItem ctx x t mid
      × (optional_quantifier_at ctx (allows ctx (head_of_item x)) mid ≡ Some (q, after)) × AreTerms ctx xs after rest

  -- a single token, or the opening of a group, its body and `)` (ECMA-262, Term without its Quantifier)
  pub IsItem : Context → Item → Source → Source → Type 0
  IsItem ctx (atom a) t rest = head_at ctx t ≡ Some (single a, rest)
  IsItem ctx (group kind p) t rest =
      (mid : Source) × (head_at ctx t ≡ Some (opens kind, mid)) × IsPattern (context_inside kind ctx) p mid (closing ∷ rest)
