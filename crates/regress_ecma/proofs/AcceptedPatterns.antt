-- A pattern is accepted exactly where ECMA-262 accepts it.
use Rattle.std.proofs.Common.{◌≡◌, ℕ, ◌||◌, Bool, true, false, not, List, [], length, Option, Some, None, refl, sym, ap, ap₂, subst, ◌∙◌, arith, length-append}
use Rattle.std.specs.List.{All, list_any}
use Rattle.std.specs.Option.{is_some}
use Rattle.regress_tree.specs.Steps.{Setting}
use Rattle.regress_lexer.specs.declared.dialect.Dialect.TheVariants.{Ecma}
use Rattle.regress_lexer.specs.Source.{Source, IsCodePoint}
use Rattle.regress_syntax.specs.Grammar.{IsPattern}
use Rattle.regress_syntax.specs.Productions.{Context}
use Rattle.regress_syntax.specs.SameNames.{NoneConflict}
use Rattle.regress_syntax.specs.Syntax.{Name, grouping, modified, capture, look, Pattern, one, either, Terms, no_terms, more_terms, Item, atom, group, counts, counts_of_terms, counts_of_item, names, names_of_terms, names_of_item}
use Rattle.regress_ecma.specs.ClassSetExpressions.{HasPropertiesOfStrings}
use Rattle.regress_ecma.specs.Compared.{own_context}
use Rattle.regress_ecma.specs.GroupNames.{HasIdentifiers}
use Rattle.regress_ecma.specs.PatternNodes.{Disjunction, groups, has_duplicate}
use Rattle.regress_ecma.specs.Patterns.{Mode, IsDisjunction, IsDerivedPattern, has_error, has_early_error, IsWithin, HasMinima}
use Rattle.regress_ecma.proofs.AtomEscapeNodes.{context}
use Rattle.regress_ecma.proofs.PatternDerivations.{pattern_derived}
use Rattle.regress_ecma.proofs.PatternTrees.{or_parts, disjunction_read}

-- ---- the number of groups is that of their names

mutual
  pub count_is : (p : Pattern) → (counts p).groups ≡ length (names p)
  count_is (one ts) = count_of_terms ts
  count_is (either ts p) = omega (arith, count_of_terms ts, count_is p, length-append (names_of_terms ts) (names p))

  count_of_terms : (ts : Terms) → (counts_of_terms ts).groups ≡ length (names_of_terms ts)
  count_of_terms no_terms = refl
  count_of_terms (more_terms x None xs) = omega (arith, count_of_item x, count_of_terms xs, length-append (names_of_item x) (names_of_terms xs))
  count_of_terms (more_terms x (Some q) xs) = omega (arith, count_of_item x, count_of_terms xs, length-append (names_of_item x) (names_of_terms xs))

  count_of_item : (x : Item) → (counts_of_item x).groups ≡ length (names_of_item x)
  count_of_item (atom a) = refl
  count_of_item (group grouping p) = omega (arith, count_is p)
  count_of_item (group (modified change) p) = omega (arith, count_is p)
  count_of_item (group (capture name) p) = omega (arith, count_is p)
  count_of_item (group (look negated direction) p) = omega (arith, count_is p)

module _ (setting : Setting) (implied : setting.flags.unicode_sets ≡ true → setting.flags.unicode ≡ true) where
  abbrev i : Bool
  i = setting.flags.icase

  abbrev m : Bool
  m = setting.flags.multiline

  abbrev s : Bool
  s = setting.flags.dot_all

  abbrev u : Bool
  u = setting.flags.unicode

  abbrev v : Bool
  v = setting.flags.unicode_sets

  -- the context of these groups
  abbrev of_names : List (Option Name) → Context
  of_names ns = context setting.table i m s v ns u

  own_is : (p : Pattern) → own_context setting p ≡ of_names (names p)
  own_is p = ap (λ (n : ℕ). record { dialect = Ecma; setting = setting; groups = n; names = names p }) (count_is p)

  abbrev mode_with : List (Option Name) → Mode
  mode_with ns = record { unicode = u; sets = v; has_names = list_any is_some ns; group_count = length ns }

  pub pattern_accepted : HasPropertiesOfStrings setting.table → (t : Source) → All IsCodePoint t → (p : Pattern) →
      IsPattern (own_context setting p) p t [] → NoneConflict p →
      (d : Disjunction) × IsDerivedPattern setting.table u v d t × IsWithin v d × (HasMinima d → has_early_error d ≡ false) × (groups d ≡ names p)
  pattern_accepted all t points p derived apart =
      let found = pattern_derived setting.table v (names p) u all implied i m s p t [] points
      (subst (λ (ctx : Context). IsPattern ctx p t []) (own_is p) derived) in (
        found.0,
        subst (λ (ns : List (Option Name)). IsDisjunction setting.table (mode_with ns) found.0 t []) (sym found.1.groups) found.1.derived,
        found.1.within,
        λ (minima : HasMinima found.0). ap (λ (ns : List (Option Name)). has_error ns found.0 || has_duplicate found.0) found.1.groups
            ∙ ap₂ (λ (a b : Bool). a || b) (found.1.fine minima) (found.1.duplicate ∙ ap not apart),
        found.1.groups,
      )

  pub pattern_of : HasIdentifiers setting.table → (t : Source) → All IsCodePoint t → (d : Disjunction) → IsDerivedPattern setting.table u v d t →
      has_early_error d ≡ false → IsWithin v d → (p : Pattern) × IsPattern (own_context setting p) p t [] × NoneConflict p × (groups d ≡ names p)
  pattern_of proper t points d derived fine within =
      let fines = or_parts (has_error (groups d) d) (has_duplicate d) fine in
      let found = disjunction_read setting.table v (groups d) u proper implied i m s d t [] points refl refl derived fines.0 within in (
        found.0,
        subst (λ (ctx : Context). IsPattern ctx found.0 t []) (ap of_names (sym found.1.groups) ∙ sym (own_is found.0)) found.1.derived,
        found.1.apart ∙ ap not fines.1,
        sym found.1.groups,
      )
