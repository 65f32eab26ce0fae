-- Worked examples of the grammar of patterns: what is derived, and which early errors there are. V8 accepts and rejects these
-- patterns, but for modifiers and names of several groups, which its version 11.3 does not have.
use Rattle.std.proofs.Common.{◌≡◌, ℕ, true, false, List, [], ◌∷◌, Option, Some, None, refl, sym, ap, subst, ◌∙◌, arith}
use Rattle.std.specs.Prelude.{codes}
use Rattle.std.specs.List.{All}
use Rattle.std.proofs.lemmas.Bool.{false≢true}
use Rattle.std.proofs.lemmas.List.Elements.{All-nil, All-cons}
use Rattle.std.proofs.lemmas.Option.{none-some, same_Some}
use Rattle.regress_base.specs.Table.{Table}
use Rattle.regress_tree.specs.Steps.{Setting}
use Rattle.regress_lexer.specs.declared.dialect.Dialect.TheVariants.{Ecma}
use Rattle.regress_syntax.specs.Grammar.{IsPattern, AreTerms}
use Rattle.regress_syntax.specs.Productions.{Context, Head, single, allows, head_at, optional_quantifier_at}
use Rattle.regress_syntax.specs.Syntax.{Name, boundary as boundary_atom, Pattern, one, either, Terms, no_terms, more_terms, atom, group, counts, names}
use Rattle.regress_ecma.proofs.AcceptedPatterns.{pattern_of}
use Rattle.regress_ecma.proofs.PatternTrees.{is_single}
use Rattle.regress_base.specs.declared.charclasses.CharacterClassType.TheVariants.{Digits}
use Rattle.regress_lexer.specs.Digits.{front, after}
use Rattle.regress_lexer.specs.Quantifiers.{quantifier_at}
use Rattle.regress_lexer.specs.Source.{Source, IsCodePoint, char}
use Rattle.regress_ecma.specs.ClassNodes.{class_escape}
use Rattle.regress_ecma.specs.GroupNames.{HasIdentifiers}
use Rattle.regress_ecma.specs.Quantifiers.{IsQuantifier, exactly, between, star, is_out_of_order}
use Rattle.regress_ecma.specs.PatternNodes.{decimal, character_class, character, named, Disjunction, Term, TermBody, alone, or_else, nothing, term_then, unquantified, quantified, lookahead, pattern_character, dot, escape, backslash, capture, modified, invalid}
use Rattle.regress_ecma.specs.Patterns.{Mode, atom_escape, plain_character, IsDerivedPattern, IsWithin, has_early_error, are_wrong_modifiers}
use Rattle.regress_ecma.proofs.PatternAtoms.{lone_has_no_escape}
use Rattle.regress_ecma.proofs.PatternCharacters.{no_braces_elsewhere}

-- ---- Quantifier

lazy_range : IsQuantifier (between 2 10) true (codes "{2,10}?a") (codes "a")
lazy_range = (codes "2,10}?a", codes "10}?a", refl, (codes "2", refl, omega arith, refl, refl), (codes "10", refl, omega arith, refl, refl))

out_of_order : is_out_of_order (between 2 1) ≡ true
out_of_order = refl

-- ---- AtomEscape

-- a pattern with one group, and one without, without the flag u
with_group : Mode
with_group = record { unicode = false; sets = false; has_names = false; group_count = 1 }

without_group : Mode
without_group = record { unicode = false; sets = false; has_names = false; group_count = 0 }

module _ (table : Table) where
  group_number : atom_escape table with_group (codes "1a") ≡ Some (decimal 1, codes "a")
  unfolding with_group front after
  group_number = refl

  octal : atom_escape table without_group (codes "1a") ≡ Some (character 1, codes "a")
  unfolding without_group front after
  octal = refl

  letter : atom_escape table without_group (codes "k<a>") ≡ Some (character (char "k"), codes "<a>")
  unfolding without_group
  letter = refl

  class_letter : atom_escape table without_group (codes "dx") ≡ Some (character_class (class_escape Digits false), codes "x")
  unfolding without_group
  class_letter = refl

  -- ---- characters

  bracket : plain_character table without_group (codes "]") ≡ Some (char "]", [])
  unfolding without_group
  bracket = refl

  two_units : plain_character table without_group (0x1F600 ∷ []) ≡ Some (0xD83D, 0xDE00 ∷ [])
  unfolding without_group
  two_units = refl

  -- ---- Pattern

  letter_a : TermBody
  letter_a = pattern_character (char "a")

  -- `a{2}|.*`
  two_alternatives : IsDerivedPattern table false false
      (or_else (term_then (quantified letter_a (exactly 2) false) nothing) (alone (term_then (quantified dot star false) nothing))) (codes "a{2}|.*")
  unfolding letter_a
  two_alternatives = (
    codes ".*",
    (
      codes "|.*",
      (
        codes "{2}|.*",
        refl,
        (refl, no_braces_elsewhere table without_group (codes "a{2}|.*") refl),
        (codes "2}|.*", refl, (codes "2", refl, omega arith, refl, refl)),
      ),
      refl,
    ),
    ([], (codes "*", refl, refl, refl), refl),
  )

  -- `(?=a)*`, which is an error with u
  quantified_lookahead : IsDerivedPattern table false false
      (alone (term_then (quantified (lookahead false (alone (term_then (unquantified letter_a) nothing))) star false) nothing)) (codes "(?=a)*")
  unfolding letter_a
  quantified_lookahead =
      ([], (codes "*", refl, (codes "a)*", refl, (codes ")*", (refl, no_braces_elsewhere table without_group (codes "a)*") refl), refl)), refl), refl)

  -- `\c`
  lone_backslash : IsDerivedPattern table false false
      (alone (term_then (unquantified backslash) (term_then (unquantified (pattern_character (char "c"))) nothing))) (codes "\\c")
  lone_backslash = (
    codes "c",
    (refl, refl, refl, lone_has_no_escape table false false false false [] [] refl),
    ([], (refl, no_braces_elsewhere table without_group (codes "c") refl), refl),
  )

  -- `(?i-s:a)`
  modifiers : IsDerivedPattern table true false
      (alone (term_then (unquantified (modified (codes "i") (Some (codes "s")) (alone (term_then (unquantified letter_a) nothing)))) nothing))
      (codes "(?i-s:a)")
  unfolding letter_a
  modifiers = ([], (codes "a)", (refl, refl, refl), (codes ")", (refl, no_braces_elsewhere table without_group (codes "a)") refl), refl)), refl)

-- ---- early errors

any_a : Disjunction
any_a = alone (term_then (unquantified (pattern_character (char "a"))) nothing)

named_a : Term
named_a = unquantified (capture (Some (codes "x")) any_a)

-- `(?<x>a)(?<x>a)`
duplicate : has_early_error (alone (term_then named_a (term_then named_a nothing))) ≡ true
unfolding named_a any_a
duplicate = refl

-- `(?<x>a)|(?<x>a)`
alternatives : has_early_error (or_else (term_then named_a nothing) (alone (term_then named_a nothing))) ≡ false
unfolding named_a any_a
alternatives = refl

-- `(?<x>a)\k<y>`
unknown_name : has_early_error (alone (term_then named_a (term_then (unquantified (escape (named (codes "y")))) nothing))) ≡ true
unfolding named_a any_a
unknown_name = refl

-- `(?<x>a)\2` with u
no_such_group : has_early_error (alone (term_then named_a (term_then (unquantified (escape (decimal 2))) nothing))) ≡ true
unfolding named_a any_a
no_such_group = refl

-- `{1}` without u
nothing_to_repeat : has_early_error (alone (term_then (unquantified (invalid (exactly 1))) nothing)) ≡ true
nothing_to_repeat = refl

-- `(?ii:a)`, `(?i-i:a)` and `(?-:a)`, and `(?i-:a)`
twice : are_wrong_modifiers (codes "ii") None ≡ true
twice = refl

on_and_off : are_wrong_modifiers (codes "i") (Some (codes "i")) ≡ true
on_and_off = refl

no_modifier : are_wrong_modifiers [] (Some []) ≡ true
no_modifier = refl

nothing_off : are_wrong_modifiers (codes "i") (Some []) ≡ false
nothing_off = refl

-- ---- what is not derived

module _ (table : Table) (proper : HasIdentifiers table) where
  -- no flag
  abbrev setting : Setting
  setting = record {
    flags = record { icase = false; multiline = false; dot_all = false; unicode = false; unicode_sets = false };
    table = table;
  }

  abbrev NotAccepted : Source → Type 0
  NotAccepted t = (d : Disjunction) → IsDerivedPattern table false false d t → has_early_error d ≡ false → IsWithin false d → ⊥

  abbrev in_context : (groups : ℕ) → List (Option Name) → Context
  in_context groups names = record { dialect = Ecma; setting = setting; groups = groups; names = names }

  abbrev NoTerms : Source → Type 0
  NoTerms t = (groups : ℕ) (names : List (Option Name)) (ts : Terms) (rest : Source) → AreTerms (in_context groups names) ts t rest → ⊥

  not_accepted : (t : Source) → All IsCodePoint t → NoTerms t → NotAccepted t
  not_accepted t points none d derived fine within =
      let found = pattern_of setting (λ e. e) proper t points d derived fine within in
      by found.0 ((counts found.0).groups) (names found.0) found.1
    where
      by : (p : Pattern) (groups : ℕ) (names : List (Option Name)) → IsPattern (in_context groups names) p t [] → ⊥
      by (one ts) groups names h = none groups names ts [] h.0
      by (either ts p) groups names h = none groups names ts _ h.1

  -- `\b*`
  boundary_first : (groups : ℕ) (names : List (Option Name)) →
      head_at (in_context groups names) (codes "\\b*") ≡ Some (single (boundary_atom setting.flags false), codes "*")
  unfolding head_at
  boundary_first groups names = refl

  no_repetition : (groups : ℕ) (names : List (Option Name)) → optional_quantifier_at (in_context groups names) false (codes "*") ≡ None
  unfolding optional_quantifier_at quantifier_at
  no_repetition groups names = refl

  no_terms_there : NoTerms (codes "\\b*")
  no_terms_there groups names no_terms rest h = false≢true h.0
  no_terms_there groups names (more_terms (group kind p) q xs) rest h =
      false≢true (ap (λ (x : Head × Source). is_single x.0) (same_Some _ _ (sym h.2.1 ∙ boundary_first groups names)))
  no_terms_there groups names (more_terms (atom a) q xs) rest h =
      none-some (q, h.1)
      (sym (no_repetition groups names)
      ∙ subst (λ (x : Head × Source). optional_quantifier_at (in_context groups names) (allows (in_context groups names) x.0) x.1 ≡ Some (q, h.1))
      (same_Some _ _ (sym h.2 ∙ boundary_first groups names)) h.3)

  boundary_repeated : NotAccepted (codes "\\b*")
  boundary_repeated =
      not_accepted (codes "\\b*")
      (All-cons IsCodePoint (char "\\") (codes "b*") (omega arith)
      (All-cons IsCodePoint (char "b") (codes "*") (omega arith) (All-cons IsCodePoint (char "*") [] (omega arith) (All-nil IsCodePoint)))) no_terms_there
