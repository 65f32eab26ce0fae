-- What the productions parse is in range: code points, valid names, and references to existing groups.
use Rattle.std.proofs.Common.{◌≡◌, ℕ, ◌+◌, ◌*◌, ◌≤◌, nat_le, Bool, true, false, cond, ◌&&◌, ◌||◌, ◌==◌, [], ◌∷◌, drop, List, All, Option, Some, None, is_some, arith}
use Rattle.std.specs.Option.{IfSome}
use Rattle.std.proofs.lemmas.Bool.Decides.{nat_tests}
use Rattle.std.proofs.lemmas.List.Elements.{All-head, All-tail}
use Rattle.regress_base.specs.Intervals.{Bounds}
use Rattle.regress_base.specs.declared.charclasses.CharacterClassType.{CharacterClassType}
use Rattle.regress_base.specs.Table.{Table, IsValidTable}
use Rattle.regress_classes.specs.ClassProductions.{complement, class_letter, class_at}
use Rattle.regress_classes.specs.ClassSets.{Value}
use Rattle.regress_lexer.specs.Digits.{is_between, is_decimal, digit, number_from, number, front}
use Rattle.regress_lexer.specs.Escapes.{character_escape_at}
use Rattle.regress_lexer.specs.Modifiers.{Change, modifiers_at}
use Rattle.regress_syntax.specs.Names.{group_name_at}
use Rattle.regress_classes.specs.Properties.{Property, of_points, of_strings, property_at}
use Rattle.regress_lexer.specs.Quantifiers.{quantifier_at}
use Rattle.regress_lexer.specs.declared.dialect.Dialect.{Dialect}
use Rattle.regress_lexer.specs.declared.dialect.Dialect.TheVariants.{Regress, Ecma}
use Rattle.regress_syntax.specs.Productions.{named_target, class_parameters, class_flags, compared_members, complements_first, Context, Head, single, opens, angle_at, after_question_mark_at, group_at, ordered_strings, property_atom, property_atom_at, has_name, character_at, number_reference_at, name_reference_at, escape_productions, escaped_by, escaped_at, brace_by, brackets_at, atom_productions, atom_by, head_at}
use Rattle.regress_lexer.specs.Source.{Source, Found, IsCodePoint, opening, colon, question_mark, is_at, first_production}
use Rattle.regress_syntax.specs.Syntax.{Name, Target, by_number, by_name, by_name_if_set, Atom, literal, dot, anchor, boundary, class_escape, class, class_set, string_property, back_reference, Group, grouping, modified, capture, look}
use Rattle.regress_lexer.proofs.lemmas.After.{Ends, after_all}
use Rattle.regress_classes.proofs.lemmas.ClassStrings.{OfCodePoints, PropertyInRange, property_at-in_range, class_set_at-in_range}
use Rattle.regress_lexer.proofs.lemmas.InRange.{Finds, finds_none, finds_some, finds_cond, finds_then, finds_map, character_escape_at-in_range}
use Rattle.regress_syntax.proofs.lemmas.NameEnds.{IsName, name_characters}
use Rattle.regress_lexer.proofs.lemmas.Sources.{EachProduction, no_more, ◌also◌, first_production-has}
use Rattle.regress_parse.proofs.StringLemmas.{All-longest_first}

-- All elements of the source are code points.
pub record AreCodePoints (t : Source) : Type 0 where
  pub each : All IsCodePoint t

pub rest_of : {c : ℕ} {rest : Source} → AreCodePoints (c ∷ rest) → AreCodePoints rest
rest_of {c} {rest} all = record { each = All-tail IsCodePoint c rest all.each }

pub after_found : {A : Type 0} (found : Found A) (t : Source) (x : A × Source) → Ends found t → found ≡ Some x → AreCodePoints t →
    AreCodePoints x.1
after_found found t x ends e all = record { each = after_all t x.1 (ends.each x e) all.each }

finds_any : {A : Type 0} (found : Found A) → Finds (λ _. Unit {0}) found
finds_any found = record { each = λ x e. tt }

-- ---- what is valid in a pattern of n groups

abbrev pub IsGoodTarget : ℕ → Target → Type 0
IsGoodTarget n (by_number k) = (1 ≤ k) × (k ≤ n)
IsGoodTarget n (by_name name) = Unit {0}
IsGoodTarget n (by_name_if_set name) = Unit {0}

good-named : (n : ℕ) (dialect : Dialect) (name : Name) → IsGoodTarget n (named_target dialect name)
good-named n Regress name = tt
good-named n Ecma name = tt

abbrev pub IsGoodAtom : ℕ → Atom → Type 0
IsGoodAtom n (literal flags c) = IsCodePoint c
IsGoodAtom n (dot flags) = Unit {0}
IsGoodAtom n (anchor flags kind) = Unit {0}
IsGoodAtom n (boundary flags inverted) = Unit {0}
IsGoodAtom n (class_escape flags kind negated) = Unit {0}
IsGoodAtom n (class flags inverted members) = Unit {0}
IsGoodAtom n (class_set flags negated value) = OfCodePoints value.strings
IsGoodAtom n (string_property flags written) = OfCodePoints written
IsGoodAtom n (back_reference flags to) = IsGoodTarget n to

abbrev pub IsGoodGroup : Group → Type 0
IsGoodGroup grouping = Unit {0}
IsGoodGroup (modified change) = Unit {0}
IsGoodGroup (capture name) = IfSome name IsName
IsGoodGroup (look negate direction) = Unit {0}

abbrev pub IsGoodHead : ℕ → Head → Type 0
IsGoodHead n (single a) = IsGoodAtom n a
IsGoodHead n (opens kind) = IsGoodGroup kind

-- ---- what a parenthesis opens

module _ (n : ℕ) (table : Table) where
  angle_at-good : (t : Source) → Finds (IsGoodHead n) (angle_at table t)
  angle_at-good t =
      finds_cond _ (is_at 61 (drop 1 t)) _ _ (λ _. finds_some _ _ tt)
      (λ _. finds_cond _ (is_at 33 (drop 1 t)) _ _ (λ _. finds_some _ _ tt)
      (λ _. finds_map IsName (IsGoodHead n) (λ name. opens (capture (Some name))) (group_name_at table t) (λ name h. h) (name_characters table t)))

  after_question_mark_at-good : (t : Source) → Finds (IsGoodHead n) (after_question_mark_at table t)
  after_question_mark_at-good t =
      finds_cond _ (is_at colon t) _ _ (λ _. finds_some _ _ tt)
      (λ _. finds_cond _ (is_at 61 t) _ _ (λ _. finds_some _ _ tt)
      (λ _. finds_cond _ (is_at 33 t) _ _ (λ _. finds_some _ _ tt)
      (λ _. finds_cond _ (is_at 60 t) _ _ (λ _. angle_at-good t)
      (λ _. finds_map (λ (_ : Change). Unit {0}) (IsGoodHead n) (λ change. opens (modified change)) (modifiers_at t) (λ x h. tt)
      (finds_any (modifiers_at t))))))

  group_at-good : (t : Source) → Finds (IsGoodHead n) (group_at table t)
  group_at-good t = finds_cond _ (is_at question_mark t) _ _ (λ _. after_question_mark_at-good (drop 1 t)) (λ _. finds_some _ _ tt)

-- ---- references by number

number_from-least : (n : ℕ) (cs : List ℕ) → n ≤ number_from 10 n cs
number_from-least n [] = omega arith
number_from-least n (c ∷ cs) = omega (arith, number_from-least (n * 10 + digit c) cs)

-- A number whose first digit is not 0 is at least 1.
number-least : (c : ℕ) (t : Source) → is_between 49 57 c ≡ true → 1 ≤ number 10 (front is_decimal (c ∷ t))
unfolding front
number-least c t e =
    let decimal : is_decimal c ≡ true = grind (arith, nat_tests) in
    let some : 1 ≤ digit c = grind (arith, nat_tests) in
    rw decimal (omega (arith, some, number_from-least (0 * 10 + digit c) (front is_decimal t)))

-- ---- items

module _ (ctx : Context) (lawful : IsValidTable ctx.setting.table) (n : ℕ) (within : ctx.groups ≤ n) where
  character_at-good : (c : ℕ) (t : Source) → AreCodePoints (c ∷ t) → Finds (IsGoodAtom n) (character_at ctx c t)
  character_at-good c t all =
      finds_map IsCodePoint (IsGoodAtom n) (literal ctx.setting.flags) (character_escape_at ctx.dialect ctx.setting.flags.unicode (c ∷ t)) (λ d h. h)
      (character_escape_at-in_range ctx.dialect ctx.setting.flags.unicode (c ∷ t) all.each)

  property_atom-good : (negated : Bool) (x : Property × Source) → PropertyInRange x.0 → Finds (IsGoodAtom n) (property_atom ctx negated x)
  property_atom-good negated (of_points members, t) h =
      elim (negated && complements_first ctx) as (λ b. Finds (IsGoodAtom n) (Some (
        cond b (class ctx.setting.flags false (complement members)) (class ctx.setting.flags negated members),
        t,
      ))) [ true ↦ finds_some _ _ tt | false ↦ finds_some _ _ tt ]
  property_atom-good negated (of_strings written, t) h =
      finds_cond _ negated _ _ (λ _. finds_none _) (λ _. finds_some _ _ (ordered ctx.dialect))
    where
      ordered : (dialect : Dialect) → OfCodePoints (ordered_strings (record ctx { dialect = dialect }) written)
      ordered Regress = h
      ordered Ecma = All-longest_first (All IsCodePoint) written h

  property_atom_at-good : (negated : Bool) (t : Source) → Finds (IsGoodAtom n) (property_atom_at ctx negated t)
  property_atom_at-good negated t =
      finds_then PropertyInRange (IsGoodAtom n) (property_at ctx.setting.flags.unicode_sets ctx.setting.table t) _
      (property_at-in_range ctx.setting.table lawful ctx.setting.flags.unicode_sets t) (property_atom-good negated)

  number_reference_at-good : (c : ℕ) (t : Source) → AreCodePoints (c ∷ t) → is_between 49 57 c ≡ true → Finds (IsGoodAtom n) (number_reference_at ctx c t)
  number_reference_at-good c t all first =
      finds_cond _ (nat_le (number 10 (front is_decimal (c ∷ t))) ctx.groups) _ _
      (λ e. finds_some _ _ (number-least c t first, grind (arith, nat_tests, within)))
      (λ _. finds_cond _ ctx.setting.flags.unicode _ _ (λ _. finds_none _) (λ _. character_at-good c t all))

  name_reference_at-good : (t : Source) → Finds (IsGoodAtom n) (name_reference_at ctx t)
  name_reference_at-good t =
      finds_then _ _ (group_name_at ctx.setting.table t) _ (finds_any (group_name_at ctx.setting.table t))
      (λ x _. finds_cond _ (has_name x.0 ctx.names) _ _ (λ _. finds_some _ _ (good-named n ctx.dialect x.0)) (λ _. finds_none _))

  escape_productions-good : (c : ℕ) (t : Source) → AreCodePoints (c ∷ t) → EachProduction (Finds (IsGoodAtom n)) (escape_productions ctx c t)
  escape_productions-good c t all =
      (λ _. finds_some _ _ tt)
      also (λ _. finds_some _ _ tt)
      also (λ _. finds_some _ _ (omega arith))
      also (λ _. property_atom_at-good _ t)
      also number_reference_at-good c t all
      also (λ _. name_reference_at-good t)
      also (λ _. character_at-good c t all)
      also no_more

  escaped_by-good : (c : ℕ) (t : Source) → AreCodePoints (c ∷ t) → Finds (IsGoodAtom n) (escaped_by ctx c t)
  escaped_by-good c t all = by_letter (class_letter c)
    where
      by_letter : (letter : Option (CharacterClassType × Bool)) →
          Finds (IsGoodAtom n)
          (elim letter as (λ _. Found Atom) [
            | Some named ↦ Some (class_escape (class_flags ctx) named.0 named.1, t)
            | None ↦ first_production (escape_productions ctx c t)
          ])
      by_letter (Some named) = finds_some _ _ tt
      by_letter None = first_production-has (Finds (IsGoodAtom n)) (escape_productions ctx c t) (finds_none _) (escape_productions-good c t all)

  escaped_at-good : (t : Source) → AreCodePoints t → Finds (IsGoodAtom n) (escaped_at ctx t)
  escaped_at-good [] all = finds_none _
  escaped_at-good (c ∷ t) all = escaped_by-good c t all

  brace_by-good : (c : ℕ) (t : Source) → IsCodePoint c → Finds (IsGoodAtom n) (brace_by ctx c t)
  brace_by-good c t h =
      finds_cond _ (ctx.setting.flags.unicode || is_some (quantifier_at (c ∷ t))) _ _ (λ _. finds_none _) (λ _. finds_some _ _ h)

  brackets_at-good : (t : Source) → AreCodePoints t → Finds (IsGoodAtom n) (brackets_at ctx t)
  brackets_at-good t all =
      finds_cond _ ctx.setting.flags.unicode_sets _ _
      (λ _. finds_map (λ (found : Bool × Value). OfCodePoints found.1.strings) (IsGoodAtom n)
      (λ (negated, value). class_set ctx.setting.flags negated value) _ (λ found h. h)
      (class_set_at-in_range ctx.setting.table lawful (class_parameters ctx) t all.each))
      (λ _. finds_map (λ (_ : Bool × List Bounds). Unit {0}) (IsGoodAtom n) (λ (inverted, members). class (class_flags ctx) inverted (compared_members ctx members)) _
      (λ x holds. tt) (finds_any (class_at ctx.setting.table (class_parameters ctx) t)))

  atom_productions-good : (c : ℕ) (t : Source) → IsCodePoint c → AreCodePoints t → EachProduction (Finds (IsGoodAtom n)) (atom_productions ctx c t)
  atom_productions-good c t h all =
      (λ _. finds_some _ _ tt)
      also (λ _. finds_some _ _ tt)
      also (λ _. finds_some _ _ tt)
      also (λ _. escaped_at-good t all)
      also (λ _. brackets_at-good t all)
      also (λ _. brace_by-good c t h)
      also (λ _. finds_some _ _ h)
      also no_more

  atom_by-good : (c : ℕ) (t : Source) → IsCodePoint c → AreCodePoints t → Finds (IsGoodAtom n) (atom_by ctx c t)
  atom_by-good c t h all = first_production-has (Finds (IsGoodAtom n)) (atom_productions ctx c t) (finds_none _) (atom_productions-good c t h all)

  -- The start of an item is valid.
  pub head_at-good : (t : Source) → AreCodePoints t → Finds (IsGoodHead n) (head_at ctx t)
  unfolding head_at
  head_at-good [] all = finds_none _
  head_at-good (c ∷ t) all =
      finds_cond _ (c == opening) _ _ (λ _. group_at-good n ctx.setting.table t)
      (λ _. finds_map (IsGoodAtom n) (IsGoodHead n) single (atom_by ctx c t) (λ a h. h)
      (atom_by-good c t (All-head IsCodePoint c t all.each) (rest_of all)))
