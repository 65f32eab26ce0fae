-- The escapes that the parser finds outside of classes are those that AtomEscape of ECMA-262 derives.
use Rattle.std.proofs.Common.{◌≡◌, ℕ, ◌==◌, ◌⊎◌, inl, inr, Bool, true, false, not, ◌&&◌, ◌||◌, List, [], ◌∷◌, length, Option, Some, None, if◌then◌else◌, refl, sym, ap, subst, ◌∙◌, nat_le, arith}
use Rattle.std.specs.Option.{option_or}
use Rattle.std.proofs.lemmas.Bool.{false≢true}
use Rattle.std.proofs.lemmas.Bool.Decides.{nat_tests}
use Rattle.regress_base.specs.declared.charclasses.CharacterClassType.{CharacterClassType}
use Rattle.regress_base.specs.declared.charclasses.CharacterClassType.TheVariants.{Digits, Spaces, Words}
use Rattle.regress_base.specs.declared.types.Flags.{Flags}
use Rattle.regress_base.specs.Intervals.{Bounds}
use Rattle.regress_base.specs.Table.{Table}
use Rattle.regress_lexer.specs.declared.dialect.Dialect.TheVariants.{Ecma}
use Rattle.regress_lexer.specs.Source.{Source, Found, found_map, first_production, char, is_one_of}
use Rattle.regress_lexer.specs.Digits.{is_decimal, control, number, front, after}
use Rattle.regress_lexer.specs.Escapes.{begins_with_letter, escape_at, character_escape_at}
use Rattle.regress_classes.specs.ClassProductions.{complement, class_letter}
use Rattle.regress_classes.specs.Properties.{Property, of_points, of_strings, property_at}
use Rattle.regress_syntax.specs.Productions.{Context, atom_allows, begins_number, has_names, is_lone_backslash, class_flags, complements_first, point_property, number_reference_at, escape_productions, escaped_by}
use Rattle.regress_syntax.specs.Syntax.{Name, Atom, literal, class_escape, class, back_reference, by_number}
use Rattle.regress_ecma.specs.CharacterEscapes.{character_escape, lead_unit}
use Rattle.regress_ecma.specs.ClassNodes as Nodes
use Rattle.regress_ecma.specs.ClassRanges.{character_class_escape}
use Rattle.regress_ecma.specs.PatternNodes.{AtomEscape, decimal, character_class, character}
use Rattle.regress_ecma.specs.Patterns.{Mode, group_escape, atom_escape, is_wrong_escape}
use Rattle.regress_ecma.proofs.ClassAtomNodes.{letter_none, not_p, no_identity, no_brace_u}
use Rattle.regress_ecma.proofs.EscapesWithU.{at_character, by_case, and_false, escape_with_u}
use Rattle.regress_ecma.proofs.EscapesWithoutU.{HasTrail, IsUnits, escape_without_u}

-- ---- letters

no_small_b : (c : ℕ) → is_one_of "bB" c ≡ false → (c == char "b") ≡ false
no_small_b c e = grind (arith, nat_tests, e)

no_capital_b : (c : ℕ) → is_one_of "bB" c ≡ false → (c == char "B") ≡ false
no_capital_b c e = grind (arith, nat_tests, e)

-- ---- contexts and modes

module _ (table : Table) (i m s v : Bool) (names : List (Option Name)) where
  abbrev pub flags : (unicode : Bool) → Flags
  flags u = record { icase = i; multiline = m; dot_all = s; unicode = u; unicode_sets = v }

  -- the parser's context
  abbrev pub context : (unicode : Bool) → Context
  context u = record { dialect = Ecma; setting = record { flags = flags u; table = table }; groups = length names; names = names }

  abbrev pub mode : (unicode : Bool) → Mode
  mode u = record { unicode = u; sets = v; has_names = has_names names; group_count = length names }

  -- The same is found, or the number of a group that there is not, or the lead surrogate with the trail surrogate after it.
  abbrev pub IsEscapeOf : (unicode : Bool) → (mine : Found AtomEscape) → (found : Found Atom) → Type 0
  IsEscapeOf u mine None =
      (mine ≡ None) ⊎ ((n : ℕ) × (rest : Source) × (mine ≡ Some (decimal n, rest)) × (nat_le n (length names) ≡ false))
  IsEscapeOf u mine (Some (a, rest)) =
      (atom_allows Ecma a ≡ true)
      × (((node : AtomEscape) × (mine ≡ Some (node, rest)) × (is_wrong_escape names node ≡ false))
      ⊎ (u ≡ false) × ((c : ℕ) × (w : Source) × (mine ≡ Some (character (lead_unit c), w)) × HasTrail c w rest))

  no_letter : (u : Bool) (c : ℕ) (t : Source) → class_letter c ≡ None → escaped_by (context u) c t ≡ first_production (escape_productions (context u) c t)
  no_letter u c t e =
      ap (λ (o : Option (CharacterClassType × Bool)). elim o as (λ _. Found Atom) [
        | None ↦ first_production (escape_productions (context u) c t)
        | Some letter ↦ Some (class_escape (class_flags (context u)) letter.0 letter.1, t)
      ]) e

  capital_allows : (members : List Bounds) → atom_allows Ecma (point_property (context true) true members) ≡ true
  capital_allows members = by (complements_first (context true))
    where
      by : (b : Bool) → atom_allows Ecma (if b then class (flags true) false (complement members) else class (flags true) true members) ≡ true
      by true = refl
      by false = refl

  -- ---- with the flag u

  Alike_u : ℕ → Source → Type 0
  Alike_u c t = IsEscapeOf true (atom_escape table (mode true) (c ∷ t)) (escaped_by (context true) c t)

  of_characters : (x : Found ℕ) → IsEscapeOf true (option_or (found_map character x) None) (found_map (literal (flags true)) x)
  of_characters None = inl refl
  of_characters (Some (c, rest)) = (refl, inl (character c, refl, refl))

  small_p : (t : Source) → Alike_u (char "p") t
  unfolding Alike_u
  small_p t = by (property_at v table t) refl
    where
      by : (found : Found Property) → property_at v table t ≡ found →
          IsEscapeOf true (atom_escape table (mode true) (char "p" ∷ t)) (escaped_by (context true) (char "p") t)
      by None e = rw e (inl refl)
      by (Some (of_points members, rest)) e = rw e (refl, inl (character_class (Nodes.property members false), refl, refl))
      by (Some (of_strings written, rest)) e = rw e (refl, inl (character_class (Nodes.string_property written), refl, refl))

  capital_p : (t : Source) → Alike_u (char "P") t
  unfolding Alike_u
  capital_p t = by (property_at v table t) refl
    where
      by : (found : Found Property) → property_at v table t ≡ found →
          IsEscapeOf true (atom_escape table (mode true) (char "P" ∷ t)) (escaped_by (context true) (char "P") t)
      by None e = rw e (inl refl)
      by (Some (of_points members, rest)) e =
          rw e (capital_allows members, inl (character_class (Nodes.property members true), refl, refl))
      by (Some (of_strings written, rest)) e = rw e (inl refl)

  -- the number of a group
  number_u : (c : ℕ) (t : Source) → begins_number c ≡ true → escaped_by (context true) c t ≡ number_reference_at (context true) c t → Alike_u c t
  unfolding Alike_u
  number_u c t digit found =
      subst (IsEscapeOf true (atom_escape table (mode true) (c ∷ t))) (sym found) (by (nat_le n (length names)) refl)
    where
      n : ℕ
      n = number 10 (front is_decimal (c ∷ t))

      by : (b : Bool) → nat_le n (length names) ≡ b →
          IsEscapeOf true (atom_escape table (mode true) (c ∷ t))
          (if b then Some (back_reference (flags true) (by_number n), after is_decimal (c ∷ t)) else None)
      by true e = rw digit (refl, inl (decimal n, refl, ap not e))
      by false e = rw digit (inr (n, after is_decimal (c ∷ t), refl, e))

  other_u : (c : ℕ) (t : Source) →
      atom_escape table (mode true) (c ∷ t) ≡ option_or (found_map character (character_escape true (has_names names) (c ∷ t))) None →
      escaped_by (context true) c t ≡ found_map (literal (flags true)) (escape_at true (c ∷ t)) → Alike_u c t
  unfolding Alike_u
  other_u c t left right =
      subst (λ (mine : Found AtomEscape). IsEscapeOf true mine (escaped_by (context true) c t)) (sym left)
      (subst (IsEscapeOf true (option_or (found_map character (character_escape true (has_names names) (c ∷ t))) None)) (sym right)
      (subst (λ (x : Found ℕ). IsEscapeOf true (option_or (found_map character (character_escape true (has_names names) (c ∷ t))) None) (found_map (literal (flags true)) x))
      (escape_with_u (has_names names) (c ∷ t)) (of_characters (character_escape true (has_names names) (c ∷ t)))))

  escapes_u : (c : ℕ) (t : Source) → is_one_of "bB" c ≡ false → (c == char "k") ≡ false → Alike_u c t
  unfolding Alike_u
  escapes_u c t no_b k =
      at_character (λ d. Alike_u d t) (char "d") c (refl, inl (character_class (Nodes.class_escape Digits false), refl, refl))
      (λ d. at_character (λ d. Alike_u d t) (char "D") c (refl, inl (character_class (Nodes.class_escape Digits true), refl, refl))
      (λ dd. at_character (λ d. Alike_u d t) (char "s") c (refl, inl (character_class (Nodes.class_escape Spaces false), refl, refl))
      (λ s. at_character (λ d. Alike_u d t) (char "S") c (refl, inl (character_class (Nodes.class_escape Spaces true), refl, refl))
      (λ ss. at_character (λ d. Alike_u d t) (char "w") c (refl, inl (character_class (Nodes.class_escape Words false), refl, refl))
      (λ w. at_character (λ d. Alike_u d t) (char "W") c (refl, inl (character_class (Nodes.class_escape Words true), refl, refl))
      (λ ww. at_character (λ d. Alike_u d t) (char "p") c (small_p t)
      (λ p. at_character (λ d. Alike_u d t) (char "P") c (capital_p t)
      (λ pp. by_case (begins_number c)
      (λ digit. number_u c t digit (no_letter true c t (letter_none c d dd s ss w ww) ∙ reference p pp digit))
      (λ digit. other_u c t (left d dd s ss w ww p pp digit) (no_letter true c t (letter_none c d dd s ss w ww) ∙ right p pp digit))))))))))
    where
      reference : (c == char "p") ≡ false → (c == char "P") ≡ false → begins_number c ≡ true →
          first_production (escape_productions (context true) c t) ≡ number_reference_at (context true) c t
      reference p pp digit = rw (no_small_b c no_b, no_capital_b c no_b, and_false (c == char "c"), not_p c p pp, digit) refl

      left : (c == char "d") ≡ false → (c == char "D") ≡ false → (c == char "s") ≡ false → (c == char "S") ≡ false → (c == char "w") ≡ false →
          (c == char "W") ≡ false → (c == char "p") ≡ false → (c == char "P") ≡ false → begins_number c ≡ false →
          atom_escape table (mode true) (c ∷ t) ≡ option_or (found_map character (character_escape true (has_names names) (c ∷ t))) None
      left d dd s ss w ww p pp digit = rw (digit, d, dd, s, ss, w, ww, p, pp) refl

      right : (c == char "p") ≡ false → (c == char "P") ≡ false → begins_number c ≡ false →
          first_production (escape_productions (context true) c t) ≡ found_map (literal (flags true)) (escape_at true (c ∷ t))
      right p pp digit =
          rw (no_small_b c no_b, no_capital_b c no_b, and_false (c == char "c"), not_p c p pp, digit, k, no_brace_u c t) refl

-- ---- without the flag u

module _ (table : Table) (i m s : Bool) (names : List (Option Name)) where
  abbrev own : Context
  own = context table i m s false names false

  abbrev own_mode : Mode
  own_mode = mode table i m s false names false

  abbrev Is : (mine : Found AtomEscape) → (found : Found Atom) → Type 0
  Is = IsEscapeOf table i m s false names false

  abbrev own_flags : Flags
  own_flags = flags table i m s false names false

  Alike : ℕ → Source → Type 0
  Alike c t = Is (atom_escape table own_mode (c ∷ t)) (escaped_by own c t)

  of_units : (mine found : Found ℕ) → IsUnits table (has_names names) mine found →
      Is (option_or (found_map character mine) None) (found_map (literal own_flags) found)
  of_units mine None units = inl (rw units refl)
  of_units mine (Some (x, rest)) (inl (small, e)) = (refl, inl (character x, rw e refl, refl))
  of_units mine (Some (x, rest)) (inr (u, big, e, trails)) = (refl, inr (refl, (x, u, rw e refl, trails)))

  other : (c : ℕ) (t : Source) → atom_escape table own_mode (c ∷ t) ≡ option_or (found_map character (character_escape false (has_names names) (c ∷ t))) None →
      escaped_by own c t ≡ found_map (literal own_flags) (character_escape_at Ecma false (c ∷ t)) →
      IsUnits table (has_names names) (character_escape false (has_names names) (c ∷ t)) (character_escape_at Ecma false (c ∷ t)) → Alike c t
  unfolding Alike
  other c t left right units =
      subst (λ (mine : Found AtomEscape). Is mine (escaped_by own c t)) (sym left)
      (subst (Is (option_or (found_map character (character_escape false (has_names names) (c ∷ t))) None)) (sym right)
      (of_units (character_escape false (has_names names) (c ∷ t)) (character_escape_at Ecma false (c ∷ t)) units))

  -- a control letter
  control_units : (t : Source) → begins_with_letter t ≡ true → Alike (char "c") t
  unfolding Alike escape_at
  control_units [] e = absurd (false≢true e)
  control_units (d ∷ t) e = rw e (refl, inl (character (control d), refl, refl))

  group_units : (c : ℕ) (t : Source) → begins_number c ≡ true → nat_le (number 10 (front is_decimal (c ∷ t))) (length names) ≡ true →
      escaped_by own c t ≡ number_reference_at own c t → Alike c t
  unfolding Alike
  group_units c t digit few found =
      subst (Is (atom_escape table own_mode (c ∷ t))) (sym found) (rw (digit, few)
      (refl, inl (decimal (number 10 (front is_decimal (c ∷ t))), refl, ap not few)))

  escapes : (c : ℕ) (t : Source) → is_one_of "bB" c ≡ false → is_lone_backslash false c t ≡ false → (c == char "k" && has_names names) ≡ false → Alike c t
  unfolding Alike
  escapes c t no_b lone k =
      at_character (λ d. Alike d t) (char "d") c (refl, inl (character_class (Nodes.class_escape Digits false), refl, refl))
      (λ d. at_character (λ d. Alike d t) (char "D") c (refl, inl (character_class (Nodes.class_escape Digits true), refl, refl))
      (λ dd. at_character (λ d. Alike d t) (char "s") c (refl, inl (character_class (Nodes.class_escape Spaces false), refl, refl))
      (λ s'. at_character (λ d. Alike d t) (char "S") c (refl, inl (character_class (Nodes.class_escape Spaces true), refl, refl))
      (λ ss. at_character (λ d. Alike d t) (char "w") c (refl, inl (character_class (Nodes.class_escape Words false), refl, refl))
      (λ w. at_character (λ d. Alike d t) (char "W") c (refl, inl (character_class (Nodes.class_escape Words true), refl, refl))
      (λ ww. at_character (λ d. is_lone_backslash false d t ≡ false → Alike d t) (char "c") c (λ lone. control_units t (letter_follows lone))
      (λ letter lone. by_case (begins_number c)
      (λ digit. by_case (nat_le (number 10 (front is_decimal (c ∷ t))) (length names))
      (λ few. group_units c t digit few (no_letter table i m s false names false c t (letter_none c d dd s' ss w ww) ∙ reference letter digit))
      (λ many. other c t (left d dd s' ss w ww (beyond digit many)) (no_letter table i m s false names false c t
      (letter_none c d dd s' ss w ww) ∙ reference letter digit ∙ past many)
      (escape_without_u table (has_names names) c t (no_identity (has_names names) c letter k))))
      (λ digit. other c t (left d dd s' ss w ww (no_number digit)) (no_letter table i m s false names false c t
      (letter_none c d dd s' ss w ww) ∙ right letter digit)
      (escape_without_u table (has_names names) c t (no_identity (has_names names) c letter k)))) lone))))))
    where
      letter_follows : not (begins_with_letter t) ≡ false → begins_with_letter t ≡ true
      letter_follows e = by (begins_with_letter t) e
        where
          by : (b : Bool) → not b ≡ false → b ≡ true
          by true e = refl
          by false e = sym e

      reference : (c == char "c") ≡ false → begins_number c ≡ true →
          first_production (escape_productions own c t) ≡ number_reference_at own c t
      reference letter digit = rw (no_small_b c no_b, no_capital_b c no_b, letter, and_false (is_one_of "pP" c), digit) refl

      past : nat_le (number 10 (front is_decimal (c ∷ t))) (length names) ≡ false →
          number_reference_at own c t ≡ found_map (literal own_flags) (character_escape_at Ecma false (c ∷ t))
      past many = rw many refl

      beyond : begins_number c ≡ true → nat_le (number 10 (front is_decimal (c ∷ t))) (length names) ≡ false → group_escape table own_mode (c ∷ t) ≡ None
      beyond digit many = rw (digit, many) refl

      no_number : begins_number c ≡ false → group_escape table own_mode (c ∷ t) ≡ None
      no_number digit = rw digit refl

      left : (c == char "d") ≡ false → (c == char "D") ≡ false → (c == char "s") ≡ false → (c == char "S") ≡ false → (c == char "w") ≡ false →
          (c == char "W") ≡ false → group_escape table own_mode (c ∷ t) ≡ None →
          atom_escape table own_mode (c ∷ t) ≡ option_or (found_map character (character_escape false (has_names names) (c ∷ t))) None
      left d dd s' ss w ww none =
          ap (λ (o : Found AtomEscape). option_or o (option_or (found_map character_class (character_class_escape false false table (c ∷ t)))
          (option_or (found_map character (character_escape false (has_names names) (c ∷ t))) None))) none
          ∙ rw (d, dd, s', ss, w, ww) refl

      right : (c == char "c") ≡ false → begins_number c ≡ false →
          first_production (escape_productions own c t) ≡ found_map (literal own_flags) (character_escape_at Ecma false (c ∷ t))
      right letter digit = rw (no_small_b c no_b, no_capital_b c no_b, letter, and_false (is_one_of "pP" c), digit, k) refl

-- ---- in both cases

-- The flag v implies u.
pub escapes_alike : (table : Table) (i m s : Bool) (names : List (Option Name)) (u v : Bool) → (v ≡ true → u ≡ true) →
    (c : ℕ) (t : Source) → is_one_of "bB" c ≡ false → is_lone_backslash u c t ≡ false → (c == char "k" && (u || has_names names)) ≡ false →
    IsEscapeOf table i m s v names u (atom_escape table (mode table i m s v names u) (c ∷ t)) (escaped_by (context table i m s v names u) c t)
unfolding Alike_u Alike
escapes_alike table i m s names true v implied c t no_b lone k = escapes_u table i m s v names c t no_b (no_k (c == char "k") k)
  where
    no_k : (b : Bool) → (b && true) ≡ false → b ≡ false
    no_k true e = e
    no_k false e = refl
escapes_alike table i m s names false true implied c t no_b lone k = absurd (false≢true (implied refl))
escapes_alike table i m s names false false implied c t no_b lone k = escapes table i m s names c t no_b lone k
