-- The productions of an atom of a class without the flag v find what ClassAtom of ECMA-262 derives.
use Rattle.std.proofs.Common.{◌≡◌, ℕ, ◌==◌, ◌⊎◌, inl, inr, Bool, true, false, ◌&&◌, ◌||◌, List, [], ◌∷◌, Option, Some, None, if◌then◌else◌, refl, sym, ap, subst, ◌∙◌, nat_le, arith}
use Rattle.std.specs.Option.{option_or}
use Rattle.std.proofs.lemmas.Option.{none-some, same_Some}
use Rattle.regress_base.specs.Table.{Table}
use Rattle.regress_lexer.specs.declared.dialect.Dialect.TheVariants.{Ecma}
use Rattle.regress_lexer.specs.Source.{Source, Found, ◌>>=◌, found_map, char, is_at, is_one_of}
use Rattle.regress_classes.specs.declared.parameters.Parameters.{Parameters}
use Rattle.regress_classes.specs.Properties.{Property, of_points, of_strings, property_at}
use Rattle.regress_ecma.specs.ClassGrammar.{property_node, lead, trail, class_atom_at, is_split}
use Rattle.regress_ecma.specs.ClassNodes.{ClassAtom, character, class_escape}
use Rattle.regress_ecma.specs.ClassRanges.{class_atom, class_atom_no_dash, class_escape_of}
use Rattle.std.specs.Option.{option_map}
use Rattle.std.proofs.lemmas.Bool.Decides.{nat_tests}
use Rattle.std.proofs.Common.{drop, ◌%◌, ◌<◌}
use Rattle.regress_base.specs.declared.charclasses.CharacterClassType.{CharacterClassType}
use Rattle.regress_lexer.specs.Digits.{is_decimal, is_letter, control}
use Rattle.regress_lexer.specs.Source.{first_production}
use Rattle.regress_lexer.specs.Escapes.{character_escape_at}
use Rattle.regress_classes.specs.ClassProductions.{class_letter}
use Rattle.regress_ecma.specs.ClassGrammar.{escape_productions}
use Rattle.regress_ecma.specs.CharacterEscapes.{legacy_octal_escape, identity_escape, lead_unit, trail_unit}
use Rattle.regress_ecma.proofs.OctalEscapes.{no_octal_escape}
use Rattle.regress_base.specs.Intervals.{Bounds}
use Rattle.regress_base.specs.Table.{Named, named}
use Rattle.regress_lexer.specs.Dialects.{is_lone_u}
use Rattle.regress_lexer.specs.Escapes.{escape_at}
use Rattle.regress_lexer.proofs.lemmas.InRange.{Finds, finds_none, finds_some, finds_cond, finds_then}
use Rattle.regress_classes.specs.Properties.{closed_property, value_in, list_named, lone_value, property_word_at, listed_value_at, braced_property_at}
use Rattle.regress_ecma.specs.CharacterEscapes.{character_escape, is_no_identity}
use Rattle.regress_ecma.specs.ClassGrammar.{class_escape_at}
use Rattle.regress_ecma.specs.ClassRanges.{property_value, property_escape, backslash_before_c}
use Rattle.regress_ecma.proofs.EscapesWithU.{at_character, or_none, and_false, escape_with_u}
use Rattle.regress_ecma.proofs.EscapesWithoutU.{IsUnits, escape_without_u, class_trail}

-- the parameters of a class in the dialect
abbrev pub own : (icase unicode named : Bool) → Parameters
own icase unicode named = record { dialect = Ecma; icase = icase; unicode = unicode; named = named }

module _ (table : Table) (icase unicode named : Bool) where
  -- The same is found, or the lead surrogate with the trail surrogate after it.
  abbrev pub IsAtomOf : (mine found : Found ClassAtom) → Type 0
  IsAtomOf mine None = mine ≡ None
  IsAtomOf mine (Some (a, rest)) =
      (is_split table (own icase unicode named) a ≡ false) × (mine ≡ Some (a, rest))
      ⊎ ((u : Source) × (is_split table (own icase unicode named) a ≡ true) × (mine ≡ Some (lead a, u))
      × (class_atom_no_dash table unicode named u ≡ Some (trail a, rest)))

  same_is : (mine found : Found ClassAtom) → ((a : ClassAtom) → is_split table (own icase unicode named) a ≡ false) → mine ≡ found → IsAtomOf mine found
  same_is mine None none e = e
  same_is mine (Some (a, rest)) none e = inl (none a, e)

-- ---- properties

-- Without the flag v no property is one of strings.
abbrev pub IsOfPoints : Property → Type 0
IsOfPoints (of_points members) = Unit {0}
IsOfPoints (of_strings written) = ⊥

mapped_points : (members : Option (List Bounds)) → (p : Property) → option_map of_points members ≡ Some p → IsOfPoints p
mapped_points None p e = absurd (none-some p e)
mapped_points (Some members) p e = subst IsOfPoints (same_Some (of_points members) p e) tt

either_points : (a b : Option (List Bounds)) (p : Property) → option_or (option_map of_points a) (option_or None (option_map of_points b)) ≡ Some p →
    IsOfPoints p
either_points None b p e = mapped_points b p e
either_points (Some a) b p e = mapped_points (Some a) p e

closed_points : (found : Option Property) (t : Source) → ((p : Property) → found ≡ Some p → IsOfPoints p) →
    Finds IsOfPoints (closed_property found t)
closed_points None t h = finds_none IsOfPoints
closed_points (Some p) t h =
    finds_cond IsOfPoints (is_at (char "}") t) (Some (p, drop 1 t)) None (λ _. finds_some IsOfPoints (p, drop 1 t) (h p refl)) (λ _. finds_none IsOfPoints)

Anything : List ℕ → Type 0
Anything x = Unit {0}

any_word : (found : Found (List ℕ)) → Finds Anything found
unfolding Anything
any_word found = record { each = λ x e. tt }

listed_points : (value : List ℕ) (entries : Option (List (Named (List Bounds)))) (p : Property) → value_in value entries ≡ Some p → IsOfPoints p
listed_points value None p e = absurd (none-some p e)
listed_points value (Some entries) p e = mapped_points (named value entries) p e

pub property_points : (table : Table) (t : Source) → Finds IsOfPoints (property_at false table t)
unfolding property_at
property_points table t =
    finds_cond IsOfPoints (is_at (char "{") t) (braced_property_at false table (drop 1 t)) None
    (λ _. finds_then Anything IsOfPoints (property_word_at (drop 1 t)) _ (any_word (property_word_at (drop 1 t)))
    (λ x _. finds_cond IsOfPoints (is_at (char "=") x.1) (listed_value_at table x.0 (drop 1 x.1)) (closed_property (lone_value false table x.0) x.1)
    (λ _. finds_then Anything IsOfPoints (property_word_at (drop 1 x.1)) _ (any_word (property_word_at (drop 1 x.1)))
    (λ y _. closed_points (value_in y.0 (list_named table x.0)) y.1 (listed_points y.0 (list_named table x.0))))
    (λ _. closed_points (lone_value false table x.0) x.1
    (either_points (named x.0 table.binary) (named x.0 table.general_category)))))
    (λ _. finds_none IsOfPoints)

property_same : (table : Table) (capital : Bool) (t : Source) →
    property_value false table capital t ≡ found_map (property_node capital) (property_at false table t)
property_same table capital t = by (property_at false table t) (property_points table t)
  where
    by : (found : Found Property) → Finds IsOfPoints found → found >>= property_escape capital ≡ found_map (property_node capital) found
    by None points = refl
    by (Some (of_points members, rest)) points = refl
    by (Some (of_strings written, rest)) points = absurd (points.each (of_strings written, rest) refl)

-- ---- letters

pub not_p : (c : ℕ) → (c == char "p") ≡ false → (c == char "P") ≡ false → is_one_of "pP" c ≡ false
not_p c small capital = grind (arith, nat_tests)

no_syntax : (c : ℕ) → (c == char "]") ≡ false → (c == char "\\") ≡ false → (c == char "-") ≡ false → is_one_of "\\]-" c ≡ false
no_syntax c close slash dash = grind (arith, nat_tests)

pub no_identity : (named : Bool) (c : ℕ) → (c == char "c") ≡ false → (c == char "k" && named) ≡ false → is_no_identity named c ≡ false
no_identity true c letter k = grind (arith, nat_tests)
no_identity false c letter k = letter

pub no_brace_u : (c : ℕ) (t : Source) → is_lone_u Ecma true c t ≡ false
no_brace_u c t = by (c == char "u")
  where
    by : (b : Bool) → (b && false && is_at (char "{") t) ≡ false
    by true = refl
    by false = refl

pub letter_none : (c : ℕ) → (c == char "d") ≡ false → (c == char "D") ≡ false → (c == char "s") ≡ false → (c == char "S") ≡ false →
    (c == char "w") ≡ false → (c == char "W") ≡ false → class_letter c ≡ None
letter_none c d dd s ss w ww = rw (d, dd, s, ss, w, ww) refl

no_letter : (table : Table) (parameters : Parameters) (c : ℕ) (t : Source) → class_letter c ≡ None →
    class_escape_at table parameters (c ∷ t) ≡ first_production (escape_productions table parameters c t)
no_letter table parameters c t e =
    ap (λ (o : Option (CharacterClassType × Bool)). elim o as (λ _. Found ClassAtom) [
      | None ↦ first_production (escape_productions table parameters c t)
      | Some letter ↦ Some (class_escape letter.0 letter.1, t)
    ]) e

-- ---- with the flag u

module _ (table : Table) (icase named : Bool) where
  abbrev EscapesAlike : Source → Type 0
  EscapesAlike t = class_escape_of table true named t ≡ class_escape_at table (own icase true named) t

  after_p : (capital : Bool) (found : Found ClassAtom) (t : Source) → found ≡ found_map (property_node capital) (property_at false table t) →
      option_or (option_or found None) None ≡ found_map (property_node capital) (property_at false table t)
  after_p capital found t e = or_none (option_or found None) ∙ or_none found ∙ e

  at_k : (b : Bool) (t : Source) → class_escape_of table true b (char "k" ∷ t) ≡ class_escape_at table (own icase true b) (char "k" ∷ t)
  unfolding escape_at
  at_k true t = refl
  at_k false t = refl

  escape_u : (t : Source) → EscapesAlike t
  escape_u [] = refl
  escape_u (c ∷ t) =
      at_character (λ d. EscapesAlike (d ∷ t)) (char "d") c refl
      (λ d. at_character (λ d. EscapesAlike (d ∷ t)) (char "D") c refl
      (λ dd. at_character (λ d. EscapesAlike (d ∷ t)) (char "s") c refl
      (λ s. at_character (λ d. EscapesAlike (d ∷ t)) (char "S") c refl
      (λ ss. at_character (λ d. EscapesAlike (d ∷ t)) (char "w") c refl
      (λ w. at_character (λ d. EscapesAlike (d ∷ t)) (char "W") c refl
      (λ ww. at_character (λ d. EscapesAlike (d ∷ t)) (char "b") c refl
      (λ b. at_character (λ d. EscapesAlike (d ∷ t)) (char "-") c refl
      (λ dash. at_character (λ d. EscapesAlike (d ∷ t)) (char "p") c (after_p false (property_value false table false t) t (property_same table false t))
      (λ p. at_character (λ d. EscapesAlike (d ∷ t)) (char "P") c (after_p true (property_value false table true t) t (property_same table true t))
      (λ pp. at_character (λ d. EscapesAlike (d ∷ t)) (char "k") c (at_k named t)
      (λ k. left d dd s ss w ww b dash p pp ∙ or_none (found_map character (character_escape true named (c ∷ t)))
      ∙ ap (found_map character) (escape_with_u named (c ∷ t))
      ∙ sym (no_letter table (own icase true named) c t (letter_none c d dd s ss w ww) ∙ right b dash p pp k))))))))))))
    where
      left : (c == char "d") ≡ false → (c == char "D") ≡ false → (c == char "s") ≡ false → (c == char "S") ≡ false → (c == char "w") ≡ false →
          (c == char "W") ≡ false → (c == char "b") ≡ false → (c == char "-") ≡ false → (c == char "p") ≡ false → (c == char "P") ≡ false →
          class_escape_of table true named (c ∷ t) ≡ option_or (found_map character (character_escape true named (c ∷ t))) None
      left d dd s ss w ww b dash p pp = rw (d, dd, s, ss, w, ww, b, dash, p, pp) refl

      right : (c == char "b") ≡ false → (c == char "-") ≡ false → (c == char "p") ≡ false → (c == char "P") ≡ false → (c == char "k") ≡ false →
          first_production (escape_productions table (own icase true named) c t) ≡ found_map character (escape_at true (c ∷ t))
      right b dash p pp k = rw (b, dash, and_false (c == char "c"), not_p c p pp, k, no_brace_u c t) refl

  pub atom_u : (t : Source) → class_atom table true named t ≡ class_atom_at table (own icase true named) t
  unfolding class_atom class_atom_no_dash
  atom_u [] = refl
  atom_u (c ∷ t) =
      at_character (λ d. class_atom table true named (d ∷ t) ≡ class_atom_at table (own icase true named) (d ∷ t)) (char "]") c refl
      (λ close. at_character (λ d. class_atom table true named (d ∷ t) ≡ class_atom_at table (own icase true named) (d ∷ t)) (char "\\") c
      (or_none _ ∙ or_none _ ∙ escape_u t)
      (λ slash. at_character (λ d. class_atom table true named (d ∷ t) ≡ class_atom_at table (own icase true named) (d ∷ t)) (char "-") c refl
      (λ dash. rw (class_atom, class_atom_no_dash, close, slash, dash, no_syntax c close slash dash) refl)))

-- ---- without the flag u

module _ (table : Table) (icase named : Bool) where
  abbrev Is : (mine found : Found ClassAtom) → Type 0
  Is = IsAtomOf table icase false named

  -- after a backslash
  abbrev mine : Source → Found ClassAtom
  mine t = option_or (class_escape_of table false named t) (option_or (backslash_before_c t) None)

  abbrev EscapesTo : Source → Type 0
  EscapesTo t = Is (mine t) (class_escape_at table (own icase false named) t)

  no_more : (d : ℕ) (t : Source) → option_or (legacy_octal_escape (char "c" ∷ t)) (option_or (identity_escape false named (char "c" ∷ t)) None) ≡ None
  no_more d t = rw (no_octal_escape (char "c") t refl) (by named)
    where
      by : (b : Bool) → option_or {T = ℕ × Source} (option_or (if (if b then true else true) then None else Some (char "c", t)) None) None ≡ None
      by true = refl
      by false = refl

  control_small : (d : ℕ) → nat_le 0x10000 (control d) ≡ false
  control_small d = let small : d % 32 < 32 = omega arith in grind (arith, nat_tests)

  at_c : (t : Source) → EscapesTo (char "c" ∷ t)
  at_c [] = rw (no_more 0 []) (inl (refl, refl))
  at_c (d ∷ t) = rw (no_more 0 (d ∷ t)) (by (is_letter d) (is_decimal d) (d == char "_"))
    where
      by : (letter decimal line : Bool) →
          Is
          (option_or
          (option_or (found_map character ((if decimal || line then Some (d, t) else None) >>= λ (c, rest). Some (control c, rest)))
          (option_or (found_map character (option_or ((if letter then Some (d, t) else None) >>= λ (c, rest). Some (control c, rest)) None)) None))
          (Some (character (char "\\"), char "c" ∷ d ∷ t)))
          (if letter || decimal || line then Some (character (control d), t) else Some (character (char "\\"), char "c" ∷ d ∷ t))
      by true true line = inl (control_small d, refl)
      by true false true = inl (control_small d, refl)
      by true false false = inl (control_small d, refl)
      by false true line = inl (control_small d, refl)
      by false false true = inl (control_small d, refl)
      by false false false = inl (refl, refl)

  of_units : (b : Bool) (c : ℕ) (t : Source) → (c == char "c") ≡ false → (escaped found : Found ℕ) → IsUnits table b escaped found →
      IsAtomOf table icase false b (option_or (option_or (found_map character escaped) None) (option_or (backslash_before_c (c ∷ t)) None))
      (found_map character found)
  of_units b c t letter escaped None units = rw (units, letter) refl
  of_units b c t letter escaped (Some (x, rest)) (inl (small, e)) = inl (small, rw e refl)
  of_units b c t letter escaped (Some (x, rest)) (inr (u, big, e, trails)) = inr (u, big, rw e refl, class_trail table b x u rest trails)

  k_units : (b : Bool) (t : Source) →
      IsAtomOf table icase false b (option_or (class_escape_of table false b (char "k" ∷ t)) (option_or (backslash_before_c (char "k" ∷ t)) None))
      (class_escape_at table (own icase false b) (char "k" ∷ t))
  k_units true t = rw (no_octal_escape (char "k") t refl) refl
  k_units false t = of_units false (char "k") t refl (character_escape false false (char "k" ∷ t)) (character_escape_at Ecma false (char "k" ∷ t))
      (escape_without_u table false (char "k") t refl)

  escape_units : (t : Source) → EscapesTo t
  escape_units [] = refl
  escape_units (c ∷ t) =
      at_character (λ d. EscapesTo (d ∷ t)) (char "d") c (inl (refl, refl))
      (λ d. at_character (λ d. EscapesTo (d ∷ t)) (char "D") c (inl (refl, refl))
      (λ dd. at_character (λ d. EscapesTo (d ∷ t)) (char "s") c (inl (refl, refl))
      (λ s. at_character (λ d. EscapesTo (d ∷ t)) (char "S") c (inl (refl, refl))
      (λ ss. at_character (λ d. EscapesTo (d ∷ t)) (char "w") c (inl (refl, refl))
      (λ w. at_character (λ d. EscapesTo (d ∷ t)) (char "W") c (inl (refl, refl))
      (λ ww. at_character (λ d. EscapesTo (d ∷ t)) (char "b") c (inl (refl, refl))
      (λ b. at_character (λ d. EscapesTo (d ∷ t)) (char "c") c (at_c t)
      (λ letter. at_character (λ d. EscapesTo (d ∷ t)) (char "k") c (k_units named t)
      (λ k. subst (Is (mine (c ∷ t))) (sym (no_letter table (own icase false named) c t (letter_none c d dd s ss w ww) ∙ right b letter k))
      (subst (λ (m : Found ClassAtom). Is (option_or m (option_or (backslash_before_c (c ∷ t)) None)) (found_map character
      (character_escape_at Ecma false (c ∷ t))))
      (sym (left d dd s ss w ww b letter))
      (of_units named c t letter (character_escape false named (c ∷ t)) (character_escape_at Ecma false (c ∷ t))
      (escape_without_u table named c t (no_identity named c letter (ap (λ (b : Bool). b && named) k))))))))))))))
    where
      left : (c == char "d") ≡ false → (c == char "D") ≡ false → (c == char "s") ≡ false → (c == char "S") ≡ false → (c == char "w") ≡ false →
          (c == char "W") ≡ false → (c == char "b") ≡ false → (c == char "c") ≡ false →
          class_escape_of table false named (c ∷ t) ≡ option_or (found_map character (character_escape false named (c ∷ t))) None
      left d dd s ss w ww b letter = rw (d, dd, s, ss, w, ww, b, letter) refl

      right : (c == char "b") ≡ false → (c == char "c") ≡ false → (c == char "k") ≡ false →
          first_production (escape_productions table (own icase false named) c t) ≡ found_map character (character_escape_at Ecma false (c ∷ t))
      right b letter k = rw (b, and_false (c == char "-"), letter, and_false (is_one_of "pP" c), k) refl

  atom_units : (t : Source) → Is (class_atom table false named t) (class_atom_at table (own icase false named) t)
  unfolding class_atom class_atom_no_dash
  atom_units [] = refl
  atom_units (c ∷ t) =
      at_character (λ d. Is (class_atom table false named (d ∷ t)) (class_atom_at table (own icase false named) (d ∷ t))) (char "]") c refl
      (λ close. at_character (λ d. Is (class_atom table false named (d ∷ t)) (class_atom_at table (own icase false named) (d ∷ t))) (char "\\") c
      (subst (λ (m : Found ClassAtom). Is m (class_escape_at table (own icase false named) t)) (sym (or_none (mine t))) (escape_units t))
      (λ slash. at_character (λ d. Is (class_atom table false named (d ∷ t)) (class_atom_at table (own icase false named) (d ∷ t))) (char "-") c
      (inl (refl, refl))
      (λ dash. rw (class_atom, class_atom_no_dash, close, slash, dash, no_syntax c close slash dash) (by (nat_le 0x10000 c) refl))))
    where
      by : (b : Bool) → nat_le 0x10000 c ≡ b →
          Is (option_or (option_or (found_map character (if b then Some (lead_unit c, trail_unit c ∷ t) else Some (c, t))) None) None) (Some (character c, t))
      by true e = inr (trail_unit c ∷ t, e, refl, class_trail table named c (trail_unit c ∷ t) t (inl refl))
      by false e = inl (e, refl)

module _ (table : Table) (icase : Bool) where
  pub atom_is : (unicode named : Bool) (t : Source) →
      IsAtomOf table icase unicode named (class_atom table unicode named t) (class_atom_at table (own icase unicode named) t)
  atom_is true named t = same_is table icase true named _ _ (λ a. refl) (atom_u table icase named t)
  atom_is false named t = atom_units table icase named t
