-- With the flag v an operand that ECMA-262 derives, and that is no nested class, is found by the productions.
use Rattle.std.proofs.Common.{◌≡◌, ℕ, ◌==◌, Bool, true, false, List, [], ◌∷◌, length, Option, Some, None, refl, sym, ap, subst, ◌∙◌, arith}
use Rattle.std.proofs.lemmas.Bool.{false≢true}
use Rattle.std.proofs.lemmas.Bool.Decides.{nat_tests}
use Rattle.std.proofs.lemmas.Option.{none-some, same_Some}
use Rattle.regress_base.specs.Intervals.{Bounds}
use Rattle.regress_base.specs.Table.{Table}
use Rattle.regress_base.specs.declared.charclasses.CharacterClassType.{CharacterClassType}
use Rattle.regress_base.specs.declared.charclasses.CharacterClassType.TheVariants.{Digits, Spaces, Words}
use Rattle.regress_lexer.specs.Source.{Source, Found, ◌>>=◌, found_map, first_production, char, is_one_of}
use Rattle.regress_lexer.specs.Escapes.{escape_at}
use Rattle.regress_classes.specs.declared.parameters.Parameters.{Parameters}
use Rattle.regress_classes.specs.ClassProductions.{class_letter, class_members}
use Rattle.regress_classes.specs.ClassSets.{only, Operand, value_of, value_of_strings, escaped_character_at, strings_by, property_operand}
use Rattle.regress_classes.specs.ClassSets as ClassSets
use Rattle.regress_classes.specs.Properties.{Property, of_points, of_strings, property_at}
use Rattle.regress_ecma.specs.ClassNodes.{ClassAtom, character, class_escape, property, string_property, class_strings}
use Rattle.regress_ecma.specs.ClassGrammar.{property_node, operand_productions, escaped_operand_at}
use Rattle.regress_ecma.specs.ClassRanges.{property_value, property_escape, character_class_escape}
use Rattle.regress_ecma.specs.ClassSetExpressions.{AreClassStrings, operand_may_contain_strings}
use Rattle.regress_ecma.proofs.EscapesWithU.{at_character, or_none}
use Rattle.regress_ecma.proofs.ClassAtomNodes.{own, letter_none}
use Rattle.regress_ecma.proofs.ClassSetCharacters.{strings_found}
use Rattle.regress_ecma.proofs.ClassSetValues.{IsPlain, strings_plain}

-- A character is found as one.
abbrev pub IsCharacter : ClassAtom → Operand → Type 0
IsCharacter (character c) operand = operand ≡ ClassSets.character c
IsCharacter other operand = Unit {0}

-- Both grammars find the operand, and it has no strings if the node may not contain any.
pub record AreFound (theirs : Found Operand) (mine : Found ClassAtom) (node : ClassAtom) (rest : Source) : Type 0 where
  pub operand : Operand
  pub found : theirs ≡ Some (operand, rest)
  pub node_found : mine ≡ Some (node, rest)
  pub same : IsCharacter node operand
  pub plain : operand_may_contain_strings node ≡ false → IsPlain (value_of operand)

pub only_plain : (members : List Bounds) → IsPlain (only members)
only_plain members = record { strings = refl; has_empty = refl; may_have = refl }

-- the same by other productions
pub found_by : (theirs theirs' : Found Operand) (mine mine' : Found ClassAtom) (node : ClassAtom) (rest : Source) → theirs ≡ theirs' → mine ≡ mine' →
    AreFound theirs' mine' node rest → AreFound theirs mine node rest
found_by theirs theirs' mine mine' node rest same same' are = record {
  operand = are.operand;
  found = same ∙ are.found;
  node_found = same' ∙ are.node_found;
  same = are.same;
  plain = are.plain;
}

module _ (table : Table) (icase named : Bool) where
  abbrev parameters : Parameters
  parameters = own icase true named

  abbrev theirs : Source → Found Operand
  theirs t = ClassSets.escaped_operand_at table parameters false t

  abbrev mine : Source → Found ClassAtom
  mine t = escaped_operand_at table parameters t

  abbrev escapes : Source → Found ClassAtom
  escapes t = character_class_escape true true table t

  -- ---- CharacterClassEscape

  abbrev EscapeIsFound : Source → Type 0
  EscapeIsFound t = (node : ClassAtom) (rest : Source) → escapes t ≡ Some (node, rest) → AreFound (theirs t) (mine t) node rest

  letter_found : (k : ℕ) (t : Source) (kind : CharacterClassType) (capital : Bool) → escapes (k ∷ t) ≡ Some (class_escape kind capital, t) →
      theirs (k ∷ t) ≡ Some (ClassSets.class (only (class_members table parameters (kind, capital))), t) →
      mine (k ∷ t) ≡ Some (class_escape kind capital, t) → EscapeIsFound (k ∷ t)
  letter_found k t kind capital is found node_found node rest e =
      subst (λ (x : ClassAtom × Source). AreFound (theirs (k ∷ t)) (mine (k ∷ t)) x.0 x.1)
      (same_Some (class_escape kind capital, t) (node, rest) (sym is ∙ e))
      (record {
        operand = ClassSets.class (only (class_members table parameters (kind, capital)));
        found = found;
        node_found = node_found;
        same = tt;
        plain = λ none. only_plain (class_members table parameters (kind, capital));
      })

  property_is_found : (capital : Bool) (read : Found Property) (node : ClassAtom) (rest : Source) → read >>= property_escape capital ≡ Some (node, rest) →
      AreFound (read >>= property_operand table parameters false capital) (found_map (property_node capital) read) node rest
  property_is_found capital None node rest e = absurd (none-some (node, rest) e)
  property_is_found capital (Some (of_points members, t)) node rest e =
      subst
      (λ (x : ClassAtom × Source).
      AreFound (property_operand table parameters false capital (of_points members, t)) (Some (property members capital, t)) x.0 x.1)
      (same_Some (property members capital, t) (node, rest) e)
      (record { operand = _; found = refl; node_found = refl; same = tt; plain = λ none. only_plain _ })
  property_is_found true (Some (of_strings written, t)) node rest e = absurd (none-some (node, rest) e)
  property_is_found false (Some (of_strings written, t)) node rest e =
      subst
      (λ (x : ClassAtom × Source).
      AreFound (property_operand table parameters false false (of_strings written, t)) (Some (string_property written, t)) x.0 x.1)
      (same_Some (string_property written, t) (node, rest) e)
      (record { operand = _; found = refl; node_found = refl; same = tt; plain = λ none. absurd (false≢true (sym none)) })

  property_found : (k : ℕ) (t : Source) (capital : Bool) → escapes (k ∷ t) ≡ property_value true table capital t →
      theirs (k ∷ t) ≡ property_at true table t >>= property_operand table parameters false capital →
      mine (k ∷ t) ≡ found_map (property_node capital) (property_at true table t) → EscapeIsFound (k ∷ t)
  property_found k t capital is same same' node rest e =
      found_by _ _ _ _ node rest same same' (property_is_found capital (property_at true table t) node rest (sym is ∙ e))

  pub escape_found : (t : Source) → EscapeIsFound t
  escape_found [] = λ node rest e. absurd (none-some (node, rest) e)
  escape_found (c ∷ t) =
      at_character (λ k. EscapeIsFound (k ∷ t)) (char "d") c (letter_found (char "d") t Digits false refl refl refl)
      (λ d. at_character (λ k. EscapeIsFound (k ∷ t)) (char "D") c (letter_found (char "D") t Digits true refl refl refl)
      (λ dd. at_character (λ k. EscapeIsFound (k ∷ t)) (char "s") c (letter_found (char "s") t Spaces false refl refl refl)
      (λ s. at_character (λ k. EscapeIsFound (k ∷ t)) (char "S") c (letter_found (char "S") t Spaces true refl refl refl)
      (λ ss. at_character (λ k. EscapeIsFound (k ∷ t)) (char "w") c (letter_found (char "w") t Words false refl refl refl)
      (λ w. at_character (λ k. EscapeIsFound (k ∷ t)) (char "W") c (letter_found (char "W") t Words true refl refl refl)
      (λ ww. at_character (λ k. EscapeIsFound (k ∷ t)) (char "p") c
      (property_found (char "p") t false (or_none (property_value true table false t)) refl refl)
      (λ p. at_character (λ k. EscapeIsFound (k ∷ t)) (char "P") c
      (property_found (char "P") t true (or_none (property_value true table true t)) refl refl)
      (λ pp node rest e. absurd (none-some (node, rest) (sym (none d dd s ss w ww p pp) ∙ e))))))))))
    where
      none : (c == char "d") ≡ false → (c == char "D") ≡ false → (c == char "s") ≡ false → (c == char "S") ≡ false → (c == char "w") ≡ false →
          (c == char "W") ≡ false → (c == char "p") ≡ false → (c == char "P") ≡ false → escapes (c ∷ t) ≡ None
      none d dd s ss w ww p pp = rw (d, dd, s, ss, w, ww, p, pp) refl

  -- ---- characters

  abbrev CharacterIsFound : Source → Type 0
  CharacterIsFound t =
      (value : ℕ) (rest : Source) → escaped_character_at true t ≡ Some (value, rest) → AreFound (theirs t) (mine t) (character value) rest

  no_character : (t : Source) → escaped_character_at true t ≡ None → CharacterIsFound t
  no_character t none value rest e = absurd (none-some (value, rest) (sym none ∙ e))

  character_found : (c : ℕ) (t : Source) → class_letter c ≡ None → (c == char "q") ≡ false → is_one_of "pP" c ≡ false → CharacterIsFound (c ∷ t)
  character_found c t letter q p value rest e = record {
    operand = ClassSets.character value;
    found =
        ap (λ (o : Option (CharacterClassType × Bool)). elim o as (λ _. Found Operand) [
          | Some named ↦ Some (ClassSets.class (only (class_members table parameters named)), t)
          | None ↦ first_production (ClassSets.operand_productions table parameters false c t)
        ]) letter
        ∙ theirs_is
        ∙ ap (found_map ClassSets.character) e;
    node_found =
        ap (λ (o : Option (CharacterClassType × Bool)). elim o as (λ _. Found ClassAtom) [
          | Some named ↦ Some (class_escape named.0 named.1, t)
          | None ↦ first_production (operand_productions table parameters c t)
        ]) letter
        ∙ mine_is
        ∙ ap (found_map character) e;
    same = refl;
    plain = λ none. only_plain _;
  }
    where
      theirs_is : first_production (ClassSets.operand_productions table parameters false c t)
          ≡ found_map ClassSets.character (escaped_character_at true (c ∷ t))
      theirs_is = rw (q, p) refl

      mine_is : first_production (operand_productions table parameters c t) ≡ found_map character (escaped_character_at true (c ∷ t))
      mine_is = rw (q, p) refl

  pub escaped_found : (t : Source) → CharacterIsFound t
  unfolding escape_at
  escaped_found [] = no_character [] refl
  escaped_found (c ∷ t) =
      at_character (λ k. CharacterIsFound (k ∷ t)) (char "d") c (no_character (char "d" ∷ t) refl)
      (λ d. at_character (λ k. CharacterIsFound (k ∷ t)) (char "D") c (no_character (char "D" ∷ t) refl)
      (λ dd. at_character (λ k. CharacterIsFound (k ∷ t)) (char "s") c (no_character (char "s" ∷ t) refl)
      (λ s. at_character (λ k. CharacterIsFound (k ∷ t)) (char "S") c (no_character (char "S" ∷ t) refl)
      (λ ss. at_character (λ k. CharacterIsFound (k ∷ t)) (char "w") c (no_character (char "w" ∷ t) refl)
      (λ w. at_character (λ k. CharacterIsFound (k ∷ t)) (char "W") c (no_character (char "W" ∷ t) refl)
      (λ ww. at_character (λ k. CharacterIsFound (k ∷ t)) (char "q") c (no_character (char "q" ∷ t) refl)
      (λ q. at_character (λ k. CharacterIsFound (k ∷ t)) (char "p") c (no_character (char "p" ∷ t) refl)
      (λ p. at_character (λ k. CharacterIsFound (k ∷ t)) (char "P") c (no_character (char "P" ∷ t) refl)
      (λ pp. character_found c t (letter_none c d dd s ss w ww) q (neither c p pp))))))))))
    where
      neither : (c : ℕ) → (c == char "p") ≡ false → (c == char "P") ≡ false → is_one_of "pP" c ≡ false
      neither c p pp = grind (arith, nat_tests)

  -- ---- ClassStringDisjunction

  pub quoted_found : (u rest : Source) (strings : List (List ℕ)) → AreClassStrings table named strings u (char "}" ∷ rest) →
      AreFound (theirs (char "q" ∷ char "{" ∷ u)) (mine (char "q" ∷ char "{" ∷ u)) (class_strings strings) rest
  quoted_found u rest strings h =
      let found : strings_by (length (char "{" ∷ u)) parameters [] u ≡ Some (strings, rest) =
      strings_found table icase named (length (char "{" ∷ u)) strings u rest (omega arith) h in
      record {
        operand = ClassSets.class (value_of_strings strings);
        found = ap (found_map (λ (ss : List (List ℕ)). ClassSets.class (value_of_strings ss))) found;
        node_found = ap (found_map class_strings) found;
        same = tt;
        plain = strings_plain strings;
      }
