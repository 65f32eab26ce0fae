-- With the flag v an operand that the productions find, and that is no nested class, is one that ECMA-262 derives.
use Rattle.std.proofs.Common.{◌≡◌, ℕ, ◌≤◌, ◌==◌, Bool, true, false, [], ◌∷◌, length, drop, Option, Some, None, if◌then◌else◌, refl, sym, ap, subst, ◌∙◌, eqb-true, arith}
use Rattle.std.proofs.lemmas.Bool.{false≢true, and_parts}
use Rattle.std.proofs.lemmas.Bool.Decides.{nat_tests}
use Rattle.std.proofs.lemmas.Option.{none-some, same_Some}
use Rattle.regress_base.specs.Table.{Table}
use Rattle.regress_base.specs.declared.charclasses.CharacterClassType.{CharacterClassType}
use Rattle.regress_base.specs.declared.charclasses.CharacterClassType.TheVariants.{Digits, Spaces, Words}
use Rattle.regress_lexer.specs.Source.{Source, Found, ◌>>=◌, found_map, first_production, char, is_one_of, is_at}
use Rattle.regress_classes.specs.declared.parameters.Parameters.{Parameters}
use Rattle.regress_classes.specs.ClassProductions.{class_letter, class_members}
use Rattle.regress_classes.specs.ClassSets.{only, Operand, value_of, value_of_strings, escaped_character_at, set_character_at, strings_by, quoted_at, property_operand, are_at}
use Rattle.regress_classes.specs.ClassSets as ClassSets
use Rattle.regress_classes.specs.Properties.{Property, of_points, of_strings, property_at}
use Rattle.regress_ecma.specs.ClassNodes.{ClassAtom, character, class_escape, property, string_property, class_strings}
use Rattle.regress_ecma.specs.ClassGrammar.{property_node, class_strings_at, operand_productions, escaped_operand_at}
use Rattle.regress_ecma.specs.ClassRanges.{property_value, property_escape, character_class_escape}
use Rattle.regress_ecma.specs.ClassSetExpressions.{HasPropertiesOfStrings, class_set_character, IsClassSetOperand, operand_may_contain_strings, operand_has_early_error, depth_of_operand}
use Rattle.regress_ecma.proofs.EscapesWithU.{at_character, or_none}
use Rattle.regress_ecma.proofs.ClassAtomNodes.{own, letter_none}
use Rattle.regress_ecma.proofs.ClassDerivations.{front_is}
use Rattle.regress_ecma.proofs.ClassRangeNodes.{Each, each_none, each_some, each_then}
use Rattle.regress_ecma.proofs.ClassSetCharacters.{character_same, strings_derived}
use Rattle.regress_ecma.proofs.ClassSetValues.{strings_may, property_has}

-- What is found has a property that names what another grammar finds, which makes the same choices.
pub reads_if : {A B : Type 0} (P : Found B → A × Source → Type 0) (b : Bool) (f g : Found A) (h k : Found B) →
    (b ≡ true → Each (P h) f) → (b ≡ false → Each (P k) g) → Each (P (if b then h else k)) (if b then f else g)
reads_if P true f g h k first second = first refl
reads_if P false f g h k first second = second refl

pub unless_found : {A : Type 0} (b : Bool) (found : Found A) (x : A × Source) → (if b then None else found) ≡ Some x → (b ≡ false) × (found ≡ Some x)
unless_found true found x e = absurd (none-some x e)
unless_found false found x e = (refl, e)

pub twice_is : (c : ℕ) (t : Source) → are_at c t ≡ true → t ≡ c ∷ c ∷ drop 2 t
twice_is c [] e = absurd (false≢true e)
twice_is c (d ∷ t) e =
    let parts = and_parts (d == c) (is_at c t) e in
    front_is c (d ∷ t) parts.0 ∙ ap (λ (w : Source). c ∷ w) (front_is c t parts.1)

-- A letter of CharacterClassEscape.
letter_is : (table : Table) (c : ℕ) (t : Source) (letter : CharacterClassType × Bool) → class_letter c ≡ Some letter →
    character_class_escape true true table (c ∷ t) ≡ Some (class_escape letter.0 letter.1, t)
letter_is table c t letter =
    at_character Is (char "d") c (given (Digits, false))
    (λ d. at_character Is (char "D") c (given (Digits, true))
    (λ dd. at_character Is (char "s") c (given (Spaces, false))
    (λ s. at_character Is (char "S") c (given (Spaces, true))
    (λ ss. at_character Is (char "w") c (given (Words, false))
    (λ w. at_character Is (char "W") c (given (Words, true))
    (λ ww e. absurd (none-some letter (sym (letter_none c d dd s ss w ww) ∙ e))))))))
  where
    Is : ℕ → Type 0
    Is k = class_letter k ≡ Some letter → character_class_escape true true table (k ∷ t) ≡ Some (class_escape letter.0 letter.1, t)

    made : CharacterClassType × Bool → Found ClassAtom
    made l = Some (class_escape l.0 l.1, t)

    given : (found : CharacterClassType × Bool) → Some found ≡ Some letter → made found ≡ made letter
    given found e = ap made (same_Some found letter e)

module _ (table : Table) (icase named : Bool) (all : HasPropertiesOfStrings table) where
  abbrev parameters : Parameters
  parameters = own icase true named

  -- ---- operands

  -- A character is itself; of a class, what is written may contain strings if the node may.
  abbrev pub IsOperand : ClassAtom → Operand → Type 0
  IsOperand node (ClassSets.character c) = node ≡ character c
  IsOperand node (ClassSets.class v) = v.may_have_strings ≡ false → operand_may_contain_strings node ≡ false

  pub operand_may : (node : ClassAtom) (operand : Operand) → IsOperand node operand → (value_of operand).may_have_strings ≡ false →
      operand_may_contain_strings node ≡ false
  operand_may node (ClassSets.character c) is none = ap operand_may_contain_strings is
  operand_may node (ClassSets.class v) is none = is none

  -- The operand at t, and the source after it, are those that ECMA-262 derives; `mine` is the parse node that is found.
  pub record IsOperandRead (n : ℕ) (t : Source) (mine : Found ClassAtom) (x : Operand × Source) : Type 0 where
    pub node : ClassAtom
    pub found : mine ≡ Some (node, x.1)
    pub derived : IsClassSetOperand table named node t x.1
    pub fine : operand_has_early_error node ≡ false
    pub within : depth_of_operand node ≤ n
    pub related : IsOperand node x.0

  module _ (n : ℕ) where
    pub character_read : (t u : Source) (c : ℕ) (mine : Found ClassAtom) → class_set_character table named t ≡ Some (c, u) → mine ≡ Some (character c, u) →
        IsOperandRead n t mine (ClassSets.character c, u)
    character_read t u c mine derives found = record {
      node = character c;
      found = found;
      derived = derives;
      fine = refl;
      within = omega arith;
      related = refl;
    }

    quoted_read : (t : Source) → Each (IsOperandRead n (char "\\" ∷ char "q" ∷ t) (class_strings_at table parameters t)) (quoted_at parameters t)
    quoted_read t =
        reads_if (IsOperandRead n (char "\\" ∷ char "q" ∷ t)) (is_at (char "{") t) _ _ _ _
        (λ opens. each_then (IsOperandRead n (char "\\" ∷ char "q" ∷ t) (found_map class_strings (strings_by (length t) parameters [] (drop 1 t))))
        (strings_by (length t) parameters [] (drop 1 t)) _
        (λ x e. each_some (IsOperandRead n (char "\\" ∷ char "q" ∷ t) (found_map class_strings (strings_by (length t) parameters [] (drop 1 t))))
        (ClassSets.class (value_of_strings x.0), x.1)
        (record {
          node = class_strings x.0;
          found = ap (found_map class_strings) e;
          derived = (
            drop 1 t,
            ap (λ (w : Source). char "\\" ∷ char "q" ∷ w) (front_is (char "{") t opens),
            strings_derived table icase named (length t) (drop 1 t) x.1 x.0 e,
          );
          fine = refl;
          within = omega arith;
          related = λ none. sym (strings_may x.0) ∙ none;
        })))
        (λ _. each_none (IsOperandRead n (char "\\" ∷ char "q" ∷ t) None))

    abbrev property_nodes : (capital : Bool) → Source → Found ClassAtom
    property_nodes capital t = found_map (property_node capital) (property_at true table t)

    property_is : (k : ℕ) (capital : Bool) (t : Source) → character_class_escape true true table (k ∷ t) ≡ property_value true table capital t →
        (p : Property) (rest : Source) → property_at true table t ≡ Some (p, rest) →
        Each (IsOperandRead n (char "\\" ∷ k ∷ t) (property_nodes capital t)) (property_operand table parameters false capital (p, rest))
    property_is k capital t same (of_points members) rest e =
        each_some (IsOperandRead n (char "\\" ∷ k ∷ t) (property_nodes capital t)) _
        (record {
          node = property members capital;
          found = ap (found_map (property_node capital)) e;
          derived = same ∙ ap (λ (found : Found Property). found >>= property_escape capital) e;
          fine = refl;
          within = omega arith;
          related = λ none. refl;
        })
    property_is k true t same (of_strings written) rest e = each_none (IsOperandRead n (char "\\" ∷ k ∷ t) (property_nodes true t))
    property_is k false t same (of_strings written) rest e =
        each_some (IsOperandRead n (char "\\" ∷ k ∷ t) (property_nodes false t)) (ClassSets.class (value_of_strings written), rest)
        (record {
          node = string_property written;
          found = ap (found_map (property_node false)) e;
          derived = same ∙ ap (λ (found : Found Property). found >>= property_escape false) e;
          fine = refl;
          within = omega arith;
          related = λ none. absurd (false≢true (sym none ∙ strings_may written ∙ (property_has table all t).each (of_strings written, rest) e));
        })

    property_read : (k : ℕ) (capital : Bool) (t : Source) → character_class_escape true true table (k ∷ t) ≡ property_value true table capital t →
        Each (IsOperandRead n (char "\\" ∷ k ∷ t) (property_nodes capital t)) (property_at true table t >>= property_operand table parameters false capital)
    property_read k capital t same =
        each_then (IsOperandRead n (char "\\" ∷ k ∷ t) (property_nodes capital t)) (property_at true table t) _
        (λ x e. property_is k capital t same x.0 x.1 e)

    properties_read : (c : ℕ) (t : Source) → is_one_of "pP" c ≡ true →
        Each (IsOperandRead n (char "\\" ∷ c ∷ t) (property_nodes (c == char "P") t))
        (property_at true table t >>= property_operand table parameters false (c == char "P"))
    properties_read c t =
        at_character Reads (char "p") c (λ _. property_read (char "p") false t (or_none (property_value true table false t)))
        (λ p. at_character Reads (char "P") c (λ _. property_read (char "P") true t (or_none (property_value true table true t)))
        (λ pp is. absurd (false≢true (sym (neither c p pp) ∙ is))))
      where
        Reads : ℕ → Type 0
        Reads k = is_one_of "pP" k ≡ true →
            Each (IsOperandRead n (char "\\" ∷ k ∷ t) (property_nodes (k == char "P") t))
            (property_at true table t >>= property_operand table parameters false (k == char "P"))

        neither : (c : ℕ) → (c == char "p") ≡ false → (c == char "P") ≡ false → is_one_of "pP" c ≡ false
        neither c p pp = grind (arith, nat_tests)

    escaped_read : (c : ℕ) (t : Source) →
        Each (IsOperandRead n (char "\\" ∷ c ∷ t) (found_map character (escaped_character_at true (c ∷ t))))
        (found_map ClassSets.character (escaped_character_at true (c ∷ t)))
    unfolding set_character_at
    escaped_read c t =
        each_then (IsOperandRead n (char "\\" ∷ c ∷ t) (found_map character (escaped_character_at true (c ∷ t)))) (escaped_character_at true (c ∷ t)) _
        (λ x e. each_some (IsOperandRead n (char "\\" ∷ c ∷ t) (found_map character (escaped_character_at true (c ∷ t)))) (ClassSets.character x.0, x.1)
        (character_read (char "\\" ∷ c ∷ t) x.1 x.0 _ (character_same table icase named (char "\\" ∷ c ∷ t) ∙ e) (ap (found_map character) e)))

    productions_read : (c : ℕ) (t : Source) →
        Each (IsOperandRead n (char "\\" ∷ c ∷ t) (first_production (operand_productions table parameters c t)))
        (first_production (ClassSets.operand_productions table parameters false c t))
    productions_read c t =
        reads_if (IsOperandRead n (char "\\" ∷ c ∷ t)) (c == char "q") _ _ _ _
        (λ q. subst (λ (d : ℕ). Each (IsOperandRead n (char "\\" ∷ d ∷ t) (class_strings_at table parameters t)) (quoted_at parameters t))
        (sym (eqb-true c (char "q") q)) (quoted_read t))
        (λ _. reads_if (IsOperandRead n (char "\\" ∷ c ∷ t)) (is_one_of "pP" c) _ _ _ _ (properties_read c t) (λ _. escaped_read c t))

    pub escape_read : (t : Source) →
        Each (IsOperandRead n (char "\\" ∷ t) (escaped_operand_at table parameters t)) (ClassSets.escaped_operand_at table parameters false t)
    escape_read [] = each_none (IsOperandRead n (char "\\" ∷ []) None)
    escape_read (c ∷ t) = by (class_letter c) refl
      where
        by : (letter : Option (CharacterClassType × Bool)) → class_letter c ≡ letter →
            Each
            (IsOperandRead n (char "\\" ∷ c ∷ t) (elim letter as (λ _. Found ClassAtom) [
              | Some named ↦ Some (class_escape named.0 named.1, t)
              | None ↦ first_production (operand_productions table parameters c t)
            ]))
            (elim letter as (λ _. Found Operand) [
              | Some named ↦ Some (ClassSets.class (only (class_members table parameters named)), t)
              | None ↦ first_production (ClassSets.operand_productions table parameters false c t)
            ])
        by (Some letter) e =
            each_some (IsOperandRead n (char "\\" ∷ c ∷ t) (Some (class_escape letter.0 letter.1, t)))
            (ClassSets.class (only (class_members table parameters letter)), t)
            (record {
              node = class_escape letter.0 letter.1;
              found = refl;
              derived = letter_is table c t letter e;
              fine = refl;
              within = omega arith;
              related = λ none. refl;
            })
        by None e = productions_read c t
