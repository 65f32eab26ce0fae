-- Operands of a class with the flag v, as they are parsed.
use Rattle.std.proofs.Common.{◌≡◌, ℕ, Bool, true, false, not, ◌||◌, cond, [], ◌∷◌, length, drop, Some, None, refl, sym, ap, arith, ◌∙◌}
use Rattle.std.proofs.lemmas.Bool.{cond-true, cond-false}
use Rattle.regress_base.specs.Table.{Table}
use Rattle.regress_lexer.specs.Source.{Source, Found, found_map, is_at}
use Rattle.regress_classes.specs.declared.parameters.Parameters.{Parameters}
use Rattle.regress_classes.specs.ClassSets.{Value, nested, character, class, is_set_syntax, begins_pair, escaped_character_at, set_character_at, operand_at, escaped_operand_at}

-- ---- productions of characters

module _ (parameters : Parameters) where
  pub set_escape_read : (t mid : Source) → is_at 92 t ≡ true → mid ≡ drop 1 t → set_character_at parameters t ≡ escaped_character_at parameters.unicode mid
  unfolding set_character_at
  set_escape_read [] mid escapes moved = absurd cc
  set_escape_read (c ∷ t) mid escapes moved = cond-true _ _ _ escapes ∙ ap (escaped_character_at parameters.unicode) (sym moved)

  pub no_character : (t : Source) → length t ≡ 0 → set_character_at parameters t ≡ None
  unfolding set_character_at
  no_character [] e = refl
  no_character (c ∷ t) e = absurd (omega arith)

  character_by : (t : Source) (c : ℕ) (rest : Source) → t ≡ c ∷ rest → is_at 92 t ≡ false →
      set_character_at parameters t ≡ cond (is_set_syntax c || begins_pair parameters.dialect c rest) None (Some (c, rest))
  unfolding set_character_at
  character_by t c rest front no_escape = ap (set_character_at parameters) front ∙ cond-false _ _ _ (ap (is_at 92) (sym front) ∙ no_escape)

  pub literal_parsed : (t : Source) (c : ℕ) (rest : Source) → t ≡ c ∷ rest → is_at 92 t ≡ false →
      not (is_set_syntax c || begins_pair parameters.dialect c rest) ≡ true → set_character_at parameters t ≡ Some (c, rest)
  literal_parsed t c rest front no_escape itself =
      character_by t c rest front no_escape ∙ if_not (is_set_syntax c || begins_pair parameters.dialect c rest) itself
    where
      if_not : (b : Bool) → not b ≡ true → cond {A = Found ℕ} b None (Some (c, rest)) ≡ Some (c, rest)
      if_not true e = absurd cc
      if_not false e = refl

  pub no_itself : (t : Source) (c : ℕ) (rest : Source) → t ≡ c ∷ rest → is_at 92 t ≡ false →
      not (is_set_syntax c || begins_pair parameters.dialect c rest) ≡ false → set_character_at parameters t ≡ None
  no_itself t c rest front no_escape other =
      character_by t c rest front no_escape ∙ if_not (is_set_syntax c || begins_pair parameters.dialect c rest) other
    where
      if_not : (b : Bool) → not b ≡ false → cond {A = Found ℕ} b None (Some (c, rest)) ≡ None
      if_not true e = refl
      if_not false e = absurd cc

-- ---- productions of operands

module _ (table : Table) (parameters : Parameters) (inner : Source → Found (Bool × Value)) (in_negated : Bool) where
  pub nested_read : (t mid : Source) (found : Found (Bool × Value)) → is_at 91 t ≡ true → mid ≡ drop 1 t → inner mid ≡ found →
      operand_at table parameters inner in_negated t ≡ found_map (λ inside. class (nested inside)) found
  unfolding operand_at
  nested_read t mid found opens moved e =
      cond-true _ _ _ opens ∙ ap (found_map (λ inside. class (nested inside))) (ap inner (sym moved) ∙ e)

  pub escape_read : (t mid : Source) → is_at 91 t ≡ false → is_at 92 t ≡ true → mid ≡ drop 1 t →
      operand_at table parameters inner in_negated t ≡ escaped_operand_at table parameters in_negated mid
  unfolding operand_at
  escape_read t mid no_class escapes moved =
      cond-false _ _ _ no_class ∙ cond-true _ _ _ escapes ∙ ap (escaped_operand_at table parameters in_negated) (sym moved)

  pub character_read : (t : Source) (found : Found ℕ) → is_at 91 t ≡ false → is_at 92 t ≡ false → set_character_at parameters t ≡ found →
      operand_at table parameters inner in_negated t ≡ found_map character found
  unfolding operand_at
  character_read t found no_class no_escape e = cond-false _ _ _ no_class ∙ cond-false _ _ _ no_escape ∙ ap (found_map character) e
