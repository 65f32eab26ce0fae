-- The marks that the scan finds in classes with the flag v.
use Rattle.std.proofs.Common.{◌≡◌, ℕ, zero, suc, ◌+◌, ◌-◌, max, Bool, true, false, not, cond, ◌&&◌, ◌||◌, ◌==◌, List, [], ◌∷◌, ◌++◌, length, drop, Option, Some, None, refl, sym, ap, ◌∙◌, subst, ap₂, arith, eqb-true, add-one}
use Rattle.std.proofs.lemmas.Bool.{false≢true}
use Rattle.std.proofs.lemmas.Bool.Decides.{nat_tests}
use Rattle.regress_base.specs.Intervals.{Bounds}
use Rattle.regress_base.specs.Limits.{max_nesting_depth}
use Rattle.regress_base.specs.declared.charclasses.CharacterClassType.{CharacterClassType}
use Rattle.regress_base.specs.Table.{Table}
use Rattle.regress_lexer.specs.Dialects.{isolates_ampersand, judges_contents}
use Rattle.regress_lexer.specs.Source.{Source, Found, ◌>>=◌, found_map, is_at, first_production}
use Rattle.regress_classes.specs.declared.parameters.Parameters.{Parameters}
use Rattle.regress_classes.specs.Properties.{Property, of_points, of_strings, property_at}
use Rattle.regress_classes.specs.ClassProductions.{class_letter, class_members, one_point, points_between}
use Rattle.regress_classes.specs.ClassSets.{Value, is_not_negatable, only, joined, folded_left, common, without, value_of_strings, nested, unless_negated_strings, Operand, closed_value_of, character, value_of, is_set_syntax, begins_pair, is_reserved, escaped_character_at, set_character_at, strings_by, quoted_at, property_operand, operand_productions, escaped_operand_at, operand_at, next_operand_at, range_of, part_after, parts_by, are_at, operands_by, contents_after, contents_at, closed_contents_at, class_set_by, class_set_at}
use Rattle.regress_classes.specs.ClassSets as ClassSets
use Rattle.regress_classes.proofs.lemmas.ClassStrings.{level_of_strings}
use Rattle.regress_classes.proofs.lemmas.ClassSets.{parts_joined, operands_joined}
use Rattle.regress_syntax.specs.GroupTokens.{GroupToken, nests}
use Rattle.regress_syntax.specs.Scan.{plain, class, tokens, is_insignificant}
use Rattle.regress_lexer.proofs.lemmas.Digits.{and_both, drop_one_more}
use Rattle.regress_syntax.proofs.ScanLemmas.{Passes, Leads, Gives, Home, in_class, home, after_backslash, leads_none, leads_some, leads_after, leads_then, leads_map, leads_cond, gives_none, gives_some, gives_after, gives_then, gives_map, gives_cond, gives_leads, pass_quiet, pass_at, pass_backslash, pass_escaped, lead_escape_at}
use Rattle.regress_syntax.proofs.ScanClasses.{lead_property_at, pass_caret}
use Rattle.regress_lexer.proofs.lemmas.Sources.{EachProduction, no_more, ◌also◌, first_production-has}

-- ---- characters and strings

module _ {table : Table} (parameters : Parameters) where
  lead_escaped_character_at : (w : Home) (t : Source) → Leads true table (after_backslash w) t (home w) (escaped_character_at parameters.unicode t)
  lead_escaped_character_at w [] = leads_none
  lead_escaped_character_at w (c ∷ t) =
      leads_cond (c == 98) _ _ (λ _. leads_some (8, t) (pass_escaped w c t))
      (λ _. leads_cond (is_reserved c) _ _ (λ _. leads_some (c, t) (pass_escaped w c t))
      (λ _. lead_escape_at w parameters.unicode (c ∷ t)))

  lead_set_character_at : (w : Home) (t : Source) → Leads true table (home w) t (home w) (set_character_at parameters t)
  unfolding set_character_at
  lead_set_character_at w [] = leads_none
  lead_set_character_at w (c ∷ t) =
      leads_cond (c == 92) _ _
      (λ e. subst (λ k. Leads true table (home w) (k ∷ t) (home w) (escaped_character_at parameters.unicode t)) (sym (eqb-true c 92 e))
      (leads_after (pass_backslash w t) (lead_escaped_character_at w t)))
      (λ _. leads_cond (is_set_syntax c || begins_pair parameters.dialect c t) _ _ (λ _. leads_none)
      (λ e. leads_some (c, t) (pass_quiet w c t (quiet_member c _ e))))
    where
      quiet_member : (c : ℕ) (other : Bool) → (is_set_syntax c || other) ≡ false → is_insignificant c ≡ true
      quiet_member c other e = grind (arith, nat_tests)

  -- Inside a class the scan ignores `|` too.
  pass_bar : (depth deepest : ℕ) (t : Source) → is_at 124 t ≡ true → Passes true table (class depth deepest) t (class depth deepest) (drop 1 t)
  unfolding tokens
  pass_bar depth deepest [] e = absurd (false≢true e)
  pass_bar depth deepest (c ∷ t) e =
      subst (λ k. Passes true table (class depth deepest) (k ∷ t) (class depth deepest) t) (sym (eqb-true c 124 e)) (record { same = refl })

  lead_strings_by : (n depth deepest : ℕ) (s : List ℕ) (t : Source) →
      Leads true table (class depth deepest) t (class depth deepest) (strings_by n parameters s t)
  unfolding strings_by
  lead_strings_by zero depth deepest s t = leads_none
  lead_strings_by (suc n) depth deepest s t =
      leads_cond (is_at 125 t) _ _ (λ e. leads_some (_, drop 1 t) (pass_at (in_class depth deepest) 125 t refl e))
      (λ _. leads_cond (is_at 124 t) _ _
      (λ e. leads_after (pass_bar depth deepest t e)
      (leads_map _ (strings_by n parameters [] (drop 1 t)) (lead_strings_by n depth deepest [] (drop 1 t))))
      (λ _. leads_then (set_character_at parameters t) _ (lead_set_character_at (in_class depth deepest) t)
      (λ x. lead_strings_by n depth deepest (s ++ x.0 ∷ []) x.1)))

-- ---- the nesting depth of classes

-- The marks from a position inside a class that is open at `depth`. The classes inside it are nested `nesting` deep so
-- far, and earlier ones reached the depth `before`.
abbrev within : (table : Table) (depth before nesting : ℕ) → Source → List GroupToken
within table depth before nesting t = tokens true table (class depth (max before (depth + nesting))) t

-- the marks after the `]` of such a class
abbrev closed : (table : Table) (depth before nesting : ℕ) → Source → List GroupToken
closed table zero before nesting t = nests (max before (zero + nesting)) ∷ tokens true table plain t
closed table (suc depth) before nesting t = tokens true table (class depth (max before (suc depth + nesting))) t

-- The contents of a class have these marks at every depth.
pub record GivesInner (table : Table) (inner : Source → Found (Bool × Value)) : Type 0 where
  pub each : (depth before : ℕ) (t : Source) → Gives (within table depth before 0 t) (λ x. closed table depth before x.1.nesting) (inner t)

-- the marks after an operand, whose classes count towards `nesting`
abbrev after_operand : (table : Table) (depth before nesting : ℕ) → Operand → Source → List GroupToken
after_operand table depth before nesting o t = within table depth before (max nesting (value_of o).nesting) t

abbrev after_part : (table : Table) (depth before nesting : ℕ) → Value → Source → List GroupToken
after_part table depth before nesting v t = within table depth before (max nesting v.nesting) t

abbrev after_class : (table : Table) (depth before : ℕ) → Value → Source → List GroupToken
after_class table depth before v t = closed table depth before v.nesting t

module _ (table : Table) where
  pass_close : (depth before nesting : ℕ) (t : Source) → is_at 93 t ≡ true → within table depth before nesting t ≡ closed table depth before nesting (drop 1 t)
  unfolding tokens
  pass_close depth before nesting [] e = absurd (false≢true e)
  pass_close zero before nesting (c ∷ t) e =
      subst (λ k. within table zero before nesting (k ∷ t) ≡ closed table zero before nesting t) (sym (eqb-true c 93 e)) refl
  pass_close (suc depth) before nesting (c ∷ t) e =
      let inner : (suc depth == 0) ≡ false = grind (arith, nat_tests) in
      let outside : suc depth - 1 ≡ depth = omega arith in
      subst (λ k. within table (suc depth) before nesting (k ∷ t) ≡ closed table (suc depth) before nesting t) (sym (eqb-true c 93 e))
      (rw (inner, outside) refl)

  pass_open : (depth before nesting : ℕ) (t : Source) → is_at 91 t ≡ true →
      within table depth before nesting t ≡ within table (suc depth) (max before (depth + nesting)) 0 (drop 1 t)
  unfolding tokens
  pass_open depth before nesting [] e = absurd (false≢true e)
  pass_open depth before nesting (c ∷ t) e =
      subst (λ k. within table depth before nesting (k ∷ t) ≡ within table (suc depth) (max before (depth + nesting)) 0 t) (sym (eqb-true c 91 e))
      (ap₂ (λ d k. tokens true table (class d k) t) (add-one depth) same)
    where
      same : max (max before (depth + nesting)) (depth + 1) ≡ max (max before (depth + nesting)) (suc depth + 0)
      same = omega arith

  -- Equal nesting depths lead to equal marks.
  same_within : (depth before nesting more : ℕ) (t : Source) → nesting ≡ more → within table depth before nesting t ≡ within table depth before more t
  same_within depth before nesting more t e = ap (λ n. within table depth before n t) e

  -- An operand without classes does not change the depth.
  gives_flat : {A : Type 0} (depth before nesting : ℕ) (m : List GroupToken) (f : A → Operand) (found : Found A) → ((x : A) → (value_of (f x)).nesting ≡ 0) →
      Gives m (λ _. within table depth before nesting) found → Gives m (after_operand table depth before nesting) (found_map f found)
  gives_flat depth before nesting m f found flat h =
      gives_map (λ _. within table depth before nesting) f found h
      (λ x t. same_within depth before nesting (max nesting (value_of (f x)).nesting) t (omega (arith, flat x)))

  module _ (parameters : Parameters) where
    -- the mode inside such a class
    abbrev at_nesting : (depth before nesting : ℕ) → Home
    at_nesting depth before nesting = in_class depth (max before (depth + nesting))

    gives_quoted_at : (depth before nesting : ℕ) (t : Source) →
        Gives (within table depth before nesting t) (after_operand table depth before nesting) (quoted_at parameters t)
    gives_quoted_at depth before nesting t =
        gives_cond (is_at 123 t) _ _
        (λ e. gives_flat depth before nesting _ (λ ss. ClassSets.class (value_of_strings ss)) (strings_by (length t) parameters [] (drop 1 t)) level_of_strings
        (gives_leads (leads_after (pass_at (at_nesting depth before nesting) 123 t refl e)
        (lead_strings_by parameters (length t) depth (max before (depth + nesting)) [] (drop 1 t)))))
        (λ _. gives_none)

    gives_property_operand : (depth before nesting : ℕ) (in_negated negated : Bool) (x : Property × Source) →
        Gives (within table depth before nesting x.1) (after_operand table depth before nesting) (property_operand table parameters in_negated negated x)
    gives_property_operand depth before nesting in_negated negated (of_points members, t) =
        gives_some (_, t) (same_within depth before nesting (max nesting 0) t (omega arith))
    gives_property_operand depth before nesting in_negated negated (of_strings written, t) =
        gives_cond (in_negated || negated) _ _ (λ _. gives_none)
        (λ _. gives_some (_, t)
        (same_within depth before nesting (max nesting (value_of_strings written).nesting) t (omega (arith, level_of_strings written))))

    operand_productions_give : (depth before nesting : ℕ) (in_negated : Bool) (c : ℕ) (t : Source) →
        EachProduction (Gives (tokens true table (after_backslash (at_nesting depth before nesting)) (c ∷ t)) (after_operand table depth before nesting))
        (operand_productions table parameters in_negated c t)
    operand_productions_give depth before nesting in_negated c t =
        (λ _. gives_after (pass_escaped (at_nesting depth before nesting) c t).same (gives_quoted_at depth before nesting t))
        also (λ _. gives_after (pass_escaped (at_nesting depth before nesting) c t).same
        (gives_then (λ _. within table depth before nesting) (property_at true table t) _
        (gives_leads (lead_property_at (at_nesting depth before nesting) true table t))
        (gives_property_operand depth before nesting in_negated _)))
        also (λ _. gives_flat depth before nesting _ character (escaped_character_at parameters.unicode (c ∷ t)) (λ x. refl)
        (gives_leads (lead_escaped_character_at parameters (at_nesting depth before nesting) (c ∷ t))))
        also no_more

    gives_escaped_by : (depth before nesting : ℕ) (in_negated : Bool) (c : ℕ) (t : Source) (letter : Option (CharacterClassType × Bool)) →
        Gives (tokens true table (after_backslash (at_nesting depth before nesting)) (c ∷ t)) (after_operand table depth before nesting)
        (elim letter as (λ _. Found Operand) [
          | Some named ↦ Some (ClassSets.class (only (class_members table parameters named)), t)
          | None ↦ first_production (operand_productions table parameters in_negated c t)
        ])
    gives_escaped_by depth before nesting in_negated c t (Some named) =
        gives_after (pass_escaped (at_nesting depth before nesting) c t).same
        (gives_some (_, t) (same_within depth before nesting (max nesting 0) t (omega arith)))
    gives_escaped_by depth before nesting in_negated c t None =
        first_production-has (Gives (tokens true table (after_backslash (at_nesting depth before nesting)) (c ∷ t)) (after_operand table depth before nesting))
        (operand_productions table parameters in_negated c t) gives_none (operand_productions_give depth before nesting in_negated c t)

    -- The marks of an operand, after its backslash.
    gives_escaped_operand_at : (depth before nesting : ℕ) (in_negated : Bool) (t : Source) →
        Gives (tokens true table (after_backslash (at_nesting depth before nesting)) t) (after_operand table depth before nesting)
        (escaped_operand_at table parameters in_negated t)
    gives_escaped_operand_at depth before nesting in_negated [] = gives_none
    gives_escaped_operand_at depth before nesting in_negated (c ∷ t) =
        gives_escaped_by depth before nesting in_negated c t (class_letter c)

    -- A backslash at the start is passed.
    pass_backslash_at : (w : Home) (t : Source) → is_at 92 t ≡ true → Passes true table (home w) t (after_backslash w) (drop 1 t)
    pass_backslash_at w [] e = absurd (false≢true e)
    pass_backslash_at w (c ∷ t) e =
        subst (λ k. Passes true table (home w) (k ∷ t) (after_backslash w) t) (sym (eqb-true c 92 e)) (pass_backslash w t)

    module _ (inner : Source → Found (Bool × Value)) (gives_inner : GivesInner table inner) (in_negated : Bool) where
      gives_operand_at : (depth before nesting : ℕ) (t : Source) →
          Gives (within table depth before nesting t) (after_operand table depth before nesting) (operand_at table parameters inner in_negated t)
      unfolding operand_at
      gives_operand_at depth before nesting t =
          gives_cond (is_at 91 t) _ _
          (λ e. gives_after (pass_open depth before nesting t e)
          (gives_map _ (λ inside. ClassSets.class (nested inside)) (inner (drop 1 t))
          (gives_inner.each (suc depth) (max before (depth + nesting)) (drop 1 t))
          (λ x rest. ap (λ k. tokens true table (class depth k) rest) (omega arith))))
          (λ _. gives_cond (is_at 92 t) _ _
          (λ e. gives_after (pass_backslash_at (at_nesting depth before nesting) t e).same
          (gives_escaped_operand_at depth before nesting in_negated (drop 1 t)))
          (λ _. gives_flat depth before nesting _ character (set_character_at parameters t) (λ x. refl)
          (gives_leads (lead_set_character_at parameters (at_nesting depth before nesting) t))))

      -- ---- parts of a class

      gives_points : (depth before nesting : ℕ) (made : Option (List Bounds)) (t : Source) →
          Gives (within table depth before (max (max nesting 0) 0) t) (after_part table depth before nesting)
          (elim made as (λ _. Found Value) [ None ↦ None | Some members ↦ Some (only members, t) ])
      gives_points depth before nesting None t = gives_none
      gives_points depth before nesting (Some members) t =
          gives_some (only members, t) (same_within depth before (max (max nesting 0) 0) (max nesting 0) t (omega arith))

      gives_range : (depth before nesting : ℕ) (first last : Operand) (t : Source) →
          Gives (within table depth before (max (max nesting (value_of first).nesting) (value_of last).nesting) t)
          (after_part table depth before nesting)
          (elim (range_of first last) as (λ _. Found Value) [ None ↦ None | Some members ↦ Some (only members, t) ])
      gives_range depth before nesting (character a) (character b) t = gives_points depth before nesting (points_between a b) t
      gives_range depth before nesting (character a) (ClassSets.class others) t = gives_none
      gives_range depth before nesting (ClassSets.class value) last t = gives_none

      -- An ignored code point at the start is passed.
      pass_sign : (depth before nesting k : ℕ) (t : Source) → is_insignificant k ≡ true → is_at k t ≡ true →
          within table depth before nesting t ≡ within table depth before nesting (drop 1 t)
      pass_sign depth before nesting k t quiet e = (pass_at (at_nesting depth before nesting) k t quiet e).same

      gives_part_after : (depth before nesting : ℕ) (x : Operand × Source) →
          Gives (after_operand table depth before nesting x.0 x.1) (after_part table depth before nesting)
          (part_after table parameters inner in_negated x)
      gives_part_after depth before nesting (first, t) =
          gives_cond (is_at 45 t) _ _
          (λ e. gives_after (pass_sign depth before (max nesting (value_of first).nesting) 45 t refl e)
          (gives_then _ (operand_at table parameters inner in_negated (drop 1 t)) _
          (gives_operand_at depth before (max nesting (value_of first).nesting) (drop 1 t))
          (λ x. gives_range depth before nesting first x.0 x.1)))
          (λ _. gives_some (value_of first, t) refl)

      gives_parts_by : (n depth before : ℕ) (value : Value) (t : Source) →
          Gives (within table depth before value.nesting t) (after_class table depth before)
          (found_map (folded_left joined value) (parts_by table parameters inner in_negated n t))
      unfolding parts_by
      gives_parts_by zero depth before value t = gives_none
      gives_parts_by (suc n) depth before value t =
          subst (Gives (within table depth before value.nesting t) (after_class table depth before))
          (sym (parts_joined table parameters inner in_negated n value t))
          (gives_cond (is_at 93 t) _ _ (λ e. gives_some (value, drop 1 t) (pass_close depth before value.nesting t e))
          (λ _. gives_then (after_part table depth before value.nesting) (operand_at table parameters inner in_negated t >>= part_after table parameters inner
          in_negated) _
          (gives_then _ (operand_at table parameters inner in_negated t) _ (gives_operand_at depth before value.nesting t)
          (gives_part_after depth before value.nesting))
          (λ x. gives_parts_by n depth before (joined value x.0) x.1)))

      -- ---- operators

      -- The two code points of an operator are passed.
      pass_signs : (depth before nesting k : ℕ) (t : Source) → is_insignificant k ≡ true → are_at k t ≡ true →
          within table depth before nesting t ≡ within table depth before nesting (drop 2 t)
      pass_signs depth before nesting k t quiet e =
          let both = and_both _ _ e in
          pass_sign depth before nesting k t quiet both.0 ∙ pass_sign depth before nesting k (drop 1 t) quiet both.1
          ∙ ap (within table depth before nesting) (drop_one_more t)

      gives_next_operand_at : (depth before nesting c : ℕ) (t : Source) →
          Gives (within table depth before nesting t) (after_operand table depth before nesting) (next_operand_at table parameters inner in_negated c t)
      gives_next_operand_at depth before nesting c t =
          gives_cond (not (isolates_ampersand parameters.dialect) && is_at c t) _ _ (λ _. gives_none) (λ _. gives_operand_at depth before nesting t)

      gives_operands_by : (n depth before c : ℕ) (f : Value → Value → Value) (value : Value) (t : Source) → is_insignificant c ≡ true →
          ((a b : Value) → (f a b).nesting ≡ max a.nesting b.nesting) →
          Gives (within table depth before value.nesting t) (after_class table depth before)
          (found_map (folded_left f value) (operands_by table parameters inner in_negated n c t))
      unfolding operands_by
      gives_operands_by zero depth before c f value t quiet deeper = gives_none
      gives_operands_by (suc n) depth before c f value t quiet deeper =
          subst (Gives (within table depth before value.nesting t) (after_class table depth before))
          (sym (operands_joined table parameters inner in_negated n c f value t))
          (gives_then _ (next_operand_at table parameters inner in_negated c t) _ (gives_next_operand_at depth before value.nesting c t)
          (λ x. gives_after (same_within depth before _ (f value (closed_value_of table parameters x.0)).nesting x.1 (sym (deeper value (closed_value_of table parameters x.0))))
          (gives_cond (is_at 93 x.1) _ _ (λ e. gives_some (f value (closed_value_of table parameters x.0), drop 1 x.1) (pass_close depth before _ x.1 e))
          (λ _. gives_cond (are_at c x.1) _ _
          (λ e. gives_after (pass_signs depth before _ c x.1 quiet e)
          (gives_operands_by n depth before c f (f value (closed_value_of table parameters x.0)) (drop 2 x.1) quiet deeper))
          (λ _. gives_none)))))

      gives_contents_after : (depth before : ℕ) (x : Operand × Source) →
          Gives (after_operand table depth before 0 x.0 x.1) (after_class table depth before) (contents_after table parameters inner in_negated x)
      gives_contents_after depth before (first, t) =
          gives_after (same_within depth before (max 0 (value_of first).nesting) (value_of first).nesting t (omega arith))
          (gives_cond (are_at 38 t) _ _
          (λ e. gives_after (pass_signs depth before (value_of first).nesting 38 t refl e)
          (gives_operands_by (length (drop 2 t) + 1) depth before 38 common (closed_value_of table parameters first) (drop 2 t) refl (λ a b. refl)))
          (λ _. gives_cond (are_at 45 t) _ _
          (λ e. gives_after (pass_signs depth before (value_of first).nesting 45 t refl e)
          (gives_operands_by (length (drop 2 t) + 1) depth before 45 without (closed_value_of table parameters first) (drop 2 t) refl (λ a b. refl)))
          (λ _. gives_cond (is_at 38 t && isolates_ampersand parameters.dialect) _ _
          (λ e. gives_after
          (pass_sign depth before (value_of first).nesting 38 t refl (and_both (is_at 38 t) _ e).0
          ∙ same_within depth before (value_of first).nesting (max (value_of first).nesting 0) (drop 1 t) (omega arith))
          (gives_parts_by (length (drop 1 t) + 1) depth before (joined (value_of first) (only (one_point 38))) (drop 1 t)))
          (λ _. gives_after (same_within depth before (value_of first).nesting (max 0 (value_of first).nesting) t (omega arith))
          (gives_then (after_part table depth before 0) (part_after table parameters inner in_negated (first, t)) _
          (gives_part_after depth before 0 (first, t))
          (λ x. gives_after (same_within depth before (max 0 x.0.nesting) x.0.nesting x.1 (omega arith))
          (gives_parts_by (length x.1 + 1) depth before x.0 x.1)))))))

      gives_contents_at : (depth before : ℕ) (t : Source) →
          Gives (within table depth before 0 t) (after_class table depth before) (contents_at table parameters inner in_negated t)
      gives_contents_at depth before t =
          gives_cond (is_at 93 t) _ _ (λ e. gives_some (_, drop 1 t) (pass_close depth before 0 t e))
          (λ _. gives_then _ (operand_at table parameters inner in_negated t) _ (gives_operand_at depth before 0 t)
          (gives_contents_after depth before))

      gives_closed_contents_at : (depth before : ℕ) (t : Source) →
          Gives (within table depth before 0 t) (after_class table depth before) (closed_contents_at table parameters inner in_negated t)
      gives_closed_contents_at depth before t = gives_map _ _ _ (gives_contents_at depth before t) (λ x rest. refl)

    gives_unless_of_strings : (depth before : ℕ) (negated : Bool) (x : Value × Source) →
        Gives (after_class table depth before x.0 x.1) (λ inside. after_class table depth before inside.1)
        (unless_negated_strings parameters.dialect negated x)
    gives_unless_of_strings depth before negated (v, t) =
        gives_cond (negated && is_not_negatable parameters.dialect v) _ _ (λ _. gives_none) (λ _. gives_some ((negated, v), t) refl)

    gives_class_set_by : (n : ℕ) → GivesInner table (class_set_by table parameters n)
    unfolding class_set_by
    gives_class_set_by zero = record { each = λ depth before t. gives_none }
    gives_class_set_by (suc n) = record {
      each = λ depth before t.
          gives_after (pass_caret (at_nesting depth before 0) t).same
          (gives_then (after_class table depth before)
          (closed_contents_at table parameters (class_set_by table parameters n) (is_at 94 t && judges_contents parameters.dialect) (cond (is_at 94 t) (drop 1 t) t)) _
          (gives_closed_contents_at (class_set_by table parameters n) (gives_class_set_by n) (is_at 94 t && judges_contents parameters.dialect) depth before
          (cond (is_at 94 t) (drop 1 t) t))
          (gives_unless_of_strings depth before (is_at 94 t)));
    }

    -- The mark of an outermost class has the nesting depth of the classes inside it.
    pub gives_class_set_at : (t : Source) →
        Gives (tokens true table (class 0 0) t) (λ x rest. nests x.1.nesting ∷ tokens true table plain rest) (class_set_at table parameters t)
    gives_class_set_at t = record {
      each = λ x e.
          ap (λ k. tokens true table (class 0 k) t) (omega arith) ∙ ((gives_class_set_by max_nesting_depth).each 0 0 t).each x e
          ∙ ap (λ k. nests k ∷ tokens true table plain x.1) (omega arith);
    }
