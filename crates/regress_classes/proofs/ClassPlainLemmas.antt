-- Plain parts of a class with the flag v.
use Rattle.std.proofs.Common.{◌≡◌, ℕ, ◌≤◌, ◌==◌, Bool, true, false, not, ◌&&◌, ◌||◌, cond, [], ◌∷◌, List, drop, Option, Some, None, refl, sym, ap, ◌∙◌, subst}
use Rattle.std.proofs.lemmas.Bool.{cond-false, le-leb, ne_eqb}
use Rattle.regress_base.specs.Intervals.{Bounds}
use Rattle.regress_base.specs.Table.{Table}
use Rattle.regress_lexer.specs.Dialects.{isolates_ampersand}
use Rattle.regress_lexer.specs.Source.{Source, Found, ◌>>=◌, is_at}
use Rattle.regress_lexer.proofs.lemmas.After.{Ends}
use Rattle.regress_lexer.proofs.lemmas.Sources.{then_same}
use Rattle.regress_classes.specs.declared.parameters.Parameters.{Parameters}
use Rattle.regress_classes.specs.ClassSets.{Value, only, nothing, joined, Operand, character, range_of, is_set_syntax, is_double, operand_at, part_after, contents_after, contents_at, are_at}
use Rattle.regress_classes.specs.ClassViews.{parts_onto}
use Rattle.regress_classes.proofs.ClassSetLemmas.{nothing-joined}
use Rattle.regress_classes.proofs.ClassOperandLemmas.{character_read, literal_parsed}
use Rattle.regress_classes.proofs.ClassContentsLemmas.{parts_go_on}

-- A plain character is no set syntax, and begins no pair.
no_pair : (c : ℕ) (b : Bool) → not (is_set_syntax c || is_double c) ≡ true → not (is_set_syntax c || (is_double c && b)) ≡ true
no_pair c b plain = by (is_set_syntax c) (is_double c) plain
  where
    by : (x y : Bool) → not (x || y) ≡ true → not (x || (y && b)) ≡ true
    by true y e = e
    by false true e = absurd cc
    by false false e = refl

-- The characters that are set syntax are not plain.
no_syntax : (c d : ℕ) → is_set_syntax d ≡ true → not (is_set_syntax c || is_double c) ≡ true → (c == d) ≡ false
no_syntax c d syntax plain =
    ne_eqb c d (λ e. by (is_set_syntax d) (is_double d) syntax (subst (λ n. not (is_set_syntax n || is_double n) ≡ true) e plain))
  where
    by : {A : Type 0} (x y : Bool) → x ≡ true → not (x || y) ≡ true → A
    by true y e h = absurd cc
    by false y e h = absurd cc

no_pair_of : (t : Source) (c : ℕ) → is_at c t ≡ false → are_at c t ≡ false
no_pair_of t c e = ap (λ b. b && is_at c (drop 1 t)) e

module _ (table : Table) (parameters : Parameters) (inner : Source → Found (Bool × Value)) (in_negated : Bool) where
  pub plain_read : (s t : Source) (c : ℕ) → s ≡ c ∷ t → not (is_set_syntax c || is_double c) ≡ true →
      operand_at table parameters inner in_negated s ≡ Some (character c, t)
  plain_read s t c front plain =
      let no_escape = ap (is_at 92) front ∙ no_syntax c 92 refl plain in
      character_read table parameters inner in_negated s (Some (c, t)) (ap (is_at 91) front ∙ no_syntax c 91 refl plain) no_escape
      (literal_parsed parameters s c t front no_escape (no_pair c _ plain))

  pub plain_point_read : (s t : Source) (c : ℕ) → s ≡ c ∷ t → not (is_set_syntax c || is_double c) ≡ true → is_at 45 t ≡ false →
      (first : Operand × Source) × (operand_at table parameters inner in_negated s ≡ Some first)
      × (part_after table parameters inner in_negated first ≡ Some (only (record { first = c; last = c } ∷ []), t))
  plain_point_read s t c front plain alone = ((character c, t), plain_read s t c front plain, cond-false _ _ _ alone)

  ranged : ℕ → Operand × Source → Found Value
  ranged a x = elim (range_of (character a) x.0) [ None ↦ None | Some members ↦ Some (only members, x.1) ]

  pub plain_range_read : (s t u v : Source) (a b : ℕ) → s ≡ a ∷ t → t ≡ 45 ∷ u → u ≡ b ∷ v → not (is_set_syntax a || is_double a) ≡ true →
      not (is_set_syntax b || is_double b) ≡ true → a ≤ b →
      (first : Operand × Source) × (operand_at table parameters inner in_negated s ≡ Some first)
      × (part_after table parameters inner in_negated first ≡ Some (only (record { first = a; last = b } ∷ []), v))
  unfolding ranged operand_at
  plain_range_read s t u v a b front hyphen after plain plain' le = (
    (character a, t),
    plain_read s t a front plain,
    ap (λ (r : Source). part_after table parameters inner in_negated (character a, r)) hyphen
        ∙ ap (λ (x : Found Operand). x >>= ranged a) (plain_read u v b after plain')
        ∙ ap (λ between. elim (cond {A = Option (List Bounds)} between (Some (record { first = a; last = b } ∷ [])) None) [
          | None ↦ None
          | Some members ↦ Some (only members, v)
        ]) (le-leb a b le),
  )

  pub plain_union : (inner_ends : (t : Source) → Ends (inner t) t) (s t : Source) (c : ℕ) → s ≡ c ∷ t → not (is_set_syntax c || is_double c) ≡ true → is_at 38 t ≡ false → are_at 45 t ≡ false →
      contents_at table parameters inner in_negated s ≡ parts_onto table parameters inner in_negated nothing s
  plain_union inner_ends s t c front plain no_ampersand no_subtraction =
      let found = plain_read s t c front plain in
      cond-false _ _ _ (ap (is_at 93) front ∙ no_syntax c 93 refl plain)
      ∙ ap (λ (x : Found Operand). x >>= contents_after table parameters inner in_negated) found
      ∙ cond-false _ _ _ (no_pair_of t 38 no_ampersand) ∙ cond-false _ _ _ no_subtraction
      ∙ cond-false _ _ _ (ap (λ b. b && isolates_ampersand parameters.dialect) no_ampersand)
      ∙ then_same (part_after table parameters inner in_negated (character c, t)) _ _
      (λ x e. ap (λ (v : Value). parts_onto table parameters inner in_negated v x.1) (sym (nothing-joined x.0)))
      ∙ ap (λ (x : Found Operand). x >>= part_after table parameters inner in_negated
      >>= λ (y : Value × Source). parts_onto table parameters inner in_negated (joined nothing y.0) y.1) (sym found)
      ∙ sym (parts_go_on table parameters inner inner_ends in_negated nothing s (ap (is_at 93) front ∙ no_syntax c 93 refl plain))
