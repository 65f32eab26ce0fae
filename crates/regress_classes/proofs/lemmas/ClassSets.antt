-- Classes with the flag v, at the start of a source.
use Rattle.std.proofs.Common.{◌≡◌, ℕ, zero, suc, ◌+◌, Bool, true, false, ◌&&◌, ◌||◌, ◌==◌, cond, List, [], ◌∷◌, ◌++◌, length, drop, Option, Some, None, refl, ap, ◌∙◌, not}
use Rattle.regress_base.specs.Intervals.{Bounds}
use Rattle.regress_base.specs.Limits.{max_nesting_depth}
use Rattle.regress_base.specs.Table.{Table}
use Rattle.regress_lexer.specs.declared.dialect.Dialect.{Dialect}
use Rattle.regress_lexer.specs.Dialects.{isolates_ampersand, judges_contents}
use Rattle.regress_lexer.specs.Source.{Source, Found, ◌>>=◌, found_map, is_at, first_production}
use Rattle.regress_classes.specs.declared.parameters.Parameters.{Parameters}
use Rattle.regress_classes.specs.Properties.{Property, of_points, of_strings, property_at}
use Rattle.regress_classes.specs.ClassProductions.{class_letter, class_members, one_point}
use Rattle.regress_classes.specs.ClassSets.{Value, has_strings, is_not_negatable, only, joined, folded_left, common, without, unless_negated_strings, Operand, character, class, value_of, closed_value, closed_value_of, is_set_syntax, begins_pair, is_reserved, escaped_character_at, set_character_at, strings_by, quoted_at, property_operand, operand_productions, escaped_operand_at, operand_at, next_operand_at, range_of, range_at, part_after, parts_by, parts_at, are_at, operands_by, operands_at, contents_after, contents_at, closed_contents_at, class_set_by, class_set_at}
use Rattle.regress_classes.proofs.lemmas.Pieces.{property_at-ends}
use Rattle.regress_lexer.proofs.lemmas.After.{IsSuffix, after_same, after_drop, Ends, ends_none, ends_some, one-ends, ends_after, ends_more, ends_then, ends_map, ends_cond, escape_at-ends}
use Rattle.regress_lexer.proofs.lemmas.Sources.{EachProduction, no_more, ◌also◌, first_production-has, then_same}

-- ---- parsing after a list is joining the result to it

map_cond : {A B : Type 0} (f : A → B) (b : Bool) (x y : Found A) → found_map f (cond b x y) ≡ cond b (found_map f x) (found_map f y)
map_cond f true x y = refl
map_cond f false x y = refl

map_then : {A B C : Type 0} (f : B → C) (found : Found A) (next : A × Source → Found B) →
    found_map f (found >>= next) ≡ found >>= λ x. found_map f (next x)
map_then f None next = refl
map_then f (Some x) next = refl

map_map : {A B C : Type 0} (f : B → C) (g : A → B) (found : Found A) → found_map f (found_map g found) ≡ found_map (λ a. f (g a)) found
map_map f g None = refl
map_map f g (Some x) = refl

module _ (table : Table) (parameters : Parameters) (inner : Source → Found (Bool × Value)) (in_negated : Bool) where
  pub parts_joined : (n : ℕ) (held : Value) (t : Source) →
      found_map (folded_left joined held) (parts_by table parameters inner in_negated (suc n) t)
      ≡ cond (is_at 93 t) (Some (held, drop 1 t))
      (operand_at table parameters inner in_negated t >>= part_after table parameters inner in_negated
      >>= λ (x : Value × Source). found_map (folded_left joined (joined held x.0)) (parts_by table parameters inner in_negated n x.1))
  unfolding parts_by
  parts_joined n held t =
      map_cond (folded_left joined held) (is_at 93 t) _ _
      ∙ ap (cond (is_at 93 t) (Some (held, drop 1 t)))
      (map_then (folded_left joined held) (operand_at table parameters inner in_negated t >>= part_after table parameters inner in_negated) _
      ∙ then_same (operand_at table parameters inner in_negated t >>= part_after table parameters inner in_negated) _ _
      (λ x found. map_map (folded_left joined held) (λ parts. x.0 ∷ parts) (parts_by table parameters inner in_negated n x.1)))

  pub operands_joined : (n c : ℕ) (f : Value → Value → Value) (held : Value) (t : Source) →
      found_map (folded_left f held) (operands_by table parameters inner in_negated (suc n) c t)
      ≡ next_operand_at table parameters inner in_negated c t >>= λ (x : Operand × Source).
      cond (is_at 93 x.1) (Some (f held (closed_value_of table parameters x.0), drop 1 x.1))
      (cond (are_at c x.1)
      (found_map (folded_left f (f held (closed_value_of table parameters x.0))) (operands_by table parameters inner in_negated n c (drop 2 x.1)))
      None)
  unfolding operands_by
  operands_joined n c f held t =
      map_then (folded_left f held) (next_operand_at table parameters inner in_negated c t) _
      ∙ then_same (next_operand_at table parameters inner in_negated c t) _ _
      (λ x found.
      map_cond (folded_left f held) (is_at 93 x.1) _ _
      ∙ ap (cond (is_at 93 x.1) (Some (f held (closed_value_of table parameters x.0), drop 1 x.1)))
      (map_cond (folded_left f held) (are_at c x.1) _ _
      ∙ ap (λ y. cond (are_at c x.1) y None)
      (map_map (folded_left f held) (λ others. closed_value_of table parameters x.0 ∷ others) (operands_by table parameters inner in_negated n c (drop 2 x.1)))))

-- ---- negated classes

-- A class that may be negated has no strings.
pub no_strings : (dialect : Dialect) (negated : Bool) (v : Value) → (negated && is_not_negatable dialect v) ≡ false →
    (negated && has_strings v) ≡ false
no_strings dialect negated v e = by negated (has_strings v) e
  where
    by : (b s : Bool) → (b && (s || (not (judges_contents dialect) && v.may_have_strings))) ≡ false → (b && s) ≡ false
    by true true e = e
    by true false e = refl
    by false s e = refl

-- ---- the source after an operand

escaped_character_at-ends : (unicode : Bool) (t : Source) → Ends (escaped_character_at unicode t) t
escaped_character_at-ends unicode [] = ends_none []
escaped_character_at-ends unicode (c ∷ t) =
    ends_cond (c == 98) _ _ (c ∷ t) (one-ends 8 c t)
    (ends_cond (is_reserved c) _ _ (c ∷ t) (one-ends c c t) (escape_at-ends unicode (c ∷ t)))

-- A character consumes at least one code point.
pub set_character_at-shortens : (parameters : Parameters) (t : Source) → Ends (set_character_at parameters t) (drop 1 t)
unfolding set_character_at
set_character_at-shortens parameters [] = ends_none []
set_character_at-shortens parameters (c ∷ t) =
    ends_cond (c == 92) _ _ t (escaped_character_at-ends parameters.unicode t)
    (ends_cond (is_set_syntax c || begins_pair parameters.dialect c t) _ _ t (ends_none t) (ends_some (c, t) t (after_same t)))

pub set_character_at-ends : (parameters : Parameters) (t : Source) → Ends (set_character_at parameters t) t
set_character_at-ends parameters t = ends_after _ t (drop 1 t) (after_drop 1 t) (set_character_at-shortens parameters t)

pub strings_by-ends : (n : ℕ) (parameters : Parameters) (s : List ℕ) (t : Source) → Ends (strings_by n parameters s t) t
unfolding strings_by
strings_by-ends zero parameters s t = ends_none t
strings_by-ends (suc n) parameters s t =
    ends_cond (is_at 125 t) _ _ t (ends_some _ t (after_drop 1 t))
    (ends_cond (is_at 124 t) _ _ t
    (ends_after _ t (drop 1 t) (after_drop 1 t) (ends_map _ _ (drop 1 t) (strings_by-ends n parameters [] (drop 1 t))))
    (ends_then (set_character_at parameters t) _ t (set_character_at-ends parameters t)
    (λ x. strings_by-ends n parameters (s ++ x.0 ∷ []) x.1)))

quoted_at-ends : (parameters : Parameters) (t : Source) → Ends (quoted_at parameters t) t
quoted_at-ends parameters t =
    ends_cond (is_at 123 t) _ _ t
    (ends_after _ t (drop 1 t) (after_drop 1 t)
    (ends_map _ (strings_by (length t) parameters [] (drop 1 t)) (drop 1 t) (strings_by-ends (length t) parameters [] (drop 1 t))))
    (ends_none t)

module _ (table : Table) (parameters : Parameters) where
  property_operand-ends : (in_negated negated : Bool) (x : Property × Source) → Ends (property_operand table parameters in_negated negated x) x.1
  property_operand-ends in_negated negated (of_points members, t) = ends_some _ t (after_same t)
  property_operand-ends in_negated negated (of_strings written, t) =
      ends_cond (in_negated || negated) _ _ t (ends_none t) (ends_some _ t (after_same t))

  operand_productions-end : (in_negated : Bool) (c : ℕ) (t : Source) → EachProduction (λ found. Ends found (c ∷ t)) (operand_productions table parameters in_negated c t)
  operand_productions-end in_negated c t =
      (λ _. ends_more _ c t (quoted_at-ends parameters t))
      also (λ _. ends_more _ c t (ends_then (property_at true table t) _ t (property_at-ends true table t) (property_operand-ends in_negated _)))
      also (λ _. ends_map character _ (c ∷ t) (escaped_character_at-ends parameters.unicode (c ∷ t)))
      also no_more

  escaped_operand_at-ends : (in_negated : Bool) (t : Source) → Ends (escaped_operand_at table parameters in_negated t) t
  escaped_operand_at-ends in_negated [] = ends_none []
  escaped_operand_at-ends in_negated (c ∷ t) =
      elim (class_letter c) as (λ named. Ends (elim named as (λ _. Found Operand) [
        | Some name ↦ Some (class (only (class_members table parameters name)), t)
        | None ↦ first_production (operand_productions table parameters in_negated c t)
      ]) (c ∷ t)) [
        | Some name ↦ one-ends (class (only (class_members table parameters name))) c t
        | None ↦ first_production-has (λ found. Ends found (c ∷ t)) (operand_productions table parameters in_negated c t) (ends_none (c ∷ t)) (operand_productions-end in_negated c t)
      ]

  -- The lemmas on a class follow from the same on the classes inside it.
  module _ (inner : Source → Found (Bool × Value)) (inner_ends : (t : Source) → Ends (inner t) t) (in_negated : Bool) where
    -- An operand consumes at least one code point.
    pub operand_at-shortens : (t : Source) → Ends (operand_at table parameters inner in_negated t) (drop 1 t)
    unfolding operand_at
    operand_at-shortens t =
        ends_cond (is_at 91 t) _ _ (drop 1 t) (ends_map _ (inner (drop 1 t)) (drop 1 t) (inner_ends (drop 1 t)))
        (ends_cond (is_at 92 t) _ _ (drop 1 t) (escaped_operand_at-ends in_negated (drop 1 t))
        (ends_map character (set_character_at parameters t) (drop 1 t) (set_character_at-shortens parameters t)))

    pub operand_at-ends : (t : Source) → Ends (operand_at table parameters inner in_negated t) t
    operand_at-ends t = ends_after _ t (drop 1 t) (after_drop 1 t) (operand_at-shortens t)

    made-ends : (made : Option (List Bounds)) (t : Source) →
        Ends (elim made as (λ _. Found Value) [ None ↦ None | Some members ↦ Some (only members, t) ]) t
    made-ends None t = ends_none t
    made-ends (Some members) t = ends_some (only members, t) t (after_same t)

    range_at-ends : (first : Operand) (t : Source) → Ends (range_at table parameters inner in_negated first t) t
    range_at-ends first t =
        ends_then (operand_at table parameters inner in_negated t) _ t (operand_at-ends t)
        (λ x. made-ends (range_of first x.0) x.1)

    pub part_after-ends : (x : Operand × Source) → Ends (part_after table parameters inner in_negated x) x.1
    part_after-ends (first, t) =
        ends_cond (is_at 45 t) _ _ t (ends_after _ t (drop 1 t) (after_drop 1 t) (range_at-ends first (drop 1 t)))
        (ends_some (value_of first, t) t (after_same t))

    parts_by-ends : (n : ℕ) (t : Source) → Ends (parts_by table parameters inner in_negated n t) t
    unfolding parts_by
    parts_by-ends zero t = ends_none t
    parts_by-ends (suc n) t =
        ends_cond (is_at 93 t) _ _ t (ends_some _ t (after_drop 1 t))
        (ends_then _ _ t (ends_then (operand_at table parameters inner in_negated t) _ t (operand_at-ends t) part_after-ends)
        (λ x. ends_map _ (parts_by table parameters inner in_negated n x.1) x.1 (parts_by-ends n x.1)))

    pub next_operand_at-ends : (c : ℕ) (t : Source) → Ends (next_operand_at table parameters inner in_negated c t) t
    next_operand_at-ends c t =
        ends_cond (not (isolates_ampersand parameters.dialect) && is_at c t) _ _ t (ends_none t) (operand_at-ends t)

    operands_by-ends : (n c : ℕ) (t : Source) → Ends (operands_by table parameters inner in_negated n c t) t
    unfolding operands_by
    operands_by-ends zero c t = ends_none t
    operands_by-ends (suc n) c t =
        ends_then (next_operand_at table parameters inner in_negated c t) _ t (next_operand_at-ends c t)
        (λ x. ends_cond (is_at 93 x.1) _ _ x.1 (ends_some _ x.1 (after_drop 1 x.1))
        (ends_cond (are_at c x.1) _ _ x.1
        (ends_after _ x.1 (drop 2 x.1) (after_drop 2 x.1)
        (ends_map _ (operands_by table parameters inner in_negated n c (drop 2 x.1)) (drop 2 x.1) (operands_by-ends n c (drop 2 x.1))))
        (ends_none x.1)))

    parts_onto-ends : (held : List Value → Value) (t : Source) → Ends (found_map held (parts_at table parameters inner in_negated t)) t
    parts_onto-ends held t = ends_map held (parts_at table parameters inner in_negated t) t (parts_by-ends (length t + 1) t)

    operands_onto-ends : (c : ℕ) (held : List Value → Value) (t : Source) →
        Ends (found_map held (operands_at table parameters inner in_negated c (drop 2 t))) t
    operands_onto-ends c held t =
        ends_after _ t (drop 2 t) (after_drop 2 t)
        (ends_map held (operands_at table parameters inner in_negated c (drop 2 t)) (drop 2 t) (operands_by-ends (length (drop 2 t) + 1) c (drop 2 t)))

    pub contents_after-ends : (x : Operand × Source) → Ends (contents_after table parameters inner in_negated x) x.1
    contents_after-ends (first, t) =
        ends_cond (are_at 38 t) _ _ t (operands_onto-ends 38 (folded_left common (closed_value_of table parameters first)) t)
        (ends_cond (are_at 45 t) _ _ t (operands_onto-ends 45 (folded_left without (closed_value_of table parameters first)) t)
        (ends_cond (is_at 38 t && isolates_ampersand parameters.dialect) _ _ t
        (ends_after _ t (drop 1 t) (after_drop 1 t)
        (parts_onto-ends (folded_left joined (joined (value_of first) (only (one_point 38)))) (drop 1 t)))
        (ends_then (part_after table parameters inner in_negated (first, t)) _ t (part_after-ends (first, t))
        (λ x. parts_onto-ends (folded_left joined x.0) x.1))))

    pub contents_at-ends : (t : Source) → Ends (contents_at table parameters inner in_negated t) t
    contents_at-ends t =
        ends_cond (is_at 93 t) _ _ t (ends_some _ t (after_drop 1 t))
        (ends_then (operand_at table parameters inner in_negated t) _ t (operand_at-ends t) contents_after-ends)

    closed_contents_at-ends : (t : Source) → Ends (closed_contents_at table parameters inner in_negated t) t
    closed_contents_at-ends t = ends_map (closed_value table parameters) (contents_at table parameters inner in_negated t) t (contents_at-ends t)

  unless_negated_strings-ends : (negated : Bool) (x : Value × Source) → Ends (unless_negated_strings parameters.dialect negated x) x.1
  unless_negated_strings-ends negated (v, t) =
      ends_cond (negated && is_not_negatable parameters.dialect v) _ _ t (ends_none t) (ends_some _ t (after_same t))

  inside-after : (t : Source) → IsSuffix t (cond (is_at 94 t) (drop 1 t) t)
  inside-after t = elim (is_at 94 t) as (λ b. IsSuffix t (cond b (drop 1 t) t)) [ true ↦ after_drop 1 t | false ↦ after_same t ]

  pub class_set_by-ends : (n : ℕ) (t : Source) → Ends (class_set_by table parameters n t) t
  unfolding class_set_by
  class_set_by-ends zero t = ends_none t
  class_set_by-ends (suc n) t =
      let inside = cond (is_at 94 t) (drop 1 t) t in
      ends_after _ t inside (inside-after t)
      (ends_then (closed_contents_at table parameters (class_set_by table parameters n) (is_at 94 t && judges_contents parameters.dialect) inside) _ inside
      (closed_contents_at-ends (class_set_by table parameters n) (class_set_by-ends n) (is_at 94 t && judges_contents parameters.dialect) inside)
      (unless_negated_strings-ends (is_at 94 t)))

  pub class_set_at-ends : (t : Source) → Ends (class_set_at table parameters t) t
  class_set_at-ends t = class_set_by-ends max_nesting_depth t
