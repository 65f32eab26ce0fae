-- The contents of a class with the flag v, operand by operand.
use Rattle.std.proofs.Common.{◌≡◌, ℕ, zero, suc, ◌+◌, ◌<◌, ◌≤◌, Bool, true, false, cond, [], ◌∷◌, length, drop, Some, None, refl, sym, ap, ◌∙◌, subst, add-one, arith, length-drop, not, ◌&&◌}
use Rattle.std.proofs.lemmas.Bool.{cond-true, cond-false}
use Rattle.std.proofs.lemmas.Option.{none-some}
use Rattle.regress_base.specs.Table.{Table}
use Rattle.regress_lexer.specs.declared.dialect.Dialect.{Dialect}
use Rattle.regress_lexer.specs.Dialects.{isolates_ampersand, judges_contents}
use Rattle.regress_lexer.specs.Source.{Source, Found, ◌>>=◌, found_map, is_at}
use Rattle.regress_classes.specs.declared.parameters.Parameters.{Parameters}
use Rattle.regress_classes.specs.ClassProductions.{one_point}
use Rattle.regress_classes.specs.ClassSets.{Value, only, joined, folded_left, common, without, unless_negated_strings, Operand, value_of, closed_value_of, set_character_at, operand_at, next_operand_at, part_after, parts_by, are_at, operands_by, contents_after, contents_at, closed_contents_at, class_set_by}
use Rattle.regress_classes.specs.ClassViews.{parts_onto, operands_onto}
use Rattle.regress_lexer.proofs.lemmas.Sources.{found_then, then_same, cond_same}
use Rattle.regress_lexer.proofs.lemmas.After.{after_shorter, Ends}
use Rattle.regress_classes.proofs.lemmas.ClassSets.{operand_at-shortens, part_after-ends, parts_joined, operands_joined}

module _ (table : Table) (parameters : Parameters) (inner : Source → Found (Bool × Value)) (inner_ends : (t : Source) → Ends (inner t) t) (in_negated : Bool) where
  -- ---- the contents without a bound

  -- There is no operand at the end of the source.
  pub no_operand : (t : Source) → t ≡ [] → operand_at table parameters inner in_negated t ≡ None
  unfolding operand_at set_character_at
  no_operand t e = ap (operand_at table parameters inner in_negated) e

  pub operand_shortens : (t : Source) (x : Operand × Source) → operand_at table parameters inner in_negated t ≡ Some x → length x.1 < length t
  operand_shortens [] x e = absurd (none-some x (sym (no_operand [] refl) ∙ e))
  operand_shortens (c ∷ t) x e =
      omega (arith, after_shorter t x.1 ((operand_at-shortens table parameters inner inner_ends in_negated (c ∷ t)).each x e))

  pub part_shortens : (t : Source) (x : Value × Source) →
      operand_at table parameters inner in_negated t >>= part_after table parameters inner in_negated ≡ Some x → length x.1 < length t
  part_shortens t x e =
      let first = found_then (operand_at table parameters inner in_negated t) (part_after table parameters inner in_negated) x e in
      omega (
        arith,
        operand_shortens t first.0 first.1,
        after_shorter first.0.1 x.1 ((part_after-ends table parameters inner inner_ends in_negated first.0).each x first.2),
      )

  parts_by-same : (n m : ℕ) (t : Source) → length t < n → length t < m →
      parts_by table parameters inner in_negated n t ≡ parts_by table parameters inner in_negated m t
  unfolding parts_by
  parts_by-same zero m t h k = absurd (omega arith)
  parts_by-same (suc n) zero t h k = absurd (omega arith)
  parts_by-same (suc n) (suc m) t h k =
      cond_same (is_at 93 t) _ _ _ _ (λ closes. refl)
      (λ goes_on. then_same (operand_at table parameters inner in_negated t >>= part_after table parameters inner in_negated) _ _
      (λ x found.
      let shorter = part_shortens t x found in
      ap (found_map (λ parts. x.0 ∷ parts)) (parts_by-same n m x.1 (omega arith) (omega arith))))

  pub parts_closed : (value : Value) (t : Source) → is_at 93 t ≡ true →
      parts_onto table parameters inner in_negated value t ≡ Some (value, drop 1 t)
  parts_closed value t closes =
      ap (λ n. found_map (folded_left joined value) (parts_by table parameters inner in_negated n t)) (add-one (length t))
      ∙ parts_joined table parameters inner in_negated (length t) value t ∙ cond-true _ _ _ closes

  pub parts_go_on : (value : Value) (t : Source) → is_at 93 t ≡ false →
      parts_onto table parameters inner in_negated value t
      ≡ operand_at table parameters inner in_negated t >>= part_after table parameters inner in_negated
      >>= λ (x : Value × Source). parts_onto table parameters inner in_negated (joined value x.0) x.1
  parts_go_on value t goes_on =
      ap (λ n. found_map (folded_left joined value) (parts_by table parameters inner in_negated n t)) (add-one (length t))
      ∙ parts_joined table parameters inner in_negated (length t) value t ∙ cond-false _ _ _ goes_on
      ∙ then_same (operand_at table parameters inner in_negated t >>= part_after table parameters inner in_negated) _ _
      (λ x found. let shorter = part_shortens t x found in
      ap (found_map (folded_left joined (joined value x.0))) (parts_by-same (length t) (length x.1 + 1) x.1 shorter (omega arith)))

  both_shorten : (c : ℕ) (t : Source) → are_at c t ≡ true → length (drop 2 t) ≤ length t
  both_shorten c t e = omega (arith, length-drop 2 t)

  pub next_shortens : (c : ℕ) (t : Source) (x : Operand × Source) → next_operand_at table parameters inner in_negated c t ≡ Some x → length x.1 < length t
  next_shortens c t x e = by (not (isolates_ampersand parameters.dialect) && is_at c t) e
    where
      by : (b : Bool) → cond b None (operand_at table parameters inner in_negated t) ≡ Some x → length x.1 < length t
      by true e = absurd (none-some x e)
      by false e = operand_shortens t x e

  operands_by-same : (n m c : ℕ) (t : Source) → length t < n → length t < m →
      operands_by table parameters inner in_negated n c t ≡ operands_by table parameters inner in_negated m c t
  unfolding operands_by
  operands_by-same zero m c t h k = absurd (omega arith)
  operands_by-same (suc n) zero c t h k = absurd (omega arith)
  operands_by-same (suc n) (suc m) c t h k =
      then_same (next_operand_at table parameters inner in_negated c t) _ _
      (λ x found.
      let shorter = next_shortens c t x found in
      cond_same (is_at 93 x.1) _ _ _ _ (λ closes. refl)
      (λ goes_on. cond_same (are_at c x.1) _ _ _ _
      (λ more. let rest = both_shorten c x.1 more in
      ap (found_map (λ others. closed_value_of table parameters x.0 ∷ others)) (operands_by-same n m c (drop 2 x.1) (omega arith) (omega arith)))
      (λ none. refl)))

  -- One operand, and what follows it.
  pub operands_go_on : (c : ℕ) (f : Value → Value → Value) (value : Value) (t : Source) →
      operands_onto table parameters inner in_negated c f value t
      ≡ next_operand_at table parameters inner in_negated c t >>= λ (x : Operand × Source).
      cond (is_at 93 x.1) (Some (f value (closed_value_of table parameters x.0), drop 1 x.1))
      (cond (are_at c x.1) (operands_onto table parameters inner in_negated c f (f value (closed_value_of table parameters x.0)) (drop 2 x.1)) None)
  operands_go_on c f value t =
      ap (λ n. found_map (folded_left f value) (operands_by table parameters inner in_negated n c t)) (add-one (length t))
      ∙ operands_joined table parameters inner in_negated (length t) c f value t
      ∙ then_same (next_operand_at table parameters inner in_negated c t) _ _
      (λ x found.
      let shorter = next_shortens c t x found in
      cond_same (is_at 93 x.1) _ _ _ _ (λ closes. refl)
      (λ goes_on. cond_same (are_at c x.1) _ _ _ _
      (λ more. let rest = both_shorten c x.1 more in
      ap (found_map (folded_left f (f value (closed_value_of table parameters x.0))))
      (operands_by-same (length t) (length (drop 2 x.1) + 1) c (drop 2 x.1) (omega arith) (omega arith)))
      (λ none. refl)))

  -- ---- productions of contents

  pub no_contents : (t : Source) → t ≡ [] → contents_at table parameters inner in_negated t ≡ None
  no_contents t e =
      ap (contents_at table parameters inner in_negated) e
      ∙ ap (λ (first : Found Operand). first >>= contents_after table parameters inner in_negated) (no_operand [] refl)

  -- Operands joined by `&&` or by `--`, after the first one.
  pub intersection_read : (first : Operand) (t mid : Source) → are_at 38 t ≡ true → mid ≡ drop 2 t →
      contents_after table parameters inner in_negated (first, t) ≡ operands_onto table parameters inner in_negated 38 common (closed_value_of table parameters first) mid
  intersection_read first t mid both moved =
      cond-true _ _ _ both ∙ ap (operands_onto table parameters inner in_negated 38 common (closed_value_of table parameters first)) (sym moved)

  pub subtraction_read : (first : Operand) (t mid : Source) → are_at 38 t ≡ false → are_at 45 t ≡ true → mid ≡ drop 2 t →
      contents_after table parameters inner in_negated (first, t) ≡ operands_onto table parameters inner in_negated 45 without (closed_value_of table parameters first) mid
  subtraction_read first t mid no_intersection both moved =
      cond-false _ _ _ no_intersection ∙ cond-true _ _ _ both
      ∙ ap (operands_onto table parameters inner in_negated 45 without (closed_value_of table parameters first)) (sym moved)

  -- A single `&` after the first operand.
  pub ampersand_read : (first : Operand) (t mid : Source) → are_at 38 t ≡ false → are_at 45 t ≡ false → (is_at 38 t && isolates_ampersand parameters.dialect) ≡ true → mid ≡ drop 1 t →
      contents_after table parameters inner in_negated (first, t)
      ≡ parts_onto table parameters inner in_negated (joined (value_of first) (only (one_point 38))) mid
  ampersand_read first t mid no_intersection no_subtraction single moved =
      cond-false _ _ _ no_intersection ∙ cond-false _ _ _ no_subtraction ∙ cond-true _ _ _ single
      ∙ ap (parts_onto table parameters inner in_negated (joined (value_of first) (only (one_point 38)))) (sym moved)

  -- A first part, and the parts after it.
  pub first_part_read : (first : Operand) (t mid : Source) (part : Value × Source) → are_at 38 t ≡ false → are_at 45 t ≡ false → (is_at 38 t && isolates_ampersand parameters.dialect) ≡ false →
      mid ≡ t → part_after table parameters inner in_negated (first, mid) ≡ Some part →
      contents_after table parameters inner in_negated (first, t) ≡ parts_onto table parameters inner in_negated part.0 part.1
  first_part_read first t mid part no_intersection no_subtraction no_ampersand same found =
      cond-false _ _ _ no_intersection ∙ cond-false _ _ _ no_subtraction ∙ cond-false _ _ _ no_ampersand
      ∙ ap (λ (x : Found Value). x >>= λ (y : Value × Source). parts_onto table parameters inner in_negated y.0 y.1)
      (ap (λ (u : Source). part_after table parameters inner in_negated (first, u)) (sym same) ∙ found)

  pub no_first : (value : Value) (t : Source) → is_at 93 t ≡ false → operand_at table parameters inner in_negated t ≡ None →
      parts_onto table parameters inner in_negated value t ≡ None
  no_first value t goes_on none =
      parts_go_on value t goes_on
      ∙ ap (λ (first : Found Operand). first >>= part_after table parameters inner in_negated
      >>= λ (x : Value × Source). parts_onto table parameters inner in_negated (joined value x.0) x.1) none

  part_read : (t : Source) (first : Operand × Source) (part : Found Value) → operand_at table parameters inner in_negated t ≡ Some first →
      part_after table parameters inner in_negated first ≡ part →
      operand_at table parameters inner in_negated t >>= part_after table parameters inner in_negated ≡ part
  part_read t first part found e = ap (λ (x : Found Operand). x >>= part_after table parameters inner in_negated) found ∙ e

  pub no_part : (value : Value) (t : Source) (first : Operand × Source) → is_at 93 t ≡ false →
      operand_at table parameters inner in_negated t ≡ Some first → part_after table parameters inner in_negated first ≡ None →
      parts_onto table parameters inner in_negated value t ≡ None
  no_part value t first goes_on found none =
      parts_go_on value t goes_on
      ∙ ap (λ (part : Found Value). part >>= λ (x : Value × Source). parts_onto table parameters inner in_negated (joined value x.0) x.1)
      (part_read t first None found none)

  pub one_part : (value : Value) (t : Source) (first : Operand × Source) (part : Value × Source) → is_at 93 t ≡ false →
      operand_at table parameters inner in_negated t ≡ Some first → part_after table parameters inner in_negated first ≡ Some part →
      parts_onto table parameters inner in_negated value t ≡ parts_onto table parameters inner in_negated (joined value part.0) part.1
  one_part value t first part goes_on found e =
      parts_go_on value t goes_on
      ∙ ap (λ (part : Found Value). part >>= λ (x : Value × Source). parts_onto table parameters inner in_negated (joined value x.0) x.1)
      (part_read t first (Some part) found e)

  pub parts_end : (t : Source) (first : Operand × Source) (part : Value × Source) → operand_at table parameters inner in_negated t ≡ Some first →
      part_after table parameters inner in_negated first ≡ Some part → length part.1 < length t
  parts_end t first part found e = part_shortens t part (part_read t first (Some part) found e)

  -- ---- productions of operators

  after_operand : (c : ℕ) (f : Value → Value → Value) (value : Value) → Operand × Source → Found Value
  after_operand c f value x =
      cond (is_at 93 x.1) (Some (f value (closed_value_of table parameters x.0), drop 1 x.1))
      (cond (are_at c x.1) (operands_onto table parameters inner in_negated c f (f value (closed_value_of table parameters x.0)) (drop 2 x.1)) None)

  pub no_last : (c : ℕ) (f : Value → Value → Value) (value : Value) (t : Source) → next_operand_at table parameters inner in_negated c t ≡ None →
      operands_onto table parameters inner in_negated c f value t ≡ None
  unfolding after_operand
  no_last c f value t none =
      operands_go_on c f value t ∙ ap (λ (x : Found Operand). x >>= after_operand c f value) none

  pub last_read : (c : ℕ) (f : Value → Value → Value) (value : Value) (t : Source) (x : Operand × Source) (rest : Source) →
      next_operand_at table parameters inner in_negated c t ≡ Some x → is_at 93 x.1 ≡ true → rest ≡ drop 1 x.1 →
      operands_onto table parameters inner in_negated c f value t ≡ Some (f value (closed_value_of table parameters x.0), rest)
  unfolding after_operand
  last_read c f value t x rest found closes moved =
      operands_go_on c f value t ∙ ap (λ (y : Found Operand). y >>= after_operand c f value) found ∙ cond-true _ _ _ closes
      ∙ ap (λ (u : Source). Some (f value (closed_value_of table parameters x.0), u)) (sym moved)

  pub more_read : (c : ℕ) (f : Value → Value → Value) (value : Value) (t : Source) (x : Operand × Source) (rest : Source) →
      next_operand_at table parameters inner in_negated c t ≡ Some x → is_at 93 x.1 ≡ false → are_at c x.1 ≡ true → rest ≡ drop 2 x.1 →
      operands_onto table parameters inner in_negated c f value t ≡ operands_onto table parameters inner in_negated c f (f value (closed_value_of table parameters x.0)) rest
  unfolding after_operand
  more_read c f value t x rest found goes_on more moved =
      operands_go_on c f value t ∙ ap (λ (y : Found Operand). y >>= after_operand c f value) found ∙ cond-false _ _ _ goes_on
      ∙ cond-true _ _ _ more ∙ ap (operands_onto table parameters inner in_negated c f (f value (closed_value_of table parameters x.0))) (sym moved)

  pub none_read : (c : ℕ) (f : Value → Value → Value) (value : Value) (t : Source) (x : Operand × Source) →
      next_operand_at table parameters inner in_negated c t ≡ Some x → is_at 93 x.1 ≡ false → are_at c x.1 ≡ false →
      operands_onto table parameters inner in_negated c f value t ≡ None
  unfolding after_operand
  none_read c f value t x found goes_on none =
      operands_go_on c f value t ∙ ap (λ (y : Found Operand). y >>= after_operand c f value) found ∙ cond-false _ _ _ goes_on
      ∙ cond-false _ _ _ none

-- ---- classes

pub no_nesting : (table : Table) (parameters : Parameters) (n : ℕ) (t : Source) → n ≡ 0 → class_set_by table parameters n t ≡ None
unfolding class_set_by
no_nesting table parameters n t e = ap (λ n. class_set_by table parameters n t) e

-- Stated for any function that parses the contents: unfolded, they are too long to rewrite with an equation.
after_caret : (dialect : Dialect) (contents : Bool → Source → Found Value) (t mid : Source) (negated : Bool) (found : Found Value) →
    negated ≡ is_at 94 t → mid ≡ cond negated (drop 1 t) t → contents (negated && judges_contents dialect) mid ≡ found →
    contents (is_at 94 t && judges_contents dialect) (cond (is_at 94 t) (drop 1 t) t) >>= unless_negated_strings dialect (is_at 94 t)
    ≡ found >>= unless_negated_strings dialect negated
after_caret dialect contents t mid negated found caret moved e =
    subst (λ b. contents (b && judges_contents dialect) (cond b (drop 1 t) t) >>= unless_negated_strings dialect b
    ≡ found >>= unless_negated_strings dialect negated) caret
    (ap (λ (x : Found Value). x >>= unless_negated_strings dialect negated)
    (ap (contents (negated && judges_contents dialect)) (sym moved) ∙ e))

pub class_read : (table : Table) (parameters : Parameters) (n m : ℕ) (t mid : Source) (negated judged : Bool) (found : Found Value) → n ≡ suc m →
    negated ≡ is_at 94 t → mid ≡ cond negated (drop 1 t) t → judged ≡ (negated && judges_contents parameters.dialect) →
    closed_contents_at table parameters (class_set_by table parameters m) judged mid ≡ found →
    class_set_by table parameters n t ≡ found >>= unless_negated_strings parameters.dialect negated
unfolding class_set_by
class_read table parameters n m t mid negated judged found one_more caret moved is_judged e =
    ap (λ n. class_set_by table parameters n t) one_more
    ∙ after_caret parameters.dialect (closed_contents_at table parameters (class_set_by table parameters m)) t mid negated found caret moved
    (ap (λ b. closed_contents_at table parameters (class_set_by table parameters m) b mid) (sym is_judged) ∙ e)

-- ---- what was parsed so far

-- From `t`, with `held` before it, the source was parsed up to `rest`, and the code has the result.
pub record ReadFrom {Code : Type 0} (Is : Code → Value → Type 0) (read : Value → Source → Found Value) (held : Value) (t rest : Source)
    (code : Code) : Type 0 where
  pub value : Value
  pub whole : read held t ≡ read value rest
  pub is : Is code value

pub read_on : {Code : Type 0} (Is : Code → Value → Type 0) (read : Value → Source → Found Value) (held now : Value) (t mid rest : Source)
    (code new : Code) → (so_far : ReadFrom Is read held t mid code) → read so_far.value mid ≡ read now rest → Is new now →
    ReadFrom Is read held t rest new
read_on Is read held now t mid rest code new so_far e is = record { value = now; whole = so_far.whole ∙ e; is = is }
