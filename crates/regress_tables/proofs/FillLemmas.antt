-- A table stays right where bits are added in order.
use Rattle.std.proofs.Common.{zero, suc, ◌≡◌, ℕ, ◌+◌, ◌*◌, ◌≤◌, ◌<◌, ◌⊎◌, Bool, true, false, List, [], ◌∷◌, ◌++◌, length, min, get_or, slice_get, take, Option, Some, refl, sym, ap, ap₂, ◌∙◌, subst, inl, inr, arith, length-append}
use Rattle.std.proofs.lemmas.Bool.{cases_eq}
use Rattle.std.proofs.Math.ListN.{get_or-append}
use Rattle.std.proofs.lemmas.List.{get_or_push}
use Rattle.std.proofs.lemmas.Option.{slice_get_within}
use Rattle.std.proofs.lemmas.Nat.{same_from_place}
use Rattle.regress_tree.specs.Reading.{Direction, forwards, backwards, direction_if}
use Rattle.regress_tree.specs.Steps.{Setting}
use Rattle.regress_program.specs.Below.{row_of, column, place}
use Rattle.regress_program.specs.Program.{Out, Routine, Op, outcomes_by, outcomes_at, matcher_of, IsSolution}
use Rattle.regress_program.specs.Tidy.{has_no_back_reference}
use Rattle.regress_program.specs.Shape.{Fits}
use Rattle.regress_code.specs.Code.{code_routines}
use Rattle.regress_tables.specs.declared.table.Table.{Table}
use Rattle.regress_tables.specs.declared.evaluate.Input.{Input}
use Rattle.regress_tables.specs.Evaluated.{CanEvaluate, CanFill}
use Rattle.regress_tables.specs.Table.{has_outcome, Tells, TellsOf, evaluated, index, cell, IsRight, IsNext, SameShape, IsTableOf, IsFull, AreTables, AreRight}
use Rattle.regress_program.proofs.lemmas.Instructions.{no_reference-at}
use Rattle.regress_program.proofs.lemmas.Places.{column-less}

pub same-index : (t t' : Table) (pc : ℕ) (moved : Bool) (position : ℕ) → SameShape t t' → index t' pc moved position ≡ index t pc moved position
same-index t t' pc moved position same =
    ap (λ w. place w t'.length (direction_if t'.backwards) pc moved position) same.width
    ∙ ap (λ n. place t.width n (direction_if t'.backwards) pc moved position) same.length
    ∙ ap (λ b. place t.width t.length (direction_if b) pc moved position) same.backwards

pub SameShape-trans : (t u v : Table) → SameShape t u → SameShape u v → SameShape t v
SameShape-trans t u v a b = record { width = b.width ∙ a.width; length = b.length ∙ a.length; backwards = b.backwards ∙ a.backwards }

-- the instructions of a half row follow each other
pub index-more : (t : Table) (pc : ℕ) (moved : Bool) (position : ℕ) → index t pc moved position ≡ index t 0 moved position + pc
unfolding place
index-more t pc true position = omega arith
index-more t pc false position = omega arith

-- ---- each state has its own index

same-column : (w pc pc' : ℕ) (moved moved' : Bool) → pc < w → pc' < w → column w moved pc ≡ column w moved' pc' → (pc ≡ pc') × (moved ≡ moved')
same-column w pc pc' true true lt lt' e = (omega (arith, e), refl)
same-column w pc pc' true false lt lt' e = absurd (omega (arith, e, lt, lt'))
same-column w pc pc' false true lt lt' e = absurd (omega (arith, e, lt, lt'))
same-column w pc pc' false false lt lt' e = (e, refl)

pub same-row : (d : Direction) (n p q : ℕ) → p ≤ n → q ≤ n → row_of d n p ≡ row_of d n q → p ≡ q
same-row backwards n p q le le' e = e
same-row forwards n p q le le' e = omega (arith, e, le, le')

pub same-state : (t : Table) (pc pc' : ℕ) (moved moved' : Bool) (p q : ℕ) → pc < t.width → pc' < t.width → p ≤ t.length → q ≤ t.length →
    index t pc moved p ≡ index t pc' moved' q → (pc ≡ pc') × (moved ≡ moved') × (p ≡ q)
unfolding place
same-state t pc pc' moved moved' p q lt lt' le le' e =
    let place = same_from_place (row_of (direction_if t.backwards) t.length p) (column t.width moved pc) (row_of (direction_if t.backwards) t.length q) (column t.width moved' pc') (2 * t.width)
    (column-less t.width pc moved lt) (column-less t.width pc' moved' lt') e in
    let columns = same-column t.width pc pc' moved moved' lt lt' place.1 in
    (columns.0, columns.1, same-row (direction_if t.backwards) t.length p q le le' place.0)

-- the bit of the next state is added
pub push_right : (out : Out) (t t' : Table) (pc : ℕ) (moved : Bool) (position : ℕ) (bit : Bool) → IsRight out t → IsNext t pc moved position →
    Tells out pc moved position bit → (evaluated t') ≡ (evaluated t) ++ bit ∷ [] → SameShape t t' → IsRight out t'
unfolding cell
push_right out t t' pc moved position bit right next tells bits same = record {
  tells = λ pc' moved' q lt le within. by pc' moved' q (omega (arith, lt, same.width)) (omega (arith, le, same.length))
      (omega (arith, within, same-index t t' pc' moved' q same, ap length bits, length-append (evaluated t) (bit ∷ [])));
}
  where
    by : (pc' : ℕ) (moved' : Bool) (q : ℕ) → pc' < t.width → q ≤ t.length → index t pc' moved' q < length (evaluated t) + 1 →
        Tells out pc' moved' q (get_or (evaluated t') (index t' pc' moved' q) false)
    by pc' moved' q lt le within =
        let reads : get_or (evaluated t') (index t' pc' moved' q) false ≡ get_or ((evaluated t) ++ bit ∷ []) (index t pc' moved' q) false =
        ap₂ (λ xs i. get_or xs i false) bits (same-index t t' pc' moved' q same) in
        elim (cases_eq (index t pc' moved' q) (length (evaluated t))) [
          | inl last ↦
              let is = same-state t pc' pc moved' moved q position lt next.pc_in le next.position_in (last ∙ sym next.at) in
              λ a e m p. tells a (e ∙ is.0) (m ∙ is.1) (p ∙ is.2) ∙ sym (reads ∙ get_or_push (evaluated t) bit false _ (sym last))
          | inr before ↦
              let lower : index t pc' moved' q < length (evaluated t) = omega (arith, within, before) in
              λ a e m p. right.tells pc' moved' q lt le lower a e m p ∙ sym (reads ∙ get_or-append (evaluated t) (bit ∷ []) false _ lower)
        ]

-- An instruction's bit is that of its outcomes.
pub evaluated_tells : (setting : Setting) (bytes : List ℕ) (program : List Routine) (outs : ℕ → Out) (i : ℕ) (r : Routine) (op : Op) (d : Direction)
    (pc : ℕ) (moved : Bool) (position : ℕ) (bit : Bool) → IsSolution setting bytes program outs → slice_get program i ≡ Some r → slice_get r.ops pc ≡ Some op →
    pc < length r.ops → r.direction ≡ d → position ≤ length bytes →
    TellsOf (outcomes_by setting bytes d (matcher_of setting bytes program outs) (outs i) op) moved position bit → Tells (outs i) pc moved position bit
evaluated_tells setting bytes program outs i r op d pc moved position bit solution is_r is_op lt is_d within tells a e m p =
    ap has_outcome
    (solution i r is_r a (omega arith) (omega (arith, e, lt)) (omega (arith, p, within))
    ∙ ap₂ (λ x o. outcomes_at setting bytes x (matcher_of setting bytes program outs) (outs i) o a) is_d (ap (slice_get r.ops) e ∙ is_op))
    ∙ tells a m p

module _ (input : Input) (r : Routine) (t t' : Table) (pc : ℕ) (moved : Bool) (position : ℕ) (can : CanFill input r t) (within : position ≤ t.length)
    (at : index t 0 moved position ≡ length (evaluated t)) (same : SameShape t t') (more : length (evaluated t') ≡ length (evaluated t) + pc)
    (lt : pc < length r.ops) where
  -- the next state to evaluate
  pub is_next : IsNext t' pc moved position
  is_next = record {
    pc_in = omega (arith, same.width, can.of.width, lt);
    position_in = omega (arith, same.length, within);
    at = same-index t t' pc moved position same ∙ index-more t pc moved position ∙ ap (λ n. n + pc) at ∙ sym more;
  }

  pub can_evaluate : (op : Op) → has_no_back_reference (code_routines input.code.now) ≡ true → slice_get r.ops pc ≡ Some op → CanEvaluate input t' op moved position
  can_evaluate op none is = record {
    pc = pc;
    next = is_next;
    fits = subst (λ w. Fits (take (length input.tables.now) (code_routines input.code.now)) w pc op) (sym (same.width ∙ can.of.width))
        ((input.code.now.program.is_program _ r can.is).fit pc op (omega arith) lt is);
    no_reference = no_reference-at (code_routines input.code.now) _ r pc op none can.is is;
    length = same.length ∙ can.of.text;
    backwards = same.backwards ∙ can.backwards;
  }

row-twice : (d : Direction) (n row : ℕ) → row ≤ n → row_of d n (row_of d n row) ≡ row
row-twice backwards n row le = refl
row-twice forwards n row le = omega (arith, le)

module _ (t : Table) (b : Bool) (n row position : ℕ) (is : position ≡ row_of (direction_if b) n row) (eb : t.backwards ≡ b) (en : t.length ≡ n) (le : row ≤ n) where
  -- the row of the position
  pub row-is : row_of (direction_if t.backwards) t.length position ≡ row
  row-is = ap₂ (λ x m. row_of (direction_if x) m position) eb en ∙ ap (row_of (direction_if b) n) is ∙ row-twice (direction_if b) n row le

-- ---- the tables of a program

-- an element before the last, or the last
pub slice_get-push : {A : Type 0} (xs : List A) (y x : A) (i : ℕ) → slice_get (xs ++ y ∷ []) i ≡ Some x →
    (slice_get xs i ≡ Some x) ⊎ ((i ≡ length xs) × (y ≡ x))
slice_get-push [] y x zero is = inr (refl, cc)
slice_get-push [] y x (suc i) is = inl is
slice_get-push (z ∷ zs) y x zero is = inl is
slice_get-push (z ∷ zs) y x (suc i) is =
    elim (slice_get-push zs y x i is) [ inl before ↦ inl before | inr last ↦ inr (omega (arith, last.0), last.1) ]

pub some-same : {A : Type 0} (o : Option A) (x y : A) → o ≡ Some x → o ≡ Some y → x ≡ y
some-same o x y ex ey = let e : Some x ≡ Some y = sym ex ∙ ey in cc

module _ (tables : List Table) (t : Table) where
  pub push_tables : (bytes : List ℕ) (program : List Routine) (r : Routine) → AreTables bytes program tables → slice_get program (length tables) ≡ Some r →
      IsTableOf bytes r t → IsFull t → AreTables bytes program (tables ++ t ∷ [])
  push_tables bytes program r are is of full = record {
    few = omega (arith, length-append tables (t ∷ []), slice_get_within program (length tables) r is);
    of = λ i r' t' is_r is_t.
        elim (slice_get-push tables t t' i is_t) [
          | inl before ↦ are.of i r' t' is_r before
          | inr last ↦
              let same : r ≡ r' = some-same (slice_get program i) r r' (ap (slice_get program) last.0 ∙ is) is_r in
              subst (λ x. IsTableOf bytes r' x) last.1 (subst (λ x. IsTableOf bytes x t) same of)
        ];
    full = λ i t' is_t.
        elim (slice_get-push tables t t' i is_t) [ inl before ↦ are.full i t' before | inr last ↦ subst IsFull last.1 full ];
  }

  pub push_are_right : (outs : ℕ → Out) → AreRight outs tables → IsRight (outs (length tables)) t → AreRight outs (tables ++ t ∷ [])
  push_are_right outs right last_right i t' is =
      elim (slice_get-push tables t t' i is) [
        | inl before ↦ right i t' before
        | inr last ↦ subst (λ x. IsRight (outs i) x) last.1 (subst (λ k. IsRight (outs k) t) (sym last.0) last_right)
      ]

-- the bits of one more table
pub more_bits : (n w a a' l s s' : ℕ) → a' ≡ a + w → l ≡ (n + 1) * (2 * w) → s ≡ min ((n + 1) * (2 * a)) 18446744073709551615 →
    s' ≡ min (s + l) 18446744073709551615 → s' ≡ min ((n + 1) * (2 * a')) 18446744073709551615
more_bits n w a a' l s s' ea el so_far next =
    let both : s' ≡ min ((n + 1) * (2 * (a + w))) 18446744073709551615 = omega (arith, el, so_far, next) in
    subst (λ x. s' ≡ min ((n + 1) * (2 * x)) 18446744073709551615) (sym ea) both
