-- Rows of a table.
use Rattle.std.proofs.Common.{zero, suc, ◌≡◌, ℕ, ◌+◌, ◌-◌, ◌*◌, ◌≤◌, ◌<◌, Bool, true, false, List, [], ◌∷◌, ◌++◌, All, Result, Ok, Err, IfOk, IfErr, length, take, drop, flat_map, get_or, inl, inr, sym, ap, ap₂, ◌∙◌, subst, refl, arith, length-append}
use Rattle.std.proofs.Math.ListN.{get_or-append}
use Rattle.std.proofs.Math.Nat.{mul-le-mul_right}
use Rattle.std.proofs.Math.Seq.{drop-length}
use Rattle.std.proofs.lemmas.Bool.{cases_lt}
use Rattle.std.proofs.lemmas.List.{append-nil, append_assoc, drop-append-le, get_or-append-add, get_or-drop, get_or-take, get_or_past, get_or_push, length-drop, length-take-le, same_lists, take-append-drop, take-append-le, take_all}
use Rattle.std.proofs.lemmas.Grind.{flat_map-append}
use Rattle.regress_tree.specs.Reading.{Direction, forwards, backwards, direction_if}
use Rattle.regress_program.specs.Below.{column, place, row_of}
use Rattle.regress_program.proofs.lemmas.Places.{column-less}
use Rattle.regress_tables.specs.Bits.{bits_of}
use Rattle.regress_tables.specs.Numbers.{numbers_of}
use Rattle.regress_tables.specs.Rows.{row_bit}
use Rattle.regress_tables.specs.declared.table.Table.{Table}
use Rattle.regress_tables.specs.Table.{Grows, SameShape, cell, evaluated, index, number_of, row_bits}
use Rattle.regress_tables.proofs.BitLemmas.{bits-len}
use Rattle.regress_tables.proofs.FillLemmas.{same-index}

pub row-most : (d : Direction) (n x : ℕ) → x ≤ n → row_of d n x ≤ n
row-most forwards n x le = omega arith
row-most backwards n x le = le

-- the row with a number is stored
pub row-stored : (t : Table) (number : ℕ) → number < t.distinct → (number + 1) * (2 * t.width) ≤ length (bits_of t.bits)
row-stored t number lt =
    let more : number + 1 ≤ t.distinct = omega (arith, lt) in
    omega (arith, mul-le-mul_right (2 * t.width) more, t.filled, bits-len t.bits)

pub length-row : (t : Table) (number : ℕ) → (number + 1) * (2 * t.width) ≤ length (bits_of t.bits) → length (row_bits t number) ≡ 2 * t.width
length-row t number stored =
    length-take-le (2 * t.width) (drop (number * (2 * t.width)) (bits_of t.bits)) (omega (arith, stored, length-drop (number * (2 * t.width)) (bits_of t.bits)))

-- ---- rows of the same length, one after the other

module _ (f : ℕ → List Bool) (w : ℕ) where
  flat-length : (xs : List ℕ) → ((k d : ℕ) → k < length xs → length (f (get_or xs k d)) ≡ w) → length (flat_map f xs) ≡ length xs * w
  flat-length [] each = omega arith
  flat-length (x ∷ xs) each =
      length-append (f x) (flat_map f xs)
      ∙ omega (arith, each 0 0 (omega arith), flat-length xs (λ k d lt. each (suc k) d (omega (arith, lt))))

  flat-read : (xs : List ℕ) (i j : ℕ) (rest : List Bool) → ((k d : ℕ) → k < length xs → length (f (get_or xs k d)) ≡ w) → i < length xs → j < w →
      (d : ℕ) → get_or (flat_map f xs ++ rest) (i * w + j) false ≡ get_or (f (get_or xs i d)) j false
  flat-read [] i j rest each lt small d = absurd (omega (arith, lt))
  flat-read (x ∷ xs) zero j rest each lt small d =
      ap (λ k. get_or ((f x ++ flat_map f xs) ++ rest) k false) (let h : 0 * w + j ≡ j = omega arith in h)
      ∙ ap (λ ys. get_or ys j false) (append_assoc (f x) (flat_map f xs) rest)
      ∙ get_or-append (f x) (flat_map f xs ++ rest) false j (omega (arith, small, each 0 d (omega arith)))
  flat-read (x ∷ xs) (suc i) j rest each lt small d =
      ap₂ (λ ys k. get_or ys k false) (append_assoc (f x) (flat_map f xs) rest)
      (let long : suc i * w + j ≡ length (f x) + (i * w + j) = omega (arith, each 0 d (omega arith)) in long)
      ∙ get_or-append-add (f x) (flat_map f xs ++ rest) (i * w + j) false
      ∙ flat-read xs i j rest (λ k e less. each (suc k) e (omega (arith, less))) (omega (arith, lt)) small d

flat-same : (f g : ℕ → List Bool) (xs : List ℕ) → ((k d : ℕ) → k < length xs → f (get_or xs k d) ≡ g (get_or xs k d)) → flat_map f xs ≡ flat_map g xs
flat-same f g [] same = refl
flat-same f g (x ∷ xs) same = ap₂ ◌++◌ (same 0 0 (omega arith)) (flat-same f g xs (λ k d lt. same (suc k) d (omega (arith, lt))))

-- ---- the states that were evaluated

module _ (t : Table) where
  row-long : (k d : ℕ) → k < length (numbers_of t.rows) → length (row_bits t (get_or (numbers_of t.rows) k d)) ≡ 2 * t.width
  row-long k d lt = length-row t (get_or (numbers_of t.rows) k d) (row-stored t (get_or (numbers_of t.rows) k d) (t.numbers k d lt))

  pub length-evaluated : length (evaluated t) + t.distinct * (2 * t.width) ≡ length (numbers_of t.rows) * (2 * t.width) + length (bits_of t.bits)
  unfolding evaluated
  length-evaluated =
      let flat = flat_map (row_bits t) (numbers_of t.rows) in
      let tail = drop (t.distinct * (2 * t.width)) (bits_of t.bits) in
      omega (
        arith,
        length-append flat tail,
        flat-length (row_bits t) (2 * t.width) (numbers_of t.rows) row-long,
        length-drop (t.distinct * (2 * t.width)) (bits_of t.bits),
        t.filled,
        bits-len t.bits,
      )

  evaluated-read : (row k : ℕ) → k < 2 * t.width →
      get_or (evaluated t) (row * (2 * t.width) + k) false ≡ get_or (bits_of t.bits) (number_of t row * (2 * t.width) + k) false
  unfolding evaluated
  evaluated-read row k lt =
      let w = 2 * t.width in
      let bits = bits_of t.bits in
      let flat = flat_map (row_bits t) (numbers_of t.rows) in
      let tail = drop (t.distinct * w) bits in
      elim (cases_lt row (length (numbers_of t.rows))) [
        | inl numbered ↦
            flat-read (row_bits t) w (numbers_of t.rows) row k tail row-long numbered lt (t.distinct + (row - length (numbers_of t.rows)))
            ∙ get_or-take w (drop (number_of t row * w) bits) k false lt
            ∙ get_or-drop (number_of t row * w) bits k false
        | inr past ↦
            let m = row - length (numbers_of t.rows) in
            let row_is : row ≡ length (numbers_of t.rows) + m = omega (arith, past) in
            let at : row * w + k ≡ length flat + (m * w + k) =
            ap (λ r. r * w + k) row_is ∙ omega (arith, flat-length (row_bits t) w (numbers_of t.rows) row-long) in
            let number : number_of t row ≡ t.distinct + m = get_or_past (numbers_of t.rows) row (t.distinct + m) (omega (arith, past)) in
            let to : t.distinct * w + (m * w + k) ≡ number_of t row * w + k = omega arith ∙ ap (λ n. n * w + k) (sym number) in
            ap (λ i. get_or (flat ++ tail) i false) at ∙ get_or-append-add flat tail (m * w + k) false
            ∙ get_or-drop (t.distinct * w) bits (m * w + k) false ∙ ap (λ i. get_or bits i false) to
      ]

  -- The cells of a position are the bits of the row with its number.
  pub cell-number : (pc : ℕ) (moved : Bool) (x : ℕ) → pc < t.width →
      cell t pc moved x ≡ row_bit t (number_of t (row_of (direction_if t.backwards) t.length x)) pc moved
  unfolding cell place
  cell-number pc moved x lt = evaluated-read (row_of (direction_if t.backwards) t.length x) (column t.width moved pc) (column-less t.width pc moved lt)

-- ---- more bits and rows

module _ (t t' : Table) (width : t'.width ≡ t.width) where
  -- a stored row keeps its bits
  pub row-kept : (extra : List Bool) (number : ℕ) → bits_of t'.bits ≡ bits_of t.bits ++ extra → (number + 1) * (2 * t.width) ≤ length (bits_of t.bits) →
      row_bits t' number ≡ row_bits t number
  row-kept extra number bits stored =
      let w = 2 * t.width in
      ap₂ (λ v ys. take (2 * v) (drop (number * (2 * v)) ys)) width bits
      ∙ ap (take w) (drop-append-le (number * w) (bits_of t.bits) extra (omega (arith, stored)))
      ∙ take-append-le w (drop (number * w) (bits_of t.bits)) extra (omega (arith, stored, length-drop (number * w) (bits_of t.bits)))

  -- one more row with a number
  pub evaluated-next : (number : ℕ) → numbers_of t'.rows ≡ numbers_of t.rows ++ number ∷ [] → ((n : ℕ) → n < t.distinct → row_bits t' n ≡ row_bits t n) →
      drop (t'.distinct * (2 * t'.width)) (bits_of t'.bits) ≡ [] → evaluated t' ≡ flat_map (row_bits t) (numbers_of t.rows) ++ row_bits t' number
  unfolding evaluated
  evaluated-next number rows kept none =
      ap₂ (λ xs ys. flat_map (row_bits t') xs ++ ys) rows none
      ∙ append-nil (flat_map (row_bits t') ((numbers_of t.rows) ++ number ∷ []))
      ∙ flat_map-append (row_bits t') (numbers_of t.rows) (number ∷ [])
      ∙ ap₂ ◌++◌ (flat-same (row_bits t') (row_bits t) (numbers_of t.rows) (λ k d lt. kept (get_or (numbers_of t.rows) k d) (t.numbers k d lt))) (append-nil (row_bits t' number))

-- bits of the rows that have no number yet
pub evaluated-grows : (t t' : Table) (extra : List Bool) → Grows t t' extra → evaluated t' ≡ evaluated t ++ extra
unfolding evaluated
evaluated-grows t t' extra grows =
    let w = 2 * t.width in
    let flat = flat_map (row_bits t) (numbers_of t.rows) in
    let rows : flat_map (row_bits t') (numbers_of t'.rows) ≡ flat =
    ap (flat_map (row_bits t')) grows.rows
    ∙ flat-same (row_bits t') (row_bits t) (numbers_of t.rows)
    (λ k d lt. row-kept t t' grows.shape.width extra (get_or (numbers_of t.rows) k d) grows.bits (row-stored t (get_or (numbers_of t.rows) k d) (t.numbers k d lt))) in
    let tail : drop (t'.distinct * (2 * t'.width)) (bits_of t'.bits) ≡ drop (t.distinct * w) (bits_of t.bits) ++ extra =
    ap₂ (λ n v. drop (n * (2 * v)) (bits_of t'.bits)) grows.distinct grows.shape.width
    ∙ ap (drop (t.distinct * w)) grows.bits
    ∙ drop-append-le (t.distinct * w) (bits_of t.bits) extra (omega (arith, t.filled, bits-len t.bits)) in
    ap₂ ◌++◌ rows tail ∙ sym (append_assoc flat (drop (t.distinct * w) (bits_of t.bits)) extra)

-- every bit is that of a state
pub bits-few : (t : Table) → length (bits_of t.bits) ≤ length (evaluated t)
bits-few t =
    let few : t.distinct ≤ length (numbers_of t.rows) = t.few in
    omega (arith, length-evaluated t, mul-le-mul_right (2 * t.width) few)

pub evaluated-none : (t : Table) → numbers_of t.rows ≡ [] → bits_of t.bits ≡ [] → evaluated t ≡ []
unfolding evaluated
evaluated-none t rows bits =
    ap₂ (λ xs ys. flat_map (row_bits t) xs ++ drop (t.distinct * (2 * t.width)) ys) rows bits ∙ drop-none (t.distinct * (2 * t.width))
  where
    no_bits : List Bool
    no_bits = []

    drop-none : (n : ℕ) → drop n no_bits ≡ []
    drop-none zero = refl
    drop-none (suc n) = refl

-- a bit more, or none
pub not-fewer : {X E : Type 0} (r : Result X E) (xs ys : List Bool) (bit : Bool) → IfOk r (λ _. ys ≡ xs ++ bit ∷ []) → IfErr r (λ _. ys ≡ xs) → length xs ≤ length ys
not-fewer (Ok x) xs ys bit more same = omega (arith, ap length more, length-append xs (bit ∷ []))
not-fewer (Err e) xs ys bit more same = omega (arith, ap length same)

pub Grows-none : (t : Table) → Grows t t []
Grows-none t = record { shape = record { width = refl; length = refl; backwards = refl }; rows = refl; distinct = refl; bits = sym (append-nil (bits_of t.bits)) }

pub Grows-trans : (t u v : Table) (more later : List Bool) → Grows t u more → Grows u v later → Grows t v (more ++ later)
Grows-trans t u v more later a b = record {
  shape = record { width = b.shape.width ∙ a.shape.width; length = b.shape.length ∙ a.shape.length; backwards = b.shape.backwards ∙ a.shape.backwards };
  rows = b.rows ∙ a.rows;
  distinct = b.distinct ∙ a.distinct;
  bits = b.bits ∙ ap (λ xs. xs ++ later) a.bits ∙ append_assoc (bits_of t.bits) more later;
}

-- ---- the next row

-- the row of the next state is the first that is not filled
pub next-row : (t : Table) (x : ℕ) → index t 0 false x ≡ length (evaluated t) → length (evaluated t) ≡ row_of (direction_if t.backwards) t.length x * (2 * t.width)
unfolding place
next-row t x at = sym at ∙ omega arith

pub first-row : (t : Table) (x row : ℕ) → row_of (direction_if t.backwards) t.length x ≡ row → length (evaluated t) ≡ row * (2 * t.width) →
    index t 0 false x ≡ length (evaluated t)
unfolding place
first-row t x row at filled = ap (λ k. k * (2 * t.width) + 0) at ∙ omega (arith, filled)

pub second-half : (t t' : Table) (x : ℕ) → index t 0 false x ≡ length (evaluated t) → SameShape t t' →
    length (evaluated t') ≡ length (evaluated t) + t.width → index t' 0 true x ≡ length (evaluated t')
unfolding place
second-half t t' x at same more = same-index t t' 0 true x same ∙ omega (arith, at, more)

-- The table has no other bits than those of rows with a number.
pub all-numbered : (t : Table) (x : ℕ) → index t 0 false x ≡ length (evaluated t) →
    length (numbers_of t.rows) ≡ row_of (direction_if t.backwards) t.length x → length (bits_of t.bits) ≡ t.distinct * (2 * t.width)
all-numbered t x at numbered =
    omega (arith, length-evaluated t, next-row t x at, ap (λ n. n * (2 * t.width)) numbered)

-- ---- numbers

-- one more number
pub numbers-more : (rows : List ℕ) (number n n' : ℕ) → All (λ k. k < n) rows → n ≤ n' → number < n' → All (λ k. k < n') (rows ++ number ∷ [])
numbers-more rows number n n' each le less = λ k d lt.
    elim (cases_lt k (length rows)) [
      | inl before ↦ subst (λ m. m < n') (sym (get_or-append rows (number ∷ []) d k before)) (omega (arith, each k d before, le))
      | inr past ↦ subst (λ m. m < n') (sym (get_or_push rows number d k (omega (arith, past, lt, length-append rows (number ∷ []))))) less
    ]

-- one more number, or none
pub numbers-pushed : {X E : Type 0} (r : Result X E) (rows rows' : List ℕ) (number n : ℕ) → IfOk r (λ _. rows' ≡ rows ++ number ∷ []) → IfErr r (λ _. rows' ≡ rows) →
    All (λ k. k < n) rows → number < n → All (λ k. k < n) rows' × (length rows ≤ length rows') × (length rows' ≤ length rows + 1)
numbers-pushed (Ok x) rows rows' number n more same each less =
    let long : length rows' ≡ length rows + 1 = ap length more ∙ length-append rows (number ∷ []) in
    (subst (All (λ k. k < n)) (sym more) (numbers-more rows number n n each (omega arith) less), omega arith, omega arith)
numbers-pushed (Err e) rows rows' number n more same each less =
    let long : length rows' ≡ length rows = ap length same in
    (subst (All (λ k. k < n)) (sym same) each, omega arith, omega arith)

-- the number of a row is repeated
pub evaluated-repeat : (t t' : Table) (number : ℕ) → SameShape t t' → numbers_of t'.rows ≡ numbers_of t.rows ++ number ∷ [] → bits_of t'.bits ≡ bits_of t.bits →
    t'.distinct ≡ t.distinct → number < t.distinct → length (bits_of t.bits) ≡ t.distinct * (2 * t.width) → evaluated t' ≡ evaluated t ++ row_bits t number
unfolding evaluated
evaluated-repeat t t' number same rows bits distinct less whole =
    let flat = flat_map (row_bits t) (numbers_of t.rows) in
    let kept : (n : ℕ) → row_bits t' n ≡ row_bits t n = λ n. ap₂ (λ v ys. take (2 * v) (drop (n * (2 * v)) ys)) same.width bits in
    let none : drop (t.distinct * (2 * t.width)) (bits_of t.bits) ≡ [] = ap (λ k. drop k (bits_of t.bits)) (sym whole) ∙ drop-length (bits_of t.bits) in
    let none' : drop (t'.distinct * (2 * t'.width)) (bits_of t'.bits) ≡ [] =
    ap₂ (λ n v. drop (n * (2 * v)) (bits_of t'.bits)) distinct same.width ∙ ap (drop (t.distinct * (2 * t.width))) bits ∙ none in
    evaluated-next t t' same.width number rows (λ n lt. kept n) none' ∙ ap (λ ys. flat ++ ys) (kept number)
    ∙ sym (ap (λ ys. (flat ++ ys) ++ row_bits t number) none ∙ ap (λ xs. xs ++ row_bits t number) (append-nil flat))

-- the last row gets the number of an equal one, or the next number
pub evaluated-share : (t t' : Table) (number : ℕ) → SameShape t t' → numbers_of t'.rows ≡ numbers_of t.rows ++ number ∷ [] →
    bits_of t'.bits ≡ take (t'.distinct * (2 * t.width)) (bits_of t.bits) → t.distinct ≤ t'.distinct → t'.distinct ≤ t.distinct + 1 → number < t'.distinct →
    length (bits_of t.bits) ≡ (t.distinct + 1) * (2 * t.width) → row_bits t number ≡ row_bits t t.distinct → evaluated t' ≡ evaluated t
unfolding evaluated
evaluated-share t t' number same rows bits most least less one equal =
    let w = 2 * t.width in
    let xs = bits_of t.bits in
    let flat = flat_map (row_bits t) (numbers_of t.rows) in
    let m = t'.distinct * w in
    let within : m ≤ length xs = omega (arith, one, mul-le-mul_right w least) in
    let split : xs ≡ bits_of t'.bits ++ drop m xs = sym (ap (λ ys. ys ++ drop m xs) bits ∙ take-append-drop m xs) in
    let kept : (n : ℕ) → n < t'.distinct → row_bits t' n ≡ row_bits t n =
    λ n lt. sym (row-kept t' t (sym same.width) (drop m xs) n split (row-stored t' n lt)) in
    let count : t'.distinct * (2 * t'.width) ≡ length (bits_of t'.bits) =
    ap (λ v. t'.distinct * (2 * v)) same.width ∙ sym (ap length bits ∙ length-take-le m xs within) in
    let none : drop (t'.distinct * (2 * t'.width)) (bits_of t'.bits) ≡ [] = ap (λ k. drop k (bits_of t'.bits)) count ∙ drop-length (bits_of t'.bits) in
    let last : row_bits t t.distinct ≡ drop (t.distinct * w) xs =
    take_all w (drop (t.distinct * w) xs) (omega (arith, one, length-drop (t.distinct * w) xs)) in
    evaluated-next t t' same.width number rows (λ n lt. kept n (omega (arith, lt, most))) none ∙ ap (λ ys. flat ++ ys) (kept number less ∙ equal ∙ last)

-- the last row
pub one-row : (t t' : Table) (extra : List Bool) → Grows t t' extra → length (bits_of t.bits) ≡ t.distinct * (2 * t.width) →
    length (evaluated t') ≡ length (evaluated t) + 2 * t.width → length (bits_of t'.bits) ≡ (t'.distinct + 1) * (2 * t'.width)
one-row t t' extra grows whole more =
    let long : length extra ≡ 2 * t.width =
    omega (arith, more, ap length (evaluated-grows t t' extra grows), length-append (evaluated t) extra) in
    let sum : length (bits_of t'.bits) ≡ (t.distinct + 1) * (2 * t.width) = omega (arith, ap length grows.bits, length-append (bits_of t.bits) extra, whole, long) in
    sum ∙ sym (ap₂ (λ n v. (n + 1) * (2 * v)) grows.distinct grows.shape.width)

-- rows with the same bits
pub equal-rows : (t : Table) (a b : ℕ) → (a + 1) * (2 * t.width) ≤ length (bits_of t.bits) → (b + 1) * (2 * t.width) ≤ length (bits_of t.bits) →
    ((k : ℕ) → k < 2 * t.width → get_or (bits_of t.bits) (a * (2 * t.width) + k) false ≡ get_or (bits_of t.bits) (b * (2 * t.width) + k) false) →
    row_bits t a ≡ row_bits t b
equal-rows t a b in_a in_b same =
    same_lists (row_bits t a) (row_bits t b) (length-row t a in_a ∙ sym (length-row t b in_b))
    (λ k d lt. let lt' : k < 2 * t.width = omega (arith, lt, length-row t a in_a) in
    read a k d lt' in_a ∙ same k lt' ∙ sym (read b k d lt' in_b))
  where
    get_or-any : (xs : List Bool) (k : ℕ) (d e : Bool) → k < length xs → get_or xs k d ≡ get_or xs k e
    get_or-any [] k d e lt = absurd (omega (arith, lt))
    get_or-any (x ∷ xs) zero d e lt = refl
    get_or-any (x ∷ xs) (suc k) d e lt = get_or-any xs k d e (omega (arith, lt))

    read : (n k : ℕ) (d : Bool) → k < 2 * t.width → (n + 1) * (2 * t.width) ≤ length (bits_of t.bits) →
        get_or (row_bits t n) k d ≡ get_or (bits_of t.bits) (n * (2 * t.width) + k) false
    read n k d lt stored =
        get_or-take (2 * t.width) (drop (n * (2 * t.width)) (bits_of t.bits)) k d lt
        ∙ get_or-drop (n * (2 * t.width)) (bits_of t.bits) k d
        ∙ get_or-any (bits_of t.bits) (n * (2 * t.width) + k) d false (omega (arith, lt, stored))
