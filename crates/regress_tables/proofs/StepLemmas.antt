-- The steps of a search in filled tables.
use Rattle.std.proofs.Common.{◌≡◌, ℕ, ◌+◌, ◌-◌, ◌*◌, ◌≤◌, ◌<◌, Bool, true, false, List, length, Option, Some, None, IfSome, refl, ap, arith, inl, inr}
use Rattle.std.proofs.Math.Nat.{mul-le-mul_left}
use Rattle.std.proofs.lemmas.Bool.{cases_lt}
use Rattle.regress_tree.specs.Reading.{forwards, direction_if}
use Rattle.regress_found.specs.declared.found.Match.{Match}
use Rattle.regress_found.specs.Found.{state_of}
use Rattle.regress_program.specs.Below.{column, place}
use Rattle.regress_tables.specs.declared.table.Table.{Table}
use Rattle.regress_tables.specs.Search.{steps_up_to}
use Rattle.regress_tables.specs.Table.{index}
use Rattle.regress_program.proofs.lemmas.Places.{column-less, rows-less}

module _ (w n pc pc' : ℕ) (moved' : Bool) (start end : ℕ) (lt : pc < w) (in_start : start ≤ n) (in_end : end ≤ n) where
  -- A walk forwards does not end before its start.
  onward : place w n forwards pc' moved' end ≤ place w n forwards pc true start → start ≤ end
  unfolding place
  onward falls =
      elim (cases_lt end start) [
        | inr le ↦ le
        | inl before ↦
            let less = rows-less (n - start) (n - end) (2 * w) (column w true pc) (column w moved' pc') (omega (arith, before, in_start)) (column-less w pc true lt) in
            absurd (omega (arith, less, falls))
      ]

  sums : (W y d c c' s s' : ℕ) → c < W → s' + (y * W + c') ≤ s + ((y + d) * W + c) + 1 → s' ≤ s + W * (d + 1)
  sums W y d c c' s s' small more = omega (arith, small, more)

  sum : (s s' : ℕ) → start ≤ end → s' + place w n forwards pc' moved' end ≤ s + place w n forwards pc true start + 1 → s' ≤ s + 2 * w * (end + 1 - start)
  unfolding place
  sum s s' on more =
      let rows : n - start ≡ (n - end) + (end - start) = omega (arith, on, in_end) in
      let more' : s' + ((n - end) * (2 * w) + column w moved' pc') ≤ s + (((n - end) + (end - start)) * (2 * w) + column w true pc) + 1 =
      omega (arith, more, ap (λ k. k * (2 * w)) rows) in
      let all = sums (2 * w) (n - end) (end - start) (column w true pc) (column w moved' pc') s s' (column-less w pc true lt) more' in
      let spans : end + 1 - start ≡ (end - start) + 1 = omega (arith, on) in
      omega (arith, all, ap (λ k. 2 * w * k) spans)

module _ (t : Table) (is : t.backwards ≡ false) where
  forward_place : (pc : ℕ) (moved : Bool) (position : ℕ) → index t pc moved position ≡ place t.width t.length forwards pc moved position
  forward_place pc moved position = ap (λ b. place t.width t.length (direction_if b) pc moved position) is

  -- the steps of the walk
  pub walk_steps : (pc pc' : ℕ) (moved' : Bool) (start end s s' : ℕ) → pc < t.width → start ≤ t.length → end ≤ t.length →
      index t pc' moved' end ≤ index t pc true start → s' + index t pc' moved' end ≤ s + index t pc true start + 1 →
      (start ≤ end) × (s' ≤ s + 2 * t.width * (end + 1 - start))
  walk_steps pc pc' moved' start end s s' lt in_start in_end falls more =
      let first = forward_place pc true start in
      let last = forward_place pc' moved' end in
      let on = onward t.width t.length pc pc' moved' start end lt in_start in_end (omega (arith, falls, first, last)) in
      (on, sum t.width t.length pc pc' moved' start end lt in_start in_end s s' on (omega (arith, more, first, last)))

-- what is counted for each of d positions, of at most m
within_all : (i p more m d fill find : ℕ) → fill ≤ 2 * i * m → find ≤ p * d + more * m → d ≤ m → find + fill ≤ (2 * i + p + more) * m
within_all i p more m d fill find filled searched few =
    let most : p * d ≤ p * m = mul-le-mul_left p few in
    let all : (2 * i + p + more) * m ≡ 2 * i * m + p * m + more * m = grind arith in
    omega (arith, most, filled, searched, all)

-- a position counts at least one step
pub at_least_one : (b i d : ℕ) → d ≤ (1 + b) * (2 * i + 1) * d
at_least_one b i d = let e : (1 + b) * (2 * i + 1) * d ≡ (2 * i + b * (2 * i + 1)) * d + d = grind arith in omega (arith, e)

-- the steps of filling the tables and of one search, where an instruction of the walk counts b steps more, and where it
-- takes `more` for each character to find what lookarounds capture
pub fill_and_find : (instructions b more : ℕ) (text : List ℕ) (origin : ℕ) (found : Option Match) (fill find : ℕ) →
    fill ≤ 2 * instructions * (length text + 1) → find ≤ steps_up_to instructions (1 + b) text origin found + more * (length text + 1) →
    IfSome found (λ m. (state_of m).position ≤ length text) → find + fill ≤ (2 * instructions + (1 + b) * (2 * instructions + 1) + more) * (length text + 1)
fill_and_find instructions b more text origin None fill find filled searched inside =
    let d = length text + 1 - origin in
    let least = at_least_one b instructions d in
    within_all instructions ((1 + b) * (2 * instructions + 1)) more (length text + 1) d fill find filled (omega (arith, searched, least)) (omega arith)
fill_and_find instructions b more text origin (Some m) fill find filled searched inside =
    within_all instructions ((1 + b) * (2 * instructions + 1)) more (length text + 1) ((state_of m).position + 1 - origin) fill find filled searched
    (let h : (state_of m).position + 1 - origin ≤ length text + 1 = omega (arith, inside) in h)

pub not_backwards : (b : Bool) → direction_if b ≡ forwards → b ≡ false
not_backwards true is = cc
not_backwards false is = refl
