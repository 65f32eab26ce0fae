-- The order in which the states of a routine are evaluated.
use Rattle.std.proofs.Common.{◌≢◌, ℕ, ◌+◌, ◌*◌, ◌≤◌, ◌<◌, Bool, true, false, arith}
use Rattle.std.proofs.Math.Nat.{mul-le-mul_right}
use Rattle.regress_tree.specs.Reading.{Direction, forwards, backwards}
use Rattle.regress_program.specs.Below.{row_of, column, place}
use Rattle.regress_program.specs.Stays.{IsOnward}

pub column-less : (width pc : ℕ) (moved : Bool) → pc < width → column width moved pc < 2 * width
column-less width pc true lt = omega arith
column-less width pc false lt = omega arith

pub rows-less : (a b w x y : ℕ) → a < b → x < w → a * w + x < b * w + y
rows-less a b w x y lt small = omega (arith, mul-le-mul_right w (let h : a + 1 ≤ b = omega arith in h))

module _ (width length : ℕ) (d : Direction) where
  -- an earlier instruction, at the same position
  pub place-earlier : (pc pc' : ℕ) (moved : Bool) (position : ℕ) → pc' < pc → place width length d pc' moved position < place width length d pc moved position
  unfolding place
  place-earlier pc pc' true position lt = omega arith
  place-earlier pc pc' false position lt = omega arith

  -- the start of another iteration
  pub place-begins : (pc pc' : ℕ) (position : ℕ) → pc' < width → place width length d pc' false position < place width length d pc true position
  unfolding place
  place-begins pc pc' position lt = omega arith

  -- the start of the first iteration
  pub place-enters : (pc pc' : ℕ) (moved : Bool) (position : ℕ) → pc' < pc → place width length d pc' false position < place width length d pc moved position
  unfolding place
  place-enters pc pc' true position lt = omega arith
  place-enters pc pc' false position lt = omega arith

  -- an earlier row
  pub place-row : (pc pc' : ℕ) (moved moved' : Bool) (position position' : ℕ) → pc' < width → row_of d length position' < row_of d length position →
      place width length d pc' moved' position' < place width length d pc moved position
  unfolding place
  place-row pc pc' moved moved' position position' lt before =
      rows-less _ _ (2 * width) (column width moved' pc') (column width moved pc) before (column-less width pc' moved' lt)

  -- A position that was reached is in an earlier row, or the same one.
  pub row-onward : (p q : ℕ) → p ≤ length → q ≤ length → q ≢ p → IsOnward d p q → row_of d length q < row_of d length p
  row-onward p q in_p in_q other on = by d on
    where
      by : (e : Direction) → IsOnward e p q → row_of e length q < row_of e length p
      by forwards h = omega (arith, h, in_p, in_q, other)
      by backwards h = omega (arith, h, other)
