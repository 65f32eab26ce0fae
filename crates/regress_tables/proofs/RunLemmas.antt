-- Characters in a row that a leaf matches.
use Rattle.std.proofs.Common.{zero, suc, ◌≡◌, ℕ, ◌+◌, ◌-◌, ◌≤◌, ◌∙◌, Bool, true, false, refl, sym, ap, arith}
use Rattle.regress_leaves.specs.Subject.{Subject}
use Rattle.regress_leaves.proofs.lemmas.Leaves.{iterations_some}
use Rattle.regress_program.specs.Cost.{bytes_ahead}
use Rattle.regress_tree.specs.Matching.{steps}
use Rattle.regress_tree.specs.Reading.{Direction, forwards, backwards, direction_if}
use Rattle.regress_tree.specs.Repetition.{iterations}
use Rattle.regress_tree.specs.Steps.{MatchState, Matcher}
use Rattle.regress_tree.specs.Tree.{Tree}
use Rattle.regress_tables.specs.Runs.{Repeats, bytes_on}

-- A number of bytes that are ahead of a position are before the end of the text.
pub ahead-forwards : (b : Bool) (n position count : ℕ) → count ≤ bytes_ahead (direction_if b) n position → position ≤ n → b ≡ false → position + count ≤ n
ahead-forwards true n position count ahead within is = absurd (grind (arith, is))
ahead-forwards false n position count ahead within is = omega (arith, ahead, within)

-- Backwards they are after its start.
pub ahead-backwards : (b : Bool) (n position count : ℕ) → count ≤ bytes_ahead (direction_if b) n position → b ≡ true → count ≤ position
ahead-backwards true n position count ahead is = ahead
ahead-backwards false n position count ahead is = absurd (grind (arith, is))

-- no bytes on
pub bytes_on-zero : (d : Direction) (position : ℕ) → bytes_on d position 0 ≡ position
bytes_on-zero forwards position = omega arith
bytes_on-zero backwards position = omega arith

-- one byte and more
pub bytes_on-suc : (d : Direction) (position n : ℕ) → bytes_on d (bytes_on d position 1) n ≡ bytes_on d position (suc n)
bytes_on-suc forwards position n = omega arith
bytes_on-suc backwards position n = omega arith

module _ (u : Subject) (t : Tree) where
  abbrev f : Matcher
  f = steps u.setting u.bytes u.direction t

  -- The iterations that remain after a part of a run.
  pub run-iterations : (run known count : ℕ) (position : ℕ) (s : MatchState) → s.position ≡ position → Repeats u t position run → known ≤ run → known ≤ count →
      iterations (count - known) f (record s { position = bytes_on u.direction position known }) ≡ iterations count f s
  run-iterations run zero count position s at runs le within =
      let e : bytes_on u.direction position 0 ≡ s.position = bytes_on-zero u.direction position ∙ sym at in
      let n : count - 0 ≡ count = omega arith in
      ap (λ k. iterations (count - 0) f (record s { position = k })) e ∙ ap (λ k. iterations k f s) n
  run-iterations zero (suc known) count position s at runs le within = absurd (omega (arith, le))
  run-iterations (suc run) (suc known) zero position s at runs le within = absurd (omega (arith, within))
  run-iterations (suc run) (suc known) (suc count) position s at runs le within =
      let to = bytes_on u.direction position 1 in
      let rest = run-iterations run known count to (record s { position = to }) refl runs.1 (omega (arith, le)) (omega (arith, within)) in
      let all : suc count - 0 ≡ suc count = omega arith in
      let first = iterations_some f (suc count) 0 s.position s (ap (λ k. iterations k f s) all) (omega arith) to (runs.0 s at) in
      let number : suc count - suc known ≡ count - known = omega arith in
      let number' : suc count - (0 + 1) ≡ count = omega arith in
      ap (λ k. iterations k f (record s { position = bytes_on u.direction position (suc known) })) number
      ∙ ap (λ k. iterations (count - known) f (record s { position = k })) (sym (bytes_on-suc u.direction position known))
      ∙ rest ∙ ap (λ k. iterations k f (record s { position = to })) (sym number') ∙ first
