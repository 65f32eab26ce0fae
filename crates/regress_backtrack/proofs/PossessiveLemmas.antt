-- Possessive loops: what follows begins with none of their characters.
use Rattle.std.proofs.Common.{◌≡◌, ℕ, zero, suc, ◌+◌, ◌≤◌, ◌<◌, Bool, true, List, [], ◌∷◌, ◌++◌, length, get_or, slice_get, slice_index, flat_map, refl, sym, ap, ◌∙◌, subst, append-nil, arith}
use Rattle.regress_base.specs.ByteBitmap.{contains}
use Rattle.regress_base.specs.declared.bytesearch.bitmap.ByteBitmap.{ByteBitmap}
use Rattle.regress_leaves.specs.Starts.{AreIn}
use Rattle.regress_program.specs.Program.{Out}
use Rattle.regress_tree.specs.Reading.{direction_if}
use Rattle.regress_tree.specs.Steps.{MatchState}
use Rattle.regress_code.specs.declared.next_bytes.NextBytes.TheVariants as kinds
use Rattle.regress_code.specs.NextBytes.{next_to}
use Rattle.regress_code.specs.Possessive.{IsLoopOver, IsPossessive}
use Rattle.regress_backtrack.specs.declared.alternatives.Looping.{Looping}
use Rattle.regress_backtrack.specs.declared.input.Input.{Input}
use Rattle.regress_backtrack.specs.declared.machine.Machine.{Machine}
use Rattle.regress_backtrack.specs.declared.machine.Place.{Place}
use Rattle.regress_backtrack.specs.Machine.{Groups, at, groups_of, points, range_points}
use Rattle.regress_backtrack.specs.Next.{Fails, IsInput, Solve, instructions_in}
use Rattle.regress_backtrack.specs.Sweep.{IsSwept}
use Rattle.regress_backtrack.proofs.SkipLemmas.{excluded_set, outside}
use Rattle.regress_backtrack.proofs.SweepLemmas.{fewer_outcomes}

module _ (input : Input) (is : IsInput input) (looping : Looping) (set : ByteBitmap) (repeat_pc : ℕ) (swept : IsSwept input looping set repeat_pc)
    (possessive : IsPossessive input.next_bytes.now input.code.now.program.leaves.items (instructions_in input) repeat_pc) where
  -- what follows the loop fails before each of its characters, unless at the start of the text
  pub following_fails : (k : ℕ) → 0 < k → k < length input.text.now → slice_index input.text.now k < 128 → contains set (slice_index input.text.now k) ≡ true →
      (moved : Bool) → Fails input (record { pc = looping.next; moved = moved; position = k })
  following_fails k some within small member moved =
      let b = slice_index input.text.now k in
      let p : Place = record { pc = looping.next; moved = moved; position = k } in
      let loop : IsLoopOver input.code.now.program.leaves.items (instructions_in input) repeat_pc looping.next set =
      record {
        body = looping.body;
        is = swept.repeats;
        character = record { leaf = swept.leaf; test = swept.test; is = swept.body; is_test = swept.is_test; starts = swept.starts };
      } in
      let found = excluded_set (slice_get input.next_bytes.now looping.next) b (possessive.excludes looping.next set loop b small member) in
      let next_to_k : get_or input.text.now (next_to (direction_if input.rules.backwards) k) 0 ≡ b =
      ap (λ x. get_or input.text.now (next_to (direction_if x) k) 0) swept.forwards in
      λ outs g solve.
      is.next_bytes outs solve looping.next (kinds.Bytes found.0) found.1 (at p g) refl
      (outside input is p b (record { after = some; before = within; is = next_to_k; small = omega (arith, small) }) outs g solve found.0 found.2)

  -- and so after each of several iterations
  pub iterations_fail : (first : Place) (more : ℕ) → first.pc ≡ looping.next → AreIn set input.text.now first.position (suc more) →
      (k : ℕ) → 0 < k → k ≤ more → Fails input (record { pc = first.pc; moved = true; position = first.position + k })
  iterations_fail first more same are k some le =
      let here = are k (omega (arith, le)) in
      subst (λ pc. Fails input (record { pc = pc; moved = true; position = first.position + k })) (sym same)
      (following_fails (first.position + k) (omega (arith, some)) here.0 here.1.0 here.1.1 true)

  -- so that none of the points there has an outcome
  pub no_outcomes : (here : Place) (more : ℕ) → 0 < here.position → AreIn set input.text.now here.position (suc more) →
      (outs : ℕ → Out) (g : Groups) → Solve input outs → flat_map (outs input.index) (range_points (record here { pc = looping.next }) more g) ≡ []
  no_outcomes here more some are outs g solve =
      let out = outs input.index in
      let first : Place = record here { pc = looping.next } in
      let start : here.position + zero ≡ here.position = omega arith in
      let one = subst (λ k. (k < length input.text.now) × ((slice_index input.text.now k < 128) × (contains set (slice_index input.text.now k) ≡ true))) start
      (are zero (omega arith)) in
      let number : more ≡ zero + more = omega arith in
      ap (λ n. flat_map out (range_points first n g)) number
      ∙ fewer_outcomes out g first zero more (λ k lt le. iterations_fail first more refl are k lt (omega (arith, le)) outs g solve)
      ∙ append-nil (out (at first g))
      ∙ following_fails here.position some one.0 one.1.0 one.1.1 here.moved outs g solve

-- the machine after iterations after which what follows fails
pub kept_leads : (out : Out) (m : Machine) (first to : Place) (more : ℕ) (states : List MatchState) →
    states ≡ out (at to (groups_of m)) ++ flat_map out (range_points first more (groups_of m)) → flat_map out (range_points first more (groups_of m)) ≡ [] →
    states ++ flat_map out (points m) ≡ flat_map out (at to (groups_of m) ∷ points m)
kept_leads out m first to more states is none =
    ap (λ xs. xs ++ flat_map out (points m)) (is ∙ ap (λ xs. out (at to (groups_of m)) ++ xs) none ∙ append-nil (out (at to (groups_of m))))
