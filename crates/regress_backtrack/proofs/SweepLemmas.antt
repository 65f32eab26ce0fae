-- Loops over one character, whose iterations are run at once.
use Rattle.std.proofs.Common.{◌≡◌, ◌⊎◌, inl, inr, ℕ, zero, suc, ◌+◌, ◌-◌, ◌<◌, ◌≤◌, ◌==◌, ◌||◌, not, Bool, true, false, List, [], ◌∷◌, ◌++◌, length, slice_index, All, flat_map, refl, sym, ap, ap₂, ◌∙◌, subst, append-nil, append_assoc, arith}
use Rattle.std.proofs.Math.Nat.{eq-or-lt_of_le}
use Rattle.std.proofs.lemmas.Grind.{flat_map-append}
use Rattle.std.proofs.lemmas.List.Elements.{All-nil, All-cons, All-append}
use Rattle.regress_base.specs.ByteBitmap.{contains}
use Rattle.regress_base.specs.declared.bytesearch.bitmap.ByteBitmap.{ByteBitmap}
use Rattle.regress_tree.specs.Matching.{steps}
use Rattle.regress_tree.specs.Reading.{direction_if, forwards}
use Rattle.regress_tree.specs.Steps.{MatchState}
use Rattle.regress_tree.specs.Tree.{tree}
use Rattle.regress_leaves.specs.Subject.{subject}
use Rattle.regress_leaves.proofs.ReadingLemmas.{ascii_after}
use Rattle.regress_found.specs.Found.{state}
use Rattle.regress_program.specs.Program.{Out, matcher_of, outcomes_by, reach}
use Rattle.regress_backtrack.specs.declared.alternatives.Looping.{Looping}
use Rattle.regress_backtrack.specs.declared.input.Input.{Input}
use Rattle.regress_program.specs.declared.instruction.Instruction.TheVariants as insts
use Rattle.regress_backtrack.specs.declared.machine.Machine.{Machine}
use Rattle.regress_backtrack.specs.declared.machine.Place.{Place}
use Rattle.regress_leaves.specs.declared.start.Start.TheVariants as starts
use Rattle.regress_code.specs.Code.{code_routines}
use Rattle.regress_backtrack.specs.Machine.{Groups, Ranged, at, groups_of, points, range_points}
use Rattle.regress_backtrack.specs.Next.{Inside, IsInput, Solve, instructions_in}
use Rattle.regress_leaves.specs.Starts.{AreIn, IsStart}
use Rattle.regress_backtrack.specs.Sweep.{IsCharacterAt, IsSwept}
use Rattle.regress_program.specs.Views.{part_of}
use Rattle.regress_backtrack.proofs.RunLemmas.{solved}
use Rattle.regress_leaves.proofs.lemmas.Starts.{ascii_fails, ascii_matches}

module _ (out : Out) (g : Groups) (body repeat_pc next low : ℕ) (moved : Bool) where
  abbrev again : ℕ → List MatchState
  again k = out (at (record { pc = body; moved = false; position = k }) g)

  abbrev at_repeat : ℕ → List MatchState
  at_repeat k = out (at (record { pc = repeat_pc; moved = true; position = k }) g)

  abbrev after : ℕ → List MatchState
  after k = out (at (record { pc = next; moved = true; position = k }) g)

  -- Each of the first iterations ends at the instruction `repeat_pc`, at which one more begins, or what follows.
  pub swept_outcomes : (more : ℕ) →
      ((k : ℕ) → k ≤ more → again (low + k) ≡ at_repeat (low + suc k)) →
      ((k : ℕ) → k < more → at_repeat (low + suc k) ≡ again (low + suc k) ++ after (low + suc k)) →
      again (low + zero) ++ out (at (record { pc = next; moved = moved; position = low }) g)
      ≡ at_repeat (low + suc more) ++ flat_map out (range_points (record { pc = next; moved = moved; position = low }) more g)
  swept_outcomes zero ends repeats = ap₂ ◌++◌ (ends zero (omega arith)) (sym (append-nil _))
  swept_outcomes (suc more) ends repeats =
      let first : Place = record { pc = next; moved = moved; position = low } in
      swept_outcomes more (λ k le. ends k (omega (arith, le))) (λ k lt. repeats k (omega (arith, lt)))
      ∙ ap (λ xs. xs ++ flat_map out (range_points first more g)) (repeats more (omega arith))
      ∙ ap (λ xs. (xs ++ after (low + suc more)) ++ flat_map out (range_points first more g)) (ends (suc more) (omega arith))
      ∙ append_assoc (at_repeat (low + suc (suc more))) (after (low + suc more)) (flat_map out (range_points first more g))

ends_moved : (moved : Bool) (k : ℕ) → (moved || not (k + 1 == k)) ≡ true
ends_moved true k = refl
ends_moved false k = grind arith

module _ (input : Input) (is : IsInput input) (outs : ℕ → Out) (solve : Solve input outs) (g : Groups) where
  -- a character that a leaf matches, at an instruction that matches it
  pub character : input.rules.backwards ≡ false → (pc next : ℕ) (set : ByteBitmap) → IsCharacterAt input pc next set → (moved : Bool) →
      (k : ℕ) → k < length input.text.now → slice_index input.text.now k < 128 → contains set (slice_index input.text.now k) ≡ true →
      outs input.index (at (record { pc = pc; moved = moved; position = k }) g)
      ≡ outs input.index (at (record { pc = next; moved = true; position = k + 1 }) g)
  character forward pc next set one moved k lt small member =
      let c = one.character in
      let u = subject input.rules input.text.now in
      let out = outs input.index in
      let body_of = matcher_of u.setting u.bytes (code_routines input.code.now) outs in
      let p : Place = record { pc = pc; moved = moved; position = k } in
      let start : IsStart (starts.Ascii set) (tree c.test.node) = subst (λ x. IsStart x (tree c.test.node)) c.starts c.test.begins in
      let reads : steps u.setting u.bytes u.direction (tree c.test.node) (state g.captures k) ≡ state g.captures (k + 1) ∷ [] =
      subst (λ b. steps u.setting u.bytes (direction_if b) (tree c.test.node) (state g.captures k) ≡ state g.captures (k + 1) ∷ []) (sym forward)
      (ascii_matches set (tree c.test.node) start.0 start.1 u.setting u.bytes forwards (state g.captures k) (slice_index input.text.now k) (k + 1) small
      (ascii_after input.text.now k (slice_index input.text.now k) small lt refl) member) in
      solved input is p (insts.Leaf c.leaf next) one.inside c.is u.setting u.bytes outs u.direction g solve is.direction (omega (arith, lt))
      ∙ ap (λ o. outcomes_by u.setting u.bytes u.direction body_of out (part_of o next) (at p g)) c.is_test
      ∙ ap (flat_map (λ s. out (reach next (at p g) s))) reads
      ∙ append-nil _
      ∙ ap (λ b. out (at (record { pc = next; moved = b; position = k + 1 }) g)) (ends_moved moved k)

  -- an ASCII character that it does not match
  pub other_character : input.rules.backwards ≡ false → (pc next : ℕ) (set : ByteBitmap) → IsCharacterAt input pc next set → (moved : Bool) →
      (k : ℕ) → k < length input.text.now → slice_index input.text.now k < 128 → contains set (slice_index input.text.now k) ≡ false →
      outs input.index (at (record { pc = pc; moved = moved; position = k }) g) ≡ []
  other_character forward pc next set one moved k lt small member =
      let c = one.character in
      let u = subject input.rules input.text.now in
      let out = outs input.index in
      let body_of = matcher_of u.setting u.bytes (code_routines input.code.now) outs in
      let p : Place = record { pc = pc; moved = moved; position = k } in
      let start : IsStart (starts.Ascii set) (tree c.test.node) = subst (λ x. IsStart x (tree c.test.node)) c.starts c.test.begins in
      let none : steps u.setting u.bytes u.direction (tree c.test.node) (state g.captures k) ≡ [] =
      subst (λ b. steps u.setting u.bytes (direction_if b) (tree c.test.node) (state g.captures k) ≡ []) (sym forward)
      (ascii_fails set (tree c.test.node) start.0 start.1 u.setting u.bytes forwards (state g.captures k) (slice_index input.text.now k) (k + 1) small
      (ascii_after input.text.now k (slice_index input.text.now k) small lt refl) member) in
      solved input is p (insts.Leaf c.leaf next) one.inside c.is u.setting u.bytes outs u.direction g solve is.direction (omega (arith, lt))
      ∙ ap (λ o. outcomes_by u.setting u.bytes u.direction body_of out (part_of o next) (at p g)) c.is_test
      ∙ ap (flat_map (λ s. out (reach next (at p g) s))) none

module _ (input : Input) (is : IsInput input) (looping : Looping) (set : ByteBitmap) (repeat_pc : ℕ) (swept : IsSwept input looping set repeat_pc)
    (body_in : looping.body < length (instructions_in input)) (outs : ℕ → Out) (solve : Solve input outs) (g : Groups) where
  -- an iteration
  pub iteration : (k : ℕ) → k < length input.text.now → slice_index input.text.now k < 128 → contains set (slice_index input.text.now k) ≡ true →
      outs input.index (at (record { pc = looping.body; moved = false; position = k }) g)
      ≡ outs input.index (at (record { pc = repeat_pc; moved = true; position = k + 1 }) g)
  iteration = character input is outs solve g swept.forwards looping.body repeat_pc set (record {
    inside = body_in;
    character = record { leaf = swept.leaf; test = swept.test; is = swept.body; is_test = swept.is_test; starts = swept.starts };
  }) false

  -- the end of an iteration
  pub at_repeat_on : (k : ℕ) → k ≤ length input.text.now →
      outs input.index (at (record { pc = repeat_pc; moved = true; position = k }) g)
      ≡ outs input.index (at (record { pc = looping.body; moved = false; position = k }) g)
      ++ outs input.index (at (record { pc = looping.next; moved = true; position = k }) g)
  at_repeat_on k le =
      let u = subject input.rules input.text.now in
      let p : Place = record { pc = repeat_pc; moved = true; position = k } in
      solved input is p (insts.Repeat true looping.body looping.next) swept.repeat_in swept.repeats u.setting u.bytes outs u.direction g solve is.direction le

  -- several iterations at once
  pub iterations : (here : Place) (more : ℕ) → AreIn set input.text.now here.position (suc more) →
      outs input.index (at (record { pc = looping.body; moved = false; position = here.position }) g)
      ++ outs input.index (at (record here { pc = looping.next }) g)
      ≡ outs input.index (at (record { pc = repeat_pc; moved = true; position = here.position + suc more }) g)
      ++ flat_map (outs input.index) (range_points (record here { pc = looping.next }) more g)
  iterations here more are =
      ap (λ k. outs input.index (at (record { pc = looping.body; moved = false; position = k }) g) ++ outs input.index (at (record here { pc = looping.next }) g))
      (the_low here.position)
      ∙ swept_outcomes (outs input.index) g looping.body repeat_pc looping.next here.position here.moved more
      (λ k le. let in_set = are k (omega (arith, le)) in
      iteration (here.position + k) in_set.0 in_set.1.0 in_set.1.1
      ∙ ap (λ n. outs input.index (at (record { pc = repeat_pc; moved = true; position = n }) g)) (one_more here.position k))
      (λ k lt. let in_set = are k (omega (arith, lt)) in at_repeat_on (here.position + suc k) (omega (arith, in_set.0)))
    where
      the_low : (n : ℕ) → n ≡ n + zero
      the_low n = omega arith

      one_more : (n k : ℕ) → (n + k) + 1 ≡ n + suc k
      one_more n k = omega arith

plus_zero : (n : ℕ) → n + zero ≡ n
plus_zero n = omega arith

plus_suc : (n k : ℕ) → n + suc k ≡ suc (n + k)
plus_suc n k = omega arith

-- Points that have no outcome are left out.
pub fewer_outcomes : (out : Out) (g : Groups) (first : Place) (kept more : ℕ) →
    ((k : ℕ) → kept < k → k ≤ kept + more → out (at (record { pc = first.pc; moved = true; position = first.position + k }) g) ≡ []) →
    flat_map out (range_points first (kept + more) g) ≡ flat_map out (range_points first kept g)
fewer_outcomes out g first kept zero none = ap (λ n. flat_map out (range_points first n g)) (plus_zero kept)
fewer_outcomes out g first kept (suc more) none =
    ap (λ n. flat_map out (range_points first n g)) (plus_suc kept more)
    ∙ ap (λ xs. xs ++ flat_map out (range_points first (kept + more) g)) (none (suc (kept + more)) (omega arith) (omega arith))
    ∙ fewer_outcomes out g first kept more (λ k lt le. none k lt (omega (arith, le)))

-- what holds of the numbers above one, and of that one
pub holds_from : (P : ℕ → Type 0) (low high : ℕ) → P low → ((k : ℕ) → low < k → k ≤ high → P k) → (k : ℕ) → low - 1 < k → k ≤ high → P k
holds_from P low high first above k lt le =
    let least : low ≤ k = omega (arith, lt) in
    by (eq-or-lt_of_le least)
  where
    by : (low ≡ k) ⊎ (low < k) → P k
    by (inl same) = subst P same first
    by (inr more) = above k more le

-- the machine after several iterations
pub swept_leads : (out : Out) (m m' : Machine) (first to : Place) (more : ℕ) (states : List MatchState) → Ranged first more m m' →
    states ≡ out (at to (groups_of m)) ++ flat_map out (range_points first more (groups_of m)) →
    states ++ flat_map out (points m) ≡ flat_map out (at to (groups_of m') ∷ points m')
swept_leads out m m' first to more states ranged is =
    ap (λ xs. xs ++ flat_map out (points m)) is
    ∙ append_assoc (out (at to (groups_of m))) (flat_map out (range_points first more (groups_of m))) (flat_map out (points m))
    ∙ ap (λ xs. out (at to (groups_of m)) ++ xs) (sym (flat_map-append out (range_points first more (groups_of m)) (points m)))
    ∙ ap₂ (λ g ps. out (at to g) ++ flat_map out ps) (sym ranged.groups) (sym ranged.points)

range_inside : (input : Input) (g : Groups) (p : Place) (more : ℕ) → p.pc < length (instructions_in input) → p.position + more ≤ length input.text.now →
    All (Inside input) (range_points p more g)
range_inside input g p zero lt le = All-cons (Inside input) (at p g) [] (record { pc = lt; position = omega (arith, le) }) (All-nil (Inside input))
range_inside input g p (suc more) lt le =
    All-cons (Inside input) (at (record { pc = p.pc; moved = true; position = p.position + suc more }) g) (range_points p more g)
    (record { pc = lt; position = le }) (range_inside input g p more lt (omega (arith, le)))

pub swept_inside : (input : Input) (m m' : Machine) (first to : Place) (more : ℕ) → Ranged first more m m' → first.pc < length (instructions_in input) →
    first.position + more ≤ length input.text.now → to.pc < length (instructions_in input) → to.position ≤ length input.text.now →
    All (Inside input) (points m) → All (Inside input) (at to (groups_of m') ∷ points m')
swept_inside input m m' first to more ranged lt le lt' le' all =
    All-cons (Inside input) (at to (groups_of m')) (points m') (record { pc = lt'; position = le' })
    (subst (All (Inside input)) (sym ranged.points)
    (All-append (Inside input) (range_points first more (groups_of m)) (points m) (range_inside input (groups_of m) first more lt le) all))
