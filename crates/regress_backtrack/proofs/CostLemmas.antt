-- The cost of what a run goes on with is at most the cost before.
use Rattle.std.proofs.Common.{◌≡◌, ℕ, zero, suc, ◌+◌, ◌-◌, ◌≤◌, ◌<◌, ◌==◌, ◌||◌, Bool, true, false, not, [], ◌∷◌, length, sum_by, slice_get, slice_index, Option, Some, None, MatchOption, refl, sym, ap, ap₂, ◌∙◌, subst, arith}
use Rattle.std.proofs.lemmas.List.FromFn.{sum_by-map-range_with_len_more}
use Rattle.std.proofs.lemmas.List.Sums.{sum-map, sum_by-append, sum_by-cons}
use Rattle.std.specs.Int.{abs_diff}
use Rattle.std.specs.List.{range_with_len}
use Rattle.regress_base.specs.ByteBitmap.{contains}
use Rattle.regress_base.specs.declared.bytesearch.bitmap.ByteBitmap.{ByteBitmap}
use Rattle.regress_leaves.specs.Leaves.{exactly, put}
use Rattle.regress_leaves.specs.Subject.{subject}
use Rattle.regress_leaves.proofs.ReadingLemmas.{ascii_after}
use Rattle.regress_found.specs.Found.{state}
use Rattle.regress_program.specs.Cost.{Cost, blocks, bytes_ahead, characters_cost, compared, cost_after, cost_at, cost_of}
use Rattle.regress_program.specs.Program.{At, matcher_of, Out}
use Rattle.regress_tree.specs.Matching.{steps}
use Rattle.regress_tree.specs.Reading.{direction_if, forwards}
use Rattle.regress_tree.specs.Tree.{tree}
use Rattle.regress_backtrack.specs.declared.alternatives.Looping.{Looping}
use Rattle.regress_backtrack.specs.declared.input.Input.{Input}
use Rattle.regress_program.specs.declared.instruction.Instruction.{Instruction}
use Rattle.regress_program.specs.declared.instruction.Instruction.TheVariants as insts
use Rattle.regress_backtrack.specs.declared.machine.Machine.{Machine}
use Rattle.regress_backtrack.specs.declared.machine.Place.{Place}
use Rattle.regress_leaves.specs.declared.start.Start.TheVariants as starts
use Rattle.regress_backtrack.specs.declared.step.Next.{Next}
use Rattle.regress_leaves.specs.declared.test.Test.{Test}
use Rattle.regress_code.specs.Code.{code_routines}
use Rattle.regress_backtrack.specs.Costs.{HasCost, cost_ahead, op_cost, points_cost}
use Rattle.regress_backtrack.specs.Machine.{Chosen, Groups, Ranged, at, groups_of, points, range_points}
use Rattle.regress_backtrack.specs.Next.{IsInput, instructions_in, routine_of}
use Rattle.regress_leaves.specs.Starts.{AreIn, IsStart}
use Rattle.regress_backtrack.specs.Sweep.{IsSwept}
use Rattle.regress_program.specs.Views.{characters_of, op_in, part_of}
use Rattle.regress_backtrack.proofs.InputLemmas.{routine-is}
use Rattle.regress_backtrack.proofs.RunLemmas.{op-is, width-is}
use Rattle.regress_leaves.proofs.lemmas.Starts.{ascii_matches}
use Rattle.regress_backtrack.proofs.StepLemmas.{Reaches}

module _ (input : Input) (is : IsInput input) (outs : ℕ → Out) (costs : ℕ → Cost) (has : HasCost input outs costs) (g : Groups) where
  -- the cost at an instruction
  pub costed : (p : Place) (i : Instruction) → p.pc < length (instructions_in input) → slice_get (instructions_in input) p.pc ≡ Some i →
      p.position ≤ length input.text.now →
      costs input.index (at p g) ≡ 1 + op_cost input outs costs (op_in input.code.now.program.leaves.items i) (at p g)
  costed p i lt read le =
      let u = subject input.rules input.text.now in
      let program = code_routines input.code.now in
      has.same input.index (routine_of input) (routine-is input is) (at p g) (omega (arith, width-is input is p i lt read, lt)) le
      ∙ ap₂ (λ d o. cost_at u.setting u.bytes d (matcher_of u.setting u.bytes program outs) (cost_of u.setting u.bytes program costs) (costs input.index) o (at p g))
      (sym is.direction) (op-is input is p i lt read)

  -- the other alternative of a choice
  pub second_cost : (p : Place) (first second : ℕ) → p.pc < length (instructions_in input) →
      slice_get (instructions_in input) p.pc ≡ Some (insts.Split first second) → p.position ≤ length input.text.now →
      costs input.index (at (record p { pc = second }) g) ≤ costs input.index (at p g)
  second_cost p first second lt read le =
      let same = costed p (insts.Split first second) lt read le in
      omega (arith, same)

-- ---- leaves

-- a part that ends at a position
module _ (input : Input) (outs : ℕ → Out) (costs : ℕ → Cost) (m : Machine) (p : Place) (next : ℕ) (n : Next) (remaining remaining1 remaining2 : ℕ) where
  pub leaf_cost : (o : Option Test) (t : Test) (to : Option ℕ) → o ≡ Some t →
      (let u = subject input.rules input.text.now in
      steps u.setting u.bytes u.direction (tree t.node) (state m.captures.items p.position) ≡ put (state m.captures.items p.position) to) →
      Reaches next p n to → remaining ≤ remaining1 + compared (bytes_ahead (subject input.rules input.text.now).direction (length input.text.now) p.position) (tree t.node) (state m.captures.items p.position) →
      MatchOption to (remaining2 ≡ remaining1) (λ (q : ℕ). remaining1 ≤ remaining2 + blocks (abs_diff p.position q)) →
      remaining + cost_ahead (costs input.index) m n
      ≤ remaining2 + (op_cost input outs costs (part_of o next) (at p (groups_of m)) + points_cost (costs input.index) m)
  leaf_cost o t None some ends is taken moved =
      subst (λ x. remaining + cost_ahead (costs input.index) m x
      ≤ remaining2 + (op_cost input outs costs (part_of o next) (at p (groups_of m)) + points_cost (costs input.index) m)) (sym is)
      (subst (λ x. remaining + points_cost (costs input.index) m
      ≤ remaining2 + (op_cost input outs costs (part_of x next) (at p (groups_of m)) + points_cost (costs input.index) m)) (sym some)
      (omega (arith, taken, moved)))
  leaf_cost o t (Some q) some ends is taken moved =
      let cost = costs input.index in
      let a = at p (groups_of m) in
      let there = cost (at (record { pc = next; moved = p.moved || not (q == p.position); position = q }) (groups_of m)) in
      let on = ap (cost_after cost next a) ends in
      subst (λ x. remaining + cost_ahead cost m x ≤ remaining2 + (op_cost input outs costs (part_of o next) a + points_cost cost m)) (sym is)
      (subst (λ x. remaining + (there + points_cost cost m) ≤ remaining2 + (op_cost input outs costs (part_of x next) a + points_cost cost m)) (sym some)
      (omega (arith, taken, moved, on)))

  -- characters that end at a position
  pub exactly_cost : (o : Option Test) (t : Test) (count : ℕ) (to : Option ℕ) → o ≡ Some t →
      (let u = subject input.rules input.text.now in
      steps u.setting u.bytes u.direction (exactly count (tree t.node)) (state m.captures.items p.position) ≡ put (state m.captures.items p.position) to) →
      Reaches next p n to → remaining ≤ remaining1 + characters_cost (bytes_ahead (subject input.rules input.text.now).direction (length input.text.now) p.position) count →
      MatchOption to (remaining2 ≡ remaining1) (λ (q : ℕ). remaining1 ≤ remaining2 + blocks (abs_diff p.position q)) →
      remaining + cost_ahead (costs input.index) m n
      ≤ remaining2 + (op_cost input outs costs (characters_of o count next) (at p (groups_of m)) + points_cost (costs input.index) m)
  exactly_cost o t count None some ends is taken moved =
      subst (λ x. remaining + cost_ahead (costs input.index) m x
      ≤ remaining2 + (op_cost input outs costs (characters_of o count next) (at p (groups_of m)) + points_cost (costs input.index) m)) (sym is)
      (subst (λ x. remaining + points_cost (costs input.index) m
      ≤ remaining2 + (op_cost input outs costs (characters_of x count next) (at p (groups_of m)) + points_cost (costs input.index) m)) (sym some)
      (omega (arith, taken, moved)))
  exactly_cost o t count (Some q) some ends is taken moved =
      let cost = costs input.index in
      let a = at p (groups_of m) in
      let there = cost (at (record { pc = next; moved = p.moved || not (q == p.position); position = q }) (groups_of m)) in
      let on = ap (cost_after cost next a) ends in
      subst (λ x. remaining + cost_ahead cost m x ≤ remaining2 + (op_cost input outs costs (characters_of o count next) a + points_cost cost m)) (sym is)
      (subst (λ x. remaining + (there + points_cost cost m) ≤ remaining2 + (op_cost input outs costs (characters_of x count next) a + points_cost cost m)) (sym some)
      (omega (arith, taken, moved, on)))

-- ---- loops over one character

module _ (cost : Cost) (g : Groups) (body repeat_pc next low : ℕ) (moved : Bool) where
  abbrev again : ℕ → ℕ
  again k = cost (at (record { pc = body; moved = false; position = k }) g)

  abbrev at_repeat : ℕ → ℕ
  at_repeat k = cost (at (record { pc = repeat_pc; moved = true; position = k }) g)

  abbrev after : ℕ → ℕ
  after k = cost (at (record { pc = next; moved = true; position = k }) g)

  abbrev first : Place
  first = record { pc = next; moved = moved; position = low }

  -- Each of the first iterations ends at the instruction `repeat_pc`, at which one more begins, or what follows.
  pub swept_cost : (more : ℕ) →
      ((k : ℕ) → k ≤ more → 1 + at_repeat (low + suc k) ≤ again (low + k)) →
      ((k : ℕ) → k < more → again (low + suc k) + after (low + suc k) ≤ at_repeat (low + suc k)) →
      suc more + (at_repeat (low + suc more) + sum_by cost (range_points first more g)) ≤ again (low + zero) + cost (at first g)
  swept_cost zero ends repeats =
      let one = ends zero (omega arith) in
      let sum = sum_by-cons cost (at first g) [] in
      omega (arith, one, sum)
  swept_cost (suc more) ends repeats =
      let so_far = swept_cost more (λ k le. ends k (omega (arith, le))) (λ k lt. repeats k (omega (arith, lt))) in
      let repeat' = repeats more (omega arith) in
      let one = ends (suc more) (omega arith) in
      let sum = sum_by-cons cost (at (record { pc = next; moved = true; position = low + suc more }) g) (range_points first more g) in
      omega (arith, so_far, repeat', one, sum)

ends_moved : (k : ℕ) → (false || not (k + 1 == k)) ≡ true
ends_moved k = grind arith

module _ (input : Input) (is : IsInput input) (looping : Looping) (set : ByteBitmap) (repeat_pc : ℕ) (swept : IsSwept input looping set repeat_pc)
    (body_in : looping.body < length (instructions_in input)) (outs : ℕ → Out) (costs : ℕ → Cost) (has : HasCost input outs costs) (g : Groups) where
  -- an iteration
  iteration_cost : (k : ℕ) → k < length input.text.now → slice_index input.text.now k < 128 → contains set (slice_index input.text.now k) ≡ true →
      1 + costs input.index (at (record { pc = repeat_pc; moved = true; position = k + 1 }) g)
      ≤ costs input.index (at (record { pc = looping.body; moved = false; position = k }) g)
  iteration_cost k lt ascii member =
      let u = subject input.rules input.text.now in
      let cost = costs input.index in
      let p : Place = record { pc = looping.body; moved = false; position = k } in
      let start : IsStart (starts.Ascii set) (tree swept.test.node) = subst (λ x. IsStart x (tree swept.test.node)) swept.starts swept.test.begins in
      let one : steps u.setting u.bytes u.direction (tree swept.test.node) (state g.captures k) ≡ state g.captures (k + 1) ∷ [] =
      subst (λ b. steps u.setting u.bytes (direction_if b) (tree swept.test.node) (state g.captures k) ≡ state g.captures (k + 1) ∷ []) (sym swept.forwards)
      (ascii_matches set (tree swept.test.node) start.0 start.1 u.setting u.bytes forwards (state g.captures k) (slice_index input.text.now k) (k + 1) ascii
      (ascii_after input.text.now k (slice_index input.text.now k) ascii lt refl) member) in
      let same = costed input is outs costs has g p (insts.Leaf swept.leaf repeat_pc) body_in swept.body (omega (arith, lt)) in
      let leaf = ap (λ o. op_cost input outs costs (part_of o repeat_pc) (at p g)) swept.is_test in
      let ends = ap (cost_after cost repeat_pc (at p g)) one in
      let here = ap (λ b. cost (at (record { pc = repeat_pc; moved = b; position = k + 1 }) g)) (ends_moved k) in
      omega (arith, same, leaf, ends, here)

  -- the end of an iteration
  pub at_repeat_cost : (k : ℕ) → k ≤ length input.text.now →
      costs input.index (at (record { pc = looping.body; moved = false; position = k }) g)
      + costs input.index (at (record { pc = looping.next; moved = true; position = k }) g)
      ≤ costs input.index (at (record { pc = repeat_pc; moved = true; position = k }) g)
  at_repeat_cost k le =
      let p : Place = record { pc = repeat_pc; moved = true; position = k } in
      let same = costed input is outs costs has g p (insts.Repeat true looping.body looping.next) swept.repeat_in swept.repeats le in
      omega (arith, same)

  -- several iterations at once
  pub iterations_cost : (here : Place) (more : ℕ) → AreIn set input.text.now here.position (suc more) →
      suc more + (costs input.index (at (record { pc = repeat_pc; moved = true; position = here.position + suc more }) g)
      + sum_by (costs input.index) (range_points (record here { pc = looping.next }) more g))
      ≤ costs input.index (at (record { pc = looping.body; moved = false; position = here.position }) g)
      + costs input.index (at (record here { pc = looping.next }) g)
  iterations_cost here more are =
      let cost = costs input.index in
      let low = here.position in
      let all = swept_cost cost g looping.body repeat_pc looping.next low here.moved more
      (λ k le. let in_set = are k (omega (arith, le)) in
      subst (λ n. 1 + cost (at (record { pc = repeat_pc; moved = true; position = n }) g) ≤ cost (at (record { pc = looping.body; moved = false; position = low + k }) g))
      (one_more low k) (iteration_cost (low + k) in_set.0 in_set.1.0 in_set.1.1))
      (λ k lt. let in_set = are k (omega (arith, lt)) in at_repeat_cost (low + suc k) (omega (arith, in_set.0))) in
      omega (arith, all, ap (λ k. cost (at (record { pc = looping.body; moved = false; position = k }) g)) (the_low low))
    where
      the_low : (n : ℕ) → n ≡ n + zero
      the_low n = omega arith

      one_more : (n k : ℕ) → (n + k) + 1 ≡ n + suc k
      one_more n k = omega arith

-- the machine after several iterations
pub swept_ahead : (cost : Cost) (m m' : Machine) (first to : Place) (more count before : ℕ) → Ranged first more m m' →
    count + (cost (at to (groups_of m)) + sum_by cost (range_points first more (groups_of m))) ≤ before →
    count + (cost (at to (groups_of m')) + points_cost cost m') ≤ before + points_cost cost m
swept_ahead cost m m' first to more count before ranged le =
    let here = ap (λ g. cost (at to g)) ranged.groups in
    let sum = ap (sum_by cost) ranged.points ∙ sum_by-append cost (range_points first more (groups_of m)) (points m) in
    omega (arith, le, here, sum)

plus_zero : (n : ℕ) → n + zero ≡ n
plus_zero n = omega arith

plus_suc : (n k : ℕ) → n + suc k ≡ suc (n + k)
plus_suc n k = omega arith

-- Fewer points cost no more.
pub fewer_cost : (cost : Cost) (g : Groups) (first : Place) (kept more : ℕ) →
    sum_by cost (range_points first kept g) ≤ sum_by cost (range_points first (kept + more) g)
fewer_cost cost g first kept zero =
    let same = ap (λ n. sum_by cost (range_points first n g)) (plus_zero kept) in
    omega (arith, same)
fewer_cost cost g first kept (suc more) =
    let so_far = fewer_cost cost g first kept more in
    let last : At = at (record { pc = first.pc; moved = true; position = first.position + suc (kept + more) }) g in
    let grown = ap (λ n. sum_by cost (range_points first n g)) (plus_suc kept more) in
    let sum = sum_by-cons cost last (range_points first (kept + more) g) in
    omega (arith, so_far, grown, sum)

-- ---- backtrack points

-- one more backtrack point
pub chosen_cost : (cost : Cost) (m m' : Machine) (first second : Place) → Chosen second m m' →
    cost (at first (groups_of m')) + points_cost cost m' ≤ (cost (at first (groups_of m)) + cost (at second (groups_of m))) + points_cost cost m
chosen_cost cost m m' first second chosen =
    let here = ap (λ g. cost (at first g)) chosen.groups in
    let sum = ap (sum_by cost) chosen.points ∙ sum_by-cons cost (at second (groups_of m)) (points m) in
    omega (arith, here, sum)

-- the latest backtrack point
pub back_cost : (cost : Cost) (m m' : Machine) (p : Place) → points m ≡ at p (groups_of m') ∷ points m' →
    points_cost cost m ≡ cost (at p (groups_of m')) + points_cost cost m'
back_cost cost m m' p back = ap (sum_by cost) back ∙ sum_by-cons cost (at p (groups_of m')) (points m')

-- ---- searches

module _ (f : ℕ → ℕ) (from : ℕ) where
  -- the cost of a search at the first `n` byte offsets
  abbrev pub tried : ℕ → ℕ
  tried n = sum_by (λ k. 1 + f k) (range_with_len from n)

  one_more : (n : ℕ) → tried (n + 1) ≡ tried n + (1 + f (from + n))
  one_more n =
      let g : ℕ → ℕ = λ k. 1 + f k in
      sym (sum-map g (range_with_len from (n + 1)))
      ∙ sum_by-map-range_with_len_more (λ x. x) g from n (from + n) refl
      ∙ ap (λ k. k + (1 + f (from + n))) (sum-map g (range_with_len from n))

  at_least : (n m : ℕ) → tried n + m ≤ tried (n + m)
  at_least n zero =
      let same : n + zero ≡ n = omega arith in
      let here = ap tried same in
      omega (arith, here)
  at_least n (suc m) =
      let before = at_least n m in
      let same : n + suc m ≡ (n + m) + 1 = omega arith in
      let here = ap tried same in
      let one = one_more (n + m) in
      omega (arith, before, here, one)

  -- some byte offsets are skipped, and a run starts at the next one
  pub tried_on : (here k : ℕ) → from ≤ here → here ≤ k → tried (here - from) + (((k - here) + 1) + f k) ≤ tried ((k + 1) - from)
  tried_on here k low le =
      let skipped = at_least (here - from) (k - here) in
      let all : (here - from) + (k - here) ≡ k - from = omega (arith, low, le) in
      let so_far = ap tried all in
      let one = one_more (k - from) in
      let at : from + (k - from) ≡ k = omega (arith, low, le) in
      let run = ap f at in
      let last : (k + 1) - from ≡ (k - from) + 1 = omega (arith, low, le) in
      let end = ap tried last in
      omega (arith, skipped, so_far, one, run, end)

  -- the cost of the first ones is at most that of more
  pub tried_part : (n m : ℕ) → n ≤ m → tried n ≤ tried m
  tried_part n m le =
      let more = at_least n (m - n) in
      let all : n + (m - n) ≡ m = omega (arith, le) in
      let end = ap tried all in
      omega (arith, more, end)

  -- the cost of a run is part of that of a search
  pub one_tried : (k end : ℕ) → from ≤ k → k ≤ end → f k ≤ tried (end + 1 - from)
  one_tried k end low high =
      let on = tried_on k k low (omega arith) in
      let all = tried_part ((k + 1) - from) (end + 1 - from) (omega (arith, high)) in
      omega (arith, on, all)

  -- the cost of a search that ends with the run at k
  pub searched : (here k end remaining remaining1 remaining2 remaining3 : ℕ) → from ≤ here → here ≤ k → k ≤ end → remaining ≤ remaining1 + tried (here - from) →
      remaining2 ≡ remaining1 - ((k - here) + 1) → remaining2 ≤ remaining3 + f k → remaining ≤ remaining3 + tried (end + 1 - from)
  searched here k end remaining remaining1 remaining2 remaining3 low le high before skipped taken =
      let on = tried_on here k low le in
      let all = tried_part ((k + 1) - from) (end + 1 - from) (omega (arith, high)) in
      omega (arith, before, skipped, taken, on, all)
