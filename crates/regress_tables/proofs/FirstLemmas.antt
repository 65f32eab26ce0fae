-- The first outcome of a routine: where its walk goes, and how many steps it takes.
use Rattle.std.proofs.Common.{◌≡◌, ◌≢◌, ℕ, zero, suc, ◌+◌, ◌-◌, ◌*◌, ◌≤◌, ◌<◌, Bool, true, false, List, [], ◌∷◌, ◌++◌, length, replicate, take, slice_get, Option, Some, None, get_or, option_map, refl, sym, ap, ap₂, ◌∙◌, subst, arith}
use Rattle.std.proofs.lemmas.List.{length-map, length-replicate, length-take}
use Rattle.std.proofs.lemmas.Option.{same_Some, slice_get-map, slice_get_read}
use Rattle.regress_leaves.specs.Subject.{subject}
use Rattle.regress_tree.specs.Reading.{forwards, direction_if}
use Rattle.regress_tree.specs.Steps.{MatchState}
use Rattle.regress_program.specs.declared.instruction.Instruction.{Instruction}
use Rattle.regress_program.specs.declared.instruction.Routine as declared
use Rattle.regress_program.specs.Below.{row_of}
use Rattle.regress_program.specs.Program.{Op, At, Out, Routine, IsSolution, accept, matcher_of, outcomes_by}
use Rattle.regress_code.specs.Code.{code_routines}
use Rattle.regress_program.specs.Views.{op_in, ops_in, routine_in}
use Rattle.regress_leaves.specs.declared.test.Test.{Test}
use Rattle.regress_tables.specs.declared.evaluate.Input.{Input}
use Rattle.regress_tables.specs.declared.filled.Filled.{Filled}
use Rattle.regress_tables.specs.declared.slots.Slot.{Slot}
use Rattle.regress_tables.specs.declared.slots.Slot.TheVariants as slots
use Rattle.regress_tables.specs.declared.table.Table.{Table}
use Rattle.regress_tables.specs.declared.walker.Walker.{Walker}
use Rattle.regress_tables.specs.Evaluated.{CanFill}
use Rattle.regress_tables.specs.Searchable.{HasNoneIn, IsFirstOutcome, IsSearchable, Solves, captures_in, outcomes_in, program_in, subject_of, width_at}
use Rattle.regress_tables.specs.Slots.{AreInside, IsClean, capture_in, is_set, resolved, set_groups}
use Rattle.regress_program.specs.Contents.{no_ids}
use Rattle.regress_program.specs.Ranges.{ranges_of}
use Rattle.regress_program.specs.Tidy.{IsTidy}
use Rattle.regress_program.proofs.lemmas.Tidy.{tidy-less}
use Rattle.regress_tables.specs.Rows.{row_bit}
use Rattle.regress_tables.specs.Table.{IsFull, IsRight, IsTableOf, cell, has_outcome, index as index_of, number_of}
use Rattle.regress_tables.specs.Walked.{at_of, Leads}
use Rattle.regress_program.proofs.lemmas.Solutions.{solution}
use Rattle.regress_tables.proofs.EvaluateLemmas.{full_tells, index-within}
use Rattle.regress_tables.proofs.RowLemmas.{cell-number}
use Rattle.regress_tables.proofs.StepLemmas.{not_backwards, walk_steps}
use Rattle.regress_tables.proofs.WalkLemmas.{Leads-trans, entry-none, solved-by, walk-begins}

-- ---- where a walk goes

-- what the instruction at an index does
pub op-here : (tests : List Test) (items : List Instruction) (pc : ℕ) (i : Instruction) → slice_get items pc ≡ Some i → slice_get (ops_in tests items) pc ≡ Some (op_in tests i)
op-here tests items pc i is = slice_get-map (op_in tests) items pc ∙ ap (option_map (op_in tests)) is

-- where a walk is, where n groups are unset at first
abbrev pub place_in : Input → (outs : ℕ → Out) (n : ℕ) → Walker → At
place_in input outs n w =
    at_of (capture_in (subject input.rules input.text.now).setting input.text.now (code_routines input.code.now) outs n) w

-- the outcomes of an instruction from where a walk is
abbrev pub states_at : Input → (outs : ℕ → Out) (n : ℕ) → Op → Walker → List MatchState
states_at input outs n op w =
    outcomes_by (subject input.rules input.text.now).setting input.text.now (subject input.rules input.text.now).direction
    (matcher_of (subject input.rules input.text.now).setting input.text.now (code_routines input.code.now) outs) (outs (length input.tables.now)) op
    (place_in input outs n w)

-- `outs` are the outcomes of the program, and the table tells which states have one.
pub record Knows (input : Input) (t : Table) (outs : ℕ → Out) : Type 0 where
  pub solution : IsSolution (subject input.rules input.text.now).setting input.text.now (code_routines input.code.now) outs
  pub full : IsFull t
  pub right : IsRight (outs (length input.tables.now)) t

-- A walk that began at one place is at another now, on the way to the first outcome.
abbrev pub IsOnWay : Input → Table → (first w : Walker) → Type 0
IsOnWay input t first w = (outs : ℕ → Out) → Knows input t outs →
    has_outcome (outs (length input.tables.now) (place_in input outs (length first.slots.items) first)) ≡ true →
    Leads (outs (length input.tables.now) (place_in input outs (length first.slots.items) first)) (outs (length input.tables.now))
    (place_in input outs (length first.slots.items) w)

-- A step goes on to the first outcome of the instruction, if there is one.
abbrev pub StepsOn : Input → Table → Op → (goes : Bool) (w v : Walker) → Type 0
StepsOn input t op goes w v = (outs : ℕ → Out) → Knows input t outs → op ≢ accept → has_outcome (states_at input outs (length w.slots.items) op w) ≡ true →
    (goes ≡ true) × Leads (states_at input outs (length w.slots.items) op w) (outs (length input.tables.now)) (place_in input outs (length w.slots.items) v)

module _ (input : Input) (r : Routine) (t : Table) (op : Op) (first w : Walker) (can : CanFill input r t) (is : slice_get r.ops w.pc ≡ Some op)
    (pc : w.pc < t.width) (within : w.position ≤ t.length) (way : IsOnWay input t first w) (outs : ℕ → Out) (knows : Knows input t outs)
    (some : has_outcome (outs (length input.tables.now) (place_in input outs (length first.slots.items) first)) ≡ true) where
  solved : outs (length input.tables.now) (place_in input outs (length first.slots.items) w) ≡ states_at input outs (length first.slots.items) op w
  solved =
      solved-by (subject input.rules input.text.now).setting input.text.now (code_routines input.code.now) outs (length input.tables.now) r op
      (subject input.rules input.text.now).direction (place_in input outs (length first.slots.items) w) knows.solution can.is is (omega (arith, pc, can.of.width))
      (sym can.of.direction ∙ ap direction_if can.backwards) (omega (arith, within, can.of.text))

  -- one more step
  pub way-goes : (goes : Bool) (v : Walker) → op ≢ accept → length w.slots.items ≡ length first.slots.items → StepsOn input t op goes w v →
      (goes ≡ true) × Leads (outs (length input.tables.now) (place_in input outs (length first.slots.items) first)) (outs (length input.tables.now))
      (place_in input outs (length first.slots.items) v)
  way-goes goes v other count step =
      let i = length input.tables.now in
      let n = length first.slots.items in
      let so_far = way outs knows some in
      let goes_on = subst
      (λ m. has_outcome (states_at input outs m op w) ≡ true → (goes ≡ true) × Leads (states_at input outs m op w) (outs i) (place_in input outs m v)) count
      (step outs knows other) in
      let on = goes_on (ap has_outcome (sym solved) ∙ so_far.some) in
      (on.0, Leads-trans (outs i) (outs i (place_in input outs n first)) (states_at input outs n op w) (place_in input outs n w) (place_in input outs n v) so_far solved on.1)

  -- the end of the first outcome
  pub way-ends : op ≡ accept → (rest : List MatchState) ×
      (outs (length input.tables.now) (place_in input outs (length first.slots.items) first) ≡ (place_in input outs (length first.slots.items) w).state ∷ rest)
  way-ends ends =
      let so_far = way outs knows some in
      (so_far.rest, so_far.first ∙ ap (λ xs. xs ++ so_far.rest) (solved ∙ ap (λ o. states_at input outs (length first.slots.items) o w) ends))

-- ---- a routine with its table

-- the routine at an index, with its table
pub record TableAt (f : Filled) (index : ℕ) (r : Routine) (t : Table) : Type 0 where
  pub is : slice_get (program_in f) index ≡ Some r
  pub table : slice_get f.input.tables.now index ≡ Some t
  pub entry : r.entry < t.width
  pub of : IsTableOf f.input.text.now r t
  pub full : IsFull t
  pub right : (outs : ℕ → Out) → Solves f outs → IsRight (outs index) t
  pub before : length (take index f.input.tables.now) ≡ index

pub table-at : (f : Filled) (index : ℕ) (x : declared.Routine) (t : Table) → IsSearchable f → index < length (program_in f) →
    x ≡ get_or f.input.code.now.program.routines.items index x → t ≡ get_or f.input.tables.now index t →
    TableAt f index (routine_in f.input.code.now.program.leaves.items x) (get_or f.input.tables.now index t)
table-at f index x t searchable lt is_x is_t =
    let view = routine_in f.input.code.now.program.leaves.items in
    let routines = f.input.code.now.program.routines.items in
    let tables = f.input.tables.now in
    let r = view x in
    let u = get_or tables index t in
    let filled = searchable.filled in
    let in_routines : index < length routines = omega (arith, lt, length-map routines view) in
    let in_tables : index < length tables = omega (arith, lt, filled.all) in
    let is : slice_get (program_in f) index ≡ Some r =
    slice_get-map view routines index ∙ ap (option_map view) (slice_get_read routines _ index x refl in_routines is_x) in
    let table : slice_get tables index ≡ Some u = slice_get_read tables _ index t refl in_tables is_t ∙ ap Some is_t in
    let of = filled.are.of index r u is table in
    record {
      is = is;
      table = table;
      entry = omega (arith, (f.input.code.now.program.is_program index r is).entry, of.width);
      of = of;
      full = filled.are.full index u table;
      right = λ outs solves. filled.right outs solves index u table;
      before = omega (arith, length-take index tables, in_tables);
    }

pub same-way : (a b : Bool) → direction_if a ≡ direction_if b → a ≡ b
same-way true true is = refl
same-way true false is = cc
same-way false true is = cc
same-way false false is = refl

pub width-of : (program : List Routine) (index : ℕ) (r : Routine) → slice_get program index ≡ Some r → width_at program index ≡ length r.ops
width-of program index r is = ap width is
  where
    width : Option Routine → ℕ
    width None = 0
    width (Some r) = length r.ops

-- ---- slots that are unset

none-inside : (n id routine position : ℕ) → slice_get (replicate n slots.Unset) id ≡ Some (slots.Inside routine position) → ⊥
none-inside zero id routine position is = cc
none-inside (suc n) zero routine position is = cc
none-inside (suc n) (suc id) routine position is = none-inside n id routine position is

none-set : (n id : ℕ) → is_set (slice_get (replicate n slots.Unset) id) ≡ true → no_ids id ≡ true
none-set zero id is = is
none-set (suc n) zero is = is
none-set (suc n) (suc id) is = none-set n id is

-- A tidy routine is clean at its entry, where no group is set.
pub clean-first : (program : List Routine) (i : ℕ) (r : Routine) (n : ℕ) (ss : List Slot) → IsTidy program → slice_get program i ≡ Some r →
    ss ≡ replicate n slots.Unset → IsClean program r r.entry ss
clean-first program i r n ss tidy found is k =
    tidy-less (ranges_of program) r.ops k r.entry (set_groups ss) no_ids (λ id one. none-set n id (sym (ap (λ xs. is_set (slice_get xs id)) is) ∙ one))
    (tidy i r found k)

-- No lookaround has set them.
pub inside-first : (routines m inner n : ℕ) (ss : List Slot) → ss ≡ replicate n slots.Unset → AreInside routines m inner ss
inside-first routines m inner n ss is id routine position here =
    absurd (none-inside n id routine position (sym (ap (λ xs. slice_get xs id) is) ∙ here))

-- ---- the walk of a routine from its entry

-- A walk begins at the entry of a routine, from the position p, with n groups that are unset.
pub record Begins (r : Routine) (n p : ℕ) (w : Walker) : Type 0 where
  pub pc : w.pc ≡ r.entry
  pub moved : w.moved ≡ true
  pub position : w.position ≡ p
  pub unset : w.slots.items ≡ replicate n slots.Unset
  pub begins : w.begins.items ≡ []

-- The walk of the routine i from one place ends at another, if there is an outcome.
abbrev pub Walks : (f : Filled) (i : ℕ) → Table → (w v : Walker) (ended : Bool) → Type 0
Walks f i t w v ended = (outs : ℕ → Out) → Solves f outs → IsFull t → IsRight (outs i) t →
    has_outcome (outs i (at_of (captures_in f outs (length w.slots.items)) w)) ≡ true →
    (ended ≡ true) × ((rest : List MatchState) × (outs i (at_of (captures_in f outs (length w.slots.items)) w)
    ≡ (at_of (captures_in f outs (length w.slots.items)) v).state ∷ rest))

module _ (f : Filled) (index n position : ℕ) (r : Routine) (t : Table) (at : TableAt f index r t) (within : position ≤ length f.input.text.now) where
  -- Where the bit is not set, the routine has no outcome.
  pub first-none : (bit : Bool) → bit ≡ cell t r.entry true position → bit ≡ false → IsFirstOutcome f index n position None
  first-none bit is none outs solves =
      entry-none (subject_of f).setting f.input.text.now (program_in f) outs index n position r t at.is (at.right outs solves) at.full at.entry
      (omega (arith, within, at.of.text)) (sym is ∙ none)

  -- Nor from any other position of the same row.
  pub none-in : (bit : Bool) → bit ≡ cell t r.entry true position → bit ≡ false →
      HasNoneIn f index (number_of t (row_of (direction_if t.backwards) t.length position))
  none-in bit is none t' m q is' in_text same =
      let equal : t' ≡ t = same_Some t' t (sym is' ∙ at.table) in
      let number : number_of t (row_of (direction_if t.backwards) t.length q) ≡ number_of t (row_of (direction_if t.backwards) t.length position) =
      subst (λ (u : Table). number_of u (row_of (direction_if u.backwards) u.length q) ≡ number_of t (row_of (direction_if t.backwards) t.length position)) equal same in
      let bits : cell t r.entry true q ≡ false =
      cell-number t r.entry true q at.entry ∙ ap (λ k. row_bit t k r.entry true) number ∙ sym (cell-number t r.entry true position at.entry) ∙ sym is ∙ none in
      λ outs solves.
      entry-none (subject_of f).setting f.input.text.now (program_in f) outs index m q r t at.is (at.right outs solves) at.full at.entry
      (omega (arith, in_text, at.of.text)) bits

  module _ (i : ℕ) (same : i ≡ index) (w v : Walker) (begins : Begins r n position w) (bit : Bool) (is : bit ≡ cell t r.entry true position) (holds : bit ≡ true)
      (ended : Bool) (walks : Walks f i t w v ended) where
    -- Where the bit is set, the walk ends at the first outcome.
    pub first-some : (outs : ℕ → Out) → Solves f outs → (ended ≡ true) × ((rest : List MatchState) ×
        (outcomes_in f outs index n position ≡ record { position = v.position; captures = resolved (captures_in f outs n) v.slots.items } ∷ rest))
    first-some outs solves =
        let capture_of = captures_in f outs (length w.slots.items) in
        let right : IsRight (outs i) t = subst (λ k. IsRight (outs k) t) (sym same) (at.right outs solves) in
        let some : has_outcome (outs i (at_of capture_of w)) ≡ true =
        full_tells (outs i) t r.entry true position at.full right at.entry (omega (arith, within, at.of.text)) (at_of capture_of w) begins.pc begins.moved
        begins.position ∙ sym is ∙ holds in
        let ends = walks outs solves at.full right some in
        let start = walk-begins (subject_of f).setting f.input.text.now (program_in f) outs i n position r w capture_of (ap (slice_get (program_in f)) same ∙ at.is)
        begins.pc begins.moved begins.position begins.unset begins.begins in
        let count : length w.slots.items ≡ n = ap length begins.unset ∙ length-replicate n slots.Unset in (
          ends.0,
          (
            ends.1.0,
            ap (λ k. outcomes_in f outs k n position) (sym same) ∙ start ∙ ends.1.1
                ∙ ap (λ m. (at_of (captures_in f outs m) v).state ∷ ends.1.0) count,
          ),
        )

    -- Every program has outcomes, so the walk ends.
    pub first-ends : ended ≡ true
    first-ends =
        let some = solution (subject_of f).setting f.input.text.now (program_in f) f.input.code.now.program.is_program in
        (first-some some.0 some.1).0

-- ---- the steps of a walk

-- A walk takes at most as many steps as there are states.
pub first-steps : (f : Filled) (index : ℕ) (r : Routine) (t : Table) → TableAt f index r t → (position last s s' : ℕ) → position ≤ length f.input.text.now →
    s' + last ≤ s + index_of t r.entry true position + 1 → s' ≤ s + 2 * width_at (program_in f) index * (length f.input.text.now + 1)
first-steps f index r t at position last s s' within more =
    let all = index-within t r.entry true position at.entry (omega (arith, within, at.of.text)) in
    let width : width_at (program_in f) index ≡ t.width = width-of (program_in f) index r at.is ∙ sym at.of.width in
    let most : s' ≤ s + (t.length + 1) * (2 * t.width) = omega (arith, more, all) in
    let sizes : (t.length + 1) * (2 * t.width) ≡ (length f.input.text.now + 1) * (2 * width_at (program_in f) index) =
    ap₂ (λ k w. (k + 1) * (2 * w)) at.of.text (sym width) in
    omega (arith, most, sizes)

-- Forwards, it takes at most as many as there are states at the positions from its start to its end.
pub first-forwards : (f : Filled) (index : ℕ) (r r' : Routine) (t : Table) → TableAt f index r t → slice_get (program_in f) index ≡ Some r' →
    r'.direction ≡ forwards → (position pc : ℕ) (moved : Bool) (end s s' : ℕ) → position ≤ length f.input.text.now → end ≤ t.length →
    index_of t pc moved end ≤ index_of t r.entry true position → s' + index_of t pc moved end ≤ s + index_of t r.entry true position + 1 →
    (position ≤ end) × (s' ≤ s + 2 * length r'.ops * (end + 1 - position))
first-forwards f index r r' t at is forward position pc moved end s s' within inside falls more =
    let same : r ≡ r' = same_Some r r' (sym at.is ∙ is) in
    let way : t.backwards ≡ false = not_backwards t.backwards (at.of.direction ∙ ap (λ (x : Routine). x.direction) same ∙ forward) in
    let width : t.width ≡ length r'.ops = at.of.width ∙ ap (λ (x : Routine). length x.ops) same in
    let all = walk_steps t way r.entry pc moved position end s s' at.entry (omega (arith, within, at.of.text)) inside falls more in
    (all.0, subst (λ w. s' ≤ s + 2 * w * (end + 1 - position)) width all.1)
