-- A walk goes on to the first outcome.
use Rattle.std.proofs.Common.{inl, inr, ◌==◌, ◌||◌, reverse, replicate, ◌≡◌, ℕ, ◌+◌, ◌≤◌, ◌<◌, Bool, true, false, not, List, [], ◌∷◌, ◌++◌, flat_map, length, take, Option, Some, None, MatchOption, if◌then◌else◌, refl, sym, ap, ap₂, ◌∙◌, subst, append-nil, append_assoc, slice_get, arith}
use Rattle.std.specs.Prelude.{slice_index_or}
use Rattle.std.specs.Str.{IsCharBoundary}
use Rattle.std.proofs.lemmas.Bool.{cases_eq}
use Rattle.std.proofs.lemmas.List.{length-take}
use Rattle.std.proofs.lemmas.Option.{slice_get_cases}
use Rattle.regress_tree.specs.Lookaround.{looked, lookaround_matcher}
use Rattle.regress_tree.specs.Matching.{steps}
use Rattle.regress_tree.specs.Reading.{Direction, direction_if}
use Rattle.regress_tree.specs.Steps.{CaptureSpan, MatchState, Setting}
use Rattle.regress_tree.specs.Tree.{Tree}
use Rattle.regress_leaves.specs.Leaves.{put}
use Rattle.regress_program.specs.declared.ranges.GroupRange.{GroupRange}
use Rattle.regress_found.specs.Found.{initial_state, NoneBefore}
use Rattle.regress_program.specs.Below.{Below}
use Rattle.regress_program.specs.Program.{Out, At, Routine, Op, accept, look, goto, enter, reach, either, ended, outcomes_by, outcomes_at, matcher_of, start, IsSolution}
use Rattle.regress_program.specs.Isolated.{Captures, AreUnset, capture_at, captures_from}
use Rattle.regress_program.specs.Ranges as ranges
use Rattle.regress_program.specs.Ranges.{changed_by, ranges_of}
use Rattle.regress_program.specs.Shape.{Fits, IsProgram}
use Rattle.regress_program.specs.Stays.{IsOnward}
use Rattle.regress_program.specs.declared.instruction.Instruction.{Instruction}
use Rattle.regress_program.specs.declared.instruction.Instruction.TheVariants as insts
use Rattle.regress_program.specs.Tidy.{has_no_back_reference}
use Rattle.regress_code.specs.Code.{code_routines}
use Rattle.regress_code.specs.declared.code.Code.{Code}
use Rattle.regress_program.specs.Views.{characters_of, op_in, part_of}
use Rattle.regress_leaves.specs.declared.test.Test.{Test}
use Rattle.regress_tables.specs.declared.slots.Slot.{Slot}
use Rattle.regress_tables.specs.declared.slots.Slot.TheVariants as slots
use Rattle.regress_tables.specs.declared.table.Table.{Table}
use Rattle.regress_tables.specs.declared.evaluate.Input.{Input}
use Rattle.regress_tables.specs.Evaluated.{CanFill}
use Rattle.regress_tables.specs.declared.walker.Walker.{Walker}
use Rattle.regress_tables.specs.Slots.{capture_in, resolved}
use Rattle.regress_tables.specs.Table.{has_outcome, cell, IsFull, IsRight}
use Rattle.regress_tables.specs.Walked.{iterates, chosen, alternative, at_of, CanWalk, Leads, SetInside}
use Rattle.regress_program.proofs.lemmas.Agreement.{isolated}
use Rattle.regress_program.proofs.lemmas.Instructions.{no_reference-at}
use Rattle.regress_program.proofs.lemmas.Onward.{Stays-tree, reached-one}
use Rattle.regress_program.proofs.lemmas.Below.{below-here, below-enter, below-again, below-reach}
use Rattle.regress_tables.proofs.SlotLemmas.{length-resolved, resolved-none, resolved-replaced, resolved-same}
use Rattle.regress_tables.proofs.EvaluateLemmas.{full_tells}

-- what lookarounds capture, where it does not matter
abbrev pub unknown : (routine position id : ℕ) → Option CaptureSpan
unknown routine position id = None

-- what the code says of a part that ends at a position
abbrev pub Reaches : (next : ℕ) (a b : At) (goes : Bool) → Option ℕ → Type 0
Reaches next a b goes to =
    MatchOption to (goes ≡ false) (λ q. (goes ≡ true) × (b ≡ reach next a (record { position = q; captures = a.state.captures })))

module _ (t : Table) (a : At) (pc_in : a.pc < t.width) (within : a.state.position ≤ t.length) where
  abbrev pub IsBelow : At → Type 0
  IsBelow b = Below t.width t.length (direction_if t.backwards) a b

  pub here-below : (b : At) → b.pc < a.pc → b.moved ≡ a.moved → b.state.position ≡ a.state.position → IsBelow b
  here-below b = below-here t.width t.length (direction_if t.backwards) a pc_in within b

  pub ended-below : (id next : ℕ) → next < a.pc → (begins : List ℕ) → IsBelow (ended id next a begins)
  ended-below id next lt [] = here-below (ended id next a []) lt refl refl
  ended-below id next lt (k ∷ ks) = here-below (ended id next a (k ∷ ks)) lt refl refl

  if-below : (x : Bool) (b c : At) → IsBelow b → IsBelow c → IsBelow (if x then b else c)
  if-below true b c one two = one
  if-below false b c one two = two

  pub split-below : (first second : ℕ) → first < a.pc → second < a.pc → IsBelow (goto (alternative t first second a) a)
  split-below first second lt lt' = by (cell t first a.moved a.state.position)
    where
      by : (x : Bool) → IsBelow (goto (if x then first else second) a)
      by true = here-below (goto first a) lt refl refl
      by false = here-below (goto second a) lt' refl refl

  pub begin-below : (greedy : Bool) (body next : ℕ) → body < a.pc → next < a.pc → IsBelow (chosen t greedy body next a)
  begin-below greedy body next lt lt' =
      if-below (iterates t greedy body next a) (enter body a) (goto next a) (below-enter t.width t.length (direction_if t.backwards) a pc_in within body lt)
      (here-below (goto next a) lt' refl refl)

  pub repeat-below : (greedy : Bool) (body next : ℕ) → body < t.width → next < a.pc → a.moved ≡ true → IsBelow (chosen t greedy body next a)
  repeat-below greedy body next lt lt' m =
      if-below (iterates t greedy body next a) (enter body a) (goto next a) (below-again t.width t.length (direction_if t.backwards) a pc_in within body lt m)
      (here-below (goto next a) lt' refl refl)

  pub part-below : (setting : Setting) (bytes : List ℕ) (d : Direction) (p : Tree) (next : ℕ) (to : Option ℕ) (goes : Bool) (b : At) → next < a.pc →
      t.length ≡ length bytes → direction_if t.backwards ≡ d → ((s : MatchState) → s.position ≡ a.state.position → steps setting bytes d p s ≡ put s to) →
      Reaches next a b goes to → goes ≡ true → IsBelow b
  part-below setting bytes d p next None goes b lt len dir ends is goes-on = let bad : true ≡ false = sym goes-on ∙ is in cc
  part-below setting bytes d p next (Some q) goes b lt len dir ends is goes-on =
      let reached = reached-one bytes d (steps setting bytes d p) a.state.position q (Stays-tree setting bytes d p) (omega (arith, within, len)) ends in
      subst IsBelow (sym is.1)
      (below-reach t.width t.length (direction_if t.backwards) a pc_in within next _ lt (omega (arith, reached.0, len))
      (subst (λ e. IsOnward e a.state.position q) (sym dir) reached.1))

-- a walker that has passed a lookaround
pub record Passed (ranges : List GroupRange) (negate : Bool) (j next : ℕ) (w v : Walker) : Type 0 where
  pub pc : v.pc ≡ next
  pub moved : v.moved ≡ w.moved
  pub position : v.position ≡ w.position
  pub begins : v.begins.items ≡ w.begins.items
  pub slots : SetInside (changed_by ranges (look negate j next)) j w.position w.slots.items v.slots.items

-- the groups that a lookaround changes, by those of the program's routines
pub look_range : (code : Code) (range : GroupRange) (negate : Bool) (j next : ℕ) (known : List GroupRange) → known ≡ code.program.ranges.items →
    ((n : ℕ) → range ≡ changed_by known (look negate j n)) → range ≡ changed_by (ranges_of (code_routines code)) (look negate j next)
look_range code range negate j next known same is = is next ∙ ap (λ rs. changed_by rs (look negate j next)) (same ∙ code.program.ranged)

-- A state that stays where it is has not advanced.
still : (moved : Bool) (k : ℕ) → (moved || not (k == k)) ≡ moved
still moved k = grind arith

-- the same place, part by part
at-same : (a b : At) → a.pc ≡ b.pc → a.moved ≡ b.moved → a.state.position ≡ b.state.position → a.state.captures ≡ b.state.captures →
    a.begins ≡ b.begins → a ≡ b
at-same a b pc moved position captures begins =
    ap (λ x. record { pc = x; moved = a.moved; state = a.state; begins = a.begins }) pc
    ∙ ap (λ x. record { pc = b.pc; moved = x; state = a.state; begins = a.begins }) moved
    ∙ ap (λ x. record { pc = b.pc; moved = b.moved; state = record { position = x; captures = a.state.captures }; begins = a.begins }) position
    ∙ ap (λ x. record { pc = b.pc; moved = b.moved; state = record { position = b.state.position; captures = x }; begins = a.begins }) captures
    ∙ ap (λ x. record { pc = b.pc; moved = b.moved; state = b.state; begins = x }) begins

has-none : (xs : List MatchState) → has_outcome xs ≡ false → xs ≡ []
has-none [] is = refl
has-none (x ∷ xs) is = cc

module _ (out : Out) where
  pub lead-one : (states : List MatchState) (b : At) → states ≡ out b → has_outcome states ≡ true → Leads states out b
  lead-one states b is some = record { rest = []; first = is ∙ sym (append-nil (out b)); some = ap has_outcome (sym is) ∙ some }

  lead-or : (states : List MatchState) (b c : At) (x : Bool) → states ≡ out b ++ out c → has_outcome (out b) ≡ x → has_outcome states ≡ true →
      Leads states out (if x then b else c)
  lead-or states b c true is here some = record { rest = out c; first = is; some = here }
  lead-or states b c false is here some = lead-one states c (is ∙ ap (λ xs. xs ++ out c) (has-none (out b) here)) some

  pub part-leads : (states : List MatchState) (next : ℕ) (to : Option ℕ) (goes : Bool) (a b : At) → states ≡ flat_map (λ s. out (reach next a s)) (put a.state to) →
      Reaches next a b goes to → has_outcome states ≡ true → (goes ≡ true) × Leads states out b
  part-leads states next None goes a b is reaches some = let bad : false ≡ true = sym (ap has_outcome is) ∙ some in cc
  part-leads states next (Some q) goes a b is reaches some =
      (reaches.0, subst (Leads states out) (sym reaches.1) (lead-one states _ (is ∙ append-nil _) some))

  -- On from a lookaround that holds: it stays where it is, and if it is not negated, it sets the captures of the first
  -- outcome of its body.
  look-leads : (negate : Bool) (next : ℕ) (a b : At) (found : List MatchState) → b.pc ≡ next → b.moved ≡ a.moved → b.state.position ≡ a.state.position →
      b.begins ≡ a.begins → (negate ≡ true → b.state.captures ≡ a.state.captures) →
      (negate ≡ false → (o : MatchState) (later : List MatchState) → found ≡ o ∷ later → o.captures ≡ b.state.captures) →
      has_outcome (flat_map (λ s. out (reach next a s)) (looked negate a.state found)) ≡ true →
      Leads (flat_map (λ s. out (reach next a s)) (looked negate a.state found)) out b
  look-leads negate next a b found pc moved position begins keeps sets some = by negate found keeps sets some
    where
      goes : (captures : Captures) → captures ≡ b.state.captures → out (reach next a (record { position = a.state.position; captures = captures })) ≡ out b
      goes captures same =
          ap out
          (at-same (reach next a (record { position = a.state.position; captures = captures })) b (sym pc)
          (still a.moved a.state.position ∙ sym moved) (sym position) same (sym begins))

      by : (n : Bool) (states : List MatchState) → (n ≡ true → b.state.captures ≡ a.state.captures) →
          (n ≡ false → (o : MatchState) (later : List MatchState) → states ≡ o ∷ later → o.captures ≡ b.state.captures) →
          has_outcome (flat_map (λ s. out (reach next a s)) (looked n a.state states)) ≡ true →
          Leads (flat_map (λ s. out (reach next a s)) (looked n a.state states)) out b
      by true [] keep set some' = lead-one _ b (append-nil _ ∙ goes a.state.captures (sym (keep refl))) some'
      by true (s ∷ ss) keep set some' = cc
      by false [] keep set some' = cc
      by false (s ∷ ss) keep set some' = lead-one _ b (append-nil _ ∙ goes s.captures (set refl s ss refl)) some'

  module _ (setting : Setting) (bytes : List ℕ) (program : List Routine) (outs : ℕ → Out) (is_program : IsProgram program)
      (none : has_no_back_reference program ≡ true) (solution : IsSolution setting bytes program outs) where
    -- The captures that the body of a lookaround sets from where its groups are unset.
    look-captures : (j : ℕ) (r : Routine) (before after : List Slot) (position : ℕ) → slice_get program j ≡ Some r → position ≤ length bytes →
        AreUnset (slice_index_or (ranges_of program) j ranges.no_groups) (resolved (capture_in setting bytes program outs (length before)) before) →
        SetInside (slice_index_or (ranges_of program) j ranges.no_groups) j position before after → (o : MatchState) (later : List MatchState) →
        matcher_of setting bytes program outs j (record { position = position; captures = resolved (capture_in setting bytes program outs (length before)) before })
        ≡ o ∷ later →
        o.captures ≡ resolved (capture_in setting bytes program outs (length before)) after
    look-captures j r before after position is within unset set o later first =
        let capture_of = capture_in setting bytes program outs (length before) in
        let s : MatchState = record { position = position; captures = resolved capture_of before } in
        resolved-replaced capture_of (slice_index_or (ranges_of program) j ranges.no_groups)
        (captures_from setting bytes program outs (length s.captures) j position) j position before after o.captures
        (isolated setting bytes program is_program none outs solution j r is s within unset o later first) set
        (λ id. ap (λ n. capture_at (captures_from setting bytes program outs n j position) id) (length-resolved capture_of before))

    -- A walk goes on after a lookaround that holds.
    pub look-goes : (d : Direction) (n : ℕ) (negate : Bool) (j next : ℕ) (w v : Walker) → j < length (take n program) → w.position ≤ length bytes →
        (negate ≡ false → AreUnset (slice_index_or (ranges_of program) j ranges.no_groups)
        (resolved (capture_in setting bytes program outs (length w.slots.items)) w.slots.items)) → Passed (ranges_of program) negate j next w v →
        has_outcome
        (outcomes_by setting bytes d (matcher_of setting bytes program outs) out (look negate j next)
        (at_of (capture_in setting bytes program outs (length w.slots.items)) w))
        ≡ true →
        Leads
        (outcomes_by setting bytes d (matcher_of setting bytes program outs) out (look negate j next)
        (at_of (capture_in setting bytes program outs (length w.slots.items)) w))
        out (at_of (capture_in setting bytes program outs (length w.slots.items)) v)
    unfolding lookaround_matcher
    look-goes d n negate j next w v earlier within unset passed some =
        let capture_of = capture_in setting bytes program outs (length w.slots.items) in
        elim ((slice_get_cases program j).1) [
          | inl found ↦
              look-leads negate next (at_of capture_of w) (at_of capture_of v) (matcher_of setting bytes program outs j (at_of capture_of w).state) passed.pc
              passed.moved passed.position (ap reverse passed.begins)
              (λ is. resolved-same capture_of w.slots.items v.slots.items
              (subst (λ b. SetInside (changed_by (ranges_of program) (look b j next)) j w.position w.slots.items v.slots.items) is passed.slots))
              (λ is. look-captures j found.0 w.slots.items v.slots.items w.position found.2 within (unset is)
              (subst (λ b. SetInside (changed_by (ranges_of program) (look b j next)) j w.position w.slots.items v.slots.items) is passed.slots))
              some
          | inr past ↦ absurd (omega (arith, past.0, earlier, length-take n program))
        ]

module _ (out : Out) (t : Table) (full : IsFull t) (right : IsRight out t) (a : At) (pc_in : a.pc < t.width) (within : a.state.position ≤ t.length) where
  tells : (b : At) → b.pc < t.width → b.state.position ≤ t.length → has_outcome (out b) ≡ cell t b.pc b.moved b.state.position
  tells b lt le = full_tells out t b.pc b.moved b.state.position full right lt le b refl refl refl

  pub split-leads : (states : List MatchState) (first second : ℕ) → first < t.width → states ≡ out (goto first a) ++ out (goto second a) →
      has_outcome states ≡ true → Leads states out (goto (alternative t first second a) a)
  split-leads states first second lt is some =
      subst (Leads states out) (same (cell t first a.moved a.state.position))
      (lead-or out states (goto first a) (goto second a) (cell t first a.moved a.state.position) is (tells (goto first a) lt within) some)
    where
      same : (x : Bool) → (if x then goto first a else goto second a) ≡ goto (if x then first else second) a
      same true = refl
      same false = refl

  pub either-leads : (states : List MatchState) (greedy : Bool) (body next : ℕ) → body < t.width → next < t.width →
      states ≡ either out greedy (enter body a) (goto next a) → has_outcome states ≡ true → Leads states out (chosen t greedy body next a)
  either-leads states true body next lt lt' is some =
      lead-or out states (enter body a) (goto next a) (cell t body false a.state.position) is (tells (enter body a) lt within) some
  either-leads states false body next lt lt' is some =
      subst (Leads states out) (same (cell t next a.moved a.state.position))
      (lead-or out states (goto next a) (enter body a) (cell t next a.moved a.state.position) is (tells (goto next a) lt' within) some)
    where
      same : (x : Bool) → (if x then goto next a else enter body a) ≡ (if not x then enter body a else goto next a)
      same true = refl
      same false = refl

-- a walk that goes on
pub Leads-trans : (out : Out) (first states : List MatchState) (a b : At) → Leads first out a → out a ≡ states → Leads states out b → Leads first out b
Leads-trans out first states a b one is two = record {
  rest = two.rest ++ one.rest;
  first = one.first ∙ ap (λ xs. xs ++ one.rest) (is ∙ two.first) ∙ append_assoc (out b) two.rest one.rest;
  some = two.some;
}

pub accepts-only : (tests : List Test) (i : Instruction) → op_in tests i ≡ accept → i ≡ insts.Accept
accepts-only tests insts.Accept is = refl
accepts-only tests insts.Fail is = cc
accepts-only tests (insts.Leaf leaf next) is = by (slice_get tests leaf) is
  where
    by : (o : Option Test) → part_of o next ≡ accept → insts.Leaf leaf next ≡ insts.Accept
    by None is = cc
    by (Some t) is = cc
accepts-only tests (insts.Characters leaf count next) is = by (slice_get tests leaf) is
  where
    by : (o : Option Test) → characters_of o count next ≡ accept → insts.Characters leaf count next ≡ insts.Accept
    by None is = cc
    by (Some t) is = cc
accepts-only tests (insts.Split first second) is = cc
accepts-only tests (insts.BeginLoop greedy body next) is = cc
accepts-only tests (insts.Repeat greedy body next) is = cc
accepts-only tests (insts.EndLoop next) is = cc
accepts-only tests (insts.Unset start end next) is = cc
accepts-only tests (insts.BeginGroup next) is = cc
accepts-only tests (insts.EndGroup id next) is = cc
accepts-only tests (insts.Look negate routine next) is = cc

-- the outcomes at an instruction of a routine
pub solved-by : (setting : Setting) (bytes : List ℕ) (program : List Routine) (outs : ℕ → Out) (i : ℕ) (r : Routine) (op : Op) (d : Direction) (a : At) →
    IsSolution setting bytes program outs → slice_get program i ≡ Some r → slice_get r.ops a.pc ≡ Some op → a.pc < length r.ops →
    r.direction ≡ d → a.state.position ≤ length bytes → outs i a ≡ outcomes_by setting bytes d (matcher_of setting bytes program outs) (outs i) op a
solved-by setting bytes program outs i r op d a solution is_r is_op lt is_d within =
    solution i r is_r a (omega arith) lt within
    ∙ ap₂ (λ x o. outcomes_at setting bytes x (matcher_of setting bytes program outs) (outs i) o a) is_d is_op

pub can_walk : (input : Input) (r : Routine) (t : Table) (op : Op) (a : At) →
    has_no_back_reference (code_routines input.code.now) ≡ true → CanFill input r t → a.pc < t.width →
    a.state.position ≤ t.length → slice_get r.ops a.pc ≡ Some op → CanWalk input t op a
can_walk input r t op a none can pc_in within is = record {
  pc = pc_in;
  position = within;
  fits = subst (λ w. Fits (take (length input.tables.now) (code_routines input.code.now)) w a.pc op) (sym can.of.width)
      ((input.code.now.program.is_program _ r can.is).fit a.pc op (omega arith) (omega (arith, pc_in, can.of.width)) is);
  no_reference = no_reference-at (code_routines input.code.now) _ r a.pc op none can.is is;
  length = can.of.text;
  backwards = can.backwards;
}

-- a walk begins at the entry of its routine, with every group unset
pub walk-begins : (setting : Setting) (bytes : List ℕ) (program : List Routine) (outs : ℕ → Out) (i n p : ℕ) (r : Routine) (w : Walker)
    (capture_of : (routine position id : ℕ) → Option CaptureSpan) → slice_get program i ≡ Some r → w.pc ≡ r.entry → w.moved ≡ true → w.position ≡ p →
    w.slots.items ≡ replicate n slots.Unset → w.begins.items ≡ [] → matcher_of setting bytes program outs i (initial_state n p) ≡ outs i (at_of capture_of w)
walk-begins setting bytes program outs i n p r w capture_of is pc moved position unset begins =
    ap (λ o. outs i (start setting bytes o (initial_state n p))) is
    ∙ ap (outs i)
    (at-same (start setting bytes (Some r) (initial_state n p)) (at_of capture_of w) (sym pc) (sym moved) (sym position)
    (sym (resolved-none capture_of n) ∙ ap (resolved capture_of) (sym unset)) (ap reverse (sym begins)))

-- A position whose bit is not set has no outcome.
pub entry-none : (setting : Setting) (bytes : List ℕ) (program : List Routine) (outs : ℕ → Out) (i n p : ℕ) (r : Routine) (t : Table) →
    slice_get program i ≡ Some r → IsRight (outs i) t → IsFull t → r.entry < t.width → p ≤ t.length → cell t r.entry true p ≡ false →
    matcher_of setting bytes program outs i (initial_state n p) ≡ []
entry-none setting bytes program outs i n p r t is right full lt le none =
    has-none (matcher_of setting bytes program outs i (initial_state n p))
    (ap (λ o. has_outcome (outs i (start setting bytes o (initial_state n p)))) is
    ∙ full_tells (outs i) t r.entry true p full right lt le (start setting bytes (Some r) (initial_state n p)) refl refl refl ∙ none)

-- one more position without an outcome
pub none-more : (text : List ℕ) (at : ℕ → List MatchState) (origin start' : ℕ) → NoneBefore text at origin start' →
    (IsCharBoundary text start' → at start' ≡ []) → NoneBefore text at origin (start' + 1)
none-more text at origin start' none here p low high on =
    elim (cases_eq p start') [
      | inl same ↦ ap at same ∙ here (subst (IsCharBoundary text) same on)
      | inr other ↦ none p low (omega (arith, high, other)) on
    ]
