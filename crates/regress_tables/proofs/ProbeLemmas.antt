-- Two positions at which the instructions lead to the same have equal rows.
use Rattle.std.proofs.Common.{zero, suc, ◌≡◌, ◌≢◌, ℕ, ◌≤◌, ◌<◌, ◌==◌, Bool, true, false, not, ◌&&◌, ◌||◌, List, [], length, slice_get, get_or, Option, Some, None, refl, sym, ap, ◌∙◌, subst, inl, inr, arith, if◌then◌else◌}
use Rattle.std.proofs.Math.Bool.{beq}
use Rattle.std.proofs.lemmas.Bool.{cases_eq}
use Rattle.std.proofs.lemmas.Option.{slice_get-get_or}
use Rattle.regress_tree.specs.Matching.{steps}
use Rattle.regress_tree.specs.Reading.{Direction, direction_if}
use Rattle.regress_tree.specs.Steps.{MatchState, Matcher, Setting}
use Rattle.regress_tree.specs.Tree.{Tree}
use Rattle.regress_leaves.specs.Leaves.{put}
use Rattle.regress_program.specs.Below.{column}
use Rattle.regress_program.specs.Program.{Op, Out, Routine, At, accept, fail, part, split, begin_loop, repeat, end_loop, unsets, begin_group, end_group, look, outcomes_by, matcher_of, IsSolution}
use Rattle.regress_program.specs.Shape.{AllFit, Fits}
use Rattle.regress_program.specs.Stays.{IsOnward}
use Rattle.regress_program.proofs.lemmas.Onward.{Stays-tree, reached-one}
use Rattle.regress_program.proofs.lemmas.Places.{place-row, row-onward}
use Rattle.regress_tables.specs.declared.probe.Probe.{Probe}
use Rattle.regress_tables.specs.declared.probe.Probe.TheVariants as probes
use Rattle.regress_tables.specs.declared.table.Table.{Table}
use Rattle.regress_tables.specs.Probes.{IsProbe, Leads, jumps_if, landing, probe_bit, stays_if}
use Rattle.regress_tables.specs.Table.{has_outcome, IsRight, Tells, TellsOf, cell, evaluated, index}
use Rattle.regress_tables.proofs.FillLemmas.{evaluated_tells}
use Rattle.regress_tables.proofs.TellsLemmas.{split_tells, either_tells, advanced_tells, none_tells, one_tells, looked_tells, group_tells}

-- the bit of an instruction, by the bits of its row and what it leads to
abbrev pub combined : (b : ℕ → Bool → Bool) → Probe → (moved : Bool) → Op → Bool
combined b p moved accept = true
combined b p moved fail = false
combined b p moved (part t next) = probe_bit p (b next moved)
combined b p moved (split first second) = b first moved || b second moved
combined b p moved (begin_loop greedy body next) = b body false || b next moved
combined b p moved (repeat greedy body next) = moved && (b body false || b next true)
combined b p moved (end_loop next) = moved && b next true
combined b p moved (unsets start end next) = b next moved
combined b p moved (begin_group next) = b next moved
combined b p moved (end_group id next) = b next moved
combined b p moved (look negate routine next) = probe_bit p (b next moved)

column-earlier : (w pc pc' : ℕ) (moved : Bool) → pc' < pc → column w moved pc' < column w moved pc
column-earlier w pc pc' true lt = omega (arith, lt)
column-earlier w pc pc' false lt = omega (arith, lt)

column-enters : (w pc pc' : ℕ) (moved : Bool) → pc' < pc → column w false pc' < column w moved pc
column-enters w pc pc' true lt = omega (arith, lt)
column-enters w pc pc' false lt = omega (arith, lt)

column-begins : (w pc pc' : ℕ) (moved : Bool) → pc' < w → moved ≡ true → column w false pc' < column w moved pc
column-begins w pc pc' true lt is = omega (arith, lt)
column-begins w pc pc' false lt is = cc

column-on : (w pc pc' : ℕ) (moved : Bool) → pc' < pc → moved ≡ true → column w true pc' < column w moved pc
column-on w pc pc' true lt is = omega (arith, lt)
column-on w pc pc' false lt is = cc

module _ (setting : Setting) (bytes : List ℕ) (d : Direction) (body_of : ℕ → Matcher) (out : Out) (earlier : List Routine) (w pc : ℕ) (moved : Bool)
    (x : ℕ) (b : ℕ → Bool → Bool) (p : Probe) (in_w : pc < w)
    (below : (pc' : ℕ) (m : Bool) → pc' < w → column w m pc' < column w moved pc → Tells out pc' m x (b pc' m)) where
  same : (k : ℕ) → k < pc → Tells out k moved x (b k moved)
  same k lt = below k moved (omega (arith, lt, in_w)) (column-earlier w pc k moved lt)

  enters : (k : ℕ) → k < pc → Tells out k false x (b k false)
  enters k lt = below k false (omega (arith, lt, in_w)) (column-enters w pc k moved lt)

  begins : (k : ℕ) → k < w → moved ≡ true → Tells out k false x (b k false)
  begins k lt is = below k false lt (column-begins w pc k moved lt is)

  on : (k : ℕ) → k < pc → moved ≡ true → Tells out k true x (b k true)
  on k lt is = below k true (omega (arith, lt, in_w)) (column-on w pc k moved lt is)

  pub combined_tells : (op : Op) → Fits earlier w pc op → IsProbe setting bytes d body_of out op x p →
      TellsOf (outcomes_by setting bytes d body_of out op) moved x (combined b p moved op)
  combined_tells accept fits is = λ a m e. refl
  combined_tells fail fits is = λ a m e. refl
  combined_tells (part t next) fits is = is moved (b next moved) (same next fits.1)
  combined_tells (split first second) fits is = split_tells out moved x first second _ _ (same first fits.0) (same second fits.1)
  combined_tells (begin_loop greedy body next) fits is = either_tells out moved x greedy body next _ _ (enters body fits.0) (same next fits.1)
  combined_tells (repeat greedy body next) fits is =
      advanced_tells out moved x _ _ (λ m-is. either_tells out true x greedy body next _ _ (begins body fits.0 m-is) (on next fits.1 m-is))
  combined_tells (end_loop next) fits is = advanced_tells out moved x _ _ (λ m-is a m e. on next fits m-is (record a { pc = next }) refl m e)
  combined_tells (unsets start end next) fits is = λ a m e. same next fits _ refl m e
  combined_tells (begin_group next) fits is = λ a m e. same next fits _ refl m e
  combined_tells (end_group id next) fits is = group_tells out moved x id next _ (same next fits)
  combined_tells (look negate routine next) fits is = is moved (b next moved) (same next fits.1)

-- ---- equal rows

module _ (setting : Setting) (bytes : List ℕ) (program : List Routine) (outs : ℕ → Out) (i : ℕ) (r : Routine) (d : Direction) (earlier : List Routine)
    (solution : IsSolution setting bytes program outs) (is_r : slice_get program i ≡ Some r) (is_d : r.direction ≡ d)
    (fit : AllFit earlier r.ops 0 (length r.ops)) (x y : ℕ) (in_x : x ≤ length bytes) (in_y : y ≤ length bytes) (b : ℕ → Bool → Bool)
    (all : (pc : ℕ) (moved : Bool) → pc < length r.ops → Tells (outs i) pc moved y (b pc moved))
    (looks : (pc : ℕ) (op : Op) → slice_get r.ops pc ≡ Some op → (p : Probe)
    × IsProbe setting bytes d (matcher_of setting bytes program outs) (outs i) op y p
    × IsProbe setting bytes d (matcher_of setting bytes program outs) (outs i) op x p) where
  -- the bits up to a column
  upto : (k : ℕ) (pc : ℕ) (moved : Bool) → pc < length r.ops → column (length r.ops) moved pc < k → Tells (outs i) pc moved x (b pc moved)
  upto zero pc moved lt before = absurd (omega (arith, before))
  upto (suc k) pc moved lt before =
      let op = get_or r.ops pc fail in
      let is_op : slice_get r.ops pc ≡ Some op = slice_get-get_or r.ops pc fail lt in
      let both = looks pc op is_op in
      let fits = fit pc op (omega arith) lt is_op in
      let body_of = matcher_of setting bytes program outs in
      let there : Tells (outs i) pc moved y (combined b both.0 moved op) =
      evaluated_tells setting bytes program outs i r op d pc moved y _ solution is_r is_op lt is_d in_y
      (combined_tells setting bytes d body_of (outs i) earlier (length r.ops) pc moved y b both.0 lt (λ pc' m lt' c. all pc' m lt') op fits both.1) in
      let here : Tells (outs i) pc moved x (combined b both.0 moved op) =
      evaluated_tells setting bytes program outs i r op d pc moved x _ solution is_r is_op lt is_d in_x
      (combined_tells setting bytes d body_of (outs i) earlier (length r.ops) pc moved x b both.0 lt
      (λ pc' m lt' c. upto k pc' m lt' (omega (arith, c, before))) op fits both.2) in
      let a : At = record { pc = pc; moved = moved; state = record { position = y; captures = [] }; begins = [] } in
      let bit : combined b both.0 moved op ≡ b pc moved = sym (there a refl refl refl) ∙ all pc moved lt a refl refl refl in
      λ a' e m q. here a' e m q ∙ bit

  pub equal_rows : (pc : ℕ) (moved : Bool) → pc < length r.ops → Tells (outs i) pc moved x (b pc moved)
  equal_rows pc moved lt = upto (suc (column (length r.ops) moved pc)) pc moved lt (omega arith)

-- ---- what parts and lookarounds lead to

module _ (setting : Setting) (bytes : List ℕ) (d : Direction) (body_of : ℕ → Matcher) (out : Out) where
  or_true : (b : Bool) → (b || true) ≡ true
  or_true true = refl
  or_true false = refl

  or_false : (b : Bool) → (b || false) ≡ b
  or_false true = refl
  or_false false = refl

  -- a part that fails, one that ends at the same position, and one that ends at another
  pub part_fails : (t : Tree) (next position : ℕ) → ((s : MatchState) → s.position ≡ position → steps setting bytes d t s ≡ []) →
      Leads setting bytes d body_of out (part t next) next position probes.Fails
  part_fails t next position none moved b tells = none_tells out moved position next (steps setting bytes d t) none

  pub part_stays : (t : Tree) (next position q : ℕ) → q ≡ position → ((s : MatchState) → s.position ≡ position → steps setting bytes d t s ≡ put s (Some q)) →
      Leads setting bytes d body_of out (part t next) next position probes.Stays
  part_stays t next position q is goes moved b tells =
      one_tells out moved position next (steps setting bytes d t) q b goes
      (λ a e m p. tells a e (m ∙ ap (λ v. moved || not v) (let h : (q == position) ≡ true = grind (arith, is) in h) ∙ or_false moved) (p ∙ is))

  pub part_jumps : (t : Tree) (next position q : ℕ) (bit : Bool) → q ≢ position → Tells out next true q bit →
      ((s : MatchState) → s.position ≡ position → steps setting bytes d t s ≡ put s (Some q)) →
      Leads setting bytes d body_of out (part t next) next position (jumps_if bit)
  part_jumps t next position q bit other there goes moved b tells =
      subst (TellsOf (outcomes_by setting bytes d body_of out (part t next)) moved position) (by bit)
      (one_tells out moved position next (steps setting bytes d t) q bit goes
      (λ a e m p. there a e (m ∙ ap (λ v. moved || not v) (let h : (q == position) ≡ false = grind (arith, other) in h) ∙ or_true moved) p))
    where
      by : (x : Bool) → x ≡ probe_bit (jumps_if x) b
      by true = refl
      by false = refl

  -- a lookaround
  pub look_leads : (negate : Bool) (routine next position : ℕ) (found : Bool) →
      ((s : MatchState) → s.position ≡ position → has_outcome (body_of routine s) ≡ found) →
      Leads setting bytes d body_of out (look negate routine next) next position (stays_if (not (beq found negate)))
  look_leads negate routine next position found body moved b tells =
      subst (TellsOf (outcomes_by setting bytes d body_of out (look negate routine next)) moved position) (by (not (beq found negate)))
      (looked_tells out moved position negate next (body_of routine) found b body tells)
    where
      by : (x : Bool) → (x && b) ≡ probe_bit (stays_if x) b
      by true = refl
      by false = refl

  -- a part, by where it ends
  pub part_lands : (table : Table) → IsRight out table → (pc position : ℕ) → index table 0 false position ≡ length (evaluated table) → pc < table.width →
      position ≤ table.length → (t : Tree) (next : ℕ) (to : Option ℕ) → table.length ≡ length bytes → direction_if table.backwards ≡ d → next < pc →
      ((s : MatchState) → s.position ≡ position → steps setting bytes d t s ≡ put s to) →
      Leads setting bytes d body_of out (part t next) next position (landing table next position to)
  part_lands table right pc position at in_w within t next None len dir lt goes = part_fails t next position goes
  part_lands table right pc position at in_w within t next (Some q) len dir lt goes = elim (cases_eq q position) [
    | inl is ↦
        subst (λ (b : Bool). Leads setting bytes d body_of out (part t next) next position (if b then probes.Stays else jumps_if (cell table next true q)))
        (let h : true ≡ (q == position) = grind (arith, is) in h) (part_stays t next position q is goes)
    | inr other ↦
        let reached = reached-one bytes d (steps setting bytes d t) position q (Stays-tree setting bytes d t) (omega (arith, within, len)) goes in
        let on : IsOnward (direction_if table.backwards) position q = subst (λ e. IsOnward e position q) (sym dir) reached.1 in
        let in_text : q ≤ table.length = omega (arith, len, reached.0) in
        let before = row-onward table.width table.length (direction_if table.backwards) position q within in_text other on in
        let lower : index table next true q < length (evaluated table) =
        omega (arith, at, place-row table.width table.length (direction_if table.backwards) 0 next false true position q (omega (arith, lt, in_w)) before) in
        subst (λ (b : Bool). Leads setting bytes d body_of out (part t next) next position (if b then probes.Stays else jumps_if (cell table next true q)))
        (let h : false ≡ (q == position) = grind (arith, other) in h)
        (part_jumps t next position q (cell table next true q) other (right.tells next true q (omega (arith, lt, in_w)) in_text lower) goes)
  ]
