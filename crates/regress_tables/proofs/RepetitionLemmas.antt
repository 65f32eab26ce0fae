-- What instructions lead to that match an exact number of characters.
use Rattle.std.proofs.Common.{zero, suc, ◌≡◌, ℕ, ◌+◌, ◌-◌, ◌*◌, ◌≤◌, ◌<◌, Bool, true, List, [], ◌∷◌, ◌++◌, length, drop, slice_get, slice_index_or, Option, Some, None, IfSome, refl, sym, ap, ap₂, ◌∙◌, subst, arith, length-append}
use Rattle.std.proofs.lemmas.List.{drop_more}
use Rattle.std.proofs.lemmas.Option.{get_or_from_slice_get, same_Some}
use Rattle.regress_leaves.specs.Leaves.{GoesTo}
use Rattle.regress_leaves.specs.Subject.{Subject}
use Rattle.regress_leaves.specs.declared.test.Test.{Test}
use Rattle.regress_tree.specs.Steps.{Matcher}
use Rattle.regress_tree.specs.Tree.{Tree}
use Rattle.regress_program.specs.Program.{Op, Out, part}
use Rattle.regress_tables.specs.declared.probe.Probe.{Probe}
use Rattle.regress_tables.specs.declared.repetitions.Repeated.{Repeated}
use Rattle.regress_tables.specs.declared.repetitions.Repetitions.{Repetitions}
use Rattle.regress_tables.specs.declared.table.Table.{Table}
use Rattle.regress_tables.specs.Bits.{bits_of}
use Rattle.regress_tables.specs.Probes.{Coded, IsProbe, Leads, digit, jumps_if}
use Rattle.regress_tables.specs.Repetitions.{AreEnds, AreRepetitions, AreStored, EndsIn, IsCode, IsCoded, IsRowFrom, IsStored, SameRepetitions, code_by, others_in, probe_by, repetition_tree}
use Rattle.regress_tables.specs.Rows.{row_bit}
use Rattle.regress_tables.specs.Table.{IsRight, SameShape}
use Rattle.regress_tables.proofs.MemoLemmas.{represented-at, row_bit-more}
use Rattle.regress_tables.proofs.ProbeLemmas.{part_fails, part_jumps}

module _ (u : Subject) (body_of : ℕ → Matcher) (out : Out) (table : Table) (right : IsRight out table) where
  -- A tree leads to what the row tells where it ends.
  row-leads : (t : Tree) (next position row : ℕ) (to : Option ℕ) → next < table.width → GoesTo u position t to → IsRowFrom table position to row →
      Leads u.setting u.bytes u.direction body_of out (part t next) next position (probe_by table next row)
  row-leads t next position row None lt goes is =
      subst (λ k. Leads u.setting u.bytes u.direction body_of out (part t next) next position (probe_by table next k)) (sym is)
      (part_fails u.setting u.bytes u.direction body_of out t next position goes)
  row-leads t next position row (Some to) lt goes is =
      let number = is.1.0 in
      subst (λ k. Leads u.setting u.bytes u.direction body_of out (part t next) next position (probe_by table next k)) (sym is.1.2)
      (part_jumps u.setting u.bytes u.direction body_of out t next position to (row_bit table number next true) is.0
      ((represented-at out table to number right is.1.1).tells next true lt) goes)

  pub repeated-probe : (leaves : List Test) (ops : List Op) (far : List ℕ) (r : Repetitions) (k pc x : ℕ) (repeated : Repeated) (op : Op) →
      table.width ≡ length ops → AreRepetitions leaves ops far r → AreEnds u leaves table x r → slice_get (drop (others_in far r) far) k ≡ Some pc →
      slice_get r.uses.items k ≡ Some repeated → slice_get ops pc ≡ Some op →
      IsProbe u.setting u.bytes u.direction body_of out op x (probe_by table repeated.next (slice_index_or r.ends.items repeated.repetition 0))
  repeated-probe leaves ops far r k pc x repeated op width are ends at uses is_op =
      let used = are.uses k pc repeated at uses in
      let end = ends repeated.repetition used.repetition used.at in
      let row = slice_index_or r.ends.items repeated.repetition 0 in
      subst (λ o. IsProbe u.setting u.bytes u.direction body_of out o x (probe_by table repeated.next row)) (same_Some _ op (sym used.matches ∙ is_op))
      (row-leads (repetition_tree leaves used.repetition) repeated.next x row end.to (omega (arith, used.next, width)) end.goes end.ends)

  -- The digits are those of what the instructions lead to.
  pub coded-by : (ops : List Op) (x : ℕ) (ends far : List ℕ) (uses : List Repeated) → length uses ≡ length far → AreStored table ends uses →
      ((k pc : ℕ) (repeated : Repeated) (op : Op) → slice_get far k ≡ Some pc → slice_get uses k ≡ Some repeated → slice_get ops pc ≡ Some op →
      IsProbe u.setting u.bytes u.direction body_of out op x (probe_by table repeated.next (slice_index_or ends repeated.repetition 0))) →
      Coded u.setting u.bytes u.direction body_of out ops far x (code_by table ends uses)
  coded-by ops x ends [] [] count stored probes = refl
  coded-by ops x ends [] (repeated ∷ uses) count stored probes = absurd (omega (arith, count))
  coded-by ops x ends (pc ∷ far) [] count stored probes = absurd (omega (arith, count))
  coded-by ops x ends (pc ∷ far) (repeated ∷ uses) count stored probes = (
    code_by table ends uses,
    probe_by table repeated.next (slice_index_or ends repeated.repetition 0),
    refl,
    λ op is. probes 0 pc repeated op refl refl is,
    coded-by ops x ends far uses (omega (arith, count)) stored.1 (λ k pc' r op at used is. probes (suc k) pc' r op at used is),
  )

-- one more digit
pub code-more : (t : Table) (ends : List ℕ) (uses : List Repeated) (k code : ℕ) (repeated : Repeated) (p : Probe) → 0 < k → k ≤ length uses →
    slice_get uses (k - 1) ≡ Some repeated → IsStored t ends repeated → p ≡ probe_by t repeated.next (slice_index_or ends repeated.repetition 0) →
    AreStored t ends (drop k uses) → code ≡ code_by t ends (drop k uses) →
    AreStored t ends (drop (k - 1) uses) × (code * 4 + digit p ≡ code_by t ends (drop (k - 1) uses))
code-more t ends uses k code repeated p some within at stored is all codes =
    let next : (k - 1) + 1 ≡ k = omega (arith, some) in
    let e : drop (k - 1) uses ≡ repeated ∷ drop k uses =
    drop_more uses (k - 1) repeated (omega (arith, some, within))
    ∙ ap₂ (λ r j. r ∷ drop j uses) (get_or_from_slice_get uses (k - 1) repeated repeated at) next in (
      subst (AreStored t ends) (sym e) (stored, all),
      ap₂ (λ rest q. rest * 4 + digit q) codes is ∙ ap (code_by t ends) (sym e),
    )

-- ---- more rows

module _ (t t' : Table) (extra : List Bool) (bits : bits_of t'.bits ≡ bits_of t.bits ++ extra) (same : SameShape t t') where
  probe-kept : (next row : ℕ) → next < t.width → row * (2 * t.width) ≤ length (bits_of t.bits) → probe_by t' next row ≡ probe_by t next row
  probe-kept next zero lt stored = refl
  probe-kept next (suc number) lt stored =
      ap jumps_if (row_bit-more t t' extra bits same number next true
      (subst (λ k. k * (2 * t.width) ≤ length (bits_of t.bits)) (let e : suc number ≡ number + 1 = omega arith in e) stored) lt)

  code-kept : (ends : List ℕ) (uses : List Repeated) → AreStored t ends uses → code_by t' ends uses ≡ code_by t ends uses
  code-kept ends [] stored = refl
  code-kept ends (repeated ∷ uses) stored =
      ap₂ (λ rest p. rest * 4 + digit p) (code-kept ends uses stored.1)
      (probe-kept repeated.next (slice_index_or ends repeated.repetition 0) stored.0.0 stored.0.1)

  stored-kept : (ends : List ℕ) (uses : List Repeated) → AreStored t ends uses → AreStored t' ends uses
  stored-kept ends [] stored = tt
  stored-kept ends (repeated ∷ uses) stored = (
    (
      omega (arith, stored.0.0, same.width),
      subst (λ w. slice_index_or ends repeated.repetition 0 * (2 * w) ≤ length (bits_of t'.bits)) (sym same.width)
          (let row = slice_index_or ends repeated.repetition 0 * (2 * t.width) in omega (arith, stored.0.1, ap length bits, length-append (bits_of t.bits) extra)),
    ),
    stored-kept ends uses stored.1,
  )

  -- The digits stay the same while rows are added.
  pub coded-kept : (r : Repetitions) → IsCoded t r → IsCoded t' r
  coded-kept r coded = by r.code coded
    where
      by : (o : Option ℕ) → IfSome o (IsCode t r) → IfSome o (IsCode t' r)
      by None is = tt
      by (Some code) is = record {
        stored = stored-kept r.ends.items r.uses.items is.stored;
        is = is.is ∙ sym (code-kept r.ends.items r.uses.items is.stored);
      }

-- ---- the same repetitions

pub ends-same : (u : Subject) (leaves : List Test) (t : Table) (x : ℕ) (r r' : Repetitions) → SameRepetitions r r' → r'.ends.items ≡ r.ends.items →
    AreEnds u leaves t x r → AreEnds u leaves t x r'
ends-same u leaves t x r r' same ends_is ends k rep is =
    subst (λ xs. EndsIn u t (repetition_tree leaves rep) x (slice_index_or xs k 0)) (sym ends_is)
    (ends k rep (ap (λ xs. slice_get xs k) (sym same.distinct) ∙ is))
