-- A row that was computed from the same is right.
use Rattle.std.proofs.Common.{zero, suc, ◌≡◌, ◌≢◌, ℕ, ◌+◌, ◌-◌, ◌*◌, ◌≤◌, ◌<◌, ◌⊎◌, Bool, true, false, List, [], ◌∷◌, ◌++◌, length, slice_get, get_or, take, drop, Option, Some, None, IfSome, refl, sym, ap, ap₂, ◌∙◌, subst, inl, inr, arith, if◌then◌else◌, length-append}
use Rattle.std.proofs.Math.ListN.{get_or-append}
use Rattle.std.proofs.lemmas.Bool.{cases_eq, cases_lt}
use Rattle.std.proofs.lemmas.List.{append-nil, drop_more, get_or_push}
use Rattle.std.proofs.Math.Seq.{take-append-add}
use Rattle.std.proofs.lemmas.Option.{none-some, same_Some, slice_get_within}
use Rattle.std.proofs.Math.Nat.{mul-le-mul_right}
use Rattle.regress_prefilter.specs.OneCharacter.{takes_one, test_of}
use Rattle.regress_prefilter.proofs.lemmas.OneCharacter.{takes_one-steps}
use Rattle.regress_tree.specs.Reading.{Direction, Read, direction_if, next_character, of_bytes}
use Rattle.regress_tree.specs.Steps.{Matcher, Setting}
use Rattle.regress_tree.specs.Tree.{Tree}
use Rattle.regress_leaves.specs.Subject.{subject}
use Rattle.regress_leaves.proofs.lemmas.Leaves.{one_none, one_no, one_yes}
use Rattle.regress_program.specs.Below.{column, place, row_of}
use Rattle.regress_program.specs.Program.{Op, Out, Routine, accept, fail, part, split, begin_loop, repeat, end_loop, unsets, begin_group, end_group, look, matcher_of, IsSolution}
use Rattle.regress_program.specs.Shape.{Fits}
use Rattle.regress_program.proofs.lemmas.Places.{column-less, rows-less}
use Rattle.regress_code.specs.Code.{code_routines}
use Rattle.regress_tables.specs.Bits.{bits_of}
use Rattle.regress_tables.specs.Evaluated.{CanFill, IsFilled}
use Rattle.regress_tables.specs.declared.evaluate.Input.{Input}
use Rattle.regress_tables.specs.declared.memo.Key.{Key}
use Rattle.regress_tables.specs.declared.memo.Memo.{Memo}
use Rattle.regress_tables.specs.declared.probe.Probe.{Probe}
use Rattle.regress_tables.specs.declared.probe.Probe.TheVariants as probes
use Rattle.regress_tables.specs.declared.table.Table.{Table}
use Rattle.regress_tables.specs.Memo.{AreBytesOf, AreFarBytes, Covers, HasKey, IsEntry, IsKept, IsKnown, IsNear, IsSymbol, Knows, SameRows}
use Rattle.regress_tables.specs.Numbers.{numbers_of}
use Rattle.regress_tables.specs.Repetitions.{AreRepetitions, SameRepetitions}
use Rattle.regress_tables.specs.Rows.{Represents, row_bit}
use Rattle.regress_tables.specs.Probes.{CanProbe, Coded, IsProbe, Leads, digit, jumps_if}
use Rattle.regress_tables.specs.Symbols.{AreAlikeIn}
use Rattle.regress_program.specs.Tidy.{has_no_back_reference}
use Rattle.regress_program.proofs.lemmas.Instructions.{no_reference-at}
use Rattle.regress_tables.specs.Table.{IsNumberAt, AreRight, Grows, IsRight, SameShape, Tells, cell, evaluated, index, number_of, row_bits}
use Rattle.regress_tables.proofs.BitLemmas.{bits-len}
use Rattle.regress_tables.proofs.FillLemmas.{SameShape-trans, same-index, same-row}
use Rattle.regress_tables.proofs.KeptLemmas.{kept-same, repetitions-refl, repetitions-same}
use Rattle.regress_tables.proofs.ProbeLemmas.{equal_rows, part_fails, part_jumps}
use Rattle.regress_tables.proofs.RowLemmas.{all-numbered, cell-number, length-evaluated, length-row, next-row, row-stored}

-- ---- digits

digits_apart : (a b : ℕ) (p q : Probe) → a * 4 + digit p ≡ b * 4 + digit q → (a ≡ b) × (p ≡ q)
digits_apart a b probes.Fails probes.Fails e = (omega (arith, e), refl)
digits_apart a b probes.Fails probes.Stays e = absurd (omega (arith, e))
digits_apart a b probes.Fails probes.Jumps e = absurd (omega (arith, e))
digits_apart a b probes.Stays probes.Fails e = absurd (omega (arith, e))
digits_apart a b probes.Stays probes.Stays e = (omega (arith, e), refl)
digits_apart a b probes.Stays probes.Jumps e = absurd (omega (arith, e))
digits_apart a b probes.Jumps probes.Fails e = absurd (omega (arith, e))
digits_apart a b probes.Jumps probes.Stays e = absurd (omega (arith, e))
digits_apart a b probes.Jumps probes.Jumps e = (omega (arith, e), refl)

module _ (setting : Setting) (bytes : List ℕ) (d : Direction) (body_of : ℕ → Matcher) (out : Out) where
  -- what an instruction leads to that has a digit
  coded-same : (ops : List Op) (pcs : List ℕ) (x y code code' : ℕ) → Coded setting bytes d body_of out ops pcs y code →
      Coded setting bytes d body_of out ops pcs x code' → code ≡ code' → (k pc : ℕ) (op : Op) → slice_get pcs k ≡ Some pc → slice_get ops pc ≡ Some op →
      (p : Probe) × IsProbe setting bytes d body_of out op y p × IsProbe setting bytes d body_of out op x p
  coded-same ops [] x y code code' there here e k pc op is is_op = absurd (none-some pc is)
  coded-same ops (q ∷ pcs) x y code code' there here e zero pc op is is_op =
      let apart = digits_apart there.0 here.0 there.1 here.1 (sym there.2 ∙ e ∙ here.2) in
      let at : slice_get ops q ≡ Some op = ap (slice_get ops) (same_Some q pc is) ∙ is_op in
      (here.1, subst (λ p. IsProbe setting bytes d body_of out op y p) apart.1 (there.3 op at), here.3 op at)
  coded-same ops (q ∷ pcs) x y code code' there here e (suc k) pc op is is_op =
      let apart = digits_apart there.0 here.0 there.1 here.1 (sym there.2 ∙ e ∙ here.2) in
      coded-same ops pcs x y there.0 here.0 there.4 here.4 apart.0 k pc op is is_op

  -- what an instruction leads to that matches one character, by its symbol and the row after it
  abbrev pub near_probe : (test : ℕ → Bool) (bit : Bool) (symbol : ℕ) → Probe
  near_probe test bit zero = probes.Fails
  near_probe test bit (suc c) = if test c then jumps_if bit else probes.Fails

  near_leads : (ops : List Op) (pc : ℕ) (t : Tree) (next x : ℕ) (table : Table) (from symbol : ℕ) (read : Option Read) → slice_get ops pc ≡ Some (part t next) →
      takes_one t ≡ true → next < table.width → next_character d (of_bytes bytes) x ≡ read → IsSymbol out ops table x from symbol read →
      Leads setting bytes d body_of out (part t next) next x (near_probe (test_of t) (row_bit table from next true) symbol)
  near_leads ops pc t next x table from symbol None here one lt is sym_is =
      subst (λ s. Leads setting bytes d body_of out (part t next) next x (near_probe (test_of t) (row_bit table from next true) s)) (sym sym_is)
      (part_fails setting bytes d body_of out t next x
      (λ s at. takes_one-steps setting bytes d t s one ∙ one_none d (of_bytes bytes) (test_of t) s (ap (next_character d (of_bytes bytes)) at ∙ is)))
  near_leads ops pc t next x table from zero (Some read) here one lt is sym_is = absurd (omega (arith, sym_is.0))
  near_leads ops pc t next x table from (suc c) (Some read) here one lt is sym_is =
      subst (λ (b : Bool). Leads setting bytes d body_of out (part t next) next x (if b then jumps_if (row_bit table from next true) else probes.Fails))
      (sym_is.1 pc t next here one ∙ ap (test_of t) (let e : suc c - 1 ≡ c = omega arith in e)) (by (test_of t read.character) refl)
    where
      by : (b : Bool) → test_of t read.character ≡ b →
          Leads setting bytes d body_of out (part t next) next x (if test_of t read.character then jumps_if (row_bit table from next true) else probes.Fails)
      by true tested =
          subst (λ (b : Bool). Leads setting bytes d body_of out (part t next) next x (if b then jumps_if (row_bit table from next true) else probes.Fails)) (sym tested)
          (part_jumps setting bytes d body_of out t next x read.position (row_bit table from next true) sym_is.2
          (sym_is.3.tells next true lt)
          (λ s at. takes_one-steps setting bytes d t s one
          ∙ one_yes d (of_bytes bytes) (test_of t) s read (ap (next_character d (of_bytes bytes)) at ∙ is) tested))
      by false tested =
          subst (λ (b : Bool). Leads setting bytes d body_of out (part t next) next x (if b then jumps_if (row_bit table from next true) else probes.Fails)) (sym tested)
          (part_fails setting bytes d body_of out t next x
          (λ s at. takes_one-steps setting bytes d t s one
          ∙ one_no d (of_bytes bytes) (test_of t) s read (ap (next_character d (of_bytes bytes)) at ∙ is) tested))

  near-same : (ops : List Op) (op : Op) (earlier : List Routine) (x y pc : ℕ) (table : Table) (from symbol : ℕ) → slice_get ops pc ≡ Some op → IsNear op →
      Fits earlier table.width pc op → pc < table.width → IsSymbol out ops table x from symbol (next_character d (of_bytes bytes) x) →
      IsSymbol out ops table y from symbol (next_character d (of_bytes bytes) y) →
      (p : Probe) × IsProbe setting bytes d body_of out op y p × IsProbe setting bytes d body_of out op x p
  near-same ops accept earlier x y pc table from symbol here near fits lt at_x at_y = (probes.Fails, tt, tt)
  near-same ops fail earlier x y pc table from symbol here near fits lt at_x at_y = (probes.Fails, tt, tt)
  near-same ops (part t next) earlier x y pc table from symbol here near fits lt at_x at_y = (
    near_probe (test_of t) (row_bit table from next true) symbol,
    near_leads ops pc t next y table from symbol _ here near (omega (arith, fits.1, lt)) refl at_y,
    near_leads ops pc t next x table from symbol _ here near (omega (arith, fits.1, lt)) refl at_x,
  )
  near-same ops (split first second) earlier x y pc table from symbol here near fits lt at_x at_y = (probes.Fails, tt, tt)
  near-same ops (begin_loop greedy body next) earlier x y pc table from symbol here near fits lt at_x at_y = (probes.Fails, tt, tt)
  near-same ops (repeat greedy body next) earlier x y pc table from symbol here near fits lt at_x at_y = (probes.Fails, tt, tt)
  near-same ops (end_loop next) earlier x y pc table from symbol here near fits lt at_x at_y = (probes.Fails, tt, tt)
  near-same ops (unsets start end next) earlier x y pc table from symbol here near fits lt at_x at_y = (probes.Fails, tt, tt)
  near-same ops (begin_group next) earlier x y pc table from symbol here near fits lt at_x at_y = (probes.Fails, tt, tt)
  near-same ops (end_group id next) earlier x y pc table from symbol here near fits lt at_x at_y = (probes.Fails, tt, tt)
  near-same ops (look negate routine next) earlier x y pc table from symbol here near fits lt at_x at_y = absurd near

-- A row represents each position that has the key of its own.
pub represents-same : (input : Input) (outs : ℕ → Out) (r : Routine) (t : Table) (far : List ℕ) (x y row : ℕ) (key : Key) →
    IsSolution (subject input.rules input.text.now).setting input.text.now (code_routines input.code.now) outs → CanFill input r t → Covers r.ops far →
    HasKey input outs r.ops t far y key → HasKey input outs r.ops t far x key → Represents (outs (length input.tables.now)) t row y →
    Represents (outs (length input.tables.now)) t row x
represents-same input outs r t far x y row key solution can covers there here is =
    let u = subject input.rules input.text.now in
    let program = code_routines input.code.now in
    let i = length input.tables.now in
    let body_of = matcher_of u.setting u.bytes program outs in
    record {
      stored = is.stored;
      tells = λ pc moved lt.
          equal_rows u.setting u.bytes program outs i r u.direction (take i program) solution can.is
          (sym can.of.direction ∙ ap direction_if can.backwards) (input.code.now.program.is_program i r can.is).fit x y here.inside there.inside (row_bit t row)
          (λ pc' m lt'. is.tells pc' m (omega (arith, can.of.width, lt')))
          (λ pc' op is_op.
          elim (covers pc' op is_op) [
            | inl near ↦
                let lt' : pc' < length r.ops = slice_get_within r.ops pc' op is_op in
                near-same u.setting u.bytes u.direction body_of (outs i) r.ops op (take i program) x y pc' t key.from key.symbol is_op near
                (subst (λ w. Fits (take i program) w pc' op) (sym can.of.width) ((input.code.now.program.is_program i r can.is).fit pc' op (omega arith) lt' is_op))
                (omega (arith, lt', can.of.width)) here.symbol there.symbol
            | inr listed ↦
                coded-same u.setting u.bytes u.direction body_of (outs i) r.ops far x y key.probes key.probes there.probes here.probes refl listed.0 pc' op listed.1 is_op
          ])
          pc moved (omega (arith, can.of.width, lt));
    }

-- ---- the next bytes of far instructions

abbrev pub HasFarBytes : Input → Routine → Memo → Type 0
HasFarBytes input r memo =
    AreFarBytes (subject input.rules input.text.now).setting input.text.now (subject input.rules input.text.now).direction r.ops memo.far.items memo.far_bytes

far-bytes-same : (input : Input) (r : Routine) (memo memo' : Memo) → memo'.far.items ≡ memo.far.items → memo'.far_bytes ≡ memo.far_bytes →
    HasFarBytes input r memo → HasFarBytes input r memo'
far-bytes-same input r memo memo' far_is bytes_is bytes k pc op is is_op =
    subst (AreBytesOf (subject input.rules input.text.now).setting input.text.now (subject input.rules input.text.now).direction op) (sym bytes_is)
    (bytes k pc op (ap (λ far. slice_get far k) (sym far_is) ∙ is) is_op)

-- ---- more rows

module _ (t t' : Table) (extra : List Bool) (bits : bits_of t'.bits ≡ bits_of t.bits ++ extra) (same : SameShape t t') where
  more : length (bits_of t'.bits) ≡ length (bits_of t.bits) + length extra
  more = ap length bits ∙ length-append (bits_of t.bits) extra

  pub row_bit-more : (number pc : ℕ) (moved : Bool) → (number + 1) * (2 * t.width) ≤ length (bits_of t.bits) → pc < t.width → row_bit t' number pc moved ≡ row_bit t number pc moved
  row_bit-more number pc moved stored lt =
      ap₂ (λ xs w. get_or xs (number * (2 * w) + column w moved pc) false) bits same.width
      ∙ get_or-append (bits_of t.bits) extra false _ (omega (arith, stored, column-less t.width pc moved lt))

  pub represents-more : (out : Out) (number x : ℕ) → Represents out t number x → Represents out t' number x
  represents-more out number x is = record {
    stored = subst (λ w. (number + 1) * (2 * w) ≤ length (bits_of t'.bits)) (sym same.width) (omega (arith, is.stored, more));
    tells = λ pc moved lt a e m p.
        let lt' : pc < t.width = omega (arith, lt, same.width) in
        is.tells pc moved lt' a e m p ∙ sym (row_bit-more number pc moved is.stored lt');
  }

  symbol-more : (out : Out) (ops : List Op) (x from symbol : ℕ) (read : Option Read) → IsSymbol out ops t x from symbol read → IsSymbol out ops t' x from symbol read
  symbol-more out ops x from symbol None is = is
  symbol-more out ops x from symbol (Some read) is = (is.0, is.1, is.2, represents-more out from read.position is.3)

  pub has-more : (input : Input) (outs : ℕ → Out) (ops : List Op) (far : List ℕ) (x : ℕ) (key : Key) → HasKey input outs ops t far x key → HasKey input outs ops t' far x key
  has-more input outs ops far x key has = record {
    inside = has.inside;
    symbol = symbol-more (outs (length input.tables.now)) ops x key.from key.symbol _ has.symbol;
    probes = has.probes;
  }

  pub entry-more : (input : Input) (outs : ℕ → Out) (ops : List Op) (far : List ℕ) (key : Key) (row : ℕ) → IsEntry input outs ops t far key row →
      IsEntry input outs ops t' far key row
  entry-more input outs ops far key row is = record {
    position = is.position;
    has = has-more input outs ops far is.position key is.has;
    represents = represents-more (outs (length input.tables.now)) row is.position is.represents;
  }

  -- What is known, after more bits, where the new entries have the key of a position and a row that represents it.
  pub known-next : (input : Input) (r : Routine) (memo memo' : Memo) (x : ℕ) → IsKnown input r t memo → memo'.far.items ≡ memo.far.items → memo'.far_bytes ≡ memo.far_bytes →
      memo'.symbols.tests ≡ memo.symbols.tests → SameRepetitions memo.repetitions memo'.repetitions → ((outs : ℕ → Out) → IsSolution (subject input.rules input.text.now).setting input.text.now (code_routines input.code.now) outs →
      AreRight outs input.tables.now → Knows input outs r.ops t memo → IsRight (outs (length input.tables.now)) t'
      × ((key : Key) (row : ℕ) → IsKept memo' (Some key) row → IsKept memo (Some key) row
      ⊎ (Represents (outs (length input.tables.now)) t' row x × HasKey input outs r.ops t memo.far.items x key))) →
      IsKnown input r t' memo'
  known-next input r memo memo' x known far_is bytes_is tests_is repeat_is each = record {
    covers = subst (Covers r.ops) (sym far_is) known.covers;
    bytes = far-bytes-same input r memo memo' far_is bytes_is known.bytes;
    tests = ap (λ s. s.now) tests_is ∙ known.tests;
    repetitions = repetitions-same input.code.now.program.leaves.items r.ops memo.far.items memo'.far.items memo.repetitions memo'.repetitions far_is repeat_is known.repetitions;
    knows = λ outs solution right.
        let knows = known.knows outs solution right in
        let next = each outs solution right knows in
        record {
          right = next.0;
          entries = λ key row kept. subst (λ far. IsEntry input outs r.ops t' far key row) (sym far_is) (elim (next.1 key row kept) [
            | inl old ↦ entry-more input outs r.ops memo.far.items key row (knows.entries key row old)
            | inr new ↦ record { position = x; has = has-more input outs r.ops memo.far.items x key new.1; represents = new.0 }
          ]);
        };
  }

index-row : (t : Table) (row x pc : ℕ) (moved : Bool) → row_of (direction_if t.backwards) t.length x ≡ row → index t pc moved x ≡ row * (2 * t.width) + column t.width moved pc
unfolding place
index-row t row x pc moved is = ap (λ k. k * (2 * t.width) + column t.width moved pc) is

-- A row with a number represents its position.
pub represented : (out : Out) (t : Table) (row x : ℕ) → IsRight out t → row_of (direction_if t.backwards) t.length x ≡ row → x ≤ t.length →
    row < length (numbers_of t.rows) → Represents out t (number_of t row) x
represented out t row x right is within numbered = record {
  stored = row-stored t (number_of t row) (t.numbers row (t.distinct + (row - length (numbers_of t.rows))) numbered);
  tells = λ pc moved lt a e m p.
      let rows : (row + 1) * (2 * t.width) ≤ length (numbers_of t.rows) * (2 * t.width) = mul-le-mul_right (2 * t.width) (let h : row + 1 ≤ length (numbers_of t.rows) = omega (arith, numbered) in h) in
      right.tells pc moved x lt within
      (omega (arith, index-row t row x pc moved is, column-less t.width pc moved lt, rows, length-evaluated t, t.filled, bits-len t.bits)) a e m p
      ∙ cell-number t pc moved x lt ∙ ap (λ k. row_bit t (number_of t k) pc moved) is;
}

pub represented-at : (out : Out) (t : Table) (x number : ℕ) → IsRight out t → IsNumberAt t x number → Represents out t number x
represented-at out t x number right is =
    subst (λ k. Represents out t k x) (sym is.2) (represented out t (row_of (direction_if t.backwards) t.length x) x right refl is.0 is.1)

same-row_of : (t t' : Table) (x : ℕ) → SameShape t t' → row_of (direction_if t'.backwards) t'.length x ≡ row_of (direction_if t.backwards) t.length x
same-row_of t t' x same = ap₂ (λ b n. row_of (direction_if b) n x) same.backwards same.length

cell-kept : (t t' : Table) (extra : List Bool) (pc : ℕ) (moved : Bool) (q : ℕ) → evaluated t' ≡ evaluated t ++ extra → SameShape t t' →
    index t pc moved q < length (evaluated t) → cell t' pc moved q ≡ cell t pc moved q
unfolding cell
cell-kept t t' extra pc moved q bits same lower =
    ap₂ (λ xs k. get_or xs k false) bits (same-index t t' pc moved q same) ∙ get_or-append (evaluated t) extra false _ lower

-- The table stays right where the number of a row is added that represents the next position.
right-next : (out : Out) (t t' : Table) (extra : List Bool) (row x : ℕ) → evaluated t' ≡ evaluated t ++ extra → SameShape t t' →
    row_of (direction_if t.backwards) t.length x ≡ row → x ≤ t.length → length (evaluated t) ≡ row * (2 * t.width) → length extra ≡ 2 * t.width →
    IsRight out t → Represents out t' (number_of t' row) x → IsRight out t'
right-next out t t' extra row x bits same at within before long right is = record { tells = tells }
  where
    earlier : (a b w c : ℕ) → a * w + c < (b + 1) * w → c < w → a ≢ b → a < b
    earlier a b w c lt small apart =
        elim (cases_lt b a) [
          | inl over ↦ absurd (omega (arith, lt, mul-le-mul_right w (let h : b + 1 ≤ a = omega (arith, over) in h)))
          | inr less ↦ omega (arith, less, apart)
        ]

    after : length (evaluated t') ≡ (row + 1) * (2 * t'.width)
    after =
        let sum : length (evaluated t') ≡ (row + 1) * (2 * t.width) = omega (arith, ap length bits, length-append (evaluated t) extra, before, long) in
        sum ∙ ap (λ w. (row + 1) * (2 * w)) (sym same.width)

    tells : (pc : ℕ) (moved : Bool) (q : ℕ) → pc < t'.width → q ≤ t'.length → index t' pc moved q < length (evaluated t') →
        Tells out pc moved q (cell t' pc moved q)
    tells pc moved q lt le in_bits = elim (cases_eq (row_of (direction_if t'.backwards) t'.length q) row) [
      | inl here ↦
          let q-is : q ≡ x = same-row (direction_if t'.backwards) t'.length q x le (omega (arith, within, same.length)) (here ∙ sym at ∙ sym (same-row_of t t' x same)) in
          λ a e m p. is.tells pc moved lt a e m (p ∙ q-is) ∙ sym (cell-number t' pc moved q lt ∙ ap (λ k. row_bit t' (number_of t' k) pc moved) here)
      | inr apart ↦
          let lt' : pc < t.width = omega (arith, lt, same.width) in
          let le' : q ≤ t.length = omega (arith, le, same.length) in
          let r = row_of (direction_if t'.backwards) t'.length q in
          let less : r < row = earlier r row (2 * t'.width) (column t'.width moved pc)
          (omega (arith, in_bits, after, index-row t' r q pc moved refl)) (column-less t'.width pc moved lt) apart in
          let lower : index t pc moved q < length (evaluated t) =
          omega (arith, before, index-row t r q pc moved (sym (same-row_of t t' q same)), rows-less r row (2 * t.width) (column t.width moved pc) 0 less (column-less t.width pc moved lt')) in
          λ a e m p. right.tells pc moved q lt' le' lower a e m p ∙ sym (cell-kept t t' extra pc moved q bits same lower)
    ]

-- a table with the same bits in order
right-same : (out : Out) (t t' : Table) → evaluated t' ≡ evaluated t → SameShape t t' → IsRight out t → IsRight out t'
unfolding cell
right-same out t t' bits same right = record {
  tells = λ pc moved q lt le before a e m p.
      right.tells pc moved q (omega (arith, lt, same.width)) (omega (arith, le, same.length))
      (omega (arith, before, ap length bits, same-index t t' pc moved q same)) a e m p
      ∙ sym (ap₂ (λ xs k. get_or xs k false) bits (same-index t t' pc moved q same));
}

-- Nothing is known of a table without a row.
pub known-start : (input : Input) (r : Routine) (t : Table) (memo : Memo) → evaluated t ≡ [] → Covers r.ops memo.far.items → HasFarBytes input r memo →
    memo.symbols.tests.now ≡ input.code.now.program.leaves.items → AreRepetitions input.code.now.program.leaves.items r.ops memo.far.items memo.repetitions →
    ((key : Key) (row : ℕ) → IsKept memo (Some key) row → ⊥) → IsKnown input r t memo
known-start input r t memo empty covers bytes tests repetitions none = record {
  covers = covers;
  bytes = bytes;
  tests = tests;
  repetitions = repetitions;
  knows = λ outs solution right. record {
    right = record { tells = λ pc moved q lt le before. absurd (omega (arith, before, ap length empty)) };
    entries = λ key row kept. absurd (none key row kept);
  };
}

-- what the row at a position is computed from, without and with a next character
module _ (input : Input) (outs : ℕ → Out) (ops : List Op) (t : Table) (far : List ℕ) (x : ℕ) (key : Key) (inside : x ≤ length input.text.now)
    (probes : Coded (subject input.rules input.text.now).setting input.text.now (subject input.rules input.text.now).direction
    (matcher_of (subject input.rules input.text.now).setting input.text.now (code_routines input.code.now) outs)
    (outs (length input.tables.now)) ops far x key.probes) where
  pub key-none : next_character (subject input.rules input.text.now).direction (of_bytes input.text.now) x ≡ None → key.symbol ≡ 0 → HasKey input outs ops t far x key
  key-none none symbol = record {
    inside = inside;
    symbol = subst (IsSymbol (outs (length input.tables.now)) ops t x key.from key.symbol) (sym none) symbol;
    probes = probes;
  }

  pub key-some : (read : Read) → next_character (subject input.rules input.text.now).direction (of_bytes input.text.now) x ≡ Some read →
      0 < key.symbol → AreAlikeIn ops read.character (key.symbol - 1) → read.position ≢ x → Represents (outs (length input.tables.now)) t key.from read.position →
      HasKey input outs ops t far x key
  key-some read some symbol alike apart behind = record {
    inside = inside;
    symbol = subst (IsSymbol (outs (length input.tables.now)) ops t x key.from key.symbol) (sym some) (symbol, alike, apart, behind);
    probes = probes;
  }

-- what it takes to find what an instruction leads to
pub can-probe : (input : Input) (r : Routine) (t : Table) (pc x : ℕ) (op : Op) → CanFill input r t → x ≤ t.length →
    index t 0 false x ≡ length (evaluated t) → pc < length r.ops → has_no_back_reference (code_routines input.code.now) ≡ true →
    slice_get r.ops pc ≡ Some op → CanProbe input t op x
can-probe input r t pc x op can within at lt none is = record {
  pc = pc;
  pc_in = omega (arith, can.of.width, lt);
  position_in = within;
  at = at;
  fits = subst (λ w. Fits (take (length input.tables.now) (code_routines input.code.now)) w pc op) (sym can.of.width)
      ((input.code.now.program.is_program _ r can.is).fit pc op (omega arith) lt is);
  no_reference = no_reference-at (code_routines input.code.now) _ r pc op none can.is is;
  length = can.of.text;
  backwards = can.backwards;
}

-- one more digit
pub coded-more : (setting : Setting) (bytes : List ℕ) (d : Direction) (body_of : ℕ → Matcher) (out : Out) (ops : List Op) (far : List ℕ) (x k code : ℕ) (p : Probe) →
    0 < k → k ≤ length far → ((op : Op) → slice_get ops (get_or far (k - 1) 0) ≡ Some op → IsProbe setting bytes d body_of out op x p) →
    Coded setting bytes d body_of out ops (drop k far) x code → Coded setting bytes d body_of out ops (drop (k - 1) far) x (code * 4 + digit p)
coded-more setting bytes d body_of out ops far x k code p some within is coded =
    subst (λ pcs. Coded setting bytes d body_of out ops pcs x (code * 4 + digit p))
    (sym (drop_more far (k - 1) 0 (omega (arith, some, within)) ∙ ap (λ j. get_or far (k - 1) 0 ∷ drop j far) (let h : (k - 1) + 1 ≡ k = omega (arith, some) in h)))
    (code, p, refl, is, coded)

-- The bits of a table that stores a row which was added, or does not.
pub shared-bits : (t t' u : Table) (x : ℕ) (extra : List Bool) → index t 0 false x ≡ length (evaluated t) →
    length (numbers_of t.rows) ≡ row_of (direction_if t.backwards) t.length x → Grows t t' extra → bits_of u.bits ≡ take (u.distinct * (2 * t'.width)) (bits_of t'.bits) →
    t'.distinct ≤ u.distinct → bits_of u.bits ≡ bits_of t.bits ++ take (u.distinct * (2 * t'.width) - length (bits_of t.bits)) extra
shared-bits t t' u x extra at numbered grows bits le =
    let m = u.distinct * (2 * t'.width) in
    let whole : t'.distinct * (2 * t'.width) ≡ length (bits_of t.bits) =
    ap₂ (λ d w. d * (2 * w)) grows.distinct grows.shape.width ∙ sym (all-numbered t x at numbered) in
    let k = m - length (bits_of t.bits) in
    let sum : m ≡ length (bits_of t.bits) + k = omega (arith, whole, mul-le-mul_right (2 * t'.width) le) in
    bits ∙ ap₂ take sum grows.bits ∙ take-append-add (bits_of t.bits) extra k

-- ---- one more row

module _ (input : Input) (r : Routine) (t : Table) (memo : Memo) (x : ℕ) (can : CanFill input r t) (within : x ≤ t.length)
    (at : index t 0 false x ≡ length (evaluated t)) (known : IsKnown input r t memo) where
  -- a row without a number
  pub known-flat : (t' : Table) (extra : List Bool) → Grows t t' extra → (IsFilled input t → IsFilled input t') → IsKnown input r t' memo
  known-flat t' extra grows filled =
      known-next t t' extra grows.bits grows.shape input r memo memo x known refl refl refl (repetitions-refl memo.repetitions)
      (λ outs solution right knows. (filled (λ outs' solution' right'. (known.knows outs' solution' right').right) outs solution right, λ k n kept. inl kept))

  module _ (numbered : length (numbers_of t.rows) ≡ row_of (direction_if t.backwards) t.length x) (key : Option Key)
      (has : IfSome key (λ k. (outs : ℕ → Out) → AreRight outs input.tables.now → IsRight (outs (length input.tables.now)) t → HasKey input outs r.ops t memo.far.items x k)) where
    abbrev row : ℕ
    row = length (numbers_of t.rows)

    last-number : (t' : Table) (n : ℕ) → numbers_of t'.rows ≡ numbers_of t.rows ++ n ∷ [] → number_of t' row ≡ n
    last-number t' n rows = ap (λ xs. get_or xs row (t'.distinct + (row - length (numbers_of t'.rows)))) rows ∙ get_or_push (numbers_of t.rows) n _ row refl

    -- the number of a row that was computed from the same
    pub known-hit : (t' : Table) (n : ℕ) → SameShape t t' → numbers_of t'.rows ≡ numbers_of t.rows ++ n ∷ [] → bits_of t'.bits ≡ bits_of t.bits →
        evaluated t' ≡ evaluated t ++ row_bits t n → n < t.distinct → IsKept memo key n → IsKnown input r t' memo
    known-hit t' n same rows bits bits-more less kept =
        let bits' : bits_of t'.bits ≡ bits_of t.bits ++ [] = bits ∙ sym (append-nil (bits_of t.bits)) in
        known-next t t' [] bits' same input r memo memo x known refl refl refl (repetitions-refl memo.repetitions)
        (λ outs solution right knows.
        let out = outs (length input.tables.now) in
        let is : Represents out t n x = represents outs solution right knows key kept has in (
          right-next out t t' (row_bits t n) row x bits-more same (sym numbered) within (next-row t x at ∙ ap (λ k. k * (2 * t.width)) (sym numbered))
              (length-row t n (row-stored t n less)) knows.right
              (subst (λ k. Represents out t' k x) (sym (last-number t' n rows)) (represents-more t t' [] bits' same out n x is)),
          λ k m kept'. inl kept',
        ))
      where
        represents : (outs : ℕ → Out) → IsSolution (subject input.rules input.text.now).setting input.text.now (code_routines input.code.now) outs →
            AreRight outs input.tables.now → Knows input outs r.ops t memo → (o : Option Key) → IsKept memo o n →
            IfSome o (λ k. (outs' : ℕ → Out) → AreRight outs' input.tables.now → IsRight (outs' (length input.tables.now)) t → HasKey input outs' r.ops t memo.far.items x k) →
            Represents (outs (length input.tables.now)) t n x
        represents outs solution right knows None kept' has' = absurd kept'
        represents outs solution right knows (Some k) kept' has' =
            let entry = knows.entries k n kept' in
            represents-same input outs r t memo.far.items x entry.position n k solution can known.covers entry.has (has' outs right knows.right) entry.represents

    -- the number of a row that was computed
    pub known-miss : (t' u : Table) (memo' : Memo) (n : ℕ) (extra : List Bool) → Grows t t' extra → (IsFilled input t → IsFilled input t') →
        SameShape t' u → numbers_of u.rows ≡ numbers_of t'.rows ++ n ∷ [] → bits_of u.bits ≡ take (u.distinct * (2 * t'.width)) (bits_of t'.bits) →
        t'.distinct ≤ u.distinct → evaluated u ≡ evaluated t' → memo'.far.items ≡ memo.far.items → memo'.far_bytes ≡ memo.far_bytes →
        memo'.symbols.tests ≡ memo.symbols.tests → SameRepetitions memo.repetitions memo'.repetitions → ((k : Key) (m : ℕ) → IsKept memo' (Some k) m → IsKept memo (Some k) m ⊎ ((key ≡ Some k) × (m ≡ n))) →
        IsKnown input r u memo'
    known-miss t' u memo' n extra grows filled shared rows bits le same far_is bytes_is tests_is repeat_is kept_is =
        let shape : SameShape t u = SameShape-trans t t' u grows.shape shared in
        let k = u.distinct * (2 * t'.width) - length (bits_of t.bits) in
        let bits' = shared-bits t t' u x extra at numbered grows bits le in
        let rows' : numbers_of u.rows ≡ numbers_of t.rows ++ n ∷ [] = rows ∙ ap (λ xs. xs ++ n ∷ []) grows.rows in
        known-next t u (take k extra) bits' shape input r memo memo' x known far_is bytes_is tests_is repeat_is
        (λ outs solution right knows.
        let out = outs (length input.tables.now) in
        let right' : IsRight out u = right-same out t' u same shared (filled (λ outs' solution' right'. (known.knows outs' solution' right').right) outs solution right) in
        let is : Represents out u n x =
        subst (λ m. Represents out u m x) (last-number u n rows')
        (represented out u row x right' (same-row_of t u x shape ∙ sym numbered) (omega (arith, within, shape.length))
        (omega (arith, ap length rows', length-append (numbers_of t.rows) (n ∷ [])))) in (
          right',
          λ k m kept. elim (kept_is k m kept) [
            | inl old ↦ inl old
            | inr new ↦ inr (
              subst (λ row'. Represents out u row' x) (sym new.1) is,
              (subst (λ o. IfSome o (λ k'. (outs : ℕ → Out) → AreRight outs input.tables.now → IsRight (outs (length input.tables.now)) t →
                  HasKey input outs r.ops t memo.far.items x k')) new.0 has) outs right knows.right,
            )
          ],
        ))

-- A memo with the same rows knows the same.
pub known-same : (input : Input) (r : Routine) (t : Table) (memo memo' : Memo) → SameRows memo memo' → IsKnown input r t memo → IsKnown input r t memo'
known-same input r t memo memo' same known = record {
  covers = subst (Covers r.ops) (sym same.far) known.covers;
  bytes = far-bytes-same input r memo memo' same.far same.bytes known.bytes;
  tests = ap (λ s. s.now) same.tests ∙ known.tests;
  repetitions = repetitions-same input.code.now.program.leaves.items r.ops memo.far.items memo'.far.items memo.repetitions memo'.repetitions same.far same.repetitions known.repetitions;
  knows = λ outs solution right.
      let knows = known.knows outs solution right in
      record {
        right = knows.right;
        entries = λ key n kept. subst (λ far. IsEntry input outs r.ops t far key n) (sym same.far) (knows.entries key n (kept-same memo memo' same (Some key) n kept));
      };
}
