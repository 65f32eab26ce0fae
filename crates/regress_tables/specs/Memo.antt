-- Rows that are equal, because they are computed from the same.
use Rattle.std.specs.Prelude.{◌≡◌, ◌≢◌, ℕ, ◌+◌, ◌-◌, ◌*◌, ◌<◌, ◌≤◌, ◌⊎◌, true, List, length, slice_get, Option, Some, None}
use Rattle.regress_prefilter.specs.OneCharacter.{takes_one}
use Rattle.regress_leaves.specs.Subject.{subject}
use Rattle.regress_tree.specs.Reading.{Direction, Read, next_character, of_bytes}
use Rattle.regress_tree.specs.Steps.{Matcher, Setting}
use Rattle.regress_program.specs.Program.{At, Op, Out, Routine, IsSolution, part, look, matcher_of, outcomes_by}
use Rattle.regress_code.specs.Code.{code_routines}
use Rattle.regress_code.specs.NextBytes.{Bounds}
use Rattle.regress_code.specs.declared.next_bytes.NextBytes.{NextBytes}
use Rattle.regress_tables.specs.Probes.{Coded}
use Rattle.regress_tables.specs.Repetitions.{AreRepetitions, SameRepetitions}
use Rattle.regress_tables.specs.Rows.{Represents}
use Rattle.regress_tables.specs.Symbols.{AreAlikeIn}
use Rattle.regress_tables.specs.Table.{AreRight, IsRight}
use Rattle.regress_tables.specs.declared.evaluate.Input.{Input}
use Rattle.regress_tables.specs.declared.memo.Key.{Key}
use Rattle.regress_tables.specs.declared.memo.Memo.{Memo}
use Rattle.regress_tables.specs.declared.table.Table.{Table}

-- The symbol is that of a character that the instructions do not tell from the next one, and `from` represents the position
-- after it.
abbrev pub IsSymbol : Out → List Op → Table → (position from symbol : ℕ) → Option Read → Type 0
IsSymbol out ops t position from symbol None = symbol ≡ 0
IsSymbol out ops t position from symbol (Some read) =
    (0 < symbol) × AreAlikeIn ops read.character (symbol - 1) × (read.position ≢ position) × Represents out t from read.position

-- The instruction does not look at the text, or matches one character.
abbrev pub IsNear : Op → Type 0
IsNear (part t next) = takes_one t ≡ true
IsNear (look negate routine next) = ⊥
IsNear op = Unit {0}

-- The next bytes of an instruction, whatever has an outcome after it.
abbrev pub AreBytesOf : Setting → (text : List ℕ) → Direction → Op → NextBytes → Type 0
AreBytesOf setting text d op bytes = (body_of : ℕ → Matcher) (out : Out) (a : At) →
    Bounds bytes d text a.state.position (outcomes_by setting text d body_of out op a)

-- All other instructions are listed.
abbrev pub Covers : List Op → (far : List ℕ) → Type 0
Covers ops far = (pc : ℕ) (op : Op) → slice_get ops pc ≡ Some op → IsNear op ⊎ ((k : ℕ) × (slice_get far k ≡ Some pc))

-- Where these bytes are excluded, none of those has an outcome.
abbrev pub AreFarBytes : Setting → (text : List ℕ) → Direction → List Op → (far : List ℕ) → NextBytes → Type 0
AreFarBytes setting text d ops far bytes = (k pc : ℕ) (op : Op) → slice_get far k ≡ Some pc → slice_get ops pc ≡ Some op →
    AreBytesOf setting text d op bytes

-- The row at a position is computed from this.
pub record HasKey (input : Input) (outs : ℕ → Out) (ops : List Op) (t : Table) (far : List ℕ) (position : ℕ) (key : Key) : Type 0 where
  pub inside : position ≤ length input.text.now
  pub symbol : IsSymbol (outs (length input.tables.now)) ops t position key.from key.symbol
      (next_character (subject input.rules input.text.now).direction (of_bytes input.text.now) position)
  pub probes : Coded (subject input.rules input.text.now).setting input.text.now (subject input.rules input.text.now).direction
      (matcher_of (subject input.rules input.text.now).setting input.text.now (code_routines input.code.now) outs)
      (outs (length input.tables.now)) ops far position key.probes

-- The key has an index among the rows that are found directly: by the row that it follows and an ASCII character.
abbrev pub IsDirect : Key → Type 0
IsDirect key = (key.probes ≡ 0) × (0 < key.symbol) × (key.symbol ≤ 128)

abbrev pub direct_index : Key → ℕ
direct_index key = key.from * 128 + (key.symbol - 1)

-- A row with this number is kept under this key.
abbrev pub IsKept : Memo → Option Key → (row : ℕ) → Type 0
IsKept memo None row = ⊥
IsKept memo (Some key) row = ((k : ℕ) × (slice_get memo.slots.items k ≡ Some (Some (record { key = key; row = row }))))
    ⊎ (IsDirect key × (slice_get memo.direct.items (direct_index key) ≡ Some (row + 1)))

-- Only what is known of symbols, of rows with equal bits and of where repetitions end may differ.
pub record SameRows (memo memo' : Memo) : Type 0 where
  pub far : memo'.far.items ≡ memo.far.items
  pub direct : memo'.direct.items ≡ memo.direct.items
  pub slots : memo'.slots.items ≡ memo.slots.items
  pub bytes : memo'.far_bytes ≡ memo.far_bytes
  pub tests : memo'.symbols.tests ≡ memo.symbols.tests
  pub repetitions : SameRepetitions memo.repetitions memo'.repetitions

-- The row with this number is that of a position with this key.
pub record IsEntry (input : Input) (outs : ℕ → Out) (ops : List Op) (t : Table) (far : List ℕ) (key : Key) (row : ℕ) : Type 0 where
  pub position : ℕ
  pub has : HasKey input outs ops t far position key
  pub represents : Represents (outs (length input.tables.now)) t row position

-- The table is right so far, and the rows that are kept are right.
pub record Knows (input : Input) (outs : ℕ → Out) (ops : List Op) (t : Table) (memo : Memo) : Type 0 where
  pub right : IsRight (outs (length input.tables.now)) t
  pub entries : (key : Key) (row : ℕ) → IsKept memo (Some key) row → IsEntry input outs ops t memo.far.items key row

-- That holds with any outcomes of the program, if the tables before are right.
pub record IsKnown (input : Input) (r : Routine) (t : Table) (memo : Memo) : Type 0 where
  pub covers : Covers r.ops memo.far.items
  pub bytes : AreFarBytes (subject input.rules input.text.now).setting input.text.now (subject input.rules input.text.now).direction r.ops memo.far.items memo.far_bytes
  pub tests : memo.symbols.tests.now ≡ input.code.now.program.leaves.items
  pub repetitions : AreRepetitions input.code.now.program.leaves.items r.ops memo.far.items memo.repetitions
  pub knows : (outs : ℕ → Out) → IsSolution (subject input.rules input.text.now).setting input.text.now (code_routines input.code.now) outs →
      AreRight outs input.tables.now → Knows input outs r.ops t memo
