-- The bytes next to a position at which instructions have outcomes.
use Rattle.std.specs.Prelude.{◌≡◌, ℕ, ◌-◌, ◌<◌, Bool, true, false, List, [], length, slice_get, get_or, Some}
use Rattle.std.specs.Coded.{Unit-prop}
use Rattle.std.proofs.Props.{props}
use Rattle.regress_base.specs.ByteBitmap.{contains}
use Rattle.regress_base.specs.declared.bytesearch.bitmap.ByteBitmap.{ByteBitmap}
use Rattle.regress_tree.specs.Reading.{Direction, direction_if, forwards, backwards}
use Rattle.regress_tree.specs.Steps.{MatchState, Matcher, Setting}
use Rattle.regress_leaves.specs.Known.{HasAsciiCase}
use Rattle.regress_program.specs.Program.{At, IsSolution, Op, Out, Routine, Solves}
use Rattle.regress_code.specs.declared.analysis.Analysis.{Analysis}
use Rattle.regress_code.specs.declared.next_bytes.Body.{Body}
use Rattle.regress_code.specs.declared.next_bytes.NextBytes.{NextBytes}
use Rattle.regress_code.specs.declared.next_bytes.NextBytes.TheVariants as kinds

-- the offset of the byte next to a position
abbrev pub next_to : Direction → (position : ℕ) → ℕ
next_to forwards position = position
next_to backwards position = position - 1

-- The position is neither the start nor the end of the text, and the byte next to it is not in the set.
pub record IsOutside (d : Direction) (set : ByteBitmap) (text : List ℕ) (position : ℕ) : Type 0 where
  pub after : 0 < position
  pub before : position < length text
  pub byte : get_or text (next_to d position) 0 < 256
  pub out : contains set (get_or text (next_to d position) 0) ≡ false

-- There are no outcomes from a position outside.
abbrev pub Bounds : NextBytes → Direction → (text : List ℕ) → (position : ℕ) → List MatchState → Type 0
Bounds kinds.Any d text position states = Unit {0}
Bounds (kinds.Bytes set) d text position states = IsOutside d set text position → states ≡ []

-- It bounds the outcomes at an instruction.
abbrev pub AreNextBytesAt : NextBytes → Direction → (text : List ℕ) → Out → (pc : ℕ) → Type 0
AreNextBytesAt next_byte d text out pc = (a : At) → a.pc ≡ pc → Bounds next_byte d text a.state.position (out a)

-- Each of them is the next bytes of the instruction with its index.
abbrev pub AreNextBytes : List NextBytes → Direction → (text : List ℕ) → Out → Type 0
AreNextBytes next_bytes d text out = (pc : ℕ) (next_byte : NextBytes) → slice_get next_bytes pc ≡ Some next_byte → AreNextBytesAt next_byte d text out pc

-- They bound the outcomes of the bodies of lookarounds, each in its direction.
abbrev pub AreBodies : List Body → (text : List ℕ) → (body_of : ℕ → Matcher) → Type 0
AreBodies bodies text body_of = (i : ℕ) (body : Body) → slice_get bodies i ≡ Some body →
    (s : MatchState) → Bounds body.next_byte (direction_if body.backwards) text s.position (body_of i s)

-- With `folds`, canonical forms of ASCII characters are those of ASCII, and characters without case have theirs alone.
abbrev pub FoldsIf : (folds : Bool) → Setting → Type 0
FoldsIf folds setting = folds ≡ true → HasAsciiCase setting

-- They are the next bytes of the instructions of a routine, where these are the bodies of its lookarounds.
abbrev pub AreNextBytesOf : (folds : Bool) → List Body → List NextBytes → Direction → List Op → Type 0
AreNextBytesOf folds bodies next_bytes d ops = (setting : Setting) → FoldsIf folds setting →
    (text : List ℕ) (body_of : ℕ → Matcher) (out : Out) → AreBodies bodies text body_of →
    Solves setting text d body_of out ops 0 (length ops) → AreNextBytes next_bytes d text out

-- Each routine of a program has its next bytes.
abbrev pub HaveNextBytes : (folds : Bool) → List Routine → List Analysis → Type 0
HaveNextBytes folds program analyses = (setting : Setting) → FoldsIf folds setting → (text : List ℕ) (outs : ℕ → Out) →
    IsSolution setting text program outs → (i : ℕ) (a : Analysis) → slice_get analyses i ≡ Some a → (r : Routine) → slice_get program i ≡ Some r →
    AreNextBytes a.next_bytes.items r.direction text (outs i)

Bounds-prop : (next_byte : NextBytes) (d : Direction) (text : List ℕ) (position : ℕ) (states : List MatchState) → IsProp (Bounds next_byte d text position states)
Bounds-prop kinds.Any d text position states = Unit-prop
Bounds-prop (kinds.Bytes set) d text position states = hlevel props

-- The property has at most one proof.
pub HaveNextBytes-prop : (folds : Bool) (program : List Routine) (analyses : List Analysis) → IsProp (HaveNextBytes folds program analyses)
HaveNextBytes-prop folds program analyses = hlevel (props, Bounds-prop)
