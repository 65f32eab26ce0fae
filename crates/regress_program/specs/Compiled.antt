-- What compiled instructions do.
use Rattle.std.specs.Prelude.{◌≡◌, ℕ, ◌+◌, ◌-◌, ◌≤◌, ◌<◌, Bool, List, [], ◌∷◌, flat_map, length, slice_get, Some}
use Rattle.regress_base.specs.declared.types.Quantifier.{Quantifier}
use Rattle.regress_tree.specs.Lookaround.{lookaround_matcher}
use Rattle.regress_tree.specs.Matching.{steps}
use Rattle.regress_tree.specs.Reading.{Direction, forwards}
use Rattle.regress_tree.specs.Repetition.{iterations, up_to, extra_iterations, repeat_matcher}
use Rattle.regress_tree.specs.Steps.{MatchState, Matcher, ◌then_◌, Setting}
use Rattle.regress_tree.specs.Tree.{Tree, leaf, string_set}
use Rattle.regress_program.specs.Program.{Op, Routine, At, Out, goto, reach, Solves, IsSolution, matcher_of, MatchesTree}
use Rattle.regress_program.specs.Shape.{AllFit, IsProgram}
use Rattle.regress_program.specs.Stays.{Stays}

-- The list `new` begins with `old`.
pub record Extends {X : Type 0} (old new : List X) : Type 0 where
  pub grown : length old ≤ length new
  pub same : (i : ℕ) → i < length old → slice_get new i ≡ slice_get old i

-- A text, and outcomes of a program that begins with these routines.
pub record World (routines : List Routine) : Type 0 where
  pub setting : Setting
  pub bytes : List ℕ
  pub program : List Routine
  pub outs : ℕ → Out
  pub extends : Extends routines program
  pub solution : IsSolution setting bytes program outs

-- The outcomes solve the instructions from `low` on and before `high`.
pub record Solved {routines : List Routine} (w : World routines) (d : Direction) (out : Out) (ops : List Op) (low high : ℕ) : Type 0 where
  pub solves : Solves w.setting w.bytes d (matcher_of w.setting w.bytes w.program w.outs) out ops low high

-- From the instruction `entry` the outcomes are those of f, each of which goes on at `next`.
pub record Goes (bytes : List ℕ) (out : Out) (next entry : ℕ) (f : Matcher) : Type 0 where
  pub goes : (a : At) → a.state.position ≤ length bytes → out (goto entry a) ≡ flat_map (λ to. out (reach next a to)) (f a.state)

-- a matcher in each direction, setting and text
abbrev pub Matching : Type 0
Matching = Direction → Setting → List ℕ → Matcher

-- what a tree matches
abbrev pub matching : Tree → Matching
matching t d setting bytes = steps setting bytes d t

-- exactly n iterations
abbrev pub exactly : ℕ → Matching → Matching
exactly n f d setting bytes = iterations n (f d setting bytes)

-- at most n optional iterations
abbrev pub optional : (greedy : Bool) → ℕ → Matching → Matching
optional greedy n f d setting bytes = up_to greedy n (f d setting bytes)

-- as many optional iterations as there may be
abbrev pub any_number : (greedy : Bool) → Matching → Matching
any_number greedy f d setting bytes = up_to greedy (length bytes + 1) (f d setting bytes)

-- a loop
abbrev pub repeated : Quantifier → (start end : ℕ) → Matching → Matching
repeated q start end f d setting bytes = repeat_matcher (length bytes + 1) q start end (f d setting bytes)

-- n iterations and then g
abbrev pub after_iterations : ℕ → Matching → Matching → Matching
after_iterations n f g d setting bytes = iterations n (f d setting bytes) then_ g d setting bytes

-- the optional iterations of a loop
abbrev pub extra : Quantifier → Matching → Matching
extra q f d setting bytes = up_to q.greedy (extra_iterations (length bytes + 1) q) (f d setting bytes)

-- a lookaround whose body is matched in the direction inside
abbrev pub looking : (negate : Bool) → (inside : Direction) → Matching → Matching
looking negate inside f d setting bytes = lookaround_matcher negate (f inside setting bytes)

-- a set of strings
abbrev pub strings : List (List ℕ) → (icase : Bool) → Tree
strings ss icase = leaf (string_set ss icase)

-- A program that is being compiled: the finished routines, the instructions of the next one, and how many more
-- instructions the limit allows.
pub record Code : Type 0 where
  pub routines : List Routine
  pub ops : List Op
  pub left : ℕ

-- the number of instructions of all routines
abbrev pub total : List Routine → ℕ
total [] = 0
total (r ∷ rs) = length r.ops + total rs

-- Instructions, and the routines that they refer to, have been added within the limit.
pub record Grown (old new : Code) : Type 0 where
  pub routines : Extends old.routines new.routines
  pub ops : Extends old.ops new.ops
  pub fit : AllFit new.routines new.ops (length old.ops) (length new.ops)
  pub program : IsProgram old.routines → IsProgram new.routines
  pub spent : new.left + length new.ops + total new.routines ≡ old.left + length old.ops + total old.routines

-- The instructions that have been added match f from `entry` on, and then go on at `next`.
pub record Compiled (old new : Code) (f : Matching) (next entry : ℕ) : Type 0 where
  pub grown : Grown old new
  pub begins : entry < length new.ops
  pub stays : (d : Direction) (setting : Setting) (bytes : List ℕ) → Stays bytes d (f d setting bytes)
  pub means : (d : Direction) (w : World new.routines) (out : Out) → Solved w d out new.ops (length old.ops) (length new.ops) →
      Goes w.bytes out next entry (f d w.setting w.bytes)

-- A routine has been added, which matches f in the direction d.
pub record HasRoutine (old new : Code) (f : Matching) (d : Direction) (i : ℕ) : Type 0 where
  pub grown : Grown old new
  pub same : new.ops ≡ old.ops
  pub last : length new.routines ≡ i + 1
  pub routine : Routine
  pub at_index : slice_get new.routines i ≡ Some routine
  pub direction : routine.direction ≡ d
  pub means : (w : World new.routines) (s : MatchState) → s.position ≤ length w.bytes →
      matcher_of w.setting w.bytes w.program w.outs i s ≡ f d w.setting w.bytes s

-- The last routine of the program matches the tree forwards.
pub record IsPattern (program : List Routine) (t : Tree) : Type 0 where
  pub routine : Routine
  pub last : slice_get program (length program - 1) ≡ Some routine
  pub direction : routine.direction ≡ forwards
  pub means : (setting : Setting) (bytes : List ℕ) → MatchesTree setting bytes program (length program - 1) forwards t
