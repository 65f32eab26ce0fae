-- The shape of programs: which instructions an instruction may name, so that every match ends.
use Rattle.std.specs.Prelude.{◌≡◌, ℕ, ◌-◌, ◌≤◌, ◌<◌, true, List, [], ◌∷◌, length, slice_get, Some, take}
use Rattle.regress_prefilter.specs.OneCharacter.{takes_one}
use Rattle.regress_tree.specs.Reading.{forwards}
use Rattle.regress_tree.specs.Tree.{Leaf, string_set, loop_one, Tree, leaf, wrapped}
use Rattle.regress_program.specs.Program.{Op, accept, fail, part, split, begin_loop, repeat, end_loop, unsets, begin_group, end_group, look, Routine}

-- The leaf has at most one outcome. It sets no group.
abbrev pub IsPartLeaf : Leaf → Type 0
IsPartLeaf (string_set [] icase) = ⊥
IsPartLeaf (string_set (string ∷ []) icase) = Unit {0}
IsPartLeaf (string_set (string ∷ another ∷ strings) icase) = ⊥
IsPartLeaf l = Unit {0}

-- The tree is such a leaf, or an exact number of characters.
abbrev pub IsPart : Tree → Type 0
IsPart (leaf l) = IsPartLeaf l
IsPart (wrapped (loop_one q) body) = (q.max ≡ Some q.min) × (takes_one body ≡ true)
IsPart t = ⊥

-- The instruction i of `high` names only earlier ones, but for the body of a loop that goes on. A lookaround names an
-- earlier routine.
abbrev pub Fits : List Routine → (high i : ℕ) → Op → Type 0
Fits earlier high i accept = Unit {0}
Fits earlier high i fail = Unit {0}
Fits earlier high i (part t next) = IsPart t × (next < i)
Fits earlier high i (split first second) = (first < i) × (second < i)
Fits earlier high i (begin_loop greedy body next) = (body < i) × (next < i)
Fits earlier high i (repeat greedy body next) = (body < high) × (next < i)
Fits earlier high i (end_loop next) = next < i
Fits earlier high i (unsets start end next) = next < i
Fits earlier high i (begin_group next) = next < i
Fits earlier high i (end_group id next) = next < i
Fits earlier high i (look negate routine next) = (routine < length earlier) × (next < i)

-- The instructions from `low` on and before `high` fit.
abbrev pub AllFit : List Routine → List Op → (low high : ℕ) → Type 0
AllFit earlier ops low high = (i : ℕ) (op : Op) → low ≤ i → i < high → slice_get ops i ≡ Some op → Fits earlier high i op

-- A routine whose lookarounds are earlier routines.
pub record IsRoutine (earlier : List Routine) (r : Routine) : Type 0 where
  pub entry : r.entry < length r.ops
  pub fit : AllFit earlier r.ops 0 (length r.ops)

-- A program: each routine refers to earlier ones only.
abbrev pub IsProgram : List Routine → Type 0
IsProgram program = (i : ℕ) (r : Routine) → slice_get program i ≡ Some r → IsRoutine (take i program) r

-- The last routine matches forwards.
abbrev pub IsForwards : List Routine → Type 0
IsForwards program = (r : Routine) → slice_get program (length program - 1) ≡ Some r → r.direction ≡ forwards
