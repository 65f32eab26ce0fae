-- The optional iterations of a loop with a maximum.
use Rattle.std.specs.Prelude.{◌≡◌, ℕ, ◌+◌, ◌-◌, ◌≤◌, ◌<◌, Bool, true, false, List, [], flat_map, length}
use Rattle.regress_tree.specs.Reading.{Direction, forwards, backwards}
use Rattle.regress_tree.specs.Repetition.{up_to}
use Rattle.regress_tree.specs.Steps.{Matcher, Setting}
use Rattle.regress_program.specs.Compiled.{World, Solved, Goes, Matching, Code, Grown}
use Rattle.regress_program.specs.Program.{At, Out, goto, reach}
use Rattle.regress_program.specs.Stays.{Stays}

-- the length of the remaining text
abbrev pub left : Direction → List ℕ → ℕ → ℕ
left forwards bytes k = length bytes - k
left backwards bytes k = k

-- The instruction `last` ends an iteration. With less than m bytes left, at most n more may follow, if it has advanced.
pub record Continues (bytes : List ℕ) (d : Direction) (out : Out) (greedy : Bool) (F : Matcher) (next last n m : ℕ) : Type 0 where
  pub stuck : (a : At) → a.state.position ≤ length bytes → a.moved ≡ false → out (goto last a) ≡ []
  pub continues : (a : At) → a.state.position ≤ length bytes → a.moved ≡ true → left d bytes a.state.position < m →
      out (goto last a) ≡ flat_map (λ to. out (reach next a to)) (up_to greedy n F a.state)

-- An iteration starts at `body`, and at most n more may follow it.
pub record Iterates (a b : Code) (greedy : Bool) (f : Matching) (next body n : ℕ) : Type 0 where
  pub grown : Grown a b
  pub begins : body < length b.ops
  pub stays : (d : Direction) (setting : Setting) (bytes : List ℕ) → Stays bytes d (f d setting bytes)
  pub last : ℕ
  pub continues : (d : Direction) (w : World b.routines) (out : Out) → Solved w d out b.ops (length a.ops) (length b.ops) →
      Continues w.bytes d out greedy (f d w.setting w.bytes) next last n (length w.bytes + 1)
  pub means : (d : Direction) (w : World b.routines) (out : Out) → Solved w d out b.ops (length a.ops) (length b.ops) →
      Goes w.bytes out last body (f d w.setting w.bytes)
