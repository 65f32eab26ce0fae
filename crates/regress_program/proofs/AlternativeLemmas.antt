-- Alternations as instructions: the alternatives are compiled first, and then joined from the last to the first.
use Rattle.std.proofs.Common.{◌≡◌, ℕ, ◌+◌, List, [], ◌∷◌, ◌++◌, length, refl, sym, subst}
use Rattle.regress_leaves.specs.declared.test.Test.{Test}
use Rattle.regress_tree.specs.Tree.{Tree}
use Rattle.regress_program.specs.CodeOf.{code_in}
use Rattle.regress_program.specs.LeavesOf.{HasLeaves, leaves_of}
use Rattle.regress_program.specs.declared.compiler.Compiler.{Compiler}
use Rattle.regress_program.specs.Compiled.{matching, Code, Grown, Compiled}
use Rattle.regress_program.specs.Pushed.{Pushed}
use Rattle.regress_program.specs.Program.{split}
use Rattle.regress_program.specs.Adds.{Adds, Covers, Tidies}
use Rattle.regress_program.specs.Alternatives.{HasLeft, Waiting}
use Rattle.regress_program.specs.Contents.{content}
use Rattle.regress_program.proofs.AddLemmas.{IsPartOf, Longer, longer}
use Rattle.regress_program.proofs.CompileLemmas.{compiled_or, compiled_later}
use Rattle.regress_program.proofs.PieceLemmas.{tidies_later, tidies_or}

pub waiting_none : (a c : Code) (next : ℕ) (whole : Tree) → Waiting a c next [] whole whole
unfolding Waiting
waiting_none a c next whole = refl

pub waiting_push : (a c : Code) (next : ℕ) (entries : List ℕ) (entry : ℕ) (whole rest right : Tree) → Waiting a c next entries whole rest →
    HasLeft a c next entry rest right → Waiting a c next (entries ++ entry ∷ []) whole right
unfolding Waiting
waiting_push a c next [] entry whole rest right same is = (right, (subst (λ t. HasLeft a c next entry t right) (sym same) is, refl))
waiting_push a c next (e ∷ entries) entry whole rest right waiting is =
    (waiting.0, (waiting.1.0, waiting_push a c next entries entry waiting.0 rest right waiting.1.1 is))

pub waiting_pop : (a c : Code) (next : ℕ) (entries : List ℕ) (entry : ℕ) (whole rest : Tree) → Waiting a c next (entries ++ entry ∷ []) whole rest →
    (before : Tree) × (Waiting a c next entries whole before × HasLeft a c next entry before rest)
unfolding Waiting
waiting_pop a c next [] entry whole rest waiting =
    (whole, (refl, subst (λ t. HasLeft a c next entry whole t) waiting.1.1 waiting.1.0))
waiting_pop a c next (e ∷ entries) entry whole rest waiting =
    let found = waiting_pop a c next entries entry waiting.0 rest waiting.1.1 in
    (found.0, ((waiting.0, (waiting.1.0, found.1.0)), found.1.1))

pub left_later : (a b c : Code) (next entry : ℕ) (whole right : Tree) → Grown b c → HasLeft a b next entry whole right → HasLeft a c next entry whole right
left_later a b c next entry whole right grown is =
    record {
      left = is.left;
      is = is.is;
      compiled = compiled_later a b c (matching is.left) next entry grown is.compiled;
      tidies = tidies_later a b c (content is.left) next entry (longer b c grown) is.tidies;
    }

pub waiting_later : (a b c : Code) (next : ℕ) (entries : List ℕ) (whole rest : Tree) → Grown b c → Waiting a b next entries whole rest →
    Waiting a c next entries whole rest
unfolding Waiting
waiting_later a b c next [] whole rest grown waiting = waiting
waiting_later a b c next (e ∷ entries) whole rest grown waiting =
    (waiting.0, (left_later a b c next e whole waiting.0 grown waiting.1.0, waiting_later a b c next entries waiting.0 rest grown waiting.1.1))

pub waiting_done : (a c : Code) (next : ℕ) (whole rest : Tree) → Waiting a c next [] whole rest → whole ≡ rest
unfolding Waiting
waiting_done a c next whole rest waiting = waiting

-- an alternation, of which the left side is compiled before
pub compiled_alternative : (a b c : Code) (next first second at : ℕ) (whole rest : Tree) → HasLeft a b next first whole rest →
    Compiled a b (matching rest) next second → Pushed b c (split first second) at → Compiled a c (matching whole) next at
compiled_alternative a b c next first second at whole rest is right pushed =
    subst (λ t. Compiled a c (matching t) next at) (sym is.is)
    (compiled_or a b c (matching is.left) (matching rest) next first second at is.compiled right pushed)

pub tidies_alternative : (a b c : Code) (next first second at : ℕ) (whole rest : Tree) → Longer a b → HasLeft a b next first whole rest →
    Tidies a b (content rest) next second → Pushed b c (split first second) at → Tidies a c (content whole) next at
tidies_alternative a b c next first second at whole rest grown is right pushed =
    subst (λ t. Tidies a c (content t) next at) (sym is.is)
    (tidies_or a b c (content is.left) (content rest) next first second at grown is.tidies right pushed)

-- The left sides of `whole` down to the right side `rest` have been compiled, whose leaves are next.
pub record Splitting (leaves : List Test) (old new : Compiler) (next : ℕ) (entries : List ℕ) (whole rest : Tree) : Type 0 where
  pub grown : Grown (code_in leaves old) (code_in leaves new)
  pub waiting : Waiting (code_in leaves old) (code_in leaves new) next entries whole rest
  pub adds : Adds (code_in leaves old) (code_in leaves new) (content whole)
  pub part : IsPartOf (content rest) (content whole)
  pub covers : (later : Code) → Longer (code_in leaves new) later → Covers (code_in leaves old) later (content rest) →
      Covers (code_in leaves old) later (content whole)
  pub has : HasLeaves leaves new.next_leaf (leaves_of rest)
  pub after : new.next_leaf + length (leaves_of rest) ≡ old.next_leaf + length (leaves_of whole)

-- The alternatives have been compiled, and joined from the last one on to `joined`.
pub record Joining (leaves : List Test) (old new : Compiler) (next entry : ℕ) (entries : List ℕ) (whole : Tree) : Type 0 where
  pub joined : Tree
  pub waiting : Waiting (code_in leaves old) (code_in leaves new) next entries whole joined
  pub compiled : Compiled (code_in leaves old) (code_in leaves new) (matching joined) next entry
  pub adds : Adds (code_in leaves old) (code_in leaves new) (content whole)
  pub tidies : Tidies (code_in leaves old) (code_in leaves new) (content joined) next entry
  pub covers : Covers (code_in leaves old) (code_in leaves new) (content whole)
  pub after : new.next_leaf ≡ old.next_leaf + length (leaves_of whole)
