-- What is known of the program of a pattern.
use Rattle.std.specs.Prelude.{◌≡◌, ℕ, ◌≤◌, List, Option, IfSome, length}
use Rattle.std.proofs.Props.{props}
use Rattle.regress_tree.specs.Matching.{steps}
use Rattle.regress_tree.specs.Reading.{forwards}
use Rattle.regress_tree.specs.Steps.{MatchState, Setting}
use Rattle.regress_tree.specs.Tree.{Tree}
use Rattle.regress_tree.specs.WellFormed.{captures}
use Rattle.regress_unicode.specs.declared.Tables.{Tables}
use Rattle.regress_found.specs.Found.{initial_state}
use Rattle.regress_program.specs.Program.{Out, IsSolution}
use Rattle.regress_prefilter.specs.Required.{IsRequired}
use Rattle.regress_code.specs.Code.{code_routines, outcomes_from, setting_with}
use Rattle.regress_code.specs.declared.code.Code.{Code}

module _ (setting : Setting) (t : Tree) where
  -- the outcomes of a tree from a position with every group unset, where an outcome may be repeated
  abbrev pub all_outcomes : (text : List ℕ) → (position : ℕ) → List MatchState
  all_outcomes text position = steps setting text forwards t (initial_state (length (captures t)) position)

  -- At each position the outcomes of the program under the case mappings are those of the tree.
  pub record IsCodeOf (tables : Tables) (code : Code) : Type 0 where
    pub means : (text : List ℕ) (outs : ℕ → Out) → IsSolution (setting_with code tables) text (code_routines code) outs → (k : ℕ) →
        k ≤ length text → outcomes_from code tables text outs k ≡ all_outcomes text k

-- Each property has at most one proof.
pub MatchState-set : IsSet MatchState
MatchState-set = hlevel props

IsRequired-prop : (b : ℕ) (t : Tree) → IsProp (IsRequired b t)
IsRequired-prop b t = hlevel (props, MatchState-set)

pub IfRequired-prop : (b : Option ℕ) (t : Tree) → IsProp (IfSome b (λ byte. IsRequired byte t))
IfRequired-prop b t = hlevel (props, IsRequired-prop)

pub IsCodeOf-prop : (setting : Setting) (t : Tree) (tables : Tables) (code : Code) → IsProp (IsCodeOf setting t tables code)
IsCodeOf-prop setting t tables code = hlevel (props, MatchState-set)
