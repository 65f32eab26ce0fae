-- The positions at which matches of a program can begin.
use Rattle.std.proofs.Common.{◌∙◌, List}
use Rattle.regress_tree.specs.Tree.{Tree}
use Rattle.regress_prefilter.specs.Candidates.{AreCandidates}
use Rattle.regress_prefilter.specs.declared.candidates.Candidates.{Candidates}
use Rattle.regress_program.specs.Compiled.{IsPattern}
use Rattle.regress_program.specs.Program.{Routine}
use Rattle.regress_code.specs.Candidates.{BeginsAt}

-- the candidates of a tree are those of its program
pub pattern_begins : (c : Candidates) (program : List Routine) (t : Tree) → IsPattern program t → AreCandidates c t → BeginsAt c program
pattern_begins c program t pattern are = λ setting text outs solution s le not.
    pattern.means setting text outs solution s le ∙ are setting text s not
