-- The results of calls.
use Rattle.std.specs.Prelude.{◌≡◌, ◌<◌, ◌++◌, ℕ, Bool, true, false, List, drop, length}
use Rattle.regress_tree.specs.NormalForm.{IsNormal}
use Rattle.regress_tree.specs.Steps.{Setting}
use Rattle.regress_tree.specs.Tree.{Tree}
use Rattle.regress_tree.specs.WellFormed.{captures}
use Rattle.regress_lexer.specs.Source.{Source}
use Rattle.regress_lexer.specs.declared.dialect.Dialect.{Dialect}
use Rattle.regress_lexer.specs.declared.dialect.Dialect.TheVariants.{Regress}
use Rattle.regress_lexer.specs.declared.fault.FaultKind.{FaultKind}
use Rattle.regress_lexer.specs.FaultKinds.{number_of}
use Rattle.regress_syntax.specs.Syntax.{Pattern}
use Rattle.regress_parse.specs.TreeOf.{tree_of}
use Rattle.regress_parse.specs.Accepted.{IsAcceptedIn, Means}
use Rattle.regress_parse.specs.Fault.{text_of}
use Rattle.regress_parse.specs.Settled.{IsReportedIn}
use Rattle.regress_encoding.specs.Encoding.{encode}

-- A tree of the pattern that the source denotes in the dialect: as parsed, or in normal form.
pub record IsResult (dialect : Dialect) (setting : Setting) (source : Source) (optimized : Bool) (t : Tree) : Type 0 where
  pub pattern : Pattern
  pub accepted : IsAcceptedIn dialect setting source pattern
  pub parsed : optimized ≡ false → t ≡ tree_of setting.table pattern
  pub normal : optimized ≡ true → IsNormal t
  pub meaning : Means setting t pattern
  pub captures : captures t ≡ captures (tree_of setting.table pattern)

-- the encoding of such a tree
abbrev pub AreWords : Dialect → Setting → Source → Bool → List ℕ → Type 0
AreWords dialect setting source optimized words = (t : Tree) × IsResult dialect setting source optimized t × (words ≡ encode t)

-- A syntax error that is reported of the source: its kind has this number, and it is at this position.
pub record IsErrorIn (dialect : Dialect) (setting : Setting) (source : Source) (number position : ℕ) : Type 0 where
  pub kind : FaultKind
  pub numbered : number ≡ number_of kind
  pub reported : IsReportedIn dialect setting source kind position

-- the text of such a syntax error
abbrev pub IsText : Dialect → Setting → Source → (number position : ℕ) → List ℕ → Type 0
IsText dialect setting source number position text = (error : IsErrorIn dialect setting source number position) × (text ≡ text_of error.kind)

-- such a syntax error in the dialect Regress
abbrev pub IsError : Setting → Source → (number position : ℕ) → Type 0
IsError = IsErrorIn Regress

-- All items of a list with this property are at the start of the buffer, and `needed` is their number.
abbrev pub Gives : {X : Type 0} → (List X → Type 0) → (needed : ℕ) (old new : List X) → Type 0
Gives {X} P needed old new = (items : List X) × P items × (needed ≡ length items) × (new ≡ items ++ drop (length items) old)

-- The buffer is shorter than a list of items with this property, and `needed` is their number.
abbrev pub IsTooSmall : {X : Type 0} → (List X → Type 0) → (needed : ℕ) (old : List X) → Type 0
IsTooSmall {X} P needed old = (items : List X) × P items × (needed ≡ length items) × (length old < length items)
