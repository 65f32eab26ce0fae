-- The output for a pattern.
use Rattle.std.specs.Prelude.{◌≡◌, ℕ, Bool, true, false, List, [], ◌++◌, codes}
use Rattle.regress_base.specs.declared.types.Flags.{Flags}
use Rattle.regress_lexer.specs.Source.{Source}
use Rattle.regress_lexer.specs.declared.dialect.Dialect.{Dialect}
use Rattle.regress_rewrite.specs.Law.{MeansTheSame}
use Rattle.regress_tree.specs.Display.{printed}
use Rattle.regress_tree.specs.NormalForm.{IsNormal}
use Rattle.regress_tree.specs.Reading.{forwards}
use Rattle.regress_tree.specs.WellFormed.{captures}
use Rattle.regress_tree.specs.Steps.{Setting}
use Rattle.regress_tree.specs.Tree.{Tree, tree}
use Rattle.regress_syntax.specs.Syntax.{Pattern}
use Rattle.regress_parse.specs.Accepted as parse
use Rattle.regress_parse.specs.TreeOf.{tree_of}
use Rattle.regress_svg.specs.Markup.{IsDocument}
use Rattle.regress_json.specs.Json.{spanned_json_of}
use Rattle.regress_parse.specs.Spans.{spans_in}
use Rattle.regress_parse.specs.declared.pattern.SpannedRegex.{SpannedRegex}
use Rattle.regress_parse.specs.declared.span.Span.{Span}
use Rattle.regress_display.specs.Request.{IsAccepted, setting_of_request, Request}
use Rattle.regress_display.specs.declared.request.Format.{Format}
use Rattle.regress_display.specs.declared.request.Format.TheVariants.{Text, Json, Svg}
use Rattle.regress_display.specs.declared.request.Stage.{Stage}
use Rattle.regress_display.specs.declared.request.Stage.TheVariants.{Parsed, Optimized, Both}

-- The output for one tree: its text, its JSON with the spans of its nodes, or a well-formed picture.
abbrev pub IsShownAs : Format → Flags → Tree → List Span → List ℕ → Type 0
IsShownAs Text flags t spans bytes = bytes ≡ printed t
IsShownAs Json flags t spans bytes = bytes ≡ spanned_json_of flags t spans ++ codes "\n"
IsShownAs Svg flags t spans bytes = (picture : List ℕ) × IsDocument picture × (bytes ≡ picture ++ codes "\n")

-- one tree, and these bytes after it
abbrev pub IsShownWith : Format → Flags → Tree → List Span → (after bytes : List ℕ) → Type 0
IsShownWith format flags t spans after bytes = (shown : List ℕ) × IsShownAs format flags t spans shown × (bytes ≡ shown ++ after)

-- a tree in normal form with the meaning and the captures of the other one
pub record IsOptimized (t optimized : Tree) : Type 0 where
  pub normal : IsNormal optimized
  pub meaning : MeansTheSame forwards t optimized
  pub captures : captures optimized ≡ captures t

-- an optimized tree of this one, whose nodes have no spans
abbrev pub IsOptimizedShown : Format → Flags → Tree → List ℕ → Type 0
IsOptimizedShown format flags t bytes = (optimized : Tree) × IsOptimized t optimized × IsShownWith format flags optimized [] [] bytes

-- the output for a parsed tree whose nodes have these spans
abbrev pub IsShown : Stage → Format → Flags → Tree → List Span → List ℕ → Type 0
IsShown Parsed format flags t spans bytes = IsShownWith format flags t spans [] bytes
IsShown Optimized format flags t spans bytes = IsOptimizedShown format flags t bytes
IsShown Both format flags t spans bytes = (first second : List ℕ) × IsShownWith format flags t spans (codes "--\n") first
    × IsOptimizedShown format flags t second × (bytes ≡ first ++ second)

-- The first part of the output of both trees: the parsed tree, and the line `--`. If one tree is shown, it has one part.
abbrev pub IsFirstShown : Stage → Format → Flags → Tree → List Span → List ℕ → Type 0
IsFirstShown Parsed format flags t spans bytes = ⊥
IsFirstShown Optimized format flags t spans bytes = ⊥
IsFirstShown Both format flags t spans bytes = IsShownWith format flags t spans (codes "--\n") bytes

-- Spans are part of the output of a parsed tree, except as text.
abbrev pub shows_spans : Format → Stage → Bool
shows_spans Text stage = false
shows_spans Json Optimized = false
shows_spans Json Parsed = true
shows_spans Json Both = true
shows_spans Svg Optimized = false
shows_spans Svg Parsed = true
shows_spans Svg Both = true

-- the tree of an accepted pattern of the dialect, and the spans of its nodes if they are shown
pub record IsParsed (shown : Bool) (dialect : Dialect) (setting : Setting) (source : Source) (r : SpannedRegex) : Type 0 where
  pub pattern : Pattern
  pub accepted : parse.IsAcceptedIn dialect setting source pattern
  pub parsed : tree r.regex.node ≡ tree_of setting.table pattern
  pub spans : shown ≡ true → r.spans.items ≡ spans_in dialect setting source pattern accepted.derived

-- the output for an accepted pattern
pub record IsOutput (request : Request) (bytes : List ℕ) : Type 0 where
  pub pattern : Pattern
  pub accepted : IsAccepted request pattern
  pub shown : IsShown request.stage request.format (setting_of_request request).flags (tree_of request.table pattern)
      (spans_in request.dialect (setting_of_request request) request.pattern pattern accepted.derived) bytes

-- the first part of it
pub record IsFirstOutput (request : Request) (bytes : List ℕ) : Type 0 where
  pub pattern : Pattern
  pub accepted : IsAccepted request pattern
  pub shown : IsFirstShown request.stage request.format (setting_of_request request).flags (tree_of request.table pattern)
      (spans_in request.dialect (setting_of_request request) request.pattern pattern accepted.derived) bytes
