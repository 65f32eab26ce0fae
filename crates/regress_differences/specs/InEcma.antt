-- Whether a pattern has the same tree in the dialect `Ecma`, and what it matches then.
use Rattle.std.specs.Prelude.{◌≡◌, ◌≤◌, ℕ, List, [], length, option_map, slice_get, encode_utf8_all, None}
use Rattle.std.proofs.Math.ListN.{replicate}
use Rattle.regress_tree.specs.Matching.{matches}
use Rattle.regress_tree.specs.Reading.{IsText, forwards}
use Rattle.regress_tree.specs.Steps.{MatchState, byte_state, Setting}
use Rattle.regress_tree.specs.Tree.{Tree}
use Rattle.regress_lexer.specs.Dialects.{flags_in_force}
use Rattle.regress_lexer.specs.Source.{Source}
use Rattle.regress_lexer.specs.declared.dialect.Dialect.TheVariants.{Ecma}
use Rattle.regress_syntax.specs.Syntax.{Pattern, names}
use Rattle.regress_parse.specs.Accepted.{IsAcceptedIn, own_context_in}
use Rattle.regress_parse.specs.TreeOf.{tree_of}
use Rattle.regress_ecma.specs.CompiledClasses.{with_char_sets}
use Rattle.regress_ecma.specs.Exec.{match_at, in_bytes}

-- The dialect `Ecma` accepts the pattern, with the same flags in force and with this tree.
pub record IsTreeInEcma (setting : Setting) (source : Source) (t : Tree) : Type 0 where
  pub flags : flags_in_force Ecma setting.flags ≡ setting.flags
  pub pattern : Pattern
  pub accepted : IsAcceptedIn Ecma setting source pattern
  pub same : tree_of setting.table pattern ≡ t

-- the state at an index of a text, with all groups of the pattern unset
abbrev pub start_at : Pattern → (index : ℕ) → MatchState
start_at p index = record { position = index; captures = replicate (length (names p)) None }

-- On each text and from each index, the first outcome of the tree is the match of ECMA-262, as byte offsets. Each class has
-- the CharSet that CompileToCharSet returns for its source.
abbrev pub FindsMatchesOfEcma : Setting → Source → Tree → Type 0
FindsMatchesOfEcma setting source t =
    (p : Pattern) × (accepted : IsAcceptedIn Ecma setting source p)
    × ((text : List ℕ) → IsText text → (index : ℕ) → index ≤ length text →
    slice_get (matches setting (encode_utf8_all text) forwards t (byte_state text (start_at p index))) 0
    ≡ option_map in_bytes (match_at setting (with_char_sets (own_context_in Ecma setting p) p source [] accepted.derived) text index))
