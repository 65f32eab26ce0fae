pub mod Optimized
-- The definitions that the public contracts cite, exported again, so that a caller names one library.

-- Sets, bytes and limits.
pub use Rattle.regress_base.specs.Limits
pub use Rattle.regress_base.specs.NoFlags
pub use Rattle.regress_base.specs.Intervals
pub use Rattle.regress_base.specs.Classes
pub use Rattle.regress_base.specs.Brackets
pub use Rattle.regress_base.specs.Utf8
pub use Rattle.regress_base.specs.FirstBytes
pub use Rattle.regress_base.specs.ByteSets
pub use Rattle.regress_base.specs.ByteBitmap
pub use Rattle.regress_base.specs.AsciiBitmap
pub use Rattle.regress_base.specs.Positions
pub use Rattle.regress_base.specs.Needle
pub use Rattle.regress_base.specs.Ranges
-- The table of case and properties.
pub use Rattle.regress_base.specs.Table
pub use Rattle.regress_properties.specs.Listed
pub use Rattle.regress_properties.specs.Properties
pub use Rattle.regress_unicode.specs.FoldEntries
pub use Rattle.regress_unicode.specs.Parts
pub use Rattle.regress_unicode.specs.ValidEntries
pub use Rattle.regress_unicode.specs.TableOf
pub use Rattle.regress_unicode.specs.ConstructionErrors
pub use Rattle.regress_base.specs.Listing
pub use Rattle.regress_unicode.specs.SmallTable
-- Trees, and what they match.
pub use Rattle.regress_tree.specs.Reading
pub use Rattle.regress_tree.specs.Steps
pub use Rattle.regress_tree.specs.Assertions
pub use Rattle.regress_tree.specs.Repetition
pub use Rattle.regress_tree.specs.Lookaround
pub use Rattle.regress_tree.specs.References
pub use Rattle.regress_tree.specs.Tree
pub use Rattle.regress_tree.specs.Display
pub use Rattle.regress_tree.specs.Matching
pub use Rattle.regress_tree.specs.WellFormed
pub use Rattle.regress_tree.specs.Measures
pub use Rattle.regress_tree.specs.Units
pub use Rattle.regress_tree.specs.Shapes
pub use Rattle.regress_tree.specs.NormalForm
pub use Rattle.regress_tree.specs.NodeTests
pub use Rattle.regress_tree.specs.Copies
pub use Rattle.regress_tree.specs.Visits
pub use Rattle.regress_tree.specs.Walk
pub use Rattle.regress_tree.specs.SmallSets
pub use Rattle.regress_literal.specs.Literal
-- Patterns.
pub use Rattle.regress_lexer.specs.Source
pub use Rattle.regress_lexer.specs.Dialects
pub use Rattle.regress_lexer.specs.FaultKinds
pub use Rattle.regress_syntax.specs.Syntax
pub use Rattle.regress_syntax.specs.Grammar
pub use Rattle.regress_syntax.specs.Meaning
pub use Rattle.regress_syntax.specs.SameNames
pub use Rattle.regress_syntax.specs.FirstErrors
pub use Rattle.regress_parse.specs.TreeOf
pub use Rattle.regress_parse.specs.Accepted
pub use Rattle.regress_parse.specs.Rejected
pub use Rattle.regress_parse.specs.Groups
pub use Rattle.regress_parse.specs.Fault
pub use Rattle.regress_parse.specs.Settled
pub use Rattle.regress_parse.specs.Spans
pub use Rattle.regress_parse.specs.Bound
pub use Rattle.regress_spans.specs.Paired
-- Rewriting.
pub use Rattle.regress_rewrite.specs.Law
