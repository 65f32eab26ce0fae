use Rattle.std.proofs.Common.{◌≡◌, ◌≤◌, ◌+◌, ◌*◌, ◌==◌, true, false, not, Some, length}
use Rattle.regress_lexer.specs.Source.{Source, ends_alternative}
use Rattle.regress_syntax.specs.Syntax.{Counts}
use Rattle.regress_parse.specs.Reader.{Term, term_at}
use Rattle.regress_parse.specs.Parsing.{text, counted, context_in, table_in, names_in_context, direction_of, term_part, Builds, CountsAtMostConsumed}
use Rattle.regress_parse.proofs.TermLoopInvariant.{TermsSoFar}
use Rattle.regress_parse.proofs.AlternativesLemmas.{AlternativesSoFar}
use Rattle.regress_parse.proofs.SpansOfTerms.{TermSpansSoFar}
use Rattle.regress_parse.proofs.SpansOfPattern.{PatternSpansSoFar}
use Rattle.regress_parse.proofs.parser.Parser.+parser.Given as goal

-- Every item starts with a code point that it consumes. Until then the calls go from an item to a term.
abbrev pub decreases-consume_group : goal.decreases-consume_group
decreases-consume_group g l = 8 * length (text l.self.now) + 6

abbrev pub decreases-consume_disjunction : goal.decreases-consume_disjunction
decreases-consume_disjunction g l = 8 * length (text l.self.now) + 5

abbrev pub decreases-consume_alternative : goal.decreases-consume_alternative
decreases-consume_alternative g l = 8 * length (text l.self.now) + 4

abbrev pub decreases-consume_recorded : goal.decreases-consume_recorded
decreases-consume_recorded g l = 8 * length (text l.self.now) + 3

abbrev pub decreases-consume_first_term : goal.decreases-consume_first_term
decreases-consume_first_term g l = 8 * length (text l.self.now) + 3

abbrev pub decreases-consume_term : goal.decreases-consume_term
decreases-consume_term g l = 8 * length (text l.self.now) + 2

abbrev pub decreases-consume_terms : goal.decreases-consume_terms
decreases-consume_terms g l = 8 * length (text l.self.now) + 3

-- The list of the loop has the nodes of the terms parsed since the first one, wherever that started.
abbrev pub invariant-consume_terms-loop-self : goal.invariant-consume_terms-loop-self
invariant-consume_terms-loop-self g l =
    ((t : Source) (before : Counts) (x : Term) → ends_alternative t ≡ false → term_at (context_in l.around) t ≡ Some (x, text l.fn.self) →
    Builds (direction_of l.around) l.around.depth before l.fn.self l.fn.first (term_part (table_in l.around) (names_in_context l.around) x) (text l.fn.self) →
    TermsSoFar (table_in l.around) (names_in_context l.around) (direction_of l.around) (context_in l.around) l.around.depth t before
    (text l.self) (counted l.self) l.parts.items)
    × (length (text l.self) ≤ length (text l.fn.self))
    × CountsAtMostConsumed (counted l.fn.self) (counted l.self) (text l.fn.self) (text l.self)

abbrev pub decreases-consume_terms-loop-self : goal.decreases-consume_terms-loop-self
decreases-consume_terms-loop-self g l = length (text l.self)

-- The same from the start of the alternative, with the spans of the terms.
abbrev pub invariant-consume_recorded-loop-self : goal.invariant-consume_recorded-loop-self
invariant-consume_recorded-loop-self g l =
    TermsSoFar (table_in l.around) (names_in_context l.around) (direction_of l.around) (context_in l.around) l.around.depth (text l.fn.self) (counted l.fn.self)
    (text l.self) (counted l.self) l.nodes.items
    × TermSpansSoFar l.around.whole (context_in l.around) (direction_of l.around) (text l.fn.self) l.fn.self.spans.items
    (text l.self) l.self.spans.items l.parts.items (length l.nodes.items)
    × CountsAtMostConsumed (counted l.fn.self) (counted l.self) (text l.fn.self) (text l.self)

abbrev pub decreases-consume_recorded-loop-self : goal.decreases-consume_recorded-loop-self
decreases-consume_recorded-loop-self g l = length (text l.self)

abbrev pub invariant-consume_disjunction-loop-self : goal.invariant-consume_disjunction-loop-self
invariant-consume_disjunction-loop-self g l =
    AlternativesSoFar (table_in l.around) (names_in_context l.around) (direction_of l.around) (context_in l.around) l.around.depth (text l.fn.self)
    (counted l.fn.self)
    (text l.self) (counted l.self) l.before.items l.last
    × CountsAtMostConsumed (counted l.fn.self) (counted l.self) (text l.fn.self) (text l.self)
    × (not (g.row.RECORDS == 0) ≡ true → PatternSpansSoFar l.around.whole (context_in l.around) (direction_of l.around) (text l.fn.self) l.fn.self.spans.items
    (text l.self) l.self.spans.items l.starts.items l.start)

abbrev pub decreases-consume_disjunction-loop-self : goal.decreases-consume_disjunction-loop-self
decreases-consume_disjunction-loop-self g l = length (text l.self)
