use Rattle.std.proofs.Common.{◌∙◌, sym}
use Rattle.regress_backtrack.specs.Memory.{entries_in}
use Rattle.regress_match.specs.Memory.{memory_of}
use Rattle.regress_match.specs.Iterated.{iterated_from, iterated_matcher, iterated_text}
use Rattle.regress_match.proofs.CostLemmas.{stack_needs_more}
use Rattle.regress_match.proofs.matcher_matches.MatcherMatches.backtrack_before_tables.Goals as goal

pub invariant_of-self : goal.invariant_of-self
invariant_of-self c =
    let s = c.backtrack.new.self in
    record {
      runs = s.runs;
      within = s.within;
      short = s.short;
      fits = s.fits;
      held = c.new.ensures.within (entries_in (memory_of (iterated_matcher s)));
      kept = s.kept;
    }

pub returns-then-not-is_linear_in-clause-too_much : goal.returns-then-not-is_linear_in-clause-too_much
returns-then-not-is_linear_in-clause-too_much c = λ is.
    let s = c.args.self.now in
    stack_needs_more (iterated_matcher s) (iterated_text s) (iterated_from s) (sym c.is_linear_in.ensures ∙ c.if-not-is_linear_in.true)
    (c.in-Err-TooMuchMemory.ensures.too_much c.in-Err-TooMuchMemory.field-0-is)
