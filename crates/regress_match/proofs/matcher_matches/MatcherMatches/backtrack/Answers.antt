use Rattle.std.proofs.Common.{rules, ◌≡◌, ◌≤◌, ℕ, List, Option, IfErr, IfSome, length, subst, sym, ◌∙◌, arith}
use Rattle.std.proofs.lemmas.Result.{IfErr-weaker}
use Rattle.std.specs.Str.{IsUtf8}
use Rattle.regress_backtrack.specs.Backtracker.{run_room}
use Rattle.regress_backtrack.specs.Memory.{IsWithin}
use Rattle.regress_backtrack.specs.declared.backtracker.Backtracker.{Backtracker}
use Rattle.regress_backtrack.specs.declared.cache.Cache.{Cache}
use Rattle.regress_found.specs.Results.{IfMatched}
use Rattle.regress_found.specs.Found.{start_of}
use Rattle.regress_match.specs.Kept.{IsBacktrackerOf}
use Rattle.regress_match.specs.Memory.{AreStacksWithin}
use Rattle.regress_match.specs.declared.matcher.Matcher.{Matcher}
use Rattle.regress_match.specs.Pattern.{matcher_outcomes, matcher_setting, matcher_tree}
use Rattle.regress_match.proofs.CostLemmas.{may_fill, run_tried, run_within}
use Rattle.regress_match.proofs.MatcherLemmas.{found_inside, kept_none, run_matches, starts_inside}
use Rattle.regress_match.proofs.matcher_matches.MatcherMatches.backtrack.Goals as goal

pub offset_after-from-requires : goal.offset_after-from-requires
offset_after-from-requires c =
    let s = c.args.self.now in
    subst (λ t. IfMatched c.in_ok-outcome.outcome (λ m. start_of m ≤ length t)) (sym c.text-text.ensures)
    (starts_inside s.text.now (matcher_outcomes s.matcher.now s.text.now) s.from c.in_ok-outcome.outcome
    (run_matches s.matcher.now s.text.now s.backtracker s.from c.in_ok-outcome.outcome s.runs c.in_ok-outcome.ensures.solved))

-- the stacks of the cache stay within the memory
stays_within : (m : Matcher) (text : List ℕ) (b : Backtracker) → IsBacktrackerOf m text b → (before after : Option Cache) →
    (IfSome before (IsWithin (run_room b)) → IfSome after (IsWithin (run_room b))) → IfSome before (AreStacksWithin m) → IfSome after (AreStacksWithin m)
stays_within m text b is before after = subst (λ room. IfSome before (IsWithin room) → IfSome after (IsWithin room)) is.room

pub invariant_of-self : goal.invariant_of-self
invariant_of-self c =
    let s = c.args.self.now in
    record {
      runs = s.runs;
      within = s.within;
      short = s.short;
      fits = s.fits;
      held = stays_within s.matcher.now s.text.now s.backtracker s.runs s.cache c.find_by_kept.new.kept c.find_by_kept.ensures.within s.held;
      kept = s.kept;
    }

pub invariant_of-self-2 : goal.invariant_of-self-2
invariant_of-self-2 c =
    let s = c.args.self.now in
    record {
      runs = s.runs;
      within = omega (arith, s.within, c.in_ok-outcome.ensures.remaining);
      short = s.short;
      fits = s.fits;
      held = stays_within s.matcher.now s.text.now s.backtracker s.runs s.cache c.find_by_kept.new.kept c.find_by_kept.ensures.within s.held;
      kept = kept_none s.matcher.now s.text.now s.from c.offset_after-from.result s.searched s.search c.requires s.kept;
    }

pub returns-clause-inside : goal.returns-clause-inside
returns-clause-inside c =
    let s = c.args.self.now in
    found_inside (matcher_setting s.matcher.now) s.text.now (subst IsUtf8 c.text-text.ensures c.text-text.utf8) (matcher_tree s.matcher.now) s.from
    c.in_ok-outcome.outcome (run_matches s.matcher.now s.text.now s.backtracker s.from c.in_ok-outcome.outcome s.runs c.in_ok-outcome.ensures.solved)

pub returns-clause-finds : goal.returns-clause-finds
returns-clause-finds c =
    let s = c.args.self.now in
    run_matches s.matcher.now s.text.now s.backtracker s.from c.in_ok-outcome.outcome s.runs c.in_ok-outcome.ensures.solved

pub returns-clause-costs : goal.returns-clause-costs
returns-clause-costs c =
    let s = c.args.self.now in
    run_within s.matcher.now s.text.now s.backtracker s.runs s.from s.remaining c.find_by_kept.new.remaining c.in_ok-outcome.ensures.costs

pub returns-clause-tried : goal.returns-clause-tried
returns-clause-tried c =
    let s = c.args.self.now in
    run_tried s.matcher.now s.text.now s.backtracker s.runs s.from c.in_ok-outcome.outcome s.remaining c.find_by_kept.new.remaining c.in_ok-outcome.ensures.tried

pub returns-in_err-outcome-clause-too_much : goal.returns-in_err-outcome-clause-too_much
returns-in_err-outcome-clause-too_much c =
    let s = c.args.self.now in
    let the_fault : IfErr c.from_residual.result (λ fault. fault ≡ c.in_err-outcome.field-0.0) = search rules in
    IfErr-weaker c.from_residual.result _ _
    (λ fault is much. may_fill s.matcher.now s.text.now s.backtracker s.runs s.from (c.in_err-outcome.ensures.too_much (sym is ∙ much)))
    the_fault
