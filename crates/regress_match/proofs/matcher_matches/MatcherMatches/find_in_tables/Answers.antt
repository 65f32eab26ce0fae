use Rattle.std.proofs.Common.{◌≡◌, ◌+◌, ◌-◌, ◌^◌, ◌≤◌, Some, length, min, sym, ◌∙◌, ap, subst, arith}
use Rattle.std.specs.Str.{IsUtf8}
use Rattle.regress_tree.specs.WellFormed.{IsWellFormed}
use Rattle.regress_match.specs.Kept.{IfKept, IsKept}
use Rattle.regress_code.specs.Code.{captures_cost}
use Rattle.regress_found.specs.Tried.{positions_tried}
use Rattle.regress_found.specs.Results.{IsSearchResult, IfMatched}
use Rattle.regress_found.specs.Found.{IsInside, start_of}
use Rattle.regress_match.specs.Pattern.{matcher_outcomes, matcher_tree}
use Rattle.regress_match.specs.Matcher.{outcome_if}
use Rattle.regress_found.specs.Repeated.{offset_after}
use Rattle.regress_match.proofs.MatcherLemmas.{kept_finds, kept_inside, kept_more, kept_starts}
use Rattle.regress_match.proofs.SpentLemmas.{tables_tried}
use Rattle.regress_match.proofs.matcher_matches.MatcherMatches.find_in_tables.Goals as goal

pub offset_after-from-requires : goal.offset_after-from-requires
offset_after-from-requires c =
    let s = c.args.self.now in
    let kept : IsKept s.matcher.now s.text.now s.from s.searched c.in-Some.search = subst (IfKept s.matcher.now s.text.now s.from s.searched) c.in-Some.is s.kept in
    let found = c.in_ok-found.ensures in
    subst (λ t. IfMatched c.outcome_of-outcome.result (λ m. start_of m ≤ length t)) (sym c.text-text.ensures)
    (subst (λ o. IfMatched o (λ m. start_of m ≤ length s.text.now)) (sym c.outcome_of-outcome.ensures)
    (kept_starts s.matcher.now s.text.now s.from s.searched c.in-Some.search kept c.in_ok-found.found found.solved found.inside found.steps))

pub invariant_of-self-2 : goal.invariant_of-self-2
invariant_of-self-2 c =
    let s = c.args.self.now in
    let kept : IsKept s.matcher.now s.text.now s.from s.searched c.in-Some.search = subst (IfKept s.matcher.now s.text.now s.from s.searched) c.in-Some.is s.kept in
    let found = c.in_ok-found.ensures in
    let moved : c.offset_after-from.result ≡ offset_after s.text.now s.from (outcome_if c.in_ok-found.found.found) =
    c.offset_after-from.ensures ∙ ap (λ t. offset_after t s.from c.outcome_of-outcome.result) c.text-text.ensures
    ∙ ap (offset_after s.text.now s.from) c.outcome_of-outcome.ensures in
    record {
      runs = s.runs;
      within = s.within;
      short = s.short;
      fits = s.fits;
      held = s.held;
      kept = subst (IfKept s.matcher.now s.text.now c.offset_after-from.result c.saturating_add-searched.result) (sym c.in-Some.is)
          (kept_more s.matcher.now s.text.now s.from s.searched c.in-Some.search kept c.in_ok-found.found found.solved found.inside found.steps
          c.offset_after-from.result c.saturating_add-searched.result (omega (arith, c.saturating_add-searched.ensures)) moved);
    }

pub returns-clause-finds : goal.returns-clause-finds
returns-clause-finds c =
    let s = c.args.self.now in
    let kept : IsKept s.matcher.now s.text.now s.from s.searched c.in-Some.search = subst (IfKept s.matcher.now s.text.now s.from s.searched) c.in-Some.is s.kept in
    let found = c.in_ok-found.ensures in
    subst (IsSearchResult s.text.now (matcher_outcomes s.matcher.now s.text.now) s.from) (sym c.outcome_of-outcome.ensures)
    (kept_finds s.matcher.now s.text.now s.from s.searched c.in-Some.search kept c.in_ok-found.found found.solved found.inside found.steps)

pub returns-clause-inside : goal.returns-clause-inside
returns-clause-inside c =
    let s = c.args.self.now in
    let kept : IsKept s.matcher.now s.text.now s.from s.searched c.in-Some.search = subst (IfKept s.matcher.now s.text.now s.from s.searched) c.in-Some.is s.kept in
    let found = c.in_ok-found.ensures in
    subst (λ o. IsWellFormed (matcher_tree s.matcher.now) → IfMatched o (IsInside s.text.now)) (sym c.outcome_of-outcome.ensures)
    (kept_inside s.matcher.now s.text.now s.from s.searched c.in-Some.search kept c.in_ok-found.found found.solved found.inside found.steps
    (subst IsUtf8 c.text-text.ensures c.text-text.utf8))

pub returns-clause-tried : goal.returns-clause-tried
returns-clause-tried c =
    let s = c.args.self.now in
    let kept : IsKept s.matcher.now s.text.now s.from s.searched c.in-Some.search = subst (IfKept s.matcher.now s.text.now s.from s.searched) c.in-Some.is s.kept in
    subst (λ o. IfMatched o (λ m. min (s.searched + (captures_cost s.matcher.now.code + positions_tried s.text.now s.from (Some m))) (2 ^ 64 - 1) ≤ c.saturating_add-searched.result))
    (sym c.outcome_of-outcome.ensures)
    (tables_tried s.matcher.now s.text.now s.from s.searched c.in-Some.search kept c.in_ok-found.found.found c.in_ok-found.found.steps s.searched
    c.saturating_add-searched.result c.in_ok-found.ensures.charged c.saturating_add-searched.ensures)
