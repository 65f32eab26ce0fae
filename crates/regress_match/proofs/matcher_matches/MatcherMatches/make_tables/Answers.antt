use Rattle.std.proofs.Common.{◌≡◌, false, ap, sym, ◌∙◌}
use Rattle.std.specs.Prelude.{is_some}
use Rattle.regress_program.specs.Tidy.{is_tabled}
use Rattle.regress_code.specs.Code.{code_groups, code_routines, code_tidy}
use Rattle.regress_match.specs.Matcher.{factor_of, linear_steps_of}
use Rattle.regress_match.proofs.FitLemmas.{some_fits}
use Rattle.regress_match.proofs.MatcherLemmas.{linear_has_tables, tables_kept}
use Rattle.regress_match.proofs.matcher_matches.MatcherMatches.make_tables.Goals as goal

pub invariant_of-self : goal.invariant_of-self
invariant_of-self c =
    let s = c.args.self.now in
    let made = c.in_ok-search.ensures in
    record {
      runs = s.runs;
      within = s.within;
      short = s.short;
      fits = made.fits;
      held = s.held;
      kept = tables_kept s.matcher.now s.text.now s.from c.steps-self.result c.in_ok-search.search (sym c.is_linear_in.ensures ∙ c.if-is_linear_in.true)
          s.matcher.now.compiled (made.code ∙ rw c.in-Some.is at c.new.ensures.code)
          (made.tables ∙ (rw c.in-Some.is at c.new.ensures.tables) ∙ c.known.ensures) made.text c.steps-self.ensures.within;
    }

pub returns-in_default-clause-made : goal.returns-in_default-clause-made
returns-in_default-clause-made c =
    let m = c.args.self.now.matcher.now in
    let none : is_tabled (code_tidy m.code) (code_routines m.code) ≡ false = sym c.new.ensures.linear ∙ ap is_some c.in_default.is in
    absurd (linear_has_tables (code_groups m.code) (code_tidy m.code) (code_routines m.code) m.within
    (some_fits (linear_steps_of m) (factor_of m) c.args.self.now.text.now (sym c.is_linear_in.ensures ∙ c.if-is_linear_in.true)).0 none)
