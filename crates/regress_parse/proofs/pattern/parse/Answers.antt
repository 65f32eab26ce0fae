use Rattle.std.proofs.Common.{◌+◌, ◌<◌, [], Ok, Err, inl, refl, sym, ap, ap₂, ◌∙◌, subst, arith}
use Rattle.std.proofs.lemmas.Result.{err_from_is_err_and}
use Rattle.regress_base.specs.Limits.{max_capture_groups}
use Rattle.regress_tree.specs.Reading.{forwards}
use Rattle.regress_tree.specs.Tree.{Tree, trees, cat, more_trees, no_trees}
use Rattle.regress_unicode.specs.TableOf.{table_of}
use Rattle.regress_syntax.specs.Meaning.{setting_of}
use Rattle.regress_tree.specs.WellFormed.{IsWellFormed}
use Rattle.regress_tree.proofs.lemmas.Nodes.{tree-Cat, tree-Goal}
use Rattle.regress_syntax.specs.Syntax.{counts}
use Rattle.regress_syntax.specs.Views.{names_in}
use Rattle.regress_lexer.proofs.lemmas.Sources.{on_kind_then}
use Rattle.regress_parse.specs.Parsing.{YieldsWhole}
use Rattle.regress_parse.specs.TreeOf.{tree_of, tree_of_pattern}
use Rattle.regress_parse.specs.Accepted.{Means}
use Rattle.regress_parse.proofs.AcceptedLemmas.{found_names, scanned, most, scanned-is, names_found, derived_reads, same_derived, tokens-say, reading-says, tokens-apart, fit-limits}
use Rattle.regress_parse.proofs.ReachLemmas.{whole_exceeds, tokens_exceed}
use Rattle.regress_parse.proofs.GrammarLemmas.{pattern_at-sound}
use Rattle.regress_parse.proofs.MeaningLemmas.{tree_of-means}
use Rattle.regress_parse.proofs.DuplicateLemmas.{reported_by_scan, reported_by_parser}
use Rattle.regress_parse.proofs.SettledLemmas.{settled}
use Rattle.regress_parse.proofs.SpansOfWhole.{accepted-spans}
use Rattle.regress_parse.proofs.lemmas.Scanned.{scanned_context}
use Rattle.regress_parse.proofs.WellFormedLemmas.{tree_of-well_formed}
use Rattle.regress_parse.proofs.pattern.parse.Goals as goal

pub returns-in_err-found-clause-reported : goal.returns-in_err-found-clause-reported
returns-in_err-found-clause-reported g c =
    let p = err_from_is_err_and c.from_residual.result c.from_residual.ensures.1 in
    rw (p.1, p.2) (on_kind_then c.in_err-found.field-0.0
    (λ kind shown p h. inl (tokens-say c.args.dialect (setting_of c.args.flags c.args.tables.now) c.args.pattern.now c.in_err-found.ensures.whole kind shown p h))
    c.in_err-found.ensures.rejected)

pub returns-in_err-found-clause-settled : goal.returns-in_err-found-clause-settled
returns-in_err-found-clause-settled g c =
    let p = err_from_is_err_and c.from_residual.result c.from_residual.ensures.1 in
    rw (p.1, p.2) (settled c.args.dialect (setting_of c.args.flags c.args.tables.now) c.args.pattern.now c.in_err-found.field-0.0
    c.args.tables.now.sound.lawful c.in_err-found.ensures.located)

pub returns-in_err-body-clause-settled : goal.returns-in_err-body-clause-settled
returns-in_err-body-clause-settled g c =
    let p = err_from_is_err_and c.from_residual-in_err-body.result c.from_residual-in_err-body.ensures.1 in
    rw (p.1, p.2) (settled c.args.dialect (setting_of c.args.flags c.args.tables.now) c.args.pattern.now c.in_err-body.field-0.0
    c.args.tables.now.sound.lawful (c.in_err-body.ensures.located c.args.flags.unicode_sets c.in_ok-found.ensures.first_errors))

pub returns-in_err-found-clause-duplicate : goal.returns-in_err-found-clause-duplicate
returns-in_err-found-clause-duplicate g c =
    let p = err_from_is_err_and c.from_residual.result c.from_residual.ensures.1 in
    rw (p.1, p.2) (reported_by_scan (setting_of c.args.flags c.args.tables.now) c.args.pattern.now c.in_err-found.field-0.0 c.in_err-found.ensures.duplicate)

pub returns-in_err-body-clause-duplicate : goal.returns-in_err-body-clause-duplicate
returns-in_err-body-clause-duplicate g c =
    let p = err_from_is_err_and c.from_residual-in_err-body.result c.from_residual-in_err-body.ensures.1 in
    rw (p.1, p.2) (reported_by_parser (setting_of c.args.flags c.args.tables.now) c.args.pattern.now c.in_err-body.field-0.0 c.in_ok-found.ensures.apart)

pub returns-in_err-found-clause-only : goal.returns-in_err-found-clause-only
returns-in_err-found-clause-only g c =
    same_derived c.args.dialect (setting_of c.args.flags c.args.tables.now) c.args.pattern.now c.in_err-found.ensures.whole

pub returns-in_err-body-clause-reported : goal.returns-in_err-body-clause-reported
returns-in_err-body-clause-reported g c =
    let p = err_from_is_err_and c.from_residual-in_err-body.result c.from_residual-in_err-body.ensures.1 in
    let setting = setting_of c.args.flags c.args.tables.now in
    let t = c.args.pattern.now in
    let found = c.in_ok-found.ensures in
    let same = scanned-is c.args.dialect setting t found.whole c.in_ok-found.found.groups.count (names_in c.in_ok-found.found.groups) found.names found.count in
    let yields : YieldsWhole (scanned c.args.dialect setting t found.whole (most c.args.dialect setting t found.whole)) t (Err c.in_err-body.field-0.0) =
    subst (λ ctx. YieldsWhole ctx t (Err c.in_err-body.field-0.0)) same c.in_err-body.ensures.value in
    rw (p.1, p.2) (on_kind_then c.in_err-body.field-0.0 (reading-says c.args.dialect setting t found.whole found.nesting) yields)

pub returns-in_err-found-clause-limits : goal.returns-in_err-found-clause-limits
returns-in_err-found-clause-limits g c =
    let p = err_from_is_err_and c.from_residual.result c.from_residual.ensures.1 in
    rw (p.1, p.2) (on_kind_then c.in_err-found.field-0.0
    (tokens_exceed c.args.flags.unicode_sets (table_of c.args.tables.now) c.args.pattern.now) c.in_err-found.ensures.rejected)

pub returns-in_err-body-clause-limits : goal.returns-in_err-body-clause-limits
returns-in_err-body-clause-limits g c =
    let p = err_from_is_err_and c.from_residual-in_err-body.result c.from_residual-in_err-body.ensures.1 in
    rw (p.1, p.2) (on_kind_then c.in_err-body.field-0.0 (whole_exceeds c.args.pattern.now) c.in_err-body.ensures.reached)

pub returns-in_err-body-clause-only : goal.returns-in_err-body-clause-only
returns-in_err-body-clause-only g c =
    same_derived c.args.dialect (setting_of c.args.flags c.args.tables.now) c.args.pattern.now c.in_ok-found.ensures.whole

pub returns-in_err-parts-clause-only : goal.returns-in_err-parts-clause-only
returns-in_err-parts-clause-only g c =
    same_derived c.args.dialect (setting_of c.args.flags c.args.tables.now) c.args.pattern.now c.in_ok-found.ensures.whole

-- The pattern that was parsed, and its tree.
pub returns-clause-accepted : goal.returns-clause-accepted
returns-clause-accepted g c =
    let setting = setting_of c.args.flags c.args.tables.now in
    let t = c.args.pattern.now in
    let found = c.in_ok-found.ensures in
    let same = scanned-is c.args.dialect setting t found.whole c.in_ok-found.found.groups.count (names_in c.in_ok-found.found.groups) found.names found.count in
    let here = scanned c.args.dialect setting t found.whole (most c.args.dialect setting t found.whole) in
    let read : YieldsWhole here t (Ok c.in_ok-body.body) = subst (λ ctx. YieldsWhole ctx t (Ok c.in_ok-body.body)) same c.in_ok-body.ensures.value in
    let p = read.0 in
    let few : (counts p).groups < max_capture_groups + 1 = omega (arith, read.2.groups) in
    let derived = derived_reads c.args.dialect setting t found.whole p read.1 few in
    let names = names_found c.args.dialect setting t found.whole here p refl refl (pattern_at-sound here t (p, []) read.1) in (
      p,
      record {
        derived = derived;
        limits = fit-limits setting (found_names c.args.dialect setting t found.whole) p read.2;
        names = tokens-apart c.args.dialect setting t found.whole p found.apart derived;
      },
      tree-Cat c.in_ok-parts.parts
          ∙ ap (λ nodes. cat (trees nodes)) c.in_ok-parts.ensures.items
          ∙ ap₂ (λ a b. cat (more_trees a (more_trees b no_trees)))
          (read.3 ∙ ap (λ names. tree_of_pattern setting.table names forwards 0 p) (sym names)) tree-Goal,
    )

pub returns-clause-spans : goal.returns-clause-spans
returns-clause-spans g c on p accepted =
    let setting = setting_of c.args.flags c.args.tables.now in
    let t = c.args.pattern.now in
    let found = c.in_ok-found.ensures in
    let groups = c.in_ok-found.found.groups in
    accepted-spans c.args.dialect setting t p accepted _ (scanned_context c.args.dialect setting t found.whole p accepted groups.count (names_in groups) found.names found.count)
    c.in_ok-body.body.spans.items (c.in_ok-body.ensures.spans on)

pub returns-clause-only : goal.returns-clause-only
returns-clause-only g c = same_derived c.args.dialect (setting_of c.args.flags c.args.tables.now) c.args.pattern.now c.in_ok-found.ensures.whole

pub returns-clause-meaning : goal.returns-clause-meaning
returns-clause-meaning g c q accepted =
    let setting = setting_of c.args.flags c.args.tables.now in
    let found = returns-clause-accepted g c in
    let one = same_derived c.args.dialect setting c.args.pattern.now c.in_ok-found.ensures.whole found.0 q found.1.derived accepted.derived in
    subst (λ (t : Tree). Means setting t q) (sym (found.2 ∙ ap (tree_of setting.table) one)) (tree_of-means setting q)

pub returns-clause-well_formed : goal.returns-clause-well_formed
returns-clause-well_formed g c =
    let setting = setting_of c.args.flags c.args.tables.now in
    let found = returns-clause-accepted g c in
    subst (λ (t : Tree). IsWellFormed t) (sym found.2)
    (tree_of-well_formed c.args.dialect setting c.args.pattern.now found.0 c.args.tables.now.sound.lawful c.requires found.1.derived)

pub returns-clause-flags : goal.returns-clause-flags
returns-clause-flags g c = refl
