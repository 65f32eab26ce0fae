use Rattle.std.proofs.Common.{◌∙◌, ap, subst, sym}
use Rattle.std.specs.List.Sorted.{IsPermutation}
use Rattle.regress_front.specs.Dialects.{flags_in_force}
use Rattle.regress_front.specs.Groups.{pattern_groups}
use Rattle.regress_front.specs.Settled.{IsFaultIn}
use Rattle.regress_front.specs.Meaning.{setting_of}
use Rattle.regress_front.specs.Steps.{byte_state}
use Rattle.regress_front.specs.TableOf.{table_of}
use Rattle.regress_front.specs.TreeOf.{tree_of}
use Rattle.regress_front.specs.WellFormed.{captures}
use Rattle.regress_parse.proofs.lemmas.{permuted-tree_of}
use Rattle.regress.specs.OutsidePairs.{tree_matches_outside_pairs}
use Rattle.regress.proofs.OutsidePairsLemmas.{outside-tree_of}
use Rattle.regress.proofs.compiling.optimized.Goals as goal

pub returns-clause-tree : goal.returns-clause-tree
returns-clause-tree c =
    let setting = setting_of (flags_in_force c.args.dialect c.args.flags) c.args.tables.now in
    let parsed = c.in-Ok.ensures in
    let made = c.optimize.ensures in
    let pattern = parsed.accepted.0 in
    let accepted = parsed.accepted.1 in
    record {
      pattern = pattern;
      accepted = accepted;
      meaning = λ text from is_text is_state.
          sym ((made.meaning setting text is_text).same (byte_state text from)) ∙ parsed.meaning pattern accepted text from is_text is_state;
      captures = subst (IsPermutation (pattern_groups pattern)) (sym (made.captures ∙ ap captures parsed.accepted.2)) (permuted-tree_of _ pattern);
      well_formed = made.well_formed;
    }

pub returns-clause-outside : goal.returns-clause-outside
returns-clause-outside c p accepted =
    let table = table_of c.args.tables.now in
    let parsed = c.in-Ok.ensures in
    c.matches_outside_pairs-outside.ensures
    ∙ ap tree_matches_outside_pairs
    (parsed.accepted.2 ∙ ap (tree_of table) (c.try_parse_in.ensures.only parsed.accepted.0 p parsed.accepted.1.derived accepted.derived))
    ∙ outside-tree_of table p

pub returns-in-Err-clause-failed : goal.returns-in-Err-clause-failed
returns-in-Err-clause-failed c options same =
    let setting = setting_of (flags_in_force c.args.dialect c.args.flags) c.args.tables.now in
    c.syntax_error.ensures setting options
    (subst (λ dialect. IsFaultIn dialect setting c.args.points.now c.in-Err.fault) (sym same) c.in-Err.ensures.rejected)
