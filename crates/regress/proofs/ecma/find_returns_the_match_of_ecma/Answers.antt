use Rattle.std.proofs.Common.{◌+◌, ◌∙◌, [], ap, arith, chars, length, option_map, refl, sym}
use Rattle.regress_front.specs.Accepted.{own_context, own_context_in}
use Rattle.regress_front.specs.declared.parse.Dialect.TheVariants.{Ecma}
use Rattle.regress_ecma.specs.CompiledClasses.{with_char_sets}
use Rattle.regress_ecma.specs.SurrogatePairs.{matches_outside_pairs}
use Rattle.regress_ecma.specs.Exec.{found_in_bytes}
use Rattle.regress_ecma.proofs.lemmas.Searches.{decoded, in_range}
use Rattle.regress.proofs.EcmaLemmas.{finds_match, finds_match_from, finds_match_of, finds_matches_in, found_either_way}
use Rattle.regress.proofs.ecma.find_returns_the_match_of_ecma.Goals as goal

pub returns-clause-find : goal.returns-clause-find
returns-clause-find c = finds_match

pub returns-clause-find_at : goal.returns-clause-find_at
returns-clause-find_at c = finds_match_from

pub returns-clause-source : goal.returns-clause-source
returns-clause-source c setting pattern r compiled comparable text utf8 index within found finds =
    finds_match_from setting pattern r compiled comparable text utf8 index within found finds
    ∙ ap (option_map found_in_bytes)
    (sym (c.first_outcome_is_the_match.ensures.search (own_context setting compiled.tree.pattern) refl compiled.tree.pattern pattern []
    compiled.tree.accepted.derived comparable (chars text) (in_range (chars text) (decoded text utf8)) index within))

pub returns-clause-in_ecma : goal.returns-clause-in_ecma
returns-clause-in_ecma c setting unicode with_u pattern r compiled text utf8 =
    let ctx = own_context_in Ecma setting compiled.tree.pattern in
    finds_match_of Ecma setting pattern r compiled (with_char_sets ctx compiled.tree.pattern pattern [] compiled.tree.accepted.derived) text utf8
    (c.first_outcome_is_the_match.ensures.in_ecma ctx refl unicode with_u compiled.tree.pattern pattern [] compiled.tree.accepted.derived
    compiled.tree.accepted.names (chars text) (in_range (chars text) (decoded text utf8)) (length (chars text) + 1) (omega arith))

pub returns-clause-exact : goal.returns-clause-exact
returns-clause-exact c setting unicode with_u pattern r compiled text utf8 exact =
    let ctx = own_context_in Ecma setting compiled.tree.pattern in
    let p = compiled.tree.pattern in
    let accepted = compiled.tree.accepted in
    let same = c.characters_are_code_points.ensures.same setting.flags.unicode in
    let units = c.code_units_have_the_same_matches.ensures in
    let is_text = decoded text utf8 in
    finds_matches_in setting p r text pattern _ _ _ (same pattern exact.pattern) accepted
    (returns-clause-in_ecma c setting unicode with_u pattern r compiled text utf8)
    (found_either_way setting (with_char_sets ctx p pattern [] accepted.derived) (chars text) (matches_outside_pairs setting.table p) exact.input
    (c.characters_are_code_points.ensures.with_u (chars text) is_text) same
    (units.characters ctx refl unicode with_u p pattern [] accepted.derived accepted.names (chars text) is_text)
    (λ outside. units.offsets ctx refl unicode with_u p pattern [] accepted.derived accepted.names outside (chars text) is_text))
