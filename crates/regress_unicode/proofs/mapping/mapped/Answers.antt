-- The search compares each entry with `c`, and the results do not decrease.
use Rattle.std.proofs.Common.{ap, sym, subst, ◌∙◌, get_or, IsTrue, rules}
use Rattle.std.proofs.lemmas.Fn.{always_returns_same}
use Rattle.regress_unicode.specs.FoldEntries.{FoldEntry, is_in_mapping, mapped_in_mapping}
use Rattle.regress_unicode.specs.ValidEntries.{is_target_in_range}
use Rattle.regress_unicode.proofs.ListLemmas.{position_of_mapping, mapping-Equal, mapped_at, target_at, not_found_mapped}
use Rattle.regress_unicode.proofs.mapping.mapped.Goals as goal

pub apply-requires-clause-target : goal.apply-requires-clause-target
apply-requires-clause-target c =
    subst (λ (r : FoldEntry). IsTrue (is_target_in_range r)) (sym c.index-mappings-position.is)
    (target_at c.args.mappings.now c.in-Ok.position c.index-mappings-position.result c.requires.in_range c.in-Ok.ensures.bound)

pub apply-requires-clause-within : goal.apply-requires-clause-within
unfolding position_of_mapping
apply-requires-clause-within c =
    let placed = c.in-Ok.ensures.position (position_of_mapping c.args.c) (always_returns_same _ _ _ (λ a r f' k. search rules)) in
    subst (λ (r : FoldEntry). IsTrue (is_in_mapping r c.args.c)) (sym c.index-mappings-position.is)
    (mapping-Equal c.args.c (get_or c.args.mappings.now c.in-Ok.position c.index-mappings-position.result) (placed c.index-mappings-position.result))

pub returns-in-Ok : goal.returns-in-Ok
unfolding position_of_mapping
returns-in-Ok c =
    let placed = c.in-Ok.ensures.position (position_of_mapping c.args.c) (always_returns_same _ _ _ (λ a r f' k. search rules)) in
    c.apply.ensures
    ∙ ap (λ r. mapped_in_mapping r c.args.c) c.index-mappings-position.is
    ∙ sym (mapped_at 0 c.args.mappings.now c.in-Ok.position c.index-mappings-position.result c.args.c c.requires.in_order c.in-Ok.ensures.bound
    (mapping-Equal c.args.c (get_or c.args.mappings.now c.in-Ok.position c.index-mappings-position.result) (placed c.index-mappings-position.result)))

pub returns-in-Err : goal.returns-in-Err
unfolding position_of_mapping
returns-in-Err c =
    let placed = c.in-Err.ensures.position (position_of_mapping c.args.c) (always_returns_same _ _ _ (λ a r f' k. search rules)) in
    sym (not_found_mapped c.args.c c.args.mappings.now _ c.requires.in_order placed)
