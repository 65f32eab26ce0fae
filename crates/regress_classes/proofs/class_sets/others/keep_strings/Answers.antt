use Rattle.std.proofs.Common.{rules, ◌∙◌}
use Rattle.std.proofs.lemmas.Fn.{filter_same}
use Rattle.std.proofs.lemmas.List.Elements.{filter_agree}
use Rattle.regress_classes.proofs.class_sets.others.keep_strings.Goals as goal

pub returns-in_ok-others : goal.returns-in_ok-others
returns-in_ok-others c =
    filter_same _ _ _ (λ x b f' k. search rules) _ _ c.retain.ensures.filtered
    ∙ filter_agree _ _ (λ string. c.in_ok-others.ensures string.items) c.args.strings.now.items
