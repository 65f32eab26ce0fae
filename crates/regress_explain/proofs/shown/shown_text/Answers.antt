use Rattle.std.proofs.Common.{◌∙◌, ◌++◌, [], ap, flat_map, sym}
use Rattle.std.proofs.lemmas.Iterator.{YieldsList-from_chars}
use Rattle.std.proofs.lemmas.Iterator.Consumers.{YieldsList-end}
use Rattle.std.proofs.lemmas.List.{flat_map_more, map-id}
use Rattle.regress_explain.specs.Shown.{shown_character}
use Rattle.regress_explain.proofs.shown.shown_text.Goals as goal

pub returns : goal.returns
returns c =
    let yields = YieldsList-from_chars c.args.text.now c.utf8.text cc in
    let all = YieldsList-end yields c.loop-c.yielded _ c.loop-c.yielded_by _ _ c.in-None.is c.next.ensures.steps in
    c.loop-c.invariant ∙ ap (flat_map shown_character) (sym (map-id c.loop-c.yielded) ∙ all.0)

pub loop-c-preserved : goal.loop-c-preserved
loop-c-preserved c =
    c.in_ok-push_shown.ensures ∙ ap (λ text. text ++ shown_character c.in-Some.c) c.loop-c.invariant
    ∙ flat_map_more shown_character [] c.loop-c.yielded c.in-Some.c
