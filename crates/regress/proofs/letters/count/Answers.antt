use Rattle.std.proofs.Common.{ap, min, sym, ◌∙◌}
use Rattle.std.proofs.lemmas.Iterator.{YieldsList-from_chars}
use Rattle.std.proofs.lemmas.Iterator.Consumers.{YieldsList-end}
use Rattle.std.proofs.lemmas.List.{map-id}
use Rattle.regress.specs.Letters.{count}
use Rattle.regress.proofs.LettersLemmas.{counted_more}
use Rattle.regress.proofs.letters.count.Goals as goal

pub loop-c-preserved : goal.loop-c-preserved
loop-c-preserved c =
    counted_more c.loop-c.yielded c.in-Some.c c.args.letter c.loop-c.times c.from.result c.saturating_add-times.result c.loop-c.invariant
    c.from.ensures c.saturating_add-times.ensures

pub returns : goal.returns
returns c =
    let yields = YieldsList-from_chars c.args.letters.now c.utf8.letters cc in
    let all = YieldsList-end yields c.loop-c.yielded _ c.loop-c.yielded_by _ _ c.in-None.is c.next.ensures.steps in
    c.loop-c.invariant ∙ ap (λ cs. min (count cs c.args.letter) 18446744073709551615) (sym (map-id c.loop-c.yielded) ∙ all.0)
