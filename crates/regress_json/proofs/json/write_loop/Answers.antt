use Rattle.std.proofs.Common.{◌++◌, refl, arith, codes}
use Rattle.std.proofs.Output.{has_written_append, has_written_of_eq}
use Rattle.regress_json.specs.Json.{pair, quantifier}
use Rattle.regress_json.proofs.JsonLemmas.{to-left, pair-after}
use Rattle.regress_json.proofs.json.write_loop.Goals as goal

pub returns : goal.returns
returns g c plain ok =
    let kind = codes "{\"kind\":\"Loop\",\"enclosed_groups\":" in
    let one = c.in_ok-write.ensures.writes plain refl in
    has_written_of_eq _ _ _ _ _ (to-left (kind ++ pair c.args.start c.args.end) (codes ",\"quant\":") (quantifier c.args.quant.now) (codes ",\"loopee\":"))
    (has_written_append _ _ _ _ _ _
    (has_written_of_eq _ _ _ _ _ (pair-after kind c.args.start c.args.end (omega arith) (omega arith)) one) (c.write_repeat.ensures one.plain ok))
