use Rattle.std.proofs.Common.{◌∙◌, sym, rules}
use Rattle.std.proofs.lemmas.Iterator.{YieldsList-from_slice}
use Rattle.std.proofs.lemmas.Iterator.Search.{any_from_yields_List}
use Rattle.regress_base.specs.Intervals.{is_within}
use Rattle.regress_escape.proofs.SpaceLemmas.{is_member_any}
use Rattle.regress_escape.proofs.characters.is_in.Goals as goal

pub returns : goal.returns
returns c =
    any_from_yields_List (λ iv. is_within iv c.args.c) _ _ c.any.result c.any.ensures.ran
    (YieldsList-from_slice c.args.intervals.now c.iter.ensures.rest) (λ x b q k. search rules)
    ∙ sym (is_member_any c.args.intervals.now c.args.c)
