use Rattle.regress_lexer.proofs.lemmas.Sources.{ok_from_both}
use Rattle.regress_parse.proofs.BuildLemmas.{complement_is}
use Rattle.regress_parse.proofs.build.complement_if.Goals as goal

pub returns-then-negated : goal.returns-then-negated
returns-then-negated c =
    ok_from_both c.inverted.result _ _ _
    (λ other complement canonical test same. rw c.if-negated.true (complement_is c.args.set other test complement canonical same))
    c.inverted.ensures.members c.inverted.ensures.canonical
