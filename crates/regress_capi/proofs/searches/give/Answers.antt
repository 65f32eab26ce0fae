use Rattle.std.proofs.Common.{rules, arith}
use Rattle.std.proofs.lemmas.Grind.{common_steps}
use Rattle.regress_capi.proofs.SearchLemmas.{given-written, given-little}
use Rattle.regress_capi.proofs.searches.give.Goals as goal

pub returns-then-copy_to : goal.returns-then-copy_to
returns-then-copy_to c =
    given-written c.args.items.now.items c.deref.result.now (first_of (search rules, grind (arith, common_steps))) c.deref.ensures.value
    c.if-copy_to.ensures

pub returns-else-copy_to : goal.returns-else-copy_to
returns-else-copy_to c =
    given-little c.args.items.now.items c.deref.result.now (first_of (search rules, grind (arith, common_steps))) c.deref.ensures.value
    c.if-copy_to.ensures.0 c.if-copy_to.ensures.1
