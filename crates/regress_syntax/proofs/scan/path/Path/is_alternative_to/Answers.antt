use Rattle.std.proofs.Common.{◌∙◌, ap, rules}
use Rattle.std.proofs.lemmas.Iterator.{YieldsList-from_slice, YieldsList-from_zip}
use Rattle.std.proofs.lemmas.Iterator.Search.{find_from_yields_List}
use Rattle.regress_syntax.proofs.PathLemmas.{differ, reports, decided_by_call, reported_by_paths}
use Rattle.regress_syntax.proofs.scan.path.Path.is_alternative_to.Goals as goal

pub returns : goal.returns
returns c =
    let found = find_from_yields_List differ c.find.new.self _ c.find.result c.find.ensures.ran
    (YieldsList-from_zip (YieldsList-from_slice c.args.self.now.nesting.items cc) (YieldsList-from_slice c.args.other.now.nesting.items cc))
    (λ x b q k. search rules) in
    decided_by_call _ c.find.result c.is_some_and.result _ c.is_some_and.ensures (λ x post. search rules)
    ∙ ap reports found ∙ reported_by_paths c.args.self.now c.args.other.now
