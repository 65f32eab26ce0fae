-- The first list is searched, and if it has no such name the second.
use Rattle.std.proofs.Common.{map, sym, ◌∙◌}
use Rattle.std.proofs.lemmas.Result.{IfOk-weaker}
use Rattle.regress_properties.specs.Listed.{named_set}
use Rattle.regress_properties.proofs.lemmas.Named.{named_first, named_second}
use Rattle.regress_properties.proofs.sets.find_set.Goals as goal

pub returns-in-Some : goal.returns-in-Some
returns-in-Some c =
    named_first c.args.name.now (map (λ n. named_set c.args.ends.now n.0.now n.1 n.2) c.args.names.now)
    (map (λ n. named_set c.args.ends.now n.0.now n.1 n.2) c.args.rest.now) c.in-Some.set (sym c.in-Some.is ∙ c.in_ok-set.ensures)

pub returns-in-None : goal.returns-in-None
returns-in-None c =
    let none = named_second c.args.name.now (map (λ n. named_set c.args.ends.now n.0.now n.1 n.2) c.args.names.now)
    (map (λ n. named_set c.args.ends.now n.0.now n.1 n.2) c.args.rest.now) (sym c.in-None.is ∙ c.in_ok-set.ensures) in
    IfOk-weaker c.find_in-in-None.result _ _ (λ set is. is ∙ none) c.find_in-in-None.ensures
