use Rattle.std.proofs.Common.{Some, None, option_map, arith, ◌-◌, ap, sym, ◌∙◌}
use Rattle.std.proofs.lemmas.Iterator.Consumers.{YieldsList-from_first, nth_from_yields_List}
use Rattle.regress.specs.Compiled.{groups_of}
use Rattle.regress.specs.Groups.{names_left}
use Rattle.regress_capi.proofs.TextLemmas.{group_named, name_missing}
use Rattle.regress_capi.proofs.texts.name_of.Goals as goal

pub returns-in-Some-Some : goal.returns-in-Some-Some
returns-in-Some-Some c =
    group_named (groups_of c.args.regex.now) c.args.group c.if-group-eq0.false (Some c.in-Some-Some.name.now)
    (ap (λ found. Some (option_map (λ name. name.now) found)) (sym c.in-Some-Some.field-0-is)
    ∙ nth_from_yields_List (Some c.in-Some-Some.field-0) c.nth.new.self (c.args.group - 1) c.in-Some-Some.ensures.ran
    (YieldsList-from_first (option_map (λ name. name.now)) names_left _ c.group_names.ensures))

pub returns-in-Some-None : goal.returns-in-Some-None
returns-in-Some-None c =
    group_named (groups_of c.args.regex.now) c.args.group c.if-group-eq0.false None
    (ap (λ found. Some (option_map (λ name. name.now) found)) (sym c.in-Some-None.field-0-is)
    ∙ nth_from_yields_List (Some c.in-Some-None.field-0) c.nth.new.self (c.args.group - 1) c.in-Some-None.ensures.ran
    (YieldsList-from_first (option_map (λ name. name.now)) names_left _ c.group_names.ensures))

pub returns-in-None : goal.returns-in-None
returns-in-None c = λ has.
    name_missing (groups_of c.args.regex.now) (c.args.group - 1)
    (nth_from_yields_List None c.nth.new.self (c.args.group - 1) c.in-None.ensures.ran
    (YieldsList-from_first (option_map (λ name. name.now)) names_left _ c.group_names.ensures)) (omega arith)
