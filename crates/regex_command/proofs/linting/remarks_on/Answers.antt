use Rattle.std.proofs.Common.{◌∙◌, ◌++◌, List, ap}
use Rattle.std.proofs.lemmas.List.{map-append}
use Rattle.regress_spans.specs.Remarks.{Said, said, said_by}
use Rattle.regex_command.proofs.linting.remarks_on.Goals as goal

pub returns : goal.returns
returns c = (
  said_by c.in_ok-remarks.remarks.items,
  c.in_ok-remarks.ensures,
  ap said_by c.in_ok-append.ensures.items ∙ map-append said c.in_ok-remarks.remarks.items c.in_ok-others.others.items
      ∙ ap (λ (ys : List Said). said_by c.in_ok-remarks.remarks.items ++ ys) c.in_ok-others.ensures,
)
