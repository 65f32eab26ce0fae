use Rattle.regex_command.proofs.linting.print_remarks.Goals as goal

pub returns-clause-written : goal.returns-clause-written
returns-clause-written g c = (_, rw c.new-text.ensures.items at c.in_ok-add_remarks.ensures, rw c.deref.ensures.value at c.in_ok-print.ensures.bytes)
