use Rattle.std.proofs.Common.{arith, length}
use Rattle.regex_lines.proofs.FoundLemmas.{have_offsets}
use Rattle.regex_lines.proofs.reply.shown.Goals as goal

pub all_json-requires-clause-offsets : goal.all_json-requires-clause-offsets
all_json-requires-clause-offsets c = have_offsets (length c.args.line.now) 0 c.args.found.now (omega arith) c.requires.order
