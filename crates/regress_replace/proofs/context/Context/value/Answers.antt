use Rattle.std.proofs.Common.{map}
use Rattle.regress_found.specs.Found.{state_of}
use Rattle.regress_match.specs.Pattern.{capture_of}
use Rattle.regress_replace.proofs.NameLemmas.{named_inside}
use Rattle.regress_replace.proofs.context.Context.value.Goals as goal

pub captured-requires-in-Named : goal.captured-requires-in-Named
captured-requires-in-Named c =
    rw c.named_capture.ensures
    (named_inside c.args.self.text.now c.in-Named.name.now (state_of c.args.self.found.now).captures (map capture_of c.args.self.groups.now) c.requires.groups)
