use Rattle.std.proofs.Common.{◌∙◌}
use Rattle.regress_match.proofs.matcher.Matcher.backtracker.Goals as goal

pub returns : goal.returns
returns c =
    let made = c.new.ensures in
    record { code = made.code; tables = made.tables ∙ c.known.ensures; same_text = made.text; room = made.room }
