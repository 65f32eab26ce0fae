use Rattle.std.proofs.Common.{◌∙◌, ap, map}
use Rattle.regex_glob.specs.Glob.{matches, piece_of, pieces}
use Rattle.regex_glob.specs.Row.{ends}
use Rattle.regex_glob.proofs.RowLemmas.{name_ends}
use Rattle.regex_glob.proofs.glob.Glob.matches_name.Goals as goal

pub returns : goal.returns
returns c =
    c.in_name.ensures
    ∙ name_ends (pieces c.args.self.now) c.args.name.now c.in_ok-row.row.items
    (c.in_ok-row.ensures.row ∙ ap (λ ps. ends (matches (map piece_of ps)) c.args.name.now) c.deref.ensures.value)
