use Rattle.std.proofs.Common.{◌∙◌, ap, sym}
use Rattle.std.specs.Prelude.{is_some}
use Rattle.regex_lines.proofs.inputs.search_file.Goals as goal

pub rewrite_next-requires : goal.rewrite_next-requires
rewrite_next-requires g c = sym c.in_place.ensures ∙ ap is_some c.in-Some.is

pub open_file-requires : goal.open_file-requires
open_file-requires g c = sym c.in_place.ensures ∙ ap is_some c.in-None.is
