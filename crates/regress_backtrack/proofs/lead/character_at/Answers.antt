use Rattle.std.proofs.Common.{◌∙◌, ap, Some}
use Rattle.regress_backtrack.proofs.lead.character_at.Goals as goal

pub returns-in-Ascii : goal.returns-in-Ascii
returns-in-Ascii c = record {
  inside = c.in_ok-leaf.ensures.0;
  character = record {
    leaf = c.in-Leaf.leaf;
    test = c.in_ok-set.field-0.now;
    is = c.in_ok-leaf.ensures.1 ∙ ap Some c.in-Leaf.is;
    is_test = c.in_ok-set.ensures;
    starts = c.in-Ascii.is;
  };
}
