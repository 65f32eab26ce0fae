use Rattle.std.proofs.Common.{rules, ◌≡◌, true}
use Rattle.regress_backtrack.proofs.sweep.sole_leaf.Goals as goal

pub returns-in-Ascii : goal.returns-in-Ascii
returns-in-Ascii c =
    let again : c.repeats_at.result ≡ true = search rules in
    record {
      leaf = c.in_ok-leaf.leaf;
      test = c.in_ok-set.field-0.now;
      body = c.in_ok-leaf.ensures;
      repeat_in = c.repeats_at.ensures.within again;
      repeats = c.repeats_at.ensures.repeats again;
      is_test = c.in_ok-set.ensures;
      starts = c.in-Ascii.is;
      forwards = c.if-input.false;
    }
