use Rattle.std.proofs.Common.{◌&&◌, refl}
use Rattle.regress_classes.proofs.ChainLemmas.{others_more}
use Rattle.regress_classes.proofs.class_sets.others.Others.and.Goals as goal

pub returns : goal.returns
returns c = λ first v b h k.
    others_more c.args.operator first v b c.args.self c.args.other
    (record { strings = c.in_ok-both_strings.field-0; has_empty = c.both.result; may_have_strings = c.args.self.may_have_strings && c.args.other.may_have_strings; nesting = c.max.result }) h k c.in_ok-both_strings.ensures
    c.both.ensures refl c.max.ensures
