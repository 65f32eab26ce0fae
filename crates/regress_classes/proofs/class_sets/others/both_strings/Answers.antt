use Rattle.std.proofs.Common.{ap, filter, ◌∙◌}
use Rattle.regress_classes.specs.ClassViews.{strings_of}
use Rattle.regress_classes.specs.ClassSets.{is_among}
use Rattle.regress_classes.proofs.ChainLemmas.{strings_common, strings_joined}
use Rattle.regress_classes.proofs.class_sets.others.both_strings.Goals as goal

pub returns-in_ok-keep_strings-in-Intersection : goal.returns-in_ok-keep_strings-in-Intersection
returns-in_ok-keep_strings-in-Intersection c = λ s.
    rw c.in-Intersection.is (strings_common c.args.strings.items c.args.others.items c.keep_strings.new.strings.items s
    (c.in_ok-keep_strings-in-Intersection.ensures
    ∙ ap (λ l. filter (λ string. is_among (strings_of l) string.items) c.args.others.items) c.deref.ensures.value))

pub returns-in_ok-append-in-Subtraction : goal.returns-in_ok-append-in-Subtraction
returns-in_ok-append-in-Subtraction c = λ s. rw c.in-Subtraction.is (strings_joined c.args.strings.items c.args.others.items c.append.new.self.items s
    c.in_ok-append-in-Subtraction.ensures.items)
