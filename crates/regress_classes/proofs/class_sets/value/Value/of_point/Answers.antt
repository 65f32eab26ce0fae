use Rattle.std.proofs.Common.{◌||◌, ◌==◌, List, ap, ◌∙◌}
use Rattle.regress_base.specs.Intervals.{Bounds, is_member}
use Rattle.regress_base.proofs.lemmas.Sets.{is_member-nil}
use Rattle.regress_classes.specs.ClassProductions.{one_point}
use Rattle.regress_classes.proofs.ClassSetLemmas.{is_one_point}
use Rattle.regress_classes.proofs.class_sets.value.Value.of_point.Goals as goal

pub returns : goal.returns
returns c =
    c.of_set.ensures (one_point c.args.c) (record {
      canonical = c.in_ok-add_one.ensures.canonical;
      each = λ n. c.in_ok-add_one.ensures.members n
          ∙ ap (λ (l : List Bounds). is_member l n || (n == c.args.c)) c.new-set.ensures
          ∙ ap (λ b. b || (n == c.args.c)) (is_member-nil n)
          ∙ is_one_point c.args.c n;
    })
