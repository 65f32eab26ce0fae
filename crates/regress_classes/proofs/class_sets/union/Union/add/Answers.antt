use Rattle.std.proofs.Common.{◌||◌, [], ◌∷◌, sym, ap, ◌∙◌}
use Rattle.std.proofs.lemmas.Result.{on_ok_weaker}
use Rattle.regress_base.specs.Intervals.{is_member}
use Rattle.regress_base.proofs.lemmas.Sets.{is_member-one}
use Rattle.regress_classes.proofs.ClassSetLemmas.{union_points}
use Rattle.regress_classes.proofs.class_sets.union.Union.add.Goals as goal

pub returns : goal.returns
returns c =
    on_ok_weaker c.add.result
    (λ members. λ a h. union_points a (c.args.interval ∷ []) c.args.self.now c.add.new.self h
    (λ n. members n ∙ ap (λ b. is_member c.args.self.now.points n || b) (sym (is_member-one c.args.interval n))))
    c.add.ensures
