-- Two code points are a range; otherwise all three parts are members.
use Rattle.std.proofs.Common.{◌++◌, List, ℕ, subst, rules}
use Rattle.regress_base.specs.Intervals.{Bounds}
use Rattle.regress_classes.specs.ClassProductions.{splits, atom_members, one_point}
use Rattle.regress_classes.specs.ClassViews.{class_atom_of, Adds}
use Rattle.regress_classes.proofs.ClassLemmas.{adds_both}
use Rattle.regress_classes.proofs.CodeUnitLemmas.{adds_unit}
use Rattle.regress_classes.proofs.class.add_range.Goals as goal

pub returns-clause-ok : goal.returns-clause-ok
returns-clause-ok c =
    let split = splits c.args.parameters.now in
    let first : List Bounds = atom_members split (class_atom_of c.args.range.first) in
    let last : List Bounds = atom_members split (class_atom_of c.args.range.last) in
    let old = c.args.set.now in
    let second = c.add.new.self in
    let hyphen = c.from-hyphen in (
      (first ++ one_point 45) ++ last,
      search rules,
      adds_both (first ++ one_point 45) last old second c.add_atom-2.new.set
          (adds_both first (one_point 45) old c.add_atom.new.set second c.in_ok-add_atom.ensures
          (subst (λ (symbol : ℕ). Adds (one_point symbol) c.add_atom.new.set second) hyphen.ensures
          (adds_unit hyphen.result c.new.result c.add_atom.new.set second c.new.ensures c.in_ok-add.ensures)))
          c.in_ok-add_atom-2.ensures,
    )
