-- The canonical forms of the members, followed by the code points that are mapped to them, are the closure under upper case.
use Rattle.std.proofs.Common.{◌≤◌, ◌||◌, List, All, refl, subst, ap, ◌∙◌}
use Rattle.regress_base.specs.Intervals.{is_member}
use Rattle.regress_base.proofs.lemmas.Sets.{member_above}
use Rattle.regress_unicode.specs.FoldEntries.{FoldEntry}
use Rattle.regress_unicode.specs.Shifts.{maps_to_by, forward, backward}
use Rattle.regress_unicode.specs.TableOf.{table_of}
use Rattle.regress_unicode.proofs.ClosureLemmas.{ClosesOver, good_mappings, closure_is}
use Rattle.regress_unicode.proofs.closure.add_uppercase_code_points.Goals as goal

pub returns-clause-members : goal.returns-clause-members
returns-clause-members c =
    let mappings : List FoldEntry = c.args.tables.now.uppers.items in
    let sound = c.args.tables.now.sound.uppers in
    let nonempty = subst (λ (mappings : List FoldEntry). All (λ mapping. 1 ≤ mapping.length) mappings) c.deref-2.ensures.value
    c.in_ok-add_sources.ensures.nonempty in
    let over : ClosesOver mappings c.args.input (is_member c.add_targets.new.set) (is_member c.add_sources.new.set) = record {
      in_order = sound.in_order;
      good = good_mappings mappings sound.in_range nonempty;
      idempotent = sound.idempotent;
      targets = λ x. c.in_ok-add_targets.ensures x
          ∙ ap (λ (rs : List FoldEntry). is_member c.args.input x || maps_to_by forward rs (is_member c.args.input) x) c.deref.ensures.value;
      sources = λ x. c.in_ok-add_sources.ensures.members x
          ∙ ap (λ (rs : List FoldEntry). is_member c.add_targets.new.set x || maps_to_by backward rs (is_member c.add_targets.new.set) x)
          c.deref-2.ensures.value;
    } in
    closure_is (record (table_of c.args.tables.now) { fold = (table_of c.args.tables.now).uppercase }) mappings c.args.input (is_member c.add_targets.new.set) (is_member c.add_sources.new.set)
    (λ x. refl) over
    (λ x member. (member_above 0 c.add_sources.new.set x c.set_is_canonical.ensures member).1)
