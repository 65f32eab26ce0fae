use Rattle.std.proofs.Common.{◌||◌, ◌≡◌, Bool, true, [], List, length, flat_map, Some, if◌then◌else◌, refl, sym, ap, ◌∙◌, subst, arith}
use Rattle.std.proofs.lemmas.Bool.{and_parts}
use Rattle.regress_leaves.specs.Leaves.{exactly}
use Rattle.regress_leaves.specs.Subject.{subject}
use Rattle.regress_tree.specs.Reading.{direction_if}
use Rattle.regress_tree.specs.Steps.{MatchState}
use Rattle.regress_tree.specs.Tree.{tree}
use Rattle.regress_program.specs.Below.{Below}
use Rattle.regress_program.specs.Program.{At, Op, part, split, begin_loop, repeat, end_loop, begin_group, look, goto, enter, reach, either, matcher_of, outcomes_by}
use Rattle.regress_program.specs.declared.instruction.Instruction.TheVariants as insts
use Rattle.regress_program.specs.Shape.{Fits}
use Rattle.regress_program.specs.Tidy.{has_no_back_reference}
use Rattle.regress_program.specs.Linear.{is_linear}
use Rattle.regress_code.specs.Code.{code_routines, code_tidy}
use Rattle.regress_program.specs.Views.{op_in}
use Rattle.regress_tables.specs.Slots.{capture_in}
use Rattle.regress_tables.specs.Table.{cell, has_outcome}
use Rattle.regress_tables.specs.Walked.{at_of, place_of, iterates, Leads, SetInside}
use Rattle.regress_tables.proofs.CleanLemmas.{look-inside, look-unset, span-inside, unset-inside}
use Rattle.regress_tables.proofs.EvaluateLemmas.{characters_is, leaf_is, look-earlier}
use Rattle.regress_tables.proofs.FollowLemmas.{chosen-pc, ended-pc, follow-either, follow-ended, follow-look, follow-one, follow-unsets, reaches-pc}
use Rattle.regress_tables.proofs.WalkLemmas.{look_range, unknown, here-below, ended-below, split-below, begin-below, repeat-below, part-below, part-leads, look-goes, split-leads, either-leads}
use Rattle.regress_tables.proofs.step.step.Goals as goal

pub characters_end-to-requires : goal.characters_end-to-requires
characters_end-to-requires c =
    let can = c.requires.can in
    let fits = subst (Fits _ _ _) (characters_is _ _ _ _ _ _ c.in-Characters.is c.in-Some-test.ensures) can.fits in
    record { one = fits.0.1; inside = omega (arith, can.length, can.position); run = tt }

pub returns-in-Leaf-clause-below : goal.returns-in-Leaf-clause-below
returns-in-Leaf-clause-below c = λ yields.
    let u = subject c.args.input.rules c.args.input.text.now in
    let t = c.args.table.now in
    let a = place_of c.args.walker.now in
    let can = c.requires.can in
    let fits = subst (Fits _ t.width a.pc) (leaf_is _ _ _ _ _ c.in-Leaf.is c.in-Some.ensures) can.fits in
    part-below t a can.pc can.position u.setting u.bytes u.direction (tree c.in-Some.test.now.node) c.in-Leaf.next c.end_after-to.result c.reach.result
    (place_of c.reach.new.self) fits.1 can.length (ap direction_if can.backwards) c.end_after-to.ensures (c.reach.ensures.at unknown) yields

pub returns-in-Characters-clause-below : goal.returns-in-Characters-clause-below
returns-in-Characters-clause-below c = λ yields.
    let u = subject c.args.input.rules c.args.input.text.now in
    let t = c.args.table.now in
    let a = place_of c.args.walker.now in
    let can = c.requires.can in
    let fits = subst (Fits _ t.width a.pc) (characters_is _ _ _ _ _ _ c.in-Characters.is c.in-Some-test.ensures) can.fits in
    part-below t a can.pc can.position u.setting u.bytes u.direction (exactly c.in-Characters.count (tree c.in-Some-test.test.now.node)) c.in-Characters.next c.characters_end-to.result c.reach-in-Characters.result
    (place_of c.reach-in-Characters.new.self) fits.1 can.length (ap direction_if can.backwards) c.characters_end-to.ensures (c.reach-in-Characters.ensures.at unknown) yields

pub returns-in-Split-clause-below : goal.returns-in-Split-clause-below
returns-in-Split-clause-below c = λ yields.
    let t = c.args.table.now in
    let a = place_of c.args.walker.now in
    let can = c.requires.can in
    let fits = subst (Fits _ t.width a.pc) (ap (op_in c.args.input.code.now.program.leaves.items) c.in-Split.is) can.fits in
    subst (Below t.width t.length (direction_if t.backwards) a) (sym (c.split.ensures.at unknown))
    (split-below t a can.pc can.position c.in-Split.first c.in-Split.second fits.0 fits.1)

pub returns-in-BeginLoop-clause-below : goal.returns-in-BeginLoop-clause-below
returns-in-BeginLoop-clause-below c = λ yields.
    let t = c.args.table.now in
    let a = place_of c.args.walker.now in
    let can = c.requires.can in
    let fits = subst (Fits _ t.width a.pc) (ap (op_in c.args.input.code.now.program.leaves.items) c.in-BeginLoop.is) can.fits in
    subst (Below t.width t.length (direction_if t.backwards) a) (sym (c.choose.ensures.at unknown))
    (begin-below t a can.pc can.position c.in-BeginLoop.greedy c.in-BeginLoop.body c.in-BeginLoop.next fits.0 fits.1)

pub returns-else-not-walker-clause-below : goal.returns-else-not-walker-clause-below
returns-else-not-walker-clause-below c = λ yields.
    let t = c.args.table.now in
    let a = place_of c.args.walker.now in
    let can = c.requires.can in
    let fits = subst (Fits _ t.width a.pc) (ap (op_in c.args.input.code.now.program.leaves.items) c.in-Repeat.is) can.fits in
    subst (Below t.width t.length (direction_if t.backwards) a) (sym (c.choose-in-Repeat.ensures.at unknown))
    (repeat-below t a can.pc can.position c.in-Repeat.greedy c.in-Repeat.body c.in-Repeat.next fits.0 fits.1 c.if-not-walker.false)

pub returns-else-not-walker-2-clause-below : goal.returns-else-not-walker-2-clause-below
returns-else-not-walker-2-clause-below c = λ yields.
    let t = c.args.table.now in
    let a = place_of c.args.walker.now in
    let can = c.requires.can in
    let fits = subst (Fits _ t.width a.pc) (ap (op_in c.args.input.code.now.program.leaves.items) c.in-EndLoop.is) can.fits in
    here-below t a can.pc can.position (goto c.in-EndLoop.next a) fits refl refl

pub returns-in-Unset-clause-below : goal.returns-in-Unset-clause-below
returns-in-Unset-clause-below c = λ yields.
    let t = c.args.table.now in
    let a = place_of c.args.walker.now in
    let can = c.requires.can in
    let fits = subst (Fits _ t.width a.pc) (ap (op_in c.args.input.code.now.program.leaves.items) c.in-Unset.is) can.fits in
    subst (Below t.width t.length (direction_if t.backwards) a) (sym (c.begin_iteration.ensures.at unknown))
    (here-below t a can.pc can.position _ fits refl refl)

pub returns-in_ok-begin_group-in-BeginGroup-clause-below : goal.returns-in_ok-begin_group-in-BeginGroup-clause-below
returns-in_ok-begin_group-in-BeginGroup-clause-below c = λ yields.
    let t = c.args.table.now in
    let a = place_of c.args.walker.now in
    let can = c.requires.can in
    let fits = subst (Fits _ t.width a.pc) (ap (op_in c.args.input.code.now.program.leaves.items) c.in-BeginGroup.is) can.fits in
    subst (Below t.width t.length (direction_if t.backwards) a) (sym (c.in_ok-begin_group-in-BeginGroup.ensures.at unknown))
    (here-below t a can.pc can.position _ fits refl refl)

pub returns-in-EndGroup-clause-below : goal.returns-in-EndGroup-clause-below
returns-in-EndGroup-clause-below c = λ yields.
    let t = c.args.table.now in
    let a = place_of c.args.walker.now in
    let can = c.requires.can in
    let fits = subst (Fits _ t.width a.pc) (ap (op_in c.args.input.code.now.program.leaves.items) c.in-EndGroup.is) can.fits in
    subst (Below t.width t.length (direction_if t.backwards) a) (sym (c.end_group.ensures.at unknown))
    (ended-below t a can.pc can.position c.in-EndGroup.id c.in-EndGroup.next fits a.begins)

pub returns-in-Look-clause-below : goal.returns-in-Look-clause-below
returns-in-Look-clause-below c = λ yields.
    let t = c.args.table.now in
    let a = place_of c.args.walker.now in
    let can = c.requires.can in
    let fits = subst (Fits _ t.width a.pc) (ap (op_in c.args.input.code.now.program.leaves.items) c.in-Look.is) can.fits in
    here-below t a can.pc can.position (place_of c.pass.new.self) (omega (arith, c.pass.ensures.pc, fits.1)) c.pass.ensures.moved c.pass.ensures.position

pub returns-in-Leaf-clause-clean : goal.returns-in-Leaf-clause-clean
returns-in-Leaf-clause-clean c = λ r is goes.
    follow-one c.args.input c.args.walker.now c.reach.new.self (op_in c.args.input.code.now.program.leaves.items c.args.instruction) c.requires.tabled c.requires.at r is (part (tree c.in-Some.test.now.node) c.in-Leaf.next) 0 c.in-Leaf.next
    (leaf_is _ _ _ _ _ c.in-Leaf.is c.in-Some.ensures) refl tt
    (reaches-pc c.in-Leaf.next (place_of c.args.walker.now) (place_of c.reach.new.self) c.reach.result c.end_after-to.result (c.reach.ensures.at unknown) goes) c.reach.ensures.slots

pub returns-in-Characters-clause-clean : goal.returns-in-Characters-clause-clean
returns-in-Characters-clause-clean c = λ r is goes.
    follow-one c.args.input c.args.walker.now c.reach-in-Characters.new.self (op_in c.args.input.code.now.program.leaves.items c.args.instruction) c.requires.tabled c.requires.at r is (part (exactly c.in-Characters.count (tree c.in-Some-test.test.now.node)) c.in-Characters.next) 0 c.in-Characters.next
    (characters_is _ _ _ _ _ _ c.in-Characters.is c.in-Some-test.ensures) refl tt
    (reaches-pc c.in-Characters.next (place_of c.args.walker.now) (place_of c.reach-in-Characters.new.self) c.reach-in-Characters.result c.characters_end-to.result (c.reach-in-Characters.ensures.at unknown) goes) c.reach-in-Characters.ensures.slots

pub returns-in-Split-clause-clean : goal.returns-in-Split-clause-clean
returns-in-Split-clause-clean c = λ r is goes.
    let a = place_of c.args.walker.now in
    follow-either c.args.input c.args.walker.now c.split.new.self (op_in c.args.input.code.now.program.leaves.items c.args.instruction) c.requires.tabled c.requires.at r is (split c.in-Split.first c.in-Split.second)
    c.in-Split.first c.in-Split.second (cell c.args.table.now c.in-Split.first a.moved a.state.position) (ap (op_in c.args.input.code.now.program.leaves.items) c.in-Split.is) refl tt
    (ap (λ (x : At). x.pc) (c.split.ensures.at unknown)) c.split.ensures.slots

pub returns-in-BeginLoop-clause-clean : goal.returns-in-BeginLoop-clause-clean
returns-in-BeginLoop-clause-clean c = λ r is goes.
    let a = place_of c.args.walker.now in
    follow-either c.args.input c.args.walker.now c.choose.new.self (op_in c.args.input.code.now.program.leaves.items c.args.instruction) c.requires.tabled c.requires.at r is (begin_loop c.in-BeginLoop.greedy c.in-BeginLoop.body c.in-BeginLoop.next)
    c.in-BeginLoop.body c.in-BeginLoop.next (iterates c.args.table.now c.in-BeginLoop.greedy c.in-BeginLoop.body c.in-BeginLoop.next a) (ap (op_in c.args.input.code.now.program.leaves.items) c.in-BeginLoop.is) refl tt
    (ap (λ (x : At). x.pc) (c.choose.ensures.at unknown) ∙ chosen-pc c.args.table.now c.in-BeginLoop.greedy c.in-BeginLoop.body c.in-BeginLoop.next a) c.choose.ensures.slots

pub returns-else-not-walker-clause-clean : goal.returns-else-not-walker-clause-clean
returns-else-not-walker-clause-clean c = λ r is goes.
    let a = place_of c.args.walker.now in
    follow-either c.args.input c.args.walker.now c.choose-in-Repeat.new.self (op_in c.args.input.code.now.program.leaves.items c.args.instruction) c.requires.tabled c.requires.at r is (repeat c.in-Repeat.greedy c.in-Repeat.body c.in-Repeat.next)
    c.in-Repeat.body c.in-Repeat.next (iterates c.args.table.now c.in-Repeat.greedy c.in-Repeat.body c.in-Repeat.next a) (ap (op_in c.args.input.code.now.program.leaves.items) c.in-Repeat.is) refl tt
    (ap (λ (x : At). x.pc) (c.choose-in-Repeat.ensures.at unknown) ∙ chosen-pc c.args.table.now c.in-Repeat.greedy c.in-Repeat.body c.in-Repeat.next a) c.choose-in-Repeat.ensures.slots

pub returns-else-not-walker-2-clause-clean : goal.returns-else-not-walker-2-clause-clean
returns-else-not-walker-2-clause-clean c = λ r is goes.
    follow-one c.args.input c.args.walker.now (record c.args.walker.now { pc = c.in-EndLoop.next }) (op_in c.args.input.code.now.program.leaves.items c.args.instruction) c.requires.tabled c.requires.at r is
    (end_loop c.in-EndLoop.next) 0 c.in-EndLoop.next (ap (op_in c.args.input.code.now.program.leaves.items) c.in-EndLoop.is) refl tt refl refl

pub returns-in-Unset-clause-clean : goal.returns-in-Unset-clause-clean
returns-in-Unset-clause-clean c = λ r is goes.
    follow-unsets c.args.input c.args.walker.now c.begin_iteration.new.self (op_in c.args.input.code.now.program.leaves.items c.args.instruction) c.requires.tabled c.requires.at r is c.in-Unset.start c.in-Unset.end c.in-Unset.next
    (ap (op_in c.args.input.code.now.program.leaves.items) c.in-Unset.is) (ap (λ (x : At). x.pc) (c.begin_iteration.ensures.at unknown)) c.begin_iteration.ensures.slots

pub returns-in_ok-begin_group-in-BeginGroup-clause-clean : goal.returns-in_ok-begin_group-in-BeginGroup-clause-clean
returns-in_ok-begin_group-in-BeginGroup-clause-clean c = λ r is goes.
    follow-one c.args.input c.args.walker.now c.begin_group.new.self (op_in c.args.input.code.now.program.leaves.items c.args.instruction) c.requires.tabled c.requires.at r is (begin_group c.in-BeginGroup.next) 0
    c.in-BeginGroup.next (ap (op_in c.args.input.code.now.program.leaves.items) c.in-BeginGroup.is) refl tt (ap (λ (x : At). x.pc) (c.in_ok-begin_group-in-BeginGroup.ensures.at unknown))
    c.in_ok-begin_group-in-BeginGroup.ensures.slots

pub returns-in-EndGroup-clause-clean : goal.returns-in-EndGroup-clause-clean
returns-in-EndGroup-clause-clean c = λ r is goes.
    let a = place_of c.args.walker.now in
    follow-ended c.args.input c.args.walker.now c.end_group.new.self (op_in c.args.input.code.now.program.leaves.items c.args.instruction) c.requires.tabled c.requires.at r is c.in-EndGroup.id c.in-EndGroup.next
    (ap (op_in c.args.input.code.now.program.leaves.items) c.in-EndGroup.is)
    (ap (λ (x : At). x.pc) (c.end_group.ensures.at unknown) ∙ ended-pc c.in-EndGroup.id c.in-EndGroup.next a a.begins) c.end_group.ensures.slots

pub returns-in-Look-clause-clean : goal.returns-in-Look-clause-clean
returns-in-Look-clause-clean c = λ r is goes.
    let program = code_routines c.args.input.code.now in
    let range = look_range c.args.input.code.now _ c.in-Look.negate c.in-Look.routine c.in-Look.next _ c.deref.ensures.value c.changed_by_look-range.ensures in
    follow-look c.args.input c.args.walker.now c.pass.new.self (op_in c.args.input.code.now.program.leaves.items c.args.instruction) c.requires.tabled c.requires.at r is c.in-Look.negate c.in-Look.routine
    c.in-Look.next (ap (op_in c.args.input.code.now.program.leaves.items) c.in-Look.is) c.pass.ensures.pc
    (subst (λ g. SetInside g c.in-Look.routine c.args.walker.now.position c.args.walker.now.slots.items c.pass.new.self.slots.items)
    range c.pass.ensures.slots)

pub returns-in-Unset-clause-inside : goal.returns-in-Unset-clause-inside
returns-in-Unset-clause-inside c = λ inner most.
    unset-inside (length c.args.input.tables.now) c.args.table.now.length inner c.in-Unset.start c.in-Unset.end c.args.walker.now.slots.items
    c.begin_iteration.new.self.slots.items c.begin_iteration.ensures.slots

pub returns-in-EndGroup-clause-inside : goal.returns-in-EndGroup-clause-inside
returns-in-EndGroup-clause-inside c = λ inner most.
    span-inside (length c.args.input.tables.now) c.args.table.now.length inner c.in-EndGroup.id c.args.walker.now.slots.items c.end_group.new.self.slots.items
    c.end_group.ensures.slots

pub returns-in-Look-clause-inside : goal.returns-in-Look-clause-inside
returns-in-Look-clause-inside c = λ inner most.
    let program = code_routines c.args.input.code.now in
    let n = length c.args.input.tables.now in
    let range = look_range c.args.input.code.now _ c.in-Look.negate c.in-Look.routine c.in-Look.next _ c.deref.ensures.value c.changed_by_look-range.ensures in
    let fits = subst (Fits _ c.args.table.now.width c.args.walker.now.pc) (ap (op_in c.args.input.code.now.program.leaves.items) c.in-Look.is) c.requires.can.fits in
    look-inside program n c.requires.at.routine c.args.walker.now.pc n c.args.table.now.length inner c.in-Look.negate c.in-Look.routine c.in-Look.next
    c.args.walker.now.position c.args.walker.now.slots.items c.pass.new.self.slots.items c.requires.at.is
    (c.requires.at.here ∙ ap (λ x. Some (op_in c.args.input.code.now.program.leaves.items x)) c.in-Look.is)
    (subst (λ g. SetInside g c.in-Look.routine c.args.walker.now.position c.args.walker.now.slots.items c.pass.new.self.slots.items)
    range c.pass.ensures.slots)
    (look-earlier program n c.in-Look.routine fits.0) c.requires.can.position most

pub returns-in-Leaf-clause-leads : goal.returns-in-Leaf-clause-leads
returns-in-Leaf-clause-leads c = λ outs solution full right other some.
    let u = subject c.args.input.rules c.args.input.text.now in
    let capture_of = capture_in u.setting u.bytes (code_routines c.args.input.code.now) outs (length c.args.walker.now.slots.items) in
    let a = at_of capture_of c.args.walker.now in
    let program = code_routines c.args.input.code.now in
    let i = length c.args.input.tables.now in
    let body_of = matcher_of u.setting u.bytes program outs in
    let outcomes : Op → List MatchState = λ o. outcomes_by u.setting u.bytes u.direction body_of (outs i) o a in
    let is : outcomes (op_in c.args.input.code.now.program.leaves.items c.args.instruction) ≡ outcomes (part (tree c.in-Some.test.now.node) c.in-Leaf.next) =
    ap outcomes (leaf_is _ _ _ _ _ c.in-Leaf.is c.in-Some.ensures) in
    part-leads (outs i) (outcomes (op_in c.args.input.code.now.program.leaves.items c.args.instruction)) c.in-Leaf.next c.end_after-to.result c.reach.result a (at_of capture_of c.reach.new.self)
    (is ∙ ap (flat_map (λ s. outs i (reach c.in-Leaf.next a s))) (c.end_after-to.ensures a.state refl)) (c.reach.ensures.at capture_of) some

pub returns-in-Characters-clause-leads : goal.returns-in-Characters-clause-leads
returns-in-Characters-clause-leads c = λ outs solution full right other some.
    let u = subject c.args.input.rules c.args.input.text.now in
    let capture_of = capture_in u.setting u.bytes (code_routines c.args.input.code.now) outs (length c.args.walker.now.slots.items) in
    let a = at_of capture_of c.args.walker.now in
    let program = code_routines c.args.input.code.now in
    let i = length c.args.input.tables.now in
    let body_of = matcher_of u.setting u.bytes program outs in
    let outcomes : Op → List MatchState = λ o. outcomes_by u.setting u.bytes u.direction body_of (outs i) o a in
    let is : outcomes (op_in c.args.input.code.now.program.leaves.items c.args.instruction) ≡ outcomes (part (exactly c.in-Characters.count (tree c.in-Some-test.test.now.node)) c.in-Characters.next) =
    ap outcomes (characters_is _ _ _ _ _ _ c.in-Characters.is c.in-Some-test.ensures) in
    part-leads (outs i) (outcomes (op_in c.args.input.code.now.program.leaves.items c.args.instruction)) c.in-Characters.next c.characters_end-to.result c.reach-in-Characters.result a (at_of capture_of c.reach-in-Characters.new.self)
    (is ∙ ap (flat_map (λ s. outs i (reach c.in-Characters.next a s))) (c.characters_end-to.ensures a.state refl)) (c.reach-in-Characters.ensures.at capture_of) some

pub returns-in-Split-clause-leads : goal.returns-in-Split-clause-leads
returns-in-Split-clause-leads c = λ outs solution full right other some.
    let u = subject c.args.input.rules c.args.input.text.now in
    let t = c.args.table.now in
    let capture_of = capture_in u.setting u.bytes (code_routines c.args.input.code.now) outs (length c.args.walker.now.slots.items) in
    let a = at_of capture_of c.args.walker.now in
    let can = c.requires.can in
    let fits = subst (Fits _ t.width a.pc) (ap (op_in c.args.input.code.now.program.leaves.items) c.in-Split.is) can.fits in
    let program = code_routines c.args.input.code.now in
    let i = length c.args.input.tables.now in
    let body_of = matcher_of u.setting u.bytes program outs in
    let outcomes : Op → List MatchState = λ o. outcomes_by u.setting u.bytes u.direction body_of (outs i) o a in
    let is : outcomes (op_in c.args.input.code.now.program.leaves.items c.args.instruction) ≡ outcomes (op_in c.args.input.code.now.program.leaves.items (insts.Split c.in-Split.first c.in-Split.second)) = ap (λ x. outcomes (op_in c.args.input.code.now.program.leaves.items x)) c.in-Split.is in (
      refl,
      subst (Leads (outcomes (op_in c.args.input.code.now.program.leaves.items c.args.instruction)) (outs i)) (sym (c.split.ensures.at capture_of))
          (split-leads (outs i) t full right a can.pc can.position (outcomes (op_in c.args.input.code.now.program.leaves.items c.args.instruction)) c.in-Split.first c.in-Split.second
          (omega (arith, fits.0, can.pc)) is some),
    )

pub returns-in-BeginLoop-clause-leads : goal.returns-in-BeginLoop-clause-leads
returns-in-BeginLoop-clause-leads c = λ outs solution full right other some.
    let u = subject c.args.input.rules c.args.input.text.now in
    let t = c.args.table.now in
    let capture_of = capture_in u.setting u.bytes (code_routines c.args.input.code.now) outs (length c.args.walker.now.slots.items) in
    let a = at_of capture_of c.args.walker.now in
    let can = c.requires.can in
    let fits = subst (Fits _ t.width a.pc) (ap (op_in c.args.input.code.now.program.leaves.items) c.in-BeginLoop.is) can.fits in
    let program = code_routines c.args.input.code.now in
    let i = length c.args.input.tables.now in
    let body_of = matcher_of u.setting u.bytes program outs in
    let outcomes : Op → List MatchState = λ o. outcomes_by u.setting u.bytes u.direction body_of (outs i) o a in
    let is : outcomes (op_in c.args.input.code.now.program.leaves.items c.args.instruction) ≡ outcomes (op_in c.args.input.code.now.program.leaves.items (insts.BeginLoop c.in-BeginLoop.greedy c.in-BeginLoop.body c.in-BeginLoop.next)) = ap (λ x. outcomes (op_in c.args.input.code.now.program.leaves.items x)) c.in-BeginLoop.is in (
      refl,
      subst (Leads (outcomes (op_in c.args.input.code.now.program.leaves.items c.args.instruction)) (outs i)) (sym (c.choose.ensures.at capture_of))
          (either-leads (outs i) t full right a can.pc can.position (outcomes (op_in c.args.input.code.now.program.leaves.items c.args.instruction)) c.in-BeginLoop.greedy c.in-BeginLoop.body
          c.in-BeginLoop.next (omega (arith, fits.0, can.pc)) (omega (arith, fits.1, can.pc)) is some),
    )

pub returns-else-not-walker-clause-leads : goal.returns-else-not-walker-clause-leads
returns-else-not-walker-clause-leads c = λ outs solution full right other some.
    let u = subject c.args.input.rules c.args.input.text.now in
    let t = c.args.table.now in
    let capture_of = capture_in u.setting u.bytes (code_routines c.args.input.code.now) outs (length c.args.walker.now.slots.items) in
    let a = at_of capture_of c.args.walker.now in
    let can = c.requires.can in
    let fits = subst (Fits _ t.width a.pc) (ap (op_in c.args.input.code.now.program.leaves.items) c.in-Repeat.is) can.fits in
    let program = code_routines c.args.input.code.now in
    let i = length c.args.input.tables.now in
    let body_of = matcher_of u.setting u.bytes program outs in
    let outcomes : Op → List MatchState = λ o. outcomes_by u.setting u.bytes u.direction body_of (outs i) o a in
    let is : outcomes (op_in c.args.input.code.now.program.leaves.items c.args.instruction) ≡ outcomes (op_in c.args.input.code.now.program.leaves.items (insts.Repeat c.in-Repeat.greedy c.in-Repeat.body c.in-Repeat.next)) = ap (λ x. outcomes (op_in c.args.input.code.now.program.leaves.items x)) c.in-Repeat.is in (
      refl,
      subst (Leads (outcomes (op_in c.args.input.code.now.program.leaves.items c.args.instruction)) (outs i)) (sym (c.choose-in-Repeat.ensures.at capture_of))
          (either-leads (outs i) t full right a can.pc can.position (outcomes (op_in c.args.input.code.now.program.leaves.items c.args.instruction)) c.in-Repeat.greedy c.in-Repeat.body
          c.in-Repeat.next fits.0 (omega (arith, fits.1, can.pc))
          (is ∙ ap (λ (b : Bool). if b then either (outs i) c.in-Repeat.greedy (enter c.in-Repeat.body a) (goto c.in-Repeat.next a) else []) c.if-not-walker.false)
          some),
    )

pub returns-in-Look-clause-leads : goal.returns-in-Look-clause-leads
returns-in-Look-clause-leads c = λ outs solution full right other some.
    let u = subject c.args.input.rules c.args.input.text.now in
    let t = c.args.table.now in
    let capture_of = capture_in u.setting u.bytes (code_routines c.args.input.code.now) outs (length c.args.walker.now.slots.items) in
    let a = at_of capture_of c.args.walker.now in
    let can = c.requires.can in
    let fits = subst (Fits _ t.width a.pc) (ap (op_in c.args.input.code.now.program.leaves.items) c.in-Look.is) can.fits in
    let program = code_routines c.args.input.code.now in
    let i = length c.args.input.tables.now in
    let body_of = matcher_of u.setting u.bytes program outs in
    let outcomes : Op → List MatchState = λ o. outcomes_by u.setting u.bytes u.direction body_of (outs i) o a in
    let range = look_range c.args.input.code.now _ c.in-Look.negate c.in-Look.routine c.in-Look.next _ c.deref.ensures.value c.changed_by_look-range.ensures in
    let here = c.requires.at.here ∙ ap (λ x. Some (op_in c.args.input.code.now.program.leaves.items x)) c.in-Look.is in
    let tabled = and_parts (has_no_back_reference program) (is_linear program || code_tidy c.args.input.code.now) c.requires.tabled in (
      refl,
      subst (λ o. Leads (outcomes (op_in c.args.input.code.now.program.leaves.items o)) (outs i) (at_of capture_of c.pass.new.self)) (sym c.in-Look.is)
          (look-goes (outs i) u.setting u.bytes program outs c.args.input.code.now.program.is_program tabled.0 solution u.direction i c.in-Look.negate c.in-Look.routine c.in-Look.next
          c.args.walker.now c.pass.new.self fits.0 (omega (arith, can.position, can.length))
          (λ positive. look-unset program c.requires.at.routine c.args.walker.now.pc c.args.walker.now.slots.items c.pass.new.self.slots.items
          c.requires.at.clean c.in-Look.routine c.in-Look.next
          (here ∙ ap (λ b. Some (look b c.in-Look.routine c.in-Look.next)) positive) capture_of)
          (record {
            pc = c.pass.ensures.pc;
            moved = c.pass.ensures.moved;
            position = c.pass.ensures.position;
            begins = ap (λ b. b.items) c.pass.ensures.begins;
            slots = subst (λ g. SetInside g c.in-Look.routine c.args.walker.now.position c.args.walker.now.slots.items c.pass.new.self.slots.items)
                range c.pass.ensures.slots;
          })
          (subst (λ o. has_outcome (outcomes (op_in c.args.input.code.now.program.leaves.items o)) ≡ true) c.in-Look.is some)),
    )
