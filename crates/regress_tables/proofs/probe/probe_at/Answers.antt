use Rattle.std.proofs.Common.{length, ◌≡◌, ap, sym, subst, arith, false}
use Rattle.regress_leaves.specs.Leaves.{exactly}
use Rattle.regress_leaves.specs.Subject.{subject}
use Rattle.regress_tree.specs.Reading.{direction_if}
use Rattle.regress_tree.specs.Tree.{tree}
use Rattle.regress_program.specs.Linear.{is_back_reference}
use Rattle.regress_program.specs.Program.{look, matcher_of, part}
use Rattle.regress_program.specs.Shape.{Fits}
use Rattle.regress_code.specs.Code.{code_routines}
use Rattle.regress_program.specs.Views.{op_in}
use Rattle.regress_program.proofs.lemmas.Onward.{Stays-tree}
use Rattle.regress_tables.specs.Probes.{IsProbe}
use Rattle.regress_tables.proofs.EvaluateLemmas.{characters_is, leaf_is, reached-within, look-earlier}
use Rattle.regress_tables.proofs.ProbeLemmas.{look_leads, part_lands}
use Rattle.regress_tables.proofs.probe.probe_at.Goals as goal

pub landing-requires-clause-to : goal.landing-requires-clause-to
landing-requires-clause-to c =
    let u = subject c.args.input.rules c.args.input.text.now in
    let can = c.requires.can in
    reached-within u.bytes u.direction _ c.args.position _ _ (Stays-tree u.setting u.bytes u.direction (tree c.in-Some.test.now.node))
    (omega (arith, can.length, can.position_in)) can.length c.leaf_end-to.ensures

pub landing-requires-in-Characters-clause-to : goal.landing-requires-in-Characters-clause-to
landing-requires-in-Characters-clause-to c =
    let u = subject c.args.input.rules c.args.input.text.now in
    let can = c.requires.can in
    reached-within u.bytes u.direction _ c.args.position _ _ (Stays-tree u.setting u.bytes u.direction (exactly c.in-Characters.count (tree c.in-Some-test.test.now.node)))
    (omega (arith, can.length, can.position_in)) can.length c.characters_end-to.ensures

pub leaf_end-to-requires : goal.leaf_end-to-requires
leaf_end-to-requires c =
    let can = c.requires.can in
    let fits = subst (Fits _ _ can.pc) (leaf_is _ _ _ _ _ c.in-Leaf.is c.in-Some.ensures) can.fits in
    record { part = fits.0; captures = subst (λ op. is_back_reference op ≡ false) (leaf_is _ _ _ _ _ c.in-Leaf.is c.in-Some.ensures) can.no_reference }

pub characters_end-to-requires : goal.characters_end-to-requires
characters_end-to-requires c =
    let can = c.requires.can in
    let fits = subst (Fits _ _ _) (characters_is _ _ _ _ _ _ c.in-Characters.is c.in-Some-test.ensures) can.fits in
    record { one = fits.0.1; inside = omega (arith, can.length, can.position_in); run = c.length_at-run.ensures.run }

pub looks-requires-clause-earlier : goal.looks-requires-clause-earlier
looks-requires-clause-earlier c =
    let can = c.requires.can in
    let fits = subst (Fits _ _ can.pc) (ap (op_in c.args.input.code.now.program.leaves.items) c.in-Look.is) can.fits in
    look-earlier _ _ c.in-Look.routine fits.0

pub returns-in-Some-clause-probe : goal.returns-in-Some-clause-probe
returns-in-Some-clause-probe c = λ outs tables right.
    let u = subject c.args.input.rules c.args.input.text.now in
    let body_of = matcher_of u.setting u.bytes (code_routines c.args.input.code.now) outs in
    let can = c.requires.can in
    let op_is = leaf_is _ _ _ _ _ c.in-Leaf.is c.in-Some.ensures in
    let fits = subst (Fits _ _ can.pc) op_is can.fits in
    subst (λ op. IsProbe u.setting u.bytes u.direction body_of (outs (length c.args.input.tables.now)) op c.args.position c.landing.result) (sym op_is)
    (subst (λ p. IsProbe u.setting u.bytes u.direction body_of (outs (length c.args.input.tables.now)) (part (tree c.in-Some.test.now.node) c.in-Leaf.next) c.args.position p) (sym c.landing.ensures)
    (part_lands u.setting u.bytes u.direction body_of (outs (length c.args.input.tables.now)) c.args.table.now right can.pc c.args.position can.at can.pc_in can.position_in
    (tree c.in-Some.test.now.node) c.in-Leaf.next c.leaf_end-to.result can.length (ap direction_if can.backwards) fits.1 c.leaf_end-to.ensures))

pub returns-in-Some-test-clause-probe : goal.returns-in-Some-test-clause-probe
returns-in-Some-test-clause-probe c = λ outs tables right.
    let op_is = characters_is _ _ _ _ _ _ c.in-Characters.is c.in-Some-test.ensures in
    let fits = subst (Fits _ _ _) op_is c.requires.can.fits in
    let u = subject c.args.input.rules c.args.input.text.now in
    let body_of = matcher_of u.setting u.bytes (code_routines c.args.input.code.now) outs in
    let can = c.requires.can in
    subst (λ op. IsProbe u.setting u.bytes u.direction body_of (outs (length c.args.input.tables.now)) op c.args.position c.landing-in-Characters.result) (sym op_is)
    (subst (λ p. IsProbe u.setting u.bytes u.direction body_of (outs (length c.args.input.tables.now)) (part (exactly c.in-Characters.count (tree c.in-Some-test.test.now.node)) c.in-Characters.next) c.args.position p)
    (sym c.landing-in-Characters.ensures)
    (part_lands u.setting u.bytes u.direction body_of (outs (length c.args.input.tables.now)) c.args.table.now right can.pc c.args.position can.at can.pc_in can.position_in
    (exactly c.in-Characters.count (tree c.in-Some-test.test.now.node)) c.in-Characters.next c.characters_end-to.result can.length (ap direction_if can.backwards) fits.1 c.characters_end-to.ensures))

pub returns-in-Look-clause-probe : goal.returns-in-Look-clause-probe
returns-in-Look-clause-probe c = λ outs tables right.
    let u = subject c.args.input.rules c.args.input.text.now in
    let body_of = matcher_of u.setting u.bytes (code_routines c.args.input.code.now) outs in
    let op_is = ap (op_in c.args.input.code.now.program.leaves.items) c.in-Look.is in
    subst (λ op. IsProbe u.setting u.bytes u.direction body_of (outs (length c.args.input.tables.now)) op c.args.position c.stays_if.result) (sym op_is)
    (subst (λ p. IsProbe u.setting u.bytes u.direction body_of (outs (length c.args.input.tables.now)) (look c.in-Look.negate c.in-Look.routine c.in-Look.next) c.args.position p) (sym c.stays_if.ensures)
    (look_leads u.setting u.bytes u.direction body_of (outs (length c.args.input.tables.now)) c.in-Look.negate c.in-Look.routine c.in-Look.next c.args.position c.looks.result (c.looks.ensures outs tables)))
