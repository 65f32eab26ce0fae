use Rattle.std.proofs.Common.{◌≡◌, ◌∙◌, Some, false, slice_get, refl, sym, ap, subst}
use Rattle.std.proofs.lemmas.Option.{slice_get_read}
use Rattle.regress_tree.specs.Reading.{direction_if}
use Rattle.regress_tree.specs.Steps.{Matcher}
use Rattle.regress_tree.specs.Tree.{tree}
use Rattle.regress_program.specs.Program.{goto, outcomes_by, reach}
use Rattle.regress_program.specs.declared.instruction.Instruction.TheVariants as insts
use Rattle.regress_code.specs.NextBytes.{Bounds}
use Rattle.regress_program.specs.Views.{characters_of, op_in, part_of}
use Rattle.regress_code.proofs.NextBytesLemmas.{body_bounds, cond_bounds, ended_bounds, exactly_bounds, look_bounds, reach_bounds}
use Rattle.regress_code.proofs.next_bytes.instruction_next_bytes.Goals as goal

pub returns-then-leaf-leaves : goal.returns-then-leaf-leaves
returns-then-leaf-leaves c = λ setting folds text body_of out a bodies are.
    let d = direction_if c.args.backwards in
    let leaves = c.args.leaves.now in
    let some : slice_get leaves c.in-Leaf.leaf ≡ Some c.index-leaves-leaf.result =
    slice_get_read leaves _ c.in-Leaf.leaf c.index-leaves-leaf.result refl c.if-leaf-leaves.true c.index-leaves-leaf.is in
    subst (λ i. Bounds c.leaf_next_bytes.result d text a.state.position (outcomes_by setting text d body_of out (op_in leaves i) a)) (sym c.in-Leaf.is)
    (subst (λ o. Bounds c.leaf_next_bytes.result d text a.state.position (outcomes_by setting text d body_of out (part_of o c.in-Leaf.next) a)) (sym some)
    (c.leaf_next_bytes.ensures setting folds text a.state (λ t. out (reach c.in-Leaf.next a t))
    (reach_bounds c.next_bytes_at.result d text out c.in-Leaf.next (c.next_bytes_at.ensures d text out are) a)))

pub returns-then-leaf-leaves-2 : goal.returns-then-leaf-leaves-2
returns-then-leaf-leaves-2 c = λ setting folds text body_of out a bodies are.
    let d = direction_if c.args.backwards in
    let leaves = c.args.leaves.now in
    let leaf = c.in-Characters.leaf in
    let count = c.in-Characters.count in
    let next = c.in-Characters.next in
    let next_byte = c.leaf_next_bytes-then-leaf-leaves-2.result in
    let test = c.index-leaves-leaf-then-leaf-leaves-2.result in
    let some : slice_get leaves leaf ≡ Some test =
    slice_get_read leaves _ leaf test refl c.if-leaf-leaves-2.true c.index-leaves-leaf-then-leaf-leaves-2.is in
    subst (λ i. Bounds next_byte d text a.state.position (outcomes_by setting text d body_of out (op_in leaves i) a)) (sym c.in-Characters.is)
    (subst (λ o. Bounds next_byte d text a.state.position (outcomes_by setting text d body_of out (characters_of o count next) a)) (sym some)
    (exactly_bounds next_byte setting d text (tree test.node) a.state
    (λ g. c.leaf_next_bytes-then-leaf-leaves-2.ensures setting folds text a.state g (λ t same. tt)) count c.if-count-gt0.true (λ t. out (reach next a t))))

pub returns-in-EndLoop : goal.returns-in-EndLoop
returns-in-EndLoop c = λ setting folds text body_of out a bodies are.
    let d = direction_if c.args.backwards in
    let next = c.in-EndLoop.next in
    let next_byte = c.next_bytes_at-in-EndLoop.result in
    subst (λ i. Bounds next_byte d text a.state.position (outcomes_by setting text d body_of out (op_in c.args.leaves.now i) a)) (sym c.in-EndLoop.is)
    (cond_bounds next_byte d text a.state.position a.moved (out (goto next a)) (c.next_bytes_at-in-EndLoop.ensures d text out are (goto next a) refl))

pub returns-in-EndGroup : goal.returns-in-EndGroup
returns-in-EndGroup c = λ setting folds text body_of out a bodies are.
    let d = direction_if c.args.backwards in
    let next = c.in-EndGroup.next in
    let next_byte = c.next_bytes_at-in-EndGroup.result in
    subst (λ i. Bounds next_byte d text a.state.position (outcomes_by setting text d body_of out (op_in c.args.leaves.now i) a)) (sym c.in-EndGroup.is)
    (ended_bounds next_byte d text out next (c.next_bytes_at-in-EndGroup.ensures d text out are) a c.in-EndGroup.id a.begins)

pub returns-then-negate : goal.returns-then-negate
returns-then-negate c = λ setting folds text body_of out a bodies are.
    let d = direction_if c.args.backwards in
    let next = c.in-Look.next in
    let after = c.next_bytes_at-after.result in
    subst (λ i. Bounds after d text a.state.position (outcomes_by setting text d body_of out (op_in c.args.leaves.now i) a)) (sym c.in-Look.is)
    (look_bounds after d text a.state (λ t. out (reach next a t)) (reach_bounds after d text out next (c.next_bytes_at-after.ensures d text out are) a)
    c.in-Look.negate (body_of c.in-Look.routine))

pub returns-else-negate : goal.returns-else-negate
returns-else-negate c = λ setting folds text body_of out a bodies are.
    let d = direction_if c.args.backwards in
    let next = c.in-Look.next in
    let routine = c.in-Look.routine in
    let after = c.next_bytes_at-after.result in
    let body = c.body_next_bytes.result in
    let g : Matcher = λ t. out (reach next a t) in
    let is : c.args.instruction ≡ insts.Look false routine next = c.in-Look.is ∙ ap (λ b. insts.Look b routine next) c.if-negate.false in
    subst (λ i. Bounds c.and.result d text a.state.position (outcomes_by setting text d body_of out (op_in c.args.leaves.now i) a)) (sym is)
    (c.and.ensures d text a.state.position _
    (body_bounds body d text a.state (body_of routine) g (c.body_next_bytes.ensures text body_of bodies a.state))
    (look_bounds after d text a.state g (reach_bounds after d text out next (c.next_bytes_at-after.ensures d text out are) a) false (body_of routine)))
