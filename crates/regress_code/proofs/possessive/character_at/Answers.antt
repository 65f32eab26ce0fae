use Rattle.std.proofs.Common.{arith, Some, refl, ap, ◌∙◌}
use Rattle.std.proofs.lemmas.Option.{slice_get_read}
use Rattle.regress_program.specs.declared.instruction.Instruction.TheVariants as insts
use Rattle.regress_code.proofs.possessive.character_at.Goals as goal

pub returns-in-Ascii : goal.returns-in-Ascii
returns-in-Ascii c =
    let instruction = c.in_ok-leaf.field-0.now in
    let test = c.in_ok-set.field-0.now in
    let leaf = c.in-Leaf.leaf in
    let inside = c.in_ok-leaf.ensures.lookup.3.0 in
    let leaf_inside = c.in_ok-set.ensures.lookup.3.0 in
    record {
      leaf = leaf;
      test = test;
      is = slice_get_read c.args.instructions.now _ c.args.pc instruction refl inside c.in_ok-leaf.ensures.lookup.1 ∙ ap Some c.in-Leaf.is ∙ ap (λ n. Some (insts.Leaf leaf n)) (omega (arith, c.if-after-next.false));
      is_test = slice_get_read c.args.leaves.now _ leaf test refl leaf_inside c.in_ok-set.ensures.lookup.1;
      starts = c.in-Ascii.is;
    }
