use Rattle.std.proofs.Common.{◌≡◌, ◌<◌, Some, length, slice_get, option_map, refl, sym, ap, ◌∙◌, subst, arith}
use Rattle.std.proofs.lemmas.List.{length-map}
use Rattle.std.proofs.lemmas.Option.{slice_get-map, slice_get_read}
use Rattle.regress_tree.specs.Reading.{direction_if}
use Rattle.regress_tree.specs.Steps.{Setting}
use Rattle.regress_unicode.specs.TableOf.{table_of}
use Rattle.regress_code.specs.NextBytes.{AreNextBytes}
use Rattle.regress_code.specs.Possessive.{ArePossessive}
use Rattle.regress_code.specs.Rows.{AreRows}
use Rattle.regress_code.specs.Skips.{AreSkips}
use Rattle.regress_program.specs.Listed.{listed}
use Rattle.regress_program.specs.Views.{routine_in}
use Rattle.regress_backtrack.proofs.input.input_for.Goals as goal

pub index-routine-requires : goal.index-routine-requires
index-routine-requires c =
    omega (arith, length-map c.args.code.now.program.routines.items (routine_in c.args.code.now.program.leaves.items), c.requires)

pub returns-in-Some-clause-input : goal.returns-in-Some-clause-input
returns-in-Some-clause-input c =
    let code = c.args.code.now in
    let leaves = code.program.leaves.items in
    let routines = code.program.routines.items in
    let i = c.args.index in
    let r = c.index-routine.result.now in
    let a = c.in-Some.analysis.now in
    let lt : i < length routines = omega (arith, length-map routines (routine_in leaves), c.requires) in
    let here : slice_get routines i ≡ Some r = slice_get_read routines _ i _ refl lt c.index-routine.ensures in
    let in_program = slice_get-map (routine_in leaves) routines i ∙ ap (option_map (routine_in leaves)) here in
    let known : slice_get code.analyses.items i ≡ Some a = c.in-Some.ensures.analysis in
    let setting : Setting = record { flags = c.args.rules.flags; table = table_of c.args.rules.known.tables.now } in
    record {
      is = here;
      direction = refl;
      first = refl;
      leading = c.leading.ensures;
      next_bytes = λ outs solve.
          subst (λ fs. AreNextBytes fs (direction_if r.backwards) c.args.text.now (outs i)) (sym c.deref.ensures.value)
          (code.bounded setting c.in-Some.ensures.folds c.args.text.now outs solve i a known (routine_in leaves r) in_program);
      skips = subst (λ ps. AreSkips ps c.deref.result.now (listed r)) (sym c.deref-in-Some.ensures.value)
          (subst (λ fs. AreSkips a.skips.items fs (listed r)) (sym c.deref.ensures.value) (code.counted i a known r here));
      rows = subst (λ rs. AreRows code.folds rs leaves (listed r) r.backwards) (sym c.deref-in-Some-2.ensures.value) (code.rowed i a known r here);
      folds = λ any. c.in-Some.ensures.folds;
      possessive = subst (λ ps. ArePossessive ps c.deref.result.now leaves (listed r)) (sym c.deref-in-Some-3.ensures.value)
          (subst (λ fs. ArePossessive a.possessive.items fs leaves (listed r)) (sym c.deref.ensures.value) (code.excluded i a known r here));
    }

pub returns-in-None-clause-input : goal.returns-in-None-clause-input
returns-in-None-clause-input c =
    let code = c.args.code.now in
    let leaves = code.program.leaves.items in
    let routines = code.program.routines.items in
    let i = c.args.index in
    let r = c.index-routine.result.now in
    let lt : i < length routines = omega (arith, length-map routines (routine_in leaves), c.requires) in
    let here : slice_get routines i ≡ Some r = slice_get_read routines _ i _ refl lt c.index-routine.ensures in
    record {
      is = here;
      direction = refl;
      first = refl;
      leading = c.leading.ensures;
      next_bytes = λ outs solve pc next_byte is. let bad : ⊥ = cc in absurd bad;
      skips = λ pc p is. let bad : ⊥ = cc in absurd bad;
      rows = λ i row is. let bad : ⊥ = cc in absurd bad;
      folds = λ any. let bad : ⊥ = omega (arith, any) in absurd bad;
      possessive = λ pc is. let bad : ⊥ = cc in absurd bad;
    }
