use Rattle.std.proofs.Common.{◌≡◌, ap, ◌∙◌}
use Rattle.std.proofs.Common.{Bool, Option, Some, None, ℕ, cond}
use Rattle.std.specs.Option.{option_or}
use Rattle.regress_syntax.specs.FirstErrors.{Flaw, unopened, too_deep, is_flaw}
use Rattle.regress_syntax.specs.Scanning.{mode_of, noted}
use Rattle.regress_syntax.specs.declared.scan.first_errors.FirstErrors.{FirstErrors}
use Rattle.regress_syntax.proofs.scan.first_errors.FirstErrors.note.Goals as goal

each : (is : Flaw → Bool) (first deep : Bool) (left : ℕ) (old : FirstErrors) (a b : Option ℕ) →
    first ≡ is unopened → deep ≡ is too_deep →
    a ≡ option_or old.unopened (cond first (Some left) None) → b ≡ option_or old.too_deep (cond deep (Some left) None) → (flaw : Flaw) →
    noted flaw (record { unopened = a; too_deep = b }) ≡ option_or (noted flaw old) (cond (is flaw) (Some left) None)
each is first deep left old a b e k h j unopened = h ∙ ap (λ (q : Bool). option_or old.unopened (cond q (Some left) None)) e
each is first deep left old a b e k h j too_deep = j ∙ ap (λ (q : Bool). option_or old.too_deep (cond q (Some left) None)) k

pub returns : goal.returns
returns c =
    each (λ flaw. is_flaw flaw c.args.sets (mode_of c.args.place.mode) c.args.place.nesting c.args.c) _ _ c.args.left c.args.self.now _ _
    (c.is_unopened.ensures c.args.sets) c.is_too_deep.ensures c.note_first.ensures c.note_first-2.ensures
