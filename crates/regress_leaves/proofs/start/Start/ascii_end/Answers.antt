use Rattle.std.proofs.Common.{◌≡◌, Some, sym, ap, ◌∙◌, subst}
use Rattle.regress_tree.specs.Reading.{direction_if, next_character, of_bytes}
use Rattle.regress_leaves.specs.declared.start.Start.TheVariants as starts
use Rattle.regress_leaves.specs.Starts.{IsStart}
use Rattle.regress_leaves.proofs.lemmas.Starts.{ascii_fails, ascii_matches}
use Rattle.regress_leaves.proofs.start.Start.ascii_end.Goals as goal

pub returns-then-contains : goal.returns-then-contains
returns-then-contains c = λ t is setting s at.
    let d = direction_if c.args.backwards in
    let known : IsStart (starts.Ascii c.in-Ascii.set) t = subst (λ x. IsStart x t) c.in-Ascii.is is in
    let here : next_character d (of_bytes c.args.text.now) s.position ≡ Some (record { character = c.in_ok-b.b; position = c.in_ok-b.to }) =
    ap (next_character d (of_bytes c.args.text.now)) at ∙ c.in_ok-b.ensures.1 in
    ascii_matches c.in-Ascii.set t known.0 known.1 setting c.args.text.now d s c.in_ok-b.b c.in_ok-b.to c.in_ok-b.ensures.0 here
    (sym c.contains.ensures ∙ c.if-contains.true)

pub returns-else-contains : goal.returns-else-contains
returns-else-contains c = λ t is setting s at.
    let d = direction_if c.args.backwards in
    let known : IsStart (starts.Ascii c.in-Ascii.set) t = subst (λ x. IsStart x t) c.in-Ascii.is is in
    let here : next_character d (of_bytes c.args.text.now) s.position ≡ Some (record { character = c.in_ok-b.b; position = c.in_ok-b.to }) =
    ap (next_character d (of_bytes c.args.text.now)) at ∙ c.in_ok-b.ensures.1 in
    ascii_fails c.in-Ascii.set t known.0 known.1 setting c.args.text.now d s c.in_ok-b.b c.in_ok-b.to c.in_ok-b.ensures.0 here
    (sym c.contains.ensures ∙ c.if-contains.false)
