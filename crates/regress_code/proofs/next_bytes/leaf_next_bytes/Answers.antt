use Rattle.std.proofs.Common.{rules, ◌≡◌, false, [], flat_map, sym, ap, subst}
use Rattle.regress_tree.specs.Matching.{steps}
use Rattle.regress_tree.specs.Reading.{direction_if}
use Rattle.regress_tree.specs.Tree.{tree}
use Rattle.regress_leaves.specs.declared.start.Start.TheVariants as starts
use Rattle.regress_code.specs.NextBytes.{IsOutside}
use Rattle.regress_leaves.specs.Starts.{IsStart}
use Rattle.regress_code.proofs.NextBytesLemmas.{ascii_outside, bytes_outside, next_outside}
use Rattle.regress_code.proofs.next_bytes.leaf_next_bytes.Goals as goal

pub returns-in-Ascii : goal.returns-in-Ascii
returns-in-Ascii c = λ setting folds text s g holds out.
    let t = tree c.args.test.now.node in
    let set = c.in-Ascii.set in
    let known : IsStart (starts.Ascii set) t = subst (λ x. IsStart x t) c.in-Ascii.is c.args.test.now.begins in
    ap (flat_map g)
    (ascii_outside set c.with_others.result t known.0 known.1 c.with_others.ensures setting text (direction_if c.args.backwards) s out)

pub returns-else-backwards : goal.returns-else-backwards
returns-else-backwards c = λ setting folds text s g holds out.
    let t = tree c.args.test.now.node in
    let set = c.in-Bytes.set in
    let known : IsStart (starts.Bytes set) t = subst (λ x. IsStart x t) c.in-Bytes.is c.args.test.now.begins in
    ap (flat_map g)
    (subst (λ b. steps setting text (direction_if b) t s ≡ []) (sym c.if-backwards.false)
    (bytes_outside set t known setting text s
    (subst (λ b. IsOutside (direction_if b) set text s.position) c.if-backwards.false out)))

pub returns-then-not-backwards : goal.returns-then-not-backwards
returns-then-not-backwards c = λ setting folds text s g holds out.
    let t = tree c.args.test.now.node in
    let set = c.in-Folded.set in
    let forward : c.args.backwards ≡ false = search rules in
    let known : IsStart (starts.Folded set) t = subst (λ x. IsStart x t) c.in-Folded.is c.args.test.now.begins in
    ap (flat_map g)
    (subst (λ b. steps setting text (direction_if b) t s ≡ []) (sym forward)
    (known setting text s (folds c.if-folds.true)
    (next_outside set text s.position (subst (λ b. IsOutside (direction_if b) set text s.position) forward out))))
