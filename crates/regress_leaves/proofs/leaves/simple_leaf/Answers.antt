use Rattle.std.proofs.Common.{rules, arith, ◌≡◌, ◌∙◌, ap, sym, true}
use Rattle.regress_tree.specs.declared.ir.node.Node.{the_lemmas}
use Rattle.regress_tree.specs.Assertions.{at_anchor, at_boundary, is_word_character}
use Rattle.regress_tree.specs.Matching.{steps}
use Rattle.regress_tree.specs.Reading.{of_bytes, direction_if}
use Rattle.regress_tree.specs.Steps.{Setting}
use Rattle.regress_tree.specs.Tree.{tree, leaf, anchor, word_boundary}
use Rattle.regress_unicode.specs.TableOf.{table_of}
use Rattle.regress_prefilter.specs.OneCharacter.{takes_one}
use Rattle.regress_prefilter.proofs.lemmas.OneCharacter.{takes_one-steps}
use Rattle.regress_leaves.proofs.lemmas.Leaves.{holds_is}
use Rattle.regress_leaves.proofs.leaves.simple_leaf.Goals as goal

pub returns-in-Anchor : goal.returns-in-Anchor
returns-in-Anchor c = λ simple s at.
    let setting : Setting = record { flags = c.args.rules.flags; table = table_of c.args.rules.known.tables.now } in
    let bytes = c.args.text.now in
    let d = direction_if c.args.rules.backwards in
    let kind = c.in-Anchor.anchor_type in
    let multiline = c.in-Anchor.multiline in
    let is : tree c.args.node.now ≡ leaf (anchor kind multiline) = search (rules, the_lemmas) in
    ap (λ t. steps setting bytes d t s) is
    ∙ holds_is (at_anchor (of_bytes bytes) kind multiline) s c.at_anchor.result
    (ap (at_anchor (of_bytes bytes) kind multiline) at ∙ sym c.at_anchor.ensures)
    ∙ sym (c.if_holds.ensures s at)

pub returns-in-WordBoundary : goal.returns-in-WordBoundary
returns-in-WordBoundary c = λ simple s at.
    let setting : Setting = record { flags = c.args.rules.flags; table = table_of c.args.rules.known.tables.now } in
    let bytes = c.args.text.now in
    let d = direction_if c.args.rules.backwards in
    let invert = c.in-WordBoundary.invert in
    let icase = c.in-WordBoundary.unicode_icase in
    let is : tree c.args.node.now ≡ leaf (word_boundary invert icase) = search (rules, the_lemmas) in
    ap (λ t. steps setting bytes d t s) is
    ∙ holds_is (at_boundary (of_bytes bytes) (is_word_character setting.table icase) invert) s c.at_boundary.result
    (ap (at_boundary (of_bytes bytes) (is_word_character setting.table icase) invert) at ∙ sym c.at_boundary.ensures)
    ∙ sym (c.if_holds-in-WordBoundary.ensures s at)

pub returns-in_default : goal.returns-in_default
returns-in_default c = λ simple s at.
    let setting : Setting = record { flags = c.args.rules.flags; table = table_of c.args.rules.known.tables.now } in
    let bytes = c.args.text.now in
    let d = direction_if c.args.rules.backwards in
    let takes : takes_one (tree c.args.node.now) ≡ true = first_of (search (rules, the_lemmas), grind (arith, the_lemmas, simple)) in
    takes_one-steps setting bytes d (tree c.args.node.now) s takes ∙ sym (c.one_character.ensures s at)
