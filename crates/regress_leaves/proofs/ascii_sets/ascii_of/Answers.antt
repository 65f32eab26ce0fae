use Rattle.std.proofs.Common.{rules, arith, ◌≡◌, ◌∙◌, ap, not, sym}
use Rattle.regress_base.specs.Listing.{lists}
use Rattle.regress_prefilter.specs.OneCharacter.{test_of}
use Rattle.regress_tree.specs.Tree.{byte_set, leaf, match_any_except_line_terminator, tree}
use Rattle.regress_tree.specs.declared.ir.node.Node.{the_lemmas}
use Rattle.regress_leaves.proofs.AsciiSetLemmas.{bytes_listed, terminators_listed}
use Rattle.regress_leaves.proofs.ascii_sets.ascii_of.Goals as goal

pub returns-in-ByteSet : goal.returns-in-ByteSet
returns-in-ByteSet c = λ b low.
    let is : tree c.args.node.now ≡ leaf (byte_set c.in-ByteSet.bytes.items) = search (rules, the_lemmas) in
    c.new.ensures b ∙ bytes_listed c.deref-in-ByteSet.result.now b low ∙ ap (λ xs. lists xs b) c.deref-in-ByteSet.ensures.value
    ∙ ap (λ t. test_of t b) (sym is)

pub returns-in-MatchAnyExceptLineTerminator : goal.returns-in-MatchAnyExceptLineTerminator
returns-in-MatchAnyExceptLineTerminator c = λ b low.
    let is : tree c.args.node.now ≡ leaf match_any_except_line_terminator = search (rules, the_lemmas) in
    c.complement-in-MatchAnyExceptLineTerminator.ensures b (omega (arith, low)) ∙ ap not (c.line_terminators.ensures b ∙ terminators_listed b low)
    ∙ ap (λ t. test_of t b) (sym is)
