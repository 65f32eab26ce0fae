-- The remaining alternatives or parts complete what the whole requires.
use Rattle.std.proofs.Common.{◌≡◌, ◌⊎◌, ◌≤◌, ℕ, true, false, drop}
use Rattle.std.specs.Prelude.{nat_lt}
use Rattle.regress_base.specs.ByteBitmap.{contains}
use Rattle.regress_tree.specs.Tree.{tree, trees, cat}
use Rattle.regress_tree.specs.declared.ir.node.Node.{size-Node}
use Rattle.regress_prefilter.specs.Required.{IsRequired}
use Rattle.regress_prefilter.proofs.required.+required_bytes.Given as goal

abbrev pub invariant-required_bytes-loop-last : goal.invariant-required_bytes-loop-last
invariant-required_bytes-loop-last l = record {
  smaller : size-Node l.last ≤ size-Node l.node;
  rest : (b : ℕ) → nat_lt b 256 ≡ true → contains l.lacking b ≡ false → IsRequired b (tree l.last) → IsRequired b (tree l.node);
}

abbrev pub invariant-required_bytes_of_any-loop-part : goal.invariant-required_bytes_of_any-loop-part
invariant-required_bytes_of_any-loop-part l =
    (b : ℕ) → (contains l.all b ≡ true) ⊎ IsRequired b (cat (trees (drop l.part-index l.parts))) → IsRequired b (cat (trees l.parts))
