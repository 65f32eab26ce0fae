-- What was found of the parts before is required of the whole, and so is what the remaining parts require. It is the
-- longest literal of the parts before.
use Rattle.std.proofs.Common.{◌≡◌, ◌<◌, List, ℕ, drop, length}
use Rattle.std.specs.Prelude.{IfSome}
use Rattle.regress_tree.specs.Tree.{trees, cat}
use Rattle.regress_prefilter.specs.Literals.{bytes_in, literals_of_trees, longer, longest}
use Rattle.regress_prefilter.specs.Required.{IsRequiredLiteral}
use Rattle.regress_prefilter.proofs.RequiredLemmas.{IfRequired}
use Rattle.regress_prefilter.proofs.literal.+required_literal.Given as goal

abbrev pub invariant-longest_literal-loop-part : goal.invariant-longest_literal-loop-part
invariant-longest_literal-loop-part l = record {
  found : IfRequired l.longest (cat (trees l.parts));
  rest : (literal : List ℕ) → IsRequiredLiteral literal (cat (trees (drop l.part-index l.parts))) → IsRequiredLiteral literal (cat (trees l.parts));
  not_empty : IfSome l.longest (λ literal. 0 < length literal.now);
  longest : longest (literals_of_trees (trees l.parts)) ≡ longer (bytes_in l.longest) (longest (literals_of_trees (trees (drop l.part-index l.parts))));
}
