-- The sums and tests over a list with one more part.
use Rattle.std.proofs.Common.{◌≡◌, ℕ, ◌+◌, ◌||◌, max, ap, ap₂, sym, ◌∙◌, arith}
use mir.Val.{bool_byte}
use Rattle.regress_tree.specs.Measures.{nesting}
use Rattle.regress_tree.specs.NodeTests.{match_always_fails}
use Rattle.regress_tree.specs.Shapes.{on_leaf, on_wrapper, is_group, is_loop, is_string_set, is_cat}
use Rattle.regress_rewrite.proofs.lemmas.Checked.{sum_of}
use Rattle.regress_normalize.proofs.FactsLemmas.{around, counted, charge-more, deepest-more, around-charge, around-nesting, some_node-more, some_part-more, greater}
use Rattle.regress_normalize.proofs.facts.ListFacts.add.Goals as goal

pub returns : goal.returns
returns c ts t list part cat =
    let one : c.from-around.result ≡ around t = c.from-around.ensures ∙ ap bool_byte cat ∙ counted (is_cat t) in
    let less : c.saturating_sub-2.result + around t ≡ nesting t =
    omega (arith, c.saturating_sub-2.ensures, one, part.nesting, around-nesting t) in
    let sum = sum_of _ _ _ c.checked_add.result c.checked_add.ensures c.in_ok-self.ensures.value in
    record {
      charge = omega (arith, sum, c.saturating_sub.ensures, one, part.charge, list.charge, around-charge t, charge-more ts t);
      nesting = c.max-self.ensures ∙ greater c.args.self.now.nesting c.saturating_sub-2.result
          ∙ ap (λ (n : ℕ). max n c.saturating_sub-2.result) list.nesting
          ∙ sym (deepest-more ts t c.saturating_sub-2.result less);
      has_group = ap₂ ◌||◌ list.has_group part.has_group ∙ sym (some_node-more ts t (on_wrapper is_group));
      has_loop = ap₂ ◌||◌ list.has_loop part.has_loop ∙ sym (some_node-more ts t (on_wrapper is_loop));
      has_string_set = ap₂ ◌||◌ list.has_string_set part.has_string_set ∙ sym (some_node-more ts t (on_leaf is_string_set));
      some_fails = ap₂ ◌||◌ list.some_fails part.always_fails ∙ sym (some_part-more ts t match_always_fails);
    }
