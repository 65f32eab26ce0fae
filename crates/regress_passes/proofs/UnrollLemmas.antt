-- Unrolling obeys the law, and makes the tree less.
use Rattle.std.proofs.Common.{◌≡◌, ℕ, zero, suc, ◌+◌, ◌-◌, ◌*◌, ◌≤◌, Bool, true, false, ◌||◌, inl, inr, List, [], ◌∷◌, ◌++◌, length, Option, Some, None, refl, sym, ap, ap₂, ◌∙◌, append-nil, flat_map, mul-le-mul, arith}
use Rattle.std.specs.Prelude.{encode_utf8_all}
use Rattle.std.specs.Option.{option_eq}
use lib.Dec.{eqb}
use Rattle.std.proofs.lemmas.Bool.{cases_Bool, false≢true, eqb-true}
use Rattle.std.proofs.lemmas.Bool.Decides.{nat_tests}
use mathlib.Core.Path.{fun_ext}
use Rattle.regress_tree.specs.declared.ir.node.Node.{Node}
use Rattle.regress_base.specs.declared.types.Quantifier.{Quantifier}
use Rattle.regress_tree.specs.Copies.{HasNoGroup}
use Rattle.regress_tree.specs.Matching.{steps, steps_of_parts}
use Rattle.regress_tree.specs.Measures.{total_in_list, nesting}
use Rattle.regress_tree.specs.Reading.{Direction}
use Rattle.regress_tree.specs.Repetition.{iterations, up_to, extra_iterations, repeat_matcher}
use Rattle.regress_tree.specs.Shapes.{has_loop, has_string_set, is_simplified_away, max_body_charge, max_body_nesting, may_unroll, may_unroll_by, is_unrolled_away, is_zero, LacksShape, ListLacksShape}
use Rattle.regress_tree.specs.Steps.{MatchState, Matcher, ◌then_◌, Setting}
use Rattle.regress_tree.specs.Tree.{Tree, Trees, leaf, cat, alt, wrapped, capture_group, loop, loop_one, lookaround, no_trees, more_trees, append_trees, copies, tree, trees}
use Rattle.regress_tree.specs.Units.{sizes, units, unrollables, loops, unrolling, charge, IsLess}
use Rattle.regress_tree.specs.WellFormed.{captures, captures_of_trees, Position, inside, last_of, IsQuantifier, IsAllowed, PartsAllowed}
use Rattle.regress_tree.proofs.lemmas.Alike.{Alike-from_same}
use Rattle.regress_tree.proofs.lemmas.Copies.{copies-occur, captures-copies}
use Rattle.regress_tree.proofs.lemmas.Groups.{captures-none, HasNoGroup-from, iteration-none}
use Rattle.regress_tree.proofs.lemmas.Measures.{total-append, total-copies, loops-none, units-le, some_node-copies, ListLacksShape-append}
use Rattle.regress_tree.proofs.lemmas.Outcomes.{flat_map-stay}
use Rattle.regress_tree.proofs.lemmas.Positions.{last_of-free}
use Rattle.regress_tree.proofs.lemmas.Lists.{append_trees-none, steps-append, captures-append, trees-append, PartsAllowed-append}
use Rattle.regress_rewrite.specs.declared.action.PassAction.TheVariants.{Modified}
use Rattle.regress_rewrite.specs.Law.{IsPart, Keeps, ObeysLaw}
use Rattle.regress_rewrite.specs.Unroll.{further_iterations, further_loop, unrolled}
use Rattle.regress_passes.specs.Unrolled.{unrolled_loop}
use Rattle.regress_rewrite.proofs.lemmas.Lawful.{modified_lawful}
use Rattle.regress_rewrite.proofs.lemmas.Unrolling.{MayUnroll-from, unrolled_keeps, unrolled_less}

module _ (q : Quantifier) (start end : ℕ) (body : Tree) where
  pub unroll_lawful : (d : Direction) → IsPart (wrapped (loop q start end) body) → may_unroll q start end body ≡ true →
      ObeysLaw is_unrolled_away true d (wrapped (loop q start end) body) (unrolled q start end body) Modified
  unroll_lawful d part may =
      let facts = MayUnroll-from q start end body may in
      modified_lawful is_unrolled_away true d (wrapped (loop q start end) body) may (unrolled q start end body)
      (unrolled_keeps q start end body facts d part) (unrolled_less q start end body facts)

  -- the node that the code makes with a remaining loop
  pub unrolled-with : (parts : List Node) → trees parts ≡ copies q.min body → (further : Node) → tree further ≡ wrapped (loop (further_iterations q) start end) body →
      is_zero (further_iterations q).max ≡ false → cat (trees (parts ++ further ∷ [])) ≡ unrolled q start end body
  unrolled-with parts copied further is some =
      rw some (ap cat (trees-append parts (further ∷ []) ∙ ap₂ (λ (ts : Trees) (t : Tree). append_trees ts (more_trees t no_trees)) copied is))

-- The same for any node.

pub loop_lawful : (d : Direction) (t new : Tree) → IsPart t → is_unrolled_away t ≡ true → new ≡ unrolled_loop t →
    ObeysLaw is_unrolled_away true d t new Modified
loop_lawful d (leaf l) new part is made = absurd (false≢true is)
loop_lawful d (cat parts) new part is made = absurd (false≢true is)
loop_lawful d (alt left right) new part is made = absurd (false≢true is)
loop_lawful d (wrapped (capture_group id name) body) new part is made = absurd (false≢true is)
loop_lawful d (wrapped (loop q start end) body) new part is made = rw made (unroll_lawful q start end body d part is)
loop_lawful d (wrapped (loop_one q) body) new part is made = absurd (false≢true is)
loop_lawful d (wrapped (lookaround negate backwards start end) body) new part is made = absurd (false≢true is)
