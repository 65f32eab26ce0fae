-- The text written before, the node, and the remaining text.
use Rattle.std.proofs.Common.{◌≡◌, ◌+◌, ◌∷◌, ◌∙◌, refl, sym, ap, arith, rules, drop}
use Rattle.std.specs.Prelude.{Result, Ok, Err, OnOk}
use Rattle.std.specs.Slice.Iter.{iter_rest}
use Rattle.std.specs.Fmt.{HasWritten}
use Rattle.std.specs.declared.fmt.Error.{Error}
use Rattle.std.proofs.Math.Nat.{add-zero}
use Rattle.std.proofs.lemmas.List.{drop_more, drop-drop, at_drop_all}
use Rattle.std.proofs.Output.{has_written_append, has_written_of_eq}
use Rattle.regress_tree.specs.Tree.{tree, trees}
use Rattle.regress_tree.specs.Visits.{nodes, nodes_in_list}
use Rattle.regress_tree.proofs.lemmas.Nodes.{tree-Cat, tree-Alt, leaf_of}
use Rattle.regress_json.specs.Json.{span_mark, list_json}
use Rattle.regress_json.specs.Passed.{alternations}
use Rattle.regress_json.proofs.JsonLemmas.{unended, unended-leaf, unended-around, unended-ended, within, within-leaf, within-around, nodes-within, shown, shown-last, nodes-shown, further_last, passed-more, mark-first}
use Rattle.regress_json.proofs.json.+write_node.Goals as goal
use Rattle.regress_json.proofs.json.+write_node.Goals.{write_node-in-Cat+in_ok-write_parts-in-Cat, write_node-in-Alt+in_ok-write_node-in-Alt+in_ok-write_further-in-Alt, write_node-in_default+in-Some+in_ok-write_node-in_default, write_node-in_default+in_default-body}

always : {X : Type 0} (r : Result (Unit {0}) Error) → X → OnOk r X
always (Ok u) x = x
always (Err e) x = tt

pub write_further-loop-left-init : goal.write_further-loop-left-init
write_further-loop-left-init g t c = record {
  smaller = omega arith;
  passed = refl;
  completes = λ all at is plain. record { now = at; plain = plain; spans = is; completes = λ last rest. rest };
}

pub write_further-loop-left-preserved : goal.write_further-loop-left-preserved
write_further-loop-left-preserved g t c =
    let l = c.loop-left in
    let left = tree c.in-Some.left.now in
    let right = tree c.in-Some.right.now in
    let own = c.in_ok-write_node.ensures in
    record {
      smaller = omega (arith, c.in-Some.ensures.smaller.1, l.invariant.smaller);
      passed = ap (drop (shown right)) own.passed ∙ drop-drop (shown right) (nodes left) (iter_rest l.marks)
          ∙ (rw c.in-Some.ensures.sides at l.invariant.passed);
      completes = λ all at is plain.
          let so_far = l.invariant.completes all at is plain in
          let comma = c.in_ok-write_str.ensures.writes so_far.plain refl in
          let node = own.written all so_far.now so_far.spans comma.plain refl in
          record {
            now = so_far.now + nodes left;
            plain = node.plain;
            spans = passed-more all _ _ so_far.now (nodes left) so_far.spans own.passed;
            completes = λ last rest. so_far.completes last
                (rw c.in-Some.ensures.sides (has_written_append _ _ _ _ _ _ comma (has_written_append _ _ _ _ _ _ node rest)));
          };
    }

pub write_further-returns-clause-written : goal.write_further-returns-clause-written
write_further-returns-clause-written g t c all at is plain ok =
    let last = tree c.loop-left.last.now in
    let so_far = c.loop-left.invariant.completes all at is plain in
    let comma = c.in_ok-write_str-2.ensures.writes so_far.plain refl in
    let own = c.in_ok-write_node-2.ensures.written all so_far.now so_far.spans comma.plain refl in
    let alternatives = so_far.completes _ (has_written_of_eq _ _ _ _ _ (further_last (span_mark all) so_far.now last c.in_default.ensures.sides)
    (has_written_append _ _ _ _ _ _ comma own)) in
    has_written_append _ _ _ _ _ _ alternatives (c.write_str-3.ensures.writes alternatives.plain ok)

pub write_further-returns-clause-passed : goal.write_further-returns-clause-passed
write_further-returns-clause-passed g t c =
    let last = tree c.loop-left.last.now in
    let right = tree c.args.right.now in
    let old = (iter_rest c.args.marks.now) in
    always c.write_str-3.result (c.pass_alternations.ensures
    ∙ ap (drop (alternations right)) (c.in_ok-write_node-2.ensures.passed
    ∙ ap (λ n. drop n (iter_rest c.loop-left.marks)) (shown-last last c.in_default.ensures.sides) ∙ c.loop-left.invariant.passed)
    ∙ drop-drop (alternations right) (shown right) old ∙ ap (λ n. drop n old) (sym (nodes-shown right)))

pub write_node-returns-clause-written : goal.write_node-returns-clause-written
write_node-returns-clause-written g t c all at is plain ok =
    let took = g.W.Write.write_str_gives in
    let node = tree c.args.node.now in
    let mark = span_mark all in
    let front = c.in_ok-write_opening.ensures plain refl in
    let so_far : HasWritten took c.args.f.now (unended mark at node) c.match-node.f × ((iter_rest c.match-node.marks) ≡ drop (at + within node) all) =
    elim c.match-node.branch [
      | write_node-in-Cat+in_ok-write_parts-in-Cat w ↦
          let one = rw (w.in-Cat.is, tree-Cat) at front in
          let list = rw w.deref.ensures.value at (w.in_ok-write_parts-in-Cat.ensures.written all at is one.plain refl) in
          let passed = rw w.deref.ensures.value at w.in_ok-write_parts-in-Cat.ensures.passed in (
            rw (w.f-is, w.in-Cat.is, tree-Cat) (has_written_append _ _ _ _ _ _ one list),
            rw (w.marks-is, w.in-Cat.is, tree-Cat) (passed-more all _ _ at _ is passed),
          )
      | write_node-in-Alt+in_ok-write_node-in-Alt+in_ok-write_further-in-Alt w ↦
          let one = rw (w.in-Alt.is, tree-Alt) at front in
          let left = rw w.deref-in-Alt.ensures at (w.in_ok-write_node-in-Alt.ensures.written all at is one.plain refl) in
          let left-passed = rw w.deref-in-Alt.ensures at w.in_ok-write_node-in-Alt.ensures.passed in
          let between = passed-more all _ _ at _ is left-passed in
          let right = rw w.deref-in-Alt-2.ensures at (w.in_ok-write_further-in-Alt.ensures.written all _ between left.plain refl) in
          let right-passed = rw w.deref-in-Alt-2.ensures at w.in_ok-write_further-in-Alt.ensures.passed in (
            rw (w.f-is, w.in-Alt.is, tree-Alt) (has_written_append _ _ _ _ _ _ one (has_written_append _ _ _ _ _ _ left right)),
            rw (w.marks-is, w.in-Alt.is, tree-Alt)
                (passed-more all _ _ at _ is (passed-more _ _ _ _ _ left-passed right-passed)),
          )
      | write_node-in_default+in-Some+in_ok-write_node-in_default w ↦
          let body = tree w.in-Some.body.now in
          let around = w.in-Some.ensures.body in
          let inside = w.in_ok-write_node-in_default.ensures.written all at is front.plain refl in (
            rw w.f-is (has_written_of_eq _ _ _ _ _ (unended-around mark at node body around) (has_written_append _ _ _ _ _ _ front inside)),
            rw (w.marks-is, within-around node body around) (passed-more all _ _ at _ is w.in_ok-write_node-in_default.ensures.passed),
          )
      | write_node-in_default+in_default-body w ↦
          let alone = leaf_of c.args.node.now w.in_default.not-Cat w.in_default.not-Alt w.in_default-body.ensures.body in (
            rw w.f-is (has_written_of_eq _ _ _ _ _ (unended-leaf mark at node alone) front),
            rw (w.marks-is, within-leaf node alone, add-zero) is,
          )
    ] in
    has_written_of_eq _ _ _ _ _ (unended-ended mark at node) (has_written_append _ _ _ _ _ _ so_far.0
    (has_written_of_eq _ _ _ _ _ (mark-first all _ _ so_far.1) (c.write_ending.ensures.written so_far.0.plain ok)))

pub write_node-returns-clause-passed : goal.write_node-returns-clause-passed
write_node-returns-clause-passed g t c =
    let node = tree c.args.node.now in
    let old = (iter_rest c.args.marks.now) in
    let so_far : (iter_rest c.match-node.marks) ≡ drop (within node) old =
    elim c.match-node.branch [
      | write_node-in-Cat+in_ok-write_parts-in-Cat w ↦
          rw (w.marks-is, w.in-Cat.is, tree-Cat) (rw w.deref.ensures.value at w.in_ok-write_parts-in-Cat.ensures.passed)
      | write_node-in-Alt+in_ok-write_node-in-Alt+in_ok-write_further-in-Alt w ↦
          rw (w.marks-is, w.in-Alt.is, tree-Alt) (passed-more _ _ _ _ _
          (rw w.deref-in-Alt.ensures at w.in_ok-write_node-in-Alt.ensures.passed)
          (rw w.deref-in-Alt-2.ensures at w.in_ok-write_further-in-Alt.ensures.passed))
      | write_node-in_default+in-Some+in_ok-write_node-in_default w ↦
          rw (w.marks-is, within-around node (tree w.in-Some.body.now) w.in-Some.ensures.body) w.in_ok-write_node-in_default.ensures.passed
      | write_node-in_default+in_default-body w ↦
          let alone = leaf_of c.args.node.now w.in_default.not-Cat w.in_default.not-Alt w.in_default-body.ensures.body in
          rw (w.marks-is, within-leaf node alone) refl
    ] in
    always c.write_ending.result
    (passed-more old _ _ (within node) 1 so_far c.write_ending.ensures.passed ∙ ap (λ n. drop n old) (sym (nodes-within node)))

pub write_parts-loop-part-init : goal.write_parts-loop-part-init
write_parts-loop-part-init g t c = record {
  passed = refl;
  completes = λ all at is plain. record { now = at; plain = plain; spans = is; completes = λ last rest. rest };
}

pub write_parts-loop-part-preserved : goal.write_parts-loop-part-preserved
write_parts-loop-part-preserved g t c =
    let l = c.loop-part in
    let parts = c.args.parts.now in
    let after = drop (l.part-index + 1) parts in
    let part = tree c.part-item.result in
    let cut = drop_more parts l.part-index c.part-item.result c.loop-part-test.true ∙ ap (λ n. n ∷ after) (sym c.part-item.is) in
    let own = c.in_ok-write_node.ensures in
    record {
      passed = ap (drop (nodes_in_list (trees after))) own.passed
          ∙ drop-drop (nodes_in_list (trees after)) (nodes part) (iter_rest l.marks)
          ∙ (rw cut at l.invariant.passed);
      completes = λ all at is plain.
          let so_far = l.invariant.completes all at is plain in
          let comma = c.in_ok-write_comma.ensures so_far.plain refl in
          let node = own.written all so_far.now so_far.spans comma.plain refl in
          record {
            now = so_far.now + nodes part;
            plain = node.plain;
            spans = passed-more all _ _ so_far.now (nodes part) so_far.spans own.passed;
            completes = λ last rest. so_far.completes last
                (rw cut (has_written_append _ _ _ _ _ _ comma (has_written_append _ _ _ _ _ _ node rest)));
          };
    }

pub write_parts-returns-clause-written : goal.write_parts-returns-clause-written
write_parts-returns-clause-written g t c all at is plain ok =
    let l = c.loop-part in
    let parts = c.args.parts.now in
    let so_far = l.invariant.completes all at is plain in
    let none = at_drop_all (λ ps. list_json (span_mark all) so_far.now l.first (trees ps)) parts l.part-index c.loop-part-test.false in
    let list = so_far.completes l.f (has_written_of_eq _ _ _ _ _ (sym none) (search (rules, so_far.plain))) in
    has_written_append _ _ _ _ _ _ list (c.write_str.ensures.writes list.plain ok)

pub write_parts-returns-clause-passed : goal.write_parts-returns-clause-passed
write_parts-returns-clause-passed g t c =
    let l = c.loop-part in
    let parts = c.args.parts.now in
    always c.write_str.result
    (sym (at_drop_all (λ ps. drop (nodes_in_list (trees ps)) (iter_rest l.marks)) parts l.part-index c.loop-part-test.false) ∙ l.invariant.passed)
