-- The remaining text completes the whole, and consumes the remaining spans.
use Rattle.std.proofs.Common.{◌≡◌, ◌≤◌, ℕ, List, true, drop}
use Rattle.std.specs.Slice.Iter.{iter_rest}
use Rattle.std.specs.Fmt.{IsPlainFormatter}
use Rattle.regress_parse.specs.declared.span.Span.{Span}
use Rattle.regress_tree.specs.declared.ir.node.Node.{size-Node}
use Rattle.regress_tree.specs.Tree.{tree, trees}
use Rattle.regress_tree.specs.Visits.{nodes_in_list}
use Rattle.regress_json.specs.Json.{further_json, list_json, span_mark}
use Rattle.regress_json.proofs.JsonLemmas.{Completes, shown}
use Rattle.regress_json.proofs.json.+write_node.Given as goal

abbrev pub invariant-write_further-loop-left : goal.invariant-write_further-loop-left
invariant-write_further-loop-left g l =
    let took = g.W.Write.write_str_gives in
    record {
      smaller : size-Node l.last ≤ size-Node l.right;
      passed : drop (shown (tree l.last)) (iter_rest l.marks) ≡ drop (shown (tree l.right)) (iter_rest l.fn.marks);
      completes : (all : List Span) (at : ℕ) → (iter_rest l.fn.marks) ≡ drop at all → IsPlainFormatter l.fn.f →
          Completes took l.fn.f l.f all (iter_rest l.marks) (λ n. further_json (span_mark all) n (tree l.right))
          (λ n. further_json (span_mark all) n (tree l.last)) at;
    }

abbrev pub decreases-write_further-loop-left : goal.decreases-write_further-loop-left
decreases-write_further-loop-left g l = size-Node l.last

abbrev pub invariant-write_parts-loop-part : goal.invariant-write_parts-loop-part
invariant-write_parts-loop-part g l =
    let took = g.W.Write.write_str_gives in
    let rest = trees (drop l.part-index l.parts) in
    record {
      passed : drop (nodes_in_list rest) (iter_rest l.marks) ≡ drop (nodes_in_list (trees l.parts)) (iter_rest l.fn.marks);
      completes : (all : List Span) (at : ℕ) → (iter_rest l.fn.marks) ≡ drop at all → IsPlainFormatter l.fn.f →
          Completes took l.fn.f l.f all (iter_rest l.marks) (λ n. list_json (span_mark all) n true (trees l.parts))
          (λ n. list_json (span_mark all) n l.first rest) at;
    }
