use Rattle.std.proofs.Common.{map, string_bytes}
use Rattle.regress_match.specs.Pattern.{capture_of}
use Rattle.regress_replace.specs.Expansion.{expansion}
use Rattle.std.proofs.lemmas.Str.{IsCharBoundary-start}
use Rattle.regress_replace.proofs.lemmas.Order.{before_next}
use Rattle.regress_replace.proofs.OrderLemmas.{replaced_more}
use Rattle.regress_replace.proofs.replace.replace_matches.Goals as goal

pub loop-found-init : goal.loop-found-init
loop-found-init c = record {
  so_far = rw c.new-out.ensures.bytes;
  before = record { boundary = IsCharBoundary-start c.args.text.now c.utf8.text; order = c.requires.order };
}

pub loop-found-preserved : goal.loop-found-preserved
loop-found-preserved c = record {
  so_far =
      rw (c.end-from.ensures, c.in_ok-expand.ensures, c.in_ok-push_str.ensures.bytes, c.range.ensures.value, c.start.ensures)
      (replaced_more c.args.text.now (λ m. expansion c.args.text.now m (map capture_of c.args.groups.now) c.args.template.now) c.loop-found.from
      c.args.matches.now c.loop-found.found-index c.found-item.result (string_bytes c.loop-found.out) _ c.loop-found-test.true c.found-item.is
      c.loop-found.invariant.so_far);
  before =
      rw c.end-from.ensures
      (before_next c.args.text.now c.loop-found.from c.args.matches.now c.loop-found.found-index c.found-item.result c.loop-found-test.true
      c.found-item.is c.requires.inside c.loop-found.invariant.before);
}
