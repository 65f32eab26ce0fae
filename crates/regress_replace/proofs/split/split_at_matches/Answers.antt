use Rattle.std.proofs.Common.{◌≡◌, ℕ, List, map, arith}
use Rattle.std.proofs.lemmas.List.{map-append}
use Rattle.std.specs.Borrow.{Bor}
use Rattle.std.proofs.lemmas.Str.{IsCharBoundary-start}
use Rattle.std.proofs.lemmas.Grind.{common_steps}
use Rattle.regress_replace.specs.Replaced.{split_pieces}
use Rattle.regress_replace.proofs.lemmas.Order.{before_next}
use Rattle.regress_replace.proofs.OrderLemmas.{joined_whole, split_more}
use Rattle.regress_replace.proofs.split.split_at_matches.Goals as goal

pub loop-found-init : goal.loop-found-init
loop-found-init c = record {
  so_far = rw c.new-parts.ensures.items;
  before = record { boundary = IsCharBoundary-start c.args.text.now c.utf8.text; order = c.requires.order };
}

pub loop-found-preserved : goal.loop-found-preserved
loop-found-preserved c = record {
  so_far =
      rw (c.end-from.ensures, c.in_ok-push.ensures.items)
      (rw (map-append, c.range.ensures.value, c.start.ensures)
      (split_more c.args.text.now c.loop-found.from c.args.matches.now c.loop-found.found-index c.found-item.result
      (map (λ (part : Bor (List ℕ)). part.now) c.loop-found.parts.items) _ c.loop-found-test.true c.found-item.is c.loop-found.invariant.so_far));
  before =
      rw c.end-from.ensures
      (before_next c.args.text.now c.loop-found.from c.args.matches.now c.loop-found.found-index c.found-item.result c.loop-found-test.true
      c.found-item.is c.requires.inside c.loop-found.invariant.before);
}

pub returns-clause-whole : goal.returns-clause-whole
returns-clause-whole c =
    let parts : map (λ (part : Bor (List ℕ)). part.now) c.push-2.new.self.items ≡ split_pieces c.args.text.now 0 c.args.matches.now = grind (arith, common_steps) in
    rw parts (joined_whole c.args.text.now 0 c.args.matches.now c.requires.order c.requires.inside)
