use Rattle.std.proofs.Common.{◌≤◌, of_calls, rules, string_bytes, subst, sym, arith}
use Rattle.std.proofs.lemmas.Fn.{called_at}
use Rattle.std.proofs.lemmas.Result.{err_from_is_err_and}
use Rattle.std.specs.Fn.{CalledAt}
use Rattle.std.specs.Prelude.{Err}
use Rattle.std.proofs.lemmas.Str.{IsCharBoundary-start}
use Rattle.regress.proofs.ReplacedLemmas.{all_replaced, has_returned, next_end, next_start, none_replaced, one_replaced}
use Rattle.regress.proofs.replacing.replace_each.Goals as goal

pub loop-found-init : goal.loop-found-init
loop-found-init g c = record {
  callable = search rules;
  replaced = rw c.new-out.ensures.bytes (none_replaced g.F.FnMut c.args.text.now c.args.matches.now c.args.replacer);
  before = record { boundary = IsCharBoundary-start c.args.text.now c.utf8.text; order = c.requires.order };
}

pub range-requires-clause-start_le_end : goal.range-requires-clause-start_le_end
range-requires-clause-start_le_end g c =
    subst (λ k. c.loop-found.from ≤ k) (sym c.start.ensures)
    (next_start g.F.FnMut c.args.text.now c.args.matches.now c.loop-found.from c.loop-found.found-index c.found-item.result
    c.loop-found-test.true c.found-item.is c.loop-found.invariant.before)

pub loop-found-preserved : goal.loop-found-preserved
loop-found-preserved g c = record {
  callable = search of_calls;
  replaced =
      rw (c.end-from.ensures, c.in_ok-push_str-2.ensures.bytes, c.deref.ensures, c.in_ok-push_str.ensures.bytes, c.range.ensures.value, c.start.ensures)
      (one_replaced g.F.FnMut c.args.text.now c.args.matches.now c.args.replacer c.loop-found.replacer c.loop-found.found-index c.loop-found.from
      (string_bytes c.loop-found.out) c.loop-found.invariant.replaced c.found-item.result c.loop-found-test.true c.found-item.is
      c.in_ok-replacement.replacement c.replacer.new.self
      (called_at g.F.FnMut c.replacer.ensures c.in_ok-replacement.was));
  before =
      rw c.end-from.ensures
      (next_end g.F.FnMut c.args.text.now c.args.matches.now c.loop-found.from c.loop-found.found-index c.found-item.result
      c.loop-found-test.true c.found-item.is c.requires.inside c.loop-found.invariant.before);
}

pub returns-in_err-replacement-clause-failed : goal.returns-in_err-replacement-clause-failed
returns-in_err-replacement-clause-failed g c =
    let p = err_from_is_err_and c.from_residual-in_err-replacement.result c.from_residual-in_err-replacement.ensures.1 in
    rw p.1 (λ _. has_returned g.F.FnMut c.args.text.now c.args.matches.now c.args.replacer c.loop-found.replacer c.loop-found.found-index
    c.loop-found.from (string_bytes c.loop-found.out) c.loop-found.invariant.replaced c.found-item.result _ c.replacer.new.self
    (subst (λ e. CalledAt g.F.FnMut c.loop-found.replacer c.found-item.result (Err e) c.replacer.new.self) (sym p.2)
    (called_at g.F.FnMut c.replacer.ensures c.in_err-replacement.was)))

pub returns-in_err-replacement-clause-too_much : goal.returns-in_err-replacement-clause-too_much
returns-in_err-replacement-clause-too_much g c =
    let p = err_from_is_err_and c.from_residual-in_err-replacement.result c.from_residual-in_err-replacement.ensures.1 in
    rw p.1 (λ _. has_returned g.F.FnMut c.args.text.now c.args.matches.now c.args.replacer c.loop-found.replacer c.loop-found.found-index
    c.loop-found.from (string_bytes c.loop-found.out) c.loop-found.invariant.replaced c.found-item.result _ c.replacer.new.self
    (subst (λ e. CalledAt g.F.FnMut c.loop-found.replacer c.found-item.result (Err e) c.replacer.new.self) (sym p.2)
    (called_at g.F.FnMut c.replacer.ensures c.in_err-replacement.was)))

pub returns-clause-replaced : goal.returns-clause-replaced
returns-clause-replaced g c =
    rw (c.in_ok-push_str-3.ensures.bytes, c.range_from.ensures.value)
    (all_replaced g.F.FnMut c.args.text.now c.args.matches.now c.args.replacer c.loop-found.replacer c.loop-found.found-index c.loop-found.from
    (string_bytes c.loop-found.out) c.loop-found.invariant.replaced (omega (arith, c.loop-found-test.false)))
