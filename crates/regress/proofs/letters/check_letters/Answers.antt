use Rattle.std.proofs.Common.{◌≡◌, ◌≤◌, ◌∙◌, true, All, sym, subst}
use Rattle.std.specs.Prelude.{chars}
use Rattle.std.proofs.lemmas.Iterator.{YieldsList-from_chars}
use Rattle.std.proofs.lemmas.Iterator.Consumers.{YieldsList-end, YieldsList-turn}
use Rattle.std.proofs.lemmas.List.{map-id}
use Rattle.std.proofs.lemmas.List.Elements.{All-push}
use Rattle.regress.specs.Letters.{count, is_known}
use Rattle.regress.proofs.LettersLemmas.{above_once, unknown_at, within_once}
use Rattle.regress.proofs.letters.check_letters.Goals as goal

pub loop-letter-preserved : goal.loop-letter-preserved
loop-letter-preserved c = record {
  known = All-push (λ x. is_known x ≡ true) c.loop-letter.yielded c.in-Some.letter c.loop-letter.invariant.known
      (sym c.is_known.ensures ∙ c.if-not-is_known.false);
  once = All-push (λ x. count (chars c.args.letters.now) x ≤ 1) c.loop-letter.yielded c.in-Some.letter c.loop-letter.invariant.once
      (within_once (count (chars c.args.letters.now) c.in-Some.letter) c.count.result c.count.ensures c.if-count-gt1.false);
}

pub returns-then-not-is_known-clause-rejected : goal.returns-then-not-is_known-clause-rejected
returns-then-not-is_known-clause-rejected c =
    let yields = YieldsList-from_chars c.args.letters.now c.utf8.letters cc in
    let at = YieldsList-turn yields c.loop-letter.yielded _ c.loop-letter.yielded_by _ _ c.in-Some.letter c.in-Some.is c.next.ensures.steps in
    unknown_at (chars c.args.letters.now) c.in-Some.letter _ at.0 at.1 (sym c.is_known.ensures ∙ c.if-not-is_known.true)

pub returns-then-count-gt1-clause-rejected : goal.returns-then-count-gt1-clause-rejected
returns-then-count-gt1-clause-rejected c =
    above_once (count (chars c.args.letters.now) c.in-Some.letter) c.count.result c.count.ensures c.if-count-gt1.true

pub returns-clause-known : goal.returns-clause-known
returns-clause-known c =
    let yields = YieldsList-from_chars c.args.letters.now c.utf8.letters cc in
    let all = YieldsList-end yields c.loop-letter.yielded _ c.loop-letter.yielded_by _ _ c.in-None.is c.next.ensures.steps in
    subst (All (λ x. is_known x ≡ true)) (sym (map-id c.loop-letter.yielded) ∙ all.0) c.loop-letter.invariant.known

pub returns-clause-once : goal.returns-clause-once
returns-clause-once c =
    let yields = YieldsList-from_chars c.args.letters.now c.utf8.letters cc in
    let all = YieldsList-end yields c.loop-letter.yielded _ c.loop-letter.yielded_by _ _ c.in-None.is c.next.ensures.steps in
    subst (All (λ x. count (chars c.args.letters.now) x ≤ 1)) (sym (map-id c.loop-letter.yielded) ∙ all.0) c.loop-letter.invariant.once
