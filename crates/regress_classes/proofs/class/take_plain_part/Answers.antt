-- What remains of a list of code points is one too, and each branch is the matching part.
use Rattle.std.proofs.Common.{◌≡◌, false, [], ◌∷◌, Some, sym, ap, subst, ◌∙◌}
use Rattle.std.proofs.lemmas.Bool.{ne_eqb}
use Rattle.std.proofs.lemmas.List.Elements.{All-head, All-tail}
use Rattle.std.specs.List.{All}
use Rattle.regress_base.specs.Intervals.{Bounds}
use Rattle.regress_lexer.specs.Source.{IsCodePoint, is_at}
use Rattle.regress_lexer.specs.Views.{source}
use Rattle.regress_classes.proofs.ClassLemmas.{no_front, plain_point_read, plain_range_read}
use Rattle.regress_classes.proofs.class.take_plain_part.Goals as goal
use Rattle.regress_classes.proofs.class.take_plain_part.Goals.{in_default-via-in-Some+else-hyphen-from, in_default-via-in_default}

pub invariant_of-cursor-in_default : goal.invariant_of-cursor-in_default
invariant_of-cursor-in_default c = record {
  in_range = All-tail IsCodePoint c.in_ok-first.first c.in_ok-first.after.now (subst (All IsCodePoint) c.in_ok-first.ensures.0 c.args.cursor.now.in_range);
}

pub returns-else-splits_point-2-clause-some : goal.returns-else-splits_point-2-clause-some
returns-else-splits_point-2-clause-some c = λ table.
    let after = c.in_ok-first.after.now in
    let alone : is_at 45 after ≡ false = elim c.in_default.branch [
      | in_default-via-in-Some+else-hyphen-from w ↦
          ap (is_at 45) w.in-Some.ensures.cases.0 ∙ ne_eqb w.in-Some.hyphen.now 45 (λ e. w.if-hyphen-from.false (e ∙ sym w.from.ensures))
      | in_default-via-in_default w ↦ no_front 45 after w.in_default.ensures.cases
    ] in
    plain_point_read table c.args.parameters.now (source c.args.cursor.now) after c.in_ok-first.first c.in_ok-first.ensures.0 c.in_ok-first.ensures.1
    (sym c.splits_point-in_default.ensures ∙ c.if-splits_point-2.false) alone
    ∙ ap (λ (part : Bounds). Some (part ∷ [], after)) (sym c.new-in_default.ensures)

pub invariant_of-cursor-in-Some : goal.invariant_of-cursor-in-Some
invariant_of-cursor-in-Some c = record {
  in_range =
      let first = c.in_ok-first in
      let last = c.in_ok-last-in-Some in
      let after = All-tail IsCodePoint first.first first.after.now (subst (All IsCodePoint) first.ensures.0 c.args.cursor.now.in_range) in
      let hyphen = All-tail IsCodePoint c.in-Some.hyphen.now c.in-Some.rest.now (subst (All IsCodePoint) c.in-Some.ensures.cases.0 after) in
      All-tail IsCodePoint last.last last.rest.now (subst (All IsCodePoint) last.ensures.0 hyphen);
}

pub new-requires-clause-in_range : goal.new-requires-clause-in_range
new-requires-clause-in_range c =
    let first = c.in_ok-first in
    let last = c.in_ok-last-in-Some in
    let after = All-tail IsCodePoint first.first first.after.now (subst (All IsCodePoint) first.ensures.0 c.args.cursor.now.in_range) in
    let hyphen = All-tail IsCodePoint c.in-Some.hyphen.now c.in-Some.rest.now (subst (All IsCodePoint) c.in-Some.ensures.cases.0 after) in
    All-head IsCodePoint last.last last.rest.now (subst (All IsCodePoint) last.ensures.0 hyphen)

pub returns-else-splits_point-clause-some : goal.returns-else-splits_point-clause-some
returns-else-splits_point-clause-some c = λ table.
    let first = c.in_ok-first in
    let last = c.in_ok-last-in-Some in
    let hyphen = c.in-Some.ensures.cases.0 ∙ ap (λ n. n ∷ c.in-Some.rest.now) (c.if-hyphen-from.true ∙ c.from.ensures) in
    plain_range_read table c.args.parameters.now (source c.args.cursor.now) first.after.now c.in-Some.rest.now last.rest.now first.first last.last first.ensures.0 hyphen
    last.ensures.0 first.ensures.1 last.ensures.1 (sym c.splits_point.ensures ∙ c.if-splits_point.false) c.if-first-last.false
    ∙ ap (λ (part : Bounds). Some (part ∷ [], last.rest.now)) (sym c.new.ensures)
