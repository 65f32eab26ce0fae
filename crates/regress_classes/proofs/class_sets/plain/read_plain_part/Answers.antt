-- What remains of a list of code points is one too, and each branch is the matching part.
use Rattle.std.proofs.Common.{◌≡◌, false, [], ◌∷◌, Some, sym, ap, subst, ◌∙◌}
use Rattle.std.proofs.lemmas.Bool.{ne_eqb}
use Rattle.std.proofs.lemmas.List.Elements.{All-head, All-tail}
use Rattle.std.specs.List.{All}
use Rattle.regress_base.specs.Intervals.{Bounds}
use Rattle.regress_lexer.specs.Source.{IsCodePoint, is_at}
use Rattle.regress_classes.specs.ClassSets.{only}
use Rattle.regress_classes.proofs.ClassLemmas.{no_front}
use Rattle.regress_classes.proofs.ClassPlainLemmas.{plain_point_read, plain_range_read}
use Rattle.regress_classes.proofs.class_sets.plain.read_plain_part.Goals as goal
use Rattle.regress_classes.proofs.class_sets.plain.read_plain_part.Goals.{in_default-via-in-Some+else-hyphen-from, in_default-via-in_default}

pub new-requires-clause-in_range : goal.new-requires-clause-in_range
new-requires-clause-in_range c =
    let first = c.in_ok-first in
    let last = c.in_ok-last-in-Some in
    let after = All-tail IsCodePoint first.first first.after.now (subst (All IsCodePoint) first.ensures.0 c.requires) in
    let hyphen = All-tail IsCodePoint c.in-Some.hyphen.now c.in-Some.rest.now (subst (All IsCodePoint) c.in-Some.ensures.cases.0 after) in
    All-head IsCodePoint last.last last.rest.now (subst (All IsCodePoint) last.ensures.0 hyphen)

pub returns-else-first-last-clause-part : goal.returns-else-first-last-clause-part
returns-else-first-last-clause-part c = λ table parameters inner in_negated.
    let first = c.in_ok-first in
    let last = c.in_ok-last-in-Some in
    let hyphen = c.in-Some.ensures.cases.0 ∙ ap (λ n. n ∷ c.in-Some.rest.now) (c.if-hyphen-from.true ∙ c.from.ensures) in
    let read = plain_range_read table parameters inner in_negated c.args.source.now first.after.now c.in-Some.rest.now last.rest.now first.first last.last
    first.ensures.0 hyphen last.ensures.0 first.ensures.1 last.ensures.1 c.if-first-last.false in (
      read.0,
      read.1,
      read.2 ∙ ap (λ (part : Bounds). Some (only (part ∷ []), last.rest.now)) (sym c.new.ensures),
    )

pub returns-else-first-last-clause-in_range : goal.returns-else-first-last-clause-in_range
returns-else-first-last-clause-in_range c =
    let first = c.in_ok-first in
    let last = c.in_ok-last-in-Some in
    let after = All-tail IsCodePoint first.first first.after.now (subst (All IsCodePoint) first.ensures.0 c.requires) in
    let hyphen = All-tail IsCodePoint c.in-Some.hyphen.now c.in-Some.rest.now (subst (All IsCodePoint) c.in-Some.ensures.cases.0 after) in
    All-tail IsCodePoint last.last last.rest.now (subst (All IsCodePoint) last.ensures.0 hyphen)

pub returns-in_default-clause-part : goal.returns-in_default-clause-part
returns-in_default-clause-part c = λ table parameters inner in_negated.
    let after = c.in_ok-first.after.now in
    let alone : is_at 45 after ≡ false = elim c.in_default.branch [
      | in_default-via-in-Some+else-hyphen-from w ↦
          ap (is_at 45) w.in-Some.ensures.cases.0 ∙ ne_eqb w.in-Some.hyphen.now 45 (λ e. w.if-hyphen-from.false (e ∙ sym w.from.ensures))
      | in_default-via-in_default w ↦ no_front 45 after w.in_default.ensures.cases
    ] in
    let read = plain_point_read table parameters inner in_negated c.args.source.now after c.in_ok-first.first c.in_ok-first.ensures.0 c.in_ok-first.ensures.1 alone in (
      read.0,
      read.1,
      read.2 ∙ ap (λ (part : Bounds). Some (only (part ∷ []), after)) (sym c.new-in_default.ensures),
    )

pub returns-in_default-clause-in_range : goal.returns-in_default-clause-in_range
returns-in_default-clause-in_range c =
    All-tail IsCodePoint c.in_ok-first.first c.in_ok-first.after.now (subst (All IsCodePoint) c.in_ok-first.ensures.0 c.requires)
