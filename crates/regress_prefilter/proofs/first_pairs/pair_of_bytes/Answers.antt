use Rattle.std.proofs.Common.{◌∙◌, ◌==◌, refl, get_or, ℕ, nat_le}
use Rattle.std.proofs.lemmas.Bool.{eq-eqb}
use Rattle.regress_base.specs.ByteBitmap.{contains}
use Rattle.regress_prefilter.specs.FirstPairs.{is_second}
use Rattle.regress_prefilter.proofs.FirstPairLemmas.{either-left, pair-byte, pair-bytes}
use Rattle.regress_prefilter.proofs.first_pairs.pair_of_bytes.Goals as goal

pub returns-in-len1 : goal.returns-in-len1
returns-in-len1 c = λ setting bytes.
    let a : ℕ = get_or c.args.written.now 0 0 in
    pair-byte (contains c.set.new.self) (is_second (contains c.default-second.result)) bytes c.args.written.now c.in-len1.len_at_least c.in-len1.len_below
    (c.set.ensures a ∙ either-left (a == a) (contains c.default-first.result a) (eq-eqb a a refl))

pub returns-in-len2-up : goal.returns-in-len2-up
returns-in-len2-up c = λ setting bytes.
    let a : ℕ = get_or c.args.written.now 0 0 in
    let b : ℕ = get_or c.args.written.now 1 0 in
    let first = contains c.set-in-len2-up.new.self in
    let second = contains c.set-in-len2-up-2.new.self in
    pair-bytes first (is_second second) bytes c.args.written.now c.in-len2-up.len_at_least
    (c.set-in-len2-up.ensures a ∙ either-left (a == a) (contains c.default-first.result a) (eq-eqb a a refl))
    (either-left (second b) (nat_le 128 b)
    (c.set-in-len2-up-2.ensures b ∙ either-left (b == b) (contains c.default-second.result b) (eq-eqb b b refl)))
