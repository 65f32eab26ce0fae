-- Between the string and its prefix the text begins with none.
use Rattle.std.proofs.Common.{◌≡◌, ◌-◌, false, inl, inr, nat_eq, sym, subst, ◌∙◌, arith}
use Rattle.std.specs.List.{starts_with}
use Rattle.std.proofs.lemmas.Bool.{cases_lt}
use Rattle.regress_strings.specs.Ordered.{string_of}
use Rattle.regress_strings.proofs.LinkLemmas.{link-of}
use Rattle.regress_strings.proofs.SearchLemmas.{none-from-prefix}
use Rattle.regress_strings.proofs.links.prefix_count.Goals as goal

pub loop-found-smaller : goal.loop-found-smaller
loop-found-smaller c =
    let is = link-of (string_of c.args.order.now) c.args.links.now (c.loop-found.found - 1) (record { first = 0; prefix = 0 }) c.requires.links (omega arith) in
    omega (arith, is.first, is.prefix)

pub loop-found-preserved : goal.loop-found-preserved
loop-found-preserved c =
    let order = c.args.order.now in
    let text = c.args.text.now in
    let place = c.loop-found.found - 1 in
    let is = link-of (string_of order) c.args.links.now place (record { first = 0; prefix = 0 }) c.requires.links (omega arith) in
    let not : starts_with nat_eq text (string_of order place) ≡ false =
    subst (λ s. starts_with nat_eq text s ≡ false) c.string.ensures (sym c.starts_with.ensures.value ∙ c.if-not-starts_with.true) in
    record {
      within = omega (arith, is.first, is.prefix);
      last = λ i ge lt. elim (cases_lt place i) [
        | inl later ↦ c.loop-found.invariant.last i (omega arith) lt
        | inr upto ↦ none-from-prefix order text place _ is (omega arith) (c.requires.at_most place (omega arith)) not i ge upto
      ];
    }
