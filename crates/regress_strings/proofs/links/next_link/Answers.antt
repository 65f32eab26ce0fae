-- An equal string has the link of the one before.
use Rattle.std.proofs.Common.{◌-◌, length, sym, ◌∙◌, arith}
use Rattle.std.proofs.lemmas.Slice.Eq.{bytes_eq-Decides}
use Rattle.regress_strings.specs.Ordered.{string_of}
use Rattle.regress_strings.proofs.LinkLemmas.{link-again, link-of}
use Rattle.regress_strings.proofs.links.next_link.Goals as goal

pub returns-then-eq : goal.returns-then-eq
returns-then-eq c =
    let string = string_of c.args.order.now in
    let place = length c.args.links.now in
    let same = (bytes_eq-Decides c.string.result.now c.string-string.result.now).0 (sym c.eq.ensures ∙ c.if-eq.true) in
    link-again string (place - 1) place _ (link-of string c.args.links.now (place - 1) (record { first = 0; prefix = 0 }) c.requires.links (omega arith)) (omega arith)
    (sym c.string.ensures ∙ (same ∙ c.string-string.ensures))
