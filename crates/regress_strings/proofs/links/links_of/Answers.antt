-- The next link is pushed.
use Rattle.std.proofs.Common.{length, sym, ap, subst, List, arith, length-append}
use Rattle.regress_strings.specs.declared.link.Link.{Link}
use Rattle.regress_strings.specs.Links.{AreLinks, IsLink}
use Rattle.regress_strings.specs.Ordered.{string_of}
use Rattle.regress_strings.proofs.LinkLemmas.{links-push}
use Rattle.regress_strings.proofs.links.links_of.Goals as goal

pub next_link-requires-clause-links : goal.next_link-requires-clause-links
next_link-requires-clause-links c =
    subst (λ (links : List Link). AreLinks (string_of c.args.order.now) links) (sym c.deref.ensures.value) c.loop-links.invariant.links

pub loop-links-preserved : goal.loop-links-preserved
loop-links-preserved c =
    let string = string_of c.args.order.now in
    let is = subst (λ (links : List Link). IsLink string (length links) c.next_link.result) c.deref.ensures.value c.next_link.ensures in
    record {
      links = subst (λ (links : List Link). AreLinks string links) (sym c.in_ok-push.ensures.items) (links-push string c.loop-links.links.items c.next_link.result c.loop-links.invariant.links is);
      within = omega (arith, ap length c.in_ok-push.ensures.items, length-append {A = Link});
    }
