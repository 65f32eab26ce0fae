-- The greatest index is one less than the result.
use Rattle.std.proofs.Common.{List, length, sym, subst, arith}
use Rattle.std.proofs.lemmas.Slice.{between_to_end}
use Rattle.regress_strings.specs.declared.link.Link.{Link}
use Rattle.regress_strings.specs.Links.{AreLinks}
use Rattle.regress_strings.specs.Ordered.{IsGreatest, string_of}
use Rattle.regress_strings.specs.Strings.{NoneOccurs, strings_of}
use Rattle.regress_strings.proofs.SearchLemmas.{last-is, none-past}
use Rattle.regress_strings.proofs.strings.Strings.last_at.Goals as goal

pub greatest_index-last-requires-clause-links : goal.greatest_index-last-requires-clause-links
greatest_index-last-requires-clause-links c =
    subst (λ (links : List Link). AreLinks (string_of c.args.self.now.order) links) (sym c.deref-2.ensures.value) c.args.self.now.linked

pub returns-then-last-eq0 : goal.returns-then-last-eq0
returns-then-last-eq0 c =
    let text = c.args.text.now in
    let position = c.args.position in
    let is = subst (λ rest. IsGreatest c.args.self.now.order rest c.args.before c.greatest_index-last.result) (between_to_end text position (length text) (omega arith)) c.greatest_index-last.ensures in
    subst (λ n. NoneOccurs (strings_of c.args.self.now) text position n c.args.before) c.if-last-eq0.true
    (none-past c.args.self.now.order text position c.args.before c.greatest_index-last.result is)

pub returns-else-last-eq0 : goal.returns-else-last-eq0
returns-else-last-eq0 c =
    let text = c.args.text.now in
    let position = c.args.position in
    let is = subst (λ rest. IsGreatest c.args.self.now.order rest c.args.before c.greatest_index-last.result) (between_to_end text position (length text) (omega arith)) c.greatest_index-last.ensures in
    last-is c.args.self.now.order text position c.args.before c.greatest_index-last.result is (omega arith)
