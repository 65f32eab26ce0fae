-- Whether the whole source was parsed.
use Rattle.std.proofs.Common.{◌≡◌, [], Ok, Some, None, Vec, length, ◌==◌, false, refl, sym, ap, ◌∙◌}
use Rattle.std.specs.declared.alloc.Global.{Global}
use Rattle.std.proofs.lemmas.Option.{same_Some}
use Rattle.std.specs.Option.{IsSomeAnd}
use Rattle.regress_tree.specs.declared.ir.node.Node.{Node}
use Rattle.regress_tree.specs.Reading.{forwards}
use Rattle.regress_lexer.specs.Source.{Source, Found}
use Rattle.regress_lexer.proofs.lemmas.Sources.{length-none, length-some}
use Rattle.regress_syntax.specs.Productions.{Context}
use Rattle.regress_syntax.specs.Syntax.{Pattern, nothing_counted}
use Rattle.regress_syntax.specs.Views.{context_of}
use Rattle.regress_parse.specs.declared.parser.Parser.{Parser}
use Rattle.regress_parse.specs.Parsing.{text, pattern_part, Builds, YieldsWhole}
use Rattle.regress_parse.specs.Reader.{pattern_at}
use Rattle.regress_parse.specs.declared.span.Span.{Span}
use Rattle.regress_parse.proofs.SpansOfWhole.{whole-spans}
use Rattle.regress_parse.proofs.pattern.parse_source.Goals as goal

module _ (ctx : Context) (t : Source) (new : Parser) (node : Node) where
  Built : Pattern × Source → Type 0
  Built x = Builds forwards 0 nothing_counted new node (pattern_part ctx.setting.table ctx.names x.0) x.1

  built : (found : Found Pattern) → pattern_at ctx t ≡ found → IsSomeAnd found Built → (x : Pattern × Source) × (pattern_at ctx t ≡ Some x) × Built x
  built None e b = absurd b
  built (Some x) e b = (x, e, b)

  whole : (spans : Vec Span Global) → IsSomeAnd (pattern_at ctx t) Built → text new ≡ [] →
      YieldsWhole ctx t (Ok (record { node = node; spans = spans }))
  unfolding Built
  whole spans b empty =
      let found = built (pattern_at ctx t) refl b in
      (found.0.0, found.1 ∙ ap (λ (u : Source). Some (found.0.0, u)) (sym found.2.rest ∙ empty), found.2.fits, found.2.node)

  not_whole : IsSomeAnd (pattern_at ctx t) Built → (length (text new) == 0) ≡ false → (p : Pattern) → pattern_at ctx t ≡ Some (p, []) → ⊥
  unfolding Built
  not_whole b left p e =
      let found = built (pattern_at ctx t) refl b in
      length-some (text new) left (found.2.rest ∙ ap (λ (x : Pattern × Source). x.1) (same_Some found.0 (p, []) (sym found.1 ∙ e)))

pub returns-clause-value : goal.returns-clause-value
unfolding Built
returns-clause-value g c =
    whole (context_of c.args.scope.now) c.args.pattern.now c.consume_disjunction.new.self c.in_ok-node.node c.record_end.new.self.spans c.in_ok-node.ensures.value
    (length-none _ (sym c.is_empty.ensures ∙ c.if-not-is_empty.false))

pub returns-clause-spans : goal.returns-clause-spans
returns-clause-spans g c on =
    let new = c.consume_disjunction.new.self in
    whole-spans (context_of c.args.scope.now) c.args.pattern.now c.new.result.items (text new) new.spans.items c.record_end.new.self.spans.items
    c.new.ensures.items (c.in_ok-node.ensures.spans on) (length-none _ (sym c.is_empty.ensures ∙ c.if-not-is_empty.false))
    (c.in_ok-record_end.ensures on)

pub returns-then-not-is_empty-clause-value : goal.returns-then-not-is_empty-clause-value
unfolding Built
returns-then-not-is_empty-clause-value g c =
    rw c.reject.ensures
    (λ p e. absurd (not_whole (context_of c.args.scope.now) c.args.pattern.now c.consume_disjunction.new.self c.in_ok-node.node c.in_ok-node.ensures.value
    (sym c.is_empty.ensures ∙ c.if-not-is_empty.true) p e))
