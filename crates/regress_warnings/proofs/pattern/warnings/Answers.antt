use Rattle.std.proofs.Common.{List, [], length, sym, subst, ap, ap₂, Bool, ◌∙◌}
use Rattle.std.specs.List.{All}
use Rattle.regress_base.specs.declared.types.Flags.{Flags}
use Rattle.regress_tree.specs.Tree.{Tree, tree}
use Rattle.regress_parse.specs.declared.span.Span.{Span}
use Rattle.regress_parse.specs.Spans.{IsWithin}
use Rattle.regress_spans.specs.Paired.{postorder}
use Rattle.regress_warnings.specs.declared.kind.Warning.{Warning}
use Rattle.regress_warnings.specs.Warned.{all_warned}
use Rattle.regress_warnings.proofs.WithinLemmas.{all-spans}
use Rattle.regress_warnings.proofs.pattern.warnings.Goals as goal

pub returns-clause-listed : goal.returns-clause-listed
returns-clause-listed c =
    let paired = c.in_ok-parsed.ensures.paired in (
      paired.0,
      paired.1,
      c.in_ok-warnings_of.ensures
          ∙ ap₂ (λ (sets : Bool) (nodes : List (Tree × Span)). all_warned sets c.args.pattern.now nodes)
          (ap (λ (f : Flags). f.unicode_sets) c.in_ok-parsed.ensures.flags) paired.2,
    )

pub returns-clause-within : goal.returns-clause-within
returns-clause-within c =
    let whole : Span = record { start = 0; end = length c.args.pattern.now } in
    let parsed = c.in_ok-parsed.parsed in
    subst (λ (ws : List Warning). All (λ w. IsWithin whole w.span) ws) (sym c.in_ok-warnings_of.ensures)
    (all-spans (IsWithin whole) parsed.regex.flags.unicode_sets c.args.pattern.now (postorder (tree parsed.regex.node)) parsed.spans.items
    c.in_ok-parsed.ensures.within)
