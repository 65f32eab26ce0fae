-- What is known under the flags in force.
use Rattle.std.proofs.Common.{refl, ◌≡◌, subst, ◌∙◌}
use Rattle.regress_base.specs.declared.types.Flags.{Flags}
use Rattle.regress_unicode.specs.TableOf.{table_of}
use Rattle.regress_tree.specs.Tree.{tree}
use Rattle.regress_syntax.specs.Meaning.{setting_of}
use Rattle.regress_syntax.specs.Syntax.{Pattern}
use Rattle.regress_parse.specs.TreeOf.{tree_of}
use Rattle.regress_parse.specs.Accepted.{IsAcceptedIn, OneIsDerivedIn, OfAcceptedIn, Means}
use Rattle.regress_parse.specs.Settled.{IsFaultIn}
use Rattle.regress_parse.specs.Spans.{spans_in}
use Rattle.regress_parse.proofs.FaultLemmas.{placed_fault}
use Rattle.regress_parse.proofs.pattern.parse_with_spans_in.Goals as goal

pub returns-in-Ok-clause-spanned : goal.returns-in-Ok-clause-spanned
returns-in-Ok-clause-spanned c =
    let found = c.in-Ok.ensures.accepted in
    subst
    (λ (flags : Flags). (p : Pattern) × (accepted : IsAcceptedIn c.args.dialect (setting_of flags c.args.tables.now) c.args.pattern.now p)
    × (tree c.in-Ok.parsed.regex.node ≡ tree_of (table_of c.args.tables.now) p)
    × (c.in-Ok.parsed.spans.items ≡ spans_in c.args.dialect (setting_of flags c.args.tables.now) c.args.pattern.now p accepted.derived))
    c.flags_in_force.ensures
    (found.0, found.1, found.2, c.in-Ok.ensures.spans refl found.0 found.1)

pub returns-in-Ok-clause-only : goal.returns-in-Ok-clause-only
returns-in-Ok-clause-only c =
    subst (λ (flags : Flags). OneIsDerivedIn c.args.dialect (setting_of flags c.args.tables.now) c.args.pattern.now)
    c.flags_in_force.ensures c.in-Ok.ensures.only

pub returns-in-Ok-clause-meaning : goal.returns-in-Ok-clause-meaning
returns-in-Ok-clause-meaning c =
    subst
    (λ (flags : Flags). OfAcceptedIn c.args.dialect (setting_of flags c.args.tables.now) c.args.pattern.now
    (Means (setting_of flags c.args.tables.now) (tree c.in-Ok.parsed.regex.node)))
    c.flags_in_force.ensures c.in-Ok.ensures.meaning

pub returns-in-Ok-clause-flags : goal.returns-in-Ok-clause-flags
returns-in-Ok-clause-flags c = c.in-Ok.ensures.flags ∙ c.flags_in_force.ensures

pub returns-in-Err-clause-only : goal.returns-in-Err-clause-only
returns-in-Err-clause-only c =
    subst (λ (flags : Flags). OneIsDerivedIn c.args.dialect (setting_of flags c.args.tables.now) c.args.pattern.now)
    c.flags_in_force.ensures c.in-Err.ensures.only

pub returns-in-Err-clause-rejected : goal.returns-in-Err-clause-rejected
returns-in-Err-clause-rejected c =
    let known = c.in-Err.ensures in
    subst (λ (flags : Flags). IsFaultIn c.args.dialect (setting_of flags c.args.tables.now) c.args.pattern.now c.position.result)
    c.flags_in_force.ensures
    (placed_fault c.args.dialect (setting_of c.flags_in_force.result c.args.tables.now) c.args.pattern.now c.in-Err.fault _ c.position.ensures
    known.reported known.limits known.settled known.duplicate)
