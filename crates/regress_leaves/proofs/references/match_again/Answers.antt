use Rattle.std.proofs.Common.{◌-◌, Bool, false, chars, sym, ap, ◌∙◌}
use Rattle.std.proofs.lemmas.Str.{encodes-chars}
use Rattle.regress_base.specs.Table.{denotes}
use Rattle.regress_tree.specs.Reading.{of_bytes, direction_if}
use Rattle.regress_tree.specs.References.{all_of, characters_from, in_order}
use Rattle.regress_tree.specs.Steps.{these_bytes}
use Rattle.regress_unicode.specs.TableOf.{table_of}
use Rattle.regress_leaves.proofs.ReferenceLemmas.{text-chars, these_bytes-characters}
use Rattle.regress_leaves.proofs.references.match_again.Goals as goal

pub returns-else-icase : goal.returns-else-icase
returns-else-icase c = λ s at.
    let d = direction_if c.args.rules.backwards in
    let text = c.args.text.now in
    let r = of_bytes text in
    let table = table_of c.args.rules.known.tables.now in
    let unicode = c.args.rules.flags.unicode in
    let part = c.characters_in-part.result.now in
    let utf8 = c.characters_in-part.utf8 in
    c.these_bytes.ensures s at
    ∙ ap (λ bs. these_bytes d bs c.as_bytes-else-icase.result.now s) c.as_bytes.ensures.value
    ∙ ap (λ written. these_bytes d text written s) (c.as_bytes-else-icase.ensures.value ∙ sym (encodes-chars part utf8))
    ∙ these_bytes-characters d text (chars part) (text-chars part utf8) s
    ∙ ap (λ cs. all_of d r (denotes table false unicode) (in_order d cs) s) c.characters_in-part.ensures
    ∙ ap (λ (b : Bool). all_of d r (denotes table b unicode) (in_order d (characters_from r (c.args.span.1 - c.args.span.0) c.args.span.0 c.args.span.1)) s) (sym c.if-icase.false)
