-- The copies are the strings that were found.
use Rattle.std.proofs.Common.{refl, map, ap, ◌∙◌, Some, option_map}
use Rattle.regress_properties.specs.Listed.{values_of}
use Rattle.regress_unicode.specs.Parts.{entry_of}
use Rattle.regress_properties.proofs.lemmas.Named.{named_mapped}
use Rattle.regress_unicode.proofs.lookup.find_strings.Goals as goal

pub returns-in_ok-copy-in-Some : goal.returns-in_ok-copy-in-Some
returns-in_ok-copy-in-Some c =
    ap Some (c.in_ok-copy-in-Some.ensures ∙ ap (map (λ string. string.items)) c.deref.ensures.value)
    ∙ ap (option_map values_of) c.in-Some.ensures ∙ named_mapped entry_of _ values_of (λ entry. refl) c.args.name.now c.args.entries.now

pub returns-in-None : goal.returns-in-None
returns-in-None c =
    ap (option_map values_of) c.in-None.ensures ∙ named_mapped entry_of _ values_of (λ entry. refl) c.args.name.now c.args.entries.now
