-- The range that was found contains strings.
use Rattle.std.proofs.Common.{refl, ap, sym, ◌∙◌, Some, option_map}
use Rattle.regress_properties.specs.Listed.{range_of, named_strings, strings_at, AreStringsAt}
use Rattle.regress_properties.proofs.lemmas.Named.{named_mapped, named_valid}
use Rattle.regress_properties.proofs.texts.find_strings.Goals as goal

pub strings_at-requires : goal.strings_at-requires
strings_at-requires c =
    named_valid (λ p. AreStringsAt c.args.positions.now c.args.points.now p.0 p.1) (λ n. range_of n.0.now n.1 n.2) c.args.name.now
    c.args.names.now (c.in-Some.from, c.in-Some.to) c.requires (sym c.in-Some.ensures)

pub returns-in_ok-strings_at-in-Some : goal.returns-in_ok-strings_at-in-Some
returns-in_ok-strings_at-in-Some c =
    ap Some c.in_ok-strings_at-in-Some.ensures
    ∙ ap (option_map (λ p. strings_at c.args.positions.now c.args.points.now p.0 p.1)) c.in-Some.ensures
    ∙ named_mapped (λ n. range_of n.0.now n.1 n.2) (λ n. named_strings c.args.positions.now c.args.points.now n.0.now n.1 n.2)
    (λ p. strings_at c.args.positions.now c.args.points.now p.0 p.1) (λ n. refl) c.args.name.now c.args.names.now

pub returns-in-None : goal.returns-in-None
returns-in-None c =
    ap (option_map (λ p. strings_at c.args.positions.now c.args.points.now p.0 p.1)) c.in-None.ensures
    ∙ named_mapped (λ n. range_of n.0.now n.1 n.2) (λ n. named_strings c.args.positions.now c.args.points.now n.0.now n.1 n.2)
    (λ p. strings_at c.args.positions.now c.args.points.now p.0 p.1) (λ n. refl) c.args.name.now c.args.names.now
