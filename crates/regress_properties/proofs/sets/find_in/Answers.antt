-- The range that was found contains a canonical set.
use Rattle.std.proofs.Common.{refl, ap, sym, ◌∙◌, IsTrue, Some, option_map}
use Rattle.regress_properties.specs.Listed.{range_of, named_set, set_at, is_set_at}
use Rattle.regress_properties.proofs.lemmas.Named.{named_mapped, named_valid}
use Rattle.regress_properties.proofs.sets.find_in.Goals as goal

pub set_at-requires : goal.set_at-requires
set_at-requires c =
    named_valid (λ p. IsTrue (is_set_at c.args.ends.now p.0 p.1)) (λ n. range_of n.0.now n.1 n.2) c.args.name.now c.args.names.now
    (c.in-Some.from, c.in-Some.to) c.requires (sym c.in-Some.ensures)

pub returns-in_ok-set_at-in-Some : goal.returns-in_ok-set_at-in-Some
returns-in_ok-set_at-in-Some c =
    ap Some c.in_ok-set_at-in-Some.ensures ∙ ap (option_map (λ p. set_at c.args.ends.now p.0 p.1)) c.in-Some.ensures
    ∙ named_mapped (λ n. range_of n.0.now n.1 n.2) (λ n. named_set c.args.ends.now n.0.now n.1 n.2) (λ p. set_at c.args.ends.now p.0 p.1)
    (λ n. refl) c.args.name.now c.args.names.now

pub returns-in-None : goal.returns-in-None
returns-in-None c =
    ap (option_map (λ p. set_at c.args.ends.now p.0 p.1)) c.in-None.ensures
    ∙ named_mapped (λ n. range_of n.0.now n.1 n.2) (λ n. named_set c.args.ends.now n.0.now n.1 n.2) (λ p. set_at c.args.ends.now p.0 p.1)
    (λ n. refl) c.args.name.now c.args.names.now
