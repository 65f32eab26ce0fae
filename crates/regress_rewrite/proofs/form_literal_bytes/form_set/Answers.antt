use Rattle.std.proofs.Common.{◌∙◌, sym, ap, Vec, Global, ℕ, option_map}
use Rattle.regress_rewrite.proofs.LeafLemmas.{set_lawful, no_set_lawful}
use Rattle.regress_rewrite.proofs.form_literal_bytes.form_set.Goals as goal

pub returns-in-Some-clause-lawful : goal.returns-in-Some-clause-lawful
returns-in-Some-clause-lawful c d =
    set_lawful d c.args.characters.now c.in-Some.bytes
    (ap (option_map (λ (v : Vec ℕ Global). v.items)) (sym c.in-Some.is) ∙ c.in_ok-bytes.ensures)

pub returns-in-None-clause-lawful : goal.returns-in-None-clause-lawful
returns-in-None-clause-lawful c d =
    no_set_lawful d c.args.characters.now
    (ap (option_map (λ (v : Vec ℕ Global). v.items)) (sym c.in-None.is) ∙ c.in_ok-bytes.ensures)
