use Rattle.std.proofs.Common.{rules, ◌≡◌, ◌∷◌, ◌==◌, false, refl, sym, subst, List, ℕ}
use Rattle.std.specs.Prelude.{IsTrue}
use Rattle.std.proofs.lemmas.Bool.{eq-eqb}
use Rattle.regress_base.specs.ByteBitmap.{contains}
use Rattle.regress_tree.specs.Reading.{forwards}
use Rattle.regress_tree.specs.Steps.{these_bytes}
use Rattle.regress_prefilter.specs.FirstSets.{Begins}
use Rattle.regress_prefilter.proofs.FirstSetLemmas.{begins-bytes, or-one}
use Rattle.regress_prefilter.proofs.first_sets.first_set_of_bytes.Goals as goal

pub returns : goal.returns
returns c = λ setting bytes.
    let first = c.in-Some.first.now in
    let rest = c.in-Some.field-0-1.now in
    let split : c.args.written.now ≡ first ∷ rest = search rules in
    let member : IsTrue (contains c.set.new.self first) = or-one (first == first) _ (contains c.set.new.self first) (c.set.ensures first)
    (eq-eqb first first refl) in
    subst (λ (written : List ℕ). Begins (contains c.set.new.self) false bytes (these_bytes forwards bytes written)) (sym split)
    (begins-bytes (contains c.set.new.self) bytes first rest member)
