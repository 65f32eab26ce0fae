-- A text in which a search finds no literal lacks it.
use Rattle.std.proofs.Common.{◌≡◌, ◌∙◌, ℕ, ◌+◌, ◌≤◌, false, List, [], ◌∷◌, ◌++◌, length, take, drop, Option, Some, None, refl, ap, arith, length-append, length-drop}
use Rattle.std.specs.Option.{is_some}
use Rattle.std.proofs.lemmas.Bool.Decides.{Decides-eqb}
use Rattle.std.proofs.lemmas.Slice.Eq.{starts_is}
use Rattle.std.proofs.Math.Seq.{take-append_seam}
use Rattle.memchr.specs.Find.{FindsNeedle, Nowhere, OccursAt}
use Rattle.memchr.proofs.lemmas.MatchLemmas.{OccursAt-from_part}
use Rattle.regress_prefilter.specs.Required.{AbsentFrom}

absent_nowhere : (literal text : List ℕ) → Nowhere (OccursAt text literal) 0 (length text + 1) → AbsentFrom literal text 0
absent_nowhere [] text none = λ k from starts.
    none 0 (omega arith) (omega arith) (record { fits = omega arith; reads = λ j in_needle. absurd (omega (arith, in_needle)) })
absent_nowhere (b ∷ literal) text none = λ k from starts.
    let needle = b ∷ literal in
    let rest = drop (length needle) (drop k text) in
    let split : drop k text ≡ needle ++ rest = (starts_is Decides-eqb (drop k text) needle _ refl).0 starts in
    let long : length (drop k text) ≡ length needle + length rest = ap length split ∙ length-append needle rest in
    let fits : k + length needle ≤ length text = omega (arith, long, length-drop k text) in
    let part : take (length needle) (drop k text) ≡ needle = ap (take (length needle)) split ∙ take-append_seam needle rest in
    none k from (omega (arith, fits)) (OccursAt-from_part text needle k fits part)

pub not_found : (literal text : List ℕ) (found : Option ℕ) → FindsNeedle text literal 0 found → is_some found ≡ false → AbsentFrom literal text 0
not_found literal text None is none = absent_nowhere literal text is
not_found literal text (Some at) is none = let bad : ⊥ = cc in absurd bad
