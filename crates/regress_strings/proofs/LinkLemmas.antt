-- Lemmas on links.
use Rattle.std.proofs.Common.{◌≡◌, ℕ, zero, suc, ◌+◌, ◌-◌, ◌<◌, true, false, List, [], ◌∷◌, ◌++◌, ◌⊎◌, inl, inr, Some, length, get_or, nat_eq, refl, sym, ap, subst, ◌∙◌, arith}
use Rattle.std.specs.List.{slice_get, starts_with}
use Rattle.std.proofs.lemmas.Bool.{cases_lt}
use Rattle.std.proofs.lemmas.Option.{slice_get-get_or}
use Rattle.regress_strings.specs.declared.link.Link.{Link}
use Rattle.regress_strings.specs.Links.{IsLink, AreLinks}

-- the link at a place
pub link-of : (string : ℕ → List ℕ) (links : List Link) (place : ℕ) (other : Link) → AreLinks string links → place < length links
    → IsLink string place (get_or links place other)
link-of string links place other are lt = are place (get_or links place other) (slice_get-get_or links place other lt)

-- a string that is equal to the one before has its link
pub link-again : (string : ℕ → List ℕ) (before place : ℕ) (link : Link) → IsLink string before link → before + 1 ≡ place → string before ≡ string place
    → IsLink string place link
link-again string before place link is next same = record {
  first = omega (arith, is.first);
  prefix = is.prefix;
  equal = λ i ge le. elim (cases_lt before i) [
    | inl last ↦ ap string (omega arith)
    | inr earlier ↦ is.equal i ge earlier ∙ same
  ];
  begins = λ some. subst (λ s. starts_with nat_eq s (string (link.prefix - 1)) ≡ true) same (is.begins some);
  last = λ i ge lt. subst (λ s. starts_with nat_eq s (string i) ≡ false) same (is.last i ge lt);
}

-- an element before the last, or the last
slice_get-push : {X : Type 0} (xs : List X) (y x : X) (i : ℕ) → slice_get (xs ++ y ∷ []) i ≡ Some x →
    (slice_get xs i ≡ Some x) ⊎ ((i ≡ length xs) × (y ≡ x))
slice_get-push [] y x zero is = inr (refl, cc)
slice_get-push [] y x (suc i) is = inl is
slice_get-push (z ∷ zs) y x zero is = inl is
slice_get-push (z ∷ zs) y x (suc i) is =
    elim (slice_get-push zs y x i is) [ inl before ↦ inl before | inr last ↦ inr (omega (arith, last.0), last.1) ]

-- the link of the next place
pub links-push : (string : ℕ → List ℕ) (links : List Link) (link : Link) → AreLinks string links → IsLink string (length links) link
    → AreLinks string (links ++ link ∷ [])
links-push string links link are is place other at = elim (slice_get-push links link other place at) [
  | inl here ↦ are place other here
  | inr last ↦ subst (λ (l : Link). IsLink string place l) last.1 (subst (λ n. IsLink string n link) (sym last.0) is)
]
