-- One member of a class further.
use Rattle.std.proofs.Common.{◌≡◌, ℕ, zero, suc, ◌-◌, ◌<◌, List, [], ◌∷◌, ◌++◌, refl, sym, ap, ◌∙◌, ◌≤◌, append_assoc, arith, drop, get_or, length, take}
use Rattle.std.proofs.lemmas.List.{take_all}
use Rattle.regress_lexer.specs.Source.{Source}
use Rattle.regress_warnings.specs.Classes.{next_member, members_by}

-- No member is left.
pub none : (n : ℕ) → members_by n [] ≡ []
none zero = refl
none (suc n) = refl

pub stepped : (found : List ℕ) (n c : ℕ) (t : Source) → 0 < n →
    found ++ members_by n (c ∷ t) ≡ (found ++ (next_member c t).0 ∷ []) ++ members_by (n - 1) (next_member c t).1
stepped found zero c t less =
    let bad : ⊥ = omega (arith, less) in
    absurd bad
stepped found (suc n) c t less =
    let one : n ≡ suc n - 1 = omega arith in
    sym (append_assoc found ((next_member c t).0 ∷ []) (members_by n (next_member c t).1))
    ∙ ap (λ m. (found ++ (next_member c t).0 ∷ []) ++ members_by m (next_member c t).1) one

-- the same for a source that is not empty
pub stepped_in : (found : List ℕ) (n : ℕ) (rest : Source) (x : ℕ) (others : Source) → 0 < n → 1 ≤ length rest →
    (x, others) ≡ next_member (get_or rest 0 0) (take (length rest - 1) (drop 1 rest)) → found ++ members_by n rest ≡ (found ++ x ∷ []) ++ members_by (n - 1) others
stepped_in found n [] x others less some is =
    let bad : ⊥ = omega (arith, some) in
    absurd bad
stepped_in found n (c ∷ t) x others less some is =
    stepped found n c t less ∙ ap (λ (p : ℕ × Source). (found ++ p.0 ∷ []) ++ members_by (n - 1) p.1)
    (sym (is ∙ ap (next_member c) (take_all (length (c ∷ t) - 1) t (omega arith))))
