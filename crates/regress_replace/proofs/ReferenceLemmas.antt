-- What a reference is at each of the bytes that can follow a `$`.
use Rattle.std.proofs.Common.{◌≡◌, ℕ, ◌+◌, ◌-◌, ◌<◌, ◌≤◌, Bool, true, false, List, [], ◌∷◌, length, drop, get_or, Option, Some, None, ◌==◌, add-zero, add-one, arith}
use Rattle.std.proofs.lemmas.Bool.Decides.{nat_tests}
use Rattle.std.specs.Borrow.{Bor}
use Rattle.std.specs.Char.{is_ascii_digit}
use Rattle.regress_replace.specs.Parsed.{Parses}
use Rattle.regress_replace.specs.Template.{Piece, reference, number_reference}
use Rattle.regress_replace.specs.declared.reference.Reference.{Reference}

parses_after : (expected : Option (Piece × ℕ)) (b : ℕ) (t : List ℕ) (r : Option (Reference × Bor (List ℕ))) →
    Parses expected t 1 r → Parses expected (b ∷ t) 0 r
parses_after expected b t None h = h
parses_after expected b t (Some r) h = (h.0 + 1, rw (add-zero (h.0 + 1)) h.1, omega (arith, h.2), rw add-one h.3)

pub parses_at : (groups : ℕ) (has_names : Bool) (t : List ℕ) (b : ℕ) (rest : List ℕ) (expected : Option (Piece × ℕ))
    (r : Option (Reference × Bor (List ℕ))) → t ≡ b ∷ rest → reference groups has_names (b ∷ rest) ≡ expected →
    Parses expected rest 1 r → Parses (reference groups has_names t) t 0 r
parses_at groups has_names t b rest expected r is same h =
    rw is (rw same (parses_after expected b rest r h))

pub first_and_rest : (t rest : List ℕ) (b : ℕ) → 0 < length t → get_or t 0 0 ≡ b → rest ≡ drop 1 t → t ≡ b ∷ rest
first_and_rest [] rest b some first after = absurd (omega arith)
first_and_rest (a ∷ t) rest b some first after = cc

pub reference_digit : (groups : ℕ) (has_names : Bool) (b : ℕ) (t : List ℕ) → 48 ≤ b → b ≤ 57 →
    reference groups has_names (b ∷ t) ≡ number_reference groups (b - 48) t
reference_digit groups has_names b t low high =
    let e1 : (b == 36) ≡ false = grind (arith, nat_tests) in
    let e2 : (b == 96) ≡ false = grind (arith, nat_tests) in
    let e3 : (b == 38) ≡ false = grind (arith, nat_tests) in
    let e4 : (b == 39) ≡ false = grind (arith, nat_tests) in
    let e5 : is_ascii_digit b ≡ true = grind (arith, nat_tests) in
    rw (e1, e2, e3, e4, e5)
