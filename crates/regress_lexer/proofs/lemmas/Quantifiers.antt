-- If the first code point begins no quantifier, none is parsed.
use Rattle.std.proofs.Common.{◌≡◌, ℕ, false, [], ◌∷◌, None, refl, ap, arith}
use Rattle.std.proofs.lemmas.Bool.Decides.{nat_tests}
use Rattle.regress_lexer.specs.Source.{Source, ◌>>=◌, char, is_at}
use Rattle.regress_lexer.specs.FirstCodePoint.{may_begin}
use Rattle.regress_lexer.specs.Quantifiers.{quantifier_prefix_by, greedy_or_lazy, quantifier_at}

no_times : (c : ℕ) (t : Source) → may_begin (c ∷ t) ≡ false → quantifier_prefix_by c t ≡ None
no_times c t h = grind (arith, nat_tests)

pub no_quantifier : (t : Source) → may_begin t ≡ false → quantifier_at t ≡ None
unfolding quantifier_at
no_quantifier [] h = refl
no_quantifier (c ∷ t) h = ap (λ found. found >>= greedy_or_lazy) (no_times c t h)

pub no_brace : (t : Source) → may_begin t ≡ false → is_at (char "{") t ≡ false
no_brace [] h = refl
no_brace (c ∷ t) h = grind (arith, nat_tests)
