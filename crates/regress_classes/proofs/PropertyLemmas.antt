-- Properties: words at the start of a source, what an escape parses to, and copies of strings.
use Rattle.std.proofs.Common.{◌≡◌, ℕ, zero, suc, ◌<◌, ◌==◌, Bool, true, false, cond, List, [], ◌∷◌, ◌++◌, length, Some, None, refl, sym, ap, ap₂, subst, ◌∙◌, append_assoc, append-nil, arith}
use Rattle.std.specs.Str.{IsAscii}
use Rattle.std.proofs.lemmas.Bool.{cond-true}
use Rattle.std.proofs.lemmas.Str.{IsAscii-append}
use Rattle.std.proofs.lemmas.Bool.Decides.{nat_tests}
use Rattle.regress_lexer.specs.Source.{Source}
use Rattle.regress_lexer.specs.Digits.{front, after}
use Rattle.regress_classes.specs.Properties.{is_property_character, property_word_at}

pub ascii : (c : ℕ) → is_property_character c ≡ true → c < 128
ascii c e = grind (arith, nat_tests)

pub more_ascii : (word new : List ℕ) (c : ℕ) → IsAscii word → c < 128 → new ≡ word ++ c ∷ [] → IsAscii new
more_ascii word new c are is pushed = subst IsAscii (sym pushed) (IsAscii-append word (c ∷ []) are one)
  where
    one : IsAscii (c ∷ [])
    one zero = is
    one (suc i) = omega arith

-- From `t`, this word was parsed up to `rest`.
pub record WordUpTo (t rest : Source) (word : List ℕ) : Type 0 where
  pub read : word ++ front is_property_character rest ≡ front is_property_character t
  pub left : after is_property_character rest ≡ after is_property_character t

front-more : (c : ℕ) (t : Source) → is_property_character c ≡ true → front is_property_character (c ∷ t) ≡ c ∷ front is_property_character t
unfolding front
front-more c t e = cond-true _ _ _ e

after-more : (c : ℕ) (t : Source) → is_property_character c ≡ true → after is_property_character (c ∷ t) ≡ after is_property_character t
unfolding after
after-more c t e = cond-true _ _ _ e

after-none : (t : Source) → front is_property_character t ≡ [] → after is_property_character t ≡ t
unfolding front after
after-none [] e = refl
after-none (c ∷ t) e = by (is_property_character c) e
  where
    by : (b : Bool) → cond b (c ∷ front is_property_character t) [] ≡ [] → cond b (after is_property_character t) (c ∷ t) ≡ c ∷ t
    by true h = absurd cc
    by false h = refl

pub more_of_word : (t s rest : Source) (c : ℕ) (word new : List ℕ) → WordUpTo t s word → s ≡ c ∷ rest →
    is_property_character c ≡ true → new ≡ word ++ c ∷ [] → WordUpTo t rest new
more_of_word t s rest c word new so_far next passes is = record {
  read = ap (λ (w : List ℕ). w ++ front is_property_character rest) is
      ∙ append_assoc word (c ∷ []) (front is_property_character rest)
      ∙ ap (λ (u : Source). word ++ u) (sym (ap (front is_property_character) next ∙ front-more c rest passes))
      ∙ so_far.read;
  left = sym (ap (after is_property_character) next ∙ after-more c rest passes) ∙ so_far.left;
}

pub all_of_word : (t rest : Source) (word : List ℕ) → WordUpTo t rest word → front is_property_character rest ≡ [] →
    cond (length word == 0) None (Some (word, rest)) ≡ property_word_at t
all_of_word t rest word so_far ends =
    let whole : word ≡ front is_property_character t = sym (append-nil word) ∙ ap (λ (u : Source). word ++ u) (sym ends) ∙ so_far.read in
    let left : rest ≡ after is_property_character t = sym (after-none rest ends) ∙ so_far.left in
    ap₂ (λ (w : List ℕ) (u : Source). cond (length w == 0) None (Some (w, u))) whole left
