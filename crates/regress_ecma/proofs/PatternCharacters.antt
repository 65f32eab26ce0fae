-- The literal characters of patterns, and the braces that begin no quantifier.
use Rattle.std.proofs.Common.{◌≡◌, ℕ, ◌==◌, ◌⊎◌, inl, inr, Bool, true, false, ◌||◌, List, ◌∷◌, drop, Option, Some, None, if◌then◌else◌, refl, sym, ap, subst, ◌∙◌, nat_le, arith}
use Rattle.std.specs.Option.{is_some}
use Rattle.std.proofs.lemmas.Bool.{false≢true}
use Rattle.std.proofs.lemmas.Bool.Decides.{nat_tests}
use Rattle.std.proofs.lemmas.Option.{none-some}
use Rattle.regress_base.specs.Table.{Table}
use Rattle.regress_base.specs.declared.types.Quantifier.{Quantifier}
use Rattle.regress_lexer.specs.declared.dialect.Dialect.TheVariants.{Ecma}
use Rattle.regress_lexer.specs.Source.{Source, Found, char, is_at, is_one_of}
use Rattle.regress_lexer.specs.Quantifiers.{quantifier_at}
use Rattle.regress_syntax.specs.Productions.{atom_allows, atom_by}
use Rattle.regress_syntax.specs.Syntax.{Name, Atom, literal}
use Rattle.regress_ecma.specs.CharacterEscapes.{lead_unit, trail_unit, source_character, is_trail}
use Rattle.regress_ecma.specs.Patterns.{Mode, plain_character, HasNoBraces}
use Rattle.regress_ecma.specs.Quantifiers.{QuantifierPrefix, star, plus, optional, exactly, at_least, between, IsQuantifierPrefix, IsQuantifier, is_braced, IsInvalidBracedQuantifier, quantifier_of}
use Rattle.regress_ecma.proofs.AtomEscapeNodes.{flags, context, mode}
use Rattle.regress_ecma.proofs.ClassDerivations.{front_is}
use Rattle.regress_ecma.proofs.EscapesWithU.{at_character, by_case}
use Rattle.regress_ecma.proofs.EscapesWithoutU.{HasTrail}
use Rattle.regress_ecma.proofs.QuantifierNodes.{quantifier_accepted, quantifier_derived}

-- ---- braces

-- A quantifier is found where a prefix of one is derived.
pub prefix_found : (p : QuantifierPrefix) (t rest : Source) → IsQuantifierPrefix p t rest → (x : Quantifier × Source) × (quantifier_at t ≡ Some x)
prefix_found p t rest derived =
    by_case (is_at (char "?") rest)
    (λ lazy. (
      (quantifier_of p true, drop 1 rest),
      quantifier_derived p true t (drop 1 rest) (subst (IsQuantifierPrefix p t) (front_is (char "?") rest lazy) derived) (λ e. absurd (false≢true (sym e))),
    ))
    (λ greedy. ((quantifier_of p false, rest), quantifier_derived p false t rest derived (λ _. greedy)))

braced_first : (p : QuantifierPrefix) (t rest : Source) → IsQuantifierPrefix p (char "{" ∷ t) rest → is_braced p ≡ true
braced_first star t rest e = ap (is_at (char "*")) e
braced_first plus t rest e = ap (is_at (char "+")) e
braced_first optional t rest e = ap (is_at (char "?")) e
braced_first (exactly n) t rest derived = refl
braced_first (at_least n) t rest derived = refl
braced_first (between n m) t rest derived = refl

-- A prefix with braces begins with one.
pub braced_at : (p : QuantifierPrefix) (t rest : Source) → IsInvalidBracedQuantifier p t rest → is_at (char "{") t ≡ true
braced_at star t rest (braced, derived) = absurd (false≢true braced)
braced_at plus t rest (braced, derived) = absurd (false≢true braced)
braced_at optional t rest (braced, derived) = absurd (false≢true braced)
braced_at (exactly n) t rest (braced, derived) = ap (is_at (char "{")) derived.1
braced_at (at_least n) t rest (braced, derived) = ap (is_at (char "{")) derived.1
braced_at (between n m) t rest (braced, derived) = ap (is_at (char "{")) derived.2

module _ (table : Table) (mode : Mode) where
  pub no_braces_from : (t : Source) → quantifier_at t ≡ None → HasNoBraces table mode t
  no_braces_from t none p rest invalid = let found = prefix_found p t rest invalid.1 in none-some found.0 (sym none ∙ found.1)

  pub no_braces_elsewhere : (t : Source) → is_at (char "{") t ≡ false → HasNoBraces table mode t
  no_braces_elsewhere t e p rest invalid = false≢true (sym e ∙ braced_at p t rest invalid)

  pub no_braces_to : (t : Source) → HasNoBraces table mode (char "{" ∷ t) → quantifier_at (char "{" ∷ t) ≡ None
  no_braces_to t no_braces = by (quantifier_at (char "{" ∷ t)) refl
    where
      braced : (p : QuantifierPrefix) (lazy : Bool) (rest : Source) → IsQuantifier p lazy (char "{" ∷ t) rest → ⊥
      braced p false rest derived = no_braces p rest (braced_first p t rest derived, derived)
      braced p true rest derived = no_braces p (char "?" ∷ rest) (braced_first p t (char "?" ∷ rest) derived, derived)

      by : (found : Found Quantifier) → quantifier_at (char "{" ∷ t) ≡ found → found ≡ None
      by None e = refl
      by (Some (q, rest)) e =
          let node = quantifier_accepted (char "{" ∷ t) rest q e in
          absurd (braced node.0 node.1 rest node.2)

-- ---- characters

pub swap : (c d : ℕ) → (c == d) ≡ false → (d == c) ≡ false
swap c d e = grind (arith, nat_tests, e)

pub no_delimiter : (d : ℕ) → is_trail d ≡ true → is_one_of "^$\\.*+?()[|" d ≡ false
no_delimiter d e = grind (arith, nat_tests)

pub small_trail : (d : ℕ) → is_trail d ≡ true → nat_le 0x10000 d ≡ false
small_trail d e = grind (arith, nat_tests)

pub no_brace_trail : (d : ℕ) → is_trail d ≡ true → (d == char "{") ≡ false
no_brace_trail d e = grind (arith, nat_tests)

-- The character begins another production.
abbrev pub is_other : ℕ → Bool
is_other = is_one_of ".^$\\[("

pub none_other : (c : ℕ) → (c == char ".") ≡ false → (c == char "^") ≡ false → (c == char "$") ≡ false → (c == char "\\") ≡ false →
    (c == char "[") ≡ false → (c == char "(") ≡ false → is_other c ≡ false
none_other c f1 f2 f3 f4 f5 f6 = rw (swap c _ f1, swap c _ f2, swap c _ f3, swap c _ f4, swap c _ f5, swap c _ f6) refl

module _ (table : Table) (i m s v : Bool) (names : List (Option Name)) where
  -- The same is found, or the lead surrogate with the trail surrogate after it.
  abbrev pub IsCharacterOf : (unicode : Bool) → (mine : Found ℕ) → (found : Found Atom) → Type 0
  IsCharacterOf u mine None = mine ≡ None
  IsCharacterOf u mine (Some (a, rest)) =
      (atom_allows Ecma a ≡ true)
      × (((c : ℕ) × (mine ≡ Some (c, rest)))
      ⊎ (u ≡ false) × ((c : ℕ) × (w : Source) × (mine ≡ Some (lead_unit c, w)) × HasTrail c w rest))

  Claim : Bool → ℕ → Source → Type 0
  Claim u c t =
      is_other c ≡ false → HasNoBraces table (mode table i m s v names u) (c ∷ t) →
      IsCharacterOf u (plain_character table (mode table i m s v names u) (c ∷ t)) (atom_by (context table i m s v names u) c t)

  other : (u : Bool) (c : ℕ) (t : Source) → is_other c ≡ true → Claim u c t
  unfolding Claim
  other u c t e h _ = absurd (false≢true (sym h ∙ e))

  characters_u : (c : ℕ) (t : Source) → Claim true c t
  unfolding Claim
  characters_u c t =
      at_character (λ d. Claim true d t) (char ".") c (other true (char ".") t refl)
      (λ f1. at_character (λ d. Claim true d t) (char "^") c (other true (char "^") t refl)
      (λ f2. at_character (λ d. Claim true d t) (char "$") c (other true (char "$") t refl)
      (λ f3. at_character (λ d. Claim true d t) (char "\\") c (other true (char "\\") t refl)
      (λ f4. at_character (λ d. Claim true d t) (char "[") c (other true (char "[") t refl)
      (λ f5. at_character (λ d. Claim true d t) (char "(") c (other true (char "(") t refl)
      (λ f6. at_character (λ d. Claim true d t) (char "{") c (λ _ _. refl)
      (λ f7. at_character (λ d. Claim true d t) (char "]") c (λ _ _. refl)
      (λ f8. at_character (λ d. Claim true d t) (char "}") c (λ _ _. refl)
      (λ f9. at_character (λ d. Claim true d t) (char "*") c (λ _ _. refl)
      (λ g1. at_character (λ d. Claim true d t) (char "+") c (λ _ _. refl)
      (λ g2. at_character (λ d. Claim true d t) (char "?") c (λ _ _. refl)
      (λ g3. at_character (λ d. Claim true d t) (char ")") c (λ _ _. refl)
      (λ g4. at_character (λ d. Claim true d t) (char "|") c (λ _ _. refl)
      (λ g5 _ _. rw (
        f1,
        f2,
        f3,
        f4,
        f5,
        swap c _ f1,
        swap c _ f2,
        swap c _ f3,
        swap c _ f4,
        swap c _ f5,
        swap c _ f6,
        swap c _ f7,
        swap c _ f8,
        swap c _ f9,
        swap c _ g1,
        swap c _ g2,
        swap c _ g3,
        swap c _ g4,
        swap c _ g5,
      ) (refl, inl (c, refl))))))))))))))))

  units : (c : ℕ) (t : Source) (a : Atom) → atom_allows Ecma a ≡ true → IsCharacterOf false (source_character false (c ∷ t)) (Some (a, t))
  units c t a allows = by (nat_le 0x10000 c)
    where
      by : (b : Bool) → IsCharacterOf false (if b then Some (lead_unit c, trail_unit c ∷ t) else Some (c, t)) (Some (a, t))
      by true = (allows, inr (refl, (c, trail_unit c ∷ t, refl, inl refl)))
      by false = (allows, inl (c, refl))

  brace : (t : Source) → Claim false (char "{") t
  unfolding Claim
  brace t _ no_braces = rw (no_braces_to table (mode table i m s v names false) t no_braces) (refl, inl (char "{", refl))

  bracket : (t : Source) → Claim false (char "]") t
  unfolding Claim quantifier_at
  bracket t _ _ = (refl, inl (char "]", refl))

  closing_brace : (t : Source) → Claim false (char "}") t
  unfolding Claim quantifier_at
  closing_brace t _ _ = (refl, inl (char "}", refl))

  characters : (c : ℕ) (t : Source) → Claim false c t
  unfolding Claim
  characters c t =
      at_character (λ d. Claim false d t) (char ".") c (other false (char ".") t refl)
      (λ f1. at_character (λ d. Claim false d t) (char "^") c (other false (char "^") t refl)
      (λ f2. at_character (λ d. Claim false d t) (char "$") c (other false (char "$") t refl)
      (λ f3. at_character (λ d. Claim false d t) (char "\\") c (other false (char "\\") t refl)
      (λ f4. at_character (λ d. Claim false d t) (char "[") c (other false (char "[") t refl)
      (λ f5. at_character (λ d. Claim false d t) (char "(") c (other false (char "(") t refl)
      (λ f6. at_character (λ d. Claim false d t) (char "{") c (brace t)
      (λ f7. at_character (λ d. Claim false d t) (char "]") c (bracket t)
      (λ f8. at_character (λ d. Claim false d t) (char "}") c (closing_brace t)
      (λ f9. at_character (λ d. Claim false d t) (char "*") c (λ _ _. refl)
      (λ g1. at_character (λ d. Claim false d t) (char "+") c (λ _ _. refl)
      (λ g2. at_character (λ d. Claim false d t) (char "?") c (λ _ _. refl)
      (λ g3. at_character (λ d. Claim false d t) (char ")") c (λ _ _. refl)
      (λ g4. at_character (λ d. Claim false d t) (char "|") c (λ _ _. refl)
      (λ g5 _ _. rw (
        f1,
        f2,
        f3,
        f4,
        f5,
        swap c _ f1,
        swap c _ f2,
        swap c _ f3,
        swap c _ f4,
        swap c _ f5,
        swap c _ f6,
        swap c _ f7,
        swap c _ f8,
        swap c _ f9,
        swap c _ g1,
        swap c _ g2,
        swap c _ g3,
        swap c _ g4,
        swap c _ g5,
      ) (units c t (literal (flags table i m s v names false) c) refl)))))))))))))))

  pub characters_alike : (u : Bool) (c : ℕ) (t : Source) → is_other c ≡ false → HasNoBraces table (mode table i m s v names u) (c ∷ t) →
      IsCharacterOf u (plain_character table (mode table i m s v names u) (c ∷ t)) (atom_by (context table i m s v names u) c t)
  unfolding Claim
  characters_alike true c t = characters_u c t
  characters_alike false c t = characters c t

  -- Where the parser finds such an atom, no quantifier with braces begins.
  pub found_without_braces : (u : Bool) (c : ℕ) (t : Source) (x : Atom × Source) → atom_by (context table i m s v names u) c t ≡ Some x →
      HasNoBraces table (mode table i m s v names u) (c ∷ t)
  found_without_braces u c t x e =
      at_character (λ d. atom_by (context table i m s v names u) d t ≡ Some x → HasNoBraces table (mode table i m s v names u) (d ∷ t)) (char "{") c
      (λ f. no_braces_from table (mode table i m s v names u) (char "{" ∷ t) (by u (quantifier_at (char "{" ∷ t)) f))
      (λ miss _. no_braces_elsewhere table (mode table i m s v names u) (c ∷ t) miss) e
    where
      by : (u : Bool) (found : Found Quantifier) →
          (if u || is_some found then None else Some (literal (flags table i m s v names u) (char "{"), t)) ≡ Some x → found ≡ None
      by true found f = absurd (none-some x f)
      by false None f = refl
      by false (Some q) f = absurd (none-some x f)
