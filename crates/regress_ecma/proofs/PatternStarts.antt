-- Where a term begins or an alternative ends, no quantifier begins.
use Rattle.std.proofs.Common.{◌≡◌, ℕ, ◌==◌, Bool, true, false, ◌&&◌, ◌||◌, List, [], ◌∷◌, Option, Some, None, if◌then◌else◌, refl, sym, ap, subst, ◌∙◌}
use Rattle.std.proofs.lemmas.Bool.{false≢true}
use Rattle.std.proofs.lemmas.Option.{none-some, same_Some}
use Rattle.std.specs.Option.{is_some}
use Rattle.regress_base.specs.Table.{Table}
use Rattle.regress_base.specs.declared.types.Quantifier.{Quantifier}
use Rattle.regress_lexer.specs.FirstCodePoint.{may_begin}
use Rattle.regress_lexer.specs.Quantifiers.{quantifier_at, is_ordered}
use Rattle.regress_lexer.specs.Source.{Source, Found, found_map, char, is_at, closing, bar, ends_alternative}
use Rattle.regress_lexer.proofs.lemmas.Quantifiers.{no_quantifier}
use Rattle.regress_syntax.specs.Grammar.{AreTerms, IsPattern}
use Rattle.regress_syntax.specs.Productions.{Head, single, optional_quantifier_at, no_quantifier_at, this_quantifier, head_at}
use Rattle.regress_syntax.specs.Syntax.{Name, literal, Pattern, one, either, Terms, no_terms, more_terms, atom, group}
use Rattle.regress_ecma.proofs.AtomEscapeNodes.{flags, context}
use Rattle.regress_ecma.proofs.EscapesWithU.{at_character, and_false}
use Rattle.regress_ecma.proofs.PatternCharacters.{swap}

module _ (table : Table) (i m s v : Bool) (names : List (Option Name)) (u : Bool) where
  -- No quantifier begins here, and no brace that has to begin one.
  pub record IsStart (t : Source) : Type 0 where
    pub no_quantifier : quantifier_at t ≡ None
    pub no_brace : (u && is_at (char "{") t) ≡ false
    pub no_question : is_at (char "?") t ≡ false

  elsewhere : (c : ℕ) (t : Source) → may_begin (c ∷ t) ≡ false → (c == char "{") ≡ false → (c == char "?") ≡ false → IsStart (c ∷ t)
  elsewhere c t none brace question = record {
    no_quantifier = no_quantifier (c ∷ t) none;
    no_brace = ap (λ (b : Bool). u && b) brace ∙ and_false u;
    no_question = question;
  }

module _ (table : Table) (i m s v : Bool) (names : List (Option Name)) where
  brace_start : (u : Bool) (t : Source) (x : Head × Source) → head_at (context table i m s v names u) (char "{" ∷ t) ≡ Some x →
      IsStart table i m s v names u (char "{" ∷ t)
  unfolding head_at
  brace_start true t x e = absurd (none-some x e)
  brace_start false t x e = by (quantifier_at (char "{" ∷ t)) refl e
    where
      by : (found : Found Quantifier) → quantifier_at (char "{" ∷ t) ≡ found →
          found_map single (if is_some found then None else Some (literal (flags table i m s v names false) (char "{"), t)) ≡ Some x →
          IsStart table i m s v names false (char "{" ∷ t)
      by None f g = record { no_quantifier = f; no_brace = refl; no_question = refl }
      by (Some q) f g = absurd (none-some x g)

  pub item_start : (u : Bool) (t : Source) (x : Head × Source) → head_at (context table i m s v names u) t ≡ Some x → IsStart table i m s v names u t
  unfolding head_at
  item_start u [] x e = absurd (none-some x e)
  item_start u (c ∷ t) x e =
      at_character P (char "*") c (λ f. absurd (none-some x f))
      (λ g1. at_character P (char "+") c (λ f. absurd (none-some x f))
      (λ g2. at_character P (char "?") c (λ f. absurd (none-some x f))
      (λ g3. at_character P (char "{") c (brace_start u t x)
      (λ g4 _. elsewhere table i m s v names u c t (rw (swap c _ g1, swap c _ g2, swap c _ g3, swap c _ g4) refl) g4 g3)))) e
    where
      P : ℕ → Type 0
      P d = head_at (context table i m s v names u) (d ∷ t) ≡ Some x → IsStart table i m s v names u (d ∷ t)

  pub end_start : (u : Bool) (t : Source) → ends_alternative t ≡ true → IsStart table i m s v names u t
  end_start u [] e = record { no_quantifier = no_quantifier [] refl; no_brace = and_false u; no_question = refl }
  end_start u (c ∷ t) e =
      at_character P (char ")") c (λ _. elsewhere table i m s v names u (char ")") t refl refl refl)
      (λ f. at_character P (char "|") c (λ _. elsewhere table i m s v names u (char "|") t refl refl refl)
      (λ g h. absurd (false≢true (sym (rw (f, g) refl) ∙ h)))) e
    where
      P : ℕ → Type 0
      P d = (d == closing || d == bar) ≡ true → IsStart table i m s v names u (d ∷ t)

module _ (table : Table) (i m s v : Bool) (names : List (Option Name)) (u : Bool) where
  pub terms_start : (ts : Terms) (t rest : Source) → AreTerms (context table i m s v names u) ts t rest → IsStart table i m s v names u t
  terms_start no_terms t rest (ends, same) = end_start table i m s v names u t ends
  terms_start (more_terms (atom a) q xs) t rest (mid, after, item, quantifier, more) = item_start table i m s v names u t (single a, mid) item
  terms_start (more_terms (group kind p) q xs) t rest (mid, after, (inner, opened, inside), quantifier, more) = item_start table i m s v names u t _ opened

  pub pattern_start : (p : Pattern) (t rest : Source) → IsPattern (context table i m s v names u) p t rest → IsStart table i m s v names u t
  pattern_start (one ts) t rest h = terms_start ts t rest h.0
  pattern_start (either ts p) t rest h = terms_start ts t _ h.1

  -- ---- quantifiers

  abbrev with_found : (allowed : Bool) → Source → Found Quantifier → Found (Option Quantifier)
  with_found allowed t found =
      elim found as (λ _. Found (Option Quantifier)) [
        | None ↦ no_quantifier_at (context table i m s v names u) t
        | Some y ↦ this_quantifier (context table i m s v names u) allowed y
      ]

  pub none_found : (allowed : Bool) (t : Source) → IsStart table i m s v names u t →
      optional_quantifier_at (context table i m s v names u) allowed t ≡ Some (None, t)
  unfolding optional_quantifier_at
  none_found allowed t here =
      ap (with_found allowed t) here.no_quantifier ∙ ap (λ (b : Bool). if◌then◌else◌ {A = Found (Option Quantifier)} b None (Some (None, t))) here.no_brace

  pub some_found : (t rest : Source) (q : Quantifier) → quantifier_at t ≡ Some (q, rest) → is_ordered q ≡ true →
      optional_quantifier_at (context table i m s v names u) true t ≡ Some (Some q, rest)
  unfolding optional_quantifier_at
  some_found t rest q found ordered =
      ap (with_found true t) found ∙ ap (λ (b : Bool). if◌then◌else◌ {A = Found (Option Quantifier)} b (Some (Some q, rest)) None) ordered

  -- what is found
  abbrev pub IsFoundAs : (allowed : Bool) → (t : Source) → Option Quantifier × Source → Type 0
  IsFoundAs allowed t (None, rest) = t ≡ rest
  IsFoundAs allowed t (Some q, rest) = (allowed ≡ true) × (quantifier_at t ≡ Some (q, rest)) × (is_ordered q ≡ true)

  pub found_as : (allowed : Bool) (t : Source) (x : Option Quantifier × Source) →
      optional_quantifier_at (context table i m s v names u) allowed t ≡ Some x → IsFoundAs allowed t x
  unfolding optional_quantifier_at
  found_as allowed t x e = by (quantifier_at t) refl e
    where
      none : (b : Bool) → (if b then None else Some (None, t)) ≡ Some x → IsFoundAs allowed t x
      none true f = absurd (none-some x f)
      none false f = subst (IsFoundAs allowed t) (same_Some (None, t) x f) refl

      some : (q : Quantifier) (rest : Source) → quantifier_at t ≡ Some (q, rest) → (a b : Bool) → allowed ≡ a → is_ordered q ≡ b →
          (if a && b then Some (Some q, rest) else None) ≡ Some x → IsFoundAs allowed t x
      some q rest found true true g h f = subst (IsFoundAs allowed t) (same_Some (Some q, rest) x f) (g, found, h)
      some q rest found true false g h f = absurd (none-some x f)
      some q rest found false b g h f = absurd (none-some x f)

      by : (found : Found Quantifier) → quantifier_at t ≡ found →
          elim found as (λ _. Found (Option Quantifier)) [
            | None ↦ no_quantifier_at (context table i m s v names u) t
            | Some y ↦ this_quantifier (context table i m s v names u) allowed y
          ] ≡ Some x → IsFoundAs allowed t x
      by None g f = none (u && is_at (char "{") t) f
      by (Some (q, rest)) g f = some q rest g allowed (is_ordered q) refl refl f
