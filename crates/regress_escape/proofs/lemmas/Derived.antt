-- The grammar derives literals from an escaped text.
use Rattle.std.proofs.Common.{◌≡◌, ℕ, true, false, max, List, [], ◌∷◌, ◌++◌, flat_map, refl, ap, subst, append_assoc, append-nil, arith}
use Rattle.regress_base.specs.declared.types.Flags.{Flags}
use Rattle.regress_lexer.specs.FirstCodePoint.{may_begin}
use Rattle.regress_lexer.specs.Source.{Source}
use Rattle.regress_tree.specs.Steps.{Setting}
use Rattle.regress_parse.specs.Accepted.{IsAccepted, own_context}
use Rattle.regress_syntax.specs.Syntax.{Terms, no_terms, counts_of_terms, added, nothing_counted, nesting_of_terms}
use Rattle.regress_syntax.specs.SameNames.{are_names_apart_in_terms}
use Rattle.regress_syntax.specs.Productions.{Context}
use Rattle.regress_syntax.specs.Grammar.{IsPattern, AreTerms}
use Rattle.regress_syntax.proofs.lemmas.Plain.{no_times}
use Rattle.regress_escape.specs.Escape.{encoded, encoded_first, escaped}
use Rattle.regress_escape.specs.Literals.{literals_then, literals}
use Rattle.regress_escape.proofs.lemmas.Heads.{IsLiteral, encoded_literal, first_literal, all_begin}

module _ (ctx : Context) (ts : Terms) (t rest : Source) (plain : may_begin t ≡ false) (after : AreTerms ctx ts t rest) where
  encoded_terms : (cs : List ℕ) → AreTerms ctx (literals_then ctx.setting.flags cs ts) (flat_map encoded cs ++ t) rest
  encoded_terms [] = after
  encoded_terms (c ∷ cs) =
      let mid = flat_map encoded cs ++ t in
      let head : IsLiteral ctx c (flat_map encoded (c ∷ cs) ++ t) mid =
      rw (append_assoc (encoded c) (flat_map encoded cs) t) (encoded_literal ctx c mid) in
      (mid, mid, head, no_times ctx true mid (all_begin cs t plain), encoded_terms cs)

  pub escaped_terms : (cs : List ℕ) → AreTerms ctx (literals_then ctx.setting.flags cs ts) (escaped cs ++ t) rest
  escaped_terms [] = after
  escaped_terms (c ∷ cs) =
      let mid = flat_map encoded cs ++ t in
      let head : IsLiteral ctx c (escaped (c ∷ cs) ++ t) mid =
      rw (append_assoc (encoded_first c) (flat_map encoded cs) t) (first_literal ctx c mid) in
      (mid, mid, head, no_times ctx true mid (all_begin cs t plain), encoded_terms cs)

pub escaped_pattern : (ctx : Context) (cs : List ℕ) → IsPattern ctx (literals ctx.setting.flags cs) (escaped cs) []
escaped_pattern ctx cs =
    let terms = escaped_terms ctx no_terms [] [] refl (refl, refl) cs in
    (subst (λ (u : Source). AreTerms ctx (literals_then ctx.setting.flags cs no_terms) u []) (append-nil (escaped cs)) terms, refl)

-- ---- Literals are within the limits.

literals_counts : (flags : Flags) (cs : List ℕ) → counts_of_terms (literals_then flags cs no_terms) ≡ nothing_counted
literals_counts flags [] = refl
literals_counts flags (c ∷ cs) = ap (λ n. added (added nothing_counted nothing_counted) n) (literals_counts flags cs)

literals_nesting : (flags : Flags) (cs : List ℕ) → nesting_of_terms (literals_then flags cs no_terms) ≡ 0
literals_nesting flags [] = refl
literals_nesting flags (c ∷ cs) = ap (λ n. max 0 n) (literals_nesting flags cs)

literals_apart : (flags : Flags) (cs : List ℕ) → are_names_apart_in_terms (literals_then flags cs no_terms) ≡ true
literals_apart flags [] = refl
literals_apart flags (c ∷ cs) = literals_apart flags cs

-- ---- An escaped text is accepted.

pub escaped_accepted : (setting : Setting) (cs : List ℕ) → IsAccepted setting (escaped cs) (literals setting.flags cs)
escaped_accepted setting cs = record {
  derived = escaped_pattern (own_context setting (literals setting.flags cs)) cs;
  limits = record {
    groups = rw (literals_counts setting.flags cs) (omega arith);
    loops = rw (literals_counts setting.flags cs) (omega arith);
    nesting = rw (literals_nesting setting.flags cs) (omega arith);
  };
  names = literals_apart setting.flags cs;
}
