-- With the flag v the productions of a character and of the strings after `\q` find what ClassSetCharacter and
-- ClassStringDisjunctionContents of ECMA-262 derive.
use Rattle.std.proofs.Common.{◌≡◌, ℕ, zero, suc, ◌<◌, ◌==◌, inl, inr, Bool, true, false, ◌&&◌, ◌||◌, List, [], ◌∷◌, ◌++◌, length, drop, Some, None, if◌then◌else◌, refl, sym, ap, subst, ◌∙◌, arith, append_assoc, append-nil}
use Rattle.std.specs.Option.{option_or}
use Rattle.std.proofs.lemmas.Bool.Decides.{nat_tests}
use Rattle.std.proofs.lemmas.Option.{none-some}
use Rattle.regress_base.specs.Table.{Table}
use Rattle.regress_lexer.specs.Source.{Source, Found, found_map, char, is_at}
use Rattle.regress_lexer.proofs.lemmas.After.{after_shorter}
use Rattle.regress_classes.specs.declared.parameters.Parameters.{Parameters}
use Rattle.regress_classes.specs.ClassSets.{is_set_syntax, is_reserved, is_double, escaped_character_at, set_character_at, strings_by}
use Rattle.regress_classes.proofs.lemmas.ClassSets.{set_character_at-shortens}
use Rattle.regress_ecma.specs.CharacterEscapes.{character_escape, one_such, terminal}
use Rattle.regress_ecma.specs.ClassSetExpressions.{is_class_set_syntax_character, is_class_set_reserved_punctuator, class_set_character, AreClassStrings}
use Rattle.regress_ecma.proofs.EscapesWithU.{at_character, by_case, or_none, escape_with_u}
use Rattle.regress_ecma.proofs.ClassAtomNodes.{own}
use Rattle.regress_ecma.proofs.ClassDerivations.{front_is}
use Rattle.regress_ecma.proofs.ClassRangeNodes.{Each, each_none, each_some, each_if, each_then, each_at, each_weaker}

syntax_same : (c : ℕ) → is_class_set_syntax_character c ≡ is_set_syntax c
syntax_same c = grind (arith, nat_tests)

not_reserved : (c : ℕ) → (c == char "&") ≡ false → (c == char "-") ≡ false → (c == char "!") ≡ false → (c == char "#") ≡ false →
    (c == char "%") ≡ false → (c == char ",") ≡ false → (c == char ":") ≡ false → (c == char ";") ≡ false → (c == char "<") ≡ false →
    (c == char "=") ≡ false → (c == char ">") ≡ false → (c == char "@") ≡ false → (c == char "`") ≡ false → (c == char "~") ≡ false →
    is_reserved c ≡ false
not_reserved c e₁ e₂ e₃ e₄ e₅ e₆ e₇ e₈ e₉ e₁₀ e₁₁ e₁₂ e₁₃ e₁₄ = grind (arith, nat_tests)

module _ (table : Table) (icase named : Bool) where
  abbrev parameters : Parameters
  parameters = own icase true named

  -- ---- characters

  -- what follows a backslash
  abbrev escaped : Source → Found ℕ
  escaped t =
      option_or (character_escape true named t)
      (option_or (one_such is_class_set_reserved_punctuator t) (option_or (terminal (char "b") 8 t) None))

  abbrev EscapedAlike : Source → Type 0
  EscapedAlike t = escaped t ≡ escaped_character_at true t

  escaped_same : (t : Source) → EscapedAlike t
  escaped_same [] = refl
  escaped_same (c ∷ t) =
      at_character (λ d. EscapedAlike (d ∷ t)) (char "b") c refl
      (λ b. at_character (λ d. EscapedAlike (d ∷ t)) (char "&") c refl
      (λ e₁. at_character (λ d. EscapedAlike (d ∷ t)) (char "-") c refl
      (λ e₂. at_character (λ d. EscapedAlike (d ∷ t)) (char "!") c refl
      (λ e₃. at_character (λ d. EscapedAlike (d ∷ t)) (char "#") c refl
      (λ e₄. at_character (λ d. EscapedAlike (d ∷ t)) (char "%") c refl
      (λ e₅. at_character (λ d. EscapedAlike (d ∷ t)) (char ",") c refl
      (λ e₆. at_character (λ d. EscapedAlike (d ∷ t)) (char ":") c refl
      (λ e₇. at_character (λ d. EscapedAlike (d ∷ t)) (char ";") c refl
      (λ e₈. at_character (λ d. EscapedAlike (d ∷ t)) (char "<") c refl
      (λ e₉. at_character (λ d. EscapedAlike (d ∷ t)) (char "=") c refl
      (λ e₁₀. at_character (λ d. EscapedAlike (d ∷ t)) (char ">") c refl
      (λ e₁₁. at_character (λ d. EscapedAlike (d ∷ t)) (char "@") c refl
      (λ e₁₂. at_character (λ d. EscapedAlike (d ∷ t)) (char "`") c refl
      (λ e₁₃. at_character (λ d. EscapedAlike (d ∷ t)) (char "~") c refl
      (λ e₁₄. other b (not_reserved c e₁ e₂ e₃ e₄ e₅ e₆ e₇ e₈ e₉ e₁₀ e₁₁ e₁₂ e₁₃ e₁₄))))))))))))))))
    where
      other : (c == char "b") ≡ false → is_reserved c ≡ false → EscapedAlike (c ∷ t)
      other b reserved = rw (reserved, b) (or_none (character_escape true named (c ∷ t)) ∙ escape_with_u named (c ∷ t))

  abbrev Alike : Source → Type 0
  Alike t = class_set_character table named t ≡ set_character_at parameters t

  pub character_same : (t : Source) → Alike t
  unfolding class_set_character set_character_at
  character_same [] = refl
  character_same (c ∷ t) =
      at_character (λ d. Alike (d ∷ t)) (char "\\") c (escaped_same t)
      (λ slash. rw (class_set_character, set_character_at, slash, syntax_same c) (by (is_double c && is_at c t) (is_set_syntax c)))
    where
      by : (d s : Bool) →
          option_or {T = ℕ × Source} (if d then None else (if s then None else Some (c, t))) None
          ≡ (if s || d then None else Some (c, t))
      by true true = refl
      by true false = refl
      by false true = refl
      by false false = refl

  pub character_shortens : (t u : Source) (c : ℕ) → class_set_character table named t ≡ Some (c, u) → length u < length t
  unfolding class_set_character
  character_shortens [] u c e = absurd (none-some (c, u) e)
  character_shortens (d ∷ t) u c e =
      omega (arith, after_shorter t u ((set_character_at-shortens parameters (d ∷ t)).each (c, u) (sym (character_same (d ∷ t)) ∙ e)))

  -- No character begins with any of these.
  no_close : (t : Source) → class_set_character table named (char "]" ∷ t) ≡ None
  unfolding class_set_character
  no_close t = refl

  no_hyphen : (t : Source) → class_set_character table named (char "-" ∷ t) ≡ None
  unfolding class_set_character
  no_hyphen t = refl

  no_open : (t : Source) → class_set_character table named (char "[" ∷ t) ≡ None
  unfolding class_set_character
  no_open t = refl

  no_brace : (t : Source) → class_set_character table named (char "}" ∷ t) ≡ None
  unfolding class_set_character
  no_brace t = refl

  no_bar : (t : Source) → class_set_character table named (char "|" ∷ t) ≡ None
  unfolding class_set_character
  no_bar t = refl

  no_ampersands : (t : Source) → class_set_character table named (char "&" ∷ char "&" ∷ t) ≡ None
  unfolding class_set_character
  no_ampersands t = refl

  not_at : (k c : ℕ) (t u : Source) → class_set_character table named (k ∷ drop 1 t) ≡ None → class_set_character table named t ≡ Some (c, u) →
      is_at k t ≡ false
  not_at k c t u none e =
      by_case (is_at k t) (λ at. absurd (none-some (c, u) (sym none ∙ sym (ap (class_set_character table named) (front_is k t at)) ∙ e))) (λ f. f)

  pub not_closed : (c : ℕ) (t u : Source) → class_set_character table named t ≡ Some (c, u) → is_at (char "]") t ≡ false
  not_closed c t u e = not_at (char "]") c t u (no_close (drop 1 t)) e

  pub not_hyphen : (c : ℕ) (t u : Source) → class_set_character table named t ≡ Some (c, u) → is_at (char "-") t ≡ false
  not_hyphen c t u e = not_at (char "-") c t u (no_hyphen (drop 1 t)) e

  pub not_open : (c : ℕ) (t u : Source) → class_set_character table named t ≡ Some (c, u) → is_at (char "[") t ≡ false
  not_open c t u e = not_at (char "[") c t u (no_open (drop 1 t)) e

  pub not_ampersands : (c : ℕ) (t u : Source) → class_set_character table named t ≡ Some (c, u) →
      (is_at (char "&") t && is_at (char "&") (drop 1 t)) ≡ false
  not_ampersands c t u e =
      by_case (is_at (char "&") t)
      (λ first. by_case (is_at (char "&") (drop 1 t))
      (λ second.
      absurd (none-some (c, u)
      (sym (no_ampersands (drop 1 (drop 1 t)))
      ∙ sym (ap (class_set_character table named) (front_is (char "&") t first ∙ ap (λ (w : Source). char "&" ∷ w) (front_is (char "&") (drop 1 t) second)))
      ∙ e)))
      (λ second. ap (λ (b : Bool). b && is_at (char "&") (drop 1 t)) first ∙ second))
      (λ first. ap (λ (b : Bool). b && is_at (char "&") (drop 1 t)) first)

  -- ---- strings

  -- The strings that are found continue the characters before them.
  record IsStrings (s : List ℕ) (t : Source) (x : List (List ℕ) × Source) : Type 0 where
    first : List ℕ
    others : List (List ℕ)
    same : x.0 ≡ (s ++ first) ∷ others
    derived : AreClassStrings table named (first ∷ others) t (char "}" ∷ x.1)

  with_character : (c : ℕ) (first : List ℕ) (others : List (List ℕ)) (t u rest : Source) → class_set_character table named t ≡ Some (c, u) →
      AreClassStrings table named (first ∷ others) u rest → AreClassStrings table named ((c ∷ first) ∷ others) t rest
  with_character c first others t u rest e (inl (is_empty, string)) = inl (is_empty, (u, e, string))
  with_character c first others t u rest e (inr (v, string, more)) = inr (v, (u, e, string), more)

  strings_are : (n : ℕ) (s : List ℕ) (t : Source) → Each (IsStrings s t) (strings_by n parameters s t)
  unfolding strings_by
  strings_are zero s t = each_none (IsStrings s t)
  strings_are (suc n) s t =
      each_if (IsStrings s t) (is_at (char "}") t) _ _
      (λ closes. each_some (IsStrings s t) (s ∷ [], drop 1 t)
      (record { first = []; others = []; same = ap (λ (x : List ℕ). x ∷ []) (sym (append-nil s)); derived = inl (refl, front_is (char "}") t closes) }))
      (λ _. each_if (IsStrings s t) (is_at (char "|") t) _ _
      (λ bar. each_then (IsStrings s t) (strings_by n parameters [] (drop 1 t)) _
      (λ x e. each_some (IsStrings s t) (s ∷ x.0, x.1)
      (let more = each_at _ _ (strings_are n [] (drop 1 t)) x e in
      record {
        first = [];
        others = more.first ∷ more.others;
        same = ap (λ (y : List (List ℕ)). s ∷ y) more.same ∙ ap (λ (y : List ℕ). y ∷ more.first ∷ more.others) (sym (append-nil s));
        derived = inr (drop 1 t, front_is (char "|") t bar, more.derived);
      })))
      (λ _. each_then (IsStrings s t) (set_character_at parameters t) _
      (λ x e. each_weaker (IsStrings (s ++ x.0 ∷ []) x.1) (IsStrings s t) _ (λ y more. record {
        first = x.0 ∷ more.first;
        others = more.others;
        same = more.same ∙ ap (λ (z : List ℕ). z ∷ more.others) (append_assoc s (x.0 ∷ []) more.first);
        derived = with_character x.0 more.first more.others t x.1 (char "}" ∷ y.1) (character_same t ∙ e) more.derived;
      }) (strings_are n (s ++ x.0 ∷ []) x.1))))

  pub strings_derived : (n : ℕ) (t rest : Source) (strings : List (List ℕ)) → strings_by n parameters [] t ≡ Some (strings, rest) →
      AreClassStrings table named strings t (char "}" ∷ rest)
  strings_derived n t rest strings e =
      let read = each_at _ _ (strings_are n [] t) (strings, rest) e in
      subst (λ (ss : List (List ℕ)). AreClassStrings table named ss t (char "}" ∷ rest)) (sym read.same) read.derived

  closed_by : (n : ℕ) (s : List ℕ) (t rest : Source) → t ≡ char "}" ∷ rest → strings_by (suc n) parameters s t ≡ Some (s ∷ [], rest)
  unfolding strings_by
  closed_by n s t rest same = ap (strings_by (suc n) parameters s) same

  goes_on : (n : ℕ) (s : List ℕ) (c : ℕ) (t u : Source) → class_set_character table named t ≡ Some (c, u) →
      strings_by (suc n) parameters s t ≡ strings_by n parameters (s ++ c ∷ []) u
  unfolding strings_by
  goes_on n s c t u e =
      let brace = not_at (char "}") c t u (no_brace (drop 1 t)) e in
      let bar = not_at (char "|") c t u (no_bar (drop 1 t)) e in
      let found = sym (character_same t) ∙ e in
      rw (strings_by, brace, bar, found) refl

  next_by : (n : ℕ) (s : List ℕ) (t u rest : Source) (more : List (List ℕ)) → t ≡ char "|" ∷ u → strings_by n parameters [] u ≡ Some (more, rest) →
      strings_by (suc n) parameters s t ≡ Some (s ∷ more, rest)
  unfolding strings_by
  next_by n s t u rest more same e =
      ap (strings_by (suc n) parameters s) same ∙ ap (found_map (λ (ss : List (List ℕ)). s ∷ ss)) e

  -- The strings that are derived are found.
  strings_by_derived : (n : ℕ) (s first : List ℕ) (others : List (List ℕ)) (t rest : Source) → length t < n →
      AreClassStrings table named (first ∷ others) t (char "}" ∷ rest) → strings_by n parameters s t ≡ Some ((s ++ first) ∷ others, rest)
  strings_by_derived zero s first others t rest short h = absurd (omega arith)
  strings_by_derived (suc n) s [] others t rest short (inl (is_empty, same)) =
      closed_by n s t rest same ∙ ap (λ (x : List (List ℕ)). Some (x, rest)) (ap (λ (x : List ℕ). x ∷ []) (sym (append-nil s)) ∙ ap (λ
      (x : List (List ℕ)). (s ++ []) ∷ x) (sym is_empty))
  strings_by_derived (suc n) s [] [] t rest short (inr (u, same, more)) = absurd more
  strings_by_derived (suc n) s [] (next ∷ others) t rest short (inr (u, same, more)) =
      let less : length u < n = omega (arith, ap length same) in
      next_by n s t u rest (next ∷ others) same (strings_by_derived n [] next others u rest less more)
      ∙ ap (λ (x : List ℕ). Some (x ∷ next ∷ others, rest)) (sym (append-nil s))
  strings_by_derived (suc n) s (c ∷ first) others t rest short (inl (is_empty, (u, e, string))) =
      let less : length u < n = omega (arith, character_shortens t u c e) in
      goes_on n s c t u e
      ∙ strings_by_derived n (s ++ c ∷ []) first others u rest less (inl (is_empty, string))
      ∙ ap (λ (x : List ℕ). Some (x ∷ others, rest)) (append_assoc s (c ∷ []) first)
  strings_by_derived (suc n) s (c ∷ first) others t rest short (inr (v, (u, e, string), more)) =
      let less : length u < n = omega (arith, character_shortens t u c e) in
      goes_on n s c t u e
      ∙ strings_by_derived n (s ++ c ∷ []) first others u rest less (inr (v, string, more))
      ∙ ap (λ (x : List ℕ). Some (x ∷ others, rest)) (append_assoc s (c ∷ []) first)

  pub strings_found : (n : ℕ) (strings : List (List ℕ)) (t rest : Source) → length t < n → AreClassStrings table named strings t (char "}" ∷ rest) →
      strings_by n parameters [] t ≡ Some (strings, rest)
  strings_found n [] t rest short h = absurd h
  strings_found n (first ∷ others) t rest short h = strings_by_derived n [] first others t rest short h
