-- The parser finds the names that ECMA-262 derives.
use Rattle.std.proofs.Common.{◌≡◌, ℕ, zero, suc, ◌+◌, ◌<◌, ◌==◌, ◌⊎◌, inl, inr, Bool, true, false, not, ◌&&◌, ◌||◌, [], ◌∷◌, length, drop, Some, None, if◌then◌else◌, refl, sym, ap, subst, ◌∙◌, nat_le, arith, eqb-true}
use Rattle.std.proofs.lemmas.Bool.{false≢true, and_parts}
use Rattle.std.proofs.lemmas.Bool.Decides.{nat_tests}
use Rattle.std.proofs.lemmas.Option.{none-some, same_Some}
use lib.Utf8.{scalar}
use Rattle.regress_base.specs.Classes.{word_characters}
use Rattle.regress_base.specs.Intervals.{is_member, is_within}
use Rattle.regress_base.specs.Table.{Table}
use Rattle.regress_lexer.specs.Source.{Source, Found, ◌>>=◌, found_map, char, is_at, is_one_of}
use Rattle.regress_lexer.specs.Escapes.{unicode_at}
use Rattle.regress_syntax.specs.Syntax.{Name}
use Rattle.regress_syntax.specs.Names.{begins_name, continues_name, literal_or_escape_at, name_character_at, rest_of_name_by, name_at, group_name_at}
use Rattle.regress_syntax.proofs.lemmas.NameEnds.{name_character_at-shortens}
use Rattle.regress_ecma.specs.CharacterEscapes.{led_by, unicode_escape}
use Rattle.regress_ecma.specs.GroupNames.{is_unicode_id_start, is_unicode_id_continue, is_identifier_start_char, is_dollar_or_joins, is_identifier_part_char, IsIdentifierCharacter, IsRegExpIdentifierStart, IsRegExpIdentifierPart, AreRegExpIdentifierParts, IsRegExpIdentifierName, IsGroupName, HasIdentifiers}
use Rattle.regress_ecma.proofs.ClassDerivations.{front_is}
use Rattle.regress_ecma.proofs.ClassRangeNodes.{Each, each_none, each_some, each_if, each_then, each_at, each_weaker}
use Rattle.regress_ecma.proofs.EscapesWithU.{at_character, by_case, u_escape}

-- ---- characters

-- `\u` and what follows it
unicode_escape_same : (t : Source) → unicode_escape true t ≡ (if is_at (char "u") t then unicode_at (drop 1 t) else None)
unicode_escape_same [] = refl
unicode_escape_same (c ∷ t) =
    at_character (λ d. unicode_escape true (d ∷ t) ≡ (if d == char "u" then unicode_at t else None)) (char "u") c (u_escape t) (λ e. rw e refl)

escaped_same : (c : ℕ) (t : Source) → literal_or_escape_at (c ∷ t) ≡ (if c == char "\\" then led_by (char "\\") (unicode_escape true) (c ∷ t) else Some (c, t))
escaped_same c t = by (c == char "\\") refl
  where
    by : (b : Bool) → (c == char "\\") ≡ b →
        (if b then (if is_at (char "u") t then unicode_at (drop 1 t) else None) else Some (c, t))
        ≡ (if b then (if c == char "\\" then unicode_escape true t else None) else Some (c, t))
    by true e = rw e (sym (unicode_escape_same t))
    by false e = refl

-- a code point itself, or an escape
written : (t : Source) (x : ℕ × Source) → literal_or_escape_at t ≡ Some x →
    (t ≡ x.0 ∷ x.1) ⊎ (led_by (char "\\") (unicode_escape true) t ≡ Some x)
written [] x e = absurd (none-some x e)
written (c ∷ t) x e = by_case (c == char "\\") escape literal
  where
    escape : (c == char "\\") ≡ true → (c ∷ t ≡ x.0 ∷ x.1) ⊎ (led_by (char "\\") (unicode_escape true) (c ∷ t) ≡ Some x)
    escape hit = inr (sym (ap (λ (b : Bool). if b then led_by (char "\\") (unicode_escape true) (c ∷ t) else Some (c, t)) hit) ∙ sym (escaped_same c t) ∙ e)

    literal : (c == char "\\") ≡ false → (c ∷ t ≡ x.0 ∷ x.1) ⊎ (led_by (char "\\") (unicode_escape true) (c ∷ t) ≡ Some x)
    literal miss =
        inl (ap (λ (y : ℕ × Source). y.0 ∷ y.1) (same_Some (c, t) x
        (sym (ap (λ (b : Bool). if b then led_by (char "\\") (unicode_escape true) (c ∷ t) else Some (c, t)) miss) ∙ sym (escaped_same c t) ∙ e)))

-- A character that passes a test is not one that does not.
differs : (K : ℕ) (p : ℕ → Bool) (c : ℕ) → p K ≡ false → p c ≡ true → (c == K) ≡ false
differs K p c none passes = by_case (c == K) (λ hit. absurd (false≢true (sym none ∙ ap p (sym (eqb-true c K hit)) ∙ passes))) (λ miss. miss)

-- In what follows, p is a test of the parser, p' that of ECMA-262, and q that of a property.
module _ (unicode : Bool) (p p' q : ℕ → Bool) (same : (c : ℕ) → p c ≡ p' c) (above : (c : ℕ) → nat_le 0x10000 c ≡ true → q c ≡ p' c) where
  abbrev Is : ℕ → (t rest : Source) → Type 0
  Is = IsIdentifierCharacter unicode p' q

  itself : (c : ℕ) (t : Source) → p' c ≡ true → Is c (c ∷ t) t
  itself c t passes = by unicode (nat_le 0x10000 c) refl
    where
      by : (u b : Bool) → nat_le 0x10000 c ≡ b →
          (c ∷ t ≡ c ∷ t) × ((u || not b) ≡ true) × (p' c ≡ true)
          ⊎ ((led_by (char "\\") (unicode_escape true) (c ∷ t) ≡ Some (c, t)) × (p' c ≡ true)
          ⊎ (c ∷ t ≡ c ∷ t) × ((not u && b) ≡ true) × (q c ≡ true))
      by true b e = inl (refl, refl, passes)
      by false false e = inl (refl, refl, passes)
      by false true e = inr (inr (refl, refl, above c e ∙ passes))

  character_accepted : (t : Source) → Each (λ x. Is x.0 t x.1) (name_character_at p t)
  character_accepted t =
      each_then P (literal_or_escape_at t) _
      (λ x e. each_if P (p x.0) (Some x) None (λ passes. each_some P x (by x (written t x e) (sym (same x.0) ∙ passes))) (λ _. each_none P))
    where
      P : ℕ × Source → Type 0
      P x = Is x.0 t x.1

      by : (x : ℕ × Source) → (t ≡ x.0 ∷ x.1) ⊎ (led_by (char "\\") (unicode_escape true) t ≡ Some x) → p' x.0 ≡ true → Is x.0 t x.1
      by x (inl e) passes = subst (λ (w : Source). Is x.0 w x.1) (sym e) (itself x.0 x.1 passes)
      by x (inr e) passes = inr (inl (e, passes))

  literal_found : (c : ℕ) (t rest : Source) → p' (char "\\") ≡ false → t ≡ c ∷ rest → p' c ≡ true → name_character_at p t ≡ Some (c, rest)
  literal_found c t rest none e passes =
      ap (name_character_at p) e
      ∙ ap (λ (b : Bool). (if b then (if is_at (char "u") rest then unicode_at (drop 1 rest) else None) else Some (c, rest)) >>= λ (d, u). if p d then Some (d, u) else None)
      (by_case (c == char "\\") (λ hit. absurd (false≢true (sym none ∙ ap p' (sym (eqb-true c (char "\\") hit)) ∙ passes))) (λ miss. miss))
      ∙ ap (λ (b : Bool). if b then Some (c, rest) else None) (same c ∙ passes)

  character_derived : p' (char "\\") ≡ false → (c : ℕ) (t rest : Source) → Is c t rest → name_character_at p t ≡ Some (c, rest)
  character_derived none c t rest (inl (e, unit, passes)) = literal_found c t rest none e passes
  character_derived none c [] rest (inr (inl (e, passes))) = absurd (none-some (c, rest) e)
  character_derived none c (d ∷ t) rest (inr (inl (e, passes))) =
      ap (λ (o : Found ℕ). o >>= λ (k, u). if p k then Some (k, u) else None) (found ∙ e)
      ∙ ap (λ (b : Bool). if b then Some (c, rest) else None) (same c ∙ passes)
    where
      found : literal_or_escape_at (d ∷ t) ≡ led_by (char "\\") (unicode_escape true) (d ∷ t)
      found =
          escaped_same d t
          ∙ by_case (d == char "\\") (λ hit. ap (λ (b : Bool). if b then led_by (char "\\") (unicode_escape true) (d ∷ t) else Some (d, t)) hit)
          (λ miss. absurd (none-some (c, rest) (sym (ap (λ (b : Bool). if b then unicode_escape true t else None) miss) ∙ e)))
  character_derived none c t rest (inr (inr (e, pair, has))) =
      literal_found c t rest none e (sym (above c (and_parts (not unicode) (nat_le 0x10000 c) pair).1) ∙ has)

  -- It does not begin with another character than a backslash that has no such test.
  begins_not : (K : ℕ) → (char "\\" == K) ≡ false → p' K ≡ false → q K ≡ false → (c : ℕ) (t rest : Source) → Is c t rest → is_at K t ≡ false
  begins_not K slash none none' c t rest (inl (e, unit, passes)) = ap (is_at K) e ∙ differs K p' c none passes
  begins_not K slash none none' c [] rest (inr (inl (e, passes))) = refl
  begins_not K slash none none' c (d ∷ t) rest (inr (inl (e, passes))) =
      by_case (d == char "\\") (λ hit. ap (λ (k : ℕ). k == K) (eqb-true d (char "\\") hit) ∙ slash)
      (λ miss. absurd (none-some (c, rest) (sym (ap (λ (b : Bool). if b then unicode_escape true t else None) miss) ∙ e)))
  begins_not K slash none none' c t rest (inr (inr (e, pair, has))) = ap (is_at K) e ∙ differs K q c none' has

-- ---- the tests

either_way : (s m d : Bool) → (d ≡ true → s ≡ true) → (s && (d || m)) ≡ (s && m || d)
either_way true true true h = refl
either_way true true false h = refl
either_way true false true h = refl
either_way true false false h = refl
either_way false m true h = absurd (false≢true (h refl))
either_way false m false h = refl

dollar_scalar : (c : ℕ) → is_one_of "$_" c ≡ true → scalar c ≡ true
dollar_scalar c e = grind (arith, nat_tests, e)

above_dollar : (c : ℕ) → nat_le 0x10000 c ≡ true → is_one_of "$_" c ≡ false
above_dollar c e = grind (arith, nat_tests, e)

above_joiners : (c : ℕ) → nat_le 0x10000 c ≡ true → is_dollar_or_joins c ≡ false
above_joiners c e = grind (arith, nat_tests, e)

joiner_scalar : (c : ℕ) → is_dollar_or_joins c ≡ true → scalar c ≡ true
joiner_scalar c e = grind (arith, nat_tests, e)

or_false : (b : Bool) → (b || false) ≡ b
or_false true = refl
or_false false = refl

or_moved : (a b c d : Bool) → (a || b || c || d) ≡ ((a || b || c) || d)
or_moved true b c d = refl
or_moved false true c d = refl
or_moved false false true d = refl
or_moved false false false d = refl

module _ (table : Table) where
  start_same : (c : ℕ) → begins_name table c ≡ is_identifier_start_char table c
  start_same c = either_way (scalar c) (is_member table.id_start c) (is_one_of "$_" c) (dollar_scalar c)

  start_above : (c : ℕ) → nat_le 0x10000 c ≡ true → is_unicode_id_start table c ≡ is_identifier_start_char table c
  start_above c e = sym (ap (λ (b : Bool). is_unicode_id_start table c || b) (above_dollar c e) ∙ or_false (is_unicode_id_start table c))

  part_same : (c : ℕ) → continues_name table c ≡ is_identifier_part_char table c
  part_same c =
      ap (λ (b : Bool). scalar c && b) (or_moved (is_one_of "$_" c) (c == 0x200C) (c == 0x200D) (is_member table.id_continue c))
      ∙ either_way (scalar c) (is_member table.id_continue c) (is_dollar_or_joins c) (joiner_scalar c)

  part_above : (c : ℕ) → nat_le 0x10000 c ≡ true → is_unicode_id_continue table c ≡ is_identifier_part_char table c
  part_above c e =
      sym (ap (λ (b : Bool). is_unicode_id_continue table c || b) (above_joiners c e) ∙ or_false (is_unicode_id_continue table c))

  module _ (proper : HasIdentifiers table) (c : ℕ) (ascii : c < 0x80) (none : is_member word_characters c ≡ false) where
    -- A delimiter has no such property.
    pub no_start_member : is_member table.id_start c ≡ false
    no_start_member = by_case (is_member table.id_start c) (λ e. absurd (false≢true (sym none ∙ proper.0 c ascii e))) (λ e. e)

    pub no_continue_member : is_member table.id_continue c ≡ false
    no_continue_member = by_case (is_member table.id_continue c) (λ e. absurd (false≢true (sym none ∙ proper.1 c ascii e))) (λ e. e)

    no_start : is_one_of "$_" c ≡ false → is_identifier_start_char table c ≡ false
    no_start other = rw (no_start_member, other) (nothing (scalar c))
      where
        nothing : (b : Bool) → (b && false || false) ≡ false
        nothing true = refl
        nothing false = refl

    no_start_unicode : is_unicode_id_start table c ≡ false
    no_start_unicode = rw no_start_member (nothing (scalar c))
      where
        nothing : (b : Bool) → (b && false) ≡ false
        nothing true = refl
        nothing false = refl

    no_continue : is_unicode_id_continue table c ≡ false
    no_continue = rw no_continue_member (nothing (scalar c))
      where
        nothing : (b : Bool) → (b && false) ≡ false
        nothing true = refl
        nothing false = refl

    no_part : is_dollar_or_joins c ≡ false → is_identifier_part_char table c ≡ false
    no_part other = rw (no_continue_member, other) (nothing (scalar c))
      where
        nothing : (b : Bool) → (b && false || false) ≡ false
        nothing true = refl
        nothing false = refl

-- ---- names

module _ (table : Table) (unicode : Bool) where
  part_accepted : (t : Source) → Each (λ x. IsRegExpIdentifierPart table unicode x.0 t x.1) (name_character_at (continues_name table) t)
  part_accepted =
      character_accepted unicode (continues_name table) (is_identifier_part_char table) (is_unicode_id_continue table) (part_same table) (part_above table)

  start_accepted : (t : Source) → Each (λ x. IsRegExpIdentifierStart table unicode x.0 t x.1) (name_character_at (begins_name table) t)
  start_accepted =
      character_accepted unicode (begins_name table) (is_identifier_start_char table) (is_unicode_id_start table) (start_same table) (start_above table)

  parts_accepted : (n : ℕ) (t : Source) → Each (λ x. AreRegExpIdentifierParts table unicode x.0 t (char ">" ∷ x.1)) (rest_of_name_by n table t)
  unfolding rest_of_name_by
  parts_accepted zero t = each_none _
  parts_accepted (suc n) t =
      each_if P (is_at (char ">") t) _ _ (λ closes. each_some P ([], drop 1 t) (front_is (char ">") t closes))
      (λ _. each_then P (name_character_at (continues_name table) t) _
      (λ x e. each_then P (rest_of_name_by n table x.1) _
      (λ y f. each_some P (x.0 ∷ y.0, y.1) (x.1, each_at _ _ (part_accepted t) x e, each_at _ _ (parts_accepted n x.1) y f))))
    where
      P : Name × Source → Type 0
      P x = AreRegExpIdentifierParts table unicode x.0 t (char ">" ∷ x.1)

  names_accepted : (t : Source) → Each (λ x. IsRegExpIdentifierName table unicode x.0 t (char ">" ∷ x.1)) (name_at table t)
  unfolding name_at
  names_accepted t =
      each_then P (name_character_at (begins_name table) t) _
      (λ x e. each_then P (rest_of_name_by (length x.1 + 1) table x.1) _
      (λ y f. each_some P (x.0 ∷ y.0, y.1) (x.1, each_at _ _ (start_accepted t) x e, each_at _ _ (parts_accepted (length x.1 + 1) x.1) y f)))
    where
      P : Name × Source → Type 0
      P x = IsRegExpIdentifierName table unicode x.0 t (char ">" ∷ x.1)

  pub group_name_accepted : (t rest : Source) (name : Name) → group_name_at table t ≡ Some (name, rest) → IsGroupName table unicode name t rest
  group_name_accepted t rest name e = each_at P (group_name_at table t) found (name, rest) e
    where
      P : Name × Source → Type 0
      P x = IsGroupName table unicode x.0 t x.1

      found : Each P (group_name_at table t)
      found =
          each_if P (is_at (char "<") t) (name_at table (drop 1 t)) None
          (λ opens. each_weaker _ P (name_at table (drop 1 t)) (λ x h. (drop 1 t, front_is (char "<") t opens, h)) (names_accepted (drop 1 t)))
          (λ _. each_none P)

  module _ (proper : HasIdentifiers table) where
    no_escape_part : is_identifier_part_char table (char "\\") ≡ false
    unfolding is_member is_within
    no_escape_part = no_part table proper (char "\\") (omega arith) refl refl

    no_escape_start : is_identifier_start_char table (char "\\") ≡ false
    unfolding is_member is_within
    no_escape_start = no_start table proper (char "\\") (omega arith) refl refl

    no_closing_part : is_identifier_part_char table (char ">") ≡ false
    unfolding is_member is_within
    no_closing_part = no_part table proper (char ">") (omega arith) refl refl

    no_closing_continue : is_unicode_id_continue table (char ">") ≡ false
    unfolding is_member is_within
    no_closing_continue = no_continue table proper (char ">") (omega arith) refl

    part_derived : (c : ℕ) (t rest : Source) → IsRegExpIdentifierPart table unicode c t rest → name_character_at (continues_name table) t ≡ Some (c, rest)
    part_derived =
        character_derived unicode (continues_name table) (is_identifier_part_char table) (is_unicode_id_continue table) (part_same table) (part_above table)
        no_escape_part

    start_derived : (c : ℕ) (t rest : Source) → IsRegExpIdentifierStart table unicode c t rest → name_character_at (begins_name table) t ≡ Some (c, rest)
    start_derived =
        character_derived unicode (begins_name table) (is_identifier_start_char table) (is_unicode_id_start table) (start_same table) (start_above table)
        no_escape_start

    part_no_closing : (c : ℕ) (t rest : Source) → IsRegExpIdentifierPart table unicode c t rest → is_at (char ">") t ≡ false
    part_no_closing =
        begins_not unicode (continues_name table) (is_identifier_part_char table) (is_unicode_id_continue table) (part_same table) (part_above table)
        (char ">") refl no_closing_part no_closing_continue

    -- A name does not begin with such a character.
    pub name_begins_not : (K : ℕ) → K < 0x80 → is_member word_characters K ≡ false → is_one_of "$_" K ≡ false → (char "\\" == K) ≡ false →
        (name : Name) (t rest : Source) → IsRegExpIdentifierName table unicode name t rest → is_at K t ≡ false
    name_begins_not K ascii none other slash [] t rest h = absurd h
    name_begins_not K ascii none other slash (c ∷ cs) t rest (u, start, more) =
        begins_not unicode (begins_name table) (is_identifier_start_char table) (is_unicode_id_start table) (start_same table) (start_above table)
        K slash (no_start table proper K ascii none other) (no_start_unicode table proper K ascii none) c t u start

    parts_derived : (n : ℕ) (cs : Name) (t rest : Source) → length t < n → AreRegExpIdentifierParts table unicode cs t (char ">" ∷ rest) →
        rest_of_name_by n table t ≡ Some (cs, rest)
    unfolding rest_of_name_by
    parts_derived zero cs t rest few h = absurd (omega arith)
    parts_derived (suc n) [] t rest few h = ap (rest_of_name_by (suc n) table) h
    parts_derived (suc n) (c ∷ cs) t rest few (u, part, more) =
        let found = part_derived c t u part in
        let shorter : length u < length t = name_character_at-shortens (continues_name table) t (c, u) found in
        ap (λ (b : Bool). if b then Some ([], drop 1 t)
        else (name_character_at (continues_name table) t >>= λ (c, rest). found_map (λ (cs : Name). c ∷ cs) (rest_of_name_by n table rest)))
        (part_no_closing c t u part)
        ∙ ap (λ (o : Found ℕ). o >>= λ (c, rest). found_map (λ (cs : Name). c ∷ cs) (rest_of_name_by n table rest)) found
        ∙ ap (found_map (λ (cs : Name). c ∷ cs)) (parts_derived n cs u rest (omega arith) more)

    pub group_name_derived : (name : Name) (t rest : Source) → IsGroupName table unicode name t rest → group_name_at table t ≡ Some (name, rest)
    unfolding name_at
    group_name_derived [] t rest (u, opens, h) = absurd h
    group_name_derived (c ∷ cs) t rest (u, opens, (v, start, more)) =
        ap (group_name_at table) opens
        ∙ ap (λ (o : Found ℕ). o >>= λ (c, rest). found_map (λ (cs : Name). c ∷ cs) (rest_of_name_by (length rest + 1) table rest)) (start_derived c u v start)
        ∙ ap (found_map (λ (cs : Name). c ∷ cs)) (parts_derived (length v + 1) cs v rest (omega arith) more)
