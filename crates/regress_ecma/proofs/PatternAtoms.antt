-- The atoms that the parser finds are the terms without groups that ECMA-262 derives.
use Rattle.std.proofs.Common.{◌≡◌, ℕ, ◌==◌, ◌⊎◌, inl, inr, Bool, true, false, not, ◌&&◌, ◌||◌, List, [], ◌∷◌, Option, Some, None, if◌then◌else◌, refl, sym, ap, subst, ◌∙◌, arith, eqb-true}
use Rattle.std.specs.List.{All}
use Rattle.std.proofs.lemmas.Bool.{false≢true, and_parts}
use Rattle.std.proofs.lemmas.Bool.Decides.{nat_tests}
use Rattle.std.proofs.lemmas.Option.{none-some}
use Rattle.regress_base.specs.Table.{Table}
use Rattle.regress_lexer.specs.declared.dialect.Dialect.TheVariants.{Ecma}
use Rattle.regress_lexer.specs.Source.{Source, Found, ◌>>=◌, IsCodePoint, char, is_at, is_one_of}
use Rattle.regress_lexer.specs.Digits.{hex_at}
use Rattle.regress_lexer.specs.Escapes.{begins_with_letter}
use Rattle.regress_classes.specs.ClassProductions.{class_at}
use Rattle.regress_classes.specs.ClassSets.{class_set_at}
use Rattle.regress_syntax.specs.Names.{group_name_at}
use Rattle.regress_syntax.specs.Productions.{Context, class_parameters, class_flags, compared_members, atom_allows, has_names, has_name, is_lone_backslash, name_reference_at, escaped_by, escaped_at, brackets_at, atom_by}
use Rattle.regress_syntax.specs.Syntax.{Name, is_named, Atom, literal, class as class_atom, class_set, back_reference, by_name_if_set}
use Rattle.regress_ecma.specs.CharacterEscapes.{lead_unit, trail_unit, is_trail, led_by, hex_4_digits, escaped_trail, character_escape}
use Rattle.regress_ecma.specs.ClassSetExpressions.{HasPropertiesOfStrings}
use Rattle.regress_ecma.specs.PatternNodes.{AtomEscape, decimal, character_class, character, named, TermBody, start, end, boundary, pattern_character, dot, escape, backslash, class, groups_of_body, body_has_duplicate, is_called, is_specified}
use Rattle.regress_ecma.specs.Patterns.{Mode, atom_escape, IsNameEscape, plain_character, HasNoBraces, HasNoEscape, is_quantifiable, IsTermBody, body_has_error, BodyIsWithin}
use Rattle.regress_ecma.proofs.AcceptedClasses.{class_accepted}
use Rattle.regress_ecma.proofs.AcceptedClassSets.{class_set_accepted}
use Rattle.regress_ecma.proofs.AtomEscapeNodes.{flags, context, mode, IsEscapeOf, escapes_alike}
use Rattle.regress_ecma.proofs.ClassRangeNodes.{Each, each_none, each_some, each_if, each_then}
use Rattle.regress_ecma.proofs.EscapesWithU.{at_character, by_case}
use Rattle.regress_ecma.proofs.EscapesWithoutU.{HasTrail, is_trail_unit}
use Rattle.regress_ecma.proofs.GroupNameNodes.{group_name_accepted}
use Rattle.regress_ecma.proofs.OctalEscapes.{no_octal_escape}
use Rattle.regress_ecma.proofs.PatternCharacters.{no_braces_elsewhere, IsCharacterOf, is_other, characters_alike, found_without_braces, no_delimiter, small_trail, no_brace_trail, none_other}

-- ---- names

named_same : (name : Name) (other : Option Name) → is_called name other ≡ is_named name other
named_same name None = refl
named_same name (Some other) = refl

pub specified_same : (name : Name) (names : List (Option Name)) → is_specified name names ≡ has_name name names
specified_same name [] = refl
specified_same name (other ∷ names) =
    ap (λ (b : Bool). b || is_specified name names) (named_same name other) ∙ ap (λ (b : Bool). is_named name other || b) (specified_same name names)

-- ---- what an atom is

-- A term without a group, an error or a class past the limit.
pub record IsLeaf (names : List (Option Name)) (v : Bool) (b : TermBody) : Type 0 where
  pub groups : groups_of_body b ≡ []
  pub alone : body_has_duplicate b ≡ false
  pub fine : body_has_error names b ≡ false
  pub within : BodyIsWithin v b

module _ (table : Table) (i m s v : Bool) (names : List (Option Name)) (u : Bool) where
  abbrev own_mode : Mode
  own_mode = mode table i m s v names u

  abbrev Body : TermBody → (t rest : Source) → Type 0
  Body b t rest = IsTermBody table own_mode b t rest

  -- a term without a group, which a quantifier may follow or not
  pub record IsOne (allowed : Bool) (b : TermBody) (t rest : Source) : Type 0 where
    pub derived : Body b t rest
    pub leaf : IsLeaf names v b
    pub quantifiable : is_quantifiable table own_mode b ≡ allowed

  -- Such a term is derived, or two of which the second is a trail surrogate.
  abbrev pub AreDerived : (allowed : Bool) → (t rest : Source) → Type 0
  AreDerived allowed t rest =
      ((b : TermBody) × IsOne allowed b t rest)
      ⊎ (allowed ≡ true)
      × ((first : TermBody) × (last : TermBody) × (w : Source) × IsOne true first t w × IsOne true last w rest)

  one : (allowed : Bool) (b : TermBody) (t rest : Source) → Body b t rest → groups_of_body b ≡ [] → body_has_duplicate b ≡ false →
      body_has_error names b ≡ false → BodyIsWithin v b → is_quantifiable table own_mode b ≡ allowed → AreDerived allowed t rest
  one allowed b t rest derived groups alone fine within quantifiable =
      inl (
        b,
        record {
          derived = derived;
          leaf = record { groups = groups; alone = alone; fine = fine; within = within };
          quantifiable = quantifiable;
        },
      )

-- ---- trail surrogates

pub escaped_inverse : (d : ℕ) (w rest : Source) → escaped_trail w ≡ Some (d, rest) →
    (x : Source) × (w ≡ char "\\" ∷ char "u" ∷ x) × (hex_at 4 x ≡ Some (d, rest))
escaped_inverse d [] rest e = absurd (none-some (d, rest) e)
escaped_inverse d (c ∷ []) rest e = absurd (by (c == char "\\") e)
  where
    by : (b : Bool) → (if b then led_by (char "u") (hex_4_digits is_trail) [] else None) ≡ Some (d, rest) → ⊥
    by true f = none-some (d, rest) f
    by false f = none-some (d, rest) f
escaped_inverse d (c ∷ k ∷ x) rest e = by (c == char "\\") (k == char "u") refl refl e
  where
    digits : (found : Found ℕ) → found >>= (λ (value, r). if is_trail value then Some (value, r) else None) ≡ Some (d, rest) → found ≡ Some (d, rest)
    digits None f = absurd (none-some (d, rest) f)
    digits (Some x) f = kept x (is_trail x.0) f
      where
        kept : (x : ℕ × Source) (b : Bool) → (if b then Some x else None) ≡ Some (d, rest) → Some x ≡ Some (d, rest)
        kept x true f = f
        kept x false f = absurd (none-some (d, rest) f)

    by : (a b : Bool) → (c == char "\\") ≡ a → (k == char "u") ≡ b →
        (if a then (if b then hex_4_digits is_trail x else None) else None) ≡ Some (d, rest) →
        (y : Source) × (c ∷ k ∷ x ≡ char "\\" ∷ char "u" ∷ y) × (hex_at 4 y ≡ Some (d, rest))
    by true true p q f =
        (x, ap (λ (n : ℕ). n ∷ k ∷ x) (eqb-true c (char "\\") p) ∙ ap (λ (n : ℕ). char "\\" ∷ n ∷ x) (eqb-true k (char "u") q), digits (hex_at 4 x) f)
    by true false p q f = absurd (none-some (d, rest) f)
    by false b p q f = absurd (none-some (d, rest) f)

-- ---- escapes

module _ (table : Table) (i m s v : Bool) (names : List (Option Name)) where
  abbrev units_mode : Mode
  units_mode = mode table i m s v names false

  -- The trail surrogate is a term.
  trail_one : (c : ℕ) (w rest : Source) → HasTrail c w rest → (b : TermBody) × IsOne table i m s v names false true b w rest
  trail_one c w rest (inl e) = (
    pattern_character (trail_unit c),
    record {
      derived = subst (λ (x : Source). IsTermBody table units_mode (pattern_character (trail_unit c)) x rest) (sym e) (
        rw (no_delimiter _ (is_trail_unit c), small_trail _ (is_trail_unit c)) refl,
        no_braces_elsewhere table units_mode (trail_unit c ∷ rest) (no_brace_trail (trail_unit c) (is_trail_unit c)),
      );
      leaf = record { groups = refl; alone = refl; fine = refl; within = tt };
      quantifiable = refl;
    },
  )
  trail_one c w rest (inr e) =
      let found = escaped_inverse (trail_unit c) w rest e in (
        escape (character (trail_unit c)),
        record {
          derived = (char "u" ∷ found.0, found.1, refl, inl (rw found.2 refl));
          leaf = record { groups = refl; alone = refl; fine = refl; within = tt };
          quantifiable = refl;
        },
      )

-- no AtomEscape is derived from a `c` that no letter follows
no_control_by : (b : Bool) (t : Source) → begins_with_letter t ≡ false → character_escape false b (char "c" ∷ t) ≡ None
no_control_by true [] e = rw (no_octal_escape (char "c") [] refl) refl
no_control_by false [] e = rw (no_octal_escape (char "c") [] refl) refl
no_control_by true (d ∷ t) e = rw (e, no_octal_escape (char "c") (d ∷ t) refl) refl
no_control_by false (d ∷ t) e = rw (e, no_octal_escape (char "c") (d ∷ t) refl) refl

-- nor one without a name from a `k`, where there are names
no_k_by : (t : Source) → character_escape false true (char "k" ∷ t) ≡ None
no_k_by t = rw (no_octal_escape (char "k") t refl) refl

module _ (table : Table) (i m s v : Bool) (names : List (Option Name)) where
  abbrev escape_of : Bool → Source → Found AtomEscape
  escape_of u t = atom_escape table (mode table i m s v names u) t

  pub no_control : (t : Source) → begins_with_letter t ≡ false → escape_of false (char "c" ∷ t) ≡ None
  no_control t e = rw (no_control_by (has_names names) t e) refl

  pub no_k : (u : Bool) (t : Source) → (u || has_names names) ≡ true → escape_of u (char "k" ∷ t) ≡ None
  no_k true t e = refl
  no_k false t e = rw (e, no_k_by t) refl

  pub no_escape_at_end : (u : Bool) → escape_of u [] ≡ None
  no_escape_at_end true = refl
  no_escape_at_end false = refl

  -- what a name begins with
  pub name_escape_at : (u : Bool) (node : AtomEscape) (t rest : Source) → IsNameEscape table (mode table i m s v names u) node t rest →
      (is_at (char "k") t ≡ true) × ((u || has_names names) ≡ true)
  name_escape_at u (decimal n) t rest h = absurd h
  name_escape_at u (character_class node) t rest h = absurd h
  name_escape_at u (character value) t rest h = absurd h
  name_escape_at u (named name) t rest h = (ap (is_at (char "k")) h.1.1, h.0)

  pub lone_has_no_escape : (t : Source) → begins_with_letter t ≡ false → HasNoEscape table (mode table i m s v names false) (char "c" ∷ t)
  lone_has_no_escape t e node rest (inl found) = none-some (node, rest) (sym (no_control t e) ∙ found)
  lone_has_no_escape t e node rest (inr h) = false≢true (name_escape_at false node (char "c" ∷ t) rest h).0

-- ---- from the parser

pub both_ways : (c : ℕ) → (c == char "b") ≡ false → (c == char "B") ≡ false → is_one_of "bB" c ≡ false
both_ways c small capital = grind (arith, nat_tests, small, capital)

module _ (table : Table) (i m s v : Bool) (names : List (Option Name)) where
  module _ (u : Bool) where
    abbrev here : Context
    here = context table i m s v names u

    abbrev here_mode : Mode
    here_mode = mode table i m s v names u

    abbrev IsAtom : (t : Source) → Atom × Source → Type 0
    IsAtom t x = AreDerived table i m s v names u (atom_allows Ecma x.0) t x.1

    from_alike : (c : ℕ) (t : Source) → is_one_of "bB" c ≡ false → (found : Found Atom) →
        IsEscapeOf table i m s v names u (atom_escape table here_mode (c ∷ t)) found → Each (IsAtom (char "\\" ∷ c ∷ t)) found
    from_alike c t no_b None alike = each_none (IsAtom (char "\\" ∷ c ∷ t))
    from_alike c t no_b (Some (a, rest)) (allows, inl (node, e, fine)) =
        each_some (IsAtom (char "\\" ∷ c ∷ t)) (a, rest)
        (one table i m s v names u (atom_allows Ecma a) (escape node) (char "\\" ∷ c ∷ t) rest (c ∷ t, refl, no_b, inl e) refl refl fine tt (sym allows))
    from_alike c t no_b (Some (a, rest)) (allows, inr (none, (x, w, e, trail))) =
        each_some (IsAtom (char "\\" ∷ c ∷ t)) (a, rest)
        (inr (
          allows,
          (
            escape (character (lead_unit x)),
            last.0,
            w,
            record { derived = (c ∷ t, refl, no_b, inl e); leaf = record { groups = refl; alone = refl; fine = refl; within = tt }; quantifiable = refl },
            last.1,
          ),
        ))
      where
        last : (b : TermBody) × IsOne table i m s v names u true b w rest
        last = subst (λ (u : Bool). (b : TermBody) × IsOne table i m s v names u true b w rest) (sym none) (trail_one table i m s v names x w rest trail)

    pub name_at_k : (t : Source) → (u || has_names names) ≡ true → escaped_by here (char "k") t ≡ name_reference_at here t
    name_at_k t e = rw e refl

    names_derived : (t : Source) → (u || has_names names) ≡ true → Each (IsAtom (char "\\" ∷ char "k" ∷ t)) (name_reference_at here t)
    names_derived t e =
        each_then P (group_name_at table t) _
        (λ x f. each_if P (has_name x.0 names) (Some (back_reference (flags table i m s v names u) (by_name_if_set x.0), x.1)) None
        (λ has. each_some P (back_reference (flags table i m s v names u) (by_name_if_set x.0), x.1)
        (one table i m s v names u true (escape (named x.0)) (char "\\" ∷ char "k" ∷ t) x.1
        (char "k" ∷ t, refl, refl, inr (e, (t, refl, group_name_accepted table u t x.1 x.0 f))) refl refl (ap not (specified_same x.0 names ∙ has)) tt refl))
        (λ _. each_none P))
      where
        P : Atom × Source → Type 0
        P = IsAtom (char "\\" ∷ char "k" ∷ t)

  lone_derived : (u : Bool) → (t : Source) → u ≡ false → begins_with_letter t ≡ false →
      Each (IsAtom u (char "\\" ∷ char "c" ∷ t)) (escaped_by (context table i m s v names u) (char "c") t)
  lone_derived true t e none = absurd (false≢true (sym e))
  lone_derived false t e none =
      subst (Each (IsAtom false (char "\\" ∷ char "c" ∷ t))) (sym found)
      (each_some (IsAtom false (char "\\" ∷ char "c" ∷ t)) (literal (flags table i m s v names false) (char "\\"), char "c" ∷ t)
      (one table i m s v names false true backslash (char "\\" ∷ char "c" ∷ t) (char "c" ∷ t)
      (refl, refl, refl, lone_has_no_escape table i m s v names t none) refl refl refl tt refl))
    where
      found : escaped_by (context table i m s v names false) (char "c") t ≡ Some (literal (flags table i m s v names false) (char "\\"), char "c" ∷ t)
      found = rw none refl

  module _ (u : Bool) (implied : v ≡ true → u ≡ true) where
    Derived_by : ℕ → Source → Type 0
    Derived_by c t = Each (IsAtom u (char "\\" ∷ c ∷ t)) (escaped_by (context table i m s v names u) c t)

    pub lone_parts : (c : ℕ) (t : Source) → is_lone_backslash u c t ≡ true → (c ≡ char "c") × (u ≡ false) × (begins_with_letter t ≡ false)
    lone_parts c t e = by (c == char "c") u (begins_with_letter t) refl refl refl e
      where
        by : (a b d : Bool) → (c == char "c") ≡ a → u ≡ b → begins_with_letter t ≡ d → (a && not b && not d) ≡ true →
            (c ≡ char "c") × (u ≡ false) × (begins_with_letter t ≡ false)
        by true false false p q r h = (eqb-true c (char "c") p, q, r)
        by true false true p q r h = absurd (false≢true h)
        by true true d p q r h = absurd (false≢true h)
        by false b d p q r h = absurd (false≢true h)

    escapes_derived : (c : ℕ) (t : Source) → Derived_by c t
    unfolding Derived_by
    escapes_derived c t =
        at_character (λ d. Derived_by d t) (char "b") c
        (each_some (IsAtom u (char "\\" ∷ char "b" ∷ t)) _ (one table i m s v names u false (boundary false)
        (char "\\" ∷ char "b" ∷ t) t refl refl refl refl tt refl))
        (λ small. at_character (λ d. Derived_by d t) (char "B") c
        (each_some (IsAtom u (char "\\" ∷ char "B" ∷ t)) _ (one table i m s v names u false (boundary true)
        (char "\\" ∷ char "B" ∷ t) t refl refl refl refl tt refl))
        (λ capital. by_case (is_lone_backslash u c t)
        (λ lone. let parts = lone_parts c t lone in
        subst (λ d. Derived_by d t) (sym parts.0) (lone_derived u t parts.1 parts.2))
        (λ lone. by_case (c == char "k" && (u || has_names names))
        (λ k. let both = and_parts (c == char "k") (u || has_names names) k in
        subst (λ d. Derived_by d t) (sym (eqb-true c (char "k") both.0))
        (subst (Each (IsAtom u (char "\\" ∷ char "k" ∷ t))) (sym (name_at_k u t both.1)) (names_derived u t both.1)))
        (λ k. from_alike u c t (both_ways c small capital) (escaped_by (context table i m s v names u) c t)
        (escapes_alike table i m s names u v implied c t (both_ways c small capital) lone k)))))

    -- literal characters
    from_character : (t : Source) → HasNoBraces table (mode table i m s v names u) t → (found : Found Atom) →
        IsCharacterOf table i m s v names u (plain_character table (mode table i m s v names u) t) found → Each (IsAtom u t) found
    from_character t no_braces None alike = each_none (IsAtom u t)
    from_character t no_braces (Some (a, rest)) (allows, inl (c, e)) =
        each_some (IsAtom u t) (a, rest) (one table i m s v names u (atom_allows Ecma a) (pattern_character c) t rest (e, no_braces) refl refl refl tt
        (sym allows))
    from_character t no_braces (Some (a, rest)) (allows, inr (none, (x, w, e, trail))) =
        each_some (IsAtom u t) (a, rest)
        (inr (
          allows,
          (
            pattern_character (lead_unit x),
            last.0,
            w,
            record { derived = (e, no_braces); leaf = record { groups = refl; alone = refl; fine = refl; within = tt }; quantifiable = refl },
            last.1,
          ),
        ))
      where
        last : (b : TermBody) × IsOne table i m s v names u true b w rest
        last = subst (λ (u : Bool). (b : TermBody) × IsOne table i m s v names u true b w rest) (sym none) (trail_one table i m s v names x w rest trail)

    characters_derived : (c : ℕ) (t : Source) → is_other c ≡ false → Each (IsAtom u (c ∷ t)) (atom_by (context table i m s v names u) c t)
    characters_derived c t plain = by (atom_by (context table i m s v names u) c t) refl
      where
        by : (found : Found Atom) → atom_by (context table i m s v names u) c t ≡ found → Each (IsAtom u (c ∷ t)) found
        by None e = each_none (IsAtom u (c ∷ t))
        by (Some x) e =
            let no_braces = found_without_braces table i m s v names u c t x e in
            from_character (c ∷ t) no_braces (Some x)
            (subst (IsCharacterOf table i m s v names u (plain_character table (mode table i m s v names u) (c ∷ t))) e
            (characters_alike table i m s v names u c t plain no_braces))

  -- classes
  classes_derived : HasPropertiesOfStrings table → (u : Bool) → (v ≡ true → u ≡ true) → (t : Source) → All IsCodePoint t →
      Each (IsAtom u (char "[" ∷ t)) (brackets_at (context table i m s v names u) t)
  classes_derived all u implied t points = by v implied
    where
      by : (v : Bool) → (v ≡ true → u ≡ true) →
          Each (λ x. AreDerived table i m s v names u (atom_allows Ecma x.0) (char "[" ∷ t) x.1) (brackets_at (context table i m s v names u) t)
      by true implied =
          each_then _ (class_set_at table (class_parameters (context table i m s true names u)) t) _
          (λ x e. let node = class_set_accepted table all (class_parameters (context table i m s true names u)) refl (implied refl) t x.1 x.0.0 x.0.1 e in
          each_some (λ x. AreDerived table i m s true names u (atom_allows Ecma x.0) (char "[" ∷ t) x.1)
          (class_set (flags table i m s true names u) x.0.0 x.0.1, x.1)
          (one table i m s true names u true (class node.0) (char "[" ∷ t) x.1 node.1 refl refl refl (λ _. node.2) refl))
      by false implied =
          each_then _ (class_at table (class_parameters (context table i m s false names u)) t) _
          (λ x e. let node = class_accepted table (class_parameters (context table i m s false names u)) refl t x.1 points x.0.0 x.0.1 e in
          each_some (λ x. AreDerived table i m s false names u (atom_allows Ecma x.0) (char "[" ∷ t) x.1)
          (class_atom (class_flags (context table i m s false names u)) x.0.0 (compared_members (context table i m s false names u) x.0.1), x.1)
          (one table i m s false names u true (class node.0) (char "[" ∷ t) x.1 node.1 refl refl refl (λ e. absurd (false≢true e)) refl))

  -- ---- any atom

  Atom_by : (u : Bool) → ℕ → Source → Type 0
  Atom_by u c t = Each (IsAtom u (c ∷ t)) (atom_by (context table i m s v names u) c t)

  pub atoms_derived : HasPropertiesOfStrings table → (u : Bool) → (v ≡ true → u ≡ true) → (c : ℕ) (t : Source) → (c == char "(") ≡ false →
      All IsCodePoint t → Each (IsAtom u (c ∷ t)) (atom_by (context table i m s v names u) c t)
  unfolding Atom_by Derived_by
  atoms_derived all u implied c t no_group points =
      at_character (λ d. Atom_by u d t) (char ".") c
      (each_some (IsAtom u (char "." ∷ t)) _ (one table i m s v names u true dot (char "." ∷ t) t refl refl refl refl tt refl))
      (λ f1. at_character (λ d. Atom_by u d t) (char "^") c
      (each_some (IsAtom u (char "^" ∷ t)) _ (one table i m s v names u false start (char "^" ∷ t) t refl refl refl refl tt refl))
      (λ f2. at_character (λ d. Atom_by u d t) (char "$") c
      (each_some (IsAtom u (char "$" ∷ t)) _ (one table i m s v names u false end (char "$" ∷ t) t refl refl refl refl tt refl))
      (λ f3. at_character (λ d. Atom_by u d t) (char "\\") c (escaped t)
      (λ f4. at_character (λ d. Atom_by u d t) (char "[") c (classes_derived all u implied t points)
      (λ f5. characters_derived u implied c t (none_other c f1 f2 f3 f4 f5 no_group))))))
    where
      escaped : (t : Source) → Each (IsAtom u (char "\\" ∷ t)) (escaped_at (context table i m s v names u) t)
      escaped [] = each_none (IsAtom u (char "\\" ∷ []))
      escaped (c ∷ t) = escapes_derived u implied c t
