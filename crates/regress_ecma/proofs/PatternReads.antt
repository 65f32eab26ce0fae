-- The terms without groups that ECMA-262 derives are the atoms that the parser finds.
use Rattle.std.proofs.Common.{◌≡◌, ℕ, zero, suc, ◌==◌, ◌<◌, ◌⊎◌, inl, inr, Bool, true, false, not, ◌&&◌, ◌||◌, List, [], ◌∷◌, length, take, drop, Option, Some, None, if◌then◌else◌, refl, sym, ap, subst, ◌∙◌, arith, eqb-true}
use Rattle.std.specs.List.{All, list_all}
use Rattle.std.proofs.lemmas.Bool.{false≢true, and_parts}
use Rattle.std.proofs.lemmas.Bool.Decides.{nat_tests}
use Rattle.std.proofs.lemmas.List.Elements.{All-cons, All-tail}
use Rattle.std.proofs.lemmas.Option.{none-some, same_Some}
use Rattle.regress_base.specs.Intervals.{Bounds}
use Rattle.regress_base.specs.Limits.{max_nesting_depth}
use Rattle.regress_base.specs.Table.{Table}
use Rattle.regress_lexer.specs.declared.dialect.Dialect.TheVariants.{Ecma}
use Rattle.regress_lexer.specs.Source.{Source, Found, ◌>>=◌, found_map, IsCodePoint, char, is_at, is_one_of, is_plain}
use Rattle.regress_lexer.specs.Digits.{hex_at, is_between, is_hex, number}
use Rattle.regress_lexer.specs.Escapes.{begins_with_letter, unicode_at, escape_at}
use Rattle.regress_classes.specs.ClassSets.{Value}
use Rattle.regress_syntax.specs.Productions.{Context, class_parameters, class_flags, compared_members, single, atom_allows, has_names, has_name, is_lone_backslash, escaped_by, escaped_at, brackets_at, atom_by, head_at}
use Rattle.regress_syntax.specs.Syntax.{Name, Atom, literal, class as class_atom, class_set, back_reference, by_name_if_set}
use Rattle.regress_syntax.proofs.lemmas.Plain.{plain_head}
use Rattle.regress_ecma.specs.CharacterEscapes.{is_before, lead_unit, trail_unit, is_trail}
use Rattle.regress_ecma.specs.ClassNodes.{CharacterClass}
use Rattle.regress_ecma.specs.ClassRanges.{IsAcceptedClass}
use Rattle.regress_ecma.specs.ClassSetExpressions.{depth, IsAcceptedClassSet, IsOpened}
use Rattle.regress_ecma.specs.GroupNames.{IsGroupName, HasIdentifiers}
use Rattle.regress_ecma.specs.PatternNodes.{AtomEscape, decimal, character_class, character, named, is_specified}
use Rattle.regress_ecma.specs.Patterns.{Mode, atom_escape, IsAtomEscape, plain_character, HasNoBraces, HasNoEscape, IsClass, is_wrong_escape}
use Rattle.regress_ecma.proofs.AcceptedClasses.{class_derived}
use Rattle.regress_ecma.proofs.DerivedClassSets.{class_set_derived}
use Rattle.regress_ecma.proofs.AtomEscapeNodes.{flags, context, mode, IsEscapeOf, escapes_alike}
use Rattle.regress_ecma.proofs.EscapesWithU.{at_character, by_case, no_hex}
use Rattle.regress_ecma.proofs.EscapesWithoutU.{HasTrail, is_trail_unit}
use Rattle.regress_ecma.proofs.GroupNameNodes.{group_name_derived}
use Rattle.regress_ecma.proofs.PatternAtoms.{specified_same, escaped_inverse, no_control, no_k, no_escape_at_end, name_escape_at, lone_parts, name_at_k}
use Rattle.regress_ecma.proofs.PatternCharacters.{IsCharacterOf, is_other, characters_alike, none_other}

module _ (table : Table) (i m s v : Bool) (names : List (Option Name)) where
  -- The parser finds an atom that leaves the same source, or a character of which the trail surrogate remains.
  abbrev pub Reads : (u allowed : Bool) → (t rest : Source) → Type 0
  Reads u allowed t rest =
      ((a : Atom) × (head_at (context table i m s v names u) t ≡ Some (single a, rest)) × (atom_allows Ecma a ≡ allowed))
      ⊎ (u ≡ false)
      × ((a : Atom) × (c : ℕ) × (w : Source) × (head_at (context table i m s v names u) t ≡ Some (single a, w)) × (atom_allows Ecma a ≡ true)
      × HasTrail c rest w)

  abbrev own : Bool → Context
  own u = context table i m s v names u

  abbrev own_mode : Bool → Mode
  own_mode u = mode table i m s v names u

  backslash_head : (u : Bool) (t : Source) (x : Atom × Source) → escaped_at (own u) t ≡ Some x → head_at (own u) (char "\\" ∷ t) ≡ Some (single x.0, x.1)
  unfolding head_at
  backslash_head u t x e = ap (found_map single) e

  -- ---- escapes

  read_escape : (u : Bool) (c : ℕ) (t w : Source) (node : AtomEscape) → atom_escape table (own_mode u) (c ∷ t) ≡ Some (node, w) →
      is_wrong_escape names node ≡ false → (found : Found Atom) → escaped_by (own u) c t ≡ found →
      IsEscapeOf table i m s v names u (atom_escape table (own_mode u) (c ∷ t)) found → Reads u true (char "\\" ∷ c ∷ t) w
  read_escape u c t w node e fine None f (inl none) = absurd (none-some (node, w) (sym none ∙ e))
  read_escape u c t w node e fine None f (inr (n, r, e', many)) =
      absurd (false≢true (sym fine ∙ ap (λ (x : AtomEscape × Source). is_wrong_escape names x.0)
      (sym (same_Some (decimal n, r) (node, w) (sym e' ∙ e))) ∙ ap not many))
  read_escape u c t w node e fine (Some (a, rest)) f (allows, inl (node', e', fine')) =
      inl (
        a,
        backslash_head u (c ∷ t) (a, rest) f
            ∙ ap (λ (x : AtomEscape × Source). Some (single a, x.1)) (same_Some (node', rest) (node, w) (sym e' ∙ e)),
        allows,
      )
  read_escape u c t w node e fine (Some (a, rest)) f (allows, inr (none, (x, w', e', trail))) =
      inr (
        none,
        (
          a,
          x,
          rest,
          backslash_head u (c ∷ t) (a, rest) f,
          allows,
          subst (λ (y : AtomEscape × Source). HasTrail x y.1 rest) (same_Some (character (lead_unit x), w') (node, w) (sym e' ∙ e)) trail,
        ),
      )

  named_read : HasIdentifiers table → (u : Bool) (name : List ℕ) (c : ℕ) (t w : Source) → (u || has_names names) ≡ true →
      (x : Source) × (c ∷ t ≡ char "k" ∷ x) × IsGroupName table u name x w → is_specified name names ≡ true → Reads u true (char "\\" ∷ c ∷ t) w
  named_read proper u name c t w ok (x, e, h) has =
      inl (
        back_reference (flags table i m s v names u) (by_name_if_set name),
        ap (λ (y : Source). head_at (own u) (char "\\" ∷ y)) e
            ∙ backslash_head u (char "k" ∷ x) (back_reference (flags table i m s v names u) (by_name_if_set name), w)
            (name_at_k table i m s v names u x ok
            ∙ ap (λ (o : Found Name). o >>= λ (name, rest). if has_name name names then Some (back_reference (flags table i m s v names u) (by_name_if_set name), rest) else None)
            (group_name_derived table u proper name x w h)
            ∙ ap (λ (b : Bool). if b then Some (back_reference (flags table i m s v names u) (by_name_if_set name), w) else None) (sym (specified_same name names) ∙ has)),
        refl,
      )

  not_false : (b : Bool) → not b ≡ false → b ≡ true
  not_false true e = refl
  not_false false e = sym e

  name_read : HasIdentifiers table → (u : Bool) (node : AtomEscape) (c : ℕ) (t w : Source) →
      Rattle.regress_ecma.specs.Patterns.IsNameEscape table (own_mode u) node (c ∷ t) w → is_wrong_escape names node ≡ false →
      Reads u true (char "\\" ∷ c ∷ t) w
  name_read proper u (decimal n) c t w h fine = absurd h
  name_read proper u (character_class node) c t w h fine = absurd h
  name_read proper u (character value) c t w h fine = absurd h
  name_read proper u (named name) c t w (ok, h) fine = named_read proper u name c t w ok h (not_false (is_specified name names) fine)

  pub escape_read : HasIdentifiers table → (u : Bool) → (v ≡ true → u ≡ true) → (node : AtomEscape) (t w : Source) →
      is_before (is_one_of "bB") t ≡ false → IsAtomEscape table (own_mode u) node t w → is_wrong_escape names node ≡ false →
      Reads u true (char "\\" ∷ t) w
  escape_read proper u implied node [] w no_b (inl e) fine = absurd (none-some (node, w) (sym (no_escape_at_end table i m s v names u) ∙ e))
  escape_read proper u implied node [] w no_b (inr h) fine = absurd (false≢true (name_escape_at table i m s v names u node [] w h).0)
  escape_read proper u implied node (c ∷ t) w no_b (inr h) fine = name_read proper u node c t w h fine
  escape_read proper u implied node (c ∷ t) w no_b (inl e) fine =
      by_case (c == char "k" && (u || has_names names))
      (λ k. let both = and_parts (c == char "k") (u || has_names names) k in
      absurd (none-some (node, w) (sym (ap (λ (d : ℕ). atom_escape table (own_mode u) (d ∷ t))
      (eqb-true c (char "k") both.0) ∙ no_k table i m s v names u t both.1) ∙ e)))
      (λ k. by_case (is_lone_backslash u c t)
      (λ lone. let parts = lone_parts table i m s v names u implied c t lone in
      absurd (none-some (node, w) (sym (ap (λ (d : ℕ). atom_escape table (own_mode u) (d ∷ t)) parts.0
      ∙ ap (λ (b : Bool). atom_escape table (own_mode b) (char "c" ∷ t)) parts.1 ∙ no_control table i m s v names t parts.2) ∙ e)))
      (λ lone. read_escape u c t w node e fine (escaped_by (own u) c t) refl (escapes_alike table i m s names u v implied c t no_b lone k)))

  -- `\` before a `c` that begins no escape
  pub backslash_read : (u : Bool) (t w : Source) → u ≡ false → t ≡ char "\\" ∷ w → is_at (char "c") w ≡ true → HasNoEscape table (own_mode u) w →
      Reads u true t w
  backslash_read u t [] none e at h = absurd (false≢true at)
  backslash_read true t (c ∷ w) none e at h = absurd (false≢true (sym none))
  backslash_read false t (c ∷ w) none e at h =
      at_k c (eqb-true c (char "c") at) e h
    where
      no_letter : (w : Source) → HasNoEscape table (own_mode false) (char "c" ∷ w) → begins_with_letter w ≡ false
      no_letter [] h = refl
      no_letter (d ∷ w) h = by_case (begins_with_letter (d ∷ w)) (λ letter. absurd
          (h (character (Rattle.regress_lexer.specs.Digits.control d)) w (inl (rw letter refl)))) (λ e. e)

      found : (w : Source) → begins_with_letter w ≡ false → head_at (own false) (char "\\" ∷ char "c" ∷ w)
          ≡ Some (single (literal (flags table i m s v names false) (char "\\")), char "c" ∷ w)
      found w e = backslash_head false (char "c" ∷ w) (literal (flags table i m s v names false) (char "\\"), char "c" ∷ w) (rw e refl)

      at_k : (c : ℕ) → c ≡ char "c" → t ≡ char "\\" ∷ c ∷ w → HasNoEscape table (own_mode false) (c ∷ w) → Reads false true t (c ∷ w)
      at_k c same e h =
          let h' = subst (λ (d : ℕ). HasNoEscape table (own_mode false) (d ∷ w)) same h in
          inl (
            literal (flags table i m s v names false) (char "\\"),
            ap (head_at (own false)) (e ∙ ap (λ (d : ℕ). char "\\" ∷ d ∷ w) same) ∙ found w (no_letter w h')
                ∙ ap (λ (d : ℕ). Some (single (literal (flags table i m s v names false) (char "\\")), d ∷ w)) (sym same),
            refl,
          )

  -- ---- characters

  nothing_at_end : (u : Bool) → plain_character table (own_mode u) [] ≡ None
  nothing_at_end true = refl
  nothing_at_end false = refl

  no_other : (u : Bool) (c : ℕ) (t : Source) → is_other c ≡ true → plain_character table (own_mode u) (c ∷ t) ≡ None
  no_other true c t e =
      at_character P (char ".") c (λ _. refl)
      (λ f1. at_character P (char "^") c (λ _. refl)
      (λ f2. at_character P (char "$") c (λ _. refl)
      (λ f3. at_character P (char "\\") c (λ _. refl)
      (λ f4. at_character P (char "[") c (λ _. refl)
      (λ f5. at_character P (char "(") c (λ _. refl)
      (λ f6. λ o. absurd (false≢true (sym (none_other c f1 f2 f3 f4 f5 f6) ∙ o)))))))) e
    where
      P : ℕ → Type 0
      P d = is_other d ≡ true → plain_character table (own_mode true) (d ∷ t) ≡ None
  no_other false c t e =
      at_character P (char ".") c (λ _. refl)
      (λ f1. at_character P (char "^") c (λ _. refl)
      (λ f2. at_character P (char "$") c (λ _. refl)
      (λ f3. at_character P (char "\\") c (λ _. refl)
      (λ f4. at_character P (char "[") c (λ _. refl)
      (λ f5. at_character P (char "(") c (λ _. refl)
      (λ f6. λ o. absurd (false≢true (sym (none_other c f1 f2 f3 f4 f5 f6) ∙ o)))))))) e
    where
      P : ℕ → Type 0
      P d = is_other d ≡ true → plain_character table (own_mode false) (d ∷ t) ≡ None

  pub character_read : (u : Bool) (x : ℕ) (t w : Source) → plain_character table (own_mode u) t ≡ Some (x, w) → HasNoBraces table (own_mode u) t →
      Reads u true t w
  unfolding head_at
  character_read u x [] w e no_braces = absurd (none-some (x, w) (sym (nothing_at_end u) ∙ e))
  character_read u x (c ∷ t) w e no_braces =
      by_case (is_other c) (λ other. absurd (none-some (x, w) (sym (no_other u c t other) ∙ e)))
      (λ plain. by (atom_by (own u) c t) refl (characters_alike table i m s v names u c t plain no_braces) (no_group c plain))
    where
      no_group : (c : ℕ) → is_other c ≡ false → (c == char "(") ≡ false
      no_group c plain = grind (arith, nat_tests, plain)

      headed : (c == char "(") ≡ false → (y : Atom × Source) → atom_by (own u) c t ≡ Some y → head_at (own u) (c ∷ t) ≡ Some (single y.0, y.1)
      headed group y f = rw (group, f) refl

      by : (found : Found Atom) → atom_by (own u) c t ≡ found → IsCharacterOf table i m s v names u (plain_character table (own_mode u) (c ∷ t)) found →
          (c == char "(") ≡ false → Reads u true (c ∷ t) w
      by None f alike group = absurd (none-some (x, w) (sym alike ∙ e))
      by (Some (a, rest)) f (allows, inl (x', e')) group =
          inl (a, headed group (a, rest) f ∙ ap (λ (y : ℕ × Source). Some (single a, y.1)) (same_Some (x', rest) (x, w) (sym e' ∙ e)), allows)
      by (Some (a, rest)) f (allows, inr (none, (x', w', e', trail))) group =
          inr (
            none,
            (
              a,
              x',
              rest,
              headed group (a, rest) f,
              allows,
              subst (λ (y : ℕ × Source). HasTrail x' y.1 rest) (same_Some (lead_unit x', w') (x, w) (sym e' ∙ e)) trail,
            ),
          )

-- ---- classes

module _ (table : Table) (i m s : Bool) (names : List (Option Name)) where
  bracket_head : (v u : Bool) (t : Source) (x : Atom × Source) → brackets_at (context table i m s v names u) t ≡ Some x →
      head_at (context table i m s v names u) (char "[" ∷ t) ≡ Some (single x.0, x.1)
  unfolding head_at
  bracket_head v u t x e = ap (found_map single) e

  opened_at : (b : Bool) (t r : Source) → IsOpened table (has_names names) b t r → (x : Source) × (t ≡ char "[" ∷ x)
  opened_at true t r e = (char "^" ∷ r, e)
  opened_at false t r (e, none) = (r, e)

  opened_class : (node : CharacterClass) (u : Bool) (t w : Source) → IsAcceptedClass table u (has_names names) node t w → (x : Source) × (t ≡ char "[" ∷ x)
  opened_class node u t w ((r, inl (e, none, plain), h), fine) = (r, e)
  opened_class node u t w ((r, inr (e, inverted), h), fine) = (char "^" ∷ r, e)

  pub class_read : (v u : Bool) → (v ≡ true → u ≡ true) → (node : CharacterClass) (t w : Source) → All IsCodePoint t →
      IsClass table (mode table i m s v names u) node t w → (v ≡ true → depth node.contents < max_nesting_depth) → Reads table i m s v names u true t w
  class_read true u implied node t w points h few =
      let opened = opened_at node.invert t h.0.0 h.0.1 in
      let found = class_set_derived table (class_parameters (context table i m s true names u)) refl (implied refl) opened.0 w node
      (subst (λ (x : Source). IsAcceptedClassSet table (has_names names) node x w) opened.1 h) (few refl) in
      inl (
        class_set (flags table i m s true names u) node.invert found.1.0,
        ap (head_at (context table i m s true names u)) opened.1
            ∙ bracket_head true u opened.0 (class_set (flags table i m s true names u) node.invert found.1.0, w)
            (ap (found_map (λ (x : Bool × Value). class_set (flags table i m s true names u) x.0 x.1)) found.1.1),
        refl,
      )
  class_read false u implied node t w points h few =
      let opened = opened_class node u t w h in
      let points' : All IsCodePoint opened.0 = All-tail IsCodePoint (char "[") opened.0 (subst (All IsCodePoint) opened.1 points) in
      let found = class_derived table (class_parameters (context table i m s false names u)) refl opened.0 w points' node
      (subst (λ (x : Source). IsAcceptedClass table u (has_names names) node x w) opened.1 h) in
      inl (
        class_atom (class_flags (context table i m s false names u)) node.invert (compared_members (context table i m s false names u) found.1.0),
        ap (head_at (context table i m s false names u)) opened.1
            ∙ bracket_head false u opened.0
            (class_atom (class_flags (context table i m s false names u)) node.invert (compared_members (context table i m s false names u) found.1.0), w)
            (ap (found_map (λ (x : Bool × List Bounds).
            class_atom (class_flags (context table i m s false names u)) x.0 (compared_members (context table i m s false names u) x.1))) found.1.1),
        refl,
      )

-- ---- trail surrogates

plain_trail : (d : ℕ) → is_trail d ≡ true → is_plain d ≡ true
plain_trail d e = grind (arith, nat_tests, e)

no_lead : (d : ℕ) → is_trail d ≡ true → is_between 0xD800 0xDBFF d ≡ false
no_lead d e = grind (arith, nat_tests, e)

trail_small : (c : ℕ) → IsCodePoint (trail_unit c)
trail_small c = omega arith

hex_small : (c : ℕ) → is_hex c ≡ true → IsCodePoint c
hex_small c e = grind (arith, nat_tests, e)

no_brace : (x : Source) (y : ℕ × Source) → hex_at 4 x ≡ Some y → is_at (char "{") x ≡ false
no_brace [] y e = refl
no_brace (c ∷ x) y e =
    by_case (c == char "{") (λ hit. absurd (none-some y (sym (no_hex x) ∙ ap (λ (d : ℕ). hex_at 4 (d ∷ x)) (sym (eqb-true c (char "{") hit)) ∙ e)))
    (λ miss. miss)

points_before : (n : ℕ) (x : Source) → list_all is_hex (take n x) ≡ true → All IsCodePoint (drop n x) → All IsCodePoint x
points_before zero x hex points = points
points_before (suc n) [] hex points = points
points_before (suc n) (c ∷ x) hex points =
    let both = and_parts (is_hex c) (list_all is_hex (take n x)) hex in
    All-cons IsCodePoint c x (hex_small c both.0) (points_before n x both.1 points)

hex_points : (x : Source) (d : ℕ) (rest : Source) → hex_at 4 x ≡ Some (d, rest) → All IsCodePoint rest → All IsCodePoint x
hex_points x d rest e points = by (length (take 4 x) == 4 && list_all is_hex (take 4 x)) refl e
  where
    by : (b : Bool) → (length (take 4 x) == 4 && list_all is_hex (take 4 x)) ≡ b →
        if◌then◌else◌ {A = Found ℕ} b (Some (number 16 (take 4 x), drop 4 x)) None ≡ Some (d, rest) → All IsCodePoint x
    by true f g =
        points_before 4 x (and_parts (length (take 4 x) == 4) (list_all is_hex (take 4 x)) f).1
        (subst (All IsCodePoint) (ap (λ (y : ℕ × Source). y.1) (sym (same_Some (number 16 (take 4 x), drop 4 x) (d, rest) g))) points)
    by false f g = absurd (none-some (d, rest) g)

module _ (table : Table) (i m s v : Bool) (names : List (Option Name)) where
  escaped_trail_at : (x : Source) (d : ℕ) (rest : Source) → is_trail d ≡ true → hex_at 4 x ≡ Some (d, rest) →
      escaped_at (context table i m s v names false) (char "u" ∷ x) ≡ Some (literal (flags table i m s v names false) d, rest)
  unfolding escape_at unicode_at
  escaped_trail_at x d rest is_trail e = rw (no_brace x (d, rest) e, e, no_lead d is_trail) refl

  pub trail_read : (c : ℕ) (t rest : Source) → HasTrail c t rest →
      (a : Atom) × (head_at (context table i m s v names false) t ≡ Some (single a, rest)) × (atom_allows Ecma a ≡ true)
  trail_read c t rest (inl e) = (
    literal (flags table i m s v names false) (trail_unit c),
    ap (head_at (context table i m s v names false)) e
        ∙ plain_head (context table i m s v names false) (trail_unit c) rest (plain_trail (trail_unit c) (is_trail_unit c)),
    refl,
  )
  trail_read c t rest (inr e) =
      let found = escaped_inverse (trail_unit c) t rest e in (
        literal (flags table i m s v names false) (trail_unit c),
        ap (head_at (context table i m s v names false)) found.1
            ∙ backslash_head table i m s v names false (char "u" ∷ found.0) (literal (flags table i m s v names false) (trail_unit c), rest)
            (escaped_trail_at found.0 (trail_unit c) rest (is_trail_unit c) found.2),
        refl,
      )

pub trail_points : (c : ℕ) (t rest : Source) → HasTrail c t rest → All IsCodePoint rest → All IsCodePoint t
trail_points c t rest (inl e) points = subst (All IsCodePoint) (sym e) (All-cons IsCodePoint (trail_unit c) rest (trail_small c) points)
trail_points c t rest (inr e) points =
    let found = escaped_inverse (trail_unit c) t rest e in
    subst (All IsCodePoint) (sym found.1)
    (All-cons IsCodePoint (char "\\") (char "u" ∷ found.0) (omega arith)
    (All-cons IsCodePoint (char "u") found.0 (omega arith) (hex_points found.0 (trail_unit c) rest found.2 points)))
