-- The openings of groups that the parser finds are those that ECMA-262 derives.
use Rattle.std.proofs.Common.{◌≡◌, ℕ, ◌==◌, ◌⊎◌, inl, inr, Bool, true, false, not, ◌&&◌, ◌||◌, List, [], ◌∷◌, ◌++◌, length, drop, Option, Some, None, if◌then◌else◌, refl, sym, ap, subst, ◌∙◌, arith, append-nil}
use Rattle.std.specs.List.{list_any, list_all}
use Rattle.std.proofs.lemmas.Bool.{false≢true, and_parts}
use Rattle.std.proofs.lemmas.Bool.Decides.{nat_tests}
use Rattle.std.proofs.lemmas.List.Folds.{list_any-append}
use Rattle.regress_base.specs.Intervals.{is_member, is_within}
use Rattle.regress_base.specs.Table.{Table}
use Rattle.regress_tree.specs.Reading.{forwards, backwards}
use Rattle.regress_lexer.specs.Source.{Source, Found, ◌>>=◌, char, is_at, colon, question_mark}
use Rattle.regress_lexer.specs.Digits.{front, after}
use Rattle.regress_lexer.specs.Modifiers.{Change, is_modifier, is_in, are_different, change_by, letters_off, after_letters_off, modifiers_at}
use Rattle.regress_lexer.proofs.lemmas.Digits.{drop_one_more}
use Rattle.regress_syntax.specs.Names.{group_name_at}
use Rattle.regress_syntax.specs.Productions.{Context, Head, single, opens, named_group_at, angle_at, modified_at, after_question_mark_at, group_at, head_at}
use Rattle.regress_syntax.specs.Syntax.{Name, Group, grouping, modified, capture, look}
use Rattle.regress_ecma.specs.GroupNames.{HasIdentifiers}
use Rattle.regress_ecma.specs.Patterns.{Mode, is_flag, IsOpening, AreModifiers, occurs_in, repeats, is_empty, are_wrong_modifiers}
use Rattle.regress_ecma.proofs.AtomEscapeNodes.{context, mode}
use Rattle.regress_ecma.proofs.ClassDerivations.{front_is}
use Rattle.regress_ecma.proofs.ClassRangeNodes.{Each, each_none, each_some, each_if, each_then, each_at}
use Rattle.regress_ecma.proofs.EscapesWithU.{by_case}
use Rattle.regress_ecma.proofs.GroupNameNodes.{group_name_accepted, group_name_derived, name_begins_not}
use Rattle.regress_ecma.proofs.QuantifierNodes.{front_after, front_all, front_is_prefix}

-- ---- letters that occur more than once

different_same : (cs : List ℕ) → are_different cs ≡ not (repeats cs)
different_same [] = refl
different_same (c ∷ cs) = ap (λ (b : Bool). not (is_in c cs) && b) (different_same cs) ∙ by (is_in c cs) (repeats cs)
  where
    by : (a b : Bool) → (not a && not b) ≡ not (a || b)
    by true b = refl
    by false b = refl

repeats_both : (on off : List ℕ) → repeats (on ++ off) ≡ (repeats on || repeats off || list_any (occurs_in off) on)
repeats_both [] off = by (repeats off)
  where
    by : (b : Bool) → b ≡ (false || b || false)
    by true = refl
    by false = refl
repeats_both (c ∷ on) off =
    ap (λ (b : Bool). b || repeats (on ++ off)) (list_any-append (λ d. d == c) on off)
    ∙ ap (λ (b : Bool). (occurs_in on c || occurs_in off c) || b) (repeats_both on off)
    ∙ by (occurs_in on c) (occurs_in off c) (repeats on) (repeats off) (list_any (occurs_in off) on)
  where
    by : (a b d e f : Bool) → ((a || b) || (d || e || f)) ≡ ((a || d) || e || (b || f))
    by true b d e f = refl
    by false b true e f = by' b e f
      where
        by' : (b e f : Bool) → (b || true) ≡ true
        by' true e f = refl
        by' false e f = refl
    by false true false true f = refl
    by false true false false f = refl
    by false false false e f = refl

-- ---- from the parser

-- the letters, with what is after them
abbrev IsModified : Source → Source → Type 0
IsModified t rest =
    (on : List ℕ) × (off : Option (List ℕ)) × AreModifiers on off (char "(" ∷ char "?" ∷ t) rest × (are_wrong_modifiers on off ≡ false)

module _ (t : Source) where
  abbrev on_letters : List ℕ
  on_letters = front is_modifier t

  abbrev behind : Source
  behind = after is_modifier t

  not_true : (b : Bool) → not b ≡ true → b ≡ false
  not_true true e = absurd (false≢true e)
  not_true false e = refl

  without_hyphen : is_at (char "-") behind ≡ false → are_different (on_letters ++ letters_off behind) ≡ true →
      is_at colon (after_letters_off behind) ≡ true → IsModified t (drop 1 (after_letters_off behind))
  without_hyphen none different closes =
      (on_letters, None, (ap (λ (w : Source). char "(" ∷ char "?" ∷ w) shape, front_all is_modifier t), fine)
    where
      off_none : letters_off behind ≡ []
      off_none = ap (λ (b : Bool). if b then front is_modifier (drop 1 behind) else []) none

      after_none : after_letters_off behind ≡ behind
      after_none = ap (λ (b : Bool). if b then after is_modifier (drop 1 behind) else behind) none

      shape : t ≡ on_letters ++ colon ∷ drop 1 (after_letters_off behind)
      shape =
          front_after is_modifier t
          ∙ ap (λ (w : Source). on_letters ++ w) (sym after_none ∙ front_is colon (after_letters_off behind) closes)

      fine : repeats on_letters ≡ false
      fine =
          not_true (repeats on_letters) (sym (different_same on_letters)
          ∙ ap are_different (sym (ap (λ (w : List ℕ). on_letters ++ w) off_none ∙ append-nil on_letters)) ∙ different)

  with_hyphen : is_at (char "-") behind ≡ true → (length (on_letters ++ letters_off behind) == 0) ≡ false →
      are_different (on_letters ++ letters_off behind) ≡ true → is_at colon (after_letters_off behind) ≡ true → IsModified t (drop 1 (after_letters_off behind))
  with_hyphen hyphen some different closes =
      (on_letters, Some off, (ap (λ (w : Source). char "(" ∷ char "?" ∷ w) shape, front_all is_modifier t, front_all is_modifier (drop 1 behind)), fine)
    where
      off : List ℕ
      off = front is_modifier (drop 1 behind)

      off_is : letters_off behind ≡ off
      off_is = ap (λ (b : Bool). if b then front is_modifier (drop 1 behind) else []) hyphen

      after_is : after_letters_off behind ≡ after is_modifier (drop 1 behind)
      after_is = ap (λ (b : Bool). if b then after is_modifier (drop 1 behind) else behind) hyphen

      shape : t ≡ on_letters ++ char "-" ∷ (off ++ colon ∷ drop 1 (after_letters_off behind))
      shape =
          front_after is_modifier t
          ∙ ap (λ (w : Source). on_letters ++ w)
          (front_is (char "-") behind hyphen
          ∙ ap (λ (w : Source). char "-" ∷ w) (front_after is_modifier (drop 1 behind)
          ∙ ap (λ (w : Source). off ++ w) (sym after_is ∙ front_is colon (after_letters_off behind) closes)))

      no_repeat : (repeats on_letters || repeats off || list_any (occurs_in off) on_letters) ≡ false
      no_repeat =
          sym (repeats_both on_letters off)
          ∙ not_true (repeats (on_letters ++ off)) (sym (different_same (on_letters ++ off))
          ∙ ap (λ (w : List ℕ). are_different (on_letters ++ w)) (sym off_is) ∙ different)

      no_empty : (a b : List ℕ) → (length (a ++ b) == 0) ≡ false → (is_empty a && is_empty b) ≡ false
      no_empty [] b e = e
      no_empty (c ∷ a) b e = rw (suc_some a) refl
        where
          suc_some : (a : List ℕ) → (length (c ∷ a) == 0) ≡ false
          suc_some a = grind (arith, nat_tests)

      fine : (is_empty on_letters && is_empty off || repeats on_letters || repeats off || list_any (occurs_in off) on_letters) ≡ false
      fine = rw (no_empty on_letters off (ap (λ (w : List ℕ). length (on_letters ++ w) == 0) (sym off_is) ∙ some)) no_repeat

modifiers_derived : (t : Source) → Each (λ x. IsModified t x.1) (modifiers_at t)
unfolding modifiers_at
modifiers_derived t =
    each_if P _ (Some (change_by (front is_modifier t) (letters_off (after is_modifier t)), drop 1 (after_letters_off (after is_modifier t)))) None
    (λ e. each_some P _ (by e)) (λ _. each_none P)
  where
    P : Change × Source → Type 0
    P x = IsModified t x.1

    some : Bool
    some = not (length (front is_modifier t ++ letters_off (after is_modifier t)) == 0)

    different : Bool
    different = are_different (front is_modifier t ++ letters_off (after is_modifier t))

    by : (some && different && is_at colon (after_letters_off (after is_modifier t))) ≡ true → IsModified t (drop 1 (after_letters_off (after is_modifier t)))
    by e =
        let closed = and_parts (some && different) (is_at colon (after_letters_off (after is_modifier t))) e in
        let both = and_parts some different closed.0 in
        by_case (is_at (char "-") (after is_modifier t)) (λ hyphen. with_hyphen t hyphen
        (not_true t (length (front is_modifier t ++ letters_off (after is_modifier t)) == 0) both.0) both.1 closed.1)
        (λ none. without_hyphen t none both.1 closed.1)

module _ (table : Table) (mode : Mode) where
  -- the sign of a lookaround
  abbrev pub sign : (negated : Bool) → ℕ
  sign negated = if negated then char "!" else char "="

  -- What opens a group, in the source from its parenthesis on.
  abbrev pub IsOpenedBy : Group → (t rest : Source) → Type 0
  IsOpenedBy grouping t rest = AreModifiers [] None t rest
  IsOpenedBy (modified change) t rest =
      (on : List ℕ) × (off : Option (List ℕ)) × AreModifiers on off t rest × (are_wrong_modifiers on off ≡ false)
  IsOpenedBy (capture name) t rest = IsOpening table mode name t rest
  IsOpenedBy (look negated forwards) t rest = t ≡ char "(" ∷ char "?" ∷ sign negated ∷ rest
  IsOpenedBy (look negated backwards) t rest = t ≡ char "(" ∷ char "?" ∷ char "<" ∷ sign negated ∷ rest

  abbrev pub Opens : Source → Head × Source → Type 0
  Opens t (single a, rest) = ⊥
  Opens t (opens kind, rest) = IsOpenedBy kind t rest

module _ (table : Table) (mode : Mode) where
  -- after `(?`
  abbrev After : Source → Head × Source → Type 0
  After r = Opens table mode (char "(" ∷ char "?" ∷ r)

  abbrev opened : Source → Source
  opened w = char "(" ∷ char "?" ∷ w

  named_opened : (r : Source) → Each (After r) (named_group_at table r)
  named_opened r =
      each_then (After r) (group_name_at table r) _
      (λ x e. each_some (After r) (opens (capture (Some x.0)), x.1) (r, refl, group_name_accepted table mode.unicode r x.1 x.0 e))

  angles_opened : (r : Source) → is_at (char "<") r ≡ true → Each (After r) (angle_at table r)
  angles_opened r angle =
      each_if (After r) (is_at (char "=") (drop 1 r)) _ _
      (λ e. each_some (After r) (opens (look false backwards), drop 2 r) (behind (char "=") e))
      (λ _. each_if (After r) (is_at (char "!") (drop 1 r)) _ _
      (λ e. each_some (After r) (opens (look true backwards), drop 2 r) (behind (char "!") e)) (λ _. named_opened r))
    where
      behind : (k : ℕ) → is_at k (drop 1 r) ≡ true → opened r ≡ char "(" ∷ char "?" ∷ char "<" ∷ k ∷ drop 2 r
      behind k e =
          ap opened (front_is (char "<") r angle)
          ∙ ap (λ (w : Source). opened (char "<" ∷ w)) (front_is k (drop 1 r) e)
          ∙ ap (λ (w : Source). opened (char "<" ∷ k ∷ w)) (drop_one_more r)

  modified_opened : (r : Source) → Each (After r) (modified_at r)
  modified_opened r =
      each_then (After r) (modifiers_at r) _
      (λ x e. each_some (After r) (opens (modified x.0), x.1) (each_at _ _ (modifiers_derived r) x e))

  questions_opened : (r : Source) → Each (After r) (after_question_mark_at table r)
  questions_opened r =
      each_if (After r) (is_at colon r) _ _
      (λ e. each_some (After r) (opens grouping, drop 1 r) (ap opened (front_is colon r e), refl))
      (λ _. each_if (After r) (is_at (char "=") r) _ _
      (λ e. each_some (After r) (opens (look false forwards), drop 1 r) (ap opened (front_is (char "=") r e)))
      (λ _. each_if (After r) (is_at (char "!") r) _ _
      (λ e. each_some (After r) (opens (look true forwards), drop 1 r) (ap opened (front_is (char "!") r e)))
      (λ _. each_if (After r) (is_at (char "<") r) _ _ (angles_opened r) (λ _. modified_opened r))))

  pub groups_opened : (t : Source) → Each (Opens table mode (char "(" ∷ t)) (group_at table t)
  groups_opened t =
      each_if (Opens table mode (char "(" ∷ t)) (is_at question_mark t) _ _
      (λ e. subst (λ (w : Source). Each (Opens table mode (char "(" ∷ w)) (after_question_mark_at table (drop 1 t))) (sym (front_is question_mark t e))
      (questions_opened (drop 1 t)))
      (λ _. each_some (Opens table mode (char "(" ∷ t)) (opens (capture None), t) refl)

-- ---- to the parser

no_sign : (c : ℕ) → is_flag c ≡ true → ((c == char ":") ≡ false) × ((c == char "=") ≡ false) × ((c == char "!") ≡ false) × ((c == char "<") ≡ false)
no_sign c e = (no_colon c e, no_equals c e, no_negation c e, no_angle c e)
  where
    no_colon : (c : ℕ) → is_flag c ≡ true → (c == char ":") ≡ false
    no_colon c e = grind (arith, nat_tests, e)

    no_equals : (c : ℕ) → is_flag c ≡ true → (c == char "=") ≡ false
    no_equals c e = grind (arith, nat_tests, e)

    no_negation : (c : ℕ) → is_flag c ≡ true → (c == char "!") ≡ false
    no_negation c e = grind (arith, nat_tests, e)

    no_angle : (c : ℕ) → is_flag c ≡ true → (c == char "<") ≡ false
    no_angle c e = grind (arith, nat_tests, e)

some_letter : (c : ℕ) (cs : List ℕ) → (length (c ∷ cs) == 0) ≡ false
some_letter c cs = grind (arith, nat_tests)

-- modifiers without and with a hyphen
without_off : (c : ℕ) (on : List ℕ) (rest : Source) → list_all is_flag (c ∷ on) ≡ true → repeats (c ∷ on) ≡ false →
    modifiers_at ((c ∷ on) ++ char ":" ∷ rest) ≡ Some (change_by (c ∷ on) [], rest)
unfolding modifiers_at
without_off c on rest letters once =
    let found = front_is_prefix is_modifier (c ∷ on) (char ":" ∷ rest) letters refl in
    let once' : are_different (c ∷ on) ≡ true = different_same (c ∷ on) ∙ ap not once in
    rw (found.0, found.1, append-nil on, some_letter c on, once') refl

with_off : (on off : List ℕ) (rest : Source) → list_all is_flag on ≡ true → list_all is_flag off ≡ true → are_wrong_modifiers on (Some off) ≡ false →
    modifiers_at (on ++ char "-" ∷ (off ++ char ":" ∷ rest)) ≡ Some (change_by on off, rest)
unfolding modifiers_at
with_off on off rest letters letters' fine =
    let found = front_is_prefix is_modifier on (char "-" ∷ (off ++ char ":" ∷ rest)) letters refl in
    let found' = front_is_prefix is_modifier off (char ":" ∷ rest) letters' refl in
    rw (found.0, found.1, found'.0, found'.1, some on off (parts.0), different_same (on ++ off), repeats_both on off, parts.1) refl
  where
    regroup : (a b c d : Bool) → (a || b || c || d) ≡ false → (a ≡ false) × ((b || c || d) ≡ false)
    regroup false b c d e = (refl, e)
    regroup true b c d e = absurd (false≢true (sym e))

    parts : ((is_empty on && is_empty off) ≡ false) × ((repeats on || repeats off || list_any (occurs_in off) on) ≡ false)
    parts = regroup (is_empty on && is_empty off) (repeats on) (repeats off) (list_any (occurs_in off) on) fine

    some : (a b : List ℕ) → (is_empty a && is_empty b) ≡ false → (length (a ++ b) == 0) ≡ false
    some [] b e = e
    some (c ∷ a) b e = some_letter c (a ++ b)

module _ (table : Table) (i m s v : Bool) (names : List (Option Name)) (u : Bool) where
  abbrev own : Context
  own = context table i m s v names u

  -- The parser finds the opening of such a group.
  abbrev pub Finds : Group → (t rest : Source) → Type 0
  Finds kind t rest = head_at own t ≡ Some (opens kind, rest)

  look_found : (negated : Bool) (u' : Source) → Finds (look negated forwards) (char "(" ∷ char "?" ∷ (if negated then char "!" else char "=") ∷ u') u'
  unfolding head_at
  look_found true u' = refl
  look_found false u' = refl

  pub lookahead_found : (negated : Bool) (t rest : Source) → t ≡ char "(" ∷ char "?" ∷ (if negated then char "!" else char "=") ∷ rest →
      Finds (look negated forwards) t rest
  lookahead_found negated t rest e = ap (head_at own) e ∙ look_found negated rest

  behind_found : (negated : Bool) (w : Source) →
      Finds (look negated backwards) (char "(" ∷ char "?" ∷ char "<" ∷ (if negated then char "!" else char "=") ∷ w) w
  unfolding head_at
  behind_found true w = refl
  behind_found false w = refl

  pub lookbehind_found : (negated : Bool) (t rest : Source) → t ≡ char "(" ∷ char "?" ∷ char "<" ∷ (if negated then char "!" else char "=") ∷ rest →
      Finds (look negated backwards) t rest
  lookbehind_found negated t rest e = ap (head_at own) e ∙ behind_found negated rest

  -- ---- captures

  unnamed : (w : Source) → is_at (char "?") w ≡ false → Finds (capture None) (char "(" ∷ w) w
  unfolding head_at
  unnamed w e = rw e refl

  angle : HasIdentifiers table → (name : Name) (w rest : Source) → is_at (char "=") w ≡ false → is_at (char "!") w ≡ false →
      group_name_at table (char "<" ∷ w) ≡ Some (name, rest) → Finds (capture (Some name)) (char "(" ∷ char "?" ∷ char "<" ∷ w) rest
  unfolding head_at
  angle proper name w rest equals negates found =
      ap (λ (b : Bool). found_map' (if b then Some (opens (look false backwards), drop 1 w)
      else (if is_at (char "!") w then Some (opens (look true backwards), drop 1 w) else named_group_at table (char "<" ∷ w)))) equals
      ∙ ap (λ (b : Bool). found_map' (if b then Some (opens (look true backwards), drop 1 w) else named_group_at table (char "<" ∷ w))) negates
      ∙ ap (λ (o : Found Name). o >>= λ (name, rest). Some (opens (capture (Some name)), rest)) found
    where
      found_map' : Found Head → Found Head
      found_map' x = x

  pub capture_found : HasIdentifiers table → (name : Option Name) (t rest : Source) → IsOpening table (mode table i m s v names u) name t rest →
      is_at (char "?") rest ≡ false → Finds (capture name) t rest
  unfolding is_member is_within
  capture_found proper None t rest e no_question = ap (head_at own) e ∙ unnamed rest no_question
  capture_found proper (Some name) t rest (r, e, (w, f, h)) no_question =
      ap (head_at own) (e ∙ ap (λ (x : Source). char "(" ∷ char "?" ∷ x) f)
      ∙ angle proper name w rest
      (name_begins_not table u proper (char "=") (omega arith) refl refl refl name w (char ">" ∷ rest) h)
      (name_begins_not table u proper (char "!") (omega arith) refl refl refl name w (char ">" ∷ rest) h)
      (group_name_derived table u proper name (char "<" ∷ w) rest (w, refl, h))

  -- ---- modifiers

  -- A group without a name, that opens no capture group.
  abbrev pub IsUnnamed : (t rest : Source) → Type 0
  IsUnnamed t rest = ((change : Change) × Finds (modified change) t rest) ⊎ Finds grouping t rest

  changes : (c : ℕ) (w : Source) (change : Change) (rest : Source) → (c == char ":") ≡ false → (c == char "=") ≡ false → (c == char "!") ≡ false →
      (c == char "<") ≡ false → modifiers_at (c ∷ w) ≡ Some (change, rest) → Finds (modified change) (char "(" ∷ char "?" ∷ c ∷ w) rest
  unfolding head_at
  changes c w change rest a b d e found = rw (a, b, d, e, found) refl

  pub modified_found : (on : List ℕ) (off : Option (List ℕ)) (t rest : Source) → AreModifiers on off t rest → are_wrong_modifiers on off ≡ false →
      IsUnnamed t rest
  unfolding head_at
  modified_found [] None t rest (e, letters) fine = inr (ap (head_at own) e)
  modified_found (c ∷ on) None t rest (e, letters) fine =
      let signs = no_sign c (and_parts (is_flag c) (list_all is_flag on) letters).0 in
      inl (
        change_by (c ∷ on) [],
        ap (head_at own) e ∙ changes c (on ++ char ":" ∷ rest) (change_by (c ∷ on) []) rest signs.0 signs.1 signs.2 signs.3
            (without_off c on rest letters fine),
      )
  modified_found [] (Some off) t rest (e, letters, letters') fine =
      inl (
        change_by [] off,
        ap (head_at own) e ∙ changes (char "-") (off ++ char ":" ∷ rest) (change_by [] off) rest refl refl refl refl
            (with_off [] off rest refl letters' fine),
      )
  modified_found (c ∷ on) (Some off) t rest (e, letters, letters') fine =
      let signs = no_sign c (and_parts (is_flag c) (list_all is_flag on) letters).0 in
      inl (
        change_by (c ∷ on) off,
        ap (head_at own) e ∙ changes c (on ++ char "-" ∷ (off ++ char ":" ∷ rest)) (change_by (c ∷ on) off) rest
            signs.0 signs.1 signs.2 signs.3 (with_off (c ∷ on) off rest letters letters' fine),
      )
