-- Sets of characters with the flag i, where both agree.
use Rattle.std.proofs.Common.{◌≡◌, ℕ, ◌<◌, ◌≤◌, ◌==◌, Bool, true, false, not, ◌&&◌, ◌||◌, [], ◌∷◌, ◌++◌, if◌then◌else◌, refl, sym, ap, ap₂, ◌∙◌, ⊎_elim}
use Rattle.std.proofs.lemmas.Bool.{cases_lt, eq-eqb, eqb-true, false≢true, and_parts, or_parts}
use Rattle.regress_base.specs.Classes.{digits, white_space, line_terminators, word_characters as basic_word_characters}
use Rattle.regress_base.specs.Intervals.{code_point_max, is_member, intervals_of, IsCanonical}
use Rattle.regress_base.specs.Table.{Table, is_in_closure}
use Rattle.regress_base.specs.Table as Table
use Rattle.regress_base.specs.declared.charclasses.CharacterClassType.{CharacterClassType}
use Rattle.regress_base.specs.declared.charclasses.CharacterClassType.TheVariants.{Digits, Spaces, Words}
use Rattle.regress_base.specs.declared.types.Flags.{Flags}
use Rattle.regress_base.proofs.lemmas.Sets.{intervals_of-canonical, intervals_of-member, no_member_past_end}
use Rattle.regress_classes.specs.ClassProductions.{members_of}
use Rattle.regress_tree.specs.Assertions.{differ}
use Rattle.regress_syntax.specs.Meaning.{is_in_class}
use Rattle.regress_ecma.specs.Notation.{CharSet}
use Rattle.regress_ecma.specs.Characters.{canonicalize, has_some, all_characters, character_complement, word_characters, is_extra_word_character, class_escape_set, character_class_escape}
use Rattle.regress_ecma.specs.CharacterMatchers.{is_found}
use Rattle.regress_ecma.specs.Differences.{HasCaseDataOfUnicode, unlike, cased_beyond_ascii, cased, is_words, has_unlike, has_ends, differs_in_case}
use Rattle.regress_ecma.proofs.Outside.{apart}
use Rattle.regress_ecma.proofs.CharacterSets.{IsSetOf}
use Rattle.regress_ecma.proofs.Members.{has_some_from, has_some_gives}
use Rattle.regress_ecma.proofs.Sets.{same_truth, canonicalize-same, found_if, found_gives, found_from, member_all, canonical-variants, closure-if, word_member, member-append}

-- ---- members

within_code_points : (set : CharSet) → IsCanonical set → (c : ℕ) → is_member set c ≡ true → c ≤ code_point_max
within_code_points set canonical c member =
    ⊎_elim
    (λ (past : code_point_max < c). absurd (false≢true (sym (no_member_past_end set c canonical past) ∙ member)))
    (λ (le : c ≤ code_point_max). le)
    (cases_lt code_point_max c)

-- a member of the intervals of a test
pub record Passes (p : ℕ → Bool) (c : ℕ) : Type 0 where
  pub le : c ≤ code_point_max
  pub passes : p c ≡ true

pub member_passes : (p : ℕ → Bool) (c : ℕ) → is_member (intervals_of p) c ≡ true → Passes p c
member_passes p c member =
    let le = within_code_points (intervals_of p) (intervals_of-canonical p) c member in
    record { le = le; passes = sym (intervals_of-member p c le) ∙ member }

-- No member has case variants.
abbrev pub IsUncased : CharSet → Type 0
IsUncased set = (c : ℕ) → is_member set c ≡ true → is_member cased c ≡ false

-- The case variants of each member are the same with and without the flag u.
abbrev IsLike : CharSet → Type 0
IsLike set = (c : ℕ) → is_member set c ≡ true → is_member unlike c ≡ false

like_of : (set : CharSet) → has_unlike set ≡ false → IsLike set
like_of set none c member = by_test (is_member unlike c) refl
  where
    by_test : (b : Bool) → is_member unlike c ≡ b → is_member unlike c ≡ false
    by_test true e = absurd (false≢true (sym none ∙ has_some_from (is_member unlike) set c member e))
    by_test false e = e

pub digits_uncased : IsUncased digits
unfolding cased_beyond_ascii
digits_uncased c member = apart cased digits refl c member

pub spaces_uncased : IsUncased (white_space ++ line_terminators)
unfolding cased_beyond_ascii
spaces_uncased c member = apart cased (white_space ++ line_terminators) refl c member

module _ (table : Table) (maps : HasCaseDataOfUnicode table) (rer : Flags) (with_u : rer.unicode_sets ≡ true → rer.unicode ≡ true)
    (icase : rer.icase ≡ true) where
  in_class : (inverted : Bool) (members : CharSet) (ch : ℕ) →
      is_in_class table rer inverted members ch ≡ differ inverted (is_in_closure table members ch)
  in_class inverted members ch =
      ap (λ (b : Bool). differ inverted (if b then is_in_closure table members ch else is_member members ch)) icase

  -- ---- classes with the flag u

  folds : rer.unicode ≡ true → (c : ℕ) → canonicalize table rer c ≡ table.fold c
  folds u c = canonicalize-same table maps rer with_u icase c ∙ ap (λ (b : Bool). Table.canonicalize table b c) u

  -- some member has the same simple case folding
  abbrev is_closed : CharSet → ℕ → Bool
  is_closed set ch = has_some (λ m. table.fold m == table.fold ch) set

  found_closed : rer.unicode ≡ true → (set : CharSet) (ch : ℕ) → is_found table rer set ch ≡ is_closed set ch
  found_closed u set ch =
      found_if table maps rer with_u icase set ch
      ∙ same_truth _ (is_closed set ch)
      (λ h.
      let found = found_gives table maps rer with_u set ch h in
      has_some_from (λ m. table.fold m == table.fold ch) set found.0 found.1 (eq-eqb _ _ (sym (folds u found.0) ∙ found.2 ∙ folds u ch)))
      (λ h.
      let found = has_some_gives (λ m. table.fold m == table.fold ch) set h in
      found_from table maps rer with_u set ch found.0 found.1 (folds u found.0 ∙ eqb-true _ _ found.2 ∙ sym (folds u ch)))

  pub class_with_u : rer.unicode ≡ true → (inverted : Bool) (members : CharSet) →
      IsSetOf table rer members inverted (is_in_class table rer inverted members)
  class_with_u u inverted members ch le =
      ap (differ inverted) (found_closed u members ch ∙ sym (closure-if table maps rer with_u members ch le))
      ∙ sym (in_class inverted members ch)

  -- ---- classes without the flag u

  pub uppers : rer.unicode ≡ false → (c : ℕ) → canonicalize table rer c ≡ table.uppercase c
  uppers u c = canonicalize-same table maps rer with_u icase c ∙ ap (λ (b : Bool). Table.canonicalize table b c) u

  found_like : rer.unicode ≡ false → (set : CharSet) → IsLike set → (ch : ℕ) → is_found table rer set ch ≡ is_closed set ch
  found_like u set like ch =
      found_if table maps rer with_u icase set ch
      ∙ same_truth _ (is_closed set ch)
      (λ h.
      let found = found_gives table maps rer with_u set ch h in
      let same : table.uppercase ch ≡ table.uppercase found.0 = sym (uppers u ch) ∙ sym found.2 ∙ uppers u found.0 in
      let folded = sym (maps.same_variants found.0 ch (like found.0 found.1)) ∙ eq-eqb _ _ same in
      has_some_from (λ m. table.fold m == table.fold ch) set found.0 found.1 (eq-eqb _ _ (sym (eqb-true _ _ folded))))
      (λ h.
      let found = has_some_gives (λ m. table.fold m == table.fold ch) set h in
      let upper = maps.same_variants found.0 ch (like found.0 found.1) ∙ eq-eqb _ _ (sym (eqb-true _ _ found.2)) in
      found_from table maps rer with_u set ch found.0 found.1 (uppers u found.0 ∙ sym (eqb-true _ _ upper) ∙ sym (uppers u ch)))

  class_without_u : rer.unicode ≡ false → (inverted : Bool) (members : CharSet) → IsLike members →
      IsSetOf table rer members inverted (is_in_class table rer inverted members)
  class_without_u u inverted members like ch le =
      ap (differ inverted) (found_like u members like ch ∙ sym (closure-if table maps rer with_u members ch le))
      ∙ sym (in_class inverted members ch)

  -- ---- sets without case variants

  found_uncased : (set : CharSet) → IsUncased set → (ch : ℕ) → is_found table rer set ch ≡ is_member set ch
  found_uncased set none ch =
      found_if table maps rer with_u icase set ch
      ∙ same_truth _ (is_member set ch)
      (λ h.
      let found = found_gives table maps rer with_u set ch h in
      let same : ch ≡ found.0 = canonical-variants table maps rer with_u icase found.0 ch (none found.0 found.1) (sym found.2) in
      ap (is_member set) same ∙ found.1)
      (λ h. found_from table maps rer with_u set ch ch h refl)

  pub closure_uncased : (set : CharSet) → IsUncased set → (ch : ℕ) → ch ≤ code_point_max → is_in_closure table set ch ≡ is_member set ch
  closure_uncased set none ch le =
      closure-if table maps rer with_u set ch le
      ∙ same_truth _ (is_member set ch)
      (λ h.
      let found = has_some_gives (λ m. table.fold m == table.fold ch) set h in
      let same : ch ≡ found.0 = maps.folded_variants found.0 ch (none found.0 found.1) (sym (eqb-true _ _ found.2)) in
      ap (is_member set) same ∙ found.1)
      (λ h. has_some_from (λ m. table.fold m == table.fold ch) set ch h (eq-eqb _ _ refl))

  class_uncased : (set : CharSet) → IsUncased set → (inverted : Bool) → IsSetOf table rer set inverted (is_in_class table rer inverted set)
  class_uncased set none inverted ch le =
      ap (differ inverted) (found_uncased set none ch ∙ sym (closure_uncased set none ch le))
      ∙ sym (in_class inverted set ch)

  pub class_in_case : (inverted : Bool) (members : CharSet) → differs_in_case rer members ≡ false →
      IsSetOf table rer members inverted (is_in_class table rer inverted members)
  class_in_case inverted members none =
      by_test rer.unicode refl (or_parts rer.unicode_sets (if rer.unicode then has_ends members else has_unlike members) none).1
    where
      by_test : (u : Bool) → rer.unicode ≡ u → (if u then has_ends members else has_unlike members) ≡ false →
          IsSetOf table rer members inverted (is_in_class table rer inverted members)
      by_test true e same = class_with_u e inverted members
      by_test false e same = class_without_u e inverted members (like_of members same)

  -- ---- complements

  abbrev all_if : Bool → CharSet
  all_if folded = if folded then intervals_of (λ c. table.fold c == c) else record { first = 0; last = code_point_max } ∷ []

  abbrev is_any : ℕ → Bool
  is_any = is_member (all_characters table rer)

  sets_if : (v : Bool) → rer.unicode_sets ≡ v → (rer.unicode_sets && rer.icase) ≡ v
  sets_if v e = ap₂ (λ (a b : Bool). a && b) e icase ∙ by v
    where
      by : (b : Bool) → (b && true) ≡ b
      by true = refl
      by false = refl

  -- a member of AllCharacters with the canonical form of ch
  record IsFoundAs (ch a : ℕ) : Type 0 where
    le : a ≤ code_point_max
    any : is_any a ≡ true
    same : canonicalize table rer a ≡ canonicalize table rer ch

  found_as : (ch : ℕ) → ch ≤ code_point_max → (a : ℕ) × IsFoundAs ch a
  found_as ch le = by_test rer.unicode_sets refl
    where
      by_test : (v : Bool) → rer.unicode_sets ≡ v → (a : ℕ) × IsFoundAs ch a
      by_test true v =
          let u = with_u v in
          let twice : table.fold (table.fold ch) ≡ table.fold ch = maps.idempotent ch in (
            table.fold ch,
            record {
              le = maps.in_range ch le;
              any =
                  ap (λ (b : Bool). is_member (all_if b) (table.fold ch)) (sets_if true v)
                  ∙ intervals_of-member (λ c. table.fold c == c) (table.fold ch) (maps.in_range ch le) ∙ eq-eqb _ _ twice;
              same = folds u (table.fold ch) ∙ twice ∙ sym (folds u ch);
            },
          )
      by_test false v = (
        ch,
        record {
          le = le;
          any = ap (λ (b : Bool). is_member (all_if b) ch) (sets_if false v) ∙ member_all table maps rer with_u ch le;
          same = refl;
        },
      )

  -- The complement of a set that has the members of AllCharacters that pass a test.
  pub found_complement : (set : CharSet) (test : ℕ → Bool) → ((c : ℕ) → c ≤ code_point_max → is_any c ≡ true → is_member set c ≡ test c) →
      ((a b : ℕ) → canonicalize table rer a ≡ canonicalize table rer b → test a ≡ test b) → (ch : ℕ) → ch ≤ code_point_max →
      is_found table rer (character_complement table rer set) ch ≡ not (test ch)
  found_complement set test represents closed ch le =
      found_if table maps rer with_u icase (character_complement table rer set) ch
      ∙ same_truth _ (not (test ch))
      (λ h.
      let found = found_gives table maps rer with_u (character_complement table rer set) ch h in
      let inside = member_passes (λ c. is_any c && not (is_member set c)) found.0 found.1 in
      let both = and_parts (is_any found.0) (not (is_member set found.0)) inside.passes in
      ap not (sym (represents found.0 inside.le both.0 ∙ closed found.0 ch found.2)) ∙ both.1)
      (λ h.
      let found = found_as ch le in
      let out : not (is_member set found.0) ≡ true = ap not (represents found.0 found.1.le found.1.any ∙ closed found.0 ch found.1.same) ∙ h in
      found_from table maps rer with_u (character_complement table rer set) ch found.0
      (intervals_of-member (λ c. is_any c && not (is_member set c)) found.0 found.1.le ∙ ap₂ (λ (a b : Bool). a && b) found.1.any out)
      found.1.same)

  -- ---- class escapes

  not_differ : (b : Bool) → not b ≡ differ true b
  not_differ true = refl
  not_differ false = refl

  -- a complement, of which the dialect has the closure of the members
  complement_agrees : (set members : CharSet) → ((ch : ℕ) → ch ≤ code_point_max →
      is_found table rer (character_complement table rer set) ch ≡ not (is_in_closure table members ch)) →
      IsSetOf table rer (character_complement table rer set) false (is_in_class table rer true members)
  complement_agrees set members same ch le =
      same ch le ∙ not_differ (is_in_closure table members ch) ∙ sym (in_class true members ch)

  pub uncased_same : (set : CharSet) → IsUncased set → (a b : ℕ) → canonicalize table rer a ≡ canonicalize table rer b → is_member set a ≡ is_member set b
  uncased_same set none a b e =
      same_truth _ _
      (λ h. ap (is_member set) (canonical-variants table maps rer with_u icase a b (none a h) (sym e)) ∙ h)
      (λ h. ap (is_member set) (canonical-variants table maps rer with_u icase b a (none b h) e) ∙ h)

  complement_uncased : (set : CharSet) → IsUncased set →
      IsSetOf table rer (character_complement table rer set) false (is_in_class table rer true set)
  complement_uncased set none =
      complement_agrees set set
      (λ ch le.
      found_complement set (is_member set) (λ c in_range any. refl) (uncased_same set none) ch le
      ∙ ap not (sym (closure_uncased set none ch le)))

  -- ---- word characters with the flag u

  abbrev is_word : ℕ → Bool
  is_word = is_closed basic_word_characters

  abbrev words_if : Bool → CharSet
  words_if folded = if folded then intervals_of (λ c. has_some (λ ch. table.fold ch == c) (word_characters table rer)) else word_characters table rer

  module _ (u : rer.unicode ≡ true) where
    word_is : (c : ℕ) → c ≤ code_point_max → is_member (word_characters table rer) c ≡ is_word c
    word_is c le =
        word_member table maps rer with_u c le
        ∙ ap₂ (λ (a b : Bool). if a && b then is_in_closure table basic_word_characters c else is_member basic_word_characters c) u icase
        ∙ closure-if table maps rer with_u basic_word_characters c le

    basic_word : (c : ℕ) → is_member basic_word_characters c ≡ true → is_word c ≡ true
    basic_word c member = has_some_from (λ m. table.fold m == table.fold c) basic_word_characters c member (eq-eqb _ _ refl)

    word_gives : (c : ℕ) → is_member (word_characters table rer) c ≡ true → is_word c ≡ true
    word_gives c member = by_test (is_member basic_word_characters c) refl parts
      where
        parts : (is_member basic_word_characters c || is_member (intervals_of (is_extra_word_character table rer)) c) ≡ true
        parts =
            sym (member-append table maps rer with_u basic_word_characters (intervals_of (is_extra_word_character table rer)) c)
            ∙ sym (ap (λ (b : Bool). is_member (if b then basic_word_characters ++ intervals_of (is_extra_word_character table rer) else basic_word_characters) c) icase)
            ∙ member

        by_test : (b : Bool) → is_member basic_word_characters c ≡ b →
            (b || is_member (intervals_of (is_extra_word_character table rer)) c) ≡ true → is_word c ≡ true
        by_test true e h = basic_word c e
        by_test false e h = sym (word_is c (member_passes (is_extra_word_character table rer) c h).le) ∙ member

    basic_le : (c : ℕ) → is_member basic_word_characters c ≡ true → c ≤ code_point_max
    basic_le c member = within_code_points basic_word_characters refl c member

    basic_member : (c : ℕ) → is_member basic_word_characters c ≡ true → is_member (word_characters table rer) c ≡ true
    basic_member c member = word_is c (basic_le c member) ∙ basic_word c member

    -- The closure of the word characters depends on the simple case folding alone.
    word_closed : (a b : ℕ) → table.fold a ≡ table.fold b → is_word a ≡ is_word b
    word_closed a b e = ap (λ (f : ℕ). has_some (λ m. table.fold m == f) basic_word_characters) e

    set_is : (v : Bool) → rer.unicode_sets ≡ v → (c : ℕ) → is_member (class_escape_set table rer Words) c ≡ is_member (words_if v) c
    set_is v e c = ap (λ (b : Bool). is_member (words_if b) c) (sets_if v e)

    set_gives : (c : ℕ) → is_member (class_escape_set table rer Words) c ≡ true → is_word c ≡ true
    set_gives c member = by_test rer.unicode_sets refl
      where
        by_test : (v : Bool) → rer.unicode_sets ≡ v → is_word c ≡ true
        by_test true v =
            let inside = member_passes (λ c. has_some (λ ch. table.fold ch == c) (word_characters table rer)) c (sym (set_is true v c) ∙ member) in
            let found = has_some_gives (λ ch. table.fold ch == c) (word_characters table rer) inside.passes in
            let folded : table.fold found.0 ≡ c = eqb-true _ _ found.2 in
            word_closed c found.0 (sym (ap table.fold folded) ∙ maps.idempotent found.0) ∙ word_gives found.0 found.1
        by_test false v = word_gives c (sym (set_is false v c) ∙ member)

    -- a member with the simple case folding of a basic word character
    set_has : (m : ℕ) → is_member basic_word_characters m ≡ true →
        (a : ℕ) × (is_member (class_escape_set table rer Words) a ≡ true) × (table.fold a ≡ table.fold m)
    set_has m basic = by_test rer.unicode_sets refl
      where
        by_test : (v : Bool) → rer.unicode_sets ≡ v →
            (a : ℕ) × (is_member (class_escape_set table rer Words) a ≡ true) × (table.fold a ≡ table.fold m)
        by_test true v = (
          table.fold m,
          set_is true v (table.fold m)
              ∙ intervals_of-member (λ c. has_some (λ ch. table.fold ch == c) (word_characters table rer)) (table.fold m) (maps.in_range m (basic_le m basic))
              ∙ has_some_from (λ ch. table.fold ch == table.fold m) (word_characters table rer) m (basic_member m basic) (eq-eqb _ _ refl),
          maps.idempotent m,
        )
        by_test false v = (m, set_is false v m ∙ basic_member m basic, refl)

    set_represents : (c : ℕ) → c ≤ code_point_max → is_any c ≡ true → is_member (class_escape_set table rer Words) c ≡ is_word c
    set_represents c le any = by_test rer.unicode_sets refl
      where
        by_test : (v : Bool) → rer.unicode_sets ≡ v → is_member (class_escape_set table rer Words) c ≡ is_word c
        by_test true v =
            let own : table.fold c ≡ c =
            eqb-true _ _ (sym (intervals_of-member (λ c. table.fold c == c) c le) ∙ sym (ap (λ (b : Bool). is_member (all_if b) c) (sets_if true v)) ∙ any) in
            same_truth _ _ (set_gives c)
            (λ h.
            let found = has_some_gives (λ m. table.fold m == table.fold c) basic_word_characters h in
            set_is true v c
            ∙ intervals_of-member (λ c. has_some (λ ch. table.fold ch == c) (word_characters table rer)) c le
            ∙ has_some_from (λ ch. table.fold ch == c) (word_characters table rer) found.0 (basic_member found.0 found.1)
            (eq-eqb _ _ (eqb-true _ _ found.2 ∙ own)))
        by_test false v = set_is false v c ∙ word_is c le

    word_found : (ch : ℕ) → is_found table rer (class_escape_set table rer Words) ch ≡ is_word ch
    word_found ch =
        found_if table maps rer with_u icase (class_escape_set table rer Words) ch
        ∙ same_truth _ _
        (λ h.
        let found = found_gives table maps rer with_u (class_escape_set table rer Words) ch h in
        sym (word_closed found.0 ch (sym (folds u found.0) ∙ found.2 ∙ folds u ch)) ∙ set_gives found.0 found.1)
        (λ h.
        let found = has_some_gives (λ m. table.fold m == table.fold ch) basic_word_characters h in
        let member = set_has found.0 found.1 in
        found_from table maps rer with_u (class_escape_set table rer Words) ch member.0 member.1
        (folds u member.0 ∙ member.2 ∙ eqb-true _ _ found.2 ∙ sym (folds u ch)))

    words_in_case : (negated : Bool) →
        IsSetOf table rer (character_class_escape table rer Words negated) false (is_in_class table rer negated basic_word_characters)
    words_in_case true ch le =
        complement_agrees (class_escape_set table rer Words) basic_word_characters
        (λ c le.
        found_complement (class_escape_set table rer Words) is_word set_represents (λ a b e. word_closed a b (sym (folds u a) ∙ e ∙ folds u b)) c le
        ∙ ap not (sym (closure-if table maps rer with_u basic_word_characters c le)))
        ch le
    words_in_case false ch le =
        word_found ch ∙ sym (closure-if table maps rer with_u basic_word_characters ch le)
        ∙ sym (in_class false basic_word_characters ch)

  pub escape_in_case : (kind : CharacterClassType) (negated : Bool) → (not rer.unicode && is_words kind) ≡ false →
      IsSetOf table rer (character_class_escape table rer kind negated) false (is_in_class table rer negated (members_of kind))
  escape_in_case Digits true none = complement_uncased digits digits_uncased
  escape_in_case Digits false none = class_uncased digits digits_uncased false
  escape_in_case Spaces true none = complement_uncased (white_space ++ line_terminators) spaces_uncased
  escape_in_case Spaces false none = class_uncased (white_space ++ line_terminators) spaces_uncased false
  escape_in_case Words negated none = words_in_case (by_test rer.unicode refl none) negated
    where
      by_test : (u : Bool) → rer.unicode ≡ u → (not u && true) ≡ false → rer.unicode ≡ true
      by_test true e h = e
      by_test false e h = absurd (false≢true (sym h))
