-- CompileToCharSet, one character at a time. A CharSet is searched for among all code points, which takes too long to
-- compute; whether it has a character is computed.
use Rattle.std.proofs.Common.{◌≡◌, ℕ, ◌≤◌, nat_le, ◌==◌, Bool, true, false, not, ◌&&◌, ◌||◌, [], ◌∷◌, ◌++◌, Option, Some, None, if◌then◌else◌, refl, sym, ap, ap₂, ◌∙◌, arith}
use Rattle.std.proofs.lemmas.Bool.{and_parts, and_from, eq-eqb, eqb-true}
use Rattle.std.proofs.lemmas.Bool.Decides.{nat_tests}
use Rattle.regress_base.specs.Classes.{digits, white_space, line_terminators, word_characters as basic_word_characters}
use Rattle.regress_base.specs.Intervals.{code_point_max, is_member, is_within, intervals_of}
use Rattle.regress_base.specs.Table.{Table, IsIdempotent}
use Rattle.regress_base.specs.declared.charclasses.CharacterClassType.{CharacterClassType}
use Rattle.regress_base.specs.declared.charclasses.CharacterClassType.TheVariants.{Digits, Spaces, Words}
use Rattle.regress_base.specs.declared.types.Flags.{Flags}
use Rattle.regress_base.proofs.lemmas.Sets.{is_member-nil, is_member-append, member_above, intervals_of-canonical, intervals_of-member}
use Rattle.regress_lexer.specs.Source.{char}
use Rattle.regress_ecma.specs.Notation.{CharSet}
use Rattle.regress_ecma.specs.Characters.{canonicalize, upper_case, has_some, all_characters, character_complement, word_characters, is_extra_word_character, class_escape_set, maybe_simple_case_folding as fold_characters}
use Rattle.regress_ecma.specs.CharacterMatchers.{is_found}
use Rattle.regress_ecma.specs.Atoms.{one_character}
use Rattle.regress_ecma.specs.ClassNodes.{ClassAtom, character, class_escape, property, string_property, class_strings, nested_class, ClassContents, empty, atom_then, range_then, intersection, subtraction, CharacterClass}
use Rattle.regress_ecma.specs.CharSets.{Elements, only, union, each_string, character_range, character_of, range_or_union, maybe_simple_case_folding, complement, atom_to_char_set, compile_to_char_set}
use Rattle.regress_ecma.proofs.Members.{or-right, has_some_from, has_some_gives}
use Rattle.regress_ecma.proofs.Sets.{same_truth}

everything : (c : ℕ) → is_member (record { first = 0; last = code_point_max } ∷ []) c ≡ nat_le c code_point_max
unfolding is_member is_within
everything c = grind (arith, nat_tests)

-- ---- the set of one character

is_itself : (m a : ℕ) → a ≡ m → is_member (one_character m) a ≡ true
unfolding is_member is_within
is_itself m a e = grind (arith, nat_tests, e)

itself_in_order : (m a : ℕ) → m ≤ code_point_max → is_member (one_character m) a ≡ true → a ≤ code_point_max
unfolding is_member is_within
itself_in_order m a h member = grind (arith, nat_tests, h, member)

module _ (table : Table) (rer : Flags) where
  -- Case folding of sets is with v and i alone.
  abbrev folds : Bool
  folds = rer.unicode_sets && rer.icase

  -- ---- whether a set has a character

  -- AllCharacters
  abbrev pub in_all : ℕ → Bool
  in_all c = if folds then table.fold c == c else nat_le c code_point_max

  -- MaybeSimpleCaseFolding of the set
  abbrev pub in_folded : CharSet → ℕ → Bool
  in_folded set c = if folds then has_some (λ ch. table.fold ch == c) set else is_member set c

  -- WordCharacters
  abbrev pub in_words : ℕ → Bool
  in_words c =
      if rer.icase then is_member basic_word_characters c || is_extra_word_character table rer c
      else is_member basic_word_characters c

  -- CharacterClassEscape, for a small letter. An extra word character folds to a basic one.
  abbrev pub in_class_escape : CharacterClassType → ℕ → Bool
  in_class_escape Digits c = is_member digits c
  in_class_escape Spaces c = is_member (white_space ++ line_terminators) c
  in_class_escape Words c = if folds then has_some (λ ch. table.fold ch == c) basic_word_characters else in_words c

  -- CharacterRangeOrUnion that is no range, of the sets a and b; x and y are whether they have the character. With v the
  -- grammar has no such class.
  abbrev in_union : (a b : Elements) → (x y : Bool) → ℕ → Bool
  in_union a b x y c =
      if folds then has_some (λ ch. table.fold ch == c) (a.characters ++ (one_character (char "-") ++ b.characters))
      else x || (is_member (one_character (char "-")) c || y)

  abbrev in_range : (a b : Elements) → Option ℕ → Option ℕ → (x y : Bool) → ℕ → Bool
  in_range a b None last x y c = in_union a b x y c
  in_range a b (Some first) None x y c = in_union a b x y c
  in_range a b (Some first) (Some last) x y c = in_folded (character_range first last) c

  -- CompileToCharSet
  abbrev mutual
    pub in_atom : ClassAtom → ℕ → Bool
    in_atom (character ch) c = in_folded (one_character ch) c
    in_atom (class_escape kind capital) c = if capital then in_all c && not (in_class_escape kind c) else in_class_escape kind c
    in_atom (property members capital) c = if capital then in_all c && not (in_folded members c) else in_folded members c
    in_atom (string_property members) c = in_folded ((each_string members).characters) c
    in_atom (class_strings strings) c = in_folded ((each_string strings).characters) c
    in_atom (nested_class invert contents) c = if invert then in_all c && not (in_contents contents c) else in_contents contents c

    pub in_contents : ClassContents → ℕ → Bool
    in_contents empty c = false
    in_contents (atom_then first rest) c = in_atom first c || in_contents rest c
    in_contents (range_then first last rest) c =
        in_range (atom_to_char_set table rer first) (atom_to_char_set table rer last) (character_of first) (character_of last)
        (in_atom first c) (in_atom last c) c
        || in_contents rest c
    in_contents (intersection left right) c = in_contents left c && in_atom right c
    in_contents (subtraction left right) c = in_contents left c && not (in_atom right c)

  -- CompileCharacterClass: the set of the class, which with v is complemented already
  abbrev pub in_class : CharacterClass → ℕ → Bool
  in_class node c =
      if rer.unicode_sets && node.invert then in_all c && not (in_contents node.contents c) else in_contents node.contents c

  -- ---- they are the sets of the transcription

  pub all_is : (c : ℕ) → c ≤ code_point_max → is_member (all_characters table rer) c ≡ in_all c
  all_is c le = by_test folds
    where
      by_test : (b : Bool) →
          is_member (if b then intervals_of (λ x. table.fold x == x) else record { first = 0; last = code_point_max } ∷ []) c
          ≡ (if b then table.fold c == c else nat_le c code_point_max)
      by_test true = intervals_of-member (λ x. table.fold x == x) c le
      by_test false = everything c

  complement_is : (set : CharSet) (c : ℕ) → c ≤ code_point_max →
      is_member (character_complement table rer set) c ≡ (in_all c && not (is_member set c))
  complement_is set c le =
      intervals_of-member (λ x. is_member (all_characters table rer) x && not (is_member set x)) c le
      ∙ ap (λ (b : Bool). b && not (is_member set c)) (all_is c le)

  folded_set : (set : CharSet) (c : ℕ) → c ≤ code_point_max → is_member (fold_characters table rer set) c ≡ in_folded set c
  folded_set set c le = by_test folds
    where
      by_test : (b : Bool) →
          is_member (if b then intervals_of (λ x. has_some (λ ch. table.fold ch == x) set) else set) c
          ≡ (if b then has_some (λ ch. table.fold ch == c) set else is_member set c)
      by_test true = intervals_of-member (λ x. has_some (λ ch. table.fold ch == x) set) c le
      by_test false = refl

  folded_is : (a : Elements) (c : ℕ) → c ≤ code_point_max →
      is_member ((maybe_simple_case_folding table rer a).characters) c ≡ in_folded a.characters c
  folded_is a c le = by_test folds refl
    where
      by_test : (b : Bool) → folds ≡ b → is_member ((maybe_simple_case_folding table rer a).characters) c ≡ in_folded a.characters c
      by_test true e = rw e (intervals_of-member (λ x. has_some (λ ch. table.fold ch == x) a.characters) c le)
      by_test false e = rw e refl

  pub words_are : (c : ℕ) → c ≤ code_point_max → is_member (word_characters table rer) c ≡ in_words c
  words_are c le = by_test rer.icase
    where
      by_test : (i : Bool) →
          is_member (if i then basic_word_characters ++ intervals_of (is_extra_word_character table rer) else basic_word_characters) c
          ≡ (if i then is_member basic_word_characters c || is_extra_word_character table rer c else is_member basic_word_characters c)
      by_test true =
          is_member-append basic_word_characters (intervals_of (is_extra_word_character table rer)) c
          ∙ ap (λ (b : Bool). is_member basic_word_characters c || b) (intervals_of-member (is_extra_word_character table rer) c le)
      by_test false = refl

  -- a member of a set of the form intervals_of is a code point
  in_order : (p : ℕ → Bool) (c : ℕ) → is_member (intervals_of p) c ≡ true → c ≤ code_point_max
  in_order p c member = (member_above 0 (intervals_of p) c (intervals_of-canonical p) member).1

  module _ (idempotent : IsIdempotent table.fold) where
    pub words_folded : folds ≡ true → (c : ℕ) →
        has_some (λ ch. table.fold ch == c) (word_characters table rer) ≡ has_some (λ ch. table.fold ch == c) basic_word_characters
    words_folded e c = ap (has_some folds_to) split ∙ same_truth _ _ to from
      where
        flags_are : (rer.unicode_sets ≡ true) × (rer.icase ≡ true)
        flags_are = and_parts rer.unicode_sets rer.icase e

        icase : rer.icase ≡ true
        icase = flags_are.1

        extra : CharSet
        extra = intervals_of (is_extra_word_character table rer)

        folds_to : ℕ → Bool
        folds_to ch = table.fold ch == c

        split : word_characters table rer ≡ basic_word_characters ++ extra
        split = ap (λ (b : Bool). if b then basic_word_characters ++ extra else basic_word_characters) icase

        canonical : (m : ℕ) → canonicalize table rer m ≡ table.fold m
        canonical m = rw (flags_are.0, icase) (by_flag rer.unicode)
          where
            by_flag : (u : Bool) → (if (u || true) && true then table.fold m else (if not true then m else upper_case table rer m)) ≡ table.fold m
            by_flag true = refl
            by_flag false = refl

        -- what an extra word character folds to is a basic one
        basic_folds : (m : ℕ) → is_extra_word_character table rer m ≡ true → is_member basic_word_characters (table.fold m) ≡ true
        basic_folds m h =
            ap (λ x. is_member basic_word_characters x) (sym (canonical m))
            ∙ (and_parts (not (is_member basic_word_characters m)) (is_member basic_word_characters (canonicalize table rer m)) h).1

        from_extra : (m : ℕ) → is_member extra m ≡ true → folds_to m ≡ true → has_some folds_to basic_word_characters ≡ true
        from_extra m member h =
            let le = in_order (is_extra_word_character table rer) m member in
            let is : is_extra_word_character table rer m ≡ true =
            sym (intervals_of-member (is_extra_word_character table rer) m le) ∙ member in
            let same : table.fold m ≡ c = eqb-true (table.fold m) c h in
            let stays : table.fold c ≡ c = ap table.fold (sym same) ∙ idempotent m ∙ same in
            has_some_from folds_to basic_word_characters c (ap (λ x. is_member basic_word_characters x) (sym same) ∙ basic_folds m is)
            (eq-eqb (table.fold c) c stays)

        by_part : (m : ℕ) (b : Bool) → is_member basic_word_characters m ≡ b → (b || is_member extra m) ≡ true → folds_to m ≡ true →
            has_some folds_to basic_word_characters ≡ true
        by_part m true basic member h = has_some_from folds_to basic_word_characters m basic h
        by_part m false basic member h = from_extra m member h

        to : has_some folds_to (basic_word_characters ++ extra) ≡ true → has_some folds_to basic_word_characters ≡ true
        to h =
            let found = has_some_gives folds_to (basic_word_characters ++ extra) h in
            by_part found.0 (is_member basic_word_characters found.0) refl
            (sym (is_member-append basic_word_characters extra found.0) ∙ found.1) found.2

        from : has_some folds_to basic_word_characters ≡ true → has_some folds_to (basic_word_characters ++ extra) ≡ true
        from h =
            let found = has_some_gives folds_to basic_word_characters h in
            has_some_from folds_to (basic_word_characters ++ extra) found.0
            (is_member-append basic_word_characters extra found.0 ∙ ap (λ (b : Bool). b || is_member extra found.0) found.1) found.2

    escape_is : (kind : CharacterClassType) (c : ℕ) → c ≤ code_point_max →
        is_member (class_escape_set table rer kind) c ≡ in_class_escape kind c
    escape_is Digits c le = refl
    escape_is Spaces c le = refl
    escape_is Words c le = folded_set (word_characters table rer) c le ∙ by_test folds refl
      where
        by_test : (b : Bool) → folds ≡ b → in_folded (word_characters table rer) c ≡ in_class_escape Words c
        by_test true e = rw e (words_folded e c)
        by_test false e = rw e (words_are c le)

    union_is : (a b : Elements) (c : ℕ) → c ≤ code_point_max →
        is_member ((maybe_simple_case_folding table rer (union a (union (only (one_character (char "-"))) b))).characters) c
        ≡ in_union a b (is_member a.characters c) (is_member b.characters c) c
    union_is a b c le = folded_is (union a (union (only (one_character (char "-"))) b)) c le ∙ by_test folds
      where
        whole : CharSet
        whole = a.characters ++ (one_character (char "-") ++ b.characters)

        parts : is_member whole c
            ≡ (is_member a.characters c || (is_member (one_character (char "-")) c || is_member b.characters c))
        parts =
            is_member-append a.characters (one_character (char "-") ++ b.characters) c
            ∙ ap (λ (t : Bool). is_member a.characters c || t) (is_member-append (one_character (char "-")) b.characters c)

        by_test : (f : Bool) →
            (if f then has_some (λ ch. table.fold ch == c) whole else is_member whole c)
            ≡ (if f then has_some (λ ch. table.fold ch == c) whole
            else (is_member a.characters c || (is_member (one_character (char "-")) c || is_member b.characters c)))
        by_test true = refl
        by_test false = parts

    range_is : (a b : Elements) (first last : Option ℕ) (c : ℕ) → c ≤ code_point_max →
        is_member ((maybe_simple_case_folding table rer (range_or_union a b first last)).characters) c
        ≡ in_range a b first last (is_member a.characters c) (is_member b.characters c) c
    range_is a b None last c le = union_is a b c le
    range_is a b (Some first) None c le = union_is a b c le
    range_is a b (Some first) (Some last) c le = folded_is (only (character_range first last)) c le

    mutual
      pub atom_is : (node : ClassAtom) (c : ℕ) → c ≤ code_point_max → is_member ((atom_to_char_set table rer node).characters) c ≡ in_atom node c
      atom_is (character ch) c le = folded_is (only (one_character ch)) c le
      atom_is (class_escape kind true) c le =
          complement_is (class_escape_set table rer kind) c le ∙ ap (λ (b : Bool). in_all c && not b) (escape_is kind c le)
      atom_is (class_escape kind false) c le = escape_is kind c le
      atom_is (property members true) c le =
          complement_is ((maybe_simple_case_folding table rer (only members)).characters) c le
          ∙ ap (λ (b : Bool). in_all c && not b) (folded_is (only members) c le)
      atom_is (property members false) c le = folded_is (only members) c le
      atom_is (string_property members) c le = folded_is (each_string members) c le
      atom_is (class_strings strings) c le = folded_is (each_string strings) c le
      atom_is (nested_class true contents) c le =
          complement_is ((compile_to_char_set table rer contents).characters) c le
          ∙ ap (λ (b : Bool). in_all c && not b) (contents_is contents c le)
      atom_is (nested_class false contents) c le = contents_is contents c le

      pub contents_is : (contents : ClassContents) (c : ℕ) → c ≤ code_point_max →
          is_member ((compile_to_char_set table rer contents).characters) c ≡ in_contents contents c
      contents_is empty c le = is_member-nil c
      contents_is (atom_then first rest) c le =
          is_member-append ((atom_to_char_set table rer first).characters) ((compile_to_char_set table rer rest).characters) c
          ∙ ap₂ (λ (a b : Bool). a || b) (atom_is first c le) (contents_is rest c le)
      contents_is (range_then first last rest) c le =
          let a : Elements = atom_to_char_set table rer first in
          let b : Elements = atom_to_char_set table rer last in
          is_member-append ((maybe_simple_case_folding table rer (range_or_union a b (character_of first) (character_of last))).characters)
          ((compile_to_char_set table rer rest).characters) c
          ∙ ap₂ (λ (x y : Bool). x || y)
          (range_is a b (character_of first) (character_of last) c le
          ∙ ap₂ (λ (x y : Bool). in_range a b (character_of first) (character_of last) x y c) (atom_is first c le) (atom_is last c le))
          (contents_is rest c le)
      contents_is (intersection left right) c le =
          intervals_of-member
          (λ x. is_member ((compile_to_char_set table rer left).characters) x && is_member ((atom_to_char_set table rer right).characters) x) c le
          ∙ ap₂ (λ (a b : Bool). a && b) (contents_is left c le) (atom_is right c le)
      contents_is (subtraction left right) c le =
          intervals_of-member
          (λ x. is_member ((compile_to_char_set table rer left).characters) x && not (is_member ((atom_to_char_set table rer right).characters) x)) c le
          ∙ ap₂ (λ (a b : Bool). a && not b) (contents_is left c le) (atom_is right c le)

    -- the set of CompileCharacterClass
    pub class_is : (node : CharacterClass) (c : ℕ) → c ≤ code_point_max →
        is_member ((let a : Elements = compile_to_char_set table rer node.contents in
        if rer.unicode_sets && node.invert then complement table rer a else a).characters) c
        ≡ in_class node c
    class_is node c le = by_test (rer.unicode_sets && node.invert)
      where
        a : Elements
        a = compile_to_char_set table rer node.contents

        by_test : (b : Bool) →
            is_member ((if b then complement table rer a else a).characters) c
            ≡ (if b then in_all c && not (in_contents node.contents c) else in_contents node.contents c)
        by_test true =
            complement_is a.characters c le ∙ ap (λ (t : Bool). in_all c && not t) (contents_is node.contents c le)
        by_test false = contents_is node.contents c le

  -- ---- a set with the flag i

  -- the characters that may have the canonical form of ch, if those in `moved` alone are not their own canonical forms
  abbrev pub candidates : (moved : CharSet) → ℕ → CharSet
  candidates moved ch = one_character (canonicalize table rer ch) ++ moved

  module _ (icase : rer.icase ≡ true) (moved : CharSet) (code_points : (a : ℕ) → is_member moved a ≡ true → a ≤ code_point_max)
      (stays : (a : ℕ) → is_member moved a ≡ false → canonicalize table rer a ≡ a) where
    -- The character is found if some of these is a member and has its canonical form.
    pub found_is : (set : CharSet) (test : ℕ → Bool) → ((a : ℕ) → a ≤ code_point_max → is_member set a ≡ test a) →
        (ch : ℕ) → canonicalize table rer ch ≤ code_point_max →
        is_found table rer set ch
        ≡ has_some (λ a. (canonicalize table rer a == canonicalize table rer ch) && test a) (candidates moved ch)
    found_is set test same ch le =
        ap (λ (b : Bool). if b then has_some is_same set else is_member set ch) icase ∙ same_truth _ _ to from
      where
        is_same : ℕ → Bool
        is_same a = canonicalize table rer a == canonicalize table rer ch

        itself : CharSet
        itself = one_character (canonicalize table rer ch)

        candidate : (a : ℕ) (b : Bool) → is_member moved a ≡ b → is_same a ≡ true → (is_member itself a || is_member moved a) ≡ true
        candidate a true e h = rw e (or-right (is_member itself a))
        candidate a false e h =
            let same_form : a ≡ canonicalize table rer ch =
            sym (stays a e) ∙ eqb-true (canonicalize table rer a) (canonicalize table rer ch) h in
            rw (is_itself (canonicalize table rer ch) a same_form) refl

        is_candidate : (a : ℕ) → is_same a ≡ true → is_member (candidates moved ch) a ≡ true
        is_candidate a h = is_member-append itself moved a ∙ candidate a (is_member moved a) refl h

        by_part : (a : ℕ) (b : Bool) → is_member itself a ≡ b → (b || is_member moved a) ≡ true → a ≤ code_point_max
        by_part a true e h = itself_in_order (canonicalize table rer ch) a le e
        by_part a false e h = code_points a h

        in_order_of : (a : ℕ) → is_member (candidates moved ch) a ≡ true → a ≤ code_point_max
        in_order_of a member = by_part a (is_member itself a) refl (sym (is_member-append itself moved a) ∙ member)

        to : has_some is_same set ≡ true → has_some (λ a. is_same a && test a) (candidates moved ch) ≡ true
        to h =
            let found = has_some_gives is_same set h in
            let member = is_candidate found.0 found.2 in
            has_some_from (λ a. is_same a && test a) (candidates moved ch) found.0 member
            (and_from (is_same found.0) (test found.0) found.2 (sym (same found.0 (in_order_of found.0 member)) ∙ found.1))

        from : has_some (λ a. is_same a && test a) (candidates moved ch) ≡ true → has_some is_same set ≡ true
        from h =
            let found = has_some_gives (λ a. is_same a && test a) (candidates moved ch) h in
            let parts = and_parts (is_same found.0) (test found.0) found.2 in
            has_some_from is_same set found.0 (same found.0 (in_order_of found.0 found.1) ∙ parts.1) parts.0
