-- Classes without the flag v: the CharSet of ECMA-262 beside the members of the syntax tree.
use Rattle.std.proofs.Common.{◌≡◌, ℕ, zero, suc, ◌+◌, ◌≤◌, ◌==◌, Bool, true, false, not, ◌&&◌, ◌||◌, nat_le, List, [], ◌∷◌, ◌++◌, length, drop, map, Option, Some, None, if◌then◌else◌, refl, sym, ap, ap₂, subst, ◌∙◌, arith, append_assoc, ◌⊎◌, inl, inr, ⊎_elim}
use Rattle.std.proofs.lemmas.Bool.{false≢true, and_parts}
use Rattle.regress_base.specs.Classes.{digits, white_space, line_terminators, word_characters as basic_word_characters}
use Rattle.regress_base.specs.Intervals.{Bounds, code_point_max, is_member, is_within, intervals_of}
use Rattle.regress_base.specs.Table.{Table}
use Rattle.regress_base.specs.Table as Table
use Rattle.regress_base.specs.declared.charclasses.CharacterClassType.{CharacterClassType}
use Rattle.regress_base.specs.declared.charclasses.CharacterClassType.TheVariants.{Digits, Spaces, Words}
use Rattle.regress_base.specs.declared.types.Flags.{Flags}
use Rattle.regress_base.proofs.lemmas.Sets.{is_member-nil, is_member-append, canonical_is, intervals_of-agree, intervals_of-member}
use Rattle.regress_lexer.specs.Source.{Source, Found, char, is_at}
use Rattle.regress_lexer.specs.declared.dialect.Dialect.TheVariants.{Regress}
use Rattle.regress_classes.specs.declared.parameters.Parameters.{Parameters}
use Rattle.regress_classes.specs.ClassProductions.{members_of, class_letter, complement_if, class_members, point, set, one_point, atom_members, class_control_at, class_property, class_property_at, class_escape_productions, begins_range, members_with_hyphen, points_between, range_of, class_parts_by, class_at}
use Rattle.regress_classes.specs.ClassProductions as ClassProductions
use Rattle.regress_ecma.specs.Notation.{CharSet}
use Rattle.regress_ecma.specs.Characters.{canonicalize, has_some, all_characters, character_complement, word_characters, is_extra_word_character, class_escape_set, character_class_escape, maybe_simple_case_folding as fold_characters}
use Rattle.regress_ecma.specs.Atoms.{one_character}
use Rattle.regress_ecma.specs.ClassNodes.{ClassAtom, character, property, ClassContents, empty, atom_then, range_then, CharacterClass}
use Rattle.regress_ecma.specs.CharSets.{Elements, only, character_of, range_or_union, maybe_simple_case_folding, atom_to_char_set, compile_to_char_set}
use Rattle.regress_ecma.specs.ClassGrammar.{class_atom_at, class_part_at, class_ranges_by, character_class_at}
use Rattle.regress_ecma.specs.CharacterMatchers.{is_found}
use Rattle.regress_ecma.specs.Differences.{HasCaseDataOfUnicode, has_ends}
use Rattle.regress_ecma.proofs.ClassAtoms.{IsAtomOf as AtomOf, HasRelatedSets, atom_follows as each_atom_follows, with_hyphen, first_none, last_none}
use Rattle.regress_ecma.proofs.Follows.{Follows, follows_none, follows_some, follows_if, follows_then, follows_map}
use Rattle.regress_ecma.proofs.IgnoredCase.{member_passes}
use Rattle.regress_ecma.proofs.SameSets.{in_left, in_right}
use Rattle.regress_ecma.proofs.Sets.{same_truth, canonicalize-same, canonicalize-none, found_if, found_plain, found_gives, found_from, member_all}

-- The set has the members, and others only with their canonical forms.
pub record Covers (table : Table) (rer : Flags) (set' members : CharSet) : Type 0 where
  pub has : (c : ℕ) → is_member members c ≡ true → is_member set' c ≡ true
  pub from : (c : ℕ) → is_member set' c ≡ true → (m : ℕ) × (is_member members m ≡ true) × (canonicalize table rer m ≡ canonicalize table rer c)

-- With u and i no class that may contain `\W` is compared.
abbrev pub HasNoEnds : Flags → List Bounds → Type 0
HasNoEnds rer members = (rer.unicode && rer.icase) ≡ true → has_ends members ≡ false

-- the same in the dialect that is compared
abbrev pub in_regress : Parameters → Parameters
in_regress given = record given { dialect = Regress }

pub record IsCharSetOf (table : Table) (rer : Flags) (set' members : CharSet) : Type 0 where
  pub covers : HasNoEnds rer members → Covers table rer set' members

module _ (table : Table) (rer : Flags) where
  pub covers-same : (set' members : CharSet) → set' ≡ members → IsCharSetOf table rer set' members
  covers-same set' members same = record {
    covers = λ none. record {
      has = λ c member. ap (λ (s : CharSet). is_member s c) same ∙ member;
      from = λ c member. (c, ap (λ (s : CharSet). is_member s c) (sym same) ∙ member, refl);
    };
  }

  -- a member of a union is one of the first or of the second
  in_either : (a b : CharSet) (c : ℕ) → is_member (a ++ b) c ≡ true → (is_member a c ≡ true) ⊎ (is_member b c ≡ true)
  in_either a b c member = by_test (is_member a c) refl (sym (is_member-append a b c) ∙ member)
    where
      by_test : (x : Bool) → is_member a c ≡ x → (x || is_member b c) ≡ true → (is_member a c ≡ true) ⊎ (is_member b c ≡ true)
      by_test true e h = inl e
      by_test false e h = inr h

  no_ends : (members more : CharSet) → ((c : ℕ) → is_member members c ≡ true → is_member more c ≡ true) → HasNoEnds rer more → HasNoEnds rer members
  no_ends members more within none case' = by_test (has_ends members) refl
    where
      by_test : (b : Bool) → has_ends members ≡ b → b ≡ false
      by_test false e = refl
      by_test true e =
          let parts = and_parts (is_member members 0) (is_member members code_point_max) e in
          sym (ap₂ (λ (a b : Bool). a && b) (within 0 parts.0) (within code_point_max parts.1)) ∙ none case'

  pub covers-append : (a b m n : CharSet) → IsCharSetOf table rer a m → IsCharSetOf table rer b n → IsCharSetOf table rer (a ++ b) (m ++ n)
  covers-append a b m n first second = record {
    covers = λ none.
        let left : Covers table rer a m = first.covers (no_ends m (m ++ n) (in_left m n) none) in
        let right : Covers table rer b n = second.covers (no_ends n (m ++ n) (in_right m n) none) in
        record {
          has = λ c member.
              ⊎_elim (λ (h : is_member m c ≡ true). in_left a b c (left.has c h)) (λ (h : is_member n c ≡ true). in_right a b c (right.has c h))
              (in_either m n c member);
          from = λ c member.
              ⊎_elim
              (λ (h : is_member a c ≡ true). let found = left.from c h in (found.0, in_left m n found.0 found.1, found.2))
              (λ (h : is_member b c ≡ true). let found = right.from c h in (found.0, in_right m n found.0 found.1, found.2))
              (in_either a b c member);
        };
  }

module _ (table : Table) (maps : HasCaseDataOfUnicode table) (rer : Flags) (with_u : rer.unicode_sets ≡ true → rer.unicode ≡ true) where
  -- The same characters are found.
  pub covers-found : (set' members : CharSet) → Covers table rer set' members → (ch : ℕ) → is_found table rer set' ch ≡ is_found table rer members ch
  covers-found set' members covers ch = by_test rer.icase refl
    where
      by_test : (i : Bool) → rer.icase ≡ i → is_found table rer set' ch ≡ is_found table rer members ch
      by_test true e =
          found_if table maps rer with_u e set' ch
          ∙ same_truth _ _
          (λ h.
          let found = found_gives table maps rer with_u set' ch h in
          let m = covers.from found.0 found.1 in
          found_from table maps rer with_u members ch m.0 m.1 (m.2 ∙ found.2))
          (λ h.
          let found = found_gives table maps rer with_u members ch h in
          found_from table maps rer with_u set' ch found.0 (covers.has found.0 found.1) found.2)
          ∙ sym (found_if table maps rer with_u e members ch)
      by_test false e =
          found_plain table maps rer with_u e set' ch
          ∙ same_truth _ _
          (λ h.
          let m = covers.from ch h in
          let same : m.0 ≡ ch =
          sym (canonicalize-none table maps rer with_u e m.0) ∙ m.2 ∙ canonicalize-none table maps rer with_u e ch in
          sym (ap (is_member members) same) ∙ m.1)
          (λ h. covers.has ch h)
          ∙ sym (found_plain table maps rer with_u e members ch)

  module _ (no_fold : (rer.unicode_sets && rer.icase) ≡ false) where
    -- ---- sets without folding

    pub no_folding : (a : Elements) → maybe_simple_case_folding table rer a ≡ a
    no_folding a =
        ap (λ (b : Bool).
        if b then record a { characters = fold_characters table rer a.characters; strings = map (map table.fold) a.strings }
        else a) no_fold

    all_are : (c : ℕ) → c ≤ code_point_max → is_member (all_characters table rer) c ≡ true
    all_are c le =
        ap (λ (b : Bool). is_member (if b then intervals_of (λ x. table.fold x == x) else record { first = 0; last = code_point_max } ∷ []) c) no_fold
        ∙ member_all table maps rer with_u c le

    pub complement-same : (members : CharSet) → character_complement table rer members ≡ ClassProductions.complement members
    complement-same members =
        intervals_of-agree (λ c. is_member (all_characters table rer) c && not (is_member members c)) (λ c. not (is_member members c))
        (λ c le. ap (λ (b : Bool). b && not (is_member members c)) (all_are c le))

    pub folded_words : class_escape_set table rer Words ≡ word_characters table rer
    folded_words =
        ap (λ (b : Bool). if b then intervals_of (λ c. has_some (λ ch. table.fold ch == c) (word_characters table rer)) else word_characters table rer) no_fold

    abbrev is_basic : ℕ → Bool
    is_basic = is_member basic_word_characters

    -- Without u there are no extra word characters.
    no_extra : rer.icase ≡ true → rer.unicode ≡ false → (c : ℕ) → is_extra_word_character table rer c ≡ false
    no_extra icase plain c = by_test (is_basic c) refl (is_basic (canonicalize table rer c)) refl
      where
        upper : canonicalize table rer c ≡ table.uppercase c
        upper = canonicalize-same table maps rer with_u icase c ∙ ap (λ (b : Bool). Table.canonicalize table b c) plain

        by_test : (b : Bool) → is_basic c ≡ b → (d : Bool) → is_basic (canonicalize table rer c) ≡ d → (not (is_basic c) && is_basic (canonicalize table rer c)) ≡ false
        by_test true e d f = ap (λ (b : Bool). not b && is_basic (canonicalize table rer c)) e
        by_test false e false f = ap₂ (λ (a b : Bool). not a && b) e f
        by_test false e true f = absurd (false≢true (sym e ∙ maps.upper_words c (sym (ap is_basic upper) ∙ f)))

    pub words_plain : (rer.unicode && rer.icase) ≡ false → word_characters table rer ≡ basic_word_characters
    words_plain none = by_test rer.icase refl rer.unicode refl none
      where
        by_test : (i : Bool) → rer.icase ≡ i → (u : Bool) → rer.unicode ≡ u → (u && i) ≡ false → word_characters table rer ≡ basic_word_characters
        by_test false e u f h =
            ap (λ (b : Bool). if b then basic_word_characters ++ intervals_of (is_extra_word_character table rer) else basic_word_characters) e
        by_test true e true f h = absurd (false≢true (sym h))
        by_test true e false f h =
            ap (λ (b : Bool). if b then basic_word_characters ++ intervals_of (is_extra_word_character table rer) else basic_word_characters) e
            ∙ ap (λ (xs : List Bounds). basic_word_characters ++ xs)
            (sym (canonical_is [] (is_extra_word_character table rer) refl (λ c le. is_member-nil c ∙ sym (no_extra e f c))))

    words_cover : rer.icase ≡ true → rer.unicode ≡ true → Covers table rer (word_characters table rer) basic_word_characters
    words_cover icase u = record {
      has = λ c member. ap (λ (s : CharSet). is_member s c) words ∙ in_left basic_word_characters extra c member;
      from = λ c member.
          ⊎_elim
          (λ (h : is_basic c ≡ true). (c, h, refl))
          (λ (h : is_member extra c ≡ true).
          let passes = member_passes (is_extra_word_character table rer) c h in
          let parts = and_parts (not (is_basic c)) (is_basic (canonicalize table rer c)) passes.passes in
          (canonicalize table rer c, parts.1, twice c))
          (in_either table rer basic_word_characters extra c (ap (λ (s : CharSet). is_member s c) (sym words) ∙ member));
    }
      where
        extra : CharSet
        extra = intervals_of (is_extra_word_character table rer)

        words : word_characters table rer ≡ basic_word_characters ++ extra
        words = ap (λ (b : Bool). if b then basic_word_characters ++ extra else basic_word_characters) icase

        folds : (c : ℕ) → canonicalize table rer c ≡ table.fold c
        folds c = canonicalize-same table maps rer with_u icase c ∙ ap (λ (b : Bool). Table.canonicalize table b c) u

        twice : (c : ℕ) → canonicalize table rer (canonicalize table rer c) ≡ canonicalize table rer c
        twice c = folds (canonicalize table rer c) ∙ ap table.fold (folds c) ∙ maps.idempotent c ∙ sym (folds c)

    ends_are_basic : (not (is_basic 0) ≡ true) × (not (is_basic code_point_max) ≡ true)
    unfolding is_member is_within
    ends_are_basic = (refl, refl)

    ends_of_others : has_ends (ClassProductions.complement basic_word_characters) ≡ true
    ends_of_others =
        ap₂ (λ (a b : Bool). a && b) (intervals_of-member (λ c. not (is_basic c)) 0 (omega arith) ∙ ends_are_basic.0)
        (intervals_of-member (λ c. not (is_basic c)) code_point_max (omega arith) ∙ ends_are_basic.1)

    -- ---- class escapes

    -- Unless u and i are in force, both have the same word characters.
    abbrev ByCase : CharSet → CharSet → Type 0
    ByCase set' members =
        ((rer.unicode && rer.icase) ≡ false → set' ≡ members)
        → (rer.icase ≡ true → rer.unicode ≡ true → HasNoEnds rer members → Covers table rer set' members)
        → IsCharSetOf table rer set' members

    by_case : (set' members : CharSet) → ByCase set' members
    by_case set' members plain other = record { covers = λ none. by_test rer.icase refl rer.unicode refl none }
      where
        by_test : (i : Bool) → rer.icase ≡ i → (u : Bool) → rer.unicode ≡ u → HasNoEnds rer members → Covers table rer set' members
        by_test true e true f none = other e f none
        by_test true e false f none = (covers-same table rer set' members (plain (ap (λ (b : Bool). b && rer.icase) f))).covers none
        by_test false e u f none = (covers-same table rer set' members (plain (ap₂ (λ (a b : Bool). a && b) f e ∙ and_false u))).covers none
          where
            and_false : (b : Bool) → (b && false) ≡ false
            and_false true = refl
            and_false false = refl

    pub escape_is : (kind : CharacterClassType) (capital : Bool) →
        IsCharSetOf table rer (character_class_escape table rer kind capital) (complement_if capital (members_of kind))
    escape_is Digits false = covers-same table rer digits digits refl
    escape_is Digits true = covers-same table rer _ _ (complement-same digits)
    escape_is Spaces false = covers-same table rer (white_space ++ line_terminators) _ refl
    escape_is Spaces true = covers-same table rer _ _ (complement-same (white_space ++ line_terminators))
    escape_is Words false =
        by_case (class_escape_set table rer Words) basic_word_characters (λ plain. folded_words ∙ words_plain plain)
        (λ icase u none. subst (λ (s : CharSet). Covers table rer s basic_word_characters) (sym folded_words) (words_cover icase u))
    escape_is Words true =
        by_case (character_complement table rer (class_escape_set table rer Words)) (ClassProductions.complement basic_word_characters)
        (λ plain. ap (character_complement table rer) (folded_words ∙ words_plain plain) ∙ complement-same basic_word_characters)
        (λ icase u none. absurd (false≢true (sym (none (ap₂ (λ (a b : Bool). a && b) u icase)) ∙ ends_of_others)))

    pub property_is : (capital : Bool) (members : CharSet) →
        (atom_to_char_set table rer (property members capital)).characters ≡ complement_if capital members
    property_is true members =
        ap (λ (a : Elements). character_complement table rer a.characters) (no_folding (only members)) ∙ complement-same members
    property_is false members = ap (λ (a : Elements). a.characters) (no_folding (only members))

    -- ---- atoms

    abbrev IsAtomOf : ClassAtom → ClassProductions.ClassAtom → Type 0
    IsAtomOf = AtomOf table rer (IsCharSetOf table rer)

    atom_is : (node : ClassAtom) (a : ClassProductions.ClassAtom) → IsAtomOf node a →
        IsCharSetOf table rer (atom_to_char_set table rer node).characters (atom_members false a)
    atom_is node (point c) is =
        covers-same table rer _ _
        (ap (λ (n : ClassAtom). (atom_to_char_set table rer n).characters) is
        ∙ ap (λ (a : Elements). a.characters) (no_folding (only (one_character c))))
    atom_is node (set members) is = is.1

    module _ (given : Parameters) where
      abbrev parameters : Parameters
      parameters = in_regress given

      related : HasRelatedSets table rer parameters (IsCharSetOf table rer)
      related = record {
        escape = escape_is;
        property = λ capital members. covers-same table rer _ _ (property_is capital members);
      }

      atom_follows : (t : Source) → Follows IsAtomOf (ClassProductions.class_atom_at table parameters t) (class_atom_at table parameters t)
      atom_follows = each_atom_follows table rer parameters (IsCharSetOf table rer) related

      -- ---- parts

      abbrev IsContents : ClassContents → List Bounds → Type 0
      IsContents contents members = IsCharSetOf table rer (compile_to_char_set table rer contents).characters members

      abbrev IsPart : (ClassContents → ClassContents) → List Bounds → Type 0
      IsPart with_part members =
          (contents : ClassContents) (others : List Bounds) → IsContents contents others → IsContents (with_part contents) (members ++ others)

      atom_part : (node : ClassAtom) (a : ClassProductions.ClassAtom) → IsAtomOf node a → IsPart (atom_then node) (atom_members false a)
      atom_part node a is contents others h = covers-append table rer _ _ (atom_members false a) others (atom_is node a is) h

      range_part : (first last : ClassAtom) (members : List Bounds) →
          IsCharSetOf table rer
          (range_or_union (atom_to_char_set table rer first) (atom_to_char_set table rer last) (character_of first) (character_of last)).characters members →
          IsPart (range_then first last) members
      range_part first last members is contents others h =
          covers-append table rer _ _ members others
          (subst (λ (a : Elements). IsCharSetOf table rer a.characters members)
          (sym (no_folding (range_or_union (atom_to_char_set table rer first) (atom_to_char_set table rer last) (character_of first) (character_of last))))
          is)
          h

      points_part : (first last : ClassAtom) (a b : ℕ) → first ≡ character a → last ≡ character b →
          IsPart (range_then first last) (record { first = a; last = b } ∷ [])
      points_part first last a b is_first is_last =
          range_part first last _
          (subst
          (λ (o : Option ℕ). IsCharSetOf table rer
          (range_or_union (atom_to_char_set table rer first) (atom_to_char_set table rer last) o (character_of last)).characters (record { first = a; last = b } ∷ []))
          (sym (ap character_of is_first))
          (subst
          (λ (o : Option ℕ). IsCharSetOf table rer
          (range_or_union (atom_to_char_set table rer first) (atom_to_char_set table rer last) (Some a) o).characters (record { first = a; last = b } ∷ []))
          (sym (ap character_of is_last)) (covers-same table rer _ _ refl)))

      hyphen_part : (first last : ClassAtom) (a b : ClassProductions.ClassAtom) → IsAtomOf first a → IsAtomOf last b →
          range_or_union (atom_to_char_set table rer first) (atom_to_char_set table rer last) (character_of first) (character_of last)
          ≡ with_hyphen (atom_to_char_set table rer first) (atom_to_char_set table rer last) →
          IsPart (range_then first last) (atom_members false a ++ one_point (char "-") ++ atom_members false b)
      hyphen_part first last a b is_first is_last hyphen =
          range_part first last _
          (subst (λ (e : Elements). IsCharSetOf table rer e.characters (atom_members false a ++ one_point (char "-") ++ atom_members false b)) (sym hyphen)
          (subst (IsCharSetOf table rer (with_hyphen (atom_to_char_set table rer first) (atom_to_char_set table rer last)).characters)
          (sym (append_assoc (atom_members false a) (one_point (char "-")) (atom_members false b)))
          (covers-append table rer _ _ (atom_members false a) (one_point (char "-") ++ atom_members false b) (atom_is first a is_first)
          (covers-append table rer _ _ (one_point (char "-")) (atom_members false b) (covers-same table rer _ _ refl) (atom_is last b is_last)))))

      hyphen_follows : (first last : ClassAtom) (a b : ClassProductions.ClassAtom) (t : Source) → IsAtomOf first a → IsAtomOf last b →
          range_or_union (atom_to_char_set table rer first) (atom_to_char_set table rer last) (character_of first) (character_of last)
          ≡ with_hyphen (atom_to_char_set table rer first) (atom_to_char_set table rer last) →
          Follows IsPart
          (elim (members_with_hyphen parameters.unicode (atom_members false a) (atom_members false b)) as (λ _. Found (List Bounds)) [ None ↦ None | Some members ↦ Some (members, t) ])
          (Some (range_then first last, t))
      hyphen_follows first last a b t is_first is_last hyphen = by_test parameters.unicode
        where
          by_test : (u : Bool) →
              Follows IsPart
              (elim (members_with_hyphen u (atom_members false a) (atom_members false b)) as (λ _. Found (List Bounds)) [ None ↦ None | Some members ↦ Some (members, t) ])
              (Some (range_then first last, t))
          by_test true = follows_none IsPart _
          by_test false = follows_some IsPart (range_then first last) _ t (hyphen_part first last a b is_first is_last hyphen)

      points_follow : (first last : ClassAtom) (a b : ℕ) (t : Source) → first ≡ character a → last ≡ character b →
          Follows IsPart
          (elim (points_between a b) as (λ _. Found (List Bounds)) [ None ↦ None | Some members ↦ Some (members, t) ])
          (Some (range_then first last, t))
      points_follow first last a b t is_first is_last = by_test (nat_le a b)
        where
          maybe : Bool → Option (List Bounds)
          maybe ordered = if ordered then Some (record { first = a; last = b } ∷ []) else None

          by_test : (ordered : Bool) →
              Follows IsPart (elim (maybe ordered) as (λ _. Found (List Bounds)) [ None ↦ None | Some members ↦ Some (members, t) ])
              (Some (range_then first last, t))
          by_test true = follows_some IsPart (range_then first last) _ t (points_part first last a b is_first is_last)
          by_test false = follows_none IsPart _

      range_follows : (first last : ClassAtom) (a b : ClassProductions.ClassAtom) (t : Source) → IsAtomOf first a → IsAtomOf last b →
          Follows IsPart
          (elim (range_of false parameters.unicode a b) as (λ _. Found (List Bounds)) [ None ↦ None | Some members ↦ Some (members, t) ])
          (Some (range_then first last, t))
      range_follows first last (point a) (point b) t is_first is_last = points_follow first last a b t is_first is_last
      range_follows first last (point a) (set others) t is_first is_last =
          hyphen_follows first last (point a) (set others) t is_first is_last (last_none (atom_to_char_set table rer first) (atom_to_char_set table rer last) (character_of first) (character_of last) is_last.0)
      range_follows first last (set members) (point b) t is_first is_last =
          hyphen_follows first last (set members) (point b) t is_first is_last (first_none (atom_to_char_set table rer first) (atom_to_char_set table rer last) (character_of first) (character_of last) is_first.0)
      range_follows first last (set members) (set others) t is_first is_last =
          hyphen_follows first last (set members) (set others) t is_first is_last (first_none (atom_to_char_set table rer first) (atom_to_char_set table rer last) (character_of first) (character_of last) is_first.0)

      part_follows : (t : Source) → Follows IsPart (ClassProductions.class_part_at table parameters t) (class_part_at table parameters t)
      part_follows t =
          follows_then IsAtomOf IsPart _ _ _ _ (atom_follows t)
          (λ a first rest is_first.
          follows_if IsPart (begins_range rest) _ _ _ _
          (λ _.
          follows_then IsAtomOf IsPart _ _ _ _ (atom_follows (drop 1 rest))
          (λ b last after is_last. range_follows first last a b after is_first is_last))
          (λ _. follows_some IsPart (atom_then first) (atom_members false a) rest (atom_part first a is_first)))

      ranges_follow : (n : ℕ) (t : Source) → Follows IsContents (class_parts_by table parameters n t) (class_ranges_by table parameters n t)
      unfolding class_parts_by class_ranges_by
      ranges_follow zero t = follows_none IsContents None
      ranges_follow (suc n) t =
          follows_if IsContents (is_at (char "]") t) _ _ _ _
          (λ _. follows_some IsContents empty [] (drop 1 t) (covers-same table rer [] [] refl))
          (λ _.
          follows_then IsPart IsContents _ _ _ _ (part_follows t)
          (λ members with_part rest is_part.
          follows_map IsContents IsContents (λ others. members ++ others) with_part _ _ (ranges_follow n rest)
          (λ others contents is. is_part contents others is)))

      -- the class
      pub record IsClass (node : CharacterClass) (read : Bool × List Bounds) : Type 0 where
        pub invert : node.invert ≡ read.0
        pub contents : IsContents node.contents read.1

      pub class_follows : (t : Source) → Follows IsClass (class_at table parameters t) (character_class_at table parameters false t)
      unfolding class_at character_class_at
      class_follows t =
          let inside : Source = if is_at (char "^") t then drop 1 t else t in
          follows_map IsContents IsClass (λ members. (is_at (char "^") t, members)) (λ contents. record { invert = is_at (char "^") t; contents = contents })
          _ _ (ranges_follow (length inside + 1) inside)
          (λ members contents is. record { invert = refl; contents = is })
