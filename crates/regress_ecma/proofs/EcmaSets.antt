-- Classes, class escapes and properties in the dialect `Ecma`: what the CharSet of ECMA-262 finds, and what the syntax tree
-- matches.
use Rattle.std.proofs.Common.{◌≡◌, ℕ, ◌≤◌, ◌==◌, Bool, true, false, not, ◌&&◌, ◌++◌, if◌then◌else◌, nat_le, refl, sym, ap, subst, ◌∙◌, arith}
use Rattle.std.proofs.lemmas.Bool.{eq-eqb, eqb-true, false≢true}
use Rattle.std.proofs.lemmas.Bool.Decides.{nat_tests}
use Rattle.regress_base.specs.Classes.{digits, white_space, line_terminators, word_characters as basic_word_characters}
use Rattle.regress_base.specs.Intervals.{code_point_max, is_member, intervals_of}
use Rattle.regress_base.specs.Table.{Table, is_in_closure}
use Rattle.regress_base.specs.declared.charclasses.CharacterClassType.{CharacterClassType}
use Rattle.regress_base.specs.declared.charclasses.CharacterClassType.TheVariants.{Digits, Spaces, Words}
use Rattle.regress_base.specs.declared.types.Flags.{Flags}
use Rattle.regress_base.proofs.lemmas.Sets.{intervals_of-member}
use Rattle.regress_unicode.specs.UppercaseClosure.{is_in_uppercase_closure}
use Rattle.regress_classes.specs.ClassProductions.{members_of, complement}
use Rattle.regress_tree.specs.Assertions.{differ}
use Rattle.regress_syntax.specs.Meaning.{is_in_class}
use Rattle.regress_ecma.specs.Notation.{CharSet}
use Rattle.regress_ecma.specs.Characters.{canonicalize, has_some, character_complement, character_class_escape}
use Rattle.regress_ecma.specs.CharacterMatchers.{is_found}
use Rattle.regress_ecma.specs.CharSets.{atom_to_char_set}
use Rattle.regress_ecma.specs.ClassNodes.{property}
use Rattle.regress_ecma.specs.Differences.{HasCaseDataOfUnicode, is_words}
use Rattle.regress_ecma.proofs.CharacterSets.{IsSetOf}
use Rattle.regress_ecma.proofs.ClassMembers.{covers-found, complement-same, folded_words, words_plain, property_is}
use Rattle.regress_ecma.proofs.IgnoredCase.{digits_uncased, spaces_uncased, class_with_u, uppers, found_complement, uncased_same, escape_in_case}
use Rattle.regress_ecma.proofs.Members.{has_some_from, has_some_gives}
use Rattle.regress_ecma.proofs.SameSets.{IsSame}
use Rattle.regress_ecma.proofs.Sets.{same_truth, found_if, found_gives, found_from, complement_is_set, class_is_set, escape_is_set}

-- The upper case of a word character is a word character.
abbrev pub KeepsWords : Table → Type 0
KeepsWords table = (c : ℕ) → is_member basic_word_characters c ≡ true → is_member basic_word_characters (table.uppercase c) ≡ true

-- what the flags and members of the syntax tree are where classes are compared by upper cases
abbrev pub flags_if : Flags → Bool → Flags
flags_if rer b = if b then record rer { icase = false } else rer

abbrev pub members_if : Table → CharSet → Bool → CharSet
members_if table members b = if b then intervals_of (is_in_uppercase_closure table members) else members

upper_closure : (table : Table) (set : CharSet) (ch : ℕ) → ch ≤ code_point_max →
    is_in_uppercase_closure table set ch ≡ has_some (λ m. table.uppercase m == table.uppercase ch) set
unfolding is_in_closure
upper_closure table set ch le =
    let small : nat_le ch code_point_max ≡ true = grind (arith, nat_tests) in
    rw small refl

module _ (table : Table) (maps : HasCaseDataOfUnicode table) (rer : Flags) (with_u : rer.unicode_sets ≡ true → rer.unicode ≡ true) where
  -- ---- the same members

  found_same : (set' members : CharSet) → IsSame set' members → (ch : ℕ) → is_found table rer set' ch ≡ is_found table rer members ch
  found_same set' members is =
      covers-found table maps rer with_u set' members
      (record { has = λ c member. is.same c ∙ member; from = λ c member. (c, sym (is.same c) ∙ member, refl) })

  same_set : (set' members : CharSet) (inverted : Bool) (test : ℕ → Bool) → IsSame set' members → IsSetOf table rer members inverted test →
      IsSetOf table rer set' inverted test
  same_set set' members inverted test is set ch le = ap (differ inverted) (found_same set' members is ch) ∙ set ch le

  module _ (icase : rer.icase ≡ true) (u : rer.unicode ≡ false) where
    -- ---- with the flag i, without u

    found_upper : (members : CharSet) (ch : ℕ) → ch ≤ code_point_max →
        is_found table rer members ch ≡ is_member (intervals_of (is_in_uppercase_closure table members)) ch
    found_upper members ch le =
        found_if table maps rer with_u icase members ch
        ∙ same_truth _ (has_some (λ m. table.uppercase m == table.uppercase ch) members)
        (λ h.
        let found = found_gives table maps rer with_u members ch h in
        has_some_from (λ m. table.uppercase m == table.uppercase ch) members found.0 found.1
        (eq-eqb _ _ (sym (upper found.0) ∙ found.2 ∙ upper ch)))
        (λ h.
        let found = has_some_gives (λ m. table.uppercase m == table.uppercase ch) members h in
        found_from table maps rer with_u members ch found.0 found.1 (upper found.0 ∙ eqb-true _ _ found.2 ∙ sym (upper ch)))
        ∙ sym (upper_closure table members ch le)
        ∙ sym (intervals_of-member (is_in_uppercase_closure table members) ch le)
      where
        upper : (c : ℕ) → canonicalize table rer c ≡ table.uppercase c
        upper = uppers table maps rer with_u icase u

    upper_class : (inverted : Bool) (members : CharSet) →
        IsSetOf table rer members inverted (is_in_class table (flags_if rer true) inverted (members_if table members true))
    upper_class inverted members ch le = ap (differ inverted) (found_upper members ch le)

    -- Characters with the same canonical form are in the set or not in it.
    abbrev IsClosed : CharSet → Type 0
    IsClosed set = (a b : ℕ) → canonicalize table rer a ≡ canonicalize table rer b → is_member set a ≡ is_member set b

    found_itself : (set : CharSet) → IsClosed set → (ch : ℕ) → is_found table rer set ch ≡ is_member set ch
    found_itself set closed ch =
        found_if table maps rer with_u icase set ch
        ∙ same_truth _ (is_member set ch)
        (λ h.
        let found = found_gives table maps rer with_u set ch h in
        sym (closed found.0 ch found.2) ∙ found.1)
        (λ h. found_from table maps rer with_u set ch ch h refl)

    closed_set : (set : CharSet) → IsClosed set → (negated : Bool) →
        IsSetOf table rer (if negated then character_complement table rer set else set) false (is_in_class table (flags_if rer true) negated set)
    closed_set set closed false ch le = found_itself set closed ch
    closed_set set closed true ch le =
        found_complement table maps rer with_u icase set (is_member set) (λ c le any. refl) closed ch le

    words_closed : KeepsWords table → IsClosed basic_word_characters
    words_closed keeps a b e = same_truth _ _ (carried a b (upper a b e)) (carried b a (sym (upper a b e)))
      where
        upper : (a b : ℕ) → canonicalize table rer a ≡ canonicalize table rer b → table.uppercase a ≡ table.uppercase b
        upper a b e = sym (uppers table maps rer with_u icase u a) ∙ e ∙ uppers table maps rer with_u icase u b

        carried : (a b : ℕ) → table.uppercase a ≡ table.uppercase b → is_member basic_word_characters a ≡ true → is_member basic_word_characters b ≡ true
        carried a b e member = maps.upper_words b (sym (ap (is_member basic_word_characters) e) ∙ keeps a member)

    no_fold : (rer.unicode_sets && rer.icase) ≡ false
    no_fold = by_test rer.unicode_sets refl
      where
        by_test : (v : Bool) → rer.unicode_sets ≡ v → (v && rer.icase) ≡ false
        by_test true e = absurd (false≢true (sym u ∙ with_u e))
        by_test false e = refl

    upper_escape : KeepsWords table → (kind : CharacterClassType) (negated : Bool) →
        IsSetOf table rer (character_class_escape table rer kind negated) false (is_in_class table (flags_if rer true) negated (members_of kind))
    upper_escape keeps Digits negated = closed_set digits (uncased_same table maps rer with_u icase digits digits_uncased) negated
    upper_escape keeps Spaces negated =
        closed_set (white_space ++ line_terminators) (uncased_same table maps rer with_u icase (white_space ++ line_terminators) spaces_uncased) negated
    upper_escape keeps Words negated =
        subst
        (λ (set : CharSet). IsSetOf table rer (if negated then character_complement table rer set else set) false
        (is_in_class table (flags_if rer true) negated basic_word_characters))
        (sym (folded_words table maps rer with_u no_fold ∙ words_plain table maps rer with_u no_fold (ap (λ (b : Bool). b && rer.icase) u)))
        (closed_set basic_word_characters (words_closed keeps) negated)

  -- ---- classes and class escapes

  -- Classes are compared by upper cases.
  abbrev compares : Bool
  compares = rer.icase && not rer.unicode

  class_same : (inverted : Bool) (members : CharSet) →
      IsSetOf table rer members inverted (is_in_class table (flags_if rer compares) inverted (members_if table members compares))
  class_same inverted members = by_tests rer.icase refl rer.unicode refl
    where
      by_tests : (i : Bool) → rer.icase ≡ i → (u : Bool) → rer.unicode ≡ u →
          IsSetOf table rer members inverted (is_in_class table (flags_if rer (i && not u)) inverted (members_if table members (i && not u)))
      by_tests true e true f = class_with_u table maps rer with_u e f inverted members
      by_tests true e false f = upper_class e f inverted members
      by_tests false e u f = class_is_set table maps rer with_u e inverted members

  pub class_finds : (inverted : Bool) (members set' : CharSet) → IsSame set' members →
      IsSetOf table rer set' inverted (is_in_class table (flags_if rer compares) inverted (members_if table members compares))
  class_finds inverted members set' is = same_set set' members inverted _ is (class_same inverted members)

  pub escape_finds : KeepsWords table → (kind : CharacterClassType) (negated : Bool) →
      IsSetOf table rer (character_class_escape table rer kind negated) false (is_in_class table (flags_if rer compares) negated (members_of kind))
  escape_finds keeps kind negated = by_tests rer.icase refl rer.unicode refl
    where
      by_tests : (i : Bool) → rer.icase ≡ i → (u : Bool) → rer.unicode ≡ u →
          IsSetOf table rer (character_class_escape table rer kind negated) false (is_in_class table (flags_if rer (i && not u)) negated (members_of kind))
      by_tests true e true f = escape_in_case table maps rer with_u e kind negated (ap (λ (u : Bool). not u && is_words kind) f)
      by_tests true e false f = upper_escape e f keeps kind negated
      by_tests false e u f = escape_is_set table maps rer with_u e kind negated

  -- ---- properties, with the flag u and not with both v and i

  module _ (no_fold : (rer.unicode_sets && rer.icase) ≡ false) (u : rer.unicode ≡ true) where
    plain_class : (inverted : Bool) (members : CharSet) → IsSetOf table rer members inverted (is_in_class table rer inverted members)
    plain_class inverted members = by_test rer.icase refl
      where
        by_test : (i : Bool) → rer.icase ≡ i → IsSetOf table rer members inverted (is_in_class table rer inverted members)
        by_test true e = class_with_u table maps rer with_u e u inverted members
        by_test false e = class_is_set table maps rer with_u e inverted members

    abbrev property_set : Bool → CharSet → CharSet
    property_set capital members = (atom_to_char_set table rer (property members capital)).characters

    pub property_finds : (members : CharSet) → IsSetOf table rer (property_set false members) false (is_in_class table rer false members)
    property_finds members =
        subst (λ (set : CharSet). IsSetOf table rer set false (is_in_class table rer false members))
        (sym (property_is table maps rer with_u no_fold false members)) (plain_class false members)

    -- the complement is taken first
    pub first_finds : (members : CharSet) → IsSetOf table rer (property_set true members) false (is_in_class table rer false (complement members))
    first_finds members =
        subst (λ (set : CharSet). IsSetOf table rer set false (is_in_class table rer false (complement members)))
        (sym (property_is table maps rer with_u no_fold true members)) (plain_class false (complement members))

    pub last_finds : rer.icase ≡ false → (members : CharSet) →
        IsSetOf table rer (property_set true members) false (is_in_class table rer true members)
    last_finds plain members =
        subst (λ (set : CharSet). IsSetOf table rer set false (is_in_class table rer true members))
        (complement-same table maps rer with_u no_fold members ∙ sym (property_is table maps rer with_u no_fold true members))
        (complement_is_set table maps rer with_u plain members)
