-- Class escapes in a class of the dialect `Ecma`: the CharSet of ECMA-262 has the members of the syntax tree.
use Rattle.std.proofs.Common.{◌≡◌, ℕ, ◌<◌, ◌≤◌, Bool, true, false, not, ◌&&◌, ◌||◌, ◌++◌, if◌then◌else◌, refl, sym, ap, ap₂, ◌∙◌}
use Rattle.regress_base.specs.Classes.{digits, white_space, line_terminators, word_characters as basic_word_characters}
use Rattle.regress_base.specs.Intervals.{code_point_max, is_member, intervals_of}
use Rattle.regress_base.specs.Table.{Table, is_in_closure}
use Rattle.regress_base.specs.declared.charclasses.CharacterClassType.{CharacterClassType}
use Rattle.regress_base.specs.declared.charclasses.CharacterClassType.TheVariants.{Digits, Spaces, Words}
use Rattle.regress_base.specs.declared.types.Flags.{Flags}
use Rattle.regress_base.proofs.lemmas.Sets.{is_member-append, intervals_of-agree, intervals_of-canonical, no_member_past_end}
use Rattle.regress_lexer.specs.declared.dialect.Dialect.TheVariants.{Ecma}
use Rattle.regress_classes.specs.declared.parameters.Parameters.{Parameters}
use Rattle.regress_classes.specs.ClassProductions.{members_of, closed_members, class_members}
use Rattle.regress_ecma.specs.Notation.{CharSet}
use Rattle.regress_ecma.specs.Characters.{is_extra_word_character, word_characters, class_escape_set, character_class_escape}
use Rattle.regress_ecma.specs.Differences.{HasCaseDataOfUnicode}
use Rattle.regress_ecma.proofs.ClassAtoms.{HasRelatedSets}
use Rattle.regress_ecma.proofs.ClassMembers.{complement-same, folded_words, words_plain, property_is}
use Rattle.regress_ecma.proofs.IgnoredCase.{digits_uncased, spaces_uncased, closure_uncased}
use Rattle.regress_ecma.proofs.SameSets.{IsSame, same_lists, same_then, same_intervals}
use Rattle.regress_ecma.proofs.Sets.{word_member}

-- the parameters of a class in the dialect
abbrev pub in_ecma : Flags → (named : Bool) → Parameters
in_ecma rer named = record { dialect = Ecma; icase = rer.icase; unicode = rer.unicode; named = named }

pub and_false : (b : Bool) → (b && false) ≡ false
and_false true = refl
and_false false = refl

module _ (table : Table) (maps : HasCaseDataOfUnicode table) (rer : Flags) (with_u : rer.unicode_sets ≡ true → rer.unicode ≡ true)
    (no_fold : (rer.unicode_sets && rer.icase) ≡ false) (named : Bool) where
  abbrev parameters : Parameters
  parameters = in_ecma rer named

  -- Unless both u and i are set, no set is closed.
  plain_escape : (rer.unicode && rer.icase) ≡ false → (kind : CharacterClassType) → IsSame (class_escape_set table rer kind) (members_of kind)
  plain_escape none Digits = same_lists _ _ refl
  plain_escape none Spaces = same_lists _ _ refl
  plain_escape none Words =
      same_lists _ _ (folded_words table maps rer with_u no_fold ∙ words_plain table maps rer with_u no_fold none)

  module _ (icase : rer.icase ≡ true) (u : rer.unicode ≡ true) where
    words_past : (c : ℕ) → code_point_max < c → is_member (word_characters table rer) c ≡ false
    words_past c past =
        ap (λ (b : Bool). is_member (if b then basic_word_characters ++ intervals_of (is_extra_word_character table rer) else basic_word_characters) c) icase
        ∙ is_member-append basic_word_characters (intervals_of (is_extra_word_character table rer)) c
        ∙ ap₂ (λ (a b : Bool). a || b) (no_member_past_end basic_word_characters c refl past)
        (no_member_past_end (intervals_of (is_extra_word_character table rer)) c (intervals_of-canonical (is_extra_word_character table rer)) past)

    words_within : (c : ℕ) → c ≤ code_point_max → is_member (word_characters table rer) c ≡ is_in_closure table basic_word_characters c
    words_within c le =
        word_member table maps rer with_u c le
        ∙ ap₂ (λ (a b : Bool). if a && b then is_in_closure table basic_word_characters c else is_member basic_word_characters c) u icase

    spaces_past : (c : ℕ) → code_point_max < c → is_member (white_space ++ line_terminators) c ≡ false
    spaces_past c past =
        is_member-append white_space line_terminators c
        ∙ ap₂ (λ (a b : Bool). a || b) (no_member_past_end white_space c refl past) (no_member_past_end line_terminators c refl past)

    closed_escape : (kind : CharacterClassType) → IsSame (class_escape_set table rer kind) (intervals_of (is_in_closure table (members_of kind)))
    closed_escape Digits =
        same_intervals digits (is_in_closure table digits) (λ c past. no_member_past_end digits c refl past)
        (λ c le. sym (closure_uncased table maps rer with_u icase digits digits_uncased c le))
    closed_escape Spaces =
        same_intervals (white_space ++ line_terminators) (is_in_closure table (white_space ++ line_terminators)) spaces_past
        (λ c le. sym (closure_uncased table maps rer with_u icase (white_space ++ line_terminators) spaces_uncased c le))
    closed_escape Words =
        same_then _ _ _ (same_lists _ _ (folded_words table maps rer with_u no_fold))
        (same_intervals (word_characters table rer) (is_in_closure table basic_word_characters) words_past words_within)

  abbrev closed_if : Bool → CharSet → CharSet
  closed_if b members = if b then intervals_of (is_in_closure table members) else members

  letter_same : (kind : CharacterClassType) → IsSame (class_escape_set table rer kind) (closed_members table parameters (members_of kind))
  letter_same kind = by_tests rer.icase refl rer.unicode refl
    where
      by_tests : (i : Bool) → rer.icase ≡ i → (u : Bool) → rer.unicode ≡ u → IsSame (class_escape_set table rer kind) (closed_if (i && u) (members_of kind))
      by_tests true e true f = closed_escape e f kind
      by_tests true e false f = plain_escape (ap (λ (b : Bool). b && rer.icase) f) kind
      by_tests false e u f = plain_escape (ap (λ (b : Bool). rer.unicode && b) e ∙ and_false rer.unicode) kind

  escape_same : (kind : CharacterClassType) (capital : Bool) →
      IsSame (character_class_escape table rer kind capital) (class_members table parameters (kind, capital))
  escape_same kind false = letter_same kind
  escape_same kind true =
      same_lists _ _
      (complement-same table maps rer with_u no_fold (class_escape_set table rer kind)
      ∙ intervals_of-agree (λ c. not (is_member (class_escape_set table rer kind) c))
      (λ c. not (is_member (closed_members table parameters (members_of kind)) c))
      (λ c le. ap not ((letter_same kind).same c)))

  pub related : HasRelatedSets table rer parameters IsSame
  related = record {
    escape = escape_same;
    property = λ capital members. same_lists _ _ (property_is table maps rer with_u no_fold capital members);
  }
