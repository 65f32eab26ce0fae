-- Examples: the members of classes, and the characters that literals match with the flag i. The trees of such patterns
-- have these code points as sets and lists, which computation would have to search for among all code points.
use Rattle.std.proofs.Common.{◌≡◌, ℕ, ◌≤◌, Bool, true, false, not, ◌&&◌, ◌||◌, if◌then◌else◌, ◌==◌, nat_le, List, [], ◌∷◌, ◌++◌, refl, sym, ap, subst, ◌∙◌, arith}
use Rattle.std.proofs.lemmas.Bool.{eqb-true}
use Rattle.std.proofs.lemmas.Bool.Decides.{nat_tests}
use Rattle.std.specs.List.{list_any}
use Rattle.regress_base.specs.Classes.{digits, white_space, line_terminators, word_characters}
use Rattle.regress_base.specs.Intervals.{Bounds, code_point_max, is_member, is_within, intervals_of, IsCanonical}
use Rattle.regress_base.proofs.lemmas.Sets.{canonical_is, intervals_of-member}
use Rattle.regress_base.specs.Listing.{IsListing, code_points}
use Rattle.regress_base.specs.Table.{Table, denotes, class_of, is_in_closure}
use Rattle.regress_base.proofs.lemmas.Literals.{listing_is_listed}
use Rattle.regress_classes.specs.ClassProductions.{complement}
use Rattle.example_definitions.proofs.Meanings.{empty_table, run}

-- ---- classes without the flag i

-- A list in canonical form is the set of its members.
pub own_set : (members : List Bounds) → IsCanonical members → intervals_of (is_member members) ≡ members
own_set members can = sym (canonical_is members (is_member members) can (λ c h. refl))

abbrev pub no_digits : List Bounds
no_digits = run 0 0x2F ∷ run 0x3A 0x10FFFF ∷ []

pub no_digits_set : intervals_of (λ c. not (is_member digits c)) ≡ no_digits
unfolding is_member is_within
no_digits_set = sym (canonical_is no_digits (λ c. not (is_member digits c)) refl same)
  where
    same : (c : ℕ) → c ≤ code_point_max → is_member no_digits c ≡ not (is_member digits c)
    same c h = grind (arith, nat_tests)

abbrev pub spaces : List Bounds
spaces =
    run 0x9 0xD ∷ run 0x20 0x20 ∷ run 0xA0 0xA0 ∷ run 0x1680 0x1680 ∷ run 0x2000 0x200A ∷ run 0x2028 0x2029 ∷ run 0x202F 0x202F
    ∷ run 0x205F 0x205F ∷ run 0x3000 0x3000 ∷ run 0xFEFF 0xFEFF ∷ []

spaces_are : (c : ℕ) → is_member spaces c ≡ is_member (white_space ++ line_terminators) c
unfolding is_member is_within
spaces_are c = grind (arith, nat_tests)

pub spaces_set : intervals_of (is_member (white_space ++ line_terminators)) ≡ spaces
spaces_set = sym (canonical_is spaces (is_member (white_space ++ line_terminators)) refl (λ c h. spaces_are c))

abbrev pub no_spaces : List Bounds
no_spaces =
    run 0 0x8 ∷ run 0xE 0x1F ∷ run 0x21 0x9F ∷ run 0xA1 0x167F ∷ run 0x1681 0x1FFF ∷ run 0x200B 0x2027 ∷ run 0x202A 0x202E
    ∷ run 0x2030 0x205E ∷ run 0x2060 0x2FFF ∷ run 0x3001 0xFEFE ∷ run 0xFF00 0x10FFFF ∷ []

no_spaces_are : (c : ℕ) → c ≤ code_point_max → is_member no_spaces c ≡ not (is_member spaces c)
unfolding is_member is_within
no_spaces_are c h = parted (nat_le c 0x2000) refl
  where
    parted : (low : Bool) → nat_le c 0x2000 ≡ low → is_member no_spaces c ≡ not (is_member spaces c)
    parted true e = grind (arith, nat_tests, e)
    parted false e = grind (arith, nat_tests, e, h)

pub no_spaces_set : intervals_of (λ c. not (is_member (white_space ++ line_terminators) c)) ≡ no_spaces
no_spaces_set = sym (canonical_is no_spaces (λ c. not (is_member (white_space ++ line_terminators) c)) refl same)
  where
    same : (c : ℕ) → c ≤ code_point_max → is_member no_spaces c ≡ not (is_member (white_space ++ line_terminators) c)
    same c h = no_spaces_are c h ∙ ap not (spaces_are c)

abbrev pub hyphen_and_digits : List Bounds
hyphen_and_digits = run 45 45 ∷ run 48 57 ∷ run 122 122 ∷ []

pub hyphen_set : intervals_of (is_member (digits ++ run 45 45 ∷ run 122 122 ∷ [])) ≡ hyphen_and_digits
unfolding is_member is_within
hyphen_set = sym (canonical_is hyphen_and_digits (is_member (digits ++ run 45 45 ∷ run 122 122 ∷ [])) refl same)
  where
    same : (c : ℕ) → c ≤ code_point_max → is_member hyphen_and_digits c ≡ is_member (digits ++ run 45 45 ∷ run 122 122 ∷ []) c
    same c h = grind (arith, nat_tests)

-- `[abc]`
pub letters_set : intervals_of (is_member (run 97 97 ∷ run 98 98 ∷ run 99 99 ∷ [])) ≡ run 97 99 ∷ []
unfolding is_member is_within
letters_set = sym (canonical_is (run 97 99 ∷ []) (is_member (run 97 97 ∷ run 98 98 ∷ run 99 99 ∷ [])) refl same)
  where
    same : (c : ℕ) → c ≤ code_point_max → is_member (run 97 99 ∷ []) c ≡ is_member (run 97 97 ∷ run 98 98 ∷ run 99 99 ∷ []) c
    same c h = grind (arith, nat_tests)

-- `[\w--\d]`
abbrev pub words_but_digits : List Bounds
words_but_digits = run 0x41 0x5A ∷ run 0x5F 0x5F ∷ run 0x61 0x7A ∷ []

pub words_but_digits_set : intervals_of (λ c. is_member word_characters c && not (is_member digits c)) ≡ words_but_digits
unfolding is_member is_within
words_but_digits_set = sym (canonical_is words_but_digits (λ c. is_member word_characters c && not (is_member digits c)) refl same)
  where
    same : (c : ℕ) → c ≤ code_point_max → is_member words_but_digits c ≡ (is_member word_characters c && not (is_member digits c))
    same c h = grind (arith, nat_tests)

abbrev small_letters : List Bounds
small_letters = run 97 122 ∷ []

abbrev vowels : List Bounds
vowels = run 97 97 ∷ run 101 101 ∷ run 105 105 ∷ run 111 111 ∷ run 117 117 ∷ []

-- `[[a-z]&&[^aeiou]]`
abbrev pub consonants : List Bounds
consonants = run 98 100 ∷ run 102 104 ∷ run 106 110 ∷ run 112 116 ∷ run 118 122 ∷ []

consonants_are : (c : ℕ) → is_member consonants c ≡ (is_member small_letters c && not (is_member vowels c))
unfolding is_member is_within
consonants_are c = grind (arith, nat_tests)

pub consonants_set : intervals_of (λ c. is_member small_letters c && is_member (complement vowels) c) ≡ consonants
consonants_set = sym (canonical_is consonants (λ c. is_member small_letters c && is_member (complement vowels) c) refl same)
  where
    same : (c : ℕ) → c ≤ code_point_max → is_member consonants c ≡ (is_member small_letters c && is_member (complement vowels) c)
    same c h =
        consonants_are c
        ∙ ap (λ there. is_member small_letters c && there) (sym (intervals_of-member (λ d. not (is_member vowels d)) c h))

-- ---- literals with the flag i, with a table of a few letters

-- the case foldings and upper cases of a, b, k, s, e acute and theta, and of what else folds to them
abbrev pub few_letters : Table
few_letters = record empty_table {
  fold = λ c.
      if c == 0x41 then 0x61
      else if c == 0x42 then 0x62
      else if c == 0x4B || c == 0x212A then 0x6B
      else if c == 0x53 || c == 0x17F then 0x73
      else if c == 0xC9 then 0xE9
      else if c == 0x398 || c == 0x3F4 then 0x3B8
      else c;
  uppercase = λ c.
      if c == 0x61 then 0x41
      else if c == 0x62 then 0x42
      else if c == 0x6B then 0x4B
      else if c == 0x73 then 0x53
      else if c == 0xE9 then 0xC9
      else if c == 0x3B8 then 0x398
      else c;
}

abbrev pub letters : Bool → ℕ → List ℕ
letters unicode c = class_of few_letters true unicode c

-- A letter matches the letters of a list.
occurs_for_these : (unicode : Bool) (c : ℕ) (xs : List ℕ) → IsListing (denotes few_letters true unicode c) xs → letters unicode c ≡ xs
occurs_for_these unicode c xs listing = sym (listing_is_listed (denotes few_letters true unicode c) xs listing)

pub a_in_two_cases : letters false 0x61 ≡ 0x41 ∷ 0x61 ∷ []
a_in_two_cases = occurs_for_these false 0x61 _ (record { ascending = refl; members = λ x. grind (arith, nat_tests) })

pub b_in_two_cases : letters false 0x62 ≡ 0x42 ∷ 0x62 ∷ []
b_in_two_cases = occurs_for_these false 0x62 _ (record { ascending = refl; members = λ x. grind (arith, nat_tests) })

pub k_in_two_cases : letters false 0x6B ≡ 0x4B ∷ 0x6B ∷ []
k_in_two_cases = occurs_for_these false 0x6B _ (record { ascending = refl; members = λ x. grind (arith, nat_tests) })

pub e_acute_in_two_cases : letters false 0xE9 ≡ 0xC9 ∷ 0xE9 ∷ []
e_acute_in_two_cases = occurs_for_these false 0xE9 _ (record { ascending = refl; members = λ x. grind (arith, nat_tests) })

pub long_s_alone : letters false 0x17F ≡ 0x17F ∷ []
long_s_alone = occurs_for_these false 0x17F _ (record { ascending = refl; members = λ x. grind (arith, nat_tests) })

pub k_with_u : letters true 0x6B ≡ 0x4B ∷ 0x6B ∷ 0x212A ∷ []
k_with_u = occurs_for_these true 0x6B _ (record { ascending = refl; members = λ x. grind (arith, nat_tests) })

pub s_with_u : letters true 0x17F ≡ 0x53 ∷ 0x73 ∷ 0x17F ∷ []
s_with_u = occurs_for_these true 0x17F _ (record { ascending = refl; members = λ x. grind (arith, nat_tests) })

pub theta_with_u : letters true 0x3B8 ≡ 0x398 ∷ 0x3B8 ∷ 0x3F4 ∷ []
theta_with_u = occurs_for_these true 0x3B8 _ (record { ascending = refl; members = λ x. grind (arith, nat_tests) })

-- ---- classes with the flag i

-- a class without a character
pub closed_nothing : intervals_of (is_in_closure few_letters []) ≡ []
unfolding is_member is_in_closure
closed_nothing = sym (canonical_is [] (is_in_closure few_letters []) refl (λ c h. grind arith))

abbrev pub closed_k : List Bounds
closed_k = run 0x4B 0x4B ∷ run 0x6B 0x6B ∷ run 0x212A 0x212A ∷ []

pub k_set : intervals_of (is_in_closure few_letters (run 0x6B 0x6B ∷ [])) ≡ closed_k
unfolding is_member is_within is_in_closure
k_set = sym (canonical_is closed_k (is_in_closure few_letters (run 0x6B 0x6B ∷ [])) refl same)
  where
    same : (c : ℕ) → c ≤ code_point_max → is_member closed_k c ≡ is_in_closure few_letters (run 0x6B 0x6B ∷ []) c
    same c h = grind (arith, nat_tests)

-- ---- words with the flags i and u, with a table of the letter s

abbrev pub only_s : Table
only_s = record empty_table { fold = λ c. if c == 0x53 || c == 0x17F then 0x73 else c }

-- whether a member of the interval folds to this character
abbrev folds_to : Bounds → ℕ → Bool
folds_to iv mapped = list_any (λ c. only_s.fold c == mapped) (code_points iv)

digits_fold : (c : ℕ) → folds_to (run 0x30 0x39) c ≡ is_within (run 0x30 0x39) c
unfolding is_within
digits_fold c = grind (arith, nat_tests)

capitals_fold : (c : ℕ) → folds_to (run 0x41 0x5A) c ≡ ((is_within (run 0x41 0x5A) c && not (c == 0x53)) || c == 0x73)
unfolding is_within
capitals_fold c = grind (arith, nat_tests)

small_letters_fold : (c : ℕ) → folds_to (run 0x61 0x7A) c ≡ is_within (run 0x61 0x7A) c
unfolding is_within
small_letters_fold c = grind (arith, nat_tests)

abbrev pub closed_words : List Bounds
closed_words = word_characters ++ run 0x17F 0x17F ∷ []

closed_words_are : (c : ℕ) → c ≤ code_point_max → is_member closed_words c ≡ is_in_closure only_s word_characters c
unfolding is_member is_within is_in_closure
closed_words_are c h = by_letter (c == 0x53) (c == 0x17F) refl refl
  where
    Same : ℕ → Type 0
    Same x = is_member closed_words x ≡ is_in_closure only_s word_characters x

    by_letter : (capital long : Bool) → (c == 0x53) ≡ capital → (c == 0x17F) ≡ long → Same c
    by_letter true long e f = subst Same (sym (eqb-true c 0x53 e)) refl
    by_letter false true e f = subst Same (sym (eqb-true c 0x17F f)) refl
    by_letter false false e f =
        let stays : only_s.fold c ≡ c = rw (e, f) refl in
        rw (stays, digits_fold c, capitals_fold c, small_letters_fold c) grind (arith, nat_tests, e, f, h)

pub closed_words_set : intervals_of (is_in_closure only_s word_characters) ≡ closed_words
closed_words_set = sym (canonical_is closed_words (is_in_closure only_s word_characters) refl closed_words_are)
