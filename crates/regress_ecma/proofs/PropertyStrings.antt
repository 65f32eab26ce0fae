-- A property of strings outside of a class, whose strings are tried longest first.
use Rattle.std.proofs.Common.{◌≡◌, ℕ, zero, suc, ◌+◌, ◌-◌, ◌≤◌, ◌<◌, ◌==◌, nat_lt, Bool, true, false, ◌||◌, cond, List, [], ◌∷◌, ◌++◌, length, map, filter, Option, Some, None, option_map, All, if◌then◌else◌, refl, sym, ap, ap₂, subst, ◌∙◌, arith, append_assoc}
use Rattle.std.specs.List.{concat, list_any, list_all}
use Rattle.std.specs.Option.{IfSome, option_or}
use Rattle.std.specs.Str.{bytes_eq}
use Rattle.std.proofs.lemmas.Bool.{and_parts, ne_eqb, eq-eqb, eqb-true}
use Rattle.std.proofs.lemmas.Bool.Decides.{nat_tests}
use Rattle.std.proofs.lemmas.List.{length-append}
use Rattle.std.proofs.lemmas.List.Elements.{All-nil, All-cons, All-head, All-tail, All-append, All-filter, All-weaker}
use Rattle.regress_base.specs.Intervals.{Bounds, is_member}
use Rattle.regress_base.specs.Listing.{code_points}
use Rattle.regress_base.specs.Table.{Table, Named, named, is_string, HasStrings}
use Rattle.regress_base.specs.declared.types.Flags.{Flags}
use Rattle.regress_base.proofs.lemmas.Sets.{is_member-append}
use Rattle.regress_lexer.specs.Source.{Source, is_at, IsCodePoint}
use Rattle.regress_classes.specs.Properties.{Property, of_points, of_strings, list_named, strings_named, lone_value, value_in, closed_property, property_at, property_word_at}
use Rattle.regress_tree.specs.Reading.{Direction, forwards, backwards, Read, next_character, of_characters}
use Rattle.regress_tree.specs.References.{all_of, in_order, any_string}
use Rattle.regress_tree.specs.Steps as Steps
use Rattle.regress_tree.specs.Steps.{IsStateOf, moved, stay, ◌then_◌, ◌or_◌}
use Rattle.regress_tree.proofs.lemmas.Outcomes.{flat_map-stay}
use Rattle.regress_tree.proofs.lemmas.Simulation.{IsReached}
use Rattle.regress_ecma.specs.Notation.{CharSet, MatchResult, failure, Continuation}
use Rattle.regress_ecma.specs.Characters.{canonicalize, has_some}
use Rattle.regress_ecma.specs.CharacterMatchers.{is_found, character_set_matcher}
use Rattle.regress_ecma.specs.Atoms.{one_character, descending, singles_of, compile_strings, string_matcher, alternatives}
use Rattle.regress_ecma.specs.Compared.{state_on}
use Rattle.regress_ecma.proofs.Bridge.{first_result, first_result-append, Agrees}
use Rattle.regress_ecma.proofs.CharacterSets.{IsSetOf, Agrees-character}
use Rattle.regress_ecma.proofs.Holds.{Holds, holds_none, holds_some, holds_if, holds_then}
use Rattle.regress_syntax.specs.Meaning.{longest_first}
use Rattle.regress_ecma.proofs.Strings.{Agrees-same, any_agrees, descending-same}

-- ---- the strings of a table

abbrev pub HasNoEmpty : List (List ℕ) → Type 0
HasNoEmpty strings = All (λ s. 1 ≤ length s) strings

abbrev pub HasStringsOnly : Property → Type 0
HasStringsOnly (of_points members) = Unit {0}
HasStringsOnly (of_strings written) = HasNoEmpty written

some_if : {A : Type 0} (P : A → Type 0) (b : Bool) (x y : Option A) → IfSome x P → IfSome y P → IfSome (cond b x y) P
some_if P true x y h k = h
some_if P false x y h k = k

none_empty : (strings : List (List ℕ)) → list_all is_string strings ≡ true → HasNoEmpty strings
none_empty [] e = All-nil _
none_empty (s ∷ strings) e =
    let parts = and_parts (is_string s) (list_all is_string strings) e in
    let some : nat_lt 0 (length s) ≡ true = (and_parts (nat_lt 0 (length s)) _ parts.0).0 in
    All-cons (λ t. 1 ≤ length t) s strings (grind (arith, nat_tests, some)) (none_empty strings parts.1)

named-strings : (name : List ℕ) (entries : List (Named (List (List ℕ)))) → list_all (λ entry. list_all is_string entry.value) entries ≡ true →
    IfSome (named name entries) HasNoEmpty
unfolding named
named-strings name [] e = tt
named-strings name (entry ∷ entries) e =
    let both = and_parts (list_all is_string entry.value) (list_all (λ other. list_all is_string other.value) entries) e in
    some_if HasNoEmpty (bytes_eq entry.name name) (Some entry.value) (named name entries)
    (none_empty entry.value both.0) (named-strings name entries both.1)

of_strings-strings : (found : Option (List (List ℕ))) → IfSome found HasNoEmpty → IfSome (option_map of_strings found) HasStringsOnly
of_strings-strings None h = tt
of_strings-strings (Some written) h = h

of_points-strings : (found : Option (List Bounds)) → IfSome (option_map of_points found) HasStringsOnly
of_points-strings None = tt
of_points-strings (Some members) = tt

or-strings : (a b : Option Property) → IfSome a HasStringsOnly → IfSome b HasStringsOnly → IfSome (option_or a b) HasStringsOnly
or-strings None b h k = k
or-strings (Some a) b h k = h

value_in-strings : (value : List ℕ) (entries : Option (List (Named (List Bounds)))) → IfSome (value_in value entries) HasStringsOnly
value_in-strings value None = tt
value_in-strings value (Some entries) = of_points-strings (named value entries)

closed-strings : (found : Option Property) (t : Source) → IfSome found HasStringsOnly → Holds HasStringsOnly (closed_property found t)
closed-strings None t h = holds_none HasStringsOnly
closed-strings (Some property) t h = holds_if HasStringsOnly (is_at 125 t) _ _ (holds_some HasStringsOnly property _ h) (holds_none HasStringsOnly)

module _ (table : Table) (strings : HasStrings table.strings) where
  lone_value-strings : (sets : Bool) (name : List ℕ) → IfSome (lone_value sets table name) HasStringsOnly
  lone_value-strings sets name =
      or-strings (option_map of_points (named name table.binary)) _ (of_points-strings (named name table.binary))
      (or-strings (strings_named sets table name) _
      (some_if HasStringsOnly sets (option_map of_strings (named name table.strings)) None
      (of_strings-strings (named name table.strings) (named-strings name table.strings strings)) tt)
      (of_points-strings (named name table.general_category)))

  -- A property of strings does not contain the empty one.
  pub property_at-strings : (sets : Bool) (t : Source) → Holds HasStringsOnly (property_at sets table t)
  unfolding property_at
  property_at-strings sets t =
      holds_if HasStringsOnly (is_at 123 t) _ _
      (holds_then HasStringsOnly (property_word_at _) _
      (λ x. holds_if HasStringsOnly (is_at 61 x.1) _ _
      (holds_then HasStringsOnly (property_word_at _) _
      (λ y. closed-strings (value_in y.0 (list_named table x.0)) y.1 (value_in-strings y.0 (list_named table x.0))))
      (closed-strings (lone_value sets table x.0) x.1 (lone_value-strings sets x.0))))
      (holds_none HasStringsOnly)

-- ---- lists of strings in descending order of length

IsSorted : List (List ℕ) → Type 0
IsSorted [] = Unit {0}
IsSorted (s ∷ strings) = All (λ t. length t ≤ length s) strings × IsSorted strings

filter-sorted : (p : List ℕ → Bool) (strings : List (List ℕ)) → IsSorted strings → IsSorted (filter p strings)
unfolding IsSorted
filter-sorted p [] is = tt
filter-sorted p (s ∷ strings) is =
    by_test (p s) (All-filter p (λ t. length t ≤ length s) strings is.0) (filter-sorted p strings is.1)
  where
    by_test : (b : Bool) → All (λ t. length t ≤ length s) (filter p strings) → IsSorted (filter p strings) →
        IsSorted (if b then s ∷ filter p strings else filter p strings)
    by_test true below rest = (below, rest)
    by_test false below rest = rest

none_of_length : (n : ℕ) (strings : List (List ℕ)) → All (λ t. length t < n) strings → filter (λ s. length s == n) strings ≡ []
none_of_length n [] all = refl
none_of_length n (s ∷ strings) all =
    let less = All-head (λ t. length t < n) s strings all in
    let no : (length s == n) ≡ false = ne_eqb (length s) n (omega (arith, less)) in
    rw no (none_of_length n strings (All-tail (λ t. length t < n) s strings all))

-- Greater lengths have no strings.
descending-from : (k m : ℕ) (strings : List (List ℕ)) → All (λ t. length t ≤ m) strings → descending (k + (m + 1)) strings ≡ descending (m + 1) strings
descending-from zero m strings all = ap (λ (n : ℕ). descending n strings) (omega arith)
descending-from (suc k) m strings all =
    ap (λ (n : ℕ). descending n strings) (more k m)
    ∙ ap (λ (first : List (List ℕ)). first ++ descending (k + (m + 1)) strings)
    (none_of_length (k + (m + 1)) strings (All-weaker (λ t. length t ≤ m) (λ t. length t < k + (m + 1)) (λ t le. omega (arith, le)) strings all))
    ∙ descending-from k m strings all
  where
    more : (k m : ℕ) → suc k + (m + 1) ≡ suc (k + (m + 1))
    more k m = omega arith

-- A string is not among those that are shorter than it.
descending-past : (k : ℕ) (s : List ℕ) (strings : List (List ℕ)) → k ≤ length s → descending k (s ∷ strings) ≡ descending k strings
descending-past zero s strings le = refl
descending-past (suc k) s strings le =
    let no : (length s == k) ≡ false = ne_eqb (length s) k (omega (arith, le)) in
    ap₂ (λ (first others : List (List ℕ)). first ++ others)
    (ap (λ (b : Bool). if b then s ∷ filter (λ t. length t == k) strings else filter (λ t. length t == k) strings) no)
    (descending-past k s strings (omega (arith, le)))

descending-sorted : (n : ℕ) (strings : List (List ℕ)) → IsSorted strings → All (λ t. length t < n) strings → descending n strings ≡ strings
unfolding IsSorted
descending-sorted n [] is all = none n
  where
    none : (n : ℕ) → descending n [] ≡ []
    none zero = refl
    none (suc n) = none n
descending-sorted n (s ∷ strings) is all =
    let less : length s < n = All-head (λ t. length t < n) s strings all in
    let m : ℕ = length s in
    let above : n ≡ (n - (m + 1)) + (m + 1) = omega (arith, less) in
    let yes : (length s == m) ≡ true = eq-eqb m m refl in
    let next : m + 1 ≡ suc m = omega arith in
    ap (λ (k : ℕ). descending k (s ∷ strings)) above
    ∙ descending-from (n - (m + 1)) m (s ∷ strings) (All-cons (λ t. length t ≤ m) s strings (omega arith) is.0)
    ∙ ap (λ (k : ℕ). descending k (s ∷ strings)) next
    ∙ ap₂ (λ (first others : List (List ℕ)). first ++ others)
    (ap (λ (b : Bool). if b then s ∷ filter (λ t. length t == m) strings else filter (λ t. length t == m) strings) yes)
    (descending-past m s strings (omega arith))
    ∙ ap (λ (rest : List (List ℕ)). s ∷ rest)
    (descending-sorted (suc m) strings is.1 (All-weaker (λ t. length t ≤ m) (λ t. length t < suc m) (λ t le. omega (arith, le)) strings is.0))

within_all : (strings : List (List ℕ)) (n : ℕ) → length (concat strings) < n → All (λ t. length t < n) strings
within_all [] n less = All-nil _
within_all (s ∷ strings) n less =
    let sum : length (concat (s ∷ strings)) ≡ length s + length (concat strings) = length-append s (concat strings) in
    All-cons (λ t. length t < n) s strings (omega (arith, less, sum)) (within_all strings n (omega (arith, less, sum)))

-- Two lists one after the other, if no string of the second is longer than one of the first.
sorted-append : (m : ℕ) (xs ys : List (List ℕ)) → IsSorted xs → All (λ s. m ≤ length s) xs → IsSorted ys → All (λ s. length s ≤ m) ys → IsSorted (xs ++ ys)
unfolding IsSorted
sorted-append m [] ys first above second below = second
sorted-append m (s ∷ xs) ys first above second below =
    let most : m ≤ length s = All-head (λ t. m ≤ length t) s xs above in (
      All-append (λ t. length t ≤ length s) xs ys first.0
          (All-weaker (λ t. length t ≤ m) (λ t. length t ≤ length s) (λ t le. omega (arith, le, most)) ys below),
      sorted-append m xs ys first.1 (All-tail (λ t. m ≤ length t) s xs above) second below,
    )

-- strings of one length
same_length : (n : ℕ) (strings : List (List ℕ)) → All (λ s. length s ≡ n) (filter (λ s. length s == n) strings)
same_length n [] = All-nil _
same_length n (s ∷ strings) = by_test (length s == n) refl (same_length n strings)
  where
    by_test : (b : Bool) → (length s == n) ≡ b → All (λ t. length t ≡ n) (filter (λ t. length t == n) strings) →
        All (λ t. length t ≡ n) (if b then s ∷ filter (λ t. length t == n) strings else filter (λ t. length t == n) strings)
    by_test true e rest = All-cons (λ t. length t ≡ n) s _ (eqb-true (length s) n e) rest
    by_test false e rest = rest

one_length-sorted : (n : ℕ) (strings : List (List ℕ)) → All (λ s. length s ≡ n) strings → IsSorted strings
unfolding IsSorted
one_length-sorted n [] all = tt
one_length-sorted n (s ∷ strings) all =
    let is = All-head (λ t. length t ≡ n) s strings all in
    let rest = All-tail (λ t. length t ≡ n) s strings all in
    (All-weaker (λ t. length t ≡ n) (λ t. length t ≤ length s) (λ t e. omega (arith, e, is)) strings rest, one_length-sorted n strings rest)

descending-below : (n : ℕ) (strings : List (List ℕ)) → All (λ s. length s < n) (descending n strings)
descending-below zero strings = All-nil _
descending-below (suc n) strings =
    All-append (λ s. length s < suc n) (filter (λ s. length s == n) strings) (descending n strings)
    (All-weaker (λ s. length s ≡ n) (λ s. length s < suc n) (λ s e. omega (arith, e)) _ (same_length n strings))
    (All-weaker (λ s. length s < n) (λ s. length s < suc n) (λ s less. omega (arith, less)) _ (descending-below n strings))

descending-is_sorted : (n : ℕ) (strings : List (List ℕ)) → IsSorted (descending n strings)
unfolding IsSorted
descending-is_sorted zero strings = tt
descending-is_sorted (suc n) strings =
    sorted-append n (filter (λ s. length s == n) strings) (descending n strings) (one_length-sorted n _ (same_length n strings))
    (All-weaker (λ s. length s ≡ n) (λ s. n ≤ length s) (λ s e. omega (arith, e)) _ (same_length n strings))
    (descending-is_sorted n strings)
    (All-weaker (λ s. length s < n) (λ s. length s ≤ n) (λ s less. omega (arith, less)) _ (descending-below n strings))

descending-all : (P : List ℕ → Type 0) (n : ℕ) (strings : List (List ℕ)) → All P strings → All P (descending n strings)
descending-all P zero strings all = All-nil P
descending-all P (suc n) strings all =
    All-append P (filter (λ s. length s == n) strings) (descending n strings) (All-filter (λ s. length s == n) P strings all) (descending-all P n strings all)

-- ---- strings of one character

abbrev is_long : List ℕ → Bool
is_long s = nat_lt 1 (length s)

abbrev single : ℕ → List ℕ
single c = c ∷ []

characters_of : List (List ℕ) → List ℕ
characters_of [] = []
characters_of ([] ∷ strings) = characters_of strings
characters_of ((c ∷ []) ∷ strings) = c ∷ characters_of strings
characters_of ((c ∷ d ∷ cs) ∷ strings) = characters_of strings

no_longer : (strings : List (List ℕ)) → All (λ t. length t ≤ 1) strings → filter is_long strings ≡ []
no_longer [] all = refl
no_longer (s ∷ strings) all =
    let le = All-head (λ t. length t ≤ 1) s strings all in
    let no : is_long s ≡ false = grind (arith, nat_tests, le) in
    rw no (no_longer strings (All-tail (λ t. length t ≤ 1) s strings all))

-- The longer strings come first, and then those of one character.
split : (strings : List (List ℕ)) → IsSorted strings → HasNoEmpty strings → strings ≡ filter is_long strings ++ map single (characters_of strings)
unfolding characters_of IsSorted
split [] is some = refl
split ([] ∷ strings) is some =
    let no_characters : List ℕ = [] in
    let one : 1 ≤ length no_characters = All-head (λ t. 1 ≤ length t) no_characters strings some in
    absurd (omega (arith, one))
split ((c ∷ []) ∷ strings) is some =
    let none : filter is_long strings ≡ [] = no_longer strings is.0 in
    ap (λ (rest : List (List ℕ)). (c ∷ []) ∷ rest)
    (split strings is.1 (All-tail (λ t. 1 ≤ length t) (c ∷ []) strings some) ∙ ap (λ (first : List (List ℕ)). first ++ map single (characters_of strings)) none)
    ∙ ap (λ (first : List (List ℕ)). first ++ (single c ∷ map single (characters_of strings))) (sym none)
split ((c ∷ d ∷ cs) ∷ strings) is some =
    let yes : is_long (c ∷ d ∷ cs) ≡ true = grind (arith, nat_tests) in
    ap (λ (rest : List (List ℕ)). (c ∷ d ∷ cs) ∷ rest) (split strings is.1 (All-tail (λ t. 1 ≤ length t) (c ∷ d ∷ cs) strings some))
    ∙ ap (λ (b : Bool). (if b then (c ∷ d ∷ cs) ∷ filter is_long strings else filter is_long strings) ++ map single (characters_of strings)) (sym yes)

-- ---- what they match

or_none : (b : Bool) → (b || false) ≡ b
or_none true = refl
or_none false = refl

module _ (table : Table) (rer : Flags) where
  found-more : (iv : Bounds) (set : CharSet) (ch : ℕ) → is_found table rer (iv ∷ set) ch ≡ (is_found table rer (iv ∷ []) ch || is_found table rer set ch)
  found-more iv set ch = by_test rer.icase
    where
      q : ℕ → Bool
      q a = canonicalize table rer a == canonicalize table rer ch

      by_test : (i : Bool) →
          (if i then has_some q (iv ∷ set) else is_member (iv ∷ set) ch)
          ≡ ((if i then has_some q (iv ∷ []) else is_member (iv ∷ []) ch) || (if i then has_some q set else is_member set ch))
      by_test true = ap (λ (b : Bool). b || has_some q set) (sym (or_none (list_any q (code_points iv))))
      by_test false = is_member-append (iv ∷ []) set ch

module _ (table : Table) (rer : Flags) (text : List ℕ) (is_text : All IsCodePoint text) (same : ℕ → ℕ → Bool)
    (literals : (c : ℕ) → IsSetOf table rer (one_character c) false (same c)) where
  abbrev is_one_of : List ℕ → ℕ → Bool
  is_one_of cs ch = list_any (λ c. same c ch) cs

  nothing_found : (ch : ℕ) → is_found table rer [] ch ≡ false
  unfolding is_member
  nothing_found ch = by_test rer.icase
    where
      by_test : (i : Bool) → (if i then has_some (λ a. canonicalize table rer a == canonicalize table rer ch) [] else is_member [] ch) ≡ false
      by_test true = refl
      by_test false = refl

  singles_set : (strings : List (List ℕ)) → IsSetOf table rer (singles_of strings) false (is_one_of (characters_of strings))
  unfolding characters_of
  singles_set [] ch le = nothing_found ch
  singles_set ([] ∷ strings) ch le = singles_set strings ch le
  singles_set ((c ∷ []) ∷ strings) ch le =
      found-more table rer (record { first = c; last = c }) (singles_of strings) ch
      ∙ ap₂ (λ (a b : Bool). a || b) (literals c ch le) (singles_set strings ch le)
  singles_set ((c ∷ d ∷ cs) ∷ strings) ch le = singles_set strings ch le

  module _ (d : Direction) where
    abbrev singles : List ℕ → Steps.Matcher
    singles cs = any_string d (of_characters text) same (map single cs)

    abbrev one_of : (ℕ → Bool) → Steps.Matcher
    one_of test = Steps.one_character d (of_characters text) test

    in_order-single : (c : ℕ) → in_order d (single c) ≡ single c
    in_order-single c = by_direction d
      where
        by_direction : (e : Direction) → in_order e (single c) ≡ single c
        by_direction forwards = refl
        by_direction backwards = refl

    singles-cons : (c : ℕ) (cs : List ℕ) (s : Steps.MatchState) → singles (c ∷ cs) s ≡ one_of (same c) s ++ singles cs s
    unfolding any_string
    singles-cons c cs s =
        ap (λ (outcomes : List Steps.MatchState). outcomes ++ singles cs s)
        (ap (λ (string : List ℕ). all_of d (of_characters text) same string s) (in_order-single c) ∙ flat_map-stay (one_of (same c) s))

    twice : (r : MatchResult) → option_or (option_or r failure) (option_or r failure) ≡ option_or r failure
    twice None = refl
    twice (Some x) = refl

    once_more : (r : MatchResult) → option_or (option_or r failure) failure ≡ option_or r failure
    once_more None = refl
    once_more (Some x) = refl

    -- The same outcome twice has the same first result.
    either_moves : (c : Continuation) (s : Steps.MatchState) (p q : ℕ → Bool) (read : Option Read) →
        option_or (first_result text c (moved p s read)) (first_result text c (moved q s read)) ≡ first_result text c (moved (λ ch. p ch || q ch) s read)
    either_moves c s p q None = refl
    either_moves c s p q (Some read) = by_tests (p read.character) (q read.character)
      where
        to : Bool → List Steps.MatchState
        to b = if b then record s { position = read.position } ∷ [] else []

        by_tests : (a b : Bool) → option_or (first_result text c (to a)) (first_result text c (to b)) ≡ first_result text c (to (a || b))
        by_tests true true = twice (c (state_on text (record s { position = read.position })))
        by_tests true false = once_more (c (state_on text (record s { position = read.position })))
        by_tests false b = refl

    singles_same : (cs : List ℕ) (s : Steps.MatchState) (c : Continuation) → first_result text c (singles cs s) ≡ first_result text c (one_of (is_one_of cs) s)
    unfolding any_string Steps.one_character
    singles_same [] s c = none (next_character d (of_characters text) s.position)
      where
        none : (read : Option Read) → first_result text c [] ≡ first_result text c (moved (λ ch. false) s read)
        none None = refl
        none (Some read) = refl
    singles_same (x ∷ cs) s c =
        ap (first_result text c) (singles-cons x cs s) ∙ first_result-append text c (one_of (same x) s) (singles cs s)
        ∙ ap (option_or (first_result text c (one_of (same x) s))) (singles_same cs s c)
        ∙ either_moves c s (same x) (is_one_of cs) (next_character d (of_characters text) s.position)

    singles-reached : (cs : List ℕ) (s : Steps.MatchState) → IsStateOf text s → All (IsReached text d s) (singles cs s)
    unfolding any_string
    singles-reached [] s in' = All-nil (IsReached text d s)
    singles-reached (x ∷ cs) s in' =
        subst (All (IsReached text d s)) (sym (singles-cons x cs s))
        (All-append (IsReached text d s) (one_of (same x) s) (singles cs s)
        ((Agrees-character table rer (one_character x) false (same x) text is_text (literals x) d).reached s in') (singles-reached cs s in'))

    singles_agree : (strings : List (List ℕ)) → Agrees text d (singles (characters_of strings)) (character_set_matcher table rer (singles_of strings) false d)
    singles_agree strings =
        let agrees = Agrees-character table rer (singles_of strings) false (is_one_of (characters_of strings)) text is_text (singles_set strings) d in
        record {
          same = λ s in' c. agrees.same s in' c ∙ sym (singles_same (characters_of strings) s c);
          reached = λ s in'. singles-reached (characters_of strings) s in';
        }

    any_string-append : (first rest : List (List ℕ)) (s : Steps.MatchState) →
        any_string d (of_characters text) same (first ++ rest) s ≡ (any_string d (of_characters text) same first or_ any_string d (of_characters text) same rest) s
    unfolding any_string
    any_string-append [] rest s = refl
    any_string-append (string ∷ first) rest s =
        ap (λ (outcomes : List Steps.MatchState). all_of d (of_characters text) same (in_order d string) s ++ outcomes) (any_string-append first rest s)
        ∙ sym (append_assoc (all_of d (of_characters text) same (in_order d string) s) (any_string d (of_characters text) same first s) (any_string d (of_characters text) same rest s))

    sorted_agree : (written : List (List ℕ)) → IsSorted written → HasNoEmpty written →
        Agrees text d (any_string d (of_characters text) same written)
        (compile_strings table rer d (filter is_long written) (singles_of written) false)
    sorted_agree written is some =
        let long : List (List ℕ) = filter is_long written in
        let ordered : descending (length (concat long) + 1) long ≡ long =
        descending-sorted (length (concat long) + 1) long (filter-sorted is_long written is) (within_all long (length (concat long) + 1) (omega arith)) in
        Agrees-same text d (any_string d (of_characters text) same long or_ singles (characters_of written))
        (any_string d (of_characters text) same written) _
        (λ s.
        sym (any_string-append long (map single (characters_of written)) s)
        ∙ ap (λ (strings : List (List ℕ)). any_string d (of_characters text) same strings s) (sym (split written is some)))
        (subst
        (λ (strings : List (List ℕ)). Agrees text d (any_string d (of_characters text) same long or_ singles (characters_of written))
        (alternatives (map (string_matcher table rer d) strings) (character_set_matcher table rer (singles_of written) false d)))
        (sym ordered)
        (any_agrees table rer text is_text same literals d long (singles (characters_of written)) _ (singles_agree written)))

    -- A property of strings, longest first.
    pub Agrees-property : (written : List (List ℕ)) → HasNoEmpty written →
        Agrees text d (any_string d (of_characters text) same (longest_first written))
        (compile_strings table rer d (filter (λ s. nat_lt 1 (length s)) (longest_first written)) (singles_of (longest_first written)) false)
    Agrees-property written some =
        let n : ℕ = length (concat written) + 1 in
        subst
        (λ (strings : List (List ℕ)). Agrees text d (any_string d (of_characters text) same strings)
        (compile_strings table rer d (filter is_long strings) (singles_of strings) false))
        (descending-same n written)
        (sorted_agree (descending n written) (descending-is_sorted n written) (descending-all (λ s. 1 ≤ length s) n written some))
