-- Sets of characters under case folding.
use Rattle.std.proofs.Common.{◌≡◌, ℕ, ◌<◌, ◌≤◌, nat_le, nat_lt, ◌==◌, Bool, true, false, not, ◌&&◌, ◌||◌, [], ◌∷◌, ◌++◌, if◌then◌else◌, refl, sym, ap, ap₂, ◌∙◌, arith, ⊎_elim, ◌⊎◌, inr}
use Rattle.std.proofs.lemmas.Bool.{cases_lt, eq-eqb, eqb-true, false≢true}
use Rattle.std.proofs.lemmas.Bool.Decides.{nat_tests}
use Rattle.regress_base.specs.Classes.{line_terminators, word_characters as basic_word_characters}
use Rattle.regress_base.specs.Intervals.{code_point_max, is_member, is_within, intervals_of}
use Rattle.regress_base.specs.Table.{Table, denotes, is_in_closure}
use Rattle.regress_base.specs.Table as Table
use Rattle.regress_base.specs.declared.charclasses.CharacterClassType.{CharacterClassType}
use Rattle.regress_base.specs.declared.charclasses.CharacterClassType.TheVariants.{Digits, Spaces, Words}
use Rattle.regress_base.specs.declared.types.Flags.{Flags}
use Rattle.regress_classes.specs.ClassProductions.{members_of}
use Rattle.regress_base.proofs.lemmas.Sets.{intervals_of-member}
use Rattle.regress_tree.specs.Assertions.{differ, is_line_terminator}
use Rattle.regress_syntax.specs.Meaning.{is_literal, is_any, is_in_word, is_in_class}
use Rattle.regress_ecma.specs.Notation.{CharSet}
use Rattle.regress_ecma.specs.Characters.{has_either_unicode_flag, canonicalize, upper_case, has_some, all_characters, character_complement, word_characters, is_extra_word_character, class_escape_set, character_class_escape}
use Rattle.regress_ecma.specs.CharacterMatchers.{is_found}
use Rattle.regress_ecma.specs.Atoms.{one_character, dot_set, without_line_terminators}
use Rattle.regress_ecma.specs.Differences.{HasCaseDataOfUnicode, cased_beyond_ascii, cased}
use Rattle.regress_ecma.proofs.Members.{or-right, has_some_from, has_some_gives}
use Rattle.regress_ecma.proofs.Outside.{apart}
use Rattle.regress_ecma.proofs.CharacterSets.{IsSetOf}

pub same_truth : (a b : Bool) → (a ≡ true → b ≡ true) → (b ≡ true → a ≡ true) → a ≡ b
same_truth true true f g = refl
same_truth true false f g = absurd (false≢true (f refl))
same_truth false true f g = absurd (false≢true (g refl))
same_truth false false f g = refl

-- ---- canonical forms

module _ (table : Table) (maps : HasCaseDataOfUnicode table) (rer : Flags) (with_u : rer.unicode_sets ≡ true → rer.unicode ≡ true) where
  upper-same : (c : ℕ) → upper_case table rer c ≡ table.uppercase c
  upper-same c =
      ⊎_elim
      (λ (low : c < 128). let no : nat_le 128 c ≡ false = grind (arith, nat_tests) in rw no refl)
      (λ (high : 128 ≤ c).
      let above : 128 ≤ table.uppercase c = maps.upper_ascii c high in
      let yes : nat_le 128 c ≡ true = grind (arith, nat_tests) in
      let no : nat_lt (table.uppercase c) 128 ≡ false = grind (arith, nat_tests) in
      rw (yes, no) refl)
      (cases_lt c 128)

  unicode-same : has_either_unicode_flag rer ≡ rer.unicode
  unicode-same = by_tests rer.unicode rer.unicode_sets with_u
    where
      by_tests : (u v : Bool) → (v ≡ true → u ≡ true) → (u || v) ≡ u
      by_tests true v h = refl
      by_tests false true h = sym (h refl)
      by_tests false false h = refl

  pub canonicalize-same : rer.icase ≡ true → (c : ℕ) → canonicalize table rer c ≡ Table.canonicalize table rer.unicode c
  canonicalize-same icase c = rw (unicode-same, icase) (by_test rer.unicode)
    where
      by_test : (u : Bool) → (if u && true then table.fold c else (if not true then c else upper_case table rer c)) ≡ (if u then table.fold c else table.uppercase c)
      by_test true = refl
      by_test false = upper-same c

  pub canonicalize-none : rer.icase ≡ false → (c : ℕ) → canonicalize table rer c ≡ c
  canonicalize-none icase c = rw icase (by_test (has_either_unicode_flag rer))
    where
      by_test : (u : Bool) → (if u && false then table.fold c else (if not false then c else upper_case table rer c)) ≡ c
      by_test true = refl
      by_test false = refl

  pub found_if : rer.icase ≡ true → (set : CharSet) (ch : ℕ) →
      is_found table rer set ch ≡ has_some (λ a. canonicalize table rer a == canonicalize table rer ch) set
  found_if icase set ch =
      ap (λ (b : Bool). if b then has_some (λ a. canonicalize table rer a == canonicalize table rer ch) set else is_member set ch) icase

  pub found_plain : rer.icase ≡ false → (set : CharSet) (ch : ℕ) → is_found table rer set ch ≡ is_member set ch
  found_plain icase set ch =
      ap (λ (b : Bool). if b then has_some (λ a. canonicalize table rer a == canonicalize table rer ch) set else is_member set ch) icase

  -- The members that have the canonical form of ch.
  pub found_gives : (set : CharSet) (ch : ℕ) → has_some (λ a. canonicalize table rer a == canonicalize table rer ch) set ≡ true →
      (m : ℕ) × (is_member set m ≡ true) × (canonicalize table rer m ≡ canonicalize table rer ch)
  found_gives set ch h =
      let found = has_some_gives (λ a. canonicalize table rer a == canonicalize table rer ch) set h in
      (found.0, found.1, eqb-true (canonicalize table rer found.0) (canonicalize table rer ch) found.2)

  pub found_from : (set : CharSet) (ch m : ℕ) → is_member set m ≡ true → canonicalize table rer m ≡ canonicalize table rer ch →
      has_some (λ a. canonicalize table rer a == canonicalize table rer ch) set ≡ true
  found_from set ch m member same = has_some_from (λ a. canonicalize table rer a == canonicalize table rer ch) set m member (eq-eqb _ _ same)

  -- ---- literals

  member_one : (c m : ℕ) → is_member (one_character c) m ≡ (m == c)
  unfolding is_member is_within
  member_one c m = grind (arith, nat_tests)

  denotes_if : (i : Bool) → rer.icase ≡ i → (c x : ℕ) →
      is_literal table rer c x ≡ (if i then Table.canonicalize table rer.unicode x == Table.canonicalize table rer.unicode c else x == c)
  denotes_if i icase c x =
      ap (λ (b : Bool). if b then Table.canonicalize table rer.unicode x == Table.canonicalize table rer.unicode c else x == c) icase

  -- the comparison of two characters
  pub same-literal : (c x : ℕ) → (canonicalize table rer x == canonicalize table rer c) ≡ is_literal table rer c x
  same-literal c x = by_test rer.icase refl
    where
      by_test : (i : Bool) → rer.icase ≡ i → (canonicalize table rer x == canonicalize table rer c) ≡ is_literal table rer c x
      by_test true e = ap₂ (λ (a b : ℕ). a == b) (canonicalize-same e x) (canonicalize-same e c) ∙ sym (denotes_if true e c x)
      by_test false e = ap₂ (λ (a b : ℕ). a == b) (canonicalize-none e x) (canonicalize-none e c) ∙ sym (denotes_if false e c x)

  pub literal_set : (c : ℕ) → IsSetOf table rer (one_character c) false (is_literal table rer c)
  literal_set c ch le = by_test rer.icase refl
    where
      by_test : (i : Bool) → rer.icase ≡ i → is_found table rer (one_character c) ch ≡ is_literal table rer c ch
      by_test true e =
          found_if e (one_character c) ch
          ∙ same_truth _ (canonicalize table rer ch == canonicalize table rer c)
          (λ h.
          let found = found_gives (one_character c) ch h in
          let is : found.0 ≡ c = eqb-true found.0 c (sym (member_one c found.0) ∙ found.1) in
          eq-eqb _ _ (sym found.2 ∙ ap (canonicalize table rer) is))
          (λ h. found_from (one_character c) ch c (member_one c c ∙ eq-eqb c c refl) (sym (eqb-true _ _ h)))
          ∙ same-literal c ch
      by_test false e = found_plain e (one_character c) ch ∙ member_one c ch ∙ sym (denotes_if false e c ch)

  -- ---- `.`

  inside : (first last c : ℕ) → first ≤ c → c ≤ last → is_within (record { first = first; last = last }) c ≡ true
  unfolding is_within
  inside first last c low high = grind (arith, nat_tests)

  below : (first last c : ℕ) → c < first → is_within (record { first = first; last = last }) c ≡ false
  unfolding is_within
  below first last c low = grind (arith, nat_tests)

  above : (first last c : ℕ) → last < c → is_within (record { first = first; last = last }) c ≡ false
  unfolding is_within
  above first last c high = grind (arith, nat_tests)

  member_without : (ch : ℕ) → ch ≤ code_point_max → is_member without_line_terminators ch ≡ not (is_line_terminator ch)
  unfolding is_member
  member_without ch le =
      ⊎_elim (λ (h : ch < 0xA). rw (inside 0 0x9 ch (omega arith) (omega arith), below 0xA 0xA ch h, below 0xD 0xD ch (omega arith), below 0x2028 0x2029 ch (omega arith)) refl)
      (λ (a : 0xA ≤ ch). ⊎_elim
      (λ (h : ch < 0xB). rw (above 0 0x9 ch a, below 0xB 0xC ch h, below 0xE 0x2027 ch (omega arith), below 0x202A code_point_max ch (omega arith), inside 0xA 0xA ch a (omega arith)) refl)
      (λ (b : 0xB ≤ ch). ⊎_elim
      (λ (h : ch < 0xD). rw (above 0 0x9 ch (omega arith), inside 0xB 0xC ch b (omega arith), above 0xA 0xA ch b, below 0xD 0xD ch h, below 0x2028 0x2029 ch (omega arith)) refl)
      (λ (c : 0xD ≤ ch). ⊎_elim
      (λ (h : ch < 0xE). rw (above 0 0x9 ch (omega arith), above 0xB 0xC ch c, below 0xE 0x2027 ch h, below 0x202A code_point_max ch (omega arith), above 0xA 0xA ch (omega arith), inside 0xD 0xD ch c (omega arith)) refl)
      (λ (e : 0xE ≤ ch). ⊎_elim
      (λ (h : ch < 0x2028). rw (above 0 0x9 ch (omega arith), above 0xB 0xC ch (omega arith), inside 0xE 0x2027 ch e (omega arith), above 0xA 0xA ch (omega arith), above 0xD 0xD ch e, below 0x2028 0x2029 ch h) refl)
      (λ (f : 0x2028 ≤ ch). ⊎_elim
      (λ (h : ch < 0x202A). rw (above 0 0x9 ch (omega arith), above 0xB 0xC ch (omega arith), above 0xE 0x2027 ch f, below 0x202A code_point_max ch h, above 0xA 0xA ch (omega arith), above 0xD 0xD ch (omega arith), inside 0x2028 0x2029 ch f (omega arith)) refl)
      (λ (g : 0x202A ≤ ch). rw (above 0 0x9 ch (omega arith), above 0xB 0xC ch (omega arith), above 0xE 0x2027 ch (omega arith), inside 0x202A code_point_max ch g le, above 0xA 0xA ch (omega arith), above 0xD 0xD ch (omega arith), above 0x2028 0x2029 ch g) refl)
      (cases_lt ch 0x202A)) (cases_lt ch 0x2028)) (cases_lt ch 0xE)) (cases_lt ch 0xD)) (cases_lt ch 0xB)) (cases_lt ch 0xA)

  line-le : (ch : ℕ) → is_line_terminator ch ≡ true → ch ≤ code_point_max
  unfolding is_member
  line-le ch h =
      ⊎_elim
      (λ (past : 0x2029 < ch).
      let none : is_line_terminator ch ≡ false = rw (above 0xA 0xA ch (omega arith), above 0xD 0xD ch (omega arith), above 0x2028 0x2029 ch past) refl in
      absurd (false≢true (sym none ∙ h)))
      (λ (low : ch ≤ 0x2029). omega arith)
      (cases_lt 0x2029 ch)

  pub member_all : (ch : ℕ) → ch ≤ code_point_max → is_member (record { first = 0; last = code_point_max } ∷ []) ch ≡ true
  unfolding is_member is_within
  member_all ch le = grind (arith, nat_tests)

  abbrev dot_by : (all folded : Bool) → CharSet
  dot_by all folded =
      if all then (if folded then intervals_of (λ c. table.fold c == c) else record { first = 0; last = code_point_max } ∷ [])
      else if folded
      then intervals_of (λ c. is_member (if folded then intervals_of (λ c. table.fold c == c) else record { first = 0; last = code_point_max } ∷ []) c && not (is_line_terminator c))
      else without_line_terminators

  member_dot : (all folded : Bool) (ch : ℕ) → ch ≤ code_point_max →
      is_member (dot_by all folded) ch ≡ ((not folded || (table.fold ch == ch)) && (all || not (is_line_terminator ch)))
  member_dot true true ch le = intervals_of-member (λ c. table.fold c == c) ch le ∙ and-true (table.fold ch == ch)
    where
      and-true : (b : Bool) → b ≡ (b && true)
      and-true true = refl
      and-true false = refl
  member_dot true false ch le = member_all ch le
  member_dot false true ch le =
      intervals_of-member (λ c. is_member (intervals_of (λ c. table.fold c == c)) c && not (is_line_terminator c)) ch le
      ∙ ap (λ (b : Bool). b && not (is_line_terminator ch)) (intervals_of-member (λ c. table.fold c == c) ch le)
  member_dot false false ch le = member_without ch le

  -- No other character has the canonical form of a character without case variants.
  pub canonical-variants : rer.icase ≡ true → (a b : ℕ) → is_member cased a ≡ false → canonicalize table rer b ≡ canonicalize table rer a → b ≡ a
  canonical-variants icase a b none same =
      by_test rer.unicode (sym (canonicalize-same icase b) ∙ same ∙ canonicalize-same icase a)
    where
      by_test : (u : Bool) → Table.canonicalize table u b ≡ Table.canonicalize table u a → b ≡ a
      by_test true e = maps.folded_variants a b none e
      by_test false e = maps.upper_variants a b none e

  lines_uncased : (c : ℕ) → is_line_terminator c ≡ true → is_member cased c ≡ false
  unfolding cased_beyond_ascii
  lines_uncased c line = apart cased line_terminators refl c line

  -- A character with the canonical form of a line terminator is one.
  line-closed : rer.icase ≡ true → (a b : ℕ) → is_line_terminator a ≡ true → canonicalize table rer b ≡ canonicalize table rer a →
      is_line_terminator b ≡ true
  line-closed icase a b line same = ap is_line_terminator (canonical-variants icase a b (lines_uncased a line) same) ∙ line

  abbrev folded_sets : Bool
  folded_sets = rer.unicode_sets && rer.icase

  dot_member : (ch : ℕ) → ch ≤ code_point_max →
      is_member (dot_set table rer) ch ≡ ((not folded_sets || (table.fold ch == ch)) && is_any rer ch)
  dot_member ch le = member_dot rer.dot_all folded_sets ch le

  and_parts-second : (a b : Bool) → (a && b) ≡ true → b ≡ true
  and_parts-second true b h = h
  and_parts-second false b h = absurd (false≢true h)

  not_line : (all : Bool) (m ch : ℕ) → (all || not (is_line_terminator m)) ≡ true → (is_line_terminator ch ≡ true → is_line_terminator m ≡ true) →
      (all || not (is_line_terminator ch)) ≡ true
  not_line true m ch h closed = refl
  not_line false m ch h closed = by_test (is_line_terminator ch) refl
    where
      by_test : (b : Bool) → is_line_terminator ch ≡ b → not b ≡ true
      by_test true e = sym (ap not (closed e)) ∙ h
      by_test false e = refl

  any_of_member : (m : ℕ) → is_member (dot_set table rer) m ≡ true → is_any rer m ≡ true
  any_of_member m member = by_test (is_line_terminator m) refl
    where
      by_test : (b : Bool) → is_line_terminator m ≡ b → is_any rer m ≡ true
      by_test true e =
          and_parts-second (not folded_sets || (table.fold m == m)) (is_any rer m) (sym (dot_member m (line-le m e)) ∙ member)
      by_test false e = ap (λ (b : Bool). rer.dot_all || not b) e ∙ or-right rer.dot_all

  pub plain_sets : rer.icase ≡ false → folded_sets ≡ false
  plain_sets e = ap (λ (b : Bool). rer.unicode_sets && b) e ∙ by_test rer.unicode_sets
    where
      by_test : (v : Bool) → (v && false) ≡ false
      by_test true = refl
      by_test false = refl

  -- the member with the canonical form of ch
  dot_found : rer.icase ≡ true → (ch : ℕ) → ch ≤ code_point_max → is_any rer ch ≡ true → (v : Bool) → rer.unicode_sets ≡ v →
      (m : ℕ) × (is_member (dot_set table rer) m ≡ true) × (canonicalize table rer m ≡ canonicalize table rer ch)
  dot_found icase ch le any true v =
      let u : rer.unicode ≡ true = with_u v in
      let twice : table.fold (table.fold ch) ≡ table.fold ch = maps.idempotent ch in
      let canonical : (c : ℕ) → canonicalize table rer c ≡ table.fold c =
      λ c. canonicalize-same icase c ∙ ap (λ (b : Bool). Table.canonicalize table b c) u in
      let any_folded : is_any rer (table.fold ch) ≡ true =
      not_line rer.dot_all ch (table.fold ch) any (λ line.
      ap is_line_terminator (maps.folded_variants (table.fold ch) ch (lines_uncased (table.fold ch) line) (sym twice)) ∙ line) in
      let member : is_member (dot_set table rer) (table.fold ch) ≡ true =
      dot_member (table.fold ch) (maps.in_range ch le)
      ∙ ap₂ (λ (a b : Bool). (not folded_sets || a) && b) (eq-eqb _ _ twice) any_folded
      ∙ ap (λ (b : Bool). b && true) (or-right (not folded_sets)) in
      (table.fold ch, member, canonical (table.fold ch) ∙ twice ∙ sym (canonical ch))
  dot_found icase ch le any false v =
      let plain : folded_sets ≡ false = ap (λ (b : Bool). b && rer.icase) v in
      (ch, dot_member ch le ∙ ap₂ (λ (a b : Bool). (not a || (table.fold ch == ch)) && b) plain any, refl)

  pub dot_is_set : IsSetOf table rer (dot_set table rer) false (is_any rer)
  dot_is_set ch le = by_test rer.icase refl
    where
      by_test : (i : Bool) → rer.icase ≡ i → is_found table rer (dot_set table rer) ch ≡ is_any rer ch
      by_test true e =
          found_if e (dot_set table rer) ch
          ∙ same_truth _ (is_any rer ch)
          (λ h.
          let found = found_gives (dot_set table rer) ch h in
          not_line rer.dot_all found.0 ch (any_of_member found.0 found.1) (λ line. line-closed e ch found.0 line found.2))
          (λ h.
          let found = dot_found e ch le h rer.unicode_sets refl in
          found_from (dot_set table rer) ch found.0 found.1 found.2)
      by_test false e =
          found_plain e (dot_set table rer) ch ∙ dot_member ch le
          ∙ ap (λ (b : Bool). (not b || (table.fold ch == ch)) && is_any rer ch) (plain_sets e)

  -- ---- word characters

  pub member-append : (xs ys : CharSet) (c : ℕ) → is_member (xs ++ ys) c ≡ (is_member xs c || is_member ys c)
  unfolding is_member
  member-append [] ys c = refl
  member-append (x ∷ xs) ys c = ap (λ (b : Bool). is_within x c || b) (member-append xs ys c) ∙ assoc (is_within x c) (is_member xs c) (is_member ys c)
    where
      assoc : (a b e : Bool) → (a || (b || e)) ≡ ((a || b) || e)
      assoc true b e = refl
      assoc false b e = refl

  abbrev is_basic : ℕ → Bool
  is_basic = is_member basic_word_characters

  either_is : (b x : Bool) → (b ≡ false → x ≡ true → b ≡ true) → (b || (not b && x)) ≡ b
  either_is true x h = refl
  either_is false true h = sym (h refl refl)
  either_is false false h = refl

  either_or : (b x r : Bool) → (r ≡ true → (b ≡ true) ⊎ (x ≡ true)) → (b ≡ true → r ≡ true) → (x ≡ true → r ≡ true) → (b || (not b && x)) ≡ r
  either_or true x r gives one other = sym (one refl)
  either_or false true r gives one other = sym (other refl)
  either_or false false true gives one other =
      absurd (⊎_elim (λ (h : false ≡ true). false≢true h) (λ (h : false ≡ true). false≢true h) (gives refl))
  either_or false false false gives one other = refl

  pub closure-if : (set : CharSet) (ch : ℕ) → ch ≤ code_point_max → is_in_closure table set ch ≡ has_some (λ m. table.fold m == table.fold ch) set
  unfolding is_in_closure
  closure-if set ch le =
      let small : nat_le ch code_point_max ≡ true = grind (arith, nat_tests) in
      rw small refl

  word_by : (u : Bool) → rer.unicode ≡ u → rer.icase ≡ true → (ch : ℕ) → ch ≤ code_point_max →
      (is_basic ch || (not (is_basic ch) && is_basic (canonicalize table rer ch)))
      ≡ (if u then is_in_closure table basic_word_characters ch else is_basic ch)
  word_by true u icase ch le =
      let folds : canonicalize table rer ch ≡ table.fold ch = canonicalize-same icase ch ∙ ap (λ (b : Bool). Table.canonicalize table b ch) u in
      ap (λ (c : ℕ). is_basic ch || (not (is_basic ch) && is_basic c)) folds
      ∙ either_or (is_basic ch) (is_basic (table.fold ch)) (has_some (λ m. table.fold m == table.fold ch) basic_word_characters)
      (λ h.
      let found = has_some_gives (λ m. table.fold m == table.fold ch) basic_word_characters h in
      let same : table.fold found.0 ≡ table.fold ch = eqb-true _ _ found.2 in
      inr (sym (ap is_basic same) ∙ maps.folded_words found.0 found.1))
      (λ h. has_some_from (λ m. table.fold m == table.fold ch) basic_word_characters ch h (eq-eqb _ _ refl))
      (λ h. has_some_from (λ m. table.fold m == table.fold ch) basic_word_characters (table.fold ch) h (eq-eqb _ _ (maps.idempotent ch)))
      ∙ sym (closure-if basic_word_characters ch le)
  word_by false u icase ch le =
      let uppers : canonicalize table rer ch ≡ table.uppercase ch = canonicalize-same icase ch ∙ ap (λ (b : Bool). Table.canonicalize table b ch) u in
      ap (λ (c : ℕ). is_basic ch || (not (is_basic ch) && is_basic c)) uppers
      ∙ either_is (is_basic ch) (is_basic (table.uppercase ch)) (λ no h. maps.upper_words ch h)

  abbrev words_if : Bool → CharSet
  words_if i = if i then basic_word_characters ++ intervals_of (is_extra_word_character table rer) else basic_word_characters

  abbrev closed_if : ℕ → Bool → Bool
  closed_if ch b = if b then is_in_closure table basic_word_characters ch else is_basic ch

  pub word_member : (ch : ℕ) → ch ≤ code_point_max → is_member (word_characters table rer) ch ≡ is_in_word table rer ch
  word_member ch le = by_test rer.icase refl rer.unicode refl
    where
      and-false : (u : Bool) → (u && false) ≡ false
      and-false true = refl
      and-false false = refl

      and-true : (u : Bool) → (u && true) ≡ u
      and-true true = refl
      and-true false = refl

      by_test : (i : Bool) → rer.icase ≡ i → (u : Bool) → rer.unicode ≡ u → is_member (word_characters table rer) ch ≡ is_in_word table rer ch
      by_test true e u eu =
          ap (λ (b : Bool). is_member (words_if b) ch) e
          ∙ member-append basic_word_characters (intervals_of (is_extra_word_character table rer)) ch
          ∙ ap (λ (b : Bool). is_basic ch || b) (intervals_of-member (is_extra_word_character table rer) ch le)
          ∙ word_by u eu e ch le
          ∙ sym (ap₂ (λ (a b : Bool). closed_if ch (a && b)) eu e ∙ ap (closed_if ch) (and-true u))
      by_test false e u eu =
          ap (λ (b : Bool). is_member (words_if b) ch) e
          ∙ sym (ap (λ (b : Bool). closed_if ch (rer.unicode && b)) e ∙ ap (closed_if ch) (and-false rer.unicode))

  -- ---- class escapes without the flag i

  abbrev words_plain : rer.icase ≡ false → word_characters table rer ≡ basic_word_characters
  words_plain e = ap words_if e

  abbrev folded_if : Bool → CharSet → CharSet
  folded_if b set = if b then intervals_of (λ c. has_some (λ ch. table.fold ch == c) set) else set

  pub escape_set-plain : rer.icase ≡ false → (kind : CharacterClassType) → class_escape_set table rer kind ≡ members_of kind
  escape_set-plain e Digits = refl
  escape_set-plain e Spaces = refl
  escape_set-plain e Words = ap (λ (b : Bool). folded_if b (word_characters table rer)) (plain_sets e) ∙ words_plain e

  all-plain : rer.icase ≡ false → (ch : ℕ) → ch ≤ code_point_max → is_member (all_characters table rer) ch ≡ true
  all-plain e ch le =
      ap (λ (b : Bool). is_member (if b then intervals_of (λ c. table.fold c == c) else record { first = 0; last = code_point_max } ∷ []) ch) (plain_sets e)
      ∙ member_all ch le

  complement-plain : rer.icase ≡ false → (set : CharSet) (ch : ℕ) → ch ≤ code_point_max →
      is_member (character_complement table rer set) ch ≡ not (is_member set ch)
  complement-plain e set ch le =
      intervals_of-member (λ c. is_member (all_characters table rer) c && not (is_member set c)) ch le
      ∙ ap (λ (b : Bool). b && not (is_member set ch)) (all-plain e ch le)

  in_class-plain : rer.icase ≡ false → (inverted : Bool) (members : CharSet) (ch : ℕ) →
      is_in_class table rer inverted members ch ≡ differ inverted (is_member members ch)
  in_class-plain e inverted members ch =
      ap (λ (b : Bool). differ inverted (if b then is_in_closure table members ch else is_member members ch)) e

  -- the complement of a set, as a set that is not inverted
  pub complement_is_set : rer.icase ≡ false → (members : CharSet) →
      IsSetOf table rer (character_complement table rer members) false (is_in_class table rer true members)
  complement_is_set e members ch le =
      found_plain e (character_complement table rer members) ch ∙ complement-plain e members ch le
      ∙ negated (is_member members ch) ∙ sym (in_class-plain e true members ch)
    where
      negated : (b : Bool) → not b ≡ differ true b
      negated true = refl
      negated false = refl

  pub class_is_set : rer.icase ≡ false → (inverted : Bool) (members : CharSet) →
      IsSetOf table rer members inverted (is_in_class table rer inverted members)
  class_is_set e inverted members ch le =
      ap (differ inverted) (found_plain e members ch) ∙ sym (in_class-plain e inverted members ch)

  pub escape_is_set : rer.icase ≡ false → (kind : CharacterClassType) (negated : Bool) →
      IsSetOf table rer (character_class_escape table rer kind negated) false (is_in_class table rer negated (members_of kind))
  escape_is_set e kind true ch le =
      ap (λ (set : CharSet). is_found table rer (character_complement table rer set) ch) (escape_set-plain e kind)
      ∙ complement_is_set e (members_of kind) ch le
  escape_is_set e kind false ch le =
      ap (λ (set : CharSet). is_found table rer set ch) (escape_set-plain e kind) ∙ class_is_set e false (members_of kind) ch le
