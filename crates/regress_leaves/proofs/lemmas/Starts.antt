-- What the next byte of a text tells of a leaf.
use Rattle.std.proofs.Common.{◌≤◌, IsTrue, subst, length, drop, slice_get, Option, None, ap, arith, ◌≡◌, ℕ, ◌+◌, ◌<◌, ◌==◌, Bool, true, false, List, [], ◌∷◌, ◌++◌, get_or, Some, refl, sym, ap₂, ◌∙◌}
use Rattle.std.proofs.lemmas.Bool.Decides.{nat_tests}
use Rattle.std.specs.Prelude.{IfSome}
use Rattle.std.specs.Char.{to_ascii_lowercase, to_ascii_uppercase}
use Rattle.std.proofs.lemmas.Bool.{eqb-true, false≢true}
use Rattle.std.specs.Char.{encode_utf8}
use Rattle.std.proofs.lemmas.Str.{length-encode, len_utf8_bounds}
use Rattle.regress_base.specs.ByteBitmap.{contains}
use Rattle.regress_base.specs.declared.bytesearch.bitmap.ByteBitmap.{ByteBitmap}
use Rattle.regress_base.specs.Positions.{IsMemberAt}
use Rattle.regress_tree.specs.Matching.{steps}
use Rattle.regress_base.specs.Intervals.{Bounds, is_within}
use Rattle.regress_tree.specs.Reading.{Direction, forwards, Read, character_at, next_character, of_bytes, read_after}
use Rattle.regress_tree.specs.References.{all_of}
use Rattle.regress_tree.proofs.lemmas.Characters.{character_at_parts}
use Rattle.regress_tree.specs.Steps.{MatchState, Setting}
use Rattle.regress_tree.specs.Tree.{Tree, leaf, string_set}
use Rattle.regress_prefilter.specs.FirstSets.{BeginsWithByteOf, IsCovered}
use Rattle.regress_prefilter.specs.OneCharacter.{takes_one, test_of}
use Rattle.regress_prefilter.proofs.lemmas.Distinct.{none_distinct}
use Rattle.regress_prefilter.proofs.lemmas.OneCharacter.{after_parts, takes_one-steps}
use Rattle.regress_base.specs.Table.{canonicalize, denotes}
use Rattle.regress_leaves.specs.Known.{HasAsciiCase}
use Rattle.regress_leaves.specs.Starts.{BeginsFolded, HasClass, IsFoldedFrom}
use Rattle.regress_leaves.proofs.ReadingLemmas.{ascii_after, first_of_drop}
use Rattle.regress_leaves.proofs.lemmas.Leaves.{all_no, all_none, any-cons, any-nil, one_yes, one_no}

-- no match begins with another byte, or at the end of the text
pub bytes_fail : (set : ByteBitmap) (t : Tree) (setting : Setting) (bytes : List ℕ) (s : MatchState) → BeginsWithByteOf set t →
    (IsMemberAt (contains set) bytes s.position → ⊥) → steps setting bytes forwards t s ≡ []
bytes_fail set t setting bytes s begins out = none_distinct _ (begins setting bytes s out)

pub no_member : (set : ByteBitmap) (bytes : List ℕ) (k : ℕ) → contains set (get_or bytes k 0) ≡ false → IsMemberAt (contains set) bytes k → ⊥
no_member set bytes k out is = false≢true (sym out ∙ is.member)

module _ (set : ByteBitmap) (t : Tree) (takes : takes_one t ≡ true) (tests : (b : ℕ) → b < 128 → contains set b ≡ test_of t b) (setting : Setting)
    (bytes : List ℕ) (d : Direction) (s : MatchState) where
  -- at an ASCII character
  pub ascii_matches : (b to : ℕ) → b < 128 → next_character d (of_bytes bytes) s.position ≡ Some (record { character = b; position = to }) →
      contains set b ≡ true → steps setting bytes d t s ≡ record s { position = to } ∷ []
  ascii_matches b to lt here in_set =
      takes_one-steps setting bytes d t s takes
      ∙ one_yes d (of_bytes bytes) (test_of t) s (record { character = b; position = to }) here (sym (tests b lt) ∙ in_set)

  pub ascii_fails : (b to : ℕ) → b < 128 → next_character d (of_bytes bytes) s.position ≡ Some (record { character = b; position = to }) →
      contains set b ≡ false → steps setting bytes d t s ≡ []
  ascii_fails b to lt here out =
      takes_one-steps setting bytes d t s takes
      ∙ one_no d (of_bytes bytes) (test_of t) s (record { character = b; position = to }) here (sym (tests b lt) ∙ out)

-- ---- a string that is compared by canonical forms

other_lower : (b c : ℕ) → (to_ascii_lowercase b ≡ to_ascii_lowercase c → ⊥) → (to_ascii_lowercase b == to_ascii_lowercase c) ≡ false
other_lower b c other = grind (arith, nat_tests, other)

other_upper : (b c : ℕ) → (to_ascii_lowercase b ≡ to_ascii_lowercase c → ⊥) → (to_ascii_uppercase b == to_ascii_uppercase c) ≡ false
other_upper b c other = grind (arith, nat_tests, other)

-- ASCII characters that are not two cases of one letter have different canonical forms
differs : (setting : Setting) → HasAsciiCase setting → (b c : ℕ) → b < 128 → c < 128 → (to_ascii_lowercase b ≡ to_ascii_lowercase c → ⊥) →
    denotes setting.table true setting.flags.unicode c b ≡ false
differs setting has b c low low' other = by setting.flags.unicode refl
  where
    by : (unicode : Bool) → setting.flags.unicode ≡ unicode → denotes setting.table true unicode c b ≡ false
    by true is = ap₂ (λ x y. x == y) (has.fold is b low) (has.fold is c low') ∙ other_lower b c other
    by false is = ap₂ (λ x y. x == y) (has.uppercase is b low) (has.uppercase is c low') ∙ other_upper b c other

pub ascii_variants : (set : ByteBitmap) (c : ℕ) (rest : List ℕ) → c < 128 →
    ((b : ℕ) → b < 256 → contains set b ≡ false → (b < 128) × (to_ascii_lowercase b ≡ to_ascii_lowercase c → ⊥)) →
    BeginsFolded set (leaf (string_set ((c ∷ rest) ∷ []) true))
ascii_variants set c rest low others setting bytes s has out =
    let r = of_bytes bytes in
    let same = denotes setting.table true setting.flags.unicode in
    let b = get_or bytes s.position 0 in
    let no = others b out.byte out.out in
    any-cons forwards r same (c ∷ rest) [] s
    ∙ ap₂ ◌++◌ (all_no forwards r same c rest s (record { character = b; position = s.position + 1 })
    (ascii_after bytes s.position b no.0 out.before refl) (differs setting has b c no.0 low no.1)) (any-nil forwards r same s)

-- ---- a string whose first character has a known class

-- the first byte of the character at a position
covered_there : (set : ByteBitmap) (bytes : List ℕ) (k c : ℕ) → character_at bytes k ≡ Some c → IsCovered (contains set) c →
    contains set (get_or bytes k 0) ≡ true
covered_there set bytes k c is covers =
    let found = character_at_parts bytes k c is in
    from (encode_utf8 c) found.1.0 found.1.1 (omega (arith, length-encode c, (len_utf8_bounds c).0)) (covers found.0)
  where
    from : (code rest : List ℕ) → drop k bytes ≡ code ++ rest → 1 ≤ length code → ((b : ℕ) → slice_get code 0 ≡ Some b → IsTrue (contains set b)) →
        contains set (get_or bytes k 0) ≡ true
    from [] rest here some covers = absurd (omega (arith, some))
    from (b ∷ code) rest here some covers =
        ap (contains set) (sym (first_of_drop bytes k) ∙ ap (λ xs. get_or xs 0 0) here) ∙ covers b refl

-- a character with another first byte has another canonical form
other_class : (setting : Setting) (interval : Bounds) (c x : ℕ) → HasAsciiCase setting → HasClass interval c →
    (is_within interval x ≡ true → ⊥) → denotes setting.table true setting.flags.unicode c x ≡ false
other_class setting interval c x has within out =
    let f = canonicalize setting.table setting.flags.unicode in
    false_of (f x == f c) (λ is. out (within f has.caseless x (eqb-true (f x) (f c) is)))
  where
    false_of : (b : Bool) → (b ≡ true → ⊥) → b ≡ false
    false_of true not = absurd (not refl)
    false_of false not = refl

pub class_variants : (set : ByteBitmap) (interval : Bounds) (c : ℕ) (rest : List ℕ) → HasClass interval c →
    ((x : ℕ) → IsTrue (is_within interval x) → IsCovered (contains set) x) → BeginsFolded set (leaf (string_set ((c ∷ rest) ∷ []) true))
class_variants set interval c rest within covers setting bytes s has out =
    any-cons forwards (of_bytes bytes) (denotes setting.table true setting.flags.unicode) (c ∷ rest) [] s
    ∙ ap₂ ◌++◌ (by (read_after bytes s.position) refl) (any-nil forwards (of_bytes bytes) (denotes setting.table true setting.flags.unicode) s)
  where
    by : (o : Option Read) → read_after bytes s.position ≡ o →
        all_of forwards (of_bytes bytes) (denotes setting.table true setting.flags.unicode) (c ∷ rest) s ≡ []
    by None none = all_none forwards (of_bytes bytes) (denotes setting.table true setting.flags.unicode) c rest s none
    by (Some read) some =
        all_no forwards (of_bytes bytes) (denotes setting.table true setting.flags.unicode) c rest s read some
        (other_class setting interval c read.character has within
        (λ is. false≢true (sym out.out ∙ covered_there set bytes s.position read.character (after_parts bytes s.position read some).0 (covers read.character is))))

-- the same of the tree of such a string
pub tree_begins : (o : Option ByteBitmap) (c : ℕ) (t : Tree) → IsFoldedFrom c t →
    IfSome o (λ set. (rest : List ℕ) → BeginsFolded set (leaf (string_set ((c ∷ rest) ∷ []) true))) → IfSome o (λ set. BeginsFolded set t)
tree_begins None c t from begins = begins
tree_begins (Some set) c t from begins = subst (BeginsFolded set) (sym from.1) (begins from.0)
