-- The first bytes of nodes, from those of their children.
use Rattle.std.proofs.Common.{◌≡◌, ◌⊎◌, inl, inr, ℕ, zero, suc, ◌+◌, ◌-◌, ◌≤◌, ◌<◌, ◌==◌, Bool, true, false, not, ◌&&◌, ◌||◌, List, [], ◌∷◌, ◌++◌, flat_map, length, drop, get_or, slice_index, slice_get, Option, Some, None, All, refl, sym, ap, subst, ◌∙◌, arith, append_assoc, if◌then◌else◌, nat_eq}
use Rattle.std.specs.Prelude.{IsTrue, IfSome, nat_le}
use Rattle.std.specs.Char.{IsScalar, encode_utf8}
use Rattle.std.specs.List.{starts_with}
use Rattle.std.proofs.lemmas.Bool.Decides.{Decides-eqb}
use Rattle.std.proofs.lemmas.List.{length-drop, drop_more, drop_all, get_or-drop}
use Rattle.std.proofs.lemmas.List.Elements.{All-nil, All-cons, All-head, All-tail, All-append, All-map, All-filter}
use Rattle.std.proofs.lemmas.Bool.{eqb-true, leb-true, and_from, and_parts, false≢true}
use Rattle.std.proofs.lemmas.Slice.Eq.{starts_is}
use Rattle.std.proofs.lemmas.Str.{length-encode, len_utf8_bounds}
use Rattle.regress_base.specs.ByteBitmap.{contains}
use Rattle.regress_base.specs.Intervals.{Bounds, is_within, is_member}
use Rattle.regress_base.specs.Listing.{lists}
use Rattle.regress_base.specs.Positions.{IsMemberAt, IsLeastAt}
use Rattle.regress_base.specs.Table.{denotes}
use Rattle.regress_base.specs.declared.types.Quantifier.{Quantifier}
use Rattle.regress_base.specs.FirstBytes.{IsFirstByteBetween}
use Rattle.regress_tree.specs.Assertions.{at_anchor, at_boundary, is_word_character}
use Rattle.regress_tree.specs.Lookaround.{lookaround_matcher, looked}
use Rattle.regress_tree.specs.Matching.{steps, steps_of_parts, leaf_steps}
use Rattle.regress_tree.specs.Reading.{forwards, backwards, Reading, Read, next_character, of_bytes}
use Rattle.regress_tree.specs.References.{all_of, any_string}
use Rattle.regress_tree.specs.Repetition.{unset, iteration, iterations, moving, up_to, extra_iterations, repeat_matcher}
use Rattle.regress_tree.specs.Steps.{MatchState, Matcher, stay, fail, ◌then_◌, ◌or_◌, one_character, moved, these_bytes, hold_at, capture, captured, dedup, Setting}
use Rattle.regress_tree.specs.Tree.{Leaf, empty, goal, char, byte_sequence, byte_set, char_set, match_any, match_any_except_line_terminator, anchor, word_boundary, bracket, back_ref, string_set, Tree, Trees, no_trees, more_trees, append_trees, leaf, cat, alt, wrapped, capture_group, lookaround}
use Rattle.regress_tree.proofs.lemmas.Characters.{character_at_parts}
use Rattle.regress_tree.proofs.lemmas.Lists.{steps-append}
use Rattle.regress_prefilter.specs.FirstSets.{IsCovered, BeginsWith, Begins, IsFirstSetOf, IsFirstSet, BeginsWithByteOf}
use Rattle.regress_prefilter.specs.declared.first_sets.FirstSet.{FirstSet}
use Rattle.regress_tree.proofs.lemmas.Outcomes.{flat_map-stay}
use mathlib.Core.Path.{fun_ext}
use Rattle.regress_prefilter.specs.OneCharacter.{takes_one, test_of}
use Rattle.regress_prefilter.proofs.lemmas.OneCharacter.{after_parts, takes_one-steps}

pub member_more : (set set' : ℕ → Bool) (bytes : List ℕ) (k : ℕ) → ((b : ℕ) → IsTrue (set b) → IsTrue (set' b)) → IsMemberAt set bytes k → IsMemberAt set' bytes k
member_more set set' bytes k more at = record { inside = at.inside; member = more (slice_index bytes k) at.member }

begun_more : (set set' : ℕ → Bool) (through through' : Bool) (bytes : List ℕ) (from to : ℕ) → ((b : ℕ) → IsTrue (set b) → IsTrue (set' b)) →
    (through ≡ true → through' ≡ true) → BeginsWith set through bytes from to → BeginsWith set' through' bytes from to
begun_more set set' through through' bytes from to more on (inl at) = inl (member_more set set' bytes from more at)
begun_more set set' through through' bytes from to more on (inr both) = inr (on both.0, both.1)

pub all_more : {A : Type 0} (P Q : A → Type 0) → ((x : A) → P x → Q x) → (xs : List A) → All P xs → All Q xs
all_more P Q f [] all = All-nil Q
all_more P Q f (x ∷ xs) all = All-cons Q x xs (f x (All-head P x xs all)) (all_more P Q f xs (All-tail P x xs all))

pub begins_more : (set set' : ℕ → Bool) (through through' : Bool) (bytes : List ℕ) (f : Matcher) → ((b : ℕ) → IsTrue (set b) → IsTrue (set' b)) →
    (through ≡ true → through' ≡ true) → Begins set through bytes f → Begins set' through' bytes f
begins_more set set' through through' bytes f more on begins =
    λ s. all_more _ (λ t. BeginsWith set' through' bytes s.position t.position) (λ t. begun_more set set' through through' bytes s.position t.position more on) (f s)
    (begins s)

module _ (set : ℕ → Bool) (bytes : List ℕ) where
  -- one part followed by another, for a single outcome
  begun_then : (through through' : Bool) (from mid to : ℕ) → BeginsWith set through bytes from mid → BeginsWith set through' bytes mid to →
      BeginsWith set (through && through') bytes from to
  begun_then through through' from mid to (inl at) second = inl at
  begun_then through through' from mid to (inr both) (inl at) = inl (subst (λ k. IsMemberAt set bytes k) both.1 at)
  begun_then through through' from mid to (inr both) (inr both') = inr (and_from through through' both.0 both'.0, both'.1 ∙ both.1)

  all_then : (through through' : Bool) (g : Matcher) (from : ℕ) (states : List MatchState) → All (λ t. BeginsWith set through bytes from t.position) states →
      Begins set through' bytes g → All (λ t. BeginsWith set (through && through') bytes from t.position) (flat_map g states)
  all_then through through' g from [] all second = All-nil _
  all_then through through' g from (u ∷ states) all second =
      All-append (λ t. BeginsWith set (through && through') bytes from t.position) (g u) (flat_map g states)
      (all_more (λ t. BeginsWith set through' bytes u.position t.position) _
      (λ t. begun_then through through' from u.position t.position (All-head (λ t. BeginsWith set through bytes from t.position) u states all)) (g u) (second u))
      (all_then through through' g from states (All-tail (λ t. BeginsWith set through bytes from t.position) u states all) second)

  pub begins_then : (through through' : Bool) (f g : Matcher) → Begins set through bytes f → Begins set through' bytes g →
      Begins set (through && through') bytes (f then_ g)
  begins_then through through' f g first second = λ s. all_then through through' g s.position (f s) (first s) second

  always_begun : (from mid : ℕ) → BeginsWith set false bytes from mid → (ts : List MatchState) → All (λ t. BeginsWith set false bytes from t.position) ts
  always_begun from mid (inl at) [] = All-nil (λ t. BeginsWith set false bytes from t.position)
  always_begun from mid (inl at) (t ∷ ts) = All-cons (λ t. BeginsWith set false bytes from t.position) t ts (inl at) (always_begun from mid (inl at) ts)
  always_begun from mid (inr both) ts = let bad : ⊥ = cc in absurd bad

  -- A part that is never empty determines the first bytes, whatever follows it.
  all_before : (g : Matcher) (from : ℕ) (states : List MatchState) → All (λ t. BeginsWith set false bytes from t.position) states →
      All (λ t. BeginsWith set false bytes from t.position) (flat_map g states)
  all_before g from [] all = All-nil (λ t. BeginsWith set false bytes from t.position)
  all_before g from (u ∷ states) all =
      All-append (λ t. BeginsWith set false bytes from t.position) (g u) (flat_map g states)
      (always_begun from u.position (All-head (λ t. BeginsWith set false bytes from t.position) u states all) (g u))
      (all_before g from states (All-tail (λ t. BeginsWith set false bytes from t.position) u states all))

  pub begins_before : (f g : Matcher) → Begins set false bytes f → Begins set false bytes (f then_ g)
  begins_before f g first = λ s. all_before g s.position (f s) (first s)

  pub begins_or : (through : Bool) (f g : Matcher) → Begins set through bytes f → Begins set through bytes g → Begins set through bytes (f or_ g)
  begins_or through f g first second =
      λ s. All-append (λ t. BeginsWith set through bytes s.position t.position) (f s) (g s) (first s) (second s)

  pub begins-stay : Begins set true bytes stay
  begins-stay = λ s. All-cons (λ t. BeginsWith set true bytes s.position t.position) s [] (inr (refl, refl)) (All-nil _)

  begins-iteration : (through : Bool) (start end : ℕ) (f : Matcher) → Begins set through bytes f → Begins set through bytes (iteration start end f)
  begins-iteration through start end f first = λ s. first (unset start end s)

  begins-moving : (through : Bool) (f : Matcher) → Begins set through bytes f → Begins set through bytes (moving f)
  begins-moving through f first =
      λ s. All-filter (λ t. not (t.position == s.position)) (λ t. BeginsWith set through bytes s.position t.position) (f s) (first s)

  begins-maybe : (through through' : Bool) (f : Matcher) → Begins set (through && through') bytes f → Begins set true bytes f
  begins-maybe through through' f first = begins_more set set (through && through') true bytes f (λ b h. h) (λ h. refl) first

  begins-iterations : (through : Bool) (n : ℕ) (f : Matcher) → Begins set through bytes f → Begins set true bytes (iterations n f)
  begins-iterations through zero f first = begins-stay
  begins-iterations through (suc n) f first = begins-maybe through true (iterations (suc n) f)
      (begins_then through true f (iterations n f) first (begins-iterations through n f first))

  begins-up_to : (through : Bool) (greedy : Bool) (n : ℕ) (f : Matcher) → Begins set through bytes f → Begins set true bytes (up_to greedy n f)
  begins-up_to through greedy zero f first = begins-stay
  begins-up_to through true (suc n) f first =
      let more : Matcher = moving f then_ up_to true n f in
      begins_or true more stay
      (begins-maybe through true more (begins_then through true (moving f) (up_to true n f) (begins-moving through f first)
      (begins-up_to through true n f first)))
      begins-stay
  begins-up_to through false (suc n) f first =
      let more : Matcher = moving f then_ up_to false n f in
      begins_or true stay more begins-stay
      (begins-maybe through true more (begins_then through true (moving f) (up_to false n f) (begins-moving through f first)
      (begins-up_to through false n f first)))

  or-right : (a b : Bool) → b ≡ true → (a || b) ≡ true
  or-right true b is = refl
  or-right false b is = is

  or-left : (a b : Bool) → a ≡ true → (a || b) ≡ true
  or-left a b is = ap (λ x. x || b) is

  begins-some : (through : Bool) (n : ℕ) (f g : Matcher) → Begins set through bytes f → Begins set true bytes g →
      Begins set (through || (n == 0)) bytes (iterations n f then_ g)
  begins-some through zero f g first second =
      begins_more set set (true && true) (through || (0 == 0)) bytes (iterations 0 f then_ g) (λ b h. h) (λ h. or-right through (0 == 0) refl)
      (begins_then true true (iterations 0 f) g begins-stay second)
  begins-some through (suc n) f g first second =
      begins_more set set ((through && true) && true) (through || (suc n == 0)) bytes (iterations (suc n) f then_ g) (λ b h. h)
      (λ h. or-left through (suc n == 0) (and_parts through true (and_parts (through && true) true h).0).0)
      (begins_then (through && true) true (iterations (suc n) f) g (begins_then through true f (iterations n f) first (begins-iterations through n f first)) second)

  pub begins-repeat : (through : Bool) (bound : ℕ) (q : Quantifier) (start end : ℕ) (f : Matcher) → Begins set through bytes f →
      Begins set (through || (q.min == 0)) bytes (repeat_matcher bound q start end f)
  unfolding repeat_matcher
  begins-repeat through bound q start end f first =
      let T = iteration start end f in
      let turned = begins-iteration through start end f first in
      begins-some through q.min T (up_to q.greedy (extra_iterations bound q) T) turned (begins-up_to through q.greedy (extra_iterations bound q) T turned)

  pub begins-capture : (through : Bool) (id : ℕ) (f : Matcher) → Begins set through bytes f → Begins set through bytes (capture id f)
  unfolding capture
  begins-capture through id f first =
      λ s. All-map (λ t. BeginsWith set through bytes s.position t.position) (captured id s.position) (f s) (first s)

  all-looked : (negate : Bool) (s : MatchState) (states : List MatchState) → All (λ t. BeginsWith set true bytes s.position t.position) (looked negate s states)
  all-looked false s [] = All-nil _
  all-looked false s (t ∷ later) = All-cons (λ t. BeginsWith set true bytes s.position t.position) (record t { position = s.position }) [] (inr (refl, refl)) (All-nil _)
  all-looked true s [] = All-cons (λ t. BeginsWith set true bytes s.position t.position) s [] (inr (refl, refl)) (All-nil _)
  all-looked true s (t ∷ later) = All-nil _

  pub begins-look : (negate : Bool) (f : Matcher) → Begins set true bytes (lookaround_matcher negate f)
  unfolding lookaround_matcher
  begins-look negate f = λ s. all-looked negate s (f s)

  all-held : (s : MatchState) (b : Bool) → All (λ t. BeginsWith set true bytes s.position t.position) (if b then s ∷ [] else [])
  all-held s true = All-cons (λ t. BeginsWith set true bytes s.position t.position) s [] (inr (refl, refl)) (All-nil _)
  all-held s false = All-nil _

  pub begins-hold : (test : ℕ → Bool) → Begins set true bytes (hold_at test)
  unfolding hold_at
  begins-hold test = λ s. all-held s (test s.position)

  pub first_of_drop : (k : ℕ) → get_or (drop k bytes) 0 0 ≡ slice_index bytes k
  first_of_drop k = get_or-drop k bytes 0 0 ∙ ap (slice_index bytes) (omega arith)

  -- the byte at an offset is the first of the remaining bytes
  pub member_of : (k b : ℕ) (rest : List ℕ) → drop k bytes ≡ b ∷ rest → IsTrue (set b) → IsMemberAt set bytes k
  member_of k b rest here member =
      let first : slice_index bytes k ≡ b = sym (first_of_drop k) ∙ ap (λ bs. get_or bs 0 0) here in
      let len = ap length here in
      record {
        inside = omega (arith, len, length-drop k bytes);
        member = subst (λ x. IsTrue (set x)) (sym first) member;
      }

  pub covered_at : (k c : ℕ) (code rest : List ℕ) → drop k bytes ≡ code ++ rest → 1 ≤ length code →
      ((b : ℕ) → slice_get code 0 ≡ Some b → IsTrue (set b)) → IsMemberAt set bytes k
  covered_at k c [] rest here some covers = absurd (omega (arith, some))
  covered_at k c (b ∷ code) rest here some covers = member_of k b (code ++ rest) here (covers b refl)

  all-moved : (test : ℕ → Bool) (s : MatchState) (o : Option Read) → ((read : Read) → o ≡ Some read → test read.character ≡ true → IsMemberAt set bytes s.position) →
      All (λ t. BeginsWith set false bytes s.position t.position) (moved test s o)
  all-moved test s None at = All-nil _
  all-moved test s (Some read) at = tested (test read.character) (λ is. at read refl is)
    where
      tested : (b : Bool) → (b ≡ true → IsMemberAt set bytes s.position) →
          All (λ t. BeginsWith set false bytes s.position t.position) (if b then record s { position = read.position } ∷ [] else [])
      tested true h = All-cons (λ t. BeginsWith set false bytes s.position t.position) (record s { position = read.position }) [] (inl (h refl))
          (All-nil (λ t. BeginsWith set false bytes s.position t.position))
      tested false h = All-nil (λ t. BeginsWith set false bytes s.position t.position)

  pub begins-one : (test : ℕ → Bool) → ((c : ℕ) → test c ≡ true → IsCovered set c) → Begins set false bytes (one_character forwards (of_bytes bytes) test)
  unfolding one_character
  begins-one test covers =
      λ s. all-moved test s (next_character forwards (of_bytes bytes) s.position)
      (λ read e is.
      let found = character_at_parts bytes s.position read.character (after_parts bytes s.position read e).0 in
      covered_at s.position read.character (encode_utf8 read.character) found.1.0 found.1.1 (encoded read.character found.0) (covers read.character is found.0))
    where
      encoded : (c : ℕ) → IsScalar c → 1 ≤ length (encode_utf8 c)
      encoded c scalar = omega (arith, length-encode c, (len_utf8_bounds c).0)

  pub begins-bytes : (b : ℕ) (written : List ℕ) → IsTrue (set b) → Begins set false bytes (these_bytes forwards bytes (b ∷ written))
  unfolding these_bytes
  begins-bytes b written member = λ s. occurs s (starts_with nat_eq (drop s.position bytes) (b ∷ written)) refl
    where
      occurs : (s : MatchState) (x : Bool) → starts_with nat_eq (drop s.position bytes) (b ∷ written) ≡ x →
          All (λ t. BeginsWith set false bytes s.position t.position) (if x then record s { position = s.position + length (b ∷ written) } ∷ [] else [])
      occurs s true is =
          let found = (starts_is Decides-eqb (drop s.position bytes) (b ∷ written) _ refl).0 is in
          All-cons (λ t. BeginsWith set false bytes s.position t.position) (record s { position = s.position + length (b ∷ written) }) []
          (inl (member_of s.position b _ found member)) (All-nil (λ t. BeginsWith set false bytes s.position t.position))
      occurs s false is = All-nil (λ t. BeginsWith set false bytes s.position t.position)

  none_begun : (from : ℕ) (states : List MatchState) → All (λ t. BeginsWith set false bytes from t.position) states → (IsMemberAt set bytes from → ⊥) → states ≡ []
  none_begun from [] all off = refl
  none_begun from (t ∷ states) all off = absurd (neither (All-head (λ t. BeginsWith set false bytes from t.position) t states all))
    where
      neither : BeginsWith set false bytes from t.position → ⊥
      neither (inl at) = off at
      neither (inr both) = let bad : ⊥ = cc in bad

  -- a part has no outcome at an offset without a byte of the set
  pub begins_nowhere : (f : Matcher) (s : MatchState) → Begins set false bytes f → (IsMemberAt set bytes s.position → ⊥) → f s ≡ []
  begins_nowhere f s begins off = none_begun s.position (f s) (begins s) off

  pub begins-same : (through : Bool) (f g : Matcher) → ((s : MatchState) → f s ≡ g s) → Begins set through bytes g → Begins set through bytes f
  begins-same through f g same begins = λ s. subst (λ states. All (λ t. BeginsWith set through bytes s.position t.position) states) (sym (same s)) (begins s)

-- a member of a list from an index on is the element there or is after it
pub remaining_list : (set : ℕ → Bool) (xs : List ℕ) (i c : ℕ) → i < length xs → IsCovered set (get_or xs i 0) → lists (drop i xs) c ≡ true →
    (lists (drop (i + 1) xs) c ≡ true) ⊎ IsCovered set c
remaining_list set xs i c lt covered is = first (get_or xs i 0) (get_or xs i 0 == c) refl covered (sym (ap (λ ys. lists ys c) (drop_more xs i 0 lt)) ∙ is)
  where
    first : (x : ℕ) (b : Bool) → (x == c) ≡ b → IsCovered set x → (b || lists (drop (i + 1) xs) c) ≡ true → (lists (drop (i + 1) xs) c ≡ true) ⊎ IsCovered set c
    first x true same here h = inr (subst (λ y. IsCovered set y) (eqb-true x c same) here)
    first x false same here h = inl h

pub left_member : (set : ℕ → Bool) (xs : List Bounds) (i c : ℕ) (x : Bounds) → drop i xs ≡ x ∷ drop (i + 1) xs →
    (is_within x c ≡ true → IsCovered set c) → is_member (drop i xs) c ≡ true → (is_member (drop (i + 1) xs) c ≡ true) ⊎ IsCovered set c
unfolding is_member
left_member set xs i c x split covered is = first (is_within x c) covered (sym (ap (λ ys. is_member ys c) split) ∙ is)
  where
    first : (b : Bool) → (b ≡ true → IsCovered set c) → (b || is_member (drop (i + 1) xs) c) ≡ true → (is_member (drop (i + 1) xs) c ≡ true) ⊎ IsCovered set c
    first true here h = inr (here refl)
    first false here h = inl h

-- The alternatives so far have this first set, and they and the remaining ones make up the whole.
abbrev pub IsSpine : FirstSet → (whole rest : Tree) → Type 0
IsSpine front whole rest = (setting : Setting) (bytes : List ℕ) →
    (f : Matcher) × IsFirstSetOf front bytes f × ((s : MatchState) → steps setting bytes forwards whole s ≡ f s ++ steps setting bytes forwards rest s)

pub or-one : (a b c : Bool) → c ≡ (a || b) → a ≡ true → c ≡ true
or-one true b c is h = is
or-one false b c is h = let bad : ⊥ = cc in absurd bad

or-two : (a b c : Bool) → c ≡ (a || b) → b ≡ true → c ≡ true
or-two true b c is h = is
or-two false b c is h = is ∙ h

pub and-one : (a b : Bool) → (a && b) ≡ true → a ≡ true
and-one true b is = refl
and-one false b is = is

pub and-two : (a b : Bool) → (a && b) ≡ true → b ≡ true
and-two true b is = is
and-two false b is = let bad : ⊥ = cc in absurd bad

pub not-one : (a b : Bool) → a ≡ false → (a || b) ≡ true → b ≡ true
not-one true b off is = let bad : ⊥ = cc in absurd bad
not-one false b off is = is

pub front_then : (a b : FirstSet) (set : ℕ → Bool) (through : Bool) (bytes : List ℕ) (f g : Matcher) →
    ((x : ℕ) → set x ≡ (contains a.bytes x || contains b.bytes x)) →
    ((a.through && b.through) ≡ true → through ≡ true) → IsFirstSetOf a bytes f → IsFirstSetOf b bytes g → Begins set through bytes (f then_ g)
front_then a b set through bytes f g members on first second =
    begins_more set set (a.through && b.through) through bytes (f then_ g) (λ x h. h) on
    (begins_then set bytes a.through b.through f g
    (begins_more (contains a.bytes) set a.through a.through bytes f
    (λ x h. or-one (contains a.bytes x) (contains b.bytes x) (set x) (members x) h) (λ h. h) first)
    (begins_more (contains b.bytes) set b.through b.through bytes g
    (λ x h. or-two (contains a.bytes x) (contains b.bytes x) (set x) (members x) h) (λ h. h) second))

pub front_or : (a b : FirstSet) (set : ℕ → Bool) (through : Bool) (bytes : List ℕ) (f g : Matcher) →
    ((x : ℕ) → set x ≡ (contains a.bytes x || contains b.bytes x)) → (a.through ≡ true → through ≡ true) → (b.through ≡ true → through ≡ true) →
    IsFirstSetOf a bytes f → IsFirstSetOf b bytes g → Begins set through bytes (f or_ g)
front_or a b set through bytes f g members on on' first second =
    begins_or set bytes through f g
    (begins_more (contains a.bytes) set a.through through bytes f
    (λ x h. or-one (contains a.bytes x) (contains b.bytes x) (set x) (members x) h) on first)
    (begins_more (contains b.bytes) set b.through through bytes g
    (λ x h. or-two (contains a.bytes x) (contains b.bytes x) (set x) (members x) h) on' second)

pub front_repeat : (set : ℕ → Bool) (through through' : Bool) (bytes : List ℕ) (f : Matcher) (q : Quantifier) (bound start end : ℕ) →
    ((through || (q.min == 0)) ≡ true → through' ≡ true) → Begins set through bytes f → Begins set through' bytes (repeat_matcher bound q start end f)
front_repeat set through through' bytes f q bound start end on first =
    begins_more set set (through || (q.min == 0)) through' bytes (repeat_matcher bound q start end f) (λ x h. h) on
    (begins-repeat set bytes through bound q start end f first)

-- a leaf that matches one character
pub front-one : (set : ℕ → Bool) (setting : Setting) (bytes : List ℕ) (t : Tree) → takes_one t ≡ true →
    ((c : ℕ) → test_of t c ≡ true → IsCovered set c) → Begins set false bytes (steps setting bytes forwards t)
front-one set setting bytes t takes covers =
    begins-same set bytes false (steps setting bytes forwards t) (one_character forwards (of_bytes bytes) (test_of t))
    (λ s. takes_one-steps setting bytes forwards t s takes) (begins-one set bytes (test_of t) covers)

abbrev pub is_still_leaf : Leaf → Bool
is_still_leaf empty = true
is_still_leaf goal = true
is_still_leaf (anchor kind multiline) = true
is_still_leaf (word_boundary invert icase) = true
is_still_leaf l = false

-- a leaf that matches the empty string alone
abbrev pub is_still : Tree → Bool
is_still (leaf l) = is_still_leaf l
is_still t = false

still-leaf : (set : ℕ → Bool) (setting : Setting) (bytes : List ℕ) (l : Leaf) → is_still_leaf l ≡ true → Begins set true bytes
    (leaf_steps setting bytes forwards l)
still-leaf set setting bytes empty is = begins-stay set bytes
still-leaf set setting bytes goal is = begins-stay set bytes
still-leaf set setting bytes (anchor kind multiline) is = begins-hold set bytes (at_anchor (of_bytes bytes) kind multiline)
still-leaf set setting bytes (word_boundary invert icase) is =
    begins-hold set bytes (at_boundary (of_bytes bytes) (is_word_character setting.table icase) invert)
still-leaf set setting bytes (char c) is = let bad : ⊥ = cc in absurd bad
still-leaf set setting bytes (byte_sequence written) is = let bad : ⊥ = cc in absurd bad
still-leaf set setting bytes (byte_set members) is = let bad : ⊥ = cc in absurd bad
still-leaf set setting bytes (char_set members) is = let bad : ⊥ = cc in absurd bad
still-leaf set setting bytes match_any is = let bad : ⊥ = cc in absurd bad
still-leaf set setting bytes match_any_except_line_terminator is = let bad : ⊥ = cc in absurd bad
still-leaf set setting bytes (bracket invert intervals) is = let bad : ⊥ = cc in absurd bad
still-leaf set setting bytes (back_ref group icase) is = let bad : ⊥ = cc in absurd bad
still-leaf set setting bytes (string_set strings icase) is = let bad : ⊥ = cc in absurd bad

maybe : (front : FirstSet) (bytes : List ℕ) (f : Matcher) → front.through ≡ true → Begins (contains front.bytes) true bytes f → IsFirstSetOf front bytes f
maybe front bytes f is begins = begins_more (contains front.bytes) (contains front.bytes) true front.through bytes f (λ x h. h) (λ h. is) begins

pub front-still : (front : FirstSet) (t : Tree) → front.through ≡ true → is_still t ≡ true → IsFirstSet front t
front-still front (leaf l) through is = λ setting bytes.
    maybe front bytes (leaf_steps setting bytes forwards l) through (still-leaf (contains front.bytes) setting bytes l is)
front-still front (cat parts) through is = let bad : ⊥ = cc in absurd bad
front-still front (alt left right) through is = let bad : ⊥ = cc in absurd bad
front-still front (wrapped w body) through is = let bad : ⊥ = cc in absurd bad

pub none_first : (xs : List ℕ) → slice_get xs 0 ≡ None → xs ≡ []
none_first [] is = refl
none_first (x ∷ xs) is = let bad : ⊥ = cc in absurd bad

pub some_first : (xs : List ℕ) (x : ℕ) → slice_get xs 0 ≡ Some x → xs ≡ x ∷ drop 1 xs
some_first [] x is = let bad : ⊥ = cc in absurd bad
some_first (y ∷ xs) x is = let same : y ≡ x = cc in ap (λ z. z ∷ xs) same

-- strings that are matched exactly
pub strings-none : (front : FirstSet) → IsFirstSet front (leaf (string_set [] false))
unfolding any_string
strings-none front = λ setting bytes s. All-nil _

pub string-empty : (front : FirstSet) → front.through ≡ true → IsFirstSet front (leaf (string_set ([] ∷ []) false))
unfolding any_string
string-empty front through =
    λ setting bytes. maybe front bytes (steps setting bytes forwards (leaf (string_set ([] ∷ []) false))) through (begins-stay (contains front.bytes) bytes)

pub string-some : (set : ℕ → Bool) (c : ℕ) (cs : List ℕ) → IsCovered set c → (setting : Setting) (bytes : List ℕ) →
    Begins set false bytes (steps setting bytes forwards (leaf (string_set ((c ∷ cs) ∷ []) false)))
unfolding any_string
string-some set c cs covered setting bytes =
    let same = denotes setting.table false setting.flags.unicode in
    let first = one_character forwards (of_bytes bytes) (same c) in
    let rest = all_of forwards (of_bytes bytes) same cs in
    begins_or set bytes false (first then_ rest) fail
    (begins_before set bytes first rest (begins-one set bytes (same c) (λ x is. subst (λ y. IsCovered set y) (sym (eqb-true x c is)) covered)))
    (λ s. All-nil _)

any_string-append : (r : Reading) (same : ℕ → ℕ → Bool) (xs ys : List (List ℕ)) (s : MatchState) →
    any_string forwards r same (xs ++ ys) s ≡ any_string forwards r same xs s ++ any_string forwards r same ys s
unfolding any_string
any_string-append r same [] ys s = refl
any_string-append r same (x ∷ xs) ys s =
    ap (λ ts. all_of forwards r same x s ++ ts) (any_string-append r same xs ys s)
    ∙ sym (append_assoc (all_of forwards r same x s) (any_string forwards r same xs s) (any_string forwards r same ys s))

pub strings-next : (a b r : FirstSet) (strings : List (List ℕ)) (string : List ℕ) →
    ((bytes : List ℕ) (f g : Matcher) → IsFirstSetOf a bytes f → IsFirstSetOf b bytes g → IsFirstSetOf r bytes (f or_ g)) →
    IsFirstSet a (leaf (string_set strings false)) → IsFirstSet b (leaf (string_set (string ∷ []) false)) →
    IsFirstSet r (leaf (string_set (strings ++ string ∷ []) false))
strings-next a b r strings string or so_far next =
    λ setting bytes.
    let same = denotes setting.table false setting.flags.unicode in
    let f = steps setting bytes forwards (leaf (string_set strings false)) in
    let g = steps setting bytes forwards (leaf (string_set (string ∷ []) false)) in
    begins-same (contains r.bytes) bytes r.through (steps setting bytes forwards (leaf (string_set (strings ++ string ∷ []) false))) (f or_ g)
    (any_string-append (of_bytes bytes) same strings (string ∷ []))
    (or bytes f g (so_far setting bytes) (next setting bytes))

pub front-capture : (front : FirstSet) (id : ℕ) (name : Option (List ℕ)) (t : Tree) → IsFirstSet front t → IsFirstSet front (wrapped (capture_group id name) t)
front-capture front id name t is = λ setting bytes.
    begins-capture (contains front.bytes) bytes front.through id (steps setting bytes forwards t) (is setting bytes)

pub front-look : (front : FirstSet) (negate looks_back : Bool) (start end : ℕ) (t : Tree) → front.through ≡ true →
    IsFirstSet front (wrapped (lookaround negate looks_back start end) t)
front-look front negate looks_back start end t through = λ setting bytes.
    maybe front bytes (lookaround_matcher negate (steps setting bytes (if looks_back then backwards else forwards) t)) through
    (begins-look (contains front.bytes) bytes negate (steps setting bytes (if looks_back then backwards else forwards) t))

pub if-some : {A : Type 0} {P Q : A → Type 0} (o : Option A) → ((x : A) → P x → Q x) → IfSome o P → IfSome o Q
if-some None f h = h
if-some (Some x) f h = f x h

-- alternatives, from the first on
pub spine-start : (front : FirstSet) (t : Tree) → IsSpine front t t
spine-start front t = λ setting bytes. (λ s. [], λ s. All-nil _, λ s. refl)

pub spine-next : (a b r : FirstSet) (whole left right : Tree) → ((bytes : List ℕ) (f g : Matcher) → IsFirstSetOf a bytes f → IsFirstSetOf b bytes g → IsFirstSetOf r bytes
    (f or_ g)) →
    IsSpine a whole (alt left right) → IsFirstSet b left → IsSpine r whole right
spine-next a b r whole left right or so_far front =
    λ setting bytes.
    let before = so_far setting bytes in
    let L = steps setting bytes forwards left in
    let R = steps setting bytes forwards right in (
      before.0 or_ L,
      or bytes before.0 L before.1 (front setting bytes),
      λ s. before.2 s ∙ sym (append_assoc (before.0 s) (L s) (R s)),
    )

pub spine-last : (a b r : FirstSet) (whole rest : Tree) → ((bytes : List ℕ) (f g : Matcher) → IsFirstSetOf a bytes f → IsFirstSetOf b bytes g → IsFirstSetOf r bytes
    (f or_ g)) →
    IsSpine a whole rest → IsFirstSet b rest → IsFirstSet r whole
spine-last a b r whole rest or so_far front =
    λ setting bytes.
    let before = so_far setting bytes in
    begins-same (contains r.bytes) bytes r.through (steps setting bytes forwards whole) (before.0 or_ steps setting bytes forwards rest) before.2
    (or bytes before.0 (steps setting bytes forwards rest) before.1 (front setting bytes))

-- a sequence with one more part
pub list-next : (a b r : FirstSet) (ts : Trees) (t : Tree) → ((bytes : List ℕ) (f g : Matcher) → IsFirstSetOf a bytes f → IsFirstSetOf b bytes g → IsFirstSetOf r bytes
    (f then_ g)) →
    IsFirstSet a (cat ts) → IsFirstSet b t → IsFirstSet r (cat (append_trees ts (more_trees t no_trees)))
list-next a b r ts t then' so_far front =
    λ setting bytes.
    let f = steps_of_parts setting bytes forwards ts in
    let g = steps setting bytes forwards t in
    begins-same (contains r.bytes) bytes r.through (steps_of_parts setting bytes forwards (append_trees ts (more_trees t no_trees))) (f then_ g)
    (λ s. steps-append setting bytes forwards ts (more_trees t no_trees) s ∙ ap (λ h. flat_map h (f s)) (fun_ext (λ u. flat_map-stay (g u))))
    (then' bytes f g (so_far setting bytes) (front setting bytes))

pub list-rest : (a : FirstSet) (ts us : Trees) → a.through ≡ false → IsFirstSet a (cat ts) → IsFirstSet a (cat (append_trees ts us))
list-rest a ts us is so_far =
    λ setting bytes.
    let f = steps_of_parts setting bytes forwards ts in
    let g = steps_of_parts setting bytes forwards us in
    begins-same (contains a.bytes) bytes a.through (steps_of_parts setting bytes forwards (append_trees ts us)) (f then_ g)
    (λ s. steps-append setting bytes forwards ts us s)
    (begins_more (contains a.bytes) (contains a.bytes) false a.through bytes (f then_ g) (λ x h. h) (λ h. let bad : ⊥ = cc in absurd bad)
    (begins_before (contains a.bytes) bytes f g
    (subst (λ (b : Bool). Begins (contains a.bytes) b bytes f) is (so_far setting bytes))))

pub needed : (front : FirstSet) (t : Tree) → front.through ≡ false → IsFirstSet front t → BeginsWithByteOf front.bytes t
needed front t is begins = λ setting bytes s off.
    ap dedup
    (begins_nowhere (contains front.bytes) bytes (steps setting bytes forwards t) s
    (subst (λ (b : Bool). Begins (contains front.bytes) b bytes (steps setting bytes forwards t)) is (begins setting bytes)) off)

-- a character stays covered when the set grows
pub covered_kept : (set set' : ℕ → Bool) (c : ℕ) → ((b : ℕ) → IsTrue (set b) → IsTrue (set' b)) → IsCovered set c → IsCovered set' c
covered_kept set set' c kept covered = λ scalar b first. kept b (covered scalar b first)

pub within_covered : (set : ℕ → Bool) (x : Bounds) (c : ℕ) → ((b : ℕ) → IsFirstByteBetween x.first x.last b → IsTrue (set b)) → is_within x c ≡ true →
    IsCovered set c
unfolding is_within
within_covered set x c has is =
    let both = and_parts (nat_le x.first c) (nat_le c x.last) is in
    λ scalar b first. has b (record { code_point = c; from_first = leb-true x.first c both.0; to_last = leb-true c x.last both.1; begins = first })

pub none_left : (xs : List Bounds) (i c : ℕ) → length xs ≤ i → is_member (drop i xs) c ≡ true → ⊥
unfolding is_member
none_left xs i c le is = false≢true (ap (λ ys. is_member ys c) (sym (drop_all i xs le)) ∙ is)

-- a member after `from`, by its offset from there
member_ahead : (set : ℕ → Bool) (bytes : List ℕ) (from j : ℕ) → IsMemberAt set bytes (from + j) → IsMemberAt set (drop from bytes) j
member_ahead set bytes from j at = record {
  inside = omega (arith, at.inside, length-drop from bytes);
  member = subst (λ b. IsTrue (set b)) (sym (get_or-drop from bytes j 0)) at.member;
}

member_after : (set : ℕ → Bool) (bytes : List ℕ) (from j : ℕ) → IsMemberAt set (drop from bytes) j → IsMemberAt set bytes (from + j)
member_after set bytes from j at = record {
  inside = omega (arith, at.inside, length-drop from bytes);
  member = subst (λ b. IsTrue (set b)) (get_or-drop from bytes j 0) at.member;
}

none_ahead : (set : ℕ → Bool) (bytes : List ℕ) (from n : ℕ) → length bytes ≤ from + n → ((j : ℕ) → j ≤ n → IsMemberAt set (drop from bytes) j → ⊥) →
    (k : ℕ) → from ≤ k → IsMemberAt set bytes k → ⊥
none_ahead set bytes from n far none k le at =
    let there : from + (k - from) ≡ k = omega (arith, le) in
    none (k - from) (omega (arith, far, le, at.inside)) (member_ahead set bytes from (k - from) (subst (λ i. IsMemberAt set bytes i) (sym there) at))

none_before : (set : ℕ → Bool) (bytes : List ℕ) (from n : ℕ) → ((j : ℕ) → j < n → IsMemberAt set (drop from bytes) j → ⊥) →
    (k : ℕ) → from ≤ k → k < from + n → IsMemberAt set bytes k → ⊥
none_before set bytes from n none k le lt at =
    let there : from + (k - from) ≡ k = omega (arith, le) in
    none (k - from) (omega (arith, le, lt)) (member_ahead set bytes from (k - from) (subst (λ i. IsMemberAt set bytes i) (sym there) at))

-- a search of the bytes after `from` that finds no member
pub none_in : (set : ℕ → Bool) (bytes ahead : List ℕ) (from : ℕ) → ahead ≡ drop from bytes → ((j : ℕ) → j ≤ length ahead → IsMemberAt set ahead j → ⊥) →
    (k : ℕ) → from ≤ k → IsMemberAt set bytes k → ⊥
none_in set bytes ahead from is none =
    none_ahead set bytes from (length (drop from bytes)) (omega (arith, length-drop from bytes))
    (subst (λ xs. (j : ℕ) → j ≤ length xs → IsMemberAt set xs j → ⊥) is none)

pub found_in : (set : ℕ → Bool) (bytes ahead : List ℕ) (from m n : ℕ) → ahead ≡ drop from bytes → IsLeastAt (IsMemberAt set ahead) m n →
    (from ≤ from + n) × IsMemberAt set bytes (from + n) × ((k : ℕ) → from ≤ k → k < from + n → IsMemberAt set bytes k → ⊥)
found_in set bytes ahead from m n is found =
    let there = subst (λ xs. IsLeastAt (IsMemberAt set xs) m n) is found in
    (omega arith, member_after set bytes from n there.occurs, none_before set bytes from n there.before)
