-- The first two bytes of nodes, from those of their children.
use Rattle.std.proofs.Common.{◌≡◌, inl, inr, ℕ, zero, suc, ◌+◌, ◌≤◌, ◌<◌, ◌==◌, Bool, true, false, not, ◌&&◌, ◌||◌, List, [], ◌∷◌, ◌++◌, flat_map, length, drop, get_or, Option, Some, None, All, refl, sym, ap, subst, ◌∙◌, arith, append_assoc, if◌then◌else◌, nat_eq}
use Rattle.std.specs.Prelude.{IsTrue, nat_le, nat_lt}
use Rattle.std.specs.Char.{encode_utf8}
use Rattle.std.specs.List.{starts_with}
use Rattle.std.proofs.lemmas.Bool.Decides.{Decides-eqb}
use Rattle.std.proofs.lemmas.List.{length-append, length-drop, get_or-drop}
use Rattle.std.proofs.lemmas.List.Elements.{All-nil, All-cons, All-head, All-tail, All-append, All-map, All-filter}
use Rattle.std.proofs.lemmas.Bool.{le-leb, and_from, and_parts, cases_lt}
use Rattle.std.proofs.lemmas.Slice.Eq.{starts_is}
use Rattle.std.proofs.lemmas.Str.{length-encode, len_utf8_ascii, len_utf8_bounds, inside_one}
use Rattle.regress_base.specs.ByteBitmap.{contains}
use Rattle.regress_base.specs.Positions.{IsMemberAt}
use Rattle.regress_base.specs.declared.types.Quantifier.{Quantifier}
use Rattle.regress_tree.specs.Assertions.{at_anchor, at_boundary, is_word_character}
use Rattle.regress_tree.specs.Lookaround.{lookaround_matcher, looked}
use Rattle.regress_tree.specs.Matching.{steps, steps_of_parts, leaf_steps}
use Rattle.regress_tree.specs.Reading.{forwards, backwards, Read, next_character, of_bytes}
use Rattle.regress_tree.specs.Repetition.{unset, iteration, iterations, moving, up_to, extra_iterations, repeat_matcher}
use Rattle.regress_tree.specs.Steps.{MatchState, Matcher, stay, ◌then_◌, ◌or_◌, one_character, moved, these_bytes, hold_at, capture, captured, dedup, Setting}
use Rattle.regress_tree.specs.Tree.{Leaf, empty, goal, char, byte_sequence, byte_set, char_set, match_any, match_any_except_line_terminator, anchor, word_boundary, bracket, back_ref, string_set, Tree, Trees, no_trees, more_trees, append_trees, leaf, cat, alt, wrapped, capture_group, lookaround}
use Rattle.regress_tree.proofs.lemmas.Characters.{character_at_parts}
use Rattle.regress_tree.proofs.lemmas.Lists.{steps-append}
use Rattle.regress_tree.proofs.lemmas.Outcomes.{flat_map-stay}
use Rattle.regress_prefilter.specs.FirstPairs.{is_second, BeginsWithTwo, none, one, more, AllBegin, IsFirstPairOf, IsFirstPair, IsPairAt, BeginsWithPair}
use Rattle.regress_prefilter.specs.FirstSets.{IsCovered}
use Rattle.regress_prefilter.specs.OneCharacter.{takes_one, test_of}
use Rattle.regress_prefilter.specs.declared.first_pairs.FirstPair.{FirstPair}
use Rattle.regress_prefilter.specs.declared.first_pairs.Pair.{Pair}
use Rattle.regress_prefilter.proofs.FirstSetLemmas.{member_more, all_more, covered_at, member_of, is_still, is_still_leaf}
use Rattle.regress_prefilter.proofs.lemmas.OneCharacter.{after_parts, takes_one-steps}
use mathlib.Core.Path.{fun_ext}

abbrev pub IsIn : (set set' : ℕ → Bool) → Type 0
IsIn set set' = (b : ℕ) → IsTrue (set b) → IsTrue (set' b)

two_more : (A B A' B' : ℕ → Bool) (e o e' o' : Bool) (bytes : List ℕ) (from to : ℕ) → IsIn A A' → IsIn B B' → (e ≡ true → e' ≡ true) →
    (o ≡ true → o' ≡ true) → BeginsWithTwo A B e o bytes from to → BeginsWithTwo A' B' e' o' bytes from to
two_more A B A' B' e o e' o' bytes from to a b on on' (none is at) = none (on is) at
two_more A B A' B' e o e' o' bytes from to a b on on' (one first is at) = one (member_more A A' bytes from a first) (on' is) at
two_more A B A' B' e o e' o' bytes from to a b on on' (more first second) =
    more (member_more A A' bytes from a first) (member_more B B' bytes (from + 1) b second)

pub all_begin_more : (A B A' B' : ℕ → Bool) (e o e' o' : Bool) (bytes : List ℕ) (f : Matcher) → IsIn A A' → IsIn B B' → (e ≡ true → e' ≡ true) →
    (o ≡ true → o' ≡ true) → AllBegin A B e o bytes f → AllBegin A' B' e' o' bytes f
all_begin_more A B A' B' e o e' o' bytes f a b on on' begins =
    λ s. all_more _ (λ t. BeginsWithTwo A' B' e' o' bytes s.position t.position)
    (λ t. two_more A B A' B' e o e' o' bytes s.position t.position a b on on') (f s) (begins s)

pub either-left : (a b : Bool) → a ≡ true → (a || b) ≡ true
either-left a b is = ap (λ x. x || b) is

pub either-right : (a b : Bool) → b ≡ true → (a || b) ≡ true
either-right true b is = refl
either-right false b is = is

-- the sets of one part followed by another are in A and B
pub record Joins (A B A1 B1 A2 B2 : ℕ → Bool) (e o : Bool) : Type 0 where
  pub first : IsIn A1 A
  pub next_first : e ≡ true → IsIn A2 A
  pub second : IsIn B1 B
  pub next_second : e ≡ true → IsIn B2 B
  pub shifted : o ≡ true → IsIn A2 B

module _ (bytes : List ℕ) where
  -- one part followed by another, for a single outcome
  two_then : (A B A1 B1 A2 B2 : ℕ → Bool) (e o e' o' : Bool) (from mid to : ℕ) → Joins A B A1 B1 A2 B2 e o →
      BeginsWithTwo A1 B1 e o bytes from mid → BeginsWithTwo A2 B2 e' o' bytes mid to →
      BeginsWithTwo A B (e && e') ((o && e') || (e && o')) bytes from to
  two_then A B A1 B1 A2 B2 e o e' o' from mid to j (none is at) (none is' at') = none (and_from e e' is is') (at' ∙ at)
  two_then A B A1 B1 A2 B2 e o e' o' from mid to j (none is at) (one first is' at') =
      one (member_more A2 A bytes from (j.next_first is) (subst (λ k. IsMemberAt A2 bytes k) at first))
      (either-right (o && e') (e && o') (and_from e o' is is')) (at' ∙ ap (λ k. k + 1) at)
  two_then A B A1 B1 A2 B2 e o e' o' from mid to j (none is at) (more first second) =
      more (member_more A2 A bytes from (j.next_first is) (subst (λ k. IsMemberAt A2 bytes k) at first))
      (member_more B2 B bytes (from + 1) (j.next_second is) (subst (λ k. IsMemberAt B2 bytes (k + 1)) at second))
  two_then A B A1 B1 A2 B2 e o e' o' from mid to j (one first is at) (none is' at') =
      one (member_more A1 A bytes from j.first first) (either-left (o && e') (e && o') (and_from o e' is is')) (at' ∙ at)
  two_then A B A1 B1 A2 B2 e o e' o' from mid to j (one first is at) (one next is' at') =
      more (member_more A1 A bytes from j.first first)
      (member_more A2 B bytes (from + 1) (j.shifted is) (subst (λ k. IsMemberAt A2 bytes k) at next))
  two_then A B A1 B1 A2 B2 e o e' o' from mid to j (one first is at) (more next second) =
      more (member_more A1 A bytes from j.first first)
      (member_more A2 B bytes (from + 1) (j.shifted is) (subst (λ k. IsMemberAt A2 bytes k) at next))
  two_then A B A1 B1 A2 B2 e o e' o' from mid to j (more first second) later =
      more (member_more A1 A bytes from j.first first) (member_more B1 B bytes (from + 1) j.second second)

  all_then : (A B A1 B1 A2 B2 : ℕ → Bool) (e o e' o' : Bool) (g : Matcher) (from : ℕ) (states : List MatchState) → Joins A B A1 B1 A2 B2 e o →
      All (λ t. BeginsWithTwo A1 B1 e o bytes from t.position) states → AllBegin A2 B2 e' o' bytes g →
      All (λ t. BeginsWithTwo A B (e && e') ((o && e') || (e && o')) bytes from t.position) (flat_map g states)
  all_then A B A1 B1 A2 B2 e o e' o' g from [] j all second = All-nil _
  all_then A B A1 B1 A2 B2 e o e' o' g from (u ∷ states) j all second =
      All-append (λ t. BeginsWithTwo A B (e && e') ((o && e') || (e && o')) bytes from t.position) (g u) (flat_map g states)
      (all_more (λ t. BeginsWithTwo A2 B2 e' o' bytes u.position t.position) _
      (λ t. two_then A B A1 B1 A2 B2 e o e' o' from u.position t.position j
      (All-head (λ t. BeginsWithTwo A1 B1 e o bytes from t.position) u states all)) (g u) (second u))
      (all_then A B A1 B1 A2 B2 e o e' o' g from states j (All-tail (λ t. BeginsWithTwo A1 B1 e o bytes from t.position) u states all) second)

  pub begin_then : (A B A1 B1 A2 B2 : ℕ → Bool) (e o e' o' : Bool) (f g : Matcher) → Joins A B A1 B1 A2 B2 e o →
      AllBegin A1 B1 e o bytes f → AllBegin A2 B2 e' o' bytes g → AllBegin A B (e && e') ((o && e') || (e && o')) bytes (f then_ g)
  begin_then A B A1 B1 A2 B2 e o e' o' f g j first second = λ s. all_then A B A1 B1 A2 B2 e o e' o' g s.position (f s) j (first s) second

  -- A part of two bytes or more determines the first two, whatever follows it.
  always_two : (A B : ℕ → Bool) (from mid : ℕ) → BeginsWithTwo A B false false bytes from mid → (ts : List MatchState) →
      All (λ t. BeginsWithTwo A B false false bytes from t.position) ts
  always_two A B from mid (none is at) ts = let bad : ⊥ = cc in absurd bad
  always_two A B from mid (one first is at) ts = let bad : ⊥ = cc in absurd bad
  always_two A B from mid (more first second) [] = All-nil (λ t. BeginsWithTwo A B false false bytes from t.position)
  always_two A B from mid (more first second) (t ∷ ts) =
      All-cons (λ t. BeginsWithTwo A B false false bytes from t.position) t ts (more first second) (always_two A B from mid (more first second) ts)

  all_before : (A B : ℕ → Bool) (g : Matcher) (from : ℕ) (states : List MatchState) →
      All (λ t. BeginsWithTwo A B false false bytes from t.position) states →
      All (λ t. BeginsWithTwo A B false false bytes from t.position) (flat_map g states)
  all_before A B g from [] all = All-nil (λ t. BeginsWithTwo A B false false bytes from t.position)
  all_before A B g from (u ∷ states) all =
      All-append (λ t. BeginsWithTwo A B false false bytes from t.position) (g u) (flat_map g states)
      (always_two A B from u.position (All-head (λ t. BeginsWithTwo A B false false bytes from t.position) u states all) (g u))
      (all_before A B g from states (All-tail (λ t. BeginsWithTwo A B false false bytes from t.position) u states all))

  pub begin_before : (A B : ℕ → Bool) (f g : Matcher) → AllBegin A B false false bytes f → AllBegin A B false false bytes (f then_ g)
  begin_before A B f g first = λ s. all_before A B g s.position (f s) (first s)

  pub begin_or : (A B : ℕ → Bool) (e o : Bool) (f g : Matcher) → AllBegin A B e o bytes f → AllBegin A B e o bytes g → AllBegin A B e o bytes (f or_ g)
  begin_or A B e o f g first second =
      λ s. All-append (λ t. BeginsWithTwo A B e o bytes s.position t.position) (f s) (g s) (first s) (second s)

  module _ (A B : ℕ → Bool) where
    pub begin-stay : (o : Bool) → AllBegin A B true o bytes stay
    begin-stay o = λ s. All-cons (λ t. BeginsWithTwo A B true o bytes s.position t.position) s [] (none refl refl) (All-nil _)

    -- a part may follow itself
    again : (e o : Bool) → (o ≡ true → IsIn A B) → Joins A B A B A B e o
    again e o shift = record {
      first = λ b h. h;
      next_first = λ is b h. h;
      second = λ b h. h;
      next_second = λ is b h. h;
      shifted = shift;
    }

    begin-next : (e o e' o' : Bool) (f g : Matcher) → (o ≡ true → IsIn A B) → AllBegin A B e o bytes f → AllBegin A B e' o' bytes g →
        AllBegin A B (e && e') ((o && e') || (e && o')) bytes (f then_ g)
    begin-next e o e' o' f g shift first second = begin_then A B A B A B e o e' o' f g (again e o shift) first second

    one_of : (e o : Bool) → ((o && true) || (e && o)) ≡ true → o ≡ true
    one_of e true is = refl
    one_of true false is = is
    one_of false false is = is

    begin-iterations : (e o : Bool) (n : ℕ) (f : Matcher) → (o ≡ true → IsIn A B) → AllBegin A B e o bytes f → AllBegin A B true o bytes (iterations n f)
    begin-iterations e o zero f shift first = begin-stay o
    begin-iterations e o (suc n) f shift first =
        all_begin_more A B A B (e && true) ((o && true) || (e && o)) true o bytes (iterations (suc n) f) (λ b h. h) (λ b h. h) (λ h. refl) (one_of e o)
        (begin-next e o true o f (iterations n f) shift first (begin-iterations e o n f shift first))

    begin-moving : (e o : Bool) (f : Matcher) → AllBegin A B e o bytes f → AllBegin A B e o bytes (moving f)
    begin-moving e o f first =
        λ s. All-filter (λ t. not (t.position == s.position)) (λ t. BeginsWithTwo A B e o bytes s.position t.position) (f s) (first s)

    begin-up_to : (e o : Bool) (greedy : Bool) (n : ℕ) (f : Matcher) → (o ≡ true → IsIn A B) → AllBegin A B e o bytes f →
        AllBegin A B true o bytes (up_to greedy n f)
    begin-up_to e o greedy zero f shift first = begin-stay o
    begin-up_to e o true (suc n) f shift first =
        let more_of : Matcher = moving f then_ up_to true n f in
        begin_or A B true o more_of stay
        (all_begin_more A B A B (e && true) ((o && true) || (e && o)) true o bytes more_of (λ b h. h) (λ b h. h) (λ h. refl) (one_of e o)
        (begin-next e o true o (moving f) (up_to true n f) shift (begin-moving e o f first) (begin-up_to e o true n f shift first)))
        (begin-stay o)
    begin-up_to e o false (suc n) f shift first =
        let more_of : Matcher = moving f then_ up_to false n f in
        begin_or A B true o stay more_of (begin-stay o)
        (all_begin_more A B A B (e && true) ((o && true) || (e && o)) true o bytes more_of (λ b h. h) (λ b h. h) (λ h. refl) (one_of e o)
        (begin-next e o true o (moving f) (up_to false n f) shift (begin-moving e o f first) (begin-up_to e o false n f shift first)))

    -- at least n iterations, and what follows them
    begin-some : (e o : Bool) (n : ℕ) (f g : Matcher) → (o ≡ true → IsIn A B) → AllBegin A B e o bytes f → AllBegin A B true o bytes g →
        AllBegin A B (e || (n == 0)) (o && (e || nat_lt n 2)) bytes (iterations n f then_ g)
    begin-some e o zero f g shift first second =
        all_begin_more A B A B true ((o && true) || (true && o)) (e || (0 == 0)) (o && (e || nat_lt 0 2)) bytes (iterations 0 f then_ g) (λ b h. h)
        (λ b h. h) (λ h. either-right e (0 == 0) refl)
        (λ h. and_from o (e || nat_lt 0 2) (one_of true o h) (either-right e (nat_lt 0 2) refl))
        (begin-next true o true o (iterations 0 f) g shift (begin-stay o) second)
    begin-some e o (suc zero) f g shift first second =
        let once = begin-next e o true o f (iterations 0 f) shift first (begin-stay o) in
        let o1 : Bool = (o && true) || (e && o) in
        all_begin_more A B A B ((e && true) && true) ((o1 && true) || ((e && true) && o)) (e || (1 == 0)) (o && (e || nat_lt 1 2)) bytes
        (iterations 1 f then_ g) (λ b h. h) (λ b h. h)
        (λ h. either-left e (1 == 0) (and_parts e true (and_parts (e && true) true h).0).0)
        (λ h. and_from o (e || nat_lt 1 2) (first_one e o h) (either-right e (nat_lt 1 2) refl))
        (begin-next (e && true) o1 true o (iterations 1 f) g (λ h. shift (one_of e o h)) once second)
      where
        first_one : (e o : Bool) → ((((o && true) || (e && o)) && true) || ((e && true) && o)) ≡ true → o ≡ true
        first_one e true is = refl
        first_one true false is = is
        first_one false false is = is
    begin-some e o (suc (suc n)) f g shift first second =
        let rest = begin-iterations e o n f shift first in
        let inner = begin-next e o true o f (iterations n f) shift first rest in
        let e1 : Bool = e && true in
        let o1 : Bool = (o && true) || (e && o) in
        let both = begin-next e o e1 o1 f (iterations (suc n) f) shift first inner in
        let e2 : Bool = e && e1 in
        let o2 : Bool = (o && e1) || (e && o1) in
        all_begin_more A B A B (e2 && true) ((o2 && true) || (e2 && o)) (e || (suc (suc n) == 0)) (o && (e || nat_lt (suc (suc n)) 2)) bytes
        (iterations (suc (suc n)) f then_ g) (λ b h. h) (λ b h. h) (first_empty e) (first_single e o)
        (begin-next e2 o2 true o (iterations (suc (suc n)) f) g (λ h. shift (only_one e o h)) both second)
      where
        first_empty : (e : Bool) → ((e && (e && true)) && true) ≡ true → (e || (suc (suc n) == 0)) ≡ true
        first_empty true is = refl
        first_empty false is = let bad : ⊥ = cc in absurd bad

        only_one : (e o : Bool) → ((o && (e && true)) || (e && ((o && true) || (e && o)))) ≡ true → o ≡ true
        only_one e true is = refl
        only_one true false is = is
        only_one false false is = is

        first_single : (e o : Bool) →
            ((((o && (e && true)) || (e && ((o && true) || (e && o)))) && true) || ((e && (e && true)) && o)) ≡ true →
            (o && (e || nat_lt (suc (suc n)) 2)) ≡ true
        first_single true true is = refl
        first_single true false is = is
        first_single false true is = let bad : ⊥ = cc in absurd bad
        first_single false false is = is

    pub begin-repeat : (e o : Bool) (bound : ℕ) (q : Quantifier) (start end : ℕ) (f : Matcher) → (o ≡ true → IsIn A B) → AllBegin A B e o bytes f →
        AllBegin A B (e || (q.min == 0)) (o && (e || nat_lt q.min 2)) bytes (repeat_matcher bound q start end f)
    unfolding repeat_matcher
    begin-repeat e o bound q start end f shift first =
        let T = iteration start end f in
        let turned : AllBegin A B e o bytes T = λ s. first (unset start end s) in
        begin-some e o q.min T (up_to q.greedy (extra_iterations bound q) T) shift turned
        (begin-up_to e o q.greedy (extra_iterations bound q) T shift turned)

    pub begin-capture : (e o : Bool) (id : ℕ) (f : Matcher) → AllBegin A B e o bytes f → AllBegin A B e o bytes (capture id f)
    unfolding capture
    begin-capture e o id f first =
        λ s. All-map (λ t. BeginsWithTwo A B e o bytes s.position t.position) (captured id s.position) (f s) (first s)

    all-looked : (o negate : Bool) (s : MatchState) (states : List MatchState) →
        All (λ t. BeginsWithTwo A B true o bytes s.position t.position) (looked negate s states)
    all-looked o false s [] = All-nil _
    all-looked o false s (t ∷ later) =
        All-cons (λ t. BeginsWithTwo A B true o bytes s.position t.position) (record t { position = s.position }) [] (none refl refl) (All-nil _)
    all-looked o true s [] = All-cons (λ t. BeginsWithTwo A B true o bytes s.position t.position) s [] (none refl refl) (All-nil _)
    all-looked o true s (t ∷ later) = All-nil _

    pub begin-look : (o negate : Bool) (f : Matcher) → AllBegin A B true o bytes (lookaround_matcher negate f)
    unfolding lookaround_matcher
    begin-look o negate f = λ s. all-looked o negate s (f s)

    all-held : (o : Bool) (s : MatchState) (b : Bool) →
        All (λ t. BeginsWithTwo A B true o bytes s.position t.position) (if b then s ∷ [] else [])
    all-held o s true = All-cons (λ t. BeginsWithTwo A B true o bytes s.position t.position) s [] (none refl refl) (All-nil _)
    all-held o s false = All-nil _

    pub begin-hold : (o : Bool) (test : ℕ → Bool) → AllBegin A B true o bytes (hold_at test)
    unfolding hold_at
    begin-hold o test = λ s. all-held o s (test s.position)

    still-leaf : (o : Bool) (setting : Setting) (l : Leaf) → is_still_leaf l ≡ true → AllBegin A B true o bytes (leaf_steps setting bytes forwards l)
    still-leaf o setting empty is = begin-stay o
    still-leaf o setting goal is = begin-stay o
    still-leaf o setting (anchor kind multiline) is = begin-hold o (at_anchor (of_bytes bytes) kind multiline)
    still-leaf o setting (word_boundary invert icase) is = begin-hold o (at_boundary (of_bytes bytes) (is_word_character setting.table icase) invert)
    still-leaf o setting (char c) is = let bad : ⊥ = cc in absurd bad
    still-leaf o setting (byte_sequence written) is = let bad : ⊥ = cc in absurd bad
    still-leaf o setting (byte_set members) is = let bad : ⊥ = cc in absurd bad
    still-leaf o setting (char_set members) is = let bad : ⊥ = cc in absurd bad
    still-leaf o setting match_any is = let bad : ⊥ = cc in absurd bad
    still-leaf o setting match_any_except_line_terminator is = let bad : ⊥ = cc in absurd bad
    still-leaf o setting (bracket invert intervals) is = let bad : ⊥ = cc in absurd bad
    still-leaf o setting (back_ref group icase) is = let bad : ⊥ = cc in absurd bad
    still-leaf o setting (string_set strings icase) is = let bad : ⊥ = cc in absurd bad

    pub begin-still : (o : Bool) (setting : Setting) (t : Tree) → is_still t ≡ true → AllBegin A B true o bytes (steps setting bytes forwards t)
    begin-still o setting (leaf l) is = still-leaf o setting l is
    begin-still o setting (cat parts) is = let bad : ⊥ = cc in absurd bad
    begin-still o setting (alt left right) is = let bad : ⊥ = cc in absurd bad
    begin-still o setting (wrapped w body) is = let bad : ⊥ = cc in absurd bad

  module _ (A B : ℕ → Bool) where
    -- the byte after an offset is the second of the remaining bytes
    second_of : (k x : ℕ) → (here : get_or (drop k bytes) 1 0 ≡ x) → 2 ≤ length (drop k bytes) → IsTrue (B x) → IsMemberAt B bytes (k + 1)
    second_of k x here enough member = record {
      inside = omega (arith, enough, length-drop k bytes);
      member = subst (λ y. IsTrue (B y)) (sym here ∙ get_or-drop k bytes 1 0) member;
    }

    two-moved : (o : Bool) (test : ℕ → Bool) (s : MatchState) (read : Option Read) →
        ((r : Read) → read ≡ Some r → test r.character ≡ true → BeginsWithTwo A B false o bytes s.position r.position) →
        All (λ t. BeginsWithTwo A B false o bytes s.position t.position) (moved test s read)
    two-moved o test s None at = All-nil _
    two-moved o test s (Some r) at = tested (test r.character) (λ is. at r refl is)
      where
        tested : (b : Bool) → (b ≡ true → BeginsWithTwo A B false o bytes s.position r.position) →
            All (λ t. BeginsWithTwo A B false o bytes s.position t.position) (if b then record s { position = r.position } ∷ [] else [])
        tested true h = All-cons (λ t. BeginsWithTwo A B false o bytes s.position t.position) (record s { position = r.position }) [] (h refl)
            (All-nil (λ t. BeginsWithTwo A B false o bytes s.position t.position))
        tested false h = All-nil (λ t. BeginsWithTwo A B false o bytes s.position t.position)

    these-two : (o : Bool) (written : List ℕ) →
        ((s : MatchState) (rest : List ℕ) → drop s.position bytes ≡ written ++ rest →
        BeginsWithTwo A B false o bytes s.position (s.position + length written)) →
        AllBegin A B false o bytes (these_bytes forwards bytes written)
    unfolding these_bytes
    these-two o written at = λ s. occurs s (starts_with nat_eq (drop s.position bytes) written) refl
      where
        occurs : (s : MatchState) (x : Bool) → starts_with nat_eq (drop s.position bytes) written ≡ x →
            All (λ t. BeginsWithTwo A B false o bytes s.position t.position) (if x then record s { position = s.position + length written } ∷ [] else [])
        occurs s true is =
            All-cons (λ t. BeginsWithTwo A B false o bytes s.position t.position) (record s { position = s.position + length written }) []
            (at s _ ((starts_is Decides-eqb (drop s.position bytes) written _ refl).0 is))
            (All-nil (λ t. BeginsWithTwo A B false o bytes s.position t.position))
        occurs s false is = All-nil (λ t. BeginsWithTwo A B false o bytes s.position t.position)

    pub begin-byte : (x : ℕ) → IsTrue (A x) → AllBegin A B false true bytes (these_bytes forwards bytes (x ∷ []))
    begin-byte x member = these-two true (x ∷ []) (λ s rest here. one (member_of A bytes s.position x rest here member) refl refl)

    pub begin-bytes : (x y : ℕ) (written : List ℕ) → IsTrue (A x) → IsTrue (B y) → AllBegin A B false false bytes (these_bytes forwards bytes (x ∷ y ∷ written))
    begin-bytes x y written member member' =
        these-two false (x ∷ y ∷ written)
        (λ s rest here. more (member_of A bytes s.position x (y ∷ written ++ rest) here member)
        (second_of s.position y (ap (λ bs. get_or bs 1 0) here) (omega (arith, ap length here)) member'))

  -- a character
  module _ (A B : ℕ → Bool) where
    high_second : (k c : ℕ) (rest : List ℕ) → drop k bytes ≡ encode_utf8 c ++ rest → 2 ≤ length (encode_utf8 c) → IsMemberAt (is_second B) bytes (k + 1)
    high_second k c rest here long =
        let x : ℕ = get_or (drop k bytes) 1 0 in
        let high : 128 ≤ x = elim (cases_lt x 128) [
          | inl low ↦ (let same : c ≡ x = inside_one c rest (drop k bytes) 1 here long low in
              absurd (omega (arith, long, length-encode c, len_utf8_ascii c (omega (arith, same, low)))))
          | inr is ↦ is
        ] in
        second_of A (is_second B) k x refl (omega (arith, ap length here, length-append (encode_utf8 c) rest, long)) (either-right (B x) (nat_le 128 x)
        (le-leb 128 x high))

    pub begin-one : (test : ℕ → Bool) → ((c : ℕ) → test c ≡ true → IsCovered A c) → AllBegin A (is_second B) false true bytes
        (one_character forwards (of_bytes bytes) test)
    unfolding one_character
    begin-one test covers =
        λ s. two-moved A (is_second B) true test s (next_character forwards (of_bytes bytes) s.position)
        (λ read e is.
        let after = after_parts bytes s.position read e in
        let c = read.character in
        let found = character_at_parts bytes s.position c after.0 in
        let some : 1 ≤ length (encode_utf8 c) = omega (arith, length-encode c, (len_utf8_bounds c).0) in
        let first = covered_at A bytes s.position c (encode_utf8 c) found.1.0 found.1.1 some (covers c is found.0) in
        elim (cases_lt (length (encode_utf8 c)) 2) [
          | inl short ↦ one first refl (after.1 ∙ ap (λ n. s.position + n) (sym (length-encode c) ∙ omega (arith, some, short)))
          | inr long ↦ more first (high_second s.position c found.1.0 found.1.1 long)
        ])

either-mono : (p q r : Bool) → (p ≡ true → q ≡ true) → (p || r) ≡ true → (q || r) ≡ true
either-mono true q r on is = either-left q r (on refl)
either-mono false q r on is = either-right q r is

-- those of a part, followed by another, or repeated
pub pair_then : (a b : FirstPair) (first second : ℕ → Bool) (bytes : List ℕ) (f g : Matcher) →
    ((x : ℕ) → first x ≡ (contains a.first x || (a.empty && contains b.first x))) →
    ((x : ℕ) → second x ≡ ((contains a.second x || (a.single && contains b.first x)) || (a.empty && contains b.second x))) →
    IsFirstPairOf a bytes f → IsFirstPairOf b bytes g →
    AllBegin first (is_second second) (a.empty && b.empty) ((a.single && b.empty) || (a.empty && b.single)) bytes (f then_ g)
pair_then a b first second bytes f g firsts seconds begins begins' =
    begin_then bytes first (is_second second) (contains a.first) (is_second (contains a.second)) (contains b.first) (is_second (contains b.second))
    a.empty a.single b.empty b.single f g
    (record {
      first = λ x h. firsts x ∙ either-left (contains a.first x) (a.empty && contains b.first x) h;
      next_first = λ is x h. firsts x ∙ either-right (contains a.first x) (a.empty && contains b.first x) (and_from a.empty (contains b.first x) is h);
      second = λ x h. either-mono (contains a.second x) (second x) (nat_le 128 x)
          (λ m. seconds x ∙ either-left (contains a.second x || (a.single && contains b.first x)) (a.empty && contains b.second x)
          (either-left (contains a.second x) (a.single && contains b.first x) m)) h;
      next_second = λ is x h. either-mono (contains b.second x) (second x) (nat_le 128 x)
          (λ m. seconds x ∙ either-right (contains a.second x || (a.single && contains b.first x)) (a.empty && contains b.second x)
          (and_from a.empty (contains b.second x) is m)) h;
      shifted = λ is x h. either-left (second x) (nat_le 128 x)
          (seconds x ∙ either-left (contains a.second x || (a.single && contains b.first x)) (a.empty && contains b.second x)
          (either-right (contains a.second x) (a.single && contains b.first x) (and_from a.single (contains b.first x) is h)));
    })
    begins begins'

pub pair_or : (a b : FirstPair) (first second : ℕ → Bool) (bytes : List ℕ) (f g : Matcher) →
    ((x : ℕ) → first x ≡ (contains a.first x || contains b.first x)) → ((x : ℕ) → second x ≡ (contains a.second x || contains b.second x)) →
    IsFirstPairOf a bytes f → IsFirstPairOf b bytes g →
    AllBegin first (is_second second) (a.empty || b.empty) (a.single || b.single) bytes (f or_ g)
pair_or a b first second bytes f g firsts seconds begins begins' =
    begin_or bytes first (is_second second) (a.empty || b.empty) (a.single || b.single) f g
    (all_begin_more (contains a.first) (is_second (contains a.second)) first (is_second second) a.empty a.single (a.empty || b.empty) (a.single || b.single)
    bytes f (λ x h. firsts x ∙ either-left (contains a.first x) (contains b.first x) h)
    (λ x h. either-mono (contains a.second x) (second x) (nat_le 128 x) (λ m. seconds x ∙ either-left (contains a.second x) (contains b.second x) m) h)
    (either-left a.empty b.empty) (either-left a.single b.single) begins)
    (all_begin_more (contains b.first) (is_second (contains b.second)) first (is_second second) b.empty b.single (a.empty || b.empty) (a.single || b.single)
    bytes g (λ x h. firsts x ∙ either-right (contains a.first x) (contains b.first x) h)
    (λ x h. either-mono (contains b.second x) (second x) (nat_le 128 x) (λ m. seconds x ∙ either-right (contains a.second x) (contains b.second x) m) h)
    (either-right a.empty b.empty) (either-right a.single b.single) begins')

pub pair_repeat : (a : FirstPair) (second : ℕ → Bool) (bytes : List ℕ) (f : Matcher) (q : Quantifier) (bound start end : ℕ) →
    ((x : ℕ) → second x ≡ (contains a.second x || (a.single && contains a.first x))) → IsFirstPairOf a bytes f →
    AllBegin (contains a.first) (is_second second) (a.empty || (q.min == 0)) (a.single && (a.empty || nat_lt q.min 2)) bytes
    (repeat_matcher bound q start end f)
pair_repeat a second bytes f q bound start end seconds begins =
    begin-repeat bytes (contains a.first) (is_second second) a.empty a.single bound q start end f
    (λ is x h. either-left (second x) (nat_le 128 x)
    (seconds x ∙ either-right (contains a.second x) (a.single && contains a.first x) (and_from a.single (contains a.first x) is h)))
    (all_begin_more (contains a.first) (is_second (contains a.second)) (contains a.first) (is_second second) a.empty a.single a.empty a.single bytes f
    (λ x h. h)
    (λ x h. either-mono (contains a.second x) (second x) (nat_le 128 x)
    (λ m. seconds x ∙ either-left (contains a.second x) (a.single && contains a.first x) m) h)
    (λ h. h) (λ h. h) begins)

pub begin-same : (A B : ℕ → Bool) (e o : Bool) (bytes : List ℕ) (f g : Matcher) → ((s : MatchState) → f s ≡ g s) → AllBegin A B e o bytes g → AllBegin A B e o bytes f
begin-same A B e o bytes f g same begins = λ s.
    subst (λ states. All (λ t. BeginsWithTwo A B e o bytes s.position t.position) states) (sym (same s)) (begins s)

-- a leaf that matches one character
pub pair-one : (first second : ℕ → Bool) (setting : Setting) (bytes : List ℕ) (t : Tree) → takes_one t ≡ true →
    ((c : ℕ) → test_of t c ≡ true → IsCovered first c) → AllBegin first (is_second second) false true bytes (steps setting bytes forwards t)
pair-one first second setting bytes t takes covers =
    begin-same first (is_second second) false true bytes (steps setting bytes forwards t) (one_character forwards (of_bytes bytes) (test_of t))
    (λ s. takes_one-steps setting bytes forwards t s takes) (begin-one bytes first second (test_of t) covers)

pub pair-still : (front : FirstPair) (t : Tree) → front.empty ≡ true → is_still t ≡ true → IsFirstPair front t
pair-still front t may is = λ setting bytes.
    all_begin_more (contains front.first) (is_second (contains front.second)) (contains front.first) (is_second (contains front.second)) true front.single
    front.empty front.single bytes (steps setting bytes forwards t) (λ x h. h) (λ x h. h) (λ h. may) (λ h. h)
    (begin-still bytes (contains front.first) (is_second (contains front.second)) front.single setting t is)

pub pair-capture : (front : FirstPair) (id : ℕ) (name : Option (List ℕ)) (t : Tree) → IsFirstPair front t → IsFirstPair front (wrapped (capture_group id name) t)
pair-capture front id name t is = λ setting bytes.
    begin-capture bytes (contains front.first) (is_second (contains front.second)) front.empty front.single id (steps setting bytes forwards t) (is setting bytes)

pub pair-look : (front : FirstPair) (negate looks_back : Bool) (start end : ℕ) (t : Tree) → front.empty ≡ true →
    IsFirstPair front (wrapped (lookaround negate looks_back start end) t)
pair-look front negate looks_back start end t may = λ setting bytes.
    let f = lookaround_matcher negate (steps setting bytes (if looks_back then backwards else forwards) t) in
    all_begin_more (contains front.first) (is_second (contains front.second)) (contains front.first) (is_second (contains front.second)) true front.single
    front.empty front.single bytes f (λ x h. h) (λ x h. h) (λ h. may) (λ h. h)
    (begin-look bytes (contains front.first) (is_second (contains front.second)) front.single negate
    (steps setting bytes (if looks_back then backwards else forwards) t))

-- alternatives, from the first on
abbrev pub IsPairSpine : FirstPair → (whole rest : Tree) → Type 0
IsPairSpine front whole rest = (setting : Setting) (bytes : List ℕ) →
    (f : Matcher) × IsFirstPairOf front bytes f × ((s : MatchState) → steps setting bytes forwards whole s ≡ f s ++ steps setting bytes forwards rest s)

abbrev pub Ors : (a b r : FirstPair) → Type 0
Ors a b r = (bytes : List ℕ) (f g : Matcher) → IsFirstPairOf a bytes f → IsFirstPairOf b bytes g → IsFirstPairOf r bytes (f or_ g)

pub pair-spine-start : (front : FirstPair) (t : Tree) → IsPairSpine front t t
pair-spine-start front t = λ setting bytes. (λ s. [], λ s. All-nil _, λ s. refl)

pub pair-spine-next : (a b r : FirstPair) (whole left right : Tree) → Ors a b r → IsPairSpine a whole (alt left right) → IsFirstPair b left →
    IsPairSpine r whole right
pair-spine-next a b r whole left right or so_far front =
    λ setting bytes.
    let before = so_far setting bytes in
    let L = steps setting bytes forwards left in
    let R = steps setting bytes forwards right in (
      before.0 or_ L,
      or bytes before.0 L before.1 (front setting bytes),
      λ s. before.2 s ∙ sym (append_assoc (before.0 s) (L s) (R s)),
    )

pub pair-spine-last : (a b r : FirstPair) (whole rest : Tree) → Ors a b r → IsPairSpine a whole rest → IsFirstPair b rest → IsFirstPair r whole
pair-spine-last a b r whole rest or so_far front =
    λ setting bytes.
    let before = so_far setting bytes in
    begin-same (contains r.first) (is_second (contains r.second)) r.empty r.single bytes (steps setting bytes forwards whole)
    (before.0 or_ steps setting bytes forwards rest) before.2
    (or bytes before.0 (steps setting bytes forwards rest) before.1 (front setting bytes))

-- a sequence with one more part
pub pair-list-next : (a b r : FirstPair) (ts : Trees) (t : Tree) →
    ((bytes : List ℕ) (f g : Matcher) → IsFirstPairOf a bytes f → IsFirstPairOf b bytes g → IsFirstPairOf r bytes (f then_ g)) →
    IsFirstPair a (cat ts) → IsFirstPair b t → IsFirstPair r (cat (append_trees ts (more_trees t no_trees)))
pair-list-next a b r ts t then' so_far front =
    λ setting bytes.
    let f = steps_of_parts setting bytes forwards ts in
    let g = steps setting bytes forwards t in
    begin-same (contains r.first) (is_second (contains r.second)) r.empty r.single bytes
    (steps_of_parts setting bytes forwards (append_trees ts (more_trees t no_trees))) (f then_ g)
    (λ s. steps-append setting bytes forwards ts (more_trees t no_trees) s ∙ ap (λ h. flat_map h (f s)) (fun_ext (λ u. flat_map-stay (g u))))
    (then' bytes f g (so_far setting bytes) (front setting bytes))

pub pair-list-rest : (a : FirstPair) (ts us : Trees) → a.empty ≡ false → a.single ≡ false → IsFirstPair a (cat ts) → IsFirstPair a (cat (append_trees ts us))
pair-list-rest a ts us nonempty long so_far =
    λ setting bytes.
    let A = contains a.first in
    let B = is_second (contains a.second) in
    let f = steps_of_parts setting bytes forwards ts in
    let g = steps_of_parts setting bytes forwards us in
    let known : AllBegin A B false false bytes f = subst (λ e. AllBegin A B e false bytes f) nonempty
    (subst (λ o. AllBegin A B a.empty o bytes f) long (so_far setting bytes)) in
    begin-same A B a.empty a.single bytes (steps_of_parts setting bytes forwards (append_trees ts us)) (f then_ g)
    (λ s. steps-append setting bytes forwards ts us s)
    (all_begin_more A B A B false false a.empty a.single bytes (f then_ g) (λ x h. h) (λ x h. h) (λ h. let bad : ⊥ = cc in absurd bad)
    (λ h. let bad : ⊥ = cc in absurd bad) (begin_before bytes A B f g known))

-- matches of two bytes or more begin with a pair
pub pair-needed : (front : FirstPair) (pair : Pair) (t : Tree) → front.empty ≡ false → front.single ≡ false → pair.first ≡ front.first →
    pair.second ≡ front.second → IsFirstPair front t → BeginsWithPair pair t
pair-needed front pair t nonempty long is is' begins = λ setting bytes s off.
    ap dedup (nowhere bytes s.position (steps setting bytes forwards t s) (begins setting bytes s) off)
  where
    neither : (bytes : List ℕ) (from to : ℕ) → BeginsWithTwo (contains front.first) (is_second (contains front.second)) front.empty front.single bytes from to →
        (IsPairAt pair bytes from → ⊥) → ⊥
    neither bytes from to (none e at) off = let bad : ⊥ = cc in bad
    neither bytes from to (one first o at) off = let bad : ⊥ = cc in bad
    neither bytes from to (more first second) off = off (record {
      first = subst (λ set. IsMemberAt (contains set) bytes from) (sym is) first;
      second = subst (λ set. IsMemberAt (is_second (contains set)) bytes (from + 1)) (sym is') second;
    })

    nowhere : (bytes : List ℕ) (from : ℕ) (states : List MatchState) →
        All (λ t. BeginsWithTwo (contains front.first) (is_second (contains front.second)) front.empty front.single bytes from t.position) states →
        (IsPairAt pair bytes from → ⊥) → states ≡ []
    nowhere bytes from [] all off = refl
    nowhere bytes from (t ∷ states) all off =
        absurd (neither bytes from t.position
        (All-head (λ t. BeginsWithTwo (contains front.first) (is_second (contains front.second)) front.empty front.single bytes from t.position) t states all) off)

-- a sequence of bytes, by its first two
pub pair-byte : (A B : ℕ → Bool) (bytes written : List ℕ) → 1 ≤ length written → length written < 2 → A (get_or written 0 0) ≡ true →
    AllBegin A B false true bytes (these_bytes forwards bytes written)
pair-byte A B bytes [] some short first = absurd (omega (arith, some))
pair-byte A B bytes (x ∷ []) some short first = begin-byte bytes A B x first
pair-byte A B bytes (x ∷ y ∷ written) some short first = absurd (omega (arith, short))

pub pair-bytes : (A B : ℕ → Bool) (bytes written : List ℕ) → 2 ≤ length written → A (get_or written 0 0) ≡ true → B (get_or written 1 0) ≡ true →
    AllBegin A B false false bytes (these_bytes forwards bytes written)
pair-bytes A B bytes [] long first second = absurd (omega (arith, long))
pair-bytes A B bytes (x ∷ []) long first second = absurd (omega (arith, long))
pair-bytes A B bytes (x ∷ y ∷ written) long first second = begin-bytes bytes A B x y written first second
