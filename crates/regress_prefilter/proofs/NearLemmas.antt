-- What is near the start of each match, from what is near the starts of the matches of parts.
use Rattle.std.proofs.Common.{inl, inr, ◌≡◌, ◌≤◌, ◌<◌, ◌+◌, ◌-◌, ◌*◌, ℕ, zero, suc, Bool, true, false, cond, if◌then◌else◌, List, [], ◌∷◌, ◌++◌, length, drop, flat_map, get_or, slice_index, Option, Some, None, option_map, All, max, refl, sym, ap, subst, ◌∙◌, arith, append_assoc}
use Rattle.memchr.specs.Find.{IsFirstByte, is_byte}
use Rattle.std.specs.Prelude.{◌==◌, ◌&&◌, IfSome, SomeIff, nat_eq, nat_le, nat_lt}
use Rattle.std.specs.Char.{len_utf8}
use Rattle.std.specs.List.{list_all, starts_with}
use Rattle.std.proofs.lemmas.Bool.{and_parts, cases_Bool, eq-eqb, eqb-true}
use Rattle.std.proofs.lemmas.Bool.Decides.{Decides-eqb, nat_tests}
use Rattle.std.proofs.lemmas.Nat.{mul-le}
use Rattle.std.proofs.lemmas.List.{get_or-drop, get_or_append_left, length-append, length-drop}
use Rattle.std.proofs.lemmas.List.Elements.{All-nil, All-cons, All-head, All-tail, All-append, All-filter, All-map, All-weaker}
use Rattle.std.proofs.lemmas.Slice.Eq.{starts_is}
use Rattle.regress_base.specs.Brackets.{is_accepted}
use Rattle.regress_base.specs.Intervals.{Bounds, is_member, is_within}
use Rattle.regress_base.specs.Listing.{lists}
use Rattle.regress_base.specs.declared.types.Quantifier.{Quantifier}
use Rattle.regress_tree.specs.Lookaround.{looked, lookaround_matcher}
use Rattle.regress_tree.specs.Matching.{steps, steps_of_parts}
use Rattle.regress_tree.specs.Onward.{Advances}
use Rattle.regress_tree.specs.Reading.{forwards, backwards, of_bytes, read_after, character_at}
use Rattle.regress_tree.specs.Repetition.{iteration, iterations, moving, up_to, extra_iterations, repeat_matcher}
use Rattle.regress_tree.specs.Steps.{MatchState, Matcher, Setting, stay, ◌then_◌, ◌or_◌, moved, one_character, these_bytes, hold_at, capture, captured}
use Rattle.regress_tree.specs.Tree.{Tree, Trees, append_trees, more_trees, no_trees, alt, cat, leaf, wrapped, empty, goal, char, byte_sequence, byte_set, char_set, match_any, match_any_except_line_terminator, anchor, word_boundary, bracket, back_ref, string_set, capture_group}
use Rattle.regress_tree.proofs.lemmas.Lists.{steps-append}
use Rattle.regress_tree.proofs.lemmas.Onward.{Advances-capture, Advances-less, Advances-look, Advances-repeat, Advances-then, Advances-these_bytes}
use Rattle.regress_tree.proofs.lemmas.Outcomes.{flat_map-stay}
use Rattle.regress_prefilter.specs.Near.{AdvancesAtMost, IsNearby, IsReach, IsReachOf}
use Rattle.regress_prefilter.specs.OneCharacter.{takes_one, test_of}
use Rattle.regress_prefilter.specs.Required.{Needs}
use Rattle.regress_prefilter.specs.declared.near.Near.{Near}
use Rattle.regress_prefilter.specs.declared.near.Reach.{Reach}
use Rattle.regress_prefilter.proofs.FirstSetLemmas.{if-some, is_still}
use Rattle.regress_prefilter.proofs.RequiredLemmas.{needs_bytes, needs_capture}
use Rattle.regress_prefilter.proofs.lemmas.OneCharacter.{takes_one-steps}
use mathlib.Core.Path.{fun_ext}

-- ---- an upper bound for how far matching forwards advances

abbrev IsUpTo : ℕ → MatchState → MatchState → Type 0
IsUpTo n s t = t.position ≤ s.position + n

module _ (n : ℕ) (s : MatchState) where
  one_up_to : (t : MatchState) → IsUpTo n s t → All (IsUpTo n s) (t ∷ [])
  one_up_to t is = All-cons (IsUpTo n s) t [] is (All-nil (IsUpTo n s))

  -- the state is an outcome or not
  cond_up_to : (b : Bool) (t : MatchState) → IsUpTo n s t → All (IsUpTo n s) (cond b (t ∷ []) [])
  cond_up_to true t is = one_up_to t is
  cond_up_to false t is = All-nil (IsUpTo n s)

pub at_most_more : (m n : ℕ) (f : Matcher) → m ≤ n → AdvancesAtMost m f → AdvancesAtMost n f
at_most_more m n f more is = record { within = λ s. All-weaker (IsUpTo m s) (IsUpTo n s) (λ t h. omega (arith, h, more)) (f s) (is.within s) }

pub at_most_stay : AdvancesAtMost 0 stay
at_most_stay = record { within = λ s. one_up_to 0 s s (omega arith) }

pub at_most_hold : (test : ℕ → Bool) → AdvancesAtMost 0 (hold_at test)
unfolding hold_at
at_most_hold test = record { within = λ s. cond_up_to 0 s (test s.position) s (omega arith) }

flat_map_up_to : (m n : ℕ) (g : Matcher) (s : MatchState) (ts : List MatchState) → AdvancesAtMost n g → All (IsUpTo m s) ts →
    All (IsUpTo (m + n) s) (flat_map g ts)
flat_map_up_to m n g s [] is all = All-nil (IsUpTo (m + n) s)
flat_map_up_to m n g s (t ∷ ts) is all =
    let here = All-head (IsUpTo m s) t ts all in
    All-append (IsUpTo (m + n) s) (g t) (flat_map g ts)
    (All-weaker (IsUpTo n t) (IsUpTo (m + n) s) (λ u h. omega (arith, here, h)) (g t) (is.within t))
    (flat_map_up_to m n g s ts is (All-tail (IsUpTo m s) t ts all))

pub at_most_then : (m n : ℕ) (f g : Matcher) → AdvancesAtMost m f → AdvancesAtMost n g → AdvancesAtMost (m + n) (f then_ g)
at_most_then m n f g first second = record { within = λ s. flat_map_up_to m n g s (f s) second (first.within s) }

pub at_most_or : (n : ℕ) (f g : Matcher) → AdvancesAtMost n f → AdvancesAtMost n g → AdvancesAtMost n (f or_ g)
at_most_or n f g left right = record { within = λ s. All-append (IsUpTo n s) (f s) (g s) (left.within s) (right.within s) }

pub at_most_capture : (n id : ℕ) (f : Matcher) → AdvancesAtMost n f → AdvancesAtMost n (capture id f)
unfolding capture
at_most_capture n id f is = record { within = λ s. All-map (IsUpTo n s) (captured id s.position) (f s) (is.within s) }

looked_up_to : (negate : Bool) (s : MatchState) (ts : List MatchState) → All (IsUpTo 0 s) (looked negate s ts)
looked_up_to false s [] = All-nil (IsUpTo 0 s)
looked_up_to false s (t ∷ later) = one_up_to 0 s (record t { position = s.position }) (omega arith)
looked_up_to true s [] = one_up_to 0 s s (omega arith)
looked_up_to true s (t ∷ later) = All-nil (IsUpTo 0 s)

pub at_most_look : (negate : Bool) (f : Matcher) → AdvancesAtMost 0 (lookaround_matcher negate f)
unfolding lookaround_matcher
at_most_look negate f = record { within = λ s. looked_up_to negate s (f s) }

module _ (n : ℕ) (f : Matcher) (is : AdvancesAtMost n f) where
  at_most_iterations : (k : ℕ) → AdvancesAtMost (k * n) (iterations k f)
  at_most_iterations zero = at_most_more 0 (zero * n) stay (omega arith) at_most_stay
  at_most_iterations (suc k) =
      at_most_more (n + k * n) (suc k * n) _ (omega arith) (at_most_then n (k * n) f (iterations k f) is (at_most_iterations k))

  at_most_moving : AdvancesAtMost n (moving f)
  at_most_moving = record { within = λ s. All-filter (λ t. _) (IsUpTo n s) (f s) (is.within s) }

  at_most_up_to : (greedy : Bool) (k : ℕ) → AdvancesAtMost (k * n) (up_to greedy k f)
  at_most_up_to greedy zero = at_most_more 0 (zero * n) stay (omega arith) at_most_stay
  at_most_up_to true (suc k) =
      let more = at_most_more (n + k * n) (suc k * n) _ (omega arith) (at_most_then n (k * n) _ _ at_most_moving (at_most_up_to true k)) in
      at_most_or (suc k * n) _ stay more (at_most_more 0 (suc k * n) stay (omega arith) at_most_stay)
  at_most_up_to false (suc k) =
      let more = at_most_more (n + k * n) (suc k * n) _ (omega arith) (at_most_then n (k * n) _ _ at_most_moving (at_most_up_to false k)) in
      at_most_or (suc k * n) stay _ (at_most_more 0 (suc k * n) stay (omega arith) at_most_stay) more

-- the number of iterations beyond the minimum
extra_within : (bound : ℕ) (q : Quantifier) (most : ℕ) → q.max ≡ Some most → extra_iterations bound q ≤ most - q.min
extra_within bound q most is = by q.max is
  where
    by : (m : Option ℕ) → m ≡ Some most → extra_iterations bound (record q { max = m }) ≤ most - q.min
    by None is = let bad : ⊥ = cc in absurd bad
    by (Some k) is = let same : k ≡ most = cc in omega (arith, same)

products : (n a b m : ℕ) → a + b ≤ m → a * n + b * n ≤ n * m
products n a b m le = grind (arith, mul-le (a + b) n m n le (omega arith))

-- A loop advances at most by its maximum of iterations, or its minimum if that is greater.
pub at_most_repeat : (n most bound : ℕ) (q : Quantifier) (start end : ℕ) (f : Matcher) → q.max ≡ Some most → AdvancesAtMost n f →
    AdvancesAtMost (n * max most q.min) (repeat_matcher bound q start end f)
unfolding repeat_matcher
at_most_repeat n most bound q start end f limit is =
    let T = iteration start end f in
    let k = extra_iterations bound q in
    let turned : AdvancesAtMost n T = record { within = λ s. is.within _ } in
    let few = extra_within bound q most limit in
    let sum = products n q.min k (max most q.min) (omega (arith, few)) in
    at_most_more (q.min * n + k * n) (n * max most q.min) _ sum
    (at_most_then (q.min * n) (k * n) _ _ (at_most_iterations n T turned q.min) (at_most_up_to n T turned q.greedy k))

moved_up_to : (n : ℕ) (test : ℕ → Bool) (s : MatchState) (c : Option ℕ) → ((x : ℕ) → test x ≡ true → len_utf8 x ≤ n) →
    All (IsUpTo n s) (moved test s (option_map (λ x. record { character = x; position = s.position + len_utf8 x }) c))
moved_up_to n test s None short = All-nil (IsUpTo n s)
moved_up_to n test s (Some c) short = tested (test c) refl
  where
    tested : (b : Bool) → test c ≡ b → All (IsUpTo n s) (if b then record s { position = s.position + len_utf8 c } ∷ [] else [])
    tested true is = one_up_to n s (record s { position = s.position + len_utf8 c }) (omega (arith, short c is))
    tested false is = All-nil (IsUpTo n s)

pub at_most_character : (n : ℕ) (bytes : List ℕ) (test : ℕ → Bool) → ((x : ℕ) → test x ≡ true → len_utf8 x ≤ n) →
    AdvancesAtMost n (one_character forwards (of_bytes bytes) test)
unfolding one_character read_after
at_most_character n bytes test short = record { within = λ s. moved_up_to n test s (character_at bytes s.position) short }

pub at_most_bytes : (bytes written : List ℕ) → AdvancesAtMost (length written) (these_bytes forwards bytes written)
unfolding these_bytes
at_most_bytes bytes written = record {
  within = λ s. cond_up_to (length written) s _ (record s { position = s.position + length written }) (omega arith);
}

-- ---- a byte near the start

-- no occurrence of the byte is near
abbrev pub IsOff : Near → List ℕ → ℕ → Type 0
IsOff near bytes position = IsNearby near bytes position → ⊥

module _ (part whole : Near) (bytes : List ℕ) (n : ℕ) (byte : whole.byte ≡ part.byte) (before : whole.before ≡ part.before) (within : whole.within ≡ part.within + n) where
  off_later : (j k : ℕ) → j ≤ k → k ≤ j + n → IsOff whole bytes j → IsOff part bytes k
  off_later j k low high off = λ here. off (record {
    at = here.at;
    low = omega (arith, low, before, here.low);
    high = omega (arith, high, within, here.high);
    inside = here.inside;
    is = here.is ∙ sym byte;
  })

  none_off : (g : Matcher) (s : MatchState) (ts : List MatchState) → Needs (IsOff part bytes) g → IsOff whole bytes s.position →
      All (λ t. s.position + 0 ≤ t.position) ts → All (IsUpTo n s) ts → flat_map g ts ≡ []
  none_off g s [] needs off on up = refl
  none_off g s (t ∷ ts) needs off on up =
      let low = All-head (λ t. s.position + 0 ≤ t.position) t ts on in
      let high = All-head (IsUpTo n s) t ts up in
      let here : g t ≡ [] = needs.none t (off_later s.position t.position (omega (arith, low)) high off) in
      ap (λ us. us ++ flat_map g ts) here
      ∙ none_off g s ts needs off (All-tail (λ t. s.position + 0 ≤ t.position) t ts on) (All-tail (IsUpTo n s) t ts up)

  pub needs_later : (f g : Matcher) → Advances 0 f → AdvancesAtMost n f → Needs (IsOff part bytes) g → Needs (IsOff whole bytes) (f then_ g)
  needs_later f g on up needs = record { none = λ s off. none_off g s (f s) needs off (on.onward s) (up.within s) }

-- a byte of a list of bytes that is at an offset
there : (bytes written rest : List ℕ) (k i : ℕ) → drop k bytes ≡ written ++ rest → i < length written →
    (k + i < length bytes) × (slice_index bytes (k + i) ≡ slice_index written i)
there bytes written rest k i here low = (
  omega (arith, low, ap length here, length-append written rest, length-drop k bytes),
  sym (get_or-drop k bytes i 0) ∙ ap (λ xs. get_or xs i 0) here ∙ get_or_append_left written rest 0 i low,
)

pub needs_in : (near : Near) (bytes written : List ℕ) → near.within < length written → near.byte ≡ slice_index written near.within →
    Needs (IsOff near bytes) (these_bytes forwards bytes written)
needs_in near bytes written low is =
    needs_bytes (IsOff near bytes) bytes written
    (λ k off starts.
    let found = there bytes written _ k near.within ((starts_is Decides-eqb (drop k bytes) written _ refl).0 starts) low in
    off (record { at = k + near.within; low = omega arith; high = omega arith; inside = found.0; is = found.1 ∙ sym is }))

pub needs_before : (near : Near) (bytes written : List ℕ) (i : ℕ) → i < length written → near.before ≡ length written - i → near.byte ≡ slice_index written i →
    Needs (IsOff near bytes) (these_bytes backwards bytes written)
unfolding these_bytes
needs_before near bytes written i low before is =
    record { none = λ s off. nowhere s off (nat_le (length written) s.position && starts_with nat_eq (drop (s.position - length written) bytes) written) refl }
  where
    nowhere : (s : MatchState) → IsOff near bytes s.position → (x : Bool) →
        (nat_le (length written) s.position && starts_with nat_eq (drop (s.position - length written) bytes) written) ≡ x →
        (if x then record s { position = s.position - length written } ∷ [] else []) ≡ []
    nowhere s off true both =
        let parts = and_parts (nat_le (length written) s.position) (starts_with nat_eq (drop (s.position - length written) bytes) written) both in
        let k = s.position - length written in
        let enough : length written ≤ s.position = grind (arith, nat_tests, parts.0) in
        let found = there bytes written _ k i ((starts_is Decides-eqb (drop k bytes) written _ refl).0 parts.1) low in
        absurd (off (record { at = k + i; low = omega (arith, before, low, enough); high = omega (arith, low, enough); inside = found.0; is = found.1 ∙ sym is }))
    nowhere s off false both = refl

pub needs_look : (absent : ℕ → Type 0) (f : Matcher) → Needs absent f → Needs absent (lookaround_matcher false f)
unfolding lookaround_matcher
needs_look absent f needs = record { none = λ s off. ap (looked false s) (needs.none s off) }

-- ---- parts

-- what holds of a sum or a product that does not overflow
pub if_fits : (found : Option ℕ) (P : Type 0) (n : ℕ) (Q : ℕ → Type 0) → SomeIff found P n → Q n → IfSome found Q
if_fits None P n Q is holds = tt
if_fits (Some m) P n Q is holds = subst Q (sym is.1) holds

pub reach_then : (a b r : Reach) (bytes : List ℕ) (f g : Matcher) → IsReachOf a bytes f → IsReachOf b bytes g →
    IfSome r.width (λ n. AdvancesAtMost n (f then_ g)) → IfSome r.near (λ near. Needs (IsOff near bytes) (f then_ g)) → IsReachOf r bytes (f then_ g)
reach_then a b r bytes f g first second width near =
    record { onward = Advances-then 0 0 f g first.onward second.onward; width = width; near = near }

pub reach_repeat : (a r : Reach) (bytes : List ℕ) (f : Matcher) (q : Quantifier) (bound start end : ℕ) → IsReachOf a bytes f →
    IfSome r.width (λ n. AdvancesAtMost n (repeat_matcher bound q start end f)) →
    IfSome r.near (λ near. Needs (IsOff near bytes) (repeat_matcher bound q start end f)) → IsReachOf r bytes (repeat_matcher bound q start end f)
reach_repeat a r bytes f q bound start end body width near = record {
  onward = Advances-less 0 (q.min * 0) _ (omega arith) (Advances-repeat 0 bound q start end f body.onward);
  width = width;
  near = near;
}

-- ---- where the byte is near

module _ (near : Near) (bytes : List ℕ) (from start : ℕ) (first : start ≡ from - near.before) where
  at_ahead : (k : ℕ) → from ≤ k → (here : IsNearby near bytes k) →
      (start ≤ here.at) × (here.at - start < length (drop start bytes)) × (is_byte near.byte (slice_index (drop start bytes) (here.at - start)) ≡ true)
  at_ahead k low here =
      let after : start ≤ here.at = omega (arith, first, low, here.low) in
      let place : start + (here.at - start) ≡ here.at = omega (arith, after) in
      let it : slice_index (drop start bytes) (here.at - start) ≡ near.byte =
      get_or-drop start bytes (here.at - start) 0 ∙ ap (slice_index bytes) place ∙ here.is in
      (after, omega (arith, after, here.inside, length-drop start bytes), eq-eqb (slice_index (drop start bytes) (here.at - start)) near.byte it)

  pub none_nearby : IsFirstByte (is_byte near.byte) (drop start bytes) None → (k : ℕ) → from ≤ k → IsNearby near bytes k → ⊥
  none_nearby none k low here =
      let there = at_ahead k low here in
      none (here.at - start) (omega arith) there.1 there.2

  pub next_is_nearby : (i : ℕ) → IsFirstByte (is_byte near.byte) (drop start bytes) (Some i) →
      (let to = max from ((start + i) - near.within) in
      (from ≤ to) × IsNearby near bytes to × ((k : ℕ) → from ≤ k → k < to → IsNearby near bytes k → ⊥))
  next_is_nearby i found =
      let it : slice_index bytes (start + i) ≡ near.byte = sym (get_or-drop start bytes i 0) ∙ eqb-true (slice_index (drop start bytes) i) near.byte found.1 in (
        omega arith,
        record {
          at = start + i;
          low = omega (arith, first);
          high = omega arith;
          inside = omega (arith, found.0.high, length-drop start bytes);
          is = it;
        },
        λ k low high here.
            let there = at_ahead k low here in
            found.0.before (here.at - start) (omega arith) (omega (arith, there.0, here.high, low, high)) there.2,
      )

-- ---- nodes

pub reach_bytes : (r : Reach) (bytes written : List ℕ) → r.width ≡ Some (length written) →
    IfSome r.near (λ near. Needs (IsOff near bytes) (these_bytes forwards bytes written)) → IsReachOf r bytes (these_bytes forwards bytes written)
reach_bytes r bytes written width near = record {
  onward = Advances-less 0 (length written) _ (omega arith) (Advances-these_bytes bytes written);
  width = subst (λ w. IfSome w (λ n. AdvancesAtMost n (these_bytes forwards bytes written))) (sym width) (at_most_bytes bytes written);
  near = near;
}

-- a leaf that matches one character
pub at_most_one : (n : ℕ) (t : Tree) → takes_one t ≡ true → ((c : ℕ) → test_of t c ≡ true → len_utf8 c ≤ n) → (setting : Setting) (bytes : List ℕ) →
    AdvancesAtMost n (steps setting bytes forwards t)
at_most_one n t takes short setting bytes = record {
  within = λ s. subst (λ states. All (IsUpTo n s) states) (sym (takes_one-steps setting bytes forwards t s takes))
      ((at_most_character n bytes (test_of t) short).within s);
}

-- a leaf that matches the empty text
pub at_most_still : (t : Tree) → is_still t ≡ true → (setting : Setting) (bytes : List ℕ) → AdvancesAtMost 0 (steps setting bytes forwards t)
at_most_still (leaf empty) is setting bytes = at_most_stay
at_most_still (leaf goal) is setting bytes = at_most_stay
at_most_still (leaf (anchor kind multiline)) is setting bytes = at_most_hold _
at_most_still (leaf (word_boundary invert icase)) is setting bytes = at_most_hold _
at_most_still (leaf (char c)) is setting bytes = let bad : ⊥ = cc in absurd bad
at_most_still (leaf (byte_sequence written)) is setting bytes = let bad : ⊥ = cc in absurd bad
at_most_still (leaf (byte_set members)) is setting bytes = let bad : ⊥ = cc in absurd bad
at_most_still (leaf (char_set members)) is setting bytes = let bad : ⊥ = cc in absurd bad
at_most_still (leaf match_any) is setting bytes = let bad : ⊥ = cc in absurd bad
at_most_still (leaf match_any_except_line_terminator) is setting bytes = let bad : ⊥ = cc in absurd bad
at_most_still (leaf (bracket invert intervals)) is setting bytes = let bad : ⊥ = cc in absurd bad
at_most_still (leaf (back_ref group icase)) is setting bytes = let bad : ⊥ = cc in absurd bad
at_most_still (leaf (string_set strings icase)) is setting bytes = let bad : ⊥ = cc in absurd bad
at_most_still (cat parts) is setting bytes = let bad : ⊥ = cc in absurd bad
at_most_still (alt left right) is setting bytes = let bad : ⊥ = cc in absurd bad
at_most_still (wrapped w body) is setting bytes = let bad : ⊥ = cc in absurd bad

pub reach_capture : (r : Reach) (id : ℕ) (name : Option (List ℕ)) (t : Tree) → IsReach r t → IsReach r (wrapped (capture_group id name) t)
reach_capture r id name t is = λ setting bytes.
    let body = is setting bytes in
    let f = steps setting bytes forwards t in
    record {
      onward = Advances-capture 0 id f body.onward;
      width = if-some r.width (λ n h. at_most_capture n id f h) body.width;
      near = if-some r.near (λ near needs. needs_capture (IsOff near bytes) id f needs) body.near;
    }

-- a lookaround
pub reach_look : (r : Reach) (bytes : List ℕ) (negate : Bool) (f : Matcher) → r.width ≡ Some 0 →
    IfSome r.near (λ near. Needs (IsOff near bytes) (lookaround_matcher negate f)) → IsReachOf r bytes (lookaround_matcher negate f)
reach_look r bytes negate f width near = record {
  onward = Advances-look negate f;
  width = subst (λ w. IfSome w (λ n. AdvancesAtMost n (lookaround_matcher negate f))) (sym width) (at_most_look negate f);
  near = near;
}

pub reach_same : (r : Reach) (bytes : List ℕ) (f g : Matcher) → ((s : MatchState) → f s ≡ g s) → IsReachOf r bytes g → IsReachOf r bytes f
reach_same r bytes f g same is = subst (IsReachOf r bytes) (sym (fun_ext same)) is

-- what alternatives so far and the remaining ones are together
abbrev pub IsReachSpine : Reach → (whole rest : Tree) → Type 0
IsReachSpine r whole rest = (setting : Setting) (bytes : List ℕ) →
    (f : Matcher) × IsReachOf r bytes f × ((s : MatchState) → steps setting bytes forwards whole s ≡ f s ++ steps setting bytes forwards rest s)

abbrev pub Ors : (a b r : Reach) → Type 0
Ors a b r = (bytes : List ℕ) (f g : Matcher) → IsReachOf a bytes f → IsReachOf b bytes g → IsReachOf r bytes (f or_ g)

pub spine_start : (r : Reach) (left right : Tree) → IsReach r left → IsReachSpine r (alt left right) right
spine_start r left right is = λ setting bytes. (steps setting bytes forwards left, is setting bytes, λ s. refl)

pub spine_next : (a b r : Reach) (whole left right : Tree) → Ors a b r → IsReachSpine a whole (alt left right) → IsReach b left → IsReachSpine r whole right
spine_next a b r whole left right or so_far is = λ setting bytes.
    let before = so_far setting bytes in
    let L = steps setting bytes forwards left in
    let R = steps setting bytes forwards right in (
      before.0 or_ L,
      or bytes before.0 L before.1 (is setting bytes),
      λ s. before.2 s ∙ sym (append_assoc (before.0 s) (L s) (R s)),
    )

pub spine_last : (a b r : Reach) (whole rest : Tree) → Ors a b r → IsReachSpine a whole rest → IsReach b rest → IsReach r whole
spine_last a b r whole rest or so_far is = λ setting bytes.
    let before = so_far setting bytes in
    let R = steps setting bytes forwards rest in
    reach_same r bytes (steps setting bytes forwards whole) (before.0 or_ R) before.2 (or bytes before.0 R before.1 (is setting bytes))

-- a sequence with one more part
pub reach_next : (a b r : Reach) (ts : Trees) (t : Tree) →
    ((bytes : List ℕ) (f g : Matcher) → IsReachOf a bytes f → IsReachOf b bytes g → IsReachOf r bytes (f then_ g)) →
    IsReach a (cat ts) → IsReach b t → IsReach r (cat (append_trees ts (more_trees t no_trees)))
reach_next a b r ts t then' so_far is = λ setting bytes.
    let f = steps_of_parts setting bytes forwards ts in
    let g = steps setting bytes forwards t in
    reach_same r bytes (steps_of_parts setting bytes forwards (append_trees ts (more_trees t no_trees))) (f then_ g)
    (λ s. steps-append setting bytes forwards ts (more_trees t no_trees) s ∙ ap (λ h. flat_map h (f s)) (fun_ext (λ u. flat_map-stay (g u))))
    (then' bytes f g (so_far setting bytes) (is setting bytes))

-- ---- characters of ASCII

pub listed_ascii : (members : List ℕ) → list_all (λ b. nat_lt b 128) members ≡ true → (c : ℕ) → lists members c ≡ true → c < 128
listed_ascii [] all c is = let bad : ⊥ = cc in absurd bad
listed_ascii (b ∷ members) all c is = elim (cases_Bool (b == c)) [
  | inl same ↦ grind (arith, nat_tests, all, same)
  | inr differs ↦ listed_ascii members (grind (arith, nat_tests, all)) c (grind (arith, nat_tests, is, differs))
]

pub within_ascii : (intervals : List Bounds) → list_all (λ (i : Bounds). nat_lt i.last 128) intervals ≡ true → (c : ℕ) → is_member intervals c ≡ true → c < 128
unfolding is_member is_within
within_ascii [] all c is = let bad : ⊥ = cc in absurd bad
within_ascii (i ∷ intervals) all c is = elim (cases_Bool (nat_le i.first c && nat_le c i.last)) [
  | inl here ↦ grind (arith, nat_tests, all, here)
  | inr not_here ↦ within_ascii intervals (grind (arith, nat_tests, all)) c (grind (arith, nat_tests, is, not_here))
]

pub accepted : (intervals : List Bounds) (c : ℕ) → is_accepted false intervals c ≡ true → is_member intervals c ≡ true
accepted intervals c is = is
