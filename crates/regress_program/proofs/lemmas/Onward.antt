-- Every tree stays inside the text and is never against the direction of matching.
use Rattle.std.proofs.Common.{◌≡◌, ℕ, zero, suc, ◌+◌, ◌-◌, ◌≤◌, nat_le, nat_eq, get_or, Bool, true, false, cond, ◌==◌, List, [], ◌∷◌, ◌++◌, length, drop, flat_map, Option, Some, None, option_map, option_and_then, All, IfSome, subst, sym, ap, ◌∙◌, refl, arith, encode_utf8}
use Rattle.std.proofs.lemmas.Bool.{and_parts}
use Rattle.std.proofs.lemmas.Bool.Decides.{Decides-eqb}
use Rattle.std.proofs.lemmas.List.{length-append, length-drop}
use Rattle.std.proofs.lemmas.List.Elements.{All-nil, All-cons, All-head, All-tail, All-append, All-filter, All-map, All-weaker}
use Rattle.std.proofs.lemmas.Slice.Eq.{starts_is}
use Rattle.std.proofs.lemmas.Str.{length-encode}
use Rattle.std.specs.Char.{len_utf8}
use Rattle.std.specs.List.{starts_with}
use Rattle.std.specs.Option.{option_or}
use Rattle.regress_base.specs.declared.types.Quantifier.{Quantifier}
use Rattle.regress_tree.specs.Lookaround.{looked, lookaround_matcher}
use Rattle.regress_tree.specs.Matching.{leaf_steps, steps, steps_of_parts}
use Rattle.regress_tree.specs.Reading.{Direction, forwards, backwards, Read, next_character, of_bytes, read_after, read_before, character_at}
use Rattle.regress_tree.specs.References.{all_of, characters_from, match_again, back_reference, in_order, any_string}
use Rattle.regress_tree.specs.Repetition.{iteration, iterations, moving, up_to, extra_iterations, repeat_matcher, unset}
use Rattle.regress_tree.specs.Steps.{CaptureSpan, MatchState, Matcher, stay, fail, ◌then_◌, ◌or_◌, moved, one_character, these_bytes, hold_at, capture, captured, Setting}
use Rattle.regress_tree.specs.Tree.{Leaf, empty, goal, char, byte_sequence, byte_set, char_set, match_any, match_any_except_line_terminator, anchor, word_boundary, bracket, back_ref, string_set, capture_group, loop, loop_one, lookaround, Tree, Trees, leaf, cat, alt, wrapped, no_trees, more_trees}
use Rattle.regress_leaves.specs.Leaves.{put}
use Rattle.regress_program.specs.Stays.{IsOnward, IsReached, Stays}

pub IsOnward-same : (d : Direction) (k : ℕ) → IsOnward d k k
IsOnward-same forwards k = omega arith
IsOnward-same backwards k = omega arith

pub IsOnward-then : (d : Direction) (i j k : ℕ) → IsOnward d i j → IsOnward d j k → IsOnward d i k
IsOnward-then forwards i j k a b = omega (arith, a, b)
IsOnward-then backwards i j k a b = omega (arith, a, b)

-- the bytes end inside the text
occurs-within : (bytes : List ℕ) (k : ℕ) (written : List ℕ) → k ≤ length bytes → starts_with nat_eq (drop k bytes) written ≡ true →
    k + length written ≤ length bytes
occurs-within bytes k written le h =
    let is : drop k bytes ≡ written ++ drop (length written) (drop k bytes) = (starts_is Decides-eqb (drop k bytes) written _ refl).0 h in
    let all : length (drop k bytes) ≡ length written + length (drop (length written) (drop k bytes)) =
    ap length is ∙ length-append written (drop (length written) (drop k bytes)) in
    omega (arith, all, length-drop k bytes, le)

module _ (bytes : List ℕ) (d : Direction) where
  pub IsReached-here : (s t : MatchState) → s.position ≤ length bytes → t.position ≡ s.position → IsReached bytes d s t
  IsReached-here s t le same =
      record { inside = omega (arith, same, le); onward = subst (λ k. IsOnward d s.position k) (sym same) (IsOnward-same d s.position) }

  module _ (s : MatchState) where
    one_reached : (t : MatchState) → IsReached bytes d s t → All (IsReached bytes d s) (t ∷ [])
    one_reached t is = All-cons (IsReached bytes d s) t [] is (All-nil (IsReached bytes d s))

    if_reached : (b : Bool) (t : MatchState) → (b ≡ true → IsReached bytes d s t) → All (IsReached bytes d s) (cond b (t ∷ []) [])
    if_reached true t is = one_reached t (is refl)
    if_reached false t is = All-nil (IsReached bytes d s)

  pub IsReached-then : (s t u : MatchState) → IsReached bytes d s t → IsReached bytes d t u → IsReached bytes d s u
  IsReached-then s t u first second = record {
    inside = second.inside;
    onward = IsOnward-then d s.position t.position u.position first.onward second.onward;
  }

  pub Stays-stay : Stays bytes d stay
  Stays-stay = record { reached = λ s le. one_reached s s (IsReached-here s s le refl) }

  pub Stays-fail : Stays bytes d fail
  Stays-fail = record { reached = λ s le. All-nil (IsReached bytes d s) }

  Stays-hold_at : (test : ℕ → Bool) → Stays bytes d (hold_at test)
  unfolding hold_at
  Stays-hold_at test = record { reached = λ s le. if_reached s (test s.position) s (λ e. IsReached-here s s le refl) }

  flat_map_reached : (g : Matcher) (s : MatchState) (ts : List MatchState) → Stays bytes d g → All (IsReached bytes d s) ts →
      All (IsReached bytes d s) (flat_map g ts)
  flat_map_reached g s [] on all = All-nil (IsReached bytes d s)
  flat_map_reached g s (t ∷ ts) on all =
      let here = All-head (IsReached bytes d s) t ts all in
      All-append (IsReached bytes d s) (g t) (flat_map g ts)
      (All-weaker (IsReached bytes d t) (IsReached bytes d s) (λ u h. IsReached-then s t u here h) (g t) (on.reached t here.inside))
      (flat_map_reached g s ts on (All-tail (IsReached bytes d s) t ts all))

  pub Stays-then : (f g : Matcher) → Stays bytes d f → Stays bytes d g → Stays bytes d (f then_ g)
  Stays-then f g first second = record { reached = λ s le. flat_map_reached g s (f s) second (first.reached s le) }

  pub Stays-or : (f g : Matcher) → Stays bytes d f → Stays bytes d g → Stays bytes d (f or_ g)
  Stays-or f g left right =
      record { reached = λ s le. All-append (IsReached bytes d s) (f s) (g s) (left.reached s le) (right.reached s le) }

-- ---- characters and bytes

abbrev IsNext : List ℕ → Direction → ℕ → Option Read → Type 0
IsNext bytes d k o = IfSome o (λ r. (r.position ≤ length bytes) × IsOnward d k r.position)

after_if : (bytes : List ℕ) (k c : ℕ) (b : Bool) → k ≤ length bytes →
    (b ≡ true → starts_with nat_eq (drop k bytes) (encode_utf8 c) ≡ true) →
    IsNext bytes forwards k (option_map (λ x. record { character = x; position = k + len_utf8 x }) (cond b (Some c) None))
after_if bytes k c true le starts =
    let within = occurs-within bytes k (encode_utf8 c) le (starts refl) in
    (omega (arith, within, length-encode c), omega arith)
after_if bytes k c false le starts = tt

read_after-next : (bytes : List ℕ) (k : ℕ) → k ≤ length bytes → IsNext bytes forwards k (read_after bytes k)
unfolding read_after character_at
read_after-next bytes k le = after_if bytes k _ _ le (λ h. (and_parts _ _ h).1)

before_if : (bytes : List ℕ) (n k : ℕ) (b : Bool) (o : Option ℕ) → k ≤ length bytes →
    IsNext bytes backwards k (cond b (option_and_then (λ c. cond (len_utf8 c == n) (Some (record { character = c; position = k - n })) None) o) None)
before_if bytes n k false o le = tt
before_if bytes n k true None le = tt
before_if bytes n k true (Some c) le = chosen (len_utf8 c == n)
  where
    chosen : (b : Bool) → IsNext bytes backwards k (cond b (Some (record { character = c; position = k - n })) None)
    chosen true = (omega arith, omega arith)
    chosen false = tt

or_next : (bytes : List ℕ) (k : ℕ) (o p : Option Read) → IsNext bytes backwards k o → IsNext bytes backwards k p → IsNext bytes backwards k (option_or o p)
or_next bytes k None p h h' = h'
or_next bytes k (Some r) p h h' = h

read_before-next : (bytes : List ℕ) (k : ℕ) → k ≤ length bytes → IsNext bytes backwards k (read_before bytes k)
unfolding read_before
read_before-next bytes k le =
    let by = λ (n : ℕ). before_if bytes n k (nat_le n k) (character_at bytes (k - n)) le in
    or_next bytes k _ _ (by 1) (or_next bytes k _ _ (by 2) (or_next bytes k _ _ (by 3) (by 4)))

next-next : (bytes : List ℕ) (d : Direction) (k : ℕ) → k ≤ length bytes → IsNext bytes d k (next_character d (of_bytes bytes) k)
next-next bytes forwards k le = read_after-next bytes k le
next-next bytes backwards k le = read_before-next bytes k le

these_reached : (bytes : List ℕ) (d : Direction) (written : List ℕ) (s : MatchState) → s.position ≤ length bytes →
    All (IsReached bytes d s) (these_bytes d bytes written s)
unfolding these_bytes
these_reached bytes forwards written s le =
    if_reached bytes forwards s _ _ (λ e. record { inside = occurs-within bytes s.position written le e; onward = omega arith })
these_reached bytes backwards written s le =
    if_reached bytes backwards s _ _ (λ e. record { inside = omega arith; onward = omega arith })

module _ (bytes : List ℕ) (d : Direction) where
  moved_reached : (test : ℕ → Bool) (s : MatchState) (o : Option Read) → IsNext bytes d s.position o → All (IsReached bytes d s) (moved test s o)
  moved_reached test s None is = All-nil (IsReached bytes d s)
  moved_reached test s (Some r) is = if_reached bytes d s (test r.character) _ (λ e. record { inside = is.0; onward = is.1 })

  Stays-one_character : (test : ℕ → Bool) → Stays bytes d (one_character d (of_bytes bytes) test)
  unfolding one_character
  Stays-one_character test = record { reached = λ s le. moved_reached test s _ (next-next bytes d s.position le) }

  Stays-these_bytes : (written : List ℕ) → Stays bytes d (these_bytes d bytes written)
  Stays-these_bytes written = record { reached = λ s le. these_reached bytes d written s le }

  module _ (same : ℕ → ℕ → Bool) where
    Stays-all_of : (cs : List ℕ) → Stays bytes d (all_of d (of_bytes bytes) same cs)
    Stays-all_of [] = Stays-stay bytes d
    Stays-all_of (c ∷ cs) = Stays-then bytes d _ _ (Stays-one_character (same c)) (Stays-all_of cs)

    Stays-any_string : (strings : List (List ℕ)) → Stays bytes d (any_string d (of_bytes bytes) same strings)
    unfolding any_string
    Stays-any_string [] = Stays-fail bytes d
    Stays-any_string (cs ∷ strings) = Stays-or bytes d _ _ (Stays-all_of (in_order d cs)) (Stays-any_string strings)

    again_reached : (span : Option CaptureSpan) (s : MatchState) → s.position ≤ length bytes →
        All (IsReached bytes d s) (match_again d (of_bytes bytes) same span s)
    again_reached None s le = (Stays-stay bytes d).reached s le
    again_reached (Some span) s le = (Stays-all_of (in_order d (characters_from (of_bytes bytes) (span.1 - span.0) span.0 span.1))).reached s le

    Stays-back_reference : (id : ℕ) → Stays bytes d (back_reference d (of_bytes bytes) same id)
    unfolding back_reference
    Stays-back_reference id = record { reached = λ s le. again_reached (get_or s.captures id None) s le }

  -- ---- nodes with a body

  pub Stays-capture : (id : ℕ) (f : Matcher) → Stays bytes d f → Stays bytes d (capture id f)
  unfolding capture
  Stays-capture id f on = record {
    reached = λ s le.
        All-map (IsReached bytes d s) (captured id s.position) (f s)
        (All-weaker (IsReached bytes d s) (λ t. IsReached bytes d s (captured id s.position t))
        (λ t h. record { inside = h.inside; onward = h.onward }) (f s) (on.reached s le));
  }

  looked_reached : (negate : Bool) (s : MatchState) (ts : List MatchState) → s.position ≤ length bytes → All (IsReached bytes d s) (looked negate s ts)
  looked_reached false s [] le = All-nil (IsReached bytes d s)
  looked_reached false s (t ∷ later) le = one_reached bytes d s _ (IsReached-here bytes d s (record t { position = s.position }) le refl)
  looked_reached true s [] le = one_reached bytes d s s (IsReached-here bytes d s s le refl)
  looked_reached true s (t ∷ later) le = All-nil (IsReached bytes d s)

  -- whatever the body is
  pub Stays-look : (negate : Bool) (f : Matcher) → Stays bytes d (lookaround_matcher negate f)
  unfolding lookaround_matcher
  Stays-look negate f = record { reached = λ s le. looked_reached negate s (f s) le }

  module _ (f : Matcher) (on : Stays bytes d f) where
    pub Stays-iteration : (start end : ℕ) → Stays bytes d (iteration start end f)
    Stays-iteration start end = record {
      reached = λ s le.
          All-weaker (IsReached bytes d (unset start end s)) (IsReached bytes d s) (λ t h. record { inside = h.inside; onward = h.onward })
          (f (unset start end s)) (on.reached (unset start end s) le);
    }

    pub Stays-iterations : (n : ℕ) → Stays bytes d (iterations n f)
    Stays-iterations zero = Stays-stay bytes d
    Stays-iterations (suc n) = Stays-then bytes d f (iterations n f) on (Stays-iterations n)

    pub Stays-moving : Stays bytes d (moving f)
    Stays-moving = record { reached = λ s le. All-filter (λ t. _) (IsReached bytes d s) (f s) (on.reached s le) }

    pub Stays-up_to : (greedy : Bool) (n : ℕ) → Stays bytes d (up_to greedy n f)
    Stays-up_to greedy zero = Stays-stay bytes d
    Stays-up_to true (suc n) =
        Stays-or bytes d _ stay (Stays-then bytes d _ _ Stays-moving (Stays-up_to true n)) (Stays-stay bytes d)
    Stays-up_to false (suc n) =
        Stays-or bytes d stay _ (Stays-stay bytes d) (Stays-then bytes d _ _ Stays-moving (Stays-up_to false n))

  pub Stays-repeat : (bound : ℕ) (q : Quantifier) (start end : ℕ) (f : Matcher) → Stays bytes d f → Stays bytes d (repeat_matcher bound q start end f)
  unfolding repeat_matcher
  Stays-repeat bound q start end f on =
      let iterated = Stays-iteration f on start end in
      Stays-then bytes d _ _ (Stays-iterations _ iterated q.min) (Stays-up_to _ iterated q.greedy (extra_iterations bound q))

-- ---- trees

module _ (setting : Setting) (bytes : List ℕ) where
  pub Stays-leaf : (d : Direction) (l : Leaf) → Stays bytes d (leaf_steps setting bytes d l)
  Stays-leaf d empty = Stays-stay bytes d
  Stays-leaf d goal = Stays-stay bytes d
  Stays-leaf d (char c) = Stays-one_character bytes d _
  Stays-leaf d (byte_sequence written) = Stays-these_bytes bytes d written
  Stays-leaf d (byte_set members) = Stays-one_character bytes d _
  Stays-leaf d (char_set members) = Stays-one_character bytes d _
  Stays-leaf d match_any = Stays-one_character bytes d _
  Stays-leaf d match_any_except_line_terminator = Stays-one_character bytes d _
  Stays-leaf d (anchor kind multiline) = Stays-hold_at bytes d _
  Stays-leaf d (word_boundary invert unicode_icase) = Stays-hold_at bytes d _
  Stays-leaf d (bracket invert intervals) = Stays-one_character bytes d _
  Stays-leaf d (back_ref group icase) = Stays-back_reference bytes d _ (group - 1)
  Stays-leaf d (string_set strings icase) = Stays-any_string bytes d _ strings

  mutual
    -- From inside the text, each outcome of a tree is inside the text, and not against the direction.
    pub Stays-tree : (d : Direction) (t : Tree) → Stays bytes d (steps setting bytes d t)
    Stays-tree d (leaf l) = Stays-leaf d l
    Stays-tree d (cat parts) = Stays-parts d parts
    Stays-tree d (alt left right) = Stays-or bytes d _ _ (Stays-tree d left) (Stays-tree d right)
    Stays-tree d (wrapped (capture_group id name) body) = Stays-capture bytes d id _ (Stays-tree d body)
    Stays-tree d (wrapped (loop q start end) body) = Stays-repeat bytes d (length bytes + 1) q start end _ (Stays-tree d body)
    Stays-tree d (wrapped (loop_one q) body) = Stays-repeat bytes d (length bytes + 1) q 0 0 _ (Stays-tree d body)
    Stays-tree d (wrapped (lookaround negate looks_back start end) body) = Stays-look bytes d negate _

    pub Stays-parts : (d : Direction) (ts : Trees) → Stays bytes d (steps_of_parts setting bytes d ts)
    Stays-parts d no_trees = Stays-stay bytes d
    Stays-parts d (more_trees t ts) = Stays-then bytes d _ _ (Stays-tree d t) (Stays-parts d ts)

-- where a part that has one outcome ends
pub reached-one : (bytes : List ℕ) (d : Direction) (f : Matcher) (position q : ℕ) → Stays bytes d f → position ≤ length bytes →
    ((s : MatchState) → s.position ≡ position → f s ≡ put s (Some q)) → (q ≤ length bytes) × IsOnward d position q
reached-one bytes d f position q stays within goes =
    let s : MatchState = record { position = position; captures = [] } in
    let all = subst (All (IsReached bytes d s)) (goes s refl) (stays.reached s within) in
    let here = All-head (IsReached bytes d s) (record s { position = q }) [] all in
    (here.inside, here.onward)
