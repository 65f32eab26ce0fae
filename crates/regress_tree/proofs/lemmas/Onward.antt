-- A lower bound for how far matching forwards advances, for each operation on matchers.
use Rattle.std.proofs.Common.{ℕ, zero, suc, ◌+◌, ◌*◌, ◌-◌, ◌≤◌, get_or, Bool, true, false, cond, List, [], ◌∷◌, length, flat_map, Option, Some, None, option_map, All, min, arith}
use Rattle.std.proofs.lemmas.List.Elements.{All-nil, All-cons, All-head, All-tail, All-append, All-filter, All-map, All-weaker}
use Rattle.std.proofs.lemmas.Str.{len_utf8_bounds}
use Rattle.std.specs.Char.{len_utf8}
use Rattle.regress_base.specs.declared.types.Quantifier.{Quantifier}
use Rattle.regress_tree.specs.Lookaround.{looked, lookaround_matcher}
use Rattle.regress_tree.specs.Onward.{Advances}
use Rattle.regress_tree.specs.Reading.{forwards, of_bytes, read_after, character_at}
use Rattle.regress_tree.specs.References.{all_of, characters_from, match_again, back_reference, in_order, any_string}
use Rattle.regress_tree.specs.Repetition.{iteration, iterations, moving, up_to, extra_iterations, repeat_matcher}
use Rattle.regress_tree.specs.Steps.{CaptureSpan, MatchState, Matcher, stay, fail, ◌then_◌, ◌or_◌, moved, one_character, these_bytes, hold_at, capture, captured}

abbrev IsOn : ℕ → MatchState → MatchState → Type 0
IsOn n s t = s.position + n ≤ t.position

module _ (n : ℕ) (s : MatchState) where
  one_on : (t : MatchState) → IsOn n s t → All (IsOn n s) (t ∷ [])
  one_on t on = All-cons (IsOn n s) t [] on (All-nil (IsOn n s))

  -- the state is an outcome or not
  cond_on : (b : Bool) (t : MatchState) → IsOn n s t → All (IsOn n s) (cond b (t ∷ []) [])
  cond_on true t on = one_on t on
  cond_on false t on = All-nil (IsOn n s)

pub Advances-less : (m n : ℕ) (f : Matcher) → m ≤ n → Advances n f → Advances m f
Advances-less m n f less on = record { onward = λ s. All-weaker (IsOn n s) (IsOn m s) (λ t h. omega arith) (f s) (on.onward s) }

pub Advances-stay : Advances 0 stay
Advances-stay = record { onward = λ s. one_on 0 s s (omega arith) }

pub Advances-fail : (n : ℕ) → Advances n fail
Advances-fail n = record { onward = λ s. All-nil (IsOn n s) }

pub Advances-hold_at : (test : ℕ → Bool) → Advances 0 (hold_at test)
unfolding hold_at
Advances-hold_at test = record { onward = λ s. cond_on 0 s (test s.position) s (omega arith) }

flat_map_on : (m n : ℕ) (g : Matcher) (s : MatchState) (ts : List MatchState) → Advances n g → All (IsOn m s) ts →
    All (IsOn (m + n) s) (flat_map g ts)
flat_map_on m n g s [] on all = All-nil (IsOn (m + n) s)
flat_map_on m n g s (t ∷ ts) on all =
    let here = All-head (IsOn m s) t ts all in
    All-append (IsOn (m + n) s) (g t) (flat_map g ts)
    (All-weaker (IsOn n t) (IsOn (m + n) s) (λ u h. omega (arith, here)) (g t) (on.onward t))
    (flat_map_on m n g s ts on (All-tail (IsOn m s) t ts all))

pub Advances-then : (m n : ℕ) (f g : Matcher) → Advances m f → Advances n g → Advances (m + n) (f then_ g)
Advances-then m n f g first second = record { onward = λ s. flat_map_on m n g s (f s) second (first.onward s) }

pub Advances-or : (m n : ℕ) (f g : Matcher) → Advances m f → Advances n g → Advances (min m n) (f or_ g)
Advances-or m n f g left right =
    let left' = Advances-less (min m n) m f (omega arith) left in
    let right' = Advances-less (min m n) n g (omega arith) right in
    record { onward = λ s. All-append (IsOn (min m n) s) (f s) (g s) (left'.onward s) (right'.onward s) }

-- ---- characters and bytes

moved_on : (test : ℕ → Bool) (s : MatchState) (c : Option ℕ) →
    All (IsOn 1 s) (moved test s (option_map (λ x. record { character = x; position = s.position + len_utf8 x }) c))
moved_on test s None = All-nil (IsOn 1 s)
moved_on test s (Some c) = cond_on 1 s (test c) (record s { position = s.position + len_utf8 c }) (omega (arith, (len_utf8_bounds c).0))

pub Advances-one_character : (bytes : List ℕ) (test : ℕ → Bool) → Advances 1 (one_character forwards (of_bytes bytes) test)
unfolding one_character read_after
Advances-one_character bytes test = record { onward = λ s. moved_on test s (character_at bytes s.position) }

pub Advances-these_bytes : (bytes written : List ℕ) → Advances (length written) (these_bytes forwards bytes written)
unfolding these_bytes
Advances-these_bytes bytes written = record {
  onward = λ s. cond_on (length written) s _ (record s { position = s.position + length written }) (omega arith);
}

module _ (bytes : List ℕ) (same : ℕ → ℕ → Bool) where
  -- Each character takes at least one position.
  pub Advances-all_of : (cs : List ℕ) → Advances (length cs) (all_of forwards (of_bytes bytes) same cs)
  Advances-all_of [] = Advances-stay
  Advances-all_of (c ∷ cs) =
      Advances-less _ (1 + length cs) _ (omega arith) (Advances-then 1 (length cs) _ _ (Advances-one_character bytes (same c)) (Advances-all_of cs))

  any_on : (cs : List ℕ) → Advances 0 (all_of forwards (of_bytes bytes) same cs)
  any_on cs = Advances-less 0 (length cs) _ (omega arith) (Advances-all_of cs)

  pub Advances-any_string : (strings : List (List ℕ)) → Advances 0 (any_string forwards (of_bytes bytes) same strings)
  unfolding any_string
  Advances-any_string [] = Advances-fail 0
  Advances-any_string (cs ∷ strings) = Advances-or 0 0 _ _ (any_on cs) (Advances-any_string strings)

  once_on : (span : Option CaptureSpan) (s : MatchState) → All (IsOn 0 s) (match_again forwards (of_bytes bytes) same span s)
  once_on None s = Advances-stay.onward s
  once_on (Some span) s = (any_on (in_order forwards (characters_from (of_bytes bytes) (span.1 - span.0) span.0 span.1))).onward s

  pub Advances-back_reference : (id : ℕ) → Advances 0 (back_reference forwards (of_bytes bytes) same id)
  unfolding back_reference
  Advances-back_reference id = record { onward = λ s. once_on (get_or s.captures id None) s }

-- ---- nodes with a body

pub Advances-capture : (n id : ℕ) (f : Matcher) → Advances n f → Advances n (capture id f)
unfolding capture
Advances-capture n id f on = record { onward = λ s. All-map (IsOn n s) (captured id s.position) (f s) (on.onward s) }

looked_on : (negate : Bool) (s : MatchState) (ts : List MatchState) → All (IsOn 0 s) (looked negate s ts)
looked_on false s [] = All-nil (IsOn 0 s)
looked_on false s (t ∷ later) = one_on 0 s (record t { position = s.position }) (omega arith)
looked_on true s [] = one_on 0 s s (omega arith)
looked_on true s (t ∷ later) = All-nil (IsOn 0 s)

pub Advances-look : (negate : Bool) (f : Matcher) → Advances 0 (lookaround_matcher negate f)
unfolding lookaround_matcher
Advances-look negate f = record { onward = λ s. looked_on negate s (f s) }

module _ (n : ℕ) (f : Matcher) (on : Advances n f) where
  Advances-iterations : (k : ℕ) → Advances (k * n) (iterations k f)
  Advances-iterations zero = Advances-less _ 0 stay (omega arith) Advances-stay
  Advances-iterations (suc k) = Advances-less _ (n + k * n) _ (omega arith) (Advances-then n (k * n) f (iterations k f) on (Advances-iterations k))

  Advances-moving : Advances 0 (moving f)
  Advances-moving =
      let some = Advances-less 0 n f (omega arith) on in
      record { onward = λ s. All-filter (λ t. _) (IsOn 0 s) (f s) (some.onward s) }

  Advances-up_to : (greedy : Bool) (k : ℕ) → Advances 0 (up_to greedy k f)
  Advances-up_to greedy zero = Advances-stay
  Advances-up_to true (suc k) = Advances-or 0 0 _ stay (Advances-then 0 0 _ _ Advances-moving (Advances-up_to true k)) Advances-stay
  Advances-up_to false (suc k) = Advances-or 0 0 stay _ Advances-stay (Advances-then 0 0 _ _ Advances-moving (Advances-up_to false k))

-- A loop advances at least by its minimum of iterations.
pub Advances-repeat : (n bound : ℕ) (q : Quantifier) (start end : ℕ) (f : Matcher) → Advances n f →
    Advances (q.min * n) (repeat_matcher bound q start end f)
unfolding repeat_matcher
Advances-repeat n bound q start end f on =
    let turned : Advances n (iteration start end f) = record { onward = λ s. on.onward _ } in
    Advances-less _ (q.min * n + 0) _ (omega arith)
    (Advances-then (q.min * n) 0 _ _ (Advances-iterations n _ turned q.min) (Advances-up_to n _ turned q.greedy (extra_iterations bound q)))
