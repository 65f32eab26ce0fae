-- Back references: the text of a range, character by character and at once.
use Rattle.std.proofs.Common.{◌≡◌, ◌≢◌, ℕ, zero, suc, ◌+◌, ◌-◌, ◌<◌, ◌≤◌, min, nat_le, nat_lt, ◌==◌, Bool, true, false, ◌&&◌, List, [], ◌∷◌, ◌++◌, length, take, drop, reverse, slice_get, get_or, flat_map, Option, Some, None, option_map, All, if◌then◌else◌, refl, sym, ap, ◌∙◌, arith, add-one, append-nil, length-take, length-drop, ⊎_elim}
use mathlib.Core.Path.{fun_ext}
use Rattle.std.specs.List.{starts_with}
use lib.Pointwise.{pointwise}
use Rattle.std.proofs.lemmas.Bool.{cases_lt, cond-true, cond-false, false≢true}
use Rattle.std.proofs.lemmas.Bool.Decides.{nat_tests}
use Rattle.std.proofs.lemmas.List.{reverse-append}
use Rattle.std.proofs.lemmas.List.Elements.{All-head, All-tail, All-weaker}
use Rattle.regress_base.specs.Table.{Table}
use Rattle.regress_base.specs.declared.types.Flags.{Flags}
use Rattle.regress_tree.specs.Reading.{Direction, Reading, forwards, backwards, of_characters, next_character}
use Rattle.regress_tree.specs.References.{characters_from, all_of, in_order, match_again, read_with, back_reference}
use Rattle.regress_tree.specs.Steps as Steps
use Rattle.regress_tree.specs.Steps.{CaptureSpan, IsStateOf, IsCaptureOf, IsSpanOf, one_character, moved, stay, ◌then_◌}
use Rattle.regress_tree.proofs.lemmas.Outcomes.{flat_map-stay, flat_map-then}
use Rattle.regress_tree.proofs.lemmas.Simulation.{IsReached}
use Rattle.regress_ecma.specs.Notation.{CaptureRange, MatchResult, failure, Continuation}
use Rattle.regress_ecma.specs.CharacterMatchers.{is_same, match_range, backreference_matcher}
use Rattle.regress_ecma.specs.Compared.{state_on}
use Rattle.regress_ecma.proofs.Bridge.{first_result, Agrees, flat_map-all, or_failure, reached_by_both, reached_itself}
use Rattle.regress_ecma.proofs.CharacterSets.{one_character-reached}
use Rattle.regress_ecma.proofs.Groups.{if_same}

-- ---- the character at a position

pub at_end : (text : List ℕ) (k : ℕ) → drop k text ≡ [] → slice_get text k ≡ None
at_end [] k e = refl
at_end (x ∷ xs) zero e = cc
at_end (x ∷ xs) (suc k) e = at_end xs k e

pub inside : (text : List ℕ) (k x : ℕ) (xs : List ℕ) → drop k text ≡ x ∷ xs → (slice_get text k ≡ Some x) × (drop (suc k) text ≡ xs)
inside [] zero x xs e = absurd (cc)
inside [] (suc k) x xs e = absurd (cc)
inside (y ∷ ys) zero x xs e = (cc, cc)
inside (y ∷ ys) (suc k) x xs e = inside ys k x xs e

-- ---- the text of a range

characters-range : (text : List ℕ) (n k : ℕ) (rest : List ℕ) → drop k text ≡ rest → k + n ≤ length text →
    characters_from (of_characters text) n k (k + n) ≡ take n rest
characters-range text zero k rest e within = refl
characters-range text (suc n) k [] e within = absurd (omega (arith, length-drop k text, ap length e))
characters-range text (suc n) k (x ∷ xs) e within =
    let below : nat_lt k (k + suc n) ≡ true = grind (arith, nat_tests) in
    let end : k + suc n ≡ (k + 1) + n = omega arith in
    let at = inside text k x xs e in
    cond-true _ _ _ below
    ∙ ap (λ (o : Option ℕ). read_with (λ j. characters_from (of_characters text) n j (k + suc n)) (option_map (λ c. record { character = c; position = k + 1 }) o)) at.0
    ∙ ap (λ (j : ℕ). x ∷ characters_from (of_characters text) n (k + 1) j) end
    ∙ ap (λ (cs : List ℕ). x ∷ cs) (characters-range text n (k + 1) xs (rw add-one at.1) (omega arith))

-- ---- forwards

one_more : (b p : Bool) (f : Steps.Matcher) (s next after : Steps.MatchState) → f next ≡ (if p then after ∷ [] else []) →
    flat_map f (if b then next ∷ [] else []) ≡ (if b && p then after ∷ [] else [])
one_more true p f s next after e = append-nil (f next) ∙ e
one_more false p f s next after e = refl

module _ (text : List ℕ) (same : ℕ → ℕ → Bool) where
  all_forwards : (cs rest : List ℕ) (s : Steps.MatchState) → drop s.position text ≡ rest →
      all_of forwards (of_characters text) same cs s
      ≡ (if starts_with same rest cs then record s { position = s.position + length cs } ∷ [] else [])
  unfolding one_character
  all_forwards [] rest s e = ap (λ p. record s { position = p } ∷ []) (omega arith)
  all_forwards (c ∷ cs) [] s e = rw (at_end text s.position e) refl
  all_forwards (c ∷ cs) (x ∷ xs) s e =
      let next : Steps.MatchState = record s { position = s.position + 1 } in
      let after : Steps.MatchState = record s { position = s.position + length (c ∷ cs) } in
      let at = inside text s.position x xs e in
      let far : next.position + length cs ≡ s.position + length (c ∷ cs) = omega arith in
      ap (λ (o : Option ℕ). flat_map (all_of forwards (of_characters text) same cs) (moved (same c) s (option_map (λ d. record { character = d; position = s.position + 1 }) o))) at.0
      ∙ one_more (same c x) (starts_with same xs cs) (all_of forwards (of_characters text) same cs) s next after
      (all_forwards cs xs next (rw add-one at.1) ∙ ap (λ p. if starts_with same xs cs then record s { position = p } ∷ [] else []) far)

  -- ---- backwards

  abbrev pub back : Reading
  back = of_characters text

  pub all_of-snoc : (cs : List ℕ) (c : ℕ) (s : Steps.MatchState) →
      all_of backwards back same (cs ++ c ∷ []) s ≡ flat_map (one_character backwards back (same c)) (all_of backwards back same cs s)
  all_of-snoc [] c s = flat_map-stay _ ∙ sym (append-nil _)
  all_of-snoc (x ∷ cs) c s =
      ap (λ (f : Steps.Matcher). flat_map f (one_character backwards back (same x) s)) (fun_ext (all_of-snoc cs c))
      ∙ flat_map-then (all_of backwards back same cs) (one_character backwards back (same c)) (one_character backwards back (same x) s)

  abbrev is_before : List ℕ → ℕ → Bool
  is_before cs k = nat_le (length cs) k && starts_with same (drop (k - length cs) text) cs

  abbrev string_before : List ℕ → Steps.MatchState → List Steps.MatchState
  string_before cs s = if is_before cs s.position then record s { position = s.position - length cs } ∷ [] else []

  flat_map-if : (b : Bool) (f : Steps.Matcher) (s : Steps.MatchState) → flat_map f (if b then s ∷ [] else []) ≡ (if b then f s else [])
  flat_map-if true f s = append-nil (f s)
  flat_map-if false f s = refl

  none_either_way : (b : Bool) (out : List Steps.MatchState) → out ≡ [] → (if b then out else []) ≡ []
  none_either_way true out e = e
  none_either_way false out e = refl

  one_if_both : (p q : Bool) (s : Steps.MatchState) → (if p then (if q then s ∷ [] else []) else []) ≡ (if q && p then s ∷ [] else [])
  one_if_both true true s = refl
  one_if_both true false s = refl
  one_if_both false true s = refl
  one_if_both false false s = refl

  before : (k : ℕ) → next_character backwards back (suc k) ≡ option_map (λ c. record { character = c; position = k }) (slice_get text k)
  before k =
      let back_one : suc k - 1 ≡ k = omega arith in
      cond-false (suc k == 0) _ _ (grind (arith, nat_tests))
      ∙ ap (λ m. option_map (λ c. record { character = c; position = m }) (slice_get text m)) back_one

  abbrev step_back : ℕ → Steps.MatchState → ℕ → List Steps.MatchState
  step_back c s k = moved (same c) s (next_character backwards back k)

  one_before : (c : ℕ) (cs rest : List ℕ) (s : Steps.MatchState) → length cs < s.position → drop (s.position - suc (length cs)) text ≡ rest →
      (if is_before cs s.position then step_back c (record s { position = s.position - length cs }) (s.position - length cs) else [])
      ≡ string_before (c ∷ cs) s
  one_before c cs [] s room e =
      let start : ℕ = s.position - suc (length cs) in
      let next : s.position - length cs ≡ suc start = omega arith in
      let less : nat_le (suc (length cs)) s.position ≡ true = grind (arith, nat_tests) in
      let rest : Steps.MatchState = record s { position = s.position - length cs } in
      let read : step_back c rest (s.position - length cs) ≡ [] =
      ap (step_back c rest) next
      ∙ ap (moved (same c) rest) (before start ∙ ap (option_map (λ d. record { character = d; position = start })) (at_end text start e)) in
      let none : string_before (c ∷ cs) s ≡ [] = rw (less, e) refl in
      none_either_way (is_before cs s.position) _ read ∙ sym none
  one_before c cs (x ∷ xs) s room e =
      let start : ℕ = s.position - suc (length cs) in
      let next : s.position - length cs ≡ suc start = omega arith in
      let less : nat_le (suc (length cs)) s.position ≡ true = grind (arith, nat_tests) in
      let fits : nat_le (length cs) s.position ≡ true = grind (arith, nat_tests) in
      let rest : Steps.MatchState = record s { position = s.position - length cs } in
      let target : Steps.MatchState = record s { position = start } in
      let read : step_back c rest (s.position - length cs) ≡ (if same c x then target ∷ [] else []) =
      ap (step_back c rest) next
      ∙ ap (moved (same c) rest) (before start ∙ ap (option_map (λ d. record { character = d; position = start })) ((inside text start x xs e).0)) in
      let others : is_before cs s.position ≡ starts_with same xs cs = rw (fits, next, (inside text start x xs e).1) refl in
      let both : string_before (c ∷ cs) s ≡ (if same c x && starts_with same xs cs then target ∷ [] else []) = rw (less, e) refl in
      ap (λ b. if b then step_back c rest (s.position - length cs) else []) others
      ∙ ap (λ out. if starts_with same xs cs then out else []) read
      ∙ one_if_both (starts_with same xs cs) (same c x) target ∙ sym both

  none_before : (c : ℕ) (cs : List ℕ) (s : Steps.MatchState) → s.position ≤ length cs →
      (if is_before cs s.position then step_back c (record s { position = s.position - length cs }) (s.position - length cs) else [])
      ≡ string_before (c ∷ cs) s
  none_before c cs s short =
      let start : s.position - length cs ≡ 0 = omega arith in
      let more : nat_le (suc (length cs)) s.position ≡ false = grind (arith, nat_tests) in
      let none : string_before (c ∷ cs) s ≡ [] = rw more refl in
      none_either_way (is_before cs s.position) _ (ap (step_back c (record s { position = s.position - length cs })) start) ∙ sym none

  all_backwards : (cs : List ℕ) (s : Steps.MatchState) → all_of backwards back same (reverse cs) s ≡ string_before cs s
  unfolding one_character
  all_backwards [] s =
      let low : nat_le 0 s.position ≡ true = grind (arith, nat_tests) in
      let stays : s.position - 0 ≡ s.position = omega arith in
      rw (low, stays) refl
  all_backwards (c ∷ cs) s =
      ap (λ (string : List ℕ). all_of backwards back same string s) (reverse-append (c ∷ []) cs)
      ∙ all_of-snoc (reverse cs) c s
      ∙ ap (flat_map (one_character backwards back (same c))) (all_backwards cs s)
      ∙ flat_map-if (is_before cs s.position) (one_character backwards back (same c)) _
      ∙ ⊎_elim (λ room. one_before c cs (drop (s.position - suc (length cs)) text) s room refl) (none_before c cs s) (cases_lt (length cs) s.position)

-- ---- both directions

pointwise-length : (p : ℕ → ℕ → Bool) (xs ys : List ℕ) → pointwise p xs ys ≡ true → length xs ≡ length ys
pointwise-length p [] [] e = refl
pointwise-length p [] (y ∷ ys) e = absurd (false≢true e)
pointwise-length p (x ∷ xs) [] e = absurd (false≢true e)
pointwise-length p (x ∷ xs) (y ∷ ys) e = ap suc (pointwise-length p xs ys (second (p x y) e))
  where
    second : (b : Bool) → (b && pointwise p xs ys) ≡ true → pointwise p xs ys ≡ true
    second true h = h
    second false h = absurd (false≢true h)

module _ (table : Table) (rer : Flags) (text : List ℕ) (s : Steps.MatchState) (in' : IsStateOf text s) (c : Continuation) where
  -- from the index on the other side, or none
  abbrev from_index : CaptureRange → Option ℕ → MatchResult
  from_index r o =
      elim o [
        | None ↦ failure
        | Some f ↦
            (if starts_with (is_same table rer) (drop (min s.position f) text) (take (r.1 - r.0) (drop r.0 text))
            then c (state_on text (record s { position = f }))
            else failure)
      ]

  range_length : (r : CaptureRange) → IsSpanOf text r → length (take (r.1 - r.0) (drop r.0 text)) ≡ r.1 - r.0
  range_length r span = omega (arith, length-take (r.1 - r.0) (drop r.0 text), length-drop r.0 text, span.ordered, span.within)

  range_same : (d : Direction) (r : CaptureRange) → IsSpanOf text r →
      match_range table rer d r (state_on text s) c
      ≡ first_result text c (all_of d (of_characters text) (is_same table rer) (in_order d (take (r.1 - r.0) (drop r.0 text))) s)
  range_same forwards r span =
      let cs : List ℕ = take (r.1 - r.0) (drop r.0 text) in
      let len : ℕ = r.1 - r.0 in
      let long : length cs ≡ len = range_length r span in
      let right : first_result text c (all_of forwards (of_characters text) (is_same table rer) cs s)
      ≡ (if starts_with (is_same table rer) (drop s.position text) cs then c (state_on text (record s { position = s.position + len })) else failure) =
      ap (first_result text c) (all_forwards text (is_same table rer) cs (drop s.position text) s refl)
      ∙ sym (if_same text (starts_with (is_same table rer) (drop s.position text) cs) c (record s { position = s.position + length cs }))
      ∙ ap (λ (n : ℕ). if starts_with (is_same table rer) (drop s.position text) cs then c (state_on text (record s { position = s.position + n })) else failure) long in
      ⊎_elim
      (λ (past : length text < s.position + len).
      let outside : nat_le (s.position + len) (length text) ≡ false = grind (arith, nat_tests) in
      let short : length (take (length cs) (drop s.position text)) ≢ length cs =
      λ e. omega (arith, e, long, length-take (length cs) (drop s.position text), length-drop s.position text, in'.position) in
      ap (λ (b : Bool). from_index r (if b then Some (s.position + len) else None)) outside
      ∙ sym (right ∙ none_of (starts_with (is_same table rer) (drop s.position text) cs) _
      (λ e. short (sym (pointwise-length (is_same table rer) cs (take (length cs) (drop s.position text)) e)))))
      (λ (fits : s.position + len ≤ length text).
      let within : nat_le (s.position + len) (length text) ≡ true = grind (arith, nat_tests) in
      let here : min s.position (s.position + len) ≡ s.position = omega arith in
      ap (λ (b : Bool). from_index r (if b then Some (s.position + len) else None)) within
      ∙ ap (λ (k : ℕ). if starts_with (is_same table rer) (drop k text) cs then c (state_on text (record s { position = s.position + len })) else failure) here
      ∙ sym right)
      (cases_lt (length text) (s.position + len))
    where
      none_of : (b : Bool) (r : MatchResult) → (b ≡ true → ⊥) → (if b then r else failure) ≡ failure
      none_of true r h = absurd (h refl)
      none_of false r h = refl
  range_same backwards r span =
      let cs : List ℕ = take (r.1 - r.0) (drop r.0 text) in
      let len : ℕ = r.1 - r.0 in
      let long : length cs ≡ len = range_length r span in
      let right : first_result text c (all_of backwards (of_characters text) (is_same table rer) (reverse cs) s)
      ≡ (if nat_le len s.position && starts_with (is_same table rer) (drop (s.position - len) text) cs
      then c (state_on text (record s { position = s.position - len })) else failure) =
      ap (first_result text c) (all_backwards text (is_same table rer) cs s)
      ∙ sym (if_same text (is_before text (is_same table rer) cs s.position) c (record s { position = s.position - length cs }))
      ∙ ap (λ (n : ℕ). if nat_le n s.position && starts_with (is_same table rer) (drop (s.position - n) text) cs then c (state_on text (record s { position = s.position - n })) else failure) long in
      let here : min s.position (s.position - len) ≡ s.position - len = omega arith in
      by_test (nat_le len s.position) (λ (j k : ℕ). if starts_with (is_same table rer) (drop j text) cs then c (state_on text (record s { position = k })) else failure) here
      ∙ and_if (nat_le len s.position) _ _ ∙ sym right
    where
      by_test : (b : Bool) (f : ℕ → ℕ → MatchResult) → min s.position (s.position - (r.1 - r.0)) ≡ s.position - (r.1 - r.0) →
          elim (if b then Some (s.position - (r.1 - r.0)) else None) as (λ (o : Option ℕ). MatchResult) [ None ↦ failure | Some k ↦ f (min s.position k) k ]
          ≡ (if b then f (s.position - (r.1 - r.0)) (s.position - (r.1 - r.0)) else failure)
      by_test true f e = ap (λ (j : ℕ). f j (s.position - (r.1 - r.0))) e
      by_test false f e = refl

      and_if : (a b : Bool) (q : MatchResult) → (if a then (if b then q else failure) else failure) ≡ (if a && b then q else failure)
      and_if true b q = refl
      and_if false b q = refl

-- The capture of a group, if there is one, is inside the text.
capture-within : (text : List ℕ) (id : ℕ) (captures : List (Option CaptureSpan)) → All (IsCaptureOf text) captures → IsCaptureOf text (get_or captures id None)
capture-within text id [] all = tt
capture-within text zero (c ∷ captures) all = All-head (IsCaptureOf text) c captures all
capture-within text (suc id) (c ∷ captures) all = capture-within text id captures (All-tail (IsCaptureOf text) c captures all)

-- What it reaches is inside the text.
module _ (text : List ℕ) (d : Direction) (same : ℕ → ℕ → Bool) where
  all_of-reached : (cs : List ℕ) (s : Steps.MatchState) → IsStateOf text s → All (IsReached text d s) (all_of d (of_characters text) same cs s)
  all_of-reached [] s in' = reached_itself text d s in'
  all_of-reached (c ∷ cs) s in' =
      flat_map-all (IsReached text d s) (IsReached text d s) (all_of d (of_characters text) same cs)
      (λ t first.
      All-weaker (IsReached text d t) (IsReached text d s) (λ u. reached_by_both text d s t u first) (all_of d (of_characters text) same cs t)
      (all_of-reached cs t first.state))
      (one_character d (of_characters text) (same c) s) (one_character-reached text d (same c) s in')

  again-reached : (captured : Option CaptureSpan) (s : Steps.MatchState) → IsStateOf text s →
      All (IsReached text d s) (match_again d (of_characters text) same captured s)
  again-reached None s in' = reached_itself text d s in'
  again-reached (Some span) s in' = all_of-reached (in_order d (characters_from (of_characters text) (span.1 - span.0) span.0 span.1)) s in'

module _ (table : Table) (rer : Flags) (text : List ℕ) where
  -- what a capture, if the group has one, matches again
  again : (d : Direction) (s : Steps.MatchState) → IsStateOf text s → (c : Continuation) (captured : Option CaptureSpan) → IsCaptureOf text captured →
      elim (elim captured as (λ o. Option CaptureRange) [ Some r ↦ Some r | None ↦ None ]) as (λ o. MatchResult) [
        | None ↦ c (state_on text s)
        | Some r ↦ match_range table rer d r (state_on text s) c
      ]
      ≡ first_result text c (match_again d (of_characters text) (is_same table rer) captured s)
  again d s in' c None h = sym (or_failure (c (state_on text s)))
  again d s in' c (Some r) h =
      let end : r.0 + (r.1 - r.0) ≡ r.1 = omega (arith, h.ordered) in
      let characters : characters_from (of_characters text) (r.1 - r.0) r.0 r.1 ≡ take (r.1 - r.0) (drop r.0 text) =
      ap (characters_from (of_characters text) (r.1 - r.0) r.0) (sym end)
      ∙ characters-range text (r.1 - r.0) r.0 (drop r.0 text) refl (omega (arith, h.ordered, h.within)) in
      range_same table rer text s in' c d r h
      ∙ ap (λ (cs : List ℕ). first_result text c (all_of d (of_characters text) (is_same table rer) (in_order d cs) s)) (sym characters)

  pub Agrees-back_reference : (same : ℕ → ℕ → Bool) → ((a b : ℕ) → is_same table rer a b ≡ same a b) → (d : Direction) (n : ℕ) →
      Agrees text d (back_reference d (of_characters text) same (n - 1)) (backreference_matcher table rer (n ∷ []) d)
  unfolding back_reference backreference_matcher
  Agrees-back_reference same equal d n =
      let compared : ◌≡◌ {A = ℕ → ℕ → Bool} (is_same table rer) same = fun_ext (λ a. fun_ext (λ b. equal a b)) in
      record {
        same = λ s in' c.
            again d s in' c (get_or s.captures (n - 1) None) (capture-within text (n - 1) s.captures in'.captures)
            ∙ ap (λ (p : ℕ → ℕ → Bool). first_result text c (match_again d (of_characters text) p (get_or s.captures (n - 1) None) s)) compared;
        reached = λ s in'. again-reached text d same (get_or s.captures (n - 1) None) s in';
      }
