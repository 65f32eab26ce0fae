-- What literals match.
use Rattle.std.proofs.Common.{◌≡◌, ℕ, zero, suc, ◌+◌, ◌-◌, nat_le, option_map, ◌<◌, ◌≤◌, Bool, true, false, ◌&&◌, ◌==◌, nat_eq, List, [], ◌∷◌, flat_map, ⊎_elim, Option, None, Some, length, take, drop, slice_get, if◌then◌else◌, refl, sym, ap, append-nil, add-one, ◌∙◌, arith}
use lib.Pointwise.{pointwise}
use Rattle.std.specs.List.{starts_with}
use Rattle.std.proofs.lemmas.Bool.{cond-false, cases_lt}
use Rattle.std.proofs.lemmas.Bool.Decides.{nat_tests}
use Rattle.regress_tree.specs.Reading.{Direction, forwards, backwards, of_characters, next_character}
use Rattle.regress_tree.specs.Steps.{MatchState, Matcher, dedup, moved, one_character, Setting}
use Rattle.regress_syntax.specs.Syntax.{Name, no_terms, names}
use Rattle.regress_syntax.specs.Meaning.{is_literal, terms_steps, meaning}
use Rattle.regress_escape.specs.Literals.{literals_then, literals, this_string}

-- ---- the character at a position

at_end : (text : List ℕ) (k : ℕ) → drop k text ≡ [] → slice_get text k ≡ None
at_end [] k e = refl
at_end (x ∷ xs) zero e = cc
at_end (x ∷ xs) (suc k) e = at_end xs k e

inside : (text : List ℕ) (k x : ℕ) (xs : List ℕ) → drop k text ≡ x ∷ xs → (slice_get text k ≡ Some x) × (drop (suc k) text ≡ xs)
inside [] zero x xs e = absurd (cc)
inside [] (suc k) x xs e = absurd (cc)
inside (y ∷ ys) zero x xs e = (cc, cc)
inside (y ∷ ys) (suc k) x xs e = inside ys k x xs e

-- ---- comparisons

same_pointwise : (p q : ℕ → ℕ → Bool) → ((c x : ℕ) → p c x ≡ q c x) → (cs xs : List ℕ) → pointwise p cs xs ≡ pointwise q cs xs
same_pointwise p q same [] [] = refl
same_pointwise p q same [] (x ∷ xs) = refl
same_pointwise p q same (c ∷ cs) [] = refl
same_pointwise p q same (c ∷ cs) (x ∷ xs) = rw (same c x, same_pointwise p q same cs xs) refl

eqb_comm : (a b : ℕ) → (a == b) ≡ (b == a)
eqb_comm a b = grind (arith, nat_tests)

-- ---- matching forwards

one_more : (b p : Bool) (f : Matcher) (s next after : MatchState) → f s ≡ (if p then next ∷ [] else []) → next ≡ after →
    flat_map f (if b then s ∷ [] else []) ≡ (if b && p then after ∷ [] else [])
one_more true p f s next after e same = append-nil (f s) ∙ e ∙ ap (λ (t : MatchState). if p then t ∷ [] else []) same
one_more false p f s next after e same = refl

dedup_one : (b : Bool) (s : MatchState) → dedup (if b then s ∷ [] else []) ≡ (if b then s ∷ [] else [])
dedup_one true s = refl
dedup_one false s = refl

module _ (setting : Setting) (all : List (Option Name)) (text : List ℕ) where
  abbrev IsMatched : ℕ → List ℕ → List ℕ → MatchState → Type 0
  IsMatched n cs rest s =
      terms_steps setting all text forwards n (literals_then setting.flags cs no_terms) s
      ≡ (if starts_with (is_literal setting.table setting.flags) rest cs then record s { position = s.position + length cs } ∷ [] else [])

  matched : (n : ℕ) (cs rest : List ℕ) (s : MatchState) → drop s.position text ≡ rest → IsMatched n cs rest s
  unfolding one_character
  matched n [] rest s e = ap (λ p. record s { position = p } ∷ []) (omega arith)
  matched n (c ∷ cs) [] s e = rw (at_end text s.position e) refl
  matched n (c ∷ cs) (x ∷ xs) s e =
      let next = record s { position = s.position + 1 } in
      rw ((inside text s.position x xs e).0)
      (one_more (is_literal setting.table setting.flags c x) (starts_with (is_literal setting.table setting.flags) xs cs) _
      next (record s { position = next.position + length cs }) (record s { position = s.position + length (c ∷ cs) })
      (matched (n + 0) cs xs next (rw add-one ((inside text s.position x xs e).1)))
      (ap (λ p. record s { position = p }) (omega arith)))

-- ---- matching backwards

flat_map_if : (b : Bool) (f : Matcher) (s : MatchState) → flat_map f (if b then s ∷ [] else []) ≡ (if b then f s else [])
flat_map_if true f s = append-nil (f s)
flat_map_if false f s = refl

none_either_way : (b : Bool) (out : List MatchState) → out ≡ [] → (if b then out else []) ≡ []
none_either_way true out e = e
none_either_way false out e = refl

one_if_both : (p q : Bool) (s : MatchState) → (if p then (if q then s ∷ [] else []) else []) ≡ (if q && p then s ∷ [] else [])
one_if_both true true s = refl
one_if_both true false s = refl
one_if_both false true s = refl
one_if_both false false s = refl

before : (text : List ℕ) (k : ℕ) →
    next_character backwards (of_characters text) (suc k) ≡ option_map (λ c. record { character = c; position = k }) (slice_get text k)
before text k =
    let back : suc k - 1 ≡ k = omega arith in
    cond-false (suc k == 0) _ _ (grind (arith, nat_tests))
    ∙ ap (λ m. option_map (λ c. record { character = c; position = m }) (slice_get text m)) back

module _ (setting : Setting) (all : List (Option Name)) (text : List ℕ) where
  abbrev same : ℕ → ℕ → Bool
  same = is_literal setting.table setting.flags

  abbrev one_back : ℕ → Matcher
  one_back c = one_character backwards (of_characters text) (same c)

  abbrev after_rest : List ℕ → MatchState → Bool
  after_rest cs s = nat_le (length cs) s.position && starts_with same (drop (s.position - length cs) text) cs

  moved_back : ℕ → MatchState → ℕ → List MatchState
  moved_back c s k = moved (same c) s (next_character backwards (of_characters text) k)

  -- the first character, before the others
  one_before : (c : ℕ) (cs rest : List ℕ) (s : MatchState) → length cs < s.position → drop (s.position - suc (length cs)) text ≡ rest →
      (if after_rest cs s then one_back c (record s { position = s.position - length cs }) else []) ≡ this_string backwards same text (c ∷ cs) s
  unfolding one_character moved_back
  one_before c cs [] s room e =
      let start : ℕ = s.position - suc (length cs) in
      let next : s.position - length cs ≡ suc start = omega arith in
      let less : nat_le (suc (length cs)) s.position ≡ true = grind (arith, nat_tests) in
      let rest : MatchState = record s { position = s.position - length cs } in
      let read : moved_back c rest (s.position - length cs) ≡ [] =
      ap (moved_back c rest) next
      ∙ ap (moved (same c) rest) (before text start ∙ ap (option_map (λ d. record { character = d; position = start })) (at_end text start e)) in
      let none : this_string backwards same text (c ∷ cs) s ≡ [] = rw (less, e) refl in
      none_either_way (after_rest cs s) _ read ∙ sym none
  one_before c cs (x ∷ xs) s room e =
      let start : ℕ = s.position - suc (length cs) in
      let next : s.position - length cs ≡ suc start = omega arith in
      let less : nat_le (suc (length cs)) s.position ≡ true = grind (arith, nat_tests) in
      let fits : nat_le (length cs) s.position ≡ true = grind (arith, nat_tests) in
      let rest : MatchState = record s { position = s.position - length cs } in
      let target : MatchState = record s { position = start } in
      let read : moved_back c rest (s.position - length cs) ≡ (if same c x then target ∷ [] else []) =
      ap (moved_back c rest) next
      ∙ ap (moved (same c) rest) (before text start ∙ ap (option_map (λ d. record { character = d; position = start })) ((inside text start x xs e).0)) in
      let others : after_rest cs s ≡ starts_with same xs cs = rw (fits, next, (inside text start x xs e).1) refl in
      let both : this_string backwards same text (c ∷ cs) s ≡ (if same c x && starts_with same xs cs then target ∷ [] else []) = rw (less, e) refl in
      ap (λ b. if b then one_back c rest else []) others ∙ ap (λ out. if starts_with same xs cs then out else []) read
      ∙ one_if_both (starts_with same xs cs) (same c x) target ∙ sym both

  -- There is no room for the first character.
  none_before : (c : ℕ) (cs : List ℕ) (s : MatchState) → s.position ≤ length cs →
      (if after_rest cs s then one_back c (record s { position = s.position - length cs }) else []) ≡ this_string backwards same text (c ∷ cs) s
  unfolding one_character moved_back
  none_before c cs s short =
      let start : s.position - length cs ≡ 0 = omega arith in
      let more : nat_le (suc (length cs)) s.position ≡ false = grind (arith, nat_tests) in
      let none : this_string backwards same text (c ∷ cs) s ≡ [] = rw more refl in
      none_either_way (after_rest cs s) _ (ap (moved_back c (record s { position = s.position - length cs })) start) ∙ sym none

  matched_back : (n : ℕ) (cs : List ℕ) (s : MatchState) →
      terms_steps setting all text backwards n (literals_then setting.flags cs no_terms) s ≡ this_string backwards same text cs s
  matched_back n [] s =
      let low : nat_le 0 s.position ≡ true = grind (arith, nat_tests) in
      let stays : s.position - 0 ≡ s.position = omega arith in
      rw (low, stays) refl
  matched_back n (c ∷ cs) s =
      ap (flat_map (one_back c)) (matched_back (n + 0) cs s) ∙ flat_map_if (after_rest cs s) (one_back c) _
      ∙ ⊎_elim (λ room. one_before c cs (drop (s.position - suc (length cs)) text) s room refl) (none_before c cs s) (cases_lt (length cs) s.position)

-- ---- both directions

string_by : (d : Direction) (p q : ℕ → ℕ → Bool) → ((c x : ℕ) → p c x ≡ q c x) → (text cs : List ℕ) (s : MatchState) →
    this_string d p text cs s ≡ this_string d q text cs s
string_by forwards p q same text cs s =
    ap (λ b. if b then record s { position = s.position + length cs } ∷ [] else [])
    (same_pointwise p q same cs (take (length cs) (drop s.position text)))
string_by backwards p q same text cs s =
    ap (λ b. if nat_le (length cs) s.position && b then record s { position = s.position - length cs } ∷ [] else [])
    (same_pointwise p q same cs (take (length cs) (drop (s.position - length cs) text)))

module _ (setting : Setting) where
  pub literals_match : (d : Direction) (cs text : List ℕ) (s : MatchState) →
      meaning setting text d (literals setting.flags cs) s ≡ this_string d (is_literal setting.table setting.flags) text cs s
  literals_match forwards cs text s =
      ap dedup (matched setting (names (literals setting.flags cs)) text 0 cs (drop s.position text) s refl) ∙ dedup_one _ _
  literals_match backwards cs text s = ap dedup (matched_back setting (names (literals setting.flags cs)) text 0 cs s) ∙ dedup_one _ _

  -- without the flag i
  pub literals_match_exactly : (d : Direction) (cs text : List ℕ) (s : MatchState) → setting.flags.icase ≡ false →
      meaning setting text d (literals setting.flags cs) s ≡ this_string d nat_eq text cs s
  literals_match_exactly d cs text s e =
      literals_match d cs text s ∙ string_by d (is_literal setting.table setting.flags) nat_eq (λ c x. cond-false _ _ _ e ∙ eqb_comm x c) text cs s
