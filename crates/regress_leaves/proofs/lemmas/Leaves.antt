-- What leaves match, in the form in which the code computes it.
use Rattle.std.proofs.Common.{◌≡◌, ℕ, suc, ◌+◌, ◌-◌, ◌≤◌, ◌<◌, Bool, true, false, ◌&&◌, List, [], ◌∷◌, ◌++◌, flat_map, length, drop, get_or, Option, Some, None, refl, sym, ap, ap₂, ◌∙◌, arith, append-nil, if◌then◌else◌, nat_eq, nat_le, le_refl}
use Rattle.std.specs.List.{starts_with}
use Rattle.std.proofs.lemmas.List.{drop_more, length-reverse}
use Rattle.regress_base.specs.declared.types.Quantifier.{Quantifier}
use Rattle.regress_tree.specs.Matching.{steps}
use Rattle.regress_tree.specs.Reading.{Direction, forwards, backwards, Reading, Read, next_character}
use Rattle.regress_tree.specs.References.{all_of, in_order, any_string}
use Rattle.regress_tree.specs.Repetition.{iterations, extra_iterations, repeat_matcher, up_to}
use Rattle.regress_tree.specs.Steps.{MatchState, Matcher, ◌then_◌, one_character, moved, these_bytes, hold_at, Setting}
use Rattle.regress_tree.specs.Tree.{empty, goal, char, byte_sequence, byte_set, char_set, match_any, match_any_except_line_terminator, anchor, word_boundary, bracket, back_ref, string_set, loop_one, Tree, leaf, cat, alt, wrapped}
use Rattle.regress_tree.proofs.lemmas.Groups.{iteration-none}
use Rattle.regress_tree.proofs.lemmas.Outcomes.{flat_map-stay}
use Rattle.regress_prefilter.specs.OneCharacter.{takes_one}
use Rattle.regress_leaves.specs.Leaves.{exactly, is_simple}

module _ (d : Direction) (r : Reading) where
  -- a test of one character: at the end of the input, a failed test, a passed test
  pub one_none : (test : ℕ → Bool) (s : MatchState) → next_character d r s.position ≡ None → one_character d r test s ≡ []
  unfolding one_character
  one_none test s none = ap (moved test s) none

  pub one_yes : (test : ℕ → Bool) (s : MatchState) (read : Read) → next_character d r s.position ≡ Some read → test read.character ≡ true →
      one_character d r test s ≡ record s { position = read.position } ∷ []
  unfolding one_character
  one_yes test s read some tested = ap (moved test s) some ∙ ap (λ (b : Bool). if b then record s { position = read.position } ∷ [] else []) tested

  pub one_no : (test : ℕ → Bool) (s : MatchState) (read : Read) → next_character d r s.position ≡ Some read → test read.character ≡ false →
      one_character d r test s ≡ []
  unfolding one_character
  one_no test s read some tested = ap (moved test s) some ∙ ap (λ (b : Bool). if b then record s { position = read.position } ∷ [] else []) tested

  module _ (same : ℕ → ℕ → Bool) where
    -- characters in order: at the end of the input, a mismatch, a match
    pub all_none : (c : ℕ) (cs : List ℕ) (s : MatchState) → next_character d r s.position ≡ None → all_of d r same (c ∷ cs) s ≡ []
    all_none c cs s none = ap (flat_map (all_of d r same cs)) (one_none (same c) s none)

    pub all_no : (c : ℕ) (cs : List ℕ) (s : MatchState) (read : Read) → next_character d r s.position ≡ Some read → same c read.character ≡ false →
        all_of d r same (c ∷ cs) s ≡ []
    all_no c cs s read some tested = ap (flat_map (all_of d r same cs)) (one_no (same c) s read some tested)

    pub all_yes : (c : ℕ) (cs : List ℕ) (s : MatchState) (read : Read) → next_character d r s.position ≡ Some read → same c read.character ≡ true →
        all_of d r same (c ∷ cs) s ≡ all_of d r same cs (record s { position = read.position })
    all_yes c cs s read some tested =
        ap (flat_map (all_of d r same cs)) (one_yes (same c) s read some tested) ∙ append-nil (all_of d r same cs (record s { position = read.position }))

-- bytes match exactly if the text has them at the position
pub bytes_forwards : (bytes written : List ℕ) (s : MatchState) (b : Bool) → starts_with nat_eq (drop s.position bytes) written ≡ b →
    these_bytes forwards bytes written s ≡ (if b then record s { position = s.position + length written } ∷ [] else [])
unfolding these_bytes
bytes_forwards bytes written s b is =
    ap (λ (x : Bool). if x then record s { position = s.position + length written } ∷ [] else []) is

pub bytes_backwards : (bytes written : List ℕ) (s : MatchState) (b : Bool) →
    (nat_le (length written) s.position && starts_with nat_eq (drop (s.position - length written) bytes) written) ≡ b →
    these_bytes backwards bytes written s ≡ (if b then record s { position = s.position - length written } ∷ [] else [])
unfolding these_bytes
bytes_backwards bytes written s b is =
    ap (λ (x : Bool). if x then record s { position = s.position - length written } ∷ [] else []) is

pub after_by : (bytes written : List ℕ) (s : MatchState) (k n : ℕ) (b : Bool) → s.position ≡ k → n ≡ length written →
    starts_with nat_eq (drop k bytes) written ≡ b → (if b then record s { position = k + n } ∷ [] else []) ≡ these_bytes forwards bytes written s
after_by bytes written s k n b at len occurs =
    sym (bytes_forwards bytes written s b (ap (λ i. starts_with nat_eq (drop i bytes) written) at ∙ occurs)
    ∙ ap₂ (λ i j. if b then record s { position = i + j } ∷ [] else []) at (sym len))

short_test : (n k : ℕ) (x : Bool) → k < n → (nat_le n k && x) ≡ false
short_test n k x lt = ap (λ (b : Bool). b && x) (fails n k lt)
  where
    fails : (n k : ℕ) → k < n → nat_le n k ≡ false
    fails n k lt = grind arith

long_test : (n k : ℕ) (x : Bool) → n ≤ k → (nat_le n k && x) ≡ x
long_test n k x le = ap (λ (b : Bool). b && x) (holds n k le)
  where
    holds : (n k : ℕ) → n ≤ k → nat_le n k ≡ true
    holds n k le = grind arith

pub before_short : (bytes written : List ℕ) (s : MatchState) (k n : ℕ) → s.position ≡ k → n ≡ length written → k < n →
    [] ≡ these_bytes backwards bytes written s
before_short bytes written s k n at len lt =
    sym (bytes_backwards bytes written s false (short_test (length written) s.position _ (omega (arith, at, len, lt))))

pub before_by : (bytes written : List ℕ) (s : MatchState) (k n : ℕ) (b : Bool) → s.position ≡ k → n ≡ length written → n ≤ k →
    starts_with nat_eq (drop (k - n) bytes) written ≡ b → (if b then record s { position = k - n } ∷ [] else []) ≡ these_bytes backwards bytes written s
before_by bytes written s k n b at len le occurs =
    sym (bytes_backwards bytes written s b
    (long_test (length written) s.position _ (omega (arith, at, len, le))
    ∙ ap₂ (λ i j. starts_with nat_eq (drop (i - j) bytes) written) at (sym len) ∙ occurs)
    ∙ ap₂ (λ i j. if b then record s { position = i - j } ∷ [] else []) at (sym len))

pub length-in_order : (d : Direction) (cs : List ℕ) → length (in_order d cs) ≡ length cs
length-in_order forwards cs = refl
length-in_order backwards cs = length-reverse cs

-- Matching the remaining characters, by the next character of the text.
module _ (d : Direction) (r : Reading) (same : ℕ → ℕ → Bool) (cs : List ℕ) (s : MatchState) (i here : ℕ) (within : i < length cs) where
  here_of : all_of d r same (drop i cs) (record s { position = here }) ≡ all_of d r same (get_or cs i 0 ∷ drop (i + 1) cs) (record s { position = here })
  here_of = ap (λ ds. all_of d r same ds (record s { position = here })) (drop_more cs i 0 within)

  pub order_none : next_character d r here ≡ None → all_of d r same (drop i cs) (record s { position = here }) ≡ all_of d r same cs s →
      all_of d r same cs s ≡ []
  order_none none so_far = sym so_far ∙ here_of ∙ all_none d r same (get_or cs i 0) (drop (i + 1) cs) (record s { position = here }) none

  pub order_no : (read : Read) → next_character d r here ≡ Some read → same (get_or cs i 0) read.character ≡ false →
      all_of d r same (drop i cs) (record s { position = here }) ≡ all_of d r same cs s → all_of d r same cs s ≡ []
  order_no read some tested so_far =
      sym so_far ∙ here_of ∙ all_no d r same (get_or cs i 0) (drop (i + 1) cs) (record s { position = here }) read some tested

  pub order_yes : (read : Read) → next_character d r here ≡ Some read → same (get_or cs i 0) read.character ≡ true →
      all_of d r same (drop i cs) (record s { position = here }) ≡ all_of d r same cs s →
      all_of d r same (drop (i + 1) cs) (record s { position = read.position }) ≡ all_of d r same cs s
  order_yes read some tested so_far =
      sym (all_yes d r same (get_or cs i 0) (drop (i + 1) cs) (record s { position = here }) read some tested) ∙ sym here_of ∙ so_far

pub none_of : {A : Type 0} (o : Option A) → ((x : A) → o ≡ Some x → ⊥) → o ≡ None
none_of None h = refl
none_of (Some x) h = absurd (h x refl)

pub holds_is : (test : ℕ → Bool) (s : MatchState) (b : Bool) → test s.position ≡ b → hold_at test s ≡ (if b then s ∷ [] else [])
unfolding hold_at
holds_is test s b is = ap (λ (x : Bool). if x then s ∷ [] else []) is

pub any-nil : (d : Direction) (r : Reading) (same : ℕ → ℕ → Bool) (s : MatchState) → any_string d r same [] s ≡ []
unfolding any_string
any-nil d r same s = refl

pub any-cons : (d : Direction) (r : Reading) (same : ℕ → ℕ → Bool) (string : List ℕ) (strings : List (List ℕ)) (s : MatchState) →
    any_string d r same (string ∷ strings) s ≡ all_of d r same (in_order d string) s ++ any_string d r same strings s
unfolding any_string
any-cons d r same string strings s = refl

-- ---- characters in a row

-- Exactly n iterations of a body without groups.
pub counted-steps : (setting : Setting) (bytes : List ℕ) (d : Direction) (q : Quantifier) (t : Tree) (s : MatchState) → q.max ≡ Some q.min →
    steps setting bytes d (wrapped (loop_one q) t) s ≡ iterations q.min (steps setting bytes d t) s
unfolding repeat_matcher
counted-steps setting bytes d q t s is =
    let none : extra_iterations (length bytes + 1) q ≡ 0 = rw is (omega arith) in
    ap (λ (f : Matcher). (iterations q.min f then_ up_to q.greedy (extra_iterations (length bytes + 1) q) f) s)
    (iteration-none 0 0 (le_refl 0) (steps setting bytes d t))
    ∙ ap (λ (k : ℕ). (iterations q.min (steps setting bytes d t) then_ up_to q.greedy k (steps setting bytes d t)) s) none
    ∙ flat_map-stay (iterations q.min (steps setting bytes d t) s)

pub exactly-steps : (setting : Setting) (bytes : List ℕ) (d : Direction) (n : ℕ) (t : Tree) (s : MatchState) →
    steps setting bytes d (exactly n t) s ≡ iterations n (steps setting bytes d t) s
exactly-steps setting bytes d n t s = counted-steps setting bytes d (record { min = n; max = Some n; greedy = true }) t s refl

-- The remaining iterations, by the outcome of the next one.
module _ (f : Matcher) (n i here : ℕ) (s : MatchState) (so_far : iterations (n - i) f (record s { position = here }) ≡ iterations n f s) where
  one_more : i < n → iterations (suc (n - (i + 1))) f (record s { position = here }) ≡ iterations n f s
  one_more within =
      let number : suc (n - (i + 1)) ≡ n - i = omega (arith, within) in
      ap (λ (k : ℕ). iterations k f (record s { position = here })) number ∙ so_far

  pub iterations_none : i < n → f (record s { position = here }) ≡ [] → iterations n f s ≡ []
  iterations_none within none = sym (one_more within) ∙ ap (flat_map (iterations (n - (i + 1)) f)) none

  pub iterations_some : i < n → (to : ℕ) → f (record s { position = here }) ≡ record s { position = to } ∷ [] →
      iterations (n - (i + 1)) f (record s { position = to }) ≡ iterations n f s
  iterations_some within to some =
      sym (append-nil (iterations (n - (i + 1)) f (record s { position = to })))
      ∙ sym (ap (flat_map (iterations (n - (i + 1)) f)) some) ∙ one_more within

  pub iterations_all : n ≤ i → iterations n f s ≡ record s { position = here } ∷ []
  iterations_all past =
      let number : n - i ≡ 0 = omega (arith, past) in
      sym so_far ∙ ap (λ (k : ℕ). iterations k f (record s { position = here })) number

pub simple_if_one : (t : Tree) → takes_one t ≡ true → is_simple t ≡ true
simple_if_one (leaf empty) is = refl
simple_if_one (leaf goal) is = refl
simple_if_one (leaf (char c)) is = refl
simple_if_one (leaf (byte_sequence bytes)) is = refl
simple_if_one (leaf (byte_set members)) is = refl
simple_if_one (leaf (char_set members)) is = refl
simple_if_one (leaf match_any) is = refl
simple_if_one (leaf match_any_except_line_terminator) is = refl
simple_if_one (leaf (anchor kind multiline)) is = refl
simple_if_one (leaf (word_boundary invert unicode_icase)) is = refl
simple_if_one (leaf (bracket invert intervals)) is = refl
simple_if_one (leaf (back_ref group icase)) is = cc
simple_if_one (leaf (string_set ss icase)) is = cc
simple_if_one (cat parts) is = cc
simple_if_one (alt left right) is = cc
simple_if_one (wrapped w body) is = cc
