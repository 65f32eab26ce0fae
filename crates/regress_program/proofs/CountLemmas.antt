-- Characters in a row as instructions.
use Rattle.std.proofs.Common.{◌≡◌, ℕ, zero, suc, ◌+◌, ◌-◌, ◌≤◌, ◌<◌, ◌==◌, nat_le, Bool, true, false, not, List, [], ◌∷◌, ◌++◌, flat_map, filter, length, Option, Some, None, IfSome, option_map, option_and_then, refl, sym, ap, ap₂, subst, ◌∙◌, append-nil, append_assoc, le_refl, arith, if◌then◌else◌}
use Rattle.std.proofs.lemmas.Bool.{ne_eqb}
use Rattle.std.proofs.lemmas.Str.{len_utf8_bounds}
use Rattle.std.specs.Char.{len_utf8}
use Rattle.std.specs.Option.{option_or}
use Rattle.regress_base.specs.declared.types.Quantifier.{Quantifier}
use Rattle.regress_leaves.specs.Leaves.{exactly as exactly'}
use Rattle.regress_leaves.proofs.lemmas.Leaves.{exactly-steps}
use Rattle.regress_prefilter.specs.OneCharacter.{takes_one, test_of}
use Rattle.regress_prefilter.proofs.lemmas.OneCharacter.{takes_one-steps}
use Rattle.regress_tree.specs.Matching.{steps}
use Rattle.regress_tree.specs.Reading.{Direction, forwards, backwards, Read, next_character, of_bytes, character_at, read_after, read_before}
use Rattle.regress_tree.specs.Repetition.{iterations, extra_iterations, repeat_matcher, up_to}
use Rattle.regress_tree.specs.Steps.{MatchState, Matcher, ◌then_◌, ◌or_◌, moved, one_character, Setting}
use Rattle.regress_tree.specs.Tree.{loop_one, Tree, wrapped}
use Rattle.regress_tree.proofs.lemmas.Groups.{iteration-none}
use Rattle.regress_tree.proofs.lemmas.Outcomes.{flat_map-then, flat_map-stay}
use Rattle.regress_program.specs.Compiled.{Matching, matching, exactly, optional, any_number, extra, Code, Compiled}
use Rattle.regress_program.specs.CodeOf.{iterating}
use Rattle.regress_program.specs.declared.loops.Iterations.{Iterations}
use Rattle.regress_program.specs.Program.{part}
use Rattle.regress_program.specs.Pushed.{Pushed, preferred}
use Rattle.regress_program.proofs.CompileLemmas.{compiled_same, compiled_nothing, compiled_part, compiled_then, compiled_or, compiled_later}
use Rattle.regress_program.proofs.PartLemmas.{part_if_one}

flat_map-same : (f g : Matcher) → ((s : MatchState) → f s ≡ g s) → (states : List MatchState) → flat_map f states ≡ flat_map g states
flat_map-same f g same [] = refl
flat_map-same f g same (s ∷ states) = ap₂ ◌++◌ (same s) (flat_map-same f g same states)

-- a sum, by the first number
abbrev plus : ℕ → ℕ → ℕ
plus zero b = b
plus (suc a) b = suc (plus a b)

plus-is : (a b : ℕ) → plus a b ≡ a + b
plus-is zero b = omega arith
plus-is (suc a) b = omega (arith, plus-is a b)

iterations-plus : (a b : ℕ) (f : Matcher) (s : MatchState) → iterations (plus a b) f s ≡ (iterations a f then_ iterations b f) s
iterations-plus zero b f s = sym (append-nil (iterations b f s))
iterations-plus (suc a) b f s =
    flat_map-same (iterations (plus a b) f) (iterations a f then_ iterations b f) (λ t. iterations-plus a b f t) (f s)
    ∙ flat_map-then (iterations a f) (iterations b f) (f s)

-- a number of iterations, and then more of them
pub iterations-add : (a b : ℕ) (f : Matcher) (s : MatchState) → iterations (a + b) f s ≡ (iterations a f then_ iterations b f) s
iterations-add a b f s = ap (λ (n : ℕ). iterations n f s) (sym (plus-is a b)) ∙ iterations-plus a b f s

pub iterations-one : (f : Matcher) (s : MatchState) → f s ≡ iterations 1 f s
iterations-one f s = sym (flat_map-stay (f s))

-- ---- at most a number of characters, in two parts

-- No outcome, or one at another position.
pub data Sole (s : MatchState) : List MatchState → Type 0 where
  none : Sole s []
  one : (t : MatchState) → (t.position == s.position) ≡ false → Sole s (t ∷ [])

module _ (F : Matcher) (sole : (s : MatchState) → Sole s (F s)) where
  moving-sole : (s : MatchState) (states : List MatchState) → Sole s states → filter (λ t. not (t.position == s.position)) states ≡ states
  moving-sole s states none = refl
  moving-sole s states (one t moves) = ap (λ (b : Bool). if not b then t ∷ [] else []) moves

  greedy-more : (n : ℕ) (s : MatchState) → up_to true (suc n) F s ≡ flat_map (up_to true n F) (F s) ++ s ∷ []
  greedy-more n s = ap (λ states. flat_map (up_to true n F) states ++ s ∷ []) (moving-sole s (F s) (sole s))

  lazy-more : (n : ℕ) (s : MatchState) → up_to false (suc n) F s ≡ s ∷ flat_map (up_to false n F) (F s)
  lazy-more n s = ap (λ states. s ∷ flat_map (up_to false n F) states) (moving-sole s (F s) (sole s))

  module _ (m : ℕ) where
    -- after the outcomes of one iteration, by what holds after each
    greedy-after : (k : ℕ) (s : MatchState) →
        ((t : MatchState) → up_to true (suc (plus k m)) F t ≡ flat_map (up_to true m F) (iterations (suc k) F t) ++ up_to true k F t) →
        (states : List MatchState) → Sole s states →
        flat_map (up_to true (suc (plus k m)) F) states ++ s ∷ []
        ≡ flat_map (up_to true m F) (flat_map (iterations (suc k) F) states) ++ (flat_map (up_to true k F) states ++ s ∷ [])
    greedy-after k s so_far states none = refl
    greedy-after k s so_far states (one t moves) =
        let A = flat_map (up_to true m F) (iterations (suc k) F t) in
        let B = up_to true k F t in
        ap (λ xs. xs ++ s ∷ []) (append-nil _ ∙ so_far t) ∙ append_assoc A B (s ∷ [])
        ∙ ap₂ (λ xs ys. flat_map (up_to true m F) xs ++ (ys ++ s ∷ [])) (sym (append-nil (iterations (suc k) F t))) (sym (append-nil B))

    greedy-split : (k : ℕ) (s : MatchState) → up_to true (suc (plus k m)) F s ≡ flat_map (up_to true m F) (iterations (suc k) F s) ++ up_to true k F s
    greedy-split zero s =
        greedy-more m s ∙ ap (λ states. flat_map (up_to true m F) states ++ s ∷ []) (iterations-one F s)
    greedy-split (suc k) s =
        greedy-more (plus (suc k) m) s ∙ greedy-after k s (greedy-split k) (F s) (sole s)
        ∙ ap (λ xs. flat_map (up_to true m F) (iterations (suc (suc k)) F s) ++ xs) (sym (greedy-more k s))

    lazy-after : (k : ℕ) (s : MatchState) →
        ((t : MatchState) → up_to false (suc (plus k m)) F t ≡ up_to false k F t ++ flat_map (up_to false m F) (iterations (suc k) F t)) →
        (states : List MatchState) → Sole s states →
        s ∷ flat_map (up_to false (suc (plus k m)) F) states
        ≡ (s ∷ flat_map (up_to false k F) states) ++ flat_map (up_to false m F) (flat_map (iterations (suc k) F) states)
    lazy-after k s so_far states none = refl
    lazy-after k s so_far states (one t moves) =
        ap (λ xs. s ∷ xs) (append-nil _ ∙ so_far t)
        ∙ ap₂ (λ xs ys. (s ∷ ys) ++ flat_map (up_to false m F) xs) (sym (append-nil (iterations (suc k) F t))) (sym (append-nil (up_to false k F t)))

    lazy-split : (k : ℕ) (s : MatchState) → up_to false (suc (plus k m)) F s ≡ up_to false k F s ++ flat_map (up_to false m F) (iterations (suc k) F s)
    lazy-split zero s =
        lazy-more m s ∙ ap (λ states. s ∷ flat_map (up_to false m F) states) (iterations-one F s)
    lazy-split (suc k) s =
        lazy-more (plus (suc k) m) s ∙ lazy-after k s (lazy-split k) (F s) (sole s)
        ∙ ap (λ xs. xs ++ flat_map (up_to false m F) (iterations (suc (suc k)) F s)) (sym (lazy-more k s))

    number : (k : ℕ) → suc (plus k m) ≡ k + 1 + m
    number k = omega (arith, plus-is k m)

    one_more : (k : ℕ) → suc k ≡ k + 1
    one_more k = omega arith

    pub split-greedy : (k : ℕ) (s : MatchState) → up_to true (k + 1 + m) F s ≡ flat_map (up_to true m F) (iterations (k + 1) F s) ++ up_to true k F s
    split-greedy k s =
        ap (λ (n : ℕ). up_to true n F s) (sym (number k)) ∙ greedy-split k s
        ∙ ap (λ (n : ℕ). flat_map (up_to true m F) (iterations n F s) ++ up_to true k F s) (one_more k)

    pub split-lazy : (k : ℕ) (s : MatchState) → up_to false (k + 1 + m) F s ≡ up_to false k F s ++ flat_map (up_to false m F) (iterations (k + 1) F s)
    split-lazy k s =
        ap (λ (n : ℕ). up_to false n F s) (sym (number k)) ∙ lazy-split k s
        ∙ ap (λ (n : ℕ). up_to false k F s ++ flat_map (up_to false m F) (iterations n F s)) (one_more k)

-- ---- one character

abbrev IsElsewhere : ℕ → Option Read → Type 0
IsElsewhere k o = IfSome o (λ r. (r.position == k) ≡ false)

after_moves : (k : ℕ) (o : Option ℕ) → IsElsewhere k (option_map (λ c. record { character = c; position = k + len_utf8 c }) o)
after_moves k None = tt
after_moves k (Some c) = ne_eqb (k + len_utf8 c) k (λ same. omega (arith, same, (len_utf8_bounds c).0))

le_of : (n k : ℕ) → nat_le n k ≡ true → n ≤ k
le_of n k is = grind arith

before_moves : (n k : ℕ) (b : Bool) (o : Option ℕ) → 0 < n → nat_le n k ≡ b →
    IsElsewhere k (if b then option_and_then (λ c. if len_utf8 c == n then Some (record { character = c; position = k - n }) else None) o else None)
before_moves n k false o some is = tt
before_moves n k true None some is = tt
before_moves n k true (Some c) some is = by (len_utf8 c == n)
  where
    by : (b : Bool) → IsElsewhere k (if b then Some (record { character = c; position = k - n }) else None)
    by true = ne_eqb (k - n) k (λ same. omega (arith, same, some, le_of n k is))
    by false = tt

or_moves : (k : ℕ) (o p : Option Read) → IsElsewhere k o → IsElsewhere k p → IsElsewhere k (option_or o p)
or_moves k None p is is' = is'
or_moves k (Some r) p is is' = is

next_moves : (bytes : List ℕ) (d : Direction) (k : ℕ) → IsElsewhere k (next_character d (of_bytes bytes) k)
unfolding read_after read_before
next_moves bytes forwards k = after_moves k (character_at bytes k)
next_moves bytes backwards k =
    let by = λ (n : ℕ) (some : 0 < n). before_moves n k (nat_le n k) (character_at bytes (k - n)) some refl in
    or_moves k _ _ (by 1 (omega arith)) (or_moves k _ _ (by 2 (omega arith)) (or_moves k _ _ (by 3 (omega arith)) (by 4 (omega arith))))

moved_sole : (test : ℕ → Bool) (s : MatchState) (o : Option Read) → IsElsewhere s.position o → Sole s (moved test s o)
moved_sole test s None is = none
moved_sole test s (Some read) is = by (test read.character)
  where
    by : (b : Bool) → Sole s (if b then record s { position = read.position } ∷ [] else [])
    by true = one (record s { position = read.position }) is
    by false = none

one_character-sole : (bytes : List ℕ) (d : Direction) (test : ℕ → Bool) (s : MatchState) → Sole s (one_character d (of_bytes bytes) test s)
unfolding one_character
one_character-sole bytes d test s = moved_sole test s (next_character d (of_bytes bytes) s.position) (next_moves bytes d s.position)

pub takes_one-sole : (setting : Setting) (bytes : List ℕ) (d : Direction) (t : Tree) → takes_one t ≡ true → (s : MatchState) → Sole s (steps setting bytes d t s)
takes_one-sole setting bytes d t takes s =
    subst (Sole s) (sym (takes_one-steps setting bytes d t s takes)) (one_character-sole bytes d (test_of t) s)

-- ---- as instructions

-- a loop over one character: its mandatory iterations, and the optional ones
loop-steps : (setting : Setting) (bytes : List ℕ) (d : Direction) (q : Quantifier) (t : Tree) (s : MatchState) →
    matching (wrapped (loop_one q) t) d setting bytes s ≡ (exactly q.min (matching t) d setting bytes then_ extra q (matching t) d setting bytes) s
unfolding repeat_matcher
loop-steps setting bytes d q t s =
    ap (λ (f : Matcher). (iterations q.min f then_ up_to q.greedy (extra_iterations (length bytes + 1) q) f) s)
    (iteration-none 0 0 (le_refl 0) (steps setting bytes d t))

-- without groups an iteration is the body
pub compiled_plain : (a b : Code) (i : Iterations) (f : Matching) (next at : ℕ) → i.end ≤ i.start → Compiled a b (any_number i.greedy (iterating i f)) next at →
    Compiled a b (any_number i.greedy f) next at
compiled_plain a b i f next at empty is =
    compiled_same a b (any_number i.greedy (iterating i f)) (any_number i.greedy f) next at
    (λ d setting bytes s inside.
    ap (λ (h : Matcher). up_to i.greedy (length bytes + 1) h s) (iteration-none i.start i.end empty (f d setting bytes)))
    is

module _ (leaf' : Tree) (takes : takes_one leaf' ≡ true) where
  -- at most m + k + 1 characters: k + 1 of them, and after them at most m, or else at most k
  pub compiled_split : (a b c e : Code) (greedy : Bool) (m k : ℕ) (next rest other first at : ℕ) → Compiled a b (optional greedy m (matching leaf')) next rest →
      Compiled a b (optional greedy k (matching leaf')) next other → Compiled b c (exactly (k + 1) (matching leaf')) rest first →
      Pushed c e (preferred greedy first other) at → Compiled a e (optional greedy (k + 1 + m) (matching leaf')) next at
  compiled_split a b c e true m k next rest other first at is is' more pushed =
      compiled_same a e (λ d setting bytes. (exactly (k + 1) (matching leaf') d setting bytes then_ optional true m (matching leaf') d setting bytes) or_ optional true k (matching leaf') d setting bytes)
      (optional true (k + 1 + m) (matching leaf')) next at
      (λ d setting bytes s inside. sym (split-greedy (matching leaf' d setting bytes) (takes_one-sole setting bytes d leaf' takes) m k s))
      (compiled_or a c e (λ d setting bytes. exactly (k + 1) (matching leaf') d setting bytes then_ optional true m (matching leaf') d setting bytes)
      (optional true k (matching leaf')) next first other at
      (compiled_then a b c (exactly (k + 1) (matching leaf')) (optional true m (matching leaf')) next rest first is more)
      (compiled_later a b c (optional true k (matching leaf')) next other more.grown is') pushed)
  compiled_split a b c e false m k next rest other first at is is' more pushed =
      compiled_same a e (λ d setting bytes. optional false k (matching leaf') d setting bytes or_ (exactly (k + 1) (matching leaf') d setting bytes then_ optional false m (matching leaf') d setting bytes))
      (optional false (k + 1 + m) (matching leaf')) next at
      (λ d setting bytes s inside. sym (split-lazy (matching leaf' d setting bytes) (takes_one-sole setting bytes d leaf' takes) m k s))
      (compiled_or a c e (optional false k (matching leaf')) (λ d setting bytes. exactly (k + 1) (matching leaf') d setting bytes then_ optional false m (matching leaf') d setting bytes)
      next other first at
      (compiled_later a b c (optional false k (matching leaf')) next other more.grown is')
      (compiled_then a b c (exactly (k + 1) (matching leaf')) (optional false m (matching leaf')) next rest first is more) pushed)

  -- one instruction
  pub compiled_characters : (a b : Code) (n next at : ℕ) → next < length a.ops → Pushed a b (part (exactly' n leaf') next) at →
      Compiled a b (exactly n (matching leaf')) next at
  compiled_characters a b n next at below pushed =
      compiled_same a b (matching (exactly' n leaf')) (exactly n (matching leaf')) next at
      (λ d setting bytes s inside. exactly-steps setting bytes d n leaf' s)
      (compiled_part a b (exactly' n leaf') next at (refl, takes) below pushed)

  pub compiled_character : (a b : Code) (n next at : ℕ) → n ≡ 1 → next < length a.ops → Pushed a b (part leaf' next) at →
      Compiled a b (exactly n (matching leaf')) next at
  compiled_character a b n next at is below pushed =
      subst (λ k. Compiled a b (exactly k (matching leaf')) next at) (sym is)
      (compiled_same a b (matching leaf') (exactly 1 (matching leaf')) next at (λ d setting bytes s inside. iterations-one (matching leaf' d setting bytes) s)
      (compiled_part a b leaf' next at (part_if_one leaf' takes) below pushed))

  pub compiled_none : (a : Code) (next : ℕ) → next < length a.ops → Compiled a a (exactly 0 (matching leaf')) next next
  compiled_none a next below = compiled_nothing a next below

  -- some more before
  pub compiled_more : (a b c : Code) (m n next rest at : ℕ) → Compiled a b (exactly m (matching leaf')) next rest →
      Compiled b c (exactly n (matching leaf')) rest at → Compiled a c (exactly (n + m) (matching leaf')) next at
  compiled_more a b c m n next rest at is more =
      compiled_same a c (λ d setting bytes. exactly n (matching leaf') d setting bytes then_ exactly m (matching leaf') d setting bytes)
      (exactly (n + m) (matching leaf')) next at (λ d setting bytes s inside. sym (iterations-add n m (matching leaf' d setting bytes) s))
      (compiled_then a b c (exactly n (matching leaf')) (exactly m (matching leaf')) next rest at is more)

  -- the loop: the mandatory characters, and the optional ones
  pub compiled_counted : (a b c : Code) (q : Quantifier) (next rest at : ℕ) → Compiled a b (extra q (matching leaf')) next rest →
      Compiled b c (exactly q.min (matching leaf')) rest at → Compiled a c (matching (wrapped (loop_one q) leaf')) next at
  compiled_counted a b c q next rest at is more =
      compiled_same a c (λ d setting bytes. exactly q.min (matching leaf') d setting bytes then_ extra q (matching leaf') d setting bytes)
      (matching (wrapped (loop_one q) leaf')) next at (λ d setting bytes s inside. sym (loop-steps setting bytes d q leaf' s))
      (compiled_then a b c (exactly q.min (matching leaf')) (extra q (matching leaf')) next rest at is more)
