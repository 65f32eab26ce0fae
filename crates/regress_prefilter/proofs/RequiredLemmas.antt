-- The bytes and literals that trees require, from those that their parts require.
use Rattle.std.proofs.Common.{◌≡◌, ◌⊎◌, inl, inr, ℕ, zero, suc, ◌+◌, ◌≤◌, ◌<◌, ◌==◌, Bool, true, false, not, ◌&&◌, ◌||◌, List, [], ◌∷◌, ◌++◌, flat_map, map, length, drop, get_or, slice_index, All, refl, sym, ap, subst, ◌∙◌, arith, nat_eq, if◌then◌else◌, Option, Some, None, String, Box, Global, Vec}
use Rattle.std.specs.Borrow.{Bor}
use Rattle.std.specs.Prelude.{nat_lt, IfSome, IsTrue}
use Rattle.std.specs.List.{starts_with, list_any}
use Rattle.std.specs.declared.ops.Range.{Range}
use Rattle.std.proofs.lemmas.Bool.Decides.{Decides-eqb}
use Rattle.std.proofs.lemmas.Bool.{eqb-true, and_parts}
use Rattle.std.proofs.lemmas.List.{length-drop, drop_more}
use Rattle.std.proofs.lemmas.List.Elements.{All-head, All-tail}
use Rattle.std.proofs.lemmas.Slice.Eq.{starts_is}
use Rattle.regress_base.specs.ByteSets.{bytes_of}
use Rattle.regress_base.specs.declared.types.Quantifier.{Quantifier}
use Rattle.regress_tree.specs.Onward.{Advances, TakesAtLeast}
use Rattle.regress_tree.specs.Reading.{forwards}
use Rattle.regress_tree.specs.Repetition.{unset, iteration, iterations, up_to, extra_iterations, repeat_matcher}
use Rattle.regress_tree.specs.Steps.{MatchState, Matcher, ◌then_◌, ◌or_◌, these_bytes, capture, captured}
use Rattle.regress_tree.specs.Tree.{Leaf, empty, goal, char, byte_sequence, byte_set, char_set, match_any, match_any_except_line_terminator, anchor, word_boundary, bracket, back_ref, string_set, capture_group, loop, loop_one, lookaround, Tree, Trees, leaf, cat, alt, wrapped, no_trees, more_trees, tree, trees}
use Rattle.regress_tree.specs.declared.ir.node.Node.{Node}
use Rattle.regress_tree.specs.declared.ir.node.Node.TheVariants.{Cat, Alt, CaptureGroup, Loop, Loop1CharBody}
use Rattle.regress_tree.proofs.lemmas.Nodes.{tree-Cat, tree-Alt, tree-CaptureGroup, tree-Loop, tree-Loop1CharBody}
use Rattle.regress_tree.proofs.lemmas.Onward.{Advances-less, Advances-stay, Advances-then, Advances-or, Advances-hold_at, Advances-one_character, Advances-these_bytes, Advances-any_string, Advances-back_reference, Advances-capture, Advances-look, Advances-repeat}
use Rattle.regress_prefilter.specs.Required.{AbsentFrom, AreRequired, IsRequired, IsRequiredLiteral, Needs, NoneFrom, Requires}

-- ---- matchers

-- a property of offsets that later offsets have too
abbrev pub IsLasting : (absent : ℕ → Type 0) → Type 0
IsLasting absent = (j k : ℕ) → j ≤ k → absent j → absent k

abbrev pub AreLasting : (absent : List ℕ → ℕ → Type 0) → Type 0
AreLasting absent = (bytes : List ℕ) → IsLasting (absent bytes)

pub byte_lasts : (b : ℕ) → AreLasting (NoneFrom b)
byte_lasts b = λ bytes j k le none i from. none i (omega (arith, le, from))

pub literal_lasts : (literal : List ℕ) → AreLasting (AbsentFrom literal)
literal_lasts literal = λ bytes j k le none i from. none i (omega (arith, le, from))

module _ (absent : ℕ → Type 0) where
  pub needs_first : (f g : Matcher) → Needs absent f → Needs absent (f then_ g)
  needs_first f g needs = record { none = λ s none. ap (flat_map g) (needs.none s none) }

  none_after : (g : Matcher) (s : MatchState) (ts : List MatchState) → IsLasting absent → Needs absent g → absent s.position →
      All (λ t. s.position + 0 ≤ t.position) ts → flat_map g ts ≡ []
  none_after g s [] lasts needs none on = refl
  none_after g s (t ∷ ts) lasts needs none on =
      let le = All-head (λ t. s.position + 0 ≤ t.position) t ts on in
      let here : g t ≡ [] = needs.none t (lasts s.position t.position (omega (arith, le)) none) in
      ap (λ us. us ++ flat_map g ts) here ∙ none_after g s ts lasts needs none (All-tail (λ t. s.position + 0 ≤ t.position) t ts on)

  needs_second : (f g : Matcher) → IsLasting absent → Advances 0 f → Needs absent g → Needs absent (f then_ g)
  needs_second f g lasts on needs = record { none = λ s none. none_after g s (f s) lasts needs none (on.onward s) }

  pub needs_or : (f g : Matcher) → Needs absent f → Needs absent g → Needs absent (f or_ g)
  needs_or f g left right =
      record { none = λ s none. ap (λ ts. ts ++ g s) (left.none s none) ∙ right.none s none }

  pub needs_capture : (id : ℕ) (f : Matcher) → Needs absent f → Needs absent (capture id f)
  unfolding capture
  needs_capture id f needs = record { none = λ s none. ap (map (captured id s.position)) (needs.none s none) }

  needs_iterations : (n : ℕ) (f g : Matcher) → 0 < n → Needs absent f → Needs absent (iterations n f then_ g)
  needs_iterations zero f g some needs = absurd (omega (arith, some))
  needs_iterations (suc n) f g some needs = needs_first (iterations (suc n) f) g (needs_first f (iterations n f) needs)

  pub needs_repeat : (bound : ℕ) (q : Quantifier) (start end : ℕ) (f : Matcher) → 0 < q.min → Needs absent f →
      Needs absent (repeat_matcher bound q start end f)
  unfolding repeat_matcher
  needs_repeat bound q start end f some needs =
      let T = iteration start end f in
      needs_iterations q.min T (up_to q.greedy (extra_iterations bound q) T) some
      (record { none = λ s none. needs.none (unset start end s) none })

  -- a literal at an offset with the property, which it contradicts
  pub needs_bytes : (bytes written : List ℕ) → ((k : ℕ) → absent k → starts_with nat_eq (drop k bytes) written ≡ true → ⊥) →
      Needs absent (these_bytes forwards bytes written)
  unfolding these_bytes
  needs_bytes bytes written contradicts = record { none = λ s none. nowhere s none (starts_with nat_eq (drop s.position bytes) written) refl }
    where
      nowhere : (s : MatchState) → absent s.position → (x : Bool) → starts_with nat_eq (drop s.position bytes) written ≡ x →
          (if x then record s { position = s.position + length written } ∷ [] else []) ≡ []
      nowhere s none true there = absurd (contradicts s.position none there)
      nowhere s none false there = refl

module _ (b : ℕ) (bytes : List ℕ) where
  -- a list of bytes at an offset has none of its bytes past their last occurrences
  not_there : (k : ℕ) (written rest : List ℕ) → drop k bytes ≡ written ++ rest → list_any (λ x. x == b) written ≡ true → NoneFrom b bytes k → ⊥
  not_there k [] rest here is none = let bad : ⊥ = cc in bad
  not_there k (x ∷ written) rest here is none =
      let len = ap length here in
      let inside : k < length bytes = omega (arith, len, length-drop k bytes) in
      let cut = drop_more bytes k 0 inside in
      let first : slice_index bytes k ≡ x = ap (λ xs. get_or xs 0 0) (sym cut ∙ here) in
      let later : drop (k + 1) bytes ≡ written ++ rest = ap (drop 1) (sym cut ∙ here) in
      tested (x == b) refl is (λ same. none k (omega arith) inside (first ∙ same))
      (λ more. not_there (k + 1) written rest later more (λ j from. none j (omega (arith, from))))
    where
      tested : (c : Bool) → (x == b) ≡ c → (c || list_any (λ x. x == b) written) ≡ true → (x ≡ b → ⊥) →
          (list_any (λ x. x == b) written ≡ true → ⊥) → ⊥
      tested true same is differs fewer = differs (eqb-true x b same)
      tested false same is differs fewer = fewer is

  needs_a_byte : (written : List ℕ) → list_any (λ x. x == b) written ≡ true → Needs (NoneFrom b bytes) (these_bytes forwards bytes written)
  needs_a_byte written is =
      needs_bytes (NoneFrom b bytes) bytes written
      (λ k none there. not_there k written _ ((starts_is Decides-eqb (drop k bytes) written _ refl).0 there) is none)

-- ---- trees

leaf_takes_none : (l : Leaf) → TakesAtLeast 0 (leaf l)
leaf_takes_none empty = λ setting bytes. Advances-stay
leaf_takes_none goal = λ setting bytes. Advances-stay
leaf_takes_none (char c) = λ setting bytes. Advances-less 0 1 _ (omega arith) (Advances-one_character bytes _)
leaf_takes_none (byte_sequence written) = λ setting bytes. Advances-less 0 (length written) _ (omega arith) (Advances-these_bytes bytes written)
leaf_takes_none (byte_set members) = λ setting bytes. Advances-less 0 1 _ (omega arith) (Advances-one_character bytes _)
leaf_takes_none (char_set members) = λ setting bytes. Advances-less 0 1 _ (omega arith) (Advances-one_character bytes _)
leaf_takes_none match_any = λ setting bytes. Advances-less 0 1 _ (omega arith) (Advances-one_character bytes _)
leaf_takes_none match_any_except_line_terminator = λ setting bytes. Advances-less 0 1 _ (omega arith) (Advances-one_character bytes _)
leaf_takes_none (anchor kind multiline) = λ setting bytes. Advances-hold_at _
leaf_takes_none (word_boundary invert unicode_icase) = λ setting bytes. Advances-hold_at _
leaf_takes_none (bracket invert intervals) = λ setting bytes. Advances-less 0 1 _ (omega arith) (Advances-one_character bytes _)
leaf_takes_none (back_ref group icase) = λ setting bytes. Advances-back_reference bytes _ _
leaf_takes_none (string_set strings icase) = λ setting bytes. Advances-any_string bytes _ strings

mutual
  -- matching forwards never moves backwards
  pub takes_none : (t : Tree) → TakesAtLeast 0 t
  takes_none (leaf l) = leaf_takes_none l
  takes_none (cat parts) = list_takes_none parts
  takes_none (alt left right) = λ setting bytes. Advances-or 0 0 _ _ (takes_none left setting bytes) (takes_none right setting bytes)
  takes_none (wrapped (capture_group id name) body) = λ setting bytes. Advances-capture 0 id _ (takes_none body setting bytes)
  takes_none (wrapped (loop q start end) body) =
      λ setting bytes. Advances-less 0 _ _ (omega arith) (Advances-repeat 0 _ q start end _ (takes_none body setting bytes))
  takes_none (wrapped (loop_one q) body) =
      λ setting bytes. Advances-less 0 _ _ (omega arith) (Advances-repeat 0 _ q 0 0 _ (takes_none body setting bytes))
  takes_none (wrapped (lookaround negate backwards start end) body) = λ setting bytes. Advances-look negate _

  list_takes_none : (ts : Trees) → TakesAtLeast 0 (cat ts)
  list_takes_none no_trees = λ setting bytes. Advances-stay
  list_takes_none (more_trees t ts) = λ setting bytes. Advances-then 0 0 _ _ (takes_none t setting bytes) (list_takes_none ts setting bytes)

module _ (absent : List ℕ → ℕ → Type 0) where
  pub first_requires : (t : Tree) (ts : Trees) → Requires absent t → Requires absent (cat (more_trees t ts))
  first_requires t ts is = λ setting bytes. needs_first (absent bytes) _ _ (is setting bytes)

  pub rest_requires : (t : Tree) (ts : Trees) → AreLasting absent → Requires absent (cat ts) → Requires absent (cat (more_trees t ts))
  rest_requires t ts lasting is =
      λ setting bytes. needs_second (absent bytes) _ _ (lasting bytes) (takes_none t setting bytes) (is setting bytes)

  pub same_requires : (node other : Node) → node ≡ other → Requires absent (tree node) → Requires absent (tree other)
  same_requires node other same is = subst (λ (x : Node). Requires absent (tree x)) same is

  pub cat_requires : (node : Node) (parts : Vec Node Global) (items : List Node) → node ≡ Cat parts → items ≡ parts.items →
      Requires absent (cat (trees items)) → Requires absent (tree node)
  cat_requires node parts items is same requires = rw (is, tree-Cat, ← same) requires

  pub alt_requires : (node : Node) (left right : Box Node Global) → node ≡ Alt left right → Requires absent (tree left.value) →
      Requires absent (tree right.value) → Requires absent (tree node)
  alt_requires node left right is first rest =
      let both : Requires absent (alt (tree left.value) (tree right.value)) =
      λ setting bytes. needs_or (absent bytes) _ _ (first setting bytes) (rest setting bytes) in
      rw (is, tree-Alt) both

  pub group_requires : (node : Node) (id : ℕ) (contents : Box Node Global) (name : Option (String Global)) →
      node ≡ CaptureGroup id contents name → Requires absent (tree contents.value) → Requires absent (tree node)
  group_requires node id contents name is requires =
      rw (is, tree-CaptureGroup) (λ setting bytes. needs_capture (absent bytes) id _ (requires setting bytes))

  pub loop_requires : (node : Node) (loopee : Box Node Global) (q : Quantifier) (groups : Range ℕ) →
      node ≡ Loop groups loopee q → 0 < q.min → Requires absent (tree loopee.value) → Requires absent (tree node)
  loop_requires node loopee q groups is some requires =
      rw (is, tree-Loop) (λ setting bytes. needs_repeat (absent bytes) _ q _ _ _ some (requires setting bytes))

  pub loop_one_requires : (node : Node) (loopee : Box Node Global) (q : Quantifier) →
      node ≡ Loop1CharBody loopee q → 0 < q.min → Requires absent (tree loopee.value) → Requires absent (tree node)
  loop_one_requires node loopee q is some requires =
      rw (is, tree-Loop1CharBody) (λ setting bytes. needs_repeat (absent bytes) _ q _ _ _ some (requires setting bytes))

pub literal_required : (written : List ℕ) → IsRequiredLiteral written (leaf (byte_sequence written))
literal_required written = λ setting bytes. needs_bytes (AbsentFrom written bytes) bytes written (λ k none there. none k (omega arith) there)

pub bytes_required : (written : List ℕ) → AreRequired (bytes_of written) (leaf (byte_sequence written))
unfolding bytes_of
bytes_required written = λ b member setting bytes. needs_a_byte b bytes written (and_parts (nat_lt b 256) (list_any (λ x. x == b) written) member).1

-- a byte that is not lacking with the others of a set is in the set, and was not lacking before
pub not_lacking : (before after set : ℕ → Bool) (b : ℕ) → after b ≡ (before b || (nat_lt b 256 && not (set b))) → nat_lt b 256 ≡ true →
    after b ≡ false → (before b ≡ false) × (set b ≡ true)
not_lacking before after set b is small off = parts (before b) (nat_lt b 256) (set b) small (sym is ∙ off)
  where
    parts : (x y z : Bool) → y ≡ true → (x || (y && not z)) ≡ false → (x ≡ false) × (z ≡ true)
    parts true y z on off = let bad : ⊥ = cc in absurd bad
    parts false true true on off = (refl, refl)
    parts false true false on off = let bad : ⊥ = cc in absurd bad
    parts false false z on off = let bad : ⊥ = cc in absurd bad

pub of_complement : (set lacking : ℕ → Bool) (b : ℕ) → set b ≡ (nat_lt b 256 && not (lacking b)) → set b ≡ true →
    (nat_lt b 256 ≡ true) × (lacking b ≡ false)
of_complement set lacking b is member = parts (nat_lt b 256) (lacking b) (sym is ∙ member)
  where
    parts : (x y : Bool) → (x && not y) ≡ true → (x ≡ true) × (y ≡ false)
    parts true true on = let bad : ⊥ = cc in absurd bad
    parts true false on = (refl, refl)
    parts false y on = let bad : ⊥ = cc in absurd bad

-- one more part of a list
pub one_more : (b : ℕ) (had set now : Bool) (t : Tree) (ts : Trees) (Whole : Type 0) → now ≡ (had || set) → (set ≡ true → IsRequired b t) →
    ((had ≡ true) ⊎ IsRequired b (cat (more_trees t ts)) → Whole) → (now ≡ true) ⊎ IsRequired b (cat ts) → Whole
one_more b had set now t ts Whole is requires whole (inl member) = either had set (sym is ∙ member) requires whole
  where
    either : (had set : Bool) → (had || set) ≡ true → (set ≡ true → IsRequired b t) →
        ((had ≡ true) ⊎ IsRequired b (cat (more_trees t ts)) → Whole) → Whole
    either true set on requires whole = whole (inl refl)
    either false set on requires whole = whole (inr (first_requires (NoneFrom b) t ts (requires on)))
one_more b had set now t ts Whole is requires whole (inr rest) = whole (inr (rest_requires (NoneFrom b) t ts (byte_lasts b) rest))

pub member_required : (set : ℕ → Bool) (t : Tree) (found : Option ℕ) → AreRequired set t → IfSome found (λ b. IsTrue (set b)) →
    IfSome found (λ b. IsRequired b t)
member_required set t None are is = tt
member_required set t (Some b) are is = are b is

-- ---- literals that were found

abbrev pub IfRequired : Option (Bor (List ℕ)) → Tree → Type 0
IfRequired found t = IfSome found (λ literal. IsRequiredLiteral literal.now t)

-- what requires each literal of a part requires the one that was found
pub found_of_part : (found : Option (Bor (List ℕ))) (t whole : Tree) →
    ((literal : List ℕ) → IsRequiredLiteral literal t → IsRequiredLiteral literal whole) → IfRequired found t → IfRequired found whole
found_of_part None t whole on is = tt
found_of_part (Some literal) t whole on is = on literal.now is

pub found_of_two : (one two found : Option (Bor (List ℕ))) (t : Tree) → (found ≡ one) ⊎ (found ≡ two) → IfRequired one t → IfRequired two t →
    IfRequired found t
found_of_two one two found t (inl is) first second = subst (λ (o : Option (Bor (List ℕ))). IfRequired o t) (sym is) first
found_of_two one two found t (inr is) first second = subst (λ (o : Option (Bor (List ℕ))). IfRequired o t) (sym is) second
