-- A well-formed tree is tidy: each of its groups occurs once, and a loop unsets those inside it.
use Rattle.std.proofs.Common.{◌≡◌, ℕ, ◌+◌, ◌≤◌, ◌<◌, ◌⊎◌, inl, inr, Bool, true, false, not, ◌&&◌, ◌||◌, ◌==◌, nat_le, nat_lt, cond, List, [], ◌++◌, length, count_by, Option, refl, sym, ap, ap₂, ◌∙◌, arith}
use Rattle.std.proofs.lemmas.Bool.{and_from, cases_Bool, cases_lt, eq-eqb, eqb-true, leb-true, le-leb, lt-ltb, ltb-true}
use Rattle.std.proofs.lemmas.List.Sums.{sum_by-append, sum_by-cons}
use Rattle.regress_tree.specs.Tree.{Leaf, back_ref, Wrapper, capture_group, loop, loop_one, lookaround, Tree, Trees, leaf, cat, alt, wrapped, no_trees, more_trees}
use Rattle.regress_tree.specs.Tree as trees
use Rattle.regress_tree.specs.WellFormed.{Capture, captures, captures_of_trees, Position, one_character, inside, root, last_of, HasGroups, IsAllowed, PartsAllowed, IsWellFormed}
use Rattle.regress_program.specs.Contents.{Ids, no_ids, union, ids_in, content, content_of_parts}
use Rattle.regress_program.specs.Linear.{changes_some, changes_some_of, has_back_reference, has_capturing_lookaround, is_back_ref, is_capturing_node, is_never, some_compiled_of}
use Rattle.regress_program.proofs.lemmas.Tidy.{and_left, and_right, or_cases, or_left, or_right}

-- how often a group occurs
abbrev occurs : ℕ → List Capture → ℕ
occurs id cs = count_by (λ c. c.id == id) cs

occurs-both : (id : ℕ) (cs ds : List Capture) → occurs id (cs ++ ds) ≡ occurs id cs + occurs id ds
occurs-both id cs ds = sum_by-append (λ (c : Capture). cond {A = ℕ} (c.id == id) 1 0) cs ds

-- The tree has the groups start to end - 1, each once.
inside-has : (start end id : ℕ) (t : Tree) → HasGroups start end t → start ≤ id → id < end → occurs id (captures t) ≡ 1
inside-has start end id t has low high =
    has id ∙ ap (λ (b : Bool). cond {A = ℕ} b 1 0) (and_from (nat_le start id) (nat_lt id end) (le-leb start id low) (lt-ltb id end high))

has-inside : (start end id : ℕ) (t : Tree) → HasGroups start end t → 1 ≤ occurs id (captures t) → (start ≤ id) × (id < end)
has-inside start end id t has some = by (nat_le start id) (nat_lt id end) refl refl
  where
    zero_if : (x y : Bool) → nat_le start id ≡ x → nat_lt id end ≡ y → (x && y) ≡ false → occurs id (captures t) ≡ 0
    zero_if x y low high none =
        has id ∙ ap (λ (b : Bool). cond {A = ℕ} (b && nat_lt id end) 1 0) low ∙ ap (λ (b : Bool). cond {A = ℕ} (x && b) 1 0) high
        ∙ ap (λ (b : Bool). cond {A = ℕ} b 1 0) none

    by : (x y : Bool) → nat_le start id ≡ x → nat_lt id end ≡ y → (start ≤ id) × (id < end)
    by true true low high = (leb-true start id low, ltb-true id end high)
    by true false low high = absurd (omega (arith, some, zero_if true false low high refl))
    by false y low high = absurd (omega (arith, some, zero_if false y low high refl))

-- ---- the groups that a tree changes are those that occur in it

abbrev occurs_in : ℕ → Tree → ℕ
occurs_in id t = occurs id (captures t)

abbrev occurs_in_parts : ℕ → Trees → ℕ
occurs_in_parts id ts = occurs id (captures_of_trees ts)

group-once : (id k : ℕ) (name : Option (List ℕ)) (body : Tree) → occurs_in k (wrapped (capture_group id name) body) ≡ cond {A = ℕ} (id == k) 1 0 + occurs_in k body
group-once id k name body = sum_by-cons (λ (c : Capture). cond {A = ℕ} (c.id == k) 1 0) (record { id = id; name = name }) (captures body)

changes-leaf : (l : Leaf) (id : ℕ) → (content (leaf l)).changes id ≡ true → 1 ≤ occurs_in id (leaf l)
changes-leaf trees.empty id changed = cc
changes-leaf trees.goal id changed = cc
changes-leaf (trees.char c) id changed = cc
changes-leaf (trees.byte_sequence bytes) id changed = cc
changes-leaf (trees.byte_set bytes) id changed = cc
changes-leaf (trees.char_set characters) id changed = cc
changes-leaf trees.match_any id changed = cc
changes-leaf trees.match_any_except_line_terminator id changed = cc
changes-leaf (trees.anchor kind multiline) id changed = cc
changes-leaf (trees.word_boundary invert unicode_icase) id changed = cc
changes-leaf (trees.bracket invert intervals) id changed = cc
changes-leaf (back_ref group icase) id changed = cc
changes-leaf (trees.string_set strings icase) id changed = cc

mutual
  changes-tree : (n : ℕ) (t : Tree) (p : Position) → IsAllowed n t p → (id : ℕ) → (content t).changes id ≡ true → 1 ≤ occurs_in id t
  changes-tree n (leaf l) p is id changed = changes-leaf l id changed
  changes-tree n (cat parts) p is id changed = changes-parts n parts (last_of p) is.1 id changed
  changes-tree n (alt left right) p is id changed =
      let sum = occurs-both id (captures left) (captures right) in
      elim (or_cases ((content left).changes id) ((content right).changes id) changed) [
        | inl here ↦ omega (arith, sum, changes-tree n left inside is.1 id here)
        | inr here ↦ omega (arith, sum, changes-tree n right inside is.2 id here)
      ]
  changes-tree n (wrapped (capture_group own name) body) p is id changed =
      let sum = group-once own id name body in
      elim (or_cases ((content body).changes id) (id == own) changed) [
        | inl here ↦ omega (arith, sum, changes-tree n body inside is.2 id here)
        | inr here ↦
            (let one = ap (λ (b : Bool). cond {A = ℕ} b 1 0) (eq-eqb own id (sym (eqb-true id own here))) in omega (arith, sum, one))
      ]
  changes-tree n (wrapped (loop quantifier start end) body) p is id changed =
      elim (or_cases (ids_in start end id) ((content body).changes id) changed) [
        | inl here ↦
            (let low = leb-true start id (and_left (nat_le start id) (nat_lt id end) here) in
            let high = ltb-true id end (and_right (nat_le start id) (nat_lt id end) here) in
            omega (arith, inside-has start end id body is.1.1 low high))
        | inr here ↦ changes-tree n body inside is.2 id here
      ]
  changes-tree n (wrapped (loop_one quantifier) body) p is id changed =
      elim (or_cases (ids_in 0 0 id) ((content body).changes id) changed) [
        | inl here ↦ (let high = ltb-true id 0 (and_right (nat_le 0 id) (nat_lt id 0) here) in absurd (omega (arith, high)))
        | inr here ↦ changes-tree n body one_character is.2 id here
      ]
  changes-tree n (wrapped (lookaround negate backwards start end) body) p is id changed = changes-tree n body inside is.2 id changed

  changes-parts : (n : ℕ) (ts : Trees) (p : Position) → PartsAllowed n ts p → (id : ℕ) → (content_of_parts ts).changes id ≡ true → 1 ≤ occurs_in_parts id ts
  changes-parts n no_trees p is id changed = cc
  changes-parts n (more_trees t no_trees) p is id changed =
      let sum = occurs-both id (captures t) [] in
      elim (or_cases ((content t).changes id) false changed) [
        | inl here ↦ omega (arith, sum, changes-tree n t p is id here)
        | inr none ↦ cc
      ]
  changes-parts n (more_trees t (more_trees u us)) p is id changed =
      let sum = occurs-both id (captures t) (captures_of_trees (more_trees u us)) in
      elim (or_cases ((content t).changes id) ((content_of_parts (more_trees u us)).changes id) changed) [
        | inl here ↦ omega (arith, sum, changes-tree n t inside is.0 id here)
        | inr here ↦ omega (arith, sum, changes-parts n (more_trees u us) p is.1 id here)
      ]

one_of : (a b : ℕ) → 1 ≤ a + b → (1 ≤ a) ⊎ (1 ≤ b)
one_of a b some = elim (cases_lt 0 a) [
  | inl here ↦ inl (omega (arith, here))
  | inr none ↦ inr (omega (arith, none, some))
]

mutual
  -- and those that occur in it are changed
  changed-tree : (t : Tree) (id : ℕ) → 1 ≤ occurs_in id t → (content t).changes id ≡ true
  changed-tree (leaf l) id some = absurd (omega (arith, some))
  changed-tree (cat parts) id some = changed-parts parts id some
  changed-tree (alt left right) id some =
      let sum = occurs-both id (captures left) (captures right) in
      elim (one_of (occurs_in id left) (occurs_in id right) (omega (arith, sum, some))) [
        | inl here ↦ or_left ((content left).changes id) ((content right).changes id) (changed-tree left id here)
        | inr here ↦ or_right ((content left).changes id) ((content right).changes id) (changed-tree right id here)
      ]
  changed-tree (wrapped (capture_group own name) body) id some =
      let sum = group-once own id name body in
      elim (cases_Bool (own == id)) [
        | inl here ↦ or_right ((content body).changes id) (id == own) (eq-eqb id own (sym (eqb-true own id here)))
        | inr other ↦
            (let none = ap (λ (b : Bool). cond {A = ℕ} b 1 0) other in
            or_left ((content body).changes id) (id == own) (changed-tree body id (omega (arith, sum, some, none))))
      ]
  changed-tree (wrapped (loop quantifier start end) body) id some = or_right (ids_in start end id) ((content body).changes id) (changed-tree body id some)
  changed-tree (wrapped (loop_one quantifier) body) id some = or_right (ids_in 0 0 id) ((content body).changes id) (changed-tree body id some)
  changed-tree (wrapped (lookaround negate backwards start end) body) id some = changed-tree body id some

  changed-parts : (ts : Trees) (id : ℕ) → 1 ≤ occurs_in_parts id ts → (content_of_parts ts).changes id ≡ true
  changed-parts no_trees id some = absurd (omega (arith, some))
  changed-parts (more_trees t ts) id some =
      let sum = occurs-both id (captures t) (captures_of_trees ts) in
      elim (one_of (occurs_in id t) (occurs_in_parts id ts) (omega (arith, sum, some))) [
        | inl here ↦ or_left ((content t).changes id) ((content_of_parts ts).changes id) (changed-tree t id here)
        | inr here ↦ or_right ((content t).changes id) ((content_of_parts ts).changes id) (changed-parts ts id here)
      ]

-- ---- trees of which each group occurs once

-- None of these groups occurs.
abbrev AreFree : Ids → (ℕ → ℕ) → Type 0
AreFree set count = (id : ℕ) → set id ≡ true → count id ≡ 0

none_free : (count : ℕ → ℕ) → AreFree no_ids count
none_free count id is = cc

tidy-leaf : (l : Leaf) (set : Ids) → (content (leaf l)).tidy set
tidy-leaf trees.empty set = tt
tidy-leaf trees.goal set = tt
tidy-leaf (trees.char c) set = tt
tidy-leaf (trees.byte_sequence bytes) set = tt
tidy-leaf (trees.byte_set bytes) set = tt
tidy-leaf (trees.char_set characters) set = tt
tidy-leaf trees.match_any set = tt
tidy-leaf trees.match_any_except_line_terminator set = tt
tidy-leaf (trees.anchor kind multiline) set = tt
tidy-leaf (trees.word_boundary invert unicode_icase) set = tt
tidy-leaf (trees.bracket invert intervals) set = tt
tidy-leaf (back_ref group icase) set = tt
tidy-leaf (trees.string_set strings icase) set = tt

outside : (start end id : ℕ) (t : Tree) → HasGroups start end t → not (ids_in start end id) ≡ true → occurs_in id t ≡ 0
outside start end id t has out = elim (cases_lt 0 (occurs_in id t)) [
  | inl some ↦
      (let both = has-inside start end id t has (omega (arith, some)) in
      let within = and_from (nat_le start id) (nat_lt id end) (le-leb start id both.0) (lt-ltb id end both.1) in
      let none = ap not within in
      cc)
  | inr none ↦ omega (arith, none)
]

one_character-none : (n : ℕ) (t : Tree) → IsAllowed n t one_character → (id : ℕ) → occurs_in id t ≡ 0
one_character-none n (leaf l) is id = refl
one_character-none n (cat parts) is id = absurd is.0
one_character-none n (alt left right) is id = absurd is.0
one_character-none n (wrapped w body) is id = absurd is.0

mutual
  tidy-tree : (n : ℕ) (t : Tree) (p : Position) → IsAllowed n t p → ((id : ℕ) → occurs_in id t ≤ 1) → (set : Ids) → AreFree set (λ id. occurs_in id t) →
      (content t).tidy set
  tidy-tree n (leaf l) p is once set free = tidy-leaf l set
  tidy-tree n (cat parts) p is once set free = tidy-parts n parts (last_of p) is.1 once set free
  tidy-tree n (alt left right) p is once set free =
      let sum = λ (id : ℕ). occurs-both id (captures left) (captures right) in (
        tidy-tree n left inside is.1 (λ id. omega (arith, sum id, once id)) set (λ id one. omega (arith, sum id, free id one)),
        tidy-tree n right inside is.2 (λ id. omega (arith, sum id, once id)) set (λ id one. omega (arith, sum id, free id one)),
      )
  tidy-tree n (wrapped (capture_group own name) body) p is once set free =
      let sum = λ (id : ℕ). group-once own id name body in
      tidy-tree n body inside is.2 (λ id. omega (arith, sum id, once id)) set (λ id one. omega (arith, sum id, free id one))
  tidy-tree n (wrapped (loop quantifier start end) body) p is once set free = λ before among again fewer.
      tidy-tree n body inside is.2 once again (λ id one. outside start end id body is.1.1 (and_right (before id) (not (ids_in start end id)) (fewer id one)))
  tidy-tree n (wrapped (loop_one quantifier) body) p is once set free = λ before among again fewer.
      tidy-tree n body one_character is.2 once again (λ id one. one_character-none n body is.2 id)
  tidy-tree n (wrapped (lookaround negate backwards start end) body) p is once set free =
      let has = is.1 in (
        tidy-tree n body inside is.2 once no_ids (none_free (λ id. occurs_in id body)),
        record {
          start = start;
          end = end;
          within = λ id changed. has-inside start end id body has (changes-tree n body inside is.2 id changed);
          whole = λ id low high. changed-tree body id (omega (arith, inside-has start end id body has low high));
          free = λ id low high. elim (cases_Bool (set id)) [
            | inl one ↦ absurd (omega (arith, free id one, inside-has start end id body has low high))
            | inr out ↦ out
          ];
        },
      )

  tidy-parts : (n : ℕ) (ts : Trees) (p : Position) → PartsAllowed n ts p → ((id : ℕ) → occurs_in_parts id ts ≤ 1) → (set : Ids) →
      AreFree set (λ id. occurs_in_parts id ts) → (content_of_parts ts).tidy set
  tidy-parts n no_trees p is once set free = tt
  tidy-parts n (more_trees t no_trees) p is once set free =
      let sum = λ (id : ℕ). occurs-both id (captures t) [] in
      (tidy-tree n t p is (λ id. omega (arith, sum id, once id)) set (λ id one. omega (arith, sum id, free id one)), tt)
  tidy-parts n (more_trees t (more_trees u us)) p is once set free =
      let sum = λ (id : ℕ). occurs-both id (captures t) (captures_of_trees (more_trees u us)) in (
        tidy-tree n t inside is.0 (λ id. omega (arith, sum id, once id)) set (λ id one. omega (arith, sum id, free id one)),
        tidy-parts n (more_trees u us) p is.1 (λ id. omega (arith, sum id, once id)) (union set (content t).changes)
            (λ id one. elim (or_cases (set id) ((content t).changes id) one) [
              | inl before ↦ omega (arith, sum id, free id before)
              | inr here ↦ omega (arith, sum id, once id, changes-tree n t inside is.0 id here)
            ]),
      )

-- A well-formed tree is tidy from where every group is unset.
pub well_formed-tidy : (t : Tree) → IsWellFormed t → (content t).tidy no_ids
well_formed-tidy t is =
    tidy-tree (length (captures t)) t root is.occurs (λ id. at_most_one (nat_lt id (length (captures t))) (is.ids id)) no_ids
    (none_free (λ id. occurs_in id t))
  where
    at_most_one : {k : ℕ} (b : Bool) → k ≡ cond {A = ℕ} b 1 0 → k ≤ 1
    at_most_one true e = omega (arith, e)
    at_most_one false e = omega (arith, e)

-- ---- back references

refers-leaf : (l : Leaf) → (content (leaf l)).refers ≡ has_back_reference (leaf l)
refers-leaf trees.empty = refl
refers-leaf trees.goal = refl
refers-leaf (trees.char c) = refl
refers-leaf (trees.byte_sequence bytes) = refl
refers-leaf (trees.byte_set bytes) = refl
refers-leaf (trees.char_set characters) = refl
refers-leaf trees.match_any = refl
refers-leaf trees.match_any_except_line_terminator = refl
refers-leaf (trees.anchor kind multiline) = refl
refers-leaf (trees.word_boundary invert unicode_icase) = refl
refers-leaf (trees.bracket invert intervals) = refl
refers-leaf (back_ref group icase) = refl
refers-leaf (trees.string_set strings icase) = refl

mutual
  pub refers-tree : (t : Tree) → (content t).refers ≡ has_back_reference t
  refers-tree (leaf l) = refers-leaf l
  refers-tree (cat parts) = refers-parts parts
  refers-tree (alt left right) = ap₂ ◌||◌ (refers-tree left) (refers-tree right)
  refers-tree (wrapped (capture_group id name) body) = refers-tree body
  refers-tree (wrapped (loop quantifier start end) body) = ap (λ b. not (is_never quantifier) && b) (refers-tree body)
  refers-tree (wrapped (loop_one quantifier) body) = ap (λ b. not (is_never quantifier) && b) (refers-tree body)
  refers-tree (wrapped (lookaround negate backwards start end) body) = refers-tree body

  refers-parts : (ts : Trees) → (content_of_parts ts).refers ≡ some_compiled_of is_back_ref ts
  refers-parts no_trees = refl
  refers-parts (more_trees t ts) = ap₂ ◌||◌ (refers-tree t) (refers-parts ts)

-- ---- lookarounds that capture

captures-leaf : (l : Leaf) → (content (leaf l)).captures ≡ false
captures-leaf trees.empty = refl
captures-leaf trees.goal = refl
captures-leaf (trees.char c) = refl
captures-leaf (trees.byte_sequence bytes) = refl
captures-leaf (trees.byte_set bytes) = refl
captures-leaf (trees.char_set characters) = refl
captures-leaf trees.match_any = refl
captures-leaf trees.match_any_except_line_terminator = refl
captures-leaf (trees.anchor kind multiline) = refl
captures-leaf (trees.word_boundary invert unicode_icase) = refl
captures-leaf (trees.bracket invert intervals) = refl
captures-leaf (back_ref group icase) = refl
captures-leaf (trees.string_set strings icase) = refl

looks-leaf : (l : Leaf) → (content (leaf l)).looks ≡ false
looks-leaf trees.empty = refl
looks-leaf trees.goal = refl
looks-leaf (trees.char c) = refl
looks-leaf (trees.byte_sequence bytes) = refl
looks-leaf (trees.byte_set bytes) = refl
looks-leaf (trees.char_set characters) = refl
looks-leaf trees.match_any = refl
looks-leaf trees.match_any_except_line_terminator = refl
looks-leaf (trees.anchor kind multiline) = refl
looks-leaf (trees.word_boundary invert unicode_icase) = refl
looks-leaf (trees.bracket invert intervals) = refl
looks-leaf (back_ref group icase) = refl
looks-leaf (trees.string_set strings icase) = refl

mutual
  captures-tree : (t : Tree) → (content t).captures ≡ changes_some t
  captures-tree (leaf l) = captures-leaf l
  captures-tree (cat parts) = captures-parts parts
  captures-tree (alt left right) = ap₂ ◌||◌ (captures-tree left) (captures-tree right)
  captures-tree (wrapped (capture_group id name) body) = refl
  captures-tree (wrapped (loop quantifier start end) body) = ap (λ b. not (is_never quantifier) && (nat_lt start end || b)) (captures-tree body)
  captures-tree (wrapped (loop_one quantifier) body) = ap (λ b. not (is_never quantifier) && b) (captures-tree body)
  captures-tree (wrapped (lookaround negate backwards start end) body) = refl

  captures-parts : (ts : Trees) → (content_of_parts ts).captures ≡ changes_some_of ts
  captures-parts no_trees = refl
  captures-parts (more_trees t ts) = ap₂ ◌||◌ (captures-tree t) (captures-parts ts)

mutual
  pub looks-tree : (t : Tree) → (content t).looks ≡ has_capturing_lookaround t
  looks-tree (leaf l) = looks-leaf l
  looks-tree (cat parts) = looks-parts parts
  looks-tree (alt left right) = ap₂ ◌||◌ (looks-tree left) (looks-tree right)
  looks-tree (wrapped (capture_group id name) body) = looks-tree body
  looks-tree (wrapped (loop quantifier start end) body) = ap (λ b. not (is_never quantifier) && b) (looks-tree body)
  looks-tree (wrapped (loop_one quantifier) body) = ap (λ b. not (is_never quantifier) && b) (looks-tree body)
  looks-tree (wrapped (lookaround negate backwards start end) body) =
      ap₂ (λ a b. (not negate && a) || b) (captures-tree body) (looks-tree body)

  looks-parts : (ts : Trees) → (content_of_parts ts).looks ≡ some_compiled_of is_capturing_node ts
  looks-parts no_trees = refl
  looks-parts (more_trees t ts) = ap₂ ◌||◌ (looks-tree t) (looks-parts ts)
