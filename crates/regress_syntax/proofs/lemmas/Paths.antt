-- It suffices to compare two paths from the outermost disjunction on: that decides whether any disjunction has two
-- groups in different alternatives. This rule rejects at least the patterns that the Rust crate rejects, which compares
-- only the numbers of the alternatives, from the outermost disjunction on.
use Rattle.std.proofs.Common.{◌≡◌, ℕ, ◌+◌, ◌<◌, ◌≤◌, Bool, true, false, not, ◌==◌, ◌&&◌, ◌||◌, List, [], ◌∷◌, ◌++◌, reverse, refl, sym, ap, ap₂, ◌∙◌, subst, arith, append_assoc}
use Rattle.std.proofs.lemmas.Bool.{true≢false, and_parts, and_from, and_left, and_right, or_from, or_left, or_right, not_from_true, not_from_false, false_from_ne_true}
use Rattle.std.proofs.lemmas.Bool.Decides.{nat_tests}
use Rattle.std.proofs.lemmas.List.{reverse-append}
use Rattle.std.proofs.lemmas.List.Folds.{list_any-append}
use Rattle.std.specs.List.{list_all, list_any}
use Rattle.regress_syntax.specs.GroupTokens.{GroupToken, opens, captures, closes, next, nests}
use Rattle.regress_syntax.specs.SameNames.{same_name}
use Rattle.regress_syntax.specs.Paths.{Level, Path, Position, at_the_start, enter, outside, next_alternative, CaptureAt, groups_by, are_alternatives, conflict, are_apart}

-- ---- any disjunction at all

-- different alternatives of the same disjunction
abbrev pub is_beside : Level → Level → Bool
is_beside level other = level.opening == other.opening && not (level.alternative == other.alternative)

-- some disjunction has the two positions in different alternatives
abbrev pub some_holds_both : Path → Path → Bool
some_holds_both path other = list_any (λ level. list_any (is_beside level) other) path

-- The reverse of a path, split at one of its disjunctions.
pub turned : (front outer : Path) (level : Level) → reverse (front ++ level ∷ outer) ≡ reverse outer ++ level ∷ reverse front
turned front outer level =
    reverse-append front (level ∷ outer) ∙ ap (λ p. p ++ reverse front) (reverse-append (level ∷ []) outer)
    ∙ append_assoc (reverse outer) (level ∷ []) (reverse front)

-- ---- numbers of parentheses

-- all numbers of parentheses in the path are less than n
abbrev pub Below : ℕ → Path → Type 0
Below n [] = Unit {0}
Below n (level ∷ path) = (level.opening < n) × Below n path

-- all numbers of parentheses in the path are at least n
abbrev pub From : ℕ → Path → Type 0
From n [] = Unit {0}
From n (level ∷ path) = (n ≤ level.opening) × From n path

-- the numbers of parentheses decrease outwards
abbrev Falls : ℕ → Path → Type 0
Falls n [] = Unit {0}
Falls n (level ∷ path) = (level.opening < n) × Falls level.opening path

pub below_more : (n m : ℕ) (path : Path) → n ≤ m → Below n path → Below m path
below_more n m [] l h = tt
below_more n m (level ∷ path) l h = (omega (arith, l, h.0), below_more n m path l h.1)

below_from_falls : (n : ℕ) (path : Path) → Falls n path → Below n path
below_from_falls n [] h = tt
below_from_falls n (level ∷ path) h = (h.0, below_more level.opening n path (omega (arith, h.0)) (below_from_falls level.opening path h.1))

pub lower_differs : (k m : ℕ) → k < m → (k == m) ≡ false
lower_differs k m l = grind (arith, nat_tests, l)

higher_differs : (k m : ℕ) → k < m → (m == k) ≡ false
higher_differs k m l = grind (arith, nat_tests, l)

pub same_number : (k m : ℕ) → k ≡ m → (k == m) ≡ true
same_number k m e = grind (arith, nat_tests, e)

-- A disjunction with a greater number is different from every one of the path.
none_beside : (level : Level) (path : Path) (n : ℕ) → n ≤ level.opening → Below n path → list_any (is_beside level) path ≡ false
none_beside level [] n l h = refl
none_beside level (other ∷ path) n l h =
    or_from _ _ (and_left _ _ (higher_differs other.opening level.opening (omega (arith, l, h.0)))) (none_beside level path n l h.1)

beside_none : (level : Level) (path : Path) (n : ℕ) → level.opening < n → From n path → list_any (is_beside level) path ≡ false
beside_none level [] n l h = refl
beside_none level (other ∷ path) n l h =
    or_from _ _ (and_left _ _ (lower_differs level.opening other.opening (omega (arith, l, h.0)))) (beside_none level path n l h.1)

-- Disjunctions in parentheses that are opened later can be dropped: none of the earlier ones is the same.
drop_later : (path more outer : Path) (n : ℕ) → Below n path → From n more →
    some_holds_both path (more ++ outer) ≡ some_holds_both path outer
drop_later [] more outer n h k = refl
drop_later (level ∷ path) more outer n h k =
    ap₂ (λ a b. a || b)
    (list_any-append (is_beside level) more outer ∙ ap (λ b. b || list_any (is_beside level) outer) (beside_none level more n h.0 k))
    (drop_later path more outer n h.1 k)

-- No disjunction has one position in two alternatives.
none_in_itself : (path : Path) (n : ℕ) → Falls n path → some_holds_both path path ≡ false
none_in_itself [] n h = refl
none_in_itself (level ∷ path) n h =
    let below = below_from_falls level.opening path h.1 in
    or_from _ _
    (or_from _ _ (and_right _ _ (not_from_true _ (same_number level.alternative level.alternative refl)))
    (none_beside level path level.opening (omega arith) below))
    (drop_later path (level ∷ []) path level.opening below (omega arith, tt) ∙ none_in_itself path level.opening h.1)

below_end : (inner outer : Path) (n : ℕ) → Below n (inner ++ outer) → Below n outer
below_end [] outer n h = h
below_end (level ∷ inner) outer n h = below_end inner outer n h.1

none_outside : (inner outer : Path) (n : ℕ) → Falls n (inner ++ outer) → some_holds_both (inner ++ outer) outer ≡ false
none_outside [] outer n h = none_in_itself outer n h
none_outside (level ∷ inner) outer n h =
    or_from _ _
    (none_beside level outer level.opening (omega arith)
    (below_end inner outer level.opening (below_from_falls level.opening (inner ++ outer) h.1)))
    (none_outside inner outer level.opening h.1)

-- ---- outermost first

pub below_append : (n : ℕ) (path other : Path) → Below n path → Below n other → Below n (path ++ other)
below_append n [] other h k = k
below_append n (level ∷ path) other h k = (h.0, below_append n path other h.1 k)

pub from_append : (n : ℕ) (path other : Path) → From n path → From n other → From n (path ++ other)
from_append n [] other h k = k
from_append n (level ∷ path) other h k = (h.0, from_append n path other h.1 k)

below_front : (inner outer : Path) (n : ℕ) → Below n (inner ++ outer) → Below n inner
below_front [] outer n h = tt
below_front (level ∷ inner) outer n h = (h.0, below_front inner outer n h.1)

pub below_reverse : (n : ℕ) (path : Path) → Below n path → Below n (reverse path)
below_reverse n [] h = tt
below_reverse n (level ∷ path) h =
    subst (Below n) (sym (reverse-append (level ∷ []) path)) (below_append n (reverse path) (level ∷ []) (below_reverse n path h.1) (h.0, tt))

pub from_reverse : (n : ℕ) (path : Path) → From n path → From n (reverse path)
from_reverse n [] h = tt
from_reverse n (level ∷ path) h =
    subst (From n) (sym (reverse-append (level ∷ []) path)) (from_append n (reverse path) (level ∷ []) (from_reverse n path h.1) (h.0, tt))

pub same_front : (front path other : Path) → are_alternatives (front ++ path) (front ++ other) ≡ are_alternatives path other
same_front [] path other = refl
same_front (level ∷ front) path other = let inside = same_front front path other in grind (arith, nat_tests)

pub no_alternatives : (path other : Path) (n : ℕ) → Below n path → From n other → are_alternatives path other ≡ false
no_alternatives [] other n h k = refl
no_alternatives (level ∷ path) [] n h k = refl
no_alternatives (level ∷ path) (beside ∷ other) n h k = and_left _ _ (lower_differs level.opening beside.opening (omega (arith, h.0, k.0)))

-- ---- from one position to the next

-- How a path relates to that of an earlier position, before which fewer than n parentheses were opened. Either they
-- have an outer part in common, and the other disjunctions of this one were opened later, or they separate at an
-- alternative.
data Occurs (old : Path) (n : ℕ) (now : Path) : Type 0 where
  shared : (inner outer more : Path) → old ≡ inner ++ outer → now ≡ more ++ outer → From n more → Occurs old n now
  parted : (inner outer more : Path) (before here : Level) → old ≡ inner ++ before ∷ outer → now ≡ more ++ here ∷ outer →
      before.opening ≡ here.opening → before.alternative < here.alternative → Occurs old n now

module _ (old : Path) (n : ℕ) where
  occurs_inside : (now : Path) (level : Level) → n ≤ level.opening → Occurs old n now → Occurs old n (level ∷ now)
  occurs_inside now level l (shared inner outer more e f later) = shared inner outer (level ∷ more) e (ap (λ p. level ∷ p) f) (l, later)
  occurs_inside now level l (parted inner outer more before here e f same less) =
      parted inner outer (level ∷ more) before here e (ap (λ p. level ∷ p) f) same less

  shared_outside : (inner outer more : Path) → old ≡ inner ++ outer → From n more → Occurs old n (outside (more ++ outer))
  shared_outside inner [] [] e later = shared inner [] [] e refl tt
  shared_outside inner (o ∷ []) [] e later = shared inner (o ∷ []) [] e refl tt
  shared_outside inner (o ∷ around ∷ outer) [] e later =
      shared (inner ++ o ∷ []) (around ∷ outer) [] (e ∙ sym (append_assoc inner (o ∷ []) (around ∷ outer))) refl tt
  shared_outside inner [] (m ∷ []) e later = shared inner [] (m ∷ []) e refl later
  shared_outside inner (o ∷ outer) (m ∷ []) e later = shared inner (o ∷ outer) [] e refl tt
  shared_outside inner outer (m ∷ around ∷ more) e later = shared inner outer (around ∷ more) e refl later.1

  parted_outside : (inner outer more : Path) (before here : Level) → old ≡ inner ++ before ∷ outer →
      before.opening ≡ here.opening → before.alternative < here.alternative → Occurs old n (outside (more ++ here ∷ outer))
  parted_outside inner [] [] before here e same less = parted inner [] [] before here e refl same less
  parted_outside inner (o ∷ outer) [] before here e same less =
      shared (inner ++ before ∷ []) (o ∷ outer) [] (e ∙ sym (append_assoc inner (before ∷ []) (o ∷ outer))) refl tt
  parted_outside inner outer (m ∷ []) before here e same less = parted inner outer [] before here e refl same less
  parted_outside inner outer (m ∷ around ∷ more) before here e same less =
      parted inner outer (around ∷ more) before here e refl same less

  occurs_outside : (now : Path) → Occurs old n now → Occurs old n (outside now)
  occurs_outside now (shared inner outer more e f later) = subst (λ p. Occurs old n (outside p)) (sym f) (shared_outside inner outer more e later)
  occurs_outside now (parted inner outer more before here e f same less) =
      subst (λ p. Occurs old n (outside p)) (sym f) (parted_outside inner outer more before here e same less)

  shared_next : (inner outer more : Path) → old ≡ inner ++ outer → From n more → Occurs old n (next_alternative (more ++ outer))
  shared_next inner [] [] e later = shared inner [] [] e refl tt
  shared_next inner (o ∷ outer) [] e later =
      parted inner outer [] o (record o { alternative = o.alternative + 1 }) e refl refl (omega arith)
  shared_next inner outer (m ∷ more) e later = shared inner outer (record m { alternative = m.alternative + 1 } ∷ more) e refl later

  parted_next : (inner outer more : Path) (before here : Level) → old ≡ inner ++ before ∷ outer →
      before.opening ≡ here.opening → before.alternative < here.alternative → Occurs old n (next_alternative (more ++ here ∷ outer))
  parted_next inner outer [] before here e same less =
      parted inner outer [] before (record here { alternative = here.alternative + 1 }) e refl same (omega (arith, less))
  parted_next inner outer (m ∷ more) before here e same less =
      parted inner outer (record m { alternative = m.alternative + 1 } ∷ more) before here e refl same less

  occurs_next : (now : Path) → Occurs old n now → Occurs old n (next_alternative now)
  occurs_next now (shared inner outer more e f later) =
      subst (λ p. Occurs old n (next_alternative p)) (sym f) (shared_next inner outer more e later)
  occurs_next now (parted inner outer more before here e f same less) =
      subst (λ p. Occurs old n (next_alternative p)) (sym f) (parted_next inner outer more before here e same less)

  -- ---- two positions

  module _ (k : ℕ) (falls : Falls k old) (below : Below n old) where
    shared_alike : (inner outer more : Path) → old ≡ inner ++ outer → From n more →
        are_alternatives (reverse old) (reverse (more ++ outer)) ≡ some_holds_both old (more ++ outer)
    shared_alike inner outer more e later =
        let here : Below n (inner ++ outer) = subst (Below n) e below in
        let sorted : Falls k (inner ++ outer) = subst (Falls k) e falls in
        subst (λ p. are_alternatives (reverse p) (reverse (more ++ outer)) ≡ some_holds_both p (more ++ outer)) (sym e)
        (ap₂ are_alternatives (reverse-append inner outer) (reverse-append more outer)
        ∙ same_front (reverse outer) (reverse inner) (reverse more)
        ∙ no_alternatives (reverse inner) (reverse more) n (below_reverse n inner (below_front inner outer n here)) (from_reverse n more later)
        ∙ sym (drop_later (inner ++ outer) more outer n here later ∙ none_outside inner outer k sorted))

    parted_alike : (inner outer more : Path) (before here : Level) → old ≡ inner ++ before ∷ outer →
        before.opening ≡ here.opening → before.alternative < here.alternative →
        are_alternatives (reverse old) (reverse (more ++ here ∷ outer)) ≡ some_holds_both old (more ++ here ∷ outer)
    parted_alike inner outer more before here e same less =
        let opening : (before.opening == here.opening) ≡ true = same_number before.opening here.opening same in
        let alternative : not (before.alternative == here.alternative) ≡ true = not_from_false _ (lower_differs before.alternative here.alternative less) in
        let beside : is_beside before here ≡ true = and_from _ _ opening alternative in
        subst (λ p. are_alternatives (reverse p) (reverse (more ++ here ∷ outer)) ≡ some_holds_both p (more ++ here ∷ outer)) (sym e)
        (ap₂ are_alternatives (turned inner outer before) (turned more outer here)
        ∙ same_front (reverse outer) (before ∷ reverse inner) (here ∷ reverse more)
        ∙ first (reverse inner) (reverse more)
        ∙ sym (list_any-append (λ level. list_any (is_beside level) (more ++ here ∷ outer)) inner (before ∷ outer)
        ∙ or_right _ _ (or_left _ _
        (list_any-append (is_beside before) more (here ∷ outer) ∙ or_right _ _ (or_left _ _ beside)))))
      where
        first : (path other : Path) → are_alternatives (before ∷ path) (here ∷ other) ≡ true
        first path other =
            and_from _ _ (same_number before.opening here.opening same)
            (or_left _ _ (not_from_false _ (lower_differs before.alternative here.alternative less)))

    alike : (now : Path) → Occurs old n now → are_alternatives (reverse old) (reverse now) ≡ some_holds_both old now
    alike now (shared inner outer more e f later) =
        subst (λ p. are_alternatives (reverse old) (reverse p) ≡ some_holds_both old p) (sym f) (shared_alike inner outer more e later)
    alike now (parted inner outer more before here e f same less) =
        subst (λ p. are_alternatives (reverse old) (reverse p) ≡ some_holds_both old p) (sym f) (parted_alike inner outer more before here e same less)

-- ---- all groups

-- Two groups have the same name, and no disjunction at all has them in different alternatives.
abbrev pub conflict_anywhere : CaptureAt → CaptureAt → Bool
conflict_anywhere a b = same_name a.name b.name && not (some_holds_both a.path b.path)

abbrev pub are_apart_anywhere : List CaptureAt → Bool
are_apart_anywhere [] = true
are_apart_anywhere (g ∷ gs) = list_all (λ other. not (conflict_anywhere g other)) gs && are_apart_anywhere gs

later_alike : (g : CaptureAt) (n k : ℕ) → Falls k g.path → Below n g.path → (position : Position) (ms : List GroupToken) →
    n ≤ position.opened + 1 → Occurs g.path n position.path →
    list_all (λ other. not (conflict g other)) (groups_by position ms) ≡ list_all (λ other. not (conflict_anywhere g other)) (groups_by position ms)
later_alike g n k falls below position [] l occurs = refl
later_alike g n k falls below position (opens ∷ ms) l occurs =
    later_alike g n k falls below (enter position) ms (omega (arith, l)) (occurs_inside g.path n position.path _ l occurs)
later_alike g n k falls below position (captures name ∷ ms) l occurs =
    ap₂ (λ a b. not (same_name g.name name && not a) && b) (alike g.path n k falls below position.path occurs)
    (later_alike g n k falls below (enter position) ms (omega (arith, l)) (occurs_inside g.path n position.path _ l occurs))
later_alike g n k falls below position (closes ∷ ms) l occurs =
    later_alike g n k falls below (record position { path = outside position.path }) ms l (occurs_outside g.path n position.path occurs)
later_alike g n k falls below position (next ∷ ms) l occurs =
    later_alike g n k falls below (record position { path = next_alternative position.path }) ms l (occurs_next g.path n position.path occurs)
later_alike g n k falls below position (nests nesting ∷ ms) l occurs = later_alike g n k falls below position ms l occurs

falls_outside : (n : ℕ) (path : Path) → Falls n path → Falls n (outside path)
falls_outside n [] h = tt
falls_outside n (level ∷ []) h = h
falls_outside n (level ∷ around ∷ path) h = (omega (arith, h.0, h.1.0), h.1.1)

falls_next : (n : ℕ) (path : Path) → Falls n path → Falls n (next_alternative path)
falls_next n [] h = tt
falls_next n (level ∷ path) h = h

apart_alike : (position : Position) (ms : List GroupToken) → Falls (position.opened + 1) position.path →
    are_apart (groups_by position ms) ≡ are_apart_anywhere (groups_by position ms)
apart_alike position [] h = refl
apart_alike position (opens ∷ ms) h = apart_alike (enter position) ms (omega arith, h)
apart_alike position (captures name ∷ ms) h =
    let g : CaptureAt = record { path = position.path; name = name } in
    ap₂ (λ a b. a && b)
    (later_alike g (position.opened + 1) (position.opened + 1) h (below_from_falls _ position.path h) (enter position) ms (omega arith)
    (occurs_inside position.path (position.opened + 1) position.path _ (omega arith) (shared [] position.path [] refl refl tt)))
    (apart_alike (enter position) ms (omega arith, h))
apart_alike position (closes ∷ ms) h = apart_alike (record position { path = outside position.path }) ms (falls_outside _ position.path h)
apart_alike position (next ∷ ms) h = apart_alike (record position { path = next_alternative position.path }) ms (falls_next _ position.path h)
apart_alike position (nests nesting ∷ ms) h = apart_alike position ms h

-- Comparing paths from the outermost disjunction on finds all conflicts.
pub apart_anywhere : (ms : List GroupToken) → are_apart (groups_by at_the_start ms) ≡ are_apart_anywhere (groups_by at_the_start ms)
apart_anywhere ms = apart_alike at_the_start ms (omega arith, tt)

-- ---- by the numbers of alternatives alone

-- The numbers of the alternatives agree at each depth that both paths have, outermost first.
abbrev pub numbers_agree : Path → Path → Bool
numbers_agree [] other = true
numbers_agree (level ∷ path) [] = true
numbers_agree (level ∷ path) (beside ∷ other) = level.alternative == beside.alternative && numbers_agree path other

abbrev pub conflict_by_numbers : CaptureAt → CaptureAt → Bool
conflict_by_numbers a b = same_name a.name b.name && numbers_agree (reverse a.path) (reverse b.path)

abbrev pub are_apart_by_numbers : List CaptureAt → Bool
are_apart_by_numbers [] = true
are_apart_by_numbers (g ∷ gs) = list_all (λ other. not (conflict_by_numbers g other)) gs && are_apart_by_numbers gs

no_alternatives_by_numbers : (path other : Path) → numbers_agree path other ≡ true → are_alternatives path other ≡ false
no_alternatives_by_numbers [] other e = refl
no_alternatives_by_numbers (level ∷ path) [] e = refl
no_alternatives_by_numbers (level ∷ path) (beside ∷ other) e =
    let parts = and_parts _ _ e in
    and_right _ _ (or_from _ _ (not_from_true _ parts.0) (no_alternatives_by_numbers path other parts.1))

by_numbers_too : (g other : CaptureAt) → not (conflict g other) ≡ true → not (conflict_by_numbers g other) ≡ true
by_numbers_too g other e =
    not_from_false _ (false_from_ne_true _ (λ h.
    let parts = and_parts _ _ h in
    true≢false (sym e ∙ not_from_true _
    (and_from _ _ parts.0 (not_from_false _ (no_alternatives_by_numbers (reverse g.path) (reverse other.path) parts.1))))))

all_by_numbers_too : (g : CaptureAt) (gs : List CaptureAt) → list_all (λ other. not (conflict g other)) gs ≡ true →
    list_all (λ other. not (conflict_by_numbers g other)) gs ≡ true
all_by_numbers_too g [] e = refl
all_by_numbers_too g (other ∷ gs) e =
    let parts = and_parts _ _ e in and_from _ _ (by_numbers_too g other parts.0) (all_by_numbers_too g gs parts.1)

-- Groups that do not conflict do not conflict by the numbers alone either: each accepted pattern is accepted by that
-- rule too.
pub apart_by_numbers : (gs : List CaptureAt) → are_apart gs ≡ true → are_apart_by_numbers gs ≡ true
apart_by_numbers [] e = refl
apart_by_numbers (g ∷ gs) e =
    let parts = and_parts _ _ e in and_from _ _ (all_by_numbers_too g gs parts.0) (apart_by_numbers gs parts.1)
