-- The rule for duplicate names, defined on the syntax tree, agrees with the one on the marks: some disjunction has each
-- two groups of one name in different alternatives.
use Rattle.std.proofs.Common.{◌≡◌, ℕ, ◌+◌, ◌≤◌, Bool, true, false, not, ◌&&◌, ◌||◌, List, [], ◌∷◌, ◌++◌, map, reverse, Option, refl, sym, ap, ap₂, ◌∙◌, arith, append_assoc, append-nil}
use Rattle.std.proofs.lemmas.Bool.{and_right, and_from, or_left, not_from_false}
use Rattle.std.proofs.lemmas.List.{map-append, reverse-append}
use Rattle.std.specs.List.{list_all, list_any}
use Rattle.regress_syntax.specs.Syntax.{Name, Atom, literal, dot, anchor, boundary, class_escape, class, class_set, string_property, back_reference, Group, grouping, modified, capture, look, Pattern, Terms, Item, one, either, no_terms, more_terms, atom, group, names, names_of_group, names_of_terms, names_of_item}
use Rattle.regress_syntax.specs.GroupTokens.{GroupToken, closes, next, token_of_group, tokens_of_atom, tokens_of, tokens_of_terms, tokens_of_item}
use Rattle.regress_syntax.specs.SameNames.{same_name, share_name, are_names_apart, are_names_apart_in_terms, are_names_apart_in_item, NoneConflict}
use Rattle.regress_syntax.specs.Paths.{Level, Path, Position, at_the_start, enter, CaptureAt, groups_by, are_alternatives, conflict, are_apart, are_tokens_apart}
use Rattle.regress_syntax.proofs.lemmas.Paths.{Below, From, turned, below_more, below_append, from_append, below_reverse, from_reverse, same_front, no_alternatives, lower_differs, same_number, are_apart_anywhere, apart_anywhere, are_apart_by_numbers, apart_by_numbers}

-- ---- two lists of groups

abbrev Each : (CaptureAt → Type 0) → List CaptureAt → Type 0
Each P [] = Unit {0}
Each P (g ∷ gs) = P g × Each P gs

each_map : (P Q : CaptureAt → Type 0) → ((g : CaptureAt) → P g → Q g) → (gs : List CaptureAt) → Each P gs → Each Q gs
each_map P Q f [] h = tt
each_map P Q f (g ∷ gs) h = (f g h.0, each_map P Q f gs h.1)

each_append : (P : CaptureAt → Type 0) (xs ys : List CaptureAt) → Each P xs → Each P ys → Each P (xs ++ ys)
each_append P [] ys h k = k
each_append P (g ∷ xs) ys h k = (h.0, each_append P xs ys h.1 k)

-- no group of the first list conflicts with one of the second
abbrev are_clear : List CaptureAt → List CaptureAt → Bool
are_clear xs ys = list_all (λ g. list_all (λ other. not (conflict g other)) ys) xs

abbrev names_at : List CaptureAt → List (Option Name)
names_at gs = map (λ g. g.name) gs

list_all-both : (p : CaptureAt → Bool) (xs ys : List CaptureAt) → list_all p (xs ++ ys) ≡ (list_all p xs && list_all p ys)
list_all-both p [] ys = refl
list_all-both p (x ∷ xs) ys = ap (λ b. p x && b) (list_all-both p xs ys) ∙ regroup (p x) (list_all p xs) (list_all p ys)
  where
    regroup : (a b c : Bool) → (a && (b && c)) ≡ ((a && b) && c)
    regroup true b c = refl
    regroup false b c = refl

are_apart-append : (xs ys : List CaptureAt) → are_apart (xs ++ ys) ≡ (are_apart xs && (are_clear xs ys && are_apart ys))
are_apart-append [] ys = refl
are_apart-append (g ∷ xs) ys =
    ap₂ (λ a b. a && b) (list_all-both (λ other. not (conflict g other)) xs ys) (are_apart-append xs ys)
    ∙ regroup (list_all (λ other. not (conflict g other)) xs) (list_all (λ other. not (conflict g other)) ys) (are_apart xs) (are_clear xs ys) (are_apart ys)
  where
    regroup : (a b c d e : Bool) → ((a && b) && (c && (d && e))) ≡ ((a && c) && ((b && d) && e))
    regroup false b c d e = refl
    regroup true false false d e = refl
    regroup true false true d e = refl
    regroup true true c d e = refl

-- whether some disjunction has the two groups in different alternatives
abbrev AreAlternatives : Bool → CaptureAt → CaptureAt → Type 0
AreAlternatives response g other = are_alternatives (reverse g.path) (reverse other.path) ≡ response

together-one : (g : CaptureAt) (ys : List CaptureAt) → Each (AreAlternatives false g) ys →
    list_all (λ other. not (conflict g other)) ys ≡ not (list_any (same_name g.name) (names_at ys))
together-one g [] h = refl
together-one g (y ∷ ys) h =
    ap₂ (λ a b. not (same_name g.name y.name && not a) && b) h.0 (together-one g ys h.1)
    ∙ regroup (same_name g.name y.name) (list_any (same_name g.name) (names_at ys))
  where
    regroup : (a b : Bool) → (not (a && true) && not b) ≡ not (a || b)
    regroup true b = refl
    regroup false b = refl

-- If no disjunction has the groups of two lists in different alternatives, two of them conflict exactly if they share a
-- name.
together : (xs ys : List CaptureAt) → Each (λ g. Each (AreAlternatives false g) ys) xs →
    are_clear xs ys ≡ not (share_name (names_at xs) (names_at ys))
together [] ys h = refl
together (x ∷ xs) ys h =
    ap₂ (λ a b. a && b) (together-one x ys h.0) (together xs ys h.1)
    ∙ regroup (list_any (same_name x.name) (names_at ys)) (share_name (names_at xs) (names_at ys))
  where
    regroup : (a b : Bool) → (not a && not b) ≡ not (a || b)
    regroup true b = refl
    regroup false b = refl

apart-one : (g : CaptureAt) (ys : List CaptureAt) → Each (AreAlternatives true g) ys → list_all (λ other. not (conflict g other)) ys ≡ true
apart-one g [] h = refl
apart-one g (y ∷ ys) h = and_from _ _ (not_from_false _ (and_right _ _ (ap not h.0))) (apart-one g ys h.1)

in_alternatives : (xs ys : List CaptureAt) → Each (λ g. Each (AreAlternatives true g) ys) xs → are_clear xs ys ≡ true
in_alternatives [] ys h = refl
in_alternatives (x ∷ xs) ys h = and_from _ _ (apart-one x ys h.0) (in_alternatives xs ys h.1)

-- ---- the paths of the groups of a part

-- The group's path extends this path, by parentheses with numbers greater than n and at most m.
abbrev IsIn : (n m : ℕ) → Path → CaptureAt → Type 0
IsIn n m path g = (inner : Path) × (g.path ≡ inner ++ path) × From (n + 1) inner × Below (m + 1) inner

from_less : (n m : ℕ) (path : Path) → m ≤ n → From n path → From m path
from_less n m [] l h = tt
from_less n m (level ∷ path) l h = (omega (arith, l, h.0), from_less n m path l h.1)

-- Groups of consecutive terms are not in different alternatives.
list : (n k m : ℕ) (path : Path) (g other : CaptureAt) → IsIn n k path g → IsIn k m path other → AreAlternatives false g other
list n k m path g other (inner, e, from, below) (inner', e', from', below') =
    ap₂ (λ a b. are_alternatives (reverse a) (reverse b)) e e'
    ∙ ap₂ are_alternatives (reverse-append inner path) (reverse-append inner' path)
    ∙ same_front (reverse path) (reverse inner) (reverse inner')
    ∙ no_alternatives (reverse inner) (reverse inner') (k + 1) (below_reverse (k + 1) inner below) (from_reverse (k + 1) inner' from')

-- The group is in an alternative of this disjunction, with this number or a later one.
abbrev IsFrom : (n m : ℕ) (outer : Path) (opening alternative : ℕ) → CaptureAt → Type 0
IsFrom n m outer opening alternative g =
    (number : ℕ) × (alternative ≤ number) × IsIn n m (record { opening = opening; alternative = number } ∷ outer) g

-- Groups of two alternatives are in different alternatives.
beside : (n k k' m : ℕ) (outer : Path) (opening alternative : ℕ) (g other : CaptureAt) →
    IsIn n k (record { opening = opening; alternative = alternative } ∷ outer) g → IsFrom k' m outer opening (alternative + 1) other →
    AreAlternatives true g other
beside n k k' m outer opening alternative g other (inner, e, from, below) (number, later, (inner', e', from', below')) =
    ap₂ (λ a b. are_alternatives (reverse a) (reverse b)) e e'
    ∙ ap₂ are_alternatives (turned inner outer _) (turned inner' outer _)
    ∙ same_front (reverse outer) (_ ∷ reverse inner) (_ ∷ reverse inner')
    ∙ and_from _ _ (same_number opening opening refl) (or_left _ _ (not_from_false _ (lower_differs alternative number (omega (arith, later)))))

abbrev at : Path → ℕ → Position
at path n = record { path = path; opened = n }

-- What the marks of a list of terms determine, after n parentheses: the paths of its groups, their names, and whether
-- any conflict.
record Production (path : Path) (n : ℕ) (ms : List GroupToken) (ns : List (Option Name)) (b : Bool) : Type 0 where
  found : List CaptureAt
  opened : ℕ
  split : (rest : List GroupToken) → groups_by (at path n) (ms ++ rest) ≡ found ++ groups_by (at path opened) rest
  more : n ≤ opened
  inside : Each (IsIn n opened path) found
  named : names_at found ≡ ns
  apart : are_apart found ≡ b

-- The same for a list of alternatives.
record Choice (outer : Path) (opening first n : ℕ) (ms : List GroupToken) (ns : List (Option Name)) (b : Bool) : Type 0 where
  found : List CaptureAt
  opened : ℕ
  last : ℕ
  split : (rest : List GroupToken) → groups_by (at (record { opening = opening; alternative = first } ∷ outer) n) (ms ++ rest)
      ≡ found ++ groups_by (at (record { opening = opening; alternative = last } ∷ outer) opened) rest
  more : n ≤ opened
  inside : Each (IsFrom n opened outer opening first) found
  named : names_at found ≡ ns
  apart : are_apart found ≡ b

within : (n m n' m' : ℕ) (path : Path) → n' ≤ n → m ≤ m' → (g : CaptureAt) → IsIn n m path g → IsIn n' m' path g
within n m n' m' path l l' g (inner, e, from, below) =
    (inner, e, from_less (n + 1) (n' + 1) inner (omega (arith, l)) from, below_more (m + 1) (m' + 1) inner (omega (arith, l')) below)

parts_in_sequence : (xs ys zs rest : List GroupToken) (found others : List CaptureAt) (a b c : Position) →
    ((rest : List GroupToken) → groups_by a (xs ++ rest) ≡ found ++ groups_by b rest) →
    ((rest : List GroupToken) → groups_by b (ys ++ rest) ≡ others ++ groups_by c rest) →
    groups_by a ((xs ++ ys) ++ rest) ≡ (found ++ others) ++ groups_by c rest
parts_in_sequence xs ys zs rest found others a b c h k =
    ap (groups_by a) (append_assoc xs ys rest) ∙ h (ys ++ rest) ∙ ap (λ gs. found ++ gs) (k rest)
    ∙ sym (append_assoc found others (groups_by c rest))

-- a term, and the terms after it
in_sequence : (path : Path) (n : ℕ) (xs ys : List GroupToken) (ns ms : List (Option Name)) (a b : Bool) → (first : Production path n xs ns a) →
    Production path first.opened ys ms b → Production path n (xs ++ ys) (ns ++ ms) (a && (not (share_name ns ms) && b))
in_sequence path n xs ys ns ms a b first rest =
    record {
      found = first.found ++ rest.found;
      opened = rest.opened;
      split = λ after. parts_in_sequence xs ys [] after first.found rest.found _ _ _ first.split rest.split;
      more = omega (arith, first.more, rest.more);
      inside =
          each_append _ first.found rest.found
          (each_map _ _ (within n first.opened n rest.opened path (omega arith) rest.more) first.found first.inside)
          (each_map _ _ (within first.opened rest.opened n rest.opened path first.more (omega arith)) rest.found rest.inside);
      named = map-append (λ g. g.name) first.found rest.found ∙ ap₂ (λ x y. x ++ y) first.named rest.named;
      apart = are_apart-append first.found rest.found
          ∙ ap₂ (λ x y. x && y) first.apart
          (ap₂ (λ x y. x && y)
          (together first.found rest.found
          (each_map _ _
          (λ g h. each_map _ _ (λ other k. list n first.opened rest.opened path g other h k) rest.found rest.inside) first.found first.inside)
          ∙ ap₂ (λ x y. not (share_name x y)) first.named rest.named)
          rest.apart);
    }

-- the last alternative
only : (outer : Path) (opening first n : ℕ) (xs : List GroupToken) (ns : List (Option Name)) (a : Bool) →
    Production (record { opening = opening; alternative = first } ∷ outer) n xs ns a → Choice outer opening first n xs ns a
only outer opening first n xs ns a r =
    record {
      found = r.found;
      opened = r.opened;
      last = first;
      split = r.split;
      more = r.more;
      inside = each_map _ _ (λ g h. (first, omega arith, h)) r.found r.inside;
      named = r.named;
      apart = r.apart;
    }

-- an alternative, and others after a `|`
or_else : (outer : Path) (opening first n : ℕ) (xs ys : List GroupToken) (ns ms : List (Option Name)) (a b : Bool) →
    (r : Production (record { opening = opening; alternative = first } ∷ outer) n xs ns a) → Choice outer opening (first + 1) r.opened ys ms b →
    Choice outer opening first n (xs ++ next ∷ ys) (ns ++ ms) (a && b)
or_else outer opening first n xs ys ns ms a b r others =
    record {
      found = r.found ++ others.found;
      opened = others.opened;
      last = others.last;
      split = λ after. parts_in_sequence xs (next ∷ ys) [] after r.found others.found _ _ _ r.split others.split;
      more = omega (arith, r.more, others.more);
      inside =
          each_append _ r.found others.found
          (each_map _ _ (λ g h. (first, omega arith, within n r.opened n others.opened _ (omega arith) others.more g h)) r.found r.inside)
          (each_map _ _ (λ g h. (h.0, omega (arith, h.1), within r.opened others.opened n others.opened _ r.more (omega arith) g h.2)) others.found
          others.inside);
      named = map-append (λ g. g.name) r.found others.found ∙ ap₂ (λ x y. x ++ y) r.named others.named;
      apart = are_apart-append r.found others.found
          ∙ ap₂ (λ x y. x && y) r.apart
          (ap₂ (λ x y. x && y)
          (in_alternatives r.found others.found
          (each_map _ _
          (λ g h. each_map _ _ (λ other k. beside n r.opened r.opened others.opened outer opening first g other h k) others.found others.inside) r.found
          r.inside))
          others.apart);
    }

-- the group that a parenthesis opens at a path, if it captures
abbrev own : Path → Group → List CaptureAt
own path kind = map (λ name. record { path = path; name = name }) (names_of_group kind)

own_found : (path : Path) (n : ℕ) (kind : Group) (ms : List GroupToken) →
    groups_by (at path n) (token_of_group kind ∷ ms) ≡ own path kind ++ groups_by (enter (at path n)) ms
own_found path n grouping ms = refl
own_found path n (modified change) ms = refl
own_found path n (capture name) ms = refl
own_found path n (look negate direction) ms = refl

own_inside : (path : Path) (n : ℕ) (kind : Group) → Each (IsIn n n path) (own path kind)
own_inside path n grouping = tt
own_inside path n (modified change) = tt
own_inside path n (capture name) = (([], refl, tt, tt), tt)
own_inside path n (look negate direction) = tt

own_named : (path : Path) (kind : Group) → names_at (own path kind) ≡ names_of_group kind
own_named path grouping = refl
own_named path (modified change) = refl
own_named path (capture name) = refl
own_named path (look negate direction) = refl

own_apart : (path : Path) (kind : Group) → are_apart (own path kind) ≡ true
own_apart path grouping = refl
own_apart path (modified change) = refl
own_apart path (capture name) = refl
own_apart path (look negate direction) = refl

-- The path of a group inside parentheses extends the path outside.
below_path : (path : Path) (n m : ℕ) → n + 1 ≤ m → (g : CaptureAt) → IsFrom (n + 1) m path (n + 1) 0 g → IsIn n m path g
below_path path n m l g (number, later, (inner, e, from, below)) =
    let level : Level = record { opening = n + 1; alternative = number } in (
      inner ++ level ∷ [],
      e ∙ sym (append_assoc inner (level ∷ []) path),
      from_append (n + 1) inner (level ∷ []) (from_less (n + 1 + 1) (n + 1) inner (omega arith) from) (omega arith, tt),
      below_append (m + 1) inner (level ∷ []) below (omega (arith, l), tt),
    )

-- parentheses with their contents
in_parentheses : (level : Level) (around : Path) (n : ℕ) (kind : Group) (ms : List GroupToken) (ns : List (Option Name)) (b : Bool) →
    Choice (level ∷ around) (n + 1) 0 (n + 1) ms ns b →
    Production (level ∷ around) n (token_of_group kind ∷ ms ++ closes ∷ []) (names_of_group kind ++ ns) (not (share_name (names_of_group kind) ns) && b)
in_parentheses level around n kind ms ns b body =
    let path = level ∷ around in
    let inside : Each (IsIn n body.opened path) body.found = each_map _ _ (below_path path n body.opened body.more) body.found body.inside in
    record {
      found = own path kind ++ body.found;
      opened = body.opened;
      split = λ rest.
          own_found path n kind ((ms ++ closes ∷ []) ++ rest)
          ∙ ap (λ gs. own path kind ++ gs) (ap (groups_by (enter (at path n))) (append_assoc ms (closes ∷ []) rest) ∙ body.split (closes ∷ rest))
          ∙ sym (append_assoc (own path kind) body.found (groups_by (at path body.opened) rest));
      more = omega (arith, body.more);
      inside =
          each_append _ (own path kind) body.found
          (each_map _ _ (within n n n body.opened path (omega arith) (omega (arith, body.more))) (own path kind) (own_inside path n kind))
          inside;
      named = map-append (λ g. g.name) (own path kind) body.found ∙ ap₂ (λ x y. x ++ y) (own_named path kind) body.named;
      apart = are_apart-append (own path kind) body.found
          ∙ ap₂ (λ x y. x && y) (own_apart path kind)
          (ap₂ (λ x y. x && y)
          (together (own path kind) body.found
          (each_map _ _ (λ g h. each_map _ _ (λ other k. list n n body.opened path g other h k) body.found inside) (own path kind) (own_inside path n kind))
          ∙ ap₂ (λ x y. not (share_name x y)) (own_named path kind) body.named)
          body.apart);
    }

no_groups : (path : Path) (n : ℕ) (ms : List GroupToken) → ((rest : List GroupToken) → groups_by (at path n) (ms ++ rest) ≡ groups_by (at path n) rest) →
    Production path n ms [] true
no_groups path n ms e = record { found = []; opened = n; split = e; more = omega arith; inside = tt; named = refl; apart = refl }

atom_found : (path : Path) (n : ℕ) (a : Atom) (rest : List GroupToken) → groups_by (at path n) (tokens_of_atom a ++ rest) ≡ groups_by (at path n) rest
atom_found path n (literal flags c) rest = refl
atom_found path n (dot flags) rest = refl
atom_found path n (anchor flags kind) rest = refl
atom_found path n (boundary flags inverted) rest = refl
atom_found path n (class_escape flags kind negated) rest = refl
atom_found path n (class flags inverted members) rest = refl
atom_found path n (class_set flags negated value) rest = refl
atom_found path n (string_property flags written) rest = refl
atom_found path n (back_reference flags to) rest = refl

-- ---- the syntax tree

mutual
  of_pattern : (outer : Path) (opening first n : ℕ) (p : Pattern) → Choice outer opening first n (tokens_of p) (names p) (are_names_apart p)
  of_pattern outer opening first n (one ts) = only outer opening first n _ _ _ (of_terms _ outer n ts)
  of_pattern outer opening first n (either ts p) =
      let r = of_terms (record { opening = opening; alternative = first }) outer n ts in
      or_else outer opening first n _ _ _ _ _ _ r (of_pattern outer opening (first + 1) r.opened p)

  of_terms : (level : Level) (around : Path) (n : ℕ) (ts : Terms) →
      Production (level ∷ around) n (tokens_of_terms ts) (names_of_terms ts) (are_names_apart_in_terms ts)
  of_terms level around n no_terms = no_groups (level ∷ around) n [] (λ rest. refl)
  of_terms level around n (more_terms x q xs) =
      let r = of_item level around n x in
      in_sequence (level ∷ around) n _ _ _ _ _ _ r (of_terms level around r.opened xs)

  of_item : (level : Level) (around : Path) (n : ℕ) (x : Item) →
      Production (level ∷ around) n (tokens_of_item x) (names_of_item x) (are_names_apart_in_item x)
  of_item level around n (atom a) = no_groups (level ∷ around) n _ (atom_found (level ∷ around) n a)
  of_item level around n (group kind p) =
      in_parentheses level around n kind _ _ _ (of_pattern (level ∷ around) (n + 1) 0 (n + 1) p)

-- The marks of a pattern decide whether its names conflict.
pub apart_by_tokens : (p : Pattern) → are_tokens_apart (tokens_of p) ≡ are_names_apart p
apart_by_tokens p =
    let all = of_pattern [] 0 0 0 p in
    ap are_apart (ap (groups_by at_the_start) (sym (append-nil (tokens_of p))) ∙ all.split [] ∙ append-nil all.found) ∙ all.apart

-- A pattern's names do not conflict exactly if some disjunction has each two groups of one name in different
-- alternatives.
pub apart_as_written : (p : Pattern) → are_names_apart p ≡ are_apart_anywhere (groups_by at_the_start (tokens_of p))
apart_as_written p = sym (apart_by_tokens p) ∙ apart_anywhere (tokens_of p)

-- Names that do not conflict do not conflict by the numbers of alternatives alone: that rule accepts each pattern that
-- this one accepts.
pub apart_by_numbers_too : (p : Pattern) → NoneConflict p → are_apart_by_numbers (groups_by at_the_start (tokens_of p)) ≡ true
apart_by_numbers_too p h = apart_by_numbers (groups_by at_the_start (tokens_of p)) (apart_by_tokens p ∙ h)
