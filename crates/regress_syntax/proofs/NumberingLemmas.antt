-- The numbers of the named groups, and their order by name.
use Rattle.std.proofs.Common.{◌≡◌, ℕ, suc, ◌+◌, ◌-◌, ◌<◌, ◌≤◌, ◌⊎◌, inl, inr, ⊎_elim, Bool, true, false, cond, not, ◌&&◌, List, [], ◌∷◌, ◌++◌, map, filter, length, get_or, take, drop, Option, Some, None, is_some, option_map, Vec, All, IsPermutation, IsSortedBy, bytes_eq, refl, sym, ap, ap₂, ◌∙◌, subst, arith, true≢false, length-drop, append-nil}
use Rattle.std.proofs.lemmas.Bool.{cases_Bool, cond-false}
use Rattle.std.proofs.lemmas.Cmp.{nat_list_cmp_total}
use Rattle.std.proofs.lemmas.List.{map-append, length-map, get_or-map, get_or-take, get_or-drop, length-take, take-append-drop}
use Rattle.std.proofs.lemmas.List.Elements.{All-nil, All-cons, All-head, All-tail, All-weaker, filter-append, filter_agree}
use Rattle.std.proofs.lemmas.List.Sorted.{All-permutation, searchable_from_sorted, IsNonDecreasingBy-drop}
use Rattle.std.proofs.lemmas.Map.Text.{is_eq-slice_cmp}
use Rattle.std.proofs.lemmas.Slice.Eq.{bytes_eq-Decides}
use Rattle.std.specs.Cmp.Lexicographic.{slice_cmp}
use Rattle.std.specs.List.{list_any, prefix_len}
use Rattle.std.specs.List.Sorted.{IsNonDecreasingBy, IsPartitionedBy, IsPartitionPoint, IsStableBy, ties}
use Rattle.std.specs.Ordering.{nat_cmp, is_lt, is_eq, ordering_index, ordering_reverse}
use Rattle.std.specs.declared.cmp.Ordering.{Ordering}
use Rattle.std.specs.declared.cmp.Ordering.TheVariants.{Less, Equal, Greater}
use Rattle.std.specs.declared.alloc.Global.{Global}
use Rattle.regress_syntax.specs.Syntax.{Name, groups_named}
use Rattle.regress_syntax.specs.Productions.{has_names}
use Rattle.regress_syntax.specs.Numbering.{names_of, numbered, order_of, name_order, AreSortedByName}
use Rattle.regress_syntax.specs.Scanning.{name_and_number, is_before}
use Rattle.regress_syntax.specs.declared.scan.scanner.NamedGroup.{NamedGroup}

is_some-map : (name : Option (Vec ℕ Global)) → is_some (option_map (λ name. name.items) name) ≡ is_some name
is_some-map None = refl
is_some-map (Some name) = refl

pub has_names_in : (names : List (Option (Vec ℕ Global))) → list_any is_some names ≡ has_names (names_of names)
has_names_in [] = refl
has_names_in (name ∷ names) = rw (is_some-map name, has_names_in names) refl

-- ---- the named groups, in the order of all groups

-- Appending a group appends its number to the list.
pub numbered-push : (n : ℕ) (names : List (Option Name)) (other : Option Name) →
    numbered n (names ++ other ∷ []) ≡ numbered n names ++ numbered (n + length names) (other ∷ [])
numbered-push n [] other = let e : n ≡ n + 0 = omega arith in ap (λ (k : ℕ). numbered k (other ∷ [])) e
numbered-push n (None ∷ names) other =
    let e : n + 1 + length names ≡ n + suc (length names) = omega arith in
    numbered-push (n + 1) names other ∙ ap (λ (k : ℕ). numbered (n + 1) names ++ numbered k (other ∷ [])) e
numbered-push n (Some name ∷ names) other =
    let e : n + 1 + length names ≡ n + suc (length names) = omega arith in
    ap (λ (rest : List (Name × ℕ)). (name, n) ∷ rest)
    (numbered-push (n + 1) names other ∙ ap (λ (k : ℕ). numbered (n + 1) names ++ numbered k (other ∷ [])) e)

-- The numbers of the groups of a name are those that `groups_named` finds.
numbers_named : (name : Name) (n : ℕ) (names : List (Option Name)) →
    map (λ (p : Name × ℕ). p.1) (filter (λ (p : Name × ℕ). bytes_eq p.0 name) (numbered n names)) ≡ groups_named name n names
numbers_named name n [] = refl
numbers_named name n (None ∷ names) = numbers_named name (n + 1) names
numbers_named name n (Some other ∷ names) = by (bytes_eq other name) (numbers_named name (n + 1) names)
  where
    rest : List (Name × ℕ)
    rest = filter (λ (p : Name × ℕ). bytes_eq p.0 name) (numbered (n + 1) names)

    by : (b : Bool) → map (λ (p : Name × ℕ). p.1) (filter (λ (p : Name × ℕ). bytes_eq p.0 name) (numbered (n + 1) names)) ≡ groups_named name (n + 1) names →
        map (λ (p : Name × ℕ). p.1) (cond b ((other, n) ∷ filter (λ (p : Name × ℕ). bytes_eq p.0 name) (numbered (n + 1) names))
        (filter (λ (p : Name × ℕ). bytes_eq p.0 name) (numbered (n + 1) names)))
        ≡ cond b (n ∷ groups_named name (n + 1) names) (groups_named name (n + 1) names)
    by true e = ap (λ (ks : List ℕ). n ∷ ks) e
    by false e = e

-- the name of the group with this number is the name in the pair
abbrev Occurs : ℕ → List (Option Name) → Name × ℕ → Type 0
Occurs n names p = (j : ℕ) × (p.1 ≡ n + j) × (get_or names j None ≡ Some p.0)

occurs_after : (n : ℕ) (first : Option Name) (names : List (Option Name)) (p : Name × ℕ) → Occurs (n + 1) names p → Occurs n (first ∷ names) p
occurs_after n first names p h = (suc h.0, omega (arith, h.1), h.2)

all_occur : (n : ℕ) (names : List (Option Name)) → All (Occurs n names) (numbered n names)
all_occur n [] = All-nil (Occurs n [])
all_occur n (None ∷ names) =
    All-weaker (Occurs (n + 1) names) (Occurs n (None ∷ names)) (occurs_after n None names) (numbered (n + 1) names) (all_occur (n + 1) names)
all_occur n (Some name ∷ names) =
    All-cons (Occurs n (Some name ∷ names)) (name, n) (numbered (n + 1) names) (0, omega arith, refl)
    (All-weaker (Occurs (n + 1) names) (Occurs n (Some name ∷ names)) (occurs_after n (Some name) names) (numbered (n + 1) names) (all_occur (n + 1) names))

abbrev IsFound : List (Option Name) → Name × ℕ → Type 0
IsFound names p = get_or names (p.1 - 1) None ≡ Some p.0

found_if : (names : List (Option Name)) (p : Name × ℕ) → Occurs 1 names p → IsFound names p
found_if names p h = let e : p.1 - 1 ≡ h.0 = omega (arith, h.1) in ap (λ (k : ℕ). get_or names k None) e ∙ h.2

name_found : (names : List (Option Name)) → All (IsFound names) (numbered 1 names)
name_found names = All-weaker (Occurs 1 names) (IsFound names) (found_if names) (numbered 1 names) (all_occur 1 names)

-- ---- lists

filter-map : {X Y : Type 0} (p : Y → Bool) (f : X → Y) (xs : List X) → filter p (map f xs) ≡ map f (filter (λ x. p (f x)) xs)
filter-map p f [] = refl
filter-map p f (x ∷ xs) = by (p (f x)) (filter-map p f xs)
  where
    by : (b : Bool) → filter p (map f xs) ≡ map f (filter (λ x. p (f x)) xs) →
        cond b (f x ∷ filter p (map f xs)) (filter p (map f xs)) ≡ map f (cond b (x ∷ filter (λ x. p (f x)) xs) (filter (λ x. p (f x)) xs))
    by true e = ap (λ ys. f x ∷ ys) e
    by false e = e

all_of_map : {X Y : Type 0} (P : Y → Type 0) (f : X → Y) (xs : List X) → All P (map f xs) → All (λ x. P (f x)) xs
all_of_map P f [] h = All-nil (λ x. P (f x))
all_of_map P f (x ∷ xs) h = All-cons (λ x. P (f x)) x xs (All-head P (f x) (map f xs) h) (all_of_map P f xs (All-tail P (f x) (map f xs) h))

filter_same : {X : Type 0} (p q : X → Bool) (xs : List X) → All (λ x. p x ≡ q x) xs → filter p xs ≡ filter q xs
filter_same {X = X} p q [] h = refl
filter_same {X = X} p q (x ∷ xs) h =
    ap₂ (λ (b : Bool) (ys : List X). cond b (x ∷ ys) ys) (All-head (λ x. p x ≡ q x) x xs h) (filter_same p q xs (All-tail (λ x. p x ≡ q x) x xs h))

filter_none : {X : Type 0} (p : X → Bool) (xs : List X) → All (λ x. p x ≡ false) xs → filter p xs ≡ []
filter_none p [] h = refl
filter_none p (x ∷ xs) h =
    cond-false (p x) (x ∷ filter p xs) (filter p xs) (All-head (λ x. p x ≡ false) x xs h) ∙ filter_none p xs (All-tail (λ x. p x ≡ false) x xs h)

some_or_none : {X : Type 0} (p : X → Bool) (xs : List X) → ((x : X) × (p x ≡ true)) ⊎ All (λ x. p x ≡ false) xs
some_or_none p [] = inr (All-nil (λ x. p x ≡ false))
some_or_none p (x ∷ xs) =
    ⊎_elim (λ (e : p x ≡ true). inl (x, e))
    (λ (e : p x ≡ false). ⊎_elim (λ h. inl h) (λ h. inr (All-cons (λ x. p x ≡ false) x xs e h)) (some_or_none p xs))
    (cases_Bool (p x))

-- ---- groups in the order of their names

neither_less : (r : Ordering) → not (is_lt (ordering_reverse r)) && not (is_lt r) ≡ is_eq r
neither_less Less = refl
neither_less Equal = refl
neither_less Greater = refl

-- Two groups tie exactly if they have the same name.
pub ties_by_name : (x y : NamedGroup) → ties is_before x y ≡ bytes_eq y.name.items x.name.items
ties_by_name x y =
    let a = x.name.items in
    let b = y.name.items in
    ap (λ (r : Ordering). not (is_lt r) && not (is_lt (slice_cmp nat_cmp b a))) (nat_list_cmp_total.antisymm a b)
    ∙ neither_less (slice_cmp nat_cmp b a) ∙ is_eq-slice_cmp b a

module _ (names : List (Option Name)) (text sorted : List NamedGroup) (moved : IsPermutation text sorted)
    (are : map name_and_number text ≡ numbered 1 names) where
  -- Each group's number leads to its name.
  all_found : All (λ (g : NamedGroup). IsFound names (name_and_number g)) sorted
  all_found =
      All-permutation (λ (g : NamedGroup). IsFound names (name_and_number g)) text sorted moved
      (all_of_map (IsFound names) name_and_number text (subst (All (IsFound names)) (sym are) (name_found names)))

  abbrev OrdersSame : Name → NamedGroup → Type 0
  OrdersSame name g = name_order names name g.number ≡ slice_cmp nat_cmp g.name.items name

  orders_same : (name : Name) → All (OrdersSame name) sorted
  orders_same name =
      All-weaker (λ (g : NamedGroup). IsFound names (name_and_number g)) (OrdersSame name)
      (λ (g : NamedGroup) e. ap (λ (found : Option Name). order_of found name) e) sorted all_found

  in_order : IsSortedBy is_before sorted → (name : Name) →
      IsNonDecreasingBy (λ k. ordering_index (name_order names name k)) (map (λ (g : NamedGroup). g.number) sorted)
  in_order up name i j d le lt =
      rises sorted (orders_same name) (searchable_from_sorted nat_list_cmp_total (λ (g : NamedGroup). g.name.items) sorted name up) i j d le lt
    where
      rises : (gs : List NamedGroup) → All (OrdersSame name) gs →
          IsNonDecreasingBy (λ (g : NamedGroup). ordering_index (slice_cmp nat_cmp g.name.items name)) gs →
          IsNonDecreasingBy (λ k. ordering_index (name_order names name k)) (map (λ (g : NamedGroup). g.number) gs)
      rises [] same up i j d le lt = absurd (omega arith)
      rises (g ∷ gs) same up i j d le lt =
          let l : j < length (g ∷ gs) = omega (arith, lt, length-map (g ∷ gs) (λ (g : NamedGroup). g.number)) in
          let k : i < length (g ∷ gs) = omega (arith, l, le) in
          rw (
            get_or-map (λ (g : NamedGroup). g.number) (g ∷ gs) i g d k,
            get_or-map (λ (g : NamedGroup). g.number) (g ∷ gs) j g d l,
            same i g k,
            same j g
                l,
          ) (up i j g le l)

  -- A stable sort keeps the order of the groups of a name.
  name_kept : IsStableBy is_before text sorted → (name : Name) →
      filter (λ (g : NamedGroup). bytes_eq g.name.items name) sorted ≡ filter (λ (g : NamedGroup). bytes_eq g.name.items name) text
  name_kept stable name =
      ⊎_elim
      (λ (one : (x : NamedGroup) × (bytes_eq x.name.items name ≡ true)).
      let x = one.0 in
      let same : x.name.items ≡ name = (bytes_eq-Decides x.name.items name).0 one.1 in
      let tie = λ (g : NamedGroup). ties_by_name x g ∙ ap (bytes_eq g.name.items) same in
      sym (filter_agree (ties is_before x) (λ (g : NamedGroup). bytes_eq g.name.items name) tie sorted) ∙ stable x
      ∙ filter_agree (ties is_before x) (λ (g : NamedGroup). bytes_eq g.name.items name) tie text)
      (λ (none : All (λ (x : NamedGroup). bytes_eq x.name.items name ≡ false) text).
      filter_none (λ (g : NamedGroup). bytes_eq g.name.items name) sorted
      (All-permutation (λ (x : NamedGroup). bytes_eq x.name.items name ≡ false) text sorted moved none)
      ∙ sym (filter_none (λ (g : NamedGroup). bytes_eq g.name.items name) text none))
      (some_or_none (λ (g : NamedGroup). bytes_eq g.name.items name) text)

  pub sorted_by_name : IsSortedBy is_before sorted → IsStableBy is_before text sorted →
      AreSortedByName names (map (λ (g : NamedGroup). g.number) sorted)
  sorted_by_name up stable = record {
    order = in_order up;
    each = λ name.
        filter-map (λ k. is_eq (name_order names name k)) (λ (g : NamedGroup). g.number) sorted
        ∙ ap (map (λ (g : NamedGroup). g.number))
        (filter_same (λ (g : NamedGroup). is_eq (name_order names name g.number)) (λ (g : NamedGroup). bytes_eq g.name.items name) sorted
        (All-weaker (OrdersSame name) (λ (g : NamedGroup). is_eq (name_order names name g.number) ≡ bytes_eq g.name.items name)
        (λ (g : NamedGroup) e. ap is_eq e ∙ is_eq-slice_cmp g.name.items name) sorted (orders_same name))
        ∙ name_kept stable name)
        ∙ again (filter (λ (g : NamedGroup). bytes_eq g.name.items name) text)
        ∙ ap (map (λ (p : Name × ℕ). p.1)) (sym (filter-map (λ (p : Name × ℕ). bytes_eq p.0 name) name_and_number text))
        ∙ ap (λ ps. map (λ (p : Name × ℕ). p.1) (filter (λ (p : Name × ℕ). bytes_eq p.0 name) ps)) are
        ∙ numbers_named name 1 names;
  }
    where
      again : (gs : List NamedGroup) → map (λ (g : NamedGroup). g.number) gs ≡ map (λ (p : Name × ℕ). p.1) (map name_and_number gs)
      again [] = refl
      again (g ∷ gs) = ap (λ ks. g.number ∷ ks) (again gs)

-- ---- one group more

-- A group with a name is appended with its number.
pub number_added : (old new : List NamedGroup) (group : NamedGroup) (name : Vec ℕ Global) (given : Option (Vec ℕ Global))
    (names names' : List (Option (Vec ℕ Global))) →
    given ≡ Some name → group.name.items ≡ name.items → group.number ≡ length names + 1 → new ≡ old ++ group ∷ [] → names' ≡ names ++ given ∷ [] →
    map name_and_number old ≡ numbered 1 (names_of names) → map name_and_number new ≡ numbered 1 (names_of names')
number_added old new group name given names names' e same number pushed more h =
    let known : names_of (given ∷ []) ≡ Some group.name.items ∷ [] = ap (λ (x : Option (Vec ℕ Global)). names_of (x ∷ [])) e ∙ ap
    (λ (n : Name). Some n ∷ []) (sym same) in
    let here : 1 + length (names_of names) ≡ group.number = omega (
      arith,
      number,
      length-map names
          (option_map {T = Vec ℕ Global} {U = List ℕ} (λ name. name.items)),
    ) in
    ap (map name_and_number) pushed
    ∙ map-append name_and_number old (group ∷ [])
    ∙ ap₂ (λ (xs : List (Name × ℕ)) (k : ℕ). xs ++ (group.name.items, k) ∷ []) h (sym here)
    ∙ sym (numbered-push 1 (names_of names) (Some group.name.items))
    ∙ ap (λ (ns : List (Option Name)). numbered 1 (names_of names ++ ns)) (sym known)
    ∙ ap (numbered 1) (sym (ap names_of more ∙ map-append (option_map (λ name. name.items)) names (given ∷ [])))

-- A group without a name changes nothing.
pub none_numbered : (old new : List NamedGroup) (given : Option (Vec ℕ Global)) (names names' : List (Option (Vec ℕ Global))) →
    given ≡ None → new ≡ old → names' ≡ names ++ given ∷ [] →
    map name_and_number old ≡ numbered 1 (names_of names) → map name_and_number new ≡ numbered 1 (names_of names')
none_numbered old new given names names' e same more h =
    ap (map name_and_number) same ∙ h ∙ sym (append-nil _)
    ∙ sym (numbered-push 1 (names_of names) None)
    ∙ ap (λ (x : Option (Vec ℕ Global)). numbered 1 (names_of names ++ names_of (x ∷ []))) (sym e)
    ∙ ap (numbered 1) (sym (ap names_of more ∙ map-append (option_map (λ name. name.items)) names (given ∷ [])))

-- ---- the result of a binary search

no_higher : (r s : Ordering) → ordering_index r ≤ ordering_index s → is_lt s ≡ true → is_lt r ≡ true
no_higher Less s h e = refl
no_higher Equal Less h e = absurd (omega arith)
no_higher Equal Equal h e = e
no_higher Equal Greater h e = e
no_higher Greater Less h e = absurd (omega arith)
no_higher Greater Equal h e = absurd (omega arith)
no_higher Greater Greater h e = e

less_or_not : (r : Ordering) → is_lt r ≡ true → is_eq r ≡ false
less_or_not Less e = refl
less_or_not Equal e = absurd (true≢false (sym e))
less_or_not Greater e = refl

above : (r : Ordering) → 2 ≤ ordering_index r → is_eq r ≡ false
above Less h = refl
above Equal h = absurd (omega arith)
above Greater h = refl

module _ (order : ℕ → Ordering) where
  pub parted : (xs : List ℕ) → IsNonDecreasingBy (λ k. ordering_index (order k)) xs → IsPartitionedBy (λ k. is_lt (order k)) xs
  parted xs up i j d le lt e = no_higher _ _ (up i j d le lt) e

  -- If no element is less, the equal ones come first.
  equal_first : (xs : List ℕ) → IsNonDecreasingBy (λ k. ordering_index (order k)) xs → All (λ k. is_lt (order k) ≡ false) xs →
      take (prefix_len (λ k. is_eq (order k)) xs) xs ≡ filter (λ k. is_eq (order k)) xs
  equal_first [] up none = refl
  equal_first (x ∷ xs) up none =
      by (order x) (All-head (λ k. is_lt (order k) ≡ false) x xs none) (λ i d lt. up 0 (suc i) d (omega arith) (omega arith))
      (equal_first xs (λ i j d le lt. up (suc i) (suc j) d (omega arith) (omega arith)) (All-tail (λ k. is_lt (order k) ≡ false) x xs none))
    where
      by : (r : Ordering) → is_lt r ≡ false → ((i d : ℕ) → i < length xs → ordering_index r ≤ ordering_index (order (get_or xs i d))) →
          take (prefix_len (λ k. is_eq (order k)) xs) xs ≡ filter (λ k. is_eq (order k)) xs →
          take (cond (is_eq r) (1 + prefix_len (λ k. is_eq (order k)) xs) 0) (x ∷ xs) ≡
          cond (is_eq r) (x ∷ filter (λ k. is_eq (order k)) xs) (filter (λ k. is_eq (order k)) xs)
      by Less e high more = absurd (true≢false e)
      by Equal e high more = rw one_more (ap (λ (ks : List ℕ). x ∷ ks) more)
        where
          one_more : 1 + prefix_len (λ k. is_eq (order k)) xs ≡ suc (prefix_len (λ k. is_eq (order k)) xs)
          one_more = omega arith
      by Greater e high more = sym (filter_none (λ k. is_eq (order k)) xs (λ i d lt. above (order (get_or xs i d)) (high i d lt)))

  -- From the partition point on, the leading equal elements are all equal elements of the list.
  pub found_by_order : (xs : List ℕ) (position : ℕ) → IsNonDecreasingBy (λ k. ordering_index (order k)) xs → position ≤ length xs →
      IsPartitionPoint (λ k. is_lt (order k) ≡ true) (λ k. is_lt (order k) ≡ false) xs position →
      take (prefix_len (λ k. is_eq (order k)) (drop position xs)) (drop position xs) ≡ filter (λ k. is_eq (order k)) xs
  found_by_order xs position up within point =
      let lower = take position xs in
      let rest = drop position xs in
      let none : filter (λ k. is_eq (order k)) lower ≡ [] =
      filter_none (λ k. is_eq (order k)) lower (λ i d lt.
      let l : i < position = omega (arith, lt, length-take position xs) in
      ap (λ k. is_eq (order k)) (get_or-take position xs i d l) ∙ less_or_not (order (get_or xs i d)) (point.0 i d (omega arith) l)) in
      equal_first rest (IsNonDecreasingBy-drop (λ k. ordering_index (order k)) position xs up) (λ i d lt.
      let l : position + i < length xs = omega (arith, lt, length-drop position xs) in
      ap (λ k. is_lt (order k)) (get_or-drop position xs i d) ∙ point.1 (position + i) d (omega arith) l)
      ∙ sym (ap (filter (λ k. is_eq (order k))) (sym (take-append-drop position xs)) ∙ filter-append (λ k. is_eq (order k)) lower rest
      ∙ ap (λ (ks : List ℕ). ks ++ filter (λ k. is_eq (order k)) rest) none)
