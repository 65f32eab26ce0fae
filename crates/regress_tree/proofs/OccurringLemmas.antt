-- Where parts are allowed, whatever the number of capture groups.
use Rattle.std.proofs.Common.{◌≡◌, ℕ, ◌≤◌, ◌==◌, ◌↔◌, Bool, true, false, not, IsTrue, All, nat_le, length, refl, List, [], ◌∷◌, ◌++◌, max, subst, arith}
use Rattle.std.proofs.lemmas.Bool.{leb-true, le-leb, false≢true}
use Rattle.regress_base.specs.Intervals.{Bounds, IsCanonical, code_point_max}
use Rattle.regress_tree.specs.Tree.{Leaf, bracket, back_ref, string_set, Wrapper, capture_group, loop, loop_one, lookaround, Tree, Trees, leaf, cat, alt, wrapped, no_trees, more_trees, append_trees}
use Rattle.regress_tree.specs.WellFormed.{Capture, captures, captures_of_trees, captures_of_wrapper, Position, inside, one_character, IsSmallSet, last_of, position_in, LeafIsAllowed, WrapperIsAllowed, IsAllowed, PartsAllowed}
use Rattle.regress_tree.specs.Survey.{past_ids, reference_of, reference, reference_in_list, IsAllowedInside}
use Rattle.regress_tree.proofs.lemmas.Lists.{append_trees-none, PartsAllowed-append, PartsAllowed-split}
use Rattle.regress_tree.proofs.SurveyLemmas.{past-append}

-- ---- a part is allowed in a tree that has the groups it refers to

leaf_bound : (n : ℕ) (l : Leaf) (p : Position) → LeafIsAllowed n l p → reference_of l ≤ n
leaf_bound n (back_ref group icase) p m = m.high
leaf_bound n l p m = omega arith

leaf_at : (m n : ℕ) (l : Leaf) (p : Position) → LeafIsAllowed m l p → reference_of l ≤ n → LeafIsAllowed n l p
leaf_at m n (back_ref group icase) p s h = record { free = s.free; low = s.low; high = h }
leaf_at m n l p s h = s

pub record Bounded (n referred : ℕ) (cs : List Capture) : Type 0 where
  pub references : referred ≤ n
  pub ids : past_ids cs ≤ n

bounded-both : (n r q : ℕ) (cs ds : List Capture) → Bounded n r cs → Bounded n q ds → Bounded n (max r q) (cs ++ ds)
bounded-both n r q cs ds a b = record {
  references = omega (arith, a.references, b.references);
  ids = omega (arith, a.ids, b.ids, past-append cs ds);
}

bounded-first : (n r q : ℕ) (cs ds : List Capture) → Bounded n (max r q) (cs ++ ds) → Bounded n r cs
bounded-first n r q cs ds a = record { references = omega (arith, a.references); ids = omega (arith, a.ids, past-append cs ds) }

bounded-second : (n r q : ℕ) (cs ds : List Capture) → Bounded n (max r q) (cs ++ ds) → Bounded n q ds
bounded-second n r q cs ds a = record { references = omega (arith, a.references); ids = omega (arith, a.ids, past-append cs ds) }

bounded-wrapper : (n : ℕ) (w : Wrapper) (body : Tree) → WrapperIsAllowed n w body → Bounded n (reference body) (captures body) →
    Bounded n (reference body) (captures_of_wrapper w ++ captures body)
bounded-wrapper n (capture_group id name) body m b =
    record { references = b.references; ids = omega (arith, m.0, b.ids) }
bounded-wrapper n (loop quantifier start end) body m b = b
bounded-wrapper n (loop_one quantifier) body m b = b
bounded-wrapper n (lookaround negate backwards start end) body m b = b

mutual
  pub IsAllowed-bounded : (n : ℕ) (t : Tree) (p : Position) → IsAllowed n t p → Bounded n (reference t) (captures t)
  IsAllowed-bounded n (leaf l) p m = record { references = leaf_bound n l p m; ids = omega arith }
  IsAllowed-bounded n (cat parts) p m = PartsAllowed-bounded n parts (last_of p) m.1
  IsAllowed-bounded n (alt left right) p m =
      bounded-both n (reference left) (reference right) (captures left) (captures right)
      (IsAllowed-bounded n left inside m.1) (IsAllowed-bounded n right inside m.2)
  IsAllowed-bounded n (wrapped w body) p m = bounded-wrapper n w body m.1 (IsAllowed-bounded n body (position_in w) m.2)

  PartsAllowed-bounded : (n : ℕ) (ts : Trees) (p : Position) → PartsAllowed n ts p → Bounded n (reference_in_list ts) (captures_of_trees ts)
  PartsAllowed-bounded n no_trees p m = record { references = omega arith; ids = omega arith }
  PartsAllowed-bounded n (more_trees t no_trees) p m =
      bounded-both n (reference t) 0 (captures t) [] (IsAllowed-bounded n t p m) (record { references = omega arith; ids = omega arith })
  PartsAllowed-bounded n (more_trees t (more_trees u us)) p m =
      bounded-both n (reference t) (reference_in_list (more_trees u us)) (captures t) (captures_of_trees (more_trees u us))
      (IsAllowed-bounded n t inside m.0) (PartsAllowed-bounded n (more_trees u us) p m.1)

wrapper_at : (m n : ℕ) (w : Wrapper) (body : Tree) → WrapperIsAllowed m w body →
    Bounded n (reference body) (captures_of_wrapper w ++ captures body) → WrapperIsAllowed n w body
wrapper_at m n (capture_group id name) body s b = (omega (arith, b.ids), s.1)
wrapper_at m n (loop quantifier start end) body s b = s
wrapper_at m n (loop_one quantifier) body s b = s
wrapper_at m n (lookaround negate backwards start end) body s b = s

bounded-inside : (n : ℕ) (w : Wrapper) (body : Tree) → Bounded n (reference body) (captures_of_wrapper w ++ captures body) →
    Bounded n (reference body) (captures body)
bounded-inside n w body b =
    record { references = b.references; ids = omega (arith, b.ids, past-append (captures_of_wrapper w) (captures body)) }

mutual
  pub IsAllowed-at : (m n : ℕ) (t : Tree) (p : Position) → IsAllowed m t p → Bounded n (reference t) (captures t) → IsAllowed n t p
  IsAllowed-at m n (leaf l) p s b = leaf_at m n l p s b.references
  IsAllowed-at m n (cat parts) p s b = (s.0, PartsAllowed-at m n parts (last_of p) s.1 b)
  IsAllowed-at m n (alt left right) p s b = (
    s.0,
    IsAllowed-at m n left inside s.1 (bounded-first n (reference left) (reference right) (captures left) (captures right) b),
    IsAllowed-at m n right inside s.2 (bounded-second n (reference left) (reference right) (captures left) (captures right) b),
  )
  IsAllowed-at m n (wrapped w body) p s b =
      (s.0, wrapper_at m n w body s.1 b, IsAllowed-at m n body (position_in w) s.2 (bounded-inside n w body b))

  PartsAllowed-at : (m n : ℕ) (ts : Trees) (p : Position) → PartsAllowed m ts p → Bounded n (reference_in_list ts) (captures_of_trees ts) →
      PartsAllowed n ts p
  PartsAllowed-at m n no_trees p s b = tt
  PartsAllowed-at m n (more_trees t no_trees) p s b =
      IsAllowed-at m n t p s (bounded-first n (reference t) 0 (captures t) [] b)
  PartsAllowed-at m n (more_trees t (more_trees u us)) p s b = (
    IsAllowed-at m n t inside s.0
        (bounded-first n (reference t) (reference_in_list (more_trees u us)) (captures t) (captures_of_trees (more_trees u us)) b),
    PartsAllowed-at m n (more_trees u us) p s.1
        (bounded-second n (reference t) (reference_in_list (more_trees u us)) (captures t) (captures_of_trees (more_trees u us)) b),
  )

bounded-more : (m n r : ℕ) (cs : List Capture) → m ≤ n → Bounded m r cs → Bounded n r cs
bounded-more m n r cs h b = record { references = omega (arith, b.references); ids = omega (arith, b.ids) }

pub IsAllowed-more : (m n : ℕ) (t : Tree) (p : Position) → m ≤ n → IsAllowed m t p → IsAllowed n t p
IsAllowed-more m n t p h s = IsAllowed-at m n t p s (bounded-more m n _ _ h (IsAllowed-bounded m t p s))

pub PartsAllowed-more_groups : (m n : ℕ) (ts : Trees) (p : Position) → m ≤ n → PartsAllowed m ts p → PartsAllowed n ts p
PartsAllowed-more_groups m n ts p h s = PartsAllowed-at m n ts p s (bounded-more m n _ _ h (PartsAllowed-bounded m ts p s))

-- ---- two parts

pub occurs-alt : (left right : Tree) → IsAllowedInside inside left × IsAllowedInside inside right → IsAllowedInside inside (alt left right)
occurs-alt left right (a, b) =
    (max a.0 b.0, (tt, IsAllowed-more a.0 _ left inside (omega arith) a.1, IsAllowed-more b.0 _ right inside (omega arith) b.1))

pub sides-occur : (left right : Tree) → IsAllowedInside inside (alt left right) → IsAllowedInside inside left × IsAllowedInside inside right
sides-occur left right s = ((s.0, s.1.1), (s.0, s.1.2))

list-split : (n : ℕ) (ts us : Trees) → PartsAllowed n (append_trees ts us) inside → PartsAllowed n ts inside × PartsAllowed n us inside
list-split n ts no_trees m = (subst (λ (us : Trees). PartsAllowed n us inside) (append_trees-none ts) m, tt)
list-split n ts (more_trees u us) m = PartsAllowed-split n ts u us inside m

pub occurs-append : (ts us : Trees) → IsAllowedInside inside (cat ts) × IsAllowedInside inside (cat us) → IsAllowedInside inside (cat (append_trees ts us))
occurs-append ts us (a, b) =
    let n = max a.0 b.0 in (
      n,
      (
        tt,
        PartsAllowed-append n ts us inside (PartsAllowed-more_groups a.0 n ts inside (omega arith) a.1.1)
            (PartsAllowed-more_groups b.0 n us inside (omega arith) b.1.1),
      ),
    )

pub lists-occur : (ts us : Trees) → IsAllowedInside inside (cat (append_trees ts us)) → IsAllowedInside inside (cat ts) × IsAllowedInside inside (cat us)
lists-occur ts us s =
    let parts = list-split s.0 ts us s.1.1 in
    ((s.0, (tt, parts.0)), (s.0, (tt, parts.1)))

pub occurs-single : (t : Tree) → IsAllowedInside inside t → IsAllowedInside inside (cat (more_trees t no_trees))
occurs-single t s = (s.0, (tt, s.1))

pub single-occurs : (t : Tree) → IsAllowedInside inside (cat (more_trees t no_trees)) → IsAllowedInside inside t
single-occurs t s = (s.0, s.1.1)

-- ---- a leaf without a reference is allowed whatever the number of groups

pub occurs-where : {P : Type 0} (reported : Bool) → (IsTrue reported ↔ P) → IsTrue reported ↔ ((n : ℕ) × P)
occurs-where reported e = (λ yes. (0, e.0 yes), λ s. e.1 s.1)

pub bracket-occurs-where : (reported invert : Bool) (intervals : List Bounds) → (IsTrue reported ↔ IsCanonical intervals) →
    IsTrue reported ↔ IsAllowedInside inside (leaf (bracket invert intervals))
bracket-occurs-where reported invert intervals e = (λ yes. (0, record { canonical = e.0 yes; some = tt }), λ s. e.1 s.1.canonical)

pub strings-occur-where : (reported icase : Bool) (strings : List (List ℕ)) → (IsTrue reported ↔ All (All (λ c. c ≤ code_point_max)) strings) →
    IsTrue reported ↔ IsAllowedInside inside (leaf (string_set strings icase))
strings-occur-where reported icase strings e = (λ yes. (0, record { free = tt; bounded = e.0 yes }), λ s. e.1 s.1.bounded)

-- A back reference is allowed in a tree that has at least its number of groups.
pub reference-occurs-where : (group : ℕ) (icase : Bool) → IsTrue (nat_le 1 group) ↔ IsAllowedInside inside (leaf (back_ref group icase))
reference-occurs-where group icase =
    (λ yes. (group, record { free = tt; low = leb-true 1 group yes; high = omega arith }), λ s. le-leb 1 group s.1.low)

-- ---- a small set is allowed as the body of a `Loop1CharBody` if it is not empty

pub some-small_set : (reported empty : Bool) (count : ℕ) (members : List ℕ) (greatest : ℕ) → count ≡ length members → empty ≡ false →
    empty ≡ (count == 0) → (IsTrue reported ↔ IsSmallSet members greatest inside) → IsTrue reported ↔ IsSmallSet members greatest one_character
some-small_set reported empty count [] greatest len some is e = absurd (grind (arith, len, some, is))
some-small_set reported empty count (m ∷ ms) greatest len some is e = (
  λ occurs. let s = e.0 occurs in record { bounded = s.bounded; small = s.small; some = λ none. cc },
  λ s. e.1 (record { bounded = s.bounded; small = s.small; some = tt }),
)

pub no-small_set : (empty : Bool) (count : ℕ) (members : List ℕ) (greatest : ℕ) → count ≡ length members → empty ≡ true →
    empty ≡ (count == 0) → IsTrue (not empty) ↔ IsSmallSet members greatest one_character
no-small_set empty count [] greatest len none is = rw none (λ denied. absurd (false≢true denied), λ s. absurd (s.some refl))
no-small_set empty count (m ∷ ms) greatest len none is = absurd (grind (arith, len, none, is))
