-- The goal, and where it is in a tree.
use Rattle.std.proofs.Common.{◌≡◌, ℕ, true, false, ◌||◌, inl, inr, refl, sym, ap, ap₂, subst}
use Rattle.std.proofs.Math.Bool.{or-false}
use Rattle.std.proofs.lemmas.Bool.{cases_Bool, false≢true}
use Rattle.regress_tree.specs.NodeTests.{is_goal_leaf, is_goal}
use Rattle.regress_tree.specs.Shapes.{some_part, last_in_list, ends_in_goal}
use Rattle.regress_tree.specs.Tree.{Leaf, empty, goal, char, byte_sequence, byte_set, char_set, match_any, match_any_except_line_terminator, anchor, word_boundary, bracket, back_ref, string_set, Tree, Trees, leaf, cat, alt, wrapped, no_trees, more_trees}
use Rattle.regress_tree.specs.WellFormed.{Position, inside, last, root, LeafIsAllowed, IsAllowed, PartsAllowed}

goal_leaf-is : (l : Leaf) → is_goal_leaf l ≡ true → l ≡ goal
goal_leaf-is empty e = absurd (false≢true e)
goal_leaf-is goal e = refl
goal_leaf-is (char c) e = absurd (false≢true e)
goal_leaf-is (byte_sequence bytes) e = absurd (false≢true e)
goal_leaf-is (byte_set bytes) e = absurd (false≢true e)
goal_leaf-is (char_set characters) e = absurd (false≢true e)
goal_leaf-is match_any e = absurd (false≢true e)
goal_leaf-is match_any_except_line_terminator e = absurd (false≢true e)
goal_leaf-is (anchor kind multiline) e = absurd (false≢true e)
goal_leaf-is (word_boundary invert unicode_icase) e = absurd (false≢true e)
goal_leaf-is (bracket invert intervals) e = absurd (false≢true e)
goal_leaf-is (back_ref group icase) e = absurd (false≢true e)
goal_leaf-is (string_set strings icase) e = absurd (false≢true e)

pub goal-is : (t : Tree) → is_goal t ≡ true → t ≡ leaf goal
goal-is (leaf l) e = ap leaf (goal_leaf-is l e)
goal-is (cat parts) e = absurd (false≢true e)
goal-is (alt left right) e = absurd (false≢true e)
goal-is (wrapped w body) e = absurd (false≢true e)

-- A leaf that is not the goal is allowed inside if it is allowed anywhere.
pub leaf-inside : (n : ℕ) (l : Leaf) (p : Position) → is_goal_leaf l ≡ false → LeafIsAllowed n l p → LeafIsAllowed n l inside
leaf-inside n empty p e m = tt
leaf-inside n goal p e m = absurd (false≢true (sym e))
leaf-inside n (char c) p e m = m
leaf-inside n (byte_sequence bytes) p e m =
    record { characters = m.characters; are_scalar = m.are_scalar; encoded = m.encoded; one = tt }
leaf-inside n (byte_set bytes) p e m = record { bounded = m.bounded; small = m.small; some = tt }
leaf-inside n (char_set characters) p e m = record { bounded = m.bounded; small = m.small; some = tt }
leaf-inside n match_any p e m = tt
leaf-inside n match_any_except_line_terminator p e m = tt
leaf-inside n (anchor kind multiline) p e m = tt
leaf-inside n (word_boundary invert unicode_icase) p e m = tt
leaf-inside n (bracket invert intervals) p e m = record { canonical = m.canonical; some = tt }
leaf-inside n (back_ref group icase) p e m = record { free = tt; low = m.low; high = m.high }
leaf-inside n (string_set strings icase) p e m = record { free = tt; bounded = m.bounded }

pub last-inside : (n : ℕ) (t : Tree) → is_goal t ≡ false → IsAllowed n t last → IsAllowed n t inside
last-inside n (leaf l) e m = leaf-inside n l last e m
last-inside n (cat parts) e m = m
last-inside n (alt left right) e m = m
last-inside n (wrapped w body) e m = m

-- The goal is not inside a tree.
inside-no_goal : (n : ℕ) (t : Tree) → IsAllowed n t inside → is_goal t ≡ false
inside-no_goal n t m = elim (cases_Bool (is_goal t)) [
  | inl is ↦ absurd (subst (λ (u : Tree). IsAllowed n u inside) (goal-is t is) m)
  | inr is_not ↦ is_not
]

-- In a list the goal is the last part.
pub goal-last : (n : ℕ) (p : Position) (ts : Trees) → PartsAllowed n ts p → some_part is_goal ts ≡ last_in_list is_goal ts
goal-last n p no_trees m = refl
goal-last n p (more_trees t no_trees) m = or-false (is_goal t)
goal-last n p (more_trees t (more_trees u us)) m = ap₂ ◌||◌ (inside-no_goal n t m.0) (goal-last n p (more_trees u us) m.1)

list-no_goal : (n : ℕ) (ts : Trees) → PartsAllowed n ts inside → last_in_list is_goal ts ≡ false
list-no_goal n no_trees m = refl
list-no_goal n (more_trees t no_trees) m = inside-no_goal n t m
list-no_goal n (more_trees t (more_trees u us)) m = list-no_goal n (more_trees u us) m.1

pub inside-no_end : (n : ℕ) (t : Tree) → IsAllowed n t inside → ends_in_goal t ≡ false
inside-no_end n (leaf l) m = inside-no_goal n (leaf l) m
inside-no_end n (cat parts) m = list-no_goal n parts m.1
inside-no_end n (alt left right) m = refl
inside-no_end n (wrapped w body) m = refl

-- A root that does not end in the goal is allowed inside.
list-inside : (n : ℕ) (ts : Trees) → last_in_list is_goal ts ≡ false → PartsAllowed n ts last → PartsAllowed n ts inside
list-inside n no_trees e m = tt
list-inside n (more_trees t no_trees) e m = last-inside n t e m
list-inside n (more_trees t (more_trees u us)) e m = (m.0, list-inside n (more_trees u us) e m.1)

pub no_end-inside : (n : ℕ) (t : Tree) → ends_in_goal t ≡ false → IsAllowed n t root → IsAllowed n t inside
no_end-inside n (leaf l) e m = leaf-inside n l root e m
no_end-inside n (cat parts) e m = (tt, list-inside n parts e m.1)
no_end-inside n (alt left right) e m = m
no_end-inside n (wrapped w body) e m = m
