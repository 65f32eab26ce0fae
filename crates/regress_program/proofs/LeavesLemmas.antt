-- Lists that have the leaves of a tree.
use Rattle.std.proofs.Common.{◌≡◌, ℕ, zero, suc, ◌+◌, ◌-◌, ◌≤◌, ◌<◌, ◌==◌, ◌&&◌, Bool, true, false, Option, Some, None, List, [], ◌∷◌, ◌++◌, length, drop, get_or, map, min, refl, sym, ap, ap₂, subst, ◌∙◌, append-nil, arith, Global}
use Rattle.std.proofs.Math.Seq.{drop-append_seam, drop-nil}
use Rattle.std.proofs.lemmas.Bool.{eqb-true}
use Rattle.std.proofs.lemmas.List.{append_assoc, length-map}
use Rattle.std.specs.Box.{boxed_slice_items}
use Rattle.std.specs.declared.boxed.BoxedSlice.{BoxedSlice}
use Rattle.regress_base.specs.declared.types.Quantifier.{Quantifier}
use Rattle.regress_leaves.specs.declared.test.Test.{Test}
use Rattle.regress_prefilter.specs.OneCharacter.{takes_one}
use Rattle.regress_tree.specs.Shapes.{is_zero}
use Rattle.regress_tree.specs.Tree.{empty, goal, char, byte_sequence, byte_set, char_set, match_any, match_any_except_line_terminator, anchor, word_boundary, bracket, back_ref, string_set, loop_one, Tree, leaf, cat, alt, wrapped, tree, trees}
use Rattle.regress_tree.specs.declared.ir.node.Node.{Node}
use Rattle.regress_program.specs.LeavesOf.{HasLeaves, leaves_of, leaves_of_loop, leaves_of_parts, leaves_of_strings, leaves_of_wrapper, tree_of}
use Rattle.regress_program.specs.Linear.{is_never}
use Rattle.regress_program.specs.Views.{leaf_in}
use Rattle.regress_program.proofs.ViewLemmas.{from_index}

drop-plus : {X : Type 0} (m n : ℕ) (xs : List X) → drop (m + n) xs ≡ drop n (drop m xs)
drop-plus zero n xs = let e : 0 + n ≡ n = omega arith in ap (λ k. drop k xs) e
drop-plus (suc m) n [] = drop-nil (suc m + n) ∙ sym (drop-nil n)
drop-plus (suc m) n (x ∷ xs) = let e : suc m + n ≡ suc (m + n) = omega arith in ap (λ k. drop k (x ∷ xs)) e ∙ drop-plus m n xs

-- ---- parts of the list

pub has-first : (leaves : List Test) (from : ℕ) (a b : List Tree) → HasLeaves leaves from (a ++ b) → HasLeaves leaves from a
has-first leaves from a b has = record { bound = has.bound; rest = b ++ has.rest; is = has.is ∙ append_assoc a b has.rest }

pub has-second : (leaves : List Test) (from : ℕ) (a b : List Tree) → HasLeaves leaves from (a ++ b) → HasLeaves leaves (from + length a) b
has-second leaves from a b has = record {
  bound = has.bound;
  rest = has.rest;
  is =
      drop-plus from (length a) (map tree_of leaves) ∙ ap (drop (length a)) (has.is ∙ append_assoc a b has.rest)
      ∙ drop-append_seam a (b ++ has.rest);
}

pub has-at : (leaves : List Test) (from from' : ℕ) (ts : List Tree) → from' ≡ from → HasLeaves leaves from ts → HasLeaves leaves from' ts
has-at leaves from from' ts same has = subst (λ k. HasLeaves leaves k ts) (sym same) has

pub has-same : (leaves : List Test) (from : ℕ) (ts us : List Tree) → ts ≡ us → HasLeaves leaves from ts → HasLeaves leaves from us
has-same leaves from ts us same has = subst (HasLeaves leaves from) same has

-- all leaves
pub has-all : (leaves : List Test) (ts : List Tree) → length leaves ≤ 18446744073709551615 → map tree_of leaves ≡ ts → HasLeaves leaves 0 ts
has-all leaves ts bound is = record { bound = bound; rest = []; is = is ∙ sym (append-nil ts) }

-- ---- one leaf

within : {X : Type 0} (xs : List X) (k : ℕ) (x : X) (rest : List X) → drop k xs ≡ x ∷ rest → k < length xs
within [] zero x rest is = cc
within [] (suc k) x rest is = cc
within (y ∷ ys) zero x rest is = omega arith
within (y ∷ ys) (suc k) x rest is = omega (arith, within ys k x rest is)

length-trees : (leaves : List Test) → length (map tree_of leaves) ≡ length leaves
length-trees leaves = length-map leaves tree_of

pub leaf-here : (leaves : List Test) (from : ℕ) (t : Tree) (rest : List Tree) → drop from (map tree_of leaves) ≡ t ∷ rest → leaf_in leaves from ≡ t
leaf-here [] zero t rest is = cc
leaf-here [] (suc k) t rest is = cc
leaf-here (x ∷ xs) zero t rest is = cc
leaf-here (x ∷ xs) (suc k) t rest is = leaf-here xs k t rest is

pub has-leaf : (leaves : List Test) (from : ℕ) (t : Tree) → HasLeaves leaves from (t ∷ []) → leaf_in leaves from ≡ t
has-leaf leaves from t has = leaf-here leaves from t has.rest has.is

pub has-room : (leaves : List Test) (from : ℕ) (t : Tree) → HasLeaves leaves from (t ∷ []) → min (from + 1) 18446744073709551615 ≡ from + 1
has-room leaves from t has =
    omega (arith, within (map tree_of leaves) from t has.rest has.is, length-trees leaves, has.bound)

-- ---- the leaves of a node

pub one-leaf : (t : Tree) → takes_one t ≡ true → leaves_of t ≡ t ∷ []
one-leaf (leaf empty) is = cc
one-leaf (leaf goal) is = cc
one-leaf (leaf (char c)) is = refl
one-leaf (leaf (byte_sequence bytes)) is = refl
one-leaf (leaf (byte_set members)) is = refl
one-leaf (leaf (char_set members)) is = refl
one-leaf (leaf match_any) is = refl
one-leaf (leaf match_any_except_line_terminator) is = refl
one-leaf (leaf (anchor kind multiline)) is = cc
one-leaf (leaf (word_boundary invert unicode_icase)) is = cc
one-leaf (leaf (bracket invert intervals)) is = refl
one-leaf (leaf (back_ref group icase)) is = cc
one-leaf (leaf (string_set ss icase)) is = cc
one-leaf (cat parts) is = cc
one-leaf (alt left right) is = cc
one-leaf (wrapped w body) is = cc

pub parts-leaves : (parts : List Node) (i j : ℕ) (x : Node) → j ≡ i - 1 → 0 < i → i ≤ length parts → x ≡ get_or parts j x →
    leaves_of_parts (trees (drop j parts)) ≡ leaves_of_parts (trees (drop i parts)) ++ leaves_of (tree x)
parts-leaves parts i j x at some inside is = ap (λ xs. leaves_of_parts (trees xs)) (from_index parts i j x at some inside is)

pub strings-leaves : (ss : List (BoxedSlice ℕ Global)) (icase : Bool) (i j : ℕ) (x : BoxedSlice ℕ Global) → j ≡ i - 1 → 0 < i → i ≤ length ss → x ≡ get_or ss j x →
    leaves_of_strings (map boxed_slice_items (drop j ss)) icase
    ≡ leaves_of_strings (map boxed_slice_items (drop i ss)) icase ++ leaf (string_set (boxed_slice_items x ∷ []) icase) ∷ []
strings-leaves ss icase i j x at some inside is = ap (λ xs. leaves_of_strings (map boxed_slice_items xs) icase) (from_index ss i j x at some inside is)

pub string-at : (ss : List (BoxedSlice ℕ Global)) (i : ℕ) → i < length ss → (x : BoxedSlice ℕ Global) × (x ≡ get_or ss i x)
string-at [] i lt = absurd (omega (arith, lt))
string-at (x ∷ ss) zero lt = (x, refl)
string-at (x ∷ ss) (suc i) lt = string-at ss i (omega (arith, lt))

-- ---- loops

pub loop-leaves : (q : Quantifier) (ts : List Tree) → is_never q ≡ false → leaves_of_loop q ts ≡ ts
loop-leaves q ts some = rw some refl

pub never-leaves : (q : Quantifier) (ts : List Tree) → is_never q ≡ true → leaves_of_loop q ts ≡ []
never-leaves q ts never = rw never refl

and-true : (a b : Bool) → (a && b) ≡ true → (a ≡ true) × (b ≡ true)
and-true true b is = (refl, is)
and-true false b is = cc

zero-max : (max : Option ℕ) → is_zero max ≡ true → max ≡ Some 0
zero-max None is = cc
zero-max (Some most) is = ap (λ k. Some k) (eqb-true most 0 is)

pub never-bounds : (q : Quantifier) → is_never q ≡ true → (q.min ≡ 0) × (q.max ≡ Some 0)
never-bounds q never =
    let both = and-true (q.min == 0) (is_zero q.max) never in
    (eqb-true q.min 0 both.0, zero-max q.max both.1)

-- the number of copies of the body for the iterations between these bounds
abbrev copies_between : (min : ℕ) → Option ℕ → ℕ
copies_between least None = 1
copies_between least (Some most) = most - least

-- the number of copies of the body for the optional iterations
abbrev pub optional_copies : Quantifier → ℕ
optional_copies q = copies_between q.min q.max

pub copies-bounded : (q : Quantifier) (most : ℕ) → q.max ≡ Some most → optional_copies q ≡ most - q.min
copies-bounded q most is = ap (copies_between q.min) is

-- a loop over a leaf that matches one character
pub one-wrapped : (q : Quantifier) (t : Tree) → takes_one t ≡ true → leaves_of (wrapped (loop_one q) t) ≡ leaves_of t
one-wrapped q t one = ap (λ b. leaves_of_wrapper (loop_one q) b (leaves_of t)) one

pub many-wrapped : (q : Quantifier) (t : Tree) → takes_one t ≡ false → leaves_of (wrapped (loop_one q) t) ≡ leaves_of_loop q (leaves_of t)
many-wrapped q t many = ap (λ b. leaves_of_wrapper (loop_one q) b (leaves_of t)) many

-- a loop with iterations has at least one copy of its body
pub some-copies : (q : Quantifier) → is_never q ≡ false → 0 < q.min + optional_copies q
some-copies q never = by q.min refl q.max refl
  where
    by : (least : ℕ) → q.min ≡ least → (max : Option ℕ) → q.max ≡ max → 0 < q.min + optional_copies q
    by (suc k) some max is = omega (arith, some)
    by zero none None is = rw is (omega arith)
    by zero none (Some zero) is =
        let both : is_never q ≡ true = ap₂ (λ (a : ℕ) (b : Option ℕ). (a == 0) && is_zero b) none is in
        let wrong : true ≡ false = sym both ∙ never in
        cc
    by zero none (Some (suc most)) is = rw is (omega (arith, none))
