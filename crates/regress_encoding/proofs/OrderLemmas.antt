-- Numbers that are set later than they are appended.
use Rattle.std.proofs.Common.{◌≡◌, ◌≤◌, ◌<◌, ℕ, suc, ◌+◌, true, false, List, [], ◌∷◌, ◌++◌, drop, get_or, length, reverse, set, add-one, drop-cons, arith, rules, append_assoc, append-nil, refl, sym, ap, ◌∙◌, subst, Vec, Box, Global}
use Rattle.std.specs.Prelude.{All}
use Rattle.std.proofs.Math.Nat.{add-zero}
use Rattle.std.proofs.lemmas.List.{length-append, reverse-append}
use Rattle.std.proofs.lemmas.List.Elements.{All-push}
use Rattle.regress_tree.specs.Copies.{is_leaf}
use Rattle.regress_tree.specs.Held.{is_wrapper, HasBody}
use Rattle.regress_tree.specs.Tree.{Tree, Trees, leaf, cat, alt, wrapped, no_trees, more_trees, tree}
use Rattle.regress_tree.specs.Visits.{nodes, nodes_in_list}
use Rattle.regress_tree.specs.declared.ir.node.Node.{Node, the_lemmas}
use Rattle.regress_tree.specs.declared.ir.node.Node.TheVariants.{Cat, Alt}
use Rattle.regress_encoding.specs.Closed.{closed}
use Rattle.regress_encoding.specs.Order.{numbers_in_list, numbers_of}

pub alone : (at : ℕ) (t : Tree) → is_leaf t ≡ true → (nodes t ≡ 1) × (numbers_of at t ≡ at ∷ [])
alone at (leaf l) is = (refl, refl)
alone at (cat parts) is = cc
alone at (alt left right) is = cc
alone at (wrapped w body) is = cc

-- there is a number for each node
mutual
  pub one_each : (at : ℕ) (t : Tree) → length (numbers_of at t) ≡ nodes t
  one_each at (leaf l) = refl
  one_each at (cat parts) = let inside = one_each-list at parts in omega (arith, inside)
  one_each at (alt left right) =
      let both = length-append (numbers_of at left) (numbers_of (at + nodes left) right) in
      let first = one_each at left in
      let second = one_each (at + nodes left) right in
      omega (arith, both, first, second)
  one_each at (wrapped w body) = let inside = one_each at body in omega (arith, inside)

  pub one_each-list : (at : ℕ) (ts : Trees) → length (numbers_in_list at ts) ≡ nodes_in_list ts
  one_each-list at no_trees = refl
  one_each-list at (more_trees t ts) =
      let both = length-append (numbers_of at t) (numbers_in_list (at + nodes t) ts) in
      let first = one_each at t in
      let others = one_each-list (at + nodes t) ts in
      omega (arith, both, first, others)

set-after : (ns : List ℕ) (x n : ℕ) (rest : List ℕ) → set (ns ++ x ∷ rest) (length ns) n ≡ ns ++ n ∷ rest
set-after [] x n rest = refl
set-after (m ∷ ns) x n rest = ap (λ ms. m ∷ ms) (set-after ns x n rest)

-- setting the number that was appended last before the others
closed-last : (ns : List ℕ) (x n : ℕ) (rest before : List ℕ) →
    closed (ns ++ x ∷ rest) (reverse (before ++ length ns ∷ [])) n ≡ closed (ns ++ n ∷ rest) (reverse before) (n + 1)
closed-last ns x n rest before =
    ap (λ is. closed (ns ++ x ∷ rest) is n) (reverse-append before (length ns ∷ []))
    ∙ ap (λ ms. closed ms (reverse before) (n + 1)) (set-after ns x n rest)

-- The numbers at the indices are to be set, after `count` more nodes whose numbers are the rest. That completes the whole.
pub record IsOpen (whole : List ℕ) (total : ℕ) (numbers indices : List ℕ) (next count : ℕ) (rest : List ℕ) : Type 0 where
  pub completes : closed (numbers ++ rest) (reverse indices) (next + count) ≡ whole
  pub counts : (next + count) + length indices ≡ total
  pub within : All (λ i. i < length numbers) indices
  pub few : next + length indices ≤ length numbers

module _ {whole : List ℕ} {total : ℕ} (numbers indices : List ℕ) (next : ℕ) where
  -- a node is appended, whose number is set after those inside it
  pub enters : (count : ℕ) (rest : List ℕ) → IsOpen whole total numbers indices next (1 + count) ((next + count) ∷ rest) →
      IsOpen whole total (numbers ++ 0 ∷ []) (indices ++ length numbers ∷ []) next count rest
  enters count rest was =
      let one = length-append numbers (0 ∷ []) in
      let more = length-append indices (length numbers ∷ []) in
      let counts = was.counts in
      let few = was.few in
      let same : (next + count) + 1 ≡ next + (1 + count) = omega arith in
      record {
        completes = ap (λ xs. closed xs (reverse (indices ++ length numbers ∷ [])) (next + count)) (append_assoc numbers (0 ∷ []) rest)
            ∙ closed-last numbers 0 (next + count) rest indices
            ∙ ap (λ n. closed (numbers ++ (next + count) ∷ rest) (reverse indices) n) same ∙ was.completes;
        counts = omega (arith, counts, more);
        within = All-push (λ i. i < length (numbers ++ 0 ∷ [])) indices (length numbers)
            (λ k d below. let at = was.within k d below in omega (arith, at, one)) (omega (arith, one));
        few = omega (arith, few, one, more);
      }

  -- the numbers of some nodes are appended
  pub passes : (more count : ℕ) (done rest : List ℕ) → length done ≡ more → IsOpen whole total numbers indices next (more + count) (done ++ rest) →
      IsOpen whole total (numbers ++ done) indices (next + more) count rest
  passes more count done rest size was =
      let longer = length-append numbers done in
      let counts = was.counts in
      let few = was.few in
      let same : (next + more) + count ≡ next + (more + count) = omega arith in
      record {
        completes = ap (λ xs. closed xs (reverse indices) ((next + more) + count)) (append_assoc numbers done rest)
            ∙ ap (λ n. closed (numbers ++ (done ++ rest)) (reverse indices) n) same ∙ was.completes;
        counts = omega (arith, counts);
        within = λ k d below. let at = was.within k d below in omega (arith, at, longer);
        few = omega (arith, few, size, longer);
      }

-- after a place for the number of a node was appended, and its index
module _ {whole : List ℕ} {total : ℕ} (numbers indices : List ℕ) (next : ℕ) (t : Tree)
    (was : IsOpen whole total numbers indices next (nodes t) (numbers_of next t)) (numbers' indices' : List ℕ) (len : ℕ)
    (appended : numbers' ≡ numbers ++ 0 ∷ []) (opened : indices' ≡ indices ++ len ∷ []) (size : len ≡ length numbers) where
  entered : (count : ℕ) (rest : List ℕ) → IsOpen whole total (numbers ++ 0 ∷ []) (indices ++ length numbers ∷ []) next count rest →
      IsOpen whole total numbers' indices' next count rest
  entered count rest is =
      subst (λ ns. IsOpen whole total ns indices' next count rest) (sym appended)
      (subst (λ xs. IsOpen whole total (numbers ++ 0 ∷ []) xs next count rest) (sym (opened ∙ ap (λ n. indices ++ n ∷ []) size)) is)

  pub enters-cat : (parts : Trees) → t ≡ cat parts → IsOpen whole total numbers' indices' next (nodes_in_list parts) (numbers_in_list next parts)
  enters-cat parts is =
      entered (nodes_in_list parts) (numbers_in_list next parts)
      (enters numbers indices next (nodes_in_list parts) (numbers_in_list next parts)
      (subst (λ u. IsOpen whole total numbers indices next (nodes u) (numbers_of next u)) is was))

  pub enters-alt : (left right : Tree) → t ≡ alt left right →
      IsOpen whole total numbers' indices' next (nodes left + nodes right) (numbers_of next left ++ numbers_of (next + nodes left) right)
  enters-alt left right is =
      entered (nodes left + nodes right) (numbers_of next left ++ numbers_of (next + nodes left) right)
      (enters numbers indices next (nodes left + nodes right) (numbers_of next left ++ numbers_of (next + nodes left) right)
      (subst (λ u. IsOpen whole total numbers indices next (nodes u) (numbers_of next u)) is was))

  pub enters-body : (body : Tree) → HasBody t body → IsOpen whole total numbers' indices' next (nodes body) (numbers_of next body)
  enters-body body holds =
      entered (nodes body) (numbers_of next body)
      (enters numbers indices next (nodes body) (numbers_of next body)
      (subst (λ u. IsOpen whole total numbers indices next (nodes u) (numbers_of next u)) holds.is was))

  pub enters-leaf : is_leaf t ≡ true → IsOpen whole total numbers' indices' next 0 []
  enters-leaf none =
      let own = alone next t none in
      entered 0 []
      (enters numbers indices next 0 []
      (subst (λ n. IsOpen whole total numbers indices next 1 (n ∷ [])) (sym (add-zero next))
      (subst (λ ns. IsOpen whole total numbers indices next 1 ns) own.1
      (subst (λ n. IsOpen whole total numbers indices next n (numbers_of next t)) own.0 was))))

-- after the numbers of some nodes were appended
module _ {whole : List ℕ} {total : ℕ} (numbers indices : List ℕ) (next : ℕ) (numbers' : List ℕ) (next' : ℕ) (done : List ℕ) (more : ℕ)
    (appended : numbers' ≡ numbers ++ done) (counted : next' ≡ next + more) (size : length done ≡ more) where
  pub passed : (count : ℕ) (rest : ℕ → List ℕ) → IsOpen whole total numbers indices next (more + count) (done ++ rest (next + more)) →
      IsOpen whole total numbers' indices next' count (rest next')
  passed count rest was =
      subst (λ ns. IsOpen whole total ns indices next' count (rest next')) (sym appended)
      (subst (λ n. IsOpen whole total (numbers ++ done) indices n count (rest n)) (sym counted)
      (passes numbers indices next more count done (rest (next + more)) size was))

  pub ended : IsOpen whole total numbers indices next more done → IsOpen whole total numbers' indices next' 0 []
  ended was =
      passed 0 (λ _. [])
      (subst (λ n. IsOpen whole total numbers indices next n (done ++ [])) (sym (add-zero more))
      (subst (λ xs. IsOpen whole total numbers indices next more xs) (sym (append-nil done)) was))

-- the rest of the parts begins with the next one
pub next_part : (parts : List Node) (i : ℕ) (x : Node) → i < length parts → x ≡ get_or parts i x → drop i parts ≡ x ∷ drop (i + 1) parts
next_part parts i x below is = rw add-one (drop-cons parts i x below ∙ ap (λ k. k ∷ drop (suc i) parts) (sym is))

-- when no node remains
module _ {whole : List ℕ} {total : ℕ} (numbers indices : List ℕ) (next : ℕ) (was : IsOpen whole total numbers indices next 0 []) where
  pub sets : closed numbers (reverse indices) next ≡ whole
  sets =
      ap (λ xs. closed xs (reverse indices) next) (sym (append-nil numbers))
      ∙ ap (λ n. closed (numbers ++ []) (reverse indices) n) (sym (add-zero next)) ∙ was.completes

  pub counts : next + length indices ≡ total
  counts = let all = was.counts in omega (arith, all)
