-- The JSON of a pattern determines its flags and its tree: no two patterns have the same JSON.
use Rattle.std.proofs.Common.{◌≡◌, ◌∙◌, ℕ, ◌+◌, ◌==◌, ◌||◌, Bool, true, false, if◌then◌else◌, List, [], ◌++◌, refl, ap, codes}
use Rattle.regress_base.specs.declared.types.Flags.{Flags}
use Rattle.regress_tree.specs.Tree.{Leaf, empty, goal, char, byte_sequence, byte_set, char_set, match_any, match_any_except_line_terminator, anchor, word_boundary, bracket, back_ref, string_set, Wrapper, capture_group, loop, loop_one, lookaround, Tree, Trees, leaf, cat, alt, wrapped, no_trees, more_trees}
use Rattle.regress_tree.specs.Visits.{nodes}
use Rattle.regress_json.specs.Json.{node_json, further_json, list_json, span_mark, json_of}
use Rattle.regress_json.proofs.DeterminingLemmas.{Determines, DeterminesIfClosed, gives, gives_if_closed, if_ended, if_closed, after, start, more, more_items, item, goes_on, none, none_some, some_none, right_longer, left_longer}
use Rattle.regress_json.proofs.PieceLemmas.{flags-determine}
use Rattle.regress_json.proofs.KindLemmas.{HasKind, begun, begun_more, code, kinds-apart, leaf_kind, ended-kind, leaf-determines, wrapper_kind, wrapper-kind, wrapper-determines}

-- texts without marks
abbrev node : ℕ → Tree → List ℕ
node n t = node_json (span_mark []) n t

abbrev further : ℕ → Tree → List ℕ
further n t = further_json (span_mark []) n t

abbrev list : ℕ → Bool → Trees → List ℕ
list n first ts = list_json (span_mark []) n first ts

abbrev tree_kind : Tree → List ℕ
tree_kind (leaf l) = leaf_kind l
tree_kind (cat parts) = codes "Cat"
tree_kind (alt left right) = codes "Alt"
tree_kind (wrapped w body) = wrapper_kind w

tree-kind : (n : ℕ) (t : Tree) → HasKind (node n t) (tree_kind t)
tree-kind n (leaf l) = ended-kind l
tree-kind n (cat parts) = begun (codes "Cat") _ refl
tree-kind n (alt left right) = begun (codes "Alt") _ refl
tree-kind n (wrapped w body) = begun_more (begun_more (wrapper-kind w) (node n body)) (codes "}")

abbrev constructor_of : Tree → ℕ
constructor_of (leaf l) = 0
constructor_of (cat parts) = 1
constructor_of (alt left right) = 2
constructor_of (wrapped w body) = 3

-- equality of kinds, by their names as numbers
abbrev is_kind : List ℕ → List ℕ → Bool
is_kind xs ys = code xs == code ys

constructor_of_kind : List ℕ → ℕ
constructor_of_kind kind =
    if is_kind kind (codes "Cat") then 1
    else if is_kind kind (codes "Alt") then 2
    else if is_kind kind (codes "CaptureGroup") || is_kind kind (codes "Loop") || is_kind kind (codes "Loop1CharBody")
    || is_kind kind (codes "LookaroundAssertion") then 3
    else 0

constructor-leaf : (l : Leaf) → constructor_of_kind (leaf_kind l) ≡ 0
unfolding constructor_of_kind
constructor-leaf empty = refl
constructor-leaf goal = refl
constructor-leaf (char c) = refl
constructor-leaf (byte_sequence bytes) = refl
constructor-leaf (byte_set bytes) = refl
constructor-leaf (char_set characters) = refl
constructor-leaf match_any = refl
constructor-leaf match_any_except_line_terminator = refl
constructor-leaf (anchor kind multiline) = refl
constructor-leaf (word_boundary invert unicode_icase) = refl
constructor-leaf (bracket invert intervals) = refl
constructor-leaf (back_ref group icase) = refl
constructor-leaf (string_set strings icase) = refl

constructor-tree : (t : Tree) → constructor_of_kind (tree_kind t) ≡ constructor_of t
unfolding constructor_of_kind
constructor-tree (leaf l) = constructor-leaf l
constructor-tree (cat parts) = refl
constructor-tree (alt left right) = refl
constructor-tree (wrapped (capture_group id name) body) = refl
constructor-tree (wrapped (loop q start end) body) = refl
constructor-tree (wrapped (loop_one q) body) = refl
constructor-tree (wrapped (lookaround negate backwards start end) body) = refl

constructors-apart : (m n : ℕ) (t u : Tree) {E : Type 0} → (constructor_of t == constructor_of u) ≡ false → Determines (node m t) (node n u) E
constructors-apart m n t u differ = kinds-apart constructor_of_kind (tree-kind m t) (tree-kind n u)
    ((λ i. constructor-tree t i == constructor-tree u i) ∙ differ)

node-goes_on : (n : ℕ) (t : Tree) (a b : List ℕ) → goes_on ((node n t ++ a) ++ b) ≡ true
node-goes_on n t a b = ap goes_on (begun_more (begun_more (tree-kind n t) a) b).begins

further-goes_on : (n : ℕ) (t : Tree) (a : List ℕ) → goes_on (further n t ++ a) ≡ true
further-goes_on n (leaf l) a = refl
further-goes_on n (cat parts) a = refl
further-goes_on n (alt left right) a = refl
further-goes_on n (wrapped w body) a = refl

-- The induction hypotheses for a tree: its text as a node, as a further alternative, and in a list of parts, whatever
-- the numbers of the first nodes are.
abbrev Determined : Tree → Type 0
Determined t = (u : Tree) (m n : ℕ) → Determines (node m t) (node n u) (t ≡ u)

abbrev FurtherDetermined : Tree → Type 0
FurtherDetermined t = (u : Tree) (m n : ℕ) → DeterminesIfClosed (further m t) (further n u) (t ≡ u)

abbrev ListDetermined : Trees → Type 0
ListDetermined ts = (first : Bool) (us : Trees) (m n : ℕ) → DeterminesIfClosed (list m first ts) (list n first us) (ts ≡ us)

leaf-determined : (l : Leaf) → Determined (leaf l)
leaf-determined l (leaf v) m n = gives (λ e. ap leaf e) (leaf-determines l v)
leaf-determined l u m n = constructors-apart m n (leaf l) u refl

cat-determined : (ts : Trees) → ListDetermined ts → Determined (cat ts)
cat-determined ts parts (cat us) m n =
    gives (λ e. ap cat e.1) (more_items (start (codes "{\"kind\":\"Cat\",\"parts\":[")) (parts true us m n) (codes "}"))
cat-determined ts parts u m n = constructors-apart m n (cat ts) u refl

wrapped-determined : (w : Wrapper) (t : Tree) → Determined t → Determined (wrapped w t)
wrapped-determined w t inside (wrapped v u) m n = gives (λ e. λ i. wrapped (e.0 i) (e.1 i))
    (more (wrapper-determines w v) (if_ended (inside u m n)) (codes "}") refl)
wrapped-determined w t inside u m n = constructors-apart m n (wrapped w t) u refl

sides-determined : (l r l' r' : Tree) → Determined l → FurtherDetermined r → (m n : ℕ) →
    DeterminesIfClosed (node m l ++ further (m + nodes l) r) (node n l' ++ further (n + nodes l') r') (alt l r ≡ alt l' r')
sides-determined l r l' r' left right m n = gives_if_closed (λ e. λ i. alt (e.0 i) (e.1 i))
    (item (left l' m n) (right r' (m + nodes l) (n + nodes l')))

alt-determined : (l r : Tree) → Determined l → FurtherDetermined r → Determined (alt l r)
alt-determined l r left right (alt l' r') m n = gives (λ e. e.1)
    (more_items (start (codes "{\"kind\":\"Alt\",\"alternatives\":[")) (sides-determined l r l' r' left right m n) (codes "}"))
alt-determined l r left right u m n = constructors-apart m n (alt l r) u refl

-- several alternatives on one side, one on the other
longer-determined : (l r u : Tree) → Determined l → (m n : ℕ) →
    DeterminesIfClosed (further m (alt l r)) (codes "," ++ node n u) (alt l r ≡ u)
longer-determined l r u left m n =
    after (codes ",") (left_longer (left u m n) (further (m + nodes l) r) (further-goes_on (m + nodes l) r))

further_alt-determined : (l r : Tree) → Determined l → FurtherDetermined r → FurtherDetermined (alt l r)
further_alt-determined l r left right (alt l' r') m n = after (codes ",") (sides-determined l r l' r' left right m n)
further_alt-determined l r left right (leaf v) m n = longer-determined l r (leaf v) left m n
further_alt-determined l r left right (cat us) m n = longer-determined l r (cat us) left m n
further_alt-determined l r left right (wrapped v u) m n = longer-determined l r (wrapped v u) left m n

-- the last alternative
last-determined : (t : Tree) → Determined t → (u : Tree) (m n : ℕ) →
    DeterminesIfClosed (codes "," ++ node m t) (further n u) (t ≡ u)
last-determined t own (alt l r) m n =
    after (codes ",") (right_longer (own l m n) (further (n + nodes l) r) (further-goes_on (n + nodes l) r))
last-determined t own (leaf v) m n = after (codes ",") (if_closed (own (leaf v) m n))
last-determined t own (cat us) m n = after (codes ",") (if_closed (own (cat us) m n))
last-determined t own (wrapped v u) m n = after (codes ",") (if_closed (own (wrapped v u) m n))

parts-determined : (t u : Tree) (ts us : Trees) → Determined t → ListDetermined ts → (m n : ℕ) →
    DeterminesIfClosed (node m t ++ list (m + nodes t) false ts) (node n u ++ list (n + nodes u) false us) (more_trees t ts ≡ more_trees u us)
parts-determined t u ts us own others m n = gives_if_closed (λ e. λ i. more_trees (e.0 i) (e.1 i))
    (item (own u m n) (others false us (m + nodes t) (n + nodes u)))

mutual
  tree-determined : (t : Tree) → Determined t × FurtherDetermined t
  tree-determined (leaf l) = let own = leaf-determined l in (own, last-determined (leaf l) own)
  tree-determined (cat ts) = let own = cat-determined ts (list-determined ts) in (own, last-determined (cat ts) own)
  tree-determined (alt l r) =
      let left = (tree-determined l).0 in
      let right = (tree-determined r).1 in
      (alt-determined l r left right, further_alt-determined l r left right)
  tree-determined (wrapped w t) = let own = wrapped-determined w t (tree-determined t).0 in (own, last-determined (wrapped w t) own)

  list-determined : (ts : Trees) → ListDetermined ts
  list-determined no_trees first no_trees m n = gives_if_closed (λ u. refl) none
  list-determined no_trees true (more_trees u us) m n = none_some (node-goes_on n u (list (n + nodes u) false us))
  list-determined no_trees false (more_trees u us) m n = none_some (λ c. refl)
  list-determined (more_trees t ts) true no_trees m n = some_none (node-goes_on m t (list (m + nodes t) false ts))
  list-determined (more_trees t ts) false no_trees m n = some_none (λ c. refl)
  list-determined (more_trees t ts) true (more_trees u us) m n = parts-determined t u ts us (tree-determined t).0 (list-determined ts) m n
  list-determined (more_trees t ts) false (more_trees u us) m n =
      after (codes ",") (parts-determined t u ts us (tree-determined t).0 (list-determined ts) m n)

pattern-determined : (f g : Flags) (t u : Tree) → Determines (json_of f t) (json_of g u) ((f ≡ g) × (t ≡ u))
pattern-determined f g t u = gives (λ e. (e.0.1, e.1))
    (more (more (start (codes "{\"flags\":"))
    (if_ended (flags-determine f g)) (codes ",\"node\":") refl)
    (if_ended ((tree-determined t).0 u 0 0)) (codes "}") refl)

-- whatever follows
pub json-determines_in_front : (f g : Flags) (t u : Tree) → (a b : List ℕ) →
    json_of f t ++ a ≡ json_of g u ++ b → ((f ≡ g) × (t ≡ u)) × (a ≡ b)
json-determines_in_front f g t u a b e = (pattern-determined f g t u).determined a b e

pub json-determines : (f g : Flags) (t u : Tree) → json_of f t ≡ json_of g u → (f ≡ g) × (t ≡ u)
json-determines f g t u e = (json-determines_in_front f g t u [] [] (ap (λ xs. xs ++ []) e)).0
