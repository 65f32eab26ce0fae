-- Appending JSON text to what a formatter has written.
use Rattle.std.proofs.Common.{◌≡◌, ◌∙◌, ℕ, zero, suc, ◌+◌, ◌<◌, ◌^◌, true, false, List, [], ◌∷◌, ◌++◌, length, get_or, take, drop, map, flat_map, refl, sym, ap, add-one, append_assoc, append-nil, codes, Option, Some, None, Bor, Vec, Box, Global, rules, arith}
use denote.Text.{Utf8}
use denote.Shadow.{shadow}
use lib.Utf8.{encode}
use Rattle.std.specs.Slice.Iter.{iter_rest, iter_steps}
use Rattle.std.specs.declared.slice.Iter.{Iter}
use Rattle.std.specs.List.{slice_get, join_by}
use Rattle.std.specs.Fmt.{decimal, HasWritten, IsPlainFormatter}
use Rattle.std.specs.declared.fmt.Formatter.{Formatter}
use Rattle.std.proofs.Math.Nat.{add-zero}
use Rattle.std.proofs.lemmas.List.Folds.{flat_map-map}
use Rattle.std.proofs.lemmas.List.{drop-drop, flat_map_more, take_more}
use Rattle.regress_parse.specs.declared.span.Span.{Span}
use Rattle.regress_tree.specs.Copies.{is_leaf}
use Rattle.regress_tree.specs.Held.{is_wrapper, HasBody}
use Rattle.regress_tree.specs.Spine.{is_alt}
use Rattle.regress_tree.specs.Tree.{Tree, leaf, cat, alt, wrapped, tree}
use Rattle.regress_tree.specs.Visits.{nodes, nodes_in_list}
use Rattle.regress_tree.specs.declared.ir.node.Node.{Node, the_lemmas}
use Rattle.regress_tree.specs.declared.ir.node.Node.TheVariants.{Cat, Alt}
use Rattle.regress_json.specs.Json.{pair, opening, ending, node_json, further_json, list_json, span_or_none, span_mark}
use Rattle.regress_json.specs.Passed.{alternations}
use Rattle.regress_json.proofs.NumeralLemmas.{decimal-numeral}

-- the text of a node up to its mark; the first node is numbered `at`
module _ (mark : ℕ → List ℕ) (at : ℕ) where
  abbrev pub unended : Tree → List ℕ
  unended (leaf l) = opening (leaf l)
  unended (cat parts) = opening (cat parts) ++ (list_json mark at true parts ++ codes "]")
  unended (alt left right) = opening (alt left right) ++ (node_json mark at left ++ (further_json mark (at + nodes left) right ++ codes "]"))
  unended (wrapped w body) = opening (wrapped w body) ++ node_json mark at body

  pub unended-leaf : (t : Tree) → is_leaf t ≡ true → opening t ≡ unended t
  unended-leaf (leaf l) is = refl
  unended-leaf (cat parts) is = cc
  unended-leaf (alt left right) is = cc
  unended-leaf (wrapped w body) is = cc

  pub unended-around : (t body : Tree) → HasBody t body → opening t ++ node_json mark at body ≡ unended t
  unended-around t body around = ap (λ u. opening u ++ node_json mark at body) around.is ∙ sym (ap unended around.is)

-- the number of nodes inside a node
abbrev pub within : Tree → ℕ
within (leaf l) = 0
within (cat parts) = nodes_in_list parts
within (alt left right) = nodes left + nodes right
within (wrapped w body) = nodes body

pub within-leaf : (t : Tree) → is_leaf t ≡ true → within t ≡ 0
within-leaf (leaf l) is = refl
within-leaf (cat parts) is = cc
within-leaf (alt left right) is = cc
within-leaf (wrapped w body) is = cc

pub within-around : (t body : Tree) → HasBody t body → within t ≡ nodes body
within-around t body around = ap within around.is

pub nodes-within : (t : Tree) → nodes t ≡ within t + 1
nodes-within (leaf l) = refl
nodes-within (cat parts) = omega arith
nodes-within (alt left right) = omega arith
nodes-within (wrapped w body) = omega arith

pub unended-ended : (mark : ℕ → List ℕ) (at : ℕ) (t : Tree) → unended mark at t ++ ending mark (at + within t) ≡ node_json mark at t
unended-ended mark at (leaf l) = ap (λ n. opening (leaf l) ++ ending mark n) (add-zero at)
unended-ended mark at (cat parts) = simp append_assoc
unended-ended mark at (alt left right) = simp append_assoc
unended-ended mark at (wrapped w body) = simp append_assoc

-- the number of nodes of a right side that have an object of their own
abbrev pub shown : Tree → ℕ
shown (leaf l) = 1
shown (cat parts) = nodes (cat parts)
shown (alt left right) = nodes left + shown right
shown (wrapped w body) = nodes (wrapped w body)

pub shown-last : (t : Tree) → is_alt t ≡ false → nodes t ≡ shown t
shown-last (leaf l) not_alt = refl
shown-last (cat parts) not_alt = refl
shown-last (alt left right) not_alt = cc
shown-last (wrapped w body) not_alt = refl

pub nodes-shown : (t : Tree) → nodes t ≡ shown t + alternations t
nodes-shown (leaf l) = refl
nodes-shown (cat parts) = omega arith
nodes-shown (alt left right) = let below = nodes-shown right in omega (arith, below)
nodes-shown (wrapped w body) = omega arith

-- the last alternative
pub further_last : (mark : ℕ → List ℕ) (at : ℕ) (t : Tree) → is_alt t ≡ false → codes "," ++ node_json mark at t ≡ further_json mark at t
further_last mark at (leaf l) not_alt = refl
further_last mark at (cat parts) not_alt = refl
further_last mark at (alt left right) not_alt = cc
further_last mark at (wrapped w body) not_alt = refl

-- skipping m spans and then n spans skips m + n
pub passed-more : (all left after : List Span) (m n : ℕ) → left ≡ drop m all → after ≡ drop n left → after ≡ drop (m + n) all
passed-more all left after m n before then = then ∙ ap (drop n) before ∙ drop-drop n m all

slice_get-drop : (all : List Span) (number : ℕ) → slice_get (drop number all) 0 ≡ slice_get all number
slice_get-drop all zero = refl
slice_get-drop [] (suc number) = refl
slice_get-drop (s ∷ spans) (suc number) = slice_get-drop spans number

-- the mark of the first remaining node
pub mark-first : (all left : List Span) (number : ℕ) → left ≡ drop number all → ending (span_mark left) 0 ≡ ending (span_mark all) number
mark-first all left number is =
    ap (λ s. span_or_none s ++ codes "}") (ap (λ spans. slice_get spans 0) is ∙ slice_get-drop all number)

drop-none : (spans : List Span) → length spans ≡ 0 → drop 1 spans ≡ spans
drop-none [] none = refl
drop-none (s ∷ spans) none = cc

-- the next span is consumed, if there is one
pub next-passed : (before after : Iter Span) (r : Option (Bor Span)) → iter_steps before r after → iter_rest after ≡ drop 1 (iter_rest before)
next-passed before after None (none, same) = ap iter_rest same ∙ sym (drop-none (iter_rest before) none)
next-passed before after (Some s) is = ap (drop 1) (sym is)

-- Text written from the node `now` on, whose span is the next one, completes the whole text from the node `at` on.
pub record Completes {W : Type 0} (took : W → List ℕ → W → Type 0) (from to : Formatter W) (all left : List Span) (whole rest : ℕ → List ℕ)
    (at : ℕ) : Type 0 where
  pub now : ℕ
  pub plain : IsPlainFormatter to
  pub spans : left ≡ drop now all
  pub completes : (last : Formatter W) → HasWritten took to (rest now) last → HasWritten took from (whole at) last

-- the text before the item with that index
abbrev pub separator : ℕ → List ℕ
separator zero = []
separator (suc i) = codes ","

pub to-left : (a b c d : List ℕ) → a ++ ((b ++ c) ++ d) ≡ ((a ++ b) ++ c) ++ d
to-left a b c d = simp append_assoc

pub pair-after : (s : List ℕ) (a b : ℕ) → a < 2 ^ 64 → b < 2 ^ 64 → s ++ (codes "[" ++ (decimal a ++ (codes "," ++ (decimal b ++ codes "]")))) ≡ s ++ pair a b
pair-after s a b ha hb = ap (λ t. s ++ t) (rw (decimal-numeral a ha, decimal-numeral b hb) (simp append_assoc))

pub comma-is_text : shadow (Utf8 (codes ","))
unfolding encode
comma-is_text = (codes ",", (refl, refl))

-- one more item after those so far
pub join-more : {X : Type 0} (f : X → List ℕ) (xs : List X) (i : ℕ) (x : X) (comma : List ℕ) → i < length xs → comma ≡ separator i →
    x ≡ get_or xs i x → join_by f (codes ",") (take i xs) ++ (comma ++ f x) ≡ join_by f (codes ",") (take (i + 1) xs)
join-more f [] i x comma inside is here = absurd (omega arith)
join-more f (y ∷ xs) zero x comma inside is here = rw (is, here) (sym (append-nil (f y)))
join-more f (y ∷ xs) (suc i) x comma inside is here =
    let after : i < length xs = omega arith in
    rw (add-one, is) (flat_map_more (λ z. codes "," ++ f z) (f y) (take i xs) x
    ∙ ap (λ zs. f y ++ flat_map (λ z. codes "," ++ f z) zs)
    (ap (λ z. take i xs ++ (z ∷ [])) here ∙ sym (ap (λ n. take n xs) (sym (add-one i)) ∙ take_more xs i x after)))

pub join-map : {X Y : Type 0} (f : Y → List ℕ) (g : X → Y) (xs : List X) →
    join_by (λ x. f (g x)) (codes ",") xs ≡ join_by f (codes ",") (map g xs)
join-map f g [] = refl
join-map f g (x ∷ xs) = ap (λ after. f (g x) ++ after) (sym (flat_map-map (λ y. codes "," ++ f y) g xs))
