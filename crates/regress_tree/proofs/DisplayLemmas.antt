-- Lemmas about the printed form of a tree.
use Rattle.std.proofs.Common.{◌≡◌, ℕ, zero, suc, ◌+◌, ◌-◌, ◌^◌, false, true, List, [], ◌∷◌, ◌++◌, length, ◌<◌, drop, get_or, replicate, refl, sym, ap, rules, ◌∙◌, arith, append_assoc, append-nil}
use native.Mathlib.Numerals.{unary_clauses}
use Rattle.std.proofs.lemmas.Grind.{common_steps}
use Rattle.std.proofs.Output.{has_written_append, has_written_of_eq}
use Rattle.std.specs.List.{repeat}
use Rattle.std.specs.Result.{IsErr}
use Rattle.std.specs.declared.result.Result.{Result}
use Rattle.std.specs.declared.fmt.Error.{Error}
use Rattle.std.proofs.lemmas.List.{drop_more}
use Rattle.std.specs.Fmt.{HasWritten, WritesOnOk, IsPlainFormatter, digits, padded_integral, format_spec, char_count}
use Rattle.std.specs.declared.fmt.Formatter.{Formatter}
use Rattle.regress_tree.specs.Visits.{deeper}
use Rattle.regress_tree.specs.Copies.{is_leaf}
use Rattle.regress_tree.specs.Tree.{Tree, leaf, cat, alt, wrapped, tree, trees}
use Rattle.regress_tree.specs.declared.ir.node.Node.{Node}
use Rattle.regress_tree.specs.Display.{node_text, line, printed_at, printed_in_list}

-- a number padded with zeros to four digits
pub padded_to_four : (n : ℕ) → padded_integral (format_spec 32 0 4 4 (2 ^ 64 - 1)) false [] (digits 16 true n)
    ≡ replicate (4 - length (digits 16 true n)) 48 ++ digits 16 true n
unfolding padded_integral char_count
padded_to_four n = first_of (search append-nil, grind (arith, common_steps))

-- one more repetition of a text
pub repeat_more : (n : ℕ) (text : List ℕ) → repeat n text ++ text ≡ repeat (n + 1) text
repeat_more zero text = sym (append-nil text)
repeat_more (suc n) text = simp unary_clauses (append_assoc text (repeat n text) text ∙ ap (λ t. text ++ t) (simp unary_clauses at (repeat_more n text)))

-- the lines of what is inside a node at that depth
abbrev pub below : ℕ → Tree → List ℕ
below depth (leaf l) = []
below depth (cat parts) = printed_in_list (deeper depth) parts
below depth (alt left right) = printed_at (deeper depth) left ++ printed_at (deeper depth) right
below depth (wrapped w body) = printed_at (deeper depth) body

-- The line of a node is before the lines of what is inside it.
pub line_first : (depth : ℕ) (t : Tree) → line depth (node_text t) ++ below depth t ≡ printed_at depth t
line_first depth (leaf l) = append-nil _
line_first depth (cat parts) = refl
line_first depth (alt left right) = refl
line_first depth (wrapped w body) = refl

module _ {W : Type 0} (took : W → List ℕ → W → Type 0) where
  -- A line, and then what is inside, are written.
  pub inside_written : (depth : ℕ) (t : Tree) (f g h : Formatter W) → HasWritten took f (line depth (node_text t)) g →
      HasWritten took g (below depth t) h → HasWritten took f (printed_at depth t) h
  inside_written depth t f g h own inside = has_written_of_eq took _ _ _ _ (line_first depth t) (has_written_append took _ _ _ _ _ own inside)

  pub leaf_written : (depth : ℕ) (t : Tree) (f g : Formatter W) → is_leaf t ≡ true → HasWritten took f (line depth (node_text t)) g →
      HasWritten took f (printed_at depth t) g
  leaf_written depth (leaf l) f g is own = own
  leaf_written depth (cat parts) f g is own = cc
  leaf_written depth (alt left right) f g is own = cc
  leaf_written depth (wrapped w body) f g is own = cc

  -- One more part of a list, and then the others, are written.
  pub part_written : (depth : ℕ) (parts : List Node) (i : ℕ) (part : Node) (f g h : Formatter W) → i < length parts → part ≡ get_or parts i part →
      HasWritten took f (printed_at depth (tree part)) g → HasWritten took g (printed_in_list depth (trees (drop (i + 1) parts))) h →
      HasWritten took f (printed_in_list depth (trees (drop i parts))) h
  part_written depth parts i part f g h within is own rest =
      let cut = drop_more parts i part within ∙ ap (λ n. n ∷ drop (i + 1) parts) (sym is) in
      rw cut (has_written_append took _ _ _ _ _ own rest)

  -- For an error the contract states nothing.
  pub nothing_on_err : (f g : Formatter W) (r : Result (Unit {0}) Error) (text : List ℕ) → IsErr r → WritesOnOk took f r text g
  nothing_on_err f g r text failed plain ok = first_of (search (rules, failed, ok), grind (arith, failed, ok))

  pub has_written_nothing : (f : Formatter W) → IsPlainFormatter f → HasWritten took f [] f
  has_written_nothing f plain = search (rules, plain)
