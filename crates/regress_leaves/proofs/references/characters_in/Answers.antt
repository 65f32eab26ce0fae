use Rattle.std.proofs.Common.{rules, arith, ◌≡◌, ◌-◌, ◌≤◌, inl, inr, ◌++◌, [], ℕ, ◌∙◌, chars, drop, encode_utf8_all, length, sym, ap}
use Rattle.std.proofs.lemmas.Bool.{cases_lt}
use Rattle.std.proofs.lemmas.List.{length-drop, take-append-drop}
use Rattle.std.proofs.lemmas.Str.{chars-nil, encodes-chars}
use Rattle.std.specs.Str.{IsUtf8, IsCharBoundary}
use Rattle.regress_tree.specs.Reading.{of_bytes}
use Rattle.regress_tree.specs.References.{characters_from}
use Rattle.regress_leaves.proofs.ReadingLemmas.{after_none, end_none, read_after_none}
use Rattle.regress_leaves.proofs.ReferenceLemmas.{text-chars, characters_from-text, none_past, read_none}
use Rattle.regress_leaves.proofs.references.characters_in.Goals as goal

pub returns-then-start-end : goal.returns-then-start-end
returns-then-start-end c =
    chars-nil ∙ sym (none_past (of_bytes c.args.text.now) (c.args.end - c.args.start) c.args.start c.args.end c.if-start-end.true)

pub returns-in-Some : goal.returns-in-Some
returns-in-Some c =
    let text = c.args.text.now in
    let part = c.in-Some.part.now in
    let utf8 : IsUtf8 part = search rules in
    let start = c.args.start in
    let end = c.args.end in
    let last = c.ceil_char_boundary.result in
    let whole = c.ceil_char_boundary.ensures in
    let is = c.in-Some.ensures.cases in
    let rest = drop (last - start) (drop start text) in
    let encoded = encodes-chars part utf8 in
    let here : drop start text ≡ encode_utf8_all (chars part) ++ rest =
    sym (take-append-drop (last - start) (drop start text)) ∙ ap (λ xs. xs ++ rest) (sym is.0 ∙ sym encoded) in
    let stop : (n : ℕ) → characters_from (of_bytes text) n last end ≡ [] = λ n.
    elim (cases_lt (length text) end) [
      | inl beyond ↦
          let none : length (drop last text) ≡ 0 = omega (arith, length-drop last text, whole.beyond beyond) in
          read_none (of_bytes text) n last end (read_after_none text last (end_none text last none))
      | inr within ↦ none_past (of_bytes text) n last end (whole.bound within)
    ] in
    sym (characters_from-text text end last whole.nearest stop (end - start) start (chars part) rest (text-chars part utf8) here
    (omega (arith, ap length encoded, is.1)) (omega arith))

pub returns-in-None : goal.returns-in-None
returns-in-None c =
    let text = c.args.text.now in
    let start = c.args.start in
    let end = c.args.end in
    let whole = c.ceil_char_boundary.ensures in
    let off : IsCharBoundary text start → ⊥ = λ on.
    let le : start ≤ c.ceil_char_boundary.result =
    elim (cases_lt (length text) end) [
      | inl beyond ↦ omega (arith, whole.beyond beyond, on.0)
      | inr within ↦ omega (arith, whole.bound within, c.if-start-end.false)
    ] in
    c.in-None.ensures.cases le on whole.boundary in
    chars-nil ∙ sym (read_none (of_bytes text) (end - start) start end (read_after_none text start (after_none text start off)))
