use Rattle.std.proofs.Common.{arith, ◌≡◌, ◌+◌, ◌++◌, ◌∷◌, ◌∙◌, [], List, ℕ, false, map, take, ap, sym, subst}
use Rattle.std.specs.Box.{boxed_slice_items}
use Rattle.std.proofs.lemmas.List.{map-append, take_all, take_more}
use Rattle.regress_tree.specs.Tree.{leaf, string_set}
use Rattle.regress_prefilter.specs.FirstSets.{IsFirstSet}
use Rattle.regress_prefilter.proofs.FirstSetLemmas.{strings-next, strings-none}
use Rattle.regress_prefilter.proofs.first_sets.first_set_of_strings.Goals as goal

pub loop-string-init : goal.loop-string-init
loop-string-init c = strings-none c.nowhere-all.result

pub loop-string-preserved : goal.loop-string-preserved
loop-string-preserved c =
    let l = c.loop-string in
    let strings = c.args.strings.now in
    let before = map boxed_slice_items (take l.string-index strings) in
    let string = c.string-item.result in
    let more : map boxed_slice_items (take (l.string-index + 1) strings) ≡ before ++ c.deref.result.now ∷ [] =
    ap (map boxed_slice_items) (take_more strings l.string-index string c.loop-string-test.true ∙ ap (λ x. take l.string-index strings ++ x ∷ []) (sym c.string-item.is))
    ∙ map-append boxed_slice_items (take l.string-index strings) (string ∷ []) ∙ ap (λ x. before ++ x ∷ []) (sym c.deref.ensures.value) in
    subst (λ (all : List (List ℕ)). IsFirstSet c.or-all.result (leaf (string_set all false))) (sym more)
    (strings-next l.all c.first_set_of_string.result c.or-all.result before c.deref.result.now c.or-all.ensures l.invariant c.first_set_of_string.ensures)

pub returns : goal.returns
returns c =
    let l = c.loop-string in
    let strings = c.args.strings.now in
    subst (λ all. IsFirstSet l.all (leaf (string_set (map boxed_slice_items all) false)))
    (take_all l.string-index strings (omega (arith, c.loop-string-test.false))) l.invariant
