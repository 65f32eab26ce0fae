use Rattle.std.proofs.Common.{◌≡◌, ◌-◌, ◌≤◌, ℕ, length, take, drop, ap, ◌∙◌, arith, length-drop, take_all}
use Rattle.std.specs.List.{prefix_len}
use Rattle.std.specs.Ordering.{is_eq}
use Rattle.regress_syntax.specs.Numbering.{names_of, name_order}
use Rattle.regress_syntax.proofs.NumberingLemmas.{found_by_order}
use Rattle.regress_syntax.proofs.groups.Groups.numbers_of.Goals as goal

pub returns : goal.returns
returns c =
    let groups = c.args.self.now in
    let name = c.args.name.now in
    let order = name_order (names_of groups.names.items) name in
    let xs = groups.sorted.items in
    let position = c.first_of.result in
    let here : c.deref.result.now ≡ xs = c.deref.ensures.value in
    let whole : take (length xs - position) (drop position xs) ≡ drop position xs = take_all (length xs - position) (drop position xs) (omega (arith, length-drop position xs)) in
    let many : c.how_many_of.result ≡ prefix_len (λ k. is_eq (order k)) (drop position xs) =
    rw (c.deref-4.ensures.value, here, whole) at c.how_many_of.ensures.value in
    let within : position ≤ length xs = rw c.deref-3.ensures.value at c.first_of.ensures.within in
    let point = rw (c.deref-2.ensures.value, c.deref-3.ensures.value) at c.first_of.ensures.position in
    rw here
    (ap (take c.how_many_of.result) whole ∙ ap (λ (n : ℕ). take n (drop position xs)) many
    ∙ found_by_order order xs position (groups.by_name.order name) within point ∙ groups.by_name.each name)
