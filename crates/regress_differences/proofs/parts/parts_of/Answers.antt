use Rattle.std.proofs.Common.{◌==◌, map, ap, sym, ◌∙◌}
use Rattle.std.specs.List.{zip}
use Rattle.regress_syntax.specs.Meaning.{setting_of}
use Rattle.regress_spans.specs.Paired.{postorder}
use Rattle.regress_tree.specs.Tree.{tree}
use Rattle.regress_differences.specs.Reported.{has_other_flags, is_error, others_among}
use Rattle.regress_differences.specs.Views.{part_at}
use Rattle.regress_differences.proofs.PartLemmas.{no_part, nodes_where_other, none_where_same, one_where, some_part, whole_where, whole_where_other}
use Rattle.regress_differences.proofs.parts.parts_of.Goals as goal

pub returns-in-Same-clause-parts : goal.returns-in-Same-clause-parts
returns-in-Same-clause-parts c =
    let t = tree c.args.parsed.now.regex.node in
    none_where_same (setting_of c.args.parsed.now.regex.flags c.args.tables.now) c.args.pattern.now t (zip (postorder t) c.args.parsed.now.spans.items) _
    (ap (map part_at) c.new.ensures.items) (rw c.in-Same.is at c.in_ok-in_ecma.ensures.found)

pub returns-then-is_empty-clause-parts : goal.returns-then-is_empty-clause-parts
returns-then-is_empty-clause-parts c =
    let setting = setting_of c.args.parsed.now.regex.flags c.args.tables.now in
    let source = c.args.pattern.now in
    let t = tree c.args.parsed.now.regex.node in
    let nodes = zip (postorder t) c.args.parsed.now.spans.items in
    let other = c.in-Other.other in
    let others = zip (postorder (tree other.regex.node)) other.spans.items in
    let found = rw c.in-Other.is at c.in_ok-in_ecma.ensures.found in
    let none =
    no_part c.in_ok-found-in-Other.found.items (ap (λ n. n == 0) (sym c.in_ok-found-in-Other.found.ok.0) ∙ sym c.is_empty.ensures ∙ c.if-is_empty.true)
    (others_among nodes others) c.in_ok-found-in-Other.ensures in
    one_where setting source t nodes (λ parts. map part_at parts.items) c.whole.result c.one_place.result c.one_place.ensures
    (whole_where setting source t nodes c.whole.result c.whole.ensures (whole_where_other setting source t nodes others none found.0 found.1))

pub returns-in-Other-clause-parts : goal.returns-in-Other-clause-parts
returns-in-Other-clause-parts c =
    let t = tree c.args.parsed.now.regex.node in
    let other = c.in-Other.other in
    let found = rw c.in-Other.is at c.in_ok-in_ecma.ensures.found in
    nodes_where_other (setting_of c.args.parsed.now.regex.flags c.args.tables.now) c.args.pattern.now t (zip (postorder t) c.args.parsed.now.spans.items)
    _ (zip (postorder (tree other.regex.node)) other.spans.items) c.in_ok-found-in-Other.ensures
    (some_part c.in_ok-found-in-Other.found.items (ap (λ n. n == 0) (sym c.in_ok-found-in-Other.found.ok.0) ∙ sym c.is_empty.ensures ∙ c.if-is_empty.false))
    found.0 found.1

pub returns-in-Rejected-clause-parts : goal.returns-in-Rejected-clause-parts
returns-in-Rejected-clause-parts c =
    let t = tree c.args.parsed.now.regex.node in
    let found = rw c.in-Rejected.is at c.in_ok-in_ecma.ensures.found in
    one_where (setting_of c.args.parsed.now.regex.flags c.args.tables.now) c.args.pattern.now t (zip (postorder t) c.args.parsed.now.spans.items)
    (λ parts. map part_at parts.items) c.in-Rejected.place c.one_place-in-Rejected.result c.one_place-in-Rejected.ensures (is_error found.0 found.1)

pub returns-clause-parts : goal.returns-clause-parts
returns-clause-parts c =
    let setting = setting_of c.args.parsed.now.regex.flags c.args.tables.now in
    let source = c.args.pattern.now in
    let t = tree c.args.parsed.now.regex.node in
    let nodes = zip (postorder t) c.args.parsed.now.spans.items in
    let found = rw c.in-OtherFlags.is at c.in_ok-in_ecma.ensures.found in
    one_where setting source t nodes (λ parts. map part_at parts.items) c.whole-in-OtherFlags.result c.one_place-in-OtherFlags.result
    c.one_place-in-OtherFlags.ensures (whole_where setting source t nodes c.whole-in-OtherFlags.result c.whole-in-OtherFlags.ensures (has_other_flags found))
