use Rattle.std.proofs.Common.{◌≡◌, ◌∙◌, ◌+◌, ◌≤◌, ◌++◌, [], ap, append-nil, get_or, length, map, refl, rules, slice_range, sym}
use Rattle.std.specs.Prelude.{string_bytes}
use Rattle.regex_lines.specs.Reply.{run_of}
use Rattle.regex_lines.specs.declared.runs.Run as code
use Rattle.regex_lines.proofs.ReplyLemmas.{ends_before, last_replaced, next_replaced, slice_to_end}
use Rattle.regex_lines.proofs.reply.add_replaced.Goals as goal

-- the item of a list that is empty
abbrev no_run : code.Run
no_run = record { start = 0; text = record { ref_ptr = (0, 0); now = [] } }

pub loop-run-init : goal.loop-run-init
loop-run-init c = record { added = []; is = sym (append-nil c.args.to.now.items); more = λ rest h. h; order = c.requires }

pub slice_bounds-extend_from_slice-end : goal.slice_bounds-extend_from_slice-end
slice_bounds-extend_from_slice-end c =
    let run = get_or c.args.line.texts.now c.loop-run.run-index no_run in
    let within : run.start + length run.text.now ≤ length c.args.line.bytes.now =
    ends_before c.args.searcher.now.regex.now c.args.line.bytes.now c.args.replacement.template.now c.args.to.now.items c.args.replacement.limit
    (map run_of c.args.line.texts.now)
    c.args.line.texts.now c.loop-run.run-index no_run c.loop-run-test.true c.loop-run.limit c.loop-run.from c.loop-run.to.items c.loop-run.invariant in
    search rules

pub overflow_add-from : goal.overflow_add-from
overflow_add-from c =
    let run = get_or c.args.line.texts.now c.loop-run.run-index no_run in
    let within : run.start + length run.text.now ≤ length c.args.line.bytes.now =
    ends_before c.args.searcher.now.regex.now c.args.line.bytes.now c.args.replacement.template.now c.args.to.now.items c.args.replacement.limit
    (map run_of c.args.line.texts.now)
    c.args.line.texts.now c.loop-run.run-index no_run c.loop-run-test.true c.loop-run.limit c.loop-run.from c.loop-run.to.items c.loop-run.invariant in
    search rules

pub loop-run-preserved : goal.loop-run-preserved
loop-run-preserved c =
    let run = get_or c.args.line.texts.now c.loop-run.run-index no_run in
    let added : c.extend_from_slice-in-loop-run.new.self.items
    ≡ (c.loop-run.to.items ++ slice_range c.args.line.bytes.now c.loop-run.from run.start) ++ string_bytes c.in_ok-text.text =
    rw (c.in_ok-extend_from_slice-2.ensures.items, c.in_ok-extend_from_slice.ensures.items, c.as_bytes.ensures.value) refl in
    next_replaced c.args.searcher.now.regex.now c.args.line.bytes.now c.args.replacement.template.now c.args.to.now.items c.args.replacement.limit
    (map run_of c.args.line.texts.now)
    c.args.line.texts.now c.loop-run.run-index no_run c.loop-run-test.true c.loop-run.limit c.loop-run.from c.loop-run.to.items c.loop-run.invariant
    (string_bytes c.in_ok-text.text) _ _ c.in_ok-text.ensures.replaced added

pub returns-clause-replaced : goal.returns-clause-replaced
returns-clause-replaced c =
    let line = c.args.line.bytes.now in
    let done = c.loop-run.to.items in
    let last = last_replaced c.args.searcher.now.regex.now line c.args.replacement.template.now c.args.to.now.items c.args.replacement.limit
    (map run_of c.args.line.texts.now)
    c.args.line.texts.now c.loop-run.run-index c.loop-run-test.false c.loop-run.limit c.loop-run.from done c.loop-run.invariant in
    (last.0, last.1, c.in_ok-extend_from_slice-3.ensures.items ∙ ap (λ rest. done ++ rest) (slice_to_end line c.loop-run.from) ∙ last.2)
