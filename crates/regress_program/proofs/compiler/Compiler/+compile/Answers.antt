-- Each kind of node.
use Rattle.std.proofs.Common.{rules, true, ◌≡◌, ◌≤◌, ℕ, ◌+◌, ◌-◌, ◌*◌, ◌<◌, [], ◌∷◌, ◌++◌, drop, map, length, All, Some, refl, sym, ap, ap₂, subst, ◌∙◌, le_refl, le_trans, arith, ◌||◌, nat_lt, false, List, None}
use Rattle.std.specs.Box.{boxed_slice_items}
use Rattle.std.proofs.lemmas.Result.{IfErr-weaker, IfOk-weaker}
use Rattle.std.proofs.lemmas.List.{drop_all, length-append, length-map, length_push, map-append, nil_from_length, length-set}
use Rattle.regress_prefilter.specs.OneCharacter.{takes_one}
use Rattle.regress_tree.proofs.lemmas.Nodes.{tree-Empty, tree-Goal, tree-Alt, tree-CaptureGroup, tree-LookaroundAssertion, tree-Loop}
use Rattle.regress_tree.proofs.lemmas.Visits.{right_smaller}
use Rattle.regress_leaves.specs.Leaves.{has_one_outcome}
use Rattle.regress_tree.specs.declared.ir.node.Node.{the_lemmas}
use Rattle.regress_tree.specs.Reading.{direction_if, Direction}
use Rattle.regress_tree.specs.Tree.{Tree, alt, cat, loop, loop_one, tree, trees, wrapped}
use Rattle.regress_program.specs.Alternatives.{HasLeft, Waiting}
use Rattle.regress_program.specs.Adds.{Covers, Holds, Tidies}
use Rattle.regress_program.specs.CodeOf.{code_in, iterating, iteration_of, iteration_size, loop_of, Emits, Exceeds, Spends, EmitsCopies}
use Rattle.regress_program.specs.Compiled.{matching, strings, exactly, optional, any_number, extra, Code, Compiled}
use Rattle.regress_program.specs.Contents.{nothing, content, content_of_parts, either_of, in_iteration, in_iterations, in_loop}
use Rattle.regress_program.specs.LeavesOf.{leaves_of, leaves_of_loop, leaves_of_parts, leaves_of_strings}
use Rattle.regress_program.specs.Listed.{Appends, all_of, listed, IsAlone}
use Rattle.regress_program.specs.Program.{part}
use Rattle.regress_program.specs.Pushed.{Pushed}
use Rattle.regress_program.specs.declared.loops.Iterations.{Iterations}
use Rattle.regress_program.specs.Size.{sized, sized_parts, size_of_loop, is_copied, size_of_characters, size_of_exactly, size_of_extra, size_of_up_to, size_of_iteration}
use Rattle.regress_program.specs.Views.{leaf_in, ops_in, routine_in, program_in}
use Rattle.regress_program.proofs.AddLemmas.{IsPartOf, part-same, part-left, part-right, adds-none, adds-part, adds-then, longer, longer-push, pushed-ops, pushed-routines}
use Rattle.regress_program.proofs.AlternativeLemmas.{waiting_none, waiting_push, waiting_pop, waiting_later, waiting_done, compiled_alternative, tidies_alternative}
use Rattle.regress_program.proofs.AppendLemmas.{Appends-none, Appends-then, alone-after}
use Rattle.regress_program.proofs.CodeLemmas.{Grown-same, Grown-then, Grown-push}
use Rattle.regress_program.proofs.CompileLemmas.{compiled_nothing, compiled_part, compiled_group, compiled_unset, compiled_without_groups, compiled_earlier, compiled_later}
use Rattle.regress_program.proofs.CountLemmas.{compiled_counted, compiled_plain}
use Rattle.regress_program.proofs.CoverLemmas.{HasNone, covers_either, covers_earlier, covers_group, covers_later, covers_leaf, covers_look, covers_none, covers_routine, covers_sequence, covers_unset, covers_without_groups, longer-then, never_has, no_more_none, none_characters, none_nothing, none_one}
use Rattle.regress_program.proofs.LeavesLemmas.{has-at, has-first, has-leaf, has-room, has-same, has-second, many-wrapped, never-bounds, never-leaves, one-leaf, one-wrapped, optional_copies, parts-leaves}
use Rattle.regress_program.proofs.PieceLemmas.{part-then, tidies_later, tidies_earlier, tidies_or, holds_less, holds_nothing, holds_part, holds_group, holds_unset, less_without_groups, holds_plain, holds_look, holds_routine, holds_counted, holds_sequence, adds_split, plain_leaf}
use Rattle.regress_program.proofs.PushLemmas.{IfOk-both, names-none, names-one, names-two}
use Rattle.regress_program.proofs.SpendLemmas.{Spends-none, Spends-routine, Spends-same, Spends-then, exceeds-more, exceeds-then, Amount}
use Rattle.std.proofs.lemmas.List.Elements.{All-nil, All-pop, All-push, All-same, All-weaker}
use Rattle.regress_program.specs.declared.copies.Instructions.{Instructions}
use Rattle.regress_program.proofs.RepeatLemmas.{compiled_never, compiled_unbounded, compiled_bounded, compiled_repeated}
use Rattle.regress_program.proofs.RoutineLemmas.{compiled_look, has_routine}
use Rattle.regress_program.proofs.SizeLemmas.{too_long, copies-more, parts-more, parts-within}
use Rattle.regress_program.proofs.ViewLemmas.{below, part_if_leaf, nothing_at_empty, nothing_at_goal, sequence_more}
use Rattle.regress_program.proofs.lemmas.Onward.{Stays-iteration, Stays-tree}
use Rattle.regress_program.proofs.compiler.Compiler.+compile.Goals.{iteration-else-not-begins-via-then-not-begins+else-self-before, iteration-else-not-begins-via-else-not-begins, repeat-in-None+in_ok-entry-in-None, repeat-in-Some+in_ok-entry-in-Some, repeat_character-in-None+in_ok-entry-in-None, repeat_character-in-Some+in_ok-entry-in-Some}
use Rattle.regress_program.proofs.CopiedLemmas.{HasCopied, emits-copied, optional-copied}
use Rattle.regress_program.proofs.CopySpends.{all-stored, some-copied, exceeds-again, exceeds-another, exceeds-begin, exceeds-begun, exceeds-copies, exceeds-end, exceeds-ended, exceeds-last, exceeds-next, exceeds-one, exceeds-optional-copies, exceeds-repeat, exceeds-start, spends-begun, spends-exactly, spends-no-optional, spends-optional}
use Rattle.regress_program.proofs.ExactlyLemmas.{emits-more, emits-none, emits-loop}
use Rattle.regress_program.proofs.LoopLemmas.{exceeds-pushed, spends-body, spends-pushed, Spends-plain, characters-none, characters-some, characters_size, emits-repeated, exceeds-extra, exceeds-least, extra-none, extra-some, extra_size, loop-bounded, loop-unbounded, many-loop-size, one-loop-size, single-size, spends-loop, spends-never, exceeds-plain}
use Rattle.regress_program.proofs.OptionalLemmas.{EmitsOptional, emits-any_number, optional-begun, optional-last, optional-more, optional-none}
use Rattle.regress_program.specs.declared.compiler.Compiler.{Compiler}
use Rattle.regress_program.proofs.lemmas.Tidy.{or_none}
use Rattle.std.proofs.lemmas.Bool.{ltb-false}
use Rattle.regress_tree.specs.Steps.{Setting}
use Rattle.regress_program.specs.Stays.{Stays}
use Rattle.regress_program.specs.declared.counts.Counts.TheVariants.{Unbounded}
use Rattle.regress_program.specs.declared.instruction.Instruction.TheVariants as insts
use Rattle.regress_program.specs.declared.instruction.Routine as declared
use Rattle.regress_program.proofs.compiler.Compiler.+compile.Goals as goal

-- ---- loops

pub exactly_iterations-exactly_copied-requires : goal.exactly_iterations-exactly_copied-requires
exactly_iterations-exactly_copied-requires t c =
    let copied = some-copied c.args.iterations.counts c.args.count (sym c.has_copies.ensures ∙ c.if-has_copies.true) in
    (search rules, (c.requires, copied))

pub at_most-at_most_copied-requires : goal.at_most-at_most_copied-requires
at_most-at_most_copied-requires t c =
    let copied = some-copied c.args.iterations.counts c.args.count (sym c.has_copies.ensures ∙ c.if-has_copies.true) in
    (search rules, (c.requires, copied))

pub exactly_iterations-loop-i-init : goal.exactly_iterations-loop-i-init
exactly_iterations-loop-i-init t c =
    let z = c.args.self.now in
    let i = c.args.iterations in
    let n : Amount = iteration_size i (tree c.args.body.now) in
    record {
      emits =
          emits-none z i.first_leaf (leaves_of (tree c.args.body.now)) (iterating i (matching (tree c.args.body.now)))
          (iteration_of i (content (tree c.args.body.now))) c.args.next c.requires;
      none = λ is. refl;
      spent = Spends-same z z i.counts (λ counted. 0) (λ counted. n counted * 0) (λ counted. omega arith) (Spends-none z i.counts);
    }

pub exactly_iterations-loop-i-preserved : goal.exactly_iterations-loop-i-preserved
exactly_iterations-loop-i-preserved t c =
    let l = c.loop-i in
    let z = c.args.self.now in
    let new = c.iteration.new.self in
    let i = c.args.iterations in
    let n : Amount = iteration_size i (tree c.args.body.now) in
    record {
      emits =
          emits-more z i.first_leaf (leaves_of (tree c.args.body.now)) (iterating i (matching (tree c.args.body.now)))
          (iteration_of i (content (tree c.args.body.now))) c.args.next l.self new l.entry c.in_ok-entry.entry l._i l.invariant.emits c.in_ok-entry.ensures.emits;
      none = λ is. absurd (omega (arith, is));
      spent =
          Spends-same z new i.counts (λ counted. n counted * l._i + n counted) (λ counted. n counted * (l._i + 1)) (λ counted. sym (copies-more (n counted) l._i))
          (Spends-then z l.self new i.counts (λ counted. n counted * l._i) n l.invariant.spent c.in_ok-entry.ensures.spends);
    }

pub exactly_iterations-returns-clause-emits : goal.exactly_iterations-returns-clause-emits
exactly_iterations-returns-clause-emits t c =
    let l = c.loop-i in
    let i = c.args.iterations in
    let all : l._i ≡ c.args.count = omega (arith, l.auto._i-end, c.loop-i-test.false) in
    subst
    (λ (k : ℕ). EmitsCopies c.args.self.now l.self i.first_leaf (leaves_of (tree c.args.body.now)) k (exactly k (iterating i (matching (tree c.args.body.now))))
    (loop_of i (content (tree c.args.body.now))) c.args.next l.entry) all l.invariant.emits

pub exactly_iterations-returns-in_err-entry-clause-too_long : goal.exactly_iterations-returns-in_err-entry-clause-too_long
exactly_iterations-returns-in_err-entry-clause-too_long t c =
    let l = c.loop-i in
    let i = c.args.iterations in
    let stored = all-stored i.counts c.args.count (sym c.has_copies.ensures ∙ c.if-has_copies.false) in
    too_long c.from_residual.result _ _ c.from_residual.ensures.1
    (λ is.
    exceeds-next c.args.self.now l.self i.counts (iteration_size i (tree c.args.body.now)) c.args.count l._i stored (omega (arith, c.loop-i-test.true, l.auto._i-end))
    l.invariant.spent (c.in_err-entry.ensures.too_long is))

pub exactly_copied-returns-in_err-added-clause-too_long : goal.exactly_copied-returns-in_err-added-clause-too_long
exactly_copied-returns-in_err-added-clause-too_long t c =
    let z = c.args.self.now in
    let a = c.iteration.new.self in
    let b = c.iteration-2.new.self in
    let i = c.args.iterations in
    let n : Amount = iteration_size i (tree c.args.body.now) in
    let last = c.in_ok-last.last in
    let entry = c.in_ok-entry.entry in
    let width : ℕ = length (all_of b.instructions) - c.len-start.result in
    let count : ℕ = c.args.count - 2 in
    let number : c.args.count ≡ count + 2 = omega (arith, c.requires.more) in
    let wide : length (all_of b.instructions) ≡ length (all_of a.instructions) + width =
    omega (arith, c.len-start.ensures, c.in_ok-entry.ensures.emits.appends.all.grown) in
    too_long c.from_residual-in_err-added.result _ _ c.from_residual-in_err-added.ensures.1
    (λ is.
    exceeds-copies i.counts n count c.args.count c.requires.copied number z a b width c.in_ok-last.ensures.spends c.in_ok-entry.ensures.spends wide
    (c.in_err-added.ensures.too_long is))

pub exactly_copied-returns-clause-emits : goal.exactly_copied-returns-clause-emits
exactly_copied-returns-clause-emits t c =
    let z = c.args.self.now in
    let a = c.iteration.new.self in
    let b = c.iteration-2.new.self in
    let i = c.args.iterations in
    let n : Amount = iteration_size i (tree c.args.body.now) in
    let last = c.in_ok-last.last in
    let entry = c.in_ok-entry.entry in
    let width : ℕ = length (all_of b.instructions) - c.len-start.result in
    let count : ℕ = c.args.count - 2 in
    let number : c.args.count ≡ count + 2 = omega (arith, c.requires.more) in
    let wide : length (all_of b.instructions) ≡ length (all_of a.instructions) + width =
    omega (arith, c.len-start.ensures, c.in_ok-entry.ensures.emits.appends.all.grown) in
    let e = c.copy.new.self in
    let copied : HasCopied b e last width count = record {
      all = c.in_ok-added.ensures.copied;
      routines = c.in_ok-added.ensures.rest;
      left = ap (λ k. e.left + k) (sym c.in_ok-added.ensures.added) ∙ c.in_ok-added.ensures.left;
      leaf = c.in_ok-added.ensures.leaf;
      stored_left = c.in_ok-added.ensures.stored;
      stored = c.in_ok-added.ensures.kept;
    } in
    let f = iterating i (matching (tree c.args.body.now)) in
    let cf = iteration_of i (content (tree c.args.body.now)) in
    let ts = leaves_of (tree c.args.body.now) in
    let last_is = c.in_ok-last.ensures.last c.requires.copied in
    let entry_is = c.in_ok-entry.ensures.last c.requires.copied in
    let more = c.in_ok-entry.ensures.more c.requires.copied in
    let first = c.in_ok-last.ensures.emits in
    let second = c.in_ok-entry.ensures.emits in
    let appends : Appends z.instructions e.instructions =
    c.in_ok-added.ensures.appends z.instructions (omega (arith, c.len-start.ensures, first.appends.all.grown))
    (Appends-then z.instructions a.instructions b.instructions first.appends second.appends) in
    subst (λ k. EmitsCopies z e i.first_leaf ts c.args.count (exactly c.args.count f) (loop_of i (content (tree c.args.body.now))) c.args.next (entry + k))
    (sym c.in_ok-added.ensures.added)
    (emits-copied z a b e i.first_leaf ts f cf c.args.next last entry width count c.args.count c.requires.below first second last_is entry_is wide
    (omega (arith, entry_is, more, wide)) number copied appends)

pub exactly_copied-returns-clause-spends : goal.exactly_copied-returns-clause-spends
exactly_copied-returns-clause-spends t c =
    let z = c.args.self.now in
    let a = c.iteration.new.self in
    let b = c.iteration-2.new.self in
    let i = c.args.iterations in
    let n : Amount = iteration_size i (tree c.args.body.now) in
    let last = c.in_ok-last.last in
    let entry = c.in_ok-entry.entry in
    let width : ℕ = length (all_of b.instructions) - c.len-start.result in
    let count : ℕ = c.args.count - 2 in
    let number : c.args.count ≡ count + 2 = omega (arith, c.requires.more) in
    let wide : length (all_of b.instructions) ≡ length (all_of a.instructions) + width =
    omega (arith, c.len-start.ensures, c.in_ok-entry.ensures.emits.appends.all.grown) in
    let e = c.copy.new.self in
    let copied : HasCopied b e last width count = record {
      all = c.in_ok-added.ensures.copied;
      routines = c.in_ok-added.ensures.rest;
      left = ap (λ k. e.left + k) (sym c.in_ok-added.ensures.added) ∙ c.in_ok-added.ensures.left;
      leaf = c.in_ok-added.ensures.leaf;
      stored_left = c.in_ok-added.ensures.stored;
      stored = c.in_ok-added.ensures.kept;
    } in
    spends-exactly i.counts n count c.args.count c.requires.copied number z a b e last width c.in_ok-last.ensures.spends c.in_ok-entry.ensures.spends wide copied

pub any_number-set-requires-clause-alone : goal.any_number-set-requires-clause-alone
any_number-set-requires-clause-alone t c =
    let p = c.push.new.self in
    let z = c.args.self.now in
    subst (IsAlone c.iteration.new.self.instructions) (sym c.in_ok-again.ensures.emits.at_end)
    (alone-after z.instructions p.instructions c.iteration.new.self.instructions c.push.ensures.copies c.in_ok-again.ensures.emits.grown
    c.in_ok-start.ensures.emits.appends)

pub any_number-invariant_of-self : goal.any_number-invariant_of-self
any_number-invariant_of-self t c = record {
  room = omega (
    arith,
    c.iteration.new.self.room,
    ap length c.set.ensures.set,
    length-set (all_of c.iteration.new.self.instructions) c.in_ok-again.again (insts.Repeat c.args.iterations.greedy c.in_ok-start.start c.args.next),
  );
}

pub any_number-returns-clause-emits : goal.any_number-returns-clause-emits
any_number-returns-clause-emits t c =
    let z = c.args.self.now in
    let i = c.args.iterations in
    let n : Amount = iteration_size i (tree c.args.body.now) in
    let f = iterating i (matching (tree c.args.body.now)) in
    let cf = iteration_of i (content (tree c.args.body.now)) in
    let ts = leaves_of (tree c.args.body.now) in
    let p = c.push.new.self in
    let s = c.iteration.new.self in
    let g = c.push-2.new.self in
    let again = c.in_ok-again.again in
    let start = c.in_ok-start.start in
    let op = insts.Repeat i.greedy start c.args.next in
    let is = c.in_ok-start.ensures.emits in
    let same : length (all_of c.set.new.self) ≡ length (all_of s.instructions) = ap length c.set.ensures.set ∙ length-set (all_of s.instructions) again op in
    let e : Compiler = record s { instructions = c.set.new.self; room = omega (arith, s.room, same) } in
    let first : Appends z.instructions p.instructions = c.in_ok-again.ensures.appends (names-none (length (all_of z.instructions))) in
    let so_far : Appends z.instructions s.instructions = Appends-then z.instructions p.instructions s.instructions first is.appends in
    let below : c.args.next < length (all_of s.instructions) = omega (arith, c.requires, so_far.all.grown) in
    let set : Appends z.instructions c.set.new.self =
    c.set.ensures.appends z.instructions (omega (arith, c.in_ok-again.ensures.emits.at_end)) so_far
    (names-two (length (all_of s.instructions)) start c.args.next is.begins below) in
    IfOk-both c.push-2.result _ _ _
    (λ at begun more.
    emits-any_number z i.greedy i.first_leaf ts f cf c.args.next c.requires p s e g again start at c.in_ok-again.ensures.emits is refl refl refl
    c.set.ensures.set (record { at_end = begun.at_end; grown = begun.grown; means = begun.means }) c.push-2.ensures.leaf (Appends-then z.instructions c.set.new.self g.instructions set more))
    c.push-2.ensures.emits
    (c.push-2.ensures.appends (names-two (length (all_of c.set.new.self)) start c.args.next (omega (arith, is.begins, same)) (omega (arith, below, same))))

pub any_number-returns-clause-spends : goal.any_number-returns-clause-spends
any_number-returns-clause-spends t c =
    let z = c.args.self.now in
    let i = c.args.iterations in
    let n : Amount = iteration_size i (tree c.args.body.now) in
    let f = iterating i (matching (tree c.args.body.now)) in
    let cf = iteration_of i (content (tree c.args.body.now)) in
    let ts = leaves_of (tree c.args.body.now) in
    let p = c.push.new.self in
    let s = c.iteration.new.self in
    let again = c.in_ok-again.again in
    let op = insts.Repeat i.greedy c.in_ok-start.start c.args.next in
    let same : length (all_of c.set.new.self) ≡ length (all_of s.instructions) = ap length c.set.ensures.set ∙ length-set (all_of s.instructions) again op in
    let e : Compiler = record s { instructions = c.set.new.self; room = omega (arith, s.room, same) } in
    let one = c.in_ok-start.ensures.spends in
    let spent : Spends z e i.counts (λ counted. 1 + n counted) =
    Spends-then z p e i.counts (λ counted. 1) n (c.in_ok-again.ensures.spends i.counts)
    (record {
      stored = one.stored;
      all = one.all;
      exact = one.exact;
      room = omega (arith, one.room, same);
      kept = omega (arith, one.kept, c.set.ensures.stored);
    }) in
    IfOk-weaker c.push-2.result _ _
    (λ at begun.
    Spends-same z c.push-2.new.self i.counts (λ counted. 1 + n counted + 1) (λ counted. n counted + 2) (λ counted. omega arith)
    (Spends-then z e c.push-2.new.self i.counts (λ counted. 1 + n counted) (λ counted. 1) spent
    (record { stored = begun.stored; all = begun.all; exact = begun.exact; room = begun.room; kept = begun.kept })))
    (c.push-2.ensures.spends i.counts)

pub any_number-returns-clause-too_long : goal.any_number-returns-clause-too_long
any_number-returns-clause-too_long t c =
    let z = c.args.self.now in
    let i = c.args.iterations in
    let n : Amount = iteration_size i (tree c.args.body.now) in
    let f = iterating i (matching (tree c.args.body.now)) in
    let cf = iteration_of i (content (tree c.args.body.now)) in
    let ts = leaves_of (tree c.args.body.now) in
    let p = c.push.new.self in
    let s = c.iteration.new.self in
    let again = c.in_ok-again.again in
    let op = insts.Repeat i.greedy c.in_ok-start.start c.args.next in
    let same : length (all_of c.set.new.self) ≡ length (all_of s.instructions) = ap length c.set.ensures.set ∙ length-set (all_of s.instructions) again op in
    let e : Compiler = record s { instructions = c.set.new.self; room = omega (arith, s.room, same) } in
    let one = c.in_ok-start.ensures.spends in
    let spent : Spends z e i.counts (λ counted. 1 + n counted) =
    Spends-then z p e i.counts (λ counted. 1) n (c.in_ok-again.ensures.spends i.counts)
    (record {
      stored = one.stored;
      all = one.all;
      exact = one.exact;
      room = omega (arith, one.room, same);
      kept = omega (arith, one.kept, c.set.ensures.stored);
    }) in
    IfErr-weaker c.push-2.result _ _
    (λ fault known long.
    exceeds-more z i.counts (λ counted. 1 + n counted + 1) (λ counted. n counted + 2) (λ counted. omega arith)
    (exceeds-then z e i.counts (λ counted. 1 + n counted) (λ counted. 1) spent (known long)))
    (c.push-2.ensures.too_long i.counts)

pub any_number-returns-in_err-again-clause-too_long : goal.any_number-returns-in_err-again-clause-too_long
any_number-returns-in_err-again-clause-too_long t c =
    let i = c.args.iterations in
    let n : Amount = iteration_size i (tree c.args.body.now) in
    too_long c.from_residual.result _ _ c.from_residual.ensures.1
    (λ is.
    exceeds-more c.args.self.now i.counts (λ counted. 1) (λ counted. n counted + 2) (λ counted. omega arith) (c.in_err-again.ensures.too_long i.counts is))

pub at_most-returns-then-count-eq0-clause-emits : goal.at_most-returns-then-count-eq0-clause-emits
at_most-returns-then-count-eq0-clause-emits t c =
    let z = c.args.self.now in
    let i = c.args.iterations in
    let n : Amount = iteration_size i (tree c.args.body.now) in
    let f = iterating i (matching (tree c.args.body.now)) in
    let cf = iteration_of i (content (tree c.args.body.now)) in
    let ts = leaves_of (tree c.args.body.now) in
    subst (λ (k : ℕ). EmitsCopies z z i.first_leaf ts k (optional i.greedy k f) (loop_of i (content (tree c.args.body.now))) c.args.next c.args.next)
    (sym c.if-count-eq0.true) (optional-none z i.greedy i.first_leaf ts f cf c.args.next c.requires)

pub at_most-returns-then-count-eq0-clause-spends : goal.at_most-returns-then-count-eq0-clause-spends
at_most-returns-then-count-eq0-clause-spends t c =
    let z = c.args.self.now in
    let i = c.args.iterations in
    let n : Amount = iteration_size i (tree c.args.body.now) in
    let f = iterating i (matching (tree c.args.body.now)) in
    let cf = iteration_of i (content (tree c.args.body.now)) in
    let ts = leaves_of (tree c.args.body.now) in
    spends-no-optional z i.counts n c.args.count c.if-count-eq0.true

pub at_most-loop-i-init : goal.at_most-loop-i-init
at_most-loop-i-init t c =
    let z = c.args.self.now in
    let i = c.args.iterations in
    let n : Amount = iteration_size i (tree c.args.body.now) in
    let f = iterating i (matching (tree c.args.body.now)) in
    let cf = iteration_of i (content (tree c.args.body.now)) in
    let ts = leaves_of (tree c.args.body.now) in
    let p = c.push.new.self in
    let a = c.iteration.new.self in
    record {
      emits =
          optional-last z i.greedy i.first_leaf ts f cf c.args.next c.requires p a c.in_ok-end.end c.in_ok-start.start c.in_ok-end.ensures.emits
          (c.in_ok-end.ensures.appends (names-one (length (all_of z.instructions)) c.args.next c.requires)) c.in_ok-start.ensures.emits;
      spent =
          Spends-same z a i.counts (λ counted. 1 + n counted) (λ counted. (n counted + 1) * 1) (λ counted. omega arith)
          (Spends-then z p a i.counts (λ counted. 1) n (c.in_ok-end.ensures.spends i.counts) c.in_ok-start.ensures.spends);
    }

pub at_most-loop-i-preserved : goal.at_most-loop-i-preserved
at_most-loop-i-preserved t c =
    let z = c.args.self.now in
    let i = c.args.iterations in
    let n : Amount = iteration_size i (tree c.args.body.now) in
    let f = iterating i (matching (tree c.args.body.now)) in
    let cf = iteration_of i (content (tree c.args.body.now)) in
    let ts = leaves_of (tree c.args.body.now) in
    let l = c.loop-i in
    let m = c.push-in-loop-i.new.self in
    let b = c.iteration-in-loop-i.new.self in
    let number : l._i - 1 + 1 ≡ l._i + 1 - 1 = omega (arith, l.auto._i) in
    let so_far = l.invariant.emits in
    record {
      emits =
          subst (λ k. EmitsOptional z b i.greedy i.first_leaf ts f cf c.args.next c.in_ok-start-2.start k) number
          (optional-more z i.greedy i.first_leaf ts f cf c.args.next c.requires l.self m b l.start c.in_ok-again.again c.in_ok-start-2.start (l._i - 1) so_far
          c.in_ok-again.ensures.emits
          (c.in_ok-again.ensures.appends (names-two (length (all_of l.self.instructions)) l.start c.args.next so_far.begins
          (omega (arith, c.requires, so_far.appends.all.grown)))) c.in_ok-start-2.ensures.emits);
      spent =
          Spends-same z b i.counts (λ counted. (n counted + 1) * l._i + (1 + n counted)) (λ counted. (n counted + 1) * (l._i + 1))
          (λ counted. omega (arith, copies-more (n counted + 1) l._i))
          (Spends-then z l.self b i.counts (λ counted. (n counted + 1) * l._i) (λ counted. 1 + n counted) l.invariant.spent
          (Spends-then l.self m b i.counts (λ counted. 1) n (c.in_ok-again.ensures.spends i.counts) c.in_ok-start-2.ensures.spends));
    }

pub at_most-returns-clause-emits : goal.at_most-returns-clause-emits
at_most-returns-clause-emits t c =
    let z = c.args.self.now in
    let i = c.args.iterations in
    let n : Amount = iteration_size i (tree c.args.body.now) in
    let f = iterating i (matching (tree c.args.body.now)) in
    let cf = iteration_of i (content (tree c.args.body.now)) in
    let ts = leaves_of (tree c.args.body.now) in
    let l = c.loop-i in
    let so_far = l.invariant.emits in
    let number : c.args.count ≡ l._i - 1 + 1 = omega (arith, l.auto._i, l.auto._i-end, c.loop-i-test.false, c.if-count-eq0.false) in
    IfOk-both c.push-2.result _ _ _
    (λ at pushed appends.
    optional-begun z i.greedy i.first_leaf ts f cf c.args.next c.requires l.self c.push-2.new.self l.start at (l._i - 1) c.args.count number so_far pushed
    c.push-2.ensures.leaf appends)
    c.push-2.ensures.emits
    (c.push-2.ensures.appends (names-two (length (all_of l.self.instructions)) l.start c.args.next so_far.begins
    (omega (arith, c.requires, so_far.appends.all.grown))))

pub at_most-returns-clause-spends : goal.at_most-returns-clause-spends
at_most-returns-clause-spends t c =
    let z = c.args.self.now in
    let i = c.args.iterations in
    let n : Amount = iteration_size i (tree c.args.body.now) in
    let f = iterating i (matching (tree c.args.body.now)) in
    let cf = iteration_of i (content (tree c.args.body.now)) in
    let ts = leaves_of (tree c.args.body.now) in
    let stored = all-stored i.counts c.args.count (sym c.has_copies.ensures ∙ c.if-has_copies.false) in
    let some : 0 < c.args.count = omega (arith, c.if-count-eq0.false) in
    let l = c.loop-i in
    let all : l._i ≡ c.args.count = omega (arith, l.auto._i, l.auto._i-end, c.loop-i-test.false, c.if-count-eq0.false) in
    IfOk-weaker c.push-2.result _ _
    (λ at begun. spends-begun z i.counts n c.args.count stored some l.self l._i all l.invariant.spent c.push-2.new.self begun) (c.push-2.ensures.spends i.counts)

pub at_most-returns-clause-too_long : goal.at_most-returns-clause-too_long
at_most-returns-clause-too_long t c =
    let z = c.args.self.now in
    let i = c.args.iterations in
    let n : Amount = iteration_size i (tree c.args.body.now) in
    let f = iterating i (matching (tree c.args.body.now)) in
    let cf = iteration_of i (content (tree c.args.body.now)) in
    let ts = leaves_of (tree c.args.body.now) in
    let stored = all-stored i.counts c.args.count (sym c.has_copies.ensures ∙ c.if-has_copies.false) in
    let some : 0 < c.args.count = omega (arith, c.if-count-eq0.false) in
    let l = c.loop-i in
    let all : l._i ≡ c.args.count = omega (arith, l.auto._i, l.auto._i-end, c.loop-i-test.false, c.if-count-eq0.false) in
    IfErr-weaker c.push-2.result _ _
    (λ fault known long. exceeds-begun z i.counts n c.args.count stored some l.self l._i all l.invariant.spent (known long)) (c.push-2.ensures.too_long i.counts)

pub at_most-returns-in_err-end-clause-too_long : goal.at_most-returns-in_err-end-clause-too_long
at_most-returns-in_err-end-clause-too_long t c =
    let z = c.args.self.now in
    let i = c.args.iterations in
    let n : Amount = iteration_size i (tree c.args.body.now) in
    let f = iterating i (matching (tree c.args.body.now)) in
    let cf = iteration_of i (content (tree c.args.body.now)) in
    let ts = leaves_of (tree c.args.body.now) in
    let stored = all-stored i.counts c.args.count (sym c.has_copies.ensures ∙ c.if-has_copies.false) in
    let some : 0 < c.args.count = omega (arith, c.if-count-eq0.false) in
    too_long c.from_residual.result _ _ c.from_residual.ensures.1
    (λ is. exceeds-ended z i.counts n c.args.count stored some (c.in_err-end.ensures.too_long i.counts is))

pub at_most-returns-in_err-start-clause-too_long : goal.at_most-returns-in_err-start-clause-too_long
at_most-returns-in_err-start-clause-too_long t c =
    let z = c.args.self.now in
    let i = c.args.iterations in
    let n : Amount = iteration_size i (tree c.args.body.now) in
    let f = iterating i (matching (tree c.args.body.now)) in
    let cf = iteration_of i (content (tree c.args.body.now)) in
    let ts = leaves_of (tree c.args.body.now) in
    let stored = all-stored i.counts c.args.count (sym c.has_copies.ensures ∙ c.if-has_copies.false) in
    let some : 0 < c.args.count = omega (arith, c.if-count-eq0.false) in
    too_long c.from_residual-in_err-start.result _ _ c.from_residual-in_err-start.ensures.1
    (λ is.
    exceeds-one z i.counts n c.args.count stored some c.push.new.self (c.in_ok-end.ensures.spends i.counts) (c.in_err-start.ensures.too_long is))

pub at_most-returns-in_err-again-clause-too_long : goal.at_most-returns-in_err-again-clause-too_long
at_most-returns-in_err-again-clause-too_long t c =
    let z = c.args.self.now in
    let i = c.args.iterations in
    let n : Amount = iteration_size i (tree c.args.body.now) in
    let f = iterating i (matching (tree c.args.body.now)) in
    let cf = iteration_of i (content (tree c.args.body.now)) in
    let ts = leaves_of (tree c.args.body.now) in
    let stored = all-stored i.counts c.args.count (sym c.has_copies.ensures ∙ c.if-has_copies.false) in
    let some : 0 < c.args.count = omega (arith, c.if-count-eq0.false) in
    let l = c.loop-i in
    too_long c.from_residual-in_err-again.result _ _ c.from_residual-in_err-again.ensures.1
    (λ is.
    exceeds-repeat z i.counts n c.args.count stored some l.self l._i (omega (arith, c.loop-i-test.true, l.auto._i-end)) l.invariant.spent
    (c.in_err-again.ensures.too_long i.counts is))

pub at_most-returns-in_err-start-2-clause-too_long : goal.at_most-returns-in_err-start-2-clause-too_long
at_most-returns-in_err-start-2-clause-too_long t c =
    let z = c.args.self.now in
    let i = c.args.iterations in
    let n : Amount = iteration_size i (tree c.args.body.now) in
    let f = iterating i (matching (tree c.args.body.now)) in
    let cf = iteration_of i (content (tree c.args.body.now)) in
    let ts = leaves_of (tree c.args.body.now) in
    let stored = all-stored i.counts c.args.count (sym c.has_copies.ensures ∙ c.if-has_copies.false) in
    let some : 0 < c.args.count = omega (arith, c.if-count-eq0.false) in
    let l = c.loop-i in
    too_long c.from_residual-in_err-start-2.result _ _ c.from_residual-in_err-start-2.ensures.1
    (λ is.
    exceeds-another z i.counts n c.args.count stored some l.self l._i (omega (arith, c.loop-i-test.true, l.auto._i-end)) l.invariant.spent
    c.push-in-loop-i.new.self (c.in_ok-again.ensures.spends i.counts) (c.in_err-start-2.ensures.too_long is))

pub at_most_copied-returns-in_err-end-clause-too_long : goal.at_most_copied-returns-in_err-end-clause-too_long
at_most_copied-returns-in_err-end-clause-too_long t c =
    let z = c.args.self.now in
    let i = c.args.iterations in
    let n : Amount = iteration_size i (tree c.args.body.now) in
    let f = iterating i (matching (tree c.args.body.now)) in
    let cf = iteration_of i (content (tree c.args.body.now)) in
    let ts = leaves_of (tree c.args.body.now) in
    let number : c.args.count ≡ c.args.count - 2 + 2 = omega (arith, c.requires.more) in
    too_long c.from_residual.result _ _ c.from_residual.ensures.1
    (λ is.
    exceeds-end i.counts n (c.args.count - 2) c.args.count c.requires.copied number z (c.in_err-end.ensures.too_long i.counts is))

pub at_most_copied-returns-in_err-last-clause-too_long : goal.at_most_copied-returns-in_err-last-clause-too_long
at_most_copied-returns-in_err-last-clause-too_long t c =
    let z = c.args.self.now in
    let i = c.args.iterations in
    let n : Amount = iteration_size i (tree c.args.body.now) in
    let f = iterating i (matching (tree c.args.body.now)) in
    let cf = iteration_of i (content (tree c.args.body.now)) in
    let ts = leaves_of (tree c.args.body.now) in
    let number : c.args.count ≡ c.args.count - 2 + 2 = omega (arith, c.requires.more) in
    too_long c.from_residual-in_err-last.result _ _ c.from_residual-in_err-last.ensures.1
    (λ is.
    exceeds-last i.counts n (c.args.count - 2) c.args.count c.requires.copied number z c.push.new.self (c.in_ok-end.ensures.spends i.counts) (c.in_err-last.ensures.too_long is))

pub at_most_copied-returns-in_err-again-clause-too_long : goal.at_most_copied-returns-in_err-again-clause-too_long
at_most_copied-returns-in_err-again-clause-too_long t c =
    let z = c.args.self.now in
    let i = c.args.iterations in
    let n : Amount = iteration_size i (tree c.args.body.now) in
    let f = iterating i (matching (tree c.args.body.now)) in
    let cf = iteration_of i (content (tree c.args.body.now)) in
    let ts = leaves_of (tree c.args.body.now) in
    let number : c.args.count ≡ c.args.count - 2 + 2 = omega (arith, c.requires.more) in
    too_long c.from_residual-in_err-again.result _ _ c.from_residual-in_err-again.ensures.1
    (λ is.
    exceeds-again i.counts n (c.args.count - 2) c.args.count c.requires.copied number z c.push.new.self (c.in_ok-end.ensures.spends i.counts)
    c.iteration.new.self c.in_ok-last.ensures.spends (c.in_err-again.ensures.too_long i.counts is))

pub at_most_copied-returns-in_err-start-clause-too_long : goal.at_most_copied-returns-in_err-start-clause-too_long
at_most_copied-returns-in_err-start-clause-too_long t c =
    let z = c.args.self.now in
    let i = c.args.iterations in
    let n : Amount = iteration_size i (tree c.args.body.now) in
    let f = iterating i (matching (tree c.args.body.now)) in
    let cf = iteration_of i (content (tree c.args.body.now)) in
    let ts = leaves_of (tree c.args.body.now) in
    let number : c.args.count ≡ c.args.count - 2 + 2 = omega (arith, c.requires.more) in
    too_long c.from_residual-in_err-start.result _ _ c.from_residual-in_err-start.ensures.1
    (λ is.
    exceeds-start i.counts n (c.args.count - 2) c.args.count c.requires.copied number z c.push.new.self (c.in_ok-end.ensures.spends i.counts)
    c.iteration.new.self c.in_ok-last.ensures.spends c.push-2.new.self (c.in_ok-again.ensures.spends i.counts) (c.in_err-start.ensures.too_long is))

pub at_most_copied-returns-in_err-added-clause-too_long : goal.at_most_copied-returns-in_err-added-clause-too_long
at_most_copied-returns-in_err-added-clause-too_long t c =
    let z = c.args.self.now in
    let i = c.args.iterations in
    let n : Amount = iteration_size i (tree c.args.body.now) in
    let f = iterating i (matching (tree c.args.body.now)) in
    let cf = iteration_of i (content (tree c.args.body.now)) in
    let ts = leaves_of (tree c.args.body.now) in
    let p = c.push.new.self in
    let a = c.iteration.new.self in
    let m = c.push-2.new.self in
    let b = c.iteration-2.new.self in
    let again = c.in_ok-again.again in
    let width : ℕ = length (all_of b.instructions) - again in
    let count : ℕ = c.args.count - 2 in
    let number : c.args.count ≡ count + 2 = omega (arith, c.requires.more) in
    let wide : length (all_of b.instructions) ≡ length (all_of a.instructions) + width =
    omega (arith, c.in_ok-again.ensures.emits.at_end, c.in_ok-again.ensures.emits.grown, c.in_ok-start.ensures.emits.appends.all.grown) in
    too_long c.from_residual-in_err-added.result _ _ c.from_residual-in_err-added.ensures.1
    (λ is.
    exceeds-optional-copies i.counts n count c.args.count c.requires.copied number z p (c.in_ok-end.ensures.spends i.counts) a c.in_ok-last.ensures.spends m
    (c.in_ok-again.ensures.spends i.counts) b c.in_ok-start.ensures.spends width wide (c.in_err-added.ensures.too_long is))

pub at_most_copied-returns-clause-emits : goal.at_most_copied-returns-clause-emits
at_most_copied-returns-clause-emits t c =
    let z = c.args.self.now in
    let i = c.args.iterations in
    let n : Amount = iteration_size i (tree c.args.body.now) in
    let f = iterating i (matching (tree c.args.body.now)) in
    let cf = iteration_of i (content (tree c.args.body.now)) in
    let ts = leaves_of (tree c.args.body.now) in
    let p = c.push.new.self in
    let a = c.iteration.new.self in
    let m = c.push-2.new.self in
    let b = c.iteration-2.new.self in
    let again = c.in_ok-again.again in
    let width : ℕ = length (all_of b.instructions) - again in
    let count : ℕ = c.args.count - 2 in
    let number : c.args.count ≡ count + 2 = omega (arith, c.requires.more) in
    let wide : length (all_of b.instructions) ≡ length (all_of a.instructions) + width =
    omega (arith, c.in_ok-again.ensures.emits.at_end, c.in_ok-again.ensures.emits.grown, c.in_ok-start.ensures.emits.appends.all.grown) in
    let e = c.copy.new.self in
    let copied : HasCopied b e c.in_ok-last.last width count = record {
      all = c.in_ok-added.ensures.copied;
      routines = c.in_ok-added.ensures.rest;
      left = ap (λ k. e.left + k) (sym c.in_ok-added.ensures.added) ∙ c.in_ok-added.ensures.left;
      leaf = c.in_ok-added.ensures.leaf;
      stored_left = c.in_ok-added.ensures.stored;
      stored = c.in_ok-added.ensures.kept;
    } in
    let ends_appends : Appends z.instructions p.instructions = c.in_ok-end.ensures.appends (names-one (length (all_of z.instructions)) c.args.next c.requires.below) in
    let first = c.in_ok-last.ensures.emits in
    let second = c.in_ok-start.ensures.emits in
    let so_far : Appends z.instructions a.instructions = Appends-then z.instructions p.instructions a.instructions ends_appends first.appends in
    let more_appends : Appends a.instructions m.instructions =
    c.in_ok-again.ensures.appends (names-two (length (all_of a.instructions)) c.in_ok-last.last c.args.next first.begins
    (omega (arith, c.requires.below, so_far.all.grown))) in
    let later : Appends a.instructions b.instructions = Appends-then a.instructions m.instructions b.instructions more_appends second.appends in
    let last_is = c.in_ok-last.ensures.last c.requires.copied in
    let start_is = c.in_ok-start.ensures.last c.requires.copied in
    let longer = c.in_ok-start.ensures.more c.requires.copied in
    let appends : Appends z.instructions e.instructions =
    c.in_ok-added.ensures.appends z.instructions (omega (arith, c.in_ok-again.ensures.emits.at_end, so_far.all.grown))
    (Appends-then z.instructions a.instructions b.instructions so_far later) in
    let all : EmitsOptional z e i.greedy i.first_leaf ts f cf c.args.next (c.in_ok-start.start + c.in_ok-added.added) (count + 1) =
    subst (λ k. EmitsOptional z e i.greedy i.first_leaf ts f cf c.args.next (c.in_ok-start.start + k) (count + 1)) (sym c.in_ok-added.ensures.added)
    (optional-copied z p a m b e i.greedy i.first_leaf ts f cf c.args.next c.in_ok-end.end c.in_ok-last.last again c.in_ok-start.start width count
    c.requires.below c.in_ok-end.ensures.emits ends_appends first c.in_ok-again.ensures.emits more_appends second last_is start_is wide
    (omega (arith, start_is, longer, wide, c.in_ok-again.ensures.emits.grown)) copied appends) in
    IfOk-both c.push-3.result _ _ _
    (λ at pushed begun.
    optional-begun z i.greedy i.first_leaf ts f cf c.args.next c.requires.below e c.push-3.new.self (c.in_ok-start.start + c.in_ok-added.added) at (count + 1)
    c.args.count (omega (arith, number)) all pushed c.push-3.ensures.leaf begun)
    c.push-3.ensures.emits
    (c.push-3.ensures.appends (names-two (length (all_of e.instructions)) (c.in_ok-start.start + c.in_ok-added.added) c.args.next all.begins
    (omega (arith, c.requires.below, appends.all.grown))))

pub at_most_copied-returns-clause-spends : goal.at_most_copied-returns-clause-spends
at_most_copied-returns-clause-spends t c =
    let z = c.args.self.now in
    let i = c.args.iterations in
    let n : Amount = iteration_size i (tree c.args.body.now) in
    let f = iterating i (matching (tree c.args.body.now)) in
    let cf = iteration_of i (content (tree c.args.body.now)) in
    let ts = leaves_of (tree c.args.body.now) in
    let p = c.push.new.self in
    let a = c.iteration.new.self in
    let m = c.push-2.new.self in
    let b = c.iteration-2.new.self in
    let again = c.in_ok-again.again in
    let width : ℕ = length (all_of b.instructions) - again in
    let count : ℕ = c.args.count - 2 in
    let number : c.args.count ≡ count + 2 = omega (arith, c.requires.more) in
    let wide : length (all_of b.instructions) ≡ length (all_of a.instructions) + width =
    omega (arith, c.in_ok-again.ensures.emits.at_end, c.in_ok-again.ensures.emits.grown, c.in_ok-start.ensures.emits.appends.all.grown) in
    let e = c.copy.new.self in
    let copied : HasCopied b e c.in_ok-last.last width count = record {
      all = c.in_ok-added.ensures.copied;
      routines = c.in_ok-added.ensures.rest;
      left = ap (λ k. e.left + k) (sym c.in_ok-added.ensures.added) ∙ c.in_ok-added.ensures.left;
      leaf = c.in_ok-added.ensures.leaf;
      stored_left = c.in_ok-added.ensures.stored;
      stored = c.in_ok-added.ensures.kept;
    } in
    IfOk-weaker c.push-3.result _ _
    (λ at begun.
    spends-optional i.counts n count c.args.count c.requires.copied number z p (c.in_ok-end.ensures.spends i.counts) a c.in_ok-last.ensures.spends m
    (c.in_ok-again.ensures.spends i.counts) b c.in_ok-start.ensures.spends width wide e c.in_ok-last.last copied c.push-3.new.self begun)
    (c.push-3.ensures.spends i.counts)

pub at_most_copied-returns-clause-too_long : goal.at_most_copied-returns-clause-too_long
at_most_copied-returns-clause-too_long t c =
    let z = c.args.self.now in
    let i = c.args.iterations in
    let n : Amount = iteration_size i (tree c.args.body.now) in
    let f = iterating i (matching (tree c.args.body.now)) in
    let cf = iteration_of i (content (tree c.args.body.now)) in
    let ts = leaves_of (tree c.args.body.now) in
    let p = c.push.new.self in
    let a = c.iteration.new.self in
    let m = c.push-2.new.self in
    let b = c.iteration-2.new.self in
    let again = c.in_ok-again.again in
    let width : ℕ = length (all_of b.instructions) - again in
    let count : ℕ = c.args.count - 2 in
    let number : c.args.count ≡ count + 2 = omega (arith, c.requires.more) in
    let wide : length (all_of b.instructions) ≡ length (all_of a.instructions) + width =
    omega (arith, c.in_ok-again.ensures.emits.at_end, c.in_ok-again.ensures.emits.grown, c.in_ok-start.ensures.emits.appends.all.grown) in
    let e = c.copy.new.self in
    let copied : HasCopied b e c.in_ok-last.last width count = record {
      all = c.in_ok-added.ensures.copied;
      routines = c.in_ok-added.ensures.rest;
      left = ap (λ k. e.left + k) (sym c.in_ok-added.ensures.added) ∙ c.in_ok-added.ensures.left;
      leaf = c.in_ok-added.ensures.leaf;
      stored_left = c.in_ok-added.ensures.stored;
      stored = c.in_ok-added.ensures.kept;
    } in
    IfErr-weaker c.push-3.result _ _
    (λ fault known long.
    exceeds-begin i.counts n count c.args.count c.requires.copied number z p (c.in_ok-end.ensures.spends i.counts) a c.in_ok-last.ensures.spends m
    (c.in_ok-again.ensures.spends i.counts) b c.in_ok-start.ensures.spends width wide e c.in_ok-last.last copied (known long))
    (c.push-3.ensures.too_long i.counts)

pub iteration-returns-then-self-before-clause-emits : goal.iteration-returns-then-self-before-clause-emits
iteration-returns-then-self-before-clause-emits t c =
    let i = c.args.iterations in
    let f = content (tree c.args.body.now) in
    let begins = or_none (nat_lt i.start i.end) (is_copied i.counts) (sym c.begins.ensures ∙ c.if-not-begins.true) in
    let none : i.end ≤ i.start = ltb-false i.start i.end begins.0 in
    record {
      begins = c.in_ok-contents.ensures.emits.begins;
      appends = c.in_ok-contents.ensures.emits.appends;
      means = λ leaves has.
          let body = c.in_ok-contents.ensures.emits.means leaves has in
          let a = code_in leaves c.args.self.now in
          let b = code_in leaves c.node.new.self in
          record {
            after = body.after;
            compiled = compiled_without_groups a b (matching (tree c.args.body.now)) i.start i.end c.args.next c.in_ok-contents.contents none body.compiled;
            holds = holds_less a b f (iteration_of i f) c.args.next c.in_ok-contents.contents (less_without_groups f i.start i.end none) body.holds;
            covers = covers_without_groups a b f i.start i.end none body.covers;
          };
    }

pub iteration-returns-then-self-before-clause-spends : goal.iteration-returns-then-self-before-clause-spends
iteration-returns-then-self-before-clause-spends t c =
    let z = c.args.self.now in
    let b = c.node.new.self in
    let i = c.args.iterations in
    let u = tree c.args.body.now in
    let n : Amount = λ counted. sized i.counts counted u in
    let spent : Spends z b i.counts n =
    (let is = c.in_ok-contents.ensures.spends in record { stored = is.stored; all = is.all; exact = is.exact; room = is.room; kept = is.kept }) in
    spends-body z b i.counts i.start i.end n spent (sym c.begins.ensures ∙ c.if-not-begins.true) c.if-self-before.true

pub iteration-returns-clause-emits : goal.iteration-returns-clause-emits
iteration-returns-clause-emits t c =
    let i = c.args.iterations in
    let f = content (tree c.args.body.now) in
    let body-is = c.in_ok-contents.ensures.emits in
    IfOk-both c.push.result _ _ _
    (λ at pushed appends. record {
      begins = omega (arith, pushed.at_end, pushed.grown);
      appends = Appends-then c.args.self.now.instructions c.node.new.self.instructions c.push.new.self.instructions body-is.appends appends;
      means = λ leaves has.
          let body = body-is.means leaves has in
          let a = code_in leaves c.args.self.now in
          let b = code_in leaves c.node.new.self in
          let e = code_in leaves c.push.new.self in
          record {
            after = c.push.ensures.leaf ∙ body.after;
            compiled =
                compiled_unset a b e (matching (tree c.args.body.now)) i.start i.end c.args.next c.in_ok-contents.contents at body.compiled (pushed.means leaves);
            holds = holds_unset a b e f i.start i.end c.args.next c.in_ok-contents.contents at body.compiled.grown body.holds (pushed.means leaves);
            covers = covers_unset a b e f i.start i.end c.in_ok-contents.contents at body.compiled.grown body.covers (pushed.means leaves);
          };
    })
    c.push.ensures.emits (c.push.ensures.appends (names-one (length (all_of c.node.new.self.instructions)) c.in_ok-contents.contents body-is.begins))

pub iteration-returns-clause-spends : goal.iteration-returns-clause-spends
iteration-returns-clause-spends t c =
    let z = c.args.self.now in
    let b = c.node.new.self in
    let i = c.args.iterations in
    let u = tree c.args.body.now in
    let n : Amount = λ counted. sized i.counts counted u in
    let spent : Spends z b i.counts n =
    (let is = c.in_ok-contents.ensures.spends in record { stored = is.stored; all = is.all; exact = is.exact; room = is.room; kept = is.kept }) in
    let why : (nat_lt i.start i.end || is_copied i.counts) ≡ false → z.left ≤ b.left =
    elim c.else-not-begins.branch [
      | iteration-else-not-begins-via-then-not-begins+else-self-before w ↦ λ none. w.if-self-before.false
      | iteration-else-not-begins-via-else-not-begins w ↦ λ none. (let known = c.begins.ensures in let begins = w.if-not-begins.false in cc)
    ] in
    IfOk-weaker c.push.result _ _
    (λ at one. spends-pushed z b i.counts i.start i.end n spent why c.push.new.self one) (c.push.ensures.spends i.counts)

pub iteration-returns-clause-too_long : goal.iteration-returns-clause-too_long
iteration-returns-clause-too_long t c =
    let z = c.args.self.now in
    let b = c.node.new.self in
    let i = c.args.iterations in
    let u = tree c.args.body.now in
    let n : Amount = λ counted. sized i.counts counted u in
    let spent : Spends z b i.counts n =
    (let is = c.in_ok-contents.ensures.spends in record { stored = is.stored; all = is.all; exact = is.exact; room = is.room; kept = is.kept }) in
    let why : (nat_lt i.start i.end || is_copied i.counts) ≡ false → z.left ≤ b.left =
    elim c.else-not-begins.branch [
      | iteration-else-not-begins-via-then-not-begins+else-self-before w ↦ λ none. w.if-self-before.false
      | iteration-else-not-begins-via-else-not-begins w ↦ λ none. (let known = c.begins.ensures in let begins = w.if-not-begins.false in cc)
    ] in
    IfErr-weaker c.push.result _ _
    (λ fault known long. exceeds-pushed z b i.counts i.start i.end n spent why (known long)) (c.push.ensures.too_long i.counts)

pub repeat-returns-then-is_never-clause-emits : goal.repeat-returns-then-is_never-clause-emits
repeat-returns-then-is_never-clause-emits t c = record {
  begins = c.requires.below;
  appends = Appends-none c.args.self.now.instructions;
  means = λ leaves has.
      let a = code_in leaves c.args.self.now in
      let q = c.args.quantifier in
      let u = tree c.args.body.now in
      let i = c.args.iterations in
      let never = sym c.is_never.ensures ∙ c.if-is_never.true in
      let bounds = never-bounds q never in
      record {
        after = omega (arith, c.requires.first, ap length (never-leaves q (leaves_of u) never));
        compiled =
            compiled_never a q i.start i.end (matching u) c.args.next bounds.0 bounds.1
            (λ d setting bytes. Stays-iteration bytes d (matching u d setting bytes) (Stays-tree setting bytes d u) i.start i.end)
            (below leaves (all_of c.args.self.now.instructions) c.args.next c.requires.below);
        holds = holds_nothing a (in_loop q (loop_of i (content u))) c.args.next;
        covers = covers_none a a (in_loop q (loop_of i (content u))) (never_has q (loop_of i (content u)) never);
      };
}

pub repeat-returns-then-is_never-clause-spends : goal.repeat-returns-then-is_never-clause-spends
repeat-returns-then-is_never-clause-spends t c =
    let q = c.args.quantifier in
    let i = c.args.iterations in
    let bounds = never-bounds q (sym c.is_never.ensures ∙ c.if-is_never.true) in
    spends-never q (iteration_size i (tree c.args.body.now)) bounds.0 bounds.1 c.args.self.now i.counts

pub repeat-returns-clause-emits : goal.repeat-returns-clause-emits
repeat-returns-clause-emits t c =
    let z = c.args.self.now in
    let i = c.args.iterations in
    let q = c.args.quantifier in
    let u = tree c.args.body.now in
    let n : Amount = iteration_size i u in
    let f = iterating i (matching u) in
    let cf = iteration_of i (content u) in
    let ts = leaves_of u in
    let mid = c.match-quantifier.self in
    let entry = c.match-quantifier.entry in
    let some = sym c.is_never.ensures ∙ c.if-is_never.false in
    let stays : (d : Direction) (setting : Setting) (bytes : List ℕ) → Stays bytes d (f d setting bytes) =
    λ d setting bytes. Stays-iteration bytes d (matching u d setting bytes) (Stays-tree setting bytes d u) i.start i.end in
    let first : EmitsCopies z mid i.first_leaf ts (optional_copies q) (extra q f) (in_iterations cf) c.args.next entry =
    elim c.match-quantifier.branch [
      | repeat-in-None+in_ok-entry-in-None w ↦
          subst (λ s. EmitsCopies z s i.first_leaf ts (optional_copies q) (extra q f) (in_iterations cf) c.args.next entry) (sym w.self-is)
          (subst (λ k. EmitsCopies z w.any_number.new.self i.first_leaf ts (optional_copies q) (extra q f) (in_iterations cf) c.args.next k) (sym w.entry-is)
          (loop-unbounded z w.any_number.new.self i.first_leaf ts q f cf c.args.next w.in_ok-entry-in-None.entry i.greedy c.requires.greedy w.in-None.is
          w.in_ok-entry-in-None.ensures.emits))
      | repeat-in-Some+in_ok-entry-in-Some w ↦
          subst (λ s. EmitsCopies z s i.first_leaf ts (optional_copies q) (extra q f) (in_iterations cf) c.args.next entry) (sym w.self-is)
          (subst (λ k. EmitsCopies z w.at_most.new.self i.first_leaf ts (optional_copies q) (extra q f) (in_iterations cf) c.args.next k) (sym w.entry-is)
          (loop-bounded z w.at_most.new.self i.first_leaf ts q f cf c.args.next w.in_ok-entry-in-Some.entry i.greedy w.in-Some.max w.saturating_sub.result
          c.requires.greedy w.in-Some.is w.saturating_sub.ensures stays w.in_ok-entry-in-Some.ensures.emits))
    ] in
    IfOk-both c.exactly_iterations.result _ _ _
    (λ at more leaf.
    emits-repeated z c.exactly_iterations.new.self i.first_leaf ts q i.start i.end f (matching u) cf c.args.next at some
    (λ x y leaves is. compiled_repeated (code_in leaves x) (code_in leaves y) q i.start i.end (matching u) c.args.next at is)
    (emits-loop z i.first_leaf ts f cf c.args.next mid c.exactly_iterations.new.self (extra q f) entry at (optional_copies q) q.min first more leaf))
    c.exactly_iterations.ensures.emits c.exactly_iterations.ensures.none

pub repeat-returns-clause-spends : goal.repeat-returns-clause-spends
repeat-returns-clause-spends t c =
    let z = c.args.self.now in
    let i = c.args.iterations in
    let q = c.args.quantifier in
    let u = tree c.args.body.now in
    let n : Amount = iteration_size i u in
    let f = iterating i (matching u) in
    let cf = iteration_of i (content u) in
    let ts = leaves_of u in
    let mid = c.match-quantifier.self in
    let spent : Spends z mid i.counts (extra_size q n) =
    elim c.match-quantifier.branch [
      | repeat-in-None+in_ok-entry-in-None w ↦
          subst (λ s. Spends z s i.counts (extra_size q n)) (sym w.self-is)
          (Spends-same z w.any_number.new.self i.counts (λ counted. size_of_extra (n counted) None) (extra_size q n) (extra-none q n w.in-None.is)
          w.in_ok-entry-in-None.ensures.spends)
      | repeat-in-Some+in_ok-entry-in-Some w ↦
          subst (λ s. Spends z s i.counts (extra_size q n)) (sym w.self-is)
          (Spends-same z w.at_most.new.self i.counts (λ counted. size_of_extra (n counted) (Some (counted w.saturating_sub.result))) (extra_size q n)
          (extra-some q n w.in-Some.max w.saturating_sub.result w.in-Some.is w.saturating_sub.ensures) w.in_ok-entry-in-Some.ensures.spends)
    ] in
    IfOk-weaker c.exactly_iterations.result _ _
    (λ at more. spends-loop i.counts q n z mid c.exactly_iterations.new.self spent more) c.exactly_iterations.ensures.spends

pub repeat-returns-clause-too_long : goal.repeat-returns-clause-too_long
repeat-returns-clause-too_long t c =
    let z = c.args.self.now in
    let i = c.args.iterations in
    let q = c.args.quantifier in
    let u = tree c.args.body.now in
    let n : Amount = iteration_size i u in
    let f = iterating i (matching u) in
    let cf = iteration_of i (content u) in
    let ts = leaves_of u in
    let mid = c.match-quantifier.self in
    let spent : Spends z mid i.counts (extra_size q n) =
    elim c.match-quantifier.branch [
      | repeat-in-None+in_ok-entry-in-None w ↦
          subst (λ s. Spends z s i.counts (extra_size q n)) (sym w.self-is)
          (Spends-same z w.any_number.new.self i.counts (λ counted. size_of_extra (n counted) None) (extra_size q n) (extra-none q n w.in-None.is)
          w.in_ok-entry-in-None.ensures.spends)
      | repeat-in-Some+in_ok-entry-in-Some w ↦
          subst (λ s. Spends z s i.counts (extra_size q n)) (sym w.self-is)
          (Spends-same z w.at_most.new.self i.counts (λ counted. size_of_extra (n counted) (Some (counted w.saturating_sub.result))) (extra_size q n)
          (extra-some q n w.in-Some.max w.saturating_sub.result w.in-Some.is w.saturating_sub.ensures) w.in_ok-entry-in-Some.ensures.spends)
    ] in
    IfErr-weaker c.exactly_iterations.result _ _
    (λ fault known long. exceeds-least i.counts q n z mid spent (known long)) c.exactly_iterations.ensures.too_long

pub repeat-returns-in_err-entry-in-None-clause-too_long : goal.repeat-returns-in_err-entry-in-None-clause-too_long
repeat-returns-in_err-entry-in-None-clause-too_long t c =
    let z = c.args.self.now in
    let i = c.args.iterations in
    let q = c.args.quantifier in
    let u = tree c.args.body.now in
    let n : Amount = iteration_size i u in
    let f = iterating i (matching u) in
    let cf = iteration_of i (content u) in
    let ts = leaves_of u in
    too_long c.from_residual.result _ _ c.from_residual.ensures.1
    (λ is.
    exceeds-extra i.counts q n z
    (exceeds-more z i.counts (λ counted. size_of_extra (n counted) None) (extra_size q n) (λ counted. omega (arith, extra-none q n c.in-None.is counted))
    (c.in_err-entry-in-None.ensures.too_long is)))

pub repeat-returns-in_err-entry-in-Some-clause-too_long : goal.repeat-returns-in_err-entry-in-Some-clause-too_long
repeat-returns-in_err-entry-in-Some-clause-too_long t c =
    let z = c.args.self.now in
    let i = c.args.iterations in
    let q = c.args.quantifier in
    let u = tree c.args.body.now in
    let n : Amount = iteration_size i u in
    let f = iterating i (matching u) in
    let cf = iteration_of i (content u) in
    let ts = leaves_of u in
    too_long c.from_residual-in_err-entry-in-Some.result _ _ c.from_residual-in_err-entry-in-Some.ensures.1
    (λ is.
    exceeds-extra i.counts q n z
    (exceeds-more z i.counts (λ counted. size_of_extra (n counted) (Some (counted c.saturating_sub.result))) (extra_size q n)
    (λ counted. omega (arith, extra-some q n c.in-Some.max c.saturating_sub.result c.in-Some.is c.saturating_sub.ensures counted))
    (c.in_err-entry-in-Some.ensures.too_long is)))

-- ---- loops over one character

pub repeat_character-returns-clause-emits : goal.repeat_character-returns-clause-emits
repeat_character-returns-clause-emits t c =
    let z = c.args.self.now in
    let mid = c.match-quantifier.self in
    let q = c.args.quantifier in
    let u = tree c.args.body.now in
    let f = matching u in
    let from = c.args.iterations.first_leaf in
    let none : c.args.iterations.end ≤ c.args.iterations.start = rw c.requires.without_groups (omega arith) in
    let inside : Appends z.instructions mid.instructions =
    elim c.match-quantifier.branch [
      | repeat_character-in-None+in_ok-entry-in-None w ↦ subst (λ s. Appends z.instructions s.instructions) (sym w.self-is) w.in_ok-entry-in-None.ensures.emits.appends
      | repeat_character-in-Some+in_ok-entry-in-Some w ↦ subst (λ s. Appends z.instructions s.instructions) (sym w.self-is) w.in_ok-entry-in-Some.ensures.emits.appends
    ] in
    IfOk-weaker c.exactly.result _ _
    (λ at more. record {
      begins = more.begins;
      appends = Appends-then z.instructions mid.instructions c.exactly.new.self.instructions inside more.appends;
      means = λ leaves has.
          let one = has-same leaves from (leaves_of u) (u ∷ []) (one-leaf u c.requires.one) has in
          let leaf-is : leaf_in leaves from ≡ u = has-leaf leaves from u one in
          let takes : takes_one (leaf_in leaves from) ≡ true = ap takes_one leaf-is ∙ c.requires.one in
          let a = code_in leaves z in
          let b = code_in leaves mid in
          let body = in_iteration 0 0 (content u) in
          let optional_part : Compiled a b (extra q f) c.args.next c.match-quantifier.entry × Holds a b (in_iterations body) c.args.next c.match-quantifier.entry =
          elim c.match-quantifier.branch [
            | repeat_character-in-None+in_ok-entry-in-None w ↦
                (let e = code_in leaves w.any_number.new.self in
                let n = w.in_ok-entry-in-None.entry in
                let is = w.in_ok-entry-in-None.ensures.emits.means leaves has in
                let plain = compiled_plain a e c.args.iterations f c.args.next n none is.compiled in
                subst (λ s. Compiled a (code_in leaves s) (extra q f) c.args.next c.match-quantifier.entry × Holds a (code_in leaves s) (in_iterations body) c.args.next c.match-quantifier.entry)
                (sym w.self-is)
                (subst (λ k. Compiled a e (extra q f) c.args.next k × Holds a e (in_iterations body) c.args.next k) (sym w.entry-is) (
                  compiled_unbounded a e q f c.args.next n w.in-None.is
                      (subst (λ g. Compiled a e (any_number g f) c.args.next n) (ap (λ (i : Iterations). i.greedy) c.requires.without_groups) plain),
                  subst (λ (i : Iterations). Holds a e (loop_of i (content u)) c.args.next n) c.requires.without_groups is.holds,
                )))
            | repeat_character-in-Some+in_ok-entry-in-Some w ↦
                (let e = code_in leaves w.up_to.new.self in
                let n = w.in_ok-entry-in-Some.entry in
                let some = w.in_ok-entry-in-Some.ensures.emits.means leaves takes in
                let is = subst (λ v. Compiled a e (optional q.greedy w.saturating_sub.result (matching v)) c.args.next n) leaf-is some.compiled in
                subst (λ s. Compiled a (code_in leaves s) (extra q f) c.args.next c.match-quantifier.entry × Holds a (code_in leaves s) (in_iterations body) c.args.next c.match-quantifier.entry)
                (sym w.self-is)
                (subst (λ k. Compiled a e (extra q f) c.args.next k × Holds a e (in_iterations body) c.args.next k) (sym w.entry-is) (
                  compiled_bounded a e q f c.args.next n w.in-Some.max w.in-Some.is (λ d setting bytes. Stays-tree setting bytes d u)
                      (subst (λ k. Compiled a e (optional q.greedy k f) c.args.next n) w.saturating_sub.ensures is),
                  holds_plain a e (in_iterations body) c.args.next n some.holds,
                )))
          ] in
          let last = more.means leaves takes in
          let counted = subst (λ v. Compiled b (code_in leaves c.exactly.new.self) (exactly q.min (matching v)) c.match-quantifier.entry at) leaf-is last.compiled in
          record {
            after = λ some. absurd (omega (arith, some));
            compiled =
                compiled_counted u c.requires.one a b (code_in leaves c.exactly.new.self) q c.args.next c.match-quantifier.entry at optional_part.0 counted;
            holds =
                let e = code_in leaves c.exactly.new.self in
                let none = none_one u c.requires.one in
                holds_less a e (in_iterations body) (in_loop q (in_iterations body)) c.args.next at
                (no_more_none q (in_iterations body) (record { refers = none.refers; captures = none.captures; looks = none.looks }))
                (holds_counted a b e body c.args.next c.match-quantifier.entry at optional_part.0.grown last.compiled.grown optional_part.1 last.holds);
            covers = λ some. absurd (omega (arith, some));
          };
    })
    c.exactly.ensures.emits

pub repeat_character-returns-clause-spends : goal.repeat_character-returns-clause-spends
repeat_character-returns-clause-spends t c =
    let z = c.args.self.now in
    let i = c.args.iterations in
    let q = c.args.quantifier in
    let u = tree c.args.body.now in
    let counts = i.counts in
    let n : ℕ = characters_size counts q in
    let start_is : i.start ≡ 0 = ap (λ (j : Iterations). j.start) c.requires.without_groups in
    let end_is : i.end ≡ 0 = ap (λ (j : Iterations). j.end) c.requires.without_groups in
    let one : Amount = λ counted. size_of_extra (iteration_size (record i { counts = Unbounded }) u counted) None in
    let one_is : (counted : ℕ → ℕ) → one counted ≡ 3 = λ counted. ap (λ k. size_of_extra k None) (single-size i.start i.end u start_is end_is c.requires.one counted) in
    let mid = c.match-quantifier.self in
    let spent : Spends z mid counts (λ counted. n) =
    elim c.match-quantifier.branch [
      | repeat_character-in-None+in_ok-entry-in-None w ↦
          subst (λ s. Spends z s counts (λ counted. n)) (sym w.self-is)
          (Spends-plain z w.any_number.new.self counts n
          (Spends-same z w.any_number.new.self Unbounded one (λ counted. n) (λ counted. one_is counted ∙ characters-none counts q w.in-None.is)
          w.in_ok-entry-in-None.ensures.spends))
      | repeat_character-in-Some+in_ok-entry-in-Some w ↦
          subst (λ s. Spends z s counts (λ counted. n)) (sym w.self-is)
          (Spends-same z w.up_to.new.self counts (λ counted. size_of_up_to counts w.saturating_sub.result w.saturating_sub.result) (λ counted. n)
          (λ counted. characters-some counts q w.in-Some.max w.saturating_sub.result w.in-Some.is w.saturating_sub.ensures) w.in_ok-entry-in-Some.ensures.spends)
    ] in
    IfOk-weaker c.exactly.result _ _
    (λ at more.
    Spends-same z c.exactly.new.self counts (λ counted. n + size_of_exactly counts q.min) (λ counted. size_of_characters counts q) (λ counted. omega arith)
    (Spends-then z mid c.exactly.new.self counts (λ counted. n) (λ counted. size_of_exactly counts q.min) spent more))
    c.exactly.ensures.spends

pub repeat_character-returns-clause-too_long : goal.repeat_character-returns-clause-too_long
repeat_character-returns-clause-too_long t c =
    let z = c.args.self.now in
    let i = c.args.iterations in
    let q = c.args.quantifier in
    let u = tree c.args.body.now in
    let counts = i.counts in
    let n : ℕ = characters_size counts q in
    let start_is : i.start ≡ 0 = ap (λ (j : Iterations). j.start) c.requires.without_groups in
    let end_is : i.end ≡ 0 = ap (λ (j : Iterations). j.end) c.requires.without_groups in
    let one : Amount = λ counted. size_of_extra (iteration_size (record i { counts = Unbounded }) u counted) None in
    let one_is : (counted : ℕ → ℕ) → one counted ≡ 3 = λ counted. ap (λ k. size_of_extra k None) (single-size i.start i.end u start_is end_is c.requires.one counted) in
    let mid = c.match-quantifier.self in
    let spent : Spends z mid counts (λ counted. n) =
    elim c.match-quantifier.branch [
      | repeat_character-in-None+in_ok-entry-in-None w ↦
          subst (λ s. Spends z s counts (λ counted. n)) (sym w.self-is)
          (Spends-plain z w.any_number.new.self counts n
          (Spends-same z w.any_number.new.self Unbounded one (λ counted. n) (λ counted. one_is counted ∙ characters-none counts q w.in-None.is)
          w.in_ok-entry-in-None.ensures.spends))
      | repeat_character-in-Some+in_ok-entry-in-Some w ↦
          subst (λ s. Spends z s counts (λ counted. n)) (sym w.self-is)
          (Spends-same z w.up_to.new.self counts (λ counted. size_of_up_to counts w.saturating_sub.result w.saturating_sub.result) (λ counted. n)
          (λ counted. characters-some counts q w.in-Some.max w.saturating_sub.result w.in-Some.is w.saturating_sub.ensures) w.in_ok-entry-in-Some.ensures.spends)
    ] in
    IfErr-weaker c.exactly.result _ _
    (λ fault known long.
    exceeds-more z counts (λ counted. n + size_of_exactly counts q.min) (λ counted. size_of_characters counts q) (λ counted. omega arith)
    (exceeds-then z mid counts (λ counted. n) (λ counted. size_of_exactly counts q.min) spent (known long)))
    c.exactly.ensures.too_long

pub repeat_character-returns-in_err-entry-in-None-clause-too_long : goal.repeat_character-returns-in_err-entry-in-None-clause-too_long
repeat_character-returns-in_err-entry-in-None-clause-too_long t c =
    let z = c.args.self.now in
    let i = c.args.iterations in
    let q = c.args.quantifier in
    let u = tree c.args.body.now in
    let counts = i.counts in
    let n : ℕ = characters_size counts q in
    let start_is : i.start ≡ 0 = ap (λ (j : Iterations). j.start) c.requires.without_groups in
    let end_is : i.end ≡ 0 = ap (λ (j : Iterations). j.end) c.requires.without_groups in
    let one : Amount = λ counted. size_of_extra (iteration_size (record i { counts = Unbounded }) u counted) None in
    let one_is : (counted : ℕ → ℕ) → one counted ≡ 3 = λ counted. ap (λ k. size_of_extra k None) (single-size i.start i.end u start_is end_is c.requires.one counted) in
    too_long c.from_residual.result _ _ c.from_residual.ensures.1
    (λ is.
    exceeds-plain z counts one 3 (size_of_characters counts q) one_is (omega (arith, characters-none counts q c.in-None.is)) (c.in_err-entry-in-None.ensures.too_long is))

pub repeat_character-returns-in_err-entry-in-Some-clause-too_long : goal.repeat_character-returns-in_err-entry-in-Some-clause-too_long
repeat_character-returns-in_err-entry-in-Some-clause-too_long t c =
    let z = c.args.self.now in
    let i = c.args.iterations in
    let q = c.args.quantifier in
    let u = tree c.args.body.now in
    let counts = i.counts in
    let n : ℕ = characters_size counts q in
    let start_is : i.start ≡ 0 = ap (λ (j : Iterations). j.start) c.requires.without_groups in
    let end_is : i.end ≡ 0 = ap (λ (j : Iterations). j.end) c.requires.without_groups in
    let one : Amount = λ counted. size_of_extra (iteration_size (record i { counts = Unbounded }) u counted) None in
    let one_is : (counted : ℕ → ℕ) → one counted ≡ 3 = λ counted. ap (λ k. size_of_extra k None) (single-size i.start i.end u start_is end_is c.requires.one counted) in
    let k = c.saturating_sub.result in
    too_long c.from_residual-in_err-entry-in-Some.result _ _ c.from_residual-in_err-entry-in-Some.ensures.1
    (λ is.
    exceeds-more z counts (λ counted. size_of_up_to counts k k) (λ counted. size_of_characters counts q)
    (λ counted. omega (arith, characters-some counts q c.in-Some.max k c.in-Some.is c.saturating_sub.ensures)) (c.in_err-entry-in-Some.ensures.too_long is))

pub repeat_one-returns-in_ok-entry-clause-emits : goal.repeat_one-returns-in_ok-entry-clause-emits
repeat_one-returns-in_ok-entry-clause-emits t c =
    let q = c.args.quantifier in
    let u = tree c.args.body.now in
    let from = c.args.self.now.next_leaf in
    let takes : takes_one u ≡ true = sym c.takes_one.ensures ∙ c.if-takes_one.true in
    let sole : leaves_of (wrapped (loop_one q) u) ≡ leaves_of u = one-wrapped q u takes in
    let emits = c.in_ok-entry.ensures.emits in
    record {
      begins = emits.begins;
      appends = emits.appends;
      means = λ leaves has.
          let body = has-same leaves from (leaves_of (wrapped (loop_one q) u)) (leaves_of u) sole has in
          let one = has-same leaves from (leaves_of u) (u ∷ []) (one-leaf u takes) body in
          record {
            after = omega (arith, c.saturating_add-self.ensures, has-room leaves from u one, ap length sole, ap length (one-leaf u takes));
            compiled = (emits.means leaves body).compiled;
            holds = (emits.means leaves body).holds;
            covers =
                covers_none (code_in leaves c.args.self.now) (code_in leaves c.repeat_character.new.self) (content (wrapped (loop_one q) u))
                (none_characters q u takes);
          };
    }

pub repeat_one-returns-in_ok-entry-clause-spends : goal.repeat_one-returns-in_ok-entry-clause-spends
repeat_one-returns-in_ok-entry-clause-spends t c =
    let z = c.args.self.now in
    let q = c.args.quantifier in
    let counts = c.args.counts in
    let u = tree c.args.body.now in
    let whole : Amount = λ counted. sized counts counted (wrapped (loop_one q) u) in
    let takes : takes_one u ≡ true = sym c.takes_one.ensures ∙ c.if-takes_one.true in
    let is =
    Spends-same z c.repeat_character.new.self counts (λ counted. size_of_characters counts q) whole (λ counted. one-loop-size counts counted q u takes)
    c.in_ok-entry.ensures.spends in
    record { stored = is.stored; all = is.all; exact = is.exact; room = is.room; kept = is.kept }

pub repeat_one-returns-in_err-entry-clause-too_long : goal.repeat_one-returns-in_err-entry-clause-too_long
repeat_one-returns-in_err-entry-clause-too_long t c =
    let z = c.args.self.now in
    let q = c.args.quantifier in
    let counts = c.args.counts in
    let u = tree c.args.body.now in
    let whole : Amount = λ counted. sized counts counted (wrapped (loop_one q) u) in
    let takes : takes_one u ≡ true = sym c.takes_one.ensures ∙ c.if-takes_one.true in
    too_long c.from_residual.result _ _ c.from_residual.ensures.1
    (λ is.
    exceeds-more z counts (λ counted. size_of_characters counts q) whole (λ counted. omega (arith, one-loop-size counts counted q u takes))
    (c.in_err-entry.ensures.too_long is))

pub repeat_one-returns-else-takes_one-clause-emits : goal.repeat_one-returns-else-takes_one-clause-emits
repeat_one-returns-else-takes_one-clause-emits t c =
    let q = c.args.quantifier in
    let u = tree c.args.body.now in
    let from = c.args.self.now.next_leaf in
    let sole : leaves_of (wrapped (loop_one q) u) ≡ leaves_of_loop q (leaves_of u) = many-wrapped q u (sym c.takes_one.ensures ∙ c.if-takes_one.false) in
    IfOk-weaker c.repeat.result _ _
    (λ at emits. record {
      begins = emits.begins;
      appends = emits.appends;
      means = λ leaves has.
          let is = emits.means leaves (has-same leaves from (leaves_of (wrapped (loop_one q) u)) (leaves_of_loop q (leaves_of u)) sole has) in
          record {
            after = omega (arith, is.after, ap length sole);
            compiled = is.compiled;
            holds = is.holds;
            covers = is.covers;
          };
    })
    c.repeat.ensures.emits

pub repeat_one-returns-else-takes_one-clause-spends : goal.repeat_one-returns-else-takes_one-clause-spends
repeat_one-returns-else-takes_one-clause-spends t c =
    let z = c.args.self.now in
    let q = c.args.quantifier in
    let counts = c.args.counts in
    let u = tree c.args.body.now in
    let whole : Amount = λ counted. sized counts counted (wrapped (loop_one q) u) in
    let many : takes_one u ≡ false = sym c.takes_one.ensures ∙ c.if-takes_one.false in
    let size : Amount = λ counted. size_of_loop counted q (size_of_iteration counts 0 0 (sized counts counted u)) in
    IfOk-weaker c.repeat.result _ _ (λ at is. Spends-same z c.repeat.new.self counts size whole (λ counted. many-loop-size counts counted q u many) is)
    c.repeat.ensures.spends

pub repeat_one-returns-else-takes_one-clause-too_long : goal.repeat_one-returns-else-takes_one-clause-too_long
repeat_one-returns-else-takes_one-clause-too_long t c =
    let z = c.args.self.now in
    let q = c.args.quantifier in
    let counts = c.args.counts in
    let u = tree c.args.body.now in
    let whole : Amount = λ counted. sized counts counted (wrapped (loop_one q) u) in
    let many : takes_one u ≡ false = sym c.takes_one.ensures ∙ c.if-takes_one.false in
    let size : Amount = λ counted. size_of_loop counted q (size_of_iteration counts 0 0 (sized counts counted u)) in
    IfErr-weaker c.repeat.result _ _
    (λ fault known long. exceeds-more z counts size whole (λ counted. omega (arith, many-loop-size counts counted q u many)) (known long))
    c.repeat.ensures.too_long

-- ---- lookarounds

pub look-returns-clause-emits : goal.look-returns-clause-emits
look-returns-clause-emits t c =
    let i = c.in_ok-routine.routine in
    let same = c.in_ok-routine.ensures.emits.same in
    let n : ℕ = length (all_of c.routine.new.self.instructions) in
    let long : n ≡ length (all_of c.args.self.now.instructions) = ap (λ (is : Instructions). length (all_of is)) same in
    IfOk-both c.push.result _ _ _
    (λ at pushed appends. record {
      begins = omega (arith, pushed.at_end, pushed.grown);
      appends = subst (λ (is : Instructions). Appends is c.push.new.self.instructions) same appends;
      means = λ leaves has.
          let body = c.in_ok-routine.ensures.emits.means leaves has in
          record {
            after = c.push.ensures.leaf ∙ body.after;
            compiled =
                compiled_look (code_in leaves c.args.self.now) (code_in leaves c.routine.new.self) (code_in leaves c.push.new.self)
                (matching (tree c.args.contents.now)) c.args.negate (direction_if c.args.backwards) i c.args.next at
                (below leaves (all_of c.args.self.now.instructions) c.args.next c.requires) body.has (pushed.means leaves);
            holds =
                holds_look (code_in leaves c.args.self.now) (code_in leaves c.routine.new.self) (code_in leaves c.push.new.self)
                (content (tree c.args.contents.now)) c.args.negate i c.args.next at body.has.grown body.holds (pushed.means leaves);
            covers =
                covers_look (code_in leaves c.args.self.now) (code_in leaves c.routine.new.self) (code_in leaves c.push.new.self)
                (content (tree c.args.contents.now)) c.args.negate i c.args.next at body.has.grown body.covers (pushed.means leaves);
          };
    })
    c.push.ensures.emits (c.push.ensures.appends (names-one n c.args.next (omega (arith, long, c.requires))))

pub look-returns-clause-spends : goal.look-returns-clause-spends
look-returns-clause-spends t c =
    let counts = c.args.counts in
    let u = tree c.args.contents.now in
    IfOk-weaker c.push.result _ _
    (λ at last.
    Spends-same c.args.self.now c.push.new.self counts (λ counted. sized counts counted u + 1 + 1) (λ counted. sized counts counted u + 2) (λ counted. omega arith)
    (Spends-then c.args.self.now c.routine.new.self c.push.new.self counts (λ counted. sized counts counted u + 1) (λ counted. 1) c.in_ok-routine.ensures.spends last))
    (c.push.ensures.spends counts)

pub look-returns-clause-too_long : goal.look-returns-clause-too_long
look-returns-clause-too_long t c =
    let counts = c.args.counts in
    let u = tree c.args.contents.now in
    IfErr-weaker c.push.result _ _
    (λ fault none is.
    exceeds-more c.args.self.now counts (λ counted. sized counts counted u + 1 + 1) (λ counted. sized counts counted u + 2) (λ counted. omega arith)
    (exceeds-then c.args.self.now c.routine.new.self counts (λ counted. sized counts counted u + 1) (λ counted. 1) c.in_ok-routine.ensures.spends (none is)))
    (c.push.ensures.too_long counts)

pub look-returns-in_err-routine-clause-too_long : goal.look-returns-in_err-routine-clause-too_long
look-returns-in_err-routine-clause-too_long t c =
    let counts = c.args.counts in
    let u = tree c.args.contents.now in
    too_long c.from_residual.result _ _ c.from_residual.ensures.1
    (λ is.
    exceeds-more c.args.self.now counts (λ counted. sized counts counted u + 1) (λ counted. sized counts counted u + 2) (λ counted. omega arith)
    (c.in_err-routine.ensures.too_long is))

pub routine-returns-clause-emits : goal.routine-returns-clause-emits
unfolding listed
routine-returns-clause-emits t c = record {
  same = c.replace-instructions.ensures.after ∙ c.replace-outer.ensures.value;
  means = λ leaves has.
      let a = code_in leaves c.args.self.now in
      let emptied : Code = record a { ops = ops_in leaves (all_of c.replace-outer.new.dest) } in
      let body = c.node.new.self in
      let new : Code = record { routines = program_in leaves c.push-2.new.self.items; ops = ops_in leaves (all_of c.replace-instructions.new.dest); left = body.left } in
      let entry = c.in_ok-entry.entry in
      let d = direction_if c.args.backwards in
      let r : declared.Routine = record { instructions = c.replace-instructions.result; entry = entry; backwards = c.args.backwards } in
      let pushed : c.push-2.new.self.items ≡ body.routines.items ++ r ∷ [] = c.in_ok-push-2.ensures.items in
      let cleared : emptied ≡ record a { ops = [] } =
      ap (λ xs. record a { ops = ops_in leaves xs }) (ap all_of c.replace-outer.ensures.after ∙ c.new.ensures.none) in
      let routines : program_in leaves c.push-2.new.self.items
      ≡ program_in leaves body.routines.items ++ record { ops = ops_in leaves (all_of body.instructions); entry = entry; direction = d } ∷ [] =
      ap (program_in leaves) pushed ∙ map-append (routine_in leaves) body.routines.items (r ∷ [])
      ∙ ap (λ v. program_in leaves body.routines.items ++ record { ops = ops_in leaves (all_of v); entry = entry; direction = d } ∷ [])
      c.replace-instructions.ensures.value in
      let ops : ops_in leaves (all_of c.replace-instructions.new.dest) ≡ ops_in leaves (all_of c.args.self.now.instructions) =
      ap (λ v. ops_in leaves (all_of v)) (c.replace-instructions.ensures.after ∙ c.replace-outer.ensures.value) in
      let long : length c.push-2.new.self.items ≡ length body.routines.items + 1 = ap length pushed ∙ length_push body.routines.items r in
      let first : c.push.new.self.next_leaf ≡ c.args.self.now.next_leaf = c.push.ensures.leaf in
      let is = c.in_ok-entry.ensures.emits.means leaves (has-at leaves c.args.self.now.next_leaf c.push.new.self.next_leaf (leaves_of (tree c.args.node.now)) first has) in
      record {
        after = omega (arith, is.after, first);
        has =
            has_routine a emptied (code_in leaves c.push.new.self) (code_in leaves body) new (matching (tree c.args.node.now)) d
            entry c.in_ok-push.field-0 (c.len.result - 1) cleared (c.in_ok-push.ensures.emits.means leaves) is.compiled
            (ap₂ (λ rs os. record { routines = rs; ops = os; left = body.left }) routines ops)
            (omega (arith, c.len.ensures, c.push-2.new.self.ok, long, length-map body.routines.items (routine_in leaves)));
        holds =
            holds_routine a emptied (code_in leaves c.push.new.self) (code_in leaves body) new (content (tree c.args.node.now))
            (routine_in leaves r) c.in_ok-push.field-0 (c.len.result - 1) is.compiled.grown cleared (c.in_ok-push.ensures.emits.means leaves) is.holds
            (ap (program_in leaves) pushed ∙ map-append (routine_in leaves) body.routines.items (r ∷ [])) ops
            (ap (λ v. ops_in leaves (all_of v)) c.replace-instructions.ensures.value)
            (omega (arith, c.len.ensures, c.push-2.new.self.ok, long, length-map body.routines.items (routine_in leaves)));
        covers =
            covers_routine a emptied (code_in leaves c.push.new.self) (code_in leaves body) new (content (tree c.args.node.now))
            (routine_in leaves r) c.in_ok-push.field-0 (c.len.result - 1) is.compiled.grown cleared (c.in_ok-push.ensures.emits.means leaves) is.covers
            (ap (program_in leaves) pushed ∙ map-append (routine_in leaves) body.routines.items (r ∷ []))
            (ap (λ v. ops_in leaves (all_of v)) c.replace-instructions.ensures.value)
            (omega (arith, c.len.ensures, c.push-2.new.self.ok, long, length-map body.routines.items (routine_in leaves)));
      };
}

pub routine-returns-clause-spends : goal.routine-returns-clause-spends
routine-returns-clause-spends t c =
    let counts = c.args.counts in
    let u = tree c.args.node.now in
    let body = c.node.new.self in
    let r : declared.Routine = record { instructions = c.replace-instructions.result; entry = c.in_ok-entry.entry; backwards = c.args.backwards } in
    Spends-routine c.args.self.now _ body _ r counts (λ counted. 1 + sized counts counted u) (λ counted. sized counts counted u + 1)
    (Spends-then _ c.push.new.self body counts (λ counted. 1) (λ counted. sized counts counted u) (c.in_ok-push.ensures.spends counts) c.in_ok-entry.ensures.spends)
    (λ counted. omega arith) refl refl (ap all_of c.replace-outer.ensures.after ∙ c.new.ensures.none)
    (ap (λ (v : Instructions). v.stored.items) c.replace-outer.ensures.after ∙ c.new.ensures.stored) refl refl refl
    (c.replace-instructions.ensures.after ∙ c.replace-outer.ensures.value) c.in_ok-push-2.ensures.items c.replace-instructions.ensures.value

pub routine-returns-in_err-push-clause-too_long : goal.routine-returns-in_err-push-clause-too_long
routine-returns-in_err-push-clause-too_long t c =
    let counts = c.args.counts in
    let u = tree c.args.node.now in
    too_long c.from_residual.result _ _ c.from_residual.ensures.1
    (λ is.
    exceeds-more c.args.self.now counts (λ counted. 1) (λ counted. sized counts counted u + 1) (λ counted. omega arith) (c.in_err-push.ensures.too_long counts is))

pub routine-returns-in_err-entry-clause-too_long : goal.routine-returns-in_err-entry-clause-too_long
routine-returns-in_err-entry-clause-too_long t c =
    let counts = c.args.counts in
    let u = tree c.args.node.now in
    too_long c.from_residual-in_err-entry.result _ _ c.from_residual-in_err-entry.ensures.1
    (λ is.
    exceeds-more c.args.self.now counts (λ counted. 1 + sized counts counted u) (λ counted. sized counts counted u + 1) (λ counted. omega arith)
    (exceeds-then _ c.push.new.self counts (λ counted. 1) (λ counted. sized counts counted u) (c.in_ok-push.ensures.spends counts) (c.in_err-entry.ensures.too_long is)))

-- ---- alternations

pub node-loop-rest-init : goal.node-loop-rest-init
node-loop-rest-init t c =
    let none : c.new-entries.result.items ≡ [] = c.new-entries.ensures.items in
    record {
      appends = Appends-none c.args.self.now.instructions;
      known =
          let P : ℕ → Type 0 = λ k. k < length (all_of c.args.self.now.instructions) in
          All-same P c.new-entries.result.items [] none (All-nil P);
      splitting = λ leaves has.
          let a = code_in leaves c.args.self.now in
          record {
            grown = Grown-same a;
            waiting =
                subst (λ es. Waiting a a c.args.next es (tree c.args.node.now) (tree c.args.node.now)) (sym none)
                (waiting_none a a c.args.next (tree c.args.node.now));
            adds = adds-none a (content (tree c.args.node.now));
            part = part-same (content (tree c.args.node.now));
            covers = λ e more is. is;
            has = has;
            after = refl;
          };
      smaller = le_refl _;
      amount = λ counted. 0;
      total = λ counted. omega (arith, ap length none);
      spent = Spends-none c.args.self.now c.args.counts;
    }

pub node-loop-rest-preserved : goal.node-loop-rest-preserved
node-loop-rest-preserved t c =
    let l = c.loop-rest in
    let left = c.in-Alt.left.value in
    let right = c.in-Alt.right.value in
    let items : c.push.new.self.items ≡ l.entries.items ++ c.in_ok-node.field-0 ∷ [] = c.in_ok-push.ensures.items in
    let rest-is : tree l.rest.now ≡ alt (tree left) (tree right) = ap tree c.in-Alt.is ∙ tree-Alt c.in-Alt.left c.in-Alt.right in
    let sizes : (counted : ℕ → ℕ) → sized c.args.counts counted (tree l.rest.now) ≡ sized c.args.counts counted (tree left) + sized c.args.counts counted (tree right) + 1 =
    λ counted. ap (sized c.args.counts counted) rest-is in
    let spends : Spends l.self c.node.new.self c.args.counts (λ counted. sized c.args.counts counted (tree left)) = rw c.deref.ensures at c.in_ok-node.ensures.spends in
    let emits : Emits l.self c.node.new.self l.self.next_leaf (leaves_of (tree left)) (matching (tree left)) (content (tree left)) c.args.next c.in_ok-node.field-0 =
    rw c.deref.ensures at c.in_ok-node.ensures.emits in
    rw c.deref-rest.ensures (record {
      appends = Appends-then c.args.self.now.instructions l.self.instructions c.node.new.self.instructions l.invariant.appends emits.appends;
      known =
          let P : ℕ → Type 0 = λ k. k < length (all_of l.self.instructions) in
          let Q : ℕ → Type 0 = λ k. k < length (all_of c.node.new.self.instructions) in
          All-same Q c.push.new.self.items (l.entries.items ++ c.in_ok-node.field-0 ∷ []) items
          (All-push Q l.entries.items c.in_ok-node.field-0
          (All-weaker P Q (λ k lt. omega (arith, lt, emits.appends.all.grown)) l.entries.items l.invariant.known) emits.begins);
      splitting = λ leaves has.
          let a = code_in leaves c.args.self.now in
          let b = code_in leaves l.self in
          let e = code_in leaves c.node.new.self in
          let before = l.invariant.splitting leaves has in
          let both = has-same leaves l.self.next_leaf (leaves_of (tree l.rest.now)) (leaves_of (tree left) ++ leaves_of (tree right)) (ap leaves_of rest-is) before.has in
          let node = emits.means leaves (has-first leaves l.self.next_leaf (leaves_of (tree left)) (leaves_of (tree right)) both) in
          let is : HasLeft a e c.args.next c.in_ok-node.field-0 (tree l.rest.now) (tree right) = record {
            left = tree left;
            is = rest-is;
            compiled = compiled_earlier a b e (matching (tree left)) c.args.next c.in_ok-node.field-0 before.grown node.compiled;
            tidies = tidies_earlier a b e (content (tree left)) c.args.next c.in_ok-node.field-0 before.grown node.holds.tidies;
          } in
          let whole = content (tree c.args.node.now) in
          let sides = content (alt (tree left) (tree right)) in
          let part : IsPartOf sides whole = subst (λ u. IsPartOf (content u) whole) rest-is before.part in
          let first = part-then (content (tree left)) sides whole (part-left (content (tree left)) (content (tree right))) part in
          record {
            grown = Grown-then a b e before.grown node.compiled.grown;
            waiting =
                subst (λ es. Waiting a e c.args.next es (tree c.args.node.now) (tree right)) (sym items)
                (waiting_push a e c.args.next l.entries.items c.in_ok-node.field-0 (tree c.args.node.now) (tree l.rest.now) (tree right)
                (waiting_later a b e c.args.next l.entries.items (tree c.args.node.now) (tree l.rest.now) node.compiled.grown before.waiting) is);
            adds =
                adds-then a b e whole node.compiled.grown.ops node.compiled.grown.routines before.adds
                (adds-part b e (content (tree left)) whole first node.holds.adds);
            part = part-then (content (tree right)) sides whole (part-right (content (tree left)) (content (tree right))) part;
            covers = λ g more rest.
                let to_e = longer b e node.compiled.grown in
                let first = covers_later a e g (content (tree left)) more (covers_earlier a b e (content (tree left)) (longer a b before.grown) node.covers) in
                before.covers g (longer-then b e g to_e more)
                (subst (λ u. Covers a g (content u)) (sym rest-is) (covers_either a g (content (tree left)) (content (tree right)) first rest));
            has =
                has-at leaves (l.self.next_leaf + length (leaves_of (tree left))) c.node.new.self.next_leaf (leaves_of (tree right)) node.after
                (has-second leaves l.self.next_leaf (leaves_of (tree left)) (leaves_of (tree right)) both);
            after =
                omega (
                  arith,
                  before.after,
                  node.after,
                  ap length (ap leaves_of rest-is),
                  length-append (leaves_of (tree left)) (leaves_of (tree right)),
                );
          };
      smaller = le_trans (right_smaller _ _ _ c.in-Alt.is) l.invariant.smaller;
      amount = λ counted. l.invariant.amount counted + sized c.args.counts counted (tree left);
      total = λ counted. omega (arith, l.invariant.total counted, sizes counted, ap length items, length_push l.entries.items c.in_ok-node.field-0);
      spent =
          Spends-then c.args.self.now l.self c.node.new.self c.args.counts l.invariant.amount (λ counted. sized c.args.counts counted (tree left)) l.invariant.spent
          spends;
    })

pub node-returns-in_err-node-clause-too_long : goal.node-returns-in_err-node-clause-too_long
node-returns-in_err-node-clause-too_long t c =
    let l = c.loop-rest in
    let counts = c.args.counts in
    let left = tree c.in-Alt.left.value in
    let rest-is : tree l.rest.now ≡ alt left (tree c.in-Alt.right.value) = ap tree c.in-Alt.is ∙ tree-Alt c.in-Alt.left c.in-Alt.right in
    let whole : Tree = tree c.args.node.now in
    too_long c.from_residual.result _ _ c.from_residual.ensures.1
    (λ is.
    let exceeds : Exceeds l.self counts (λ counted. sized counts counted left) = rw c.deref.ensures at (c.in_err-node.ensures.too_long is) in
    exceeds-more c.args.self.now counts (λ counted. l.invariant.amount counted + sized counts counted left) (λ counted. sized counts counted whole)
    (λ counted. omega (arith, l.invariant.total counted, ap (sized counts counted) rest-is))
    (exceeds-then c.args.self.now l.self counts l.invariant.amount (λ counted. sized counts counted left) l.invariant.spent exceeds))

pub node-returns-in_err-entry-clause-too_long : goal.node-returns-in_err-entry-clause-too_long
node-returns-in_err-entry-clause-too_long t c =
    let l = c.loop-rest in
    let counts = c.args.counts in
    let rest : Tree = tree l.rest.now in
    too_long c.from_residual-in_err-entry.result _ _ c.from_residual-in_err-entry.ensures.1
    (λ is.
    exceeds-more c.args.self.now counts (λ counted. l.invariant.amount counted + sized counts counted rest) (λ counted. sized counts counted (tree c.args.node.now))
    (λ counted. omega (arith, l.invariant.total counted))
    (exceeds-then c.args.self.now l.self counts l.invariant.amount (λ counted. sized counts counted rest) l.invariant.spent (c.in_err-entry.ensures.too_long is)))

pub node-returns-in_err-entry-2-clause-too_long : goal.node-returns-in_err-entry-2-clause-too_long
node-returns-in_err-entry-2-clause-too_long t c =
    let l = c.loop-first in
    let counts = c.args.counts in
    let items : l.entries.items ≡ c.pop.new.self.items ++ c.in-Some.first ∷ [] = c.in-Some.ensures.items in
    too_long c.from_residual-in_err-entry-2.result _ _ c.from_residual-in_err-entry-2.ensures.1
    (λ is.
    exceeds-more c.args.self.now counts (λ counted. l.invariant.amount counted + 1) (λ counted. sized counts counted (tree c.args.node.now))
    (λ counted. omega (arith, l.invariant.total counted, ap length items, length_push c.pop.new.self.items c.in-Some.first))
    (exceeds-then c.args.self.now l.self counts l.invariant.amount (λ counted. 1) l.invariant.spent (c.in_err-entry-2.ensures.too_long counts is)))

pub node-loop-first-init : goal.node-loop-first-init
node-loop-first-init t c =
    let l = c.loop-rest in
    record {
      begins = c.in_ok-entry.ensures.emits.begins;
      appends =
          Appends-then c.args.self.now.instructions l.self.instructions c.other.new.self.instructions l.invariant.appends c.in_ok-entry.ensures.emits.appends;
      known =
          let P : ℕ → Type 0 = λ k. k < length (all_of l.self.instructions) in
          let Q : ℕ → Type 0 = λ k. k < length (all_of c.other.new.self.instructions) in
          All-weaker P Q (λ k lt. omega (arith, lt, c.in_ok-entry.ensures.emits.appends.all.grown)) l.entries.items l.invariant.known;
      joining = λ leaves has.
          let a = code_in leaves c.args.self.now in
          let b = code_in leaves l.self in
          let e = code_in leaves c.other.new.self in
          let before = l.invariant.splitting leaves has in
          let last = c.in_ok-entry.ensures.emits.means leaves before.has in
          record {
            joined = tree l.rest.now;
            waiting =
                waiting_later a b e c.args.next l.entries.items (tree c.args.node.now) (tree l.rest.now) last.compiled.grown before.waiting;
            compiled = compiled_earlier a b e (matching (tree l.rest.now)) c.args.next c.in_ok-entry.entry before.grown last.compiled;
            adds =
                adds-then a b e (content (tree c.args.node.now)) last.compiled.grown.ops last.compiled.grown.routines before.adds
                (adds-part b e (content (tree l.rest.now)) (content (tree c.args.node.now)) before.part last.holds.adds);
            tidies = tidies_earlier a b e (content (tree l.rest.now)) c.args.next c.in_ok-entry.entry before.grown last.holds.tidies;
            covers =
                before.covers e (longer b e last.compiled.grown)
                (covers_earlier a b e (content (tree l.rest.now)) (longer a b before.grown) last.covers);
            after = last.after ∙ before.after;
          };
      amount = λ counted. l.invariant.amount counted + sized c.args.counts counted (tree l.rest.now);
      total = λ counted. omega (arith, l.invariant.total counted);
      spent =
          Spends-then c.args.self.now l.self c.other.new.self c.args.counts l.invariant.amount (λ counted. sized c.args.counts counted (tree l.rest.now))
          l.invariant.spent c.in_ok-entry.ensures.spends;
    }

pub node-loop-first-preserved : goal.node-loop-first-preserved
node-loop-first-preserved t c =
    let l = c.loop-first in
    let whole = tree c.args.node.now in
    let items : l.entries.items ≡ c.pop.new.self.items ++ c.in-Some.first ∷ [] = c.in-Some.ensures.items in
    let n : ℕ = length (all_of l.self.instructions) in
    let known : All (λ (k : ℕ). k < n) c.pop.new.self.items × (c.in-Some.first < n) =
    All-pop (λ (k : ℕ). k < n) l.entries.items c.pop.new.self.items (Some c.in-Some.first) items l.invariant.known in
    record {
      begins = omega (arith, c.in_ok-entry-2.ensures.emits.at_end, c.in_ok-entry-2.ensures.emits.grown);
      appends =
          Appends-then c.args.self.now.instructions l.self.instructions c.push-in-Some.new.self.instructions l.invariant.appends
          (c.in_ok-entry-2.ensures.appends (names-two n c.in-Some.first l.entry known.1 l.invariant.begins));
      known =
          let Q : ℕ → Type 0 = λ k. k < length (all_of c.push-in-Some.new.self.instructions) in
          All-weaker (λ (k : ℕ). k < n) Q (λ k lt. omega (arith, lt, c.in_ok-entry-2.ensures.emits.grown)) c.pop.new.self.items known.0;
      joining = λ leaves has.
          let a = code_in leaves c.args.self.now in
          let b = code_in leaves l.self in
          let e = code_in leaves c.push-in-Some.new.self in
          let before = l.invariant.joining leaves has in
          let pushed = c.in_ok-entry-2.ensures.emits.means leaves in
          let popped = waiting_pop a b c.args.next c.pop.new.self.items c.in-Some.first whole before.joined
          (subst (λ es. Waiting a b c.args.next es whole before.joined) items before.waiting) in
          let grown = Grown-push b e _ c.in_ok-entry-2.entry pushed (popped.1.1.compiled.begins, before.compiled.begins) in
          record {
            joined = popped.0;
            waiting = waiting_later a b e c.args.next c.pop.new.self.items whole popped.0 grown popped.1.0;
            compiled =
                compiled_alternative a b e c.args.next c.in-Some.first l.entry c.in_ok-entry-2.entry popped.0 before.joined popped.1.1
                before.compiled pushed;
            adds =
                adds-then a b e (content whole) grown.ops grown.routines before.adds
                (adds_split b e (content whole) c.in-Some.first l.entry c.in_ok-entry-2.entry pushed);
            tidies =
                tidies_alternative a b e c.args.next c.in-Some.first l.entry c.in_ok-entry-2.entry popped.0 before.joined (longer a b before.compiled.grown)
                popped.1.1 before.tidies pushed;
            covers = covers_later a b e (content whole) (longer b e grown) before.covers;
            after = c.push-in-Some.ensures.leaf ∙ before.after;
          };
      amount = λ counted. l.invariant.amount counted + 1;
      total = λ counted. omega (arith, l.invariant.total counted, ap length items, length_push c.pop.new.self.items c.in-Some.first);
      spent =
          Spends-then c.args.self.now l.self c.push-in-Some.new.self c.args.counts l.invariant.amount (λ counted. 1) l.invariant.spent
          (c.in_ok-entry-2.ensures.spends c.args.counts);
    }

pub node-returns-clause-emits : goal.node-returns-clause-emits
node-returns-clause-emits t c =
    let l = c.loop-first in
    record {
      begins = l.invariant.begins;
      appends = l.invariant.appends;
      means = λ leaves has.
          let a = code_in leaves c.args.self.now in
          let b = code_in leaves l.self in
          let whole = tree c.args.node.now in
          let is = l.invariant.joining leaves has in
          let none : l.entries.items ≡ [] = nil_from_length l.entries.items (omega (arith, c.in_default-pop.ensures.cases, l.entries.ok)) in
          let same : whole ≡ is.joined =
          waiting_done a b c.args.next whole is.joined (subst (λ es. Waiting a b c.args.next es whole is.joined) none is.waiting) in
          record {
            after = is.after;
            compiled = subst (λ u. Compiled a b (matching u) c.args.next l.entry) (sym same) is.compiled;
            holds = record { adds = is.adds; tidies = subst (λ u. Tidies a b (content u) c.args.next l.entry) (sym same) is.tidies };
            covers = is.covers;
          };
    }

pub node-returns-clause-spends : goal.node-returns-clause-spends
node-returns-clause-spends t c =
    let l = c.loop-first in
    let none : l.entries.items ≡ [] = nil_from_length l.entries.items (omega (arith, c.in_default-pop.ensures.cases, l.entries.ok)) in
    Spends-same c.args.self.now l.self c.args.counts l.invariant.amount (λ counted. sized c.args.counts counted (tree c.args.node.now))
    (λ counted. omega (arith, l.invariant.total counted, ap length none)) l.invariant.spent

-- ---- other nodes

pub other-returns-in_ok-contents-in-CaptureGroup-clause-emits : goal.other-returns-in_ok-contents-in-CaptureGroup-clause-emits
other-returns-in_ok-contents-in-CaptureGroup-clause-emits t c =
    let id = c.in-CaptureGroup.id in
    let body = tree c.in-CaptureGroup.contents.value in
    let from = c.args.self.now.next_leaf in
    let is = ap tree c.in-CaptureGroup.is ∙ tree-CaptureGroup id c.in-CaptureGroup.contents c.in-CaptureGroup.name in
    let inside : Emits c.push.new.self c.node.new.self c.push.new.self.next_leaf (leaves_of body) (matching body) (content body) c.in_ok-end-in-CaptureGroup.end
    c.in_ok-contents-in-CaptureGroup.contents =
    rw c.deref-in-CaptureGroup.ensures at c.in_ok-contents-in-CaptureGroup.ensures.emits in
    let x = c.args.self.now.instructions in
    let y = c.push.new.self.instructions in
    let z = c.node.new.self.instructions in
    let ended = c.in_ok-end-in-CaptureGroup.ensures.appends (names-one (length (all_of x)) c.args.next c.requires) in
    IfOk-both c.push-in-CaptureGroup.result _ _ _
    (λ at pushed appends. record {
      begins = omega (arith, pushed.at_end, pushed.grown);
      appends = Appends-then x z c.push-in-CaptureGroup.new.self.instructions (Appends-then x y z ended inside.appends) appends;
      means = λ leaves has.
          let a = code_in leaves c.args.self.now in
          let g = code_in leaves c.push-in-CaptureGroup.new.self in
          let contents = inside.means leaves (has-at leaves from c.push.new.self.next_leaf (leaves_of body) c.push.ensures.leaf
          (has-same leaves from (leaves_of (tree c.args.node.now)) (leaves_of body) (ap leaves_of is) has)) in
          record {
            after = omega (arith, c.push-in-CaptureGroup.ensures.leaf, contents.after, c.push.ensures.leaf, ap length (ap leaves_of is));
            compiled =
                subst (λ u. Compiled a g (matching u) c.args.next at) (sym is)
                (compiled_group a (code_in leaves c.push.new.self) (code_in leaves c.node.new.self) g (matching body) id c.args.next c.in_ok-end-in-CaptureGroup.end
                c.in_ok-contents-in-CaptureGroup.contents at (below leaves (all_of c.args.self.now.instructions) c.args.next c.requires)
                (c.in_ok-end-in-CaptureGroup.ensures.emits.means leaves) contents.compiled (pushed.means leaves));
            holds =
                subst (λ u. Holds a g (content u) c.args.next at) (sym is)
                (holds_group a (code_in leaves c.push.new.self) (code_in leaves c.node.new.self) g (content body) id c.args.next c.in_ok-end-in-CaptureGroup.end
                c.in_ok-contents-in-CaptureGroup.contents at contents.compiled.grown (c.in_ok-end-in-CaptureGroup.ensures.emits.means leaves) contents.holds
                (pushed.means leaves));
            covers =
                subst (λ u. Covers a g (content u)) (sym is)
                (covers_group a (code_in leaves c.push.new.self) (code_in leaves c.node.new.self) g (content body) id c.args.next c.in_ok-end-in-CaptureGroup.end
                c.in_ok-contents-in-CaptureGroup.contents at contents.compiled.grown (c.in_ok-end-in-CaptureGroup.ensures.emits.means leaves) contents.covers
                (pushed.means leaves));
          };
    })
    c.push-in-CaptureGroup.ensures.emits (c.push-in-CaptureGroup.ensures.appends (names-one (length (all_of z)) c.in_ok-contents-in-CaptureGroup.contents inside.begins))

pub other-returns-in_ok-contents-in-CaptureGroup-clause-spends : goal.other-returns-in_ok-contents-in-CaptureGroup-clause-spends
other-returns-in_ok-contents-in-CaptureGroup-clause-spends t c =
    let counts = c.args.counts in
    let u = tree c.in-CaptureGroup.contents.value in
    let whole : Tree = tree c.args.node.now in
    let is-tree = ap tree c.in-CaptureGroup.is ∙ tree-CaptureGroup c.in-CaptureGroup.id c.in-CaptureGroup.contents c.in-CaptureGroup.name in
    let inside : Spends c.push.new.self c.node.new.self counts (λ counted. sized counts counted u) = rw c.deref-in-CaptureGroup.ensures at c.in_ok-contents-in-CaptureGroup.ensures.spends in
    let before = Spends-then c.args.self.now c.push.new.self c.node.new.self counts (λ counted. 1) (λ counted. sized counts counted u)
    (c.in_ok-end-in-CaptureGroup.ensures.spends counts) inside in
    IfOk-weaker c.push-in-CaptureGroup.result _ _
    (λ at last.
    Spends-same c.args.self.now c.push-in-CaptureGroup.new.self counts (λ counted. 1 + sized counts counted u + 1) (λ counted. sized counts counted whole)
    (λ counted. omega (arith, ap (sized counts counted) is-tree))
    (Spends-then c.args.self.now c.node.new.self c.push-in-CaptureGroup.new.self counts (λ counted. 1 + sized counts counted u) (λ counted. 1) before last))
    (c.push-in-CaptureGroup.ensures.spends counts)

pub other-returns-in_ok-contents-in-CaptureGroup-clause-too_long : goal.other-returns-in_ok-contents-in-CaptureGroup-clause-too_long
other-returns-in_ok-contents-in-CaptureGroup-clause-too_long t c =
    let counts = c.args.counts in
    let u = tree c.in-CaptureGroup.contents.value in
    let whole : Tree = tree c.args.node.now in
    let is-tree = ap tree c.in-CaptureGroup.is ∙ tree-CaptureGroup c.in-CaptureGroup.id c.in-CaptureGroup.contents c.in-CaptureGroup.name in
    let inside : Spends c.push.new.self c.node.new.self counts (λ counted. sized counts counted u) = rw c.deref-in-CaptureGroup.ensures at c.in_ok-contents-in-CaptureGroup.ensures.spends in
    let before = Spends-then c.args.self.now c.push.new.self c.node.new.self counts (λ counted. 1) (λ counted. sized counts counted u)
    (c.in_ok-end-in-CaptureGroup.ensures.spends counts) inside in
    IfErr-weaker c.push-in-CaptureGroup.result _ _
    (λ fault none is.
    exceeds-more c.args.self.now counts (λ counted. 1 + sized counts counted u + 1) (λ counted. sized counts counted whole)
    (λ counted. omega (arith, ap (sized counts counted) is-tree))
    (exceeds-then c.args.self.now c.node.new.self counts (λ counted. 1 + sized counts counted u) (λ counted. 1) before (none is)))
    (c.push-in-CaptureGroup.ensures.too_long counts)

pub other-returns-in_err-end-in-CaptureGroup-clause-too_long : goal.other-returns-in_err-end-in-CaptureGroup-clause-too_long
other-returns-in_err-end-in-CaptureGroup-clause-too_long t c =
    let counts = c.args.counts in
    let u = tree c.in-CaptureGroup.contents.value in
    let whole : Tree = tree c.args.node.now in
    let is-tree = ap tree c.in-CaptureGroup.is ∙ tree-CaptureGroup c.in-CaptureGroup.id c.in-CaptureGroup.contents c.in-CaptureGroup.name in
    too_long c.from_residual.result _ _ c.from_residual.ensures.1
    (λ is.
    exceeds-more c.args.self.now counts (λ counted. 1) (λ counted. sized counts counted whole) (λ counted. omega (arith, ap (sized counts counted) is-tree))
    (c.in_err-end-in-CaptureGroup.ensures.too_long counts is))

pub other-returns-in_err-contents-in-CaptureGroup-clause-too_long : goal.other-returns-in_err-contents-in-CaptureGroup-clause-too_long
other-returns-in_err-contents-in-CaptureGroup-clause-too_long t c =
    let counts = c.args.counts in
    let u = tree c.in-CaptureGroup.contents.value in
    let whole : Tree = tree c.args.node.now in
    let is-tree = ap tree c.in-CaptureGroup.is ∙ tree-CaptureGroup c.in-CaptureGroup.id c.in-CaptureGroup.contents c.in-CaptureGroup.name in
    too_long c.from_residual-in_err-contents-in-CaptureGroup.result _ _ c.from_residual-in_err-contents-in-CaptureGroup.ensures.1
    (λ is.
    let exceeds : Exceeds c.push.new.self counts (λ counted. sized counts counted u) = rw c.deref-in-CaptureGroup.ensures at (c.in_err-contents-in-CaptureGroup.ensures.too_long is) in
    exceeds-more c.args.self.now counts (λ counted. 1 + sized counts counted u) (λ counted. sized counts counted whole)
    (λ counted. omega (arith, ap (sized counts counted) is-tree))
    (exceeds-then c.args.self.now c.push.new.self counts (λ counted. 1) (λ counted. sized counts counted u) (c.in_ok-end-in-CaptureGroup.ensures.spends counts) exceeds))

pub other-returns-in-LookaroundAssertion-clause-emits : goal.other-returns-in-LookaroundAssertion-clause-emits
other-returns-in-LookaroundAssertion-clause-emits t c =
    let w = c.in-LookaroundAssertion in
    let is = ap tree w.is ∙ tree-LookaroundAssertion w.negate w.backwards w.start_group w.end_group w.contents in
    IfOk-weaker c.look.result _ _
    (λ at compiled.
    subst (λ u. Emits c.args.self.now c.look.new.self c.args.self.now.next_leaf (leaves_of u) (matching u) (content u) c.args.next at) (sym is)
    (rw c.deref-in-LookaroundAssertion.ensures at compiled))
    c.look.ensures.emits

pub other-returns-in_ok-second-in-Alt-clause-emits : goal.other-returns-in_ok-second-in-Alt-clause-emits
other-returns-in_ok-second-in-Alt-clause-emits t c =
    let left = tree c.in-Alt.left.value in
    let right = tree c.in-Alt.right.value in
    let next = c.args.next in
    let from = c.args.self.now.next_leaf in
    let middle = c.node-in-Alt.new.self.next_leaf in
    let first = c.in_ok-first-in-Alt.first in
    let second = c.in_ok-second-in-Alt.second in
    let is : tree c.args.node.now ≡ alt left right = ap tree c.in-Alt.is ∙ tree-Alt c.in-Alt.left c.in-Alt.right in
    let emits : Emits c.args.self.now c.node-in-Alt.new.self from (leaves_of left) (matching left) (content left) next first =
    rw c.deref-in-Alt.ensures at c.in_ok-first-in-Alt.ensures.emits in
    let emits2 : Emits c.node-in-Alt.new.self c.node-in-Alt-2.new.self middle (leaves_of right) (matching right) (content right) next second =
    rw c.deref-in-Alt-2.ensures at c.in_ok-second-in-Alt.ensures.emits in
    let x = c.args.self.now.instructions in
    let y = c.node-in-Alt.new.self.instructions in
    let z = c.node-in-Alt-2.new.self.instructions in
    IfOk-both c.push-in-Alt.result _ _ _
    (λ at pushed appends. record {
      begins = omega (arith, pushed.at_end, pushed.grown);
      appends = Appends-then x z c.push-in-Alt.new.self.instructions (Appends-then x y z emits.appends emits2.appends) appends;
      means = λ leaves has.
          let a = code_in leaves c.args.self.now in
          let b = code_in leaves c.node-in-Alt.new.self in
          let e = code_in leaves c.node-in-Alt-2.new.self in
          let g = code_in leaves c.push-in-Alt.new.self in
          let both = has-same leaves from (leaves_of (tree c.args.node.now)) (leaves_of left ++ leaves_of right) (ap leaves_of is) has in
          let one = emits.means leaves (has-first leaves from (leaves_of left) (leaves_of right) both) in
          let two = emits2.means leaves (has-at leaves (from + length (leaves_of left)) middle (leaves_of right) one.after
          (has-second leaves from (leaves_of left) (leaves_of right) both)) in
          let has-left : HasLeft a e next first (tree c.args.node.now) right = record {
            left = left;
            is = is;
            compiled = compiled_later a b e (matching left) next first two.compiled.grown one.compiled;
            tidies = tidies_later a b e (content left) next first (longer b e two.compiled.grown) one.holds.tidies;
          } in
          let both_sides = either_of (content left) (content right) in
          let more = two.compiled.grown in
          record {
            after =
                omega (
                  arith,
                  c.push-in-Alt.ensures.leaf,
                  one.after,
                  two.after,
                  ap length (ap leaves_of is),
                  length-append (leaves_of left) (leaves_of right),
                );
            compiled =
                compiled_alternative a e g next first second at (tree c.args.node.now) right has-left
                (compiled_earlier a b e (matching right) next second one.compiled.grown two.compiled) (pushed.means leaves);
            holds =
                subst (λ u. Holds a g (content u) next at) (sym is) (record {
                  adds = adds-then a e g both_sides (pushed-ops e g _ at (pushed.means leaves)) (pushed-routines e g _ at (pushed.means leaves))
                      (adds-then a b e both_sides more.ops more.routines
                      (adds-part a b (content left) both_sides (part-left (content left) (content right)) one.holds.adds)
                      (adds-part b e (content right) both_sides (part-right (content left) (content right)) two.holds.adds))
                      (adds_split e g both_sides first second at (pushed.means leaves));
                  tidies =
                      tidies_or a e g (content left) (content right) next first second at (longer a e (Grown-then a b e one.compiled.grown more)) has-left.tidies
                      (tidies_earlier a b e (content right) next second one.compiled.grown two.holds.tidies) (pushed.means leaves);
                });
            covers =
                subst (λ u. Covers a g (content u)) (sym is)
                (covers_later a e g both_sides (longer-push e g _ at (pushed.means leaves))
                (covers_either a e (content left) (content right)
                (covers_later a b e (content left) (longer b e more) one.covers)
                (covers_earlier a b e (content right) (longer a b one.compiled.grown) two.covers)));
          };
    })
    c.push-in-Alt.ensures.emits
    (c.push-in-Alt.ensures.appends (names-two (length (all_of z)) first second (omega (arith, emits.begins, emits2.appends.all.grown)) emits2.begins))

pub other-returns-in_ok-second-in-Alt-clause-spends : goal.other-returns-in_ok-second-in-Alt-clause-spends
other-returns-in_ok-second-in-Alt-clause-spends t c =
    let counts = c.args.counts in
    let u = tree c.in-Alt.left.value in
    let v = tree c.in-Alt.right.value in
    let whole : Tree = tree c.args.node.now in
    let is-tree : whole ≡ alt u v = ap tree c.in-Alt.is ∙ tree-Alt c.in-Alt.left c.in-Alt.right in
    let one : Spends c.args.self.now c.node-in-Alt.new.self counts (λ counted. sized counts counted u) = rw c.deref-in-Alt.ensures at c.in_ok-first-in-Alt.ensures.spends in
    let two : Spends c.node-in-Alt.new.self c.node-in-Alt-2.new.self counts (λ counted. sized counts counted v) = rw c.deref-in-Alt-2.ensures at c.in_ok-second-in-Alt.ensures.spends in
    let before = Spends-then c.args.self.now c.node-in-Alt.new.self c.node-in-Alt-2.new.self counts (λ counted. sized counts counted u) (λ counted. sized counts counted v) one two in
    IfOk-weaker c.push-in-Alt.result _ _
    (λ at last.
    Spends-same c.args.self.now c.push-in-Alt.new.self counts (λ counted. sized counts counted u + sized counts counted v + 1) (λ counted. sized counts counted whole)
    (λ counted. omega (arith, ap (sized counts counted) is-tree))
    (Spends-then c.args.self.now c.node-in-Alt-2.new.self c.push-in-Alt.new.self counts (λ counted. sized counts counted u + sized counts counted v) (λ counted. 1) before last))
    (c.push-in-Alt.ensures.spends counts)

pub other-returns-in_ok-second-in-Alt-clause-too_long : goal.other-returns-in_ok-second-in-Alt-clause-too_long
other-returns-in_ok-second-in-Alt-clause-too_long t c =
    let counts = c.args.counts in
    let u = tree c.in-Alt.left.value in
    let v = tree c.in-Alt.right.value in
    let whole : Tree = tree c.args.node.now in
    let is-tree : whole ≡ alt u v = ap tree c.in-Alt.is ∙ tree-Alt c.in-Alt.left c.in-Alt.right in
    let one : Spends c.args.self.now c.node-in-Alt.new.self counts (λ counted. sized counts counted u) = rw c.deref-in-Alt.ensures at c.in_ok-first-in-Alt.ensures.spends in
    let two : Spends c.node-in-Alt.new.self c.node-in-Alt-2.new.self counts (λ counted. sized counts counted v) = rw c.deref-in-Alt-2.ensures at c.in_ok-second-in-Alt.ensures.spends in
    let before = Spends-then c.args.self.now c.node-in-Alt.new.self c.node-in-Alt-2.new.self counts (λ counted. sized counts counted u) (λ counted. sized counts counted v) one two in
    IfErr-weaker c.push-in-Alt.result _ _
    (λ fault none is.
    exceeds-more c.args.self.now counts (λ counted. sized counts counted u + sized counts counted v + 1) (λ counted. sized counts counted whole)
    (λ counted. omega (arith, ap (sized counts counted) is-tree))
    (exceeds-then c.args.self.now c.node-in-Alt-2.new.self counts (λ counted. sized counts counted u + sized counts counted v) (λ counted. 1) before (none is)))
    (c.push-in-Alt.ensures.too_long counts)

pub other-returns-in_err-first-in-Alt-clause-too_long : goal.other-returns-in_err-first-in-Alt-clause-too_long
other-returns-in_err-first-in-Alt-clause-too_long t c =
    let counts = c.args.counts in
    let u = tree c.in-Alt.left.value in
    let v = tree c.in-Alt.right.value in
    let whole : Tree = tree c.args.node.now in
    let is-tree : whole ≡ alt u v = ap tree c.in-Alt.is ∙ tree-Alt c.in-Alt.left c.in-Alt.right in
    too_long c.from_residual-in_err-first-in-Alt.result _ _ c.from_residual-in_err-first-in-Alt.ensures.1
    (λ is.
    let exceeds : Exceeds c.args.self.now counts (λ counted. sized counts counted u) = rw c.deref-in-Alt.ensures at (c.in_err-first-in-Alt.ensures.too_long is) in
    exceeds-more c.args.self.now counts (λ counted. sized counts counted u) (λ counted. sized counts counted whole)
    (λ counted. omega (arith, ap (sized counts counted) is-tree)) exceeds)

pub other-returns-in_err-second-in-Alt-clause-too_long : goal.other-returns-in_err-second-in-Alt-clause-too_long
other-returns-in_err-second-in-Alt-clause-too_long t c =
    let counts = c.args.counts in
    let u = tree c.in-Alt.left.value in
    let v = tree c.in-Alt.right.value in
    let whole : Tree = tree c.args.node.now in
    let is-tree : whole ≡ alt u v = ap tree c.in-Alt.is ∙ tree-Alt c.in-Alt.left c.in-Alt.right in
    let one : Spends c.args.self.now c.node-in-Alt.new.self counts (λ counted. sized counts counted u) = rw c.deref-in-Alt.ensures at c.in_ok-first-in-Alt.ensures.spends in
    too_long c.from_residual-in_err-second-in-Alt.result _ _ c.from_residual-in_err-second-in-Alt.ensures.1
    (λ is.
    let exceeds : Exceeds c.node-in-Alt.new.self counts (λ counted. sized counts counted v) = rw c.deref-in-Alt-2.ensures at (c.in_err-second-in-Alt.ensures.too_long is) in
    exceeds-more c.args.self.now counts (λ counted. sized counts counted u + sized counts counted v) (λ counted. sized counts counted whole)
    (λ counted. omega (arith, ap (sized counts counted) is-tree))
    (exceeds-then c.args.self.now c.node-in-Alt.new.self counts (λ counted. sized counts counted u) (λ counted. sized counts counted v) one exceeds))

pub other-returns-in_default-clause-emits : goal.other-returns-in_default-clause-emits
other-returns-in_default-clause-emits t c =
    let u = tree c.args.node.now in
    let from = c.args.self.now.next_leaf in
    let leaf : has_one_outcome u ≡ true = search (rules, the_lemmas) in
    let sole : leaves_of u ≡ u ∷ [] = search (rules, the_lemmas) in
    IfOk-both c.push_leaf.result _ _ _
    (λ at pushed appends. record {
      begins = omega (arith, pushed.at_end, pushed.grown);
      appends = appends;
      means = λ leaves has.
          let one = has-same leaves from (leaves_of u) (u ∷ []) sole has in
          let a = code_in leaves c.args.self.now in
          let b = code_in leaves c.push_leaf.new.self in
          let emitted : Pushed a b (part u c.args.next) at =
          subst (λ v. Pushed a b (part v c.args.next) at) (has-leaf leaves from u one) (pushed.means leaves) in
          record {
            after = omega (arith, c.push_leaf.ensures.leaf, has-room leaves from u one, ap length sole);
            compiled =
                compiled_part a b u c.args.next at (part_if_leaf _ leaf) (below leaves (all_of c.args.self.now.instructions) c.args.next c.requires) emitted;
            holds = holds_part a b (content u) u c.args.next at (plain_leaf u leaf) emitted;
            covers = covers_leaf a b u c.args.next at leaf emitted;
          };
    })
    c.push_leaf.ensures.emits (c.push_leaf.ensures.appends c.requires)

pub other-returns-in_default-clause-spends : goal.other-returns-in_default-clause-spends
other-returns-in_default-clause-spends t c =
    let counts = c.args.counts in
    let u = tree c.args.node.now in
    let one : (counted : ℕ → ℕ) → sized counts counted u ≡ 1 = λ counted. search (rules, the_lemmas) in
    IfOk-weaker c.push_leaf.result _ _
    (λ at is. Spends-same c.args.self.now c.push_leaf.new.self counts (λ counted. 1) (λ counted. sized counts counted u) (λ counted. sym (one counted)) is)
    (c.push_leaf.ensures.spends counts)

pub other-returns-in_default-clause-too_long : goal.other-returns-in_default-clause-too_long
other-returns-in_default-clause-too_long t c =
    let counts = c.args.counts in
    let u = tree c.args.node.now in
    let one : (counted : ℕ → ℕ) → sized counts counted u ≡ 1 = λ counted. search (rules, the_lemmas) in
    IfErr-weaker c.push_leaf.result _ _
    (λ fault none is. exceeds-more c.args.self.now counts (λ counted. 1) (λ counted. sized counts counted u) (λ counted. omega (arith, one counted)) (none is))
    (c.push_leaf.ensures.too_long counts)

pub other-returns-in-Loop-clause-emits : goal.other-returns-in-Loop-clause-emits
other-returns-in-Loop-clause-emits t c =
    let q = c.in-Loop.quant in
    let u = tree c.in-Loop.loopee.value in
    let groups = c.in-Loop.enclosed_groups in
    let is = ap tree c.in-Loop.is ∙ tree-Loop c.in-Loop.loopee q groups in
    IfOk-weaker c.repeat.result _ _
    (λ at emits.
    let P : Tree → Type 0 = λ v. Emits c.args.self.now c.repeat.new.self c.args.self.now.next_leaf (leaves_of v) (matching v) (content v) c.args.next at in
    let same : wrapped (loop q c.from.result c.from-in-Loop.result) u ≡ wrapped (loop q groups.start groups.end) u =
    ap₂ (λ (a b : ℕ). wrapped (loop q a b) u) c.from.ensures c.from-in-Loop.ensures in
    subst P (sym is) (subst P same (rw c.deref-in-Loop.ensures at emits)))
    c.repeat.ensures.emits

pub other-returns-in-StringSet-clause-emits : goal.other-returns-in-StringSet-clause-emits
other-returns-in-StringSet-clause-emits t c =
    let ss = map boxed_slice_items c.in-StringSet.alternatives.items in
    let is : tree c.args.node.now ≡ strings ss c.in-StringSet.icase = search (rules, the_lemmas) in
    IfOk-weaker c.strings.result _ _
    (λ at emits.
    subst (λ u. Emits c.args.self.now c.strings.new.self c.args.self.now.next_leaf (leaves_of u) (matching u) (content u) c.args.next at) (sym is)
    (subst (λ ss. Emits c.args.self.now c.strings.new.self c.args.self.now.next_leaf (leaves_of_strings (map boxed_slice_items ss) c.in-StringSet.icase)
    (matching (strings (map boxed_slice_items ss) c.in-StringSet.icase)) nothing c.args.next at) c.deref-in-StringSet.ensures.value emits))
    (c.strings.ensures.emits c.in-StringSet.icase)

pub other-returns-in-StringSet-clause-spends : goal.other-returns-in-StringSet-clause-spends
other-returns-in-StringSet-clause-spends t c =
    let ss = map boxed_slice_items c.in-StringSet.alternatives.items in
    let is : tree c.args.node.now ≡ strings ss c.in-StringSet.icase = search (rules, the_lemmas) in
    IfOk-weaker c.strings.result _ _
    (λ at spends.
    subst (λ u. Spends c.args.self.now c.strings.new.self c.args.counts (λ counted. sized c.args.counts counted u)) (sym is)
    (subst (λ ss. Spends c.args.self.now c.strings.new.self c.args.counts (λ counted. sized c.args.counts counted (strings (map boxed_slice_items ss) c.in-StringSet.icase))) c.deref-in-StringSet.ensures.value
    spends)) (c.strings.ensures.spends c.in-StringSet.icase c.args.counts)

pub other-returns-in-StringSet-clause-too_long : goal.other-returns-in-StringSet-clause-too_long
other-returns-in-StringSet-clause-too_long t c =
    let ss = map boxed_slice_items c.in-StringSet.alternatives.items in
    let is : tree c.args.node.now ≡ strings ss c.in-StringSet.icase = search (rules, the_lemmas) in
    IfErr-weaker c.strings.result _ _
    (λ fault too_long long.
    subst (λ u. Exceeds c.args.self.now c.args.counts (λ counted. sized c.args.counts counted u)) (sym is)
    (subst (λ ss. Exceeds c.args.self.now c.args.counts (λ counted. sized c.args.counts counted (strings (map boxed_slice_items ss) c.in-StringSet.icase))) c.deref-in-StringSet.ensures.value (too_long long)))
    (c.strings.ensures.too_long c.in-StringSet.icase c.args.counts)

pub other-returns-in-Empty-clause-spends : goal.other-returns-in-Empty-clause-spends
other-returns-in-Empty-clause-spends t c =
    Spends-same c.args.self.now c.args.self.now c.args.counts (λ counted. 0) (λ counted. sized c.args.counts counted (tree c.args.node.now))
    (λ counted. sym (ap (sized c.args.counts counted) (ap tree c.in-Empty.is ∙ tree-Empty))) (Spends-none c.args.self.now c.args.counts)

pub other-returns-in-Empty-clause-emits : goal.other-returns-in-Empty-clause-emits
other-returns-in-Empty-clause-emits t c = record {
  begins = c.requires;
  appends = Appends-none c.args.self.now.instructions;
  means = λ leaves has.
      let is = ap tree c.in-Empty.is ∙ tree-Empty in
      record {
        after = omega (arith, ap length (ap leaves_of is));
        compiled =
            nothing_at_empty (code_in leaves c.args.self.now) (tree c.args.node.now) c.args.next is
            (below leaves (all_of c.args.self.now.instructions) c.args.next c.requires);
        holds = holds_nothing (code_in leaves c.args.self.now) (content (tree c.args.node.now)) c.args.next;
        covers =
            covers_none (code_in leaves c.args.self.now) (code_in leaves c.args.self.now) (content (tree c.args.node.now))
            (subst (λ u. HasNone (content u)) (sym is) none_nothing);
      };
}

pub other-returns-in-Goal-clause-spends : goal.other-returns-in-Goal-clause-spends
other-returns-in-Goal-clause-spends t c =
    Spends-same c.args.self.now c.args.self.now c.args.counts (λ counted. 0) (λ counted. sized c.args.counts counted (tree c.args.node.now))
    (λ counted. sym (ap (sized c.args.counts counted) (ap tree c.in-Goal.is ∙ tree-Goal))) (Spends-none c.args.self.now c.args.counts)

pub other-returns-in-Goal-clause-emits : goal.other-returns-in-Goal-clause-emits
other-returns-in-Goal-clause-emits t c = record {
  begins = c.requires;
  appends = Appends-none c.args.self.now.instructions;
  means = λ leaves has.
      let is = ap tree c.in-Goal.is ∙ tree-Goal in
      record {
        after = omega (arith, ap length (ap leaves_of is));
        compiled =
            nothing_at_goal (code_in leaves c.args.self.now) (tree c.args.node.now) c.args.next is
            (below leaves (all_of c.args.self.now.instructions) c.args.next c.requires);
        holds = holds_nothing (code_in leaves c.args.self.now) (content (tree c.args.node.now)) c.args.next;
        covers =
            covers_none (code_in leaves c.args.self.now) (code_in leaves c.args.self.now) (content (tree c.args.node.now))
            (subst (λ u. HasNone (content u)) (sym is) none_nothing);
      };
}

pub sequence-loop-i-init : goal.sequence-loop-i-init
sequence-loop-i-init t c =
    let none : drop (length c.args.parts.now) c.args.parts.now ≡ [] = drop_all (length c.args.parts.now) c.args.parts.now (omega arith) in
    record {
      within = omega arith;
      emits = record {
        begins = c.requires;
        appends = Appends-none c.args.self.now.instructions;
        means = λ leaves has.
            let a = code_in leaves c.args.self.now in
            record {
              after = omega (arith, ap length (ap (λ xs. leaves_of_parts (trees xs)) none));
              compiled =
                  subst (λ xs. Compiled a a (matching (cat (trees xs))) c.args.next c.args.next) (sym none)
                  (compiled_nothing a c.args.next (below leaves (all_of c.args.self.now.instructions) c.args.next c.requires));
              holds = holds_nothing a (content_of_parts (trees (drop (length c.args.parts.now) c.args.parts.now))) c.args.next;
              covers =
                  covers_none a a (content_of_parts (trees (drop (length c.args.parts.now) c.args.parts.now)))
                  (subst (λ xs. HasNone (content_of_parts (trees xs))) (sym none) none_nothing);
            };
      };
      spent =
          Spends-same c.args.self.now c.args.self.now c.args.counts (λ counted. 0)
          (λ counted. sized_parts c.args.counts counted (trees (drop (length c.args.parts.now) c.args.parts.now)))
          (λ counted. sym (ap (λ xs. sized_parts c.args.counts counted (trees xs)) none)) (Spends-none c.args.self.now c.args.counts);
    }

pub sequence-loop-i-preserved : goal.sequence-loop-i-preserved
sequence-loop-i-preserved t c =
    let l = c.loop-i in
    let from = c.args.self.now.next_leaf in
    let here = l.self.next_leaf in
    let x = c.index-parts-i.result in
    record {
      within = omega (arith, l.invariant.within);
      emits = record {
        begins = c.in_ok-entry.ensures.emits.begins;
        appends =
            Appends-then c.args.self.now.instructions l.self.instructions c.node.new.self.instructions l.invariant.emits.appends
            c.in_ok-entry.ensures.emits.appends;
        means = λ leaves has.
            let rest = leaves_of_parts (trees (drop l.i c.args.parts.now)) in
            let part = leaves_of (tree x) in
            let whole : leaves_of_parts (trees (drop (l.i - 1) c.args.parts.now)) ≡ rest ++ part =
            parts-leaves c.args.parts.now l.i (l.i - 1) x refl c.loop-i-test.true l.invariant.within c.index-parts-i.is in
            let both = has-same leaves from (leaves_of_parts (trees (drop (l.i - 1) c.args.parts.now))) (rest ++ part) whole has in
            let before = l.invariant.emits.means leaves (has-first leaves from rest part both) in
            let one = c.in_ok-entry.ensures.emits.means leaves (has-at leaves (from + length rest) here part before.after (has-second leaves from rest part both)) in
            record {
              after = omega (arith, one.after, before.after, ap length whole, length-append rest part);
              compiled =
                  sequence_more (code_in leaves c.args.self.now) (code_in leaves l.self) (code_in leaves c.node.new.self) c.args.parts.now l.i (l.i - 1) x
                  c.args.next l.entry c.in_ok-entry.entry refl c.loop-i-test.true l.invariant.within c.index-parts-i.is before.compiled one.compiled;
              holds =
                  holds_sequence (code_in leaves c.args.self.now) (code_in leaves l.self) (code_in leaves c.node.new.self) c.args.parts.now l.i (l.i - 1) x
                  c.args.next l.entry c.in_ok-entry.entry before.compiled.grown one.compiled.grown refl c.loop-i-test.true l.invariant.within c.index-parts-i.is
                  before.holds one.holds;
              covers =
                  covers_sequence (code_in leaves c.args.self.now) (code_in leaves l.self) (code_in leaves c.node.new.self) c.args.parts.now l.i (l.i - 1) x
                  before.compiled.grown one.compiled.grown refl c.loop-i-test.true l.invariant.within c.index-parts-i.is before.covers one.covers;
            };
      };
      spent =
          let counts = c.args.counts in
          let parts = c.args.parts.now in
          Spends-same c.args.self.now c.node.new.self counts (λ counted. sized_parts counts counted (trees (drop l.i parts)) + sized counts counted (tree x))
          (λ counted. sized_parts counts counted (trees (drop (l.i - 1) parts)))
          (λ counted. omega (arith, parts-more counts counted parts l.i (l.i - 1) x refl c.loop-i-test.true l.invariant.within c.index-parts-i.is))
          (Spends-then c.args.self.now l.self c.node.new.self counts (λ counted. sized_parts counts counted (trees (drop l.i parts)))
          (λ counted. sized counts counted (tree x)) l.invariant.spent c.in_ok-entry.ensures.spends);
    }

pub sequence-returns-in_err-entry-clause-too_long : goal.sequence-returns-in_err-entry-clause-too_long
sequence-returns-in_err-entry-clause-too_long t c =
    let l = c.loop-i in
    let counts = c.args.counts in
    let parts = c.args.parts.now in
    let x = c.index-parts-i.result in
    too_long c.from_residual.result _ _ c.from_residual.ensures.1
    (λ is.
    exceeds-more c.args.self.now counts (λ counted. sized_parts counts counted (trees (drop l.i parts)) + sized counts counted (tree x))
    (λ counted. sized_parts counts counted (trees parts))
    (λ counted.
    omega (
      arith,
      parts-within counts counted parts (l.i - 1),
      parts-more counts counted parts l.i (l.i - 1) x refl c.loop-i-test.true l.invariant.within c.index-parts-i.is,
    ))
    (exceeds-then c.args.self.now l.self counts (λ counted. sized_parts counts counted (trees (drop l.i parts))) (λ counted. sized counts counted (tree x))
    l.invariant.spent (c.in_err-entry.ensures.too_long is)))
