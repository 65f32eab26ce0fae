use Rattle.std.proofs.Common.{rules, arith, ◌≡◌, ◌<◌, ◌++◌, ◌∷◌, [], length, length-append, refl, sym, ap, ◌∙◌}
use Rattle.regress_backtrack.specs.declared.machine.Entry.TheVariants as entries
use Rattle.regress_backtrack.specs.declared.machine.Machine.{Machine}
use Rattle.regress_backtrack.proofs.MachineLemmas.{Kept-refl, Kept-trans, popped, popped-last, popped-point, points-none, rewound-none}
use Rattle.regress_backtrack.proofs.machine.Machine.backtrack.Goals as goal

pub loop-entry-init : goal.loop-entry-init
loop-entry-init c = record {
  kept = Kept-refl c.args.self.now c.args.self.now refl refl;
  shrinks = omega arith;
  within = λ room are. are;
}

pub returns-then-last-first-clause-points : goal.returns-then-last-first-clause-points
returns-then-last-first-clause-points c =
    let split : c.loop-entry.self.stack.entries.items ≡ c.pop.new.self.items ++ entries.Points c.in-Points.first c.in-Points.last ∷ [] =
    c.in-Some.ensures.items ∙ ap (λ e. c.pop.new.self.items ++ e ∷ []) c.in-Points.is in
    let m' : Machine = record {
      captures = c.loop-entry.self.captures;
      stack = record { begins = c.loop-entry.self.stack.begins; entries = c.pop.new.self };
      idle = c.loop-entry.self.idle;
    } in
    sym c.loop-entry.invariant.kept.points ∙ (popped-point c.loop-entry.self m' c.in-Points.first c.in-Points.last c.if-last-first.true split refl).0

pub returns-then-last-first-clause-rewound : goal.returns-then-last-first-clause-rewound
returns-then-last-first-clause-rewound c =
    let split : c.loop-entry.self.stack.entries.items ≡ c.pop.new.self.items ++ entries.Points c.in-Points.first c.in-Points.last ∷ [] =
    c.in-Some.ensures.items ∙ ap (λ e. c.pop.new.self.items ++ e ∷ []) c.in-Points.is in
    let m' : Machine = record {
      captures = c.loop-entry.self.captures;
      stack = record { begins = c.loop-entry.self.stack.begins; entries = c.pop.new.self };
      idle = c.loop-entry.self.idle;
    } in
    (popped-point c.loop-entry.self m' c.in-Points.first c.in-Points.last c.if-last-first.true split refl).1 ∙ c.loop-entry.invariant.kept.rewound

pub returns-in-Points-clause-points : goal.returns-in-Points-clause-points
returns-in-Points-clause-points c =
    let first = c.in-Points.first in
    let last = c.in-Points.last in
    let lt : first.position < last = omega (arith, c.if-last-first.false) in
    let split : c.loop-entry.self.stack.entries.items ≡ c.pop.new.self.items ++ entries.Points first last ∷ [] =
    c.in-Some.ensures.items ∙ ap (λ e. c.pop.new.self.items ++ e ∷ []) c.in-Points.is in
    let m' : Machine = record {
      captures = c.loop-entry.self.captures;
      stack = record { begins = c.loop-entry.self.stack.begins; entries = c.push_reserved.new.self };
      idle = c.loop-entry.self.idle;
    } in
    sym c.loop-entry.invariant.kept.points ∙ (popped-last c.loop-entry.self m' c.pop.new.self.items first last lt split c.push_reserved.ensures.items refl).0

pub returns-in-Points-clause-rewound : goal.returns-in-Points-clause-rewound
returns-in-Points-clause-rewound c =
    let first = c.in-Points.first in
    let last = c.in-Points.last in
    let lt : first.position < last = omega (arith, c.if-last-first.false) in
    let split : c.loop-entry.self.stack.entries.items ≡ c.pop.new.self.items ++ entries.Points first last ∷ [] =
    c.in-Some.ensures.items ∙ ap (λ e. c.pop.new.self.items ++ e ∷ []) c.in-Points.is in
    let m' : Machine = record {
      captures = c.loop-entry.self.captures;
      stack = record { begins = c.loop-entry.self.stack.begins; entries = c.push_reserved.new.self };
      idle = c.loop-entry.self.idle;
    } in
    (popped-last c.loop-entry.self m' c.pop.new.self.items first last lt split c.push_reserved.ensures.items refl).1 ∙ c.loop-entry.invariant.kept.rewound

pub loop-entry-smaller : goal.loop-entry-smaller
loop-entry-smaller c =
    let split : c.loop-entry.self.stack.entries.items ≡ c.pop.new.self.items ++ c.in-Some.entry ∷ [] = c.in-Some.ensures.items in
    omega (arith, ap length split, length-append c.pop.new.self.items (c.in-Some.entry ∷ []), ap length c.undo.ensures.entries)

pub loop-entry-preserved : goal.loop-entry-preserved
loop-entry-preserved c =
    let split : c.loop-entry.self.stack.entries.items ≡ c.undo.new.self.stack.entries.items ++ c.in-Some.entry ∷ [] =
    c.in-Some.ensures.items ∙ ap (λ es. es ++ c.in-Some.entry ∷ []) (sym c.undo.ensures.entries) in
    let so_far = c.loop-entry.invariant in
    record {
      kept = Kept-trans c.args.self.now c.loop-entry.self c.undo.new.self so_far.kept
          (popped c.loop-entry.self c.undo.new.self c.in-Some.entry split c.in_ok-undo-in_default-entry.ensures.groups c.in_default-entry.not-Points);
      shrinks = omega (arith, so_far.shrinks, ap length split, length-append c.undo.new.self.stack.entries.items (c.in-Some.entry ∷ []));
      within = λ room are. let before = so_far.within room are in
          c.undo.ensures.within room (record { stack = omega (arith, before.stack, c.pop.ensures.capacity); idle = before.idle });
    }

pub returns-clause-points : goal.returns-clause-points
returns-clause-points c = sym c.loop-entry.invariant.kept.points ∙ points-none c.loop-entry.self (search rules)

pub returns-clause-rewound : goal.returns-clause-rewound
returns-clause-rewound c =
    let none : c.loop-entry.self.stack.entries.items ≡ [] = search rules in
    let remaining : c.pop.new.self.items ≡ [] = search rules in
    rewound-none _ remaining ∙ sym (rewound-none c.loop-entry.self none) ∙ c.loop-entry.invariant.kept.rewound

pub returns-clause-all : goal.returns-clause-all
returns-clause-all c = sym (rewound-none c.loop-entry.self (search rules)) ∙ c.loop-entry.invariant.kept.rewound

pub returns-then-last-first-clause-within : goal.returns-then-last-first-clause-within
returns-then-last-first-clause-within c = λ room are.
    let before = c.loop-entry.invariant.within room are in
    record { stack = omega (arith, before.stack, c.pop.ensures.capacity); idle = before.idle }

pub returns-in-Points-clause-within : goal.returns-in-Points-clause-within
returns-in-Points-clause-within c = λ room are.
    let before = c.loop-entry.invariant.within room are in
    record { stack = omega (arith, before.stack, c.pop.ensures.capacity, c.push_reserved.ensures.capacity); idle = before.idle }

pub returns-in_err-undo-in_default-entry-clause-within : goal.returns-in_err-undo-in_default-entry-clause-within
returns-in_err-undo-in_default-entry-clause-within c = λ room are.
    let before = c.loop-entry.invariant.within room are in
    c.undo.ensures.within room (record { stack = omega (arith, before.stack, c.pop.ensures.capacity); idle = before.idle })

pub returns-in_err-undo-in_default-entry-clause-shrinks : goal.returns-in_err-undo-in_default-entry-clause-shrinks
returns-in_err-undo-in_default-entry-clause-shrinks c =
    let split : c.loop-entry.self.stack.entries.items ≡ c.pop.new.self.items ++ c.in-Some.entry ∷ [] = c.in-Some.ensures.items in
    omega (arith, c.loop-entry.invariant.shrinks, ap length split, length-append c.pop.new.self.items (c.in-Some.entry ∷ []), ap length c.undo.ensures.entries)

pub returns-clause-within : goal.returns-clause-within
returns-clause-within c = λ room are.
    let before = c.loop-entry.invariant.within room are in
    record { stack = omega (arith, before.stack, c.pop.ensures.capacity); idle = before.idle }
