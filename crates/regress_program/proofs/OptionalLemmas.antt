-- Optional iterations of a program that is being compiled.
use Rattle.std.proofs.Common.{◌≡◌, ℕ, ◌+◌, ◌<◌, Bool, List, length, set, ap, subst, ◌∙◌, arith}
use Rattle.std.proofs.lemmas.List.{map-set}
use Rattle.regress_leaves.specs.declared.test.Test.{Test}
use Rattle.regress_tree.specs.Tree.{Tree}
use Rattle.regress_program.specs.Adds.{Covers, Holds}
use Rattle.regress_program.specs.CodeOf.{code_in, Coded, Emits, EmitsCopies, EmitsOne}
use Rattle.regress_program.specs.Compiled.{Matching, any_number, optional, Compiled}
use Rattle.regress_program.specs.Contents.{Contents, in_iterations}
use Rattle.regress_program.specs.Iterates.{Iterates}
use Rattle.regress_program.specs.LeavesOf.{HasLeaves}
use Rattle.regress_program.specs.Listed.{Appends, all_of}
use Rattle.regress_program.specs.Program.{accept, begin_loop, end_loop, repeat}
use Rattle.regress_program.specs.Views.{op_in, ops_in, program_in}
use Rattle.regress_program.specs.declared.compiler.Compiler.{Compiler}
use Rattle.regress_program.specs.declared.instruction.Instruction.TheVariants as insts
use Rattle.regress_program.proofs.AddLemmas.{longer, longer-push}
use Rattle.regress_program.proofs.AppendLemmas.{Appends-none, Appends-then}
use Rattle.regress_program.proofs.CompileLemmas.{compiled_nothing}
use Rattle.regress_program.proofs.CoverLemmas.{covers_earlier, covers_iterations, covers_later, covers_written, pushed-below}
use Rattle.regress_program.proofs.PieceLemmas.{holds_any_number, holds_last, holds_more, holds_nothing, holds_optional}
use Rattle.regress_program.proofs.RepeatLemmas.{Written, iterates_last, iterates_more, compiled_any_number, compiled_optional}
use Rattle.regress_program.proofs.ViewLemmas.{below}

-- With these leaves, an iteration that at most n more may follow begins at `start`.
pub record OptionalWith (leaves : List Test) (old new : Compiler) (greedy : Bool) (from n : ℕ) (f : Matching) (cf : Contents) (next start more : ℕ) : Type 0 where
  pub after : new.next_leaf ≡ from + n
  pub iterates : Iterates (code_in leaves old) (code_in leaves new) greedy f next start more
  pub holds : Holds (code_in leaves old) (code_in leaves new) (in_iterations cf) next start
  pub covers : Covers (code_in leaves old) (code_in leaves new) (in_iterations cf)

abbrev pub EmitsOptional : (old new : Compiler) → (greedy : Bool) → (from : ℕ) → List Tree → Matching → Contents → (next start more : ℕ) → Type 0
EmitsOptional old new greedy from ts f cf next start more =
    Coded old new start (λ leaves. HasLeaves leaves from ts → OptionalWith leaves old new greedy from (length ts) f cf next start more)

module _ (z : Compiler) (greedy : Bool) (from : ℕ) (ts : List Tree) (f : Matching) (cf : Contents) (next : ℕ) (within : next < length (all_of z.instructions)) where
  -- the last iteration that is allowed
  pub optional-last : (p a : Compiler) (end start : ℕ) → EmitsOne z p (λ leaves. op_in leaves (insts.EndLoop next)) end →
      Appends z.instructions p.instructions → Emits p a from ts f cf end start → EmitsOptional z a greedy from ts f cf next start 0
  optional-last p a end start pushed appends is = record {
    begins = is.begins;
    appends = Appends-then z.instructions p.instructions a.instructions appends is.appends;
    means = λ leaves has.
        let x = code_in leaves z in
        let y = code_in leaves p in
        let w = code_in leaves a in
        let one = is.means leaves has in
        record {
          after = one.after;
          iterates = iterates_last x y w greedy f next end start (below leaves (all_of z.instructions) next within) (pushed.means leaves) one.compiled;
          holds = holds_last x y w cf next end start one.compiled.grown (pushed.means leaves) one.holds;
          covers = covers_earlier x y w (in_iterations cf) (longer-push x y (end_loop next) end (pushed.means leaves)) (covers_iterations y w cf one.covers);
        };
  }

  -- one more before it
  pub optional-more : (a m b : Compiler) (start again start' n : ℕ) → EmitsOptional z a greedy from ts f cf next start n →
      EmitsOne a m (λ leaves. op_in leaves (insts.Repeat greedy start next)) again → Appends a.instructions m.instructions →
      Emits m b from ts f cf again start' → EmitsOptional z b greedy from ts f cf next start' (n + 1)
  optional-more a m b start again start' n so_far pushed appends is = record {
    begins = is.begins;
    appends = Appends-then z.instructions a.instructions b.instructions so_far.appends (Appends-then a.instructions m.instructions b.instructions appends is.appends);
    means = λ leaves has.
        let x = code_in leaves z in
        let y = code_in leaves a in
        let v = code_in leaves m in
        let w = code_in leaves b in
        let one = is.means leaves has in
        let before = so_far.means leaves has in
        let op = repeat greedy start next in
        record {
          after = one.after;
          iterates =
              iterates_more x y v w greedy f next start again start' n (below leaves (all_of z.instructions) next within) before.iterates (pushed.means leaves)
              one.compiled;
          holds =
              holds_more x y v w greedy cf next start again start' before.iterates.grown one.compiled.grown before.holds (pushed.means leaves) one.holds;
          covers =
              covers_later x v w (in_iterations cf) (longer v w one.compiled.grown)
              (covers_later x y v (in_iterations cf) (longer-push y v op again (pushed.means leaves)) before.covers);
        };
  }

  -- no iterations
  pub optional-none : EmitsCopies z z from ts 0 (optional greedy 0 f) (in_iterations cf) next next
  optional-none = record {
    begins = within;
    appends = Appends-none z.instructions;
    means = λ leaves has. record {
      after = λ some. absurd (omega (arith, some));
      compiled = compiled_nothing (code_in leaves z) next (below leaves (all_of z.instructions) next within);
      holds = holds_nothing (code_in leaves z) (in_iterations cf) next;
      covers = λ some. absurd (omega (arith, some));
    };
  }

  -- the beginning of the loop
  pub optional-begun : (b c : Compiler) (start at n total : ℕ) → total ≡ n + 1 → EmitsOptional z b greedy from ts f cf next start n →
      EmitsOne b c (λ leaves. op_in leaves (insts.BeginLoop greedy start next)) at → c.next_leaf ≡ b.next_leaf → Appends b.instructions c.instructions →
      EmitsCopies z c from ts total (optional greedy total f) (in_iterations cf) next at
  optional-begun b c start at n total number so_far pushed leaf appends = record {
    begins = omega (arith, pushed.at_end, pushed.grown);
    appends = Appends-then z.instructions b.instructions c.instructions so_far.appends appends;
    means = λ leaves has.
        let x = code_in leaves z in
        let y = code_in leaves b in
        let w = code_in leaves c in
        let before = so_far.means leaves has in
        let op = begin_loop greedy start next in
        record {
          after = λ some. leaf ∙ before.after;
          compiled =
              subst (λ (k : ℕ). Compiled x w (optional greedy k f) next at) (omega (arith, number))
              (compiled_optional x y w greedy f next start at n (below leaves (all_of z.instructions) next within) before.iterates (pushed.means leaves));
          holds = holds_optional x y w greedy cf next start at before.iterates.grown before.holds (pushed.means leaves);
          covers = λ some. covers_later x y w (in_iterations cf) (longer-push y w op at (pushed.means leaves)) before.covers;
        };
  }

  -- any number of iterations: the instruction `again` is replaced when the iteration has been compiled
  pub emits-any_number : (p s e g : Compiler) (again start at : ℕ) → EmitsOne z p (λ leaves. op_in leaves insts.Accept) again →
      Emits p s from ts f cf again start → e.routines ≡ s.routines → e.left ≡ s.left → e.next_leaf ≡ s.next_leaf →
      all_of e.instructions ≡ set (all_of s.instructions) again (insts.Repeat greedy start next) →
      EmitsOne e g (λ leaves. op_in leaves (insts.BeginLoop greedy start next)) at → g.next_leaf ≡ e.next_leaf → Appends z.instructions g.instructions →
      Emits z g from ts (any_number greedy f) (in_iterations cf) next at
  emits-any_number p s e g again start at first is routines left leaf replaced begun leaf' appends = record {
    begins = omega (arith, begun.at_end, begun.grown);
    appends = appends;
    means = λ leaves has.
        let x = code_in leaves z in
        let y = code_in leaves p in
        let v = code_in leaves s in
        let w = code_in leaves e in
        let u = code_in leaves g in
        let one = is.means leaves has in
        let op = repeat greedy start next in
        let written : Written v w again op = record {
          routines = ap (λ rs. program_in leaves rs.items) routines;
          ops = ap (ops_in leaves) replaced ∙ map-set (op_in leaves) (all_of s.instructions) again (insts.Repeat greedy start next);
          left = left;
        } in
        let inside : next < length x.ops = below leaves (all_of z.instructions) next within in
        record {
          after = leaf' ∙ leaf ∙ one.after;
          compiled = compiled_any_number x y v w u greedy f next again start at inside (first.means leaves) one.compiled written (begun.means leaves);
          holds = holds_any_number x y v w u greedy cf next again start at one.compiled.grown (first.means leaves) one.holds written (begun.means leaves);
          covers =
              covers_later x w u (in_iterations cf) (longer-push w u (begin_loop greedy start next) at (begun.means leaves))
              (covers_earlier x y w (in_iterations cf) (longer-push x y accept again (first.means leaves))
              (covers_iterations y w cf (covers_written y v w cf again op (pushed-below x y accept again (first.means leaves)) written one.covers)));
        };
  }
