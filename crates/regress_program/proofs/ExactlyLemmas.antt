-- Exactly a number of iterations, and loops of these after optional ones.
use Rattle.std.proofs.Common.{◌≡◌, ℕ, suc, ◌+◌, ◌<◌, inl, inr, ◌||◌, List, length, ap, subst, ◌∙◌, arith}
use Rattle.regress_tree.specs.Tree.{Tree}
use Rattle.regress_program.specs.Adds.{Holds}
use Rattle.regress_program.specs.CodeOf.{code_in, Emits, EmitsCopies}
use Rattle.regress_program.specs.Compiled.{Matching, after_iterations, exactly, Code, Grown, Compiled}
use Rattle.regress_program.specs.Contents.{Contents, in_iterations, in_sequence, union}
use Rattle.regress_program.specs.Listed.{all_of}
use Rattle.regress_program.specs.declared.compiler.Compiler.{Compiler}
use Rattle.regress_program.proofs.AddLemmas.{longer}
use Rattle.regress_program.proofs.AppendLemmas.{Appends-none, Appends-then}
use Rattle.regress_program.proofs.CompileLemmas.{compiled_nothing, compiled_then}
use Rattle.regress_program.proofs.CoverLemmas.{covers_earlier, covers_iterations, covers_later}
use Rattle.regress_program.proofs.PieceLemmas.{holds_less, holds_mandatory, holds_no_mandatory, holds_nothing, holds_repeated, holds_then}
use Rattle.regress_program.proofs.ViewLemmas.{below}
use Rattle.regress_program.proofs.lemmas.Tidy.{among-same, among-then, among-twice, among-union}
use Rattle.std.proofs.lemmas.Bool.{cases_lt}

-- ---- one more iteration

-- one more iteration before exactly n
pub compiled_more : (a b c : Code) (f : Matching) (next entry entry' n : ℕ) → Compiled a b (exactly n f) next entry → Compiled b c f entry entry' →
    Compiled a c (exactly (n + 1) f) next entry'
compiled_more a b c f next entry entry' n rest first =
    let next_number : suc n ≡ n + 1 = omega arith in
    subst (λ (k : ℕ). Compiled a c (exactly k f) next entry') next_number (compiled_then a b c f (exactly n f) next entry entry' rest first)

-- what such iterations hold, one more before them
pub holds_one_more : (a b c : Code) (f : Contents) (next entry entry' : ℕ) → Grown a b → Grown b c → Holds a b (in_iterations f) next entry →
    Holds b c f entry entry' → Holds a c (in_iterations f) next entry'
holds_one_more a b c f next entry entry' grown more rest first =
    holds_repeated a c f next entry'
    (holds_mandatory a b c f (in_iterations f) next entry entry' grown more (holds_no_mandatory a b f (in_iterations f) next entry rest) first)

-- some iterations before others
pub holds_both : (a b c : Code) (f : Contents) (next middle entry : ℕ) → Grown a b → Grown b c → Holds a b (in_iterations f) next middle →
    Holds b c (in_iterations f) middle entry → Holds a c (in_iterations f) next entry
holds_both a b c f next middle entry grown more rest first =
    holds_less a c (in_sequence (in_iterations f) (in_iterations f)) (in_iterations f) next entry
    (record {
      refers = λ none. ap (λ b. b || f.refers) none ∙ none;
      captures = λ none. ap (λ b. b || f.captures) none ∙ none;
      looks = λ none. ap (λ b. b || f.looks) none ∙ none;
      changes = among-union f.changes f.changes f.changes (among-same f.changes) (among-same f.changes);
      tidy = λ set tidy. (
        tidy,
        λ before among. tidy before (among-then before (union (union set f.changes) f.changes) (union set f.changes) among (among-twice set f.changes)),
      );
    })
    (holds_then a b c (in_iterations f) (in_iterations f) next middle entry grown more rest first)

-- ---- of a program that is being compiled

module _ (z : Compiler) (from : ℕ) (ts : List Tree) (f : Matching) (cf : Contents) (next : ℕ) where
  -- no iterations
  pub emits-none : next < length (all_of z.instructions) → EmitsCopies z z from ts 0 (exactly 0 f) (in_iterations cf) next next
  emits-none within = record {
    begins = within;
    appends = Appends-none z.instructions;
    means = λ leaves has. record {
      after = λ some. absurd (omega (arith, some));
      compiled = compiled_nothing (code_in leaves z) next (below leaves (all_of z.instructions) next within);
      holds = holds_nothing (code_in leaves z) (in_iterations cf) next;
      covers = λ some. absurd (omega (arith, some));
    };
  }

  -- one more before n iterations
  pub emits-more : (b c : Compiler) (entry entry' n : ℕ) → EmitsCopies z b from ts n (exactly n f) (in_iterations cf) next entry →
      Emits b c from ts f cf entry entry' → EmitsCopies z c from ts (n + 1) (exactly (n + 1) f) (in_iterations cf) next entry'
  emits-more b c entry entry' n rest first = record {
    begins = first.begins;
    appends = Appends-then z.instructions b.instructions c.instructions rest.appends first.appends;
    means = λ leaves has.
        let x = code_in leaves z in
        let y = code_in leaves b in
        let w = code_in leaves c in
        let some = rest.means leaves has in
        let one = first.means leaves has in
        record {
          after = λ more. one.after;
          compiled = compiled_more x y w f next entry entry' n some.compiled one.compiled;
          holds = holds_one_more x y w cf next entry entry' some.compiled.grown one.compiled.grown some.holds one.holds;
          covers = λ more. covers_earlier x y w (in_iterations cf) (longer x y some.compiled.grown) (covers_iterations y w cf one.covers);
        };
  }

  -- n iterations before m optional ones, which match g
  pub emits-loop : (b c : Compiler) (g : Matching) (middle entry m n : ℕ) → EmitsCopies z b from ts m g (in_iterations cf) next middle →
      EmitsCopies b c from ts n (exactly n f) (in_iterations cf) middle entry → (n ≡ 0 → c.next_leaf ≡ b.next_leaf) →
      EmitsCopies z c from ts (n + m) (after_iterations n f g) (in_iterations cf) next entry
  emits-loop b c g middle entry m n rest first leaf = record {
    begins = first.begins;
    appends = Appends-then z.instructions b.instructions c.instructions rest.appends first.appends;
    means = λ leaves has.
        let x = code_in leaves z in
        let y = code_in leaves b in
        let w = code_in leaves c in
        let some = rest.means leaves has in
        let more = first.means leaves has in
        record {
          after = λ any. elim (cases_lt 0 n) [
            | inl lt ↦ more.after lt
            | inr none ↦ leaf (omega (arith, none)) ∙ some.after (omega (arith, any, none))
          ];
          compiled = compiled_then x y w (exactly n f) g next middle entry some.compiled more.compiled;
          holds = holds_both x y w cf next middle entry some.compiled.grown more.compiled.grown some.holds more.holds;
          covers = λ any. elim (cases_lt 0 n) [
            | inl lt ↦ covers_earlier x y w (in_iterations cf) (longer x y some.compiled.grown) (more.covers lt)
            | inr none ↦ covers_later x y w (in_iterations cf) (longer y w more.compiled.grown) (some.covers (omega (arith, any, none)))
          ];
        };
  }
