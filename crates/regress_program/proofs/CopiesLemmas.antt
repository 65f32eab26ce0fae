-- Copies of the last instructions, as many as wanted.
use Rattle.std.proofs.Common.{◌≡◌, ℕ, zero, suc, ◌+◌, ◌-◌, ◌*◌, ◌≤◌, ◌<◌, List, ◌++◌, length, drop, map, refl, sym, subst, ◌∙◌, arith}
use Rattle.regress_program.specs.Copies.{shift}
use Rattle.std.proofs.lemmas.List.{length-append, length-drop, length-map}
use Rattle.regress_program.specs.Adds.{Holds}
use Rattle.regress_program.specs.Compiled.{Matching, after_iterations, Code, Grown, Compiled}
use Rattle.regress_program.specs.Contents.{Contents, after_all}
use Rattle.regress_program.specs.Program.{Op}
use Rattle.regress_program.proofs.AddMoved.{Adds-moved}
use Rattle.regress_program.proofs.CodeLemmas.{Extends-same, Grown-then, get-append-below}
use Rattle.regress_program.proofs.ElementLemmas.{get-append-past, get-drop, get-map}
use Rattle.regress_program.proofs.Moved.{moved_op, Moves}
use Rattle.regress_program.proofs.MovedLemmas.{shift-from, Compiled-moved}
use Rattle.regress_program.proofs.PieceLemmas.{holds_mandatory}
use Rattle.regress_program.proofs.RepeatLemmas.{compiled_mandatory}
use Rattle.regress_program.proofs.TidyMoved.{Tidies-moved}

-- the last `width` instructions once more, moved by `width`
abbrev pub once_more : (from width : ℕ) → List Op → List Op
once_more from width ops = ops ++ map (moved_op from width) (drop (length ops - width) ops)

-- a program with one more copy
abbrev pub code_once : (from width : ℕ) → Code → Code
code_once from width c = record c { ops = once_more from width c.ops; left = c.left - width }

abbrev pub code_times : (from width count : ℕ) → Code → Code
code_times from width zero c = c
code_times from width (suc count) c = code_times from width count (code_once from width c)

pub once-length : (from width : ℕ) (ops : List Op) → width ≤ length ops → length (once_more from width ops) ≡ length ops + width
once-length from width ops le =
    length-append ops (map (moved_op from width) (drop (length ops - width) ops))
    ∙ omega (arith, length-map (drop (length ops - width) ops) (moved_op from width), length-drop (length ops - width) ops, le)

pub moves-once : (from width : ℕ) (a b : Code) → length b.ops ≡ length a.ops + width → from ≤ length a.ops → width ≤ b.left →
    Moves a b b (code_once from width b) from width
moves-once from width a b whole after room =
    let fits : width ≤ length b.ops = omega (arith, whole) in
    record {
      before = Extends-same b.routines;
      routines = refl;
      after = after;
      start = whole;
      end = once-length from width b.ops fits;
      kept = λ i lt. get-append-below b.ops (map (moved_op from width) (drop (length b.ops - width) b.ops)) i lt;
      moved = λ i op low found.
          let all = drop (length b.ops - width) b.ops in
          let at : ℕ = i + width - length b.ops in
          get-append-past b.ops (map (moved_op from width) all) (i + width) at (omega (arith, low, whole))
          ∙ get-map (moved_op from width) all at op (get-drop (length b.ops - width) b.ops at i (omega (arith, low, whole)) ∙ found);
      left = omega (arith, room, once-length from width b.ops fits);
    }

-- The last iteration that has been compiled, of a loop over f: what precedes it is a, and the whole loop so far begins
-- after z.
pub record Loop (z a b : Code) (f g : Matching) (cf cg : Contents) (from width last next entry n : ℕ) : Type 0 where
  pub whole : length b.ops ≡ length a.ops + width
  pub some : 0 < width
  pub after : from ≤ length a.ops
  pub after_next : from ≤ next
  pub step : entry ≡ next + width
  pub one : Compiled a b f next entry
  pub holds : Holds a b cf next entry
  pub grown : Grown z b
  pub all : Compiled z b (after_iterations n f g) last entry
  pub all_holds : Holds z b (after_all cf cg) last entry

module _ (z : Code) (f g : Matching) (cf cg : Contents) (from width last : ℕ) where
  pub Loop-more : (a b : Code) (next entry n : ℕ) → width ≤ b.left → Loop z a b f g cf cg from width last next entry n →
      Loop z b (code_once from width b) f g cf cg from width last entry (entry + width) (n + 1)
  Loop-more a b next entry n room l =
      let c = code_once from width b in
      let moves : Moves a b b c from width = moves-once from width a b l.whole l.after room in
      let next_is : shift from width next ≡ entry = shift-from from width next l.after_next ∙ sym l.step in
      let entry_is : shift from width entry ≡ entry + width = shift-from from width entry (omega (arith, l.after_next, l.step)) in
      let is : Compiled b c f entry (entry + width) =
      subst (λ k. Compiled b c f k (entry + width)) next_is
      (subst (λ k. Compiled b c f (shift from width next) k) entry_is (Compiled-moved a b b c from width moves f next entry l.one)) in
      let holds : Holds b c cf entry (entry + width) =
      subst (λ k. Holds b c cf k (entry + width)) next_is
      (subst (λ k. Holds b c cf (shift from width next) k) entry_is (record {
        adds = Adds-moved a b b c from width moves cf l.one.grown.ops.grown l.holds.adds;
        tidies =
            Tidies-moved a b b c from width moves (omega (arith, l.whole, l.some)) cf next entry l.one.grown (omega (arith, l.step, l.one.begins)) l.one.begins
            l.holds.tidies;
      })) in
      record {
        whole = once-length from width b.ops (omega (arith, l.whole));
        some = l.some;
        after = omega (arith, l.whole, l.after);
        after_next = omega (arith, l.after_next, l.step);
        step = refl;
        one = is;
        holds = holds;
        grown = Grown-then z b c l.grown is.grown;
        all = compiled_mandatory z b c f g last entry (entry + width) n l.all is;
        all_holds = holds_mandatory z b c cf cg last entry (entry + width) l.grown is.grown l.all_holds holds;
      }

  pub Loop-times : (count : ℕ) (a b : Code) (next entry n : ℕ) → count * width ≤ b.left → Loop z a b f g cf cg from width last next entry n →
      (a' : Code) × (next' : ℕ) × (Loop z a' (code_times from width count b) f g cf cg from width last next' (entry + count * width) (n + count))
  Loop-times zero a b next entry n room l = (a, next, subst (λ k. Loop z a b f g cf cg from width last next k (n + 0)) (omega arith) (subst (λ k. Loop z a b f g cf cg from width last next entry k) (omega arith) l))
  Loop-times (suc count) a b next entry n room l =
      let more : (count + 1) * width ≡ count * width + width = omega arith in
      let is = Loop-times count b (code_once from width b) entry (entry + width) (n + 1) (omega (arith, room, more)) (Loop-more a b next entry n (omega (arith, room, more)) l) in
      let c = code_times from width (suc count) b in (
        is.0,
        is.1,
        subst (λ k. Loop z is.0 c f g cf cg from width last is.1 k (n + suc count)) (omega (arith, more))
            (subst (λ k. Loop z is.0 c f g cf cg from width last is.1 (entry + width + count * width) k) (omega arith) is.2),
      )
