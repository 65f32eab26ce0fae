-- What instructions cost, one part after the other.
use Rattle.std.proofs.Common.{◌≡◌, ◌≤◌, inl, inr, ℕ, ◌+◌, List, [], ◌∷◌, ◌++◌, length, refl, ap, ◌∙◌, arith}
use Rattle.regress_program.specs.CodeOf.{Exceeds, Spends}
use Rattle.regress_program.specs.Listed.{all_of, stored_total}
use Rattle.regress_program.specs.Size.{every, stored_of}
use Rattle.regress_program.specs.declared.compiler.Compiler.{Compiler}
use Rattle.regress_program.specs.declared.copies.Instructions.{Instructions}
use Rattle.regress_program.specs.declared.counts.Counts.{Counts}
use Rattle.regress_program.specs.declared.instruction.Routine as declared

-- a size that depends on how many of n iterations count
abbrev pub Amount : Type 0
Amount = (counted : ℕ → ℕ) → ℕ

-- nothing has been added
pub Spends-none : (c : Compiler) (counts : Counts) → Spends c c counts (λ counted. 0)
Spends-none c counts = record {
  stored = omega arith;
  all = omega arith;
  exact = λ is. omega arith;
  room = omega arith;
  kept = refl;
}

-- one part and then another
pub Spends-then : (a b c : Compiler) (counts : Counts) (m n : Amount) → Spends a b counts m → Spends b c counts n →
    Spends a c counts (λ counted. m counted + n counted)
Spends-then a b c counts m n first second = record {
  stored = omega (arith, first.stored, second.stored);
  all = omega (arith, first.all, second.all);
  exact = λ is. omega (arith, first.exact is, second.exact is);
  room = omega (arith, first.room, second.room);
  kept = omega (arith, first.kept, second.kept);
}

-- another size that is the same for both numbers of iterations
pub Spends-at : (a b : Compiler) (counts : Counts) (m n : Amount) → m (stored_of counts) ≡ n (stored_of counts) → m every ≡ n every →
    Spends a b counts m → Spends a b counts n
Spends-at a b counts m n stored all is = record {
  stored = omega (arith, stored, is.stored);
  all = omega (arith, all, is.all);
  exact = λ copied. omega (arith, all, is.exact copied);
  room = is.room;
  kept = is.kept;
}

-- another size that is always the same
pub Spends-same : (a b : Compiler) (counts : Counts) (m n : Amount) → ((counted : ℕ → ℕ) → m counted ≡ n counted) →
    Spends a b counts m → Spends a b counts n
Spends-same a b counts m n same is = Spends-at a b counts m n (same (stored_of counts)) (same every) is

-- what exceeds the rest after a part exceeds the whole
pub exceeds-then : (a b : Compiler) (counts : Counts) (m n : Amount) → Spends a b counts m → Exceeds b counts n →
    Exceeds a counts (λ counted. m counted + n counted)
exceeds-then a b counts m n spent (inl more) = inl (omega (arith, spent.stored, more))
exceeds-then a b counts m n spent (inr more) = inr (omega (arith, spent.all, more))

-- a part that exceeds makes the whole exceed
pub exceeds-at : (c : Compiler) (counts : Counts) (m n : Amount) → m (stored_of counts) ≤ n (stored_of counts) → m every ≤ n every →
    Exceeds c counts m → Exceeds c counts n
exceeds-at c counts m n stored all (inl more) = inl (omega (arith, stored, more))
exceeds-at c counts m n stored all (inr more) = inr (omega (arith, all, more))

pub exceeds-more : (c : Compiler) (counts : Counts) (m n : Amount) → ((counted : ℕ → ℕ) → m counted ≤ n counted) →
    Exceeds c counts m → Exceeds c counts n
exceeds-more c counts m n le is = exceeds-at c counts m n (le (stored_of counts)) (le every) is

-- ---- routines

pub stored_total-push : (rs : List declared.Routine) (r : declared.Routine) →
    stored_total (rs ++ r ∷ []) ≡ stored_total rs + length r.instructions.stored.items
stored_total-push [] r = omega arith
stored_total-push (q ∷ rs) r = omega (arith, stored_total-push rs r)

-- A routine of its own: `emptied` has no instructions, `body` has those of the routine, and `new` has it among the finished ones.
pub Spends-routine : (old emptied body new : Compiler) (r : declared.Routine) (counts : Counts) (m n : Amount) → Spends emptied body counts m →
    ((counted : ℕ → ℕ) → m counted ≡ n counted) → emptied.left ≡ old.left → emptied.stored_left ≡ old.stored_left → all_of emptied.instructions ≡ [] →
    emptied.instructions.stored.items ≡ [] → emptied.routines.items ≡ old.routines.items → new.left ≡ body.left → new.stored_left ≡ body.stored_left →
    new.instructions ≡ old.instructions → new.routines.items ≡ body.routines.items ++ r ∷ [] → r.instructions ≡ body.instructions → Spends old new counts n
Spends-routine old emptied body new r counts m n is same left stored_left none no_stored routines left' stored_left' instructions pushed stored =
    let all : m every ≡ n every = same every in
    let some : m (stored_of counts) ≡ n (stored_of counts) = same (stored_of counts) in
    let long : length (all_of emptied.instructions) ≡ 0 = ap length none in
    let short : length emptied.instructions.stored.items ≡ 0 = ap length no_stored in
    let before : stored_total emptied.routines.items ≡ stored_total old.routines.items = ap stored_total routines in
    let after : stored_total new.routines.items ≡ stored_total body.routines.items + length r.instructions.stored.items =
    ap stored_total pushed ∙ stored_total-push body.routines.items r in
    let last : length r.instructions.stored.items ≡ length body.instructions.stored.items = ap (λ (x : Instructions). length x.stored.items) stored in
    let here : length new.instructions.stored.items ≡ length old.instructions.stored.items = ap (λ (x : Instructions). length x.stored.items) instructions in
    let there : length (all_of new.instructions) ≡ length (all_of old.instructions) = ap (λ (x : Instructions). length (all_of x)) instructions in
    record {
      stored = omega (arith, is.stored, some, stored_left, stored_left');
      all = omega (arith, is.all, all, left, left');
      exact = λ copied. omega (arith, is.exact copied, all, left, left');
      room = omega (arith, is.room, left, left', there, long);
      kept = omega (arith, is.kept, stored_left, stored_left', here, short, before, after, last);
    }
