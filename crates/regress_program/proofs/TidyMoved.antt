-- Moved instructions are tidy where those that they are copies of are.
use Rattle.std.proofs.Common.{◌≡◌, ℕ, zero, suc, ◌+◌, ◌-◌, ◌≤◌, ◌<◌, inl, inr, true, false, ◌&&◌, nat_le, nat_lt, if◌then◌else◌, List, [], ◌∷◌, ◌++◌, length, take, drop, map, get_or, slice_get, Option, Some, None, refl, sym, ap, ap₂, subst, ◌∙◌, arith}
use Rattle.regress_program.specs.Copies.{shift}
use Rattle.std.proofs.lemmas.Bool.{cases_lt}
use Rattle.std.proofs.lemmas.List.{length-append, length-take, length-drop, length-map}
use Rattle.std.proofs.lemmas.Option.{slice_get_within, slice_get-get_or, same_Some}
use Rattle.regress_program.specs.declared.ranges.GroupRange.{GroupRange}
use Rattle.regress_program.specs.Adds.{Agree, Tidies}
use Rattle.regress_program.specs.Compiled.{Extends, Code, Grown}
use Rattle.regress_program.specs.Contents.{Ids, union, Contents}
use Rattle.regress_program.specs.Program.{Op, accept, fail, part, split, begin_loop, repeat, end_loop, unsets, begin_group, end_group, look, Routine}
use Rattle.regress_program.specs.Ranges.{ranges_of}
use Rattle.regress_program.specs.Shape.{Fits}
use Rattle.regress_program.specs.Tidy.{BeginsUnset, IsTidyFrom, followers, set_after}
use Rattle.regress_program.proofs.CodeLemmas.{Extends-then, get-append-below}
use Rattle.regress_program.proofs.ElementLemmas.{get-append-past, get-take, get-drop, get-map}
use Rattle.regress_program.proofs.Moved.{renamed, moved_op, Moves}
use Rattle.regress_program.proofs.MovedLemmas.{shift-below, shift-from, later_routines}

-- ---- lists of instructions, one of which has other indices

module _ (ranges : List GroupRange) (f : ℕ → ℕ) where
  begins-renamed : (op : Op) (set : Ids) → BeginsUnset ranges op set ≡ BeginsUnset ranges (renamed f op) set
  begins-renamed accept set = refl
  begins-renamed fail set = refl
  begins-renamed (part t next) set = refl
  begins-renamed (split first second) set = refl
  begins-renamed (begin_loop greedy body next) set = refl
  begins-renamed (repeat greedy body next) set = refl
  begins-renamed (end_loop next) set = refl
  begins-renamed (unsets start end next) set = refl
  begins-renamed (begin_group next) set = refl
  begins-renamed (end_group id next) set = refl
  begins-renamed (look true routine next) set = refl
  begins-renamed (look false routine next) set = refl

  after-renamed : (op : Op) (set : Ids) → set_after ranges (renamed f op) set ≡ set_after ranges op set
  after-renamed accept set = refl
  after-renamed fail set = refl
  after-renamed (part t next) set = refl
  after-renamed (split first second) set = refl
  after-renamed (begin_loop greedy body next) set = refl
  after-renamed (repeat greedy body next) set = refl
  after-renamed (end_loop next) set = refl
  after-renamed (unsets start end next) set = refl
  after-renamed (begin_group next) set = refl
  after-renamed (end_group id next) set = refl
  after-renamed (look true routine next) set = refl
  after-renamed (look false routine next) set = refl

followers-renamed : (f : ℕ → ℕ) (op : Op) → followers (renamed f op) ≡ map f (followers op)
followers-renamed f accept = refl
followers-renamed f fail = refl
followers-renamed f (part t next) = refl
followers-renamed f (split first second) = refl
followers-renamed f (begin_loop greedy body next) = refl
followers-renamed f (repeat greedy body next) = refl
followers-renamed f (end_loop next) = refl
followers-renamed f (unsets start end next) = refl
followers-renamed f (begin_group next) = refl
followers-renamed f (end_group id next) = refl
followers-renamed f (look negate routine next) = refl

-- the other instruction, and its counterpart
abbrev pub renamed_option : (ℕ → ℕ) → Option Op → Option Op
renamed_option f None = None
renamed_option f (Some op) = Some (renamed f op)

-- Each instruction of `others` has a counterpart in `ops`.
pub record StandsFor (back : ℕ → ℕ) (others ops : List Op) : Type 0 where
  pub same : (pc : ℕ) → slice_get ops (back pc) ≡ renamed_option back (slice_get others pc)

module _ (ranges : List GroupRange) (back : ℕ → ℕ) (others ops : List Op) (stands : StandsFor back others ops) where
  -- the counterpart of a follower
  follower : (xs : List ℕ) (i next : ℕ) → slice_get (map back xs) i ≡ Some next → (to : ℕ) × (slice_get xs i ≡ Some to) × (back to ≡ next)
  follower [] i next e = cc
  follower (x ∷ xs) zero next e = (x, refl, same_Some (back x) next e)
  follower (x ∷ xs) (suc i) next e = follower xs i next e

  -- what an instruction asks of those after it, for one step more
  step-stands : (n : ℕ) → ((pc : ℕ) (set : Ids) → IsTidyFrom ranges others n pc set → IsTidyFrom ranges ops n (back pc) set) →
      (pc : ℕ) (set : Ids) → IsTidyFrom ranges others (suc n) pc set → (o : Option Op) → slice_get others pc ≡ o → (op : Op) → slice_get ops (back pc) ≡ Some op →
      BeginsUnset ranges op set × ((i next : ℕ) → slice_get (followers op) i ≡ Some next → IsTidyFrom ranges ops n next (set_after ranges op set))
  step-stands n rest pc set is None e op here = let none = stands.same pc ∙ ap (renamed_option back) e in cc
  step-stands n rest pc set is (Some base) e op here =
      let same : renamed back base ≡ op = same_Some (renamed back base) op (sym (stands.same pc ∙ ap (renamed_option back) e) ∙ here) in
      subst (λ o. BeginsUnset ranges o set × ((i next : ℕ) → slice_get (followers o) i ≡ Some next → IsTidyFrom ranges ops n next (set_after ranges o set))) same (
        subst (λ T. T) (begins-renamed ranges back base set) (is base e).0,
        λ i next follows.
            let to = follower (followers base) i next (sym (ap (λ os. slice_get os i) (followers-renamed back base)) ∙ follows) in
            subst (λ k. IsTidyFrom ranges ops n k (set_after ranges (renamed back base) set)) to.2
            (subst (λ s. IsTidyFrom ranges ops n (back to.0) s) (sym (after-renamed ranges back base set))
            (rest to.0 (set_after ranges base set) ((is base e).1 i to.0 to.1))),
      )

  pub tidy-stands : (n pc : ℕ) (set : Ids) → IsTidyFrom ranges others n pc set → IsTidyFrom ranges ops n (back pc) set
  tidy-stands zero pc set is = tt
  tidy-stands (suc n) pc set is = λ op here. step-stands n (λ k s h. tidy-stands n k s h) pc set is (slice_get others pc) refl op here

  pub tidy-stood : (n pc : ℕ) (set : Ids) → IsTidyFrom ranges ops n (back pc) set → IsTidyFrom ranges others n pc set
  tidy-stood zero pc set is = tt
  tidy-stood (suc n) pc set is = λ op here.
      let there : slice_get ops (back pc) ≡ Some (renamed back op) = stands.same pc ∙ ap (renamed_option back) here in (
        subst (λ T. T) (sym (begins-renamed ranges back op set)) (is (renamed back op) there).0,
        λ i next follows.
            tidy-stood n next (set_after ranges op set)
            (subst (λ s. IsTidyFrom ranges ops n (back next) s) (after-renamed ranges back op set)
            ((is (renamed back op) there).1 i (back next)
            (ap (λ os. slice_get os i) (followers-renamed back op) ∙ get-map back (followers op) i next follows))),
      )

-- ---- the same instructions without those from index `from` on, n of them, and after them all of them once more

renamed-twice : (f g : ℕ → ℕ) (op : Op) → renamed f (renamed g op) ≡ renamed (λ k. f (g k)) op
renamed-twice f g accept = refl
renamed-twice f g fail = refl
renamed-twice f g (part t next) = refl
renamed-twice f g (split first second) = refl
renamed-twice f g (begin_loop greedy body next) = refl
renamed-twice f g (repeat greedy body next) = refl
renamed-twice f g (end_loop next) = refl
renamed-twice f g (unsets start end next) = refl
renamed-twice f g (begin_group next) = refl
renamed-twice f g (end_group id next) = refl
renamed-twice f g (look negate routine next) = refl

-- Where f changes none of the indices that an instruction names, it changes nothing.
renamed-same : (f : ℕ → ℕ) (routines : List Routine) (high i : ℕ) → i ≤ high → ((k : ℕ) → k < high → f k ≡ k) → (op : Op) → Fits routines high i op →
    renamed f op ≡ op
renamed-same f routines high i le same accept fits = refl
renamed-same f routines high i le same fail fits = refl
renamed-same f routines high i le same (part t next) fits = ap (part t) (same next (omega (arith, fits.1, le)))
renamed-same f routines high i le same (split first second) fits =
    ap₂ split (same first (omega (arith, fits.0, le))) (same second (omega (arith, fits.1, le)))
renamed-same f routines high i le same (begin_loop greedy body next) fits =
    ap₂ (begin_loop greedy) (same body (omega (arith, fits.0, le))) (same next (omega (arith, fits.1, le)))
renamed-same f routines high i le same (repeat greedy body next) fits =
    ap₂ (repeat greedy) (same body (omega (arith, fits.0, le))) (same next (omega (arith, fits.1, le)))
renamed-same f routines high i le same (end_loop next) fits = ap end_loop (same next (omega (arith, fits, le)))
renamed-same f routines high i le same (unsets start end next) fits = ap (unsets start end) (same next (omega (arith, fits, le)))
renamed-same f routines high i le same (begin_group next) fits = ap begin_group (same next (omega (arith, fits, le)))
renamed-same f routines high i le same (end_group id next) fits = ap (end_group id) (same next (omega (arith, fits, le)))
renamed-same f routines high i le same (look negate routine next) fits = ap (look negate routine) (same next (omega (arith, fits.1, le)))

renamed-all : (f : ℕ → ℕ) → ((k : ℕ) → f k ≡ k) → (op : Op) → renamed f op ≡ op
renamed-all f same accept = refl
renamed-all f same fail = refl
renamed-all f same (part t next) = ap (part t) (same next)
renamed-all f same (split first second) = ap₂ split (same first) (same second)
renamed-all f same (begin_loop greedy body next) = ap₂ (begin_loop greedy) (same body) (same next)
renamed-all f same (repeat greedy body next) = ap₂ (repeat greedy) (same body) (same next)
renamed-all f same (end_loop next) = ap end_loop (same next)
renamed-all f same (unsets start end next) = ap (unsets start end) (same next)
renamed-all f same (begin_group next) = ap begin_group (same next)
renamed-all f same (end_group id next) = ap (end_group id) (same next)
renamed-all f same (look negate routine next) = ap (look negate routine) (same next)

renamed_option-all : (f g : ℕ → ℕ) → ((k : ℕ) → f (g k) ≡ k) → (xs : List Op) (pc : ℕ) → slice_get xs pc ≡ renamed_option f (slice_get (map (renamed g) xs) pc)
renamed_option-all f g same [] pc = refl
renamed_option-all f g same (x ∷ xs) zero = ap Some (sym (renamed-twice f g x ∙ renamed-all (λ k. f (g k)) same x))
renamed_option-all f g same (x ∷ xs) (suc pc) = renamed_option-all f g same xs pc

module _ (from n : ℕ) (ops : List Op) (within : from + n ≤ length ops) where
  abbrev pub front : List Op
  front = take from ops ++ drop (from + n) ops

  abbrev pub size : ℕ
  size = length ops - n

  -- the index in all of them
  abbrev pub back : ℕ → ℕ
  back pc = if nat_lt pc size then shift from n pc else pc - size

  -- the index of its counterpart
  abbrev pub away : ℕ → ℕ
  away pc = if nat_lt pc from then pc else if nat_le (from + n) pc && nat_lt pc (length ops) then pc - n else size + pc

  abbrev pub without : List Op
  without = map (renamed away) front ++ map (renamed (λ k. size + k)) ops

  front-length : length front ≡ size
  front-length = omega (arith, length-append (take from ops) (drop (from + n) ops), length-take from ops, length-drop (from + n) ops, within)

  back-low : (pc : ℕ) → pc < size → back pc ≡ shift from n pc
  back-low pc lt = grind (arith, lt)

  back-high : (pc : ℕ) → back (size + pc) ≡ pc
  back-high pc = grind arith

  back-away : (pc : ℕ) → back (away pc) ≡ pc
  back-away pc = grind (arith, within)

  front-get : (pc : ℕ) → slice_get front pc ≡ slice_get ops (shift from n pc)
  front-get pc =
      let len : length (take from ops) ≡ from = omega (arith, length-take from ops, within) in
      elim (cases_lt pc from) [
        | inl below ↦
            get-append-below (take from ops) (drop (from + n) ops) pc (omega (arith, len, below)) ∙ get-take from ops pc below
            ∙ ap (slice_get ops) (sym (shift-below from n pc below))
        | inr past ↦
            get-append-past (take from ops) (drop (from + n) ops) pc (pc - from) (omega (arith, len, past))
            ∙ get-drop (from + n) ops (pc - from) (pc + n) (omega (arith, past))
            ∙ ap (slice_get ops) (sym (shift-from from n pc past))
      ]

  low-length : length (map (renamed away) front) ≡ size
  low-length = length-map front (renamed away) ∙ front-length

  pub stands : StandsFor back without ops
  stands = record {
    same = λ pc. elim (cases_lt pc size) [
      | inl below ↦
          ap (slice_get ops) (back-low pc below) ∙ sym (front-get pc) ∙ renamed_option-all back away back-away front pc
          ∙ ap (renamed_option back) (sym (get-append-below (map (renamed away) front) (map (renamed (λ k. size + k)) ops) pc (omega (arith, below, low-length))))
      | inr past ↦
          (let there : pc ≡ size + (pc - size) = omega (arith, past) in
          ap (slice_get ops) (ap back there ∙ back-high (pc - size)) ∙ renamed_option-all back (λ k. size + k) back-high ops (pc - size)
          ∙ ap (renamed_option back)
          (sym (get-append-past (map (renamed away) front) (map (renamed (λ k. size + k)) ops) pc (pc - size) (omega (arith, there, low-length)))))
    ];
  }

  pub without-get : (i : ℕ) (op : Op) → i < size → slice_get ops (shift from n i) ≡ Some op → slice_get without i ≡ Some (renamed away op)
  without-get i op lt here =
      get-append-below (map (renamed away) front) (map (renamed (λ k. size + k)) ops) i (omega (arith, lt, low-length))
      ∙ get-map (renamed away) front i op (front-get i ∙ here)

  away-shift : (k : ℕ) → k < size → away (shift from n k) ≡ k
  away-shift k lt = grind (arith, lt, within)

  pub away-moved : (routines : List Routine) (high i : ℕ) → i ≤ high → high ≤ size → (op : Op) → Fits routines high i op → renamed away (moved_op from n op) ≡ op
  away-moved routines high i le le' op fits =
      renamed-twice away (shift from n) op
      ∙ renamed-same (λ k. away (shift from n k)) routines high i le (λ k lt. away-shift k (omega (arith, lt, le'))) op fits

-- ---- what has been compiled, moved

module _ (a b c e : Code) (from n : ℕ) (moves : Moves a b c e from n) (some : length a.ops < length b.ops) where
  module _ (ops : List Op) (agree : Agree (length c.ops) (length e.ops) e.ops ops) where
    long : length b.ops + n ≤ length ops
    long =
        let last : ℕ = length b.ops + n - 1 in
        let there : slice_get e.ops last ≡ Some (get_or e.ops last accept) = slice_get-get_or e.ops last accept (omega (arith, moves.end, some)) in
        let here : slice_get ops last ≡ slice_get e.ops last = agree last (omega (arith, some, moves.start)) (omega (arith, moves.end, some)) in
        omega (arith, slice_get_within ops last (get_or e.ops last accept) (here ∙ there), some)

    pub fits-in : from + n ≤ length ops
    fits-in = omega (arith, long, some, moves.after)

    agree-without : Grown a b → Agree (length a.ops) (length b.ops) b.ops (without from n ops fits-in)
    agree-without grown i low high = by (slice_get b.ops i) refl
      where
        by : (o : Option Op) → slice_get b.ops i ≡ o → slice_get (without from n ops fits-in) i ≡ slice_get b.ops i
        by None e' = let there = slice_get-get_or b.ops i accept high in cc
        by (Some op) e' =
            without-get from n ops fits-in i (moved_op from n op) (omega (arith, high, long))
            (ap (slice_get ops) (shift-from from n i (omega (arith, moves.after, low)))
            ∙ agree (i + n) (omega (arith, moves.start, low)) (omega (arith, moves.end, high))
            ∙ moves.moved i op low e')
            ∙ ap Some (away-moved from n ops fits-in b.routines (length b.ops) i (omega (arith, high)) (omega (arith, long)) op (grown.fit i op low high e'))
            ∙ sym e'

  pub Tidies-moved : (f : Contents) (next entry : ℕ) → Grown a b → next < length b.ops → entry < length b.ops → Tidies a b f next entry →
      Tidies c e f (shift from n next) (shift from n entry)
  Tidies-moved f next entry grown below begins is = record {
    tidies = λ program ext ops agree set tidy m after.
        let ranges = ranges_of program in
        let fits = fits-in ops agree in
        let low : length b.ops ≤ size from n ops fits = omega (arith, long ops agree) in
        let ext' : Extends b.routines program = Extends-then b.routines e.routines program (later_routines a b c e from n moves) ext in
        let before : IsTidyFrom ranges (without from n ops fits) m next (union set f.changes) =
        tidy-stood ranges (back from n ops fits) (without from n ops fits) ops (stands from n ops fits) m next (union set f.changes)
        (subst (λ k. IsTidyFrom ranges ops m k (union set f.changes)) (sym (back-low from n ops fits next (omega (arith, below, low)))) after) in
        subst (λ k. IsTidyFrom ranges ops m k set) (back-low from n ops fits entry (omega (arith, begins, low)))
        (tidy-stands ranges (back from n ops fits) (without from n ops fits) ops (stands from n ops fits) m entry set
        (is.tidies program ext' (without from n ops fits) (agree-without ops agree grown) set tidy m before));
  }
