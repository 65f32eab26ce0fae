-- Sets of ids, and programs that are tidy where fewer groups may be set.
use Rattle.std.proofs.Common.{◌≡◌, ℕ, zero, suc, ◌⊎◌, inl, inr, Bool, true, false, not, ◌&&◌, ◌||◌, ◌==◌, List, [], ◌∷◌, slice_get, Some, refl, sym, ap, subst, ◌∙◌}
use Rattle.std.proofs.lemmas.Bool.{cases_Bool}
use Rattle.std.proofs.lemmas.Option.{same_Some}
use Rattle.regress_program.specs.declared.ranges.GroupRange.{GroupRange}
use Rattle.regress_program.specs.Contents.{Ids, union, ids_in, without_ids, AreAmong, AreWithin}
use Rattle.regress_program.specs.Program.{Op, accept, fail, part, split, begin_loop, repeat, end_loop, unsets, begin_group, end_group, look}
use Rattle.regress_program.specs.Tidy.{BeginsUnset, IsTidyFrom, followers, range_at, set_after}

-- ---- sets of ids

pub or_left : (x y : Bool) → x ≡ true → (x || y) ≡ true
or_left true y is = refl
or_left false y is = cc

pub or_right : (x y : Bool) → y ≡ true → (x || y) ≡ true
or_right true y is = refl
or_right false y is = is

pub or_cases : (x y : Bool) → (x || y) ≡ true → (x ≡ true) ⊎ (y ≡ true)
or_cases true y is = inl refl
or_cases false y is = inr is

pub and_left : (x y : Bool) → (x && y) ≡ true → x ≡ true
and_left true y is = refl
and_left false y is = cc

pub and_right : (x y : Bool) → (x && y) ≡ true → y ≡ true
and_right true y is = is
and_right false y is = cc

pub or_none : (x y : Bool) → (x || y) ≡ false → (x ≡ false) × (y ≡ false)
or_none true y is = cc
or_none false y is = (refl, is)

pub among-same : (a : Ids) → AreAmong a a
among-same a id is = is

pub among-left : (a b : Ids) → AreAmong a (union a b)
among-left a b id is = or_left (a id) (b id) is

pub among-right : (a b : Ids) → AreAmong b (union a b)
among-right a b id is = or_right (a id) (b id) is

pub among-union : (a b c : Ids) → AreAmong a c → AreAmong b c → AreAmong (union a b) c
among-union a b c one two id is = elim (or_cases (a id) (b id) is) [
  | inl left ↦ one id left
  | inr right ↦ two id right
]

pub among-then : (a b c : Ids) → AreAmong a b → AreAmong b c → AreAmong a c
among-then a b c one two id is = two id (one id is)

pub among-without : (start end : ℕ) (a : Ids) → AreAmong (without_ids start end a) a
among-without start end a id is = and_left (a id) (not (ids_in start end id)) is

-- both sides of a union
pub among-both : (a b c e : Ids) → AreAmong a c → AreAmong b e → AreAmong (union a b) (union c e)
among-both a b c e one two =
    among-union a b (union c e) (among-then a c (union c e) one (among-left c e)) (among-then b e (union c e) two (among-right c e))

-- what is added twice
pub among-twice : (a b : Ids) → AreAmong (union (union a b) b) (union a b)
among-twice a b = among-union (union a b) b (union a b) (among-same (union a b)) (among-right a b)

pub among-apart : (a b c : Ids) → AreAmong (union (union a b) c) (union a (union b c))
among-apart a b c =
    among-union (union a b) c (union a (union b c))
    (among-both a b a (union b c) (among-same a) (among-left b c))
    (among-then c (union b c) (union a (union b c)) (among-right b c) (among-right a (union b c)))

pub within-among : (start end : ℕ) (a b : Ids) → AreAmong a b → AreWithin start end b → AreWithin start end a
within-among start end a b among within id is = within id (among id is)

-- ---- fewer instructions, and fewer groups that may be set

module _ (ranges : List GroupRange) (ops : List Op) where
  pub tidy-fewer : (n pc : ℕ) (set : Ids) → IsTidyFrom ranges ops (suc n) pc set → IsTidyFrom ranges ops n pc set
  tidy-fewer zero pc set is = tt
  tidy-fewer (suc n) pc set is = λ op here.
      ((is op here).0, λ i next follows. tidy-fewer n next (set_after ranges op set) ((is op here).1 i next follows))

  unset-less : (op : Op) (few many : Ids) → AreAmong few many → BeginsUnset ranges op many → BeginsUnset ranges op few
  unset-less accept few many among is = tt
  unset-less fail few many among is = tt
  unset-less (part t next) few many among is = tt
  unset-less (split first second) few many among is = tt
  unset-less (begin_loop greedy body next) few many among is = tt
  unset-less (repeat greedy body next) few many among is = tt
  unset-less (end_loop next) few many among is = tt
  unset-less (unsets start end next) few many among is = tt
  unset-less (begin_group next) few many among is = tt
  unset-less (end_group id next) few many among is = tt
  unset-less (look true routine next) few many among is = tt
  unset-less (look false routine next) few many among is = λ id within. elim (cases_Bool (few id)) [
    | inl set ↦ (let one = among id set in let none = is id within in cc)
    | inr unset ↦ unset
  ]

  and_among : (x y z : Bool) → (x ≡ true → y ≡ true) → (x && z) ≡ true → (y && z) ≡ true
  and_among true y z among is = subst (λ w. (w && z) ≡ true) (sym (among refl)) is
  and_among false y z among is = cc

  after-less : (op : Op) (few many : Ids) → AreAmong few many → AreAmong (set_after ranges op few) (set_after ranges op many)
  after-less accept few many among = among
  after-less fail few many among = among
  after-less (part t next) few many among = among
  after-less (split first second) few many among = among
  after-less (begin_loop greedy body next) few many among = among
  after-less (repeat greedy body next) few many among = among
  after-less (end_loop next) few many among = among
  after-less (unsets start end next) few many among = λ id. and_among (few id) (many id) (not (ids_in start end id)) (among id)
  after-less (begin_group next) few many among = among
  after-less (end_group id next) few many among = among-both few (λ k. k == id) many (λ k. k == id) among (λ k is. is)
  after-less (look true routine next) few many among = among
  after-less (look false routine next) few many among =
      let new = ids_in (range_at ranges routine).start (range_at ranges routine).end in among-both few new many new among (λ k is. is)

  pub tidy-less : (n pc : ℕ) (few many : Ids) → AreAmong few many → IsTidyFrom ranges ops n pc many → IsTidyFrom ranges ops n pc few
  tidy-less zero pc few many among is = tt
  tidy-less (suc n) pc few many among is = λ op here. (
    unset-less op few many among (is op here).0,
    λ i next follows.
        tidy-less n next (set_after ranges op few) (set_after ranges op many) (after-less op few many among) ((is op here).1 i next follows),
  )

  -- an instruction that one other may follow, or two
  pub tidy-one : (n at next : ℕ) (op : Op) (set : Ids) → slice_get ops at ≡ Some op → followers op ≡ next ∷ [] → BeginsUnset ranges op set →
      IsTidyFrom ranges ops n next (set_after ranges op set) → IsTidyFrom ranges ops n at set
  tidy-one zero at next op set here follow begins is = tt
  tidy-one (suc n) at next op set here follow begins is = λ other there.
      let same : op ≡ other = same_Some op other (sym here ∙ there) in
      subst (λ o. BeginsUnset ranges o set × ((i to : ℕ) → slice_get (followers o) i ≡ Some to → IsTidyFrom ranges ops n to (set_after ranges o set))) same
      (begins, λ i to follows. by i to (sym (ap (λ os. slice_get os i) follow) ∙ follows))
    where
      by : (i to : ℕ) → slice_get (next ∷ []) i ≡ Some to → IsTidyFrom ranges ops n to (set_after ranges op set)
      by zero to e = subst (λ k. IsTidyFrom ranges ops n k (set_after ranges op set)) (same_Some next to e) (tidy-fewer n next (set_after ranges op set) is)
      by (suc i) to e = cc

  -- the same, where the instructions after it are tidy for one step less
  pub tidy-both : (n at first second : ℕ) (op : Op) (set : Ids) → slice_get ops at ≡ Some op → followers op ≡ first ∷ second ∷ [] → BeginsUnset ranges op set →
      IsTidyFrom ranges ops n first (set_after ranges op set) → IsTidyFrom ranges ops n second (set_after ranges op set) →
      IsTidyFrom ranges ops (suc n) at set
  tidy-both n at first second op set here follow begins one two other there =
      let same : op ≡ other = same_Some op other (sym here ∙ there) in
      subst (λ o. BeginsUnset ranges o set × ((i to : ℕ) → slice_get (followers o) i ≡ Some to → IsTidyFrom ranges ops n to (set_after ranges o set))) same
      (begins, λ i to follows. by i to (sym (ap (λ os. slice_get os i) follow) ∙ follows))
    where
      by : (i to : ℕ) → slice_get (first ∷ second ∷ []) i ≡ Some to → IsTidyFrom ranges ops n to (set_after ranges op set)
      by zero to e = subst (λ k. IsTidyFrom ranges ops n k (set_after ranges op set)) (same_Some first to e) one
      by (suc zero) to e = subst (λ k. IsTidyFrom ranges ops n k (set_after ranges op set)) (same_Some second to e) two
      by (suc (suc i)) to e = cc

  pub tidy-two : (n at first second : ℕ) (op : Op) (set : Ids) → slice_get ops at ≡ Some op → followers op ≡ first ∷ second ∷ [] → BeginsUnset ranges op set →
      IsTidyFrom ranges ops n first (set_after ranges op set) → IsTidyFrom ranges ops n second (set_after ranges op set) → IsTidyFrom ranges ops n at set
  tidy-two zero at first second op set here follow begins one two = tt
  tidy-two (suc n) at first second op set here follow begins one two =
      tidy-both n at first second op set here follow begins (tidy-fewer n first (set_after ranges op set) one)
      (tidy-fewer n second (set_after ranges op set) two)

  -- an instruction that none follows
  pub tidy-none : (n at : ℕ) (op : Op) (set : Ids) → slice_get ops at ≡ Some op → followers op ≡ [] → BeginsUnset ranges op set → IsTidyFrom ranges ops n at set
  tidy-none zero at op set here follow begins = tt
  tidy-none (suc n) at op set here follow begins = λ other there.
      let same : op ≡ other = same_Some op other (sym here ∙ there) in
      subst (λ o. BeginsUnset ranges o set × ((i to : ℕ) → slice_get (followers o) i ≡ Some to → IsTidyFrom ranges ops n to (set_after ranges o set))) same
      (begins, λ i to follows. (let e = sym (ap (λ os. slice_get os i) follow) ∙ follows in cc))
