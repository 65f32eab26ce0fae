-- In a linear program no lookaround sets a group, so its tables lead to its first outcome.
use Rattle.std.proofs.Common.{◌≡◌, ℕ, zero, suc, ◌+◌, ◌<◌, inl, inr, Bool, true, false, not, ◌&&◌, ◌||◌, List, [], ◌∷◌, ◌++◌, length, get_or, slice_get, Some, None, max, refl, sym, ap, ap₂, subst, ◌∙◌, arith}
use Rattle.std.proofs.lemmas.List.{length-append}
use Rattle.std.specs.Prelude.{if◌then◌else◌, is_none}
use Rattle.std.specs.List.{list_all, list_any}
use Rattle.regress_tree.specs.Tree.{Tree}
use Rattle.regress_program.specs.declared.nonlinear.Nonlinear.TheVariants.{BackReference, CapturingLookaround}
use Rattle.regress_program.specs.declared.ranges.GroupRange.{GroupRange}
use Rattle.regress_program.specs.Linear.{changes_captures, has_back_reference, has_capturing_lookaround, has_reason, is_back_reference, is_capturing, is_capturing_lookaround, is_linear, is_linear_op, is_linear_tree, is_reason, reason, reason_of}
use Rattle.regress_program.specs.Program.{Op, accept, fail, part, split, begin_loop, repeat, end_loop, unsets, begin_group, end_group, look, Routine}
use Rattle.regress_program.specs.Ranges.{IsIn, captured_by, captured_by_all, captured_in, changed_by, changed_by_all, hull, inner_groups, no_groups, ranges_after, ranges_of}
use Rattle.regress_program.specs.Tidy.{BeginsUnset, IsTidy, IsTidyFrom, has_no_back_reference, is_tabled, range_at, set_after, table_groups}
use Rattle.regress_program.specs.Contents.{Ids, no_ids}
use Rattle.regress_program.proofs.lemmas.Instructions.{list_all-get}
use Rattle.regress_program.proofs.lemmas.Reasons.{linear-reason}
use Rattle.regress_program.proofs.lemmas.Tidy.{or_cases}

not_true : (b : Bool) → not b ≡ true → b ≡ false
not_true true is = cc
not_true false is = refl

and_true : (a b : Bool) → (a && b) ≡ true → (a ≡ true) × (b ≡ true)
and_true true b is = (refl, is)
and_true false b is = cc

or_false : (a b : Bool) → (a || b) ≡ false → (a ≡ false) × (b ≡ false)
or_false true b is = cc
or_false false b is = (refl, is)

-- ---- no routine of a lookaround changes captures

-- The routines that change no captures themselves have no range of groups.
abbrev AreQuiet : List Routine → List GroupRange → Type 0
AreQuiet program ranges = (j : ℕ) → is_capturing (slice_get program j) ≡ false → get_or ranges j no_groups ≡ no_groups

quiet-op : (program : List Routine) (ranges : List GroupRange) (op : Op) → AreQuiet program ranges → is_linear_op program op ≡ true →
    changes_captures op ≡ false → changed_by ranges op ≡ no_groups
quiet-op program ranges accept quiet linear none = refl
quiet-op program ranges fail quiet linear none = refl
quiet-op program ranges (part t next) quiet linear none = refl
quiet-op program ranges (split first second) quiet linear none = refl
quiet-op program ranges (begin_loop greedy body next) quiet linear none = refl
quiet-op program ranges (repeat greedy body next) quiet linear none = refl
quiet-op program ranges (end_loop next) quiet linear none = refl
quiet-op program ranges (unsets start end next) quiet linear none =
    ap (λ (b : Bool). if b then record { start = start; end = end } else no_groups) none
quiet-op program ranges (begin_group next) quiet linear none = refl
quiet-op program ranges (end_group id next) quiet linear none = cc
quiet-op program ranges (look true routine next) quiet linear none = refl
quiet-op program ranges (look false routine next) quiet linear none = quiet routine (not_true (is_capturing (slice_get program routine)) linear)

quiet-ops : (program : List Routine) (ranges : List GroupRange) (ops : List Op) → AreQuiet program ranges →
    list_all (is_linear_op program) ops ≡ true → list_any changes_captures ops ≡ false → changed_by_all ranges ops ≡ no_groups
quiet-ops program ranges [] quiet linear none = refl
quiet-ops program ranges (op ∷ ops) quiet linear none =
    let here = and_true (is_linear_op program op) (list_all (is_linear_op program) ops) linear in
    let changes = or_false (changes_captures op) (list_any changes_captures ops) none in
    ap₂ hull (quiet-op program ranges op quiet here.0 changes.0) (quiet-ops program ranges ops quiet here.1 changes.1)

-- one more range
get-pushed : {X : Type 0} (xs : List X) (x d : X) (j : ℕ) → (j < length xs → get_or xs j d ≡ d) → (j ≡ length xs → x ≡ d) →
    get_or (xs ++ x ∷ []) j d ≡ d
get-pushed [] x d zero early last = last refl
get-pushed [] x d (suc j) early last = refl
get-pushed (y ∷ ys) x d zero early last = early (omega arith)
get-pushed (y ∷ ys) x d (suc j) early last = get-pushed ys x d j (λ lt. early (omega (arith, lt))) (λ e. last (omega (arith, e)))

quiet-ranges : (program : List Routine) (before : List GroupRange) (rest : List Routine) → AreQuiet program before →
    list_all (λ (r : Routine). list_all (is_linear_op program) r.ops) rest ≡ true →
    ((k : ℕ) → slice_get program (length before + k) ≡ slice_get rest k) → AreQuiet program (ranges_after before rest)
quiet-ranges program before [] quiet linear is = quiet
quiet-ranges program before (r ∷ rs) quiet linear is =
    let here = and_true (list_all (is_linear_op program) r.ops) (list_all (λ (q : Routine). list_all (is_linear_op program) q.ops) rs) linear in
    let range = changed_by_all before r.ops in
    let after = before ++ range ∷ [] in
    let long : length after ≡ length before + 1 = length-append before (range ∷ []) in
    let found : slice_get program (length before) ≡ Some r = ap (slice_get program) (omega arith) ∙ is 0 in
    let last : is_capturing (slice_get program (length before)) ≡ false → range ≡ no_groups =
    λ none. quiet-ops program before r.ops quiet here.0 (sym (ap is_capturing found) ∙ none) in
    quiet-ranges program after rs
    (λ j none. get-pushed before range no_groups j (λ lt. quiet j none)
    (λ e. last (sym (ap (λ n. is_capturing (slice_get program n)) e) ∙ none)))
    here.1 (λ k. ap (slice_get program) (omega (arith, long)) ∙ is (suc k))

all-quiet : (program : List Routine) → is_linear program ≡ true → AreQuiet program (ranges_of program)
all-quiet program linear = quiet-ranges program [] program (λ j none. refl) linear (λ k. ap (slice_get program) (omega arith))

-- ---- so a lookaround sets no group

module _ (program : List Routine) (ranges : List GroupRange) (quiet : AreQuiet program ranges) where
  sets-none : (op : Op) → is_linear_op program op ≡ true → captured_by ranges op ≡ 0
  sets-none (look false routine next) linear =
      ap (λ (r : GroupRange). r.end) (quiet routine (not_true (is_capturing (slice_get program routine)) linear))
  sets-none op linear = refl

  all-set-none : (ops : List Op) → list_all (is_linear_op program) ops ≡ true → captured_by_all ranges ops ≡ 0
  all-set-none [] linear = refl
  all-set-none (op ∷ ops) linear =
      let here = and_true (is_linear_op program op) (list_all (is_linear_op program) ops) linear in
      ap₂ max (sets-none op here.0) (all-set-none ops here.1)

  no-inner : (rs : List Routine) → list_all (λ (r : Routine). list_all (is_linear_op program) r.ops) rs ≡ true → captured_in ranges rs ≡ 0
  no-inner [] linear = refl
  no-inner (r ∷ rs) linear =
      let here = and_true (list_all (is_linear_op program) r.ops) (list_all (λ (q : Routine). list_all (is_linear_op program) q.ops) rs) linear in
      ap₂ max (all-set-none r.ops here.0) (no-inner rs here.1)

  -- A lookaround captures nothing, so it begins with its groups unset.
  quiet-unset : (op : Op) (set : Ids) → is_linear_op program op ≡ true → BeginsUnset ranges op set
  quiet-unset accept set linear = tt
  quiet-unset fail set linear = tt
  quiet-unset (part t next) set linear = tt
  quiet-unset (split first second) set linear = tt
  quiet-unset (begin_loop greedy body next) set linear = tt
  quiet-unset (repeat greedy body next) set linear = tt
  quiet-unset (end_loop next) set linear = tt
  quiet-unset (unsets start end next) set linear = tt
  quiet-unset (begin_group next) set linear = tt
  quiet-unset (end_group id next) set linear = tt
  quiet-unset (look true routine next) set linear = tt
  quiet-unset (look false routine next) set linear = λ id within.
      let none : range_at ranges routine ≡ no_groups = quiet routine (not_true (is_capturing (slice_get program routine)) linear) in
      let empty : IsIn no_groups id = subst (λ r. IsIn r id) none within in
      absurd (omega (arith, empty.1))

  quiet-from : (ops : List Op) → list_all (is_linear_op program) ops ≡ true → (n pc : ℕ) (set : Ids) → IsTidyFrom ranges ops n pc set
  quiet-from ops linear zero pc set = tt
  quiet-from ops linear (suc n) pc set = λ op here. (
    quiet-unset op set (list_all-get (is_linear_op program) ops pc op linear here),
    λ i next follows. quiet-from ops linear n next (set_after ranges op set),
  )

-- ---- tests of lists

all-weaker : {X : Type 0} (p q : X → Bool) (xs : List X) → ((x : X) → p x ≡ true → q x ≡ true) → list_all p xs ≡ true → list_all q xs ≡ true
all-weaker p q [] each all = refl
all-weaker p q (x ∷ xs) each all =
    let both = and_true (p x) (list_all p xs) all in
    ap₂ (λ a b. a && b) (each x both.0) (all-weaker p q xs each both.1)

not_or : (a b : Bool) → (not a && not b) ≡ not (a || b)
not_or true b = refl
not_or false b = refl

all-not : {X : Type 0} (p q : X → Bool) (xs : List X) → ((x : X) → p x ≡ not (q x)) → list_all p xs ≡ not (list_any q xs)
all-not p q [] each = refl
all-not p q (x ∷ xs) each = ap₂ (λ a b. a && b) (each x) (all-not p q xs each) ∙ not_or (q x) (list_any q xs)

-- ---- programs

pub no-back_reference : (program : List Routine) → has_no_back_reference program ≡ not (has_reason program BackReference)
no-back_reference program =
    all-not (λ (r : Routine). list_all (λ op. not (is_back_reference op)) r.ops) (λ (r : Routine). list_any (is_reason program BackReference) r.ops) program
    (λ r. all-not (λ op. not (is_back_reference op)) (is_reason program BackReference) r.ops (λ op. refl))

pub linear-tidy : (program : List Routine) → is_linear program ≡ true → IsTidy program
linear-tidy program linear i r is n =
    quiet-from program (ranges_of program) (all-quiet program linear) r.ops
    (list_all-get (λ (q : Routine). list_all (is_linear_op program) q.ops) program i r linear is) n r.entry no_ids

linear-references : (program : List Routine) → is_linear program ≡ true → has_no_back_reference program ≡ true
linear-references program linear =
    all-weaker (λ (r : Routine). list_all (is_linear_op program) r.ops) (λ (r : Routine). list_all (λ op. not (is_back_reference op)) r.ops) program
    (λ r. all-weaker (is_linear_op program) (λ op. not (is_back_reference op)) r.ops
    (λ op is. (and_true (not (is_back_reference op)) (not (is_capturing_lookaround program op)) is).0))
    linear

pub linear-inner : (program : List Routine) → is_linear program ≡ true → inner_groups program ≡ 0
linear-inner program linear = no-inner program (ranges_of program) (all-quiet program linear) program linear

pub linear-tabled : (tidy : Bool) (program : List Routine) → is_linear program ≡ true → table_groups tidy program ≡ Some 0
linear-tabled tidy program linear =
    ap₂ (λ (a b : Bool). if a && (b || tidy) then Some (inner_groups program) else None) (linear-references program linear) linear
    ∙ ap (λ n. Some n) (linear-inner program linear)

-- A program that tables lead through is tidy.
pub tabled-tidy : (tidy : Bool) (program : List Routine) → (tidy ≡ true → IsTidy program) → is_tabled tidy program ≡ true → IsTidy program
tabled-tidy tidy program if_tidy is = elim (or_cases (is_linear program) tidy (and_true (has_no_back_reference program) (is_linear program || tidy) is).1) [
  | inl linear ↦ linear-tidy program linear
  | inr known ↦ if_tidy known
]

-- ---- by the reason why a program is not linear

references : (a b : Bool) → (if a then Some BackReference else if b then Some CapturingLookaround else None) ≡ Some BackReference → a ≡ true
references true b is = refl
references false true is = cc
references false false is = cc

no-references : (a b : Bool) → (if a then Some BackReference else if b then Some CapturingLookaround else None) ≡ Some CapturingLookaround →
    a ≡ false
no-references true b is = cc
no-references false b is = refl

pub tabled-linear : (tidy : Bool) (program : List Routine) → reason program ≡ None → table_groups tidy program ≡ Some 0
tabled-linear tidy program is = linear-tabled tidy program (linear-reason program ∙ ap is_none is)

pub tabled-references : (tidy : Bool) (program : List Routine) → reason program ≡ Some BackReference → table_groups tidy program ≡ None
tabled-references tidy program is =
    let some = references (has_reason program BackReference) (has_reason program CapturingLookaround) is in
    ap (λ (b : Bool). if b && (is_linear program || tidy) then Some (inner_groups program) else None) (no-back_reference program ∙ ap not some)

pub tabled-captures : (tidy : Bool) (program : List Routine) → reason program ≡ Some CapturingLookaround →
    table_groups tidy program ≡ (if tidy then Some (inner_groups program) else None)
tabled-captures tidy program is =
    let none = no-references (has_reason program BackReference) (has_reason program CapturingLookaround) is in
    ap₂ (λ (a b : Bool). if a && (b || tidy) then Some (inner_groups program) else None) (no-back_reference program ∙ ap not none)
    (linear-reason program ∙ ap is_none is)

-- ---- by the tree

same-reason : (a b p l : Bool) → not a ≡ not p → is_none (if a then Some BackReference else if b then Some CapturingLookaround else None) ≡ (not p && not l) →
    (if a then Some BackReference else if b then Some CapturingLookaround else None)
    ≡ (if p then Some BackReference else if l then Some CapturingLookaround else None)
same-reason true b true l plain linear = refl
same-reason true b false l plain linear = cc
same-reason false b true l plain linear = cc
same-reason false true false true plain linear = refl
same-reason false true false false plain linear = cc
same-reason false false false true plain linear = cc
same-reason false false false false plain linear = refl

pub reason-tree : (program : List Routine) (t : Tree) → has_no_back_reference program ≡ not (has_back_reference t) →
    is_linear program ≡ is_linear_tree t → reason program ≡ reason_of t
reason-tree program t plain linear =
    same-reason (has_reason program BackReference) (has_reason program CapturingLookaround) (has_back_reference t) (has_capturing_lookaround t)
    (sym (no-back_reference program) ∙ plain) (sym (linear-reason program) ∙ linear)
