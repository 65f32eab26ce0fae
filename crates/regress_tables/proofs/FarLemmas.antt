-- The instructions that a memo lists, and their next bytes.
use Rattle.std.proofs.Common.{zero, suc, ◌≡◌, ℕ, ◌+◌, ◌<◌, ◌⊎◌, List, [], ◌∷◌, ◌++◌, length, slice_get, Some, refl, sym, ap, ◌∙◌, subst, inl, inr, arith}
use Rattle.std.proofs.lemmas.Bool.{cases_eq}
use Rattle.std.proofs.lemmas.List.{append-nil}
use Rattle.std.proofs.lemmas.Option.{none-some}
use Rattle.regress_code.specs.NextBytes.{Bounds}
use Rattle.regress_code.specs.declared.next_bytes.NextBytes.{NextBytes}
use Rattle.regress_code.specs.declared.next_bytes.NextBytes.TheVariants as kinds
use Rattle.regress_program.specs.Program.{At, Op, Out, accept, fail, part, split, begin_loop, repeat, end_loop, unsets, begin_group, end_group, look, outcomes_by}
use Rattle.regress_tree.specs.Reading.{Direction}
use Rattle.regress_tree.specs.Steps.{MatchState, Matcher, Setting}
use Rattle.regress_tables.specs.Memo.{AreBytesOf, IsNear}
use Rattle.regress_tables.specs.Probes.{Coded, IsProbe}
use Rattle.regress_tables.specs.Table.{has_outcome}
use Rattle.regress_tables.specs.declared.probe.Probe.TheVariants as probes

pub far-pushed : (ops : List Op) (far : List ℕ) (n : ℕ) → ((pc : ℕ) (op : Op) → pc < n → slice_get ops pc ≡ Some op → IsNear op ⊎ ((k : ℕ) × (slice_get far k ≡ Some pc))) →
    (pc : ℕ) (op : Op) → pc < n + 1 → slice_get ops pc ≡ Some op → IsNear op ⊎ ((k : ℕ) × (slice_get (far ++ n ∷ []) k ≡ Some pc))
far-pushed ops far n so_far pc op lt is = elim (cases_eq pc n) [
  | inl last ↦ inr (length far, slice_get-last far n ∙ ap Some (sym last))
  | inr before ↦ elim (so_far pc op (omega (arith, lt, before)) is) [
    | inl near ↦ inl near
    | inr listed ↦ inr (listed.0, slice_get-kept far n listed.0 pc listed.1)
  ]
]
  where
    slice_get-last : (xs : List ℕ) (y : ℕ) → slice_get (xs ++ y ∷ []) (length xs) ≡ Some y
    slice_get-last [] y = refl
    slice_get-last (x ∷ xs) y = slice_get-last xs y

    slice_get-kept : (xs : List ℕ) (y k z : ℕ) → slice_get xs k ≡ Some z → slice_get (xs ++ y ∷ []) k ≡ Some z
    slice_get-kept [] y k z is = absurd (none-some z is)
    slice_get-kept (x ∷ xs) y zero z is = is
    slice_get-kept (x ∷ xs) y (suc k) z is = slice_get-kept xs y k z is

pub far-next : (ops : List Op) (far : List ℕ) (n : ℕ) → ((pc : ℕ) (op : Op) → pc < n → slice_get ops pc ≡ Some op → IsNear op ⊎ ((k : ℕ) × (slice_get far k ≡ Some pc))) →
    ((op : Op) → slice_get ops n ≡ Some op → IsNear op) →
    (pc : ℕ) (op : Op) → pc < n + 1 → slice_get ops pc ≡ Some op → IsNear op ⊎ ((k : ℕ) × (slice_get far k ≡ Some pc))
far-next ops far n so_far near pc op lt is = elim (cases_eq pc n) [
  | inl last ↦ inl (near op (ap (slice_get ops) (sym last) ∙ is))
  | inr before ↦ so_far pc op (omega (arith, lt, before)) is
]

-- ---- their next bytes

module _ (setting : Setting) (text : List ℕ) (d : Direction) (op : Op) where
  no-states : (bytes : NextBytes) (position : ℕ) → Bounds bytes d text position []
  no-states kinds.Any position = tt
  no-states (kinds.Bytes set) position = λ out. refl

  -- What bounds the outcomes of either of two instructions bounds those of the first, and of the second.
  pub bytes-or : (one other both : NextBytes) → AreBytesOf setting text d op one →
      ((d' : Direction) (text' : List ℕ) (position : ℕ) (states more : List MatchState) → Bounds one d' text' position states →
      Bounds other d' text' position more → Bounds both d' text' position (states ++ more)) → AreBytesOf setting text d op both
  bytes-or one other both bytes or body_of out a =
      let states = outcomes_by setting text d body_of out op a in
      subst (Bounds both d text a.state.position) (append-nil states)
      (or d text a.state.position states [] (bytes body_of out a) (no-states other a.state.position))

  pub bytes-or-last : (one other both : NextBytes) → AreBytesOf setting text d op other →
      ((d' : Direction) (text' : List ℕ) (position : ℕ) (states more : List MatchState) → Bounds one d' text' position states →
      Bounds other d' text' position more → Bounds both d' text' position (more ++ states)) → AreBytesOf setting text d op both
  bytes-or-last one other both bytes or body_of out a =
      let states = outcomes_by setting text d body_of out op a in
      subst (Bounds both d text a.state.position) (append-nil states)
      (or d text a.state.position [] states (no-states one a.state.position) (bytes body_of out a))

module _ (setting : Setting) (bytes : List ℕ) (d : Direction) (body_of : ℕ → Matcher) (out : Out) (ops : List Op) (x : ℕ) where
  -- The instruction has no outcome from the position.
  abbrev pub HasNone : Op → Type 0
  HasNone op = (a : At) → a.state.position ≡ x → outcomes_by setting bytes d body_of out op a ≡ []

  none-probe : (op : Op) → HasNone op → IsProbe setting bytes d body_of out op x probes.Fails
  none-probe accept none = tt
  none-probe fail none = tt
  none-probe (part t next) none = λ moved b tells a m p. ap has_outcome (none a p)
  none-probe (split first second) none = tt
  none-probe (begin_loop greedy body next) none = tt
  none-probe (repeat greedy body next) none = tt
  none-probe (end_loop next) none = tt
  none-probe (unsets start end next) none = tt
  none-probe (begin_group next) none = tt
  none-probe (end_group id next) none = tt
  none-probe (look negate routine next) none = λ moved b tells a m p. ap has_outcome (none a p)

  -- Each digit of 0 is that of a probe that fails.
  pub none-coded : (far : List ℕ) → ((k pc : ℕ) (op : Op) → slice_get far k ≡ Some pc → slice_get ops pc ≡ Some op → HasNone op) →
      Coded setting bytes d body_of out ops far x 0
  none-coded [] none = refl
  none-coded (pc ∷ pcs) none = (
    0,
    probes.Fails,
    refl,
    λ op is. none-probe op (none 0 pc op refl is),
    none-coded pcs (λ k pc' op here is. none (suc k) pc' op here is),
  )
