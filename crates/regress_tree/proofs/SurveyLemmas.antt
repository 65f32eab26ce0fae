-- Composition of the results of one pass over a tree.
use Rattle.std.proofs.Common.{◌≡◌, ℕ, ◌+◌, ◌<◌, ◌≤◌, ◌==◌, Bool, true, false, ◌||◌, List, [], ◌∷◌, ◌++◌, min, max, refl, sym, ap, subst, ◌∙◌, inl, inr, length-append, arith}
use Rattle.std.specs.Prelude.{if◌then◌else◌}
use Rattle.std.proofs.lemmas.Bool.{cases_eq, ne_eqb, eq-eqb}
use Rattle.regress_tree.specs.declared.ir.groups.GroupIds.{GroupIds}
use Rattle.regress_tree.specs.declared.ir.groups.Tally.{Tally}
use Rattle.regress_tree.specs.WellFormed.{Capture}
use Rattle.regress_tree.specs.Survey.{holds, times_held, times, least_id, past_ids, IsTally, joined, one, IsSurveyed, IsRejected}
use Rattle.regress_tree.proofs.IdLemmas.{times-append, Differ}

-- ---- the summary of two parts

least-append : (cs ds : List Capture) → least_id (cs ++ ds) ≡ min (least_id cs) (least_id ds)
least-append [] ds = omega (arith, least-bound ds)
  where
    least-bound : (ds : List Capture) → least_id ds ≤ 65536
    least-bound [] = omega arith
    least-bound (d ∷ ds) = omega (arith, least-bound ds)
least-append (c ∷ cs) ds = omega (arith, least-append cs ds)

pub past-append : (cs ds : List Capture) → past_ids (cs ++ ds) ≡ max (past_ids cs) (past_ids ds)
past-append [] ds = omega arith
past-append (c ∷ cs) ds = omega (arith, past-append cs ds)

pub IsTally-joined : (g h : Tally) (cs ds : List Capture) (r q : ℕ) → IsTally g cs r → IsTally h ds q → IsTally (joined g h) (cs ++ ds) (max r q)
IsTally-joined g h cs ds r q a b = record {
  count = omega (arith, a.count, b.count, length-append cs ds);
  least = omega (arith, a.least, b.least, least-append cs ds);
  past = omega (arith, a.past, b.past, past-append cs ds);
  past_in_range = omega (arith, a.past_in_range, b.past_in_range);
  reference = omega (arith, a.reference, b.reference);
}

pub IsTally-one : (id : ℕ) (c : Capture) → c.id ≡ id → id < 65536 → IsTally (one id) (c ∷ []) 0
IsTally-one id c same small = record {
  count = refl;
  least = omega arith;
  past = omega arith;
  past_in_range = omega arith;
  reference = refl;
}

-- ---- two parts in sequence

module _ {A B : Type 0} {cs ds : List Capture} {r q : ℕ} {before mid after : GroupIds} {g h : Tally} where
  pub IsSurveyed-then : IsSurveyed A cs r before mid g → IsSurveyed B ds q mid after h → IsSurveyed (A × B) (cs ++ ds) (max r q) before after (joined g h)
  IsSurveyed-then a b = record {
    occurs = (a.occurs, b.occurs);
    ids = λ k. omega (arith, a.ids k, b.ids k, times-append k cs ds);
    reported = IsTally-joined g h cs ds r q a.reported b.reported;
  }

-- Two parts fail if the second one does.
pub IsRejected-second : {A B : Type 0} {cs ds : List Capture} {r : ℕ} {before mid : GroupIds} {g : Tally} → IsSurveyed A cs r before mid g →
    IsRejected B ds mid → IsRejected (A × B) (cs ++ ds) before
IsRejected-second {cs = cs} {ds = ds} a b = record {
  refuted = λ occurs differ. b.refuted occurs.1 (λ k. omega (arith, a.ids k, differ k, times-append k cs ds));
}

-- Two parts fail if the first one does.
pub IsRejected-first : {A : Type 0} {cs : List Capture} {before : GroupIds} (B : Type 0) (ds : List Capture) → IsRejected A cs before →
    IsRejected (A × B) (cs ++ ds) before
IsRejected-first {cs = cs} B ds a = record {
  refuted = λ occurs differ. a.refuted occurs.0 (λ k. omega (arith, differ k, times-append k cs ds));
}

-- ---- equal statements

pub IsSurveyed-as : {A : Type 0} {cs : List Capture} {r : ℕ} {before after : GroupIds} {g : Tally} (B : Type 0) (ds : List Capture) (q : ℕ) →
    (A → B) → cs ≡ ds → r ≡ q → IsSurveyed A cs r before after g → IsSurveyed B ds q before after g
IsSurveyed-as {r = r} {before = before} {after = after} {g = g} B ds q from same same' p =
    subst (λ s. IsSurveyed B ds s before after g) same'
    (subst (λ l. IsSurveyed B l r before after g) same (record { occurs = from p.occurs; ids = p.ids; reported = p.reported }))

pub IsRejected-as : {A : Type 0} {cs : List Capture} {before : GroupIds} (B : Type 0) (ds : List Capture) → (B → A) → cs ≡ ds →
    IsRejected A cs before → IsRejected B ds before
IsRejected-as {before = before} B ds to same fails =
    subst (λ l. IsRejected B l before) same (record { refuted = λ occurs differ. fails.refuted (to occurs) differ })

-- ---- parts without a group

pub IsSurveyed-none : {A : Type 0} {r : ℕ} {ids : GroupIds} {g : Tally} → A → IsTally g [] r → IsSurveyed A [] r ids ids g
IsSurveyed-none occurs reported = record { occurs = occurs; ids = λ k. omega arith; reported = reported }

-- A part that passes has distinct ids.
pub differ-held : (before after : GroupIds) (cs : List Capture) → ((k : ℕ) → times_held after k ≡ times_held before k + times k cs) → Differ cs
differ-held before after cs ids k = omega (arith, ids k, held_once (holds after k))
  where
    held_once : (b : Bool) → (if b then 1 else 0) ≤ 1
    held_once true = omega arith
    held_once false = omega arith

-- ---- one more id

pub held-insert : (before after : GroupIds) (c : Capture) → holds before c.id ≡ false →
    ((k : ℕ) → holds after k ≡ ((k == c.id) || holds before k)) → (k : ℕ) →
    times_held after k ≡ times_held before k + times k (c ∷ [])
held-insert before after c fresh more k =
    elim (cases_eq k c.id) [
      | inl e ↦
          let old : holds before k ≡ false = ap (holds before) e ∙ fresh in
          rw (more k, old, eq-eqb k c.id e, eq-eqb c.id k (sym e))
      | inr ne ↦ rw (more k, ne_eqb k c.id ne, ne_eqb c.id k (λ e. ne (sym e))) (omega arith)
    ]
