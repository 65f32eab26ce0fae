-- Each entry adds what it maps. An entry with all its canonical forms beyond the ends maps nothing.
use Rattle.std.proofs.Common.{◌≡◌, ℕ, ◌<◌, ◌≤◌, ◌||◌, ◌∙◌, List, All, inl, inr, ap, subst, arith}
use Rattle.std.proofs.lemmas.List.{take_all}
use Rattle.std.proofs.lemmas.List.Elements.{All-nil, All-more}
use Rattle.regress_base.specs.Intervals.{is_member}
use Rattle.regress_unicode.specs.FoldEntries.{FoldEntry, moved}
use Rattle.regress_unicode.specs.Shifts.{maps_to_by, backward}
use Rattle.regress_unicode.proofs.ShiftLemmas.{mappings_more}
use Rattle.regress_unicode.proofs.ClosingLemmas.{found_none, mapping_no_more, beyond}
use Rattle.regress_unicode.proofs.closure.sources.Goals as goal
use Rattle.regress_unicode.proofs.closure.sources.Goals.{then-first-high+then-low-shifted+in_ok-push_sources, else-first-high, else-first-high-via-then-first-high+else-low-shifted, else-first-high-via-else-first-high}

-- a code point up to the last one is below every number that the last one is below; likewise above for the first one
below : (y last found low : ℕ) → y ≤ last → found ≡ last → found < low → y < low
below y last found low le is lt = omega arith

above : (y first found high : ℕ) → first ≤ y → found ≡ first → high < found → high < y
above y first found high le is lt = omega arith

pub loop-mapping-init : goal.loop-mapping-init
loop-mapping-init c = record {
  members = λ x. ap (λ b. is_member c.args.intervals.now x || b)
      (found_none backward (is_member c.args.intervals.now) x c.new-found.result.items c.new-found.ensures.items);
  nonempty = All-nil (λ (mapping : FoldEntry). 1 ≤ mapping.length);
}

pub loop-mapping-preserved : goal.loop-mapping-preserved
loop-mapping-preserved c =
    let mappings = c.args.mappings.now in
    let i = c.loop-mapping.mapping-index in
    let mapping : FoldEntry = c.mapping-item.result in
    let first : c.shifted-first.result ≡ (backward mapping).first = c.shifted-first.ensures.value ∙ ap (moved mapping.delta) c.first.ensures.value in
    let nonempty = All-more (λ (mapping : FoldEntry). 1 ≤ mapping.length) mappings i mapping c.loop-mapping-test.true c.loop-mapping.invariant.nonempty
    (subst (λ (mapping : FoldEntry). 1 ≤ mapping.length) c.mapping-item.is c.first.ensures.nonempty) in
    elim c.if-first-high.branch [
      | then-first-high+then-low-shifted+in_ok-push_sources w ↦ rw w.found-is (record {
        members = λ x. mappings_more backward (is_member c.args.intervals.now) mappings i x mapping w.backward.result
            (is_member c.args.intervals.now x) _ _ c.loop-mapping-test.true c.mapping-item.is w.backward.ensures.value
            (c.loop-mapping.invariant.members x) (w.in_ok-push_sources.ensures x);
        nonempty = nonempty;
      })
      | else-first-high w ↦ rw w.found-is (record {
        members = λ x. mapping_no_more backward (is_member c.args.intervals.now) mappings i x mapping (is_member c.args.intervals.now x) _
            c.loop-mapping-test.true c.mapping-item.is
            (λ y from to. elim w.else-first-high.branch [
              | else-first-high-via-then-first-high+else-low-shifted w' ↦
                  (let last : w'.shifted.result ≡ (backward mapping).last = w'.shifted.ensures.value
                  ∙ ap (moved mapping.delta) (omega (arith, w'.last.ensures.value)) in
                  beyond c.args.intervals.now c.ends-low.result.0 c.ends-low.result.1 y c.ends-low.ensures
                  (inl (below y _ _ _ to last w'.if-low-shifted.false)))
              | else-first-high-via-else-first-high w' ↦
                  beyond c.args.intervals.now c.ends-low.result.0 c.ends-low.result.1 y c.ends-low.ensures
                  (inr (above y _ _ _ from first w'.if-first-high.false))
            ])
            (c.loop-mapping.invariant.members x);
        nonempty = nonempty;
      })
    ]

pub returns-clause-members : goal.returns-clause-members
returns-clause-members c x =
    c.loop-mapping.invariant.members x
    ∙ ap (λ (rs : List FoldEntry). is_member c.args.intervals.now x || maps_to_by backward rs (is_member c.args.intervals.now) x)
    (take_all c.loop-mapping.mapping-index c.args.mappings.now c.loop-mapping-test.false)

pub returns-clause-nonempty : goal.returns-clause-nonempty
returns-clause-nonempty c =
    subst (λ (mappings : List FoldEntry). All (λ mapping. 1 ≤ mapping.length) mappings)
    (take_all c.loop-mapping.mapping-index c.args.mappings.now c.loop-mapping-test.false) c.loop-mapping.invariant.nonempty
