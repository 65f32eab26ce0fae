-- Backtrack points that are left out, since a run is known to fail there.
use Rattle.std.proofs.Common.{◌≡◌, ℕ, zero, suc, ◌+◌, ◌-◌, ◌<◌, ◌≤◌, All, List, [], ◌++◌, flat_map, length, length-append, sum_by, sym, ap, ◌∙◌, subst, arith, true}
use Rattle.std.proofs.lemmas.Grind.{flat_map-append}
use Rattle.std.proofs.lemmas.List.Elements.{All-tail}
use Rattle.std.proofs.lemmas.List.Sums.{sum_by-append}
use Rattle.regress_program.specs.Cost.{Cost}
use Rattle.regress_program.specs.Program.{At, Out}
use Rattle.regress_backtrack.specs.declared.machine.Machine.{Machine}
use Rattle.regress_backtrack.specs.declared.machine.Place.{Place}
use Rattle.regress_backtrack.specs.Costs.{points_cost}
use Rattle.regress_backtrack.specs.Machine.{Groups, Shortened, at, groups_of, points, range_points}
use Rattle.regress_backtrack.proofs.CostLemmas.{fewer_cost}
use Rattle.regress_backtrack.proofs.SweepLemmas.{fewer_outcomes}

plus_suc : (n k : ℕ) → n + suc k ≡ suc (n + k)
plus_suc n k = omega arith

plus_zero : (n : ℕ) → n + zero ≡ n
plus_zero n = omega arith

-- What holds of all points holds of fewer of them.
fewer_all : (P : At → Type 0) (g : Groups) (p : Place) (others : List At) (kept more : ℕ) →
    All P (range_points p (kept + more) g ++ others) → All P (range_points p kept g ++ others)
fewer_all P g p others kept zero all = subst (λ n. All P (range_points p n g ++ others)) (plus_zero kept) all
fewer_all P g p others kept (suc more) all =
    let last : At = at (record { pc = p.pc; moved = true; position = p.position + suc (kept + more) }) g in
    fewer_all P g p others kept more
    (All-tail P last (range_points p (kept + more) g ++ others) (subst (λ n. All P (range_points p n g ++ others)) (plus_suc kept more) all))

range_length : (p : Place) (g : Groups) (n : ℕ) → length (range_points p n g) ≡ suc n
range_length p g zero = omega arith
range_length p g (suc n) = ap suc (range_length p g n)

module _ (m m' : Machine) (p : Place) (more kept : ℕ) (le : kept ≤ more) (s : Shortened p more kept m m') where
  all_points : more ≡ kept + (more - kept)
  all_points = omega (arith, le)

  pub left_out_outcomes : (out : Out) →
      ((k : ℕ) → kept < k → k ≤ more → out (at (record { pc = p.pc; moved = true; position = p.position + k }) (groups_of m)) ≡ []) →
      flat_map out (points m') ≡ flat_map out (points m)
  left_out_outcomes out none =
      let g = groups_of m in
      ap (flat_map out) s.fewer
      ∙ flat_map-append out (range_points p kept g) s.others
      ∙ ap (λ xs. xs ++ flat_map out s.others)
      (sym (fewer_outcomes out g p kept (more - kept) (λ k lt le'. none k lt (omega (arith, le', le)))))
      ∙ ap (λ n. flat_map out (range_points p n g) ++ flat_map out s.others) (sym all_points)
      ∙ sym (flat_map-append out (range_points p more g) s.others)
      ∙ ap (flat_map out) (sym s.all)

  pub left_out_all : (P : At → Type 0) → All P (points m) → All P (points m')
  left_out_all P all =
      let g = groups_of m in
      subst (All P) (sym s.fewer)
      (fewer_all P g p s.others kept (more - kept)
      (subst (λ n. All P (range_points p n g ++ s.others)) all_points (subst (All P) s.all all)))

  pub left_out_cost : (cost : Cost) → points_cost cost m' ≤ points_cost cost m
  left_out_cost cost =
      let g = groups_of m in
      let before = ap (sum_by cost) s.all ∙ sum_by-append cost (range_points p more g) s.others in
      let after = ap (sum_by cost) s.fewer ∙ sum_by-append cost (range_points p kept g) s.others in
      let fewer = fewer_cost cost g p kept (more - kept) in
      let grown = ap (λ n. sum_by cost (range_points p n g)) all_points in
      omega (arith, before, after, fewer, grown)

  pub left_out_fewer : length (points m') ≤ length (points m)
  left_out_fewer =
      let g = groups_of m in
      let before = ap length s.all ∙ length-append (range_points p more g) s.others in
      let after = ap length s.fewer ∙ length-append (range_points p kept g) s.others in
      omega (arith, before, after, range_length p g more, range_length p g kept, le)
