-- The counts of the positions of a source, and of its suffixes.
use Rattle.std.proofs.Common.{◌≡◌, ℕ, zero, suc, ◌+◌, ◌*◌, ◌<◌, ◌≤◌, Bool, true, false, cond, ◌&&◌, [], ◌∷◌, length, drop, ap, arith}
use Rattle.regress_lexer.specs.Source.{Source, bar, is_at}
use Rattle.regress_lexer.proofs.lemmas.After.{IsSuffix}
use Rattle.regress_parse.specs.Bound.{total, is_reference, nodes_at}

module _ (count : Source → ℕ) where
  total-drop : (n : ℕ) (t : Source) → total count (drop n t) ≤ total count t
  total-drop zero t = omega arith
  total-drop (suc n) [] = omega arith
  total-drop (suc n) (c ∷ t) = omega (arith, total-drop n t)

  -- The count of a suffix is at most that of the source.
  pub total-after : (t rest : Source) → IsSuffix t rest → total count rest ≤ total count t
  total-after t rest h = omega (arith, ap (total count) h.same, total-drop h.count t)

-- A shorter suffix of a source is a suffix of the source after its first code point.
pub after_first : (c : ℕ) (t rest : Source) → IsSuffix (c ∷ t) rest → length rest < length (c ∷ t) → IsSuffix t rest
after_first c t rest h shorter = by h.count h.same
  where
    by : (n : ℕ) → rest ≡ drop n (c ∷ t) → IsSuffix t rest
    by zero same = absurd (omega (arith, ap length same))
    by (suc n) same = record { count = n; same = same }

-- ---- nodes

some_counted : (a b d : Bool) (m : ℕ) → 1 ≤ cond a 2 (cond b 5 (cond d (2 * m + 1) 1))
some_counted true b d m = omega arith
some_counted false true d m = omega arith
some_counted false false true m = omega arith
some_counted false false false m = omega arith

-- Each code point is counted for at least one node.
pub nodes_at-some : (sets : Bool) (m : ℕ) (t : Source) → 1 ≤ nodes_at sets m t
nodes_at-some sets m t = some_counted (is_at bar t) (is_at 91 t && sets) (is_reference t) m

-- A shorter suffix has a lower count, by at least that of the first code point.
pub nodes-shorter : (sets : Bool) (m : ℕ) (t rest : Source) → IsSuffix t rest → length rest < length t →
    1 + total (nodes_at sets m) rest ≤ total (nodes_at sets m) t
nodes-shorter sets m [] rest h shorter = absurd (omega arith)
nodes-shorter sets m (c ∷ t) rest h shorter =
    omega (arith, nodes_at-some sets m (c ∷ t), total-after (nodes_at sets m) t rest (after_first c t rest h shorter))
