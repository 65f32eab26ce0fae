-- The bound on the number of nodes, and how tight it is.
use Rattle.std.proofs.Common.{◌≡◌, ℕ, ◌+◌, ◌*◌, ◌≤◌, ◌==◌, Bool, true, false, cond, ◌&&◌, [], ◌∷◌, length, refl, sym, subst, arith, ◌<◌, ◌⊎◌, inl, inr, zero, suc, min, ap}
use Rattle.std.proofs.lemmas.Bool.{eqb-true, and_parts, cases_lt}
use Rattle.regress_base.specs.declared.types.Flags.{Flags}
use Rattle.regress_tree.specs.Reading.{forwards}
use Rattle.regress_tree.specs.Visits.{nodes}
use Rattle.regress_tree.specs.Steps.{Setting}
use Rattle.regress_lexer.specs.Source.{Source, bar, is_at}
use Rattle.regress_syntax.specs.Syntax.{Name, Pattern, names, groups_named}
use Rattle.regress_parse.specs.TreeOf.{tree_of}
use Rattle.regress_lexer.specs.declared.dialect.Dialect.{Dialect}
use Rattle.regress_parse.specs.Accepted.{own_context_in, IsDerivedIn}
use Rattle.regress_parse.specs.Bound.{total, positions, opens_name, is_reference, nodes_at, node_bound, HasAtMost}
use Rattle.regress_parse.proofs.BoundOfNames.{groups_named-few, names-pattern}
use Rattle.regress_parse.proofs.BoundOfNodes.{pattern-nodes}

tree-nodes : (dialect : Dialect) (setting : Setting) (t : Source) (p : Pattern) → IsDerivedIn dialect setting t p →
    nodes (tree_of setting.table p) ≤ node_bound setting.flags.unicode_sets t
tree-nodes dialect setting t p derived =
    let ctx = own_context_in dialect setting p in
    let most = positions opens_name t in
    let all = names-pattern ctx p t [] derived in
    let few : (name : Name) → length (groups_named name 1 (names p)) ≤ most = λ name. omega (arith, groups_named-few name 1 (names p), all) in
    omega (
      arith,
      pattern-nodes setting.table most (setting.flags.unicode_sets, names p) few ctx forwards 0 p t [] refl derived,
    )

pub bounded : (flags : Flags) (t : Source) → HasAtMost flags t (node_bound flags.unicode_sets t)
bounded flags t dialect table p derived = tree-nodes dialect (record { flags = flags; table = table }) t p derived

-- ---- the bound by three counts

-- The nodes of a reference by name beyond those of any other code point.
nodes-referred : (sets : Bool) (m : ℕ) (t : Source) → nodes_at sets m t ≡ nodes_at sets 0 t + 2 * (m * cond (is_reference t) 1 0)
nodes-referred sets m [] = omega arith
nodes-referred sets m (c ∷ t) = by (is_reference (c ∷ t)) refl
  where
    other : (a b : Bool) → cond {A = ℕ} a 2 (cond b 5 1) ≡ cond a 2 (cond b 5 1) + 2 * (m * 0)
    other true b = omega arith
    other false true = omega arith
    other false false = omega arith

    here : (d : ℕ) → d ≡ 92 → is_reference (d ∷ t) ≡ true → nodes_at sets m (d ∷ t) ≡ nodes_at sets 0 (d ∷ t) + 2 * (m * cond (is_reference (d ∷ t)) 1 0)
    here d same is =
        subst (λ e. is_reference (e ∷ t) ≡ true → nodes_at sets m (e ∷ t) ≡ nodes_at sets 0 (e ∷ t) + 2 * (m * cond (is_reference (e ∷ t)) 1 0))
        (sym same) (λ there. rw there (omega arith)) is

    by : (b : Bool) → is_reference (c ∷ t) ≡ b → nodes_at sets m (c ∷ t) ≡ nodes_at sets 0 (c ∷ t) + 2 * (m * cond (is_reference (c ∷ t)) 1 0)
    by true is = here c (eqb-true c 92 (and_parts (c == 92) (is_at 107 t) is).0) is
    by false is = rw is (other (is_at bar (c ∷ t)) (is_at 91 (c ∷ t) && sets))

total-referred : (sets : Bool) (m : ℕ) (t : Source) →
    total (nodes_at sets m) t ≡ total (nodes_at sets 0) t + 2 * (m * positions is_reference t)
total-referred sets m [] = omega arith
total-referred sets m (c ∷ t) = omega (arith, nodes-referred sets m (c ∷ t), total-referred sets m t, distribute)
  where
    distribute : m * (cond {A = ℕ} (is_reference (c ∷ t)) 1 0 + positions is_reference t)
        ≡ m * cond {A = ℕ} (is_reference (c ∷ t)) 1 0 + m * positions is_reference t
    distribute = omega arith

pub bound-counted : (sets : Bool) (t : Source) →
    node_bound sets t ≡ 3 + total (nodes_at sets 0) t + 2 * (positions opens_name t * positions is_reference t)
bound-counted sets t = omega (arith, total-referred sets (positions opens_name t) t)

-- ---- how tight the bound is

position_near : (a b d : Bool) (m k : ℕ) (n : ℕ) (x : ℕ) → x ≤ 5 * n + 2 * (m * k) →
    cond a 2 (cond b 5 (cond d (2 * m + 1) 1)) + x ≤ 5 * (1 + n) + 2 * (m * (cond d 1 0 + k))
position_near true b true m k n x h = omega arith
position_near true b false m k n x h = omega arith
position_near false true true m k n x h = omega arith
position_near false true false m k n x h = omega arith
position_near false false true m k n x h = omega arith
position_near false false false m k n x h = omega arith

total-near : (sets : Bool) (m : ℕ) (t : Source) → total (nodes_at sets m) t ≤ 5 * length t + 2 * (m * positions is_reference t)
total-near sets m [] = omega arith
total-near sets m (c ∷ t) =
    omega (
      arith,
      position_near (is_at bar (c ∷ t)) (is_at 91 (c ∷ t) && sets) (is_reference (c ∷ t)) m (positions is_reference t) (length t)
          (total (nodes_at sets m) t) (total-near sets m t),
    )

pub bound-near : (sets : Bool) (t : Source) →
    node_bound sets t ≤ 3 + 5 * length t + 2 * (positions opens_name t * positions is_reference t)
bound-near sets t = omega (arith, total-near sets (positions opens_name t) t)

-- ---- the bound as it is computed

-- A doubled factor may be capped before it is multiplied, since a product by 1 or more is not below it.
pub capped : (most a r x : ℕ) → x ≡ min (a * 2) most → min (x * r) most ≡ min (2 * (a * r)) most
capped most a zero x is = omega arith
capped most a (suc r) x is = by (cases_lt most (a * 2))
  where
    by : (most < a * 2) ⊎ (a * 2 ≤ most) → min (x * suc r) most ≡ min (2 * (a * suc r)) most
    by (inl more) = let same : x * suc r ≡ most * suc r = ap (λ k. k * suc r) (omega (arith, is, more)) in omega (arith, same, more)
    by (inr less) = let same : x * suc r ≡ (a * 2) * suc r = ap (λ k. k * suc r) (omega (arith, is, less)) in omega (arith, same)
