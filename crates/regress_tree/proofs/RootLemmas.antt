-- The survey of the root, where the goal is allowed, and the result of the whole pass.
use Rattle.std.proofs.Common.{◌≡◌, ℕ, ◌≤◌, ◌&&◌, nat_le, nat_lt, Bool, true, false, Option, Some, None, MatchOption, [], ◌++◌, length, max, refl, sym, ap, subst, ◌∙◌, le-leb, leb-true, arith}
use Rattle.std.specs.Prelude.{if◌then◌else◌}
use Rattle.std.proofs.lemmas.Bool.{false≢true, cond-true, cond-false, and_parts}
use Rattle.regress_tree.specs.declared.ir.groups.GroupIds.{GroupIds}
use Rattle.regress_tree.specs.declared.ir.groups.Tally.{Tally}
use Rattle.regress_tree.specs.NodeTests.{is_goal}
use Rattle.regress_tree.specs.Shapes.{is_cat}
use Rattle.regress_tree.specs.Tree.{Tree, Trees, leaf, cat, alt, wrapped, no_trees, more_trees, append_trees}
use Rattle.regress_tree.specs.WellFormed.{captures, captures_of_trees, inside, last, root, IsAllowed, PartsAllowed, IsWellFormed}
use Rattle.regress_tree.specs.Survey.{holds, times_held, reference, reference_in_list, fill, SurveyedAt, RejectedAt, without_goal}
use Rattle.regress_tree.proofs.lemmas.Goal.{goal-is, leaf-inside, last-inside}
use Rattle.regress_tree.proofs.lemmas.Lists.{IsAllowed-from_last, PartsAllowed-more, PartsAllowed-parts}
use Rattle.regress_tree.proofs.IdLemmas.{all-has, has-all}
use Rattle.regress_tree.proofs.SurveyLemmas.{IsSurveyed-as, IsRejected-as, differ-held}
use Rattle.regress_tree.proofs.OccurringLemmas.{IsAllowed-bounded, IsAllowed-at}

-- ---- the goal at the end

pub drop-goal : (us : Trees) (t : Tree) → is_goal t ≡ true → without_goal (append_trees us (more_trees t no_trees)) ≡ us
drop-goal no_trees t e = cond-true _ no_trees (more_trees t no_trees) e
drop-goal (more_trees u no_trees) t e = ap (more_trees u) (cond-true _ no_trees (more_trees t no_trees) e)
drop-goal (more_trees u (more_trees v vs)) t e = ap (more_trees u) (drop-goal (more_trees v vs) t e)

pub keep-last : (us : Trees) (t : Tree) → is_goal t ≡ false →
    without_goal (append_trees us (more_trees t no_trees)) ≡ append_trees us (more_trees t no_trees)
keep-last no_trees t e = cond-false _ no_trees (more_trees t no_trees) e
keep-last (more_trees u no_trees) t e = ap (more_trees u) (cond-false _ no_trees (more_trees t no_trees) e)
keep-last (more_trees u (more_trees v vs)) t e = ap (more_trees u) (keep-last (more_trees v vs) t e)

root-inside : (n : ℕ) (t : Tree) → is_goal t ≡ false → is_cat t ≡ false → IsAllowed n t root → IsAllowed n t inside
root-inside n (leaf l) e f m = leaf-inside n l root e m
root-inside n (cat parts) e f m = absurd (false≢true (sym f))
root-inside n (alt left right) e f m = m
root-inside n (wrapped w body) e f m = m

inside-root : (n : ℕ) (t : Tree) → IsAllowed n t inside → IsAllowed n t root
inside-root n t m = IsAllowed-from_last n t root tt (IsAllowed-from_last n t last tt m)

-- a list of one part, or the empty list if that is the goal
abbrev but_goal : Bool → Tree → Trees
but_goal goes t = if goes then no_trees else more_trees t no_trees

one-last : (n : ℕ) (t : Tree) (goes : Bool) → is_goal t ≡ goes → PartsAllowed n (but_goal goes t) inside → IsAllowed n t last
one-last n t true e m = subst (λ x. IsAllowed n x last) (sym (goal-is t e)) tt
one-last n t false e m = IsAllowed-from_last n t last tt m

last-one : (n : ℕ) (t : Tree) (goes : Bool) → is_goal t ≡ goes → IsAllowed n t last → PartsAllowed n (but_goal goes t) inside
last-one n t true e m = tt
last-one n t false e m = last-inside n t e m

list-last : (n : ℕ) (ts : Trees) → PartsAllowed n (without_goal ts) inside → PartsAllowed n ts last
list-last n no_trees m = tt
list-last n (more_trees t no_trees) m = one-last n t (is_goal t) refl m
list-last n (more_trees t (more_trees u us)) m =
    let parts = PartsAllowed-parts n t (without_goal (more_trees u us)) m in
    (parts.0, list-last n (more_trees u us) parts.1)

last-list : (n : ℕ) (ts : Trees) → PartsAllowed n ts last → PartsAllowed n (without_goal ts) inside
last-list n no_trees m = tt
last-list n (more_trees t no_trees) m = last-one n t (is_goal t) refl m
last-list n (more_trees t (more_trees u us)) m =
    PartsAllowed-more n t (without_goal (more_trees u us)) inside m.0 (last-list n (more_trees u us) m.1)

captures-one : (t : Tree) (goes : Bool) → is_goal t ≡ goes → captures_of_trees (but_goal goes t) ≡ captures_of_trees (more_trees t no_trees)
captures-one t true e = ap (λ x. captures x ++ []) (sym (goal-is t e))
captures-one t false e = refl

captures-without : (ts : Trees) → captures_of_trees (without_goal ts) ≡ captures_of_trees ts
captures-without no_trees = refl
captures-without (more_trees t no_trees) = captures-one t (is_goal t) refl
captures-without (more_trees t (more_trees u us)) = ap (λ cs. captures t ++ cs) (captures-without (more_trees u us))

reference-one : (t : Tree) (goes : Bool) → is_goal t ≡ goes → reference_in_list (but_goal goes t) ≡ reference_in_list (more_trees t no_trees)
reference-one t true e = ap (λ x. max (reference x) 0) (sym (goal-is t e))
reference-one t false e = refl

reference-without : (ts : Trees) → reference_in_list (without_goal ts) ≡ reference_in_list ts
reference-without no_trees = refl
reference-without (more_trees t no_trees) = reference-one t (is_goal t) refl
reference-without (more_trees t (more_trees u us)) = ap (λ r. max (reference t) r) (reference-without (more_trees u us))

-- ---- the whole pass

pub cat-passes : (ts : Trees) (before after : GroupIds) (g : Tally) → SurveyedAt inside (cat (without_goal ts)) before after g →
    SurveyedAt root (cat ts) before after g
cat-passes ts before after g p =
    IsSurveyed-as _ _ _ (λ s. (s.0, (tt, list-last s.0 ts s.1.1))) (captures-without ts) (reference-without ts) p

pub cat-fails : (ts : Trees) (before : GroupIds) → RejectedAt inside (cat (without_goal ts)) before → RejectedAt root (cat ts) before
cat-fails ts before f = IsRejected-as _ _ (λ s. (s.0, (tt, last-list s.0 ts s.1.1))) (captures-without ts) f

pub other-passes : (t : Tree) (before after : GroupIds) (g : Tally) → SurveyedAt inside t before after g → SurveyedAt root t before after g
other-passes t before after g p = IsSurveyed-as _ _ _ (λ s. (s.0, inside-root s.0 t s.1)) refl refl p

pub other-fails : (t : Tree) (before : GroupIds) → is_goal t ≡ false → is_cat t ≡ false → RejectedAt inside t before → RejectedAt root t before
other-fails t before e f fails = IsRejected-as _ _ (λ s. (s.0, root-inside s.0 t e f s.1)) refl fails

abbrev one_if : Bool → ℕ
one_if b = if b then 1 else 0

from-zero : (k n : ℕ) → one_if (nat_le 0 k && nat_lt k n) ≡ one_if (nat_lt k n)
from-zero k n = ap (λ b. one_if (b && nat_lt k n)) (le-leb 0 k (omega arith))

pub well_formed-from : (t : Tree) (before after : GroupIds) (g : Tally) → SurveyedAt root t before after g → fill 0 g.count g ≡ true →
    g.reference ≤ g.count → IsWellFormed t
well_formed-from t before after g p full low =
    let all = all-has g (captures t) (reference t) p.reported (differ-held before after (captures t) p.ids) full in
    let rest = and_parts (nat_le 0 g.least) _ full in
    let past = and_parts (nat_le g.past g.count) _ rest.1 in
    record {
      occurs = IsAllowed-at p.occurs.0 (length (captures t)) t root p.occurs.1 (record {
        references = omega (arith, all.0, low, p.reported.reference);
        ids = omega (arith, all.0, leb-true g.past g.count past.0, p.reported.past);
      });
      ids = λ k. all.1 k ∙ from-zero k (length (captures t));
    }

pub from-well_formed : (t : Tree) (before after : GroupIds) (g : Tally) → SurveyedAt root t before after g → IsWellFormed t →
    (fill 0 g.count g ≡ true) × (g.reference ≤ g.count)
from-well_formed t before after g p w =
    let all = has-all g (captures t) (reference t) p.reported (λ k. w.ids k ∙ sym (from-zero k (length (captures t)))) in
    let bounded = IsAllowed-bounded (length (captures t)) t root w.occurs in
    (all.1, omega (arith, all.0, bounded.references, p.reported.reference))

pub fails-well_formed : (t : Tree) (before : GroupIds) → ((k : ℕ) → holds before k ≡ false) → RejectedAt root t before → IsWellFormed t → ⊥
fails-well_formed t before none fails w =
    fails.refuted (length (captures t), w.occurs)
    (λ k. let held : times_held before k ≡ 0 = ap one_if (none k) in
    omega (arith, held, w.ids k, at_most_one (nat_lt k (length (captures t)))))
  where
    at_most_one : (b : Bool) → one_if b ≤ 1
    at_most_one true = omega arith
    at_most_one false = omega arith

pub MatchOption-as : {T : Type 0} (r : Option T) (P P' : Type 0) (Q Q' : T → Type 0) → (P → P') → ((x : T) → Q x → Q' x) →
    MatchOption r P Q → MatchOption r P' Q'
MatchOption-as None P P' Q Q' p q m = p m
MatchOption-as (Some x) P P' Q Q' p q m = q x m
