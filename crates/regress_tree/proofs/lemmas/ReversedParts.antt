-- Reversed lists of trees.
use Rattle.std.proofs.Common.{◌≡◌, ℕ, List, [], ◌++◌, flat_map, refl, sym, ap, subst, ◌∙◌, append-nil}
use mathlib.Core.Path.{fun_ext}
use Rattle.std.specs.List.Sorted.{IsPermutation}
use Rattle.std.proofs.lemmas.List.Sorted.{IsPermutation-refl, IsPermutation-trans, IsPermutation-append_comm, IsPermutation-append_left}
use Rattle.regress_tree.specs.Reading.{Direction}
use Rattle.regress_tree.specs.Steps.{MatchState, ◌then_◌, Setting}
use Rattle.regress_tree.specs.Tree.{Tree, Trees, no_trees, more_trees, append_trees, reverse_trees}
use Rattle.regress_tree.specs.Matching.{steps, steps_of_parts}
use Rattle.regress_tree.specs.WellFormed.{captures, captures_of_trees, inside, PartsAllowed}
use Rattle.regress_tree.proofs.lemmas.Outcomes.{flat_map-stay}
use Rattle.regress_tree.proofs.lemmas.Lists.{append_trees-none, append_trees-assoc, steps-append, captures-append, PartsAllowed-append}

pub reverse_trees-append : (ts us : Trees) → reverse_trees (append_trees ts us) ≡ append_trees (reverse_trees us) (reverse_trees ts)
reverse_trees-append no_trees us = sym (append_trees-none (reverse_trees us))
reverse_trees-append (more_trees t ts) us =
    ap (λ vs. append_trees vs (more_trees t no_trees)) (reverse_trees-append ts us)
    ∙ append_trees-assoc (reverse_trees us) (reverse_trees ts) (more_trees t no_trees)

pub reverse_trees-twice : (ts : Trees) → reverse_trees (reverse_trees ts) ≡ ts
reverse_trees-twice no_trees = refl
reverse_trees-twice (more_trees t ts) =
    reverse_trees-append (reverse_trees ts) (more_trees t no_trees) ∙ ap (more_trees t) (reverse_trees-twice ts)

-- A reversed list matches as the reversed rest and then the first part.
pub steps-reverse_trees : (setting : Setting) (bytes : List ℕ) (d : Direction) (t : Tree) (ts : Trees) (s : MatchState) →
    steps_of_parts setting bytes d (reverse_trees (more_trees t ts)) s
    ≡ (steps_of_parts setting bytes d (reverse_trees ts) then_ steps setting bytes d t) s
steps-reverse_trees setting bytes d t ts s =
    steps-append setting bytes d (reverse_trees ts) (more_trees t no_trees) s
    ∙ ap (λ f. flat_map f (steps_of_parts setting bytes d (reverse_trees ts) s)) (fun_ext (λ u. flat_map-stay (steps setting bytes d t u)))

-- A reversed list has the same capture groups.
pub captures-reverse_trees : (ts : Trees) → IsPermutation (captures_of_trees ts) (captures_of_trees (reverse_trees ts))
captures-reverse_trees no_trees = IsPermutation-refl []
captures-reverse_trees (more_trees t ts) =
    subst (IsPermutation (captures t ++ captures_of_trees ts))
    (sym (captures-append (reverse_trees ts) (more_trees t no_trees)
    ∙ ap (λ cs. captures_of_trees (reverse_trees ts) ++ cs) (append-nil (captures t))))
    (IsPermutation-trans _ _ _
    (IsPermutation-append_comm (captures t) (captures_of_trees ts))
    (IsPermutation-append_left (captures t) _ _ (captures-reverse_trees ts)))

-- A reversed list is allowed where the list is.
pub PartsAllowed-reverse_trees : (n : ℕ) (ts : Trees) → PartsAllowed n ts inside → PartsAllowed n (reverse_trees ts) inside
PartsAllowed-reverse_trees n no_trees m = tt
PartsAllowed-reverse_trees n (more_trees t no_trees) m = m
PartsAllowed-reverse_trees n (more_trees t (more_trees u us)) m =
    PartsAllowed-append n (reverse_trees (more_trees u us)) (more_trees t no_trees) inside
    (PartsAllowed-reverse_trees n (more_trees u us) m.1) m.0
