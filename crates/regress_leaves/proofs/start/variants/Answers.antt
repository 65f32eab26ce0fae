use Rattle.std.proofs.Common.{◌≡◌, [], ◌∷◌, sym, subst, ◌∙◌, true}
use Rattle.regress_tree.specs.Tree.{leaf, string_set}
use Rattle.regress_leaves.specs.Starts.{BeginsFolded}
use Rattle.regress_leaves.proofs.StringLemmas.{ascii_below, narrowed}
use Rattle.regress_leaves.proofs.lemmas.Starts.{ascii_variants, class_variants}
use Rattle.regress_leaves.proofs.start.variants.Goals as goal

pub returns-in-Some : goal.returns-in-Some
returns-in-Some c = λ rest. class_variants c.first_bytes_of.result c.in-Some.interval c.args.c rest c.in-Some.ensures c.first_bytes_of.ensures

pub returns-then-is_ascii : goal.returns-then-is_ascii
returns-then-is_ascii c = λ rest.
    let set = c.case_variants.result in
    let same : c.in_ok-c.c ≡ c.args.c = narrowed c.try_from.result _ _ c.in_ok-c.c c.try_from.ensures c.in_ok-c.ensures.value in
    subst (λ x. BeginsFolded set (leaf (string_set ((x ∷ rest) ∷ []) true))) same
    (ascii_variants set c.in_ok-c.c rest (ascii_below c.in_ok-c.c (sym c.is_ascii.ensures ∙ c.if-is_ascii.true)) c.case_variants.ensures)
