use Rattle.std.proofs.Common.{rules}
use Rattle.std.proofs.lemmas.Cmp.{nat_list_cmp_total}
use Rattle.std.proofs.lemmas.List.Sorted.{answers_always, ranks_by}
use Rattle.std.proofs.lemmas.Result.{on_ok_weaker}
use Rattle.regress_syntax.specs.Scanning.{is_before}
use Rattle.regress_syntax.specs.declared.scan.scanner.NamedGroup.{NamedGroup}
use Rattle.regress_syntax.proofs.scan.scanner.sort_by_name.Goals as goal

pub returns-clause-sorted : goal.returns-clause-sorted
returns-clause-sorted c =
    on_ok_weaker c.sort_by.result
    (λ sorted. sorted is_before (ranks_by nat_list_cmp_total (λ (g : NamedGroup). g.name.items)) (answers_always _ _ _ (λ f a r g h. search rules)))
    c.sort_by.ensures.sorted

pub returns-clause-stable : goal.returns-clause-stable
returns-clause-stable c =
    c.sort_by.ensures.stable is_before (ranks_by nat_list_cmp_total (λ (g : NamedGroup). g.name.items)) (answers_always _ _ _ (λ f a r g h. search rules))
