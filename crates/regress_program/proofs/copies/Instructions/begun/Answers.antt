-- The copies before the index start at the instruction or before, and the others after it.
use Rattle.std.proofs.Common.{◌≡◌, List, leb, take, rules, arith, subst, sym}
use Rattle.std.proofs.lemmas.List.Sorted.{IsPartitionPoint-from_clause, IsPartitionedBy-leb, IsNonDecreasingBy-take}
use Rattle.std.specs.List.Sorted.{IsNonDecreasingBy}
use Rattle.regress_program.specs.Listed.{IsBegun}
use Rattle.regress_program.specs.declared.copies.Copies.{Copies}
use Rattle.regress_program.proofs.FindLemmas.{starts-rise, begun-found}
use Rattle.regress_program.proofs.copies.Instructions.begun.Goals as goal

pub returns : goal.returns
returns c =
    let is = c.args.self.now in
    let same : c.deref.result.now ≡ is.copies.items = c.deref.ensures.value in
    let rise = subst (λ (rs : List Copies). IsNonDecreasingBy (λ (r : Copies). r.start) rs) (sym same) (starts-rise is.stored.items is.copies.items is.are) in
    let parted = IsPartitionedBy-leb (λ (r : Copies). r.start) (take c.args.count c.deref.result.now) c.args.pc
    (IsNonDecreasingBy-take (λ (r : Copies). r.start) c.args.count c.deref.result.now rise) in
    let point = IsPartitionPoint-from_clause (λ (r : Copies). leb r.start c.args.pc) _ _ c.partition_point.ensures.partitioned parted (λ a r q k. search rules) in
    subst (λ (rs : List Copies). IsBegun rs c.args.count c.args.pc c.partition_point.result) same
    (begun-found c.deref.result.now c.args.count c.args.pc c.partition_point.result point c.partition_point.ensures.bound (omega (arith, c.deref.ensures.len)))
