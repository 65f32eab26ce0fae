use Rattle.std.proofs.Common.{◌≡◌, ◌+◌, ◌-◌, ◌≤◌, ℕ, List, length, slice_get, Some, None, inl, inr, sym, ap, ◌∙◌, arith}
use Rattle.std.proofs.lemmas.List.{get_or_past}
use Rattle.std.proofs.lemmas.Option.{slice_get_cases}
use Rattle.regress_tables.specs.Numbers.{numbers_of}
use Rattle.regress_tables.proofs.table.Table.number_of.Goals as goal

-- an index without a number is past the end
past : (xs : List ℕ) (i : ℕ) → slice_get xs i ≡ None → length xs ≤ i
past xs i none =
    elim (slice_get_cases xs i).1 [
      | inl here ↦ absurd (let other : Some here.0 ≡ None = sym here.2 ∙ none in cc)
      | inr end ↦ end.0
    ]

pub returns-in-None-clause-value : goal.returns-in-None-clause-value
returns-in-None-clause-value c =
    let t = c.args.self.now in
    let row = c.args.row in
    let end = past (numbers_of t.rows) row (sym c.get.ensures.value ∙ c.in-None.is) in
    ap (λ n. t.distinct + (row - n)) c.len.ensures ∙ sym (get_or_past (numbers_of t.rows) row (t.distinct + (row - length (numbers_of t.rows))) end)

pub returns-in-None-clause-within : goal.returns-in-None-clause-within
returns-in-None-clause-within c =
    let t = c.args.self.now in
    let end = past (numbers_of t.rows) c.args.row (sym c.get.ensures.value ∙ c.in-None.is) in
    omega (arith, t.few, c.requires, c.len.ensures, end)
