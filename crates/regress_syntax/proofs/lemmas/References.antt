-- Backreferences by number.
use Rattle.std.proofs.Common.{◌≡◌, ℕ, nat_le, ◌∷◌, Some, ap, ◌∙◌}
use Rattle.std.proofs.lemmas.Bool.{cond-true}
use Rattle.std.proofs.lemmas.Option.{cond_some}
use Rattle.regress_lexer.specs.Source.{Source}
use Rattle.regress_lexer.specs.Digits.{is_decimal, number, front}
use Rattle.regress_lexer.proofs.lemmas.After.{after_front, Ends, ends_none, ends_some, ends_cond}
use Rattle.regress_syntax.specs.Numbering.{group_number_at}
use Rattle.regress_syntax.specs.Productions.{Context, number_reference_at}
use Rattle.regress_syntax.specs.Syntax.{by_number, back_reference}

pub group_number_at-ends : (groups : ℕ) (t : Source) → Ends (group_number_at groups t) t
group_number_at-ends groups t = ends_cond _ _ _ t (ends_some _ t (after_front is_decimal t)) (ends_none t)

module _ (ctx : Context) where
  pub numbered-some : (c : ℕ) (t : Source) (k : ℕ) (rest : Source) → group_number_at ctx.groups (c ∷ t) ≡ Some (k, rest) →
      number_reference_at ctx c t ≡ Some (back_reference ctx.setting.flags (by_number k), rest)
  numbered-some c t k rest found =
      let p = cond_some (nat_le (number 10 (front is_decimal (c ∷ t))) ctx.groups) _ (k, rest) found in
      cond-true _ _ _ p.0 ∙ ap (λ (x : ℕ × Source). Some (back_reference ctx.setting.flags (by_number x.0), x.1)) p.1
