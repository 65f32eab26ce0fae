-- Backreferences by number and by name.
use Rattle.std.proofs.Common.{⊎_elim, ◌≡◌, ◌≢◌, ℕ, ◌+◌, ◌-◌, ◌^◌, min, Bool, true, false, cond, ◌||◌, List, [], ◌∷◌, length, Option, Some, None, refl, sym, ap, ◌∙◌, arith}
use Rattle.std.proofs.lemmas.Bool.{cond-true, cond-false, cases_Bool, false≢true, ne_eqb}
use Rattle.regress_lexer.specs.Source.{Source, ◌>>=◌}
use Rattle.regress_lexer.specs.Digits.{is_decimal, number, front, after}
use Rattle.regress_lexer.specs.Escapes.{begins_with_digit}
use Rattle.regress_lexer.specs.Quantifiers.{count_at}
use Rattle.regress_lexer.proofs.lemmas.Digits.{front_digit}
use Rattle.regress_syntax.specs.Names.{group_name_at}
use Rattle.regress_syntax.specs.Productions.{Context, has_name, name_reference_at, named_target}
use Rattle.regress_syntax.specs.Syntax.{Name, is_named, back_reference, groups_named}

-- A saturating count decides whether a number is at most the number of groups.
pub count-is : (t : Source) → begins_with_digit t ≡ true →
    count_at t ≡ Some (min (number 10 (front is_decimal t)) (2 ^ 64 - 1), after is_decimal t)
count-is [] e = absurd (false≢true e)
count-is (c ∷ t) e =
    let some : length (front is_decimal (c ∷ t)) ≢ 0 = λ none. omega (arith, none, ap length (front_digit c t e)) in
    cond-false _ _ _ (ne_eqb (length (front is_decimal (c ∷ t))) 0 some)

abbrev is_empty : List ℕ → Bool
is_empty [] = true
is_empty (x ∷ xs) = false

-- Some group has a name exactly if a group is found by that name.
pub has_name-groups : (name : Name) (n : ℕ) (names : List (Option Name)) →
    (has_name name names ≡ true → groups_named name n names ≢ []) × (has_name name names ≡ false → groups_named name n names ≡ [])
has_name-groups name n [] = (λ e. absurd (false≢true e), λ e. refl)
has_name-groups name n (other ∷ names) = by (is_named name other) (has_name-groups name (n + 1) names)
  where
    by : (b : Bool) →
        (has_name name names ≡ true → groups_named name (n + 1) names ≢ []) ×
        (has_name name names ≡ false → groups_named name (n + 1) names ≡ []) →
        ((b || has_name name names) ≡ true → cond b (n ∷ groups_named name (n + 1) names) (groups_named name (n + 1) names) ≢ []) ×
        ((b || has_name name names) ≡ false → cond b (n ∷ groups_named name (n + 1) names) (groups_named name (n + 1) names) ≡ [])
    by true h = (λ e none. false≢true (ap is_empty none), λ e. absurd (false≢true (sym e)))
    by false h = h

module _ (ctx : Context) where
  -- The result after `\k`, once a name is parsed.
  pub named-some : (t : Source) (name : Name) (rest : Source) → group_name_at ctx.setting.table t ≡ Some (name, rest) →
      groups_named name 1 ctx.names ≢ [] → name_reference_at ctx t ≡ Some (back_reference ctx.setting.flags (named_target ctx.dialect name), rest)
  named-some t name rest found some =
      ap (λ found. found >>= λ (x : Name × Source).
      cond (has_name x.0 ctx.names) (Some (back_reference ctx.setting.flags (named_target ctx.dialect x.0), x.1)) None) found
      ∙ cond-true (has_name name ctx.names) _ _
      (⊎_elim (λ (has : has_name name ctx.names ≡ true). has)
      (λ (lacks : has_name name ctx.names ≡ false). absurd (some ((has_name-groups name 1 ctx.names).1 lacks)))
      (cases_Bool (has_name name ctx.names)))

  pub named-unknown : (t : Source) (name : Name) (rest : Source) → group_name_at ctx.setting.table t ≡ Some (name, rest) →
      groups_named name 1 ctx.names ≡ [] → name_reference_at ctx t ≡ None
  named-unknown t name rest found none =
      ap (λ found. found >>= λ (x : Name × Source).
      cond (has_name x.0 ctx.names) (Some (back_reference ctx.setting.flags (named_target ctx.dialect x.0), x.1)) None) found
      ∙ cond-false (has_name name ctx.names) _ _
      (⊎_elim (λ (has : has_name name ctx.names ≡ true). absurd ((has_name-groups name 1 ctx.names).0 has none))
      (λ (lacks : has_name name ctx.names ≡ false). lacks)
      (cases_Bool (has_name name ctx.names)))
