use Rattle.std.proofs.Common.{rules, ◌≡◌, ◌-◌, false, length, refl, sym, subst}
use Rattle.regress_strings.specs.Contents.{contents}
use Rattle.regress_code.specs.declared.rows.Row.{Row}
use Rattle.regress_code.specs.Rows.{AreChoices, AreRows, IsRow}
use Rattle.regress_code.proofs.ListLemmas.{pushed}
use Rattle.regress_code.proofs.rows.push_row.Goals as goal

pub returns : goal.returns
returns c = λ folds leaves instructions are choices.
    let count : length c.args.strings.items ≡ c.len-2.result = search rules in
    let row : Row = record { lowest = c.args.end - length c.args.strings.items; strings = c.in_ok-strings.strings } in
    subst (λ rows. AreRows folds rows leaves instructions false) (sym c.in_ok-push.ensures.items)
    (pushed (λ i r. IsRow folds leaves instructions false r) c.args.rows.now.items _ are
    (record {
      forwards = refl;
      choices = subst (AreChoices folds leaves instructions _) (sym c.in_ok-strings.ensures) (subst (λ k. AreChoices folds leaves instructions (c.args.end - k) (contents c.args.strings.items)) count choices);
    }))
