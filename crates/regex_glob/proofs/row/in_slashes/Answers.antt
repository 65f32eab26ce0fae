use Rattle.std.proofs.Common.{◌≡◌, ◌∙◌, ◌&&◌, ◌||◌, ◌+◌, Bool, ap, drop, eqb, false, get_or, sym, true}
use Rattle.regex_glob.specs.Row.{in_slashes}
use Rattle.regex_glob.proofs.RowLemmas.{slash_step}
use Rattle.regex_glob.proofs.row.in_slashes.Goals as goal

pub loop-index-preserved : goal.loop-index-preserved
loop-index-preserved c =
    let text = c.args.text.now in
    let row = c.args.row.now.items in
    let i = c.loop-index.index in
    let x = c.index.result.now in
    let none : (eqb (get_or text i 0) 47 && x) ≡ false = ap (λ slash. eqb (get_or text i 0) slash && x) (sym c.from.ensures) ∙ c.if-found.false in
    sym (slash_step text row c.requires i x c.loop-index-test.true c.index.ensures
    ∙ ap (λ (b : Bool). b || in_slashes (drop (i + 1) text) (drop (i + 1) row)) none)
    ∙ c.loop-index.invariant

pub returns-then-found : goal.returns-then-found
returns-then-found c =
    let text = c.args.text.now in
    let row = c.args.row.now.items in
    let i = c.loop-index.index in
    let x = c.index.result.now in
    let some : (eqb (get_or text i 0) 47 && x) ≡ true = ap (λ slash. eqb (get_or text i 0) slash && x) (sym c.from.ensures) ∙ c.if-found.true in
    sym (sym c.loop-index.invariant
    ∙ slash_step text row c.requires i x c.loop-index-test.true c.index.ensures
    ∙ ap (λ (b : Bool). b || in_slashes (drop (i + 1) text) (drop (i + 1) row)) some)
