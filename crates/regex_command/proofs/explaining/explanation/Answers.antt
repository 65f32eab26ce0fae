use Rattle.std.proofs.Common.{ℕ, List, Option, Some, None, Bor, refl, sym, subst}
use Rattle.std.specs.Option.{option_map}
use Rattle.regress_explain.specs.Page.{IsPageOf}
use Rattle.regex_lines.specs.Ending.{setting_in}
use Rattle.regex_command.specs.Patterns.{IsMarkedText}
use Rattle.regex_command.proofs.explaining.explanation.Goals as goal

pub returns-in_ok-page_line-in-Page-None-clause-form : goal.returns-in_ok-page_line-in-Page-None-clause-form
returns-in_ok-page_line-in-Page-None-clause-form c =
    let pattern = c.args.pattern in
    let page = c.in_ok-page_line-in-Page-None.ensures in
    let none = rw c.in-Page-None.is at c.in-Page-None.field-0-is in
    rw c.in-Page-None.is (record {
      marked = None;
      matches = subst
          (λ (text : Option (Bor (List ℕ))). IsMarkedText pattern.dialect (setting_in pattern.dialect pattern.flags) pattern.text.now
          (option_map (λ t. t.now) text) None)
          (sym none) refl;
      html = page.0;
      is = subst (λ (points : List ℕ). IsPageOf points None page.0) c.requires.characters page.1;
      line = page.2;
    })

pub returns-in_ok-page_line-in-Page-Some-clause-form : goal.returns-in_ok-page_line-in-Page-Some-clause-form
returns-in_ok-page_line-in-Page-Some-clause-form c =
    let pattern = c.args.pattern in
    let page = rw c.deref.ensures.value at c.in_ok-page_line-in-Page-Some.ensures in
    let text = c.in-Page-Some.text.now in
    let ranges = c.in_ok-found-in-Page-Some.found.ranges.items in
    let some = rw c.in-Page-Some.is at c.in-Page-Some.field-0-is in
    rw c.in-Page-Some.is (record {
      marked = Some (text, ranges);
      matches = subst
          (λ (given : Option (Bor (List ℕ))). IsMarkedText pattern.dialect (setting_in pattern.dialect pattern.flags) pattern.text.now
          (option_map (λ t. t.now) given) (Some (text, ranges))) (sym some) (ranges, c.in_ok-found-in-Page-Some.ensures.ranges, refl);
      html = page.0;
      is = subst (λ (points : List ℕ). IsPageOf points (Some (text, ranges)) page.0) c.requires.characters page.1;
      line = page.2;
    })
