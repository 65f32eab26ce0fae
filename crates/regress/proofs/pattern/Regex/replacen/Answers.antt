use Rattle.std.proofs.Common.{ap₂, arith, map, ◌∙◌}
use Rattle.regress_match.specs.Pattern.{capture_of}
use Rattle.regress_replace.specs.Expansion.{expansion}
use Rattle.regress_replace.specs.Replaced.{replaced}
use Rattle.regress.proofs.pattern.Regex.replacen.Goals as goal

pub returns-clause-replaced : goal.returns-clause-replaced
returns-clause-replaced c =
    let text = c.args.text.now in
    record {
      matches = c.in_ok-matches.matches.items;
      first = c.in_ok-matches.ensures.first;
      is = c.in_ok-replaced.ensures
          ∙ ap₂ (λ gs ms. replaced text (λ m. expansion text m (map capture_of gs) c.args.template.now) 0 ms) c.deref-2.ensures.value
          c.deref.ensures.value;
      counted = omega (arith, c.len.ensures);
    }
