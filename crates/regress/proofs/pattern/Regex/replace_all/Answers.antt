use Rattle.std.proofs.Common.{ap₂, map, ◌∙◌}
use Rattle.regress_match.specs.Pattern.{capture_of}
use Rattle.regress_replace.specs.Expansion.{expansion}
use Rattle.regress_replace.specs.Replaced.{replaced}
use Rattle.regress.proofs.pattern.Regex.replace_all.Goals as goal

pub returns-clause-replaced : goal.returns-clause-replaced
returns-clause-replaced c =
    let text = c.args.text.now in
    record {
      matches = c.in_ok-matches.matches.items;
      all = c.in_ok-matches.ensures.all;
      is = c.in_ok-replace_matches.ensures
          ∙ ap₂ (λ gs ms. replaced text (λ m. expansion text m (map capture_of gs) c.args.template.now) 0 ms) c.deref-2.ensures.value
          c.deref.ensures.value;
    }
