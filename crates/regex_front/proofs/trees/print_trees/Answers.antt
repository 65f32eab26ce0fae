-- Both parts are printed from the code points of the pattern.
use Rattle.std.proofs.Common.{◌≡◌, subst, ◌∙◌, chars}
use Rattle.std.specs.Prelude.{OnOk}
use Rattle.regress_arguments.specs.Output.{Took}
use Rattle.regex_front.specs.Printed.{IsParsedText, IsOptimizedText}
use Rattle.regex_front.proofs.PrintingLemmas.{then_whole}
use Rattle.regex_front.proofs.trees.print_trees.Goals as goal

pub returns-clause-printed : goal.returns-clause-printed
returns-clause-printed g c =
    let text = chars c.args.pattern.now in
    let flags = c.args.flags in
    let result = c.print_optimized.result in
    let old = g.W.Write.contents c.args.out.now in
    let between = g.W.Write.contents c.print_parsed.new.out in
    let new = g.W.Write.contents c.print_optimized.new.out in
    let first : c.deref.result.now ≡ text = c.deref.ensures.value ∙ c.in_ok-points.ensures.characters in
    let second : c.deref-2.result.now ≡ text = c.deref-2.ensures.value ∙ c.in_ok-points.ensures.characters in
    then_whole (text, flags) result old between new
    (subst (λ t. Took old between (IsParsedText (t, flags))) first c.in_ok-print_parsed.ensures.printed)
    (subst (λ t. OnOk result (Took between new (IsOptimizedText (t, flags)))) second c.print_optimized.ensures.printed)
