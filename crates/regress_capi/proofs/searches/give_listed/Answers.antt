use Rattle.std.proofs.Common.{◌≡◌, ◌++◌, ◌∙◌, ap, subst}
use Rattle.regress.specs.Compiled.{match_of}
use Rattle.regress_capi.specs.SearchResults.{SearchResult, out_of_memory}
use Rattle.regress_capi.specs.Spans.{match_ends}
use Rattle.regress_capi.proofs.searches.give_listed.Goals as goal

pub returns-in-Ok : goal.returns-in-Ok
returns-in-Ok c =
    subst (λ xs. SearchResult (Unit {0}) (λ numbers. numbers ≡ xs) ⊥ ⊥ ⊥ c.args.buffer.now c.give.result c.give.new.needed c.give.new.buffer)
    (c.in-Ok.ensures ∙ ap (λ xs. xs ++ match_ends (match_of c.args.found.now)) c.new-ends.ensures.items) c.give.ensures

pub returns : goal.returns
returns c = out_of_memory tt
