-- The results of the two parts of a run.
use Rattle.std.proofs.Common.{ℕ, List, ◌++◌, Option, ap₂}
use Rattle.std.specs.Prelude.{Result, Ok, Err, OnOk}
use Rattle.regex_front.specs.declared.failure.Failure.{Failure}
use Rattle.regress_arguments.specs.Output.{Took}
use Rattle.regress_arguments.specs.Request.{Request}
use Rattle.regress_arguments.proofs.lemmas.Output.{appends_both}
use Rattle.regex_front.specs.Printed.{IsParsedText, IsOptimizedText, IsOutput}

-- both parts are the whole output
whole_output : (request : Request) (old between new : Option (List ℕ)) → Took old between (IsParsedText request) →
    Took between new (IsOptimizedText request) → Took old new (IsOutput request)
whole_output request old between new first second = (
  first.0 ++ second.0,
  record {
    pattern = first.1.pattern;
    accepted = first.1.accepted;
    optimized = second.1.optimized;
    good = second.1.good first.1.pattern first.1.accepted;
    text = ap₂ (λ xs ys. xs ++ ys) first.1.text second.1.text;
  },
  appends_both old between new first.0 second.0 first.2 second.2,
)

-- the second part after the first, if it is written
pub then_whole : (request : Request) (r : Result (Unit {0}) Failure) (old between new : Option (List ℕ)) →
    Took old between (IsParsedText request) → OnOk r (Took between new (IsOptimizedText request)) → OnOk r (Took old new (IsOutput request))
then_whole request (Ok done) old between new first second = whole_output request old between new first second
then_whole request (Err failure) old between new first second = tt
