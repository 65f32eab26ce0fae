-- Where names in conflict are reported.
use Rattle.std.proofs.Common.{◌-◌, length, sym, ◌∙◌}
use Rattle.std.proofs.lemmas.Bool.{true≢false}
use Rattle.regress_tree.specs.Steps.{Setting}
use Rattle.regress_lexer.specs.declared.fault.Fault.{Fault}
use Rattle.regress_lexer.specs.declared.fault.Fault.TheVariants.{Rejected, Memory}
use Rattle.regress_lexer.specs.Source.{Source}
use Rattle.regress_syntax.specs.Paths.{NoTokensConflict}
use Rattle.regress_syntax.specs.Scan.{plain, tokens}
use Rattle.regress_syntax.specs.Scanning.{IsAtDuplicate, OnKindAt}
use Rattle.regress_parse.specs.Settled.{IsAtFirstDuplicate}

-- The scan reports the first name in conflict.
pub reported_by_scan : (setting : Setting) (t : Source) (fault : Fault) → OnKindAt fault (IsAtDuplicate setting.flags.unicode_sets setting.table t) →
    OnKindAt fault (λ kind left. IsAtFirstDuplicate setting t kind (length t - left))
reported_by_scan setting t (Rejected kind left) h = h
reported_by_scan setting t (Memory e) h = tt

-- The scan has found no conflict.
pub reported_by_parser : (setting : Setting) (t : Source) (fault : Fault) → NoTokensConflict (tokens setting.flags.unicode_sets setting.table plain t) →
    OnKindAt fault (λ kind left. IsAtFirstDuplicate setting t kind (length t - left))
reported_by_parser setting t (Rejected kind left) apart = λ conflicts few. absurd (true≢false (sym apart ∙ conflicts))
reported_by_parser setting t (Memory e) apart = tt
