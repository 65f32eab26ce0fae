use Rattle.std.proofs.Common.{◌≡◌, map, string_bytes, subst}
use Rattle.std.specs.Prelude.{IfOk}
use Rattle.regress_match.specs.Pattern.{capture_of}
use Rattle.regress_replace.specs.Expansion.{expansion}
use Rattle.regress.specs.Compiled.{match_of}
use Rattle.regress.proofs.pattern.Regex.expand.Goals as goal

pub returns : goal.returns
returns c =
    subst (λ gs. IfOk c.expand.result (λ out. string_bytes out
    ≡ expansion c.args.text.now (match_of c.args.found.now) (map capture_of gs) c.args.template.now)) c.deref.ensures.value c.expand.ensures
