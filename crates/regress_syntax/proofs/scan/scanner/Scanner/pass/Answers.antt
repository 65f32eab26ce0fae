use Rattle.regress_syntax.proofs.ScannerLemmas.{after_opens, after_captures}
use Rattle.regress_syntax.proofs.scan.scanner.Scanner.pass.Goals as goal

pub returns-in_ok-open-in-Opens-clause-found : goal.returns-in_ok-open-in-Opens-clause-found
returns-in_ok-open-in-Opens-clause-found c = λ all rest after.
    let o = c.in_ok-open-in-Opens.ensures in
    after_opens all rest c.args.self.now c.open.new.self o.same o.position o.deepest (rw c.in-Opens.is at after)

pub returns-in_ok-open-in-Captures-clause-found : goal.returns-in_ok-open-in-Captures-clause-found
returns-in_ok-open-in-Captures-clause-found c = λ all rest after.
    let a = c.in_ok-add-in-Captures.ensures in
    let o = c.in_ok-open-in-Captures.ensures in
    after_captures all rest c.in-Captures.name c.args.self.now c.add.new.self c.open-in-Captures.new.self a.same a.names a.named
    o.same o.position o.deepest (rw c.in-Captures.is at after)
