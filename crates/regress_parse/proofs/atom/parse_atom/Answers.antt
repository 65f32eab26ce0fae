-- An item is a class or another item.
use Rattle.std.proofs.Common.{ℕ, ◌∷◌, not, inl, length, sym, ap, ◌∙◌, subst, arith}
use Rattle.regress_lexer.specs.Source.{Source}
use Rattle.regress_lexer.specs.Views.{source}
use Rattle.regress_lexer.proofs.lemmas.Faults.{fails_then, nesting_then}
use Rattle.regress_syntax.specs.Views.{context_of}
use Rattle.regress_parse.specs.Parsing.{atom_at, begins_lone, ReadsAtom}
use Rattle.regress_parse.proofs.AtomLemmas.{with_no_nesting}
use Rattle.regress_parse.proofs.atom.parse_atom.Goals as goal

pub returns-then-c-from-clause-value : goal.returns-then-c-from-clause-value
returns-then-c-from-clause-value c =
    let ctx = context_of c.args.scope.now in
    let r = c.read_brackets.result in
    let new = source c.read_brackets.new.cursor in
    subst (λ (t : Source). ReadsAtom ctx c.args.left (not (begins_lone ctx.dialect t)) new r (atom_at ctx t)) (sym c.in-Some.ensures.some)
    (subst (λ (n : ℕ). ReadsAtom ctx c.args.left (not (begins_lone ctx.dialect (n ∷ source c.next.new.self))) new r (atom_at ctx (n ∷ source c.next.new.self)))
    (sym (c.if-c-from.true ∙ c.from.ensures)) c.read_brackets.ensures.value)

pub returns-else-c-from-clause-value : goal.returns-else-c-from-clause-value
returns-else-c-from-clause-value c =
    let ctx = context_of c.args.scope.now in
    let r = c.read_other.result in
    let new = source c.read_other.new.cursor in
    subst (λ (t : Source). ReadsAtom ctx c.args.left (not (begins_lone ctx.dialect t)) new r (atom_at ctx t)) (sym c.in-Some.ensures.some)
    (with_no_nesting ctx c.args.left _ new r _ c.read_other.ensures.value)

pub returns-then-c-from-clause-kind : goal.returns-then-c-from-clause-kind
returns-then-c-from-clause-kind c =
    nesting_then c.read_brackets.result (λ few. omega (arith, few, ap length c.in-Some.ensures.some)) c.read_brackets.ensures.kind

pub returns-else-c-from-clause-kind : goal.returns-else-c-from-clause-kind
returns-else-c-from-clause-kind c = fails_then c.read_other.result (λ kind none. inl none) c.read_other.ensures.kind
