-- The quantifier is parsed after the item that was found.
use Rattle.std.proofs.Common.{Some, None, Ok, sym, ◌∙◌}
use Rattle.std.proofs.lemmas.List.{append-nil}
use Rattle.regress_parse.specs.Parsing.{text, context_in, table_in, names_in_context, direction_of}
use Rattle.regress_syntax.proofs.lemmas.Plain.{no_times}
use Rattle.regress_parse.proofs.SpansOfItem.{term-records}
use Rattle.regress_parse.proofs.TermLemmas.{alone}
use Rattle.regress_parse.proofs.parser.Parser.consume_times.Goals as goal

pub returns-then-not-may_begin-clause-value : goal.returns-then-not-may_begin-clause-value
returns-then-not-may_begin-clause-value g c =
    let around = c.args.around.now in
    let table = table_in around in
    let names = names_in_context around in
    let ctx = context_in around in
    let old = c.args.self.now in
    λ x before first allowed b.
    alone table names ctx (direction_of around) around.depth before old (Ok c.args.item) (Some (x, text old))
    (sym c.may_begin.ensures ∙ c.if-not-may_begin.true) b

pub returns-then-not-may_begin-clause-spans : goal.returns-then-not-may_begin-clause-spans
returns-then-not-may_begin-clause-spans g c t before on opened reads =
    let around = c.args.around.now in
    let ctx = context_in around in
    let old = c.args.self.now in
    term-records ctx around.whole (direction_of around) t before (text old) old.spans.items c.args.allowed reads None (text old) old.spans.items
    (no_times ctx c.args.allowed (text old) (sym c.may_begin.ensures ∙ c.if-not-may_begin.true)) (sym (append-nil old.spans.items))
