-- The last atom begins another range.
use Rattle.std.proofs.Common.{Bool, ◌&&◌, sym, ap, ap₂, subst, ◌∙◌}
use Rattle.std.proofs.lemmas.Bool.{cond-true}
use Rattle.regress_unicode.specs.TableOf.{table_of}
use Rattle.regress_lexer.specs.Reads.{ParsesAs}
use Rattle.regress_lexer.specs.Source.{Source}
use Rattle.regress_lexer.specs.Views.{source}
use Rattle.regress_classes.specs.ClassProductions.{ClassAtom, splits, is_pair, range_end_at}
use Rattle.regress_classes.specs.ClassViews.{class_atom_of, Adds}
use Rattle.regress_classes.proofs.ClassLemmas.{ranges_parsed}
use Rattle.regress_classes.proofs.class.read_range.Goals as goal

pub returns-clause-value : goal.returns-clause-value
returns-clause-value c =
    let table = table_of c.args.around.now.tables.now in
    let parameters = c.args.around.now.parameters.now in
    let pair = c.in-Some.ensures.some in
    let range = c.in_ok-add_range.ensures.ok in
    let hyphen = c.try_consume_hyphen in
    let end = c.read_range_end in
    let found = sym hyphen.ensures.found ∙ c.if-not-try_consume_hyphen.false in
    let Parsed : ClassAtom → Source → Type 0 =
    λ atom t. ParsesAs (λ _ others. Adds others c.add_range.new.set end.new.set) (source end.new.cursor) end.result (range_end_at table parameters atom t) in
    ranges_parsed table parameters (class_atom_of c.args.first) (class_atom_of c.in_ok-last.last) (source c.args.cursor.now)
    (source c.read_class_atom.new.cursor) (source end.new.cursor) c.args.set.now c.add_range.new.set end.new.set range.0 end.result c.in_ok-last.ensures.value
    (ap₂ (λ (a b : Bool). a && b) (ap (λ (atom : ClassAtom). splits parameters && is_pair atom) pair.0 ∙ pair.1) found)
    range.1 range.2
    (subst (λ (t : Source). Parsed (class_atom_of c.in_ok-last.last) t) (hyphen.ensures.moves ∙ cond-true _ _ _ c.if-not-try_consume_hyphen.false)
    (subst (λ (atom : ClassAtom). Parsed atom (source hyphen.new.cursor)) (sym pair.0) end.ensures.value))
