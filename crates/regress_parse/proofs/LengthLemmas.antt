-- How much of the source is left after a part.
use Rattle.std.proofs.Common.{◌≡◌, ◌∙◌, ℕ, ◌+◌, ◌≤◌, Bool, true, false, cond, ◌∷◌, List, length, drop, Option, Result, Ok, Err, OnOk, sym, ap, arith, length-drop}
use Rattle.regress_tree.specs.declared.ir.node.Node.{Node}
use Rattle.regress_tree.specs.Reading.{Direction}
use Rattle.regress_base.specs.Table.{Table}
use Rattle.regress_lexer.specs.declared.fault.Fault.{Fault}
use Rattle.regress_lexer.specs.Reads.{Reads}
use Rattle.regress_lexer.specs.Source.{Source, opening, is_at}
use Rattle.regress_lexer.proofs.lemmas.Sources.{at_front}
use Rattle.regress_syntax.specs.Syntax.{Name, Group, Counts}
use Rattle.regress_syntax.specs.Productions.{Context, opens, group_at}
use Rattle.regress_syntax.proofs.lemmas.Productions.{head_at-shortens}
use Rattle.regress_parse.specs.Reader.{term_at}
use Rattle.regress_parse.specs.Parsing.{text, term_part, Yields}
use Rattle.regress_parse.specs.declared.parser.Parser.{Parser}
use Rattle.regress_parse.proofs.ParserLemmas.{built}
use Rattle.regress_parse.proofs.ReaderLemmas.{term_at-shortens}
use Rattle.regress_parse.proofs.TermLemmas.{opening_head}

-- A code point that was next is no longer there.
pub lengths-after : (k : ℕ) (t new : Source) (found : Bool) → found ≡ is_at k t → new ≡ cond found (drop 1 t) t →
    length t ≡ length new + cond found 1 0
lengths-after k t new true is same = omega (arith, ap length same, length-drop 1 t, at_front k t (sym is))
lengths-after k t new false is same = omega (arith, ap length same)

module _ (table : Table) (names : List (Option Name)) (ctx : Context) where
  -- what opens a group
  pub head-shorter : {A : Type 0} (view : A → Group) (t new : Source) (r : Result A Fault) →
      Reads (λ kind. opens (view kind)) new r (group_at ctx.setting.table t) → OnOk r (length new ≤ length t)
  head-shorter view t new (Ok kind) read =
      omega (arith, head_at-shortens ctx (opening ∷ t) (opens (view kind), new) (opening_head table names ctx t ∙ read))
  head-shorter view t new (Err fault) read = tt

  -- a term
  pub term-shorter : (d : Direction) (depth : ℕ) (before : Counts) (new : Parser) (t : Source) (r : Result Node Fault) →
      Yields (term_part table names) d depth before new r (term_at ctx t) → OnOk r (length (text new) ≤ length t)
  term-shorter d depth before new t (Ok node) read =
      let found = built (term_part table names) d depth before new (term_at ctx t) node read in
      omega (arith, term_at-shortens ctx t found.0 found.1, ap length found.2.rest)
  term-shorter d depth before new t (Err fault) read = tt
