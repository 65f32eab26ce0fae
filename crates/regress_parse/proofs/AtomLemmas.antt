-- Parsing an item without a nested pattern.
use Rattle.std.proofs.Common.{◌≡◌, ℕ, ◌<◌, ◌≤◌, ◌&&◌, Bool, true, false, cond, List, Result, Ok, Err, refl, sym, subst, arith}
use Rattle.std.specs.Option.{IfSome}
use Rattle.regress_base.specs.Intervals.{Bounds}
use Rattle.regress_tree.specs.declared.ir.node.Node.{Node}
use Rattle.regress_lexer.specs.declared.dialect.Dialect.{Dialect}
use Rattle.regress_lexer.specs.declared.fault.Fault.{Fault}
use Rattle.regress_lexer.specs.Source.{Source, Found}
use Rattle.regress_lexer.specs.Reads.{ParsesAs}
use Rattle.regress_lexer.proofs.lemmas.Sources.{on_rejected_then}
use Rattle.regress_syntax.specs.Syntax.{Atom, class, nesting_of_atom}
use Rattle.regress_syntax.specs.Productions.{Context, complements_first, atom_allows, point_property}
use Rattle.regress_classes.specs.ClassProductions.{complement}
use Rattle.regress_parse.specs.Parsing.{IsNode, ReadsAtom}

-- A property of code points contains no nested class.
nesting_of_either : (b : Bool) (x y : Atom) → nesting_of_atom x ≤ 0 → nesting_of_atom y ≤ 0 → nesting_of_atom (cond b x y) ≤ 0
nesting_of_either true x y h k = h
nesting_of_either false x y h k = k

either_allows : (dialect : Dialect) (b : Bool) (x y : Atom) → atom_allows dialect x ≡ true → atom_allows dialect y ≡ true →
    atom_allows dialect (cond b x y) ≡ true
either_allows dialect true x y h k = h
either_allows dialect false x y h k = k

module _ (ctx : Context) where
  pub property-nesting : (negated : Bool) (members : List Bounds) → nesting_of_atom (point_property ctx negated members) ≤ 0
  property-nesting negated members =
      nesting_of_either (negated && complements_first ctx) (class ctx.setting.flags false (complement members))
      (class ctx.setting.flags negated members) (omega arith) (omega arith)

  pub property-allows : (negated : Bool) (members : List Bounds) → atom_allows ctx.dialect (point_property ctx negated members) ≡ true
  property-allows negated members =
      either_allows ctx.dialect (negated && complements_first ctx) (class ctx.setting.flags false (complement members))
      (class ctx.setting.flags negated members) refl refl

  -- An item without a nested class parses alike at each remaining depth.
  pub with_no_nesting : (left : ℕ) (allowed : Bool) (new : Source) (r : Result Node Fault) (found : Found Atom) →
      ParsesAs (IsNode ctx 0 allowed) new r found → ReadsAtom ctx left allowed new r found
  with_no_nesting left allowed new (Ok node) found h =
      (h.0, h.1, record { node = h.2.node; nesting = omega (arith, h.2.nesting); allows = h.2.allows })
  with_no_nesting left allowed new (Err fault) found h =
      on_rejected_then fault (λ none. subst (λ (f : Found Atom). IfSome f (λ x. left < nesting_of_atom x.0)) (sym none) tt) h
