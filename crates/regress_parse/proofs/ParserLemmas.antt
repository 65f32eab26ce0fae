-- What a call of the parser builds, from its result.
use Rattle.std.proofs.Common.{◌≡◌, ◌∙◌, ℕ, Some, refl, sym, ap, subst}
use Rattle.std.specs.Option.{IsSomeAnd}
use Rattle.regress_tree.specs.declared.ir.node.Node.{Node}
use Rattle.regress_tree.specs.Reading.{Direction}
use Rattle.regress_lexer.specs.Source.{Source, Found}
use Rattle.regress_syntax.specs.Syntax.{Counts}
use Rattle.regress_lexer.proofs.lemmas.Sources.{some_and}
use Rattle.regress_parse.specs.declared.parser.Parser.{Parser}
use Rattle.regress_parse.specs.Parsing.{Part, text, Builds}

module _ {A : Type 0} (part : A → Part) (d : Direction) (depth : ℕ) (before : Counts) (new : Parser) (found : Found A) where
  pub built : (node : Node) → IsSomeAnd found (λ x. Builds d depth before new node (part x.0) x.1) →
      (x : A × Source) × (found ≡ Some x) × Builds d depth before new node (part x.0) x.1
  built node h = some_and found (λ x. Builds d depth before new node (part x.0) x.1) h

  -- the same, at the position of the parser
  pub built_here : (node : Node) → IsSomeAnd found (λ x. Builds d depth before new node (part x.0) x.1) →
      (x : A) × (found ≡ Some (x, text new)) × Builds d depth before new node (part x) (text new)
  built_here node h =
      let x = built node h in (
        x.0.0,
        x.1 ∙ ap (λ (u : Source). Some (x.0.0, u)) (sym x.2.rest),
        record { node = x.2.node; fits = x.2.fits; counts = x.2.counts; rest = refl },
      )

  -- What holds for every part that was built holds for the one that was found.
  pub of_built : {B : Type 0} (more : Found A → Found B) (P : Found B → Type 0) (node : Node) →
      ((x : A) → found ≡ Some (x, text new) → Builds d depth before new node (part x) (text new) → P (more (Some (x, text new)))) →
      IsSomeAnd found (λ x. Builds d depth before new node (part x.0) x.1) → P (more found)
  of_built more P node each h =
      let x = built_here node h in
      subst (λ (f : Found A). P (more f)) (sym x.1) (each x.0 x.1 x.2)
