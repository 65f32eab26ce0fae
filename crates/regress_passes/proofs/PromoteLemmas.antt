-- Promotion obeys the law, and makes the loop less.
use Rattle.std.proofs.Common.{ℕ, ◌+◌, true, length, refl, ap, arith}
use Rattle.std.specs.Prelude.{encode_utf8_all, IfOk, Result, Ok, Err}
use Rattle.std.specs.declared.alloc.AllocError.{AllocError}
use Rattle.regress_base.specs.declared.types.Quantifier.{Quantifier}
use Rattle.regress_tree.specs.Reading.{Direction}
use Rattle.regress_tree.specs.Shapes.{is_promoted_away}
use Rattle.regress_tree.specs.Steps.{Matcher}
use Rattle.regress_tree.specs.Tree.{loop, loop_one, Tree, wrapped}
use Rattle.regress_tree.specs.WellFormed.{one_character, inside, IsAllowed}
use Rattle.regress_tree.proofs.lemmas.Alike.{Alike-from_same}
use Rattle.regress_tree.proofs.lemmas.Groups.{HasGroups-none}
use Rattle.regress_tree.proofs.lemmas.Measures.{IsLess-lighter}
use Rattle.regress_tree.proofs.lemmas.Positions.{IsAllowed-one_character, captures-one_character}
use Rattle.regress_tree.proofs.lemmas.Iterations.{repeat-groupless}
use Rattle.regress_rewrite.specs.declared.action.PassAction.{PassAction}
use Rattle.regress_rewrite.specs.declared.action.PassAction.TheVariants.{Keep, Modified, Remove, Replace}
use Rattle.regress_rewrite.specs.Law.{IsPart, Keeps, ObeysLaw}
use Rattle.regress_passes.specs.Promote.{Promotes}
use Rattle.regress_rewrite.proofs.lemmas.Lawful.{keep_lawful, replace_lawful}
use Rattle.regress_rewrite.proofs.lemmas.Promotion.{promoted_keeps}

module _ (d : Direction) (q : Quantifier) (start end : ℕ) (body : Tree) where
  promotes_lawful : (action : PassAction) (left : Tree) → IsPart (wrapped (loop q start end) body) → Promotes action q body left →
      ObeysLaw is_promoted_away true d (wrapped (loop q start end) body) (wrapped (loop q start end) left) action
  promotes_lawful Keep left part promotes =
      rw promotes.1 (keep_lawful is_promoted_away true d (wrapped (loop q start end) body) promotes.0)
  promotes_lawful Modified left part none = absurd none
  promotes_lawful Remove left part none = absurd none
  promotes_lawful (Replace node) left part promotes =
      replace_lawful is_promoted_away true d (wrapped (loop q start end) body) promotes.0 (wrapped (loop q start end) left) node
      (rw promotes.1 (promoted_keeps d q start end body (λ n. IsAllowed-one_character n n body inside promotes.0) part))
      (rw promotes.1 (IsLess-lighter (wrapped (loop_one q) body) (wrapped (loop q start end) body) (omega arith) (omega arith)))

  pub promote_lawful : (r : Result PassAction AllocError) (left : Tree) → IsPart (wrapped (loop q start end) body) →
      IfOk r (λ action. Promotes action q body left) →
      IfOk r (ObeysLaw is_promoted_away true d (wrapped (loop q start end) body) (wrapped (loop q start end) left))
  promote_lawful (Ok action) left part promotes = promotes_lawful action left part promotes
  promote_lawful (Err e) left part promotes = tt
