-- Promotion keeps what the law requires.
use Rattle.std.proofs.Common.{ℕ, ◌+◌, true, length, refl, ap, arith}
use Rattle.std.specs.Prelude.{encode_utf8_all, IfOk, Result, Ok, Err}
use Rattle.std.specs.declared.alloc.AllocError.{AllocError}
use Rattle.regress_base.specs.declared.types.Quantifier.{Quantifier}
use Rattle.regress_tree.specs.Reading.{Direction}
use Rattle.regress_tree.specs.Shapes.{is_promoted_away}
use Rattle.regress_tree.specs.Steps.{Matcher}
use Rattle.regress_tree.specs.Tree.{loop, loop_one, Tree, wrapped}
use Rattle.regress_tree.specs.WellFormed.{one_character, inside, IsAllowed}
use Rattle.regress_tree.proofs.lemmas.Alike.{Alike-from_same}
use Rattle.regress_tree.proofs.lemmas.Groups.{HasGroups-none}
use Rattle.regress_tree.proofs.lemmas.Measures.{IsLess-lighter}
use Rattle.regress_tree.proofs.lemmas.Positions.{IsAllowed-one_character, captures-one_character}
use Rattle.regress_tree.proofs.lemmas.Iterations.{repeat-groupless}
use Rattle.regress_rewrite.specs.declared.action.PassAction.{PassAction}
use Rattle.regress_rewrite.specs.declared.action.PassAction.TheVariants.{Keep, Modified, Remove, Replace}
use Rattle.regress_rewrite.specs.Law.{IsPart, Keeps, ObeysLaw}
use Rattle.regress_rewrite.proofs.lemmas.Lawful.{keep_lawful, replace_lawful}

module _ (d : Direction) (q : Quantifier) (start end : ℕ) (body : Tree) where
  -- promotion keeps it if the body may appear in a `Loop1CharBody`
  pub promoted_keeps : ((n : ℕ) → IsAllowed n body inside → IsAllowed n body one_character) → IsPart (wrapped (loop q start end) body) →
      Keeps d (wrapped (loop q start end) body) (wrapped (loop_one q) body)
  promoted_keeps occurs part =
      let none = captures-one_character part.0 body (occurs part.0 part.2.2) in
      record {
        meaning = λ setting text is_text. Alike-from_same (λ s.
            ap (λ (f : Matcher). f s)
            (repeat-groupless (length (encode_utf8_all text) + 1) q start end _ (HasGroups-none start end body part.2.1.1 none)));
        occurs = λ n p m. (m.0, m.1.0, occurs n m.2);
        captures = refl;
        account = omega arith;
        brackets = λ lacks. lacks;
      }
