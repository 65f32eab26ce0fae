-- The most common items: a literal that no quantifier follows.
use Rattle.std.proofs.Common.{◌≡◌, ℕ, Bool, true, false, ◌&&◌, ◌==◌, ◌∷◌, Some, None, ap, ◌∙◌, arith}
use Rattle.std.proofs.lemmas.Bool.Decides.{nat_tests}
use Rattle.std.proofs.lemmas.Bool.{cond-true, cond-false}
use Rattle.std.proofs.Math.Bool.{and-false}
use Rattle.regress_lexer.specs.Source.{Source, found_map, opening, full_stop, is_one_of, is_at, is_plain}
use Rattle.regress_lexer.specs.FirstCodePoint.{may_begin}
use Rattle.regress_lexer.proofs.lemmas.Quantifiers.{no_quantifier, no_brace}
use Rattle.regress_syntax.specs.Syntax.{literal}
use Rattle.regress_syntax.specs.Productions.{Context, single, head_at, optional_quantifier_at}

module _ (ctx : Context) where
  pub plain_head : (c : ℕ) (t : Source) → is_plain c ≡ true → head_at ctx (c ∷ t) ≡ Some (single (literal ctx.setting.flags c), t)
  unfolding head_at
  plain_head c t plain =
      let parenthesis : (c == opening) ≡ false = grind (arith, nat_tests) in
      let stop : (c == full_stop) ≡ false = grind (arith, nat_tests) in
      let start : (c == 94) ≡ false = grind (arith, nat_tests) in
      let end : (c == 36) ≡ false = grind (arith, nat_tests) in
      let backslash : (c == 92) ≡ false = grind (arith, nat_tests) in
      let bracket : (c == 91) ≡ false = grind (arith, nat_tests) in
      let brace : is_one_of "{]}" c ≡ false = grind (arith, nat_tests) in
      cond-false (c == opening) _ _ parenthesis
      ∙ ap (found_map single)
      (cond-false (c == full_stop) _ _ stop ∙ cond-false (c == 94) _ _ start ∙ cond-false (c == 36) _ _ end ∙ cond-false (c == 92) _ _ backslash
      ∙ cond-false (c == 91) _ _ bracket ∙ cond-false (is_one_of "{]}" c) _ _ brace ∙ cond-true (is_plain c) _ _ plain)

  pub no_times : (allowed : Bool) (t : Source) → may_begin t ≡ false → optional_quantifier_at ctx allowed t ≡ Some (None, t)
  unfolding optional_quantifier_at
  no_times allowed t none =
      rw (no_quantifier t none, optional_quantifier_at)
      (cond-false (ctx.setting.flags.unicode && is_at 123 t) _ _
      (ap (λ b. ctx.setting.flags.unicode && b) (no_brace t none) ∙ and-false ctx.setting.flags.unicode))
