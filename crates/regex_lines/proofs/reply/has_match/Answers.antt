use Rattle.std.proofs.Common.{◌≡◌, ◌<◌, ◌==◌, ◌∙◌, ℕ, zero, suc, false, arith, length, refl, subst, sym}
use Rattle.std.proofs.lemmas.List.{length-map}
use Rattle.regress.specs.Compiled.{match_of}
use Rattle.regex_lines.specs.Reply.{TextMatches, matches_of}
use Rattle.regex_lines.specs.declared.runs.TextMatches as code
use Rattle.regex_lines.proofs.RunLemmas.{none_matches, one_matches}
use Rattle.regex_lines.proofs.reply.has_match.Goals as goal

positive : (n : ℕ) → (n == 0) ≡ false → 0 < n
positive zero is = let bad : ⊥ = cc is in absurd bad
positive (suc n) is = omega arith

some_match : (f : code.TextMatches) → (f.matches.len == 0) ≡ false → 0 < length (matches_of f).matches
some_match f is = omega (arith, positive f.matches.len is, f.matches.ok.0, length-map f.matches.items match_of)

pub returns-then-not-is_empty : goal.returns-then-not-is_empty
returns-then-not-is_empty c = (
  λ _. one_matches matches_of (λ (f : TextMatches). 0 < length f.matches) c.args.found.now c.loop-text.text-index c.text-item.result c.loop-text-test.true
      (subst (λ (f : code.TextMatches). 0 < length (matches_of f).matches) c.text-item.is
      (some_match c.text-item.result (sym c.is_empty.ensures ∙ c.if-not-is_empty.true))),
  λ _. refl,
)

pub returns : goal.returns
returns c = (
  λ is. let bad : ⊥ = cc is in absurd bad,
  λ some. absurd (none_matches matches_of (λ (f : TextMatches). 0 < length f.matches) c.args.found.now c.loop-text.text-index c.loop-text.invariant c.loop-text-test.false some),
)
