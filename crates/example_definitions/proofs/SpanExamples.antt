-- Examples: the spans of the nodes of patterns, and each node beside its span. The expected spans are counted by hand, in code points of the pattern.
use Rattle.std.proofs.Common.{◌≡◌, ℕ, false, true, [], ◌∷◌, Some, None, refl, codes}
use Rattle.regress_tree.specs.Reading.{backwards}
use Rattle.regress_tree.specs.Tree.{Tree, leaf, goal, cat, wrapped, loop, lookaround}
use Rattle.regress_lexer.specs.Quantifiers.{quantifier_at}
use Rattle.regress_syntax.specs.Syntax.{Pattern, one, either, no_terms, more_terms, group, grouping, capture, look}
use Rattle.regress_syntax.specs.Productions.{head_at, optional_quantifier_at}
use Rattle.regress_parse.specs.Accepted.{IsDerived}
use Rattle.regress_parse.specs.declared.span.Span.{Span}
use Rattle.regress_parse.specs.Spans.{spans_of}
use Rattle.regress_spans.specs.Paired.{spanned_of}
use Rattle.example_definitions.proofs.Meanings.{plain}
use Rattle.example_definitions.proofs.PatternExamples.{letter, word, two, list, character, quantifier}

abbrev to : ℕ → ℕ → Span
to start end = record { start = start; end = end }

-- `a(b|)`
abbrev grouped : Pattern
grouped = one (two (letter 97) (group (capture None) (either (word (letter 98)) (one no_terms))))

grouped-derived : IsDerived plain (codes "a(b|)") grouped
unfolding head_at optional_quantifier_at quantifier_at
grouped-derived = (
  (
    codes "(b|)",
    codes "(b|)",
    refl,
    refl,
    (
      [],
      [],
      (codes "b|)", refl, (codes ")", (codes "|)", codes "|)", refl, refl, (refl, refl)), ((refl, refl), refl))),
      refl,
      (refl, refl),
    ),
  ),
  refl,
)

-- the two letters, the empty alternative, the `Alt`, the group, the `Cat`, the final `Goal` and the root
grouped-spans : spans_of plain (codes "a(b|)") grouped grouped-derived
    ≡ to 0 1 ∷ to 2 3 ∷ to 4 4 ∷ to 2 4 ∷ to 1 5 ∷ to 0 5 ∷ to 5 5 ∷ to 0 5 ∷ []
unfolding grouped-derived
grouped-spans = refl

-- `(?<=ab)(?:c+)`
abbrev looking_after : Pattern
looking_after = one (two (group (look false backwards) (one (two (letter 97) (letter 98))))
    (group grouping (one (more_terms (letter 99) (Some (quantifier 1 None)) no_terms))))

looking_after-derived : IsDerived plain (codes "(?<=ab)(?:c+)") looking_after
unfolding head_at optional_quantifier_at quantifier_at
looking_after-derived = (
  (
    codes "(?:c+)",
    codes "(?:c+)",
    (
      codes "ab)(?:c+)",
      refl,
      ((codes "b)(?:c+)", codes "b)(?:c+)", refl, refl, (codes ")(?:c+)", codes ")(?:c+)", refl, refl, (refl, refl))), refl),
    ),
    refl,
    ([], [], (codes "c+)", refl, ((codes "+)", codes ")", refl, refl, (refl, refl)), refl)), refl, (refl, refl)),
  ),
  refl,
)

-- In the lookbehind the letters are reversed, and then come their `Cat` and the lookbehind itself. The span of the loop
-- includes its `+`. The group around it has no node.
looking_after-spans : spans_of plain (codes "(?<=ab)(?:c+)") looking_after looking_after-derived
    ≡ to 5 6 ∷ to 4 5 ∷ to 4 6 ∷ to 0 7 ∷ to 10 11 ∷ to 10 12 ∷ to 0 13 ∷ to 13 13 ∷ to 0 13 ∷ []
unfolding looking_after-derived
looking_after-spans = refl

-- `a*`
abbrev looped : Pattern
looped = one (more_terms (letter 97) (Some (quantifier 0 None)) no_terms)

looped-derived : IsDerived plain (codes "a*") looped
unfolding head_at optional_quantifier_at quantifier_at
looped-derived = ((codes "*", [], refl, refl, (refl, refl)), refl)

abbrev looped_letter : Tree
looped_letter = wrapped (loop (quantifier 0 None) 0 0) (character 97)

-- The letter has the span of the letter, and the loop that of the letter and the `*`.
looped-spanned : spanned_of plain (codes "a*") looped looped-derived
    ≡ (character 97, to 0 1) ∷ (looped_letter, to 0 2) ∷ (leaf goal, to 2 2) ∷ (cat (list looped_letter (leaf goal)), to 0 2) ∷ []
unfolding looped-derived
looped-spanned = refl

-- `(?<=ab)`
abbrev behind : Pattern
behind = one (word (group (look false backwards) (one (two (letter 97) (letter 98)))))

behind-derived : IsDerived plain (codes "(?<=ab)") behind
unfolding head_at optional_quantifier_at quantifier_at
behind-derived = (
  (
    [],
    [],
    (codes "ab)", refl, ((codes "b)", codes "b)", refl, refl, (codes ")", codes ")", refl, refl, (refl, refl))), refl)),
    refl,
    (refl, refl),
  ),
  refl,
)

abbrev reversed : Tree
reversed = cat (list (character 98) (character 97))

abbrev looked : Tree
looked = wrapped (lookaround false true 0 0) reversed

-- The parts of the `Cat` are reversed, and so are their spans.
behind-spanned : spanned_of plain (codes "(?<=ab)") behind behind-derived
    ≡ (character 98, to 5 6) ∷ (character 97, to 4 5) ∷ (reversed, to 4 6) ∷ (looked, to 0 7) ∷ (leaf goal, to 7 7)
    ∷ (cat (list looked (leaf goal)), to 0 7) ∷ []
unfolding behind-derived
behind-spanned = refl
