-- What holds of a parsed tree holds of the optimized one.
use Rattle.std.proofs.Common.{◌≡◌, ◌≤◌, ◌+◌, ◌*◌, ℕ, List, Result, Ok, Err, IfOk, IsOkAnd, MatchResult, ◌⊎◌, inl, inr, sym, ap, ◌∙◌, subst, true}
use Rattle.std.specs.declared.alloc.AllocError.{AllocError}
use Rattle.regress_base.specs.declared.types.Flags.{Flags}
use Rattle.regress_tree.specs.declared.ir.node.Regex.{Regex}
use Rattle.regress_tree.specs.NodeTests.{match_always_fails}
use Rattle.regress_tree.specs.Steps.{byte_state, Setting}
use Rattle.regress_tree.specs.Tree.{Tree, tree}
use Rattle.regress_tree.specs.WellFormed.{captures}
use Rattle.regress_tree.specs.Units.{units, unrolling, loops}
use Rattle.regress_tree.specs.NormalForm.{IsNormal}
use Rattle.regress_tree.specs.Shapes.{ends_in_goal}
use Rattle.regress_lexer.specs.declared.dialect.Dialect.{Dialect}
use Rattle.regress_syntax.specs.Syntax.{Pattern}
use Rattle.regress_parse.specs.TreeOf.{tree_of}
use Rattle.regress_parse.specs.Accepted.{IsAcceptedIn, OneIsDerivedIn, OfAcceptedIn, Means}
use Rattle.regress_front.specs.Optimized.{IsOptimized}

-- A tree with the result of `optimize`.
abbrev pub Response : Type 0
Response = Regex × Result (Unit {0}) AllocError

-- What holds for each tree that is parsed and then optimized holds for the result.
of_optimized : {E : Type 0} {A : Regex → Type 0} {P : Response → Type 0} (parsed : Result Regex E) (response : Result Response E)
    → MatchResult parsed (λ regex. IsOkAnd response (IsOptimized regex)) (λ fault. response ≡ Err fault)
    → IfOk parsed A → ((old : Regex) (new : Response) → A old → IsOptimized old new → P new)
    → IfOk response P
of_optimized (Ok old) (Ok new) optimized known step = step old new known optimized
of_optimized (Ok old) (Err fault) optimized known step = tt
of_optimized (Err fault) (Ok new) same known step = absurd (cc)
of_optimized (Err fault) (Err other) same known step = tt

module _ (dialect : Dialect) (s : Setting) (text : List ℕ) where
  -- The tree of an accepted pattern.
  abbrev pub IsTree : Tree → Type 0
  IsTree t = (p : Pattern) × IsAcceptedIn dialect s text p × (t ≡ tree_of s.table p)

  -- The parsed tree is that of each accepted pattern, since there is only one.
  own : (t : Tree) → OneIsDerivedIn dialect s text → IsTree t → (p : Pattern) → IsAcceptedIn dialect s text p → t ≡ tree_of s.table p
  own t only found p accepted = found.2 ∙ ap (tree_of s.table) (only found.0 p found.1.derived accepted.derived)

  module _ {E : Type 0} (parsed : Result Regex E) (response : Result Response E)
      (optimized : MatchResult parsed (λ regex. IsOkAnd response (IsOptimized regex)) (λ fault. response ≡ Err fault)) where
    pub accepted-optimized : IfOk parsed (λ r. IsTree (tree r.node)) → IfOk response (λ _. (p : Pattern) × IsAcceptedIn dialect s text p)
    accepted-optimized known = of_optimized parsed response optimized known (λ old new found is. (found.0, found.1))

    pub meaning-optimized : IfOk parsed (λ r. OfAcceptedIn dialect s text (Means s (tree r.node)))
        → IfOk response (λ r. OfAcceptedIn dialect s text (Means s (tree r.0.node)))
    meaning-optimized known =
        of_optimized parsed response optimized known (λ old new means is p accepted bytes from is_text is_state.
        sym ((is.meaning s bytes is_text).same (byte_state bytes from)) ∙ means p accepted bytes from is_text is_state)

    pub goal-optimized : IfOk parsed (λ r. IsTree (tree r.node))
        → IfOk response (λ r. (ends_in_goal (tree r.0.node) ≡ true) ⊎ (match_always_fails (tree r.0.node) ≡ true))
    goal-optimized known =
        of_optimized parsed response optimized known (λ old new found is.
        elim is.goal [
          | inl same ↦ inl (same ∙ ap ends_in_goal found.2)
          | inr fails ↦ inr fails
        ])

    module _ (only : OneIsDerivedIn dialect s text) (known : IfOk parsed (λ r. IsTree (tree r.node))) where
      pub left-optimized : IfOk response (λ r. OfAcceptedIn dialect s text (λ p. IsNormal (tree_of s.table p) → tree r.0.node ≡ tree_of s.table p))
      left-optimized =
          of_optimized parsed response optimized known (λ old new found is p accepted normal.
          let same = own (tree old.node) only found p accepted in
          is.left (subst (λ (t : Tree). IsNormal t) (sym same) normal) ∙ same)

      pub captures-optimized : IfOk response (λ r. OfAcceptedIn dialect s text (λ p. captures (tree r.0.node) ≡ captures (tree_of s.table p)))
      captures-optimized =
          of_optimized parsed response optimized known (λ old new found is p accepted.
          is.captures ∙ ap captures (own (tree old.node) only found p accepted))

      pub units-optimized : IfOk response (λ r. OfAcceptedIn dialect s text
          (λ p. units (tree r.0.node) ≤ units (tree_of s.table p) + unrolling * loops (tree_of s.table p)))
      units-optimized =
          of_optimized parsed response optimized known (λ old new found is p accepted.
          subst (λ (t : Tree). units (tree new.0.node) ≤ units t + unrolling * loops t) (own (tree old.node) only found p accepted) is.units)
