-- The scan finds the marks of every syntax tree that the grammar derives, and they determine its groups and nesting
-- depth.
use Rattle.std.proofs.Common.{◌≡◌, ℕ, ◌+◌, ◌-◌, ◌≤◌, max, Bool, List, [], ◌∷◌, ◌++◌, refl, sym, ap, ap₂, ◌∙◌, subst, arith, append_assoc, append-nil}
use Rattle.regress_base.specs.Table.{Table, IsValidTable}
use Rattle.regress_lexer.specs.Source.{Source, closing, bar}
use Rattle.regress_syntax.specs.Syntax.{Atom, literal, dot, anchor, boundary, class_escape, class, class_set, string_property, back_reference, nesting_of_atom, Group, grouping, modified, capture, look, Pattern, Terms, Item, one, either, no_terms, more_terms, atom, group, names, names_of_group, names_of_terms, names_of_item, nesting, nesting_of_terms, nesting_of_item}
use Rattle.regress_syntax.specs.Productions.{Context, context_inside, single, opens, head_of_item, allows}
use Rattle.regress_syntax.specs.Grammar.{IsPattern, AreTerms, IsItem}
use Rattle.regress_syntax.specs.GroupTokens.{GroupToken, captures, closes, next, nests, token_of_group, tokens_of_atom, tokens_of, tokens_of_terms, tokens_of_item}
use Rattle.regress_syntax.specs.Scan.{plain, tokens, GivesTokens, named_by, deepest}
use Rattle.regress_syntax.specs.GroupTokens as GroupTokens
use Rattle.regress_syntax.proofs.ScanProductions.{gives_head_at, lead_times_at}
use Rattle.regress_syntax.proofs.ScannerLemmas.{deepest_above}

-- ---- the grammar

tokens_after_bar : (sets : Bool) (table : Table) (t : Source) → tokens sets table plain (bar ∷ t) ≡ next ∷ tokens sets table plain t
unfolding tokens
tokens_after_bar sets table t = refl

tokens_after_closing : (sets : Bool) (table : Table) (t : Source) → tokens sets table plain (closing ∷ t) ≡ closes ∷ tokens sets table plain t
unfolding tokens
tokens_after_closing sets table t = refl

-- the marks of two consecutive parts
joined : (xs ys rest : List GroupToken) {all after : List GroupToken} → all ≡ xs ++ after → after ≡ ys ++ rest →
    all ≡ (xs ++ ys) ++ rest
joined xs ys rest h k = h ∙ ap (λ zs. xs ++ zs) k ∙ sym (append_assoc xs ys rest)

-- what the marks depend on in a context: the flag v and the table
abbrev reported : Context → Bool × Table
reported ctx = (ctx.setting.flags.unicode_sets, ctx.setting.table)

abbrev tokens_from : Bool × Table → Source → List GroupToken
tokens_from (sets, table) t = tokens sets table plain t

-- A group changes neither the flag v nor the table.
same_scan_inputs : (kind : Group) (ctx : Context) → reported (context_inside kind ctx) ≡ reported ctx
same_scan_inputs grouping ctx = refl
same_scan_inputs (modified change) ctx = refl
same_scan_inputs (capture name) ctx = refl
same_scan_inputs (look negate direction) ctx = refl

module _ (by : Bool × Table) (lawful : IsValidTable by.1) where
  lawful_at : (ctx : Context) → reported ctx ≡ by → IsValidTable ctx.setting.table
  lawful_at ctx same = subst (λ (u : Bool × Table). IsValidTable u.1) (sym same) lawful

  mutual
    tokens_of_pattern : (ctx : Context) (p : Pattern) (t rest : Source) → reported ctx ≡ by → IsPattern ctx p t rest →
        tokens_from by t ≡ tokens_of p ++ tokens_from by rest
    tokens_of_pattern ctx (one ts) t rest same h = tokens_of_all ctx ts t rest same h.0
    tokens_of_pattern ctx (either ts p) t rest same (mid, first, others) =
        joined (tokens_of_terms ts) (next ∷ tokens_of p) _ (tokens_of_all ctx ts t (bar ∷ mid) same first)
        (tokens_after_bar by.0 by.1 mid ∙ ap (λ ms. next ∷ ms) (tokens_of_pattern ctx p mid rest same others))

    tokens_of_all : (ctx : Context) (ts : Terms) (t rest : Source) → reported ctx ≡ by → AreTerms ctx ts t rest →
        tokens_from by t ≡ tokens_of_terms ts ++ tokens_from by rest
    tokens_of_all ctx no_terms t rest same h = ap (tokens_from by) h.1
    tokens_of_all ctx (more_terms x q xs) t rest same (mid, after, first, times, others) =
        joined (tokens_of_item x) (tokens_of_terms xs) _ (tokens_of_one ctx x t mid same first)
        (subst (λ u. tokens_from u mid ≡ tokens_from u after) same
        (((lead_times_at ctx (lawful_at ctx same) (allows ctx (head_of_item x)) mid).each (q, after) times).same)
        ∙ tokens_of_all ctx xs after rest same others)

    tokens_of_one : (ctx : Context) (x : Item) (t rest : Source) → reported ctx ≡ by → IsItem ctx x t rest →
        tokens_from by t ≡ tokens_of_item x ++ tokens_from by rest
    tokens_of_one ctx (atom a) t rest same h =
        subst (λ u. tokens_from u t ≡ tokens_of_atom a ++ tokens_from u rest) same
        ((gives_head_at ctx (lawful_at ctx same) t).each (single a, rest) h)
    tokens_of_one ctx (group kind p) t rest same (mid, head, body) =
        subst (λ u. tokens_from u t ≡ token_of_group kind ∷ tokens_from u mid) same
        ((gives_head_at ctx (lawful_at ctx same) t).each (opens kind, mid) head)
        ∙ ap (λ ms. token_of_group kind ∷ ms)
        (joined (tokens_of p) (closes ∷ []) _ (tokens_of_pattern (context_inside kind ctx) p mid (closing ∷ rest) (same_scan_inputs kind ctx ∙ same) body)
        (tokens_after_closing by.0 by.1 rest))

nothing_after : (sets : Bool) (table : Table) → tokens sets table plain [] ≡ []
unfolding tokens
nothing_after sets table = refl

-- The scan finds the marks of the syntax tree, whatever the groups and names of the context are.
pub gives_tokens : (sets : Bool) (table : Table) (t : Source) → IsValidTable table → GivesTokens sets table t
gives_tokens sets table t lawful ctx p flag same h =
    sym (tokens_of_pattern (sets, table) lawful ctx p t [] (ap₂ (λ a b. (a, b)) flag same) h
    ∙ ap (λ ms. tokens_of p ++ ms) (nothing_after sets table) ∙ append-nil (tokens_of p))

-- ---- the syntax tree

named_by-append : (xs ys : List GroupToken) → named_by (xs ++ ys) ≡ named_by xs ++ named_by ys
named_by-append [] ys = refl
named_by-append (GroupTokens.opens ∷ xs) ys = named_by-append xs ys
named_by-append (captures name ∷ xs) ys = ap (λ zs. name ∷ zs) (named_by-append xs ys)
named_by-append (closes ∷ xs) ys = named_by-append xs ys
named_by-append (next ∷ xs) ys = named_by-append xs ys
named_by-append (nests nesting ∷ xs) ys = named_by-append xs ys

named_by-atom : (a : Atom) → named_by (tokens_of_atom a) ≡ []
named_by-atom (literal flags c) = refl
named_by-atom (dot flags) = refl
named_by-atom (anchor flags kind) = refl
named_by-atom (boundary flags inverted) = refl
named_by-atom (class_escape flags kind negated) = refl
named_by-atom (class flags inverted members) = refl
named_by-atom (class_set flags negated value) = refl
named_by-atom (string_property flags written) = refl
named_by-atom (back_reference flags to) = refl

named_by-group : (kind : Group) (ms : List GroupToken) → named_by (token_of_group kind ∷ ms) ≡ names_of_group kind ++ named_by ms
named_by-group grouping ms = refl
named_by-group (modified change) ms = refl
named_by-group (capture name) ms = refl
named_by-group (look negate direction) ms = refl

mutual
  -- The marks have the names of the pattern's groups.
  pub named_by-pattern : (p : Pattern) → named_by (tokens_of p) ≡ names p
  named_by-pattern (one ts) = named_by-terms ts
  named_by-pattern (either ts p) =
      named_by-append (tokens_of_terms ts) (next ∷ tokens_of p) ∙ ap₂ (λ xs ys. xs ++ ys) (named_by-terms ts) (named_by-pattern p)

  named_by-terms : (ts : Terms) → named_by (tokens_of_terms ts) ≡ names_of_terms ts
  named_by-terms no_terms = refl
  named_by-terms (more_terms x q xs) =
      named_by-append (tokens_of_item x) (tokens_of_terms xs) ∙ ap₂ (λ ys zs. ys ++ zs) (named_by-item x) (named_by-terms xs)

  named_by-item : (x : Item) → named_by (tokens_of_item x) ≡ names_of_item x
  named_by-item (atom a) = named_by-atom a
  named_by-item (group kind p) =
      named_by-group kind (tokens_of p ++ closes ∷ [])
      ∙ ap (λ zs. names_of_group kind ++ zs)
      (named_by-append (tokens_of p) (closes ∷ []) ∙ append-nil (named_by (tokens_of p)) ∙ named_by-pattern p)

deepest-atom : (n : ℕ) (a : Atom) (ms : List GroupToken) → deepest n (tokens_of_atom a ++ ms) ≡ max (n + nesting_of_atom a) (deepest n ms)
deepest-atom n (literal flags c) ms = omega (arith, deepest_above n ms)
deepest-atom n (dot flags) ms = omega (arith, deepest_above n ms)
deepest-atom n (anchor flags kind) ms = omega (arith, deepest_above n ms)
deepest-atom n (boundary flags inverted) ms = omega (arith, deepest_above n ms)
deepest-atom n (class_escape flags kind negated) ms = omega (arith, deepest_above n ms)
deepest-atom n (class flags inverted members) ms = omega (arith, deepest_above n ms)
deepest-atom n (class_set flags negated value) ms = refl
deepest-atom n (string_property flags written) ms = omega (arith, deepest_above n ms)
deepest-atom n (back_reference flags to) ms = omega (arith, deepest_above n ms)

deepest-group : (n : ℕ) (kind : Group) (ms : List GroupToken) → deepest n (token_of_group kind ∷ ms) ≡ max n (deepest (n + 1) ms)
deepest-group n grouping ms = refl
deepest-group n (modified change) ms = refl
deepest-group n (capture name) ms = refl
deepest-group n (look negate direction) ms = refl

pub one_level : (p : Pattern) → 1 ≤ nesting p
one_level (one ts) = omega arith
one_level (either ts p) = omega arith

mutual
  -- The depth that a pattern's marks reach from depth n, in which the pattern is counted.
  deepest-pattern : (n : ℕ) (p : Pattern) (ms : List GroupToken) → 1 ≤ n → deepest n (tokens_of p ++ ms) ≡ max (n - 1 + nesting p) (deepest n ms)
  deepest-pattern n (one ts) ms h = omega (arith, deepest-terms n ts ms h)
  deepest-pattern n (either ts p) ms h =
      omega (
        arith,
        ap (deepest n) (append_assoc (tokens_of_terms ts) (next ∷ tokens_of p) ms),
        deepest-terms n ts (next ∷ tokens_of p ++ ms) h,
        deepest-pattern n p ms h,
      )

  deepest-terms : (n : ℕ) (ts : Terms) (ms : List GroupToken) → 1 ≤ n →
      deepest n (tokens_of_terms ts ++ ms) ≡ max (n + nesting_of_terms ts) (deepest n ms)
  deepest-terms n no_terms ms h = omega (arith, deepest_above n ms)
  deepest-terms n (more_terms x q xs) ms h =
      omega (
        arith,
        ap (deepest n) (append_assoc (tokens_of_item x) (tokens_of_terms xs) ms),
        deepest-item n x (tokens_of_terms xs ++ ms) h,
        deepest-terms n xs ms h,
      )

  deepest-item : (n : ℕ) (x : Item) (ms : List GroupToken) → 1 ≤ n →
      deepest n (tokens_of_item x ++ ms) ≡ max (n + nesting_of_item x) (deepest n ms)
  deepest-item n (atom a) ms h = deepest-atom n a ms
  deepest-item n (group kind p) ms h =
      let back : max 1 (n + 1 - 1) ≡ n = omega arith in
      omega (
        arith,
        deepest-group n kind ((tokens_of p ++ closes ∷ []) ++ ms),
        ap (deepest (n + 1)) (append_assoc (tokens_of p) (closes ∷ []) ms),
        deepest-pattern (n + 1) p (closes ∷ ms) (omega arith),
        ap (λ k. deepest k ms) back,
        deepest_above n ms,
        one_level p,
      )

-- The greatest depth of a pattern's marks is its nesting depth.
pub deepest-whole : (p : Pattern) → deepest 1 (tokens_of p) ≡ nesting p
deepest-whole p =
    omega (arith, ap (deepest 1) (append-nil (tokens_of p)), deepest-pattern 1 p [] (omega arith), one_level p)
