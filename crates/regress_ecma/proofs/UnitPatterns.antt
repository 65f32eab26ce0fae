-- The matcher of ECMA-262 for a pattern whose atoms are outside of pairs does over code units what it does over characters.
use Rattle.std.proofs.Common.{◌≡◌, ◌∙◌, ℕ, zero, suc, ◌+◌, ◌==◌, true, false, List, [], ◌∷◌, length, map, Option, Some, None, option_map, refl, sym, ap, subst, arith}
use Rattle.std.proofs.Math.ListN.{replicate}
use Rattle.std.proofs.lemmas.Bool.{and_parts, false≢true, ne_eqb}
use Rattle.regress_base.specs.declared.types.Flags.{Flags}
use Rattle.regress_tree.specs.Reading.{Direction, forwards, IsText}
use Rattle.regress_tree.specs.Steps as Steps
use Rattle.regress_tree.specs.Steps.{IsStateOf, Setting}
use Rattle.regress_lexer.specs.Source.{Source}
use Rattle.regress_syntax.specs.Grammar.{IsPattern, AreTerms, IsItem}
use Rattle.regress_syntax.specs.Meaning.{atom_steps}
use Rattle.regress_syntax.specs.Productions.{Context, context_inside, single, head_at}
use Rattle.regress_syntax.specs.Syntax.{Name, groups_named, by_name_if_set, Atom, back_reference, Group, grouping, modified, capture, look, Pattern, Terms, Item, one, either, no_terms, more_terms, atom, group, opened_by, direction_of_group}
use Rattle.regress_ecma.specs.Notation.{MatchState, MatchResult, Matcher}
use Rattle.regress_ecma.specs.Assertions.{accept}
use Rattle.regress_ecma.specs.Atoms.{compile_atom}
use Rattle.regress_ecma.specs.CharacterMatchers.{backreference_matcher}
use Rattle.regress_ecma.specs.CodeUnits.{code_units, in_units, unit_capture, unit_position}
use Rattle.regress_ecma.specs.Compile.{compile_group, compile_disjunction, compile_alternative, compile_term}
use Rattle.regress_ecma.specs.CompiledClasses.{atom_of, with_char_sets, terms_with_char_sets, item_with_char_sets}
use Rattle.regress_ecma.specs.SurrogatePairs.{atom_is_outside, is_outside, are_terms_outside, is_item_outside}
use Rattle.regress_ecma.proofs.Derived.{inside_same}
use Rattle.regress_ecma.proofs.InEcma.{AtomsMatch, IsUnder, refers_if_set, under_inside}
use Rattle.regress_ecma.proofs.UnitAtoms.{atom-same}
use Rattle.regress_ecma.proofs.UnitMatchers.{AreSame, itself, Follows, Follows-outcomes, Follows-empty, Follows-or, Follows-sequence, Follows-capture, Follows-look, Follows-quantified}

-- the same state of the text, as a result
pub same_result : (text : List ℕ) (over_units over_text : MatchResult) → AreSame text over_units over_text → over_units ≡ option_map (in_units text) over_text
same_result text None None same = refl
same_result text None (Some x) same = absurd same
same_result text (Some y) None same = absurd same
same_result text (Some y) (Some x) same = ap (λ (z : MatchState). Some z) (same.3 ∙ sym (ap (in_units text) same.2))

module _ (setting : Setting) (all : List (Option Name)) (text : List ℕ) (is_text : IsText text) (over_text : AtomsMatch setting all text)
    (over_units : AtomsMatch setting all (code_units text)) where
  under_units : (ctx : Context) → IsUnder setting all text ctx → IsUnder setting all (code_units text) ctx
  under_units ctx under = record {
    dialect = under.dialect;
    table = under.table;
    unicode = under.unicode;
    unicode_sets = under.unicode_sets;
  }

  -- a reference to no group
  nothing_follows : (ctx : Context) (d : Direction) (ns : List ℕ) → (length ns == 0) ≡ true →
      Follows text d (backreference_matcher setting.table ctx.setting.flags ns d)
  unfolding backreference_matcher
  nothing_follows ctx d [] none = record { same = λ s in' c' c goes. goes s (itself text d s in') }
  nothing_follows ctx d (n ∷ ns) none = absurd (false≢true (sym (ne_eqb (suc (length ns)) 0 (omega arith)) ∙ none))

  other_follows : (ctx : Context) → IsUnder setting all text ctx → (d : Direction) (a : Atom) (t rest : Source) → head_at ctx t ≡ Some (single a, rest) →
      refers_if_set a ≡ false → atom_is_outside setting.table all a ≡ true →
      Follows text d (compile_atom setting.table all ctx.setting.flags d (atom_of ctx a t))
  other_follows ctx under d a t rest found other outside =
      Follows-outcomes text d (atom_steps setting all text d a) (atom_steps setting all (code_units text) d a) _
      (over_text ctx under a t rest found other d) (over_units ctx (under_units ctx under) a t rest found other d)
      (atom-same setting all text is_text a outside d)

  atom_follows : (ctx : Context) → IsUnder setting all text ctx → (d : Direction) (a : Atom) (t rest : Source) → head_at ctx t ≡ Some (single a, rest) →
      atom_is_outside setting.table all a ≡ true → Follows text d (compile_atom setting.table all ctx.setting.flags d (atom_of ctx a t))
  atom_follows ctx under d (back_reference flags (by_name_if_set name)) t rest found outside = nothing_follows ctx d (groups_named name 1 all) outside
  atom_follows ctx under d a t rest found outside = other_follows ctx under d a t rest found refl outside

  group_follows : (d : Direction) (n : ℕ) (kind : Group) (m : Matcher) → Follows text (direction_of_group kind d) m → Follows text d (compile_group n d kind m)
  group_follows d n grouping m inside = inside
  group_follows d n (modified change) m inside = inside
  group_follows d n (capture name) m inside = Follows-capture text d n m inside
  group_follows d n (look negate direction) m inside = Follows-look text d direction negate m inside

  module _ (fuel : ℕ) where
    mutual
      pattern_follows : (ctx : Context) → IsUnder setting all text ctx → (d : Direction) (n : ℕ) (p : Pattern) (t rest : Source)
          (derived : IsPattern ctx p t rest) → is_outside setting.table all p ≡ true →
          Follows text d (compile_disjunction setting.table all fuel ctx.setting.flags d n (with_char_sets ctx p t rest derived))
      pattern_follows ctx under d n (one ts) t rest derived outside = terms_follow ctx under d n ts t rest derived.0 outside
      pattern_follows ctx under d n (either ts p) t rest derived outside =
          let parts = and_parts (are_terms_outside setting.table all ts) (is_outside setting.table all p) outside in
          Follows-or text d _ _ (terms_follow ctx under d n ts t _ derived.1 parts.0) (pattern_follows ctx under d _ p derived.0 rest derived.2 parts.1)

      terms_follow : (ctx : Context) → IsUnder setting all text ctx → (d : Direction) (n : ℕ) (ts : Terms) (t rest : Source)
          (derived : AreTerms ctx ts t rest) → are_terms_outside setting.table all ts ≡ true →
          Follows text d (compile_alternative setting.table all fuel ctx.setting.flags d n (terms_with_char_sets ctx ts t rest derived))
      terms_follow ctx under d n no_terms t rest derived outside = Follows-empty text d
      terms_follow ctx under d n (more_terms x q xs) t rest derived outside =
          let parts = and_parts (is_item_outside setting.table all x) (are_terms_outside setting.table all xs) outside in
          Follows-sequence text d _ _ (Follows-quantified text d _ (item_follows ctx under d n x t derived.0 derived.2 parts.0) fuel n _ q)
          (terms_follow ctx under d _ xs derived.1 rest derived.4 parts.1)

      item_follows : (ctx : Context) → IsUnder setting all text ctx → (d : Direction) (n : ℕ) (x : Item) (t rest : Source) (derived : IsItem ctx x t rest) →
          is_item_outside setting.table all x ≡ true →
          Follows text d (compile_term setting.table all fuel ctx.setting.flags d n (item_with_char_sets ctx x t rest derived))
      item_follows ctx under d n (atom a) t rest derived outside = atom_follows ctx under d a t rest derived outside
      item_follows ctx under d n (group kind p) t rest derived outside =
          group_follows d n kind _
          (subst
          (λ (rer : Flags). Follows text (direction_of_group kind d)
          (compile_disjunction setting.table all fuel rer (direction_of_group kind d) (n + opened_by kind)
          (with_char_sets (context_inside kind ctx) p derived.0 _ derived.2)))
          (inside_same kind ctx)
          (pattern_follows (context_inside kind ctx) (under_inside setting all text kind ctx under) (direction_of_group kind d) (n + opened_by kind)
          p derived.0 _ derived.2 outside))

    unset_units : (n : ℕ) → map (unit_capture text) (replicate n None) ≡ replicate n None
    unset_units zero = refl
    unset_units (suc n) = ap (λ (cs : List (Option (ℕ × ℕ))). None ∷ cs) (unset_units n)

    -- from a position, with all groups unset
    pub result_same : (ctx : Context) → IsUnder setting all text ctx → (p : Pattern) (t rest : Source) (derived : IsPattern ctx p t rest) →
        is_outside setting.table all p ≡ true → (k n : ℕ) → IsStateOf text (record { position = k; captures = replicate n None }) →
        compile_disjunction setting.table all fuel ctx.setting.flags forwards 0 (with_char_sets ctx p t rest derived)
        (record { input = code_units text; end_index = unit_position text k; captures = replicate n None }) accept
        ≡ option_map (in_units text) (compile_disjunction setting.table all fuel ctx.setting.flags forwards 0 (with_char_sets ctx p t rest derived)
        (record { input = text; end_index = k; captures = replicate n None }) accept)
    result_same ctx under p t rest derived outside k n in' =
        let s : Steps.MatchState = record { position = k; captures = replicate n None } in
        let q : Pattern = with_char_sets ctx p t rest derived in
        ap (λ (cs : List (Option (ℕ × ℕ))). compile_disjunction setting.table all fuel ctx.setting.flags forwards 0 q
        (record { input = code_units text; end_index = unit_position text k; captures = cs }) accept) (sym (unset_units n))
        ∙ same_result text _ _
        ((pattern_follows ctx under forwards 0 p t rest derived outside).same s in' accept accept
        (λ u reached. (u, reached.state, refl, refl)))
