-- The marks that the scan finds in the productions of the grammar.
use Rattle.std.proofs.Common.{◌≡◌, ℕ, zero, suc, ◌+◌, ◌<◌, ◌≤◌, Bool, true, false, not, cond, ◌&&◌, ◌||◌, ◌==◌, nat_le, List, [], ◌∷◌, ◌++◌, length, drop, Option, Some, None, is_some, ⊎_elim, refl, sym, ap, ap₂, ◌∙◌, subst, arith, eqb-true}
use Rattle.std.proofs.lemmas.Bool.{cases_lt, cond-false, false≢true}
use Rattle.std.proofs.lemmas.Bool.Decides.{nat_tests}
use lib.Utf8.{scalar}
use Rattle.regress_base.specs.Classes.{word_characters}
use Rattle.regress_base.specs.Intervals.{Bounds, is_within, is_member}
use Rattle.regress_base.specs.declared.charclasses.CharacterClassType.{CharacterClassType}
use Rattle.regress_base.specs.Table.{Table, HasWordAscii, IsValidTable}
use Rattle.regress_lexer.specs.Source.{Source, Found, ◌>>=◌, found_map, opening, closing, colon, bar, full_stop, question_mark, is_one_of, is_at, first_production}
use Rattle.regress_lexer.specs.Digits.{is_decimal, number, front, after}
use Rattle.regress_lexer.specs.Escapes.{unicode_at, character_escape_at}
use Rattle.regress_base.specs.declared.types.Quantifier.{Quantifier}
use Rattle.regress_lexer.specs.Quantifiers.{quantifier_at, is_ordered}
use Rattle.regress_classes.specs.Properties.{Property, of_points, of_strings, property_at}
use Rattle.regress_classes.specs.ClassProductions.{complement, class_letter, class_at}
use Rattle.regress_classes.specs.ClassSets.{Value, class_set_at}
use Rattle.regress_lexer.specs.Modifiers.{is_modifier, letters_off, after_letters_off, are_different, modifiers_at}
use Rattle.regress_syntax.specs.Names.{is_dollar_or_underscore, begins_name, continues_name, name_character_at, rest_of_name_by, name_at, group_name_at}
use Rattle.regress_syntax.specs.Syntax.{Name, Atom, literal, Group, modified, capture}
use Rattle.regress_syntax.specs.Syntax as Syntax
use Rattle.regress_syntax.specs.Productions.{class_parameters, class_flags, compared_members, complements_first, Context, Head, single, opens, angle_at, modified_at, after_question_mark_at, group_at, has_name, character_at, property_atom, property_atom_at, number_reference_at, name_reference_at, escape_productions, escaped_by, escaped_at, brace_by, brackets_at, atom_productions, atom_by, head_at, no_quantifier_at, this_quantifier, optional_quantifier_at}
use Rattle.regress_syntax.specs.Scan.{Mode, plain, escape, class, opened_at, tokens, is_insignificant}
use Rattle.regress_syntax.specs.GroupTokens.{GroupToken, captures, token_of_group, tokens_of_atom}
use Rattle.regress_syntax.specs.GroupTokens as GroupTokens
use Rattle.regress_lexer.proofs.lemmas.Digits.{and_both, drop_one_more}
use Rattle.regress_syntax.proofs.ScanLemmas.{quiet_decimal, quiet_plain, Passes, Leads, Gives, in_text, gives_none, gives_some, gives_after, gives_then, gives_map, gives_cond, gives_leads, passes_same, passes_then, leads_none, leads_some, leads_after, leads_then, leads_map, leads_cond, pass_quiet, pass_at, pass_backslash, pass_escaped, pass_after, lead_unicode_at, lead_character_escape_at, lead_quantifier_at}
use Rattle.regress_syntax.proofs.ScanClasses.{lead_property_at, lead_class_at}
use Rattle.regress_syntax.proofs.ScanSets.{gives_class_set_at}
use Rattle.regress_lexer.proofs.lemmas.Sources.{EachProduction, no_more, ◌also◌, first_production-has}

-- ---- characters of names

-- The scan ignores the characters of names.
quiet_member : (set : List Bounds) (c : ℕ) → HasWordAscii set → is_member set c ≡ true → is_insignificant c ≡ true
unfolding is_member is_within
quiet_member set c ascii e =
    ⊎_elim
    (λ (low : c < 0x80). let word : is_member word_characters c ≡ true = ascii c low e in grind (arith, nat_tests, word))
    (λ (high : 0x80 ≤ c). grind (arith, nat_tests))
    (cases_lt c 0x80)

quiet_begins : (table : Table) (c : ℕ) → IsValidTable table → begins_name table c ≡ true → is_insignificant c ≡ true
quiet_begins table c lawful e = by (is_member table.id_start c) refl
  where
    by : (q : Bool) → is_member table.id_start c ≡ q → is_insignificant c ≡ true
    by true member = quiet_member table.id_start c lawful.id_start_ascii member
    by false absent =
        let sign : (scalar c && (is_dollar_or_underscore c || false)) ≡ true = rw absent at e in
        let one = (and_both (scalar c) (is_dollar_or_underscore c || false) sign).1 in grind (arith, nat_tests, one)

quiet_continues : (table : Table) (c : ℕ) → IsValidTable table → continues_name table c ≡ true → is_insignificant c ≡ true
quiet_continues table c lawful e = by (is_member table.id_continue c) refl
  where
    by : (q : Bool) → is_member table.id_continue c ≡ q → is_insignificant c ≡ true
    by true member = quiet_member table.id_continue c lawful.id_continue_ascii member
    by false absent =
        let sign : (scalar c && (is_dollar_or_underscore c || c == 0x200C || c == 0x200D || false)) ≡ true = rw absent at e in
        let one = (and_both (scalar c) (is_dollar_or_underscore c || c == 0x200C || c == 0x200D || false) sign).1 in grind (arith, nat_tests, one)

quiet_modifier : (c : ℕ) → is_modifier c ≡ true → is_insignificant c ≡ true
quiet_modifier c e = grind (arith, nat_tests)

module _ {sets : Bool} {table : Table} where
  -- ---- names

  lead_written_unicode : (t : Source) → Leads sets table plain (92 ∷ t) plain (cond (is_at 117 t) (unicode_at (drop 1 t)) None)
  lead_written_unicode [] = leads_none
  lead_written_unicode (c ∷ t) =
      leads_cond (c == 117) _ _
      (λ _. leads_after (passes_then (pass_backslash in_text (c ∷ t)) (pass_escaped in_text c t))
      (lead_unicode_at in_text t))
      (λ _. leads_none)

  lead_name_character_at : (p : ℕ → Bool) (t : Source) → ((c : ℕ) → p c ≡ true → is_insignificant c ≡ true) →
      Leads sets table plain t plain (name_character_at p t)
  lead_name_character_at p [] quiet = leads_none
  lead_name_character_at p (c ∷ t) quiet = by (c == 92) refl
    where
      by : (q : Bool) → (c == 92) ≡ q →
          Leads sets table plain (c ∷ t) plain
          (cond q (cond (is_at 117 t) (unicode_at (drop 1 t)) None) (Some (c, t)) >>= λ (x : ℕ × Source). cond (p x.0) (Some (x.0, x.1)) None)
      by true e =
          leads_then (cond (is_at 117 t) (unicode_at (drop 1 t)) None) _
          (subst (λ k. Leads sets table plain (k ∷ t) plain (cond (is_at 117 t) (unicode_at (drop 1 t)) None)) (sym (eqb-true c 92 e)) (lead_written_unicode t))
          (λ x. leads_cond (p x.0) _ _ (λ _. leads_some x passes_same) (λ _. leads_none))
      by false e =
          leads_cond (p c) _ _ (λ passes. leads_some (c, t) (pass_quiet in_text c t (quiet c passes)))
          (λ _. leads_none)

  module _ (lawful : IsValidTable table) where
    lead_rest_of_name_by : (n : ℕ) (t : Source) → Leads sets table plain t plain (rest_of_name_by n table t)
    unfolding rest_of_name_by
    lead_rest_of_name_by zero t = leads_none
    lead_rest_of_name_by (suc n) t =
        leads_cond (is_at 62 t) _ _ (λ e. leads_some ([], drop 1 t) (pass_at in_text 62 t refl e))
        (λ _. leads_then (name_character_at (continues_name table) t) _
        (lead_name_character_at (continues_name table) t (λ c. quiet_continues table c lawful))
        (λ x. leads_map (λ cs. x.0 ∷ cs) (rest_of_name_by n table x.1) (lead_rest_of_name_by n x.1)))

    lead_name_at : (t : Source) → Leads sets table plain t plain (name_at table t)
    unfolding name_at
    lead_name_at t =
        leads_then (name_character_at (begins_name table) t) _
        (lead_name_character_at (begins_name table) t (λ c. quiet_begins table c lawful))
        (λ x. leads_map (λ cs. x.0 ∷ cs) (rest_of_name_by (length x.1 + 1) table x.1) (lead_rest_of_name_by (length x.1 + 1) x.1))

    pub lead_group_name_at : (t : Source) → Leads sets table plain t plain (group_name_at table t)
    lead_group_name_at t =
        leads_cond (is_at 60 t) _ _ (λ e. leads_after (pass_at in_text 60 t refl e) (lead_name_at (drop 1 t)))
        (λ _. leads_none)

  -- ---- modifiers

  pass_letters_off : (t : Source) → Passes sets table plain t plain (after_letters_off t)
  pass_letters_off t = by (is_at 45 t) refl
    where
      by : (q : Bool) → is_at 45 t ≡ q → Passes sets table plain t plain (cond q (after is_modifier (drop 1 t)) t)
      by true e = passes_then (pass_at in_text 45 t refl e) (pass_after in_text is_modifier quiet_modifier (drop 1 t))
      by false e = passes_same

  pub lead_modifiers_at : (t : Source) → Leads sets table plain t plain (modifiers_at t)
  unfolding modifiers_at
  lead_modifiers_at t =
      let rest = after is_modifier t in
      let letters = front is_modifier t ++ letters_off rest in
      leads_cond (not (length letters == 0) && are_different letters && is_at colon (after_letters_off rest)) _ _
      (λ e. leads_some (_, drop 1 (after_letters_off rest))
      (passes_then (pass_after in_text is_modifier quiet_modifier t)
      (passes_then (pass_letters_off rest) (pass_at in_text colon (after_letters_off rest) refl (and_both _ _ e).1))))
      (λ _. leads_none)

-- ---- items without a body

-- the marks of the source from a position on
abbrev tokens_in : Context → Mode → Source → List GroupToken
tokens_in ctx m t = tokens ctx.setting.flags.unicode_sets ctx.setting.table m t

-- an item's marks and those of the source after it
abbrev after_atom : Context → Atom → Source → List GroupToken
after_atom ctx a t = tokens_of_atom a ++ tokens_in ctx plain t

module _ (ctx : Context) (lawful : IsValidTable ctx.setting.table) where
  -- An item without marks leads to the marks after it.
  gives_unmarked : {A : Type 0} {m : Mode} {t : Source} (f : A → Atom) (found : Found A) → ((x : A) → tokens_of_atom (f x) ≡ []) →
      Leads ctx.setting.flags.unicode_sets ctx.setting.table m t plain found → Gives (tokens_in ctx m t) (after_atom ctx) (found_map f found)
  gives_unmarked f found unmarked h =
      gives_map (λ _. tokens_in ctx plain) f found (gives_leads h) (λ x t. ap (λ ms. ms ++ tokens_in ctx plain t) (sym (unmarked x)))

  gives_character_at : (c : ℕ) (t : Source) → Gives (tokens_in ctx escape (c ∷ t)) (after_atom ctx) (character_at ctx c t)
  gives_character_at c t =
      gives_unmarked (literal ctx.setting.flags) (character_escape_at ctx.dialect ctx.setting.flags.unicode (c ∷ t)) (λ x. refl)
      (lead_character_escape_at in_text ctx.dialect ctx.setting.flags.unicode (c ∷ t))

  gives_property_atom : (negated : Bool) (x : Property × Source) → Gives (tokens_in ctx plain x.1) (after_atom ctx) (property_atom ctx negated x)
  gives_property_atom negated (of_points members, t) = gives_some (_, t) (by (negated && complements_first ctx))
    where
      by : (b : Bool) → tokens_in ctx plain t ≡
          after_atom ctx (cond b (Syntax.class ctx.setting.flags false (complement members)) (Syntax.class ctx.setting.flags negated members)) t
      by true = refl
      by false = refl
  gives_property_atom negated (of_strings written, t) = gives_cond negated _ _ (λ _. gives_none) (λ _. gives_some (_, t) refl)

  gives_property_atom_at : (negated : Bool) (c : ℕ) (t : Source) →
      Gives (tokens_in ctx escape (c ∷ t)) (after_atom ctx) (property_atom_at ctx negated t)
  gives_property_atom_at negated c t =
      gives_then (λ _. tokens_in ctx plain) (property_at ctx.setting.flags.unicode_sets ctx.setting.table t) _
      (gives_leads (leads_after (pass_escaped in_text c t) (lead_property_at in_text ctx.setting.flags.unicode_sets ctx.setting.table t)))
      (gives_property_atom negated)

  pass_number : (c : ℕ) (t : Source) → is_decimal c ≡ true →
      Passes ctx.setting.flags.unicode_sets ctx.setting.table escape (c ∷ t) plain (after is_decimal (c ∷ t))
  unfolding after
  pass_number c t e =
      rw e (passes_then (pass_escaped in_text c t)
      (pass_after in_text is_decimal quiet_decimal t))

  gives_numbered_at : (c : ℕ) (t : Source) → is_decimal c ≡ true → Gives (tokens_in ctx escape (c ∷ t)) (after_atom ctx) (number_reference_at ctx c t)
  gives_numbered_at c t e =
      gives_cond (nat_le (number 10 (front is_decimal (c ∷ t))) ctx.groups) _ _
      (λ _. gives_some (_, after is_decimal (c ∷ t)) (pass_number c t e).same)
      (λ _. gives_cond ctx.setting.flags.unicode _ _ (λ _. gives_none)
      (λ _. gives_character_at c t))

  gives_named_at : (t : Source) → Gives (tokens_in ctx plain t) (after_atom ctx) (name_reference_at ctx t)
  gives_named_at t =
      gives_then (λ _. tokens_in ctx plain) (group_name_at ctx.setting.table t) _ (gives_leads (lead_group_name_at lawful t))
      (λ x. gives_cond (has_name x.0 ctx.names) _ _
      (λ _. gives_some (_, x.1) refl)
      (λ _. gives_none))

  -- A literal backslash leaves the `c` in the source, which the scan ignores.
  same_lone_backslash : (c : ℕ) (t : Source) → tokens_in ctx escape (c ∷ t) ≡ tokens_in ctx plain (99 ∷ t)
  unfolding tokens
  same_lone_backslash c t = refl

  escape_productions_give : (c : ℕ) (t : Source) → EachProduction (Gives (tokens_in ctx escape (c ∷ t)) (after_atom ctx)) (escape_productions ctx c t)
  escape_productions_give c t =
      (λ _. gives_some (_, t) (pass_escaped in_text c t).same)
      also (λ _. gives_some (_, t) (pass_escaped in_text c t).same)
      also (λ _. gives_some (_, 99 ∷ t) (same_lone_backslash c t))
      also (λ _. gives_property_atom_at _ c t)
      also (λ e. gives_numbered_at c t (grind (arith, nat_tests)))
      also (λ _. gives_after (pass_escaped in_text c t).same (gives_named_at t))
      also (λ _. gives_character_at c t)
      also no_more

  gives_escaped_by : (c : ℕ) (t : Source) → Gives (tokens_in ctx escape (c ∷ t)) (after_atom ctx) (escaped_by ctx c t)
  gives_escaped_by c t = by (class_letter c)
    where
      by : (letter : Option (CharacterClassType × Bool)) →
          Gives (tokens_in ctx escape (c ∷ t)) (after_atom ctx)
          (elim letter as (λ _. Found Atom) [
            | Some named ↦ Some (Syntax.class_escape (class_flags ctx) named.0 named.1, t)
            | None ↦ first_production (escape_productions ctx c t)
          ])
      by (Some named) = gives_some (_, t) (pass_escaped in_text c t).same
      by None = first_production-has (Gives (tokens_in ctx escape (c ∷ t)) (after_atom ctx)) (escape_productions ctx c t) gives_none (escape_productions_give c t)

  gives_escaped_at : (t : Source) → Gives (tokens_in ctx escape t) (after_atom ctx) (escaped_at ctx t)
  gives_escaped_at [] = gives_none
  gives_escaped_at (c ∷ t) = gives_escaped_by c t

  -- Outside of classes the scan ignores `]` too.
  same_brace : (c : ℕ) (t : Source) → is_one_of "{]}" c ≡ true → tokens_in ctx plain (c ∷ t) ≡ tokens_in ctx plain t
  unfolding tokens
  same_brace c t e =
      let not_backslash : (c == 92) ≡ false = grind (arith, nat_tests) in
      let not_bracket : (c == 91) ≡ false = grind (arith, nat_tests) in
      let not_opening : (c == opening) ≡ false = grind (arith, nat_tests) in
      let not_closing : (c == closing) ≡ false = grind (arith, nat_tests) in
      let not_bar : (c == bar) ≡ false = grind (arith, nat_tests) in
      rw (not_backslash, not_bracket, not_opening, not_closing, not_bar) refl

  gives_brace_by : (c : ℕ) (t : Source) → is_one_of "{]}" c ≡ true →
      Gives (tokens_in ctx plain (c ∷ t)) (after_atom ctx) (brace_by ctx c t)
  gives_brace_by c t e =
      gives_cond (ctx.setting.flags.unicode || is_some (quantifier_at (c ∷ t))) _ _ (λ _. gives_none)
      (λ _. gives_some (_, t) (same_brace c t e))

  -- With the flag v a class has a mark.
  gives_class : (sets : Bool) (t : Source) →
      Gives (tokens sets ctx.setting.table (class 0 0) t) (λ a rest. tokens_of_atom a ++ tokens sets ctx.setting.table plain rest)
      (cond sets
      (found_map (λ (x : Bool × Value). Syntax.class_set ctx.setting.flags x.0 x.1)
      (class_set_at ctx.setting.table (class_parameters ctx) t))
      (found_map (λ (x : Bool × List Bounds). Syntax.class (class_flags ctx) x.0 (compared_members ctx x.1))
      (class_at ctx.setting.table (class_parameters ctx) t)))
  gives_class true t = gives_map _ _ _ (gives_class_set_at ctx.setting.table (class_parameters ctx) t) (λ x rest. refl)
  gives_class false t = gives_map _ _ _ (gives_leads (lead_class_at (class_parameters ctx) t)) (λ x rest. refl)

  same_open_bracket : (t : Source) → tokens_in ctx plain (91 ∷ t) ≡ tokens_in ctx (class 0 0) t
  unfolding tokens
  same_open_bracket t = refl

  atom_productions_give : (c : ℕ) (t : Source) → EachProduction (Gives (tokens_in ctx plain (c ∷ t)) (after_atom ctx)) (atom_productions ctx c t)
  atom_productions_give c t =
      (λ e. gives_some (_, t) (pass_at in_text full_stop (c ∷ t) refl e).same)
      also (λ e. gives_some (_, t) (pass_at in_text 94 (c ∷ t) refl e).same)
      also (λ e. gives_some (_, t) (pass_at in_text 36 (c ∷ t) refl e).same)
      also (λ e. subst (λ k. Gives (tokens_in ctx plain (k ∷ t)) (after_atom ctx) (escaped_at ctx t)) (sym (eqb-true c 92 e))
      (gives_after (pass_backslash in_text t).same (gives_escaped_at t)))
      also (λ e. subst (λ k. Gives (tokens_in ctx plain (k ∷ t)) (after_atom ctx) (brackets_at ctx t)) (sym (eqb-true c 91 e))
      (gives_after (same_open_bracket t) (gives_class ctx.setting.flags.unicode_sets t)))
      also gives_brace_by c t
      also (λ e. gives_some (_, t) (pass_quiet in_text c t (quiet_plain c e)).same)
      also no_more

  gives_atom_by : (c : ℕ) (t : Source) → Gives (tokens_in ctx plain (c ∷ t)) (after_atom ctx) (atom_by ctx c t)
  gives_atom_by c t = first_production-has (Gives (tokens_in ctx plain (c ∷ t)) (after_atom ctx)) (atom_productions ctx c t) gives_none (atom_productions_give c t)

  -- ---- quantifiers

  pub lead_times_at : (allowed : Bool) (t : Source) → Leads ctx.setting.flags.unicode_sets ctx.setting.table plain t plain (optional_quantifier_at ctx allowed t)
  unfolding optional_quantifier_at
  lead_times_at allowed t = by (quantifier_at t) (lead_quantifier_at t)
    where
      by : (found : Found Quantifier) → Leads ctx.setting.flags.unicode_sets ctx.setting.table plain t plain found →
          Leads ctx.setting.flags.unicode_sets ctx.setting.table plain t plain (elim found as (λ _. Found (Option Quantifier)) [
            | None ↦ no_quantifier_at ctx t
            | Some x ↦ this_quantifier ctx allowed x
          ])
      by None h = leads_cond (ctx.setting.flags.unicode && is_at 123 t) _ _ (λ _. leads_none) (λ _. leads_some (None, t) passes_same)
      by (Some x) h = leads_cond (allowed && is_ordered x.0) _ _ (λ _. leads_some (Some x.0, x.1) (h.each x refl)) (λ _. leads_none)

-- ---- the opening of a group

-- the marks of the start of an item
abbrev pub tokens_of_head : Head → List GroupToken
tokens_of_head (single a) = tokens_of_atom a
tokens_of_head (opens kind) = token_of_group kind ∷ []

module _ (table : Table) where
  -- Without a `<` there is no name.
  no_angle : (t : Source) → is_at 60 t ≡ false → group_name_at table t ≡ None
  no_angle t e = cond-false _ _ _ e

  -- A code point that cannot begin a name begins none.
  no_name_at : (k : ℕ) (t : Source) → (k == 92) ≡ false → begins_name table k ≡ false → is_at k t ≡ true → name_at table t ≡ None
  unfolding name_at
  no_name_at k [] backslash begins e = refl
  no_name_at k (c ∷ t) backslash begins e =
      subst (λ d. name_at table (d ∷ t) ≡ None) (sym (eqb-true c k e)) (rw (backslash, begins) refl)

  no_group_name_at : (k : ℕ) (t : Source) → (k == 92) ≡ false → begins_name table k ≡ false → is_at k (drop 1 t) ≡ true →
      group_name_at table t ≡ None
  no_group_name_at k t backslash begins e = by (is_at 60 t)
    where
      by : (q : Bool) → cond q (name_at table (drop 1 t)) None ≡ None
      by true = no_name_at k (drop 1 t) backslash begins e
      by false = refl

module _ {table : Table} (lawful : IsValidTable table) where
  -- An ASCII character that is no word character, `$` or `_` cannot begin a name.
  begins_none : (c : ℕ) → c < 0x80 → is_member word_characters c ≡ false → is_dollar_or_underscore c ≡ false → begins_name table c ≡ false
  begins_none c low no_word no_sign = by (is_member table.id_start c) refl
    where
      by : (q : Bool) → is_member table.id_start c ≡ q → (scalar c && (is_dollar_or_underscore c || q)) ≡ false
      by true member = absurd (false≢true (sym no_word ∙ lawful.id_start_ascii c low member))
      by false absent = rw no_sign (elim (scalar c) as (λ b. (b && false) ≡ false) [ true ↦ refl | false ↦ refl ])

  equals_begins_none : begins_name table 61 ≡ false
  unfolding is_member is_within
  equals_begins_none = begins_none 61 (omega arith) refl refl

  exclamation_begins_none : begins_name table 33 ≡ false
  unfolding is_member is_within
  exclamation_begins_none = begins_none 33 (omega arith) refl refl

-- the marks of the start of an item and of the source after it
abbrev pub after_head : (sets : Bool) (table : Table) → Head → Source → List GroupToken
after_head sets table head t = tokens_of_head head ++ tokens sets table plain t

-- the mark of a parenthesis with `?`, by the name that follows
abbrev named_token : Found Name → GroupToken
named_token found = elim found as (λ _. GroupToken) [ None ↦ GroupTokens.opens | Some x ↦ captures (Some x.0) ]

-- Only one code point is at the start.
other_at : (k j : ℕ) (t : Source) → (k == j) ≡ false → is_at k t ≡ true → is_at j t ≡ false
other_at k j [] other e = refl
other_at k j (c ∷ t) other e = subst (λ d. (d == j) ≡ false) (sym (eqb-true c k e)) other

module _ {sets : Bool} {table : Table} where
  -- What is found has this mark.
  gives_marked : {A : Type 0} {t : Source} (m : GroupToken) (f : A → Head) (found : Found A) → Leads sets table plain t plain found →
      ((x : A) → tokens_of_head (f x) ≡ m ∷ []) → Gives (m ∷ tokens sets table plain t) (after_head sets table) (found_map f found)
  gives_marked m f None h same = gives_none
  gives_marked m f (Some x) h same =
      gives_some (f x.0, x.1) (ap (λ ms. m ∷ ms) (h.each x refl).same ∙ ap (λ ms. ms ++ tokens sets table plain x.1) (sym (same x.0)))

  -- A named group has its mark.
  gives_named : {t : Source} (found : Found Name) → Leads sets table plain t plain found →
      Gives (named_token found ∷ tokens sets table plain t) (after_head sets table) (found_map (λ name. opens (capture (Some name))) found)
  gives_named None h = gives_none
  gives_named (Some x) h = gives_some (opens (capture (Some x.0)), x.1) (ap (λ ms. captures (Some x.0) ∷ ms) (h.each x refl).same)

  -- A group without a name has the mark of a group that captures nothing.
  nameless : (kind : Group) (t rest : Source) → token_of_group kind ≡ GroupTokens.opens → group_name_at table t ≡ None →
      Passes sets table plain t plain rest → Gives (named_token (group_name_at table t) ∷ tokens sets table plain t) (after_head sets table)
      (Some (opens kind, rest))
  nameless kind t rest opens_none none h =
      gives_some (opens kind, rest) (ap₂ (λ a b. a ∷ b) (ap named_token none ∙ sym opens_none) h.same)

  pass_two : (k : ℕ) (t : Source) → is_insignificant k ≡ true → is_at 60 t ≡ true → is_at k (drop 1 t) ≡ true → Passes sets table plain t plain (drop 2 t)
  pass_two k t quiet e next =
      subst (λ u. Passes sets table plain t plain u) (drop_one_more t) (passes_then (pass_at in_text 60 t refl e) (pass_at in_text k (drop 1 t) quiet next))

module _ (sets : Bool) {table : Table} (lawful : IsValidTable table) where
  gives_angle_at : (t : Source) → is_at 60 t ≡ true → Gives (named_token (group_name_at table t) ∷ tokens sets table plain t) (after_head sets table)
      (angle_at table t)
  gives_angle_at t e =
      gives_cond (is_at 61 (drop 1 t)) _ _
      (λ equals. nameless _ t (drop 2 t) refl (no_group_name_at table 61 t refl (equals_begins_none lawful) equals) (pass_two 61 t refl e equals))
      (λ _. gives_cond (is_at 33 (drop 1 t)) _ _
      (λ token. nameless _ t (drop 2 t) refl (no_group_name_at table 33 t refl (exclamation_begins_none lawful) token) (pass_two 33 t refl e token))
      (λ _. gives_named (group_name_at table t) (lead_group_name_at lawful t)))

  -- A character after `(?` that begins no name leads to the mark of a group that captures nothing.
  gives_sign : (kind : Group) (k : ℕ) (t : Source) → token_of_group kind ≡ GroupTokens.opens → is_insignificant k ≡ true → (k == 60) ≡ false → is_at k t ≡ true →
      Gives (named_token (group_name_at table t) ∷ tokens sets table plain t) (after_head sets table) (Some (opens kind, drop 1 t))
  gives_sign kind k t same quiet other e = nameless kind t (drop 1 t) same (no_angle table t (other_at k 60 t other e)) (pass_at in_text k t quiet e)

  gives_after_mark_at : (t : Source) → Gives (named_token (group_name_at table t) ∷ tokens sets table plain t) (after_head sets table) (after_question_mark_at table t)
  gives_after_mark_at t =
      gives_cond (is_at colon t) _ _ (gives_sign _ colon t refl refl refl)
      (λ _. gives_cond (is_at 61 t) _ _ (gives_sign _ 61 t refl refl refl)
      (λ _. gives_cond (is_at 33 t) _ _ (gives_sign _ 33 t refl refl refl)
      (λ _. gives_cond (is_at 60 t) _ _ (gives_angle_at t)
      (λ other. subst (λ found. Gives (named_token found ∷ tokens sets table plain t) (after_head sets table) (modified_at t)) (sym (no_angle table t other))
      (gives_marked GroupTokens.opens (λ change. opens (modified change)) (modifiers_at t) (lead_modifiers_at t) (λ change. refl))))))

  gives_group_at : (t : Source) → Gives (opened_at table t ∷ tokens sets table plain t) (after_head sets table) (group_at table t)
  gives_group_at t = by (is_at question_mark t) refl
    where
      by : (q : Bool) → is_at question_mark t ≡ q →
          Gives (cond q (named_token (group_name_at table (drop 1 t))) (captures None) ∷ tokens sets table plain t) (after_head sets table)
          (cond q (after_question_mark_at table (drop 1 t)) (Some (opens (capture None), t)))
      by true e =
          subst (λ ms. Gives (named_token (group_name_at table (drop 1 t)) ∷ ms) (after_head sets table) (after_question_mark_at table (drop 1 t)))
          (sym (pass_at in_text question_mark t refl e).same) (gives_after_mark_at (drop 1 t))
      by false e = gives_some (opens (capture None), t) refl

pub gives_head_at : (ctx : Context) → IsValidTable ctx.setting.table → (t : Source) →
    Gives (tokens_in ctx plain t) (after_head ctx.setting.flags.unicode_sets ctx.setting.table) (head_at ctx t)
unfolding head_at tokens
gives_head_at ctx lawful [] = gives_none
gives_head_at ctx lawful (c ∷ t) =
    gives_cond (c == opening) _ _
    (λ e. subst (λ k. Gives (tokens_in ctx plain (k ∷ t)) (after_head ctx.setting.flags.unicode_sets ctx.setting.table) (group_at ctx.setting.table t))
    (sym (eqb-true c opening e))
    (gives_group_at ctx.setting.flags.unicode_sets lawful t))
    (λ _. gives_map (after_atom ctx) single (atom_by ctx c t) (gives_atom_by ctx lawful c t) (λ a rest. refl))
