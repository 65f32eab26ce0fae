-- The source that remains after a name or modifiers, and the characters of a name.
use Rattle.std.proofs.Common.{◌≡◌, ◌≢◌, ℕ, zero, suc, ◌+◌, ◌<◌, Bool, true, false, cond, ◌==◌, [], ◌∷◌, length, drop, Some, arith}
use Rattle.std.proofs.lemmas.Option.{none-some}
use Rattle.std.specs.Char.{IsScalar}
use Rattle.std.proofs.lemmas.List.Elements.{All-nil, All-cons}
use Rattle.regress_base.specs.Table.{Table}
use Rattle.regress_tree.specs.Reading.{IsText}
use Rattle.regress_lexer.specs.Source.{Source, is_at}
use Rattle.regress_lexer.specs.Digits.{after}
use Rattle.regress_syntax.specs.Syntax.{Name}
use Rattle.regress_syntax.specs.Names.{begins_name, continues_name, literal_or_escape_at, name_character_at, rest_of_name_by, name_at, group_name_at}
use Rattle.regress_lexer.specs.Modifiers.{is_modifier, after_letters_off, modifiers_at}
use Rattle.regress_lexer.proofs.lemmas.Digits.{and_both}
use Rattle.regress_lexer.proofs.lemmas.InRange.{Finds, finds_none, finds_some, finds_cond, finds_then, finds_map}
use Rattle.regress_lexer.proofs.lemmas.After.{IsSuffix, after_same, after_after, after_drop, after_front, after_shorter, Ends, ends_none, ends_some, ends_after, ends_more, ends_then, ends_map, ends_cond, unicode_at-ends}

-- A character takes at least one code point.
written_after-ends : (c : ℕ) (t : Source) → Ends (literal_or_escape_at (c ∷ t)) t
written_after-ends c t =
    ends_cond (c == 92) _ _ t
    (ends_cond (is_at 117 t) _ _ t (ends_after _ t (drop 1 t) (after_drop 1 t) (unicode_at-ends (drop 1 t))) (ends_none t))
    (ends_some (c, t) t (after_same t))

character_after-ends : (p : ℕ → Bool) (c : ℕ) (t : Source) → Ends (name_character_at p (c ∷ t)) t
character_after-ends p c t =
    ends_then (literal_or_escape_at (c ∷ t)) _ t (written_after-ends c t)
    (λ x. ends_cond (p x.0) _ _ x.1 (ends_some x x.1 (after_same x.1)) (ends_none x.1))

name_character_at-ends : (p : ℕ → Bool) (t : Source) → Ends (name_character_at p t) t
name_character_at-ends p [] = ends_none []
name_character_at-ends p (c ∷ t) = ends_more _ c t (character_after-ends p c t)

pub name_character_at-shortens : (p : ℕ → Bool) (t : Source) (x : ℕ × Source) → name_character_at p t ≡ Some x → length x.1 < length t
name_character_at-shortens p [] x e = absurd (none-some x e)
name_character_at-shortens p (c ∷ t) x e = omega (arith, after_shorter t x.1 ((character_after-ends p c t).each x e))

rest_of_name_by-ends : (n : ℕ) (table : Table) (t : Source) → Ends (rest_of_name_by n table t) t
unfolding rest_of_name_by
rest_of_name_by-ends zero table t = ends_none t
rest_of_name_by-ends (suc n) table t =
    ends_cond (is_at 62 t) _ _ t (ends_some _ t (after_drop 1 t))
    (ends_then (name_character_at (continues_name table) t) _ t (name_character_at-ends (continues_name table) t)
    (λ x. ends_map _ (rest_of_name_by n table x.1) x.1 (rest_of_name_by-ends n table x.1)))

name_at-ends : (table : Table) (t : Source) → Ends (name_at table t) t
unfolding name_at
name_at-ends table t =
    ends_then (name_character_at (begins_name table) t) _ t (name_character_at-ends (begins_name table) t)
    (λ x. ends_map _ (rest_of_name_by (length x.1 + 1) table x.1) x.1 (rest_of_name_by-ends (length x.1 + 1) table x.1))

pub group_name_at-ends : (table : Table) (t : Source) → Ends (group_name_at table t) t
group_name_at-ends table t =
    ends_cond (is_at 60 t) _ _ t (ends_after _ t (drop 1 t) (after_drop 1 t) (name_at-ends table (drop 1 t))) (ends_none t)

after_letters_off-after : (t : Source) → IsSuffix t (after_letters_off t)
after_letters_off-after t =
    elim (is_at 45 t) as (λ b. IsSuffix t (cond b (after is_modifier (drop 1 t)) t))
    [ true ↦ after_after t (drop 1 t) _ (after_drop 1 t) (after_front is_modifier (drop 1 t)) | false ↦ after_same t ]

pub modifiers_at-ends : (t : Source) → Ends (modifiers_at t) t
unfolding modifiers_at
modifiers_at-ends t =
    let rest = after is_modifier t in
    ends_cond _ _ _ t
    (ends_some _ t
    (after_after t rest _ (after_front is_modifier t)
    (after_after rest (after_letters_off rest) _ (after_letters_off-after rest) (after_drop 1 (after_letters_off rest)))))
    (ends_none t)

-- ---- the characters of a name

-- Only scalar values pass the test.
abbrev IsOfScalars : (ℕ → Bool) → Type 0
IsOfScalars p = (c : ℕ) → p c ≡ true → IsScalar c

begins_scalar : (table : Table) → IsOfScalars (begins_name table)
begins_scalar table c e = (and_both _ _ e).0

continues_scalar : (table : Table) → IsOfScalars (continues_name table)
continues_scalar table c e = (and_both _ _ e).0

name_character_at-scalar : (p : ℕ → Bool) (t : Source) → IsOfScalars p → Finds IsScalar (name_character_at p t)
name_character_at-scalar p t scalars =
    finds_then (λ _. Unit {0}) IsScalar (literal_or_escape_at t) _ (record { each = λ x e. tt })
    (λ x _. finds_cond IsScalar (p x.0) _ _ (λ e. finds_some IsScalar x (scalars x.0 e)) (λ e. finds_none IsScalar))

rest_of_name_by-text : (n : ℕ) (table : Table) (t : Source) → Finds IsText (rest_of_name_by n table t)
unfolding rest_of_name_by
rest_of_name_by-text zero table t = finds_none IsText
rest_of_name_by-text (suc n) table t =
    finds_cond IsText (is_at 62 t) _ _ (λ _. finds_some IsText ([], drop 1 t) (All-nil IsScalar))
    (λ _. finds_then IsScalar IsText (name_character_at (continues_name table) t) _
    (name_character_at-scalar (continues_name table) t (continues_scalar table))
    (λ x holds. finds_map IsText IsText (λ cs. x.0 ∷ cs) (rest_of_name_by n table x.1)
    (λ cs text. All-cons IsScalar x.0 cs holds text) (rest_of_name_by-text n table x.1)))

-- A valid name is a non-empty list of scalar values.
pub record IsName (name : Name) : Type 0 where
  pub text : IsText name
  pub some : name ≢ []

cons_name : (c : ℕ) (cs : Name) → IsScalar c → IsText cs → IsName (c ∷ cs)
cons_name c cs holds text = record { text = All-cons IsScalar c cs holds text; some = λ e. cc }

name_at-name : (table : Table) (t : Source) → Finds IsName (name_at table t)
unfolding name_at
name_at-name table t =
    finds_then IsScalar IsName (name_character_at (begins_name table) t) _
    (name_character_at-scalar (begins_name table) t (begins_scalar table))
    (λ x holds. finds_map IsText IsName (λ cs. x.0 ∷ cs) (rest_of_name_by (length x.1 + 1) table x.1)
    (λ cs text. cons_name x.0 cs holds text) (rest_of_name_by-text (length x.1 + 1) table x.1))

pub name_characters : (table : Table) (t : Source) → Finds IsName (group_name_at table t)
name_characters table t =
    finds_cond IsName (is_at 60 t) _ _ (λ _. name_at-name table (drop 1 t)) (λ _. finds_none IsName)
