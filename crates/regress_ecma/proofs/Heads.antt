-- The start of an item: a property of all groups, and of an atom that is found.
use Rattle.std.proofs.Common.{ℕ, ◌==◌, true, false, [], ◌∷◌, drop, Some, None, refl}
use Rattle.regress_base.specs.Table.{Table}
use Rattle.regress_lexer.specs.Modifiers.{modifiers_at}
use Rattle.regress_lexer.specs.Source.{Source, Found, found_map, char, is_at, opening, colon, question_mark}
use Rattle.regress_syntax.specs.Names.{group_name_at}
use Rattle.regress_syntax.specs.Productions.{Context, Head, single, opens, head_at, atom_by, group_at, angle_at, after_question_mark_at}
use Rattle.regress_syntax.specs.Syntax.{Atom, Group, grouping, modified, capture, look}
use Rattle.regress_tree.specs.Reading.{forwards, backwards}
use Rattle.regress_ecma.proofs.Holds.{Holds, holds_none, holds_some, holds_if, holds_map}

module _ (table : Table) (P : Head → Type 0) (each : (kind : Group) → P (opens kind)) where
  opens_holds : (kind : Group) (t : Source) → Holds P (Some (opens kind, t))
  opens_holds kind t = holds_some P (opens kind) t (each kind)

  angle_holds : (t : Source) → Holds P (angle_at table t)
  angle_holds t =
      holds_if P (is_at (char "=") (drop 1 t)) _ _ (opens_holds (look false backwards) (drop 2 t))
      (holds_if P (is_at (char "!") (drop 1 t)) _ _ (opens_holds (look true backwards) (drop 2 t))
      (holds_map P (λ name. opens (capture (Some name))) (group_name_at table t) (λ name. each (capture (Some name)))))

  question_mark_holds : (t : Source) → Holds P (after_question_mark_at table t)
  question_mark_holds t =
      holds_if P (is_at colon t) _ _ (opens_holds grouping (drop 1 t))
      (holds_if P (is_at (char "=") t) _ _ (opens_holds (look false forwards) (drop 1 t))
      (holds_if P (is_at (char "!") t) _ _ (opens_holds (look true forwards) (drop 1 t))
      (holds_if P (is_at (char "<") t) _ _ (angle_holds t)
      (holds_map P (λ change. opens (modified change)) (modifiers_at t) (λ change. each (modified change))))))

  pub group_holds : (t : Source) → Holds P (group_at table t)
  group_holds t = holds_if P (is_at question_mark t) _ _ (question_mark_holds (drop 1 t)) (opens_holds (capture None) t)

-- a property of an atom, and none of a group
abbrev pub OfAtom : (Atom → Type 0) → Head → Type 0
OfAtom P (single a) = P a
OfAtom P (opens kind) = Unit {0}

single_holds : (P : Atom → Type 0) (found : Found Atom) → Holds P found → Holds (OfAtom P) (found_map single found)
single_holds P None h = holds_none (OfAtom P)
single_holds P (Some (a, t)) h = holds_some (OfAtom P) (single a) t (h.each (a, t) refl)

-- The property of each atom whose first code point is c is that of the start of an item.
pub head_holds : (ctx : Context) (P : Source → Atom → Type 0) → ((c : ℕ) (t : Source) → Holds (P (c ∷ t)) (atom_by ctx c t)) → (t : Source) →
    Holds (OfAtom (P t)) (head_at ctx t)
unfolding head_at
head_holds ctx P atoms [] = holds_none (OfAtom (P []))
head_holds ctx P atoms (c ∷ t) =
    holds_if (OfAtom (P (c ∷ t))) (c == opening) _ _ (group_holds ctx.setting.table (OfAtom (P (c ∷ t))) (λ kind. tt) t)
    (single_holds (P (c ∷ t)) (atom_by ctx c t) (atoms c t))
