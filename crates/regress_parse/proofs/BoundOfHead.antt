-- The start of an item: a group has a name only if the source opens a named group there, and an atom has at most as
-- many nodes as its first code point is counted for.
use Rattle.std.proofs.Common.{◌≡◌, ℕ, ◌+◌, ◌*◌, ◌≤◌, nat_le, Bool, true, false, cond, ◌&&◌, ◌||◌, ◌==◌, List, [], ◌∷◌, length, drop, Option, Some, None, is_some, refl, sym, subst, arith, eqb-true}
use Rattle.std.proofs.lemmas.Bool.{and_parts}
use Rattle.regress_base.specs.Table.{Table}
use Rattle.regress_base.specs.Intervals.{Bounds}
use Rattle.regress_base.specs.declared.charclasses.CharacterClassType.{CharacterClassType}
use Rattle.regress_tree.specs.Reading.{forwards}
use Rattle.regress_tree.specs.Tree.{list, Leaf}
use Rattle.regress_tree.specs.Visits.{nodes, nodes_in_list}
use Rattle.regress_base.specs.declared.types.Flags.{Flags}
use Rattle.regress_lexer.specs.declared.dialect.Dialect.{Dialect}
use Rattle.regress_lexer.specs.declared.dialect.Dialect.TheVariants.{Regress, Ecma}
use Rattle.regress_lexer.specs.Source.{Source, Found, found_map, opening, first_production, is_at}
use Rattle.regress_lexer.specs.Digits.{is_decimal, number, front}
use Rattle.regress_lexer.specs.Escapes.{character_escape_at}
use Rattle.regress_lexer.specs.Quantifiers.{quantifier_at}
use Rattle.regress_lexer.specs.Modifiers.{modifiers_at}
use Rattle.regress_lexer.proofs.lemmas.InRange.{Finds, finds_none, finds_some, finds_cond, finds_then, finds_map}
use Rattle.regress_lexer.proofs.lemmas.Sources.{EachProduction, no_more, ◌also◌, first_production-has}
use Rattle.regress_classes.specs.Properties.{Property, of_points, of_strings, property_at}
use Rattle.regress_classes.specs.ClassProductions.{complement, class_letter, class_at}
use Rattle.regress_classes.specs.ClassSets.{class_set_at}
use Rattle.regress_syntax.specs.Syntax.{Name, back_reference, Atom, class, class_set, class_escape, grouping, modified, capture, look, groups_named}
use Rattle.regress_syntax.specs.Names.{group_name_at}
use Rattle.regress_syntax.specs.Productions.{class_parameters, class_flags, compared_members, complements_first, Context, Head, single, opens, angle_at, after_question_mark_at, group_at, has_names, has_name, character_at, property_atom, property_atom_at, number_reference_at, named_target, name_reference_at, escape_productions, escaped_by, escaped_at, brackets_at, atom_productions, atom_by, head_by}
use Rattle.regress_parse.specs.TreeOf.{references, alternation, concatenation, strings_or_points, tree_of_atom}
use Rattle.regress_parse.specs.Bound.{opens_name, nodes_at}
use Rattle.regress_parse.proofs.BoundOfSource.{nodes_at-some}

-- Whatever is found has the trivial property.
pub any_found : {A : Type 0} (found : Found A) → Finds (λ _. Unit {0}) found
any_found found = record { each = λ x e. tt }

-- ---- the opening of a group

-- The property holds of an atom, and a group has a name only if a named group is opened there.
abbrev pub Fits : (Atom → Type 0) → (opened : Bool) → Head → Type 0
Fits Q opened (single a) = Q a
Fits Q opened (opens grouping) = Unit {0}
Fits Q opened (opens (modified change)) = Unit {0}
Fits Q opened (opens (capture None)) = Unit {0}
Fits Q opened (opens (capture (Some name))) = opened ≡ true
Fits Q opened (opens (look negate direction)) = Unit {0}

module _ (table : Table) (Q : Atom → Type 0) where
  angle-fits : (c b : ℕ) (t : Source) → (c == opening) ≡ true → (b == 63) ≡ true → is_at 60 t ≡ true →
      Finds (Fits Q (opens_name (c ∷ b ∷ t))) (angle_at table t)
  angle-fits c b t paren question angle =
      finds_cond _ (is_at 61 (drop 1 t)) _ _ (λ _. finds_some _ _ tt)
      (λ no_equals. finds_cond _ (is_at 33 (drop 1 t)) _ _ (λ _. finds_some _ _ tt)
      (λ no_mark. finds_map (λ _. Unit {0}) _ _ (group_name_at table t) (λ x _. rw (paren, question, angle, no_equals, no_mark) refl)
      (any_found (group_name_at table t))))

  after_mark-fits : (c b : ℕ) (t : Source) → (c == opening) ≡ true → (b == 63) ≡ true →
      Finds (Fits Q (opens_name (c ∷ b ∷ t))) (after_question_mark_at table t)
  after_mark-fits c b t paren question =
      finds_cond _ (is_at 58 t) _ _ (λ _. finds_some _ _ tt)
      (λ _. finds_cond _ (is_at 61 t) _ _ (λ _. finds_some _ _ tt)
      (λ _. finds_cond _ (is_at 33 t) _ _ (λ _. finds_some _ _ tt)
      (λ _. finds_cond _ (is_at 60 t) _ _ (angle-fits c b t paren question)
      (λ _. finds_map (λ _. Unit {0}) _ _ (modifiers_at t) (λ x _. tt) (any_found (modifiers_at t))))))

  group_at-fits : (c : ℕ) (t : Source) → (c == opening) ≡ true → Finds (Fits Q (opens_name (c ∷ t))) (group_at table t)
  group_at-fits c [] paren = finds_some _ _ tt
  group_at-fits c (b ∷ t) paren = finds_cond _ (b == 63) _ _ (after_mark-fits c b t paren) (λ _. finds_some _ _ tt)

pub head_by-fits : (ctx : Context) (Q : Atom → Type 0) (c : ℕ) (t : Source) → Finds Q (atom_by ctx c t) →
    Finds (Fits Q (opens_name (c ∷ t))) (head_by ctx c t)
head_by-fits ctx Q c t each =
    finds_cond _ (c == opening) _ _ (group_at-fits ctx.setting.table Q c t) (λ _. finds_map Q _ single (atom_by ctx c t) (λ a h. h) each)

-- ---- the nodes of atoms

references-nodes : (icase : Bool) (ks : List ℕ) → nodes (alternation (references icase ks)) ≤ 2 * length ks + 1
references-nodes icase [] = omega arith
references-nodes icase (k ∷ []) = omega arith
references-nodes icase (k ∷ next ∷ ks) = omega (arith, references-nodes icase (next ∷ ks))

list-nodes : (icase : Bool) (ks : List ℕ) → nodes_in_list (list (references icase ks)) ≡ length ks
list-nodes icase [] = refl
list-nodes icase (k ∷ ks) = omega (arith, list-nodes icase ks)

joined-nodes : (icase : Bool) (ks : List ℕ) → nodes (concatenation forwards (list (references icase ks))) ≤ 2 * length ks + 1
joined-nodes icase [] = omega arith
joined-nodes icase (k ∷ []) = omega arith
joined-nodes icase (k ∷ next ∷ ks) = omega (arith, list-nodes icase ks)

-- The nodes of a reference by name, in either dialect.
named-nodes : (table : Table) (all : List (Option Name)) (flags : Flags) (dialect : Dialect) (name : Name) →
    nodes (tree_of_atom table all (back_reference flags (named_target dialect name))) ≤ 2 * length (groups_named name 1 all) + 1
named-nodes table all flags Regress name = references-nodes flags.icase (groups_named name 1 all)
named-nodes table all flags Ecma name = joined-nodes flags.icase (groups_named name 1 all)

class-nodes : (has_strings has_points has_empty : Bool) (strings points : Leaf) →
    nodes (strings_or_points has_strings has_points has_empty strings points) ≤ 5
class-nodes false false false strings points = omega arith
class-nodes false false true strings points = omega arith
class-nodes false true false strings points = omega arith
class-nodes false true true strings points = omega arith
class-nodes true false false strings points = omega arith
class-nodes true false true strings points = omega arith
class-nodes true true false strings points = omega arith
class-nodes true true true strings points = omega arith

module _ (table : Table) (ctx : Context) (most : ℕ) (few : (name : Name) → length (groups_named name 1 ctx.names) ≤ most) where
  -- The item has at most n nodes.
  abbrev pub AtMost : ℕ → Atom → Type 0
  AtMost n a = nodes (tree_of_atom table ctx.names a) ≤ n

  weaker : (n : ℕ) (found : Found Atom) → 1 ≤ n → Finds (AtMost 1) found → Finds (AtMost n) found
  weaker n found some h = record { each = λ x e. omega (arith, some, h.each x e) }

  alone : (a : Atom) (t : Source) → AtMost 1 a → Finds (AtMost 1) (Some (a, t))
  alone a t h = finds_some (AtMost 1) (a, t) h

  character_at-one : (c : ℕ) (t : Source) → Finds (AtMost 1) (character_at ctx c t)
  character_at-one c t =
      finds_map (λ _. Unit {0}) (AtMost 1) _ (character_escape_at ctx.dialect ctx.setting.flags.unicode (c ∷ t)) (λ x _. omega arith) (any_found _)

  property_atom-one : (negated : Bool) (x : Property × Source) → Finds (AtMost 1) (property_atom ctx negated x)
  property_atom-one negated (of_points members, t) = alone _ t (by (negated && complements_first ctx) false negated (complement members) members)
    where
      by : (b : Bool) (i j : Bool) (ms ns : List Bounds) →
          AtMost 1 (cond b (class ctx.setting.flags i ms) (class ctx.setting.flags j ns))
      by true i j ms ns = omega arith
      by false i j ms ns = omega arith
  property_atom-one negated (of_strings written, t) =
      finds_cond (AtMost 1) negated _ _ (λ _. finds_none (AtMost 1)) (λ _. alone _ t (omega arith))

  property_atom_at-one : (negated : Bool) (t : Source) → Finds (AtMost 1) (property_atom_at ctx negated t)
  property_atom_at-one negated t =
      finds_then (λ _. Unit {0}) (AtMost 1) (property_at ctx.setting.flags.unicode_sets ctx.setting.table t) (property_atom ctx negated)
      (any_found _) (λ x _. property_atom-one negated x)

  number_reference_at-one : (c : ℕ) (t : Source) → Finds (AtMost 1) (number_reference_at ctx c t)
  number_reference_at-one c t =
      finds_cond (AtMost 1) (nat_le (number 10 (front is_decimal (c ∷ t))) ctx.groups) _ _ (λ _. alone _ _ (omega arith))
      (λ _. finds_cond (AtMost 1) ctx.setting.flags.unicode _ _ (λ _. finds_none (AtMost 1)) (λ _. character_at-one c t))

  name_reference_at-nodes : (t : Source) → Finds (AtMost (2 * most + 1)) (name_reference_at ctx t)
  name_reference_at-nodes t =
      finds_then (λ _. Unit {0}) (AtMost (2 * most + 1)) (group_name_at ctx.setting.table t) _ (any_found _)
      (λ x _. finds_cond (AtMost (2 * most + 1)) (has_name x.0 ctx.names) _ _
      (λ _. finds_some (AtMost (2 * most + 1)) _
      (omega (arith, named-nodes table ctx.names ctx.setting.flags ctx.dialect x.0, few x.0)))
      (λ _. finds_none (AtMost (2 * most + 1))))

  -- the count of an escape that begins with c
  abbrev escaped : ℕ → ℕ
  escaped c = cond (c == 107) (2 * most + 1) 1

  escaped-some : (c : ℕ) → 1 ≤ escaped c
  escaped-some c = elim (c == 107) as (λ b. 1 ≤ cond b (2 * most + 1) 1) [ true ↦ omega arith | false ↦ omega arith ]

  escape-one : (c : ℕ) (found : Found Atom) → Finds (AtMost 1) found → Finds (AtMost (escaped c)) found
  escape-one c found h = weaker (escaped c) found (escaped-some c) h

  escape_productions-nodes : (c : ℕ) (t : Source) → EachProduction (λ found. Finds (AtMost (escaped c)) found) (escape_productions ctx c t)
  escape_productions-nodes c t =
      (λ _. escape-one c _ (alone _ t (omega arith)))
      also (λ _. escape-one c _ (alone _ t (omega arith)))
      also (λ _. escape-one c _ (alone _ (99 ∷ t) (omega arith)))
      also (λ _. escape-one c _ (property_atom_at-one (c == 80) t))
      also (λ _. escape-one c _ (number_reference_at-one c t))
      also (λ e. subst (λ b. Finds (AtMost (cond b (2 * most + 1) 1)) (name_reference_at ctx t))
      (sym (and_parts (c == 107) (ctx.setting.flags.unicode || has_names ctx.names) e).0) (name_reference_at-nodes t))
      also (λ _. escape-one c _ (character_at-one c t))
      also no_more

  escaped_by-nodes : (c : ℕ) (t : Source) → Finds (AtMost (escaped c)) (escaped_by ctx c t)
  escaped_by-nodes c t = by (class_letter c)
    where
      by : (letter : Option (CharacterClassType × Bool)) →
          Finds (AtMost (escaped c)) (elim letter as (λ _. Found Atom) [
            | Some named ↦ Some (class_escape (class_flags ctx) named.0 named.1, t)
            | None ↦ first_production (escape_productions ctx c t)
          ])
      by (Some named) = escape-one c _ (alone _ t (omega arith))
      by None =
          first_production-has (λ found. Finds (AtMost (escaped c)) found) (escape_productions ctx c t) (finds_none (AtMost (escaped c)))
          (escape_productions-nodes c t)

  -- the count of the code point c, which t follows
  abbrev here : ℕ → Source → ℕ
  here c t = nodes_at ctx.setting.flags.unicode_sets most (c ∷ t)

  here-one : (c : ℕ) (t : Source) (found : Found Atom) → Finds (AtMost 1) found → Finds (AtMost (here c t)) found
  here-one c t found h = weaker (here c t) found (nodes_at-some ctx.setting.flags.unicode_sets most (c ∷ t)) h

  escaped_at-nodes : (t : Source) → Finds (AtMost (here 92 t)) (escaped_at ctx t)
  escaped_at-nodes [] = finds_none (AtMost (here 92 []))
  escaped_at-nodes (c ∷ t) = escaped_by-nodes c t

  brackets_at-nodes : (t : Source) → Finds (AtMost (here 91 t)) (brackets_at ctx t)
  brackets_at-nodes t = by ctx.setting.flags.unicode_sets
    where
      by : (sets : Bool) → Finds (AtMost (cond sets 5 1))
          (cond sets (found_map (λ (negated, value). class_set ctx.setting.flags negated value)
          (class_set_at ctx.setting.table (class_parameters ctx) t))
          (found_map (λ (inverted, members). class (class_flags ctx) inverted (compared_members ctx members))
          (class_at ctx.setting.table (class_parameters ctx) t)))
      by true = finds_map (λ _. Unit {0}) (AtMost 5) _ _ (λ x _. class-nodes _ _ _ _ _) (any_found _)
      by false = finds_map (λ _. Unit {0}) (AtMost 1) _ _ (λ x _. omega arith) (any_found _)

  atom_productions-nodes : (c : ℕ) (t : Source) → EachProduction (λ found. Finds (AtMost (here c t)) found) (atom_productions ctx c t)
  atom_productions-nodes c t =
      (λ _. here-one c t _ (alone _ t (omega arith)))
      also (λ _. here-one c t _ (alone _ t (omega arith)))
      also (λ _. here-one c t _ (alone _ t (omega arith)))
      also (λ e. subst (λ d. Finds (AtMost (here d t)) (escaped_at ctx t)) (sym (eqb-true c 92 e)) (escaped_at-nodes t))
      also (λ e. subst (λ d. Finds (AtMost (here d t)) (brackets_at ctx t)) (sym (eqb-true c 91 e)) (brackets_at-nodes t))
      also (λ _. here-one c t _ (finds_cond (AtMost 1) (ctx.setting.flags.unicode || is_some (quantifier_at (c ∷ t))) _ _
      (λ _. finds_none (AtMost 1)) (λ _. alone _ t (omega arith))))
      also (λ _. here-one c t _ (alone _ t (omega arith)))
      also no_more

  pub atom_by-nodes : (c : ℕ) (t : Source) → Finds (AtMost (here c t)) (atom_by ctx c t)
  atom_by-nodes c t =
      first_production-has (λ found. Finds (AtMost (here c t)) found) (atom_productions ctx c t) (finds_none (AtMost (here c t))) (atom_productions-nodes c t)
