-- The parts of a class with the flag u and without v are accepted where they have no early error of ECMA-262.
use Rattle.std.proofs.Common.{◌≡◌, ℕ, zero, suc, ◌==◌, Bool, true, false, not, ◌&&◌, ◌||◌, nat_le, List, [], ◌∷◌, ◌++◌, drop, Option, Some, None, if◌then◌else◌, refl, sym, ap, subst, ◌∙◌}
use Rattle.std.proofs.lemmas.Bool.{false≢true}
use Rattle.std.proofs.lemmas.Option.{none-some}
use Rattle.regress_base.specs.Intervals.{Bounds}
use Rattle.regress_base.specs.Table.{Table}
use Rattle.regress_base.specs.declared.charclasses.CharacterClassType.{CharacterClassType}
use Rattle.regress_base.specs.declared.types.Flags.{Flags}
use Rattle.regress_lexer.specs.Dialects.{reserves_k}
use Rattle.regress_lexer.specs.Digits.{is_decimal, is_letter}
use Rattle.regress_lexer.specs.Escapes.{character_escape_at}
use Rattle.regress_lexer.specs.Source.{Source, Found, first_production, char, is_one_of, is_at}
use Rattle.regress_classes.specs.declared.parameters.Parameters.{Parameters}
use Rattle.regress_classes.specs.ClassProductions.{class_letter, class_members, complement_if, point, set, atom_members, range_of, units_between, begins_range, range_to, class_control_at, class_property, class_escape_productions, class_parts_by}
use Rattle.regress_classes.specs.ClassProductions as ClassProductions
use Rattle.regress_classes.specs.Properties.{Property, of_points, of_strings, property_at}
use Rattle.regress_ecma.specs.Notation.{CharSet}
use Rattle.regress_ecma.specs.CharSets.{character_of}
use Rattle.regress_ecma.specs.ClassGrammar.{property_node, control_at, escape_productions, class_escape_at, class_atom_at, class_part_at, class_ranges_by}
use Rattle.regress_ecma.specs.ClassNodes.{ClassAtom, character, class_escape, property, string_property, class_strings, nested_class, ClassContents, empty, atom_then, range_then}
use Rattle.regress_ecma.specs.ClassRanges.{is_character_class, character_value, is_wrong_range, has_early_error}
use Rattle.regress_ecma.proofs.ClassAtoms.{IsAtomOf, HasRelatedSets, atom_follows}
use Rattle.regress_ecma.proofs.ClassAtomNodes.{own, IsOfPoints, property_points}
use Rattle.regress_ecma.proofs.ClassRangeNodes.{Each, each_none, each_some, each_if, each_then, each_at}
use Rattle.regress_ecma.proofs.Follows.{Follows, follows_none, follows_some, follows_if, follows_then, follows_map, follows_same}

-- any two sets
abbrev pub Any : CharSet → CharSet → Type 0
Any a b = Unit {0}

pub found_if : {A : Type 0} (b : Bool) (x y : A) → (if b then Some x else None) ≡ Some y → b ≡ true
found_if true x y e = refl
found_if false x y e = absurd (none-some y e)

pub or_parts : (a b : Bool) → (a || b) ≡ false → (a ≡ false) × (b ≡ false)
or_parts true b e = absurd (false≢true (sym e))
or_parts false b e = (refl, e)

pub not_false : (b : Bool) → not b ≡ false → b ≡ true
not_false true e = refl
not_false false e = sym e

pub set_is : (node : ClassAtom) → character_of node ≡ None → is_character_class node ≡ true
set_is (character c) e = absurd (cc)
set_is (class_escape kind capital) e = refl
set_is (property members capital) e = refl
set_is (string_property strings) e = refl
set_is (class_strings strings) e = refl
set_is (nested_class invert contents) e = refl

-- ---- atoms of ECMA-262 are parsed

module _ (table : Table) (rer : Flags) (parameters : Parameters) where
  abbrev pub Back : ClassProductions.ClassAtom → ClassAtom → Type 0
  Back a node = IsAtomOf table rer Any node a

  control_back : (t : Source) → Follows Back (control_at t) (class_control_at t)
  control_back [] = follows_some Back (point (char "\\")) (character (char "\\")) (char "c" ∷ []) refl
  control_back (d ∷ t) =
      follows_if Back (is_letter d || is_decimal d || d == char "_") _ _ _ _ (λ _. follows_some Back _ _ t refl)
      (λ _. follows_some Back _ _ (char "c" ∷ d ∷ t) refl)

  abbrev SamePoints : Property → Property → Type 0
  SamePoints q p = (q ≡ p) × IsOfPoints p

  property_back : (negated : Bool) (q p : Property) (t : Source) → SamePoints q p →
      Follows Back (Some (property_node negated p, t)) (class_property negated (q, t))
  property_back negated q (of_points members) t same =
      subst (λ (r : Property). Follows Back (Some (property members negated, t)) (class_property negated (r, t))) (sym same.0)
      (follows_some Back (set (complement_if negated members)) (property members negated) t (refl, tt))
  property_back negated q (of_strings written) t same = absurd same.1

  escapes_back : (c : ℕ) (t : Source) →
      Follows Back (first_production (escape_productions table parameters c t)) (first_production (class_escape_productions table parameters c t))
  escapes_back c t =
      follows_if Back (c == char "b") _ _ _ _ (λ _. follows_some Back (point 8) (character 8) t refl)
      (λ _. follows_if Back (c == char "-" && parameters.unicode) _ _ _ _ (λ _. follows_some Back (point (char "-")) (character (char "-")) t refl)
      (λ _. follows_if Back (c == char "c" && not parameters.unicode) _ _ _ _ (λ _. control_back t)
      (λ _. follows_if Back (is_one_of "pP" c && parameters.unicode) _ _ _ _
      (λ _.
      follows_then SamePoints Back (property_at false table t) (property_at false table t) _ _
      (record { each = λ x u e. record { value = x; found = e; related = (refl, (property_points table t).each (x, u) e) } })
      (λ p q u same. property_back (c == char "P") q p u same))
      (λ _.
      follows_if Back (c == char "k" && parameters.named && reserves_k parameters.dialect) _ _ _ _ (λ _. follows_none Back None)
      (λ _.
      follows_map (λ (y x : ℕ). y ≡ x) Back character point
      (character_escape_at parameters.dialect parameters.unicode (c ∷ t)) (character_escape_at parameters.dialect parameters.unicode (c ∷ t)) (follows_same _)
      (λ x y same. ap character (sym same)))))))

  class_escape_back : (t : Source) → Follows Back (class_escape_at table parameters t) (ClassProductions.class_escape_at table parameters t)
  class_escape_back [] = follows_none Back None
  class_escape_back (c ∷ t) = by (class_letter c)
    where
      by : (letter : Option (CharacterClassType × Bool)) →
          Follows Back
          (elim letter as (λ _. Found ClassAtom) [
            | None ↦ first_production (escape_productions table parameters c t)
            | Some named ↦ Some (class_escape named.0 named.1, t)
          ])
          (elim letter as (λ _. Found ClassProductions.ClassAtom) [
            | None ↦ first_production (class_escape_productions table parameters c t)
            | Some named ↦ Some (set (class_members table parameters named), t)
          ])
      by None = escapes_back c t
      by (Some (kind, capital)) =
          follows_some Back (set (class_members table parameters (kind, capital))) (class_escape kind capital) t (refl, tt)

  pub atom_back : (t : Source) → Follows Back (class_atom_at table parameters t) (ClassProductions.class_atom_at table parameters t)
  atom_back [] = follows_none Back None
  atom_back (c ∷ t) =
      follows_if Back (c == char "]") _ _ _ _ (λ _. follows_none Back None)
      (λ _.
      follows_if Back (c == char "\\") _ _ _ _ (λ _. class_escape_back t)
      (λ _. follows_some Back (point c) (character c) t refl))

module _ (table : Table) (rer : Flags) (icase named : Bool) where
  abbrev parameters : Parameters
  parameters = own icase true named

  abbrev Is : ClassAtom → ClassProductions.ClassAtom → Type 0
  Is = IsAtomOf table rer Any

  related : HasRelatedSets table rer parameters Any
  related = record { escape = λ kind capital. tt; property = λ capital members. tt }

  -- ---- ranges

  left_set : (first last : ClassAtom) → is_character_class first ≡ true → is_wrong_range true first last ≡ true
  left_set first last e = rw e refl

  right_set : (first last : ClassAtom) → is_character_class last ≡ true → is_wrong_range true first last ≡ true
  right_set first last e = rw e (by (is_character_class first) (not (nat_le (character_value first) (character_value last))))
    where
      by : (b less : Bool) → ((b || true) && true || not b && not true && less) ≡ true
      by true less = refl
      by false less = refl

  range_ok : (first last : ClassAtom) (a b : ClassProductions.ClassAtom) → Is first a → Is last b → (members : List Bounds) →
      range_of false true a b ≡ Some members → is_wrong_range true first last ≡ false
  range_ok first last (point a) (point b) is_first is_last members e =
      rw (is_first, is_last) (ap not (found_if (nat_le a b) _ members e))
  range_ok first last (point a) (set others) is_first is_last members e = absurd (none-some members e)
  range_ok first last (set others) (point b) is_first is_last members e = absurd (none-some members e)
  range_ok first last (set others) (set more) is_first is_last members e = absurd (none-some members e)

  in_order : (first last : ClassAtom) (a b : ClassProductions.ClassAtom) → Is first a → Is last b → is_wrong_range true first last ≡ false →
      (members : List Bounds) × (range_of false true a b ≡ Some members)
  in_order first last (point a) (point b) is_first is_last ok =
      let le : nat_le a b ≡ true = not_false (nat_le a b) (rw (is_first, is_last) at ok) in
      let members : List Bounds = record { first = a; last = b } ∷ [] in
      (members, rw le refl)
  in_order first last (point a) (set others) is_first is_last ok =
      absurd (false≢true (sym ok ∙ right_set first last (set_is last is_last.0)))
  in_order first last (set others) b is_first is_last ok = absurd (false≢true (sym ok ∙ left_set first last (set_is first is_first.0)))

  -- ---- accepted parts have no error

  abbrev IsFine : ClassContents → List Bounds → Type 0
  IsFine node members = has_early_error true node ≡ false

  abbrev IsPart : (ClassContents → ClassContents) → List Bounds → Type 0
  IsPart with_part members = (more : ClassContents) → has_early_error true more ≡ false → has_early_error true (with_part more) ≡ false

  range_follows : (first last : ClassAtom) (a b : ClassProductions.ClassAtom) (t : Source) → Is first a → Is last b →
      Follows IsPart (range_to table parameters a (b, t)) (Some (range_then first last, t))
  range_follows first last a b t is_first is_last = by (range_of false true a b) refl
    where
      by : (found : Option (List Bounds)) → range_of false true a b ≡ found →
          Follows IsPart (elim found as (λ _. Found (List Bounds)) [ None ↦ None | Some members ↦ Some (members, t) ]) (Some (range_then first last, t))
      by None e = follows_none IsPart _
      by (Some members) e =
          follows_some IsPart (range_then first last) members t
          (λ more fine. ap (λ (b : Bool). b || has_early_error true more) (range_ok first last a b is_first is_last members e) ∙ fine)

  part_follows : (t : Source) → Follows IsPart (ClassProductions.class_part_at table parameters t) (class_part_at table parameters t)
  part_follows t =
      follows_then Is IsPart _ _ _ _ (atom_follows table rer parameters Any related t)
      (λ a first rest is_first.
      follows_if IsPart (begins_range rest) _ _ _ _
      (λ _. follows_then Is IsPart _ _ _ _ (atom_follows table rer parameters Any related (drop 1 rest))
      (λ b last after is_last. range_follows first last a b after is_first is_last))
      (λ _. follows_some IsPart (atom_then first) (atom_members false a) rest (λ more fine. fine)))

  pub parts_follow : (n : ℕ) (t : Source) → Follows IsFine (class_parts_by table parameters n t) (class_ranges_by table parameters n t)
  unfolding class_parts_by class_ranges_by
  parts_follow zero t = follows_none IsFine None
  parts_follow (suc n) t =
      follows_if IsFine (is_at (char "]") t) _ _ _ _ (λ _. follows_some IsFine empty [] (drop 1 t) refl)
      (λ _.
      follows_then IsPart IsFine _ _ _ _ (part_follows t)
      (λ members with_part rest is_part.
      follows_then IsFine IsFine _ _ _ _ (parts_follow n rest)
      (λ others more after fine. follows_some IsFine (with_part more) (members ++ others) after (is_part more fine))))

  -- ---- parts without an error are accepted

  -- members are found, and this source is left
  abbrev IsFound : Found (List Bounds) → Source → Type 0
  IsFound found rest = (members : List Bounds) × (found ≡ Some (members, rest))

  abbrev PartBack : Source → (ClassContents → ClassContents) × Source → Type 0
  PartBack t x = (more : ClassContents) → has_early_error true (x.0 more) ≡ false →
      (has_early_error true more ≡ false) × IsFound (ClassProductions.class_part_at table parameters t) x.1

  range_back : (t u v : Source) (first last : ClassAtom) → class_atom_at table parameters t ≡ Some (first, u) → begins_range u ≡ true →
      class_atom_at table parameters (drop 1 u) ≡ Some (last, v) → PartBack t (range_then first last, v)
  range_back t u v first last e begins f more ok =
      let from = (atom_back table rer parameters t).each first u e in
      let to = (atom_back table rer parameters (drop 1 u)).each last v f in
      let parts = or_parts (is_wrong_range true first last) (has_early_error true more) ok in
      let found = in_order first last from.value to.value from.related to.related parts.0 in
      let start = from.found in
      let end = to.found in (
        parts.1,
        (
          found.0,
          rw (start, begins, end)
              (ap (λ (o : Option (List Bounds)). elim o as (λ _. Found (List Bounds)) [ None ↦ None | Some members ↦ Some (members, v) ]) found.1),
        ),
      )

  atom_alone_back : (t u : Source) (first : ClassAtom) → class_atom_at table parameters t ≡ Some (first, u) → begins_range u ≡ false →
      PartBack t (atom_then first, u)
  atom_alone_back t u first e none more ok =
      let from = (atom_back table rer parameters t).each first u e in
      let start = from.found in
      (ok, (atom_members false from.value, rw (start, none) refl))

  part_back : (t : Source) → Each (PartBack t) (class_part_at table parameters t)
  part_back t =
      each_then (PartBack t) (class_atom_at table parameters t) _
      (λ x e. each_if (PartBack t) (begins_range x.1) _ _
      (λ begins. each_then (PartBack t) (class_atom_at table parameters (drop 1 x.1)) _
      (λ y f. each_some (PartBack t) (range_then x.0 y.0, y.1) (range_back t x.1 y.1 x.0 y.0 e begins f)))
      (λ none. each_some (PartBack t) (atom_then x.0, x.1) (atom_alone_back t x.1 x.0 e none)))

  abbrev PartsBack : ℕ → Source → ClassContents × Source → Type 0
  PartsBack n t x = has_early_error true x.0 ≡ false → IsFound (class_parts_by table parameters n t) x.1

  more_back : (n : ℕ) (t u rest : Source) (members others : List Bounds) → is_at (char "]") t ≡ false →
      ClassProductions.class_part_at table parameters t ≡ Some (members, u) → class_parts_by table parameters n u ≡ Some (others, rest) →
      class_parts_by table parameters (suc n) t ≡ Some (members ++ others, rest)
  unfolding class_parts_by
  more_back n t u rest members others opens e f = rw (class_parts_by, opens, e, f) refl

  closed_back : (n : ℕ) (t : Source) → is_at (char "]") t ≡ true → class_parts_by table parameters (suc n) t ≡ Some ([], drop 1 t)
  unfolding class_parts_by
  closed_back n t closes = rw (class_parts_by, closes) refl

  pub parts_back : (n : ℕ) (t : Source) → Each (PartsBack n t) (class_ranges_by table parameters n t)
  unfolding class_ranges_by
  parts_back zero t = each_none (PartsBack zero t)
  parts_back (suc n) t =
      each_if (PartsBack (suc n) t) (is_at (char "]") t) _ _
      (λ closes. each_some (PartsBack (suc n) t) (empty, drop 1 t) (λ ok. ([], closed_back n t closes)))
      (λ opens. each_then (PartsBack (suc n) t) (class_part_at table parameters t) _
      (λ x e. each_then (PartsBack (suc n) t) (class_ranges_by table parameters n x.1) _
      (λ y f. each_some (PartsBack (suc n) t) (x.0 y.0, y.1)
      (λ ok.
      let part = each_at (PartBack t) _ (part_back t) x e y.0 ok in
      let others = each_at (PartsBack n x.1) _ (parts_back n x.1) y f part.0 in
      (part.1.0 ++ others.0, more_back n t x.1 y.1 part.1.0 others.0 opens part.1.1 others.1)))))
