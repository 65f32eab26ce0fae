-- With the flag v the operands and the parts of a union that are found are those that ECMA-262 derives, without an early
-- error.
use Rattle.std.proofs.Common.{◌≡◌, ℕ, zero, suc, ◌<◌, ◌≤◌, ◌⊎◌, inl, inr, Bool, true, false, not, ◌&&◌, ◌||◌, List, [], ◌∷◌, drop, Option, Some, None, if◌then◌else◌, nat_le, refl, sym, ap, subst, ◌∙◌, arith}
use Rattle.std.proofs.lemmas.Bool.{or_parts}
use Rattle.regress_base.specs.Intervals.{Bounds}
use Rattle.regress_base.specs.Table.{Table}
use Rattle.regress_lexer.specs.Source.{Source, Found, ◌>>=◌, found_map, char, is_at}
use Rattle.regress_classes.specs.declared.parameters.Parameters.{Parameters}
use Rattle.regress_classes.specs.ClassSets.{Value, only, joined, folded_left, nested, Operand, value_of, range_of, set_character_at}
use Rattle.regress_classes.specs.ClassSets as ClassSets
use Rattle.regress_ecma.specs.ClassNodes.{ClassAtom, character, nested_class, ClassContents, empty, atom_then, range_then, CharacterClass}
use Rattle.regress_ecma.specs.ClassGrammar.{escaped_operand_at, operand_at, part_after, class_union_by, class_set_by}
use Rattle.regress_ecma.specs.ClassSetExpressions.{HasPropertiesOfStrings, IsClassSetOperand, IsClassUnion, IsCharacterClass, may_contain_strings, contents_have_early_error, has_early_error, depth}
use Rattle.regress_ecma.proofs.EscapesWithU.{and_false}
use Rattle.regress_ecma.proofs.ClassAtomNodes.{own}
use Rattle.regress_ecma.proofs.ClassDerivations.{front_is}
use Rattle.regress_ecma.proofs.ClassRangeNodes.{Each, each_none, each_some, each_then, each_at}
use Rattle.regress_ecma.proofs.ClassSetCharacters.{character_same}
use Rattle.regress_ecma.proofs.AcceptedOperands.{reads_if, IsOperand, operand_may, IsOperandRead, character_read, escape_read}

pub or_false : (a b : Bool) → a ≡ false → b ≡ false → (a || b) ≡ false
or_false true b e f = e
or_false false b e f = f

module _ (table : Table) (icase named : Bool) (all : HasPropertiesOfStrings table) where
  abbrev parameters : Parameters
  parameters = own icase true named

  abbrev pub Read : (n : ℕ) (t : Source) → Found ClassAtom → Operand × Source → Type 0
  Read n t mine x = IsOperandRead table icase named all n t mine x

  -- The class after its `[`, and the source after it, are what ECMA-262 derives.
  pub record IsClassRead (n : ℕ) (t : Source) (mine : Found CharacterClass) (x : (Bool × Value) × Source) : Type 0 where
    pub node : CharacterClass
    pub found : mine ≡ Some (node, x.1)
    pub invert : node.invert ≡ x.0.0
    pub derived : IsCharacterClass table named node (char "[" ∷ t) x.1
    pub fine : has_early_error node ≡ false
    pub within : depth node.contents < n
    pub related : x.0.1.may_have_strings ≡ false → may_contain_strings node.contents ≡ false

  module _ (n : ℕ) (inside : (t : Source) → Each (IsClassRead n t (class_set_by table parameters n t)) (ClassSets.class_set_by table parameters n t)) where
    abbrev inner : Source → Found (Bool × Value)
    inner t = ClassSets.class_set_by table parameters n t

    abbrev inner' : Source → Found CharacterClass
    inner' t = class_set_by table parameters n t

    abbrev operand : Source → Found Operand
    operand t = ClassSets.operand_at table parameters inner false t

    abbrev operand' : Source → Found ClassAtom
    operand' t = operand_at table parameters inner' t

    nested_read : (t : Source) → is_at (char "[") t ≡ true → (x : (Bool × Value) × Source) →
        IsClassRead n (drop 1 t) (inner' (drop 1 t)) x →
        Read n t (found_map (λ node. nested_class node.invert node.contents) (inner' (drop 1 t))) (ClassSets.class (nested x.0), x.1)
    nested_read t opens x read = record {
      node = nested_class read.node.invert read.node.contents;
      found = ap (found_map (λ (node : CharacterClass). nested_class node.invert node.contents)) read.found;
      derived =
          subst (λ (w : Source). IsClassSetOperand table named (nested_class read.node.invert read.node.contents) w x.1)
          (sym (front_is (char "[") t opens)) read.derived;
      fine = read.fine;
      within = omega (arith, read.within);
      related = λ none.
          ap (λ (b : Bool). not read.node.invert && b) (read.related none) ∙ and_false (not read.node.invert);
    }

    pub operand_read : (t : Source) → Each (Read n t (operand' t)) (operand t)
    unfolding ClassSets.operand_at operand_at
    operand_read t =
        reads_if (Read n t) (is_at (char "[") t) _ _ _ _
        (λ opens. each_then (Read n t (found_map (λ node. nested_class node.invert node.contents) (inner' (drop 1 t)))) (inner (drop 1 t)) _
        (λ x e. each_some (Read n t (found_map (λ node. nested_class node.invert node.contents) (inner' (drop 1 t)))) (ClassSets.class (nested x.0), x.1)
        (nested_read t opens x (each_at _ _ (inside (drop 1 t)) x e))))
        (λ _. reads_if (Read n t) (is_at (char "\\") t) _ _ _ _
        (λ slash.
        subst
        (λ (w : Source). Each (Read n w (escaped_operand_at table parameters (drop 1 t))) (ClassSets.escaped_operand_at table parameters false (drop 1 t)))
        (sym (front_is (char "\\") t slash)) (escape_read table icase named all n (drop 1 t)))
        (λ _. each_then (Read n t (found_map character (set_character_at parameters t))) (set_character_at parameters t) _
        (λ x e. each_some (Read n t (found_map character (set_character_at parameters t))) (ClassSets.character x.0, x.1)
        (character_read table icase named all n t x.1 x.0 _ (character_same table icase named t ∙ e) (ap (found_map character) e)))))

    -- ---- unions

    -- A part, as what it makes of the rest of a union.
    pub record IsPartRead (t : Source) (mine : Found (ClassContents → ClassContents)) (x : Value × Source) : Type 0 where
      pub part : ClassContents → ClassContents
      pub found : mine ≡ Some (part, x.1)
      pub derived : (more : ClassContents) (rest : Source) → (more ≡ empty) × (x.1 ≡ rest) ⊎ IsClassUnion table named more x.1 rest →
          IsClassUnion table named (part more) t rest
      pub fine : (more : ClassContents) → contents_have_early_error more ≡ false → contents_have_early_error (part more) ≡ false
      pub within : (more : ClassContents) → depth more ≤ n → depth (part more) ≤ n
      pub related : (more : ClassContents) → x.0.may_have_strings ≡ false → may_contain_strings more ≡ false → may_contain_strings (part more) ≡ false

    abbrev range_made : Option (List Bounds) → Source → Found Value
    range_made found rest = elim found as (λ _. Found Value) [ None ↦ None | Some members ↦ Some (only members, rest) ]

    abbrev range' : ClassAtom → ClassAtom × Source → Found (ClassContents → ClassContents)
    range' first (last, rest) = Some (range_then first last, rest)

    character_range : (t u rest : Source) (a b : ℕ) → IsClassSetOperand table named (character a) t u → is_at (char "-") u ≡ true →
        IsClassSetOperand table named (character b) (drop 1 u) rest →
        Each (IsPartRead t (range' (character a) (character b, rest))) (range_made (range_of (ClassSets.character a) (ClassSets.character b)) rest)
    character_range t u rest a b first hyphen last = by (nat_le a b) refl
      where
        by : (ordered : Bool) → nat_le a b ≡ ordered →
            Each (IsPartRead t (range' (character a) (character b, rest)))
            (range_made (if ordered then Some (record { first = a; last = b } ∷ []) else None) rest)
        by false e = each_none (IsPartRead t (range' (character a) (character b, rest)))
        by true e =
            each_some (IsPartRead t (range' (character a) (character b, rest))) (only (record { first = a; last = b } ∷ []), rest)
            (record {
              part = range_then (character a) (character b);
              found = refl;
              derived = λ more end union. (
                rest,
                (drop 1 u, first ∙ ap (λ (w : Source). Some (a, w)) (front_is (char "-") u hyphen), last),
                union,
              );
              fine = λ more fine. ap (λ (ordered : Bool). not ordered || contents_have_early_error more) e ∙ fine;
              within = λ more within. within;
              related = λ more none none'. none';
            })

    range_read : (t u rest : Source) (a b : Operand) (first last : ClassAtom) → IsOperand table icase named all first a →
        IsOperand table icase named all last b → IsClassSetOperand table named first t u → is_at (char "-") u ≡ true →
        IsClassSetOperand table named last (drop 1 u) rest → Each (IsPartRead t (range' first (last, rest))) (range_made (range_of a b) rest)
    range_read t u rest (ClassSets.character a) (ClassSets.character b) first last is_first is_last derived hyphen derived' =
        subst
        (λ (x : ClassAtom). Each (IsPartRead t (range' x (last, rest))) (range_made (range_of (ClassSets.character a) (ClassSets.character b)) rest))
        (sym is_first)
        (subst
        (λ (y : ClassAtom). Each (IsPartRead t (range' (character a) (y, rest)))
        (range_made (range_of (ClassSets.character a) (ClassSets.character b)) rest))
        (sym is_last)
        (character_range t u rest a b (subst (λ (x : ClassAtom). IsClassSetOperand table named x t u) is_first derived) hyphen
        (subst (λ (y : ClassAtom). IsClassSetOperand table named y (drop 1 u) rest) is_last derived')))
    range_read t u rest (ClassSets.character a) (ClassSets.class others) first last is_first is_last derived hyphen derived' =
        each_none (IsPartRead t (range' first (last, rest)))
    range_read t u rest (ClassSets.class value) b first last is_first is_last derived hyphen derived' =
        each_none (IsPartRead t (range' first (last, rest)))

    abbrev after' : ClassAtom × Source → Found (ClassContents → ClassContents)
    after' x = part_after table parameters inner' x

    pub part_read : (t : Source) (mine : Found ClassAtom) (x : Operand × Source) (first : Read n t mine x) →
        Each (IsPartRead t (after' (first.node, x.1))) (ClassSets.part_after table parameters inner false x)
    part_read t mine (a, u) first =
        reads_if (IsPartRead t) (is_at (char "-") u) _ _ _ _
        (λ hyphen.
        each_then (IsPartRead t (found_map (λ last contents. range_then first.node last contents) (operand' (drop 1 u)))) (operand (drop 1 u)) _
        (λ y e.
        let last = each_at _ _ (operand_read (drop 1 u)) y e in
        subst
        (λ (o : Found ClassAtom). Each (IsPartRead t (found_map (λ last contents. range_then first.node last contents) o))
        (range_made (range_of a y.0) y.1))
        (sym last.found)
        (range_read t u y.1 a y.0 first.node last.node first.related last.related first.derived hyphen last.derived)))
        (λ _. each_some (IsPartRead t (Some (atom_then first.node, u))) (value_of a, u)
        (record {
          part = atom_then first.node;
          found = refl;
          derived = λ more rest union. (u, first.derived, union);
          fine = λ more fine. or_false _ _ first.fine fine;
          within = λ more within. omega (arith, first.within, within);
          related = λ more none none'. or_false _ _ (operand_may table icase named all first.node a first.related none) none';
        }))

    abbrev parts' : Source → Found (ClassContents → ClassContents)
    parts' t = operand' t >>= after'

    first_part_read : (t : Source) → Each (IsPartRead t (parts' t)) (operand t >>= ClassSets.part_after table parameters inner false)
    first_part_read t =
        each_then (IsPartRead t (parts' t)) (operand t) _
        (λ x e.
        let first = each_at _ _ (operand_read t) x e in
        subst (λ (o : Found ClassAtom). Each (IsPartRead t (o >>= after')) (ClassSets.part_after table parameters inner false x))
        (sym first.found) (part_read t (operand' t) x first))

    -- The parts up to `]`.
    pub record IsUnionRead (t : Source) (mine : Found ClassContents) (x : List Value × Source) : Type 0 where
      pub contents : ClassContents
      pub found : mine ≡ Some (contents, x.1)
      pub derived : (contents ≡ empty) × (t ≡ char "]" ∷ x.1) ⊎ IsClassUnion table named contents t (char "]" ∷ x.1)
      pub fine : contents_have_early_error contents ≡ false
      pub within : depth contents ≤ n
      pub related : (held : Value) → (folded_left joined held x.0).may_have_strings ≡ false →
          (held.may_have_strings ≡ false) × (may_contain_strings contents ≡ false)

    pub union_read : (m : ℕ) (t : Source) →
        Each (IsUnionRead t (class_union_by table parameters inner' m t)) (ClassSets.parts_by table parameters inner false m t)
    unfolding ClassSets.parts_by class_union_by
    union_read zero t = each_none (IsUnionRead t None)
    union_read (suc m) t =
        reads_if (IsUnionRead t) (is_at (char "]") t) _ _ _ _
        (λ closes. each_some (IsUnionRead t (Some (empty, drop 1 t))) ([], drop 1 t)
        (record {
          contents = empty;
          found = refl;
          derived = inl (refl, front_is (char "]") t closes);
          fine = refl;
          within = omega arith;
          related = λ held none. (none, refl);
        }))
        (λ _.
        each_then (IsUnionRead t (parts' t >>= λ (with_part, rest). found_map with_part (class_union_by table parameters inner' m rest)))
        (operand t >>= ClassSets.part_after table parameters inner false) _
        (λ x e.
        each_then (IsUnionRead t (parts' t >>= λ (with_part, rest). found_map with_part (class_union_by table parameters inner' m rest)))
        (ClassSets.parts_by table parameters inner false m x.1) _
        (λ y f.
        let first = each_at _ _ (first_part_read t) x e in
        let more = each_at _ _ (union_read m x.1) y f in
        each_some (IsUnionRead t (parts' t >>= λ (with_part, rest). found_map with_part (class_union_by table parameters inner' m rest))) (x.0 ∷ y.0, y.1)
        (record {
          contents = first.part more.contents;
          found =
              ap (λ (o : Found (ClassContents → ClassContents)). o >>= λ (with_part, rest).
              found_map with_part (class_union_by table parameters inner' m rest)) first.found
              ∙ ap (found_map first.part) more.found;
          derived = inr (first.derived more.contents (char "]" ∷ y.1) more.derived);
          fine = first.fine more.contents more.fine;
          within = first.within more.contents more.within;
          related = λ held none.
              let rest = more.related (joined held x.0) none in
              let both = or_parts held.may_have_strings x.0.may_have_strings rest.0 in
              (both.0, first.related more.contents both.1 rest.1);
        }))))
