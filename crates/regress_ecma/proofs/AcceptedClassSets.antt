-- A class with the flag v that is accepted is one that ECMA-262 derives without an early error. Its parse node is that of
-- ECMA-262.
use Rattle.std.proofs.Common.{◌≡◌, ℕ, zero, suc, ◌+◌, ◌<◌, ◌≤◌, ◌⊎◌, inl, inr, Bool, true, false, ◌&&◌, List, [], ◌∷◌, length, drop, Some, None, if◌then◌else◌, refl, sym, ap, ap₂, subst, ◌∙◌, arith}
use Rattle.std.proofs.lemmas.Bool.{false≢true, or_parts}
use Rattle.regress_base.specs.Limits.{max_nesting_depth}
use Rattle.regress_base.specs.Table.{Table}
use Rattle.regress_lexer.specs.declared.dialect.Dialect.{Dialect}
use Rattle.regress_lexer.specs.declared.dialect.Dialect.TheVariants.{Ecma}
use Rattle.regress_lexer.specs.Source.{Source, Found, ◌>>=◌, found_map, char, is_at}
use Rattle.regress_classes.specs.declared.parameters.Parameters.{Parameters}
use Rattle.regress_classes.specs.ClassSets.{Value, nothing, joined, folded_left, common, without, closed_value, closed_value_of, is_not_negatable, unless_negated_strings, Operand, are_at, class_set_at}
use Rattle.regress_classes.specs.ClassSets as ClassSets
use Rattle.regress_ecma.specs.ClassNodes.{ClassAtom, ClassContents, empty, atom_then, intersection, subtraction, CharacterClass}
use Rattle.regress_ecma.specs.ClassGrammar.{operand_at, part_after, class_union_at, operands_by, contents_after, contents_at, class_set_by, character_class_at}
use Rattle.regress_ecma.specs.ClassSetExpressions.{HasPropertiesOfStrings, IsClassSetOperand, IsFirstOperand, IsClassIntersection, IsClassSubtraction, IsClassContents, IsCharacterClass, IsAcceptedClassSet, operand_may_contain_strings, may_contain_strings, operand_has_early_error, contents_have_early_error, depth_of_operand, depth}
use Rattle.regress_ecma.proofs.EscapesWithU.{and_false}
use Rattle.regress_ecma.proofs.ClassAtomNodes.{own}
use Rattle.regress_ecma.proofs.ClassDerivations.{front_is}
use Rattle.regress_ecma.proofs.ClassRangeNodes.{Each, each_none, each_some, each_if, each_then, each_at, each_weaker}
use Rattle.regress_ecma.proofs.AcceptedOperands.{reads_if, unless_found, twice_is, operand_may}
use Rattle.regress_ecma.proofs.AcceptedUnions.{or_false, Read, IsClassRead, operand_read, part_read, union_read}

module _ (table : Table) (icase named : Bool) (all : HasPropertiesOfStrings table) where
  abbrev parameters : Parameters
  parameters = own icase true named

  abbrev One : (n : ℕ) (t : Source) → Found ClassAtom → Operand × Source → Type 0
  One n t mine x = Read table icase named all n t mine x

  abbrev Class : (n : ℕ) (t : Source) → Found CharacterClass → (Bool × Value) × Source → Type 0
  Class n t mine x = IsClassRead table icase named all n t mine x

  -- The contents of a class, and the source after it, are what ECMA-262 derives from t.
  record AreContentsRead (n : ℕ) (Derives : ClassContents → (t rest : Source) → Type 0) (t : Source) (mine : Found ClassContents)
      (x : Value × Source) : Type 0 where
    contents : ClassContents
    found : mine ≡ Some (contents, x.1)
    derived : Derives contents t (char "]" ∷ x.1)
    fine : contents_have_early_error contents ≡ false
    within : depth contents ≤ n
    related : x.0.may_have_strings ≡ false → may_contain_strings contents ≡ false

  module _ (n : ℕ) (inside : (t : Source) → Each (Class n t (class_set_by table parameters n t)) (ClassSets.class_set_by table parameters n t)) where
    abbrev inner : Source → Found (Bool × Value)
    inner t = ClassSets.class_set_by table parameters n t

    abbrev inner' : Source → Found CharacterClass
    inner' t = class_set_by table parameters n t

    abbrev operand : Source → Found Operand
    operand t = ClassSets.operand_at table parameters inner false t

    abbrev operand' : Source → Found ClassAtom
    operand' t = operand_at table parameters inner' t

    abbrev after' : ClassAtom × Source → Found (ClassContents → ClassContents)
    after' x = part_after table parameters inner' x

    -- ---- operators

    -- `operator` is of the parse nodes, and `f` of the contents.
    module _ (c : ℕ) (operator : ClassContents → ClassAtom → ClassContents) (f : Value → Value → Value)
        (Derives : ClassContents → (t rest : Source) → Type 0) where
      -- what is on the left of an operator
      abbrev IsLeft : ClassContents → (t rest : Source) → Type 0
      IsLeft left t rest = IsFirstOperand table named left t rest ⊎ Derives left t rest

      record IsOperator : Type 0 where
        derived : (left : ClassContents) (right : ClassAtom) (t u rest : Source) → IsLeft left t (c ∷ c ∷ u) → is_at c u ≡ false →
            IsClassSetOperand table named right u rest → Derives (operator left right) t rest
        fine : (left : ClassContents) (right : ClassAtom) → contents_have_early_error left ≡ false → operand_has_early_error right ≡ false →
            contents_have_early_error (operator left right) ≡ false
        within : (left : ClassContents) (right : ClassAtom) → depth left ≤ n → depth_of_operand right ≤ n → depth (operator left right) ≤ n
        related : (left : ClassContents) (right : ClassAtom) (a b : Value) → (a.may_have_strings ≡ false → may_contain_strings left ≡ false) →
            (b.may_have_strings ≡ false → operand_may_contain_strings right ≡ false) → (f a b).may_have_strings ≡ false →
            may_contain_strings (operator left right) ≡ false

      abbrev closed : Operand → Value
      closed a = closed_value_of table parameters a

      -- The contents are the operands after those that are held.
      abbrev AreRead : (held : Value) (t : Source) → Found ClassContents → List Value × Source → Type 0
      AreRead held t mine x = AreContentsRead n Derives t mine (folded_left f held x.0, x.1)

      module _ (is : IsOperator) (t : Source) where
        abbrev onward : ℕ → ClassContents → ClassAtom × Source → Found ClassContents
        onward m left (right, rest) =
            if is_at (char "]") rest then Some (operator left right, drop 1 rest)
            else if are_at c rest then operands_by table parameters inner' m c operator (operator left right) (drop 2 rest)
            else None

        both_read : (left : ClassContents) (held : Value) (u : Source) (mine : Found ClassAtom) (x : Operand × Source) → (right : One n u mine x) →
            IsLeft left t (c ∷ c ∷ u) → is_at c u ≡ false → contents_have_early_error left ≡ false → depth left ≤ n →
            (held.may_have_strings ≡ false → may_contain_strings left ≡ false) → (rest : Source) → x.1 ≡ char "]" ∷ rest →
            AreContentsRead n Derives t (Some (operator left right.node, rest)) (f held (closed x.0), rest)
        both_read left held u mine x right is_left other fine within related rest at_end = record {
          contents = operator left right.node;
          found = refl;
          derived = subst (λ (w : Source). Derives (operator left right.node) t w) at_end (is.derived left right.node t u x.1 is_left other right.derived);
          fine = is.fine left right.node fine right.fine;
          within = is.within left right.node within right.within;
          related = is.related left right.node held (closed x.0) related (operand_may table icase named all right.node x.0 right.related);
        }

        chain_read : (m : ℕ) (left : ClassContents) (held : Value) (u : Source) → IsLeft left t (c ∷ c ∷ u) →
            contents_have_early_error left ≡ false → depth left ≤ n → (held.may_have_strings ≡ false → may_contain_strings left ≡ false) →
            Each (AreRead held t (operands_by table parameters inner' m c operator left u))
            (ClassSets.operands_by table parameters inner false m c u)
        unfolding ClassSets.operands_by operands_by
        chain_read zero left held u is_left fine within related = each_none (AreRead held t None)
        chain_read (suc m) left held u is_left fine within related =
            each_then (AreRead held t (operand' u >>= onward m left)) (ClassSets.next_operand_at table parameters inner false c u) _
            (λ x e.
            let apart = unless_found (is_at c u) (operand u) x e in
            let right = each_at _ _ (operand_read table icase named all n inside u) x apart.1 in
            subst
            (λ (o : Found ClassAtom). Each (AreRead held t (o >>= onward m left))
            (if is_at (char "]") x.1 then Some (closed x.0 ∷ [], drop 1 x.1)
            else if are_at c x.1
            then found_map (λ others. closed x.0 ∷ others) (ClassSets.operands_by table parameters inner false m c (drop 2 x.1))
            else None))
            (sym right.found)
            (reads_if (AreRead held t) (is_at (char "]") x.1) _ _ _ _
            (λ closes. each_some (AreRead held t (Some (operator left right.node, drop 1 x.1))) (closed x.0 ∷ [], drop 1 x.1)
            (both_read left held u (operand' u) x right is_left apart.0 fine within related (drop 1 x.1) (front_is (char "]") x.1 closes)))
            (λ _. reads_if (AreRead held t) (are_at c x.1) _ _ _ _
            (λ again.
            each_then (AreRead held t (operands_by table parameters inner' m c operator (operator left right.node) (drop 2 x.1)))
            (ClassSets.operands_by table parameters inner false m c (drop 2 x.1)) _
            (λ y g.
            each_some (AreRead held t (operands_by table parameters inner' m c operator (operator left right.node) (drop 2 x.1)))
            (closed x.0 ∷ y.0, y.1)
            (each_at _ _
            (chain_read m (operator left right.node) (f held (closed x.0)) (drop 2 x.1)
            (inr (subst (λ (w : Source). Derives (operator left right.node) t w) (twice_is c x.1 again)
            (is.derived left right.node t u x.1 is_left apart.0 right.derived)))
            (is.fine left right.node fine right.fine) (is.within left right.node within right.within)
            (is.related left right.node held (closed x.0) related (operand_may table icase named all right.node x.0 right.related)))
            y g)))
            (λ _. each_none (AreRead held t None)))))

        -- the operands after the first one
        operator_read : (mine : Found ClassAtom) (x : Operand × Source) (first : One n t mine x) → are_at c x.1 ≡ true →
            Each (AreContentsRead n Derives t
            (operands_by table parameters inner' (length (drop 2 x.1) + 1) c operator (atom_then first.node empty) (drop 2 x.1)))
            (found_map (folded_left f (closed x.0)) (ClassSets.operands_at table parameters inner false c (drop 2 x.1)))
        operator_read mine x first twice =
            each_then (AreContentsRead n Derives t
            (operands_by table parameters inner' (length (drop 2 x.1) + 1) c operator (atom_then first.node empty) (drop 2 x.1)))
            (ClassSets.operands_at table parameters inner false c (drop 2 x.1)) _
            (λ y e.
            each_some (AreContentsRead n Derives t
            (operands_by table parameters inner' (length (drop 2 x.1) + 1) c operator (atom_then first.node empty) (drop 2 x.1)))
            (folded_left f (closed x.0) y.0, y.1)
            (each_at _ _
            (chain_read (length (drop 2 x.1) + 1) (atom_then first.node empty) (closed x.0) (drop 2 x.1)
            (inl (refl, subst (λ (w : Source). IsClassSetOperand table named first.node t w) (twice_is c x.1 twice) first.derived))
            (or_false _ _ first.fine refl) (omega (arith, first.within))
            (λ none. or_false _ _ (operand_may table icase named all first.node x.0 first.related none) refl))
            y e))

    is_intersection : IsOperator (char "&") intersection common (IsClassIntersection table named)
    is_intersection = record {
      derived = λ left right t u rest is_left other operand. (u, is_left, other, operand);
      fine = λ left right. or_false (contents_have_early_error left) (operand_has_early_error right);
      within = λ left right first second. omega (arith, first, second);
      related = λ left right a b first second none. by left right a.may_have_strings b.may_have_strings first second none;
    }
      where
        by : (left : ClassContents) (right : ClassAtom) (p q : Bool) → (p ≡ false → may_contain_strings left ≡ false) →
            (q ≡ false → operand_may_contain_strings right ≡ false) → (p && q) ≡ false → (may_contain_strings left && operand_may_contain_strings right) ≡ false
        by left right false q first second e = ap (λ (b : Bool). b && operand_may_contain_strings right) (first refl)
        by left right true false first second e =
            ap (λ (b : Bool). may_contain_strings left && b) (second refl) ∙ and_false (may_contain_strings left)
        by left right true true first second e = absurd (false≢true (sym e))

    is_subtraction : IsOperator (char "-") subtraction without (IsClassSubtraction table named)
    is_subtraction = record {
      derived = λ left right t u rest is_left other operand. (u, is_left, operand);
      fine = λ left right. or_false (contents_have_early_error left) (operand_has_early_error right);
      within = λ left right first second. omega (arith, first, second);
      related = λ left right a b first second none. first none;
    }

    -- ---- contents

    abbrev Contents : Source → Found ClassContents → Value × Source → Type 0
    Contents t mine x = AreContentsRead n (IsClassContents table named) t mine x

    other_contents : (Derives : ClassContents → (t rest : Source) → Type 0) (t : Source) (mine : Found ClassContents) →
        ((contents : ClassContents) (rest : Source) → Derives contents t rest → IsClassContents table named contents t rest) →
        (x : Value × Source) → AreContentsRead n Derives t mine x → Contents t mine x
    other_contents Derives t mine to x read = record {
      contents = read.contents;
      found = read.found;
      derived = to read.contents (char "]" ∷ x.1) read.derived;
      fine = read.fine;
      within = read.within;
      related = read.related;
    }

    after_read : (t : Source) (mine : Found ClassAtom) (x : Operand × Source) (first : One n t mine x) →
        Each (Contents t (contents_after table parameters inner' (first.node, x.1))) (ClassSets.contents_after table parameters inner false x)
    after_read t mine (a, u) first =
        reads_if (Contents t) (are_at (char "&") u) _ _ _ _
        (λ twice. each_weaker _ (Contents t _) _
        (other_contents (IsClassIntersection table named) t _ (λ contents rest derived. inr (inr (inl derived))))
        (operator_read (char "&") intersection common (IsClassIntersection table named) is_intersection t mine (a, u) first twice))
        (λ _. reads_if (Contents t) (are_at (char "-") u) _ _ _ _
        (λ twice. each_weaker _ (Contents t _) _
        (other_contents (IsClassSubtraction table named) t _ (λ contents rest derived. inr (inr (inr derived))))
        (operator_read (char "-") subtraction without (IsClassSubtraction table named) is_subtraction t mine (a, u) first twice))
        (λ _. reads_if (Contents t) (is_at (char "&") u && false) _ _ _ _
        (λ never. absurd (false≢true (sym (and_false (is_at (char "&") u)) ∙ never)))
        (λ _.
        each_then (Contents t (after' (first.node, u) >>= λ (with_part, rest). found_map with_part (class_union_at table parameters inner' rest)))
        (ClassSets.part_after table parameters inner false (a, u)) _
        (λ x e.
        each_then (Contents t (after' (first.node, u) >>= λ (with_part, rest). found_map with_part (class_union_at table parameters inner' rest)))
        (ClassSets.parts_at table parameters inner false x.1) _
        (λ y f.
        let part = each_at _ _ (part_read table icase named all n inside t mine (a, u) first) x e in
        let more = each_at _ _ (union_read table icase named all n inside (length x.1 + 1) x.1) y f in
        each_some (Contents t (after' (first.node, u) >>= λ (with_part, rest). found_map with_part (class_union_at table parameters inner' rest)))
        (folded_left joined x.0 y.0, y.1)
        (record {
          contents = part.part more.contents;
          found =
              ap (λ (o : Found (ClassContents → ClassContents)). o >>= λ (with_part, rest).
              found_map with_part (class_union_at table parameters inner' rest)) part.found
              ∙ ap (found_map part.part) more.found;
          derived = inr (inl (part.derived more.contents (char "]" ∷ y.1) more.derived));
          fine = part.fine more.contents more.fine;
          within = part.within more.contents more.within;
          related = λ none. let both = more.related x.0 none in part.related more.contents both.0 both.1;
        }))))))

    contents_read : (t : Source) →
        Each (Contents t (contents_at table parameters inner' t)) (ClassSets.contents_at table parameters inner false t)
    contents_read t =
        reads_if (Contents t) (is_at (char "]") t) _ _ _ _
        (λ closes. each_some (Contents t (Some (empty, drop 1 t))) (nothing, drop 1 t)
        (record {
          contents = empty;
          found = refl;
          derived = inl (refl, front_is (char "]") t closes);
          fine = refl;
          within = omega arith;
          related = λ none. refl;
        }))
        (λ _.
        each_then (Contents t (operand' t >>= contents_after table parameters inner')) (operand t) _
        (λ x e.
        let first = each_at _ _ (operand_read table icase named all n inside t) x e in
        subst
        (λ (o : Found ClassAtom). Each (Contents t (o >>= contents_after table parameters inner')) (ClassSets.contents_after table parameters inner false x))
        (sym first.found) (after_read t (operand' t) x first)))

  -- ---- classes

  -- the contents, after `^`
  abbrev contents_of : Bool → Source → Source
  contents_of invert t = if invert then drop 1 t else t

  class_derived : (t rest : Source) (contents : ClassContents) →
      IsClassContents table named contents (contents_of (is_at (char "^") t) t) (char "]" ∷ rest) →
      IsCharacterClass table named (record { invert = is_at (char "^") t; contents = contents }) (char "[" ∷ t) rest
  class_derived t rest contents h = by (is_at (char "^") t) refl h
    where
      by : (b : Bool) → is_at (char "^") t ≡ b → IsClassContents table named contents (contents_of b t) (char "]" ∷ rest) →
          IsCharacterClass table named (record { invert = b; contents = contents }) (char "[" ∷ t) rest
      by true e k = (drop 1 t, ap (λ (w : Source). char "[" ∷ w) (front_is (char "^") t e), k)
      by false e k = (t, (refl, e), k)

  -- A negated class may not have strings.
  none_in_negated : (negated : Bool) (v : Value) (may : Bool) → (negated && is_not_negatable Ecma v) ≡ false →
      (v.may_have_strings ≡ false → may ≡ false) → (negated && may) ≡ false
  none_in_negated false v may e related = refl
  none_in_negated true v may e related = related (or_parts _ v.may_have_strings e).1

  class_read : (n : ℕ) (t : Source) → Each (Class n t (class_set_by table parameters n t)) (ClassSets.class_set_by table parameters n t)
  unfolding ClassSets.class_set_by class_set_by
  class_read zero t = each_none (Class zero t None)
  class_read (suc n) t =
      subst
      (λ (in_negated : Bool). Each (Class (suc n) t mine)
      (ClassSets.closed_contents_at table parameters (ClassSets.class_set_by table parameters n) in_negated (contents_of negated t)
      >>= unless_negated_strings Ecma negated))
      (sym (and_false negated))
      (each_then (Class (suc n) t mine)
      (ClassSets.closed_contents_at table parameters (ClassSets.class_set_by table parameters n) false (contents_of negated t)) _
      (λ x e. closed x (each_at _ _
      (each_then Whole (ClassSets.contents_at table parameters (ClassSets.class_set_by table parameters n) false (contents_of negated t)) _
      (λ y f. each_some Whole (closed_value table parameters y.0, y.1)
      (whole y (each_at _ _ (contents_read n (class_read n) (contents_of negated t)) y f)))) x e)))
    where
      negated : Bool
      negated = is_at (char "^") t

      mine : Found CharacterClass
      mine =
          found_map (λ contents. record { invert = negated; contents = contents })
          (contents_at table parameters (class_set_by table parameters n) (contents_of negated t))

      Whole : Value × Source → Type 0
      Whole x =
          AreContentsRead n (IsClassContents table named) (contents_of negated t)
          (contents_at table parameters (class_set_by table parameters n) (contents_of negated t)) x

      whole : (y : Value × Source) → Whole y → Whole (closed_value table parameters y.0, y.1)
      whole y read = record {
        contents = read.contents;
        found = read.found;
        derived = read.derived;
        fine = read.fine;
        within = read.within;
        related = read.related;
      }

      closed : (x : Value × Source) → Whole x → Each (Class (suc n) t mine) (unless_negated_strings Ecma negated x)
      closed (v, rest) read =
          each_if (Class (suc n) t mine) (negated && is_not_negatable Ecma v) None (Some ((negated, v), rest))
          (λ _. each_none (Class (suc n) t mine))
          (λ none. each_some (Class (suc n) t mine) ((negated, v), rest)
          (record {
            node = record { invert = negated; contents = read.contents };
            found = ap (found_map (λ (contents : ClassContents). record { invert = negated; contents = contents })) read.found;
            invert = refl;
            derived = class_derived t rest read.contents read.derived;
            fine = or_false _ _ (none_in_negated negated v (may_contain_strings read.contents) none read.related) read.fine;
            within = omega (arith, read.within);
            related = read.related;
          }))

  abbrev IsNode : Parameters → Source → (negated : Bool) → (rest : Source) → Type 0
  IsNode parameters t negated rest =
      (node : CharacterClass) × IsAcceptedClassSet table parameters.named node (char "[" ∷ t) rest
      × (depth node.contents < max_nesting_depth)
      × (character_class_at table parameters true t ≡ Some (node, rest)) × (node.invert ≡ negated)

  accepted : (t rest : Source) (negated : Bool) (value : Value) → class_set_at table parameters t ≡ Some ((negated, value), rest) →
      IsNode parameters t negated rest
  unfolding character_class_at
  accepted t rest negated value e =
      let read = each_at _ _ (class_read max_nesting_depth t) ((negated, value), rest) e in
      (read.node, (read.derived, read.fine), read.within, read.found, read.invert)

-- the same for parameters of the dialect with the flag u
pub own_parameters : (parameters : Parameters) → parameters.dialect ≡ Ecma → parameters.unicode ≡ true →
    own parameters.icase true parameters.named ≡ parameters
own_parameters parameters ecma unicode =
    sym (ap₂ (λ (d : Dialect) (u : Bool). record parameters { dialect = d; unicode = u }) ecma unicode)

pub class_set_accepted : (table : Table) → HasPropertiesOfStrings table → (parameters : Parameters) → parameters.dialect ≡ Ecma →
    parameters.unicode ≡ true → (t rest : Source) (negated : Bool) (value : Value) →
    class_set_at table parameters t ≡ Some ((negated, value), rest) →
    (node : CharacterClass) × IsAcceptedClassSet table parameters.named node (char "[" ∷ t) rest
    × (depth node.contents < max_nesting_depth)
    × (character_class_at table parameters true t ≡ Some (node, rest)) × (node.invert ≡ negated)
class_set_accepted table all parameters ecma unicode t rest negated value =
    subst
    (λ (p : Parameters). class_set_at table p t ≡ Some ((negated, value), rest) →
    (node : CharacterClass) × IsAcceptedClassSet table p.named node (char "[" ∷ t) rest
    × (depth node.contents < max_nesting_depth)
    × (character_class_at table p true t ≡ Some (node, rest)) × (node.invert ≡ negated))
    (own_parameters parameters ecma unicode)
    (λ e. accepted table parameters.icase parameters.named all t rest negated value e)
