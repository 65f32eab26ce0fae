-- A class with the flag v that ECMA-262 derives without an early error is accepted, with the same parse node.
use Rattle.std.proofs.Common.{◌≡◌, ℕ, zero, suc, ◌+◌, ◌<◌, ◌≤◌, ◌==◌, ◌⊎◌, inl, inr, Bool, true, false, ◌&&◌, List, [], ◌∷◌, ◌++◌, length, drop, Some, None, if◌then◌else◌, refl, sym, ap, subst, ◌∙◌, arith, append_assoc, append-nil}
use Rattle.std.proofs.lemmas.Bool.{or_parts}
use Rattle.regress_base.specs.Limits.{max_nesting_depth}
use Rattle.regress_base.specs.Table.{Table}
use Rattle.regress_lexer.specs.declared.dialect.Dialect.TheVariants.{Ecma}
use Rattle.regress_lexer.specs.Source.{Source, Found, ◌>>=◌, found_map, char, is_at}
use Rattle.regress_classes.specs.declared.parameters.Parameters.{Parameters}
use Rattle.regress_classes.specs.ClassSets.{Value, nothing, joined, folded_left, common, without, closed_value, closed_value_of, is_not_negatable, unless_negated_strings, Operand, value_of, are_at, class_set_at}
use Rattle.regress_classes.specs.ClassSets as ClassSets
use Rattle.regress_ecma.specs.ClassNodes.{ClassAtom, ClassContents, empty, atom_then, range_then, intersection, subtraction, CharacterClass}
use Rattle.regress_ecma.specs.ClassGrammar.{operand_at, operands_by, contents_at, class_set_by, character_class_at}
use Rattle.regress_ecma.specs.ClassSetExpressions.{IsOpened, is_wrong_set_range, IsClassUnion, IsClassIntersection, IsClassSubtraction, IsClassContents, IsAcceptedClassSet, operand_may_contain_strings, may_contain_strings, operand_has_early_error, contents_have_early_error, depth}
use Rattle.regress_ecma.proofs.EscapesWithU.{and_false}
use Rattle.regress_ecma.proofs.ClassAtomNodes.{own}
use Rattle.regress_ecma.proofs.ClassSetValues.{IsPlain, plain_negatable, common_plain, without_plain, closed_plain}
use Rattle.regress_ecma.proofs.DerivedUnions.{IsClassFound, AllAreFound, operand_begins, union_begins, IsFound, operand_shortens, operand_found, next_begins, IsPartFound, alone_found, part_found, IsUnionFound, union_found}
use Rattle.regress_ecma.proofs.AcceptedClassSets.{own_parameters}

folded_last : (f : Value → Value → Value) (held last : Value) (values : List Value) →
    folded_left f held (values ++ last ∷ []) ≡ f (folded_left f held values) last
folded_last f held last [] = refl
folded_last f held last (v ∷ values) = folded_last f (f held v) last values

-- what is found, after other values
abbrev onto : List Value → Found (List Value) → Found (List Value)
onto values found = found_map (λ (others : List Value). values ++ others) found

onto_twice : (values more : List Value) (found : Found (List Value)) → onto values (onto more found) ≡ onto (values ++ more) found
onto_twice values more None = refl
onto_twice values more (Some (others, rest)) = ap (λ (vs : List Value). Some (vs, rest)) (sym (append_assoc values more others))

module _ (table : Table) (icase named : Bool) where
  abbrev parameters : Parameters
  parameters = own icase true named

  abbrev Class : (n : ℕ) (t : Source) → CharacterClass → (rest : Source) → Type 0
  Class n t node rest = IsClassFound table icase named n t node rest

  abbrev closed : Operand → Value
  closed a = closed_value_of table parameters a

  module _ (n : ℕ) (inside : AllAreFound table icase named n) where
    abbrev inner : Source → Found (Bool × Value)
    inner t = ClassSets.class_set_by table parameters n t

    abbrev inner' : Source → Found CharacterClass
    inner' t = class_set_by table parameters n t

    abbrev operand : Source → Found Operand
    operand t = ClassSets.operand_at table parameters inner false t

    abbrev operand' : Source → Found ClassAtom
    operand' t = operand_at table parameters inner' t

    abbrev One : ClassAtom → (t rest : Source) → Type 0
    One node t rest = IsFound table icase named n inside node t rest

    -- ---- operators

    -- `operator` is of the parse nodes, and `f` of the contents.
    module _ (c : ℕ) (operator : ClassContents → ClassAtom → ClassContents) (f : Value → Value → Value) where
      record IsOperator : Type 0 where
        no_end : (c == char "]") ≡ false
        itself : (c == c) ≡ true
        plain : (left : ClassContents) (right : ClassAtom) (a b : Value) → (may_contain_strings left ≡ false → IsPlain a) →
            (operand_may_contain_strings right ≡ false → IsPlain b) → may_contain_strings (operator left right) ≡ false → IsPlain (f a b)

      abbrev operands : ℕ → Source → Found (List Value)
      operands m u = ClassSets.operands_by table parameters inner false m c u

      abbrev operands' : ℕ → ClassContents → Source → Found ClassContents
      operands' m left u = operands_by table parameters inner' m c operator left u

      -- what follows an operand on the right
      abbrev onward : ℕ → Source → Found (List Value)
      onward m v = if is_at (char "]") v then Some ([], drop 1 v) else if are_at c v then operands m (drop 2 v) else None

      abbrev onward' : ℕ → ClassContents → Source → Found ClassContents
      onward' m node v =
          if is_at (char "]") v then Some (node, drop 1 v) else if are_at c v then operands' m node (drop 2 v) else None

      -- From u on the operands up to v are found.
      record IsRun (m : ℕ) (u : Source) (first : Operand) (first' : ClassAtom) (node : ClassContents) (v : Source) : Type 0 where
        left : ℕ
        enough : length v ≤ left
        values : List Value
        found : operands m u ≡ onto values (onward left v)
        node_found : operands' m (atom_then first' empty) u ≡ onward' left node v
        plain : may_contain_strings node ≡ false → IsPlain (folded_left f (closed first) values)

      -- At t are a first operand and such operands.
      record IsChain (t : Source) (node : ClassContents) (v : Source) : Type 0 where
        first : Operand
        first' : ClassAtom
        u : Source
        found : operand t ≡ Some (first, c ∷ c ∷ u)
        node_found : operand' t ≡ Some (first', c ∷ c ∷ u)
        run : (m : ℕ) → length u < m → IsRun m u first first' node v

      one_more : (m : ℕ) (u v : Source) (right : ClassAtom) (is : One right u v) → is_at c u ≡ false →
          operands (suc m) u ≡ onto (closed is.operand ∷ []) (onward m v)
      unfolding ClassSets.operands_by
      one_more m u v right is apart =
          let found = is.found in
          rw (ClassSets.operands_by, apart, found) (by (is_at (char "]") v) (are_at c v) (operands m (drop 2 v)))
        where
          by : (ends again : Bool) (others : Found (List Value)) →
              (if ends then Some (closed is.operand ∷ [], drop 1 v)
              else if again then found_map (λ (vs : List Value). closed is.operand ∷ vs) others
              else None)
              ≡ onto (closed is.operand ∷ []) (if ends then Some ([], drop 1 v) else if again then others else None)
          by true again others = refl
          by false true others = refl
          by false false others = refl

      one_more' : (m : ℕ) (left : ClassContents) (u v : Source) (right : ClassAtom) → One right u v →
          operands' (suc m) left u ≡ onward' m (operator left right) v
      unfolding operands_by
      one_more' m left u v right is = let found = is.node_found in rw (operands_by, found) refl

      module _ (is : IsOperator) where
        goes_on : (m : ℕ) (u : Source) → onward m (c ∷ c ∷ u) ≡ operands m u
        goes_on m u = let no_end = is.no_end in let itself = is.itself in rw (no_end, itself) refl

        goes_on' : (m : ℕ) (node : ClassContents) (u : Source) → onward' m node (c ∷ c ∷ u) ≡ operands' m node u
        goes_on' m node u = let no_end = is.no_end in let itself = is.itself in rw (no_end, itself) refl

        first_run : (m : ℕ) (a right : ClassAtom) (first : Operand) (u v : Source) → length u < m →
            (operand_may_contain_strings a ≡ false → IsPlain (value_of first)) → One right u v → is_at c u ≡ false →
            IsRun m u first a (operator (atom_then a empty) right) v
        first_run zero a right first u v short plain second apart = absurd (omega arith)
        first_run (suc m) a right first u v short plain second apart = record {
          left = m;
          enough = omega (arith, operand_shortens table icase named n inside u v second.operand second.found);
          values = closed second.operand ∷ [];
          found = one_more m u v right second apart;
          node_found = one_more' m (atom_then a empty) u v right second;
          plain =
              is.plain (atom_then a empty) right (closed first) (closed second.operand)
              (λ none. closed_plain table parameters (value_of first) (plain (or_parts (operand_may_contain_strings a) false none).0))
              (λ none. closed_plain table parameters (value_of second.operand) (second.plain none));
        }

        first_chain : (a right : ClassAtom) (t u v : Source) → One a t (c ∷ c ∷ u) → is_at c u ≡ false → One right u v →
            IsChain t (operator (atom_then a empty) right) v
        first_chain a right t u v first apart second = record {
          first = first.operand;
          first' = a;
          u = u;
          found = first.found;
          node_found = first.node_found;
          run = λ m short. first_run m a right first.operand u v short first.plain second apart;
        }

        next_run : (m : ℕ) (first : Operand) (first' : ClassAtom) (left : ClassContents) (right : ClassAtom) (u w v : Source) →
            (before : IsRun m u first first' left (c ∷ c ∷ w)) → is_at c w ≡ false → One right w v →
            (k : ℕ) → before.left ≡ k → IsRun m u first first' (operator left right) v
        next_run m first first' left right u w v before apart second zero same = absurd (omega (arith, before.enough, same))
        next_run m first first' left right u w v before apart second (suc k) same = record {
          left = k;
          enough = omega (arith, before.enough, same, operand_shortens table icase named n inside w v second.operand second.found);
          values = before.values ++ closed second.operand ∷ [];
          found =
              before.found
              ∙ ap (onto before.values) (goes_on before.left w ∙ ap (λ (l : ℕ). operands l w) same ∙ one_more k w v right second apart)
              ∙ onto_twice before.values (closed second.operand ∷ []) (onward k v);
          node_found =
              before.node_found
              ∙ goes_on' before.left left w
              ∙ ap (λ (l : ℕ). operands' l left w) same
              ∙ one_more' k left w v right second;
          plain = λ none.
              subst IsPlain (sym (folded_last f (closed first) (closed second.operand) before.values))
              (is.plain left right (folded_left f (closed first) before.values) (closed second.operand) before.plain
              (λ none'. closed_plain table parameters (value_of second.operand) (second.plain none')) none);
        }

        next_chain : (left : ClassContents) (right : ClassAtom) (t w v : Source) → IsChain t left (c ∷ c ∷ w) → is_at c w ≡ false → One right w v →
            IsChain t (operator left right) v
        next_chain left right t w v before apart second = record {
          first = before.first;
          first' = before.first';
          u = before.u;
          found = before.found;
          node_found = before.node_found;
          run = λ m short.
              let run = before.run m short in
              next_run m before.first before.first' left right before.u w v run apart second run.left refl;
        }

    is_intersection : IsOperator (char "&") intersection common
    is_intersection = record {
      no_end = refl;
      itself = refl;
      plain = λ left right a b first second none.
          common_plain a b (by (may_contain_strings left) (operand_may_contain_strings right) a b first second none);
    }
      where
        by : (p q : Bool) (a b : Value) → (p ≡ false → IsPlain a) → (q ≡ false → IsPlain b) → (p && q) ≡ false → IsPlain a ⊎ IsPlain b
        by false q a b first second none = inl (first refl)
        by true q a b first second none = inr (second none)

    is_subtraction : IsOperator (char "-") subtraction without
    is_subtraction = record {
      no_end = refl;
      itself = refl;
      plain = λ left right a b first second none. without_plain a b (first none);
    }

    abbrev Chain : (c : ℕ) (operator : ClassContents → ClassAtom → ClassContents) (f : Value → Value → Value) (t : Source) → ClassContents →
        (v : Source) → Type 0
    Chain c operator f t node v = IsChain c operator f t node v

    intersection_found : (node : ClassContents) (t v : Source) → IsClassIntersection table named node t v → contents_have_early_error node ≡ false →
        depth node ≤ n → Chain (char "&") intersection common t node v
    intersection_found empty t v h fine within = absurd h
    intersection_found (atom_then a more) t v h fine within = absurd h
    intersection_found (range_then a b more) t v h fine within = absurd h
    intersection_found (intersection (atom_then a more) right) t v (u, inl (is_empty, first), apart, second) fine within =
        let errors = or_parts (contents_have_early_error (atom_then a more)) (operand_has_early_error right) fine in
        let errors' = or_parts (operand_has_early_error a) (contents_have_early_error more) errors.0 in
        subst (λ (x : ClassContents). Chain (char "&") intersection common t (intersection (atom_then a x) right) v) (sym is_empty)
        (first_chain (char "&") intersection common is_intersection a right t u v
        (operand_found table icase named n inside a t (char "&" ∷ char "&" ∷ u) first errors'.0 (omega (arith, within))) apart
        (operand_found table icase named n inside right u v second errors.1 (omega (arith, within))))
    intersection_found (intersection left right) t v (u, inl first, apart, second) fine within = absurd first
    intersection_found (intersection left right) t v (u, inr h, apart, second) fine within =
        let errors = or_parts (contents_have_early_error left) (operand_has_early_error right) fine in
        next_chain (char "&") intersection common is_intersection left right t u v
        (intersection_found left t (char "&" ∷ char "&" ∷ u) h errors.0 (omega (arith, within))) apart
        (operand_found table icase named n inside right u v second errors.1 (omega (arith, within)))
    intersection_found (subtraction left right) t v h fine within = absurd h

    subtraction_found : (node : ClassContents) (t v : Source) → IsClassSubtraction table named node t v → contents_have_early_error node ≡ false →
        depth node ≤ n → Chain (char "-") subtraction without t node v
    subtraction_found empty t v h fine within = absurd h
    subtraction_found (atom_then a more) t v h fine within = absurd h
    subtraction_found (range_then a b more) t v h fine within = absurd h
    subtraction_found (intersection left right) t v h fine within = absurd h
    subtraction_found (subtraction (atom_then a more) right) t v (u, inl (is_empty, first), second) fine within =
        let errors = or_parts (contents_have_early_error (atom_then a more)) (operand_has_early_error right) fine in
        let errors' = or_parts (operand_has_early_error a) (contents_have_early_error more) errors.0 in
        subst (λ (x : ClassContents). Chain (char "-") subtraction without t (subtraction (atom_then a x) right) v) (sym is_empty)
        (first_chain (char "-") subtraction without is_subtraction a right t u v
        (operand_found table icase named n inside a t (char "-" ∷ char "-" ∷ u) first errors'.0 (omega (arith, within)))
        (operand_begins table icase named right u v second).hyphen
        (operand_found table icase named n inside right u v second errors.1 (omega (arith, within))))
    subtraction_found (subtraction left right) t v (u, inl first, second) fine within = absurd first
    subtraction_found (subtraction left right) t v (u, inr h, second) fine within =
        let errors = or_parts (contents_have_early_error left) (operand_has_early_error right) fine in
        next_chain (char "-") subtraction without is_subtraction left right t u v
        (subtraction_found left t (char "-" ∷ char "-" ∷ u) h errors.0 (omega (arith, within)))
        (operand_begins table icase named right u v second).hyphen
        (operand_found table icase named n inside right u v second errors.1 (omega (arith, within)))

    -- ---- contents

    record AreContentsFound (t : Source) (contents : ClassContents) (rest : Source) : Type 0 where
      value : Value
      found : ClassSets.contents_at table parameters inner false t ≡ Some (value, rest)
      node_found : contents_at table parameters inner' t ≡ Some (contents, rest)
      plain : may_contain_strings contents ≡ false → IsPlain value

    -- after the first operand
    intersected : (t : Source) (contents : ClassContents) (rest : Source) → is_at (char "]") t ≡ false →
        Chain (char "&") intersection common t contents (char "]" ∷ rest) → AreContentsFound t contents rest
    intersected t contents rest opens chain =
        let run = chain.run (length chain.u + 1) (omega arith) in
        let first = chain.found in
        let first' = chain.node_found in
        let found = run.found in
        let found' = run.node_found in
        record {
          value = folded_left common (closed chain.first) (run.values ++ []);
          found = rw (opens, first) (ap (found_map (folded_left common (closed chain.first))) found);
          node_found = rw (opens, first') found';
          plain = λ none. subst (λ (vs : List Value). IsPlain (folded_left common (closed chain.first) vs)) (sym (append-nil run.values)) (run.plain none);
        }

    subtracted : (t : Source) (contents : ClassContents) (rest : Source) → is_at (char "]") t ≡ false →
        Chain (char "-") subtraction without t contents (char "]" ∷ rest) → AreContentsFound t contents rest
    subtracted t contents rest opens chain =
        let run = chain.run (length chain.u + 1) (omega arith) in
        let first = chain.found in
        let first' = chain.node_found in
        let found = run.found in
        let found' = run.node_found in
        record {
          value = folded_left without (closed chain.first) (run.values ++ []);
          found = rw (opens, first) (ap (found_map (folded_left without (closed chain.first))) found);
          node_found = rw (opens, first') found';
          plain = λ none. subst (λ (vs : List Value). IsPlain (folded_left without (closed chain.first) vs)) (sym (append-nil run.values)) (run.plain none);
        }

    united : (t u : Source) (part : ClassContents → ClassContents) (more : ClassContents) (rest : Source) → is_at (char "]") t ≡ false →
        IsPartFound table icase named n inside t part u → IsUnionFound table icase named n inside (length u + 1) u more rest →
        AreContentsFound t (part more) rest
    united t u part more rest opens is others =
        let first = is.first_found in
        let first' = is.node_found in
        let ampersands = is.ampersands in
        let hyphens = is.hyphens in
        let lone = and_false (is_at (char "&") is.onward) in
        let found = is.found in
        let found' = is.part_found in
        let next = others.found in
        let next' = others.node_found in
        record {
          value = folded_left joined is.value others.values;
          found = rw (opens, first, ampersands, hyphens, lone, found, next) refl;
          node_found = rw (opens, first', ampersands, hyphens, lone, found', next') refl;
          plain = λ none. let both = is.plain more none in others.plain both.1 is.value both.0;
        }

    union_contents : (contents : ClassContents) (t rest : Source) → IsClassUnion table named contents t (char "]" ∷ rest) →
        contents_have_early_error contents ≡ false → depth contents ≤ n → AreContentsFound t contents rest
    union_contents empty t rest h fine within = absurd h
    union_contents (atom_then a more) t rest (u, derived, next) fine within =
        let errors = or_parts (operand_has_early_error a) (contents_have_early_error more) fine in
        united t u (atom_then a) more rest (operand_begins table icase named a t u derived).closes
        (alone_found table icase named n inside a t u
        (operand_found table icase named n inside a t u derived errors.0 (omega (arith, within)))
        (next_begins table icase named n inside more u rest next))
        (union_found table icase named n inside (length u + 1) u (omega arith) more rest next errors.1 (omega (arith, within)))
    union_contents (range_then first last more) t rest (u, range, next) fine within =
        let errors = or_parts (is_wrong_set_range first last) (contents_have_early_error more) fine in
        united t u (range_then first last) more rest
        (union_begins table icase named (range_then first last more) t (char "]" ∷ rest) (u, range, next)).closes
        (part_found table icase named n inside first last t u range errors.0)
        (union_found table icase named n inside (length u + 1) u (omega arith) more rest next errors.1 within)
    union_contents (intersection left right) t rest h fine within = absurd h
    union_contents (subtraction left right) t rest h fine within = absurd h

    no_contents : (contents : ClassContents) (t rest : Source) → contents ≡ empty → t ≡ char "]" ∷ rest → AreContentsFound t contents rest
    no_contents contents t rest is_empty same =
        subst (λ (w : Source). AreContentsFound w contents rest) (sym same)
        (subst (λ (x : ClassContents). AreContentsFound (char "]" ∷ rest) x rest) (sym is_empty)
        (record {
          value = nothing;
          found = refl;
          node_found = refl;
          plain = λ none. record { strings = refl; has_empty = refl; may_have = refl };
        }))

    intersection_opens : (contents : ClassContents) (t v : Source) → IsClassIntersection table named contents t v → is_at (char "]") t ≡ false
    intersection_opens empty t v h = absurd h
    intersection_opens (atom_then a more) t v h = absurd h
    intersection_opens (range_then a b more) t v h = absurd h
    intersection_opens (intersection (atom_then a more) right) t v (u, inl (is_empty, first), apart, second) =
        (operand_begins table icase named a t (char "&" ∷ char "&" ∷ u) first).closes
    intersection_opens (intersection left right) t v (u, inl first, apart, second) = absurd first
    intersection_opens (intersection left right) t v (u, inr h, apart, second) = intersection_opens left t (char "&" ∷ char "&" ∷ u) h
    intersection_opens (subtraction left right) t v h = absurd h

    subtraction_opens : (contents : ClassContents) (t v : Source) → IsClassSubtraction table named contents t v → is_at (char "]") t ≡ false
    subtraction_opens empty t v h = absurd h
    subtraction_opens (atom_then a more) t v h = absurd h
    subtraction_opens (range_then a b more) t v h = absurd h
    subtraction_opens (intersection left right) t v h = absurd h
    subtraction_opens (subtraction (atom_then a more) right) t v (u, inl (is_empty, first), others) =
        (operand_begins table icase named a t (char "-" ∷ char "-" ∷ u) first).closes
    subtraction_opens (subtraction left right) t v (u, inl first, others) = absurd first
    subtraction_opens (subtraction left right) t v (u, inr h, others) = subtraction_opens left t (char "-" ∷ char "-" ∷ u) h

    contents_found : (contents : ClassContents) (t rest : Source) → IsClassContents table named contents t (char "]" ∷ rest) →
        contents_have_early_error contents ≡ false → depth contents ≤ n → AreContentsFound t contents rest
    contents_found contents t rest (inl (is_empty, same)) fine within = no_contents contents t rest is_empty same
    contents_found contents t rest (inr (inl h)) fine within = union_contents contents t rest h fine within
    contents_found contents t rest (inr (inr (inl h))) fine within =
        intersected t contents rest (intersection_opens contents t (char "]" ∷ rest) h)
        (intersection_found contents t (char "]" ∷ rest) h fine within)
    contents_found contents t rest (inr (inr (inr h))) fine within =
        subtracted t contents rest (subtraction_opens contents t (char "]" ∷ rest) h)
        (subtraction_found contents t (char "]" ∷ rest) h fine within)

  -- ---- classes

  -- the contents, after `^`
  abbrev contents_of : Bool → Source → Source
  contents_of invert t = if invert then drop 1 t else t

  opened_is : (invert : Bool) (t u : Source) → IsOpened table named invert (char "[" ∷ t) u →
      (invert ≡ is_at (char "^") t) × (u ≡ contents_of (is_at (char "^") t) t)
  opened_is false t u (same, other) =
      let at_u : t ≡ u = ap (drop 1) same in
      let none : is_at (char "^") t ≡ false = ap (is_at (char "^")) at_u ∙ other in
      (sym none, sym at_u ∙ sym (ap (λ (b : Bool). contents_of b t) none))
  opened_is true t u same =
      let at_u : t ≡ char "^" ∷ u = ap (drop 1) same in
      let at : is_at (char "^") t ≡ true = ap (is_at (char "^")) at_u in
      (sym at, sym (ap (drop 1) at_u) ∙ sym (ap (λ (b : Bool). contents_of b t) at))

  -- It may be negated, if it is.
  negatable : (negated : Bool) (contents : ClassContents) (v : Value) → (may_contain_strings contents ≡ false → IsPlain v) →
      (negated && may_contain_strings contents) ≡ false → (negated && is_not_negatable Ecma v) ≡ false
  negatable false contents v plain none = refl
  negatable true contents v plain none = plain_negatable v (plain none)

  class_found : (n : ℕ) → AllAreFound table icase named n
  unfolding ClassSets.class_set_by class_set_by
  class_found zero t rest node derived fine within = absurd (omega arith)
  class_found (suc n) t rest node (u, opened, contents) fine within =
      let front = opened_is node.invert t u opened in
      let errors = or_parts (node.invert && may_contain_strings node.contents) (contents_have_early_error node.contents) fine in
      whole (class_found n) front.0
      (ap (λ (b : Bool). b && may_contain_strings node.contents) (sym front.0) ∙ errors.0)
      (contents_found n (class_found n) node.contents (contents_of negated t) rest
      (subst (λ (w : Source). IsClassContents table named node.contents w (char "]" ∷ rest)) front.1 contents) errors.1 (omega (arith, within)))
    where
      negated : Bool
      negated = is_at (char "^") t

      whole : (others : AllAreFound table icase named n) → node.invert ≡ negated → (negated && may_contain_strings node.contents) ≡ false →
          AreContentsFound n others (contents_of negated t) node.contents rest → Class (suc n) t node rest
      whole others same none are =
          let plain = λ (none' : may_contain_strings node.contents ≡ false). closed_plain table parameters are.value (are.plain none') in
          let value : Value = closed_value table parameters are.value in
          record {
            value = value;
            found =
                ap (λ (in_negated : Bool). ClassSets.closed_contents_at table parameters (ClassSets.class_set_by table parameters n) in_negated
                (contents_of negated t) >>= unless_negated_strings Ecma negated) (and_false negated)
                ∙ ap (λ (o : Found Value). found_map (closed_value table parameters) o >>= unless_negated_strings Ecma negated) are.found
                ∙ ap (λ (b : Bool). if b then None else Some ((negated, value), rest)) (negatable negated node.contents value plain none)
                ∙ ap (λ (b : Bool). Some ((b, value), rest)) (sym same);
            node_found =
                ap (found_map (λ (contents : ClassContents). record { invert = negated; contents = contents })) are.node_found
                ∙ ap (λ (b : Bool). Some (record { invert = b; contents = node.contents }, rest)) (sym same);
            plain = plain;
          }

  derived : (t rest : Source) (node : CharacterClass) → IsAcceptedClassSet table named node (char "[" ∷ t) rest →
      depth node.contents < max_nesting_depth →
      (character_class_at table parameters true t ≡ Some (node, rest))
      × ((value : Value) × (class_set_at table parameters t ≡ Some ((node.invert, value), rest)))
  unfolding character_class_at
  derived t rest node accepted within =
      let is = class_found max_nesting_depth t rest node accepted.0 accepted.1 within in
      (is.node_found, (is.value, is.found))

pub class_set_derived : (table : Table) (parameters : Parameters) → parameters.dialect ≡ Ecma → parameters.unicode ≡ true →
    (t rest : Source) (node : CharacterClass) → IsAcceptedClassSet table parameters.named node (char "[" ∷ t) rest →
    depth node.contents < max_nesting_depth →
    (character_class_at table parameters true t ≡ Some (node, rest))
    × ((value : Value) × (class_set_at table parameters t ≡ Some ((node.invert, value), rest)))
class_set_derived table parameters ecma unicode t rest node =
    subst
    (λ (p : Parameters). IsAcceptedClassSet table p.named node (char "[" ∷ t) rest → depth node.contents < max_nesting_depth →
    (character_class_at table p true t ≡ Some (node, rest))
    × ((value : Value) × (class_set_at table p t ≡ Some ((node.invert, value), rest))))
    (own_parameters parameters ecma unicode)
    (λ accepted within. derived table parameters.icase parameters.named t rest node accepted within)
