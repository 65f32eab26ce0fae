-- With the flag v the operands and the parts of a union that ECMA-262 derives without an early error are found, with the same
-- parse nodes.
use Rattle.std.proofs.Common.{◌≡◌, ℕ, zero, suc, ◌<◌, ◌≤◌, ◌==◌, ◌⊎◌, inl, inr, Bool, true, false, not, ◌&&◌, List, [], ◌∷◌, length, drop, Option, Some, None, if◌then◌else◌, nat_le, refl, sym, ap, ap₂, subst, ◌∙◌, eqb-true, arith}
use Rattle.std.proofs.lemmas.Bool.{or_parts}
use Rattle.std.proofs.lemmas.Option.{none-some}
use Rattle.regress_base.specs.Intervals.{Bounds}
use Rattle.regress_base.specs.Table.{Table}
use Rattle.regress_lexer.specs.Source.{Source, Found, char, is_at}
use Rattle.regress_lexer.proofs.lemmas.After.{after_shorter}
use Rattle.regress_classes.specs.declared.parameters.Parameters.{Parameters}
use Rattle.regress_classes.specs.ClassSets.{Value, only, joined, folded_left, nested, Operand, value_of, escaped_character_at, set_character_at, are_at}
use Rattle.regress_classes.specs.ClassSets as ClassSets
use Rattle.regress_classes.proofs.lemmas.ClassSets.{operand_at-shortens, class_set_by-ends}
use Rattle.regress_ecma.specs.ClassNodes.{ClassAtom, character, class_escape, property, string_property, class_strings, nested_class, ClassContents, empty, atom_then, range_then, intersection, subtraction, CharacterClass}
use Rattle.regress_ecma.specs.ClassGrammar.{escaped_operand_at, operand_at, part_after, class_union_by, class_set_by}
use Rattle.regress_ecma.specs.ClassRanges.{character_class_escape}
use Rattle.regress_ecma.specs.ClassSetExpressions.{class_set_character, IsOpened, IsClassEscape, is_wrong_set_range, IsClassSetRange, IsClassSetOperand, IsClassUnion, IsCharacterClass, operand_may_contain_strings, may_contain_strings, operand_has_early_error, contents_have_early_error, has_early_error, depth_of_operand, depth}
use Rattle.regress_ecma.proofs.EscapesWithU.{by_case}
use Rattle.regress_ecma.proofs.ClassAtomNodes.{own}
use Rattle.regress_ecma.proofs.ClassDerivations.{front_is}
use Rattle.regress_ecma.proofs.ClassSetCharacters.{character_same, not_closed, not_hyphen, not_open, not_ampersands}
use Rattle.regress_ecma.proofs.ClassSetValues.{IsPlain, joined_plain}
use Rattle.regress_ecma.proofs.DerivedOperands.{AreFound, only_plain, escape_found, escaped_found, quoted_found}

module _ (table : Table) (icase named : Bool) where
  abbrev parameters : Parameters
  parameters = own icase true named

  -- Both grammars find the class, and it has no strings if the node may not contain any.
  pub record IsClassFound (n : ℕ) (t : Source) (node : CharacterClass) (rest : Source) : Type 0 where
    pub value : Value
    pub found : ClassSets.class_set_by table parameters n t ≡ Some ((node.invert, value), rest)
    pub node_found : class_set_by table parameters n t ≡ Some (node, rest)
    pub plain : may_contain_strings node.contents ≡ false → IsPlain value

  abbrev pub AllAreFound : ℕ → Type 0
  AllAreFound n =
      (t rest : Source) (node : CharacterClass) → IsCharacterClass table named node (char "[" ∷ t) rest → has_early_error node ≡ false →
      depth node.contents < n → IsClassFound n t node rest

  -- ---- what a derivation begins with

  pub record Begins (t : Source) : Type 0 where
    pub closes : is_at (char "]") t ≡ false
    pub hyphen : is_at (char "-") t ≡ false
    pub ampersands : are_at (char "&") t ≡ false

  escape_front : (node : ClassAtom) (t rest : Source) → IsClassEscape table named node t rest →
      (t ≡ char "\\" ∷ drop 1 t) × (character_class_escape true true table (drop 1 t) ≡ Some (node, rest))
  escape_front node [] rest e = absurd (none-some (node, rest) e)
  escape_front node (c ∷ t) rest e = by (c == char "\\") refl e
    where
      by : (b : Bool) → (c == char "\\") ≡ b → (if b then character_class_escape true true table t else None) ≡ Some (node, rest) →
          (c ∷ t ≡ char "\\" ∷ t) × (character_class_escape true true table t ≡ Some (node, rest))
      by true is f = (ap (λ (d : ℕ). d ∷ t) (eqb-true c (char "\\") is), f)
      by false is f = absurd (none-some (node, rest) f)

  opened_front : (invert : Bool) (t u : Source) → IsOpened table named invert t u → t ≡ char "[" ∷ drop 1 t
  opened_front false t u (same, other) = same ∙ ap (λ (w : Source). char "[" ∷ drop 1 w) (sym same)
  opened_front true t u same = same ∙ ap (λ (w : Source). char "[" ∷ drop 1 w) (sym same)

  slash_begins : (t u : Source) → t ≡ char "\\" ∷ u → Begins t
  slash_begins t u same = record {
    closes = ap (is_at (char "]")) same;
    hyphen = ap (is_at (char "-")) same;
    ampersands = ap (are_at (char "&")) same;
  }

  character_begins : (c : ℕ) (t rest : Source) → class_set_character table named t ≡ Some (c, rest) → Begins t
  character_begins c t rest e = record {
    closes = not_closed table icase named c t rest e;
    hyphen = not_hyphen table icase named c t rest e;
    ampersands = not_ampersands table icase named c t rest e;
  }

  pub operand_begins : (node : ClassAtom) (t rest : Source) → IsClassSetOperand table named node t rest → Begins t
  operand_begins (character c) t rest e = character_begins c t rest e
  operand_begins (class_escape kind capital) t rest e = slash_begins t (drop 1 t) (escape_front (class_escape kind capital) t rest e).0
  operand_begins (property members capital) t rest e = slash_begins t (drop 1 t) (escape_front (property members capital) t rest e).0
  operand_begins (string_property members) t rest e = slash_begins t (drop 1 t) (escape_front (string_property members) t rest e).0
  operand_begins (class_strings strings) t rest (u, same, h) = slash_begins t (char "q" ∷ char "{" ∷ u) same
  operand_begins (nested_class invert contents) t rest (u, opened, h) =
      let same = opened_front invert t u opened in
      record { closes = ap (is_at (char "]")) same; hyphen = ap (is_at (char "-")) same; ampersands = ap (are_at (char "&")) same }

  -- The ends of a range are characters.
  record AreEnds (first last : ClassAtom) (t rest : Source) : Type 0 where
    first_value : ℕ
    last_value : ℕ
    first_is : first ≡ character first_value
    last_is : last ≡ character last_value
    between : Source
    first_derived : class_set_character table named t ≡ Some (first_value, char "-" ∷ between)
    last_derived : class_set_character table named between ≡ Some (last_value, rest)

  range_ends : (first last : ClassAtom) (t rest : Source) → IsClassSetRange table named first last t rest → AreEnds first last t rest
  range_ends (character a) (character b) t rest (u, first, last) = record {
    first_value = a;
    last_value = b;
    first_is = refl;
    last_is = refl;
    between = u;
    first_derived = first;
    last_derived = last;
  }
  range_ends first last t rest h = absurd h

  pub union_begins : (contents : ClassContents) (t rest : Source) → IsClassUnion table named contents t rest → Begins t
  union_begins empty t rest h = absurd h
  union_begins (atom_then a more) t rest (u, operand, next) = operand_begins a t u operand
  union_begins (range_then first last more) t rest (u, range, next) =
      let ends = range_ends first last t u range in character_begins ends.first_value t (char "-" ∷ ends.between) ends.first_derived
  union_begins (intersection left right) t rest h = absurd h
  union_begins (subtraction left right) t rest h = absurd h

  -- ---- operands

  module _ (n : ℕ) (inside : AllAreFound n) where
    abbrev inner : Source → Found (Bool × Value)
    inner t = ClassSets.class_set_by table parameters n t

    abbrev inner' : Source → Found CharacterClass
    inner' t = class_set_by table parameters n t

    abbrev operand : Source → Found Operand
    operand t = ClassSets.operand_at table parameters inner false t

    abbrev operand' : Source → Found ClassAtom
    operand' t = operand_at table parameters inner' t

    abbrev pub IsFound : ClassAtom → (t rest : Source) → Type 0
    IsFound node t rest = AreFound (operand t) (operand' t) node rest

    pub operand_shortens : (t rest : Source) (x : Operand) → operand t ≡ Some (x, rest) → length rest < length t
    unfolding ClassSets.operand_at set_character_at
    operand_shortens [] rest x e = absurd (none-some (x, rest) e)
    operand_shortens (c ∷ t) rest x e =
        omega (
          arith,
          after_shorter t rest ((operand_at-shortens table parameters inner (class_set_by-ends table parameters n) false (c ∷ t)).each (x, rest) e),
        )

    -- after a backslash
    slash_found : (node : ClassAtom) (t u rest : Source) → t ≡ char "\\" ∷ u →
        AreFound (ClassSets.escaped_operand_at table parameters false u) (escaped_operand_at table parameters u) node rest → IsFound node t rest
    unfolding ClassSets.operand_at operand_at
    slash_found node t u rest same are = subst (λ (w : Source). IsFound node w rest) (sym same) are

    escape_is_found : (node : ClassAtom) (t rest : Source) → IsClassEscape table named node t rest → IsFound node t rest
    escape_is_found node t rest e =
        let front = escape_front node t rest e in
        slash_found node t (drop 1 t) rest front.0 (escape_found table icase named (drop 1 t) node rest front.1)

    plain_found : (c : ℕ) (t rest : Source) → is_at (char "[") t ≡ false → is_at (char "\\") t ≡ false →
        set_character_at parameters t ≡ Some (c, rest) → IsFound (character c) t rest
    unfolding ClassSets.operand_at operand_at
    plain_found c t rest open_ slash e = record {
      operand = ClassSets.character c;
      found = rw (ClassSets.operand_at, open_, slash, e) refl;
      node_found = rw (operand_at, open_, slash, e) refl;
      same = refl;
      plain = λ none. only_plain _;
    }

    escaped_character : (c : ℕ) (t u rest : Source) → t ≡ char "\\" ∷ u → set_character_at parameters t ≡ Some (c, rest) →
        escaped_character_at true u ≡ Some (c, rest)
    unfolding set_character_at
    escaped_character c t u rest same e = sym (ap (set_character_at parameters) same) ∙ e

    character_is_found : (c : ℕ) (t rest : Source) → class_set_character table named t ≡ Some (c, rest) → IsFound (character c) t rest
    character_is_found c t rest e =
        let found = sym (character_same table icase named t) ∙ e in
        by_case (is_at (char "\\") t)
        (λ slash.
        let front = front_is (char "\\") t slash in
        slash_found (character c) t (drop 1 t) rest front
        (escaped_found table icase named (drop 1 t) c rest (escaped_character c t (drop 1 t) rest front found)))
        (λ slash. plain_found c t rest (not_open table icase named c t rest e) slash found)

    nested_plain : (invert : Bool) (v : Value) → IsPlain v → IsPlain (nested (invert, v))
    nested_plain invert v plain = record { strings = plain.strings; has_empty = plain.has_empty; may_have = plain.may_have }

    nested_found : (invert : Bool) (contents : ClassContents) (t rest : Source) → is_at (char "[") t ≡ true →
        (invert && may_contain_strings contents) ≡ false →
        IsClassFound n (drop 1 t) (record { invert = invert; contents = contents }) rest → IsFound (nested_class invert contents) t rest
    unfolding ClassSets.operand_at operand_at
    nested_found invert contents t rest opens fine is =
        let found = is.found in
        let node_found = is.node_found in
        record {
          operand = ClassSets.class (nested (invert, is.value));
          found = rw (ClassSets.operand_at, opens, found) refl;
          node_found = rw (operand_at, opens, node_found) refl;
          same = tt;
          plain = λ none. nested_plain invert is.value (is.plain (by invert (may_contain_strings contents) fine none));
        }
      where
        by : (b m : Bool) → (b && m) ≡ false → (not b && m) ≡ false → m ≡ false
        by true m e f = e
        by false m e f = f

    pub operand_found : (node : ClassAtom) (t rest : Source) → IsClassSetOperand table named node t rest → operand_has_early_error node ≡ false →
        depth_of_operand node ≤ n → IsFound node t rest
    operand_found (character c) t rest e fine within = character_is_found c t rest e
    operand_found (class_escape kind capital) t rest e fine within = escape_is_found (class_escape kind capital) t rest e
    operand_found (property members capital) t rest e fine within = escape_is_found (property members capital) t rest e
    operand_found (string_property members) t rest e fine within = escape_is_found (string_property members) t rest e
    operand_found (class_strings strings) t rest (u, same, h) fine within =
        slash_found (class_strings strings) t (char "q" ∷ char "{" ∷ u) rest same (quoted_found table icase named u rest strings h)
    operand_found (nested_class invert contents) t rest (u, opened, h) fine within =
        let front = opened_front invert t u opened in
        nested_found invert contents t rest (ap (is_at (char "[")) front) (or_parts (invert && may_contain_strings contents) _ fine).0
        (inside (drop 1 t) rest (record { invert = invert; contents = contents })
        (subst (λ (w : Source). IsCharacterClass table named (record { invert = invert; contents = contents }) w rest) front (u, opened, h)) fine
        (omega (arith, within)))

    -- ---- unions

    -- what follows a part
    abbrev pub Next : ClassContents → (u rest : Source) → Type 0
    Next more u rest = (more ≡ empty) × (u ≡ char "]" ∷ rest) ⊎ IsClassUnion table named more u (char "]" ∷ rest)

    pub record IsNoOperator (u : Source) : Type 0 where
      pub hyphen : is_at (char "-") u ≡ false
      pub ampersands : are_at (char "&") u ≡ false

    pub next_begins : (more : ClassContents) (u rest : Source) → Next more u rest → IsNoOperator u
    next_begins more u rest (inl (is_empty, same)) =
        record { hyphen = ap (is_at (char "-")) same; ampersands = ap (are_at (char "&")) same }
    next_begins more u rest (inr h) =
        let begins = union_begins more u (char "]" ∷ rest) h in record { hyphen = begins.hyphen; ampersands = begins.ampersands }

    -- A part, as what it makes of the rest of a union. What follows its first operand is no operator.
    pub record IsPartFound (t : Source) (part : ClassContents → ClassContents) (u : Source) : Type 0 where
      pub first : Operand
      pub node : ClassAtom
      pub onward : Source
      pub value : Value
      pub first_found : operand t ≡ Some (first, onward)
      pub node_found : operand' t ≡ Some (node, onward)
      pub found : ClassSets.part_after table parameters inner false (first, onward) ≡ Some (value, u)
      pub part_found : part_after table parameters inner' (node, onward) ≡ Some (part, u)
      pub ampersands : are_at (char "&") onward ≡ false
      pub hyphens : are_at (char "-") onward ≡ false
      pub plain : (more : ClassContents) → may_contain_strings (part more) ≡ false → IsPlain value × (may_contain_strings more ≡ false)
      pub shorter : length u < length t

    no_hyphens : (u : Source) → is_at (char "-") u ≡ false → are_at (char "-") u ≡ false
    no_hyphens u e = ap (λ (b : Bool). b && is_at (char "-") (drop 1 u)) e

    pub alone_found : (a : ClassAtom) (t u : Source) → IsFound a t u → IsNoOperator u → IsPartFound t (atom_then a) u
    alone_found a t u is other =
        let hyphen = other.hyphen in
        record {
          first = is.operand;
          node = a;
          onward = u;
          value = value_of is.operand;
          first_found = is.found;
          node_found = is.node_found;
          found = rw hyphen refl;
          part_found = rw hyphen refl;
          ampersands = other.ampersands;
          hyphens = no_hyphens u hyphen;
          plain = λ more none.
              let both = or_parts (operand_may_contain_strings a) (may_contain_strings more) none in
              (is.plain both.0, both.1);
          shorter = operand_shortens t u is.operand is.found;
        }

    ordered : (b : Bool) → not b ≡ false → b ≡ true
    ordered true e = refl
    ordered false e = sym e

    character_theirs : (c : ℕ) (t rest : Source) → class_set_character table named t ≡ Some (c, rest) → operand t ≡ Some (ClassSets.character c, rest)
    character_theirs c t rest e =
        let is = character_is_found c t rest e in
        is.found ∙ ap (λ (o : Operand). Some (o, rest)) is.same

    abbrev bounds_if : ℕ → ℕ → Bool → Option (List Bounds)
    bounds_if a b is_ordered = if is_ordered then Some (record { first = a; last = b } ∷ []) else None

    abbrev range_made : Option (List Bounds) → Source → Found Value
    range_made found rest = elim found as (λ _. Found Value) [ None ↦ None | Some members ↦ Some (only members, rest) ]

    range_found : (a b : ℕ) (t u v : Source) → class_set_character table named t ≡ Some (a, char "-" ∷ u) →
        class_set_character table named u ≡ Some (b, v) → not (nat_le a b) ≡ false → IsPartFound t (range_then (character a) (character b)) v
    range_found a b t u v e f fine =
        let first = character_theirs a t (char "-" ∷ u) e in
        let last = character_theirs b u v f in
        let last' = (character_is_found b u v f).node_found in
        let in_order = ordered (nat_le a b) fine in
        let less = operand_shortens t (char "-" ∷ u) (ClassSets.character a) first in
        let less_again = operand_shortens u v (ClassSets.character b) last in
        record {
          first = ClassSets.character a;
          node = character a;
          onward = char "-" ∷ u;
          value = only (record { first = a; last = b } ∷ []);
          first_found = first;
          node_found = (character_is_found a t (char "-" ∷ u) e).node_found;
          found =
              rw last
              (ap (λ (is_ordered : Bool). range_made (bounds_if a b is_ordered) v) in_order);
          part_found = rw last' refl;
          ampersands = refl;
          hyphens = not_hyphen table icase named b u v f;
          plain = λ more none. (only_plain _, none);
          shorter = omega (arith, less, less_again);
        }

    pub part_found : (first last : ClassAtom) (t rest : Source) → IsClassSetRange table named first last t rest → is_wrong_set_range first last ≡ false →
        IsPartFound t (range_then first last) rest
    part_found first last t rest range fine =
        let ends = range_ends first last t rest range in
        subst (λ (x : ClassAtom). IsPartFound t (range_then x last) rest) (sym ends.first_is)
        (subst (λ (y : ClassAtom). IsPartFound t (range_then (character ends.first_value) y) rest) (sym ends.last_is)
        (range_found ends.first_value ends.last_value t ends.between rest ends.first_derived ends.last_derived
        (sym (ap₂ (λ (x y : ClassAtom). is_wrong_set_range x y) ends.first_is ends.last_is) ∙ fine)))

    -- The parts up to `]`.
    pub record IsUnionFound (m : ℕ) (t : Source) (contents : ClassContents) (rest : Source) : Type 0 where
      pub values : List Value
      pub found : ClassSets.parts_by table parameters inner false m t ≡ Some (values, rest)
      pub node_found : class_union_by table parameters inner' m t ≡ Some (contents, rest)
      pub plain : may_contain_strings contents ≡ false → (held : Value) → IsPlain held → IsPlain (folded_left joined held values)

    union_ends : (m : ℕ) (t : Source) (contents : ClassContents) (rest : Source) → contents ≡ empty → t ≡ char "]" ∷ rest →
        IsUnionFound (suc m) t contents rest
    unfolding ClassSets.parts_by class_union_by
    union_ends m t contents rest is_empty same =
        subst (λ (w : Source). IsUnionFound (suc m) w contents rest) (sym same)
        (subst (λ (x : ClassContents). IsUnionFound (suc m) (char "]" ∷ rest) x rest) (sym is_empty)
        (record { values = []; found = refl; node_found = refl; plain = λ none held plain. plain }))

    more_found : (m : ℕ) (t u : Source) (part : ClassContents → ClassContents) (more : ClassContents) (rest : Source) → is_at (char "]") t ≡ false →
        IsPartFound t part u → IsUnionFound m u more rest → IsUnionFound (suc m) t (part more) rest
    unfolding ClassSets.parts_by class_union_by
    more_found m t u part more rest opens is others =
        let first = is.first_found in
        let first' = is.node_found in
        let found = is.found in
        let found' = is.part_found in
        let next = others.found in
        let next' = others.node_found in
        record {
          values = is.value ∷ others.values;
          found = rw (ClassSets.parts_by, opens, first, found, next) refl;
          node_found = rw (class_union_by, opens, first', found', next') refl;
          plain = λ none held plain.
              let both = is.plain more none in
              others.plain both.1 (joined held is.value) (joined_plain held is.value plain both.0);
        }

    union_step : (m : ℕ) (t : Source) → length t < suc m →
        ((u : Source) → length u < m → (more : ClassContents) (rest : Source) → Next more u rest → contents_have_early_error more ≡ false →
        depth more ≤ n → IsUnionFound m u more rest) →
        (contents : ClassContents) (rest : Source) → IsClassUnion table named contents t (char "]" ∷ rest) →
        contents_have_early_error contents ≡ false → depth contents ≤ n → IsUnionFound (suc m) t contents rest
    union_step m t short others empty rest h fine within = absurd h
    union_step m t short others (atom_then a more) rest (u, derived, next) fine within =
        let errors = or_parts (operand_has_early_error a) (contents_have_early_error more) fine in
        let is = operand_found a t u derived errors.0 (omega (arith, within)) in
        let part = alone_found a t u is (next_begins more u rest next) in
        let less = part.shorter in
        more_found m t u (atom_then a) more rest (operand_begins a t u derived).closes part
        (others u (omega arith) more rest next errors.1 (omega (arith, within)))
    union_step m t short others (range_then first last more) rest (u, range, next) fine within =
        let errors = or_parts (is_wrong_set_range first last) (contents_have_early_error more) fine in
        let part = part_found first last t u range errors.0 in
        let less = part.shorter in
        more_found m t u (range_then first last) more rest
        (union_begins (range_then first last more) t (char "]" ∷ rest) (u, range, next)).closes part
        (others u (omega arith) more rest next errors.1 within)
    union_step m t short others (intersection left right) rest h fine within = absurd h
    union_step m t short others (subtraction left right) rest h fine within = absurd h

    pub union_found : (m : ℕ) (t : Source) → length t < m → (contents : ClassContents) (rest : Source) → Next contents t rest →
        contents_have_early_error contents ≡ false → depth contents ≤ n → IsUnionFound m t contents rest
    union_found zero t short contents rest h fine within = absurd (omega arith)
    union_found (suc m) t short contents rest (inl (is_empty, same)) fine within = union_ends m t contents rest is_empty same
    union_found (suc m) t short contents rest (inr h) fine within =
        union_step m t short (λ u less more rest' next fine' within'. union_found m u less more rest' next fine' within') contents rest h fine within
