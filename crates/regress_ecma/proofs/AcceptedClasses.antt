-- A class without the flag v is accepted exactly where ECMA-262 accepts it, and its parse node is that of ECMA-262.
use Rattle.std.proofs.Common.{◌≡◌, ◌+◌, inl, inr, Bool, true, false, List, ◌∷◌, length, drop, Some, if◌then◌else◌, refl, sym, ap, ap₂, subst, ◌∙◌, arith}
use Rattle.regress_base.specs.Intervals.{Bounds}
use Rattle.regress_base.specs.Table.{Table}
use Rattle.regress_base.specs.declared.types.Flags.{Flags}
use Rattle.regress_lexer.specs.declared.dialect.Dialect.{Dialect}
use Rattle.regress_lexer.specs.declared.dialect.Dialect.TheVariants.{Ecma}
use Rattle.regress_lexer.specs.Source.{Source, Found, ◌>>=◌, found_map, char, is_at}
use Rattle.regress_classes.specs.declared.parameters.Parameters.{Parameters}
use Rattle.regress_classes.specs.ClassProductions.{class_parts_by, class_at}
use Rattle.regress_ecma.specs.ClassGrammar.{class_ranges_by, character_class_at}
use Rattle.regress_ecma.specs.ClassNodes.{ClassContents, CharacterClass}
use Rattle.regress_ecma.specs.ClassRanges.{IsClassContents, IsAcceptedClass, has_early_error}
use Rattle.regress_ecma.proofs.ClassAtomNodes.{own}
use Rattle.regress_ecma.proofs.ClassRangeNodes.{Each, each_some, each_then, each_at, parts_derive, derived_parts}
use Rattle.regress_ecma.proofs.ClassDerivations.{front_is}
use Rattle.std.specs.List.{All}
use Rattle.regress_lexer.specs.Source.{IsCodePoint}
use Rattle.regress_lexer.proofs.lemmas.After.{after_all, after_drop}
use Rattle.regress_ecma.proofs.EscapesWithU.{by_case}
use Rattle.regress_ecma.proofs.ClassUnitNodes as Derived
use Rattle.regress_ecma.proofs.ClassUnitErrors as Units
use Rattle.regress_ecma.proofs.ClassRangeErrors.{parts_follow, parts_back}

-- any flags
some_flags : Flags
some_flags = record { icase = false; multiline = false; dot_all = false; unicode = true; unicode_sets = false }

module _ (table : Table) where
  -- accepted by ECMA-262, with this parse node
  abbrev pub IsNode : Parameters → Source → (negated : Bool) → (rest : Source) → Type 0
  IsNode parameters t negated rest =
      (node : CharacterClass) × IsAcceptedClass table parameters.unicode parameters.named node (char "[" ∷ t) rest
      × (character_class_at table parameters false t ≡ Some (node, rest)) × (node.invert ≡ negated)

  module _ (unicode named : Bool) where
    -- the contents, after `^`
    abbrev pub inside : Bool → Source → Source
    inside b t = if b then drop 1 t else t

    node_of : (t : Source) (contents : ClassContents) (rest : Source) →
        IsClassContents table unicode named contents (inside (is_at (char "^") t) t) (char "]" ∷ rest) →
        has_early_error unicode contents ≡ false →
        IsAcceptedClass table unicode named (record { invert = is_at (char "^") t; contents = contents }) (char "[" ∷ t) rest
    node_of t contents rest h fine = by (is_at (char "^") t) refl h
      where
        by : (b : Bool) → is_at (char "^") t ≡ b → IsClassContents table unicode named contents (inside b t) (char "]" ∷ rest) →
            IsAcceptedClass table unicode named (record { invert = b; contents = contents }) (char "[" ∷ t) rest
        by true e k = ((drop 1 t, inr (ap (λ (w : Source). char "[" ∷ w) (front_is (char "^") t e), refl), k), fine)
        by false e k = ((t, inl (refl, e, refl), k), fine)

    contents_of : (node : CharacterClass) (t rest : Source) → IsAcceptedClass table unicode named node (char "[" ∷ t) rest →
        (node.invert ≡ is_at (char "^") t) × IsClassContents table unicode named node.contents (inside (is_at (char "^") t) t) (char "]" ∷ rest)
    contents_of node t rest ((u, inl (same, none, invert), h), fine) =
        let at_u : t ≡ u = ap (drop 1) same in
        let not_at : is_at (char "^") t ≡ false = ap (is_at (char "^")) at_u ∙ none in (
          invert ∙ sym not_at,
          subst (λ (w : Source). IsClassContents table unicode named node.contents w (char "]" ∷ rest)) (sym at_u ∙ sym (ap (λ
              (b : Bool). inside b t) not_at)) h,
        )
    contents_of node t rest ((u, inr (same, invert), h), fine) =
        let at_u : t ≡ char "^" ∷ u = ap (drop 1) same in
        let at : is_at (char "^") t ≡ true = ap (is_at (char "^")) at_u in (
          invert ∙ sym at,
          subst (λ (w : Source). IsClassContents table unicode named node.contents w (char "]" ∷ rest))
              (sym (ap (drop 1) at_u) ∙ sym (ap (λ (b : Bool). inside b t) at)) h,
        )

  -- ---- with the flag u

  module _ (icase named : Bool) where
    abbrev parameters : Parameters
    parameters = own icase true named

    accepted : (t : Source) → Each (λ x. IsNode parameters t x.0.0 x.1) (class_at table parameters t)
    unfolding class_at character_class_at
    accepted t =
        each_then (λ (x : (Bool × List Bounds) × Source). IsNode parameters t x.0.0 x.1) (class_parts_by table parameters (length s + 1) s) _
        (λ x e. each_some (λ (x : (Bool × List Bounds) × Source). IsNode parameters t x.0.0 x.1) ((is_at (char "^") t, x.0), x.1)
        (let found = (parts_follow table some_flags icase named (length s + 1) s).each x.0 x.1 e in
        let same = found.found in (
          record { invert = is_at (char "^") t; contents = found.value },
          node_of true named t found.value x.1 (each_at _ _ (parts_derive table icase named (length s + 1) s) (found.value, x.1) same) found.related,
          ap (found_map (λ (contents : ClassContents). record { invert = is_at (char "^") t; contents = contents })) same,
          refl,
        )))
      where
        s : Source
        s = inside true named (is_at (char "^") t) t

    -- members are found
    abbrev IsFound : Source → (negated : Bool) → (rest : Source) → Type 0
    IsFound t negated rest = (members : List Bounds) × (class_at table parameters t ≡ Some ((negated, members), rest))

    derived : (node : CharacterClass) (t rest : Source) → IsAcceptedClass table true named node (char "[" ∷ t) rest →
        (character_class_at table parameters false t ≡ Some (node, rest)) × IsFound t node.invert rest
    unfolding class_at character_class_at
    derived node t rest h =
        let opened = contents_of true named node t rest h in
        let s : Source = inside true named (is_at (char "^") t) t in
        let found : class_ranges_by table parameters (length s + 1) s ≡ Some (node.contents, rest) =
        derived_parts table icase named (length s + 1) s (omega arith) node.contents rest opened.1 in
        let back = each_at _ _ (parts_back table some_flags icase named (length s + 1) s) (node.contents, rest) found h.1 in (
          ap (found_map (λ (contents : ClassContents). record { invert = is_at (char "^") t; contents = contents })) found
              ∙ ap (λ (b : Bool). Some (record { invert = b; contents = node.contents }, rest)) (sym opened.0),
          (
            back.0,
            ap (λ (o : Found (List Bounds)). o >>= λ (members, after). Some ((is_at (char "^") t, members), after)) back.1
                ∙ ap (λ (b : Bool). Some ((b, back.0), rest)) (sym opened.0),
          ),
        )

  -- ---- without it

  module _ (icase named : Bool) where
    abbrev parameters' : Parameters
    parameters' = own icase false named

    inside_points : (t : Source) → All IsCodePoint t → All IsCodePoint (inside false named (is_at (char "^") t) t)
    inside_points t points = by (is_at (char "^") t)
      where
        by : (b : Bool) → All IsCodePoint (inside false named b t)
        by true = after_all t (drop 1 t) (after_drop 1 t) points
        by false = points

    accepted_units : (t : Source) → All IsCodePoint t → Each (λ x. IsNode parameters' t x.0.0 x.1) (class_at table parameters' t)
    unfolding class_at character_class_at
    accepted_units t points =
        each_then (λ (x : (Bool × List Bounds) × Source). IsNode parameters' t x.0.0 x.1) (class_parts_by table parameters' (length s + 1) s) _
        (λ x e. each_some (λ (x : (Bool × List Bounds) × Source). IsNode parameters' t x.0.0 x.1) ((is_at (char "^") t, x.0), x.1)
        (let found = (Units.parts_follow table some_flags icase named (length s + 1) s).each x.0 x.1 e in
        let same = found.found in (
          record { invert = is_at (char "^") t; contents = found.value },
          node_of false named t found.value x.1 (each_at _ _ (Derived.parts_derive table icase named (length s + 1) s (inside_points t points))
              (found.value, x.1) same found.related) found.related,
          ap (found_map (λ (contents : ClassContents). record { invert = is_at (char "^") t; contents = contents })) same,
          refl,
        )))
      where
        s : Source
        s = inside false named (is_at (char "^") t) t

    -- members are found
    abbrev IsFound' : Source → (negated : Bool) → (rest : Source) → Type 0
    IsFound' t negated rest = (members : List Bounds) × (class_at table parameters' t ≡ Some ((negated, members), rest))

    derived_units : (node : CharacterClass) (t rest : Source) → All IsCodePoint t → IsAcceptedClass table false named node (char "[" ∷ t) rest →
        (character_class_at table parameters' false t ≡ Some (node, rest)) × IsFound' t node.invert rest
    unfolding class_at character_class_at
    derived_units node t rest points h =
        let opened = contents_of false named node t rest h in
        let s : Source = inside false named (is_at (char "^") t) t in
        let found : class_ranges_by table parameters' (length s + 1) s ≡ Some (node.contents, rest) =
        Derived.derived_parts table icase named (length s + 1) s (omega arith) (inside_points t points) node.contents rest opened.1 h.1 in
        let back = each_at _ _ (Units.parts_back table some_flags icase named (length s + 1) s) (node.contents, rest) found h.1 in (
          ap (found_map (λ (contents : ClassContents). record { invert = is_at (char "^") t; contents = contents })) found
              ∙ ap (λ (b : Bool). Some (record { invert = b; contents = node.contents }, rest)) (sym opened.0),
          (
            back.0,
            ap (λ (o : Found (List Bounds)). o >>= λ (members, after). Some ((is_at (char "^") t, members), after)) back.1
                ∙ ap (λ (b : Bool). Some ((b, back.0), rest)) (sym opened.0),
          ),
        )

  -- the same for parameters of the dialect with the flag u
  parameters_are : (parameters : Parameters) → parameters.dialect ≡ Ecma → parameters.unicode ≡ true →
      own parameters.icase true parameters.named ≡ parameters
  parameters_are parameters ecma unicode =
      sym (ap₂ (λ (d : Dialect) (u : Bool). record parameters { dialect = d; unicode = u }) ecma unicode)

  parameters_are_units : (parameters : Parameters) → parameters.dialect ≡ Ecma → parameters.unicode ≡ false →
      own parameters.icase false parameters.named ≡ parameters
  parameters_are_units parameters ecma unicode =
      sym (ap₂ (λ (d : Dialect) (u : Bool). record parameters { dialect = d; unicode = u }) ecma unicode)

  pub class_with_u : (parameters : Parameters) → parameters.dialect ≡ Ecma → parameters.unicode ≡ true →
      (t rest : Source) (negated : Bool) (members : List Bounds) → class_at table parameters t ≡ Some ((negated, members), rest) →
      IsNode parameters t negated rest
  class_with_u parameters ecma unicode t rest negated members =
      subst (λ (p : Parameters). class_at table p t ≡ Some ((negated, members), rest) → IsNode p t negated rest)
      (parameters_are parameters ecma unicode)
      (λ e. each_at _ _ (accepted parameters.icase parameters.named t) ((negated, members), rest) e)

  pub node_with_u : (parameters : Parameters) → parameters.dialect ≡ Ecma → parameters.unicode ≡ true →
      (t rest : Source) (node : CharacterClass) → IsAcceptedClass table parameters.unicode parameters.named node (char "[" ∷ t) rest →
      (character_class_at table parameters false t ≡ Some (node, rest))
      × ((members : List Bounds) × (class_at table parameters t ≡ Some ((node.invert, members), rest)))
  node_with_u parameters ecma unicode t rest node =
      subst
      (λ (p : Parameters). IsAcceptedClass table p.unicode p.named node (char "[" ∷ t) rest →
      (character_class_at table p false t ≡ Some (node, rest))
      × ((members : List Bounds) × (class_at table p t ≡ Some ((node.invert, members), rest))))
      (parameters_are parameters ecma unicode)
      (λ h. derived parameters.icase parameters.named node t rest h)

  pub class_without_u : (parameters : Parameters) → parameters.dialect ≡ Ecma → parameters.unicode ≡ false →
      (t rest : Source) → All IsCodePoint t → (negated : Bool) (members : List Bounds) → class_at table parameters t ≡ Some ((negated, members), rest) →
      IsNode parameters t negated rest
  class_without_u parameters ecma unicode t rest points negated members =
      subst (λ (p : Parameters). class_at table p t ≡ Some ((negated, members), rest) → IsNode p t negated rest)
      (parameters_are_units parameters ecma unicode)
      (λ e. each_at _ _ (accepted_units parameters.icase parameters.named t points) ((negated, members), rest) e)

  pub node_without_u : (parameters : Parameters) → parameters.dialect ≡ Ecma → parameters.unicode ≡ false →
      (t rest : Source) → All IsCodePoint t → (node : CharacterClass) → IsAcceptedClass table parameters.unicode parameters.named node (char "[" ∷ t) rest →
      (character_class_at table parameters false t ≡ Some (node, rest))
      × ((members : List Bounds) × (class_at table parameters t ≡ Some ((node.invert, members), rest)))
  node_without_u parameters ecma unicode t rest points node =
      subst
      (λ (p : Parameters). IsAcceptedClass table p.unicode p.named node (char "[" ∷ t) rest →
      (character_class_at table p false t ≡ Some (node, rest))
      × ((members : List Bounds) × (class_at table p t ≡ Some ((node.invert, members), rest))))
      (parameters_are_units parameters ecma unicode)
      (λ h. derived_units parameters.icase parameters.named node t rest points h)

  -- ---- in both cases

  pub class_accepted : (parameters : Parameters) → parameters.dialect ≡ Ecma → (t rest : Source) → All IsCodePoint t →
      (negated : Bool) (members : List Bounds) → class_at table parameters t ≡ Some ((negated, members), rest) → IsNode parameters t negated rest
  class_accepted parameters ecma t rest points negated members =
      by_case parameters.unicode (λ u. class_with_u parameters ecma u t rest negated members)
      (λ none. class_without_u parameters ecma none t rest points negated members)

  pub class_derived : (parameters : Parameters) → parameters.dialect ≡ Ecma → (t rest : Source) → All IsCodePoint t →
      (node : CharacterClass) → IsAcceptedClass table parameters.unicode parameters.named node (char "[" ∷ t) rest →
      (character_class_at table parameters false t ≡ Some (node, rest))
      × ((members : List Bounds) × (class_at table parameters t ≡ Some ((node.invert, members), rest)))
  class_derived parameters ecma t rest points node =
      by_case parameters.unicode (λ u. node_with_u parameters ecma u t rest node) (λ none. node_without_u parameters ecma none t rest points node)
