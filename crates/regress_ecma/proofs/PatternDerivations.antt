-- What the parser's grammar derives ECMA-262 derives, with the same groups.
use Rattle.std.proofs.Common.{◌≡◌, ℕ, ◌==◌, inl, inr, Bool, true, false, not, ◌&&◌, ◌||◌, List, [], ◌∷◌, ◌++◌, Option, Some, None, if◌then◌else◌, refl, sym, ap, ap₂, subst, ◌∙◌, eqb-true}
use Rattle.std.specs.List.{All, list_any}
use Rattle.std.proofs.lemmas.Bool.{false≢true}
use Rattle.std.proofs.lemmas.List.Elements.{All-tail}
use Rattle.std.proofs.lemmas.Option.{none-some, same_Some}
use Rattle.regress_base.specs.Table.{Table}
use Rattle.regress_base.specs.declared.types.Quantifier.{Quantifier}
use Rattle.regress_tree.specs.Reading.{forwards, backwards}
use Rattle.regress_lexer.specs.declared.dialect.Dialect.TheVariants.{Ecma}
use Rattle.regress_lexer.specs.Modifiers.{switched}
use Rattle.regress_lexer.specs.Quantifiers.{is_ordered}
use Rattle.regress_lexer.specs.Source.{Source, Found, found_map, IsCodePoint, char, closing, bar}
use Rattle.regress_lexer.proofs.lemmas.After.{after_all}
use Rattle.regress_syntax.specs.Grammar.{IsPattern, AreTerms}
use Rattle.regress_syntax.specs.Productions.{Context, context_inside, Head, single, opens, allows, atom_allows, group_at, atom_by, head_at, optional_quantifier_at}
use Rattle.regress_syntax.specs.SameNames.{same_name, share_name, are_names_apart, are_names_apart_in_terms, are_names_apart_in_item}
use Rattle.regress_syntax.specs.Syntax.{Name, Atom, Group, grouping, modified as modified_group, capture as capture_group, look, Pattern, one, either, Terms, no_terms, more_terms, atom, group, names as names_of_pattern, names_of_terms, names_of_item, names_of_group}
use Rattle.regress_syntax.proofs.lemmas.Productions.{head_at-ends, optional_quantifier_at-ends}
use Rattle.regress_ecma.specs.ClassSetExpressions.{HasPropertiesOfStrings}
use Rattle.regress_ecma.specs.Quantifiers.{is_out_of_order}
use Rattle.regress_ecma.specs.PatternNodes.{Disjunction, Alternative, Term, TermBody, alone, or_else, nothing, term_then, unquantified, quantified, lookahead, lookbehind, capture, modified, groups, groups_of_alternative, groups_of_term, groups_of_body, is_repeated, have_a_name_in_common, has_duplicate, alternative_has_duplicate, term_has_duplicate, body_has_duplicate}
use Rattle.regress_ecma.specs.Patterns.{Mode, is_quantifiable, IsDisjunction, IsAlternative, IsTerm, IsTermBody, has_error, alternative_has_error, term_has_error, body_has_error, IsWithin, AlternativeIsWithin, TermIsWithin, BodyIsWithin, HasMinima, AlternativeHasMinima, TermHasMinima, BodyHasMinima}
use Rattle.regress_ecma.proofs.AtomEscapeNodes.{context, mode}
use Rattle.regress_ecma.proofs.ClassRangeNodes.{each_at}
use Rattle.regress_ecma.proofs.EscapesWithU.{by_case}
use Rattle.regress_ecma.proofs.PatternAtoms.{IsOne, AreDerived, atoms_derived}
use Rattle.regress_ecma.proofs.PatternGroups.{IsOpenedBy, groups_opened}
use Rattle.regress_ecma.proofs.PatternStarts.{found_as}
use Rattle.regress_ecma.proofs.PatternTrees.{common_same, repeated_same}
use Rattle.regress_ecma.proofs.QuantifierNodes.{quantifier_accepted, order_back}

-- ---- the start of an item

abbrev as_atom : Head × Source → Found Atom
as_atom (single a, t) = Some (a, t)
as_atom (opens kind, t) = None

abbrev is_open : Head → Bool
is_open (single a) = false
is_open (opens kind) = true

single_found : (found : Found Atom) (a : Atom) (rest : Source) → found_map single found ≡ Some (single a, rest) → found ≡ Some (a, rest)
single_found None a rest e = absurd (none-some (single a, rest) e)
single_found (Some (b, t)) a rest e = ap as_atom (same_Some (single b, t) (single a, rest) e)

no_opening : (found : Found Atom) (kind : Group) (rest : Source) → found_map single found ≡ Some (opens kind, rest) → ⊥
no_opening None kind rest e = none-some (opens kind, rest) e
no_opening (Some (b, t)) kind rest e = false≢true (ap (λ (x : Head × Source). is_open x.0) (same_Some (single b, t) (opens kind, rest) e))

module _ (table : Table) (i m s v : Bool) (names : List (Option Name)) (u : Bool) (all : HasPropertiesOfStrings table) (implied : v ≡ true → u ≡ true) where
  abbrev own : Context
  own = context table i m s v names u

  abbrev headed : (opening : Bool) → ℕ → Source → Found Head
  headed b c t = if b then group_at table t else found_map single (atom_by own c t)

  atom_node : (a : Atom) (t rest : Source) → All IsCodePoint t → head_at own t ≡ Some (single a, rest) →
      AreDerived table i m s v names u (atom_allows Ecma a) t rest
  unfolding head_at
  atom_node a [] rest points e = absurd (none-some (single a, rest) e)
  atom_node a (c ∷ t) rest points e = by_case (c == char "(") opened plain
    where
      opened : (c == char "(") ≡ true → AreDerived table i m s v names u (atom_allows Ecma a) (c ∷ t) rest
      opened hit = absurd (each_at _ _ (groups_opened table (mode table i m s v names u) t) (single a, rest) (sym (ap (λ (b : Bool). headed b c t) hit) ∙ e))

      plain : (c == char "(") ≡ false → AreDerived table i m s v names u (atom_allows Ecma a) (c ∷ t) rest
      plain miss =
          each_at _ _ (atoms_derived table i m s v names all u implied c t miss (All-tail IsCodePoint c t points)) (a, rest)
          (single_found (atom_by own c t) a rest (sym (ap (λ (b : Bool). headed b c t) miss) ∙ e))

  opening_node : (kind : Group) (t rest : Source) → head_at own t ≡ Some (opens kind, rest) → IsOpenedBy table (mode table i m s v names u) kind t rest
  unfolding head_at
  opening_node kind [] rest e = absurd (none-some (opens kind, rest) e)
  opening_node kind (c ∷ t) rest e = by_case (c == char "(") opened plain
    where
      opened : (c == char "(") ≡ true → IsOpenedBy table (mode table i m s v names u) kind (c ∷ t) rest
      opened hit =
          subst (λ (d : ℕ). IsOpenedBy table (mode table i m s v names u) kind (d ∷ t) rest) (sym (eqb-true c (char "(") hit))
          (each_at _ _ (groups_opened table (mode table i m s v names u) t) (opens kind, rest) (sym (ap (λ (b : Bool). headed b c t) hit) ∙ e))

      plain : (c == char "(") ≡ false → IsOpenedBy table (mode table i m s v names u) kind (c ∷ t) rest
      plain miss = absurd (no_opening (atom_by own c t) kind rest (sym (ap (λ (b : Bool). headed b c t) miss) ∙ e))

module _ (table : Table) (v : Bool) (names : List (Option Name)) (u : Bool) where
  abbrev pub own_mode : Mode
  own_mode = mode table true true true v names u

  -- ---- what is derived, with the names of its groups, and whether they are apart

  pub record IsBodyOf (allowed : Bool) (found : List (Option Name)) (apart : Bool) (t rest : Source) (b : TermBody) : Type 0 where
    pub derived : IsTermBody table own_mode b t rest
    pub quantifiable : is_quantifiable table own_mode b ≡ allowed
    pub groups : groups_of_body b ≡ found
    pub duplicate : body_has_duplicate b ≡ not apart
    pub within : BodyIsWithin v b
    pub fine : BodyHasMinima b → body_has_error names b ≡ false

  pub record IsTermOf (found : List (Option Name)) (apart : Bool) (t rest : Source) (x : Term) : Type 0 where
    pub derived : IsTerm table own_mode x t rest
    pub groups : groups_of_term x ≡ found
    pub duplicate : term_has_duplicate x ≡ not apart
    pub within : TermIsWithin v x
    pub fine : TermHasMinima x → term_has_error names x ≡ false

  pub record IsAlternativeOf (found : List (Option Name)) (apart : Bool) (t rest : Source) (a : Alternative) : Type 0 where
    pub derived : IsAlternative table own_mode a t rest
    pub groups : groups_of_alternative a ≡ found
    pub duplicate : alternative_has_duplicate a ≡ not apart
    pub within : AlternativeIsWithin v a
    pub fine : AlternativeHasMinima a → alternative_has_error names a ≡ false
    pub points : All IsCodePoint rest

  pub record IsDisjunctionOf (found : List (Option Name)) (apart : Bool) (t rest : Source) (d : Disjunction) : Type 0 where
    pub derived : IsDisjunction table own_mode d t rest
    pub groups : groups d ≡ found
    pub duplicate : has_duplicate d ≡ not apart
    pub within : IsWithin v d
    pub fine : HasMinima d → has_error names d ≡ false
    pub points : All IsCodePoint rest

  -- ---- terms

  either_fine : (a b : Bool) → a ≡ false → b ≡ false → (a || b) ≡ false
  either_fine true b e f = absurd (false≢true (sym e))
  either_fine false b e f = f

  joined : (found others_found : List (Option Name)) (apart others_apart : Bool) (t w rest : Source) (x : Term) (others : Alternative) →
      IsTermOf found apart t w x → IsAlternativeOf others_found others_apart w rest others →
      IsAlternativeOf (found ++ others_found) (apart && (not (share_name found others_found) && others_apart)) t rest (term_then x others)
  joined found others_found apart others_apart t w rest x others first more = record {
    derived = (w, first.derived, more.derived);
    groups = ap₂ (λ (a b : List (Option Name)). a ++ b) first.groups more.groups;
    duplicate =
        ap₂ (λ (a b : Bool). a || have_a_name_in_common (groups_of_term x) (groups_of_alternative others) || b) first.duplicate more.duplicate
        ∙ ap (λ (b : Bool). not apart || b || not others_apart)
        (ap₂ have_a_name_in_common first.groups more.groups ∙ common_same found others_found)
        ∙ by apart (share_name found others_found) others_apart;
    within = (first.within, more.within);
    fine = λ minima. either_fine (term_has_error names x) (alternative_has_error names others) (first.fine minima.0) (more.fine minima.1);
    points = more.points;
  }
    where
      by : (a b c : Bool) → (not a || b || not c) ≡ not (a && (not b && c))
      by true true c = refl
      by true false c = refl
      by false b c = refl

  of_leaf : (i m s : Bool) (allowed : Bool) (b : TermBody) (t rest : Source) → IsOne table i m s v names u allowed b t rest →
      IsBodyOf allowed [] true t rest b
  of_leaf i m s allowed b t rest h = record {
    derived = h.derived;
    quantifiable = h.quantifiable;
    groups = h.leaf.groups;
    duplicate = h.leaf.alone;
    within = h.leaf.within;
    fine = λ _. h.leaf.fine;
  }

  without : (allowed : Bool) (found : List (Option Name)) (apart : Bool) (t rest : Source) (b : TermBody) → IsBodyOf allowed found apart t rest b →
      IsTermOf found apart t rest (unquantified b)
  without allowed found apart t rest b h = record { derived = h.derived; groups = h.groups; duplicate = h.duplicate; within = h.within; fine = h.fine }

  -- a term with what the parser finds after it
  with_quantifier : (i m s : Bool) (allowed : Bool) (found : List (Option Name)) (apart : Bool) (t w z : Source) (b : TermBody) (q : Option Quantifier) →
      IsBodyOf allowed found apart t w b → optional_quantifier_at (context table i m s v names u) allowed w ≡ Some (q, z) →
      (x : Term) × IsTermOf found apart t z x
  with_quantifier i m s allowed found apart t w z b None h e =
      let same : w ≡ z = found_as table i m s v names u allowed w (None, z) e in
      (unquantified b, subst (λ (r : Source). IsTermOf found apart t r (unquantified b)) same (without allowed found apart t w b h))
  with_quantifier i m s allowed found apart t w z b (Some q) h e =
      let parts = found_as table i m s v names u allowed w (Some q, z) e in
      let node = quantifier_accepted w z q parts.1 in (
        quantified b node.0 node.1,
        record {
          derived = (w, h.quantifiable ∙ parts.0, h.derived, node.2);
          groups = h.groups;
          duplicate = h.duplicate;
          within = h.within;
          fine = λ minima. either_fine (body_has_error names b) (is_out_of_order node.0) (h.fine minima.0)
              (order_back node.0 node.1 minima.1 (ap is_ordered node.3 ∙ parts.2));
        },
      )

  -- ---- groups

  of_group : (allowed : Bool) (kind : Group) (p : Pattern) (b : TermBody) (d : Disjunction) (t w rest : Source) →
      IsDisjunctionOf (names_of_pattern p) (are_names_apart p) w (closing ∷ rest) d → IsTermBody table own_mode b t rest →
      is_quantifiable table own_mode b ≡ allowed →
      groups_of_body b ≡ groups d → body_has_duplicate b ≡ has_duplicate d → names_of_group kind ≡ [] →
      BodyIsWithin v b → (BodyHasMinima b → body_has_error names b ≡ false) →
      IsBodyOf allowed (names_of_item (group kind p)) (are_names_apart_in_item (group kind p)) t rest b
  of_group allowed kind p b d t w rest inside derived quantifiable same_groups same_duplicate unnamed within fine = record {
    derived = derived;
    quantifiable = quantifiable;
    groups = same_groups ∙ inside.groups ∙ ap (λ (a : List (Option Name)). a ++ names_of_pattern p) (sym unnamed);
    duplicate =
        same_duplicate ∙ inside.duplicate
        ∙ ap (λ (a : List (Option Name)). not (not (share_name a (names_of_pattern p)) && are_names_apart p)) (sym unnamed);
    within = within;
    fine = fine;
  }

  group_body : (kind : Group) (p : Pattern) (t w rest : Source) → IsOpenedBy table own_mode kind t w →
      (d : Disjunction) → IsDisjunctionOf (names_of_pattern p) (are_names_apart p) w (closing ∷ rest) d →
      (b : TermBody) × IsBodyOf (allows (context table true true true v names u) (opens kind)) (names_of_item (group kind p)) (are_names_apart_in_item (group kind p)) t rest b
  group_body grouping p t w rest opened d inside = (
    modified [] None d,
    of_group true grouping p (modified [] None d) d t w rest inside
        (w, opened, inside.derived) refl refl refl refl inside.within inside.fine,
  )
  group_body (modified_group change) p t w rest (on, off, opened, fine) d inside = (
    modified on off d,
    of_group true (modified_group change) p (modified on off d) d t w rest inside (w, opened, inside.derived) refl refl refl refl inside.within
        (λ minima. either_fine _ (has_error names d) fine (inside.fine minima)),
  )
  group_body (look negated forwards) p t w rest opened d inside = (
    lookahead negated d,
    of_group (not u) (look negated forwards) p (lookahead negated d) d t w rest inside
        (w, opened, inside.derived) refl refl refl refl inside.within inside.fine,
  )
  group_body (look negated backwards) p t w rest opened d inside = (
    lookbehind negated d,
    of_group false (look negated backwards) p (lookbehind negated d) d t w rest inside
        (w, opened, inside.derived) refl refl refl refl inside.within inside.fine,
  )
  group_body (capture_group name) p t w rest opened d inside = (
    capture name d,
    record {
      derived = (w, opened, inside.derived);
      quantifiable = refl;
      groups = ap (λ (a : List (Option Name)). name ∷ a) inside.groups;
      duplicate =
          ap₂ (λ (a b : Bool). a || b)
          (ap (λ (a : List (Option Name)). is_repeated a name) inside.groups ∙ repeated_same (names_of_pattern p) name) inside.duplicate
          ∙ by (list_any (same_name name) (names_of_pattern p)) (are_names_apart p);
      within = inside.within;
      fine = inside.fine;
    },
  )
    where
      by : (a b : Bool) → (a || not b) ≡ not (not (a || false) && b)
      by true b = refl
      by false b = refl

  module _ (all : HasPropertiesOfStrings table) (implied : v ≡ true → u ≡ true) where
    -- an atom with its quantifier, before other terms
    atom_terms : (i m s : Bool) (a : Atom) (t w z rest : Source) (q : Option Quantifier) → All IsCodePoint t →
        head_at (context table i m s v names u) t ≡ Some (single a, w) →
        optional_quantifier_at (context table i m s v names u) (atom_allows Ecma a) w ≡ Some (q, z) →
        (found : List (Option Name)) (apart : Bool) → (others : Alternative) → IsAlternativeOf found apart z rest others →
        (x : Alternative) × IsAlternativeOf found apart t rest x
    atom_terms i m s a t w z rest q points e quantifier found apart others more = by (atom_node table i m s v names u all implied a t w points e)
      where
        by : AreDerived table i m s v names u (atom_allows Ecma a) t w → (x : Alternative) × IsAlternativeOf found apart t rest x
        by (inl (b, h)) =
            let x = with_quantifier i m s (atom_allows Ecma a) [] true t w z b q (of_leaf i m s (atom_allows Ecma a) b t w h) quantifier in
            (term_then x.0 others, joined [] found true apart t z rest x.0 others x.1 more)
        by (inr (allowed, (first, last, r, h, k))) =
            let x = with_quantifier i m s true [] true r w z last q (of_leaf i m s true last r w k)
            (ap (λ (b : Bool). optional_quantifier_at (context table i m s v names u) b w) (sym allowed) ∙ quantifier) in (
              term_then (unquantified first) (term_then x.0 others),
              joined [] found true apart t r rest (unquantified first) (term_then x.0 others) (without true [] true t r first (of_leaf i m s true first t r h))
                  (joined [] found true apart r z rest x.0 others x.1 more),
            )

    -- the body of a group, whose modifiers change the flags
    inside_derived : (i m s : Bool) (kind : Group) (p : Pattern) (t rest : Source) →
        ((i' m' s' : Bool) → IsPattern (context table i' m' s' v names u) p t (closing ∷ rest) →
        (d : Disjunction) × IsDisjunctionOf (names_of_pattern p) (are_names_apart p) t (closing ∷ rest) d) →
        IsPattern (context_inside kind (context table i m s v names u)) p t (closing ∷ rest) →
        (d : Disjunction) × IsDisjunctionOf (names_of_pattern p) (are_names_apart p) t (closing ∷ rest) d
    inside_derived i m s grouping p t rest derive h = derive i m s h
    inside_derived i m s (modified_group change) p t rest derive h =
        derive (switched change.icase i) (switched change.multiline m) (switched change.dot_all s) h
    inside_derived i m s (capture_group name) p t rest derive h = derive i m s h
    inside_derived i m s (look negated direction) p t rest derive h = derive i m s h

    mutual
      pub pattern_derived : (i m s : Bool) (p : Pattern) (t rest : Source) → All IsCodePoint t → IsPattern (context table i m s v names u) p t rest →
          (d : Disjunction) × IsDisjunctionOf (names_of_pattern p) (are_names_apart p) t rest d
      pattern_derived i m s (one ts) t rest points h =
          let a = terms_derived i m s ts t rest points h.0 in
          (alone a.0, record { derived = a.1.derived; groups = a.1.groups; duplicate = a.1.duplicate; within = a.1.within; fine = a.1.fine; points = a.1.points })
      pattern_derived i m s (either ts p) t rest points (mid, h, k) =
          let a = terms_derived i m s ts t (bar ∷ mid) points h in
          let d = pattern_derived i m s p mid rest (All-tail IsCodePoint bar mid a.1.points) k in (
            or_else a.0 d.0,
            record {
              derived = (mid, a.1.derived, d.1.derived);
              groups = ap₂ (λ (a b : List (Option Name)). a ++ b) a.1.groups d.1.groups;
              duplicate = ap₂ (λ (a b : Bool). a || b) a.1.duplicate d.1.duplicate ∙ both (are_names_apart_in_terms ts) (are_names_apart p);
              within = (a.1.within, d.1.within);
              fine = λ minima. either_fine (alternative_has_error names a.0) (has_error names d.0) (a.1.fine minima.0) (d.1.fine minima.1);
              points = d.1.points;
            },
          )
        where
          both : (a b : Bool) → (not a || not b) ≡ not (a && b)
          both true b = refl
          both false b = refl

      terms_derived : (i m s : Bool) (ts : Terms) (t rest : Source) → All IsCodePoint t → AreTerms (context table i m s v names u) ts t rest →
          (a : Alternative) × IsAlternativeOf (names_of_terms ts) (are_names_apart_in_terms ts) t rest a
      terms_derived i m s no_terms t rest points (ends, same) =
          (nothing, record { derived = same; groups = refl; duplicate = refl; within = tt; fine = λ _. refl; points = subst (All IsCodePoint) same points })
      terms_derived i m s (more_terms (atom a) q xs) t rest points (w, z, item, quantifier, more) =
          let points_w = after_all t w ((head_at-ends (context table i m s v names u) t).each (single a, w) item) points in
          let points_z = after_all w z ((optional_quantifier_at-ends (context table i m s v names u) (atom_allows Ecma a) w).each (q, z) quantifier) points_w in
          let others = terms_derived i m s xs z rest points_z more in
          atom_terms i m s a t w z rest q points item quantifier (names_of_terms xs) (are_names_apart_in_terms xs) others.0 others.1
      terms_derived i m s (more_terms (group kind p) q xs) t rest points (w, z, (mid, opened, inside), quantifier, more) =
          let points_mid = after_all t mid ((head_at-ends (context table i m s v names u) t).each (opens kind, mid) opened) points in
          let d = inside_derived i m s kind p mid w
          (λ (i' m' s' : Bool) (h : IsPattern (context table i' m' s' v names u) p mid (closing ∷ w)).
          pattern_derived i' m' s' p mid (closing ∷ w) points_mid h) inside in
          let b = group_body kind p t mid w (opening_node table i m s v names u all implied kind t mid opened) d.0 d.1 in
          let points_w = All-tail IsCodePoint closing w d.1.points in
          let points_z = after_all w z ((optional_quantifier_at-ends (context table i m s v names u)
          (allows (context table i m s v names u) (opens kind)) w).each (q, z) quantifier) points_w in
          let others = terms_derived i m s xs z rest points_z more in
          let x = with_quantifier i m s (allows (context table i m s v names u) (opens kind)) (names_of_item (group kind p))
          (are_names_apart_in_item (group kind p)) t w z b.0 q b.1 quantifier in (
            term_then x.0 others.0,
            joined (names_of_item (group kind p)) (names_of_terms xs) (are_names_apart_in_item (group kind p))
                (are_names_apart_in_terms xs) t z rest x.0 others.0 x.1 others.1,
          )
