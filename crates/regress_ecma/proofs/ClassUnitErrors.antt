-- The parts of a class without the flags u and v that are accepted have no early error of ECMA-262.
use Rattle.std.proofs.Common.{◌≡◌, ℕ, zero, suc, Bool, true, false, not, ◌&&◌, ◌||◌, nat_le, List, [], ◌∷◌, ◌++◌, drop, Option, Some, None, if◌then◌else◌, refl, sym, ap, subst, ◌∙◌}
use Rattle.regress_base.specs.Intervals.{Bounds}
use Rattle.regress_base.specs.Table.{Table}
use Rattle.regress_base.specs.declared.types.Flags.{Flags}
use Rattle.regress_lexer.specs.Escapes.{lead_surrogate, trail_surrogate}
use Rattle.regress_lexer.specs.Source.{Source, Found, ◌>>=◌, found_map, char, is_at}
use Rattle.regress_classes.specs.declared.parameters.Parameters.{Parameters}
use Rattle.regress_classes.specs.ClassProductions.{point, set, one_point, units_before, units_after, atom_members, last_unit, first_unit, range_of, begins_range, begins_next, range_to, range_end_at, ranges_to, class_parts_by}
use Rattle.regress_classes.specs.ClassProductions as ClassProductions
use Rattle.regress_ecma.specs.CharSets.{character_of}
use Rattle.regress_ecma.specs.ClassGrammar.{is_pair, lead, trail, class_atom_at, first_of, last_of, with_before, with_after, with_atom, with_range, with_ranges, range_at, class_part_at, class_ranges_by}
use Rattle.regress_ecma.specs.ClassNodes.{ClassAtom, character, class_escape, property, string_property, class_strings, nested_class, ClassContents, empty, atom_then, range_then}
use Rattle.regress_ecma.specs.ClassRanges.{is_character_class, character_value, is_wrong_range, has_early_error}
use Rattle.regress_ecma.proofs.ClassAtoms.{IsAtomOf, HasRelatedSets, atom_follows}
use Rattle.regress_ecma.proofs.ClassAtomNodes.{own}
use Rattle.regress_ecma.proofs.ClassRangeErrors.{Any, found_if, or_parts, not_false, set_is, atom_back}
use Rattle.regress_ecma.proofs.ClassRangeNodes.{Each, each_none, each_some, each_if, each_then, each_at}
use Rattle.regress_ecma.proofs.Follows.{Follows, follows_none, follows_some, follows_if, follows_then}

set_whole : (node : ClassAtom) → character_of node ≡ None → is_pair node ≡ false
set_whole (character c) e = absurd (cc)
set_whole (class_escape kind capital) e = refl
set_whole (property members capital) e = refl
set_whole (string_property strings) e = refl
set_whole (class_strings strings) e = refl
set_whole (nested_class invert contents) e = refl

-- Without the flag u a set may be an end.
left_set : (first last : ClassAtom) → is_character_class first ≡ true → is_wrong_range false first last ≡ false
left_set first last e = rw e refl

right_set : (first last : ClassAtom) → is_character_class last ≡ true → is_wrong_range false first last ≡ false
right_set first last e = rw e (by (is_character_class first) (not (nat_le (character_value first) (character_value last))))
  where
    by : (b less : Bool) → ((b || true) && false || not b && not true && less) ≡ false
    by true less = refl
    by false less = refl

of_units : (p q : Bool) (x y x' y' : ℕ) →
    is_wrong_range false (if p then character x else character y) (if q then character x' else character y')
    ≡ not (nat_le (if p then x else y) (if q then x' else y'))
of_units true true x y x' y' = refl
of_units true false x y x' y' = refl
of_units false true x y x' y' = refl
of_units false false x y x' y' = refl

module _ (table : Table) (rer : Flags) (icase named : Bool) where
  abbrev parameters : Parameters
  parameters = own icase false named

  abbrev Is : ClassAtom → ClassProductions.ClassAtom → Type 0
  Is = IsAtomOf table rer Any

  related : HasRelatedSets table rer parameters Any
  related = record { escape = λ kind capital. tt; property = λ capital members. tt }

  abbrev error : ClassContents → Bool
  error node = has_early_error false node

  abbrev first_unit_of : ClassAtom → ClassAtom
  first_unit_of a = first_of table parameters a

  abbrev last_unit_of : ClassAtom → ClassAtom
  last_unit_of a = last_of table parameters a

  range_ok : (first last : ClassAtom) (a b : ClassProductions.ClassAtom) → Is first a → Is last b → (members : List Bounds) →
      range_of true false a b ≡ Some members → is_wrong_range false (last_unit_of first) (first_unit_of last) ≡ false
  range_ok first last (point a) (point b) is_first is_last members e =
      rw (is_first, is_last)
      (of_units (nat_le 0x10000 a) (nat_le 0x10000 b) (trail_surrogate a) a (lead_surrogate b) b
      ∙ ap not (found_if (nat_le (last_unit true a) (first_unit true b)) _ members e))
  range_ok first last (point a) (set others) is_first is_last members e =
      right_set (last_unit_of first) (first_unit_of last)
      (ap (λ (p : Bool). is_character_class (if p then lead last else last)) (set_whole last is_last.0) ∙ set_is last is_last.0)
  range_ok first last (set others) b is_first is_last members e =
      left_set (last_unit_of first) (first_unit_of last)
      (ap (λ (p : Bool). is_character_class (if p then trail first else first)) (set_whole first is_first.0) ∙ set_is first is_first.0)

  error_before : (a : ClassAtom) (node : ClassContents) → error (with_before table parameters a node) ≡ error node
  error_before a node = by (is_pair a)
    where
      by : (b : Bool) → error (if b then atom_then (lead a) node else node) ≡ error node
      by true = refl
      by false = refl

  error_after : (a : ClassAtom) (node : ClassContents) → error (with_after table parameters a node) ≡ error node
  error_after a node = by (is_pair a)
    where
      by : (b : Bool) → error (if b then atom_then (trail a) node else node) ≡ error node
      by true = refl
      by false = refl

  abbrev IsFine : ClassContents → List Bounds → Type 0
  IsFine node members = error node ≡ false

  abbrev IsPart : (ClassContents → ClassContents) → List Bounds → Type 0
  IsPart with_part members = (more : ClassContents) → error more ≡ false → error (with_part more) ≡ false

  abbrev found_by : Option (List Bounds) → Source → Found (List Bounds)
  found_by o t = elim o as (λ _. Found (List Bounds)) [ None ↦ None | Some members ↦ Some (members, t) ]

  range_part : (first last : ClassAtom) (a b : ClassProductions.ClassAtom) → Is first a → Is last b → (members : List Bounds) →
      range_of true false a b ≡ Some members → IsPart (with_range table parameters first last) members
  range_part first last a b is_first is_last members e more fine =
      error_before first (range_then (last_unit_of first) (first_unit_of last) (with_after table parameters last more))
      ∙ ap (λ (w : Bool). w || error (with_after table parameters last more)) (range_ok first last a b is_first is_last members e)
      ∙ error_after last more ∙ fine

  ranges_part : (first last next : ClassAtom) (a b n : ClassProductions.ClassAtom) → Is first a → Is last b → Is next n →
      (members others : List Bounds) → range_of true false a b ≡ Some members → range_of true false b n ≡ Some others →
      IsPart (with_ranges table parameters first last next) (members ++ others)
  ranges_part first last next a b n is_first is_last is_next members others e f more fine =
      error_before first
      (range_then (last_unit_of first) (first_unit_of last) (range_then (last_unit_of last) (first_unit_of next) (with_after table parameters next more)))
      ∙ ap (λ (w : Bool). w || (is_wrong_range false (last_unit_of last) (first_unit_of next) || error (with_after table parameters next more)))
      (range_ok first last a b is_first is_last members e)
      ∙ ap (λ (w : Bool). w || error (with_after table parameters next more)) (range_ok last next b n is_last is_next others f)
      ∙ error_after next more ∙ fine

  range_follows : (first last : ClassAtom) (a b : ClassProductions.ClassAtom) (t : Source) → Is first a → Is last b →
      Follows IsPart (range_to table parameters a (b, t)) (Some (with_range table parameters first last, t))
  range_follows first last a b t is_first is_last = by (range_of true false a b) refl
    where
      by : (found : Option (List Bounds)) → range_of true false a b ≡ found →
          Follows IsPart (found_by found t) (Some (with_range table parameters first last, t))
      by None e = follows_none IsPart _
      by (Some members) e = follows_some IsPart (with_range table parameters first last) members t (range_part first last a b is_first is_last members e)

  abbrev added : List Bounds → List Bounds × Source → Found (List Bounds)
  added members (others, t) = Some (members ++ others, t)

  next_follows : (first last : ClassAtom) (a b : ClassProductions.ClassAtom) (members : List Bounds) → Is first a → Is last b →
      range_of true false a b ≡ Some members → (t : Source) →
      Follows IsPart (range_end_at table parameters b t >>= added members)
      (found_map (λ next contents. with_ranges table parameters first last next contents) (class_atom_at table parameters t))
  next_follows first last a b members is_first is_last e t =
      from (ClassProductions.class_atom_at table parameters t) (class_atom_at table parameters t) (atom_follows table rer parameters Any related t)
    where
      one : (n : ClassProductions.ClassAtom) (next : ClassAtom) (rest : Source) → Is next n → (o : Option (List Bounds)) → range_of true false b n ≡ o →
          Follows IsPart (found_by o rest >>= added members) (Some (with_ranges table parameters first last next, rest))
      one n next rest is_next None f = follows_none IsPart _
      one n next rest is_next (Some others) f =
          follows_some IsPart (with_ranges table parameters first last next) (members ++ others) rest
          (ranges_part first last next a b n is_first is_last is_next members others e f)

      from : (found : Found ClassProductions.ClassAtom) (mine : Found ClassAtom) → Follows Is found mine →
          Follows IsPart ((found >>= range_to table parameters b) >>= added members)
          (found_map (λ next contents. with_ranges table parameters first last next contents) mine)
      from None mine h = follows_none IsPart _
      from (Some (n, rest)) mine h =
          let each = h.each n rest refl in
          subst
          (λ (o : Found ClassAtom). Follows IsPart (range_to table parameters b (n, rest) >>= added members)
          (found_map (λ next contents. with_ranges table parameters first last next contents) o))
          (sym each.found) (one n each.value rest each.related (range_of true false b n) refl)

  ranges_follow : (first last : ClassAtom) (a b : ClassProductions.ClassAtom) (t : Source) → Is first a → Is last b →
      Follows IsPart (ranges_to table parameters a (b, t))
      (found_map (λ next contents. with_ranges table parameters first last next contents) (class_atom_at table parameters (drop 1 t)))
  ranges_follow first last a b t is_first is_last = by (range_of true false a b) refl
    where
      by : (found : Option (List Bounds)) → range_of true false a b ≡ found →
          Follows IsPart
          (found_by found (drop 1 t) >>= λ (members, after). (range_end_at table parameters b after >>= λ (others, rest). Some (members ++ others, rest)))
          (found_map (λ next contents. with_ranges table parameters first last next contents) (class_atom_at table parameters (drop 1 t)))
      by None e = follows_none IsPart _
      by (Some members) e = next_follows first last a b members is_first is_last e (drop 1 t)

  pair_is : (node : ClassAtom) (a : ClassProductions.ClassAtom) → Is node a → is_pair node ≡ ClassProductions.is_pair a
  pair_is node (point c) is = ap is_pair is
  pair_is node (set members) is = set_whole node is.0

  range_at_follows : (first : ClassAtom) (a : ClassProductions.ClassAtom) (t : Source) → Is first a →
      Follows IsPart (ClassProductions.range_at table parameters a t) (range_at table parameters first t)
  range_at_follows first a t is_first =
      follows_then Is IsPart _ _ _ _ (atom_follows table rer parameters Any related t)
      (λ b last rest is_last.
      subst
      (λ (p : Bool). Follows IsPart
      (if begins_next parameters b rest then ranges_to table parameters a (b, rest) else range_to table parameters a (b, rest))
      (if p && begins_range rest
      then found_map (λ next contents. with_ranges table parameters first last next contents) (class_atom_at table parameters (drop 1 rest))
      else Some (with_range table parameters first last, rest)))
      (sym (pair_is last b is_last))
      (follows_if IsPart (begins_next parameters b rest) _ _ _ _ (λ _. ranges_follow first last a b rest is_first is_last)
      (λ _. range_follows first last a b rest is_first is_last)))

  part_follows : (t : Source) → Follows IsPart (ClassProductions.class_part_at table parameters t) (class_part_at table parameters t)
  part_follows t =
      follows_then Is IsPart _ _ _ _ (atom_follows table rer parameters Any related t)
      (λ a first rest is_first.
      follows_if IsPart (begins_range rest) _ _ _ _ (λ _. range_at_follows first a (drop 1 rest) is_first)
      (λ _. follows_some IsPart (with_atom table parameters first) (atom_members true a) rest
      (λ more fine. error_before first (atom_then (last_unit_of first) more) ∙ fine)))

  pub parts_follow : (n : ℕ) (t : Source) → Follows IsFine (class_parts_by table parameters n t) (class_ranges_by table parameters n t)
  unfolding class_parts_by class_ranges_by
  parts_follow zero t = follows_none IsFine None
  parts_follow (suc n) t =
      follows_if IsFine (is_at (char "]") t) _ _ _ _ (λ _. follows_some IsFine empty [] (drop 1 t) refl)
      (λ _.
      follows_then IsPart IsFine _ _ _ _ (part_follows t)
      (λ members with_part rest is_part.
      follows_then IsFine IsFine _ _ _ _ (parts_follow n rest)
      (λ others more after fine. follows_some IsFine (with_part more) (members ++ others) after (is_part more fine))))

  -- ---- parts without an error are accepted

  in_order : (first last : ClassAtom) (a b : ClassProductions.ClassAtom) → Is first a → Is last b →
      is_wrong_range false (last_unit_of first) (first_unit_of last) ≡ false → (members : List Bounds) × (range_of true false a b ≡ Some members)
  in_order first last (point a) (point b) is_first is_last ok =
      let units = of_units (nat_le 0x10000 a) (nat_le 0x10000 b) (trail_surrogate a) a (lead_surrogate b) b in
      let fine : not (nat_le (last_unit true a) (first_unit true b)) ≡ false = sym units ∙ (rw (is_first, is_last) at ok) in
      let members : List Bounds = units_before true a ++ record { first = last_unit true a; last = first_unit true b } ∷ units_after true b in
      (members, ap (λ (b : Bool). if b then Some members else None) (not_false (nat_le (last_unit true a) (first_unit true b)) fine))
  in_order first last (point a) (set others) is_first is_last ok = (atom_members true (point a) ++ one_point (char "-") ++ others, refl)
  in_order first last (set others) (point b) is_first is_last ok = (others ++ one_point (char "-") ++ atom_members true (point b), refl)
  in_order first last (set others) (set more) is_first is_last ok = (others ++ one_point (char "-") ++ more, refl)

  abbrev IsFound : Found (List Bounds) → Source → Type 0
  IsFound found rest = (members : List Bounds) × (found ≡ Some (members, rest))

  abbrev PartBack : Source → (ClassContents → ClassContents) × Source → Type 0
  PartBack t x = (more : ClassContents) → error (x.0 more) ≡ false →
      (error more ≡ false) × IsFound (ClassProductions.class_part_at table parameters t) x.1

  alone_back : (t u : Source) (first : ClassAtom) → class_atom_at table parameters t ≡ Some (first, u) → begins_range u ≡ false →
      PartBack t (with_atom table parameters first, u)
  alone_back t u first e none more ok =
      let from = (atom_back table rer parameters t).each first u e in
      let start = from.found in
      (sym (error_before first (atom_then (last_unit_of first) more)) ∙ ok, (atom_members true from.value, rw (start, none) refl))

  range_back : (t u z : Source) (first last : ClassAtom) → class_atom_at table parameters t ≡ Some (first, u) → begins_range u ≡ true →
      class_atom_at table parameters (drop 1 u) ≡ Some (last, z) → (is_pair last && begins_range z) ≡ false →
      PartBack t (with_range table parameters first last, z)
  range_back t u z first last e begins f none more ok =
      let from = (atom_back table rer parameters t).each first u e in
      let to = (atom_back table rer parameters (drop 1 u)).each last z f in
      let parts = or_parts (is_wrong_range false (last_unit_of first) (first_unit_of last)) (error (with_after table parameters last more))
      (sym (error_before first (range_then (last_unit_of first) (first_unit_of last) (with_after table parameters last more))) ∙ ok) in
      let found = in_order first last from.value to.value from.related to.related parts.0 in
      let start = from.found in
      let end = to.found in
      let stops : begins_next parameters to.value z ≡ false = ap (λ (b : Bool). b && begins_range z) (sym (pair_is last to.value to.related)) ∙ none in (
        sym (error_after last more) ∙ parts.1,
        (found.0, rw (start, begins, end, stops) (ap (λ (o : Option (List Bounds)). found_by o z) found.1)),
      )

  ranges_back : (t u z y : Source) (first last next : ClassAtom) → class_atom_at table parameters t ≡ Some (first, u) → begins_range u ≡ true →
      class_atom_at table parameters (drop 1 u) ≡ Some (last, z) → (is_pair last && begins_range z) ≡ true →
      class_atom_at table parameters (drop 1 z) ≡ Some (next, y) → PartBack t (with_ranges table parameters first last next, y)
  ranges_back t u z y first last next e begins f both g more ok =
      let from = (atom_back table rer parameters t).each first u e in
      let to = (atom_back table rer parameters (drop 1 u)).each last z f in
      let over = (atom_back table rer parameters (drop 1 z)).each next y g in
      let tail : ClassContents = range_then (last_unit_of last) (first_unit_of next) (with_after table parameters next more) in
      let parts = or_parts (is_wrong_range false (last_unit_of first) (first_unit_of last)) (error tail)
      (sym (error_before first (range_then (last_unit_of first) (first_unit_of last) tail)) ∙ ok) in
      let rest = or_parts (is_wrong_range false (last_unit_of last) (first_unit_of next)) (error (with_after table parameters next more)) parts.1 in
      let found = in_order first last from.value to.value from.related to.related parts.0 in
      let again = in_order last next to.value over.value to.related over.related rest.0 in
      let start = from.found in
      let end = to.found in
      let goes_on : begins_next parameters to.value z ≡ true = ap (λ (b : Bool). b && begins_range z) (sym (pair_is last to.value to.related)) ∙ both in (
        sym (error_after next more) ∙ rest.1,
        (
          found.0 ++ again.0,
          rw (start, begins, end, goes_on)
              (ap (λ (o : Option (List Bounds)). found_by o (drop 1 z) >>= λ (members, after).
              (range_end_at table parameters to.value after >>= added members)) found.1
              ∙ ap (λ (o : Found ClassProductions.ClassAtom). (o >>= range_to table parameters to.value) >>= added found.0) over.found
              ∙ ap (λ (o : Option (List Bounds)). found_by o y >>= added found.0) again.1),
        ),
      )

  part_back : (t : Source) → Each (PartBack t) (class_part_at table parameters t)
  part_back t =
      each_then (PartBack t) (class_atom_at table parameters t) _
      (λ x e. each_if (PartBack t) (begins_range x.1) _ _
      (λ begins. each_then (PartBack t) (class_atom_at table parameters (drop 1 x.1)) _
      (λ y f. each_if (PartBack t) (is_pair y.0 && begins_range y.1) _ _
      (λ both. each_then (PartBack t) (class_atom_at table parameters (drop 1 y.1)) _
      (λ z g. each_some (PartBack t) (with_ranges table parameters x.0 y.0 z.0, z.1) (ranges_back t x.1 y.1 z.1 x.0 y.0 z.0 e begins f both g)))
      (λ none. each_some (PartBack t) (with_range table parameters x.0 y.0, y.1) (range_back t x.1 y.1 x.0 y.0 e begins f none))))
      (λ none. each_some (PartBack t) (with_atom table parameters x.0, x.1) (alone_back t x.1 x.0 e none)))

  abbrev PartsBack : ℕ → Source → ClassContents × Source → Type 0
  PartsBack n t x = error x.0 ≡ false → IsFound (class_parts_by table parameters n t) x.1

  more_back : (n : ℕ) (t u rest : Source) (members others : List Bounds) → is_at (char "]") t ≡ false →
      ClassProductions.class_part_at table parameters t ≡ Some (members, u) → class_parts_by table parameters n u ≡ Some (others, rest) →
      class_parts_by table parameters (suc n) t ≡ Some (members ++ others, rest)
  unfolding class_parts_by
  more_back n t u rest members others opens e f = rw (class_parts_by, opens, e, f) refl

  closed_back : (n : ℕ) (t : Source) → is_at (char "]") t ≡ true → class_parts_by table parameters (suc n) t ≡ Some ([], drop 1 t)
  unfolding class_parts_by
  closed_back n t closes = rw (class_parts_by, closes) refl

  pub parts_back : (n : ℕ) (t : Source) → Each (PartsBack n t) (class_ranges_by table parameters n t)
  unfolding class_ranges_by
  parts_back zero t = each_none (PartsBack zero t)
  parts_back (suc n) t =
      each_if (PartsBack (suc n) t) (is_at (char "]") t) _ _
      (λ closes. each_some (PartsBack (suc n) t) (empty, drop 1 t) (λ ok. ([], closed_back n t closes)))
      (λ opens. each_then (PartsBack (suc n) t) (class_part_at table parameters t) _
      (λ x e. each_then (PartsBack (suc n) t) (class_ranges_by table parameters n x.1) _
      (λ y f. each_some (PartsBack (suc n) t) (x.0 y.0, y.1)
      (λ ok.
      let part = each_at (PartBack t) _ (part_back t) x e y.0 ok in
      let others = each_at (PartsBack n x.1) _ (parts_back n x.1) y f part.0 in
      (part.1.0 ++ others.0, more_back n t x.1 y.1 part.1.0 others.0 opens part.1.1 others.1)))))
