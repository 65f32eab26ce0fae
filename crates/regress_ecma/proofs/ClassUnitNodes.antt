-- The parts of a class without the flags u and v are those that NonemptyClassRanges of ECMA-262 derives. A code point above
-- U+FFFF is two characters there.
use Rattle.std.proofs.Common.{◌≡◌, ℕ, zero, suc, ◌<◌, ◌⊎◌, inl, inr, Bool, true, false, not, ◌&&◌, ◌||◌, ◌∷◌, length, drop, Some, None, if◌then◌else◌, refl, sym, ap, ap₂, subst, ◌∙◌, arith}
use Rattle.std.specs.List.{All}
use Rattle.std.proofs.lemmas.Bool.{false≢true, and_parts}
use Rattle.std.proofs.lemmas.Option.{none-some, same_Some}
use Rattle.regress_base.specs.Table.{Table}
use Rattle.regress_lexer.specs.Source.{Source, Found, IsCodePoint, char, is_at}
use Rattle.regress_lexer.proofs.lemmas.After.{after_all, after_drop}
use Rattle.regress_classes.specs.ClassProductions.{begins_range}
use Rattle.regress_classes.specs.declared.parameters.Parameters.{Parameters}
use Rattle.regress_ecma.specs.ClassGrammar.{is_pair, lead, trail, class_atom_at, with_atom, with_range, with_ranges, class_part_at, class_ranges_by}
use Rattle.regress_ecma.specs.ClassNodes.{ClassAtom, ClassContents, empty, atom_then, range_then, intersection, subtraction}
use Rattle.regress_ecma.specs.ClassRanges.{class_atom, class_atom_no_dash, IsNonemptyClassRanges, IsClassContents, is_wrong_range, has_early_error}
use Rattle.regress_ecma.proofs.ClassAtomNodes.{own, IsAtomOf, atom_is}
use Rattle.regress_ecma.proofs.ClassDerivations.{front_is, to_no_dash, is_atom, no_atom, atom_opens, not_closed, Alone, InRange, by_first}
use Rattle.regress_ecma.proofs.ClassRangeNodes.{atom-shortens, Each, each_none, each_some, each_if, each_then, each_at}
use Rattle.regress_ecma.proofs.ClassPoints.{atom_point, rest_points, wrong_pair}

module _ (table : Table) (icase named : Bool) where
  abbrev parameters : Parameters
  parameters = own icase false named

  abbrev parsed : Source → Found ClassAtom
  parsed t = class_atom_at table parameters t

  abbrev atom : Source → Found ClassAtom
  atom t = class_atom table false named t

  abbrev no_dash : Source → Found ClassAtom
  no_dash t = class_atom_no_dash table false named t

  abbrev Ranges : ClassContents → (t rest : Source) → Type 0
  Ranges node t rest = IsNonemptyClassRanges table false named node t rest

  abbrev Contents : ClassContents → (t rest : Source) → Type 0
  Contents node t rest = IsClassContents table false named node t rest

  abbrev error : ClassContents → Bool
  error node = has_early_error false node

  -- An atom is one character, or two.
  abbrev At : Bool → ClassAtom → (t rest : Source) → Type 0
  At false a t rest = atom t ≡ Some (a, rest)
  At true a t rest = (u : Source) × (atom t ≡ Some (lead a, u)) × (no_dash u ≡ Some (trail a, rest))

  view : (t rest : Source) (a : ClassAtom) → parsed t ≡ Some (a, rest) → At (is_pair a) a t rest
  view t rest a e = by (subst (λ (found : Found ClassAtom). IsAtomOf table icase false named (atom t) found) e (atom_is table icase false named t))
    where
      by : IsAtomOf table icase false named (atom t) (Some (a, rest)) → At (is_pair a) a t rest
      by (inl (whole, f)) = subst (λ (b : Bool). At b a t rest) (sym whole) f
      by (inr (u, split, f, g)) = subst (λ (b : Bool). At b a t rest) (sym split) (u, f, g)

  unparsed : (t : Source) → parsed t ≡ None → atom t ≡ None
  unparsed t e = subst (λ (found : Found ClassAtom). IsAtomOf table icase false named (atom t) found) e (atom_is table icase false named t)

  -- ---- what the parts make of the rest, by whether each atom is two characters

  abbrev before_by : Bool → ClassAtom → ClassContents → ClassContents
  before_by b a node = if b then atom_then (lead a) node else node

  abbrev last_by : Bool → ClassAtom → ClassAtom
  last_by b a = if b then trail a else a

  abbrev first_by : Bool → ClassAtom → ClassAtom
  first_by b a = if b then lead a else a

  abbrev after_by : Bool → ClassAtom → ClassContents → ClassContents
  after_by b a node = if b then atom_then (trail a) node else node

  error_before : (b : Bool) (a : ClassAtom) (node : ClassContents) → error (before_by b a node) ≡ error node
  error_before true a node = refl
  error_before false a node = refl

  error_after : (b : Bool) (a : ClassAtom) (node : ClassContents) → error (after_by b a node) ≡ error node
  error_after true a node = refl
  error_after false a node = refl

  one_then : (a : ClassAtom) (t u rest : Source) (more : ClassContents) → atom t ≡ Some (a, u) → begins_range u ≡ false → Contents more u (char "]" ∷ rest) →
      Ranges (atom_then a more) t (char "]" ∷ rest)
  one_then a t u rest more e none (inl (is_empty, same)) = (u, e, inl (is_empty, same))
  one_then a t u rest more e none (inr h) = (u, e, inr (to_no_dash table false named more u rest none h))

  begins_not : (u : Source) → is_at (char "-") u ≡ false → begins_range u ≡ false
  begins_not u e = ap (λ (b : Bool). b && not (is_at (char "]") (drop 1 u))) e

  -- the first atom, of which the last character is followed by what is derived
  after_first : (b : Bool) (a : ClassAtom) (t u rest : Source) (node : ClassContents) → At b a t u →
      ((w : Source) → atom w ≡ Some (last_by b a, u) → Ranges node w (char "]" ∷ rest)) → Ranges (before_by b a node) t (char "]" ∷ rest)
  after_first false a t u rest node e next = next t e
  after_first true a t u rest node (w, e, f) next =
      let found = is_atom table false named w u (trail a) f in
      one_then (lead a) t w rest node e (begins_not w found.1) (inr (next w found.0))

  -- what follows the last atom of a range
  after_last : (d : Bool) (c : ClassAtom) (v z rest : Source) (more : ClassContents) → At d c v z → (d && begins_range z) ≡ false →
      Contents more z (char "]" ∷ rest) → (w : Source) × (atom v ≡ Some (first_by d c, w)) × Contents (after_by d c more) w (char "]" ∷ rest)
  after_last false c v z rest more e none h = (z, e, h)
  after_last true c v z rest more (w, e, f) none h =
      (w, e, inr (one_then (trail c) w z rest more (is_atom table false named w z (trail c) f).0 none h))

  -- ---- from the parts

  or_parts : (a b : Bool) → (a || b) ≡ false → (a ≡ false) × (b ≡ false)
  or_parts true b e = absurd (false≢true (sym e))
  or_parts false b e = (refl, e)

  -- What a part makes of the rest, if it has no error.
  abbrev IsPart : Source → (ClassContents → ClassContents) × Source → Type 0
  IsPart t x =
      (more : ClassContents) (rest : Source) → error (x.0 more) ≡ false →
      (error more ≡ false) × (Contents more x.1 (char "]" ∷ rest) → Ranges (x.0 more) t (char "]" ∷ rest))

  alone_part : (b : Bool) (a : ClassAtom) (t u : Source) → At b a t u → begins_range u ≡ false →
      IsPart t ((λ more. before_by b a (atom_then (last_by b a) more)), u)
  alone_part b a t u e none more rest ok = (
    sym (error_before b a (atom_then (last_by b a) more)) ∙ ok,
    λ h. after_first b a t u rest (atom_then (last_by b a) more) e (λ w f. one_then (last_by b a) w u rest more f none h),
  )

  range_part : (b d : Bool) (a c : ClassAtom) (t u z : Source) → At b a t u → begins_range u ≡ true → At d c (drop 1 u) z →
      (d && begins_range z) ≡ false →
      IsPart t ((λ more. before_by b a (range_then (last_by b a) (first_by d c) (after_by d c more))), z)
  range_part b d a c t u z e begins f none more rest ok =
      let fine = or_parts (is_wrong_range false (last_by b a) (first_by d c)) (error (after_by d c more))
      (sym (error_before b a (range_then (last_by b a) (first_by d c) (after_by d c more))) ∙ ok) in (
        sym (error_after d c more) ∙ fine.1,
        λ h. after_first b a t u rest (range_then (last_by b a) (first_by d c) (after_by d c more)) e
            (λ w g.
            let tail = after_last d c (drop 1 u) z rest more f none h in (
              drop 1 u,
              tail.0,
              g ∙ ap (λ (k : Source). Some (last_by b a, k)) (front_is (char "-") u (and_parts (is_at (char "-") u) _ begins).0),
              tail.1,
              tail.2,
            )),
      )

  abbrev ranges_by : (b d g : Bool) (a c n : ClassAtom) → ClassContents → ClassContents
  ranges_by b d g a c n more =
      before_by b a (range_then (last_by b a) (first_by d c) (range_then (last_by d c) (first_by g n) (after_by g n more)))

  -- The last character of the second atom begins a range, whose end is one character, since it is no lead surrogate.
  ranges_part : (b g : Bool) (a c n : ClassAtom) (t u z y : Source) → At b a t u → begins_range u ≡ true → At true c (drop 1 u) z →
      begins_range z ≡ true → At g n (drop 1 z) y → (g ≡ true → is_wrong_range false (trail c) (lead n) ≡ true) →
      IsPart t (ranges_by b true g a c n, y)
  ranges_part b true a c n t u z y e begins f again k wrong more rest ok =
      let fine = or_parts (is_wrong_range false (last_by b a) (lead c)) (error (range_then (trail c) (lead n) (atom_then (trail n) more)))
      (sym (error_before b a (range_then (last_by b a) (lead c) (range_then (trail c) (lead n) (atom_then (trail n) more)))) ∙ ok) in
      absurd (false≢true (sym (or_parts (is_wrong_range false (trail c) (lead n)) (error more) fine.1).0 ∙ wrong refl))
  ranges_part b false a c n t u z y e begins (w, f, f') again k wrong more rest ok =
      let fine = or_parts (is_wrong_range false (last_by b a) (lead c)) (error (range_then (trail c) n more))
      (sym (error_before b a (range_then (last_by b a) (lead c) (range_then (trail c) n more))) ∙ ok) in (
        (or_parts (is_wrong_range false (trail c) n) (error more) fine.1).1,
        λ h. after_first b a t u rest (range_then (last_by b a) (lead c) (range_then (trail c) n more)) e
            (λ x g. (
              drop 1 u,
              w,
              g ∙ ap (λ (l : Source). Some (last_by b a, l)) (front_is (char "-") u (and_parts (is_at (char "-") u) _ begins).0),
              f,
              inr (
                drop 1 z,
                y,
                (is_atom table false named w z (trail c) f').0
                    ∙ ap (λ (l : Source). Some (trail c, l)) (front_is (char "-") z (and_parts (is_at (char "-") z) _ again).0),
                k,
                h,
              ),
            )),
      )

  -- code points are left, and it is such a part
  abbrev IsPartOf : Source → (ClassContents → ClassContents) × Source → Type 0
  IsPartOf t x = All IsCodePoint x.1 × IsPart t x

  ranges_case : (t : Source) → All IsCodePoint t → (a c n : ClassAtom) (u z y : Source) → parsed t ≡ Some (a, u) → begins_range u ≡ true →
      parsed (drop 1 u) ≡ Some (c, z) → (is_pair c && begins_range z) ≡ true → parsed (drop 1 z) ≡ Some (n, y) →
      IsPartOf t (with_ranges table parameters a c n, y)
  ranges_case t points a c n u z y e begins f both g =
      let at_c = rest_points table parameters t u a points e in
      let at_z = rest_points table parameters (drop 1 u) z c (after_all u (drop 1 u) (after_drop 1 u) at_c) f in
      let at_n = after_all z (drop 1 z) (after_drop 1 z) at_z in
      let parts = and_parts (is_pair c) (begins_range z) both in (
        rest_points table parameters (drop 1 z) y n at_n g,
        subst (λ (d : Bool). At d c (drop 1 u) z → IsPart t (ranges_by (is_pair a) d (is_pair n) a c n, y)) (sym parts.0)
            (λ k. ranges_part (is_pair a) (is_pair n) a c n t u z y (view t u a e) begins k parts.1 (view (drop 1 z) y n g)
            (λ pair. wrong_pair c n parts.0 pair ((atom_point table parameters (drop 1 z) at_n).each (n, y) g)))
            (view (drop 1 u) z c f),
      )

  part_is : (t : Source) → All IsCodePoint t → Each (IsPartOf t) (class_part_at table parameters t)
  part_is t points =
      each_then (IsPartOf t) (parsed t) _
      (λ x e. each_if (IsPartOf t) (begins_range x.1) _ _
      (λ begins. each_then (IsPartOf t) (parsed (drop 1 x.1)) _
      (λ y f. each_if (IsPartOf t) (is_pair y.0 && begins_range y.1) _ _
      (λ both. each_then (IsPartOf t) (parsed (drop 1 y.1)) _
      (λ z g. each_some (IsPartOf t) (with_ranges table parameters x.0 y.0 z.0, z.1) (ranges_case t points x.0 y.0 z.0 x.1 y.1 z.1 e begins f both g)))
      (λ none. each_some (IsPartOf t) (with_range table parameters x.0 y.0, y.1) (
        rest_points table parameters (drop 1 x.1) y.1 y.0 (after_all x.1 (drop 1 x.1) (after_drop 1 x.1) (rest_points table parameters t x.1 x.0 points e)) f,
        range_part (is_pair x.0) (is_pair y.0) x.0 y.0 t x.1 y.1 (view t x.1 x.0 e) begins (view (drop 1 x.1) y.1 y.0 f) none,
      ))))
      (λ none. each_some (IsPartOf t) (with_atom table parameters x.0, x.1)
      (rest_points table parameters t x.1 x.0 points e, alone_part (is_pair x.0) x.0 t x.1 (view t x.1 x.0 e) none)))

  abbrev AreContents : Source → ClassContents × Source → Type 0
  AreContents t x = error x.0 ≡ false → Contents x.0 t (char "]" ∷ x.1)

  pub parts_derive : (n : ℕ) (t : Source) → All IsCodePoint t → Each (AreContents t) (class_ranges_by table parameters n t)
  unfolding class_ranges_by
  parts_derive zero t points = each_none (AreContents t)
  parts_derive (suc n) t points =
      each_if (AreContents t) (is_at (char "]") t) _ _
      (λ closes. each_some (AreContents t) (empty, drop 1 t) (λ ok. inl (refl, front_is (char "]") t closes)))
      (λ _. each_then (AreContents t) (class_part_at table parameters t) _
      (λ x e.
      let part = each_at (IsPartOf t) _ (part_is t points) x e in
      each_then (AreContents t) (class_ranges_by table parameters n x.1) _
      (λ y f. each_some (AreContents t) (x.0 y.0, y.1)
      (λ ok.
      let fine = part.1 y.0 y.1 ok in
      inr (fine.1 (each_at (AreContents x.1) _ (parts_derive n x.1 part.0) y f fine.0))))))

  -- ---- to the parts

  -- The first atom alone, or a range that begins with it.
  abbrev AloneBy : Bool → ClassAtom → (u : Source) → ClassContents → (rest : Source) → Type 0
  AloneBy b a u node rest =
      (more : ClassContents) × (node ≡ before_by b a (atom_then (last_by b a) more)) × (begins_range u ≡ false) × Contents more u (char "]" ∷ rest)

  abbrev RangeBy : Bool → ClassAtom → (u : Source) → ClassContents → (rest : Source) → Type 0
  RangeBy b a u node rest =
      (v : Source) × (c : ClassAtom) × (w : Source) × (more : ClassContents)
      × (u ≡ char "-" ∷ v) × (node ≡ before_by b a (range_then (last_by b a) c more)) × (atom v ≡ Some (c, w)) × Contents more w (char "]" ∷ rest)

  not_at_end : (a : ClassAtom) (w u : Source) (rest : Source) → no_dash w ≡ Some (a, u) → w ≡ char "]" ∷ rest → ⊥
  not_at_end a w u rest f at_end =
      none-some (a, u) (sym (no_atom table false named rest) ∙ sym (ap atom at_end) ∙ (is_atom table false named w u a f).0)

  first_by_unit : (b : Bool) (a : ClassAtom) (t u rest : Source) (node : ClassContents) → At b a t u → Ranges node t (char "]" ∷ rest) →
      AloneBy b a u node rest ⊎ RangeBy b a u node rest
  first_by_unit false a t u rest node e h = by_first table false named node t u rest a e h
  first_by_unit true a t u rest node (w, e, f) h = outer (by_first table false named node t w rest (lead a) e h)
    where
      inner : (m : ClassContents) → node ≡ atom_then (lead a) m → Alone table false named (trail a) u m rest ⊎ InRange table false named (trail a) u m rest →
          AloneBy true a u node rest ⊎ RangeBy true a u node rest
      inner m eq (inl (more, eq2, none, k)) = inl (more, eq ∙ ap (λ (l : ClassContents). atom_then (lead a) l) eq2, none, k)
      inner m eq (inr (v, c, w2, more, at_u, eq2, g, k)) = inr (v, c, w2, more, at_u, eq ∙ ap (λ (l : ClassContents). atom_then (lead a) l) eq2, g, k)

      outer : Alone table false named (lead a) w node rest ⊎ InRange table false named (lead a) w node rest →
          AloneBy true a u node rest ⊎ RangeBy true a u node rest
      outer (inl (m, eq, none, inl (is_empty, at_end))) = absurd (not_at_end (trail a) w u rest f at_end)
      outer (inl (m, eq, none, inr k)) = inner m eq (by_first table false named m w u rest (trail a) (is_atom table false named w u (trail a) f).0 k)
      outer (inr (v, c, w2, more, at_w, eq, g, k)) =
          absurd (false≢true (sym (is_atom table false named w u (trail a) f).1 ∙ ap (is_at (char "-")) at_w))

  -- The last atom of a range, or its first character where the other one begins a range.
  abbrev LastBy : Bool → ClassAtom → (z : Source) → ClassAtom → ClassContents → (rest : Source) → Type 0
  LastBy d c z b node rest =
      (more : ClassContents) × (b ≡ first_by d c) × (node ≡ after_by d c more) × ((d && begins_range z) ≡ false) × Contents more z (char "]" ∷ rest)

  abbrev AgainBy : Bool → ClassAtom → (z : Source) → ClassAtom → ClassContents → (rest : Source) → Type 0
  AgainBy d c z b node rest =
      (d ≡ true) × (v : Source) × (n : ClassAtom) × (y : Source) × (more : ClassContents)
      × (z ≡ char "-" ∷ v) × (b ≡ lead c) × (node ≡ range_then (trail c) n more) × (atom v ≡ Some (n, y)) × Contents more y (char "]" ∷ rest)

  last_by_unit : (d : Bool) (c b : ClassAtom) (v z w rest : Source) (node : ClassContents) → At d c v z → atom v ≡ Some (b, w) →
      Contents node w (char "]" ∷ rest) → LastBy d c z b node rest ⊎ AgainBy d c z b node rest
  last_by_unit false c b v z w rest node e g h =
      let same : (c, z) ≡ (b, w) = same_Some (c, z) (b, w) (sym e ∙ g) in
      inl (
        node,
        sym (ap (λ (x : ClassAtom × Source). x.0) same),
        refl,
        refl,
        subst (λ (k : Source). Contents node k (char "]" ∷ rest)) (sym (ap (λ (x : ClassAtom × Source). x.1) same)) h,
      )
  last_by_unit true c b v z w rest node (x, e, f) g h =
      let same : (lead c, x) ≡ (b, w) = same_Some (lead c, x) (b, w) (sym e ∙ g) in
      outer (sym (ap (λ (y : ClassAtom × Source). y.0) same))
      (subst (λ (k : Source). Contents node k (char "]" ∷ rest)) (sym (ap (λ (y : ClassAtom × Source). y.1) same)) h)
    where
      inner : b ≡ lead c → Alone table false named (trail c) z node rest ⊎ InRange table false named (trail c) z node rest →
          LastBy true c z b node rest ⊎ AgainBy true c z b node rest
      inner first (inl (more, eq, none, k)) = inl (more, first, eq, none, k)
      inner first (inr (v2, n, y, more, at_z, eq, found, k)) = inr (refl, v2, n, y, more, at_z, first, eq, found, k)

      outer : b ≡ lead c → Contents node x (char "]" ∷ rest) → LastBy true c z b node rest ⊎ AgainBy true c z b node rest
      outer first (inl (is_empty, at_end)) = absurd (not_at_end (trail c) x z rest f at_end)
      outer first (inr k) = inner first (by_first table false named node x z rest (trail c) (is_atom table false named x z (trail c) f).0 k)

  -- The part at the start, and the rest.
  pub record HasPart (t : Source) (node : ClassContents) (rest : Source) : Type 0 where
    pub with_part : ClassContents → ClassContents
    pub left : Source
    pub more : ClassContents
    pub found : class_part_at table parameters t ≡ Some (with_part, left)
    pub is_node : node ≡ with_part more
    pub contents : Contents more left (char "]" ∷ rest)
    pub shorter : length left < length t

  abbrev Looked : Source → Type 0
  Looked t = ((x : ClassAtom × Source) × (parsed t ≡ Some x)) ⊎ (parsed t ≡ None)

  looked : (t : Source) → Looked t
  looked t = by (parsed t) refl
    where
      by : (found : Found ClassAtom) → parsed t ≡ found → Looked t
      by None e = inr e
      by (Some x) e = inl (x, e)

  ranges_first : (node : ClassContents) (t rest : Source) → Ranges node t rest → (x : ClassAtom × Source) × (atom t ≡ Some x)
  ranges_first empty t rest h = absurd h
  ranges_first (atom_then a more) t rest h = ((a, h.0), h.1)
  ranges_first (range_then a b more) t rest h = ((a, char "-" ∷ h.0), h.2)
  ranges_first (intersection left right) t rest h = absurd h
  ranges_first (subtraction left right) t rest h = absurd h

  shortens : (t u : Source) (a : ClassAtom) → parsed t ≡ Some (a, u) → length u < length t
  shortens t u a e = atom-shortens table parameters t u a e

  -- A range whose last atom begins no other one.
  one_range : (t v z rest : Source) (a c b : ClassAtom) (node more m : ClassContents) → parsed t ≡ Some (a, char "-" ∷ v) → is_at (char "]") v ≡ false →
      parsed v ≡ Some (c, z) → (is_pair c && begins_range z) ≡ false →
      node ≡ before_by (is_pair a) a (range_then (last_by (is_pair a) a) b more) → b ≡ first_by (is_pair c) c → more ≡ after_by (is_pair c) c m →
      Contents m z (char "]" ∷ rest) → HasPart t node rest
  one_range t v z rest a c b node more m e opens f stops eq first after k =
      let less = shortens t (char "-" ∷ v) a e in
      let less_again = shortens v z c f in
      record {
        with_part = with_range table parameters a c;
        left = z;
        more = m;
        found = rw (e, opens, f, stops) refl;
        is_node = eq ∙ ap₂ (λ (x : ClassAtom) (l : ClassContents). before_by (is_pair a) a (range_then (last_by (is_pair a) a) x l)) first after;
        contents = k;
        shorter = omega arith;
      }

  -- A range whose last atom begins another one.
  two_ranges : (t v w y rest : Source) (a c n : ClassAtom) (node m : ClassContents) → parsed t ≡ Some (a, char "-" ∷ v) → is_at (char "]") v ≡ false →
      parsed v ≡ Some (c, char "-" ∷ w) → is_pair c ≡ true → is_at (char "]") w ≡ false → parsed w ≡ Some (n, y) → is_pair n ≡ false →
      node ≡ before_by (is_pair a) a (range_then (last_by (is_pair a) a) (lead c) (range_then (trail c) n m)) →
      Contents m y (char "]" ∷ rest) → HasPart t node rest
  two_ranges t v w y rest a c n node m e opens f pair opens_again g whole eq k =
      let less = shortens t (char "-" ∷ v) a e in
      let less_again = shortens v (char "-" ∷ w) c f in
      let less_at_last = shortens w y n g in
      let both : (is_pair c && begins_range (char "-" ∷ w)) ≡ true = ap₂ (λ (p q : Bool). p && not q) pair opens_again in
      record {
        with_part = with_ranges table parameters a c n;
        left = y;
        more = m;
        found = rw (e, opens, f, both, g) refl;
        is_node =
            eq
            ∙ ap₂
            (λ (d g : Bool). before_by (is_pair a) a (range_then (last_by (is_pair a) a) (first_by d c)
            (range_then (last_by d c) (first_by g n) (after_by g n m))))
            (sym pair) (sym whole);
        contents = k;
        shorter = omega arith;
      }

  abbrev no_error_in : (a c n : ClassAtom) (m : ClassContents) → Type 0
  no_error_in a c n m = error (before_by (is_pair a) a (range_then (last_by (is_pair a) a) (lead c) (range_then (trail c) n m))) ≡ false

  second_fine : (a c n : ClassAtom) (m : ClassContents) → no_error_in a c n m → is_wrong_range false (trail c) n ≡ false
  second_fine a c n m ok =
      (or_parts (is_wrong_range false (trail c) n) (error m)
      (or_parts (is_wrong_range false (last_by (is_pair a) a) (lead c)) (error (range_then (trail c) n m))
      (sym (error_before (is_pair a) a (range_then (last_by (is_pair a) a) (lead c) (range_then (trail c) n m))) ∙ ok)).1).0

  again_case : (t v w y rest : Source) (a c n : ClassAtom) (node m : ClassContents) → parsed t ≡ Some (a, char "-" ∷ v) → is_at (char "]") v ≡ false →
      parsed v ≡ Some (c, char "-" ∷ w) → is_pair c ≡ true → All IsCodePoint w → atom w ≡ Some (n, y) →
      node ≡ before_by (is_pair a) a (range_then (last_by (is_pair a) a) (lead c) (range_then (trail c) n m)) → error node ≡ false →
      Contents m y (char "]" ∷ rest) → HasPart t node rest
  again_case t v w y rest a c n node m e opens f pair points g eq ok k = by (looked w)
    where
      whole_case : (n' : ClassAtom) (y' : Source) → parsed w ≡ Some (n', y') → is_pair n' ≡ false → ◌≡◌ {A = ClassAtom × Source} (n', y') (n, y) →
          HasPart t node rest
      whole_case n' y' h whole same =
          two_ranges t v w y' rest a c n' node m e opens f pair (atom_opens table false named w y n g) h whole
          (eq
          ∙ ap (λ (x : ClassAtom). before_by (is_pair a) a (range_then (last_by (is_pair a) a) (lead c) (range_then (trail c) x m)))
          (sym (ap (λ (x : ClassAtom × Source). x.0) same)))
          (subst (λ (l : Source). Contents m l (char "]" ∷ rest)) (sym (ap (λ (x : ClassAtom × Source). x.1) same)) k)

      with_view : (n' : ClassAtom) (y' : Source) → parsed w ≡ Some (n', y') → (b : Bool) → is_pair n' ≡ b → At b n' w y' → HasPart t node rest
      with_view n' y' h false whole k' = whole_case n' y' h whole (same_Some (n', y') (n, y) (sym k' ∙ g))
      with_view n' y' h true is_two (x, k', l) =
          let same : lead n' ≡ n = ap (λ (x : ClassAtom × Source). x.0) (same_Some (lead n', x) (n, y) (sym k' ∙ g)) in
          let fine : is_wrong_range false (trail c) (lead n') ≡ false =
          ap (is_wrong_range false (trail c)) same ∙ second_fine a c n m (sym (ap error eq) ∙ ok) in
          absurd (false≢true (sym fine ∙ wrong_pair c n' pair is_two ((atom_point table parameters w points).each (n', y') h)))

      by : Looked w → HasPart t node rest
      by (inr none) = absurd (none-some (n, y) (sym (unparsed w none) ∙ g))
      by (inl (x, h)) = with_view x.0 x.1 h (is_pair x.0) refl (view w x.1 x.0 h)

  range_case : (t v w rest : Source) (a b : ClassAtom) (node more : ClassContents) → parsed t ≡ Some (a, char "-" ∷ v) → All IsCodePoint v →
      node ≡ before_by (is_pair a) a (range_then (last_by (is_pair a) a) b more) → error node ≡ false → atom v ≡ Some (b, w) →
      Contents more w (char "]" ∷ rest) → HasPart t node rest
  range_case t v w rest a b node more e points eq ok g k = by (looked v)
    where
      opens : is_at (char "]") v ≡ false
      opens = atom_opens table false named v w b g

      chosen : (c : ClassAtom) (z : Source) → parsed v ≡ Some (c, z) → LastBy (is_pair c) c z b more rest ⊎ AgainBy (is_pair c) c z b more rest →
          HasPart t node rest
      chosen c z f (inl (m, first, after, stops, l)) = one_range t v z rest a c b node more m e opens f stops eq first after l
      chosen c z f (inr (pair, x, n, y, m, at_z, first, is_more, h, l)) =
          again_case t v x y rest a c n node m e opens (f ∙ ap (λ (s : Source). Some (c, s)) at_z) pair
          (after_all (char "-" ∷ x) x (after_drop 1 (char "-" ∷ x)) (subst (All IsCodePoint) at_z (rest_points table parameters v z c points f))) h
          (eq ∙ ap₂ (λ (d : ClassAtom) (s : ClassContents). before_by (is_pair a) a (range_then (last_by (is_pair a) a) d s)) first is_more) ok l

      by : Looked v → HasPart t node rest
      by (inr none) = absurd (none-some (b, w) (sym (unparsed v none) ∙ g))
      by (inl (x, f)) = chosen x.0 x.1 f (last_by_unit (is_pair x.0) x.0 b v x.1 w rest more (view v x.1 x.0 f) g k)

  has_part : (t : Source) (node : ClassContents) (rest : Source) → All IsCodePoint t → Ranges node t (char "]" ∷ rest) → error node ≡ false →
      HasPart t node rest
  has_part t node rest points h ok = by (looked t)
    where
      chosen : (a : ClassAtom) (u : Source) → parsed t ≡ Some (a, u) → AloneBy (is_pair a) a u node rest ⊎ RangeBy (is_pair a) a u node rest →
          HasPart t node rest
      chosen a u e (inl (more, eq, none, k)) =
          record {
            with_part = with_atom table parameters a;
            left = u;
            more = more;
            found = rw (e, none) refl;
            is_node = eq;
            contents = k;
            shorter = shortens t u a e;
          }
      chosen a u e (inr (v, b, w, more, at_u, eq, g, k)) =
          range_case t v w rest a b node more (e ∙ ap (λ (s : Source). Some (a, s)) at_u)
          (after_all (char "-" ∷ v) v (after_drop 1 (char "-" ∷ v)) (subst (All IsCodePoint) at_u (rest_points table parameters t u a points e))) eq ok g k

      by : Looked t → HasPart t node rest
      by (inr none) = let first = ranges_first node t (char "]" ∷ rest) h in absurd (none-some first.0 (sym (unparsed t none) ∙ first.1))
      by (inl (x, e)) = chosen x.0 x.1 e (first_by_unit (is_pair x.0) x.0 t x.1 rest node (view t x.1 x.0 e) h)

  abbrev Parts : ℕ → Source → Found ClassContents
  Parts n t = class_ranges_by table parameters n t

  goes_on : (n : ℕ) (t u rest : Source) (with_part : ClassContents → ClassContents) (more node : ClassContents) → is_at (char "]") t ≡ false →
      class_part_at table parameters t ≡ Some (with_part, u) → Parts n u ≡ Some (more, rest) → node ≡ with_part more → Parts (suc n) t ≡ Some (node, rest)
  unfolding class_ranges_by
  goes_on n t u rest with_part more node opens e f same = rw (class_ranges_by, opens, e, f) (ap (λ (m : ClassContents). Some (m, rest)) (sym same))

  pub derived_parts : (n : ℕ) (t : Source) → length t < n → All IsCodePoint t → (node : ClassContents) (rest : Source) → Contents node t (char "]" ∷ rest) →
      error node ≡ false → Parts n t ≡ Some (node, rest)
  unfolding class_ranges_by
  derived_parts zero t short points node rest h ok = absurd (omega arith)
  derived_parts (suc n) t short points node rest (inl (is_empty, same)) ok =
      subst (λ (w : Source). Parts (suc n) w ≡ Some (node, rest)) (sym same)
      (subst (λ (m : ClassContents). Parts (suc n) (char "]" ∷ rest) ≡ Some (m, rest)) (sym is_empty) refl)
  derived_parts (suc n) t short points node rest (inr h) ok =
      let part = has_part t node rest points h ok in
      let is_part = each_at (IsPartOf t) _ (part_is t points) (part.with_part, part.left) part.found in
      let fine = is_part.1 part.more rest (sym (ap error part.is_node) ∙ ok) in
      let less : length part.left < length t = part.shorter in
      goes_on n t part.left rest part.with_part part.more node (not_closed table false named node t (char "]" ∷ rest) h) part.found
      (derived_parts n part.left (omega arith) is_part.0 part.more rest part.contents fine.0) part.is_node
