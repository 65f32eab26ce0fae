-- The derivations of NonemptyClassRanges of ECMA-262, by their first atom.
use Rattle.std.proofs.Common.{◌≡◌, ℕ, ◌⊎◌, inl, inr, Bool, true, false, not, ◌&&◌, [], ◌∷◌, drop, Some, None, if◌then◌else◌, refl, sym, ap, subst, ◌∙◌, eqb-true}
use Rattle.std.specs.Option.{option_or}
use Rattle.std.proofs.lemmas.Bool.{false≢true}
use Rattle.std.proofs.lemmas.Option.{none-some, same_Some}
use Rattle.regress_base.specs.Table.{Table}
use Rattle.regress_lexer.specs.Source.{Source, Found, char, is_at}
use Rattle.regress_classes.specs.ClassProductions.{begins_range}
use Rattle.regress_ecma.specs.ClassNodes.{ClassAtom, character, ClassContents, empty, atom_then, range_then, intersection, subtraction}
use Rattle.regress_ecma.specs.ClassRanges.{class_atom, class_atom_no_dash, IsNonemptyClassRanges, IsNonemptyClassRangesNoDash, IsClassContents}
use Rattle.regress_ecma.proofs.EscapesWithU.{by_case, or_none}

-- what a source begins with
pub front_is : (k : ℕ) (t : Source) → is_at k t ≡ true → t ≡ k ∷ drop 1 t
front_is k [] e = absurd (false≢true e)
front_is k (c ∷ t) e = ap (λ (d : ℕ). d ∷ t) (eqb-true c k e)

pub end_closes : (t rest : Source) → t ≡ char "]" ∷ rest → begins_range t ≡ false
end_closes t rest e = ap begins_range e

module _ (table : Table) (unicode named : Bool) where
  abbrev atom : Source → Found ClassAtom
  atom t = class_atom table unicode named t

  abbrev no_dash : Source → Found ClassAtom
  no_dash t = class_atom_no_dash table unicode named t

  abbrev Ranges : ClassContents → (t rest : Source) → Type 0
  Ranges node t rest = IsNonemptyClassRanges table unicode named node t rest

  abbrev NoDash : ClassContents → (t rest : Source) → Type 0
  NoDash node t rest = IsNonemptyClassRangesNoDash table unicode named node t rest

  abbrev Contents : ClassContents → (t rest : Source) → Type 0
  Contents node t rest = IsClassContents table unicode named node t rest

  -- ---- atoms

  no_dash_first : (t : Source) → no_dash (char "-" ∷ t) ≡ None
  unfolding class_atom_no_dash
  no_dash_first t = by unicode
    where
      by : (u : Bool) → class_atom_no_dash table u named (char "-" ∷ t) ≡ None
      by true = refl
      by false = refl

  pub no_atom : (t : Source) → atom (char "]" ∷ t) ≡ None
  unfolding class_atom class_atom_no_dash
  no_atom t = by unicode
    where
      by : (u : Bool) → class_atom table u named (char "]" ∷ t) ≡ None
      by true = refl
      by false = refl

  other_first : (t : Source) → is_at (char "-") t ≡ false → atom t ≡ no_dash t
  unfolding class_atom
  other_first [] e = or_none (no_dash [])
  other_first (c ∷ t) e =
      ap (λ (b : Bool). option_or (if b then Some (character (char "-"), t) else None) (option_or (no_dash (c ∷ t)) None)) e ∙ or_none (no_dash (c ∷ t))

  -- An atom that is no hyphen is ClassAtom too.
  pub is_atom : (t u : Source) (a : ClassAtom) → no_dash t ≡ Some (a, u) → (atom t ≡ Some (a, u)) × (is_at (char "-") t ≡ false)
  is_atom t u a e = by_case (is_at (char "-") t) dash (λ other. (other_first t other ∙ e, other))
    where
      dash : is_at (char "-") t ≡ true → (atom t ≡ Some (a, u)) × (is_at (char "-") t ≡ false)
      dash f = absurd (none-some (a, u) (sym (no_dash_first (drop 1 t)) ∙ sym (ap no_dash (front_is (char "-") t f)) ∙ e))

  hyphen_rest : (t : Source) (x : ClassAtom × Source) → is_at (char "-") t ≡ true → atom t ≡ Some x → x ≡ (character (char "-"), drop 1 t)
  unfolding class_atom
  hyphen_rest t x f e = sym (same_Some (character (char "-"), drop 1 t) x (sym (ap atom (front_is (char "-") t f)) ∙ e))

  -- ---- what follows an atom

  -- Nothing begins with `]`.
  pub none_at_end : (node : ClassContents) (t rest : Source) → Ranges node (char "]" ∷ t) rest → ⊥
  none_at_end empty t rest h = h
  none_at_end (atom_then a more) t rest h = none-some (a, h.0) (sym (no_atom t) ∙ h.1)
  none_at_end (range_then a b more) t rest h = none-some (a, char "-" ∷ h.0) (sym (no_atom t) ∙ h.2)
  none_at_end (intersection left right) t rest h = h
  none_at_end (subtraction left right) t rest h = h

  none_at_end_either : (node : ClassContents) (t rest : Source) → NoDash node (char "]" ∷ t) rest → ⊥
  none_at_end_either empty t rest h = h
  none_at_end_either (atom_then a more) t rest (u, inl (e, is_empty, same)) = none-some (a, u) (sym (no_atom t) ∙ e)
  none_at_end_either (atom_then a more) t rest (u, inr (e, h)) = none-some (a, u) (sym (no_atom t) ∙ (is_atom (char "]" ∷ t) u a e).0)
  none_at_end_either (range_then a b more) t rest h =
      none-some (a, char "-" ∷ h.0) (sym (no_atom t) ∙ (is_atom (char "]" ∷ t) (char "-" ∷ h.0) a h.2).0)
  none_at_end_either (intersection left right) t rest h = h
  none_at_end_either (subtraction left right) t rest h = h

  begins_not : (t : Source) → is_at (char "-") t ≡ false → begins_range t ≡ false
  begins_not t e = ap (λ (b : Bool). b && not (is_at (char "]") (drop 1 t))) e

  hyphen_ends : (t : Source) → is_at (char "-") t ≡ true → begins_range t ≡ false → is_at (char "]") (drop 1 t) ≡ true
  hyphen_ends t dash none = by (is_at (char "]") (drop 1 t)) (sym (ap (λ (b : Bool). b && not (is_at (char "]") (drop 1 t))) dash) ∙ none)
    where
      by : (b : Bool) → not b ≡ false → b ≡ true
      by true e = refl
      by false e = sym e

  -- NonemptyClassRangesNoDash, where no hyphen begins a range
  pub to_no_dash : (node : ClassContents) (t rest : Source) → begins_range t ≡ false → Ranges node t (char "]" ∷ rest) → NoDash node t (char "]" ∷ rest)
  to_no_dash empty t rest none h = h
  to_no_dash (atom_then a more) t rest none (u, e, inl (is_empty, same)) = (u, inl (e, is_empty, same))
  to_no_dash (atom_then a more) t rest none (u, e, inr h) =
      by_case (is_at (char "-") t) dash (λ other. (u, inr (sym (other_first t other) ∙ e, h)))
    where
      dash : is_at (char "-") t ≡ true → NoDash (atom_then a more) t (char "]" ∷ rest)
      dash f =
          let at_end : u ≡ char "]" ∷ drop 1 (drop 1 t) =
          ap (λ (x : ClassAtom × Source). x.1) (hyphen_rest t (a, u) f e) ∙ front_is (char "]") (drop 1 t) (hyphen_ends t f none) in
          absurd (none_at_end_either more (drop 1 (drop 1 t)) (char "]" ∷ rest) (subst (λ (w : Source). NoDash more w (char "]" ∷ rest)) at_end h))
  to_no_dash (range_then a b more) t rest none (u, v, e, f, h) =
      by_case (is_at (char "-") t) dash (λ other. (u, v, sym (other_first t other) ∙ e, f, h))
    where
      dash : is_at (char "-") t ≡ true → NoDash (range_then a b more) t (char "]" ∷ rest)
      dash g =
          let same : char "-" ∷ u ≡ drop 1 t = ap (λ (x : ClassAtom × Source). x.1) (hyphen_rest t (a, char "-" ∷ u) g e) in
          absurd (false≢true (ap (is_at (char "]")) same ∙ hyphen_ends t g none))
  to_no_dash (intersection left right) t rest none h = h
  to_no_dash (subtraction left right) t rest none h = h

  -- No hyphen begins a range there.
  pub no_range : (node : ClassContents) (t rest : Source) → NoDash node t (char "]" ∷ rest) → begins_range t ≡ false
  no_range empty t rest h = absurd h
  no_range (atom_then a more) t rest (u, inl (e, is_empty, same)) = by_case (is_at (char "-") t) dash (begins_not t)
    where
      dash : is_at (char "-") t ≡ true → begins_range t ≡ false
      dash f =
          let at_end : char "]" ∷ rest ≡ drop 1 t = sym same ∙ ap (λ (x : ClassAtom × Source). x.1) (hyphen_rest t (a, u) f e) in
          ap (λ (b : Bool). b && not (is_at (char "]") (drop 1 t))) f ∙ ap (λ (w : Source). not (is_at (char "]") w)) (sym at_end)
  no_range (atom_then a more) t rest (u, inr (e, h)) = begins_not t (is_atom t u a e).1
  no_range (range_then a b more) t rest (u, v, e, f, h) = begins_not t (is_atom t (char "-" ∷ u) a e).1
  no_range (intersection left right) t rest h = absurd h
  no_range (subtraction left right) t rest h = absurd h

  pub from_no_dash : (node : ClassContents) (t rest : Source) → NoDash node t (char "]" ∷ rest) → Ranges node t (char "]" ∷ rest)
  from_no_dash empty t rest h = h
  from_no_dash (atom_then a more) t rest (u, inl (e, is_empty, same)) = (u, e, inl (is_empty, same))
  from_no_dash (atom_then a more) t rest (u, inr (e, h)) = (u, (is_atom t u a e).0, inr h)
  from_no_dash (range_then a b more) t rest (u, v, e, f, h) = (u, v, (is_atom t (char "-" ∷ u) a e).0, f, h)
  from_no_dash (intersection left right) t rest h = h
  from_no_dash (subtraction left right) t rest h = h

  pub atom_opens : (t u : Source) (a : ClassAtom) → atom t ≡ Some (a, u) → is_at (char "]") t ≡ false
  atom_opens t u a e =
      by_case (is_at (char "]") t)
      (λ closes. absurd (none-some (a, u) (sym (no_atom (drop 1 t)) ∙ sym (ap atom (front_is (char "]") t closes)) ∙ e))) (λ f. f)

  pub not_closed : (node : ClassContents) (t rest : Source) → Ranges node t rest → is_at (char "]") t ≡ false
  not_closed node t rest h =
      by_case (is_at (char "]") t)
      (λ closes. absurd (none_at_end node (drop 1 t) rest (subst (λ (w : Source). Ranges node w rest) (front_is (char "]") t closes) h))) (λ e. e)

  -- ---- by the first atom

  -- An atom alone and the rest, or a range and the rest, of which the first atom is a.
  abbrev pub Alone : ClassAtom → (u : Source) → ClassContents → (rest : Source) → Type 0
  Alone a u node rest = (more : ClassContents) × (node ≡ atom_then a more) × (begins_range u ≡ false) × Contents more u (char "]" ∷ rest)

  abbrev pub InRange : ClassAtom → (u : Source) → ClassContents → (rest : Source) → Type 0
  InRange a u node rest =
      (v : Source) × (b : ClassAtom) × (w : Source) × (more : ClassContents)
      × (u ≡ char "-" ∷ v) × (node ≡ range_then a b more) × (atom v ≡ Some (b, w)) × Contents more w (char "]" ∷ rest)

  pub by_first : (node : ClassContents) (t u rest : Source) (a : ClassAtom) → atom t ≡ Some (a, u) → Ranges node t (char "]" ∷ rest) →
      Alone a u node rest ⊎ InRange a u node rest
  by_first empty t u rest a e h = absurd h
  by_first (atom_then b more) t u rest a e (w, f, tail) =
      let same : (b, w) ≡ (a, u) = same_Some (b, w) (a, u) (sym f ∙ e) in
      inl (subst (λ (x : ClassAtom × Source). Alone x.0 x.1 (atom_then b more) rest) same (alone tail))
    where
      alone : (more ≡ empty) × (w ≡ char "]" ∷ rest) ⊎ NoDash more w (char "]" ∷ rest) → Alone b w (atom_then b more) rest
      alone (inl (is_empty, at_end)) = (more, refl, end_closes w rest at_end, inl (is_empty, at_end))
      alone (inr k) = (more, refl, no_range more w rest k, inr (from_no_dash more w rest k))
  by_first (range_then b c more) t u rest a e (v, w, f, g, tail) =
      let same : (b, char "-" ∷ v) ≡ (a, u) = same_Some (b, char "-" ∷ v) (a, u) (sym f ∙ e) in
      inr (subst (λ (x : ClassAtom × Source). InRange x.0 x.1 (range_then b c more) rest) same (v, c, w, more, refl, refl, g, tail))
  by_first (intersection left right) t u rest a e h = absurd h
  by_first (subtraction left right) t u rest a e h = absurd h
