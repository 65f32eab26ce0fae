-- Classes without the flag v in the dialect `Ecma`: the CharSet of ECMA-262 has the members of the syntax tree.
use Rattle.std.proofs.Common.{◌≡◌, ℕ, zero, suc, ◌+◌, Bool, true, false, ◌&&◌, nat_le, List, [], ◌∷◌, ◌++◌, length, drop, Option, Some, None, if◌then◌else◌, refl, sym, ap, ap₂, subst, ◌∙◌, append_assoc, append-nil, inl, inr}
use Rattle.std.proofs.lemmas.Bool.{false≢true, and_parts}
use Rattle.std.proofs.lemmas.Option.{none-some, same_Some}
use Rattle.regress_base.specs.Intervals.{Bounds, is_member}
use Rattle.regress_base.specs.Table.{Table}
use Rattle.regress_base.specs.declared.types.Flags.{Flags}
use Rattle.regress_base.proofs.lemmas.Sets.{is_member-nil}
use Rattle.regress_lexer.specs.Escapes.{lead_surrogate, trail_surrogate}
use Rattle.regress_lexer.specs.Source.{Source, Found, ◌>>=◌, found_map, char, is_at}
use Rattle.regress_classes.specs.declared.parameters.Parameters.{Parameters}
use Rattle.regress_classes.specs.ClassProductions.{members_of, closed_members, class_members, point, set, one_point, splits, first_unit, last_unit, units_before, units_after, atom_members, members_with_hyphen, range_of, begins_range, begins_next, range_to, range_end_at, ranges_to, class_parts_by, class_at}
use Rattle.regress_classes.specs.ClassProductions as ClassProductions
use Rattle.regress_ecma.specs.Notation.{CharSet}
use Rattle.regress_ecma.specs.Atoms.{one_character}
use Rattle.regress_ecma.specs.ClassNodes.{ClassAtom, character, class_escape, property, string_property, class_strings, nested_class, ClassContents, empty, atom_then, range_then, CharacterClass}
use Rattle.regress_ecma.specs.CharSets.{Elements, only, character_of, range_or_union, atom_to_char_set, compile_to_char_set}
use Rattle.regress_ecma.specs.ClassGrammar.{is_pair, lead, trail, class_atom_at, is_split, first_of, last_of, with_before, with_after, with_atom, with_range, with_ranges, range_at, class_part_at, class_ranges_by, character_class_at}
use Rattle.regress_ecma.specs.Differences.{HasCaseDataOfUnicode}
use Rattle.regress_ecma.proofs.Follows.{Follows, follows_none, follows_some, follows_if, follows_then, follows_map}
use Rattle.regress_ecma.proofs.ClassAtoms.{IsAtomOf, HasRelatedSets, atom_follows, with_hyphen, first_none, last_none}
use Rattle.regress_ecma.proofs.ClassMembers.{no_folding}
use Rattle.regress_ecma.proofs.EcmaEscapes.{in_ecma, and_false, related}
use Rattle.regress_ecma.proofs.SameSets.{IsSame, same_lists, same_then, same_append, in_left, in_right, only_one, one_is, ends_within, absorbed}

found_if : (b : Bool) (x y : List Bounds) → (if b then Some x else None) ≡ Some y → (b ≡ true) × (x ≡ y)
found_if true x y e = (refl, same_Some x y e)
found_if false x y e = absurd (none-some y e)

found_unless : (b : Bool) (x y : List Bounds) → (if b then None else Some x) ≡ Some y → x ≡ y
found_unless true x y e = absurd (none-some y e)
found_unless false x y e = same_Some x y e

four_parts : (x y z w : List Bounds) → (x ++ (y ++ z)) ++ w ≡ x ++ (y ++ (z ++ w))
four_parts x y z w = append_assoc x (y ++ z) w ∙ ap (λ (l : List Bounds). x ++ l) (append_assoc y z w)

module _ (table : Table) (maps : HasCaseDataOfUnicode table) (rer : Flags) (with_u : rer.unicode_sets ≡ true → rer.unicode ≡ true)
    (no_fold : (rer.unicode_sets && rer.icase) ≡ false) (named : Bool) where
  abbrev parameters : Parameters
  parameters = in_ecma rer named

  own_sets : HasRelatedSets table rer parameters IsSame
  own_sets = related table maps rer with_u no_fold named

  -- ---- atoms

  abbrev Is : ClassAtom → ClassProductions.ClassAtom → Type 0
  Is = IsAtomOf table rer IsSame

  abbrev set_of : ClassAtom → CharSet
  set_of node = (atom_to_char_set table rer node).characters

  abbrev set_of_contents : ClassContents → CharSet
  set_of_contents contents = (compile_to_char_set table rer contents).characters

  -- the members of an atom that is not split
  abbrev single_of : ClassProductions.ClassAtom → List Bounds
  single_of (point c) = one_point c
  single_of (set members) = members

  -- the first and the last code unit of an atom, and those before and after
  abbrev first_atom : ClassProductions.ClassAtom → ClassProductions.ClassAtom
  first_atom (point c) = point (first_unit (splits parameters) c)
  first_atom (set members) = set members

  abbrev last_atom : ClassProductions.ClassAtom → ClassProductions.ClassAtom
  last_atom (point c) = point (last_unit (splits parameters) c)
  last_atom (set members) = set members

  abbrev before : ClassProductions.ClassAtom → List Bounds
  before (point c) = units_before (splits parameters) c
  before (set members) = []

  abbrev after : ClassProductions.ClassAtom → List Bounds
  after (point c) = units_after (splits parameters) c
  after (set members) = []

  point_same : (c : ℕ) → IsSame (set_of (character c)) (one_point c)
  point_same c = same_lists _ _ (ap (λ (a : Elements). a.characters) (no_folding table maps rer with_u no_fold (only (one_character c))))

  single_is : (node : ClassAtom) (a : ClassProductions.ClassAtom) → Is node a → IsSame (set_of node) (single_of a)
  single_is node (point c) is = subst (λ (n : ClassAtom). IsSame (set_of n) (one_point c)) (sym is) (point_same c)
  single_is node (set members) is = is.1

  no_pair : (node : ClassAtom) → character_of node ≡ None → is_pair node ≡ false
  no_pair (character c) e = absurd (cc)
  no_pair (class_escape kind capital) e = refl
  no_pair (property members capital) e = refl
  no_pair (string_property members) e = refl
  no_pair (class_strings strings) e = refl
  no_pair (nested_class invert contents) e = refl

  pair_is : (node : ClassAtom) (a : ClassProductions.ClassAtom) → Is node a → is_pair node ≡ ClassProductions.is_pair a
  pair_is node (point c) is = ap is_pair is
  pair_is node (set members) is = no_pair node is.0

  no_split : (node : ClassAtom) (members : CharSet) → Is node (set members) → is_split table parameters node ≡ false
  no_split node members is = ap (λ (b : Bool). splits parameters && b) (no_pair node is.0) ∙ and_false (splits parameters)

  -- whether a code point is two code units
  abbrev is_two : ℕ → Bool
  is_two c = splits parameters && nat_le 0x10000 c

  first_is : (node : ClassAtom) (a : ClassProductions.ClassAtom) → Is node a → Is (first_of table parameters node) (first_atom a)
  first_is node (point c) is = ap (first_of table parameters) is ∙ by_test (is_two c)
    where
      by_test : (b : Bool) → (if b then lead (character c) else character c) ≡ character (if b then lead_surrogate c else c)
      by_test true = refl
      by_test false = refl
  first_is node (set members) is =
      subst (λ (n : ClassAtom). Is n (set members)) (sym (ap (λ (b : Bool). if b then lead node else node) (no_split node members is))) is

  last_is : (node : ClassAtom) (a : ClassProductions.ClassAtom) → Is node a → Is (last_of table parameters node) (last_atom a)
  last_is node (point c) is = ap (last_of table parameters) is ∙ by_test (is_two c)
    where
      by_test : (b : Bool) → (if b then trail (character c) else character c) ≡ character (if b then trail_surrogate c else c)
      by_test true = refl
      by_test false = refl
  last_is node (set members) is =
      subst (λ (n : ClassAtom). Is n (set members)) (sym (ap (λ (b : Bool). if b then trail node else node) (no_split node members is))) is

  -- ---- contents

  abbrev IsContents : ClassContents → List Bounds → Type 0
  IsContents contents members = IsSame (set_of_contents contents) members

  before_is : (node : ClassAtom) (a : ClassProductions.ClassAtom) → Is node a → (contents : ClassContents) (others : List Bounds) →
      IsContents contents others → IsContents (with_before table parameters node contents) (before a ++ others)
  before_is node (point c) is contents others h =
      subst (λ (n : ClassAtom). IsContents (with_before table parameters n contents) (units_before (splits parameters) c ++ others)) (sym is)
      (by_test (is_two c))
    where
      by_test : (b : Bool) →
          IsContents (if b then atom_then (lead (character c)) contents else contents) ((if b then one_point (lead_surrogate c) else []) ++ others)
      by_test true = same_append _ _ (one_point (lead_surrogate c)) others (point_same (lead_surrogate c)) h
      by_test false = h
  before_is node (set members) is contents others h =
      subst (λ (n : ClassContents). IsContents n others)
      (sym (ap (λ (b : Bool). if b then atom_then (lead node) contents else contents) (no_split node members is))) h

  after_is : (node : ClassAtom) (a : ClassProductions.ClassAtom) → Is node a → (contents : ClassContents) (others : List Bounds) →
      IsContents contents others → IsContents (with_after table parameters node contents) (after a ++ others)
  after_is node (point c) is contents others h =
      subst (λ (n : ClassAtom). IsContents (with_after table parameters n contents) (units_after (splits parameters) c ++ others)) (sym is)
      (by_test (is_two c))
    where
      by_test : (b : Bool) →
          IsContents (if b then atom_then (trail (character c)) contents else contents) ((if b then one_point (trail_surrogate c) else []) ++ others)
      by_test true = same_append _ _ (one_point (trail_surrogate c)) others (point_same (trail_surrogate c)) h
      by_test false = h
  after_is node (set members) is contents others h =
      subst (λ (n : ClassContents). IsContents n others)
      (sym (ap (λ (b : Bool). if b then atom_then (trail node) contents else contents) (no_split node members is))) h

  -- ---- ranges

  -- the members of two atoms that are not split, with a hyphen between them
  abbrev range_members : ClassProductions.ClassAtom → ClassProductions.ClassAtom → List Bounds
  range_members (point a) (point b) = record { first = a; last = b } ∷ []
  range_members (point a) (set others) = one_point a ++ (one_point (char "-") ++ others)
  range_members (set members) (point b) = members ++ (one_point (char "-") ++ one_point b)
  range_members (set members) (set others) = members ++ (one_point (char "-") ++ others)

  abbrev between : ClassAtom → ClassAtom → Elements
  between first last =
      range_or_union (atom_to_char_set table rer first) (atom_to_char_set table rer last) (character_of first) (character_of last)

  hyphen_same : (first last : ClassAtom) (a b : ClassProductions.ClassAtom) → Is first a → Is last b →
      between first last ≡ with_hyphen (atom_to_char_set table rer first) (atom_to_char_set table rer last) →
      IsSame (between first last).characters (single_of a ++ (one_point (char "-") ++ single_of b))
  hyphen_same first last a b is_first is_last hyphen =
      same_then _ _ _ (same_lists _ _ (ap (λ (e : Elements). e.characters) hyphen))
      (same_append (set_of first) (one_point (char "-") ++ set_of last) (single_of a) (one_point (char "-") ++ single_of b) (single_is first a is_first)
      (same_append (one_point (char "-")) (set_of last) (one_point (char "-")) (single_of b) (same_lists _ _ refl) (single_is last b is_last)))

  between_same : (first last : ClassAtom) (a b : ClassProductions.ClassAtom) → Is first a → Is last b →
      IsSame (between first last).characters (range_members a b)
  between_same first last (point a) (point b) is_first is_last =
      same_lists _ _
      (ap₂ (λ (o p : Option ℕ). (range_or_union (atom_to_char_set table rer first) (atom_to_char_set table rer last) o p).characters)
      (ap character_of is_first) (ap character_of is_last))
  between_same first last (point a) (set others) is_first is_last =
      hyphen_same first last (point a) (set others) is_first is_last
      (last_none (atom_to_char_set table rer first) (atom_to_char_set table rer last) (character_of first) (character_of last) is_last.0)
  between_same first last (set members) (point b) is_first is_last =
      hyphen_same first last (set members) (point b) is_first is_last
      (first_none (atom_to_char_set table rer first) (atom_to_char_set table rer last) (character_of first) (character_of last) is_first.0)
  between_same first last (set members) (set others) is_first is_last =
      hyphen_same first last (set members) (set others) is_first is_last
      (first_none (atom_to_char_set table rer first) (atom_to_char_set table rer last) (character_of first) (character_of last) is_first.0)

  range_is : (first last : ClassAtom) (a b : ClassProductions.ClassAtom) → Is first a → Is last b → (contents : ClassContents) (others : List Bounds) →
      IsContents contents others → IsContents (range_then first last contents) (range_members a b ++ others)
  range_is first last a b is_first is_last contents others h =
      same_append _ (set_of_contents contents) (range_members a b) others
      (same_then _ _ _ (same_lists _ _ (ap (λ (e : Elements). e.characters) (no_folding table maps rer with_u no_fold (between first last))))
      (between_same first last a b is_first is_last))
      h

  -- the same by code units, where an atom may be split
  units_are : (first last : ClassAtom) (a b : ClassProductions.ClassAtom) → Is first a → Is last b → (contents : ClassContents) (others : List Bounds) →
      IsContents contents others →
      IsContents (range_then (last_of table parameters first) (first_of table parameters last) contents) (range_members (last_atom a) (first_atom b) ++ others)
  units_are first last a b is_first is_last contents others h =
      range_is (last_of table parameters first) (first_of table parameters last) (last_atom a) (first_atom b)
      (last_is first a is_first) (first_is last b is_last) contents others h

  -- the members of a range, by code units
  abbrev range_list : (a b : ClassProductions.ClassAtom) → List Bounds
  range_list a b = before a ++ (range_members (last_atom a) (first_atom b) ++ after b)

  abbrev range_found : (a b : ClassProductions.ClassAtom) → Option (List Bounds)
  range_found a b = range_of (splits parameters) parameters.unicode a b

  units_same : (b : ℕ) → units_before (splits parameters) b ++ one_point (last_unit (splits parameters) b)
      ≡ one_point (first_unit (splits parameters) b) ++ units_after (splits parameters) b
  units_same b = by_test (is_two b)
    where
      by_test : (two : Bool) →
          (if two then one_point (lead_surrogate b) else []) ++ one_point (if two then trail_surrogate b else b)
          ≡ one_point (if two then lead_surrogate b else b) ++ (if two then one_point (trail_surrogate b) else [])
      by_test true = refl
      by_test false = refl

  range_list_is : (a b : ClassProductions.ClassAtom) (members : List Bounds) → range_found a b ≡ Some members → members ≡ range_list a b
  range_list_is (point a) (point b) members e =
      sym (found_if (nat_le (last_unit (splits parameters) a) (first_unit (splits parameters) b)) _ members e).1
  range_list_is (point a) (set others) members e =
      sym (found_unless parameters.unicode _ members e)
      ∙ append_assoc (atom_members (splits parameters) (point a)) (one_point (char "-")) others
      ∙ append_assoc (units_before (splits parameters) a) (one_point (last_unit (splits parameters) a)) (one_point (char "-") ++ others)
      ∙ ap (λ (l : List Bounds). units_before (splits parameters) a ++ l)
      (sym (append-nil (one_point (last_unit (splits parameters) a) ++ (one_point (char "-") ++ others))))
  range_list_is (set members) (point b) found e =
      sym (found_unless parameters.unicode _ found e)
      ∙ append_assoc members (one_point (char "-")) (atom_members (splits parameters) (point b))
      ∙ ap (λ (l : List Bounds). members ++ (one_point (char "-") ++ l)) (units_same b)
      ∙ sym (append_assoc members (one_point (char "-") ++ one_point (first_unit (splits parameters) b)) (units_after (splits parameters) b))
  range_list_is (set members) (set others) found e =
      sym (found_unless parameters.unicode _ found e) ∙ append_assoc members (one_point (char "-")) others
      ∙ sym (append-nil (members ++ (one_point (char "-") ++ others)))

  -- ---- parts

  abbrev IsPart : (ClassContents → ClassContents) → List Bounds → Type 0
  IsPart with_part members =
      (contents : ClassContents) (others : List Bounds) → IsContents contents others → IsContents (with_part contents) (members ++ others)

  atom_part : (node : ClassAtom) (a : ClassProductions.ClassAtom) → Is node a → IsPart (with_atom table parameters node) (atom_members (splits parameters) a)
  atom_part node a is contents others h =
      subst (IsContents (with_atom table parameters node contents)) (by a)
      (before_is node a is (atom_then (last_of table parameters node) contents) (single_of (last_atom a) ++ others)
      (same_append _ _ (single_of (last_atom a)) others (single_is (last_of table parameters node) (last_atom a) (last_is node a is)) h))
    where
      by : (a : ClassProductions.ClassAtom) → before a ++ (single_of (last_atom a) ++ others) ≡ atom_members (splits parameters) a ++ others
      by (point c) = sym (append_assoc (units_before (splits parameters) c) (one_point (last_unit (splits parameters) c)) others)
      by (set members) = refl

  range_part : (first last : ClassAtom) (a b : ClassProductions.ClassAtom) → Is first a → Is last b → (members : List Bounds) →
      range_found a b ≡ Some members → IsPart (with_range table parameters first last) members
  range_part first last a b is_first is_last members e contents others h =
      subst (IsContents (with_range table parameters first last contents))
      (sym
      (ap (λ (l : List Bounds). l ++ others) (range_list_is a b members e)
      ∙ four_parts (before a) (range_members (last_atom a) (first_atom b)) (after b) others))
      (before_is first a is_first _ _
      (units_are first last a b is_first is_last (with_after table parameters last contents) _ (after_is last b is_last contents others h)))

  before_first : (b c : ℕ) → is_member (units_before (splits parameters) b) c ≡ true → c ≡ first_unit (splits parameters) b
  before_first b c = by_test (is_two b)
    where
      by_test : (two : Bool) → is_member (if two then one_point (lead_surrogate b) else []) c ≡ true → c ≡ (if two then lead_surrogate b else b)
      by_test true h = only_one (lead_surrogate b) c h
      by_test false h = absurd (false≢true (sym (is_member-nil c) ∙ h))

  after_last : (b c : ℕ) → is_member (units_after (splits parameters) b) c ≡ true → c ≡ last_unit (splits parameters) b
  after_last b c = by_test (is_two b)
    where
      by_test : (two : Bool) → is_member (if two then one_point (trail_surrogate b) else []) c ≡ true → c ≡ (if two then trail_surrogate b else b)
      by_test true h = only_one (trail_surrogate b) c h
      by_test false h = absurd (false≢true (sym (is_member-nil c) ∙ h))

  -- The first code unit of a second end is in the range, and the last one of a first end.
  has_end : (a : ClassProductions.ClassAtom) (b : ℕ) (members : List Bounds) → range_found a (point b) ≡ Some members → (c : ℕ) →
      is_member (units_before (splits parameters) b) c ≡ true → is_member (range_members (last_atom a) (point (first_unit (splits parameters) b))) c ≡ true
  has_end (point a) b members e c h =
      ends_within (last_unit (splits parameters) a) (first_unit (splits parameters) b) c
      (found_if (nat_le (last_unit (splits parameters) a) (first_unit (splits parameters) b)) _ members e).0 (inr (before_first b c h))
  has_end (set members) b found e c h =
      in_right members (one_point (char "-") ++ one_point (first_unit (splits parameters) b)) c
      (in_right (one_point (char "-")) (one_point (first_unit (splits parameters) b)) c (one_is (first_unit (splits parameters) b) c (before_first b c h)))

  has_start : (b : ℕ) (n : ClassProductions.ClassAtom) (members : List Bounds) → range_found (point b) n ≡ Some members → (c : ℕ) →
      is_member (units_after (splits parameters) b) c ≡ true → is_member (range_members (point (last_unit (splits parameters) b)) (first_atom n)) c ≡ true
  has_start b (point n) members e c h =
      ends_within (last_unit (splits parameters) b) (first_unit (splits parameters) n) c
      (found_if (nat_le (last_unit (splits parameters) b) (first_unit (splits parameters) n)) _ members e).0 (inl (after_last b c h))
  has_start b (set others) members e c h =
      in_left (one_point (last_unit (splits parameters) b)) (one_point (char "-") ++ others) c (one_is (last_unit (splits parameters) b) c (after_last b c h))

  ranges_part : (first last next : ClassAtom) (a : ClassProductions.ClassAtom) (b : ℕ) (n : ClassProductions.ClassAtom) →
      Is first a → Is last (point b) → Is next n →
      (members more : List Bounds) → range_found a (point b) ≡ Some members → range_found (point b) n ≡ Some more →
      IsPart (with_ranges table parameters first last next) (members ++ more)
  ranges_part first last next a b n is_first is_last is_next members more e f contents others h =
      subst (IsContents (with_ranges table parameters first last next contents))
      (sym (ap₂ (λ (k l : List Bounds). (k ++ l) ++ others) (range_list_is a (point b) members e) (range_list_is (point b) n more f)))
      (same_then _ _ _
      (before_is first a is_first _ _
      (units_are first last a (point b) is_first is_last
      (range_then (last_of table parameters last) (first_of table parameters next) (with_after table parameters next contents)) _
      (units_are last next (point b) n is_last is_next (with_after table parameters next contents) _ (after_is next n is_next contents others h))))
      (absorbed (before a) (range_members (last_atom a) (first_atom (point b))) (after (point b)) (before (point b))
      (range_members (last_atom (point b)) (first_atom n)) (after n) others (has_start b n more f) (has_end a b members e)))

  -- ---- what is found

  range_follows : (first last : ClassAtom) (a b : ClassProductions.ClassAtom) (t : Source) → Is first a → Is last b →
      Follows IsPart (range_to table parameters a (b, t)) (Some (with_range table parameters first last, t))
  range_follows first last a b t is_first is_last = by (range_found a b) refl
    where
      by : (found : Option (List Bounds)) → range_found a b ≡ found →
          Follows IsPart (elim found as (λ _. Found (List Bounds)) [ None ↦ None | Some members ↦ Some (members, t) ])
          (Some (with_range table parameters first last, t))
      by None e = follows_none IsPart _
      by (Some members) e = follows_some IsPart (with_range table parameters first last) members t (range_part first last a b is_first is_last members e)

  abbrev added : List Bounds → List Bounds × Source → Found (List Bounds)
  added members (others, t) = Some (members ++ others, t)

  next_follows : (first last : ClassAtom) (a : ClassProductions.ClassAtom) (b : ℕ) (members : List Bounds) → Is first a → Is last (point b) →
      range_found a (point b) ≡ Some members → (found : Found ClassProductions.ClassAtom) (mine : Found ClassAtom) → Follows Is found mine →
      Follows IsPart ((found >>= range_to table parameters (point b)) >>= added members)
      (found_map (λ next contents. with_ranges table parameters first last next contents) mine)
  next_follows first last a b members is_first is_last e None mine h = follows_none IsPart _
  next_follows first last a b members is_first is_last e (Some (n, t)) mine h =
      let found = h.each n t refl in
      subst
      (λ (o : Found ClassAtom). Follows IsPart (range_to table parameters (point b) (n, t) >>= added members)
      (found_map (λ next contents. with_ranges table parameters first last next contents) o))
      (sym found.found) (by found.value found.related (range_found (point b) n) refl)
    where
      by : (next : ClassAtom) → Is next n → (o : Option (List Bounds)) → range_found (point b) n ≡ o →
          Follows IsPart ((elim o as (λ _. Found (List Bounds)) [ None ↦ None | Some more ↦ Some (more, t) ]) >>= added members)
          (Some (with_ranges table parameters first last next, t))
      by next is_next None f = follows_none IsPart _
      by next is_next (Some more) f =
          follows_some IsPart (with_ranges table parameters first last next) (members ++ more) t
          (ranges_part first last next a b n is_first is_last is_next members more e f)

  ranges_follow : (first last : ClassAtom) (a : ClassProductions.ClassAtom) (b : ℕ) (t : Source) → Is first a → Is last (point b) →
      Follows IsPart (ranges_to table parameters a (point b, t))
      (found_map (λ next contents. with_ranges table parameters first last next contents) (class_atom_at table parameters (drop 1 t)))
  ranges_follow first last a b t is_first is_last = by (range_found a (point b)) refl
    where
      by : (found : Option (List Bounds)) → range_found a (point b) ≡ found →
          Follows IsPart
          ((elim found as (λ _. Found (List Bounds)) [ None ↦ None | Some members ↦ Some (members, drop 1 t) ])
          >>= λ (members, after). (range_end_at table parameters (point b) after >>= λ (others, rest). Some (members ++ others, rest)))
          (found_map (λ next contents. with_ranges table parameters first last next contents) (class_atom_at table parameters (drop 1 t)))
      by None e = follows_none IsPart _
      by (Some members) e = next_follows first last a b members is_first is_last e _ _ (atom_follows table rer parameters IsSame own_sets (drop 1 t))

  range_at_follows : (first : ClassAtom) (a : ClassProductions.ClassAtom) (t : Source) → Is first a →
      Follows IsPart (ClassProductions.range_at table parameters a t) (range_at table parameters first t)
  range_at_follows first a t is_first =
      follows_then Is IsPart _ _ _ _ (atom_follows table rer parameters IsSame own_sets t)
      (λ b last rest is_last.
      subst
      (λ (p : Bool). Follows IsPart
      (if begins_next parameters b rest then ranges_to table parameters a (b, rest) else range_to table parameters a (b, rest))
      (if (splits parameters && p) && begins_range rest
      then found_map (λ next contents. with_ranges table parameters first last next contents) (class_atom_at table parameters (drop 1 rest))
      else Some (with_range table parameters first last, rest)))
      (sym (pair_is last b is_last))
      (follows_if IsPart (begins_next parameters b rest) _ _ _ _ (by last b rest is_last) (λ _. range_follows first last a b rest is_first is_last)))
    where
      by : (last : ClassAtom) (b : ClassProductions.ClassAtom) (rest : Source) → Is last b → begins_next parameters b rest ≡ true →
          Follows IsPart (ranges_to table parameters a (b, rest))
          (found_map (λ next contents. with_ranges table parameters first last next contents) (class_atom_at table parameters (drop 1 rest)))
      by last (point b) rest is_last e = ranges_follow first last a b rest is_first is_last
      by last (set members) rest is_last e =
          absurd (false≢true (and_parts (splits parameters) false (and_parts (splits parameters && false) (begins_range rest) e).0).1)

  part_follows : (t : Source) → Follows IsPart (ClassProductions.class_part_at table parameters t) (class_part_at table parameters t)
  part_follows t =
      follows_then Is IsPart _ _ _ _ (atom_follows table rer parameters IsSame own_sets t)
      (λ a first rest is_first.
      follows_if IsPart (begins_range rest) _ _ _ _ (λ _. range_at_follows first a (drop 1 rest) is_first)
      (λ _. follows_some IsPart (with_atom table parameters first) (atom_members (splits parameters) a) rest (atom_part first a is_first)))

  parts_follow : (n : ℕ) (t : Source) → Follows IsContents (class_parts_by table parameters n t) (class_ranges_by table parameters n t)
  unfolding class_parts_by class_ranges_by
  parts_follow zero t = follows_none IsContents None
  parts_follow (suc n) t =
      follows_if IsContents (is_at (char "]") t) _ _ _ _ (λ _. follows_some IsContents empty [] (drop 1 t) (same_lists [] [] refl))
      (λ _.
      follows_then IsPart IsContents _ _ _ _ (part_follows t)
      (λ members with_part rest is_part.
      follows_map IsContents IsContents (λ others. members ++ others) with_part _ _ (parts_follow n rest)
      (λ others contents is. is_part contents others is)))

  -- the class
  pub record IsClass (node : CharacterClass) (read : Bool × List Bounds) : Type 0 where
    pub invert : node.invert ≡ read.0
    pub contents : IsContents node.contents read.1

  pub class_follows : (t : Source) → Follows IsClass (class_at table parameters t) (character_class_at table parameters false t)
  unfolding class_at character_class_at
  class_follows t =
      let inside : Source = if is_at (char "^") t then drop 1 t else t in
      follows_map IsContents IsClass (λ members. (is_at (char "^") t, members)) (λ contents. record { invert = is_at (char "^") t; contents = contents })
      _ _ (parts_follow (length inside + 1) inside)
      (λ members contents is. record { invert = refl; contents = is })
