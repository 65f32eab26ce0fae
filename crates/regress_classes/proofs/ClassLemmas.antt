-- The contents of a class without the flag v, part by part.
use Rattle.std.proofs.Common.{◌≡◌, ℕ, ◌+◌, ◌≤◌, ◌==◌, Bool, true, false, cond, not, ◌&&◌, ◌||◌, Option, Result, Ok, Err, List, [], ◌∷◌, ◌++◌, length, drop, Some, None, refl, sym, ap, ap₂, ◌∙◌, append_assoc, append-nil, arith}
use Rattle.std.proofs.lemmas.Bool.{cond-true, cond-false, and_parts, le-leb}
use Rattle.std.proofs.lemmas.Bool.Decides.{nat_tests}
use Rattle.std.specs.Prelude.{nat_le}
use Rattle.regress_base.specs.Intervals.{Bounds, is_within, is_member, IsCanonical, IsComplement}
use Rattle.regress_base.proofs.lemmas.Sets.{or_assoc, is_member-nil, is_member-one, is_member-append}
use Rattle.regress_base.specs.Table.{Table}
use Rattle.regress_lexer.specs.Escapes.{lead_surrogate, trail_surrogate}
use Rattle.regress_lexer.specs.Reads.{ParsesAs}
use Rattle.regress_lexer.specs.Source.{Source, Found, ◌>>=◌, is_at}
use Rattle.regress_lexer.specs.declared.fault.Fault.{Fault}
use Rattle.regress_lexer.proofs.lemmas.Sources.{on_rejected_then}
use Rattle.regress_classes.specs.declared.parameters.Parameters.{Parameters}
use Rattle.regress_classes.specs.ClassProductions.{ClassAtom, point, is_pair, splits, one_point, range_of, atom_members, class_atom_at, complement, begins_range, begins_next, range_to, range_end_at, ranges_to, range_at, class_part_at, class_parts_by, class_at}
use Rattle.regress_classes.specs.ClassViews.{HasMembers, Adds}
use Rattle.regress_classes.proofs.lemmas.Values.{complement_is}
use Rattle.regress_classes.proofs.lemmas.Pieces.{more_parts, parts_closed, parts_go_on}

-- ---- what is added

pub adds_one : (iv : Bounds) (old new : List Bounds) → ((c : ℕ) → is_member new c ≡ (is_member old c || is_within iv c)) →
    Adds (iv ∷ []) old new
adds_one iv old new e c = e c ∙ ap (λ b. is_member old c || b) (sym (is_member-one iv c))

pub adds_complement : (members others old new : List Bounds) → IsComplement members others → IsCanonical others → Adds others old new →
    Adds (complement members) old new
adds_complement members others old new is_complement canonical adds c =
    adds c ∙ ap (λ (l : List Bounds). is_member old c || is_member l c) (complement_is members members others (λ c. refl) is_complement canonical)

pub adds_both : (xs ys old between new : List Bounds) → Adds xs old between → Adds ys between new → Adds (xs ++ ys) old new
adds_both xs ys old between new first second c =
    second c ∙ ap (λ b. b || is_member ys c) (first c) ∙ sym (or_assoc (is_member old c) (is_member xs c) (is_member ys c))
    ∙ ap (λ b. is_member old c || b) (sym (is_member-append xs ys c))

more_parts-more : (xs ys : List Bounds) (found : Found (List Bounds)) → more_parts xs (more_parts ys found) ≡ more_parts (xs ++ ys) found
more_parts-more xs ys None = refl
more_parts-more xs ys (Some x) = ap (λ (l : List Bounds). Some (l, x.1)) (sym (append_assoc xs ys x.0))

pub no_front : (k : ℕ) (t : Source) → length t ≡ 0 → is_at k t ≡ false
no_front k [] e = refl
no_front k (c ∷ t) e = absurd (omega arith)

no : (b : Bool) → not b ≡ true → b ≡ false
no true e = sym e
no false e = refl

-- Adding nothing changes nothing.
pub adds_none : (old : List Bounds) → Adds [] old old
adds_none old c = or_false (is_member old c) ∙ ap (λ b. is_member old c || b) (sym (is_member-nil c))
  where
    or_false : (b : Bool) → b ≡ (b || false)
    or_false true = refl
    or_false false = refl

module _ (table : Table) (parameters : Parameters) where
  -- what a part is, from its first atom on
  abbrev part_from : Found ClassAtom → Found (List Bounds)
  part_from found =
      found >>= λ (x : ClassAtom × Source).
      cond (begins_range x.1) (range_at table parameters x.0 (drop 1 x.1)) (Some (atom_members (splits parameters) x.0, x.1))

  -- An atom that starts no range is a part.
  pub alone_read : (t rest : Source) (atom : ClassAtom) → class_atom_at table parameters t ≡ Some (atom, rest) →
      begins_range rest ≡ false → class_part_at table parameters t ≡ Some (atom_members (splits parameters) atom, rest)
  alone_read t rest atom found alone = ap part_from found ∙ cond-false _ _ _ alone

  -- ---- ranges

  -- what a range is, from its last atom on
  abbrev range_from : ClassAtom → Found ClassAtom → Found (List Bounds)
  range_from first found =
      found >>= λ (x : ClassAtom × Source).
      cond (begins_next parameters x.0 x.1) (ranges_to table parameters first x) (range_to table parameters first x)

  -- the members, and what remains
  abbrev made : Source → Option (List Bounds) → Found (List Bounds)
  made t members = elim members as (λ _. Found (List Bounds)) [ None ↦ None | Some members ↦ Some (members, t) ]

  abbrev members_of_range : ClassAtom → ClassAtom → Option (List Bounds)
  members_of_range = range_of (splits parameters) parameters.unicode

  range_read : (first last : ClassAtom) (t rest : Source) (o : Option (List Bounds)) → class_atom_at table parameters t ≡ Some (last, rest) →
      begins_next parameters last rest ≡ false → members_of_range first last ≡ o → range_at table parameters first t ≡ made rest o
  range_read first last t rest o found ends is = ap (range_from first) found ∙ cond-false _ _ _ ends ∙ ap (made rest) is

  abbrev then_more : Source → Option (List Bounds) → (Source → Found (List Bounds)) → Found (List Bounds)
  then_more t members others = made (drop 1 t) members >>= λ (x : List Bounds × Source). more_parts x.0 (others x.1)

  ranges_read : (first last : ClassAtom) (t rest : Source) (o : Option (List Bounds)) → class_atom_at table parameters t ≡ Some (last, rest) →
      begins_next parameters last rest ≡ true → members_of_range first last ≡ o →
      range_at table parameters first t ≡ then_more rest o (range_end_at table parameters last)
  ranges_read first last t rest o found goes_on is =
      ap (range_from first) found ∙ cond-true _ _ _ goes_on
      ∙ ap (λ (members : Option (List Bounds)). then_more rest members (range_end_at table parameters last)) is

  -- The last atom of a range and what follows it, if that begins another one.
  pub ranges_parsed : (first last : ClassAtom) (t rest after : Source) (old between new members : List Bounds) (result : Result Unit Fault) →
      class_atom_at table parameters t ≡ Some (last, rest) → begins_next parameters last rest ≡ true →
      members_of_range first last ≡ Some members → Adds members old between →
      ParsesAs (λ _ others. Adds others between new) after result (range_end_at table parameters last (drop 1 rest)) →
      ParsesAs (λ _ all. Adds all old new) after result (range_at table parameters first t)
  ranges_parsed first last t rest after old between new members (Ok done) found goes_on is adds parsed = (
    members ++ parsed.0,
    ranges_read first last t rest (Some members) found goes_on is ∙ ap (more_parts members) parsed.1,
    adds_both members parsed.0 old between new adds parsed.2,
  )
  ranges_parsed first last t rest after old between new members (Err fault) found goes_on is adds parsed =
      on_rejected_then fault (λ none. ranges_read first last t rest (Some members) found goes_on is ∙ ap (more_parts members) none) parsed

  -- ---- literal code points

  abbrev is_split : ℕ → Bool
  is_split c = splits parameters && is_pair (point c)

  -- The range ends at one code unit, so it begins at one.
  first_whole : (a b : ℕ) → a ≤ b → is_split b ≡ false → is_split a ≡ false
  first_whole a b le whole = by (splits parameters) whole
    where
      by : (split : Bool) → (split && nat_le 0x10000 b) ≡ false → (split && nat_le 0x10000 a) ≡ false
      by false e = refl
      by true e = grind (arith, nat_tests, e, le)

  literal_parsed : (s t : Source) (c : ℕ) → s ≡ c ∷ t → (not (c == 93) && not (c == 92)) ≡ true → class_atom_at table parameters s ≡ Some (point c, t)
  literal_parsed s t c front plain =
      let parts = and_parts (not (c == 93)) (not (c == 92)) plain in
      ap (class_atom_at table parameters) front ∙ cond-false _ _ _ (no (c == 93) parts.0) ∙ cond-false _ _ _ (no (c == 92) parts.1)

  -- the members of a code point, given whether it is two code units
  abbrev units_if : Bool → ℕ → List Bounds
  units_if split c = cond split (one_point (lead_surrogate c)) [] ++ one_point (cond split (trail_surrogate c) c)

  abbrev between_if : Bool → Bool → ℕ → ℕ → Option (List Bounds)
  between_if split split' a b =
      cond (nat_le (cond split (trail_surrogate a) a) (cond split' (lead_surrogate b) b))
      (Some
      (cond split (one_point (lead_surrogate a)) [] ++ record { first = cond split (trail_surrogate a) a; last = cond split' (lead_surrogate b) b }
      ∷ cond split' (one_point (trail_surrogate b)) []))
      None

  pub plain_point_read : (s t : Source) (c : ℕ) → s ≡ c ∷ t → (not (c == 93) && not (c == 92)) ≡ true → is_split c ≡ false →
      is_at 45 t ≡ false → class_part_at table parameters s ≡ Some (record { first = c; last = c } ∷ [], t)
  plain_point_read s t c front plain whole alone =
      alone_read s t (point c) (literal_parsed s t c front plain) (ap (λ b. b && not (is_at 93 (drop 1 t))) alone)
      ∙ ap (λ split. Some (units_if split c, t)) whole

  pub plain_range_read : (s t u v : Source) (a b : ℕ) → s ≡ a ∷ t → t ≡ 45 ∷ u → u ≡ b ∷ v → (not (a == 93) && not (a == 92)) ≡ true →
      (not (b == 93) && not (b == 92)) ≡ true → is_split b ≡ false → a ≤ b →
      class_part_at table parameters s ≡ Some (record { first = a; last = b } ∷ [], v)
  plain_range_read s t u v a b front hyphen after plain plain' whole le =
      ap part_from (literal_parsed s t a front plain)
      ∙ cond-true _ _ _ (ap begins_range (hyphen ∙ ap (λ (r : Source). 45 ∷ r) after) ∙ (and_parts (not (b == 93)) (not (b == 92)) plain').0)
      ∙ ap (λ (r : Source). range_at table parameters (point a) (drop 1 r)) hyphen
      ∙ range_read (point a) (point b) u v _ (literal_parsed u v b after plain') (ap (λ split. split && begins_range v) whole)
      (ap₂ (λ split split'. between_if split split' a b) (first_whole a b le whole) whole ∙ cond-true (nat_le a b) _ _ (le-leb a b le))

  -- ---- the parts so far

  -- From `t`, the parts were parsed up to `rest`, and the set has their members.
  pub record ReadUpTo (t rest : Source) (set : List Bounds) : Type 0 where
    pub members : List Bounds
    pub whole : class_parts_by table parameters (length t + 1) t ≡ more_parts members (class_parts_by table parameters (length rest + 1) rest)
    pub held : (c : ℕ) → is_member set c ≡ is_member members c

  pub one_more_read : (t rest after : Source) (set new members : List Bounds) → ReadUpTo t rest set →
      is_at 93 rest ≡ false → class_part_at table parameters rest ≡ Some (members, after) → Adds members set new → ReadUpTo t after new
  one_more_read t rest after set new members so_far goes_on found adds = record {
    members = so_far.members ++ members;
    whole = so_far.whole
        ∙ ap (more_parts so_far.members)
        (parts_go_on table parameters rest goes_on
        ∙ ap (λ (part : Found (List Bounds)). part >>= λ (x : List Bounds × Source). more_parts x.0 (class_parts_by table parameters (length x.1 + 1) x.1)) found)
        ∙ more_parts-more so_far.members members (class_parts_by table parameters (length after + 1) after);
    held = λ c. adds c ∙ ap (λ b. b || is_member members c) (so_far.held c) ∙ sym (is_member-append so_far.members members c);
  }

  pub all_read : (t rest : Source) (gathered set : List Bounds) → ReadUpTo t rest gathered → is_at 93 rest ≡ true →
      HasMembers gathered set → (members : List Bounds) × (class_parts_by table parameters (length t + 1) t ≡ Some (members, drop 1 rest)) × HasMembers members set
  all_read t rest gathered set so_far closes has = (
    so_far.members,
    so_far.whole ∙ ap (more_parts so_far.members) (parts_closed table parameters rest closes)
        ∙ ap (λ (l : List Bounds). Some (l, drop 1 rest)) (append-nil so_far.members),
    record { canonical = has.canonical; each = λ c. has.each c ∙ so_far.held c },
  )

  pub none_after : (t rest : Source) (set : List Bounds) → ReadUpTo t rest set → is_at 93 rest ≡ false →
      class_part_at table parameters rest ≡ None → class_parts_by table parameters (length t + 1) t ≡ None
  none_after t rest set so_far goes_on none =
      so_far.whole
      ∙ ap (more_parts so_far.members)
      (parts_go_on table parameters rest goes_on
      ∙ ap (λ (part : Found (List Bounds)). part >>= λ (x : List Bounds × Source). more_parts x.0 (class_parts_by table parameters (length x.1 + 1) x.1)) none)

  -- A class is its parts, after a `^` if there is one.
  pub class_is : (inverted : Bool) (t inside : Source) (parts : Found (List Bounds)) → inverted ≡ is_at 94 t →
      inside ≡ cond inverted (drop 1 t) t → class_parts_by table parameters (length inside + 1) inside ≡ parts →
      class_at table parameters t ≡ parts >>= λ (x : List Bounds × Source). Some ((inverted, x.0), x.1)
  unfolding class_at
  class_is inverted t inside parts found moves e = rw (← found, ← moves, e) refl
