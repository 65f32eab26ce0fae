-- Back references: the characters of a part of a text, by its bytes and one by one.
use Rattle.std.proofs.Common.{◌≡◌, ℕ, zero, suc, ◌+◌, ◌-◌, ◌≤◌, ◌<◌, ◌==◌, ◌⊎◌, inl, inr, Bool, true, false, List, [], ◌∷◌, ◌++◌, length, take, drop, reverse, flat_map, Option, Some, None, option_map, slice_get, slice_index, chars, encode_utf8_all, refl, sym, ap, subst, ◌∙◌, append_assoc, append-nil, if◌then◌else◌, nat_lt, arith}
use Rattle.std.proofs.lemmas.Bool.Decides.{nat_tests}
use Rattle.std.proofs.Math.Path.{fun_ext}
use Rattle.std.proofs.Math.Utf8.{scalar, scalars}
use Rattle.std.proofs.lemmas.Bool.{and_parts, cases_lt, cond-false, le-ltb}
use Rattle.std.proofs.lemmas.Grind.{reverse_onto}
use Rattle.std.proofs.lemmas.List.{drop-drop, drop_all, drop_at, drop_more, length-append, reverse-append, take_all, take_more}
use Rattle.std.proofs.lemmas.List.Elements.{All-nil, All-cons, All-head, All-tail}
use Rattle.std.proofs.lemmas.Option.{slice_get-get_or, slice_get_past}
use Rattle.std.proofs.lemmas.Str.{length-encode, scalars-chars}
use Rattle.std.specs.Char.{IsScalar, encode_utf8, len_utf8}
use Rattle.std.specs.Str.{IsCharBoundary, IsUtf8}
use Rattle.regress_tree.specs.Reading.{Direction, forwards, backwards, IsText, Read, Reading, byte_position, direction_if, next_character, of_bytes, of_characters, read_after}
use Rattle.regress_tree.specs.References.{all_of, characters_from, in_order, read_with}
use Rattle.regress_tree.specs.Steps.{MatchState, Matcher, one_character, these_bytes}
use Rattle.regress_tree.proofs.lemmas.ByteSequences.{these_bytes-none, these_bytes-append, these_bytes-one, these_bytes_before-append, these_bytes_before-one}
use Rattle.regress_tree.proofs.lemmas.Characters.{byte_position-le, byte_position-lt, byte_position-zero, character_at_from}
use Rattle.regress_tree.proofs.lemmas.Outcomes.{flat_map-stay, flat_map-then}
use Rattle.regress_tree.proofs.lemmas.Readings.{byte_read, next_character-byte_position}
use Rattle.regress_leaves.proofs.lemmas.Leaves.{all_no, all_none, all_yes}
use Rattle.regress_leaves.proofs.ReadingLemmas.{boundary_at, len_positive, read_after_some}

text-from : (cs : List ℕ) → scalars cs ≡ true → IsText cs
text-from [] e = All-nil IsScalar
text-from (c ∷ cs) e =
    let parts = and_parts (scalar c) (scalars cs) e in
    All-cons IsScalar c cs parts.0 (text-from cs parts.1)

pub text-chars : (bytes : List ℕ) → IsUtf8 bytes → IsText (chars bytes)
text-chars bytes utf8 = text-from (chars bytes) (scalars-chars bytes utf8)

-- ---- the characters that begin in a span

less : (k end : ℕ) → k < end → nat_lt k end ≡ true
less k end lt = grind arith

pub none_past : (r : Reading) (n k end : ℕ) → end ≤ k → characters_from r n k end ≡ []
none_past r zero k end le = refl
none_past r (suc n) k end le = cond-false _ _ _ (le-ltb k end le)

pub read_none : (r : Reading) (n k end : ℕ) → r.after k ≡ None → characters_from r n k end ≡ []
read_none r zero k end none = refl
read_none r (suc n) k end none = by (nat_lt k end)
  where
    by : (b : Bool) → (if b then read_with (λ j. characters_from r n j end) (r.after k) else []) ≡ []
    by true = ap (read_with (λ j. characters_from r n j end)) none
    by false = refl

read_more : (r : Reading) (n k end : ℕ) (read : Read) → k < end → r.after k ≡ Some read →
    characters_from r (suc n) k end ≡ read.character ∷ characters_from r n read.position end
read_more r n k end read lt is =
    ap (λ (b : Bool). if b then read_with (λ j. characters_from r n j end) (r.after k) else []) (less k end lt)
    ∙ ap (read_with (λ j. characters_from r n j end)) is

module _ (bytes : List ℕ) (end last : ℕ) (nearest : (i : ℕ) → end ≤ i → i < last → IsCharBoundary bytes i → ⊥)
    (stop : (n : ℕ) → characters_from (of_bytes bytes) n last end ≡ []) where
  -- one more character begins in the span
  one_more : (k c : ℕ) (cs rest : List ℕ) → IsText (c ∷ cs) → drop k bytes ≡ encode_utf8_all (c ∷ cs) ++ rest →
      k + length (encode_utf8_all (c ∷ cs)) ≡ last →
      (k < end) × (read_after bytes k ≡ Some (record { character = c; position = k + len_utf8 c }))
      × (drop (k + len_utf8 c) bytes ≡ encode_utf8_all cs ++ rest) × (k + len_utf8 c + length (encode_utf8_all cs) ≡ last)
  one_more k c cs rest is here at =
      let scalar_value = All-head IsScalar c cs is in
      let tail = encode_utf8_all cs ++ rest in
      let split : drop k bytes ≡ encode_utf8 c ++ tail = here ∙ append_assoc (encode_utf8 c) (encode_utf8_all cs) rest in
      let some : 1 ≤ len_utf8 c = len_positive c scalar_value in
      let sizes : length (encode_utf8 c ++ encode_utf8_all cs) ≡ len_utf8 c + length (encode_utf8_all cs) =
      length-append (encode_utf8 c) (encode_utf8_all cs) ∙ ap (λ j. j + length (encode_utf8_all cs)) (length-encode c) in
      let on = boundary_at bytes k c tail scalar_value split in (
        elim (cases_lt k end) [ inl lt ↦ lt | inr past ↦ absurd (nearest k past (omega (arith, at, sizes, some)) on) ],
        read_after_some bytes k c (character_at_from bytes k c tail scalar_value split),
        sym (drop-drop (len_utf8 c) k bytes) ∙ ap (drop (len_utf8 c)) split ∙ drop_at (encode_utf8 c) tail (len_utf8 c) (length-encode c),
        omega (arith, at, sizes),
      )

  pub characters_from-text : (n k : ℕ) (cs rest : List ℕ) → IsText cs → drop k bytes ≡ encode_utf8_all cs ++ rest → k + length (encode_utf8_all cs) ≡ last →
      end ≤ k + n → characters_from (of_bytes bytes) n k end ≡ cs
  characters_from-text n k [] rest is here at reach = ap (λ j. characters_from (of_bytes bytes) n j end) (omega (arith, at)) ∙ stop n
  characters_from-text zero k (c ∷ cs) rest is here at reach = absurd (omega (arith, reach, (one_more k c cs rest is here at).0))
  characters_from-text (suc n) k (c ∷ cs) rest is here at reach =
      let more = one_more k c cs rest is here at in
      read_more (of_bytes bytes) n k end _ more.0 more.1
      ∙ ap (λ xs. c ∷ xs) (characters_from-text n (k + len_utf8 c) cs rest (All-tail IsScalar c cs is) more.2 more.3
      (omega (arith, reach, len_positive c (All-head IsScalar c cs is))))

-- ---- bytes

abbrev equal : ℕ → ℕ → Bool
equal c x = x == c

all_of-append : (d : Direction) (r : Reading) (same : ℕ → ℕ → Bool) (xs ys : List ℕ) (s : MatchState) →
    all_of d r same (xs ++ ys) s ≡ flat_map (all_of d r same ys) (all_of d r same xs s)
all_of-append d r same [] ys s = sym (append-nil _)
all_of-append d r same (x ∷ xs) ys s =
    ap (λ (f : Matcher). flat_map f (one_character d r (same x) s)) (fun_ext (all_of-append d r same xs ys))
    ∙ flat_map-then (all_of d r same xs) (all_of d r same ys) (one_character d r (same x) s)

-- bytes match exactly where their characters do
pub these_bytes-characters : (d : Direction) (bytes cs : List ℕ) → IsText cs → (s : MatchState) →
    these_bytes d bytes (encode_utf8_all cs) s ≡ all_of d (of_bytes bytes) equal (in_order d cs) s
these_bytes-characters forwards bytes [] is s = these_bytes-none forwards bytes s
these_bytes-characters backwards bytes [] is s = these_bytes-none backwards bytes s
these_bytes-characters forwards bytes (c ∷ cs) is s =
    these_bytes-append bytes (encode_utf8 c) (encode_utf8_all cs) s
    ∙ ap (flat_map (these_bytes forwards bytes (encode_utf8_all cs))) (these_bytes-one bytes c (All-head IsScalar c cs is) s)
    ∙ ap (λ (f : Matcher). flat_map f (one_character forwards (of_bytes bytes) (λ x. x == c) s))
    (fun_ext (these_bytes-characters forwards bytes cs (All-tail IsScalar c cs is)))
these_bytes-characters backwards bytes (c ∷ cs) is s =
    let r = of_bytes bytes in
    these_bytes_before-append bytes (encode_utf8 c) (encode_utf8_all cs) s
    ∙ ap (flat_map (these_bytes backwards bytes (encode_utf8 c))) (these_bytes-characters backwards bytes cs (All-tail IsScalar c cs is) s)
    ∙ ap (λ (f : Matcher). flat_map f (all_of backwards r equal (reverse cs) s))
    (fun_ext (λ t. these_bytes_before-one bytes c (All-head IsScalar c cs is) t ∙ sym (flat_map-stay (one_character backwards r (equal c) t))))
    ∙ sym (all_of-append backwards r equal (reverse cs) (c ∷ []) s)
    ∙ ap (λ xs. all_of backwards r equal xs s) (sym (reverse_onto cs c []))

-- ---- one by one

-- the characters that are ahead, in the order in which matching reaches them
abbrev pub ahead : Direction → List ℕ → ℕ → List ℕ
ahead forwards cs k = drop k cs
ahead backwards cs k = reverse (take k cs)

-- the number of bytes ahead
abbrev pub distance : Direction → (n k : ℕ) → ℕ
distance forwards n k = n - k
distance backwards n k = k

-- The position j is one character further than k, and the character between them is c.
pub record IsNextAhead (d : Direction) (cs : List ℕ) (k c j : ℕ) : Type 0 where
  pub within : j ≤ length cs
  pub ahead : ahead d cs k ≡ c ∷ ahead d cs j
  pub shorter : distance d (byte_position cs (length cs)) (byte_position cs j) < distance d (byte_position cs (length cs)) (byte_position cs k)

some_same : (q r : Read) → Some q ≡ Some r → q ≡ r
some_same q r e = cc

none_some : (o : Option Read) (r : Read) → o ≡ None → o ≡ Some r → ⊥
none_some o r none some = let bad : None ≡ Some r = sym none ∙ some in cc

-- At a position of a text either nothing is ahead, or a character.
step : (d : Direction) (cs : List ℕ) (k : ℕ) → k ≤ length cs →
    ((next_character d (of_characters cs) k ≡ None) × (ahead d cs k ≡ []))
    ⊎ ((r : Read) × ((next_character d (of_characters cs) k ≡ Some r) × IsNextAhead d cs k r.character r.position))
step forwards cs k le =
    elim (cases_lt k (length cs)) [
      | inl lt ↦
          inr (
            record { character = slice_index cs k; position = k + 1 },
            (
              ap (option_map (λ c. record { character = c; position = k + 1 })) (slice_get-get_or cs k 0 lt),
              record {
                within = omega (arith, lt);
                ahead = drop_more cs k 0 lt;
                shorter = omega (arith, byte_position-lt cs k (k + 1) (omega arith) (omega (arith, lt)), byte_position-le cs (k + 1) (length cs) (omega (arith, lt)) (omega arith));
              },
            ),
          )
      | inr past ↦
          inl (ap (option_map (λ c. record { character = c; position = k + 1 })) (slice_get_past cs k past), drop_all k cs past)
    ]
step backwards cs zero le = inl (refl, refl)
step backwards cs (suc k) le =
    let lt : k < length cs = omega (arith, le) in
    let one : k + 1 ≡ suc k = omega arith in
    inr (
      record { character = slice_index cs k; position = k },
      (
        cond-false (suc k == 0) _ _ (grind (arith, nat_tests))
            ∙ ap (λ j. option_map (λ c. record { character = c; position = j }) (slice_get cs j)) (omega arith)
            ∙ ap (option_map (λ c. record { character = c; position = k })) (slice_get-get_or cs k 0 lt),
        record {
          within = omega (arith, lt);
          ahead = ap (λ j. reverse (take j cs)) (sym one) ∙ ap reverse (take_more cs k 0 lt) ∙ reverse-append (take k cs) (slice_index cs k ∷ []);
          shorter = byte_position-lt cs k (suc k) (omega arith) (omega (arith, lt));
        },
      ),
    )

map_none : (cs : List ℕ) (o : Option Read) → option_map (byte_read cs) o ≡ None → o ≡ None
map_none cs None e = refl
map_none cs (Some r) e = let bad : ⊥ = cc in absurd bad

map_some : (cs : List ℕ) (o : Option Read) (r : Read) → option_map (byte_read cs) o ≡ Some r →
    (q : Read) × ((o ≡ Some q) × (byte_read cs q ≡ r))
map_some cs None r e = let bad : ⊥ = cc in absurd bad
map_some cs (Some q) r e = (q, (refl, cc))

byte_position-length : (cs part : List ℕ) → encode_utf8_all cs ≡ part → byte_position cs (length cs) ≡ length part
unfolding byte_position
byte_position-length cs part encoded = ap (λ xs. length (encode_utf8_all xs)) (take_all (length cs) cs (omega arith)) ∙ ap length encoded

shorter : (d : Direction) (n n' p p' q q' : ℕ) → n ≡ n' → p ≡ p' → q ≡ q' → distance d n p < distance d n q → distance d n' p' < distance d n' q'
shorter forwards n n' p p' q q' en ep eq lt = omega (arith, en, ep, eq, lt)
shorter backwards n n' p p' q q' en ep eq lt = omega (arith, ep, eq, lt)

module _ (d : Direction) (cs : List ℕ) (is : IsText cs) (part : List ℕ) (encoded : encode_utf8_all cs ≡ part) (k from : ℕ) (le : k ≤ length cs)
    (at : from ≡ byte_position cs k) where
  over : next_character d (of_bytes part) from ≡ option_map (byte_read cs) (next_character d (of_characters cs) k)
  over =
      ap (λ bs. next_character d (of_bytes bs) from) (sym encoded) ∙ ap (next_character d (of_bytes (encode_utf8_all cs))) at
      ∙ next_character-byte_position cs is d k le

  -- where the text ends, nothing is ahead
  pub none_ahead : next_character d (of_bytes part) from ≡ None → ahead d cs k ≡ []
  none_ahead none =
      elim (step d cs k le) [
        | inl end ↦ end.1
        | inr more ↦ absurd (none_some _ more.0 (map_none cs _ (sym over ∙ none)) more.1.0)
      ]

  -- otherwise the next character is
  some_ahead-from : (read : Read) → next_character d (of_bytes part) from ≡ Some read →
      (j : ℕ) × ((read.position ≡ byte_position cs j) × IsNextAhead d cs k read.character j)
  some_ahead-from read some =
      let found = map_some cs _ read (sym over ∙ some) in
      elim (step d cs k le) [
        | inl end ↦ absurd (none_some _ found.0 end.0 found.1.0)
        | inr more ↦
            let same : more.0 ≡ found.0 = some_same _ _ (sym more.1.0 ∙ found.1.0) in
            let read_is : byte_read cs more.0 ≡ read = ap (byte_read cs) same ∙ found.1.1 in
            (more.0.position, (sym (ap (λ (r : Read). r.position) read_is), subst (λ c. IsNextAhead d cs k c more.0.position) (ap (λ (r : Read). r.character) read_is) more.1.1))
      ]

  pub some_ahead : (read : Read) → next_character d (of_bytes part) from ≡ Some read →
      (j : ℕ) × ((j ≤ length cs) × ((read.position ≡ byte_position cs j) × ((ahead d cs k ≡ read.character ∷ ahead d cs j)
      × (distance d (length part) read.position < distance d (length part) from))))
  some_ahead read some =
      let next = some_ahead-from read some in (
        next.0,
        (
          next.1.1.within,
          (
            next.1.0,
            (
              next.1.1.ahead,
              shorter d _ (length part) _ read.position _ from (byte_position-length cs part encoded) (sym next.1.0) (sym at) next.1.1.shorter,
            ),
          ),
        ),
      )

-- where the characters of a part begin, in the direction of matching
pub begin : (b : Bool) (cs part : List ℕ) (from : ℕ) → encode_utf8_all cs ≡ part → from ≡ (if b then length part else 0) →
    (k : ℕ) × ((k ≤ length cs) × ((from ≡ byte_position cs k) × (ahead (direction_if b) cs k ≡ in_order (direction_if b) cs)))
begin true cs part from encoded is =
    (length cs, (omega arith, (is ∙ sym (byte_position-length cs part encoded), ap reverse (take_all (length cs) cs (omega arith)))))
begin false cs part from encoded is = (0, (omega arith, (is ∙ sym (byte_position-zero cs), refl)))

-- Matching the characters ahead, by the next character of the text.
module _ (d : Direction) (r : Reading) (same : ℕ → ℕ → Bool) (xs rest all : List ℕ) (c : ℕ) (s : MatchState) (here : ℕ) (is : xs ≡ c ∷ rest)
    (so_far : all_of d r same xs (record s { position = here }) ≡ all_of d r same all s) where
  from_here : all_of d r same (c ∷ rest) (record s { position = here }) ≡ all_of d r same all s
  from_here = ap (λ ys. all_of d r same ys (record s { position = here })) (sym is) ∙ so_far

  pub copy_none : next_character d r here ≡ None → [] ≡ all_of d r same all s
  copy_none none = sym (all_none d r same c rest (record s { position = here }) none) ∙ from_here

  pub copy_no : (read : Read) → next_character d r here ≡ Some read → same c read.character ≡ false → [] ≡ all_of d r same all s
  copy_no read some tested = sym (all_no d r same c rest (record s { position = here }) read some tested) ∙ from_here

  pub copy_yes : (read : Read) → next_character d r here ≡ Some read → same c read.character ≡ true →
      all_of d r same rest (record s { position = read.position }) ≡ all_of d r same all s
  copy_yes read some tested = sym (all_yes d r same c rest (record s { position = here }) read some tested) ∙ from_here
