-- The numbers of a match, and the spans that are read from them.
use Rattle.std.proofs.Common.{◌≡◌, ◌≢◌, ℕ, ◌-◌, ◌*◌, ◌<◌, ◌≤◌, List, [], ◌∷◌, ◌++◌, Option, Some, None, All, drop, flat_map, get_or, length, take, append_assoc, append-nil, refl, sym, ap, ap₂, ◌∙◌, subst, arith}
use Rattle.std.proofs.lemmas.Grind.{flat_map-append}
use Rattle.std.proofs.lemmas.List.{length-append, take_all}
use Rattle.std.proofs.lemmas.List.Elements.{All-cons, All-head, All-nil, All-tail}
use Rattle.regress_front.specs.Steps.{CaptureSpan}
use Rattle.regress_front.specs.WellFormed.{Capture}
use Rattle.regress_tree.specs.Inside.{IsCaptureInside, IsSpanInside}
use Rattle.regress_found.specs.Found.{IsInside, start_of, state_of}
use Rattle.regress_found.specs.declared.found.Match.{Match}
use Rattle.std.specs.Prelude.{IfNone, IfSome, MatchOption}
use Rattle.regress.specs.Compiled.{match_of}
use Rattle.regress.specs.declared.found.Match as result
use Rattle.regress.specs.Groups.{all_spans}
use Rattle.regress_capi.specs.ExpandResults.{HasNumbers}
use Rattle.regress_capi.specs.Spans.{ends_of, unset}

-- a span whose ends are not those of a group that is unset
abbrev pub IsSet : Option CaptureSpan → Type 0
IsSet span = span ≢ Some (unset, unset)

-- the two ends of one more span are read
pub ends_more : (span : Option CaptureSpan) (spans : List (Option CaptureSpan)) (a b : ℕ) (after rest all : List ℕ) → ends_of span ≡ a ∷ b ∷ [] →
    rest ≡ a ∷ b ∷ after → flat_map ends_of spans ++ rest ≡ all → flat_map ends_of (spans ++ span ∷ []) ++ after ≡ all
ends_more span spans a b after rest all is parts so_far =
    ap (λ zs. zs ++ after) (flat_map-append ends_of spans (span ∷ []))
    ∙ append_assoc (flat_map ends_of spans) (flat_map ends_of (span ∷ [])) after
    ∙ ap (λ zs. flat_map ends_of spans ++ (zs ++ after)) (append-nil (ends_of span) ∙ is)
    ∙ ap (λ zs. flat_map ends_of spans ++ zs) (sym parts) ∙ so_far

-- there are two ends for each span
length_ends : (spans : List (Option CaptureSpan)) → length (flat_map ends_of spans) ≡ 2 * length spans
length_ends [] = refl
length_ends (None ∷ spans) = omega (arith, length_ends spans)
length_ends (Some span ∷ spans) = omega (arith, length_ends spans)

-- numbers that are ends of spans, and one more, are not ends of spans
pub one_left : (spans others : List (Option CaptureSpan)) (rest all : List ℕ) → flat_map ends_of spans ++ rest ≡ all → length rest ≡ 1 →
    flat_map ends_of others ≡ all → ⊥
one_left spans others rest all so_far one is =
    let sum : length (flat_map ends_of spans ++ rest) ≡ length (flat_map ends_of others) = ap length (so_far ∙ sym is) in
    omega (arith, length-append (flat_map ends_of spans) rest, sum, one, length_ends spans, length_ends others)

split_ends : (x y : Option CaptureSpan) (fs gs : List ℕ) → ends_of x ++ fs ≡ ends_of y ++ gs → (ends_of x ≡ ends_of y) × (fs ≡ gs)
split_ends None None fs gs e = (cc, cc)
split_ends None (Some b) fs gs e = (cc, cc)
split_ends (Some a) None fs gs e = (cc, cc)
split_ends (Some a) (Some b) fs gs e = (cc, cc)

module _ (text : List ℕ) where
  one_inside : (x y : Option CaptureSpan) → IsSet x → ends_of x ≡ ends_of y → IsCaptureInside text y → IsCaptureInside text x
  one_inside None y set e inside = tt
  one_inside (Some a) None set e inside =
      let first : a.0 ≡ unset = cc in
      let second : a.1 ≡ unset = cc in
      absurd (set (ap₂ (λ (x y : ℕ). Some (x, y)) first second))
  one_inside (Some a) (Some b) set e inside =
      let first : b.0 ≡ a.0 = cc in
      let second : b.1 ≡ a.1 = cc in
      subst (IsSpanInside text) (ap₂ (λ (x y : ℕ). (x, y)) first second) inside

  -- spans that are read are inside the text if spans with the same ends are
  read_inside : (xs ys : List (Option CaptureSpan)) → All IsSet xs → flat_map ends_of xs ≡ flat_map ends_of ys → All (IsCaptureInside text) ys →
      All (IsCaptureInside text) xs
  read_inside [] ys set e inside = All-nil (IsCaptureInside text)
  read_inside (None ∷ xs) [] set e inside = let bad : ⊥ = cc in absurd bad
  read_inside (Some a ∷ xs) [] set e inside = let bad : ⊥ = cc in absurd bad
  read_inside (x ∷ xs) (y ∷ ys) set e inside =
      let both = split_ends x y (flat_map ends_of xs) (flat_map ends_of ys) e in
      All-cons (IsCaptureInside text) x xs
      (one_inside x y (All-head IsSet x xs set) both.0 (All-head (IsCaptureInside text) y ys inside))
      (read_inside xs ys (All-tail IsSet x xs set) both.1 (All-tail (IsCaptureInside text) y ys inside))

module _ (text : List ℕ) (groups : List Capture) (numbers : List ℕ) where
  -- a match has two numbers at least
  pub few_numbers : length numbers < 2 → (m : Match) → HasNumbers text groups numbers m → ⊥
  few_numbers few m has = omega (arith, few, ap length has.ends)

  module _ (a b : ℕ) (rest : List ℕ) (is : numbers ≡ a ∷ b ∷ rest) where
    rest_are : (m : Match) → HasNumbers text groups numbers m → (start_of m ≡ a) × ((state_of m).position ≡ b) × (flat_map ends_of (state_of m).captures ≡ rest)
    rest_are m has =
        let same : a ∷ b ∷ rest ≡ start_of m ∷ (state_of m).position ∷ flat_map ends_of (state_of m).captures = sym is ∙ has.ends in
        (cc, cc, cc)

    -- the rest are no ends of spans
    pub odd_numbers : ((spans : List (Option CaptureSpan)) → flat_map ends_of spans ≡ rest → ⊥) → (m : Match) → HasNumbers text groups numbers m → ⊥
    odd_numbers none m has = none (state_of m).captures (rest_are m has).2

    module _ (spans : List (Option CaptureSpan)) (ends : flat_map ends_of spans ≡ rest) where
      -- the spans are too many or too few, or not inside the text
      pub no_numbers : All IsSet spans →
          (length spans ≡ length groups → IsSpanInside text (a, b) → All (IsCaptureInside text) spans → ⊥) → (m : Match) → HasNumbers text groups numbers m → ⊥
      no_numbers set none m has =
          let are = rest_are m has in
          let captures = (state_of m).captures in
          let same : flat_map ends_of spans ≡ flat_map ends_of captures = ends ∙ sym are.2 in
          let twice : 2 * length spans ≡ 2 * length captures = sym (length_ends spans) ∙ ap length same ∙ length_ends captures in
          let count : length spans ≡ length groups = omega (arith, twice, has.count) in
          none count (subst (IsSpanInside text) (ap₂ (λ (x y : ℕ). (x, y)) are.0 are.1) has.inside.span)
          (read_inside text spans captures set same has.inside.groups)

      -- the match with the spans has the numbers
      pub has_numbers : (m : Match) → all_spans m ≡ Some (a, b) ∷ spans → length spans ≡ length groups → IsInside text m →
          HasNumbers text groups numbers m
      has_numbers m same count inside =
          let captures : (state_of m).captures ≡ spans = cc in
          record {
            inside = inside;
            count = ap length captures ∙ count;
            ends = is ∙ ap (λ zs. a ∷ b ∷ zs) (sym ends) ∙ sym (ap (flat_map ends_of) same);
          }

      pub match_read : All IsSet spans → (r : Option result.Match) → IfSome r (λ m. all_spans (match_of m) ≡ Some (a, b) ∷ spans) →
          IfSome r (λ m. length spans ≡ length groups) → IfSome r (λ m. IsInside text (match_of m)) →
          IfNone r (length spans ≡ length groups → IsSpanInside text (a, b) → All (IsCaptureInside text) spans → ⊥) →
          MatchOption r ((m : Match) → HasNumbers text groups numbers m → ⊥) (λ m. HasNumbers text groups numbers (match_of m))
      match_read set None same count inside none = no_numbers set none
      match_read set (Some m) same count inside none = has_numbers (match_of m) same count inside

-- a list of two numbers at least, in parts
pub two_up : (xs : List ℕ) → 2 ≤ length xs → xs ≡ get_or xs 0 0 ∷ get_or xs 1 0 ∷ take (length xs - 2) (drop 2 xs)
two_up [] many = absurd (omega (arith, many))
two_up (x ∷ []) many = absurd (omega (arith, many))
two_up (x ∷ y ∷ xs) many = ap (λ zs. x ∷ y ∷ zs) (sym (take_all (length (x ∷ y ∷ xs) - 2) xs (omega arith)))
