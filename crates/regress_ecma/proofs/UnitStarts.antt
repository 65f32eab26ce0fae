-- No match begins within a pair: where each atom fails, a pattern that consumes a character fails.
use Rattle.std.proofs.Common.{◌≡◌, ◌∙◌, ℕ, zero, suc, ◌+◌, ◌==◌, Bool, true, false, not, ◌&&◌, ◌||◌, List, [], ◌∷◌, ◌++◌, flat_map, length, map, slice_get, Option, Some, None, option_map, All, if◌then◌else◌, refl, sym, ap, ap₂, arith}
use Rattle.std.proofs.lemmas.Bool.{and_parts, false≢true, ne_eqb}
use Rattle.std.proofs.lemmas.List.Elements.{All-nil, All-cons, All-head, All-tail, All-append, All-filter, All-map}
use Rattle.regress_base.specs.declared.types.Quantifier.{Quantifier}
use Rattle.regress_base.specs.Intervals.{Bounds, intervals_of}
use Rattle.regress_base.specs.declared.types.Flags.{Flags}
use Rattle.regress_tree.specs.Lookaround.{looked, lookaround_matcher}
use Rattle.regress_tree.specs.Reading.{forwards, of_characters}
use Rattle.regress_tree.specs.References.{any_string}
use Rattle.regress_tree.specs.Repetition.{iteration, iterations, moving, up_to, extra_iterations, repeat_matcher, unset}
use Rattle.regress_tree.specs.Steps as Steps
use Rattle.regress_tree.specs.Steps.{MatchState, Matcher, Setting, stay, fail, ◌then_◌, ◌or_◌, one_character, hold_at, moved, captured}
use Rattle.regress_syntax.specs.Meaning.{is_literal, is_in_class, longest_first, one_of_strings, referred, reference_steps, quantified_steps, atom_steps, pattern_steps, terms_steps, item_steps}
use Rattle.regress_lexer.specs.Source.{IsCodePoint}
use Rattle.regress_classes.specs.ClassProductions.{members_of}
use Rattle.regress_syntax.specs.Syntax.{Name, is_joined, Atom, literal, dot, anchor, boundary, class_escape, class, class_set, string_property, back_reference, grouping, modified, capture, look, Pattern, Terms, Item, one, either, no_terms, more_terms, atom, group, counts_of_term}
use Rattle.regress_ecma.specs.SurrogatePairs.{is_outside_pairs, are_outside_pairs, atom_is_outside, is_outside, are_terms_outside, is_item_outside, atom_consumes, is_required, consumes, terms_consume, item_consumes}
use Rattle.regress_ecma.proofs.UnitSteps.{IsOutside, fails}
use Rattle.regress_ecma.proofs.UnitAtoms.{literal_outside, class_outside, intervals_outside}

module _ (i : ℕ) where
  -- the state is there
  abbrev pub IsThere : MatchState → Type 0
  IsThere t = t.position ≡ i

  -- From there, all outcomes are there.
  record Stays (f : Matcher) : Type 0 where
    all : (s : MatchState) → IsThere s → All IsThere (f s)

  -- From there, there is none.
  pub record Fails (f : Matcher) : Type 0 where
    pub none : (s : MatchState) → IsThere s → f s ≡ []

  flat_map-there : (g : Matcher) → Stays g → (states : List MatchState) → All IsThere states → All IsThere (flat_map g states)
  flat_map-there g stays [] all = All-nil IsThere
  flat_map-there g stays (s ∷ states) all =
      All-append IsThere (g s) (flat_map g states) (stays.all s (All-head IsThere s states all))
      (flat_map-there g stays states (All-tail IsThere s states all))

  flat_map-none : (g : Matcher) → Fails g → (states : List MatchState) → All IsThere states → flat_map g states ≡ []
  flat_map-none g fails' [] all = refl
  flat_map-none g fails' (s ∷ states) all =
      ap₂ (λ (a b : List MatchState). a ++ b) (fails'.none s (All-head IsThere s states all))
      (flat_map-none g fails' states (All-tail IsThere s states all))

  stays-stay : Stays stay
  stays-stay = record { all = λ s here. All-cons IsThere s [] here (All-nil IsThere) }

  stays-then : (f g : Matcher) → Stays f → Stays g → Stays (f then_ g)
  stays-then f g first second = record { all = λ s here. flat_map-there g second (f s) (first.all s here) }

  fails-first : (f g : Matcher) → Fails f → Fails (f then_ g)
  fails-first f g first = record { none = λ s here. ap (flat_map g) (first.none s here) }

  fails-second : (f g : Matcher) → Stays f → Fails g → Fails (f then_ g)
  fails-second f g first second = record { none = λ s here. flat_map-none g second (f s) (first.all s here) }

  stays-or : (f g : Matcher) → Stays f → Stays g → Stays (f or_ g)
  stays-or f g first second = record { all = λ s here. All-append IsThere (f s) (g s) (first.all s here) (second.all s here) }

  fails-or : (f g : Matcher) → Fails f → Fails g → Fails (f or_ g)
  fails-or f g first second = record { none = λ s here. ap₂ (λ (a b : List MatchState). a ++ b) (first.none s here) (second.none s here) }

  stays-failing : (f : Matcher) → Fails f → Stays f
  stays-failing f fails' = record { all = λ s here. rw (fails'.none s here) (All-nil IsThere) }

  stays-hold : (p : ℕ → Bool) → Stays (hold_at p)
  unfolding hold_at
  stays-hold p = record { all = λ s here. by_test s here (p s.position) }
    where
      by_test : (s : MatchState) → IsThere s → (b : Bool) → All IsThere (if b then s ∷ [] else [])
      by_test s here true = All-cons IsThere s [] here (All-nil IsThere)
      by_test s here false = All-nil IsThere

  -- ---- groups

  stays-captured : (n from : ℕ) (states : List MatchState) → All IsThere states → All IsThere (map (captured n from) states)
  stays-captured n from states all = All-map IsThere (captured n from) states all

  stays-looked : (negate : Bool) (s : MatchState) → IsThere s → (states : List MatchState) → All IsThere (looked negate s states)
  stays-looked false s here [] = All-nil IsThere
  stays-looked false s here (t ∷ later) = All-cons IsThere _ [] here (All-nil IsThere)
  stays-looked true s here [] = All-cons IsThere s [] here (All-nil IsThere)
  stays-looked true s here (t ∷ later) = All-nil IsThere

  -- ---- quantifiers

  module _ (f : Matcher) (stays : Stays f) where
    stays-iteration : (start end : ℕ) → Stays (iteration start end f)
    stays-iteration start end = record { all = λ s here. stays.all (unset start end s) here }

  stays-iterations : (f : Matcher) → Stays f → (n : ℕ) → Stays (iterations n f)
  stays-iterations f stays zero = stays-stay
  stays-iterations f stays (suc n) = stays-then f (iterations n f) stays (stays-iterations f stays n)

  stays-moving : (f : Matcher) → Stays f → Stays (moving f)
  stays-moving f stays = record { all = λ s here. All-filter (λ t. not (t.position == s.position)) IsThere (f s) (stays.all s here) }

  stays-up_to : (f : Matcher) → Stays f → (greedy : Bool) (n : ℕ) → Stays (up_to greedy n f)
  stays-up_to f stays greedy zero = stays-stay
  stays-up_to f stays true (suc n) =
      stays-or (moving f then_ up_to true n f) stay (stays-then (moving f) (up_to true n f) (stays-moving f stays) (stays-up_to f stays true n)) stays-stay
  stays-up_to f stays false (suc n) =
      stays-or stay (moving f then_ up_to false n f) stays-stay (stays-then (moving f) (up_to false n f) (stays-moving f stays) (stays-up_to f stays false n))

  stays-repeat : (f : Matcher) → Stays f → (bound : ℕ) (q : Quantifier) (start end : ℕ) → Stays (repeat_matcher bound q start end f)
  unfolding repeat_matcher
  stays-repeat f stays bound q start end =
      stays-then (iterations q.min (iteration start end f)) (up_to q.greedy (extra_iterations bound q) (iteration start end f))
      (stays-iterations (iteration start end f) (stays-iteration f stays start end) q.min)
      (stays-up_to (iteration start end f) (stays-iteration f stays start end) q.greedy (extra_iterations bound q))

  fails-iterations : (f : Matcher) → Fails f → (n : ℕ) → not (n == 0) ≡ true → Fails (iterations n f)
  fails-iterations f fails' zero some = absurd (false≢true some)
  fails-iterations f fails' (suc n) some = fails-first f (iterations n f) fails'

  fails-repeat : (f : Matcher) → Fails f → (bound : ℕ) (q : Quantifier) (start end : ℕ) → not (q.min == 0) ≡ true → Fails (repeat_matcher bound q start end f)
  unfolding repeat_matcher
  fails-repeat f fails' bound q start end some =
      fails-first (iterations q.min (iteration start end f)) (up_to q.greedy (extra_iterations bound q) (iteration start end f))
      (fails-iterations (iteration start end f) (record { none = λ s here. fails'.none (unset start end s) here }) q.min some)

-- at the index of a surrogate
module _ (setting : Setting) (all : List (Option Name)) (text : List ℕ) (i c : ℕ) (at : slice_get text i ≡ Some c) (within : IsCodePoint c)
    (inside : is_outside_pairs c ≡ false) where
  character-fails : (test : ℕ → Bool) → IsOutside test → Fails i (one_character forwards (of_characters text) test)
  unfolding one_character
  character-fails test outside = record {
    none = λ s here.
        ap (λ o. moved test s (option_map (λ d. record { character = d; position = s.position + 1 }) o)) (ap (slice_get text) here ∙ at)
        ∙ ap (λ (b : Bool). if b then record s { position = s.position + 1 } ∷ [] else []) (fails test outside c within inside);
  }

  abbrev set_steps : Flags → Bool → List Bounds → List (List ℕ) → Bool → Matcher
  set_steps flags negated members strings has_empty =
      one_of_strings setting all text forwards flags (longest_first strings)
      or_ one_character forwards (of_characters text) (is_in_class setting.table flags negated members) or_ (if has_empty then stay else fail)

  fails-fail : Fails i fail
  fails-fail = record { none = λ s here. refl }

  class_set-fails : (flags : Flags) (negated : Bool) (members : List Bounds) (strings : List (List ℕ)) (has_empty : Bool) → (length strings == 0) ≡ true →
      (not negated && are_outside_pairs (intervals_of (is_in_class setting.table flags false members))) ≡ true → not has_empty ≡ true →
      Fails i (set_steps flags negated members strings has_empty)
  unfolding any_string
  class_set-fails flags negated members (string ∷ strings) has_empty none outside some =
      absurd (false≢true (sym (ne_eqb (suc (length strings)) 0 (omega arith)) ∙ none))
  class_set-fails flags negated members [] true none outside some = absurd (false≢true some)
  class_set-fails flags negated members [] false none outside some =
      fails-or i _ _
      (fails-or i _ _ fails-fail (character-fails (is_in_class setting.table flags negated members) (class_outside setting.table flags negated members outside)))
      fails-fail

  class_set-stays : (flags : Flags) (negated : Bool) (members : List Bounds) (strings : List (List ℕ)) (has_empty : Bool) → (length strings == 0) ≡ true →
      (not negated && are_outside_pairs (intervals_of (is_in_class setting.table flags false members))) ≡ true →
      Stays i (set_steps flags negated members strings has_empty)
  unfolding any_string
  class_set-stays flags negated members (string ∷ strings) has_empty none outside =
      absurd (false≢true (sym (ne_eqb (suc (length strings)) 0 (omega arith)) ∙ none))
  class_set-stays flags negated members [] false none outside = stays-failing i _ (class_set-fails flags negated members [] false none outside refl)
  class_set-stays flags negated members [] true none outside =
      stays-or i _ _
      (stays-or i _ _ (stays-failing i _ fails-fail)
      (stays-failing i _ (character-fails (is_in_class setting.table flags negated members) (class_outside setting.table flags negated members outside))))
      (stays-stay i)

  reference-fails : (joined : Bool) (ks : List ℕ) (refer : ℕ → Matcher) → (length ks == 0) ≡ true → not joined ≡ true →
      Fails i (reference_steps joined refer ks)
  reference-fails true ks refer none some = absurd (false≢true some)
  reference-fails false [] refer none some = fails-fail
  reference-fails false (k ∷ ks) refer none some = absurd (false≢true (sym (ne_eqb (suc (length ks)) 0 (omega arith)) ∙ none))

  reference-stays : (joined : Bool) (ks : List ℕ) (refer : ℕ → Matcher) → (length ks == 0) ≡ true → Stays i (reference_steps joined refer ks)
  reference-stays true [] refer none = stays-stay i
  reference-stays false [] refer none = stays-failing i _ fails-fail
  reference-stays joined (k ∷ ks) refer none = absurd (false≢true (sym (ne_eqb (suc (length ks)) 0 (omega arith)) ∙ none))

  atom-fails : (a : Atom) → atom_is_outside setting.table all a ≡ true → atom_consumes setting.table all a ≡ true → Fails i (atom_steps setting all text forwards a)
  atom-fails (literal flags x) outside some = character-fails (is_literal setting.table flags x) (literal_outside setting.table all flags x outside)
  atom-fails (dot flags) outside some = absurd (false≢true outside)
  atom-fails (anchor flags kind) outside some = absurd (false≢true some)
  atom-fails (boundary flags inverted) outside some = absurd (false≢true some)
  atom-fails (class_escape flags kind negated) outside some =
      character-fails (is_in_class setting.table flags negated (members_of kind)) (intervals_outside (is_in_class setting.table flags negated (members_of kind)) outside)
  atom-fails (class flags inverted members) outside some =
      character-fails (is_in_class setting.table flags inverted members) (class_outside setting.table flags inverted members outside)
  atom-fails (class_set flags negated value) outside some =
      let parts = and_parts (length value.strings == 0) (not negated && are_outside_pairs (intervals_of (is_in_class setting.table flags false value.members))) outside in
      class_set-fails flags negated value.members value.strings value.has_empty parts.0 parts.1 some
  atom-fails (string_property flags written) outside some = absurd (false≢true outside)
  atom-fails (back_reference flags to) outside some =
      reference-fails (is_joined to) (referred all to) _ outside (and_parts (length (referred all to) == 0) (not (is_joined to)) some).1

  atom-stays : (a : Atom) → atom_is_outside setting.table all a ≡ true → Stays i (atom_steps setting all text forwards a)
  atom-stays (literal flags x) outside = stays-failing i _ (atom-fails (literal flags x) outside refl)
  atom-stays (dot flags) outside = absurd (false≢true outside)
  atom-stays (anchor flags kind) outside = stays-hold i _
  atom-stays (boundary flags inverted) outside = stays-hold i _
  atom-stays (class_escape flags kind negated) outside = stays-failing i _ (atom-fails (class_escape flags kind negated) outside refl)
  atom-stays (class flags inverted members) outside = stays-failing i _ (atom-fails (class flags inverted members) outside refl)
  atom-stays (class_set flags negated value) outside =
      let parts = and_parts (length value.strings == 0) (not negated && are_outside_pairs (intervals_of (is_in_class setting.table flags false value.members))) outside in
      class_set-stays flags negated value.members value.strings value.has_empty parts.0 parts.1
  atom-stays (string_property flags written) outside = absurd (false≢true outside)
  atom-stays (back_reference flags to) outside = reference-stays (is_joined to) (referred all to) _ outside

  quantified-stays : (q : Option Quantifier) (n m : ℕ) (f : Matcher) → Stays i f → Stays i (quantified_steps (length text) q n m f)
  quantified-stays None n m f stays = stays
  quantified-stays (Some q) n m f stays = stays-repeat i f stays (length text + 1) q n m

  quantified-fails : (q : Option Quantifier) (n m : ℕ) (f : Matcher) → is_required q ≡ true → Fails i f → Fails i (quantified_steps (length text) q n m f)
  quantified-fails None n m f some fails' = fails'
  quantified-fails (Some q) n m f some fails' = fails-repeat i f fails' (length text + 1) q n m some

  stays-capture : (n : ℕ) (f : Matcher) → Stays i f → Stays i (Steps.capture n f)
  unfolding Steps.capture
  stays-capture n f stays = record { all = λ s here. stays-captured i n s.position (f s) (stays.all s here) }

  fails-capture : (n : ℕ) (f : Matcher) → Fails i f → Fails i (Steps.capture n f)
  unfolding Steps.capture
  fails-capture n f fails' = record { none = λ s here. ap (map (captured n s.position)) (fails'.none s here) }

  stays-look : (negate : Bool) (f : Matcher) → Stays i (lookaround_matcher negate f)
  unfolding lookaround_matcher
  stays-look negate f = record { all = λ s here. stays-looked i negate s here (f s) }

  mutual
    pattern-stays : (n : ℕ) (p : Pattern) → is_outside setting.table all p ≡ true → Stays i (pattern_steps setting all text forwards n p)
    pattern-stays n (one ts) outside = terms-stay n ts outside
    pattern-stays n (either ts p) outside =
        let parts = and_parts (are_terms_outside setting.table all ts) (is_outside setting.table all p) outside in
        stays-or i _ _ (terms-stay n ts parts.0) (pattern-stays _ p parts.1)

    terms-stay : (n : ℕ) (ts : Terms) → are_terms_outside setting.table all ts ≡ true → Stays i (terms_steps setting all text forwards n ts)
    terms-stay n no_terms outside = stays-stay i
    terms-stay n (more_terms x q xs) outside =
        let parts = and_parts (is_item_outside setting.table all x) (are_terms_outside setting.table all xs) outside in
        stays-then i _ _ (quantified-stays q n _ _ (item-stays n x parts.0)) (terms-stay _ xs parts.1)

    item-stays : (n : ℕ) (x : Item) → is_item_outside setting.table all x ≡ true → Stays i (item_steps setting all text forwards n x)
    item-stays n (atom a) outside = atom-stays a outside
    item-stays n (group grouping p) outside = pattern-stays _ p outside
    item-stays n (group (modified change) p) outside = pattern-stays _ p outside
    item-stays n (group (capture name) p) outside = stays-capture n _ (pattern-stays _ p outside)
    item-stays n (group (look negate direction) p) outside = stays-look negate _

  mutual
    pub pattern-fails : (n : ℕ) (p : Pattern) → is_outside setting.table all p ≡ true → consumes setting.table all p ≡ true → Fails i (pattern_steps setting all text forwards n p)
    pattern-fails n (one ts) outside some = terms-fail n ts outside some
    pattern-fails n (either ts p) outside some =
        let parts = and_parts (are_terms_outside setting.table all ts) (is_outside setting.table all p) outside in
        let both = and_parts (terms_consume setting.table all ts) (consumes setting.table all p) some in
        fails-or i _ _ (terms-fail n ts parts.0 both.0) (pattern-fails _ p parts.1 both.1)

    terms-fail : (n : ℕ) (ts : Terms) → are_terms_outside setting.table all ts ≡ true → terms_consume setting.table all ts ≡ true → Fails i (terms_steps setting all text forwards n ts)
    terms-fail n no_terms outside some = absurd (false≢true some)
    terms-fail n (more_terms x q xs) outside some =
        let parts = and_parts (is_item_outside setting.table all x) (are_terms_outside setting.table all xs) outside in
        by_test (item-stays n x parts.0) (item-fails n x parts.0) (terms-fail _ xs parts.1) (is_required q) refl (item_consumes setting.table all x) refl some
      where
        by_test : Stays i (item_steps setting all text forwards n x) →
            (item_consumes setting.table all x ≡ true → Fails i (item_steps setting all text forwards n x)) →
            (terms_consume setting.table all xs ≡ true → Fails i (terms_steps setting all text forwards (n + (counts_of_term x q).groups) xs)) →
            (r : Bool) → is_required q ≡ r → (t : Bool) → item_consumes setting.table all x ≡ t → ((r && t) || terms_consume setting.table all xs) ≡ true →
            Fails i (terms_steps setting all text forwards n (more_terms x q xs))
        by_test stays first others true e true f h = fails-first i _ _ (quantified-fails q n _ _ e (first f))
        by_test stays first others true e false f h = fails-second i _ _ (quantified-stays q n _ _ stays) (others h)
        by_test stays first others false e t f h = fails-second i _ _ (quantified-stays q n _ _ stays) (others h)

    item-fails : (n : ℕ) (x : Item) → is_item_outside setting.table all x ≡ true → item_consumes setting.table all x ≡ true → Fails i (item_steps setting all text forwards n x)
    item-fails n (atom a) outside some = atom-fails a outside some
    item-fails n (group grouping p) outside some = pattern-fails _ p outside some
    item-fails n (group (modified change) p) outside some = pattern-fails _ p outside some
    item-fails n (group (capture name) p) outside some = fails-capture n _ (pattern-fails _ p outside some)
    item-fails n (group (look negate direction) p) outside some = absurd (false≢true some)
