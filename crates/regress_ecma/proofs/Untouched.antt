-- Atoms leave the captures as they are.
use Rattle.std.proofs.Common.{◌≡◌, ℕ, ◌-◌, Bool, true, false, List, [], ◌∷◌, flat_map, get_or, Option, Some, None, All, if◌then◌else◌, refl, subst}
use Rattle.std.proofs.lemmas.List.Elements.{All-nil, All-cons, All-head, All-tail, All-append}
use Rattle.regress_base.specs.Table.{denotes}
use Rattle.regress_tree.specs.Reading.{Direction, Reading, Read, next_character, of_characters}
use Rattle.regress_tree.specs.References.{all_of, any_string, back_reference, in_order, match_again}
use Rattle.regress_tree.specs.Steps.{CaptureSpan, MatchState, Matcher, moved, one_character, hold_at, stay, fail, ◌then_◌, ◌or_◌, Setting}
use Rattle.regress_syntax.specs.Meaning.{any_reference, each_reference, atom_steps, longest_first}
use Rattle.regress_syntax.specs.Syntax.{Name, Atom, literal, dot, anchor, boundary, class_escape, class, class_set, string_property, back_reference as reference, by_number, by_name, by_name_if_set, groups_named}

-- Each outcome has the captures of the state.
abbrev pub IsUntouched : List (Option CaptureSpan) → MatchState → Type 0
IsUntouched captures t = t.captures ≡ captures

abbrev pub LeavesCaptures : Matcher → Type 0
LeavesCaptures f = (s : MatchState) → All (IsUntouched s.captures) (f s)

only : (captures : List (Option CaptureSpan)) (t : MatchState) → t.captures ≡ captures → All (IsUntouched captures) (t ∷ [])
only captures t is = All-cons (IsUntouched captures) t [] is (All-nil (IsUntouched captures))

only_if : (captures : List (Option CaptureSpan)) (b : Bool) (t : MatchState) → t.captures ≡ captures →
    All (IsUntouched captures) (if b then t ∷ [] else [])
only_if captures true t is = only captures t is
only_if captures false t is = All-nil (IsUntouched captures)

stay-leaves : LeavesCaptures stay
stay-leaves s = only s.captures s refl

fail-leaves : LeavesCaptures fail
fail-leaves s = All-nil (IsUntouched s.captures)

or-leaves : (f g : Matcher) → LeavesCaptures f → LeavesCaptures g → LeavesCaptures (f or_ g)
or-leaves f g first second s = All-append (IsUntouched s.captures) (f s) (g s) (first s) (second s)

flat_map-leaves : (g : Matcher) → LeavesCaptures g → (captures : List (Option CaptureSpan)) (states : List MatchState) → All (IsUntouched captures) states →
    All (IsUntouched captures) (flat_map g states)
flat_map-leaves g leaves captures [] all = All-nil (IsUntouched captures)
flat_map-leaves g leaves captures (t ∷ states) all =
    All-append (IsUntouched captures) (g t) (flat_map g states)
    (subst (λ (x : List (Option CaptureSpan)). All (IsUntouched x) (g t)) (All-head (IsUntouched captures) t states all) (leaves t))
    (flat_map-leaves g leaves captures states (All-tail (IsUntouched captures) t states all))

then-leaves : (f g : Matcher) → LeavesCaptures f → LeavesCaptures g → LeavesCaptures (f then_ g)
then-leaves f g first second s = flat_map-leaves g second s.captures (f s) (first s)

moved-leaves : (test : ℕ → Bool) (s : MatchState) (read : Option Read) → All (IsUntouched s.captures) (moved test s read)
moved-leaves test s None = All-nil (IsUntouched s.captures)
moved-leaves test s (Some read) = only_if s.captures (test read.character) (record s { position = read.position }) refl

one_character-leaves : (d : Direction) (r : Reading) (test : ℕ → Bool) → LeavesCaptures (one_character d r test)
unfolding one_character
one_character-leaves d r test s = moved-leaves test s (next_character d r s.position)

hold_at-leaves : (test : ℕ → Bool) → LeavesCaptures (hold_at test)
unfolding hold_at
hold_at-leaves test s = only_if s.captures (test s.position) s refl

module _ (d : Direction) (r : Reading) (same : ℕ → ℕ → Bool) where
  all_of-leaves : (cs : List ℕ) → LeavesCaptures (all_of d r same cs)
  all_of-leaves [] = stay-leaves
  all_of-leaves (c ∷ cs) = then-leaves (one_character d r (same c)) (all_of d r same cs) (one_character-leaves d r (same c)) (all_of-leaves cs)

  match_again-leaves : (span : Option CaptureSpan) → LeavesCaptures (match_again d r same span)
  match_again-leaves None = stay-leaves
  match_again-leaves (Some span) = all_of-leaves _

  pub back_reference-leaves : (id : ℕ) → LeavesCaptures (back_reference d r same id)
  unfolding back_reference
  back_reference-leaves id s = match_again-leaves (get_or s.captures id None) s

  any_string-leaves : (strings : List (List ℕ)) → LeavesCaptures (any_string d r same strings)
  unfolding any_string
  any_string-leaves [] = fail-leaves
  any_string-leaves (string ∷ strings) =
      or-leaves (all_of d r same (in_order d string)) (any_string d r same strings) (all_of-leaves (in_order d string)) (any_string-leaves strings)

module _ (refer : ℕ → Matcher) (leaves : (k : ℕ) → LeavesCaptures (refer k)) where
  any_reference-leaves : (ks : List ℕ) → LeavesCaptures (any_reference refer ks)
  any_reference-leaves [] = fail-leaves
  any_reference-leaves (k ∷ []) = leaves k
  any_reference-leaves (k ∷ next ∷ ks) = or-leaves (refer k) (any_reference refer (next ∷ ks)) (leaves k) (any_reference-leaves (next ∷ ks))

  each_reference-leaves : (ks : List ℕ) → LeavesCaptures (each_reference refer ks)
  each_reference-leaves [] = stay-leaves
  each_reference-leaves (k ∷ ks) = then-leaves (refer k) (each_reference refer ks) (leaves k) (each_reference-leaves ks)

module _ (setting : Setting) (all : List (Option Name)) (text : List ℕ) (d : Direction) where
  empty-leaves : (b : Bool) → LeavesCaptures (if b then stay else fail)
  empty-leaves true = stay-leaves
  empty-leaves false = fail-leaves

  pub atom-leaves : (a : Atom) → LeavesCaptures (atom_steps setting all text d a)
  atom-leaves (literal flags c) = one_character-leaves d (of_characters text) _
  atom-leaves (dot flags) = one_character-leaves d (of_characters text) _
  atom-leaves (anchor flags kind) = hold_at-leaves _
  atom-leaves (boundary flags inverted) = hold_at-leaves _
  atom-leaves (class_escape flags kind negated) = one_character-leaves d (of_characters text) _
  atom-leaves (class flags inverted members) = one_character-leaves d (of_characters text) _
  atom-leaves (class_set flags negated value) =
      or-leaves _ _
      (or-leaves _ _
      (any_string-leaves d (of_characters text) (denotes setting.table flags.icase setting.flags.unicode) (longest_first value.strings))
      (one_character-leaves d (of_characters text) _))
      (empty-leaves value.has_empty)
  atom-leaves (string_property flags written) =
      any_string-leaves d (of_characters text) (denotes setting.table flags.icase setting.flags.unicode) written
  atom-leaves (reference flags (by_number n)) = back_reference-leaves d (of_characters text) _ (n - 1)
  atom-leaves (reference flags (by_name name)) = any_reference-leaves _ (λ k. back_reference-leaves d (of_characters text) _ (k - 1)) (groups_named name 1 all)
  atom-leaves (reference flags (by_name_if_set name)) =
      each_reference-leaves _ (λ k. back_reference-leaves d (of_characters text) _ (k - 1)) (groups_named name 1 all)
