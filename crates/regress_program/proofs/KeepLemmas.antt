-- A part changes no capture.
use Rattle.std.proofs.Common.{◌≡◌, ℕ, zero, suc, ◌+◌, ◌-◌, Bool, true, false, List, [], ◌∷◌, flat_map, length, Option, Some, None, All, get_or, if◌then◌else◌, refl, sym, subst}
use Rattle.std.proofs.lemmas.List.Elements.{All-nil, All-cons, All-head, All-tail, All-append}
use Rattle.regress_base.specs.Table.{denotes}
use Rattle.regress_tree.specs.Matching.{steps}
use Rattle.regress_tree.specs.Reading.{Direction, forwards, backwards, Reading, Read, next_character, of_bytes}
use Rattle.regress_tree.specs.References.{all_of, back_reference, in_order, match_again, any_string}
use Rattle.regress_tree.specs.Repetition.{iterations}
use Rattle.regress_tree.specs.Steps.{CaptureSpan, MatchState, Matcher, moved, one_character, these_bytes, hold_at, Setting}
use Rattle.regress_tree.specs.Tree.{empty, goal, char, byte_sequence, byte_set, char_set, match_any, match_any_except_line_terminator, anchor, word_boundary, bracket, back_ref, string_set, capture_group, loop, loop_one, lookaround, Tree, leaf, cat, alt, wrapped}
use Rattle.regress_leaves.proofs.lemmas.Leaves.{any-nil, any-cons, counted-steps}
use Rattle.regress_program.specs.Shape.{IsPart}
use Rattle.regress_program.proofs.PartLemmas.{part_if_one}

abbrev pub Has : List (Option CaptureSpan) → MatchState → Type 0
Has cs t = t.captures ≡ cs

abbrev pub Keeps : Matcher → Type 0
Keeps f = (s : MatchState) → All (Has s.captures) (f s)

one_has : (cs : List (Option CaptureSpan)) (t : MatchState) → t.captures ≡ cs → All (Has cs) (t ∷ [])
one_has cs t is = All-cons (Has cs) t [] is (All-nil (Has cs))

if_has : (cs : List (Option CaptureSpan)) (b : Bool) (t : MatchState) → t.captures ≡ cs → All (Has cs) (if b then t ∷ [] else [])
if_has cs true t is = one_has cs t is
if_has cs false t is = All-nil (Has cs)

pub flat_map-all : {A B : Type 0} (P P' : A → Type 0) (Q : B → Type 0) (f : A → List B) (xs : List A) → All P xs → All P' xs →
    ((x : A) → P x → P' x → All Q (f x)) → All Q (flat_map f xs)
flat_map-all P P' Q f [] all all' each = All-nil Q
flat_map-all P P' Q f (x ∷ xs) all all' each =
    All-append Q (f x) (flat_map f xs) (each x (All-head P x xs all) (All-head P' x xs all'))
    (flat_map-all P P' Q f xs (All-tail P x xs all) (All-tail P' x xs all') each)

moved_has : (test : ℕ → Bool) (s : MatchState) (o : Option Read) → All (Has s.captures) (moved test s o)
moved_has test s None = All-nil (Has s.captures)
moved_has test s (Some r) = if_has s.captures (test r.character) (record s { position = r.position }) refl

one_character-keeps : (d : Direction) (r : Reading) (test : ℕ → Bool) → Keeps (one_character d r test)
unfolding one_character
one_character-keeps d r test s = moved_has test s (next_character d r s.position)

these_bytes-keeps : (d : Direction) (bytes written : List ℕ) → Keeps (these_bytes d bytes written)
unfolding these_bytes
these_bytes-keeps forwards bytes written s = if_has s.captures _ (record s { position = s.position + length written }) refl
these_bytes-keeps backwards bytes written s = if_has s.captures _ (record s { position = s.position - length written }) refl

hold_at-keeps : (test : ℕ → Bool) → Keeps (hold_at test)
unfolding hold_at
hold_at-keeps test s = if_has s.captures (test s.position) s refl

all_of-keeps : (d : Direction) (r : Reading) (same : ℕ → ℕ → Bool) (cs : List ℕ) → Keeps (all_of d r same cs)
all_of-keeps d r same [] s = one_has s.captures s refl
all_of-keeps d r same (c ∷ cs) s =
    flat_map-all (Has s.captures) (Has s.captures) (Has s.captures) (all_of d r same cs) (one_character d r (same c) s)
    (one_character-keeps d r (same c) s) (one_character-keeps d r (same c) s)
    (λ t is is'. subst (λ x. All (Has x) (all_of d r same cs t)) is (all_of-keeps d r same cs t))

match_again-keeps : (d : Direction) (r : Reading) (same : ℕ → ℕ → Bool) (span : Option CaptureSpan) → Keeps (match_again d r same span)
match_again-keeps d r same None s = one_has s.captures s refl
match_again-keeps d r same (Some span) s = all_of-keeps d r same _ s

back_reference-keeps : (d : Direction) (r : Reading) (same : ℕ → ℕ → Bool) (id : ℕ) → Keeps (back_reference d r same id)
unfolding back_reference
back_reference-keeps d r same id s = match_again-keeps d r same (get_or s.captures id None) s

any_one-keeps : (d : Direction) (r : Reading) (same : ℕ → ℕ → Bool) (string : List ℕ) → Keeps (any_string d r same (string ∷ []))
any_one-keeps d r same string s =
    subst (All (Has s.captures)) (sym (any-cons d r same string [] s))
    (All-append (Has s.captures) (all_of d r same (in_order d string) s) (any_string d r same [] s) (all_of-keeps d r same (in_order d string) s)
    (subst (All (Has s.captures)) (sym (any-nil d r same s)) (All-nil (Has s.captures))))

iterations-keeps : (n : ℕ) (f : Matcher) → Keeps f → Keeps (iterations n f)
iterations-keeps zero f keeps s = one_has s.captures s refl
iterations-keeps (suc n) f keeps s =
    flat_map-all (Has s.captures) (Has s.captures) (Has s.captures) (iterations n f) (f s) (keeps s) (keeps s)
    (λ t is is'. subst (λ x. All (Has x) (iterations n f t)) is (iterations-keeps n f keeps t))

module _ (setting : Setting) (bytes : List ℕ) (d : Direction) where
  pub part-keeps : (t : Tree) → IsPart t → Keeps (steps setting bytes d t)
  part-keeps (leaf empty) is s = one_has s.captures s refl
  part-keeps (leaf goal) is s = one_has s.captures s refl
  part-keeps (leaf (char c)) is s = one_character-keeps d (of_bytes bytes) _ s
  part-keeps (leaf (byte_sequence written)) is s = these_bytes-keeps d bytes written s
  part-keeps (leaf (byte_set members)) is s = one_character-keeps d (of_bytes bytes) _ s
  part-keeps (leaf (char_set members)) is s = one_character-keeps d (of_bytes bytes) _ s
  part-keeps (leaf match_any) is s = one_character-keeps d (of_bytes bytes) _ s
  part-keeps (leaf match_any_except_line_terminator) is s = one_character-keeps d (of_bytes bytes) _ s
  part-keeps (leaf (anchor kind multiline)) is s = hold_at-keeps _ s
  part-keeps (leaf (word_boundary invert unicode_icase)) is s = hold_at-keeps _ s
  part-keeps (leaf (bracket invert intervals)) is s = one_character-keeps d (of_bytes bytes) _ s
  part-keeps (leaf (back_ref group icase)) is s = back_reference-keeps d (of_bytes bytes) _ (group - 1) s
  part-keeps (leaf (string_set [] icase)) is s = absurd is
  part-keeps (leaf (string_set (string ∷ []) icase)) is s = any_one-keeps d (of_bytes bytes) (denotes setting.table icase setting.flags.unicode) string s
  part-keeps (leaf (string_set (string ∷ another ∷ strings) icase)) is s = absurd is
  part-keeps (cat parts) is s = absurd is
  part-keeps (alt left right) is s = absurd is
  part-keeps (wrapped (loop_one q) body) is s =
      subst (All (Has s.captures)) (sym (counted-steps setting bytes d q body s is.0))
      (iterations-keeps q.min (steps setting bytes d body) (part-keeps body (part_if_one body is.1)) s)
  part-keeps (wrapped (capture_group id name) body) is s = absurd is
  part-keeps (wrapped (loop q start end) body) is s = absurd is
  part-keeps (wrapped (lookaround negate looks_back start end) body) is s = absurd is
