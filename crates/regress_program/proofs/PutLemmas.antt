-- A part that is no back reference has at most one outcome, which depends on the position alone.
use Rattle.std.proofs.Common.{◌≡◌, ℕ, zero, suc, ◌+◌, ◌-◌, Bool, true, false, ◌&&◌, List, [], ◌∷◌, ◌++◌, drop, flat_map, length, nat_eq, nat_le, Option, Some, None, if◌then◌else◌, refl, ap, ◌∙◌, append-nil}
use Rattle.std.specs.List.{starts_with}
use Rattle.regress_base.specs.Table.{denotes}
use Rattle.regress_tree.specs.Matching.{steps}
use Rattle.regress_tree.specs.Reading.{Direction, forwards, backwards, Reading, Read, next_character, of_bytes}
use Rattle.regress_tree.specs.References.{all_of, in_order, any_string}
use Rattle.regress_tree.specs.Repetition.{iterations}
use Rattle.regress_tree.specs.Steps.{MatchState, Matcher, stay, ◌then_◌, moved, one_character, these_bytes, hold_at, Setting}
use Rattle.regress_tree.specs.Tree.{empty, goal, char, byte_sequence, byte_set, char_set, match_any, match_any_except_line_terminator, anchor, word_boundary, bracket, back_ref, string_set, capture_group, loop, loop_one, lookaround, Tree, leaf, cat, alt, wrapped}
use Rattle.regress_leaves.specs.Leaves.{put}
use Rattle.regress_leaves.proofs.lemmas.Leaves.{any-nil, any-cons, counted-steps}
use Rattle.regress_program.specs.Linear.{is_back_ref}
use Rattle.regress_program.specs.Shape.{IsPart}
use Rattle.regress_program.proofs.PartLemmas.{part_if_one, plain_if_one}

-- From the position the outcome moves to `to`, or there is none, whatever the captures are.
pub record Puts (f : Matcher) (position : ℕ) : Type 0 where
  pub to : Option ℕ
  pub goes : (s : MatchState) → s.position ≡ position → f s ≡ put s to

-- the same for states at each position
record PutsFor (f : MatchState → List MatchState) : Type 0 where
  to : Option ℕ
  goes : (s : MatchState) → f s ≡ put s to

puts-if : (b : Bool) (q : ℕ) → PutsFor (λ s. if b then record s { position = q } ∷ [] else [])
puts-if true q = record { to = Some q; goes = λ s. refl }
puts-if false q = record { to = None; goes = λ s. refl }

puts-moved : (test : ℕ → Bool) (o : Option Read) → PutsFor (λ s. moved test s o)
puts-moved test None = record { to = None; goes = λ s. refl }
puts-moved test (Some r) = puts-if (test r.character) r.position

put-again : (s : MatchState) (q : ℕ) (to : Option ℕ) → put (record s { position = q }) to ≡ put s to
put-again s q None = refl
put-again s q (Some k) = refl

module _ (p : ℕ) where
  puts-stay : Puts stay p
  puts-stay = record { to = Some p; goes = λ s at. ap (λ k. record s { position = k } ∷ []) at }

  puts-one_character : (d : Direction) (r : Reading) (test : ℕ → Bool) → Puts (one_character d r test) p
  unfolding one_character
  puts-one_character d r test =
      let one = puts-moved test (next_character d r p) in
      record { to = one.to; goes = λ s at. ap (λ k. moved test s (next_character d r k)) at ∙ one.goes s }

  puts-these_bytes : (d : Direction) (bytes written : List ℕ) → Puts (these_bytes d bytes written) p
  unfolding these_bytes
  puts-these_bytes forwards bytes written =
      let one = puts-if (starts_with nat_eq (drop p bytes) written) (p + length written) in
      record {
        to = one.to;
        goes = λ s at.
            ap (λ k. if starts_with nat_eq (drop k bytes) written then record s { position = k + length written } ∷ [] else []) at
            ∙ one.goes s;
      }
  puts-these_bytes backwards bytes written =
      let here : ℕ → Bool = λ k. nat_le (length written) k && starts_with nat_eq (drop (k - length written) bytes) written in
      let one = puts-if (here p) (p - length written) in
      record {
        to = one.to;
        goes = λ s at. ap (λ k. if here k then record s { position = k - length written } ∷ [] else []) at ∙ one.goes s;
      }

  puts-hold_at : (test : ℕ → Bool) → Puts (hold_at test) p
  unfolding hold_at
  puts-hold_at test =
      let one = puts-if (test p) p in
      record { to = one.to; goes = λ s at. ap (λ k. if test k then record s { position = k } ∷ [] else []) at ∙ one.goes s }

puts-then : (f g : Matcher) (p : ℕ) → Puts f p → ((q : ℕ) → Puts g q) → Puts (f then_ g) p
puts-then f g p first second = by first.to first.goes
  where
    by : (to : Option ℕ) → ((s : MatchState) → s.position ≡ p → f s ≡ put s to) → Puts (f then_ g) p
    by None goes = record { to = None; goes = λ s at. ap (flat_map g) (goes s at) }
    by (Some q) goes =
        let next = second q in
        record {
          to = next.to;
          goes = λ s at.
              ap (flat_map g) (goes s at) ∙ append-nil (g (record s { position = q })) ∙ next.goes (record s { position = q }) refl
              ∙ put-again s q next.to;
        }

puts-all_of : (d : Direction) (r : Reading) (same : ℕ → ℕ → Bool) (cs : List ℕ) (p : ℕ) → Puts (all_of d r same cs) p
puts-all_of d r same [] p = puts-stay p
puts-all_of d r same (c ∷ cs) p = puts-then _ _ p (puts-one_character p d r (same c)) (puts-all_of d r same cs)

puts-any_one : (d : Direction) (r : Reading) (same : ℕ → ℕ → Bool) (string : List ℕ) (p : ℕ) → Puts (any_string d r same (string ∷ [])) p
puts-any_one d r same string p =
    let one = puts-all_of d r same (in_order d string) p in
    record {
      to = one.to;
      goes = λ s at.
          any-cons d r same string [] s ∙ ap (λ xs. all_of d r same (in_order d string) s ++ xs) (any-nil d r same s)
          ∙ append-nil _ ∙ one.goes s at;
    }

puts-iterations : (n : ℕ) (f : Matcher) → ((p : ℕ) → Puts f p) → (p : ℕ) → Puts (iterations n f) p
puts-iterations zero f puts p = puts-stay p
puts-iterations (suc n) f puts p = puts-then f (iterations n f) p (puts p) (puts-iterations n f puts)

module _ (setting : Setting) (bytes : List ℕ) (d : Direction) where
  -- a part
  puts-at : (t : Tree) → IsPart t → is_back_ref t ≡ false → (p : ℕ) → Puts (steps setting bytes d t) p
  puts-at (leaf empty) is plain p = puts-stay p
  puts-at (leaf goal) is plain p = puts-stay p
  puts-at (leaf (char c)) is plain p = puts-one_character p d (of_bytes bytes) _
  puts-at (leaf (byte_sequence written)) is plain p = puts-these_bytes p d bytes written
  puts-at (leaf (byte_set members)) is plain p = puts-one_character p d (of_bytes bytes) _
  puts-at (leaf (char_set members)) is plain p = puts-one_character p d (of_bytes bytes) _
  puts-at (leaf match_any) is plain p = puts-one_character p d (of_bytes bytes) _
  puts-at (leaf match_any_except_line_terminator) is plain p = puts-one_character p d (of_bytes bytes) _
  puts-at (leaf (anchor kind multiline)) is plain p = puts-hold_at p _
  puts-at (leaf (word_boundary invert unicode_icase)) is plain p = puts-hold_at p _
  puts-at (leaf (bracket invert intervals)) is plain p = puts-one_character p d (of_bytes bytes) _
  puts-at (leaf (back_ref group icase)) is plain p = cc
  puts-at (leaf (string_set [] icase)) is plain p = absurd is
  puts-at (leaf (string_set (string ∷ []) icase)) is plain p =
      puts-any_one d (of_bytes bytes) (denotes setting.table icase setting.flags.unicode) string p
  puts-at (leaf (string_set (string ∷ another ∷ strings) icase)) is plain p = absurd is
  puts-at (cat parts) is plain p = absurd is
  puts-at (alt left right) is plain p = absurd is
  puts-at (wrapped (loop_one q) body) is plain p =
      let all = puts-iterations q.min (steps setting bytes d body) (puts-at body (part_if_one body is.1) (plain_if_one body is.1)) p in
      record { to = all.to; goes = λ s at. counted-steps setting bytes d q body s is.0 ∙ all.goes s at }
  puts-at (wrapped (capture_group id name) body) is plain p = absurd is
  puts-at (wrapped (loop q start end) body) is plain p = absurd is
  puts-at (wrapped (lookaround negate looks_back start end) body) is plain p = absurd is

  pub puts-part : (p : ℕ) (t : Tree) → IsPart t → is_back_ref t ≡ false → Puts (steps setting bytes d t) p
  puts-part p t is plain = puts-at t is plain p
