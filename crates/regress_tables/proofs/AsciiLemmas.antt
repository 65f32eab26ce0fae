-- The row on the other side of an ASCII character.
use Rattle.std.proofs.Common.{◌≡◌, ◌≢◌, ℕ, ◌+◌, ◌-◌, ◌≤◌, ◌<◌, ◌==◌, ◌⊎◌, Bool, true, false, List, Option, Some, None, refl, sym, ap, ◌∙◌, inl, inr, arith, if◌then◌else◌, nat_le}
use Rattle.std.specs.Char.{len_utf8}
use Rattle.std.specs.Option.{option_or, option_and_then}
use Rattle.std.proofs.lemmas.Bool.{eqb-true, leb-true}
use Rattle.std.proofs.lemmas.Str.{len_utf8_ascii}
use Rattle.regress_prefilter.proofs.lemmas.OneCharacter.{after_parts}
use Rattle.regress_program.specs.Below.{row_of}
use Rattle.regress_tree.specs.Reading.{Direction, forwards, backwards, Read, character_at, next_character, of_bytes, read_before, read_before_by}

character-in : Option Read → ℕ
character-in None = 0
character-in (Some read) = read.character

position-in : Option Read → ℕ
position-in None = 0
position-in (Some read) = read.position

either-or : (a b : Option Read) (read : Read) → option_or a b ≡ Some read → (a ≡ Some read) ⊎ (b ≡ Some read)
either-or None b read e = inr e
either-or (Some x) b read e = inl e

-- the length of a character that ends at a position
by-parts : (bytes : List ℕ) (n k : ℕ) (read : Read) → read_before_by bytes n k ≡ Some read →
    (n ≤ k) × (len_utf8 read.character ≡ n) × (read.position ≡ k - n)
unfolding character-in position-in
by-parts bytes n k read e = by (nat_le n k) refl e
  where
    sized : (c : ℕ) (b : Bool) → (len_utf8 c == n) ≡ b → (if b then Some (record { character = c; position = k - n }) else None) ≡ Some read →
        (len_utf8 read.character ≡ n) × (read.position ≡ k - n)
    sized c true is e' = (ap len_utf8 (sym (ap character-in e')) ∙ eqb-true (len_utf8 c) n is, sym (ap position-in e'))
    sized c false is e' = let bad : ⊥ = cc in absurd bad

    of : (o : Option ℕ) → option_and_then (λ c. if len_utf8 c == n then Some (record { character = c; position = k - n }) else None) o ≡ Some read →
        (len_utf8 read.character ≡ n) × (read.position ≡ k - n)
    of None e' = let bad : ⊥ = cc in absurd bad
    of (Some c) e' = sized c (len_utf8 c == n) refl e'

    by : (b : Bool) → nat_le n k ≡ b →
        (if b then option_and_then (λ c. if len_utf8 c == n then Some (record { character = c; position = k - n }) else None) (character_at bytes (k - n))
        else None) ≡ Some read →
        (n ≤ k) × (len_utf8 read.character ≡ n) × (read.position ≡ k - n)
    by true is e' = let parts = of (character_at bytes (k - n)) e' in (leb-true n k is, parts.0, parts.1)
    by false is e' = let bad : ⊥ = cc in absurd bad

before-ascii : (bytes : List ℕ) (k : ℕ) (read : Read) → read_before bytes k ≡ Some read → read.character < 128 → read.position + 1 ≡ k
unfolding read_before
before-ascii bytes k read e ascii =
    elim (either-or (read_before_by bytes 1 k) _ read e) [
      | inl one ↦ let parts = by-parts bytes 1 k read one in omega (arith, parts.0, parts.2)
      | inr more ↦ elim (either-or (read_before_by bytes 2 k) _ read more) [
        | inl two ↦ absurd (omega (arith, (by-parts bytes 2 k read two).1, len_utf8_ascii read.character ascii))
        | inr rest ↦ elim (either-or (read_before_by bytes 3 k) _ read rest) [
          | inl three ↦ absurd (omega (arith, (by-parts bytes 3 k read three).1, len_utf8_ascii read.character ascii))
          | inr four ↦ absurd (omega (arith, (by-parts bytes 4 k read four).1, len_utf8_ascii read.character ascii))
        ]
      ]
    ]

-- The position on the other side of an ASCII character has the row before.
pub row-behind : (d : Direction) (bytes : List ℕ) (n k : ℕ) (read : Read) → next_character d (of_bytes bytes) k ≡ Some read → read.character < 128 →
    0 < row_of d n k → k ≤ n → (row_of d n read.position + 1 ≡ row_of d n k) × (read.position ≤ n) × (read.position ≢ k)
row-behind forwards bytes n k read e ascii some within =
    let to : read.position ≡ k + 1 = omega (arith, (after_parts bytes k read e).1, len_utf8_ascii read.character ascii) in
    (omega (arith, to, some, within), omega (arith, to, some), λ same. omega (arith, to, same))
row-behind backwards bytes n k read e ascii some within =
    let to = before-ascii bytes k read e ascii in
    (to, omega (arith, to, within), λ same. omega (arith, to, same))
