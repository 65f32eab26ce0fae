-- Lemmas about bytes that are the UTF-8 of characters.
use Rattle.std.proofs.Math.ListN.{get_or-map}
use Rattle.std.proofs.lemmas.List.{length-map}
use Rattle.std.proofs.Common.{◌≡◌, ℕ, ◌<◌, ◌==◌, get_or, map, subst, true, IsTrue, List, [], ◌∷◌, length, All, Bool, Result, Ok, Err, MatchResult, refl, sym, ap, ◌∙◌, ◌↔◌, eqb-true, eq-eqb}
use Rattle.std.specs.Char.{IsScalar}
use Rattle.std.specs.Result.{is_ok}
use Rattle.std.specs.Str.{chars, IsUtf8}
use Rattle.std.proofs.Math.Utf8.{scalar, scalars}
use Rattle.std.proofs.lemmas.Bool.{and_parts, and_from, false≢true}
use Rattle.std.proofs.lemmas.List.Elements.{All-nil, All-cons, All-head, All-tail}
use Rattle.std.proofs.lemmas.Str.{scalars-chars, encodes-chars, chars_from_encodes}
use Rattle.regress_tree.specs.Reading.{IsText}
use Rattle.regress_tree.specs.WellFormed.{Position, AreUtf8, inside, one_character}

text-from : (cs : List ℕ) → scalars cs ≡ true → IsText cs
text-from [] e = All-nil IsScalar
text-from (c ∷ cs) e =
    let parts = and_parts (scalar c) (scalars cs) e in
    All-cons IsScalar c cs parts.0 (text-from cs parts.1)

scalars-from : (cs : List ℕ) → IsText cs → scalars cs ≡ true
scalars-from [] text = refl
scalars-from (c ∷ cs) text =
    and_from (scalar c) (scalars cs) (All-head IsScalar c cs text) (scalars-from cs (All-tail IsScalar c cs text))

pub utf8-from : (bytes : List ℕ) (p : Position) → AreUtf8 bytes p → IsUtf8 bytes
utf8-from bytes p are = (are.characters, (scalars-from are.characters are.are_scalar, sym are.encoded))

pub are-utf8 : (bytes : List ℕ) → IsUtf8 bytes → AreUtf8 bytes inside
are-utf8 bytes utf8 = record {
  characters = chars bytes;
  are_scalar = text-from (chars bytes) (scalars-chars bytes utf8);
  encoded = sym (encodes-chars bytes utf8);
  one = tt;
}

pub are-one : (bytes : List ℕ) → IsUtf8 bytes → length (chars bytes) ≡ 1 → AreUtf8 bytes one_character
are-one bytes utf8 one = record {
  characters = chars bytes;
  are_scalar = text-from (chars bytes) (scalars-chars bytes utf8);
  encoded = sym (encodes-chars bytes utf8);
  one = one;
}

pub one-are : (bytes : List ℕ) → AreUtf8 bytes one_character → length (chars bytes) ≡ 1
one-are bytes are =
    ap length (sym (chars_from_encodes are.characters bytes (utf8-from bytes one_character are) (sym are.encoded))) ∙ are.one

pub reports-utf8 : {X E : Type 0} (P : X → Type 0) (Q : E → Type 0) (r : Result X E) (reported : Bool) (bytes : List ℕ) →
    MatchResult r (λ s. P s × IsUtf8 bytes) (λ e. ¬ IsUtf8 bytes × Q e) → reported ≡ is_ok r → IsTrue reported ↔ AreUtf8 bytes inside
reports-utf8 P Q (Ok s) reported bytes cases e = (λ _. are-utf8 bytes cases.1, λ _. e)
reports-utf8 P Q (Err s) reported bytes cases e =
    (λ said. absurd (false≢true (sym e ∙ said)), λ are. absurd (cases.0 (utf8-from bytes inside are)))

pub reports-one : (bytes : List ℕ) (count : ℕ) → IsUtf8 bytes → count ≡ length (chars bytes) →
    IsTrue (count == 1) ↔ AreUtf8 bytes one_character
reports-one bytes count utf8 e =
    (λ said. are-one bytes utf8 (sym e ∙ eqb-true count 1 said), λ are. eq-eqb count 1 (e ∙ one-are bytes are))

-- What holds for all elements of a mapped list holds for the mapped element.
pub at-mapped : {X Y : Type 0} (P : Y → Type 0) (f : X → Y) (xs : List X) (i : ℕ) (d x : X) → i < length xs → x ≡ get_or xs i d →
    All P (map f xs) → P (f x)
at-mapped P f xs i d x h at all =
    let inside : i < length (map f xs) = rw length-map h in
    subst P (get_or-map f xs i d ∙ ap f (sym at)) (all i (f d) inside)
