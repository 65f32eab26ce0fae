-- The text of a pattern.
use Rattle.std.proofs.Common.{◌≡◌, ◌∙◌, ℕ, true, List, [], ◌∷◌, ◌++◌, map, encode_utf8_all, refl, ap, append-nil, arith}
use Rattle.std.proofs.lemmas.List.{map-append}
use Rattle.std.proofs.lemmas.Str.{encodes-append, encodes-chars, scalars-chars}
use Rattle.std.proofs.Math.Utf8.{scalar, scalars}
use Rattle.std.specs.Char.{encode_utf8}
use Rattle.std.specs.Prelude.{chars}
use Rattle.std.specs.Str.{IsUtf8}
use Rattle.regress.specs.Source.{shown, text_of}

shown_scalar : (c : ℕ) → scalar c ≡ true → shown c ≡ c
shown_scalar c is = grind arith

shown_scalars : (cs : List ℕ) → scalars cs ≡ true → map shown cs ≡ cs
shown_scalars [] are = refl
shown_scalars (c ∷ cs) are = grind (arith, shown_scalar, shown_scalars cs)

-- UTF-8 is the text of its characters
pub text_of-chars : (text : List ℕ) → IsUtf8 text → text_of (chars text) ≡ text
text_of-chars text utf8 =
    ap encode_utf8_all (shown_scalars (chars text) (scalars-chars text utf8)) ∙ encodes-chars text utf8

pub text_of-more : (cs : List ℕ) (c : ℕ) → text_of (cs ++ c ∷ []) ≡ text_of cs ++ encode_utf8 (shown c)
text_of-more cs c =
    ap encode_utf8_all (map-append shown cs (c ∷ []))
    ∙ encodes-append (map shown cs) (shown c ∷ [])
    ∙ ap (λ bytes. text_of cs ++ bytes) (append-nil (encode_utf8 (shown c)))
