-- What is appended, as the UTF-8 of its characters.
use Rattle.std.proofs.Common.{◌≡◌, ◌<◌, ◌≤◌, ◌/◌, ℕ, Bool, List, ◌∷◌, [], ◌++◌, codes, Result, Ok, Err, arith, encode_utf8_all, flat_map, append_assoc, append-nil, sym, ap, ◌∙◌}
use Rattle.std.specs.Prelude.{OnOk, if◌then◌else◌}
use Rattle.std.proofs.lemmas.Bool.{le-leb, lt-leb}
use Rattle.std.proofs.lemmas.Str.{encodes-append}
use Rattle.regress_lexer.specs.Source.{char}
use Rattle.regress_escape.specs.Escape.{encoded, encoded_first, escaped, hex_digits, numeric_escape}

pub joined : (old xs ys : List ℕ) → (old ++ encode_utf8_all xs) ++ encode_utf8_all ys ≡ old ++ encode_utf8_all (xs ++ ys)
joined old xs ys = append_assoc old (encode_utf8_all xs) (encode_utf8_all ys) ∙ ap (λ (zs : List ℕ). old ++ zs) (sym (encodes-append xs ys))

-- the escape of a character by its code, written in parts
pub short_code : (c code : ℕ) (old mid new : List ℕ) → code ≡ c → code ≤ 255 → mid ≡ old ++ encode_utf8_all (char "\\" ∷ char "x" ∷ []) →
    new ≡ mid ++ encode_utf8_all (hex_digits 2 code) → new ≡ old ++ encode_utf8_all (numeric_escape c)
short_code c code old mid new is small first last =
    let two : numeric_escape code ≡ codes "\\x" ++ hex_digits 2 code =
    ap (λ (b : Bool). if b then codes "\\x" ++ hex_digits 2 code else codes "\\u" ++ hex_digits 4 code) (le-leb code 255 small) in
    last ∙ ap (λ (zs : List ℕ). zs ++ encode_utf8_all (hex_digits 2 code)) first ∙ joined old (codes "\\x") (hex_digits 2 code)
    ∙ ap (λ (zs : List ℕ). old ++ encode_utf8_all zs) (sym two) ∙ ap (λ (d : ℕ). old ++ encode_utf8_all (numeric_escape d)) is

pub long_code : (c code : ℕ) (old mid most new : List ℕ) → code ≡ c → 255 < code → mid ≡ old ++ encode_utf8_all (char "\\" ∷ char "u" ∷ []) →
    most ≡ mid ++ encode_utf8_all (hex_digits 2 (code / 256)) → new ≡ most ++ encode_utf8_all (hex_digits 2 code) →
    new ≡ old ++ encode_utf8_all (numeric_escape c)
long_code c code old mid most new is large first second last =
    let high : code / 16 / 16 ≡ code / 256 = omega arith in
    let halves : hex_digits 4 code ≡ hex_digits 2 (code / 256) ++ hex_digits 2 code = ap (λ (d : ℕ). hex_digits 2 d ++ hex_digits 2 code) high in
    let four : numeric_escape code ≡ codes "\\u" ++ hex_digits 4 code =
    ap (λ (b : Bool). if b then codes "\\x" ++ hex_digits 2 code else codes "\\u" ++ hex_digits 4 code) (lt-leb code 255 large) in
    last
    ∙ ap (λ (zs : List ℕ). zs ++ encode_utf8_all (hex_digits 2 code))
    (second ∙ ap (λ (zs : List ℕ). zs ++ encode_utf8_all (hex_digits 2 (code / 256))) first ∙ joined old (codes "\\u") (hex_digits 2 (code / 256)))
    ∙ joined old (codes "\\u" ++ hex_digits 2 (code / 256)) (hex_digits 2 code)
    ∙ ap (λ (zs : List ℕ). old ++ encode_utf8_all (codes "\\u" ++ zs)) (sym halves)
    ∙ ap (λ (zs : List ℕ). old ++ encode_utf8_all zs) (sym four) ∙ ap (λ (d : ℕ). old ++ encode_utf8_all (numeric_escape d)) is

-- a fact about success, from another one
pub on_ok_from : {T E P Q : Type 0} (r : Result T E) → (P → Q) → OnOk r P → OnOk r Q
on_ok_from (Ok x) from p = from p
on_ok_from (Err e) from p = tt

encoded_last : (cs : List ℕ) (c : ℕ) → flat_map encoded (cs ++ c ∷ []) ≡ flat_map encoded cs ++ encoded c
encoded_last [] c = append-nil (encoded c)
encoded_last (d ∷ cs) c = ap (λ (zs : List ℕ). encoded d ++ zs) (encoded_last cs c) ∙ sym (append_assoc (encoded d) (flat_map encoded cs) (encoded c))

-- one more character
pub one_more : (first before after cs : List ℕ) (c : ℕ) → before ≡ first ++ encode_utf8_all (flat_map encoded cs) →
    after ≡ before ++ encode_utf8_all (encoded c) → after ≡ first ++ encode_utf8_all (flat_map encoded (cs ++ c ∷ []))
one_more first before after cs c so_far last =
    last ∙ ap (λ (zs : List ℕ). zs ++ encode_utf8_all (encoded c)) so_far ∙ joined first (flat_map encoded cs) (encoded c)
    ∙ ap (λ (zs : List ℕ). first ++ encode_utf8_all zs) (sym (encoded_last cs c))

-- the whole pattern, which begins with the first character
pub whole : (start front all cs : List ℕ) (c : ℕ) → start ≡ [] → front ≡ start ++ encode_utf8_all (encoded_first c) →
    all ≡ front ++ encode_utf8_all (flat_map encoded cs) → encode_utf8_all (escaped (c ∷ cs)) ≡ all
whole start front all cs c empty first rest =
    encodes-append (encoded_first c) (flat_map encoded cs)
    ∙ ap (λ (zs : List ℕ). zs ++ encode_utf8_all (flat_map encoded cs)) (sym (first ∙ ap (λ (zs : List ℕ). zs ++ encode_utf8_all (encoded_first c)) empty))
    ∙ sym rest
