-- No escaped text contains a `<`, a `>` or a `"`.
use Rattle.std.proofs.Common.{◌≡◌, ◌∙◌, ℕ, ◌+◌, ◌/◌, ◌≤◌, Bool, true, false, ◌&&◌, List, [], ◌∷◌, flat_map, if◌then◌else◌, refl, arith, ◌==◌}
use Rattle.std.specs.List.{list_all}
use Rattle.std.proofs.lemmas.Bool.Decides.{nat_tests}
use Rattle.std.proofs.lemmas.List.Folds.{list_all-append}
use Rattle.regress_svg.specs.Escape.{escaped, is_legal, is_text_byte}
use lib.Dec.{ltb}
use lib.Utf8.{encode, next}

both : (a b : Bool) → a ≡ true → b ≡ true → (a && b) ≡ true
both true b one two = two
both false b one two = one

-- One of two texts is chosen.
chosen : (b : Bool) (x y : List ℕ) → list_all is_text_byte x ≡ true → (b ≡ false → list_all is_text_byte y ≡ true) →
    list_all is_text_byte (if b then x else y) ≡ true
chosen true x y one two = one
chosen false x y one two = two refl

plain : (b : ℕ) → (b == 60) ≡ false → (b == 62) ≡ false → (b == 34) ≡ false → is_text_byte b ≡ true
plain b less greater quote = rw (less, greater, quote) refl

high : (b : ℕ) → 128 ≤ b → is_text_byte b ≡ true
high b above = plain b (grind (arith, nat_tests)) (grind (arith, nat_tests)) (grind (arith, nat_tests))

after : (b : ℕ) (bytes : List ℕ) → 128 ≤ b → list_all is_text_byte bytes ≡ true → list_all is_text_byte (b ∷ bytes) ≡ true
after b bytes above rest = both (is_text_byte b) (list_all is_text_byte bytes) (high b above) rest

last : (c : ℕ) → list_all is_text_byte (next c ∷ []) ≡ true
last c = after (next c) [] (omega arith) refl

last_two : (c : ℕ) → list_all is_text_byte (next (c / 64) ∷ next c ∷ []) ≡ true
last_two c = after (next (c / 64)) (next c ∷ []) (omega arith) (last c)

last_three : (c : ℕ) → list_all is_text_byte (next (c / 4096) ∷ next (c / 64) ∷ next c ∷ []) ≡ true
last_three c = after (next (c / 4096)) (next (c / 64) ∷ next c ∷ []) (omega arith) (last_two c)

plain_encoded : (c : ℕ) → is_text_byte c ≡ true → list_all is_text_byte (encode c) ≡ true
unfolding encode
plain_encoded c own =
    let two = (192 + c / 64) ∷ next c ∷ [] in
    let three = (224 + c / 4096) ∷ next (c / 64) ∷ next c ∷ [] in
    let four = (240 + c / 262144) ∷ next (c / 4096) ∷ next (c / 64) ∷ next c ∷ [] in
    chosen (ltb c 128) (c ∷ []) (if ltb c 2048 then two else (if ltb c 65536 then three else four)) (both (is_text_byte c) true own refl)
    (λ _. chosen (ltb c 2048) two (if ltb c 65536 then three else four) (after (192 + c / 64) (next c ∷ []) (omega arith) (last c))
    (λ _. chosen (ltb c 65536) three four (after (224 + c / 4096) (next (c / 64) ∷ next c ∷ []) (omega arith) (last_two c))
    (λ _. after (240 + c / 262144) (next (c / 4096) ∷ next (c / 64) ∷ next c ∷ []) (omega arith) (last_three c))))

plain_character : (c : ℕ) → list_all is_text_byte (escaped c) ≡ true
plain_character c =
    chosen (c == 38) _ _ refl (λ _. chosen (c == 60) _ _ refl (λ less. chosen (c == 62) _ _ refl (λ greater.
    chosen (c == 34) _ _ refl (λ quote. chosen (c == 9) _ _ refl (λ _. chosen (c == 10) _ _ refl (λ _. chosen (c == 13) _ _ refl (λ _.
    chosen (is_legal c) _ _ (plain_encoded c (plain c less greater quote)) (λ _. plain_encoded 0xFFFD refl))))))))

pub plain_texts : (cs : List ℕ) → list_all is_text_byte (flat_map escaped cs) ≡ true
plain_texts [] = refl
plain_texts (c ∷ cs) =
    list_all-append is_text_byte (escaped c) (flat_map escaped cs) ∙ both _ _ (plain_character c) (plain_texts cs)
