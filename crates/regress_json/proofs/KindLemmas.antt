-- The text of a node begins with its kind and determines the node's members.
use Rattle.std.proofs.Common.{◌≡◌, ◌∙◌, ℕ, ◌+◌, ◌*◌, ◌==◌, true, false, List, [], ◌∷◌, ◌++◌, refl, sym, ap, append_assoc, codes}
use Rattle.std.proofs.lemmas.Bool.{eq-eqb}
use Rattle.std.proofs.lemmas.List.{append_cancel_left}
use Rattle.regress_tree.specs.Tree.{Leaf, empty, goal, char, byte_sequence, byte_set, char_set, match_any, match_any_except_line_terminator, anchor, word_boundary, bracket, back_ref, string_set, Wrapper, capture_group, loop, loop_one, lookaround}
use Rattle.regress_json.specs.Json.{is_word, numbers, interval, leaf_json, front}
use Rattle.regress_json.proofs.DeterminingLemmas.{Determines, gives, if_ended, then, start, more, more_items, items-determine, words-determine, number-determines}
use Rattle.regress_json.proofs.PieceLemmas.{truth-determines, anchored-determines, numbers-determine, pair-determines, interval-determines, quantifier-determines, name-determines}

pub record HasKind (text kind : List ℕ) : Type 0 where
  pub letters : is_word kind ≡ true
  pub rest : List ℕ
  pub begins : text ≡ codes "{\"kind\":\"" ++ (kind ++ (codes "\"" ++ rest))

pub begun : (kind rest : List ℕ) → is_word kind ≡ true → HasKind (codes "{\"kind\":\"" ++ (kind ++ (codes "\"" ++ rest))) kind
begun kind rest h = record { letters = h; rest = rest; begins = refl }

-- text appended at the end keeps the kind
pub begun_more : {p kind : List ℕ} → HasKind p kind → (s : List ℕ) → HasKind (p ++ s) kind
begun_more {p} {kind} h s = record {
  letters = h.letters;
  rest = h.rest ++ s;
  begins = ap (λ xs. xs ++ s) h.begins ∙ ap (λ xs. codes "{\"kind\":\"" ++ xs) (append_assoc kind (codes "\"" ++ h.rest) s);
}

-- two kinds that f distinguishes
pub kinds-apart : (f : List ℕ → ℕ) {p q k l : List ℕ} {E : Type 0} → HasKind p k → HasKind q l → (f k == f l) ≡ false → Determines p q E
kinds-apart f {p} {q} {k} {l} hp hq differ = record { determined = λ a b e. absurd (none a b e) }
  where
    none : (a b : List ℕ) → p ++ a ≡ q ++ b → ⊥
    none a b e =
        let ha = begun_more hp a in
        let hb = begun_more hq b in
        let same_kind : k ≡ l = ((words-determine k l hp.letters hq.letters).determined (codes "\"" ++ ha.rest) (codes "\"" ++ hb.rest) refl refl
        (append_cancel_left (codes "{\"kind\":\"") (k ++ (codes "\"" ++ ha.rest)) (l ++ (codes "\"" ++ hb.rest))
        (sym ha.begins ∙ e ∙ hb.begins))).0 in
        let bad : true ≡ false = sym (eq-eqb (f k) (f l) (ap f same_kind)) ∙ differ in
        cc

-- a name as one number
abbrev pub code : List ℕ → ℕ
code [] = 0
code (b ∷ bs) = b + 256 * code bs

abbrev pub leaf_kind : Leaf → List ℕ
leaf_kind empty = codes "Empty"
leaf_kind goal = codes "Goal"
leaf_kind (char c) = codes "Char"
leaf_kind (byte_sequence bytes) = codes "ByteSequence"
leaf_kind (byte_set bytes) = codes "ByteSet"
leaf_kind (char_set characters) = codes "CharSet"
leaf_kind match_any = codes "MatchAny"
leaf_kind match_any_except_line_terminator = codes "MatchAnyExceptLineTerminator"
leaf_kind (anchor kind multiline) = codes "Anchor"
leaf_kind (word_boundary invert unicode_icase) = codes "WordBoundary"
leaf_kind (bracket invert intervals) = codes "Bracket"
leaf_kind (back_ref group icase) = codes "BackRef"
leaf_kind (string_set strings icase) = codes "StringSet"

pub leaf-kind : (l : Leaf) → HasKind (leaf_json l) (leaf_kind l)
leaf-kind empty = begun (codes "Empty") _ refl
leaf-kind goal = begun (codes "Goal") _ refl
leaf-kind (char c) = begun (codes "Char") _ refl
leaf-kind (byte_sequence bytes) = begun (codes "ByteSequence") _ refl
leaf-kind (byte_set bytes) = begun (codes "ByteSet") _ refl
leaf-kind (char_set characters) = begun (codes "CharSet") _ refl
leaf-kind match_any = begun (codes "MatchAny") _ refl
leaf-kind match_any_except_line_terminator = begun (codes "MatchAnyExceptLineTerminator") _ refl
leaf-kind (anchor kind multiline) = begun (codes "Anchor") _ refl
leaf-kind (word_boundary invert unicode_icase) = begun (codes "WordBoundary") _ refl
leaf-kind (bracket invert intervals) = begun (codes "Bracket") _ refl
leaf-kind (back_ref group icase) = begun (codes "BackRef") _ refl
leaf-kind (string_set strings icase) = begun (codes "StringSet") _ refl

-- the whole object
abbrev pub ended : Leaf → List ℕ
ended l = leaf_json l ++ codes "}"

pub ended-kind : (l : Leaf) → HasKind (ended l) (leaf_kind l)
ended-kind l = begun_more (leaf-kind l) (codes "}")

pub leaf-determines : (l m : Leaf) → Determines (ended l) (ended m) (l ≡ m)
leaf-determines empty empty = gives (λ u. refl) (start (ended empty))
leaf-determines goal goal = gives (λ u. refl) (start (ended goal))
leaf-determines (char c) (char d) = gives (λ e. ap char e.1)
    (more (start (codes "{\"kind\":\"Char\",\"c\":")) (number-determines c d) (codes "}") refl)
leaf-determines (byte_sequence xs) (byte_sequence ys) = gives (λ e. ap byte_sequence e.1)
    (more (start (codes "{\"kind\":\"ByteSequence\",\"bytes\":")) (if_ended (numbers-determine xs ys)) (codes "}") refl)
leaf-determines (byte_set xs) (byte_set ys) = gives (λ e. ap byte_set e.1)
    (more (start (codes "{\"kind\":\"ByteSet\",\"bytes\":")) (if_ended (numbers-determine xs ys)) (codes "}") refl)
leaf-determines (char_set xs) (char_set ys) = gives (λ e. ap char_set e.1)
    (more (start (codes "{\"kind\":\"CharSet\",\"characters\":")) (if_ended (numbers-determine xs ys)) (codes "}") refl)
leaf-determines match_any match_any = gives (λ u. refl) (start (ended match_any))
leaf-determines match_any_except_line_terminator match_any_except_line_terminator =
    gives (λ u. refl) (start (ended match_any_except_line_terminator))
leaf-determines (anchor x m) (anchor y n) = gives (λ e. λ i. anchor (e.0.1 i) (e.1 i))
    (more (more (start (codes "{\"kind\":\"Anchor\",\"anchor_type\":\""))
    (anchored-determines x y) (codes "\",\"multiline\":") refl)
    (truth-determines m n) (codes "}") refl)
leaf-determines (word_boundary x m) (word_boundary y n) = gives (λ e. λ i. word_boundary (e.0.1 i) (e.1 i))
    (more (more (start (codes "{\"kind\":\"WordBoundary\",\"invert\":"))
    (truth-determines x y) (codes ",\"unicode_icase\":") refl)
    (truth-determines m n) (codes "}") refl)
leaf-determines (bracket x xs) (bracket y ys) = gives (λ e. λ i. bracket (e.0.1 i) (e.1 i))
    (then (more_items (more (start (codes "{\"kind\":\"Bracket\",\"invert\":"))
    (truth-determines x y) (codes ",\"cps\":[") refl)
    (items-determine interval (λ iv jv. if_ended (interval-determines iv jv)) (λ iv a. refl) xs ys) []) (codes "}"))
leaf-determines (back_ref x m) (back_ref y n) = gives (λ e. λ i. back_ref (e.0.1 i) (e.1 i))
    (more (more (start (codes "{\"kind\":\"BackRef\",\"group\":"))
    (number-determines x y) (codes ",\"icase\":") refl)
    (truth-determines m n) (codes "}") refl)
leaf-determines (string_set xs m) (string_set ys n) = gives (λ e. λ i. string_set (e.0.1 i) (e.1 i))
    (more (more_items (start (codes "{\"kind\":\"StringSet\",\"alternatives\":["))
    (items-determine numbers (λ s t. if_ended (numbers-determine s t)) (λ s a. refl) xs ys) (codes ",\"icase\":"))
    (truth-determines m n) (codes "}") refl)
leaf-determines l m = kinds-apart code (ended-kind l) (ended-kind m) refl

abbrev pub wrapper_kind : Wrapper → List ℕ
wrapper_kind (capture_group id name) = codes "CaptureGroup"
wrapper_kind (loop q start end) = codes "Loop"
wrapper_kind (loop_one q) = codes "Loop1CharBody"
wrapper_kind (lookaround negate backwards start end) = codes "LookaroundAssertion"

pub wrapper-kind : (w : Wrapper) → HasKind (front w) (wrapper_kind w)
wrapper-kind (capture_group id name) = begun (codes "CaptureGroup") _ refl
wrapper-kind (loop q start end) = begun (codes "Loop") _ refl
wrapper-kind (loop_one q) = begun (codes "Loop1CharBody") _ refl
wrapper-kind (lookaround negate backwards start end) = begun (codes "LookaroundAssertion") _ refl

pub wrapper-determines : (w v : Wrapper) → Determines (front w) (front v) (w ≡ v)
wrapper-determines (capture_group a m) (capture_group b n) = gives (λ e. λ i. capture_group (e.0.1 i) (e.1 i))
    (more (more (start (codes "{\"kind\":\"CaptureGroup\",\"id\":"))
    (number-determines a b) (codes ",\"name\":") refl)
    (if_ended (name-determines m n)) (codes ",\"contents\":") refl)
wrapper-determines (loop p a b) (loop q c d) = gives (λ e. λ i. loop (e.1 i) (e.0.1.0 i) (e.0.1.1 i))
    (more (more (start (codes "{\"kind\":\"Loop\",\"enclosed_groups\":"))
    (if_ended (pair-determines a b c d)) (codes ",\"quant\":") refl)
    (if_ended (quantifier-determines p q)) (codes ",\"loopee\":") refl)
wrapper-determines (loop_one p) (loop_one q) = gives (λ e. ap loop_one e.1)
    (more (start (codes "{\"kind\":\"Loop1CharBody\",\"quant\":")) (if_ended (quantifier-determines p q)) (codes ",\"loopee\":") refl)
wrapper-determines (lookaround m x a b) (lookaround n y c d) =
    gives (λ e. λ i. lookaround (e.0.0.0.1 i) (e.0.0.1 i) (e.0.1 i) (e.1 i))
    (more (more (more (more (start (codes "{\"kind\":\"LookaroundAssertion\",\"negate\":"))
    (truth-determines m n) (codes ",\"backwards\":") refl)
    (truth-determines x y) (codes ",\"start_group\":") refl)
    (number-determines a c) (codes ",\"end_group\":") refl)
    (number-determines b d) (codes ",\"contents\":") refl)
wrapper-determines w v = kinds-apart code (wrapper-kind w) (wrapper-kind v) refl
