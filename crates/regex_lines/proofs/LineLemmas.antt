-- Lines that are read are the lines of the text.
use Rattle.std.proofs.Common.{◌≤◌, ◌⊎◌, inl, inr, ◌≡◌, ◌≢◌, ◌∙◌, ℕ, ◌-◌, ◌<◌, Bool, true, false, eqb, cond, List, [], ◌∷◌, ◌++◌, Option, Some, None, All, length, get_or, take, refl, sym, ap, subst, arith, append_assoc, append-nil, ne_eqb, eq-eqb}
use Rattle.std.specs.Prelude.{IfSome, OnSome}
use Rattle.std.specs.Io.BufRead.{take_through, drop_through, DropsThrough}
use Rattle.std.specs.Io.KnownBytes.{Consumes, IsAtEnd}
use Rattle.std.proofs.lemmas.Bool.{cases_lt, eqb-true}
use Rattle.std.proofs.lemmas.List.{get_or-take, length-take}
use Rattle.std.proofs.lemmas.List.Elements.{All-head, All-tail}
use Rattle.regex_lines.specs.Searched.{AreLinesOf, Line as TextLine, has_line_feed, lines_of, one_line, onto_line, split_text, without_line_feed}
use Rattle.regex_lines.specs.Reading.{IsRead, is_ended}
use Rattle.regex_lines.specs.declared.reading.Next.{Next}
use Rattle.regex_lines.specs.declared.reading.Next.TheVariants.{Line, LastLine, End}

-- no line feed is taken
all_taken_of : (xs : List ℕ) → All (λ b. b ≢ 10) (take_through 10 xs) → drop_through 10 xs ≡ []
all_taken_of [] none = refl
all_taken_of (x ∷ xs) none = by (eqb x 10) refl none (all_taken_of xs)
  where
    by : (b : Bool) → eqb x 10 ≡ b → All (λ b. b ≢ 10) (cond b (x ∷ []) (x ∷ take_through 10 xs)) →
        (All (λ b. b ≢ 10) (take_through 10 xs) → drop_through 10 xs ≡ []) → cond b xs (drop_through 10 xs) ≡ []
    by true is h next = absurd (h 0 0 (omega arith) (eqb-true x 10 is))
    by false is h next = next (All-tail (λ y. y ≢ 10) x (take_through 10 xs) h)

pub at_end : (old new : Option (List ℕ)) (bytes : List ℕ) → IfSome old (λ xs. bytes ≡ take_through 10 xs) → DropsThrough old new 10 →
    All (λ b. b ≢ 10) bytes → OnSome old (IsAtEnd new)
at_end None new bytes is rest none = tt
at_end (Some xs) new bytes is rest none = subst IsAtEnd (sym rest) (all_taken_of xs (subst (All (λ b. b ≢ 10)) is none))

-- a list whose bytes before the last are no line feeds, and its last one is none
pub no_line_feed : (xs : List ℕ) (last : ℕ) → All (λ b. b ≢ 10) (take (length xs - 1) xs) → ((d : ℕ) → last ≡ get_or xs (length xs - 1) d) → last ≢ 10 →
    All (λ b. b ≢ 10) xs
no_line_feed xs last prefix is none = λ k d within feed. by k d within feed (cases_lt k (length xs - 1))
  where
    by : (k d : ℕ) → k < length xs → get_or xs k d ≡ 10 → (k < length xs - 1) ⊎ (length xs - 1 ≤ k) → ⊥
    by k d within feed (inl before) =
        prefix k d (omega (arith, length-take (length xs - 1) xs)) (get_or-take (length xs - 1) xs k d before ∙ feed)
    by k d within feed (inr at) =
        let last_one : k ≡ length xs - 1 = omega arith in
        none (is d ∙ ap (λ j. get_or xs j d) (sym last_one) ∙ feed)

-- a line and its line feed in front
lines_of-line : (line rest : List ℕ) → All (λ b. b ≢ 10) line → lines_of (line ++ 10 ∷ rest) ≡ record { bytes = line; ended = true } ∷ lines_of rest
lines_of-line [] rest none = ap (λ b. cond b (record { bytes = []; ended = true } ∷ lines_of rest) (onto_line 10 (lines_of rest))) (eq-eqb 10 10 refl)
lines_of-line (x ∷ line) rest none =
    ap (λ b. cond b (record { bytes = []; ended = true } ∷ lines_of (line ++ 10 ∷ rest)) (onto_line x (lines_of (line ++ 10 ∷ rest))))
    (ne_eqb x 10 (All-head (λ y. y ≢ 10) x line none))
    ∙ ap (onto_line x) (lines_of-line line rest (All-tail (λ y. y ≢ 10) x line none))

-- a last line without a line feed
lines_of-last : (x : ℕ) (line : List ℕ) → All (λ b. b ≢ 10) (x ∷ line) → lines_of (x ∷ line) ≡ record { bytes = x ∷ line; ended = false } ∷ []
lines_of-last x [] none = ap (λ b. cond b (record { bytes = []; ended = true } ∷ []) (onto_line x [])) (ne_eqb x 10 (All-head (λ y. y ≢ 10) x [] none))
lines_of-last x (y ∷ line) none =
    ap (λ b. cond b (record { bytes = []; ended = true } ∷ lines_of (y ∷ line)) (onto_line x (lines_of (y ∷ line))))
    (ne_eqb x 10 (All-head (λ y. y ≢ 10) x (y ∷ line) none))
    ∙ ap (onto_line x) (lines_of-last y line (All-tail (λ y. y ≢ 10) x (y ∷ line) none))

consumes_more : (a b c : Option (List ℕ)) (xs ys : List ℕ) → Consumes a b xs → Consumes b c ys → Consumes a c (xs ++ ys)
consumes_more None b c xs ys one two = tt
consumes_more (Some a) None c xs ys one two = absurd one
consumes_more (Some a) (Some b) None xs ys one two = two
consumes_more (Some a) (Some b) (Some c) xs ys one two = one ∙ ap (λ t. xs ++ t) two ∙ sym (append_assoc xs ys c)

-- the lines that a reader has lost since it had `old`
pub record HasRead (multiline : Bool) (old now : Option (List ℕ)) (read : List TextLine) : Type 0 where
  pub bytes : List ℕ
  pub consumed : Consumes old now bytes
  pub lines : (rest : List ℕ) → split_text multiline (bytes ++ rest) ≡ read ++ split_text multiline rest

pub begins : (multiline : Bool) (old : Option (List ℕ)) → HasRead multiline old old []
begins multiline old = record { bytes = []; consumed = by old; lines = λ rest. refl }
  where
    by : (old : Option (List ℕ)) → Consumes old old []
    by None = tt
    by (Some xs) = refl

-- another line
pub goes_on : (multiline : Bool) (old now : Option (List ℕ)) (lines : List TextLine) → HasRead multiline old now lines →
    (new : Option (List ℕ)) (line : List ℕ) → IsRead multiline now new line Line → HasRead multiline old new (lines ++ record { bytes = line; ended = true } ∷ [])
goes_on true old now lines sofar new line read = absurd read
goes_on false old now lines sofar new line read =
    let bytes = sofar.bytes in
    record {
      bytes = bytes ++ (line ++ 10 ∷ []);
      consumed = consumes_more old now new bytes (line ++ 10 ∷ []) sofar.consumed read.1;
      lines = λ rest.
          ap lines_of (append_assoc bytes (line ++ 10 ∷ []) rest ∙ ap (λ t. bytes ++ t) (append_assoc line (10 ∷ []) rest))
          ∙ sofar.lines (line ++ 10 ∷ rest) ∙ ap (λ t. lines ++ t) (lines_of-line line rest read.0)
          ∙ sym (append_assoc lines (record { bytes = line; ended = true } ∷ []) (lines_of rest));
    }

nothing_left : (multiline : Bool) → split_text multiline [] ≡ []
nothing_left true = refl
nothing_left false = refl

-- What is left is read as the last line.
pub record IsLast (multiline : Bool) (now new : Option (List ℕ)) (line : TextLine) : Type 0 where
  pub text : List ℕ
  pub consumed : Consumes now new text
  pub all : OnSome now (IsAtEnd new)
  pub lines : split_text multiline text ≡ line ∷ []

last_line : (line : List ℕ) → 0 < length line → All (λ b. b ≢ 10) line → lines_of line ≡ record { bytes = line; ended = false } ∷ []
last_line [] some none = absurd (omega (arith, some))
last_line (x ∷ line) some none = lines_of-last x line none

one_of_text : (text : List ℕ) → 0 < length text → one_line text ≡ record { bytes = without_line_feed text; ended = has_line_feed text } ∷ []
one_of_text [] some = absurd (omega (arith, some))
one_of_text (b ∷ bs) some = refl

is_last : (multiline : Bool) (now new : Option (List ℕ)) (line : TextLine) → IsRead multiline now new line.bytes (LastLine line.ended) →
    IsLast multiline now new line
is_last true now new line read = record {
  text = read.text;
  consumed = read.consumed;
  all = read.all;
  lines = one_of_text read.text read.some ∙ (λ i. record { bytes = sym read.is i; ended = sym read.feed i } ∷ []);
}
is_last false now new line read = record {
  text = line.bytes;
  consumed = read.2;
  all = read.3;
  lines = last_line line.bytes read.1 read.0 ∙ (λ i. record { bytes = line.bytes; ended = sym read.4 i } ∷ []);
}

module _ (multiline : Bool) (old now : Option (List ℕ)) (lines : List TextLine) (sofar : HasRead multiline old now lines) where
  whole_text : (known : Option (List ℕ)) (bytes rest : List ℕ) → IfSome known (λ xs. xs ≡ bytes ++ rest) → IfSome known (λ xs. bytes ++ rest ≡ xs)
  whole_text None bytes rest h = tt
  whole_text (Some xs) bytes rest h = sym h

  -- the text of the reader from here on, if it is known
  left : (old now : Option (List ℕ)) (bytes : List ℕ) → Consumes old now bytes → (rest : List ℕ) × IfSome old (λ xs. xs ≡ bytes ++ rest) × OnSome old (IsAtEnd now → rest ≡ [])
  left None now bytes h = ([], tt, tt)
  left (Some xs) None bytes h = absurd h
  left (Some xs) (Some ys) bytes h = (ys, h, λ is. is)

  at_its_end : (old now : Option (List ℕ)) (bytes : List ℕ) → Consumes old now bytes → IsAtEnd now → IfSome old (λ xs. bytes ≡ xs)
  at_its_end None now bytes h is = tt
  at_its_end (Some xs) None bytes h is = absurd h
  at_its_end (Some xs) (Some ys) bytes h is = sym (h ∙ ap (λ t. bytes ++ t) is ∙ append-nil bytes)

  pub ended : IsAtEnd now → AreLinesOf multiline old true lines
  ended is = record {
    text = sofar.bytes;
    known = at_its_end old now sofar.bytes sofar.consumed is;
    others = [];
    whole = ap (split_text multiline) (sym (append-nil sofar.bytes)) ∙ sofar.lines [] ∙ ap (λ t. lines ++ t) (nothing_left multiline);
    all = λ _. refl;
  }

  pub ended_by_last : (new : Option (List ℕ)) (line : TextLine) → IsRead multiline now new line.bytes (LastLine line.ended) → AreLinesOf multiline old true (lines ++ line ∷ [])
  ended_by_last new line read =
      let last = is_last multiline now new line read in
      let bytes = sofar.bytes ++ last.text in
      record {
        text = bytes;
        known = at_the_last old now new sofar.bytes last.text sofar.consumed last.consumed last.all;
        others = [];
        whole = sofar.lines last.text ∙ ap (λ t. lines ++ t) last.lines ∙ sym (append-nil (lines ++ line ∷ []));
        all = λ _. refl;
      }
    where
      at_the_last : (old now new : Option (List ℕ)) (bytes text : List ℕ) → Consumes old now bytes → Consumes now new text → OnSome now (IsAtEnd new) →
          IfSome old (λ xs. bytes ++ text ≡ xs)
      at_the_last None now new bytes text one two is = tt
      at_the_last (Some xs) None new bytes text one two is = absurd one
      at_the_last (Some xs) (Some ys) None bytes text one two is = absurd two
      at_the_last (Some xs) (Some ys) (Some zs) bytes text one two is =
          sym (one ∙ ap (λ t. bytes ++ t) (two ∙ ap (λ t. text ++ t) is ∙ append-nil text))

  pub stopped : AreLinesOf multiline old false lines
  stopped =
      let rest = left old now sofar.bytes sofar.consumed in
      record {
        text = sofar.bytes ++ rest.0;
        known = whole_text old sofar.bytes rest.0 rest.1;
        others = split_text multiline rest.0;
        whole = sofar.lines rest.0;
        all = λ is. let bad : ⊥ = cc in absurd bad;
      }

-- the lines that are read, and the next one
pub and_next : (multiline : Bool) (old now : Option (List ℕ)) (lines : List TextLine) → HasRead multiline old now lines →
    (new : Option (List ℕ)) (line : List ℕ) (next : Next) → (next ≡ End → ⊥) → IsRead multiline now new line next →
    AreLinesOf multiline old false (lines ++ record { bytes = line; ended = is_ended next } ∷ [])
and_next multiline old now lines sofar new line Line not_end read =
    stopped multiline old new (lines ++ record { bytes = line; ended = true } ∷ []) (goes_on multiline old now lines sofar new line read)
and_next multiline old now lines sofar new line (LastLine ended) not_end read =
    let are = ended_by_last multiline old now lines sofar new (record { bytes = line; ended = ended }) read in
    record {
      text = are.text;
      known = are.known;
      others = are.others;
      whole = are.whole;
      all = λ is. let bad : ⊥ = cc is in absurd bad;
    }
and_next multiline old now lines sofar new line End not_end read = absurd (not_end refl)
