-- Texts that, parsed from the start, determine what they were written from.
use Rattle.std.proofs.Common.{◌≡◌, ◌≢◌, ◌∙◌, ℕ, ◌==◌, Bool, true, false, not, List, [], ◌∷◌, ◌++◌, flat_map, refl, sym, ap, arith, append_assoc, codes}
use Rattle.std.specs.List.{join_by}
use Rattle.std.proofs.lemmas.Bool.{and_parts, eq-eqb, ne_eqb}
use Rattle.std.proofs.lemmas.List.{append_cancel_left}
use Rattle.regress_json.specs.Json.{is_word_byte, is_word}
use Rattle.regress_json.specs.Json.{numeral}
use Rattle.regress_json.proofs.NumeralLemmas.{value, numeral-is_word, value-numeral, numeral-begins}

-- Whatever follows them, equal texts imply E, and the two end at the same position.
pub record Determines (p q : List ℕ) (E : Type 0) : Type 0 where
  pub determined : (a b : List ℕ) → p ++ a ≡ q ++ b → E × (a ≡ b)

-- whether the text begins with a byte that is not a word byte
abbrev pub punctuated : List ℕ → Bool
punctuated [] = false
punctuated (b ∷ bs) = not (is_word_byte b)

-- This holds if each is followed by a byte that is not a word byte, as for numbers.
pub record DeterminesIfEnded (p q : List ℕ) (E : Type 0) : Type 0 where
  pub determined : (a b : List ℕ) → punctuated a ≡ true → punctuated b ≡ true → p ++ a ≡ q ++ b → E × (a ≡ b)

-- This holds if each is followed by `]`, as for list items.
pub record DeterminesIfClosed (p q : List ℕ) (E : Type 0) : Type 0 where
  pub determined : (a b : List ℕ) → p ++ (93 ∷ a) ≡ q ++ (93 ∷ b) → E × (a ≡ b)

module _ {p q : List ℕ} {E : Type 0} where
  pub gives : {F : Type 0} → (E → F) → Determines p q E → Determines p q F
  gives f t = record { determined = λ a b e. let found = t.determined a b e in (f found.0, found.1) }

  pub gives_if_ended : {F : Type 0} → (E → F) → DeterminesIfEnded p q E → DeterminesIfEnded p q F
  gives_if_ended f t = record { determined = λ a b pa pb e. let found = t.determined a b pa pb e in (f found.0, found.1) }

  pub gives_if_closed : {F : Type 0} → (E → F) → DeterminesIfClosed p q E → DeterminesIfClosed p q F
  gives_if_closed f t = record { determined = λ a b e. let found = t.determined a b e in (f found.0, found.1) }

  pub if_ended : Determines p q E → DeterminesIfEnded p q E
  if_ended t = record { determined = λ a b pa pb e. t.determined a b e }

  pub if_closed : Determines p q E → DeterminesIfClosed p q E
  if_closed t = record {
    determined = λ a b e.
        let found = t.determined (93 ∷ a) (93 ∷ b) e in
        (found.0, append_cancel_left (codes "]") a b found.1);
  }

  -- the same text appended to both
  pub then : Determines p q E → (s : List ℕ) → Determines (p ++ s) (q ++ s) E
  then t s = record {
    determined = λ a b e.
        let found = t.determined (s ++ a) (s ++ b) (sym (append_assoc p s a) ∙ e ∙ append_assoc q s b) in
        (found.0, append_cancel_left s a b found.1);
  }

  -- the same text prepended to both
  pub after : (s : List ℕ) → DeterminesIfClosed p q E → DeterminesIfClosed (s ++ p) (s ++ q) E
  after s t = record {
    determined = λ a b e. t.determined a b
        (append_cancel_left s (p ++ (93 ∷ a)) (q ++ (93 ∷ b)) (sym (append_assoc s p (93 ∷ a)) ∙ e ∙ append_assoc s q (93 ∷ b)));
  }

-- the same text on both sides
pub start : (s : List ℕ) → Determines s s (Unit {0})
start s = record { determined = λ a b e. (tt, append_cancel_left s a b e) }

-- different first bytes
pub apart : {c d : ℕ} {xs ys : List ℕ} {E : Type 0} → (c == d) ≡ false → Determines (c ∷ xs) (d ∷ ys) E
apart {c} {d} differ = record { determined = λ a b e. absurd (no_bytes e) }
  where
    no_bytes : {xs ys : List ℕ} → c ∷ xs ≡ d ∷ ys → ⊥
    no_bytes e =
        let same_byte : c ≡ d = cc in
        let bad : true ≡ false = sym (eq-eqb c d same_byte) ∙ differ in
        cc

three : (p q s a : List ℕ) → ((p ++ q) ++ s) ++ a ≡ p ++ (q ++ (s ++ a))
three p q s a = append_assoc (p ++ q) s a ∙ append_assoc p q (s ++ a)

punctuated-append : (s a : List ℕ) → punctuated s ≡ true → punctuated (s ++ a) ≡ true
punctuated-append [] a h = let bad : ⊥ = cc in absurd bad
punctuated-append (b ∷ bs) a h = h

module _ {p q p' q' : List ℕ} {E F : Type 0} where
  -- then a piece, and the same text after it
  pub more : Determines p q E → DeterminesIfEnded p' q' F → (s : List ℕ) → punctuated s ≡ true →
      Determines ((p ++ p') ++ s) ((q ++ q') ++ s) (E × F)
  more first piece s h = record {
    determined = λ a b e.
        let one = first.determined (p' ++ (s ++ a)) (q' ++ (s ++ b)) (sym (three p p' s a) ∙ e ∙ three q q' s b) in
        let two = piece.determined (s ++ a) (s ++ b) (punctuated-append s a h) (punctuated-append s b h) one.1 in
        ((one.0, two.0), append_cancel_left s a b two.1);
  }

  -- then items, and the same text after their `]`
  pub more_items : Determines p q E → DeterminesIfClosed p' q' F → (s : List ℕ) →
      Determines ((p ++ p') ++ (93 ∷ s)) ((q ++ q') ++ (93 ∷ s)) (E × F)
  more_items first items s = record {
    determined = λ a b e.
        let one = first.determined (p' ++ (93 ∷ (s ++ a))) (q' ++ (93 ∷ (s ++ b))) (sym (three p p' (93 ∷ s) a) ∙ e ∙ three q q' (93 ∷ s) b) in
        let two = items.determined (s ++ a) (s ++ b) one.1 in
        ((one.0, two.0), append_cancel_left s a b two.1);
  }

  -- an item, and then further ones
  pub item : Determines p q E → DeterminesIfClosed p' q' F → DeterminesIfClosed (p ++ p') (q ++ q') (E × F)
  item first others = record {
    determined = λ a b e.
        let one = first.determined (p' ++ (93 ∷ a)) (q' ++ (93 ∷ b)) (sym (append_assoc p p' (93 ∷ a)) ∙ e ∙ append_assoc q q' (93 ∷ b)) in
        let rest = others.determined a b one.1 in
        ((one.0, rest.0), rest.1);
  }

  pub item_if_ended : DeterminesIfEnded p q E → DeterminesIfClosed p' q' F →
      ((a : List ℕ) → punctuated (p' ++ (93 ∷ a)) ≡ true) → ((b : List ℕ) → punctuated (q' ++ (93 ∷ b)) ≡ true) →
      DeterminesIfClosed (p ++ p') (q ++ q') (E × F)
  item_if_ended first others pa pb = record {
    determined = λ a b e.
        let one = first.determined (p' ++ (93 ∷ a)) (q' ++ (93 ∷ b)) (pa a) (pb b)
        (sym (append_assoc p p' (93 ∷ a)) ∙ e ∙ append_assoc q q' (93 ∷ b)) in
        let rest = others.determined a b one.1 in
        ((one.0, rest.0), rest.1);
  }

-- whether there is a first byte and it is not `]`
abbrev pub goes_on : List ℕ → Bool
goes_on [] = false
goes_on (b ∷ bs) = not (b == 93)

closes-not : {xs a : List ℕ} → goes_on xs ≡ true → xs ≡ 93 ∷ a → ⊥
closes-not h e = let bad : true ≡ false = sym h ∙ ap goes_on e in cc

pub none : DeterminesIfClosed [] [] (Unit {0})
none = record { determined = λ a b e. (tt, append_cancel_left (codes "]") a b e) }

-- items on one side only
pub none_some : {r : List ℕ} {E : Type 0} → ((c : List ℕ) → goes_on (r ++ c) ≡ true) → DeterminesIfClosed [] r E
none_some there = record { determined = λ a b e. absurd (closes-not (there (93 ∷ b)) (sym e)) }

pub some_none : {r : List ℕ} {E : Type 0} → ((c : List ℕ) → goes_on (r ++ c) ≡ true) → DeterminesIfClosed r [] E
some_none there = record { determined = λ a b e. absurd (closes-not (there (93 ∷ a)) e) }

-- further items on one side only
pub right_longer : {p q : List ℕ} {E F : Type 0} → Determines p q E → (r : List ℕ) → ((c : List ℕ) → goes_on (r ++ c) ≡ true) →
    DeterminesIfClosed p (q ++ r) F
right_longer {p} {q} t r there = record {
  determined = λ a b e.
      absurd (closes-not (there (93 ∷ b)) (sym (t.determined (93 ∷ a) (r ++ (93 ∷ b)) (e ∙ append_assoc q r (93 ∷ b))).1));
}

pub left_longer : {p q : List ℕ} {E F : Type 0} → Determines p q E → (r : List ℕ) → ((c : List ℕ) → goes_on (r ++ c) ≡ true) →
    DeterminesIfClosed (p ++ r) q F
left_longer {p} {q} t r there = record {
  determined = λ a b e.
      absurd (closes-not (there (93 ∷ a)) (t.determined (r ++ (93 ∷ a)) (93 ∷ b) (sym (append_assoc p r (93 ∷ a)) ∙ e)).1);
}

-- lists of items, separated by commas
module _ {X : Type 0} (f : X → List ℕ) (each : (x y : X) → DeterminesIfEnded (f x) (f y) (x ≡ y)) where
  abbrev further : List X → List ℕ
  further xs = flat_map (λ x. codes "," ++ f x) xs

  further-punctuated : (xs : List X) (a : List ℕ) → punctuated (further xs ++ (93 ∷ a)) ≡ true
  further-punctuated [] a = refl
  further-punctuated (x ∷ xs) a = refl

  item-determines : (x y : X) (xs ys : List X) → DeterminesIfClosed (further xs) (further ys) (xs ≡ ys) →
      DeterminesIfClosed (f x ++ further xs) (f y ++ further ys) (x ∷ xs ≡ y ∷ ys)
  item-determines x y xs ys others = gives_if_closed (λ e. λ i. e.0 i ∷ e.1 i)
      (item_if_ended (each x y) others (further-punctuated xs) (further-punctuated ys))

  further-determines : (xs ys : List X) → DeterminesIfClosed (further xs) (further ys) (xs ≡ ys)
  further-determines [] [] = gives_if_closed (λ u. refl) none
  further-determines [] (y ∷ ys) = none_some (λ c. refl)
  further-determines (x ∷ xs) [] = some_none (λ c. refl)
  further-determines (x ∷ xs) (y ∷ ys) = after (codes ",") (item-determines x y xs ys (further-determines xs ys))

  module _ (opens : (x : X) (a : List ℕ) → goes_on (f x ++ a) ≡ true) where
    item-opens : (x : X) (xs : List X) (a : List ℕ) → goes_on ((f x ++ further xs) ++ a) ≡ true
    item-opens x xs a = ap goes_on (append_assoc (f x) (further xs) a) ∙ opens x (further xs ++ a)

    pub items-determine : (xs ys : List X) → DeterminesIfClosed (join_by f (codes ",") xs) (join_by f (codes ",") ys) (xs ≡ ys)
    items-determine [] [] = gives_if_closed (λ u. refl) none
    items-determine [] (y ∷ ys) = none_some (item-opens y ys)
    items-determine (x ∷ xs) [] = some_none (item-opens x xs)
    items-determine (x ∷ xs) (y ∷ ys) = item-determines x y xs ys (further-determines xs ys)

-- words
pub words-determine : (xs ys : List ℕ) → is_word xs ≡ true → is_word ys ≡ true → DeterminesIfEnded xs ys (xs ≡ ys)
words-determine xs ys wx wy = record { determined = λ a b pa pb e. from xs ys wx wy a b pa pb e }
  where
    head_is : {x y : ℕ} {xs ys : List ℕ} → x ∷ xs ≡ y ∷ ys → x ≡ y
    head_is e = cc

    tail_is : {x y : ℕ} {xs ys : List ℕ} → x ∷ xs ≡ y ∷ ys → xs ≡ ys
    tail_is e = cc

    no_end : (x : ℕ) (xs : List ℕ) → is_word (x ∷ xs) ≡ true → not (is_word_byte x) ≡ true → ⊥
    no_end x xs w ends = let bad : true ≡ false = sym ends ∙ ap not (and_parts (is_word_byte x) (is_word xs) w).0 in cc

    from : (xs ys : List ℕ) → is_word xs ≡ true → is_word ys ≡ true → (a b : List ℕ) →
        punctuated a ≡ true → punctuated b ≡ true → xs ++ a ≡ ys ++ b → (xs ≡ ys) × (a ≡ b)
    from [] [] wx wy a b pa pb e = (refl, e)
    from [] (y ∷ ys) wx wy a b pa pb e = absurd (no_end y ys wy (sym (ap punctuated e) ∙ pa))
    from (x ∷ xs) [] wx wy a b pa pb e = absurd (no_end x xs wx (ap punctuated e ∙ pb))
    from (x ∷ xs) (y ∷ ys) wx wy a b pa pb e =
        let beyond = from xs ys (and_parts (is_word_byte x) (is_word xs) wx).1 (and_parts (is_word_byte y) (is_word ys) wy).1
        a b pa pb (tail_is e) in
        let first : x ≡ y = head_is e in
        ((λ i. first i ∷ beyond.0 i), beyond.1)

-- words with an inverse parser
pub read-determines : {X : Type 0} (f : X → List ℕ) (read : List ℕ → X) → ((x : X) → is_word (f x) ≡ true) → ((x : X) → read (f x) ≡ x) →
    (x y : X) → DeterminesIfEnded (f x) (f y) (x ≡ y)
read-determines f read letters back x y =
    gives_if_ended (λ e. sym (back x) ∙ ap read e ∙ back y) (words-determine (f x) (f y) (letters x) (letters y))

pub number-determines : (m n : ℕ) → DeterminesIfEnded (numeral m) (numeral n) (m ≡ n)
number-determines = read-determines numeral value numeral-is_word value-numeral

pub number-goes_on : (n : ℕ) (a : List ℕ) → goes_on (numeral n ++ a) ≡ true
number-goes_on n a =
    let begins = numeral-begins n in
    let differ : begins.digit ≢ 93 = λ e. omega (arith, begins.high) in
    ap (λ ds. goes_on (ds ++ a)) begins.is ∙ ap not (ne_eqb begins.digit 93 differ)
