-- The pieces of a node's text determine what they were written from.
use Rattle.std.proofs.Common.{◌≡◌, ◌≢◌, ◌∙◌, ℕ, ◌==◌, Bool, true, false, if◌then◌else◌, List, [], ◌∷◌, ◌++◌, Option, Some, None, refl, sym, ap, arith, codes}
use Rattle.std.proofs.lemmas.Bool.{ne_eqb}
use Rattle.regress_base.specs.Intervals.{Bounds}
use Rattle.regress_base.specs.declared.types.AnchorType.{AnchorType}
use Rattle.regress_base.specs.declared.types.AnchorType.TheVariants.{StartOfLine, EndOfLine}
use Rattle.regress_base.specs.declared.types.Flags.{Flags}
use Rattle.regress_base.specs.declared.types.Quantifier.{Quantifier}
use Rattle.regress_tree.specs.Display.{anchored, truth}
use Rattle.regress_json.specs.Json.{is_word, numbers, pair, interval, number_or_null, quantifier, name, flags_json}
use Rattle.regress_json.specs.Json.{numeral}
use Rattle.regress_json.proofs.NumeralLemmas.{value, numeral-is_word, value-numeral, BeginsWithDigit, numeral-begins}
use Rattle.regress_json.proofs.DeterminingLemmas.{Determines, DeterminesIfEnded, gives, start, apart, more, more_items, items-determine, words-determine, read-determines, number-determines, number-goes_on}

pub truth-determines : (x y : Bool) → DeterminesIfEnded (truth x) (truth y) (x ≡ y)
truth-determines x y = read-determines truth read letters back x y
  where
    read : List ℕ → Bool
    read [] = false
    read (b ∷ bs) = b == 116

    letters : (b : Bool) → is_word (truth b) ≡ true
    letters true = refl
    letters false = refl

    back : (b : Bool) → read (truth b) ≡ b
    back true = refl
    back false = refl

pub anchored-determines : (x y : AnchorType) → DeterminesIfEnded (anchored x) (anchored y) (x ≡ y)
anchored-determines x y = read-determines anchored read letters back x y
  where
    read : List ℕ → AnchorType
    read [] = EndOfLine
    read (b ∷ bs) = if b == 83 then StartOfLine else EndOfLine

    letters : (k : AnchorType) → is_word (anchored k) ≡ true
    letters StartOfLine = refl
    letters EndOfLine = refl

    back : (k : AnchorType) → read (anchored k) ≡ k
    back StartOfLine = refl
    back EndOfLine = refl

pub number_or_null-determines : (x y : Option ℕ) → DeterminesIfEnded (number_or_null x) (number_or_null y) (x ≡ y)
number_or_null-determines = read-determines number_or_null read letters back
  where
    read : List ℕ → Option ℕ
    read [] = None
    read (b ∷ bs) = if b == 110 then None else Some (value (b ∷ bs))

    letters : (o : Option ℕ) → is_word (number_or_null o) ≡ true
    letters None = refl
    letters (Some n) = numeral-is_word n

    digits_read : (ds : List ℕ) → BeginsWithDigit ds → read ds ≡ Some (value ds)
    digits_read ds begins =
        let differ : begins.digit ≢ 110 = λ e. omega (arith, begins.high) in
        ap read begins.is ∙ ap (λ (t : Bool). if t then None else Some (value (begins.digit ∷ begins.others))) (ne_eqb begins.digit 110 differ)
        ∙ ap (λ cs. Some (value cs)) (sym begins.is)

    back : (o : Option ℕ) → read (number_or_null o) ≡ o
    back None = refl
    back (Some n) = digits_read (numeral n) (numeral-begins n) ∙ ap Some (value-numeral n)

pub numbers-determine : (xs ys : List ℕ) → Determines (numbers xs) (numbers ys) (xs ≡ ys)
numbers-determine xs ys =
    gives (λ e. e.1) (more_items (start (codes "[")) (items-determine numeral number-determines number-goes_on xs ys) [])

pub pair-determines : (a b c d : ℕ) → Determines (pair a b) (pair c d) ((a ≡ c) × (b ≡ d))
pair-determines a b c d = gives (λ e. (e.0.1, e.1))
    (more (more (start (codes "[")) (number-determines a c) (codes ",") refl) (number-determines b d) (codes "]") refl)

pub interval-determines : (x y : Bounds) → Determines (interval x) (interval y) (x ≡ y)
interval-determines x y = gives (λ e. λ i. record { first = e.0 i; last = e.1 i })
    (pair-determines x.first x.last y.first y.last)

pub quantifier-determines : (x y : Quantifier) → Determines (quantifier x) (quantifier y) (x ≡ y)
quantifier-determines x y = gives (λ e. λ i. record { min = e.0.0.1 i; max = e.0.1 i; greedy = e.1 i })
    (more (more (more (start (codes "{\"min\":"))
    (number-determines x.min y.min) (codes ",\"max\":") refl)
    (number_or_null-determines x.max y.max) (codes ",\"greedy\":") refl)
    (truth-determines x.greedy y.greedy) (codes "}") refl)

pub flags-determine : (x y : Flags) → Determines (flags_json x) (flags_json y) (x ≡ y)
flags-determine x y = gives (λ e. λ i. record {
  icase = e.0.0.0.0.1 i;
  multiline = e.0.0.0.1 i;
  dot_all = e.0.0.1 i;
  unicode = e.0.1 i;
  unicode_sets = e.1 i;
})
    (more (more (more (more (more (start (codes "{\"icase\":"))
    (truth-determines x.icase y.icase) (codes ",\"multiline\":") refl)
    (truth-determines x.multiline y.multiline) (codes ",\"dot_all\":") refl)
    (truth-determines x.dot_all y.dot_all) (codes ",\"unicode\":") refl)
    (truth-determines x.unicode y.unicode) (codes ",\"unicode_sets\":") refl)
    (truth-determines x.unicode_sets y.unicode_sets) (codes "}") refl)

-- A name is `null`, a quoted word or a list. Its first byte determines which.
data IsName : Option (List ℕ) → List ℕ → Type 0 where
  null : IsName None (codes "null")
  quoted : (bytes : List ℕ) → is_word bytes ≡ true → IsName (Some bytes) (codes "\"" ++ bytes ++ codes "\"")
  listed : (bytes : List ℕ) → IsName (Some bytes) (numbers bytes)

name-is : (n : Option (List ℕ)) → IsName n (name n)
name-is None = null
name-is (Some bytes) = by (is_word bytes) refl
  where
    by : (t : Bool) → is_word bytes ≡ t → IsName (Some bytes) (if t then codes "\"" ++ bytes ++ codes "\"" else numbers bytes)
    by true e = quoted bytes e
    by false e = listed bytes

names-determine : {m n : Option (List ℕ)} {p q : List ℕ} → IsName m p → IsName n q → Determines p q (m ≡ n)
names-determine null null = gives (λ u. refl) (start (codes "null"))
names-determine null (quoted ys wy) = apart refl
names-determine null (listed ys) = apart refl
names-determine (quoted xs wx) null = apart refl
names-determine (quoted xs wx) (quoted ys wy) =
    gives (λ e. ap Some e.1) (more (start (codes "\"")) (words-determine xs ys wx wy) (codes "\"") refl)
names-determine (quoted xs wx) (listed ys) = apart refl
names-determine (listed xs) null = apart refl
names-determine (listed xs) (quoted ys wy) = apart refl
names-determine (listed xs) (listed ys) = gives (λ e. ap Some e) (numbers-determine xs ys)

pub name-determines : (m n : Option (List ℕ)) → Determines (name m) (name n) (m ≡ n)
name-determines m n = names-determine (name-is m) (name-is n)
