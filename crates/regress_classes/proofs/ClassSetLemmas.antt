-- The contents of a value of a class with the flag v.
use Rattle.std.proofs.Common.{◌≡◌, ℕ, ◌+◌, ◌<◌, ◌≤◌, Vec, Bool, true, false, not, ◌||◌, ◌==◌, max, List, [], ◌∷◌, length, take, get_or, cond, filter, refl, sym, ap, ap₂, ◌∙◌, subst, append_assoc, append-nil, arith}
use Rattle.std.proofs.lemmas.Bool.Decides.{nat_tests}
use Rattle.std.proofs.lemmas.List.{take_all}
use Rattle.std.proofs.lemmas.List.Folds.{list_any_more}
use Rattle.std.proofs.lemmas.Map.Text.{is_eq-slice_cmp}
use Rattle.std.specs.Cmp.Lexicographic.{slice_cmp}
use Rattle.std.specs.List.{list_any}
use Rattle.std.specs.Ordering.{nat_cmp, is_eq}
use Rattle.std.specs.Str.{bytes_eq}
use Rattle.std.specs.declared.alloc.Global.{Global}
use Rattle.regress_base.specs.Intervals.{Bounds, is_within, is_member, IsCanonical, IsComplement, intervals_of}
use Rattle.regress_base.proofs.lemmas.Sets.{is_member-one, is_member-append, canonical_is, intervals_of-agree}
use Rattle.regress_classes.specs.declared.class_sets.value.Value.{Value as CodeValue}
use Rattle.regress_classes.specs.declared.class_sets.others.Others.{Others}
use Rattle.regress_classes.specs.declared.class_sets.union.Union.{Union as CodeUnion}
use Rattle.regress_classes.specs.ClassProductions.{complement, complement_if, one_point}
use Rattle.regress_classes.specs.ClassSets.{Value, nothing, only, joined, nested, is_among, value_of_string}
use Rattle.regress_classes.specs.ClassViews.{HasMembers, HasOthers, IsValue, IsUnion, strings_of}

-- ---- members of a set

pub no_members : (set : List Bounds) → set ≡ [] → HasMembers [] set
no_members set e = record {
  canonical = subst IsCanonical (sym e) refl;
  each = λ c. ap (λ (l : List Bounds). is_member l c) e;
}

-- The members that pass a test.
pub members_where : (p : ℕ → Bool) (new : List Bounds) → IsCanonical new → ((c : ℕ) → is_member new c ≡ p c) →
    HasMembers (intervals_of p) new
members_where p new canonical e = record {
  canonical = canonical;
  each = λ c. ap (λ (l : List Bounds). is_member l c) (canonical_is new p canonical (λ n h. e n));
}

pub members_complement : (set others : List Bounds) → IsComplement set others → IsCanonical others → HasMembers (complement set) others
members_complement set others opposite canonical = record {
  canonical = canonical;
  each = λ c. ap (λ (l : List Bounds). is_member l c) (canonical_is others (λ n. not (is_member set n)) canonical opposite);
}

pub members_same : (set others : List Bounds) → others ≡ set → IsCanonical others → HasMembers set others
members_same set others e canonical = record { canonical = canonical; each = λ c. ap (λ (l : List Bounds). is_member l c) e }

is_literal : (c n : ℕ) → (n == c) ≡ is_within (record { first = c; last = c }) n
unfolding is_within
is_literal c n = grind (arith, nat_tests)

pub is_one_point : (c n : ℕ) → (n == c) ≡ is_member (one_point c) n
is_one_point c n = is_literal c n ∙ sym (is_member-one (record { first = c; last = c }) n)

-- ---- two values

pub joined-assoc : (a b c : Value) → joined (joined a b) c ≡ joined a (joined b c)
joined-assoc a b c =
    rw (
      append_assoc a.members b.members c.members,
      append_assoc a.strings b.strings c.strings,
      or_assoc a.has_empty b.has_empty c.has_empty,
      or_assoc a.may_have_strings b.may_have_strings c.may_have_strings,
      max-assoc a.nesting b.nesting c.nesting,
    ) refl
  where
    or_assoc : (x y z : Bool) → ((x || y) || z) ≡ (x || (y || z))
    or_assoc true y z = refl
    or_assoc false y z = refl

    max-assoc : (i j k : ℕ) → max (max i j) k ≡ max i (max j k)
    max-assoc i j k = omega arith

or_false : (x : Bool) → (x || false) ≡ x
or_false true = refl
or_false false = refl

pub joined-nothing : (a : Value) → joined a nothing ≡ a
joined-nothing a = rw (append-nil a.members, append-nil a.strings, or_false a.has_empty, or_false a.may_have_strings, max-zero a.nesting) refl
  where
    max-zero : (i : ℕ) → max i 0 ≡ i
    max-zero i = omega arith

pub nothing-joined : (a : Value) → joined nothing a ≡ a
nothing-joined a = rw (zero-max a.nesting) refl
  where
    zero-max : (i : ℕ) → max 0 i ≡ i
    zero-max i = omega arith

others_only : (a : Value) (members : List Bounds) (held : Others) → HasOthers a held → HasOthers (joined a (only members)) held
others_only a members held h = record {
  strings = h.strings ∙ sym (append-nil a.strings);
  has_empty = h.has_empty ∙ sym (or_false a.has_empty);
  may_have_strings = h.may_have_strings ∙ sym (or_false a.may_have_strings);
  nesting = omega (arith, h.nesting);
}

-- A value with one more code point.
pub with_point : (a : Value) (c : ℕ) (old : CodeValue) (set : List Bounds) → IsValue old a → IsCanonical set →
    ((n : ℕ) → is_member set n ≡ (is_member old.set n || (n == c))) →
    IsValue (record old { set = set }) (joined a (only (one_point c)))
with_point a c old set h canonical e = record {
  members = record {
    canonical = canonical;
    each = λ n. e n ∙ ap₂ (λ x y. x || y) (h.members.each n) (is_one_point c n) ∙ sym (is_member-append a.members (one_point c) n);
  };
  others = others_only a (one_point c) old.others h.others;
}

-- The same for a union.
pub union_points : (a : Value) (members : List Bounds) (old : CodeUnion) (points : List Bounds) → IsUnion old a →
    ((n : ℕ) → is_member points n ≡ (is_member old.points n || is_member members n)) →
    IsUnion (record old { points = points }) (joined a (only members))
union_points a members old points h e = record {
  members = λ n. e n ∙ ap (λ b. b || is_member members n) (h.members n) ∙ sym (is_member-append a.members members n);
  others = others_only a members old.others h.others;
}

-- A string of one character is a code point.
pub one_character : (s : List ℕ) (d : ℕ) → 1 ≤ length s → length s < 2 → value_of_string s ≡ only (one_point (get_or s 0 d))
one_character [] d h k = absurd (omega arith)
one_character (c ∷ []) d h k = refl
one_character (c ∷ e ∷ cs) d h k = absurd (omega arith)

-- ---- sets of strings

or_if : (b x : Bool) → cond b true x ≡ (x || b)
or_if true true = refl
or_if true false = refl
or_if false true = refl
or_if false false = refl

-- A set of strings with one more string.
pub one_more_string : (strings : List (Vec ℕ Global)) (i : ℕ) (string : Vec ℕ Global) (key s : List ℕ) (was : Bool) → i < length strings →
    string ≡ get_or strings i string → key ≡ string.items → was ≡ list_any (λ other. bytes_eq other.items s) (take i strings) →
    cond (is_eq (slice_cmp nat_cmp key s)) true was ≡ list_any (λ other. bytes_eq other.items s) (take (i + 1) strings)
one_more_string strings i string key s was lt is same before =
    ap (λ b. cond b true was) (is_eq-slice_cmp key s) ∙ or_if (bytes_eq key s) was ∙ ap₂ (λ a b. a || bytes_eq b s) before same
    ∙ ap (λ (other : Vec ℕ Global). list_any (λ other. bytes_eq other.items s) (take i strings) || bytes_eq other.items s) is
    ∙ sym (list_any_more (λ (other : Vec ℕ Global). bytes_eq other.items s) strings i string lt)

is_among-strings : (strings : List (Vec ℕ Global)) (s : List ℕ) →
    list_any (λ (other : Vec ℕ Global). bytes_eq other.items s) strings ≡ is_among (strings_of strings) s
is_among-strings [] s = refl
is_among-strings (string ∷ strings) s = ap (λ b. bytes_eq string.items s || b) (is_among-strings strings s)

pub all_strings : (strings : List (Vec ℕ Global)) (i : ℕ) (s : List ℕ) → length strings ≤ i →
    list_any (λ (other : Vec ℕ Global). bytes_eq other.items s) (take i strings) ≡ is_among (strings_of strings) s
all_strings strings i s le =
    ap (list_any (λ (other : Vec ℕ Global). bytes_eq other.items s)) (take_all i strings le) ∙ is_among-strings strings s

-- The strings that are kept.
pub kept_strings : (test : List ℕ → Bool) (p : Vec ℕ Global → Bool) → ((string : Vec ℕ Global) → p string ≡ test string.items) →
    (strings : List (Vec ℕ Global)) → strings_of (filter p strings) ≡ filter test (strings_of strings)
kept_strings test p same [] = refl
kept_strings test p same (string ∷ strings) =
    if_kept (p string) (kept_strings test p same strings)
    ∙ ap (λ b. cond b (string.items ∷ filter test (strings_of strings)) (filter test (strings_of strings))) (same string)
  where
    if_kept : (b : Bool) → strings_of (filter p strings) ≡ filter test (strings_of strings) →
        strings_of (cond b (string ∷ filter p strings) (filter p strings))
        ≡ cond b (string.items ∷ filter test (strings_of strings)) (filter test (strings_of strings))
    if_kept true rest = ap (λ l. string.items ∷ l) rest
    if_kept false rest = rest

-- A class inside another class.
pub nested_value : (read : Bool × Value) (negated : Bool) (old : CodeValue) (set : List Bounds) → (negated ≡ read.0) × IsValue old read.1 →
    HasMembers (complement_if negated old.set) set →
    IsValue (record { set = set; others = record old.others { nesting = old.others.nesting + 1 } }) (nested read)
nested_value (negated, value) b old set (same, h) members = rw (sym same) (record {
  members = record {
    canonical = members.canonical;
    each = λ c. members.each c ∙ complements b c;
  };
  others = record { strings = h.others.strings; has_empty = h.others.has_empty; may_have_strings = h.others.may_have_strings; nesting = ap (λ n. n + 1) h.others.nesting };
})
  where
    complements : (b : Bool) (c : ℕ) → is_member (complement_if b old.set) c ≡ is_member (complement_if b value.members) c
    complements true c =
        ap (λ (l : List Bounds). is_member l c) (intervals_of-agree (λ n. not (is_member old.set n)) (λ n. not (is_member value.members n))
        (λ n le. ap not (h.members.each n)))
    complements false c = h.members.each c
