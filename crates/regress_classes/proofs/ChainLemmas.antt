-- What a chain of operators keeps of its first operand.
use Rattle.std.proofs.Common.{◌≡◌, ℕ, ◌≤◌, Vec, Bool, true, false, not, ◌&&◌, ◌||◌, max, List, [], ◌∷◌, ◌++◌, inl, inr, cond, filter, refl, sym, ap, ap₂, ◌∙◌, subst, arith}
use Rattle.std.proofs.lemmas.Bool.Decides.{leb_tells}
use Rattle.std.proofs.lemmas.List.{map-append}
use Rattle.std.proofs.lemmas.List.Folds.{list_any-append}
use Rattle.std.proofs.lemmas.Map.Views.{any-filter_same}
use Rattle.std.proofs.lemmas.Slice.Eq.{bytes_eq-Decides}
use Rattle.std.proofs.Math.Bool.{and-true}
use Rattle.std.specs.Str.{bytes_eq}
use Rattle.std.specs.declared.alloc.Global.{Global}
use Rattle.regress_base.specs.Intervals.{Bounds, is_member, IsCanonical, intervals_of, code_point_max}
use Rattle.regress_base.proofs.lemmas.Sets.{is_member-nil, no_member_past_end, intervals_of-member, intervals_of-canonical}
use Rattle.regress_classes.specs.declared.class_sets.value.Value.{Value as CodeValue}
use Rattle.regress_classes.specs.declared.class_sets.chain.Taken.{Taken}
use Rattle.regress_classes.specs.declared.class_sets.others.Others.{Others}
use Rattle.regress_classes.specs.declared.class_sets.Operator.{Operator}
use Rattle.regress_classes.specs.declared.class_sets.Operator.TheVariants as operators
use Rattle.regress_classes.specs.ClassSets.{Value, is_among}
use Rattle.regress_classes.specs.ClassViews.{HasMembers, HasOthers, IsValue, AreKeptStrings, IsLeft, strings_of, applied, kept, may_be_left}
use Rattle.regress_classes.proofs.ClassSetLemmas.{kept_strings}

-- ---- both operators

abbrev pub left_of : Operator → Value → Value → Value
left_of operator a b = record {
  members = intervals_of (λ c. is_member a.members c && kept operator (is_member b.members c));
  strings = filter (λ s. kept operator (is_among b.strings s)) a.strings;
  has_empty = a.has_empty && kept operator b.has_empty;
  may_have_strings = may_be_left operator a.may_have_strings b.may_have_strings;
  nesting = max a.nesting b.nesting;
}

pub applied_is : (operator : Operator) (a b : Value) → applied operator a b ≡ left_of operator a b
applied_is operators.Intersection a b = refl
applied_is operators.Subtraction a b = refl

-- ---- members

drops_more : (x o k : Bool) → ((x && not o) && k) ≡ (x && not (o || not k))
drops_more false o k = refl
drops_more true true k = refl
drops_more true false true = refl
drops_more true false false = refl

-- One more operand, which drops these code points.
members_left : (operator : Operator) (set v b old new : List Bounds) (dropped : List Bounds) → IsCanonical set →
    ((c : ℕ) → is_member v c ≡ (is_member set c && not (is_member old c))) →
    ((c : ℕ) → c ≤ code_point_max → is_member dropped c ≡ not (kept operator (is_member b c))) →
    ((c : ℕ) → is_member new c ≡ (is_member old c || is_member dropped c)) → (c : ℕ) →
    is_member (intervals_of (λ n. is_member v n && kept operator (is_member b n))) c ≡ (is_member set c && not (is_member new c))
members_left operator set v b old new dropped canonical before drops adds c =
    elim (leb_tells c code_point_max) [
      | inl within ↦
          intervals_of-member (λ n. is_member v n && kept operator (is_member b n)) c within.1
          ∙ ap (λ x. x && kept operator (is_member b c)) (before c)
          ∙ drops_more (is_member set c) (is_member old c) (kept operator (is_member b c))
          ∙ ap (λ x. is_member set c && not (is_member old c || x)) (sym (drops c within.1))
          ∙ ap (λ x. is_member set c && not x) (sym (adds c))
      | inr past ↦
          no_member_past_end _ c (intervals_of-canonical (λ n. is_member v n && kept operator (is_member b n))) past.1
          ∙ sym (ap (λ x. x && not (is_member new c)) (no_member_past_end set c canonical past.1))
    ]

-- ---- strings

filter_both : {A : Type 0} (p q r : A → Bool) → ((x : A) → r x ≡ (p x && q x)) → (xs : List A) → filter r xs ≡ filter q (filter p xs)
filter_both p q r same [] = refl
filter_both p q r same (x ∷ xs) = by (p x) (same x) (filter_both p q r same xs)
  where
    by : (a : Bool) → r x ≡ (a && q x) → filter r xs ≡ filter q (filter p xs) →
        filter r (x ∷ xs) ≡ filter q (cond a (x ∷ filter p xs) (filter p xs))
    by true e rest = ap (λ z. cond z (x ∷ filter r xs) (filter r xs)) e ∙ ap (λ l. cond (q x) (x ∷ l) l) rest
    by false e rest = ap (λ z. cond z (x ∷ filter r xs) (filter r xs)) e ∙ rest

among_common : (olds news : List (List ℕ)) (s : List ℕ) → is_among (filter (is_among olds) news) s ≡ (is_among olds s && is_among news s)
among_common olds news s =
    any-filter_same (λ other. bytes_eq other s) (is_among olds) (is_among olds s)
    (λ other e. ap (is_among olds) ((bytes_eq-Decides other s).0 e)) news

pub strings_common : (olds news : List (Vec ℕ Global)) (both : List (Vec ℕ Global)) (s : List ℕ) →
    both ≡ filter (λ string. is_among (strings_of olds) string.items) news →
    is_among (strings_of both) s ≡ (is_among (strings_of olds) s && is_among (strings_of news) s)
strings_common olds news both s e =
    ap (λ (l : List (Vec ℕ Global)). is_among (strings_of l) s) e
    ∙ ap (λ l. is_among l s) (kept_strings (is_among (strings_of olds)) (λ string. is_among (strings_of olds) string.items) (λ string. refl) news)
    ∙ among_common (strings_of olds) (strings_of news) s

neither : (x y : Bool) → not (x || y) ≡ (not x && not y)
neither true y = refl
neither false y = refl

pub strings_joined : (olds news both : List (Vec ℕ Global)) (s : List ℕ) → both ≡ olds ++ news →
    not (is_among (strings_of both) s) ≡ (not (is_among (strings_of olds) s) && not (is_among (strings_of news) s))
strings_joined olds news both s e =
    ap not (ap (λ (l : List (Vec ℕ Global)). is_among (strings_of l) s) e
    ∙ ap (λ l. is_among l s) (map-append (λ (string : Vec ℕ Global). string.items) olds news)
    ∙ list_any-append (λ other. bytes_eq other s) (strings_of olds) (strings_of news))
    ∙ neither (is_among (strings_of olds) s) (is_among (strings_of news) s)

-- ---- the strings and the nesting depth that are kept

pub others_first : (operator : Operator) (a b : Value) (first taken : Others) → HasOthers a first → HasOthers b taken →
    AreKeptStrings operator first taken (left_of operator a b)
others_first operator a b first taken h k = record {
  strings = ap₂ (λ (l m : List (List ℕ)). filter (λ s. kept operator (is_among l s)) m) (sym k.strings) (sym h.strings);
  has_empty = ap₂ (λ x y. x && kept operator y) (sym h.has_empty) (sym k.has_empty);
  may_have_strings = ap₂ (may_be_left operator) (sym h.may_have_strings) (sym k.may_have_strings);
  nesting = ap₂ max (sym h.nesting) (sym k.nesting);
}

may_more : (operator : Operator) (f o n : Bool) → may_be_left operator (may_be_left operator f o) n ≡ may_be_left operator f (o && n)
may_more operators.Intersection true o n = refl
may_more operators.Intersection false o n = refl
may_more operators.Subtraction f o n = refl

pub others_more : (operator : Operator) (first : Others) (v b : Value) (old operand new : Others) → AreKeptStrings operator first old v → HasOthers b operand →
    ((s : List ℕ) → kept operator (is_among (strings_of new.strings.items) s)
    ≡ (kept operator (is_among (strings_of old.strings.items) s) && kept operator (is_among (strings_of operand.strings.items) s))) →
    kept operator new.has_empty ≡ (kept operator old.has_empty && kept operator operand.has_empty) →
    new.may_have_strings ≡ (old.may_have_strings && operand.may_have_strings) →
    new.nesting ≡ max old.nesting operand.nesting → AreKeptStrings operator first new (applied operator v b)
others_more operator first v b old operand new h k strings has_empty may nesting = subst (AreKeptStrings operator first new) (sym (applied_is operator v b)) (record {
  strings = ap₂ (λ (l m : List (List ℕ)). filter (λ s. kept operator (is_among l s)) m) (sym k.strings) h.strings
      ∙ sym (filter_both (λ s. kept operator (is_among (strings_of old.strings.items) s)) (λ s. kept operator (is_among (strings_of operand.strings.items) s))
      (λ s. kept operator (is_among (strings_of new.strings.items) s)) strings (strings_of first.strings.items));
  has_empty = ap₂ (λ x y. x && kept operator y) h.has_empty (sym k.has_empty)
      ∙ and_both first.has_empty (kept operator old.has_empty) (kept operator operand.has_empty)
      ∙ ap (λ x. first.has_empty && x) (sym has_empty);
  may_have_strings = ap₂ (may_be_left operator) h.may_have_strings (sym k.may_have_strings)
      ∙ may_more operator first.may_have_strings old.may_have_strings operand.may_have_strings
      ∙ ap (may_be_left operator first.may_have_strings) (sym may);
  nesting = omega (arith, h.nesting, k.nesting, nesting);
})
  where
    and_both : (x y z : Bool) → ((x && y) && z) ≡ (x && (y && z))
    and_both true y z = refl
    and_both false y z = refl

pub others_over : (operator : Operator) (first new taken : Others) (v : Value) → AreKeptStrings operator first taken v →
    new.strings.items ≡ filter (λ string. kept operator (is_among (strings_of taken.strings.items) string.items)) first.strings.items →
    new.has_empty ≡ (first.has_empty && kept operator taken.has_empty) →
    new.may_have_strings ≡ may_be_left operator first.may_have_strings taken.may_have_strings → new.nesting ≡ max first.nesting taken.nesting → HasOthers v new
others_over operator first new taken v h strings has_empty may nesting = record {
  strings = ap strings_of strings
      ∙ kept_strings (λ s. kept operator (is_among (strings_of taken.strings.items) s))
      (λ string. kept operator (is_among (strings_of taken.strings.items) string.items)) (λ string. refl) first.strings.items
      ∙ sym h.strings;
  has_empty = has_empty ∙ sym h.has_empty;
  may_have_strings = may ∙ sym h.may_have_strings;
  nesting = nesting ∙ sym h.nesting;
}

-- ---- the value that is kept

-- The first operand after the operator.
pub remainder_of_first : (operator : Operator) (first : CodeValue) (a b : Value) (operand : CodeValue) (taken : Taken) (none dropped : List Bounds) →
    IsValue first a → IsValue operand b → none ≡ [] →
    ((c : ℕ) → c ≤ code_point_max → is_member dropped c ≡ not (kept operator (is_member operand.set c))) →
    ((c : ℕ) → is_member taken.points c ≡ (is_member none c || is_member dropped c)) → HasOthers b taken.others →
    IsLeft operator first taken (applied operator a b)
remainder_of_first operator first a b operand taken none dropped h k empty drops adds others =
    subst (IsLeft operator first taken) (sym (applied_is operator a b)) (record {
      canonical = h.members.canonical;
      members = members_left operator first.set a.members b.members none taken.points dropped h.members.canonical
          (λ c. sym (h.members.each c) ∙ sym (and-true (is_member first.set c))
          ∙ ap (λ x. is_member first.set c && not x) (sym (ap (λ (l : List Bounds). is_member l c) empty ∙ is_member-nil c)))
          (λ c within. drops c within ∙ ap (λ x. not (kept operator x)) (k.members.each c)) adds;
      others = others_first operator a b first.others taken.others h.others others;
    })

-- One more operand.
pub remainder_of_more : (operator : Operator) (first : CodeValue) (v b : Value) (operand : CodeValue) (old new : Taken) (dropped : List Bounds) →
    IsLeft operator first old v → IsValue operand b →
    ((c : ℕ) → c ≤ code_point_max → is_member dropped c ≡ not (kept operator (is_member operand.set c))) →
    ((c : ℕ) → is_member new.points c ≡ (is_member old.points c || is_member dropped c)) →
    AreKeptStrings operator first.others new.others (applied operator v b) → IsLeft operator first new (applied operator v b)
remainder_of_more operator first v b operand old new dropped h k drops adds others = record {
  canonical = h.canonical;
  members = subst (λ (left : Value). (c : ℕ) → is_member left.members c ≡ (is_member first.set c && not (is_member new.points c)))
      (sym (applied_is operator v b))
      (members_left operator first.set v.members b.members old.points new.points dropped h.canonical h.members
      (λ c within. drops c within ∙ ap (λ x. not (kept operator x)) (k.members.each c)) adds);
  others = others;
}

-- What is kept of the first operand, once everything is dropped from it.
pub left_over : (operator : Operator) (old new : CodeValue) (taken : Taken) (points : List Bounds) (v : Value) → IsLeft operator old taken v →
    HasMembers taken.points points → IsCanonical new.set →
    ((c : ℕ) → is_member new.set c ≡ (is_member old.set c && not (is_member points c))) → HasOthers v new.others → IsValue new v
left_over operator old new taken points v h has canonical members others = record {
  members = record {
    canonical = canonical;
    each = λ c. members c ∙ ap (λ x. is_member old.set c && not x) (has.each c) ∙ sym (h.members c);
  };
  others = others;
}
