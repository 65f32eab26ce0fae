-- Which contents of a class with the flag v have strings, and which may contain them (ECMA-262, MayContainStrings).
use Rattle.std.proofs.Common.{◌≡◌, ℕ, ◌⊎◌, inl, inr, Bool, true, false, not, ◌&&◌, ◌||◌, List, [], ◌∷◌, ◌++◌, drop, map, filter, Option, Some, None, option_map, if◌then◌else◌, refl, sym, ap, ap₂, subst, ◌∙◌, arith}
use Rattle.std.specs.List.{list_any, list_all}
use Rattle.std.specs.Option.{option_or}
use Rattle.std.specs.Str.{bytes_eq}
use Rattle.std.proofs.lemmas.Bool.{false≢true, and_parts, or_parts}
use Rattle.std.proofs.lemmas.Bool.Decides.{nat_tests}
use Rattle.std.proofs.lemmas.Option.{none-some, same_Some}
use Rattle.regress_base.specs.Intervals.{Bounds}
use Rattle.regress_base.specs.Table.{Table, Named, named}
use Rattle.regress_lexer.specs.declared.dialect.Dialect.TheVariants.{Ecma}
use Rattle.regress_lexer.specs.Source.{Source, Found, char, is_at}
use Rattle.regress_lexer.proofs.lemmas.InRange.{Finds, finds_none, finds_some, finds_cond, finds_then}
use Rattle.regress_classes.specs.declared.parameters.Parameters.{Parameters}
use Rattle.regress_classes.specs.ClassProductions.{closes}
use Rattle.regress_classes.specs.ClassSets.{Value, is_among, is_not_negatable, joined, common, without, closed_value, value_of_strings}
use Rattle.regress_classes.specs.Properties.{Property, of_points, of_strings, closed_property, value_in, list_named, lone_value, property_word_at, listed_value_at, braced_property_at, property_at}
use Rattle.regress_ecma.specs.ClassSetExpressions.{is_string, HasPropertiesOfStrings}

-- ---- contents without strings

-- It has no strings, and what is written has none.
pub record IsPlain (v : Value) : Type 0 where
  pub strings : v.strings ≡ []
  pub has_empty : v.has_empty ≡ false
  pub may_have : v.may_have_strings ≡ false

pub plain_negatable : (v : Value) → IsPlain v → is_not_negatable Ecma v ≡ false
plain_negatable v plain = rw (plain.strings, plain.has_empty, plain.may_have) refl

pub joined_plain : (a b : Value) → IsPlain a → IsPlain b → IsPlain (joined a b)
joined_plain a b first second = record {
  strings = ap₂ (λ (x y : List (List ℕ)). x ++ y) first.strings second.strings;
  has_empty = ap₂ (λ (x y : Bool). x || y) first.has_empty second.has_empty;
  may_have = ap₂ (λ (x y : Bool). x || y) first.may_have second.may_have;
}

filter_nothing : (xs : List (List ℕ)) → filter (is_among []) xs ≡ []
filter_nothing [] = refl
filter_nothing (x ∷ xs) = filter_nothing xs

and_false : (b : Bool) → (b && false) ≡ false
and_false true = refl
and_false false = refl

pub common_plain : (a b : Value) → IsPlain a ⊎ IsPlain b → IsPlain (common a b)
common_plain a b (inl plain) = record {
  strings = ap (filter (is_among b.strings)) plain.strings;
  has_empty = ap (λ (x : Bool). x && b.has_empty) plain.has_empty;
  may_have = ap (λ (x : Bool). x && b.may_have_strings) plain.may_have;
}
common_plain a b (inr plain) = record {
  strings = ap (λ (ss : List (List ℕ)). filter (is_among ss) a.strings) plain.strings ∙ filter_nothing a.strings;
  has_empty = ap (λ (x : Bool). a.has_empty && x) plain.has_empty ∙ and_false a.has_empty;
  may_have = ap (λ (x : Bool). a.may_have_strings && x) plain.may_have ∙ and_false a.may_have_strings;
}

pub without_plain : (a b : Value) → IsPlain a → IsPlain (without a b)
without_plain a b plain = record {
  strings = ap (filter (λ s. not (is_among b.strings s))) plain.strings;
  has_empty = ap (λ (x : Bool). x && not b.has_empty) plain.has_empty;
  may_have = plain.may_have;
}

pub closed_plain : (table : Table) (parameters : Parameters) (v : Value) → IsPlain v → IsPlain (closed_value table parameters v)
closed_plain table parameters v plain = record {
  strings = by (closes parameters);
  has_empty = plain.has_empty;
  may_have = plain.may_have;
}
  where
    by : (b : Bool) → (if b then map (map table.fold) v.strings else v.strings) ≡ []
    by true = ap (map (map table.fold)) plain.strings
    by false = plain.strings

-- ---- lists of strings

several : (c d : ℕ) (cs : List ℕ) → is_string (c ∷ d ∷ cs) ≡ true
several c d cs = grind (arith, nat_tests)

pub strings_may : (ss : List (List ℕ)) → (value_of_strings ss).may_have_strings ≡ list_any is_string ss
strings_may [] = refl
strings_may ([] ∷ ss) = refl
strings_may ((c ∷ []) ∷ ss) = strings_may ss
strings_may ((c ∷ d ∷ cs) ∷ ss) = ap (λ (b : Bool). b || list_any is_string ss) (sym (several c d cs))

pub strings_plain : (ss : List (List ℕ)) → list_any is_string ss ≡ false → IsPlain (value_of_strings ss)
strings_plain [] e = record { strings = refl; has_empty = refl; may_have = refl }
strings_plain ([] ∷ ss) e = absurd (false≢true (sym e))
strings_plain ((c ∷ []) ∷ ss) e =
    let rest = strings_plain ss e in record { strings = rest.strings; has_empty = rest.has_empty; may_have = rest.may_have }
strings_plain ((c ∷ d ∷ cs) ∷ ss) e =
    absurd (false≢true (sym (or_parts (is_string (c ∷ d ∷ cs)) (list_any is_string ss) e).0 ∙ several c d cs))

-- ---- properties of strings

-- The property has a string that is not one character.
abbrev pub HasSomeString : Property → Type 0
HasSomeString (of_points members) = Unit {0}
HasSomeString (of_strings written) = list_any is_string written ≡ true

-- where there is one
abbrev IfThere : Option Property → Type 0
IfThere found = (p : Property) → found ≡ Some p → HasSomeString p

points_have : (members : Option (List Bounds)) → IfThere (option_map of_points members)
points_have None p e = absurd (none-some p e)
points_have (Some members) p e = subst HasSomeString (same_Some (of_points members) p e) tt

listed_have : (value : List ℕ) (entries : Option (List (Named (List Bounds)))) → IfThere (value_in value entries)
listed_have value None p e = absurd (none-some p e)
listed_have value (Some entries) p e = points_have (named value entries) p e

named_have : (name : List ℕ) (entries : List (Named (List (List ℕ)))) → list_all (λ entry. list_any is_string entry.value) entries ≡ true →
    IfThere (option_map of_strings (named name entries))
unfolding named
named_have name [] all = λ p e. absurd (none-some p e)
named_have name (entry ∷ entries) all =
    let parts = and_parts (list_any is_string entry.value) (list_all (λ other. list_any is_string other.value) entries) all in
    by (bytes_eq entry.name name) parts.0 (named_have name entries parts.1)
  where
    by : (b : Bool) → list_any is_string entry.value ≡ true → IfThere (option_map of_strings (named name entries)) →
        IfThere (option_map of_strings (if b then Some entry.value else named name entries))
    by true has others = λ p e. subst HasSomeString (same_Some (of_strings entry.value) p e) has
    by false has others = others

either_have : (a b : Option Property) → IfThere a → IfThere b → IfThere (option_or a b)
either_have None b first second = second
either_have (Some a) b first second = first

closed_have : (found : Option Property) (t : Source) → IfThere found → Finds HasSomeString (closed_property found t)
closed_have None t h = finds_none HasSomeString
closed_have (Some p) t h =
    finds_cond HasSomeString (is_at (char "}") t) (Some (p, drop 1 t)) None (λ _. finds_some HasSomeString (p, drop 1 t) (h p refl))
    (λ _. finds_none HasSomeString)

Anything : List ℕ → Type 0
Anything x = Unit {0}

any_word : (found : Found (List ℕ)) → Finds Anything found
unfolding Anything
any_word found = record { each = λ x e. tt }

pub property_has : (table : Table) → HasPropertiesOfStrings table → (t : Source) → Finds HasSomeString (property_at true table t)
unfolding property_at
property_has table all t =
    finds_cond HasSomeString (is_at (char "{") t) (braced_property_at true table (drop 1 t)) None
    (λ _. finds_then Anything HasSomeString (property_word_at (drop 1 t)) _ (any_word (property_word_at (drop 1 t)))
    (λ x _. finds_cond HasSomeString (is_at (char "=") x.1) (listed_value_at table x.0 (drop 1 x.1)) (closed_property (lone_value true table x.0) x.1)
    (λ _. finds_then Anything HasSomeString (property_word_at (drop 1 x.1)) _ (any_word (property_word_at (drop 1 x.1)))
    (λ y _. closed_have (value_in y.0 (list_named table x.0)) y.1 (listed_have y.0 (list_named table x.0))))
    (λ _. closed_have (lone_value true table x.0) x.1
    (either_have (option_map of_points (named x.0 table.binary)) _ (points_have (named x.0 table.binary))
    (either_have (option_map of_strings (named x.0 table.strings)) _ (named_have x.0 table.strings all)
    (points_have (named x.0 table.general_category)))))))
    (λ _. finds_none HasSomeString)
