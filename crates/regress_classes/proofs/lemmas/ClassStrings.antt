-- The strings of a class with the flag v, and those of a property, consist of code points. The classes in a class nest
-- no deeper than the bound.
use Rattle.std.proofs.Common.{◌≡◌, ℕ, zero, suc, ◌+◌, ◌<◌, ◌≤◌, Bool, true, false, not, ◌&&◌, ◌||◌, ◌==◌, nat_le, cond, List, [], ◌∷◌, ◌++◌, length, drop, map, if◌then◌else◌, Option, Some, None, refl, arith, leb-true}
use Rattle.std.proofs.lemmas.List.Elements.{All-head, All-nil, All-cons, All-append, All-drop, All-filter, All-map, All-weaker}
use Rattle.std.specs.List.{All, list_all}
use Rattle.std.specs.Option.{IfSome, option_map, option_or}
use Rattle.std.specs.Str.{bytes_eq}
use Rattle.regress_base.specs.Intervals.{Bounds, code_point_max}
use Rattle.regress_base.specs.Limits.{max_nesting_depth}
use Rattle.regress_base.specs.Table.{Table, Named, named, is_string, IsValidTable}
use Rattle.regress_lexer.specs.declared.dialect.Dialect.{Dialect}
use Rattle.regress_lexer.specs.Dialects.{isolates_ampersand, judges_contents}
use Rattle.regress_lexer.specs.Source.{Source, Found, ◌>>=◌, found_map, IsCodePoint, is_at, first_production}
use Rattle.regress_classes.specs.declared.parameters.Parameters.{Parameters}
use Rattle.regress_classes.specs.Properties.{Property, of_points, of_strings, list_named, strings_named, lone_value, value_in, closed_property, property_at, property_word_at}
use Rattle.regress_classes.specs.ClassProductions.{class_letter, closes, closed_members, class_members, one_point, complement_if}
use Rattle.regress_classes.specs.ClassSets.{Value, is_not_negatable, nothing, only, joined, folded_left, common, without, is_among, value_of_string, value_of_strings, nested, unless_negated_strings, Operand, character, class, value_of, closed_value, closed_value_of, is_set_syntax, begins_pair, is_reserved, escaped_character_at, set_character_at, strings_by, quoted_at, property_operand, operand_productions, escaped_operand_at, operand_at, next_operand_at, range_of, part_after, parts_by, are_at, operands_by, contents_after, contents_at, closed_contents_at, class_set_by, class_set_at}
use Rattle.regress_lexer.proofs.lemmas.Digits.{and_both}
use Rattle.regress_lexer.proofs.lemmas.After.{Ends, ends_then, after_all}
use Rattle.regress_lexer.proofs.lemmas.InRange.{Finds, finds_none, finds_some, finds_cond, finds_then, finds_map, escape_at-in_range}
use Rattle.regress_classes.proofs.lemmas.ClassSets.{set_character_at-ends, operand_at-ends, next_operand_at-ends, part_after-ends, class_set_by-ends}
use Rattle.regress_lexer.proofs.lemmas.Sources.{EachProduction, no_more, ◌also◌, first_production-has}

abbrev pub OfCodePoints : List (List ℕ) → Type 0
OfCodePoints strings = All (All IsCodePoint) strings

-- The strings of a property consist of code points.
abbrev pub PropertyInRange : Property → Type 0
PropertyInRange (of_points members) = Unit {0}
PropertyInRange (of_strings written) = OfCodePoints written

abbrev pub ValueInRange : Value → Type 0
ValueInRange value = OfCodePoints value.strings

-- A predicate that holds for a value if it holds for its operands: for code points, for strings of them, and for two
-- such values combined.
record IsKept (P : Value → Type 0) : Type 0 where
  points : (members : List Bounds) → P (only members)
  strings : (ss : List (List ℕ)) → OfCodePoints ss → P (value_of_strings ss)
  joins : (a b : Value) → P a → P b → P (joined a b)
  intersects : (a b : Value) → P a → P b → P (common a b)
  subtracts : (a b : Value) → P a → P b → P (without a b)
  closes : (table : Table) → IsValidTable table → (parameters : Parameters) (v : Value) → P v → P (closed_value table parameters v)

abbrev Holds : (Value → Type 0) → Operand → Type 0
Holds P (character c) = IsCodePoint c
Holds P (class value) = P value

-- ---- properties

each_passes : {A : Type 0} (p : A → Bool) (P : A → Type 0) → ((x : A) → p x ≡ true → P x) → (xs : List A) → list_all p xs ≡ true → All P xs
each_passes p P h [] e = All-nil P
each_passes p P h (x ∷ xs) e =
    let both = and_both (p x) (list_all p xs) e in
    All-cons P x xs (h x both.0) (each_passes p P h xs both.1)

string_in_range : (s : List ℕ) → is_string s ≡ true → All IsCodePoint s
string_in_range s e =
    each_passes (λ c. nat_le c code_point_max) IsCodePoint (λ c h. leb-true c code_point_max h) s (and_both _ _ e).1

some_cond : {A : Type 0} (P : A → Type 0) (b : Bool) (x y : Option A) → IfSome x P → IfSome y P → IfSome (cond b x y) P
some_cond P true x y h k = h
some_cond P false x y h k = k

named-in_range : (name : List ℕ) (entries : List (Named (List (List ℕ)))) →
    list_all (λ entry. list_all is_string entry.value) entries ≡ true → IfSome (named name entries) OfCodePoints
unfolding named
named-in_range name [] e = tt
named-in_range name (entry ∷ entries) e =
    let both = and_both (list_all is_string entry.value) _ e in
    some_cond OfCodePoints (bytes_eq entry.name name) (Some entry.value) (named name entries)
    (each_passes is_string (All IsCodePoint) string_in_range entry.value both.0) (named-in_range name entries both.1)

strings-in_range : (found : Option (List (List ℕ))) → IfSome found OfCodePoints → IfSome (option_map of_strings found) PropertyInRange
strings-in_range None h = tt
strings-in_range (Some strings) h = h

points-in_range : (found : Option (List Bounds)) → IfSome (option_map of_points found) PropertyInRange
points-in_range None = tt
points-in_range (Some members) = tt

or-in_range : (a b : Option Property) → IfSome a PropertyInRange → IfSome b PropertyInRange → IfSome (option_or a b) PropertyInRange
or-in_range None b h k = k
or-in_range (Some a) b h k = h

value_in-in_range : (value : List ℕ) (entries : Option (List (Named (List Bounds)))) → IfSome (value_in value entries) PropertyInRange
value_in-in_range value None = tt
value_in-in_range value (Some entries) = points-in_range (named value entries)

closed_property-in_range : (found : Option Property) (t : Source) → IfSome found PropertyInRange →
    Finds PropertyInRange (closed_property found t)
closed_property-in_range None t h = finds_none _
closed_property-in_range (Some property) t h =
    finds_cond _ (is_at 125 t) _ _ (λ _. finds_some _ (property, drop 1 t) h) (λ _. finds_none _)

-- Whatever the word is.
after_word : {A : Type 0} {P : A → Type 0} (t : Source) (next : List ℕ × Source → Found A) → ((x : List ℕ × Source) → Finds P (next x)) →
    Finds P (property_word_at t >>= next)
after_word {A} {P} t next h = finds_then (λ _. Unit {0}) P (property_word_at t) next (record { each = λ x e. tt }) (λ x _. h x)

module _ (table : Table) (lawful : IsValidTable table) where
  lone_value-in_range : (sets : Bool) (name : List ℕ) → IfSome (lone_value sets table name) PropertyInRange
  lone_value-in_range sets name =
      or-in_range (option_map of_points (named name table.binary)) _ (points-in_range (named name table.binary))
      (or-in_range (strings_named sets table name) _
      (some_cond PropertyInRange sets (option_map of_strings (named name table.strings)) None
      (strings-in_range (named name table.strings) (named-in_range name table.strings lawful.strings)) tt)
      (points-in_range (named name table.general_category)))

  pub property_at-in_range : (sets : Bool) (t : Source) → Finds PropertyInRange (property_at sets table t)
  unfolding property_at
  property_at-in_range sets t =
      finds_cond _ (is_at 123 t) _ _
      (λ _. after_word (drop 1 t) _
      (λ x. finds_cond _ (is_at 61 x.1) _ _
      (λ _. after_word (drop 1 x.1) _
      (λ y. closed_property-in_range (value_in y.0 (list_named table x.0)) y.1 (value_in-in_range y.0 (list_named table x.0))))
      (λ _. closed_property-in_range (lone_value sets table x.0) x.1 (lone_value-in_range sets x.0))))
      (λ _. finds_none _)

-- ---- strings

-- what follows the part that was found; only code points remain there
finds_next : {A B : Type 0} (P : A → Type 0) (Q : B → Type 0) (found : Found A) (next : A × Source → Found B) (t : Source) →
    Finds P found → Ends found t → All IsCodePoint t → ((x : A × Source) → P x.0 → All IsCodePoint x.1 → Finds Q (next x)) →
    Finds Q (found >>= next)
finds_next P Q None next t h e all k = finds_none Q
finds_next P Q (Some x) next t h e all k = k x (h.each x refl) (after_all t x.1 (e.each x refl) all)

-- ---- characters and strings

escaped_character_at-in_range : (unicode : Bool) (t : Source) → All IsCodePoint t → Finds IsCodePoint (escaped_character_at unicode t)
escaped_character_at-in_range unicode [] all = finds_none _
escaped_character_at-in_range unicode (c ∷ t) all =
    finds_cond _ (c == 98) _ _ (λ _. finds_some _ (8, t) (omega arith))
    (λ _. finds_cond _ (is_reserved c) _ _ (λ _. finds_some _ (c, t) (All-head IsCodePoint c t all))
    (λ _. escape_at-in_range unicode (c ∷ t) all))

-- A character is a code point.
pub set_character_at-in_range : (parameters : Parameters) (t : Source) → All IsCodePoint t → Finds IsCodePoint (set_character_at parameters t)
unfolding set_character_at
set_character_at-in_range parameters [] all = finds_none _
set_character_at-in_range parameters (c ∷ t) all =
    finds_cond _ (c == 92) _ _ (λ _. escaped_character_at-in_range parameters.unicode t (All-drop IsCodePoint 1 (c ∷ t) all))
    (λ _. finds_cond _ (is_set_syntax c || begins_pair parameters.dialect c t) _ _ (λ _. finds_none _)
    (λ _. finds_some _ (c, t) (All-head IsCodePoint c t all)))

strings_by-in_range : (n : ℕ) (parameters : Parameters) (s : List ℕ) (t : Source) → All IsCodePoint s → All IsCodePoint t →
    Finds OfCodePoints (strings_by n parameters s t)
unfolding strings_by
strings_by-in_range zero parameters s t h all = finds_none _
strings_by-in_range (suc n) parameters s t h all =
    finds_cond _ (is_at 125 t) _ _ (λ _. finds_some _ (s ∷ [], drop 1 t) (All-cons (All IsCodePoint) s [] h (All-nil _)))
    (λ _. finds_cond _ (is_at 124 t) _ _
    (λ _. finds_map OfCodePoints OfCodePoints (λ ss. s ∷ ss) (strings_by n parameters [] (drop 1 t))
    (λ ss k. All-cons (All IsCodePoint) s ss h k)
    (strings_by-in_range n parameters [] (drop 1 t) (All-nil _) (All-drop IsCodePoint 1 t all)))
    (λ _. finds_next IsCodePoint OfCodePoints (set_character_at parameters t) _ t (set_character_at-in_range parameters t all)
    (set_character_at-ends parameters t) all
    (λ x c_in rest. strings_by-in_range n parameters (s ++ x.0 ∷ []) x.1
    (All-append IsCodePoint s (x.0 ∷ []) h (All-cons IsCodePoint x.0 [] c_in (All-nil _))) rest)))

-- ---- predicates that are kept

folded_left-kept : (P : Value → Type 0) (f : Value → Value → Value) → ((a b : Value) → P a → P b → P (f a b)) →
    (held : Value) (others : List Value) → P held → All P others → P (folded_left f held others)
folded_left-kept P f keeps held [] h all = h
folded_left-kept P f keeps held (next ∷ rest) h all =
    folded_left-kept P f keeps (f held next) rest (keeps held next h (All-head P next rest all)) (All-drop P 1 (next ∷ rest) all)

module _ (P : Value → Type 0) (kept : IsKept P) where
  value_of-kept : (x : Operand) → Holds P x → P (value_of x)
  value_of-kept (character c) h = kept.points (one_point c)
  value_of-kept (class value) h = h

  quoted_at-kept : (parameters : Parameters) (t : Source) → All IsCodePoint t → Finds (Holds P) (quoted_at parameters t)
  quoted_at-kept parameters t all =
      finds_cond _ (is_at 123 t) _ _
      (λ _. finds_map OfCodePoints (Holds P) _ (strings_by (length t) parameters [] (drop 1 t)) kept.strings
      (strings_by-in_range (length t) parameters [] (drop 1 t) (All-nil _) (All-drop IsCodePoint 1 t all)))
      (λ _. finds_none _)

  module _ (table : Table) (lawful : IsValidTable table) (parameters : Parameters) where
    closed_value_of-kept : (x : Operand) → Holds P x → P (closed_value_of table parameters x)
    closed_value_of-kept x h = kept.closes table lawful parameters (value_of x) (value_of-kept x h)

    property_operand-kept : (in_negated negated : Bool) (x : Property × Source) → PropertyInRange x.0 →
        Finds (Holds P) (property_operand table parameters in_negated negated x)
    property_operand-kept in_negated negated (of_points members, t) h =
        finds_some _ (class (only (complement_if negated (closed_members table parameters members))), t)
        (kept.points (complement_if negated (closed_members table parameters members)))
    property_operand-kept in_negated negated (of_strings written, t) h =
        finds_cond _ (in_negated || negated) _ _ (λ _. finds_none _)
        (λ _. finds_some _ (class (value_of_strings written), t) (kept.strings written h))

    operand_productions-kept : (in_negated : Bool) (c : ℕ) (t : Source) → All IsCodePoint (c ∷ t) →
        EachProduction (Finds (Holds P)) (operand_productions table parameters in_negated c t)
    operand_productions-kept in_negated c t all =
        (λ _. quoted_at-kept parameters t (All-drop IsCodePoint 1 (c ∷ t) all))
        also (λ _. finds_then PropertyInRange (Holds P) (property_at true table t) _ (property_at-in_range table lawful true t)
        (property_operand-kept in_negated _))
        also (λ _. finds_map IsCodePoint (Holds P) character _ (λ d h. h) (escaped_character_at-in_range parameters.unicode (c ∷ t) all))
        also no_more

    escaped_operand_at-kept : (in_negated : Bool) (t : Source) → All IsCodePoint t →
        Finds (Holds P) (escaped_operand_at table parameters in_negated t)
    escaped_operand_at-kept in_negated [] all = finds_none _
    escaped_operand_at-kept in_negated (c ∷ t) all =
        elim (class_letter c) as (λ named. Finds (Holds P) (elim named as (λ _. Found Operand) [
          | Some name ↦ Some (class (only (class_members table parameters name)), t)
          | None ↦ first_production (operand_productions table parameters in_negated c t)
        ])) [
          | Some name ↦ finds_some _ (class (only (class_members table parameters name)), t) (kept.points (class_members table parameters name))
          | None ↦ first_production-has (Finds (Holds P)) (operand_productions table parameters in_negated c t) (finds_none _) (operand_productions-kept in_negated c t all)
        ]

    module _ (inner : Source → Found (Bool × Value)) (inner_ends : (t : Source) → Ends (inner t) t)
        (I : Bool × Value → Type 0) (nest : (found : Bool × Value) → I found → P (nested found))
        (inner_in : (t : Source) → All IsCodePoint t → Finds I (inner t)) (in_negated : Bool) where
      operand_at-kept : (t : Source) → All IsCodePoint t → Finds (Holds P) (operand_at table parameters inner in_negated t)
      unfolding operand_at
      operand_at-kept t all =
          let rest = All-drop IsCodePoint 1 t all in
          finds_cond _ (is_at 91 t) _ _
          (λ _. finds_map I (Holds P) _ (inner (drop 1 t)) nest (inner_in (drop 1 t) rest))
          (λ _. finds_cond _ (is_at 92 t) _ _ (λ _. escaped_operand_at-kept in_negated (drop 1 t) rest)
          (λ _. finds_map IsCodePoint (Holds P) character (set_character_at parameters t) (λ c h. h) (set_character_at-in_range parameters t all)))

      made-kept : (made : Option (List Bounds)) (t : Source) →
          Finds P (elim made as (λ _. Found Value) [ None ↦ None | Some members ↦ Some (only members, t) ])
      made-kept None t = finds_none _
      made-kept (Some members) t = finds_some _ (only members, t) (kept.points members)

      part_after-kept : (x : Operand × Source) → Holds P x.0 → All IsCodePoint x.1 →
          Finds P (part_after table parameters inner in_negated x)
      part_after-kept (first, t) h all =
          finds_cond _ (is_at 45 t) _ _
          (λ _. finds_then (Holds P) P (operand_at table parameters inner in_negated (drop 1 t)) _
          (operand_at-kept (drop 1 t) (All-drop IsCodePoint 1 t all)) (λ x _. made-kept (range_of first x.0) x.1))
          (λ _. finds_some _ (value_of first, t) (value_of-kept first h))

      operand_ends : (t : Source) → Ends (operand_at table parameters inner in_negated t) t
      operand_ends = operand_at-ends table parameters inner inner_ends in_negated

      after_ends : (x : Operand × Source) → Ends (part_after table parameters inner in_negated x) x.1
      after_ends = part_after-ends table parameters inner inner_ends in_negated

      parts_by-kept : (n : ℕ) (t : Source) → All IsCodePoint t → Finds (All P) (parts_by table parameters inner in_negated n t)
      unfolding parts_by
      parts_by-kept zero t all = finds_none _
      parts_by-kept (suc n) t all =
          finds_cond _ (is_at 93 t) _ _ (λ _. finds_some _ ([], drop 1 t) (All-nil P))
          (λ _. finds_next P (All P) _ _ t
          (finds_next (Holds P) P (operand_at table parameters inner in_negated t) _ t (operand_at-kept t all) (operand_ends t) all
          part_after-kept)
          (ends_then _ _ t (operand_ends t) after_ends) all
          (λ x k rest. finds_map (All P) (All P) (λ parts. x.0 ∷ parts) (parts_by table parameters inner in_negated n x.1)
          (λ parts. All-cons P x.0 parts k) (parts_by-kept n x.1 rest)))

      next_operand_at-kept : (c : ℕ) (t : Source) → All IsCodePoint t → Finds (Holds P) (next_operand_at table parameters inner in_negated c t)
      next_operand_at-kept c t all = finds_cond _ (not (isolates_ampersand parameters.dialect) && is_at c t) _ _ (λ _. finds_none _) (λ _. operand_at-kept t all)

      operands_by-kept : (n c : ℕ) (t : Source) → All IsCodePoint t → Finds (All P) (operands_by table parameters inner in_negated n c t)
      unfolding operands_by
      operands_by-kept zero c t all = finds_none _
      operands_by-kept (suc n) c t all =
          finds_next (Holds P) (All P) (next_operand_at table parameters inner in_negated c t) _ t (next_operand_at-kept c t all)
          (next_operand_at-ends table parameters inner inner_ends in_negated c t) all
          (λ x k rest.
          let has = closed_value_of-kept x.0 k in
          finds_cond _ (is_at 93 x.1) _ _ (λ _. finds_some _ (closed_value_of table parameters x.0 ∷ [], drop 1 x.1) (All-cons P (closed_value_of table parameters x.0) [] has (All-nil P)))
          (λ _. finds_cond _ (are_at c x.1) _ _
          (λ _. finds_map (All P) (All P) (λ others. closed_value_of table parameters x.0 ∷ others) (operands_by table parameters inner in_negated n c (drop 2 x.1))
          (λ others. All-cons P (closed_value_of table parameters x.0) others has) (operands_by-kept n c (drop 2 x.1) (All-drop IsCodePoint 2 x.1 rest)))
          (λ _. finds_none _)))

      -- A value with what is parsed after it.
      onto-kept : (f : Value → Value → Value) (held : Value) (found : Found (List Value)) → ((a b : Value) → P a → P b → P (f a b)) →
          P held → Finds (All P) found → Finds P (found_map (folded_left f held) found)
      onto-kept f held found keeps h all =
          finds_map (All P) P (folded_left f held) found (λ others. folded_left-kept P f keeps held others h) all

      contents_after-kept : (x : Operand × Source) → Holds P x.0 → All IsCodePoint x.1 →
          Finds P (contents_after table parameters inner in_negated x)
      contents_after-kept (first, t) h all =
          let held = value_of-kept first h in
          let closed = closed_value_of-kept first h in
          let one = All-drop IsCodePoint 1 t all in
          let two = All-drop IsCodePoint 2 t all in
          finds_cond _ (are_at 38 t) _ _
          (λ _. onto-kept common (closed_value_of table parameters first) _ kept.intersects closed (operands_by-kept _ 38 (drop 2 t) two))
          (λ _. finds_cond _ (are_at 45 t) _ _
          (λ _. onto-kept without (closed_value_of table parameters first) _ kept.subtracts closed (operands_by-kept _ 45 (drop 2 t) two))
          (λ _. finds_cond _ (is_at 38 t && isolates_ampersand parameters.dialect) _ _
          (λ _. onto-kept joined (joined (value_of first) (only (one_point 38))) _ kept.joins
          (kept.joins (value_of first) (only (one_point 38)) held (kept.points (one_point 38))) (parts_by-kept _ (drop 1 t) one))
          (λ _. finds_next P P (part_after table parameters inner in_negated (first, t)) _ t
          (part_after-kept (first, t) h all) (after_ends (first, t)) all
          (λ x k rest. onto-kept joined x.0 _ kept.joins k (parts_by-kept (length x.1 + 1) x.1 rest)))))

      contents_at-kept : (t : Source) → All IsCodePoint t → Finds P (contents_at table parameters inner in_negated t)
      contents_at-kept t all =
          finds_cond _ (is_at 93 t) _ _ (λ _. finds_some _ (nothing, drop 1 t) (kept.points []))
          (λ _. finds_next (Holds P) P (operand_at table parameters inner in_negated t) _ t (operand_at-kept t all) (operand_ends t) all
          contents_after-kept)

      closed_contents_at-kept : (t : Source) → All IsCodePoint t → Finds P (closed_contents_at table parameters inner in_negated t)
      closed_contents_at-kept t all =
          finds_map P P (closed_value table parameters) (contents_at table parameters inner in_negated t)
          (λ v h. kept.closes table lawful parameters v h) (contents_at-kept t all)

inside-in_range : (t : Source) → All IsCodePoint t → All IsCodePoint (cond (is_at 94 t) (drop 1 t) t)
inside-in_range t all =
    elim (is_at 94 t) as (λ b. All IsCodePoint (cond b (drop 1 t) t)) [ true ↦ All-drop IsCodePoint 1 t all | false ↦ all ]

unless_negated_strings-kept : (P : Value → Type 0) (dialect : Dialect) (negated : Bool) (x : Value × Source) → P x.0 →
    Finds (λ found. P found.1) (unless_negated_strings dialect negated x)
unless_negated_strings-kept P dialect negated (v, t) h =
    finds_cond _ (negated && is_not_negatable dialect v) _ _ (λ _. finds_none _) (λ _. finds_some _ ((negated, v), t) h)

-- ---- strings of code points

value_of_string-in_range : (s : List ℕ) → All IsCodePoint s → ValueInRange (value_of_string s)
value_of_string-in_range [] all = All-nil _
value_of_string-in_range (c ∷ []) all = All-nil _
value_of_string-in_range (c ∷ d ∷ cs) all = All-cons (All IsCodePoint) (c ∷ d ∷ cs) [] all (All-nil _)

value_of_strings-in_range : (ss : List (List ℕ)) → OfCodePoints ss → ValueInRange (value_of_strings ss)
value_of_strings-in_range [] h = All-nil _
value_of_strings-in_range (s ∷ ss) h =
    All-append (All IsCodePoint) (value_of_string s).strings (value_of_strings ss).strings
    (value_of_string-in_range s (All-head (All IsCodePoint) s ss h))
    (value_of_strings-in_range ss (All-drop (All IsCodePoint) 1 (s ∷ ss) h))

folded-in_range : (table : Table) → IsValidTable table → (s : List ℕ) → All IsCodePoint s → All IsCodePoint (map table.fold s)
folded-in_range table lawful s all = All-map IsCodePoint table.fold s (All-weaker IsCodePoint (λ c. IsCodePoint (table.fold c)) (λ c h. lawful.fold.in_range c h) s all)

closed_value-in_range : (table : Table) → IsValidTable table → (parameters : Parameters) (v : Value) → ValueInRange v →
    ValueInRange (closed_value table parameters v)
closed_value-in_range table lawful parameters v all = by (closes parameters)
  where
    by : (b : Bool) → OfCodePoints (if b then map (map table.fold) v.strings else v.strings)
    by true = All-map (All IsCodePoint) (map table.fold) v.strings (All-weaker (All IsCodePoint) (λ s. All IsCodePoint (map table.fold s)) (folded-in_range table lawful) v.strings all)
    by false = all

strings_kept : IsKept ValueInRange
strings_kept = record {
  points = λ members. All-nil _;
  strings = value_of_strings-in_range;
  joins = λ a b. All-append (All IsCodePoint) a.strings b.strings;
  intersects = λ a b h k. All-filter (is_among b.strings) (All IsCodePoint) a.strings h;
  subtracts = λ a b h k. All-filter (λ s. not (is_among b.strings s)) (All IsCodePoint) a.strings h;
  closes = closed_value-in_range;
}

-- ---- nesting depth

level_of_string : (s : List ℕ) → (value_of_string s).nesting ≡ 0
level_of_string [] = refl
level_of_string (c ∷ []) = refl
level_of_string (c ∷ d ∷ cs) = refl

pub level_of_strings : (ss : List (List ℕ)) → (value_of_strings ss).nesting ≡ 0
level_of_strings [] = refl
level_of_strings (s ∷ ss) = omega (arith, level_of_string s, level_of_strings ss)

nesting_kept : (n : ℕ) → IsKept (λ value. value.nesting ≤ n)
nesting_kept n = record {
  points = λ members. omega arith;
  strings = λ ss h. omega (arith, level_of_strings ss);
  joins = λ a b h k. omega (arith, h, k);
  intersects = λ a b h k. omega (arith, h, k);
  subtracts = λ a b h k. omega (arith, h, k);
  closes = λ table lawful parameters v h. h;
}

-- ---- classes

module _ (table : Table) (lawful : IsValidTable table) (parameters : Parameters) where
  class_set_by-in_range : (n : ℕ) (t : Source) → All IsCodePoint t → Finds (λ found. ValueInRange found.1) (class_set_by table parameters n t)
  unfolding class_set_by
  class_set_by-in_range zero t all = finds_none _
  class_set_by-in_range (suc n) t all =
      finds_then ValueInRange _ _ _
      (closed_contents_at-kept ValueInRange strings_kept table lawful parameters (class_set_by table parameters n) (class_set_by-ends table parameters n)
      (λ found. ValueInRange found.1) (λ found h. h) (class_set_by-in_range n) (is_at 94 t && judges_contents parameters.dialect) (cond (is_at 94 t) (drop 1 t) t) (inside-in_range t all))
      (unless_negated_strings-kept ValueInRange parameters.dialect (is_at 94 t))

  -- The strings of a class consist of code points.
  pub class_set_at-in_range : (t : Source) → All IsCodePoint t →
      Finds (λ found. All (All IsCodePoint) found.1.strings) (class_set_at table parameters t)
  class_set_at-in_range t all = class_set_by-in_range max_nesting_depth t all

  -- How deep the classes in a class nest.
  pub class_set_by-nesting : (n : ℕ) (t : Source) → All IsCodePoint t → Finds (λ found. found.1.nesting < n) (class_set_by table parameters n t)
  unfolding class_set_by
  class_set_by-nesting zero t all = finds_none _
  class_set_by-nesting (suc n) t all =
      finds_then (λ value. value.nesting ≤ n) _ _ _
      (closed_contents_at-kept (λ value. value.nesting ≤ n) (nesting_kept n) table lawful parameters (class_set_by table parameters n)
      (class_set_by-ends table parameters n) (λ found. found.1.nesting < n) (λ found h. omega (arith, h)) (class_set_by-nesting n)
      (is_at 94 t && judges_contents parameters.dialect)
      (cond (is_at 94 t) (drop 1 t) t) (inside-in_range t all))
      (λ x h. unless_negated_strings-kept (λ value. value.nesting < suc n) parameters.dialect (is_at 94 t) x (omega (arith, h)))
