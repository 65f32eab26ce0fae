-- The elements of a CharSet beside the contents that the syntax tree has, and what operators make of both. With case folding
-- the elements are foldings, and the contents are closed under it.
use Rattle.std.proofs.Common.{◌≡◌, ℕ, suc, ◌==◌, Bool, true, false, not, ◌&&◌, ◌||◌, List, [], ◌∷◌, ◌++◌, length, map, filter, if◌then◌else◌, refl, sym, ap, ap₂, ◌∙◌, append_assoc, append-nil, arith}
use Rattle.std.proofs.lemmas.Bool.{false≢true, ne_eqb, and_parts, or_parts}
use Rattle.regress_base.specs.Table.{Table}
use Rattle.regress_classes.specs.ClassProductions.{members_of, class_letter, complement_if, closes, closed_members, class_members, one_point, points_between}
use Rattle.regress_classes.specs.ClassProductions as ClassProductions
use Rattle.regress_classes.specs.ClassSets.{Value, has_strings, joined, is_among, common, without, value_of_string, value_of_strings}
use Rattle.regress_ecma.specs.Notation.{CharSet}
use Rattle.regress_ecma.specs.CharSets.{Elements, no_elements, only, union, one_string, each_string, in_both, in_first_only}
use Rattle.regress_ecma.specs.Differences.{HasCaseDataOfUnicode}
use Rattle.regress_ecma.proofs.FoldedSets.{closed_if, folded_if, strings_if, complement_if_folded, IsFoldingOf, folding_is, closed_again, complement_of, combined, union_of, strings-twice, strings-append, strings-filter}

-- the elements of a value
abbrev pub elements : Value → Elements
elements v = record { characters = v.members; strings = v.strings; has_empty = v.has_empty }

-- The value is closed under case folding, if that is in force, and the elements are the foldings of its own.
pub record Represents (table : Table) (folds : Bool) (a : Elements) (v : Value) : Type 0 where
  pub characters : IsFoldingOf table folds a.characters v.members
  pub strings : a.strings ≡ v.strings
  pub folded_strings : strings_if table folds v.strings ≡ v.strings
  pub has_empty : a.has_empty ≡ v.has_empty

same_elements : (a b : Elements) → a.characters ≡ b.characters → a.strings ≡ b.strings → a.has_empty ≡ b.has_empty → a ≡ b
same_elements a b characters strings has_empty =
    ap (λ (x : CharSet). record { characters = x; strings = a.strings; has_empty = a.has_empty }) characters
    ∙ ap (λ (x : List (List ℕ)). record { characters = b.characters; strings = x; has_empty = a.has_empty }) strings
    ∙ ap (λ (x : Bool). record { characters = b.characters; strings = b.strings; has_empty = x }) has_empty

pub union-none : (a : Elements) → union a no_elements ≡ a
union-none a = same_elements (union a no_elements) a (append-nil a.characters) (append-nil a.strings) (or_false a.has_empty)
  where
    or_false : (b : Bool) → (b || false) ≡ b
    or_false true = refl
    or_false false = refl

pub union-assoc : (a b c : Elements) → union a (union b c) ≡ union (union a b) c
union-assoc a b c =
    same_elements (union a (union b c)) (union (union a b) c) (sym (append_assoc a.characters b.characters c.characters))
    (sym (append_assoc a.strings b.strings c.strings)) (or_assoc a.has_empty b.has_empty c.has_empty)
  where
    or_assoc : (x y z : Bool) → (x || (y || z)) ≡ ((x || y) || z)
    or_assoc true y z = refl
    or_assoc false y z = refl

one_string-same : (s : List ℕ) → one_string s ≡ elements (value_of_string s)
one_string-same [] = refl
one_string-same (c ∷ []) = refl
one_string-same (c ∷ d ∷ cs) = refl

pub each_string-same : (strings : List (List ℕ)) → each_string strings ≡ elements (value_of_strings strings)
each_string-same [] = refl
each_string-same (s ∷ strings) = ap₂ union (one_string-same s) (each_string-same strings)

none_are : (strings : List (List ℕ)) → not (length strings == 0) ≡ false → strings ≡ []
none_are [] none = refl
none_are (s ∷ strings) none =
    let some : (suc (length strings) == 0) ≡ false = ne_eqb (suc (length strings)) 0 (omega arith) in
    absurd (false≢true (sym none ∙ ap not some))

-- ---- operations

module _ (table : Table) where
  abbrev pub closed : Bool → Value → Value
  closed folds v = record v { members = closed_if table folds v.members; strings = strings_if table folds v.strings }

  abbrev pub folded : Bool → Elements → Elements
  folded folds a = if folds then record a { characters = folded_if table folds a.characters; strings = map (map table.fold) a.strings } else a

module _ (table : Table) (maps : HasCaseDataOfUnicode table) where
  pub folding : (folds : Bool) (v : Value) → Represents table folds (folded table folds (elements v)) (closed table folds v)
  folding true v = record {
    characters = folding_is table maps true v.members;
    strings = refl;
    folded_strings = strings-twice table maps true v.strings;
    has_empty = refl;
  }
  folding false v = record { characters = folding_is table maps false v.members; strings = refl; folded_strings = refl; has_empty = refl }

  module _ (folds : Bool) (a : Elements) (v : Value) where
    pub closing : Represents table folds a v → Represents table folds a (closed table folds v)
    closing is = record {
      characters = closed_again table maps folds a.characters v.members is.characters;
      strings = is.strings ∙ sym is.folded_strings;
      folded_strings = strings-twice table maps folds v.strings;
      has_empty = is.has_empty;
    }

    pub complementing : Represents table folds a v → has_strings v ≡ false →
        Represents table folds (only (complement_if_folded table folds a.characters)) (record v { members = ClassProductions.complement v.members })
    complementing is none =
        let parts = or_parts (not (length v.strings == 0)) v.has_empty none in
        record {
          characters = complement_of table maps folds a.characters v.members is.characters;
          strings = sym (none_are v.strings parts.0);
          folded_strings = is.folded_strings;
          has_empty = sym parts.1;
        }

    module _ (b : Elements) (w : Value) where
      pub joining : Represents table folds a (closed table folds v) → Represents table folds b (closed table folds w) →
          Represents table folds (union a b) (closed table folds (joined v w))
      joining first second = record {
        characters = union_of table maps folds a.characters b.characters v.members w.members first.characters second.characters;
        strings = ap₂ (λ (x y : List (List ℕ)). x ++ y) first.strings second.strings ∙ sym (strings-append table maps folds v.strings w.strings);
        folded_strings = strings-twice table maps folds (v.strings ++ w.strings);
        has_empty = ap₂ (λ (x y : Bool). x || y) first.has_empty second.has_empty;
      }

      pub intersecting : Represents table folds a v → Represents table folds b w → Represents table folds (in_both a b) (common v w)
      intersecting first second = record {
        characters =
            combined table maps folds a.characters v.members first.characters b.characters w.members second.characters
            (λ x y. x && y) (λ x y h. (and_parts x y h).0);
        strings = ap₂ (λ (x y : List (List ℕ)). filter (is_among y) x) first.strings second.strings;
        folded_strings = strings-filter table maps folds (is_among w.strings) v.strings first.folded_strings;
        has_empty = ap₂ (λ (x y : Bool). x && y) first.has_empty second.has_empty;
      }

      pub subtracting : Represents table folds a v → Represents table folds b w → Represents table folds (in_first_only a b) (without v w)
      subtracting first second = record {
        characters =
            combined table maps folds a.characters v.members first.characters b.characters w.members second.characters
            (λ x y. x && not y) (λ x y h. (and_parts x (not y) h).0);
        strings = ap₂ (λ (x y : List (List ℕ)). filter (λ s. not (is_among y s)) x) first.strings second.strings;
        folded_strings = strings-filter table maps folds (λ s. not (is_among w.strings s)) v.strings first.folded_strings;
        has_empty = ap₂ (λ (x y : Bool). x && not y) first.has_empty second.has_empty;
      }
