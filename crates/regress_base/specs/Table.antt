-- The Unicode data that the meaning of a pattern depends on.
use Rattle.std.specs.Prelude.{◌≡◌, ℕ, ◌<◌, ◌≤◌, Bool, ◌&&◌, nat_le, nat_lt, ◌==◌, List, [], ◌∷◌, length, All, Option, Some, None, IsTrue, if◌then◌else◌}
use Rattle.std.specs.List.{list_any, list_all}
use Rattle.std.specs.Str.{bytes_eq}
use Rattle.regress_base.specs.Intervals.{Bounds, code_point_max, is_member, IsCanonical}
use Rattle.regress_base.specs.Classes.{word_characters}
use Rattle.regress_base.specs.Listing.{is_ascending, code_points, listed}

-- a value with a name, which is given as UTF-8
pub record Named (A : Type 0) : Type 0 where
  pub name : List ℕ
  pub value : A

-- The simple case folding and the upper case of each character, the characters that can begin and continue an
-- identifier, and named sets of code points and of strings.
pub record Table : Type 0 where
  pub fold : ℕ → ℕ
  pub uppercase : ℕ → ℕ
  pub id_start : List Bounds
  pub id_continue : List Bounds
  pub general_category : List (Named (List Bounds))
  pub script : List (Named (List Bounds))
  pub script_extensions : List (Named (List Bounds))
  pub binary : List (Named (List Bounds))
  pub strings : List (Named (List (List ℕ)))

-- the first value with the name
unfoldable pub named : {A : Type 0} → List ℕ → List (Named A) → Option A
named name [] = None
named name (entry ∷ entries) = if bytes_eq entry.name name then Some entry.value else named name entries

-- ---- invariants of a table

-- a canonical form is its own canonical form
abbrev pub IsIdempotent : (ℕ → ℕ) → Type 0
IsIdempotent f = (c : ℕ) → f (f c) ≡ f c

-- at most four numbers have the same canonical form: MAX_CHAR_SET_LENGTH (dialect)
abbrev pub HasSmallClasses : (ℕ → ℕ) → Type 0
HasSmallClasses f =
    (mapped : ℕ) (xs : List ℕ) → IsTrue (is_ascending xs) → All (λ x. f x ≡ mapped) xs → length xs ≤ 4

-- A case mapping: it is idempotent, it maps code points to code points, and at most four of them to the same one.
pub record IsCaseMapping (f : ℕ → ℕ) : Type 0 where
  pub idempotent : IsIdempotent f
  pub in_range : (c : ℕ) → c ≤ code_point_max → f c ≤ code_point_max
  pub small_classes : HasSmallClasses f

-- the ASCII members of a set are letters, digits and the low line
abbrev pub HasWordAscii : List Bounds → Type 0
HasWordAscii set = (c : ℕ) → c < 0x80 → IsTrue (is_member set c) → IsTrue (is_member word_characters c)

-- whether a list is a nonempty string of code points
abbrev pub is_string : List ℕ → Bool
is_string s = nat_lt 0 (length s) && list_all (λ c. nat_le c code_point_max) s

-- every named set is canonical
abbrev pub HasCanonicalSets : List (Named (List Bounds)) → Type 0
HasCanonicalSets entries = All (λ entry. IsCanonical entry.value) entries

-- every named string is a nonempty string of code points
abbrev pub HasStrings : List (Named (List (List ℕ))) → Type 0
HasStrings entries = IsTrue (list_all (λ entry. list_all is_string entry.value) entries)

-- The invariants of every table of the library.
pub record IsValidTable (t : Table) : Type 0 where
  pub fold : IsCaseMapping t.fold
  pub uppercase : IsCaseMapping t.uppercase
  pub id_start : IsCanonical t.id_start
  pub id_continue : IsCanonical t.id_continue
  pub id_start_ascii : HasWordAscii t.id_start
  pub id_continue_ascii : HasWordAscii t.id_continue
  pub general_category : HasCanonicalSets t.general_category
  pub script : HasCanonicalSets t.script
  pub script_extensions : HasCanonicalSets t.script_extensions
  pub binary : HasCanonicalSets t.binary
  pub strings : HasStrings t.strings

-- ---- canonical forms

-- the canonical form of a character (ECMA-262, Canonicalize): its simple case folding if `unicode`, else its upper case
abbrev pub canonicalize : Table → Bool → ℕ → ℕ
canonicalize t unicode c = if unicode then t.fold c else t.uppercase c

-- whether a literal c matches x: with icase if both have the same canonical form (ECMA-262, CharacterSetMatcher), else
-- if they are equal
abbrev pub denotes : Table → (icase unicode : Bool) → ℕ → ℕ → Bool
denotes t icase unicode c x = if icase then canonicalize t unicode x == canonicalize t unicode c else x == c

-- the code points that a literal c matches
abbrev pub class_of : Table → (icase unicode : Bool) → ℕ → List ℕ
class_of t icase unicode c = listed (denotes t icase unicode c)

-- Whether the code point is in the closure of a set: its simple case folding is the simple case folding of a member
-- (ECMA-262, MaybeSimpleCaseFolding).
unfoldable pub is_in_closure : Table → List Bounds → ℕ → Bool
is_in_closure t set c =
    nat_le c code_point_max && list_any (λ iv. list_any (λ m. t.fold m == t.fold c) (code_points iv)) set
