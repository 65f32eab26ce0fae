-- Examples: tables, and the case mappings and sets of the small table.
use Rattle.std.proofs.Common.{◌≡◌, ℕ, true, false, List, [], ◌∷◌, Some, None, pos, negsuc, refl, codes}
use Rattle.regress_base.specs.Intervals.{Bounds}
use Rattle.regress_unicode.specs.FoldEntries.{FoldEntry, mapped}
use Rattle.regress_unicode.specs.ValidEntries.{is_in_order, are_targets_in_range, stays_in_range}
use Rattle.regress_base.specs.Listing.{lists, is_ascending}
use Rattle.regress_base.specs.Table.{named, canonicalize, denotes, is_in_closure, is_string}
use Rattle.regress_unicode.specs.SmallTable.{small_table}

mapping : ℕ → ℕ → FoldEntry
mapping start length = record { start = start; length = length; delta = pos 1; modulo = 2 }

set : ℕ → ℕ → List Bounds
set first last = record { first = first; last = last } ∷ []

-- Every second code point of an entry is mapped.
mapped-moves : mapped (record { start = 4; length = 4; delta = pos 1; modulo = 2 } ∷ []) 6 ≡ 7
unfolding mapped
mapped-moves = refl

mapped-stays : mapped (record { start = 4; length = 4; delta = pos 1; modulo = 2 } ∷ []) 5 ≡ 5
unfolding mapped
mapped-stays = refl

mapped-beyond : mapped (record { start = 4; length = 4; delta = pos 1; modulo = 2 } ∷ []) 8 ≡ 8
unfolding mapped
mapped-beyond = refl

-- The first entry with the code point applies.
mapped-first : mapped (record { start = 4; length = 1; delta = negsuc 0; modulo = 1 } ∷ record
    { start = 4; length = 1; delta = pos 1; modulo = 1 } ∷ []) 4 ≡ 3
unfolding mapped
mapped-first = refl

-- Adjacent runs are in order, and runs that share a code point are not.
order-touching : is_in_order (mapping 4 4 ∷ mapping 8 1 ∷ []) ≡ true
unfolding mapping
order-touching = refl

order-shared : is_in_order (mapping 4 5 ∷ mapping 8 1 ∷ []) ≡ false
unfolding mapping
order-shared = refl

order-turned : is_in_order (mapping 8 1 ∷ mapping 4 4 ∷ []) ≡ false
unfolding mapping
order-turned = refl

-- The ends of a run decide whether its targets are in range.
target-below : stays_in_range (negsuc 65) 0x41 ≡ false
target-below = refl

target-zero : stays_in_range (negsuc 64) 0x41 ≡ true
target-zero = refl

target-last : stays_in_range (pos 65537) 0xFFFFE ≡ true
target-last = refl

target-past : stays_in_range (pos 65538) 0xFFFFE ≡ false
target-past = refl

targets-one_out : are_targets_in_range (mapping 4 4 ∷ record { start = 0; length = 2; delta = negsuc 0; modulo = 1 } ∷ []) ≡ false
unfolding mapping
targets-one_out = refl

-- A name denotes its first entry.
named-first : named {A = ℕ} (codes "b") (record { name = codes "a"; value = 1 } ∷ record { name = codes "b"; value = 2 } ∷ record
    { name = codes "b"; value = 3 } ∷ []) ≡ Some 2
unfolding named
named-first = refl

named-none : named {A = ℕ} (codes "c") (record { name = codes "a"; value = 1 } ∷ []) ≡ None
unfolding named
named-none = refl

string-empty : is_string [] ≡ false
string-empty = refl

string-last : is_string (0x10FFFF ∷ []) ≡ true
string-last = refl

string-past : is_string (0x61 ∷ 0x110000 ∷ []) ≡ false
string-past = refl

ascending-twice : is_ascending (1 ∷ 1 ∷ []) ≡ false
ascending-twice = refl

ascending-some : is_ascending (0 ∷ 1 ∷ 7 ∷ []) ≡ true
ascending-some = refl

lists-last : lists (0 ∷ 7 ∷ []) 7 ≡ true
lists-last = refl

lists-none : lists (0 ∷ 7 ∷ []) 6 ≡ false
lists-none = refl

-- With the small table: MICRO SIGN, KELVIN SIGN and LATIN SMALL LETTER LONG S.
canonicalize-u : canonicalize small_table true 0xB5 ≡ 0x3BC
unfolding mapped small_table
canonicalize-u = refl

canonicalize-no_u : canonicalize small_table false 0xB5 ≡ 0x39C
unfolding mapped small_table
canonicalize-no_u = refl

occurs-alone : denotes small_table false true 0x6B 0x4B ≡ false
occurs-alone = refl

occurs-either_case : denotes small_table true false 0x6B 0x4B ≡ true
unfolding mapped small_table
occurs-either_case = refl

occurs-no_kelvin : denotes small_table true false 0x6B 0x212A ≡ false
unfolding mapped small_table
occurs-no_kelvin = refl

occurs-kelvin : denotes small_table true true 0x6B 0x212A ≡ true
unfolding mapped small_table
occurs-kelvin = refl

closure-itself : is_in_closure small_table (set 0x73 0x73) 0x73 ≡ true
unfolding mapped small_table is_in_closure set
closure-itself = refl

closure-other_case : is_in_closure small_table (set 0x73 0x73) 0x53 ≡ true
unfolding mapped small_table is_in_closure set
closure-other_case = refl

closure-long_s : is_in_closure small_table (set 0x73 0x73) 0x17F ≡ true
unfolding mapped small_table is_in_closure set
closure-long_s = refl

closure-neighbour : is_in_closure small_table (set 0x73 0x73) 0x54 ≡ false
unfolding mapped small_table is_in_closure set
closure-neighbour = refl
