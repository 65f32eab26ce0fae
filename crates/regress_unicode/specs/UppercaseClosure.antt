-- The closure of a set under upper case.
use Rattle.std.specs.Prelude.{ℕ, Bool, List}
use Rattle.regress_base.specs.Intervals.{Bounds}
use Rattle.regress_base.specs.Table.{Table, is_in_closure}

-- Whether the code point is in the closure of a set under upper case: its upper case is the upper case of a member.
-- That is its canonical form with the flag i and without the flag u (ECMA-262, Canonicalize).
abbrev pub is_in_uppercase_closure : Table → List Bounds → ℕ → Bool
is_in_uppercase_closure t = is_in_closure (record t { fold = t.uppercase })
