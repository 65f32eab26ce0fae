-- The results of parsing functions: what is at the start of the source, or an error if it is not there.
use Rattle.std.specs.Borrow.{Bor}
use Rattle.std.specs.Prelude.{◌≡◌, ℕ, List, Option, Some, None, option_map, Result, Ok, Err}
use Rattle.regress_lexer.specs.declared.fault.Fault.{Fault}
use Rattle.regress_lexer.specs.Fault.{OnRejected}
use Rattle.regress_lexer.specs.Source.{Source, Found}

-- a value and the remaining slice, as a value of `Found`
abbrev pub returned : {A : Type 0} → Option (A × Bor (List ℕ)) → Found A
returned result = option_map (λ found. (found.0, found.1.now)) result

-- A success returns what is found and leaves the source after it. A syntax error means that nothing is found.
abbrev pub Reads : {A B : Type 0} → (A → B) → Source → Result A Fault → Found B → Type 0
Reads view new (Ok a) found = found ≡ Some (view a, new)
Reads view new (Err fault) found = OnRejected fault (found ≡ None)

-- The same for a function that allocates nothing if something is found: any error means that nothing is found.
abbrev pub ParsesWithoutAllocating : {A B : Type 0} → (A → B) → Source → Result A Fault → Found B → Type 0
ParsesWithoutAllocating view new (Ok a) found = found ≡ Some (view a, new)
ParsesWithoutAllocating view new (Err fault) found = found ≡ None

-- `Reads`, where the returned value represents the one that is found.
abbrev pub ParsesAs : {A B : Type 0} → (A → B → Type 0) → Source → Result A Fault → Found B → Type 0
ParsesAs {A} {B} Denotes new (Ok a) found = (b : B) × (found ≡ Some (b, new)) × Denotes a b
ParsesAs Denotes new (Err fault) found = OnRejected fault (found ≡ None)
