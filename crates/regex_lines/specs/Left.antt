-- What is left of standard input, which is read once.
use Rattle.std.specs.Prelude.{ℕ, List, [], Option, Some, None}

-- what a reader has left, if it is not read yet
abbrev pub left_of : {I : Type 0} → (remaining : I → Option (List ℕ)) → Option I → Option (List ℕ)
left_of remaining None = Some []
left_of remaining (Some input) = remaining input
