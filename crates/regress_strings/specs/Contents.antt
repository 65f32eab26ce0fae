-- The bytes of strings.
use Rattle.std.specs.Prelude.{ℕ, List, map, Vec}
use Rattle.std.specs.declared.alloc.Global.{Global}

-- the bytes of each string
abbrev pub contents : List (Vec ℕ Global) → List (List ℕ)
contents strings = map (λ string. string.items) strings
