-- What the first code point of a source determines.
use Rattle.std.specs.Prelude.{Bool, false, [], ◌∷◌}
use Rattle.regress_lexer.specs.Source.{Source, is_one_of}

-- A quantifier may begin here: each begins with one of these code points.
abbrev pub may_begin : Source → Bool
may_begin [] = false
may_begin (c ∷ t) = is_one_of "*+?{" c
