use Rattle.std.proofs.Common.{◌≡◌, ◌++◌, drop, false}
use Rattle.regex_glob.specs.Glob.{tokens_of}
use Rattle.regex_glob.proofs.token.tokens.Given as goal

-- the tokens so far, and those of the rest
abbrev pub invariant-loop-c : goal.invariant-loop-c
invariant-loop-c l = l.tokens.items ++ tokens_of l.quoted (drop l.c-index l.points) ≡ tokens_of false l.points
