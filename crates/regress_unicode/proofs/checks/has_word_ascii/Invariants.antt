-- The members so far are word characters.
use Rattle.std.proofs.Common.{ℕ, ◌<◌, IsTrue}
use Rattle.regress_base.specs.Intervals.{is_member}
use Rattle.regress_base.specs.Classes.{word_characters}
use Rattle.regress_unicode.proofs.checks.has_word_ascii.Given as goal

abbrev pub invariant-loop-c : goal.invariant-loop-c
invariant-loop-c l = (k : ℕ) → k < l.c → IsTrue (is_member l.set k) → IsTrue (is_member word_characters k)
