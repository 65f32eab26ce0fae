-- No smaller word character has the same canonical form.
use Rattle.std.proofs.Common.{◌≡◌, ◌≤◌, ◌<◌, ℕ, true}
use Rattle.regress_base.specs.Classes.{word_characters}
use Rattle.regress_base.specs.Intervals.{is_member}
use Rattle.regress_unicode.specs.TableOf.{table_of}
use Rattle.regress_leaves.proofs.characters.folds_to_word.Given as goal

abbrev pub invariant-loop-m : goal.invariant-loop-m
invariant-loop-m l =
    (k : ℕ) → 0x30 ≤ k → k < l.m → is_member word_characters k ≡ true → (table_of l.known.tables.now).fold k ≡ (table_of l.known.tables.now).fold l.c → ⊥
