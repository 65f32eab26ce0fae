-- The word characters (WordCharacters).
use Rattle.std.proofs.Common.{arith, ◌≡◌, ◌≤◌, ◌<◌, ℕ, true, ap, ◌∙◌}
use Rattle.std.specs.Char.{to_ascii_lowercase}
use Rattle.std.proofs.lemmas.Bool.Decides.{nat_tests}
use Rattle.regress_base.specs.Classes.{word_characters}
use Rattle.regress_base.specs.Intervals.{is_member, is_within}
use Rattle.regress_base.specs.Table.{Table}
use Rattle.regress_leaves.specs.Known.{HasAsciiFold}

pub word_range : (m : ℕ) → is_member word_characters m ≡ true → (48 ≤ m) × (m < 123)
unfolding is_member is_within
word_range m member = grind (arith, nat_tests)

lowercase_word : (m : ℕ) → is_member word_characters m ≡ true → is_member word_characters (to_ascii_lowercase m) ≡ true
unfolding is_member is_within
lowercase_word m member = grind (arith, nat_tests)

-- Where ASCII characters fold as in ASCII, each word character folds to a word character.
pub words_fold_to_words : (table : Table) → HasAsciiFold table → (m : ℕ) → is_member word_characters m ≡ true →
    is_member word_characters (table.fold m) ≡ true
words_fold_to_words table ascii m member =
    let range = word_range m member in
    ap (is_member word_characters) (ascii m (omega (arith, range.1))) ∙ lowercase_word m member
