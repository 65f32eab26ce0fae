-- Examples: the first name of a source that conflicts with one before it, computed from the definition. The names are
-- those of the small table.
use Rattle.std.proofs.Common.{◌≡◌, false, refl, codes}
use Rattle.regress_base.specs.Intervals.{is_member, is_within}
use Rattle.regress_unicode.specs.SmallTable.{small_table}
use Rattle.regress_syntax.specs.Names.{name_at, rest_of_name_by}
use Rattle.regress_syntax.specs.Paths.{are_tokens_apart}
use Rattle.regress_syntax.specs.Scan.{plain}
use Rattle.regress_syntax.specs.FirstErrors.{tokens_within, IsFirstDuplicate}

in_sequence : IsFirstDuplicate false small_table (codes "(?<a>x)(?<a>y)") 10
unfolding tokens_within name_at rest_of_name_by small_table is_member is_within
in_sequence = (7, refl, refl, refl)

-- The third group conflicts with both others, and the second one with the first.
the_second_of_three : IsFirstDuplicate false small_table (codes "(?<a>k)(?:(?:(?<a>j))(?<a>m))") 16
unfolding tokens_within name_at rest_of_name_by small_table is_member is_within
the_second_of_three = (13, refl, refl, refl)

-- The groups before the third one conflict.
the_third_of_three : are_tokens_apart (tokens_within 21 false small_table plain (codes "(?<a>k)(?:(?:(?<a>j))(?<a>m))")) ≡ false
unfolding tokens_within name_at rest_of_name_by small_table is_member is_within
the_third_of_three = refl

-- The first two groups are in different alternatives, and the third conflicts with the second alone.
with_the_second_alone : IsFirstDuplicate false small_table (codes "(?<a>x)|(?<a>y)(?<a>z)") 18
unfolding tokens_within name_at rest_of_name_by small_table is_member is_within
with_the_second_alone = (15, refl, refl, refl)

-- Of two names that conflict, the one that does so first in the source.
two_names : IsFirstDuplicate false small_table (codes "(?<b>x)(?<a>y)(?<a>z)(?<b>w)") 17
unfolding tokens_within name_at rest_of_name_by small_table is_member is_within
two_names = (14, refl, refl, refl)

-- A name in a class, or after a backslash, is no group.
in_a_class : IsFirstDuplicate false small_table (codes "(?<a>x)[(?<a>]\\(?<a>(?<a>w)") 23
unfolding tokens_within name_at rest_of_name_by small_table is_member is_within
in_a_class = (20, refl, refl, refl)
