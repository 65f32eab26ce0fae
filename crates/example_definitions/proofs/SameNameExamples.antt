-- Examples: which groups of one name conflict, computed from the definitions. The marks are those of a source, with the
-- names of the small table.
use Rattle.std.proofs.Common.{◌≡◌, Bool, true, false, refl, codes}
use Rattle.regress_base.specs.Intervals.{is_member, is_within}
use Rattle.regress_unicode.specs.SmallTable.{small_table}
use Rattle.regress_lexer.specs.Source.{Source}
use Rattle.regress_syntax.specs.Names.{name_at, rest_of_name_by}
use Rattle.regress_syntax.specs.Paths.{are_tokens_apart}
use Rattle.regress_syntax.specs.Scan.{plain, tokens}

unfoldable apart : Source → Bool
unfolding tokens name_at rest_of_name_by small_table is_member is_within
apart t = are_tokens_apart (tokens false small_table plain t)

-- The groups are in different alternatives of the whole pattern.
alternatives_of_the_pattern : apart (codes "(?<a>x)|(?<a>y)") ≡ true
unfolding apart
alternatives_of_the_pattern = refl

alternatives_of_a_group : apart (codes "(?:(?<a>x)|(?<a>y))z") ≡ true
unfolding apart
alternatives_of_a_group = refl

-- One of them is nested deeper.
an_alternative_and_one_inside_another : apart (codes "(?<a>x)|(?:y|(?<a>z))") ≡ true
unfolding apart
an_alternative_and_one_inside_another = refl

-- A group is no alternative to the groups inside it.
in_each_other : apart (codes "(?<a>(?<a>x))") ≡ false
unfolding apart
in_each_other = refl

in_sequence : apart (codes "(?<a>x)(?<a>y)") ≡ false
unfolding apart
in_sequence = refl

after_one_in_an_alternative : apart (codes "(?<a>x)(?:z|(?<a>w))") ≡ false
unfolding apart
after_one_in_an_alternative = refl

-- The groups are in different alternatives, but of different groups.
alternatives_of_groups_side_by_side : apart (codes "(?:(?<a>x)|y)(?:z|(?<a>w))") ≡ false
unfolding apart
alternatives_of_groups_side_by_side = refl

alternatives_of_a_lookahead_and_a_group : apart (codes "(?=(?<a>x)|y)(?:z|(?<a>w))") ≡ false
unfolding apart
alternatives_of_a_lookahead_and_a_group = refl

-- The third group conflicts with the two others, which are in different alternatives.
three_of_which_the_outer_conflict : apart (codes "(?:(?<a>x)|(?<a>w))(?:z|(?<a>y))") ≡ false
unfolding apart
three_of_which_the_outer_conflict = refl

-- The groups are in different alternatives of the pattern, and each in a group of its own.
alternatives_with_groups_in_each : apart (codes "(?:(?<a>x)|y)(?:z)|(?:v)(?:u|(?<a>w))") ≡ true
unfolding apart
alternatives_with_groups_in_each = refl
