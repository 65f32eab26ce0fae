-- The normal form of a tree, where no rewrite applies.
use Rattle.regress_tree.specs.Shapes.{LacksShape, is_simplified_away, is_flattened_away, is_unrolled_away, is_promoted_away, is_formed_away, is_emptied_away, is_failed_away}
use Rattle.regress_tree.specs.Tree.{Tree}

-- No node has a shape that a rewrite removes.
pub record IsNormal (t : Tree) : Type 0 where
  -- There is no bracket, not inverted, of at most four code points, and none with more intervals than its complement;
  pub simplified : LacksShape is_simplified_away t
  -- no `Cat` of fewer than two parts, or with a `Cat` as a part;
  pub flattened : LacksShape is_flattened_away t
  -- no `Loop` with a minimum of one to five iterations whose body is small and may be copied;
  pub unrolled : LacksShape is_unrolled_away t
  -- no `Loop` whose body passes the test `matches_exactly_one_char`;
  pub promoted : LacksShape is_promoted_away t
  -- no `Char` that is a character, no `CharSet` of ASCII only, and no `Cat` with two adjacent byte sequences that are
  -- not empty;
  pub formed : LacksShape is_formed_away t
  -- no empty byte sequence, no `Alt` of two `Empty`, no `Cat` with an `Empty` part, no `Loop` with an `Empty` body or
  -- with a maximum of zero iterations and without groups, and no lookaround around `Empty` that is not negated;
  pub emptied : LacksShape is_emptied_away t
  -- and, where no capture group is inside, no `Cat` with a part that always fails, no `Alt` with such a side, and no
  -- `Loop` with such a body and a minimum of at least one iteration.
  pub failed : LacksShape is_failed_away t
