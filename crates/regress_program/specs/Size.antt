-- How many instructions a tree compiles to.
use Rattle.std.specs.Prelude.{ℕ, zero, suc, ◌+◌, ◌-◌, ◌*◌, ◌/◌, ◌%◌, ◌==◌, ◌≡◌, ◌≤◌, ◌<◌, ◌⊎◌, ◌||◌, max, min, nat_le, nat_lt, Bool, true, false, if◌then◌else◌, ◌∷◌, length, Option, Some, None, option_map}
use Rattle.regress_base.specs.declared.types.Quantifier.{Quantifier}
use Rattle.regress_prefilter.specs.OneCharacter.{takes_one}
use Rattle.regress_program.specs.declared.counts.Counts.{Counts}
use Rattle.regress_program.specs.declared.counts.Counts.TheVariants.{Bounded, Unbounded, Copied}
use Rattle.regress_tree.specs.Tree.{Leaf, empty, goal, string_set, Wrapper, capture_group, loop, loop_one, lookaround, Tree, Trees, leaf, cat, alt, wrapped, no_trees, more_trees}

-- a leaf: one instruction, but none for a node that matches the empty string, and for strings one each and one to join
-- each with those after it
abbrev pub size_of_leaf : Leaf → ℕ
size_of_leaf empty = 0
size_of_leaf goal = 0
size_of_leaf (string_set (string ∷ strings) icase) = 1 + 2 * length strings
size_of_leaf l = 1

-- Iterations are copied.
abbrev pub is_copied : Counts → Bool
is_copied Bounded = false
is_copied Unbounded = false
is_copied Copied = true

-- how many of n iterations are stored
abbrev pub stored_of : Counts → ℕ → ℕ
stored_of Bounded n = n
stored_of Unbounded n = n
stored_of Copied n = min n 2

-- an iteration of a body of this size: one more to unset groups, if there are any inside or iterations are copied, and
-- otherwise at least one
abbrev pub size_of_iteration : Counts → (start end body : ℕ) → ℕ
size_of_iteration counts start end body = if nat_lt start end || is_copied counts then body + 1 else max body 1

-- at most this many optional iterations: one to begin them, and each with one to end it
abbrev pub size_of_optional : (iteration count : ℕ) → ℕ
size_of_optional iteration zero = 0
size_of_optional iteration (suc n) = 1 + (iteration + 1) * suc n

-- the optional iterations: without a maximum, one that is repeated
abbrev pub size_of_extra : (iteration : ℕ) → Option ℕ → ℕ
size_of_extra iteration None = iteration + 2
size_of_extra iteration (Some count) = size_of_optional iteration count

-- a loop: the mandatory iterations, and the optional ones, of both as many as are counted
abbrev pub size_of_loop : (ℕ → ℕ) → Quantifier → (iteration : ℕ) → ℕ
size_of_loop counted q iteration =
    iteration * counted q.min + size_of_extra iteration (option_map (λ most. counted (most - q.min)) q.max)

-- exactly n characters: one instruction for each 64 of them, or if counts are unbounded, for all of them
abbrev pub size_of_exactly : Counts → ℕ → ℕ
size_of_exactly Bounded n = (n + 63) / 64
size_of_exactly Unbounded n = min n 1
size_of_exactly Copied n = min n 1

-- At most n characters, where `most` is at least n. An odd number is split: half + 1 or none, and then at most half. Of an
-- even number there are one and then at most n - 1, or none.
unfoldable pub size_of_up_to : Counts → (most n : ℕ) → ℕ
size_of_up_to counts zero n = 0
size_of_up_to counts (suc most) n =
    if n == 0 then 0
    else if n % 2 == 0 then size_of_up_to counts most (n - 1) + 2
    else size_of_up_to counts most (n / 2) + size_of_exactly counts (n / 2 + 1) + 1

-- the optional characters of a loop
abbrev pub size_of_extra_characters : Counts → Option ℕ → ℕ
size_of_extra_characters counts None = size_of_extra 1 None
size_of_extra_characters counts (Some count) = size_of_up_to counts count count

-- a loop over a leaf that matches one character
abbrev pub size_of_characters : Counts → Quantifier → ℕ
size_of_characters counts q =
    size_of_exactly counts q.min + size_of_extra_characters counts (option_map (λ most. most - q.min) q.max)

module _ (counts : Counts) (counted : ℕ → ℕ) where
  -- a node with a body of this size, which may be a leaf that matches one character; the routine of a lookaround has one
  -- to accept
  abbrev pub size_of_wrapper : Wrapper → (one : Bool) → (body : ℕ) → ℕ
  size_of_wrapper (capture_group id name) one body = body + 2
  size_of_wrapper (loop q start end) one body = size_of_loop counted q (size_of_iteration counts start end body)
  size_of_wrapper (loop_one q) one body =
      if one then size_of_characters counts q else size_of_loop counted q (size_of_iteration counts 0 0 body)
  size_of_wrapper (lookaround negate backwards start end) one body = body + 2

  abbrev mutual
    -- the number of instructions of a tree, with those of its lookarounds, where of n iterations `counted n` count
    pub sized : Tree → ℕ
    sized (leaf l) = size_of_leaf l
    sized (cat parts) = sized_parts parts
    sized (alt left right) = sized left + sized right + 1
    sized (wrapped w body) = size_of_wrapper w (takes_one body) (sized body)

    pub sized_parts : Trees → ℕ
    sized_parts no_trees = 0
    sized_parts (more_trees t ts) = sized t + sized_parts ts

-- all, also those that are copies
abbrev pub every : ℕ → ℕ
every n = n

-- the number of instructions of a tree, copies included, where each copy of a lookaround has a routine of its own
abbrev pub size : Counts → Tree → ℕ
size counts t = sized counts every t

-- the number of those that are stored
abbrev pub stored_size : Counts → Tree → ℕ
stored_size counts t = sized counts (stored_of counts) t

-- the number of instructions of a program for the tree: those of the tree, and one to accept
abbrev pub program_size : Tree → ℕ
program_size t = size Bounded t + 1

-- the same, where one instruction may match any number of characters
abbrev pub unbounded_size : Tree → ℕ
unbounded_size t = size Unbounded t + 1

-- the same, where iterations are copied, and only stored instructions count
abbrev pub least_size : Tree → ℕ
least_size t = stored_size Copied t + 1

-- How loops are compiled, where at most `limit` instructions are stored: counts are bounded, unless that takes more
-- instructions, and iterations are all stored, unless that takes more.
abbrev pub counts_within : (limit : ℕ) → Tree → Counts
counts_within limit t =
    if nat_le (program_size t) limit then Bounded else if nat_le (unbounded_size t) limit then Unbounded else Copied

-- the number of instructions of such a program, where each copy of a lookaround has a routine of its own
abbrev pub compiled_size : (limit : ℕ) → Tree → ℕ
compiled_size limit t = size (counts_within limit t) t + 1

-- A program for the tree has this number of instructions. It is exact, unless iterations are copied: copies of a lookaround
-- share its routine.
pub record IsSize (limit : ℕ) (t : Tree) (n : ℕ) : Type 0 where
  pub most : n ≤ compiled_size limit t
  pub exact : is_copied (counts_within limit t) ≡ false → n ≡ compiled_size limit t

-- A program for the tree is too long: more than `limit` instructions would be stored, or there would be more than
-- usize.MAX with all copies.
abbrev pub IsTooLong : (limit : ℕ) → Tree → Type 0
IsTooLong limit t = (limit < least_size t) ⊎ (18446744073709551615 < size Copied t + 1)

-- how many instructions there may be, copies included, where at most `limit` are stored
abbrev pub room_within : Counts → (limit : ℕ) → ℕ
room_within Bounded limit = limit
room_within Unbounded limit = limit
room_within Copied limit = 18446744073709551615

-- Each instruction matches at most 64 characters.
abbrev pub is_bounded : Counts → Bool
is_bounded Bounded = true
is_bounded Unbounded = false
is_bounded Copied = false
