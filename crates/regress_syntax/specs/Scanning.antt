-- What the values of the scanning code represent.
use Rattle.std.specs.Prelude.{◌≡◌, ℕ, ◌+◌, ◌-◌, ◌^◌, min, max, nat_le, ◌≤◌, ◌<◌, Bool, true, false, All, AllPairs, List, [], ◌∷◌, ◌++◌, map, length, reverse, Option, Some, None, option_map, is_some, filter, unwrap_or, if◌then◌else◌, Result, Ok, Err}
use Rattle.std.specs.Option.{option_to_list}
use Rattle.std.specs.Cmp.Lexicographic.{slice_cmp}
use Rattle.std.specs.Ordering.{nat_cmp, is_lt}
use Rattle.regress_base.specs.Limits.{max_nesting_depth}
use Rattle.regress_base.specs.Table.{Table}
use Rattle.regress_syntax.specs.Numbering.{names_of, numbered}
use Rattle.regress_syntax.specs.Syntax.{Name}
use Rattle.regress_syntax.specs.GroupTokens.{GroupToken, opens, captures, closes, next, nests}
use Rattle.regress_syntax.specs.Paths.{Level, Path, Position, CaptureAt, groups_by, at_the_start, enter, outside, next_alternative, conflict, are_apart, are_tokens_apart}
use Rattle.regress_syntax.specs.Scan.{Mode, plain, escape, class, class_escape, named_by, deepest, tokens, token_at, mode_after}
use Rattle.regress_syntax.specs.declared.scan.token.Mode.{Mode as CodeMode}
use Rattle.regress_syntax.specs.declared.scan.token.Mode.TheVariants as modes
use Rattle.regress_syntax.specs.declared.scan.token.GroupToken.{GroupToken as CodeToken}
use Rattle.regress_syntax.specs.declared.scan.token.GroupToken.TheVariants as code_tokens
use Rattle.regress_syntax.specs.declared.scan.path.Level.{Level as CodeLevel}
use Rattle.regress_syntax.specs.declared.scan.path.Path.{Path as CodePath}
use Rattle.regress_syntax.specs.declared.scan.scanner.Scanner.{Scanner}
use Rattle.regress_syntax.specs.declared.scan.scanner.NamedGroup.{NamedGroup}
use Rattle.regress_lexer.specs.declared.fault.FaultKind.{FaultKind}
use Rattle.regress_lexer.specs.declared.fault.FaultKind.TheVariants.{UnbalancedParenthesis, TooDeep, DuplicateName}
use Rattle.regress_lexer.specs.declared.fault.Fault.{Fault}
use Rattle.regress_lexer.specs.declared.fault.Fault.TheVariants.{Rejected, Memory}
use Rattle.regress_lexer.specs.Source.{Source}
use Rattle.regress_syntax.specs.FirstErrors.{Flaw, unopened, too_deep, kind_of, remaining_at, IsFirstDuplicate}
use Rattle.regress_syntax.specs.declared.scan.first_errors.FirstErrors.{FirstErrors}

-- ---- marks

-- a mode of the code; it has no mode for after a backslash, since it skips an escape at once
abbrev pub mode_of : CodeMode → Mode
mode_of modes.Plain = plain
mode_of (modes.Class depth deepest) = class depth deepest

-- a mark of the code
abbrev pub token_of : CodeToken → GroupToken
token_of code_tokens.Opens = opens
token_of (code_tokens.Captures name) = captures (option_map (λ name. name.items) name)
token_of code_tokens.Closes = closes
token_of code_tokens.Next = next
token_of (code_tokens.Nests nesting) = nests nesting

-- the number of classes that are open inside the outermost one
abbrev pub depth_of : Mode → ℕ
depth_of plain = 0
depth_of escape = 0
depth_of (class depth deepest) = depth
depth_of (class_escape depth deepest) = depth

-- ---- paths and positions

-- an entry of a path of the code
abbrev pub enclosing_disjunction_of : CodeLevel → Level
enclosing_disjunction_of level = record { opening = level.opening; alternative = level.alternative }

-- innermost first
abbrev pub path_of : CodePath → Path
path_of path = reverse (map enclosing_disjunction_of path.nesting.items)

-- the position that the scanner has reached
abbrev pub position_of : Scanner → Position
position_of scanner = record { path = path_of scanner.path; opened = scanner.opened }

-- the greatest index of an alternative
abbrev pub highest : Path → ℕ
highest [] = 0
highest (level ∷ path) = max level.alternative (highest path)

-- the greatest number in a position
abbrev pub highest_at : Position → ℕ
highest_at position = max position.opened (highest position.path)

-- the position after a mark
abbrev pub position_after : GroupToken → Position → Position
position_after opens position = enter position
position_after (captures name) position = enter position
position_after closes position = record position { path = outside position.path }
position_after next position = record position { path = next_alternative position.path }
position_after (nests nesting) position = position

-- the number of open groups after a mark, the whole pattern included
abbrev pub open_groups_after_token : GroupToken → ℕ → ℕ
open_groups_after_token opens n = n + 1
open_groups_after_token (captures name) n = n + 1
open_groups_after_token closes n = max 1 (n - 1)
open_groups_after_token next n = n
open_groups_after_token (nests nesting) n = n

-- ---- groups

-- a group that has a name
abbrev pub capture_of : NamedGroup → CaptureAt
capture_of group = record { path = path_of group.path; name = Some group.name.items }

-- its name and its number
abbrev pub name_and_number : NamedGroup → Name × ℕ
name_and_number group = (group.name.items, group.number)

-- The name of the one group is less than that of the other.
abbrev pub is_before : NamedGroup → NamedGroup → Bool
is_before group other = is_lt (slice_cmp nat_cmp group.name.items other.name.items)

-- The named groups are those among all groups, with their numbers, as long as 32 bits suffice for the numbers.
abbrev pub HasNumbers : Scanner → Type 0
HasNumbers scanner =
    length scanner.names.items < 2 ^ 32 → map name_and_number scanner.named.items ≡ numbered 1 (names_of scanner.names.items)

-- The group has a name.
abbrev pub bears_name : CaptureAt → Bool
bears_name group = is_some group.name

-- The scanner's invariant: what it has found, with what the remaining marks add, is what all marks determine.
pub record After (all rest : List GroupToken) (scanner : Scanner) : Type 0 where
  pub names : named_by all ≡ names_of scanner.names.items ++ named_by rest
  -- Past the limit of the nesting depth, paths are cut short.
  pub named : deepest 1 all ≤ max_nesting_depth → filter bears_name (groups_by at_the_start all)
      ≡ map capture_of scanner.named.items ++ filter bears_name (groups_by (position_of scanner) rest)
  pub some : 1 ≤ length (path_of scanner.path)
  pub opened : length (path_of scanner.path) ≤ scanner.deepest
  -- The depth saturates at `usize::MAX`.
  pub nesting : min (deepest 1 all) (2 ^ 64 - 1) ≡ min (max scanner.deepest (deepest (length (path_of scanner.path)) rest)) (2 ^ 64 - 1)

-- ---- where groups begin

-- the marks of a source from each of which on at least `left` code points remain
unfoldable pub tokens_down_to : (left : ℕ) → (sets : Bool) → Table → Mode → Source → List GroupToken
tokens_down_to left sets table mode [] = []
tokens_down_to left sets table mode (c ∷ t) =
    if nat_le left (length t + 1)
    then option_to_list (token_at sets table mode c t) ++ tokens_down_to left sets table (mode_after sets mode c) t
    else []

-- At least `left` code points remain from the group on.
abbrev pub is_from : (left : ℕ) → NamedGroup → Bool
is_from left group = nat_le left group.left

-- Such a mark adds a group if it has a name. Past the limit of the nesting depth, its path is cut short.
abbrev pub AddsGroup : GroupToken → (left : ℕ) → Path → (old new : List NamedGroup) → Type 0
AddsGroup (captures (Some name)) left path old new =
    (group : NamedGroup) × (new ≡ old ++ group ∷ []) × (group.left ≡ left)
    × (length path ≤ max_nesting_depth → capture_of group ≡ record { path = path; name = Some name })
AddsGroup token left path old new = new ≡ old

-- The named groups are in the order of the source, and from each of them on at least `left` code points remain. At least
-- three do, since a group with a name starts with `(?<`.
pub record AreInOrder (left : ℕ) (groups : List NamedGroup) : Type 0 where
  pub falling : AllPairs (λ group later. later.left ≤ group.left) groups
  pub above : All (λ group. left ≤ group.left) groups
  pub three : All (λ group. 3 ≤ group.left) groups

-- The named groups up to each position are those of the marks up to there, with what the remaining source adds.
abbrev pub HasPlaces : (sets : Bool) → Table → (t : Source) → Mode → (rest : Source) → Scanner → Type 0
HasPlaces sets table t mode rest scanner =
    deepest 1 (tokens sets table plain t) ≤ max_nesting_depth → (left : ℕ) →
    filter bears_name (groups_by at_the_start (tokens_down_to left sets table plain t))
    ≡ map capture_of (filter (is_from left) scanner.named.items)
    ++ filter bears_name (groups_by (position_of scanner) (tokens_down_to left sets table mode rest))

-- the greater one of two numbers, where there are two
abbrev pub greatest : Option ℕ → Option ℕ → Option ℕ
greatest None b = b
greatest (Some a) None = Some a
greatest (Some a) (Some b) = Some (max a b)

-- where the second of two groups begins, if they conflict
abbrev pub conflict_with_next : NamedGroup → List NamedGroup → Option ℕ
conflict_with_next group [] = None
conflict_with_next group (other ∷ groups) = if conflict (capture_of group) (capture_of other) then Some other.left else None

-- where the first group in the source begins that conflicts with the group before it in the list
unfoldable pub first_conflict : List NamedGroup → Option ℕ
first_conflict [] = None
first_conflict (group ∷ groups) = greatest (conflict_with_next group groups) (first_conflict groups)

-- If some of these groups conflict, the error is about that, and at the first one that conflicts with one before it.
abbrev pub IsAtConflict : List NamedGroup → FaultKind → (left : ℕ) → Type 0
IsAtConflict groups kind left =
    are_apart (map capture_of groups) ≡ false → (kind ≡ DuplicateName) × (begin : ℕ) × (left ≡ begin - 3) × (3 ≤ begin)
    × (are_apart (map capture_of (filter (is_from (begin + 1)) groups)) ≡ true)
    × (are_apart (map capture_of (filter (is_from begin) groups)) ≡ false)

-- ---- first errors

-- the position that was noted for a flaw, as the number of code points that remain from it on
abbrev pub noted : Flaw → FirstErrors → Option ℕ
noted unopened first_errors = first_errors.unopened
noted too_deep first_errors = first_errors.too_deep

-- The first flaw of each kind in the source was noted, and nothing else.
abbrev pub NotesFirst : (sets : Bool) → Source → FirstErrors → Type 0
NotesFirst sets t first_errors = (flaw : Flaw) → remaining_at flaw sets plain 1 t ≡ noted flaw first_errors

-- An error for one of the flaws is at the first such flaw of the source, if there is one.
abbrev pub IsLocated : (sets : Bool) → Source → FaultKind → (left : ℕ) → Type 0
IsLocated sets t kind left = (flaw : Flaw) (first : ℕ) → kind ≡ kind_of flaw → remaining_at flaw sets plain 1 t ≡ Some first → left ≡ first

-- If two groups of the source conflict, and it is not nested too deeply, the error is about that, and at the first name
-- that conflicts with one before it.
abbrev pub IsAtDuplicate : (sets : Bool) → Table → Source → FaultKind → (left : ℕ) → Type 0
IsAtDuplicate sets table t kind left =
    are_tokens_apart (tokens sets table plain t) ≡ false → deepest 1 (tokens sets table plain t) ≤ max_nesting_depth →
    (kind ≡ DuplicateName) × IsFirstDuplicate sets table t (length t - left)

-- If the fault is a syntax error, P holds of its kind and of the number of code points that remain at its position.
abbrev pub OnKindAt : Fault → (FaultKind → ℕ → Type 0) → Type 0
OnKindAt (Rejected kind left) P = P kind left
OnKindAt (Memory e) P = Unit {0}

-- If the result is a syntax error, P holds of its kind and of the number of code points that remain at its position.
abbrev pub FailsAt : {X : Type 0} → Result X Fault → (FaultKind → ℕ → Type 0) → Type 0
FailsAt (Ok x) P = Unit {0}
FailsAt (Err fault) P = OnKindAt fault P

-- the position that was noted for errors of this kind
abbrev pub noted_for : FirstErrors → FaultKind → Option ℕ
noted_for first_errors UnbalancedParenthesis = first_errors.unopened
noted_for first_errors TooDeep = first_errors.too_deep
noted_for first_errors other = None

-- the error, at the position that was noted for its kind
abbrev pub located : FirstErrors → Fault → Fault
located first_errors (Rejected kind left) = Rejected kind (unwrap_or (noted_for first_errors kind) left)
located first_errors (Memory e) = Memory e
