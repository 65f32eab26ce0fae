-- The first unmatched `)` of a pattern, the first position at which it is nested too deeply, and the first name that
-- conflicts with one before it, as a scan finds them.
use Rattle.std.specs.Prelude.{◌≡◌, ℕ, zero, suc, ◌+◌, ◌-◌, max, nat_le, Bool, false, ◌&&◌, List, [], ◌∷◌, ◌++◌, length, Option, Some, None, if◌then◌else◌, ◌==◌}
use Rattle.std.specs.Option.{option_to_list}
use Rattle.regress_base.specs.Limits.{max_nesting_depth}
use Rattle.regress_base.specs.Table.{Table}
use Rattle.regress_lexer.specs.declared.fault.FaultKind.{FaultKind}
use Rattle.regress_lexer.specs.declared.fault.FaultKind.TheVariants.{UnbalancedParenthesis, TooDeep}
use Rattle.regress_lexer.specs.Source.{Source, char, opening, closing}
use Rattle.regress_syntax.specs.GroupTokens.{GroupToken}
use Rattle.regress_syntax.specs.Paths.{are_tokens_apart, NoTokensConflict}
use Rattle.regress_syntax.specs.Scan.{Mode, plain, escape, class, class_escape, mode_after, token_at}

-- what a scan finds before the pattern is parsed
pub data Flaw : Type 0 where
  -- a `)` that closes nothing
  unopened : Flaw
  -- a parenthesis or, with the flag v, a bracket in a class that nests deeper than the limit
  too_deep : Flaw

-- the kind of the syntax error for it
abbrev pub kind_of : Flaw → FaultKind
kind_of unopened = UnbalancedParenthesis
kind_of too_deep = TooDeep

-- A code point is such a flaw, where n groups are open, the whole pattern included.
abbrev pub is_flaw : Flaw → (sets : Bool) → Mode → (n : ℕ) → ℕ → Bool
is_flaw unopened sets plain n c = c == closing && n == 1
is_flaw unopened sets escape n c = false
is_flaw unopened sets (class depth deepest) n c = false
is_flaw unopened sets (class_escape depth deepest) n c = false
is_flaw too_deep sets plain n c = c == opening && nat_le max_nesting_depth n
is_flaw too_deep sets escape n c = false
is_flaw too_deep sets (class depth deepest) n c = sets && c == char "[" && nat_le max_nesting_depth (n + depth)
is_flaw too_deep sets (class_escape depth deepest) n c = false

-- the number of open groups after a code point; the whole pattern is never closed
abbrev pub open_groups_after : Mode → (n : ℕ) → ℕ → ℕ
open_groups_after plain n c = if c == opening then n + 1 else if c == closing then max 1 (n - 1) else n
open_groups_after escape n c = n
open_groups_after (class depth deepest) n c = n
open_groups_after (class_escape depth deepest) n c = n

-- the number of code points that remain from the first such flaw on
unfoldable pub remaining_at : Flaw → (sets : Bool) → Mode → (n : ℕ) → Source → Option ℕ
remaining_at flaw sets mode n [] = None
remaining_at flaw sets mode n (c ∷ t) =
    if is_flaw flaw sets mode n c then Some (length t + 1)
    else remaining_at flaw sets (mode_after sets mode c) (open_groups_after mode n c) t

-- ---- names

-- the marks that begin within the first n code points of a source
unfoldable pub tokens_within : ℕ → (sets : Bool) → Table → Mode → Source → List GroupToken
tokens_within zero sets table mode t = []
tokens_within (suc n) sets table mode [] = []
tokens_within (suc n) sets table mode (c ∷ t) =
    option_to_list (token_at sets table mode c t) ++ tokens_within n sets table (mode_after sets mode c) t

-- The first name that conflicts with one before it is at this position: no two of the groups before its group conflict,
-- and with its group two do. The group starts three code points before the name, with `(?<`.
abbrev pub IsFirstDuplicate : (sets : Bool) → Table → Source → (position : ℕ) → Type 0
IsFirstDuplicate sets table t position =
    (start : ℕ) × (position ≡ start + 3)
    × NoTokensConflict (tokens_within start sets table plain t)
    × (are_tokens_apart (tokens_within (start + 1) sets table plain t) ≡ false)
