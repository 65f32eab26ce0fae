-- The scan: the marks of a pattern, found in its code points without the grammar.
use Rattle.std.specs.Prelude.{◌≡◌, ◌⊎◌, ◌<◌, ℕ, ◌+◌, ◌-◌, max, Bool, false, not, ◌&&◌, ◌||◌, List, [], ◌∷◌, ◌++◌, drop, length, Option, Some, None, if◌then◌else◌, ◌==◌}
use Rattle.std.specs.Option.{option_to_list}
use Rattle.regress_base.specs.Limits.{max_capture_groups, max_nesting_depth}
use Rattle.regress_base.specs.Table.{Table}
use Rattle.regress_lexer.specs.declared.fault.FaultKind.{FaultKind}
use Rattle.regress_lexer.specs.declared.fault.FaultKind.TheVariants.{DuplicateName, TooDeep, TooManyGroups}
use Rattle.regress_lexer.specs.Source.{Source, char, opening, closing, bar, question_mark, is_at}
use Rattle.regress_syntax.specs.Names.{group_name_at}
use Rattle.regress_syntax.specs.Syntax.{Name, Pattern}
use Rattle.regress_syntax.specs.GroupTokens.{GroupToken, opens, captures, closes, next, nests, tokens_of}
use Rattle.regress_syntax.specs.Paths.{are_tokens_apart}
use Rattle.regress_syntax.specs.Productions.{Context}
use Rattle.regress_syntax.specs.Grammar.{IsPattern}

-- The mode of a scan: plain text, a class, or after the backslash of an escape in one of these. In a class it has the
-- number of classes that are open inside the outermost one, and the greatest such number so far.
pub data Mode : Type 0 where
  plain : Mode
  escape : Mode
  class : (depth deepest : ℕ) → Mode
  class_escape : (depth deepest : ℕ) → Mode

-- The mark of a parenthesis, by the source after it: it opens a capture group if no `?` follows, or `?` and a name.
abbrev pub opened_at : Table → Source → GroupToken
opened_at table t =
    if is_at question_mark t
    then elim (group_name_at table (drop 1 t)) [ None ↦ opens | Some found ↦ captures (Some found.0) ]
    else captures None

-- the mode after a code point; `sets` is the flag v, with which classes nest
abbrev pub mode_after : (sets : Bool) → Mode → ℕ → Mode
mode_after sets plain c = if c == char "\\" then escape else if c == char "[" then class 0 0 else plain
mode_after sets escape c = plain
mode_after sets (class depth deepest) c =
    if c == char "\\" then class_escape depth deepest
    else if c == char "[" && sets then class (depth + 1) (max deepest (depth + 1))
    else if c == char "]" && depth == 0 then plain
    else if c == char "]" then class (depth - 1) deepest
    else class depth deepest
mode_after sets (class_escape depth deepest) c = class depth deepest

-- a code point that is no mark and never changes the mode, in plain text or in a class
abbrev pub is_insignificant : ℕ → Bool
is_insignificant c = not (c == char "\\" || c == char "[" || c == char "]" || c == opening || c == closing || c == bar)

-- the mark that a code point is, if any; the source is what follows it
abbrev pub token_at : (sets : Bool) → Table → Mode → ℕ → Source → Option GroupToken
token_at sets table plain c t =
    if c == opening then Some (opened_at table t)
    else if c == closing then Some closes
    else if c == bar then Some next
    else None
token_at sets table escape c t = None
token_at sets table (class depth deepest) c t = if c == char "]" && depth == 0 && sets then Some (nests deepest) else None
token_at sets table (class_escape depth deepest) c t = None

-- the marks of a source, scanned from a mode on
unfoldable pub tokens : (sets : Bool) → Table → Mode → Source → List GroupToken
tokens sets table mode [] = []
tokens sets table mode (c ∷ t) = option_to_list (token_at sets table mode c t) ++ tokens sets table (mode_after sets mode c) t

-- What the scan guarantees: in whatever context of groups and names, every syntax tree that the grammar derives from
-- the source has the marks that the scan finds.
abbrev pub GivesTokens : (sets : Bool) → Table → Source → Type 0
GivesTokens sets table t =
    (ctx : Context) (p : Pattern) → ctx.setting.flags.unicode_sets ≡ sets → ctx.setting.table ≡ table → IsPattern ctx p t [] →
    tokens_of p ≡ tokens sets table plain t

-- ---- what the marks determine

-- the name of each capture group, in order
abbrev pub named_by : List GroupToken → List (Option Name)
named_by [] = []
named_by (opens ∷ ms) = named_by ms
named_by (captures name ∷ ms) = name ∷ named_by ms
named_by (closes ∷ ms) = named_by ms
named_by (next ∷ ms) = named_by ms
named_by (nests nesting ∷ ms) = named_by ms

-- The greatest nesting depth that the marks reach, from depth n on. The whole pattern counts one and is never closed.
abbrev pub deepest : ℕ → List GroupToken → ℕ
deepest n [] = n
deepest n (opens ∷ ms) = max n (deepest (n + 1) ms)
deepest n (captures name ∷ ms) = max n (deepest (n + 1) ms)
deepest n (closes ∷ ms) = max n (deepest (max 1 (n - 1)) ms)
deepest n (next ∷ ms) = max n (deepest n ms)
deepest n (nests nesting ∷ ms) = max (n + nesting) (deepest n ms)

-- What an error of this kind implies for the marks. In a pattern that is nested too deeply, groups that do not conflict
-- may be reported.
abbrev pub TokensShow : List GroupToken → FaultKind → Type 0
TokensShow ms kind =
    ((kind ≡ DuplicateName) × ((are_tokens_apart ms ≡ false) ⊎ (max_nesting_depth < deepest 1 ms)))
    ⊎ ((kind ≡ TooDeep) × (max_nesting_depth < deepest 1 ms))
    ⊎ ((kind ≡ TooManyGroups) × (max_capture_groups < length (named_by ms)))
