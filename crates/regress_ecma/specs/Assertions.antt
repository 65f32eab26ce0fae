-- ECMA-262, 22.2.2.4 CompileAssertion. Numbers in comments are those of the clause's steps.
use Rattle.std.specs.Prelude.{ℕ, ◌-◌, Bool, true, false, not, ◌&&◌, ◌||◌, ◌==◌, List, length, slice_get, Option, Some, None, if◌then◌else◌}
use Rattle.regress_base.specs.Classes.{line_terminators}
use Rattle.regress_base.specs.Intervals.{is_member}
use Rattle.regress_base.specs.Table.{Table}
use Rattle.regress_base.specs.declared.types.AnchorType.{AnchorType}
use Rattle.regress_base.specs.declared.types.AnchorType.TheVariants.{StartOfLine, EndOfLine}
use Rattle.regress_base.specs.declared.types.Flags.{Flags}
use Rattle.regress_ecma.specs.Notation.{CharSet, MatchState, MatchResult, failure, Matcher}
use Rattle.regress_ecma.specs.Characters.{word_characters}

-- the index before e; `None` is -1
abbrev pub index_before : ℕ → Option ℕ
index_before e = if e == 0 then None else Some (e - 1)

-- The character at the index is in the set; none is at -1 or at the length of the input: 2 to 5 of IsWordChar.
abbrev pub is_in_at : CharSet → List ℕ → Option ℕ → Bool
is_in_at set input None = false
is_in_at set input (Some e) = elim (slice_get input e) [ None ↦ false | Some ch ↦ is_member set ch ]

-- 22.2.2.4.1 IsWordChar
abbrev pub is_word_char : Table → Flags → List ℕ → Option ℕ → Bool
is_word_char table rer = is_in_at (word_characters table rer)

-- 22.2.2.4 CompileAssertion: `^` and `$`
abbrev pub compile_anchor : Flags → AnchorType → Matcher
-- 1.e and 1.f of `^`
compile_anchor rer StartOfLine x c =
    if (x.end_index == 0) || (rer.multiline && is_in_at line_terminators x.input (index_before x.end_index)) then c x else failure
-- 1.f and 1.g of `$`
compile_anchor rer EndOfLine x c =
    if (x.end_index == length x.input) || (rer.multiline && is_in_at line_terminators x.input (Some x.end_index))
    then c x
    else failure

-- 22.2.2.4 CompileAssertion: `\b`, and inverted `\B`
abbrev pub compile_boundary : Table → Flags → (inverted : Bool) → Matcher
compile_boundary table rer inverted x c =
    -- 1.e and 1.f
    let a : Bool = is_word_char table rer x.input (index_before x.end_index) in
    let b : Bool = is_word_char table rer x.input (Some x.end_index) in
    -- 1.g and 1.h
    let is_boundary : Bool = (a && not b) || (not a && b) in
    if (if inverted then not is_boundary else is_boundary) then c x else failure

-- the state itself: 2.c of the lookarounds
abbrev pub accept : MatchState → MatchResult
accept y = Some y

-- 22.2.2.4 CompileAssertion: lookaheads and lookbehinds, by the matcher of what is inside
abbrev pub compile_lookaround : (negate : Bool) → Matcher → Matcher
-- 2.d to 2.k of `(?=` and `(?<=`
compile_lookaround false m x c = elim (m x accept) [ None ↦ failure | Some y ↦ c (record y { end_index = x.end_index }) ]
-- 2.d to 2.f of `(?!` and `(?<!`
compile_lookaround true m x c = elim (m x accept) [ None ↦ c x | Some y ↦ failure ]
