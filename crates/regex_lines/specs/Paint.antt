-- Text in color on a terminal.
use Rattle.std.specs.Prelude.{ℕ, ◌+◌, ◌-◌, ◌≤◌, Bool, false, not, ◌&&◌, List, [], ◌∷◌, ◌++◌, Option, Some, None, if◌then◌else◌, ◌==◌, codes, drop, length, slice_index, slice_range, take}
use Rattle.regex_options.specs.Colors.{Colors}
use Rattle.regress_found.specs.Found.{start_of}
use Rattle.regress_found.specs.declared.found.Match.{Match}
use Rattle.regress_replace.specs.Expansion.{end_of}
use Rattle.regex_lines.specs.declared.paint.LinePaint as code_line
use Rattle.regex_lines.specs.declared.paint.Paint as code
use Rattle.regex_lines.specs.declared.paint.Part.{Part}
use Rattle.regex_lines.specs.declared.paint.Part.TheVariants.{Name, Number, Separator, Match as Matched, Line}
use Rattle.regex_lines.specs.declared.spans.Span.{Span}

-- parameters of SGR (ECMA-48), or none, and whether a change of the color clears the line to its right
pub record Paint : Type 0 where
  pub color : List ℕ
  pub clears : Bool

-- the same as the code represents it
abbrev pub paint_of : code.Paint → Paint
paint_of p = record { color = p.color.now; clears = p.clears }

-- there is a color
abbrev pub is_colored : Paint → Bool
is_colored p = not (length p.color == 0)

-- The parameters for a part of the output. Those of lines are exchanged by the capability rv where lines without a match are
-- selected.
abbrev pub color_of : Part → Colors → List ℕ
color_of Name c = c.name
color_of Number c = c.number
color_of Separator c = c.separator
color_of (Matched near) c = if near then c.context_match else c.selected_match
color_of (Line near inverted) c =
    if near then (if inverted && c.exchanged then c.selected_line else c.context_line)
    else (if inverted && c.exchanged then c.context_line else c.selected_line)

-- how a part of the output is painted
abbrev pub paint_in : Option Colors → Part → Paint
paint_in None part = record { color = []; clears = false }
paint_in (Some c) part = record { color = color_of part c; clears = c.clears }

-- a change of the color by SGR with these parameters, and with EL, which clears the line to the right (ECMA-48)
abbrev pub change : (color : List ℕ) → (clears : Bool) → List ℕ
change color clears = (27 ∷ codes "[") ++ (color ++ (codes "m" ++ (if clears then 27 ∷ codes "[K" else [])))

-- the beginning of a text in color, if there is one
abbrev pub begun : Paint → List ℕ
begun p = if is_colored p then change p.color p.clears else []

-- the text in color, after which all attributes are the terminal's own; an empty one is not painted
abbrev pub painted : Paint → (text : List ℕ) → List ℕ
painted p text =
    if is_colored p && not (length text == 0) then change p.color p.clears ++ (text ++ change [] p.clears) else text

-- how the matches in a line are painted, and the rest of it
pub record LinePaint : Type 0 where
  pub matched : Paint
  pub rest : Paint

-- the same as the code represents it
abbrev pub line_paint_of : code_line.LinePaint → LinePaint
line_paint_of p = record { matched = paint_of p.matched; rest = paint_of p.rest }

-- how a line is painted that is selected, or near a selected one; `inverted` states whether lines without a match are selected
abbrev pub line_paint_in : Option Colors → (near inverted : Bool) → LinePaint
line_paint_in colors near inverted = record { matched = paint_in colors (Matched near); rest = paint_in colors (Line near inverted) }

-- the length without a carriage return at the end
abbrev pub return_at : List ℕ → ℕ
return_at bytes = if slice_index bytes (length bytes - 1) == 13 then length bytes - 1 else length bytes

-- the end of a line in the color of the line, but for a carriage return at its end
abbrev pub painted_rest : Paint → (rest : List ℕ) → List ℕ
painted_rest p rest = painted p (take (return_at rest) rest) ++ drop (return_at rest) rest

-- The line from an offset on, with these spans in it in the color of matches. Each has the rest of the line in front of it, in
-- the color of the line, which goes on in the match where its own color does not change it.
abbrev pub painted_spans : LinePaint → (line : List ℕ) → (from : ℕ) → List Span → List ℕ
painted_spans p line from [] = painted_rest p.rest (drop from line)
painted_spans p line from (span ∷ spans) =
    begun p.rest ++ (slice_range line from span.start ++ (painted p.matched (slice_range line span.start span.end) ++ painted_spans p line span.end spans))

-- The spans are in order in the part of a line of this length from an offset on.
abbrev pub AreSpansIn : (len from : ℕ) → List Span → Type 0
AreSpansIn len from [] = from ≤ len
AreSpansIn len from (span ∷ spans) = from ≤ span.start × span.start ≤ span.end × AreSpansIn len span.end spans

-- the span of a match that is not empty, in a text that starts at this offset
abbrev pub span_in : (start : ℕ) → Match → List Span
span_in start m = if start_of m == end_of m then [] else record { start = start + start_of m; end = start + end_of m } ∷ []
