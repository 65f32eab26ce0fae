-- A syntax error as JSON, with the line and the column of its code point, both from 1.
use Rattle.std.specs.Prelude.{ℕ, ◌+◌, Bool, not, List, take, ◌==◌, ◌≡◌, ◌/◌, ◌%◌, ◌++◌, codes, chars, encode_utf8, flat_map, if◌then◌else◌, nat_lt, false}
use Rattle.std.specs.List.{count_by, suffix_len}
use Rattle.std.specs.Fmt.{decimal, digits}
use Rattle.regress_lexer.specs.FaultKinds.{name_of}
use Rattle.regress_parse.specs.Settled.{IsSyntaxErrorIn}
use Rattle.regress_lexer.specs.declared.fault.FaultKind.{FaultKind}
use Rattle.regress_display.specs.Request.{setting_of_request, Request}

-- A line feed ends a line.
abbrev pub is_line_feed : ℕ → Bool
is_line_feed c = c == 10

-- the line after these code points
abbrev pub line_after : List ℕ → ℕ
line_after before = count_by is_line_feed before + 1

-- the column after them, from the number of code points since the last line feed
abbrev pub column_after : List ℕ → ℕ
column_after before = suffix_len (λ c. not (is_line_feed c)) before + 1

-- the line of the code point at a position; past the end of the source, that of its end
abbrev pub line_at : (source : List ℕ) → (position : ℕ) → ℕ
line_at source position = line_after (take position source)

-- its column
abbrev pub column_at : (source : List ℕ) → (position : ℕ) → ℕ
column_at source position = column_after (take position source)

-- the bytes of a character of a JSON string (RFC 8259, section 7); a control character as `\u001f`
abbrev pub json_character : ℕ → List ℕ
json_character c =
    if c == 34 then codes "\\\""
    else if c == 92 then codes "\\\\"
    else if nat_lt c 32 then codes "\\u00" ++ digits 16 false (c / 16) ++ digits 16 false (c % 16)
    else encode_utf8 c

-- the characters of a JSON string
abbrev pub json_text : List ℕ → List ℕ
json_text text = flat_map json_character (chars text)

-- `{"fault":"Unbalanced parenthesis","kind":"UnbalancedParenthesis","position":1,"line":1,"column":2}`
abbrev pub fault_json : (kind : FaultKind) → (text source : List ℕ) → (position : ℕ) → List ℕ
fault_json kind text source position =
    codes "{\"fault\":\"" ++ json_text text ++ codes "\",\"kind\":\"" ++ name_of kind ++ codes "\",\"position\":" ++ decimal position
    ++ codes ",\"line\":" ++ decimal (line_at source position) ++ codes ",\"column\":" ++ decimal (column_at source position) ++ codes "}"

-- an object of JSON and a line feed, for a rejected pattern
pub record IsFaultOutput (request : Request) (bytes : List ℕ) : Type 0 where
  pub kind : FaultKind
  pub text : List ℕ
  pub position : ℕ
  pub fault : IsSyntaxErrorIn request.dialect (setting_of_request request) request.pattern kind text position
  pub written : bytes ≡ fault_json kind text request.pattern position ++ codes "\n"
