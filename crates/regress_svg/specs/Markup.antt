-- A picture: a document of XML 1.0 that contains elements of SVG.
use Rattle.std.specs.Prelude.{◌≡◌, ℕ, zero, suc, List, [], ◌++◌, codes, flat_map, if◌then◌else◌, length, ◌==◌}
use Rattle.std.specs.Fmt.{decimal}
use Rattle.regress_svg.specs.Escape.{escaped_text}
use Rattle.regress_svg.specs.declared.element.Element.{Element}
use Rattle.regress_svg.specs.declared.element.Element.TheVariants.{Rectangle, Circle, Path, Text, Title, Description, Style}
use Rattle.regress_svg.specs.declared.element.PathCommand.{PathCommand}
use Rattle.regress_svg.specs.declared.element.PathCommand.TheVariants.{Move, Line, Horizontal, Vertical, Curve}

-- a path command
abbrev pub command_bytes : PathCommand → List ℕ
command_bytes (Move x y) = codes "M" ++ decimal x ++ codes " " ++ decimal y
command_bytes (Line x y) = codes "L" ++ decimal x ++ codes " " ++ decimal y
command_bytes (Horizontal x) = codes "H" ++ decimal x
command_bytes (Vertical y) = codes "V" ++ decimal y
command_bytes (Curve control_x control_y x y) =
    codes "Q" ++ decimal control_x ++ codes " " ++ decimal control_y ++ codes " " ++ decimal x ++ codes " " ++ decimal y

-- the path commands in order
abbrev pub commands_bytes : List PathCommand → List ℕ
commands_bytes commands = flat_map command_bytes commands

-- the note after a text, or nothing if it is empty
abbrev pub note_bytes : List ℕ → List ℕ
note_bytes note = if length note == 0 then [] else codes "<tspan class=\"note\">" ++ escaped_text note ++ codes "</tspan>"

-- a path with its class, its start and its commands
abbrev pub path_bytes : List ℕ → ℕ → ℕ → List PathCommand → List ℕ
path_bytes class x y commands =
    codes "<path class=\"" ++ escaped_text class ++ codes "\" d=\"M" ++ decimal x ++ codes " " ++ decimal y ++ commands_bytes commands ++ codes "\"/>"

-- a text with its class and its position, and a note after it
abbrev pub text_bytes : List ℕ → ℕ → ℕ → List ℕ → List ℕ → List ℕ
text_bytes class x y text note =
    codes "<text class=\"" ++ escaped_text class ++ codes "\" x=\"" ++ decimal x ++ codes "\" y=\"" ++ decimal y ++ codes "\">"
    ++ escaped_text text ++ note_bytes note ++ codes "</text>"

-- a rectangle with its class, its upper left corner, its size, and the radius of its corners
abbrev pub rectangle_bytes : List ℕ → ℕ → ℕ → ℕ → ℕ → ℕ → List ℕ
rectangle_bytes class x y width height radius =
    codes "<rect class=\"" ++ escaped_text class ++ codes "\" x=\"" ++ decimal x ++ codes "\" y=\"" ++ decimal y ++ codes "\" width=\"" ++ decimal width
    ++ codes "\" height=\"" ++ decimal height ++ codes "\" rx=\"" ++ decimal radius ++ codes "\"/>"

abbrev pub title_bytes : List ℕ → List ℕ
title_bytes text = codes "<title>" ++ escaped_text text ++ codes "</title>"

-- an element that contains no other element
abbrev pub element_bytes : Element → List ℕ
element_bytes (Rectangle class x y width height radius) = rectangle_bytes class.now x y width height radius
element_bytes (Circle class x y radius) =
    codes "<circle class=\"" ++ escaped_text class.now ++ codes "\" cx=\"" ++ decimal x ++ codes "\" cy=\"" ++ decimal y ++ codes "\" r=\"" ++ decimal radius
    ++ codes "\"/>"
element_bytes (Path class x y commands) = path_bytes class.now x y commands.now
element_bytes (Text class x y text note) = text_bytes class.now x y text.now note.now
element_bytes (Title text) = title_bytes text.now
element_bytes (Description text) = codes "<desc>" ++ escaped_text text.now ++ codes "</desc>"
element_bytes (Style text) = codes "<style>" ++ escaped_text text.now ++ codes "</style>"

-- the start tag of a group; its end tag is `</g>`
abbrev pub group_tag : List ℕ → List ℕ
group_tag class = codes "<g class=\"" ++ escaped_text class ++ codes "\">"

-- the start tag of the picture with these further attributes; its end tag is `</svg>`
abbrev pub root_tag : (attributes : List ℕ) → (width height : ℕ) → List ℕ
root_tag attributes width height =
    codes "<svg xmlns=\"http://www.w3.org/2000/svg\" viewBox=\"0 0 " ++ decimal width ++ codes " " ++ decimal height
    ++ codes "\" width=\"" ++ decimal width ++ codes "\" height=\"" ++ decimal height ++ codes "\" " ++ attributes ++ codes ">"

-- the attributes of a picture without links: to assistive technologies it is one graphic (WAI-ARIA 1.2)
abbrev pub unlinked : List ℕ
unlinked = codes "role=\"img\""

-- content: a list of elements and of groups with content
pub data Content : Type 0 where
  nothing : Content
  element : Element → Content → Content
  group : (class : List ℕ) → (inside more : Content) → Content

-- the bytes of content
abbrev pub content_bytes : Content → List ℕ
content_bytes nothing = []
content_bytes (element e more) = element_bytes e ++ content_bytes more
content_bytes (group class inside more) = group_tag class ++ content_bytes inside ++ codes "</g>" ++ content_bytes more

-- the bytes of a whole picture
abbrev pub IsDocument : List ℕ → Type 0
IsDocument bytes =
    (width : ℕ) × (height : ℕ) × (content : Content) × (bytes ≡ root_tag unlinked width height ++ content_bytes content ++ codes "</svg>")

-- an unfinished picture
pub record Drawn : Type 0 where
  -- the number of open groups
  pub depth : ℕ
  -- its bytes, as a picture without links
  pub written : List ℕ

-- The bytes in an unfinished picture with that number of open groups: each open group contains content, and then the
-- next open group.
abbrev pub IsUnfinished : ℕ → List ℕ → Type 0
IsUnfinished zero bytes = (content : Content) × (bytes ≡ content_bytes content)
IsUnfinished (suc depth) bytes =
    (before class : List ℕ) × (content : Content) × IsUnfinished depth before × (bytes ≡ before ++ group_tag class ++ content_bytes content)
