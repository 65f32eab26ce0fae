-- A picture with links to the lines of a list.
use Rattle.std.specs.Prelude.{◌≡◌, ℕ, ◌<◌, ◌+◌, List, [], ◌∷◌, ◌++◌, All, codes, map, string_bytes}
use Rattle.std.specs.Fmt.{decimal}
use Rattle.regress_svg.specs.Escape.{escaped_text}
use Rattle.regress_svg.specs.Markup.{Content, content_bytes, rectangle_bytes, root_tag, title_bytes}
use Rattle.regress_svg.specs.declared.link.Area.{Area}

-- a link with a title over an area: it has the id `d` with its number, and leads to the element with the id `l` with the
-- line's number
abbrev pub link_bytes : (number line : ℕ) → (class title area : List ℕ) → List ℕ
link_bytes number line class title area =
    codes "<a class=\"" ++ escaped_text class ++ codes "\" id=\"d" ++ decimal number ++ codes "\" href=\"#l" ++ decimal line ++ codes "\">" ++ title ++ area
    ++ codes "</a>"

abbrev pub area_bytes : (number : ℕ) → Area → List ℕ
area_bytes number area = link_bytes number area.line (string_bytes area.class) (title_bytes (string_bytes area.title))
    (rectangle_bytes (codes "area") area.x area.y area.width area.height 4)

-- links over areas, the first of which has that number
abbrev pub links_bytes : (number : ℕ) → List Area → List ℕ
links_bytes number [] = []
links_bytes number (area ∷ areas) = area_bytes number area ++ links_bytes (number + 1) areas

-- the attributes of a picture with links: a document, in which assistive technologies reach them (WAI-ARIA Graphics Module)
abbrev pub document : List ℕ
document = codes "role=\"graphics-document\" aria-roledescription=\"diagram\""

abbrev pub line_of : Area → ℕ
line_of area = area.line

-- The bytes are those of a picture, with links to these lines in this order, numbered from 0.
pub record IsLinkedDocument (lines : List ℕ) (bytes : List ℕ) : Type 0 where
  pub width : ℕ
  pub height : ℕ
  pub content : Content
  pub areas : List Area
  pub leads : map line_of areas ≡ lines
  pub is : bytes ≡ root_tag document width height ++ content_bytes content ++ links_bytes 0 areas ++ codes "</svg>"

-- Links to these lines, each one of the first `count`, are written, numbered from 0.
pub record WritesLinks (count : ℕ) (lines before after : List ℕ) : Type 0 where
  pub areas : List Area
  pub leads : map line_of areas ≡ lines
  pub below : All (λ line. line < count) lines
  pub added : after ≡ before ++ links_bytes 0 areas
