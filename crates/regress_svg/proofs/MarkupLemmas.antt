-- An unfinished picture, with more content after it.
use Rattle.std.proofs.Common.{◌≡◌, ◌∙◌, ℕ, zero, suc, ◌+◌, ◌-◌, ◌<◌, ◌≤◌, List, [], ◌∷◌, ◌++◌, length, ap, sym, refl, subst, append_assoc, append-nil, codes, arith, add-one, length-append}
use Rattle.regress_svg.specs.Markup.{Content, nothing, element, group, content_bytes, element_bytes, group_tag, unlinked, root_tag, IsDocument, IsUnfinished}
use Rattle.regress_svg.specs.declared.element.Element.{Element}

-- the two contents joined
abbrev pub joined : Content → Content → Content
joined nothing more = more
joined (element e rest) more = element e (joined rest more)
joined (group class inside rest) more = group class inside (joined rest more)

regroup_four : (a b c d e : List ℕ) → a ++ b ++ c ++ (d ++ e) ≡ (a ++ b ++ c ++ d) ++ e
regroup_four a b c d e = simp append_assoc

pub content_bytes-joined : (a b : Content) → content_bytes (joined a b) ≡ content_bytes a ++ content_bytes b
content_bytes-joined nothing b = refl
content_bytes-joined (element e rest) b =
    ap (λ bytes. element_bytes e ++ bytes) (content_bytes-joined rest b) ∙ sym (append_assoc (element_bytes e) (content_bytes rest) (content_bytes b))
content_bytes-joined (group class inside rest) b =
    ap (λ bytes. group_tag class ++ content_bytes inside ++ codes "</g>" ++ bytes) (content_bytes-joined rest b)
    ∙ regroup_four (group_tag class) (content_bytes inside) (codes "</g>") (content_bytes rest) (content_bytes b)

-- the bytes before a content, and more content
further : (bytes front : List ℕ) (content more : Content) → bytes ≡ front ++ content_bytes content →
    bytes ++ content_bytes more ≡ front ++ content_bytes (joined content more)
further bytes front content more is =
    ap (λ all. all ++ content_bytes more) is ∙ append_assoc front (content_bytes content) (content_bytes more)
    ∙ ap (λ all. front ++ all) (sym (content_bytes-joined content more))

-- more content in the innermost open group
pub front_more : (depth : ℕ) (bytes : List ℕ) (more : Content) → IsUnfinished depth bytes → IsUnfinished depth (bytes ++ content_bytes more)
front_more zero bytes more (content, is) = (joined content more, further bytes [] content more is)
front_more (suc depth) bytes more (before, class, content, front, is) =
    (before, class, joined content more, front, further bytes (before ++ group_tag class) content more is)

drawn : (depth : ℕ) (bytes : List ℕ) (e : Element) → IsUnfinished depth bytes → IsUnfinished depth (bytes ++ element_bytes e)
drawn depth bytes e front =
    let P : List ℕ → Type 0 = λ more. IsUnfinished depth (bytes ++ more) in
    subst P (append-nil (element_bytes e)) (front_more depth bytes (element e nothing) front)

closed_up : (before tag inside end : List ℕ) → before ++ (tag ++ inside ++ end ++ []) ≡ (before ++ tag ++ inside) ++ end
closed_up before tag inside end = simp (append_assoc, append-nil)

closed : (depth : ℕ) (bytes : List ℕ) → IsUnfinished (suc depth) bytes → IsUnfinished depth (bytes ++ codes "</g>")
closed depth bytes (before, class, content, front, is) =
    let P : List ℕ → Type 0 = λ all. IsUnfinished depth all in
    subst P
    (closed_up before (group_tag class) (content_bytes content) (codes "</g>") ∙ ap (λ all. all ++ codes "</g>") (sym is))
    (front_more depth before (group class content nothing) front)

-- an empty picture
pub begins : (bytes : List ℕ) → bytes ≡ [] → IsUnfinished 0 bytes
begins bytes is = (nothing, is)

-- a picture without an open group
pub whole : (depth width height : ℕ) (inside text : List ℕ) → depth ≡ 0 → IsUnfinished depth inside →
    text ≡ (root_tag unlinked width height ++ inside) ++ codes "</svg>" → IsDocument text
whole zero width height inside text none (content, holds) is =
    (width, height, content, is ∙ ap (λ all. (root_tag unlinked width height ++ all) ++ codes "</svg>") holds)
whole (suc depth) width height inside text none front is = absurd (omega arith)

-- one more element
pub draws : (depth : ℕ) (old new : List ℕ) (e : Element) → new ≡ old ++ element_bytes e → IsUnfinished depth old → IsUnfinished depth new
draws depth old new e is front =
    let P : List ℕ → Type 0 = λ all. IsUnfinished depth all in
    subst P (sym is) (drawn depth old e front)

-- a group that is opened
pub opens : (depth : ℕ) (old new class : List ℕ) → new ≡ old ++ group_tag class → IsUnfinished depth old → IsUnfinished (depth + 1) new
opens depth old new class is front =
    rw (add-one depth) (old, class, nothing, front, is ∙ sym (append-nil (old ++ group_tag class)))

-- a group that is closed
pub closes : (depth : ℕ) (old new : List ℕ) → 0 < depth → new ≡ old ++ codes "</g>" → IsUnfinished depth old → IsUnfinished (depth - 1) new
closes zero old new some is front = absurd (omega arith)
closes (suc depth) old new some is front =
    let P : List ℕ → Type 0 = λ all. IsUnfinished depth all in
    let less : suc depth - 1 ≡ depth = omega arith in
    rw less (subst P (sym is) (closed depth old front))

longer : (depth : ℕ) (before rest inside : List ℕ) (b : ℕ) → depth ≤ length before → suc depth ≤ length ((before ++ b ∷ rest) ++ inside)
longer depth before rest inside b below =
    omega (arith, length-append (before ++ b ∷ rest) inside, length-append before (b ∷ rest))

-- Each open group takes at least one byte.
pub depth_within : (depth : ℕ) (bytes : List ℕ) → IsUnfinished depth bytes → depth ≤ length bytes
depth_within zero bytes front = omega arith
depth_within (suc depth) bytes (before, class, content, front, is) =
    let P : List ℕ → Type 0 = λ all. suc depth ≤ length all in
    subst P (sym is) (longer depth before _ (content_bytes content) _ (depth_within depth before front))

-- what is drawn of a picture, and more
pub drawn_more : (root inside new more written : List ℕ) → written ≡ root ++ inside → new ≡ inside ++ more → root ++ new ≡ written ++ more
drawn_more root inside new more written view is =
    ap (λ all. root ++ all) is ∙ sym (append_assoc root inside more) ∙ ap (λ all. all ++ more) (sym view)
