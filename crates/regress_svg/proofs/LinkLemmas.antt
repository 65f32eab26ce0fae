-- Links that are written one after the other.
use Rattle.std.proofs.Common.{◌≡◌, ◌∙◌, ℕ, ◌+◌, ◌<◌, List, [], ◌∷◌, ◌++◌, All, ap, sym, refl, subst, append_assoc, append-nil, arith, length, map, codes, zero, suc}
use Rattle.std.proofs.lemmas.List.{length-map, map-append}
use Rattle.std.proofs.lemmas.List.Elements.{All-push}
use Rattle.regress_svg.specs.declared.link.Area.{Area}
use Rattle.regress_svg.specs.Links.{IsLinkedDocument, WritesLinks, area_bytes, document, line_of, links_bytes}
use Rattle.regress_svg.specs.Markup.{Content, content_bytes, root_tag, IsUnfinished}

links_bytes-push : (number next : ℕ) (areas : List Area) (area : Area) → next ≡ number + length areas →
    links_bytes number (areas ++ area ∷ []) ≡ links_bytes number areas ++ area_bytes next area
links_bytes-push number next [] area is =
    let here : number ≡ next = omega arith in
    append-nil (area_bytes number area) ∙ ap (λ n. area_bytes n area) here
links_bytes-push number next (first ∷ areas) area is =
    let here : next ≡ (number + 1) + length areas = omega arith in
    ap (λ all. area_bytes number first ++ all) (links_bytes-push (number + 1) next areas area here)
    ∙ sym (append_assoc (area_bytes number first) (links_bytes (number + 1) areas) (area_bytes next area))

pub no_links : (count : ℕ) (text : List ℕ) → WritesLinks count [] text text
no_links count text = record { areas = []; leads = refl; below = λ k d below. absurd (omega arith); added = sym (append-nil text) }

-- one more link
pub one_link : (count number : ℕ) (lines all before after new : List ℕ) (area : Area) → number ≡ length lines → area.line < count →
    new ≡ after ++ area_bytes number area → all ≡ lines ++ area.line ∷ [] → WritesLinks count lines before after → WritesLinks count all before new
one_link count number lines all before after new area is below added more so_far = record {
  areas = so_far.areas ++ area ∷ [];
  leads = map-append line_of so_far.areas (area ∷ []) ∙ ap (λ (xs : List ℕ). xs ++ area.line ∷ []) so_far.leads ∙ sym more;
  below = subst (λ (xs : List ℕ). All (λ line. line < count) xs) (sym more) (All-push (λ line. line < count) lines area.line so_far.below below);
  added = added ∙ ap (λ xs. xs ++ area_bytes number area) so_far.added ∙ append_assoc before (links_bytes 0 so_far.areas) (area_bytes number area)
      ∙ ap (λ xs. before ++ xs) (sym (links_bytes-push 0 number so_far.areas area next));
}
  where
    same : number ≡ length so_far.areas
    same = is ∙ ap (λ (xs : List ℕ). length xs) (sym so_far.leads) ∙ length-map so_far.areas line_of

    next : number ≡ 0 + length so_far.areas
    next = omega (arith, same)

regrouped : (a b c d : List ℕ) → ((a ++ b) ++ c) ++ d ≡ a ++ b ++ c ++ d
regrouped a b c d = simp append_assoc

-- a picture with links
linked : (count width height : ℕ) (content : Content) (lines before after text : List ℕ) → before ≡ root_tag document width height ++ content_bytes content →
    WritesLinks count lines before after → text ≡ after ++ codes "</svg>" → IsLinkedDocument lines text
linked count width height content lines before after text drawn links closed = record {
  width = width;
  height = height;
  content = content;
  areas = links.areas;
  leads = links.leads;
  is = closed ∙ ap (λ xs. xs ++ codes "</svg>") (links.added ∙ ap (λ xs. xs ++ links_bytes 0 links.areas) drawn)
      ∙ regrouped (root_tag document width height) (content_bytes content) (links_bytes 0 links.areas) (codes "</svg>");
}

pub finished : (depth count width height : ℕ) (inside lines before after text : List ℕ) → depth ≡ 0 → IsUnfinished depth inside →
    before ≡ root_tag document width height ++ inside → WritesLinks count lines before after → text ≡ after ++ codes "</svg>" → IsLinkedDocument lines text
finished zero count width height inside lines before after text none (content, drawn) begun links closed =
    linked count width height content lines before after text (begun ∙ ap (λ all. root_tag document width height ++ all) drawn) links closed
finished (suc depth) count width height inside lines before after text none front begun links closed = absurd (omega arith)
