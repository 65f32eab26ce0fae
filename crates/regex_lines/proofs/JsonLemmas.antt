-- What loops over matches and groups have written as JSON.
use Rattle.std.proofs.Common.{◌≡◌, ◌∙◌, ℕ, ◌+◌, List, ◌++◌, Option, Some, flat_map, length, map, take, ap, sym, append_assoc, codes}
use Rattle.regress_found.specs.Found as one
use Rattle.regress_found.specs.declared.found.Match as matcher
use Rattle.regress_tree.specs.Steps.{CaptureSpan}
use Rattle.regress.specs.Compiled.{groups_of, match_of}
use Rattle.regress.specs.declared.found.Match.{Match}
use Rattle.regress.specs.declared.pattern.Regex.{Regex}
use Rattle.std.specs.Fmt.{decimal}
use Rattle.regress_display.specs.Fault.{json_text}
use Rattle.regex_lines.specs.Reply.{group_json, groups_json, json_prefix, located_json, match_json, name_json, part_json, Run}

-- the objects of the first i matches
abbrev pub json_so_far : Regex → (prefix : List ℕ) → Run → List Match → ℕ → List ℕ
json_so_far r prefix run ms i = flat_map (λ m. prefix ++ match_json run (groups_of r) m) (map match_of (take i ms))

-- lists, joined from the right and from the left
four : (a b c d : List ℕ) → a ++ (b ++ (c ++ d)) ≡ a ++ b ++ c ++ d
four a b c d = sym (append_assoc a b (c ++ d)) ∙ sym (append_assoc (a ++ b) c d)

five : (a b c d e : List ℕ) → a ++ (b ++ (c ++ (d ++ e))) ≡ a ++ b ++ c ++ d ++ e
five a b c d e = four a b c (d ++ e) ∙ sym (append_assoc (a ++ b ++ c) d e)

seven : (a b c d e f g : List ℕ) → a ++ (b ++ (c ++ (d ++ (e ++ (f ++ g))))) ≡ a ++ b ++ c ++ d ++ e ++ f ++ g
seven a b c d e f g =
    five a b c d (e ++ (f ++ g)) ∙ sym (append_assoc (a ++ b ++ c ++ d) e (f ++ g)) ∙ sym (append_assoc (a ++ b ++ c ++ d ++ e) f g)

pub located : (start end : ℕ) (text : List ℕ) →
    codes "\"span\":[" ++ (decimal start ++ (codes "," ++ (decimal end ++ (codes "],\"text\":\"" ++ (json_text text ++ codes "\""))))) ≡ located_json start end text
located start end text =
    seven (codes "\"span\":[") (decimal start) (codes ",") (decimal end) (codes "],\"text\":\"") (json_text text) (codes "\"")

pub in_front : (name : List ℕ) (number : ℕ) →
    codes "{\"file\":\"" ++ (json_text name ++ (codes "\",\"line\":" ++ (decimal number ++ codes ","))) ≡ json_prefix name number
in_front name number = five (codes "{\"file\":\"") (json_text name) (codes "\",\"line\":") (decimal number) (codes ",")

pub group_of_parts : (run : Run) (name : Option (List ℕ)) (span : Option CaptureSpan) (n p : List ℕ) → n ≡ name_json name → p ≡ part_json run span →
    codes "{\"name\":" ++ (n ++ (codes "," ++ (p ++ codes "}"))) ≡ group_json run name span
group_of_parts run name span n p is_name is_part =
    five (codes "{\"name\":") n (codes ",") p (codes "}")
    ∙ ap (λ x. codes "{\"name\":" ++ x ++ codes "," ++ p ++ codes "}") is_name
    ∙ ap (λ x. codes "{\"name\":" ++ name_json name ++ codes "," ++ x ++ codes "}") is_part

pub match_of_parts : (run : Run) (r : Regex) (m : matcher.Match) (start end : ℕ) (p g : List ℕ) → start ≡ one.start_of m →
    end ≡ (one.state_of m).position → p ≡ part_json run (Some (start, end)) → g ≡ groups_json run m 0 (map (λ c. c.name) (groups_of r)) →
    p ++ (codes ",\"groups\":[" ++ (g ++ codes "]}\n")) ≡ match_json run (groups_of r) m
match_of_parts run r m start end p g is_start is_end is_part is_groups =
    let groups = groups_json run m 0 (map (λ c. c.name) (groups_of r)) in
    four p (codes ",\"groups\":[") g (codes "]}\n")
    ∙ ap (λ x. x ++ codes ",\"groups\":[" ++ g ++ codes "]}\n") (is_part ∙ (λ i. part_json run (Some (is_start i, is_end i))))
    ∙ ap (λ x. part_json run (Some (one.start_of m, (one.state_of m).position)) ++ codes ",\"groups\":[" ++ x ++ codes "]}\n") is_groups

module _ (run : Run) (m : matcher.Match) (all : List (Option (List ℕ))) where
  -- the groups from this number on have these names, and the others are written
  pub record SoFar (number : ℕ) (left : List (Option (List ℕ))) (json : List ℕ) : Type 0 where
    pub counted : number + length left ≡ length all
    pub written : json ++ groups_json run m number left ≡ groups_json run m 0 all
