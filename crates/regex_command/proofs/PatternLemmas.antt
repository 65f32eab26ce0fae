-- The patterns that are given, and what is made of them.
use Rattle.std.proofs.Common.{◌≡◌, ◌∙◌, ◌+◌, ◌<◌, ◌≤◌, ℕ, Bool, true, List, [], ◌∷◌, ◌++◌, map, length, take, get_or, All, ap, subst, sym, arith, encode_utf8_all}
use Rattle.std.specs.Prelude.{Result, Ok, Err, IfOk, String, chars, string_bytes, if◌then◌else◌}
use Rattle.std.specs.List.{Any, FoldsTo}
use Rattle.std.specs.declared.alloc.Global.{Global}
use Rattle.std.proofs.lemmas.Fn.{FoldsTo-push}
use Rattle.std.proofs.lemmas.List.{get_or-map, length-map, map-append, take_all, take_more}
use Rattle.std.proofs.lemmas.List.Elements.{All-push}
use Rattle.std.proofs.lemmas.Str.{IsUtf8-string_bytes, encodes-chars}
use Rattle.regress_escape.specs.Escape.{escaped}
use Rattle.regex_options.specs.Plain.{Source, source}
use Rattle.regex_options.specs.declared.source.PatternSource.{PatternSource}
use Rattle.regex_command.specs.Joined.{part}
use Rattle.regex_command.specs.Printed.{AreWith, ArePatternsOf}

module _ {X Y : Type 0} (f : X → Y) (xs : List X) (i : ℕ) where
  -- one item more, where f makes an item of each element
  pub mapped_more : (x : X) → i < length xs → x ≡ get_or xs i x → map f (take (i + 1) xs) ≡ map f (take i xs) ++ f x ∷ []
  mapped_more x within is =
      ap (map f) (take_more xs i x within ∙ ap (λ (y : X). take i xs ++ y ∷ []) (sym is)) ∙ map-append f (take i xs) (x ∷ [])

  pub all_more : (P : Y → Type 0) (x : X) → i < length xs → x ≡ get_or xs i x → All P (map f (take i xs)) → P (f x) → All P (map f (take (i + 1) xs))
  all_more P x within is all here = subst (All P) (sym (mapped_more x within is)) (All-push P (map f (take i xs)) (f x) all here)

  pub all_done : (P : Y → Type 0) → length xs ≤ i → All P (map f (take i xs)) → All P (map f xs)
  all_done P done all = subst (λ (some : List X). All P (map f some)) (take_all i xs done) all

  -- the same, where the element is given by a default
  pub mapped_next : (d : X) → i < length xs → map f (take (i + 1) xs) ≡ map f (take i xs) ++ f (get_or xs i d) ∷ []
  mapped_next d within = ap (map f) (take_more xs i d within) ∙ map-append f (take i xs) (get_or xs i d ∷ [])

  pub any_next : (P : Y → Type 0) (d : X) → i < length xs → P (f (get_or xs i d)) → Any P (map f xs)
  any_next P d within here = (i, f (get_or xs i d), omega (arith, within, length-map xs f), get_or-map f xs i d _ within, here)

-- the patterns of one source more
pub one_more : (sources : List PatternSource) (i : ℕ) (d : PatternSource) (before after : List (List ℕ)) → i < length sources →
    ArePatternsOf (map source (take i sources)) before → AreWith before (source (get_or sources i d)) after →
    ArePatternsOf (map source (take (i + 1) sources)) after
one_more sources i d before after within steps next =
    subst (λ (some : List Source). FoldsTo AreWith [] some after) (sym (mapped_next source sources i d within))
    (FoldsTo-push AreWith [] (map source (take i sources)) before (source (get_or sources i d)) after steps next)

-- an escaped text is the part that it becomes
pub escaped_part : {E : Type 0} (fixed : Bool) (pattern : List ℕ) (r : Result (String Global) E) → fixed ≡ true →
    IfOk r (λ text. chars (string_bytes text) ≡ escaped (chars pattern)) → IfOk r (λ text. string_bytes text ≡ part fixed pattern)
escaped_part fixed pattern (Ok text) is escapes =
    sym (encodes-chars (string_bytes text) (IsUtf8-string_bytes text))
    ∙ ap encode_utf8_all escapes
    ∙ ap (λ (b : Bool). if b then encode_utf8_all (escaped (chars pattern)) else pattern) (sym is)
escaped_part fixed pattern (Err e) is escapes = tt
