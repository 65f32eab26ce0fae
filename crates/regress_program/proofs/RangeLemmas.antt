-- The groups that instructions and routines change, from an index on.
use Rattle.std.proofs.Common.{◌≡◌, ℕ, ◌+◌, ◌<◌, ◌≤◌, List, [], ◌∷◌, ◌++◌, map, length, drop, take, get_or, slice_get, Some, option_map, max, refl, sym, ap, ap₂, ◌∙◌, arith}
use Rattle.std.proofs.lemmas.List.{drop_all, drop_more, length-map, take_all}
use Rattle.std.proofs.lemmas.Option.{get_or_from_slice_get, slice_get-get_or, slice_get-map, slice_get_read, slice_get_within}
use Rattle.regress_program.specs.declared.ranges.GroupRange.{GroupRange}
use Rattle.regress_program.specs.Program.{Op, Routine}
use Rattle.regress_program.specs.Ranges.{captured_by, captured_by_all, captured_in, changed_by, changed_by_all, hull, ranges_after}

pub drop-at : {X : Type 0} (xs : List X) (i next : ℕ) (x : X) → slice_get xs i ≡ Some x → next ≡ i + 1 → drop i xs ≡ x ∷ drop next xs
drop-at xs i next x is after =
    drop_more xs i x (slice_get_within xs i x is) ∙ ap (λ y. y ∷ drop (i + 1) xs) (get_or_from_slice_get xs i x x is)
    ∙ ap (λ k. x ∷ drop k xs) (sym after)

pub get-map : {X : Type 0} {Y : Type 0} (f : X → Y) (xs : List X) (i : ℕ) (x : X) → i < length xs → x ≡ get_or xs i x →
    slice_get (map f xs) i ≡ Some (f x)
get-map f xs i x within is = slice_get-map f xs i ∙ ap (option_map f) (slice_get_read xs _ i x refl within is)

pub drop_map-at : {X : Type 0} {Y : Type 0} (f : X → Y) (xs : List X) (i next : ℕ) (x : X) → i < length xs → x ≡ get_or xs i x →
    next ≡ i + 1 → drop i (map f xs) ≡ f x ∷ drop next (map f xs)
drop_map-at f xs i next x within is after = drop-at (map f xs) i next (f x) (get-map f xs i x within is) after

-- the same for the element that is read there
pub get_map-got : {X : Type 0} {Y : Type 0} (f : X → Y) (xs : List X) (i : ℕ) (d : X) → i < length xs → slice_get (map f xs) i ≡ Some (f (get_or xs i d))
get_map-got f xs i d within = slice_get-map f xs i ∙ ap (option_map f) (slice_get-get_or xs i d within)

pub drop_map-got : {X : Type 0} {Y : Type 0} (f : X → Y) (xs : List X) (i next : ℕ) (d : X) → i < length xs → next ≡ i + 1 →
    drop i (map f xs) ≡ f (get_or xs i d) ∷ drop next (map f xs)
drop_map-got f xs i next d within after =
    drop-at (map f xs) i next (f (get_or xs i d)) (get_map-got f xs i d within) after

-- all elements
pub take_map-all : {X : Type 0} {Y : Type 0} (f : X → Y) (xs : List X) (i : ℕ) → length xs ≤ i → take i (map f xs) ≡ map f xs
take_map-all f xs i end = take_all i (map f xs) (omega (arith, end, length-map xs f))

pub drop_map-all : {X : Type 0} {Y : Type 0} (f : X → Y) (xs : List X) (i : ℕ) → length xs ≤ i → drop i (map f xs) ≡ []
drop_map-all f xs i end = drop_all i (map f xs) (omega (arith, end, length-map xs f))

-- one more instruction
pub changed-more : (earlier : List GroupRange) (ops : List Op) (i next : ℕ) (op : Op) (first rest whole : GroupRange) →
    drop i ops ≡ op ∷ drop next ops → first ≡ changed_by earlier op → rest ≡ changed_by_all earlier (drop next ops) →
    whole ≡ hull first rest → whole ≡ changed_by_all earlier (drop i ops)
changed-more earlier ops i next op first rest whole more here after is =
    let both : hull first rest ≡ changed_by_all earlier (op ∷ drop next ops) = ap₂ hull here after in
    is ∙ both ∙ sym (ap (λ (os : List Op). changed_by_all earlier os) more)

-- one more routine
pub ranges-more : (program : List Routine) (i next : ℕ) (r : Routine) (before after all : List GroupRange) (range : GroupRange) →
    drop i program ≡ r ∷ drop next program → range ≡ changed_by_all before r.ops → after ≡ before ++ range ∷ [] →
    ranges_after before (drop i program) ≡ all → ranges_after after (drop next program) ≡ all
ranges-more program i next r before after all range more here pushed is =
    let whole : after ≡ before ++ changed_by_all before r.ops ∷ [] = pushed ∙ ap (λ (x : GroupRange). before ++ x ∷ []) here in
    ap (λ (xs : List GroupRange). ranges_after xs (drop next program)) whole
    ∙ sym (ap (λ (rs : List Routine). ranges_after before rs) more) ∙ is

-- ---- the groups that lookarounds set

max-more : (groups here rest all more : ℕ) → more ≡ max groups here → max groups (max here rest) ≡ all → max more rest ≡ all
max-more groups here rest all more is whole = omega (arith, is, whole)

-- one more instruction
pub captured-more : (ranges : List GroupRange) (ops : List Op) (i next : ℕ) (op : Op) (groups here more all : ℕ) →
    drop i ops ≡ op ∷ drop next ops → here ≡ captured_by ranges op → more ≡ max groups here →
    max groups (captured_by_all ranges (drop i ops)) ≡ all → max more (captured_by_all ranges (drop next ops)) ≡ all
captured-more ranges ops i next op groups here more all found is adds whole =
    let rest = captured_by_all ranges (drop next ops) in
    max-more groups here rest all more adds
    (ap (λ n. max groups (max n rest)) is ∙ sym (ap (λ (os : List Op). max groups (captured_by_all ranges os)) found) ∙ whole)

-- one more routine
pub inner-more : (ranges : List GroupRange) (program : List Routine) (i next : ℕ) (r : Routine) (groups here more all : ℕ) →
    drop i program ≡ r ∷ drop next program → here ≡ captured_by_all ranges r.ops → more ≡ max groups here →
    max groups (captured_in ranges (drop i program)) ≡ all → max more (captured_in ranges (drop next program)) ≡ all
inner-more ranges program i next r groups here more all found is adds whole =
    let rest = captured_in ranges (drop next program) in
    max-more groups here rest all more adds
    (ap (λ n. max groups (max n rest)) is ∙ sym (ap (λ (rs : List Routine). max groups (captured_in ranges rs)) found) ∙ whole)
