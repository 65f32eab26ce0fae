-- The first entry with a name, element by element.
use Rattle.std.proofs.Common.{◌≡◌, ℕ, suc, ◌+◌, ◌<◌, ◌≤◌, Bool, true, false, List, [], ◌∷◌, ◌++◌, map, drop, length, get_or, Option, Some, None, refl, sym, ap, subst, ◌∙◌, add-one, drop-cons, option_map, cond, All}
use Rattle.std.specs.Option.{option_or}
use Rattle.std.specs.Str.{bytes_eq}
use Rattle.std.proofs.lemmas.List.{drop_all}
use Rattle.std.proofs.lemmas.List.Elements.{All-head, All-tail}
use Rattle.regress_base.specs.Table.{Named, named}

-- the entries from an index on begin with the one there
entries_at : {E A : Type 0} (f : E → Named A) (entries : List E) (i : ℕ) (d x : E) → i < length entries → x ≡ get_or entries i d →
    map f (drop i entries) ≡ f x ∷ map f (drop (i + 1) entries)
entries_at f entries i d x lt is =
    ap (map f) (drop-cons entries i d lt)
    ∙ ap (λ y. f y ∷ map f (drop (suc i) entries)) (sym is)
    ∙ ap (λ n. f x ∷ map f (drop n entries)) (sym (add-one i))

pub named_found : {E A : Type 0} (f : E → Named A) (name : List ℕ) (entries : List E) (i : ℕ) (d x : E) (whole : Option A) →
    i < length entries → x ≡ get_or entries i d → named name (map f (drop i entries)) ≡ whole →
    bytes_eq (f x).name name ≡ true → Some (f x).value ≡ whole
unfolding named
named_found f name entries i d x whole lt is so_far same =
    let here = sym (ap (named name) (entries_at f entries i d x lt is)) ∙ so_far in
    rw same at here

pub named_passed : {E A : Type 0} (f : E → Named A) (name : List ℕ) (entries : List E) (i : ℕ) (d x : E) (whole : Option A) →
    i < length entries → x ≡ get_or entries i d → named name (map f (drop i entries)) ≡ whole →
    bytes_eq (f x).name name ≡ false → named name (map f (drop (i + 1) entries)) ≡ whole
unfolding named
named_passed f name entries i d x whole lt is so_far other =
    let here = sym (ap (named name) (entries_at f entries i d x lt is)) ∙ so_far in
    rw other at here

pub named_none : {E A : Type 0} (f : E → Named A) (name : List ℕ) (entries : List E) (i : ℕ) (whole : Option A) →
    length entries ≤ i → named name (map f (drop i entries)) ≡ whole → None ≡ whole
unfolding named
named_none f name entries i whole le so_far = sym (ap (λ es. named name (map f es)) (drop_all i entries le)) ∙ so_far

-- entries with the same names, and values by a function
pub named_mapped : {E A B : Type 0} (f : E → Named A) (g : E → Named B) (h : A → B) → ((x : E) → g x ≡ record { name = (f x).name; value = h (f x).value }) →
    (name : List ℕ) (entries : List E) → option_map h (named name (map f entries)) ≡ named name (map g entries)
unfolding named
named_mapped f g h is name [] = refl
named_mapped {E} {A} {B} f g h is name (x ∷ entries) =
    by_name (bytes_eq (f x).name name) (named_mapped f g h is name entries)
    ∙ ap (λ (entry : Named B). cond (bytes_eq entry.name name) (Some entry.value) (named name (map g entries))) (sym (is x))
  where
    by_name : (b : Bool) → option_map h (named name (map f entries)) ≡ named name (map g entries) →
        option_map h (cond b (Some (f x).value) (named name (map f entries))) ≡ cond b (Some (h (f x).value)) (named name (map g entries))
    by_name true rest = refl
    by_name false rest = rest

-- what is true of each value is true of the one with the name
pub named_valid : {E A : Type 0} (P : A → Type 0) (f : E → Named A) (name : List ℕ) (entries : List E) (value : A) →
    All P (map (λ x. (f x).value) entries) → named name (map f entries) ≡ Some value → P value
unfolding named
named_valid P f name [] value all is = absurd cc
named_valid {E} {A} P f name (x ∷ entries) value all is =
    by_name (bytes_eq (f x).name name) (named_valid P f name entries value (All-tail P (f x).value (map (λ x. (f x).value) entries) all)) is
  where
    by_name : (b : Bool) → (named name (map f entries) ≡ Some value → P value) →
        cond b (Some (f x).value) (named name (map f entries)) ≡ Some value → P value
    by_name true later here = let same : (f x).value ≡ value = cc here in subst P same (All-head P (f x).value (map (λ x. (f x).value) entries) all)
    by_name false later rest = later rest

-- the entries of two lists
pub named-append : {A : Type 0} (name : List ℕ) (xs ys : List (Named A)) → named name (xs ++ ys) ≡ option_or (named name xs) (named name ys)
unfolding named
named-append name [] ys = refl
named-append {A} name (x ∷ xs) ys = by_name (bytes_eq x.name name) (named-append name xs ys)
  where
    by_name : (b : Bool) → named name (xs ++ ys) ≡ option_or (named name xs) (named name ys) →
        cond b (Some x.value) (named name (xs ++ ys)) ≡ option_or (cond b (Some x.value) (named name xs)) (named name ys)
    by_name true rest = refl
    by_name false rest = rest

pub named_first : {A : Type 0} (name : List ℕ) (xs ys : List (Named A)) (value : A) → Some value ≡ named name xs → Some value ≡ named name (xs ++ ys)
named_first name xs ys value is = ap (λ found. option_or found (named name ys)) is ∙ sym (named-append name xs ys)

pub named_second : {A : Type 0} (name : List ℕ) (xs ys : List (Named A)) → None ≡ named name xs → named name ys ≡ named name (xs ++ ys)
named_second name xs ys is = ap (λ found. option_or found (named name ys)) is ∙ sym (named-append name xs ys)
