-- What one grammar finds in a source, another finds too.
use Rattle.std.proofs.Common.{◌≡◌, Bool, true, false, Some, None, if◌then◌else◌, refl, sym, subst}
use Rattle.std.proofs.lemmas.Option.{none-some, same_Some}
use Rattle.regress_lexer.specs.Source.{Source, Found, ◌>>=◌, found_map}

-- What is found is related, and the same source is left.
pub record IsRelated {A B : Type 0} (R : B → A → Type 0) (x : A) (t : Source) (mine : Found B) : Type 0 where
  pub value : B
  pub found : mine ≡ Some (value, t)
  pub related : R value x

-- Where the first finds something, the second finds something related to it, and the same source is left.
pub record Follows {A B : Type 0} (R : B → A → Type 0) (found : Found A) (mine : Found B) : Type 0 where
  pub each : (x : A) (t : Source) → found ≡ Some (x, t) → IsRelated R x t mine

module _ {A B : Type 0} (R : B → A → Type 0) where
  pub follows_none : (mine : Found B) → Follows R None mine
  follows_none mine = record { each = λ x t e. absurd (none-some (x, t) e) }

  pub follows_some : (y : B) (x : A) (t : Source) → R y x → Follows R (Some (x, t)) (Some (y, t))
  follows_some y x t r = record {
    each = λ z u e.
        subst (λ (w : A × Source). IsRelated R w.0 w.1 (Some (y, t))) (same_Some (x, t) (z, u) e)
        (record { value = y; found = refl; related = r });
  }

  pub follows_if : (b : Bool) (f g : Found A) (h k : Found B) → (b ≡ true → Follows R f h) → (b ≡ false → Follows R g k) →
      Follows R (if b then f else g) (if b then h else k)
  follows_if true f g h k first second = first refl
  follows_if false f g h k first second = second refl

  -- The second may find what the first does not.
  pub follows_unless : (b : Bool) (f : Found A) (h : Found B) → (b ≡ false → Follows R f h) → Follows R (if b then None else f) h
  follows_unless true f h otherwise' = follows_none h
  follows_unless false f h otherwise' = otherwise' refl

module _ {A B C D : Type 0} (R : B → A → Type 0) (S : D → C → Type 0) where
  pub follows_then : (f : Found A) (g : Found B) (h : A × Source → Found C) (k : B × Source → Found D) → Follows R f g →
      ((x : A) (y : B) (t : Source) → R y x → Follows S (h (x, t)) (k (y, t))) → Follows S (f >>= h) (g >>= k)
  follows_then None g h k first next = follows_none S (g >>= k)
  follows_then (Some (x, t)) g h k first next =
      let found = first.each x t refl in
      subst (λ (o : Found B). Follows S (h (x, t)) (o >>= k)) (sym found.found) (next x found.value t found.related)

  pub follows_map : (f : A → C) (g : B → D) (found : Found A) (mine : Found B) → Follows R found mine →
      ((x : A) (y : B) → R y x → S (g y) (f x)) → Follows S (found_map f found) (found_map g mine)
  follows_map f g found mine follows h =
      follows_then found mine (λ (x, t). Some (f x, t)) (λ (y, t). Some (g y, t)) follows (λ x y t r. follows_some S (g y) (f x) t (h x y r))

-- The same is found.
pub follows_same : {A : Type 0} (found : Found A) → Follows (λ (y x : A). y ≡ x) found found
follows_same found = record { each = λ x t e. record { value = x; found = e; related = refl } }

-- What is found is related after a map.
pub follows_mapped : {A B C : Type 0} (R : B → A → Type 0) (S : B → C → Type 0) (f : A → C) (found : Found A) (mine : Found B) →
    Follows R found mine → ((x : A) (y : B) → R y x → S y (f x)) → Follows S (found_map f found) mine
follows_mapped R S f None mine follows h = follows_none S mine
follows_mapped R S f (Some (x, t)) mine follows h =
    let found = follows.each x t refl in
    subst (Follows S (Some (f x, t))) (sym found.found) (follows_some S found.value (f x) t (h x found.value found.related))
