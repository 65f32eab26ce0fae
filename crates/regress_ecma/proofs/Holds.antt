-- What holds of whatever is found in a source.
use Rattle.std.proofs.Common.{◌≡◌, Bool, true, false, Some, None, if◌then◌else◌, refl, subst}
use Rattle.std.proofs.lemmas.Option.{none-some, same_Some}
use Rattle.regress_lexer.specs.Source.{Source, Found, ◌>>=◌, found_map}

-- What is found has the property.
pub record Holds {A : Type 0} (P : A → Type 0) (found : Found A) : Type 0 where
  pub each : (x : A × Source) → found ≡ Some x → P x.0

module _ {A : Type 0} (P : A → Type 0) where
  pub holds_none : Holds P None
  holds_none = record { each = λ x e. absurd (none-some x e) }

  pub holds_some : (x : A) (t : Source) → P x → Holds P (Some (x, t))
  holds_some x t h = record { each = λ y e. subst (λ (z : A × Source). P z.0) (same_Some (x, t) y e) h }

  pub holds_if : (b : Bool) (f g : Found A) → Holds P f → Holds P g → Holds P (if b then f else g)
  holds_if true f g first second = first
  holds_if false f g first second = second

pub holds_then : {A B : Type 0} (P : B → Type 0) (found : Found A) (next : A × Source → Found B) → ((x : A × Source) → Holds P (next x)) →
    Holds P (found >>= next)
holds_then P None next h = holds_none P
holds_then P (Some x) next h = h x

pub holds_map : {A B : Type 0} (P : B → Type 0) (f : A → B) (found : Found A) → ((a : A) → P (f a)) → Holds P (found_map f found)
holds_map P f None h = holds_none P
holds_map P f (Some (a, t)) h = holds_some P (f a) t (h a)

-- The property of what a map makes of what is found.
pub holds_found : {A B : Type 0} (P : B → Type 0) (f : A → B) (found : Found A) → ((a : A) (t : Source) → found ≡ Some (a, t) → P (f a)) →
    Holds P (found_map f found)
holds_found P f None h = holds_none P
holds_found P f (Some (a, t)) h = holds_some P (f a) t (h a t refl)
