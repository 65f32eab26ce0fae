-- Parsing from the start of a source.
use Rattle.std.proofs.Common.{◌≡◌, ℕ, ◌<◌, ◌≤◌, ◌⊎◌, inl, inr, ◌≢◌, ◌==◌, Bool, true, false, cond, List, [], ◌∷◌, length, Option, Some, None, Result, Ok, Err, refl, sym, ap, ◌∙◌, arith}
use Rattle.std.specs.Option.{IfSome, IsSomeAnd}
use Rattle.std.specs.Result.{IfOk}
use Rattle.std.proofs.Common.{subst}
use Rattle.std.proofs.lemmas.Bool.{ne_eqb, false≢true}
use Rattle.std.proofs.lemmas.Option.{none-some, same_Some}
use Rattle.regress_lexer.specs.declared.fault.Fault.{Fault}
use Rattle.regress_lexer.specs.declared.fault.FaultKind.{FaultKind}
use Rattle.regress_lexer.specs.declared.fault.Fault.TheVariants.{Rejected, Memory}
use Rattle.regress_lexer.specs.Fault.{OnRejected, OnKind}
use Rattle.regress_lexer.specs.Source.{Source, Found, ◌>>=◌, Production, first_production, is_at}

-- What a continuation finds, it finds after what was found first.
pub found_then : {A B : Type 0} (found : Found A) (next : A × Source → Found B) (y : B × Source) → found >>= next ≡ Some y →
    (x : A × Source) × (found ≡ Some x) × (next x ≡ Some y)
found_then None next y e = absurd (none-some y e)
found_then (Some x) next y e = (x, refl, e)

pub then_same : {A B : Type 0} (found : Found A) (f g : A × Source → Found B) →
    ((x : A × Source) → found ≡ Some x → f x ≡ g x) → found >>= f ≡ found >>= g
then_same None f g h = refl
then_same (Some x) f g h = h x refl

pub chosen : {A : Type 0} (b : Bool) (x y z : A) → cond b x y ≡ z → ((b ≡ true) × (x ≡ z)) ⊎ ((b ≡ false) × (y ≡ z))
chosen true x y z e = inl (refl, e)
chosen false x y z e = inr (refl, e)

pub cond_same : {A : Type 0} (b : Bool) (x y x' y' : A) → (b ≡ true → x ≡ x') → (b ≡ false → y ≡ y') → cond b x y ≡ cond b x' y'
cond_same true x y x' y' h k = h refl
cond_same false x y x' y' h k = k refl

-- What each production finds where it applies has the property.
infixr 5 ◌also◌
pub data EachProduction {A : Type 0} (P : Found A → Type 0) : List (Production A) → Type 0 where
  no_more : EachProduction P []
  ◌also◌ : {applies : Bool} {found : Found A} {productions : List (Production A)} → (applies ≡ true → P found) → EachProduction P productions →
      EachProduction P ((applies, found) ∷ productions)

-- Then the first production that applies has the property too.
pub first_production-has : {A : Type 0} (P : Found A → Type 0) (productions : List (Production A)) → P None → EachProduction P productions → P (first_production productions)
first_production-has P [] none no_more = none
first_production-has P ((true, found) ∷ productions) none (has also each) = has refl
first_production-has P ((false, found) ∷ productions) none (has also each) = first_production-has P productions none each

-- A source that starts with a code point is not empty.
pub at_front : (k : ℕ) (t : Source) → is_at k t ≡ true → 0 < length t
at_front k [] e = cc
at_front k (c ∷ t) e = omega arith

-- The source that is left is no longer than the one that was given.
abbrev pub Shortens : {A : Type 0} → (Source → Found A) → Type 0
Shortens {A} f = (t : Source) (x : A × Source) → f t ≡ Some x → length x.1 ≤ length t

-- The property holds of whatever is found.
pub to_each : {A : Type 0} (o : Option A) (P : A → Type 0) → IfSome o P → (x : A) → o ≡ Some x → P x
to_each None P h x e = absurd (none-some x e)
to_each (Some y) P h x e = subst P (same_Some y x e) h

pub from_each : {A : Type 0} (o : Option A) (P : A → Type 0) → ((x : A) → o ≡ Some x → P x) → IfSome o P
from_each None P h = tt
from_each (Some y) P h = h y refl

pub some_and : {A : Type 0} (o : Option A) (P : A → Type 0) → IsSomeAnd o P → (x : A) × (o ≡ Some x) × P x
some_and None P h = absurd h
some_and (Some x) P h = (x, refl, h)

-- What holds anyway holds for a syntax error.
pub on_rejected : {P : Type 0} (fault : Fault) → P → OnRejected fault P
on_rejected (Rejected kind left) h = h
on_rejected (Memory e) h = tt

pub on_rejected_then : {P Q : Type 0} (fault : Fault) → (P → Q) → OnRejected fault P → OnRejected fault Q
on_rejected_then (Rejected kind left) f h = f h
on_rejected_then (Memory e) f h = tt

pub on_kind_then : {P Q : FaultKind → Type 0} (fault : Fault) → ((kind : FaultKind) → P kind → Q kind) → OnKind fault P → OnKind fault Q
on_kind_then (Rejected kind left) f h = f kind h
on_kind_then (Memory e) f h = tt

-- A property that implies another for every kind implies it for the kind of an error.
pub on_each_kind : {P : Type 0} {Q : FaultKind → Type 0} (fault : Fault) → ((kind : FaultKind) → P → Q kind) → OnRejected fault P → OnKind fault Q
on_each_kind (Rejected kind left) f h = f kind h
on_each_kind (Memory e) f h = tt

-- Two facts about a successful result imply what they imply for each value.
pub ok_from_both : {X E : Type 0} (r : Result X E) (P Q R : X → Type 0) → ((x : X) → P x → Q x → R x) → IfOk r P → IfOk r Q → IfOk r R
ok_from_both (Ok x) P Q R h p q = h x p q
ok_from_both (Err e) P Q R h p q = tt

-- A list is empty exactly if its length is 0.

pub length-none : (xs : List ℕ) → (length xs == 0) ≡ true → xs ≡ []
length-none [] e = refl
length-none (x ∷ xs) e = absurd (false≢true (sym (ne_eqb (length (x ∷ xs)) 0 (λ z. omega (arith, z))) ∙ e))

pub length-some : (xs : List ℕ) → (length xs == 0) ≡ false → xs ≢ []
length-some xs e none = false≢true (sym e ∙ ap (λ (ys : List ℕ). length ys == 0) none)
