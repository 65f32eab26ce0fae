-- The bounds for the steps of searches in one text.
use Rattle.std.proofs.Common.{◌≡◌, ℕ, Bool, true, false, List, Option, Some, None, IfSome, refl}
use Rattle.std.specs.Prelude.{if◌then◌else◌, is_some}
use Rattle.regress_match.specs.Matcher.{bound_in, fits}

-- A bound that fits is the bound of the pattern.
pub some_fits : (limit bound : Option ℕ) (text : List ℕ) → is_some (bound_in limit bound text) ≡ true →
    (is_some bound ≡ true) × (bound_in limit bound text ≡ bound)
some_fits limit None text some = absurd (cc)
some_fits limit (Some n) text some = by (fits limit n text) some
  where
    by : (b : Bool) → is_some (if b then Some n else None) ≡ true → (is_some (Some n) ≡ true) × ((if b then Some n else None) ≡ Some n)
    by true some = (refl, refl)
    by false some = absurd (cc)

-- What holds of a bound holds of it where it fits.
pub if_fits : (limit bound : Option ℕ) (text : List ℕ) (P : ℕ → Type 0) → IfSome bound P → IfSome (bound_in limit bound text) P
if_fits limit None text P holds = tt
if_fits limit (Some n) text P holds = by (fits limit n text)
  where
    by : (b : Bool) → IfSome (if b then Some n else None) P
    by true = holds
    by false = tt
