-- The memory of tables.
use Rattle.std.proofs.Common.{◌≡◌, ℕ, ◌+◌, ◌-◌, ◌≤◌, ◌<◌, true, false, List, [], ◌∷◌, ◌++◌, Option, Some, None, Result, Ok, Err, IfErr, IsErrAnd, IfSome, IsSome, MatchOption, option_map, refl, sym, ap, ◌∙◌, subst, arith}
use Rattle.std.proofs.lemmas.List.Sums.{sum_by-append}
use Rattle.regress_tables.specs.Memory.{stored_bytes, stored_in}
use Rattle.regress_tables.specs.declared.table.Table.{Table}

-- one more table
pub stored-more : (tables tables' : List Table) (t : Table) → tables' ≡ tables ++ t ∷ [] → stored_bytes tables' ≡ stored_bytes tables + stored_in t
stored-more tables tables' t is = ap stored_bytes is ∙ sum_by-append stored_in tables (t ∷ []) ∙ omega arith

-- the room that is left after more is stored
pub room-left : (room left left' : Option ℕ) (stored bytes stored' : ℕ) → left ≡ option_map (λ most. most - stored) room → IfSome room (λ most. stored ≤ most) →
    IfSome left (λ most. bytes ≤ most) → left' ≡ option_map (λ most. most - bytes) left → stored' ≡ stored + bytes →
    (left' ≡ option_map (λ most. most - stored') room) × IfSome room (λ most. stored' ≤ most)
room-left None left left' stored bytes stored' is within fits is' sum = (is' ∙ ap (option_map (λ most. most - bytes)) is, tt)
room-left (Some most) left left' stored bytes stored' is within fits is' sum =
    let fit : bytes ≤ most - stored = subst (λ (o : Option ℕ). IfSome o (λ m. bytes ≤ m)) is fits in
    let rest : (most - stored) - bytes ≡ most - stored' = omega (arith, sum) in
    (is' ∙ ap (option_map (λ m. m - bytes)) is ∙ ap Some rest, omega (arith, sum, fit))

-- room is limited only if it was
pub room-limited : (room left : Option ℕ) (stored : ℕ) → left ≡ option_map (λ most. most - stored) room → IsSome left → IsSome room
room-limited None left stored is some = subst IsSome is some
room-limited (Some most) left stored is some = refl

-- an error is passed on
pub passed_on : {X E : Type 0} (P : E → Type 0) (out : Result X E) (e : E) → IsErrAnd out (λ x. x ≡ e) → P e → IfErr out P
passed_on P (Ok y) e given known = tt
passed_on P (Err x) e given known = subst P (sym given) known

-- Room is limited only if the worst case takes more than the memory.
pub limited-more : (room : Option ℕ) (memory worst : ℕ) → MatchOption room (worst ≤ memory) (λ most. (most ≡ memory) × (memory < worst)) → IsSome room → memory < worst
limited-more None memory worst is some = absurd (let other : false ≡ true = some in cc)
limited-more (Some most) memory worst is some = is.1

-- Then what is stored is within the memory.
pub within-memory : (room : Option ℕ) (memory worst stored : ℕ) → MatchOption room (worst ≤ memory) (λ most. (most ≡ memory) × (memory < worst)) →
    IfSome room (λ most. stored ≤ most) → memory < worst → stored ≤ memory
within-memory None memory worst stored is within more = absurd (omega (arith, is, more))
within-memory (Some most) memory worst stored is within more = omega (arith, is.0, within)
