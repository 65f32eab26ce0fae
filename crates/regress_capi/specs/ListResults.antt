-- The results of the calls that list the matches in a text.
use Rattle.std.specs.Prelude.{◌≡◌, ◌≢◌, ◌<◌, ◌+◌, ◌-◌, ◌*◌, ◌^◌, ◌++◌, ℕ, List, [], Option, Some, drop, length, min, take}
use Rattle.regress_front.specs.WellFormed.{Capture}
use Rattle.regress_capi.specs.declared.match_list.MatchList.{MatchList}

-- how many numbers a match has: two for itself and two for each group
abbrev pub width_of : List Capture → ℕ
width_of groups = min (2 * (length groups + 1)) (2 ^ 64 - 1)

-- the numbers of the matches that were not returned yet
abbrev pub left : MatchList → List ℕ
left l = drop l.returned l.ends.items

-- how many numbers the list returns at a time
abbrev pub width : MatchList → ℕ
width l = l.width

-- the numbers of the next match
abbrev pub next_of : MatchList → List ℕ
next_of l = take (width l) (left l)

-- The list has the numbers of matches with this property.
pub record IsListOf (P : List ℕ → Type 0) (expected : ℕ) (l : MatchList) : Type 0 where
  pub numbers : P (left l)
  pub width : width l ≡ expected

-- The status of a call that makes a list, and the handle before and after. `Asked` states that the arguments are valid, `P`
-- which numbers are listed, `expected` how many a match has, `Costly` that the search may be out of steps, and `Large` that its
-- tables take more memory than they may.
pub data ListResult (Asked : Type 0) (P : List ℕ → Type 0) (expected : ℕ) (Costly Large : Type 0) (old : Option MatchList) :
    (status : ℕ) (new : Option MatchList) → Type 0 where
  -- the handle is that of the list
  listed : {l : MatchList} → Asked → IsListOf P expected l → ListResult Asked P expected Costly Large old 0 (Some l)
  -- an allocation failed
  list_out_of_memory : Asked → ListResult Asked P expected Costly Large old 2 old
  -- the arguments are invalid
  list_bad : (Asked → ⊥) → ListResult Asked P expected Costly Large old 4 old
  -- the search takes more steps than allowed
  list_out_of_steps : Asked → Costly → ListResult Asked P expected Costly Large old 7 old
  -- the search needs more memory than allowed
  list_too_much_memory : Asked → Large → ListResult Asked P expected Costly Large old 8 old

-- The numbers of the next match are at the start of the buffer, and the list goes on after them.
pub record IsReturned (old : MatchList) (spans : List ℕ) (needed : ℕ) (new : MatchList) (after : List ℕ) : Type 0 where
  pub some : next_of old ≢ []
  pub count : needed ≡ length (next_of old)
  pub written : after ≡ next_of old ++ drop (length (next_of old)) spans
  pub rest : left new ≡ drop (width old) (left old)
  pub width : width new ≡ width old

-- nothing is written, and the list is as before
pub record IsKept (old : MatchList) (spans : List ℕ) (new : MatchList) (after : List ℕ) : Type 0 where
  pub written : after ≡ spans
  pub rest : left new ≡ left old
  pub width : width new ≡ width old

-- The status of a call for the next match, with the list and the buffer before and after, and `needed`.
pub data NextResult (old : MatchList) (spans : List ℕ) (needed : ℕ) (new : MatchList) (after : List ℕ) : (status : ℕ) → Type 0 where
  -- the match is written
  returned : IsReturned old spans needed new after → NextResult old spans needed new after 0
  -- no match is left
  none_left : next_of old ≡ [] → needed ≡ 0 → IsKept old spans new after → NextResult old spans needed new after 1
  -- the buffer is too small
  next_little : length spans < length (next_of old) → needed ≡ length (next_of old) → IsKept old spans new after →
      NextResult old spans needed new after 3

-- what a call for the next match does to a handle
abbrev pub Returns : (old : MatchList) (spans : List ℕ) (needed : ℕ) (new : Option MatchList) (after : List ℕ) (status : ℕ) → Type 0
Returns old spans needed new after status = (l : MatchList) × (new ≡ Some l) × NextResult old spans needed l after status
