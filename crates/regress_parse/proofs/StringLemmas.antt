-- A stable sort by descending length is unique.
use Rattle.std.proofs.Common.{◌≡◌, ℕ, zero, suc, ◌+◌, ◌<◌, ◌≤◌, inl, inr, Bool, true, false, cond, ◌==◌, List, [], ◌∷◌, ◌++◌, length, filter, get_or, Vec, All, refl, sym, ap, ap₂, ◌∙◌, subst, arith, add-one, append-nil}
use Rattle.std.proofs.lemmas.List.Elements.{All-nil, All-cons, All-head, All-tail, All-append, All-filter, All-weaker, filter-append, filter_agree}
use Rattle.std.proofs.lemmas.List.{length-append}
use Rattle.std.specs.List.{concat}
use Rattle.std.proofs.lemmas.Bool.Decides.{nat_tests}
use Rattle.std.proofs.lemmas.Bool.{cases_order, cases_lt}
use Rattle.std.specs.List.Sorted.{ties, IsSortedBy, IsStableBy}
use Rattle.std.specs.Ordering.{nat_cmp, is_lt}
use Rattle.std.specs.declared.alloc.Global.{Global}
use Rattle.std.specs.declared.cmp.Reverse.{Reverse}
use Rattle.regress_syntax.specs.Meaning.{shorter_than, longest_first}
use Rattle.regress_classes.specs.ClassViews.{strings_of}

abbrev IsShorter : ℕ → List ℕ → Type 0
IsShorter n s = length s < n

abbrev IsNoLonger : ℕ → List ℕ → Type 0
IsNoLonger n s = length s ≤ n

-- No string is longer than one before it.
abbrev AreFalling : List (List ℕ) → Type 0
AreFalling [] = Unit {0}
AreFalling (s ∷ ss) = All (IsNoLonger (length s)) ss × AreFalling ss

-- the strings of length n
abbrev of_length : ℕ → List (List ℕ) → List (List ℕ)
of_length n = filter (λ s. length s == n)

-- ---- the strings of each length

-- No string has length n if all are shorter.
none_of_length : (n : ℕ) (ss : List (List ℕ)) → All (IsShorter n) ss → of_length n ss ≡ []
none_of_length n [] h = refl
none_of_length n (s ∷ ss) h =
    let other : (length s == n) ≡ false = let less : length s < n = All-head (IsShorter n) s ss h in grind (arith, nat_tests, less) in
    rw other (none_of_length n ss (All-tail (IsShorter n) s ss h))

longer_than_all : (n : ℕ) (s : List ℕ) (ss : List (List ℕ)) → length s < n → AreFalling (s ∷ ss) → of_length n (s ∷ ss) ≡ []
longer_than_all n s ss h falls =
    none_of_length n (s ∷ ss)
    (All-cons (IsShorter n) s ss h (All-weaker (IsNoLonger (length s)) (IsShorter n) (λ other le. omega (arith, le, h)) ss falls.0))

of_own_length : (s : List ℕ) (ss : List (List ℕ)) → of_length (length s) (s ∷ ss) ≡ s ∷ of_length (length s) ss
of_own_length s ss = let same : (length s == length s) ≡ true = grind (arith, nat_tests) in rw same refl

past_own_length : (n : ℕ) (s : List ℕ) (ss us : List (List ℕ)) → of_length n (s ∷ ss) ≡ of_length n (s ∷ us) → of_length n ss ≡ of_length n us
past_own_length n s ss us e = by (length s == n) e
  where
    by : (b : Bool) → cond b (s ∷ of_length n ss) (of_length n ss) ≡ cond b (s ∷ of_length n us) (of_length n us) →
        of_length n ss ≡ of_length n us
    by true h = cc
    by false h = h

-- Two descending lists with the same strings of each occurring length are equal.
one_falling : (P : List ℕ → Type 0) (ss us : List (List ℕ)) → All P ss → All P us → AreFalling ss → AreFalling us →
    ((x : List ℕ) → P x → of_length (length x) ss ≡ of_length (length x) us) → ss ≡ us
one_falling P [] [] hs ks f g same = refl
one_falling P [] (u ∷ us) hs ks f g same = let e = same u (All-head P u us ks) ∙ of_own_length u us in cc
one_falling P (s ∷ ss) [] hs ks f g same = let e = sym (same s (All-head P s ss hs)) ∙ of_own_length s ss in cc
one_falling P (s ∷ ss) (u ∷ us) hs ks f g same =
    let h = same s (All-head P s ss hs) in
    let k = same u (All-head P u us ks) in
    elim (cases_order (length s) (length u)) [
      | inl e ↦
          let heads = sym (of_own_length s ss) ∙ h ∙ ap (λ n. of_length n (u ∷ us)) e ∙ of_own_length u us in
          let first : s ≡ u = cc in
          ap₂ (λ x xs. x ∷ xs) first
          (one_falling P ss us (All-tail P s ss hs) (All-tail P u us ks) f.1 g.1
          (λ x holds. past_own_length (length x) s ss us (same x holds ∙ ap (λ y. of_length (length x) (y ∷ us)) (sym first))))
      | inr (inl less) ↦ let e = sym (longer_than_all (length u) s ss less f) ∙ k ∙ of_own_length u us in cc
      | inr (inr more) ↦ let e = sym (longer_than_all (length s) u us more g) ∙ sym h ∙ of_own_length s ss in cc
    ]

-- ---- strings by descending length

All-shorter_than : (P : List ℕ → Type 0) (n : ℕ) (ss : List (List ℕ)) → All P ss → All P (shorter_than n ss)
All-shorter_than P zero ss hs = All-nil P
All-shorter_than P (suc n) ss hs =
    All-append P (of_length n ss) (shorter_than n ss) (All-filter (λ s. length s == n) P ss hs) (All-shorter_than P n ss hs)

pub All-longest_first : (P : List ℕ → Type 0) (ss : List (List ℕ)) → All P ss → All P (longest_first ss)
All-longest_first P ss hs = All-shorter_than P (length (concat ss) + 1) ss hs

abbrev HasLength : ℕ → List ℕ → Type 0
HasLength n s = length s ≡ n

all_of_length : (n : ℕ) (ss : List (List ℕ)) → All (HasLength n) (of_length n ss)
all_of_length n [] = All-nil (HasLength n)
all_of_length n (s ∷ ss) = by (length s == n) refl (all_of_length n ss)
  where
    by : (b : Bool) → (length s == n) ≡ b → All (HasLength n) (of_length n ss) →
        All (HasLength n) (cond b (s ∷ of_length n ss) (of_length n ss))
    by true e rest = All-cons (HasLength n) s (of_length n ss) (grind (arith, nat_tests, e)) rest
    by false e rest = rest

all_shorter : (n : ℕ) (ss : List (List ℕ)) → All (IsShorter n) (shorter_than n ss)
all_shorter zero ss = All-nil (IsShorter 0)
all_shorter (suc n) ss =
    All-append (IsShorter (suc n)) (of_length n ss) (shorter_than n ss)
    (All-weaker (HasLength n) (IsShorter (suc n)) (λ s e. omega (arith, e)) (of_length n ss) (all_of_length n ss))
    (All-weaker (IsShorter n) (IsShorter (suc n)) (λ s less. omega (arith, less)) (shorter_than n ss) (all_shorter n ss))

one_length_falls : (n : ℕ) (ss us : List (List ℕ)) → All (HasLength n) ss → All (IsShorter n) us → AreFalling us → AreFalling (ss ++ us)
one_length_falls n [] us h k f = f
one_length_falls n (s ∷ ss) us h k f =
    let e : length s ≡ n = All-head (HasLength n) s ss h in
    let rest = All-tail (HasLength n) s ss h in (
      All-append (IsNoLonger (length s)) ss us
          (All-weaker (HasLength n) (IsNoLonger (length s)) (λ t same. omega (arith, e, same)) ss rest)
          (All-weaker (IsShorter n) (IsNoLonger (length s)) (λ t less. omega (arith, e, less)) us k),
      one_length_falls n ss us rest k f,
    )

shorter_than_falls : (n : ℕ) (ss : List (List ℕ)) → AreFalling (shorter_than n ss)
shorter_than_falls zero ss = tt
shorter_than_falls (suc n) ss =
    one_length_falls n (of_length n ss) (shorter_than n ss) (all_of_length n ss) (all_shorter n ss) (shorter_than_falls n ss)

-- All strings have length n.
all_have_length : (n : ℕ) (ss : List (List ℕ)) → All (HasLength n) ss → of_length n ss ≡ ss
all_have_length n [] h = refl
all_have_length n (s ∷ ss) h =
    let own : (length s == n) ≡ true = let e : length s ≡ n = All-head (HasLength n) s ss h in grind (arith, nat_tests, e) in
    rw own (ap (λ xs. s ∷ xs) (all_have_length n ss (All-tail (HasLength n) s ss h)))

-- No string has length k if all have another length.
none_have_length : (k n : ℕ) (ss : List (List ℕ)) → k < n → All (HasLength n) ss → of_length k ss ≡ []
none_have_length k n [] l h = refl
none_have_length k n (s ∷ ss) l h =
    let other : (length s == k) ≡ false = let e : length s ≡ n = All-head (HasLength n) s ss h in grind (arith, nat_tests, e, l) in
    rw other (none_have_length k n ss l (All-tail (HasLength n) s ss h))

shorter_than_of_length : (k n : ℕ) (ss : List (List ℕ)) → k < n → of_length k (shorter_than n ss) ≡ of_length k ss
shorter_than_of_length k zero ss l = absurd (omega (arith, l))
shorter_than_of_length k (suc n) ss l =
    filter-append (λ s. length s == k) (of_length n ss) (shorter_than n ss)
    ∙ elim (cases_lt k n) [
      | inl less ↦
          ap₂ (λ xs ys. xs ++ ys) (none_have_length k n (of_length n ss) less (all_of_length n ss)) (shorter_than_of_length k n ss less)
      | inr more ↦
          let e : n ≡ k = omega (arith, more, l) in
          subst (λ m. of_length m (of_length n ss) ++ of_length m (shorter_than n ss) ≡ of_length m ss) e
          (ap₂ (λ xs ys. xs ++ ys) (all_have_length n (of_length n ss) (all_of_length n ss)) (none_of_length n (shorter_than n ss) (all_shorter n ss))
          ∙ append-nil (of_length n ss))
    ]

shorter_than_all : (ss : List (List ℕ)) → All (IsShorter (length (concat ss) + 1)) ss
shorter_than_all [] = All-nil (IsShorter 1)
shorter_than_all (s ∷ ss) =
    let whole = length-append s (concat ss) in
    All-cons (IsShorter (length (concat (s ∷ ss)) + 1)) s ss (omega (arith, whole))
    (All-weaker (IsShorter (length (concat ss) + 1)) (IsShorter (length (concat (s ∷ ss)) + 1)) (λ t less. omega (arith, less, whole)) ss (shorter_than_all ss))

longest_first_of_length : (n : ℕ) (ss : List (List ℕ)) → of_length n (longest_first ss) ≡ of_length n ss
longest_first_of_length n ss =
    let bound = length (concat ss) + 1 in
    elim (cases_lt n bound) [
      | inl less ↦ shorter_than_of_length n bound ss less
      | inr more ↦
          none_of_length n (longest_first ss)
          (All-weaker (IsShorter bound) (IsShorter n) (λ s less. omega (arith, less, more)) (longest_first ss) (all_shorter bound ss))
          ∙ sym (none_of_length n ss (All-weaker (IsShorter bound) (IsShorter n) (λ s less. omega (arith, less, more)) ss (shorter_than_all ss)))
    ]

-- A nonempty list has a longest string.
pub some_longest : (s : List ℕ) (ss : List (List ℕ)) → longest_first (s ∷ ss) ≡ [] → ⊥
some_longest s ss none =
    let e = ap (of_length (length s)) (sym none) ∙ longest_first_of_length (length s) (s ∷ ss) ∙ of_own_length s ss in cc

longest_first_is : (P : List ℕ → Type 0) (ss us : List (List ℕ)) → All P ss → All P us → AreFalling us →
    ((x : List ℕ) → P x → of_length (length x) us ≡ of_length (length x) ss) → us ≡ longest_first ss
longest_first_is P ss us hs ks f same =
    one_falling P us (longest_first ss) ks (All-longest_first P ss hs) f (shorter_than_falls (length (concat ss) + 1) ss)
    (λ x holds. same x holds ∙ sym (longest_first_of_length (length x) ss))

-- ---- the result of the sort

past_first : (v : Vec ℕ Global) (vs : List (Vec ℕ Global)) (k : ℕ) (d : Vec ℕ Global) → get_or (v ∷ vs) (k + 1) d ≡ get_or vs k d
past_first v vs k d = ap (λ i. get_or (v ∷ vs) i d) (add-one k)

-- A list is descending if no element is longer than the one before it.
adjacent_fall : (vs : List (Vec ℕ Global)) → ((k : ℕ) (d : Vec ℕ Global) → k + 1 < length vs →
    length (get_or vs (k + 1) d).items ≤ length (get_or vs k d).items) → AreFalling (strings_of vs)
adjacent_fall [] h = tt
adjacent_fall (v ∷ []) h = (All-nil (IsNoLonger (length v.items)), tt)
adjacent_fall (v ∷ w ∷ vs) h =
    let rest = adjacent_fall (w ∷ vs) (λ k d below.
    omega (
      arith,
      h (k + 1) d (omega (arith, below)),
      ap (λ (x : Vec ℕ Global). length x.items) (past_first v (w ∷ vs) (k + 1) d),
      ap (λ (x : Vec ℕ Global). length x.items) (past_first v (w ∷ vs) k d),
    )) in
    let first : length w.items ≤ length v.items = h 0 v (omega arith) in (
      All-cons (IsNoLonger (length v.items)) w.items (strings_of vs) first
          (All-weaker (IsNoLonger (length w.items)) (IsNoLonger (length v.items)) (λ u le. omega (arith, le, first)) (strings_of vs) rest.0),
      rest,
    )

-- The strings of one length, among those of the code.
of_length-items : (n : ℕ) (vs : List (Vec ℕ Global)) → of_length n (strings_of vs) ≡ strings_of (filter (λ v. length v.items == n) vs)
of_length-items n [] = refl
of_length-items n (v ∷ vs) =
    elim (length v.items == n) as (λ b.
    cond b (v.items ∷ of_length n (strings_of vs)) (of_length n (strings_of vs))
    ≡ strings_of (cond b (v ∷ filter (λ v. length v.items == n) vs) (filter (λ v. length v.items == n) vs)))
    [ true ↦ ap (λ xs. v.items ∷ xs) (of_length-items n vs) | false ↦ of_length-items n vs ]

-- The string is one of the code's.
abbrev IsHeld : List ℕ → Type 0
IsHeld s = (v : Vec ℕ Global) × (v.items ≡ s)

all_held : (vs : List (Vec ℕ Global)) → All IsHeld (strings_of vs)
all_held [] = All-nil IsHeld
all_held (v ∷ vs) = All-cons IsHeld v.items (strings_of vs) (v, refl) (all_held vs)

-- the key by which the code sorts, and the comparison that it results in: a longer string is less
abbrev pub length_key : Vec ℕ Global → Reverse ℕ
length_key v = record { 0 = length v.items }

abbrev is_longer : Vec ℕ Global → Vec ℕ Global → Bool
is_longer v w = is_lt (nat_cmp (length w.items) (length v.items))

ties-length : (v w : Vec ℕ Global) → ties is_longer v w ≡ (length w.items == length v.items)
ties-length v w = grind (arith, nat_tests)

of_length-tied : (v : Vec ℕ Global) (ws : List (Vec ℕ Global)) →
    of_length (length v.items) (strings_of ws) ≡ strings_of (filter (ties is_longer v) ws)
of_length-tied v ws =
    of_length-items (length v.items) ws
    ∙ ap strings_of (filter_agree (λ w. length w.items == length v.items) (ties is_longer v) (λ w. sym (ties-length v w)) ws)

sorted_fall : (ws : List (Vec ℕ Global)) → IsSortedBy is_longer ws → AreFalling (strings_of ws)
sorted_fall ws sorted =
    adjacent_fall ws (λ k d below. let up = sorted k d (omega arith) below in grind (arith, nat_tests, up))

pub sorted_longest_first : (vs ws : List (Vec ℕ Global)) → IsSortedBy is_longer ws → IsStableBy is_longer vs ws →
    strings_of ws ≡ longest_first (strings_of vs)
sorted_longest_first vs ws sorted stable =
    longest_first_is IsHeld (strings_of vs) (strings_of ws) (all_held vs) (all_held ws) (sorted_fall ws sorted)
    (λ x (v, is). ap (λ n. of_length n (strings_of ws)) (ap length (sym is))
    ∙ of_length-tied v ws ∙ ap strings_of (stable v) ∙ sym (of_length-tied v vs)
    ∙ ap (λ n. of_length n (strings_of vs)) (ap length is))
