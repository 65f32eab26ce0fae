-- States in which at most one group of each name is set.
use Rattle.std.proofs.Common.{◌≡◌, ℕ, zero, suc, ◌+◌, ◌-◌, ◌<◌, ◌≤◌, ◌⊎◌, inl, inr, ⊎_elim, nat_le, nat_lt, Bool, true, false, ◌&&◌, List, [], ◌∷◌, ◌++◌, length, get_or, Option, Some, None, is_some, if◌then◌else◌, refl, sym, ap, subst, ◌∙◌, arith}
use Rattle.std.proofs.Math.ListN.{replicate}
use Rattle.std.proofs.lemmas.Bool.{or_parts, cases_lt, false≢true}
use Rattle.std.proofs.lemmas.Bool.Decides.{nat_tests}
use Rattle.std.proofs.lemmas.List.{get_or_append_left, get_or-append-add, get_or-set_other, length-append}
use Rattle.std.proofs.lemmas.Slice.Eq.{bytes_eq-Decides}
use Rattle.std.specs.List.{list_any}
use Rattle.regress_tree.specs.Reading.{Direction}
use Rattle.regress_tree.specs.Repetition.{unset_from, unset}
use Rattle.regress_tree.specs.Steps.{CaptureSpan, MatchState, IsStateOf, captured}
use Rattle.regress_tree.proofs.lemmas.Simulation.{IsReached}
use Rattle.regress_syntax.specs.SameNames.{same_name, share_name}
use Rattle.regress_syntax.specs.Syntax.{Name, is_named}
use Rattle.regress_ecma.proofs.Bridge.{IsKept, IsOnward-refl, reached_by_both, unset-within}
use Rattle.regress_ecma.proofs.Groups.{captured-reached, returned}

-- ---- names

same_name-is : (a b : Option Name) → same_name a b ≡ true → (name : Name) × (a ≡ Some name) × (b ≡ Some name)
same_name-is None b e = absurd (false≢true e)
same_name-is (Some name) None e = absurd (false≢true e)
same_name-is (Some name) (Some other) e = (name, refl, ap Some ((bytes_eq-Decides other name).0 e))

pub same_name-sym : (a b : Option Name) → same_name a b ≡ true → same_name b a ≡ true
same_name-sym a b e =
    let is = same_name-is a b e in
    subst (λ (x : Option Name). same_name x a ≡ true) (sym is.2)
    (subst (λ (y : Option Name). same_name (Some is.0) y ≡ true) (sym is.1) ((bytes_eq-Decides is.0 is.0).1 refl))

-- Two groups that a name fits have the same one.
pub same_name-both : (name : Name) (a b : Option Name) → is_named name a ≡ true → is_named name b ≡ true → same_name a b ≡ true
same_name-both name None b first second = absurd (false≢true first)
same_name-both name (Some x) b first second =
    subst (λ (y : Name). is_named y b ≡ true) (sym ((bytes_eq-Decides x name).0 first)) second

-- Lists without a common name have none at any two places.
none_of_list : (name : Option Name) (xs : List (Option Name)) → list_any (same_name name) xs ≡ false → (i : ℕ) → i < length xs →
    same_name name (get_or xs i None) ≡ false
none_of_list name [] none i within = absurd (omega arith)
none_of_list name (x ∷ xs) none zero within = (or_parts _ _ none).0
none_of_list name (x ∷ xs) none (suc i) within = none_of_list name xs ((or_parts (same_name name x) _ none).1) i (omega arith)

none_shared : (xs ys : List (Option Name)) → share_name xs ys ≡ false → (i j : ℕ) → i < length xs → j < length ys →
    same_name (get_or xs i None) (get_or ys j None) ≡ false
none_shared [] ys none i j h k = absurd (omega arith)
none_shared (x ∷ xs) ys none zero j h k = none_of_list x ys ((or_parts _ _ none).0) j k
none_shared (x ∷ xs) ys none (suc i) j h k = none_shared xs ys ((or_parts (list_any (same_name x) ys) _ none).1) i j (omega arith) k

-- ---- captures

-- whether the group with this number, from 0, is set
abbrev pub is_set : MatchState → ℕ → Bool
is_set s i = is_some (get_or s.captures i None)

unset-get_or : (k start end i : ℕ) (cs : List (Option CaptureSpan)) →
    get_or (unset_from k start end cs) i None ≡ (if nat_le start (k + i) && nat_lt (k + i) end then None else get_or cs i None)
unset-get_or k start end i [] = either_none (nat_le start (k + i) && nat_lt (k + i) end)
  where
    either_none : (b : Bool) →
        get_or {A = Option CaptureSpan} [] i None ≡ (if b then None else get_or {A = Option CaptureSpan} [] i None)
    either_none true = refl
    either_none false = refl
unset-get_or k start end zero (c ∷ cs) =
    let here : k + 0 ≡ k = omega arith in
    ap (λ (j : ℕ). if nat_le start j && nat_lt j end then None else c) (sym here)
unset-get_or k start end (suc i) (c ∷ cs) =
    let there : (k + 1) + i ≡ k + suc i = omega arith in
    unset-get_or (k + 1) start end i cs ∙ ap (λ (j : ℕ). if nat_le start j && nat_lt j end then None else get_or cs i None) there

-- A group that is set after unsetting some was set, and is none of them.
pub unset-is_set : (start end i : ℕ) (s : MatchState) → is_set (unset start end s) i ≡ true → (is_set s i ≡ true) × (start ≤ i → i < end → ⊥)
unset-is_set start end i s e =
    by_test (nat_le start (0 + i) && nat_lt (0 + i) end) refl (ap is_some (sym (unset-get_or 0 start end i s.captures)) ∙ e)
  where
    by_test : (b : Bool) → (nat_le start (0 + i) && nat_lt (0 + i) end) ≡ b → is_some (if b then None else get_or s.captures i None) ≡ true →
        (is_set s i ≡ true) × (start ≤ i → i < end → ⊥)
    by_test true is e = absurd (false≢true e)
    by_test false is e = (e, λ low high. false≢true (sym is ∙ inside low high))
      where
        inside : start ≤ i → i < end → (nat_le start (0 + i) && nat_lt (0 + i) end) ≡ true
        inside low high = grind (arith, nat_tests)

pub captured-is_set : (n from i : ℕ) (s : MatchState) → is_set (captured n from s) i ≡ true → (i ≡ n → ⊥) → is_set s i ≡ true
captured-is_set n from i s e other = sym (ap is_some (get_or-set_other s.captures n i _ None other)) ∙ e

pub replicate-is_set : (n i : ℕ) → is_some (get_or {A = Option CaptureSpan} (replicate n None) i None) ≡ false
replicate-is_set zero i = refl
replicate-is_set (suc n) zero = refl
replicate-is_set (suc n) (suc i) = replicate-is_set n i

-- ---- parts of the pattern

-- The names are those of all groups, numbered from 0. A part has the groups n to n + k - 1.
module _ (all : List (Option Name)) (text : List ℕ) where
  abbrev pub HaveSameName : ℕ → ℕ → Type 0
  HaveSameName i j = same_name (get_or all i None) (get_or all j None) ≡ true

  abbrev pub IsIn : (n k i : ℕ) → Type 0
  IsIn n k i = (n ≤ i) × (i < n + k)

  in_or_not : (n k i : ℕ) → IsIn n k i ⊎ (n ≤ i → i < n + k → ⊥)
  in_or_not n k i =
      ⊎_elim (λ (below : i < n). inr (λ low high. omega arith))
      (λ (from : n ≤ i).
      ⊎_elim (λ (within : i < n + k). inl (from, within)) (λ (past : n + k ≤ i). inr (λ low high. omega arith)) (cases_lt i (n + k)))
      (cases_lt i n)

  -- At most one group of each name is set.
  pub record IsApart (s : MatchState) : Type 0 where
    pub one : (i j : ℕ) → HaveSameName i j → is_set s i ≡ true → is_set s j ≡ true → i ≡ j

  -- a state before a part is matched: no group with a name of the part is set
  pub record IsBefore (n k : ℕ) (s : MatchState) : Type 0 where
    pub state : IsStateOf text s
    pub apart : IsApart s
    pub free : (i j : ℕ) → IsIn n k i → HaveSameName i j → is_set s j ≡ true → ⊥

  -- a state reached from another one by a part: only groups of the part have been set
  pub record IsAfter (d : Direction) (n k : ℕ) (s t : MatchState) : Type 0 where
    pub reached : IsReached text d s t
    pub apart : IsApart t
    pub others : (j : ℕ) → (n ≤ j → j < n + k → ⊥) → is_set t j ≡ true → is_set s j ≡ true

  -- a state in a loop: groups of the part may be set, but no other group with their names
  pub record IsBetween (n k : ℕ) (s : MatchState) : Type 0 where
    pub state : IsStateOf text s
    pub apart : IsApart s
    pub free : (i j : ℕ) → IsIn n k i → (n ≤ j → j < n + k → ⊥) → HaveSameName i j → is_set s j ≡ true → ⊥

  -- no group of one part has the name of one of the other
  abbrev pub AreClear : (n k n' k' : ℕ) → Type 0
  AreClear n k n' k' = (i j : ℕ) → IsIn n k i → IsIn n' k' j → HaveSameName i j → ⊥

  pub clear-sym : (n k n' k' : ℕ) → AreClear n k n' k' → AreClear n' k' n k
  clear-sym n k n' k' clear i j h h' same = clear j i h' h (same_name-sym (get_or all i None) (get_or all j None) same)

  pub before_part : (n k n' k' : ℕ) → n ≤ n' → n' + k' ≤ n + k → (s : MatchState) → IsBefore n k s → IsBefore n' k' s
  before_part n k n' k' low high s before = record {
    state = before.state;
    apart = before.apart;
    free = λ i j h. before.free i j (omega (arith, h.0), omega (arith, h.1));
  }

  pub after_part : (d : Direction) (n k n' k' : ℕ) → n ≤ n' → n' + k' ≤ n + k → (s t : MatchState) → IsAfter d n' k' s t → IsAfter d n k s t
  after_part d n k n' k' low high s t after = record {
    reached = after.reached;
    apart = after.apart;
    others = λ j out. after.others j (λ from below. out (omega arith) (omega arith));
  }

  pub after_both : (d : Direction) (n k : ℕ) (s t u : MatchState) → IsAfter d n k s t → IsAfter d n k t u → IsAfter d n k s u
  after_both d n k s t u first second = record {
    reached = reached_by_both text d s t u first.reached second.reached;
    apart = second.apart;
    others = λ j out set. first.others j out (second.others j out set);
  }

  -- after a part, before one with other names
  pub next_part : (d : Direction) (n k n' k' : ℕ) → AreClear n' k' n k → (s t : MatchState) → IsBefore n' k' s → IsAfter d n k s t → IsBefore n' k' t
  next_part d n k n' k' clear s t before after = record {
    state = after.reached.state;
    apart = after.apart;
    free = λ i j h same set.
        ⊎_elim (λ (inside : IsIn n k j). clear i j h inside same) (λ out. before.free i j h same (after.others j out set)) (in_or_not n k j);
  }

  untouched_apart : (s t : MatchState) → t.captures ≡ s.captures → IsApart s → IsApart t
  untouched_apart s t is apart = record {
    one = λ i j same set set'. apart.one i j same (sym (same_set i) ∙ set) (sym (same_set j) ∙ set');
  }
    where
      same_set : (i : ℕ) → is_set t i ≡ is_set s i
      same_set i = ap (λ (cs : List (Option CaptureSpan)). is_some (get_or cs i None)) is

  -- The captures stay.
  pub after_untouched : (d : Direction) (n k : ℕ) (s t : MatchState) → IsApart s → IsReached text d s t → t.captures ≡ s.captures → IsAfter d n k s t
  after_untouched d n k s t apart reached is = record {
    reached = reached;
    apart = untouched_apart s t is apart;
    others = λ j out set. ap (λ (cs : List (Option CaptureSpan)). is_some (get_or cs j None)) (sym is) ∙ set;
  }

  pub after_nothing : (d : Direction) (n k : ℕ) (s : MatchState) → IsStateOf text s → IsApart s → IsAfter d n k s s
  after_nothing d n k s in' apart = record {
    reached = record { state = in'; onward = IsOnward-refl d s.position };
    apart = apart;
    others = λ j out set. set;
  }

  -- the position of the state, and the captures of another one
  pub after_returned : (d e : Direction) (n k : ℕ) (s t : MatchState) → IsStateOf text s → IsAfter e n k s t →
      IsAfter d n k s (record t { position = s.position })
  after_returned d e n k s t in' after = record {
    reached = returned text d e s t in' after.reached;
    apart = record { one = after.apart.one };
    others = after.others;
  }

  -- the group n around a part, which does not have its name
  pub after_captured : (d : Direction) (n k : ℕ) → AreClear n 1 (n + 1) k → (s t : MatchState) → IsBefore n (1 + k) s → IsAfter d (n + 1) k s t →
      IsAfter d n (1 + k) s (captured n s.position t)
  after_captured d n k clear s t before after = record {
    reached = captured-reached text d n s t before.state after.reached;
    apart = record { one = λ i j same set set'. only_one i j same set set' };
    others = λ j out set.
        after.others j (λ low high. out (omega arith) (omega arith))
        (captured-is_set n s.position j t set (λ is. out (omega arith) (omega arith)));
  }
    where
      -- No other group has the name of the group n.
      no_other : (j : ℕ) → HaveSameName n j → is_set t j ≡ true → ⊥
      no_other j same set =
          ⊎_elim (λ (inside : IsIn (n + 1) k j). clear n j (omega arith, omega arith) inside same)
          (λ out. before.free n j (omega arith, omega arith) same (after.others j out set)) (in_or_not (n + 1) k j)

      is_or_not : (i : ℕ) → (i ≡ n) ⊎ (i ≡ n → ⊥)
      is_or_not i =
          ⊎_elim (λ (below : i < n). inr (λ is. omega arith))
          (λ (from : n ≤ i). ⊎_elim (λ (past : n < i). inr (λ is. omega arith)) (λ (to : i ≤ n). inl (omega arith)) (cases_lt n i))
          (cases_lt i n)

      only_one : (i j : ℕ) → HaveSameName i j → is_set (captured n s.position t) i ≡ true → is_set (captured n s.position t) j ≡ true → i ≡ j
      only_one i j same set set' =
          ⊎_elim
          (λ (here : i ≡ n).
          ⊎_elim (λ (here' : j ≡ n). here ∙ sym here')
          (λ other'. absurd (no_other j (subst (λ (m : ℕ). HaveSameName m j) here same) (captured-is_set n s.position j t set' other')))
          (is_or_not j))
          (λ other.
          ⊎_elim
          (λ (here' : j ≡ n).
          absurd (no_other i
          (same_name-sym (get_or all i None) (get_or all n None) (subst (λ (m : ℕ). HaveSameName i m) here' same))
          (captured-is_set n s.position i t set other)))
          (λ other'. after.apart.one i j same (captured-is_set n s.position i t set other) (captured-is_set n s.position j t set' other'))
          (is_or_not j))
          (is_or_not i)

  -- ---- loops

  pub between_before : (n k : ℕ) (s : MatchState) → IsBefore n k s → IsBetween n k s
  between_before n k s before = record { state = before.state; apart = before.apart; free = λ i j h out. before.free i j h }

  pub between_kept : (d : Direction) (n k : ℕ) → IsKept text d (IsBetween n k) (IsAfter d n k)
  between_kept d n k = record {
    state = λ s between. between.state;
    reached = λ s t after. after.reached;
    itself = λ s between. after_nothing d n k s between.state between.apart;
    next = λ s t between after. record {
      state = after.reached.state;
      apart = after.apart;
      free = λ i j h out same set. between.free i j h out same (after.others j out set);
    };
    both = after_both d n k;
  }

  pub before_iteration : (n k : ℕ) (s : MatchState) → IsBetween n k s → IsBefore n k (unset n (n + k) s)
  before_iteration n k s between = record {
    state = unset-within text n (n + k) s between.state;
    apart = record {
      one = λ i j same set set'. between.apart.one i j same ((unset-is_set n (n + k) i s set).0) ((unset-is_set n (n + k) j s set').0);
    };
    free = λ i j h same set. let was = unset-is_set n (n + k) j s set in between.free i j h was.1 same was.0;
  }

  pub after_iteration : (d : Direction) (n k : ℕ) (s t : MatchState) → IsBetween n k s → IsAfter d n k (unset n (n + k) s) t → IsAfter d n k s t
  after_iteration d n k s t between after = record {
    reached = record { state = after.reached.state; onward = after.reached.onward };
    apart = after.apart;
    others = λ j out set. (unset-is_set n (n + k) j s (after.others j out set)).0;
  }

  -- ---- the start

  pub before_all : (s : MatchState) → IsStateOf text s → ((i : ℕ) → is_set s i ≡ false) → (n k : ℕ) → IsBefore n k s
  before_all s in' none n k = record {
    state = in';
    apart = record { one = λ i j same set. absurd (false≢true (sym (none i) ∙ set)) };
    free = λ i j h same set. false≢true (sym (none j) ∙ set);
  }

  -- ---- the names of a part

  -- The groups from n on have these names.
  pub record HasNames (n : ℕ) (names : List (Option Name)) : Type 0 where
    pub at : (i : ℕ) → i < length names → get_or all (n + i) None ≡ get_or names i None

  pub all_names : HasNames 0 all
  all_names = record { at = λ i within. let there : 0 + i ≡ i = omega arith in ap (λ (j : ℕ). get_or all j None) there }

  pub names_left : (n : ℕ) (xs ys : List (Option Name)) → HasNames n (xs ++ ys) → HasNames n xs
  names_left n xs ys names = record {
    at = λ i within. names.at i (omega (arith, length-append xs ys)) ∙ get_or_append_left xs ys None i within;
  }

  pub names_right : (n m : ℕ) (xs ys : List (Option Name)) → length xs ≡ m → HasNames n (xs ++ ys) → HasNames (n + m) ys
  names_right n m xs ys long names = record {
    at = λ i within.
        let there : (n + m) + i ≡ n + (length xs + i) = omega arith in
        ap (λ (j : ℕ). get_or all j None) there ∙ names.at (length xs + i) (omega (arith, length-append xs ys)) ∙ get_or-append-add xs ys i None;
  }

  pub clear_parts : (n n' : ℕ) (xs ys : List (Option Name)) → HasNames n xs → HasNames n' ys → share_name xs ys ≡ false →
      AreClear n (length xs) n' (length ys)
  clear_parts n n' xs ys names names' none i j h h' same =
      let i' : ℕ = i - n in
      let j' : ℕ = j - n' in
      let at : n + i' ≡ i = omega (arith, h.0) in
      let at' : n' + j' ≡ j = omega (arith, h'.0) in
      let within : i' < length xs = omega (arith, h.0, h.1) in
      let within' : j' < length ys = omega (arith, h'.0, h'.1) in
      let is : get_or all i None ≡ get_or xs i' None = ap (λ (m : ℕ). get_or all m None) (sym at) ∙ names.at i' within in
      let is' : get_or all j None ≡ get_or ys j' None = ap (λ (m : ℕ). get_or all m None) (sym at') ∙ names'.at j' within' in
      false≢true
      (sym (none_shared xs ys none i' j' within within')
      ∙ ap (λ (x : Option Name). same_name x (get_or ys j' None)) (sym is)
      ∙ ap (same_name (get_or all i None)) (sym is')
      ∙ same)
