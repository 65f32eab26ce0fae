-- Sets under case folding: the CharSets of ECMA-262, which have the simple case folding of each character, beside the members
-- of the syntax tree, which are closed under it. Without case folding both are the same.
use Rattle.std.proofs.Common.{◌≡◌, ℕ, ◌≤◌, nat_le, ◌==◌, Bool, true, false, not, ◌&&◌, ◌||◌, List, [], ◌∷◌, ◌++◌, map, filter, if◌then◌else◌, refl, sym, ap, ap₂, ◌∙◌, arith, ◌⊎◌, inl, inr, ⊎_elim}
use Rattle.std.proofs.lemmas.Bool.{eq-eqb, eqb-true, false≢true, and_parts}
use Rattle.std.proofs.lemmas.Bool.Decides.{nat_tests}
use Rattle.std.proofs.lemmas.List.{map-append}
use Rattle.std.proofs.lemmas.List.Folds.{list_any-append}
use Rattle.std.specs.List.{list_any}
use Rattle.regress_base.specs.Intervals.{code_point_max, is_member, is_within, intervals_of}
use Rattle.regress_base.specs.Listing.{code_points}
use Rattle.regress_base.specs.Table.{Table, is_in_closure}
use Rattle.regress_base.proofs.lemmas.Sets.{is_member-append, intervals_of-member}
use Rattle.regress_classes.specs.ClassProductions.{complement}
use Rattle.regress_ecma.specs.Notation.{CharSet}
use Rattle.regress_ecma.specs.Characters.{has_some}
use Rattle.regress_ecma.specs.Differences.{HasCaseDataOfUnicode, cased}
use Rattle.regress_ecma.proofs.IgnoredCase.{member_passes}
use Rattle.regress_ecma.proofs.Members.{has_some_from, has_some_gives}
use Rattle.regress_ecma.proofs.Sets.{same_truth}

-- ---- case folding, if it is in force

module _ (table : Table) where
  abbrev pub fold_if : Bool → ℕ → ℕ
  fold_if folds c = if folds then table.fold c else c

  -- all characters, of those with the same folding only that one
  abbrev pub all_if : Bool → CharSet
  all_if folds = if folds then intervals_of (λ c. table.fold c == c) else record { first = 0; last = code_point_max } ∷ []

  -- the foldings of the members
  abbrev pub folded_if : Bool → CharSet → CharSet
  folded_if folds set = if folds then intervals_of (λ c. has_some (λ ch. table.fold ch == c) set) else set

  -- all characters with the folding of a member
  abbrev pub closed_if : Bool → CharSet → CharSet
  closed_if folds members = if folds then intervals_of (is_in_closure table members) else members

  abbrev pub strings_if : Bool → List (List ℕ) → List (List ℕ)
  strings_if folds strings = if folds then map (map table.fold) strings else strings

  abbrev pub complement_if_folded : Bool → CharSet → CharSet
  complement_if_folded folds set = intervals_of (λ c. is_member (all_if folds) c && not (is_member set c))

-- The members are closed under case folding, and the set has the folding of each.
pub record IsFoldingOf (table : Table) (folds : Bool) (set members : CharSet) : Type 0 where
  pub has : (c : ℕ) → c ≤ code_point_max → is_member set (fold_if table folds c) ≡ is_member members c
  pub folded : folds ≡ true → (c : ℕ) → is_member set c ≡ true → table.fold c ≡ c
  pub in_range : folds ≡ true → (c : ℕ) → is_member members c ≡ true → c ≤ code_point_max

member_everything : (c : ℕ) → c ≤ code_point_max → is_member (record { first = 0; last = code_point_max } ∷ []) c ≡ true
unfolding is_member is_within
member_everything c le = grind (arith, nat_tests)

module _ (table : Table) (maps : HasCaseDataOfUnicode table) where
  fold-le : (folds : Bool) (c : ℕ) → c ≤ code_point_max → fold_if table folds c ≤ code_point_max
  fold-le true c le = maps.in_range c le
  fold-le false c le = le

  closure_is : (set : CharSet) (c : ℕ) → c ≤ code_point_max → is_in_closure table set c ≡ has_some (λ m. table.fold m == table.fold c) set
  unfolding is_in_closure
  closure_is set c le =
      let small : nat_le c code_point_max ≡ true = grind (arith, nat_tests) in
      rw small refl

  closed_member : (set : CharSet) (c : ℕ) → c ≤ code_point_max →
      is_member (closed_if table true set) c ≡ has_some (λ m. table.fold m == table.fold c) set
  closed_member set c le = intervals_of-member (is_in_closure table set) c le ∙ closure_is set c le

  closed-le : (folds : Bool) (set : CharSet) → folds ≡ true → (c : ℕ) → is_member (closed_if table folds set) c ≡ true → c ≤ code_point_max
  closed-le true set e c member = (member_passes (is_in_closure table set) c member).le
  closed-le false set e c member = absurd (false≢true e)

  -- ---- the foldings of any set

  pub folding_is : (folds : Bool) (set : CharSet) → IsFoldingOf table folds (folded_if table folds set) (closed_if table folds set)
  folding_is true set = record {
    has = λ c le.
        intervals_of-member (λ x. has_some (λ ch. table.fold ch == x) set) (table.fold c) (maps.in_range c le)
        ∙ sym (closed_member set c le);
    folded = λ e c member.
        let inside = member_passes (λ x. has_some (λ ch. table.fold ch == x) set) c member in
        let found = has_some_gives (λ ch. table.fold ch == c) set inside.passes in
        let is : table.fold found.0 ≡ c = eqb-true _ _ found.2 in
        ap table.fold (sym is) ∙ maps.idempotent found.0 ∙ is;
    in_range = closed-le true set;
  }
  folding_is false set = record {
    has = λ c le. refl;
    folded = λ e. absurd (false≢true e);
    in_range = λ e. absurd (false≢true e);
  }

  -- A set in which each character is its own folding.
  folded_already : (folds : Bool) (set : CharSet) → ((c : ℕ) → is_member set c ≡ true → table.fold c ≡ c) →
      IsFoldingOf table folds set (closed_if table folds set)
  folded_already true set own = record {
    has = λ c le.
        same_truth _ _
        (λ h. has_some_from (λ m. table.fold m == table.fold c) set (table.fold c) h (eq-eqb _ _ (maps.idempotent c)))
        (λ h.
        let found = has_some_gives (λ m. table.fold m == table.fold c) set h in
        ap (is_member set) (sym (eqb-true _ _ found.2) ∙ own found.0 found.1) ∙ found.1)
        ∙ sym (closed_member set c le);
    folded = λ e. own;
    in_range = closed-le true set;
  }
  folded_already false set own = folding_is false set

  pub uncased_is : (folds : Bool) (set : CharSet) → ((c : ℕ) → is_member set c ≡ true → is_member cased c ≡ false) →
      IsFoldingOf table folds set (closed_if table folds set)
  uncased_is folds set none =
      folded_already folds set (λ c member. maps.folded_variants c (table.fold c) (none c member) (maps.idempotent c))

  module _ (folds : Bool) (a m : CharSet) (first : IsFoldingOf table folds a m) where
    -- Closing once more changes nothing.
    still_closed : (c : ℕ) → c ≤ code_point_max → (f : Bool) → folds ≡ f → is_member (closed_if table f m) c ≡ is_member m c
    still_closed c le true e =
        closed_member m c le
        ∙ same_truth _ _
        (λ h.
        let found = has_some_gives (λ x. table.fold x == table.fold c) m h in
        let le' = first.in_range e found.0 found.1 in
        sym (first.has c le)
        ∙ ap (λ (b : Bool). is_member a (if b then table.fold c else c)) e
        ∙ ap (is_member a) (sym (eqb-true _ _ found.2))
        ∙ sym (ap (λ (b : Bool). is_member a (if b then table.fold found.0 else found.0)) e)
        ∙ first.has found.0 le' ∙ found.1)
        (λ h. has_some_from (λ x. table.fold x == table.fold c) m c h (eq-eqb _ _ refl))
    still_closed c le false e = refl

    pub closed_again : IsFoldingOf table folds a (closed_if table folds m)
    closed_again = record {
      has = λ c le. first.has c le ∙ sym (still_closed c le folds refl);
      folded = first.folded;
      in_range = closed-le folds m;
    }

    -- the members are those of the closure
    pub members_closed : folds ≡ true → (c : ℕ) → c ≤ code_point_max → is_in_closure table m c ≡ is_member m c
    members_closed e c le = sym (intervals_of-member (is_in_closure table m) c le) ∙ still_closed c le true e

    all_has : (c : ℕ) → c ≤ code_point_max → (f : Bool) → is_member (all_if table f) (fold_if table f c) ≡ true
    all_has c le true = intervals_of-member (λ x. table.fold x == x) (table.fold c) (maps.in_range c le) ∙ eq-eqb _ _ (maps.idempotent c)
    all_has c le false = member_everything c le

    all_folded : (c : ℕ) → (f : Bool) → f ≡ true → is_member (all_if table f) c ≡ true → table.fold c ≡ c
    all_folded c true e member = eqb-true _ _ (member_passes (λ x. table.fold x == x) c member).passes
    all_folded c false e member = absurd (false≢true e)

    -- the complement among all characters
    pub complement_of : IsFoldingOf table folds (complement_if_folded table folds a) (complement m)
    complement_of = record {
      has = λ c le.
          intervals_of-member (λ x. is_member (all_if table folds) x && not (is_member a x)) (fold_if table folds c) (fold-le folds c le)
          ∙ ap₂ (λ (x y : Bool). x && not y) (all_has c le folds) (first.has c le)
          ∙ sym (intervals_of-member (λ x. not (is_member m x)) c le);
      folded = λ e c member.
          let inside = member_passes (λ x. is_member (all_if table folds) x && not (is_member a x)) c member in
          all_folded c folds e (and_parts (is_member (all_if table folds) c) (not (is_member a c)) inside.passes).0;
      in_range = λ e c member. (member_passes (λ x. not (is_member m x)) c member).le;
    }

    module _ (b n : CharSet) (second : IsFoldingOf table folds b n) where
      -- the members of the first for which a test of both holds
      pub combined : (test : Bool → Bool → Bool) → ((x y : Bool) → test x y ≡ true → x ≡ true) →
          IsFoldingOf table folds (intervals_of (λ c. test (is_member a c) (is_member b c))) (intervals_of (λ c. test (is_member m c) (is_member n c)))
      combined test of_first = record {
        has = λ c le.
            intervals_of-member (λ x. test (is_member a x) (is_member b x)) (fold_if table folds c) (fold-le folds c le)
            ∙ ap₂ test (first.has c le) (second.has c le)
            ∙ sym (intervals_of-member (λ x. test (is_member m x) (is_member n x)) c le);
        folded = λ e c member.
            let inside = member_passes (λ x. test (is_member a x) (is_member b x)) c member in
            first.folded e c (of_first (is_member a c) (is_member b c) inside.passes);
        in_range = λ e c member. (member_passes (λ x. test (is_member m x) (is_member n x)) c member).le;
      }

  -- ---- unions

  closed_append : (folds : Bool) (m n : CharSet) (c : ℕ) → c ≤ code_point_max →
      is_member (closed_if table folds (m ++ n)) c ≡ (is_member (closed_if table folds m) c || is_member (closed_if table folds n) c)
  closed_append true m n c le =
      closed_member (m ++ n) c le
      ∙ list_any-append (λ iv. list_any (λ x. table.fold x == table.fold c) (code_points iv)) m n
      ∙ sym (ap₂ (λ (x y : Bool). x || y) (closed_member m c le) (closed_member n c le))
  closed_append false m n c le = is_member-append m n c

  -- a member of a union is one of the first or of the second
  in_one : (a b : CharSet) (c : ℕ) → is_member (a ++ b) c ≡ true → (is_member a c ≡ true) ⊎ (is_member b c ≡ true)
  in_one a b c member = by_test (is_member a c) refl (sym (is_member-append a b c) ∙ member)
    where
      by_test : (x : Bool) → is_member a c ≡ x → (x || is_member b c) ≡ true → (is_member a c ≡ true) ⊎ (is_member b c ≡ true)
      by_test true e h = inl e
      by_test false e h = inr h

  pub union_of : (folds : Bool) (a b m n : CharSet) → IsFoldingOf table folds a (closed_if table folds m) →
      IsFoldingOf table folds b (closed_if table folds n) →
      IsFoldingOf table folds (a ++ b) (closed_if table folds (m ++ n))
  union_of folds a b m n first second = record {
    has = λ c le.
        is_member-append a b (fold_if table folds c)
        ∙ ap₂ (λ (x y : Bool). x || y) (first.has c le) (second.has c le)
        ∙ sym (closed_append folds m n c le);
    folded = λ e c member. ⊎_elim (first.folded e c) (second.folded e c) (in_one a b c member);
    in_range = closed-le folds (m ++ n);
  }

-- ---- strings

module _ (table : Table) (maps : HasCaseDataOfUnicode table) where
  fold_twice : (s : List ℕ) → map table.fold (map table.fold s) ≡ map table.fold s
  fold_twice [] = refl
  fold_twice (c ∷ s) = ap₂ (λ (x : ℕ) (xs : List ℕ). x ∷ xs) (maps.idempotent c) (fold_twice s)

  each_twice : (ss : List (List ℕ)) → map (map table.fold) (map (map table.fold) ss) ≡ map (map table.fold) ss
  each_twice [] = refl
  each_twice (s ∷ ss) = ap₂ (λ (x : List ℕ) (xs : List (List ℕ)). x ∷ xs) (fold_twice s) (each_twice ss)

  pub strings-twice : (folds : Bool) (ss : List (List ℕ)) → strings_if table folds (strings_if table folds ss) ≡ strings_if table folds ss
  strings-twice true ss = each_twice ss
  strings-twice false ss = refl

  pub strings-append : (folds : Bool) (xs ys : List (List ℕ)) → strings_if table folds (xs ++ ys) ≡ strings_if table folds xs ++ strings_if table folds ys
  strings-append true xs ys = map-append (map table.fold) xs ys
  strings-append false xs ys = refl

  head_same : (x y : List ℕ) (xs ys : List (List ℕ)) → x ∷ xs ≡ y ∷ ys → x ≡ y
  head_same x y xs ys e = cc

  tail_same : (x y : List ℕ) (xs ys : List (List ℕ)) → x ∷ xs ≡ y ∷ ys → xs ≡ ys
  tail_same x y xs ys e = cc

  filter_kept : (p : List ℕ → Bool) (ss : List (List ℕ)) → map (map table.fold) ss ≡ ss → map (map table.fold) (filter p ss) ≡ filter p ss
  filter_kept p [] e = refl
  filter_kept p (s ∷ ss) e =
      by_test (p s) (head_same (map table.fold s) s (map (map table.fold) ss) ss e)
      (filter_kept p ss (tail_same (map table.fold s) s (map (map table.fold) ss) ss e))
    where
      by_test : (b : Bool) → map table.fold s ≡ s → map (map table.fold) (filter p ss) ≡ filter p ss →
          map (map table.fold) (if b then s ∷ filter p ss else filter p ss) ≡ (if b then s ∷ filter p ss else filter p ss)
      by_test true here rest = ap₂ (λ (x : List ℕ) (xs : List (List ℕ)). x ∷ xs) here rest
      by_test false here rest = rest

  pub strings-filter : (folds : Bool) (p : List ℕ → Bool) (ss : List (List ℕ)) → strings_if table folds ss ≡ ss →
      strings_if table folds (filter p ss) ≡ filter p ss
  strings-filter true p ss e = filter_kept p ss e
  strings-filter false p ss e = refl
