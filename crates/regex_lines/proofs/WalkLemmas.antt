-- Files that are found.
use Rattle.std.proofs.Common.{◌≡◌, ◌≢◌, ◌∙◌, inl, inr, ℕ, ◌<◌, ◌≤◌, ◌+◌, ◌-◌, Bool, true, false, ◌||◌, List, [], ◌∷◌, ◌++◌, All, get_or, length, map, reverse, take, ap, arith, refl, sym, subst, append-nil}
use Rattle.std.specs.Prelude.{String, nat_lt, string_bytes}
use Rattle.std.specs.List.{FoldsTo}
use Rattle.std.specs.declared.alloc.Global.{Global}
use Rattle.std.proofs.lemmas.Fn.{FoldsTo-push}
use Rattle.std.proofs.lemmas.List.{append_assoc, get_or-reverse, get_or_append_left, get_or_at, length-append, length-reverse, take_all}
use Rattle.std.proofs.lemmas.List.Elements.{All-nil, All-push}
use Rattle.regex_lines.specs.Unread.{Unread}
use Rattle.regex_lines.specs.Walk.{AreFound, Filter, IsEntry, IsFound, IsFoundFor, IsFoundNext, IsJoined, IsNamed, IsPending, IsSelectedBelow, IsUnder, filter_of}
use Rattle.regex_lines.specs.Searched.{is_standard}
use Rattle.regex_options.specs.Plain.{NameGlob}
use Rattle.regex_lines.specs.declared.walk.Entry.{Entry}
use Rattle.regex_lines.proofs.FoldLemmas.{one_further}

-- What is a file is not standard input, where that is none.
pub other : (standard is : Bool) → (standard ≡ true → is ≡ false) → is ≡ true → standard ≡ false
other false is f holds = refl
other true is f holds = let bad : ⊥ = cc (f refl, holds) in absurd bad

-- ---- lists of which all have a property

module _ {X : Type 0} (P : X → Type 0) (xs : List X) where
  pub all_reversed : All P xs → All P (reverse xs)
  all_reversed all = λ k d within.
      let there : k < length xs = omega (arith, within, length-reverse xs) in
      subst P (sym (get_or-reverse xs k d there)) (all (length xs - 1 - k) d (omega (arith, there)))

  -- the elements before the last one, and the last one
  pub all_before : (x : X) → All P (xs ++ x ∷ []) → All P xs
  all_before x all = λ k d within.
      subst P (get_or_append_left xs (x ∷ []) d k within) (all k d (omega (arith, within, length-append xs (x ∷ []))))

  pub last_of : (x : X) → All P (xs ++ x ∷ []) → P x
  last_of x all = subst P (get_or_at xs x [] x (length xs) refl) (all (length xs) x (omega (arith, length-append xs (x ∷ []))))

module _ (filters : List Filter) (root : List ℕ) where
  abbrev Below : List ℕ → Type 0
  Below = IsSelectedBelow filters root

  -- a directory is below itself
  pub at_root : (entry : Entry) → string_bytes entry.path ≡ root → entry.is_directory ≡ true → IsPending filters root entry
  at_root entry path is = inl (is, ([], sym path))

  -- what is found in a directory below
  pub pending : (directory : List ℕ) → IsUnder root directory → (entry : Entry) → IsEntry filters directory entry → IsPending filters root entry
  pending directory under entry found = by entry.is_directory refl
    where
      by : (is : Bool) → entry.is_directory ≡ is → IsPending filters root entry
      by true is =
          inl (is, (under.0 ++ found.0 ∷ [], FoldsTo-push IsJoined root under.0 directory found.0 (string_bytes entry.path) under.1 found.1))
      by false is = inr (is, (directory, under, (found.0, found.1, found.2 is)))

  pub all_pending : (directory : List ℕ) → IsUnder root directory → (entries : List Entry) → All (IsEntry filters directory) entries →
      All (IsPending filters root) entries
  all_pending directory under entries all = λ k d within. pending directory under (get_or entries k d) (all k d within)

  -- a directory that is visited, and a file
  pub directory_of : (entry : Entry) → IsPending filters root entry → entry.is_directory ≡ true → IsUnder root (string_bytes entry.path)
  directory_of entry (inl found) is = found.1
  directory_of entry (inr found) is = let bad : ⊥ = cc (found.0, is) in absurd bad

  pub file_of : (entry : Entry) → IsPending filters root entry → entry.is_directory ≡ false → Below (string_bytes entry.path)
  file_of entry (inl found) is = let bad : ⊥ = cc (found.0, is) in absurd bad
  file_of entry (inr found) is = found.1

  -- The files so far are those from before, and some below the directory.
  pub record AreAdded (before after : List (List ℕ)) : Type 0 where
    pub files : List (List ℕ)
    pub below : All Below files
    pub is : after ≡ before ++ files

  pub none_added : (before : List (List ℕ)) → AreAdded before before
  none_added before = record { files = []; below = All-nil Below; is = sym (append-nil before) }

  pub one_added : (before between after : List (List ℕ)) (file : List ℕ) → AreAdded before between → Below file → after ≡ between ++ file ∷ [] →
      AreAdded before after
  one_added before between after file added below is = record {
    files = added.files ++ file ∷ [];
    below = All-push Below added.files file added.below below;
    is = is ∙ ap (λ some. some ++ file ∷ []) added.is ∙ append_assoc before added.files (file ∷ []);
  }

-- ---- all names

or_true : (b : Bool) → (b || true) ≡ true
or_true true = refl
or_true false = refl

some_found : (recursive : Bool) (filters : List Filter) (names : List (String Global)) (files : List (List ℕ)) → length names ≢ 0 →
    FoldsTo (IsFoundNext recursive filters) [] (map string_bytes names) files → AreFound recursive filters (map string_bytes names) files
some_found recursive filters [] files some steps = absurd (some refl)
some_found recursive filters (name ∷ names) files some steps = steps

module _ (recursive : Bool) (filters : List Filter) (names : List (String Global)) where
  -- What is found for the first names. A directory was searched if `below`.
  pub record SoFar (i : ℕ) (files : List (List ℕ)) (several : Bool) (unread : List Unread) : Type 0 where
    pub steps : FoldsTo (IsFoundNext recursive filters) [] (map string_bytes (take i names)) files
    pub below : Bool
    pub several_is : several ≡ (nat_lt 1 (length (map string_bytes names)) || below)
    pub named : recursive ≡ false → (below ≡ false) × (unread ≡ [])

  module _ (i : ℕ) (files : List (List ℕ)) (several : Bool) (unread : List Unread) (sofar : SoFar i files several unread) where
    module _ (name : String Global) (within : i < length names) (here : name ≡ get_or names i name) (after more : List (List ℕ)) (is : after ≡ files ++ more) where
      further : IsFoundFor recursive filters (string_bytes name) more → FoldsTo (IsFoundNext recursive filters) [] (map string_bytes (take (i + 1) names)) after
      further found =
          one_further (IsFoundNext recursive filters) string_bytes names i [] files sofar.steps name after within
          (more, subst (λ n. IsFoundFor recursive filters (string_bytes n) more) here found, is)

      -- a file that is named
      pub one_named : IsNamed filters (string_bytes name) more → SoFar (i + 1) after several unread
      one_named found = record { steps = further (inl found); below = sofar.below; several_is = sofar.several_is; named = sofar.named }

      -- a directory
      pub one_below : recursive ≡ true → is_standard (string_bytes name) ≡ false → All (IsSelectedBelow filters (string_bytes name)) more →
          (some : List Unread) → SoFar (i + 1) after true some
      one_below searched other below some = record {
        steps = further (inr (other, searched, below));
        below = true;
        several_is = sym (or_true (nat_lt 1 (length (map string_bytes names))));
        named = λ no. let bad : ⊥ = cc (searched, no) in absurd bad;
      }

    pub all_found : (globs : List NameGlob) → filters ≡ map filter_of globs → length names ≤ i → length names ≢ 0 →
        IsFound (record { names = map string_bytes names; recursive = recursive; globs = globs }) (record { files = files; several = several; unread = unread })
    all_found globs are done some = record {
      files = subst (λ fs. AreFound recursive fs (map string_bytes names) files) are
          (some_found recursive filters names files some
          (subst (λ ns. FoldsTo (IsFoundNext recursive filters) [] (map string_bytes ns) files) (take_all i names done) sofar.steps));
      below = sofar.below;
      several = sofar.several_is;
      named = sofar.named;
    }
