-- A loop that replaces matches by what a closure returns.
use Rattle.std.proofs.Common.{◌≡◌, ◌∙◌, ℕ, ◌+◌, ◌<◌, ◌≤◌, List, [], ◌∷◌, ◌++◌, All, take, drop, get_or, length, map, slice_range, string_bytes, refl, sym, ap, subst, append_assoc, append-nil}
use Rattle.std.specs.Prelude.{Result, Ok, Err, String}
use Rattle.std.specs.Borrow.{Bor}
use Rattle.std.specs.declared.alloc.Global.{Global}
use Rattle.std.specs.Fn.{CalledAt, Mut}
use Rattle.std.specs.List.{FoldsTo}
use Rattle.std.proofs.lemmas.Fn.{FoldsTo-push}
use Rattle.std.proofs.lemmas.List.Elements.{All-map}
use Rattle.std.proofs.lemmas.List.{drop_all, get_or-map, length-map, map-append, take_all, take_more}
use Rattle.regress_found.specs.Found.{start_of, IsInside}
use Rattle.regress_replace.specs.Expansion.{end_of}
use Rattle.regress_replace.specs.Replaced.{joined, split_pieces}
use Rattle.regress_replace.proofs.lemmas.Order.{IsBefore, before_first, before_next, next_match}
use Rattle.regress.specs.Compiled.{match_of}
use Rattle.regress.specs.Replaced.{HasReturned, IsReplacedBy}
use Rattle.regress.specs.declared.failure.SearchError.{SearchError}
use Rattle.regress.specs.declared.found.Match.{Match}

-- The closure was called on the first i matches, and `done` is the text up to `from` with these replaced.
pub record HasReplaced {F : Type 0} (g : Mut F (Bor Match × Unit {0}) (Result (String Global) SearchError)) (text : List ℕ) (ms : List Match) (before : F)
    (i from : ℕ) (now : F) (done : List ℕ) : Type 0 where
  pub calls : List (Match × String Global)
  pub matches : map (λ c. c.0) calls ≡ take i ms
  pub called : FoldsTo (λ f c f'. CalledAt g f c.0 (Ok c.1) f') before calls now
  pub so_far : (more : List (List ℕ)) → done ++ joined (split_pieces text from (drop i (map match_of ms))) more
      ≡ joined (split_pieces text 0 (map match_of ms)) (map (λ c. string_bytes c.1) calls ++ more)

module _ {F : Type 0} (g : Mut F (Bor Match × Unit {0}) (Result (String Global) SearchError)) (text : List ℕ) (ms : List Match) where
  pub none_replaced : (f : F) → HasReplaced g text ms f 0 0 f []
  none_replaced f = record { calls = []; matches = refl; called = refl; so_far = λ more. refl }

  -- the next match, among the matches that the search has found
  here : (i : ℕ) (m : Match) → i < length ms → m ≡ get_or ms i m → match_of m ≡ get_or (map match_of ms) i (match_of m)
  here i m below is = ap match_of is ∙ sym (get_or-map match_of ms i m (match_of m) below)

  below_all : (i : ℕ) → i < length ms → i < length (map match_of ms)
  below_all i below = subst (λ n. i < n) (sym (length-map ms match_of)) below

  -- it starts where the search is or later
  pub next_start : (from i : ℕ) (m : Match) → i < length ms → m ≡ get_or ms i m → IsBefore text from (drop i (map match_of ms)) →
      from ≤ start_of (match_of m)
  next_start from i m below is before = (before_first text from (map match_of ms) i (match_of m) (below_all i below) (here i m below is) before).0

  pub next_end : (from i : ℕ) (m : Match) → i < length ms → m ≡ get_or ms i m → All (λ m. IsInside text (match_of m)) ms →
      IsBefore text from (drop i (map match_of ms)) → IsBefore text (end_of (match_of m)) (drop (i + 1) (map match_of ms))
  next_end from i m below is inside before =
      before_next text from (map match_of ms) i (match_of m) (below_all i below) (here i m below is) (All-map (IsInside text) match_of ms inside)
      before

  module _ (before now : F) (i from : ℕ) (done : List ℕ) (sofar : HasReplaced g text ms before i from now done) where
    -- one more match is replaced
    pub one_replaced : (m : Match) → i < length ms → m ≡ get_or ms i m → (w : String Global) (after : F) → CalledAt g now m (Ok w) after →
        HasReplaced g text ms before (i + 1) (end_of (match_of m)) after ((done ++ slice_range text from (start_of (match_of m))) ++ string_bytes w)
    one_replaced m below is w after call =
        let found = map match_of ms in
        let rest = split_pieces text (end_of (match_of m)) (drop (i + 1) found) in
        let piece = slice_range text from (start_of (match_of m)) in
        let next = next_match found i (match_of m) (below_all i below) (here i m below is) in
        record {
          calls = sofar.calls ++ (m, w) ∷ [];
          matches = map-append (λ c. c.0) sofar.calls ((m, w) ∷ [])
              ∙ ap (λ zs. zs ++ m ∷ []) sofar.matches
              ∙ ap (λ z. take i ms ++ z ∷ []) is
              ∙ sym (take_more ms i m below);
          called = FoldsTo-push (λ f c f'. CalledAt g f c.0 (Ok c.1) f') before sofar.calls now (m, w) after sofar.called call;
          so_far = λ more.
              append_assoc (done ++ piece) (string_bytes w) (joined rest more)
              ∙ append_assoc done piece (string_bytes w ++ joined rest more)
              ∙ ap (λ zs. done ++ joined (split_pieces text from zs) (string_bytes w ∷ more)) (sym next)
              ∙ sofar.so_far (string_bytes w ∷ more)
              ∙ ap (joined (split_pieces text 0 found))
              (sym (append_assoc (map (λ c. string_bytes c.1) sofar.calls) (string_bytes w ∷ []) more)
              ∙ ap (λ zs. zs ++ more) (sym (map-append (λ c. string_bytes c.1) sofar.calls ((m, w) ∷ []))));
        }

    -- the next call returned an error
    pub has_returned : (m : Match) (error : SearchError) (after : F) → CalledAt g now m (Err error) after → HasReturned g before error
    has_returned m error after call = record {
      calls = sofar.calls;
      before = now;
      called = sofar.called;
      last = m;
      after = after;
      returned = call;
    }

    -- all matches are replaced, and the rest of the text follows
    pub all_replaced : length ms ≤ i → IsReplacedBy g before text ms (done ++ drop from text)
    all_replaced over =
        let found = map match_of ms in
        let none = drop_all i found (subst (λ n. n ≤ i) (sym (length-map ms match_of)) over) in
        record {
          calls = sofar.calls;
          matches = sofar.matches ∙ take_all i ms over;
          after = now;
          called = sofar.called;
          is = ap (λ zs. done ++ zs) (sym (append-nil (drop from text)))
              ∙ ap (λ zs. done ++ joined (split_pieces text from zs) []) (sym none)
              ∙ sofar.so_far []
              ∙ ap (joined (split_pieces text 0 found)) (append-nil (map (λ c. string_bytes c.1) sofar.calls));
        }
