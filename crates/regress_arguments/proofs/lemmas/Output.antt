-- Lemmas about several writes in order, and about writes through a buffer.
use Rattle.std.proofs.Common.{◌≡◌, ℕ, List, [], ◌++◌, Option, Some, None, sym, ap, subst, ◌∙◌, append_assoc, append-nil}
use Rattle.std.specs.Prelude.{Result, Ok, Err, IfOk, IfSome}
use Rattle.std.specs.Io.KnownBytes.{Appends, Keeps, append_known}
use Rattle.std.specs.Result.{result_ok}
use Rattle.regress_arguments.specs.Output.{Took}

-- two writes
pub appends_both : (a b c : Option (List ℕ)) (xs ys : List ℕ) → Appends a b xs → Appends b c ys → Appends a c (xs ++ ys)
appends_both None b c xs ys one two = tt
appends_both (Some a) None c xs ys one two = absurd one
appends_both (Some a) (Some b) None xs ys one two = two
appends_both (Some a) (Some b) (Some c) xs ys one two = two ∙ ap (λ t. t ++ ys) one ∙ append_assoc a xs ys

-- a write after which nothing is appended
pub appends_kept : (a b c : Option (List ℕ)) (xs : List ℕ) → Appends a b xs → Keeps b c → Appends a c xs
appends_kept None b c xs one kept = tt
appends_kept (Some a) None c xs one kept = absurd one
appends_kept (Some a) (Some b) None xs one kept = kept
appends_kept (Some a) (Some b) (Some c) xs one kept = kept ∙ one

-- What is known of a writer at the end of a run through a buffer, if what the buffer holds could be written to it.
pub ended : {T E : Type 0} (contents : T → Option (List ℕ)) (between : Option (List ℕ)) (r : Result T E) (o : Option T)
    (P : Option (List ℕ) → Type 0) → IfOk r (λ w. Keeps between (contents w)) → o ≡ result_ok r →
    ((new : Option (List ℕ)) → Keeps between new → P new) → IfSome o (λ w. P (contents w))
ended contents between (Ok w) o P kept is known = subst (λ out. IfSome out (λ w. P (contents w))) (sym is) (known (contents w) kept)
ended contents between (Err e) o P kept is known = subst (λ out. IfSome out (λ w. P (contents w))) (sym is) tt

-- The buffer is empty at the start of the run: `start` is what the writer holds then.
module _ (old start between new : Option (List ℕ)) (empty : start ≡ append_known old []) (kept : Keeps between new) where
  from_start : (old : Option (List ℕ)) (xs : List ℕ) → Appends (append_known old []) new xs → Appends old new xs
  from_start old xs = by old new
    where
      by : (old new : Option (List ℕ)) → Appends (append_known old []) new xs → Appends old new xs
      by None new one = tt
      by (Some a) None one = one
      by (Some a) (Some b) one = one ∙ ap (λ t. t ++ xs) (append-nil a)

  -- what was written to the buffer
  pub appends_through : (xs : List ℕ) → Appends start between xs → Appends old new xs
  appends_through xs one = from_start old xs (appends_kept (append_known old []) between new xs (subst (λ known. Appends known between xs) empty one) kept)

  pub took_through : (P : List ℕ → Type 0) → Took start between P → Took old new P
  took_through P took = (took.0, took.1, appends_through took.0 took.2)

  -- nothing was written to it
  pub keeps_through : between ≡ start → Keeps old new
  keeps_through same = by old new (subst (λ known. Keeps known new) (same ∙ empty) kept)
    where
      by : (old new : Option (List ℕ)) → Keeps (append_known old []) new → Keeps old new
      by None new k = tt
      by (Some a) None k = k
      by (Some a) (Some b) k = k ∙ append-nil a
