-- The result of a call that writes a text, from the text.
use Rattle.std.proofs.Common.{arith, ◌≡◌, ◌++◌, ◌∷◌, ◌<◌, ◌≤◌, ◌+◌, ◌-◌, ℕ, List, [], drop, length, map, slice_index, slice_set, refl, sym, ap, ◌∙◌, subst}
use Rattle.std.specs.Prelude.{Option, None, Some, option_map, slice_get, unwrap_or}
use Rattle.std.proofs.lemmas.List.{drop_all, drop_more}
use Rattle.std.proofs.lemmas.Option.{none-some, same_Some, slice_get-map, slice_get_within, slice_get-get_or}
use Rattle.regress_front.specs.WellFormed.{Capture}
use Rattle.regress_capi.specs.TextResults.{HasGroup, IsNameOf, PlainResult, plain_written, plain_little, terminated, TextResult, text_written, text_little, text_bad}

-- what is written has the property that was computed, and the arguments are valid
pub text-written : {A : Type 0} {P : List ℕ → Type 0} {old new text : List ℕ} {status needed : ℕ} → A → P text →
    TextResult (Unit {0}) (λ xs. xs ≡ text) old status needed new → TextResult A P old status needed new
text-written {P = P} asked has (text_written u gives) = text_written asked (gives.0, subst P (sym gives.1) has, gives.2, gives.3)
text-written {P = P} asked has (text_little u wants) = text_little asked (wants.0, subst P (sym wants.1) has, wants.2, wants.3)
text-written asked has (text_bad none) = absurd (none tt)

pub text-given : {old new : List ℕ} {needed : ℕ} (text handed : List ℕ) → needed ≡ length text → handed ≡ text →
    new ≡ handed ++ drop (length handed) old → PlainResult (λ xs. xs ≡ text) old 0 needed new
text-given {old = old} text handed count same put = plain_written (text, refl, count, put ∙ ap (λ xs. xs ++ drop (length xs) old) same)

pub text-too-long : {old new : List ℕ} {needed : ℕ} (text handed : List ℕ) → needed ≡ length text → handed ≡ text → new ≡ old →
    length old < length handed → PlainResult (λ xs. xs ≡ text) old 3 needed new
text-too-long {old = old} {needed = needed} text handed count same left less =
    subst (λ buffer. PlainResult (λ xs. xs ≡ text) old 3 needed buffer) (sym left)
    (plain_little (text, refl, count, subst (λ xs. length old < length xs) same less))

-- -- the zero after a text

set_after : (text rest : List ℕ) (b : ℕ) → slice_set (text ++ b ∷ rest) (length text) 0 ≡ text ++ 0 ∷ rest
set_after [] rest b = refl
set_after (a ∷ text) rest b = ap (λ xs. a ∷ xs) (set_after text rest b)

zero_after : (text old : List ℕ) → length text < length old →
    slice_set (text ++ drop (length text) old) (length text) 0 ≡ text ++ terminated (drop (length text) old)
zero_after text old room =
    let cut = drop_more old (length text) 0 room in
    ap (λ rest. slice_set (text ++ rest) (length text) 0) cut
    ∙ set_after text (drop (length text + 1) old) (slice_index old (length text))
    ∙ ap (λ rest. text ++ terminated rest) (sym cut)

-- where there is room, the zero is written after the text
pub text-ended : {old mid new : List ℕ} {status needed : ℕ} (text : List ℕ) → PlainResult (λ xs. xs ≡ text) old status needed mid →
    length text < length old → new ≡ slice_set mid (length text) 0 → TextResult (Unit {0}) (λ xs. xs ≡ text) old status needed new
text-ended {old = old} text (plain_written gives) room set =
    text_written tt (
      text,
      refl,
      gives.2 ∙ ap length gives.1,
      set ∙ ap (λ xs. slice_set xs (length text) 0) (gives.3 ∙ ap (λ xs. xs ++ drop (length xs) old) gives.1) ∙ zero_after text old room,
    )
text-ended {old = old} text (plain_little wants) room set =
    absurd (omega (arith, room, wants.3, ap length wants.1))

-- where there is none, nothing follows it
pub text-whole : {old new : List ℕ} {status needed : ℕ} (text : List ℕ) → PlainResult (λ xs. xs ≡ text) old status needed new →
    length old ≤ length text → TextResult (Unit {0}) (λ xs. xs ≡ text) old status needed new
text-whole {old = old} text (plain_written gives) full =
    let none : drop (length text) old ≡ [] = drop_all (length text) old full in
    text_written tt (
      text,
      refl,
      gives.2 ∙ ap length gives.1,
      gives.3 ∙ ap (λ xs. xs ++ drop (length xs) old) gives.1 ∙ ap (λ rest. text ++ rest) (none ∙ ap terminated (sym none)),
    )
text-whole text (plain_little wants) full = text_little tt wants

-- -- of names

module _ (groups : List Capture) (i : ℕ) where
  name_within : (name : Option (List ℕ)) (r : Option Capture) → slice_get groups i ≡ r → Some name ≡ option_map (λ c. c.name) r →
      (i < length groups) × (option_map (λ group. unwrap_or group.name []) (slice_get groups i) ≡ Some (unwrap_or name []))
  name_within name None at e = absurd (none-some name (sym e))
  name_within name (Some c) at e = (
    slice_get_within groups i c at,
    ap (option_map (λ group. unwrap_or group.name [])) at ∙ ap (λ n. Some (unwrap_or n [])) (sym (same_Some name c.name e)),
  )

  -- the group at an index, from 0, has the name that is found among the names
  pub name_found : (name : Option (List ℕ)) → Some name ≡ slice_get (map (λ c. c.name) groups) i →
      (i < length groups) × (option_map (λ group. unwrap_or group.name []) (slice_get groups i) ≡ Some (unwrap_or name []))
  name_found name is = name_within name (slice_get groups i) refl (is ∙ slice_get-map (λ c. c.name) groups i)

  -- there is no group at an index past the names
  pub name_missing : None ≡ slice_get (map (λ c. c.name) groups) i → i < length groups → ⊥
  name_missing is below =
      absurd (none-some _ (is ∙ slice_get-map (λ c. c.name) groups i ∙ ap (option_map (λ c. c.name))
      (slice_get-get_or groups i (record { id = 0; name = None }) below)))

-- the group with a number, from 1, has the name that is found among the names
pub group_named : (groups : List Capture) (number : ℕ) → (number ≡ 0 → ⊥) → (name : Option (List ℕ)) →
    Some name ≡ slice_get (map (λ c. c.name) groups) (number - 1) → HasGroup groups number × IsNameOf groups number (unwrap_or name [])
group_named groups number some name is =
    let found = name_found groups (number - 1) name is in ((omega arith, let below = found.0 in omega arith), found.1)
