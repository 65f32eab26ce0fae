-- Removal of duplicate outcomes is the same over the characters of a text and over its bytes.
use Rattle.std.proofs.Common.{◌≡◌, ℕ, ◌≤◌, Bool, true, false, cond, not, ◌&&◌, ◌==◌, List, [], ◌∷◌, length, map, filter, Option, Some, None, All, refl, sym, ap, ap₂, ◌∙◌, ⊎_elim, arith}
use Rattle.std.proofs.lemmas.List.Elements.{All-cons, All-head, All-tail, All-filter}
use Rattle.std.proofs.lemmas.Bool.{cases_eq, eq-eqb, ne_eqb}
use Rattle.regress_tree.specs.Reading.{byte_position}
use Rattle.regress_tree.specs.Steps.{MatchState, CaptureSpan, IsStateOf, IsCaptureOf, byte_state, byte_capture, same_capture, same_captures, same_state, dedup}
use Rattle.regress_tree.proofs.lemmas.Characters.{byte_position_same}

module _ (text : List ℕ) where
  -- Two positions are equal exactly if their byte offsets are.
  pub eqb-byte_position : (j k : ℕ) → j ≤ length text → k ≤ length text → (byte_position text j == byte_position text k) ≡ (j == k)
  eqb-byte_position j k hj hk =
      ⊎_elim
      (λ (e : j ≡ k). eq-eqb _ _ (ap (byte_position text) e) ∙ sym (eq-eqb j k e))
      (λ (ne : j ≡ k → ⊥). ne_eqb _ _ (λ e. ne (byte_position_same text j k hj hk e)) ∙ sym (ne_eqb j k ne))
      (cases_eq j k)

  same_capture-byte_capture : (a b : Option CaptureSpan) → IsCaptureOf text a → IsCaptureOf text b →
      same_capture (byte_capture text a) (byte_capture text b) ≡ same_capture a b
  same_capture-byte_capture None None ha hb = refl
  same_capture-byte_capture None (Some b) ha hb = refl
  same_capture-byte_capture (Some a) None ha hb = refl
  same_capture-byte_capture (Some a) (Some b) ha hb =
      ap₂ (λ x y. x && y)
      (eqb-byte_position a.0 b.0 (omega (arith, ha.ordered, ha.within)) (omega (arith, hb.ordered, hb.within)))
      (eqb-byte_position a.1 b.1 ha.within hb.within)

  same_captures-byte_capture : (as' bs : List (Option CaptureSpan)) → All (IsCaptureOf text) as' → All (IsCaptureOf text) bs →
      same_captures (map (byte_capture text) as') (map (byte_capture text) bs) ≡ same_captures as' bs
  same_captures-byte_capture [] [] ha hb = refl
  same_captures-byte_capture [] (b ∷ bs) ha hb = refl
  same_captures-byte_capture (a ∷ as') [] ha hb = refl
  same_captures-byte_capture (a ∷ as') (b ∷ bs) ha hb =
      ap₂ (λ x y. x && y)
      (same_capture-byte_capture a b (All-head (IsCaptureOf text) a as' ha) (All-head (IsCaptureOf text) b bs hb))
      (same_captures-byte_capture as' bs (All-tail (IsCaptureOf text) a as' ha) (All-tail (IsCaptureOf text) b bs hb))

  -- Two states of the text are equal exactly if they are equal in byte offsets.
  pub same_state-byte_state : (s t : MatchState) → IsStateOf text s → IsStateOf text t →
      same_state (byte_state text s) (byte_state text t) ≡ same_state s t
  unfolding same_state
  same_state-byte_state s t hs ht =
      ap₂ (λ x y. x && y) (eqb-byte_position s.position t.position hs.position ht.position)
      (same_captures-byte_capture s.captures t.captures hs.captures ht.captures)

  cond-map : (b : Bool) (xs ys : List MatchState) →
      cond b (map (byte_state text) xs) (map (byte_state text) ys) ≡ map (byte_state text) (cond b xs ys)
  cond-map true xs ys = refl
  cond-map false xs ys = refl

  -- Tests that agree on the states of the text keep the same ones.
  pub filter-byte_state : (p q : MatchState → Bool) → ((t : MatchState) → IsStateOf text t → p (byte_state text t) ≡ q t) →
      (states : List MatchState) → All (IsStateOf text) states →
      filter p (map (byte_state text) states) ≡ map (byte_state text) (filter q states)
  filter-byte_state p q agree [] all = refl
  filter-byte_state p q agree (t ∷ states) all =
      ap₂ (λ kept rest. cond kept (byte_state text t ∷ rest) rest)
      (agree t (All-head (IsStateOf text) t states all))
      (filter-byte_state p q agree states (All-tail (IsStateOf text) t states all))
      ∙ cond-map (q t) (t ∷ filter q states) (filter q states)

  pub All-distinct : (P : MatchState → Type 0) (states : List MatchState) → All P states → All P (dedup states)
  All-distinct P [] all = all
  All-distinct P (s ∷ states) all =
      All-cons P s _ (All-head P s states all)
      (All-filter (λ t. not (same_state s t)) P (dedup states) (All-distinct P states (All-tail P s states all)))

  -- the distinct outcomes, in byte offsets
  pub distinct-byte_state : (states : List MatchState) → All (IsStateOf text) states →
      dedup (map (byte_state text) states) ≡ map (byte_state text) (dedup states)
  distinct-byte_state [] all = refl
  distinct-byte_state (s ∷ states) all =
      let hs = All-head (IsStateOf text) s states all in
      let rest = All-tail (IsStateOf text) s states all in
      ap (λ xs. byte_state text s ∷ xs)
      (ap (filter (λ t. not (same_state (byte_state text s) t))) (distinct-byte_state states rest)
      ∙ filter-byte_state (λ t. not (same_state (byte_state text s) t)) (λ t. not (same_state s t))
      (λ t ht. ap not (same_state-byte_state s t hs ht)) (dedup states) (All-distinct (IsStateOf text) states rest))
