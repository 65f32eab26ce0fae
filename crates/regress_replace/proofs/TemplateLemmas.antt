-- How the expansion of a template goes on after its first piece.
use Rattle.std.proofs.Common.{◌≡◌, ◌≢◌, ℕ, zero, suc, ◌+◌, ◌-◌, ◌<◌, Bool, true, false, List, [], ◌∷◌, ◌++◌, length, drop, get_or, Option, Some, None, refl, sym, ap, ◌∙◌, ◌==◌, flat_map, append_assoc, ◌&&◌, take, cond, nat_lt, option_map, if◌then◌else◌, Result, Ok, Err, is_ok, IfOk, add-zero, arith}
use Rattle.std.proofs.lemmas.Bool.Decides.{nat_tests}
use Rattle.std.specs.Char.{is_ascii_digit}
use Rattle.std.specs.Option.{unwrap_or}
use Rattle.regress_found.specs.Found.{state_of}
use Rattle.regress_found.specs.declared.found.Match.{Match}
use Rattle.regress_tree.specs.WellFormed.{Capture}
use Rattle.regress_replace.specs.Expansion.{expand_piece, expansion_with}
use Rattle.std.specs.Borrow.{Bor}
use Rattle.std.specs.declared.alloc.AllocError.{AllocError}
use Rattle.std.specs.List.{position_or_len}
use Rattle.std.proofs.lemmas.List.Sums.{fails_before_first, position_or_len_is}
use Rattle.regress_replace.specs.Parsed.{Parses, piece_of}
use Rattle.regress_replace.specs.declared.reference.Reference.{Reference}
use Rattle.regress_replace.specs.Template.{Piece, plain, text_before, whole_match, text_after, by_name, number_reference, reference, name_reference, first_piece, pieces_after}

-- no byte of the text is this one
abbrev pub Lacks : ℕ → List ℕ → Type 0
Lacks c t = (i : ℕ) → i < length t → get_or t i 0 ≢ c

lacks-tail : (c b : ℕ) (t : List ℕ) → Lacks c (b ∷ t) → Lacks c t
lacks-tail c b t h i below = h (suc i) (omega arith)

lacks-head : (c b : ℕ) (t : List ℕ) → Lacks c (b ∷ t) → (b == c) ≡ false
lacks-head c b t h = let first : b ≢ c = h 0 (omega arith) in grind (arith, nat_tests)

pieces-skip : (groups : ℕ) (has_names : Bool) (k : ℕ) (t : List ℕ) →
    pieces_after groups has_names k t ≡ pieces_after groups has_names 0 (drop k t)
pieces-skip groups has_names zero t = refl
pieces-skip groups has_names (suc k) [] = refl
pieces-skip groups has_names (suc k) (b ∷ t) = pieces-skip groups has_names k t

module _ (has_names : Bool) (text : List ℕ) (m : Match) (gs : List Capture) where
  expansion-step : (b : ℕ) (t : List ℕ) (p : Piece) (n : ℕ) → first_piece (length (state_of m).captures) has_names b t ≡ (p, n) →
      expansion_with has_names text m gs (b ∷ t) ≡ expand_piece text m gs p ++ expansion_with has_names text m gs (drop n t)
  expansion-step b t p n is =
      ap (λ (f : Piece × ℕ). expand_piece text m gs f.0
      ++ flat_map (expand_piece text m gs) (pieces_after (length (state_of m).captures) has_names f.1 t)) is
      ∙ ap (λ ps. expand_piece text m gs p ++ flat_map (expand_piece text m gs) ps) (pieces-skip (length (state_of m).captures) has_names n t)

  pub expansion-plain : (xs ys : List ℕ) → Lacks 36 xs →
      expansion_with has_names text m gs (xs ++ ys) ≡ xs ++ expansion_with has_names text m gs ys
  expansion-plain [] ys none = refl
  expansion-plain (b ∷ xs) ys none =
      let other : (b == 36) ≡ false = lacks-head 36 b xs none in
      let is : first_piece (length (state_of m).captures) has_names b (xs ++ ys) ≡ (plain (b ∷ []), 0) = rw other in
      expansion-step b (xs ++ ys) (plain (b ∷ [])) 0 is ∙ ap (λ zs. b ∷ zs) (expansion-plain xs ys (lacks-tail 36 b xs none))

  pub expansion-reference : (t : List ℕ) (p : Piece) (n : ℕ) → reference (length (state_of m).captures) has_names t ≡ Some (p, n) →
      expansion_with has_names text m gs (36 ∷ t) ≡ expand_piece text m gs p ++ expansion_with has_names text m gs (drop n t)
  expansion-reference t p n is = expansion-step 36 t p n (ap (λ r. unwrap_or r (plain (36 ∷ []), 0)) is)

  pub expansion-dollar : (t : List ℕ) → reference (length (state_of m).captures) has_names t ≡ None →
      expansion_with has_names text m gs (36 ∷ t) ≡ 36 ∷ expansion_with has_names text m gs t
  expansion-dollar t is = expansion-step 36 t (plain (36 ∷ [])) 0 (ap (λ r. unwrap_or r (plain (36 ∷ []), 0)) is)

  -- after a reference
  pub appended-reference : (out out' t : List ℕ) (r : Reference × Bor (List ℕ)) →
      Parses (reference (length (state_of m).captures) has_names t) t 0 (Some r) → out' ≡ out ++ expand_piece text m gs (piece_of r.0) →
      out' ++ expansion_with has_names text m gs r.1.now ≡ out ++ expansion_with has_names text m gs (36 ∷ t)
  appended-reference out out' t r h is =
      rw (is, h.3, append_assoc)
      (ap (λ zs. out ++ zs) (sym (expansion-reference t (piece_of r.0) h.0 (h.1 ∙ ap (λ (n : ℕ). Some (piece_of r.0, n)) (add-zero h.0)))))

  -- after a `$` that is taken as it is
  pub appended-dollar : (out out' t : List ℕ) → reference (length (state_of m).captures) has_names t ≡ None → out' ≡ out ++ 36 ∷ [] →
      out' ++ expansion_with has_names text m gs t ≡ out ++ expansion_with has_names text m gs (36 ∷ t)
  appended-dollar out out' t none is =
      rw (is, append_assoc) (ap (λ zs. out ++ zs) (sym (expansion-dollar t none)))

  -- after a step of the expansion, whose rest is expanded with `later`
  pub appended-plain : (later : Bool) (out plain_out out' plain_text t rest all : List ℕ) → all ≡ plain_text ++ 36 ∷ t → Lacks 36 plain_text →
      plain_out ≡ out ++ plain_text →
      out' ++ expansion_with later text m gs rest ≡ plain_out ++ expansion_with has_names text m gs (36 ∷ t) →
      out' ++ expansion_with later text m gs rest ≡ out ++ expansion_with has_names text m gs all
  appended-plain later out plain_out out' plain_text t rest all is none plain_is step =
      step ∙ rw (plain_is, append_assoc, is) (ap (λ zs. out ++ zs) (sym (expansion-plain plain_text (36 ∷ t) none)))

  -- after the last reference
  pub expansion-last : (xs : List ℕ) → Lacks 36 xs → expansion_with has_names text m gs xs ≡ xs
  expansion-last [] none = refl
  expansion-last (b ∷ xs) none =
      let other : (b == 36) ≡ false = lacks-head 36 b xs none in
      let is : first_piece (length (state_of m).captures) has_names b xs ≡ (plain (b ∷ []), 0) = rw other in
      expansion-step b xs (plain (b ∷ [])) 0 is ∙ ap (λ zs. b ∷ zs) (expansion-last xs (lacks-tail 36 b xs none))

named-cond : (b : Bool) (n : ℕ) (t : List ℕ) → option_map {U = Piece × ℕ} (λ k. (by_name (take k t), k + 2)) (cond b (Some n) None) ≡ None →
    b ≡ false
named-cond true n t h = cc
named-cond false n t h = refl

-- a name without a `>` after it is no reference
name-none : (t : List ℕ) → Lacks 62 t → name_reference t ≡ None
name-none t none =
    let end : position_or_len (λ b. b == 62) t ≡ length t =
    position_or_len_is (λ b. b == 62) t (length t) 0 (omega arith)
    (λ k below. let other : get_or t k 0 ≢ 62 = none k below in grind (arith, nat_tests))
    (λ (more : length t < length t). absurd (omega arith)) in
    let test : nat_lt (position_or_len (λ b. b == 62) t) (length t) ≡ false = grind (arith, nat_tests) in
    rw test

lacks-end : (t : List ℕ) → name_reference t ≡ None → Lacks 62 t
lacks-end t none k below =
    let test : nat_lt (position_or_len (λ b. b == 62) t) (length t) ≡ false =
    named-cond (nat_lt (position_or_len (λ b. b == 62) t) (length t)) (position_or_len (λ b. b == 62) t) t none in
    let end : k < position_or_len (λ b. b == 62) t = grind (arith, nat_tests) in
    let other : (get_or t k 0 == 62) ≡ false = fails_before_first (λ b. b == 62) t k 0 end in
    grind (arith, nat_tests)

lacks-cons : (c b : ℕ) (t : List ℕ) → b ≢ c → Lacks c t → Lacks c (b ∷ t)
lacks-cons c b t other none zero below = other
lacks-cons c b t other none (suc i) below = none i (omega arith)

unnamed-last : (b : Bool) (t : List ℕ) → name_reference t ≡ None →
    (if b && true then name_reference t else None) ≡ (if b && false then name_reference t else None)
unnamed-last true t none = none
unnamed-last false t none = refl

reference-unnamed : (groups : ℕ) (t : List ℕ) → Lacks 62 t → reference groups true t ≡ reference groups false t
reference-unnamed groups [] none = refl
reference-unnamed groups (b ∷ t) none =
    ap (λ (last : Option (Piece × ℕ)).
    if b == 36 then Some (plain (36 ∷ []), 1)
    else if b == 96 then Some (text_before, 1)
    else if b == 38 then Some (whole_match, 1)
    else if b == 39 then Some (text_after, 1)
    else if is_ascii_digit b then number_reference groups (b - 48) t
    else last) (unnamed-last (b == 60) t (name-none t (lacks-tail 62 b t none)))

pieces-unnamed : (groups k : ℕ) (t : List ℕ) → Lacks 62 t → pieces_after groups true k t ≡ pieces_after groups false k t
pieces-unnamed groups k [] none = refl
pieces-unnamed groups zero (b ∷ t) none =
    let rest = lacks-tail 62 b t none in
    let same : first_piece groups true b t ≡ first_piece groups false b t =
    ap (λ (r : Option (Piece × ℕ)). if b == 36 then unwrap_or r (plain (36 ∷ []), 0) else (plain (b ∷ []), 0)) (reference-unnamed groups t rest) in
    ap (λ (f : Piece × ℕ). f.0 ∷ pieces_after groups true f.1 t) same
    ∙ ap (λ ps. (first_piece groups false b t).0 ∷ ps) (pieces-unnamed groups (first_piece groups false b t).1 t rest)
pieces-unnamed groups (suc k) (b ∷ t) none = pieces-unnamed groups k t (lacks-tail 62 b t none)

-- After a `<` that begins no name, no later one does.
pub expansion-unnamed : (has_names : Bool) (text : List ℕ) (m : Match) (gs : List Capture) (t : List ℕ) →
    reference (length (state_of m).captures) has_names t ≡ None → get_or t 0 0 ≡ 60 →
    expansion_with false text m gs t ≡ expansion_with has_names text m gs t
expansion-unnamed false text m gs t none first = refl
expansion-unnamed true text m gs [] none first = refl
expansion-unnamed true text m gs (b ∷ t) none first =
    let none' : name_reference t ≡ None = rw first at none in
    let lacks : Lacks 62 (b ∷ t) = lacks-cons 62 b t (λ e. absurd (omega (arith, e, first))) (lacks-end t none') in
    ap (flat_map (expand_piece text m gs)) (sym (pieces-unnamed (length (state_of m).captures) 0 (b ∷ t) lacks))

-- the rest of the template is appended, unless an allocation fails
pub appended-last : (r : Result (Unit {0}) AllocError) (new old rest all : List ℕ) → new ≡ (if is_ok r then old ++ rest else old) →
    old ++ rest ≡ all → IfOk r (λ _. new ≡ all)
appended-last (Ok x) new old rest all is same = is ∙ same
appended-last (Err e) new old rest all is same = tt
