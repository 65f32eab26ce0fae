-- Where no match begins, none begins at a later character of the loop with which the pattern begins.
use Rattle.std.proofs.Common.{◌≡◌, ℕ, zero, suc, ◌+◌, ◌-◌, ◌<◌, ◌≤◌, Bool, true, false, List, [], ◌∷◌, ◌++◌, length, replicate, slice_get, slice_index, ◌⊎◌, IfSome, MatchOption, Option, Some, None, inl, inr, refl, sym, ap, ap₂, ◌∙◌, subst, arith}
use Rattle.std.proofs.lemmas.Bool.{cases_lt}
use Rattle.regress_base.specs.ByteBitmap.{contains}
use Rattle.regress_base.specs.declared.bytesearch.bitmap.ByteBitmap.{ByteBitmap}
use Rattle.regress_tree.specs.Steps.{MatchState}
use Rattle.regress_unicode.specs.declared.Tables.{Tables}
use Rattle.regress_leaves.specs.Starts.{AreIn}
use Rattle.regress_leaves.specs.Subject.{subject}
use Rattle.regress_found.specs.Found.{initial_state}
use Rattle.regress_program.specs.Program.{IsSolution, Out, start}
use Rattle.regress_program.specs.declared.instruction.Instruction.TheVariants as insts
use Rattle.regress_code.specs.declared.code.Code.{Code}
use Rattle.regress_code.specs.Code.{code_groups, code_routines, outcomes_from, setting_with}
use Rattle.regress_backtrack.specs.declared.input.Input.{Input}
use Rattle.regress_backtrack.specs.declared.lead.Lead.{Lead}
use Rattle.regress_backtrack.specs.declared.machine.Place.{Place}
use Rattle.regress_backtrack.specs.Lead.{BeginsAfterOne, BeginsAt, BeginsWithin, IsBeforeLeaf, IsBegun, IsIn, IsLead, IsLed, IsOptional, IsRequired, LeadsInto}
use Rattle.regress_backtrack.specs.Sweep.{IsCharacterAt}
use Rattle.regress_backtrack.specs.Machine.{Groups, at}
use Rattle.regress_backtrack.specs.Next.{Fails, IsInput, Solve, instructions_in, routine_of}
use Rattle.regress_backtrack.specs.Searched.{IsFor}
use Rattle.regress_backtrack.proofs.PossessiveLemmas.{following_fails}
use Rattle.regress_backtrack.proofs.InputLemmas.{routine-is}
use Rattle.regress_backtrack.proofs.RunLemmas.{solved}
use Rattle.regress_backtrack.proofs.SweepLemmas.{at_repeat_on, character, iteration, other_character}

-- A list of no states has none in its parts.
none_first : (xs ys : List MatchState) → xs ++ ys ≡ [] → xs ≡ []
none_first [] ys none = refl
none_first (x ∷ xs) ys none = cc

none_second : (xs ys : List MatchState) → xs ++ ys ≡ [] → ys ≡ []
none_second [] ys none = none
none_second (x ∷ xs) ys none = cc

none_both : (xs ys : List MatchState) → xs ≡ [] → ys ≡ [] → xs ++ ys ≡ []
none_both xs ys first second = ap₂ ◌++◌ first second

module _ (input : Input) (is : IsInput input) (lead : Lead) (pc : ℕ) (begun : IsBegun input lead pc)
    (outs : ℕ → Out) (solve : Solve input outs) (g : Groups) where
  abbrev set : ByteBitmap
  set = lead.set.now

  abbrev at_loop : ℕ → List MatchState
  at_loop k = outs input.index (at (record { pc = pc; moved = true; position = k }) g)

  abbrev again : ℕ → List MatchState
  again k = outs input.index (at (record { pc = lead.looping.body; moved = false; position = k }) g)

  abbrev after : ℕ → List MatchState
  after k = outs input.index (at (record { pc = lead.looping.next; moved = true; position = k }) g)

  at_loop_on : (k : ℕ) → k ≤ length input.text.now → at_loop k ≡ again k ++ after k
  at_loop_on k le =
      let u = subject input.rules input.text.now in
      let p : Place = record { pc = pc; moved = true; position = k } in
      solved input is p (insts.BeginLoop true lead.looping.body lead.looping.next) begun.pc_in begun.begins u.setting u.bytes outs u.direction g solve is.direction le

  -- After a character of the loop there is no outcome either.
  none_on : (k : ℕ) → k < length input.text.now → slice_index input.text.now k < 128 → contains set (slice_index input.text.now k) ≡ true →
      again k ≡ [] → (again (k + 1) ≡ []) × (after (k + 1) ≡ [])
  none_on k lt ascii member none =
      let ends = iteration input is lead.looping set begun.repeat_pc begun.swept begun.body_in outs solve g k lt ascii member in
      let on = at_repeat_on input is lead.looping set begun.repeat_pc begun.swept begun.body_in outs solve g (k + 1) (omega (arith, lt)) in
      let both : again (k + 1) ++ after (k + 1) ≡ [] = sym on ∙ sym ends ∙ none in
      (none_first (again (k + 1)) (after (k + 1)) both, none_second (again (k + 1)) (after (k + 1)) both)

  none_among : (low n : ℕ) → AreIn set input.text.now low n → again low ≡ [] → after low ≡ [] → (j : ℕ) → j ≤ n →
      (again (low + j) ≡ []) × (after (low + j) ≡ [])
  none_among low n are none none' zero le =
      let same : low ≡ low + zero = omega arith in
      (subst (λ k. again k ≡ []) same none, subst (λ k. after k ≡ []) same none')
  none_among low n are none none' (suc j) le =
      let before = none_among low n are none none' j (omega (arith, le)) in
      let here = are j (omega (arith, le)) in
      let same : (low + j) + 1 ≡ low + suc j = omega arith in
      subst (λ k. (again k ≡ []) × (after k ≡ [])) same (none_on (low + j) here.0 here.1.0 here.1.1 before.0)

  -- the loop itself
  pub none_in_loop : (low n : ℕ) → AreIn set input.text.now low n → low ≤ length input.text.now → at_loop low ≡ [] → (j : ℕ) → j ≤ n →
      low + j ≤ length input.text.now → at_loop (low + j) ≡ []
  none_in_loop low n are within none j le inside =
      let both : again low ++ after low ≡ [] = sym (at_loop_on low within) ∙ none in
      let here = none_among low n are (none_first (again low) (after low) both) (none_second (again low) (after low) both) j le in
      at_loop_on (low + j) inside ∙ none_both (again (low + j)) (after (low + j)) here.0 here.1

  -- the first iteration fails, if none begins after the last one, and what follows fails after each
  no_iteration : (low n : ℕ) → AreIn set input.text.now low n → again (low + n) ≡ [] → ((j : ℕ) → 0 < j → j ≤ n → after (low + j) ≡ []) → again low ≡ []
  no_iteration low zero are last none = subst (λ k. again k ≡ []) (omega arith) last
  no_iteration low (suc n) are last none =
      let zero_same : low + zero ≡ low = omega arith in
      let here = subst (λ k. (k < length input.text.now) × ((slice_index input.text.now k < 128) × (contains set (slice_index input.text.now k) ≡ true))) zero_same
      (are zero (omega arith)) in
      let ends = iteration input is lead.looping set begun.repeat_pc begun.swept begun.body_in outs solve g low here.0 here.1.0 here.1.1 in
      let on = at_repeat_on input is lead.looping set begun.repeat_pc begun.swept begun.body_in outs solve g (low + 1) (omega (arith, here.0)) in
      let on_from : (j : ℕ) → (low + 1) + j ≡ low + suc j = λ j. omega arith in
      let later = no_iteration (low + 1) n
      (λ j lt. subst (λ k. (k < length input.text.now) × ((slice_index input.text.now k < 128) × (contains set (slice_index input.text.now k) ≡ true)))
      (sym (on_from j)) (are (suc j) (omega (arith, lt))))
      (subst (λ k. again k ≡ []) (sym (on_from n)) last)
      (λ j some le. subst (λ k. after k ≡ []) (sym (on_from j)) (none (suc j) (omega arith) (omega (arith, le)))) in
      ends ∙ on ∙ none_both (again (low + 1)) (after (low + 1)) later (none 1 (omega arith) (omega arith))

  -- A possessive loop fails, if no iteration begins after the last one, and what follows fails there.
  pub none_before_end : (possessive : lead.possessive ≡ true) → (low n : ℕ) → 0 < low → AreIn set input.text.now low n → low ≤ length input.text.now →
      Fails input (record { pc = lead.looping.next; moved = true; position = low + n }) →
      Fails input (record { pc = lead.looping.body; moved = false; position = low + n }) → at_loop low ≡ []
  none_before_end possessive low n some are within next_fails body_fails =
      let fails : (j : ℕ) → j ≤ n → after (low + j) ≡ [] = λ j le.
      elim (cases_lt j n) [
        | inl lt ↦ let here = are j lt in
            following_fails input is lead.looping set begun.repeat_pc begun.swept (begun.possessive possessive) (low + j) (omega (arith, some))
            here.0 here.1.0 here.1.1 true outs g solve
        | inr ge ↦ subst (λ i. after (low + i) ≡ []) (omega (arith, le, ge)) (next_fails outs g solve)
      ] in
      at_loop_on low within
      ∙ none_both (again low) (after low) (no_iteration low n are (body_fails outs g solve) (λ j _ le. fails j le))
      (subst (λ k. after k ≡ []) (omega arith) (fails zero (omega arith)))

module _ (input : Input) (is : IsInput input) (forwards : input.rules.backwards ≡ false) (outs : ℕ → Out) (solve : Solve input outs) (g : Groups) where
  abbrev at_pc : (pc k : ℕ) → List MatchState
  at_pc pc k = outs input.index (at (record { pc = pc; moved = true; position = k }) g)

  -- a leaf that matches the character
  one_on : (pc next : ℕ) (chars : ByteBitmap) → IsCharacterAt input pc next chars → (k : ℕ) → IsIn chars input.text.now k → at_pc pc k ≡ at_pc next (k + 1)
  one_on pc next chars one k in_set = character input is outs solve g forwards pc next chars one true k in_set.inside in_set.ascii in_set.member

  -- At an ASCII character a leaf fails if what follows it does after that.
  pub one_none : (pc next : ℕ) (chars : ByteBitmap) → IsCharacterAt input pc next chars → (k : ℕ) → k < length input.text.now → slice_index input.text.now k < 128 →
      (IsIn chars input.text.now k → at_pc next (k + 1) ≡ []) → at_pc pc k ≡ []
  one_none pc next chars one k lt small none = by (contains chars (slice_index input.text.now k)) refl
    where
      by : (b : Bool) → contains chars (slice_index input.text.now k) ≡ b → at_pc pc k ≡ []
      by true member = let in_set : IsIn chars input.text.now k = record { inside = lt; ascii = small; member = member } in one_on pc next chars one k in_set ∙ none in_set
      by false other = other_character input is outs solve g forwards pc next chars one true k lt small other

  -- an optional leaf
  optional_on : (first pc : ℕ) (chars : ByteBitmap) → (optional : IsOptional input first pc chars) → (k : ℕ) → k ≤ length input.text.now →
      at_pc first k ≡ at_pc optional.choice k ++ at_pc pc k
  optional_on first pc chars optional k le =
      let u = subject input.rules input.text.now in
      let p : Place = record { pc = first; moved = true; position = k } in
      solved input is p (insts.Split optional.choice pc) optional.first_in optional.splits u.setting u.bytes outs u.direction g solve is.direction le

module _ (input : Input) (is : IsInput input) (lead : Lead) (pc : ℕ) (outs : ℕ → Out) (solve : Solve input outs) (g : Groups) where
  abbrev here : ℕ → List MatchState
  here k = outs input.index (at (record { pc = pc; moved = true; position = k }) g)

  -- An ASCII character, and no outcome before it.
  abbrev NoneAt : ℕ → Type 0
  NoneAt k = (k < length input.text.now) × ((slice_index input.text.now k < 128) × (here k ≡ []))

  -- the characters of the loop, if it begins at `pc`
  loop_led : IsBegun input lead pc → (low n : ℕ) → AreIn lead.set.now input.text.now low n → low ≤ length input.text.now → here low ≡ [] →
      (k : ℕ) → low ≤ k → k < low + n → NoneAt k
  loop_led begun low n are le none k above below =
      let in_set = are (k - low) (omega (arith, above, below)) in
      let same : low + (k - low) ≡ k = omega (arith, above) in
      subst NoneAt same (in_set.0, (in_set.1.0, none_in_loop input is lead pc begun outs solve g low n are le none (k - low) (omega (arith, above, below)) (omega (arith, in_set.0))))

  -- the character before the loop, and those of the loop
  after_led : (before : ByteBitmap) (after : BeginsAfterOne input lead pc before) → (low n : ℕ) → IsIn before input.text.now low →
      AreIn lead.set.now input.text.now (low + 1) n →
      outs input.index (at (record { pc = after.next; moved = true; position = low + 1 }) g) ≡ [] →
      (k : ℕ) → low ≤ k → k < (low + 1) + n → NoneAt k
  after_led before after low n in_before are none k above below =
      let forwards = after.begun.swept.forwards in
      let loop : (j : ℕ) → j ≤ n → (low + 1) + j ≤ length input.text.now →
      outs input.index (at (record { pc = after.next; moved = true; position = (low + 1) + j }) g) ≡ [] =
      none_in_loop input is lead after.next after.begun outs solve g (low + 1) n are (omega (arith, in_before.inside)) none in
      let next : (low + 1) + (k - low) ≡ k + 1 = omega (arith, above) in
      elim (cases_lt low k) [
        | inl lt ↦ let in_set = are (k - (low + 1)) (omega (arith, lt, below)) in
            let same : (low + 1) + (k - (low + 1)) ≡ k = omega (arith, lt) in
            let inside = subst (λ i. i < length input.text.now) same in_set.0 in
            let small = subst (λ i. slice_index input.text.now i < 128) same in_set.1.0 in (
              inside,
              (
                small,
                one_none input is forwards outs solve g pc after.next before after.one k inside small
                    (λ _. subst (λ i. outs input.index (at (record { pc = after.next; moved = true; position = i }) g) ≡ []) next
                    (loop (k - low) (omega (arith, above, below)) (omega (arith, above, inside)))),
              ),
            )
        | inr ge ↦ let same : low ≡ k = omega (arith, above, ge) in
            let inside = subst (λ i. i < length input.text.now) same in_before.inside in
            let small = subst (λ i. slice_index input.text.now i < 128) same in_before.ascii in (
              inside,
              (
                small,
                one_none input is forwards outs solve g pc after.next before after.one k inside small
                    (λ _. subst (λ i. outs input.index (at (record { pc = after.next; moved = true; position = i + 1 }) g) ≡ []) same none),
              ),
            )
      ]

  module _ (low end : ℕ) (led : IsLed lead input.text.now low end) where
    -- the characters of the loop and the one before it, if the loop or that one begins at `pc`
    none_led : BeginsAt input lead pc → here low ≡ [] → (k : ℕ) → low ≤ k → k < end → NoneAt k
    none_led begins none k above below = by lead.before (λ b. b.now) begins led.begins
      where
        by : {A : Type 0} (o : Option A) (set_of : A → ByteBitmap) → MatchOption o (IsBegun input lead pc) (λ b. BeginsAfterOne input lead pc (set_of b)) →
            MatchOption o (led.loop ≡ low) (λ b. (led.loop ≡ low + 1) × IsIn (set_of b) input.text.now low) → NoneAt k
        by None set_of begun same =
            loop_led begun low led.count (subst (λ i. AreIn lead.set.now input.text.now i led.count) same led.are_in)
            (omega (arith, led.within, same)) none k above (omega (arith, below, led.ends, same))
        by (Some b) set_of after begins =
            after_led (set_of b) after low led.count begins.1 (subst (λ i. AreIn lead.set.now input.text.now i led.count) begins.0 led.are_in)
            (sym (one_on input is after.begun.swept.forwards outs solve g pc after.next (set_of b) after.one low begins.1) ∙ none)
            k above (omega (arith, below, led.ends, begins.0))

    -- No outcome before a possessive loop, if no iteration begins after the last one, and what follows fails there.
    none_possessive : BeginsAt input lead pc → lead.possessive ≡ true → 0 < low →
        Fails input (record { pc = lead.looping.next; moved = true; position = end }) →
        Fails input (record { pc = lead.looping.body; moved = false; position = end }) → here low ≡ []
    none_possessive begins possessive some next_fails body_fails = by lead.before (λ b. b.now) begins led.begins
      where
        at_end : {i : ℕ} → led.loop ≡ i → end ≡ i + led.count
        at_end same = led.ends ∙ ap (λ i. i + led.count) same

        loop_none : (at_pc i : ℕ) → IsBegun input lead at_pc → led.loop ≡ i → 0 < i → outs input.index (at (record { pc = at_pc; moved = true; position = i }) g) ≡ []
        loop_none at_pc i begun same some =
            none_before_end input is lead at_pc begun outs solve g possessive i led.count some
            (subst (λ i. AreIn lead.set.now input.text.now i led.count) same led.are_in) (omega (arith, led.within, same))
            (subst (λ k. Fails input (record { pc = lead.looping.next; moved = true; position = k })) (at_end same) next_fails)
            (subst (λ k. Fails input (record { pc = lead.looping.body; moved = false; position = k })) (at_end same) body_fails)

        by : {A : Type 0} (o : Option A) (set_of : A → ByteBitmap) → MatchOption o (IsBegun input lead pc) (λ b. BeginsAfterOne input lead pc (set_of b)) →
            MatchOption o (led.loop ≡ low) (λ b. (led.loop ≡ low + 1) × IsIn (set_of b) input.text.now low) → here low ≡ []
        by None set_of begun same = loop_none pc low begun same some
        by (Some b) set_of after begins =
            one_on input is after.begun.swept.forwards outs solve g pc after.next (set_of b) after.one low begins.1
            ∙ loop_none after.next (low + 1) after.begun begins.0 (omega arith)

forwards_of : (input : Input) (lead : Lead) (pc : ℕ) → BeginsAt input lead pc → input.rules.backwards ≡ false
forwards_of input lead pc begins = by lead.before (λ b. b.now) begins
  where
    by : {A : Type 0} (o : Option A) (set_of : A → ByteBitmap) → MatchOption o (IsBegun input lead pc) (λ b. BeginsAfterOne input lead pc (set_of b)) →
        input.rules.backwards ≡ false
    by None set_of begun = begun.swept.forwards
    by (Some b) set_of after = after.begun.swept.forwards

module _ (input : Input) (is : IsInput input) (lead : Lead) (first pc : ℕ)
    (optional : MatchOption lead.optional (pc ≡ first) (λ o. IsOptional input first pc o.now)) (forwards : input.rules.backwards ≡ false)
    (outs : ℕ → Out) (solve : Solve input outs) (g : Groups) where
  abbrev at_start : ℕ → List MatchState
  at_start k = outs input.index (at (record { pc = first; moved = true; position = k }) g)

  abbrev at_rest : ℕ → List MatchState
  at_rest k = outs input.index (at (record { pc = pc; moved = true; position = k }) g)

  -- Without an outcome before an optional leaf there is none after it.
  none_after_optional : (k : ℕ) → k ≤ length input.text.now → at_start k ≡ [] → at_rest k ≡ []
  none_after_optional k le none = by lead.optional (λ o. o.now) optional
    where
      by : {A : Type 0} (o : Option A) (set_of : A → ByteBitmap) → MatchOption o (pc ≡ first) (λ o. IsOptional input first pc (set_of o)) → at_rest k ≡ []
      by None set_of same = subst (λ i. outs input.index (at (record { pc = i; moved = true; position = k }) g) ≡ []) (sym same) none
      by (Some o) set_of optional =
          none_second (outs input.index (at (record { pc = optional.choice; moved = true; position = k }) g)) (at_rest k)
          (sym (optional_on input is forwards outs solve g first pc (set_of o) optional k le) ∙ none)

  -- There is none before it either, if there is none after it where it is skipped, nor where it matches.
  none_at_start : (k : ℕ) → k < length input.text.now → slice_index input.text.now k < 128 → at_rest k ≡ [] →
      (at_rest (k + 1) ≡ []) ⊎ IsRequired lead input.text.now k → at_start k ≡ []
  none_at_start k lt small none next = by lead.optional (λ o. o.now) optional next
    where
      by : {A : Type 0} (o : Option A) (set_of : A → ByteBitmap) → MatchOption o (pc ≡ first) (λ o. IsOptional input first pc (set_of o)) →
          (at_rest (k + 1) ≡ []) ⊎ IfSome o (λ o. IsIn (set_of o) input.text.now k → ⊥) → at_start k ≡ []
      by None set_of same next = subst (λ i. outs input.index (at (record { pc = i; moved = true; position = k }) g) ≡ []) same none
      by (Some o) set_of optional next =
          optional_on input is forwards outs solve g first pc (set_of o) optional k (omega (arith, lt))
          ∙ none_both (outs input.index (at (record { pc = optional.choice; moved = true; position = k }) g)) (at_rest k)
          (one_none input is forwards outs solve g optional.choice pc (set_of o) optional.one k lt small
          (λ in_set. elim next [ inl none ↦ none | inr required ↦ absurd (required in_set) ])) none

  -- none before the optional leaf at these characters, if there is none after it
  none_from : (low end high : ℕ) → high ≤ end → ((k : ℕ) → k + 1 ≡ end → k < high → low ≤ k → IsRequired lead input.text.now k) →
      ((k : ℕ) → low ≤ k → k < end → NoneAt input is lead pc outs solve g k) → (k : ℕ) → low ≤ k → k < high → at_start k ≡ []
  none_from low end high within required none k above below =
      let here = none k above (omega (arith, below, within)) in
      none_at_start k here.0 here.1.0 here.1.1
      (elim (cases_lt (k + 1) end) [
        | inl lt ↦ inl (none (k + 1) (omega (arith, above)) lt).1.1
        | inr ge ↦ inr (required k (omega (arith, ge, below, within)) below above)
      ])

module _ (input : Input) (is : IsInput input) (lead : Lead) (is_lead : IsLead input lead) (outs : ℕ → Out) (solve : Solve input outs)
    (low end high : ℕ) (led : IsLed lead input.text.now low end) (within : high ≤ end)
    (required : (k : ℕ) → k + 1 ≡ end → k < high → low ≤ k → IsRequired lead input.text.now k) where
  abbrev none_at : (pc k : ℕ) → Groups → Type 0
  none_at pc k g = outs input.index (at (record { pc = pc; moved = true; position = k }) g) ≡ []

  abbrev rest : BeginsWithin input lead is_lead.begins.pc
  rest = is_lead.begins.rest

  forwards : input.rules.backwards ≡ false
  forwards = forwards_of input lead rest.contents rest.begins

  -- If the loop is in no group, the groups are the same before it.
  pub none_after_first : lead.grouped ≡ false → (g : Groups) → low ≤ length input.text.now → none_at input.first low g →
      (k : ℕ) → low ≤ k → k < high → none_at input.first k g
  none_after_first ungrouped g le none k above below =
      let pc = is_lead.begins.pc in
      let optional = subst (λ i. MatchOption lead.optional (pc ≡ i) (λ o. IsOptional input i pc o.now)) (is_lead.ungrouped ungrouped) is_lead.begins.optional in
      let begins = subst (BeginsAt input lead) (rest.ungrouped ungrouped) rest.begins in
      none_from input is lead input.first pc optional forwards outs solve g low end high within required
      (none_led input is lead pc outs solve g low end led begins
      (none_after_optional input is lead input.first pc optional forwards outs solve g low le none)) k above below

  -- none where a capture group begins, if there is none in it
  none_into : (pc contents k : ℕ) → LeadsInto input pc contents → k ≤ length input.text.now → ((g : Groups) → none_at contents k g) → (g : Groups) → none_at pc k g
  none_into pc contents k (inl same) le none g = subst (λ i. none_at i k g) same (none g)
  none_into pc contents k (inr group) le none g =
      let u = subject input.rules input.text.now in
      let p : Place = record { pc = pc; moved = true; position = k } in
      solved input is p (insts.BeginGroup contents) group.inside group.begins u.setting u.bytes outs u.direction g solve is.direction le
      ∙ none (record { captures = g.captures; begins = k ∷ g.begins })

  -- No match begins at these characters, if the loop is possessive and what follows fails after them.
  module _ (possessive : lead.possessive ≡ true) (some : 0 < low) (next_fails : Fails input (record { pc = lead.looping.next; moved = true; position = end }))
      (body_fails : Fails input (record { pc = lead.looping.body; moved = false; position = end })) where
    none_inside : (g : Groups) (k : ℕ) → low ≤ k → k < end → NoneAt input is lead rest.contents outs solve g k
    none_inside g =
        none_led input is lead rest.contents outs solve g low end led rest.begins
        (none_possessive input is lead rest.contents outs solve g low end led rest.begins possessive some next_fails body_fails)

    none_at_rest : (g : Groups) (k : ℕ) → low ≤ k → k < end → NoneAt input is lead is_lead.begins.pc outs solve g k
    none_at_rest g k above below =
        let here = none_inside g k above below in
        (here.0, (here.1.0, none_into is_lead.begins.pc rest.contents k rest.into (omega (arith, here.0)) (λ g. (none_inside g k above below).1.1) g))

    pub none_before_last : (g : Groups) → (k : ℕ) → low ≤ k → k < high → none_at input.first k g
    none_before_last g k above below =
        none_into input.first is_lead.start k is_lead.into (omega (arith, (none_inside g k above (omega (arith, below, within))).0))
        (λ g. none_from input is lead is_lead.start is_lead.begins.pc is_lead.begins.optional forwards outs solve g low end high within required
        (none_at_rest g) k above below) g

    -- nor at the character before them, if only an optional leaf can match that
    pub none_before_first : (k : ℕ) → k + 1 ≡ low → low < end → IsBeforeLeaf lead input.text.now k → (g : Groups) → none_at input.first k g
    none_before_first k next more before =
        none_into input.first is_lead.start k is_lead.into (omega (arith, before.inside)) (λ g.
        none_at_start input is lead is_lead.start is_lead.begins.pc is_lead.begins.optional forwards outs solve g k before.inside before.ascii
        (none_into is_lead.begins.pc rest.contents k rest.into (omega (arith, before.inside)) (λ g. by g lead.before (λ b. b.now) rest.begins before.other) g)
        (inl (subst (λ i. none_at is_lead.begins.pc i g) (sym next) (none_at_rest g low (omega arith) more).1.1)))
      where
        by : (g : Groups) → {A : Type 0} (o : Option A) (set_of : A → ByteBitmap) →
            MatchOption o (IsBegun input lead rest.contents) (λ b. BeginsAfterOne input lead rest.contents (set_of b)) →
            MatchOption o ⊥ (λ b. IsIn (set_of b) input.text.now k → ⊥) → none_at rest.contents k g
        by g None set_of begun other = absurd other
        by g (Some b) set_of after other =
            one_none input is forwards outs solve g rest.contents after.next (set_of b) after.one k before.inside before.ascii (λ in_set. absurd (other in_set))

-- the outcomes of the program are those of its first instruction
pub entry_is : (code : Code) (tables : Tables) (text : List ℕ) (input : Input) → IsFor code tables text input → (outs : ℕ → Out) → (k : ℕ) →
    outcomes_from code tables text outs k
    ≡ outs input.index (at (record { pc = input.first; moved = true; position = k }) (record { captures = replicate (code_groups code) None; begins = [] }))
entry_is code tables text input for outs k =
    let program = code_routines code in
    let setting = setting_with code tables in
    let i = length program - 1 in
    let r = routine_of input in
    let s = initial_state (code_groups code) k in
    let here : slice_get program i ≡ Some r = ap₂ (λ c j. slice_get (code_routines c) j) (sym for.code) (sym for.index) ∙ routine-is input for.is in
    ap (λ o. outs i (start setting text o s)) here
    ∙ ap₂ (λ j pc. outs j (record { pc = pc; moved = true; state = s; begins = [] })) (sym for.index) (sym for.is.first)

-- a solution of the program is one for its input
pub solves_for : (code : Code) (tables : Tables) (text : List ℕ) (input : Input) → IsFor code tables text input → (outs : ℕ → Out) →
    IsSolution (setting_with code tables) text (code_routines code) outs → Solve input outs
solves_for code tables text input for outs solution =
    subst (λ x. IsSolution (subject input.rules x).setting x (code_routines input.code.now) outs) (sym for.same_text)
    (subst (λ s. IsSolution s text (code_routines input.code.now) outs) (sym for.setting)
    (subst (λ c. IsSolution (setting_with code tables) text (code_routines c) outs) (sym for.code) solution))

module _ (code : Code) (tables : Tables) (text : List ℕ) (input : Input) (for : IsFor code tables text input) (lead : Lead) (is_lead : IsLead input lead)
    (outs : ℕ → Out) (solution : IsSolution (setting_with code tables) text (code_routines code) outs) (low end high : ℕ) (led : IsLed lead text low end)
    (within : high ≤ end) (required : (k : ℕ) → k + 1 ≡ end → k < high → low ≤ k → IsRequired lead text k) where
  abbrev unset : Groups
  unset = record { captures = replicate (code_groups code) None; begins = [] }

  abbrev solve : Solve input outs
  solve = solves_for code tables text input for outs solution

  led_here : IsLed lead input.text.now low end
  led_here = subst (λ x. IsLed lead x low end) (sym for.same_text) led

  required_here : (k : ℕ) → k + 1 ≡ end → k < high → low ≤ k → IsRequired lead input.text.now k
  required_here = subst (λ x. (k : ℕ) → k + 1 ≡ end → k < high → low ≤ k → IsRequired lead x k) (sym for.same_text) required

  -- If no match begins at the first of these characters, none begins at another one, if the loop is in no group.
  pub none_after : lead.grouped ≡ false → low ≤ length text → outcomes_from code tables text outs low ≡ [] →
      (k : ℕ) → low < k → k < high → outcomes_from code tables text outs k ≡ []
  none_after ungrouped le none k above below =
      entry_is code tables text input for outs k
      ∙ none_after_first input for.is lead is_lead outs solve low end high led_here within required_here ungrouped unset
      (subst (λ x. low ≤ length x) (sym for.same_text) le) (sym (entry_is code tables text input for outs low) ∙ none) k (omega (arith, above)) below

  -- No match begins at one of them, if the loop is possessive and what follows fails after them, nor at the character before
  -- them, if only an optional leaf can match that.
  pub none_passed : lead.possessive ≡ true → 0 < low →
      Fails input (record { pc = lead.looping.next; moved = true; position = end }) →
      Fails input (record { pc = lead.looping.body; moved = false; position = end }) →
      (first : ℕ) → low ≤ first + 1 → (first < low → (low < end) × IsBeforeLeaf lead text first) →
      (k : ℕ) → first ≤ k → k < high → outcomes_from code tables text outs k ≡ []
  none_passed possessive some next_fails body_fails first near before k above below =
      entry_is code tables text input for outs k
      ∙ elim (cases_lt k low) [
        | inl lt ↦ let same : first ≡ k = omega (arith, near, above, lt) in
            let here = before (omega (arith, above, lt)) in
            none_before_first input for.is lead is_lead outs solve low end high led_here within required_here possessive some next_fails body_fails
            k (omega (arith, lt, near, above)) here.0
            (subst (λ x. IsBeforeLeaf lead x k) (sym for.same_text) (subst (IsBeforeLeaf lead text) same here.1)) unset
        | inr ge ↦ none_before_last input for.is lead is_lead outs solve low end high led_here within required_here possessive some next_fails body_fails
            unset k ge below
      ]
