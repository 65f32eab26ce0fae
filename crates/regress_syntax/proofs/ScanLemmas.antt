-- The scan passes over what the productions without recursion parse.
use Rattle.std.proofs.Common.{◌≡◌, ℕ, zero, suc, Bool, true, false, not, cond, ◌&&◌, ◌||◌, ◌==◌, nat_le, List, [], ◌∷◌, length, take, drop, Option, Some, None, refl, sym, ◌∙◌, subst, arith, eqb-true}
use Rattle.std.proofs.lemmas.Bool.{false≢true}
use Rattle.std.proofs.lemmas.Bool.Decides.{nat_tests}
use Rattle.std.proofs.lemmas.Option.{none-some, same_Some}
use Rattle.std.specs.List.{list_all}
use Rattle.regress_base.specs.Intervals.{code_point_max}
use Rattle.regress_base.specs.Table.{Table}
use Rattle.regress_lexer.specs.declared.dialect.Dialect.{Dialect}
use Rattle.regress_lexer.specs.Dialects.{is_lone_u}
use Rattle.regress_lexer.specs.Source.{Source, Found, ◌>>=◌, found_map, opening, closing, bar, question_mark, is_at, is_plain}
use Rattle.regress_lexer.specs.Digits.{is_between, is_decimal, is_letter, is_octal, is_hex, control, number, front, after, hex_at}
use Rattle.regress_lexer.specs.Escapes.{braced_hex_at, unit_at, trail_surrogate_at, paired, with_trail_surrogate, unicode_at, or_identity_escape, octal_digits, letter_escape, begins_with_digit, is_syntax_character, control_at, other_escape, escape_at, character_escape_at}
use Rattle.regress_lexer.specs.Quantifiers.{RepeatBounds, count_at, closed_brace, maximum_at, quantifier_prefix_by, greedy_or_lazy, quantifier_at}
use Rattle.regress_syntax.specs.GroupTokens.{GroupToken}
use Rattle.regress_syntax.specs.Scan.{Mode, plain, escape, class, class_escape, is_insignificant, tokens}
use Rattle.regress_lexer.proofs.lemmas.Digits.{and_both}

-- ---- code points that the scan ignores

pub quiet_hex : (c : ℕ) → is_hex c ≡ true → is_insignificant c ≡ true
quiet_hex c e = grind (arith, nat_tests)

pub quiet_octal : (c : ℕ) → is_octal c ≡ true → is_insignificant c ≡ true
quiet_octal c e = grind (arith, nat_tests)

pub quiet_decimal : (c : ℕ) → is_decimal c ≡ true → is_insignificant c ≡ true
quiet_decimal c e = grind (arith, nat_tests)

pub quiet_letter : (c : ℕ) → is_letter c ≡ true → is_insignificant c ≡ true
quiet_letter c e = grind (arith, nat_tests)

pub quiet_plain : (c : ℕ) → is_plain c ≡ true → is_insignificant c ≡ true
quiet_plain c e = grind (arith, nat_tests)

pub unquiet : (p a b c d e : Bool) → not (p || a || b || c || d || e) ≡ true →
    (p ≡ false) × (a ≡ false) × (b ≡ false) × (c ≡ false) × (d ≡ false) × (e ≡ false)
unquiet false false false false false false h = (refl, refl, refl, refl, refl, refl)
unquiet true a b c d e h = absurd (false≢true h)
unquiet false true b c d e h = absurd (false≢true h)
unquiet false false true c d e h = absurd (false≢true h)
unquiet false false false true d e h = absurd (false≢true h)
unquiet false false false false true e h = absurd (false≢true h)
unquiet false false false false false true h = absurd (false≢true h)

-- ---- from one position to another

-- The scan finds the same marks from one position and mode as from another.
pub record Passes (sets : Bool) (table : Table) (m : Mode) (t : Source) (n : Mode) (rest : Source) : Type 0 where
  pub same : tokens sets table m t ≡ tokens sets table n rest

-- If something is found, the scan finds the same marks from the source after it.
pub record Leads {A : Type 0} (sets : Bool) (table : Table) (m : Mode) (t : Source) (n : Mode) (found : Found A) : Type 0 where
  pub each : (x : A × Source) → found ≡ Some x → Passes sets table m t n x.1

-- If something is found, these are its marks and those of the source after it.
pub record Gives {A : Type 0} (ms : List GroupToken) (of : A → Source → List GroupToken) (found : Found A) : Type 0 where
  pub each : (x : A × Source) → found ≡ Some x → ms ≡ of x.0 x.1

-- where a production is parsed: outside of classes, or inside one
pub data Home : Type 0 where
  in_text : Home
  in_class : (depth deepest : ℕ) → Home

abbrev pub home : Home → Mode
home in_text = plain
home (in_class depth deepest) = class depth deepest

-- the mode after a backslash there
abbrev pub after_backslash : Home → Mode
after_backslash in_text = escape
after_backslash (in_class depth deepest) = class_escape depth deepest

pub gives_none : {A : Type 0} {ms : List GroupToken} {of : A → Source → List GroupToken} → Gives ms of None
gives_none = record { each = λ x e. absurd (none-some x e) }

pub gives_some : {A : Type 0} {ms : List GroupToken} {of : A → Source → List GroupToken} (x : A × Source) → ms ≡ of x.0 x.1 → Gives ms of (Some x)
gives_some {A} {ms} {of} x h = record { each = λ y e. subst (λ (z : A × Source). ms ≡ of z.0 z.1) (same_Some x y e) h }

-- The same holds of equal lists of marks.
pub gives_after : {A : Type 0} {ms ns : List GroupToken} {of : A → Source → List GroupToken} {found : Found A} → ms ≡ ns → Gives ns of found → Gives ms of found
gives_after e h = record { each = λ x found. e ∙ h.each x found }

pub gives_then : {A B : Type 0} {ms : List GroupToken} (of : A → Source → List GroupToken) {to : B → Source → List GroupToken} (found : Found A)
    (next : A × Source → Found B) → Gives ms of found → ((x : A × Source) → Gives (of x.0 x.1) to (next x)) → Gives ms to (found >>= next)
gives_then of None next h k = gives_none
gives_then of (Some x) next h k = gives_after (h.each x refl) (k x)

pub gives_map : {A B : Type 0} {ms : List GroupToken} (of : A → Source → List GroupToken) {to : B → Source → List GroupToken} (f : A → B) (found : Found A) →
    Gives ms of found → ((x : A) (t : Source) → of x t ≡ to (f x) t) → Gives ms to (found_map f found)
gives_map of f None h k = gives_none
gives_map of f (Some x) h k = gives_some (f x.0, x.1) (h.each x refl ∙ k x.0 x.1)

pub gives_cond : {A : Type 0} {ms : List GroupToken} {of : A → Source → List GroupToken} (b : Bool) (x y : Found A) → (b ≡ true → Gives ms of x) →
    (b ≡ false → Gives ms of y) → Gives ms of (cond b x y)
gives_cond true x y h k = h refl
gives_cond false x y h k = k refl

module _ {sets : Bool} {table : Table} where
  pub gives_leads : {A : Type 0} {m n : Mode} {t : Source} {found : Found A} → Leads sets table m t n found →
      Gives (tokens sets table m t) (λ _ rest. tokens sets table n rest) found
  gives_leads h = record { each = λ x e. (h.each x e).same }

  pub passes_same : {m : Mode} {t : Source} → Passes sets table m t m t
  passes_same = record { same = refl }

  pub passes_then : {m n o : Mode} {t s rest : Source} → Passes sets table m t n s → Passes sets table n s o rest → Passes sets table m t o rest
  passes_then h k = record { same = h.same ∙ k.same }

  pub leads_none : {A : Type 0} {m : Mode} {t : Source} {n : Mode} → Leads {A = A} sets table m t n None
  leads_none = record { each = λ x e. absurd (none-some x e) }

  pub leads_some : {A : Type 0} {m : Mode} {t : Source} {n : Mode} (x : A × Source) → Passes sets table m t n x.1 → Leads sets table m t n (Some x)
  leads_some {A} {m} {t} {n} x h = record { each = λ y e. subst (λ (z : A × Source). Passes sets table m t n z.1) (same_Some x y e) h }

  pub leads_after : {A : Type 0} {m n o : Mode} {t s : Source} {found : Found A} → Passes sets table m t n s → Leads sets table n s o found →
      Leads sets table m t o found
  leads_after h k = record { each = λ x e. passes_then h (k.each x e) }

  pub leads_then : {A B : Type 0} {m n o : Mode} {t : Source} (found : Found A) (next : A × Source → Found B) →
      Leads sets table m t n found → ((x : A × Source) → Leads sets table n x.1 o (next x)) → Leads sets table m t o (found >>= next)
  leads_then None next h k = leads_none
  leads_then (Some x) next h k = leads_after (h.each x refl) (k x)

  pub leads_map : {A B : Type 0} {m n : Mode} {t : Source} (f : A → B) (found : Found A) → Leads sets table m t n found →
      Leads sets table m t n (found_map f found)
  leads_map f None h = leads_none
  leads_map f (Some x) h = leads_some (f x.0, x.1) (h.each x refl)

  pub leads_cond : {A : Type 0} {m n : Mode} {t : Source} (b : Bool) (x y : Found A) → (b ≡ true → Leads sets table m t n x) →
      (b ≡ false → Leads sets table m t n y) → Leads sets table m t n (cond b x y)
  leads_cond true x y h k = h refl
  leads_cond false x y h k = k refl

  -- ---- single code points

  pub pass_quiet : (w : Home) (c : ℕ) (t : Source) → is_insignificant c ≡ true → Passes sets table (home w) (c ∷ t) (home w) t
  unfolding tokens
  pass_quiet in_text c t e =
      let no = unquiet (c == 92) (c == 91) (c == 93) (c == opening) (c == closing) (c == bar) e in
      record { same = rw (no.0, no.1, no.3, no.4, no.5) refl }
  pass_quiet (in_class depth deepest) c t e =
      let no = unquiet (c == 92) (c == 91) (c == 93) (c == opening) (c == closing) (c == bar) e in
      record { same = rw (no.0, no.1, no.2) refl }

  pub pass_at : (w : Home) (k : ℕ) (t : Source) → is_insignificant k ≡ true → is_at k t ≡ true → Passes sets table (home w) t (home w) (drop 1 t)
  pass_at w k [] quiet e = absurd (false≢true e)
  pass_at w k (c ∷ t) quiet e = pass_quiet w c t (subst (λ d. is_insignificant d ≡ true) (sym (eqb-true c k e)) quiet)

  pub pass_backslash : (w : Home) (t : Source) → Passes sets table (home w) (92 ∷ t) (after_backslash w) t
  unfolding tokens
  pass_backslash in_text t = record { same = refl }
  pass_backslash (in_class depth deepest) t = record { same = refl }

  pub pass_escaped : (w : Home) (c : ℕ) (t : Source) → Passes sets table (after_backslash w) (c ∷ t) (home w) t
  unfolding tokens
  pass_escaped in_text c t = record { same = refl }
  pass_escaped (in_class depth deepest) c t = record { same = refl }

  -- ---- runs of code points

  pub pass_taken : (w : Home) (p : ℕ → Bool) → ((c : ℕ) → p c ≡ true → is_insignificant c ≡ true) → (n : ℕ) (t : Source) →
      list_all p (take n t) ≡ true → Passes sets table (home w) t (home w) (drop n t)
  pass_taken w p quiet zero t e = passes_same
  pass_taken w p quiet (suc n) [] e = passes_same
  pass_taken w p quiet (suc n) (c ∷ t) e =
      let both = and_both (p c) (list_all p (take n t)) e in
      passes_then (pass_quiet w c t (quiet c both.0)) (pass_taken w p quiet n t both.1)

  pub pass_after : (w : Home) (p : ℕ → Bool) → ((c : ℕ) → p c ≡ true → is_insignificant c ≡ true) → (t : Source) →
      Passes sets table (home w) t (home w) (after p t)
  unfolding after
  pass_after w p quiet [] = passes_same
  pass_after w p quiet (c ∷ t) = by (p c) refl (pass_after w p quiet t)
    where
      by : (q : Bool) → p c ≡ q → Passes sets table (home w) t (home w) (after p t) →
          Passes sets table (home w) (c ∷ t) (home w) (cond q (after p t) (c ∷ t))
      by true e more = passes_then (pass_quiet w c t (quiet c e)) more
      by false e more = passes_same

  -- The code points among the first n that pass a test are passed.
  pub pass_front : (w : Home) (p : ℕ → Bool) → ((c : ℕ) → p c ≡ true → is_insignificant c ≡ true) → (n : ℕ) (t : Source) →
      Passes sets table (home w) t (home w) (drop (length (front p (take n t))) t)
  unfolding front
  pass_front w p quiet zero t = passes_same
  pass_front w p quiet (suc n) [] = passes_same
  pass_front w p quiet (suc n) (c ∷ t) = by (p c) refl (pass_front w p quiet n t)
    where
      by : (q : Bool) → p c ≡ q → Passes sets table (home w) t (home w) (drop (length (front p (take n t))) t) →
          Passes sets table (home w) (c ∷ t) (home w) (drop (length (cond q (c ∷ front p (take n t)) [])) (c ∷ t))
      by true e more = passes_then (pass_quiet w c t (quiet c e)) more
      by false e more = passes_same

  -- ---- escapes

  lead_hex_at : (w : Home) (n : ℕ) (t : Source) → Leads sets table (home w) t (home w) (hex_at n t)
  lead_hex_at w n t =
      leads_cond (length (take n t) == n && list_all is_hex (take n t)) _ _
      (λ e. leads_some (number 16 (take n t), drop n t) (pass_taken w is_hex quiet_hex n t (and_both _ _ e).1))
      (λ _. leads_none)

  lead_braced_hex_at : (w : Home) (t : Source) → Leads sets table (home w) t (home w) (braced_hex_at t)
  lead_braced_hex_at w t =
      leads_cond (not (length (front is_hex t) == 0) && is_at 125 (after is_hex t) && nat_le (number 16 (front is_hex t)) code_point_max) _ _
      (λ e. leads_some (number 16 (front is_hex t), drop 1 (after is_hex t))
      (passes_then (pass_after w is_hex quiet_hex t) (pass_at w 125 (after is_hex t) refl (and_both _ _ (and_both _ _ e).0).1)))
      (λ _. leads_none)

  -- The start of an escape with `\u` is passed.
  pass_unicode : (w : Home) (t : Source) → is_at 92 t ≡ true → is_at 117 (drop 1 t) ≡ true → Passes sets table (home w) t (home w) (drop 2 t)
  pass_unicode w [] e k = absurd (false≢true e)
  pass_unicode w (c ∷ []) e k = absurd (false≢true k)
  pass_unicode w (c ∷ d ∷ t) e k =
      subst (λ x. Passes sets table (home w) (x ∷ d ∷ t) (home w) t) (sym (eqb-true c 92 e))
      (passes_then (pass_backslash w (d ∷ t)) (pass_escaped w d t))

  lead_unit_at : (w : Home) (t : Source) → Leads sets table (home w) t (home w) (unit_at t)
  lead_unit_at w t =
      leads_cond (is_at 92 t && is_at 117 (drop 1 t)) _ _
      (λ e. let both = and_both _ _ e in leads_after (pass_unicode w t both.0 both.1) (lead_hex_at w 4 (drop 2 t)))
      (λ _. leads_none)

  lead_second_half_at : (w : Home) (t : Source) → Leads sets table (home w) t (home w) (trail_surrogate_at t)
  lead_second_half_at w t =
      leads_then (unit_at t) _ (lead_unit_at w t)
      (λ x. leads_cond (is_between 0xDC00 0xDFFF x.0) _ _ (λ _. leads_some x passes_same) (λ _. leads_none))

  lead_halves : (w : Home) (high : ℕ) (t : Source) (second : Found ℕ) → Leads sets table (home w) t (home w) second →
      Leads sets table (home w) t (home w) (elim second as (λ _. Found ℕ) [ None ↦ Some (high, t) | Some low ↦ Some (paired high low.0, low.1) ])
  lead_halves w high t None h = leads_some (high, t) passes_same
  lead_halves w high t (Some low) h = leads_some (paired high low.0, low.1) (h.each low refl)

  lead_with_second_half : (w : Home) (x : ℕ × Source) → Leads sets table (home w) x.1 (home w) (with_trail_surrogate x)
  lead_with_second_half w (high, t) =
      leads_cond (is_between 0xD800 0xDBFF high) _ _
      (λ _. lead_halves w high t (trail_surrogate_at t) (lead_second_half_at w t))
      (λ _. leads_some (high, t) passes_same)

  pub lead_unicode_at : (w : Home) (t : Source) → Leads sets table (home w) t (home w) (unicode_at t)
  unfolding unicode_at
  lead_unicode_at w t =
      leads_cond (is_at 123 t) _ _
      (λ e. leads_after (pass_at w 123 t refl e) (lead_braced_hex_at w (drop 1 t)))
      (λ _. leads_then (hex_at 4 t) with_trail_surrogate (lead_hex_at w 4 t) (lead_with_second_half w))

  lead_or_itself : (w : Home) (unicode : Bool) (c : ℕ) (t : Source) (found : Found ℕ) → Leads sets table (home w) t (home w) found →
      Leads sets table (home w) t (home w) (or_identity_escape unicode c t found)
  lead_or_itself w unicode c t None h =
      leads_cond unicode _ _ (λ _. leads_none) (λ _. leads_some (c, t) passes_same)
  lead_or_itself w unicode c t (Some x) h = h

  lead_control_at : (w : Home) (t : Source) → Leads sets table (home w) t (home w) (control_at t)
  lead_control_at w [] = leads_none
  lead_control_at w (d ∷ t) =
      leads_cond (is_letter d) _ _ (λ e. leads_some (control d, t) (pass_quiet w d t (quiet_letter d e))) (λ _. leads_none)

  pass_octal_digits : (w : Home) (c : ℕ) (t : Source) → is_octal c ≡ true →
      Passes sets table (home w) t (home w) (drop (length (octal_digits c t)) (c ∷ t))
  unfolding front
  pass_octal_digits w c t octal = by (nat_le c 51)
    where
      by : (q : Bool) → Passes sets table (home w) t (home w) (drop (length (front is_octal (take (cond q 3 2) (c ∷ t)))) (c ∷ t))
      by true = rw octal (pass_front w is_octal quiet_octal 2 t)
      by false = rw octal (pass_front w is_octal quiet_octal 1 t)

  -- An escape is passed, after its first code point.
  lead_other_escape : (w : Home) (unicode : Bool) (c : ℕ) (t : Source) → Leads sets table (home w) t (home w) (other_escape unicode c t)
  lead_other_escape w unicode c t =
      leads_cond (c == 99) _ _ (λ _. lead_control_at w t)
      (λ _. leads_cond (c == 48 && not (begins_with_digit t)) _ _ (λ _. leads_some (0, t) passes_same)
      (λ _. leads_cond (c == 120) _ _ (λ _. lead_or_itself w unicode c t (hex_at 2 t) (lead_hex_at w 2 t))
      (λ _. leads_cond (c == 117) _ _ (λ _. lead_or_itself w unicode c t (unicode_at t) (lead_unicode_at w t))
      (λ _. leads_cond (not unicode && is_octal c) _ _
      (λ e. leads_some (number 8 (octal_digits c t), drop (length (octal_digits c t)) (c ∷ t)) (pass_octal_digits w c t (and_both _ _ e).1))
      (λ _. leads_cond (is_syntax_character c || not unicode) _ _ (λ _. leads_some (c, t) passes_same)
      (λ _. leads_none))))))

  lead_escape_by : (w : Home) (unicode : Bool) (c : ℕ) (t : Source) (letter : Option ℕ) →
      Leads sets table (home w) t (home w) (elim letter as (λ _. Found ℕ) [ None ↦ other_escape unicode c t | Some x ↦ Some (x, t) ])
  lead_escape_by w unicode c t None = lead_other_escape w unicode c t
  lead_escape_by w unicode c t (Some x) = leads_some (x, t) passes_same

  pub lead_escape_at : (w : Home) (unicode : Bool) (t : Source) → Leads sets table (after_backslash w) t (home w) (escape_at unicode t)
  unfolding escape_at
  lead_escape_at w unicode [] = leads_none
  lead_escape_at w unicode (c ∷ t) = leads_after (pass_escaped w c t) (lead_escape_by w unicode c t (letter_escape c))

  pub lead_character_escape_at : (w : Home) (dialect : Dialect) (unicode : Bool) (t : Source) →
      Leads sets table (after_backslash w) t (home w) (character_escape_at dialect unicode t)
  lead_character_escape_at w dialect unicode [] = leads_none
  lead_character_escape_at w dialect unicode (c ∷ t) =
      leads_cond (is_lone_u dialect unicode c t) _ _ (λ _. leads_after (pass_escaped w c t) (leads_some (c, t) passes_same))
      (λ _. lead_escape_at w unicode (c ∷ t))

  -- ---- quantifiers, outside of classes

  lead_count_at : (t : Source) → Leads sets table plain t plain (count_at t)
  lead_count_at t =
      leads_cond (length (front is_decimal t) == 0) _ _ (λ _. leads_none)
      (λ _. leads_some (_, after is_decimal t) (pass_after in_text is_decimal quiet_decimal t))

  lead_closed_brace : (times : RepeatBounds) (t : Source) → Leads sets table plain t plain (closed_brace times t)
  lead_closed_brace times t =
      leads_cond (is_at 125 t) _ _ (λ e. leads_some (times, drop 1 t) (pass_at in_text 125 t refl e)) (λ _. leads_none)

  lead_most_at : (x : ℕ × Source) → Leads sets table plain x.1 plain (maximum_at x)
  lead_most_at (least, t) =
      leads_cond (is_at 44 t) _ _
      (λ e. leads_after (pass_at in_text 44 t refl e)
      (leads_cond (is_at 125 (drop 1 t)) _ _ (λ _. lead_closed_brace (least, None) (drop 1 t))
      (λ _. leads_then (count_at (drop 1 t)) (λ x. closed_brace (least, Some x.0) x.1) (lead_count_at (drop 1 t))
      (λ x. lead_closed_brace (least, Some x.0) x.1))))
      (λ _. lead_closed_brace (least, Some least) t)

  lead_times_by : (c : ℕ) (t : Source) → Leads sets table plain (c ∷ t) plain (quantifier_prefix_by c t)
  lead_times_by c t =
      leads_cond (c == 42) _ _ (λ e. leads_some ((0, None), t) (pass_at in_text 42 (c ∷ t) refl e))
      (λ _. leads_cond (c == 43) _ _ (λ e. leads_some ((1, None), t) (pass_at in_text 43 (c ∷ t) refl e))
      (λ _. leads_cond (c == question_mark) _ _ (λ e. leads_some ((0, Some 1), t) (pass_at in_text 63 (c ∷ t) refl e))
      (λ _. leads_cond (c == 123) _ _
      (λ e. leads_after (pass_at in_text 123 (c ∷ t) refl e) (leads_then (count_at t) maximum_at (lead_count_at t) lead_most_at))
      (λ _. leads_none))))

  lead_greedy_or_lazy : (x : RepeatBounds × Source) → Leads sets table plain x.1 plain (greedy_or_lazy x)
  lead_greedy_or_lazy (times, t) = leads_some (_, cond (is_at question_mark t) (drop 1 t) t) (by (is_at question_mark t) refl)
    where
      by : (q : Bool) → is_at question_mark t ≡ q → Passes sets table plain t plain (cond q (drop 1 t) t)
      by true e = pass_at in_text 63 t refl e
      by false e = passes_same

  pub lead_quantifier_at : (t : Source) → Leads sets table plain t plain (quantifier_at t)
  unfolding quantifier_at
  lead_quantifier_at [] = leads_none
  lead_quantifier_at (c ∷ t) = leads_then (quantifier_prefix_by c t) greedy_or_lazy (lead_times_by c t) lead_greedy_or_lazy
