-- The first errors that the scan notes, from one code point to the next.
use Rattle.std.proofs.Common.{◌≡◌, ℕ, ◌+◌, ◌-◌, max, Bool, true, false, cond, ◌==◌, ◌&&◌, [], ◌∷◌, drop, length, Option, Some, None, refl, sym, ap, ◌∙◌, subst, arith}
use Rattle.std.specs.Option.{option_or}
use Rattle.std.proofs.lemmas.Option.{none-some, same_Some}
use Rattle.regress_base.specs.Table.{Table}
use Rattle.regress_lexer.specs.Source.{Source, opening, closing, bar, question_mark, is_at}
use Rattle.regress_syntax.specs.GroupTokens.{GroupToken, opens, captures, closes, next, nests}
use Rattle.regress_syntax.specs.Names.{group_name_at}
use Rattle.regress_syntax.specs.Syntax.{Name}
use Rattle.regress_syntax.specs.Scan.{Mode, plain, escape, class, class_escape, mode_after, token_at, opened_at, is_insignificant}
use Rattle.regress_syntax.specs.FirstErrors.{Flaw, unopened, too_deep, is_flaw, open_groups_after, remaining_at}
use Rattle.regress_syntax.specs.Scanning.{open_groups_after_token}
use Rattle.regress_syntax.proofs.ScanLemmas.{Home, home, in_text, in_class, unquiet}

-- ---- from one code point to the next

pub left_quiet : (flaw : Flaw) (sets : Bool) (w : Home) (n c : ℕ) (t : Source) → is_insignificant c ≡ true →
    remaining_at flaw sets (home w) n (c ∷ t) ≡ remaining_at flaw sets (home w) n t
unfolding remaining_at
left_quiet unopened sets in_text n c t e =
    let no = unquiet (c == 92) (c == 91) (c == 93) (c == opening) (c == closing) (c == bar) e in rw (no.0, no.1, no.3, no.4) refl
left_quiet too_deep sets in_text n c t e =
    let no = unquiet (c == 92) (c == 91) (c == 93) (c == opening) (c == closing) (c == bar) e in rw (no.0, no.1, no.3, no.4) refl
left_quiet unopened sets (in_class depth deepest) n c t e =
    let no = unquiet (c == 92) (c == 91) (c == 93) (c == opening) (c == closing) (c == bar) e in rw (no.0, no.1, no.2) refl
left_quiet too_deep true (in_class depth deepest) n c t e =
    let no = unquiet (c == 92) (c == 91) (c == 93) (c == opening) (c == closing) (c == bar) e in rw (no.0, no.1, no.2) refl
left_quiet too_deep false (in_class depth deepest) n c t e =
    let no = unquiet (c == 92) (c == 91) (c == 93) (c == opening) (c == closing) (c == bar) e in rw (no.0, no.1, no.2) refl

-- An escape has none of these errors.
pub left_escape : (flaw : Flaw) (sets : Bool) (w : Home) (n : ℕ) (t : Source) →
    remaining_at flaw sets (home w) n (92 ∷ t) ≡ remaining_at flaw sets (home w) n (drop 1 t)
unfolding remaining_at
left_escape unopened sets in_text n [] = refl
left_escape unopened sets in_text n (d ∷ t) = refl
left_escape too_deep sets in_text n [] = refl
left_escape too_deep sets in_text n (d ∷ t) = refl
left_escape unopened sets (in_class depth deepest) n [] = refl
left_escape unopened sets (in_class depth deepest) n (d ∷ t) = refl
left_escape too_deep true (in_class depth deepest) n [] = refl
left_escape too_deep true (in_class depth deepest) n (d ∷ t) = refl
left_escape too_deep false (in_class depth deepest) n [] = refl
left_escape too_deep false (in_class depth deepest) n (d ∷ t) = refl

-- The first flaw is the first code point, or else the first flaw after it.
left_step : (flaw : Flaw) (sets : Bool) (mode : Mode) (n c : ℕ) (t : Source) →
    remaining_at flaw sets mode n (c ∷ t)
    ≡ option_or (cond (is_flaw flaw sets mode n c) (Some (length t + 1)) None) (remaining_at flaw sets (mode_after sets mode c) (open_groups_after mode n c) t)
unfolding remaining_at
left_step flaw sets mode n c t = by (is_flaw flaw sets mode n c)
  where
    after : Option ℕ
    after = remaining_at flaw sets (mode_after sets mode c) (open_groups_after mode n c) t

    by : (q : Bool) → cond q (Some (length t + 1)) after ≡ option_or (cond q (Some (length t + 1)) None) after
    by true = refl
    by false = refl

or_or : (a b c : Option ℕ) → option_or a (option_or b c) ≡ option_or (option_or a b) c
or_or None b c = refl
or_or (Some x) b c = refl

or_none : (a : Option ℕ) → option_or a None ≡ a
or_none None = refl
or_none (Some x) = refl

-- The invariant of the notes holds after one more code point.
pub noted_after : (flaw : Flaw) (sets : Bool) (mode : Mode) (n m c left : ℕ) (rest t : Source) (whole : Option ℕ) (old new : Option ℕ) →
    rest ≡ c ∷ t → left ≡ length t + 1 → m ≡ open_groups_after mode n c →
    new ≡ option_or old (cond (is_flaw flaw sets mode n c) (Some left) None) →
    whole ≡ option_or old (remaining_at flaw sets mode n rest) → whole ≡ option_or new (remaining_at flaw sets (mode_after sets mode c) m t)
noted_after flaw sets mode n m c left rest t whole old new split here nesting note before =
    let after = remaining_at flaw sets (mode_after sets mode c) (open_groups_after mode n c) t in
    before ∙ ap (λ u. option_or old (remaining_at flaw sets mode n u)) split ∙ ap (option_or old) (left_step flaw sets mode n c t)
    ∙ or_or old (cond (is_flaw flaw sets mode n c) (Some (length t + 1)) None) after
    ∙ ap (λ (k : ℕ). option_or (option_or old (cond (is_flaw flaw sets mode n c) (Some k) None)) after) (sym here)
    ∙ ap (λ (a : Option ℕ). option_or a after) (sym note)
    ∙ ap (λ (k : ℕ). option_or new (remaining_at flaw sets (mode_after sets mode c) k t)) (sym nesting)

-- At the end of the source the notes are complete.
pub all_noted : (flaw : Flaw) (sets : Bool) (mode : Mode) (n : ℕ) (rest : Source) (whole old : Option ℕ) → length rest ≡ 0 →
    whole ≡ option_or old (remaining_at flaw sets mode n rest) → whole ≡ old
unfolding remaining_at
all_noted flaw sets mode n [] whole old e before = before ∙ or_none old
all_noted flaw sets mode n (c ∷ t) whole old e before = absurd (omega arith)

-- ---- open groups

after_opened : (n : ℕ) (table : Table) (t : Source) → open_groups_after_token (opened_at table t) n ≡ n + 1
after_opened n table t = by (is_at question_mark t) (group_name_at table (drop 1 t))
  where
    by : (q : Bool) (found : Option (Name × Source)) →
        open_groups_after_token (cond q (elim found as (λ _. GroupToken) [ None ↦ opens | Some x ↦ captures (Some x.0) ]) (captures None)) n ≡ n + 1
    by true None = refl
    by true (Some x) = refl
    by false found = refl

-- A mark changes the number of open groups as its code point does.
pub nesting_at_token : (sets : Bool) (table : Table) (mode : Mode) (n c : ℕ) (t : Source) (token : GroupToken) → token_at sets table mode c t ≡ Some token →
    open_groups_after_token token n ≡ open_groups_after mode n c
nesting_at_token sets table plain n c t token e = by (c == opening) (c == closing) (c == bar) e
  where
    by : (p q r : Bool) → cond p (Some (opened_at table t)) (cond q (Some closes) (cond r (Some next) None)) ≡ Some token →
        open_groups_after_token token n ≡ cond p (n + 1) (cond q (max 1 (n - 1)) n)
    by true q r e = subst (λ m. open_groups_after_token m n ≡ n + 1) (same_Some _ _ e) (after_opened n table t)
    by false true r e = subst (λ m. open_groups_after_token m n ≡ max 1 (n - 1)) (same_Some _ _ e) refl
    by false false true e = subst (λ m. open_groups_after_token m n ≡ n) (same_Some _ _ e) refl
    by false false false e = absurd (none-some token e)
nesting_at_token sets table escape n c t token e = absurd (none-some token e)
nesting_at_token sets table (class depth deepest) n c t token e = by (c == 93 && depth == 0 && sets) e
  where
    by : (q : Bool) → cond q (Some (nests deepest)) None ≡ Some token → open_groups_after_token token n ≡ n
    by true e = subst (λ m. open_groups_after_token m n ≡ n) (same_Some _ _ e) refl
    by false e = absurd (none-some token e)
nesting_at_token sets table (class_escape depth deepest) n c t token e = absurd (none-some token e)

pub nesting_at_none : (sets : Bool) (table : Table) (mode : Mode) (n c : ℕ) (t : Source) → token_at sets table mode c t ≡ None →
    n ≡ open_groups_after mode n c
nesting_at_none sets table plain n c t e = by (c == opening) (c == closing) (c == bar) e
  where
    by : (p q r : Bool) → cond p (Some (opened_at table t)) (cond q (Some closes) (cond r (Some next) None)) ≡ None →
        n ≡ cond p (n + 1) (cond q (max 1 (n - 1)) n)
    by true q r e = absurd (none-some _ (sym e))
    by false true r e = absurd (none-some _ (sym e))
    by false false r e = refl
nesting_at_none sets table escape n c t e = refl
nesting_at_none sets table (class depth deepest) n c t e = refl
nesting_at_none sets table (class_escape depth deepest) n c t e = refl
