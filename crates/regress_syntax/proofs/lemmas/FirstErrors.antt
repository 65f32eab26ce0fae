-- An unmatched `)`, or a parenthesis past the limit of the nesting depth, is an error whatever follows it.
use Rattle.std.proofs.Common.{◌≡◌, ℕ, suc, ◌+◌, ◌-◌, ◌<◌, ◌≤◌, max, Bool, true, false, cond, nat_le, eqb-true, zero, ◌==◌, ◌&&◌, List, [], ◌∷◌, ◌++◌, length, take, drop, Option, Some, None, unwrap_or, refl, sym, ap, ◌∙◌, arith, append_assoc, append-nil, option_to_list}
use Rattle.std.proofs.lemmas.Bool.{false≢true}
use Rattle.std.proofs.lemmas.Bool.Decides.{nat_tests}
use Rattle.std.proofs.lemmas.Option.{none-some, same_Some}
use Rattle.regress_base.specs.Limits.{max_nesting_depth}
use Rattle.regress_base.specs.Table.{Table}
use Rattle.regress_lexer.specs.Source.{Source, opening, closing, bar, question_mark, is_at}
use Rattle.regress_syntax.specs.Names.{group_name_at}
use Rattle.regress_syntax.specs.Syntax.{Name, nesting, Atom, literal, dot, anchor, boundary, class_escape as escape_of_class, class as class_atom, class_set, string_property, back_reference, Group, grouping, modified, capture, look, Pattern, Terms, Item, one, either, no_terms, more_terms, atom, group}
use Rattle.regress_syntax.specs.GroupTokens.{GroupToken, captures, closes, next, nests, token_of_group, tokens_of_atom, tokens_of, tokens_of_terms, tokens_of_item}
use Rattle.regress_syntax.specs.GroupTokens as GroupTokens
use Rattle.regress_syntax.specs.Scan.{Mode, plain, escape, class, class_escape, mode_after, opened_at, tokens, deepest}
use Rattle.regress_lexer.proofs.lemmas.Digits.{and_both}
use Rattle.regress_syntax.proofs.lemmas.Scan.{deepest-whole}
use Rattle.regress_syntax.proofs.ScannerLemmas.{deepest_above}
use Rattle.regress_lexer.specs.declared.fault.FaultKind.{FaultKind}
use Rattle.regress_lexer.specs.declared.fault.Fault.{Fault}
use Rattle.regress_lexer.specs.declared.fault.Fault.TheVariants.{Rejected, Memory}
use Rattle.regress_lexer.specs.Fault.{OnKind}
use Rattle.regress_syntax.specs.declared.scan.first_errors.FirstErrors.{FirstErrors}
use Rattle.regress_syntax.specs.FirstErrors.{Flaw, unopened, too_deep, kind_of, is_flaw, open_groups_after, remaining_at}
use Rattle.regress_syntax.specs.Scanning.{noted, NotesFirst, IsLocated, OnKindAt, noted_for, located}

-- ---- what the marks show

-- some mark closes nothing, where n groups are open
abbrev closes_nothing : ℕ → List GroupToken → Bool
closes_nothing n [] = false
closes_nothing n (GroupTokens.opens ∷ ms) = closes_nothing (n + 1) ms
closes_nothing n (captures name ∷ ms) = closes_nothing (n + 1) ms
closes_nothing n (closes ∷ ms) = cond (n == 1) true (closes_nothing (max 1 (n - 1)) ms)
closes_nothing n (next ∷ ms) = closes_nothing n ms
closes_nothing n (nests deep ∷ ms) = closes_nothing n ms

-- The marks show the flaw, where n groups are open.
abbrev pub Shows : Flaw → ℕ → List GroupToken → Type 0
Shows unopened n ms = closes_nothing n ms ≡ true
Shows too_deep n ms = max_nesting_depth < deepest n ms

opened_shows : (flaw : Flaw) (n : ℕ) (table : Table) (t : Source) (ms : List GroupToken) → Shows flaw (n + 1) ms → Shows flaw n (opened_at table t ∷ ms)
opened_shows flaw n table t ms h = by flaw (is_at question_mark t) (group_name_at table (drop 1 t)) h
  where
    by : (flaw : Flaw) (q : Bool) (found : Option (Name × Source)) → Shows flaw (n + 1) ms →
        Shows flaw n (cond q (elim found as (λ _. GroupToken) [ None ↦ GroupTokens.opens | Some x ↦ captures (Some x.0) ]) (captures None) ∷ ms)
    by unopened true None h = h
    by unopened true (Some x) h = h
    by unopened false found h = h
    by too_deep true None h = omega (arith, h)
    by too_deep true (Some x) h = omega (arith, h)
    by too_deep false found h = omega (arith, h)

closed_shows : (flaw : Flaw) (n : ℕ) (ms : List GroupToken) → (flaw ≡ unopened → (n == 1) ≡ false) → Shows flaw (max 1 (n - 1)) ms → Shows flaw n (closes ∷ ms)
closed_shows unopened n ms others h = rw (others refl) h
closed_shows too_deep n ms others h = omega (arith, h)

next_shows : (flaw : Flaw) (n : ℕ) (ms : List GroupToken) → Shows flaw n ms → Shows flaw n (next ∷ ms)
next_shows unopened n ms h = h
next_shows too_deep n ms h = omega (arith, h)

nests_shows : (flaw : Flaw) (n deep : ℕ) (ms : List GroupToken) → Shows flaw n ms → Shows flaw n (nests deep ∷ ms)
nests_shows unopened n deep ms h = h
nests_shows too_deep n deep ms h = omega (arith, h)

-- ---- from one code point to the next

one_level_after : (mode : Mode) (n c : ℕ) → 1 ≤ n → 1 ≤ open_groups_after mode n c
one_level_after plain n c h = by (c == opening) (c == closing)
  where
    by : (p q : Bool) → 1 ≤ cond p (n + 1) (cond q (max 1 (n - 1)) n)
    by true q = omega (arith, h)
    by false true = omega arith
    by false false = h
one_level_after escape n c h = h
one_level_after (class depth most) n c h = h
one_level_after (class_escape depth most) n c h = h

-- What the marks after a code point show, the marks from it on show too.
shows_step : (flaw : Flaw) (sets : Bool) (table : Table) (mode : Mode) (n c : ℕ) (t : Source) → is_flaw flaw sets mode n c ≡ false →
    Shows flaw (open_groups_after mode n c) (tokens sets table (mode_after sets mode c) t) → Shows flaw n (tokens sets table mode (c ∷ t))
unfolding tokens
shows_step flaw sets table plain n c t none h = by (c == opening) (c == closing) (c == bar) (other flaw none) h
  where
    ms : List GroupToken
    ms = tokens sets table (mode_after sets plain c) t

    other : (flaw : Flaw) → is_flaw flaw sets plain n c ≡ false → flaw ≡ unopened → (c == closing && n == 1) ≡ false
    other unopened none is = none
    other too_deep none is = absurd (cc)

    by : (p q r : Bool) → (flaw ≡ unopened → (q && n == 1) ≡ false) → Shows flaw (cond p (n + 1) (cond q (max 1 (n - 1)) n)) ms →
        Shows flaw n (option_to_list (cond p (Some (opened_at table t)) (cond q (Some closes) (cond r (Some next) None))) ++ ms)
    by true q r none h = opened_shows flaw n table t ms h
    by false true r none h = closed_shows flaw n ms none h
    by false false true none h = next_shows flaw n ms h
    by false false false none h = h
shows_step flaw sets table escape n c t none h = h
shows_step flaw sets table (class depth most) n c t none h = by (c == 93 && depth == 0 && sets)
  where
    ms : List GroupToken
    ms = tokens sets table (mode_after sets (class depth most) c) t

    by : (q : Bool) → Shows flaw n (option_to_list (cond q (Some (nests most)) None) ++ ms)
    by true = nests_shows flaw n most ms h
    by false = h
shows_step flaw sets table (class_escape depth most) n c t none h = h

shows_here : (flaw : Flaw) (sets : Bool) (table : Table) (mode : Mode) (n c : ℕ) (t : Source) → is_flaw flaw sets mode n c ≡ true →
    (c == 91) ≡ false → Shows flaw n (tokens sets table mode (c ∷ t))
unfolding tokens
shows_here unopened sets table plain n c t e h =
    let both = and_both (c == closing) (n == 1) e in rw (eqb-true c closing both.0, both.1) refl
shows_here too_deep sets table plain n c t e h =
    let both = and_both (c == opening) (nat_le max_nesting_depth n) e in
    rw (eqb-true c opening both.0)
    (opened_shows too_deep n table t (tokens sets table (mode_after sets plain opening) t)
    (let above = deepest_above (n + 1) (tokens sets table (mode_after sets plain opening) t) in
    let many : max_nesting_depth ≤ n = grind (arith, nat_tests, both.1) in omega (arith, above, many)))
shows_here too_deep sets table (class depth most) n c t e h =
    let bracket = (and_both (sets && c == 91) (nat_le max_nesting_depth (n + depth)) e).0 in
    absurd (false≢true (sym h ∙ (and_both sets (c == 91) bracket).1))
shows_here unopened sets table escape n c t e h = absurd (false≢true e)
shows_here unopened sets table (class depth most) n c t e h = absurd (false≢true e)
shows_here unopened sets table (class_escape depth most) n c t e h = absurd (false≢true e)
shows_here too_deep sets table escape n c t e h = absurd (false≢true e)
shows_here too_deep sets table (class_escape depth most) n c t e h = absurd (false≢true e)

pub left_within : (flaw : Flaw) (sets : Bool) (mode : Mode) (n : ℕ) (t : Source) (left : ℕ) → remaining_at flaw sets mode n t ≡ Some left → left ≤ length t
unfolding remaining_at
left_within flaw sets mode n [] left e = absurd (none-some left e)
left_within flaw sets mode n (c ∷ t) left e =
    by (is_flaw flaw sets mode n c) (left_within flaw sets (mode_after sets mode c) (open_groups_after mode n c) t left) e
  where
    by : (q : Bool) → (remaining_at flaw sets (mode_after sets mode c) (open_groups_after mode n c) t ≡ Some left → left ≤ length t) →
        cond q (Some (length t + 1)) (remaining_at flaw sets (mode_after sets mode c) (open_groups_after mode n c) t) ≡ Some left → left ≤ length (c ∷ t)
    by true within e = omega (arith, same_Some _ _ e)
    by false within e = omega (arith, within e)

-- The code points up to the first flaw show it, if the flaw is no bracket: a class would still have to be closed.
pub shows_front : (flaw : Flaw) (sets : Bool) (table : Table) (mode : Mode) (n : ℕ) (t : Source) (left k : ℕ) (after : Source) → 1 ≤ n →
    remaining_at flaw sets mode n t ≡ Some left → k + left ≡ length t → is_at 91 (drop k t) ≡ false →
    Shows flaw n (tokens sets table mode (take (suc k) t ++ after))
unfolding remaining_at
shows_front flaw sets table mode n [] left k after h e split is = absurd (none-some left e)
shows_front flaw sets table mode n (c ∷ t) left k after h e split is =
    by (is_flaw flaw sets mode n c) refl e k split is
    (λ k. shows_front flaw sets table (mode_after sets mode c) (open_groups_after mode n c) t left k after (one_level_after mode n c h))
  where
    rest : Option ℕ
    rest = remaining_at flaw sets (mode_after sets mode c) (open_groups_after mode n c) t

    by : (q : Bool) → is_flaw flaw sets mode n c ≡ q → cond q (Some (length t + 1)) rest ≡ Some left → (k : ℕ) →
        k + left ≡ length (c ∷ t) → is_at 91 (drop k (c ∷ t)) ≡ false →
        ((k : ℕ) → rest ≡ Some left → k + left ≡ length t → is_at 91 (drop k t) ≡ false →
        Shows flaw (open_groups_after mode n c) (tokens sets table (mode_after sets mode c) (take (suc k) t ++ after))) →
        Shows flaw n (tokens sets table mode (take (suc k) (c ∷ t) ++ after))
    by true here e zero split is more = shows_here flaw sets table mode n c after here is
    by true here e (suc k) split is more = absurd (omega (arith, split, same_Some _ _ e))
    by false none e zero split is more =
        absurd (omega (arith, split, left_within flaw sets (mode_after sets mode c) (open_groups_after mode n c) t left e))
    by false none e (suc k) split is more =
        shows_step flaw sets table mode n c (take (suc k) t ++ after) none (more k e (omega (arith, split)) is)

-- ---- the marks of a pattern

closes-atom : (n : ℕ) (a : Atom) (ms : List GroupToken) → closes_nothing n (tokens_of_atom a ++ ms) ≡ closes_nothing n ms
closes-atom n (literal flags c) ms = refl
closes-atom n (dot flags) ms = refl
closes-atom n (anchor flags kind) ms = refl
closes-atom n (boundary flags inverted) ms = refl
closes-atom n (escape_of_class flags kind negated) ms = refl
closes-atom n (class_atom flags inverted members) ms = refl
closes-atom n (class_set flags negated value) ms = refl
closes-atom n (string_property flags written) ms = refl
closes-atom n (back_reference flags to) ms = refl

closes-group : (n : ℕ) (kind : Group) (ms : List GroupToken) → closes_nothing n (token_of_group kind ∷ ms) ≡ closes_nothing (n + 1) ms
closes-group n grouping ms = refl
closes-group n (modified change) ms = refl
closes-group n (capture name) ms = refl
closes-group n (look negate direction) ms = refl

closes-closed : (n : ℕ) (ms : List GroupToken) → 1 ≤ n → closes_nothing (n + 1) (closes ∷ ms) ≡ closes_nothing n ms
closes-closed n ms h =
    let other : (n + 1 == 1) ≡ false = grind (arith, nat_tests, h) in
    let back : max 1 (n + 1 - 1) ≡ n = omega (arith, h) in
    rw (other, back) refl

mutual
  closes-pattern : (n : ℕ) (p : Pattern) (ms : List GroupToken) → 1 ≤ n → closes_nothing n (tokens_of p ++ ms) ≡ closes_nothing n ms
  closes-pattern n (one ts) ms h = closes-terms n ts ms h
  closes-pattern n (either ts p) ms h =
      ap (closes_nothing n) (append_assoc (tokens_of_terms ts) (next ∷ tokens_of p) ms)
      ∙ closes-terms n ts (next ∷ tokens_of p ++ ms) h ∙ closes-pattern n p ms h

  closes-terms : (n : ℕ) (ts : Terms) (ms : List GroupToken) → 1 ≤ n → closes_nothing n (tokens_of_terms ts ++ ms) ≡ closes_nothing n ms
  closes-terms n no_terms ms h = refl
  closes-terms n (more_terms x q xs) ms h =
      ap (closes_nothing n) (append_assoc (tokens_of_item x) (tokens_of_terms xs) ms)
      ∙ closes-item n x (tokens_of_terms xs ++ ms) h ∙ closes-terms n xs ms h

  closes-item : (n : ℕ) (x : Item) (ms : List GroupToken) → 1 ≤ n → closes_nothing n (tokens_of_item x ++ ms) ≡ closes_nothing n ms
  closes-item n (atom a) ms h = closes-atom n a ms
  closes-item n (group kind p) ms h =
      closes-group n kind ((tokens_of p ++ closes ∷ []) ++ ms)
      ∙ ap (closes_nothing (n + 1)) (append_assoc (tokens_of p) (closes ∷ []) ms)
      ∙ closes-pattern (n + 1) p (closes ∷ ms) (omega arith)
      ∙ closes-closed n ms h

-- The marks of a pattern within the nesting limit show neither flaw.
pub shows_none : (flaw : Flaw) (p : Pattern) → nesting p ≤ max_nesting_depth → Shows flaw 1 (tokens_of p) → ⊥
shows_none unopened p few h =
    false≢true (sym (closes-pattern 1 p [] (omega arith)) ∙ ap (closes_nothing 1) (append-nil (tokens_of p)) ∙ h)
shows_none too_deep p few h = omega (arith, few, deepest-whole p, h)

-- ---- errors

-- An error keeps its kind when its position changes.
pub located-kind : (first_errors : FirstErrors) (fault : Fault) (P : FaultKind → Type 0) → OnKind fault P → OnKind (located first_errors fault) P
located-kind first_errors (Rejected kind left) P h = h
located-kind first_errors (Memory e) P h = h

pub located-is : (sets : Bool) (t : Source) (first_errors : FirstErrors) (fault : Fault) → NotesFirst sets t first_errors →
    OnKindAt (located first_errors fault) (IsLocated sets t)
located-is sets t first_errors (Rejected kind left) notes =
    λ flaw first is found. ap (λ kind. unwrap_or (noted_for first_errors kind) left) is ∙ by flaw first (sym (notes flaw) ∙ found)
  where
    by : (flaw : Flaw) (first : ℕ) → noted flaw first_errors ≡ Some first → unwrap_or (noted_for first_errors (kind_of flaw)) left ≡ first
    by unopened first e = ap (λ found. unwrap_or found left) e
    by too_deep first e = ap (λ found. unwrap_or found left) e
located-is sets t first_errors (Memory e) notes = tt
