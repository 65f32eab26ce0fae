-- The paths of groups, in the order of the source: of two alternatives of one disjunction the earlier one comes first.
use Rattle.std.proofs.Common.{◌≡◌, ℕ, ◌+◌, ◌≤◌, ◌==◌, nat_lt, Bool, true, false, not, ◌&&◌, ◌||◌, List, [], ◌∷◌, ◌++◌, reverse, refl, sym, ap, subst, ◌∙◌, arith}
use Rattle.std.specs.List.{All, AllPairs}
use Rattle.std.proofs.lemmas.Bool.{false≢true}
use Rattle.std.proofs.lemmas.Bool.Decides.{nat_tests}
use Rattle.std.proofs.lemmas.List.{reverse-append}
use Rattle.std.proofs.lemmas.List.Elements.{All-nil, All-cons, All-head, All-tail, All-append, All-weaker}
use Rattle.std.proofs.lemmas.List.Kept.{AllPairs-cons}
use Rattle.regress_syntax.specs.GroupTokens.{GroupToken, opens, captures, closes, next, nests}
use Rattle.regress_syntax.specs.Paths.{Level, Path, Position, CaptureAt, at_the_start, enter, outside, next_alternative, groups_by, are_alternatives}

-- Where the paths first differ, they are inside different parentheses, or the first one is in the earlier alternative.
-- The paths start with the outermost disjunction here.
abbrev pub in_order : Path → Path → Bool
in_order [] q = true
in_order (a ∷ p) [] = true
in_order (a ∷ p) (b ∷ q) =
    not (a.opening == b.opening) || (nat_lt a.alternative b.alternative || (a.alternative == b.alternative && in_order p q))

-- If the order of the inner disjunctions implies another, so does that of the whole paths.
inside : (a b : Level) (p q q' : Path) → (in_order p q ≡ true → in_order p q' ≡ true) → in_order (a ∷ p) (b ∷ q) ≡ true → in_order (a ∷ p) (b ∷ q') ≡ true
inside a b p q q' = by (not (a.opening == b.opening)) (nat_lt a.alternative b.alternative) (a.alternative == b.alternative) (in_order p q) (in_order p q')
  where
    by : (x y e i j : Bool) → (i ≡ true → j ≡ true) → x || (y || (e && i)) ≡ true → x || (y || (e && j)) ≡ true
    by true y e i j h k = refl
    by false true e i j h k = refl
    by false false true i j h k = h k
    by false false false i j h k = k

same_path : (p : Path) → in_order p p ≡ true
same_path [] = refl
same_path (a ∷ p) = let e = same_path p in grind (arith, nat_tests)

-- The path without its innermost disjunction.
left_inner : (p q : Path) (l : Level) → in_order p (q ++ l ∷ []) ≡ true → in_order p q ≡ true
left_inner [] q l h = refl
left_inner (a ∷ p) [] l h = refl
left_inner (a ∷ p) (b ∷ q) l h = inside a b p (q ++ l ∷ []) q (left_inner p q l) h

-- The path in the next alternative of its innermost disjunction.
next_inner : (p q : Path) (l : Level) → in_order p (q ++ l ∷ []) ≡ true → in_order p (q ++ record l { alternative = l.alternative + 1 } ∷ []) ≡ true
next_inner [] q l h = refl
next_inner (a ∷ []) [] l h = grind (arith, nat_tests)
next_inner (a ∷ b ∷ p) [] l h = grind (arith, nat_tests)
next_inner (a ∷ p) (b ∷ q) l h =
    inside a b p (q ++ l ∷ []) (q ++ record l { alternative = l.alternative + 1 } ∷ []) (next_inner p q l) h

-- The number of the parenthesis is at most n.
abbrev IsOpenedBy : ℕ → Level → Type 0
IsOpenedBy n l = l.opening ≤ n

-- The path inside a parenthesis that is opened later.
enter_inner : (p q : Path) (n : ℕ) → All (IsOpenedBy n) p → in_order p q ≡ true →
    in_order p (q ++ record { opening = n + 1; alternative = 0 } ∷ []) ≡ true
enter_inner [] q n few h = refl
enter_inner (a ∷ p) [] n few h = let first : a.opening ≤ n = All-head (IsOpenedBy n) a p few in grind (arith, nat_tests)
enter_inner (a ∷ p) (b ∷ q) n few h =
    inside a b p q (q ++ record { opening = n + 1; alternative = 0 } ∷ []) (enter_inner p q n (All-tail (IsOpenedBy n) a p few)) h

more : (n : ℕ) (p : Path) → All (IsOpenedBy n) p → All (IsOpenedBy (n + 1)) p
more n p few = All-weaker (IsOpenedBy n) (IsOpenedBy (n + 1)) (λ l h. omega (arith, h)) p few

reversed : (n : ℕ) (p : Path) → All (IsOpenedBy n) p → All (IsOpenedBy n) (reverse p)
reversed n [] few = few
reversed n (l ∷ p) few =
    subst (All (IsOpenedBy n)) (sym (reverse-append (l ∷ []) p))
    (All-append (IsOpenedBy n) (reverse p) (l ∷ []) (reversed n p (All-tail (IsOpenedBy n) l p few))
    (All-cons (IsOpenedBy n) l [] (All-head (IsOpenedBy n) l p few) (All-nil (IsOpenedBy n))))

-- Later groups come after a path that comes before the position.
abbrev IsAfter : Path → CaptureAt → Type 0
IsAfter p g = in_order p (reverse g.path) ≡ true

entered : (p q : Path) (n : ℕ) → All (IsOpenedBy n) p → in_order p (reverse q) ≡ true →
    in_order p (reverse (record { opening = n + 1; alternative = 0 } ∷ q)) ≡ true
entered p q n few h =
    ap (in_order p) (reverse-append (record { opening = n + 1; alternative = 0 } ∷ []) q) ∙ enter_inner p (reverse q) n few h

left_out : (p q : Path) → in_order p (reverse q) ≡ true → in_order p (reverse (outside q)) ≡ true
left_out p [] h = h
left_out p (l ∷ []) h = h
left_out p (l ∷ around ∷ q) h =
    left_inner p (reverse (around ∷ q)) l (ap (in_order p) (sym (reverse-append (l ∷ []) (around ∷ q))) ∙ h)

moved_on : (p q : Path) → in_order p (reverse q) ≡ true → in_order p (reverse (next_alternative q)) ≡ true
moved_on p [] h = h
moved_on p (l ∷ q) h =
    ap (in_order p) (reverse-append (record l { alternative = l.alternative + 1 } ∷ []) q)
    ∙ next_inner p (reverse q) l (ap (in_order p) (sym (reverse-append (l ∷ []) q)) ∙ h)

all_after : (p : Path) (position : Position) (ms : List GroupToken) → All (IsOpenedBy position.opened) p → in_order p (reverse position.path) ≡ true →
    All (IsAfter p) (groups_by position ms)
all_after p position [] few h = All-nil (IsAfter p)
all_after p position (opens ∷ ms) few h =
    all_after p (enter position) ms (more position.opened p few) (entered p position.path position.opened few h)
all_after p position (captures name ∷ ms) few h =
    All-cons (IsAfter p) (record { path = position.path; name = name }) (groups_by (enter position) ms) h
    (all_after p (enter position) ms (more position.opened p few) (entered p position.path position.opened few h))
all_after p position (closes ∷ ms) few h = all_after p (record position { path = outside position.path }) ms few (left_out p position.path h)
all_after p position (next ∷ ms) few h =
    all_after p (record position { path = next_alternative position.path }) ms few (moved_on p position.path h)
all_after p position (nests nesting ∷ ms) few h = all_after p position ms few h

-- The one group comes before the other.
abbrev pub IsBefore : CaptureAt → CaptureAt → Type 0
IsBefore g other = in_order (reverse g.path) (reverse other.path) ≡ true

opened_outside : (n : ℕ) (p : Path) → All (IsOpenedBy n) p → All (IsOpenedBy n) (outside p)
opened_outside n [] few = few
opened_outside n (l ∷ []) few = few
opened_outside n (l ∷ around ∷ p) few = All-tail (IsOpenedBy n) l (around ∷ p) few

opened_next : (n : ℕ) (p : Path) → All (IsOpenedBy n) p → All (IsOpenedBy n) (next_alternative p)
opened_next n [] few = few
opened_next n (l ∷ p) few =
    All-cons (IsOpenedBy n) (record l { alternative = l.alternative + 1 }) p (All-head (IsOpenedBy n) l p few) (All-tail (IsOpenedBy n) l p few)

opened_enter : (position : Position) → All (IsOpenedBy position.opened) position.path → All (IsOpenedBy (enter position).opened) (enter position).path
opened_enter position few =
    All-cons (IsOpenedBy (position.opened + 1)) (record { opening = position.opened + 1; alternative = 0 }) position.path (omega arith)
    (more position.opened position.path few)

groups_in_order : (position : Position) (ms : List GroupToken) → All (IsOpenedBy position.opened) position.path → AllPairs IsBefore (groups_by position ms)
groups_in_order position [] few = λ i j d less within. absurd (omega arith)
groups_in_order position (opens ∷ ms) few = groups_in_order (enter position) ms (opened_enter position few)
groups_in_order position (captures name ∷ ms) few =
    let path = reverse position.path in
    let opened = reversed position.opened position.path few in
    AllPairs-cons IsBefore (record { path = position.path; name = name }) (groups_by (enter position) ms)
    (all_after path (enter position) ms (more position.opened path opened) (entered path position.path position.opened opened (same_path path)))
    (groups_in_order (enter position) ms (opened_enter position few))
groups_in_order position (closes ∷ ms) few =
    groups_in_order (record position { path = outside position.path }) ms (opened_outside position.opened position.path few)
groups_in_order position (next ∷ ms) few =
    groups_in_order (record position { path = next_alternative position.path }) ms (opened_next position.opened position.path few)
groups_in_order position (nests nesting ∷ ms) few = groups_in_order position ms few

-- The groups of a pattern are in order.
pub all_in_order : (ms : List GroupToken) → AllPairs IsBefore (groups_by at_the_start ms)
all_in_order ms =
    groups_in_order at_the_start ms (All-cons (IsOpenedBy 0) (record { opening = 0; alternative = 0 }) [] (omega arith) (All-nil (IsOpenedBy 0)))

-- Of three groups in order, the first and the last are in different alternatives if both are so with the second.
pub alternatives_through : (p q s : Path) → in_order p q ≡ true → in_order q s ≡ true → are_alternatives p q ≡ true → are_alternatives q s ≡ true →
    are_alternatives p s ≡ true
alternatives_through [] q s h h' e e' = absurd (false≢true e)
alternatives_through (a ∷ p) [] s h h' e e' = absurd (false≢true e)
alternatives_through (a ∷ p) (b ∷ q) [] h h' e e' = absurd (false≢true e')
alternatives_through (a ∷ p) (b ∷ q) (c ∷ s) h h' e e' = let inner = alternatives_through p q s in grind (arith, nat_tests)
