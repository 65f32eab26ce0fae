-- Where the named groups of a source begin, as the scan finds them.
use Rattle.std.proofs.Common.{◌≡◌, ℕ, zero, suc, ◌+◌, ◌-◌, ◌<◌, ◌≤◌, nat_le, ⊎_elim, Bool, true, false, cond, ◌==◌, ◌&&◌, List, [], ◌∷◌, ◌++◌, map, filter, drop, length, get_or, Option, Some, None, option_map, option_to_list, Vec, unwrap_or, append_assoc, append-nil, refl, sym, ap, ap₂, subst, ◌∙◌, arith}
use Rattle.std.specs.List.{AllPairs}
use Rattle.std.specs.declared.alloc.Global.{Global}
use Rattle.std.proofs.lemmas.Bool.{cases_lt, true≢false}
use Rattle.std.proofs.lemmas.Bool.Decides.{nat_tests}
use Rattle.std.proofs.lemmas.Option.{same_Some}
use Rattle.std.proofs.lemmas.List.{map-append, length-map}
use Rattle.std.proofs.lemmas.List.Elements.{All-nil, All-weaker, All-push, filter-append}
use Rattle.std.proofs.lemmas.List.Kept.{AllPairs-filter}
use Rattle.std.proofs.lemmas.List.Quantifiers.{all_pairs_push}
use Rattle.std.proofs.lemmas.List.Sorted.{All-permutation}
use Rattle.std.specs.List.Sorted.{IsPermutation, IsSortedBy, IsStableBy}
use Rattle.std.proofs.Math.ListN.{get_or-map}
use Rattle.regress_base.specs.Limits.{max_nesting_depth}
use Rattle.regress_base.specs.Table.{Table}
use Rattle.regress_lexer.specs.declared.fault.Fault.{Fault}
use Rattle.regress_lexer.specs.declared.fault.Fault.TheVariants.{Rejected, Memory}
use Rattle.regress_lexer.specs.declared.fault.FaultKind.{FaultKind}
use Rattle.regress_lexer.specs.declared.fault.FaultKind.TheVariants.{DuplicateName}
use Rattle.regress_lexer.specs.Source.{Source, opening, closing, bar, question_mark}
use Rattle.regress_syntax.specs.Syntax.{Name}
use Rattle.regress_syntax.specs.GroupTokens.{GroupToken, opens, captures, closes, next, nests}
use Rattle.regress_syntax.specs.Paths.{Path, Position, CaptureAt, at_the_start, groups_by, are_apart, are_tokens_apart}
use Rattle.regress_syntax.specs.Scan.{Mode, plain, escape, class, class_escape, opened_at, mode_after, token_at, tokens, deepest, is_insignificant}
use Rattle.regress_syntax.specs.FirstErrors.{tokens_within, IsFirstDuplicate}
use Rattle.regress_syntax.specs.Scanning.{capture_of, bears_name, is_before, first_conflict, path_of, position_of, position_after, tokens_down_to, is_from, AddsGroup, AreInOrder, HasPlaces, IsAtConflict, IsAtDuplicate, After, OnKindAt, noted_for, located}
use Rattle.regress_syntax.specs.declared.scan.first_errors.FirstErrors.{FirstErrors}
use Rattle.regress_syntax.specs.declared.scan.scanner.Scanner.{Scanner}
use Rattle.regress_syntax.specs.declared.scan.scanner.NamedGroup.{NamedGroup}
use Rattle.regress_syntax.proofs.ConflictLemmas.{IsPlaced, NearApart, beyond, near_first, conflict_found, sorted_before, none_conflict, two_conflict, all_from}
use Rattle.regress_syntax.proofs.OrderLemmas.{IsBefore, all_in_order}
use Rattle.regress_syntax.proofs.ScanLemmas.{Home, home, in_text, in_class, unquiet}
use Rattle.regress_syntax.proofs.ScannerLemmas.{are_apart-named, apart_after}

-- ---- marks up to a position

-- A source has no mark from which on more code points remain than it has.
none_beyond : (left : ℕ) (sets : Bool) (table : Table) (mode : Mode) (t : Source) → length t < left → tokens_down_to left sets table mode t ≡ []
unfolding tokens_down_to
none_beyond left sets table mode [] h = refl
none_beyond left sets table mode (c ∷ t) h = let e : nat_le left (length t + 1) ≡ false = grind (arith, nat_tests, h) in rw e refl

-- A code point that is no mark adds none.
passed_over : (left : ℕ) (sets : Bool) (table : Table) (mode : Mode) (c : ℕ) (t : Source) → token_at sets table mode c t ≡ None →
    tokens_down_to left sets table mode (c ∷ t) ≡ tokens_down_to left sets table (mode_after sets mode c) t
unfolding tokens_down_to
passed_over left sets table mode c t none = by (nat_le left (length t + 1)) refl
  where
    rest : List GroupToken
    rest = tokens_down_to left sets table (mode_after sets mode c) t

    by : (b : Bool) → nat_le left (length t + 1) ≡ b → cond b (option_to_list (token_at sets table mode c t) ++ rest) [] ≡ rest
    by true e = ap (λ (found : Option GroupToken). option_to_list found ++ rest) none
    by false e = sym (none_beyond left sets table (mode_after sets mode c) t (grind (arith, nat_tests, e)))

here_or_beyond : (left : ℕ) (sets : Bool) (table : Table) (mode : Mode) (c : ℕ) (t : Source) (token : GroupToken) → token_at sets table mode c t ≡ Some token →
    nat_le left (length t + 1) ≡ true →
    tokens_down_to left sets table mode (c ∷ t) ≡ token ∷ tokens_down_to left sets table (mode_after sets mode c) t
unfolding tokens_down_to
here_or_beyond left sets table mode c t token some e = rw (e, some) refl

quiet_at : (sets : Bool) (table : Table) (w : Home) (c : ℕ) (t : Source) → is_insignificant c ≡ true →
    (token_at sets table (home w) c t ≡ None) × (mode_after sets (home w) c ≡ home w)
quiet_at sets table in_text c t e =
    let no = unquiet (c == 92) (c == 91) (c == 93) (c == opening) (c == closing) (c == bar) e in
    (rw (no.3, no.4, no.5) refl, rw (no.0, no.1) refl)
quiet_at sets table (in_class depth deepest) c t e =
    let no = unquiet (c == 92) (c == 91) (c == 93) (c == opening) (c == closing) (c == bar) e in
    (rw no.2 refl, rw (no.0, no.1, no.2) refl)

pub down_quiet : (left : ℕ) (sets : Bool) (table : Table) (w : Home) (c : ℕ) (t : Source) → is_insignificant c ≡ true →
    tokens_down_to left sets table (home w) (c ∷ t) ≡ tokens_down_to left sets table (home w) t
down_quiet left sets table w c t e =
    let quiet = quiet_at sets table w c t e in
    passed_over left sets table (home w) c t quiet.0 ∙ ap (λ (m : Mode). tokens_down_to left sets table m t) quiet.1

pub down_escape : (left : ℕ) (sets : Bool) (table : Table) (w : Home) (t : Source) →
    tokens_down_to left sets table (home w) (92 ∷ t) ≡ tokens_down_to left sets table (home w) (drop 1 t)
unfolding tokens_down_to
down_escape left sets table in_text [] = passed_over left sets table plain 92 [] refl
down_escape left sets table in_text (d ∷ t) =
    passed_over left sets table plain 92 (d ∷ t) refl ∙ passed_over left sets table escape d t refl
down_escape left sets table (in_class depth deepest) [] = passed_over left sets table (class depth deepest) 92 [] refl
down_escape left sets table (in_class depth deepest) (d ∷ t) =
    passed_over left sets table (class depth deepest) 92 (d ∷ t) refl ∙ passed_over left sets table (class_escape depth deepest) d t refl

-- ---- one group more

pub one_added : (old new : List NamedGroup) (group : NamedGroup) (name : Vec ℕ Global) (path : Path) (left : ℕ) (given : Option (Vec ℕ Global)) →
    given ≡ Some name → group.name.items ≡ name.items → group.left ≡ left → (length path ≤ max_nesting_depth → path_of group.path ≡ path) →
    new ≡ old ++ group ∷ [] → AddsGroup (captures (option_map (λ name. name.items) given)) left path old new
one_added old new group name path left given e names place paths pushed =
    subst (λ (n : Option (Vec ℕ Global)). AddsGroup (captures (option_map (λ name. name.items) n)) left path old new) (sym e)
    (group, pushed, place, λ few. ap₂ (λ (p : Path) (n : Name). record { path = p; name = Some n }) (paths few) names)

pub no_one_added : (old new : List NamedGroup) (path : Path) (left : ℕ) (given : Option (Vec ℕ Global)) → given ≡ None → new ≡ old →
    AddsGroup (captures (option_map (λ name. name.items) given)) left path old new
no_one_added old new path left given e same =
    subst (λ (n : Option (Vec ℕ Global)). AddsGroup (captures (option_map (λ name. name.items) n)) left path old new) (sym e) same

-- ---- from one mark to the next

adds_here : (left n : ℕ) (token : GroupToken) (ms : List GroupToken) (position : Position) (old new : List NamedGroup) →
    AddsGroup token n position.path old new → length position.path ≤ max_nesting_depth → nat_le left n ≡ true →
    map capture_of (filter (is_from left) old) ++ filter bears_name (groups_by position (token ∷ ms))
    ≡ map capture_of (filter (is_from left) new) ++ filter bears_name (groups_by (position_after token position) ms)
adds_here left n opens ms position old new same few e = rw same refl
adds_here left n (captures None) ms position old new same few e = rw same refl
adds_here left n (captures (Some name)) ms position old new (group, pushed, place, is) few e =
    let others = filter bears_name (groups_by (position_after (captures (Some name)) position) ms) in
    let before = map capture_of (filter (is_from left) old) in
    let from : is_from left group ≡ true = ap (nat_le left) place ∙ e in
    let one : filter (is_from left) (group ∷ []) ≡ group ∷ [] = rw from refl in
    sym (
    ap (λ (gs : List NamedGroup). map capture_of (filter (is_from left) gs) ++ others) pushed
    ∙ ap (λ (gs : List NamedGroup). map capture_of gs ++ others) (filter-append (is_from left) old (group ∷ []))
    ∙ ap (λ (gs : List NamedGroup). map capture_of (filter (is_from left) old ++ gs) ++ others) one
    ∙ ap (λ (gs : List CaptureAt). gs ++ others) (map-append capture_of (filter (is_from left) old) (group ∷ []))
    ∙ append_assoc before (capture_of group ∷ []) others
    ∙ ap (λ (g : CaptureAt). before ++ g ∷ others) (is few)
    )
adds_here left n closes ms position old new same few e = rw same refl
adds_here left n next ms position old new same few e = rw same refl
adds_here left n (nests nesting) ms position old new same few e = rw same refl

adds_beyond : (left n : ℕ) (token : GroupToken) (path : Path) (old new : List NamedGroup) → AddsGroup token n path old new → nat_le left n ≡ false →
    filter (is_from left) old ≡ filter (is_from left) new
adds_beyond left n opens path old new same e = rw same refl
adds_beyond left n (captures None) path old new same e = rw same refl
adds_beyond left n (captures (Some name)) path old new (group, pushed, place, is) e =
    let from : is_from left group ≡ false = ap (nat_le left) place ∙ e in
    let none : filter (is_from left) (group ∷ []) ≡ [] = rw from refl in
    sym (
    ap (filter (is_from left)) pushed ∙ filter-append (is_from left) old (group ∷ [])
    ∙ ap (λ (gs : List NamedGroup). filter (is_from left) old ++ gs) none ∙ append-nil (filter (is_from left) old)
    )
adds_beyond left n closes path old new same e = rw same refl
adds_beyond left n next path old new same e = rw same refl
adds_beyond left n (nests nesting) path old new same e = rw same refl

-- The invariant about places holds after a mark.
pub places_after : (sets : Bool) (table : Table) (t : Source) (mode : Mode) (c : ℕ) (rest u : Source) (token : GroupToken) (old new : Scanner) →
    rest ≡ c ∷ u → token_at sets table mode c u ≡ Some token →
    (deepest 1 (tokens sets table plain t) ≤ max_nesting_depth → length (path_of old.path) ≤ max_nesting_depth) →
    position_of new ≡ position_after token (position_of old) → AddsGroup token (length u + 1) (path_of old.path) old.named.items new.named.items →
    HasPlaces sets table t mode rest old → HasPlaces sets table t (mode_after sets mode c) u new
places_after sets table t mode c rest u token old new split marked short position adds before few left =
    before few left ∙ by (nat_le left (length u + 1)) refl
  where
    ms : List GroupToken
    ms = tokens_down_to left sets table (mode_after sets mode c) u

    by : (b : Bool) → nat_le left (length u + 1) ≡ b →
        map capture_of (filter (is_from left) old.named.items) ++ filter bears_name (groups_by (position_of old) (tokens_down_to left sets table mode rest))
        ≡ map capture_of (filter (is_from left) new.named.items) ++ filter bears_name (groups_by (position_of new) ms)
    by true e =
        ap (λ ts. map capture_of (filter (is_from left) old.named.items) ++ filter bears_name (groups_by (position_of old) ts))
        (ap (tokens_down_to left sets table mode) split ∙ here_or_beyond left sets table mode c u token marked e)
        ∙ adds_here left (length u + 1) token ms (position_of old) old.named.items new.named.items adds (short few) e
        ∙ ap (λ (p : Position). map capture_of (filter (is_from left) new.named.items) ++ filter bears_name (groups_by p ms)) (sym position)
    by false e =
        let past : length u + 1 < left = grind (arith, nat_tests, e) in
        let none : tokens_down_to left sets table mode rest ≡ [] = none_beyond left sets table mode rest (omega (arith, past, ap length split)) in
        let none' : ms ≡ [] = none_beyond left sets table (mode_after sets mode c) u (omega (arith, past)) in
        ap₂ (λ gs ts. map capture_of gs ++ filter bears_name (groups_by (position_of old) ts))
        (adds_beyond left (length u + 1) token (path_of old.path) old.named.items new.named.items adds e) none
        ∙ ap (λ ts. map capture_of (filter (is_from left) new.named.items) ++ filter bears_name (groups_by (position_of new) ts)) (sym none')

-- The same for a code point that is no mark.
pub places_over : (sets : Bool) (table : Table) (t : Source) (mode : Mode) (c : ℕ) (rest u : Source) (scanner : Scanner) →
    rest ≡ c ∷ u → token_at sets table mode c u ≡ None → HasPlaces sets table t mode rest scanner → HasPlaces sets table t (mode_after sets mode c) u scanner
places_over sets table t mode c rest u scanner split none before few left =
    before few left
    ∙ ap (λ ts. map capture_of (filter (is_from left) scanner.named.items) ++ filter bears_name (groups_by (position_of scanner) ts))
    (ap (tokens_down_to left sets table mode) split ∙ passed_over left sets table mode c u none)

-- ---- the order of the groups

not_named : (table : Table) (name : Name) (u : Source) → length u < 2 → opened_at table u ≡ captures (Some name) → ⊥
not_named table name [] few e = cc
not_named table name (q ∷ []) few e = by (q == question_mark) e
  where
    by : (b : Bool) → cond b opens (captures None) ≡ captures (Some name) → ⊥
    by true e = cc
    by false e = cc
not_named table name (q ∷ r ∷ u) few e = omega (arith, few)

-- A group with a name starts with `(?<`.
pub named_three : (sets : Bool) (table : Table) (mode : Mode) (c : ℕ) (u : Source) (name : Name) → token_at sets table mode c u ≡ Some (captures (Some name)) →
    3 ≤ length u + 1
named_three sets table plain c u name e =
    by (c == opening) (c == closing) (c == bar) e
  where
    by : (p q r : Bool) → cond p (Some (opened_at table u)) (cond q (Some closes) (cond r (Some next) None)) ≡ Some (captures (Some name)) → 3 ≤ length u + 1
    by true q r e =
        ⊎_elim (λ (few : length u < 2). absurd (not_named table name u few (same_Some _ _ e))) (λ (many : 2 ≤ length u). omega (arith, many))
        (cases_lt (length u) 2)
    by false true r e = absurd (cc)
    by false false true e = absurd (cc)
    by false false false e = absurd (cc)
named_three sets table escape c u name e = absurd (cc)
named_three sets table (class depth deepest) c u name e = by (c == 93 && depth == 0 && sets) e
  where
    by : (b : Bool) → cond b (Some (nests deepest)) None ≡ Some (captures (Some name)) → 3 ≤ length u + 1
    by true e = absurd (cc)
    by false e = absurd (cc)
named_three sets table (class_escape depth deepest) c u name e = absurd (cc)

-- Fewer code points remain from each later position on.
pub order_over : (n m : ℕ) (gs : List NamedGroup) → m ≤ n → AreInOrder n gs → AreInOrder m gs
order_over n m gs less h = record {
  falling = h.falling;
  above = All-weaker (λ (g : NamedGroup). n ≤ g.left) (λ (g : NamedGroup). m ≤ g.left) (λ g above. omega (arith, less, above)) gs h.above;
  three = h.three;
}

-- The groups stay in order when one is added.
pub order_after : (n m : ℕ) (token : GroupToken) (path : Path) (old new : List NamedGroup) → ((name : Name) → token ≡ captures (Some name) → 3 ≤ n) →
    m ≤ n → AddsGroup token n path old new → AreInOrder n old → AreInOrder m new
order_after n m opens path old new three less same h = rw same (order_over n m old less h)
order_after n m (captures None) path old new three less same h = rw same (order_over n m old less h)
order_after n m (captures (Some name)) path old new three less (group, pushed, place, is) h =
    let many : 3 ≤ n = three name refl in
    let kept = order_over n m old less h in
    rw pushed (record {
      falling = all_pairs_push (λ (g later : NamedGroup). later.left ≤ g.left) old group h.falling (λ k d l. omega (arith, place, h.above k d l));
      above = All-push (λ (g : NamedGroup). m ≤ g.left) old group kept.above (omega (arith, less, place));
      three = All-push (λ (g : NamedGroup). 3 ≤ g.left) old group h.three (omega (arith, many, place));
    })
order_after n m closes path old new three less same h = rw same (order_over n m old less h)
order_after n m next path old new three less same h = rw same (order_over n m old less h)
order_after n m (nests nesting) path old new three less same h = rw same (order_over n m old less h)

-- At the end of a pattern, its named groups are in the order of the source.
pub placed_all : (all : List GroupToken) (scanner : Scanner) (n : ℕ) → After all [] scanner → deepest 1 all ≤ max_nesting_depth →
    AreInOrder n scanner.named.items → AllPairs IsPlaced scanner.named.items
placed_all all scanner n after few order i j d less within =
    let gs = scanner.named.items in
    let kept : AllPairs IsBefore (map capture_of gs) =
    subst (AllPairs IsBefore) (after.named few ∙ append-nil (map capture_of gs)) (AllPairs-filter IsBefore bears_name _ (all_in_order all)) in
    let inside : j < length (map capture_of gs) = omega (arith, length-map gs capture_of, within) in
    let pair : IsBefore (get_or (map capture_of gs) i (capture_of d)) (get_or (map capture_of gs) j (capture_of d)) = kept i j (capture_of d) less inside in
    (order.falling i j d less within, rw (get_or-map capture_of gs i d, get_or-map capture_of gs j d) at pair)

-- ---- at the start, and at the end

-- Before a scan there are no groups.
pub no_places : (sets : Bool) (table : Table) (t : Source) (scanner : Scanner) → position_of scanner ≡ at_the_start → scanner.named.items ≡ [] →
    HasPlaces sets table t plain t scanner
no_places sets table t scanner start none few left = rw (start, none) refl

pub no_order : (n : ℕ) (gs : List NamedGroup) → gs ≡ [] → AreInOrder n gs
no_order n gs none = rw none (record {
  falling = λ i j d less within. absurd (omega (arith, within));
  above = All-nil (λ (g : NamedGroup). n ≤ g.left);
  three = All-nil (λ (g : NamedGroup). 3 ≤ g.left);
})

-- Skipping code points that are no marks keeps the invariant.
pub places_same : (sets : Bool) (table : Table) (t : Source) (mode : Mode) (rest here : Source) (scanner : Scanner) →
    ((left : ℕ) → tokens_down_to left sets table mode rest ≡ tokens_down_to left sets table mode here) →
    HasPlaces sets table t mode rest scanner → HasPlaces sets table t mode here scanner
places_same sets table t mode rest here scanner same before few left =
    before few left
    ∙ ap (λ ts. map capture_of (filter (is_from left) scanner.named.items) ++ filter bears_name (groups_by (position_of scanner) ts)) (same left)

-- ---- the first duplicate

-- If the search finds no conflict, no two groups conflict.
pub none_found : (all : List GroupToken) (scanner : Scanner) (sorted : List NamedGroup) → After all [] scanner → deepest 1 all ≤ max_nesting_depth →
    AreInOrder 0 scanner.named.items → IsPermutation scanner.named.items sorted → IsSortedBy is_before sorted →
    IsStableBy is_before scanner.named.items sorted →
    first_conflict sorted ≡ None → are_apart (map capture_of scanner.named.items) ≡ true
none_found all scanner sorted after few order moved up stable none =
    let before = sorted_before scanner.named.items sorted (placed_all all scanner 0 after few order) up stable in
    let near : NearApart 0 sorted = subst (λ (first : Option ℕ). NearApart (beyond first) sorted) none (near_first sorted) in
    ap (λ gs. are_apart (map capture_of gs)) (sym (all_from scanner.named.items))
    ∙ none_conflict 0 scanner.named.items sorted moved before near

-- The conflict that the search finds is the first one.
pub first_found : (all : List GroupToken) (scanner : Scanner) (sorted : List NamedGroup) (left : ℕ) (reported : FaultKind) (at : ℕ) → After all [] scanner →
    deepest 1 all ≤ max_nesting_depth → AreInOrder 0 scanner.named.items → IsPermutation scanner.named.items sorted → IsSortedBy is_before sorted →
    IsStableBy is_before scanner.named.items sorted → first_conflict sorted ≡ Some left → reported ≡ DuplicateName → at ≡ left - 3 →
    IsAtConflict scanner.named.items reported at
first_found all scanner [] left reported at after few order moved up stable some kind is conflicts = absurd (omega (arith, (conflict_found [] left some).within))
first_found all scanner (g ∷ gs) left reported at after few order moved up stable some kind is conflicts =
    let before = sorted_before scanner.named.items (g ∷ gs) (placed_all all scanner 0 after few order) up stable in
    let found = conflict_found (g ∷ gs) left some in
    let near : NearApart (left + 1) (g ∷ gs) = subst (λ (first : Option ℕ). NearApart (beyond first) (g ∷ gs)) some (near_first (g ∷ gs)) in
    let three : 3 ≤ (get_or (g ∷ gs) (found.index + 1) g).left =
    All-permutation (λ (x : NamedGroup). 3 ≤ x.left) scanner.named.items (g ∷ gs) moved order.three (found.index + 1) g found.within in (
      kind,
      left,
      is,
      omega (arith, three, found.at g),
      none_conflict (left + 1) scanner.named.items (g ∷ gs) moved before near,
      two_conflict left scanner.named.items (g ∷ gs) moved before found,
    )

-- The marks within the first n code points are those from which on more than m remain.
within_down : (n m : ℕ) (sets : Bool) (table : Table) (mode : Mode) (t : Source) → n + m ≡ length t →
    tokens_within n sets table mode t ≡ tokens_down_to (m + 1) sets table mode t
unfolding tokens_within tokens_down_to
within_down zero m sets table mode t e = sym (none_beyond (m + 1) sets table mode t (omega (arith, e)))
within_down (suc n) m sets table mode [] e = absurd (omega (arith, e))
within_down (suc n) m sets table mode (c ∷ t) e =
    let some : nat_le (m + 1) (length t + 1) ≡ true = let less : m ≤ length t = omega (arith, e) in grind (arith, nat_tests, less) in
    rw some (ap (λ ts. option_to_list (token_at sets table mode c t) ++ ts) (within_down n m sets table (mode_after sets mode c) t (omega (arith, e))))

-- The first of the groups that conflicts with one before it is the first one in the source.
pub duplicate_at : (sets : Bool) (table : Table) (t : Source) (mode : Mode) (scanner : Scanner) (reported : FaultKind) (at : ℕ) →
    deepest 1 (tokens sets table plain t) ≤ max_nesting_depth → HasPlaces sets table t mode [] scanner →
    are_apart (map capture_of scanner.named.items) ≡ false → IsAtConflict scanner.named.items reported at →
    (reported ≡ DuplicateName) × IsFirstDuplicate sets table t (length t - at)
unfolding tokens_down_to
duplicate_at sets table t mode scanner reported at few places some conflict =
    let (kind, left, is, three, apart, conflicts) = conflict some in
    let cut : (n : ℕ) → are_tokens_apart (tokens_down_to n sets table plain t) ≡ are_apart (map capture_of (filter (is_from n) scanner.named.items)) =
    λ n. are_apart-named (groups_by at_the_start (tokens_down_to n sets table plain t))
    ∙ ap are_apart (places few n ∙ append-nil (map capture_of (filter (is_from n) scanner.named.items))) in
    let within : left ≤ length t =
    ⊎_elim (λ (past : length t < left).
    absurd (true≢false (sym (ap are_tokens_apart (none_beyond left sets table plain t past)) ∙ cut left ∙ conflicts)))
    (λ (near : left ≤ length t). near) (cases_lt (length t) left) in
    let start = length t - left in
    let one : left - 1 + 1 ≡ left = omega (arith, three) in (
      kind,
      (
        start,
        omega (arith, is, three, within),
        ap are_tokens_apart (within_down start left sets table plain t (omega (arith, within))) ∙ cut (left + 1) ∙ apart,
        ap are_tokens_apart (within_down (start + 1) (left - 1) sets table plain t (omega (arith, within, three))
            ∙ ap (λ n. tokens_down_to n sets table plain t) one) ∙ cut left ∙ conflicts,
      ),
    )

-- the same for a fault
pub duplicates_at : (sets : Bool) (table : Table) (t : Source) (mode : Mode) (rest here : Source) (scanner : Scanner) (fault : Fault) → length here ≡ 0 →
    After (tokens sets table plain t) [] scanner →
    ((left : ℕ) → tokens_down_to left sets table mode rest ≡ tokens_down_to left sets table mode here) → HasPlaces sets table t mode rest scanner →
    (deepest 1 (tokens sets table plain t) ≤ max_nesting_depth → OnKindAt fault (IsAtConflict scanner.named.items)) →
    OnKindAt fault (IsAtDuplicate sets table t)
duplicates_at sets table t mode rest (c ∷ here) scanner fault empty after same before conflict = absurd (omega (arith, empty))
duplicates_at sets table t mode rest [] scanner (Rejected kind left) empty after same before conflict = λ some few.
    duplicate_at sets table t mode scanner kind left few (places_same sets table t mode rest [] scanner same before)
    (sym (apart_after (tokens sets table plain t) scanner after few) ∙ some) (conflict few)
duplicates_at sets table t mode rest [] scanner (Memory e) empty after same before conflict = tt

-- An error about names keeps its position.
pub located-duplicate : (sets : Bool) (table : Table) (t : Source) (first_errors : FirstErrors) (fault : Fault) →
    OnKindAt fault (IsAtDuplicate sets table t) → OnKindAt (located first_errors fault) (IsAtDuplicate sets table t)
located-duplicate sets table t first_errors (Rejected kind left) h = λ some few.
    let found = h some few in
    let same : unwrap_or (noted_for first_errors kind) left ≡ left = ap (λ (k : FaultKind). unwrap_or (noted_for first_errors k) left) found.0 in
    (found.0, subst (λ n. IsFirstDuplicate sets table t (length t - n)) (sym same) found.1)
located-duplicate sets table t first_errors (Memory e) h = tt
