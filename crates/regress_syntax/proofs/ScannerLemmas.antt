-- The state of a scan, and the marks that it has passed.
use Rattle.std.proofs.Common.{◌≡◌, ℕ, ◌+◌, ◌-◌, ◌^◌, min, max, ◌≤◌, ◌<◌, inl, inr, ⊎_elim, append_assoc, Bool, true, false, cond, not, ◌==◌, ◌&&◌, List, [], ◌∷◌, ◌++◌, map, length, Option, Some, None, option_map, Vec, filter, is_some, ap₂, true≢false, refl, sym, ap, ◌∙◌, subst, arith, option_to_list, append-nil}
use Rattle.std.specs.List.{list_all}
use Rattle.std.specs.declared.alloc.Global.{Global}
use Rattle.std.proofs.lemmas.Bool.{and_left, cases_lt}
use Rattle.std.proofs.lemmas.List.Elements.{filter-append}
use Rattle.std.proofs.lemmas.List.{map-append, length-map}
use Rattle.regress_base.specs.Limits.{max_nesting_depth}
use Rattle.regress_base.specs.Table.{Table}
use Rattle.regress_lexer.specs.declared.fault.FaultKind.TheVariants.{DuplicateName, TooManyGroups}
use Rattle.regress_lexer.specs.Source.{Source}
use Rattle.regress_syntax.specs.GroupTokens.{GroupToken, opens, captures, closes, next, nests}
use Rattle.regress_syntax.specs.SameNames.{same_name}
use Rattle.regress_syntax.specs.Paths.{Path, Position, enter, CaptureAt, groups_by, at_the_start, conflict, are_apart, are_tokens_apart}
use Rattle.regress_syntax.specs.Scan.{TokensShow, named_by, Mode, plain, escape, class, class_escape, tokens, mode_after, token_at, deepest}
use Rattle.regress_syntax.specs.Numbering.{names_of}
use Rattle.regress_syntax.specs.Scanning.{depth_of, bears_name, capture_of, path_of, position_of, After}
use Rattle.regress_syntax.specs.declared.scan.scanner.Scanner.{Scanner}
use Rattle.regress_syntax.specs.declared.scan.scanner.NamedGroup.{NamedGroup}

-- ---- groups without names do not conflict

same_name-none : (a b : Option (List ℕ)) → is_some b ≡ false → same_name a b ≡ false
same_name-none None b e = refl
same_name-none (Some a) None e = refl
same_name-none (Some a) (Some b) e = absurd (true≢false e)

none-same_name : (a b : Option (List ℕ)) → is_some a ≡ false → same_name a b ≡ false
none-same_name None b e = refl
none-same_name (Some a) b e = absurd (true≢false e)

conflict-none : (g other : CaptureAt) → bears_name other ≡ false → conflict g other ≡ false
conflict-none g other e = and_left _ _ (same_name-none g.name other.name e)

none-conflict : (g other : CaptureAt) → bears_name g ≡ false → conflict g other ≡ false
none-conflict g other e = and_left _ _ (none-same_name g.name other.name e)

abbrev is_apart_from : CaptureAt → List CaptureAt → Bool
is_apart_from g gs = list_all (λ other. not (conflict g other)) gs

apart_from_named : (g : CaptureAt) (gs : List CaptureAt) → is_apart_from g gs ≡ is_apart_from g (filter bears_name gs)
apart_from_named g [] = refl
apart_from_named g (other ∷ gs) = by_test (apart_from_named g gs) (bears_name other) refl
  where
    by_test : is_apart_from g gs ≡ is_apart_from g (filter bears_name gs) → (b : Bool) → bears_name other ≡ b →
        is_apart_from g (other ∷ gs) ≡ is_apart_from g (cond b (other ∷ filter bears_name gs) (filter bears_name gs))
    by_test same true e = ap (λ b. not (conflict g other) && b) same
    by_test same false e = ap (λ b. not b && is_apart_from g gs) (conflict-none g other e) ∙ same

none_is_apart : (g : CaptureAt) (gs : List CaptureAt) → bears_name g ≡ false → is_apart_from g gs ≡ true
none_is_apart g [] e = refl
none_is_apart g (other ∷ gs) e = ap (λ b. not b && is_apart_from g gs) (none-conflict g other e) ∙ none_is_apart g gs e

pub are_apart-named : (gs : List CaptureAt) → are_apart gs ≡ are_apart (filter bears_name gs)
are_apart-named [] = refl
are_apart-named (g ∷ gs) = by_test (are_apart-named gs) (bears_name g) refl
  where
    by_test : are_apart gs ≡ are_apart (filter bears_name gs) → (b : Bool) → bears_name g ≡ b →
        are_apart (g ∷ gs) ≡ are_apart (cond b (g ∷ filter bears_name gs) (filter bears_name gs))
    by_test same true e = ap₂ (λ a b. a && b) (apart_from_named g gs) same
    by_test same false e = ap (λ b. b && are_apart gs) (none_is_apart g gs e) ∙ same

-- ---- what is found

pub named_added : (old new : List NamedGroup) (group : NamedGroup) (name : Vec ℕ Global) (path : Path) (given : Option (Vec ℕ Global)) →
    given ≡ Some name → group.name.items ≡ name.items → path_of group.path ≡ path → new ≡ old ++ group ∷ [] →
    map capture_of new ≡ map capture_of old ++ filter bears_name (record { path = path; name = option_map (λ name. name.items) given } ∷ [])
named_added old new group name path given e names paths pushed =
    rw (e, ← names, ← paths, pushed) (map-append capture_of old (group ∷ []))

pub none_added : (old new : List NamedGroup) (path : Path) (given : Option (Vec ℕ Global)) → given ≡ None → new ≡ old →
    map capture_of new ≡ map capture_of old ++ filter bears_name (record { path = path; name = option_map (λ name. name.items) given } ∷ [])
none_added old new path given e same = rw (e, same) (sym (append-nil (map capture_of old)))

-- ---- nesting depth

-- The greatest depth is at least the current one.
pub deepest_above : (n : ℕ) (ms : List GroupToken) → n ≤ deepest n ms
deepest_above n [] = omega arith
deepest_above n (opens ∷ ms) = omega arith
deepest_above n (captures name ∷ ms) = omega arith
deepest_above n (closes ∷ ms) = omega arith
deepest_above n (next ∷ ms) = omega arith
deepest_above n (nests nesting ∷ ms) = omega (arith, deepest_above n ms)

-- ---- after a mark

pub after_opens : (all rest : List GroupToken) (old new : Scanner) →
    new ≡ record old { path = new.path; opened = new.opened; deepest = new.deepest } →
    position_of new ≡ enter (position_of old) → new.deepest ≡ max old.deepest (length (path_of old.path) + 1) →
    After all (opens ∷ rest) old → After all rest new
after_opens all rest old new same position counted after =
    let more : length (path_of new.path) ≡ length (path_of old.path) + 1 = omega (arith, ap (λ (p : Position). length p.path) position) in
    record {
      names = after.names ∙ ap (λ (s : Scanner). names_of s.names.items ++ named_by rest) (sym same);
      named = λ few. after.named few
          ∙ ap₂ (λ (s : Scanner) (p : Position). map capture_of s.named.items ++ filter bears_name (groups_by p rest)) (sym same) (sym position);
      some = omega (arith, more);
      opened = omega (arith, more, counted);
      nesting = omega (arith, more, counted, after.nesting, ap (λ n. deepest n rest) more, deepest_above (length (path_of old.path) + 1) rest);
    }

-- A group's path is that of the position before its parenthesis.
pub after_captures : (all rest : List GroupToken) (given : Option (Vec ℕ Global)) (old mid new : Scanner) →
    mid ≡ record old { names = mid.names; named = mid.named } → names_of mid.names.items ≡ names_of old.names.items ++ names_of (given ∷ []) →
    (length (path_of old.path) ≤ max_nesting_depth → map capture_of mid.named.items ≡ map capture_of old.named.items
    ++ filter bears_name (record { path = path_of old.path; name = option_map (λ name. name.items) given } ∷ [])) →
    new ≡ record mid { path = new.path; opened = new.opened; deepest = new.deepest } → position_of new ≡ enter (position_of mid) →
    new.deepest ≡ max mid.deepest (length (path_of mid.path) + 1) →
    After all (captures (option_map (λ name. name.items) given) ∷ rest) old → After all rest new
after_captures all rest given old mid new added names named same position counted after =
    let kept : position_of mid ≡ position_of old = ap position_of added in
    let before : mid.deepest ≡ old.deepest = ap (λ (s : Scanner). s.deepest) added in
    let held : length (path_of mid.path) ≡ length (path_of old.path) = ap (λ (p : Position). length p.path) kept in
    let more : length (path_of new.path) ≡ length (path_of old.path) + 1 = omega (arith, ap (λ (p : Position). length p.path) position, held) in
    let count : new.deepest ≡ max old.deepest (length (path_of old.path) + 1) = omega (arith, counted, before, held) in
    let group : CaptureAt = record { path = path_of old.path; name = option_map (λ name. name.items) given } in
    let others = groups_by (enter (position_of old)) rest in
    record {
      names = after.names ∙ sym (append_assoc (names_of old.names.items) (names_of (given ∷ [])) (named_by rest))
          ∙ ap (λ ns. ns ++ named_by rest) (sym (ap (λ (s : Scanner). names_of s.names.items) same ∙ names));
      named = λ few.
          after.named few
          ∙ ap (λ gs. map capture_of old.named.items ++ gs) (filter-append bears_name (group ∷ []) others)
          ∙ sym (append_assoc (map capture_of old.named.items) (filter bears_name (group ∷ [])) (filter bears_name others))
          ∙ ap (λ gs. gs ++ filter bears_name others)
          (sym (ap (λ (s : Scanner). map capture_of s.named.items) same ∙ named (omega (arith, few, after.nesting, after.opened))))
          ∙ ap (λ (p : Position). map capture_of new.named.items ++ filter bears_name (groups_by p rest))
          (sym (position ∙ ap enter kept));
      some = omega (arith, more);
      opened = omega (arith, more, count);
      nesting = omega (arith, more, count, after.nesting, ap (λ n. deepest n rest) more, deepest_above (length (path_of old.path) + 1) rest);
    }

-- ---- at the end of a pattern

-- The saturated depth is past the limit exactly if the depth is.
counted : (n d : ℕ) → min n (2 ^ 64 - 1) ≡ min d (2 ^ 64 - 1) → (d ≤ max_nesting_depth → n ≤ max_nesting_depth) ×
    (max_nesting_depth < d → max_nesting_depth < n)
counted n d same = (λ few. omega (arith, same), λ many. omega (arith, same))

pub open_groups_after : (all : List GroupToken) (scanner : Scanner) → After all [] scanner → scanner.deepest ≤ max_nesting_depth → deepest 1 all ≤ max_nesting_depth
open_groups_after all scanner after few = (counted (deepest 1 all) _ after.nesting).0 (omega (arith, after.opened))

pub deep_after : (all : List GroupToken) (scanner : Scanner) → After all [] scanner → max_nesting_depth < scanner.deepest → max_nesting_depth < deepest 1 all
deep_after all scanner after many = (counted (deepest 1 all) _ after.nesting).1 (omega (arith, many))

pub apart_after : (all : List GroupToken) (scanner : Scanner) → After all [] scanner → deepest 1 all ≤ max_nesting_depth →
    are_tokens_apart all ≡ are_apart (map capture_of scanner.named.items)
apart_after all scanner after few =
    are_apart-named (groups_by at_the_start all) ∙ ap are_apart (after.named few ∙ append-nil (map capture_of scanner.named.items))

-- A conflict that the code finds is one, or the pattern is nested too deeply.
pub rejected_after : (all : List GroupToken) (scanner : Scanner) → After all [] scanner → are_apart (map capture_of scanner.named.items) ≡ false →
    TokensShow all DuplicateName
rejected_after all scanner after conflicts =
    inl (
      refl,
      ⊎_elim (λ (many : max_nesting_depth < deepest 1 all). inr many)
          (λ (few : deepest 1 all ≤ max_nesting_depth). inl (apart_after all scanner after few ∙ conflicts))
          (cases_lt max_nesting_depth (deepest 1 all)),
    )

-- There are more groups than 32 bits can number.
pub many_after : (all : List GroupToken) (scanner : Scanner) → After all [] scanner → 2 ^ 32 - 1 < length scanner.names.items → TokensShow all TooManyGroups
many_after all scanner after many =
    let same : length (named_by all) ≡ length scanner.names.items =
    ap length (after.names ∙ append-nil (names_of scanner.names.items)) ∙ length-map scanner.names.items _ in
    inr (inr (refl, omega (arith, same, many)))

-- ---- from one code point to the next

-- A code point opens at most one class.
pub depth-mode_after : (sets : Bool) (mode : Mode) (c : ℕ) → depth_of (mode_after sets mode c) ≤ depth_of mode + 1
depth-mode_after sets plain c = by (c == 92) (c == 91)
  where
    by : (backslash bracket : Bool) → depth_of (cond backslash escape (cond bracket (class 0 0) plain)) ≤ 0 + 1
    by true bracket = omega arith
    by false true = omega arith
    by false false = omega arith
depth-mode_after sets escape c = omega arith
depth-mode_after sets (class depth deepest) c = by (c == 92) (c == 91 && sets) (c == 93 && depth == 0) (c == 93)
  where
    by : (backslash opened outermost bracket : Bool) →
        depth_of (cond backslash (class_escape depth deepest) (cond opened (class (depth + 1) (max deepest (depth + 1)))
        (cond outermost plain (cond bracket (class (depth - 1) deepest) (class depth deepest))))) ≤ depth + 1
    by true opened outermost bracket = omega arith
    by false true outermost bracket = omega arith
    by false false true bracket = omega arith
    by false false false true = omega arith
    by false false false false = omega arith
depth-mode_after sets (class_escape depth deepest) c = omega arith

-- The invariant holds after a mark.
pub at_token : (sets : Bool) (table : Table) (mode : Mode) (c : ℕ) (rest t : Source) (all : List GroupToken) (token : GroupToken) (scanner : Scanner) →
    rest ≡ c ∷ t → token_at sets table mode c t ≡ Some token →
    After all (tokens sets table mode rest) scanner → After all (token ∷ tokens sets table (mode_after sets mode c) t) scanner
unfolding tokens
at_token sets table mode c rest t all token scanner split marked after =
    let whole : tokens sets table mode rest ≡ token ∷ tokens sets table (mode_after sets mode c) t =
    ap (tokens sets table mode) split
    ∙ ap (λ (found : Option GroupToken). option_to_list found ++ tokens sets table (mode_after sets mode c) t) marked in
    subst (λ (ms : List GroupToken). After all ms scanner) whole after

-- The invariant holds after a code point that is no mark.
pub at_no_token : (sets : Bool) (table : Table) (mode : Mode) (c : ℕ) (rest t : Source) (all : List GroupToken) (scanner : Scanner) →
    rest ≡ c ∷ t → token_at sets table mode c t ≡ None →
    After all (tokens sets table mode rest) scanner → After all (tokens sets table (mode_after sets mode c) t) scanner
unfolding tokens
at_no_token sets table mode c rest t all scanner split marked after =
    let whole : tokens sets table mode rest ≡ tokens sets table (mode_after sets mode c) t =
    ap (tokens sets table mode) split
    ∙ ap (λ (found : Option GroupToken). option_to_list found ++ tokens sets table (mode_after sets mode c) t) marked in
    subst (λ (ms : List GroupToken). After all ms scanner) whole after

-- At the end of the source all marks are passed.
pub all_passed : (sets : Bool) (table : Table) (mode : Mode) (rest : Source) (all : List GroupToken) (scanner : Scanner) → length rest ≡ 0 →
    After all (tokens sets table mode rest) scanner → After all [] scanner
unfolding tokens
all_passed sets table mode [] all scanner e after = after
all_passed sets table mode (c ∷ t) all scanner e after = absurd (omega arith)
