-- The rest of a name, while it is parsed.
use Rattle.std.proofs.Common.{◌≡◌, ℕ, zero, suc, ◌+◌, ◌<◌, Bool, true, false, cond, [], ◌∷◌, ◌++◌, length, drop, Some, None, refl, sym, ap, ◌∙◌, append_assoc, append-nil, add-one, arith}
use Rattle.std.proofs.lemmas.Bool.{cond-true, cond-false}
use Rattle.regress_base.specs.Table.{Table}
use Rattle.regress_lexer.specs.Source.{Source, Found, ◌>>=◌, found_map, is_at}
use Rattle.regress_syntax.specs.Syntax.{Name}
use Rattle.regress_syntax.specs.Names.{continues_name, name_character_at, rest_of_name_by}
use Rattle.regress_lexer.proofs.lemmas.Sources.{then_same, cond_same}
use Rattle.regress_syntax.proofs.lemmas.NameEnds.{name_character_at-shortens}

-- A longer bound does not change the result.
rest_of_name_by-same : (n m : ℕ) (table : Table) (t : Source) → length t < n → length t < m →
    rest_of_name_by n table t ≡ rest_of_name_by m table t
unfolding rest_of_name_by
rest_of_name_by-same zero m table t h k = absurd (omega arith)
rest_of_name_by-same (suc n) zero table t h k = absurd (omega arith)
rest_of_name_by-same (suc n) (suc m) table t h k =
    cond_same (is_at 62 t) _ _ _ _ (λ closes. refl)
    (λ goes_on. then_same (name_character_at (continues_name table) t) _ _
    (λ x found. ap (found_map (λ cs. x.0 ∷ cs))
    (let shorter = name_character_at-shortens (continues_name table) t x found in
    rest_of_name_by-same n m table x.1 (omega arith) (omega arith))))

-- the rest of a name, with a sufficient bound
abbrev pub rest_of_name : Table → Source → Found Name
rest_of_name table t = rest_of_name_by (length t + 1) table t

-- a result whose name is prefixed with the characters parsed so far
abbrev pub after_parsed : Name → Found Name → Found Name
after_parsed read left = found_map (λ cs. read ++ cs) left

name_closed : (table : Table) (t : Source) → is_at 62 t ≡ true → rest_of_name table t ≡ Some ([], drop 1 t)
unfolding rest_of_name_by
name_closed table t closes = ap (λ n. rest_of_name_by n table t) (add-one (length t)) ∙ cond-true _ _ _ closes

name_goes_on : (table : Table) (t : Source) → is_at 62 t ≡ false →
    rest_of_name table t
    ≡ name_character_at (continues_name table) t >>= λ (x : ℕ × Source). found_map (λ cs. x.0 ∷ cs) (rest_of_name table x.1)
unfolding rest_of_name_by
name_goes_on table t goes_on =
    ap (λ n. rest_of_name_by n table t) (add-one (length t))
    ∙ cond-false _ _ _ goes_on
    ∙ then_same (name_character_at (continues_name table) t) _ _
    (λ x found. ap (found_map (λ cs. x.0 ∷ cs))
    (let shorter = name_character_at-shortens (continues_name table) t x found in
    rest_of_name_by-same (length t) (length x.1 + 1) table x.1 shorter (omega arith)))

after_one_more : (read : Name) (c : ℕ) (left : Found Name) →
    after_parsed read (found_map (λ cs. c ∷ cs) left) ≡ after_parsed (read ++ c ∷ []) left
after_one_more read c None = refl
after_one_more read c (Some x) = ap (λ (cs : Name). Some (cs, x.1)) (sym (append_assoc read (c ∷ []) x.0))

-- The rest of a name is its next character and the rest after it.
next_left : (table : Table) (t : Source) (read : Name) (next : Found ℕ) → is_at 62 t ≡ false →
    next ≡ name_character_at (continues_name table) t →
    after_parsed read (rest_of_name table t)
    ≡ after_parsed read (next >>= λ (x : ℕ × Source). found_map (λ cs. x.0 ∷ cs) (rest_of_name table x.1))
next_left table t read next goes_on found =
    ap (after_parsed read)
    (name_goes_on table t goes_on
    ∙ ap (λ (next : Found ℕ). next >>= λ (x : ℕ × Source). found_map (λ cs. x.0 ∷ cs) (rest_of_name table x.1)) (sym found))

some_closes : (b : Bool) (x y : Source) → Some y ≡ cond b (Some x) None → (b ≡ true) × (y ≡ x)
some_closes true x y e = (refl, cc)
some_closes false x y e = absurd cc

none_closes : (b : Bool) (x : Source) → None ≡ cond b (Some x) None → b ≡ false
none_closes true x e = absurd cc
none_closes false x e = refl

-- The loop's result is the whole name: by what follows the `>` if one is here.
pub all_of_name : (table : Table) (t rest : Source) (read : Name) → Some rest ≡ cond (is_at 62 t) (Some (drop 1 t)) None →
    after_parsed read (rest_of_name table t) ≡ Some (read, rest)
all_of_name table t rest read e =
    let closes = some_closes (is_at 62 t) (drop 1 t) rest e in
    ap (after_parsed read) (name_closed table t closes.0)
    ∙ rw (append-nil, closes.1) refl

pub one_more_of_name : (table : Table) (t rest : Source) (c : ℕ) (read : Name) → None ≡ cond (is_at 62 t) (Some (drop 1 t)) None →
    Some (c, rest) ≡ name_character_at (continues_name table) t →
    after_parsed read (rest_of_name table t) ≡ after_parsed (read ++ c ∷ []) (rest_of_name table rest)
one_more_of_name table t rest c read e found =
    next_left table t read (Some (c, rest)) (none_closes _ _ e) found ∙ after_one_more read c (rest_of_name table rest)

pub none_of_name : (table : Table) (t : Source) (read : Name) → None ≡ cond (is_at 62 t) (Some (drop 1 t)) None →
    None ≡ name_character_at (continues_name table) t → after_parsed read (rest_of_name table t) ≡ None
none_of_name table t read e none = next_left table t read None (none_closes _ _ e) none
