-- The strings of `\q{..}`, code point by code point.
use Rattle.std.proofs.Common.{◌≡◌, ℕ, zero, suc, ◌+◌, ◌<◌, Vec, true, false, List, [], ◌∷◌, ◌++◌, length, take, drop, get_or, Some, None, refl, sym, ap, subst, ◌∙◌, append_assoc, add-one, arith, length-drop}
use Rattle.std.proofs.lemmas.Bool.{cond-true, cond-false}
use Rattle.std.proofs.lemmas.List.{get_or-map, length-map, map-append, take_more}
use Rattle.std.proofs.lemmas.Option.{none-some}
use Rattle.std.proofs.lemmas.List.Elements.{All-nil, All-cons, All-append}
use Rattle.std.specs.List.{All}
use Rattle.std.specs.declared.alloc.Global.{Global}
use Rattle.regress_classes.specs.declared.parameters.Parameters.{Parameters}
use Rattle.regress_classes.specs.declared.class_sets.value.Value.{Value as CodeValue}
use Rattle.regress_lexer.specs.Source.{Source, Found, ◌>>=◌, found_map, is_at, IsCodePoint}
use Rattle.regress_classes.specs.ClassSets.{joined, value_of_string, value_of_strings, set_character_at, strings_by, quoted_at, class}
use Rattle.regress_classes.specs.ClassViews.{IsValue, strings_of}
use Rattle.regress_lexer.proofs.lemmas.Sources.{then_same, cond_same, at_front}
use Rattle.regress_lexer.proofs.lemmas.After.{after_shorter}
use Rattle.regress_classes.proofs.lemmas.ClassSets.{set_character_at-shortens}
use Rattle.regress_classes.proofs.ClassSetLemmas.{joined-assoc, joined-nothing, nothing-joined}

-- ---- the strings without a bound

pub character_shortens : (parameters : Parameters) (t : Source) (x : ℕ × Source) → set_character_at parameters t ≡ Some x → length x.1 < length t
unfolding set_character_at
character_shortens parameters [] x e = absurd (none-some x e)
character_shortens parameters (c ∷ t) x e = omega (arith, after_shorter t x.1 ((set_character_at-shortens parameters (c ∷ t)).each x e))

bar_shortens : (t : Source) → is_at 124 t ≡ true → length (drop 1 t) < length t
bar_shortens t e = omega (arith, at_front 124 t e, length-drop 1 t)

strings_by-same : (n m : ℕ) (parameters : Parameters) (s : List ℕ) (t : Source) → length t < n → length t < m →
    strings_by n parameters s t ≡ strings_by m parameters s t
unfolding strings_by
strings_by-same zero m parameters s t h k = absurd (omega arith)
strings_by-same (suc n) zero parameters s t h k = absurd (omega arith)
strings_by-same (suc n) (suc m) parameters s t h k =
    cond_same (is_at 125 t) _ _ _ _ (λ closes. refl)
    (λ goes_on. cond_same (is_at 124 t) _ _ _ _
    (λ bar. ap (found_map (λ ss. s ∷ ss))
    (let shorter = bar_shortens t bar in strings_by-same n m parameters [] (drop 1 t) (omega arith) (omega arith)))
    (λ more. then_same (set_character_at parameters t) _ _
    (λ x found. let shorter = character_shortens parameters t x found in
    strings_by-same n m parameters (s ++ x.0 ∷ []) x.1 (omega arith) (omega arith))))

abbrev pub strings_from : (parameters : Parameters) → List ℕ → Source → Found (List (List ℕ))
strings_from parameters s t = strings_by (length t + 1) parameters s t

strings_closed : (parameters : Parameters) (s : List ℕ) (t : Source) → is_at 125 t ≡ true → strings_from parameters s t ≡ Some (s ∷ [], drop 1 t)
unfolding strings_by
strings_closed parameters s t closes = ap (λ n. strings_by n parameters s t) (add-one (length t)) ∙ cond-true _ _ _ closes

strings_at_bar : (parameters : Parameters) (s : List ℕ) (t : Source) → is_at 125 t ≡ false → is_at 124 t ≡ true →
    strings_from parameters s t ≡ found_map (λ ss. s ∷ ss) (strings_from parameters [] (drop 1 t))
unfolding strings_by
strings_at_bar parameters s t goes_on bar =
    ap (λ n. strings_by n parameters s t) (add-one (length t)) ∙ cond-false _ _ _ goes_on ∙ cond-true _ _ _ bar
    ∙ ap (found_map (λ ss. s ∷ ss))
    (let shorter = bar_shortens t bar in
    strings_by-same (length t) (length (drop 1 t) + 1) parameters [] (drop 1 t) shorter (omega arith))

strings_at_character : (parameters : Parameters) (s : List ℕ) (t : Source) → is_at 125 t ≡ false → is_at 124 t ≡ false →
    strings_from parameters s t ≡ set_character_at parameters t >>= λ (x : ℕ × Source). strings_from parameters (s ++ x.0 ∷ []) x.1
unfolding strings_by
strings_at_character parameters s t goes_on more =
    ap (λ n. strings_by n parameters s t) (add-one (length t)) ∙ cond-false _ _ _ goes_on ∙ cond-false _ _ _ more
    ∙ then_same (set_character_at parameters t) _ _
    (λ x found. let shorter = character_shortens parameters t x found in
    strings_by-same (length t) (length x.1 + 1) parameters (s ++ x.0 ∷ []) x.1 shorter (omega arith))

-- ---- the strings so far

pub strings-push : (strings : List (List ℕ)) (s : List ℕ) →
    joined (value_of_strings strings) (value_of_string s) ≡ value_of_strings (strings ++ s ∷ [])
strings-push [] s = nothing-joined (value_of_string s) ∙ sym (joined-nothing (value_of_string s))
strings-push (first ∷ strings) s =
    joined-assoc (value_of_string first) (value_of_strings strings) (value_of_string s)
    ∙ ap (joined (value_of_string first)) (strings-push strings s)

-- the strings that follow those parsed already
abbrev pub strings_after : List (List ℕ) → Found (List (List ℕ)) → Found (List (List ℕ))
strings_after strings found = found_map (λ ss. strings ++ ss) found

none-more : (found : Found (List (List ℕ))) → found ≡ strings_after [] found
none-more None = refl
none-more (Some x) = refl

one-more : (strings : List (List ℕ)) (s : List ℕ) (found : Found (List (List ℕ))) →
    strings_after strings (found_map (λ ss. s ∷ ss) found) ≡ strings_after (strings ++ s ∷ []) found
one-more strings s None = refl
one-more strings s (Some x) = ap (λ (l : List (List ℕ)). Some (l, x.1)) (sym (append_assoc strings (s ∷ []) x.0))

-- From `t`, the strings `held` and the start `s` of one more were parsed, up to `rest`.
pub record StringsUpTo (parameters : Parameters) (t rest : Source) (s : List ℕ) (held : CodeValue) : Type 0 where
  pub strings : List (List ℕ)
  pub whole : strings_from parameters [] t ≡ strings_after strings (strings_from parameters s rest)
  pub value : IsValue held (value_of_strings strings)
  pub in_range : All IsCodePoint s

pub no_strings : (parameters : Parameters) (t : Source) (s : List ℕ) (held : CodeValue) → s ≡ [] → IsValue held (value_of_strings []) →
    StringsUpTo parameters t t s held
no_strings parameters t s held none value = rw none (record {
  strings = [];
  whole = none-more (strings_from parameters [] t);
  value = value;
  in_range = All-nil IsCodePoint;
})

pub more_character : (parameters : Parameters) (t rest after : Source) (s new : List ℕ) (c : ℕ) (held : CodeValue) →
    StringsUpTo parameters t rest s held → is_at 125 rest ≡ false → is_at 124 rest ≡ false → set_character_at parameters rest ≡ Some (c, after) →
    IsCodePoint c → new ≡ s ++ c ∷ [] → StringsUpTo parameters t after new held
more_character parameters t rest after s new c held so_far goes_on more found c_in pushed = rw pushed (record {
  strings = so_far.strings;
  whole = so_far.whole
      ∙ ap (strings_after so_far.strings)
      (strings_at_character parameters s rest goes_on more
      ∙ ap (λ (first : Found ℕ). first >>= λ (x : ℕ × Source). strings_from parameters (s ++ x.0 ∷ []) x.1) found);
  value = so_far.value;
  in_range = All-append IsCodePoint s (c ∷ []) so_far.in_range (All-cons IsCodePoint c [] c_in (All-nil IsCodePoint));
})

pub more_string : (parameters : Parameters) (t rest after : Source) (s next : List ℕ) (held new : CodeValue) →
    (so_far : StringsUpTo parameters t rest s held) → is_at 125 rest ≡ false → is_at 124 rest ≡ true → after ≡ drop 1 rest → next ≡ [] →
    IsValue new (joined (value_of_strings so_far.strings) (value_of_string s)) → StringsUpTo parameters t after next new
more_string parameters t rest after s next held new so_far goes_on bar moved none value = rw (moved, none) (record {
  strings = so_far.strings ++ s ∷ [];
  whole = so_far.whole ∙ ap (strings_after so_far.strings) (strings_at_bar parameters s rest goes_on bar)
      ∙ one-more so_far.strings s (strings_from parameters [] (drop 1 rest));
  value = rw (sym (strings-push so_far.strings s)) value;
  in_range = All-nil IsCodePoint;
})

pub all_strings_read : (parameters : Parameters) (t rest after : Source) (s : List ℕ) (held new : CodeValue) →
    (so_far : StringsUpTo parameters t rest s held) → is_at 125 rest ≡ true → after ≡ drop 1 rest →
    IsValue new (joined (value_of_strings so_far.strings) (value_of_string s)) →
    (ss : List (List ℕ)) × (strings_from parameters [] t ≡ Some (ss, after)) × IsValue new (value_of_strings ss)
all_strings_read parameters t rest after s held new so_far closes moved value = (
  so_far.strings ++ s ∷ [],
  so_far.whole ∙ ap (strings_after so_far.strings) (strings_closed parameters s rest closes)
      ∙ ap (λ (u : Source). Some (so_far.strings ++ s ∷ [], u)) (sym moved),
  rw (sym (strings-push so_far.strings s)) value,
)

-- No more character follows, also at the end of the source.
pub no_character : (parameters : Parameters) (t rest : Source) (s : List ℕ) (held : CodeValue) → StringsUpTo parameters t rest s held →
    is_at 125 rest ≡ false → is_at 124 rest ≡ false → set_character_at parameters rest ≡ None → strings_from parameters [] t ≡ None
no_character parameters t rest s held so_far goes_on more none =
    so_far.whole
    ∙ ap (strings_after so_far.strings)
    (strings_at_character parameters s rest goes_on more
    ∙ ap (λ (first : Found ℕ). first >>= λ (x : ℕ × Source). strings_from parameters (s ++ x.0 ∷ []) x.1) none)

pub character_at_end : (parameters : Parameters) (t : Source) → t ≡ [] → set_character_at parameters t ≡ None
unfolding set_character_at
character_at_end parameters t e = ap (set_character_at parameters) e

-- what follows `\q{`
pub quoted : (parameters : Parameters) (t inside : Source) (found : Found (List (List ℕ))) → is_at 123 t ≡ true → inside ≡ drop 1 t →
    strings_from parameters [] inside ≡ found → quoted_at parameters t ≡ found_map (λ ss. class (value_of_strings ss)) found
quoted parameters t inside found opens moved e =
    cond-true _ _ _ opens
    ∙ ap (found_map (λ ss. class (value_of_strings ss)))
    (strings_by-same (length t) (length (drop 1 t) + 1) parameters [] (drop 1 t)
    (omega (arith, at_front 123 t opens, length-drop 1 t)) (omega arith)
    ∙ ap (strings_from parameters []) (sym moved) ∙ e)

-- ---- the strings of a property, in order

pub string_at : (strings : List (Vec ℕ Global)) (i : ℕ) (string : Vec ℕ Global) → All (All IsCodePoint) (strings_of strings) →
    i < length strings → string ≡ get_or strings i string → All IsCodePoint string.items
string_at strings i string each lt is =
    subst (All IsCodePoint) (get_or-map (λ (other : Vec ℕ Global). other.items) strings i string string.items lt ∙ ap
    (λ (other : Vec ℕ Global). other.items) (sym is))
    (each i string.items (omega (arith, length-map strings (λ (other : Vec ℕ Global). other.items))))

pub one_more_held : (strings : List (Vec ℕ Global)) (i : ℕ) (string : Vec ℕ Global) (copy : List ℕ) (new : CodeValue) → i < length strings →
    string ≡ get_or strings i string → copy ≡ string.items →
    IsValue new (joined (value_of_strings (strings_of (take i strings))) (value_of_string copy)) →
    IsValue new (value_of_strings (strings_of (take (i + 1) strings)))
one_more_held strings i string copy new lt is same =
    subst (IsValue new)
    (ap (λ s. joined (value_of_strings (strings_of (take i strings))) (value_of_string s))
    (same ∙ ap (λ (other : Vec ℕ Global). other.items) is)
    ∙ strings-push (strings_of (take i strings)) (get_or strings i string).items
    ∙ ap value_of_strings (sym (ap strings_of (take_more strings i string lt) ∙ map-append (λ (other : Vec ℕ Global). other.items) (take i strings) _)))
