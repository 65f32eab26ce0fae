-- One node further in a list.
use Rattle.std.proofs.Common.{◌≡◌, ℕ, zero, suc, Bool, false, not, ◌||◌, List, [], ◌∷◌, ◌++◌, Option, Some, None, refl, sym, ap, ap₂, ◌∙◌, append-nil, append_assoc}
use Rattle.std.proofs.Math.Bool.{or-false, or_assoc}
use Rattle.std.specs.List.{list_any}
use Rattle.regress_tree.specs.Tree.{Tree}
use Rattle.regress_lexer.specs.Source.{Source}
use Rattle.regress_parse.specs.declared.span.Span.{Span}
use Rattle.regress_warnings.specs.declared.finder.Finder.{Finder}
use Rattle.regress_warnings.specs.declared.kind.Warning.{Warning}
use Rattle.regress_warnings.specs.Warned.{closes, ends_with_span, is_same_span, warned_at, warned}
use Rattle.regress_warnings.specs.Walked.{Adds, Closes, is_recorded, is_span}

-- Some node of the list closes the group with number n.
abbrev pub some_closes : List (Tree × Span) → ℕ → Bool
some_closes nodes n = list_any (λ x. closes n x.0) nodes

funext : {A B : Type 0} {f g : A → B} → ((x : A) → f x ≡ g x) → f ≡ g
funext same = λ i x. same x i

any-last : (n : ℕ) (nodes : List (Tree × Span)) (x : Tree × Span) → (some_closes nodes n || closes n x.0) ≡ some_closes (nodes ++ x ∷ []) n
any-last n [] x = sym (or-false (closes n x.0))
any-last n (y ∷ nodes) x = or_assoc (closes n y.0) (some_closes nodes n) (closes n x.0) ∙ ap (λ (b : Bool). closes n y.0 || b) (any-last n nodes x)

last-span : (span : Span) (nodes : List (Tree × Span)) (x : Tree × Span) → is_same_span span x.1 ≡ ends_with_span span (nodes ++ x ∷ [])
last-span span [] x = refl
last-span span (y ∷ []) x = refl
last-span span (y ∷ z ∷ nodes) x = last-span span (z ∷ nodes) x

-- What was found in the nodes before, and what is warned of in the others, is what is warned of in all.
pub record Walks (sets : Bool) (source : Source) (all : List (Tree × Span)) (finder : Finder) (previous : Option Span) (others : List (Tree × Span)) : Type 0 where
  pub before : List (Tree × Span)
  pub sets_is : finder.sets ≡ sets
  pub source_is : finder.pattern.now ≡ source
  pub are_closed : (n : ℕ) → is_recorded finder.closed.items n ≡ some_closes before n
  pub is_last : (span : Span) → is_span previous span ≡ ends_with_span span before
  pub completes : finder.found.items ++ warned sets source before others ≡ warned sets source [] all

none_recorded : (n : ℕ) → is_recorded [] n ≡ false
none_recorded zero = refl
none_recorded (suc n) = refl

module _ (sets : Bool) (source : Source) (all : List (Tree × Span)) where
  -- At first nothing is recorded.
  pub at_first : (finder : Finder) → finder.sets ≡ sets → finder.pattern.now ≡ source → finder.closed.items ≡ [] → finder.found.items ≡ [] →
      Walks sets source all finder None all
  at_first finder same_sets same_source none_closed none_found = record {
    before = [];
    sets_is = same_sets;
    source_is = same_source;
    are_closed = λ n. ap (λ (closed : List Bool). is_recorded closed n) none_closed ∙ none_recorded n;
    is_last = λ span. refl;
    completes = ap (λ (ws : List Warning). ws ++ warned sets source [] all) none_found;
  }

  -- One node further: it was warned of, and then recorded.
  pub one_more : (now mid after : Finder) (previous : Option Span) (t : Tree) (span : Span) (others rest : List (Tree × Span)) (is_first : Bool) →
      Walks sets source all now previous others → others ≡ (t, span) ∷ rest → is_first ≡ not (is_span previous span) →
      Adds now mid (warned_at now.sets now.pattern.now (is_recorded now.closed.items) span is_first t) → Closes mid after t →
      Walks sets source all after (Some span) rest
  one_more now mid after previous t span others rest is_first walks next first adds closes_it = record {
    before = walks.before ++ (t, span) ∷ [];
    sets_is = closes_it.sets ∙ adds.sets ∙ walks.sets_is;
    source_is = closes_it.pattern ∙ adds.pattern ∙ walks.source_is;
    are_closed = λ n.
        closes_it.closed n
        ∙ ap (λ (b : Bool). b || closes n t) (ap (λ (closed : List Bool). is_recorded closed n) adds.closed ∙ walks.are_closed n)
        ∙ any-last n walks.before (t, span);
    is_last = λ s. last-span s walks.before (t, span);
    completes =
        ap (λ (ws : List Warning). ws ++ remaining) (closes_it.found ∙ adds.listed ∙ ap (λ (ws : List Warning). now.found.items ++ ws) here)
        ∙ append_assoc now.found.items (warned_at sets source (some_closes walks.before) span (not (ends_with_span span walks.before)) t) remaining
        ∙ sym (ap (λ (xs : List (Tree × Span)). now.found.items ++ warned sets source walks.before xs) next) ∙ walks.completes;
  }
    where
      remaining : List Warning
      remaining = warned sets source (walks.before ++ (t, span) ∷ []) rest

      here : warned_at now.sets now.pattern.now (is_recorded now.closed.items) span is_first t
          ≡ warned_at sets source (some_closes walks.before) span (not (ends_with_span span walks.before)) t
      here =
          ap₂ (λ (v : Bool) (text : Source). warned_at v text (is_recorded now.closed.items) span is_first t) walks.sets_is walks.source_is
          ∙ ap₂ (λ (c : ℕ → Bool) (b : Bool). warned_at sets source c span b t) (funext walks.are_closed)
          (first ∙ ap (λ (b : Bool). not b) (walks.is_last span))

  -- No node is left.
  pub ended : (finder : Finder) (previous : Option Span) (others : List (Tree × Span)) → others ≡ [] → Walks sets source all finder previous others →
      finder.found.items ≡ warned sets source [] all
  ended finder previous others none walks =
      sym (append-nil finder.found.items) ∙ sym (ap (λ (xs : List (Tree × Span)). finder.found.items ++ warned sets source walks.before xs) none)
      ∙ walks.completes
