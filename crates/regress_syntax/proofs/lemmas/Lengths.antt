-- The numbers of groups and loops and the nesting depth are at most the length of the source: each of them takes a code
-- point.
use Rattle.std.proofs.Common.{◌≡◌, ℕ, ◌+◌, ◌-◌, ◌≤◌, ◌<◌, max, Bool, true, false, ◌&&◌, ◌==◌, cond, ⊎_elim, List, [], ◌∷◌, ◌++◌, drop, length, Option, Some, None, refl, ap, arith}
use Rattle.std.specs.Option.{option_to_list}
use Rattle.std.proofs.lemmas.Option.{none-some, same_Some, cond_some}
use Rattle.regress_base.specs.declared.types.Quantifier.{Quantifier}
use Rattle.regress_base.specs.Table.{Table, IsValidTable}
use Rattle.regress_lexer.specs.Source.{Source, Found, opening, closing, bar, question_mark, is_at}
use Rattle.regress_lexer.specs.Quantifiers.{quantifier_at, is_ordered}
use Rattle.regress_lexer.proofs.lemmas.Sources.{chosen}
use Rattle.regress_lexer.proofs.lemmas.After.{quantifier_at-shortens}
use Rattle.regress_classes.specs.declared.parameters.Parameters.{Parameters}
use Rattle.regress_classes.specs.ClassSets.{Value, class_set_at}
use Rattle.regress_syntax.specs.Syntax.{Name, Group, grouping, modified, capture, look, opened_by}
use Rattle.regress_syntax.specs.Names.{group_name_at}
use Rattle.regress_syntax.specs.Productions.{Context, no_quantifier_at, this_quantifier, optional_quantifier_at}
use Rattle.regress_syntax.specs.GroupTokens.{GroupToken, opens, captures, closes, next, nests}
use Rattle.regress_syntax.specs.Scan.{Mode, plain, escape, class, class_escape, opened_at, mode_after, token_at, tokens, named_by, deepest}
use Rattle.regress_syntax.proofs.ScanSets.{gives_class_set_at}

-- ---- productions

-- A parenthesis opens at most one capture group.
pub opened_by-one : (kind : Group) → opened_by kind ≤ 1
opened_by-one grouping = omega arith
opened_by-one (modified change) = omega arith
opened_by-one (capture name) = omega arith
opened_by-one (look negate direction) = omega arith

-- A quantifier takes at least one code point.
pub optional_quantifier_at-takes : (ctx : Context) (allowed : Bool) (t : Source) (q : Quantifier) (rest : Source) → optional_quantifier_at ctx allowed t ≡ Some (Some q, rest) →
    length rest < length t
unfolding optional_quantifier_at
optional_quantifier_at-takes ctx allowed t q rest e = by (quantifier_at t) refl e
  where
    by : (found : Found Quantifier) → quantifier_at t ≡ found →
        elim found as (λ _. Found (Option Quantifier)) [
          | None ↦ no_quantifier_at ctx t
          | Some x ↦ this_quantifier ctx allowed x
        ] ≡ Some (Some q, rest) → length rest < length t
    by None same h =
        ⊎_elim (λ (brace : _ × (None ≡ Some (Some q, rest))). absurd (none-some (Some q, rest) brace.1))
        (λ (none : _ × (Some (None, t) ≡ Some (Some q, rest))).
        absurd (none-some q (ap (λ (z : Option Quantifier × Source). z.0) (same_Some (None, t) (Some q, rest) none.1))))
        (chosen (ctx.setting.flags.unicode && is_at 123 t) _ _ _ h)
    by (Some x) same h =
        let found = cond_some (allowed && is_ordered x.0) (Some x.0, x.1) (Some q, rest) h in
        omega (
          arith,
          quantifier_at-shortens t x same,
          ap (λ (z : Option Quantifier × Source). length z.1) found.1,
        )

-- ---- marks

one_named : (found : Option GroupToken) (ms : List GroupToken) → length (named_by (option_to_list found ++ ms)) ≤ length (named_by ms) + 1
one_named None ms = omega arith
one_named (Some opens) ms = omega arith
one_named (Some (captures name)) ms = omega arith
one_named (Some closes) ms = omega arith
one_named (Some next) ms = omega arith
one_named (Some (nests nesting)) ms = omega arith

-- There are at most as many groups as code points.
pub named_by-length : (sets : Bool) (table : Table) (m : Mode) (t : Source) → length (named_by (tokens sets table m t)) ≤ length t
unfolding tokens
named_by-length sets table m [] = omega arith
named_by-length sets table m (c ∷ t) =
    omega (
      arith,
      one_named (token_at sets table m c t) (tokens sets table (mode_after sets m c) t),
      named_by-length sets table (mode_after sets m c) t,
    )

-- the greatest depth that a scan has reached in the class that it is in
abbrev passed : Mode → ℕ
passed plain = 0
passed escape = 0
passed (class depth deepest) = deepest
passed (class_escape depth deepest) = deepest

-- The scan's depth is at most the greatest depth that it has reached.
abbrev IsInside : Mode → Type 0
IsInside plain = Unit {0}
IsInside escape = Unit {0}
IsInside (class depth deepest) = depth ≤ deepest
IsInside (class_escape depth deepest) = depth ≤ deepest

-- From every depth on, the marks nest at most k deeper.
abbrev NoDeeper : ℕ → List GroupToken → Type 0
NoDeeper k ms = (n : ℕ) → 1 ≤ n → deepest n ms ≤ n + k

opened_deeper : (k : ℕ) (found : Option (Name × Source)) (question : Bool) (ms : List GroupToken) → NoDeeper k ms → (n : ℕ) → 1 ≤ n →
    deepest n (cond question (elim found as (λ _. GroupToken) [ None ↦ opens | Some x ↦ captures (Some x.0) ]) (captures None) ∷ ms) ≤ n + (k + 1)
opened_deeper k None true ms h n some = omega (arith, h (n + 1) (omega arith))
opened_deeper k (Some x) true ms h n some = omega (arith, h (n + 1) (omega arith))
opened_deeper k found false ms h n some = omega (arith, h (n + 1) (omega arith))

plain_deeper : (table : Table) (t : Source) (k : ℕ) (opened closed barred : Bool) (ms : List GroupToken) → NoDeeper k ms → NoDeeper (k + 1)
    (option_to_list (cond opened (Some (opened_at table t)) (cond closed (Some closes) (cond barred (Some next) None))) ++ ms)
plain_deeper table t k true closed barred ms h n some = opened_deeper k (group_name_at table (drop 1 t)) (is_at question_mark t) ms h n some
plain_deeper table t k false true barred ms h n some = omega (arith, some, h (max 1 (n - 1)) (omega arith))
plain_deeper table t k false false true ms h n some = omega (arith, h n some)
plain_deeper table t k false false false ms h n some = omega (arith, h n some)

class_deeper : (nesting k : ℕ) (closed : Bool) (ms : List GroupToken) → nesting ≤ k → NoDeeper k ms →
    NoDeeper k (option_to_list (cond closed (Some (nests nesting)) None) ++ ms)
class_deeper nesting k true ms few h n some = omega (arith, few, h n some)
class_deeper nesting k false ms few h n some = omega (arith, h n some)

-- The same for a source of which the scan is in any mode: k is its length.
abbrev AllNoDeeper : (sets : Bool) → Table → Source → Type 0
AllNoDeeper sets table t = (m : Mode) → IsInside m → NoDeeper (passed m + length t) (tokens sets table m t)

after_plain : (sets : Bool) (table : Table) (t : Source) → AllNoDeeper sets table t → (backslash bracket : Bool) →
    NoDeeper (length t) (tokens sets table (cond backslash escape (cond bracket (class 0 0) plain)) t)
after_plain sets table t all true bracket k some = omega (arith, all escape tt k some)
after_plain sets table t all false true k some = omega (arith, all (class 0 0) (omega arith) k some)
after_plain sets table t all false false k some = omega (arith, all plain tt k some)

after_in_class : (sets : Bool) (table : Table) (t : Source) → AllNoDeeper sets table t → (depth most : ℕ) → depth ≤ most →
    (backslash opened outermost bracket : Bool) → NoDeeper (most + 1 + length t)
    (tokens sets table (cond backslash (class_escape depth most) (cond opened (class (depth + 1) (max most (depth + 1)))
    (cond outermost plain (cond bracket (class (depth - 1) most) (class depth most))))) t)
after_in_class sets table t all depth most inside true opened outermost bracket k some =
    omega (arith, all (class_escape depth most) inside k some)
after_in_class sets table t all depth most inside false true outermost bracket k some =
    omega (arith, inside, all (class (depth + 1) (max most (depth + 1))) (omega arith) k some)
after_in_class sets table t all depth most inside false false true bracket k some = omega (arith, all plain tt k some)
after_in_class sets table t all depth most inside false false false true k some =
    omega (arith, all (class (depth - 1) most) (omega (arith, inside)) k some)
after_in_class sets table t all depth most inside false false false false k some = omega (arith, all (class depth most) inside k some)

no_deeper : (sets : Bool) (table : Table) (t : Source) → AllNoDeeper sets table t
unfolding tokens
no_deeper sets table [] m inside n some = omega arith
no_deeper sets table (c ∷ t) plain inside n some =
    omega (
      arith,
      plain_deeper table t (length t) (c == opening) (c == closing) (c == bar) (tokens sets table (mode_after sets plain c) t)
          (after_plain sets table t (no_deeper sets table t) (c == 92) (c == 91)) n some,
    )
no_deeper sets table (c ∷ t) escape inside n some = omega (arith, no_deeper sets table t plain tt n some)
no_deeper sets table (c ∷ t) (class depth most) inside n some =
    omega (
      arith,
      class_deeper most (most + 1 + length t) (c == 93 && depth == 0 && sets) (tokens sets table (mode_after sets (class depth most) c) t)
          (omega arith)
          (after_in_class sets table t (no_deeper sets table t) depth most inside (c == 92) (c == 91 && sets) (c == 93 && depth == 0) (c == 93))
          n some,
    )
no_deeper sets table (c ∷ t) (class_escape depth most) inside n some = omega (arith, no_deeper sets table t (class depth most) inside n some)

-- The nesting depth is at most one more than the number of code points.
pub deepest-length : (sets : Bool) (table : Table) (t : Source) → deepest 1 (tokens sets table plain t) ≤ 1 + length t
deepest-length sets table t = omega (arith, no_deeper sets table t plain tt 1 (omega arith))

-- The nesting depth of a class is at most the number of its code points.
pub class_set_at-nesting : (table : Table) → IsValidTable table → (parameters : Parameters) (t : Source) (x : (Bool × Value) × Source) →
    class_set_at table parameters t ≡ Some x → x.0.1.nesting ≤ length t
class_set_at-nesting table lawful parameters t x e =
    omega (
      arith,
      no_deeper true table t (class 0 0) (omega arith) 1 (omega arith),
      ap (deepest 1) ((gives_class_set_at table parameters t).each x e),
    )
