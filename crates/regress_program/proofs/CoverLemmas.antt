-- All that a part of a pattern contains is among its compiled instructions.
use Rattle.std.proofs.Common.{◌≡◌, ℕ, zero, suc, ◌≤◌, ◌<◌, Bool, true, false, not, ◌&&◌, ◌||◌, nat_lt, List, [], ◌∷◌, ◌++◌, ◌-◌, drop, get_or, length, slice_get, Some, refl, sym, ap, ap₂, subst, ◌∙◌, arith}
use Rattle.std.specs.List.{list_all, list_any}
use Rattle.std.proofs.lemmas.Bool.{ltb-true}
use Rattle.regress_base.specs.declared.types.Quantifier.{Quantifier}
use Rattle.regress_leaves.specs.Leaves.{has_one_outcome}
use Rattle.regress_prefilter.specs.OneCharacter.{takes_one}
use Rattle.regress_tree.specs.Tree.{empty, goal, char, byte_sequence, byte_set, char_set, match_any, match_any_except_line_terminator, anchor, word_boundary, bracket, back_ref, string_set, loop_one, Tree, leaf, cat, alt, wrapped, tree, trees}
use Rattle.regress_tree.specs.declared.ir.node.Node.{Node}
use Rattle.regress_program.specs.Adds.{OpsLack, RoutinesLack, CodeLacks, Covers, CoversRoutine}
use Rattle.regress_program.specs.Compiled.{Extends, Code, Grown}
use Rattle.regress_program.specs.Contents.{Contents, nothing, in_sequence, either_of, grouped, in_iteration, in_iterations, in_loop, in_lookaround, content, content_of_parts}
use Rattle.regress_program.specs.Linear.{changes_captures, is_back_ref, is_back_reference, is_capturing, is_capturing_lookaround, is_linear, is_linear_op, is_never}
use Rattle.regress_program.specs.Program.{Op, accept, part, begin_group, end_group, unsets, look, Routine}
use Rattle.regress_program.specs.Pushed.{Pushed}
use Rattle.regress_program.specs.Tidy.{has_no_back_reference}
use Rattle.regress_program.proofs.AddLemmas.{HasNoMore, Longer, longer, longer-push}
use Rattle.regress_program.proofs.CodeLemmas.{get-append-last, length-push, Extends-same, Extends-then, Extends-push, Extends-get, get-set-other}
use Rattle.regress_program.proofs.RepeatLemmas.{Written}
use Rattle.regress_program.proofs.ViewLemmas.{from_index}
use Rattle.regress_program.proofs.lemmas.Instructions.{list_all-get}
use Rattle.regress_program.proofs.lemmas.Tidy.{or_none}

-- ---- code that lacks something, and less code

module _ (test : Op → Bool) where
  ops-first : (a b c : List Op) → Extends b c → OpsLack test a c → OpsLack test a b
  ops-first a b c more lack i op low found = lack i op low (Extends-get b c i op more found)

  ops-second : (a b c : List Op) → Extends a b → OpsLack test a c → OpsLack test b c
  ops-second a b c more lack i op low found = lack i op (omega (arith, low, more.grown)) found

  routines-first : (a b c : List Routine) → Extends b c → RoutinesLack test a c → RoutinesLack test a b
  routines-first a b c more lack i r low found = lack i r low (Extends-get b c i r more found)

  routines-second : (a b c : List Routine) → Extends a b → RoutinesLack test a c → RoutinesLack test b c
  routines-second a b c more lack i r low found = lack i r (omega (arith, low, more.grown)) found

  lacks-first : (a b c : Code) → Longer b c → CodeLacks test a c → CodeLacks test a b
  lacks-first a b c more lack = record {
    ops = ops-first a.ops b.ops c.ops more.ops lack.ops;
    routines = routines-first a.routines b.routines c.routines more.routines lack.routines;
  }

  lacks-second : (a b c : Code) → Longer a b → CodeLacks test a c → CodeLacks test b c
  lacks-second a b c more lack = record {
    ops = ops-second a.ops b.ops c.ops more.ops lack.ops;
    routines = routines-second a.routines b.routines c.routines more.routines lack.routines;
  }

  -- the instruction that has been pushed
  pushed-lacks : (a b c : Code) (op : Op) (at : ℕ) → Extends a.ops b.ops → Pushed b c op at → OpsLack test a.ops c.ops → test op ≡ false
  pushed-lacks a b c op at more pushed lack =
      lack at op (omega (arith, more.grown, pushed.at_end))
      (ap (slice_get c.ops) pushed.at_end ∙ ap (λ os. slice_get os (length b.ops)) pushed.ops ∙ get-append-last b.ops op)

pub pushed-below : (a b : Code) (op : Op) (at : ℕ) → Pushed a b op at → at < length b.ops
pushed-below a b op at pushed = omega (arith, pushed.at_end, ap length pushed.ops ∙ length-push a.ops op)

pub longer-then : (a b c : Code) → Longer a b → Longer b c → Longer a c
longer-then a b c first second = record {
  ops = Extends-then a.ops b.ops c.ops first.ops second.ops;
  routines = Extends-then a.routines b.routines c.routines first.routines second.routines;
}

-- ---- more code, and parts that contain less

pub covers_later : (a b c : Code) (f : Contents) → Longer b c → Covers a b f → Covers a c f
covers_later a b c f more is = record {
  refers = λ lack. is.refers (lacks-first is_back_reference a b c more lack);
  captures = λ lack. is.captures (ops-first changes_captures a.ops b.ops c.ops more.ops lack);
  looks = λ program ext lack.
      is.looks program (Extends-then b.routines c.routines program more.routines ext) (lacks-first (is_capturing_lookaround program) a b c more lack);
}

pub covers_earlier : (a b c : Code) (f : Contents) → Longer a b → Covers b c f → Covers a c f
covers_earlier a b c f more is = record {
  refers = λ lack. is.refers (lacks-second is_back_reference a b c more lack);
  captures = λ lack. is.captures (ops-second changes_captures a.ops b.ops c.ops more.ops lack);
  looks = λ program ext lack. is.looks program ext (lacks-second (is_capturing_lookaround program) a b c more lack);
}

-- The part b contains no kind of thing that a does not.
pub record HasFewer (a b : Contents) : Type 0 where
  pub refers : a.refers ≡ false → b.refers ≡ false
  pub captures : a.captures ≡ false → b.captures ≡ false
  pub looks : a.looks ≡ false → b.looks ≡ false

pub covers_fewer : (a b : Code) (f g : Contents) → HasFewer f g → Covers a b f → Covers a b g
covers_fewer a b f g fewer is = record {
  refers = λ lack. fewer.refers (is.refers lack);
  captures = λ lack. fewer.captures (is.captures lack);
  looks = λ program ext lack. fewer.looks (is.looks program ext lack);
}

-- The part contains none of them.
pub record HasNone (a : Contents) : Type 0 where
  pub refers : a.refers ≡ false
  pub captures : a.captures ≡ false
  pub looks : a.looks ≡ false

pub covers_none : (a b : Code) (f : Contents) → HasNone f → Covers a b f
covers_none a b f none = record { refers = λ lack. none.refers; captures = λ lack. none.captures; looks = λ program ext lack. none.looks }

pub none_nothing : HasNone nothing
none_nothing = record { refers = refl; captures = refl; looks = refl }

-- ---- two parts

neither : (a b : Bool) → a ≡ false → b ≡ false → (a || b) ≡ false
neither a b first second = ap₂ ◌||◌ first second

pub covers_both : (a b : Code) (f g : Contents) → Covers a b f → Covers a b g → Covers a b (in_sequence f g)
covers_both a b f g first second = record {
  refers = λ lack. neither f.refers g.refers (first.refers lack) (second.refers lack);
  captures = λ lack. neither f.captures g.captures (first.captures lack) (second.captures lack);
  looks = λ program ext lack. neither f.looks g.looks (first.looks program ext lack) (second.looks program ext lack);
}

pub covers_either : (a b : Code) (f g : Contents) → Covers a b f → Covers a b g → Covers a b (either_of f g)
covers_either a b f g first second =
    covers_fewer a b (in_sequence f g) (either_of f g) (record { refers = λ none. none; captures = λ none. none; looks = λ none. none })
    (covers_both a b f g first second)

pub covers_sequence : (a b c : Code) (parts : List Node) (i j : ℕ) (x : Node) → Grown a b → Grown b c → j ≡ i - 1 → 0 < i → i ≤ length parts →
    x ≡ get_or parts j x → Covers a b (content_of_parts (trees (drop i parts))) → Covers b c (content (tree x)) →
    Covers a c (content_of_parts (trees (drop j parts)))
covers_sequence a b c parts i j x grown more at some within is rest first =
    subst (λ xs. Covers a c (content_of_parts (trees xs))) (sym (from_index parts i j x at some within is))
    (covers_both a c (content (tree x)) (content_of_parts (trees (drop i parts)))
    (covers_earlier a b c (content (tree x)) (longer a b grown) first)
    (covers_later a b c (content_of_parts (trees (drop i parts))) (longer b c more) rest))

-- ---- leaves

has-leaf : (t : Tree) → has_one_outcome t ≡ true → ((content t).refers ≡ is_back_ref t) × ((content t).captures ≡ false) × ((content t).looks ≡ false)
has-leaf (leaf empty) is = (refl, refl, refl)
has-leaf (leaf goal) is = (refl, refl, refl)
has-leaf (leaf (char c)) is = (refl, refl, refl)
has-leaf (leaf (byte_sequence bytes)) is = (refl, refl, refl)
has-leaf (leaf (byte_set members)) is = (refl, refl, refl)
has-leaf (leaf (char_set members)) is = (refl, refl, refl)
has-leaf (leaf match_any) is = (refl, refl, refl)
has-leaf (leaf match_any_except_line_terminator) is = (refl, refl, refl)
has-leaf (leaf (anchor kind multiline)) is = (refl, refl, refl)
has-leaf (leaf (word_boundary invert unicode_icase)) is = (refl, refl, refl)
has-leaf (leaf (bracket invert intervals)) is = (refl, refl, refl)
has-leaf (leaf (back_ref group icase)) is = (refl, refl, refl)
has-leaf (leaf (string_set ss icase)) is = (refl, refl, refl)
has-leaf (cat parts) is = cc
has-leaf (alt left right) is = cc
has-leaf (wrapped w body) is = cc

pub covers_leaf : (a b : Code) (t : Tree) (next at : ℕ) → has_one_outcome t ≡ true → Pushed a b (part t next) at → Covers a b (content t)
covers_leaf a b t next at is pushed =
    let has = has-leaf t is in
    record {
      refers = λ lack. has.0 ∙ pushed-lacks is_back_reference a a b (part t next) at (Extends-same a.ops) pushed lack.ops;
      captures = λ lack. has.1;
      looks = λ program ext lack. has.2;
    }

-- ---- groups and iterations

pub covers_group : (a b c e : Code) (f : Contents) (id next ends contents at : ℕ) → Grown b c → Pushed a b (end_group id next) ends →
    Covers b c f → Pushed c e (begin_group contents) at → Covers a e (grouped id f)
covers_group a b c e f id next ends contents at grown end is begin =
    let ended = longer-push a b (end_group id next) ends end in
    let begun = longer-push c e (begin_group contents) at begin in
    let inside = covers_later a c e f begun (covers_earlier a b c f ended is) in
    record {
      refers = inside.refers;
      captures = λ lack.
          pushed-lacks changes_captures a a b (end_group id next) ends (Extends-same a.ops) end
          (ops-first changes_captures a.ops b.ops e.ops (Extends-then b.ops c.ops e.ops grown.ops begun.ops) lack);
      looks = inside.looks;
    }

pub covers_unset : (a b c : Code) (f : Contents) (start' end' body at : ℕ) → Grown a b → Covers a b f → Pushed b c (unsets start' end' body) at →
    Covers a c (in_iteration start' end' f)
covers_unset a b c f start' end' body at grown is pushed =
    let inside = covers_later a b c f (longer-push b c (unsets start' end' body) at pushed) is in
    record {
      refers = inside.refers;
      captures = λ lack.
          neither (nat_lt start' end') f.captures (pushed-lacks changes_captures a b c (unsets start' end' body) at grown.ops pushed lack) (inside.captures lack);
      looks = inside.looks;
    }

no_groups : (start' end' : ℕ) → end' ≤ start' → nat_lt start' end' ≡ false
no_groups start' end' none = by (nat_lt start' end') refl
  where
    by : (b : Bool) → nat_lt start' end' ≡ b → b ≡ false
    by true some = absurd (omega (arith, none, ltb-true start' end' some))
    by false without = refl

-- an iteration that unsets no group
pub covers_without_groups : (a b : Code) (f : Contents) (start' end' : ℕ) → end' ≤ start' → Covers a b f → Covers a b (in_iteration start' end' f)
covers_without_groups a b f start' end' none is = record {
  refers = is.refers;
  captures = λ lack. neither (nat_lt start' end') f.captures (no_groups start' end' none) (is.captures lack);
  looks = is.looks;
}

-- ---- loops

-- optional iterations, of which one has been added
pub covers_iterations : (a b : Code) (f : Contents) → Covers a b f → Covers a b (in_iterations f)
covers_iterations a b f is = record { refers = is.refers; captures = is.captures; looks = is.looks }

-- the instruction before the first one is replaced
pub covers_written : (b c e : Code) (f : Contents) (at : ℕ) (op : Op) → at < length b.ops → Written c e at op → Covers b c f → Covers b e f
covers_written b c e f at op below written is = record {
  refers = λ lack. is.refers (record { ops = ops is_back_reference lack.ops; routines = routines is_back_reference lack.routines });
  captures = λ lack. is.captures (ops changes_captures lack);
  looks = λ program ext lack.
      is.looks program (subst (λ rs. Extends rs program) written.routines ext)
      (record { ops = ops (is_capturing_lookaround program) lack.ops; routines = routines (is_capturing_lookaround program) lack.routines });
}
  where
    ops : (test : Op → Bool) → OpsLack test b.ops e.ops → OpsLack test b.ops c.ops
    ops test lack i other low found =
        lack i other low
        (ap (λ xs. slice_get xs i) written.ops ∙ get-set-other c.ops at i op (λ same. omega (arith, same, low, below)) ∙ found)

    routines : (test : Op → Bool) → RoutinesLack test b.routines e.routines → RoutinesLack test b.routines c.routines
    routines test lack = subst (λ rs. RoutinesLack test b.routines rs) written.routines lack

pub never_has : (q : Quantifier) (f : Contents) → is_never q ≡ true → HasNone (in_loop q f)
never_has q f never = record {
  refers = ap (λ (b : Bool). not b && f.refers) never;
  captures = ap (λ (b : Bool). not b && f.captures) never;
  looks = ap (λ (b : Bool). not b && f.looks) never;
}

-- A loop contains no kind of thing that its iterations do not.
pub fewer_in_loop : (q : Quantifier) (f : Contents) → HasFewer f (in_loop q f)
fewer_in_loop q f = record {
  refers = λ none. ap (λ (b : Bool). not (is_never q) && b) none ∙ and_false (not (is_never q));
  captures = λ none. ap (λ (b : Bool). not (is_never q) && b) none ∙ and_false (not (is_never q));
  looks = λ none. ap (λ (b : Bool). not (is_never q) && b) none ∙ and_false (not (is_never q));
}
  where
    and_false : (b : Bool) → (b && false) ≡ false
    and_false true = refl
    and_false false = refl

-- A loop with iterations contains all that they do.
pub no_more_runs : (q : Quantifier) (f : Contents) → is_never q ≡ false → HasNoMore f (in_loop q f)
no_more_runs q f some = record {
  refers = λ none. sym (ap (λ (b : Bool). not b && f.refers) some) ∙ none;
  captures = λ none. sym (ap (λ (b : Bool). not b && f.captures) some) ∙ none;
  looks = λ none. sym (ap (λ (b : Bool). not b && f.looks) some) ∙ none;
  changes = λ id is. is;
  tidy = λ set tidy. tidy;
}

pub none_one : (t : Tree) → takes_one t ≡ true → HasNone (content t)
none_one (leaf empty) is = cc
none_one (leaf goal) is = cc
none_one (leaf (char c)) is = none_nothing
none_one (leaf (byte_sequence bytes)) is = none_nothing
none_one (leaf (byte_set members)) is = none_nothing
none_one (leaf (char_set members)) is = none_nothing
none_one (leaf match_any) is = none_nothing
none_one (leaf match_any_except_line_terminator) is = none_nothing
none_one (leaf (anchor kind multiline)) is = cc
none_one (leaf (word_boundary invert unicode_icase)) is = cc
none_one (leaf (bracket invert intervals)) is = none_nothing
none_one (leaf (back_ref group icase)) is = cc
none_one (leaf (string_set ss icase)) is = cc
none_one (cat parts) is = cc
none_one (alt left right) is = cc
none_one (wrapped w body) is = cc

-- a loop over one character
pub none_characters : (q : Quantifier) (t : Tree) → takes_one t ≡ true → HasNone (content (wrapped (loop_one q) t))
none_characters q t one =
    let none = none_one t one in
    let fewer = fewer_in_loop q (in_iterations (in_iteration 0 0 (content t))) in
    record { refers = fewer.refers none.refers; captures = fewer.captures none.captures; looks = fewer.looks none.looks }

pub no_more_none : (q : Quantifier) (f : Contents) → HasNone f → HasNoMore f (in_loop q f)
no_more_none q f none = record {
  refers = λ h. none.refers;
  captures = λ h. none.captures;
  looks = λ h. none.looks;
  changes = λ id is. is;
  tidy = λ set tidy. tidy;
}

-- ---- lookarounds

pub covers_look : (a b c : Code) (f : Contents) (negate : Bool) (i next at : ℕ) → Grown a b → CoversRoutine a b f i →
    Pushed b c (look negate i next) at → Covers a c (in_lookaround negate f)
covers_look a b c f negate i next at grown has pushed = record {
  refers = λ lack. has.refers (routines-first is_back_reference a.routines b.routines c.routines more.routines lack.routines);
  captures = λ lack. refl;
  looks = λ program ext lack.
      let to_b = Extends-then b.routines c.routines program more.routines ext in
      neither (not negate && f.captures) f.looks
      (by negate program to_b (pushed-lacks (is_capturing_lookaround program) a b c (look negate i next) at grown.ops pushed lack.ops))
      (has.looks program to_b (routines-first (is_capturing_lookaround program) a.routines b.routines c.routines more.routines lack.routines));
}
  where
    more : Longer b c
    more = longer-push b c (look negate i next) at pushed

    by : (negated : Bool) (program : List Routine) → Extends b.routines program → is_capturing_lookaround program (look negated i next) ≡ false →
        (not negated && f.captures) ≡ false
    by true program ext none = refl
    by false program ext none = has.captures program ext none

-- ---- routines

none-at : {X : Type 0} (p : X → Bool) (xs : List X) (i : ℕ) (x : X) → list_any p xs ≡ false → slice_get xs i ≡ Some x → p x ≡ false
none-at p [] i x none is = cc
none-at p (y ∷ ys) zero x none is = let same : y ≡ x = cc in sym (ap p same) ∙ (or_none (p y) (list_any p ys) none).0
none-at p (y ∷ ys) (suc i) x none is = none-at p ys i x (or_none (p y) (list_any p ys) none).1 is

-- A routine of its own: `empty` has no instructions, `begun` the one that accepts, and `body` the compiled body.
module _ (a empty begun body c : Code) (f : Contents) (r : Routine) (at i : ℕ) (grown : Grown begun body) (cleared : empty ≡ record a { ops = [] })
    (accepts : Pushed empty begun accept at) (is : Covers begun body f) (routines : c.routines ≡ body.routines ++ r ∷ []) (own : r.ops ≡ body.ops)
    (index : i ≡ length body.routines) where
  old_routines : begun.routines ≡ a.routines
  old_routines = accepts.routines ∙ ap (λ (x : Code). x.routines) cleared

  stored : Extends body.routines c.routines
  stored = subst (λ rs. Extends body.routines rs) (sym routines) (Extends-push body.routines r)

  at_index : slice_get c.routines i ≡ Some r
  at_index = ap (slice_get c.routines) index ∙ ap (λ rs. slice_get rs (length body.routines)) routines ∙ get-append-last body.routines r

  body-lacks : (test : Op → Bool) → RoutinesLack test a.routines c.routines → CodeLacks test begun body
  body-lacks test lack = record {
    ops = λ k op low found.
        lack i r (omega (arith, index, grown.routines.grown, ap length old_routines)) at_index k op (omega arith) (ap (λ os. slice_get os k) own ∙ found);
    routines = λ j q low found.
        lack j q (omega (arith, low, ap length old_routines)) (Extends-get body.routines c.routines j q stored found);
  }

  pub covers_routine : CoversRoutine a c f i
  covers_routine = record {
    refers = λ lack. is.refers (body-lacks is_back_reference lack);
    captures = λ program ext quiet.
        let none : list_any changes_captures r.ops ≡ false = sym (ap is_capturing (Extends-get c.routines program i r ext at_index)) ∙ quiet in
        is.captures (λ k op low found. none-at changes_captures r.ops k op none (ap (λ os. slice_get os k) own ∙ found));
    looks = λ program ext lack.
        is.looks program (Extends-then body.routines c.routines program stored ext) (body-lacks (is_capturing_lookaround program) lack);
  }

-- ---- programs

not_true : (b : Bool) → not b ≡ true → b ≡ false
not_true true is = cc
not_true false is = refl

and_true : (a b : Bool) → (a && b) ≡ true → (a ≡ true) × (b ≡ true)
and_true true b is = (refl, is)
and_true false b is = cc

-- If each instruction passes one test, and those that do fail another, then the routines lack instructions that pass it.
all-lack : (passed test : Op → Bool) (program old : List Routine) → ((op : Op) → passed op ≡ true → test op ≡ false) →
    list_all (λ (r : Routine). list_all passed r.ops) program ≡ true → RoutinesLack test old program
all-lack passed test program old fails all i r low found k op from found' =
    fails op (list_all-get passed r.ops k op (list_all-get (λ (q : Routine). list_all passed q.ops) program i r all found) found')

exactly-not : (p q : Bool) → (p ≡ true → q ≡ false) → (q ≡ false → p ≡ true) → p ≡ not q
exactly-not true q only enough = sym (ap not (only refl))
exactly-not false true only enough = refl
exactly-not false false only enough = enough refl

exactly-neither : (p q r : Bool) → (p ≡ true → (q ≡ false) × (r ≡ false)) → (q ≡ false → r ≡ false → p ≡ true) → p ≡ (not q && not r)
exactly-neither true q r only enough = let none = only refl in sym (ap₂ (λ a b. not a && not b) none.0 none.1)
exactly-neither false true r only enough = refl
exactly-neither false false true only enough = refl
exactly-neither false false false only enough = enough refl refl

module _ (a b : Code) (c : Contents) (i : ℕ) (has : CoversRoutine a b c i) where
  pub plain_exactly : (c.refers ≡ false → has_no_back_reference b.routines ≡ true) → has_no_back_reference b.routines ≡ not c.refers
  plain_exactly enough =
      exactly-not (has_no_back_reference b.routines) c.refers
      (λ all. has.refers (all-lack (λ op. not (is_back_reference op)) is_back_reference b.routines a.routines (λ op is. not_true (is_back_reference op) is) all))
      enough

  pub linear_exactly : (c.refers ≡ false → c.looks ≡ false → is_linear b.routines ≡ true) → is_linear b.routines ≡ (not c.refers && not c.looks)
  linear_exactly enough =
      exactly-neither (is_linear b.routines) c.refers c.looks
      (λ all. (
        has.refers (all-lack (is_linear_op b.routines) is_back_reference b.routines a.routines (λ op is. not_true (is_back_reference op) (both op is).0) all),
        has.looks b.routines (Extends-same b.routines)
            (all-lack (is_linear_op b.routines) (is_capturing_lookaround b.routines) b.routines a.routines
            (λ op is. not_true (is_capturing_lookaround b.routines op) (both op is).1) all),
      ))
      enough
    where
      both : (op : Op) → is_linear_op b.routines op ≡ true → (not (is_back_reference op) ≡ true) × (not (is_capturing_lookaround b.routines op) ≡ true)
      both op is = and_true (not (is_back_reference op)) (not (is_capturing_lookaround b.routines op)) is
