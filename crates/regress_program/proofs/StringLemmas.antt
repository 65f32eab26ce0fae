-- Sets of strings as instructions: a leaf for each string, and then the choices between them.
use Rattle.std.proofs.Common.{◌≡◌, ℕ, zero, suc, ◌+◌, ◌<◌, inl, inr, Bool, List, [], ◌∷◌, ◌++◌, length, drop, map, min, slice_get, Some, refl, sym, ap, subst, ◌∙◌, arith, Global}
use Rattle.std.proofs.lemmas.Bool.{cases_lt}
use Rattle.std.proofs.lemmas.List.{nil_from_length}
use Rattle.std.proofs.lemmas.Option.{slice_get_within, same_Some}
use Rattle.std.specs.Box.{boxed_slice_items}
use Rattle.std.specs.declared.boxed.BoxedSlice.{BoxedSlice}
use Rattle.regress_leaves.specs.declared.test.Test.{Test}
use Rattle.regress_tree.specs.Tree.{Tree}
use Rattle.regress_program.specs.Adds.{Adds}
use Rattle.regress_program.specs.CodeOf.{code_in, Emits, EmitsOne, EmitsWith}
use Rattle.regress_program.specs.Compiled.{Matching, matching, strings, Code, Compiled, Grown}
use Rattle.regress_program.specs.Contents.{nothing}
use Rattle.regress_program.specs.LeavesOf.{HasLeaves, leaves_of_strings}
use Rattle.regress_program.specs.Listed.{Appends, all_of}
use Rattle.regress_program.specs.Program.{part, split}
use Rattle.regress_program.specs.Pushed.{Pushed}
use Rattle.regress_program.specs.Program as programs
use Rattle.regress_program.specs.Views.{leaf_in}
use Rattle.regress_program.specs.declared.compiler.Compiler.{Compiler}
use Rattle.regress_program.proofs.AddLemmas.{adds-then, longer}
use Rattle.regress_program.proofs.AppendLemmas.{Appends-then}
use Rattle.regress_program.proofs.CodeLemmas.{Grown-push, get-append-below, get-append-last, length-push}
use Rattle.regress_program.proofs.CompileLemmas.{compiled_earlier, compiled_later, compiled_part}
use Rattle.regress_program.proofs.CoverLemmas.{covers_none, none_nothing}
use Rattle.regress_program.proofs.LeavesLemmas.{has-at, has-first, has-leaf, has-room, has-second}
use Rattle.regress_program.proofs.PieceLemmas.{adds_split, holds_part, holds_plain_or, tidies_earlier, tidies_later}
use Rattle.regress_program.proofs.RoutineLemmas.{compiled_no_strings, compiled_strings}
use Rattle.regress_program.proofs.ViewLemmas.{below}

-- the set of the strings
abbrev Strings : Type 0
Strings = List (BoxedSlice ℕ Global)

abbrev pub set_of : Strings → Bool → Tree
set_of ss icase = strings (map boxed_slice_items ss) icase

abbrev pub leaves_in : Strings → Bool → List Tree
leaves_in ss icase = leaves_of_strings (map boxed_slice_items ss) icase

-- the leaf of one string
abbrev pub leaf_of : BoxedSlice ℕ Global → Bool → Tree
leaf_of s icase = strings (boxed_slice_items s ∷ []) icase

pub no_strings : (a b : Code) (ss : Strings) (icase : Bool) (next at : ℕ) → length ss ≡ 0 → Pushed a b programs.fail at →
    Compiled a b (matching (set_of ss icase)) next at
no_strings a b ss icase next at none pushed =
    subst (λ xs. Compiled a b (matching (set_of xs icase)) next at) (sym (nil_from_length ss none)) (compiled_no_strings a b icase next at pushed)

-- ---- the leaves

pub leaves-length : (ss : Strings) (icase : Bool) → length (leaves_in ss icase) ≡ length ss
leaves-length [] icase = refl
leaves-length (s ∷ ss) icase = omega (arith, length-push (leaves_in ss icase) (leaf_of s icase), leaves-length ss icase)

-- the leaf of the string with the index j
pub leaf-at : (ss : Strings) (icase : Bool) (j i : ℕ) (s : BoxedSlice ℕ Global) (rest : Strings) → j + suc i ≡ length ss → drop j ss ≡ s ∷ rest →
    slice_get (leaves_in ss icase) i ≡ Some (leaf_of s icase)
leaf-at [] icase j i s rest is at = absurd (omega (arith, is))
leaf-at (x ∷ ss) icase zero i s rest is at =
    let last : i ≡ length (leaves_in ss icase) = omega (arith, is, leaves-length ss icase) in
    let same : x ≡ s = cc in
    ap (slice_get (leaves_in ss icase ++ leaf_of x icase ∷ [])) last ∙ get-append-last (leaves_in ss icase) (leaf_of x icase)
    ∙ ap (λ y. Some (leaf_of y icase)) same
leaf-at (x ∷ ss) icase (suc j) i s rest is at =
    get-append-below (leaves_in ss icase) (leaf_of x icase ∷ []) i (omega (arith, is, leaves-length ss icase))
    ∙ leaf-at ss icase j i s rest (omega (arith, is)) at

-- ---- instructions are added that contain nothing

-- With these leaves, what has been added contains nothing, and names n leaves from `from` on.
record AddsNothing (leaves : List Test) (old new : Compiler) (from n : ℕ) : Type 0 where
  pub after : new.next_leaf ≡ from + n
  pub grown : Grown (code_in leaves old) (code_in leaves new)
  pub adds : Adds (code_in leaves old) (code_in leaves new) nothing

with_later : (leaves : List Test) (a b c : Compiler) (from m n next entry : ℕ) (f : Matching) → EmitsWith leaves a b from m f nothing next entry →
    AddsNothing leaves b c from n → EmitsWith leaves a c from n f nothing next entry
with_later leaves a b c from m n next entry f is more =
    let x = code_in leaves a in
    let y = code_in leaves b in
    let z = code_in leaves c in
    record {
      after = more.after;
      compiled = compiled_later x y z f next entry more.grown is.compiled;
      holds = record {
        adds = adds-then x y z nothing more.grown.ops more.grown.routines is.holds.adds more.adds;
        tidies = tidies_later x y z nothing next entry (longer y z more.grown) is.holds.tidies;
      };
      covers = covers_none x z nothing none_nothing;
    }

emits_later : (a b c : Compiler) (from next entry : ℕ) (ts us : List Tree) (f : Matching) → Emits a b from ts f nothing next entry →
    Appends b.instructions c.instructions →
    ((leaves : List Test) → HasLeaves leaves from us → HasLeaves leaves from ts × AddsNothing leaves b c from (length us)) →
    Emits a c from us f nothing next entry
emits_later a b c from next entry ts us f is more means = record {
  begins = omega (arith, is.begins, more.all.grown);
  appends = Appends-then a.instructions b.instructions c.instructions is.appends more;
  means = λ leaves has.
      let both = means leaves has in
      with_later leaves a b c from (length ts) (length us) next entry f (is.means leaves both.0) both.1;
}

-- ---- one more leaf

-- each of the leaves has been emitted, from the index `first` on
abbrev pub EmitsEach : (a b : Compiler) (from : ℕ) → List Tree → (next first : ℕ) → Type 0
EmitsEach a b from ts next first = (i : ℕ) (t : Tree) → slice_get ts i ≡ Some t → Emits a b from ts (matching t) nothing next (first + i)

-- the leaf of a string
pub emits_string : (a b : Compiler) (s : List ℕ) (icase : Bool) (next at : ℕ) → next < length (all_of a.instructions) →
    EmitsOne a b (λ leaves. part (leaf_in leaves a.next_leaf) next) at → Appends a.instructions b.instructions →
    b.next_leaf ≡ min (a.next_leaf + 1) 18446744073709551615 →
    Emits a b a.next_leaf (strings (s ∷ []) icase ∷ []) (matching (strings (s ∷ []) icase)) nothing next at
emits_string a b s icase next at low one more after = record {
  begins = omega (arith, one.at_end, one.grown);
  appends = more;
  means = λ leaves has.
      let t = strings (s ∷ []) icase in
      let x = code_in leaves a in
      let y = code_in leaves b in
      let text : Pushed x y (part t next) at =
      subst (λ u. Pushed x y (part u next) at) (has-leaf leaves a.next_leaf t has) (one.means leaves) in
      record {
        after = omega (arith, after, has-room leaves a.next_leaf t has);
        compiled = compiled_part x y t next at tt (below leaves (all_of a.instructions) next low) text;
        holds = holds_part x y nothing t next at (λ none. refl) text;
        covers = covers_none x y nothing none_nothing;
      };
}

-- after others
emits_next : (a b c : Compiler) (from next entry at : ℕ) (ts : List Tree) (t : Tree) (f : Matching) →
    Emits a b from ts f nothing next entry → Emits b c b.next_leaf (t ∷ []) (matching t) nothing next at →
    Emits a c from (ts ++ t ∷ []) (matching t) nothing next at
emits_next a b c from next entry at ts t f before one = record {
  begins = one.begins;
  appends = Appends-then a.instructions b.instructions c.instructions before.appends one.appends;
  means = λ leaves has.
      let x = code_in leaves a in
      let y = code_in leaves b in
      let z = code_in leaves c in
      let old = before.means leaves (has-first leaves from ts (t ∷ []) has) in
      let new = one.means leaves (has-at leaves (from + length ts) b.next_leaf (t ∷ []) old.after (has-second leaves from ts (t ∷ []) has)) in
      record {
        after = omega (arith, new.after, old.after, length-push ts t);
        compiled = compiled_earlier x y z (matching t) next at old.compiled.grown new.compiled;
        holds = record {
          adds = adds-then x y z nothing new.compiled.grown.ops new.compiled.grown.routines old.holds.adds new.holds.adds;
          tidies = tidies_earlier x y z nothing next at old.compiled.grown new.holds.tidies;
        };
        covers = covers_none x z nothing none_nothing;
      };
}

first-of : (ts : List Tree) → 0 < length ts → (u : Tree) × (slice_get ts 0 ≡ Some u)
first-of [] some = absurd (omega (arith, some))
first-of (u ∷ ts) some = (u, refl)

-- each of the leaves and one more
pub each_next : (a b c : Compiler) (from next first at : ℕ) (ts : List Tree) (t : Tree) → 0 < length ts → EmitsEach a b from ts next first →
    Emits b c b.next_leaf (t ∷ []) (matching t) nothing next at → at ≡ first + length ts → EmitsEach a c from (ts ++ t ∷ []) next first
each_next a b c from next first at ts t some each one is i v found = elim (cases_lt i (length ts)) [
  | inl lt ↦
      emits_later a b c from next (first + i) ts (ts ++ t ∷ []) (matching v) (each i v (sym (get-append-below ts (t ∷ []) i lt) ∙ found)) one.appends
      (λ leaves has.
      let mine = has-first leaves from ts (t ∷ []) has in
      let u = first-of ts some in
      let old = (each 0 u.0 u.1).means leaves mine in
      let new = one.means leaves (has-at leaves (from + length ts) b.next_leaf (t ∷ []) old.after (has-second leaves from ts (t ∷ []) has)) in
      (mine, record { after = omega (arith, new.after, old.after, length-push ts t); grown = new.compiled.grown; adds = new.holds.adds }))
  | inr ge ↦
      (let last : i ≡ length ts = omega (arith, ge, slice_get_within (ts ++ t ∷ []) i v found, length-push ts t) in
      let same : t ≡ v = same_Some t v (sym (get-append-last ts t) ∙ ap (slice_get (ts ++ t ∷ [])) (sym last) ∙ found) in
      let here : at ≡ first + i = omega (arith, is, last) in
      subst (λ w. Emits a c from (ts ++ t ∷ []) (matching w) nothing next (first + i)) same
      (subst (λ k. Emits a c from (ts ++ t ∷ []) (matching t) nothing next k) here
      (let u = first-of ts some in emits_next a b c from next (first + 0) at ts t (matching u.0) (each 0 u.0 u.1) one)))
]

-- the first leaf
pub each_first : (a b : Compiler) (next first : ℕ) (t : Tree) → Emits a b a.next_leaf (t ∷ []) (matching t) nothing next first →
    EmitsEach a b a.next_leaf (t ∷ []) next first
each_first a b next first t one zero u found =
    let here : first ≡ first + 0 = omega arith in
    subst (λ w. Emits a b a.next_leaf (t ∷ []) (matching w) nothing next (first + 0)) (same_Some t u found)
    (subst (λ k. Emits a b a.next_leaf (t ∷ []) (matching t) nothing next k) here one)
each_first a b next first t one (suc i) u found = cc

-- ---- one more choice

-- a choice, which names no leaf
choice_adds : (leaves : List Test) (b c : Compiler) (from n first second at : ℕ) → first < length (all_of b.instructions) →
    second < length (all_of b.instructions) → Pushed (code_in leaves b) (code_in leaves c) (split first second) at → b.next_leaf ≡ from + n →
    c.next_leaf ≡ b.next_leaf → AddsNothing leaves b c from n
choice_adds leaves b c from n first second at lt lt' pushed after same = record {
  after = omega (arith, after, same);
  grown = Grown-push (code_in leaves b) (code_in leaves c) (split first second) at pushed
      (below leaves (all_of b.instructions) first lt, below leaves (all_of b.instructions) second lt');
  adds = adds_split (code_in leaves b) (code_in leaves c) nothing first second at pushed;
}

module _ (a b c : Compiler) (from next first second at : ℕ) (ts : List Tree) (one : EmitsOne b c (λ leaves. split first second) at) (more : Appends b.instructions c.instructions)
    (same : c.next_leaf ≡ b.next_leaf) (lt : first < length (all_of b.instructions)) (lt' : second < length (all_of b.instructions)) where
  -- what is before a choice
  pub before_choice : (f : Matching) (entry : ℕ) → Emits a b from ts f nothing next entry → Emits a c from ts f nothing next entry
  before_choice f entry is =
      emits_later a b c from next entry ts ts f is more
      (λ leaves has. (has, choice_adds leaves b c from (length ts) first second at lt lt' (one.means leaves) (is.means leaves has).after same))

  -- a string, or otherwise others
  pub emits_choice : (s : List ℕ) (ss : List (List ℕ)) (icase : Bool) → Emits a b from ts (matching (strings (s ∷ []) icase)) nothing next first →
      Emits a b from ts (matching (strings ss icase)) nothing next second → Emits a c from ts (matching (strings (s ∷ ss) icase)) nothing next at
  emits_choice s ss icase left right = record {
    begins = omega (arith, one.at_end, one.grown);
    appends = Appends-then a.instructions b.instructions c.instructions left.appends more;
    means = λ leaves has.
        let x = code_in leaves a in
        let y = code_in leaves b in
        let z = code_in leaves c in
        let l = left.means leaves has in
        let r = right.means leaves has in
        record {
          after = omega (arith, l.after, same);
          compiled = compiled_strings x y z s ss icase next first second at l.compiled r.compiled (one.means leaves);
          holds = holds_plain_or x y z next first second at (longer x y l.compiled.grown) l.holds.adds l.holds.tidies r.holds.tidies (one.means leaves);
          covers = covers_none x z nothing none_nothing;
        };
  }
