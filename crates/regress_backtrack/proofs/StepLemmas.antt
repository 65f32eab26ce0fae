-- What follows an instruction.
use Rattle.std.proofs.Common.{◌≡◌, ℕ, ◌≤◌, ◌<◌, ◌==◌, Bool, false, not, ◌||◌, List, [], ◌++◌, flat_map, length, Option, Some, None, MatchOption, All, Result, Ok, Err, IfErr, IfOk, refl, sym, ap, ap₂, ◌∙◌, subst, take, arith}
use Rattle.std.proofs.lemmas.List.Elements.{All-head, All-cons}
use Rattle.regress_tree.specs.Matching.{steps}
use Rattle.regress_tree.specs.Reading.{Direction}
use Rattle.regress_tree.specs.Steps.{MatchState, Setting}
use Rattle.regress_tree.specs.Tree.{Tree, tree}
use Rattle.regress_leaves.specs.Leaves.{exactly, put}
use Rattle.regress_program.specs.declared.instruction.Instruction.{Instruction}
use Rattle.regress_program.specs.declared.instruction.Instruction.TheVariants as insts
use Rattle.regress_leaves.specs.declared.test.Test.{Test}
use Rattle.regress_found.specs.Found.{state}
use Rattle.regress_program.specs.Program.{Out, At}
use Rattle.regress_program.specs.Shape.{Fits}
use Rattle.regress_program.specs.Stays.{IsReached}
use Rattle.regress_program.specs.Views.{characters_of, op_in, part_of}
use Rattle.regress_program.proofs.lemmas.Instructions.{characters-named, leaf-named}
use Rattle.regress_program.proofs.lemmas.Onward.{Stays-tree}
use Rattle.regress_backtrack.specs.declared.input.Input.{Input}
use Rattle.regress_backtrack.specs.declared.machine.Machine.{Machine}
use Rattle.regress_backtrack.specs.declared.machine.Place.{Place}
use Rattle.regress_backtrack.specs.declared.step.Next.{Next}
use Rattle.regress_backtrack.specs.declared.step.Next.TheVariants as nexts
use Rattle.regress_backtrack.specs.Machine.{at, groups_of, points}
use Rattle.regress_code.specs.Code.{code_routines}
use Rattle.regress_backtrack.specs.Next.{CanStep, is_look, Inside, ahead, Leads, instructions_in}

-- what the code says of a part that ends at a position
abbrev pub Reaches : (next : ℕ) → Place → Next → Option ℕ → Type 0
Reaches next p n to =
    MatchOption to (n ≡ nexts.Back) (λ q. n ≡ nexts.On (record { pc = next; moved = p.moved || not (q == p.position); position = q }))

module _ (out : Out) (m m' : Machine) where
  abbrev pub Goes : List MatchState → Next → Type 0
  Goes states n = Leads (states ++ flat_map out (points m)) out m' n

  pub goes_on : (states : List MatchState) (n : Next) (p : Place) (b : At) → n ≡ nexts.On p → at p (groups_of m') ≡ b → points m' ≡ points m →
      states ≡ out b → Goes states n
  goes_on states n p b is here same leads =
      subst (Goes states) (sym is) (ap₂ ◌++◌ (leads ∙ ap out (sym here)) (ap (flat_map out) (sym same)))

  pub goes_back : (states : List MatchState) (n : Next) → n ≡ nexts.Back → points m' ≡ points m → states ≡ [] → Goes states n
  goes_back states n is same none = subst (Goes states) (sym is) (ap₂ ◌++◌ none (ap (flat_map out) (sym same)))

-- ---- inside the routine and the text

module _ (input : Input) (m m' : Machine) where
  abbrev pub Remains : Next → Type 0
  Remains n = All (Inside input) (points m) → All (Inside input) (ahead m' n)

  pub on_inside : (n : Next) (p : Place) → n ≡ nexts.On p → points m' ≡ points m → Inside input (at p (groups_of m')) → Remains n
  on_inside n p is same here all =
      subst (λ x. All (Inside input) (ahead m' x)) (sym is)
      (All-cons (Inside input) (at p (groups_of m')) (points m') here (subst (All (Inside input)) (sym same) all))

  pub back_inside : (n : Next) → n ≡ nexts.Back → points m' ≡ points m → Remains n
  back_inside n is same all = subst (λ x. All (Inside input) (ahead m' x)) (sym is) (subst (All (Inside input)) (sym same) all)

  pub part_inside : (setting : Setting) (d : Direction) (t : Tree) (next : ℕ) (p : Place) (to : Option ℕ) (n : Next) →
      steps setting input.text.now d t (state m.captures.items p.position) ≡ put (state m.captures.items p.position) to → Reaches next p n to →
      points m' ≡ points m → next < length (instructions_in input) → p.position ≤ length input.text.now → Remains n
  part_inside setting d t next p None n ends is same lt le = back_inside n is same
  part_inside setting d t next p (Some q) n ends is same lt le =
      let s = state m.captures.items p.position in
      let all = subst (All (IsReached input.text.now d s)) ends ((Stays-tree setting input.text.now d t).reached s le) in
      let there = All-head (IsReached input.text.now d s) (record s { position = q }) [] all in
      on_inside n (record { pc = next; moved = p.moved || not (q == p.position); position = q }) is same
      (record { pc = lt; position = there.inside })

-- ---- leaves

module _ (input : Input) (m : Machine) (o : Option Test) (next : ℕ) (p : Place) (n : Next) where
  pub leaf_inside : (t : Test) (to : Option ℕ) (setting : Setting) (d : Direction) → o ≡ Some t → CanStep input (part_of o next) p →
      steps setting input.text.now d (tree t.node) (state m.captures.items p.position) ≡ put (state m.captures.items p.position) to → Reaches next p n to →
      Remains input m m n
  leaf_inside t to setting d some can ends is =
      let fits = subst (λ x. Fits (take input.index (code_routines input.code.now)) (length (instructions_in input)) p.pc (part_of x next)) some can.fits in
      let lt : next < length (instructions_in input) = omega (arith, fits.1, can.pc) in
      part_inside input m m setting d (tree t.node) next p to n ends is refl lt can.position

  pub characters_inside : (t : Test) (count : ℕ) (to : Option ℕ) (setting : Setting) (d : Direction) → o ≡ Some t → CanStep input (characters_of o count next) p →
      steps setting input.text.now d (exactly count (tree t.node)) (state m.captures.items p.position) ≡ put (state m.captures.items p.position) to →
      Reaches next p n to → Remains input m m n
  characters_inside t count to setting d some can ends is =
      let fits = subst (λ x. Fits (take input.index (code_routines input.code.now)) (length (instructions_in input)) p.pc (characters_of x count next)) some can.fits in
      let lt : next < length (instructions_in input) = omega (arith, fits.1, can.pc) in
      part_inside input m m setting d (exactly count (tree t.node)) next p to n ends is refl lt can.position

-- ---- instructions name leaves of the program

module _ (input : Input) (o : Option Test) (next : ℕ) (p : Place) (none : o ≡ None) where
  pub leaf_named : CanStep input (part_of o next) p → ⊥
  leaf_named can = leaf-named (take input.index (code_routines input.code.now)) (length (instructions_in input)) p.pc o next none can.fits

  pub characters_named : (count : ℕ) → CanStep input (characters_of o count next) p → ⊥
  characters_named count can =
      characters-named (take input.index (code_routines input.code.now)) (length (instructions_in input)) p.pc o next none count can.fits

pub not_look : (tests : List Test) (i : Instruction) → ((negate : Bool) (routine next : ℕ) → i ≡ insts.Look negate routine next → ⊥) →
    is_look (op_in tests i) ≡ false
not_look tests insts.Accept not = refl
not_look tests insts.Fail not = refl
not_look tests (insts.Leaf leaf next) not = refl
not_look tests (insts.Characters leaf count next) not = refl
not_look tests (insts.Split first second) not = refl
not_look tests (insts.BeginLoop greedy body next) not = refl
not_look tests (insts.Repeat greedy body next) not = refl
not_look tests (insts.EndLoop next) not = refl
not_look tests (insts.Unset start end next) not = refl
not_look tests (insts.BeginGroup next) not = refl
not_look tests (insts.EndGroup id next) not = refl
not_look tests (insts.Look negate routine next) not = absurd (not negate routine next refl)

pub ok_map : {X E : Type 0} (r : Result X E) (P Q : X → Type 0) → ((x : X) → P x → Q x) → IfOk r P → IfOk r Q
ok_map (Ok x) P Q f is = f x is
ok_map (Err e) P Q f is = tt

pub ok_both : {X E : Type 0} (r : Result X E) (P Q : X → Type 0) → IfOk r P → IfOk r Q → IfOk r (λ x. P x × Q x)
ok_both (Ok x) P Q p q = (p, q)
ok_both (Err e) P Q p q = tt

pub err_map : {X E : Type 0} (r : Result X E) (P Q : E → Type 0) → ((e : E) → P e → Q e) → IfErr r P → IfErr r Q
err_map (Ok x) P Q f is = tt
err_map (Err e) P Q f is = f e is
