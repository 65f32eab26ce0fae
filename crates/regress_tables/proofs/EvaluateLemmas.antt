-- Evaluating an instruction yields its bit.
use Rattle.std.proofs.Common.{◌*◌, get_or, map, ◌≡◌, ◌≢◌, ℕ, ◌+◌, ◌≤◌, ◌<◌, ◌⊎◌, ◌==◌, Bool, true, false, not, ◌&&◌, ◌||◌, List, [], ◌∷◌, ◌++◌, length, slice_get, take, Option, Some, None, IfSome, refl, sym, ap, ap₂, ◌∙◌, subst, append-nil, inl, inr, arith, if◌then◌else◌}
use Rattle.std.proofs.Math.Bool.{beq}
use Rattle.std.proofs.lemmas.Bool.{cases_eq}
use Rattle.std.proofs.lemmas.List.{length-take}
use Rattle.std.specs.Box.{boxed_slice_items}
use Rattle.std.specs.Option.{option_map}
use Rattle.std.specs.Global.{Global}
use Rattle.std.specs.declared.boxed.BoxedSlice.{BoxedSlice}
use Rattle.regress_base.specs.Table.{denotes}
use Rattle.regress_tree.specs.Matching.{steps}
use Rattle.regress_prefilter.specs.OneCharacter.{takes_one, test_of}
use Rattle.regress_prefilter.proofs.lemmas.OneCharacter.{takes_one-steps}
use Rattle.regress_tree.specs.Reading.{Direction, forwards, backwards, direction_if, next_character, of_bytes}
use Rattle.regress_tree.specs.References.{all_of, in_order}
use Rattle.regress_tree.specs.Steps.{MatchState, Matcher, Setting, one_character}
use Rattle.regress_tree.specs.Tree.{Tree, leaf, string_set, tree}
use Rattle.regress_leaves.specs.Leaves.{GoesTo, exactly, put, read_of}
use Rattle.regress_leaves.specs.declared.test.Test.{Test}
use Rattle.regress_program.specs.declared.instruction.Instruction.{Instruction}
use Rattle.regress_program.specs.declared.instruction.Instruction.TheVariants as insts
use Rattle.regress_program.specs.Views.{characters_of, op_in, part_of}
use Rattle.regress_leaves.specs.Subject.{Subject}
use Rattle.regress_leaves.proofs.lemmas.Leaves.{any-nil, any-cons, one_no, one_none, one_yes}
use Rattle.regress_program.specs.Below.{row_of, column, place}
use Rattle.regress_program.specs.Program.{Out, Routine, Op, part, split, begin_loop, repeat, end_loop, unsets, begin_group, end_group, look, outcomes_by, matcher_of, start}
use Rattle.regress_program.specs.Shape.{Fits, IsPart, IsProgram}
use Rattle.regress_program.specs.Stays.{IsOnward, Stays}
use Rattle.regress_tables.specs.declared.table.Table.{Table}
use Rattle.regress_tables.specs.Evaluated.{IsOneEnd, reached_cell}
use Rattle.regress_tables.specs.Table.{has_outcome, Tells, TellsOf, index, cell, IsRight, IsNext, AreRight, AreTables, IsFull, size}
use Rattle.regress_program.proofs.lemmas.Onward.{Stays-tree, reached-one}
use Rattle.regress_program.proofs.lemmas.Places.{row-onward, column-less, rows-less}
use Rattle.regress_tables.proofs.TellsLemmas.{tells-earlier, tells-begins, tells-enters, tells-row, split_tells, either_tells, advanced_tells, none_tells, one_tells, looked_tells, group_tells}

pub reached-within : (bytes : List ℕ) (d : Direction) (f : Matcher) (position n : ℕ) (to : Option ℕ) → Stays bytes d f → position ≤ length bytes → n ≡ length bytes →
    ((s : MatchState) → s.position ≡ position → f s ≡ put s to) → IfSome to (λ q. q ≤ n)
reached-within bytes d f position n None stays within is goes = tt
reached-within bytes d f position n (Some q) stays within is goes = omega (arith, (reached-one bytes d f position q stays within goes).0)

-- a set of one string
-- a leaf that matches one character, by the next character
pub one_ends : (u : Subject) (t : Tree) (position : ℕ) (read : Option (ℕ × ℕ)) (to : Option ℕ) → takes_one t ≡ true →
    option_map read_of read ≡ next_character u.direction (of_bytes u.bytes) position → IsOneEnd t read to → GoesTo u position t to
one_ends u t position None to one is none s at =
    takes_one-steps u.setting u.bytes u.direction t s one
    ∙ one_none u.direction (of_bytes u.bytes) (test_of t) s (ap (next_character u.direction (of_bytes u.bytes)) at ∙ sym is) ∙ ap (put s) (sym none)
one_ends u t position (Some read) to one is ends s at =
    let some : next_character u.direction (of_bytes u.bytes) s.position ≡ Some (read_of read) = ap (next_character u.direction (of_bytes u.bytes)) at ∙ sym is in
    takes_one-steps u.setting u.bytes u.direction t s one ∙ by (test_of t read.0) refl some ∙ ap (put s) (sym ends)
  where
    by : (b : Bool) → test_of t read.0 ≡ b → next_character u.direction (of_bytes u.bytes) s.position ≡ Some (read_of read) →
        one_character u.direction (of_bytes u.bytes) (test_of t) s ≡ put s (if test_of t read.0 then Some read.1 else None)
    by true tested some =
        one_yes u.direction (of_bytes u.bytes) (test_of t) s (read_of read) some tested
        ∙ ap (λ (b : Bool). put s (if b then Some read.1 else None)) (sym tested)
    by false tested some =
        one_no u.direction (of_bytes u.bytes) (test_of t) s (read_of read) some tested
        ∙ ap (λ (b : Bool). put s (if b then Some read.1 else None)) (sym tested)

pub one_string : (u : Subject) (icase : Bool) (string : List ℕ) (to : Option ℕ) (position : ℕ) →
    ((s : MatchState) → s.position ≡ position → put s to
    ≡ all_of u.direction (of_bytes u.bytes) (denotes u.setting.table icase u.setting.flags.unicode) (in_order u.direction string) s) →
    (s : MatchState) → s.position ≡ position → steps u.setting u.bytes u.direction (leaf (string_set (string ∷ []) icase)) s ≡ put s to
one_string u icase string to position goes s at =
    let same = denotes u.setting.table icase u.setting.flags.unicode in
    any-cons u.direction (of_bytes u.bytes) same string [] s
    ∙ ap (λ xs. all_of u.direction (of_bytes u.bytes) same (in_order u.direction string) s ++ xs) (any-nil u.direction (of_bytes u.bytes) same s)
    ∙ append-nil _ ∙ sym (goes s at)

module _ (setting : Setting) (bytes : List ℕ) (d : Direction) (body_of : ℕ → Matcher) (out : Out) (t : Table) (right : IsRight out t)
    (pc : ℕ) (moved : Bool) (position : ℕ) (next : IsNext t pc moved position) where
  abbrev pub Yields : Op → Bool → Type 0
  Yields op bit = TellsOf (outcomes_by setting bytes d body_of out op) moved position bit

  -- the bit of an equal instruction
  pub yields_as : (op op' : Op) (b b' : Bool) → op ≡ op' → b ≡ b' → Yields op' b' → Yields op b
  yields_as op op' b b' is same yields = subst (λ x. Yields op x) (sym same) (subst (λ o. Yields o b') (sym is) yields)

  same_here : (k : ℕ) → (k == k) ≡ true
  same_here k = grind arith

  or_false : (b : Bool) → (b || false) ≡ b
  or_false true = refl
  or_false false = refl

  part_bit : (p : Tree) (nx : ℕ) (to : Option ℕ) → position ≤ length bytes → t.length ≡ length bytes → direction_if t.backwards ≡ d → nx < pc →
      ((s : MatchState) → s.position ≡ position → steps setting bytes d p s ≡ put s to) → Yields (part p nx) (reached_cell t nx moved position to)
  part_bit p nx None within len dir lt goes = none_tells out moved position nx (steps setting bytes d p) goes
  part_bit p nx (Some q) within len dir lt goes =
      one_tells out moved position nx (steps setting bytes d p) q _ goes (by (cases_eq q position))
    where
      by : (q ≡ position) ⊎ (q ≢ position) → Tells out nx (moved || not (q == position)) q (cell t nx (moved || not (q == position)) q)
      by (inl same) =
          let stays : moved ≡ (moved || not (q == position)) =
          sym (ap (λ k. moved || not (k == position)) same ∙ ap (λ b. moved || not b) (same_here position) ∙ or_false moved) in
          subst (λ m. Tells out nx m q (cell t nx m q)) stays
          (subst (λ k. Tells out nx moved k (cell t nx moved k)) (sym same) (tells-earlier out t right pc moved position next nx lt))
      by (inr other) =
          let reached = reached-one bytes d (steps setting bytes d p) position q (Stays-tree setting bytes d p) within goes in
          let on : IsOnward (direction_if t.backwards) position q = subst (λ e. IsOnward e position q) (sym dir) reached.1 in
          tells-row out t right pc moved position next nx _ q (omega (arith, next.pc_in)) (omega (arith, len, reached.0))
          (row-onward t.width t.length (direction_if t.backwards) position q next.position_in (omega (arith, len, reached.0)) other on)

  module _ (earlier : List Routine) (op : Op) (fits : Fits earlier t.width pc op) where
    abbrev as' : (op' : Op) → op ≡ op' → Fits earlier t.width pc op'
    as' op' is = subst (Fits earlier t.width pc) is fits

    pub part_yields : (p : Tree) (nx : ℕ) (to : Option ℕ) (b : Bool) → op ≡ part p nx → position ≤ length bytes → t.length ≡ length bytes →
        direction_if t.backwards ≡ d → ((s : MatchState) → s.position ≡ position → steps setting bytes d p s ≡ put s to) →
        b ≡ reached_cell t nx moved position to → Yields op b
    part_yields p nx to b is within len dir goes eb =
        yields_as op (part p nx) _ _ is eb (part_bit p nx to within len dir (as' (part p nx) is).1 goes)

    pub split_yields : (first second : ℕ) (b c : Bool) → op ≡ split first second → b ≡ cell t first moved position → c ≡ cell t second moved position →
        Yields op (b || c)
    split_yields first second b c is eb ec =
        let f = as' (split first second) is in
        yields_as op (split first second) _ _ is (ap₂ ◌||◌ eb ec)
        (split_tells out moved position first second _ _ (tells-earlier out t right pc moved position next first f.0)
        (tells-earlier out t right pc moved position next second f.1))

    pub begin_yields : (greedy : Bool) (body nx : ℕ) (b c : Bool) → op ≡ begin_loop greedy body nx → b ≡ cell t body false position →
        c ≡ cell t nx moved position → Yields op (b || c)
    begin_yields greedy body nx b c is eb ec =
        let f = as' (begin_loop greedy body nx) is in
        yields_as op (begin_loop greedy body nx) _ _ is (ap₂ ◌||◌ eb ec)
        (either_tells out moved position greedy body nx _ _ (tells-enters out t right pc moved position next body f.0)
        (tells-earlier out t right pc moved position next nx f.1))

    pub repeat_yields : (greedy : Bool) (body nx : ℕ) (b c : Bool) → op ≡ repeat greedy body nx → b ≡ cell t body false position →
        c ≡ cell t nx true position → Yields op (moved && (b || c))
    repeat_yields greedy body nx b c is eb ec =
        let f = as' (repeat greedy body nx) is in
        yields_as op (repeat greedy body nx) _ _ is (ap₂ (λ x y. moved && (x || y)) eb ec)
        (advanced_tells out moved position _ _ (λ m-is.
        either_tells out true position greedy body nx _ _ (tells-begins out t right pc moved position next body f.0 m-is)
        (subst (λ m. Tells out nx m position (cell t nx m position)) m-is (tells-earlier out t right pc moved position next nx f.1))))

    pub end_yields : (nx : ℕ) (b : Bool) → op ≡ end_loop nx → b ≡ cell t nx true position → Yields op (moved && b)
    end_yields nx b is eb =
        yields_as op (end_loop nx) _ _ is (ap (λ x. moved && x) eb)
        (advanced_tells out moved position _ _ (λ m-is a m p.
        subst (λ x. Tells out nx x position (cell t nx x position)) m-is (tells-earlier out t right pc moved position next nx (as' (end_loop nx) is))
        (record a { pc = nx }) refl m p))

    pub unsets_yields : (start' end nx : ℕ) (b : Bool) → op ≡ unsets start' end nx → b ≡ cell t nx moved position → Yields op b
    unsets_yields start' end nx b is eb =
        yields_as op (unsets start' end nx) _ _ is eb
        (λ a m p. tells-earlier out t right pc moved position next nx (as' (unsets start' end nx) is) _ refl m p)

    pub begin_group_yields : (nx : ℕ) (b : Bool) → op ≡ begin_group nx → b ≡ cell t nx moved position → Yields op b
    begin_group_yields nx b is eb =
        yields_as op (begin_group nx) _ _ is eb (λ a m p. tells-earlier out t right pc moved position next nx (as' (begin_group nx) is) _ refl m p)

    pub end_group_yields : (id nx : ℕ) (b : Bool) → op ≡ end_group id nx → b ≡ cell t nx moved position → Yields op b
    end_group_yields id nx b is eb =
        yields_as op (end_group id nx) _ _ is eb
        (group_tells out moved position id nx _ (tells-earlier out t right pc moved position next nx (as' (end_group id nx) is)))

    pub look_yields : (negate : Bool) (i nx : ℕ) (b c : Bool) → op ≡ look negate i nx →
        ((s : MatchState) → s.position ≡ position → has_outcome (body_of i s) ≡ b) → c ≡ cell t nx moved position →
        Yields op (not (beq b negate) && c)
    look_yields negate i nx b c is body ec =
        let f = as' (look negate i nx) is in
        yields_as op (look negate i nx) _ _ is (ap (λ x. not (beq b negate) && x) ec)
        (looked_tells out moved position negate nx (body_of i) b _ body (tells-earlier out t right pc moved position next nx f.1))

-- ---- leaves

-- the string of a set that is a part
pub sole_of : (strings : List (BoxedSlice ℕ Global)) (icase : Bool) → IsPart (leaf (string_set (map boxed_slice_items strings) icase)) →
    (0 < length strings) × ((d : BoxedSlice ℕ Global) → map boxed_slice_items strings ≡ boxed_slice_items (get_or strings 0 d) ∷ [])
sole_of [] icase is = absurd is
sole_of (string ∷ []) icase is = (omega arith, λ d. refl)
sole_of (string ∷ another ∷ strings) icase is = absurd is

-- what an instruction for a leaf does
pub leaf_is : (tests : List Test) (i : Instruction) (k next : ℕ) (test : Test) → i ≡ insts.Leaf k next → slice_get tests k ≡ Some test →
    op_in tests i ≡ part (tree test.node) next
leaf_is tests i k next test is some = ap (op_in tests) is ∙ ap (λ o. part_of o next) some

pub characters_is : (tests : List Test) (i : Instruction) (k count next : ℕ) (test : Test) → i ≡ insts.Characters k count next →
    slice_get tests k ≡ Some test → op_in tests i ≡ part (exactly count (tree test.node)) next
characters_is tests i k count next test is some = ap (op_in tests) is ∙ ap (λ o. characters_of o count next) some

-- ---- lookarounds

pub look-earlier : (program : List Routine) (n i : ℕ) → i < length (take n program) → i < n
look-earlier program n i lt = omega (arith, lt, length-take n program)

pub index-within : (t : Table) (pc : ℕ) (moved : Bool) (position : ℕ) → pc < t.width → position ≤ t.length → index t pc moved position < size t
unfolding place
index-within t pc moved position lt within =
    omega (
      arith,
      rows-less (row_of (direction_if t.backwards) t.length position) (t.length + 1) (2 * t.width) (column t.width moved pc) 0
          (row-within (direction_if t.backwards) t.length position within) (column-less t.width pc moved lt),
    )
  where
    row-within : (d : Direction) (length position : ℕ) → position ≤ length → row_of d length position < length + 1
    row-within forwards length position le = omega arith
    row-within backwards length position le = omega arith

-- every bit of a full table is right
pub full_tells : (out : Out) (t : Table) (pc : ℕ) (moved : Bool) (position : ℕ) → IsFull t → IsRight out t → pc < t.width → position ≤ t.length →
    Tells out pc moved position (cell t pc moved position)
full_tells out t pc moved position full right lt within =
    right.tells pc moved position lt within (omega (arith, full, index-within t pc moved position lt within))

-- the bit at the entry of an earlier routine
pub entry_tells : (setting : Setting) (bytes : List ℕ) (program : List Routine) (tables : List Table) (outs : ℕ → Out) (i : ℕ) (r : Routine) (t : Table) (s : MatchState) →
    IsProgram program → AreTables bytes program tables → AreRight outs tables → slice_get program i ≡ Some r → slice_get tables i ≡ Some t →
    s.position ≤ length bytes → has_outcome (matcher_of setting bytes program outs i s) ≡ cell t r.entry true s.position
entry_tells setting bytes program tables outs i r t s program_is are right is_r is_t within =
    let of = are.of i r t is_r is_t in
    let entry = (program_is i r is_r).entry in
    ap (λ o. has_outcome (outs i (start setting bytes o s))) is_r
    ∙ full_tells (outs i) t r.entry true s.position (are.full i t is_t) (right i t is_t) (omega (arith, entry, of.width)) (omega (arith, within, of.text))
    (start setting bytes (Some r) s) refl refl refl
