-- Next bytes: where instructions have no outcome.
use Rattle.std.proofs.Common.{◌≡◌, ◌⊎◌, ⊎_elim, ℕ, zero, suc, ◌+◌, ◌-◌, ◌≤◌, ◌<◌, ◌==◌, ◌&&◌, ◌||◌, Bool, true, false, List, [], ◌∷◌, ◌++◌, flat_map, length, get_or, Option, Some, None, option_map, slice_get, encode_utf8, if◌then◌else◌, refl, sym, ap, ap₂, ◌∙◌, subst, append-nil, arith}
use Rattle.std.proofs.lemmas.Option.{slice_get-map, slice_get_within}
use lib.Utf8.{encode}
use Rattle.regress_base.specs.ByteBitmap.{contains}
use Rattle.regress_base.specs.ByteSets.{SameMembers, bytes_of}
use Rattle.regress_base.specs.Intervals.{is_member, is_within}
use Rattle.regress_base.specs.declared.bytesearch.bitmap.ByteBitmap.{ByteBitmap}
use Rattle.regress_base.specs.declared.types.AnchorType.{AnchorType}
use Rattle.regress_base.specs.declared.types.AnchorType.TheVariants.{StartOfLine, EndOfLine}
use Rattle.regress_tree.specs.Assertions.{at_anchor, is_line_terminator, passes}
use Rattle.regress_tree.specs.Lookaround.{looked, lookaround_matcher}
use Rattle.regress_tree.specs.Matching.{steps}
use Rattle.regress_tree.specs.Reading.{Direction, Read, character_at, forwards, backwards, of_bytes, read_after, read_before}
use Rattle.regress_tree.specs.Repetition.{iterations}
use Rattle.regress_tree.specs.Steps.{MatchState, Matcher, hold_at, ◌then_◌, Setting}
use Rattle.regress_tree.specs.Tree.{Tree, leaf, anchor}
use Rattle.regress_tree.proofs.lemmas.Characters.{character_at_parts}
use Rattle.regress_tree.proofs.lemmas.Outcomes.{flat_map-then}
use Rattle.regress_prefilter.specs.FirstSets.{BeginsWithByteOf}
use Rattle.regress_prefilter.specs.OneCharacter.{takes_one, test_of}
use Rattle.regress_prefilter.proofs.lemmas.OneCharacter.{after_parts}
use Rattle.regress_leaves.specs.Leaves.{exactly}
use Rattle.regress_leaves.proofs.ReadingLemmas.{ascii_after, ascii_before, first_of_drop}
use Rattle.regress_leaves.proofs.lemmas.Leaves.{exactly-steps}
use Rattle.regress_program.specs.Program.{At, IsSolution, Out, Routine, Solves, ended, matcher_of, outcomes_at, outcomes_by, reach, start}
use Rattle.regress_program.specs.declared.instruction.Instruction.{Instruction}
use Rattle.regress_leaves.specs.declared.test.Test.{Test}
use Rattle.regress_program.specs.Views.{op_in, ops_in}
use Rattle.regress_code.specs.declared.next_bytes.Body.{Body}
use Rattle.regress_code.specs.declared.next_bytes.NextBytes.{NextBytes}
use Rattle.regress_code.specs.declared.next_bytes.NextBytes.TheVariants as kinds
use Rattle.regress_code.specs.NextBytes.{AreBodies, AreNextBytes, AreNextBytesAt, AreNextBytesOf, Bounds, FoldsIf, IsOutside, next_to}
use Rattle.regress_leaves.specs.Starts.{IsNextOutside}
use Rattle.regress_leaves.proofs.lemmas.Starts.{ascii_fails, bytes_fail, no_member}

-- no outcomes are bounded by any next bytes
pub none_bounds : (next_byte : NextBytes) (d : Direction) (text : List ℕ) (k : ℕ) → Bounds next_byte d text k []
none_bounds kinds.Any d text k = tt
none_bounds (kinds.Bytes set) d text k = λ out. refl

pub cond_bounds : (next_byte : NextBytes) (d : Direction) (text : List ℕ) (k : ℕ) (b : Bool) (states : List MatchState) → Bounds next_byte d text k states →
    Bounds next_byte d text k (if b then states else [])
cond_bounds next_byte d text k true states is = is
cond_bounds next_byte d text k false states is = none_bounds next_byte d text k

-- a position outside the common bytes is outside one of the sets
pub common_outside : (one two both : ByteBitmap) → ((b : ℕ) → b < 256 → contains both b ≡ (contains one b && contains two b)) → (d : Direction) (text : List ℕ)
    (k : ℕ) (states : List MatchState) → Bounds (kinds.Bytes one) d text k states → Bounds (kinds.Bytes two) d text k states →
    Bounds (kinds.Bytes both) d text k states
common_outside one two both common d text k states first second out = by (contains one b) refl
  where
    b : ℕ
    b = get_or text (next_to d k) 0

    by : (is_in : Bool) → contains one b ≡ is_in → states ≡ []
    by false is = first (record { after = out.after; before = out.before; byte = out.byte; out = is })
    by true is =
        second
        (record {
          after = out.after;
          before = out.before;
          byte = out.byte;
          out = ap (λ x. x && contains two b) (sym is) ∙ sym (common b out.byte) ∙ out.out;
        })

-- what bounds some outcomes bounds what follows them
pub mapped_bounds : (next_byte : NextBytes) (d : Direction) (text : List ℕ) (k : ℕ) (states : List MatchState) (g : Matcher) → Bounds next_byte d text k states →
    Bounds next_byte d text k (flat_map g states)
mapped_bounds kinds.Any d text k states g is = tt
mapped_bounds (kinds.Bytes set) d text k states g is = λ out. ap (flat_map g) (is out)

-- a lookaround that is not negated fails where its body does
pub body_bounds : (next_byte : NextBytes) (d : Direction) (text : List ℕ) (s : MatchState) (f g : Matcher) → Bounds next_byte d text s.position (f s) →
    Bounds next_byte d text s.position (flat_map g (lookaround_matcher false f s))
unfolding lookaround_matcher
body_bounds kinds.Any d text s f g is = tt
body_bounds (kinds.Bytes set) d text s f g is = λ out. ap (λ states. flat_map g (looked false s states)) (is out)

-- the outcomes inside the text alone matter
pub inside_bounds : (next_byte : NextBytes) (d : Direction) (text : List ℕ) (k : ℕ) (states : List MatchState) → (k ≤ length text → Bounds next_byte d text k states) →
    Bounds next_byte d text k states
inside_bounds kinds.Any d text k states is = tt
inside_bounds (kinds.Bytes set) d text k states is = λ out. let within : k < length text = out.before in is (omega (arith, within)) out

module _ (next_byte : NextBytes) (d : Direction) (text : List ℕ) (s : MatchState) (g : Matcher)
    (holds : (t : MatchState) → t.position ≡ s.position → Bounds next_byte d text s.position (g t)) where
  one_bounds : (t : MatchState) → t.position ≡ s.position → Bounds next_byte d text s.position (flat_map g (t ∷ []))
  one_bounds t same = subst (Bounds next_byte d text s.position) (sym (append-nil (g t))) (holds t same)

  if_bounds : (b : Bool) → Bounds next_byte d text s.position (flat_map g (if b then s ∷ [] else []))
  if_bounds true = one_bounds s refl
  if_bounds false = none_bounds next_byte d text s.position

  -- an assertion keeps the position
  pub hold_bounds : (test : ℕ → Bool) → Bounds next_byte d text s.position (flat_map g (hold_at test s))
  unfolding hold_at
  hold_bounds test = if_bounds (test s.position)

  looked_bounds : (negate : Bool) (states : List MatchState) → Bounds next_byte d text s.position (flat_map g (looked negate s states))
  looked_bounds false [] = none_bounds next_byte d text s.position
  looked_bounds false (t ∷ later) = one_bounds (record t { position = s.position }) refl
  looked_bounds true [] = one_bounds s refl
  looked_bounds true (t ∷ later) = none_bounds next_byte d text s.position

  -- and so does a lookaround
  pub look_bounds : (negate : Bool) (f : Matcher) → Bounds next_byte d text s.position (flat_map g (lookaround_matcher negate f s))
  unfolding lookaround_matcher
  look_bounds negate f = looked_bounds negate (f s)

-- ---- the instruction after another

module _ (next_byte : NextBytes) (d : Direction) (text : List ℕ) (out : Out) (next : ℕ) (is : AreNextBytesAt next_byte d text out next) (a : At) where
  pub reach_bounds : (t : MatchState) → t.position ≡ a.state.position → Bounds next_byte d text a.state.position (out (reach next a t))
  reach_bounds t same = subst (λ k. Bounds next_byte d text k (out (reach next a t))) same (is (reach next a t) refl)

  pub ended_bounds : (id : ℕ) (begins : List ℕ) → Bounds next_byte d text a.state.position (out (ended id next a begins))
  ended_bounds id [] = is (ended id next a []) refl
  ended_bounds id (from ∷ begins) = is (ended id next a (from ∷ begins)) refl

-- the next bytes of the instruction with this index
pub instruction_bounds : (tests : List Test) (instructions : List Instruction) (i : ℕ) (x : Instruction) → slice_get instructions i ≡ Some x → (setting : Setting)
    (text : List ℕ) (d : Direction) (body_of : ℕ → Matcher) (out : Out) →
    Solves setting text d body_of out (ops_in tests instructions) 0 (length (ops_in tests instructions)) → (next_byte : NextBytes) →
    ((a : At) → Bounds next_byte d text a.state.position (outcomes_by setting text d body_of out (op_in tests x) a)) → AreNextBytesAt next_byte d text out i
instruction_bounds tests instructions i x is setting text d body_of out solves next_byte bounds = λ a at.
    let ops = ops_in tests instructions in
    let here : slice_get ops a.pc ≡ Some (op_in tests x) =
    ap (slice_get ops) at ∙ slice_get-map (op_in tests) instructions i ∙ ap (option_map (op_in tests)) is in
    let lt : a.pc < length ops = slice_get_within ops a.pc (op_in tests x) here in
    inside_bounds next_byte d text a.state.position (out a)
    (λ le. subst (Bounds next_byte d text a.state.position)
    (sym (solves a (omega arith) lt le ∙ ap (λ o. outcomes_at setting text d body_of out o a) here)) (bounds a))

-- ---- leaves

is_inside : (k n : ℕ) → 0 < k → k < n → ((k == 0) ≡ false) × ((k == n) ≡ false)
is_inside k n low high = (grind arith, grind arith)

held_not : (test : ℕ → Bool) (s : MatchState) → test s.position ≡ false → hold_at test s ≡ []
unfolding hold_at
held_not test s is = ap (λ (b : Bool). if b then s ∷ [] else []) is

-- an anchor that is not multiline holds only at the start or the end of the text
pub anchor_outside : (kind : AnchorType) (setting : Setting) (d : Direction) (set : ByteBitmap) (text : List ℕ) (s : MatchState) → IsOutside d set text s.position →
    steps setting text d (leaf (anchor kind false)) s ≡ []
anchor_outside StartOfLine setting d set text s out =
    held_not (at_anchor (of_bytes text) StartOfLine false) s (ap (λ b. b || false) (is_inside s.position (length text) out.after out.before).0)
anchor_outside EndOfLine setting d set text s out =
    held_not (at_anchor (of_bytes text) EndOfLine false) s (ap (λ b. b || false) (is_inside s.position (length text) out.after out.before).1)

-- the bytes with which line terminators begin
abbrev pub terminator_bytes : List ℕ
terminator_bytes = 0xA ∷ 0xD ∷ 0xE2 ∷ []

terminator_cases : (c : ℕ) → is_line_terminator c ≡ true → (c ≡ 0xA) ⊎ ((c ≡ 0xD) ⊎ ((c ≡ 0x2028) ⊎ (c ≡ 0x2029)))
unfolding is_member is_within
terminator_cases c is = grind arith

terminator_first : (c : ℕ) (rest : List ℕ) → is_line_terminator c ≡ true → bytes_of terminator_bytes (get_or (encode_utf8 c ++ rest) 0 0) ≡ true
unfolding bytes_of encode
terminator_first c rest is =
    let begins : ℕ → Type 0 = λ x. bytes_of terminator_bytes (get_or (encode_utf8 x ++ rest) 0 0) ≡ true in
    ⊎_elim (λ (e : c ≡ 0xA). subst begins (sym e) refl)
    (λ (more : (c ≡ 0xD) ⊎ ((c ≡ 0x2028) ⊎ (c ≡ 0x2029))). ⊎_elim (λ (e : c ≡ 0xD). subst begins (sym e) refl)
    (λ (last : (c ≡ 0x2028) ⊎ (c ≡ 0x2029)). ⊎_elim (λ (e : c ≡ 0x2028). subst begins (sym e) refl) (λ (e : c ≡ 0x2029). subst begins (sym e) refl) last) more)
    (terminator_cases c is)

-- No line terminator is at a byte with which none begins.
no_terminator : (set : ByteBitmap) → SameMembers (contains set) (bytes_of terminator_bytes) → (text : List ℕ) (k : ℕ) →
    contains set (get_or text k 0) ≡ false → passes is_line_terminator (read_after text k) ≡ false
no_terminator set ends text k out = by (read_after text k) refl
  where
    not_one : (c : ℕ) → character_at text k ≡ Some c → (is : Bool) → is_line_terminator c ≡ is → is ≡ false
    not_one c here false is = refl
    not_one c here true is =
        let parts = character_at_parts text k c here in
        let first : get_or text k 0 ≡ get_or (encode_utf8 c ++ parts.1.0) 0 0 = sym (first_of_drop text k) ∙ ap (λ bs. get_or bs 0 0) parts.1.1 in
        sym (terminator_first c parts.1.0 is) ∙ ap (bytes_of terminator_bytes) (sym first) ∙ sym (ends (get_or text k 0)) ∙ out

    by : (o : Option Read) → read_after text k ≡ o → passes is_line_terminator o ≡ false
    by None is = refl
    by (Some read) is = not_one read.character (after_parts text k read is).0 (is_line_terminator read.character) refl

-- a multiline `$` holds only before a line terminator, or at the end of the text
pub line_end_outside : (set : ByteBitmap) → SameMembers (contains set) (bytes_of terminator_bytes) → (setting : Setting) (d : Direction) (text : List ℕ)
    (s : MatchState) → IsOutside forwards set text s.position → steps setting text d (leaf (anchor EndOfLine true)) s ≡ []
line_end_outside set ends setting d text s out =
    held_not (at_anchor (of_bytes text) EndOfLine true) s
    (ap₂ ◌||◌ (is_inside s.position (length text) out.after out.before).1 (no_terminator set ends text s.position out.out))

-- a leaf that matches one character
pub ascii_outside : (set all : ByteBitmap) (t : Tree) → takes_one t ≡ true → ((b : ℕ) → b < 128 → contains set b ≡ test_of t b) →
    ((b : ℕ) → b < 256 → contains all b ≡ false → (b < 128) × (contains set b ≡ false)) →
    (setting : Setting) (text : List ℕ) (d : Direction) (s : MatchState) → IsOutside d all text s.position → steps setting text d t s ≡ []
ascii_outside set all t takes tests others setting text forwards s out =
    let b = get_or text s.position 0 in
    let no = others b out.byte out.out in
    ascii_fails set t takes tests setting text forwards s b (s.position + 1) no.0 (ascii_after text s.position b no.0 out.before refl) no.1
ascii_outside set all t takes tests others setting text backwards s out =
    let k = s.position - 1 in
    let b = get_or text k 0 in
    let no = others b out.byte out.out in
    let low : 0 < s.position = out.after in
    let high : s.position < length text = out.before in
    let number : s.position ≡ k + 1 = omega (arith, low) in
    ascii_fails set t takes tests setting text backwards s b k no.0
    (ap (read_before text) number ∙ ascii_before text k b no.0 (omega (arith, high)) refl) no.1

-- a leaf whose first bytes are known
pub bytes_outside : (set : ByteBitmap) (t : Tree) → BeginsWithByteOf set t → (setting : Setting) (text : List ℕ) (s : MatchState) →
    IsOutside forwards set text s.position → steps setting text forwards t s ≡ []
bytes_outside set t begins setting text s out = bytes_fail set t setting text s begins (no_member set text s.position out.out)

-- a string that is compared by canonical forms
pub next_outside : (set : ByteBitmap) (text : List ℕ) (position : ℕ) → IsOutside forwards set text position → IsNextOutside set text position
next_outside set text position out = record { before = out.before; byte = out.byte; out = out.out }

-- Several characters begin with one.
module _ (next_byte : NextBytes) (setting : Setting) (d : Direction) (text : List ℕ) (t : Tree) (s : MatchState)
    (first : (g : Matcher) → Bounds next_byte d text s.position (flat_map g (steps setting text d t s))) where
  pub exactly_bounds : (count : ℕ) → 0 < count → (g : Matcher) → Bounds next_byte d text s.position (flat_map g (steps setting text d (exactly count t) s))
  exactly_bounds zero more g = let bad : ⊥ = omega (arith, more) in absurd bad
  exactly_bounds (suc n) more g =
      let f = steps setting text d t in
      subst (Bounds next_byte d text s.position)
      (flat_map-then (iterations n f) g (f s) ∙ ap (flat_map g) (sym (exactly-steps setting text d (suc n) t s)))
      (first (iterations n f then_ g))

-- ---- the bodies of lookarounds

-- They bound the outcomes of the first routines of a program.
abbrev pub HaveBodies : (folds : Bool) → List Routine → List Body → Type 0
HaveBodies folds program bodies = (setting : Setting) → FoldsIf folds setting → (text : List ℕ) (outs : ℕ → Out) →
    IsSolution setting text program outs → AreBodies bodies text (matcher_of setting text program outs)

module _ (folds : Bool) (program : List Routine) (bodies : List Body) (so_far : HaveBodies folds program bodies) (i : ℕ) (r : Routine)
    (here : slice_get program i ≡ Some r) (next_bytes : List NextBytes) (are : AreNextBytesOf folds bodies next_bytes r.direction r.ops) (setting : Setting)
    (has : FoldsIf folds setting) (text : List ℕ) (outs : ℕ → Out) (solution : IsSolution setting text program outs) where
  -- the next bytes of the next routine
  pub routine_bounds : AreNextBytes next_bytes r.direction text (outs i)
  routine_bounds =
      are setting has text (matcher_of setting text program outs) (outs i) (so_far setting has text outs solution) (solution i r here)

  -- its first ones bound its matches
  pub entry_bounds : (next_byte : NextBytes) → ((d : Direction) (out : Out) → AreNextBytes next_bytes d text out → AreNextBytesAt next_byte d text out r.entry) →
      (s : MatchState) → Bounds next_byte r.direction text s.position (matcher_of setting text program outs i s)
  entry_bounds next_byte at s =
      subst (λ o. Bounds next_byte r.direction text s.position (outs i (start setting text o s))) (sym here)
      (at r.direction (outs i) routine_bounds (start setting text (Some r) s) refl)
