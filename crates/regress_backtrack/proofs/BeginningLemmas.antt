-- No match begins where the assertion fails with which the pattern begins.
use Rattle.std.proofs.Common.{◌≡◌, inl, inr, ℕ, ◌+◌, ◌-◌, ◌<◌, ◌≤◌, ◌==◌, ◌&&◌, ◌||◌, Bool, true, false, if◌then◌else◌, List, [], ◌∷◌, flat_map, length, replicate, slice_get, slice_index, Option, Some, None, refl, ap, ap₂, ◌∙◌, subst, arith}
use Rattle.std.proofs.lemmas.Bool.{cases_lt, ne_eqb}
use Rattle.regress_base.specs.Table.{Table}
use Rattle.regress_base.specs.declared.types.AnchorType.TheVariants.{StartOfLine}
use Rattle.regress_tree.specs.Assertions.{at_anchor, at_boundary, differ, is_line_terminator, is_word_character, passes}
use Rattle.regress_tree.specs.Matching.{steps}
use Rattle.regress_tree.specs.Reading.{Direction, of_bytes, read_after, read_before}
use Rattle.regress_tree.specs.Steps.{MatchState, Setting, hold_at}
use Rattle.regress_tree.specs.Tree.{leaf as leaf_of, tree}
use Rattle.regress_leaves.proofs.ReadingLemmas.{ascii_after, ascii_before}
use Rattle.regress_leaves.specs.Subject.{subject}
use Rattle.regress_program.specs.Program.{Out, matcher_of, outcomes_by, reach}
use Rattle.regress_program.specs.Views.{part_of}
use Rattle.regress_program.specs.declared.instruction.Instruction.TheVariants as insts
use Rattle.regress_leaves.specs.declared.test.Test.{Test}
use Rattle.regress_code.specs.Code.{code_groups, code_routines}
use Rattle.regress_backtrack.specs.Backtracker.{AreOutcomes, Skipped, outcomes_at, run_code, run_tables, run_text}
use Rattle.regress_backtrack.specs.Beginning.{BeginsWithAssertion, IsExcluded, IsInsideLine, IsInsideWord, assertion}
use Rattle.regress_backtrack.specs.declared.beginning.Beginning.{Beginning}
use Rattle.regress_backtrack.specs.declared.beginning.Beginning.TheVariants.{WordBoundary, LineStart}
use Rattle.regress_backtrack.specs.Machine.{at}
use Rattle.regress_backtrack.specs.Next.{IsInput, instructions_in, start_at}
use Rattle.regress_backtrack.specs.declared.backtracker.Backtracker.{Backtracker}
use Rattle.regress_backtrack.specs.declared.input.Input.{Input}
use Rattle.regress_backtrack.proofs.LeadLemmas.{entry_is, solves_for}
use Rattle.regress_backtrack.proofs.RunLemmas.{solved}

-- There is no word boundary between two word characters.
no_boundary : (table : Table) (bytes : List ℕ) (k : ℕ) → IsInsideWord bytes k →
    at_boundary (of_bytes bytes) (is_word_character table false) false k ≡ false
no_boundary table bytes k inside =
    let word : ℕ → Bool = is_word_character table false in
    let b = slice_index bytes (k - 1) in
    let a = slice_index bytes k in
    let same : (k - 1) + 1 ≡ k = omega (arith, inside.some) in
    let before : read_before bytes k ≡ Some (record { character = b; position = k - 1 }) =
    subst (λ n. read_before bytes n ≡ Some (record { character = b; position = k - 1 })) same
    (ascii_before bytes (k - 1) b inside.before.ascii inside.before.inside refl) in
    let after : read_after bytes k ≡ Some (record { character = a; position = k + 1 }) =
    ascii_after bytes k a inside.after.ascii inside.after.inside refl in
    ap₂ (λ x y. differ false (differ (passes word x) (passes word y))) before after
    ∙ ap₂ (λ x y. differ false (differ x y)) inside.before.word inside.after.word

-- No line begins after a character that does not end one.
no_line : (bytes : List ℕ) (k : ℕ) → IsInsideLine bytes k → at_anchor (of_bytes bytes) StartOfLine true k ≡ false
no_line bytes k inside =
    let b = slice_index bytes (k - 1) in
    let same : (k - 1) + 1 ≡ k = omega (arith, inside.some) in
    let not_first : (k == 0) ≡ false = ne_eqb k 0 (λ e. absurd (omega (arith, e, inside.some))) in
    let before : read_before bytes k ≡ Some (record { character = b; position = k - 1 }) =
    subst (λ n. read_before bytes n ≡ Some (record { character = b; position = k - 1 })) same
    (ascii_before bytes (k - 1) b inside.ascii inside.inside refl) in
    ap₂ (λ x y. x || (true && passes is_line_terminator y)) not_first before ∙ inside.goes_on

no_steps : (setting : Setting) (bytes : List ℕ) (d : Direction) (beginning : Beginning) (s : MatchState) → IsExcluded beginning bytes s.position →
    steps setting bytes d (leaf_of (assertion beginning)) s ≡ []
unfolding hold_at
no_steps setting bytes d WordBoundary s inside = ap (λ b. if b then s ∷ [] else []) (no_boundary setting.table bytes s.position inside)
no_steps setting bytes d LineStart s inside = ap (λ b. if b then s ∷ [] else []) (no_line bytes s.position inside)

-- The first instruction matches the assertion, so that a run fails where the assertion does.
pub begins_with : (input : Input) → IsInput input → (beginning : Beginning) (leaf next : ℕ) (test : Test) → input.first < length (instructions_in input) →
    slice_get (instructions_in input) input.first ≡ Some (insts.Leaf leaf next) → slice_get input.code.now.program.leaves.items leaf ≡ Some test →
    tree test.node ≡ leaf_of (assertion beginning) → BeginsWithAssertion input beginning
begins_with input is beginning leaf next test lt first is_test asserts k le excluded outs g solve =
    let u = subject input.rules input.text.now in
    let out = outs input.index in
    let body_of = matcher_of u.setting u.bytes (code_routines input.code.now) outs in
    let a = at (start_at input k) g in
    solved input is (start_at input k) (insts.Leaf leaf next) lt first u.setting u.bytes outs u.direction g solve is.direction le
    ∙ ap (λ o. outcomes_by u.setting u.bytes u.direction body_of out (part_of o next) a) is_test
    ∙ ap (λ t. flat_map (λ s. out (reach next a s)) (steps u.setting u.bytes u.direction t a.state)) asserts
    ∙ ap (flat_map (λ s. out (reach next a s))) (no_steps u.setting u.bytes u.direction beginning a.state excluded)

none_excluded : (b : Backtracker) (beginning : Beginning) → BeginsWithAssertion b.input beginning → (outs : ℕ → Out) → AreOutcomes b outs →
    (k : ℕ) → k ≤ length (run_text b) → IsExcluded beginning (run_text b) k → outcomes_at b outs k ≡ []
none_excluded b beginning begins outs solution k le excluded =
    entry_is (run_code b) (run_tables b) (run_text b) b.input b.for_pattern outs k
    ∙ begins k le excluded outs (record { captures = replicate (code_groups (run_code b)) None; begins = [] })
    (solves_for (run_code b) (run_tables b) (run_text b) b.input b.for_pattern outs solution)

-- Positions are skipped up to one at which the assertion fails, then those at which it fails, and then further ones.
pub skipped_on : (b : Backtracker) (from position possible : ℕ) (result : Option ℕ) (beginning : Beginning) →
    BeginsWithAssertion b.input beginning → Skipped b from (Some position) →
    ((k : ℕ) → position ≤ k → k < possible → IsExcluded beginning (run_text b) k) →
    Skipped b possible result → Skipped b from result
skipped_on b from position possible result beginning begins first excluded next = λ outs solution k low le before.
    elim (cases_lt k position) [
      | inl less ↦ first outs solution k low le less
      | inr more ↦ elim (cases_lt k possible) [
        | inl less ↦ none_excluded b beginning begins outs solution k le (excluded k more less)
        | inr after ↦ next outs solution k after le before
      ]
    ]
