-- Lookarounds, sets of strings and routines as instructions.
use Rattle.std.proofs.Common.{◌≡◌, ℕ, ◌+◌, ◌≤◌, ◌<◌, inl, inr, Bool, true, List, [], ◌∷◌, ◌++◌, length, flat_map, Some, slice_get, take, refl, sym, ap, subst, ◌∙◌, append-nil, arith}
use Rattle.std.proofs.Math.Seq.{take-append_seam}
use Rattle.std.proofs.lemmas.Bool.{cases_eq, cases_lt}
use Rattle.std.proofs.lemmas.List.{take-append-le}
use Rattle.std.proofs.lemmas.Option.{same_Some, slice_get_within}
use Rattle.regress_base.specs.Table.{denotes}
use Rattle.regress_tree.specs.Lookaround.{lookaround_matcher, looked}
use Rattle.regress_tree.specs.Reading.{Direction, of_bytes}
use Rattle.regress_tree.specs.Steps.{MatchState, Matcher, ◌or_◌, Setting}
use Rattle.regress_tree.specs.References.{any_string}
use Rattle.regress_tree.specs.Tree.{Tree, leaf, string_set}
use Rattle.regress_tree.proofs.lemmas.Outcomes.{flat_map-stay}
use Rattle.regress_program.specs.Compiled.{Extends, World, Solved, Matching, matching, looking, strings, Code, total, Grown, Compiled, HasRoutine}
use Rattle.regress_program.specs.Pushed.{Pushed}
use Rattle.regress_program.specs.Program.{accept, split, look, Routine, At, Out, goto, reach, start, matcher_of}
use Rattle.regress_program.specs.Program as programs
use Rattle.regress_program.specs.Shape.{Fits, AllFit, IsRoutine, IsProgram}
use Rattle.regress_program.specs.Stays.{IsReached}
use Rattle.regress_program.proofs.CodeLemmas.{get-append-below, get-append-last, length-push, Extends-same, Extends-then, Extends-push, Extends-get, earlier, solved_at, Grown-then, Grown-push, pushed_at}
use Rattle.regress_program.proofs.CompileLemmas.{compiled_same, compiled_fail, compiled_or}
use Rattle.regress_program.proofs.FlowLemmas.{flat_map-agree}
use Rattle.regress_program.proofs.lemmas.Onward.{Stays-look}

-- ---- lookarounds

same_look : (negate : Bool) (f g : Matcher) (s : MatchState) → f s ≡ g s → lookaround_matcher negate f s ≡ lookaround_matcher negate g s
unfolding lookaround_matcher
same_look negate f g s same = ap (looked negate s) same

pub compiled_look : (a b c : Code) (f : Matching) (negate : Bool) (d' : Direction) (i next at : ℕ) → next < length a.ops → HasRoutine a b f d' i →
    Pushed b c (look negate i next) at → Compiled a c (looking negate d' f) next at
compiled_look a b c f negate d' i next at below has pushed =
    let same : length b.ops ≡ length a.ops = ap length has.same in
    let len : length c.ops ≡ length b.ops + 1 = ap length pushed.ops ∙ length-push b.ops (look negate i next) in
    let grown = Grown-push b c (look negate i next) at pushed (omega (arith, has.last), omega (arith, below, same)) in
    record {
      grown = Grown-then a b c has.grown grown;
      begins = omega (arith, len, pushed.at_end);
      stays = λ d setting bytes. Stays-look bytes d negate (f d' setting bytes);
      means = λ d w out solved. record {
        goes = λ s inside.
            pushed_at has.grown (look negate i next) at pushed w d out solved s inside
            ∙ ap (flat_map (λ to. out (reach next s to)))
            (same_look negate (matcher_of w.setting w.bytes w.program w.outs i) (f d' w.setting w.bytes) s.state
            (has.means (earlier grown.routines w) s.state inside));
      };
    }

-- ---- routines

total-push : (rs : List Routine) (r : Routine) → total (rs ++ r ∷ []) ≡ total rs + length r.ops
total-push [] r = omega arith
total-push (q ∷ rs) r = omega (arith, total-push rs r)

IsProgram-push : (rs : List Routine) (r : Routine) → IsProgram rs → IsRoutine rs r → IsProgram (rs ++ r ∷ [])
IsProgram-push rs r is last i q found =
    let len = length-push rs r in
    let within : i < length (rs ++ r ∷ []) = slice_get_within (rs ++ r ∷ []) i q found in
    elim (cases_lt i (length rs)) [
      | inl before ↦
          subst (λ qs. IsRoutine qs q) (sym (take-append-le i rs (r ∷ []) (omega (arith, before))))
          (is i q (sym (get-append-below rs (r ∷ []) i before) ∙ found))
      | inr past ↦
          (let here : i ≡ length rs = omega (arith, past, within, len) in
          let same : r ≡ q = same_Some r q (sym (get-append-last rs r) ∙ ap (slice_get (rs ++ r ∷ [])) (sym here) ∙ found) in
          subst (λ k. IsRoutine (take k (rs ++ r ∷ [])) q) (sym here)
          (subst (λ qs. IsRoutine qs q) (sym (take-append_seam rs (r ∷ []))) (subst (λ p. IsRoutine rs p) same last)))
    ]

-- A routine of its own: `empty` has no instructions, `begun` the one that accepts, and `body` the compiled body.
module _ (a empty begun body c : Code) (f : Matching) (d : Direction) (entry at i : ℕ)
    (cleared : empty ≡ record a { ops = [] }) (accepts : Pushed empty begun accept at) (is : Compiled begun body f 0 entry)
    (stored : c ≡ record { routines = body.routines ++ record { ops = body.ops; entry = entry; direction = d } ∷ []; ops = a.ops; left = body.left })
    (index : i ≡ length body.routines) where
  abbrev routine : Routine
  routine = record { ops = body.ops; entry = entry; direction = d }

  first : begun.ops ≡ accept ∷ []
  first = accepts.ops ∙ ap (λ (x : Code). x.ops ++ accept ∷ []) cleared

  first_length : length begun.ops ≡ 1
  first_length = ap length first

  at_first : slice_get body.ops 0 ≡ Some accept
  at_first = is.grown.ops.same 0 (omega (arith, first_length)) ∙ ap (λ xs. slice_get xs 0) first

  same_routines : begun.routines ≡ a.routines
  same_routines = accepts.routines ∙ ap (λ (x : Code). x.routines) cleared

  all_fit : AllFit body.routines body.ops 0 (length body.ops)
  all_fit k op low high found =
      elim (cases_eq k 0) [
        | inl here ↦
            (let same : accept ≡ op = same_Some accept op (sym at_first ∙ ap (slice_get body.ops) (sym here) ∙ found) in
            subst (λ o. Fits body.routines (length body.ops) k o) same tt)
        | inr other ↦ is.grown.fit k op (omega (arith, other, first_length)) high found
      ]

  is_routine : IsRoutine body.routines routine
  is_routine = record { entry = is.begins; fit = all_fit }

  routines : c.routines ≡ body.routines ++ routine ∷ []
  routines = ap (λ (x : Code). x.routines) stored

  ops : c.ops ≡ a.ops
  ops = ap (λ (x : Code). x.ops) stored

  stored_later : Extends body.routines c.routines
  stored_later = subst (λ rs. Extends body.routines rs) (sym routines) (Extends-push body.routines routine)

  at_index : slice_get c.routines i ≡ Some routine
  at_index =
      ap (slice_get c.routines) index ∙ ap (λ rs. slice_get rs (length body.routines)) routines ∙ get-append-last body.routines routine

  with_routine : Grown a c
  with_routine = record {
    routines = Extends-then a.routines body.routines c.routines (subst (λ rs. Extends rs body.routines) same_routines is.grown.routines) stored_later;
    ops = subst (λ os. Extends a.ops os) (sym ops) (Extends-same a.ops);
    fit = λ k op low high found. absurd (let same : length c.ops ≡ length a.ops = ap length ops in omega (arith, low, high, same));
    program = λ h.
        subst IsProgram (sym routines)
        (IsProgram-push body.routines routine (is.grown.program (subst IsProgram (sym same_routines) h)) is_routine);
    spent =
        let same : length c.ops ≡ length a.ops = ap length ops in
        let all : total c.routines ≡ total body.routines + length body.ops = ap total routines ∙ total-push body.routines routine in
        let all' : total begun.routines ≡ total a.routines = ap total same_routines in
        let left : c.left ≡ body.left = ap (λ (x : Code). x.left) stored in
        let left' : empty.left ≡ a.left = ap (λ (x : Code). x.left) cleared in
        omega (arith, same, all, all', left, left', is.grown.spent, accepts.left, first_length);
  }

  module _ (w : World c.routines) where
    abbrev outs : Out
    outs = w.outs i

    at_program : slice_get w.program i ≡ Some routine
    at_program = Extends-get c.routines w.program i routine w.extends at_index

    solved : Solved w d outs body.ops 0 (length body.ops)
    solved = record { solves = w.solution i routine at_program }

    ends : (s : At) → s.state.position ≤ length w.bytes → outs (goto 0 s) ≡ s.state ∷ []
    ends s inside =
        solved_at w d outs body.ops 0 (length body.ops) 0 accept solved (omega arith) (omega (arith, is.begins)) at_first s inside

    matches_body : (s : MatchState) → s.position ≤ length w.bytes →
        matcher_of w.setting w.bytes w.program w.outs i s ≡ f d w.setting w.bytes s
    matches_body s inside =
        let here : At = record { pc = 0; moved = true; state = s; begins = [] } in
        let later : Solved (earlier stored_later w) d outs body.ops (length begun.ops) (length body.ops) =
        record { solves = λ t from below within. solved.solves t (omega arith) below within } in
        ap (λ o. outs (start w.setting w.bytes o s)) at_program
        ∙ (is.means d (earlier stored_later w) outs later).goes here inside
        ∙ flat_map-agree (IsReached w.bytes d s) (λ to. outs (reach 0 here to)) (λ to. to ∷ []) (λ to r. ends (reach 0 here to) r.inside)
        (f d w.setting w.bytes s) ((is.stays d w.setting w.bytes).reached s inside)
        ∙ flat_map-stay (f d w.setting w.bytes s)

  pub has_routine : HasRoutine a c f d i
  has_routine = record {
    grown = with_routine;
    same = ops;
    last = ap length routines ∙ length-push body.routines routine ∙ (let n : length body.routines + 1 ≡ i + 1 = omega (arith, index) in n);
    routine = routine;
    at_index = at_index;
    direction = refl;
    means = λ w s inside. matches_body w s inside;
  }

-- ---- sets of strings

-- one string of a set
abbrev pub string : List ℕ → Bool → Tree
string s icase = leaf (string_set (s ∷ []) icase)

pub compiled_no_strings : (a b : Code) (icase : Bool) (next at : ℕ) → Pushed a b programs.fail at → Compiled a b (matching (strings [] icase)) next at
unfolding any_string
compiled_no_strings a b icase next at pushed = compiled_fail a b next at pushed

first_string : (d : Direction) (setting : Setting) (bytes : List ℕ) (s : List ℕ) (ss : List (List ℕ)) (icase : Bool) (m : MatchState) →
    (matching (string s icase) d setting bytes or_ matching (strings ss icase) d setting bytes) m ≡ matching (strings (s ∷ ss) icase) d setting bytes m
unfolding any_string
first_string d setting bytes s ss icase m =
    ap (λ xs. xs ++ any_string d (of_bytes bytes) (denotes setting.table icase setting.flags.unicode) ss m) (append-nil _)

pub compiled_strings : (a b c : Code) (s : List ℕ) (ss : List (List ℕ)) (icase : Bool) (next first second at : ℕ) →
    Compiled a b (matching (string s icase)) next first → Compiled a b (matching (strings ss icase)) next second → Pushed b c (split first second) at →
    Compiled a c (matching (strings (s ∷ ss) icase)) next at
compiled_strings a b c s ss icase next first second at left right pushed =
    compiled_same a c (λ d setting bytes. matching (string s icase) d setting bytes or_ matching (strings ss icase) d setting bytes)
    (matching (strings (s ∷ ss) icase)) next at (λ d setting bytes m inside. first_string d setting bytes s ss icase m)
    (compiled_or a b c (matching (string s icase)) (matching (strings ss icase)) next first second at left right pushed)
