-- Each kind of node as instructions: what they contain, and that they are tidy where it is.
use Rattle.std.proofs.Common.{◌≡◌, ◌≢◌, ℕ, zero, suc, ◌+◌, ◌-◌, ◌≤◌, ◌<◌, inl, inr, Bool, true, false, not, ◌&&◌, ◌||◌, ◌==◌, nat_le, nat_lt, List, [], ◌∷◌, ◌++◌, length, drop, get_or, slice_get, Some, if◌then◌else◌, refl, sym, ap, ap₂, subst, ◌∙◌, arith}
use Rattle.std.specs.List.{list_all, list_any}
use Rattle.std.proofs.lemmas.Bool.{and_from, cases_eq, cases_lt, eq-eqb, leb-true, le-leb, lt-ltb, ltb-true}
use Rattle.std.proofs.lemmas.List.{length-set}
use Rattle.std.proofs.lemmas.Option.{slice_get_within, same_Some}
use Rattle.regress_program.specs.declared.ranges.GroupRange.{GroupRange}
use Rattle.regress_program.specs.Adds.{IsRangeWithin, IsOf, IsRoutineOf, Adds, Agree, Tidies, Holds, HoldsRoutine}
use Rattle.regress_program.specs.Compiled.{Extends, Code, Grown}
use Rattle.regress_program.specs.Contents.{Ids, no_ids, union, ids_in, without_ids, AreAmong, AreWithin, AreSeparate, Contents, nothing, in_sequence, either_of, grouped, in_iteration, in_iterations, after_all, alone, in_lookaround, content, content_of_parts}
use Rattle.regress_program.specs.Linear.{changes_captures, is_back_ref, is_back_reference, is_capturing, is_capturing_lookaround, is_linear, is_linear_op}
use Rattle.regress_program.specs.Program.{Op, accept, fail, part, split, begin_loop, repeat, end_loop, unsets, begin_group, end_group, look, Routine}
use Rattle.regress_program.specs.Pushed.{Pushed, preferred}
use Rattle.regress_program.specs.Ranges.{changed_by, no_groups, ranges_of}
use Rattle.regress_program.specs.Tidy.{BeginsUnset, IsTidy, IsTidyFrom, IsTidyRoutine, followers, has_no_back_reference, range_at, set_after}
use Rattle.regress_program.proofs.AddLemmas.{is_of-part, is_routine-part, IsRoutinePart, routine-part, HasNoMore, IsPartOf, no_more-part, part-first, part-second, part-grouped, part-iteration, part-iterations, part-after, part-rest, adds-part, adds-none, adds-then, adds-push, adds-quiet, read-pushed, agree-first, agree-second, pushed-routines, pushed-ops, Longer, longer, longer-push}
use Rattle.regress_program.proofs.lemmas.Tidy.{among-same, among-left, among-right, among-union, among-then, among-both, among-apart, among-twice, among-without, and_left, and_right, or_none, tidy-fewer, tidy-less, tidy-one, tidy-both, tidy-two, tidy-none}
use Rattle.regress_program.proofs.ChangedLemmas.{range-within}
use Rattle.regress_program.proofs.CodeLemmas.{get-append-last, length-push, Extends-same, Extends-then, Extends-push, Extends-get, get-set-same, get-set-other}
use Rattle.regress_program.proofs.RepeatLemmas.{Written}
use Rattle.regress_program.proofs.ViewLemmas.{from_index}
use Rattle.regress_leaves.specs.Leaves.{has_one_outcome}
use Rattle.regress_prefilter.specs.OneCharacter.{takes_one}
use Rattle.regress_tree.specs.Tree.{empty, goal, char, byte_sequence, byte_set, char_set, match_any, match_any_except_line_terminator, anchor, word_boundary, bracket, back_ref, string_set, Tree, leaf, cat, alt, wrapped, tree, trees}
use Rattle.regress_tree.specs.declared.ir.node.Node.{Node}
use Rattle.regress_program.specs.Shape.{Fits, AllFit}

-- ---- more code, and a part with no more

pub tidies_later : (a b c : Code) (f : Contents) (next entry : ℕ) → Longer b c → Tidies a b f next entry → Tidies a c f next entry
tidies_later a b c f next entry more is = record {
  tidies = λ program ext ops agree.
      is.tidies program (Extends-then b.routines c.routines program more.routines ext) ops (agree-first a b c ops more.ops agree);
}

pub tidies_earlier : (a b c : Code) (f : Contents) (next entry : ℕ) → Grown a b → Tidies b c f next entry → Tidies a c f next entry
tidies_earlier a b c f next entry grown is = record {
  tidies = λ program ext ops agree. is.tidies program ext ops (agree-second a b c ops grown.ops agree);
}

pub tidies_less : (a b : Code) (f g : Contents) (next entry : ℕ) → HasNoMore f g → Tidies a b f next entry → Tidies a b g next entry
tidies_less a b f g next entry less is = record {
  tidies = λ program ext ops agree set tidy n after.
      is.tidies program ext ops agree set (less.tidy set tidy) n
      (tidy-less (ranges_of program) ops n next (union set f.changes) (union set g.changes)
      (among-both set f.changes set g.changes (among-same set) less.changes) after);
}

pub holds_less : (a b : Code) (f g : Contents) (next entry : ℕ) → HasNoMore f g → Holds a b f next entry → Holds a b g next entry
holds_less a b f g next entry less is = record {
  adds = adds-part a b f g (no_more-part f g less) is.adds;
  tidies = tidies_less a b f g next entry less is.tidies;
}

-- ---- nodes without a body

pub holds_nothing : (a : Code) (c : Contents) (next : ℕ) → Holds a a c next next
holds_nothing a c next = record {
  adds = adds-none a c;
  tidies = record {
    tidies = λ program ext ops agree set tidy n after.
        tidy-less (ranges_of program) ops n next set (union set c.changes) (among-left set c.changes) after;
  };
}

-- an instruction that changes no group
pub tidies_quiet : (a b c : Code) (f : Contents) (op : Op) (next at : ℕ) → Extends a.ops b.ops → Pushed b c op at → followers op ≡ next ∷ [] →
    ((ranges : List GroupRange) (set : Ids) → BeginsUnset ranges op set × (set_after ranges op set ≡ set)) → Tidies a c f next at
tidies_quiet a b c f op next at grown pushed follow quiet = record {
  tidies = λ program ext ops agree set tidy n after.
      let ranges = ranges_of program in
      tidy-one ranges ops n at next op set (read-pushed a b c op at ops grown pushed agree) follow (quiet ranges set).0
      (subst (λ s. IsTidyFrom ranges ops n next s) (sym (quiet ranges set).1)
      (tidy-less ranges ops n next set (union set f.changes) (among-left set f.changes) after));
}

pub holds_part : (a b : Code) (c : Contents) (t : Tree) (next at : ℕ) → (c.refers ≡ false → is_back_ref t ≡ false) → Pushed a b (part t next) at →
    Holds a b c next at
holds_part a b c t next at plain pushed = record {
  adds = adds-quiet a b (part t next) at c pushed plain (λ ranges. refl) (refl, λ program. refl);
  tidies = tidies_quiet a a b c (part t next) next at (Extends-same a.ops) pushed refl (λ ranges set. (tt, refl));
}

pub holds_fail : (a b : Code) (c : Contents) (next at : ℕ) → Pushed a b fail at → Holds a b c next at
holds_fail a b c next at pushed = record {
  adds = adds-quiet a b fail at c pushed (λ none. refl) (λ ranges. refl) (refl, λ program. refl);
  tidies = record {
    tidies = λ program ext ops agree set tidy n after.
        tidy-none (ranges_of program) ops n at fail set (read-pushed a a b fail at ops (Extends-same a.ops) pushed agree) refl tt;
  };
}

-- ---- two in sequence, and two alternatives

pub holds_then : (a b c : Code) (f g : Contents) (next middle entry : ℕ) → Grown a b → Grown b c → Holds a b g next middle → Holds b c f middle entry →
    Holds a c (in_sequence f g) next entry
holds_then a b c f g next middle entry grown more second first = record {
  adds = adds-then a b c (in_sequence f g) more.ops more.routines
      (adds-part a b g (in_sequence f g) (part-second f g) second.adds) (adds-part b c f (in_sequence f g) (part-first f g) first.adds);
  tidies = record {
    tidies = λ program ext ops agree set tidy n after.
        first.tidies.tidies program ext ops (agree-second a b c ops grown.ops agree) set tidy.0 n
        ((tidies_later a b c g next middle (longer b c more) second.tidies).tidies program ext ops agree (union set f.changes) tidy.1 n
        (tidy-less (ranges_of program) ops n next (union (union set f.changes) g.changes) (union set (union f.changes g.changes))
        (among-apart set f.changes g.changes) after));
  };
}

pub adds_split : (b c : Code) (f : Contents) (first second at : ℕ) → Pushed b c (split first second) at → Adds b c f
adds_split b c f first second at pushed = adds-quiet b c (split first second) at f pushed (λ none. refl) (λ ranges. refl) (refl, λ program. refl)

pub tidies_or : (a b c : Code) (f g : Contents) (next first second at : ℕ) → Longer a b → Tidies a b f next first → Tidies a b g next second →
    Pushed b c (split first second) at → Tidies a c (either_of f g) next at
tidies_or a b c f g next first second at grown left right pushed = record {
  tidies = λ program ext ops agree set tidy n after.
      let ranges = ranges_of program in
      let more = longer-push b c (split first second) at pushed in
      tidy-two ranges ops n at first second (split first second) set (read-pushed a b c (split first second) at ops grown.ops pushed agree) refl tt
      ((tidies_later a b c f next first more left).tidies program ext ops agree set tidy.0 n
      (tidy-less ranges ops n next (union set f.changes) (union set (union f.changes g.changes))
      (among-both set f.changes set (union f.changes g.changes) (among-same set) (among-left f.changes g.changes)) after))
      ((tidies_later a b c g next second more right).tidies program ext ops agree set tidy.1 n
      (tidy-less ranges ops n next (union set g.changes) (union set (union f.changes g.changes))
      (among-both set g.changes set (union f.changes g.changes) (among-same set) (among-right f.changes g.changes)) after));
}

-- ---- groups

group-within : (start end id : ℕ) (a : Ids) → AreWithin start end (union a (λ k. k == id)) → IsRangeWithin start end (record { start = id; end = id + 1 })
group-within start end id a within k is =
    let same : k ≡ id = omega (arith, is.0, is.1) in
    within k (among-right a (λ j. j == id) k (eq-eqb k id same))

pub holds_group : (a b c e : Code) (f : Contents) (id next ends contents at : ℕ) → Grown b c → Pushed a b (end_group id next) ends →
    Holds b c f ends contents → Pushed c e (begin_group contents) at → Holds a e (grouped id f) next at
holds_group a b c e f id next ends contents at grown end is begin =
    let whole = grouped id f in
    let ended = longer-push a b (end_group id next) ends end in
    let begun = longer-push c e (begin_group contents) at begin in
    record {
      adds = adds-then a c e whole begun.ops begun.routines
          (adds-then a b c whole grown.ops grown.routines
          (adds-push a b (end_group id next) ends whole end
          (record {
            plain = λ none. refl;
            within = λ program ext start end within. group-within start end id f.changes within;
            spares = λ none. cc;
            looks = λ none program more. refl;
          }))
          (adds-part b c f whole (part-grouped id f) is.adds))
          (adds-quiet c e (begin_group contents) at whole begin (λ none. refl) (λ ranges. refl) (refl, λ program. refl));
      tidies = record {
        tidies = λ program ext ops agree set tidy n after.
            let ranges = ranges_of program in
            let before = agree-first a c e ops begun.ops agree in
            let to_c = Extends-then c.routines e.routines program begun.routines ext in
            let ending = agree-first a b c ops grown.ops before in
            let own : Ids = λ k. k == id in
            tidy-one ranges ops n at contents (begin_group contents) set
            (read-pushed a c e (begin_group contents) at ops (Extends-then a.ops b.ops c.ops ended.ops grown.ops) begin agree) refl tt
            (is.tidies.tidies program to_c ops (agree-second a b c ops ended.ops before) set tidy n
            (tidy-one ranges ops n ends next (end_group id next) (union set f.changes)
            (read-pushed a a b (end_group id next) ends ops (Extends-same a.ops) end ending) refl tt
            (tidy-less ranges ops n next (union (union set f.changes) own) (union set (union f.changes own)) (among-apart set f.changes own) after)));
      };
    }

-- ---- one iteration

unset-within : (start end low high next : ℕ) (a : Ids) → AreWithin low high (union (ids_in start end) a) → (ranges : List GroupRange) →
    IsRangeWithin low high (changed_by ranges (unsets start end next))
unset-within start end low high next a within ranges = by (nat_lt start end) refl
  where
    by : (b : Bool) → nat_lt start end ≡ b → IsRangeWithin low high (if b then record { start = start; end = end } else no_groups)
    by true some = λ id is.
        within id (among-left (ids_in start end) a id (and_from (nat_le start id) (nat_lt id end) (le-leb start id is.0) (lt-ltb id end is.1)))
    by false none = λ id is. absurd (omega (arith, is.1))

pub holds_unset : (a b c : Code) (f : Contents) (start' end' next body at : ℕ) → Grown a b → Holds a b f next body →
    Pushed b c (unsets start' end' body) at → Holds a c (in_iteration start' end' f) next at
holds_unset a b c f start' end' next body at grown is pushed =
    let whole = in_iteration start' end' f in
    let op = unsets start' end' body in
    let more = longer-push b c op at pushed in
    record {
      adds = adds-then a b c whole more.ops more.routines (adds-part a b f whole (part-iteration start' end' f) is.adds)
          (adds-push b c op at whole pushed
          (record {
            plain = λ none. refl;
            within = λ program ext low high within. unset-within start' end' low high body f.changes within (ranges_of program);
            spares = λ none. (or_none (nat_lt start' end') f.captures none).0;
            looks = λ none program more'. refl;
          }));
      tidies = record {
        tidies = λ program ext ops agree set tidy n after.
            let ranges = ranges_of program in
            let less = without_ids start' end' set in
            let changes = union (ids_in start' end') f.changes in
            tidy-one ranges ops n at body op set (read-pushed a b c op at ops grown.ops pushed agree) refl tt
            ((tidies_later a b c f next body more is.tidies).tidies program ext ops agree less (tidy less (among-same less)) n
            (tidy-less ranges ops n next (union less f.changes) (union set changes)
            (among-both less f.changes set changes (among-without start' end' set) (among-right (ids_in start' end') f.changes)) after));
      };
    }

-- an iteration that unsets no group
no_ids_in : (start end : ℕ) → end ≤ start → (set : Ids) → AreAmong set (without_ids start end set)
no_ids_in start end none set id is = by (nat_le start id) (nat_lt id end) refl refl
  where
    by : (x y : Bool) → nat_le start id ≡ x → nat_lt id end ≡ y → (set id && not (x && y)) ≡ true
    by true true low high = absurd (omega (arith, leb-true start id low, ltb-true id end high, none))
    by true false low high = ap (λ b. b && true) is
    by false y low high = ap (λ b. b && true) is

pub less_without_groups : (f : Contents) (start' end' : ℕ) → end' ≤ start' → HasNoMore f (in_iteration start' end' f)
less_without_groups f start' end' none = record {
  refers = λ h. h;
  captures = λ h. (or_none (nat_lt start' end') f.captures h).1;
  looks = λ h. h;
  changes = among-right (ids_in start' end') f.changes;
  tidy = λ set tidy. tidy set (no_ids_in start' end' none set);
}

-- ---- optional iterations

-- what is left to do, and a part at its start where its own groups may be set
module _ (f : Contents) (set : Ids) where
  again : (before : Ids) → AreAmong before (union (union set f.changes) f.changes) → AreAmong before (union set f.changes)
  again before among = among-then before (union (union set f.changes) f.changes) (union set f.changes) among (among-twice set f.changes)

  tidy-again : (in_iterations f).tidy set → (in_iterations f).tidy (union set f.changes)
  tidy-again tidy before among = tidy before (again before among)

  tidy-now : (in_iterations f).tidy set → f.tidy set
  tidy-now tidy = tidy set (among-left set f.changes)

  tidy-next : (in_iterations f).tidy set → f.tidy (union set f.changes)
  tidy-next tidy = tidy (union set f.changes) (among-same (union set f.changes))

  tidy-twice : (ranges : List GroupRange) (ops : List Op) (n pc : ℕ) → IsTidyFrom ranges ops n pc (union set f.changes) →
      IsTidyFrom ranges ops n pc (union (union set f.changes) f.changes)
  tidy-twice ranges ops n pc is =
      tidy-less ranges ops n pc (union (union set f.changes) f.changes) (union set f.changes) (among-twice set f.changes) is

-- the last iteration that is allowed
pub holds_last : (a b c : Code) (f : Contents) (next last body : ℕ) → Grown b c → Pushed a b (end_loop next) last → Holds b c f last body →
    Holds a c (in_iterations f) next body
holds_last a b c f next last body more pushed is =
    let whole = in_iterations f in
    let grown = longer-push a b (end_loop next) last pushed in
    record {
      adds = adds-then a b c whole more.ops more.routines (adds-quiet a b (end_loop next) last whole pushed (λ none. refl) (λ ranges. refl) (refl, λ program. refl))
          (adds-part b c f whole (part-iterations f) is.adds);
      tidies = record {
        tidies = λ program ext ops agree set tidy n after.
            is.tidies.tidies program ext ops (agree-second a b c ops grown.ops agree) set (tidy-now f set tidy) n
            (tidy-one (ranges_of program) ops n last next (end_loop next) (union set f.changes)
            (read-pushed a a b (end_loop next) last ops (Extends-same a.ops) pushed (agree-first a b c ops more.ops agree)) refl tt after);
      };
    }

-- one more before it
pub holds_more : (a b c e : Code) (greedy : Bool) (f : Contents) (next body last body' : ℕ) → Grown a b → Grown c e →
    Holds a b (in_iterations f) next body → Pushed b c (repeat greedy body next) last → Holds c e f last body' → Holds a e (in_iterations f) next body'
holds_more a b c e greedy f next body last body' grown more so_far pushed is =
    let whole = in_iterations f in
    let op = repeat greedy body next in
    let extended = longer-push b c op last pushed in
    let to_c : Adds a c whole =
    adds-then a b c whole extended.ops extended.routines so_far.adds (adds-quiet b c op last whole pushed (λ none. refl) (λ ranges. refl) (refl, λ program. refl)) in
    record {
      adds = adds-then a c e whole more.ops more.routines to_c (adds-part c e f whole (part-iterations f) is.adds);
      tidies = record {
        tidies = λ program ext ops agree set tidy n after.
            let ranges = ranges_of program in
            let before = agree-first a c e ops more.ops agree in
            let to_e = Extends-then c.routines e.routines program more.routines ext in
            is.tidies.tidies program ext ops (agree-second a c e ops (Extends-then a.ops b.ops c.ops grown.ops extended.ops) agree) set (tidy-now f set tidy) n
            (tidy-two ranges ops n last body next op (union set f.changes) (read-pushed a b c op last ops grown.ops pushed before) refl tt
            ((tidies_later a b c whole next body extended so_far.tidies).tidies program to_e ops before (union set f.changes) (tidy-again f set tidy) n
            (tidy-twice f set ranges ops n next after))
            after);
      };
    }

-- the beginning of the loop
pub holds_optional : (a b c : Code) (greedy : Bool) (f : Contents) (next body at : ℕ) → Grown a b → Holds a b (in_iterations f) next body →
    Pushed b c (begin_loop greedy body next) at → Holds a c (in_iterations f) next at
holds_optional a b c greedy f next body at grown so_far pushed =
    let whole = in_iterations f in
    let op = begin_loop greedy body next in
    let more = longer-push b c op at pushed in
    record {
      adds = adds-then a b c whole more.ops more.routines so_far.adds (adds-quiet b c op at whole pushed (λ none. refl) (λ ranges. refl) (refl, λ program. refl));
      tidies = record {
        tidies = λ program ext ops agree set tidy n after.
            let ranges = ranges_of program in
            tidy-two ranges ops n at body next op set (read-pushed a b c op at ops grown.ops pushed agree) refl tt
            ((tidies_later a b c whole next body more so_far.tidies).tidies program ext ops agree set tidy n after)
            (tidy-less ranges ops n next set (union set f.changes) (among-left set f.changes) after);
      };
    }

-- ---- any number of optional iterations

module _ (a b c e g : Code) (greedy : Bool) (f : Contents) (next last body at : ℕ) (more : Grown b c) (holds : Pushed a b accept last)
    (is : Holds b c f last body) (written : Written c e last (repeat greedy body next)) (begun : Pushed e g (begin_loop greedy body next) at) where
  abbrev whole : Contents
  whole = in_iterations f

  abbrev again_op : Op
  again_op = repeat greedy body next

  count : length e.ops ≡ length c.ops
  count = ap length written.ops ∙ length-set c.ops last again_op

  first : length b.ops ≡ length a.ops + 1
  first = ap length holds.ops ∙ length-push a.ops accept

  rewritten : (i : ℕ) → i ≢ last → slice_get e.ops i ≡ slice_get c.ops i
  rewritten i other = ap (λ xs. slice_get xs i) written.ops ∙ get-set-other c.ops last i again_op other

  at_last : slice_get e.ops last ≡ Some again_op
  at_last =
      ap (λ xs. slice_get xs last) written.ops
      ∙ get-set-same c.ops last again_op (omega (arith, first, more.ops.grown, holds.at_end))

  body_routines : Extends c.routines e.routines
  body_routines = subst (λ rs. Extends c.routines rs) (sym written.routines) (Extends-same c.routines)

  adds-body : Adds a e whole
  adds-body = record {
    ops = λ i op low found. elim (cases_eq i last) [
      | inl here ↦
          (let same : again_op ≡ op = same_Some again_op op (sym at_last ∙ ap (slice_get e.ops) (sym here) ∙ found) in
          subst (λ o. IsOf e.routines whole o) same
          (record {
            plain = λ none. refl;
            within = λ program ext low' high' within id is'. absurd (omega (arith, is'.1));
            spares = λ none. refl;
            looks = λ none program more'. refl;
          }))
      | inr other ↦
          is_of-part c.routines e.routines f whole op body_routines (part-iterations f)
          (is.adds.ops i op (omega (arith, low, other, first, holds.at_end)) (sym (rewritten i other) ∙ found))
    ];
    routines = λ i r low found.
        is_routine-part c.routines e.routines f whole r body_routines (routine-part f whole (part-iterations f))
        (is.adds.routines i r (omega (arith, low, ap length holds.routines)) (ap (λ rs. slice_get rs i) (sym written.routines) ∙ found));
  }

  begun_routines : Extends e.routines g.routines
  begun_routines = pushed-routines e g (begin_loop greedy body next) at begun

  begun_ops : Extends e.ops g.ops
  begun_ops = subst (λ os. Extends e.ops os) (sym begun.ops) (Extends-push e.ops (begin_loop greedy body next))

  module _ (program : List Routine) (ext : Extends g.routines program) (ops : List Op) (agree : Agree (length a.ops) (length g.ops) g.ops ops) where
    before : Agree (length a.ops) (length e.ops) e.ops ops
    before = agree-first a e g ops begun_ops agree

    inner : Agree (length b.ops) (length c.ops) c.ops ops
    inner i low high =
        before i (omega (arith, low, first)) (omega (arith, high, count)) ∙ rewritten i (λ same. omega (arith, same, low, first, holds.at_end))

    to_c : Extends c.routines program
    to_c = Extends-then c.routines e.routines program body_routines (Extends-then e.routines g.routines program begun_routines ext)

    read_last : slice_get ops last ≡ Some again_op
    read_last = before last (omega (arith, holds.at_end)) (omega (arith, holds.at_end, first, count, more.ops.grown)) ∙ at_last

    continues : (set : Ids) → whole.tidy set → (n : ℕ) → IsTidyFrom (ranges_of program) ops n next (union set f.changes) →
        IsTidyFrom (ranges_of program) ops n last (union set f.changes)
    continues set tidy zero after = tt
    continues set tidy (suc n) after =
        let ranges = ranges_of program in
        let fewer = tidy-fewer ranges ops n next (union set f.changes) after in
        tidy-both ranges ops n last body next again_op (union set f.changes) read_last refl tt
        (is.tidies.tidies program to_c ops inner (union set f.changes) (tidy-next f set tidy) n
        (tidy-twice f set ranges ops n last (continues set tidy n fewer)))
        fewer

    begins : (set : Ids) → whole.tidy set → (n : ℕ) → IsTidyFrom (ranges_of program) ops n next (union set f.changes) →
        IsTidyFrom (ranges_of program) ops n at set
    begins set tidy n after =
        let ranges = ranges_of program in
        tidy-two ranges ops n at body next (begin_loop greedy body next) set
        (read-pushed a e g (begin_loop greedy body next) at ops
        (record {
          grown = omega (arith, first, more.ops.grown, count);
          same = λ i lt.
              rewritten i (λ same. omega (arith, same, lt, holds.at_end)) ∙ more.ops.same i (omega (arith, lt, first)) ∙ (pushed-ops a b accept last holds).same i lt;
        })
        begun agree)
        refl tt
        (is.tidies.tidies program to_c ops inner set (tidy-now f set tidy) n (continues set tidy n after))
        (tidy-less ranges ops n next set (union set f.changes) (among-left set f.changes) after)

  pub holds_any_number : Holds a g (in_iterations f) next at
  holds_any_number = record {
    adds = adds-then a e g whole begun_ops begun_routines adds-body
        (adds-quiet e g (begin_loop greedy body next) at whole begun (λ none. refl) (λ ranges. refl) (refl, λ program. refl));
    tidies = record { tidies = begins };
  }

-- ---- mandatory iterations, and loops

pub holds_no_mandatory : (a b : Code) (f g : Contents) (next entry : ℕ) → Holds a b g next entry → Holds a b (after_all f g) next entry
holds_no_mandatory a b f g next entry is =
    holds_less a b g (after_all f g) next entry
    (record {
      refers = (part-rest f g).refers;
      captures = (part-rest f g).captures;
      looks = (part-rest f g).looks;
      changes = among-right f.changes g.changes;
      tidy = λ set tidy. tidy.1 set (among-left set f.changes);
    })
    is

pub holds_mandatory : (a b c : Code) (f g : Contents) (next entry entry' : ℕ) → Grown a b → Grown b c → Holds a b (after_all f g) next entry →
    Holds b c f entry entry' → Holds a c (after_all f g) next entry'
holds_mandatory a b c f g next entry entry' grown more rest is =
    let whole = after_all f g in
    record {
      adds = adds-then a b c whole more.ops more.routines rest.adds (adds-part b c f whole (part-after f g) is.adds);
      tidies = record {
        tidies = λ program ext ops agree set tidy n after.
            let ranges = ranges_of program in
            let all = union f.changes g.changes in
            let some = union set f.changes in
            is.tidies.tidies program ext ops (agree-second a b c ops grown.ops agree) set (tidy.0 set (among-left set f.changes)) n
            ((tidies_later a b c whole next entry (longer b c more) rest.tidies).tidies program ext ops agree some
            ((λ before among. tidy.0 before (again f set before among)), (λ before among. tidy.1 before (again f set before among))) n
            (tidy-less ranges ops n next (union some all) (union set all)
            (among-union some all (union set all)
            (among-both set f.changes set all (among-same set) (among-left f.changes g.changes)) (among-right set all)) after));
      };
    }

pub holds_repeated : (a b : Code) (f : Contents) (next entry : ℕ) → Holds a b (after_all f (in_iterations f)) next entry → Holds a b (in_iterations f) next entry
holds_repeated a b f next entry is =
    holds_less a b (after_all f (in_iterations f)) (in_iterations f) next entry
    (record {
      refers = λ none. ap (λ b. b || f.refers) none ∙ none;
      captures = λ none. ap (λ b. b || f.captures) none ∙ none;
      looks = λ none. ap (λ b. b || f.looks) none ∙ none;
      changes = among-union f.changes f.changes f.changes (among-same f.changes) (among-same f.changes);
      tidy = λ set tidy. (
        tidy,
        (λ before among after-it more.
            tidy after-it
            (among-then after-it (union before f.changes) (union set f.changes) more
            (among-union before f.changes (union set f.changes) among (among-right set f.changes)))),
      );
    })
    is

-- ---- parts that contain nothing

pub nothing_more : (c : Contents) → HasNoMore nothing c
nothing_more c = record { refers = λ none. refl; captures = λ none. refl; looks = λ none. refl; changes = λ id is. cc; tidy = λ set tidy. tt }

pub holds_plain : (a b : Code) (c : Contents) (next entry : ℕ) → Holds a b nothing next entry → Holds a b c next entry
holds_plain a b c next entry is = holds_less a b nothing c next entry (nothing_more c) is

pub holds_plain_then : (a b c : Code) (next middle entry : ℕ) → Grown a b → Grown b c → Holds a b nothing next middle → Holds b c nothing middle entry →
    Holds a c nothing next entry
holds_plain_then a b c next middle entry grown more second first =
    holds_less a c (in_sequence nothing nothing) nothing next entry
    (record { refers = λ none. refl; captures = λ none. refl; looks = λ none. refl; changes = λ id is. is; tidy = λ set tidy. (tt, tt) })
    (holds_then a b c nothing nothing next middle entry grown more second first)

pub holds_plain_or : (a b c : Code) (next first second at : ℕ) → Longer a b → Adds a b nothing → Tidies a b nothing next first →
    Tidies a b nothing next second → Pushed b c (split first second) at → Holds a c nothing next at
holds_plain_or a b c next first second at grown adds left right pushed = record {
  adds = adds-then a b c nothing (pushed-ops b c (split first second) at pushed) (pushed-routines b c (split first second) at pushed) adds (adds_split b c nothing first second at pushed);
  tidies = tidies_less a c (either_of nothing nothing) nothing next at
      (record { refers = λ none. refl; captures = λ none. refl; looks = λ none. refl; changes = λ id is. is; tidy = λ set tidy. (tt, tt) })
      (tidies_or a b c nothing nothing next first second at grown left right pushed);
}

-- ---- lookarounds

pub holds_look : (a b c : Code) (f : Contents) (negate : Bool) (i next at : ℕ) → Grown a b → HoldsRoutine a b f i →
    Pushed b c (look negate i next) at → Holds a c (in_lookaround negate f) next at
holds_look a b c f negate i next at grown has pushed =
    let whole = in_lookaround negate f in
    let op = look negate i next in
    let in_body : IsRoutinePart (alone f) whole =
    record { refers = λ none. none; looks = λ none. (or_none (not negate && f.captures) f.looks none).1; tidy = λ set tidy. (set, tidy.0) } in
    let added : Adds a b whole = record {
      ops = λ k o low found. absurd (omega (arith, low, has.count, slice_get_within b.ops k o found));
      routines = λ j r low found. is_routine-part b.routines b.routines (alone f) whole r (Extends-same b.routines) in_body (has.routines j r low found);
    } in
    record {
      adds = adds-then a b c whole more.ops more.routines added (adds-push b c op at whole pushed (record {
        plain = λ none. refl;
        within = λ program ext low high within. range negate program (Extends-then b.routines c.routines program more.routines ext) low high within;
        spares = λ none. refl;
        looks = λ none program ext.
            plain_look negate (or_none (not negate && f.captures) f.looks none).0 program (Extends-then b.routines c.routines program more.routines ext);
      }));
      tidies = record { tidies = λ program ext ops agree set tidy n after. looks negate program ext ops (read-pushed a b c (look negate i next) at ops grown.ops pushed agree) set tidy.1 n after };
    }
  where
    more : Longer b c
    more = longer-push b c (look negate i next) at pushed

    range : (negate : Bool) (program : List Routine) → Extends b.routines program → (low high : ℕ) → AreWithin low high f.changes →
        IsRangeWithin low high (changed_by (ranges_of program) (look negate i next))
    range true program ext low high within = λ id is. absurd (omega (arith, is.1))
    range false program ext low high within = has.within program ext low high within

    plain_look : (negate : Bool) → (not negate && f.captures) ≡ false → (program : List Routine) → Extends b.routines program →
        is_capturing_lookaround program (look negate i next) ≡ false
    plain_look true none program ext = refl
    plain_look false none program ext = has.spares none program ext

    looks : (negate : Bool) (program : List Routine) → Extends c.routines program → (ops : List Op) → slice_get ops at ≡ Some (look negate i next) →
        (set : Ids) → AreSeparate f.changes set → (n : ℕ) → IsTidyFrom (ranges_of program) ops n next (union set f.changes) →
        IsTidyFrom (ranges_of program) ops n at set
    looks true program ext ops here set apart n after =
        tidy-one (ranges_of program) ops n at next (look true i next) set here refl tt
        (tidy-less (ranges_of program) ops n next set (union set f.changes) (among-left set f.changes) after)
    looks false program ext ops here set apart n after =
        let ranges = ranges_of program in
        let range = range_at ranges i in
        let own = ids_in range.start range.end in
        let inside : IsRangeWithin apart.start apart.end range =
        has.within program (Extends-then b.routines c.routines program more.routines ext) apart.start apart.end apart.within in
        let among : AreAmong own f.changes = λ id is.
        let from = leb-true range.start id (and_left (nat_le range.start id) (nat_lt id range.end) is) in
        let to = ltb-true id range.end (and_right (nat_le range.start id) (nat_lt id range.end) is) in
        let both = inside id (from, to) in
        apart.whole id both.0 both.1 in
        tidy-one ranges ops n at next (look false i next) set here refl
        (λ id within. let both = inside id within in apart.free id both.0 both.1)
        (tidy-less ranges ops n next (union set own) (union set f.changes) (among-both set own set f.changes (among-same set) among) after)

-- ---- routines

none_from : {X : Type 0} (p : X → Bool) (xs : List X) → ((i : ℕ) (x : X) → slice_get xs i ≡ Some x → p x ≡ false) → list_any p xs ≡ false
none_from p [] each = refl
none_from p (x ∷ xs) each = ap₂ ◌||◌ (each 0 x refl) (none_from p xs (λ i y is. each (suc i) y is))

-- A routine of its own: `empty` has no instructions, `begun` the one that accepts, and `body` the compiled body.
module _ (a empty begun body c : Code) (f : Contents) (r : Routine) (at i : ℕ) (grown : Grown begun body)
    (cleared : empty ≡ record a { ops = [] }) (accepts : Pushed empty begun accept at) (is : Holds begun body f 0 r.entry)
    (routines : c.routines ≡ body.routines ++ r ∷ []) (same_ops : c.ops ≡ a.ops) (own : r.ops ≡ body.ops) (index : i ≡ length body.routines) where
  begins_with : begun.ops ≡ accept ∷ []
  begins_with = accepts.ops ∙ ap (λ (x : Code). x.ops ++ accept ∷ []) cleared

  begins_length : length begun.ops ≡ 1
  begins_length = ap length begins_with

  first_op : slice_get r.ops 0 ≡ Some accept
  first_op = ap (λ os. slice_get os 0) own ∙ grown.ops.same 0 (omega (arith, begins_length)) ∙ ap (λ xs. slice_get xs 0) begins_with

  old_routines : begun.routines ≡ a.routines
  old_routines = accepts.routines ∙ ap (λ (x : Code). x.routines) cleared

  stored : Extends body.routines c.routines
  stored = subst (λ rs. Extends body.routines rs) (sym routines) (Extends-push body.routines r)

  each_op : (k : ℕ) (op : Op) → slice_get r.ops k ≡ Some op → IsOf body.routines f op
  each_op k op found = elim (cases_eq k 0) [
    | inl here ↦
        (let same : accept ≡ op = same_Some accept op (sym first_op ∙ ap (slice_get r.ops) (sym here) ∙ found) in
        subst (λ o. IsOf body.routines f o) same
        (record {
          plain = λ none. refl;
          within = λ program ext low high within id is'. absurd (omega (arith, is'.1));
          spares = λ none. refl;
          looks = λ none program more'. refl;
        }))
    | inr other ↦ is.adds.ops k op (omega (arith, other, begins_length)) (ap (λ os. slice_get os k) (sym own) ∙ found)
  ]

  tidy_routine : f.tidy no_ids → (program : List Routine) → Extends c.routines program → IsTidyRoutine (ranges_of program) r
  tidy_routine tidy program ext n =
      is.tidies.tidies program (Extends-then body.routines c.routines program stored ext) r.ops
      (λ k low high. ap (λ os. slice_get os k) own) no_ids tidy n
      (tidy-none (ranges_of program) r.ops n 0 accept (union no_ids f.changes) first_op refl tt)

  at_index : slice_get c.routines i ≡ Some r
  at_index = ap (slice_get c.routines) index ∙ ap (λ rs. slice_get rs (length body.routines)) routines ∙ get-append-last body.routines r

  all_fit : AllFit body.routines r.ops 0 (length r.ops)
  all_fit k op low high found = elim (cases_eq k 0) [
    | inl here ↦
        (let same : accept ≡ op = same_Some accept op (sym first_op ∙ ap (slice_get r.ops) (sym here) ∙ found) in
        subst (λ o. Fits body.routines (length r.ops) k o) same tt)
    | inr other ↦
        (let count : length r.ops ≡ length body.ops = ap length own in
        subst (λ n. Fits body.routines n k op) (sym count)
        (grown.fit k op (omega (arith, other, begins_length)) (omega (arith, high, count)) (ap (λ os. slice_get os k) (sym own) ∙ found)))
  ]

  pub holds_routine : HoldsRoutine a c f i
  holds_routine = record {
    count = ap length same_ops;
    routines = λ k q low found. elim (cases_lt k (length body.routines)) [
      | inl before ↦
          is_routine-part body.routines c.routines f (alone f) q stored
          (record { refers = λ none. none; looks = λ none. none; tidy = λ set tidy. (no_ids, tidy) })
          (is.adds.routines k q (omega (arith, low, ap length old_routines)) (sym (stored.same k before) ∙ found))
      | inr past ↦
          (let long : length c.routines ≡ length body.routines + 1 = ap length routines ∙ length-push body.routines r in
          let here : k ≡ i = omega (arith, past, index, long, slice_get_within c.routines k q found) in
          let same : r ≡ q = same_Some r q (sym at_index ∙ ap (slice_get c.routines) (sym here) ∙ found) in
          subst (λ x. IsRoutineOf c.routines (alone f) x) same (record {
            plain = λ none j op found'. (each_op j op found').plain none;
            tidy = λ set tidy program ext. tidy_routine tidy program ext;
            looks = λ none program ext j op found'.
                (each_op j op found').looks none program (Extends-then body.routines c.routines program stored ext);
          }))
    ];
    within = λ program ext low high within.
        range-within program body.routines i r (Extends-get c.routines program i r ext at_index) (omega (arith, index)) all_fit low high
        (λ pc op found. (each_op pc op found).within program (Extends-then body.routines c.routines program stored ext) low high within);
    spares = λ none program ext.
        ap is_capturing (Extends-get c.routines program i r ext at_index) ∙ none_from changes_captures r.ops (λ k op found. (each_op k op found).spares none);
  }

-- ---- leaves and characters

pub plain_leaf : (t : Tree) → has_one_outcome t ≡ true → (content t).refers ≡ false → is_back_ref t ≡ false
plain_leaf (leaf empty) is none = refl
plain_leaf (leaf goal) is none = refl
plain_leaf (leaf (char c)) is none = refl
plain_leaf (leaf (byte_sequence bytes)) is none = refl
plain_leaf (leaf (byte_set members)) is none = refl
plain_leaf (leaf (char_set members)) is none = refl
plain_leaf (leaf match_any) is none = refl
plain_leaf (leaf match_any_except_line_terminator) is none = refl
plain_leaf (leaf (anchor kind multiline)) is none = refl
plain_leaf (leaf (word_boundary invert unicode_icase)) is none = refl
plain_leaf (leaf (bracket invert intervals)) is none = refl
plain_leaf (leaf (back_ref group icase)) is none = none
plain_leaf (leaf (string_set ss icase)) is none = refl
plain_leaf (cat parts) is none = refl
plain_leaf (alt left right) is none = refl
plain_leaf (wrapped w body) is none = refl

pub plain_one : (t : Tree) → takes_one t ≡ true → is_back_ref t ≡ false
plain_one (leaf empty) is = refl
plain_one (leaf goal) is = refl
plain_one (leaf (char c)) is = refl
plain_one (leaf (byte_sequence bytes)) is = refl
plain_one (leaf (byte_set members)) is = refl
plain_one (leaf (char_set members)) is = refl
plain_one (leaf match_any) is = refl
plain_one (leaf match_any_except_line_terminator) is = refl
plain_one (leaf (anchor kind multiline)) is = refl
plain_one (leaf (word_boundary invert unicode_icase)) is = refl
plain_one (leaf (bracket invert intervals)) is = refl
plain_one (leaf (back_ref group icase)) is = cc
plain_one (leaf (string_set ss icase)) is = refl
plain_one (cat parts) is = refl
plain_one (alt left right) is = refl
plain_one (wrapped w body) is = refl

-- some characters before the rest, or something else
pub holds_preferred : (a b c e : Code) (greedy : Bool) (next rest first other at : ℕ) → Grown a b → Grown b c → Holds a b nothing next rest →
    Holds b c nothing rest first → Tidies a b nothing next other → Pushed c e (preferred greedy first other) at → Holds a e nothing next at
holds_preferred a b c e greedy next rest first other at grown more is characters else_is pushed =
    let both = holds_plain_then a b c next rest first grown more is characters in
    let all : Longer a c = record { ops = Extends-then a.ops b.ops c.ops grown.ops more.ops; routines = Extends-then a.routines b.routines c.routines grown.routines more.routines } in
    let later = tidies_later a b c nothing next other (longer b c more) else_is in
    by greedy all both later pushed
  where
    by : (g : Bool) → Longer a c → Holds a c nothing next first → Tidies a c nothing next other → Pushed c e (preferred g first other) at → Holds a e nothing next at
    by true all both later pushed' = holds_plain_or a c e next first other at all both.adds both.tidies later pushed'
    by false all both later pushed' = holds_plain_or a c e next other first at all both.adds later both.tidies pushed'

-- characters before a loop
pub holds_counted : (a b c : Code) (f : Contents) (next rest at : ℕ) → Grown a b → Grown b c → Holds a b (in_iterations f) next rest →
    Holds b c nothing rest at → Holds a c (in_iterations f) next at
holds_counted a b c f next rest at grown more is characters =
    holds_less a c (in_sequence nothing (in_iterations f)) (in_iterations f) next at
    (record {
      refers = λ none. none;
      captures = λ none. none;
      looks = λ none. none;
      changes = λ id changed. changed;
      tidy = λ set tidy. (
        tt,
        λ before among.
            tidy before (λ id one. among-union (union set no_ids) f.changes (union set f.changes)
            (among-union set no_ids (union set f.changes) (among-left set f.changes) (λ k none. cc)) (among-right set f.changes) id (among id one)),
      );
    })
    (holds_then a b c nothing (in_iterations f) next rest at grown more is characters)

-- ---- sequences

pub holds_sequence : (a b c : Code) (parts : List Node) (i j : ℕ) (x : Node) (next entry entry' : ℕ) → Grown a b → Grown b c → j ≡ i - 1 → 0 < i →
    i ≤ length parts → x ≡ get_or parts j x → Holds a b (content_of_parts (trees (drop i parts))) next entry → Holds b c (content (tree x)) entry entry' →
    Holds a c (content_of_parts (trees (drop j parts))) next entry'
holds_sequence a b c parts i j x next entry entry' grown more at some within is rest first =
    subst (λ xs. Holds a c (content_of_parts (trees xs)) next entry') (sym (from_index parts i j x at some within is))
    (holds_then a b c (content (tree x)) (content_of_parts (trees (drop i parts))) next entry entry' grown more rest first)

pub part-then : (a b c : Contents) → IsPartOf a b → IsPartOf b c → IsPartOf a c
part-then a b c one two = record {
  refers = λ none. one.refers (two.refers none);
  captures = λ none. one.captures (two.captures none);
  looks = λ none. one.looks (two.looks none);
  changes = among-then a.changes b.changes c.changes one.changes two.changes;
  tidy = λ set tidy. let before = two.tidy set tidy in one.tidy before.0 before.1;
}

-- ---- programs

all_from : {X : Type 0} (p : X → Bool) (xs : List X) → ((i : ℕ) (x : X) → slice_get xs i ≡ Some x → p x ≡ true) → list_all p xs ≡ true
all_from p [] each = refl
all_from p (x ∷ xs) each = and_from (p x) (list_all p xs) (each 0 x refl) (all_from p xs (λ i y is. each (suc i) y is))

module _ (a b : Code) (c : Contents) (i : ℕ) (none : a.routines ≡ []) (has : HoldsRoutine a b c i) where
  each_routine : (j : ℕ) (r : Routine) → slice_get b.routines j ≡ Some r → IsRoutineOf b.routines (alone c) r
  each_routine j r is = has.routines j r (omega (arith, ap length none)) is

  pub program_tidy : c.tidy no_ids → IsTidy b.routines
  program_tidy tidy j r is = (each_routine j r is).tidy no_ids tidy b.routines (Extends-same b.routines)

  each_plain : c.refers ≡ false → (j : ℕ) (r : Routine) → slice_get b.routines j ≡ Some r → (k : ℕ) (op : Op) → slice_get r.ops k ≡ Some op →
      not (is_back_reference op) ≡ true
  each_plain plain j r is k op found = ap not ((each_routine j r is).plain plain k op found)

  pub program_plain : c.refers ≡ false → has_no_back_reference b.routines ≡ true
  program_plain plain =
      all_from (λ (r : Routine). list_all (λ op. not (is_back_reference op)) r.ops) b.routines
      (λ j r is. all_from (λ op. not (is_back_reference op)) r.ops (each_plain plain j r is))

  pub program_linear : c.refers ≡ false → c.looks ≡ false → is_linear b.routines ≡ true
  program_linear plain spared =
      all_from (λ (r : Routine). list_all (is_linear_op b.routines) r.ops) b.routines
      (λ j r is. all_from (is_linear_op b.routines) r.ops
      (λ k op found.
      and_from (not (is_back_reference op)) (not (is_capturing_lookaround b.routines op)) (each_plain plain j r is k op found)
      (ap not ((each_routine j r is).looks spared b.routines (Extends-same b.routines) k op found))))
