-- ECMA-262, 22.2.2.2 CompilePattern, 22.2.2.3 CompileSubpattern and 22.2.2.5 CompileQuantifier. Numbers in comments are
-- those of the clause's steps.
use Rattle.std.specs.Prelude.{ℕ, ◌+◌, List, length, Option, Some, None, slice_set}
use Rattle.std.proofs.Math.ListN.{replicate}
use Rattle.regress_base.specs.Table.{Table}
use Rattle.regress_base.specs.declared.types.Flags.{Flags}
use Rattle.regress_base.specs.declared.types.Quantifier.{Quantifier}
use Rattle.regress_tree.specs.Reading.{Direction, forwards, backwards}
use Rattle.regress_syntax.specs.Syntax.{Name, Group, grouping, modified, capture, look, Pattern, Terms, Item, one, either, no_terms, more_terms, atom, group, opened_by, counts_of_item, counts_of_terms, counts_of_term, names, direction_of_group}
use Rattle.regress_ecma.specs.Notation.{CaptureRange, MatchResult, Matcher}
use Rattle.regress_ecma.specs.Characters.{update_modifiers}
use Rattle.regress_ecma.specs.Repetition.{repeat_matcher, empty_matcher, match_two_alternatives, match_sequence}
use Rattle.regress_ecma.specs.Assertions.{accept, compile_lookaround}
use Rattle.regress_ecma.specs.Atoms.{compile_atom}

-- 22.2.2.3 CompileSubpattern, Term with a Quantifier, by the matcher of its atom
abbrev pub quantified : (fuel : ℕ) → (paren_index paren_count : ℕ) → Option Quantifier → Matcher → Matcher
quantified fuel paren_index paren_count None m x c = m x c
-- 4 to 6 of Atom Quantifier
quantified fuel paren_index paren_count (Some q) m x c =
    repeat_matcher (q.min + fuel) m q.min q.max q.greedy x c paren_index paren_count

-- steps 3.c.vi and 3.c.vii of a capture group in 22.2.2.7 CompileAtom: the range between two indices, the first of which
-- was reached earlier
abbrev pub range_between : Direction → (xe ye : ℕ) → CaptureRange
range_between forwards xe ye = (xe, ye)
range_between backwards xe ye = (ye, xe)

-- 22.2.2.7 CompileAtom, a capture group, by the matcher of what is inside. Its number is paren_index + 1.
abbrev pub compile_capture : (paren_index : ℕ) → Direction → Matcher → Matcher
compile_capture paren_index d m x c =
    -- 3.d
    m x (λ y.
    -- 3.c.viii to 3.c.x
    c (record y { captures = slice_set y.captures paren_index (Some (range_between d x.end_index y.end_index)) }))

-- 22.2.2.7 CompileAtom and 22.2.2.4 CompileAssertion: a group or lookaround, by the matcher of what is inside
abbrev pub compile_group : (paren_index : ℕ) → Direction → Group → Matcher → Matcher
compile_group paren_index d grouping m = m
compile_group paren_index d (modified change) m = m
compile_group paren_index d (capture name) m = compile_capture paren_index d m
compile_group paren_index d (look negate direction) m = compile_lookaround negate m

-- the flags inside a group
abbrev pub flags_inside : Group → Flags → Flags
flags_inside grouping rer = rer
flags_inside (modified change) rer = update_modifiers rer change
flags_inside (capture name) rer = rer
flags_inside (look negate direction) rer = rer

module _ (table : Table) (names : List (Option Name)) (fuel : ℕ) where
  -- 22.2.2.3 CompileSubpattern. The number is that of the groups to the left (22.2.1.2 CountLeftCapturingParensBefore). The
  -- terms of an alternative nest to the right.
  abbrev mutual
    pub compile_disjunction : Flags → Direction → (paren_index : ℕ) → Pattern → Matcher
    compile_disjunction rer d n (one ts) = compile_alternative rer d n ts
    -- 1 to 3 of Alternative | Disjunction
    compile_disjunction rer d n (either ts p) =
        match_two_alternatives (compile_alternative rer d n ts) (compile_disjunction rer d (n + (counts_of_terms ts).groups) p)

    pub compile_alternative : Flags → Direction → (paren_index : ℕ) → Terms → Matcher
    -- 1 of the empty Alternative
    compile_alternative rer d n no_terms = empty_matcher
    -- 1 to 3 of Alternative Term; 1 of Term, and 1 to 6 of Atom Quantifier
    compile_alternative rer d n (more_terms x q ts) =
        match_sequence (quantified fuel n (counts_of_item x).groups q (compile_term rer d n x))
        (compile_alternative rer d (n + (counts_of_term x q).groups) ts) d

    pub compile_term : Flags → Direction → (paren_index : ℕ) → Item → Matcher
    compile_term rer d n (atom a) = compile_atom table names rer d a
    compile_term rer d n (group kind p) =
        compile_group n d kind
        (compile_disjunction (flags_inside kind rer) (direction_of_group kind d) (n + opened_by kind) p)

-- 22.2.2.2 CompilePattern: the match at an index
abbrev pub compile_pattern : (fuel : ℕ) → Table → Flags → Pattern → (input : List ℕ) → (index : ℕ) → MatchResult
-- 1, and 2.c to 2.f
compile_pattern fuel table rer p input index =
    compile_disjunction table (names p) fuel rer forwards 0 p
    (record { input = input; end_index = index; captures = replicate (length (names p)) None }) accept
