-- What is known of the first instructions is known of all.
use Rattle.std.proofs.Common.{◌≡◌, ℕ, ◌+◌, ◌-◌, ◌<◌, Bool, true, List, length, Option, Some, None, option_and_then, option_map, slice_get, refl, sym, ap, ◌∙◌, subst, arith}
use Rattle.std.proofs.lemmas.List.{length-map}
use Rattle.std.proofs.lemmas.Option.{slice_get-map, slice_get_within}
use Rattle.regress_tree.specs.Reading.{Direction}
use Rattle.regress_leaves.specs.declared.test.Test.{Test}
use Rattle.regress_program.specs.Listed.{Begins}
use Rattle.regress_program.specs.Program.{outcomes_at}
use Rattle.regress_program.specs.Views.{op_in, ops_in}
use Rattle.regress_program.specs.declared.instruction.Instruction.{Instruction}
use Rattle.regress_code.specs.declared.next_bytes.Body.{Body}
use Rattle.regress_code.specs.declared.next_bytes.NextBytes.{NextBytes}
use Rattle.regress_code.specs.declared.rows.Row.{Row}
use Rattle.regress_code.specs.declared.skips.Skip.{Skip}
use Rattle.regress_code.specs.Choices.{preferred}
use Rattle.regress_code.specs.NextBytes.{AreNextBytesOf}
use Rattle.regress_code.specs.Possessive.{ArePossessive}
use Rattle.regress_code.specs.Rows.{AreRows, IsBegun, first_leaf, leaf_of}
use Rattle.regress_code.specs.Skips.{AreSkips, is_skipped}

module _ (first all : List Instruction) (begins : Begins first all) where
  -- an instruction that is skipped is among the first ones if it is read there
  is_first : (next_bytes : List NextBytes) (b pc : ℕ) (o : Option Instruction) → slice_get first pc ≡ o → is_skipped next_bytes b pc o ≡ true →
      pc < length first
  is_first next_bytes b pc None read skipped = cc
  is_first next_bytes b pc (Some i) read skipped = slice_get_within first pc i read

  -- a leaf with which a choice among them begins
  same_leaf : (folds : Bool) (leaves : List Test) (string : List ℕ) (pc : ℕ) (o : Option Instruction) → slice_get first pc ≡ o → IsBegun folds string (leaf_of leaves o) →
      o ≡ slice_get all pc
  same_leaf folds leaves string pc None read begun = absurd begun
  same_leaf folds leaves string pc (Some i) read begun = sym read ∙ sym (begins.same pc (slice_get_within first pc i read))

  same_from : (folds : Bool) (leaves : List Test) (string : List ℕ) (o : Option ℕ) →
      IsBegun folds string (option_and_then (λ k. leaf_of leaves (slice_get first k)) o) →
      option_and_then (λ k. leaf_of leaves (slice_get first k)) o ≡ option_and_then (λ k. leaf_of leaves (slice_get all k)) o
  same_from folds leaves string None begun = absurd begun
  same_from folds leaves string (Some k) begun = ap (leaf_of leaves) (same_leaf folds leaves string k (slice_get first k) refl begun)

  same_choice : (folds : Bool) (leaves : List Test) (string : List ℕ) (pc : ℕ) (o : Option Instruction) → slice_get first pc ≡ o →
      IsBegun folds string (option_and_then (λ k. leaf_of leaves (slice_get first k)) (preferred pc o)) → o ≡ slice_get all pc
  same_choice folds leaves string pc None read begun = absurd begun
  same_choice folds leaves string pc (Some i) read begun = sym read ∙ sym (begins.same pc (slice_get_within first pc i read))

  same_first_leaf : (folds : Bool) (leaves : List Test) (pc : ℕ) (string : List ℕ) → IsBegun folds string (first_leaf leaves first pc) →
      first_leaf leaves first pc ≡ first_leaf leaves all pc
  same_first_leaf folds leaves pc string begun =
      same_from folds leaves string (preferred pc (slice_get first pc)) begun
      ∙ ap (λ o. option_and_then (λ k. leaf_of leaves (slice_get all k)) (preferred pc o)) (same_choice folds leaves string pc (slice_get first pc) refl begun)

  -- the next bytes
  pub all_next_bytes : (folds : Bool) (bodies : List Body) (next_bytes : List NextBytes) (d : Direction) (leaves : List Test) →
      AreNextBytesOf folds bodies next_bytes d (ops_in leaves first) → AreNextBytesOf folds bodies next_bytes d (ops_in leaves all)
  all_next_bytes folds bodies next_bytes d leaves are = λ setting folded text body_of out are_bodies solves.
      are setting folded text body_of out are_bodies
      (λ a low high inside.
      let lt : a.pc < length first = omega (arith, high, length-map first (op_in leaves)) in
      let same : slice_get (ops_in leaves all) a.pc ≡ slice_get (ops_in leaves first) a.pc =
      slice_get-map (op_in leaves) all a.pc ∙ ap (option_map (op_in leaves)) (begins.same a.pc lt) ∙ sym (slice_get-map (op_in leaves) first a.pc) in
      solves a low (omega (arith, lt, begins.within, length-map all (op_in leaves))) inside
      ∙ ap (λ o. outcomes_at setting text d body_of out o a) same)

  -- the skips
  pub all_skips : (skips : List Skip) (next_bytes : List NextBytes) → AreSkips skips next_bytes first → AreSkips skips next_bytes all
  all_skips skips next_bytes are = λ pc p is b n counted j lt.
      let skipped = are pc p is b n counted j lt in
      subst (λ o. is_skipped next_bytes b (pc - j) o ≡ true)
      (sym (begins.same (pc - j) (is_first next_bytes b (pc - j) (slice_get first (pc - j)) refl skipped))) skipped

  -- the rows
  pub all_rows : (folds : Bool) (rows : List Row) (leaves : List Test) (backwards : Bool) → AreRows folds rows leaves first backwards → AreRows folds rows leaves all backwards
  all_rows folds rows leaves backwards are = λ i row is.
      let one = are i row is in
      record {
        forwards = one.forwards;
        choices = λ k string at. subst (IsBegun folds string) (same_first_leaf folds leaves (row.lowest + k) string (one.choices k string at)) (one.choices k string at);
      }

  -- the loops that are possessive
  pub all_possessive : (possessive : List Bool) (next_bytes : List NextBytes) (leaves : List Test) →
      ArePossessive possessive next_bytes leaves first → ArePossessive possessive next_bytes leaves all
  all_possessive possessive next_bytes leaves are = λ pc here.
      let is = are pc here in
      let same : slice_get first pc ≡ slice_get all pc = sym (begins.same pc is.inside) in
      record {
        inside = omega (arith, is.inside, begins.within);
        body = λ body next ends. omega (arith, is.body body next (same ∙ ends), begins.within);
        excludes = λ next set loop.
            let ends = same ∙ loop.is in
            is.excludes next set (record {
              body = loop.body;
              is = ends;
              character = record {
                leaf = loop.character.leaf;
                test = loop.character.test;
                is = sym (begins.same loop.body (is.body loop.body next ends)) ∙ loop.character.is;
                is_test = loop.character.is_test;
                starts = loop.character.starts;
              };
            });
      }
