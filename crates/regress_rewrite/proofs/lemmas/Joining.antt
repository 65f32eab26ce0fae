-- Joining the bytes of two parts, with none between them, obeys the law and makes the list less.
use Rattle.std.proofs.Common.{◌≡◌, ◌≢◌, ℕ, zero, suc, ◌+◌, true, ◌||◌, List, [], ◌∷◌, ◌++◌, flat_map, length, refl, sym, ap, ap₂, ◌∙◌, append-nil, arith, length-append}
use Rattle.std.specs.Prelude.{encode_utf8_all}
use Rattle.std.specs.Char.{IsScalar}
use Rattle.std.proofs.lemmas.Bool.{false≢true}
use Rattle.std.proofs.lemmas.List.Elements.{All-append, All-nil}
use Rattle.std.proofs.lemmas.Str.{encodes-append}
use mathlib.Core.Path.{fun_ext}
use Rattle.regress_tree.specs.Reading.{Direction, forwards, backwards}
use Rattle.regress_tree.specs.Steps.{MatchState, ◌then_◌, these_bytes, Setting}
use Rattle.regress_tree.specs.Tree.{byte_sequence, Tree, Trees, leaf, cat, no_trees, more_trees, append_trees, copies}
use Rattle.regress_tree.specs.Matching.{steps_of_parts}
use Rattle.regress_tree.specs.WellFormed.{Position, inside, last_of, AreUtf8, PartsAllowed, captures_of_trees}
use Rattle.regress_tree.specs.Measures.{Measure, total_in_list}
use Rattle.regress_tree.specs.Units.{sizes, unrollables, weights, weight_of_leaf, IsLess}
use Rattle.regress_tree.specs.Shapes.{some_node_in_list, has_bytes, is_simplified_away}
use Rattle.regress_tree.proofs.lemmas.Alike.{Alike-from_same}
use Rattle.regress_tree.proofs.lemmas.Outcomes.{flat_map-then}
use Rattle.regress_tree.proofs.lemmas.Measures.{some_node-append, total-append, IsLess-lighter}
use Rattle.regress_tree.proofs.lemmas.Positions.{AsOneCharacter-free, last_of-free}
use Rattle.regress_tree.proofs.lemmas.Lists.{steps-append, captures-append}
use Rattle.regress_tree.proofs.lemmas.ByteSequences.{these_bytes-none, these_bytes-append, these_bytes_before-append}
use Rattle.regress_rewrite.specs.Law.{Keeps}
use Rattle.regress_rewrite.proofs.LeafLemmas.{weight-bytes}
use Rattle.regress_rewrite.specs.Formed.{joined, bytes_of}

abbrev pub written : List ℕ → Tree
written bytes = leaf (byte_sequence bytes)

-- A part with bytes.

pub record IsWritten (t : Tree) : Type 0 where
  pub is : t ≡ written (bytes_of t)
  pub some : bytes_of t ≢ []

pub is_written : (t : Tree) → has_bytes t ≡ true → IsWritten t
is_written (leaf (byte_sequence (b ∷ bytes))) has = record { is = refl; some = λ none. cc }
is_written t has = absurd (false≢true has)

-- What the bytes match.

pub both_match : (d : Direction) (bytes a b : List ℕ) (s : MatchState) →
    these_bytes d bytes (joined d a b) s ≡ (these_bytes d bytes a then_ these_bytes d bytes b) s
both_match forwards bytes a b s = these_bytes-append bytes a b s
both_match backwards bytes a b s = these_bytes_before-append bytes b a s

module _ (setting : Setting) (bytes : List ℕ) (d : Direction) where
  none_first : (ts : Trees) (s : MatchState) → steps_of_parts setting bytes d (more_trees (written []) ts) s ≡ steps_of_parts setting bytes d ts s
  none_first ts s = ap (flat_map (steps_of_parts setting bytes d ts)) (these_bytes-none d bytes s) ∙ append-nil _

  steps-nones : (k : ℕ) (ts : Trees) (s : MatchState) →
      steps_of_parts setting bytes d (append_trees (copies k (written [])) ts) s ≡ steps_of_parts setting bytes d ts s
  steps-nones zero ts s = refl
  steps-nones (suc k) ts s = none_first (append_trees (copies k (written [])) ts) s ∙ steps-nones k ts s

-- A list with two parts that have these bytes, and parts without bytes between them.
module _ (before after : Trees) (k : ℕ) where
  abbrev pub run : (a b : List ℕ) → Trees
  run a b = more_trees (written a) (append_trees (copies k (written [])) (more_trees (written b) after))

  abbrev pub with_run : (a b : List ℕ) → Trees
  with_run a b = append_trees before (run a b)

  module _ (d : Direction) (a b : List ℕ) where
    module _ (setting : Setting) (bytes : List ℕ) where
      abbrev later : MatchState → List MatchState
      later = steps_of_parts setting bytes d after

      steps-run : (s : MatchState) →
          steps_of_parts setting bytes d (run [] (joined d a b)) s ≡ steps_of_parts setting bytes d (run a b) s
      steps-run s =
          steps-nones setting bytes d (suc k) (more_trees (written (joined d a b)) after) s
          ∙ ap (flat_map later) (both_match d bytes a b s)
          ∙ sym (flat_map-then (these_bytes d bytes b) later (these_bytes d bytes a s))
          ∙ ap (λ f. flat_map f (these_bytes d bytes a s)) (sym (fun_ext (steps-nones setting bytes d k (more_trees (written b) after))))

      steps-joined : (s : MatchState) →
          steps_of_parts setting bytes d (with_run [] (joined d a b)) s ≡ steps_of_parts setting bytes d (with_run a b) s
      steps-joined s =
          steps-append setting bytes d before (run [] (joined d a b)) s
          ∙ ap (λ f. flat_map f (steps_of_parts setting bytes d before s)) (fun_ext steps-run)
          ∙ sym (steps-append setting bytes d before (run a b) s)

-- Where it may appear.

AreUtf8-none : (p : Position) → AreUtf8 [] (last_of p)
AreUtf8-none p = record { characters = []; are_scalar = All-nil IsScalar; encoded = refl; one = AsOneCharacter-free (last_of p) _ (last_of-free p) }

pub AreUtf8-append : {a b : List ℕ} {p q : Position} (r : Position) → AreUtf8 a p → AreUtf8 b q → AreUtf8 (a ++ b) (last_of r)
AreUtf8-append {a} {b} r first second = record {
  characters = first.characters ++ second.characters;
  are_scalar = All-append IsScalar first.characters second.characters first.are_scalar second.are_scalar;
  encoded = ap₂ ◌++◌ first.encoded second.encoded ∙ sym (encodes-append first.characters second.characters);
  one = AsOneCharacter-free (last_of r) _ (last_of-free r);
}

AreUtf8-joined : (d : Direction) {a b : List ℕ} {p q : Position} (r : Position) → AreUtf8 a p → AreUtf8 b q →
    AreUtf8 (joined d a b) (last_of r)
AreUtf8-joined forwards r first second = AreUtf8-append r first second
AreUtf8-joined backwards r first second = AreUtf8-append r second first

module _ (n : ℕ) (p : Position) (d : Direction) (a b : List ℕ) (after : Trees) (q : Position) (first : AreUtf8 a q) where
  later_occurs : (after : Trees) → PartsAllowed n (more_trees (written b) after) (last_of p) →
      PartsAllowed n (more_trees (written (joined d a b)) after) (last_of p)
  later_occurs no_trees m = AreUtf8-joined d p first m
  later_occurs (more_trees t ts) m = (AreUtf8-joined d inside first m.0, m.1)

  nones_occur : (k : ℕ) → PartsAllowed n (append_trees (copies k (written [])) (more_trees (written b) after)) (last_of p) →
      PartsAllowed n (append_trees (copies k (written [])) (more_trees (written (joined d a b)) after)) (last_of p)
  nones_occur zero m = later_occurs after m
  nones_occur (suc zero) m = (m.0, later_occurs after m.1)
  nones_occur (suc (suc k)) m = (m.0, nones_occur (suc k) m.1)

module _ (n : ℕ) (p : Position) (d : Direction) (a b : List ℕ) (after : Trees) where
  run_occurs : (k : ℕ) → PartsAllowed n (run no_trees after k a b) (last_of p) →
      PartsAllowed n (run no_trees after k [] (joined d a b)) (last_of p)
  run_occurs zero m = (AreUtf8-none inside, nones_occur n p d a b after inside m.0 zero m.1)
  run_occurs (suc k) m = (AreUtf8-none inside, nones_occur n p d a b after inside m.0 (suc k) m.1)

  joined_occurs : (k : ℕ) (before : Trees) → PartsAllowed n (with_run before after k a b) (last_of p) →
      PartsAllowed n (with_run before after k [] (joined d a b)) (last_of p)
  joined_occurs k no_trees m = run_occurs k m
  joined_occurs k (more_trees t no_trees) m = (m.0, run_occurs k m.1)
  joined_occurs k (more_trees t (more_trees u before)) m = (m.0, joined_occurs k (more_trees u before) m.1)

-- Captures, sizes and brackets.

captures-nones : (k : ℕ) (ts : Trees) → captures_of_trees (append_trees (copies k (written [])) ts) ≡ captures_of_trees ts
captures-nones zero ts = refl
captures-nones (suc k) ts = captures-nones k ts

length-joined : (d : Direction) (a b : List ℕ) → length (joined d a b) ≡ length a + length b
length-joined forwards a b = length-append a b
length-joined backwards a b = omega (arith, length-append b a)

module _ (before after : Trees) (k : ℕ) (d : Direction) (a b : List ℕ) where
  abbrev old : Trees
  old = with_run before after k a b

  abbrev new : Trees
  new = with_run before after k [] (joined d a b)

  captures-joined : captures_of_trees new ≡ captures_of_trees old
  captures-joined =
      captures-append before (run before after k [] (joined d a b))
      ∙ ap (λ cs. captures_of_trees before ++ cs)
      (captures-nones k (more_trees (written (joined d a b)) after) ∙ sym (captures-nones k (more_trees (written b) after)))
      ∙ sym (captures-append before (run before after k a b))

  module _ (m : Measure) where
    total-run : (x y : List ℕ) → total_in_list m (with_run before after k x y)
        ≡ total_in_list m before + (m.of_leaf (byte_sequence x) + total_in_list m (copies k (written [])) + (m.of_leaf (byte_sequence y)
        + total_in_list m after))
    total-run x y =
        omega (arith, total-append m before (run before after k x y), total-append m (copies k (written [])) (more_trees (written y) after))

  brackets-run : (x y : List ℕ) → some_node_in_list is_simplified_away (with_run before after k x y)
      ≡ (some_node_in_list is_simplified_away before || (some_node_in_list is_simplified_away (copies k (written []))
      || some_node_in_list is_simplified_away after))
  brackets-run x y =
      some_node-append is_simplified_away before (run before after k x y)
      ∙ ap (λ c. some_node_in_list is_simplified_away before || c)
      (some_node-append is_simplified_away (copies k (written [])) (more_trees (written y) after))

  pub joined_keeps : Keeps d (cat old) (cat new)
  joined_keeps = record {
    meaning = λ setting text is_text.
        Alike-from_same (λ s. sym (steps-joined before after k d a b setting (encode_utf8_all text) s));
    occurs = λ n p m. (m.0, joined_occurs n p d a b after k before m.1);
    captures = captures-joined;
    account = omega (
      arith,
      total-run sizes a b,
      total-run sizes [] (joined d a b),
      total-run unrollables a b,
      total-run unrollables [] (joined d a b),
      length-joined d a b,
    );
    brackets = λ lacks. brackets-run [] (joined d a b) ∙ sym (brackets-run a b) ∙ lacks;
  }

  weight-some : (x : List ℕ) → x ≢ [] → weight_of_leaf (byte_sequence x) ≡ 3
  weight-some [] some = absurd (some refl)
  weight-some (y ∷ ys) some = refl

  pub joined_less : a ≢ [] → b ≢ [] → IsLess (cat new) (cat old)
  joined_less first second =
      IsLess-lighter (cat new) (cat old)
      (omega (arith, total-run unrollables a b, total-run unrollables [] (joined d a b)))
      (omega (
        arith,
        total-run weights a b,
        total-run weights [] (joined d a b),
        weight-some a first,
        weight-some b second,
        weight-bytes (joined d a b),
      ))
