-- Replacing a segment of a list of parts, and leaving parts out.
use Rattle.std.proofs.Common.{◌≡◌, ℕ, true, List, [], ◌++◌, refl, sym, ap, ◌∙◌, subst, arith}
use Rattle.std.proofs.lemmas.Bool.{or_parts, false≢true}
use Rattle.std.specs.Prelude.{encode_utf8_all}
use Rattle.std.specs.List.{flat_map}
use mathlib.Core.Path.{fun_ext}
use Rattle.regress_tree.specs.Matching.{steps, steps_of_parts}
use Rattle.regress_tree.specs.NodeTests.{is_empty}
use Rattle.regress_tree.specs.Reading.{Direction}
use Rattle.regress_tree.specs.Shapes.{is_simplified_away}
use Rattle.regress_tree.specs.Steps.{MatchState, stay, ◌then_◌, Setting}
use Rattle.regress_tree.specs.Tree.{empty, Tree, Trees, leaf, cat, no_trees, more_trees, append_trees}
use Rattle.regress_tree.specs.Units.{sizes, unrollables}
use Rattle.regress_tree.specs.WellFormed.{Position, inside, last_of, NotAsOneCharacter, captures, captures_of_trees, PartsAllowed}
use Rattle.regress_tree.proofs.lemmas.Alike.{Alike-refl, Alike-trans, Alike-then, Alike-from_same}
use Rattle.regress_tree.proofs.lemmas.ByteSequences.{these_bytes-none}
use Rattle.regress_tree.proofs.lemmas.Measures.{some_node-append, total-append, ListLacksShape-append}
use Rattle.regress_tree.proofs.lemmas.Lists.{append_trees-none, steps-append, captures-append, PartsAllowed-append, PartsAllowed-split}
use Rattle.regress_rewrite.specs.Formed.{joined}
use Rattle.regress_rewrite.specs.Law.{Keeps}
use Rattle.regress_rewrite.proofs.lemmas.Joining.{written, joined_keeps}
use Rattle.regress_rewrite.proofs.lemmas.Keeps.{Keeps-trans}

module _ (d : Direction) (u : Tree) (us vs : Trees) (keeps : Keeps d (cat (more_trees u us)) (cat vs)) where
  segment_after : (n : ℕ) (p : Position) (zs : Trees) → NotAsOneCharacter p →
      PartsAllowed n (append_trees (more_trees u us) zs) (last_of p) → PartsAllowed n (append_trees vs zs) (last_of p)
  segment_after n p no_trees free m =
      subst (λ (ts : Trees). PartsAllowed n ts (last_of p)) (sym (append_trees-none vs))
      (keeps.occurs n p (free, subst (λ (ts : Trees). PartsAllowed n ts (last_of p)) (append_trees-none (more_trees u us)) m)).1
  segment_after n p (more_trees z zs) free m =
      let both = PartsAllowed-split n (more_trees u us) z zs (last_of p) m in
      PartsAllowed-append n vs (more_trees z zs) p (keeps.occurs n inside (tt, both.0)).1 both.1

  module _ (xs zs : Trees) where
    abbrev was : Trees
    was = append_trees xs (append_trees (more_trees u us) zs)

    abbrev is : Trees
    is = append_trees xs (append_trees vs zs)

    module _ (setting : Setting) (bytes : List ℕ) where
      apart : (ts : Trees) (s : MatchState) → steps_of_parts setting bytes d (append_trees xs (append_trees ts zs)) s
          ≡ (steps_of_parts setting bytes d xs then_ (steps_of_parts setting bytes d ts then_ steps_of_parts setting bytes d zs)) s
      apart ts s =
          steps-append setting bytes d xs (append_trees ts zs) s
          ∙ ap (λ f. flat_map f (steps_of_parts setting bytes d xs s)) (fun_ext (steps-append setting bytes d ts zs))

    captures-apart : (ts : Trees) → captures_of_trees (append_trees xs (append_trees ts zs))
        ≡ captures_of_trees xs ++ (captures_of_trees ts ++ captures_of_trees zs)
    captures-apart ts = captures-append xs (append_trees ts zs) ∙ ap (λ cs. captures_of_trees xs ++ cs) (captures-append ts zs)

    -- a segment may be replaced whatever is before and after it
    pub Keeps-segment : Keeps d (cat was) (cat is)
    Keeps-segment = record {
      meaning = λ setting text is_text. Alike-trans (Alike-from_same (apart setting (encode_utf8_all text) (more_trees u us)))
          (Alike-trans (Alike-then _ _ _ _ (Alike-refl _) (Alike-then _ _ _ _ (keeps.meaning setting text is_text) (Alike-refl _)))
          (Alike-from_same (λ s. sym (apart setting (encode_utf8_all text) vs s))));
      occurs = λ n p m.
          let both = PartsAllowed-split n xs u (append_trees us zs) (last_of p) m.1 in
          (m.0, PartsAllowed-append n xs (append_trees vs zs) p both.0 (segment_after n p zs m.0 both.1));
      captures =
          captures-apart vs ∙ ap (λ cs. captures_of_trees xs ++ (cs ++ captures_of_trees zs)) keeps.captures
          ∙ sym (captures-apart (more_trees u us));
      account = omega (
        arith,
        keeps.account,
        total-append sizes xs (append_trees (more_trees u us) zs),
        total-append sizes (more_trees u us) zs,
        total-append sizes xs (append_trees vs zs),
        total-append sizes vs zs,
        total-append unrollables xs (append_trees (more_trees u us) zs),
        total-append unrollables (more_trees u us) zs,
        total-append unrollables xs (append_trees vs zs),
        total-append unrollables vs zs,
      );
      brackets = λ lacks.
          let first = or_parts _ _ (sym (some_node-append is_simplified_away xs (append_trees (more_trees u us) zs)) ∙ lacks) in
          let rest = or_parts _ _ (sym (some_node-append is_simplified_away (more_trees u us) zs) ∙ first.1) in
          ListLacksShape-append is_simplified_away xs (append_trees vs zs) first.0
          (ListLacksShape-append is_simplified_away vs zs (keeps.brackets rest.0) rest.1);
    }

pub is_empty-leaf : (t : Tree) → is_empty t ≡ true → t ≡ leaf empty
is_empty-leaf (leaf empty) is = refl
is_empty-leaf t is = absurd (false≢true is)

-- a part may be left out if it matches only the empty text and has no group
Keeps-none : (d : Direction) (t : Tree) →
    ((setting : Setting) (bytes : List ℕ) (s : MatchState) → steps setting bytes d t s ≡ stay s) → captures t ≡ [] →
    Keeps d (cat (more_trees t no_trees)) (cat no_trees)
Keeps-none d t stays none = record {
  meaning = λ setting text is_text. Alike-from_same (λ s. ap (flat_map stay) (stays setting (encode_utf8_all text) s));
  occurs = λ n p m. (m.0, tt);
  captures = sym (ap (λ cs. cs ++ []) none);
  account = omega arith;
  brackets = λ lacks. refl;
}

pub empty_keeps : (d : Direction) → Keeps d (cat (more_trees (leaf empty) no_trees)) (cat no_trees)
empty_keeps d = Keeps-none d (leaf empty) (λ setting bytes s. refl) refl

no_bytes_keeps : (d : Direction) → Keeps d (cat (more_trees (written []) no_trees)) (cat no_trees)
no_bytes_keeps d = Keeps-none d (written []) (λ setting bytes s. these_bytes-none d bytes s) refl

-- two neighbours with bytes become one
pub pair_keeps : (d : Direction) (a b : List ℕ) →
    Keeps d (cat (more_trees (written a) (more_trees (written b) no_trees))) (cat (more_trees (written (joined d a b)) no_trees))
pair_keeps d a b =
    Keeps-trans d (joined_keeps no_trees no_trees 0 d a b)
    (Keeps-segment d (written []) no_trees no_trees (no_bytes_keeps d) no_trees (more_trees (written (joined d a b)) no_trees))
