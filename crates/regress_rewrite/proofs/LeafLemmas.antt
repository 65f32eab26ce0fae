-- A character as bytes, and a set of ASCII characters as a set of bytes.
use Rattle.std.proofs.Common.{◌≡◌, ℕ, ◌≤◌, ◌==◌, Bool, true, false, if◌then◌else◌, Some, None, List, [], ◌∷◌, Vec, Global, nat_le, refl, sym, subst, append-nil, arith}
use Rattle.std.specs.Char.{IsScalar, encode_utf8}
use Rattle.std.proofs.lemmas.Bool.{leb-true}
use Rattle.std.proofs.lemmas.Option.{cond_some, none-some}
use Rattle.std.proofs.lemmas.List.Sums.{AllPass-from_list_all}
use Rattle.std.proofs.lemmas.List.Elements.{All-cons, All-nil}
use Rattle.std.proofs.lemmas.Str.{length-encode, len_utf8_bounds}
use Rattle.regress_tree.specs.declared.ir.node.Node.TheVariants.{ByteSequence, ByteSet}
use Rattle.regress_tree.specs.SmallSets.{is_ascii}
use Rattle.regress_tree.specs.Reading.{Direction, forwards, backwards, of_bytes}
use Rattle.regress_tree.specs.Steps.{MatchState, one_character, these_bytes}
use Rattle.regress_tree.specs.Shapes.{is_formed_away}
use Rattle.regress_tree.specs.Tree.{Tree, leaf, char, byte_sequence, byte_set, char_set, tree}
use Rattle.regress_tree.specs.Units.{weight_of_leaf, IsLess}
use Rattle.regress_tree.proofs.lemmas.Alike.{Alike-refl, Alike-from_same}
use Rattle.regress_tree.proofs.lemmas.ByteSequences.{these_bytes-one, these_bytes_before-one}
use Rattle.regress_tree.proofs.lemmas.Measures.{IsLess-lighter}
use Rattle.regress_tree.proofs.lemmas.Nodes.{tree-ByteSequence, tree-ByteSet}
use Rattle.regress_tree.proofs.lemmas.Positions.{AsOneCharacter-from}
use Rattle.regress_rewrite.specs.Law.{Keeps, ObeysLaw}
use Rattle.regress_rewrite.specs.declared.action.PassAction.TheVariants.{Keep, Replace}
use Rattle.regress_rewrite.proofs.lemmas.Lawful.{keep_lawful, replace_lawful}

encoded-steps : (d : Direction) (bytes : List ℕ) (c : ℕ) → IsScalar c → (s : MatchState) →
    these_bytes d bytes (encode_utf8 c) s ≡ one_character d (of_bytes bytes) (λ x. x == c) s
encoded-steps forwards bytes c scalar_value s = these_bytes-one bytes c scalar_value s
encoded-steps backwards bytes c scalar_value s = these_bytes_before-one bytes c scalar_value s

pub weight-bytes : (bytes : List ℕ) → weight_of_leaf (byte_sequence bytes) ≤ 3
weight-bytes [] = omega arith
weight-bytes (b ∷ bytes) = omega arith

module _ (d : Direction) (c : ℕ) (scalar_value : IsScalar c) where
  encoded_keeps : Keeps d (leaf (char c)) (leaf (byte_sequence (encode_utf8 c)))
  encoded_keeps = record {
    meaning = λ setting text is_text. Alike-from_same (λ s. sym (encoded-steps d _ c scalar_value s));
    occurs = λ n p m. record {
      characters = c ∷ [];
      are_scalar = All-cons IsScalar c [] scalar_value (All-nil IsScalar);
      encoded = sym (append-nil _);
      one = AsOneCharacter-from p _ refl;
    };
    captures = refl;
    account = omega (arith, length-encode c, (len_utf8_bounds c).1);
    brackets = λ lacks. refl;
  }

  encoded_less : IsLess (leaf (byte_sequence (encode_utf8 c))) (leaf (char c))
  encoded_less = IsLess-lighter _ _ (omega arith) (omega (arith, weight-bytes (encode_utf8 c)))

  pub encoded_lawful : (bytes : Vec ℕ Global) → bytes.items ≡ encode_utf8 c →
      ObeysLaw is_formed_away true d (leaf (char c)) (leaf (char c)) (Replace (ByteSequence bytes))
  encoded_lawful bytes is =
      let same : tree (ByteSequence bytes) ≡ leaf (byte_sequence (encode_utf8 c)) = rw (tree-ByteSequence bytes, is) refl in
      replace_lawful is_formed_away true d (leaf (char c)) scalar_value (leaf (char c)) (ByteSequence bytes)
      (subst (λ (t : Tree). Keeps d (leaf (char c)) t) (sym same) encoded_keeps)
      (subst (λ (t : Tree). IsLess t (leaf (char c))) (sym same) encoded_less)

module _ (d : Direction) (members : List ℕ) where
  set_keeps : is_ascii members ≡ true → Keeps d (leaf (char_set members)) (leaf (byte_set members))
  set_keeps ascii = record {
    meaning = λ setting text is_text. Alike-refl _;
    occurs = λ n p m. record {
      bounded = λ k x below. leb-true _ 127 (AllPass-from_list_all (λ c. nat_le c 127) members ascii k x below);
      small = m.small;
      some = m.some;
    };
    captures = refl;
    account = omega arith;
    brackets = λ lacks. refl;
  }

  set_less : IsLess (leaf (byte_set members)) (leaf (char_set members))
  set_less = IsLess-lighter _ _ (omega arith) (omega arith)

  -- the bytes that `ascii` returns obey the law
  pub set_lawful : (bytes : Vec ℕ Global) → Some bytes.items ≡ (if is_ascii members then Some members else None) →
      ObeysLaw is_formed_away true d (leaf (char_set members)) (leaf (char_set members)) (Replace (ByteSet bytes))
  set_lawful bytes found =
      let all = cond_some (is_ascii members) members bytes.items (sym found) in
      let same : tree (ByteSet bytes) ≡ leaf (byte_set members) = rw (tree-ByteSet bytes, ← all.1) refl in
      replace_lawful is_formed_away true d (leaf (char_set members)) all.0 (leaf (char_set members)) (ByteSet bytes)
      (subst (λ (t : Tree). Keeps d (leaf (char_set members)) t) (sym same) (set_keeps all.0))
      (subst (λ (t : Tree). IsLess t (leaf (char_set members))) (sym same) set_less)

  pub no_set_lawful : None ≡ (if is_ascii members then Some members else None) →
      ObeysLaw is_formed_away true d (leaf (char_set members)) (leaf (char_set members)) Keep
  no_set_lawful none = keep_lawful is_formed_away true d (leaf (char_set members)) (by_test (is_ascii members) none)
    where
      by_test : (b : Bool) → None ≡ (if b then Some members else None) → b ≡ false
      by_test true none = absurd (none-some members none)
      by_test false none = refl
