use Rattle.std.proofs.Common.{rules, ◌≡◌, List, ℕ, [], ◌∷◌, encode_utf8_all, true, get_or, length, map, sym, ap, ◌∙◌, subst, arith}
use Rattle.std.specs.Box.{boxed_slice_items}
use Rattle.std.specs.List.{list_all}
use Rattle.regress_tree.specs.Tree.{leaf, string_set, byte_sequence, tree}
use Rattle.regress_tree.specs.declared.ir.node.Node.{the_lemmas}
use Rattle.regress_unicode.specs.Caseless.{is_caseless}
use Rattle.regress_code.specs.Rows.{BeginsWithString}
use Rattle.regress_code.proofs.RowLemmas.{bytes_begin, encoded_begins, exact_begins, sole}
use Rattle.regress_code.proofs.rows.string_of.Goals as goal
use Rattle.regress_code.proofs.rows.string_of.Goals.{then-not-icase, else-not-icase+then-folds, else-not-icase+else-folds}

pub returns-in_ok-from_slice-in-ByteSequence : goal.returns-in_ok-from_slice-in-ByteSequence
returns-in_ok-from_slice-in-ByteSequence c =
    let bytes = c.in_ok-from_slice-in-ByteSequence.field-0.items in
    let is : tree c.args.node.now ≡ leaf (byte_sequence c.in-ByteSequence.bytes.items) = search (rules, the_lemmas) in
    let same : c.in-ByteSequence.bytes.items ≡ bytes = sym (c.in_ok-from_slice-in-ByteSequence.ensures.items ∙ c.deref.ensures.value) in
    subst (BeginsWithString c.args.folds bytes) (sym (is ∙ ap (λ b. leaf (byte_sequence b)) same)) (bytes_begin c.args.folds bytes)

pub returns-in-len1 : goal.returns-in-len1
returns-in-len1 c =
    let folds = c.args.folds in
    let alternatives = c.in-StringSet.alternatives.items in
    let icase = c.in-StringSet.icase in
    let characters : List ℕ = c.deref-in-len1.result.now in
    let is : tree c.args.node.now ≡ leaf (string_set (map boxed_slice_items alternatives) icase) = search (rules, the_lemmas) in
    let slice = c.as_slice.ensures.value in
    let same = c.deref-in-len1.ensures.value in
    let one : map boxed_slice_items alternatives ≡ characters ∷ [] =
    sole boxed_slice_items alternatives c.string-item.result (omega (arith, ap length slice, c.in-len1.len_at_least, c.in-len1.len_below))
    (c.string-item.is ∙ ap (λ xs. get_or xs 0 c.string-item.result) slice)
    ∙ ap (λ s. s ∷ []) (sym same) in
    let exact : icase ≡ true → (folds ≡ true) × (list_all is_caseless characters ≡ true) =
    λ with_icase.
    elim c.if-not-icase.branch [
      | then-not-icase w ↦ let bad : ⊥ = cc in absurd bad
      | else-not-icase+then-folds w ↦ (
        w.if-folds.true,
        ap (list_all is_caseless) (same ∙ sym w.deref-then-folds.ensures.value) ∙ sym w.are_caseless.ensures ∙ sym w.value-is ∙ c.if-are_caseless.true,
      )
      | else-not-icase+else-folds w ↦ let bad : ⊥ = cc in absurd bad
    ] in
    encoded_begins folds characters (tree c.args.node.now)
    (λ scalars. subst (BeginsWithString folds (encode_utf8_all characters)) (sym (is ∙ ap (λ ss. leaf (string_set ss icase)) one))
    (exact_begins folds icase characters exact scalars))
    c.encoded.result c.encoded.ensures.characters c.encoded.ensures.bytes
