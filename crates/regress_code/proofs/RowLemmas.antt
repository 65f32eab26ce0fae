-- Leaves that begin with strings, and rows of choices between them.
use Rattle.std.proofs.Common.{◌≡◌, ℕ, ◌+◌, ◌-◌, ◌≤◌, ◌<◌, ◌==◌, Bool, true, false, List, [], ◌∷◌, ◌++◌, All, flat_map, get_or, length, map, IfOk, IfSome, Vec, Option, Some, None, encode_utf8_all, encode_utf8, refl, sym, ap, ◌∙◌, subst, append-nil, append_assoc, arith}
use mathlib.Core.Path.{fun_ext}
use Rattle.std.specs.Char.{IsScalar}
use Rattle.std.specs.List.{list_all}
use Rattle.std.specs.Global.{Global}
use Rattle.std.specs.Prelude.{Result, Ok, Err}
use Rattle.std.proofs.lemmas.List.{length-map, length_push, map-append}
use Rattle.std.proofs.lemmas.List.Elements.{All-tail, All-head}
use Rattle.std.proofs.lemmas.Option.{slice_get-get_or}
use Rattle.regress_base.specs.Table.{denotes}
use Rattle.regress_tree.specs.Reading.{forwards, of_bytes}
use Rattle.regress_tree.specs.References.{all_of, any_string}
use Rattle.regress_tree.specs.Steps.{MatchState, Matcher, these_bytes}
use Rattle.regress_tree.specs.Tree.{Tree, byte_sequence, leaf, string_set}
use Rattle.regress_tree.proofs.lemmas.ByteSequences.{these_bytes-none, these_bytes-append, these_bytes-one}
use Rattle.regress_leaves.proofs.lemmas.Caseless.{caseless_steps}
use Rattle.regress_leaves.proofs.lemmas.Leaves.{any-cons, any-nil, bytes_forwards}
use Rattle.regress_leaves.specs.declared.test.Test.{Test}
use Rattle.regress_program.specs.declared.instruction.Instruction.{Instruction}
use Rattle.regress_unicode.specs.Caseless.{is_caseless}
use Rattle.regress_strings.specs.Contents.{contents}
use Rattle.regress_strings.specs.Strings.{NoneOccurs, strings_of}
use Rattle.regress_code.specs.declared.rows.Row.{Row}
use Rattle.regress_code.specs.Rows.{AreChoices, BeginsWithString, IsBegun, IsChoiceOf, IsPassed, first_leaf}
use Rattle.regress_code.proofs.ListLemmas.{pushed}

-- bytes
pub bytes_begin : (folds : Bool) (string : List ℕ) → BeginsWithString folds string (leaf (byte_sequence string))
bytes_begin folds string setting folded text s out = bytes_forwards text string s false out

-- characters that are compared one by one match as their UTF-8
characters-steps : (bytes string : List ℕ) → All IsScalar string → (s : MatchState) →
    all_of forwards (of_bytes bytes) (λ c x. x == c) string s ≡ these_bytes forwards bytes (encode_utf8_all string) s
characters-steps bytes [] scalars s = sym (these_bytes-none forwards bytes s)
characters-steps bytes (c ∷ cs) scalars s =
    ap (flat_map (all_of forwards (of_bytes bytes) (λ e x. x == e) cs)) (sym (these_bytes-one bytes c (All-head IsScalar c cs scalars) s))
    ∙ ap (λ (f : Matcher). flat_map f (these_bytes forwards bytes (encode_utf8 c) s)) (fun_ext (characters-steps bytes cs (All-tail IsScalar c cs scalars)))
    ∙ sym (these_bytes-append bytes (encode_utf8 c) (encode_utf8_all cs) s)

-- one string that is compared as it is
string_begins : (folds : Bool) (string : List ℕ) → All IsScalar string → BeginsWithString folds (encode_utf8_all string) (leaf (string_set (string ∷ []) false))
string_begins folds string scalars setting folded text s out =
    any-cons forwards (of_bytes text) (denotes setting.table false setting.flags.unicode) string [] s
    ∙ ap (λ xs. xs ++ any_string forwards (of_bytes text) (denotes setting.table false setting.flags.unicode) [] s)
    (characters-steps text string scalars s ∙ bytes_forwards text (encode_utf8_all string) s false out)
    ∙ any-nil forwards (of_bytes text) (denotes setting.table false setting.flags.unicode) s

-- one string of characters without case
caseless_begins : (folds : Bool) → folds ≡ true → (string : List ℕ) → list_all is_caseless string ≡ true → All IsScalar string →
    BeginsWithString folds (encode_utf8_all string) (leaf (string_set (string ∷ []) true))
caseless_begins folds is string caseless scalars setting folded text s out =
    caseless_steps setting (folded is) string caseless text forwards s ∙ string_begins folds string scalars setting folded text s out

-- one string that is compared as it is, or one of characters without case
pub exact_begins : (folds icase : Bool) (string : List ℕ) → (icase ≡ true → (folds ≡ true) × (list_all is_caseless string ≡ true)) → All IsScalar string →
    BeginsWithString folds (encode_utf8_all string) (leaf (string_set (string ∷ []) icase))
exact_begins folds false string exact scalars = string_begins folds string scalars
exact_begins folds true string exact scalars = caseless_begins folds (exact refl).0 string (exact refl).1 scalars

-- ---- the strings of leaves

pub sole : {X Y : Type 0} (f : X → Y) (xs : List X) (x : X) → length xs ≡ 1 → x ≡ get_or xs 0 x → map f xs ≡ f x ∷ []
sole f [] x one is = let bad : ⊥ = omega (arith, one) in absurd bad
sole f (y ∷ []) x one is = ap (λ z. f z ∷ []) (sym is)
sole f (y ∷ z ∷ xs) x one is = let bad : ⊥ = omega (arith, one) in absurd bad

pub encode-push : (cs : List ℕ) (c : ℕ) → encode_utf8_all (cs ++ c ∷ []) ≡ encode_utf8_all cs ++ encode_utf8 c
encode-push [] c = append-nil (encode_utf8 c)
encode-push (d ∷ cs) c = ap (λ bytes. encode_utf8 d ++ bytes) (encode-push cs c) ∙ sym (append_assoc (encode_utf8 d) (encode_utf8_all cs) (encode_utf8 c))

-- what is encoded is the string of the leaf
pub encoded_begins : {E : Type 0} (folds : Bool) (string : List ℕ) (t : Tree) → (All IsScalar string → BeginsWithString folds (encode_utf8_all string) t) →
    (r : Result (Option (Vec ℕ Global)) E) →
    IfOk r (λ found. IfSome found (λ bytes. All IsScalar string)) → IfOk r (λ found. IfSome found (λ bytes. bytes.items ≡ encode_utf8_all string)) →
    IfOk r (λ found. IfSome found (λ bytes. BeginsWithString folds bytes.items t))
encoded_begins folds string t begins (Err e) scalars bytes = tt
encoded_begins folds string t begins (Ok None) scalars bytes = tt
encoded_begins folds string t begins (Ok (Some found)) scalars bytes = subst (λ b. BeginsWithString folds b t) (sym bytes) (begins scalars)

-- ---- choices of a row that are passed

pub passed : (row : Row) (text : List ℕ) (position before low : ℕ) → NoneOccurs (strings_of row.strings) text position low before → (pc : ℕ) →
    IsChoiceOf row pc → (j : ℕ) → row.lowest ≤ j → low ≤ j - row.lowest → j ≤ pc → j - row.lowest < before → IsPassed row text position j
passed row text position before low none pc inside j from lower below upper =
    let k = j - row.lowest in
    let within : k < length (strings_of row.strings) = omega (arith, inside.1, below, from) in
    let strings = strings_of row.strings in
    let is = slice_get-get_or strings k [] within in
    record { from = from; string = get_or strings k []; is = is; fails = none k (get_or strings k []) lower upper is }

-- ---- strings that are collected

pub more_strings : (folds : Bool) (leaves : List Test) (instructions : List Instruction) (pc : ℕ) (strings new : List (Vec ℕ Global)) (string : Vec ℕ Global) →
    new ≡ strings ++ string ∷ [] → length strings ≤ pc → AreChoices folds leaves instructions (pc - length strings) (contents strings) →
    IsBegun folds string.items (first_leaf leaves instructions pc) →
    (length new ≤ pc + 1) × AreChoices folds leaves instructions ((pc + 1) - length new) (contents new)
more_strings folds leaves instructions pc strings new string is le are begun =
    let count : length new ≡ length strings + 1 = ap length is ∙ length_push strings string in
    let all : contents new ≡ contents strings ++ string.items ∷ [] = ap contents is ∙ map-append (λ (v : Vec ℕ Global). v.items) strings (string ∷ []) in
    let same : length (contents strings) ≡ length strings = length-map strings (λ (v : Vec ℕ Global). v.items) in (
      omega (arith, count, le),
      subst (AreChoices folds leaves instructions ((pc + 1) - length new)) (sym all)
          (pushed (λ k s. IsBegun folds s (first_leaf leaves instructions (((pc + 1) - length new) + k))) (contents strings) string.items
          (λ k s at. subst (λ j. IsBegun folds s (first_leaf leaves instructions j)) (omega (arith, count)) (are k s at))
          (subst (λ j. IsBegun folds string.items (first_leaf leaves instructions j)) (omega (arith, count, same, le)) begun)),
    )

pub no_strings : (folds : Bool) (leaves : List Test) (instructions : List Instruction) (lowest : ℕ) (strings : List (Vec ℕ Global)) → strings ≡ [] →
    AreChoices folds leaves instructions lowest (contents strings)
no_strings folds leaves instructions lowest [] is = λ k string at. let bad : ⊥ = cc in absurd bad
no_strings folds leaves instructions lowest (x ∷ xs) is = let bad : ⊥ = cc in absurd bad
