use Rattle.std.proofs.Common.{rules, arith, ◌≡◌, Bool, true, false, refl, sym, ap, ◌∙◌}
use Rattle.regress_base.specs.Classes.{word_characters}
use Rattle.regress_base.specs.Intervals.{is_member}
use Rattle.regress_base.specs.Table.{is_in_closure}
use Rattle.regress_base.proofs.lemmas.Literals.{same_tests}
use Rattle.regress_unicode.specs.TableOf.{table_of}
use Rattle.regress_unicode.proofs.lemmas.Closures.{closure_from, closure_gives}
use Rattle.regress_leaves.proofs.WordLemmas.{word_range, words_fold_to_words}
use Rattle.regress_leaves.proofs.characters.folds_to_word.Goals as goal

false_is : (b : Bool) → (b ≡ true → ⊥) → false ≡ b
false_is true h = absurd (h refl)
false_is false h = refl

pub returns-then-c-gt1114111 : goal.returns-then-c-gt1114111
returns-then-c-gt1114111 c =
    false_is (is_in_closure (table_of c.args.known.tables.now) word_characters c.args.c) (λ e.
    let small = (closure_gives (table_of c.args.known.tables.now) word_characters c.args.c e).0 in
    omega (arith, small, c.if-c-gt1114111.true))

pub returns-then-is_word : goal.returns-then-is_word
returns-then-is_word c =
    let member : is_member word_characters c.args.c ≡ true = sym c.is_word.ensures ∙ c.if-is_word.true in
    sym (closure_from (table_of c.args.known.tables.now) word_characters c.args.c c.args.c (omega (arith, c.if-c-gt1114111.false)) member refl)

pub returns-then-fold-mapped : goal.returns-then-fold-mapped
returns-then-fold-mapped c =
    let table = table_of c.args.known.tables.now in
    let m = c.loop-m.m in
    let member : is_member word_characters m ≡ true = search rules in
    let same : table.fold m ≡ table.fold c.args.c = search rules in
    sym (closure_from table word_characters m c.args.c (omega arith) member same)

pub returns : goal.returns
returns c =
    let table = table_of c.args.known.tables.now in
    false_is (is_in_closure table word_characters c.args.c) (λ e.
    let found = closure_gives table word_characters c.args.c e in
    let range = word_range found.1 found.2 in
    c.loop-m.invariant found.1 range.0 (omega (arith, range.1, c.loop-m-test.false)) found.2 found.3)

pub returns-then-known : goal.returns-then-known
returns-then-known c =
    let table = table_of c.args.known.tables.now in
    let mapped = table.fold c.args.c in
    let mapped-is : c.is_word-then-known.result ≡ is_member word_characters mapped =
    c.is_word-then-known.ensures ∙ ap (is_member word_characters) c.fold-mapped.ensures in
    same_tests c.is_word-then-known.result (is_in_closure table word_characters c.args.c)
    (λ word. closure_from table word_characters mapped c.args.c (omega (arith, c.if-c-gt1114111.false)) (sym mapped-is ∙ word)
    (c.args.known.tables.now.sound.lawful.fold.idempotent c.args.c))
    (λ e.
    let found = closure_gives table word_characters c.args.c e in
    mapped-is ∙ ap (is_member word_characters) (sym found.3) ∙ words_fold_to_words table (c.args.known.holds.fold c.if-known.true) found.1 found.2)
