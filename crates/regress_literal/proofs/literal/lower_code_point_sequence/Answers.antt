-- Each literal extends the text, or ends it and is a piece by itself.
use Rattle.std.proofs.Common.{◌≡◌, ℕ, ◌+◌, ◌++◌, [], ◌∷◌, Bool, List, map, string_bytes, refl, sym, ap, ap₂, subst, ◌∙◌}
use Rattle.std.proofs.lemmas.List.{at_drop_all, map-append}
use Rattle.regress_literal.specs.Literal.{piece, piece_of, bytes_piece, is_character, lowered_after, NoAdjacentSequences, MatchLiterals}
use Rattle.regress_base.specs.Table.{Table}
use Rattle.regress_unicode.specs.TableOf.{table_of}
use Rattle.regress_tree.specs.Tree.{Leaf}
use Rattle.regress_literal.proofs.LoweringLemmas.{ArePieces, step_character, step_piece, class-some, lowered-mean, lowered-apart}
use Rattle.regress_literal.proofs.literal.lower_code_point_sequence.Goals as goal
use Rattle.regress_literal.proofs.literal.lower_code_point_sequence.Goals.{in-Some+in_ok-push-in-Some, in-None+in_ok-push_text-in-None+in_ok-piece_of-in-None+in_ok-push-in-None}

-- the pieces found, by equal values
found_as : (table : Table) (icase unicode : Bool) (cps : List ℕ) (i : ℕ) (found found' : List Leaf) (written written' : List ℕ) →
    found ≡ found' → written ≡ written' → ArePieces table icase unicode found' written' cps i →
    ArePieces table icase unicode found written cps i
found_as table icase unicode cps i found found' written written' e f are =
    subst (λ leaves. ArePieces table icase unicode leaves written cps i) (sym e)
    (subst (λ bytes. ArePieces table icase unicode found' bytes cps i) (sym f) are)

pub loop-c-init : goal.loop-c-init
loop-c-init c =
    found_as (table_of c.args.tables.now) c.args.icase c.args.unicode c.args.cps.now 0 _ _ _ _
    (ap (map piece) c.new-pieces.ensures.items) c.new-text.ensures.bytes refl

pub piece_of-requires : goal.piece_of-requires
piece_of-requires c =
    class-some (table_of c.args.tables.now) c.args.icase c.args.unicode (map piece c.loop-c.pieces.items) (string_bytes c.loop-c.text)
    c.args.cps.now c.loop-c.c-index c.loop-c.invariant c.loop-c-test.true c.in_ok-class.class.items c.in_ok-class.ensures.listing
    (c.requires c.loop-c.c-index 0 c.loop-c-test.true)

pub loop-c-preserved : goal.loop-c-preserved
loop-c-preserved c =
    let found = map piece c.loop-c.pieces.items in
    let written = string_bytes c.loop-c.text in
    let class = c.in_ok-class.class.items in
    elim c.match-character.branch [
      | in-Some+in_ok-push-in-Some w ↦
          found_as (table_of c.args.tables.now) c.args.icase c.args.unicode c.args.cps.now (c.loop-c.c-index + 1) _ _ _ _
          (ap (λ v. map piece v.items) w.pieces-is) (ap string_bytes w.text-is ∙ w.in_ok-push-in-Some.ensures.bytes)
          (step_character (table_of c.args.tables.now) c.args.icase c.args.unicode found written c.args.cps.now c.loop-c.c-index
          c.loop-c.invariant c.loop-c-test.true class c.in_ok-class.ensures.listing w.in-Some.c
          (sym c.deref.ensures.value ∙ w.in-Some.ensures.itself) (sym (w.in-Some.ensures.one ∙ ap is_character c.deref.ensures.value)))
      | in-None+in_ok-push_text-in-None+in_ok-piece_of-in-None+in_ok-push-in-None w ↦
          let pieces : map piece c.match-character.pieces.items ≡ (found ++ bytes_piece written) ++ piece_of class ∷ [] =
          ap (λ v. map piece v.items) w.pieces-is
          ∙ ap (map piece) w.in_ok-push-in-None.ensures.items
          ∙ map-append piece w.push_text.new.pieces.items _
          ∙ ap₂ (λ (front last : List Leaf). front ++ last)
          (w.in_ok-push_text-in-None.ensures ∙ ap (λ t. found ++ bytes_piece (string_bytes t)) w.replace.ensures.value)
          (ap (λ (l : Leaf). l ∷ []) w.in_ok-piece_of-in-None.ensures) in
          found_as (table_of c.args.tables.now) c.args.icase c.args.unicode c.args.cps.now (c.loop-c.c-index + 1) _ _ _ _
          pieces (ap string_bytes (w.text-is ∙ w.replace.ensures.after) ∙ w.new.ensures.bytes)
          (step_piece (table_of c.args.tables.now) c.args.icase c.args.unicode found written c.args.cps.now c.loop-c.c-index
          c.loop-c.invariant c.loop-c-test.true class c.in_ok-class.ensures.listing
          (sym (w.in-None.ensures.one ∙ ap is_character c.deref.ensures.value)))
    ]

pub returns-clause-pieces : goal.returns-clause-pieces
returns-clause-pieces c =
    let after = lowered_after (table_of c.args.tables.now) c.args.icase c.args.unicode (string_bytes c.loop-c.text) in
    c.in_ok-push_text.ensures
    ∙ ap (λ (rest : List Leaf). map piece c.loop-c.pieces.items ++ rest)
    (sym (at_drop_all after c.args.cps.now c.loop-c.c-index c.loop-c-test.false))
    ∙ c.loop-c.invariant

pub returns-clause-apart : goal.returns-clause-apart
returns-clause-apart c =
    subst NoAdjacentSequences (sym (returns-clause-pieces c))
    (lowered-apart (table_of c.args.tables.now) c.args.icase c.args.unicode c.args.cps.now)

pub returns-clause-meaning : goal.returns-clause-meaning
returns-clause-meaning c =
    subst (MatchLiterals (table_of c.args.tables.now) c.args.icase c.args.unicode c.args.cps.now) (sym (returns-clause-pieces c))
    (lowered-mean (table_of c.args.tables.now) c.args.icase c.args.unicode c.args.cps.now)
