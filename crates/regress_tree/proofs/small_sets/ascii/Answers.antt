use Rattle.std.proofs.Common.{◌≡◌, ap, ◌∙◌, ◌++◌, ◌∷◌, [], get_or, nat_le, Some, None, if◌then◌else◌, sym, true, false}
use Rattle.std.proofs.lemmas.List.{take_more, take_all, drop_all}
use Rattle.std.proofs.lemmas.Bool.{le-leb, lt-leb}
use Rattle.regress_tree.proofs.LoopLemmas.{all_next, not_all}
use Rattle.regress_tree.specs.SmallSets.{is_ascii}
use Rattle.regress_tree.proofs.small_sets.ascii.Goals as goal

pub loop-c-preserved : goal.loop-c-preserved
loop-c-preserved c =
    let l = c.loop-c in
    let members = c.args.members.now in
    let in_list = c.loop-c-test.true in
    record {
      listed = c.in_ok-push.ensures.items ∙ ap (λ xs. xs ++ get_or members l.c-index 0 ∷ []) l.invariant.listed ∙ sym (take_more members l.c-index 0 in_list);
      ascii = all_next (λ x. nat_le x 127) members l.c-index 0 in_list (le-leb (get_or members l.c-index 0) 127 c.if-c-gt127.false) l.invariant.ascii;
    }

pub returns-then-c-gt127 : goal.returns-then-c-gt127
returns-then-c-gt127 c =
    let l = c.loop-c in
    let members = c.args.members.now in
    ap (λ b. if b then Some members else None) (not_all (λ x. nat_le x 127) members l.c-index 0 c.loop-c-test.true
    (lt-leb (get_or members l.c-index 0) 127 c.if-c-gt127.true) l.invariant.ascii)

pub returns : goal.returns
returns c =
    let l = c.loop-c in
    let members = c.args.members.now in
    let all : true ≡ is_ascii members = ap is_ascii (sym (drop_all l.c-index members c.loop-c-test.false)) ∙ l.invariant.ascii in
    let listed : l.bytes.items ≡ members = l.invariant.listed ∙ take_all l.c-index members c.loop-c-test.false in
    ap Some listed ∙ ap (λ b. if b then Some members else None) all
