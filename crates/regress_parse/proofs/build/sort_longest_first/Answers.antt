use Rattle.std.proofs.Common.{rules}
use Rattle.std.proofs.lemmas.Result.{on_ok_weaker}
use Rattle.std.proofs.lemmas.List.Sorted.{answers_always}
use Rattle.regress_parse.proofs.StringLemmas.{length_key, sorted_longest_first}
use Rattle.regress_parse.proofs.build.sort_longest_first.Goals as goal

pub returns : goal.returns
returns c =
    let keys = answers_always _ _ _ (λ f a r g h. search rules) in
    on_ok_weaker c.sort_by_key.result
    (λ sorted. sorted_longest_first c.args.strings.now.items c.sort_by_key.new.self.items (sorted length_key keys)
    (c.sort_by_key.ensures.stable length_key keys))
    c.sort_by_key.ensures.sorted
