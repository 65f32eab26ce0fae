use Rattle.std.proofs.Common.{◌≡◌, ℕ, [], arith, false, length, map, refl, rules}
use Rattle.std.proofs.lemmas.Bool.Decides.{nat_tests}
use Rattle.std.proofs.lemmas.List.{length-map, nil_from_length}
use Rattle.std.specs.Prelude.{Vec}
use Rattle.std.specs.declared.alloc.Global.{Global}
use Rattle.regex_options.specs.Plain.{job}
use Rattle.regex_lines.specs.Searched.{named}
use Rattle.regex_lines.specs.Window.{window_of}
use Rattle.regex_lines.proofs.WindowLemmas.{nothing_in_front}
use Rattle.regex_lines.proofs.searching.with_front.Goals as goal

pub returns-then-is_empty-clause-front : goal.returns-then-is_empty-clause-front
returns-then-is_empty-clause-front c =
    let apart : c.is_apart-is_apart.result ≡ false = search rules in
    let hidden = c.args.window.now.hidden in
    let same = length-map hidden.items (λ (line : Vec ℕ Global). line.items) in
    let size = hidden.ok.0 in
    let is = c.is_empty.ensures in
    let yes = c.if-is_empty.true in
    let none : length (map (λ (line : Vec ℕ Global). line.items) hidden.items) ≡ 0 = grind (arith, nat_tests) in (
      [],
      nothing_in_front c.args.search.searcher.now.regex.now (job c.args.search.task) (named c.args.search.place) (window_of c.args.window.now)
          c.is_apart-is_apart.result c.is_apart-is_apart.ensures apart (nil_from_length (window_of c.args.window.now).hidden none),
      refl,
    )
