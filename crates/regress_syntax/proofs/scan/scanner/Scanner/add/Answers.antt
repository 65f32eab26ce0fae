use Rattle.std.proofs.Common.{◌≡◌, ◌<◌, ◌+◌, ◌^◌, ◌++◌, [], ◌∷◌, length, refl, ap, ◌∙◌, arith}
use Rattle.std.proofs.lemmas.List.{length-append}
use Rattle.std.proofs.lemmas.List.Elements.{same_from_all_zip}
use Rattle.regress_syntax.proofs.NumberingLemmas.{number_added, none_numbered}
use Rattle.regress_syntax.proofs.PlaceLemmas.{one_added, no_one_added}
use Rattle.regress_syntax.proofs.ScannerLemmas.{named_added, none_added}
use Rattle.regress_syntax.specs.declared.scan.scanner.Scanner.{Scanner}
use Rattle.regress_syntax.proofs.scan.scanner.Scanner.add.Goals as goal
use Rattle.regress_syntax.proofs.scan.scanner.Scanner.add.Goals.{in-Some+in_ok-clone+in_ok-outermost+in_ok-push, in_default}

pub returns-clause-named : goal.returns-clause-named
returns-clause-named c = λ short. elim c.match-name.branch [
  | in-Some+in_ok-clone+in_ok-outermost+in_ok-push w ↦
      let names : w.in_ok-clone.field-0.items ≡ w.in-Some.name.items = same_from_all_zip _ _ _ w.in_ok-clone.ensures.cases.0 (λ x y h. h) in
      named_added c.args.self.now.named.items _ _ w.in-Some.name _ c.args.name w.in-Some.is names (w.in_ok-outermost.ensures short)
      (ap (λ scanner. scanner.named.items) w.self-is ∙ w.in_ok-push.ensures.items)
  | in_default w ↦ none_added c.args.self.now.named.items _ _ c.args.name w.in_default.is (ap (λ scanner. scanner.named.items) w.self-is)
]

pub returns-clause-added : goal.returns-clause-added
returns-clause-added c = elim c.match-name.branch [
  | in-Some+in_ok-clone+in_ok-outermost+in_ok-push w ↦
      let names : w.in_ok-clone.field-0.items ≡ w.in-Some.name.items = same_from_all_zip _ _ _ w.in_ok-clone.ensures.cases.0 (λ x y h. h) in
      one_added c.args.self.now.named.items _ _ w.in-Some.name _ c.args.left c.args.name w.in-Some.is names refl w.in_ok-outermost.ensures
      (ap (λ scanner. scanner.named.items) w.self-is ∙ w.in_ok-push.ensures.items)
  | in_default w ↦ no_one_added c.args.self.now.named.items _ _ c.args.left c.args.name w.in_default.is (ap (λ scanner. scanner.named.items) w.self-is)
]

pub returns-clause-numbered : goal.returns-clause-numbered
returns-clause-numbered c = λ before many.
    let old = c.args.self.now in
    let pushed = c.in_ok-push-2.ensures.items in
    let long = length-append c.match-name.self.names.items (c.args.name ∷ []) in
    elim c.match-name.branch [
      | in-Some+in_ok-clone+in_ok-outermost+in_ok-push w ↦
          let names : w.in_ok-clone.field-0.items ≡ w.in-Some.name.items = same_from_all_zip _ _ _ w.in_ok-clone.ensures.cases.0 (λ x y h. h) in
          let kept = ap (λ (scanner : Scanner). scanner.names.items) w.self-is in
          let few : length old.names.items + 1 < 2 ^ 32 = omega (arith, many, ap length pushed, long, ap length kept) in
          let reported = rw w.deref.ensures.value at w.next_number.ensures in
          number_added old.named.items _ _ w.in-Some.name c.args.name old.names.items _ w.in-Some.is names (reported few)
          (ap (λ (scanner : Scanner). scanner.named.items) w.self-is ∙ w.in_ok-push.ensures.items)
          (pushed ∙ ap (λ ns. ns ++ c.args.name ∷ []) kept) (before (omega (arith, few)))
      | in_default w ↦
          let kept = ap (λ (scanner : Scanner). scanner.names.items) w.self-is in
          let few : length old.names.items + 1 < 2 ^ 32 = omega (arith, many, ap length pushed, long, ap length kept) in
          none_numbered old.named.items _ c.args.name old.names.items _ w.in_default.is
          (ap (λ (scanner : Scanner). scanner.named.items) w.self-is) (pushed ∙ ap (λ ns. ns ++ c.args.name ∷ []) kept) (before (omega (arith, few)))
    ]
