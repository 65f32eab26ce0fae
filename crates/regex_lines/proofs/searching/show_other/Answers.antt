-- A line that is hidden adds nothing to the output.
use Rattle.std.proofs.Common.{rules, arith, ◌≡◌, ◌∙◌, ℕ, List, [], Option, None, Some, inr, refl, sym, ap, append-nil}
use Rattle.std.specs.Io.KnownBytes.{Appends}
use Rattle.regex_lines.specs.Window.{window_of, with_hidden}
use Rattle.regex_lines.proofs.searching.show_other.Goals as goal

appends_nothing : (known : Option (List ℕ)) → Appends known known []
appends_nothing None = tt
appends_nothing (Some bytes) = sym (append-nil bytes)

pub returns-then-window-eq0-clause-shown : goal.returns-then-window-eq0-clause-shown
returns-then-window-eq0-clause-shown g c =
    let old = window_of c.args.window.now in
    let hides : window_of c.hide.new.self ≡ _ =
    c.in_ok-hide.ensures ∙ ap (λ n. with_hidden n c.args.line.now.items old) c.lines_before.ensures in
    let none_due : old.due ≡ 0 = first_of (search rules, grind arith, omega arith) in
    ([], inr (none_due, refl, hides), appends_nothing (g.W.Write.contents c.args.out.now))
