use Rattle.std.proofs.Common.{◌∙◌, All, ap, map, subst, sym}
use Rattle.std.proofs.lemmas.List.Elements.{All-push}
use Rattle.regex_lines.specs.Walk.{IfEntry, IsEntry, filter}
use Rattle.regex_lines.proofs.WalkLemmas.{all_reversed}
use Rattle.regex_lines.proofs.walk.entries_in.Goals.{in-Entry+in_ok-push-in-Entry, in-Unread+in_ok-push-in-Unread, in-Other}
use Rattle.regex_lines.proofs.walk.entries_in.Goals as goal

pub loop-name-preserved : goal.loop-name-preserved
loop-name-preserved g c =
    let P = IsEntry (map filter c.args.filters.now) c.args.directory.now in
    elim c.match-branch-4.branch [
      | in-Entry+in_ok-push-in-Entry w ↦
          subst (All P) (sym (ap (λ v. v.items) w.entries-is ∙ w.in_ok-push-in-Entry.ensures.items))
          (All-push P c.loop-name.entries.items w.in-Entry.entry c.loop-name.invariant (subst (IfEntry P) w.in-Entry.is c.in_ok-entry.ensures))
      | in-Unread+in_ok-push-in-Unread w ↦ subst (All P) (sym (ap (λ v. v.items) w.entries-is)) c.loop-name.invariant
      | in-Other w ↦ subst (All P) (sym (ap (λ v. v.items) w.entries-is)) c.loop-name.invariant
    ]

pub returns : goal.returns
returns g c =
    let P = IsEntry (map filter c.args.filters.now) c.args.directory.now in
    subst (All P) (sym c.reverse.ensures.items) (all_reversed P c.loop-name.entries.items c.loop-name.invariant)
