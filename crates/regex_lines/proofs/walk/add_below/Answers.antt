use Rattle.std.proofs.Common.{◌∙◌, ◌++◌, All, [], ◌∷◌, List, ap, map, refl, subst, sym, true}
use Rattle.std.proofs.lemmas.List.{map-append}
use Rattle.std.proofs.lemmas.List.Elements.{All-append, All-nil, All-push}
use Rattle.std.specs.Prelude.{string_bytes}
use Rattle.regex_lines.specs.Walk.{IsPending, IsUnder, filter}
use Rattle.regex_lines.specs.declared.walk.Entry.{Entry}
use Rattle.regex_lines.specs.declared.walk.Found.{Found}
use Rattle.regex_lines.proofs.WalkLemmas.{AreAdded, all_before, all_pending, at_root, directory_of, file_of, last_of, none_added, one_added}
use Rattle.regex_lines.proofs.walk.add_below.Goals.{then-entry+in_ok-entries+in_ok-append, else-entry+in_ok-push-2}
use Rattle.regex_lines.proofs.walk.add_below.Goals as goal

pub loop-init : goal.loop-init
loop-init g c =
    let filters = map filter c.args.filters.now in
    let root = c.args.root.now in
    let P = IsPending filters root in
    let entry : Entry = record { path = c.in_ok-from_str.field-0; is_directory = true } in (
      subst (All P) (sym (c.in_ok-push.ensures.items ∙ ap (λ (xs : List Entry). xs ++ entry ∷ []) c.new-pending.ensures.items))
          (All-push P [] entry (All-nil P) (at_root filters root entry c.in_ok-from_str.ensures.ok refl)),
      none_added filters root (map string_bytes c.args.found.now.files.items),
      refl,
    )

pub loop-preserved : goal.loop-preserved
loop-preserved g c =
    let filters = map filter c.args.filters.now in
    let root = c.args.root.now in
    let P = IsPending filters root in
    let before = map string_bytes c.args.found.now.files.items in
    let between = map string_bytes c.loop.found.files.items in
    let rest = c.pop.new.self.items in
    let entry = c.in-Some.entry in
    let all : All P (rest ++ entry ∷ []) = subst (All P) c.in-Some.ensures.items c.loop.invariant.0 in
    let front : All P rest = all_before P rest entry all in
    let is : P entry = last_of P rest entry all in
    elim c.if-entry.branch [
      | then-entry+in_ok-entries+in_ok-append w ↦
          let directory = w.as_str.result.now in
          let under : IsUnder root directory = subst (IsUnder root) (sym w.as_str.ensures.value) (directory_of filters root entry is w.if-entry.true) in (
            subst (All P) (sym (ap (λ v. v.items) w.pending-is ∙ w.in_ok-append.ensures.items))
                (All-append P rest w.in_ok-entries.entries.items front
                (all_pending filters root directory under w.in_ok-entries.entries.items w.in_ok-entries.ensures)),
            subst (λ (f : Found). AreAdded filters root before (map string_bytes f.files.items)) (sym w.found-is) c.loop.invariant.1,
            ap (λ (f : Found). f.several) w.found-is ∙ c.loop.invariant.2,
          )
      | else-entry+in_ok-push-2 w ↦ (
        subst (All P) (sym (ap (λ v. v.items) w.pending-is)) front,
        one_added filters root before between (map string_bytes c.if-entry.found.files.items) (string_bytes entry.path) c.loop.invariant.1
            (file_of filters root entry is w.if-entry.false)
            (ap (λ (f : Found). map string_bytes f.files.items) w.found-is ∙ ap (map string_bytes) w.in_ok-push-2.ensures.items
            ∙ map-append string_bytes c.loop.found.files.items (entry.path ∷ [])),
        ap (λ (f : Found). f.several) w.found-is ∙ c.loop.invariant.2,
      )
    ]
