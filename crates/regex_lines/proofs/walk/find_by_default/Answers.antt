use Rattle.std.proofs.Common.{◌∙◌, ◌++◌, All, [], ◌∷◌, List, ℕ, ap, map, subst, sym}
use Rattle.std.specs.Prelude.{string_bytes}
use Rattle.regex_lines.specs.Walk.{AreDefault, IsSelectedBelow, filter}
use Rattle.regex_lines.specs.declared.walk.Found.{Found}
use Rattle.regex_lines.proofs.walk.find_by_default.Goals.{then-recursive+in_ok-add_below, else-recursive+in_ok-from_str+in_ok-push}
use Rattle.regex_lines.proofs.walk.find_by_default.Goals as goal

pub returns-clause-files : goal.returns-clause-files
returns-clause-files g c =
    let filters = map filter c.args.filters.now in
    let files = map string_bytes c.if-recursive.found.files.items in
    elim c.if-recursive.branch [
      | then-recursive+in_ok-add_below w ↦
          let added = w.in_ok-add_below.ensures.files in
          subst (λ recursive. AreDefault recursive filters files) (sym w.if-recursive.true)
          (subst (All (IsSelectedBelow filters []))
          (sym (ap (λ (f : Found). map string_bytes f.files.items) w.found-is ∙ added.2 ∙ ap (λ xs. map string_bytes xs ++ added.0) c.new.ensures.items)) added.1)
      | else-recursive+in_ok-from_str+in_ok-push w ↦
          subst (λ recursive. AreDefault recursive filters files) (sym w.if-recursive.false)
          (ap (λ (f : Found). map string_bytes f.files.items) w.found-is
          ∙ ap (map string_bytes) (w.in_ok-push.ensures.items ∙ ap (λ xs. xs ++ w.in_ok-from_str.field-0 ∷ []) c.new.ensures.items)
          ∙ ap (λ (name : List ℕ). name ∷ []) w.in_ok-from_str.ensures.ok)
    ]
