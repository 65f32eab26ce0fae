use Rattle.std.proofs.Common.{◌∙◌, ◌++◌, ◌∷◌, [], inl, ap, map, refl}
use Rattle.std.proofs.lemmas.List.{map-append}
use Rattle.std.specs.Prelude.{string_bytes}
use Rattle.regex_lines.proofs.walk.add_named.Goals as goal

pub returns : goal.returns
returns g c = (
  c.args.name.now ∷ [],
  inl refl,
  ap (map string_bytes) c.in_ok-push.ensures.items ∙ map-append string_bytes c.args.to.now.items (c.in_ok-from_str.field-0 ∷ [])
      ∙ ap (λ name. map string_bytes c.args.to.now.items ++ name ∷ []) c.in_ok-from_str.ensures.ok,
)
