-- none of the names before is it
use Rattle.std.proofs.Common.{◌≡◌, drop, map}
use Rattle.regex_options.specs.Colors.{is_among}
use Rattle.regex_options.proofs.colors.is_among.Given as goal

abbrev pub invariant-loop-name : goal.invariant-loop-name
invariant-loop-name l = is_among l.wanted (map (λ name. name.now) (drop l.name-index l.names)) ≡ is_among l.wanted (map (λ name. name.now) l.names)
