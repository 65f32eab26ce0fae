-- none of the items before is it
use Rattle.std.proofs.Common.{◌≡◌, drop, map}
use Rattle.regex_options.specs.Colors.{is_given}
use Rattle.regex_options.proofs.colors.is_given.Given as goal

abbrev pub invariant-loop-item : goal.invariant-loop-item
invariant-loop-item l = is_given l.wanted (map (λ item. item.now) (drop l.item-index l.items)) ≡ is_given l.wanted (map (λ item. item.now) l.items)
