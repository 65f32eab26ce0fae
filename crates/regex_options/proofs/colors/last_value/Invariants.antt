-- the items that are left, with the last value so far, yield what all items yield
use denote.Shadow.{shadow}
use denote.Text.{Utf8}
use Rattle.std.proofs.Common.{◌≡◌, drop, map}
use Rattle.regex_options.specs.Colors.{last_value}
use Rattle.regex_options.proofs.colors.last_value.Given as goal

abbrev pub invariant-loop-item : goal.invariant-loop-item
invariant-loop-item l =
    (let names = map (λ name. name.now) l.names in
    last_value names l.last (map (λ item. item.now) (drop l.item-index l.items)) ≡ last_value names l.default (map (λ item. item.now) l.items))
    × shadow (Utf8 l.last)
