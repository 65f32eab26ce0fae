-- The list has the keycaps of the keys so far.
use Rattle.std.proofs.Common.{◌≡◌, [], ◌∷◌, map, take}
use Rattle.regress_unicode.proofs.small.small_strings.Given as goal

abbrev pub invariant-loop-key : goal.invariant-loop-key
invariant-loop-key l =
    map (λ string. string.items) l.keycaps.items ≡ map (λ key. key ∷ 0xFE0F ∷ 0x20E3 ∷ []) (take l.key-index l.key-items)
