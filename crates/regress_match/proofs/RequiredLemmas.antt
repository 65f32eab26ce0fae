-- What follows where a byte that each match contains does not occur.
use Rattle.std.proofs.Common.{◌≡◌, ◌∙◌, ℕ, ◌+◌, ◌-◌, ◌<◌, List, length, drop, slice_index, Option, Some, None, ap, arith}
use Rattle.std.specs.Prelude.{MatchOption}
use Rattle.std.proofs.lemmas.Bool.{eq-eqb}
use Rattle.std.proofs.lemmas.List.{length-drop, get_or-drop}
use Rattle.memchr.specs.Find.{IsFirstByte, is_byte}
use Rattle.regress_prefilter.specs.Required.{NoneFrom}

pub offset_is : (byte : ℕ) (text ahead : List ℕ) (from : ℕ) (found : Option ℕ) → ahead ≡ drop from text → IsFirstByte (is_byte byte) ahead found →
    MatchOption found (NoneFrom byte text from) (λ i. from + i < length text)
offset_is byte text ahead from None is none =
    λ k later inside same.
    let there : from + (k - from) ≡ k = omega (arith, later) in
    let it : slice_index ahead (k - from) ≡ byte =
    ap (λ xs. slice_index xs (k - from)) is ∙ get_or-drop from text (k - from) 0 ∙ ap (slice_index text) there ∙ same in
    none (k - from) (omega arith) (omega (arith, later, inside, ap length is, length-drop from text)) (eq-eqb (slice_index ahead (k - from)) byte it)
offset_is byte text ahead from (Some i) is found = omega (arith, found.0.high, ap length is, length-drop from text)
