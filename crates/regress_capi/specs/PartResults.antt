-- The numbers of the parts of a text that is split.
use Rattle.std.specs.Prelude.{◌≡◌, ℕ, List, Option, Some, flat_map}
use Rattle.regress.specs.Compiled.{outcomes_of}
use Rattle.regress.specs.Replaced.{ArePartSpans}
use Rattle.regress.specs.declared.pattern.Regex.{Regex}
use Rattle.regress_front.specs.Steps.{CaptureSpan}
use Rattle.regress_capi.specs.Spans.{ends_of}

-- the start and the end of each part, as by `split` of ECMA-262, at most as many parts as the limit
abbrev pub AreEndsOfParts : Regex → (text : List ℕ) → (limit : ℕ) → List ℕ → Type 0
AreEndsOfParts regex text limit numbers =
    (spans : List (Option CaptureSpan)) × ArePartSpans text (outcomes_of regex text) (Some limit) spans × (numbers ≡ flat_map ends_of spans)
