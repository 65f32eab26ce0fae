use Rattle.std.proofs.Common.{◌≡◌, ◌++◌, ◌∷◌, chars, encode_utf8, encode_utf8_all, string_bytes, sym, ap, ◌∙◌}
use Rattle.std.specs.Str.Iter.{chars_rest}
use Rattle.std.proofs.lemmas.Iterator.{YieldsList-from_chars}
use Rattle.std.proofs.lemmas.Iterator.Consumers.{YieldsList-end}
use Rattle.std.proofs.lemmas.List.{map-id}
use Rattle.std.proofs.lemmas.Str.{IsUtf8-past_char, IsUtf8-string_bytes, chars_past_char, chars_from_encodes}
use Rattle.regress_escape.specs.Escape.{escaped}
use Rattle.regress_escape.proofs.EncodingLemmas.{one_more, whole}
use Rattle.regress_escape.proofs.pattern.escape.Goals as goal

pub loop-c-preserved : goal.loop-c-preserved
loop-c-preserved c = one_more _ _ _ c.loop-c.yielded c.in-Some-c.c c.loop-c.invariant c.in_ok-push_character.ensures

pub returns : goal.returns
returns c =
    let rest = chars_rest c.next.new.self in
    let split : c.args.text.now ≡ encode_utf8 c.in-Some.first ++ rest = sym c.chars-characters.ensures.rest ∙ c.in-Some.ensures.steps.0 in
    let valid = IsUtf8-past_char c.args.text.now rest c.in-Some.first c.utf8.text split in
    let yields = YieldsList-from_chars rest valid cc in
    let all = YieldsList-end yields c.loop-c.yielded _ c.loop-c.yielded_by _ _ c.in-None.is c.next-in-loop-c.ensures.steps in
    let characters : chars c.args.text.now ≡ c.in-Some.first ∷ c.loop-c.yielded =
    chars_past_char c.args.text.now rest c.in-Some.first c.utf8.text split
    ∙ ap (λ cs. c.in-Some.first ∷ cs) (sym all.0 ∙ map-id c.loop-c.yielded) in
    let written = whole _ _ _ c.loop-c.yielded c.in-Some.first c.new-pattern.ensures.bytes c.in_ok-push_first.ensures c.loop-c.invariant in
    sym (chars_from_encodes (escaped (chars c.args.text.now)) (string_bytes c.loop-c.pattern) (IsUtf8-string_bytes c.loop-c.pattern)
    (ap (λ cs. encode_utf8_all (escaped cs)) characters ∙ written))
