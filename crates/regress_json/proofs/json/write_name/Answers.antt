use Rattle.std.proofs.Common.{◌≡◌, ◌∙◌, sym}
use Rattle.regress_json.proofs.json.write_name.Goals as goal

pub returns-in-Some-2 : goal.returns-in-Some-2
returns-in-Some-2 g c plain ok =
    let no_word = sym (rw c.as_bytes.ensures.value at c.is_word.ensures) ∙ c.if-is_word.false in
    let same : c.in-Some-2.name ≡ c.in-Some.name = cc (c.in-Some.is, c.in-Some-2.is) in
    rw (c.in-Some.is, no_word)
    (rw (c.as_bytes-in-Some-2.ensures.value, same) at (c.write_byte_list.ensures plain ok))
