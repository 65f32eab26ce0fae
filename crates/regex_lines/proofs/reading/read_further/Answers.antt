use Rattle.std.proofs.Common.{get_or, rules, ◌≡◌, ◌-◌, ◌++◌, ℕ, drop, length, refl, subst, ap}
use Rattle.std.specs.Io.{StopsAt}
use Rattle.std.specs.Io.KnownBytes.{Consumes}
use Rattle.std.specs.Io.BufRead.{take_through}
use Rattle.std.specs.Prelude.{IfSome}
use Rattle.regex_lines.proofs.LineLemmas.{at_end, no_line_feed}
use Rattle.regex_lines.proofs.reading.read_further.Goals as goal

pub returns-in-Some : goal.returns-in-Some
returns-in-Some g c =
    let read = c.in_ok-read_until.ensures in
    let new = c.read_until.new.buf.items in
    let old = g.B.Read.remaining c.args.reader.now in
    let all = ap (λ l. drop (length l) new) c.clear.ensures.items in
    let none = no_line_feed new c.in-Some.field-0.now (subst (λ l. StopsAt l 10) all read.stops)
    (subst (λ l. (d : ℕ) → c.in-Some.field-0.now ≡ get_or l (length l - 1) d) c.deref.ensures.value c.in-Some.ensures.item.3.1) c.in-Some.field-0-test.1 in (
      none,
      search rules,
      subst (λ l. Consumes old (g.B.Read.remaining c.read_until.new.self) l) all read.none_lost,
      at_end old _ new (subst (λ l. IfSome old (λ xs. new ≡ l ++ take_through 10 xs)) c.clear.ensures.items read.bytes) read.rest none,
      refl,
    )
