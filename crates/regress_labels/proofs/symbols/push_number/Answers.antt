use Rattle.std.proofs.Common.{◌≡◌, ◌∙◌, ℕ, ◌-◌, ◌^◌, true, false, [], ◌++◌, ap, append-nil, arith, codes, length, replicate, rules, string_bytes}
use Rattle.std.proofs.lemmas.Grind.{common_steps}
use Rattle.std.proofs.lemmas.Result.{IfOk-equal}
use Rattle.std.specs.Fmt.{char_count, digits, format_spec, padded_integral}
use Rattle.regress_labels.proofs.symbols.push_number.Goals as goal

-- a number padded with zeros to four digits
four_digits : (n : ℕ) → padded_integral (format_spec 32 0 4 4 (2 ^ 64 - 1)) false [] (digits 16 true n)
    ≡ replicate (4 - length (digits 16 true n)) 48 ++ digits 16 true n
unfolding padded_integral char_count
four_digits n = first_of (search append-nil, grind (arith, common_steps))

pub returns : goal.returns
returns c =
    let wrote = rw (c.in_radix.ensures, c.laid_out.ensures) at c.in_ok-format.ensures.ok in
    let old = string_bytes c.args.text.now in
    IfOk-equal c.push_str.result (string_bytes c.push_str.new.self) (old ++ c.deref.result.now) _ (search rules)
    (ap (λ text. old ++ text) (c.deref.ensures ∙ wrote ∙ ap (λ t. codes "U+" ++ t) (four_digits c.args.c)))
