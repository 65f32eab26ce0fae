use Rattle.std.proofs.Common.{◌≡◌, ◌-◌, ◌^◌, [], false, true, ap, ◌++◌, ◌∙◌, codes, string_bytes}
use Rattle.std.specs.Fmt.{digits, padded_integral, format_spec}
use Rattle.regress_differences.proofs.TextLemmas.{padded_to_four}
use Rattle.regress_differences.proofs.text.number.Goals as goal

pub returns : goal.returns
returns c =
    let wrote : string_bytes c.in_ok-format.field-0 ≡ codes "U+" ++ padded_integral (format_spec 32 0 4 4 (2 ^ 64 - 1)) false [] (digits 16 true c.args.c) =
    rw (c.in_radix.ensures, c.laid_out.ensures) at c.in_ok-format.ensures.ok in
    wrote ∙ ap (λ t. codes "U+" ++ t) (padded_to_four c.args.c)
