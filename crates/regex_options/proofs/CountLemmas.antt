-- The number of an option is what `parse` reads.
use Rattle.std.proofs.Common.{◌≡◌, ◌≢◌, ℕ, ◌<◌, ◌^◌, Bool, true, false, cond, not, ◌&&◌, eqb, ltb, List, length, get_or, Some, None, arith}
use Rattle.std.specs.Prelude.{Result, Ok, Err}
use Rattle.std.specs.Result.{OkIff, result_ok}
use Rattle.std.specs.Str.{all_ascii_digits}
use Rattle.std.specs.Str.Parse.{ParsesUnsigned, digits_value}
use Rattle.std.proofs.lemmas.Bool.Decides.{nat_tests}
use Rattle.std.proofs.lemmas.Str.Parse.{IsNumeralModel, numerals_by_value, parse_plain, tells_all_ascii_digits}
use Rattle.regex_options.specs.Given.{count_of}

own : IsNumeralModel (λ ds. all_ascii_digits ds ≡ true) (digits_value 10)
own = numerals_by_value _ tells_all_ascii_digits

by_tests : {E : Type 0} (digits : Bool) (size value : ℕ) (r : Result ℕ E) → OkIff r ((digits ≡ true) × (0 < size) × (value < 2 ^ 64)) value →
    result_ok r ≡ cond (not (eqb size 0) && digits && ltb value (2 ^ 64)) (Some value) None
by_tests digits size value (Ok x) h = grind (arith, nat_tests)
by_tests false size value (Err e) h = grind (arith, nat_tests)
by_tests true size value (Err e) h = grind (arith, nat_tests)

-- a text without a plus in front
pub count_read : {E : Type 0} (text : List ℕ) (r : Result ℕ E) → ParsesUnsigned 64 10 text r → get_or text 0 0 ≢ 43 → result_ok r ≡ count_of text
count_read text r read plain =
    by_tests (all_ascii_digits text) (length text) (digits_value 10 text) r (parse_plain own 64 text r read plain)
