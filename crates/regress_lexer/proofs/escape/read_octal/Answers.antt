use Rattle.std.proofs.Common.{◌≡◌, ◌∷◌, arith}
use Rattle.regress_lexer.specs.Escapes.{octal_digits}
use Rattle.regress_lexer.specs.Digits.{number, number_from}
use Rattle.regress_lexer.proofs.lemmas.Digits.{octal_digits_counted, octal_number_fits, next_number}
use Rattle.regress_lexer.proofs.escape.read_octal.Goals as goal

digits_are : (c : goal.After-number_from) → octal_digits c.args.c c.args.source.now ≡ c.args.c ∷ c.split_at.result.0.now
digits_are c =
    let counted = octal_digits_counted c.args.c c.more_octal_digits.result c.octal_length.result c.args.source.now c.requires c.more_octal_digits.ensures
    (rw (← c.min.ensures) c.octal_length.ensures.value) in
    rw c.split_at.ensures.front counted

number_is : (c : goal.After-number_from) → c.number_from.result ≡ number 8 (octal_digits c.args.c c.args.source.now)
number_is c =
    let fits = octal_number_fits c.args.c c.args.source.now in
    let same : number 8 (octal_digits c.args.c c.args.source.now) ≡ number_from 8 c.digit.result c.split_at.result.0.now =
    rw (digits_are c) (next_number 8 c.args.c c.digit.result c.split_at.result.0.now c.digit.ensures) in
    omega (arith, fits, same, c.number_from.ensures)

pub overflow_cast-result : goal.overflow_cast-result
overflow_cast-result c = let fits = octal_number_fits c.args.c c.args.source.now in omega (arith, fits, number_is c)

pub returns-clause-value : goal.returns-clause-value
returns-clause-value c = number_is c

pub returns-clause-rest : goal.returns-clause-rest
returns-clause-rest c =
    rw (digits_are c, c.split_at.ensures.front_len) c.split_at.ensures.back
