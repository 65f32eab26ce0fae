use Rattle.std.proofs.Common.{◌≡◌, true}
use Rattle.regress_capi.specs.CompileResults.{bad, out_of_memory}
use Rattle.regress_capi.proofs.CompileLemmas.{compile-large, compile-ok, compile-rejected}
use Rattle.regress_capi.proofs.compiling.write_compiled.Goals as goal

pub returns-then-not-are_compile_bits : goal.returns-then-not-are_compile_bits
returns-then-not-are_compile_bits c = record {
  status = rw c.bare.ensures (bad (λ asked. let yes : c.are_compile_bits.result ≡ true = c.are_compile_bits.ensures.1 asked.1 in cc));
}

pub returns-in-Ok-compile : goal.returns-in-Ok-compile
returns-in-Ok-compile c = record {
  status =
      rw c.bare-in-Ok-compile.ensures
      (compile-ok c.in-Ok.pattern.now (c.in-Ok.ensures.cases.1, c.are_compile_bits.ensures.0 (cc)) c.in-Ok.ensures.cases.0 c.of.result.value
      c.in-Ok-compile.regex.value c.in-Ok-compile.ensures.compiled c.of.ensures);
}

pub returns-in-Err-Syntax : goal.returns-in-Err-Syntax
returns-in-Err-Syntax c = record {
  status =
      rw c.of_error.ensures
      (compile-rejected c.in-Ok.pattern.now (c.in-Ok.ensures.cases.1, c.are_compile_bits.ensures.0 (cc)) c.in-Ok.ensures.cases.0 c.in-Err-Syntax.kind _
      c.in-Err-Syntax.position (rw c.in-Err-Syntax.field-0-is at c.in-Err-Syntax.ensures.failed));
}

pub returns-in-Err-TooLarge : goal.returns-in-Err-TooLarge
returns-in-Err-TooLarge c = record {
  status =
      rw c.bare-in-Err-TooLarge.ensures
      (compile-large c.in-Ok.pattern.now (c.in-Ok.ensures.cases.1, c.are_compile_bits.ensures.0 (cc)) c.in-Ok.ensures.cases.0
      (rw c.in-Err-TooLarge.field-0-is at c.in-Err-TooLarge.ensures.failed));
}

pub returns-in-Ok : goal.returns-in-Ok
returns-in-Ok c = record { status = rw c.bare-in-Err-Memory.ensures (out_of_memory (c.in-Ok.ensures.cases.1, c.are_compile_bits.ensures.0 (cc))) }

pub returns : goal.returns
returns c = record { status = rw c.bare-in-Err.ensures (bad (λ asked. c.in-Err.ensures.cases.0 asked.0)) }
