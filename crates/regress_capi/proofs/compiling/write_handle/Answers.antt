use Rattle.std.proofs.Common.{◌∙◌, ap, subst}
use Rattle.regress_capi.specs.CompileResults.{CompileResult, options_of}
use Rattle.regress_capi.specs.Request.{setting_in, IsCompileRequest}
use Rattle.regress_capi.proofs.compiling.write_handle.Goals as goal

pub returns : goal.returns
returns c = record {
  status =
      subst
      (λ options. CompileResult (IsCompileRequest c.args.pattern.now c.args.bits) (setting_in options.dialect c.args.bits) c.args.pattern.now options
      c.args.handle.now.value c.write_compiled.result.status c.write_compiled.result.kind c.write_compiled.result.position c.write_compiled.new.handle.value)
      (c.options.ensures ∙ ap (λ dialect. options_of dialect c.args.limits.now) c.dialect_of.ensures) c.write_compiled.ensures.status;
}
