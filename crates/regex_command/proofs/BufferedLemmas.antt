-- What is printed through a buffer is printed to the buffered writer.
use Rattle.std.proofs.Common.{◌≡◌, ℕ, Bool, List, [], Option}
use Rattle.std.specs.Prelude.{IfOk, Result, Ok, Err}
use Rattle.std.specs.Io.KnownBytes.{Keeps, append_known}
use Rattle.regress_arguments.proofs.lemmas.Output.{appends_through, took_through}
use Rattle.regress_base.specs.declared.types.Flags.{Flags}
use Rattle.regress_front.specs.declared.parse.Dialect.{Dialect}
use Rattle.regex_options.specs.Request.{Action, Ask, apply, escape, explain, help, lint, search, show}
use Rattle.regex_command.specs.Joined.{joined}
use Rattle.regex_command.specs.Printed.{Does, Prints}

pub IfOk_then : {X E : Type 0} (r : Result X E) {P Q : X → Type 0} → IfOk r P → ((x : X) → P x → Q x) → IfOk r Q
IfOk_then (Ok x) h f = f x h
IfOk_then (Err e) h f = tt

module _ (input old start between new : Option (List ℕ)) (empty : start ≡ append_known old []) (kept : Keeps between new) where
  does_through : (dialect : Dialect) (flags : Flags) (text : List ℕ) (action : Action) (found : Bool) →
      Does dialect flags text action input start between found → Does dialect flags text action input old new found
  does_through dialect flags text (search job form files) found h =
      let walked = h.2 in
      let all = walked.2.2 in
      let written = all.2 in (
        h.0,
        h.1,
        (
          walked.0,
          walked.1,
          (walked.2.0, walked.2.1, (all.0, all.1, (written.0, written.1, appends_through old start between new empty kept written.0 written.2))),
        ),
      )
  does_through dialect flags text (show view) found h = took_through old start between new empty kept _ h
  does_through dialect flags text lint found h = took_through old start between new empty kept _ h
  does_through dialect flags text (explain form) found h = took_through old start between new empty kept _ h

  pub through : (found : Bool) (ask : Ask) → Prints input start between found ask → Prints input old new found ask
  through found (help text) h = (h.0, appends_through old start between new empty kept _ h.1)
  through found (escape string) h = (h.0, took_through old start between new empty kept _ h.1)
  through found (apply request) h =
      (h.0, h.1, (h.2.0, does_through request.dialect request.flags (joined request.form h.0) request.action found h.2.1))
