-- Inputs that are not read.
use Rattle.std.proofs.Common.{◌≡◌, ◌∙◌, ◌⊎◌, ◌||◌, inl, inr, ℕ, suc, Bool, true, false, List, [], ◌∷◌, Option, arith, length, map, refl, subst, sym}
use Rattle.std.proofs.lemmas.Bool.{eqb-true}
use Rattle.regress.specs.declared.pattern.Regex.{Regex}
use Rattle.regex_command.specs.Printed.{IsQuiet, IsQuietAt, PrintsAll, PrintsFirst, SearchesUntil, are_read, changes, is_complete, is_silent}
use Rattle.regex_lines.specs.Ending.{IsSearchFailure, OrOutput}
use Rattle.regex_lines.specs.Searched.{Input, WritesInputs, WritesSomeOf, inputs_of}
use Rattle.regex_lines.specs.Unread.{Unread, unread_of, unread_path}
use Rattle.regex_lines.specs.Walk.{Found, IsFound}
use Rattle.regex_lines.specs.declared.failure.Failure.{Failure}
use Rattle.regex_lines.specs.declared.failure.Failure.TheVariants.{Argument, Memory, Output, Closed, Syntax, TooLarge, OutOfSteps, Unreadable, Incomplete, PatternNotUtf8, TooLong}
use Rattle.regex_lines.specs.declared.unread.Unread as code
use Rattle.regex_lines.specs.declared.unread.UnreadPath as code_path
use Rattle.regex_options.specs.Plain.{FileList, Job}
use Rattle.regex_options.specs.Request.{Action, Ask, apply, escape, explain, help, lint, search, show}
use Rattle.regex_options.specs.declared.task.InputForm.{InputForm}
use Rattle.regress.specs.Compiled.{IsCompiledIn}
use Rattle.regress_front.specs.declared.parse.Dialect.{Dialect}
use Rattle.regress_tree.specs.Steps.{Setting}
use Rattle.std.specs.Prelude.{◌&&◌, ◌==◌, ⊤, IfErr, IfOk, Result, Ok, Err, is_ok}

-- All inputs are read where that is complete and not silent, or no line is selected.
pub all_loud : (job : Job) (any all : Bool) → is_complete job any all ≡ true → is_silent job ≡ false → all ≡ true
all_loud job any true complete loud = refl
all_loud job true false complete loud = sym loud ∙ complete
all_loud job false false complete loud = complete

pub all_if_none : (job : Job) (any all : Bool) → is_complete job any all ≡ true → any ≡ false → all ≡ true
all_if_none job any true complete none = refl
all_if_none job true false complete none = let bad : ⊥ = cc none in absurd bad
all_if_none job false false complete none = complete

both : (a b : Bool) → (a && b) ≡ true → (a ≡ true) × (b ≡ true)
both true b is = (refl, is)
both false b is = let bad : ⊥ = cc is in absurd bad

none_in : {X Y : Type 0} (f : X → Y) (xs : List X) → (length (map f xs) == 0) ≡ true → xs ≡ []
none_in f [] is = refl
none_in f (x ∷ xs) is = absurd (omega (arith, eqb-true (suc (length (map f xs))) 0 is))

-- Nothing is lost or left unread.
pub none_lost : (lost : List code_path.UnreadPath) (unread : List code.Unread) → are_read (map unread_path lost) (map unread_of unread) ≡ true →
    (lost ≡ []) × (unread ≡ [])
none_lost lost unread read =
    let none = both (length (map unread_path lost) == 0) (length (map unread_of unread) == 0) read in
    (none_in unread_path lost none.0, none_in unread_of unread none.1)

-- the first lines, before a failure of the search
pub until : (costly : Type 0) (r : Regex) (job : Job) (inputs : List Input) (lost : List Unread) (old new : Option (List ℕ)) (unread : List Unread)
    (failure : Failure) → IsSearchFailure costly failure → WritesSomeOf r job inputs old new unread → SearchesUntil r job inputs lost failure old new
until costly r job inputs lost old new unread Argument may some = (unread, some)
until costly r job inputs lost old new unread Memory may some = (unread, some)
until costly r job inputs lost old new unread Output may some = (unread, some)
until costly r job inputs lost old new unread Closed may some = (unread, some)
until costly r job inputs lost old new unread (Syntax pattern text position) may some = (unread, some)
until costly r job inputs lost old new unread TooLarge may some = (unread, some)
until costly r job inputs lost old new unread OutOfSteps may some = (unread, some)
until costly r job inputs lost old new unread (Unreadable file) may some = absurd may
until costly r job inputs lost old new unread Incomplete may some = absurd may
until costly r job inputs lost old new unread (PatternNotUtf8 name offset) may some = (unread, some)
until costly r job inputs lost old new unread (TooLong name) may some = (unread, some)

-- what is known where nothing is found
quiet_at : (none quiet : Type 0) (action : Action) → IsQuietAt none quiet action → none → IsQuietAt ⊤ quiet action
quiet_at none quiet (search job form files) h is = λ _. h is
quiet_at none quiet (show view) h is = h
quiet_at none quiet lint h is = h
quiet_at none quiet (explain form) h is = h

pub quiet_none : (none quiet : Type 0) (ask : Ask) → IsQuiet none quiet ask → none → IsQuiet ⊤ quiet ask
quiet_none none quiet (help text) h is = h
quiet_none none quiet (escape string) h is = h
quiet_none none quiet (apply request) h is = quiet_at none quiet request.action h is

module _ (dialect : Dialect) (setting : Setting) (text : List ℕ) (job : Job) (form : InputForm) (files : FileList) (input old new : Option (List ℕ)) where
  module _ (r : Regex) (compiled : IsCompiledIn dialect setting text r) (walked : Found) (is_found : IsFound files walked) where
    abbrev inputs : List Input
    inputs = inputs_of job form walked.several walked.files input

    module _ (any : Bool) (unread : List Unread) where
      -- all inputs, at the end of a search
      pub prints_all : (result : Result Bool Failure) → is_complete job any (are_read walked.unread unread) ≡ is_ok result →
          IfOk result (λ found. found ≡ any || changes job) → WritesInputs r job inputs old new unread any →
          IfOk result (PrintsAll dialect setting text job form files input old new)
      prints_all (Ok found) complete is writes = (r, compiled, (walked, is_found, (any, is, (unread, complete, writes))))
      prints_all (Err failure) complete is writes = tt

      pub prints_incomplete : (same : Type 0) (result : Result Bool Failure) → is_complete job any (are_read walked.unread unread) ≡ is_ok result →
          IfErr result (λ failure. failure ≡ Incomplete) → WritesInputs r job inputs old new unread any →
          IfErr result (λ failure. OrOutput (same ⊎ PrintsFirst dialect setting text job form files input old new failure) failure)
      prints_incomplete same (Ok found) complete is writes = tt
      prints_incomplete same (Err failure) complete is writes =
          subst (λ f. OrOutput (same ⊎ PrintsFirst dialect setting text job form files input old new f) f) (sym is)
          (inr (inr (r, compiled, (walked, is_found, (any || changes job, (any, refl, (unread, complete, writes)))))))

    -- the first lines, before a failure
    pub prints_first : (costly same : Type 0) (unread : List Unread) (failure : Failure) → IsSearchFailure costly failure →
        OrOutput (WritesSomeOf r job inputs old new unread) failure →
        OrOutput (same ⊎ PrintsFirst dialect setting text job form files input old new failure) failure
    prints_first costly same unread failure may (inl output) = inl output
    prints_first costly same unread failure may (inr some) =
        inr (inr (r, compiled, (walked, is_found, until costly r job inputs walked.unread old new unread failure may some)))

pub none_of : (a b : Bool) → false ≡ a || b → a ≡ false
none_of true b is = sym is
none_of false b is = refl
