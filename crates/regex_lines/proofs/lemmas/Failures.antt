-- A failure that is passed on, and one of which less is stated.
use Rattle.std.proofs.Common.{◌≡◌, inl, inr, sym, subst}
use Rattle.std.specs.Prelude.{Result, Ok, Err, IfErr}
use Rattle.std.specs.Result.{IsErrAnd}
use Rattle.regex_lines.specs.Ending.{AfterFailure, IsInputFailure, IsLate, IsSearchFailure, OrOutput}
use Rattle.regex_lines.specs.declared.failure.Failure.{Failure}
use Rattle.regex_lines.specs.declared.failure.Failure.TheVariants.{Argument, Memory, Output, Closed, Syntax, TooLarge, OutOfSteps, Unreadable, Incomplete, PatternNotUtf8, TooLong}

-- a failure that `?` passes on
pub passed_on : {X F : Type 0} (P : F → Type 0) (result : Result X F) (failure : F) → IsErrAnd result (λ f. f ≡ failure) → P failure → IfErr result P
passed_on P (Ok x) failure is p = absurd is
passed_on P (Err f) failure is p = subst P (sym is) p

pub or_output : (P Q : Type 0) (failure : Failure) → OrOutput P failure → (P → Q) → OrOutput Q failure
or_output P Q failure (inl output) more = inl output
or_output P Q failure (inr p) more = inr (more p)

-- a failure that may occur whatever the pattern is, and one that may occur if it is costly
pub costly_failure : (P Q : Type 0) → (P → Q) → (failure : Failure) → IsSearchFailure P failure → IsSearchFailure Q failure
costly_failure P Q more Argument h = absurd h
costly_failure P Q more Memory h = tt
costly_failure P Q more Output h = tt
costly_failure P Q more Closed h = tt
costly_failure P Q more (Syntax pattern text position) h = absurd h
costly_failure P Q more TooLarge h = absurd h
costly_failure P Q more OutOfSteps h = more h
costly_failure P Q more (Unreadable unread) h = absurd h
costly_failure P Q more Incomplete h = absurd h
costly_failure P Q more (PatternNotUtf8 name offset) h = absurd h
costly_failure P Q more (TooLong name) h = tt

-- the same of one input
pub costly_input : (P Q : Type 0) → (P → Q) → (failure : Failure) → IsInputFailure P failure → IsInputFailure Q failure
costly_input P Q more Argument h = absurd h
costly_input P Q more Memory h = tt
costly_input P Q more Output h = tt
costly_input P Q more Closed h = tt
costly_input P Q more (Syntax pattern text position) h = absurd h
costly_input P Q more TooLarge h = absurd h
costly_input P Q more OutOfSteps h = more h
costly_input P Q more (Unreadable unread) h = tt
costly_input P Q more Incomplete h = absurd h
costly_input P Q more (PatternNotUtf8 name offset) h = absurd h
costly_input P Q more (TooLong name) h = tt

pub late_failure : (costly : Type 0) (failure : Failure) → IsLate failure → IsSearchFailure costly failure
late_failure costly Argument h = absurd h
late_failure costly Memory h = tt
late_failure costly Output h = tt
late_failure costly Closed h = tt
late_failure costly (Syntax pattern text position) h = absurd h
late_failure costly TooLarge h = absurd h
late_failure costly OutOfSteps h = absurd h
late_failure costly (Unreadable unread) h = absurd h
late_failure costly Incomplete h = absurd h
late_failure costly (PatternNotUtf8 name offset) h = absurd h
late_failure costly (TooLong name) h = absurd h

-- A failure of a search may occur in an input.
pub of_input : (costly : Type 0) (failure : Failure) → IsSearchFailure costly failure → IsInputFailure costly failure
of_input costly Argument h = absurd h
of_input costly Memory h = tt
of_input costly Output h = tt
of_input costly Closed h = tt
of_input costly (Syntax pattern text position) h = absurd h
of_input costly TooLarge h = absurd h
of_input costly OutOfSteps h = h
of_input costly (Unreadable unread) h = absurd h
of_input costly Incomplete h = absurd h
of_input costly (PatternNotUtf8 name offset) h = absurd h
of_input costly (TooLong name) h = tt

pub if_err_by : {X : Type 0} (P Q : Failure → Type 0) (result : Result X Failure) → ((failure : Failure) → P failure → Q failure) → IfErr result P → IfErr result Q
if_err_by P Q (Ok x) more h = tt
if_err_by P Q (Err failure) more h = more failure h

-- What is known after any failure.
pub after_any : (P Q : Type 0) → (P → Q) → (failure : Failure) → OrOutput P failure → AfterFailure P Q failure
after_any P Q more Argument known = or_output P Q Argument known more
after_any P Q more Memory known = or_output P Q Memory known more
after_any P Q more Output known = or_output P Q Output known more
after_any P Q more Closed known = or_output P Q Closed known more
after_any P Q more (Syntax pattern text position) known = or_output P Q (Syntax pattern text position) known more
after_any P Q more TooLarge known = or_output P Q TooLarge known more
after_any P Q more OutOfSteps known = or_output P Q OutOfSteps known more
after_any P Q more (Unreadable unread) (inl output) = absurd output
after_any P Q more (Unreadable unread) (inr p) = p
after_any P Q more Incomplete known = or_output P Q Incomplete known more
after_any P Q more (PatternNotUtf8 name offset) known = or_output P Q (PatternNotUtf8 name offset) known more
after_any P Q more (TooLong name) known = or_output P Q (TooLong name) known more

-- What is known after a failure of a search.
pub after_search : (costly P Q : Type 0) (failure : Failure) → IsSearchFailure costly failure → OrOutput Q failure → AfterFailure P Q failure
after_search costly P Q Argument may known = known
after_search costly P Q Memory may known = known
after_search costly P Q Output may known = known
after_search costly P Q Closed may known = known
after_search costly P Q (Syntax pattern text position) may known = known
after_search costly P Q TooLarge may known = known
after_search costly P Q OutOfSteps may known = known
after_search costly P Q (Unreadable unread) may known = absurd may
after_search costly P Q Incomplete may known = known
after_search costly P Q (PatternNotUtf8 name offset) may known = known
after_search costly P Q (TooLong name) may known = known

-- Less is known.
pub after_less : (P Q R S : Type 0) → (P → R) → (Q → S) → (failure : Failure) → AfterFailure P Q failure → AfterFailure R S failure
after_less P Q R S first part Argument known = or_output Q S Argument known part
after_less P Q R S first part Memory known = or_output Q S Memory known part
after_less P Q R S first part Output known = or_output Q S Output known part
after_less P Q R S first part Closed known = or_output Q S Closed known part
after_less P Q R S first part (Syntax pattern text position) known = or_output Q S (Syntax pattern text position) known part
after_less P Q R S first part TooLarge known = or_output Q S TooLarge known part
after_less P Q R S first part OutOfSteps known = or_output Q S OutOfSteps known part
after_less P Q R S first part (Unreadable unread) known = first known
after_less P Q R S first part Incomplete known = or_output Q S Incomplete known part
after_less P Q R S first part (PatternNotUtf8 name offset) known = or_output Q S (PatternNotUtf8 name offset) known part
after_less P Q R S first part (TooLong name) known = or_output Q S (TooLong name) known part
