-- The result of replacing and of escaping, from the text that was made.
use Rattle.std.proofs.Common.{◌≡◌, ◌≢◌, ℕ, List, Option, chars, encode_utf8_all, string_bytes, refl, sym, ap, ◌∙◌, subst}
use Rattle.std.specs.Prelude.{IfErr, IfOk, IsUtf8, MatchOption, MatchResult, None, Some, Result, Ok, Err, String}
use Rattle.std.specs.declared.alloc.AllocError.{AllocError}
use Rattle.std.specs.declared.alloc.Global.{Global}
use Rattle.std.proofs.lemmas.Str.{encodes-chars}
use Rattle.regress.specs.declared.failure.SearchError.{SearchError}
use Rattle.regress.specs.declared.failure.SearchError.TheVariants.{Memory, OutOfSteps, TooMuchMemory}
use Rattle.regress.specs.Costs.{AllAreTooCostly, AllCostLimit, CostsLimit, IsTooCostly, factor_in, find_factor_in}
use Rattle.regress.specs.declared.pattern.Regex.{Regex}
use Rattle.regress.specs.Compiled.{groups_of}
use Rattle.regress_found.specs.declared.found.Match.{Match}
use Rattle.regress_escape.specs.Escape.{escaped}
use Rattle.regress_capi.specs.EscapeResults.{EscapeResult, escape_written, escape_little}
use Rattle.regress_capi.specs.ExpandResults.{ExpandResult, HasNumbers, IsExpandedAt, expand_bad, expand_little, expand_out_of_memory, expand_written}
use Rattle.regress_capi.specs.SearchResults.{IsBare, status_of, SearchResult, written, out_of_memory, little, out_of_steps, too_much_memory}
use Rattle.regress_capi.specs.TextResults.{PlainResult, plain_written, plain_little}
use Rattle.regress_capi.proofs.SearchLemmas.{at-bare}

-- the text that is written has the property, and the arguments are valid
text-searched : {A : Type 0} {P : List ℕ → Type 0} {Missing Costly Large : Type 0} {old new text : List ℕ} {status needed : ℕ} → A → P text →
    PlainResult (λ xs. xs ≡ text) old status needed new → SearchResult A P Missing Costly Large old status needed new
text-searched {P = P} asked has (plain_written gives) = written asked (gives.0, subst P (sym gives.1) has, gives.2, gives.3)
text-searched {P = P} asked has (plain_little wants) = little asked (wants.0, subst P (sym wants.1) has, wants.2, wants.3)

-- the result is that of the text that was made, or of the error
pub text-reports : {A : Type 0} {P : List ℕ → Type 0} {Missing Costly Large : Type 0} {old new : List ℕ} {status needed : ℕ} {V : Type 0} (bytes : V → List ℕ)
    (r : Result V SearchError) → A → IfOk r (λ v. P (bytes v)) → IfErr r (λ error. error ≡ OutOfSteps → Costly) →
    IfErr r (λ error. error ≡ TooMuchMemory → Large) → MatchResult r (λ v. PlainResult (λ xs. xs ≡ bytes v) old status needed new)
    (λ error. IsBare (status_of error) old status needed new) → SearchResult A P Missing Costly Large old status needed new
text-reports bytes (Ok v) asked has late large is = text-searched asked has is
text-reports bytes (Err Memory) asked has late large is = at-bare 2 is (out_of_memory asked)
text-reports bytes (Err OutOfSteps) asked has late large is = at-bare 7 is (out_of_steps asked (late refl))
text-reports bytes (Err TooMuchMemory) asked has late large is = at-bare 8 is (too_much_memory asked (large refl))

-- the same of a text with the number of its changes
pub counted-reports : (Q : ℕ → List ℕ → Type 0) {A Missing Costly Large : Type 0} {old new : List ℕ} {status needed count : ℕ}
    (r : Result (String Global × ℕ) SearchError) → A → IfOk r (λ v. Q v.1 (string_bytes v.0)) → IfErr r (λ error. error ≡ OutOfSteps → Costly) →
    IfErr r (λ error. error ≡ TooMuchMemory → Large) → MatchResult r (λ v. PlainResult (λ xs. xs ≡ string_bytes v.0) old status needed new × (count ≡ v.1))
    (λ error. IsBare (status_of error) old status needed new × (count ≡ 0)) → SearchResult A (Q count) Missing Costly Large old status needed new
counted-reports Q (Ok v) asked has late large is = text-searched asked (subst (λ n. Q n (string_bytes v.0)) (sym is.1) has) is.0
counted-reports Q (Err Memory) asked has late large is = at-bare 2 is.0 (out_of_memory asked)
counted-reports Q (Err OutOfSteps) asked has late large is = at-bare 7 is.0 (out_of_steps asked (late refl))
counted-reports Q (Err TooMuchMemory) asked has late large is = at-bare 8 is.0 (too_much_memory asked (large refl))

text-status : {P : List ℕ → Type 0} {old new : List ℕ} {status needed : ℕ} → PlainResult P old status needed new → status ≢ 0 → status ≢ 3 → ⊥
text-status (plain_written gives) first second = first refl
text-status (plain_little wants) first second = second refl

pub counted-none : (old new : List ℕ) {status count : ℕ} (needed : ℕ) (r : Result (String Global × ℕ) SearchError) →
    MatchResult r (λ v. PlainResult (λ xs. xs ≡ string_bytes v.0) old status needed new × (count ≡ v.1))
    (λ error. IsBare (status_of error) old status needed new × (count ≡ 0)) → status ≢ 0 → status ≢ 3 → count ≡ 0
counted-none old new needed (Ok v) is first second = absurd (text-status is.0 first second)
counted-none old new needed (Err error) is first second = is.1

-- the result is that of the expansion, or states that no match has the numbers
expand-writes : {regex : Regex} {text template numbers old new : List ℕ} {status needed : ℕ} (out : List ℕ) → IsUtf8 text → IsUtf8 template →
    IsExpandedAt regex text template numbers out → PlainResult (λ xs. xs ≡ out) old status needed new →
    ExpandResult regex text template numbers old status needed new
expand-writes {regex} {text} {template} {numbers} out utf8 template_utf8 has (plain_written gives) =
    expand_written utf8 template_utf8 (gives.0, subst (IsExpandedAt regex text template numbers) (sym gives.1) has, gives.2, gives.3)
expand-writes {regex} {text} {template} {numbers} out utf8 template_utf8 has (plain_little wants) =
    expand_little utf8 template_utf8 (wants.0, subst (IsExpandedAt regex text template numbers) (sym wants.1) has, wants.2, wants.3)

expand-bare : {regex : Regex} {text template numbers old new : List ℕ} {status needed : ℕ} (expected : ℕ) → IsBare expected old status needed new →
    ExpandResult regex text template numbers old expected 0 old → ExpandResult regex text template numbers old status needed new
expand-bare {regex} {text} {template} {numbers} {old} {new} {status} {needed} expected bare is =
    subst (λ s. ExpandResult regex text template numbers old s needed new) (sym bare.0)
    (subst (λ n. ExpandResult regex text template numbers old expected n new) (sym bare.1)
    (subst (λ buffer. ExpandResult regex text template numbers old expected 0 buffer) (sym bare.2) is))

pub expand-reports : {regex : Regex} {text template numbers old new : List ℕ} {status needed : ℕ} (r : Result (Option (String Global)) AllocError) →
    IsUtf8 text → IsUtf8 template →
    IfOk r (λ some. MatchOption some ((m : Match) → HasNumbers text (groups_of regex) numbers m → ⊥)
    (λ out. IsExpandedAt regex text template numbers (string_bytes out))) →
    MatchResult r (λ some. MatchOption some (IsBare 4 old status needed new) (λ out.
    PlainResult (λ xs. xs ≡ string_bytes out) old status needed new)) (λ e. IsBare 2 old status needed new) →
    ExpandResult regex text template numbers old status needed new
expand-reports (Ok (Some out)) utf8 template_utf8 has is = expand-writes (string_bytes out) utf8 template_utf8 has is
expand-reports (Ok None) utf8 template_utf8 has is = expand-bare 4 is (expand_bad (λ can. has can.found can.has))
expand-reports (Err e) utf8 template_utf8 has is = expand-bare 2 is (expand_out_of_memory utf8 template_utf8)

-- what holds of an error that is out of steps, in one fact
pub costly : {V : Type 0} (regex : Regex) (text : List ℕ) (from : ℕ) (r : Result V SearchError) → IfErr r (λ e. e ≡ OutOfSteps → factor_in regex text ≡ None) →
    IfErr r (λ e. e ≡ OutOfSteps → find_factor_in regex text ≡ None) → IfErr r (λ e. e ≡ OutOfSteps → CostsLimit regex text from) →
    IfErr r (λ e. e ≡ OutOfSteps → IsTooCostly regex text from)
costly regex text from (Ok v) linear bounded costs = tt
costly regex text from (Err e) linear bounded costs = λ is. record { linear = linear is; bounded = bounded is; costs = costs is }

pub all_costly : {V : Type 0} (regex : Regex) (text : List ℕ) (from : ℕ) (r : Result V SearchError) → IfErr r (λ e. e ≡ OutOfSteps → factor_in regex text ≡ None) →
    IfErr r (λ e. e ≡ OutOfSteps → AllCostLimit regex text from) → IfErr r (λ e. e ≡ OutOfSteps → AllAreTooCostly regex text from)
all_costly regex text from (Ok v) linear costs = tt
all_costly regex text from (Err e) linear costs = λ is. record { linear = linear is; costs = costs is }

-- the pattern that is written is that of the text, in UTF-8
pub escape-writes : {text old new : List ℕ} {status needed : ℕ} (pattern : List ℕ) → IsUtf8 text → IsUtf8 pattern →
    chars pattern ≡ escaped (chars text) → PlainResult (λ xs. xs ≡ pattern) old status needed new → EscapeResult text old status needed new
escape-writes pattern asked utf8 is (plain_written gives) =
    escape_written asked (gives.0, gives.1 ∙ sym (encodes-chars pattern utf8) ∙ ap encode_utf8_all is, gives.2, gives.3)
escape-writes pattern asked utf8 is (plain_little wants) =
    escape_little asked (wants.0, wants.1 ∙ sym (encodes-chars pattern utf8) ∙ ap encode_utf8_all is, wants.2, wants.3)
