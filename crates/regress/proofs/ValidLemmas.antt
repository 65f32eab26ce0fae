-- What ECMA-262 accepts is rejected only past a limit.
use Rattle.std.proofs.Common.{◌≡◌, ℕ, ◌<◌, ◌||◌, ◌⊎◌, inl, inr, Bool, true, false, List, refl}
use Rattle.std.specs.List.{All}
use Rattle.std.specs.Prelude.{chars}
use Rattle.std.specs.Str.{IsUtf8}
use Rattle.regress_front.specs.Accepted.{IsDerivedIn}
use Rattle.regress_front.specs.Limits.{max_capture_groups}
use Rattle.regress_front.specs.Rejected.{Says}
use Rattle.regress_front.specs.SameNames.{NoneConflict}
use Rattle.regress_front.specs.Source.{Source, IsCodePoint, char}
use Rattle.regress_front.specs.Syntax.{Pattern, counts}
use Rattle.regress_front.specs.declared.parse.Dialect.TheVariants.{Ecma}
use Rattle.regress_front.specs.declared.parse.FaultKind.{FaultKind}
use Rattle.regress_ecma.specs.PatternNodes.{Disjunction}
use Rattle.regress_ecma.proofs.lemmas.Searches.{decoded, in_range}
use Rattle.regress.proofs.lemmas.Letters.{no_flags_with}
use Rattle.regress.specs.Failures.{IsDueWithLetters}
use Rattle.regress.specs.Letters.{flags_of, has}
use Rattle.regress.specs.Unicode.{unicode_setting}
use Rattle.regress.specs.Valid.{IsValidAs, IsPastLimits, IsRejection}
use Rattle.regress.specs.declared.failure.Error.{Error}
use Rattle.regress.specs.declared.failure.Error.TheVariants.{Flags, Syntax, TooLarge, Memory}

or_true : (b : Bool) → (b || true) ≡ true
or_true true = refl
or_true false = refl

-- The letter v sets u.
pub v_sets_u : (letters : List ℕ) → (flags_of letters).unicode_sets ≡ true → (flags_of letters).unicode ≡ true
v_sets_u letters v = rw v (or_true (has letters (char "u")))

pub code_points_of_text : (text : List ℕ) → IsUtf8 text → All IsCodePoint (chars text)
code_points_of_text text utf8 = in_range (chars text) (decoded text utf8)

-- The error of a pattern whose names are apart is about a limit.
past_limits : (kind : FaultKind) (p : Pattern) → NoneConflict p → Says kind p ⊎ (max_capture_groups < (counts p).groups) → IsPastLimits p
past_limits kind p apart (inr groups) = inl groups
past_limits kind p apart (inl (inl (is, groups))) = inl groups
past_limits kind p apart (inl (inr (inl (is, loops)))) = inr (inl loops)
past_limits kind p apart (inl (inr (inr (inl (is, deep))))) = inr (inr deep)
past_limits kind p apart (inl (inr (inr (inr (is, inl conflict))))) = absurd (conflict apart)
past_limits kind p apart (inl (inr (inr (inr (is, inr deep))))) = inr (inr deep)

-- the syntax tree that is derived from what ECMA-262 accepts
abbrev pub HasTree : (letters : List ℕ) → Source → Type 0
HasTree letters source = (p : Pattern) × IsDerivedIn Ecma (unicode_setting (flags_of letters)) source p × NoneConflict p

abbrev pub HasTreePastLimits : (letters : List ℕ) → Source → Type 0
HasTreePastLimits letters source = (p : Pattern) × IsDerivedIn Ecma (unicode_setting (flags_of letters)) source p × IsPastLimits p

pub rejected_past_limits : (letters : List ℕ) (source : Source) (error : Error) → IsDueWithLetters letters source error → IsRejection error →
    (d : Disjunction) → IsValidAs letters source d → HasTree letters source → HasTreePastLimits letters source
rejected_past_limits letters source (Flags e) due is d valid has_tree = absurd (no_flags_with letters e due valid.parsed.flags)
rejected_past_limits letters source (Syntax kind text position message) due is d valid has_tree =
    (has_tree.0, has_tree.1, past_limits kind has_tree.0 has_tree.2 (due.1.reported.reported has_tree.0 has_tree.1))
rejected_past_limits letters source TooLarge due is d valid has_tree = absurd is
rejected_past_limits letters source Memory due is d valid has_tree = absurd is
