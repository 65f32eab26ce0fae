-- A text in which matches are replaced, and a text that is split at matches.
use Rattle.std.specs.Prelude.{◌≡◌, ℕ, zero, suc, ◌≤◌, ◌<◌, List, [], ◌∷◌, Option, Some, None, Result, Ok, Err, String, length, map, option_map, string_bytes}
use Rattle.std.specs.Borrow.{Bor}
use Rattle.std.specs.declared.alloc.Global.{Global}
use Rattle.std.specs.Fn.{CalledAt, Mut}
use Rattle.std.specs.List.{FoldsTo}
use Rattle.regress_front.specs.Steps.{CaptureSpan, MatchState}
use Rattle.regress_found.specs.declared.found.Match as matcher
use Rattle.regress_found.specs.Repeated.{AreAllMatches, AreMatches}
use Rattle.regress_found.specs.Found.{Finds}
use Rattle.regress_replace.specs.Expansion.{matched_text}
use Rattle.regress_replace.specs.Replaced.{joined, replaced, split_pieces}
use Rattle.regress_replace.specs.Split.{all_parts, limited, part_spans}
use Rattle.regress.specs.Compiled.{match_of}
use Rattle.regress.specs.declared.failure.SearchError.{SearchError}
use Rattle.regress.specs.declared.found.Match.{Match}

-- the match if there is one
abbrev pub one_or_none : {X : Type 0} → Option X → List X
one_or_none None = []
one_or_none (Some x) = x ∷ []

-- A closure was called on these matches in order, and the text is that with each match replaced by what it returned.
pub record IsReplacedBy {F : Type 0} (g : Mut F (Bor Match × Unit {0}) (Result (String Global) SearchError)) (f : F) (text : List ℕ) (ms : List Match)
    (out : List ℕ) : Type 0 where
  pub calls : List (Match × String Global)
  pub matches : map (λ c. c.0) calls ≡ ms
  pub after : F
  pub called : FoldsTo (λ f c f'. CalledAt g f c.0 (Ok c.1) f') f calls after
  pub is : out ≡ joined (split_pieces text 0 (map match_of ms)) (map (λ c. string_bytes c.1) calls)

-- A closure was called on some matches, and then returned this error.
pub record HasReturned {F : Type 0} (g : Mut F (Bor Match × Unit {0}) (Result (String Global) SearchError)) (f : F) (error : SearchError) : Type 0 where
  pub calls : List (Match × String Global)
  pub before : F
  pub called : FoldsTo (λ f c f'. CalledAt g f c.0 (Ok c.1) f') f calls before
  pub last : Match
  pub after : F
  pub returned : CalledAt g before last (Err error) after

module _ (text : List ℕ) (at : ℕ → List MatchState) where
  -- The text with its leftmost match replaced, if it has one.
  pub record ReplacesFirst (replacement : matcher.Match → List ℕ) (out : List ℕ) : Type 0 where
    pub found : Option matcher.Match
    pub finds : Finds text at 0 found
    pub is : out ≡ replaced text replacement 0 (one_or_none found)

  -- The text with all its matches replaced.
  pub record ReplacesAll (replacement : matcher.Match → List ℕ) (out : List ℕ) : Type 0 where
    pub matches : List matcher.Match
    pub all : AreAllMatches text at matches
    pub is : out ≡ replaced text replacement 0 matches

  -- The text with its leftmost match replaced by what a closure returns for it, if it has one.
  pub record ReplacesFirstWith {F : Type 0} (g : Mut F (Bor Match × Unit {0}) (Result (String Global) SearchError)) (f : F) (out : List ℕ) : Type 0 where
    pub found : Option Match
    pub finds : Finds text at 0 (option_map match_of found)
    pub replaced : IsReplacedBy g f text (one_or_none found) out

  -- The text with all its matches replaced by what a closure returns for them.
  pub record ReplacesAllWith {F : Type 0} (g : Mut F (Bor Match × Unit {0}) (Result (String Global) SearchError)) (f : F) (out : List ℕ) : Type 0 where
    pub matches : List Match
    pub all : AreAllMatches text at (map match_of matches)
    pub replaced : IsReplacedBy g f text matches out

  -- The pieces of the text between its matches, which with the matches between them are the text.
  pub record IsSplit (pieces : List (List ℕ)) : Type 0 where
    pub matches : List matcher.Match
    pub all : AreAllMatches text at matches
    pub between : pieces ≡ split_pieces text 0 matches
    pub whole : joined pieces (map (matched_text text) matches) ≡ text

  -- The first n matches of a repeated search, or all if there are fewer.
  pub record AreFirstMatches (n : ℕ) (ms : List matcher.Match) : Type 0 where
    pub to : ℕ
    pub found : AreMatches text at 0 to ms
    pub few : length ms ≤ n
    pub all : length ms < n → Finds text at to None

  -- The text with its first n matches replaced, or all if there are fewer, and how many there are.
  pub record ReplacesFirstN (n : ℕ) (replacement : matcher.Match → List ℕ) (out : List ℕ) (count : ℕ) : Type 0 where
    pub matches : List matcher.Match
    pub first : AreFirstMatches n matches
    pub is : out ≡ replaced text replacement 0 matches
    pub counted : count ≡ length matches

  -- The pieces of the text between its first n matches, which with the matches between them are the text.
  pub record IsSplitAtFirst (n : ℕ) (pieces : List (List ℕ)) : Type 0 where
    pub matches : List matcher.Match
    pub first : AreFirstMatches n matches
    pub between : pieces ≡ split_pieces text 0 matches
    pub whole : joined pieces (map (matched_text text) matches) ≡ text

  -- at most as many pieces as the limit
  abbrev pub IsSplitWithin : (limit : ℕ) → List (List ℕ) → Type 0
  IsSplitWithin zero pieces = pieces ≡ []
  IsSplitWithin (suc n) pieces = IsSplitAtFirst n pieces

  -- the parts as by `split` of ECMA-262, at most as many as the limit
  pub record IsSplitWithCaptures (limit : Option ℕ) (parts : List (Option (List ℕ))) : Type 0 where
    pub matches : List matcher.Match
    pub all : AreAllMatches text at matches
    pub between : parts ≡ limited limit (all_parts text matches)

  -- the spans of these parts
  pub record ArePartSpans (limit : Option ℕ) (spans : List (Option CaptureSpan)) : Type 0 where
    pub matches : List matcher.Match
    pub all : AreAllMatches text at matches
    pub between : spans ≡ limited limit (part_spans (length text) matches)
