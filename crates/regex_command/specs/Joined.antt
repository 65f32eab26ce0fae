-- The pattern that is searched for, made of those that are given.
use Rattle.std.specs.Prelude.{◌≡◌, true, false, All, Bool, not, ◌&&◌, ◌||◌, ◌==◌, List, [], ◌∷◌, ◌++◌, ℕ, chars, codes, encode_utf8_all, flat_map, if◌then◌else◌, length, map, nat_le, nat_lt}
use Rattle.std.specs.Str.{byte}
use Rattle.regex_options.specs.Plain.{matching, replacing}
use Rattle.regex_options.specs.Request.{Action, Request, explain, lint, search, show}
use Rattle.regex_options.specs.declared.source.PatternForm.{PatternForm}
use Rattle.regress_escape.specs.Escape.{escaped}
use Rattle.regex_command.specs.Patterns.{IsAcceptedPattern}
use Rattle.regex_lines.specs.Ending.{setting_in}

-- the pattern of a text, or the pattern itself
abbrev pub part : (fixed : Bool) → (pattern : List ℕ) → List ℕ
part fixed pattern = if fixed then encode_utf8_all (escaped (chars pattern)) else pattern

-- the pattern that matches what one of these matches; an empty class, which matches nothing, if there are none
abbrev pub alternatives : List (List ℕ) → List ℕ
alternatives [] = codes "[]"
alternatives (pattern ∷ patterns) = pattern ++ flat_map (λ other. codes "|" ++ other) patterns

-- the pattern for whole lines, or where no word character is beside a match
abbrev pub enclosed : PatternForm → (pattern : List ℕ) → List ℕ
enclosed form pattern =
    if form.lines then codes "^(?:" ++ (pattern ++ codes ")$")
    else if form.words then codes "(?<!\\w)(?:" ++ (pattern ++ codes ")(?!\\w)")
    else pattern

-- the pattern that is searched for
abbrev pub joined : PatternForm → (patterns : List (List ℕ)) → List ℕ
joined form patterns = enclosed form (alternatives (map (part form.fixed) patterns))

abbrev pub are_several : (patterns : List (List ℕ)) → Bool
are_several patterns = nat_lt 1 (length patterns)

-- The patterns become parts of another one, and are not escaped.
abbrev pub are_parts : PatternForm → (patterns : List (List ℕ)) → Bool
are_parts form patterns = not form.fixed && (form.lines || form.words || are_several patterns)

-- several patterns are searched for, but not replaced or shown
abbrev pub takes_several : Action → Bool
takes_several (search (matching s colors) form files) = true
takes_several (search (replacing p) form files) = false
takes_several (show view) = false
takes_several lint = false
takes_several (explain form) = false

-- what a backslash makes a reference to a group: a digit but 0, or k
abbrev pub is_reference : ℕ → Bool
is_reference c = nat_le (byte "1") c && nat_le c (byte "9") || c == byte "k"

-- A backslash, which may be in front, makes something a reference to a group, or would outside of a class.
abbrev pub refers : (escaped : Bool) → List ℕ → Bool
refers escaped [] = false
refers escaped (c ∷ cs) = escaped && is_reference c || refers (not escaped && c == byte "\\") cs

-- The pattern refers to no group.
pub record IsClosed (pattern : List ℕ) : Type 0 where
  pub none : refers false (chars pattern) ≡ false

module _ (request : Request) (patterns : List (List ℕ)) where
  -- The patterns can be joined. Several are searched for only, and have no references to groups, since the groups of the
  -- others would count too. Each that becomes a part of another one is accepted by itself.
  pub record AreJoinable : Type 0 where
    pub taken : are_several patterns ≡ true → takes_several request.action ≡ true
    pub closed : are_several patterns ≡ true → request.form.fixed ≡ false → All IsClosed patterns
    pub accepted : are_parts request.form patterns ≡ true →
        All (λ pattern. IsAcceptedPattern request.dialect (setting_in request.dialect request.flags) (chars pattern)) patterns
