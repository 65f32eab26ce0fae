-- Whether a pattern may be matched with the flag i somewhere, by its flags and its code points alone.
use Rattle.std.specs.Prelude.{Bool, false, ◌&&◌, ◌||◌, [], ◌∷◌, drop, Some, None}
use Rattle.regress_base.specs.declared.types.Flags.{Flags}
use Rattle.regress_lexer.specs.Modifiers.{Change, switched, modifiers_at}
use Rattle.regress_lexer.specs.Source.{Source, Found, opening, question_mark, is_at}

-- The test holds of some suffix of the source that is not empty.
abbrev pub is_somewhere : (Source → Bool) → Source → Bool
is_somewhere test [] = false
is_somewhere test (c ∷ t) = test (c ∷ t) || is_somewhere test t

-- modifiers with an `i` among the letters that switch on
abbrev pub has_icase : Found Change → Bool
has_icase None = false
has_icase (Some found) = switched found.0.icase false

-- `(?` and modifiers that switch the flag i on, such as `(?i:`
abbrev pub switches_on : Source → Bool
switches_on t = is_at opening t && is_at question_mark (drop 1 t) && has_icase (modifiers_at (drop 2 t))

-- The pattern has the flag i, or what looks like such modifiers. In a class they are literals, and count too.
abbrev pub may_ignore_case : Flags → Source → Bool
may_ignore_case flags source = flags.icase || is_somewhere switches_on source

-- the flags of the pattern, with i if it may be matched with i somewhere
abbrev pub widest_flags : Flags → Source → Flags
widest_flags flags source = record flags { icase = may_ignore_case flags source }
