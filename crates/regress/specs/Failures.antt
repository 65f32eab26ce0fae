-- Why a pattern was not compiled, and why a search has no memory.
use Rattle.std.specs.Prelude.{◌⊎◌, ℕ, ◌<◌, List, string_bytes}
use Rattle.regress_front.specs.Bound.{node_bound}
use Rattle.regress_front.specs.Steps.{Setting}
use Rattle.regress_front.specs.Source.{Source}
use Rattle.regress_found.specs.declared.fault.MemoryFault.{MemoryFault}
use Rattle.regress_found.specs.declared.fault.MemoryFault.TheVariants as memory_fault
use Rattle.regress_front.specs.Tree.{Tree}
use Rattle.regress_front.specs.Settled.{IsSyntaxErrorIn}
use Rattle.regress_program.specs.Size as size
use Rattle.regress_program.specs.declared.fault.CompileFault.{CompileFault}
use Rattle.regress_program.specs.declared.fault.CompileFault.TheVariants as compile_fault
use Rattle.regress.specs.Compiled.{IsTreeOfIn}
use Rattle.regress.specs.Unicode.{unicode_setting}
use Rattle.regress.specs.Letters.{AreFlags, IsErrorOf, flags_of}
use Rattle.regress.specs.Limits.{default_options}
use Rattle.regress.specs.declared.failure.Error.{Error}
use Rattle.regress.specs.declared.failure.Error.TheVariants.{Flags, Syntax, TooLarge, Memory}
use Rattle.regress.specs.declared.failure.SearchError.{SearchError}
use Rattle.regress.specs.declared.failure.SearchError.TheVariants as search_error
use Rattle.regress.specs.declared.limits.Options.{Options}

-- an error of compiling as an error of `Regex`
abbrev pub compile_error_of : CompileFault → Error
compile_error_of (compile_fault.Memory e) = Memory
compile_error_of compile_fault.TooLong = TooLarge

-- a search that has not the memory that it needs, as an error of `Regex`
abbrev pub search_error_of : MemoryFault → SearchError
search_error_of memory_fault.Memory = search_error.Memory
search_error_of memory_fault.TooMuchMemory = search_error.TooMuchMemory

-- The program of an accepted pattern, by its tree, is too long, also if an instruction matches any number of characters and
-- iterations are copied.
pub record IsTooLong (setting : Setting) (source : Source) (options : Options) : Type 0 where
  pub tree : Tree
  pub is_tree : IsTreeOfIn options.dialect setting source tree
  pub long : size.IsTooLong options.instructions tree

-- The bound on the nodes, or the number of instructions, exceeds its limit.
abbrev pub IsTooLarge : Setting → Source → Options → Type 0
IsTooLarge setting source options =
    (options.nodes < node_bound setting.flags.unicode_sets source) ⊎ IsTooLong setting source options

-- An error is due in the dialect of the options: a syntax error, with any sentence, or the pattern is too large. It is not about flags. Out of memory it states nothing.
abbrev pub IsDue : Setting → Source → Options → Error → Type 0
IsDue setting source options (Syntax kind text position message) =
    IsSyntaxErrorIn options.dialect setting source kind (string_bytes text) position
IsDue setting source options (Flags e) = ⊥
IsDue setting source options TooLarge = IsTooLarge setting source options
IsDue setting source options Memory = Unit {0}

-- With letters for flags, under the table of all of Unicode: it is an error of the letters, or they are flags and the error is due.
abbrev pub IsDueWithLetters : (letters : List ℕ) → Source → Error → Type 0
IsDueWithLetters letters source (Flags e) = IsErrorOf letters e
IsDueWithLetters letters source error = AreFlags letters × IsDue (unicode_setting (flags_of letters)) source default_options error
