-- The files that are searched: those that are named, and those that are found below directories. What a directory has is not
-- known here.
use Rattle.std.specs.Prelude.{◌≡◌, ◌⊎◌, ⊤, ℕ, ◌-◌, Bool, true, false, not, ◌||◌, ◌==◌, List, [], ◌∷◌, ◌++◌, All, chars, codes, if◌then◌else◌, length, map, nat_lt, slice_index, string_bytes}
use Rattle.std.specs.List.{FoldsTo}
use Rattle.regex_glob.specs.Glob.{Piece, matches_name, pieces, pieces_of}
use Rattle.regex_options.specs.Plain.{FileList, NameGlob}
use Rattle.regex_lines.specs.Searched.{is_standard}
use Rattle.regex_lines.specs.Unread.{Unread, unread_path}
use Rattle.regex_lines.specs.declared.walk.Entry.{Entry}
use Rattle.regex_lines.specs.declared.walk.Filter as code_filter
use Rattle.regex_lines.specs.declared.walk.Found as code
use Rattle.regex_lines.specs.declared.walk.Visited.{Visited}
use Rattle.regex_lines.specs.declared.walk.Visited.TheVariants as visited

-- a glob, parsed, and whether files that it matches are searched, or are not
pub record Filter : Type 0 where
  pub pieces : List Piece
  pub includes : Bool

-- the filter of a glob
abbrev pub filter_of : NameGlob → Filter
filter_of glob = record { pieces = pieces_of (chars glob.text); includes = glob.includes }

-- the same as the code represents it
abbrev pub filter : code_filter.Filter → Filter
filter f = record { pieces = pieces f.glob; includes = f.includes }

-- The last filter that matches the name decides whether the file is searched.
abbrev pub decided : (default : Bool) → List Filter → (name : List ℕ) → Bool
decided default [] name = default
decided default (f ∷ fs) name = decided (if matches_name f.pieces name then f.includes else default) fs name

-- Where none matches, the file is searched, unless the first one is for files that are searched.
abbrev pub selects_by_default : List Filter → Bool
selects_by_default [] = true
selects_by_default (f ∷ fs) = not f.includes

-- whether a file with a name of these code points is searched
abbrev pub selects : List Filter → (name : List ℕ) → Bool
selects filters name = decided (selects_by_default filters) filters name

-- ---- paths

-- what is between the path of a directory and a name in it; the current directory has an empty path here
abbrev pub separator : (directory : List ℕ) → List ℕ
separator directory = if length directory == 0 || slice_index directory (length directory - 1) == 47 then [] else codes "/"

-- the path of what has a name in a directory
abbrev pub joined : (directory name : List ℕ) → List ℕ
joined directory name = (directory ++ separator directory) ++ name

-- one name further
abbrev pub IsJoined : (directory name path : List ℕ) → Type 0
IsJoined directory name path = path ≡ joined directory name

-- The path leads from a directory through others below it.
abbrev pub IsUnder : (root path : List ℕ) → Type 0
IsUnder root path = (names : List (List ℕ)) × FoldsTo IsJoined root names path

-- The file is below a directory, and has a name that is selected.
abbrev pub IsSelectedBelow : List Filter → (root file : List ℕ) → Type 0
IsSelectedBelow filters root file =
    (directory : List ℕ) × IsUnder root directory × ((name : List ℕ) × (file ≡ joined directory name) × (selects filters (chars name) ≡ true))

-- What is found in a directory: another one, or a file that is selected.
abbrev pub IsEntry : List Filter → (directory : List ℕ) → Entry → Type 0
IsEntry filters directory entry =
    (name : List ℕ) × (string_bytes entry.path ≡ joined directory name) × (entry.is_directory ≡ false → selects filters (chars name) ≡ true)

-- P holds of the entry, if there is one.
abbrev pub IfEntry : (P : Entry → Type 0) → Visited → Type 0
IfEntry P (visited.Entry entry) = P entry
IfEntry P (visited.Unread path) = ⊤
IfEntry P visited.Other = ⊤

-- What is still to be visited: a directory below this one, or a file that is selected.
abbrev pub IsPending : List Filter → (root : List ℕ) → Entry → Type 0
IsPending filters root entry =
    ((entry.is_directory ≡ true) × IsUnder root (string_bytes entry.path)) ⊎ ((entry.is_directory ≡ false) × IsSelectedBelow filters root (string_bytes entry.path))

-- ---- all files

-- A file that is named is searched itself, or not at all if it is not selected. `-` is always selected.
abbrev pub IsNamed : List Filter → (name : List ℕ) → (files : List (List ℕ)) → Type 0
IsNamed filters name files =
    (files ≡ name ∷ []) ⊎ ((is_standard name ≡ false) × (selects filters (chars name) ≡ false) × (files ≡ []))

-- What is found for a name: a file, or if directories are searched, selected files below one.
abbrev pub IsFoundFor : (recursive : Bool) → List Filter → (name : List ℕ) → (files : List (List ℕ)) → Type 0
IsFoundFor recursive filters name files =
    IsNamed filters name files ⊎ ((is_standard name ≡ false) × (recursive ≡ true) × All (IsSelectedBelow filters name) files)

-- one name further
abbrev pub IsFoundNext : (recursive : Bool) → List Filter → (before : List (List ℕ)) → (name : List ℕ) → (after : List (List ℕ)) → Type 0
IsFoundNext recursive filters before name after = (files : List (List ℕ)) × IsFoundFor recursive filters name files × (after ≡ before ++ files)

-- Without names standard input is searched, or the selected files below the current directory.
abbrev pub AreDefault : (recursive : Bool) → List Filter → (files : List (List ℕ)) → Type 0
AreDefault false filters files = files ≡ codes "-" ∷ []
AreDefault true filters files = All (IsSelectedBelow filters []) files

abbrev pub AreFound : (recursive : Bool) → List Filter → (names files : List (List ℕ)) → Type 0
AreFound recursive filters [] files = AreDefault recursive filters files
AreFound recursive filters (name ∷ names) files = FoldsTo (IsFoundNext recursive filters) [] (name ∷ names) files

-- the names of the files that are searched, whether they are in front of lines by default, and what was not read
pub record Found : Type 0 where
  pub files : List (List ℕ)
  pub several : Bool
  pub unread : List Unread

-- the same as the code represents it
abbrev pub found_of : code.Found → Found
found_of found = record { files = map string_bytes found.files.items; several = found.several; unread = map unread_path found.unread.items }

-- These files are found. Names are in front if several files are named, or a directory is searched.
pub record IsFound (list : FileList) (found : Found) : Type 0 where
  pub files : AreFound list.recursive (map filter_of list.globs) list.names found.files
  pub below : Bool
  pub several : found.several ≡ (nat_lt 1 (length list.names) || below)
  pub named : list.recursive ≡ false → (below ≡ false) × (found.unread ≡ [])
