-- The lines around the line that is searched, as the code keeps them.
use Rattle.std.specs.Prelude.{◌≡◌, ◌⊎◌, ℕ, ◌+◌, ◌-◌, ◌<◌, ◌≤◌, Bool, true, false, List, [], ◌∷◌, ◌++◌, length, map, nat_lt, if◌then◌else◌, ◌==◌}
use Rattle.regex_options.specs.Plain.{Job}
use Rattle.regress.specs.declared.pattern.Regex.{Regex}
use Rattle.regex_lines.specs.Reply.{IsReply}
use Rattle.regex_lines.specs.Searched.{AreNear, IsAccepted, IsFound, IsNear, Line, Named, colors_of, context_of, is_enough, last_of, lines_after, lines_before, prefix_of, separator}
use Rattle.regex_lines.specs.declared.window.Window as code

-- The numbers of lines and of selected lines or matches, how many lines are shown after the last selected one, the last lines since
-- then that are hidden, as many as are shown before a selected one, and whether more are hidden.
pub record Window : Type 0 where
  pub number : ℕ
  pub selected : ℕ
  pub due : ℕ
  pub hidden : List (List ℕ)
  pub left_out : Bool

-- the same as the code represents it
abbrev pub window_of : code.Window → Window
window_of w = record {
  number = w.number;
  selected = w.selected;
  due = w.due;
  hidden = map (λ line. line.items) w.hidden.items;
  left_out = w.left_out;
}

-- No line is hidden twice.
abbrev pub IsCounted : Window → Type 0
IsCounted w = length w.hidden ≤ w.number

-- before the first line
abbrev pub first_window : Window
first_window = record { number = 0; selected = 0; due = 0; hidden = []; left_out = false }

-- the next window where the line is hidden
abbrev pub with_hidden : (before : ℕ) → (line : List ℕ) → Window → Window
with_hidden before line w = record w {
  number = w.number + 1;
  hidden = last_of before (w.hidden ++ line ∷ []);
  left_out = nat_lt before (length w.hidden + 1);
}

-- the next window where the line is shown after a selected one
abbrev pub with_after : Window → Window
with_after w = record w { number = w.number + 1; due = w.due - 1 }

-- the next window where the line is selected, which makes this many
abbrev pub with_selected : (selected after : ℕ) → Window → Window
with_selected selected after w = record { number = w.number + 1; selected = selected; due = after; hidden = []; left_out = false }

-- whether lines are left out before those in the window
abbrev pub is_left_out : Named → Window → Bool
is_left_out place w = if w.selected == 0 then place.follows else w.left_out

-- the separator, if lines are left out
abbrev pub separator_of : Job → Named → Window → List ℕ
separator_of job place w = if is_left_out place w then separator (colors_of job) (context_of job) else []

module _ (r : Regex) (job : Job) (place : Named) where
  -- what is written in front of a selected line: a separator, and the lines in the window
  abbrev pub IsInFront : Window → (bytes : List ℕ) → Type 0
  IsInFront w bytes = (before : List ℕ) × AreNear r job place (w.number + 1 - length w.hidden) w.hidden before × (bytes ≡ separator_of job place w ++ before)

  -- what is written for a line that is not selected
  abbrev pub IsOther : Window → (line : List ℕ) → Window → (added : List ℕ) → Type 0
  IsOther old line new added =
      ((0 < old.due) × IsNear r job place (old.number + 1) line added × (new ≡ with_after old))
      ⊎ ((old.due ≡ 0) × (added ≡ []) × (new ≡ with_hidden (lines_before (context_of job)) line old))

  -- what is written for a line
  abbrev pub IsShown : (selected : Bool) → Window → (line : List ℕ) → (count : ℕ) → (bytes : List ℕ) → Window → (added : List ℕ) → Type 0
  IsShown true old line count bytes new added =
      ((front : List ℕ) × IsInFront old front × (added ≡ front ++ bytes))
      × (new ≡ with_selected (old.selected + count) (lines_after (context_of job)) old)
  IsShown false old line count bytes new added = IsOther old line new added

  -- what is written for a line of which the matches are written as they are found
  pub record IsShownBy (old : Window) (line : List ℕ) (new : Window) (added : List ℕ) : Type 0 where
    pub selected : Bool
    pub bytes : List ℕ
    pub reply : IsReply r line false job (prefix_of false job place (old.number + 1)) selected 1 bytes
    pub shown : IsShown selected old line 1 bytes new added

  -- The next line was searched, and this was written.
  pub record IsNextLine (old : Window) (line : Line) (new : Window) (added : List ℕ) : Type 0 where
    pub accepted : IsAccepted place.encoding line.bytes
    pub selected : Bool
    pub count : ℕ
    pub bytes : List ℕ
    pub found : IsFound r job place (is_enough job old.selected) (old.number + 1) line selected count bytes
    pub shown : IsShown selected old line.bytes count bytes new added
