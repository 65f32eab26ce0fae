-- The window has the last lines that are hidden.
use Rattle.std.proofs.Common.{◌≡◌, ◌∙◌, inl, inr, ℕ, ◌+◌, ◌-◌, ◌≤◌, ◌<◌, Bool, true, false, cond, eqb, ltb, List, [], ◌∷◌, ◌++◌, length, drop, append_assoc, append-nil, arith, get_or, length-append, length-drop, map, take, ap, refl, sym, subst}
use Rattle.std.proofs.lemmas.Bool.Decides.{nat_tests}
use Rattle.std.specs.List.{FoldsTo}
use Rattle.std.specs.Prelude.{Vec}
use Rattle.std.specs.declared.alloc.Global.{Global}
use Rattle.std.proofs.lemmas.List.{drop-append-le, drop-drop, length-map, take_all}
use Rattle.regex_options.specs.Plain.{Job}
use Rattle.regress.specs.declared.pattern.Regex.{Regex}
use Rattle.regex_lines.specs.Searched.{AreNear, IsAccepted, IsFound, IsNear, IsNearStep, IsSearchedLine, Line, Named, Progress, at_start, colors_of, context_of, is_apart, is_enough, last_of, lines_after, lines_before, separator}
use Rattle.regex_lines.proofs.FoldLemmas.{one_further}
use Rattle.regex_lines.specs.Window.{IsCounted, IsInFront, IsNextLine, IsOther, IsShown, Window, first_window, separator_of}

-- the last lines of those after the first ones
last_after : (n k : ℕ) (lines : List (List ℕ)) → k ≤ length lines - n → last_of n (drop k lines) ≡ last_of n lines
last_after n k lines within =
    drop-drop (length (drop k lines) - n) k lines
    ∙ ap (λ j. drop j lines) (let same : k + (length (drop k lines) - n) ≡ length lines - n = omega (arith, within, length-drop k lines) in same)

-- the last of the last lines, and one more
last_one_more : (n : ℕ) (lines : List (List ℕ)) (line : List ℕ) → last_of n (last_of n lines ++ line ∷ []) ≡ last_of n (lines ++ line ∷ [])
last_one_more n lines line =
    let k = length lines - n in
    ap (last_of n) (sym (drop-append-le k lines (line ∷ []) (let le : k ≤ length lines = omega arith in le)))
    ∙ last_after n k (lines ++ line ∷ []) (omega (arith, length-append lines (line ∷ [])))

pub last_short : (n : ℕ) (lines : List (List ℕ)) → length (last_of n lines) ≤ n
last_short n lines = omega (arith, length-drop (length lines - n) lines)

pub short_items : (lines : List (Vec ℕ Global)) (n : ℕ) → length (map (λ line. line.items) lines) ≤ n → length lines ≤ n
short_items lines n short = omega (arith, short, length-map lines (λ (line : Vec ℕ Global). line.items))

none_of : (n : ℕ) → last_of n [] ≡ []
none_of n = by (0 - n) (omega arith)
  where
    by : (k : ℕ) → k ≡ 0 → drop {A = List ℕ} k [] ≡ []
    by k is = ap (λ k. drop {A = List ℕ} k []) is

module _ (r : Regex) (job : Job) (place : Named) where
  -- the window where the search is this far
  pub record IsAt (w : Window) (p : Progress) : Type 0 where
    pub number : p.lines ≡ w.number
    pub selected : p.selected ≡ w.selected
    pub due : p.due ≡ w.due
    pub hidden : w.hidden ≡ last_of (lines_before (context_of job)) p.hidden
    pub left_out : w.left_out ≡ ltb (lines_before (context_of job)) (length p.hidden)
    pub kept : length p.hidden ≤ p.lines

  pub starts : IsAt first_window at_start
  starts = record {
    number = refl;
    selected = refl;
    due = refl;
    hidden = sym (none_of (lines_before (context_of job)));
    left_out = grind (arith, nat_tests);
    kept = omega arith;
  }

  -- the next line, where the search goes on
  pub record Further (p : Progress) (line : Line) (w : Window) (added : List ℕ) : Type 0 where
    pub next : Progress
    pub searched : IsSearchedLine r job place p line next
    pub at : IsAt w next
    pub written : next.written ≡ p.written ++ added

  module _ (w : Window) (p : Progress) (is : IsAt w p) where
    pub counted : IsCounted w
    counted = omega (arith, is.kept, is.number, ap length is.hidden, length-drop (length p.hidden - lines_before (context_of job)) p.hidden)

    pub short : length w.hidden ≤ lines_before (context_of job)
    short = omega (arith, ap length is.hidden, last_short (lines_before (context_of job)) p.hidden)

    apart_same : cond (is_apart job place p) (separator (colors_of job) (context_of job)) [] ≡ separator_of job place w
    apart_same = by _ _ _ _ _ _ is.selected (sym is.left_out)
      where
        by : (m n : ℕ) (follows left out : Bool) (bytes : List ℕ) → m ≡ n → left ≡ out →
            cond (cond (eqb m 0) follows left) bytes [] ≡ cond (cond (eqb n 0) follows out) bytes []
        by m n follows left out bytes same left_same i = cond (cond (eqb (same i) 0) follows (left_same i)) bytes []

    module _ (line : Line) (new : Window) (added : List ℕ) where
      found_at : (selected : Bool) (count : ℕ) (bytes : List ℕ) → IsFound r job place (is_enough job w.selected) (w.number + 1) line selected count bytes →
          IsFound r job place (is_enough job p.selected) (p.lines + 1) line selected count bytes
      found_at selected count bytes found =
          subst (λ n. IsFound r job place (is_enough job n) (p.lines + 1) line selected count bytes) (sym is.selected)
          (subst (λ n. IsFound r job place (is_enough job w.selected) (n + 1) line selected count bytes) (sym is.number) found)

      if_selected : IsAccepted place.encoding line.bytes → (count : ℕ) (bytes : List ℕ) → IsFound r job place (is_enough job w.selected) (w.number + 1) line true count bytes →
          IsShown r job place true w line.bytes count bytes new added →
          Further p line new added
      if_selected accepted count bytes found ((front, (before, near, front_is), added_is), new_is) =
          let apart = separator_of job place w in
          let q : Progress = record {
            lines = p.lines + 1;
            selected = p.selected + count;
            due = lines_after (context_of job);
            hidden = [];
            written = p.written ++ (apart ++ (before ++ bytes));
          } in
          record {
            next = q;
            searched = record {
              accepted = accepted;
              selected = true;
              count = count;
              bytes = bytes;
              found = found_at true count bytes found;
              shown = record {
                before = before;
                near = subst (λ lines. AreNear r job place (p.lines + 1 - length lines) lines before) is.hidden
                    (subst (λ n. AreNear r job place (n + 1 - length w.hidden) w.hidden before) (sym is.number) near);
                apart = apart;
                apart_is = sym apart_same;
                next = refl;
              };
            };
            at = subst (λ w. IsAt w q) (sym new_is) (record {
              number = ap (λ n. n + 1) is.number;
              selected = ap (λ n. n + count) is.selected;
              due = refl;
              hidden = sym (none_of (lines_before (context_of job)));
              left_out = grind (arith, nat_tests);
              kept = omega arith;
            });
            written = ap (λ bytes. p.written ++ bytes) (sym (added_is ∙ ap (λ front. front ++ bytes) front_is ∙ append_assoc apart before bytes));
          }

      if_other : IsAccepted place.encoding line.bytes → (count : ℕ) (bytes : List ℕ) → IsFound r job place (is_enough job w.selected) (w.number + 1) line false count bytes →
          IsOther r job place w line.bytes new added →
          Further p line new added
      if_other accepted count bytes found (inl (due, near, new_is)) =
          let q : Progress = record p { lines = p.lines + 1; due = p.due - 1; written = p.written ++ added } in
          record {
            next = q;
            searched = record {
              accepted = accepted;
              selected = false;
              count = count;
              bytes = bytes;
              found = found_at false count bytes found;
              shown = inl (omega (arith, due, is.due), (added, subst (λ n. IsNear r job place (n + 1) line.bytes added) (sym is.number) near, refl));
            };
            at = subst (λ w. IsAt w q) (sym new_is) (record {
              number = ap (λ n. n + 1) is.number;
              selected = is.selected;
              due = ap (λ n. n - 1) is.due;
              hidden = is.hidden;
              left_out = is.left_out;
              kept = omega (arith, is.kept);
            });
            written = refl;
          }
      if_other accepted count bytes found (inr (due, none, new_is)) =
          let q : Progress = record p { lines = p.lines + 1; hidden = p.hidden ++ line.bytes ∷ [] } in
          record {
            next = q;
            searched = record {
              accepted = accepted;
              selected = false;
              count = count;
              bytes = bytes;
              found = found_at false count bytes found;
              shown = inr (is.due ∙ due, refl);
            };
            at = subst (λ w. IsAt w q) (sym new_is) (record {
              number = ap (λ n. n + 1) is.number;
              selected = is.selected;
              due = is.due;
              hidden = ap (λ lines. last_of (lines_before (context_of job)) (lines ++ line.bytes ∷ [])) is.hidden
                  ∙ last_one_more (lines_before (context_of job)) p.hidden line.bytes;
              left_out = more_left_out (lines_before (context_of job)) (length w.hidden) (length p.hidden) (length (p.hidden ++ line.bytes ∷ []))
                  (ap length is.hidden ∙ length-drop (length p.hidden - lines_before (context_of job)) p.hidden) (length-append p.hidden (line.bytes ∷ []));
              kept = omega (arith, is.kept, length-append p.hidden (line.bytes ∷ []));
            });
            written = sym (ap (λ added. p.written ++ added) none ∙ append-nil p.written);
          }
        where
          more_left_out : (n few all more : ℕ) → few ≡ all - (all - n) → more ≡ all + 1 → ltb n (few + 1) ≡ ltb n more
          more_left_out n few all more few_is more_is = grind (arith, nat_tests)

      either : IsAccepted place.encoding line.bytes → (selected : Bool) (count : ℕ) (bytes : List ℕ) → IsFound r job place (is_enough job w.selected) (w.number + 1) line selected count bytes →
          IsShown r job place selected w line.bytes count bytes new added → Further p line new added
      either accepted true count bytes found shown = if_selected accepted count bytes found shown
      either accepted false count bytes found shown = if_other accepted count bytes found shown

      pub next_line : IsNextLine r job place w line new added → Further p line new added
      next_line next = either next.accepted next.selected next.count next.bytes next.found next.shown

-- Nothing is written in front of a selected line where no separator is, and no line is in the window.
pub nothing_in_front : (r : Regex) (job : Job) (place : Named) (w : Window) (apart : Bool) →
    separator_of job place w ≡ cond apart (separator (colors_of job) (context_of job)) [] → apart ≡ false → w.hidden ≡ [] → IsInFront r job place w []
nothing_in_front r job place w apart is none_apart none =
    let n = w.number + 1 - 0 in
    let same : n ≡ n + 0 = omega arith in (
      [],
      subst (λ lines. AreNear r job place (w.number + 1 - length lines) lines []) (sym none) (ap (λ k. (k, [])) same),
      sym (ap (λ bytes. bytes ++ []) (is ∙ ap (λ apart. cond apart (separator (colors_of job) (context_of job)) []) none_apart)),
    )

-- what is written for the lines in the window, one after another
module _ (r : Regex) (job : Job) (place : Named) {B : Type 0} (f : B → List ℕ) (lines : List B) (base : ℕ) (old : List ℕ) where
  -- what was added for the first i lines
  pub record Added (i number : ℕ) (to : List ℕ) : Type 0 where
    pub number_is : number ≡ base + i
    pub bytes : List ℕ
    pub steps : FoldsTo (IsNearStep r job place) (base + 1, []) (map f (take i lines)) (number + 1, bytes)
    pub is : to ≡ old ++ bytes

  pub none_added : Added 0 base old
  none_added = record { number_is = omega arith; bytes = []; steps = refl; is = sym (append-nil old) }

  pub one_added : (i number : ℕ) (before : List ℕ) → Added i number before → (x : B) (bytes to : List ℕ) → i < length lines →
      IsNear r job place (number + 1) (f (get_or lines i x)) bytes → to ≡ before ++ bytes → Added (i + 1) (number + 1) to
  one_added i number before added x bytes to within near is = record {
    number_is = omega (arith, added.number_is);
    bytes = added.bytes ++ bytes;
    steps =
        one_further (IsNearStep r job place) f lines i (base + 1, []) (number + 1, added.bytes) added.steps x (number + 1 + 1, added.bytes ++ bytes) within
        (bytes, near, refl);
    is = is ∙ ap (λ before. before ++ bytes) added.is ∙ append_assoc old added.bytes bytes;
  }

  pub all_added : (i number : ℕ) (to : List ℕ) → Added i number to → length lines ≤ i → i ≤ length lines →
      (before : List ℕ) × AreNear r job place (base + 1) (map f lines) before × (to ≡ old ++ before)
  all_added i number to added over within = (
    added.bytes,
    subst (λ n. FoldsTo (IsNearStep r job place) (base + 1, []) (map f lines) (n, added.bytes))
        (let end : number + 1 ≡ base + 1 + length (map f lines) = omega (arith, added.number_is, over, within, length-map lines f) in end)
        (subst (λ some. FoldsTo (IsNearStep r job place) (base + 1, []) (map f some) (number + 1, added.bytes)) (take_all i lines over) added.steps),
    added.is,
  )
