-- What loops over matches have written, and what is written for the texts of a line.
use Rattle.std.proofs.Common.{◌≡◌, ◌∙◌, ℕ, ◌+◌, ◌-◌, ◌≤◌, ◌<◌, Bool, List, [], ◌∷◌, ◌++◌, Option, add-one, append_assoc, arith, drop, drop-cons, flat_map, get_or, length, length-drop, map, slice_range, take, ap, refl, sym, subst}
use Rattle.std.proofs.lemmas.List.{drop_all, take_all}
use Rattle.std.specs.Prelude.{Result, Ok, Err, IfOk}
use Rattle.regress.specs.Compiled.{match_of}
use Rattle.regress.specs.declared.found.Match.{Match}
use Rattle.regress.specs.declared.pattern.Regex.{Regex}
use Rattle.regex_lines.specs.InLine.{AreInLine}
use Rattle.regex_lines.specs.Paint.{Paint}
use Rattle.regex_lines.specs.Reply.{IsReplacedFrom, IsReply, IsReplyIn, ReplacesUpTo, Run, run_of, shown_match, texts_of}
use Rattle.regex_lines.specs.declared.reply.Reply.{Reply}
use Rattle.regex_options.specs.Plain.{Job}
use Rattle.regex_lines.specs.declared.runs.Run as code

-- what was shown of the first i matches
abbrev pub shown_so_far : Paint → (prefix text : List ℕ) → List Match → ℕ → List ℕ
shown_so_far p prefix text ms i = flat_map (shown_match p prefix text) (map match_of (take i ms))

pub all_three : {X E : Type 0} (P Q R : X → Type 0) (result : Result X E) → IfOk result P → IfOk result Q → IfOk result R →
    IfOk result (λ x. P x × Q x × R x)
all_three P Q R (Ok x) p q r = (p, q, r)
all_three P Q R (Err e) p q r = tt

pub slice_to_end : (line : List ℕ) (from : ℕ) → slice_range line from (length line) ≡ drop from line
slice_to_end line from = take_all (length line - from) (drop from line) (omega (arith, length-drop from line))

-- what is written for the texts of a line
pub of_texts : (r : Regex) (line : List ℕ) (texts : List Run) (ended : Bool) (job : Job) (prefix : List ℕ) {E : Type 0} (result : Result Reply E) →
    texts_of line ≡ texts → IfOk result (λ reply. IsReplyIn r line texts ended job prefix reply.selected reply.count reply.bytes.items) →
    IfOk result (λ reply. IsReply r line ended job prefix reply.selected reply.count reply.bytes.items)
of_texts r line texts ended job prefix result same =
    subst (λ these. IfOk result (λ reply. IsReplyIn r line these ended job prefix reply.selected reply.count reply.bytes.items)) (sym same)

-- the texts of a line, with their matches replaced
module _ (r : Regex) (line template old : List ℕ) (most : Option ℕ) (all : List Run) where
  -- What was added after `old`, and what is yielded by the texts that are left, are together the line with its matches replaced.
  pub record Replacing (limit : Option ℕ) (from : ℕ) (left : List code.Run) (done : List ℕ) : Type 0 where
    pub added : List ℕ
    pub is : done ≡ old ++ added
    pub more : (rest : List ℕ) → IsReplacedFrom r line template limit from (map run_of left) rest → IsReplacedFrom r line template most 0 all (added ++ rest)
    pub order : AreInLine (length line) from (map run_of left)

  ends : (from : ℕ) (runs : List Run) → AreInLine (length line) from runs → from ≤ length line
  ends from [] within = within
  ends from (run ∷ runs) within = omega (arith, within.0, ends (run.start + length run.text) runs within.1)

  module _ (runs : List code.Run) (i : ℕ) (d : code.Run) (below : i < length runs) (limit : Option ℕ) (from : ℕ) (done : List ℕ)
      (replacing : Replacing limit from (drop i runs) done) where
    abbrev run : code.Run
    run = get_or runs i d

    first : drop i runs ≡ run ∷ drop (i + 1) runs
    first = rw add-one (drop-cons runs i d below)

    order : AreInLine (length line) from (map run_of (run ∷ drop (i + 1) runs))
    order = subst (λ (left : List code.Run). AreInLine (length line) from (map run_of left)) first replacing.order

    pub starts_after : from ≤ run.start
    starts_after = order.0

    pub ends_before : run.start + length run.text.now ≤ length line
    ends_before = ends (run.start + length run.text.now) (map run_of (drop (i + 1) runs)) order.1

    pub next_replaced : (text after : List ℕ) (next : Option ℕ) → ReplacesUpTo r template limit run.text.now text next →
        after ≡ (done ++ slice_range line from run.start) ++ text → Replacing next (run.start + length run.text.now) (drop (i + 1) runs) after
    next_replaced text after next replaces after_is =
        let piece = slice_range line from run.start in
        record {
          added = (replacing.added ++ piece) ++ text;
          is = after_is
              ∙ ap (λ bytes. (bytes ++ piece) ++ text) replacing.is
              ∙ append_assoc (old ++ replacing.added) piece text
              ∙ append_assoc old replacing.added (piece ++ text)
              ∙ ap (λ bytes. old ++ bytes) (sym (append_assoc replacing.added piece text));
          more = λ rest h.
              subst (IsReplacedFrom r line template most 0 all)
              (ap (λ bytes. replacing.added ++ bytes) (sym (append_assoc piece text rest))
              ∙ sym (append_assoc replacing.added (piece ++ text) rest)
              ∙ ap (λ bytes. bytes ++ rest) (sym (append_assoc replacing.added piece text)))
              (replacing.more (piece ++ (text ++ rest))
              (subst (λ (left : List code.Run). IsReplacedFrom r line template limit from (map run_of left) (piece ++ (text ++ rest))) (sym first)
              (text, rest, next, replaces, h, refl)));
          order = order.1;
        }

  module _ (runs : List code.Run) (i : ℕ) (over : length runs ≤ i) (limit : Option ℕ) (from : ℕ) (done : List ℕ)
      (replacing : Replacing limit from (drop i runs) done) where
    nothing : drop i runs ≡ []
    nothing = drop_all i runs over

    pub last_replaced : (out : List ℕ) × IsReplacedFrom r line template most 0 all out × (done ++ drop from line ≡ old ++ out)
    last_replaced = (
      replacing.added ++ drop from line,
      replacing.more (drop from line)
          (subst (λ (left : List code.Run). IsReplacedFrom r line template limit from (map run_of left) (drop from line)) (sym nothing) refl),
      ap (λ bytes. bytes ++ drop from line) replacing.is ∙ append_assoc old replacing.added (drop from line),
    )

    pub last_within : from ≤ length line
    last_within = subst (λ (left : List code.Run). AreInLine (length line) from (map run_of left)) nothing replacing.order
