-- Inputs are searched one after another.
use Rattle.std.proofs.Common.{◌≡◌, ◌∙◌, ◌⊎◌, inl, inr, ℕ, suc, ◌+◌, ◌<◌, ◌≤◌, Bool, true, false, ◌||◌, List, [], ◌∷◌, ◌++◌, Option, Some, None, length, map, take, drop, get_or, refl, sym, ap, subst, arith, append-nil, drop-cons, take-append-drop}
use Rattle.std.specs.Prelude.{String, string_bytes}
use Rattle.std.specs.Io.KnownBytes.{Appends}
use Rattle.std.specs.List.{FoldsTo}
use Rattle.std.specs.declared.alloc.Global.{Global}
use Rattle.std.proofs.lemmas.Fn.{FoldsTo-push}
use Rattle.std.proofs.Math.ListN.{drop_of_length-le}
use Rattle.std.proofs.lemmas.List.{drop-drop, get_or-drop, get_or-map, length-drop, length-map, take_all, take_more}
use Rattle.regress_arguments.proofs.lemmas.Output.{appends_both}
use Rattle.regex_lines.proofs.FoldLemmas.{stays}
use Rattle.regress.specs.declared.pattern.Regex.{Regex}
use Rattle.regex_lines.specs.Searched.{AddsInput, Input, IsInputStep, IsSearchedInput, IsUnreadInput, Result, WritesInputs, WritesSomeOf, bytes_of, following, has_ended, left_after, named_inputs, nothing, Named, PrintsPart, printed}
use Rattle.regex_lines.specs.Unread.{Unread}
use Rattle.regex_options.specs.Plain.{Job}

same : (any is : Bool) → is ≡ false → any || is ≡ any
same true is none = refl
same false is none = none

appends_nothing : (known : Option (List ℕ)) → Appends known known []
appends_nothing None = tt
appends_nothing (Some bytes) = sym (append-nil bytes)

module _ (r : Regex) (job : Job) (inputs : List Input) (before : Option (List ℕ)) where
  -- what was written for the first i inputs, of which these were not read
  pub record FirstInputs (i : ℕ) (any : Bool) (unread : List Unread) (after : Option (List ℕ)) : Type 0 where
    pub bytes : List ℕ
    pub steps : FoldsTo (IsInputStep r job) nothing (take i inputs) (record { any = any; unread = unread; written = bytes })
    pub written : Appends before after bytes

  pub none_yet : FirstInputs 0 false [] before
  none_yet = record { bytes = []; steps = refl; written = appends_nothing before }

  module _ (i : ℕ) (any : Bool) (unread : List Unread) (between : Option (List ℕ)) (sofar : FirstInputs i any unread between) where
    abbrev reached : Result
    reached = record { any = any; unread = unread; written = sofar.bytes }

    -- The inputs that are left are passed over.
    pub ended : has_ended job any ≡ true → WritesInputs r job inputs before between unread any
    ended is = (
      sofar.bytes,
      subst (λ all. FoldsTo (IsInputStep r job) nothing all reached) (take-append-drop i inputs)
          (stays (IsInputStep r job) nothing reached (take i inputs) (drop i inputs)
          (λ input. record { passed = λ _. refl; searched = λ goes_on. let bad : ⊥ = cc (goes_on, is) in absurd bad }) sofar.steps),
      sofar.written,
    )

    -- No input is left.
    pub finished : length inputs ≤ i → WritesInputs r job inputs before between unread any
    finished all = (sofar.bytes, subst (λ some. FoldsTo (IsInputStep r job) nothing some reached) (take_all i inputs all) sofar.steps, sofar.written)

    module _ (input : Input) (within : i < length inputs) (here : get_or inputs i input ≡ input) (after : Option (List ℕ)) where
      -- the first i + 1 inputs
      further : (next : Result) → has_ended job any ≡ false → IsSearchedInput r job reached input next ⊎ IsUnreadInput r job reached input next →
          FoldsTo (IsInputStep r job) nothing (take (i + 1) inputs) next
      further next goes_on is =
          subst (λ some. FoldsTo (IsInputStep r job) nothing some next)
          (sym (take_more inputs i input within ∙ ap (λ x. take i inputs ++ x ∷ []) here))
          (FoldsTo-push (IsInputStep r job) nothing (take i inputs) reached input next sofar.steps
          (record {
            passed = λ ended. let bad : ⊥ = cc (goes_on, ended) in absurd bad;
            searched = λ _. is;
          }))

      pub one_more : has_ended job any ≡ false → (is : Bool) (more : List Unread) → AddsInput r job (following any input.0) input.1 between after unread more is →
          FirstInputs (i + 1) (any || is) more after
      one_more goes_on is more (inl read) =
          let took = read.0 in
          record {
            bytes = sofar.bytes ++ took.0;
            steps = further (record { any = any || is; unread = more; written = sofar.bytes ++ took.0 }) goes_on
                (inl (record {
                  any = is;
                  bytes = took.0;
                  written = took.1;
                  next = λ j. record { any = any || is; unread = read.1 j; written = sofar.bytes ++ took.0 };
                }));
            written = appends_both before between after sofar.bytes took.0 sofar.written took.2;
          }
      one_more goes_on is more (inr (first, added, none)) = record {
        bytes = sofar.bytes ++ printed job first.0;
        steps = further (record { any = any || is; unread = more; written = sofar.bytes ++ printed job first.0 }) goes_on
            (inr (record {
              progress = first.0;
              searched = first.1;
              unread = more;
              added = added;
              next = λ j. record { any = same any is none j; unread = more; written = sofar.bytes ++ printed job first.0 };
            }));
        written = appends_both before between after sofar.bytes (printed job first.0) sofar.written first.2;
      }

      pub some_of : PrintsPart r job (following any input.0) input.1 between after → WritesSomeOf r job inputs before after unread
      some_of part = (
        sofar.bytes ++ part.0,
        record {
          before = take i inputs;
          others = input ∷ drop (suc i) inputs;
          parts = sym (take-append-drop i inputs) ∙ ap (λ rest. take i inputs ++ rest) (drop-cons inputs i input within ∙ ap (λ x. x ∷ drop (suc i) inputs) here);
          result = reached;
          steps = sofar.steps;
          unread_are = refl;
          more = part.0;
          begun = part.1;
          is = refl;
        },
        appends_both before between after sofar.bytes part.0 sofar.written part.2,
      )

module _ (place : (file : List ℕ) → Named) (files : List (String Global)) (inputs : List Input) where
  abbrev names : List (List ℕ)
  names = map string_bytes files

  -- The inputs from i on are those with the names of the files from i on.
  pub record AreLeft (i : ℕ) (left : Option (List ℕ)) : Type 0 where
    pub are : drop i inputs ≡ named_inputs place (drop i names) left

  module _ (i : ℕ) (left : Option (List ℕ)) (rest : AreLeft i left) where
    -- No file is left.
    pub none_left : length files ≤ i → length inputs ≤ i
    none_left all =
        let none = rest.are ∙ ap (λ some. named_inputs place some left) (drop_of_length-le names (omega (arith, all, length-map files string_bytes))) in
        omega (arith, ap length none, length-drop i inputs)

    module _ (file : String Global) (within : i < length files) (here : get_or files i file ≡ file) where
      abbrev input : Input
      input = (place (string_bytes file), bytes_of (string_bytes file) left)

      next : drop i inputs ≡ input ∷ named_inputs place (drop (suc i) names) (left_after (string_bytes file) left)
      next =
          rest.are
          ∙ ap (λ some. named_inputs place some left)
          (drop-cons names i (string_bytes file) (omega (arith, within, length-map files string_bytes))
          ∙ ap (λ name. name ∷ drop (suc i) names) (get_or-map string_bytes files i file (string_bytes file) within ∙ ap string_bytes here))

      pub input_within : i < length inputs
      input_within = omega (arith, ap length next, length-drop i inputs)

      -- the i-th file as an input
      pub input_at : get_or inputs i input ≡ input
      input_at =
          ap (λ j. get_or inputs j input) (let at : i ≡ i + 0 = omega arith in at)
          ∙ sym (get_or-drop i inputs 0 input) ∙ ap (λ some. get_or some 0 input) next

      pub one_less : AreLeft (i + 1) (left_after (string_bytes file) left)
      one_less = record {
        are = sym (drop-drop 1 i inputs) ∙ ap (drop 1) next
            ∙ ap (λ n. named_inputs place (drop n names) (left_after (string_bytes file) left)) (let at : suc i ≡ i + 1 = omega arith in at);
      }

module _ (r : Regex) (job : Job) (place : (file : List ℕ) → Named) (files : List (String Global)) (input before : Option (List ℕ)) where
  abbrev inputs : List Input
  inputs = named_inputs place (map string_bytes files) input

  -- The first i inputs were searched, and standard input has this left.
  pub record SoFar (i : ℕ) (any : Bool) (unread : List Unread) (left after : Option (List ℕ)) : Type 0 where
    pub first : FirstInputs r job inputs before i any unread after
    pub rest : AreLeft place files inputs i left

  pub at_first : (unread : List Unread) → unread ≡ [] → SoFar 0 false unread input before
  at_first unread none = subst (λ unread. SoFar 0 false unread input before) (sym none) (record { first = none_yet r job inputs before; rest = record { are = refl } })
