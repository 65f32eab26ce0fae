-- The results of the writes of a run.
use Rattle.std.proofs.Common.{◌≡◌, ℕ, Bool, true, List, [], ◌++◌, Option, inl, inr, refl, subst, codes}
use Rattle.std.specs.Io.KnownBytes.{Appends}
use Rattle.std.specs.Prelude.{Result, Ok, Err, OnOk, IfOk, IfErr}
use Rattle.regress_arguments.specs.Output.{Took}
use Rattle.regress_arguments.proofs.lemmas.Output.{appends_both}
use Rattle.regress_base.specs.declared.types.Flags.{Flags}
use Rattle.regress_base.specs.Table.{Table}
use Rattle.regress_lexer.specs.Dialects.{flags_in_force}
use Rattle.regress_lexer.specs.Source.{Source}
use Rattle.regress_lexer.specs.declared.dialect.Dialect.{Dialect}
use Rattle.regress_parse.specs.Accepted as parse
use Rattle.regress_parse.specs.declared.fault.PlacedFault.{PlacedFault}
use Rattle.regress_parse.specs.declared.fault.PlacedFault.TheVariants as fault
use Rattle.regress_parse.specs.TreeOf.{tree_of}
use Rattle.regress_parse.specs.Spans.{spans_in}
use Rattle.regress_parse.specs.declared.span.Span.{Span}
use Rattle.regress_parse.specs.declared.pattern.SpannedRegex.{SpannedRegex}
use Rattle.regress_parse.specs.Settled.{IsFaultIn}
use Rattle.regress_syntax.specs.Syntax.{Pattern}
use Rattle.regress_tree.specs.Steps.{Setting}
use Rattle.regress_tree.specs.Tree.{Tree, tree}
use Rattle.regress_display.specs.Request.{setting_of_request, Request, table_asked}
use Rattle.regress_display.specs.Ending.{Leaves}
use Rattle.regress_display.specs.Shown.{IsParsed, IsOptimized, IsOptimizedShown, IsFirstOutput, IsFirstShown, IsOutput, IsShown, IsShownAs, IsShownWith, shows_spans}
use Rattle.regress_display.specs.declared.error.ShowError.{ShowError}
use Rattle.regress_display.specs.declared.error.ShowError.TheVariants.{Syntax, Memory, Output}
use Rattle.regress_display.specs.declared.request.Format.{Format}
use Rattle.regress_display.specs.declared.request.Format.TheVariants.{Text, Json, Svg}
use Rattle.regress_display.specs.declared.request.Stage.{Stage}
use Rattle.regress_display.specs.declared.request.Stage.TheVariants.{Parsed, Optimized, Both}

-- one tree
pub shows_one : (format : Format) (flags : Flags) (t : Tree) (spans : List Span) (shown after : List ℕ) (r : Result (Unit {0}) ShowError)
    (old new : Option (List ℕ)) → IsShownAs format flags t spans shown → OnOk r (Appends old new (shown ++ after)) →
    OnOk r (Took old new (IsShownWith format flags t spans after))
shows_one format flags t spans shown after (Ok done) old new is_shown appends = (shown ++ after, (shown, is_shown, refl), appends)
shows_one format flags t spans shown after (Err failure) old new is_shown appends = tt

-- the optimized tree
pub shows_optimized : (format : Format) (flags : Flags) (t o : Tree) (r : Result (Unit {0}) ShowError) (old new : Option (List ℕ)) →
    IsOptimized t o → OnOk r (Took old new (IsShownWith format flags o [] [])) → OnOk r (Took old new (IsOptimizedShown format flags t))
shows_optimized format flags t o (Ok done) old new optimized (bytes, shown, appends) = (bytes, (o, optimized, shown), appends)
shows_optimized format flags t o (Err failure) old new optimized took = tt

-- both trees in order
pub shows_both : (format : Format) (flags : Flags) (t : Tree) (spans : List Span) (r : Result (Unit {0}) ShowError) (old between new : Option (List ℕ)) →
    Took old between (IsShownWith format flags t spans (codes "--\n")) → OnOk r (Took between new (IsOptimizedShown format flags t)) →
    OnOk r (Took old new (IsShown Both format flags t spans))
shows_both format flags t spans (Ok done) old between new (first, one, before) (second, two, after) =
    (first ++ second, (first, second, one, two, refl), appends_both old between new first second before after)
shows_both format flags t spans (Err failure) old between new before after = tt

-- the spans of the tree's own nodes
pub spanned_parsed : (shown : Bool) (dialect : Dialect) (setting : Setting) (source : Source) (r : Result SpannedRegex PlacedFault) →
    IfOk r (λ s. (p : Pattern) × (accepted : parse.IsAcceptedIn dialect setting source p) × (tree s.regex.node ≡ tree_of setting.table p)
    × (s.spans.items ≡ spans_in dialect setting source p accepted.derived)) → IfOk r (IsParsed shown dialect setting source)
spanned_parsed shown dialect setting source (Ok s) (p, accepted, same, spans) = record {
  pattern = p;
  accepted = accepted;
  parsed = same;
  spans = λ _. spans;
}
spanned_parsed shown dialect setting source (Err fault) spanned = tt

-- the result of parsing with the requested table
module _ (shown : Bool) (dialect : Dialect) (flags : Flags) (source : Source) (r : Result SpannedRegex PlacedFault) where
  abbrev setting : Table → Setting
  setting table = record { flags = flags_in_force dialect flags; table = table }

  pub parsed_asked : (small : Bool) (table : Table) → table ≡ table_asked small → IfOk r (IsParsed shown dialect (setting table) source) →
      IfOk r (IsParsed shown dialect (setting (table_asked small)) source)
  parsed_asked small table same parsed = subst (λ (x : Table). IfOk r (IsParsed shown dialect (setting x) source)) same parsed

  pub rejected_asked : (small : Bool) (table : Table) → table ≡ table_asked small → IfErr r (IsFaultIn dialect (setting table) source) →
      IfErr r (IsFaultIn dialect (setting (table_asked small)) source)
  rejected_asked small table same rejected = subst (λ (x : Table). IfErr r (IsFaultIn dialect (setting x) source)) same rejected

-- Other spans are shown alike, unless spans are part of the output.
module _ (flags : Flags) (t : Tree) (spans others : List Span) (bytes : List ℕ) where
  same_shown : (stage : Stage) (format : Format) → (shows_spans format stage ≡ true → spans ≡ others) →
      IsShown stage format flags t spans bytes → IsShown stage format flags t others bytes
  same_shown Parsed Text same shown = shown
  same_shown Parsed Json same shown = subst (λ (ss : List Span). IsShown Parsed Json flags t ss bytes) (same refl) shown
  same_shown Parsed Svg same shown = shown
  same_shown Optimized Text same shown = shown
  same_shown Optimized Json same shown = shown
  same_shown Optimized Svg same shown = shown
  same_shown Both Text same shown = shown
  same_shown Both Json same shown = subst (λ (ss : List Span). IsShown Both Json flags t ss bytes) (same refl) shown
  same_shown Both Svg same shown = shown

  same_first : (stage : Stage) (format : Format) → (shows_spans format stage ≡ true → spans ≡ others) →
      IsFirstShown stage format flags t spans bytes → IsFirstShown stage format flags t others bytes
  same_first Parsed format same shown = shown
  same_first Optimized format same shown = shown
  same_first Both Text same shown = shown
  same_first Both Json same shown = subst (λ (ss : List Span). IsFirstShown Both Json flags t ss bytes) (same refl) shown
  same_first Both Svg same shown = shown

-- an accepted pattern
module _ (request : Request) (parsed : SpannedRegex) (old new : Option (List ℕ))
    (is_parsed : IsParsed (shows_spans request.format request.stage) request.dialect (setting_of_request request) request.pattern parsed) where
  abbrev flags_of_request : Flags
  flags_of_request = flags_in_force request.dialect request.flags

  abbrev own : List Span
  own = spans_in request.dialect (setting_of_request request) request.pattern is_parsed.pattern is_parsed.accepted.derived

  pub shows_output : (r : Result (Unit {0}) ShowError) →
      OnOk r (Took old new (IsShown request.stage request.format flags_of_request (tree parsed.regex.node) parsed.spans.items)) →
      OnOk r (Took old new (IsOutput request))
  shows_output (Ok done) (bytes, shown, appends) = (
    bytes,
    record {
      pattern = is_parsed.pattern;
      accepted = is_parsed.accepted;
      shown = subst (λ (t : Tree). IsShown request.stage request.format flags_of_request t own bytes) is_parsed.parsed
          (same_shown flags_of_request (tree parsed.regex.node) parsed.spans.items own bytes request.stage request.format is_parsed.spans shown);
    },
    appends,
  )
  shows_output (Err failure) took = tt

  first_output : Took old new (IsFirstShown request.stage request.format flags_of_request (tree parsed.regex.node) parsed.spans.items) →
      Took old new (IsFirstOutput request)
  first_output (bytes, shown, appends) = (
    bytes,
    record {
      pattern = is_parsed.pattern;
      accepted = is_parsed.accepted;
      shown = subst (λ (t : Tree). IsFirstShown request.stage request.format flags_of_request t own bytes) is_parsed.parsed
          (same_first flags_of_request (tree parsed.regex.node) parsed.spans.items own bytes request.stage request.format is_parsed.spans shown);
    },
    appends,
  )

  pub leaves_output : (nothing : Type 0) (r : Result (Unit {0}) ShowError) →
      IfErr r (Leaves nothing (Took old new (IsFirstShown request.stage request.format flags_of_request (tree parsed.regex.node) parsed.spans.items))) →
      IfErr r (Leaves nothing (Took old new (IsFirstOutput request)))
  leaves_output nothing (Ok done) h = tt
  leaves_output nothing (Err (Syntax kind e position)) h = h
  leaves_output nothing (Err Memory) (inl h) = inl h
  leaves_output nothing (Err Memory) (inr h) = inr (first_output h)
  leaves_output nothing (Err Output) h = tt
