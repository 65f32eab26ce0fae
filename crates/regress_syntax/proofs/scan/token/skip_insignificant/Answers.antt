use Rattle.std.proofs.Common.{◌≡◌, ℕ, Bool, true, [], ◌∷◌, drop, length, refl, sym, ap, ◌∙◌, arith}
use Rattle.std.proofs.lemmas.List.{length-drop}
use Rattle.regress_base.specs.Table.{Table}
use Rattle.regress_lexer.specs.Source.{Source}
use Rattle.regress_syntax.specs.Scan.{is_insignificant, tokens}
use Rattle.regress_syntax.specs.FirstErrors.{Flaw, remaining_at}
use Rattle.regress_syntax.specs.Scanning.{mode_of, tokens_down_to}
use Rattle.regress_syntax.specs.declared.scan.token.Mode.{Mode}
use Rattle.regress_syntax.specs.declared.scan.token.Mode.TheVariants.{Plain, Class}
use Rattle.regress_syntax.proofs.ScanLemmas.{Home, home, in_text, in_class, passes_then, pass_quiet, pass_backslash, pass_escaped}
use Rattle.regress_syntax.proofs.FirstErrorsLemmas.{left_quiet, left_escape}
use Rattle.regress_syntax.proofs.PlaceLemmas.{down_quiet, down_escape}
use Rattle.regress_syntax.proofs.scan.token.skip_insignificant.Goals as goal

home_of : (mode : Mode) → (w : Home) × (mode_of mode ≡ home w)
home_of Plain = (in_text, refl)
home_of (Class depth deepest) = (in_class depth deepest, refl)

quiet_skipped : (sets : Bool) (table : Table) (mode : Mode) (c : ℕ) (rest after : Source) → rest ≡ c ∷ after → is_insignificant c ≡ true →
    tokens sets table (mode_of mode) rest ≡ tokens sets table (mode_of mode) after
quiet_skipped sets table mode c rest after split quiet =
    let (w, is) = home_of mode in rw (split, is) (pass_quiet w c after quiet).same

-- A backslash at the end of the source is no mark either.
after_escape : (sets : Bool) (table : Table) (w : Home) (t : Source) → tokens sets table (home w) (92 ∷ t) ≡ tokens sets table (home w) (drop 1 t)
unfolding tokens
after_escape sets table in_text [] = refl
after_escape sets table (in_class depth deepest) [] = refl
after_escape sets table w (d ∷ t) = (passes_then (pass_backslash w (d ∷ t)) (pass_escaped w d t)).same

escape_skipped : (sets : Bool) (table : Table) (mode : Mode) (c : ℕ) (rest after : Source) → rest ≡ c ∷ after → c ≡ 92 →
    tokens sets table (mode_of mode) rest ≡ tokens sets table (mode_of mode) (drop 1 after)
escape_skipped sets table mode c rest after split backslash =
    let (w, is) = home_of mode in rw (split, backslash, is) (after_escape sets table w after)

quiet_left : (flaw : Flaw) (sets : Bool) (mode : Mode) (n c : ℕ) (rest after : Source) → rest ≡ c ∷ after → is_insignificant c ≡ true →
    remaining_at flaw sets (mode_of mode) n rest ≡ remaining_at flaw sets (mode_of mode) n after
quiet_left flaw sets mode n c rest after split quiet =
    let (w, is) = home_of mode in rw (split, is) (left_quiet flaw sets w n c after quiet)

escape_left : (flaw : Flaw) (sets : Bool) (mode : Mode) (n c : ℕ) (rest after : Source) → rest ≡ c ∷ after → c ≡ 92 →
    remaining_at flaw sets (mode_of mode) n rest ≡ remaining_at flaw sets (mode_of mode) n (drop 1 after)
escape_left flaw sets mode n c rest after split backslash =
    let (w, is) = home_of mode in rw (split, backslash, is) (left_escape flaw sets w n after)

quiet_places : (left : ℕ) (sets : Bool) (table : Table) (mode : Mode) (c : ℕ) (rest after : Source) → rest ≡ c ∷ after → is_insignificant c ≡ true →
    tokens_down_to left sets table (mode_of mode) rest ≡ tokens_down_to left sets table (mode_of mode) after
quiet_places left sets table mode c rest after split quiet =
    let (w, is) = home_of mode in rw (split, is) (down_quiet left sets table w c after quiet)

escape_places : (left : ℕ) (sets : Bool) (table : Table) (mode : Mode) (c : ℕ) (rest after : Source) → rest ≡ c ∷ after → c ≡ 92 →
    tokens_down_to left sets table (mode_of mode) rest ≡ tokens_down_to left sets table (mode_of mode) (drop 1 after)
escape_places left sets table mode c rest after split backslash =
    let (w, is) = home_of mode in rw (split, backslash, is) (down_escape left sets table w after)

pub loop-c-preserved-then-is_insignificant : goal.loop-c-preserved-then-is_insignificant
loop-c-preserved-then-is_insignificant c = record {
  same = λ sets table mode.
      c.loop-c.invariant.same sets table mode
      ∙ quiet_skipped sets table mode c.in-Some.c.now _ _ c.in-Some.ensures.cases.0 (sym c.is_insignificant.ensures ∙ c.if-is_insignificant.true);
  places = λ left sets table mode.
      c.loop-c.invariant.places left sets table mode
      ∙ quiet_places left sets table mode c.in-Some.c.now _ _ c.in-Some.ensures.cases.0 (sym c.is_insignificant.ensures ∙ c.if-is_insignificant.true);
  flaws = λ flaw sets mode n.
      c.loop-c.invariant.flaws flaw sets mode n
      ∙ quiet_left flaw sets mode n c.in-Some.c.now _ _ c.in-Some.ensures.cases.0 (sym c.is_insignificant.ensures ∙ c.if-is_insignificant.true);
  within = omega (arith, c.loop-c.invariant.within, ap length c.in-Some.ensures.cases.0);
}

pub loop-c-preserved : goal.loop-c-preserved
loop-c-preserved c = record {
  same = λ sets table mode.
      c.loop-c.invariant.same sets table mode
      ∙ escape_skipped sets table mode c.in-Some.c.now _ _ c.in-Some.ensures.cases.0 (c.if-c-from.true ∙ c.from.ensures)
      ∙ ap (tokens sets table (mode_of mode)) (sym c.skip_escaped-rest.ensures);
  places = λ left sets table mode.
      c.loop-c.invariant.places left sets table mode
      ∙ escape_places left sets table mode c.in-Some.c.now _ _ c.in-Some.ensures.cases.0 (c.if-c-from.true ∙ c.from.ensures)
      ∙ ap (tokens_down_to left sets table (mode_of mode)) (sym c.skip_escaped-rest.ensures);
  flaws = λ flaw sets mode n.
      c.loop-c.invariant.flaws flaw sets mode n
      ∙ escape_left flaw sets mode n c.in-Some.c.now _ _ c.in-Some.ensures.cases.0 (c.if-c-from.true ∙ c.from.ensures)
      ∙ ap (remaining_at flaw sets (mode_of mode) n) (sym c.skip_escaped-rest.ensures);
  within = omega (
    arith,
    c.loop-c.invariant.within,
    ap length c.in-Some.ensures.cases.0,
    ap length c.skip_escaped-rest.ensures,
    length-drop 1
        c.in-Some.after.now,
  );
}
