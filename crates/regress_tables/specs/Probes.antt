-- What instructions that look at the text lead to.
use Rattle.std.specs.Prelude.{◌≡◌, ℕ, ◌+◌, ◌*◌, ◌==◌, ◌<◌, ◌≤◌, Bool, true, false, List, [], ◌∷◌, length, take, slice_get, Option, Some, None, if◌then◌else◌}
use Rattle.regress_tree.specs.Reading.{Direction}
use Rattle.regress_tree.specs.Steps.{Matcher, Setting}
use Rattle.regress_program.specs.Linear.{is_back_reference}
use Rattle.regress_program.specs.Program.{Op, Out, part, look, outcomes_by}
use Rattle.regress_program.specs.Shape.{Fits}
use Rattle.regress_code.specs.Code.{code_routines}
use Rattle.regress_tables.specs.declared.evaluate.Input.{Input}
use Rattle.regress_tables.specs.declared.probe.Probe.{Probe}
use Rattle.regress_tables.specs.declared.probe.Probe.TheVariants as probes
use Rattle.regress_tables.specs.declared.table.Table.{Table}
use Rattle.regress_tables.specs.Table.{cell, evaluated, index, Tells, TellsOf}

-- whether there is an outcome, by whether there is one from the next instruction at the same position
abbrev pub probe_bit : Probe → Bool → Bool
probe_bit probes.Fails b = false
probe_bit probes.Stays b = b
probe_bit probes.Jumps b = true

abbrev pub digit : Probe → ℕ
digit probes.Fails = 0
digit probes.Stays = 1
digit probes.Jumps = 2

abbrev pub stays_if : Bool → Probe
stays_if holds = if holds then probes.Stays else probes.Fails

abbrev pub jumps_if : Bool → Probe
jumps_if holds = if holds then probes.Jumps else probes.Fails

-- what a part leads to that ends at a position, or fails
abbrev pub landing : Table → (next position : ℕ) → Option ℕ → Probe
landing t next position None = probes.Fails
landing t next position (Some q) = if q == position then probes.Stays else jumps_if (cell t next true q)

-- The row of the position is filled next. The instruction is no back reference, and refers to earlier instructions and to
-- routines whose tables are full.
pub record CanProbe (input : Input) (t : Table) (op : Op) (position : ℕ) : Type 0 where
  pub pc : ℕ
  pub pc_in : pc < t.width
  pub position_in : position ≤ t.length
  pub at : index t 0 false position ≡ length (evaluated t)
  pub fits : Fits (take (length input.tables.now) (code_routines input.code.now)) t.width pc op
  pub no_reference : is_back_reference op ≡ false
  pub length : t.length ≡ length input.text.now
  pub backwards : t.backwards ≡ input.rules.backwards

module _ (setting : Setting) (bytes : List ℕ) (d : Direction) (body_of : ℕ → Matcher) (out : Out) where
  -- The probe tells whether the instruction has an outcome, by whether the next one has.
  abbrev pub Leads : Op → (next position : ℕ) → Probe → Type 0
  Leads op next position p = (moved b : Bool) → Tells out next moved position b →
      TellsOf (outcomes_by setting bytes d body_of out op) moved position (probe_bit p b)

  -- So it does, if the instruction looks at the text.
  abbrev pub IsProbe : Op → (position : ℕ) → Probe → Type 0
  IsProbe (part t next) position p = Leads (part t next) next position p
  IsProbe (look negate routine next) position p = Leads (look negate routine next) next position p
  IsProbe op position p = Unit {0}

  -- The code has a digit for each of these instructions: what it leads to from the position.
  abbrev pub Coded : List Op → (pcs : List ℕ) (position code : ℕ) → Type 0
  Coded ops [] position code = code ≡ 0
  Coded ops (pc ∷ pcs) position code = (rest : ℕ) × (p : Probe) × (code ≡ rest * 4 + digit p)
      × ((op : Op) → slice_get ops pc ≡ Some op → IsProbe op position p) × Coded ops pcs position rest
