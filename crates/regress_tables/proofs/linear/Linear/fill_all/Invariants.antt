use Rattle.std.proofs.Common.{◌≡◌, ◌+◌, ◌-◌, ◌*◌, ◌≤◌, ℕ, IfSome, length, min, option_map, take}
use Rattle.regress_program.specs.Program.{IsSolution, Out}
use Rattle.regress_program.specs.Compiled.{total}
use Rattle.regress_code.specs.Code.{code_routines, setting_with}
use Rattle.regress_tables.specs.Memory.{stored_bytes}
use Rattle.regress_tables.specs.Table.{AreRight, AreTables}
use Rattle.regress_tables.proofs.linear.Linear.fill_all.Given as goal

abbrev pub invariant-loop-routine : goal.invariant-loop-routine
invariant-loop-routine l = record {
  count : length l.tables.items ≡ l.routine-index;
  tables : AreTables l.text (code_routines l.self.code.now) l.tables.items;
  right : (outs : ℕ → Out) → IsSolution (setting_with l.self.code.now l.self.known.tables.now) l.text (code_routines l.self.code.now) outs →
      AreRight outs l.tables.items;
  left : l.left ≡ option_map (λ most. most - stored_bytes l.tables.items) l.fn.room;
  stored : IfSome l.fn.room (λ most. stored_bytes l.tables.items ≤ most);
  counted : l.bits ≡ min ((length l.text + 1) * (2 * total (take l.routine-index (code_routines l.self.code.now)))) 18446744073709551615;
}
