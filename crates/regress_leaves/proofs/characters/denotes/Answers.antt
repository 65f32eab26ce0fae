use Rattle.std.proofs.Common.{arith, ◌≡◌, ℕ, Bool, true, false, ap}
use Rattle.std.proofs.lemmas.Bool.Decides.{nat_tests}
use Rattle.regress_base.specs.Table.{Table, denotes}
use Rattle.regress_unicode.specs.TableOf.{table_of}
use Rattle.regress_leaves.proofs.characters.denotes.Goals as goal

occurs_for_itself : (t : Table) (icase unicode : Bool) (c x : ℕ) → x ≡ c → true ≡ denotes t icase unicode c x
occurs_for_itself t true true c x same = let mapped = ap t.fold same in grind (arith, nat_tests, mapped)
occurs_for_itself t true false c x same = let mapped = ap t.uppercase same in grind (arith, nat_tests, mapped)
occurs_for_itself t false unicode c x same = grind (arith, nat_tests)

pub returns-then-x-c : goal.returns-then-x-c
returns-then-x-c c =
    occurs_for_itself (table_of c.args.rules.known.tables.now) c.args.icase c.args.rules.flags.unicode c.args.c c.args.x c.if-x-c.true
