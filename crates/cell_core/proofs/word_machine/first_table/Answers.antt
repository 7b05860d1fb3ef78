-- One free slot after the other.
use Rattle.std.proofs.Common.{◌≡◌, ◌∙◌, [], ◌∷◌, ◌++◌, arith, rules}
use Rattle.cell_core.proofs.TableLemmas.{one_more_free, all_free}
use Rattle.cell_core.specs.Words.{first_slot, free_slot}
use Rattle.cell_core.proofs.word_machine.first_table.Goals as goal

pub loop-i-preserved : goal.loop-i-preserved
loop-i-preserved g c =
    let more : c.push-in-loop-i.new.self.items ≡ c.loop-i.table.items ++ free_slot ∷ [] = search rules in
    more ∙ one_more_free (first_slot c.args.first) c.loop-i.table.items c.loop-i.i (omega arith) c.loop-i.invariant

pub returns-clause-made : goal.returns-clause-made
returns-clause-made g c = all_free (first_slot c.args.first) c.loop-i.table.items c.loop-i.i (omega arith) c.loop-i.invariant
