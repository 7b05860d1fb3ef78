-- The words of the beginning.
use Rattle.std.proofs.Common.{subst, sym}
use Rattle.cell_core.specs.Cell.{start}
use Rattle.cell_core.specs.Shows.{Shows}
use Rattle.cell_core.proofs.BeginShows.{begun_is, begun_shows}
use Rattle.cell_core.proofs.word_machine.WordMachine.new.Goals as goal

pub returns-clause-made : goal.returns-clause-made
returns-clause-made g c = begun_is c.args.first c.in_ok-table.table.items c.new.result.items c.in_ok-table.ensures.made c.new.ensures.items

pub returns-clause-shows : goal.returns-clause-shows
returns-clause-shows g c = subst (λ x. Shows x (start c.args.first)) (sym (returns-clause-made g c)) (begun_shows c.args.first)
