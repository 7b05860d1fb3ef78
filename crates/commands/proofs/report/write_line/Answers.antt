use Rattle.commands.proofs.ReportLemmas.{AppendsSome-behind}
use Rattle.commands.proofs.report.write_line.Goals as goal

pub returns : goal.returns
returns g c = AppendsSome-behind _ _ (g.E.Write.contents c.write_whole.new.writer) _ _ _ c.in_ok-write_whole.ensures c.write_whole-2.ensures
