use Rattle.std.proofs.Common.{◌∙◌}
use Rattle.journal.proofs.LogLemmas.{long_enough, begins_cut, leaves_two}
use Rattle.journal.proofs.log.Log.resume.Goals as goal

pub returns-clause-crash : goal.returns-clause-crash
returns-clause-crash g c octets synced written end =
    leaves_two _ _ _ (g.D.Disk.synced c.cut.new.self) (g.D.Disk.synced c.sync.new.self) octets c.cut.ensures.noted c.sync.ensures.noted
    (begins_cut (g.D.Disk.synced c.args.disk) octets _ _ synced c.cut.ensures.synced end)
    (begins_cut (g.D.Disk.written c.args.disk) octets _ _ written
    (c.in_ok-sync.ensures.ok.0 ∙ c.in_ok-cut.ensures.ok (long_enough (g.D.Disk.written c.args.disk) octets _ written end)) end)
