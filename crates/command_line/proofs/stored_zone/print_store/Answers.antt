use Rattle.std.proofs.Common.{List, subst}
use Rattle.std.specs.Io.Buffered.{writer_contents}
use Rattle.std.specs.Io.KnownBytes.{Appends}
use Rattle.commands.proofs.LinesLemmas.{Appends-kept}
use Rattle.dns_rdata.specs.Record.{Record}
use Rattle.master_file.specs.WrittenZone.{zone_text}
use Rattle.command_line.proofs.stored_zone.print_store.Goals as goal

pub returns-clause-printed : goal.returns-clause-printed
returns-clause-printed g c =
    let zone = c.in_ok-start.start.newest.last.zone in
    let before = writer_contents g.W.Write.contents c.args.writer.now in
    let between = writer_contents g.W.Write.contents c.run_check.new.writer in
    let after = writer_contents g.W.Write.contents c.flush.new.self in
    let grown : Appends before between (zone_text zone) = subst (λ (z : List Record). Appends before between (zone_text z)) c.zone.ensures c.in_ok-run_check.ensures in
    (c.in_ok-start.start, c.in_ok-start.ensures.started, Appends-kept before between after (zone_text zone) grown c.flush.ensures.bytes)
