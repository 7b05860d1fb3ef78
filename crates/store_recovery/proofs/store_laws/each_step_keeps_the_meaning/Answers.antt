use Rattle.store_recovery.proofs.FolderLemmas.{one_meaning, text_written, journal_renamed, text_removed}
use Rattle.store_recovery.proofs.store_laws.each_step_keeps_the_meaning.Goals as goal

pub returns : goal.returns
returns c = record { once = one_meaning; written = text_written; renamed = journal_renamed; removed = text_removed }
