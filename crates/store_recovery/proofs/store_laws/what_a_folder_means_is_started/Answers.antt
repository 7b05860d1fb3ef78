use Rattle.store_recovery.proofs.FolderLemmas.{folder_taken, folder_accepted}
use Rattle.store_recovery.proofs.store_laws.what_a_folder_means_is_started.Goals as goal

pub returns : goal.returns
returns c = record { taken = folder_taken; accepted = folder_accepted }
