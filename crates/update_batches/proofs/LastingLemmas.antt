-- What is judged is made by the updates that the journal keeps.
use Rattle.journal.specs.Batch.{Messages}
use Rattle.std.proofs.Common.{List, [], ◌∷◌, ◌++◌}
use Rattle.update_messages.specs.Joined.{IsRead}
use Rattle.dns_message.specs.declared.update.Update.{Update}
use Rattle.zone_tree.specs.Version.{Version}
use Rattle.dns_engine.specs.Versions.{Makes}
use Rattle.update_batches.specs.declared.verdict.Verdict.{Verdict}
use Rattle.update_batches.specs.Batch.{newest_of, Judged, nothing, reported, starved, changed}
use Rattle.update_batches.specs.declared.queued_update.QueuedUpdate.{QueuedUpdate}
use Rattle.update_batches.specs.UpdateRequest.{messages_of}
use Rattle.update_batches.specs.Journal.{AreMadeBy}
use Rattle.update_batches.proofs.ReadLemmas.{read_is}

made_more : (first : Version) (versions : List Version) (updates : List Messages) (messages : Messages) (update : Update) (next : Version) → AreMadeBy first versions updates → IsRead messages update → Makes update (newest_of first versions) next
    → AreMadeBy first (versions ++ next ∷ []) (updates ++ messages ∷ [])
made_more first [] [] messages update next are read is = ((update, read, is), tt)
made_more first [] (other ∷ updates) messages update next are read is = absurd are
made_more first (version ∷ versions) [] messages update next are read is = absurd are
made_more first (version ∷ versions) (other ∷ updates) messages update next are read is = (are.0, made_more version versions updates messages update next are.1 read is)

pub judged_by : {first : Version} {asked : List QueuedUpdate} {verdicts : List Verdict} {made : List Version} {updates : List Messages} → Judged first asked verdicts made updates → AreMadeBy first made updates
judged_by nothing = tt
judged_by (reported one code judged is) = judged_by judged
judged_by (starved one judged is) = judged_by judged
judged_by {first} (changed {requests} {verdicts} {made} {updates} one next judged lets is) = made_more first made updates (messages_of one.request) one.request.update next (judged_by judged) (read_is (messages_of one.request) one.request.update one.request.read) is
