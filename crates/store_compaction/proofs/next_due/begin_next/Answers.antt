-- The next zone text is begun, or isn't.
use Rattle.std.proofs.Common.{ℕ, List, Some, inl, inr, ap, ◌∙◌}
use Rattle.std.specs.Prelude.{IfSome}
use Rattle.dns_rdata.specs.Record.{Record}
use Rattle.dns_message.specs.declared.update.Update.{Update}
use Rattle.journal.specs.Batch.{Messages}
use Rattle.journal.specs.declared.heads.Head.{Head}
use Rattle.store_compaction.specs.End.{IsEndOf}
use Rattle.store_compaction.specs.Marked.{IsMarked}
use Rattle.store_compaction.specs.Writer.{recent_of, head_of, under_way_of, last_of, Begins}
use Rattle.store_compaction.specs.TextWriter.{wanted_of}
use Rattle.store_compaction.proofs.KeptLemmas.{begun_stands}
use Rattle.store_compaction.proofs.next_due.begin_next.Goals as goal

pub returns-in-Ok-clause-is_present : goal.returns-in-Ok-clause-is_present
returns-in-Ok-clause-is_present g c text batches zone updates k =
    let old = c.args.writer.now in
    let new = c.begin_compaction.new.self in
    let next = c.in-Ok-Some.next in
    let begins : Begins (recent_of old) (last_of old) next (under_way_of new) = rw c.in-Ok-Some.field-0-is at c.in-Ok-Some.ensures.begun in
    let marked : (text : List ℕ) (head : Head) (batches : List (List Messages)) (zone : List Record) (updates : List Update) (k : ℕ)
    → IsEndOf text head batches zone updates (recent_of old) k → IfSome (under_way_of new) (IsMarked k batches) = rw c.in-Ok-Some.field-0-is at c.in-Ok-Some.ensures.marked in
    begun_stands old new (g.T.TextWriter.wanted c.args.texts.now) (g.T.TextWriter.wanted c.write.new.self) next (last_of old) (inl (c.in-Ok.ensures.begun ∙ ap (λ h. Some (wanted_of next h)) c.head.ensures))
    c.begin_compaction.ensures.recent c.begin_compaction.ensures.head c.begin_compaction.ensures.log begins text batches zone updates k
    (marked text (head_of old) batches zone updates k)

pub returns-in-Err-clause-is_present : goal.returns-in-Err-clause-is_present
returns-in-Err-clause-is_present g c text batches zone updates k =
    let old = c.args.writer.now in
    let new = c.begin_compaction.new.self in
    let next = c.in-Ok-Some.next in
    let begins : Begins (recent_of old) (last_of old) next (under_way_of new) = rw c.in-Ok-Some.field-0-is at c.in-Ok-Some.ensures.begun in
    let marked : (text : List ℕ) (head : Head) (batches : List (List Messages)) (zone : List Record) (updates : List Update) (k : ℕ)
    → IsEndOf text head batches zone updates (recent_of old) k → IfSome (under_way_of new) (IsMarked k batches) = rw c.in-Ok-Some.field-0-is at c.in-Ok-Some.ensures.marked in
    begun_stands old new (g.T.TextWriter.wanted c.args.texts.now) (g.T.TextWriter.wanted c.write.new.self) next (last_of old) (inr c.in-Err.ensures.none)
    c.begin_compaction.ensures.recent c.begin_compaction.ensures.head c.begin_compaction.ensures.log begins text batches zone updates k
    (marked text (head_of old) batches zone updates k)
