-- What a store has stays through what is done with it.
use Rattle.std.proofs.Common.{◌≡◌, ℕ, List, [], ◌∷◌, ◌++◌, take, drop, sym, ap, ◌∙◌, subst, append_assoc, take-append-drop}
use Rattle.std.specs.Prelude.{All}
use Rattle.dns_rdata.specs.Record.{Record}
use Rattle.dns_message.specs.declared.update.Update.{Update}
use Rattle.zone_tree.specs.Version.{Version}
use Rattle.update_core.specs.Act.{act, replay}
use Rattle.std.specs.Prelude.{unwrap_or}
use Rattle.dns_engine.specs.Replayed.{EachChanges}
use Rattle.journal.specs.Batch.{Messages, IsRequest}
use Rattle.journal.specs.Recovered.{updates_in}
use Rattle.update_batches.specs.declared.version_update.VersionUpdate.{VersionUpdate}
use Rattle.update_batches.specs.Engine.{IsLast}
use Rattle.update_batches.specs.Batch.{versions_in, updates_of}
use Rattle.update_batches.proofs.BatchLemmas.{last_once}
use Rattle.update_batches.specs.Journal.{AreMadeBy}
use Rattle.store_recovery.specs.Replay.{AreRead}
use Rattle.store_compaction.specs.RecentUpdates.{RecentState, last_in}
use Rattle.store_compaction.specs.Writer.{recent_of}
use Rattle.store_compaction.proofs.MadeLemmas.{changes_both, replay_both, read_both}
use Rattle.store_compaction.proofs.JudgedLemmas.{last_more}
use Rattle.store_compaction.specs.Kept.{CompactedState, IsAt, IsTended, IsKept, HasMore, IsStored}
use Rattle.store_compaction.specs.Has.{HasUpdates}
use Rattle.store_compaction.proofs.MarkedLemmas.{short_steps}

-- the first of updates that each change a zone do
changes_first : (zone : List Record) (updates more : List Update) → EachChanges zone (updates ++ more) → EachChanges zone updates
changes_first zone [] more each = tt
changes_first zone (update ∷ updates) more each = (each.0, each.1, changes_first (unwrap_or (act zone update) zone) updates more each.2)

-- messages after others that are read
read_rest : (messages later : List Messages) (updates more : List Update) → AreRead messages updates → AreRead (messages ++ later) (updates ++ more) → AreRead later more
read_rest [] later [] more are all = all
read_rest [] later (update ∷ updates) more are all = absurd are
read_rest (message ∷ messages) later [] more are all = absurd are
read_rest (message ∷ messages) later (update ∷ updates) more are all = read_rest messages later updates more are.1 all.1

module _ {F : Type 0} where
  -- of a store that stands
  pub has_begun : (text : List ℕ) (batches : List (List Messages)) (zone : List Record) (updates : List Update) (k : ℕ) (store : CompactedState F) (published : List Version)
      → IsAt text batches zone updates k store → IsLast published (last_in (recent_of store.writer)) → HasUpdates zone store published (updates_in batches)
  has_begun text batches zone updates k store published at last = record {
    in_text = [];
    in_journal = updates;
    are_read = at.end.store.read;
    each = at.end.store.taken;
    text = text;
    batches = batches;
    k = k;
    is_present = at;
    last = last;
  }

  -- through what is done between two batches
  pub has_tended : (before after : CompactedState F) → IsTended before after → (zone : List Record) (published : List Version) (updates : List Messages)
      → HasUpdates zone before published updates → HasUpdates zone after published updates
  has_tended before after tended zone published updates has =
      let from = (tended.is_present has.text has.batches (replay zone has.in_text) has.in_journal has.k has.is_present).0 in
      let parts : (has.in_text ++ take from.n has.in_journal) ++ drop from.n has.in_journal ≡ has.in_text ++ has.in_journal =
      append_assoc has.in_text (take from.n has.in_journal) (drop from.n has.in_journal) ∙ ap (λ (l : List Update). has.in_text ++ l) (take-append-drop from.n has.in_journal) in
      record {
        in_text = has.in_text ++ take from.n has.in_journal;
        in_journal = drop from.n has.in_journal;
        are_read = subst (λ (l : List Update). AreRead updates l) (sym parts) has.are_read;
        each = subst (λ (l : List Update). EachChanges zone l) (sym parts) has.each;
        text = from.text;
        batches = from.batches;
        k = from.k;
        is_present = subst (λ (z : List Record). IsAt from.text from.batches z (drop from.n has.in_journal) from.k after)
            (sym (replay_both zone has.in_text (take from.n has.in_journal))) from.is_present;
        last = subst (λ (t : RecentState). IsLast published (last_in t)) (sym tended.recent) has.last;
      }

  -- of a store that stays
  pub has_kept : (before after : CompactedState F) → IsKept before after → (zone : List Record) (published : List Version) (updates : List Messages)
      → HasUpdates zone before published updates → HasUpdates zone after published updates
  has_kept before after kept zone published updates has = record {
    in_text = has.in_text;
    in_journal = has.in_journal;
    are_read = has.are_read;
    each = has.each;
    text = has.text;
    batches = has.batches;
    k = has.k;
    is_present = kept.is_present has.text has.batches (replay zone has.in_text) has.in_journal has.k has.is_present;
    last = subst (λ (t : RecentState). IsLast published (last_in t)) (sym kept.recent) has.last;
  }

  -- with one batch more
  has_stored : (before after : CompactedState F) (versions : List Version) (octets : List Messages) → IsStored before after versions octets
      → (zone : List Record) (published : List Version) (updates : List Messages) (first : Version) → HasUpdates zone before published updates → IsLast published first
      → All IsRequest octets → AreMadeBy first versions octets → HasUpdates zone after (published ++ versions) (updates ++ octets)
  has_stored before after versions octets stored zone published updates first has last short written =
      let old : RecentState = recent_of before.writer in
      let same : first ≡ last_in old = last_once published first (last_in old) last has.last in
      let made : AreMadeBy (last_in old) versions octets = subst (λ (v : Version). AreMadeBy v versions octets) same written in
      let with : HasMore has.text has.batches (replay zone has.in_text) has.in_journal octets after =
      stored.is_present short made has.text has.batches (replay zone has.in_text) has.in_journal has.k has.is_present in
      let store = with.is_present.end.store in
      let ends = (stored.last has.is_present.end.made short made).1 in
      let parts : has.in_text ++ (has.in_journal ++ with.more) ≡ (has.in_text ++ has.in_journal) ++ with.more = sym (append_assoc has.in_text has.in_journal with.more) in
      let all : AreRead (updates_in has.batches ++ octets) (has.in_journal ++ with.more) =
      subst (λ (l : List Messages). AreRead l (has.in_journal ++ with.more)) with.all_are store.read in
      record {
        in_text = has.in_text;
        in_journal = has.in_journal ++ with.more;
        are_read = subst (λ (l : List Update). AreRead (updates ++ octets) l) (sym parts)
            (read_both updates octets (has.in_text ++ has.in_journal) with.more has.are_read
            (read_rest (updates_in has.batches) octets has.in_journal with.more has.is_present.end.store.read all));
        each = changes_both zone has.in_text (has.in_journal ++ with.more) (changes_first zone has.in_text has.in_journal has.each) store.taken;
        text = has.text;
        batches = with.all;
        k = with.k;
        is_present = with.is_present;
        last = subst (λ (v : Version). IsLast (published ++ versions) v) (sym ends) (last_more published (last_in old) versions has.last);
      }

  -- the updates of a batch are stored
  pub has_appended : (updates : List VersionUpdate) (before after : CompactedState F) → IsStored before after (versions_in updates) (updates_of updates)
      → (zone : List Record) (published : List Version) (stood : List Messages) (last : Version) → HasUpdates zone before published stood
      → IsLast published last → AreMadeBy last (versions_in updates) (updates_of updates) → HasUpdates zone after (published ++ versions_in updates) (stood ++ updates_of updates)
  has_appended updates before after stored zone published stood last has ends made =
      has_stored before after (versions_in updates) (updates_of updates) stored zone published stood last has ends (short_steps updates) made

  -- after a crash: what a start has of it is these updates replayed, and some that were written and not told as lasting
  pub has_recovered : (zone : List Record) (store : CompactedState F) (published : List Version) (updates : List Messages) (started : List Record)
      → (has : HasUpdates zone store published updates)
      → (more : List Update) × EachChanges (replay zone has.in_text) (has.in_journal ++ more) × (started ≡ replay (replay zone has.in_text) (has.in_journal ++ more))
      → (all : List Update) × (more : List Update) × AreRead updates all × EachChanges zone (all ++ more) × (started ≡ replay zone (all ++ more))
  has_recovered zone store published updates started has crash =
      let more = crash.0 in
      let parts : has.in_text ++ (has.in_journal ++ more) ≡ (has.in_text ++ has.in_journal) ++ more = sym (append_assoc has.in_text has.in_journal more) in (
        has.in_text ++ has.in_journal,
        more,
        has.are_read,
        subst (λ (l : List Update). EachChanges zone l) parts
            (changes_both zone has.in_text (has.in_journal ++ more) (changes_first zone has.in_text has.in_journal has.each) crash.1),
        crash.2 ∙ (sym (replay_both zone has.in_text (has.in_journal ++ more)) ∙ ap (λ (l : List Update). replay zone l) parts),
      )
