-- A store that is changed to a zone is started again.
use Rattle.std.proofs.Common.{◌≡◌, ◌≢◌, ℕ, ◌+◌, ◌^◌, ◌<◌, ◌≤◌, List, [], ◌∷◌, ◌++◌, Some, true, false, true≢false, length, map, refl, sym, ap, ◌∙◌, subst, append-nil, arith}
use Rattle.std.specs.Prelude.{All, None, unwrap_or}
use Rattle.std.specs.Cmp.Lexicographic.{pointwise}
use Rattle.std.proofs.lemmas.List.{map-append, length-map}
use Rattle.std.proofs.lemmas.List.Elements.{All-nil, All-cons, recursion_from_All}
use Rattle.dns_name.specs.Name.{is_same, fold_name}
use Rattle.dns_rdata.specs.Record.{Record, IsLawful}
use Rattle.dns_message.specs.declared.update.Update.{Update}
use Rattle.zone_tree.specs.Zone.{IsZone, KeepsRules, apex_of}
use Rattle.zone_tree.specs.Change.{is_same_record}
use Rattle.zone_tree.proofs.NameOrder.{folds_from_same}
use Rattle.zone_tree.proofs.ApexLemmas.{apex_first}
use Rattle.update_core.specs.Verdict.{verdict}
use Rattle.update_core.specs.Act.{act, replay}
use Rattle.zone_change.specs.Change.{aimed, change_to, HasRoom, CanChange}
use Rattle.zone_change.proofs.Law.{law, pointwise_itself}
use Rattle.update_messages.specs.Joined.{IsRead}
use Rattle.update_messages.specs.Prepared.{IsPrepared}
use Rattle.update_messages.specs.declared.prepared.PreparedChange.{PreparedChange}
use Rattle.update_messages.proofs.PreparedLemmas.{are_request}
use Rattle.dns_engine.specs.Replayed.{EachChanges}
use Rattle.journal.specs.declared.heads.Head.{Head}
use Rattle.journal.specs.declared.heads.TextSum.{TextSum}
use Rattle.journal.specs.Batch.{Messages, batch_of, IsRequest}
use Rattle.journal.specs.Frame.{Fit, body_limit, IsRead as IsReadFrom}
use Rattle.journal.specs.Head.{salt_of, IsHead, IsText}
use Rattle.journal.specs.Log.{octets_of}
use Rattle.journal.specs.Recovered.{journal_of, updates_in, IsOpened}
use Rattle.journal.proofs.HeadLemmas.{one_head}
use Rattle.journal.proofs.FramesLemmas.{read_once}
use Rattle.store_recovery.specs.declared.fault.StartFault.{StartFault}
use Rattle.store_recovery.specs.declared.fault.StartFault.TheVariants.{NoMemory as Starved}
use Rattle.store_recovery.specs.declared.start.Recovery.{Recovery}
use Rattle.store_recovery.specs.Replay.{AreRead}
use Rattle.store_recovery.specs.Start.{IsStarted, IsStartFault}
use Rattle.store_recovery.specs.Store.{IsStore}
use Rattle.store_recovery.proofs.ReplayLemmas.{replayed_zone}
use Rattle.store_recovery.proofs.StoreLemmas.{store_accepted, store_taken}
use Rattle.dns_engine.proofs.ReplayLemmas.{replay_more}
use Rattle.store_compaction.proofs.EndLemmas.{store_more}
use Rattle.store_compaction.proofs.StandsLemmas.{fit_last}
use Rattle.store_server.specs.declared.take_zone.TakenZone.{TakenZone}
use Rattle.store_server.specs.declared.take_zone.TakenZone.TheVariants.{Unchanged, Changed}
use Rattle.store_server.specs.TakeZone.{IsTakenBy, IsTakenJournal}
use Rattle.store_server.proofs.RecoveredLemmas.{started_store}

-- a zone's apex is in lower case
apex_folds : (zone : List Record) → KeepsRules zone → apex_of zone ≡ fold_name (apex_of zone)
apex_folds [] rules = absurd (rules.name_servers refl)
apex_folds (r ∷ rs) rules =
    let lawful = recursion_from_All IsLawful (r ∷ rs) rules.lawful in
    let first : apex_of (r ∷ rs) ≡ r.owner = apex_first (r ∷ rs) rules in
    first ∙ (lawful.0.folded ∙ ap fold_name (sym first))

-- so two zones of the same apex have one (RFC 4343, 3)
pub one_apex : (last zone : List Record) → IsZone last → IsZone zone → is_same (apex_of zone) (apex_of last) ≡ true → apex_of last ≡ apex_of zone
one_apex last zone h k same = apex_folds last h.rules ∙ (sym (folds_from_same (apex_of zone) (apex_of last) same) ∙ sym (apex_folds zone k.rules))

-- a store under another head that names its text
store_under : (text : List ℕ) (head other : Head) (batches : List (List Messages)) (first : List Record) (updates : List Update) → IsStore text head batches first updates
    → IsHead other → other.text ≡ head.text → other.serial ≡ head.serial → IsStore text other batches first updates
store_under text head other batches first updates store is_head same serial = record {
  is_head = is_head;
  same_text = subst (λ (t : TextSum). IsText t text) (sym same) store.same_text;
  is_zone = store.is_zone;
  serial = store.serial ∙ sym serial;
  short = store.short;
  fit = store.fit;
  read = store.read;
  taken = store.taken;
}

-- a journal's bodies are read in one way
opened_once : (journal : List ℕ) (head : Head) (bodies others : List (List ℕ)) (rest left : List ℕ) → IsOpened journal head bodies rest → IsOpened journal head others left → bodies ≡ others
opened_once journal head bodies others rest left one two =
    let same = one_head head head two.behind one.behind two.begins.is_head one.begins.is_head (sym two.begins.spelt ∙ one.begins.spelt) in
    (read_once (salt_of head) 0 one.behind bodies rest others left one.read (subst (λ (o : List ℕ). IsReadFrom (salt_of head) 0 o others left) same.1 two.read)).0

-- what an update that changes nothing would leave
differ : (last next : List Record) → pointwise is_same_record last next ≡ false → next ≢ last
differ last next apart same = true≢false (sym (pointwise_itself last) ∙ (ap (pointwise is_same_record last) (sym same) ∙ apart))

-- a store with these batches and updates has the zone that a change leads to
pub record HasTaken (text octets : List ℕ) (head : Head) (last zone : List Record) : Type 0 where
  pub batches : List (List Messages)
  pub first : List Record
  pub updates : List Update
  pub spelt : octets ≡ journal_of head batches
  pub store : IsStore text head batches first updates
  pub leads : replay first updates ≡ aimed last zone

module _ (text : List ℕ) (head : Head) (batches : List (List Messages)) (first : List Record) (updates : List Update) (last zone : List Record) (store : IsStore text head batches first updates)
    (at : replay first updates ≡ last) where
  -- a zone that isn't changed
  unchanged : (octets : List ℕ) → octets ≡ journal_of head (batches ++ []) → aimed last zone ≡ last → HasTaken text octets head last zone
  unchanged octets spelt same = record {
    batches = batches;
    first = first;
    updates = updates;
    spelt = spelt ∙ ap (journal_of head) (append-nil batches);
    store = store;
    leads = at ∙ sym same;
  }

  -- one that is
  changed : (octets : List ℕ) (prepared : PreparedChange) → IsZone last → IsZone zone → apex_of last ≡ apex_of zone → HasRoom last zone → IsPrepared last zone prepared
      → octets ≡ journal_of head (batches ++ (prepared.messages ∷ []) ∷ []) → (length (batch_of (prepared.messages ∷ [])) < body_limit) × (length batches < 2 ^ 64)
      → HasTaken text octets head last zone
  changed octets prepared h k apex room is spelt few =
      let update : Update = change_to last zone in
      let taken = law last zone (record { old_zone = h; next_zone = k; apex = apex; room = room }) in
      let next : unwrap_or (act last update) last ≡ aimed last zone = ap (λ o. unwrap_or o last) taken.1 in
      let read : IsRead prepared.messages update = subst (IsRead prepared.messages) is.update is.read in
      let request : IsRequest prepared.messages = are_request update prepared.messages is.messages in
      let changes : EachChanges last (update ∷ []) = (taken.0, (λ same. differ last (aimed last zone) is.differ (sym next ∙ same)), tt) in
      record {
        batches = batches ++ (prepared.messages ∷ []) ∷ [];
        first = first;
        updates = updates ++ update ∷ [];
        spelt = spelt;
        store = store_more text head batches first updates (update ∷ []) (prepared.messages ∷ []) store (All-cons IsRequest prepared.messages [] request (All-nil IsRequest)) few.0 few.1
            (read, tt) (subst (λ (z : List Record). EachChanges z (update ∷ [])) (sym at) changes);
        leads = replay_more first updates update ∙ (ap (λ (z : List Record). unwrap_or (act z update) z) at ∙ next);
      }

module _ (text journal given random octets : List ℕ) (start : Recovery) (zone : List Record) (taken : TakenZone) (is : IsStarted text journal start)
    (it : IsTakenJournal journal start zone given random taken octets) where
  -- the zone of the last version
  abbrev last : List Record
  last = start.newest.last.zone

  -- the store is one that is changed to the zone
  pub taken_store : IsZone last → IsZone zone → apex_of last ≡ apex_of zone → HasRoom last zone → HasTaken text octets it.head last zone
  taken_store h k apex room =
      let batches : List (List Messages) = is.recovered.batches in
      let updates : List Update = is.replayed.updates in
      let bodies : it.bodies ≡ map batch_of batches =
      opened_once journal start.head it.bodies is.recovered.bodies it.rest is.recovered.rest it.opened is.recovered.opened ∙ is.recovered.are_batches.spelt in
      let store : IsStore text it.head batches is.zone updates =
      store_under text start.head it.head batches is.zone updates (started_store text journal start is) it.under.is_head it.under.text it.under.serial in
      let at : replay is.zone updates ≡ last = sym (replayed_zone is.zone is.messages start.newest is.replayed) in
      let spelt : octets ≡ journal_of it.head (batches ++ it.more) =
      it.spelt ∙ (ap (λ (bs : List (List ℕ)). octets_of it.head (bs ++ map batch_of it.more)) bodies ∙ ap (octets_of it.head) (sym (map-append batch_of batches it.more))) in
      by_change taken it.more batches updates store at spelt (subst (λ (bs : List (List ℕ)). Fit 0 (bs ++ map batch_of it.more)) bodies it.fit) it.by
    where
      by_change : (change : TakenZone) (more batches : List (List Messages)) (updates : List Update) → IsStore text it.head batches is.zone updates → replay is.zone updates ≡ last
          → octets ≡ journal_of it.head (batches ++ more) → Fit 0 (map batch_of batches ++ map batch_of more) → IsTakenBy last zone change more → HasTaken text octets it.head last zone
      by_change (Unchanged serial) more batches updates store at spelt fit by =
          unchanged text it.head batches is.zone updates last zone store at octets (subst (λ (bs : List (List Messages)). octets ≡ journal_of it.head (batches ++ bs)) by.2 spelt) by.0
      by_change (Changed summary) more batches updates store at spelt fit by =
          let prepared : PreparedChange = by.0 in
          let one : List (List Messages) = (prepared.messages ∷ []) ∷ [] in
          let few = fit_last 0 (map batch_of batches) (batch_of (prepared.messages ∷ [])) (subst (λ (bs : List (List Messages)). Fit 0 (map batch_of batches ++ map batch_of bs)) by.3 fit) in
          changed text it.head batches is.zone updates last zone store at octets prepared h k apex room by.1
          (subst (λ (bs : List (List Messages)). octets ≡ journal_of it.head (batches ++ bs)) by.3 spelt) (few.0, omega (arith, few.1, length-map batches batch_of))

  -- so it is started, unless there is no memory
  pub starts_again : IsZone last → IsZone zone → apex_of last ≡ apex_of zone → (fault : StartFault) → IsStartFault text octets fault → fault ≢ Starved → HasRoom last zone → ⊥
  starts_again h k apex fault why other room =
      let has = taken_store h k apex room in
      other (store_accepted text it.head has.batches has.first has.updates fault has.store (subst (λ (o : List ℕ). IsStartFault text o fault) has.spelt why))

  -- and it has the zone that the change leads to
  pub leads_there : IsZone last → IsZone zone → apex_of last ≡ apex_of zone → (later : Recovery) → IsStarted text octets later → HasRoom last zone
      → later.newest.last.zone ≡ aimed last zone
  leads_there h k apex later again room =
      let has = taken_store h k apex room in
      (store_taken text it.head has.batches has.first has.updates later has.store (subst (λ (o : List ℕ). IsStarted text o later) has.spelt again)).0 ∙ has.leads
