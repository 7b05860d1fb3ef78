-- A store that stands, through each step of a compaction.
use Rattle.std.proofs.Common.{◌≡◌, ◌⊎◌, ℕ, ◌+◌, ◌-◌, ◌^◌, ◌<◌, List, [], ◌∷◌, ◌++◌, length, take, drop, map, Option, None, Some, inl, refl, sym, ap, ◌∙◌, subst, arith}
use Rattle.std.specs.Prelude.{IfSome}
use Rattle.dns_rdata.specs.Record.{Record}
use Rattle.dns_message.specs.declared.update.Update.{Update}
use Rattle.zone_tree.specs.Version.{Version}
use Rattle.update_core.specs.Act.{replay}
use Rattle.journal.specs.declared.heads.Head.{Head}
use Rattle.journal.specs.Batch.{Messages, batch_of}
use Rattle.journal.specs.Frame.{body_limit, Fit}
use Rattle.journal.specs.declared.log.Log.{Log}
use Rattle.journal.specs.Log.{Holds, IsStuck}
use Rattle.store_recovery.specs.Store.{IsStore}
use Rattle.store_recovery.specs.Created.{IsCreated}
use Rattle.store_compaction.specs.declared.marked.Compaction.{Compaction}
use Rattle.store_compaction.specs.declared.next.NextText.{NextText}
use Rattle.store_compaction.specs.declared.writer.StoreWriter.{StoreWriter}
use Rattle.store_compaction.specs.End.{IsEndOf}
use Rattle.store_compaction.specs.RecentUpdates.{RecentState}
use Rattle.store_compaction.specs.Marked.{bodies_of, number_of, IsMarked}
use Rattle.store_compaction.specs.Writer.{log_of, recent_of, head_of, under_way_of, Begins}
use Rattle.store_compaction.proofs.EndLemmas.{end_left}
use Rattle.store_compaction.specs.TextWriter.{Wanted, wanted_of}
use Rattle.store_compaction.specs.Stands.{IsNext, Stands, StandsFrom}

-- the last of bodies that fit a journal
pub fit_last : (number : ℕ) (bodies : List (List ℕ)) (body : List ℕ) → Fit number (bodies ++ body ∷ []) → (length body < body_limit) × (number + length bodies < 2 ^ 64)
fit_last number [] body fit = (fit.0, omega (arith, fit.1))
fit_last number (one ∷ bodies) body fit =
    let rest = fit_last (number + 1) bodies body fit.2 in
    (rest.0, omega (arith, rest.1))

-- what is there is one
pub some_is : {X : Type 0} (one other : X) → Some one ≡ Some other → one ≡ other
some_is one other is = cc

pub none_some : {X : Type 0} (one : X) → None ≡ Some one → ⊥
none_some one is = cc

-- the end of a store, by equal parts
end_same : (text : List ℕ) (head other : Head) (batches : List (List Messages)) (zone : List Record) (updates : List Update) (recent same : RecentState) (k : ℕ)
    → other ≡ head → same ≡ recent → IsEndOf text head batches zone updates recent k → IsEndOf text other batches zone updates same k
end_same text head other batches zone updates recent same k head_is recent_is end =
    subst (λ (h : Head). IsEndOf text h batches zone updates same k) (sym head_is) (subst (λ (t : RecentState). IsEndOf text head batches zone updates t k) (sym recent_is) end)

module _ {D F : Type 0} (written synced : D → List ℕ) where
  -- a log on the disk, by equal parts
  abbrev pub IsOnDisk : Head → Log D F → List (List ℕ) → Type 0
  IsOnDisk head log bodies = Holds written synced head log bodies ⊎ IsStuck synced head log bodies

  disk_same : (head other : Head) (log same : Log D F) (bodies : List (List ℕ)) → other ≡ head → same ≡ log → IsOnDisk head log bodies → IsOnDisk other same bodies
  disk_same head other log same bodies head_is log_is on_disk =
      subst (λ (h : Head). IsOnDisk h same bodies) (sym head_is) (subst (λ (l : Log D F). IsOnDisk head l bodies) (sym log_is) on_disk)

  -- the store that stands is one from its first version on
  pub from_here : (text : List ℕ) (batches : List (List Messages)) (zone : List Record) (updates : List Update) (k : ℕ) (writer : StoreWriter D F) (wanted : Option Wanted)
      → Stands written synced text batches zone updates k writer wanted → StandsFrom written synced zone updates writer wanted
  from_here text batches zone updates k writer wanted is_present = record { n = 0; within = omega arith; text = text; batches = batches; k = k; is_present = is_present }

  -- so it does where no text is wanted any more
  pub stands_alone : (text : List ℕ) (batches : List (List Messages)) (zone : List Record) (updates : List Update) (k : ℕ) (writer : StoreWriter D F) (wanted : Option Wanted)
      → Stands written synced text batches zone updates k writer wanted → Stands written synced text batches zone updates k writer None
  stands_alone text batches zone updates k writer wanted is_present = record {
    end = is_present.end;
    log = is_present.log;
    origin = λ other is. absurd (none_some other is);
    next = λ compaction other way is number. absurd (none_some other is);
  }

  -- a writer with the same recent updates and head, whose log is on the disk, and no text is wanted
  pub stands_stopped : (text : List ℕ) (batches : List (List Messages)) (zone : List Record) (updates : List Update) (k : ℕ) (old new : StoreWriter D F) (wanted : Option Wanted)
      → Stands written synced text batches zone updates k old wanted → recent_of new ≡ recent_of old → head_of new ≡ head_of old
      → ((head : Head) (bodies : List (List ℕ)) → IsOnDisk head (log_of old) bodies → IsOnDisk head (log_of new) bodies)
      → Stands written synced text batches zone updates k new None
  stands_stopped text batches zone updates k old new wanted is_present recent head still = record {
    end = end_same text (head_of old) (head_of new) batches zone updates (recent_of old) (recent_of new) k head recent is_present.end;
    log = disk_same (head_of old) (head_of new) (log_of new) (log_of new) (map batch_of batches) head refl (still (head_of old) (map batch_of batches) is_present.log);
    origin = λ other is. absurd (none_some other is);
    next = λ compaction other way is number. absurd (none_some other is);
  }

  -- the same of the same writer, of which nothing but its log may be another one
  pub stands_still : (text : List ℕ) (batches : List (List Messages)) (zone : List Record) (updates : List Update) (k : ℕ) (old new : StoreWriter D F) (wanted : Option Wanted)
      → Stands written synced text batches zone updates k old wanted → recent_of new ≡ recent_of old → head_of new ≡ head_of old → under_way_of new ≡ under_way_of old
      → ((head : Head) (bodies : List (List ℕ)) → IsOnDisk head (log_of old) bodies → IsOnDisk head (log_of new) bodies)
      → Stands written synced text batches zone updates k new wanted
  stands_still text batches zone updates k old new wanted is_present recent head way still = record {
    end = end_same text (head_of old) (head_of new) batches zone updates (recent_of old) (recent_of new) k head recent is_present.end;
    log = disk_same (head_of old) (head_of new) (log_of new) (log_of new) (map batch_of batches) head refl (still (head_of old) (map batch_of batches) is_present.log);
    origin = λ other is. is_present.origin other is ∙ ap (λ (h : Head). h.origin) (sym head);
    next = λ compaction other under is. is_present.next compaction other (sym way ∙ under) is;
  }

  -- a compaction that is begun: its text is that of the oldest recent version
  pub stands_begun : (text : List ℕ) (batches : List (List Messages)) (zone : List Record) (updates : List Update) (k last : ℕ) (old new : StoreWriter D F) (wanted : Option Wanted) (next : NextText)
      → Stands written synced text batches zone updates k old wanted → recent_of new ≡ recent_of old → head_of new ≡ head_of old → log_of new ≡ log_of old
      → Begins (recent_of old) last next (under_way_of new) → IfSome (under_way_of new) (IsMarked k batches)
      → Stands written synced text batches zone updates k new (Some (wanted_of next (head_of new)))
  stands_begun text batches zone updates k last old new wanted next is_present recent head log begins marked = record {
    end = end_same text (head_of old) (head_of new) batches zone updates (recent_of old) (recent_of new) k head recent is_present.end;
    log = disk_same (head_of old) (head_of new) (log_of old) (log_of new) (map batch_of batches) head log is_present.log;
    origin = λ other is. ap (λ (w : Wanted). w.origin) (sym (some_is (wanted_of next (head_of new)) other is));
    next = λ compaction other under is number. record {
      first = k;
      older = omega arith;
      version = ap (λ (w : Wanted). w.next.version.zone) (sym (some_is (wanted_of next (head_of new)) other is)) ∙ (ap (λ (v : Version). v.zone) begins.version ∙ is_present.end.oldest);
      marked = subst (λ (way : Option Compaction). IfSome way (IsMarked k batches)) under marked;
    };
  }

  -- the journal of a text that is written is in place
  pub stands_replaced : (text written_text : List ℕ) (batches : List (List Messages)) (zone : List Record) (updates : List Update) (k : ℕ) (old new : StoreWriter D F) (wanted : Wanted)
      (head : Head) (random : List ℕ) (compaction : Compaction)
      → Stands written synced text batches zone updates k old (Some wanted) → IsCreated wanted.next.version.zone wanted.next.number random wanted.origin written_text head
      → under_way_of old ≡ Some compaction → number_of compaction ≡ head.number → Holds written synced head (log_of new) (bodies_of compaction)
      → head_of new ≡ head → recent_of new ≡ recent_of old
      → StandsFrom written synced zone updates new None × ((head_of new).origin ≡ (head_of old).origin)
  stands_replaced text written_text batches zone updates k old new wanted head random compaction is_present begun way number holds head_is recent =
      let next : IsNext batches zone updates k compaction wanted = is_present.next compaction wanted way refl (number ∙ begun.numbered) in
      let first : ℕ = next.first in
      let rest : List (List Messages) = next.marked.rest in
      let here : IsStore written_text head [] (replay zone (take first updates)) [] = subst (λ (z : List Record). IsStore written_text head [] z []) next.version begun.store in
      let parts : k ≡ first + (k - first) = omega (arith, next.older) in
      let end : IsEndOf text (head_of old) batches zone updates (recent_of old) (first + (k - first)) =
      subst (λ (m : ℕ). IsEndOf text (head_of old) batches zone updates (recent_of old) m) parts is_present.end in
      let left : IsEndOf written_text head rest (replay zone (take first updates)) (drop first updates) (recent_of old) (k - first) =
      end_left text written_text (head_of old) head batches rest zone updates (recent_of old) first (k - first) end here next.marked.behind in
      let bodies : Holds written synced head (log_of new) (map batch_of rest) = subst (λ (bs : List (List ℕ)). Holds written synced head (log_of new) bs) next.marked.bodies holds in (
        record {
          n = first;
          within = omega (arith, next.older, is_present.end.within);
          text = written_text;
          batches = rest;
          k = k - first;
          is_present = record {
            end = end_same written_text head (head_of new) rest (replay zone (take first updates)) (drop first updates) (recent_of old) (recent_of new) (k - first) head_is recent left;
            log = disk_same head (head_of new) (log_of new) (log_of new) (map batch_of rest) head_is refl (inl bodies);
            origin = λ other is. absurd (none_some other is);
            next = λ other_compaction other under is same. absurd (none_some other is);
          };
        },
        ap (λ (h : Head). h.origin) head_is ∙ (begun.given ∙ is_present.origin wanted refl),
      )
