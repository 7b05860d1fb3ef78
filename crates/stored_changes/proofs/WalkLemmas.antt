-- Updates that are applied one after another, and what is told of each.
use Rattle.journal.specs.Batch.{Messages}
use Rattle.std.proofs.Common.{◌≡◌, ◌≢◌, ℕ, Bool, ◌&&◌, not, ◌==◌, ◌+◌, ◌<◌, ◌≤◌, true, List, [], ◌∷◌, ◌++◌, length, take, get_or, Option, None, Some, unwrap_or, Bor, Vec, Global, refl, sym, ap, ◌∙◌, subst, arith}
use Rattle.std.specs.List.{list_any}
use Rattle.std.proofs.lemmas.List.Filters.{length-filter_both}
use Rattle.std.proofs.lemmas.Option.{slice_get-get_or}
use Rattle.std.proofs.lemmas.List.{append_assoc, append-nil, length-append, length-map, length-take, get_or-map, take_more, take_all}
use Rattle.dns_rdata.specs.Numbers.{type_SOA}
use Rattle.dns_rdata.specs.Record.{Record}
use Rattle.dns_message.specs.declared.update.Update.{Update}
use Rattle.zone_tree.specs.Change.{is_same_record, left_out}
use Rattle.zone_tree.specs.Version.{Version}
use Rattle.zone_tree.specs.Zone.{IsZone}
use Rattle.update_core.specs.Verdict.{verdict}
use Rattle.update_core.specs.Act.{act, replay}
use Rattle.dns_engine.specs.Replayed.{EachChanges}
use Rattle.dns_engine.proofs.ReplayLemmas.{changes_more, replay_more}
use Rattle.store_recovery.specs.declared.fault.UpdateFault.{UpdateFault}
use Rattle.store_recovery.specs.Replay.{AreRead, IsMade, IsUpdateFault, IsNotTaken}
use Rattle.store_recovery.proofs.ReadLemmas.{read_more}
use Rattle.store_recovery.proofs.ReplayLemmas.{messages_now, now_of}
use Rattle.stored_changes.specs.StoredChanges.{change_of, after, changes_text, AreTold}

-- messages are applied to a zone: the last version, and what is told of them
pub record IsWalked (zone : List Record) (messages : List Messages) (last : Version) (reported : List ℕ) : Type 0 where
  pub updates : List Update
  pub read : AreRead messages updates
  pub taken : EachChanges zone updates
  pub here : last.zone ≡ replay zone updates
  pub number : last.number ≡ length messages
  pub lines : reported ≡ changes_text zone updates

pub none_walked : (zone : List Record) (last : Version) (reported : List ℕ) → last ≡ record { number = 0; zone = zone; changes = None } → reported ≡ [] → IsWalked zone [] last reported
none_walked zone last reported is none = record {
  updates = [];
  read = tt;
  taken = tt;
  here = ap (λ (v : Version). v.zone) is;
  number = ap (λ (v : Version). v.number) is;
  lines = none;
}

-- what one update more changed stands behind
told_more : (zone : List Record) (updates : List Update) (update : Update)
    → changes_text zone (updates ++ update ∷ []) ≡ changes_text zone updates ++ change_of (replay zone updates) (after (replay zone updates) update)
told_more zone [] update = append-nil (change_of zone (after zone update))
told_more zone (other ∷ updates) update =
    ap (λ (os : List ℕ). change_of zone (after zone other) ++ os) (told_more (after zone other) updates update)
    ∙ sym (append_assoc (change_of zone (after zone other)) (changes_text (after zone other) updates)
    (change_of (replay (after zone other) updates) (after (replay (after zone other) updates) update)))

-- one message more is applied
pub more_walked : (zone : List Record) (messages : List Messages) (message : Messages) (last next : Version) (reported now : List ℕ)
    → IsWalked zone messages last reported → IsMade last message next → now ≡ reported ++ change_of last.zone next.zone
    → IsWalked zone (messages ++ message ∷ []) next now
more_walked zone messages message last next reported now is made grown =
    let before = replay zone is.updates in
    let gives : unwrap_or (act before made.update) before ≡ next.zone =
    ap (λ (z : List Record). unwrap_or (act z made.update) z) (sym is.here) ∙ ap (λ (o : Option (List Record)). unwrap_or o last.zone) made.makes.zone in
    let taken : verdict before made.update true ≡ None = subst (λ (z : List Record). verdict z made.update true ≡ None) is.here made.makes.taken in
    let changed : unwrap_or (act before made.update) before ≢ before = λ same. made.makes.changed (sym gives ∙ same ∙ sym is.here) in
    record {
      updates = is.updates ++ made.update ∷ [];
      read = read_more messages is.updates message made.update is.read made.read;
      taken = changes_more zone is.updates made.update is.taken taken changed;
      here = sym gives ∙ sym (replay_more zone is.updates made.update);
      number = made.makes.number ∙ ap (λ (n : ℕ). n + 1) is.number ∙ sym (length-append messages (message ∷ []));
      lines = grown ∙ (λ i. is.lines i ++ change_of (is.here i) (sym gives i)) ∙ sym (told_more zone is.updates made.update);
    }

-- the same of what is lent
lent_at : (messages : List (Vec (Bor (List ℕ)) Global)) (place : ℕ) (d : Vec (Bor (List ℕ)) Global) → place < length messages → get_or (now_of messages) place (messages_now d) ≡ messages_now (get_or messages place d)
lent_at messages place d within = get_or-map messages_now messages place d (messages_now d) within

lent_long : (messages : List (Vec (Bor (List ℕ)) Global)) → length (now_of messages) ≡ length messages
lent_long messages = length-map messages messages_now

lent_more : (messages : List (Vec (Bor (List ℕ)) Global)) (place : ℕ) (d : Vec (Bor (List ℕ)) Global) → place < length messages
    → take (place + 1) (now_of messages) ≡ take place (now_of messages) ++ (messages_now (get_or messages place d)) ∷ []
lent_more messages place d within =
    take_more (now_of messages) place (messages_now d) (omega (arith, within, lent_long messages)) ∙ ap (λ (m : Messages). take place (now_of messages) ++ m ∷ []) (lent_at messages place d within)

pub one_more_walked : (zone : List Record) (messages : List (Vec (Bor (List ℕ)) Global)) (place : ℕ) (d : Vec (Bor (List ℕ)) Global) (last next : Version) (reported now : List ℕ)
    → IsWalked zone (take place (now_of messages)) last reported → place < length messages → IsMade last (messages_now (get_or messages place d)) next
    → now ≡ reported ++ change_of last.zone next.zone → IsWalked zone (take (place + 1) (now_of messages)) next now
one_more_walked zone messages place d last next reported now is within made grown =
    subst (λ (ms : List Messages). IsWalked zone ms next now) (sym (lent_more messages place d within))
    (more_walked zone (take place (now_of messages)) (messages_now (get_or messages place d)) last next reported now is made grown)

pub walked_number : (zone : List Record) (messages : List (Vec (Bor (List ℕ)) Global)) (place : ℕ) (last : Version) (reported : List ℕ) → IsWalked zone (take place (now_of messages)) last reported → place ≤ length messages
    → last.number ≡ place
walked_number zone messages place last reported is within = is.number ∙ omega (arith, length-take place (now_of messages), lent_long messages)

pub all_walked : (zone : List Record) (messages : List (Vec (Bor (List ℕ)) Global)) (place : ℕ) (last : Version) (reported : List ℕ) → IsWalked zone (take place (now_of messages)) last reported → length messages ≤ place
    → AreTold zone (now_of messages) reported
all_walked zone messages place last reported is end =
    let all : IsWalked zone (now_of messages) last reported =
    subst (λ (ms : List Messages). IsWalked zone ms last reported) (take_all place (now_of messages) (omega (arith, end, lent_long messages))) is in
    record { updates = all.updates; read = all.read; taken = all.taken; reported = all.lines }

-- the message at a place isn't taken
pub not_taken_at : (zone : List Record) (messages : List (Vec (Bor (List ℕ)) Global)) (place : ℕ) (d : Vec (Bor (List ℕ)) Global) (last : Version) (reported : List ℕ) (fault : UpdateFault)
    → IsWalked zone (take place (now_of messages)) last reported → place < length messages → IsUpdateFault last.zone (messages_now (get_or messages place d)) fault
    → IsNotTaken zone (now_of messages) place fault
not_taken_at zone messages place d last reported fault is within why = record {
  before = is.updates;
  read = is.read;
  taken = is.taken;
  request = messages_now (get_or messages place d);
  is_present = slice_get-get_or (now_of messages) place (messages_now d) (omega (arith, within, lent_long messages)) ∙ ap Some (lent_at messages place d within);
  why = subst (λ (z : List Record). IsUpdateFault z (messages_now (get_or messages place d)) fault) is.here why;
}

-- no more records are left out of a zone than it may have
pub few_left_out : (zone other : List Record) → IsZone zone → length (left_out zone other) ≤ 1000000
few_left_out zone other is =
    let p : Record → Bool = λ r. not (r.rtype == type_SOA) && not (list_any (is_same_record r) other) in
    let both = length-filter_both p (λ r. not (p r)) (λ r. refl) zone in
    let few = is.limits.few in
    omega (arith, both, few)
