-- The messages of the update that takes a zone to another one are read as that update.
use Rattle.std.proofs.Common.{◌≡◌, ℕ, ◌^◌, ◌<◌, ◌≤◌, inl, inr, List, [], ◌∷◌, ◌++◌, length, map, flat_map, take, drop, Some, refl, sym, ap, subst, ◌∙◌, arith, lit<}
use Rattle.std.specs.Prelude.{All}
use Rattle.std.proofs.lemmas.List.{take_at, drop_at}
use Rattle.std.proofs.lemmas.List.Elements.{All-nil, All-cons, All-head, All-tail, All-same, All-take, All-drop}
use Rattle.dns_name.specs.Name.{Name, IsName, fold_name}
use Rattle.dns_name.proofs.LawLemmas.{ending_from_under}
use Rattle.dns_rdata.specs.Numbers.{class_IN}
use Rattle.dns_rdata.specs.Record.{Record, owner_of}
use Rattle.dns_rdata.specs.Raw.{RawRecord}
use Rattle.dns_message.specs.declared.update.ZoneEntry.{ZoneEntry}
use Rattle.zone_tree.specs.Zone.{IsZone, soa_of, apex_of}
use Rattle.zone_change.specs.Change.{put_in, taken_out, standing, change_to}
use Rattle.zone_change.specs.Messages.{part_octets, AreMessages}
use Rattle.zone_change.proofs.SizeLemmas.{IsOurs, OwnSoa, own_soa, each_changed}
use Rattle.journal.specs.Batch.{Messages}
use Rattle.update_messages.specs.Joined.{AreParts, IsRead}
use Rattle.update_messages.proofs.AgainLemmas.{IsAgain, IsSent, update_with, part_read}

-- what is so of each of some records is so of each of their first, and of each of the others
all_first : (P : RawRecord → Type 0) (xs ys : List RawRecord) → All P (xs ++ ys) → All P xs
all_first P xs ys all = All-same P xs (take (length xs) (xs ++ ys)) (sym (take_at xs ys (length xs) refl)) (All-take P (length xs) (xs ++ ys) all)

all_others : (P : RawRecord → Type 0) (xs ys : List RawRecord) → All P (xs ++ ys) → All P ys
all_others P xs ys all = All-same P ys (drop (length xs) (xs ++ ys)) (sym (drop_at xs ys (length xs) refl)) (All-drop P (length xs) (xs ++ ys) all)

-- further messages are read as their parts
parts_read : (zone : ZoneEntry) → IsName zone.name → zone.rtype.0 < 2 ^ 16 → zone.class.0 < 2 ^ 16 → (parts : List (List RawRecord)) → All (IsAgain zone.name) (flat_map (λ part. part) parts)
    → All IsSent (flat_map (λ part. part) parts) → All (λ (o : List ℕ). length o ≤ 65535) (map (part_octets zone []) parts)
    → AreParts (map (part_octets zone []) parts) (map (update_with zone []) parts)
parts_read zone name rtype class [] again sent short = tt
parts_read zone name rtype class (part ∷ parts) again sent short =
    let others = flat_map (λ (p : List RawRecord). p) parts in (
      part_read zone [] part name rtype class (All-nil (IsAgain zone.name)) (All-nil (λ raw. raw.class ≡ class_IN)) (all_first (IsAgain zone.name) part others again)
          (all_first IsSent part others sent) (All-head (λ (o : List ℕ). length o ≤ 65535) (part_octets zone [] part) (map (part_octets zone []) parts) short),
      parts_read zone name rtype class parts (all_others (IsAgain zone.name) part others again) (all_others IsSent part others sent)
          (All-tail (λ (o : List ℕ). length o ≤ 65535) (part_octets zone [] part) (map (part_octets zone []) parts) short),
    )

parts_updates : (zone : ZoneEntry) (parts : List (List RawRecord)) → flat_map (λ part. part.updates) (map (update_with zone []) parts) ≡ flat_map (λ part. part) parts
parts_updates zone [] = refl
parts_updates zone (part ∷ parts) = ap (λ (o : List RawRecord). part ++ o) (parts_updates zone parts)

-- a record of a zone whose apex is in lower case, as it is sent
ours_again : (zone : List Record) (r : Record) (raw : RawRecord) → IsOurs zone r → apex_of zone ≡ fold_name (apex_of zone) → raw.owner ≡ r.owner → raw.rtype ≡ r.rtype → raw.octets ≡ r.rdata
    → raw.ttl < 2 ^ 32 → IsAgain (apex_of zone) raw
ours_again zone r raw own lower owner rtype octets ttl =
    let lawful = own.homely.lawful in
    let ending = ending_from_under r.owner (apex_of zone) own.homely.under in
    record {
      labels = ending.0;
      under = owner ∙ (lawful.folded ∙ (ending.1 ∙ ap (λ (o : Name). ending.0 ++ o) (sym lower)));
      owner = subst IsName (sym owner) lawful.name;
      folded = ap fold_name owner ∙ (sym lawful.folded ∙ sym owner);
      ttl = ttl;
      form = rw (rtype, octets) lawful.form;
    }

module _ (old next : List Record) (h : IsZone old) (k : IsZone next) (apex : apex_of old ≡ apex_of next) where
  own : OwnSoa old
  own = own_soa old h

  apex_is : apex_of old ≡ own.soa.owner
  apex_is = ap owner_of own.is

  name : IsName (apex_of old)
  name = subst IsName (sym apex_is) own.ours.homely.lawful.name

  lower : apex_of old ≡ fold_name (apex_of old)
  lower = apex_is ∙ (own.ours.homely.lawful.folded ∙ ap fold_name (sym apex_is))

  sooner : (n : ℕ) → n < 2 ^ 31 → n < 2 ^ 32
  sooner n few = omega (arith, few)

  all_again : All (IsAgain (apex_of old)) (change_to old next).updates
  all_again =
      each_changed (IsAgain (apex_of old)) old next h k apex (λ r ours. ours_again old r (put_in r) ours lower refl refl refl (sooner r.ttl ours.homely.lawful.lasts))
      (λ r ours. ours_again old r (taken_out r) ours lower refl refl refl (lit< tt))

  all_sent : All IsSent (change_to old next).updates
  all_sent = each_changed IsSent old next h k apex (λ r ours. inl refl) (λ r ours. inr refl)

  condition_again : All (IsAgain (apex_of old)) (change_to old next).prerequisites
  condition_again =
      All-same (IsAgain (apex_of old)) (map standing (soa_of old)) (standing own.soa ∷ []) (ap (map standing) own.is)
      (All-cons (IsAgain (apex_of old)) (standing own.soa) [] (ours_again old own.soa (standing own.soa) own.ours lower refl refl refl (lit< tt)) (All-nil (IsAgain (apex_of old))))

  condition_standing : All (λ (raw : RawRecord). raw.class ≡ class_IN) (change_to old next).prerequisites
  condition_standing =
      All-same (λ (raw : RawRecord). raw.class ≡ class_IN) (map standing (soa_of old)) (standing own.soa ∷ []) (ap (map standing) own.is)
      (All-cons (λ (raw : RawRecord). raw.class ≡ class_IN) (standing own.soa) [] refl (All-nil (λ (raw : RawRecord). raw.class ≡ class_IN)))

  pub messages_read : (messages : Messages) → AreMessages (change_to old next) messages → IsRead messages (change_to old next)
  messages_read messages are =
      let update = change_to old next in
      let zone = update.zone in
      let others = flat_map (λ (p : List RawRecord). p) are.parts in
      let short = All-same (λ (o : List ℕ). length o ≤ 65535) (part_octets zone update.prerequisites are.first ∷ map (part_octets zone []) are.parts) messages (sym are.spelt) are.short in
      let again = subst (λ (raws : List RawRecord). All (IsAgain (apex_of old)) raws) (sym are.all) all_again in
      let sent = subst (λ (raws : List RawRecord). All IsSent raws) (sym are.all) all_sent in
      let first = part_read zone update.prerequisites are.first name (lit< tt) (lit< tt) condition_again condition_standing (all_first (IsAgain (apex_of old)) are.first others again)
      (all_first IsSent are.first others sent) (All-head (λ (o : List ℕ). length o ≤ 65535) (part_octets zone update.prerequisites are.first) (map (part_octets zone []) are.parts) short) in
      let more = parts_read zone name (lit< tt) (lit< tt) are.parts (all_others (IsAgain (apex_of old)) are.first others again) (all_others IsSent are.first others sent)
      (All-tail (λ (o : List ℕ). length o ≤ 65535) (part_octets zone update.prerequisites are.first) (map (part_octets zone []) are.parts) short) in
      record {
        parts = update_with zone update.prerequisites are.first ∷ map (update_with zone []) are.parts;
        are_parts = subst (λ (ms : Messages). AreParts ms (update_with zone update.prerequisites are.first ∷ map (update_with zone []) are.parts)) (sym are.spelt) (first, more);
        is = ap (λ (raws : List RawRecord). Some (update_with zone update.prerequisites raws)) (ap (λ (o : List RawRecord). are.first ++ o) (parts_updates zone are.parts) ∙ are.all);
      }
