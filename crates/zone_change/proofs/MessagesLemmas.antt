-- How long the messages of an update are, and that they have its records between them.
use Rattle.std.proofs.Common.{◌≡◌, ℕ, zero, suc, ◌+◌, ◌-◌, ◌^◌, ◌<◌, ◌≤◌, ◌⊎◌, List, [], ◌∷◌, ◌++◌, length, map, min, take, drop, flat_map, inl, inr, refl, sym, ap, ◌∙◌, subst, append_assoc, append-nil, length-append, arith}
use Rattle.std.specs.Prelude.{All, Contains, Option, None, Some, MatchOption, unwrap_or}
use Rattle.std.specs.Option.{SomeIff}
use Rattle.std.proofs.Math.Nat.{lt_of_not-le}
use Rattle.std.specs.Int.{w16, w32, to_be_bytes}
use Rattle.std.proofs.lemmas.List.{length-take-le, map-append, take-append-drop, take_all, take_rest, drop_all}
use Rattle.std.proofs.lemmas.List.Concat.{flat_map-append, length-flat_map}
use Rattle.std.proofs.lemmas.List.Elements.{Contains-append_right, All-nil, All-cons, All-head, All-push, All-same, All-map}
use Rattle.std.proofs.lemmas.List.Sums.{sum_by-cons, sum_by-take-le}
use Rattle.dns_name.specs.Name.{Name, wire_of}
use Rattle.dns_rdata.specs.Raw.{RawRecord}
use Rattle.dns_message.specs.declared.update.Update.{Update}
use Rattle.dns_message.specs.declared.update.ZoneEntry.{ZoneEntry}
use Rattle.zone_change.specs.Message.{most_octets, owner_octets, record_octets, head_octets, message_octets}
use Rattle.zone_change.specs.Messages.{part_octets, octets_in, AreMessages, HasLongRecord}

owner_long : (wire : List ℕ) (n : ℕ) → n ≤ length wire → length (take n wire ++ 192 ∷ 12 ∷ []) ≡ n + 2
owner_long wire n within = omega (arith, length-append (take n wire) (192 ∷ 12 ∷ []), length-take-le n wire within)

fields_long : (owner rtype class ttl size octets : List ℕ) → length rtype ≡ 2 → length class ≡ 2 → length ttl ≡ 4 → length size ≡ 2
    → length (owner ++ (rtype ++ (class ++ (ttl ++ (size ++ octets))))) ≡ length owner + (10 + length octets)
fields_long owner rtype class ttl size octets two also four last = simp length-append (omega arith)

-- a record has twelve octets beside its owner's labels before the zone's name and its data
pub record_long : (zone : Name) (raw : RawRecord) → length (record_octets zone raw) ≡ (length (wire_of raw.owner) - length (wire_of zone)) + (12 + length raw.octets)
record_long zone raw =
    let labels = length (wire_of raw.owner) - length (wire_of zone) in
    let owner : length (owner_octets zone raw.owner) ≡ labels + 2 = owner_long (wire_of raw.owner) labels (omega arith) in
    let all = fields_long (owner_octets zone raw.owner) (to_be_bytes w16 raw.rtype) (to_be_bytes w16 raw.class) (to_be_bytes w32 raw.ttl) (to_be_bytes w16 (length raw.octets)) raw.octets
    refl refl refl refl in
    omega (arith, owner, all)

parts_long : (head wire rtype class some more : List ℕ) → length head ≡ 12 → length rtype ≡ 2 → length class ≡ 2
    → length (head ++ ((wire ++ (rtype ++ class)) ++ (some ++ more))) ≡ (length wire + 16) + (length some + length more)
parts_long head wire rtype class some more twelve two also = simp length-append (omega arith)

head_long : (prerequisites updates : ℕ) → length (head_octets prerequisites updates) ≡ 12
head_long prerequisites updates = refl

-- a message has sixteen octets beside the zone's name and the records
pub part_long : (zone : ZoneEntry) (prerequisites records : List RawRecord)
    → length (part_octets zone prerequisites records) ≡ (length (wire_of zone.name) + 16) + (octets_in zone.name prerequisites + octets_in zone.name records)
part_long zone prerequisites records =
    let all = parts_long (head_octets (length prerequisites) (length records)) (wire_of zone.name) (to_be_bytes w16 zone.rtype.0) (to_be_bytes w16 zone.class.0)
    (flat_map (record_octets zone.name) prerequisites) (flat_map (record_octets zone.name) records) (head_long (length prerequisites) (length records)) refl refl in
    omega (arith, all, length-flat_map (record_octets zone.name) prerequisites, length-flat_map (record_octets zone.name) records)

-- beside prerequisites that leave room, records have as much room as is left
pub part_room : (zone : ZoneEntry) (prerequisites records : List RawRecord) (room : ℕ)
    → length (part_octets zone prerequisites []) + room ≡ most_octets → octets_in zone.name records ≤ room → length (part_octets zone prerequisites records) ≤ most_octets
part_room zone prerequisites records room is fit = omega (arith, part_long zone prerequisites records, part_long zone prerequisites [], is, fit)

pub part_over : (zone : ZoneEntry) (prerequisites records : List RawRecord) (room : ℕ)
    → length (part_octets zone prerequisites []) + room ≡ most_octets → room < octets_in zone.name records → most_octets < length (part_octets zone prerequisites records)
part_over zone prerequisites records room is over = omega (arith, part_long zone prerequisites records, part_long zone prerequisites [], is, over)

-- how much room is left beside prerequisites; none where they are too many
abbrev pub RoomBeside : ZoneEntry → List RawRecord → Option ℕ → Type 0
RoomBeside zone prerequisites room =
    MatchOption room (most_octets < length (part_octets zone prerequisites [])) (λ room. length (part_octets zone prerequisites []) + room ≡ most_octets)

-- messages with these records, and without prerequisites, that were put at the end of others, and the records that are left
pub record PutSoFar (zone : ZoneEntry) (records rest : List RawRecord) (before after : List (List ℕ)) : Type 0 where
  pub parts : List (List RawRecord)
  pub all : flat_map (λ part. part) parts ++ rest ≡ records
  pub some : All (λ part. 0 < length part) parts
  pub short : All (λ part. length (part_octets zone [] part) ≤ most_octets) parts
  pub spelt : after ≡ before ++ map (part_octets zone []) parts

pub none_put : (zone : ZoneEntry) (records : List RawRecord) (before : List (List ℕ)) → PutSoFar zone records records before before
none_put zone records before = record {
  parts = [];
  all = refl;
  some = All-nil (λ part. 0 < length part);
  short = All-nil (λ part. length (part_octets zone [] part) ≤ most_octets);
  spelt = sym (append-nil before);
}

-- the records of one more part
joined_push : (parts : List (List RawRecord)) (part : List RawRecord) → flat_map (λ p. p) (parts ++ part ∷ []) ≡ flat_map (λ p. p) parts ++ part
joined_push parts part =
    flat_map-append (λ (p : List RawRecord). p) parts (part ∷ []) ∙ ap (λ (o : List RawRecord). flat_map (λ p. p) parts ++ o) (append-nil part)

pub one_more_put : (zone : ZoneEntry) (records rest more : List RawRecord) (before messages after : List (List ℕ)) (part : List RawRecord)
    → PutSoFar zone records rest before messages → rest ≡ part ++ more → 0 < length part → length (part_octets zone [] part) ≤ most_octets
    → after ≡ messages ++ part_octets zone [] part ∷ [] → PutSoFar zone records more before after
one_more_put zone records rest more before messages after part so_far split some short put = record {
  parts = so_far.parts ++ part ∷ [];
  all = ap (λ (o : List RawRecord). o ++ more) (joined_push so_far.parts part)
      ∙ (append_assoc (flat_map (λ p. p) so_far.parts) part more ∙ (ap (λ (o : List RawRecord). flat_map (λ p. p) so_far.parts ++ o) (sym split) ∙ so_far.all));
  some = All-push (λ (p : List RawRecord). 0 < length p) so_far.parts part so_far.some some;
  short = All-push (λ (p : List RawRecord). length (part_octets zone [] p) ≤ most_octets) so_far.parts part so_far.short short;
  spelt = put ∙ (ap (λ (o : List (List ℕ)). o ++ part_octets zone [] part ∷ []) so_far.spelt
      ∙ (append_assoc before (map (part_octets zone []) so_far.parts) (part_octets zone [] part ∷ [])
      ∙ ap (λ (o : List (List ℕ)). before ++ o) (sym (map-append (part_octets zone []) so_far.parts (part ∷ [])))));
}

pub all_put : (zone : ZoneEntry) (records rest : List RawRecord) (before after : List (List ℕ)) → PutSoFar zone records rest before after → rest ≡ []
    → (parts : List (List RawRecord)) × (flat_map (λ part. part) parts ≡ records) × All (λ part. 0 < length part) parts
    × All (λ part. length (part_octets zone [] part) ≤ most_octets) parts × (after ≡ before ++ map (part_octets zone []) parts)
all_put zone records rest before after so_far none = (
  so_far.parts,
  sym (append-nil (flat_map (λ p. p) so_far.parts)) ∙ (ap (λ (o : List RawRecord). flat_map (λ p. p) so_far.parts ++ o) (sym none) ∙ so_far.all),
  so_far.some,
  so_far.short,
  so_far.spelt,
)

-- parts that have records have none where there are no records
no_parts : (parts : List (List RawRecord)) → All (λ part. 0 < length part) parts → flat_map (λ part. part) parts ≡ [] → parts ≡ []
no_parts [] some e = refl
no_parts (part ∷ parts) some e =
    absurd (omega (arith, All-head (λ (p : List RawRecord). 0 < length p) part parts some, ap length e, length-append part (flat_map (λ p. p) parts)))

-- messages of an update: the first part as many records as have room, the others the rest
pub are_messages : (update : Update) (room count : ℕ) (parts : List (List RawRecord)) (messages : List (List ℕ))
    → length (part_octets update.zone update.prerequisites []) + room ≡ most_octets → octets_in update.zone.name (take count update.updates) ≤ room
    → (count ≡ length update.updates) ⊎ (room < octets_in update.zone.name (take (count + 1) update.updates))
    → flat_map (λ part. part) parts ≡ drop count update.updates → All (λ part. 0 < length part) parts
    → All (λ part. length (part_octets update.zone [] part) ≤ most_octets) parts
    → messages ≡ part_octets update.zone update.prerequisites (take count update.updates) ∷ map (part_octets update.zone []) parts
    → AreMessages update messages
are_messages update room count parts messages is fit most rest some short spelt = record {
  first = take count update.updates;
  parts = parts;
  all = ap (λ (o : List RawRecord). take count update.updates ++ o) rest ∙ take-append-drop count update.updates;
  spelt = spelt;
  short = All-same (λ (o : List ℕ). length o ≤ most_octets) messages
      (part_octets update.zone update.prerequisites (take count update.updates) ∷ map (part_octets update.zone []) parts) spelt
      (All-cons (λ (o : List ℕ). length o ≤ most_octets) (part_octets update.zone update.prerequisites (take count update.updates)) (map (part_octets update.zone []) parts)
      (part_room update.zone update.prerequisites (take count update.updates) room is fit)
      (All-map (λ (o : List ℕ). length o ≤ most_octets) (part_octets update.zone []) parts short));
  some = some;
  one = λ whole. one_alone whole most;
}
  where
    one_alone : length (message_octets update) ≤ most_octets
        → (count ≡ length update.updates) ⊎ (room < octets_in update.zone.name (take (count + 1) update.updates)) → parts ≡ []
    one_alone whole (inl all) = no_parts parts some (rest ∙ drop_all count update.updates (omega (arith, all)))
    one_alone whole (inr over) =
        absurd (omega (
          arith,
          part_over update.zone update.prerequisites update.updates room is
              (omega (arith, over, sum_by-take-le (λ r. length (record_octets update.zone.name r)) update.updates (count + 1))),
          whole,
        ))

-- how much room is left beside prerequisites
pub room_left : (zone : ZoneEntry) (prerequisites : List RawRecord) (k len : ℕ) (room : Option ℕ) → length prerequisites ≤ k
    → len ≡ min (length (wire_of zone.name) + 16 + octets_in zone.name (take k prerequisites)) (2 ^ 64 - 1) → SomeIff room (len ≤ 65535) (65535 - len) → RoomBeside zone prerequisites room
room_left zone prerequisites k len None end is over =
    omega (arith, part_long zone prerequisites [], is, ap (octets_in zone.name) (take_all k prerequisites end), lt_of_not-le over)
room_left zone prerequisites k len (Some room) end is fits =
    omega (arith, part_long zone prerequisites [], is, ap (octets_in zone.name) (take_all k prerequisites end), fits.0, fits.1)

-- a record that has no room alone
pub long_record : (zone : ZoneEntry) (records rest : List RawRecord) (before after : List (List ℕ)) (room : Option ℕ) (left count : ℕ) → PutSoFar zone records rest before after → 0 < length rest
    → RoomBeside zone [] room → left ≡ unwrap_or room 0 → count ≡ 0 → (count ≡ length rest) ⊎ (left < octets_in zone.name (take (count + 1) rest)) → HasLongRecord zone records
long_record zone records [] before after room left count so_far some beside is none most = absurd (omega (arith, some))
long_record zone records (raw ∷ more) before after room left count so_far some beside is none most = (
  raw,
  subst (λ (rs : List RawRecord). Contains rs raw) so_far.all (Contains-append_right (flat_map (λ p. p) so_far.parts) (raw ∷ more) raw (0, omega arith, refl)),
  over room beside is (over_left most),
)
  where
    over_left : (count ≡ length (raw ∷ more)) ⊎ (left < octets_in zone.name (take (count + 1) (raw ∷ more))) → left < octets_in zone.name (raw ∷ [])
    over_left (inl all) = absurd (omega (arith, all, none))
    over_left (inr long) = subst (λ (k : ℕ). left < octets_in zone.name (take (k + 1) (raw ∷ more))) none long

    over : (room : Option ℕ) → RoomBeside zone [] room → left ≡ unwrap_or room 0 → left < octets_in zone.name (raw ∷ []) → most_octets < length (part_octets zone [] (raw ∷ []))
    over None beside is long = omega (arith, beside, part_long zone [] [], part_long zone [] (raw ∷ []))
    over (Some n) beside is long = part_over zone [] (raw ∷ []) n beside (omega (arith, is, long))

-- records have octets
some_octets : (zone : Name) (records : List RawRecord) → 0 < length records → 0 < octets_in zone records
some_octets zone [] some = absurd (omega (arith, some))
some_octets zone (raw ∷ records) some = omega (arith, record_long zone raw, sum_by-cons (λ r. length (record_octets zone r)) raw records)

-- one more message is put, of as many records as have room
pub part_put : (zone : ZoneEntry) (records rest more : List RawRecord) (before messages after : List (List ℕ)) (room : Option ℕ) (left count : ℕ) → PutSoFar zone records rest before messages
    → RoomBeside zone [] room → left ≡ unwrap_or room 0 → (count ≡ 0 → ⊥) → count ≤ length rest → octets_in zone.name (take count rest) ≤ left
    → more ≡ take (length rest - count) (drop count rest) → after ≡ messages ++ part_octets zone [] (take count rest) ∷ [] → PutSoFar zone records more before after
part_put zone records rest more before messages after room left count so_far beside is some within fit split put =
    one_more_put zone records rest more before messages after (take count rest) so_far
    (sym (take-append-drop count rest) ∙ ap (λ (rs : List RawRecord). take count rest ++ rs) (sym (take_rest rest count) ∙ sym split)) put_some (fits room beside is) put
  where
    put_some : 0 < length (take count rest)
    put_some = by (length (take count rest)) (length-take-le count rest within)
      where
        by : (n : ℕ) → n ≡ count → 0 < n
        by zero e = absurd (some (sym e))
        by (suc n) e = omega arith

    fits : (room : Option ℕ) → RoomBeside zone [] room → left ≡ unwrap_or room 0 → length (part_octets zone [] (take count rest)) ≤ most_octets
    fits None beside is = absurd (omega (arith, some_octets zone.name (take count rest) put_some, is, fit))
    fits (Some n) beside is = part_room zone [] (take count rest) n beside (omega (arith, is, fit))

-- the messages of an update are a first one, and those that were put after it
pub all_messages : (update : Update) (prerequisites records : List RawRecord) (room count : ℕ) (parts : List (List RawRecord)) (first : List ℕ) (before messages : List (List ℕ))
    → prerequisites ≡ update.prerequisites → records ≡ update.updates → length (part_octets update.zone prerequisites []) + room ≡ most_octets
    → octets_in update.zone.name (take count records) ≤ room → (count ≡ length records) ⊎ (room < octets_in update.zone.name (take (count + 1) records))
    → flat_map (λ part. part) parts ≡ take (length records - count) (drop count records) → All (λ part. 0 < length part) parts
    → All (λ part. length (part_octets update.zone [] part) ≤ most_octets) parts → first ≡ part_octets update.zone prerequisites (take count records) → before ≡ first ∷ []
    → messages ≡ before ++ map (part_octets update.zone []) parts → AreMessages update messages
all_messages update prerequisites records room count parts first before messages own all is fit most rest some short first_is alone put =
    let same : Update = record update { prerequisites = prerequisites; updates = records } in
    let equal : same ≡ update = λ i. record update { prerequisites = own i; updates = all i } in
    subst (λ (u : Update). AreMessages u messages) equal
    (are_messages same room count parts messages is fit most (rest ∙ take_rest records count) some short
    (put ∙ (ap (λ (ms : List (List ℕ)). ms ++ map (part_octets update.zone []) parts) alone ∙ ap (λ (o : List ℕ). o ∷ map (part_octets update.zone []) parts) first_is)))
