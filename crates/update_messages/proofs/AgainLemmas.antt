-- The messages of an update are read again as its parts.
use Rattle.std.proofs.Common.{◌≡◌, ◌==◌, ◌&&◌, ◌||◌, ◌⊎◌, inl, inr, ℕ, zero, suc, ◌+◌, ◌^◌, ◌<◌, ◌≤◌, Bool, true, false, if◌then◌else◌, nat_lt, All, List, [], ◌∷◌, ◌++◌, length, flat_map, get_or, not, Option, Some, None, Ok, refl, sym, ap, subst, ◌∙◌, arith, option_map, option_and_then, is_some, IsSome, length-append, append_assoc, append-nil}
use Rattle.std.specs.Int.{to_be_bytes, w16, w32}
use Rattle.std.proofs.lemmas.List.Elements.{All-head, All-tail}
use Rattle.std.proofs.lemmas.Nat.{from_be_bytes-to_be_bytes_2}
use Rattle.dns_name.specs.Name.{Name, IsName, wire_of, fold_name}
use Rattle.dns_rdata.specs.Data.{data_by, data_of}
use Rattle.dns_rdata.specs.Layout.{layout_of}
use Rattle.dns_rdata.specs.declared.layout.Layout.{Layout}
use Rattle.dns_rdata.specs.Numbers.{class_IN, class_NONE}
use Rattle.dns_rdata.specs.Raw.{RawRecord}
use Rattle.dns_rdata.proofs.LayoutLemmas.{served_types-are}
use Rattle.wire_names.specs.NameAt.{name_at}
use Rattle.wire_names.specs.Spells.{Spells}
use Rattle.dns_message.specs.Expanded.{octets_from, expanded_data}
use Rattle.dns_message.specs.Message.{Entry}
use Rattle.dns_message.specs.Reads.{opcode_of, header_of, is_reply, record_of, record_at}
use Rattle.dns_message.specs.Request.{reads, update_of}
use Rattle.dns_message.specs.Updates.{is_looked_at, octets_of, raw_with, raw_at, raws_at, zone_entry, zone_at, update_in}
use Rattle.dns_message.specs.declared.query.Head.{Head}
use Rattle.dns_message.specs.declared.query.Question.{Question}
use Rattle.dns_message.specs.declared.query.Parsed.TheVariants.{Update as Asks}
use Rattle.dns_message.specs.declared.update.Update.{Update}
use Rattle.dns_message.specs.declared.update.ZoneEntry.{ZoneEntry}
use Rattle.dns_message.proofs.ReadLemmas.{heard}
use Rattle.dns_message.proofs.UpdatesLemmas.{prerequisites_seen, updates_seen, additional_seen}
use Rattle.message_laws.proofs.AgainLemmas.{question_full_again, record_numbers, none_more}
use Rattle.zone_change.specs.Change.{change_head}
use Rattle.zone_change.specs.Message.{head_octets, owner_octets, record_octets, zone_octets}
use Rattle.zone_change.specs.Messages.{part_octets}
use Rattle.zone_change.proofs.MessagesLemmas.{record_long, part_long}
use Rattle.zone_change.proofs.RecordsLemmas.{same_head}
use Rattle.zone_change.proofs.Steps.{not_over}
use Rattle.update_messages.proofs.PointerLemmas.{labels_octets, to_zone, under_long, owner_under, zone_spelt, owner_read}
use Rattle.update_messages.proofs.DataLemmas.{data_read}

-- a record of an update's message that is read again: its owner is the zone's name or ends in it, in lower case, and its data have their type's form
pub record IsAgain (zone : Name) (raw : RawRecord) : Type 0 where
  pub labels : Name
  pub under : raw.owner ≡ labels ++ zone
  pub owner : IsName raw.owner
  pub folded : fold_name raw.owner ≡ raw.owner
  pub ttl : raw.ttl < 2 ^ 32
  pub form : data_of raw.rtype raw.octets ≡ Some raw.octets

-- a prerequisite of class IN is looked at, and an update of class IN or NONE (RFC 2136, 2.4 and 2.5)
abbrev pub IsSent : RawRecord → Type 0
IsSent raw = (raw.class ≡ class_IN) ⊎ (raw.class ≡ class_NONE)

-- a record as it stands in a message, its data at a position
abbrev entry_for : RawRecord → ℕ → Entry
entry_for raw at = record { owner = raw.owner; rtype = raw.rtype; class = raw.class; ttl = raw.ttl; at = at; size = length raw.octets }

laid : (o : Option Layout) (octets own : List ℕ) → option_and_then (λ (layout : Layout). data_by layout octets) o ≡ Some own → is_some o ≡ true
laid None octets own e = cc
laid (Some layout) octets own e = refl

has_layout : (rtype : ℕ) (octets own : List ℕ) → data_of rtype octets ≡ Some own → is_some (layout_of rtype) ≡ true
unfolding data_of
has_layout rtype octets own e = laid (layout_of rtype) octets own e

some_layout : (o : Option Layout) → is_some o ≡ true → IsSome o
some_layout None e = cc
some_layout (Some layout) e = refl

short_type : (rtype : ℕ) (octets own : List ℕ) → data_of rtype octets ≡ Some own → rtype < 2 ^ 16
short_type rtype octets own e = ((served_types-are rtype).0 (some_layout (layout_of rtype) (has_layout rtype octets own e))).1

short_class : (raw : RawRecord) → IsSent raw → raw.class < 2 ^ 16
short_class raw (inl is) = omega (arith, is)
short_class raw (inr is) = omega (arith, is)

-- whether a prerequisite and an update are looked at, by whether a type has a layout, and by the class
condition_seen : (some : Bool) (class size : ℕ) → some ≡ true → class ≡ class_IN → (some && (class == class_IN || (class == class_NONE && not (size == 0)))) ≡ true
condition_seen some class size e is = let same : (class == class_IN) ≡ true = ap (λ c. c == class_IN) is in rw (e, same) refl

update_seen : (some : Bool) (class : ℕ) → some ≡ true → (class ≡ class_IN) ⊎ (class ≡ class_NONE) → (some && (class == class_IN || class == class_NONE)) ≡ true
update_seen some class e (inl is) = let same : (class == class_IN) ≡ true = ap (λ c. c == class_IN) is in rw (e, same) refl
update_seen some class e (inr is) =
    let other : (class == class_IN) ≡ false = ap (λ c. c == class_IN) is in
    let same : (class == class_NONE) ≡ true = ap (λ c. c == class_NONE) is in
    rw (e, other, same) refl

-- type, class, TTL and the length of the data
abbrev fields : RawRecord → List ℕ
fields raw = to_be_bytes w16 raw.rtype ++ (to_be_bytes w16 raw.class ++ (to_be_bytes w32 raw.ttl ++ to_be_bytes w16 (length raw.octets)))

fields_long : (raw : RawRecord) → length (fields raw) ≡ 10
fields_long raw = refl

-- where a record stands in a message: after octets, and before others
module _ (section : _) (zone : Name) (whole front rest : List ℕ) (next : ℕ) (raw : RawRecord) (is : IsAgain zone raw) (sent : IsSent raw) (seen : (at : ℕ) → is_looked_at section (entry_for raw at) ≡ true)
    (lies : whole ≡ front ++ (record_octets zone raw ++ rest)) (low : 12 < length front) (short : length raw.octets < 2 ^ 16) (there : Spells whole 12 12 zone next) where
  abbrev owner : List ℕ
  owner = labels_octets is.labels ++ to_zone

  abbrev numbers : List ℕ
  numbers = to_be_bytes w16 raw.rtype ++ (to_be_bytes w16 raw.class ++ (to_be_bytes w32 raw.ttl ++ (to_be_bytes w16 (length raw.octets) ++ raw.octets)))

  owner_is : owner_octets zone raw.owner ≡ owner
  owner_is = ap (owner_octets zone) is.under ∙ owner_under is.labels zone

  after_front : whole ≡ front ++ (owner ++ (numbers ++ rest))
  after_front = lies ∙ (ap (λ (o : List ℕ). front ++ ((o ++ numbers) ++ rest)) owner_is ∙ ap (λ (o : List ℕ). front ++ o) (append_assoc owner numbers rest))

  after_owner : whole ≡ (front ++ owner) ++ (to_be_bytes w16 raw.rtype ++ (to_be_bytes w16 raw.class ++ (to_be_bytes w32 raw.ttl ++ (to_be_bytes w16 (length raw.octets) ++ (raw.octets ++ rest)))))
  after_owner = after_front ∙ simp append_assoc

  after_fields : whole ≡ ((front ++ owner) ++ fields raw) ++ (raw.octets ++ rest)
  after_fields = after_owner ∙ simp append_assoc

  place : length (front ++ owner) ≡ length front + (length (labels_octets is.labels) + 2)
  place = omega (arith, length-append front owner, length-append (labels_octets is.labels) to_zone)

  end : length (front ++ owner) + 10 + length raw.octets ≡ length front + length (record_octets zone raw)
  end = omega (arith, place, record_long zone raw, under_long is.labels zone, ap (λ (o : Name). length (wire_of o)) is.under)

  name_is : name_at whole (length front) ≡ Ok (raw.owner, length (front ++ owner))
  name_is =
      owner_read whole front (numbers ++ rest) next is.labels zone after_front low (subst IsName is.under is.owner) there
      ∙ (ap (λ (o : Name). Ok (o, length front + (length (labels_octets is.labels) + 2))) (sym is.under) ∙ ap (λ (k : ℕ). Ok (raw.owner, k)) (sym place))

  record_is : record_at whole (length front) ≡ Some (entry_for raw (length (front ++ owner) + 10), length front + length (record_octets zone raw))
  record_is =
      ap (record_of whole) name_is
      ∙ (ap (λ (o : List ℕ). record_of o (Ok (raw.owner, length (front ++ owner)))) after_owner
      ∙ (record_numbers (front ++ owner) rest raw.octets raw.owner raw.rtype raw.class raw.ttl (short_type raw.rtype raw.octets raw.octets is.form) (short_class raw sent) is.ttl short
      ∙ ap (λ (k : ℕ). Some (entry_for raw (length (front ++ owner) + 10), k)) end))

  octets_are : octets_of section whole (entry_for raw (length (front ++ owner) + 10)) ≡ Some raw.octets
  octets_are =
      let entry = entry_for raw (length (front ++ owner) + 10) in
      let at : length (front ++ owner) + 10 ≡ length ((front ++ owner) ++ fields raw) = omega (arith, length-append (front ++ owner) (fields raw), fields_long raw) in
      ap (λ (b : Bool). if b then option_and_then (data_of entry.rtype) (expanded_data whole entry) else Some (octets_from whole entry.at entry.size))
      (seen (length (front ++ owner) + 10))
      ∙ (ap (option_and_then (data_of raw.rtype)) (data_read entry raw.octets raw.octets is.form whole ((front ++ owner) ++ fields raw) rest after_fields at refl) ∙ is.form)

  -- it is read there
  raw_read : raw_at section whole (length front) ≡ Some (raw, length front + length (record_octets zone raw))
  raw_read =
      let entry = entry_for raw (length (front ++ owner) + 10) in
      let stop = length front + length (record_octets zone raw) in
      ap (option_and_then (λ e. option_map (λ octets. (raw_with e.0 octets, e.1)) (octets_of section whole e.0))) record_is
      ∙ (ap (option_map (λ octets. (raw_with entry octets, stop))) octets_are
      ∙ ap (λ (o : Name). Some (record { owner = o; rtype = raw.rtype; class = raw.class; ttl = raw.ttl; octets = raw.octets }, stop)) is.folded)

no_raws : (section : _) (msg : List ℕ) (at : ℕ) → raws_at section zero msg at ≡ Some ([], at)
unfolding raws_at
no_raws section msg at = refl

one_raw : (section : _) (count : ℕ) (msg : List ℕ) (n next stop : ℕ) (raw : RawRecord) (raws : List RawRecord) → raw_at section msg n ≡ Some (raw, next)
    → raws_at section count msg next ≡ Some (raws, stop) → raws_at section (suc count) msg n ≡ Some (raw ∷ raws, stop)
unfolding raws_at
one_raw section count msg n next stop raw raws first others =
    ap (option_and_then (λ r. option_map (λ rest. (r.0 ∷ rest.0, rest.1)) (raws_at section count msg r.1))) first
    ∙ ap (option_map (λ rest. (raw ∷ rest.0, rest.1))) others

-- so are records one after another
raws_read : (section : _) (zone : Name) (whole : List ℕ) (next : ℕ) → length whole ≤ 65535 → Spells whole 12 12 zone next → (raws : List RawRecord) → All (IsAgain zone) raws
    → All IsSent raws → All (λ raw. (at : ℕ) → is_looked_at section (entry_for raw at) ≡ true) raws → (front rest : List ℕ) → whole ≡ front ++ (flat_map (record_octets zone) raws ++ rest) → 12 < length front
    → raws_at section (length raws) whole (length front) ≡ Some (raws, length front + length (flat_map (record_octets zone) raws))
raws_read section zone whole next most there [] all sent seen front rest lies low = no_raws section whole (length front) ∙ ap (λ (k : ℕ). Some ([], k)) (omega arith)
raws_read section zone whole next most there (raw ∷ raws) all sent seen front rest lies low =
    let own = record_octets zone raw in
    let more = flat_map (record_octets zone) raws in
    let split : whole ≡ front ++ (own ++ (more ++ rest)) = lies ∙ ap (λ (o : List ℕ). front ++ o) (append_assoc own more rest) in
    let deep : whole ≡ (front ++ own) ++ (more ++ rest) = split ∙ sym (append_assoc front own (more ++ rest)) in
    let place : length (front ++ own) ≡ length front + length own = length-append front own in
    let short : length raw.octets < 2 ^ 16 = omega (arith, ap length deep, length-append (front ++ own) (more ++ rest), place, record_long zone raw, most) in
    let here = raw_read section zone whole front (more ++ rest) next raw (All-head (IsAgain zone) raw raws all) (All-head IsSent raw raws sent) (All-head (λ r. (at : ℕ) → is_looked_at section (entry_for r at) ≡ true) raw raws seen) split low short there in
    let back = raws_read section zone whole next most there raws (All-tail (IsAgain zone) raw raws all) (All-tail IsSent raw raws sent) (All-tail (λ r. (at : ℕ) → is_looked_at section (entry_for r at) ≡ true) raw raws seen) (front ++ own) rest deep (omega (arith, place, low)) in
    one_raw section (length raws) whole (length front) (length front + length own) (length (front ++ own) + length more) raw raws here
    (ap (λ (k : ℕ). raws_at section (length raws) whole k) (sym place) ∙ back)
    ∙ ap (λ (k : ℕ). Some (raw ∷ raws, k)) (omega (arith, place, length-append own more))

-- records are no more than their octets
few_raws : (zone : Name) (raws : List RawRecord) → length raws ≤ length (flat_map (record_octets zone) raws)
few_raws zone [] = omega arith
few_raws zone (raw ∷ raws) = omega (arith, few_raws zone raws, record_long zone raw, length-append (record_octets zone raw) (flat_map (record_octets zone) raws))

-- and from a position on
raws_from : (section : _) (zone : Name) (whole : List ℕ) (next : ℕ) (raws : List RawRecord) (front rest : List ℕ) (n stop : ℕ) → length whole ≤ 65535 → Spells whole 12 12 zone next
    → All (IsAgain zone) raws → All IsSent raws → All (λ raw. (at : ℕ) → is_looked_at section (entry_for raw at) ≡ true) raws → whole ≡ front ++ (flat_map (record_octets zone) raws ++ rest)
    → 12 < length front → n ≡ length front → stop ≡ n + length (flat_map (record_octets zone) raws) → Some (raws, stop) ≡ raws_at section (length raws) whole n
raws_from section zone whole next raws front rest n stop most there all sent seen lies low at is =
    ap (λ (k : ℕ). Some (raws, k)) (is ∙ ap (λ (k : ℕ). k + length (flat_map (record_octets zone) raws)) at)
    ∙ (sym (raws_read section zone whole next most there raws all sent seen front rest lies low) ∙ ap (λ (k : ℕ). raws_at section (length raws) whole k) (sym at))

-- which of four is chosen by tests
third : {X : Type 0} (a b c d : Bool) (w x y z : X) → a ≡ false → b ≡ false → c ≡ false → d ≡ true → (if a || b then w else if c then x else if d then y else z) ≡ y
third a b c d w x y z e f g h = rw (e, f, g, h) refl

-- octets that are long enough and no reply are read as the update that they are
asked : (msg : List ℕ) (update : Update) → 12 ≤ length msg → is_reply msg ≡ false → opcode_of msg ≡ 5 → update_in (header_of msg) msg ≡ Some (Ok update) → reads msg ≡ Asks update
asked msg update long asks opcode e =
    third (nat_lt (length msg) 12) (is_reply msg) (opcode_of msg == 0) (opcode_of msg == 5) _ _ _ _ (not_over (length msg) 12 long) asks (ap (λ k. k == 0) opcode) (ap (λ k. k == 5) opcode)
    ∙ ap (update_of (header_of msg)) e

-- an update of one message, with this zone, these prerequisites and these records
abbrev pub update_with : ZoneEntry → List RawRecord → List RawRecord → Update
update_with zone prerequisites updates = record { head = change_head; edns = None; zone = zone; prerequisites = prerequisites; updates = updates }

pub part_read : (zone : ZoneEntry) (prerequisites updates : List RawRecord) → IsName zone.name → zone.rtype.0 < 2 ^ 16 → zone.class.0 < 2 ^ 16 → All (IsAgain zone.name) prerequisites
    → All (λ raw. raw.class ≡ class_IN) prerequisites → All (IsAgain zone.name) updates → All IsSent updates → length (part_octets zone prerequisites updates) ≤ 65535
    → reads (part_octets zone prerequisites updates) ≡ Asks (update_with zone prerequisites updates)
part_read zone prerequisites updates name rtype class again standing also sent most =
    let head = head_octets (length prerequisites) (length updates) in
    let entry = zone_octets zone in
    let first = flat_map (record_octets zone.name) prerequisites in
    let more = flat_map (record_octets zone.name) updates in
    let whole = part_octets zone prerequisites updates in
    let question : Question = record { name = zone.name; rtype = zone.rtype; class = zone.class } in
    let long = part_long zone prerequisites updates in
    let there : Spells whole 12 12 zone.name (12 + length (wire_of zone.name)) =
    zone_spelt whole head ((to_be_bytes w16 zone.rtype.0 ++ to_be_bytes w16 zone.class.0) ++ (first ++ more)) zone.name refl
    (ap (λ (o : List ℕ). head ++ o) (append_assoc (wire_of zone.name) (to_be_bytes w16 zone.rtype.0 ++ to_be_bytes w16 zone.class.0) (first ++ more))) name in
    let zone_is : zone_at whole ≡ Some (zone, 12 + length entry) =
    ap (option_map zone_entry) (question_full_again head (first ++ more) question (record { name = name; rtype = rtype; class = class })) in
    let split : whole ≡ (head ++ entry) ++ (first ++ more) = sym (append_assoc head entry (first ++ more)) in
    let place : length (head ++ entry) ≡ 12 + length entry = length-append head entry in
    let entry_some : 0 < length entry = omega (arith, length-append (wire_of zone.name) (to_be_bytes w16 zone.rtype.0 ++ to_be_bytes w16 zone.class.0)) in
    let deep : whole ≡ ((head ++ entry) ++ first) ++ (more ++ []) = split ∙ (sym (append_assoc (head ++ entry) first more) ∙ ap (λ (o : List ℕ). ((head ++ entry) ++ first) ++ o) (sym (append-nil more))) in
    let behind : length ((head ++ entry) ++ first) ≡ length (head ++ entry) + length first = length-append (head ++ entry) first in
    let counted : length prerequisites < 2 ^ 16 = omega (arith, few_raws zone.name prerequisites, ap length split, length-append (head ++ entry) (first ++ more), length-append first more, most) in
    let also_counted : length updates < 2 ^ 16 = omega (arith, few_raws zone.name updates, ap length split, length-append (head ++ entry) (first ++ more), length-append first more, most) in
    let header = header_of whole in
    let n0 = 12 + length entry in
    let n1 = n0 + length first in
    let n2 = n1 + length more in
    let first_seen = λ (k : ℕ) (d : RawRecord) (within : k < length prerequisites) (at : ℕ).
    let raw = get_or prerequisites k d in
    condition_seen (is_some (layout_of raw.rtype)) raw.class (length raw.octets) (has_layout raw.rtype raw.octets raw.octets (again k d within).form) (standing k d within) in
    let more_seen = λ (k : ℕ) (d : RawRecord) (within : k < length updates) (at : ℕ).
    let raw = get_or updates k d in
    update_seen (is_some (layout_of raw.rtype)) raw.class (has_layout raw.rtype raw.octets raw.octets (also k d within).form) (sent k d within) in
    let after_first =
    prerequisites_seen header whole (zone, n0) (length prerequisites) (Some (prerequisites, n1)) zone_is (sym (from_be_bytes-to_be_bytes_2 (length prerequisites) counted))
    (raws_from _ zone.name whole (12 + length (wire_of zone.name)) prerequisites (head ++ entry) more n0 n1 most there again (λ k d within. inl (standing k d within)) first_seen split
    (omega (arith, place, entry_some)) (sym place) refl) in
    let after_more =
    updates_seen header whole zone (prerequisites, n1) (length updates) (Some (updates, n2)) after_first (sym (from_be_bytes-to_be_bytes_2 (length updates) also_counted))
    (raws_from _ zone.name whole (12 + length (wire_of zone.name)) updates ((head ++ entry) ++ first) [] n1 n2 most there also sent more_seen deep
    (omega (arith, behind, place, entry_some)) (omega (arith, behind, place)) refl) in
    let read : update_in header whole ≡ Some (Ok (record { head = header; edns = None; zone = zone; prerequisites = prerequisites; updates = updates })) =
    additional_seen header whole zone prerequisites (updates, n2) 0 (Some (Ok None)) after_more refl (ap (option_map heard) (sym (none_more whole n2))) in
    asked whole (record { head = header; edns = None; zone = zone; prerequisites = prerequisites; updates = updates }) (omega (arith, long)) refl refl read
    ∙ ap (λ (h : Head). Asks (record { head = h; edns = None; zone = zone; prerequisites = prerequisites; updates = updates })) (same_head header.four_bits)
