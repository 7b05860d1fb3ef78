-- How an update is read, section by section.
use Rattle.std.proofs.Common.{◌≡◌, ℕ, List, Option, Some, None, Result, Ok, Err, refl, sym, ap, ◌∙◌, option_map, option_and_then}
use Rattle.dns_rdata.specs.Raw.{RawRecord}
use Rattle.dns_message.specs.Message.{Entry, number_at}
use Rattle.dns_rdata.proofs.NameLemmas.{and_then_some}
use Rattle.dns_message.specs.Opt.{opt_said}
use Rattle.dns_message.specs.Reads.{records_at}
use Rattle.dns_message.specs.Request.{update_read}
use Rattle.dns_message.specs.Updates.{raws_at, zone_at, update_made, update_in}
use Rattle.dns_message.specs.declared.edns.OptFault.{OptFault}
use Rattle.dns_message.specs.declared.query.Head.{Head}
use Rattle.dns_message.specs.declared.query.Question.{Question}
use Rattle.dns_message.specs.declared.update.Section.TheVariants.{Prerequisites, Updates}
use Rattle.dns_message.specs.declared.update.Update.{Update}
use Rattle.dns_message.specs.declared.update.ZoneEntry.{ZoneEntry}
use Rattle.dns_message.proofs.ReadLemmas.{Said, heard}

-- what is read of an update
abbrev pub Read : Type 0
Read = Result Update (Question × OptFault)

-- what is said behind each section, where those in front of it are read
abbrev pub behind_updates : Head → List ℕ → ZoneEntry → List RawRecord → List RawRecord × ℕ → Option Read
behind_updates head msg zone prerequisites r =
    option_map (λ additional. update_made head zone prerequisites r.0 (opt_said additional.0)) (records_at (number_at msg 10) msg r.1)

abbrev pub behind_prerequisites : Head → List ℕ → ZoneEntry → List RawRecord × ℕ → Option Read
behind_prerequisites head msg zone r = option_and_then (behind_updates head msg zone r.0) (raws_at Updates (number_at msg 8) msg r.1)

abbrev pub behind_zone : Head → List ℕ → ZoneEntry × ℕ → Option Read
behind_zone head msg zone = option_and_then (behind_prerequisites head msg zone.0) (raws_at Prerequisites (number_at msg 6) msg zone.1)

pub zone_seen : (head : Head) (msg : List ℕ) → update_in head msg ≡ option_and_then (behind_zone head msg) (zone_at msg)
unfolding update_in
zone_seen head msg = refl

pub prerequisites_seen : (head : Head) (msg : List ℕ) (zone : ZoneEntry × ℕ) (n : ℕ) (o : Option (List RawRecord × ℕ)) → zone_at msg ≡ Some zone → n ≡ number_at msg 6 → o ≡ raws_at Prerequisites n msg zone.1 → update_in head msg ≡ option_and_then (behind_prerequisites head msg zone.0) o
prerequisites_seen head msg zone n o e count is =
    zone_seen head msg
    ∙ ap (option_and_then (behind_zone head msg)) e
    ∙ ap (λ (k : ℕ). option_and_then (behind_prerequisites head msg zone.0) (raws_at Prerequisites k msg zone.1)) (sym count)
    ∙ ap (option_and_then (behind_prerequisites head msg zone.0)) (sym is)

pub updates_seen : (head : Head) (msg : List ℕ) (zone : ZoneEntry) (before : List RawRecord × ℕ) (n : ℕ) (o : Option (List RawRecord × ℕ)) → update_in head msg ≡ option_and_then (behind_prerequisites head msg zone) (Some before) → n ≡ number_at msg 8 → o ≡ raws_at Updates n msg before.1 → update_in head msg ≡ option_and_then (behind_updates head msg zone before.0) o
updates_seen head msg zone before n o e count is =
    e
    ∙ ap (λ (k : ℕ). option_and_then (behind_updates head msg zone before.0) (raws_at Updates k msg before.1)) (sym count)
    ∙ ap (option_and_then (behind_updates head msg zone before.0)) (sym is)

additional_heard : (head : Head) (zone : ZoneEntry) (prerequisites updates : List RawRecord) (o : Option (List Entry × ℕ)) → option_map (λ additional. update_made head zone prerequisites updates (opt_said additional.0)) o ≡ option_map (update_made head zone prerequisites updates) (option_map heard o)
additional_heard head zone prerequisites updates None = refl
additional_heard head zone prerequisites updates (Some r) = refl

pub additional_seen : (head : Head) (msg : List ℕ) (zone : ZoneEntry) (prerequisites : List RawRecord) (before : List RawRecord × ℕ) (n : ℕ) (o : Option Said) → update_in head msg ≡ option_and_then (behind_updates head msg zone prerequisites) (Some before) → n ≡ number_at msg 10 → o ≡ option_map heard (records_at n msg before.1) → update_in head msg ≡ option_map (update_made head zone prerequisites before.0) o
additional_seen head msg zone prerequisites before n o e count is =
    e
    ∙ additional_heard head zone prerequisites before.0 (records_at (number_at msg 10) msg before.1)
    ∙ ap (λ (k : ℕ). option_map (update_made head zone prerequisites before.0) (option_map heard (records_at k msg before.1))) (sym count)
    ∙ ap (option_map (update_made head zone prerequisites before.0)) (sym is)

-- what is read by what the OPTs say
pub read_with : (head : Head) (msg : List ℕ) (zone : ZoneEntry) (prerequisites updates : List RawRecord) (o : Option Said) (said : Said) → update_in head msg ≡ option_map (update_made head zone prerequisites updates) o → o ≡ Some said → option_map (update_read head) (update_in head msg) ≡ Some (update_read head (update_made head zone prerequisites updates said))
read_with head msg zone prerequisites updates o said e is = ap (option_map (update_read head)) (e ∙ ap (option_map (update_made head zone prerequisites updates)) is)

pub unread : (head : Head) (msg : List ℕ) → update_in head msg ≡ None → option_map (update_read head) (update_in head msg) ≡ None
unread head msg e = ap (option_map (update_read head)) e

-- an update has the header that it was read with
made_head : (head : Head) (zone : ZoneEntry) (prerequisites updates : List RawRecord) (said : Said) (update : Update) → update_made head zone prerequisites updates said ≡ Ok update → head ≡ update.head
made_head head zone prerequisites updates (Ok edns) update e = cc
made_head head zone prerequisites updates (Err fault) update e = cc

made_behind : (head : Head) (zone : ZoneEntry) (prerequisites updates : List RawRecord) (o : Option (List Entry × ℕ)) (update : Update) → option_map (λ additional. update_made head zone prerequisites updates (opt_said additional.0)) o ≡ Some (Ok update) → head ≡ update.head
made_behind head zone prerequisites updates None update e = cc
made_behind head zone prerequisites updates (Some r) update e =
    let is : update_made head zone prerequisites updates (opt_said r.0) ≡ Ok update = cc in
    made_head head zone prerequisites updates (opt_said r.0) update is

pub head_kept : (head : Head) (msg : List ℕ) (update : Update) → update_in head msg ≡ Some (Ok update) → update.head ≡ head
unfolding update_in
head_kept head msg update e =
    let zone = and_then_some _ (zone_at msg) (Ok update) e in
    let prerequisites = and_then_some _ (raws_at Prerequisites (number_at msg 6) msg zone.0.1) (Ok update) zone.2 in
    let updates = and_then_some _ (raws_at Updates (number_at msg 8) msg prerequisites.0.1) (Ok update) prerequisites.2 in
    sym (made_behind head zone.0.0 prerequisites.0.0 updates.0.0 (records_at (number_at msg 10) msg updates.0.1) update updates.2)
