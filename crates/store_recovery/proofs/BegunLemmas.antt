-- A store that begins with a zone.
use Rattle.std.proofs.Common.{◌≡◌, ℕ, ◌≤◌, List, [], length, map, Ok, sym, ap, ◌∙◌}
use Rattle.std.specs.Prelude.{All}
use Rattle.std.proofs.lemmas.List.Elements.{All-nil}
use Rattle.dns_rdata.specs.Record.{Record, IsLawful}
use Rattle.zone_tree.specs.Zone.{IsZone}
use Rattle.zone_tree.specs.Version.{zone_serial}
use Rattle.zone_lexing.specs.Entries.{entries_of}
use Rattle.zone_lexing.proofs.SpellingLemmas.{lines-read}
use Rattle.master_file.specs.ZoneText.{zone_of_read, zone_of_text}
use Rattle.master_file.specs.Records.{records_from, start}
use Rattle.master_file.specs.WrittenZone.{soa_first, line_words, zone_text}
use Rattle.master_file.proofs.AgainLemmas.{zone_again}
use Rattle.master_file.proofs.ZoneLawLemmas.{lines_are, lines_spelt, each_first}
use Rattle.master_file.proofs.ZoneBackLemmas.{records_are}
use Rattle.journal.specs.declared.heads.Head.{Head}
use Rattle.journal.specs.declared.heads.TextSum.{TextSum}
use Rattle.journal.specs.Batch.{IsRequest}
use Rattle.journal.specs.Head.{IsHead, IsText}
use Rattle.store_recovery.specs.Created.{IsCreated}

-- what is written of a zone is read as that zone
written_back : (zone : List Record) (origin : List (List ℕ)) → IsZone zone → zone_of_text origin (zone_text zone) ≡ Ok zone
written_back zone origin is =
    let rs = soa_first zone in
    let all = each_first IsLawful zone is.rules.lawful in
    let short = each_first (λ (r : Record). length r.rdata ≤ 4096) zone is.limits.short in
    ap zone_of_read (ap (records_from (start origin)) (ap entries_of (lines_are rs) ∙ lines-read (map line_words rs) 1 (lines_spelt rs all)) ∙ records_are (start origin) 1 rs all short)
    ∙ zone_again zone is

-- so it begins a store
pub begun_from : (zone : List Record) (number : ℕ) (random : List ℕ) (origin : TextSum) (text : List ℕ) (head : Head)
    → IsZone zone → text ≡ zone_text zone → IsHead head → head.number ≡ number → head.random ≡ random → head.origin ≡ origin → IsText head.text text → head.serial ≡ zone_serial zone
    → IsCreated zone number random origin text head
begun_from zone number random origin text head is written is_head numbered salted given same serial = record {
  written = written;
  numbered = numbered;
  salted = salted;
  given = given;
  store = record {
    is_head = is_head;
    same_text = same;
    is_zone = ap (λ (o : List ℕ). zone_of_text [] o) written ∙ written_back zone [] is;
    serial = sym serial;
    short = All-nil (All IsRequest);
    fit = tt;
    read = tt;
    taken = tt;
  };
}
