-- Laws of zone files.
use Rattle.std.specs.Prelude.{◌≡◌, ℕ, List, [], Ok}
use Rattle.dns_name.specs.Name.{Name}
use Rattle.dns_rdata.specs.Record.{Record}
use Rattle.master_file.specs.Records.{records_of}
use Rattle.master_file.specs.WrittenZone.{zone_text}
use Rattle.master_file.specs.ZoneText.{zone_of_text}
use Rattle.wide_file.specs.Included.{Files}
use Rattle.wide_file.specs.WideZone.{wide_zone}
use Rattle.wide_file.specs.WordsText.{words_text}
use Rattle.zone_tree.specs.Zone.{IsZone}

-- a text that the plain grammar takes has the same zone as a zone file, whatever files there are
abbrev pub PlainZonesAreWide : Type 0
PlainZonesAreWide = (files : Files) (origin : Name) (text : List ℕ) (zone : List Record) → zone_of_text origin text ≡ Ok zone → wide_zone files origin text ≡ Ok zone

-- what `in_words` makes of a zone's text has the same zone as a zone file, under any origin, whatever files there are
abbrev pub WordsAreTheZone : Type 0
WordsAreTheZone = (files : Files) (origin : Name) (zone : List Record) → IsZone zone → wide_zone files origin (words_text (records_of [] (zone_text zone)).rrs) ≡ Ok zone
