use Rattle.std.proofs.Common.{◌≡◌, ◌++◌, drop, string_bytes}
use Rattle.master_file.proofs.ZoneTextLemmas.{data_lines}
use Rattle.master_file.proofs.zone_text.write_set.Given as goal

abbrev pub invariant-loop-rdata : goal.invariant-loop-rdata
invariant-loop-rdata l = string_bytes l.text ++ data_lines l.owner l.ttl.0 (drop l.rdata-index l.rdata-items) ≡ string_bytes l.initial.text ++ data_lines l.owner l.ttl.0 l.rdata-items
