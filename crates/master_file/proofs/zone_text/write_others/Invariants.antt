use Rattle.std.proofs.Common.{◌≡◌, ◌++◌, filter, flat_map, string_bytes}
use Rattle.master_file.specs.WrittenZone.{record_line, is_other}
use Rattle.master_file.proofs.ZoneTextLemmas.{other_lines}
use Rattle.master_file.proofs.zone_text.write_others.Given as goal

-- What is written, and the lines of the sets that are left.
abbrev pub invariant-loop-set : goal.invariant-loop-set
invariant-loop-set g l = string_bytes l.text ++ other_lines l.set-iterator ≡ string_bytes l.initial.text ++ flat_map record_line (filter is_other (g.Z.ZoneRead.records l.zone))
