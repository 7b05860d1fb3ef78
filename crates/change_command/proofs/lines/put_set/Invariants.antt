use Rattle.std.proofs.Common.{◌≡◌, ◌++◌, drop, string_bytes}
use Rattle.change_command.proofs.LineLemmas.{data_lines}
use Rattle.change_command.proofs.lines.put_set.Given as goal

-- what is written, with what is left, is all
abbrev pub invariant-loop-rdata : goal.invariant-loop-rdata
invariant-loop-rdata l =
    string_bytes l.text ++ data_lines l.sign l.owner l.ttl.0 (drop l.rdata-index l.rdata-items) ≡ string_bytes l.initial.text ++ data_lines l.sign l.owner l.ttl.0 l.rdata-items
