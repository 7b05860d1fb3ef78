use Rattle.std.proofs.Common.{◌<◌, ◌+◌, ◌-◌, ◌^◌, ◌≤◌, length, take}
use Rattle.dns_name.specs.Labels.{labels_in, IsWhole}
use Rattle.wire_names.specs.Table.{Table, entered}
use Rattle.wire_names.specs.Written.{starts_of, CanEnter}
use Rattle.wire_names.proofs.EnterLemmas.{Entering}
use Rattle.wire_names.proofs.table.Positions.enter.Given as goal

-- what is left of the name completes the table
abbrev pub invariant-loop-i : goal.invariant-loop-i
invariant-loop-i l = record {
  whole : IsWhole l.rest;
  within : l.place + length l.rest < 2 ^ 64;
  short : length l.rest ≤ 255;
  few : l.fn.count - l.i ≤ length (labels_in l.rest);
  grown : length l.initial.self ≤ length l.self;
  entering : (table : Table) → CanEnter l.initial.self table l.fn.at (labels_in l.fn.octets) l.fn.count l.fn.last → Entering l.self (entered (λ named. named.0) table (take l.fn.count (starts_of l.fn.at (labels_in l.fn.octets)))) l.place (labels_in l.rest) (l.fn.count - l.i) l.fn.last;
}
