use Rattle.std.proofs.Common.{◌≡◌, ◌++◌, length, All}
use Rattle.dns_name.specs.Gather.{front_of}
use Rattle.dns_name.specs.Name.{IsLabel}
use Rattle.dns_name.specs.Stored.{name_stored, IsClosed}
use Rattle.dns_name.proofs.stored.put_escaped_front.Given as goal

abbrev pub invariant-loop-front : goal.invariant-loop-front
invariant-loop-front l = record {
  closed : IsClosed l.rest;
  lawful : All IsLabel (name_stored l.rest);
  put : l.to.items ++ front_of (name_stored l.rest) ≡ front_of (name_stored l.octets);
}

abbrev pub decreases-loop-front : goal.decreases-loop-front
decreases-loop-front l = length l.rest
