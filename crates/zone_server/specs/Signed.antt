-- The key that signs a request (RFC 8945, 4.2): the owner of its TSIG is the key's name.
use Rattle.std.specs.Prelude.{ℕ, List, Option, Some, None, Result, Ok, Err, option_and_then}
use Rattle.dns_name.specs.Name.{Name}
use Rattle.wire_names.specs.NameAt.{name_at}
use Rattle.wire_names.specs.declared.part.NameReadFault.{NameReadFault}
use Rattle.dns_message.specs.Tsig.{place_in}
use Rattle.dns_message.specs.declared.tsig.Place.{Place}
use Rattle.dns_message.specs.declared.tsig.Place.TheVariants.{Bare, Bad, At}

-- the name that was read
abbrev pub name_of : Result (Name × ℕ) NameReadFault → Option Name
name_of (Ok r) = Some r.0
name_of (Err fault) = None

-- the owner of a TSIG that counts
abbrev pub key_at : List ℕ → Place → Option Name
key_at msg (At at) = name_of (name_at msg at)
key_at msg Bare = None
key_at msg Bad = None

-- the key's name; none if no TSIG counts, or the message cannot be parsed
abbrev pub key_in : List ℕ → Option Name
key_in msg = option_and_then (key_at msg) (place_in msg)
