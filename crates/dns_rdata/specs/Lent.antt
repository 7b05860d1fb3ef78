-- Names lent from where they stand.
use Rattle.std.specs.Prelude.{◌==◌, [], None, unwrap_or, if◌then◌else◌}
use Rattle.dns_name.specs.Name.{Name}
use Rattle.dns_rdata.specs.declared.lent.Source.{Source}
use Rattle.dns_rdata.specs.declared.lent.Source.TheVariants as source
use Rattle.dns_rdata.specs.Data.{target_of}
use Rattle.dns_rdata.specs.Numbers.{type_CNAME}

-- the name that stands there; in data the one that an alias of them stands for, the root where they are another type's
-- (RFC 1035, 3.3.1)
abbrev pub name_lent : Source → Name
name_lent source.Root = []
name_lent (source.Name name) = name.now
name_lent (source.Stored name) = name.now
name_lent (source.Target rdata) = unwrap_or (if rdata.now.rtype == type_CNAME then target_of rdata.now.octets else None) []
