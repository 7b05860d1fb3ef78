-- The sections of an answer (RFC 1034, 4.3.2; RFC 2308, 2 and 3; RFC 6604, 3).
use Rattle.std.specs.Prelude.{ℕ, Bool, true, false, ◌||◌, not, min, List, [], ◌++◌, map}
use Rattle.dns_name.specs.Name.{Name}
use Rattle.dns_rdata.specs.declared.numbers.Rcode.{Rcode}
use Rattle.dns_rdata.specs.declared.numbers.Rcode.TheVariants.{NoError, NxDomain}
use Rattle.dns_rdata.specs.Numbers.{type_NS}
use Rattle.dns_rdata.specs.Data.{minimum_of}
use Rattle.dns_rdata.specs.Record.{Record}
use Rattle.zone_tree.specs.Zone.{rrset_of, soa_of}
use Rattle.lookup_core.specs.Place.{is_none_of}
use Rattle.lookup_core.specs.Look.{Cut, Data, NoData, NoName}
use Rattle.lookup_core.specs.Chain.{Chain, End, Found, chain}
use Rattle.lookup_core.specs.Additional.{additional_of}

-- what an answer says
pub record Sections : Type 0 where
  pub rcode : Rcode
  pub aa : Bool
  pub answer : List Record
  pub authority : List Record
  pub additional : List Record
  -- whether the last name looked up was at or below a zone cut
  pub below_cut : Bool

-- the records at the end of a chain
abbrev pub data_of_end : End → List Record
data_of_end (Found (Data rs)) = rs
data_of_end _ = []

-- an SOA with the lesser of its TTL and its MINIMUM (RFC 2308, 3 and 5)
abbrev pub with_negative_ttl : Record → Record
with_negative_ttl r = record r { ttl = min r.ttl (minimum_of r.rdata) }

-- the zone's SOA as a negative answer shows it
abbrev pub negative_soa : List Record → List Record
negative_soa zone = map with_negative_ttl (soa_of zone)

-- the authority section: the cut's NS of a referral, the SOA where there is no data or no name, else nothing
-- (RFC 1034, 4.3.2, steps 3b and 3c; RFC 2308, 2.1 and 2.2; a positive answer has none: own)
abbrev pub authority_of : List Record → End → List Record
authority_of zone (Found (Cut cut)) = rrset_of zone cut type_NS
authority_of zone (Found NoData) = negative_soa zone
authority_of zone (Found NoName) = negative_soa zone
authority_of zone _ = []

-- the reply code is that of the last name looked up (RFC 2308, 2.1; RFC 6604, 3)
abbrev pub rcode_of : End → Rcode
rcode_of (Found NoName) = NxDomain
rcode_of _ = NoError

-- whether the end is a referral
abbrev pub is_referral : End → Bool
is_referral (Found (Cut cut)) = true
is_referral _ = false

-- the sections for the end of a chain and the aliases before it (RFC 1034, 4.3.2)
abbrev pub sections_of : List Record → Chain → Sections
sections_of zone chain =
    let answer = chain.aliases ++ data_of_end chain.end in
    let authority = authority_of zone chain.end in
    record {
      rcode = rcode_of chain.end;
      aa = not (is_none_of answer) || not (is_referral chain.end);
      answer = answer;
      authority = authority;
      additional = additional_of zone answer authority;
      below_cut = is_referral chain.end;
    }

-- the answer of a zone to a name and a type (RFC 1034, 4.3.2)
abbrev pub sections : List Record → Name → ℕ → Sections
sections zone name rtype = sections_of zone (chain zone name rtype)
