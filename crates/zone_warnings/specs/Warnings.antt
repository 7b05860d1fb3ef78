-- What of a zone's text an operator is warned of (RFC 1912, 2.4 and 2.8; RFC 2181, 5.2 and 10.3; RFC 2782; RFC 9471, 3; own).
use Rattle.std.specs.Prelude.{ℕ, Bool, true, false, ◌&&◌, ◌||◌, not, ◌==◌, List, [], ◌∷◌, ◌++◌, codes, decimal, length, flat_map, Option, Some, None, unwrap_or, if◌then◌else◌}
use Rattle.dns_name.specs.Name.{Name, is_under}
use Rattle.dns_name.specs.Text.{text_of}
use Rattle.dns_rdata.specs.Layout.{names_in_data}
use Rattle.dns_rdata.specs.Numbers.{type_A, type_NS, type_CNAME, type_AAAA}
use Rattle.dns_rdata.specs.Record.{Record, ttl_of}
use Rattle.zone_tree.specs.Zone.{apex_of, rrset_of}
use Rattle.lookup_core.specs.Additional.{has_hosts}
use Rattle.lookup_core.specs.Place.{is_none_of, place}
use Rattle.lookup_core.specs.declared.matched.Place.TheVariants as at
use Rattle.record_text.specs.Mnemonics.{type_word}
use Rattle.master_file.specs.declared.record_entry.RecordEntry.{RecordEntry}
use Rattle.master_file.specs.ZoneText.{record_in}
use Rattle.zone_warnings.specs.declared.hosts.HostState.{HostState}
use Rattle.zone_warnings.specs.declared.hosts.HostState.TheVariants.{Fine, Alias, NoAddress, NoGlue}
use Rattle.zone_warnings.specs.declared.shown.Warning.{Warning}
use Rattle.zone_warnings.specs.declared.shown.Warning.TheVariants as warning

-- the first of names
abbrev pub first_of : List Name → Option Name
first_of [] = None
first_of (name ∷ names) = Some name

-- the first name in a record's data: the host of NS, MX and SRV, what an alias or a PTR stands for, an SOA's primary
abbrev pub name_of : Record → Option Name
name_of r = first_of (names_in_data r.rtype r.rdata)

-- whether a name owns an address: A or AAAA
abbrev pub has_address : List Record → Name → Bool
has_address zone name = not (is_none_of (rrset_of zone name type_A)) || not (is_none_of (rrset_of zone name type_AAAA))

-- what the records at a name make of a host
abbrev pub state_at : List Record → Name → HostState
state_at zone name =
    if not (is_none_of (rrset_of zone name type_CNAME)) then Alias
    else if has_address zone name then Fine
    else NoAddress

-- what a zone says of a host: its own records, or those at the source of synthesis in its place; at or below a zone cut the addresses at
-- exactly that name, its glue. Outside the zone nothing is known (RFC 1034, 4.3.2; RFC 4592, 3.3)
abbrev pub placed_state : List Record → Name → HostState
placed_state zone host = elim (place zone host) [
  | at.Outside ↦ Fine
  | at.Cut cut ↦ if has_address zone host then Fine else NoGlue
  | at.Exact ↦ state_at zone host
  | at.Wild source ↦ state_at zone source
  | at.Missing ↦ NoAddress
]

-- the same of the host of an NS, an MX or an SRV. The root is none: as the host of an MX or an SRV it says that there is no service
-- (RFC 7505, 3; RFC 2782)
abbrev pub state_of : List Record → Option Name → HostState
state_of zone None = Fine
state_of zone (Some []) = Fine
state_of zone (Some (label ∷ name)) = placed_state zone (label ∷ name)

-- the host of a record: the name in the data of NS, MX and SRV
abbrev pub host_of : Record → Option Name
host_of r = if has_hosts r.rtype then name_of r else None

-- whether a host's state is this one
abbrev pub is_alias : HostState → Bool
is_alias Alias = true
is_alias state = false

abbrev pub lacks_address : HostState → Bool
lacks_address NoAddress = true
lacks_address state = false

abbrev pub lacks_glue : HostState → Bool
lacks_glue NoGlue = true
lacks_glue state = false

-- whether a name ends with another twice, one after the other; all names end so with the root
abbrev pub ends_twice : Name → Name → Bool
ends_twice apex name = not (length apex == 0) && is_under name (apex ++ apex)

-- whether a name, where there is one, does so
abbrev pub one_ends_twice : Name → Option Name → Bool
one_ends_twice apex None = false
one_ends_twice apex (Some name) = ends_twice apex name

-- the TTL that a record's set has in a zone
abbrev pub ttl_in : List Record → Record → ℕ
ttl_in zone r = ttl_of (rrset_of zone r.owner r.rtype)

-- whether a record of a text shows a warning, in the zone that the text is: its host has no address in the zone; its NS has no glue below a
-- zone cut; its host is an alias; the name in its data, or its owner, ends with the zone's name twice; its TTL is another than its set's
abbrev pub is_shown : List Record → Record → Warning → Bool
is_shown zone r warning.NoAddress = lacks_address (state_of zone (host_of r))
is_shown zone r warning.NoGlue = r.rtype == type_NS && lacks_glue (state_of zone (host_of r))
is_shown zone r warning.Alias = is_alias (state_of zone (host_of r))
is_shown zone r warning.NameTwice = one_ends_twice (apex_of zone) (name_of r)
is_shown zone r warning.OwnerTwice = ends_twice (apex_of zone) r.owner
is_shown zone r warning.OtherTtl = not (r.ttl == ttl_in zone r)

-- a record's type, and the name in its data
abbrev pub type_and_name : Record → List ℕ
type_and_name r = type_word r.rtype ++ 32 ∷ text_of (unwrap_or (name_of r) [])

-- a warning in words
abbrev pub words_of : List Record → Record → Warning → List ℕ
words_of zone r warning.NoAddress = type_and_name r ++ codes " has no address in the zone"
words_of zone r warning.NoGlue = type_and_name r ++ codes " has no glue in the zone"
words_of zone r warning.Alias = type_and_name r ++ codes " is an alias"
words_of zone r warning.NameTwice = type_and_name r ++ codes " ends with the zone's name twice"
words_of zone r warning.OwnerTwice = text_of r.owner ++ codes " ends with the zone's name twice"
words_of zone r warning.OtherTtl =
    text_of r.owner ++ 32 ∷ type_word r.rtype ++ codes " has TTL " ++ decimal r.ttl ++ codes ", and its set " ++ decimal (ttl_in zone r)

-- the line of a warning: that of the text on which its record begins, and its words
abbrev pub warning_line : List Record → RecordEntry → Warning → List ℕ
warning_line zone rr warning = codes "line " ++ decimal rr.line ++ codes ": warning: " ++ words_of zone (record_in rr) warning ++ 10 ∷ []

-- the same where the record shows it
abbrev pub line_shown : List Record → RecordEntry → Warning → List ℕ
line_shown zone rr warning = if is_shown zone (record_in rr) warning then warning_line zone rr warning else []

-- all warnings
abbrev pub all_warnings : List Warning
all_warnings = warning.NoAddress ∷ warning.NoGlue ∷ warning.Alias ∷ warning.NameTwice ∷ warning.OwnerTwice ∷ warning.OtherTtl ∷ []

-- the lines of a record
abbrev pub record_warnings : List Record → RecordEntry → List ℕ
record_warnings zone rr = flat_map (line_shown zone rr) all_warnings

-- the lines of a text's records, in their order
abbrev pub warnings_text : List Record → List RecordEntry → List ℕ
warnings_text zone rrs = flat_map (record_warnings zone) rrs
