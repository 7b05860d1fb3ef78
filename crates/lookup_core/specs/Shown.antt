-- What the code's values say, in the words of `Look`, `Chain` and `Sections`: the records that they show.
use Rattle.std.specs.Prelude.{◌≡◌, ◌-◌, ◌==◌, ℕ, true, List, ◌++◌, length, take, drop, map, reverse}
use Rattle.std.specs.List.{flat_map}
use Rattle.dns_name.specs.Name.{Name}
use Rattle.dns_rdata.specs.declared.shown.Shown.{Shown}
use Rattle.dns_rdata.specs.Numbers.{type_NS}
use Rattle.dns_rdata.specs.Record.{Record, owner_of}
use Rattle.dns_rdata.specs.Shown.{records_shown}
use Rattle.zone_tree.specs.Zone.{exists, rrset_of, rrsets_of}
use Rattle.zone_tree.specs.Sets.{AreWhole}
use Rattle.lookup_core.specs.declared.matched.Place.{Place}
use Rattle.lookup_core.specs.declared.matched.Place.TheVariants as place
use Rattle.lookup_core.specs.declared.matched.Matched.{Matched}
use Rattle.lookup_core.specs.declared.matched.Matched.TheVariants as matched
use Rattle.lookup_core.specs.declared.look.Look.{Look}
use Rattle.lookup_core.specs.declared.look.Look.TheVariants.{Cut, Alias, Data, NoData, NoName}
use Rattle.lookup_core.specs.declared.aliases.End.{End}
use Rattle.lookup_core.specs.declared.aliases.End.TheVariants as end
use Rattle.lookup_core.specs.declared.sections.Answer.{Answer}
use Rattle.lookup_core.specs.declared.sections.Front.{Front}
use Rattle.lookup_core.specs.Place.{is_none_of, place_below}
use Rattle.lookup_core.specs.Look as look
use Rattle.lookup_core.specs.Chain as chain
use Rattle.lookup_core.specs.Additional.{additional_of, each_once, most_sets}
use Rattle.lookup_core.specs.Sections.{Sections}

-- the records of a section, in the order in which it shows them
abbrev pub section_shown : List Shown → List Record
section_shown section = flat_map records_shown section

-- all sets at a name, each in whole
pub record AreAllAt (zone : List Record) (name : Name) (sets : List (List Record)) : Type 0 where
  pub records : flat_map (λ set. set) sets ≡ rrsets_of zone name
  pub whole : AreWhole zone sets

-- all sets at a source of synthesis, which exists
pub record AreAllAtSource (zone : List Record) (source : Name) (sets : List (List Record)) : Type 0 where
  pub there : exists zone source ≡ true
  pub all : AreAllAt zone source sets

-- of a name's ancestors, that with as many labels as the owner of a set
abbrev pub at_owner : Name → List Record → Name
at_owner name set = drop (length name - length (owner_of set)) name

-- the NS set of a zone cut that a name is at or below
pub record AreServers (zone : List Record) (name cut : Name) (servers : List Record) : Type 0 where
  pub is : cut ≡ at_owner name servers
  pub set : servers ≡ rrset_of zone cut type_NS

-- where a name stands, with what was found there: the NS set of the zone cut, or all sets at the name or at the source of
-- synthesis
abbrev pub AreFoundAt : List Record → Name → Place → Matched → Type 0
AreFoundAt zone name (place.Cut cut) (matched.Cut servers) = AreServers zone name cut servers.now
AreFoundAt zone name place.Exact (matched.Exact sets) = AreAllAt zone name sets.now
AreFoundAt zone name (place.Wild source) (matched.Wild sets) = AreAllAt zone source sets.now
AreFoundAt zone name place.Missing matched.Missing = Unit {0}
AreFoundAt zone name _ _ = ⊥

-- the same, where the place is that on the way down from the apex
abbrev pub IsMatched : List Record → Name → Matched → Type 0
IsMatched zone name found = AreFoundAt zone name (place_below zone name) found

-- what is found at a name, with the records under that name
abbrev pub look_shown : Name → Look → look.Look
look_shown name (Cut servers) = look.Cut (at_owner name servers.now)
look_shown name (Alias set) = look.Alias (look.owned_by name set.now)
look_shown name (Data sets) = look.Data (look.owned_by name (flat_map (λ set. set) sets.now))
look_shown name NoData = look.NoData
look_shown name NoName = look.NoName

-- the set that comes with a zone cut is its NS set
abbrev pub HasItsServers : List Record → Name → Look → Type 0
HasItsServers zone name (Cut servers) = servers.now ≡ rrset_of zone (at_owner name servers.now) type_NS
HasItsServers zone name _ = Unit {0}

-- the names at which aliases were found, the last one first
abbrev pub searched_before : List Shown → List Name
searched_before aliases = reverse (map (λ alias. alias.owner) aliases)

-- the end of a chain, with the records that it shows
abbrev pub end_shown : End → chain.End
end_shown (end.Cut name servers) = chain.Found (look.Cut (at_owner name servers.now))
end_shown (end.Data shown) = chain.Found (look.Data (records_shown shown))
end_shown end.NoData = chain.Found look.NoData
end_shown end.NoName = chain.Found look.NoName
end_shown end.Stop = chain.Stop

-- the set that comes with a referral is the NS set of the zone cut
abbrev pub AreServersOfEnd : List Record → End → Type 0
AreServersOfEnd zone (end.Cut name servers) = servers.now ≡ rrset_of zone (at_owner name servers.now) type_NS
AreServersOfEnd zone _ = Unit {0}

-- a chain of aliases with its end, with the records that they show
abbrev pub chain_shown : List Shown → End → chain.Chain
chain_shown aliases end = record { aliases = section_shown aliases; end = end_shown end }

-- what remains of a chain after these aliases, when so many more may follow and this name is looked up next; each alias
-- shows a record
pub record IsOnTheWay (zone : List Record) (name : Name) (rtype : ℕ) (aliases : List Shown) (more : ℕ) (at : Name) : Type 0 where
  pub chain : chain.chain zone name rtype ≡ chain.onto (section_shown aliases) (chain.chain_from zone more (searched_before aliases) at rtype)
  pub some : is_none_of (section_shown aliases) ≡ (length aliases == 0)

-- an answer's sections, with the records that they show
abbrev pub sections_shown : Answer → Sections
sections_shown said = record {
  rcode = said.rcode;
  aa = said.aa;
  answer = section_shown said.answer.items;
  authority = section_shown said.authority.items;
  additional = section_shown said.additional.items;
  below_cut = said.below_cut;
}

-- an answer's sections by those before the additional one
abbrev pub front_shown : List Record → Front → Sections
front_shown zone front =
    let answer = section_shown front.answer.items in
    let authority = section_shown front.authority.items in
    record {
      rcode = front.rcode;
      aa = front.aa;
      answer = answer;
      authority = authority;
      additional = additional_of zone answer authority;
      below_cut = front.below_cut;
    }

-- one set, as it stands in the zone
pub record IsStanding (shown : Shown) : Type 0 where
  pub one : length shown.sets.now ≡ 1
  pub records : records_shown shown ≡ flat_map (λ set. set) shown.sets.now

-- sets with more of them after: those that are not among them, each once, up to so many as an additional section has
abbrev pub with_more : List (List Record) → List (List Record) → List (List Record)
with_more sets more = sets ++ take (most_sets - length sets) (each_once sets more)
