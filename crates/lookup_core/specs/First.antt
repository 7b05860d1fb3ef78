-- What a first look tells of an answer.
use Rattle.std.specs.Prelude.{◌≡◌, ℕ, true, false, List, []}
use Rattle.dns_name.specs.Name.{Name}
use Rattle.dns_rdata.specs.declared.numbers.Rcode.{Rcode}
use Rattle.dns_rdata.specs.declared.numbers.Rcode.TheVariants.{NoError, NxDomain}
use Rattle.dns_rdata.specs.Record.{Record}
use Rattle.dns_rdata.specs.Shown.{records_shown}
use Rattle.lookup_core.specs.declared.first.First.{First}
use Rattle.lookup_core.specs.declared.first.First.TheVariants.{Data, NoData, NoName, More}
use Rattle.lookup_core.specs.declared.look.Look.{Look}
use Rattle.lookup_core.specs.Look.{look}
use Rattle.lookup_core.specs.Sections.{Sections, sections}
use Rattle.lookup_core.specs.Shown.{look_shown, HasItsServers}

-- an answer of one section
abbrev pub alone : Rcode → List Record → List Record → Sections
alone rcode answer authority = record { rcode = rcode; aa = true; answer = answer; authority = authority; additional = []; below_cut = false }

-- what is found at a name
pub record IsSeen (zone : List Record) (name : Name) (rtype : ℕ) (found : Look) : Type 0 where
  pub seen : look_shown name found ≡ look zone name rtype
  pub servers : HasItsServers zone name found

-- an answer of one section, or what is found where it has more
abbrev pub IsFirst : List Record → Name → ℕ → First → Type 0
IsFirst zone name rtype (Data shown) = sections zone name rtype ≡ alone NoError (records_shown shown) []
IsFirst zone name rtype (NoData shown) = sections zone name rtype ≡ alone NoError [] (records_shown shown)
IsFirst zone name rtype (NoName shown) = sections zone name rtype ≡ alone NxDomain [] (records_shown shown)
IsFirst zone name rtype (More more) = IsSeen zone name rtype more.look
