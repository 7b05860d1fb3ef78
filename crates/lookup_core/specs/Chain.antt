-- Aliases followed to their end (RFC 1034, 3.6.2 and 4.3.2, step 3a).
use Rattle.std.specs.Prelude.{ℕ, zero, suc, Bool, ◌||◌, not, List, [], ◌∷◌, ◌++◌, unwrap_or, if◌then◌else◌}
use Rattle.std.specs.List.{list_any}
use Rattle.dns_name.specs.Name.{Name, is_same, is_under}
use Rattle.dns_rdata.specs.Data.{target_of}
use Rattle.dns_rdata.specs.Record.{Record}
use Rattle.zone_tree.specs.Zone.{apex_of}
use Rattle.lookup_core.specs.declared.aliases.TheConstants.{MOST_ALIASES}
use Rattle.lookup_core.specs.Look.{Look, Cut, Alias, Data, NoData, NoName, look}

-- the end of a chain of aliases: what was found at the last name looked up, or a stop after an alias
pub data End : Type 0 where
  Found : Look → End
  Stop : End

-- a chain: its aliases in order, and its end
pub record Chain : Type 0 where
  pub aliases : List Record
  pub end : End

-- an alias before a chain
abbrev pub onto : List Record → Chain → Chain
onto aliases chain = record { aliases = aliases ++ chain.aliases; end = chain.end }

-- the name that the alias stands for; the root where its data has no name, which no zone has
abbrev pub target : List Record → Name
target [] = []
target (r ∷ rs) = unwrap_or (target_of r.rdata) []

-- a target that isn't searched: one outside the zone, or one already searched (own)
abbrev pub is_final : List Record → List Name → Name → Bool
is_final zone searched name = not (is_under name (apex_of zone)) || list_any (λ before. is_same before name) searched

-- the chain from a name on, when these names were searched before it and so many aliases may follow
abbrev pub chain_from : List Record → ℕ → List Name → Name → ℕ → Chain
chain_from zone zero searched name rtype = record { aliases = []; end = Stop }
chain_from zone (suc more) searched name rtype =
    elim (look zone name rtype) [
      | Alias alias ↦
          onto alias
          (if is_final zone (name ∷ searched) (target alias) then record { aliases = []; end = Stop }
          else chain_from zone more (name ∷ searched) (target alias) rtype)
      | Cut cut ↦ record { aliases = []; end = Found (Cut cut) }
      | Data rs ↦ record { aliases = []; end = Found (Data rs) }
      | NoData ↦ record { aliases = []; end = Found NoData }
      | NoName ↦ record { aliases = []; end = Found NoName }
    ]

-- the chain from the name asked; it stops at a target outside the zone, at one already searched, or after
-- MOST_ALIASES aliases (own)
unfoldable pub chain : List Record → Name → ℕ → Chain
chain zone name rtype = chain_from zone MOST_ALIASES [] name rtype

-- the end of a chain that goes no further than a name at which this was found: a stop at an alias
abbrev pub end_at : Look → End
end_at (Alias alias) = Stop
end_at found = Found found
