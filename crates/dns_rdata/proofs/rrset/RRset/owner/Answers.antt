use Rattle.std.proofs.Common.{◌≡◌, ◌∙◌, sym}
use Rattle.std.proofs.lemmas.List.Elements.{All-map}
use Rattle.dns_rdata.specs.Record.{Record}
use Rattle.dns_rdata.proofs.SetLemmas.{owner_of-records_with}
use Rattle.dns_rdata.proofs.rrset.RRset.owner.Goals as goal

pub returns-clause-of : goal.returns-clause-of
returns-clause-of c = rw (← c.self.view_is) (c.to_name.ensures.name ∙ sym (owner_of-records_with _ _ _ _ c.self.invariant.some))

pub returns-clause-shared : goal.returns-clause-shared
returns-clause-shared c = rw (← c.self.view_is) (All-map (λ (r : Record). r.owner ≡ c.to_name.result) _ _ (λ k d within. sym c.to_name.ensures.name))
