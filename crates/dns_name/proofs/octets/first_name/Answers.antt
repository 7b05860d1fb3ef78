use Rattle.dns_name.proofs.FirstLemmas.{IsFirstName-begun}
use Rattle.dns_name.proofs.ReadLemmas.{IsBegun-from}
use Rattle.dns_name.proofs.octets.first_name.Goals as goal

pub split_at-requires : goal.split_at-requires
split_at-requires c = (IsBegun-from _ _ c.in_ok-len.ensures).within

pub returns : goal.returns
returns c = IsFirstName-begun _ _ _ _ (IsBegun-from _ _ c.in_ok-len.ensures) c.split_at.ensures.front c.split_at.ensures.back
