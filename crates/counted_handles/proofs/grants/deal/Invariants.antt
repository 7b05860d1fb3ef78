-- The grants that are named are those that are asked for.
use Rattle.counted_handles.proofs.grants.deal.Given as goal

abbrev pub ghosts-deal_grants : goal.ghosts-deal_grants
ghosts-deal_grants g a = record { grants = a.grants }
