-- The first zone is the one that is read.
use Rattle.dnsd.proofs.serve.serve_with_store.Given as goal

abbrev pub ghosts-serve_zone : goal.ghosts-serve_zone
ghosts-serve_zone g a = record { zone = a.first.zone }
