-- The name is that of the cell that was made, and of its ledgers.
use Rattle.serve_workers.proofs.service.serve_specs.Given as goal

abbrev pub ghosts-serve_with_readers-N-Naming : goal.ghosts-serve_with_readers-N-Naming
ghosts-serve_with_readers-N-Naming g a = record { cell = a.parts.cell }

abbrev pub ghosts-serve_with_readers-N-ServerName : goal.ghosts-serve_with_readers-N-ServerName
ghosts-serve_with_readers-N-ServerName g a = record { published = a.ledgers.published.name; reserved = a.ledgers.reserved.name }
