-- The cell is the one that is served, and so are the ledgers.
use Rattle.test_threads.proofs.gates.serve_from.Given as goal

abbrev pub ghosts-serve_in-N-Naming : goal.ghosts-serve_in-N-Naming
ghosts-serve_in-N-Naming g a = record { cell = a.parts.cell }

abbrev pub ghosts-serve_in-N-ServerName : goal.ghosts-serve_in-N-ServerName
ghosts-serve_in-N-ServerName g a = record { published = a.ledgers.published.name; reserved = a.ledgers.reserved.name }
