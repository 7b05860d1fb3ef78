-- The cell is the one that is made, and so are the ledgers.
use Rattle.test_replies.proofs.restarts.written_from.Given as goal

abbrev pub ghosts-written_in-N-Naming : goal.ghosts-written_in-N-Naming
ghosts-written_in-N-Naming g a = record { cell = a.parts.cell }

abbrev pub ghosts-written_in-N-ServerName : goal.ghosts-written_in-N-ServerName
ghosts-written_in-N-ServerName g a = record { published = a.ledgers.published.name; reserved = a.ledgers.reserved.name }
