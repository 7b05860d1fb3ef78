-- The cell is the one that is made, and so are the ledgers.
use Rattle.memory_devices.proofs.cells.play_from.Given as goal

abbrev pub ghosts-play_in-N-Naming : goal.ghosts-play_in-N-Naming
ghosts-play_in-N-Naming g a = record { cell = a.parts.cell }

abbrev pub ghosts-play_in-N-ServerName : goal.ghosts-play_in-N-ServerName
ghosts-play_in-N-ServerName g a = record { published = a.ledgers.published.name; reserved = a.ledgers.reserved.name }
