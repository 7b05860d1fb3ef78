-- What requests for transfers get.
use Rattle.std.specs.Prelude.{ℕ, List, [], ◌∷◌, codes}
use Rattle.counters.specs.declared.transfer.Transfer.{Transfer}
use Rattle.counters.specs.declared.transfer.Transfer.TheVariants.{Axfr, AxfrRefused, Ixfr, IxfrFull, IxfrCurrent, IxfrRefused}

-- all, in the order of their places
abbrev pub all_transfers : List Transfer
all_transfers = Axfr ∷ (AxfrRefused ∷ (Ixfr ∷ (IxfrFull ∷ (IxfrCurrent ∷ (IxfrRefused ∷ [])))))

-- the place of each
abbrev pub transfer_index : Transfer → ℕ
transfer_index Axfr = 0
transfer_index AxfrRefused = 1
transfer_index Ixfr = 2
transfer_index IxfrFull = 3
transfer_index IxfrCurrent = 4
transfer_index IxfrRefused = 5

-- the word of what is asked for in a label
abbrev pub transfer_word : Transfer → List ℕ
transfer_word Axfr = codes "AXFR"
transfer_word AxfrRefused = codes "AXFR"
transfer_word Ixfr = codes "IXFR"
transfer_word IxfrFull = codes "IXFR"
transfer_word IxfrCurrent = codes "IXFR"
transfer_word IxfrRefused = codes "IXFR"

-- the word of what was sent in a label
abbrev pub sent_word : Transfer → List ℕ
sent_word Axfr = codes "full"
sent_word AxfrRefused = codes "refused"
sent_word Ixfr = codes "incremental"
sent_word IxfrFull = codes "full"
sent_word IxfrCurrent = codes "current"
sent_word IxfrRefused = codes "refused"
