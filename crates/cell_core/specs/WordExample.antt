-- Words of numbers, for worked examples.
use Rattle.std.specs.Prelude.{ℕ, [], ◌∷◌, replicate, None, Some}
use Rattle.cell_core.specs.Words.{State, begun, first_slot, free_slot, dead_word, bulk, word_of}
use Rattle.cell_core.specs.WordSteps.{with_new_owner, with_owner, with_slot, with_weak_word, with_note}
use Rattle.cell_core.specs.declared.words.Slot.{Slot}
use Rattle.cell_core.specs.declared.words.Owner.TheVariants.{Holding, Weakly, Fading, Resetting, Freeing, Spent}
use Rattle.cell_core.specs.declared.words.Publisher.TheVariants.{Probing}

-- 10 is published, and owner 0 has loaded it
abbrev pub once_loaded : State ℕ
once_loaded = with_new_owner (Holding 0 0) (record (begun 10) { latest = word_of 0 1; granted = 1 })

-- then owner 1 has it weakly
abbrev pub once_noted : State ℕ
once_noted = with_new_owner (Weakly 0 0) (with_note (with_slot 0 (with_weak_word 2 (first_slot 10)) once_loaded))

-- a slot whose version is buried, with this in K
abbrev pub dead_slot : ℕ → Slot ℕ
dead_slot weak = record { shares = dead_word; weak = weak; version = None }

-- 20 is published too, in slot 1; 10 is buried by owner 0, and owner 1 has it weakly
abbrev pub dead_once : State ℕ
dead_once =
    record {
      latest = word_of 1 0;
      table = dead_slot 2 ∷ record { shares = bulk; weak = 1; version = Some (record { number = 1; value = 20 }) } ∷ replicate 62 free_slot;
      publisher = Probing 0;
      owners = Fading 0 ∷ Weakly 0 0 ∷ [];
      granted = 1;
      noted = 1;
    }

-- then owner 0 has faded
abbrev pub faded_once : State ℕ
faded_once = with_owner 0 Spent (with_slot 0 (dead_slot 1) dead_once)

-- then owner 1, which is to reset K
abbrev pub closed_once : State ℕ
closed_once = with_owner 1 (Resetting 0) (with_slot 0 (dead_slot 0) faded_once)

-- and has reset it
abbrev pub restored_once : State ℕ
restored_once = with_owner 1 (Freeing 0) (with_slot 0 (dead_slot 1) closed_once)
