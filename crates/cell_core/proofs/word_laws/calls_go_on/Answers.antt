-- Each finds its slot.
use Rattle.cell_core.proofs.GoesOn.{load_goes_on, release_goes_on, bury_goes_on, free_goes_on, probe_goes_on, prepare_goes_on, swap_goes_on, settle_goes_on, look_goes_on, raise_goes_on, note_goes_on, fade_goes_on, reset_goes_on}
use Rattle.cell_core.proofs.word_laws.calls_go_on.Goals as goal

pub returns-clause-load : goal.returns-clause-load
returns-clause-load g c = load_goes_on

pub returns-clause-release : goal.returns-clause-release
returns-clause-release g c = release_goes_on

pub returns-clause-bury : goal.returns-clause-bury
returns-clause-bury g c = bury_goes_on

pub returns-clause-free : goal.returns-clause-free
returns-clause-free g c = free_goes_on

pub returns-clause-probe : goal.returns-clause-probe
returns-clause-probe g c = probe_goes_on

pub returns-clause-prepare : goal.returns-clause-prepare
returns-clause-prepare g c = prepare_goes_on

pub returns-clause-swap : goal.returns-clause-swap
returns-clause-swap g c = swap_goes_on

pub returns-clause-settle : goal.returns-clause-settle
returns-clause-settle g c = settle_goes_on

pub returns-clause-look : goal.returns-clause-look
returns-clause-look g c = look_goes_on

pub returns-clause-raise : goal.returns-clause-raise
returns-clause-raise g c = raise_goes_on

pub returns-clause-note : goal.returns-clause-note
returns-clause-note g c = note_goes_on

pub returns-clause-fade : goal.returns-clause-fade
returns-clause-fade g c = fade_goes_on

pub returns-clause-reset : goal.returns-clause-reset
returns-clause-reset g c = reset_goes_on
