-- Each arm is the method for that step.
use Rattle.cell_core.proofs.WordMachineLemmas.{exactly}
use Rattle.cell_core.proofs.StepShows.{shows_as}
use Rattle.cell_core.specs.declared.words.WordStep.TheVariants.{Load, Probe, Prepare, Swap, Settle, Release, Bury, Free, Look, Raise, Note, Fade, Reset}
use Rattle.cell_core.proofs.word_machine.WordMachine.step.Goals as goal

pub returns-in-Load-clause-not_enabled : goal.returns-in-Load-clause-not_enabled
returns-in-Load-clause-not_enabled g c = rw c.in-Load.is (exactly c.args.self.now Load _ _ c.load.ensures.word c.load.ensures.not_enabled c.load.ensures.no_memory)

pub returns-in-Probe-clause-not_enabled : goal.returns-in-Probe-clause-not_enabled
returns-in-Probe-clause-not_enabled g c = rw c.in-Probe.is (exactly c.args.self.now Probe _ _ c.probe.ensures.word c.probe.ensures.not_enabled (λ e. absurd (c.probe.ensures.no_memory e)))

pub returns-in-Prepare-clause-not_enabled : goal.returns-in-Prepare-clause-not_enabled
returns-in-Prepare-clause-not_enabled g c = rw c.in-Prepare.is (exactly c.args.self.now (Prepare c.in-Prepare.value) _ _ c.prepare.ensures.word c.prepare.ensures.not_enabled (λ e. absurd (c.prepare.ensures.no_memory e)))

pub returns-in-Swap-clause-not_enabled : goal.returns-in-Swap-clause-not_enabled
returns-in-Swap-clause-not_enabled g c = rw c.in-Swap.is (exactly c.args.self.now Swap _ _ c.swap.ensures.word c.swap.ensures.not_enabled (λ e. absurd (c.swap.ensures.no_memory e)))

pub returns-in-Release-clause-not_enabled : goal.returns-in-Release-clause-not_enabled
returns-in-Release-clause-not_enabled g c = rw c.in-Release.is (exactly c.args.self.now (Release c.in-Release.owner) _ _ c.release.ensures.word c.release.ensures.not_enabled (λ e. absurd (c.release.ensures.no_memory e)))

pub returns-in-Bury-clause-not_enabled : goal.returns-in-Bury-clause-not_enabled
returns-in-Bury-clause-not_enabled g c = rw c.in-Bury.is (exactly c.args.self.now (Bury c.in-Bury.owner) _ _ c.bury.ensures.word c.bury.ensures.not_enabled (λ e. absurd (c.bury.ensures.no_memory e)))

pub returns-in-Free-clause-not_enabled : goal.returns-in-Free-clause-not_enabled
returns-in-Free-clause-not_enabled g c = rw c.in-Free.is (exactly c.args.self.now (Free c.in-Free.owner) _ _ c.free.ensures.word c.free.ensures.not_enabled (λ e. absurd (c.free.ensures.no_memory e)))

pub returns-in-Settle-clause-not_enabled : goal.returns-in-Settle-clause-not_enabled
returns-in-Settle-clause-not_enabled g c = rw c.in-Settle.is (exactly c.args.self.now Settle _ _ c.settle.ensures.word c.settle.ensures.not_enabled c.settle.ensures.no_memory)

pub returns-in-Load-clause-shows : goal.returns-in-Load-clause-shows
returns-in-Load-clause-shows g c = rw c.in-Load.is (shows_as c.args.self.now _ Load _ c.load.ensures.word)

pub returns-in-Probe-clause-shows : goal.returns-in-Probe-clause-shows
returns-in-Probe-clause-shows g c = rw c.in-Probe.is (shows_as c.args.self.now _ Probe _ c.probe.ensures.word)

pub returns-in-Prepare-clause-shows : goal.returns-in-Prepare-clause-shows
returns-in-Prepare-clause-shows g c = rw c.in-Prepare.is (shows_as c.args.self.now _ (Prepare c.in-Prepare.value) _ c.prepare.ensures.word)

pub returns-in-Swap-clause-shows : goal.returns-in-Swap-clause-shows
returns-in-Swap-clause-shows g c = rw c.in-Swap.is (shows_as c.args.self.now _ Swap _ c.swap.ensures.word)

pub returns-in-Settle-clause-shows : goal.returns-in-Settle-clause-shows
returns-in-Settle-clause-shows g c = rw c.in-Settle.is (shows_as c.args.self.now _ Settle _ c.settle.ensures.word)

pub returns-in-Release-clause-shows : goal.returns-in-Release-clause-shows
returns-in-Release-clause-shows g c = rw c.in-Release.is (shows_as c.args.self.now _ (Release c.in-Release.owner) _ c.release.ensures.word)

pub returns-in-Bury-clause-shows : goal.returns-in-Bury-clause-shows
returns-in-Bury-clause-shows g c = rw c.in-Bury.is (shows_as c.args.self.now _ (Bury c.in-Bury.owner) _ c.bury.ensures.word)

pub returns-in-Free-clause-shows : goal.returns-in-Free-clause-shows
returns-in-Free-clause-shows g c = rw c.in-Free.is (shows_as c.args.self.now _ (Free c.in-Free.owner) _ c.free.ensures.word)

pub returns-in-Look-clause-not_enabled : goal.returns-in-Look-clause-not_enabled
returns-in-Look-clause-not_enabled g c = rw c.in-Look.is (exactly c.args.self.now (Look c.in-Look.owner) _ _ c.look.ensures.word c.look.ensures.not_enabled (λ e. absurd (c.look.ensures.no_memory e)))

pub returns-in-Raise-clause-not_enabled : goal.returns-in-Raise-clause-not_enabled
returns-in-Raise-clause-not_enabled g c = rw c.in-Raise.is (exactly c.args.self.now (Raise c.in-Raise.owner) _ _ c.raise.ensures.word c.raise.ensures.not_enabled c.raise.ensures.no_memory)

pub returns-in-Note-clause-not_enabled : goal.returns-in-Note-clause-not_enabled
returns-in-Note-clause-not_enabled g c = rw c.in-Note.is (exactly c.args.self.now (Note c.in-Note.owner) _ _ c.note.ensures.word c.note.ensures.not_enabled c.note.ensures.no_memory)

pub returns-in-Fade-clause-not_enabled : goal.returns-in-Fade-clause-not_enabled
returns-in-Fade-clause-not_enabled g c = rw c.in-Fade.is (exactly c.args.self.now (Fade c.in-Fade.owner) _ _ c.fade.ensures.word c.fade.ensures.not_enabled (λ e. absurd (c.fade.ensures.no_memory e)))

pub returns-in-Reset-clause-not_enabled : goal.returns-in-Reset-clause-not_enabled
returns-in-Reset-clause-not_enabled g c = rw c.in-Reset.is (exactly c.args.self.now (Reset c.in-Reset.owner) _ _ c.reset.ensures.word c.reset.ensures.not_enabled (λ e. absurd (c.reset.ensures.no_memory e)))

pub returns-in-Look-clause-shows : goal.returns-in-Look-clause-shows
returns-in-Look-clause-shows g c = rw c.in-Look.is (shows_as c.args.self.now _ (Look c.in-Look.owner) _ c.look.ensures.word)

pub returns-in-Raise-clause-shows : goal.returns-in-Raise-clause-shows
returns-in-Raise-clause-shows g c = rw c.in-Raise.is (shows_as c.args.self.now _ (Raise c.in-Raise.owner) _ c.raise.ensures.word)

pub returns-in-Note-clause-shows : goal.returns-in-Note-clause-shows
returns-in-Note-clause-shows g c = rw c.in-Note.is (shows_as c.args.self.now _ (Note c.in-Note.owner) _ c.note.ensures.word)

pub returns-in-Fade-clause-shows : goal.returns-in-Fade-clause-shows
returns-in-Fade-clause-shows g c = rw c.in-Fade.is (shows_as c.args.self.now _ (Fade c.in-Fade.owner) _ c.fade.ensures.word)

pub returns-in-Reset-clause-shows : goal.returns-in-Reset-clause-shows
returns-in-Reset-clause-shows g c = rw c.in-Reset.is (shows_as c.args.self.now _ (Reset c.in-Reset.owner) _ c.reset.ensures.word)
