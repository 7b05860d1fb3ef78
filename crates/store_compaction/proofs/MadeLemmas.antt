-- Versions that are made by updates, as a replay of these.
use Rattle.journal.specs.Batch.{Messages}
use Rattle.std.proofs.Common.{◌≡◌, ℕ, zero, suc, List, [], ◌∷◌, ◌++◌, length, drop, unwrap_or, refl, sym, ap, ◌∙◌, subst, arith}
use Rattle.dns_rdata.specs.Record.{Record}
use Rattle.dns_message.specs.declared.update.Update.{Update}
use Rattle.zone_tree.specs.Version.{Version}
use Rattle.update_core.specs.Act.{act, replay}
use Rattle.dns_engine.specs.Replayed.{EachChanges}
use Rattle.dns_engine.specs.Versions.{Makes}
use Rattle.update_batches.specs.Batch.{newest_of}
use Rattle.update_batches.specs.Journal.{AreMadeBy}
use Rattle.store_recovery.specs.Replay.{AreRead}

-- messages are read as updates that make of a zone this one, each of which changes what those before it leave
pub record Leads (zone last : List Record) (messages : List Messages) : Type 0 where
  pub updates : List Update
  pub read : AreRead messages updates
  pub taken : EachChanges zone updates
  pub same : last ≡ replay zone updates

pub made_leads : (first : Version) (versions : List Version) (messages : List Messages) → AreMadeBy first versions messages → Leads first.zone (newest_of first versions).zone messages
made_leads first [] [] are = record { updates = []; read = tt; taken = tt; same = refl }
made_leads first [] (octets ∷ messages) are = absurd are
made_leads first (version ∷ versions) [] are = absurd are
made_leads first (version ∷ versions) (octets ∷ messages) are =
    let update : Update = are.0.0 in
    let makes : Makes update first version = are.0.2 in
    let gives : unwrap_or (act first.zone update) first.zone ≡ version.zone = ap (λ o. unwrap_or o first.zone) makes.zone in
    let rest = made_leads version versions messages are.1 in
    record {
      updates = update ∷ rest.updates;
      read = (are.0.1, rest.read);
      taken = (makes.taken, λ e. makes.changed (sym gives ∙ e), subst (λ (z : List Record). EachChanges z rest.updates) (sym gives) rest.taken);
      same = rest.same ∙ ap (λ (z : List Record). replay z rest.updates) (sym gives);
    }

-- updates behind others
pub changes_both : (zone : List Record) (updates more : List Update) → EachChanges zone updates → EachChanges (replay zone updates) more → EachChanges zone (updates ++ more)
changes_both zone [] more taken behind = behind
changes_both zone (update ∷ updates) more taken behind = (taken.0, taken.1, changes_both (unwrap_or (act zone update) zone) updates more taken.2 behind)

pub replay_both : (zone : List Record) (updates more : List Update) → replay zone (updates ++ more) ≡ replay (replay zone updates) more
replay_both zone [] more = refl
replay_both zone (update ∷ updates) more = replay_both (unwrap_or (act zone update) zone) updates more

pub read_both : (messages others : List Messages) (updates more : List Update) → AreRead messages updates → AreRead others more → AreRead (messages ++ others) (updates ++ more)
read_both [] others [] more are behind = behind
read_both [] others (update ∷ updates) more are behind = absurd are
read_both (message ∷ messages) others [] more are behind = absurd are
read_both (message ∷ messages) others (update ∷ updates) more are behind = (are.0, read_both messages others updates more are.1 behind)

-- messages behind the first ones
pub read_behind : (k : ℕ) (messages : List Messages) (updates : List Update) → AreRead messages updates → AreRead (drop k messages) (drop k updates)
read_behind zero messages updates are = are
read_behind (suc k) [] [] are = tt
read_behind (suc k) [] (update ∷ updates) are = absurd are
read_behind (suc k) (message ∷ messages) [] are = absurd are
read_behind (suc k) (message ∷ messages) (update ∷ updates) are = read_behind k messages updates are.1

-- versions that are made with others behind them
pub made_first : (first : Version) (versions more : List Version) (updates others : List Messages) → length versions ≡ length updates → AreMadeBy first (versions ++ more) (updates ++ others)
    → AreMadeBy first versions updates
made_first first [] more [] others many are = tt
made_first first [] more (octets ∷ updates) others many are = absurd (omega (arith, many))
made_first first (version ∷ versions) more [] others many are = absurd (omega (arith, many))
made_first first (version ∷ versions) more (octets ∷ updates) others many are = (are.0, made_first version versions more updates others (omega (arith, many)) are.1)
