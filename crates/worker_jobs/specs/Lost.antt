-- The lost connections that the log reports (own).
use Rattle.std.specs.Prelude.{◌+◌, ◌-◌, ◌^◌, min}
use Rattle.tcp_loop.specs.declared.tally.Tally.{Tally}
use Rattle.zone_server.specs.declared.service_log.Losses.{Losses}

-- the lost ones of all that are counted: connections that failed, or had no memory or no version, or whose peers took too long or too slowly, or that got
-- no place or gave theirs up
abbrev pub lost_of : Tally → Losses
lost_of tally = record {
  failed = tally.ends.device;
  starved = min (tally.ends.spent + tally.ends.no_memory) (2 ^ 64 - 1);
  idle = tally.ends.idle;
  unfinished = tally.ends.message;
  untaken = tally.ends.reply;
  slow = tally.ends.slow;
  evicted = tally.evicted;
  turned_away = tally.turned_away;
  no_room = tally.no_room;
}

-- the losses since an earlier count, by cause
abbrev pub lost_since : Losses → Losses → Losses
lost_since before now = record {
  failed = now.failed - before.failed;
  starved = now.starved - before.starved;
  idle = now.idle - before.idle;
  unfinished = now.unfinished - before.unfinished;
  untaken = now.untaken - before.untaken;
  slow = now.slow - before.slow;
  evicted = now.evicted - before.evicted;
  turned_away = now.turned_away - before.turned_away;
  no_room = now.no_room - before.no_room;
}
