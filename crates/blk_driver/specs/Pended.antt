-- What is kept of a request that is placed.
use Rattle.std.specs.Prelude.{ℕ, ◌+◌, length, if◌then◌else◌}
use Rattle.vd_model.specs.RingTurns.{part_wants}
use Rattle.blk_driver.specs.Asked.{asked_in, wants_of, written_len}
use Rattle.blk_driver.specs.declared.ask.Draft.{Draft}
use Rattle.blk_driver.specs.declared.pending.Pending.{Pending}

-- its chain, its buffers, its mappings, and how many bytes its device may write
abbrev pub pending_for : Draft → ℕ → ℕ → Pending
pending_for d head first = record {
  head = head;
  buffer = d.buffer;
  buffers = (if d.indirect then 2 else 1);
  first_map = first;
  end_map = first + length (wants_of d);
  writable = written_len (part_wants d.buffer (asked_in d.ask));
}
