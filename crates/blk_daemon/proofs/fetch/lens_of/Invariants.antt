use Rattle.std.proofs.Common.{◌≡◌, ◌≤◌, take}
use Rattle.vd_model.specs.Trace.{readable_len, writable_len}
use Rattle.blk_daemon.proofs.fetch.lens_of.Given as goal

abbrev pub invariant-loop-part : goal.invariant-loop-part
invariant-loop-part l = record {
  readable : l.readable ≡ readable_len (take l.part-index l.parts);
  writable : l.writable ≡ writable_len (take l.part-index l.parts);
  short_read : l.readable ≤ 16777216;
  short_write : l.writable ≤ 16777216;
}
