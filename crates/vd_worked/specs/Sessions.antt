-- Worked sessions: each script line and its reply, as the definitions compute them.
use Rattle.std.specs.Prelude.{◌≡◌, [], ◌∷◌, codes}
use Rattle.vd_worked.specs.Replies.{replies_to, replies_failing, setting}

abbrev pub BouncedWrite : Type 0
BouncedWrite = replies_to (setting 16384 32768 1 2048)
    (codes "dev v" ∷ codes "buf v 616263" ∷ codes "map v 0 0 3 both" ∷ codes "store v 0x3fff000 78797a" ∷ codes "peek v 0 0 3" ∷ codes "unmap v 0" ∷ codes "peek v 0 0 3" ∷ [])
    ≡ (codes "ok session 0" ∷ codes "ok 0" ∷ codes "ok 0 iova 0x3fff000" ∷ codes "ok" ∷ codes "ok 616263" ∷ codes "ok" ∷ codes "ok 78797a" ∷ [])

abbrev pub BusAndCoherent : Type 0
BusAndCoherent = replies_to (setting 16384 32768 1 2048)
    (codes "dev v" ∷ codes "buf v 616263" ∷ codes "map v 0 0 3 to" ∷ codes "load v 0x3ffffff 2" ∷ codes "store v 0x3ffefff 6161" ∷ codes "coherent v 1" ∷ codes "load v 0x7fff000 2" ∷ codes "cput v 0 1 7a" ∷ codes "load v 0x7fff000 2" ∷ codes "freecoherent v 0" ∷ codes "load v 0x7fff000 2" ∷ [])
    ≡ (codes "ok session 0" ∷ codes "ok 0" ∷ codes "ok 0 iova 0x3fff000" ∷ codes "bus 0x4000000" ∷ codes "bus 0x3ffefff" ∷ codes "ok 0 iova 0x7fff000" ∷ codes "ok 0000" ∷ codes "ok" ∷ codes "ok 007a" ∷ codes "ok" ∷ codes "bus 0x7fff000" ∷ [])

abbrev pub ControlNode : Type 0
ControlNode = replies_to (setting 16384 32768 1 2048)
    (codes "version" ∷ codes "setversion 1" ∷ codes "create c 0 2 0x200 1 4096 -" ∷ codes "create c 0 2 0x200000800 1 4096 -" ∷ codes "create c 0 1 0x200000000 1 4096 -" ∷ codes "create c 0 2 0x200000000 0 4096 -" ∷ codes "create c 0 2 0x200000000 65 4096 -" ∷ codes "create c 0 2 0x200000000 1 4097 -" ∷ codes "create c 0 2 0x200000000 1 4096 0011" ∷ codes "create c 0 2 0x200000000 1 4096 0011" ∷ codes "attach c" ∷ codes "load c 0 1" ∷ codes "open c" ∷ codes "open c" ∷ codes "destroy c" ∷ codes "vqsetup c 0 8" ∷ codes "vqsetup c 1 8" ∷ codes "attach c" ∷ codes "attach c" ∷ codes "getconfig c 1 1" ∷ codes "getconfig c 1 2" ∷ codes "kick x 0" ∷ codes "control 2 000000000000000000000000000000000000000000000000000000000000000000000000000000000000000000000000000000000000000000000000000000000000000000000000000000000000000000000000000000000000000000000000000000000000000000000000000000000000000000000000000000000000000000000000000000000000000000000000000000000000000000000000000000000000000000000000000000000000000000000000000000000000000000000000000000000000000000000000000000000000000000000000000000000000000000000000000000000000000000000000000000000000000000000000000000000000000002000000000000000200000001000000001000000100000000000000000000000000000000000000000000000000000000000000000000000000000000000000000000000000000000000000" ∷ codes "control 3 00000000000000000000000000000000000000000000000000000000000000000000000000000000000000000000000000000000000000000000000000000000000000000000000000000000000000000000000000000000000000000000000000000000000000000000000000000000000000000000000000000000000000000000000000000000000000000000000000000000000000000000000000000000000000000000000000000000000000000000000000000000000000000000000000000000000000000000000000000000000000000000000000000000000000000000000000000000000000000000000000000000000000000000000000000000" ∷ [])
    ≡ (codes "ok 0" ∷ codes "err 22" ∷ codes "err 22" ∷ codes "err 22" ∷ codes "err 22" ∷ codes "err 22" ∷ codes "err 22" ∷ codes "err 22" ∷ codes "ok" ∷ codes "err 17" ∷ codes "err 22" ∷ codes "err 9" ∷ codes "ok session 0" ∷ codes "err 16" ∷ codes "err 16" ∷ codes "ok" ∷ codes "err 22" ∷ codes "ok" ∷ codes "err 17" ∷ codes "ok 11" ∷ codes "err 22" ∷ codes "err 19" ∷ codes "err 22" ∷ codes "err 19" ∷ [])

abbrev pub DriverRing : Type 0
DriverRing = replies_to (setting 16384 32768 1 2048)
    (codes "dev v" ∷ codes "ring v 0 4" ∷ codes "poll v 0" ∷ codes "add v 0 r:0x3fff000:16" ∷ codes "publish v 0" ∷ codes "store v 0x7fff050 000001000900000000000000" ∷ codes "poll v 0" ∷ codes "store v 0x7fff052 0300" ∷ codes "poll v 0" ∷ codes "store v 0x7fff052 01000000000005000000" ∷ codes "poll v 0" ∷ [])
    ≡ (codes "ok session 0" ∷ codes "ok 0 desc 0x7fff000 driver 0x7fff040 device 0x7fff050" ∷ codes "err 11" ∷ codes "ok head 0" ∷ codes "ok idx 1 kick 1" ∷ codes "ok" ∷ codes "used bad 9" ∷ codes "ok" ∷ codes "used ahead 3 1" ∷ codes "ok" ∷ codes "ok head 0 len 5" ∷ [])

abbrev pub EmptyInput : Type 0
EmptyInput = replies_to (setting 16384 32768 1 2048)
    []
    ≡ []

abbrev pub FirstLoadTwoDevices : Type 0
FirstLoadTwoDevices = replies_to (setting 16384 32768 1 2048)
    (codes "dev v" ∷ codes "buf v 616263" ∷ codes "map v 0 0 3 to" ∷ codes "load v 0x3fff000 3" ∷ codes "dev w" ∷ codes "zeros w 4097" ∷ codes "map w 0 0 4097 to" ∷ [])
    ≡ (codes "ok session 0" ∷ codes "ok 0" ∷ codes "ok 0 iova 0x3fff000" ∷ codes "ok 616263" ∷ codes "ok session 0" ∷ codes "ok 0" ∷ codes "ok 0 iova 0x3ffe000" ∷ [])

abbrev pub FirstLoad : Type 0
FirstLoad = replies_to (setting 16384 32768 1 2048)
    (codes "dev v" ∷ codes "buf v 616263" ∷ codes "map v 0 0 3 to" ∷ codes "load v 0x3fff000 3" ∷ [])
    ≡ (codes "ok session 0" ∷ codes "ok 0" ∷ codes "ok 0 iova 0x3fff000" ∷ codes "ok 616263" ∷ [])

abbrev pub FramesBetweenDevices : Type 0
FramesBetweenDevices = replies_to (setting 16384 32768 1 2048)
    (codes "dev a" ∷ codes "buf a 736563" ∷ codes "map a 0 0 3 to" ∷ codes "detach a" ∷ codes "unmap a 0" ∷ codes "close a" ∷ codes "detach a" ∷ codes "destroy a" ∷ codes "dev b" ∷ codes "zeros b 3" ∷ codes "map b 0 0 3 from" ∷ codes "load b 0x3fff000 3" ∷ [])
    ≡ (codes "ok session 0" ∷ codes "ok 0" ∷ codes "ok 0 iova 0x3fff000" ∷ codes "err 16" ∷ codes "ok" ∷ codes "ok" ∷ codes "ok" ∷ codes "ok" ∷ codes "ok session 0" ∷ codes "ok 0" ∷ codes "ok 0 iova 0x3fff000" ∷ codes "ok 000000" ∷ [])

abbrev pub FullBounce : Type 0
FullBounce = replies_to (setting 2 32768 1 2048)
    (codes "dev v" ∷ codes "buf v 61" ∷ codes "map v 0 0 1 to" ∷ codes "map v 0 0 1 to" ∷ codes "unmap v 0" ∷ codes "map v 0 0 1 to" ∷ [])
    ≡ (codes "ok session 0" ∷ codes "ok 0" ∷ codes "ok 0 iova 0x1000" ∷ codes "err 28" ∷ codes "ok" ∷ codes "ok 1 iova 0x1000" ∷ [])

abbrev pub HeldBySession : Type 0
HeldBySession = replies_to (setting 16384 32768 1 2048)
    (codes "dev v" ∷ codes "setstatus v 1" ∷ codes "recv v" ∷ codes "close v" ∷ codes "open v" ∷ codes "answer v 0 0 0" ∷ codes "recv v" ∷ codes "answer v 0 0 0" ∷ codes "take v 0" ∷ codes "getstatus v" ∷ codes "take v 0" ∷ [])
    ≡ (codes "ok session 0" ∷ codes "ok id 0" ∷ codes "ok id 0 status 1" ∷ codes "ok" ∷ codes "ok session 1" ∷ codes "err 2" ∷ codes "ok id 0 status 1" ∷ codes "ok" ∷ codes "ok" ∷ codes "ok 1" ∷ codes "err 2" ∷ [])

abbrev pub IoctlFeatures : Type 0
IoctlFeatures = replies_to (setting 16384 32768 1 2048)
    (codes "dev v" ∷ codes "ioctl v 0x11 -" ∷ codes "setfeatures v 0x330000200" ∷ codes "ioctl v 0x11 -" ∷ [])
    ≡ (codes "ok session 0" ∷ codes "ok 0000000000000000" ∷ codes "ok" ∷ codes "ok 0002003003000000" ∷ [])

abbrev pub IoctlRefusals : Type 0
IoctlRefusals = replies_to (setting 16384 32768 1 2048)
    (codes "dev v" ∷ codes "ioctl v 0x14 0000000008000000000000000000000000000000000000000000000000000000" ∷ codes "vqinfo v 0" ∷ codes "ioctl v 0x14 00000000000000000000000000000000000000000000000000000000000000" ∷ codes "ioctl v 0x20 -" ∷ codes "ioctl v 0x17 01000000" ∷ [])
    ≡ (codes "ok session 0" ∷ codes "ok" ∷ codes "ok num 0 desc 0x0 driver 0x0 device 0x0 avail 0 ready 0" ∷ codes "err 22" ∷ codes "err 22" ∷ codes "err 22" ∷ [])

abbrev pub Kicks : Type 0
Kicks = replies_to (setting 16384 32768 1 2048)
    (codes "dev v" ∷ codes "kick v 0" ∷ codes "vqready v 0 1" ∷ codes "kick v 0" ∷ codes "kick v 0" ∷ codes "kicks v 0" ∷ codes "kickfd v 0 1" ∷ codes "kicks v 0" ∷ codes "kicks v 0" ∷ codes "irq v 0" ∷ codes "irq v 1" ∷ codes "getvqstate v 0" ∷ codes "recv v" ∷ codes "answer v 0 0 7" ∷ codes "take v 0" ∷ [])
    ≡ (codes "ok session 0" ∷ codes "ok" ∷ codes "ok" ∷ codes "ok" ∷ codes "ok" ∷ codes "err 2" ∷ codes "ok" ∷ codes "ok 1" ∷ codes "ok 0" ∷ codes "err 22" ∷ codes "err 22" ∷ codes "ok id 0" ∷ codes "ok id 0 vqstate 0" ∷ codes "ok" ∷ codes "ok avail 7" ∷ [])

abbrev pub LargePage : Type 0
LargePage = replies_to (setting 32 32768 16 2048)
    (codes "dev v" ∷ codes "buf v 6162" ∷ codes "load v 0x1f000 1" ∷ codes "map v 0 0 2 to" ∷ codes "map v 0 0 2 to" ∷ codes "load v 0x10000 1" ∷ codes "load v 0xffff 1" ∷ codes "load v 0x1ffff 2" ∷ codes "area v 262144" ∷ codes "regumem v 0x10001000 0 131072" ∷ codes "regumem v 0x10000000 0 131072" ∷ codes "areaget v 122880 2" ∷ codes "unmap v 0" ∷ codes "deregumem v 0 131072" ∷ codes "load v 0x1f000 2" ∷ codes "unmap v 1" ∷ codes "regumem v 0x10000000 0 131072" ∷ codes "deregumem v 0 131072" ∷ codes "load v 0x1f000 1" ∷ [])
    ≡ (codes "ok session 0" ∷ codes "ok 0" ∷ codes "bus 0x1f000" ∷ codes "ok 0 iova 0x1f000" ∷ codes "ok 1 iova 0x1e000" ∷ codes "ok 00" ∷ codes "bus 0xffff" ∷ codes "bus 0x20000" ∷ codes "ok base 0x10000000" ∷ codes "err 22" ∷ codes "ok" ∷ codes "ok 6162" ∷ codes "ok" ∷ codes "ok" ∷ codes "ok 6162" ∷ codes "ok" ∷ codes "ok" ∷ codes "ok" ∷ codes "bus 0x1f000" ∷ [])

abbrev pub LookupAndReset : Type 0
LookupAndReset = replies_to (setting 16384 32768 1 2048)
    (codes "dev v" ∷ codes "lookup v 0 0xffffffffffffffff" ∷ codes "buf v 616263" ∷ codes "map v 0 0 3 to" ∷ codes "lookup v 0 0xffffffffffffffff" ∷ codes "iovainfo v 5 5" ∷ codes "lookup v 2 1" ∷ codes "reset v" ∷ codes "recv v" ∷ codes "answer v 0 0 0" ∷ codes "take v 0" ∷ codes "lookup v 0 0xffffffffffffffff" ∷ codes "load v 0x3fff000 3" ∷ [])
    ≡ (codes "ok session 0" ∷ codes "err 22" ∷ codes "ok 0" ∷ codes "ok 0 iova 0x3fff000" ∷ codes "ok offset 0x0 start 0x0 last 0x3ffffff perm 3" ∷ codes "ok start 0x0 last 0x3ffffff capability 1" ∷ codes "err 22" ∷ codes "ok id 0" ∷ codes "ok id 0 status 0" ∷ codes "ok" ∷ codes "ok" ∷ codes "err 22" ∷ codes "ok 616263" ∷ [])

abbrev pub MapRefusals : Type 0
MapRefusals = replies_to (setting 16384 32768 1 2048)
    (codes "dev v" ∷ codes "buf v 61" ∷ codes "map v 0 0 0 to" ∷ codes "map v 0 1 1 to" ∷ codes "map v 9 0 1 to" ∷ codes "unmap v 0" ∷ codes "map v 0 0 1 to" ∷ codes "syncdev v 0" ∷ codes "synccpu v 0" ∷ codes "unmap v 0" ∷ codes "unmap v 0" ∷ [])
    ≡ (codes "ok session 0" ∷ codes "ok 0" ∷ codes "err 22" ∷ codes "err 22" ∷ codes "err 2" ∷ codes "err 2" ∷ codes "ok 0 iova 0x3fff000" ∷ codes "ok" ∷ codes "err 22" ∷ codes "ok" ∷ codes "err 2" ∷ [])

abbrev pub OldBytesShow : Type 0
OldBytesShow = replies_to (setting 16384 32768 1 2048)
    (codes "dev v" ∷ codes "buf v 736563" ∷ codes "map v 0 0 3 to" ∷ codes "unmap v 0" ∷ codes "buf v 000000" ∷ codes "map v 1 0 3 from" ∷ codes "load v 0x3fff000 3" ∷ codes "unmap v 1" ∷ codes "peek v 1 0 3" ∷ [])
    ≡ (codes "ok session 0" ∷ codes "ok 0" ∷ codes "ok 0 iova 0x3fff000" ∷ codes "ok" ∷ codes "ok 1" ∷ codes "ok 1 iova 0x3fff000" ∷ codes "ok 736563" ∷ codes "ok" ∷ codes "ok 736563" ∷ [])

abbrev pub PlacementLarge : Type 0
PlacementLarge = replies_to (setting 16384 32768 1 2048)
    (codes "dev w" ∷ codes "zeros w 33554433" ∷ codes "map w 0 0 33554433 from" ∷ codes "map w 0 0 33554432 from" ∷ [])
    ≡ (codes "ok session 0" ∷ codes "ok 0" ∷ codes "err 28" ∷ codes "ok 0 iova 0x2000000" ∷ [])

abbrev pub Placement : Type 0
Placement = replies_to (setting 16384 32768 1 2048)
    (codes "dev v" ∷ codes "buf v 61" ∷ codes "map v 0 0 1 to" ∷ codes "map v 0 0 1 to" ∷ codes "zeros v 12288" ∷ codes "map v 1 0 12288 from" ∷ [])
    ≡ (codes "ok session 0" ∷ codes "ok 0" ∷ codes "ok 0 iova 0x3fff000" ∷ codes "ok 1 iova 0x3ffe000" ∷ codes "ok 1" ∷ codes "ok 2 iova 0x3ff8000" ∷ [])

abbrev pub RawMessages : Type 0
RawMessages = replies_to (setting 16384 32768 1 2048)
    (codes "dev v" ∷ codes "setstatus v 1" ∷ codes "read v 151" ∷ codes "read v 152" ∷ codes "write v 0000000000000000000000000000000000000000000000000000000000000000000000000000000000000000000000000000000000000000000000000000000000000000000000000000000000000000000000000000000000000000000000000000000000000000000000000000000000000000000000000000000000000000000000000000000000000000000000000000000000000000" ∷ codes "take v 0" ∷ codes "write v 00000000000000000000000000000000000000000000000000000000000000000000000000000000000000000000000000000000000000000000000000000000000000000000000000000000000000000000000000000000000000000000000000000000000000000000000000000000000000000000000000000000000000000000000000000000000000000000000000000000000000" ∷ [])
    ≡ (codes "ok session 0" ∷ codes "ok id 0" ∷ codes "err 22" ∷ codes "ok 0100000000000000000000000000000000000000000000000100000000000000000000000000000000000000000000000000000000000000000000000000000000000000000000000000000000000000000000000000000000000000000000000000000000000000000000000000000000000000000000000000000000000000000000000000000000000000000000000000000000000000" ∷ codes "ok 152" ∷ codes "ok" ∷ codes "err 22" ∷ [])

abbrev pub AreaRegistration : Type 0
AreaRegistration = replies_to (setting 4 32768 1 2048)
    (codes "dev v" ∷ codes "buf v 616263" ∷ codes "map v 0 0 3 to" ∷ codes "area v 16384" ∷ codes "areaput v 4096 7a" ∷ codes "regumem v 0x10000000 0 12288" ∷ codes "regumem v 0x10000000 0 16384" ∷ codes "load v 0x3000 3" ∷ codes "load v 0x1000 1" ∷ codes "areaget v 12288 3" ∷ codes "area v 4096" ∷ codes "regumem v 0x10000000 0 16384" ∷ codes "deregumem v 0 4096" ∷ codes "deregumem v 0 16384" ∷ codes "load v 0x1000 1" ∷ codes "load v 0x3000 3" ∷ codes "deregumem v 0 16384" ∷ [])
    ≡ (codes "ok session 0" ∷ codes "ok 0" ∷ codes "ok 0 iova 0x3000" ∷ codes "ok base 0x10000000" ∷ codes "ok" ∷ codes "err 22" ∷ codes "ok" ∷ codes "ok 616263" ∷ codes "ok 7a" ∷ codes "ok 616263" ∷ codes "err 16" ∷ codes "err 17" ∷ codes "err 22" ∷ codes "ok" ∷ codes "bus 0x1000" ∷ codes "ok 616263" ∷ codes "err 2" ∷ [])

abbrev pub Requeue : Type 0
Requeue = replies_to (setting 16384 32768 1 2048)
    (codes "dev v" ∷ codes "setstatus v 1" ∷ codes "setstatus v 1" ∷ codes "setstatus v 1" ∷ codes "recv v" ∷ codes "recv v" ∷ codes "close v" ∷ codes "open v" ∷ codes "recv v" ∷ codes "recv v" ∷ codes "recv v" ∷ codes "recv v" ∷ codes "answer v 0 1 0" ∷ codes "answer v 0 0 0" ∷ codes "take v 0" ∷ codes "getstatus v" ∷ [])
    ≡ (codes "ok session 0" ∷ codes "ok id 0" ∷ codes "ok id 1" ∷ codes "ok id 2" ∷ codes "ok id 0 status 1" ∷ codes "ok id 1 status 1" ∷ codes "ok" ∷ codes "ok session 1" ∷ codes "ok id 0 status 1" ∷ codes "ok id 1 status 1" ∷ codes "ok id 2 status 1" ∷ codes "err 11" ∷ codes "ok" ∷ codes "err 2" ∷ codes "failed reply 1" ∷ codes "ok 0" ∷ [])

abbrev pub ShortTail : Type 0
ShortTail = replies_to (setting 16384 32768 1 2048)
    (codes "dev v" ∷ codes "buf v 6162636465" ∷ codes "map v 0 0 5 to" ∷ codes "load v 0x3fff003 5" ∷ [])
    ≡ (codes "ok session 0" ∷ codes "ok 0" ∷ codes "ok 0 iova 0x3fff000" ∷ codes "ok 6465000000" ∷ [])

abbrev pub TimeoutNone : Type 0
TimeoutNone = replies_to (setting 16384 32768 1 2048)
    (codes "dev v" ∷ codes "timeout v 0" ∷ codes "setstatus v 1" ∷ codes "setstatus v 3" ∷ codes "tick 29" ∷ codes "tick 1" ∷ codes "take v 0" ∷ codes "take v 1" ∷ [])
    ≡ (codes "ok session 0" ∷ codes "ok" ∷ codes "ok id 0" ∷ codes "ok id 1" ∷ codes "ok 29" ∷ codes "ok 30" ∷ codes "pending" ∷ codes "pending" ∷ [])

abbrev pub Timeout : Type 0
Timeout = replies_to (setting 16384 32768 1 2048)
    (codes "dev v" ∷ codes "setstatus v 1" ∷ codes "setstatus v 3" ∷ codes "tick 29" ∷ codes "take v 0" ∷ codes "tick 1" ∷ codes "take v 0" ∷ codes "take v 1" ∷ codes "setstatus v 7" ∷ codes "recv v" ∷ [])
    ≡ (codes "ok session 0" ∷ codes "ok id 0" ∷ codes "ok id 1" ∷ codes "ok 29" ∷ codes "pending" ∷ codes "ok 30" ∷ codes "failed timeout 30 30" ∷ codes "failed timeout 30 30" ∷ codes "err 5" ∷ codes "err 11" ∷ [])

abbrev pub WalkFaults : Type 0
WalkFaults = replies_to (setting 16384 32768 1 2048)
    (codes "dev v" ∷ codes "ring v 0 4" ∷ codes "vqnum v 0 4" ∷ codes "vqaddr v 0 0x7fff000 0x7fff040 0x7fff050" ∷ codes "cput v 0 0 00f0ff03000000001000000001000000" ∷ codes "walk v 0 0" ∷ codes "walk v 0 4" ∷ codes "cput v 0 0 00f0ff03000000001000000001000400" ∷ codes "walk v 0 0" ∷ codes "cput v 0 0 00f0ff03000000001800000004000000" ∷ codes "walk v 0 0" ∷ codes "cput v 0 0 00f0ff03000000001000000003000100" ∷ codes "walk v 0 0" ∷ codes "cput v 0 0 00f0ff03000000001000000000000000" ∷ codes "walk v 0 0" ∷ [])
    ≡ (codes "ok session 0" ∷ codes "ok 0 desc 0x7fff000 driver 0x7fff040 device 0x7fff050" ∷ codes "ok" ∷ codes "ok" ∷ codes "ok" ∷ codes "chain loop 0 0" ∷ codes "chain head 0 4" ∷ codes "ok" ∷ codes "chain next 0 0" ∷ codes "ok" ∷ codes "chain shape 0 0" ∷ codes "ok" ∷ codes "chain order 0 1" ∷ codes "ok" ∷ codes "ok parts 1 readable 16 writable 0" ∷ [])

abbrev pub HostileAbsentPage : Type 0
HostileAbsentPage = replies_to (setting 16384 32768 1 2048)
    (codes "dev v" ∷ codes "ring v 0 4" ∷ codes "vqnum v 0 4" ∷ codes "vqaddr v 0 0x7fff000 0x7fff040 0x7fff050" ∷ codes "vqready v 0 1" ∷ codes "add v 0 r:0x1000:16 w:0x3fff000:1" ∷ codes "publish v 0" ∷ codes "fetch v 0" ∷ codes "fetch v 0" ∷ [])
    ≡ (codes "ok session 0" ∷ codes "ok 0 desc 0x7fff000 driver 0x7fff040 device 0x7fff050" ∷ codes "ok" ∷ codes "ok" ∷ codes "ok" ∷ codes "ok head 0" ∷ codes "ok idx 1 kick 1" ∷ codes "bus 0x1000" ∷ codes "bus 0x1000" ∷ [])

abbrev pub HostileAddressPastTheEnd : Type 0
HostileAddressPastTheEnd = replies_to (setting 16384 32768 1 2048)
    (codes "dev v" ∷ codes "ring v 0 4" ∷ codes "vqnum v 0 4" ∷ codes "vqaddr v 0 0x7fff000 0x7fff040 0x7fff050" ∷ codes "vqready v 0 1" ∷ codes "vqaddr v 0 0x7fff000 0xfffffffffffffffe 0x7fff050" ∷ codes "fetch v 0" ∷ [])
    ≡ (codes "ok session 0" ∷ codes "ok 0 desc 0x7fff000 driver 0x7fff040 device 0x7fff050" ∷ codes "ok" ∷ codes "ok" ∷ codes "ok" ∷ codes "ok" ∷ codes "bus 0x0" ∷ [])

abbrev pub HostileIndexTooFar : Type 0
HostileIndexTooFar = replies_to (setting 16384 32768 1 2048)
    (codes "dev v" ∷ codes "ring v 0 4" ∷ codes "vqnum v 0 4" ∷ codes "vqaddr v 0 0x7fff000 0x7fff040 0x7fff050" ∷ codes "vqready v 0 1" ∷ codes "cput v 0 66 0500" ∷ codes "fetch v 0" ∷ codes "cput v 0 66 0000" ∷ codes "fetch v 0" ∷ [])
    ≡ (codes "ok session 0" ∷ codes "ok 0 desc 0x7fff000 driver 0x7fff040 device 0x7fff050" ∷ codes "ok" ∷ codes "ok" ∷ codes "ok" ∷ codes "ok" ∷ codes "ahead 5 0" ∷ codes "ok" ∷ codes "err 11" ∷ [])

abbrev pub HostileNoRequest : Type 0
HostileNoRequest = replies_to (setting 16384 32768 1 2048)
    (codes "dev v" ∷ codes "ring v 0 4" ∷ codes "vqnum v 0 4" ∷ codes "vqaddr v 0 0x7fff000 0x7fff040 0x7fff050" ∷ codes "vqready v 0 1" ∷ codes "add v 0 r:0x3fff000:16" ∷ codes "publish v 0" ∷ codes "fetch v 0" ∷ [])
    ≡ (codes "ok session 0" ∷ codes "ok 0 desc 0x7fff000 driver 0x7fff040 device 0x7fff050" ∷ codes "ok" ∷ codes "ok" ∷ codes "ok" ∷ codes "ok head 0" ∷ codes "ok idx 1 kick 1" ∷ codes "shape 16 0" ∷ [])

abbrev pub HostileRingNowhere : Type 0
HostileRingNowhere = replies_to (setting 16384 32768 1 2048)
    (codes "dev v" ∷ codes "ring v 0 4" ∷ codes "vqnum v 0 4" ∷ codes "vqaddr v 0 0x7fff000 0x7fff040 0x7fff050" ∷ codes "vqready v 0 1" ∷ codes "vqaddr v 0 0 0 0" ∷ codes "fetch v 0" ∷ [])
    ≡ (codes "ok session 0" ∷ codes "ok 0 desc 0x7fff000 driver 0x7fff040 device 0x7fff050" ∷ codes "ok" ∷ codes "ok" ∷ codes "ok" ∷ codes "ok" ∷ codes "bus 0x2" ∷ [])

abbrev pub DaemonLoss : Type 0
DaemonLoss = replies_to (setting 16384 32768 1 64)
    (codes "create vda 0 2 0x330000200 1 4096 400000000000000000000000000000000000000000000000000000000000000000000000" ∷ codes "open vda" ∷ codes "vqsetup vda 0 256" ∷ codes "attach vda" ∷ codes "image vda 0 64" ∷ codes "setstatus vda 1" ∷ codes "recv vda" ∷ codes "answer vda 0 0 0" ∷ codes "take vda 0" ∷ codes "setstatus vda 3" ∷ codes "recv vda" ∷ codes "answer vda 1 0 0" ∷ codes "take vda 1" ∷ codes "setfeatures vda 0x330000200" ∷ codes "setstatus vda 11" ∷ codes "recv vda" ∷ codes "answer vda 2 0 0" ∷ codes "take vda 2" ∷ codes "ring vda 0 256" ∷ codes "vqnum vda 0 256" ∷ codes "vqaddr vda 0 0x7ffe000 0x7fff000 0x7fff208" ∷ codes "callback vda 0 1" ∷ codes "kickfd vda 0 1" ∷ codes "vqready vda 0 1" ∷ codes "setstatus vda 15" ∷ codes "recv vda" ∷ codes "answer vda 3 0 0" ∷ codes "take vda 3" ∷ codes "zeros vda 4096" ∷ codes "poke vda 0 0 6162" ∷ codes "submit vda 0 write 8 0 0 4096" ∷ codes "kick vda 0" ∷ codes "kicks vda 0" ∷ codes "fetch vda 0" ∷ codes "close vda" ∷ codes "open vda" ∷ codes "execute vda 0" ∷ codes "fetch vda 0" ∷ codes "execute vda 0" ∷ codes "close vda" ∷ codes "open vda" ∷ codes "finish vda 0" ∷ codes "fetch vda 0" ∷ codes "execute vda 0" ∷ codes "finish vda 0" ∷ codes "close vda" ∷ codes "open vda" ∷ codes "fetch vda 0" ∷ codes "poll vda 0" ∷ [])
    ≡ (codes "ok" ∷ codes "ok session 0" ∷ codes "ok" ∷ codes "ok" ∷ codes "ok" ∷ codes "ok id 0" ∷ codes "ok id 0 status 1" ∷ codes "ok" ∷ codes "ok" ∷ codes "ok id 1" ∷ codes "ok id 1 status 3" ∷ codes "ok" ∷ codes "ok" ∷ codes "ok" ∷ codes "ok id 2" ∷ codes "ok id 2 status 11" ∷ codes "ok" ∷ codes "ok" ∷ codes "ok 0 desc 0x7ffe000 driver 0x7fff000 device 0x7fff208" ∷ codes "ok" ∷ codes "ok" ∷ codes "ok" ∷ codes "ok" ∷ codes "ok" ∷ codes "ok id 3" ∷ codes "ok id 3 status 15" ∷ codes "ok" ∷ codes "ok" ∷ codes "ok 0" ∷ codes "ok" ∷ codes "ok head 0 idx 1 kick 1 buf 1 map 0" ∷ codes "ok" ∷ codes "ok 1" ∷ codes "ok head 0 type 1 sector 8" ∷ codes "ok" ∷ codes "ok session 1" ∷ codes "err 2" ∷ codes "ok head 0 type 1 sector 8" ∷ codes "ok status 0" ∷ codes "ok" ∷ codes "ok session 2" ∷ codes "err 2" ∷ codes "ok head 0 type 1 sector 8" ∷ codes "ok status 0" ∷ codes "ok len 1 irq 1" ∷ codes "ok" ∷ codes "ok session 3" ∷ codes "err 11" ∷ codes "ok head 0 len 1 status 0" ∷ [])

abbrev pub WholeSessionOwned : Type 0
WholeSessionOwned = replies_to (setting 16384 32768 1 64)
    (codes "create vda 0 2 0x330000200 1 4096 400000000000000000000000000000000000000000000000000000000000000000000000" ∷ codes "open vda" ∷ codes "vqsetup vda 0 256" ∷ codes "attach vda" ∷ codes "image vda 0 64" ∷ codes "setstatus vda 1" ∷ codes "recv vda" ∷ codes "answer vda 0 0 0" ∷ codes "take vda 0" ∷ codes "setstatus vda 3" ∷ codes "recv vda" ∷ codes "answer vda 1 0 0" ∷ codes "take vda 1" ∷ codes "setfeatures vda 0x330000200" ∷ codes "setstatus vda 11" ∷ codes "recv vda" ∷ codes "answer vda 2 0 0" ∷ codes "take vda 2" ∷ codes "ring vda 0 256" ∷ codes "vqnum vda 0 256" ∷ codes "vqaddr vda 0 0x7ffe000 0x7fff000 0x7fff208" ∷ codes "callback vda 0 1" ∷ codes "kickfd vda 0 1" ∷ codes "vqready vda 0 1" ∷ codes "setstatus vda 15" ∷ codes "recv vda" ∷ codes "answer vda 3 0 0" ∷ codes "take vda 3" ∷ codes "zeros vda 4096" ∷ codes "poke vda 0 0 6162" ∷ codes "submit vda 0 write 8 0 0 4096" ∷ codes "map vda 2 0 48 to" ∷ codes "submit vda 0 id 2 0" ∷ codes "free vda 1" ∷ codes "unmap vda 0" ∷ codes "kick vda 0" ∷ codes "kicks vda 0" ∷ codes "fetch vda 0" ∷ codes "execute vda 0" ∷ codes "finish vda 0" ∷ codes "irq vda 0" ∷ codes "irqs vda 0" ∷ codes "poll vda 0" ∷ codes "poll vda 0" ∷ codes "zeros vda 4096" ∷ codes "submit vda 0 read 8 3 0 4096" ∷ codes "fetch vda 0" ∷ codes "execute vda 0" ∷ codes "finish vda 0" ∷ codes "poll vda 0" ∷ codes "peek vda 3 0 3" ∷ codes "submit vda 0 flush" ∷ codes "fetch vda 0" ∷ codes "execute vda 0" ∷ codes "finish vda 0" ∷ codes "poll vda 0" ∷ codes "zeros vda 20" ∷ codes "submit vda 0 id 8 0" ∷ codes "fetch vda 0" ∷ codes "execute vda 0" ∷ codes "finish vda 0" ∷ codes "poll vda 0" ∷ codes "peek vda 8 0 4" ∷ codes "submit vda 0 read 63 3 0 1024" ∷ codes "fetch vda 0" ∷ codes "execute vda 0" ∷ codes "finish vda 0" ∷ codes "poll vda 0" ∷ [])
    ≡ (codes "ok" ∷ codes "ok session 0" ∷ codes "ok" ∷ codes "ok" ∷ codes "ok" ∷ codes "ok id 0" ∷ codes "ok id 0 status 1" ∷ codes "ok" ∷ codes "ok" ∷ codes "ok id 1" ∷ codes "ok id 1 status 3" ∷ codes "ok" ∷ codes "ok" ∷ codes "ok" ∷ codes "ok id 2" ∷ codes "ok id 2 status 11" ∷ codes "ok" ∷ codes "ok" ∷ codes "ok 0 desc 0x7ffe000 driver 0x7fff000 device 0x7fff208" ∷ codes "ok" ∷ codes "ok" ∷ codes "ok" ∷ codes "ok" ∷ codes "ok" ∷ codes "ok id 3" ∷ codes "ok id 3 status 15" ∷ codes "ok" ∷ codes "ok" ∷ codes "ok 0" ∷ codes "ok" ∷ codes "ok head 0 idx 1 kick 1 buf 1 map 0" ∷ codes "err 16" ∷ codes "err 16" ∷ codes "err 16" ∷ codes "err 16" ∷ codes "ok" ∷ codes "ok 1" ∷ codes "ok head 0 type 1 sector 8" ∷ codes "ok status 0" ∷ codes "ok len 1 irq 1" ∷ codes "ok" ∷ codes "ok 1" ∷ codes "ok head 0 len 1 status 0" ∷ codes "err 11" ∷ codes "ok 3" ∷ codes "ok head 0 idx 2 kick 1 buf 4 map 4" ∷ codes "ok head 0 type 0 sector 8" ∷ codes "ok status 0" ∷ codes "ok len 4097 irq 1" ∷ codes "ok head 0 len 4097 status 0" ∷ codes "ok 616200" ∷ codes "ok head 0 idx 3 kick 1 buf 6 map 8" ∷ codes "ok head 0 type 4 sector 0" ∷ codes "ok status 0" ∷ codes "ok len 1 irq 1" ∷ codes "ok head 0 len 1 status 0" ∷ codes "ok 8" ∷ codes "ok head 0 idx 4 kick 1 buf 9 map 11" ∷ codes "ok head 0 type 8 sector 0" ∷ codes "ok status 0" ∷ codes "ok len 21 irq 1" ∷ codes "ok head 0 len 21 status 0" ∷ codes "ok 76646100" ∷ codes "ok head 0 idx 5 kick 1 buf 11 map 15" ∷ codes "ok head 0 type 0 sector 63" ∷ codes "ok status 1" ∷ codes "ok len 1025 irq 1" ∷ codes "ok head 0 len 1025 status 1" ∷ [])

abbrev pub WholeSession : Type 0
WholeSession = replies_to (setting 16384 32768 1 64)
    (codes "create vda 0 2 0x330000200 1 4096 400000000000000000000000000000000000000000000000000000000000000000000000" ∷ codes "open vda" ∷ codes "vqsetup vda 0 256" ∷ codes "attach vda" ∷ codes "image vda 0 64" ∷ codes "setstatus vda 1" ∷ codes "recv vda" ∷ codes "answer vda 0 0 0" ∷ codes "take vda 0" ∷ codes "setstatus vda 3" ∷ codes "recv vda" ∷ codes "answer vda 1 0 0" ∷ codes "take vda 1" ∷ codes "setfeatures vda 0x330000200" ∷ codes "setstatus vda 11" ∷ codes "recv vda" ∷ codes "answer vda 2 0 0" ∷ codes "take vda 2" ∷ codes "ring vda 0 256" ∷ codes "vqnum vda 0 256" ∷ codes "vqaddr vda 0 0x7ffe000 0x7fff000 0x7fff208" ∷ codes "callback vda 0 1" ∷ codes "kickfd vda 0 1" ∷ codes "vqready vda 0 1" ∷ codes "setstatus vda 15" ∷ codes "recv vda" ∷ codes "answer vda 3 0 0" ∷ codes "take vda 3" ∷ codes "zeros vda 4096" ∷ codes "poke vda 0 0 6162" ∷ codes "submit vda 0 write 8 0 0 4096" ∷ codes "kick vda 0" ∷ codes "kicks vda 0" ∷ codes "fetch vda 0" ∷ codes "execute vda 0" ∷ codes "finish vda 0" ∷ codes "irq vda 0" ∷ codes "irqs vda 0" ∷ codes "poll vda 0" ∷ codes "poll vda 0" ∷ codes "zeros vda 4096" ∷ codes "submit vda 0 read 8 3 0 4096" ∷ codes "fetch vda 0" ∷ codes "execute vda 0" ∷ codes "finish vda 0" ∷ codes "poll vda 0" ∷ codes "peek vda 3 0 3" ∷ codes "submit vda 0 flush" ∷ codes "fetch vda 0" ∷ codes "execute vda 0" ∷ codes "finish vda 0" ∷ codes "poll vda 0" ∷ codes "zeros vda 20" ∷ codes "submit vda 0 id 8 0" ∷ codes "fetch vda 0" ∷ codes "execute vda 0" ∷ codes "finish vda 0" ∷ codes "poll vda 0" ∷ codes "peek vda 8 0 4" ∷ codes "submit vda 0 read 63 3 0 1024" ∷ codes "fetch vda 0" ∷ codes "execute vda 0" ∷ codes "finish vda 0" ∷ codes "poll vda 0" ∷ [])
    ≡ (codes "ok" ∷ codes "ok session 0" ∷ codes "ok" ∷ codes "ok" ∷ codes "ok" ∷ codes "ok id 0" ∷ codes "ok id 0 status 1" ∷ codes "ok" ∷ codes "ok" ∷ codes "ok id 1" ∷ codes "ok id 1 status 3" ∷ codes "ok" ∷ codes "ok" ∷ codes "ok" ∷ codes "ok id 2" ∷ codes "ok id 2 status 11" ∷ codes "ok" ∷ codes "ok" ∷ codes "ok 0 desc 0x7ffe000 driver 0x7fff000 device 0x7fff208" ∷ codes "ok" ∷ codes "ok" ∷ codes "ok" ∷ codes "ok" ∷ codes "ok" ∷ codes "ok id 3" ∷ codes "ok id 3 status 15" ∷ codes "ok" ∷ codes "ok" ∷ codes "ok 0" ∷ codes "ok" ∷ codes "ok head 0 idx 1 kick 1 buf 1 map 0" ∷ codes "ok" ∷ codes "ok 1" ∷ codes "ok head 0 type 1 sector 8" ∷ codes "ok status 0" ∷ codes "ok len 1 irq 1" ∷ codes "ok" ∷ codes "ok 1" ∷ codes "ok head 0 len 1 status 0" ∷ codes "err 11" ∷ codes "ok 3" ∷ codes "ok head 0 idx 2 kick 1 buf 4 map 4" ∷ codes "ok head 0 type 0 sector 8" ∷ codes "ok status 0" ∷ codes "ok len 4097 irq 1" ∷ codes "ok head 0 len 4097 status 0" ∷ codes "ok 616200" ∷ codes "ok head 0 idx 3 kick 1 buf 6 map 8" ∷ codes "ok head 0 type 4 sector 0" ∷ codes "ok status 0" ∷ codes "ok len 1 irq 1" ∷ codes "ok head 0 len 1 status 0" ∷ codes "ok 8" ∷ codes "ok head 0 idx 4 kick 1 buf 9 map 11" ∷ codes "ok head 0 type 8 sector 0" ∷ codes "ok status 0" ∷ codes "ok len 21 irq 1" ∷ codes "ok head 0 len 21 status 0" ∷ codes "ok 76646100" ∷ codes "ok head 0 idx 5 kick 1 buf 11 map 15" ∷ codes "ok head 0 type 0 sector 63" ∷ codes "ok status 1" ∷ codes "ok len 1025 irq 1" ∷ codes "ok head 0 len 1025 status 1" ∷ [])

-- the image fails at the execution of the write, which then is answered with status 1 and stores nothing
abbrev pub FailingImage : Type 0
FailingImage = replies_failing (setting 16384 32768 1 64) (35 ∷ [])
    (codes "create vda 0 2 0x330000200 1 4096 400000000000000000000000000000000000000000000000000000000000000000000000" ∷ codes "open vda" ∷ codes "vqsetup vda 0 256" ∷ codes "attach vda" ∷ codes "image vda 0 64" ∷ codes "setstatus vda 1" ∷ codes "recv vda" ∷ codes "answer vda 0 0 0" ∷ codes "take vda 0" ∷ codes "setstatus vda 3" ∷ codes "recv vda" ∷ codes "answer vda 1 0 0" ∷ codes "take vda 1" ∷ codes "setfeatures vda 0x330000200" ∷ codes "setstatus vda 11" ∷ codes "recv vda" ∷ codes "answer vda 2 0 0" ∷ codes "take vda 2" ∷ codes "ring vda 0 256" ∷ codes "vqnum vda 0 256" ∷ codes "vqaddr vda 0 0x7ffe000 0x7fff000 0x7fff208" ∷ codes "callback vda 0 1" ∷ codes "kickfd vda 0 1" ∷ codes "vqready vda 0 1" ∷ codes "setstatus vda 15" ∷ codes "recv vda" ∷ codes "answer vda 3 0 0" ∷ codes "take vda 3" ∷ codes "zeros vda 4096" ∷ codes "poke vda 0 0 6162" ∷ codes "submit vda 0 write 8 0 0 4096" ∷ codes "kick vda 0" ∷ codes "kicks vda 0" ∷ codes "fetch vda 0" ∷ codes "execute vda 0" ∷ codes "finish vda 0" ∷ codes "irq vda 0" ∷ codes "irqs vda 0" ∷ codes "poll vda 0" ∷ codes "poll vda 0" ∷ codes "zeros vda 4096" ∷ codes "submit vda 0 read 8 3 0 4096" ∷ codes "fetch vda 0" ∷ codes "execute vda 0" ∷ codes "finish vda 0" ∷ codes "poll vda 0" ∷ codes "peek vda 3 0 3" ∷ [])
    ≡ (codes "ok" ∷ codes "ok session 0" ∷ codes "ok" ∷ codes "ok" ∷ codes "ok" ∷ codes "ok id 0" ∷ codes "ok id 0 status 1" ∷ codes "ok" ∷ codes "ok" ∷ codes "ok id 1" ∷ codes "ok id 1 status 3" ∷ codes "ok" ∷ codes "ok" ∷ codes "ok" ∷ codes "ok id 2" ∷ codes "ok id 2 status 11" ∷ codes "ok" ∷ codes "ok" ∷ codes "ok 0 desc 0x7ffe000 driver 0x7fff000 device 0x7fff208" ∷ codes "ok" ∷ codes "ok" ∷ codes "ok" ∷ codes "ok" ∷ codes "ok" ∷ codes "ok id 3" ∷ codes "ok id 3 status 15" ∷ codes "ok" ∷ codes "ok" ∷ codes "ok 0" ∷ codes "ok" ∷ codes "ok head 0 idx 1 kick 1 buf 1 map 0" ∷ codes "ok" ∷ codes "ok 1" ∷ codes "ok head 0 type 1 sector 8" ∷ codes "ok status 1" ∷ codes "ok len 1 irq 1" ∷ codes "ok" ∷ codes "ok 1" ∷ codes "ok head 0 len 1 status 1" ∷ codes "err 11" ∷ codes "ok 3" ∷ codes "ok head 0 idx 2 kick 1 buf 4 map 4" ∷ codes "ok head 0 type 0 sector 8" ∷ codes "ok status 0" ∷ codes "ok len 4097 irq 1" ∷ codes "ok head 0 len 4097 status 0" ∷ codes "ok 000000" ∷ [])
