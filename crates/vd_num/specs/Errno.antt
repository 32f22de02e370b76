-- The numbers of the errors.
use Rattle.std.specs.Prelude.{ℕ}
use Rattle.vd_num.specs.declared.errno.Errno.{Errno}
use Rattle.vd_num.specs.declared.errno.Errno.TheVariants.{Noent, Io, Badf, Again, Nomem, Fault, Busy, Exist, Nodev, Inval, Nospc}

-- the number that errno.h gives the name
abbrev pub errno_number : Errno → ℕ
errno_number Noent = 2
errno_number Io = 5
errno_number Badf = 9
errno_number Again = 11
errno_number Nomem = 12
errno_number Fault = 14
errno_number Busy = 16
errno_number Exist = 17
errno_number Nodev = 19
errno_number Inval = 22
errno_number Nospc = 28
