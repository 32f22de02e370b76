-- Two worked transcripts: one that fits, with the origins of a load, and one whose last reply doesn't.
use Rattle.std.specs.Prelude.{ℕ, ◌≡◌, ◌++◌, List, codes}
use Rattle.vd_model.specs.Setting.{Setting}
use Rattle.vd_transcripts.specs.Transcripts.{check_output}

-- the setting of a run without options
abbrev pub usual : Setting
usual = record { bounce = 16384; iova = 32768; per_page = 1; sectors = 2048; content = λ i. 0 }

-- a mapping hands two bytes, and the daemon writes one of them
abbrev pub before_load : List ℕ
before_load = codes "dev v\n= ok session 0\nbuf v 6162\n= ok 0\nmap v 0 0 2 to\n= ok 0 iova 0x3fff000\nstore v 0x3fff001 7a\n= ok\nload v 0x3fff000 4\n"

abbrev pub FirstFits : Type 0
FirstFits = check_output usual (before_load ++ codes "= ok 617a0000\n") ≡ codes "origins 9 handed 0 1 daemon 1 zero 2\nyes 5\n"

abbrev pub LastDoesNot : Type 0
LastDoesNot = check_output usual (before_load ++ codes "= ok 61620000\n") ≡ codes "no 10\n"
