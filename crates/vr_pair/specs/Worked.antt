-- A worked session of a queue of four descriptors: lines, and what they are answered.
use Rattle.std.specs.Prelude.{ℕ, List, [], ◌∷◌, ◌++◌, codes, ◌≡◌}
use Rattle.vr_pair.specs.QueueLists.{empty_lists}
use Rattle.vr_pair.specs.QueueLines.{queue_replies}

abbrev pub worked_lines : List (List ℕ)
worked_lines =
    codes "add r:0x10:8 w:0x20:4" ∷ codes "add w:0x30:1 w:0x40:1" ∷ codes "add r:0x50:1" ∷ codes "next" ∷ codes "next" ∷ codes "next"
    ∷ codes "used 1 2" ∷ codes "used 1 2" ∷ codes "reclaim" ∷ codes "add r:0x50:1" ∷ codes "used 0 4" ∷ codes "reclaim" ∷ codes "reclaim"
    ∷ codes "add w:1:1 r:2:1" ∷ codes "add r:1:16777216 r:2:1" ∷ []

abbrev pub answer : List ℕ → List ℕ → List ℕ
answer line rest = line ++ 10 ∷ rest

abbrev pub worked_replies : List ℕ
worked_replies =
    answer (codes "ok 0") (answer (codes "ok 1") (answer (codes "err 28") (answer (codes "ok 0 r:0x10:8 w:0x20:4")
    (answer (codes "ok 1 w:0x30:1 w:0x40:1") (answer (codes "err 11") (answer (codes "ok") (answer (codes "err 2")
    (answer (codes "ok 1 2") (answer (codes "ok 2") (answer (codes "ok") (answer (codes "ok 0 4") (answer (codes "err 11")
    (answer (codes "err 22") (answer (codes "err 22") []))))))))))))))

abbrev pub WorkedSession : Type 0
WorkedSession = queue_replies (empty_lists 4) worked_lines ≡ worked_replies
