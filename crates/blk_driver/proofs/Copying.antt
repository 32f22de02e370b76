-- Ranges of buffers, copied one after another.
use Rattle.std.proofs.Common.{◌≡◌, ℕ, ◌+◌, List, ◌∷◌, ◌++◌, [], sym, ap, ◌∙◌, arith, append_assoc}
use Rattle.vd_model.specs.declared.memory.Want.{Want}
use Rattle.vd_model.specs.Acts.{Act, Driver, Poked}
use Rattle.vd_model.specs.Puts.{ram_bytes}
use Rattle.blk_driver.specs.Buffers.{bytes_of, wanted_bytes}
use Rattle.blk_driver.specs.Mapped.{AreThere}

pub copied_more : (g : ℕ) (acts : List Act) (want : Want) (wants all : List Want) (old mid new : List ℕ) → all ≡ want ∷ wants
    → mid ≡ old ++ ram_bytes g acts want.buffer want.offset want.len → new ≡ mid ++ wanted_bytes g acts wants → new ≡ old ++ wanted_bytes g acts all
copied_more g acts want wants all old mid new is first rest =
    rest ∙ ap (λ bs. bs ++ wanted_bytes g acts wants) first ∙ append_assoc old (ram_bytes g acts want.buffer want.offset want.len) (wanted_bytes g acts wants)
    ∙ ap (λ ws. old ++ wanted_bytes g acts ws) (sym is)

pub counted_more : (want : Want) (wants all : List Want) (old mid new : ℕ) → all ≡ want ∷ wants → mid ≡ old + want.len → new ≡ mid + bytes_of wants → new ≡ old + bytes_of all
counted_more want wants all old mid new is first rest = let count = ap bytes_of is in omega (arith, count, first, rest)

-- a buffer that was filled is there still
pub there_after : (buffer offset : ℕ) (bytes : List ℕ) (acts : List Act) (wants : List Want) → AreThere acts wants → AreThere (Driver (Poked buffer offset bytes) ∷ acts) wants
there_after buffer offset bytes acts [] there = there
there_after buffer offset bytes acts (want ∷ wants) there = (there.0, there_after buffer offset bytes acts wants there.1)
