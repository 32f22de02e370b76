-- A small history with two regions, one of them a ring's.
use Rattle.std.specs.Prelude.{ℕ, List, [], ◌∷◌, ◌++◌, false, ◌≡◌, Some}
use Rattle.vd_num.specs.declared.errno.Errno.TheVariants.{Busy, Inval}
use Rattle.vd_model.specs.declared.memory.Dir.TheVariants.{Both}
use Rattle.vd_model.specs.declared.answer.Answer.TheVariants.{Err}
use Rattle.vd_model.specs.declared.step.Step.{Step}
use Rattle.vd_model.specs.declared.step.Step.TheVariants.{Device, Queue}
use Rattle.vd_model.specs.declared.step.DevStep.TheVariants as line
use Rattle.vd_model.specs.declared.step.DriverStep.TheVariants as driver
use Rattle.vd_model.specs.declared.step.QueueStep.TheVariants as queue
use Rattle.vd_model.specs.Acts.{Act, Driver, Driver_put}
use Rattle.vd_model.specs.Live.{live_mappings, live_regions}
use Rattle.vd_model.specs.Queues.{ring_of}
use Rattle.vd_model.specs.RingTurns.{ring_at}
use Rattle.vd_model.specs.History.{History, reply}
use Rattle.vd_laws.specs.Runs.{acts_of}
use Rattle.vd_laws.specs.Small.{small_setting, v, history_of, dev, buf}

-- a region of three pages is made, and a ring of four descriptors, and two bytes are mapped
abbrev pub run : History
run = history_of (
    Device v (line.Driver (driver.Map 0 0 2 Both))
    ∷ Queue v (queue.Ring 0 4)
    ∷ Device v (line.Driver (driver.Coherent 10000))
    ∷ buf v (7 ∷ 8 ∷ [])
    ∷ dev v ∷ [])

-- two bytes are put into the first region, from this one on
abbrev pub put : ℕ → Step
put offset = Device v (line.Driver (driver.Cput 0 offset (5 ∷ 6 ∷ [])))

-- what was done to the device
abbrev pub acts : List Act
acts = acts_of small_setting run v

pub record RegionInstances : Type 0 where
  -- bounce memory has four slots of eight: the first region begins right behind it, the ring's follows, and the mapping has the last slot before them
  pub regions : live_regions acts ≡ record { number = 0; slot = 4; len = 10000 } ∷ record { number = 1; slot = 7; len = 118 } ∷ []
  pub mappings : live_mappings acts ≡ record { number = 0; slot = 3; want = record { buffer = 0; offset = 0; len = 2; dir = Both } } ∷ []
  -- the ring stands at the start of the second region
  pub ring : ring_of acts 0 ≡ Some (record { place = ring_at 4 7; region = 1 })
  -- two bytes may be put at the end of the first region's last page, and not a byte further
  pub inside : acts_of small_setting (history_of (put 0x2ffe ∷ []) ++ run) v ≡ Driver (Driver_put 0x6ffe (5 ∷ 6 ∷ [])) ∷ acts
  pub past : reply small_setting run (put 0x2fff) false ≡ Err Inval
  -- the ring's region isn't freed while the ring is there
  pub kept : reply small_setting run (Device v (line.Driver (driver.FreeCoherent 1))) false ≡ Err Busy
