-- When two devices look alike to the block daemon.
use Rattle.std.specs.Prelude.{ℕ, List, ◌≡◌, Option}
use Rattle.std.specs.Option.{option_map}
use Rattle.vd_model.specs.Setting.{Setting}
use Rattle.vd_model.specs.Acts.{Act, state_acts}
use Rattle.vd_model.specs.Live.{is_open}
use Rattle.vd_model.specs.Deeds.{Seen}
use Rattle.vd_model.specs.Queues.{fetches, finishes, in_hand, execution_of}
use Rattle.vd_model.specs.DaemonTurns.{Hand, daemon_memory, first_used, hand}

-- they were made alike, both have a session or neither, their state is the same, and so is each byte that can be accessed
pub record LooksAlike (x : Setting) (s t : Seen) : Type 0 where
  pub made : s.made ≡ t.made
  pub opened : is_open s.acts ≡ is_open t.acts
  pub state : state_acts s.acts ≡ state_acts t.acts
  pub memory : (a : ℕ) → daemon_memory x s.acts a ≡ daemon_memory x t.acts a

-- they were made alike, both have a session or neither, and their disks are the same
pub record HasSameDisk (s t : Seen) : Type 0 where
  pub made : s.made ≡ t.made
  pub opened : is_open s.acts ≡ is_open t.acts
  pub window : s.window ≡ t.window
  pub disk : (i : ℕ) → s.disk i ≡ t.disk i

-- the request in hand on a queue, as it was read when it was fetched
abbrev pub request_in_hand : Setting → List Act → ℕ → Option Hand
request_in_hand x acts q = option_map (λ earlier. hand x earlier q) (in_hand acts q)

-- on a queue the daemon has the same position, and the same request in hand, executed alike
pub record KeepsAlike (x : Setting) (acts others : List Act) (q : ℕ) : Type 0 where
  pub first : first_used x acts q ≡ first_used x others q
  pub fetched : fetches acts q ≡ fetches others q
  pub finished : finishes acts q ≡ finishes others q
  pub request : request_in_hand x acts q ≡ request_in_hand x others q
  pub ended : execution_of acts q ≡ execution_of others q
