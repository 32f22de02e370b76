-- A machine whose state and reply at each line are functions of its state and of the line.
use Rattle.std.specs.Prelude.{ℕ, ◌≡◌, List, [], ◌∷◌, ◌++◌, length, take}
use Rattle.std.specs.List.{concat}

-- its state after some lines
abbrev pub state_after : {S : Type 0} → (step : S → List ℕ → S) → S → List (List ℕ) → S
state_after step s [] = s
state_after step s (line ∷ rest) = state_after step (step s line) rest

-- and its replies to them
abbrev pub replies_from : {S : Type 0} → (step : S → List ℕ → S) → (reply : S → List ℕ → List ℕ) → S → List (List ℕ) → List ℕ
replies_from step reply s [] = []
replies_from step reply s (line ∷ rest) = reply s line ++ replies_from step reply (step s line) rest

-- from this state on these lines were answered by these replies, and led to that state
pub record RepliesFollow {S : Type 0} (step : S → List ℕ → S) (reply : S → List ℕ → List ℕ) (first : S) (done replies : List (List ℕ)) (now : S) : Type 0 where
  pub state : now ≡ state_after step first done
  pub count : length replies ≡ length done
  pub each : (k : ℕ) → concat (take k replies) ≡ replies_from step reply first (take k done)
