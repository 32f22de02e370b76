-- What was told of a step is its reply line.
use Rattle.std.proofs.Common.{◌≡◌, ℕ, ap, ◌∙◌, List, [], ◌++◌, Option, Some, None}
use Rattle.vd_model.specs.declared.answer.Answer.{Answer}
use Rattle.vd_model.specs.Replies.{reply_line}
use Rattle.vd_vhost_model.specs.declared.step.VhostAnswer.{VhostAnswer}
use Rattle.vd_vhost_model.specs.declared.step.VhostAnswer.TheVariants.{Plain, Perm}
use Rattle.vd_vhost_model.specs.VhostLines.{vhost_reply_line}
use Rattle.vd_vhost.specs.Told.{Says}

-- an answer was heard behind nothing
pub heard_line : (answer : VhostAnswer) (start now : List ℕ) (quiet : Type 0) → start ≡ [] → Says (λ said. now ≡ start ++ reply_line said) quiet answer None → now ≡ vhost_reply_line answer
heard_line (Plain a) start now quiet empty s = s.1 ∙ ap (λ t. t ++ reply_line a) empty
heard_line (Perm at) start now quiet empty s = absurd (let no = s.0 in cc)

-- nothing was heard, and the address was printed
pub denied_line : (answer : VhostAnswer) (at : ℕ) (heard : Answer → Type 0) (quiet : Type 0) (after : List ℕ) → Says heard quiet answer (Some at) → (quiet → after ≡ vhost_reply_line (Perm at)) → after ≡ vhost_reply_line answer
denied_line (Plain a) at heard quiet after s printed = absurd (let no = s.0 in cc)
denied_line (Perm a) at heard quiet after s printed = let same : at ≡ a = cc in printed s.1 ∙ ap (λ k. vhost_reply_line (Perm k)) same
