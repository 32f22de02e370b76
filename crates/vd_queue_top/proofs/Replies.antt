-- What is written for lines, where each follows from the lists before it.
use Rattle.std.proofs.Common.{◌≡◌, ℕ, refl, ap, subst, sym, ◌∙◌, List, [], ◌∷◌, ◌++◌, take}
use Rattle.vd_loop.specs.Outs.{Grows}
use Rattle.vd_turns.specs.Turns.{RepliesFollow, replies_from}
use Rattle.vd_turns.proofs.Turns.{follows_first, follows_more, replies_grow}
use Rattle.vr_pair.specs.QueueLists.{QueueLists}
use Rattle.vr_pair.specs.QueueLines.{queue_replies}
use Rattle.vd_queue_top.specs.Replies.{AreReplies, HasLed, lists_after, reply_after}

same_replies : (q : QueueLists) (lines : List (List ℕ)) → queue_replies q lines ≡ replies_from lists_after reply_after q lines
unfolding queue_replies
same_replies q [] = refl
same_replies q (line ∷ rest) = ap (λ t. reply_after q line ++ t) (same_replies (lists_after q line) rest)

-- what is written for more lines begins with what is written for the first of them
pub queue_grows : (q : QueueLists) → Grows (queue_replies q)
queue_grows q xs ys =
    let more = replies_grow lists_after reply_after q xs ys in
    (more.0, same_replies q (xs ++ ys) ∙ more.1 ∙ ap (λ t. t ++ more.0) (sym (same_replies q xs)))

pub are_replies : (q : QueueLists) (done replies : List (List ℕ)) (stands : QueueLists → Type 0) → HasLed q done replies stands → AreReplies q done replies
are_replies q done replies stands led = λ k. led.follows.each k ∙ sym (same_replies q (take k done))

pub led_first : (q : QueueLists) (stands : QueueLists → Type 0) → stands q → HasLed q [] [] stands
led_first q stands stood = record { now = q; follows = follows_first lists_after reply_after q; stood = stood }

-- a line more, whose reply is this
pub led_more : (q : QueueLists) (done replies : List (List ℕ)) (line reply : List ℕ) (before after : QueueLists → Type 0) (led : HasLed q done replies before) → reply ≡ reply_after led.now line
    → after (lists_after led.now line) → HasLed q (done ++ line ∷ []) (replies ++ reply ∷ []) after
led_more q done replies line reply before after led is stood = record {
  now = lists_after led.now line;
  follows =
      subst (λ r. RepliesFollow lists_after reply_after q (done ++ line ∷ []) (replies ++ r ∷ []) (lists_after led.now line)) (sym is)
      (follows_more lists_after reply_after q led.now done replies line led.follows);
  stood = stood;
}

-- and one that changes nothing
pub led_same : (q : QueueLists) (done replies : List (List ℕ)) (before after : QueueLists → Type 0) (led : HasLed q done replies before) → after led.now → HasLed q done replies after
led_same q done replies before after led stood = record { now = led.now; follows = led.follows; stood = stood }
