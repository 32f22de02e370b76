use Rattle.std.proofs.Common.{◌≡◌, ℕ, List, [], ◌∷◌, ◌++◌, Option, Some, None, false, refl, ap, sym, subst, arith}
use Rattle.std.specs.Prelude.{nat_lt}
use Rattle.std.specs.Option.{option_map, option_map_or}
use Rattle.vd_num.specs.declared.errno.Errno.TheVariants.{Again, Inval}
use Rattle.vd_model.specs.declared.answer.Answer.{Answer}
use Rattle.vd_model.specs.declared.answer.Answer.TheVariants.{Done}
use Rattle.vd_model.specs.declared.answer.Item.{Item}
use Rattle.vd_model.specs.declared.answer.Item.TheVariants.{Text}
use Rattle.vd_model.specs.declared.message.Body.{Body}
use Rattle.vd_model.specs.declared.message.Message.{Message}
use Rattle.vd_model.specs.declared.message.Sent.{Sent}
use Rattle.vd_model.specs.Acts.{Act, Message_act, message_acts}
use Rattle.vd_model.specs.Messages.{Received, Receiving, next_message}
use Rattle.vd_model.specs.Turn.{refuse, refusal_turn, refusal_if, done_with}
use Rattle.vd_model.specs.BusTurns.{device_start}
use Rattle.vd_model.specs.NodeTurns.{received_as}
use Rattle.vd_model.specs.Raw.{request_bytes}
use Rattle.vd_msg.specs.Lists.{Lists}
use Rattle.vd_msg.specs.Stands.{Stands, Makes, sent_of}
use Rattle.vd_answers.specs.Tells.{Tells}
use Rattle.vd_answers.proofs.Telling.{tells_as, tells_by}
use Rattle.vd_message_lines.specs.After.{MessagesAfter}
use Rattle.vd_message_lines.proofs.raw.read.Goals as goal

-- a message that was received, and told in this way
receive_line : {heard : Answer → Type 0} {m : Lists} (items : ℕ → Body → List Item) (acts : List Act) (sent : Sent) (o : Option Message) → o ≡ next_message (message_acts acts) → Some sent ≡ option_map sent_of o
    → Makes device_start (message_acts acts) Receiving m → heard (Done (items sent.id sent.body)) → Tells heard (received_as (λ x. items x.id x.body) acts) (MessagesAfter acts m)
receive_line items acts sent None e f makes h = absurd (cc)
receive_line {heard} {m} items acts sent (Some x) e f makes h =
    let same : sent ≡ sent_of x = cc in
    tells_by (ap (λ o. option_map_or (λ y. done_with (items y.id y.body) (Message_act (Received y.id) ∷ [])) o (refusal_turn Again)) (sym e))
    (ap (λ s. Done (items s.id s.body)) same) h
    (record { only = refl; stands = subst (λ o. Stands device_start (option_map_or (λ y. Received y.id ∷ []) o [] ++ message_acts acts) m) (sym e) makes })

pub returns-in-Some : goal.returns-in-Some
returns-in-Some g c = record {
  line = λ acts s.
      let long : nat_lt c.args.len 152 ≡ false = grind arith in
      tells_as (ap (λ test. refuse (refusal_if test Inval) (received_as (λ x. Text (request_bytes x.id x.body) ∷ []) acts)) long)
      (receive_line (λ id body. Text (request_bytes id body) ∷ []) acts c.in-Some.sent (next_message (message_acts acts)) refl (c.in-Some.ensures.says device_start (message_acts acts) s)
      (c.in-Some.ensures.stands device_start (message_acts acts) s) c.tell_request.ensures);
}
