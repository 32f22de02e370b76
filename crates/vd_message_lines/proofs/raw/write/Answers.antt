use Rattle.std.proofs.Common.{◌≡◌, ℕ, List, [], ◌∷◌, false, ap, ◌∙◌, sym, length, arith}
use Rattle.std.specs.Prelude.{nat_lt}
use Rattle.vd_num.specs.declared.errno.Errno.TheVariants.{Inval}
use Rattle.vd_model.specs.declared.answer.Item.TheVariants.{Number}
use Rattle.vd_model.specs.Acts.{Act}
use Rattle.vd_model.specs.Turn.{refuse, refusal_if}
use Rattle.vd_model.specs.NodeTurns.{answered_with, response_turn, write_turn}
use Rattle.vd_model.specs.Raw.{response_step}
use Rattle.vd_abi.specs.declared.message.Response.{Response}
use Rattle.vd_raw.specs.Seen.{answer_in}
use Rattle.vd_answers.proofs.Telling.{tells_as}
use Rattle.vd_message_lines.proofs.raw.write.Goals as goal

-- enough bytes are the answer that they have in them
write_is : (acts : List Act) (bytes : List ℕ) (r : Response) → nat_lt (length bytes) 152 ≡ false → answer_in r ≡ response_step bytes
    → write_turn acts bytes ≡ answered_with (Number 152 ∷ []) acts r.request_id r.result r.avail
write_is acts bytes r long e =
    ap (λ test. refuse (refusal_if test Inval) (response_turn acts (response_step bytes))) long ∙ ap (response_turn acts) (sym e)

pub returns : goal.returns
returns g c = record {
  line = λ acts s.
      let long : nat_lt (length c.args.bytes.now) 152 ≡ false = grind arith in
      tells_as (write_is acts c.args.bytes.now c.response_in.result long c.response_in.ensures) (c.respond.ensures.line acts s);
}
