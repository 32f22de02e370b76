use Rattle.std.proofs.Common.{◌≡◌, Some, None, ◌∷◌, length, sym, subst, ap, ◌∙◌, arith}
use Rattle.std.specs.List.{slice_set}
use Rattle.std.proofs.lemmas.List.{set-set}
use Rattle.vd_model.specs.Acts.{Driver, Poked}
use Rattle.vd_buffers.specs.Places.{Places}
use Rattle.vd_buffers.specs.Stands.{Stands}
use Rattle.vd_buffers.proofs.Ranges.{allowed}
use Rattle.vd_buffers.proofs.Changed.{poked, rewritten}
use Rattle.vd_buffers.proofs.buffers.Buffers.poke.Goals as goal

pub put-requires-clause-room : goal.put-requires-clause-room
put-requires-clause-room c = (let size = c.write.ensures.size in let room = c.take-held.ensures.room in omega arith)

pub returns-clause-ok : goal.returns-clause-ok
returns-clause-ok c = λ g acts s.
    let range = c.in_default.ensures.lies in
    let there = c.take-held.ensures.bytes in
    let gave : c.put.new.self ≡ slice_set c.args.self.now c.args.buffer (Some c.write.new.self) =
    c.put.ensures ∙ ap (λ (places : Places). slice_set places c.args.buffer (Some c.write.new.self)) c.take-held.ensures.rest ∙ set-set c.args.self.now c.args.buffer None (Some c.write.new.self) in (
      allowed g acts c.args.self.now s c.args.buffer c.args.offset (length c.args.bytes.now) _ range,
      subst (λ places. Stands g (Driver (Poked c.args.buffer c.args.offset c.args.bytes.now) ∷ acts) places) (sym gave)
          (rewritten g acts c.args.self.now s (Driver (Poked c.args.buffer c.args.offset c.args.bytes.now)) c.args.buffer c.take-held.result c.write.new.self there
          (poked g acts c.args.buffer c.args.offset c.args.bytes.now c.take-held.result c.write.new.self (s.bytes c.args.buffer c.take-held.result there) c.write.ensures.size c.write.ensures.bytes)),
    )
