use Rattle.std.proofs.Common.{◌++◌, ◌∷◌, [], ℕ, List, Bool, length, is_ok, if◌then◌else◌, ap, subst, ◌∙◌}
use Rattle.std.specs.Prelude.{Ok}
use Rattle.vd_model.specs.Acts.{Driver as Driver_act, Poked}
use Rattle.vr_split.specs.ReachLemmas.{KeepsReach-more, KeepsReach-same}
use Rattle.vr_driver.specs.Side.{DriverSide}
use Rattle.blk_driver.specs.declared.ask.Draft.{Draft}
use Rattle.blk_driver.specs.Asked.{draft_of, wants_of}
use Rattle.blk_driver.specs.Buffers.{has_range}
use Rattle.blk_driver.specs.Driver.{Driver}
use Rattle.blk_driver.specs.Mapped.{Maps}
use Rattle.blk_driver.specs.Pended.{pending_for}
use Rattle.blk_driver.specs.Placed.{IsPlaced}
use Rattle.blk_driver.proofs.Fronts.{front_len}
use Rattle.blk_driver.proofs.Parts.{submitted_parts, submitted_table}
use Rattle.blk_driver.proofs.driver.BlkDriver.submit.Goals as goal

pub returns-in-Ok-clause-submitted : goal.returns-in-Ok-clause-submitted
returns-in-Ok-clause-submitted g c =
    let ring = ap (λ (d : Driver). d.ring) c.self.view_is in
    let kept = c.reserve.ensures.items ∙ ap (λ (d : Driver). d.pending) c.self.view_is in
    let request = c.pending.ensures ∙ ap (λ (d : Draft). pending_for d c.place-head.result.head c.in-Ok.first_map) c.new-draft.ensures in
    let mapping = subst (λ (d : Draft). Maps g.P.Dma.stands c.fill.new.self (wants_of d) (Ok c.in-Ok.first_map) c.map_request.new.port) c.new-draft.ensures c.in-Ok.ensures.maps in
    let placed = subst (λ (d : Draft). IsPlaced g.P.Mem.told g.P.Mem.span g.P.Mem.keeps g.P.Dma.keeps_rest g.P.Dma.stands c.map_request.new.port d c.in-Ok.first_map c.args.self.now.ring c.place-head.new.ring c.place-head.result c.place-head.new.port) c.new-draft.ensures
    (subst (λ (s : DriverSide). IsPlaced g.P.Mem.told g.P.Mem.span g.P.Mem.keeps g.P.Dma.keeps_rest g.P.Dma.stands c.map_request.new.port c.new-draft.result c.in-Ok.first_map s c.place-head.new.ring c.place-head.result c.place-head.new.port) ring
    c.place-head.ensures.placed) in
    record {
      filled = c.fill.new.self;
      mapped = c.map_request.new.port;
      fills = λ x acts stands there. subst (λ (bytes : List ℕ). g.P.Dma.stands c.fill.new.self x (Driver_act (Poked c.args.buffers 0 bytes) ∷ acts)) c.front.ensures
          (c.fill.ensures.filled x acts stands (ap (λ (bytes : List ℕ). has_range acts c.args.buffers 0 (length bytes)) c.front.ensures ∙ ap (has_range acts c.args.buffers 0) (front_len c.args.ask c.args.tag) ∙ there));
      mapping = mapping;
      same = record {
        same_told = c.map_request.ensures.memory.same_told ∙ c.fill.ensures.memory.same_told;
        same_span = c.map_request.ensures.memory.same_span ∙ c.fill.ensures.memory.same_span;
        kept = g.met.P.Dma.rest_trans _ _ _ c.fill.ensures.memory.kept c.map_request.ensures.memory.kept;
      };
      placed = placed;
      pending = c.push.ensures.items ∙ ap (λ (b : Bool). if b then c.reserve.new.self.items ++ c.pending.result ∷ [] else c.reserve.new.self.items) (ap is_ok c.unwrap.ensures)
          ∙ (λ i. kept i ++ request i ∷ []);
      parts = submitted_parts g.P.Dma.stands c.fill.new.self c.map_request.new.port (draft_of c.args.ask c.args.buffers c.args.features) c.in-Ok.first_map placed.parts mapping placed.are;
      tabled = submitted_table g.P.Dma.stands c.fill.new.self c.map_request.new.port placed.listed (draft_of c.args.ask c.args.buffers c.args.features) c.in-Ok.first_map placed.table placed.parts mapping placed.are placed.lists;
    }

pub returns-in-Ok-clause-memory : goal.returns-in-Ok-clause-memory
returns-in-Ok-clause-memory g c =
    KeepsReach-more g.met.P.Dma.rest_trans (KeepsReach-same (record {
      same_told = c.map_request.ensures.memory.same_told ∙ c.fill.ensures.memory.same_told;
      same_span = c.map_request.ensures.memory.same_span ∙ c.fill.ensures.memory.same_span;
      kept = g.met.P.Dma.rest_trans _ _ _ c.fill.ensures.memory.kept c.map_request.ensures.memory.kept;
    })) c.place-head.ensures.memory
