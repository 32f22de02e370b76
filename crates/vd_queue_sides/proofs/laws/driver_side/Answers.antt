use Rattle.vd_queue_sides.proofs.Drivers.{ring_after, ring_made, ring_dropped, ring_published}
use Rattle.vd_queue_sides.proofs.Adding.{ring_added}
use Rattle.vd_queue_sides.proofs.FreeLemmas.{free_same}
use Rattle.vd_queue_sides.proofs.Reclaiming.{ring_reclaimed}
use Rattle.vd_queue_sides.proofs.Chained.{chain_puts, index_put}
use Rattle.vd_queue_sides.proofs.Waiting.{waiting_is, added_same, is_waiting_is}
use Rattle.vd_queue_sides.specs.Chains.{chains_of}
use Rattle.vd_queue_sides.proofs.laws.driver_side.Goals as goal

pub returns-clause-others : goal.returns-clause-others
returns-clause-others c = ring_after

pub returns-clause-made : goal.returns-clause-made
returns-clause-made c = ring_made

pub returns-clause-dropped : goal.returns-clause-dropped
returns-clause-dropped c = ring_dropped

pub returns-clause-added : goal.returns-clause-added
returns-clause-added c = λ acts q region n s request k some fits. ring_added acts q region s k n some fits request

pub returns-clause-published : goal.returns-clause-published
returns-clause-published c = ring_published

pub returns-clause-reclaimed : goal.returns-clause-reclaimed
returns-clause-reclaimed c = λ acts q region head s k waits. ring_reclaimed acts q region s head k waits

pub returns-clause-free : goal.returns-clause-free
returns-clause-free c = λ acts q region s k. free_same (chains_of acts q) region s k

pub returns-clause-chain : goal.returns-clause-chain
returns-clause-chain c = chain_puts

pub returns-clause-index : goal.returns-clause-index
returns-clause-index c = index_put

pub returns-clause-waiting : goal.returns-clause-waiting
returns-clause-waiting c = λ acts q region s k small. waiting_is (chains_of acts q) region s k small

pub returns-clause-same : goal.returns-clause-same
returns-clause-same c = λ acts q region s k small. added_same (chains_of acts q) region s k small

pub returns-clause-waits : goal.returns-clause-waits
returns-clause-waits c = λ acts q region id s k small. is_waiting_is (chains_of acts q) region s k small id
