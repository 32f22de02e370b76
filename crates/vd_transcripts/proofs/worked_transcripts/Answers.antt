use Rattle.vd_transcripts.proofs.Computed.{first_fits, last_does_not}
use Rattle.vd_transcripts.proofs.worked_transcripts.Goals as goal

pub returns-clause-fits : goal.returns-clause-fits
returns-clause-fits c = first_fits

pub returns-clause-last : goal.returns-clause-last
returns-clause-last c = last_does_not
