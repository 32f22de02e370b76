use Rattle.vd_driver_port.proofs.port.DriverPortDma.fill.Goals as goal

pub returns-clause-filled : goal.returns-clause-filled
returns-clause-filled c = λ x acts s e. c.fill.ensures.filled x acts c.args.self.now.pool.now s e
