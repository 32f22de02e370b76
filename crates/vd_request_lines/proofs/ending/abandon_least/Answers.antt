use Rattle.vd_request_lines.proofs.ending.abandon_least.Goals as goal

pub abandoned-requires-clause-reached : goal.abandoned-requires-clause-reached
abandoned-requires-clause-reached c =
    let h = c.requires.standing in
    record { setting = h.setting; acts = h.acts; stands = h.stands; apart = c.keeps_apart.ensures h.setting h.acts c.args.pool.now h.stands.domain }
