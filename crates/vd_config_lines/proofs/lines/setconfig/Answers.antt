use Rattle.vd_config_lines.proofs.Spaces.{set_line}
use Rattle.vd_config_lines.proofs.lines.setconfig.Goals as goal

pub returns : goal.returns
returns g c = record {
  line = λ made acts s.
      set_line made acts c.args.space.now c.write.new.self c.args.offset c.args.bytes.now c.write.result s c.write.ensures.refused c.write.ensures.only c.write.ensures.ok c.write.ensures.err c.tell.ensures;
}
