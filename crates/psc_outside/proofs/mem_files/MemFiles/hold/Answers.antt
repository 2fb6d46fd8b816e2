use Rattle.psc_outside.proofs.Maps.{inserted}
use Rattle.psc_outside.proofs.mem_files.MemFiles.hold.Goals as goal

pub returns-clause-held : goal.returns-clause-held
returns-clause-held c = inserted c.args.self.now.contents c.insert.new.self c.args.path.now c.args.bytes.now c.in_ok-path.ensures c.in_ok-bytes.ensures c.in_ok-insert.ensures.updates
