use Rattle.gsimulate.proofs.simulate.begin_between.Goals as goal

pub returns-in-Ok : goal.returns-in-Ok
returns-in-Ok g c = c.begin_world.ensures c.args.files.now (c.requires.ends, c.in-Ok.ensures)

pub returns-in-Err : goal.returns-in-Err
returns-in-Err g c = record {
  server = c.args.server;
  repo = c.args.repo;
  names = c.requires.ends.0;
  opens = c.requires.ends.1;
  so = c.in-Err.ensures;
}
