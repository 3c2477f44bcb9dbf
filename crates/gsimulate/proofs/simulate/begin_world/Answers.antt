use Rattle.std.proofs.Common.{refl}
use Rattle.gsimulate.proofs.SimulationLemmas.{same_world}
use Rattle.gsimulate.proofs.simulate.begin_world.Goals as goal

pub returns-in-Ok : goal.returns-in-Ok
returns-in-Ok g c = λ files read. record {
  server = c.args.server;
  repo = c.args.repo;
  events = c.args.events.items;
  names = read.0.0;
  opens = read.0.1;
  reads = read.1;
  so = (c.in-Ok.ensures.1, (same_world _ _ c.in-Ok.ensures.0, refl));
}

pub returns-in-Err : goal.returns-in-Err
returns-in-Err g c = λ files read. record {
  server = c.args.server;
  repo = c.args.repo;
  events = c.args.events.items;
  names = read.0.0;
  opens = read.0.1;
  reads = read.1;
  so = c.in-Err.ensures;
}
